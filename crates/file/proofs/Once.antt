-- Corollaries: two answers that the statement allows for the same bytes are equal; what is accepted names only smaller
-- nodes; a refusal's offset lies in the file or at its end.
use mathlib.Core.Path.{◌≡◌, refl, sym, ap, ◌∙◌}
use mathlib.Core.List.{List, []}
use mathlib.Core.Option.{some}
use Prim.Native.Nat.{ℕ, suc, ◌+◌}
use native.Mathlib.Omega.{arith}
use lib.ListN.{get_or}
use Rattle.meaning.specs.Base.{count, nth}
use Rattle.meaning.specs.Ast.{Name}
use Rattle.meaning.specs.Errors as E
use Rattle.meaning.specs.Reader.{Read, got, bad}
use Rattle.meaning.specs.File as M
use Rattle.theorems.proofs.Grown.{nth_below}
use Rattle.theorems.proofs.Readers.{UpTo}
use Rattle.theorems.proofs.FileNodes.{Good as Good-File}
use Rattle.theorems.proofs.FileRead.{refused_within, accepted_good}
use Rattle.errors.specs.Refusals.{refusal_of}
use Rattle.errors.specs.declared.Refusal.{Refusal}
use Rattle.errors.specs.declared.Refusal.TheVariants.{Format, Limit, Reserved, Redeclared, Room, Steps, Depth, Output, UnboundVariable, UnificationFailure, OccursCheck, ConMismatch, ArityMismatch, NoInstance, Ambiguous, DuplicateInstance, UnknownClass, UnknownMethod, MissingSuperclass, MissingMethod}
use Rattle.names.specs.Names.{name_of}
use Rattle.std.specs.Prelude.{Result, Ok, Err}
use Rattle.nodes.specs.declared.Counts.{Counts}
use Rattle.file.specs.Reading.{IsName, IsPlace, Reads}

-- A refusal of a file: one of 1 to 3, with an offset.
data OfFile (e : Refusal) : Type 0 where
  breaks : (k : ℕ) → e ≡ Format k → OfFile e
  exceeds : (k : ℕ) → e ≡ Limit k → OfFile e
  reserves : (k : ℕ) → e ≡ Reserved k → OfFile e

of_file : (n : ℕ) (e : Refusal) → UpTo n (refusal_of [] [] e) → OfFile e
of_file n (Format k) h = breaks k refl
of_file n (Limit k) h = exceeds k refl
of_file n (Reserved k) h = reserves k refl
of_file n Redeclared h = absurd h
of_file n Room h = absurd h
of_file n Steps h = absurd h
of_file n Depth h = absurd h
of_file n Output h = absurd h
of_file n (UnboundVariable x) h = absurd h
of_file n (UnificationFailure a b) h = absurd h
of_file n (OccursCheck v t) h = absurd h
of_file n (ConMismatch c d) h = absurd h
of_file n (ArityMismatch c i j) h = absurd h
of_file n (NoInstance c t) h = absurd h
of_file n (Ambiguous c t) h = absurd h
of_file n (DuplicateInstance c t) h = absurd h
of_file n (UnknownClass c) h = absurd h
of_file n (UnknownMethod m) h = absurd h
of_file n (MissingSuperclass c s) h = absurd h
of_file n (MissingMethod c t m) h = absurd h

-- Two such refusals that say the same are equal.
same_refusal : (d e : Refusal) → OfFile d → OfFile e → refusal_of [] [] d ≡ refusal_of [] [] e → d ≡ e
same_refusal d e (breaks j p) (breaks k q) h = p ∙ ap Format (go (ap (refusal_of [] []) (sym p) ∙ h ∙ ap (refusal_of [] []) q)) ∙ sym q
  where
    go : E.format j ≡ E.format k → j ≡ k
    go h = cc
same_refusal d e (breaks j p) (exceeds k q) h = absurd (go (ap (refusal_of [] []) (sym p) ∙ h ∙ ap (refusal_of [] []) q))
  where
    go : E.format j ≡ E.limit k → ⊥
    go h = let z : ◌≡◌ {A = ℕ} 0 1 = cc in omega arith
same_refusal d e (breaks j p) (reserves k q) h = absurd (go (ap (refusal_of [] []) (sym p) ∙ h ∙ ap (refusal_of [] []) q))
  where
    go : E.format j ≡ E.reserved k → ⊥
    go h = let z : ◌≡◌ {A = ℕ} 0 1 = cc in omega arith
same_refusal d e (exceeds j p) (breaks k q) h = absurd (go (ap (refusal_of [] []) (sym p) ∙ h ∙ ap (refusal_of [] []) q))
  where
    go : E.limit j ≡ E.format k → ⊥
    go h = let z : ◌≡◌ {A = ℕ} 0 1 = cc in omega arith
same_refusal d e (exceeds j p) (exceeds k q) h = p ∙ ap Limit (go (ap (refusal_of [] []) (sym p) ∙ h ∙ ap (refusal_of [] []) q)) ∙ sym q
  where
    go : E.limit j ≡ E.limit k → j ≡ k
    go h = cc
same_refusal d e (exceeds j p) (reserves k q) h = absurd (go (ap (refusal_of [] []) (sym p) ∙ h ∙ ap (refusal_of [] []) q))
  where
    go : E.limit j ≡ E.reserved k → ⊥
    go h = let z : ◌≡◌ {A = ℕ} 0 1 = cc in omega arith
same_refusal d e (reserves j p) (breaks k q) h = absurd (go (ap (refusal_of [] []) (sym p) ∙ h ∙ ap (refusal_of [] []) q))
  where
    go : E.reserved j ≡ E.format k → ⊥
    go h = let z : ◌≡◌ {A = ℕ} 0 1 = cc in omega arith
same_refusal d e (reserves j p) (exceeds k q) h = absurd (go (ap (refusal_of [] []) (sym p) ∙ h ∙ ap (refusal_of [] []) q))
  where
    go : E.reserved j ≡ E.limit k → ⊥
    go h = let z : ◌≡◌ {A = ℕ} 0 1 = cc in omega arith
same_refusal d e (reserves j p) (reserves k q) h = p ∙ ap Reserved (go (ap (refusal_of [] []) (sym p) ∙ h ∙ ap (refusal_of [] []) q)) ∙ sym q
  where
    go : E.reserved j ≡ E.reserved k → j ≡ k
    go h = cc

-- What is read, is read once.
same_file : (f g : M.File) (m n : ℕ) (bs cs : List ℕ) → got f m bs ≡ got g n cs → f ≡ g
same_file f g m n bs cs e = cc

same_bad : (x y : E.Refusal) → ◌≡◌ {A = Read M.File} (bad x) (bad y) → x ≡ y
same_bad x y e = cc

never : (f : M.File) (n : ℕ) (bs : List ℕ) (x : E.Refusal) → got f n bs ≡ bad x → ⊥
never f n bs x e = let z : ◌≡◌ {A = ℕ} 0 1 = cc in omega arith

-- Two answers for the same bytes are equal, whatever table and index each was given.
counts_same : (m n : Counts) → m.names ≡ n.names → m.types ≡ n.types → m.exprs ≡ n.exprs → m.decls ≡ n.decls → m ≡ n
counts_same m n p q u v =
    ap (λ (a : ℕ). record { names = a; types = m.types; exprs = m.exprs; decls = m.decls }) p
    ∙ ap (λ (b : ℕ). record { names = n.names; types = b; exprs = m.exprs; decls = m.decls }) q
    ∙ ap (λ (c : ℕ). record { names = n.names; types = n.types; exprs = c; decls = m.decls }) u
    ∙ ap (λ (d : ℕ). record { names = n.names; types = n.types; exprs = n.exprs; decls = d }) v

pub reads_once : (bytes ns ix ns' ix' : List ℕ) (r r' : Result Counts Refusal) → Reads bytes ns ix r → Reads bytes ns' ix' r' → r ≡ r'
reads_once bytes ns ix ns' ix' (Ok m) (Ok n) g h =
    let e = same_file g.is.0 h.is.0 _ _ _ _ (sym g.is.1 ∙ h.is.1) in
    let p : m.names ≡ n.names = sym g.is.2.names_many ∙ ap (λ f. count f.names) e ∙ h.is.2.names_many in
    let q : m.types ≡ n.types = sym g.is.2.types_many ∙ ap (λ f. count f.types) e ∙ h.is.2.types_many in
    let u : m.exprs ≡ n.exprs = sym g.is.2.exprs_many ∙ ap (λ f. count f.exprs) e ∙ h.is.2.exprs_many in
    let v : m.decls ≡ n.decls = sym g.is.2.decls_many ∙ ap (λ f. count f.decls) e ∙ h.is.2.decls_many in
    ap Ok (counts_same m n p q u v)
reads_once bytes ns ix ns' ix' (Ok m) (Err e) g h = absurd (never g.is.0 _ _ _ (sym g.is.1 ∙ h.is))
reads_once bytes ns ix ns' ix' (Err e) (Ok m) g h = absurd (never h.is.0 _ _ _ (sym h.is.1 ∙ g.is))
reads_once bytes ns ix ns' ix' (Err d) (Err e) g h =
    ap Err (same_refusal d e (of_file _ d (refused_within bytes _ g.is)) (of_file _ e (refused_within bytes _ h.is)) (same_bad _ _ (sym g.is ∙ h.is)))

-- Both tables have the same name for each number of the file.
pub same_names : (bytes ns ix ns' ix' : List ℕ) (m n : Counts) (g : Reads bytes ns ix (Ok m)) (h : Reads bytes ns' ix' (Ok n))
    (i : ℕ) (x : Name) → nth g.is.0.names i ≡ some x → name_of ns (get_or ix i 0) ≡ name_of ns' (get_or ix' i 0)
same_names bytes ns ix ns' ix' m n g h i x e =
    let f = same_file g.is.0 h.is.0 _ _ _ _ (sym g.is.1 ∙ h.is.1) in
    (g.is.2.names i x e).named ∙ sym (h.is.2.names i x (ap (λ (k : M.File). nth k.names i) (sym f) ∙ e)).named

-- No two names of an accepted file are equal, and each of its nodes names only nodes of smaller number.
pub reads_good : (bytes ns ix : List ℕ) (m : Counts) (g : Reads bytes ns ix (Ok m)) → Good-File g.is.0
reads_good bytes ns ix m g = accepted_good bytes g.is.0 _ _ g.is.1

-- The offset of a refusal lies in the file or at its end.
pub refuses_within : (bytes ns ix : List ℕ) (e : Refusal) → Reads bytes ns ix (Err e) → UpTo (count bytes) (refusal_of [] [] e)
refuses_within bytes ns ix e g = refused_within bytes _ g.is

-- The word of the index is the number.
pub name_word : (ix : List ℕ) (i r : ℕ) → r ≡ get_or ix (0 + i) 0 → IsName ix i r
name_word ix i r h = record {
  word = e;
  is = λ bytes ns f a b c d g x h. ap (λ n. name_of ns n) e ∙ (g.names i x h).named;
  small = λ bytes ns f a b c d g x h. rw e (g.names i x h).number;
}
  where
    first : 0 + i ≡ i
    first = omega arith

    e : r ≡ get_or ix i 0
    e = h ∙ ap (λ n. get_or ix n 0) first

-- The word of the index is the place.
pub place_word : (ix : List ℕ) (i r : ℕ) → r ≡ get_or ix (10_752 + i) 0 → IsPlace ix i r
place_word ix i r e = record {
  is = λ bytes ns f a b c d g x h. let P = g.names_at in
      (P.begins (suc i), rw (e ∙ P.word i (nth_below f.names i x h)) (P.item i x h));
}
