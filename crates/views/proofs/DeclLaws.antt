-- Declarations: what the code reads at a place is what the definition reads there.
use mathlib.Core.Path.{◌≡◌, refl, sym, ◌∙◌, subst}
use mathlib.Core.List.{List}
use Prim.Native.Nat.{ℕ, ◌+◌, ◌*◌, ◌≤◌}
use native.Mathlib.Omega.{arith}
use lib.ListN.{get_or}
use Rattle.meaning.specs.Base.{count, nth}
use Rattle.meaning.specs.Ast.{Name, named, Ty, Pred, pred}
use Rattle.meaning.specs.Reader.{got, Reader, onward, from, one_of, list_of, pair}
use Rattle.meaning.specs.File.{word, class_entry, pred_entry, instance_entry, let_entry, check_entry, decl_entry}
use Rattle.theorems.proofs.Grown.{nth_below}
use Rattle.std.specs.Prelude.{Option as Option-of, Some, None}
use Rattle.reader.specs.Verdicts.{IsField}
use Rattle.views.specs.declared.Listed.{Listed}
use Rattle.views.specs.declared.DeclNode.{DeclNode}
use Rattle.views.specs.declared.DeclNode.TheVariants.{Class, Instance, Let, Check}
use Rattle.views.specs.Numbers.{number_at, CountRead, Named, NamedAll, NamedRows}
use Rattle.views.specs.DeclViews.{ListRead, Pairs, Preds, EntryRead, IsDecl}
use Rattle.views.proofs.Onward.{read_is, by_number, Moves, Went, went, one_of_moves, variable_moves, word_moves, tag_chose, tag_below, tag_there}
use Rattle.views.proofs.Listings.{numbers_went, row_reader, row_moves, rows_went}

-- ## the lists
pub pairs_went : {A D : Type 0} (bytes : List ℕ) (ns : List Name) (xs : List A) (l : Listed) (f : List (Name × A) → Reader D) (p q : ℕ) (b : D) (next : ℕ) (rest : List ℕ)
    → l.at ≡ p + 2 → CountRead bytes p l.count → p + 2 + 4 * l.count ≡ q → onward (list_of (pair (word ns) (one_of xs)) p (from p bytes)) f ≡ got b next rest
    → Went (Pairs bytes ns xs l) f bytes q b next rest
unfolding pair row_reader
pairs_went {A = A} bytes ns xs l f p q b next rest h c i e =
    let w = rows_went bytes ns xs (λ (u : Name × A). u.0) (λ (u : Name × A). u.1) (λ n x. (n, x)) (λ n x. refl) (λ n x. refl) (word ns) (word_moves ns bytes) f p q l.count b next rest c i e in
    record { value = w.value; such = subst (λ m. NamedRows bytes ns xs (λ (u : Name × A). u.0) (λ (u : Name × A). u.1) m l.count w.value) (sym h) w.such; then = w.then }

pub preds_went : {D : Type 0} (bytes : List ℕ) (ns : List Name) (ts : List Ty) (l : Listed) (f : List Pred → Reader D) (p q : ℕ) (b : D) (next : ℕ) (rest : List ℕ)
    → l.at ≡ p + 2 → CountRead bytes p l.count → p + 2 + 4 * l.count ≡ q → onward (list_of (pred_entry ns ts) p (from p bytes)) f ≡ got b next rest
    → Went (Preds bytes ns ts l) f bytes q b next rest
unfolding pred_entry row_reader
preds_went bytes ns ts l f p q b next rest h c i e =
    let w = rows_went bytes ns ts (λ (u : Pred). u.class) (λ (u : Pred). u.ty) pred (λ n x. refl) (λ n x. refl) (one_of ns) (one_of_moves ns bytes) f p q l.count b next rest c i e in
    record { value = w.value; such = subst (λ m. NamedRows bytes ns ts (λ (u : Pred). u.class) (λ (u : Pred). u.ty) m l.count w.value) (sym h) w.such; then = w.then }

-- A predicate alone.
pred_moves : (bytes : List ℕ) (ns : List Name) (ts : List Ty) → Moves bytes 4 (λ p u. (Named ns (number_at bytes p) u.class) × (Named ts (number_at bytes (p + 2)) u.ty)) (pred_entry ns ts)
unfolding pred_entry row_reader
pred_moves bytes ns ts = row_moves bytes ns ts (λ (u : Pred). u.class) (λ (u : Pred). u.ty) pred (λ n x. refl) (λ n x. refl) (one_of ns) (one_of_moves ns bytes)

-- ## classes and instances
module _ (bytes : List ℕ) (at : ℕ) where
  pub class_is : (c a : ℕ) (s g d : Listed) → c ≡ number_at bytes at → a ≡ number_at bytes (at + 2) → ListRead bytes (at + 4) s → ListRead bytes (s.at + 2 * s.count) g
      → ListRead bytes (g.at + 4 * g.count) d → EntryRead class_entry bytes at (Some (Class c a s g d))
  unfolding class_entry
  class_is c a s g d ec ea ls lg ld = record {
    is = λ ns ts xs x next rest e.
        let n = went (one_of_moves ns bytes) _ at (at + 2) x next rest refl e in
        let v = went (variable_moves ns bytes) _ (at + 2) (at + 4) x next rest (omega arith) n.then in
        let p = numbers_went bytes ns _ (at + 4) (s.at + 2 * s.count) s.count x next rest ls.counted (let y = ls.first in omega arith) v.then in
        let q = pairs_went bytes ns ts g _ (s.at + 2 * s.count) (g.at + 4 * g.count) x next rest lg.first lg.counted (let y = lg.first in omega arith) p.then in
        let r = pairs_went bytes ns xs d _ (g.at + 4 * g.count) _ x next rest ld.first ld.counted refl q.then in
        record {
          decl = record { name = n.value; tyvar = named v.value; supers = p.value; sigs = q.value; defaults = r.value };
          variable = v.value;
          is = read_is _ x _ next _ rest r.then;
          tyvar = refl;
          name_so = by_number ec n.such;
          variable_so = by_number ea v.such;
          supers_so = subst (λ m. NamedAll bytes ns m s.count p.value) (sym ls.first) p.such;
          sigs_so = q.such;
          defaults_so = r.such;
        };
  }

  pub instance_is : (x : Listed) (c t : ℕ) (m : Listed) → ListRead bytes at x → c ≡ number_at bytes (x.at + 4 * x.count)
      → t ≡ number_at bytes (x.at + 4 * x.count + 2) → ListRead bytes (x.at + 4 * x.count + 4) m → EntryRead instance_entry bytes at (Some (Instance x c t m))
  unfolding instance_entry
  instance_is x c t m lx ec et lm = record {
    is = λ ns ts xs d next rest e.
        let p = preds_went bytes ns ts x _ at (x.at + 4 * x.count) d next rest lx.first lx.counted (let y = lx.first in omega arith) e in
        let h = went (pred_moves bytes ns ts) _ (x.at + 4 * x.count) (x.at + 4 * x.count + 4) d next rest refl p.then in
        let r = pairs_went bytes ns xs m _ (x.at + 4 * x.count + 4) _ d next rest lm.first lm.counted refl h.then in
        record {
          decl = record { context = p.value; head = h.value; methods = r.value };
          is = read_is _ d _ next _ rest r.then;
          context_so = p.such;
          class_so = by_number ec h.such.0;
          type_so = by_number et h.such.1;
          methods_so = r.such;
        };
  }

-- ## by the tag
module _ (bytes : List ℕ) (at tag : ℕ) (f : IsField 1 bytes at (Some tag)) where
  pub decl_class : (r : Option-of DeclNode) → tag ≡ 0 → EntryRead class_entry bytes (at + 1) r → EntryRead decl_entry bytes at r
  unfolding decl_entry nth
  decl_class r z g = record { is = λ ns ts es d next rest e. g.is ns ts es d next rest (tag_chose bytes _ at d next rest e (class_entry ns ts es) tag f (rw z refl)) }

  pub decl_instance : (r : Option-of DeclNode) → tag ≡ 1 → EntryRead instance_entry bytes (at + 1) r → EntryRead decl_entry bytes at r
  unfolding decl_entry nth
  decl_instance r z g = record { is = λ ns ts es d next rest e. g.is ns ts es d next rest (tag_chose bytes _ at d next rest e (instance_entry ns ts es) tag f (rw z refl)) }

  pub decl_let : (x b : ℕ) → tag ≡ 2 → x ≡ number_at bytes (at + 1) → b ≡ number_at bytes (at + 3) → EntryRead decl_entry bytes at (Some (Let x b))
  unfolding decl_entry let_entry nth
  decl_let x b z h j = record {
    is = λ ns ts es d next rest e.
        let w = went (word_moves ns bytes) _ (at + 1) (at + 3) d next rest (omega arith) (tag_chose bytes _ at d next rest e (let_entry ns es) tag f (rw z refl)) in
        let l = went (one_of_moves es bytes) _ (at + 3) (at + 3 + 2) d next rest refl w.then in
        record { name = w.value; bound = l.value; name_so = by_number h w.such; bound_so = by_number j l.such; is = read_is _ d _ next _ rest l.then };
  }

  pub decl_check : (b : ℕ) → tag ≡ 3 → b ≡ number_at bytes (at + 1) → EntryRead decl_entry bytes at (Some (Check b))
  unfolding decl_entry check_entry nth
  decl_check b z h = record {
    is = λ ns ts es d next rest e.
        let w = went (one_of_moves es bytes) _ (at + 1) (at + 1 + 2) d next rest refl (tag_chose bytes _ at d next rest e (check_entry es) tag f (rw z refl)) in
        record { checked = w.value; checked_so = by_number h w.such; is = read_is _ d _ next _ rest w.then };
  }

  -- The definition knows no other tag.
  pub decl_unknown : 4 ≤ tag → EntryRead decl_entry bytes at None
  unfolding decl_entry count
  decl_unknown z = record { is = λ ns ts es d next rest e. let b = tag_below bytes _ at d next rest e tag f in omega (arith, b, z) }

pub decl_cut : (bytes : List ℕ) (at : ℕ) → IsField 1 bytes at None → EntryRead decl_entry bytes at None
unfolding decl_entry
decl_cut bytes at f = record { is = λ ns ts es d next rest e. tag_there bytes _ at d next rest e f }

-- The index has the place of declaration i.
pub decl_placed : (bytes ix : List ℕ) (i p : ℕ) (r : Option-of DeclNode) → p ≡ get_or ix (10_240 + i) 0 → EntryRead decl_entry bytes p r → IsDecl bytes ix i r
decl_placed bytes ix i p r e g = record {
  is = λ ns ts es ds at end d h n.
      (subst (λ q. EntryRead decl_entry bytes q r) (e ∙ h.word i (nth_below ds i d n)) g).is ns ts es d _ _ (h.item i d n);
}
