-- Schemes that are modest and of small classes stay so under a substitution, and what holds of an entry holds as long as the
-- table stands.
use mathlib.Core.Path.{◌≡◌, refl}
use mathlib.Core.List.{List, [], ◌∷◌}
use mathlib.Core.Option.{some}
use Prim.Native.Nat.{ℕ, ◌<◌, ◌≤◌}
use native.Mathlib.Omega.{arith}
use Rattle.meaning.specs.Base.{null, count, total}
use Rattle.meaning.specs.Ast.{Ty, Tys, var, con, arrow, nil, ◌◂◌, size, sizes, Pred, pred, Qual, qual, Scheme, forall}
use Rattle.meaning.specs.Budget.{depth}
use Rattle.meaning.specs.Subst.{Subst, look, filtered, apply_type, apply_preds, apply_qual, ftv_scheme, apply_scheme}
use Rattle.meaning.specs.Plain.{Fill, sub, subs, sub_preds}
use Rattle.meaning.specs.Infer.{mono}
use Rattle.meaning.specs.Declare.{pred_nodes}
use Rattle.meaning.specs.Session.{scheme_nodes}
use Rattle.theorems.proofs.Says.{Says, Limit, and_then, if_says}
use Rattle.theorems.proofs.Applied.{apply_says, preds_say}
use Rattle.ast.specs.Table.{cell_of, tree, Table, Node, Kept}
use Rattle.ast.specs.declared.Cell.{Cell}
use Rattle.ast.specs.declared.Cell.TheVariants.{Cons}
use Rattle.ast.proofs.Laws.{kept_tree, node_more, low_node}
use Rattle.names.specs.Names.{Names, name_of}
use Rattle.names.proofs.Distinct.{name_of_same}
use Rattle.vars.proofs.VarLaws.{kept_vars, low_vars}
use Rattle.subst.specs.Schemes.{scheme_of_word}
use Rattle.subst.specs.Preds.{class_at, preds_of_word}
use Rattle.subst.proofs.PredLaws.{kept_preds, low_preds, preds_cons}
use Rattle.scope.specs.Scope.{local_entry, scheme_in, Small, Smalls, no_preds, one_more, Fine, Held, EntryIn}
use Rattle.scope.specs.declared.Entry.{Entry}
use Rattle.scope.specs.declared.Entry.TheVariants.{Nothing, Closed, Local}

-- ## Under a substitution

-- No type is empty.
some_node : (t : Ty) → 1 ≤ size t
unfolding size
some_node (var x) = omega arith
some_node (con c ts) = omega arith
some_node (arrow a b) = omega arith

mutual
  unfolding sub size

  -- No type gets smaller.
  sub_size : (θ : Fill) (t : Ty) → size t ≤ size (sub θ t)
  sub_size θ (var x) = some_node (θ x)
  sub_size θ (con c ts) = let h = subs_size θ ts in omega arith
  sub_size θ (arrow a b) = let h = sub_size θ a in let k = sub_size θ b in omega arith

  -- Nor do types of a list.
  subs_size : (θ : Fill) (ts : Tys) → sizes ts ≤ sizes (subs θ ts)
  subs_size θ nil = omega arith
  subs_size θ (t ◂ ts) = let h = sub_size θ t in let k = subs_size θ ts in omega arith

-- Nor those of predicates.
sub_nodes : (θ : Fill) (ps : List Pred) → pred_nodes ps ≤ pred_nodes (sub_preds θ ps)
unfolding pred_nodes total
sub_nodes θ [] = omega arith
sub_nodes θ (p ∷ ps) = let h = sub_size θ p.ty in let k = sub_nodes θ ps in omega arith

-- The classes are the same.
sub_small : {ns : List ℕ} (θ : Fill) (ps : List Pred) → Smalls ns ps → Smalls ns (sub_preds θ ps)
sub_small θ [] s = no_preds
sub_small θ (p ∷ ps) (one_more a s) = one_more a (sub_small θ ps s)

-- So a scheme is fine with its predicates and its type filled.
sub_fine : {ns : List ℕ} (θ : Fill) (c : Scheme) → Fine ns c → Fine ns (forall c.vars (qual (sub_preds θ c.qual.preds) (sub θ c.qual.ty)))
unfolding scheme_nodes
sub_fine θ c F =
    let m = F.modest in let h = sub_nodes θ c.qual.preds in let k = sub_size θ c.qual.ty in
    record { modest = omega arith; small = sub_small θ c.qual.preds F.small }

-- A qualified type is filled, or it stops at a limit.
qual_says : (s : Subst) (q : Qual) (n : ℕ) → Says (λ r. r ≡ qual (sub_preds (look s) q.preds) (sub (look s) q.ty)) Limit (apply_qual s q n)
unfolding apply_qual
qual_says s q n =
    and_then _ _ _ (apply_preds s q.preds n) _ (preds_say s q.preds n) λ ps e m.
    and_then _ _ _ (apply_type s q.ty m) _ (apply_says depth s q.ty m) λ u f l. rw (e, f)

-- What `apply_scheme` answers is fine where the scheme was.
pub apply_fine : {ns : List ℕ} (s : Subst) (c : Scheme) (n : ℕ) → Fine ns c → Says (λ d. Fine ns d) Limit (apply_scheme s c n)
unfolding apply_scheme
apply_fine s c n F =
    if_says _ _ (null (ftv_scheme c)) _ _ n (λ e. F) (λ e.
    and_then _ _ _ (apply_qual (filtered c.vars s) c.qual n) _ (qual_says (filtered c.vars s) c.qual n) λ q f m. rw f (sub_fine (look (filtered c.vars s)) c F))

-- ## Small classes

-- The number of a small class's name is small itself.
pub small_number : (ns : List ℕ) → Names ns → (i : ℕ) → Small ns (name_of ns i) → i < 65536
small_number ns N i s = rw (name_of_same ns N i s.number s.is) s.below

-- The class of the first predicate is small.
pub small_head : {ns : List ℕ} (p : Pred) (ps : List Pred) → Smalls ns (p ∷ ps) → Small ns p.class
small_head p ps (one_more a s) = a

-- And those of the others.
pub small_tail : {ns : List ℕ} (p : Pred) (ps : List Pred) → Smalls ns (p ∷ ps) → Smalls ns ps
small_tail p ps (one_more a s) = s

-- The same of a list's word: its first class and the rest of it.
pub small_cell : {w : List ℕ} {top l a b : ℕ} {r : Cell} (ns : List ℕ) → Names ns → Node w top l → r ≡ cell_of w l → r ≡ Cons a b → Smalls ns (preds_of_word ns w l) → (class_at w l < 65536) × Smalls ns (preds_of_word ns w b)
small_cell {w} {l = l} {a = a} {b = b} ns M N e k s =
    let z : Smalls ns (pred (name_of ns (class_at w l)) (tree ns w a) ∷ preds_of_word ns w b) = rw (preds_cons ns N e k) at s in
    (small_number ns M (class_at w l) (small_head _ _ z), small_tail _ _ z)

-- ## While the table stands

-- A scheme's words stand for the same scheme.
pub kept_scheme : {w w' : List ℕ} {top vs ps t : ℕ} (ns : List ℕ) → Kept w w' top → Node w top vs → Node w top ps → Node w top t → scheme_of_word ns w' vs ps t ≡ scheme_of_word ns w vs ps t
kept_scheme ns K A B C = rw (kept_vars ns K A, kept_preds ns K B, kept_tree ns K C)

-- They are words of a larger table.
pub held_kept : {w w' : List ℕ} {top top' vs ps t : ℕ} (ns : List ℕ) → Kept w w' top → Table w' top' → top ≤ top' → Held ns w top vs ps t → Held ns w' top' vs ps t
held_kept ns K T h H = record {
  vars = node_more T h H.vars;
  preds = node_more T h H.preds;
  type = node_more T h H.type;
  fine = rw (kept_scheme ns K H.vars H.preds H.type) H.fine;
}

-- An entry holds.
pub entry_kept : {w w' : List ℕ} {top top' : ℕ} (ns : List ℕ) (e : Entry) → Kept w w' top → Table w' top' → top ≤ top' → EntryIn ns w top e → EntryIn ns w' top' e
entry_kept ns Nothing K T h E = tt
entry_kept ns (Closed s) K T h E = let H = E.held in
    record { held = held_kept ns K T h H; closed = rw (kept_scheme ns K H.vars H.preds H.type) E.closed }
entry_kept ns (Local s) K T h E = held_kept ns K T h E

-- It stands for the same scheme.
pub scheme_kept : {w w' : List ℕ} {top : ℕ} (ns : List ℕ) (e : Entry) → Kept w w' top → EntryIn ns w top e → scheme_in ns w' e ≡ scheme_in ns w e
scheme_kept ns Nothing K E = refl
scheme_kept ns (Closed s) K E = rw (kept_scheme ns K E.held.vars E.held.preds E.held.type)
scheme_kept ns (Local s) K E = rw (kept_scheme ns K E.vars E.preds E.type)

-- ## The scheme of a type alone

-- No variables and no predicates.
pub mono_is : (ns w : List ℕ) (t : ℕ) → scheme_of_word ns w 0 0 t ≡ mono (tree ns w t)
mono_is ns w t = rw (low_vars ns w 0 (omega arith), low_preds ns w 0 (omega arith))

-- What an entry of the three words has.
pub mono_in : (ns w : List ℕ) (t : ℕ) → scheme_in ns w (local_entry 0 0 t) ≡ some (mono (tree ns w t))
mono_in ns w t = rw (mono_is ns w t)

-- It is fine.
pub mono_fine : (ns : List ℕ) (u : Ty) → Fine ns (mono u)
unfolding count
mono_fine ns u = record { modest = omega arith; small = no_preds }

-- Its words are those of the type and twice of the empty list.
pub mono_held : {w : List ℕ} {top t : ℕ} (ns : List ℕ) → Node w top t → Held ns w top 0 0 t
mono_held {w = w} {t = t} ns N =
    record { vars = low_node N.table (omega arith); preds = low_node N.table (omega arith); type = N; fine = rw (mono_is ns w t) (mono_fine ns (tree ns w t)) }
