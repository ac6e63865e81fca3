-- Renaming keeps the number of places where a variable stands. It is said of the words alone: for some words that become
-- letters there is always a substitution that does the same.
use mathlib.Core.Path.{◌≡◌, refl, ap, sym, ◌∙◌, subst}
use mathlib.Core.List.{List, [], ◌∷◌}
use mathlib.Core.Option.{some}
use Prim.Native.Nat.{ℕ, suc, ◌+◌}
use native.Mathlib.Omega.{arith}
use native.Mathlib.Decide.{ℕ_discrete}
use Rattle.meaning.specs.Base.{is_yes, if, total}
use Rattle.meaning.specs.Ast.{TyVar, same_tyvar, Ty, Tys, var, con, arrow, nil, ◌◂◌, Pred}
use Rattle.meaning.specs.Budget.{Out, depth}
use Rattle.meaning.specs.Map.{tyvars, get}
use Rattle.meaning.specs.Subst.{Subst, or_var, look}
use Rattle.meaning.specs.Plain.{Fill, sub, subs, sub_preds}
use Rattle.meaning.specs.Generalize.{preds_of}
use Rattle.theorems.proofs.Says.{Says, Limit}
use Rattle.theorems.proofs.Maps.{get_cons_same, get_cons_other}
use Rattle.theorems.proofs.Applied.{apply_says, preds_say}
use Rattle.names.specs.Names.{Names, tyvar_of}
use Rattle.names.proofs.Distinct.{tyvar_of_same}
use Rattle.ast.specs.Table.{nil_word, tree}
use Rattle.apply.specs.Applied.{Done as Made}
use Rattle.subst.specs.Preds.{preds_of_word}
use Rattle.supers.specs.Rows.{binders_in}
use Rattle.rename.specs.Renaming.{pos_at, or_word, renamed_word, leaves, leaves_list}
use Rattle.rename.specs.Renamed.{TypeRenamed}
use Rattle.canonical.specs.Rows.{leaves_preds, Letters, RenamesRows}
use Rattle.canonical.proofs.Chosen.{no_place, place_later, place_first, place_other}

-- ## such a substitution
-- The words ls become the letters from the k-th on.
unfoldable pub letters_from : List ℕ → ℕ → List ℕ → Subst
letters_from ns k [] = []
letters_from ns k (x ∷ ls) = (tyvar_of ns x, var (tyvar_of ns (9 + k))) ∷ letters_from ns (suc k) ls

-- It does to each variable what is done to its word.
look_letters : {ns : List ℕ} → Names ns → (k : ℕ) (ls : List ℕ) (x : ℕ) → look (letters_from ns k ls) (tyvar_of ns x) ≡ var (tyvar_of ns (or_word (9 + k) x (pos_at ls x)))
unfolding letters_from pos_at or_var get
look_letters N k [] x = refl
look_letters {ns} N k (y ∷ ls) x = go (ℕ_discrete y x) (look_letters N (suc k) ls x)
  where
    go : Dec (y ≡ x) → look (letters_from ns (suc k) ls) (tyvar_of ns x) ≡ var (tyvar_of ns (or_word (9 + suc k) x (pos_at ls x)))
        → look (letters_from ns k (y ∷ ls)) (tyvar_of ns x) ≡ var (tyvar_of ns (or_word (9 + k) x (pos_at (y ∷ ls) x)))
    go (yes e) ih =
        rw e (ap (or_var (tyvar_of ns x)) (get_cons_same tyvars (tyvar_of ns x) (var (tyvar_of ns (9 + k))) (letters_from ns (suc k) ls)) ∙ ap (λ (z : ℕ). var (tyvar_of ns z)) (sym (place_first k x ls)))
    go (no n) ih =
        ap (or_var (tyvar_of ns x)) (get_cons_other tyvars (tyvar_of ns x) (tyvar_of ns y) (var (tyvar_of ns (9 + k))) (letters_from ns (suc k) ls) (λ j. n (sym (tyvar_of_same ns N x y j))))
        ∙ ih ∙ ap (λ (z : ℕ). var (tyvar_of ns z)) (place_later k x (pos_at ls x) ∙ ap (or_word (9 + k) x) (sym (place_other y x ls n)))

-- So there is one.
pub letters_there : {ns : List ℕ} (w ls : List ℕ) → Names ns → Letters ns w ls (letters_from ns 0 ls)
unfolding renamed_word
letters_there {ns} w ls N = record { at = λ x. look_letters N 0 ls x ∙ rw (no_place w x) refl }

-- It brings one variable for each.
one_leaf : (ns : List ℕ) (k : ℕ) (ls : List ℕ) (v : TyVar) → leaves (look (letters_from ns k ls) v) ≡ 1
unfolding letters_from or_var get leaves
one_leaf ns k [] v = refl
one_leaf ns k (x ∷ ls) v = go (same_tyvar v (tyvar_of ns x)) (one_leaf ns (suc k) ls v)
  where
    go : (d : Dec (v ≡ tyvar_of ns x)) → leaves (look (letters_from ns (suc k) ls) v) ≡ 1
        → leaves (or_var v (if (is_yes d) (some (var (tyvar_of ns (9 + k)))) (get tyvars v (letters_from ns (suc k) ls)))) ≡ 1
    go (yes e) ih = refl
    go (no n) ih = ih

-- ## types
mutual
  unfolding sub leaves

  -- A filling of one variable for each keeps their places.
  sub_leaves : (θ : Fill) → ((v : TyVar) → leaves (θ v) ≡ 1) → (t : Ty) → leaves (sub θ t) ≡ leaves t
  sub_leaves θ h (var x) = h x
  sub_leaves θ h (con c ts) = subs_leaves θ h ts
  sub_leaves θ h (arrow a b) = let i = sub_leaves θ h a in let j = sub_leaves θ h b in omega arith

  -- The same of a list of types.
  subs_leaves : (θ : Fill) → ((v : TyVar) → leaves (θ v) ≡ 1) → (ts : Tys) → leaves_list (subs θ ts) ≡ leaves_list ts
  subs_leaves θ h nil = refl
  subs_leaves θ h (t ◂ ts) = let i = sub_leaves θ h t in let j = subs_leaves θ h ts in omega arith

-- The same of predicates.
preds_leaves : (θ : Fill) → ((v : TyVar) → leaves (θ v) ≡ 1) → (ps : List Pred) → leaves_preds (sub_preds θ ps) ≡ leaves_preds ps
unfolding total
preds_leaves θ h [] = refl
preds_leaves θ h (p ∷ ps) = let i = sub_leaves θ h p.ty in let j = preds_leaves θ h ps in omega arith

-- ## what was renamed
-- A renamed type has as many as before.
pub type_leaves : {ns w w' ls : List ℕ} {top left m l : ℕ} (t u : ℕ) → Names ns → TypeRenamed ns w w' ls top left depth nil_word 0 t (Made u m l) → leaves (tree ns w' u) ≡ leaves (tree ns w t)
type_leaves {ns} {w} {w'} {ls} {top} {left} t u N A =
    let e = A.answer.is (letters_from ns 0 ls) (letters_there w ls N) in
    let p : tree ns w' u ≡ sub (look (letters_from ns 0 ls)) (tree ns w t) =
    subst (λ (o : Out Ty). Says (λ v. v ≡ sub (look (letters_from ns 0 ls)) (tree ns w t)) Limit o) e (apply_says depth (letters_from ns 0 ls) (tree ns w t) left) in
    ap (λ (v : Ty). leaves v) p ∙ sub_leaves (look (letters_from ns 0 ls)) (one_leaf ns 0 ls) (tree ns w t)

-- So have renamed predicates.
pub rows_leaves : {ns w w' ls bs bs' : List ℕ} {top left n l m k : ℕ} → Names ns → RenamesRows ns w w' ls bs bs' top left n l m k
    → leaves_preds (preds_of_word ns w' l) ≡ leaves_preds (preds_of (binders_in ns w bs 0 n))
rows_leaves {ns} {w} {w'} {ls} {bs} {bs'} {top} {left} {n} {l} N A =
    let e = A.is (letters_from ns 0 ls) (letters_there w ls N) in
    let p : preds_of_word ns w' l ≡ sub_preds (look (letters_from ns 0 ls)) (preds_of (binders_in ns w bs 0 n)) =
    subst (λ (o : Out (List Pred)). Says (λ qs. qs ≡ sub_preds (look (letters_from ns 0 ls)) (preds_of (binders_in ns w bs 0 n))) Limit o) e (preds_say (letters_from ns 0 ls) (preds_of (binders_in ns w bs 0 n)) left) in
    ap (λ (qs : List Pred). leaves_preds qs) p ∙ preds_leaves (look (letters_from ns 0 ls)) (one_leaf ns 0 ls) (preds_of (binders_in ns w bs 0 n))
