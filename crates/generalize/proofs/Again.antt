-- A canonical renaming does nothing to what it has renamed, with the same steps and at the same depth.
use mathlib.Core.Path.{◌≡◌, refl, ap, sym, ◌∙◌, subst}
use mathlib.Core.Bool.{Bool, true, false}
use mathlib.Core.List.{List, [], ◌∷◌}
use mathlib.Core.Option.{Option, none, some}
use Prim.Native.Nat.{ℕ, zero, suc}
use Rattle.meaning.specs.Ast.{TyVar, letter, Ty, Tys, var, con, arrow, nil, ◌◂◌, Core, Binder}
use Rattle.meaning.specs.Budget.{Out, done, Steps, step, depth}
use Rattle.meaning.specs.Map.{tyvars, get, elem}
use Rattle.meaning.specs.Subst.{Subst, look, each, apply_node, apply_in, apply_pred, apply_preds_pending}
use Rattle.meaning.specs.Plain.{Fill, sub, subs, sub_pred}
use Rattle.meaning.specs.Cores.{internal_before, sort_by, canonical_renamer, as_subst, apply_core_node, apply_core_in, apply_subst_to_core}
use Rattle.meaning.specs.Generalize.{abstracted}
use Rattle.theorems.proofs.Says.{Says, Limit, and_then}
use Rattle.theorems.proofs.Applied.{pred_says}
use Rattle.theorems.proofs.FreeVars.{elem-sort_by}
use Rattle.theorems.proofs.MadeGeneralized.{MadeVars}
use Rattle.canonical.proofs.Chosen.{or_name, look_as, absent}
use Rattle.generalize.specs.Naming.{Stays}
use Rattle.canonical.proofs.NewNames.{letter_named, Named, by_letter, by_itself, renamer_names}

-- ## new names stay
-- Every variable does so by a canonical renaming of made ones.
pub canonical_stays : (vs : List TyVar) → MadeVars vs → (x : TyVar) → Stays (as_subst (canonical_renamer vs)) x
unfolding canonical_renamer
canonical_stays vs m x = go (get tyvars x (canonical_renamer vs)) refl
  where
    gone : (y : TyVar) → elem tyvars y (sort_by internal_before vs) ≡ false → look (as_subst (canonical_renamer vs)) y ≡ var y
    gone y e = look_as y (canonical_renamer vs) ∙ ap (λ (o : Option TyVar). var (or_name y o)) (absent y 0 (sort_by internal_before vs) e)

    no_letter : (j : ℕ) (b : Bool) → elem tyvars (letter j) (sort_by internal_before vs) ≡ b → elem tyvars (letter j) (sort_by internal_before vs) ≡ false
    no_letter j true e = absurd (letter_named j (m (letter j) (sym (elem-sort_by internal_before (letter j) vs) ∙ e)))
    no_letter j false e = e

    new : (y : TyVar) → get tyvars x (canonical_renamer vs) ≡ some y → look (as_subst (canonical_renamer vs)) x ≡ var y
    new y e = look_as x (canonical_renamer vs) ∙ ap (λ (o : Option TyVar). var (or_name x o)) e

    named : (y : TyVar) → get tyvars x (canonical_renamer vs) ≡ some y → Named 0 (sort_by internal_before vs) x y → Stays (as_subst (canonical_renamer vs)) x
    named y e (by_letter j a b c d) =
        record { name = y; is = new y e; stays = subst (λ (z : TyVar). look (as_subst (canonical_renamer vs)) z ≡ var z) (sym c) (gone (letter j) (no_letter j (elem tyvars (letter j) (sort_by internal_before vs)) refl)) }
    named y e (by_itself c d) = record { name = y; is = new y e; stays = ap (look (as_subst (canonical_renamer vs))) c ∙ new y e }

    go : (o : Option TyVar) → get tyvars x (canonical_renamer vs) ≡ o → Stays (as_subst (canonical_renamer vs)) x
    go none e = let f : look (as_subst (canonical_renamer vs)) x ≡ var x = look_as x (canonical_renamer vs) ∙ ap (λ (o : Option TyVar). var (or_name x o)) e in record { name = x; is = f; stays = f }
    go (some y) e = named y e (renamer_names 0 (sort_by internal_before vs) x y e)

-- ## types
-- Each type of a list.
each_again : (θ : Fill) (f : Ty → Steps Ty) → ((t : Ty) → f (sub θ t) ≡ f t) → (ts : Tys) → each f (subs θ ts) ≡ each f ts
unfolding each sub
each_again θ f h nil = refl
each_again θ f h (t ◂ ts) = rw (h t, each_again θ f h ts) refl

-- A type at a node.
node_again : (s : Subst) (f : Ty → Steps Ty) → ((x : TyVar) → Stays s x) → ((t : Ty) → f (sub (look s) t) ≡ f t) → (t : Ty) → apply_node f s (sub (look s) t) ≡ apply_node f s t
unfolding apply_node sub
node_again s f S h (var x) = rw ((S x).is, (S x).stays) refl
node_again s f S h (con c ts) = rw (each_again (look s) f h ts) refl
node_again s f S h (arrow a b) = rw (h a, h b) refl

-- A renamed type is renamed as the type itself.
pub type_again : (d : ℕ) (s : Subst) → ((x : TyVar) → Stays s x) → (t : Ty) → apply_in d s (sub (look s) t) ≡ apply_in d s t
unfolding apply_in
type_again zero s S t = refl
type_again (suc d) s S t = ap step (node_again s (λ u. apply_in d s u) S (type_again d s S) t)

-- ## binders
-- Binders whose types are filled.
unfoldable pub sub_pending : Fill → List Binder → List Binder
sub_pending θ [] = []
sub_pending θ (b ∷ bs) = (b.0, sub_pred θ b.1) ∷ sub_pending θ bs

-- What a substitution makes of binders.
pub pending_says : (s : Subst) (bs : List Binder) (n : ℕ) → Says (λ cs. cs ≡ sub_pending (look s) bs) Limit (apply_preds_pending s bs n)
unfolding apply_preds_pending sub_pending
pending_says s [] n = refl
pending_says s (b ∷ bs) n =
    and_then _ _ _ (apply_pred s b.1 n) _ (pred_says s b.1 n) λ q e m.
    and_then _ _ _ (apply_preds_pending s bs m) _ (pending_says s bs m) λ qs f k. rw (e, f) refl

-- Renamed binders are renamed as the binders themselves.
pending_again : (s : Subst) → ((x : TyVar) → Stays s x) → (bs : List Binder) → apply_preds_pending s (sub_pending (look s) bs) ≡ apply_preds_pending s bs
unfolding apply_preds_pending sub_pending apply_pred
pending_again s S [] = refl
pending_again s S (b ∷ bs) = rw (type_again depth s S b.1.ty, pending_again s S bs) refl

-- ## a term over them
-- So is a term over them.
over_again : (s : Subst) → ((x : TyVar) → Stays s x) → (bs : List Binder) (c : Core) (m : ℕ) → apply_subst_to_core s (abstracted (sub_pending (look s) bs) c) m ≡ apply_subst_to_core s (abstracted bs c) m
unfolding abstracted sub_pending apply_core_in apply_core_node
over_again s S [] c m = refl
over_again s S (b ∷ bs) c m = rw (pending_again s S (b ∷ bs)) refl

-- So to rename a term over renamed binders is to rename it over the binders.
pub renamed_again : (bs cs : List Binder) (n l : ℕ) (s : Subst) → ((x : TyVar) → Stays s x) → apply_preds_pending s bs n ≡ done cs l → (c : Core) (m : ℕ)
    → apply_subst_to_core s (abstracted cs c) m ≡ apply_subst_to_core s (abstracted bs c) m
renamed_again bs cs n l s S e c m =
    let p : cs ≡ sub_pending (look s) bs = subst (λ (o : Out (List Binder)). Says (λ qs. qs ≡ sub_pending (look s) bs) Limit o) e (pending_says s bs n) in
    ap (λ (qs : List Binder). apply_subst_to_core s (abstracted qs c) m) p ∙ over_again s S bs c m
