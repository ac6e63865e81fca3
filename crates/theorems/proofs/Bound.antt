-- The names that dictionary abstractions inside a core term bind: what each of them satisfies, through the walks over terms.
use mathlib.Core.Path.{◌≡◌, refl, subst, sym}
use mathlib.Core.Bool.{Bool, true, false}
use mathlib.Core.List.Memᴰ
use mathlib.Core.List.{List, [], ◌∷◌, map}
use mathlib.Core.Option.{none, some}
use Prim.Native.Nat.{ℕ, suc, zero}
use Rattle.meaning.specs.Base.{if, keep}
use Rattle.meaning.specs.Ast.{DictName, Pred, Core, Cores, cvar, cdict, cint, cbool, cabs, capp, clet, dict_abs, dict_app, dict_proj, dict_rec, cnil, ◌◃◌, Binder}
use Rattle.meaning.specs.Budget.{Steps}
use Rattle.meaning.specs.Map.{Map, dicts, is, get, insert, remove}
use Rattle.meaning.specs.Subst.{Subst, apply_type, apply_pred, apply_preds_pending}
use Rattle.meaning.specs.Classes.{ClassEnv, applied}
use Rattle.meaning.specs.Derives.{Entry, itself, above, Derives, by_given, by_instance, DeriveAll, none_left, one_more}
use Rattle.meaning.specs.Cores.{each_core, or_core, hidden, subst_node, subst_in, apply_core_node, apply_core_in}
use Rattle.theorems.proofs.Says.{Says, Any, and_then, past, step_says}

-- The names of some binders.
abbrev pub names_of : List Binder → List DictName
names_of bs = map (λ (b : Binder). b.0) bs

-- P of each name of a list.
abbrev pub Each : (DictName → Type 0) → List DictName → Type 0
Each P [] = Unit {0}
Each P (d ∷ ds) = P d × Each P ds

-- P of each name that a dictionary abstraction inside the term binds.
abbrev mutual
  pub Bound : (DictName → Type 0) → Core → Type 0
  Bound P (cvar x) = Unit {0}
  Bound P (cdict d) = Unit {0}
  Bound P (cint i) = Unit {0}
  Bound P (cbool b) = Unit {0}
  Bound P (cabs x e) = Bound P e
  Bound P (capp f e) = Bound P f × Bound P e
  Bound P (clet x e f) = Bound P e × Bound P f
  Bound P (dict_abs bs e) = Each P (names_of bs) × Bound P e
  Bound P (dict_app f es) = Bound P f × BoundIn P es
  Bound P (dict_proj e m) = Bound P e
  Bound P (dict_rec c a i) = Unit {0}

  -- The same of a list of terms.
  pub BoundIn : (DictName → Type 0) → Cores → Type 0
  BoundIn P cnil = Unit {0}
  BoundIn P (e ◃ es) = Bound P e × BoundIn P es

-- No abstraction inside the term binds a key of the map.
abbrev pub NoneBound : Map DictName Core → Core → Type 0
NoneBound sub e = Bound (λ d. get dicts d sub ≡ none) e

-- No name is bound inside the term.
abbrev pub Bare : Core → Type 0
Bare e = Bound (λ d. ⊥) e

module _ (P Q : DictName → Type 0) (w : (d : DictName) → P d → Q d) where
  -- Less of each name of a list.
  pub each_less : (ds : List DictName) → Each P ds → Each Q ds
  each_less [] h = tt
  each_less (d ∷ ds) h = (w d h.0, each_less ds h.1)

  -- Less of each bound name.
  mutual
    pub bound_less : (e : Core) → Bound P e → Bound Q e
    bound_less (cvar x) h = tt
    bound_less (cdict d) h = tt
    bound_less (cint i) h = tt
    bound_less (cbool b) h = tt
    bound_less (cabs x e) h = bound_less e h
    bound_less (capp f e) h = (bound_less f h.0, bound_less e h.1)
    bound_less (clet x e f) h = (bound_less e h.0, bound_less f h.1)
    bound_less (dict_abs bs e) h = (each_less (names_of bs) h.0, bound_less e h.1)
    bound_less (dict_app f es) h = (bound_less f h.0, bound_in_less es h.1)
    bound_less (dict_proj e m) h = bound_less e h
    bound_less (dict_rec c a i) h = tt

    -- The same in a list of terms.
    pub bound_in_less : (es : Cores) → BoundIn P es → BoundIn Q es
    bound_in_less cnil h = tt
    bound_in_less (e ◃ es) h = (bound_less e h.0, bound_in_less es h.1)

-- ## terms that bind nothing
bare_projections : {ce : ClassEnv} {e f : Core} {p q : Pred} → Entry ce e p f q → Bare e → Bare f
bare_projections itself h = h
bare_projections (above k m x) h = bare_projections x h

-- A projection of a dictionary's name binds nothing.
pub entry_bare : {ce : ClassEnv} {d : DictName} {f : Core} {p q : Pred} → Entry ce (cdict d) p f q → Bare f
entry_bare x = bare_projections x tt

-- A dictionary that is derived from nothing at hand binds nothing.
mutual
  unfolding applied

  pub derives_bare : {ce : ClassEnv} {p : Pred} {e : Core} → Derives ce [] p e → Bare e
  derives_bare (by_given m x) = absurd (Memᴰ.not-nil m)
  derives_bare (by_instance i {p = p} {es = es} a t ds j) = subst Bare (sym j) (go es (derive_all_bare ds))
    where
      go : (es : Cores) → BoundIn (λ d. ⊥) es → Bare (applied (dict_rec p.class p.ty i) es)
      go cnil h = tt
      go (e ◃ es) h = (tt, h)

  -- Nor does a list of them.
  pub derive_all_bare : {ce : ClassEnv} {ps : List Pred} {es : Cores} → DeriveAll ce [] ps es → BoundIn (λ d. ⊥) es
  derive_all_bare none_left = tt
  derive_all_bare (one_more d ds) = (derives_bare d, derive_all_bare ds)

-- ## walks
-- Application to binders keeps their names.
pub pending_names : (s : Subst) (bs : List Binder) (n : ℕ) → Says (λ cs. names_of cs ≡ names_of bs) Any (apply_preds_pending s bs n)
unfolding apply_preds_pending
pending_names s [] n = refl
pending_names s (b ∷ bs) n =
    past _ (apply_pred s b.1 n) _ λ q m.
    and_then _ _ _ (apply_preds_pending s bs m) _ (pending_names s bs m) λ qs e l. rw e refl

module _ (P : DictName → Type 0) where
  -- P of each name that is bound in a term of the map.
  abbrev pub Values : Map DictName Core → Type 0
  Values [] = Unit {0}
  Values (p ∷ s) = Bound P p.1 × Values s

  keep_values : (f : DictName × Core → Bool) (s : Map DictName Core) → Values s → Values (keep f s)
  unfolding keep
  keep_values f [] h = tt
  keep_values f (p ∷ s) h = go (f p) (keep_values f s h.1)
    where
      go : (b : Bool) → Values (keep f s) → Values (if b (p ∷ keep f s) (keep f s))
      go true i = (h.0, i)
      go false i = i

  hidden_values : (bs : List Binder) (s : Map DictName Core) → Values s → Values (hidden bs s)
  unfolding hidden remove
  hidden_values [] s h = h
  hidden_values (b ∷ bs) s h = hidden_values bs (remove dicts b.0 s) (keep_values _ s h)

  -- One more term.
  pub insert_values : (p : DictName × Core) (s : Map DictName Core) → Bound P p.1 → Values s → Values (insert dicts p s)
  unfolding insert
  insert_values p [] k h = (k, tt)
  insert_values p (q ∷ s) k h = go (is dicts p.0 q.0) (insert_values p s k h.1)
    where
      go : (b : Bool) → Values (insert dicts p s) → Values (if b (p ∷ s) (q ∷ insert dicts p s))
      go true i = (k, h.1)
      go false i = (h.0, i)

  name_bound : (d : DictName) (s : Map DictName Core) → Values s → Bound P (or_core (cdict d) (get dicts d s))
  unfolding get or_core
  name_bound d [] h = tt
  name_bound d (p ∷ s) h = go (is dicts d p.0) (name_bound d s h.1)
    where
      go : (b : Bool) → Bound P (or_core (cdict d) (get dicts d s)) → Bound P (or_core (cdict d) (if b (some p.1) (get dicts d s)))
      go true i = h.0
      go false i = i

  each_bound : (f : Core → Steps Core) → ((e : Core) (n : ℕ) → Bound P e → Says (Bound P) Any (f e n)) → (es : Cores) (n : ℕ) → BoundIn P es → Says (BoundIn P) Any (each_core f es n)
  unfolding each_core
  each_bound f h cnil n k = tt
  each_bound f h (e ◃ es) n k =
      and_then _ _ _ (f e n) _ (h e n k.0) λ u i m.
      and_then _ _ _ (each_core f es m) _ (each_bound f h es m k.1) λ us j l. (i, j)

  subst_node_bound : (f : Map DictName Core → Core → Steps Core) → ((s : Map DictName Core) (e : Core) (n : ℕ) → Values s → Bound P e → Says (Bound P) Any (f s e n))
      → (s : Map DictName Core) (e : Core) (n : ℕ) → Values s → Bound P e → Says (Bound P) Any (subst_node f s e n)
  unfolding subst_node
  subst_node_bound f h s (cvar x) n v k = tt
  subst_node_bound f h s (cdict d) n v k = name_bound d s v
  subst_node_bound f h s (cint i) n v k = tt
  subst_node_bound f h s (cbool b) n v k = tt
  subst_node_bound f h s (cabs x e) n v k = and_then _ _ _ (f s e n) _ (h s e n v k) λ u i m. i
  subst_node_bound f h s (capp g e) n v k = and_then _ _ _ (f s g n) _ (h s g n v k.0) λ u i m. and_then _ _ _ (f s e m) _ (h s e m v k.1) λ u₁ j l. (i, j)
  subst_node_bound f h s (clet x g e) n v k = and_then _ _ _ (f s g n) _ (h s g n v k.0) λ u i m. and_then _ _ _ (f s e m) _ (h s e m v k.1) λ u₁ j l. (i, j)
  subst_node_bound f h s (dict_abs bs e) n v k = and_then _ _ _ (f (hidden bs s) e n) _ (h (hidden bs s) e n (hidden_values bs s v) k.1) λ u i m. (k.0, i)
  subst_node_bound f h s (dict_app g es) n v k =
      and_then _ _ _ (f s g n) _ (h s g n v k.0) λ u i m.
      and_then _ _ _ (each_core (f s) es m) _ (each_bound (f s) (λ e l. h s e l v) es m k.1) λ us j l. (i, j)
  subst_node_bound f h s (dict_proj e x) n v k = and_then _ _ _ (f s e n) _ (h s e n v k) λ u i m. i
  subst_node_bound f h s (dict_rec c a i) n v k = tt

  -- Replacing names binds no others than the term and the replacements do.
  pub subst_bound : (d : ℕ) (s : Map DictName Core) (e : Core) (n : ℕ) → Values s → Bound P e → Says (Bound P) Any (subst_in d s e n)
  unfolding subst_in
  subst_bound zero s e n v k = tt
  subst_bound (suc d) s e n v k = step_says _ _ _ tt (λ m. subst_node_bound (λ s₁ e₁. subst_in d s₁ e₁) (λ s₁ e₁ i. subst_bound d s₁ e₁ i) s e m v k) n

  apply_node_bound : (f : Core → Steps Core) → ((e : Core) (n : ℕ) → Bound P e → Says (Bound P) Any (f e n)) → (s : Subst) (e : Core) (n : ℕ) → Bound P e → Says (Bound P) Any (apply_core_node f s e n)
  unfolding apply_core_node
  apply_node_bound f h s (cvar x) n k = tt
  apply_node_bound f h s (cdict d) n k = tt
  apply_node_bound f h s (cint i) n k = tt
  apply_node_bound f h s (cbool b) n k = tt
  apply_node_bound f h s (cabs x e) n k = and_then _ _ _ (f e n) _ (h e n k) λ u i m. i
  apply_node_bound f h s (capp g e) n k = and_then _ _ _ (f g n) _ (h g n k.0) λ u i m. and_then _ _ _ (f e m) _ (h e m k.1) λ u₁ j l. (i, j)
  apply_node_bound f h s (clet x g e) n k = and_then _ _ _ (f g n) _ (h g n k.0) λ u i m. and_then _ _ _ (f e m) _ (h e m k.1) λ u₁ j l. (i, j)
  apply_node_bound f h s (dict_abs bs e) n k =
      and_then _ _ _ (apply_preds_pending s bs n) _ (pending_names s bs n) λ cs x m.
      and_then _ _ _ (f e m) _ (h e m k.1) λ u i l. (subst (Each P) (sym x) k.0, i)
  apply_node_bound f h s (dict_app g es) n k =
      and_then _ _ _ (f g n) _ (h g n k.0) λ u i m.
      and_then _ _ _ (each_core f es m) _ (each_bound f h es m k.1) λ us j l. (i, j)
  apply_node_bound f h s (dict_proj e x) n k = and_then _ _ _ (f e n) _ (h e n k) λ u i m. i
  apply_node_bound f h s (dict_rec c a i) n k = past _ (apply_type s a n) _ λ u m. tt

  -- A substitution of types changes no name.
  pub apply_core_bound : (d : ℕ) (s : Subst) (e : Core) (n : ℕ) → Bound P e → Says (Bound P) Any (apply_core_in d s e n)
  unfolding apply_core_in
  apply_core_bound zero s e n k = tt
  apply_core_bound (suc d) s e n k = step_says _ _ _ tt (λ m. apply_node_bound (λ u. apply_core_in d s u) (λ u i. apply_core_bound d s u i) s e m k) n
