-- Renamed rows keep their dictionaries and classes. It is said of the words alone: there is always a substitution that does the
-- same as some words that become letters.
use mathlib.Core.Path.{◌≡◌, refl, sym, subst}
use mathlib.Core.List.{List, [], ◌∷◌}
use Prim.Native.Nat.{ℕ, zero, suc, ◌+◌, ◌<◌, ◌≤◌}
use native.Mathlib.Omega.{arith}
use native.Mathlib.Decide.{ℕ_discrete}
use Rattle.meaning.specs.Ast.{dvar, ctx, self, DictName, Pred, Binder}
use Rattle.meaning.specs.Budget.{Out, done}
use Rattle.meaning.specs.Subst.{Subst, look, apply_preds, apply_preds_pending}
use Rattle.meaning.specs.Plain.{Fill, sub_preds}
use Rattle.meaning.specs.Generalize.{preds_of}
use Rattle.theorems.proofs.Says.{Says, Limit}
use Rattle.theorems.proofs.Applied.{preds_say}
use Rattle.names.specs.Names.{Names}
use Rattle.supers.specs.Rows.{row_at, with_row, binders_from}
use Rattle.supers.specs.declared.rows.Row.{Row}
use Rattle.supers.specs.declared.rows.Row.TheVariants.{Pending, Replaced}
use Rattle.scope.specs.Scope.{Small, Smalls, no_preds, one_more}
use Rattle.scope.proofs.Fines.{small_number}
use Rattle.canonical.specs.Rows.{Letters}
use Rattle.canonical.proofs.SameLeaves.{letters_from, letters_there}
use Rattle.canoncore.specs.RowsReady.{SmallRow}
use Rattle.generalize.proofs.Again.{sub_pending, pending_says}

-- ## binders of rows
-- A dictionary's number that fits beside a class.
abbrev pub SmallDict : DictName → Type 0
SmallDict (dvar d) = d < 17_592_186_044_416
SmallDict (ctx c i) = Unit {0}
SmallDict self = Unit {0}

-- Such numbers and classes of two bytes.
abbrev pub SmallBinders : List ℕ → List Binder → Type 0
SmallBinders ns [] = Unit {0}
SmallBinders ns (b ∷ bs) = (SmallDict b.0 × Small ns b.1.class) × SmallBinders ns bs

-- Filling the types changes none.
sub_small : (ns : List ℕ) (θ : Fill) (bs : List Binder) → SmallBinders ns bs → SmallBinders ns (sub_pending θ bs)
unfolding sub_pending
sub_small ns θ [] h = tt
sub_small ns θ (b ∷ bs) h = (h.0, sub_small ns θ bs h.1)

-- The classes of their predicates.
pub preds_small : (ns : List ℕ) (bs : List Binder) → SmallBinders ns bs → Smalls ns (preds_of bs)
preds_small ns [] h = no_preds
preds_small ns (b ∷ bs) h = one_more h.0.1 (preds_small ns bs h.1)

-- From rows to binders.
pub rows_small : (ns w bs : List ℕ) (j k : ℕ) → ((i : ℕ) → j ≤ i → i < j + k → SmallRow (row_at bs i)) → SmallBinders ns (binders_from ns w bs j k)
unfolding binders_from
rows_small ns w bs j zero h = tt
rows_small ns w bs j (suc k) h = go (row_at bs j) (h j (omega arith) (omega arith)) (rows_small ns w bs (suc j) k (λ i p q. h i (omega arith) (omega arith)))
  where
    go : (r : Row) → SmallRow r → SmallBinders ns (binders_from ns w bs (suc j) k) → SmallBinders ns (with_row ns w r (binders_from ns w bs (suc j) k))
    go (Pending d c t) s ih = ((s.0, record { number = c; below = s.1; is = refl }), ih)
    go (Replaced d x) s ih = ih

-- From binders to rows.
pub small_rows : (ns w bs : List ℕ) → Names ns → (j k : ℕ) → SmallBinders ns (binders_from ns w bs j k) → (i : ℕ) → j ≤ i → i < j + k → SmallRow (row_at bs i)
unfolding binders_from
small_rows ns w bs N j zero h i p q = absurd (omega arith)
small_rows ns w bs N j (suc k) h i p q = go (row_at bs j) refl h (ℕ_discrete i j) (λ s l. small_rows ns w bs N (suc j) k s i l (omega arith))
  where
    here : (r : Row) → SmallBinders ns (with_row ns w r (binders_from ns w bs (suc j) k)) → SmallRow r
    here (Pending d c t) s = (s.0.0, small_number ns N c s.0.1)
    here (Replaced d x) s = tt

    rest : (r : Row) → SmallBinders ns (with_row ns w r (binders_from ns w bs (suc j) k)) → SmallBinders ns (binders_from ns w bs (suc j) k)
    rest (Pending d c t) s = s.1
    rest (Replaced d x) s = s

    go : (r : Row) → row_at bs j ≡ r → SmallBinders ns (with_row ns w r (binders_from ns w bs (suc j) k)) → Dec (i ≡ j)
        → (SmallBinders ns (binders_from ns w bs (suc j) k) → suc j ≤ i → SmallRow (row_at bs i)) → SmallRow (row_at bs i)
    go r e s (yes f) ih = rw (f, e) (here r s)
    go r e s (no f) ih = ih (rest r s) (omega arith)

-- Renamed binders are as small.
pub renamed_small : (ns ls w : List ℕ) (bs cs : List Binder) (n l : ℕ) → Names ns → ((s : Subst) → Letters ns w ls s → apply_preds_pending s bs n ≡ done cs l)
    → SmallBinders ns bs → SmallBinders ns cs
renamed_small ns ls w bs cs n l N h b =
    let s = letters_from ns 0 ls in
    let p : cs ≡ sub_pending (look s) bs = subst (λ (o : Out (List Binder)). Says (λ qs. qs ≡ sub_pending (look s) bs) Limit o) (h s (letters_there w ls N)) (pending_says s bs n) in
    subst (SmallBinders ns) (sym p) (sub_small ns (look s) bs b)

-- Classes stay where types are filled.
sub_smalls : (ns : List ℕ) (θ : Fill) (ps : List Pred) → Smalls ns ps → Smalls ns (sub_preds θ ps)
sub_smalls ns θ [] h = no_preds
sub_smalls ns θ (p ∷ ps) (one_more a h) = one_more a (sub_smalls ns θ ps h)

-- The same of predicates.
pub renamed_smalls : (ns ls w : List ℕ) (ps qs : List Pred) (n l : ℕ) → Names ns → ((s : Subst) → Letters ns w ls s → apply_preds s ps n ≡ done qs l) → Smalls ns ps → Smalls ns qs
renamed_smalls ns ls w ps qs n l N h b =
    let s = letters_from ns 0 ls in
    let p : qs ≡ sub_preds (look s) ps = subst (λ (o : Out (List Pred)). Says (λ rs. rs ≡ sub_preds (look s) ps) Limit o) (h s (letters_there w ls N)) (preds_say s ps n) in
    subst (Smalls ns) (sym p) (sub_smalls ns (look s) ps b)
