-- `sub_map` row by row, from what `reduce` and simplify_context have given of pending binders with rising names.
use mathlib.Core.Path.{◌≡◌, refl, sym, subst}
use mathlib.Core.Bool.{Bool, true, false}
use mathlib.Core.List.{List, [], Memᴰ}
use mathlib.Core.Option.{none, some}
use mathlib.Core.Logic.{◌≢◌}
use Prim.Native.Nat.{ℕ}
use Rattle.meaning.specs.Base.{nth, keep}
use Rattle.meaning.specs.Ast.{DictName, Pred, Core, cdict, Binder}
use Rattle.meaning.specs.Budget.{done}
use Rattle.meaning.specs.Map.{Map, dicts, get}
use Rattle.meaning.specs.Classes.{ClassEnv, resolve}
use Rattle.meaning.specs.Reduce.{Discharged, Removed, is_head_normal, reduce, simplify_context}
use Rattle.meaning.specs.Generalize.{Pending, preds_of, binders_of}
use Rattle.theorems.proofs.Bound.{names_of, NoneBound}
use Rattle.theorems.proofs.Residuals.{Gave, Answers, firsts}
use Rattle.theorems.proofs.RisingNames.{Rising, NotIn, rising_keep, rising_firsts}
use Rattle.theorems.proofs.NamesGeneralized.{Named}
use Rattle.theorems.proofs.FirstOf.{first_of}
use Rattle.theorems.proofs.LeftRows.{keep_all}
use Rattle.theorems.proofs.Discharges.{NamesDiffer}
use Rattle.theorems.proofs.SubMap.{sub-map, OfPred, Removing, keeping_firsts, sub_absent, sub_removed, sub_resolved, found_alias, found_first, row_deferred, split_of, removing_of, kept_stays, rising_differ, sub_none_bound}

-- The row of number i: a variable-typed predicate.
pub record RowAt (ps : Pending) (i : ℕ) (c : Binder) : Type 0 where
  pub stands : nth ps i ≡ some c
  pub variable_typed : is_head_normal c.1.ty ≡ true

-- What the map has for each name. f tells which predicates stay with the binding; `kept` and rs are what simplify_context
-- keeps and removes.
pub record RowsOf (ce : ClassEnv) (ps : Pending) (f : Binder → Bool) (kept : List Binder) (rs : List Removed) (sub : Map DictName Core) : Type 0 where
  -- A name that is not pending: nothing.
  pub absent : (d : DictName) → NotIn d (names_of ps) → get dicts d sub ≡ none
  -- A predicate that is not variable-typed: the term that a resolution of it gives.
  pub resolved : (i : ℕ) (c : Binder) → nth ps i ≡ some c → is_head_normal c.1.ty ≡ false → (e : Core) → Gave (resolve ce [] c.1) e → get dicts c.0 sub ≡ some e
  -- A binder that was removed: its replacement.
  pub removed : (r : Removed) → Memᴰ r rs → get dicts r.0 sub ≡ some r.1
  -- Another name of a predicate that stays with the binding: the first one's name.
  pub alias : (i : ℕ) (c : Binder) → RowAt ps i c → f c ≡ true → (b : Binder) → first_of ps c.1 ≡ some b → c.0 ≢ b.0 → get dicts c.0 sub ≡ some (cdict b.0)
  -- A binder that is kept: nothing.
  pub stays : (i : ℕ) (c : Binder) → RowAt ps i c → first_of ps c.1 ≡ some c → Memᴰ c kept → get dicts c.0 sub ≡ none
  -- A predicate that is deferred: nothing, whichever of its names.
  pub deferred : (i : ℕ) (c : Binder) → RowAt ps i c → f c ≡ false → get dicts c.0 sub ≡ none
  -- No abstraction inside a term that was inferred with these names binds a key.
  pub none_bound : (lo hi : ℕ) (e : Core) → Named lo hi (names_of ps) e → NoneBound sub e

-- For binders that are the first ones which pass the test.
rows_of : (ce : ClassEnv) (lo hi : ℕ) (ps : Pending) → Rising lo hi (names_of ps) → (f : Binder → Bool) → OfPred f → (ds : List Discharged) → Answers ce (preds_of ps) ds
    → (n m : ℕ) (o : List Binder × List Removed) → simplify_context ce (keep f (firsts [] ps)) n ≡ done o m
    → RowsOf ce ps f o.0 o.1 (sub-map o.1 (keep f (firsts [] ps)) ds ps)
rows_of ce lo hi ps h f of ds a n m o e = record {
  absent = sub_absent ce ps differ ds a bs (keeping_firsts f ps) o.1 removes;
  resolved = sub_resolved ce ps differ ds a bs (keeping_firsts f ps) o.1 removes;
  removed = sub_removed ce ps differ ds a bs (keeping_firsts f ps) o.1 removes;
  alias = λ i c r. found_alias ce ps differ ds a f of o.1 removes i c r.stands r.variable_typed;
  stays = λ i c r x k. found_first ce ps differ ds a f of o.1 removes i c r.stands r.variable_typed x (kept_stays ce lo hi bs n m o rises e c k);
  deferred = λ i c r. row_deferred ce ps differ ds a f of o.1 removes i c r.stands r.variable_typed;
  none_bound = λ lo₁ hi₁ t w. sub_none_bound ce lo₁ hi₁ ps t w ds a bs (keeping_firsts f ps) o.1 removes;
}
  where
    bs : List Binder
    bs = keep f (firsts [] ps)

    differ : NamesDiffer ps
    differ = rising_differ lo hi ps h

    rises : Rising lo hi (names_of bs)
    rises = rising_keep lo hi f (firsts [] ps) (rising_firsts lo hi [] ps h)

    removes : Removing bs o.1
    removes = removing_of ce lo hi bs n m o rises e

module _ (ce : ClassEnv) (lo hi : ℕ) (ps : Pending) (rises : Rising lo hi (names_of ps)) (n m : ℕ) (o : List Discharged × List Pred) (reduced : reduce ce [] (preds_of ps) n ≡ done o m)
    (l k : ℕ) (r : List Binder × List Removed) where
  -- In generalize_binding.
  pub generalize_rows : (f : Binder → Bool) → OfPred f → simplify_context ce (keep f (binders_of o.1 ps)) l ≡ done r k
      → RowsOf ce ps f r.0 r.1 (sub-map r.1 (keep f (binders_of o.1 ps)) o.0 ps)
  generalize_rows f of e = let s = split_of ce ps n m o reduced in go s.0 (binders_of o.1 ps) s.2 e
    where
      go : Answers ce (preds_of ps) o.0 → (bs : Pending) → bs ≡ firsts [] ps → simplify_context ce (keep f bs) l ≡ done r k → RowsOf ce ps f r.0 r.1 (sub-map r.1 (keep f bs) o.0 ps)
      go a bs i e = subst (λ (bs : Pending). RowsOf ce ps f r.0 r.1 (sub-map r.1 (keep f bs) o.0 ps)) (sym i)
          (rows_of ce lo hi ps rises f of o.0 a l k r (subst (λ (bs : Pending). simplify_context ce (keep f bs) l ≡ done r k) i e))

  -- In finalize_expr, where nothing is deferred.
  pub finalize_rows : simplify_context ce (binders_of o.1 ps) l ≡ done r k → RowsOf ce ps (λ b. true) r.0 r.1 (sub-map r.1 (binders_of o.1 ps) o.0 ps)
  finalize_rows e = subst (λ (bs : Pending). RowsOf ce ps (λ b. true) r.0 r.1 (sub-map r.1 bs o.0 ps)) (keep_all (binders_of o.1 ps))
      (generalize_rows (λ b. true) (λ b c i. refl) (subst (λ (bs : Pending). simplify_context ce bs l ≡ done r k) (sym (keep_all (binders_of o.1 ps))) e))
