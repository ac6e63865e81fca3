-- Generalization of made types renames made variables alone, and what it gives is made.
use mathlib.Core.Path.{◌≡◌, refl, sym, ◌∙◌}
use mathlib.Core.Bool.{Bool, true, false, not}
use mathlib.Core.List.{List, [], ◌∷◌, ◌++◌}
use mathlib.Core.Option.{Option, none, some}
use Prim.Native.Nat.{ℕ}
use Rattle.meaning.specs.Base.{is_yes, if, keep, first}
use Rattle.meaning.specs.Ast.{TyVar, Ty, Pred, same_pred, Qual, qual, Core, Binder}
use Rattle.meaning.specs.Budget.{after}
use Rattle.meaning.specs.Map.{tyvars, elem}
use Rattle.meaning.specs.Subst.{ftv_type, ftv_qual, without}
use Rattle.meaning.specs.Classes.{ClassEnv}
use Rattle.meaning.specs.Reduce.{Discharged, Removed, contains, discharge, reduce_one, reduce_from, reduce, find_super_proof, sorted_out, simplify_from, simplify_context}
use Rattle.meaning.specs.Cores.{canonical_renamer, canonical_scheme_and_core, canonicalize_pair}
use Rattle.meaning.specs.Generalize.{Pending, Env, env_ftv, preds_of, with_first, binders_of, simplified, is_own, generalize_binding, finalize_expr}
use Rattle.theorems.proofs.Says.{Says, Any, and_then, weaken, anything, past}
use Rattle.theorems.proofs.Tests.{and_left}
use Rattle.theorems.proofs.FreeVars.{elem-without, elem-ftv_qual}
use Rattle.theorems.proofs.Runs.{Nothing}
use Rattle.theorems.proofs.Twins.{Both, alone, alone_any, both_then}
use Rattle.theorems.proofs.Made.{IsMade, MadeTy, MadePreds, MadePending, MadeQual, MadeScheme, made_qual, made_append}
use Rattle.theorems.proofs.MadeSchemes.{canonical_made}
use Rattle.theorems.proofs.OtherNames.{Renamer, scheme_by, pair_by, generalize_by, finalize_by}

-- ## what reduce and simplify_context leave
one_more : (ps : List Pred) (p : Pred) → MadePreds ps → MadeTy p.ty → MadePreds (ps ++ (p ∷ []))
one_more [] p h k = (k, tt)
one_more (q ∷ ps) p h k = (h.0, one_more ps p h.1 k)

reduce_from_made : (ce : ClassEnv) (ps : List Pred) (o : List Discharged × List Pred) (n : ℕ) → MadePreds ps → MadePreds o.1
    → Says (λ r. MadePreds r.1) Any (reduce_from ce [] ps o n)
unfolding reduce_from discharge
reduce_from_made ce [] o n h k = k
reduce_from_made ce (p ∷ ps) o n h k = past _ (reduce_one ce [] p n) _ λ r m. reduce_from_made ce ps (discharge p r o) m h.1 (go r)
  where
    pick : (b : Bool) → MadePreds (if b o.1 (o.1 ++ (p ∷ [])))
    pick true = k
    pick false = one_more o.1 p k h.0

    go : (r : Option Core) → MadePreds (discharge p r o).1
    go none = pick (contains o.1 p)
    go (some e) = k

-- Residual predicates are some of the pending ones.
pub reduce_made : (ce : ClassEnv) (ps : List Pred) (n : ℕ) → MadePreds ps → Says (λ r. MadePreds r.1) Any (reduce ce [] ps n)
reduce_made ce ps n h = reduce_from_made ce ps ([], []) n h tt

-- Their binders.
pub binders_made : (qs : List Pred) (ps : Pending) → MadePreds qs → MadePending (binders_of qs ps)
unfolding binders_of with_first
binders_made [] ps h = tt
binders_made (q ∷ qs) ps h = go (first (λ (b : Binder). is_yes (same_pred b.1 q)) ps) (binders_made qs ps h.1)
  where
    go : (o : Option Binder) → MadePending (binders_of qs ps) → MadePending (with_first o q (binders_of qs ps))
    go none i = i
    go (some b) i = (h.0, i)

-- Some of the binders.
pub keep_made : (f : Binder → Bool) (bs : Pending) → MadePending bs → MadePending (keep f bs)
unfolding keep
keep_made f [] h = tt
keep_made f (b ∷ bs) h = go (f b) (keep_made f bs h.1)
  where
    go : (c : Bool) → MadePending (keep f bs) → MadePending (if c (b ∷ keep f bs) (keep f bs))
    go true i = (h.0, i)
    go false i = i

simplify_made : (ce : ClassEnv) (bs : List Binder) (o : List Binder × List Removed) (n : ℕ) → MadePending bs → MadePending o.0
    → Says (λ r. MadePending r.0) Any (simplify_from ce bs o n)
unfolding simplify_from sorted_out
simplify_made ce [] o n h k = k
simplify_made ce (b ∷ bs) o n h k = past _ (find_super_proof ce (o.0 ++ bs) b.1 n) _ λ r m. simplify_made ce bs (sorted_out b r o) m h.1 (go r)
  where
    go : (r : Option Core) → MadePending (sorted_out b r o).0
    go none = made_append o.0 (b ∷ []) k (h.0, tt)
    go (some e) = k

-- The kept binders are some of them.
pub kept_made : (ce : ClassEnv) (ps : Pending) (e : Core) (bs : List Binder) (ds : List Discharged) (n : ℕ) → MadePending bs
    → Says (λ r. MadePending r.0) Any (simplified ce ps e bs ds n)
unfolding simplified
kept_made ce ps e bs ds n h =
    and_then _ _ _ (simplify_context ce bs n) _ (simplify_made ce bs ([], []) n h tt) λ r k m.
    past _ _ _ λ e₁ l. k

-- ## what is renamed
-- Each variable of the list was made.
abbrev pub MadeVars : List TyVar → Type 0
MadeVars vs = (x : TyVar) → elem tyvars x vs ≡ true → IsMade x

-- The variables of a made type.
pub ftv_made : (q : Qual) → MadeQual q → MadeVars (ftv_qual q)
ftv_made q h x e = h x (sym (elem-ftv_qual x q) ∙ e)

-- And those of them that another list has not.
pub without_made : (vs ws : List TyVar) → MadeVars vs → MadeVars (without vs ws)
without_made vs ws h x e = h x (and_left (elem tyvars x vs) (not (elem tyvars x ws)) (sym (elem-without x vs ws) ∙ e))

module _ (ce : ClassEnv) (u : Ty) (ps : Pending) (e : Core) (made-ty : MadeTy u) (made-preds : MadePending ps) where
  -- What generalization renames, whatever the two steps before it kept.
  pub generalize_renames_made : (env : Env) (n : ℕ)
      → Says (λ r. MadeVars (without (ftv_qual (qual (preds_of r.0) u)) (env_ftv env))) Any
      (after (reduce ce [] (preds_of ps) n) (λ o. simplified ce ps e (keep (is_own (ftv_type u []) (env_ftv env)) (binders_of o.1 ps)) o.0))
  generalize_renames_made env n =
      and_then _ _ _ (reduce ce [] (preds_of ps) n) _ (reduce_made ce (preds_of ps) n made-preds) λ o h m.
      weaken _ _ _ _ (simplified ce ps e (keep (is_own (ftv_type u []) (env_ftv env)) (binders_of o.1 ps)) o.0 m)
      (kept_made ce ps e _ o.0 m (keep_made (is_own (ftv_type u []) (env_ftv env)) _ (binders_made o.1 ps h)))
      (λ r k. without_made _ (env_ftv env) (ftv_made _ (made_qual (preds_of r.0) u k made-ty))) (λ r z. z)

  -- What finalization renames.
  pub finalize_renames_made : (n : ℕ)
      → Says (λ r. MadeVars (ftv_qual (qual (preds_of r.0) u))) Any (after (reduce ce [] (preds_of ps) n) (λ o. simplified ce ps e (binders_of o.1 ps) o.0))
  finalize_renames_made n =
      and_then _ _ _ (reduce ce [] (preds_of ps) n) _ (reduce_made ce (preds_of ps) n made-preds) λ o h m.
      weaken _ _ _ _ (simplified ce ps e (binders_of o.1 ps) o.0 m) (kept_made ce ps e _ o.0 m (binders_made o.1 ps h))
      (λ r k. ftv_made _ (made_qual (preds_of r.0) u k made-ty)) (λ r z. z)

-- ## with another renaming
-- A renaming that is the canonical one wherever all variables were made.
abbrev pub OnMade : Renamer → Type 0
OnMade ren = (vs : List TyVar) → MadeVars vs → ren vs ≡ canonical_renamer vs

module _ (ren : Renamer) (agrees : OnMade ren) where
  scheme_made_by : (vs : List TyVar) (q : Qual) (e : Core) (n : ℕ) → MadeVars vs → MadeQual q
      → Both (λ r. MadeScheme r.0) (canonical_scheme_and_core vs q e n) (scheme_by ren vs q e n)
  unfolding canonical_scheme_and_core scheme_by
  scheme_made_by vs q e n h k = record { same = rw (agrees vs h) refl; says = canonical_made vs q e n k }

  pair_made_by : (q : Qual) (e : Core) (n : ℕ) → MadeQual q → Both Nothing (canonicalize_pair q e n) (pair_by ren q e n)
  unfolding canonicalize_pair pair_by
  pair_made_by q e n k = record { same = rw (agrees (ftv_qual q) (ftv_made q k)) refl; says = anything (canonicalize_pair q e n) }

  module _ (ce : ClassEnv) (u : Ty) (ps : Pending) (e : Core) (n : ℕ) (made-ty : MadeTy u) (made-preds : MadePending ps) where
    -- Generalization of a made type does not see the difference: the scheme's free variables were made, and so was what
    -- is deferred.
    pub generalize_made_by : (env : Env) → Both (λ g. MadeScheme g.0 × MadePending g.2) (generalize_binding ce env u ps e n) (generalize_by ren ce env u ps e n)
    unfolding generalize_binding generalize_by
    generalize_made_by env =
        both_then _ _ (reduce ce [] (preds_of ps) n) _ _ _ (alone (reduce_made ce (preds_of ps) n made-preds)) λ o h m.
        both_then _ _ _ _ _ _ (alone (kept_made ce ps e _ o.0 m (keep_made _ _ (binders_made o.1 ps h)))) λ r k m₁.
        both_then _ _ _ _ _ _ (alone_any _) λ _ z m₂.
        both_then _ _ _ _ _ _ (scheme_made_by _ (qual (preds_of r.0) u) r.1 m₂ (without_made _ (env_ftv env) (ftv_made _ (made_qual (preds_of r.0) u k made-ty))) (made_qual (preds_of r.0) u k made-ty)) λ g c m₃.
        alone (c, keep_made _ _ (binders_made o.1 ps h))

    -- Nor does finalization.
    pub finalize_made_by : Both Nothing (finalize_expr ce u ps e n) (finalize_by ren ce u ps e n)
    unfolding finalize_expr finalize_by
    finalize_made_by =
        both_then _ _ (reduce ce [] (preds_of ps) n) _ _ _ (alone (reduce_made ce (preds_of ps) n made-preds)) λ o h m.
        both_then _ _ _ _ _ _ (alone (kept_made ce ps e _ o.0 m (binders_made o.1 ps h))) λ r k m₁.
        pair_made_by (qual (preds_of r.0) u) r.1 m₁ (made_qual (preds_of r.0) u k made-ty)

-- So what generalization gives of a made type is made.
pub generalize_made : (ce : ClassEnv) (env : Env) (u : Ty) (ps : Pending) (e : Core) (n : ℕ) → MadeTy u → MadePending ps
    → Says (λ g. MadeScheme g.0 × MadePending g.2) Any (generalize_binding ce env u ps e n)
generalize_made ce env u ps e n h k = (generalize_made_by canonical_renamer (λ vs i. refl) ce u ps e n h k env).says
