-- Laws of `agree` and `merge_pairs`: no variable has two types in two regions, and then they become one.
use Prim.Native.Nat.{ℕ, ◌+◌, ◌*◌, ◌-◌, ◌<◌, ◌≤◌}
use native.Mathlib.Omega.{arith}
use mathlib.Core.Path.{◌≡◌, refl, ap, sym, ◌∙◌}
use mathlib.Core.Bool.{Bool, true, false, not}
use mathlib.Core.Option.{none, some}
use mathlib.Core.List.{List, ◌∷◌}
use lib.ListN.{get_or}
use Rattle.meaning.specs.Base.{is_yes}
use Rattle.meaning.specs.Ast.{TyVar, Ty, same_ty}
use Rattle.meaning.specs.Budget.{refused, after}
use Rattle.meaning.specs.Errors.{unification_failure}
use Rattle.meaning.specs.Map.{tyvars, get}
use Rattle.meaning.specs.Subst.{Subst, agree_at, agree, merge}
use Rattle.names.specs.Names.{Names, tyvar_of}
use Rattle.ast.specs.Table.{tree, Node}
use Rattle.ast.proofs.Laws.{kept_refl}
use Rattle.errors.specs.declared.Refusal.{Refusal}
use Rattle.errors.specs.declared.Refusal.TheVariants.{UnificationFailure}
use Rattle.pairs.specs.Pairs.{sub_at, find_at}
use Rattle.pairs.proofs.Looks.{type_of, get_is, found_node}
use Rattle.apply.specs.Applied.{Done, Refused}
use Rattle.compose.specs.Compose.{Both, Regions, Agrees, Merged, GivesSub}
use Rattle.compose.proofs.Orders.{sorted_merge, merge_is}
use Rattle.compose.proofs.Pieces.{sub_at_lem}
use Rattle.std.specs.Prelude.{Option, Some, None, Result, Ok, Err}

-- ## one pair
-- A test whose opposite fails.
not_false : (b : Bool) → not b ≡ false → b ≡ true
not_false true e = refl
not_false false e = sym e

-- A test whose opposite holds.
not_true : (b : Bool) → not b ≡ true → b ≡ false
not_true true e = sym e
not_true false e = refl

-- The other substitution has not the variable.
agree_absent : (p : TyVar × Ty) (self other : Subst) (left : ℕ) → get tyvars p.0 other ≡ none → agree (p ∷ self) other left ≡ agree self other left
unfolding agree agree_at after
agree_absent p self other left e = rw e

-- It has the same type for it.
agree_same : (p : TyVar × Ty) (self other : Subst) (u : Ty) (left : ℕ) → get tyvars p.0 other ≡ some u → is_yes (same_ty p.1 u) ≡ true → agree (p ∷ self) other left ≡ agree self other left
unfolding agree agree_at after
agree_same p self other u left e h = rw (e, h)

-- It has another type.
agree_not : (p : TyVar × Ty) (self other : Subst) (u : Ty) (left : ℕ) → get tyvars p.0 other ≡ some u → is_yes (same_ty p.1 u) ≡ false
    → agree (p ∷ self) other left ≡ refused (unification_failure p.1 u) left
unfolding agree agree_at after
agree_not p self other u left e h = rw (e, h)

-- ## the loop
-- The first i pairs agree.
pub record Agreeing (ns w : List ℕ) (lo k₂ k₁ i : ℕ) : Type 0 where
  pub upto : i ≤ k₁
  pub is : (left : ℕ) → agree (sub_at ns w (lo + 2 * k₂) k₁) (sub_at ns w lo k₂) left ≡ agree (sub_at ns w (lo + 2 * k₂ + 2 * i) (k₁ - i)) (sub_at ns w lo k₂) left

-- At first nothing is said.
pub agreeing : (ns w : List ℕ) (lo k₂ k₁ : ℕ) → Agreeing ns w lo k₂ k₁ 0
agreeing ns w lo k₂ k₁ =
    let e : lo + 2 * k₂ + 2 * 0 ≡ lo + 2 * k₂ = omega arith in
    let f : k₁ - 0 ≡ k₁ = omega arith in
    record { upto = omega arith; is = λ left. rw (e, f) }

-- The type of the i-th pair is a word of the table.
pub first_node_of : {ns w : List ℕ} {top lo k₂ k₁ i v : ℕ} → Regions ns w top lo k₂ k₁ → i < k₁ → v ≡ get_or w (lo + 2 * k₂ + 2 * i + 1) 0 → Node w top v
first_node_of {i = i} R h e = record { table = R.table; below = rw e (R.other.bound.node i h) }

-- What is found for its variable is one too.
pub second_node_of : {ns w : List ℕ} {top lo k₂ k₁ u : ℕ} (x : ℕ) {f : Option ℕ} → Regions ns w top lo k₂ k₁ → f ≡ find_at w lo k₂ x → f ≡ Some u → Node w top u
second_node_of x R e h = found_node x R.table R.self e h

-- Where nothing is found.
pub nothing : (f : Option ℕ) → ((u : ℕ) → f ≡ Some u → ⊥) → f ≡ None
nothing (Some u) n = absurd (n u refl)
nothing None n = refl

module _ {ns w : List ℕ} {lo k₂ k₁ i : ℕ} (A : Agreeing ns w lo k₂ k₁ i) (N : Names ns) (h : i < k₁)
    {x v : ℕ} (ex : x ≡ get_or w (lo + 2 * k₂ + 2 * i) 0) (ev : v ≡ get_or w (lo + 2 * k₂ + 2 * i + 1) 0) {f : Option ℕ} (ef : f ≡ find_at w lo k₂ x) where
  -- The pairs from the i-th on.
  opened : (left : ℕ) → agree (sub_at ns w (lo + 2 * k₂) k₁) (sub_at ns w lo k₂) left
      ≡ agree ((tyvar_of ns x, tree ns w v) ∷ sub_at ns w (lo + 2 * k₂ + 2 * (i + 1)) (k₁ - (i + 1))) (sub_at ns w lo k₂) left
  opened left = A.is left ∙ rw (sub_at_lem ns w (lo + 2 * k₂) k₁ i h, ex, ev)

  -- What the substitution has for the variable.
  found : get tyvars (tyvar_of ns x) (sub_at ns w lo k₂) ≡ type_of ns w f
  found = rw ef (get_is ns N w lo k₂ x)

  -- Nothing: the pair agrees.
  pub agreeing_absent : f ≡ None → Agreeing ns w lo k₂ k₁ (i + 1)
  agreeing_absent e = record { upto = omega arith; is = λ left. opened left ∙ agree_absent _ _ _ left (found ∙ ap (type_of ns w) e) }

  module _ {u : ℕ} (e : f ≡ Some u) {b : Bool} (eb : b ≡ is_yes (same_ty (tree ns w v) (tree ns w u))) where
    -- The same type: the pair agrees.
    pub agreeing_same : not b ≡ false → Agreeing ns w lo k₂ k₁ (i + 1)
    agreeing_same t = record { upto = omega arith; is = λ left. opened left ∙ agree_same _ _ _ (tree ns w u) left (found ∙ ap (type_of ns w) e) (sym eb ∙ not_false b t) }

    -- Another type: that is the answer.
    pub agreed_not : {top : ℕ} → not b ≡ true → Regions ns w top lo k₂ k₁ → Agrees ns w top lo k₂ k₁ (Err (UnificationFailure v u))
    agreed_not t R = record {
      says = λ left. record {
        is = opened left ∙ agree_not _ _ _ (tree ns w u) left (found ∙ ap (type_of ns w) e) (sym eb ∙ not_true b t);
        types = (first_node_of R h ev, second_node_of x R ef e);
        more = omega arith;
        down = omega arith;
      };
    }

-- All pairs agree.
pub agreed : {ns w : List ℕ} {top lo k₂ k₁ i : ℕ} → Agreeing ns w lo k₂ k₁ i → k₁ ≤ i → Agrees ns w top lo k₂ k₁ (Ok tt)
unfolding agree sub_at
agreed {k₁ = k₁} {i = i} A h = let e : k₁ - i ≡ 0 = omega arith in record { says = λ left. A.is left ∙ rw e }

-- ## merge_pairs
module _ {ns w : List ℕ} {top left lo k₂ k₁ : ℕ} (B : Both ns w top left lo k₂ k₁) {r : Result (Unit {0}) Refusal} (A : Agrees ns w top lo k₂ k₁ r) where
  -- Two types of one variable.
  pub pairs_clash : {q : Refusal} → r ≡ Err q → GivesSub (4 * top + 8 * left + 2 * k₂ + 2 * k₁) ns w w top left (lo + 2 * k₂ + 2 * k₁)
      (merge (sub_at ns w (lo + 2 * k₂) k₁) (sub_at ns w lo k₂) left) (Refused q top left)
  unfolding merge after
  pairs_clash e =
      let Z = rw e at A.says in
      record {
        stands = record { low = kept_refl _ _; high = λ i h. refl };
        mid = λ q a b. refl;
        answer = record { is = rw (Z left).is; types = (Z left).types; more = omega arith; down = omega arith };
      }

  -- One region.
  pub pairs_merged : {w' : List ℕ} {c : ℕ} {v : Unit {0}} → r ≡ Ok v → Merged ns w w' lo k₂ k₁ c → GivesSub (4 * top + 8 * left + 2 * k₂ + 2 * k₁) ns w w' top left (lo + 2 * k₂ + 2 * k₁)
      (merge (sub_at ns w (lo + 2 * k₂) k₁) (sub_at ns w lo k₂) left) (Done c top left)
  unfolding merge after
  pairs_merged e M =
      let Z = rw e at A.says in
      let R = M.is top left B in
      let room = B.room in
      let most = M.most in
      record {
        stands = record { low = record { at = λ q a. M.before q (omega arith) }; high = M.after };
        mid = λ q a b. M.before q (omega arith);
        answer = (
          rw (Z left, R.1, merge_is (sub_at ns w lo k₂) (sub_at ns w (lo + 2 * k₂) k₁) B.self_sorted B.other_sorted),
          record {
            table = R.0.table;
            sub = R.0.sub;
            sorted = rw R.1 (sorted_merge (sub_at ns w lo k₂) (sub_at ns w (lo + 2 * k₂) k₁) B.other_sorted);
            more = omega arith;
            spent = omega arith;
            own = omega arith;
            few = omega arith;
            down = omega arith;
          },
        );
      }
