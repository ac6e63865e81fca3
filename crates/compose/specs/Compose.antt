-- Two substitutions side by side on the stack become one: `compose` and `merge` of 002, in place.
use Rattle.std.specs.Prelude.{◌≡◌, ℕ, ◌+◌, ◌*◌, ◌-◌, ◌<◌, ◌≤◌, get_or, Result, Ok, Err}
use mathlib.Core.List.{List, ◌∷◌, ◌++◌, foldr}
use Rattle.std.proofs.Math.Option.{Option, none, some}
use Rattle.meaning.specs.Ast.{TyVar, Ty}
use Rattle.meaning.specs.Budget.{Out, done}
use Rattle.meaning.specs.Map.{tyvars, get, insert}
use Rattle.meaning.specs.Subst.{Subst, agree}
use Rattle.theorems.proofs.Ordered.{Sorted}
use Rattle.names.specs.Names.{Names, tyvar_of}
use Rattle.ast.specs.Table.{tree, Table, Node}
use Rattle.errors.specs.Refusals.{Refuses}
use Rattle.errors.specs.declared.Refusal.{Refusal}
use Rattle.pairs.specs.Pairs.{sub_at, Sub, Stands}
use Rattle.apply.specs.Applied.{Applied}
use Rattle.apply.specs.Applied.{Done, Refused}

-- One pair more, unless its variable is there (`entry(..).or_insert`).
unfoldable pub new_at : Option Ty → TyVar × Ty → Subst → Subst
new_at none p s = insert tyvars p s
new_at (some u) p s = s

unfoldable pub insert_new : TyVar × Ty → Subst → Subst
insert_new p s = new_at (get tyvars p.0 s) p s

-- The pairs of `self` whose variables `out` has not are put into it, from the last to the first. Where both are in order
-- this is what `or_insert` of the meaning gives.
abbrev pub merge_new : Subst → Subst → Subst
merge_new self out = foldr insert_new out self

-- A pair whose variable none of the k pairs from at has goes after the first j of them.
pub record Place (ns w : List ℕ) (at k x j : ℕ) : Type 0 where
  pub upto : j ≤ k
  pub is : get tyvars (tyvar_of ns x) (sub_at ns w at k) ≡ none
      → (t : Ty) → insert tyvars (tyvar_of ns x, t) (sub_at ns w at k) ≡ sub_at ns w at j ++ (tyvar_of ns x, t) ∷ sub_at ns w (at + 2 * j) (k - j)

-- The words from to + 2 up to end moved down by two.
pub record Shifted (w w' : List ℕ) (to end : ℕ) : Type 0 where
  pub moved : (q : ℕ) → to ≤ q → q + 2 < end → get_or w' q 0 ≡ get_or w (q + 2) 0
  pub before : (q : ℕ) → q < to → get_or w' q 0 ≡ get_or w q 0
  pub after : (q : ℕ) → end ≤ q + 2 → get_or w' q 0 ≡ get_or w q 0

-- The c pairs from at have their types in the table, which lies below.
pub record Fits (w : List ℕ) (top at c : ℕ) : Type 0 where
  pub table : Table w top
  pub under : 4 * top ≤ at
  pub sub : Sub w top at c

-- w' is w with the pair x, t put in its place among the k pairs from to + 2, none of which has its variable.
pub record Opened (ns w w' : List ℕ) (to k x t : ℕ) : Type 0 where
  pub before : (q : ℕ) → q < to → get_or w' q 0 ≡ get_or w q 0
  pub after : (q : ℕ) → to + 2 + 2 * k ≤ q → get_or w' q 0 ≡ get_or w q 0
  pub is : (top : ℕ) → 4 * top ≤ to → Fits w top (to + 2) k → Node w top t → get tyvars (tyvar_of ns x) (sub_at ns w (to + 2) k) ≡ none
      → Fits w' top to (k + 1) × (sub_at ns w' to (k + 1) ≡ insert tyvars (tyvar_of ns x, tree ns w t) (sub_at ns w (to + 2) k))

-- The c pairs that end at hi became r pairs that end there, one more or none.
pub record Added (ns w w' : List ℕ) (hi c x t r : ℕ) : Type 0 where
  pub before : (q : ℕ) → q + 2 * c + 2 < hi → get_or w' q 0 ≡ get_or w q 0
  pub after : (q : ℕ) → hi ≤ q → get_or w' q 0 ≡ get_or w q 0
  pub least : c ≤ r
  pub most : r ≤ c + 1
  pub is : (top : ℕ) → 4 * top + 2 * c + 2 ≤ hi → Fits w top (hi - 2 * c) c → Node w top t
      → Fits w' top (hi - 2 * r) r × (sub_at ns w' (hi - 2 * r) r ≡ insert_new (tyvar_of ns x, tree ns w t) (sub_at ns w (hi - 2 * c) c))

-- k₂ pairs from lo and k₁ pairs after them, each in order; between table and stack is room for 8 words a step.
pub record Both (ns w : List ℕ) (top left lo k₂ k₁ : ℕ) : Type 0 where
  pub names : Names ns
  pub table : Table w top
  pub room : 4 * top + 8 * left ≤ lo
  pub self : Sub w top lo k₂
  pub other : Sub w top (lo + 2 * k₂) k₁
  pub self_sorted : Sorted tyvars (sub_at ns w lo k₂)
  pub other_sorted : Sorted tyvars (sub_at ns w (lo + 2 * k₂) k₁)

-- The same two regions, in any order, with nothing asked of the room.
pub record Regions (ns w : List ℕ) (top lo k₂ k₁ : ℕ) : Type 0 where
  pub names : Names ns
  pub table : Table w top
  pub self : Sub w top lo k₂
  pub other : Sub w top (lo + 2 * k₂) k₁

-- What the comparison of the later region with the first one says: `agree` of the meaning, whatever the steps.
abbrev pub AgreesAs : List ℕ → List ℕ → ℕ → ℕ → ℕ → ℕ → Result (Unit {0}) Refusal → Type 0
AgreesAs ns w top lo k₂ k₁ (Ok u) = (left : ℕ) → agree (sub_at ns w (lo + 2 * k₂) k₁) (sub_at ns w lo k₂) left ≡ done tt left
AgreesAs ns w top lo k₂ k₁ (Err e) = (left : ℕ) → Refuses ns w top left (agree (sub_at ns w (lo + 2 * k₂) k₁) (sub_at ns w lo k₂) left) e top left

pub record Agrees (ns w : List ℕ) (top lo k₂ k₁ : ℕ) (r : Result (Unit {0}) Refusal) : Type 0 where
  pub says : AgreesAs ns w top lo k₂ k₁ r

-- Both regions became one of r pairs, which ends where they ended.
pub record Merged (ns w w' : List ℕ) (lo k₂ k₁ r : ℕ) : Type 0 where
  pub before : (q : ℕ) → q < lo → get_or w' q 0 ≡ get_or w q 0
  pub after : (q : ℕ) → lo + 2 * k₂ + 2 * k₁ ≤ q → get_or w' q 0 ≡ get_or w q 0
  pub most : r ≤ k₂ + k₁
  pub is : (top left : ℕ) → Both ns w top left lo k₂ k₁
      → Fits w' top (lo + 2 * k₂ + 2 * k₁ - 2 * r) r × (sub_at ns w' (lo + 2 * k₂ + 2 * k₁ - 2 * r) r ≡ merge_new (sub_at ns w lo k₂) (sub_at ns w (lo + 2 * k₂) k₁))

-- ## Answers that are regions: Done k top left says the k pairs that end at hi

-- The region, in order; at most b words are spoken for: the table's, the region's, and 8 for each step left. Table and
-- steps take no more than they did, and the region no more than b left beside them.
pub record GrownSub (b : ℕ) (ns w' : List ℕ) (top left hi top' left' k : ℕ) : Type 0 where
  pub table : Table w' top'
  pub sub : Sub w' top' (hi - 2 * k) k
  pub sorted : Sorted tyvars (sub_at ns w' (hi - 2 * k) k)
  pub more : top ≤ top'
  pub spent : 4 * top' + 8 * left' + 2 * k ≤ b
  pub own : 4 * top' + 8 * left' ≤ 4 * top + 8 * left
  pub few : 4 * top + 8 * left + 2 * k ≤ b
  pub down : left' ≤ left

abbrev pub AnswerSub : ℕ → List ℕ → List ℕ → ℕ → ℕ → ℕ → Out Subst → Applied → Type 0
AnswerSub b ns w' top left hi o (Done k top' left') = (o ≡ done (sub_at ns w' (hi - 2 * k) k) left') × GrownSub b ns w' top left hi top' left' k
AnswerSub b ns w' top left hi o (Refused e top' left') = Refuses ns w' top left o e top' left'

-- The words became w': table and stack stand, and so do the free words between what may be used and the regions.
pub record GivesSub (b : ℕ) (ns w w' : List ℕ) (top left hi : ℕ) (o : Out Subst) (r : Applied) : Type 0 where
  pub stands : Stands w w' top hi
  pub mid : (q : ℕ) → 4 * top + 8 * left ≤ q → q + b < hi + 4 * top + 8 * left → get_or w' q 0 ≡ get_or w q 0
  pub answer : AnswerSub b ns w' top left hi o r

-- The other region was swept: its types have been replaced.
pub record SweptOn (ns w w' : List ℕ) (top left lo k₂ k₁ top' left' : ℕ) (o : Out Subst) : Type 0 where
  pub more : top ≤ top'
  pub spent : 4 * top' + 8 * left' ≤ 4 * top + 8 * left
  pub down : left' ≤ left
  pub both : Both ns w' top' left' lo k₂ k₁
  pub same : sub_at ns w' lo k₂ ≡ sub_at ns w lo k₂
  pub is : o ≡ done (sub_at ns w' (lo + 2 * k₂) k₁) left'

abbrev pub SweptAs : List ℕ → List ℕ → List ℕ → ℕ → ℕ → ℕ → ℕ → ℕ → Out Subst → Result (Unit {0}) Refusal → ℕ → ℕ → Type 0
SweptAs ns w w' top left lo k₂ k₁ o (Ok u) top' left' = SweptOn ns w w' top left lo k₂ k₁ top' left' o
SweptAs ns w w' top left lo k₂ k₁ o (Err e) top' left' = Refuses ns w' top left o e top' left'

pub record Swept (ns w w' : List ℕ) (top left lo k₂ k₁ : ℕ) (o : Out Subst) (r : Result (Unit {0}) Refusal) (top' left' : ℕ) : Type 0 where
  pub stands : Stands w w' top (lo + 2 * k₂ + 2 * k₁)
  pub mid : (q : ℕ) → 4 * top + 8 * left ≤ q → q < lo → get_or w' q 0 ≡ get_or w q 0
  pub answer : SweptAs ns w w' top left lo k₂ k₁ o r top' left'
