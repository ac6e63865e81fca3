-- The outer loop of `search`: what all givens give is what those from g on give now.
use mathlib.Core.Path.{◌≡◌, refl, ap, ◌∙◌}
use mathlib.Core.Bool.{Bool}
use mathlib.Core.List.{List}
use mathlib.Core.Option.{Option}
use Prim.Native.Nat.{ℕ, suc, ◌+◌, ◌*◌, ◌-◌, ◌<◌, ◌≤◌}
use native.Mathlib.Omega.{arith}
use native.Mathlib.Numerals.{add-one}
use lib.ListN.{length}
use Rattle.meaning.specs.Base.{is_yes}
use Rattle.meaning.specs.Ast.{same_ty, pred, Core}
use Rattle.meaning.specs.Budget.{Steps}
use Rattle.meaning.specs.Classes.{ClassEnv, from_givens}
use Rattle.names.specs.Names.{name_of}
use Rattle.ast.specs.Table.{tree, Node}
use Rattle.ast.proofs.Laws.{kept_tree, kept_node, low_node}
use Rattle.errors.specs.declared.Refusal.TheVariants.{Depth, Steps as No-Steps}
use Rattle.pairs.specs.Pairs.{Stands}
use Rattle.pairs.proofs.Frames.{stands_refl, stands_then, stands_up}
use Rattle.cores.specs.Terms.{core}
use Rattle.cores.proofs.TermLaws.{kept_core}
use Rattle.supers.specs.declared.Source.{Source}
use Rattle.supers.specs.declared.Given.{Given}
use Rattle.std.specs.Prelude.{Option as Maybe, Some, None}
use Rattle.supers.specs.declared.path.Entered.{Entered}
use Rattle.supers.specs.declared.path.Entered.TheVariants.{Deep, Spent, Hit}
use Rattle.supers.specs.Searched.{Found, Nothing as Found-Nothing, Refused}
use Rattle.supers.specs.ClassTable.{Supers}
use Rattle.supers.specs.Givens.{givens_in, ahead, First, GivenAt}
use Rattle.supers.specs.Frames.{Enters, Built}
use Rattle.supers.specs.Search.{hits, ReadyIn, GivesFound}
use Rattle.supers.proofs.GivenLaws.{kept_givens, kept_ready}
use Rattle.supers.proofs.Goals.{proj_hit, proj_miss, root_hit, root_miss}
use Rattle.supers.proofs.Rest.{Way, or_then, todo, next, pending, enters}
use Rattle.supers.proofs.Walk.{Fine, Walking, Going, holds_at, enter_stands}

-- What the givens from l on give, the first of them being the i-th.
abbrev pub sought : List ℕ → List ℕ → List ℕ → Source → ℕ → ℕ → Bool → ℕ → ℕ → ClassEnv → Steps (Option Core)
sought ns w bs src i l proper goal t ce = from_givens ce (givens_in ns w bs src i l) (hits proper (pred (name_of ns goal) (tree ns w t)))

-- The loop has come to the givens from g on, with n steps left.
pub record Asking (ns cl bs w₀ : List ℕ) (top left sp : ℕ) (src : Source) (l : ℕ) (proper : Bool) (goal t : ℕ) (w : List ℕ) (g i n : ℕ) : Type 0 where
  pub ready : ReadyIn ns w bs top n sp src i g t
  pub stands : Stands w₀ w top sp
  pub long : length w ≡ length w₀
  pub down : n ≤ left
  pub past : i + ahead src g ≤ ahead src l
  pub is : (ce : ClassEnv) → Supers ns cl ce → sought ns w₀ bs src 0 l proper goal t ce left ≡ sought ns w bs src i g proper goal t ce n

-- At first to all of them.
pub asking : {ns w bs : List ℕ} {top left sp l t : ℕ} {src : Source} (cl : List ℕ) (proper : Bool) (goal : ℕ) → ReadyIn ns w bs top left sp src 0 l t → Asking ns cl bs w top left sp src l proper goal t w l 0 left
asking cl proper goal R = record { ready = R; stands = stands_refl _ _ _; long = refl; down = omega arith; past = omega arith; is = λ ce S. refl }

module _ {ns cl bs w₀ w : List ℕ} {top left sp l goal t g i n : ℕ} {src : Source} {proper : Bool} (A : Asking ns cl bs w₀ top left sp src l proper goal t w g i n) where
  -- No givens are left.
  pub none_left : {q : Maybe Given} → GivenAt ns w bs top src i g q → q ≡ None → GivesFound ns cl w₀ w top left sp (λ ce. sought ns w₀ bs src 0 l proper goal t ce left) (Found-Nothing n)
  unfolding from_givens
  none_left G k = record { stands = A.stands; answer = record { down = A.down; is = λ ce S. A.is ce S ∙ rw (rw k at G.says) } }

  module _ {q : Maybe Given} {v : Given} {w₁ : List ℕ} {same : Bool} {r₁ : Entered} (G : GivenAt ns w bs top src i g q) (k : q ≡ Some v)
      (S : same ≡ is_yes (same_ty (tree ns w v.ty) (tree ns w t))) (E : Enters w w₁ sp 0 n v.class goal same proper r₁) where
    -- The first of them.
    first : First ns w bs top src i g v.dict v.class v.ty v.rest
    first = rw k at G.says

    -- The rest is shorter.
    pub rest_less : ahead src v.rest < ahead src g
    rest_less = first.less

    -- Its walk.
    way : ClassEnv → Way
    way ce = record { env = ce; hit = hits proper (pred (name_of ns goal) (tree ns w t)); root = core ns w v.dict; ty = tree ns w v.ty; rest = sought ns w bs src (suc i) v.rest proper goal t ce }

    -- It goes by the class table.
    fine : (ce : ClassEnv) → Supers ns cl ce → Fine ns cl goal same (way ce)
    unfolding way
    fine ce C = record {
      supers = C;
      hit = λ s f x. proj_hit ns A.ready.names s goal (tree ns w v.ty) (tree ns w t) S proper f x;
      miss = λ s f x. proj_miss ns A.ready.names s goal (tree ns w v.ty) (tree ns w t) S proper f x;
    }

    -- Room for the given's entry.
    enter_room : 4 * top + 8 * n + 8 * 0 ≤ sp
    enter_room = let x = A.ready.room in omega arith

    -- What stands over the given's entry.
    entered : Stands w w₁ top sp × (length w₁ ≡ length w)
    entered = enter_stands w w₁ top sp 0 n v.class goal same proper r₁ enter_room E.says

    -- What is sought is what is left after the given's entry.
    begins : (ce : ClassEnv) → Supers ns cl ce → sought ns w₀ bs src 0 l proper goal t ce left ≡ pending ns cl (way ce) w₁ sp r₁ 0 n
    unfolding way from_givens next or_then todo
    begins ce C =
        let x = A.ready.room in
        A.is ce C ∙ ap (λ gs. from_givens ce gs (hits proper (pred (name_of ns goal) (tree ns w t))) n) first.is
        ∙ enters ns cl (way ce) w w₁ sp 0 n v.class goal same proper r₁ (omega arith) A.ready.fits C
        (root_hit ns A.ready.names v.class goal (tree ns w v.ty) (tree ns w t) S proper (core ns w v.dict))
        (root_miss ns A.ready.names v.class goal (tree ns w v.ty) (tree ns w t) S proper (core ns w v.dict) first.named) E.says

    -- Room for the walk.
    pub walk_room : (4 * top + 8 * n ≤ sp) × (sp ≤ length w₁)
    walk_room = let x = A.ready.room in let f = A.ready.fits in let l₁ = entered.1 in (omega arith, omega arith)

    -- And for one more entry of it.
    pub turn_room : {w₂ : List ℕ} {n₂ d : ℕ} → Going ns cl w₁ top sp n goal same r₁ w₂ n₂ d → (4 * top + 8 * n₂ + 8 * d ≤ sp) × (sp ≤ length w₂)
    turn_room K = let x = walk_room.0 in let f = walk_room.1 in let p = K.paid in let l₂ = K.long in (omega arith, omega arith)

    -- The number of the next given.
    pub next_number : i + 1 ≤ ahead src l
    next_number = let a = A.past in let b = rest_less in omega arith

    -- Inside the walk, at the words w₂.
    module _ {w₂ : List ℕ} {n₂ d : ℕ} {r : Entered} (K : Walking ns cl w₁ top sp n goal same r₁ w₂ n₂ r d) where
      -- What was sought is what is left.
      so_far : (ce : ClassEnv) → Supers ns cl ce → sought ns w₀ bs src 0 l proper goal t ce left ≡ pending ns cl (way ce) w₂ sp r d n₂
      so_far ce C = begins ce C ∙ K.is (way ce) (fine ce C)

      -- What stands over it.
      since : Stands w w₂ top sp
      since = stands_then entered.0 K.stands (omega arith)

      -- As many words as at first.
      pub as_long : length w₂ ≡ length w₀
      as_long = K.long ∙ entered.1 ∙ A.long

      -- The entry lies too deep.
      pub too_far : r ≡ Deep → GivesFound ns cl w₀ w₂ top left sp (λ ce. sought ns w₀ bs src 0 l proper goal t ce left) (Refused Depth top n₂)
      unfolding pending
      too_far h =
          let p = K.paid in
          let y = A.down in
          record {
            stands = stands_then A.stands since (omega arith);
            answer = λ ce C. record { is = so_far ce C ∙ rw h; types = tt; more = omega arith; down = omega arith };
          }

      -- No step is left for it.
      pub no_step : r ≡ Spent → GivesFound ns cl w₀ w₂ top left sp (λ ce. sought ns w₀ bs src 0 l proper goal t ce left) (Refused No-Steps top n₂)
      unfolding pending
      no_step h = let z = holds_at K h in record {
        stands = stands_then A.stands since (omega arith);
        answer = λ ce C. record { is = so_far ce C ∙ rw (h, z); types = tt; more = omega arith; down = omega arith };
      }

      -- It is the goal, and its projections were made.
      pub is_goal : {w₃ : List ℕ} {p : ℕ} → r ≡ Hit → Built w₂ w₃ top sp d v.dict p → GivesFound ns cl w₀ w₃ top left sp (λ ce. sought ns w₀ bs src 0 l proper goal t ce left) (Found p (top + d) (n₂ - 1))
      unfolding pending way
      is_goal {w₃} {p} h B =
          let x = K.paid in
          let y = A.down in
          let z = holds_at K h in
          record {
            stands = stands_then A.stands (stands_then since (stands_up B.stands (omega arith)) (omega arith)) (omega arith);
            answer = record {
              node = B.node;
              more = omega arith;
              spent = omega arith;
              down = omega arith;
              is = λ ce C. so_far ce C ∙ rw (h, B.is ns, kept_core ns since.low (low_node A.ready.ty.table first.low));
            };
          }

      -- What `build` asks.
      pub build_ready : r ≡ Hit → (4 * top + 4 * d + 2 * d + 2 ≤ sp) × ((sp ≤ length w₂) × Node w₂ top v.dict)
      build_ready h =
          let x = K.paid in
          let y = A.ready.room in
          let f = A.ready.fits in
          let l₁ = entered.1 in
          let l₂ = K.long in
          let o = A.ready.ty.table.room in
          let z = holds_at K h in
          (omega arith, (omega arith, kept_node since.low (omega arith) (low_node A.ready.ty.table first.low)))

    -- The walk is over: the loop comes to the rest.
    pub asks_on : {w₂ : List ℕ} {n₂ d : ℕ} → Going ns cl w₁ top sp n goal same r₁ w₂ n₂ d → d ≡ 0 → Asking ns cl bs w₀ top left sp src l proper goal t w₂ v.rest (i + 1) n₂
    unfolding way todo
    asks_on {w₂} {n₂} {d} K h =
        let F = first in
        let since = stands_then entered.0 K.stands (omega arith) in
        let l₁ = entered.1 in
        let l₂ = K.long in
        let x = K.paid in
        let y = A.down in
        let m = A.ready.room in
        let f = A.ready.fits in
        let o = A.ready.ty.table.room in
        record {
          ready = record {
            names = A.ready.names;
            givens = rw (add-one i) (kept_ready ns bs src (suc i) v.rest since.low (omega arith) F.others);
            ty = kept_node since.low (omega arith) A.ready.ty;
            room = omega arith;
            fits = omega arith;
          };
          stands = stands_then A.stands since (omega arith);
          long = l₂ ∙ l₁ ∙ A.long;
          down = omega arith;
          past = (let a = A.past in let b = F.less in omega arith);
          is = λ ce C. begins ce C ∙ K.is (way ce) (fine ce C) ∙ rw (h, add-one i, kept_givens ns bs src (suc i) v.rest since.low F.others, kept_tree ns since.low A.ready.ty);
        }
