-- The loops of `by_inst` and `none_overlaps`: what is left of the instances gives what all of them give.
use Prim.Native.Nat.{ℕ, suc, ◌+◌, ◌<◌, ◌≤◌}
use native.Mathlib.Omega.{arith}
use mathlib.Core.Path.{◌≡◌, refl, ap, sym, ◌∙◌}
use mathlib.Core.Bool.{Bool, true, false}
use mathlib.Core.List.{List, ◌∷◌}
use mathlib.Core.Option.{Option, none}
use lib.ListN.{length, get_or}
use Rattle.meaning.specs.Base.{is_yes, if}
use Rattle.meaning.specs.Ast.{Pred, pred, same_name}
use Rattle.meaning.specs.Errors.{duplicate_instance}
use Rattle.meaning.specs.Budget.{Out, done, Steps, after, pure, refuse, attempt}
use Rattle.meaning.specs.Unify.{match_pred}
use Rattle.meaning.specs.Classes.{InstanceInfo, Chosen, chosen, by_inst, overlaps, none_overlaps}
use Rattle.names.specs.Names.{name_of}
use Rattle.ast.specs.Table.{tree}
use Rattle.ast.proofs.Laws.{kept_tree}
use Rattle.errors.specs.Refusals.{Refuses}
use Rattle.errors.specs.declared.Refusal.{Refusal}
use Rattle.errors.specs.declared.Refusal.TheVariants.{DuplicateInstance}
use Rattle.pairs.specs.Pairs.{Stands}
use Rattle.pairs.proofs.Frames.{stands_refl, stands_then, stands_node}
use Rattle.apply.proofs.Hand.{Then, then_done, refuse_on, is_then}
use Rattle.compose.specs.Answers.{GrownU}
use Rattle.instances.specs.Accepted.{Instances, head_of}
use Rattle.instances.specs.Picks.{tried, clash, ReadyPick, Tries, GivesPick, Tests, GivesApart}
use Rattle.instances.specs.Tried.{Tried}
use Rattle.instances.specs.Tried.{Got, Failed, Limit}
use Rattle.instances.specs.Picked.{At, Nothing, Refused as Pick-Refused}
use Rattle.instances.specs.Truth.{Truth}
use Rattle.instances.specs.Truth.{Yes, No, Refused as Truth-Refused}
use Rattle.instances.specs.Apart.{All, Refused as Apart-Refused}
use Rattle.instances.proofs.Held.{from, Next, next, from_end, stored_head, instances_kept, heads_kept}
use Rattle.instances.proofs.Attempts.{match_got, match_failed, match_limit}

-- ## The meaning's loops at one instance

-- The first instance is tried, then it is chosen or the others are looked at.
by_inst_opens : (k : ℕ) (x : InstanceInfo) (rest : List InstanceInfo) (p : Pred) (n : ℕ)
    → by_inst k (x ∷ rest) p n ≡ after (tried x.head p n) (λ r. chosen k x r (by_inst (suc k) rest p))
unfolding by_inst tried chosen after
by_inst_opens k x rest p n = go (is_yes (same_name x.head.class p.class))
  where
    go : (b : Bool) → if b (λ m. after (attempt (match_pred x.head p) m) (λ r. chosen k x r (by_inst (suc k) rest p))) (by_inst (suc k) rest p) n
        ≡ after (if b (attempt (match_pred x.head p)) (pure none) n) (λ r. chosen k x r (by_inst (suc k) rest p))
    go true = refl
    go false = refl

-- The first instance is tested, then it is a duplicate or the others are looked at.
none_opens : (x : InstanceInfo) (rest : List InstanceInfo) (p : Pred) (n : ℕ)
    → none_overlaps (x ∷ rest) p n ≡ after (clash x.head p n) (λ b. if b (refuse (duplicate_instance p)) (none_overlaps rest p))
unfolding none_overlaps clash after
none_opens x rest p n = go (is_yes (same_name x.head.class p.class))
  where
    go : (b : Bool) → if b (λ m. after (overlaps x.head.ty p.ty m) (λ o. if o (refuse (duplicate_instance p)) (none_overlaps rest p))) (none_overlaps rest p) n
        ≡ after (if b (overlaps x.head.ty p.ty) (pure false) n) (λ o. if o (refuse (duplicate_instance p)) (none_overlaps rest p))
    go true = refl
    go false = refl

-- ## The invariant, for a loop of the meaning that begins at an instance's number

-- The first i instances were passed, with left steps left of left₀.
pub record Going {A : Type 0} (run : ℕ → List InstanceInfo → Steps A) (ns w₀ il : List ℕ) (top left₀ sp : ℕ) (w : List ℕ) (left i : ℕ) : Type 0 where
  pub stands : Stands w₀ w top sp
  pub long : length w ≡ length w₀
  pub down : left ≤ left₀
  pub out : (insts : List InstanceInfo) → Instances ns w₀ top il insts → run 0 insts left₀ ≡ run i (from i insts) left

-- At first none were.
pub going : {A : Type 0} (run : ℕ → List InstanceInfo → Steps A) (ns w il : List ℕ) (top left sp : ℕ) → Going run ns w il top left sp w left 0
unfolding from
going run ns w il top left sp = record { stands = stands_refl _ _ _; long = refl; down = omega arith; out = λ insts I. refl }

module _ {A : Type 0} {run : ℕ → List InstanceInfo → Steps A} {ns w₀ il : List ℕ} {top left₀ sp t : ℕ} (R : ReadyPick ns w₀ il top left₀ sp t)
    {w : List ℕ} {left i : ℕ} (S : Going run ns w₀ il top left₀ sp w left i) where
  -- What the next attempt asks.
  pub going_ready : ReadyPick ns w il top left sp t
  going_ready =
      let e = S.long in
      let d = S.down in
      let r = R.room in
      let f = R.fits in
      let N = stands_node S.stands (omega arith) R.node in
      record { names = R.names; node = N; heads = heads_kept S.stands.low N.table (omega arith) R.heads; room = omega arith; fits = omega arith }

  -- One instance more was passed.
  going_on : {w₁ : List ℕ} {l : ℕ} → Stands w w₁ top sp → length w₁ ≡ length w → l ≤ left
      → ((insts : List InstanceInfo) → Instances ns w₀ top il insts → run i (from i insts) left ≡ run (suc i) (from (suc i) insts) l)
      → Going run ns w₀ il top left₀ sp w₁ l (i + 1)
  going_on F e h o =
      let x = S.long in
      let d = S.down in
      let z : i + 1 ≡ suc i = omega arith in
      record { stands = stands_then S.stands F (omega arith); long = omega arith; down = omega arith; out = λ insts I. rw z (S.out insts I ∙ o insts I) }

  -- The goal and the head of the next instance, in the words as they are now.
  module _ (h : i < length il) (insts : List InstanceInfo) (I : Instances ns w₀ top il insts) where
    -- The next instance.
    the_next : Next i insts
    the_next = let m = I.many in next i insts (omega arith)

    -- Its head.
    next_head : the_next.inst.head ≡ head_of ns w (get_or il i 0)
    next_head =
        let N = going_ready.node.table in
        stored_head ((instances_kept S.stands.low N (omega arith) I).each i the_next.inst the_next.there)

  -- The goal's type.
  goal_kept : tree ns w t ≡ tree ns w₀ t
  goal_kept = kept_tree ns S.stands.low R.node

-- ## by_inst

-- The loop of the meaning for a goal.
abbrev pub picks : Pred → ℕ → List InstanceInfo → Steps (Option Chosen)
picks p = λ k insts. by_inst k insts p

-- A match for a caller that began with no fewer steps.
grown_on : {ns w : List ℕ} {top left left₀ hi t l k : ℕ} → GrownU 1 0 ns w top left hi t l k → left ≤ left₀ → GrownU 1 0 ns w top left₀ hi t l k
grown_on g h =
    let s = g.spent in
    let d = g.down in
    record { table = g.table; sub = g.sub; sorted = g.sorted; more = g.more; spent = omega arith; down = omega arith }

module _ {ns w₀ il : List ℕ} {top left₀ sp t : ℕ} (R : ReadyPick ns w₀ il top left₀ sp t) (c : ℕ)
    {w : List ℕ} {left i : ℕ} (S : Going (picks (pred (name_of ns c) (tree ns w₀ t))) ns w₀ il top left₀ sp w left i) where
  -- No instance is left.
  pub pick_none : length il ≤ i → GivesPick ns w₀ w il top left₀ sp (pred (name_of ns c) (tree ns w₀ t)) (Nothing left)
  unfolding by_inst
  pick_none h = record {
    stands = S.stands;
    answer = λ insts I. let m = I.many in
        (S.out insts I ∙ ap (λ xs. by_inst i xs (pred (name_of ns c) (tree ns w₀ t)) left) (from_end i insts (omega arith)), S.down);
  }

  module _ (h : i < length il) {w₁ : List ℕ} {r : Tried}
      (G : Tries ns w w₁ top left sp (tried (head_of ns w (get_or il i 0)) (pred (name_of ns c) (tree ns w t)) left) r) where
    -- What is left, by the attempt.
    pick_then : (insts : List InstanceInfo) (I : Instances ns w₀ top il insts)
        → Then (by_inst i (from i insts) (pred (name_of ns c) (tree ns w₀ t)) left) (tried (head_of ns w (get_or il i 0)) (pred (name_of ns c) (tree ns w t)) left)
        (λ v. chosen i (the_next R S h insts I).inst v (by_inst (suc i) (from (suc i) insts) (pred (name_of ns c) (tree ns w₀ t))))
    pick_then insts I =
        let N = the_next R S h insts I in
        let p = pred (name_of ns c) (tree ns w₀ t) in
        record {
          is = ap (λ xs. by_inst i xs p left) N.opens ∙ by_inst_opens i N.inst (from (suc i) insts) p left
              ∙ ap (λ q. after (tried q p left) (λ v. chosen i N.inst v (by_inst (suc i) (from (suc i) insts) p))) (next_head R S h insts I)
              ∙ ap (λ u. after (tried (head_of ns w (get_or il i 0)) (pred (name_of ns c) u) left) (λ v. chosen i N.inst v (by_inst (suc i) (from (suc i) insts) p))) (sym (goal_kept R S));
        }

    -- The next instance matches.
    pub pick_at : {k t₁ l₁ : ℕ} → r ≡ Got k t₁ l₁ → GivesPick ns w₀ w₁ il top left₀ sp (pred (name_of ns c) (tree ns w₀ t)) (At i k t₁ l₁)
    unfolding chosen
    pick_at e = record {
      stands = stands_then S.stands G.stands (omega arith);
      answer = λ insts I. record {
        inst = (the_next R S h insts I).inst;
        there = (the_next R S h insts I).there;
        is = S.out insts I ∙ then_done _ _ (pick_then insts I) (match_got G e).0;
        grown = grown_on (match_got G e).1 S.down;
      };
    }

    -- The attempt is refused.
    pub pick_refused : {u : Refusal} {t₁ l₁ : ℕ} → r ≡ Limit u t₁ l₁ → GivesPick ns w₀ w₁ il top left₀ sp (pred (name_of ns c) (tree ns w₀ t)) (Pick-Refused u t₁ l₁)
    pick_refused e = record {
      stands = stands_then S.stands G.stands (omega arith);
      answer = λ insts I. let d = S.down in refuse_on (is_then (S.out insts I) (pick_then insts I)) (match_limit G e) (omega arith) d;
    }

    -- It does not match, and the loop goes on.
    pub pick_on : {l₁ : ℕ} → r ≡ Failed l₁ → length w₁ ≡ length w → Going (picks (pred (name_of ns c) (tree ns w₀ t))) ns w₀ il top left₀ sp w₁ l₁ (i + 1)
    unfolding chosen
    pick_on e y = going_on R S G.stands y (match_failed G e).1 (λ insts I. then_done _ _ (pick_then insts I) (match_failed G e).0)

-- ## none_overlaps

-- The loop of the meaning for a new head.
abbrev pub parts_from : Pred → ℕ → List InstanceInfo → Steps (Unit {0})
parts_from p = λ k insts. none_overlaps insts p

-- What a test gave, by the arm of the match.
module _ {ns w w₁ : List ℕ} {top left sp : ℕ} {o : Out Bool} {r : Truth} (G : Tests ns w w₁ top left sp o r) where
  -- It is so.
  is_so : {l : ℕ} → r ≡ Yes l → (o ≡ done true l) × (l ≤ left)
  is_so h = rw h at G.answer

  -- It is not.
  is_not : {l : ℕ} → r ≡ No l → (o ≡ done false l) × (l ≤ left)
  is_not h = rw h at G.answer

  -- It is refused.
  is_refused : {e : Refusal} {t l : ℕ} → r ≡ Truth-Refused e t l → Refuses ns w₁ top left o e t l
  is_refused h = rw h at G.answer

module _ {ns w₀ il : List ℕ} {top left₀ sp t : ℕ} (R : ReadyPick ns w₀ il top left₀ sp t) (c : ℕ)
    {w : List ℕ} {left i : ℕ} (S : Going (parts_from (pred (name_of ns c) (tree ns w₀ t))) ns w₀ il top left₀ sp w left i) where
  -- No instance is left.
  pub apart_all : length il ≤ i → GivesApart ns w₀ w il top left₀ sp (pred (name_of ns c) (tree ns w₀ t)) (All left)
  unfolding none_overlaps
  apart_all h = record {
    stands = S.stands;
    answer = λ insts I. let m = I.many in
        (S.out insts I ∙ ap (λ xs. none_overlaps xs (pred (name_of ns c) (tree ns w₀ t)) left) (from_end i insts (omega arith)), S.down);
  }

  module _ (h : i < length il) {w₁ : List ℕ} {r : Truth}
      (G : Tests ns w w₁ top left sp (clash (head_of ns w (get_or il i 0)) (pred (name_of ns c) (tree ns w t)) left) r) where
    -- What is left, by the test.
    apart_then : (insts : List InstanceInfo) (I : Instances ns w₀ top il insts)
        → Then (none_overlaps (from i insts) (pred (name_of ns c) (tree ns w₀ t)) left) (clash (head_of ns w (get_or il i 0)) (pred (name_of ns c) (tree ns w t)) left)
        (λ b. if b (refuse (duplicate_instance (pred (name_of ns c) (tree ns w₀ t)))) (none_overlaps (from (suc i) insts) (pred (name_of ns c) (tree ns w₀ t))))
    apart_then insts I =
        let N = the_next R S h insts I in
        let p = pred (name_of ns c) (tree ns w₀ t) in
        record {
          is = ap (λ xs. none_overlaps xs p left) N.opens ∙ none_opens N.inst (from (suc i) insts) p left
              ∙ ap (λ q. after (clash q p left) (λ b. if b (refuse (duplicate_instance p)) (none_overlaps (from (suc i) insts) p))) (next_head R S h insts I)
              ∙ ap (λ u. after (clash (head_of ns w (get_or il i 0)) (pred (name_of ns c) u) left) (λ b. if b (refuse (duplicate_instance p)) (none_overlaps (from (suc i) insts) p))) (sym (goal_kept R S));
        }

    -- The next instance overlaps: 18.
    pub apart_not : {l₁ : ℕ} → r ≡ Yes l₁ → length w₁ ≡ length w → GivesApart ns w₀ w₁ il top left₀ sp (pred (name_of ns c) (tree ns w₀ t)) (Apart-Refused (DuplicateInstance c t) top l₁)
    apart_not e y =
        let F = stands_then S.stands G.stands (omega arith) in
        let d = S.down in
        let x = (is_so G e).1 in
        let z = S.long in
        record {
          stands = F;
          answer = λ insts I. record {
            is = S.out insts I ∙ then_done _ _ (apart_then insts I) (is_so G e).0 ∙ rw (kept_tree ns F.low R.node);
            types = stands_node F (omega arith) R.node;
            more = omega arith;
            down = omega arith;
          };
        }

    -- The test is refused.
    pub apart_refused : {u : Refusal} {t₁ l₁ : ℕ} → r ≡ Truth-Refused u t₁ l₁ → GivesApart ns w₀ w₁ il top left₀ sp (pred (name_of ns c) (tree ns w₀ t)) (Apart-Refused u t₁ l₁)
    apart_refused e = record {
      stands = stands_then S.stands G.stands (omega arith);
      answer = λ insts I. let d = S.down in refuse_on (is_then (S.out insts I) (apart_then insts I)) (is_refused G e) (omega arith) d;
    }

    -- It does not overlap, and the loop goes on.
    pub apart_on : {l₁ : ℕ} → r ≡ No l₁ → length w₁ ≡ length w → Going (parts_from (pred (name_of ns c) (tree ns w₀ t))) ns w₀ il top left₀ sp w₁ l₁ (i + 1)
    apart_on e y = going_on R S G.stands y (is_not G e).1 (λ insts I. then_done _ _ (apart_then insts I) (is_not G e).0)
