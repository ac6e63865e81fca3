-- The ways out of `gather`, from what the calls gave: the lowest region stands while the other two become one, and is
-- then raised to lie just below that.
use mathlib.Core.Path.{◌≡◌, ◌∙◌, subst}
use mathlib.Core.List.{List}
use Prim.Native.Nat.{ℕ, ◌+◌, ◌*◌, ◌-◌, ◌<◌, ◌≤◌}
use native.Mathlib.Omega.{arith}
use lib.ListN.{length, get_or}
use Rattle.meaning.specs.Budget.{Out, done, after}
use Rattle.meaning.specs.Subst.{Subst, compose}
use Rattle.names.specs.Names.{first_node}
use Rattle.ast.specs.Table.{Kept}
use Rattle.ast.proofs.Laws.{kept_table, kept_then}
use Rattle.errors.specs.declared.Refusal.{Refusal}
use Rattle.pairs.specs.Pairs.{sub_at, Stands}
use Rattle.pairs.proofs.Frames.{stands_then, stands_up, sub-later, sub_stands}
use Rattle.apply.specs.Applied.{Applied}
use Rattle.apply.specs.Applied.{Done, Refused}
use Rattle.compose.specs.Compose.{Both, GrownSub, GivesSub}
use Rattle.compose.specs.Answers.{GivesU, ReadyJoin}
use Rattle.compose.proofs.Pieces.{sub_copy}
use Rattle.unify.proofs.Hand.{refuses_on, on, because}
use Rattle.unify.proofs.Single.{join_both, joins}
use Rattle.ends.specs.Ends.{gathered, Raised, ReadyGather}

module _ {ns w : List ℕ} {top left sp k₃ k₂ k₁ : ℕ} (R : ReadyGather ns w top left sp k₃ k₂ k₁) where
  -- The two upper regions side by side.
  upper : ReadyJoin ns w top left sp k₂ k₁
  upper = let r = R.room in record { names = R.names; table = R.table; room = omega arith; self = R.self; other = R.other; self_sorted = R.self_sorted; other_sorted = R.other_sorted }

  -- What `compose_in` asks of them.
  pub gather_both : Both ns w top left (sp - 2 * k₁ - 2 * k₂) k₂ k₁
  gather_both = join_both upper

  -- The outcome.
  abbrev whole : Out Subst
  whole = gathered (sub_at ns w (sp - 2 * k₁ - 2 * k₂ - 2 * k₃) k₃) (sub_at ns w (sp - 2 * k₁ - 2 * k₂) k₂) (sub_at ns w (sp - 2 * k₁) k₁) left

  module _ {w₁ : List ℕ} {r : Applied}
      (G : GivesSub (4 * top + 8 * left + 2 * k₂ + 2 * k₁) ns w w₁ top left (sp - 2 * k₁ - 2 * k₂ + 2 * k₂ + 2 * k₁)
      (compose (sub_at ns w (sp - 2 * k₁ - 2 * k₂) k₂) (sub_at ns w (sp - 2 * k₁ - 2 * k₂ + 2 * k₂) k₁) left) r) where
    -- The same where they end at sp.
    one : GivesSub (4 * top + 8 * left + 2 * k₂ + 2 * k₁) ns w w₁ top left sp (compose (sub_at ns w (sp - 2 * k₁ - 2 * k₂) k₂) (sub_at ns w (sp - 2 * k₁) k₁) left) r
    one =
        let z = R.room in
        let e : sp - 2 * k₁ - 2 * k₂ + 2 * k₂ ≡ sp - 2 * k₁ = omega arith in
        let f : sp - 2 * k₁ + 2 * k₁ ≡ sp = omega arith in
        rw (e, f) at G

    -- They are refused.
    pub gather_refused : {e : Refusal} {t l : ℕ} → r ≡ Refused e t l → GivesU 0 (2 * k₃ + 2 * k₂ + 2 * k₁) ns w w₁ top left sp whole (Refused e t l)
    unfolding gathered after
    gather_refused h = let Z = rw h at one.answer in because one.stands (refuses_on Z (rw Z.is) (omega arith) (omega arith))

    module _ {c t l : ℕ} (h : r ≡ Done c t l) (len : length w₁ ≡ length w) where
      -- The one that they became.
      got_one : (compose (sub_at ns w (sp - 2 * k₁ - 2 * k₂) k₂) (sub_at ns w (sp - 2 * k₁) k₁) left ≡ done (sub_at ns w₁ (sp - 2 * c) c) l)
          × GrownSub (4 * top + 8 * left + 2 * k₂ + 2 * k₁) ns w₁ top left sp t l c
      got_one = rw h at one.answer

      -- It has no more pairs than they had.
      pub gather_few : c ≤ k₂ + k₁
      gather_few = let f = got_one.1.few in omega arith

      -- The table did not shrink.
      pub gather_more : top ≤ t
      gather_more = got_one.1.more

      -- Table and steps take no more than they did.
      own : 4 * t + 8 * l ≤ 4 * top + 8 * left
      own = got_one.1.own

      -- All end in the words.
      pub gather_fits : sp ≤ length w₁
      gather_fits = let f = R.other.fits in let z = R.room in omega arith

      module _ {w₂ : List ℕ} (Z : Raised w₁ w₂ (sp - 2 * k₁ - 2 * k₂ - 2 * k₃) (sp - 2 * k₁ - 2 * k₂) (sp - 2 * c - (sp - 2 * k₁ - 2 * k₂))) (len₂ : length w₂ ≡ length w₁) where
        -- Table and upper region stand.
        lifted : Stands w₁ w₂ t (sp - 2 * c)
        lifted =
            let z = R.room in let o = own in let f = gather_few in
            record { low = record { at = λ i p. Z.before i (omega arith) }; high = λ i p. Z.after i (omega arith) }

        -- The first table stands over both calls.
        kept : Kept w w₂ top
        kept = kept_then one.stands.low lifted.low gather_more

        -- Where the words of the lowest region are now.
        word : (i : ℕ) → i < 2 * k₃ → get_or w₂ (sp - 2 * c - 2 * k₃ + i) 0 ≡ get_or w (sp - 2 * k₁ - 2 * k₂ - 2 * k₃ + i) 0
        word i p =
            let z = R.room in
            let f = gather_few in
            let e : sp - 2 * k₁ - 2 * k₂ - 2 * k₃ + i + (sp - 2 * c - (sp - 2 * k₁ - 2 * k₂)) ≡ sp - 2 * c - 2 * k₃ + i = omega arith in
            subst (λ (j : ℕ). get_or w₂ j 0 ≡ get_or w₁ (sp - 2 * k₁ - 2 * k₂ - 2 * k₃ + i) 0) e (Z.moved (sp - 2 * k₁ - 2 * k₂ - 2 * k₃ + i) (omega arith) (omega arith))
            ∙ one.mid (sp - 2 * k₁ - 2 * k₂ - 2 * k₃ + i) (omega arith) (omega arith)

        -- It says what it said.
        last_same : sub_at ns w₂ (sp - 2 * c - 2 * k₃) k₃ ≡ sub_at ns w (sp - 2 * k₁ - 2 * k₂ - 2 * k₃) k₃
        last_same = sub_copy ns R.table kept (sp - 2 * k₁ - 2 * k₂ - 2 * k₃) (sp - 2 * c - 2 * k₃) k₃ R.last.bound word

        -- Its types lie in the table.
        bound : (i : ℕ) → i < k₃ → get_or w₂ (sp - 2 * c - 2 * k₃ + 2 * i + 1) 0 < first_node + t
        bound i p =
            let e : sp - 2 * c - 2 * k₃ + (2 * i + 1) ≡ sp - 2 * c - 2 * k₃ + 2 * i + 1 = omega arith in
            let f : sp - 2 * k₁ - 2 * k₂ - 2 * k₃ + (2 * i + 1) ≡ sp - 2 * k₁ - 2 * k₂ - 2 * k₃ + 2 * i + 1 = omega arith in
            let q : get_or w₂ (sp - 2 * c - 2 * k₃ + 2 * i + 1) 0 ≡ get_or w (sp - 2 * k₁ - 2 * k₂ - 2 * k₃ + 2 * i + 1) 0 = rw (e, f) at (word (2 * i + 1) (omega arith)) in
            rw q (let b = R.last.bound.node i p in let m = gather_more in omega arith)

        -- Both regions side by side.
        pub gather_join : ReadyJoin ns w₂ t l sp k₃ c
        gather_join =
            let z = R.room in let o = own in let f = gather_few in let v = gather_fits in let g = got_one.1 in let y = g.table.room in
            record {
              names = R.names;
              table = kept_table lifted.low (omega arith) g.table;
              room = omega arith;
              self = record { fits = omega arith; bound = record { node = bound } };
              other = sub-later lifted g.sub (omega arith) (omega arith) (omega arith);
              self_sorted = rw last_same R.last_sorted;
              other_sorted = rw (sub_stands ns g.table lifted g.sub (omega arith)) g.sorted;
            }

        -- They become the answer.
        pub gather_done : {w₃ : List ℕ} {q : Applied}
            → GivesSub (4 * t + 8 * l + 2 * k₃ + 2 * c) ns w₂ w₃ t l (sp - 2 * c - 2 * k₃ + 2 * k₃ + 2 * c) (compose (sub_at ns w₂ (sp - 2 * c - 2 * k₃) k₃) (sub_at ns w₂ (sp - 2 * c - 2 * k₃ + 2 * k₃) c) l) q
            → GivesU 0 (2 * k₃ + 2 * k₂ + 2 * k₁) ns w w₃ top left sp whole q
        unfolding gathered after
        gather_done J =
            let o = own in let f = gather_few in let g = got_one.1 in let d = g.down in
            on (stands_then one.stands (stands_up lifted (omega arith)) gather_more) gather_more
            (rw (got_one.0, last_same, sub_stands ns g.table lifted g.sub (omega arith))) (omega arith) (omega arith) (joins gather_join J)
