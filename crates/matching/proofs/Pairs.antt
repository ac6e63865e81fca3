-- A variable of a pattern: the answer is a region of one pair.
use Prim.Native.Nat.{ℕ, ◌+◌, ◌*◌, ◌-◌, ◌≤◌}
use native.Mathlib.Omega.{arith}
use mathlib.Core.Path.{◌≡◌, ◌∙◌}
use mathlib.Core.List.{List}
use lib.ListN.{length, set}
use Rattle.meaning.specs.Budget.{Out, done}
use Rattle.meaning.specs.Subst.{Subst, singleton}
use Rattle.names.specs.Names.{tyvar_of}
use Rattle.ast.specs.Table.{tree, Node}
use Rattle.ast.proofs.Laws.{kept_table}
use Rattle.pairs.specs.Pairs.{sub_at}
use Rattle.pairs.proofs.OnePair.{OnePut, one_put, pair_kept, pair_is, pair_sub}
use Rattle.apply.specs.Applied.{Done}
use Rattle.compose.specs.Answers.{GivesU}

module _ {w w₁ w₂ : List ℕ} {top sp t : ℕ} (ns : List ℕ) (N : Node w top t) (x : ℕ) (room : 4 * top + 2 ≤ sp) (fits : sp ≤ length w)
    (e : w₁ ≡ set w (sp - 2) x) (f : w₂ ≡ set w₁ (sp - 1) t) where
  -- The two stores.
  put : OnePut w w₂ sp x t
  put = one_put w sp x t (omega arith) fits e f

  -- The region is the pair.
  pair : sub_at ns w₂ (sp - 2 * 1) 1 ≡ singleton (tyvar_of ns x) (tree ns w t)
  pair = let g : sp - 2 * 1 ≡ sp - 2 = omega arith in rw g (pair_is put ns room N)

  -- One pair for one step.
  pub one_pair : {left : ℕ} {o : Out Subst} → (left ≡ 0 → ⊥) → o ≡ done (singleton (tyvar_of ns x) (tree ns w t)) (left - 1) → GivesU 1 0 ns w w₂ top left sp o (Done 1 top (left - 1))
  one_pair h g =
      let z = put.long in
      let y = N.table.room in
      let k : sp - 2 * 1 ≡ sp - 2 = omega arith in
      record {
        stands = record { low = pair_kept put top room; high = put.high };
        answer = (
          g ∙ rw pair,
          record {
            table = kept_table (pair_kept put top room) (omega arith) N.table;
            sub = rw k (pair_sub put N);
            sorted = rw pair (tt, tt);
            more = omega arith;
            spent = omega arith;
            down = omega arith;
          },
        );
      }
