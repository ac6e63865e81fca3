-- Rows that were tested and an empty table are what `simplify_context` asks for.
use mathlib.Core.List.{List}
use Prim.Native.Nat.{ℕ, ◌*◌, ◌≤◌}
use native.Mathlib.Omega.{arith}
use lib.ListN.{length}
use Rattle.names.specs.Names.{Names}
use Rattle.ast.proofs.Laws.{no_nodes}
use Rattle.supers.specs.Rows.{row_at}
use Rattle.simplify.specs.Simplified.{ReadySimplify}
use Rattle.cases.specs.Typed.{TypedRows}
use Rattle.cases.proofs.Rowed.{word_of, type_of_lem}

-- What it asks, without nodes.
pub rows_ready : (ns w bs : List ℕ) (left sp n : ℕ) → Names ns → TypedRows 0 bs n → 3 * n ≤ length bs → 8 * left ≤ sp → sp ≤ length w → ReadySimplify ns w bs 0 left sp n
rows_ready ns w bs left sp n N P f r s = record {
  names = N;
  table = no_nodes w;
  binders = record { rows = record { fits = f; dicts = λ j h. word_of 0 (row_at bs j) (P.row j h) }; types = λ j h. type_of_lem (no_nodes w) (row_at bs j) (P.row j h) };
  room = omega arith;
  fits = s;
}
