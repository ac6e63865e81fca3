-- The reserved forms of texts.
use Rattle.std.specs.Prelude.{Bool, true, false, ◌||◌, List, [], ℕ}
use Rattle.std.proofs.Math.Option.{none, some}
use Rattle.meaning.specs.Base.{null}
use Rattle.meaning.specs.Text.{quoted}
use Rattle.meaning.specs.Reserved.{past, digits}

-- The text begins so, and what follows passes the test.
unfoldable pub follows : List ℕ → (List ℕ → Bool) → List ℕ → Bool
follows bs f cs = elim (past bs cs) [ none ↦ false | some ds ↦ f ds ]

-- The second text begins with the first.
unfoldable pub starts : List ℕ → List ℕ → Bool
starts bs cs = follows bs (λ ds. true) cs

-- The texts of the names for which `made_name` holds.
unfoldable pub word_text : List ℕ → Bool
word_text cs = follows (quoted "self" []) null cs || follows (quoted "d" []) digits cs || starts (quoted "d_ctx_" []) cs || starts (quoted "__super_" []) cs
