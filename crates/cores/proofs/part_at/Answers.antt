-- Each way out is the part of its kind of word.
use native.Mathlib.Omega.{arith}
use mathlib.Core.Path.{sym, ◌∙◌}
use Rattle.ast.proofs.Ranges.{node_word}
use Rattle.cores.specs.Parts.{part_of}
use Rattle.cores.proofs.part_at.Goals as goal

pub read_part-p-requires : goal.read_part-p-requires
read_part-p-requires c = let e = node_word _ (sym c.kind_of-k.ensures ∙ c.in-Node.is) in omega arith

pub returns-then-is_below : goal.returns-then-is_below
unfolding part_of
returns-then-is_below c = rw (sym c.kind_of-k.ensures ∙ c.in-Node.is, ← c.read_part-p.ensures, ← c.is_below.ensures, c.if-is_below.true)

pub returns-else-is_below : goal.returns-else-is_below
unfolding part_of
returns-else-is_below c = rw (sym c.kind_of-k.ensures ∙ c.in-Node.is, ← c.read_part-p.ensures, ← c.is_below.ensures, c.if-is_below.false)

pub returns-in-Named : goal.returns-in-Named
unfolding part_of
returns-in-Named c = rw (sym c.kind_of-k.ensures ∙ c.in-Named.is)

pub returns-in-Fresh : goal.returns-in-Fresh
unfolding part_of
returns-in-Fresh c = rw (sym c.kind_of-k.ensures ∙ c.in-Fresh.is)

pub returns-in-Nullary : goal.returns-in-Nullary
unfolding part_of
returns-in-Nullary c = rw (sym c.kind_of-k.ensures ∙ c.in-Nullary.is) c.constant_part.ensures
