-- `names::kind_of` meets its contract: each return is the case that the tests chose. Assumes nothing.
use mathlib.Core.Path.{sym}
use Rattle.names.proofs.Where.{is_named, is_fresh, is_nullary, is_node}
use Rattle.names.proofs.kind_of.Goals as goal

pub returns-then-t-lt-FRESH : goal.returns-then-t-lt-FRESH
returns-then-t-lt-FRESH c = sym (is_named _ c.if-t-lt-FRESH.true)

pub returns-then-t-lt-NULLARY : goal.returns-then-t-lt-NULLARY
returns-then-t-lt-NULLARY c = sym (is_fresh _ c.if-t-lt-FRESH.false c.if-t-lt-NULLARY.true)

pub returns-then-t-lt-NODE : goal.returns-then-t-lt-NODE
returns-then-t-lt-NODE c = sym (is_nullary _ c.if-t-lt-FRESH.false c.if-t-lt-NULLARY.false c.if-t-lt-NODE.true)

pub returns : goal.returns
returns c = sym (is_node _ c.if-t-lt-FRESH.false c.if-t-lt-NULLARY.false c.if-t-lt-NODE.false)
