-- The type first, then the predicates.
use mathlib.Core.Path.{sym}
use Rattle.pairs.proofs.Frames.{long}
use Rattle.free.proofs.Plain.{count_types}
use Rattle.free.proofs.Arms.{from_none, scheme_is}
use Rattle.free.proofs.Ways.{wants_as, collects_as, first_wants, types_next, types_then}
use Rattle.free.proofs.ftv_scheme.Goals as goal

pub free_type-r-requires-clause-wants : goal.free_type-r-requires-clause-wants
free_type-r-requires-clause-wants c = first_wants (count_types _ _ _) (wants_as (sym (from_none _ _)) (scheme_is _ c.requires.node_2 _ _) c.requires.wants)

pub free_types-requires-clause-wants : goal.free_types-requires-clause-wants
free_types-requires-clause-wants c = let q = types_next c.requires.node c.requires.node_2 c.free_type-r.ensures.collects (wants_as (sym (from_none _ _)) (scheme_is _ c.requires.node_2 _ _) c.requires.wants) (long c.args.base.now.words.now c.free_type-r.new.work c.args.work.now c.free_type-r.auto.work) in q.wants

pub returns-clause-collects : goal.returns-clause-collects
returns-clause-collects c = collects_as (from_none _ _) (sym (scheme_is _ c.requires.node_2 _ _)) (types_then c.requires.node c.requires.node_2 c.free_type-r.ensures.collects c.free_types.ensures.collects)
