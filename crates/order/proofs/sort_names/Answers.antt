-- First the idle rows, then the others.
use mathlib.Core.Path.{◌∙◌}
use Rattle.order.proofs.Gathering.{none_gathered, half_gathered, all_gathered}
use Rattle.order.proofs.sort_names.Goals as goal

pub returns : goal.returns
returns c = all_gathered c.requires.order_len c.pass-m.ensures c.pass.ensures

pub pass-m-requires : goal.pass-m-requires
pass-m-requires c = record { names = c.requires.names; names_len = c.requires.names_len; order_len = c.requires.order_len; gathered = none_gathered _ _ }

pub pass-requires : goal.pass-requires
pass-requires c = record { names = c.requires.names; names_len = c.requires.names_len; order_len = c.pass-m.ensures.wide ∙ c.requires.order_len; gathered = half_gathered c.pass-m.ensures }
