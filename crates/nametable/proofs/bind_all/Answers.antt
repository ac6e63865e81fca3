-- `nametable::bind_all` meets its contract. The loop's invariant: the first i names have their numbers. Assumes nothing.
use native.Mathlib.Omega.{arith}
use Rattle.nametable.proofs.Numbers.{none_bound, one_bound, all_bound}
use Rattle.nametable.proofs.bind_all.Goals as goal

pub loop-i-init : goal.loop-i-init
loop-i-init c = none_bound _ _ _ (omega arith) (omega arith)

pub bind-requires : goal.bind-requires
bind-requires c = record { i_in_bounds = omega (arith, c.loop-i.invariant.names-length); i_in_bounds_2 = omega (arith, c.loop-i.invariant.index_length) }

pub loop-i-preserved : goal.loop-i-preserved
loop-i-preserved c = one_bound c.loop-i.invariant (omega arith) c.bind.auto.names c.bind.auto.index c.bind.ensures

pub returns : goal.returns
returns c = all_bound c.loop-i.invariant (omega arith)
