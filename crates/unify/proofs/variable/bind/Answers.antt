-- A variable against itself gives no pairs; all else is bound.
use Rattle.unify.proofs.Binding.{bind_self, bind_var, bind_con, bind_arrow}
use Rattle.unify.proofs.variable.bind.Goals as goal

pub returns-then-v-x : goal.returns-then-v-x
returns-then-v-x c = bind_self c.requires.binds c.shape_at-s.ensures _ c.in-Var.is c.if-v-x.true

pub returns-else-v-x : goal.returns-else-v-x
returns-else-v-x c = bind_var c.requires.binds c.shape_at-s.ensures _ c.bind_other.ensures c.in-Var.is c.if-v-x.false

pub returns-in-Con : goal.returns-in-Con
returns-in-Con c = bind_con c.requires.binds c.shape_at-s.ensures _ c.bind_other-in-Con.ensures c.in-Con.is

pub returns-in-Arrow : goal.returns-in-Arrow
returns-in-Arrow c = bind_arrow c.requires.binds c.shape_at-s.ensures _ c.bind_other-in-Arrow.ensures c.in-Arrow.is
