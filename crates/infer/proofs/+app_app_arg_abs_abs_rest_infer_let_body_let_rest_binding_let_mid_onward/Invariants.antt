-- The measure is eight times the depth, and a number for each member that is called with the depth already lowered.
use Prim.Native.Nat.{◌+◌, ◌*◌}
use Rattle.infer.proofs.+app_app_arg_abs_abs_rest_infer_let_body_let_rest_binding_let_mid_onward.Given as goal

abbrev pub decreases-calls::app : goal.decreases-calls::app
decreases-calls::app l = 8 * l.depth + 7

abbrev pub decreases-calls::app_arg : goal.decreases-calls::app_arg
decreases-calls::app_arg l = 8 * l.depth + 6

abbrev pub decreases-functions::abs : goal.decreases-functions::abs
decreases-functions::abs l = 8 * l.depth + 7

abbrev pub decreases-functions::abs_rest : goal.decreases-functions::abs_rest
decreases-functions::abs_rest l = 8 * l.depth + 6

abbrev pub decreases-infer : goal.decreases-infer
decreases-infer l = 8 * l.depth

abbrev pub decreases-inside::let_body : goal.decreases-inside::let_body
decreases-inside::let_body l = 8 * l.depth + 5

abbrev pub decreases-inside::let_rest : goal.decreases-inside::let_rest
decreases-inside::let_rest l = 8 * l.depth + 4

abbrev pub decreases-lets::binding : goal.decreases-lets::binding
decreases-lets::binding l = 8 * l.depth + 7

abbrev pub decreases-lets::let_mid : goal.decreases-lets::let_mid
decreases-lets::let_mid l = 8 * l.depth + 6

abbrev pub decreases-onward : goal.decreases-onward
decreases-onward l = 8 * l.depth + 1
