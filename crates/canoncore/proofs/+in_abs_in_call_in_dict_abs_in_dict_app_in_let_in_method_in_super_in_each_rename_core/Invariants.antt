-- Every member but `rename_core` makes one node of what the calls gave; the measure is twice the steps left, and one more for those.
use Prim.Native.Nat.{◌+◌, ◌*◌}
use Rattle.canoncore.proofs.+in_abs_in_call_in_dict_abs_in_dict_app_in_let_in_method_in_super_in_each_rename_core.Given as goal

abbrev pub decreases-in_abs : goal.decreases-in_abs
decreases-in_abs l = 2 * l.room.now.left + 1

abbrev pub decreases-in_call : goal.decreases-in_call
decreases-in_call l = 2 * l.room.now.left + 1

abbrev pub decreases-in_dict_abs : goal.decreases-in_dict_abs
decreases-in_dict_abs l = 2 * l.room.now.left + 1

abbrev pub decreases-in_dict_app : goal.decreases-in_dict_app
decreases-in_dict_app l = 2 * l.room.now.left + 1

abbrev pub decreases-in_let : goal.decreases-in_let
decreases-in_let l = 2 * l.room.now.left + 1

abbrev pub decreases-in_method : goal.decreases-in_method
decreases-in_method l = 2 * l.room.now.left + 1

abbrev pub decreases-in_super : goal.decreases-in_super
decreases-in_super l = 2 * l.room.now.left + 1

abbrev pub decreases-rename_core : goal.decreases-rename_core
decreases-rename_core l = 2 * l.room.now.left

abbrev pub decreases-lists::in_each : goal.decreases-lists::in_each
decreases-lists::in_each l = 2 * l.room.now.left + 1
