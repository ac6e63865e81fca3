-- The cycle of `apply_but` and `args_but`: each way out by its law of `Ways`, or by one of `Hand` where there was no call. The measure is the word.
use Rattle.apply.proofs.+apply_but_args_but.Given as goal

abbrev pub decreases-apply_but : goal.decreases-apply_but
decreases-apply_but l = l.t

abbrev pub decreases-args_but : goal.decreases-args_but
decreases-args_but l = l.n
