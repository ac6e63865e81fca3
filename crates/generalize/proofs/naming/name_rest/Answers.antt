-- The qualified type, the list of its variables, then the term.
use mathlib.Core.Path.{◌∙◌}
use native.Mathlib.Omega.{arith}
use Rattle.errors.proofs.Thrown.{thrown}
use Rattle.pairs.proofs.Frames.{long}
use Rattle.apply.proofs.Seen.{ok_is, err_is}
use Rattle.generalize.proofs.Seen.{qual_is, no_qual_is}
use Rattle.generalize.proofs.NameWays.{qual_asked, named_refused, qual_more, vars_asked, vars_more, term_asked, rows_asked, term_refused, all_named}
use Rattle.generalize.proofs.naming.name_rest.Goals as goal

pub name_qual-requires : goal.name_qual-requires
name_qual-requires c = record { base_len_bound = c.requires.base_len_bound; ready_letters = qual_asked c.requires.ready_names c.requires.node c.requires.chosen }

pub sorted_vars-vars-requires : goal.sorted_vars-vars-requires
sorted_vars-vars-requires c = let x = c.requires.base_len_bound in let y = qual_more c.requires.ready_names c.requires.node c.requires.chosen c.name_qual.ensures (qual_is c.in_ok-q.was) in record { base_len_bound = omega arith; ready_vars = vars_asked c.requires.ready_names c.requires.node c.requires.chosen c.name_qual.ensures (qual_is c.in_ok-q.was) (long c.args.base.now.words.now c.name_qual.new.work c.args.work.now c.name_qual.auto.work) }

pub rename_abstracted-requires : goal.rename_abstracted-requires
rename_abstracted-requires c = let x = c.requires.base_len_bound in let y = qual_more c.requires.ready_names c.requires.node c.requires.chosen c.name_qual.ensures (qual_is c.in_ok-q.was) in let z = (vars_more c.requires.ready_names c.requires.node c.requires.chosen c.name_qual.ensures (qual_is c.in_ok-q.was) c.sorted_vars-vars.ensures.sorted).0 in record { base_len_bound = omega arith; ready_rows = rw c.sorted_vars-vars.ensures.left (rows_asked c.requires.ready_names c.requires.node c.requires.chosen c.name_qual.ensures (qual_is c.in_ok-q.was) c.sorted_vars-vars.ensures.sorted (long c.args.base.now.words.now c.sorted_vars-vars.new.work c.args.work.now (c.sorted_vars-vars.auto.work ∙ c.name_qual.auto.work))); node = term_asked c.requires.ready_names c.requires.node c.requires.chosen c.name_qual.ensures (qual_is c.in_ok-q.was) c.sorted_vars-vars.ensures.sorted }

pub returns : goal.returns
returns c = all_named c.requires.ready_names c.requires.node c.requires.chosen c.name_qual.ensures (qual_is c.in_ok-q.was) c.sorted_vars-vars.ensures.sorted (rw c.sorted_vars-vars.ensures.left at c.rename_abstracted.ensures) (ok_is c.in_ok-term.was)

pub returns-in_err-term : goal.returns-in_err-term
returns-in_err-term c = rw (thrown _ c.from_residual-in_err-term.ensures.1) (term_refused c.requires.ready_names c.requires.node c.requires.chosen c.name_qual.ensures (qual_is c.in_ok-q.was) c.sorted_vars-vars.ensures.sorted (rw c.sorted_vars-vars.ensures.left at c.rename_abstracted.ensures) (err_is c.in_err-term.was))

pub returns-in_err-q : goal.returns-in_err-q
returns-in_err-q c = rw (thrown _ c.from_residual.ensures.1) (named_refused c.requires.ready_names c.requires.node c.requires.chosen c.name_qual.ensures (no_qual_is c.in_err-q.was))
