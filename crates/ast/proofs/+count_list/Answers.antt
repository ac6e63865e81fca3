-- The measure is the list's word: what a word refers to lies below it.
use native.Mathlib.Omega.{arith}
use Rattle.ast.proofs.Laws.{cons_tail}
use Rattle.ast.proofs.Walks.{counts_none, counts_one}
use Rattle.ast.proofs.+count_list.Goals as goal

pub count_list-requires : goal.count_list-requires
count_list-requires t c = let k = cons_tail c.requires c.cell_at-c.ensures c.in-Cons.is in (omega arith, k.1)

pub overflow_add-result : goal.overflow_add-result
overflow_add-result t c = let z = (c.count_list.ensures c.args.base.now.words.now).most in let k = (cons_tail c.requires c.cell_at-c.ensures c.in-Cons.is).0 in let s = c.requires.table.small in let b = c.requires.below in omega arith

pub returns-in-Nil : goal.returns-in-Nil
returns-in-Nil t c = counts_none c.requires c.cell_at-c.ensures c.in-Nil.is

pub returns-in-Cons : goal.returns-in-Cons
returns-in-Cons t c = counts_one c.requires c.cell_at-c.ensures c.in-Cons.is c.count_list.ensures
