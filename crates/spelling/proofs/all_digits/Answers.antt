-- `spelling::all_digits` meets its contract. Assumes nothing.
use Rattle.std.proofs.Common.{◌≡◌, ℕ, ◌<◌, length, get_or, true, rules, ◌↔◌}
use Rattle.std.specs.Char.{is_ascii_digit}
use Rattle.spelling.proofs.Loops.{digits_each, no_digits}
use Rattle.spelling.proofs.all_digits.Goals as goal

pub returns-then-not-is_empty : goal.returns-then-not-is_empty
returns-then-not-is_empty c =
    let h : (c.all.result ≡ true) ↔ ((k : ℕ) → k < length c.args.text.now → is_ascii_digit (get_or c.args.text.now k 0) ≡ true) = search rules in
    digits_each _ _ (rw c.if-not-is_empty.true at c.is_empty.ensures) h.0 h.1

pub returns-else-not-is_empty : goal.returns-else-not-is_empty
returns-else-not-is_empty c = rw c.if-not-is_empty.false (no_digits _ (rw c.if-not-is_empty.false at c.is_empty.ensures))
