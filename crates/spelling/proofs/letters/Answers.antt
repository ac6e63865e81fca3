-- `spelling::letters` meets its contract. Assumes nothing.
use Rattle.std.proofs.Common.{◌≡◌, ℕ, ◌<◌, length, get_or, true, rules, ◌↔◌}
use Rattle.meaning.specs.Reserved.{letter_of_name}
use Rattle.spelling.proofs.Loops.{all_each}
use Rattle.spelling.proofs.letters.Goals as goal

pub returns : goal.returns
returns c =
    let h : (c.all.result ≡ true) ↔ ((k : ℕ) → k < length c.args.text.now → letter_of_name (get_or c.args.text.now k 0) ≡ true) = search rules in
    all_each letter_of_name _ _ h.0 h.1
