-- Laws of words that are moved up, and of what pairs say of a variable.
use mathlib.Core.Path.{◌≡◌, refl, sym, ◌∙◌}
use mathlib.Core.List.{List, ◌++◌}
use Prim.Native.Nat.{ℕ, ◌+◌, ◌-◌, ◌<◌, ◌≤◌}
use native.Mathlib.Decide.{dec_lt}
use native.Mathlib.Omega.{arith}
use lib.ListN.{length, get_or}
use Rattle.std.specs.List.{CopiedTo, SameBelow, SameFrom}
use Rattle.ast.proofs.Join.{get_low, get_high}
use Rattle.names.specs.Names.{first_nullary}
use Rattle.ast.proofs.Laws.{low_var}
use Rattle.pairs.specs.Pairs.{find_at}
use Rattle.pairs.proofs.Looks.{look_at, look_nothing, found_at}
use Rattle.ends.specs.Ends.{Raised, Seen}
use Rattle.std.specs.Option.{unwrap_or}
use Rattle.std.specs.Prelude.{Option, Some, None}

-- Words that were copied within the buffer behind a closed table were moved up.
pub copied : (b v v' : List ℕ) (at end to : ℕ) → length b ≤ at → at ≤ end → end ≤ to
    → CopiedTo v v' (at - length b) (at + (to - end) - length b) (end - length b - (at - length b)) × SameBelow v v' (at + (to - end) - length b) × SameFrom v v' (at + (to - end) - length b + (end - length b - (at - length b)))
    → Raised (b ++ v) (b ++ v') at end (to - end)
copied b v v' at end to h i j C = record { moved = moved; before = λ q a. before q a (dec_lt q (length b)); after = after }
  where
    moved : (q : ℕ) → at ≤ q → q < end → get_or (b ++ v') (q + (to - end)) 0 ≡ get_or (b ++ v) q 0
    moved q a u =
        let e : at - length b + (q + (to - end) - length b - (at + (to - end) - length b)) ≡ q - length b = omega arith in
        get_high b v' (q + (to - end)) (q + (to - end) - length b) (omega arith)
        ∙ C.0 (q + (to - end) - length b) 0 (omega arith) (omega arith) ∙ rw e (sym (get_high b v q (q - length b) (omega arith)))

    before : (q : ℕ) → q < at → Dec (q < length b) → get_or (b ++ v') q 0 ≡ get_or (b ++ v) q 0
    before q a (yes l) = get_low b v' q l ∙ sym (get_low b v q l)
    before q a (no n) = get_high b v' q (q - length b) (omega arith) ∙ C.1 (q - length b) 0 (omega arith) ∙ sym (get_high b v q (q - length b) (omega arith))

    after : (q : ℕ) → end + (to - end) ≤ q → get_or (b ++ v') q 0 ≡ get_or (b ++ v) q 0
    after q a = get_high b v' q (q - length b) (omega arith) ∙ C.2 (q - length b) 0 (omega arith) ∙ sym (get_high b v q (q - length b) (omega arith))

-- What the pairs have for a variable, or the variable itself, is what they say of it: f is what `find` returned.
pub seen_or : (w : List ℕ) (at k a : ℕ) (f : Option ℕ) → f ≡ find_at w at k a → a < first_nullary → Seen w at k a (unwrap_or f a)
seen_or w at k a (Some m) e v = record { is = λ ns N. look_at ns N w at k a e refl; below = λ top S. found_at a S e refl }
seen_or w at k a None e v = record { is = λ ns N. look_nothing ns N w at k a e refl ∙ sym (low_var ns w a v); below = λ top S. omega arith }
