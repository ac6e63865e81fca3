-- One name of a file: its length, its text, and whether it was read before.
use mathlib.Core.Path.{◌≡◌, refl, sym, ap, ◌∙◌}
use mathlib.Core.Bool.{Bool, true, false, ◌||◌}
use mathlib.Core.List.{List}
use mathlib.Core.Option.{Option, none, some}
use Prim.Native.Nat.{ℕ, zero, suc, ◌+◌, ◌<◌, ◌≤◌}
use native.Mathlib.Omega.{arith}
use Rattle.std.specs.Prelude.{Some, None, Ok, Err}
use Rattle.std.specs.Borrow.{Bor}
use lib.ListN.{length}
use Rattle.meaning.specs.Base.{is_yes, eqb, ltb, any}
use Rattle.meaning.specs.Text.{packed}
use Rattle.meaning.specs.Ast.{Name, name, same_name}
use Rattle.meaning.specs.Errors.{Refusal, format}
use Rattle.meaning.specs.Reserved.{letter_of_name, all}
use Rattle.meaning.specs.Reader.{Read, got, bad, Reader, onward, or_bad, item, unless, from, field, numeral}
use Rattle.meaning.specs.File.{name_of, name_length, name_text, name_entry}
use Rattle.names.proofs.Tests.{lt_yes, lt_no, eq_yes, eq_no}
use Rattle.reader.specs.Bytes.{text}
use Rattle.reader.specs.Verdicts.{IsField}
use Rattle.reader.proofs.Fields.{field_is, field_cut}
use Rattle.reader.proofs.Counts.{item_got, item_fails, item_bad, passed, failed}
use Rattle.reader.proofs.Sequence.{stops}
use Rattle.spelling.proofs.Texts.{text_length}
use Rattle.rows.specs.Rows.{among}
use Rattle.nametable.specs.Entries.{TextAt, Spotted}

-- ## the length
-- The length is none of a name.
bad_length : (bytes : List ℕ) (at : ℕ) (x : Refusal) → name_length at (from at bytes) ≡ bad x → (earlier : List Name) → name_entry earlier at (from at bytes) ≡ bad x
unfolding name_entry
bad_length bytes at x e earlier = stops (name_length at (from at bytes)) (name_text earlier) x e

pub cut_there : (bytes : List ℕ) (at : ℕ) → IsField 1 bytes at None → Spotted bytes at (Err at)
unfolding name_length
cut_there bytes at i = record { is = bad_length bytes at (format at) (item_bad format (numeral 1) _ at _ _ i.is) }

outside_length : (bytes : List ℕ) (at len : ℕ) → IsField 1 bytes at (Some len) → (eqb len 0 || ltb 32 len) ≡ true → Spotted bytes at (Err at)
unfolding name_length
outside_length bytes at len i e = record {
  is = bad_length bytes at (format at) (item_fails format (numeral 1) _ at _ len (at + 1) (from (at + 1) bytes) i.is.0 (failed (λ n. eqb n 0 || ltb 32 n) len e));
}

pub empty_there : (bytes : List ℕ) (at len : ℕ) → IsField 1 bytes at (Some len) → len ≡ 0 → Spotted bytes at (Err at)
empty_there bytes at len i e = outside_length bytes at len i (rw (eq_yes len 0 e) refl)

pub long_there : (bytes : List ℕ) (at len : ℕ) → IsField 1 bytes at (Some len) → 32 < len → Spotted bytes at (Err at)
long_there bytes at len i h = outside_length bytes at len i (rw (lt_yes 32 len h) (go (eqb len 0)))
  where
    go : (b : Bool) → (b || true) ≡ true
    go true = refl
    go false = refl

-- ## the text
-- The length of a name: its text decides.
by_text : (bytes : List ℕ) (at len : ℕ) → IsField 1 bytes at (Some len) → (len ≡ 0 → ⊥) → len ≤ 32 → (earlier : List Name)
    → name_entry earlier at (from at bytes) ≡ name_text earlier len (at + 1) (from (at + 1) bytes)
unfolding name_entry name_length onward
by_text bytes at len i z h earlier = ap (λ (o : Read ℕ). onward o (name_text earlier))
    (item_got format (numeral 1) (unless (λ n. eqb n 0 || ltb 32 n)) at (from at bytes) len len (at + 1) (from (at + 1) bytes) i.is.0
    (passed (λ n. eqb n 0 || ltb 32 n) len (rw (eq_no len 0 z, lt_no 32 len h) refl)))

-- The text is none of a name.
bad_text : (bytes : List ℕ) (at len : ℕ) (x : Refusal) → item format (field len) name_of at (from at bytes) ≡ bad x → (earlier : List Name) → name_text earlier len at (from at bytes) ≡ bad x
unfolding name_text
bad_text bytes at len x e earlier = item_bad format (item format (field len) name_of) _ at (from at bytes) x e

pub text_cut : (bytes : List ℕ) (at len : ℕ) → IsField 1 bytes at (Some len) → (len ≡ 0 → ⊥) → len ≤ 32 → length bytes < at + 1 + len → Spotted bytes at (Err (at + 1))
text_cut bytes at len i z h l = record { is = λ earlier. by_text bytes at len i z h earlier ∙ bad_text bytes (at + 1) len (format (at + 1)) (go len z l) earlier }
  where
    go : (n : ℕ) → (n ≡ 0 → ⊥) → length bytes < at + 1 + n → item format (field n) name_of (at + 1) (from (at + 1) bytes) ≡ bad (format (at + 1))
    go zero z l = absurd (z refl)
    go (suc k) z l = item_bad format (field (suc k)) name_of (at + 1) (from (at + 1) bytes) (format (at + 1)) (field_cut k bytes (at + 1) l)

no_name : (bs : List ℕ) → all letter_of_name bs ≡ false → name_of bs ≡ none
unfolding name_of
no_name bs e = rw e refl

a_name : (bs : List ℕ) → all letter_of_name bs ≡ true → name_of bs ≡ some (name (packed 32 bs))
unfolding name_of
a_name bs e = rw e refl

pub no_letters : (bytes : List ℕ) (at len : ℕ) (r : Bool) → IsField 1 bytes at (Some len) → (len ≡ 0 → ⊥) → len ≤ 32 → at + 1 + len ≤ length bytes
    → r ≡ all letter_of_name (text bytes (at + 1) len) → r ≡ false → Spotted bytes at (Err (at + 1))
no_letters bytes at len r i z h l e f = record {
  is = λ earlier. by_text bytes at len i z h earlier ∙ bad_text bytes (at + 1) len (format (at + 1))
      (item_fails format (field len) name_of (at + 1) (from (at + 1) bytes) (text bytes (at + 1) len) _ _ (field_is len bytes (at + 1) l) (no_name _ (sym e ∙ f))) earlier;
}

-- An item that was read: its test decides.
item_tested : {A B : Type 0} (refusal : ℕ → Refusal) (r : Reader A) (test : A → Option B) (at : ℕ) (bs : List ℕ) (a : A) (next : ℕ) (rest : List ℕ)
    → r at bs ≡ got a next rest → item refusal r test at bs ≡ or_bad (refusal at) (test a) next rest
unfolding item onward
item_tested refusal r test at bs a next rest e = rw e refl

pub text_there : (bytes : List ℕ) (at len : ℕ) (t : Bor (List ℕ)) (r : Bool) → IsField 1 bytes at (Some len) → (len ≡ 0 → ⊥) → len ≤ 32 → at + 1 + len ≤ length bytes
    → t.now ≡ text bytes (at + 1) len → r ≡ all letter_of_name (text bytes (at + 1) len) → r ≡ true → Spotted bytes at (Ok t)
unfolding name_text among
text_there bytes at len t r i z h l q e f = record { is = go (length t.now) (ap length q ∙ text_length bytes (at + 1) len) }
  where
    go : (n : ℕ) → n ≡ len → TextAt bytes at n × (t.now ≡ text bytes (at + 1) n)
    go n m = rw m (
      record {
        some = omega arith;
        short = h;
        within = l;
        letters = sym e ∙ f;
        entry = λ earlier. by_text bytes at len i z h earlier
            ∙ item_tested format (item format (field len) name_of) (unless (λ x. any (λ y. is_yes (same_name x y)) earlier)) (at + 1) (from (at + 1) bytes) (name (packed 32 (text bytes (at + 1) len)))
            (at + 1 + len) (from (at + 1 + len) bytes)
            (item_got format (field len) name_of (at + 1) (from (at + 1) bytes) (text bytes (at + 1) len) _ _ _ (field_is len bytes (at + 1) l) (a_name _ (sym e ∙ f)));
      },
      q,
    )
