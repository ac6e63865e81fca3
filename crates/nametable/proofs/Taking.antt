-- One name taken into the table.
use mathlib.Core.Path.{◌≡◌, refl, sym, ap, ◌∙◌, subst}
use mathlib.Core.Bool.{Bool, true, false}
use mathlib.Core.List.{List, [], ◌∷◌}
use Prim.Native.Nat.{ℕ, ◌+◌, ◌*◌, ◌^◌, ◌<◌, ◌≤◌}
use native.Mathlib.Nat.{mul-le-mul_right}
use native.Mathlib.Decide.{ℕ_discrete}
use native.Mathlib.Omega.{arith}
use Rattle.std.specs.Prelude.{Result, Ok, Err, MatchResult, IsErrAnd}
use Rattle.std.specs.Borrow.{Bor}
use lib.ListN.{length, get_or, set}
use lib.Seq.{get_or-set_same, get_or-set_other}
use Rattle.meaning.specs.Base.{eqb}
use Rattle.meaning.specs.Text.{packed}
use Rattle.meaning.specs.Ast.{Name, name}
use Rattle.meaning.specs.Errors.{format}
use Rattle.meaning.specs.Reserved.{letter_of_name, all}
use Rattle.meaning.specs.Reader.{got, bad, or_bad, unless, from}
use Rattle.errors.specs.declared.Refusal.TheVariants.{Format}
use Rattle.names.specs.declared.Key.{Key}
use Rattle.names.specs.Names.{row}
use Rattle.names.specs.Keys.{bytes_of}
use Rattle.reader.specs.Bytes.{text}
use Rattle.spelling.specs.declared.Form as S
use Rattle.spelling.specs.declared.Form.TheVariants.{Free, Variable, Word}
use Rattle.spelling.specs.Forms.{Packs, FormIs}
use Rattle.spelling.proofs.Alphabet.{letter_fits}
use Rattle.spelling.proofs.Spelled.{all_first}
use Rattle.spelling.proofs.Texts.{text_length}
use Rattle.rows.specs.Rows.{row_set, names_from, among}
use Rattle.spelling.specs.Forms.{FormWord}
use Rattle.nametable.specs.Entries.{TextAt, Spotted, code_of, Entered, Taken}
use Rattle.rows.proofs.Cells.{row_same, row_other}
use Rattle.rows.proofs.Listed.{none_same}

-- A name and its form are written.
pub entered : (ns ix ns' : List ℕ) (i w : ℕ) (k : Key) (f : S.Form) → ns' ≡ row_set ns (35 + i) k → w ≡ code_of f → Entered ns ix ns' (set ix (1_024 + i) w) i k f
entered ns ix ns' i w k f e c = record { names = e; index = ap (λ (v : ℕ). set ix (1_024 + i) v) c }

-- A form's word says what the form says.
form_word : (x : Name) (f : S.Form) → FormIs x f → FormWord x (code_of f)
unfolding eqb ℕ_discrete
form_word x Free i = record { variable = i.variable; word = i.word }
form_word x Variable i = record { variable = i.variable; word = i.word }
form_word x Word i = record { variable = i.variable; word = i.word }

-- The first byte of a text of letters is not zero.
first_byte : (B c p : ℕ) → 0 < c → B ≤ c * B + p
first_byte B c p h = omega (arith, mul-le-mul_right B h)

full_text : (cs : List ℕ) → 0 < length cs → all letter_of_name cs ≡ true → 2 ^ 248 ≤ packed 32 cs
unfolding packed
full_text [] h e = absurd (omega arith)
full_text (c ∷ cs) h e = first_byte (2 ^ 248) c (packed 31 cs) (letter_fits c (all_first letter_of_name c cs e).0).some

-- What `map_err` leaves as it is.
pub ok_was : {T E F : Type 0} {s : Result T E} {r : Result T F} (P : E → F → Type 0) (x : T) → MatchResult s (λ y. r ≡ Ok y) (λ d. IsErrAnd r (P d)) → r ≡ Ok x → s ≡ Ok x
ok_was {s = Ok y} P x m e = let i : y ≡ x = cc in ap Ok i
ok_was {s = Err d} P x m e = absurd (rw e at m)

-- A text that was found, by what the code has of it.
pub text_of : (bytes : List ℕ) (at : ℕ) (t : Bor (List ℕ)) (s : Result (Bor (List ℕ)) ℕ) → Spotted bytes at s → s ≡ Ok t → TextAt bytes at (length t.now) × (t.now ≡ text bytes (at + 1) (length t.now))
text_of bytes at t s p e = go (rw e at p)
  where
    go : Spotted bytes at (Ok t) → TextAt bytes at (length t.now) × (t.now ≡ text bytes (at + 1) (length t.now))
    go r = r.is

refused : (x : Name) (xs : List Name) (at next : ℕ) (rest : List ℕ) → among x xs ≡ true → or_bad (format at) (unless (λ y. among y xs) x) next rest ≡ bad (format at)
unfolding or_bad unless
refused x xs at next rest e = rw e refl

accepted : (x : Name) (xs : List Name) (at next : ℕ) (rest : List ℕ) → among x xs ≡ false → or_bad (format at) (unless (λ y. among y xs) x) next rest ≡ got x next rest
unfolding or_bad unless
accepted x xs at next rest e = rw e refl

pub known : {bytes ns ix ns' ix' : List ℕ} {at i len : ℕ} {k : Key} {r : Bool} → TextAt bytes at len → Packs (text bytes (at + 1) len) k
    → r ≡ among (name (bytes_of k)) (names_from ns 35 i) → r ≡ true → Taken bytes ns ix ns' ix' at i (Err (Format (at + 1)))
known {bytes} {ns} {ix} {ns'} {ix'} {at} {i} {len} {k} {r} t p e h = record {
  is = t.entry (names_from ns 35 i) ∙ refused _ (names_from ns 35 i) (at + 1) _ _ (ap (λ (n : ℕ). among (name n) (names_from ns 35 i)) (sym p.bytes) ∙ sym e ∙ h);
}

pub took : {bytes ns ix ns' ix' : List ℕ} {at i len : ℕ} {k : Key} {f : S.Form} {r : Bool} → 4 * i + 144 ≤ length ns → 1_024 + i < length ix → TextAt bytes at len
    → Packs (text bytes (at + 1) len) k → r ≡ among (name (bytes_of k)) (names_from ns 35 i) → r ≡ false → FormIs (name (packed 32 (text bytes (at + 1) len))) f
    → Entered ns ix ns' ix' i k f → Taken bytes ns ix ns' ix' at i (Ok (at + 1 + len))
took {bytes} {ns} {ix} {ns'} {ix'} {at} {i} {len} {k} {f} {r} u v t p e h g w = record {
  is = record {
    read = t.entry (names_from ns 35 i) ∙ accepted _ (names_from ns 35 i) (at + 1) _ _ (ap (λ (n : ℕ). among (name n) (names_from ns 35 i)) (sym p.bytes) ∙ sym e ∙ h)
        ∙ ap (λ (n : ℕ). got (name n) (at + 1 + len) (from (at + 1 + len) bytes)) (sym there);
    within = t.within;
    new = λ j l q. none_same (bytes_of k) ns 35 i j (sym e ∙ h) l (q ∙ there ∙ sym p.bytes);
    full = rw there (full_text (text bytes (at + 1) len) (rw (text_length bytes (at + 1) len) t.some) t.letters);
    others = λ s n. ap (λ (xs : List ℕ). row xs s) w.names ∙ row_other ns (35 + i) s k n;
    form = rw (w.index, get_or-set_same ix (1_024 + i) (code_of f) 0 v) (subst (λ x. FormWord x (code_of f)) (ap name (sym there)) (form_word _ f g));
    stands = λ j n. ap (λ (xs : List ℕ). get_or xs j 0) w.index ∙ get_or-set_other ix (1_024 + i) j (code_of f) 0 n;
  };
}
  where
    there : row ns' (35 + i) ≡ packed 32 (text bytes (at + 1) len)
    there = ap (λ (xs : List ℕ). row xs (35 + i)) w.names ∙ row_same ns (35 + i) k (omega arith) ∙ p.bytes
