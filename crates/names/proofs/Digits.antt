-- The bytes of a made variable: a byte put before others, and digits from the last to the first.
use mathlib.Core.Path.{◌≡◌, refl, sym, ap, ◌∙◌}
use mathlib.Core.List.{List, [], ◌∷◌}
use Prim.Native.Nat.{ℕ, zero, suc, ◌+◌, ◌*◌, ◌/◌, ◌%◌, ◌^◌, ◌<◌, ◌≤◌}
use native.Mathlib.Omega.{arith}
use lib.ListN.{length}
use lib.Dec.{lit<, lit≤}
use native.Mathlib.Nat.{pow-succ', lt_of_lt_of_le}
use Rattle.meaning.specs.Ast.{key, fresh}
use Rattle.meaning.specs.Text.{packed, decimal}
use Rattle.names.specs.declared.Key.{Key}
use Rattle.names.specs.Keys.{bytes_of, key_number, Pushed}
use Rattle.names.proofs.Tests.{lt_yes, lt_no}

-- Where there is room for one byte more, the number is 256 times as large.
pub more_room : (k : ℕ) (cs : List ℕ) → length cs ≤ k → packed (suc k) cs ≡ 256 * packed k cs
unfolding packed
more_room zero [] h = refl
more_room zero (c ∷ cs) h = absurd (omega arith)
more_room (suc k) [] h = refl
more_room (suc k) (c ∷ cs) h = let i : length cs ≤ k = omega arith in rw (more_room k cs i, pow-succ' 256 k) (omega arith)

-- Dividing by 256 what is known up to a rest.
cancel : (m m' x p r : ℕ) → r < 256 → 256 * m' + r ≡ 256 * x + m → m ≡ 256 * p → m' ≡ x + p
cancel m m' x p r s e f = omega arith

-- 32 bytes in place of 31.
up : (c : ℕ) → c * 2 ^ 256 ≡ 256 * (c * 2 ^ 248)
up c = go (2 ^ 248)
  where
    go : (B : ℕ) → c * (256 * B) ≡ 256 * (c * B)
    go B = omega arith

-- What `push` makes of the bytes cs is c and then cs.
pub pushed : (cs : List ℕ) (k r : Key) (c : ℕ) → length cs ≤ 31 → bytes_of k ≡ packed 32 cs → Pushed k c r → bytes_of r ≡ packed 32 (c ∷ cs)
unfolding packed
pushed cs k r c h e p = cancel (bytes_of k) (bytes_of r) (c * 2 ^ 248) (packed 31 cs) p.out p.small (p.shifted ∙ ap (λ (x : ℕ). x + bytes_of k) (up c)) (e ∙ more_room 31 cs h)

-- The last digits of k are packed, and n is what is left of k before them.
pub record Spelled (k n : ℕ) (e : Key) : Type 0 where
  pub fuel : ℕ
  pub digits : List ℕ
  pub bytes : bytes_of e ≡ packed 32 digits
  pub some : 0 < fuel
  pub enough : n < 10 ^ fuel
  pub long : fuel + length digits ≡ 30
  pub spelled : decimal 30 k [] ≡ decimal fuel n digits

-- No digit is packed yet.
pub none_spelled : (k : ℕ) (e : Key) → k < 2 ^ 64 → bytes_of e ≡ 0 → Spelled k k e
unfolding packed
none_spelled k e h z = record { fuel = 30; digits = []; bytes = z; some = lit< tt; enough = lt_of_lt_of_le h (lit≤ tt); long = refl; spelled = refl }

-- A tenth wants one digit less.
tenth : (f n : ℕ) → n < 10 ^ suc f → n / 10 < 10 ^ f
tenth f n h = omega arith

-- A number of several digits: its last one is the next.
next : (f n : ℕ) (cs : List ℕ) → 10 ≤ n → decimal (suc f) n cs ≡ decimal f (n / 10) ((48 + n % 10) ∷ cs)
unfolding decimal
next f n cs h = rw (lt_no n 10 h, decimal)

-- A number of one digit.
last : (f n : ℕ) (cs : List ℕ) → n < 10 → decimal (suc f) n cs ≡ (48 + n) ∷ cs
unfolding decimal
last f n cs h = rw (lt_yes n 10 h, decimal)

-- One digit more.
pub one_spelled : (k n : ℕ) (e r : Key) → 10 ≤ n → Spelled k n e → Pushed e (48 + n % 10) r → Spelled k (n / 10) r
one_spelled k n e r h s p = go s.fuel s.enough s.long s.spelled
  where
    go : (f : ℕ) → n < 10 ^ f → f + length s.digits ≡ 30 → decimal 30 k [] ≡ decimal f n s.digits → Spelled k (n / 10) r
    go zero i l d = absurd (omega arith)
    go (suc zero) i l d = absurd (omega arith)
    go (suc (suc f)) i l d = record {
      fuel = suc f;
      digits = (48 + n % 10) ∷ s.digits;
      bytes = pushed s.digits e r (48 + n % 10) (omega arith) s.bytes p;
      some = omega arith;
      enough = tenth (suc f) n i;
      long = omega arith;
      spelled = d ∙ next (suc f) n s.digits h;
    }

-- The number of a key whose first word is zero.
pub alone : (k : Key) → k.over ≡ 0 → key_number k ≡ bytes_of k
unfolding key_number bytes_of
alone k h = rw h (go (2 ^ 256) (bytes_of k))
  where
    go : (B m : ℕ) → 0 * B + m ≡ m
    go B m = omega arith

-- The first digit and then `t`.
pub all_spelled : (k n : ℕ) (e f r : Key) → n < 10 → Spelled k n e → Pushed e (48 + n) f → Pushed f 116 r → key_number r ≡ key (fresh k)
unfolding key
all_spelled k n e f r h s p q = alone r q.alone ∙ go s.fuel s.some s.enough s.long s.spelled
  where
    go : (g : ℕ) → 0 < g → n < 10 ^ g → g + length s.digits ≡ 30 → decimal 30 k [] ≡ decimal g n s.digits → bytes_of r ≡ packed 32 (116 ∷ decimal 30 k [])
    go zero o i l d = absurd (omega arith)
    go (suc g) o i l d = pushed ((48 + n) ∷ s.digits) f r 116 (omega arith) (pushed s.digits e f (48 + n) (omega arith) s.bytes p) q
        ∙ ap (λ (cs : List ℕ). packed 32 (116 ∷ cs)) (sym (d ∙ last g n s.digits h))
