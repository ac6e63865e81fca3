-- Numbers of five words, and a byte put before others.
use Rattle.std.specs.Prelude.{◌≡◌, ℕ, ◌+◌, ◌*◌, ◌^◌, ◌<◌}
use Rattle.names.specs.declared.Key.{Key}

-- Four words as one number, the highest first.
unfoldable pub four : ℕ → ℕ → ℕ → ℕ → ℕ
four a b c d = ((a * 2 ^ 64 + b) * 2 ^ 64 + c) * 2 ^ 64 + d

-- The 32 bytes of a key as one number.
unfoldable pub bytes_of : Key → ℕ
bytes_of k = four k.a k.b k.c k.d

-- A key as one number.
unfoldable pub key_number : Key → ℕ
key_number k = k.over * 2 ^ 256 + bytes_of k

-- A key with a byte put before its 32, of which the last falls out.
pub record Pushed (k : Key) (byte : ℕ) (r : Key) : Type 0 where
  pub out : ℕ
  pub small : out < 256
  pub alone : r.over ≡ 0
  pub shifted : 256 * bytes_of r + out ≡ byte * 2 ^ 256 + bytes_of k
