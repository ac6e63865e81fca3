-- What `?` hands on.
use mathlib.Core.Path.{◌≡◌, ap}
use Rattle.std.specs.Prelude.{Result, Ok, Err}
use Rattle.std.specs.Result.{IsErrAnd}

-- It is the error itself.
pub thrown : {T E : Type 0} {e : E} (r : Result T E) → IsErrAnd r (λ d. d ≡ e) → r ≡ Err e
thrown (Ok x) h = absurd h
thrown (Err y) h = ap (λ d. Err d) h
