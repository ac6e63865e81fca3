-- `attempt`: an error of the Rust becomes `none`, and only limits stay refusals.
use mathlib.Core.Path.{◌≡◌, refl}
use mathlib.Core.Bool.{Bool, true, false, true≢false, false≢true}
use mathlib.Core.Option.{Option, none, some}
use native.Mathlib.Decide.{dec_lt}
use Rattle.meaning.specs.Base.{if, ltb}
use Rattle.meaning.specs.Errors.{Refusal, format, limit, reserved, redeclared, room, out_of_steps, too_deep, output, unbound_variable, unification_failure, occurs_check, con_mismatch, arity_mismatch, no_instance, ambiguous, duplicate_instance, unknown_class, unknown_method, missing_superclass, missing_method, number, added}
use Rattle.meaning.specs.Budget.{Out, done, refused, settled}
use Rattle.theorems.proofs.Says.{Says, Definite, Limit}

-- A refusal that the port does not add is one of the Rust.
pub definite_of : (r : Refusal) → added r ≡ false → Definite r
unfolding added number ltb dec_lt
definite_of (format k) e = true≢false e
definite_of (limit k) e = true≢false e
definite_of (reserved k) e = true≢false e
definite_of redeclared e = true≢false e
definite_of room e = true≢false e
definite_of out_of_steps e = true≢false e
definite_of too_deep e = true≢false e
definite_of output e = true≢false e
definite_of (unbound_variable x) e = tt
definite_of (unification_failure a b) e = tt
definite_of (occurs_check v t) e = tt
definite_of (con_mismatch c d) e = tt
definite_of (arity_mismatch c m n) e = tt
definite_of (no_instance p) e = tt
definite_of (ambiguous p) e = tt
definite_of (duplicate_instance p) e = tt
definite_of (unknown_class c) e = tt
definite_of (unknown_method m) e = tt
definite_of (missing_superclass c s) e = tt
definite_of (missing_method c a m) e = tt

-- And one that the port adds is a limit.
pub limit_of_lem : (r : Refusal) → added r ≡ true → Limit r
unfolding added number ltb dec_lt
limit_of_lem (format k) e = λ z. z
limit_of_lem (limit k) e = λ z. z
limit_of_lem (reserved k) e = λ z. z
limit_of_lem redeclared e = λ z. z
limit_of_lem room e = λ z. z
limit_of_lem out_of_steps e = λ z. z
limit_of_lem too_deep e = λ z. z
limit_of_lem output e = λ z. z
limit_of_lem (unbound_variable x) e = λ z. false≢true e
limit_of_lem (unification_failure a b) e = λ z. false≢true e
limit_of_lem (occurs_check v t) e = λ z. false≢true e
limit_of_lem (con_mismatch c d) e = λ z. false≢true e
limit_of_lem (arity_mismatch c m n) e = λ z. false≢true e
limit_of_lem (no_instance p) e = λ z. false≢true e
limit_of_lem (ambiguous p) e = λ z. false≢true e
limit_of_lem (duplicate_instance p) e = λ z. false≢true e
limit_of_lem (unknown_class c) e = λ z. false≢true e
limit_of_lem (unknown_method m) e = λ z. false≢true e
limit_of_lem (missing_superclass c s) e = λ z. false≢true e
limit_of_lem (missing_method c a m) e = λ z. false≢true e

-- What an attempt tells: P of its answer, or R of some refusal of the Rust.
abbrev pub Tried : {A : Type 0} → (A → Type 0) → (Refusal → Type 0) → Option A → Type 0
Tried P R none = (r : Refusal) × Definite r × R r
Tried P R (some a) = P a

-- An attempt of a computation tells what the computation tells, and refuses only where that meets a limit.
pub attempt_says : {A : Type 0} (P : A → Type 0) (R : Refusal → Type 0) (o : Out A) → Says P R o → Says (Tried P R) (λ r. Limit r × R r) (settled o)
unfolding settled
attempt_says P R (done a n) h = h
attempt_says P R (refused r n) h = go (added r) refl
  where
    go : (b : Bool) → added r ≡ b → Says (Tried P R) (λ r. Limit r × R r) (if b (refused r n) (done none n))
    go true e = (limit_of_lem r e, h)
    go false e = (r, definite_of r e, h)
