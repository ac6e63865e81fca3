-- Each arm of the match has its own number.
use mathlib.Core.Path.{◌≡◌, refl}
use mathlib.Core.List.{List}
use Prim.Native.Nat.{ℕ}
use Rattle.meaning.specs.Errors as E
use Rattle.errors.specs.declared.Refusal.{Refusal}
use Rattle.errors.specs.Refusals.{refusal_of, Numbered}
use Rattle.errors.proofs.number.Goals as goal

told : {e e' : Refusal} {n : ℕ} → e ≡ e' → ((ns w : List ℕ) → n ≡ E.number (refusal_of ns w e')) → Numbered e n
told k h = record { is = λ ns w. rw k (h ns w) }

pub returns-in-Format : goal.returns-in-Format
unfolding E.number
returns-in-Format c = told c.in-Format.is (λ ns w. refl)

pub returns-in-Limit : goal.returns-in-Limit
unfolding E.number
returns-in-Limit c = told c.in-Limit.is (λ ns w. refl)

pub returns-in-Reserved : goal.returns-in-Reserved
unfolding E.number
returns-in-Reserved c = told c.in-Reserved.is (λ ns w. refl)

pub returns-in-Redeclared : goal.returns-in-Redeclared
unfolding E.number
returns-in-Redeclared c = told c.in-Redeclared.is (λ ns w. refl)

pub returns-in-Room : goal.returns-in-Room
unfolding E.number
returns-in-Room c = told c.in-Room.is (λ ns w. refl)

pub returns-in-Steps : goal.returns-in-Steps
unfolding E.number
returns-in-Steps c = told c.in-Steps.is (λ ns w. refl)

pub returns-in-Depth : goal.returns-in-Depth
unfolding E.number
returns-in-Depth c = told c.in-Depth.is (λ ns w. refl)

pub returns-in-Output : goal.returns-in-Output
unfolding E.number
returns-in-Output c = told c.in-Output.is (λ ns w. refl)

pub returns-in-UnboundVariable : goal.returns-in-UnboundVariable
unfolding E.number
returns-in-UnboundVariable c = told c.in-UnboundVariable.is (λ ns w. refl)

pub returns-in-UnificationFailure : goal.returns-in-UnificationFailure
unfolding E.number
returns-in-UnificationFailure c = told c.in-UnificationFailure.is (λ ns w. refl)

pub returns-in-OccursCheck : goal.returns-in-OccursCheck
unfolding E.number
returns-in-OccursCheck c = told c.in-OccursCheck.is (λ ns w. refl)

pub returns-in-ConMismatch : goal.returns-in-ConMismatch
unfolding E.number
returns-in-ConMismatch c = told c.in-ConMismatch.is (λ ns w. refl)

pub returns-in-ArityMismatch : goal.returns-in-ArityMismatch
unfolding E.number
returns-in-ArityMismatch c = told c.in-ArityMismatch.is (λ ns w. refl)

pub returns-in-NoInstance : goal.returns-in-NoInstance
unfolding E.number
returns-in-NoInstance c = told c.in-NoInstance.is (λ ns w. refl)

pub returns-in-Ambiguous : goal.returns-in-Ambiguous
unfolding E.number
returns-in-Ambiguous c = told c.in-Ambiguous.is (λ ns w. refl)

pub returns-in-DuplicateInstance : goal.returns-in-DuplicateInstance
unfolding E.number
returns-in-DuplicateInstance c = told c.in-DuplicateInstance.is (λ ns w. refl)

pub returns-in-UnknownClass : goal.returns-in-UnknownClass
unfolding E.number
returns-in-UnknownClass c = told c.in-UnknownClass.is (λ ns w. refl)

pub returns-in-UnknownMethod : goal.returns-in-UnknownMethod
unfolding E.number
returns-in-UnknownMethod c = told c.in-UnknownMethod.is (λ ns w. refl)

pub returns-in-MissingSuperclass : goal.returns-in-MissingSuperclass
unfolding E.number
returns-in-MissingSuperclass c = told c.in-MissingSuperclass.is (λ ns w. refl)

pub returns-in-MissingMethod : goal.returns-in-MissingMethod
unfolding E.number
returns-in-MissingMethod c = told c.in-MissingMethod.is (λ ns w. refl)
