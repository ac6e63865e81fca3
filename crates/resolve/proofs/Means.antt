-- What the code's resolution means: a dictionary comes with a derivation whose shape it has; it refuses only with 6, 7 and
-- 16; and where no two heads of a class fit a common type, 16 says that nothing derives the goal.
use mathlib.Core.List.{List}
use Prim.Native.Nat.{ℕ, ◌+◌, ◌*◌, ◌-◌}
use Rattle.meaning.specs.Ast.{Pred, Core}
use Rattle.meaning.specs.Budget.{depth}
use Rattle.meaning.specs.Classes.{ClassEnv, Given, resolve}
use Rattle.meaning.specs.Derives.{Derives, HeadsApart}
use Rattle.theorems.proofs.Says.{Definite, of_refused}
use Rattle.theorems.proofs.Resolved.{OnlyThese, resolve_refuses}
use Rattle.theorems.proofs.Theorems.{resolve_derives, resolve_decides}
use Rattle.errors.specs.Refusals.{refusal_of}
use Rattle.cores.specs.Terms.{core}
use Rattle.resolve.specs.Resolves.{Declared, GivesCore}
use Rattle.resolve.specs.Resolved.{Resolved}
use Rattle.resolve.specs.Resolved.{Done, Refused}

-- What the answer says of derivations.
abbrev pub Resolves : List ℕ → List ℕ → ClassEnv → List Given → Pred → Resolved → Type 0
Resolves ns w' ce gs p (Done e top left) = Derives ce gs p (core ns w' e)
Resolves ns w' ce gs p (Refused e top left) = OnlyThese (refusal_of ns w' e) × (HeadsApart ce → Definite (refusal_of ns w' e) → (x : Core) → Derives ce gs p x → ⊥)

pub resolve_means : (ns cl w w' il : List ℕ) (top left sp : ℕ) (gs : List Given) (p : Pred) (ce : ClassEnv) → Declared ns cl w top il ce → (r : Resolved)
    → GivesCore (Declared ns cl w top il) (core ns w') (4 * top + 8 * left - 4) 1 ns w w' top left sp (λ x. resolve x gs p left) r → Resolves ns w' ce gs p r
resolve_means ns cl w w' il top left sp gs p ce D (Done e top' left') G = resolve_derives ce gs p left (core ns w' e) left' (G.answer.is ce D)
resolve_means ns cl w w' il top left sp gs p ce D (Refused e top' left') G =
    let r = refusal_of ns w' e in
    let q = (G.answer ce D).is in
    (of_refused (λ x. Unit {0}) OnlyThese (resolve ce gs p left) r left' (resolve_refuses depth ce gs p left) q, λ apart. resolve_decides ce gs p left apart r left' q)
