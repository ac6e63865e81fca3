-- There is a class environment for any class table and any words of instances: what `resolve` promises for all of them is
-- promised for some.
use mathlib.Core.List.{List, []}
use Prim.Native.Nat.{ℕ}
use Rattle.meaning.specs.Classes.{ClassEnv}
use Rattle.names.specs.Names.{Names}
use Rattle.instances.specs.Accepted.{Heads}
use Rattle.instances.proofs.Plain.{plains, some_instances}
use Rattle.supers.proofs.ClassEnvs.{some_env, some_supers}
use Rattle.resolve.specs.Resolves.{Declared}

-- The classes of the table and the instances of the words.
abbrev pub plain_env : List ℕ → List ℕ → List ℕ → List ℕ → ClassEnv
plain_env ns cl w il = record { classes = (some_env ns cl).classes; method_of = []; instances = plains ns w il }

-- There is an environment of any such words.
pub some_declared : {ns w il : List ℕ} {top : ℕ} (cl : List ℕ) → Names ns → Heads w top il → Declared ns cl w top il (plain_env ns cl w il)
some_declared {ns} {w} {il} {top} cl N H = record {
  supers = record { is = λ c. (some_supers ns cl N).is c };
  instances = some_instances ns H;
}
