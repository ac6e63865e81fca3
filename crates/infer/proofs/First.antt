-- A new session meets what inference asks and what its promises suppose: no classes, the primitives, both counters at zero.
use mathlib.Core.Path.{◌≡◌, refl, sym, subst}
use mathlib.Core.List.{List, []}
use mathlib.Core.Option.{none, some}
use Prim.Native.Nat.{ℕ, ◌+◌, ◌*◌, ◌<◌, ◌≤◌}
use native.Mathlib.Omega.{arith}
use lib.ListN.{length, get_or}
use Rattle.meaning.specs.Base.{nth, count}
use Rattle.meaning.specs.Ast.{Expr}
use Rattle.meaning.specs.Map.{get}
use Rattle.meaning.specs.Classes.{ClassInfo, InstanceInfo, no_classes}
use Rattle.meaning.specs.Session.{primitives, new, at_first}
use Rattle.theorems.proofs.Made.{MadeEnv}
use Rattle.theorems.proofs.Renames.{reached_made}
use Rattle.names.specs.Names.{Names}
use Rattle.rows.specs.BuiltIns.{BuiltIns}
use Rattle.ast.specs.Table.{Table}
use Rattle.scope.specs.Scope.{Scope, env_of}
use Rattle.classes.proofs.Empty.{empty_supers, empty_methods}
use Rattle.exprs.specs.Exprs.{Written}
use Rattle.instantiate.specs.Looks.{NamesRight}
use Rattle.inferred.specs.Inferring.{Still, ReadyI}
use Rattle.infer.specs.Asking.{Asked}

-- Tables of zeros and no words of instances stand for no classes and no instances.
pub no_still : (ns w cl mt : List ℕ) (top : ℕ) → ((j : ℕ) → get_or cl j 0 ≡ 0) → ((j : ℕ) → get_or mt j 0 ≡ 0) → Still ns w cl mt [] top no_classes
unfolding nth count
no_still ns w cl mt top c m = record {
  declared = record { supers = empty_supers cl c ns; instances = record { many = refl; each = λ i inst e. absurd (none_some inst e) } };
  methods = empty_methods mt m ns w top;
}
  where
    none_some : (inst : InstanceInfo) → none ≡ some inst → ⊥
    none_some inst e = let z : ◌≡◌ {A = ℕ} 0 1 = cc in omega arith

-- Each class has its own name, there being none.
pub no_names_wrong : NamesRight no_classes
unfolding get
no_names_wrong = record { is = λ c ci e. absurd (none_some ci e) }
  where
    none_some : (ci : ClassInfo) → none ≡ some ci → ⊥
    none_some ci e = let z : ◌≡◌ {A = ℕ} 0 1 = cc in omega arith

-- The primitives have no free variables, so they have made ones alone.
pub primitives_made : MadeEnv primitives
unfolding new
primitives_made = reached_made new at_first

-- What the promises suppose of an expression of an accepted file.
pub first_asked : (bytes ns ix w cl mt ev od : List ℕ) (top i : ℕ) (x : Expr) → ((j : ℕ) → get_or cl j 0 ≡ 0) → ((j : ℕ) → get_or mt j 0 ≡ 0)
    → env_of ns w ev od ≡ primitives → Written bytes ns ix i x → Asked bytes ns ix w cl mt [] ev od top i (no_classes, x)
first_asked bytes ns ix w cl mt ev od top i x c m e h = record {
  still = no_still ns w cl mt top c m;
  right = no_names_wrong;
  written = h;
  made = subst MadeEnv (sym e) primitives_made;
}

-- What inference asks of the words, with as many steps as there is room for.
pub first_ready : (ns w ev od bs : List ℕ) (top left : ℕ) → Names ns → BuiltIns ns → Table w top → Scope ns w ev od top → length od ≡ 1_059
    → 4 * top + 8 * left ≤ length w → length w ≤ 2_305_843_009_213_693_952 → 3 * left ≤ length bs → left ≤ 1_000_000
    → ReadyI 0 0 0 ns w ev od [] bs top left (length w) 0 0
first_ready ns w ev od bs top left N B T S a r l b n = record {
  names = N;
  built = B;
  table = T;
  scope = S;
  all = a;
  heads = record { node = λ i h. absurd (none_below i h); cell = λ i h. absurd (none_below i h) };
  room = omega arith;
  fits = omega arith;
  long = l;
  rows = omega arith;
  tvs = omega arith;
  dvs = omega arith;
}
  where
    none_below : (i : ℕ) → i < length {A = ℕ} [] → ⊥
    none_below i h = omega (arith, h)
