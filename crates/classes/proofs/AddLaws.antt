-- A class environment with one more class, by its words; and the ways out of `add_class`.
use mathlib.Core.Path.{◌≡◌, refl, sym, ap, ◌∙◌}
use mathlib.Core.Bool.{true}
use mathlib.Core.List.{List, map}
use mathlib.Core.Option.{some}
use Prim.Native.Nat.{ℕ, ◌<◌}
use native.Mathlib.Decide.{ℕ_discrete}
use native.Mathlib.Omega.{arith}
use lib.ListN.{length, get_or}
use Rattle.meaning.specs.Ast.{Name}
use Rattle.meaning.specs.Budget.{done, after}
use Rattle.meaning.specs.Map.{names}
use Rattle.meaning.specs.Classes.{ClassEnv, ClassInfo, class_of, supers_of, supers_known, with_class, add_class}
use Rattle.theorems.proofs.Maps.{get_insert_same, get_insert_other}
use Rattle.names.specs.Names.{name_of}
use Rattle.names.proofs.Distinct.{name_of_same}
use Rattle.errors.specs.declared.Refusal.TheVariants.{MissingSuperclass}
use Rattle.supers.specs.ClassTable.{declared_at, super_words_of, Supers}
use Rattle.classes.specs.Growing.{is_some, Declared}
use Rattle.classes.specs.Adding.{Knows, ReadyClass, IsClass, PutClass, PutAs, Puts, AddsClass}
use Rattle.std.specs.Prelude.{Result, Ok, Err}
use Rattle.classes.specs.declared.NotAdded.{NotAdded}
use Rattle.classes.specs.declared.NotAdded.TheVariants.{Refused, Full}
use Rattle.classes.proofs.Grown.{new_declared, new_table, other_declared, other_supers, new_supers}

-- ## The class environment

-- The new class is found.
pub class_new : (ce : ClassEnv) (ci : ClassInfo) (n : Name) → ci.name ≡ n → class_of (with_class ci ce) n ≡ some ci
unfolding with_class
class_new ce ci n e = rw (← e) (get_insert_same names ci.name ci ce.classes)

-- Any other is what it was.
pub class_other : (ce : ClassEnv) (ci : ClassInfo) (n : Name) → (n ≡ ci.name → ⊥) → class_of (with_class ci ce) n ≡ class_of ce n
unfolding with_class
class_other ce ci n h = get_insert_other names n (ci.name, ci) ce.classes h

module _ {ns cl : List ℕ} {rows used c : ℕ} {ss : List ℕ} {ce : ClassEnv} {ci : ClassInfo} (R : ReadyClass ns cl rows used c ce) (I : IsClass ns c ss ci) where
  -- Another number is another class.
  not_new : (d : ℕ) → (d ≡ c → ⊥) → name_of ns d ≡ ci.name → ⊥
  not_new d n e = n (name_of_same ns R.names d c (e ∙ I.name))

  module _ {cl' : List ℕ} {used' : ℕ} (K : (i : ℕ) → i < length ss → declared_at cl (get_or ss i 0) ≡ true) (P : PutClass cl cl' used c ss used') where
    -- The table has the classes.
    added_declared : Declared ns cl' (with_class ci ce)
    added_declared = record { is = λ d. go d (ℕ_discrete d c) }
      where
        go : (d : ℕ) → Dec (d ≡ c) → is_some (class_of (with_class ci ce) (name_of ns d)) ≡ declared_at cl' d
        go d (yes e) = rw (e, class_new ce ci (name_of ns c) I.name) (sym (new_declared R.table R.row K P))
        go d (no n) = rw (class_other ce ci (name_of ns d) (not_new d n)) (R.declared.is d ∙ sym (other_declared R.table R.row K P d n))

    -- It has their superclasses.
    added_supers : Supers ns cl' (with_class ci ce)
    unfolding supers_of
    added_supers = record { is = λ d. go d (ℕ_discrete d c) }
      where
        go : (d : ℕ) → Dec (d ≡ c) → supers_of (class_of (with_class ci ce) (name_of ns d)) ≡ map (name_of ns) (super_words_of cl' d)
        go d (yes e) = rw (e, class_new ce ci (name_of ns c) I.name) (I.supers ∙ sym (ap (map (name_of ns)) (new_supers R.table R.row K P)))
        go d (no n) = rw (class_other ce ci (name_of ns d) (not_new d n)) (R.supers.is d ∙ sym (ap (map (name_of ns)) (other_supers R.table R.row K P d n)))

-- ## The ways out of `add_class`

-- The outcome where the superclasses are known.
add_opens : (ce : ClassEnv) (ci : ClassInfo) (left : ℕ) → supers_known ce ci.name ci.supers left ≡ done tt left → add_class ce ci left ≡ done (with_class ci ce) left
unfolding add_class after
add_opens ce ci left e = rw e

-- They are known.
known_then : {ns cl : List ℕ} {rows used c : ℕ} {ss : List ℕ} {ce : ClassEnv} {ci : ClassInfo} {u : Unit {0}} → Knows cl ss (Ok u) → ReadyClass ns cl rows used c ce → IsClass ns c ss ci → (left : ℕ)
    → add_class ce ci left ≡ done (with_class ci ce) left
known_then {ns} {cl} {rows} {used} {c} {ss} {ce} {ci} {u} N R I left = add_opens ce ci left (rw (I.name, I.supers) (N.answer ns ce R.declared (name_of ns c) left))

-- All superclasses are known: what `put_class` answers.
pub adds_all : {cl cl' : List ℕ} {used c : ℕ} {ss : List ℕ} {k : Result (Unit {0}) ℕ} {u : Unit {0}} {r : Result ℕ NotAdded} → Knows cl ss k → k ≡ Ok u → Puts cl cl' used c ss r → AddsClass cl cl' used c ss r
adds_all {cl} {cl'} {used} {c} {ss} {k} {u} {r} N e P = go r P.is (rw e at N)
  where
    go : (x : Result ℕ NotAdded) → PutAs cl cl' used c ss x → Knows cl ss (Ok u) → AddsClass cl cl' used c ss x
    go (Ok used') p M = record {
      stands = tt;
      answer = λ ns rows left ce ci R I. record {
        is = known_then M R I left;
        more = p.is;
        table = new_table R.table R.row M.rows p;
        supers = added_supers R I M.rows p;
        declared = added_declared R I M.rows p;
      };
    }
    go (Err (Refused x)) p M = absurd p
    go (Err Full) p M = record {
      stands = p.0;
      answer = λ ns rows left ce ci R I. record {
        is = known_then M R I left;
        short = let f = R.table.first in let u = R.table.fits in let h = R.row in p.1 (omega arith);
      };
    }

-- One is missing: 21.
pub adds_missing : {cl : List ℕ} {used c : ℕ} {ss : List ℕ} {k : Result (Unit {0}) ℕ} {s : ℕ} → Knows cl ss k → k ≡ Err s → AddsClass cl cl used c ss (Err (Refused (MissingSuperclass c s)))
unfolding add_class after
adds_missing {cl} {used} {c} {ss} {k} {s} N e = record {
  stands = refl;
  answer = λ ns rows left ce ci R I w top. record {
    is = rw (I.name, I.supers, (rw e at N).answer ns ce R.declared (name_of ns c) left);
    types = tt;
    more = omega arith;
    down = omega arith;
  };
}
