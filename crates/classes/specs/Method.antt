-- The method table: for the method of name m, word 2 * m is the name of its class plus one, or zero where no class has it, and
-- word 2 * m + 1 the type of that class's first signature of the name.
use Rattle.std.specs.Prelude.{◌≡◌, List, [], ◌∷◌, ℕ, zero, suc, ◌+◌, ◌*◌, ◌-◌, ◌/◌, ◌<◌, ltb, length, get_or, set, Option, Some, None}
use Rattle.std.proofs.Math.Option.{none, some}
use Rattle.meaning.specs.Base.{if, eqb}
use Rattle.meaning.specs.Ast.{Name, Ty}
use Rattle.meaning.specs.Classes.{ClassEnv, ClassInfo, class_of, with_class, lookup_method}
use Rattle.names.specs.Names.{name_of, Names}
use Rattle.ast.specs.Table.{tree, Node}
use Rattle.classes.specs.declared.Method.{Method}

-- A method of the class of name c, with the type of word t.
abbrev pub of_class : ℕ → ℕ → Method
of_class c t = record { class = c; ty = t }

-- What the table has for the method of name m.
unfoldable pub method_at : List ℕ → ℕ → Option Method
method_at mt m = if (ltb (2 * m + 1) (length mt)) (if (ltb 0 (get_or mt (2 * m) 0)) (Some (of_class (get_or mt (2 * m) 0 - 1) (get_or mt (2 * m + 1) 0))) None) None

-- The method belongs to the class of name c, and t is its type there.
pub record OfClass (ns w : List ℕ) (top : ℕ) (ce : ClassEnv) (m : Name) (c t : ℕ) : Type 0 where
  pub info : ClassInfo
  pub class : class_of ce (name_of ns c) ≡ some info
  pub node : Node w top t
  pub is : lookup_method ce m ≡ some (info, tree ns w t)

-- For the outcome of `lookup_method`: a class and a type of the table, or nothing.
abbrev pub MethodAs : List ℕ → List ℕ → ℕ → ClassEnv → Name → Option Method → Type 0
MethodAs ns w top ce m (Some q) = OfClass ns w top ce m q.class q.ty
MethodAs ns w top ce m None = lookup_method ce m ≡ none

-- The table says what the class environment has.
pub record Methods (ns w : List ℕ) (top : ℕ) (mt : List ℕ) (ce : ClassEnv) : Type 0 where
  pub is : (m : ℕ) → MethodAs ns w top ce (name_of ns m) (method_at mt m)

-- The answer, for every class environment of which the table says the methods.
pub record LooksUp (mt : List ℕ) (m : ℕ) (r : Option Method) : Type 0 where
  pub at : r ≡ method_at mt m
  pub answer : (ns w : List ℕ) (top : ℕ) (ce : ClassEnv) → Methods ns w top mt ce → MethodAs ns w top ce (name_of ns m) r

-- ## A class's signatures

-- The k signatures from word at: a name and a type's word each.
unfoldable pub sigs_at : List ℕ → List ℕ → List ℕ → ℕ → ℕ → List (Name × Ty)
sigs_at ns w sl at zero = []
sigs_at ns w sl at (suc k) = (name_of ns (get_or sl at 0), tree ns w (get_or sl (at + 1) 0)) ∷ sigs_at ns w sl (at + 2) k

-- The method of name m belongs to the class of name c from now on, with the type of word t. If it is that class's already, an
-- earlier signature of the name stays.
unfoldable pub with_method : List ℕ → ℕ → ℕ → ℕ → List ℕ
with_method mt m c t = if (eqb (get_or mt (2 * m) 0) (c + 1)) mt (set (set mt (2 * m) (c + 1)) (2 * m + 1) t)

-- The same for k signatures, one after the other.
unfoldable pub with_methods : List ℕ → ℕ → List ℕ → ℕ → ℕ → List ℕ
with_methods mt c sl at zero = mt
with_methods mt c sl at (suc k) = with_methods (with_method mt (get_or sl at 0) c (get_or sl (at + 1) 0)) c sl (at + 2) k

-- The class and the methods of the words sl have rows.
pub record Rowed (mt : List ℕ) (c : ℕ) (sl : List ℕ) : Type 0 where
  pub class : 2 * c + 1 < length mt
  pub each : (i : ℕ) → i < length sl / 2 → 2 * get_or sl (2 * i) 0 + 1 < length mt

-- A new class of name c with the signatures of the words sl, whose types are words of the table.
pub record NewSigs (ns w : List ℕ) (top c : ℕ) (sl : List ℕ) (ce : ClassEnv) (ci : ClassInfo) : Type 0 where
  pub names : Names ns
  pub new : class_of ce (name_of ns c) ≡ none
  pub name : ci.name ≡ name_of ns c
  pub sigs : ci.sigs ≡ sigs_at ns w sl 0 (length sl / 2)
  pub nodes : (i : ℕ) → i < length sl / 2 → Node w top (get_or sl (2 * i + 1) 0)

-- The table has the methods of every class environment with one more class, if it had those of the environment before.
pub record AddsMethods (mt mt' : List ℕ) (c : ℕ) (sl : List ℕ) : Type 0 where
  pub long : length mt' ≡ length mt
  pub answer : (ns w : List ℕ) (top : ℕ) (ce : ClassEnv) (ci : ClassInfo) → NewSigs ns w top c sl ce ci → Methods ns w top mt ce → Methods ns w top mt' (with_class ci ce)
