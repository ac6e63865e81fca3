-- What the code's refusals stand for.
use Rattle.std.specs.Prelude.{◌≡◌, List, ℕ, ◌≤◌}
use Rattle.meaning.specs.Ast.{pred}
use Rattle.meaning.specs.Errors as E
use Rattle.meaning.specs.Budget.{Out, refused}
use Rattle.names.specs.Names.{name_of, tyvar_of}
use Rattle.ast.specs.Table.{tree, Node}
use Rattle.errors.specs.declared.Refusal.{Refusal}
use Rattle.errors.specs.declared.Refusal.TheVariants.{Format, Limit, Reserved, Redeclared, Room, Steps, Depth, Output, UnboundVariable, UnificationFailure, OccursCheck, ConMismatch, ArityMismatch, NoInstance, Ambiguous, DuplicateInstance, UnknownClass, UnknownMethod, MissingSuperclass, MissingMethod}

-- A refusal's fields, decoded under the names ns from the words w.
abbrev pub refusal_of : List ℕ → List ℕ → Refusal → E.Refusal
refusal_of ns w (Format k) = E.format k
refusal_of ns w (Limit k) = E.limit k
refusal_of ns w (Reserved k) = E.reserved k
refusal_of ns w Redeclared = E.redeclared
refusal_of ns w Room = E.room
refusal_of ns w Steps = E.out_of_steps
refusal_of ns w Depth = E.too_deep
refusal_of ns w Output = E.output
refusal_of ns w (UnboundVariable x) = E.unbound_variable (name_of ns x)
refusal_of ns w (UnificationFailure a b) = E.unification_failure (tree ns w a) (tree ns w b)
refusal_of ns w (OccursCheck v t) = E.occurs_check (tyvar_of ns v) (tree ns w t)
refusal_of ns w (ConMismatch c e) = E.con_mismatch (name_of ns c) (name_of ns e)
refusal_of ns w (ArityMismatch c m n) = E.arity_mismatch (name_of ns c) m n
refusal_of ns w (NoInstance c t) = E.no_instance (pred (name_of ns c) (tree ns w t))
refusal_of ns w (Ambiguous c t) = E.ambiguous (pred (name_of ns c) (tree ns w t))
refusal_of ns w (DuplicateInstance c t) = E.duplicate_instance (pred (name_of ns c) (tree ns w t))
refusal_of ns w (UnknownClass c) = E.unknown_class (name_of ns c)
refusal_of ns w (UnknownMethod m) = E.unknown_method (name_of ns m)
refusal_of ns w (MissingSuperclass c s) = E.missing_superclass (name_of ns c) (name_of ns s)
refusal_of ns w (MissingMethod c t m) = E.missing_method (name_of ns c) (tree ns w t) (name_of ns m)

-- The types of a refusal are words of the table.
abbrev pub InTable : List ℕ → ℕ → Refusal → Type 0
InTable w top (Format k) = Unit {0}
InTable w top (Limit k) = Unit {0}
InTable w top (Reserved k) = Unit {0}
InTable w top Redeclared = Unit {0}
InTable w top Room = Unit {0}
InTable w top Steps = Unit {0}
InTable w top Depth = Unit {0}
InTable w top Output = Unit {0}
InTable w top (UnboundVariable x) = Unit {0}
InTable w top (UnificationFailure a b) = Node w top a × Node w top b
InTable w top (OccursCheck v t) = Node w top t
InTable w top (ConMismatch c e) = Unit {0}
InTable w top (ArityMismatch c m n) = Unit {0}
InTable w top (NoInstance c t) = Node w top t
InTable w top (Ambiguous c t) = Node w top t
InTable w top (DuplicateInstance c t) = Node w top t
InTable w top (UnknownClass c) = Unit {0}
InTable w top (UnknownMethod m) = Unit {0}
InTable w top (MissingSuperclass c s) = Unit {0}
InTable w top (MissingMethod c t m) = Node w top t

-- The number is that of what the refusal stands for, under any names and words.
pub record Numbered (e : Refusal) (r : ℕ) : Type 0 where
  pub is : (ns w : List ℕ) → r ≡ E.number (refusal_of ns w e)

-- A refusal for an outcome o: so it says, its types are words of the table with top' nodes, and no step came back.
pub record Refuses {A : Type 0} (ns w' : List ℕ) (top left : ℕ) (o : Out A) (e : Refusal) (top' left' : ℕ) : Type 0 where
  pub is : o ≡ refused (refusal_of ns w' e) left'
  pub types : InTable w' top' e
  pub more : top ≤ top'
  pub down : left' ≤ left
