-- 005, errors.rs, and the refusals that the port adds: document 01's number and values for each.
use Rattle.std.specs.Prelude.{Bool, List, [], ◌∷◌, ℕ}
use Rattle.meaning.specs.Base.{ltb}
use Rattle.meaning.specs.Ast.{Name, TyVar, Ty, Pred}

-- The port's own refusals first, 1 to 3 with an offset into the file; then `InferenceError`, variant by variant.
pub data Refusal : Type 0 where
  format limit reserved : ℕ → Refusal
  redeclared room out_of_steps too_deep output : Refusal
  unbound_variable : Name → Refusal
  unification_failure : Ty → Ty → Refusal
  occurs_check : TyVar → Ty → Refusal
  con_mismatch : Name → Name → Refusal
  arity_mismatch : Name → ℕ → ℕ → Refusal
  no_instance : Pred → Refusal
  ambiguous : Pred → Refusal
  duplicate_instance : Pred → Refusal
  unknown_class : Name → Refusal
  unknown_method : Name → Refusal
  missing_superclass : Name → Name → Refusal
  missing_method : Name → Ty → Name → Refusal

-- Document 01's number.
unfoldable pub number : Refusal → ℕ
number (format k) = 1
number (limit k) = 2
number (reserved k) = 3
number redeclared = 4
number room = 5
number out_of_steps = 6
number too_deep = 7
number output = 8
number (unbound_variable x) = 11
number (unification_failure a b) = 12
number (occurs_check x a) = 13
number (con_mismatch c e) = 14
number (arity_mismatch c m n) = 15
number (no_instance p) = 16
number (ambiguous p) = 17
number (duplicate_instance p) = 18
number (unknown_class c) = 19
number (unknown_method m) = 20
number (missing_superclass c s) = 21
number (missing_method c a m) = 22

-- What a refusal's field holds.
pub data Value : Type 0 where
  a_number : ℕ → Value
  a_name : Name → Value
  a_variable : TyVar → Value
  a_type : Ty → Value

-- A predicate is two values.
abbrev pub of_pred : Pred → List Value
of_pred p = a_name p.class ∷ a_type p.ty ∷ []

-- Document 01's values: the offset of 1 to 3, the fields of 005 in their order.
unfoldable pub values : Refusal → List Value
values (format k) = a_number k ∷ []
values (limit k) = a_number k ∷ []
values (reserved k) = a_number k ∷ []
values redeclared = []
values room = []
values out_of_steps = []
values too_deep = []
values output = []
values (unbound_variable x) = a_name x ∷ []
values (unification_failure a b) = a_type a ∷ a_type b ∷ []
values (occurs_check x a) = a_variable x ∷ a_type a ∷ []
values (con_mismatch c e) = a_name c ∷ a_name e ∷ []
values (arity_mismatch c m n) = a_name c ∷ a_number m ∷ a_number n ∷ []
values (no_instance p) = of_pred p
values (ambiguous p) = of_pred p
values (duplicate_instance p) = of_pred p
values (unknown_class c) = a_name c ∷ []
values (unknown_method m) = a_name m ∷ []
values (missing_superclass c s) = a_name c ∷ a_name s ∷ []
values (missing_method c a m) = a_name c ∷ a_type a ∷ a_name m ∷ []

-- A refusal that the port adds: no answer of the Rust.
unfoldable pub added : Refusal → Bool
added r = ltb (number r) 11
