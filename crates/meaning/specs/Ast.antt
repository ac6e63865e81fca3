-- 003, ast.rs: names, types, predicates, schemes, expressions, core terms, declarations.
use Rattle.std.specs.Prelude.{◌≡◌, Bool, true, false, List, [], ◌∷◌, ℕ, suc, ◌+◌}
use Prim.Native.String.{String}
use Rattle.std.proofs.Math.Decide.{ℕ_discrete}
use Rattle.meaning.specs.Base.{if, eqb, ltb}
use Rattle.meaning.specs.Text.{quoted, packed, decimal}

-- A name as the file writes it, and the letters and built-in names beside it: its bytes, zeros after them, as a
-- number of 32 bytes. Equal bytes are equal names, and byte order is the order of the numbers.
pub data Name : Type 0 where
  name : ℕ → Name
  deriving Discrete as name-discrete

-- Names are equal or not.
unfoldable pub same_name : (x y : Name) → Dec (x ≡ y)
same_name x y = name-discrete ℕ_discrete x y

-- The name of that text.
unfoldable pub called : String → Name
called s = name (packed 32 (quoted s []))

-- Byte order of names.
unfoldable pub name_before : Name → Name → Bool
name_before (name m) (name n) = ltb m n

-- A type variable: a name, or `t` and a number that the checker made (`fresh_tyvar`).
pub data TyVar : Type 0 where
  named : Name → TyVar
  fresh : ℕ → TyVar
  deriving Discrete as tyvar-discrete

-- Type variables are equal or not.
unfoldable pub same_tyvar : (x y : TyVar) → Dec (x ≡ y)
same_tyvar x y = tyvar-discrete same_name ℕ_discrete x y

-- The bytes of a type variable as one number: `t10` lies before `t1a`, and that before `t2`.
unfoldable pub key : TyVar → ℕ
key (named (name n)) = n
key (fresh k) = packed 32 (116 ∷ decimal 30 k [])

-- Two variables of the same bytes. RESERVED lets no such two meet; the order is total all the same.
unfoldable pub tie : TyVar → TyVar → Bool
tie (named x) (named y) = false
tie (named x) (fresh n) = true
tie (fresh m) (named y) = false
tie (fresh m) (fresh n) = ltb m n

-- Byte order of type variables.
unfoldable pub tyvar_before : TyVar → TyVar → Bool
tyvar_before x y = if (eqb (key x) (key y)) (tie x y) (ltb (key x) (key y))

-- The k-th letter, `a` the 0-th.
unfoldable pub letter : ℕ → TyVar
letter k = named (name (packed 32 ((97 + k) ∷ [])))

-- A dictionary's name: `d` and a number (`fresh_dictvar`); `d_ctx_CLASS_I`, the I-th context of an instance; `self`.
pub data DictName : Type 0 where
  dvar : ℕ → DictName
  ctx : Name → ℕ → DictName
  self : DictName
  deriving Discrete as dict-name-discrete

-- Dictionary names are equal or not.
unfoldable pub same_dict : (x y : DictName) → Dec (x ≡ y)
same_dict x y = dict-name-discrete ℕ_discrete same_name x y

-- A field of a dictionary record: a method, or `__super_CLASS__SUPER` (`super_field`).
pub data Field : Type 0 where
  method : Name → Field
  super : Name → Name → Field
  deriving Discrete as field-discrete

-- Fields are equal or not.
unfoldable pub same_field : (x y : Field) → Dec (x ≡ y)
same_field x y = field-discrete same_name x y

-- Types, and lists of types.
infixr 67 ◌◂◌
mutual
  pub data Ty : Type 0 where
    var : TyVar → Ty
    con : Name → Tys → Ty
    arrow : Ty → Ty → Ty
    deriving Discrete as ty-discrete

  pub data Tys : Type 0 where
    nil : Tys
    ◌◂◌ : Ty → Tys → Tys

-- Types are equal or not, as trees.
unfoldable pub same_ty : (a b : Ty) → Dec (a ≡ b)
same_ty a b = ty-discrete same_tyvar same_name a b

-- `Type::int`.
unfoldable pub int : Ty
int = con (called "Int") nil

-- `Type::bool`.
unfoldable pub bool : Ty
bool = con (called "Bool") nil

-- How many arguments.
unfoldable pub count_tys : Tys → ℕ
count_tys nil = 0
count_tys (t ◂ ts) = suc (count_tys ts)

-- The nodes of a type, counted as a tree.
unfoldable mutual
  pub size : Ty → ℕ
  size (var x) = 1
  size (con c ts) = suc (sizes ts)
  size (arrow a b) = suc (size a + size b)

  pub sizes : Tys → ℕ
  sizes nil = 0
  sizes (t ◂ ts) = size t + sizes ts

-- A class at a type.
pub record Pred : Type 0 where
  pub class : Name
  pub ty : Ty

-- A predicate from its parts.
abbrev pub pred : Name → Ty → Pred
pred c u = record { class = c; ty = u }

-- Predicates are equal where both parts are.
unfoldable pub both_same : (p q : Pred) → Dec (p.class ≡ q.class) → Dec (p.ty ≡ q.ty) → Dec (p ≡ q)
both_same p q (yes c) (yes t) = yes (λ i. record { class = c i; ty = t i })
both_same p q (yes c) (no t) = no (λ e. t (λ i. (e i).ty))
both_same p q (no c) t = no (λ e. c (λ i. (e i).class))

-- Predicates are equal or not.
unfoldable pub same_pred : (p q : Pred) → Dec (p ≡ q)
same_pred p q = both_same p q (same_name p.class q.class) (same_ty p.ty q.ty)

-- A type under predicates.
pub record Qual : Type 0 where
  pub preds : List Pred
  pub ty : Ty

-- A qualified type from its parts.
abbrev pub qual : List Pred → Ty → Qual
qual ps u = record { preds = ps; ty = u }

-- A qualified type for all of its variables.
pub record Scheme : Type 0 where
  pub vars : List TyVar
  pub qual : Qual

-- A scheme from its parts.
abbrev pub forall : List TyVar → Qual → Scheme
forall vs q = record { vars = vs; qual = q }

-- Expressions. An Int is its 8 bytes, least first, as one number.
pub data Expr : Type 0 where
  evar : Name → Expr
  eint : ℕ → Expr
  ebool : Bool → Expr
  eabs : Name → Expr → Expr
  eapp : Expr → Expr → Expr
  elet : Name → Expr → Expr → Expr

-- A dictionary's name and what it is a dictionary of.
abbrev pub Binder : Type 0
Binder = DictName × Pred

-- Core terms, and lists of them. `Core::Var` is `cvar` for a name of the script and `cdict` for a dictionary's.
-- A record names the instance whose methods it holds by its number.
infixr 67 ◌◃◌
mutual
  pub data Core : Type 0 where
    cvar : Name → Core
    cdict : DictName → Core
    cint : ℕ → Core
    cbool : Bool → Core
    cabs : Name → Core → Core
    capp : Core → Core → Core
    clet : Name → Core → Core → Core
    dict_abs : List Binder → Core → Core
    dict_app : Core → Cores → Core
    dict_proj : Core → Field → Core
    dict_rec : Name → Ty → ℕ → Core

  pub data Cores : Type 0 where
    cnil : Cores
    ◌◃◌ : Core → Cores → Cores

-- A class: its superclasses, the types of its methods, and terms for methods that an instance leaves out.
pub record ClassDecl : Type 0 where
  pub name : Name
  pub tyvar : TyVar
  pub supers : List Name
  pub sigs : List (Name × Ty)
  pub defaults : List (Name × Expr)

-- An instance: what it asks, what it is an instance of, and its methods.
pub record InstanceDecl : Type 0 where
  pub context : List Pred
  pub head : Pred
  pub methods : List (Name × Expr)

-- The four kinds of declaration of a session file.
pub data Decl : Type 0 where
  class_decl : ClassDecl → Decl
  instance_decl : InstanceDecl → Decl
  let_decl : Name → Expr → Decl
  check_decl : Expr → Decl
