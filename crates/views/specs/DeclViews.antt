-- A declaration of the file, as the code shows it.
use Rattle.std.specs.Prelude.{◌≡◌, List, ℕ, ◌+◌, Option, Some, None}
use Rattle.std.proofs.Math.Option.{some}
use Rattle.meaning.specs.Base.{nth}
use Rattle.meaning.specs.Ast.{Name, named, Ty, Pred, Expr, ClassDecl, InstanceDecl, Decl, class_decl, instance_decl, let_decl, check_decl}
use Rattle.meaning.specs.Reader.{got, Reader, from}
use Rattle.meaning.specs.File.{decl_entry}
use Rattle.reader.specs.Placing.{Placed}
use Rattle.views.specs.declared.Listed.{Listed}
use Rattle.views.specs.declared.DeclNode.{DeclNode}
use Rattle.views.specs.declared.DeclNode.TheVariants.{Class, Instance, Let, Check}
use Rattle.views.specs.Numbers.{CountRead, Named, NamedAll, NamedRows}

-- A list at a place: its items begin behind its count.
pub record ListRead (bytes : List ℕ) (at : ℕ) (l : Listed) : Type 0 where
  pub first : l.at ≡ at + 2
  pub counted : CountRead bytes at l.count

-- A list of names, each with a type or an expression.
abbrev pub Pairs : {A : Type 0} → List ℕ → List Name → List A → Listed → List (Name × A) → Type 0
Pairs {A = A} bytes ns xs l us = NamedRows bytes ns xs (λ (u : Name × A). u.0) (λ (u : Name × A). u.1) l.at l.count us

-- A list of predicates.
abbrev pub Preds : List ℕ → List Name → List Ty → Listed → List Pred → Type 0
Preds bytes ns ts l us = NamedRows bytes ns ts (λ (u : Pred). u.class) (λ (u : Pred). u.ty) l.at l.count us

-- A class: name, variable, superclasses, signatures, defaults.
pub record ClassAs (bytes : List ℕ) (ns : List Name) (ts : List Ty) (es : List Expr) (d : Decl) (c a : ℕ) (supers sigs defaults : Listed) : Type 0 where
  pub decl : ClassDecl
  pub variable : Name
  pub is : d ≡ class_decl decl
  pub tyvar : decl.tyvar ≡ named variable
  pub name_so : Named ns c decl.name
  pub variable_so : Named ns a variable
  pub supers_so : NamedAll bytes ns supers.at supers.count decl.supers
  pub sigs_so : Pairs bytes ns ts sigs decl.sigs
  pub defaults_so : Pairs bytes ns es defaults decl.defaults

-- An instance: context, head class, head type, methods.
pub record InstanceAs (bytes : List ℕ) (ns : List Name) (ts : List Ty) (es : List Expr) (d : Decl) (context : Listed) (c t : ℕ) (methods : Listed) : Type 0 where
  pub decl : InstanceDecl
  pub is : d ≡ instance_decl decl
  pub context_so : Preds bytes ns ts context decl.context
  pub class_so : Named ns c decl.head.class
  pub type_so : Named ts t decl.head.ty
  pub methods_so : Pairs bytes ns es methods decl.methods

-- A let: name and expression.
pub record LetDeclAs (ns : List Name) (es : List Expr) (d : Decl) (x b : ℕ) : Type 0 where
  pub name : Name
  pub bound : Expr
  pub name_so : Named ns x name
  pub bound_so : Named es b bound
  pub is : d ≡ let_decl name bound

-- A check: its expression.
pub record CheckAs (es : List Expr) (d : Decl) (b : ℕ) : Type 0 where
  pub checked : Expr
  pub checked_so : Named es b checked
  pub is : d ≡ check_decl checked

-- What the answer says of a declaration d. One of the file is always there.
abbrev pub DeclAs : List ℕ → List Name → List Ty → List Expr → Decl → Option DeclNode → Type 0
DeclAs bytes ns ts es d (Some (Class c a supers sigs defaults)) = ClassAs bytes ns ts es d c a supers sigs defaults
DeclAs bytes ns ts es d (Some (Instance context c t methods)) = InstanceAs bytes ns ts es d context c t methods
DeclAs bytes ns ts es d (Some (Let x b)) = LetDeclAs ns es d x b
DeclAs bytes ns ts es d (Some (Check b)) = CheckAs es d b
DeclAs bytes ns ts es d None = ⊥

-- What stands at a place: right for every declaration that this reader of the definition reads there.
pub record EntryRead (entry : List Name → List Ty → List Expr → Reader Decl) (bytes : List ℕ) (at : ℕ) (r : Option DeclNode) : Type 0 where
  pub is : (ns : List Name) (ts : List Ty) (es : List Expr) (d : Decl) (next : ℕ) (rest : List ℕ) → entry ns ts es at (from at bytes) ≡ got d next rest → DeclAs bytes ns ts es d r

-- Declaration i of a file whose declarations stand at their places in the index.
pub record IsDecl (bytes ix : List ℕ) (i : ℕ) (r : Option DeclNode) : Type 0 where
  pub is : (ns : List Name) (ts : List Ty) (es : List Expr) (ds : List Decl) (at end : ℕ) (d : Decl) → Placed bytes ix 10_240 (λ earlier. decl_entry ns ts es) ds at end → nth ds i ≡ some d
      → DeclAs bytes ns ts es d r
