-- The session file of document 01, section by section. A node names only nodes of smaller number in its own section:
-- it is read by those that stand before it, so types and expressions are trees from the start.
use Rattle.std.specs.Prelude.{true, false, ◌||◌, List, [], ◌∷◌, ℕ}
use Rattle.std.proofs.Math.Option.{Option, none, some}
use Rattle.meaning.specs.Base.{is_yes, if, eqb, ltb, count, any, nth}
use Rattle.meaning.specs.Text.{packed}
use Rattle.meaning.specs.Ast.{Name, name, same_name, named, Ty, Tys, var, con, arrow, nil, ◌◂◌, Pred, pred, Expr, evar, eint, ebool, eabs, eapp, elet, Decl, class_decl, instance_decl, let_decl, check_decl}
use Rattle.meaning.specs.Errors.{format, limit, reserved}
use Rattle.meaning.specs.Reserved.{letter_of_name, all, made_variable, made_name}
use Rattle.meaning.specs.Reader.{Read, bad, Reader, ◌>>=◌, pure, item, unless, field, numeral, one_of, tagged, section, list_of, pair, end_of_file}

-- What a file says.
pub record File : Type 0 where
  pub names : List Name
  pub types : List Ty
  pub exprs : List Expr
  pub decls : List Decl

-- Bytes as a name, if each is a letter, a digit or an underscore.
unfoldable pub name_of : List ℕ → Option Name
name_of bs = if (all letter_of_name bs) (some (name (packed 32 bs))) none

-- A name's first field: its length, 1 to 32.
unfoldable pub name_length : Reader ℕ
name_length = item format (numeral 1) (unless (λ n. eqb n 0 || ltb 32 n))

-- Its second field: ASCII letters, digits, underscores, and no name that stands before it.
unfoldable pub name_text : List Name → ℕ → Reader Name
name_text earlier length = item format (item format (field length) name_of) (unless (λ x. any (λ y. is_yes (same_name x y)) earlier))

-- Names: length byte 1 to 32, then ASCII letters, digits, underscores. No two equal.
unfoldable pub name_entry : List Name → Reader Name
name_entry earlier = do
  length ← name_length
  name_text earlier length

-- A type variable's name number: RESERVED where it is `t` plus digits.
unfoldable pub variable : List Name → Reader Name
variable ns = item reserved (one_of ns) (unless made_variable)

-- A name number in an expression, signature, default, method or let: RESERVED where the checker makes such names.
unfoldable pub word : List Name → Reader Name
word ns = item reserved (one_of ns) (unless made_name)

-- The arguments of a constructor.
unfoldable pub tys_of : List Ty → Tys
tys_of [] = nil
tys_of (t ∷ ts) = t ◂ tys_of ts

-- 0 Var name.
unfoldable pub var_node : List Name → Reader Ty
var_node ns = do
  x ← variable ns
  pure (var (named x))

-- 1 Con name, argument count, type numbers.
unfoldable pub con_node : List Name → List Ty → Reader Ty
con_node ns ts = do
  c ← one_of ns
  us ← list_of (one_of ts)
  pure (con c (tys_of us))

-- 2 Arrow, two type numbers.
unfoldable pub arrow_node : List Ty → Reader Ty
arrow_node ts = do
  a ← one_of ts
  b ← one_of ts
  pure (arrow a b)

-- Types: tag byte 0 Var; 1 Con; 2 Arrow.
unfoldable pub type_node : List Name → List Ty → Reader Ty
type_node ns ts = tagged (var_node ns ∷ con_node ns ts ∷ arrow_node ts ∷ [])

-- 0 Var name.
unfoldable pub evar_node : List Name → Reader Expr
evar_node ns = do
  x ← word ns
  pure (evar x)

-- 1 Int, 8 bytes.
unfoldable pub int_node : Reader Expr
int_node = do
  n ← numeral 8
  pure (eint n)

-- 2 Bool, byte 0 or 1.
unfoldable pub bool_node : Reader Expr
bool_node = do
  b ← item format (numeral 1) (nth (false ∷ true ∷ []))
  pure (ebool b)

-- 3 Abs name, body.
unfoldable pub abs_node : List Name → List Expr → Reader Expr
abs_node ns es = do
  x ← word ns
  e ← one_of es
  pure (eabs x e)

-- 4 App, two expressions.
unfoldable pub app_node : List Expr → Reader Expr
app_node es = do
  f ← one_of es
  e ← one_of es
  pure (eapp f e)

-- 5 Let name, two expressions.
unfoldable pub let_node : List Name → List Expr → Reader Expr
let_node ns es = do
  x ← word ns
  e ← one_of es
  f ← one_of es
  pure (elet x e f)

-- Expressions: 0 Var; 1 Int; 2 Bool; 3 Abs; 4 App; 5 Let.
unfoldable pub expr_node : List Name → List Expr → Reader Expr
expr_node ns es = tagged (evar_node ns ∷ int_node ∷ bool_node ∷ abs_node ns es ∷ app_node es ∷ let_node ns es ∷ [])

-- 0 class: name, variable, supers, signatures (name, type), defaults (name, expression).
unfoldable pub class_entry : List Name → List Ty → List Expr → Reader Decl
class_entry ns ts es = do
  c ← one_of ns
  a ← variable ns
  supers ← list_of (one_of ns)
  sigs ← list_of (pair (word ns) (one_of ts))
  defaults ← list_of (pair (word ns) (one_of es))
  pure (class_decl (record { name = c; tyvar = named a; supers = supers; sigs = sigs; defaults = defaults }))

-- A class and a type.
unfoldable pub pred_entry : List Name → List Ty → Reader Pred
pred_entry ns ts = do
  c ← one_of ns
  t ← one_of ts
  pure (pred c t)

-- 1 instance: context (class, type), head class, head type, methods (name, expression).
unfoldable pub instance_entry : List Name → List Ty → List Expr → Reader Decl
instance_entry ns ts es = do
  context ← list_of (pred_entry ns ts)
  head ← pred_entry ns ts
  methods ← list_of (pair (word ns) (one_of es))
  pure (instance_decl (record { context = context; head = head; methods = methods }))

-- 2 let: name, expression.
unfoldable pub let_entry : List Name → List Expr → Reader Decl
let_entry ns es = do
  x ← word ns
  e ← one_of es
  pure (let_decl x e)

-- 3 check: expression.
unfoldable pub check_entry : List Expr → Reader Decl
check_entry es = do
  e ← one_of es
  pure (check_decl e)

-- Declarations: 0 class; 1 instance; 2 let; 3 check.
unfoldable pub decl_entry : List Name → List Ty → List Expr → Reader Decl
decl_entry ns ts es = tagged (class_entry ns ts es ∷ instance_entry ns ts es ∷ let_entry ns es ∷ check_entry es ∷ [])

-- Names at most 1,024, types and expressions at most 4,096 each, declarations at most 512; no byte follows the last.
unfoldable pub sections : Reader File
sections = do
  ns ← section 1_024 name_entry
  ts ← section 4_096 (type_node ns)
  es ← section 4_096 (expr_node ns)
  ds ← section 512 (λ earlier. decl_entry ns ts es)
  _ ← end_of_file
  pure (record { names = ns; types = ts; exprs = es; decls = ds })

-- A file holds at most 65,535 bytes: LIMIT at 0 before all.
unfoldable pub read : List ℕ → Read File
read bytes = elim (ltb 65_535 (count bytes)) [ true ↦ bad (limit 0) | false ↦ sections 0 bytes ]
