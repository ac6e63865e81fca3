-- The listing's text: each thing's bytes before what follows.
use Rattle.std.specs.Prelude.{Bool, true, false, List, [], ◌∷◌, ℕ, suc, ◌*◌}
use Prim.Native.String.{String}
use Rattle.meaning.specs.Base.{if, ltb, count}
use Rattle.meaning.specs.Text.{Text, quoted, decimal, unpacked}
use Rattle.meaning.specs.Ast.{Name, name, TyVar, named, fresh, DictName, dvar, ctx, self, Field, method, super, Ty, Tys, var, con, arrow, nil, ◌◂◌, Pred, Qual, Core, Cores, cvar, cdict, cint, cbool, cabs, capp, clet, dict_abs, dict_app, dict_proj, dict_rec, cnil, ◌◃◌, Binder, Decl}
use Rattle.meaning.specs.Errors.{Refusal, room, output, number, Value, a_number, a_name, a_variable, a_type, values, added}
use Rattle.meaning.specs.Reader.{Read, got, bad}
use Rattle.meaning.specs.File.{File, read}
use Rattle.meaning.specs.Session.{Result, accepted, scheme_of, typed, refusal, Answer, new, kept, session}

-- Numbers have at most 20 digits; more than that stand in no file and no counter.
unfoldable pub show_nat : ℕ → Text
show_nat n cs = decimal 30 n cs

-- A name is its bytes.
unfoldable pub show_name : Name → Text
show_name (name n) cs = unpacked 32 n cs

-- A made variable is `t` and its number.
unfoldable pub show_tyvar : TyVar → Text
show_tyvar (named x) cs = show_name x cs
show_tyvar (fresh n) cs = quoted "t" (show_nat n cs)

-- A dictionary's name as the Rust writes it.
unfoldable pub show_dict_name : DictName → Text
show_dict_name (dvar n) cs = quoted "d" (show_nat n cs)
show_dict_name (ctx c i) cs = quoted "d_ctx_" (show_name c (quoted "_" (show_nat i cs)))
show_dict_name self cs = quoted "self" cs

-- A method's name, or `__super_CLASS__SUPER`.
unfoldable pub show_field : Field → Text
show_field (method m) cs = show_name m cs
show_field (super c s) cs = quoted "__super_" (show_name c (quoted "__" (show_name s cs)))

-- A bracket, unless there are no arguments: a constructor without arguments is its bare name.
unfoldable pub bracket : String → Tys → Text
bracket b nil cs = cs
bracket b (a ◂ ts) cs = quoted b cs

-- Types, and lists of them with a blank before each.
unfoldable mutual
  pub show_ty : Ty → Text
  show_ty (var x) cs = show_tyvar x cs
  show_ty (con c ts) cs = bracket "(" ts (show_name c (show_tys ts (bracket ")" ts cs)))
  show_ty (arrow a b) cs = quoted "(-> " (show_ty a (quoted " " (show_ty b (quoted ")" cs))))

  pub show_tys : Tys → Text
  show_tys nil cs = cs
  show_tys (a ◂ ts) cs = quoted " " (show_ty a (show_tys ts cs))

-- A predicate is its class and its type.
unfoldable pub show_pred : Pred → Text
show_pred p cs = show_name p.class (quoted " " (show_ty p.ty cs))

-- What follows the first of a list in square brackets.
unfoldable pub show_rest : {A : Type 0} → (A → Text) → List A → Text
show_rest f [] cs = quoted "]" cs
show_rest f (a ∷ rest) cs = quoted ", " (f a (show_rest f rest cs))

-- A list in square brackets.
unfoldable pub show_list : {A : Type 0} → (A → Text) → List A → Text
show_list f [] cs = quoted "[]" cs
show_list f (a ∷ rest) cs = quoted "[" (f a (show_rest f rest cs))

-- A binder is its name and its predicate.
unfoldable pub show_binder : Binder → Text
show_binder b cs = show_dict_name b.0 (quoted " " (show_pred b.1 cs))

-- Booleans.
unfoldable pub show_bool : Bool → Text
show_bool true cs = quoted "true" cs
show_bool false cs = quoted "false" cs

-- Core terms, and lists of them with a blank before each.
unfoldable mutual
  pub show_core : Core → Text
  show_core (cvar x) cs = show_name x cs
  show_core (cdict d) cs = show_dict_name d cs
  show_core (cint i) cs = show_nat i cs
  show_core (cbool b) cs = show_bool b cs
  show_core (cabs x e) cs = quoted "(lam " (show_name x (quoted " " (show_core e (quoted ")" cs))))
  show_core (capp f e) cs = quoted "(app " (show_core f (quoted " " (show_core e (quoted ")" cs))))
  show_core (clet x e f) cs = quoted "(let " (show_name x (quoted " " (show_core e (quoted " " (show_core f (quoted ")" cs))))))
  show_core (dict_abs bs e) cs = quoted "(dabs " (show_list show_binder bs (quoted " " (show_core e (quoted ")" cs))))
  show_core (dict_app f es) cs = quoted "(dapp " (show_core f (show_cores es (quoted ")" cs)))
  show_core (dict_proj e m) cs = quoted "(proj " (show_core e (quoted " " (show_field m (quoted ")" cs))))
  show_core (dict_rec c a i) cs = quoted "(rec " (show_name c (quoted " " (show_ty a (quoted ")" cs))))

  pub show_cores : Cores → Text
  show_cores cnil cs = cs
  show_cores (e ◃ es) cs = quoted " " (show_core e (show_cores es cs))

-- Predicates in square brackets, then the type.
unfoldable pub show_qual : Qual → Text
show_qual q cs = show_list show_pred q.preds (quoted " " (show_ty q.ty cs))

-- A field of a refusal.
unfoldable pub show_value : Value → Text
show_value (a_number n) cs = show_nat n cs
show_value (a_name x) cs = show_name x cs
show_value (a_variable v) cs = show_tyvar v cs
show_value (a_type t) cs = show_ty t cs

-- A refusal's values, each after a blank.
unfoldable pub show_values : List Value → Text
show_values [] cs = cs
show_values (v ∷ vs) cs = quoted " " (show_value v (show_values vs cs))

-- The refusals that the port adds show no value on a declaration's line.
unfoldable pub show_fields : Refusal → Text
show_fields r cs = if (added r) (quoted " -" cs) (show_values (values r) cs)

-- A declaration's number of document 01, and what follows it.
unfoldable pub show_result : Result → Text
show_result accepted cs = quoted "0 -" cs
show_result (scheme_of c) cs = quoted "0 " (show_qual c.qual cs)
show_result (typed q e) cs = quoted "0 " (show_qual q (quoted " = " (show_core e cs)))
show_result (refusal r) cs = show_nat (number r) (show_fields r cs)

-- A line for each declaration, numbered from k on.
unfoldable pub show_lines : ℕ → List Answer → Text
show_lines k [] cs = cs
show_lines k (a ∷ rest) cs = show_nat k (quoted " " (show_result a.result (quoted "\n" (show_lines (suc k) rest cs))))

-- What a call of `listing` gives: its text, or a refusal that leaves the output as it was.
pub data Listed : Type 0 where
  listed : List ℕ → Listed
  unlisted : Refusal → Listed

-- The text, if it fits into so many bytes.
unfoldable pub if_fits : ℕ → List ℕ → Listed
if_fits length text = if (ltb length (count text)) (unlisted output) (listed text)

-- `listing` of a file's declarations: a new session, if its kept nodes have room.
unfoldable pub listing : (budget work binders length : ℕ) → List Decl → Listed
listing budget work binders length ks = if (ltb work (64 * kept new)) (unlisted room)
    (if_fits length (quoted "declarations " (show_nat (count ks) (quoted "\n" (show_lines 0 (session budget work binders ks new) [])))))

-- The same of what was read: a refusal of 1 to 3 runs no declaration, and the file is read before the room is tested.
unfoldable pub listing_read : (budget work binders length : ℕ) → Read File → Listed
listing_read budget work binders length (got f next rest) = listing budget work binders length f.decls
listing_read budget work binders length (bad r) = unlisted r

-- `listing` of a file.
unfoldable pub listing_of : (budget work binders length : ℕ) → List ℕ → Listed
listing_of budget work binders length bytes = listing_read budget work binders length (read bytes)

-- The offset that a refusal carries; 0 where it carries none.
unfoldable pub show_offset : List Value → Text
show_offset [] cs = show_nat 0 cs
show_offset (v ∷ vs) cs = show_value v cs

-- What the listing program prints.
unfoldable pub printed : Listed → List ℕ
printed (listed text) = text
printed (unlisted r) = quoted "refused " (show_nat (number r) (quoted " " (show_offset (values r) (quoted "\n" []))))
