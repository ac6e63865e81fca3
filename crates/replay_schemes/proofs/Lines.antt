-- The lines that the program writes, computed from the definitions.
use mathlib.Core.Path.{◌≡◌, refl}
use mathlib.Core.List.{List, [], ◌∷◌}
use mathlib.Core.Bool.{true, false}
use Rattle.meaning.specs.Base.{null}
use Rattle.meaning.specs.Ast.{TyVar, letter, called, Ty, var, con, nil, ◌◂◌, Pred, pred, Core, qual, Scheme, forall, ctx, super, cdict, dict_proj, dict_rec, dict_app, cnil, ◌◃◌}
use Rattle.meaning.specs.Errors.{out_of_steps}
use Rattle.meaning.specs.Budget.{done, refused}
use Rattle.meaning.specs.Subst.{singleton, ftv_type, ftv_preds, ftv_qual, ftv_scheme, apply_scheme}
use Rattle.meaning.specs.Classes.{InstanceInfo, ClassEnv}
use Rattle.meaning.specs.Reduce.{reduce}
use Rattle.meaning.specs.Declare.{context_givens}
use Rattle.meaning.proofs.Metered.{everything}

-- ## The schemes

abbrev a : TyVar
a = letter 0

abbrev b : TyVar
b = letter 1

abbrev c : TyVar
c = letter 2

abbrev an_int : Ty
an_int = con (called "Int") nil

abbrev eq_at : Ty → Pred
eq_at t = pred (called "Eq") t

abbrev pair : Ty → Ty → Ty
pair t u = con (called "Pair") (t ◂ u ◂ nil)

-- The scheme that binds these variables.
abbrev binding : List TyVar → Scheme
binding vs = forall vs (qual (eq_at (var c) ∷ eq_at (var b) ∷ []) (pair (var a) (var b)))

abbrev some : Scheme
some = binding (a ∷ [])

abbrev all : Scheme
all = binding (c ∷ a ∷ b ∷ [])

pub record Schemes : Type 0 where
  pub of_type : ftv_type some.qual.ty [] ≡ b ∷ a ∷ []
  pub of_preds_lem : ftv_preds some.qual.preds [] ≡ b ∷ c ∷ []
  pub of_qual : ftv_qual some.qual ≡ c ∷ b ∷ a ∷ []
  pub of_scheme : ftv_scheme some ≡ c ∷ b ∷ []
  pub of_closed : ftv_scheme all ≡ []
  pub not_closed : null (ftv_scheme some) ≡ false
  pub closed : null (ftv_scheme all) ≡ true
  pub free : apply_scheme (singleton b an_int) some 8 ≡ done (forall (a ∷ []) (qual (eq_at (var c) ∷ eq_at an_int ∷ []) (pair (var a) an_int))) 3
  pub bound : apply_scheme (singleton a an_int) some 8 ≡ done some 3
  pub too_few : apply_scheme (singleton b an_int) some 4 ≡ refused out_of_steps 0
  pub no_step : apply_scheme (singleton b an_int) all 0 ≡ done all 0

pub schemes : Schemes
unfolding everything
schemes = record { of_type = refl; of_preds_lem = refl; of_qual = refl; of_scheme = refl; of_closed = refl; not_closed = refl; closed = refl; free = refl; bound = refl; too_few = refl; no_step = refl }

-- ## The rows

abbrev list : Ty → Ty
list t = con (called "List") (t ◂ nil)

abbrev ord_at : Ty → Pred
ord_at t = pred (called "Ord") t

-- An instance of Eq: its context and its type. Its methods are never asked for.
abbrev eq_instance : List Pred → Ty → InstanceInfo
eq_instance ps t = record { context = ps; head = eq_at t; methods = [] }

-- Ord over Eq, and the two instances.
abbrev ce : ClassEnv
ce = record {
  classes = (called "Eq", record { name = called "Eq"; tyvar = a; supers = []; sigs = []; defaults = [] }) ∷ (called "Ord", record { name = called "Ord"; tyvar = a; supers = called "Eq" ∷ []; sigs = []; defaults = [] }) ∷ [];
  method_of = [];
  instances = eq_instance [] an_int ∷ eq_instance (eq_at (var a) ∷ []) (list (var a)) ∷ [];
}

abbrev rows : List Pred
rows = eq_at (list an_int) ∷ eq_at (var a) ∷ ord_at (var a) ∷ []

abbrev given : Core
given = cdict (ctx (called "Ord") 0)

-- The dictionary of the first row.
abbrev at_list : Core
at_list = dict_app (dict_rec (called "Eq") (list an_int) 1) (dict_rec (called "Eq") an_int 0 ◃ cnil)

pub record Reductions : Type 0 where
  pub with_given : reduce ce (context_givens (ord_at (var a)) (ord_at (var a) ∷ [])) rows 40
      ≡ done ((eq_at (list an_int), at_list) ∷ (eq_at (var a), dict_proj given (super (called "Ord") (called "Eq"))) ∷ (ord_at (var a), given) ∷ [], []) 23
  pub too_few : reduce ce (context_givens (ord_at (var a)) (ord_at (var a) ∷ [])) rows 16 ≡ refused out_of_steps 0
  pub without : reduce ce [] rows 40 ≡ done ((eq_at (list an_int), at_list) ∷ [], eq_at (var a) ∷ ord_at (var a) ∷ []) 30

pub reductions : Reductions
unfolding everything
reductions = record { with_given = refl; too_few = refl; without = refl }
