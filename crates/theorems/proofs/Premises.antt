-- Demand 2's premise, that no two heads of a class fit a common type: a session that meets it, and one that does not,
-- where a goal is refused that has a derivation.
use mathlib.Core.Path.{◌≡◌, refl, sym, ap, ◌∙◌}
use mathlib.Core.Bool.{false}
use mathlib.Core.List.{List, [], ◌∷◌}
use mathlib.Core.Option.{some}
use Prim.Native.Nat.{ℕ, suc, zero}
use Rattle.meaning.specs.Base.{is_yes, if, nth}
use Rattle.meaning.specs.Ast.{called, same_name, TyVar, named, same_tyvar, Ty, var, con, arrow, nil, ◌◂◌, int, Pred, Core, dict_app, dict_rec, cnil, ◌◃◌, eint, Decl}
use Rattle.meaning.specs.Errors.{no_instance}
use Rattle.meaning.specs.Budget.{done, refused, depth}
use Rattle.meaning.specs.Subst.{look, singleton, occurs}
use Rattle.meaning.specs.Plain.{Fill, sub}
use Rattle.meaning.specs.Classes.{ClassEnv, InstanceInfo, resolve}
use Rattle.meaning.specs.Derives.{Derives, by_instance, none_left, HeadsApart}
use Rattle.meaning.specs.Session.{new, Reached, at_first}
use Rattle.meaning.proofs.Written.{v, c, lam, at, sig, body, class, instance}
use Rattle.meaning.proofs.Metered.{everything}
use Rattle.theorems.proofs.Says.{Definite, of_refused}
use Rattle.theorems.proofs.Tests.{some_inj, none_some, is_yes_false, or_false_left}
use Rattle.theorems.proofs.Looks.{look_other}
use Rattle.theorems.proofs.Resolved.{resolve_complete}
use Rattle.theorems.proofs.Running.{declared, declared_reached}

abbrev list : Ty → Ty
list t = c "List" (t ◂ nil)

abbrev pair : Ty → Ty → Ty
pair t u = c "Pair" (t ◂ u ◂ nil)

-- Met: Store at Int, at lists and at pairs.
abbrev storing : List Decl
storing =
    class "Store" "a" [] (sig "save" (arrow (v "a") int) ∷ []) (body "save" (lam "x" (eint 1)) ∷ [])
    ∷ instance [] "Store" int []
    ∷ instance (at "Store" (v "a") ∷ []) "Store" (list (v "a")) []
    ∷ instance (at "Store" (v "a") ∷ at "Store" (v "b") ∷ []) "Store" (pair (v "a") (v "b")) []
    ∷ []

abbrev store : ClassEnv
store = (declared storing new).class_env

-- The number of the instance that can serve a type, told by the type's constructor.
unfoldable place : Ty → ℕ
place (con k ts) = if (is_yes (same_name k (called "Int"))) 0 (if (is_yes (same_name k (called "List"))) 1 2)
place (var x) = 3
place (arrow t u) = 3

abbrev place_of : Fill → InstanceInfo → ℕ
place_of θ a = place (sub θ a.head.ty)

-- A head, however it is filled, keeps its constructor.
placed : (θ : Fill) (i : ℕ) (a : InstanceInfo) → nth store.instances i ≡ some a → place_of θ a ≡ i
unfolding everything declared place sub
placed θ zero a e = ap (place_of θ) (sym (some_inj _ _ e))
placed θ (suc zero) a e = ap (place_of θ) (sym (some_inj _ _ e))
placed θ (suc (suc zero)) a e = ap (place_of θ) (sym (some_inj _ _ e))
placed θ (suc (suc (suc i))) a e = absurd (none_some a e)

-- The premise holds where each head has a constructor of its own: two heads that fit one type have one number.
pub met : HeadsApart store
met i j a b e f same θ τ h = sym (placed θ i a e) ∙ ap place h ∙ placed τ j b f

-- The session is one that declarations reach.
pub met_reached : Reached (declared storing new)
met_reached = declared_reached storing new at_first

abbrev saver : Ty → ℕ → Core
saver t i = dict_rec (called "Store") t i

-- All three instances stand and serve.
pub met_resolves : resolve store [] (at "Store" (list (pair int int))) 100
    ≡ done (dict_app (saver (list (pair int int)) 1) (dict_app (saver (pair int int) 2) (saver int 0 ◃ saver int 0 ◃ cnil) ◃ cnil)) 76
unfolding everything declared
met_resolves = refl

-- Demand 2 of one environment, with no givens: a goal refused with 16 has no derivation.
abbrev pub Complete : ClassEnv → Type 0
Complete ce = (p q : Pred) (n left : ℕ) → resolve ce [] p n ≡ refused (no_instance q) left → (e : Core) → Derives ce [] p e → ⊥

-- What the premise is for.
pub met_complete : Complete store
met_complete p q n left e =
    of_refused (λ e. Unit {0}) (λ r. Definite r → (e : Core) → Derives store [] p e → ⊥) _ _ left (resolve_complete store met [] depth p n) e tt

-- Needed: neither of these heads matches the other, so both are accepted, and (Pair Int Int) fits both. The earlier
-- one is taken and not given up, though nothing is Rare.
abbrev crossing : List Decl
crossing =
    class "Eq" "a" [] [] []
    ∷ class "Rare" "a" [] [] []
    ∷ instance (at "Rare" (v "a") ∷ []) "Eq" (pair int (v "a")) []
    ∷ instance [] "Eq" (pair (v "a") int) []
    ∷ []

abbrev crossed : ClassEnv
crossed = (declared crossing new).class_env

abbrev a_to_int : Fill
a_to_int = look (singleton (named (called "a")) int)

stays : (x : TyVar) → occurs x (pair (v "a") int) ≡ false → a_to_int x ≡ var x
unfolding occurs
stays x e = look_other (named (called "a")) int x (is_yes_false (same_tyvar x (named (called "a"))) (or_false_left _ _ e))

-- A reached session, a goal that it refuses with 16, and the goal's derivation by the later instance.
pub needed : Reached (declared crossing new)
    × (resolve crossed [] (at "Eq" (pair int int)) 100 ≡ refused (no_instance (at "Rare" int)) 94)
    × Derives crossed [] (at "Eq" (pair int int)) (dict_rec (called "Eq") (pair int int) 1)
unfolding everything declared sub
needed = (
  declared_reached crossing new at_first,
  refl,
  by_instance 1 {θ = a_to_int} refl (record { class_is = refl; head_is = refl; others_stay = stays }) none_left refl,
)

-- So without the premise demand 2 is false.
pub incomplete : Complete crossed → ⊥
incomplete h = h (at "Eq" (pair int int)) _ 100 _ needed.1 _ needed.2
