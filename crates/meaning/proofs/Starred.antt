-- The starred cases of document 01, computed together: each with its number and values, and the steps left of 100.
use mathlib.Core.Path.{◌≡◌, refl}
use mathlib.Core.List.{List, [], ◌∷◌}
use mathlib.Core.Bool.{true}
use Prim.Native.Nat.{ℕ}
use Rattle.meaning.specs.Ast.{TyVar, letter, called, Ty, nil, ◌◂◌, arrow, int, bool, dvar, super, pred, cdict, dict_proj, dict_rec, Binder, Expr, eint, ebool, eapp, Decl}
use Rattle.meaning.specs.Errors.{number, Value, a_number, a_name, a_variable, a_type, values}
use Rattle.meaning.specs.Budget.{Out, done, refused}
use Rattle.meaning.specs.Unify.{unify, match_ty}
use Rattle.meaning.specs.Classes.{ClassEnv, resolve}
use Rattle.meaning.specs.Reduce.{Removed, simplify_context}
use Rattle.meaning.specs.Session.{Checker, new, declare}
use Rattle.meaning.proofs.Written.{v, c, ev, lam, body, sig, class, instance, check}
use Rattle.meaning.proofs.Metered.{everything, metered, said}

-- What came of a call, in document 01's terms: an answer, or a number and values.
data Told (A : Type 0) : Type 0 where
  answers : A → ℕ → Told A
  refuses : ℕ → List Value → ℕ → Told A

unfoldable told : {A : Type 0} → Out A → Told A
told (done a n) = answers a n
told (refused r n) = refuses (number r) (values r) n

abbrev a : TyVar
a = letter 0

abbrev b : TyVar
b = letter 1

abbrev list : Ty → Ty
list t = c "List" (t ◂ nil)

abbrev pair : Ty → Ty → Ty
pair t u = c "Pair" (t ◂ u ◂ nil)

-- A class Eq, and Ord over it.
abbrev eq_and_ord : ClassEnv
eq_and_ord =
    let one = (declare 100 65_536 100 (class "Eq" "a" [] [] []) new).checker in
    (declare 100 65_536 100 (class "Ord" "a" ("Eq" ∷ []) [] []) one).checker.class_env

abbrev d0_d1 : List Binder
d0_d1 = (dvar 0, pred (called "Eq") (v "a")) ∷ (dvar 1, pred (called "Ord") (v "a")) ∷ []

abbrev d1_kept : List Binder × List Removed
d1_kept = ((dvar 1, pred (called "Ord") (v "a")) ∷ [], (dvar 0, dict_proj (cdict (dvar 1)) (super (called "Ord") (called "Eq"))) ∷ [])

abbrev always : Expr
always = lam "x" (lam "y" (ebool true))

-- Eq at (Pair Int a) and at (Pair a Int), then at (List a) and (List b); Mk makes pairs.
abbrev heads : List Decl
heads =
    class "Eq" "a" [] (sig "eq" (arrow (v "a") (arrow (v "a") bool)) ∷ []) []
    ∷ class "Mk" "a" [] (sig "mk" (arrow (v "a") (arrow (v "b") (pair (v "a") (v "b")))) ∷ []) (body "mk" (eint 1) ∷ [])
    ∷ instance [] "Mk" int []
    ∷ instance [] "Eq" (pair int (v "a")) (body "eq" always ∷ [])
    ∷ instance [] "Eq" (pair (v "a") int) (body "eq" always ∷ [])
    ∷ check (eapp (ev "eq") (eapp (eapp (ev "mk") (eint 1)) (eint 2)))
    ∷ instance [] "Eq" (list (v "a")) (body "eq" always ∷ [])
    ∷ instance [] "Eq" (list (v "b")) (body "eq" always ∷ [])
    ∷ []

-- The checker after some declarations.
declared : List Decl → Checker → Checker
declared [] ck = ck
declared (k ∷ ks) ck = declared ks (declare 512 65_536 512 k ck).checker

abbrev heads_declared : Checker
heads_declared = declared heads new

abbrev Starred : Type 0
Starred =
    -- unify
    (told (unify (v "a") (v "a") 100) ≡ answers [] 99)
    × (told (unify (v "a") (v "b") 100) ≡ answers ((a, v "b") ∷ []) 99)
    × (told (unify (v "a") (list (v "a")) 100) ≡ refuses 13 (a_variable a ∷ a_type (list (v "a")) ∷ []) 99)
    × (told (unify (pair (v "a") int) (pair bool (v "b")) 100) ≡ answers ((a, bool) ∷ (b, int) ∷ []) 92)
    × (told (unify (pair (v "a") (v "a")) (pair int bool) 100) ≡ refuses 14 (a_name (called "Int") ∷ a_name (called "Bool") ∷ []) 93)
    × (told (unify (list int) (c "List" nil) 100) ≡ refuses 15 (a_name (called "List") ∷ a_number 1 ∷ a_number 0 ∷ []) 99)
    × (told (unify int (arrow int int) 100) ≡ refuses 12 (a_type int ∷ a_type (arrow int int) ∷ []) 99)
    -- match
    × (told (match_ty (v "a") (v "a") 100) ≡ answers ((a, v "a") ∷ []) 99)
    × (told (match_ty (pair (v "a") (v "a")) (pair int bool) 100) ≡ refuses 12 (a_type int ∷ a_type bool ∷ []) 97)
    -- Ord over Eq
    × (told (simplify_context eq_and_ord d0_d1 100) ≡ answers d1_kept 98)
    -- heads: both stand, (Pair Int Int) takes the earlier; (List b) after (List a) is 18
    × (metered 512 65_536 512 heads ≡ said "declarations 8\n0 0 - | 11 44 0 0\n1 0 - | 15 59 0 0\n2 0 - | 4 61 0 0\n3 0 - | 54 67 2 0\n4 0 - | 59 73 4 0\n5 0 [] (-> (Pair Int Int) Bool) = (app (proj (rec Eq (Pair Int Int)) eq) (app (app (proj (rec Mk Int) mk) 1) 2)) | 141 73 10 2\n6 0 - | 52 78 12 2\n7 18 Eq (List b) | 54 78 12 2\n")
    × (told (resolve heads_declared.class_env [] (pred (called "Eq") (pair int int)) 100) ≡ answers (dict_rec (called "Eq") (pair int int) 1) 93)

starred : Starred
unfolding told declared everything metered said
starred = (refl, refl, refl, refl, refl, refl, refl, refl, refl, refl, refl, refl)
