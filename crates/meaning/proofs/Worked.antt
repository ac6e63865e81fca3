-- The worked session of document 01 computes to its listing, and to the reference's steps, kept nodes and counters.
use mathlib.Core.Path.{◌≡◌, refl}
use mathlib.Core.Bool.{true}
use mathlib.Core.List.{List, [], ◌∷◌}
use Rattle.meaning.specs.Ast.{arrow, int, bool, Expr, eint, ebool, eapp, Decl}
use Rattle.meaning.proofs.Written.{v, ev, lam, body, sig, class, instance, define, check}
use Rattle.meaning.proofs.Metered.{everything, metered, lined, said}

abbrev eq_x_x : Expr
eq_x_x = lam "x" (eapp (eapp (ev "eq") (ev "x")) (ev "x"))

abbrev worked : List Decl
worked =
    class "Eq" "a" [] (sig "eq" (arrow (v "a") (arrow (v "a") bool)) ∷ []) []
    ∷ instance [] "Eq" int (body "eq" (ev "primEqInt") ∷ [])
    ∷ define "same" eq_x_x
    ∷ check (eapp (ev "same") (eint 1))
    ∷ check eq_x_x
    ∷ check (eapp (ev "eq") (ebool true))
    ∷ []

worked_listed : lined worked ≡ said "declarations 6\n0 0 -\n1 0 -\n2 0 [Eq a] (-> a Bool)\n3 0 [] Bool = (app (dapp same (rec Eq Int)) 1)\n4 0 [Eq a] (-> a Bool) = (dabs [d2 Eq a] (lam x (app (app (proj d2 eq) x) x)))\n5 16 Eq Bool\n"
unfolding everything lined said
worked_listed = refl

-- The last declaration is refused, and the counters stand as they were before it.
worked_metered : metered 512 65_536 512 worked ≡ said "declarations 6\n0 0 - | 11 44 0 0\n1 0 - | 37 46 0 0\n2 0 [Eq a] (-> a Bool) | 74 50 4 1\n3 0 [] Bool = (app (dapp same (rec Eq Int)) 1) | 35 50 6 2\n4 0 [Eq a] (-> a Bool) = (dabs [d2 Eq a] (lam x (app (app (proj d2 eq) x) x))) | 74 50 10 3\n5 16 Eq Bool | 30 50 10 3\n"
unfolding everything metered said
worked_metered = refl
