-- Recorded sessions, computed: text, steps, kept nodes and both counters. (tools/session_test.py)
use mathlib.Core.Path.{◌≡◌, refl}
use mathlib.Core.Bool.{true, false}
use mathlib.Core.List.{List, [], ◌∷◌}
use Rattle.meaning.specs.Ast.{Ty, arrow, Expr, eint, ebool, eapp, Decl, nil, ◌◂◌}
use Rattle.meaning.proofs.Metered.{everything, metered, said}
use Rattle.meaning.proofs.Written.{v, c, ev, lam, bind, class, instance, define, check, at, sig, body}

abbrev c_absent : List Decl
c_absent =
    class "Eq" "a" [] (sig "eq" (arrow (v "a") (arrow (v "a") (c "Bool" nil))) ∷ []) (body "eq" (eint 1) ∷ [])
    ∷ class "Mk" "a" [] (sig "mk" (arrow (v "a") (c "List" ((v "a") ◂ nil))) ∷ []) (body "mk" (eint 1) ∷ [])
    ∷ instance [] "Mk" (c "Int" nil) []
    ∷ instance (at "Eq" (v "b") ∷ []) "Eq" (c "List" ((v "a") ◂ nil)) []
    ∷ check (eapp (ev "eq") (eapp (ev "mk") (eint 1)))
    ∷ check (lam "x" (eapp (ev "eq") (eapp (ev "mk") (ev "x"))))
    ∷ instance (at "Eq" (v "b") ∷ []) "Mk" (c "List" ((v "b") ◂ nil)) []
    ∷ check (eapp (ev "mk") (eapp (ev "mk") (eint 1)))
    ∷ instance [] "Eq" (v "c") []
    ∷ instance [] "Mk" (v "a") []
    ∷ []

c_absent_computed : metered 512 65536 512 c_absent ≡ said "declarations 10\n0 0 - | 11 44 0 0\n1 0 - | 9 53 0 0\n2 0 - | 4 55 0 0\n3 0 - | 6 59 0 0\n4 16 Eq b | 62 59 0 0\n5 16 Eq b | 69 59 0 0\n6 0 - | 8 63 0 0\n7 16 Eq Int | 59 63 0 0\n8 18 Eq c | 6 63 0 0\n9 18 Mk a | 6 63 0 0\n"
unfolding everything metered said
c_absent_computed = refl

abbrev c_absent2 : List Decl
c_absent2 =
    class "Eq" "a" [] (sig "eq" (arrow (v "a") (arrow (v "a") (c "Bool" nil))) ∷ []) (body "eq" (eint 1) ∷ [])
    ∷ class "Mk" "a" [] (sig "mk" (arrow (v "a") (c "List" ((v "a") ◂ nil))) ∷ []) (body "mk" (eint 1) ∷ [])
    ∷ instance [] "Eq" (v "a") []
    ∷ instance (at "Eq" (v "b") ∷ []) "Mk" (c "Int" nil) []
    ∷ check (eapp (ev "mk") (eint 1))
    ∷ check (lam "x" (eapp (ev "mk") (eint 1)))
    ∷ []

c_absent2_computed : metered 512 65536 512 c_absent2 ≡ said "declarations 6\n0 0 - | 11 44 0 0\n1 0 - | 9 53 0 0\n2 0 - | 4 55 0 0\n3 0 - | 5 58 0 0\n4 0 [] (List Int) = (app (proj (dapp (rec Mk Int) (rec Eq b)) mk) 1) | 45 58 2 1\n5 0 [] (-> a (List Int)) = (lam x (app (proj (dapp (rec Mk Int) (rec Eq b)) mk) 1)) | 54 58 5 2\n"
unfolding everything metered said
c_absent2_computed = refl

abbrev c_ambiguous : List Decl
c_ambiguous =
    class "Num" "a" [] (sig "zero" (v "a") ∷ sig "use1" (arrow (v "a") (c "Bool" nil)) ∷ []) []
    ∷ check (eapp (ev "use1") (ev "zero"))
    ∷ define "n" (eapp (ev "use1") (ev "zero"))
    ∷ check (bind "n" (eapp (ev "use1") (ev "zero")) (ev "n"))
    ∷ check (ev "zero")
    ∷ define "z" (ev "zero")
    ∷ class "Eq" "a" [] (sig "eq" (arrow (v "a") (arrow (v "a") (c "Bool" nil))) ∷ []) []
    ∷ define "two" (eapp (eapp (ev "primAndBool") (eapp (ev "use1") (ev "zero"))) (eapp (eapp (ev "eq") (ev "zero")) (ev "zero")))
    ∷ define "three" (eapp (eapp (ev "primAndBool") (eapp (eapp (ev "eq") (ev "zero")) (ev "zero"))) (eapp (ev "use1") (ev "zero")))
    ∷ []

c_ambiguous_computed : metered 512 65536 512 c_ambiguous ≡ said "declarations 9\n0 0 - | 10 43 0 0\n1 0 [Num a] Bool = (dabs [d0 Num a] (app (proj d0 use1) (proj d0 zero))) | 38 43 3 2\n2 17 Num t5 | 29 43 3 2\n3 17 Num t5 | 29 43 3 2\n4 0 [Num a] a = (dabs [d2 Num a] (proj d2 zero)) | 13 43 4 3\n5 0 [Num a] a | 13 45 5 4\n6 0 - | 11 56 5 4\n7 17 Num t9 | 156 56 5 4\n8 17 Eq t11 | 165 56 5 4\n"
unfolding everything metered said
c_ambiguous_computed = refl

abbrev c_defaults : List Decl
c_defaults =
    class "Eq" "a" [] (sig "eq" (arrow (v "a") (arrow (v "a") (c "Bool" nil))) ∷ []) []
    ∷ class "Ord" "a" ("Eq" ∷ []) (sig "lt" (arrow (v "a") (arrow (v "a") (c "Bool" nil))) ∷ sig "ge" (arrow (v "a") (arrow (v "a") (c "Bool" nil))) ∷ []) (body "ge" (eint 1) ∷ body "lt" (lam "x" (lam "y" (eapp (eapp (ev "primAndBool") (eapp (eapp (ev "eq") (ev "x")) (ev "y"))) (eapp (eapp (ev "ge") (ev "x")) (ev "y"))))) ∷ [])
    ∷ instance [] "Eq" (c "Int" nil) (body "eq" (ev "primEqInt") ∷ [])
    ∷ instance [] "Ord" (c "Int" nil) []
    ∷ instance [] "Ord" (c "Bool" nil) []
    ∷ instance [] "Eq" (c "Bool" nil) []
    ∷ instance [] "Eq" (c "Bool" nil) (body "eq" (ev "primEqBool") ∷ [])
    ∷ instance [] "Ord" (c "Bool" nil) []
    ∷ check (eapp (eapp (ev "ge") (eint 1)) (eint 2))
    ∷ check (eapp (ev "lt") (ebool true))
    ∷ []

c_defaults_computed : metered 512 65536 512 c_defaults ≡ said "declarations 10\n0 0 - | 11 44 0 0\n1 0 - | 22 66 0 0\n2 0 - | 37 68 0 0\n3 0 - | 214 89 10 2\n4 16 Eq Bool | 193 89 10 2\n5 22 Eq Bool eq | 1 89 10 2\n6 0 - | 39 91 10 2\n7 0 - | 217 112 20 4\n8 0 [] Bool = (app (app (proj (rec Ord Int) ge) 1) 2) | 63 112 23 5\n9 0 [] (-> Bool Bool) = (app (proj (rec Ord Bool) lt) true) | 44 112 25 6\n"
unfolding everything metered said
c_defaults_computed = refl

abbrev c_depth_app : List Decl
c_depth_app =
    check (eapp (ev "primNotBool") (eapp (ev "primNotBool") (eapp (ev "primNotBool") (eapp (ev "primNotBool") (eapp (ev "primNotBool") (eapp (ev "primNotBool") (eapp (ev "primNotBool") (eapp (ev "primNotBool") (eapp (ev "primNotBool") (eapp (ev "primNotBool") (eapp (ev "primNotBool") (eapp (ev "primNotBool") (eapp (ev "primNotBool") (eapp (ev "primNotBool") (eapp (ev "primNotBool") (eapp (ev "primNotBool") (eapp (ev "primNotBool") (eapp (ev "primNotBool") (eapp (ev "primNotBool") (eapp (ev "primNotBool") (eapp (ev "primNotBool") (eapp (ev "primNotBool") (eapp (ev "primNotBool") (eapp (ev "primNotBool") (eapp (ev "primNotBool") (eapp (ev "primNotBool") (eapp (ev "primNotBool") (eapp (ev "primNotBool") (eapp (ev "primNotBool") (eapp (ev "primNotBool") (eapp (ev "primNotBool") (eapp (ev "primNotBool") (eapp (ev "primNotBool") (eapp (ev "primNotBool") (eapp (ev "primNotBool") (eapp (ev "primNotBool") (eapp (ev "primNotBool") (eapp (ev "primNotBool") (eapp (ev "primNotBool") (eapp (ev "primNotBool") (eapp (ev "primNotBool") (eapp (ev "primNotBool") (eapp (ev "primNotBool") (eapp (ev "primNotBool") (eapp (ev "primNotBool") (eapp (ev "primNotBool") (eapp (ev "primNotBool") (eapp (ev "primNotBool") (eapp (ev "primNotBool") (eapp (ev "primNotBool") (eapp (ev "primNotBool") (eapp (ev "primNotBool") (eapp (ev "primNotBool") (eapp (ev "primNotBool") (eapp (ev "primNotBool") (eapp (ev "primNotBool") (eapp (ev "primNotBool") (eapp (ev "primNotBool") (eapp (ev "primNotBool") (eapp (ev "primNotBool") (eapp (ev "primNotBool") (eapp (ev "primNotBool") (eapp (ev "primNotBool") (eapp (ev "primNotBool") (eapp (ev "primNotBool") (eapp (ev "primNotBool") (eapp (ev "primNotBool") (eapp (ev "primNotBool") (eapp (ev "primNotBool") (eapp (ev "primNotBool") (eapp (ev "primNotBool") (eapp (ev "primNotBool") (eapp (ev "primNotBool") (eapp (ev "primNotBool") (eapp (ev "primNotBool") (eapp (ev "primNotBool") (eapp (ev "primNotBool") (eapp (ev "primNotBool") (eapp (ev "primNotBool") (eapp (ev "primNotBool") (eapp (ev "primNotBool") (eapp (ev "primNotBool") (eapp (ev "primNotBool") (eapp (ev "primNotBool") (eapp (ev "primNotBool") (eapp (ev "primNotBool") (eapp (ev "primNotBool") (eapp (ev "primNotBool") (eapp (ev "primNotBool") (eapp (ev "primNotBool") (eapp (ev "primNotBool") (eapp (ev "primNotBool") (eapp (ev "primNotBool") (eapp (ev "primNotBool") (eapp (ev "primNotBool") (eapp (ev "primNotBool") (eapp (ev "primNotBool") (eapp (ev "primNotBool") (eapp (ev "primNotBool") (eapp (ev "primNotBool") (eapp (ev "primNotBool") (eapp (ev "primNotBool") (eapp (ev "primNotBool") (eapp (ev "primNotBool") (eapp (ev "primNotBool") (eapp (ev "primNotBool") (eapp (ev "primNotBool") (eapp (ev "primNotBool") (eapp (ev "primNotBool") (eapp (ev "primNotBool") (eapp (ev "primNotBool") (eapp (ev "primNotBool") (eapp (ev "primNotBool") (eapp (ev "primNotBool") (eapp (ev "primNotBool") (eapp (ev "primNotBool") (eapp (ev "primNotBool") (eapp (ev "primNotBool") (eapp (ev "primNotBool") (eapp (ev "primNotBool") (eapp (ev "primNotBool") (eapp (ev "primNotBool") (eapp (ev "primNotBool") (eapp (ev "primNotBool") (eapp (ev "primNotBool") (eapp (ev "primNotBool") (eapp (ev "primNotBool") (eapp (ev "primNotBool") (eapp (ev "primNotBool") (eapp (ev "primNotBool") (eapp (ev "primNotBool") (eapp (ev "primNotBool") (eapp (ev "primNotBool") (eapp (ev "primNotBool") (eapp (ev "primNotBool") (eapp (ev "primNotBool") (eapp (ev "primNotBool") (eapp (ev "primNotBool") (eapp (ev "primNotBool") (eapp (ev "primNotBool") (eapp (ev "primNotBool") (eapp (ev "primNotBool") (eapp (ev "primNotBool") (eapp (ev "primNotBool") (eapp (ev "primNotBool") (eapp (ev "primNotBool") (eapp (ev "primNotBool") (eapp (ev "primNotBool") (eapp (ev "primNotBool") (eapp (ev "primNotBool") (eapp (ev "primNotBool") (eapp (ev "primNotBool") (eapp (ev "primNotBool") (eapp (ev "primNotBool") (eapp (ev "primNotBool") (eapp (ev "primNotBool") (eapp (ev "primNotBool") (eapp (ev "primNotBool") (eapp (ev "primNotBool") (eapp (ev "primNotBool") (eapp (ev "primNotBool") (eapp (ev "primNotBool") (eapp (ev "primNotBool") (eapp (ev "primNotBool") (eapp (ev "primNotBool") (eapp (ev "primNotBool") (eapp (ev "primNotBool") (eapp (ev "primNotBool") (eapp (ev "primNotBool") (eapp (ev "primNotBool") (eapp (ev "primNotBool") (eapp (ev "primNotBool") (eapp (ev "primNotBool") (eapp (ev "primNotBool") (eapp (ev "primNotBool") (eapp (ev "primNotBool") (eapp (ev "primNotBool") (eapp (ev "primNotBool") (eapp (ev "primNotBool") (eapp (ev "primNotBool") (eapp (ev "primNotBool") (eapp (ev "primNotBool") (eapp (ev "primNotBool") (eapp (ev "primNotBool") (eapp (ev "primNotBool") (eapp (ev "primNotBool") (eapp (ev "primNotBool") (eapp (ev "primNotBool") (eapp (ev "primNotBool") (eapp (ev "primNotBool") (eapp (ev "primNotBool") (eapp (ev "primNotBool") (eapp (ev "primNotBool") (eapp (ev "primNotBool") (eapp (ev "primNotBool") (eapp (ev "primNotBool") (eapp (ev "primNotBool") (eapp (ev "primNotBool") (eapp (ev "primNotBool") (eapp (ev "primNotBool") (eapp (ev "primNotBool") (eapp (ev "primNotBool") (eapp (ev "primNotBool") (eapp (ev "primNotBool") (eapp (ev "primNotBool") (eapp (ev "primNotBool") (eapp (ev "primNotBool") (eapp (ev "primNotBool") (eapp (ev "primNotBool") (eapp (ev "primNotBool") (eapp (ev "primNotBool") (eapp (ev "primNotBool") (eapp (ev "primNotBool") (eapp (ev "primNotBool") (eapp (ev "primNotBool") (eapp (ev "primNotBool") (eapp (ev "primNotBool") (eapp (ev "primNotBool") (eapp (ev "primNotBool") (eapp (ev "primNotBool") (eapp (ev "primNotBool") (eapp (ev "primNotBool") (eapp (ev "primNotBool") (eapp (ev "primNotBool") (eapp (ev "primNotBool") (eapp (ev "primNotBool") (eapp (ev "primNotBool") (eapp (ev "primNotBool") (eapp (ev "primNotBool") (eapp (ev "primNotBool") (eapp (ev "primNotBool") (eapp (ev "primNotBool") (eapp (ev "primNotBool") (eapp (ev "primNotBool") (eapp (ev "primNotBool") (eapp (ev "primNotBool") (eapp (ev "primNotBool") (eapp (ev "primNotBool") (eapp (ev "primNotBool") (eapp (ev "primNotBool") (eapp (ev "primNotBool") (eapp (ev "primNotBool") (eapp (ev "primNotBool") (eapp (ev "primNotBool") (eapp (ev "primNotBool") (eapp (ev "primNotBool") (eapp (ev "primNotBool") (eapp (ev "primNotBool") (eapp (ev "primNotBool") (eapp (ev "primNotBool") (eapp (ev "primNotBool") (eapp (ev "primNotBool") (eapp (ev "primNotBool") (eapp (ev "primNotBool") (ebool true)))))))))))))))))))))))))))))))))))))))))))))))))))))))))))))))))))))))))))))))))))))))))))))))))))))))))))))))))))))))))))))))))))))))))))))))))))))))))))))))))))))))))))))))))))))))))))))))))))))))))))))))))))))))))))))))))))))))))))))))))))))))))))))))
    ∷ check (eapp (ev "primNotBool") (eapp (ev "primNotBool") (eapp (ev "primNotBool") (eapp (ev "primNotBool") (eapp (ev "primNotBool") (eapp (ev "primNotBool") (eapp (ev "primNotBool") (eapp (ev "primNotBool") (eapp (ev "primNotBool") (eapp (ev "primNotBool") (eapp (ev "primNotBool") (eapp (ev "primNotBool") (eapp (ev "primNotBool") (eapp (ev "primNotBool") (eapp (ev "primNotBool") (eapp (ev "primNotBool") (eapp (ev "primNotBool") (eapp (ev "primNotBool") (eapp (ev "primNotBool") (eapp (ev "primNotBool") (eapp (ev "primNotBool") (eapp (ev "primNotBool") (eapp (ev "primNotBool") (eapp (ev "primNotBool") (eapp (ev "primNotBool") (eapp (ev "primNotBool") (eapp (ev "primNotBool") (eapp (ev "primNotBool") (eapp (ev "primNotBool") (eapp (ev "primNotBool") (eapp (ev "primNotBool") (eapp (ev "primNotBool") (eapp (ev "primNotBool") (eapp (ev "primNotBool") (eapp (ev "primNotBool") (eapp (ev "primNotBool") (eapp (ev "primNotBool") (eapp (ev "primNotBool") (eapp (ev "primNotBool") (eapp (ev "primNotBool") (eapp (ev "primNotBool") (eapp (ev "primNotBool") (eapp (ev "primNotBool") (eapp (ev "primNotBool") (eapp (ev "primNotBool") (eapp (ev "primNotBool") (eapp (ev "primNotBool") (eapp (ev "primNotBool") (eapp (ev "primNotBool") (eapp (ev "primNotBool") (eapp (ev "primNotBool") (eapp (ev "primNotBool") (eapp (ev "primNotBool") (eapp (ev "primNotBool") (eapp (ev "primNotBool") (eapp (ev "primNotBool") (eapp (ev "primNotBool") (eapp (ev "primNotBool") (eapp (ev "primNotBool") (eapp (ev "primNotBool") (eapp (ev "primNotBool") (eapp (ev "primNotBool") (eapp (ev "primNotBool") (eapp (ev "primNotBool") (eapp (ev "primNotBool") (eapp (ev "primNotBool") (eapp (ev "primNotBool") (eapp (ev "primNotBool") (eapp (ev "primNotBool") (eapp (ev "primNotBool") (eapp (ev "primNotBool") (eapp (ev "primNotBool") (eapp (ev "primNotBool") (eapp (ev "primNotBool") (eapp (ev "primNotBool") (eapp (ev "primNotBool") (eapp (ev "primNotBool") (eapp (ev "primNotBool") (eapp (ev "primNotBool") (eapp (ev "primNotBool") (eapp (ev "primNotBool") (eapp (ev "primNotBool") (eapp (ev "primNotBool") (eapp (ev "primNotBool") (eapp (ev "primNotBool") (eapp (ev "primNotBool") (eapp (ev "primNotBool") (eapp (ev "primNotBool") (eapp (ev "primNotBool") (eapp (ev "primNotBool") (eapp (ev "primNotBool") (eapp (ev "primNotBool") (eapp (ev "primNotBool") (eapp (ev "primNotBool") (eapp (ev "primNotBool") (eapp (ev "primNotBool") (eapp (ev "primNotBool") (eapp (ev "primNotBool") (eapp (ev "primNotBool") (eapp (ev "primNotBool") (eapp (ev "primNotBool") (eapp (ev "primNotBool") (eapp (ev "primNotBool") (eapp (ev "primNotBool") (eapp (ev "primNotBool") (eapp (ev "primNotBool") (eapp (ev "primNotBool") (eapp (ev "primNotBool") (eapp (ev "primNotBool") (eapp (ev "primNotBool") (eapp (ev "primNotBool") (eapp (ev "primNotBool") (eapp (ev "primNotBool") (eapp (ev "primNotBool") (eapp (ev "primNotBool") (eapp (ev "primNotBool") (eapp (ev "primNotBool") (eapp (ev "primNotBool") (eapp (ev "primNotBool") (eapp (ev "primNotBool") (eapp (ev "primNotBool") (eapp (ev "primNotBool") (eapp (ev "primNotBool") (eapp (ev "primNotBool") (eapp (ev "primNotBool") (eapp (ev "primNotBool") (eapp (ev "primNotBool") (eapp (ev "primNotBool") (eapp (ev "primNotBool") (eapp (ev "primNotBool") (eapp (ev "primNotBool") (eapp (ev "primNotBool") (eapp (ev "primNotBool") (eapp (ev "primNotBool") (eapp (ev "primNotBool") (eapp (ev "primNotBool") (eapp (ev "primNotBool") (eapp (ev "primNotBool") (eapp (ev "primNotBool") (eapp (ev "primNotBool") (eapp (ev "primNotBool") (eapp (ev "primNotBool") (eapp (ev "primNotBool") (eapp (ev "primNotBool") (eapp (ev "primNotBool") (eapp (ev "primNotBool") (eapp (ev "primNotBool") (eapp (ev "primNotBool") (eapp (ev "primNotBool") (eapp (ev "primNotBool") (eapp (ev "primNotBool") (eapp (ev "primNotBool") (eapp (ev "primNotBool") (eapp (ev "primNotBool") (eapp (ev "primNotBool") (eapp (ev "primNotBool") (eapp (ev "primNotBool") (eapp (ev "primNotBool") (eapp (ev "primNotBool") (eapp (ev "primNotBool") (eapp (ev "primNotBool") (eapp (ev "primNotBool") (eapp (ev "primNotBool") (eapp (ev "primNotBool") (eapp (ev "primNotBool") (eapp (ev "primNotBool") (eapp (ev "primNotBool") (eapp (ev "primNotBool") (eapp (ev "primNotBool") (eapp (ev "primNotBool") (eapp (ev "primNotBool") (eapp (ev "primNotBool") (eapp (ev "primNotBool") (eapp (ev "primNotBool") (eapp (ev "primNotBool") (eapp (ev "primNotBool") (eapp (ev "primNotBool") (eapp (ev "primNotBool") (eapp (ev "primNotBool") (eapp (ev "primNotBool") (eapp (ev "primNotBool") (eapp (ev "primNotBool") (eapp (ev "primNotBool") (eapp (ev "primNotBool") (eapp (ev "primNotBool") (eapp (ev "primNotBool") (eapp (ev "primNotBool") (eapp (ev "primNotBool") (eapp (ev "primNotBool") (eapp (ev "primNotBool") (eapp (ev "primNotBool") (eapp (ev "primNotBool") (eapp (ev "primNotBool") (eapp (ev "primNotBool") (eapp (ev "primNotBool") (eapp (ev "primNotBool") (eapp (ev "primNotBool") (eapp (ev "primNotBool") (eapp (ev "primNotBool") (eapp (ev "primNotBool") (eapp (ev "primNotBool") (eapp (ev "primNotBool") (eapp (ev "primNotBool") (eapp (ev "primNotBool") (eapp (ev "primNotBool") (eapp (ev "primNotBool") (eapp (ev "primNotBool") (eapp (ev "primNotBool") (eapp (ev "primNotBool") (eapp (ev "primNotBool") (eapp (ev "primNotBool") (eapp (ev "primNotBool") (eapp (ev "primNotBool") (eapp (ev "primNotBool") (eapp (ev "primNotBool") (eapp (ev "primNotBool") (eapp (ev "primNotBool") (eapp (ev "primNotBool") (eapp (ev "primNotBool") (eapp (ev "primNotBool") (eapp (ev "primNotBool") (eapp (ev "primNotBool") (eapp (ev "primNotBool") (eapp (ev "primNotBool") (eapp (ev "primNotBool") (eapp (ev "primNotBool") (eapp (ev "primNotBool") (eapp (ev "primNotBool") (eapp (ev "primNotBool") (eapp (ev "primNotBool") (eapp (ev "primNotBool") (eapp (ev "primNotBool") (eapp (ev "primNotBool") (eapp (ev "primNotBool") (eapp (ev "primNotBool") (eapp (ev "primNotBool") (eapp (ev "primNotBool") (eapp (ev "primNotBool") (eapp (ev "primNotBool") (eapp (ev "primNotBool") (eapp (ev "primNotBool") (eapp (ev "primNotBool") (eapp (ev "primNotBool") (eapp (ev "primNotBool") (eapp (ev "primNotBool") (eapp (ev "primNotBool") (eapp (ev "primNotBool") (eapp (ev "primNotBool") (eapp (ev "primNotBool") (eapp (ev "primNotBool") (eapp (ev "primNotBool") (eapp (ev "primNotBool") (eapp (ev "primNotBool") (eapp (ev "primNotBool") (eapp (ev "primNotBool") (ebool true))))))))))))))))))))))))))))))))))))))))))))))))))))))))))))))))))))))))))))))))))))))))))))))))))))))))))))))))))))))))))))))))))))))))))))))))))))))))))))))))))))))))))))))))))))))))))))))))))))))))))))))))))))))))))))))))))))))))))))))))))))))))))))))))
    ∷ check (eapp (ev "primNotBool") (eapp (ev "primNotBool") (eapp (ev "primNotBool") (eapp (ev "primNotBool") (eapp (ev "primNotBool") (eapp (ev "primNotBool") (eapp (ev "primNotBool") (eapp (ev "primNotBool") (eapp (ev "primNotBool") (eapp (ev "primNotBool") (eapp (ev "primNotBool") (eapp (ev "primNotBool") (eapp (ev "primNotBool") (eapp (ev "primNotBool") (eapp (ev "primNotBool") (eapp (ev "primNotBool") (eapp (ev "primNotBool") (eapp (ev "primNotBool") (eapp (ev "primNotBool") (eapp (ev "primNotBool") (eapp (ev "primNotBool") (eapp (ev "primNotBool") (eapp (ev "primNotBool") (eapp (ev "primNotBool") (eapp (ev "primNotBool") (eapp (ev "primNotBool") (eapp (ev "primNotBool") (eapp (ev "primNotBool") (eapp (ev "primNotBool") (eapp (ev "primNotBool") (eapp (ev "primNotBool") (eapp (ev "primNotBool") (eapp (ev "primNotBool") (eapp (ev "primNotBool") (eapp (ev "primNotBool") (eapp (ev "primNotBool") (eapp (ev "primNotBool") (eapp (ev "primNotBool") (eapp (ev "primNotBool") (eapp (ev "primNotBool") (eapp (ev "primNotBool") (eapp (ev "primNotBool") (eapp (ev "primNotBool") (eapp (ev "primNotBool") (eapp (ev "primNotBool") (eapp (ev "primNotBool") (eapp (ev "primNotBool") (eapp (ev "primNotBool") (eapp (ev "primNotBool") (eapp (ev "primNotBool") (eapp (ev "primNotBool") (eapp (ev "primNotBool") (eapp (ev "primNotBool") (eapp (ev "primNotBool") (eapp (ev "primNotBool") (eapp (ev "primNotBool") (eapp (ev "primNotBool") (eapp (ev "primNotBool") (eapp (ev "primNotBool") (eapp (ev "primNotBool") (eapp (ev "primNotBool") (eapp (ev "primNotBool") (eapp (ev "primNotBool") (eapp (ev "primNotBool") (eapp (ev "primNotBool") (eapp (ev "primNotBool") (eapp (ev "primNotBool") (eapp (ev "primNotBool") (eapp (ev "primNotBool") (eapp (ev "primNotBool") (eapp (ev "primNotBool") (eapp (ev "primNotBool") (eapp (ev "primNotBool") (eapp (ev "primNotBool") (eapp (ev "primNotBool") (eapp (ev "primNotBool") (eapp (ev "primNotBool") (eapp (ev "primNotBool") (eapp (ev "primNotBool") (eapp (ev "primNotBool") (eapp (ev "primNotBool") (eapp (ev "primNotBool") (eapp (ev "primNotBool") (eapp (ev "primNotBool") (eapp (ev "primNotBool") (eapp (ev "primNotBool") (eapp (ev "primNotBool") (eapp (ev "primNotBool") (eapp (ev "primNotBool") (eapp (ev "primNotBool") (eapp (ev "primNotBool") (eapp (ev "primNotBool") (eapp (ev "primNotBool") (eapp (ev "primNotBool") (eapp (ev "primNotBool") (eapp (ev "primNotBool") (eapp (ev "primNotBool") (eapp (ev "primNotBool") (eapp (ev "primNotBool") (eapp (ev "primNotBool") (eapp (ev "primNotBool") (eapp (ev "primNotBool") (eapp (ev "primNotBool") (eapp (ev "primNotBool") (eapp (ev "primNotBool") (eapp (ev "primNotBool") (eapp (ev "primNotBool") (eapp (ev "primNotBool") (eapp (ev "primNotBool") (eapp (ev "primNotBool") (eapp (ev "primNotBool") (eapp (ev "primNotBool") (eapp (ev "primNotBool") (eapp (ev "primNotBool") (eapp (ev "primNotBool") (eapp (ev "primNotBool") (eapp (ev "primNotBool") (eapp (ev "primNotBool") (eapp (ev "primNotBool") (eapp (ev "primNotBool") (eapp (ev "primNotBool") (eapp (ev "primNotBool") (eapp (ev "primNotBool") (eapp (ev "primNotBool") (eapp (ev "primNotBool") (eapp (ev "primNotBool") (eapp (ev "primNotBool") (eapp (ev "primNotBool") (eapp (ev "primNotBool") (eapp (ev "primNotBool") (eapp (ev "primNotBool") (eapp (ev "primNotBool") (eapp (ev "primNotBool") (eapp (ev "primNotBool") (eapp (ev "primNotBool") (eapp (ev "primNotBool") (eapp (ev "primNotBool") (eapp (ev "primNotBool") (eapp (ev "primNotBool") (eapp (ev "primNotBool") (eapp (ev "primNotBool") (eapp (ev "primNotBool") (eapp (ev "primNotBool") (eapp (ev "primNotBool") (eapp (ev "primNotBool") (eapp (ev "primNotBool") (eapp (ev "primNotBool") (eapp (ev "primNotBool") (eapp (ev "primNotBool") (eapp (ev "primNotBool") (eapp (ev "primNotBool") (eapp (ev "primNotBool") (eapp (ev "primNotBool") (eapp (ev "primNotBool") (eapp (ev "primNotBool") (eapp (ev "primNotBool") (eapp (ev "primNotBool") (eapp (ev "primNotBool") (eapp (ev "primNotBool") (eapp (ev "primNotBool") (eapp (ev "primNotBool") (eapp (ev "primNotBool") (eapp (ev "primNotBool") (eapp (ev "primNotBool") (eapp (ev "primNotBool") (eapp (ev "primNotBool") (eapp (ev "primNotBool") (eapp (ev "primNotBool") (eapp (ev "primNotBool") (eapp (ev "primNotBool") (eapp (ev "primNotBool") (eapp (ev "primNotBool") (eapp (ev "primNotBool") (eapp (ev "primNotBool") (eapp (ev "primNotBool") (eapp (ev "primNotBool") (eapp (ev "primNotBool") (eapp (ev "primNotBool") (eapp (ev "primNotBool") (eapp (ev "primNotBool") (eapp (ev "primNotBool") (eapp (ev "primNotBool") (eapp (ev "primNotBool") (eapp (ev "primNotBool") (eapp (ev "primNotBool") (eapp (ev "primNotBool") (eapp (ev "primNotBool") (eapp (ev "primNotBool") (eapp (ev "primNotBool") (eapp (ev "primNotBool") (eapp (ev "primNotBool") (eapp (ev "primNotBool") (eapp (ev "primNotBool") (eapp (ev "primNotBool") (eapp (ev "primNotBool") (eapp (ev "primNotBool") (eapp (ev "primNotBool") (eapp (ev "primNotBool") (eapp (ev "primNotBool") (eapp (ev "primNotBool") (eapp (ev "primNotBool") (eapp (ev "primNotBool") (eapp (ev "primNotBool") (eapp (ev "primNotBool") (eapp (ev "primNotBool") (eapp (ev "primNotBool") (eapp (ev "primNotBool") (eapp (ev "primNotBool") (eapp (ev "primNotBool") (eapp (ev "primNotBool") (eapp (ev "primNotBool") (eapp (ev "primNotBool") (eapp (ev "primNotBool") (eapp (ev "primNotBool") (eapp (ev "primNotBool") (eapp (ev "primNotBool") (eapp (ev "primNotBool") (eapp (ev "primNotBool") (eapp (ev "primNotBool") (eapp (ev "primNotBool") (eapp (ev "primNotBool") (eapp (ev "primNotBool") (eapp (ev "primNotBool") (eapp (ev "primNotBool") (eapp (ev "primNotBool") (eapp (ev "primNotBool") (eapp (ev "primNotBool") (eapp (ev "primNotBool") (eapp (ev "primNotBool") (eapp (ev "primNotBool") (eapp (ev "primNotBool") (eapp (ev "primNotBool") (eapp (ev "primNotBool") (eapp (ev "primNotBool") (eapp (ev "primNotBool") (eapp (ev "primNotBool") (eapp (ev "primNotBool") (eapp (ev "primNotBool") (eapp (ev "primNotBool") (eapp (ev "primNotBool") (eapp (ev "primNotBool") (eapp (ev "primNotBool") (eapp (ev "primNotBool") (eapp (ev "primNotBool") (eapp (ev "primNotBool") (eapp (ev "primNotBool") (eapp (ev "primNotBool") (eapp (ev "primNotBool") (eapp (ev "primNotBool") (eapp (ev "primNotBool") (eapp (ev "primNotBool") (eapp (ev "primNotBool") (eapp (ev "primNotBool") (eapp (ev "primNotBool") (eapp (ev "primNotBool") (eapp (ev "primNotBool") (ebool true)))))))))))))))))))))))))))))))))))))))))))))))))))))))))))))))))))))))))))))))))))))))))))))))))))))))))))))))))))))))))))))))))))))))))))))))))))))))))))))))))))))))))))))))))))))))))))))))))))))))))))))))))))))))))))))))))))))))))))))))))))))))))))))))))
    ∷ []

c_depth_app_computed : metered 512 65536 512 c_depth_app ≡ said "declarations 3\n0 6 - | 512 33 0 0\n1 6 - | 512 33 0 0\n2 6 - | 512 33 0 0\n"
unfolding everything metered said
c_depth_app_computed = refl

abbrev c_depth_lam : List Decl
c_depth_lam =
    check (lam "x" (lam "x" (lam "x" (lam "x" (lam "x" (lam "x" (lam "x" (lam "x" (lam "x" (lam "x" (lam "x" (lam "x" (lam "x" (lam "x" (lam "x" (lam "x" (lam "x" (lam "x" (lam "x" (lam "x" (lam "x" (lam "x" (lam "x" (lam "x" (lam "x" (lam "x" (lam "x" (lam "x" (lam "x" (lam "x" (lam "x" (lam "x" (lam "x" (lam "x" (lam "x" (lam "x" (lam "x" (lam "x" (lam "x" (lam "x" (lam "x" (lam "x" (lam "x" (lam "x" (lam "x" (lam "x" (lam "x" (lam "x" (lam "x" (lam "x" (lam "x" (lam "x" (lam "x" (lam "x" (lam "x" (lam "x" (lam "x" (lam "x" (lam "x" (lam "x" (lam "x" (lam "x" (lam "x" (lam "x" (lam "x" (lam "x" (lam "x" (lam "x" (lam "x" (lam "x" (lam "x" (lam "x" (lam "x" (lam "x" (lam "x" (lam "x" (lam "x" (lam "x" (lam "x" (lam "x" (lam "x" (lam "x" (lam "x" (lam "x" (lam "x" (lam "x" (lam "x" (lam "x" (lam "x" (lam "x" (lam "x" (lam "x" (lam "x" (lam "x" (lam "x" (lam "x" (lam "x" (lam "x" (lam "x" (lam "x" (lam "x" (lam "x" (lam "x" (lam "x" (lam "x" (lam "x" (lam "x" (lam "x" (lam "x" (lam "x" (lam "x" (lam "x" (lam "x" (lam "x" (lam "x" (lam "x" (lam "x" (lam "x" (lam "x" (lam "x" (lam "x" (lam "x" (lam "x" (lam "x" (lam "x" (lam "x" (lam "x" (lam "x" (lam "x" (lam "x" (lam "x" (lam "x" (lam "x" (lam "x" (lam "x" (lam "x" (lam "x" (lam "x" (lam "x" (lam "x" (lam "x" (lam "x" (lam "x" (lam "x" (lam "x" (lam "x" (lam "x" (lam "x" (lam "x" (lam "x" (lam "x" (lam "x" (lam "x" (lam "x" (lam "x" (lam "x" (lam "x" (lam "x" (lam "x" (lam "x" (lam "x" (lam "x" (lam "x" (lam "x" (lam "x" (lam "x" (lam "x" (lam "x" (lam "x" (lam "x" (lam "x" (lam "x" (lam "x" (lam "x" (lam "x" (lam "x" (lam "x" (lam "x" (lam "x" (lam "x" (lam "x" (lam "x" (lam "x" (lam "x" (lam "x" (lam "x" (lam "x" (lam "x" (lam "x" (lam "x" (lam "x" (lam "x" (lam "x" (lam "x" (lam "x" (lam "x" (lam "x" (lam "x" (lam "x" (lam "x" (lam "x" (lam "x" (lam "x" (lam "x" (lam "x" (lam "x" (lam "x" (lam "x" (lam "x" (lam "x" (lam "x" (lam "x" (lam "x" (lam "x" (lam "x" (lam "x" (lam "x" (lam "x" (lam "x" (lam "x" (lam "x" (lam "x" (lam "x" (lam "x" (lam "x" (lam "x" (lam "x" (lam "x" (lam "x" (lam "x" (lam "x" (lam "x" (lam "x" (lam "x" (lam "x" (lam "x" (lam "x" (lam "x" (lam "x" (lam "x" (lam "x" (lam "x" (lam "x" (lam "x" (lam "x" (lam "x" (lam "x" (lam "x" (lam "x" (lam "x" (lam "x" (lam "x" (lam "x" (lam "x" (ev "x")))))))))))))))))))))))))))))))))))))))))))))))))))))))))))))))))))))))))))))))))))))))))))))))))))))))))))))))))))))))))))))))))))))))))))))))))))))))))))))))))))))))))))))))))))))))))))))))))))))))))))))))))))))))))))))))))))))))))))))))))))))))))))))))
    ∷ check (lam "x" (lam "x" (lam "x" (lam "x" (lam "x" (lam "x" (lam "x" (lam "x" (lam "x" (lam "x" (lam "x" (lam "x" (lam "x" (lam "x" (lam "x" (lam "x" (lam "x" (lam "x" (lam "x" (lam "x" (lam "x" (lam "x" (lam "x" (lam "x" (lam "x" (lam "x" (lam "x" (lam "x" (lam "x" (lam "x" (lam "x" (lam "x" (lam "x" (lam "x" (lam "x" (lam "x" (lam "x" (lam "x" (lam "x" (lam "x" (lam "x" (lam "x" (lam "x" (lam "x" (lam "x" (lam "x" (lam "x" (lam "x" (lam "x" (lam "x" (lam "x" (lam "x" (lam "x" (lam "x" (lam "x" (lam "x" (lam "x" (lam "x" (lam "x" (lam "x" (lam "x" (lam "x" (lam "x" (lam "x" (lam "x" (lam "x" (lam "x" (lam "x" (lam "x" (lam "x" (lam "x" (lam "x" (lam "x" (lam "x" (lam "x" (lam "x" (lam "x" (lam "x" (lam "x" (lam "x" (lam "x" (lam "x" (lam "x" (lam "x" (lam "x" (lam "x" (lam "x" (lam "x" (lam "x" (lam "x" (lam "x" (lam "x" (lam "x" (lam "x" (lam "x" (lam "x" (lam "x" (lam "x" (lam "x" (lam "x" (lam "x" (lam "x" (lam "x" (lam "x" (lam "x" (lam "x" (lam "x" (lam "x" (lam "x" (lam "x" (lam "x" (lam "x" (lam "x" (lam "x" (lam "x" (lam "x" (lam "x" (lam "x" (lam "x" (lam "x" (lam "x" (lam "x" (lam "x" (lam "x" (lam "x" (lam "x" (lam "x" (lam "x" (lam "x" (lam "x" (lam "x" (lam "x" (lam "x" (lam "x" (lam "x" (lam "x" (lam "x" (lam "x" (lam "x" (lam "x" (lam "x" (lam "x" (lam "x" (lam "x" (lam "x" (lam "x" (lam "x" (lam "x" (lam "x" (lam "x" (lam "x" (lam "x" (lam "x" (lam "x" (lam "x" (lam "x" (lam "x" (lam "x" (lam "x" (lam "x" (lam "x" (lam "x" (lam "x" (lam "x" (lam "x" (lam "x" (lam "x" (lam "x" (lam "x" (lam "x" (lam "x" (lam "x" (lam "x" (lam "x" (lam "x" (lam "x" (lam "x" (lam "x" (lam "x" (lam "x" (lam "x" (lam "x" (lam "x" (lam "x" (lam "x" (lam "x" (lam "x" (lam "x" (lam "x" (lam "x" (lam "x" (lam "x" (lam "x" (lam "x" (lam "x" (lam "x" (lam "x" (lam "x" (lam "x" (lam "x" (lam "x" (lam "x" (lam "x" (lam "x" (lam "x" (lam "x" (lam "x" (lam "x" (lam "x" (lam "x" (lam "x" (lam "x" (lam "x" (lam "x" (lam "x" (lam "x" (lam "x" (lam "x" (lam "x" (lam "x" (lam "x" (lam "x" (lam "x" (lam "x" (lam "x" (lam "x" (lam "x" (lam "x" (lam "x" (lam "x" (lam "x" (lam "x" (lam "x" (lam "x" (lam "x" (lam "x" (lam "x" (lam "x" (lam "x" (lam "x" (lam "x" (lam "x" (lam "x" (lam "x" (lam "x" (lam "x" (lam "x" (lam "x" (lam "x" (lam "x" (lam "x" (lam "x" (lam "x" (lam "x" (lam "x" (ev "x"))))))))))))))))))))))))))))))))))))))))))))))))))))))))))))))))))))))))))))))))))))))))))))))))))))))))))))))))))))))))))))))))))))))))))))))))))))))))))))))))))))))))))))))))))))))))))))))))))))))))))))))))))))))))))))))))))))))))))))))))))))))))))))))))
    ∷ check (lam "x" (lam "x" (lam "x" (lam "x" (lam "x" (lam "x" (lam "x" (lam "x" (lam "x" (lam "x" (lam "x" (lam "x" (lam "x" (lam "x" (lam "x" (lam "x" (lam "x" (lam "x" (lam "x" (lam "x" (lam "x" (lam "x" (lam "x" (lam "x" (lam "x" (lam "x" (lam "x" (lam "x" (lam "x" (lam "x" (lam "x" (lam "x" (lam "x" (lam "x" (lam "x" (lam "x" (lam "x" (lam "x" (lam "x" (lam "x" (lam "x" (lam "x" (lam "x" (lam "x" (lam "x" (lam "x" (lam "x" (lam "x" (lam "x" (lam "x" (lam "x" (lam "x" (lam "x" (lam "x" (lam "x" (lam "x" (lam "x" (lam "x" (lam "x" (lam "x" (lam "x" (lam "x" (lam "x" (lam "x" (lam "x" (lam "x" (lam "x" (lam "x" (lam "x" (lam "x" (lam "x" (lam "x" (lam "x" (lam "x" (lam "x" (lam "x" (lam "x" (lam "x" (lam "x" (lam "x" (lam "x" (lam "x" (lam "x" (lam "x" (lam "x" (lam "x" (lam "x" (lam "x" (lam "x" (lam "x" (lam "x" (lam "x" (lam "x" (lam "x" (lam "x" (lam "x" (lam "x" (lam "x" (lam "x" (lam "x" (lam "x" (lam "x" (lam "x" (lam "x" (lam "x" (lam "x" (lam "x" (lam "x" (lam "x" (lam "x" (lam "x" (lam "x" (lam "x" (lam "x" (lam "x" (lam "x" (lam "x" (lam "x" (lam "x" (lam "x" (lam "x" (lam "x" (lam "x" (lam "x" (lam "x" (lam "x" (lam "x" (lam "x" (lam "x" (lam "x" (lam "x" (lam "x" (lam "x" (lam "x" (lam "x" (lam "x" (lam "x" (lam "x" (lam "x" (lam "x" (lam "x" (lam "x" (lam "x" (lam "x" (lam "x" (lam "x" (lam "x" (lam "x" (lam "x" (lam "x" (lam "x" (lam "x" (lam "x" (lam "x" (lam "x" (lam "x" (lam "x" (lam "x" (lam "x" (lam "x" (lam "x" (lam "x" (lam "x" (lam "x" (lam "x" (lam "x" (lam "x" (lam "x" (lam "x" (lam "x" (lam "x" (lam "x" (lam "x" (lam "x" (lam "x" (lam "x" (lam "x" (lam "x" (lam "x" (lam "x" (lam "x" (lam "x" (lam "x" (lam "x" (lam "x" (lam "x" (lam "x" (lam "x" (lam "x" (lam "x" (lam "x" (lam "x" (lam "x" (lam "x" (lam "x" (lam "x" (lam "x" (lam "x" (lam "x" (lam "x" (lam "x" (lam "x" (lam "x" (lam "x" (lam "x" (lam "x" (lam "x" (lam "x" (lam "x" (lam "x" (lam "x" (lam "x" (lam "x" (lam "x" (lam "x" (lam "x" (lam "x" (lam "x" (lam "x" (lam "x" (lam "x" (lam "x" (lam "x" (lam "x" (lam "x" (lam "x" (lam "x" (lam "x" (lam "x" (lam "x" (lam "x" (lam "x" (lam "x" (lam "x" (lam "x" (lam "x" (lam "x" (lam "x" (lam "x" (lam "x" (lam "x" (lam "x" (lam "x" (lam "x" (lam "x" (lam "x" (lam "x" (lam "x" (lam "x" (lam "x" (lam "x" (lam "x" (lam "x" (lam "x" (lam "x" (lam "x" (ev "x")))))))))))))))))))))))))))))))))))))))))))))))))))))))))))))))))))))))))))))))))))))))))))))))))))))))))))))))))))))))))))))))))))))))))))))))))))))))))))))))))))))))))))))))))))))))))))))))))))))))))))))))))))))))))))))))))))))))))))))))))))))))))))))))))
    ∷ []

c_depth_lam_computed : metered 512 65536 512 c_depth_lam ≡ said "declarations 3\n0 6 - | 512 33 0 0\n1 6 - | 512 33 0 0\n2 7 - | 256 33 0 0\n"
unfolding everything metered said
c_depth_lam_computed = refl

abbrev c_depth_let : List Decl
c_depth_let =
    check (bind "x" (eint 1) (bind "x" (eint 1) (bind "x" (eint 1) (bind "x" (eint 1) (bind "x" (eint 1) (bind "x" (eint 1) (bind "x" (eint 1) (bind "x" (eint 1) (bind "x" (eint 1) (bind "x" (eint 1) (bind "x" (eint 1) (bind "x" (eint 1) (bind "x" (eint 1) (bind "x" (eint 1) (bind "x" (eint 1) (bind "x" (eint 1) (bind "x" (eint 1) (bind "x" (eint 1) (bind "x" (eint 1) (bind "x" (eint 1) (bind "x" (eint 1) (bind "x" (eint 1) (bind "x" (eint 1) (bind "x" (eint 1) (bind "x" (eint 1) (bind "x" (eint 1) (bind "x" (eint 1) (bind "x" (eint 1) (bind "x" (eint 1) (bind "x" (eint 1) (bind "x" (eint 1) (bind "x" (eint 1) (bind "x" (eint 1) (bind "x" (eint 1) (bind "x" (eint 1) (bind "x" (eint 1) (bind "x" (eint 1) (bind "x" (eint 1) (bind "x" (eint 1) (bind "x" (eint 1) (bind "x" (eint 1) (bind "x" (eint 1) (bind "x" (eint 1) (bind "x" (eint 1) (bind "x" (eint 1) (bind "x" (eint 1) (bind "x" (eint 1) (bind "x" (eint 1) (bind "x" (eint 1) (bind "x" (eint 1) (bind "x" (eint 1) (bind "x" (eint 1) (bind "x" (eint 1) (bind "x" (eint 1) (bind "x" (eint 1) (bind "x" (eint 1) (bind "x" (eint 1) (bind "x" (eint 1) (bind "x" (eint 1) (bind "x" (eint 1) (bind "x" (eint 1) (bind "x" (eint 1) (bind "x" (eint 1) (bind "x" (eint 1) (bind "x" (eint 1) (bind "x" (eint 1) (bind "x" (eint 1) (bind "x" (eint 1) (bind "x" (eint 1) (bind "x" (eint 1) (bind "x" (eint 1) (bind "x" (eint 1) (bind "x" (eint 1) (bind "x" (eint 1) (bind "x" (eint 1) (bind "x" (eint 1) (bind "x" (eint 1) (bind "x" (eint 1) (bind "x" (eint 1) (bind "x" (eint 1) (bind "x" (eint 1) (bind "x" (eint 1) (bind "x" (eint 1) (bind "x" (eint 1) (bind "x" (eint 1) (bind "x" (eint 1) (bind "x" (eint 1) (bind "x" (eint 1) (bind "x" (eint 1) (bind "x" (eint 1) (bind "x" (eint 1) (bind "x" (eint 1) (bind "x" (eint 1) (bind "x" (eint 1) (bind "x" (eint 1) (bind "x" (eint 1) (bind "x" (eint 1) (bind "x" (eint 1) (bind "x" (eint 1) (bind "x" (eint 1) (bind "x" (eint 1) (bind "x" (eint 1) (bind "x" (eint 1) (bind "x" (eint 1) (bind "x" (eint 1) (bind "x" (eint 1) (bind "x" (eint 1) (bind "x" (eint 1) (bind "x" (eint 1) (bind "x" (eint 1) (bind "x" (eint 1) (bind "x" (eint 1) (bind "x" (eint 1) (bind "x" (eint 1) (bind "x" (eint 1) (bind "x" (eint 1) (bind "x" (eint 1) (bind "x" (eint 1) (bind "x" (eint 1) (bind "x" (eint 1) (bind "x" (eint 1) (bind "x" (eint 1) (bind "x" (eint 1) (bind "x" (eint 1) (bind "x" (eint 1) (bind "x" (eint 1) (bind "x" (eint 1) (bind "x" (eint 1) (bind "x" (eint 1) (bind "x" (eint 1) (bind "x" (eint 1) (bind "x" (eint 1) (bind "x" (eint 1) (bind "x" (eint 1) (bind "x" (eint 1) (bind "x" (eint 1) (bind "x" (eint 1) (bind "x" (eint 1) (bind "x" (eint 1) (bind "x" (eint 1) (bind "x" (eint 1) (bind "x" (eint 1) (bind "x" (eint 1) (bind "x" (eint 1) (bind "x" (eint 1) (bind "x" (eint 1) (bind "x" (eint 1) (bind "x" (eint 1) (bind "x" (eint 1) (bind "x" (eint 1) (bind "x" (eint 1) (bind "x" (eint 1) (bind "x" (eint 1) (bind "x" (eint 1) (bind "x" (eint 1) (bind "x" (eint 1) (bind "x" (eint 1) (bind "x" (eint 1) (bind "x" (eint 1) (bind "x" (eint 1) (bind "x" (eint 1) (bind "x" (eint 1) (bind "x" (eint 1) (bind "x" (eint 1) (bind "x" (eint 1) (bind "x" (eint 1) (bind "x" (eint 1) (bind "x" (eint 1) (bind "x" (eint 1) (bind "x" (eint 1) (bind "x" (eint 1) (bind "x" (eint 1) (bind "x" (eint 1) (bind "x" (eint 1) (bind "x" (eint 1) (bind "x" (eint 1) (bind "x" (eint 1) (bind "x" (eint 1) (bind "x" (eint 1) (bind "x" (eint 1) (bind "x" (eint 1) (bind "x" (eint 1) (bind "x" (eint 1) (bind "x" (eint 1) (bind "x" (eint 1) (bind "x" (eint 1) (bind "x" (eint 1) (bind "x" (eint 1) (bind "x" (eint 1) (bind "x" (eint 1) (bind "x" (eint 1) (bind "x" (eint 1) (bind "x" (eint 1) (bind "x" (eint 1) (bind "x" (eint 1) (bind "x" (eint 1) (bind "x" (eint 1) (bind "x" (eint 1) (bind "x" (eint 1) (bind "x" (eint 1) (bind "x" (eint 1) (bind "x" (eint 1) (bind "x" (eint 1) (bind "x" (eint 1) (bind "x" (eint 1) (bind "x" (eint 1) (bind "x" (eint 1) (bind "x" (eint 1) (bind "x" (eint 1) (bind "x" (eint 1) (bind "x" (eint 1) (bind "x" (eint 1) (bind "x" (eint 1) (bind "x" (eint 1) (bind "x" (eint 1) (bind "x" (eint 1) (bind "x" (eint 1) (bind "x" (eint 1) (bind "x" (eint 1) (bind "x" (eint 1) (bind "x" (eint 1) (bind "x" (eint 1) (bind "x" (eint 1) (bind "x" (eint 1) (bind "x" (eint 1) (bind "x" (eint 1) (bind "x" (eint 1) (bind "x" (eint 1) (bind "x" (eint 1) (bind "x" (eint 1) (bind "x" (eint 1) (bind "x" (eint 1) (bind "x" (eint 1) (bind "x" (eint 1) (bind "x" (eint 1) (bind "x" (eint 1) (bind "x" (eint 1) (bind "x" (eint 1) (bind "x" (eint 1) (bind "x" (eint 1) (bind "x" (eint 1) (bind "x" (eint 1) (bind "x" (eint 1) (bind "x" (eint 1) (bind "x" (eint 1) (bind "x" (eint 1) (bind "x" (eint 1) (bind "x" (eint 1) (bind "x" (eint 1) (bind "x" (eint 1) (bind "x" (eint 1) (bind "x" (eint 1) (bind "x" (eint 1) (bind "x" (eint 1) (eint 1)))))))))))))))))))))))))))))))))))))))))))))))))))))))))))))))))))))))))))))))))))))))))))))))))))))))))))))))))))))))))))))))))))))))))))))))))))))))))))))))))))))))))))))))))))))))))))))))))))))))))))))))))))))))))))))))))))))))))))))))))))))))))))))))
    ∷ check (bind "x" (eint 1) (bind "x" (eint 1) (bind "x" (eint 1) (bind "x" (eint 1) (bind "x" (eint 1) (bind "x" (eint 1) (bind "x" (eint 1) (bind "x" (eint 1) (bind "x" (eint 1) (bind "x" (eint 1) (bind "x" (eint 1) (bind "x" (eint 1) (bind "x" (eint 1) (bind "x" (eint 1) (bind "x" (eint 1) (bind "x" (eint 1) (bind "x" (eint 1) (bind "x" (eint 1) (bind "x" (eint 1) (bind "x" (eint 1) (bind "x" (eint 1) (bind "x" (eint 1) (bind "x" (eint 1) (bind "x" (eint 1) (bind "x" (eint 1) (bind "x" (eint 1) (bind "x" (eint 1) (bind "x" (eint 1) (bind "x" (eint 1) (bind "x" (eint 1) (bind "x" (eint 1) (bind "x" (eint 1) (bind "x" (eint 1) (bind "x" (eint 1) (bind "x" (eint 1) (bind "x" (eint 1) (bind "x" (eint 1) (bind "x" (eint 1) (bind "x" (eint 1) (bind "x" (eint 1) (bind "x" (eint 1) (bind "x" (eint 1) (bind "x" (eint 1) (bind "x" (eint 1) (bind "x" (eint 1) (bind "x" (eint 1) (bind "x" (eint 1) (bind "x" (eint 1) (bind "x" (eint 1) (bind "x" (eint 1) (bind "x" (eint 1) (bind "x" (eint 1) (bind "x" (eint 1) (bind "x" (eint 1) (bind "x" (eint 1) (bind "x" (eint 1) (bind "x" (eint 1) (bind "x" (eint 1) (bind "x" (eint 1) (bind "x" (eint 1) (bind "x" (eint 1) (bind "x" (eint 1) (bind "x" (eint 1) (bind "x" (eint 1) (bind "x" (eint 1) (bind "x" (eint 1) (bind "x" (eint 1) (bind "x" (eint 1) (bind "x" (eint 1) (bind "x" (eint 1) (bind "x" (eint 1) (bind "x" (eint 1) (bind "x" (eint 1) (bind "x" (eint 1) (bind "x" (eint 1) (bind "x" (eint 1) (bind "x" (eint 1) (bind "x" (eint 1) (bind "x" (eint 1) (bind "x" (eint 1) (bind "x" (eint 1) (bind "x" (eint 1) (bind "x" (eint 1) (bind "x" (eint 1) (bind "x" (eint 1) (bind "x" (eint 1) (bind "x" (eint 1) (bind "x" (eint 1) (bind "x" (eint 1) (bind "x" (eint 1) (bind "x" (eint 1) (bind "x" (eint 1) (bind "x" (eint 1) (bind "x" (eint 1) (bind "x" (eint 1) (bind "x" (eint 1) (bind "x" (eint 1) (bind "x" (eint 1) (bind "x" (eint 1) (bind "x" (eint 1) (bind "x" (eint 1) (bind "x" (eint 1) (bind "x" (eint 1) (bind "x" (eint 1) (bind "x" (eint 1) (bind "x" (eint 1) (bind "x" (eint 1) (bind "x" (eint 1) (bind "x" (eint 1) (bind "x" (eint 1) (bind "x" (eint 1) (bind "x" (eint 1) (bind "x" (eint 1) (bind "x" (eint 1) (bind "x" (eint 1) (bind "x" (eint 1) (bind "x" (eint 1) (bind "x" (eint 1) (bind "x" (eint 1) (bind "x" (eint 1) (bind "x" (eint 1) (bind "x" (eint 1) (bind "x" (eint 1) (bind "x" (eint 1) (bind "x" (eint 1) (bind "x" (eint 1) (bind "x" (eint 1) (bind "x" (eint 1) (bind "x" (eint 1) (bind "x" (eint 1) (bind "x" (eint 1) (bind "x" (eint 1) (bind "x" (eint 1) (bind "x" (eint 1) (bind "x" (eint 1) (bind "x" (eint 1) (bind "x" (eint 1) (bind "x" (eint 1) (bind "x" (eint 1) (bind "x" (eint 1) (bind "x" (eint 1) (bind "x" (eint 1) (bind "x" (eint 1) (bind "x" (eint 1) (bind "x" (eint 1) (bind "x" (eint 1) (bind "x" (eint 1) (bind "x" (eint 1) (bind "x" (eint 1) (bind "x" (eint 1) (bind "x" (eint 1) (bind "x" (eint 1) (bind "x" (eint 1) (bind "x" (eint 1) (bind "x" (eint 1) (bind "x" (eint 1) (bind "x" (eint 1) (bind "x" (eint 1) (bind "x" (eint 1) (bind "x" (eint 1) (bind "x" (eint 1) (bind "x" (eint 1) (bind "x" (eint 1) (bind "x" (eint 1) (bind "x" (eint 1) (bind "x" (eint 1) (bind "x" (eint 1) (bind "x" (eint 1) (bind "x" (eint 1) (bind "x" (eint 1) (bind "x" (eint 1) (bind "x" (eint 1) (bind "x" (eint 1) (bind "x" (eint 1) (bind "x" (eint 1) (bind "x" (eint 1) (bind "x" (eint 1) (bind "x" (eint 1) (bind "x" (eint 1) (bind "x" (eint 1) (bind "x" (eint 1) (bind "x" (eint 1) (bind "x" (eint 1) (bind "x" (eint 1) (bind "x" (eint 1) (bind "x" (eint 1) (bind "x" (eint 1) (bind "x" (eint 1) (bind "x" (eint 1) (bind "x" (eint 1) (bind "x" (eint 1) (bind "x" (eint 1) (bind "x" (eint 1) (bind "x" (eint 1) (bind "x" (eint 1) (bind "x" (eint 1) (bind "x" (eint 1) (bind "x" (eint 1) (bind "x" (eint 1) (bind "x" (eint 1) (bind "x" (eint 1) (bind "x" (eint 1) (bind "x" (eint 1) (bind "x" (eint 1) (bind "x" (eint 1) (bind "x" (eint 1) (bind "x" (eint 1) (bind "x" (eint 1) (bind "x" (eint 1) (bind "x" (eint 1) (bind "x" (eint 1) (bind "x" (eint 1) (bind "x" (eint 1) (bind "x" (eint 1) (bind "x" (eint 1) (bind "x" (eint 1) (bind "x" (eint 1) (bind "x" (eint 1) (bind "x" (eint 1) (bind "x" (eint 1) (bind "x" (eint 1) (bind "x" (eint 1) (bind "x" (eint 1) (bind "x" (eint 1) (bind "x" (eint 1) (bind "x" (eint 1) (bind "x" (eint 1) (bind "x" (eint 1) (bind "x" (eint 1) (bind "x" (eint 1) (bind "x" (eint 1) (bind "x" (eint 1) (bind "x" (eint 1) (bind "x" (eint 1) (bind "x" (eint 1) (bind "x" (eint 1) (bind "x" (eint 1) (bind "x" (eint 1) (bind "x" (eint 1) (bind "x" (eint 1) (bind "x" (eint 1) (bind "x" (eint 1) (bind "x" (eint 1) (bind "x" (eint 1) (bind "x" (eint 1) (bind "x" (eint 1) (bind "x" (eint 1) (bind "x" (eint 1) (bind "x" (eint 1) (bind "x" (eint 1) (bind "x" (eint 1) (bind "x" (eint 1) (bind "x" (eint 1) (bind "x" (eint 1) (bind "x" (eint 1) (eint 1))))))))))))))))))))))))))))))))))))))))))))))))))))))))))))))))))))))))))))))))))))))))))))))))))))))))))))))))))))))))))))))))))))))))))))))))))))))))))))))))))))))))))))))))))))))))))))))))))))))))))))))))))))))))))))))))))))))))))))))))))))))))))))))))
    ∷ check (bind "x" (eint 1) (bind "x" (eint 1) (bind "x" (eint 1) (bind "x" (eint 1) (bind "x" (eint 1) (bind "x" (eint 1) (bind "x" (eint 1) (bind "x" (eint 1) (bind "x" (eint 1) (bind "x" (eint 1) (bind "x" (eint 1) (bind "x" (eint 1) (bind "x" (eint 1) (bind "x" (eint 1) (bind "x" (eint 1) (bind "x" (eint 1) (bind "x" (eint 1) (bind "x" (eint 1) (bind "x" (eint 1) (bind "x" (eint 1) (bind "x" (eint 1) (bind "x" (eint 1) (bind "x" (eint 1) (bind "x" (eint 1) (bind "x" (eint 1) (bind "x" (eint 1) (bind "x" (eint 1) (bind "x" (eint 1) (bind "x" (eint 1) (bind "x" (eint 1) (bind "x" (eint 1) (bind "x" (eint 1) (bind "x" (eint 1) (bind "x" (eint 1) (bind "x" (eint 1) (bind "x" (eint 1) (bind "x" (eint 1) (bind "x" (eint 1) (bind "x" (eint 1) (bind "x" (eint 1) (bind "x" (eint 1) (bind "x" (eint 1) (bind "x" (eint 1) (bind "x" (eint 1) (bind "x" (eint 1) (bind "x" (eint 1) (bind "x" (eint 1) (bind "x" (eint 1) (bind "x" (eint 1) (bind "x" (eint 1) (bind "x" (eint 1) (bind "x" (eint 1) (bind "x" (eint 1) (bind "x" (eint 1) (bind "x" (eint 1) (bind "x" (eint 1) (bind "x" (eint 1) (bind "x" (eint 1) (bind "x" (eint 1) (bind "x" (eint 1) (bind "x" (eint 1) (bind "x" (eint 1) (bind "x" (eint 1) (bind "x" (eint 1) (bind "x" (eint 1) (bind "x" (eint 1) (bind "x" (eint 1) (bind "x" (eint 1) (bind "x" (eint 1) (bind "x" (eint 1) (bind "x" (eint 1) (bind "x" (eint 1) (bind "x" (eint 1) (bind "x" (eint 1) (bind "x" (eint 1) (bind "x" (eint 1) (bind "x" (eint 1) (bind "x" (eint 1) (bind "x" (eint 1) (bind "x" (eint 1) (bind "x" (eint 1) (bind "x" (eint 1) (bind "x" (eint 1) (bind "x" (eint 1) (bind "x" (eint 1) (bind "x" (eint 1) (bind "x" (eint 1) (bind "x" (eint 1) (bind "x" (eint 1) (bind "x" (eint 1) (bind "x" (eint 1) (bind "x" (eint 1) (bind "x" (eint 1) (bind "x" (eint 1) (bind "x" (eint 1) (bind "x" (eint 1) (bind "x" (eint 1) (bind "x" (eint 1) (bind "x" (eint 1) (bind "x" (eint 1) (bind "x" (eint 1) (bind "x" (eint 1) (bind "x" (eint 1) (bind "x" (eint 1) (bind "x" (eint 1) (bind "x" (eint 1) (bind "x" (eint 1) (bind "x" (eint 1) (bind "x" (eint 1) (bind "x" (eint 1) (bind "x" (eint 1) (bind "x" (eint 1) (bind "x" (eint 1) (bind "x" (eint 1) (bind "x" (eint 1) (bind "x" (eint 1) (bind "x" (eint 1) (bind "x" (eint 1) (bind "x" (eint 1) (bind "x" (eint 1) (bind "x" (eint 1) (bind "x" (eint 1) (bind "x" (eint 1) (bind "x" (eint 1) (bind "x" (eint 1) (bind "x" (eint 1) (bind "x" (eint 1) (bind "x" (eint 1) (bind "x" (eint 1) (bind "x" (eint 1) (bind "x" (eint 1) (bind "x" (eint 1) (bind "x" (eint 1) (bind "x" (eint 1) (bind "x" (eint 1) (bind "x" (eint 1) (bind "x" (eint 1) (bind "x" (eint 1) (bind "x" (eint 1) (bind "x" (eint 1) (bind "x" (eint 1) (bind "x" (eint 1) (bind "x" (eint 1) (bind "x" (eint 1) (bind "x" (eint 1) (bind "x" (eint 1) (bind "x" (eint 1) (bind "x" (eint 1) (bind "x" (eint 1) (bind "x" (eint 1) (bind "x" (eint 1) (bind "x" (eint 1) (bind "x" (eint 1) (bind "x" (eint 1) (bind "x" (eint 1) (bind "x" (eint 1) (bind "x" (eint 1) (bind "x" (eint 1) (bind "x" (eint 1) (bind "x" (eint 1) (bind "x" (eint 1) (bind "x" (eint 1) (bind "x" (eint 1) (bind "x" (eint 1) (bind "x" (eint 1) (bind "x" (eint 1) (bind "x" (eint 1) (bind "x" (eint 1) (bind "x" (eint 1) (bind "x" (eint 1) (bind "x" (eint 1) (bind "x" (eint 1) (bind "x" (eint 1) (bind "x" (eint 1) (bind "x" (eint 1) (bind "x" (eint 1) (bind "x" (eint 1) (bind "x" (eint 1) (bind "x" (eint 1) (bind "x" (eint 1) (bind "x" (eint 1) (bind "x" (eint 1) (bind "x" (eint 1) (bind "x" (eint 1) (bind "x" (eint 1) (bind "x" (eint 1) (bind "x" (eint 1) (bind "x" (eint 1) (bind "x" (eint 1) (bind "x" (eint 1) (bind "x" (eint 1) (bind "x" (eint 1) (bind "x" (eint 1) (bind "x" (eint 1) (bind "x" (eint 1) (bind "x" (eint 1) (bind "x" (eint 1) (bind "x" (eint 1) (bind "x" (eint 1) (bind "x" (eint 1) (bind "x" (eint 1) (bind "x" (eint 1) (bind "x" (eint 1) (bind "x" (eint 1) (bind "x" (eint 1) (bind "x" (eint 1) (bind "x" (eint 1) (bind "x" (eint 1) (bind "x" (eint 1) (bind "x" (eint 1) (bind "x" (eint 1) (bind "x" (eint 1) (bind "x" (eint 1) (bind "x" (eint 1) (bind "x" (eint 1) (bind "x" (eint 1) (bind "x" (eint 1) (bind "x" (eint 1) (bind "x" (eint 1) (bind "x" (eint 1) (bind "x" (eint 1) (bind "x" (eint 1) (bind "x" (eint 1) (bind "x" (eint 1) (bind "x" (eint 1) (bind "x" (eint 1) (bind "x" (eint 1) (bind "x" (eint 1) (bind "x" (eint 1) (bind "x" (eint 1) (bind "x" (eint 1) (bind "x" (eint 1) (bind "x" (eint 1) (bind "x" (eint 1) (bind "x" (eint 1) (bind "x" (eint 1) (bind "x" (eint 1) (bind "x" (eint 1) (bind "x" (eint 1) (bind "x" (eint 1) (bind "x" (eint 1) (bind "x" (eint 1) (bind "x" (eint 1) (bind "x" (eint 1) (bind "x" (eint 1) (bind "x" (eint 1) (bind "x" (eint 1) (bind "x" (eint 1) (bind "x" (eint 1) (bind "x" (eint 1) (bind "x" (eint 1) (bind "x" (eint 1) (bind "x" (eint 1) (bind "x" (eint 1) (bind "x" (eint 1) (bind "x" (eint 1) (eint 1)))))))))))))))))))))))))))))))))))))))))))))))))))))))))))))))))))))))))))))))))))))))))))))))))))))))))))))))))))))))))))))))))))))))))))))))))))))))))))))))))))))))))))))))))))))))))))))))))))))))))))))))))))))))))))))))))))))))))))))))))))))))))))))))))
    ∷ check (bind "x" (bind "x" (bind "x" (bind "x" (bind "x" (bind "x" (bind "x" (bind "x" (bind "x" (bind "x" (bind "x" (bind "x" (bind "x" (bind "x" (bind "x" (bind "x" (bind "x" (bind "x" (bind "x" (bind "x" (bind "x" (bind "x" (bind "x" (bind "x" (bind "x" (bind "x" (bind "x" (bind "x" (bind "x" (bind "x" (bind "x" (bind "x" (bind "x" (bind "x" (bind "x" (bind "x" (bind "x" (bind "x" (bind "x" (bind "x" (bind "x" (bind "x" (bind "x" (bind "x" (bind "x" (bind "x" (bind "x" (bind "x" (bind "x" (bind "x" (bind "x" (bind "x" (bind "x" (bind "x" (bind "x" (bind "x" (bind "x" (bind "x" (bind "x" (bind "x" (bind "x" (bind "x" (bind "x" (bind "x" (bind "x" (bind "x" (bind "x" (bind "x" (bind "x" (bind "x" (bind "x" (bind "x" (bind "x" (bind "x" (bind "x" (bind "x" (bind "x" (bind "x" (bind "x" (bind "x" (bind "x" (bind "x" (bind "x" (bind "x" (bind "x" (bind "x" (bind "x" (bind "x" (bind "x" (bind "x" (bind "x" (bind "x" (bind "x" (bind "x" (bind "x" (bind "x" (bind "x" (bind "x" (bind "x" (bind "x" (bind "x" (bind "x" (bind "x" (bind "x" (bind "x" (bind "x" (bind "x" (bind "x" (bind "x" (bind "x" (bind "x" (bind "x" (bind "x" (bind "x" (bind "x" (bind "x" (bind "x" (bind "x" (bind "x" (bind "x" (bind "x" (bind "x" (bind "x" (bind "x" (bind "x" (bind "x" (bind "x" (bind "x" (bind "x" (bind "x" (bind "x" (bind "x" (bind "x" (bind "x" (bind "x" (bind "x" (bind "x" (bind "x" (bind "x" (bind "x" (bind "x" (bind "x" (bind "x" (bind "x" (bind "x" (bind "x" (bind "x" (bind "x" (bind "x" (bind "x" (bind "x" (bind "x" (bind "x" (bind "x" (bind "x" (bind "x" (bind "x" (bind "x" (bind "x" (bind "x" (bind "x" (bind "x" (bind "x" (bind "x" (bind "x" (bind "x" (bind "x" (bind "x" (bind "x" (bind "x" (bind "x" (bind "x" (bind "x" (bind "x" (bind "x" (bind "x" (bind "x" (bind "x" (bind "x" (bind "x" (bind "x" (bind "x" (bind "x" (bind "x" (bind "x" (bind "x" (bind "x" (bind "x" (bind "x" (bind "x" (bind "x" (bind "x" (bind "x" (bind "x" (bind "x" (bind "x" (bind "x" (bind "x" (bind "x" (bind "x" (bind "x" (bind "x" (bind "x" (bind "x" (bind "x" (bind "x" (bind "x" (bind "x" (bind "x" (bind "x" (bind "x" (bind "x" (bind "x" (bind "x" (bind "x" (bind "x" (bind "x" (bind "x" (bind "x" (bind "x" (bind "x" (bind "x" (bind "x" (bind "x" (bind "x" (bind "x" (bind "x" (bind "x" (bind "x" (bind "x" (bind "x" (bind "x" (bind "x" (bind "x" (bind "x" (bind "x" (bind "x" (bind "x" (bind "x" (bind "x" (bind "x" (bind "x" (bind "x" (bind "x" (bind "x" (bind "x" (bind "x" (bind "x" (bind "x" (bind "x" (bind "x" (bind "x" (bind "x" (bind "x" (eint 1) (ev "x")) (ev "x")) (ev "x")) (ev "x")) (ev "x")) (ev "x")) (ev "x")) (ev "x")) (ev "x")) (ev "x")) (ev "x")) (ev "x")) (ev "x")) (ev "x")) (ev "x")) (ev "x")) (ev "x")) (ev "x")) (ev "x")) (ev "x")) (ev "x")) (ev "x")) (ev "x")) (ev "x")) (ev "x")) (ev "x")) (ev "x")) (ev "x")) (ev "x")) (ev "x")) (ev "x")) (ev "x")) (ev "x")) (ev "x")) (ev "x")) (ev "x")) (ev "x")) (ev "x")) (ev "x")) (ev "x")) (ev "x")) (ev "x")) (ev "x")) (ev "x")) (ev "x")) (ev "x")) (ev "x")) (ev "x")) (ev "x")) (ev "x")) (ev "x")) (ev "x")) (ev "x")) (ev "x")) (ev "x")) (ev "x")) (ev "x")) (ev "x")) (ev "x")) (ev "x")) (ev "x")) (ev "x")) (ev "x")) (ev "x")) (ev "x")) (ev "x")) (ev "x")) (ev "x")) (ev "x")) (ev "x")) (ev "x")) (ev "x")) (ev "x")) (ev "x")) (ev "x")) (ev "x")) (ev "x")) (ev "x")) (ev "x")) (ev "x")) (ev "x")) (ev "x")) (ev "x")) (ev "x")) (ev "x")) (ev "x")) (ev "x")) (ev "x")) (ev "x")) (ev "x")) (ev "x")) (ev "x")) (ev "x")) (ev "x")) (ev "x")) (ev "x")) (ev "x")) (ev "x")) (ev "x")) (ev "x")) (ev "x")) (ev "x")) (ev "x")) (ev "x")) (ev "x")) (ev "x")) (ev "x")) (ev "x")) (ev "x")) (ev "x")) (ev "x")) (ev "x")) (ev "x")) (ev "x")) (ev "x")) (ev "x")) (ev "x")) (ev "x")) (ev "x")) (ev "x")) (ev "x")) (ev "x")) (ev "x")) (ev "x")) (ev "x")) (ev "x")) (ev "x")) (ev "x")) (ev "x")) (ev "x")) (ev "x")) (ev "x")) (ev "x")) (ev "x")) (ev "x")) (ev "x")) (ev "x")) (ev "x")) (ev "x")) (ev "x")) (ev "x")) (ev "x")) (ev "x")) (ev "x")) (ev "x")) (ev "x")) (ev "x")) (ev "x")) (ev "x")) (ev "x")) (ev "x")) (ev "x")) (ev "x")) (ev "x")) (ev "x")) (ev "x")) (ev "x")) (ev "x")) (ev "x")) (ev "x")) (ev "x")) (ev "x")) (ev "x")) (ev "x")) (ev "x")) (ev "x")) (ev "x")) (ev "x")) (ev "x")) (ev "x")) (ev "x")) (ev "x")) (ev "x")) (ev "x")) (ev "x")) (ev "x")) (ev "x")) (ev "x")) (ev "x")) (ev "x")) (ev "x")) (ev "x")) (ev "x")) (ev "x")) (ev "x")) (ev "x")) (ev "x")) (ev "x")) (ev "x")) (ev "x")) (ev "x")) (ev "x")) (ev "x")) (ev "x")) (ev "x")) (ev "x")) (ev "x")) (ev "x")) (ev "x")) (ev "x")) (ev "x")) (ev "x")) (ev "x")) (ev "x")) (ev "x")) (ev "x")) (ev "x")) (ev "x")) (ev "x")) (ev "x")) (ev "x")) (ev "x")) (ev "x")) (ev "x")) (ev "x")) (ev "x")) (ev "x")) (ev "x")) (ev "x")) (ev "x")) (ev "x")) (ev "x")) (ev "x")) (ev "x")) (ev "x")) (ev "x")) (ev "x")) (ev "x")) (ev "x")) (ev "x")) (ev "x")) (ev "x")) (ev "x")) (ev "x")) (ev "x")) (ev "x")) (ev "x")) (ev "x")) (ev "x")) (ev "x")) (ev "x")) (ev "x")) (ev "x")) (ev "x")) (ev "x")) (ev "x")) (ev "x")) (ev "x")) (ev "x")) (ev "x")) (ev "x")) (ev "x")) (ev "x")) (ev "x"))
    ∷ check (bind "x" (bind "x" (bind "x" (bind "x" (bind "x" (bind "x" (bind "x" (bind "x" (bind "x" (bind "x" (bind "x" (bind "x" (bind "x" (bind "x" (bind "x" (bind "x" (bind "x" (bind "x" (bind "x" (bind "x" (bind "x" (bind "x" (bind "x" (bind "x" (bind "x" (bind "x" (bind "x" (bind "x" (bind "x" (bind "x" (bind "x" (bind "x" (bind "x" (bind "x" (bind "x" (bind "x" (bind "x" (bind "x" (bind "x" (bind "x" (bind "x" (bind "x" (bind "x" (bind "x" (bind "x" (bind "x" (bind "x" (bind "x" (bind "x" (bind "x" (bind "x" (bind "x" (bind "x" (bind "x" (bind "x" (bind "x" (bind "x" (bind "x" (bind "x" (bind "x" (bind "x" (bind "x" (bind "x" (bind "x" (bind "x" (bind "x" (bind "x" (bind "x" (bind "x" (bind "x" (bind "x" (bind "x" (bind "x" (bind "x" (bind "x" (bind "x" (bind "x" (bind "x" (bind "x" (bind "x" (bind "x" (bind "x" (bind "x" (bind "x" (bind "x" (bind "x" (bind "x" (bind "x" (bind "x" (bind "x" (bind "x" (bind "x" (bind "x" (bind "x" (bind "x" (bind "x" (bind "x" (bind "x" (bind "x" (bind "x" (bind "x" (bind "x" (bind "x" (bind "x" (bind "x" (bind "x" (bind "x" (bind "x" (bind "x" (bind "x" (bind "x" (bind "x" (bind "x" (bind "x" (bind "x" (bind "x" (bind "x" (bind "x" (bind "x" (bind "x" (bind "x" (bind "x" (bind "x" (bind "x" (bind "x" (bind "x" (bind "x" (bind "x" (bind "x" (bind "x" (bind "x" (bind "x" (bind "x" (bind "x" (bind "x" (bind "x" (bind "x" (bind "x" (bind "x" (bind "x" (bind "x" (bind "x" (bind "x" (bind "x" (bind "x" (bind "x" (bind "x" (bind "x" (bind "x" (bind "x" (bind "x" (bind "x" (bind "x" (bind "x" (bind "x" (bind "x" (bind "x" (bind "x" (bind "x" (bind "x" (bind "x" (bind "x" (bind "x" (bind "x" (bind "x" (bind "x" (bind "x" (bind "x" (bind "x" (bind "x" (bind "x" (bind "x" (bind "x" (bind "x" (bind "x" (bind "x" (bind "x" (bind "x" (bind "x" (bind "x" (bind "x" (bind "x" (bind "x" (bind "x" (bind "x" (bind "x" (bind "x" (bind "x" (bind "x" (bind "x" (bind "x" (bind "x" (bind "x" (bind "x" (bind "x" (bind "x" (bind "x" (bind "x" (bind "x" (bind "x" (bind "x" (bind "x" (bind "x" (bind "x" (bind "x" (bind "x" (bind "x" (bind "x" (bind "x" (bind "x" (bind "x" (bind "x" (bind "x" (bind "x" (bind "x" (bind "x" (bind "x" (bind "x" (bind "x" (bind "x" (bind "x" (bind "x" (bind "x" (bind "x" (bind "x" (bind "x" (bind "x" (bind "x" (bind "x" (bind "x" (bind "x" (bind "x" (bind "x" (bind "x" (bind "x" (bind "x" (bind "x" (bind "x" (bind "x" (bind "x" (bind "x" (bind "x" (bind "x" (bind "x" (bind "x" (bind "x" (bind "x" (bind "x" (bind "x" (bind "x" (bind "x" (bind "x" (bind "x" (bind "x" (bind "x" (eint 1) (ev "x")) (ev "x")) (ev "x")) (ev "x")) (ev "x")) (ev "x")) (ev "x")) (ev "x")) (ev "x")) (ev "x")) (ev "x")) (ev "x")) (ev "x")) (ev "x")) (ev "x")) (ev "x")) (ev "x")) (ev "x")) (ev "x")) (ev "x")) (ev "x")) (ev "x")) (ev "x")) (ev "x")) (ev "x")) (ev "x")) (ev "x")) (ev "x")) (ev "x")) (ev "x")) (ev "x")) (ev "x")) (ev "x")) (ev "x")) (ev "x")) (ev "x")) (ev "x")) (ev "x")) (ev "x")) (ev "x")) (ev "x")) (ev "x")) (ev "x")) (ev "x")) (ev "x")) (ev "x")) (ev "x")) (ev "x")) (ev "x")) (ev "x")) (ev "x")) (ev "x")) (ev "x")) (ev "x")) (ev "x")) (ev "x")) (ev "x")) (ev "x")) (ev "x")) (ev "x")) (ev "x")) (ev "x")) (ev "x")) (ev "x")) (ev "x")) (ev "x")) (ev "x")) (ev "x")) (ev "x")) (ev "x")) (ev "x")) (ev "x")) (ev "x")) (ev "x")) (ev "x")) (ev "x")) (ev "x")) (ev "x")) (ev "x")) (ev "x")) (ev "x")) (ev "x")) (ev "x")) (ev "x")) (ev "x")) (ev "x")) (ev "x")) (ev "x")) (ev "x")) (ev "x")) (ev "x")) (ev "x")) (ev "x")) (ev "x")) (ev "x")) (ev "x")) (ev "x")) (ev "x")) (ev "x")) (ev "x")) (ev "x")) (ev "x")) (ev "x")) (ev "x")) (ev "x")) (ev "x")) (ev "x")) (ev "x")) (ev "x")) (ev "x")) (ev "x")) (ev "x")) (ev "x")) (ev "x")) (ev "x")) (ev "x")) (ev "x")) (ev "x")) (ev "x")) (ev "x")) (ev "x")) (ev "x")) (ev "x")) (ev "x")) (ev "x")) (ev "x")) (ev "x")) (ev "x")) (ev "x")) (ev "x")) (ev "x")) (ev "x")) (ev "x")) (ev "x")) (ev "x")) (ev "x")) (ev "x")) (ev "x")) (ev "x")) (ev "x")) (ev "x")) (ev "x")) (ev "x")) (ev "x")) (ev "x")) (ev "x")) (ev "x")) (ev "x")) (ev "x")) (ev "x")) (ev "x")) (ev "x")) (ev "x")) (ev "x")) (ev "x")) (ev "x")) (ev "x")) (ev "x")) (ev "x")) (ev "x")) (ev "x")) (ev "x")) (ev "x")) (ev "x")) (ev "x")) (ev "x")) (ev "x")) (ev "x")) (ev "x")) (ev "x")) (ev "x")) (ev "x")) (ev "x")) (ev "x")) (ev "x")) (ev "x")) (ev "x")) (ev "x")) (ev "x")) (ev "x")) (ev "x")) (ev "x")) (ev "x")) (ev "x")) (ev "x")) (ev "x")) (ev "x")) (ev "x")) (ev "x")) (ev "x")) (ev "x")) (ev "x")) (ev "x")) (ev "x")) (ev "x")) (ev "x")) (ev "x")) (ev "x")) (ev "x")) (ev "x")) (ev "x")) (ev "x")) (ev "x")) (ev "x")) (ev "x")) (ev "x")) (ev "x")) (ev "x")) (ev "x")) (ev "x")) (ev "x")) (ev "x")) (ev "x")) (ev "x")) (ev "x")) (ev "x")) (ev "x")) (ev "x")) (ev "x")) (ev "x")) (ev "x")) (ev "x")) (ev "x")) (ev "x")) (ev "x")) (ev "x")) (ev "x")) (ev "x")) (ev "x")) (ev "x")) (ev "x")) (ev "x")) (ev "x")) (ev "x")) (ev "x")) (ev "x")) (ev "x")) (ev "x")) (ev "x")) (ev "x")) (ev "x")) (ev "x")) (ev "x")) (ev "x")) (ev "x")) (ev "x")) (ev "x")) (ev "x")) (ev "x")) (ev "x")) (ev "x")) (ev "x")) (ev "x")) (ev "x")) (ev "x"))
    ∷ check (bind "x" (bind "x" (bind "x" (bind "x" (bind "x" (bind "x" (bind "x" (bind "x" (bind "x" (bind "x" (bind "x" (bind "x" (bind "x" (bind "x" (bind "x" (bind "x" (bind "x" (bind "x" (bind "x" (bind "x" (bind "x" (bind "x" (bind "x" (bind "x" (bind "x" (bind "x" (bind "x" (bind "x" (bind "x" (bind "x" (bind "x" (bind "x" (bind "x" (bind "x" (bind "x" (bind "x" (bind "x" (bind "x" (bind "x" (bind "x" (bind "x" (bind "x" (bind "x" (bind "x" (bind "x" (bind "x" (bind "x" (bind "x" (bind "x" (bind "x" (bind "x" (bind "x" (bind "x" (bind "x" (bind "x" (bind "x" (bind "x" (bind "x" (bind "x" (bind "x" (bind "x" (bind "x" (bind "x" (bind "x" (bind "x" (bind "x" (bind "x" (bind "x" (bind "x" (bind "x" (bind "x" (bind "x" (bind "x" (bind "x" (bind "x" (bind "x" (bind "x" (bind "x" (bind "x" (bind "x" (bind "x" (bind "x" (bind "x" (bind "x" (bind "x" (bind "x" (bind "x" (bind "x" (bind "x" (bind "x" (bind "x" (bind "x" (bind "x" (bind "x" (bind "x" (bind "x" (bind "x" (bind "x" (bind "x" (bind "x" (bind "x" (bind "x" (bind "x" (bind "x" (bind "x" (bind "x" (bind "x" (bind "x" (bind "x" (bind "x" (bind "x" (bind "x" (bind "x" (bind "x" (bind "x" (bind "x" (bind "x" (bind "x" (bind "x" (bind "x" (bind "x" (bind "x" (bind "x" (bind "x" (bind "x" (bind "x" (bind "x" (bind "x" (bind "x" (bind "x" (bind "x" (bind "x" (bind "x" (bind "x" (bind "x" (bind "x" (bind "x" (bind "x" (bind "x" (bind "x" (bind "x" (bind "x" (bind "x" (bind "x" (bind "x" (bind "x" (bind "x" (bind "x" (bind "x" (bind "x" (bind "x" (bind "x" (bind "x" (bind "x" (bind "x" (bind "x" (bind "x" (bind "x" (bind "x" (bind "x" (bind "x" (bind "x" (bind "x" (bind "x" (bind "x" (bind "x" (bind "x" (bind "x" (bind "x" (bind "x" (bind "x" (bind "x" (bind "x" (bind "x" (bind "x" (bind "x" (bind "x" (bind "x" (bind "x" (bind "x" (bind "x" (bind "x" (bind "x" (bind "x" (bind "x" (bind "x" (bind "x" (bind "x" (bind "x" (bind "x" (bind "x" (bind "x" (bind "x" (bind "x" (bind "x" (bind "x" (bind "x" (bind "x" (bind "x" (bind "x" (bind "x" (bind "x" (bind "x" (bind "x" (bind "x" (bind "x" (bind "x" (bind "x" (bind "x" (bind "x" (bind "x" (bind "x" (bind "x" (bind "x" (bind "x" (bind "x" (bind "x" (bind "x" (bind "x" (bind "x" (bind "x" (bind "x" (bind "x" (bind "x" (bind "x" (bind "x" (bind "x" (bind "x" (bind "x" (bind "x" (bind "x" (bind "x" (bind "x" (bind "x" (bind "x" (bind "x" (bind "x" (bind "x" (bind "x" (bind "x" (bind "x" (bind "x" (bind "x" (bind "x" (bind "x" (bind "x" (bind "x" (bind "x" (bind "x" (bind "x" (bind "x" (bind "x" (bind "x" (bind "x" (bind "x" (bind "x" (eint 1) (ev "x")) (ev "x")) (ev "x")) (ev "x")) (ev "x")) (ev "x")) (ev "x")) (ev "x")) (ev "x")) (ev "x")) (ev "x")) (ev "x")) (ev "x")) (ev "x")) (ev "x")) (ev "x")) (ev "x")) (ev "x")) (ev "x")) (ev "x")) (ev "x")) (ev "x")) (ev "x")) (ev "x")) (ev "x")) (ev "x")) (ev "x")) (ev "x")) (ev "x")) (ev "x")) (ev "x")) (ev "x")) (ev "x")) (ev "x")) (ev "x")) (ev "x")) (ev "x")) (ev "x")) (ev "x")) (ev "x")) (ev "x")) (ev "x")) (ev "x")) (ev "x")) (ev "x")) (ev "x")) (ev "x")) (ev "x")) (ev "x")) (ev "x")) (ev "x")) (ev "x")) (ev "x")) (ev "x")) (ev "x")) (ev "x")) (ev "x")) (ev "x")) (ev "x")) (ev "x")) (ev "x")) (ev "x")) (ev "x")) (ev "x")) (ev "x")) (ev "x")) (ev "x")) (ev "x")) (ev "x")) (ev "x")) (ev "x")) (ev "x")) (ev "x")) (ev "x")) (ev "x")) (ev "x")) (ev "x")) (ev "x")) (ev "x")) (ev "x")) (ev "x")) (ev "x")) (ev "x")) (ev "x")) (ev "x")) (ev "x")) (ev "x")) (ev "x")) (ev "x")) (ev "x")) (ev "x")) (ev "x")) (ev "x")) (ev "x")) (ev "x")) (ev "x")) (ev "x")) (ev "x")) (ev "x")) (ev "x")) (ev "x")) (ev "x")) (ev "x")) (ev "x")) (ev "x")) (ev "x")) (ev "x")) (ev "x")) (ev "x")) (ev "x")) (ev "x")) (ev "x")) (ev "x")) (ev "x")) (ev "x")) (ev "x")) (ev "x")) (ev "x")) (ev "x")) (ev "x")) (ev "x")) (ev "x")) (ev "x")) (ev "x")) (ev "x")) (ev "x")) (ev "x")) (ev "x")) (ev "x")) (ev "x")) (ev "x")) (ev "x")) (ev "x")) (ev "x")) (ev "x")) (ev "x")) (ev "x")) (ev "x")) (ev "x")) (ev "x")) (ev "x")) (ev "x")) (ev "x")) (ev "x")) (ev "x")) (ev "x")) (ev "x")) (ev "x")) (ev "x")) (ev "x")) (ev "x")) (ev "x")) (ev "x")) (ev "x")) (ev "x")) (ev "x")) (ev "x")) (ev "x")) (ev "x")) (ev "x")) (ev "x")) (ev "x")) (ev "x")) (ev "x")) (ev "x")) (ev "x")) (ev "x")) (ev "x")) (ev "x")) (ev "x")) (ev "x")) (ev "x")) (ev "x")) (ev "x")) (ev "x")) (ev "x")) (ev "x")) (ev "x")) (ev "x")) (ev "x")) (ev "x")) (ev "x")) (ev "x")) (ev "x")) (ev "x")) (ev "x")) (ev "x")) (ev "x")) (ev "x")) (ev "x")) (ev "x")) (ev "x")) (ev "x")) (ev "x")) (ev "x")) (ev "x")) (ev "x")) (ev "x")) (ev "x")) (ev "x")) (ev "x")) (ev "x")) (ev "x")) (ev "x")) (ev "x")) (ev "x")) (ev "x")) (ev "x")) (ev "x")) (ev "x")) (ev "x")) (ev "x")) (ev "x")) (ev "x")) (ev "x")) (ev "x")) (ev "x")) (ev "x")) (ev "x")) (ev "x")) (ev "x")) (ev "x")) (ev "x")) (ev "x")) (ev "x")) (ev "x")) (ev "x")) (ev "x")) (ev "x")) (ev "x")) (ev "x")) (ev "x")) (ev "x")) (ev "x")) (ev "x")) (ev "x")) (ev "x")) (ev "x")) (ev "x")) (ev "x")) (ev "x")) (ev "x")) (ev "x")) (ev "x")) (ev "x")) (ev "x")) (ev "x")) (ev "x")) (ev "x")) (ev "x")) (ev "x")) (ev "x")) (ev "x")) (ev "x")) (ev "x")) (ev "x"))
    ∷ []

c_depth_let_computed : metered 512 65536 512 c_depth_let ≡ said "declarations 6\n0 6 - | 512 33 0 0\n1 6 - | 512 33 0 0\n2 6 - | 512 33 0 0\n3 6 - | 512 33 0 0\n4 6 - | 512 33 0 0\n5 7 - | 256 33 0 0\n"
unfolding everything metered said
c_depth_let_computed = refl

abbrev c_depth_method : List Decl
c_depth_method =
    class "N" "a" [] (sig "zero" (v "a") ∷ []) (body "zero" (eint 1) ∷ [])
    ∷ instance [] "N" (c "Bool" nil) []
    ∷ check (eapp (ev "primNotBool") (eapp (ev "primNotBool") (eapp (ev "primNotBool") (eapp (ev "primNotBool") (eapp (ev "primNotBool") (eapp (ev "primNotBool") (eapp (ev "primNotBool") (eapp (ev "primNotBool") (eapp (ev "primNotBool") (eapp (ev "primNotBool") (eapp (ev "primNotBool") (eapp (ev "primNotBool") (eapp (ev "primNotBool") (eapp (ev "primNotBool") (eapp (ev "primNotBool") (eapp (ev "primNotBool") (eapp (ev "primNotBool") (eapp (ev "primNotBool") (eapp (ev "primNotBool") (eapp (ev "primNotBool") (eapp (ev "primNotBool") (eapp (ev "primNotBool") (eapp (ev "primNotBool") (eapp (ev "primNotBool") (eapp (ev "primNotBool") (eapp (ev "primNotBool") (eapp (ev "primNotBool") (eapp (ev "primNotBool") (eapp (ev "primNotBool") (eapp (ev "primNotBool") (eapp (ev "primNotBool") (eapp (ev "primNotBool") (eapp (ev "primNotBool") (eapp (ev "primNotBool") (eapp (ev "primNotBool") (eapp (ev "primNotBool") (eapp (ev "primNotBool") (eapp (ev "primNotBool") (eapp (ev "primNotBool") (eapp (ev "primNotBool") (eapp (ev "primNotBool") (eapp (ev "primNotBool") (eapp (ev "primNotBool") (eapp (ev "primNotBool") (eapp (ev "primNotBool") (eapp (ev "primNotBool") (eapp (ev "primNotBool") (eapp (ev "primNotBool") (eapp (ev "primNotBool") (eapp (ev "primNotBool") (eapp (ev "primNotBool") (eapp (ev "primNotBool") (eapp (ev "primNotBool") (eapp (ev "primNotBool") (eapp (ev "primNotBool") (eapp (ev "primNotBool") (eapp (ev "primNotBool") (eapp (ev "primNotBool") (eapp (ev "primNotBool") (eapp (ev "primNotBool") (eapp (ev "primNotBool") (eapp (ev "primNotBool") (eapp (ev "primNotBool") (eapp (ev "primNotBool") (eapp (ev "primNotBool") (eapp (ev "primNotBool") (eapp (ev "primNotBool") (eapp (ev "primNotBool") (eapp (ev "primNotBool") (eapp (ev "primNotBool") (eapp (ev "primNotBool") (eapp (ev "primNotBool") (eapp (ev "primNotBool") (eapp (ev "primNotBool") (eapp (ev "primNotBool") (eapp (ev "primNotBool") (eapp (ev "primNotBool") (eapp (ev "primNotBool") (eapp (ev "primNotBool") (eapp (ev "primNotBool") (eapp (ev "primNotBool") (eapp (ev "primNotBool") (eapp (ev "primNotBool") (eapp (ev "primNotBool") (eapp (ev "primNotBool") (eapp (ev "primNotBool") (eapp (ev "primNotBool") (eapp (ev "primNotBool") (eapp (ev "primNotBool") (eapp (ev "primNotBool") (eapp (ev "primNotBool") (eapp (ev "primNotBool") (eapp (ev "primNotBool") (eapp (ev "primNotBool") (eapp (ev "primNotBool") (eapp (ev "primNotBool") (eapp (ev "primNotBool") (eapp (ev "primNotBool") (eapp (ev "primNotBool") (eapp (ev "primNotBool") (eapp (ev "primNotBool") (eapp (ev "primNotBool") (eapp (ev "primNotBool") (eapp (ev "primNotBool") (eapp (ev "primNotBool") (eapp (ev "primNotBool") (eapp (ev "primNotBool") (eapp (ev "primNotBool") (eapp (ev "primNotBool") (eapp (ev "primNotBool") (eapp (ev "primNotBool") (eapp (ev "primNotBool") (eapp (ev "primNotBool") (eapp (ev "primNotBool") (eapp (ev "primNotBool") (eapp (ev "primNotBool") (eapp (ev "primNotBool") (eapp (ev "primNotBool") (eapp (ev "primNotBool") (eapp (ev "primNotBool") (eapp (ev "primNotBool") (eapp (ev "primNotBool") (eapp (ev "primNotBool") (eapp (ev "primNotBool") (eapp (ev "primNotBool") (eapp (ev "primNotBool") (eapp (ev "primNotBool") (eapp (ev "primNotBool") (eapp (ev "primNotBool") (eapp (ev "primNotBool") (eapp (ev "primNotBool") (eapp (ev "primNotBool") (eapp (ev "primNotBool") (eapp (ev "primNotBool") (eapp (ev "primNotBool") (eapp (ev "primNotBool") (eapp (ev "primNotBool") (eapp (ev "primNotBool") (eapp (ev "primNotBool") (eapp (ev "primNotBool") (eapp (ev "primNotBool") (eapp (ev "primNotBool") (eapp (ev "primNotBool") (eapp (ev "primNotBool") (eapp (ev "primNotBool") (eapp (ev "primNotBool") (eapp (ev "primNotBool") (eapp (ev "primNotBool") (eapp (ev "primNotBool") (eapp (ev "primNotBool") (eapp (ev "primNotBool") (eapp (ev "primNotBool") (eapp (ev "primNotBool") (eapp (ev "primNotBool") (eapp (ev "primNotBool") (eapp (ev "primNotBool") (eapp (ev "primNotBool") (eapp (ev "primNotBool") (eapp (ev "primNotBool") (eapp (ev "primNotBool") (eapp (ev "primNotBool") (eapp (ev "primNotBool") (eapp (ev "primNotBool") (eapp (ev "primNotBool") (eapp (ev "primNotBool") (eapp (ev "primNotBool") (eapp (ev "primNotBool") (eapp (ev "primNotBool") (eapp (ev "primNotBool") (eapp (ev "primNotBool") (eapp (ev "primNotBool") (eapp (ev "primNotBool") (eapp (ev "primNotBool") (eapp (ev "primNotBool") (eapp (ev "primNotBool") (eapp (ev "primNotBool") (eapp (ev "primNotBool") (eapp (ev "primNotBool") (eapp (ev "primNotBool") (eapp (ev "primNotBool") (eapp (ev "primNotBool") (eapp (ev "primNotBool") (eapp (ev "primNotBool") (eapp (ev "primNotBool") (eapp (ev "primNotBool") (eapp (ev "primNotBool") (eapp (ev "primNotBool") (eapp (ev "primNotBool") (eapp (ev "primNotBool") (eapp (ev "primNotBool") (eapp (ev "primNotBool") (eapp (ev "primNotBool") (eapp (ev "primNotBool") (eapp (ev "primNotBool") (eapp (ev "primNotBool") (eapp (ev "primNotBool") (eapp (ev "primNotBool") (eapp (ev "primNotBool") (eapp (ev "primNotBool") (eapp (ev "primNotBool") (eapp (ev "primNotBool") (eapp (ev "primNotBool") (eapp (ev "primNotBool") (eapp (ev "primNotBool") (eapp (ev "primNotBool") (eapp (ev "primNotBool") (eapp (ev "primNotBool") (eapp (ev "primNotBool") (eapp (ev "primNotBool") (eapp (ev "primNotBool") (eapp (ev "primNotBool") (eapp (ev "primNotBool") (eapp (ev "primNotBool") (eapp (ev "primNotBool") (eapp (ev "primNotBool") (eapp (ev "primNotBool") (eapp (ev "primNotBool") (eapp (ev "primNotBool") (eapp (ev "primNotBool") (eapp (ev "primNotBool") (eapp (ev "primNotBool") (eapp (ev "primNotBool") (eapp (ev "primNotBool") (eapp (ev "primNotBool") (eapp (ev "primNotBool") (eapp (ev "primNotBool") (eapp (ev "primNotBool") (eapp (ev "primNotBool") (eapp (ev "primNotBool") (eapp (ev "primNotBool") (eapp (ev "primNotBool") (eapp (ev "primNotBool") (eapp (ev "primNotBool") (eapp (ev "primNotBool") (eapp (ev "primNotBool") (eapp (ev "primNotBool") (eapp (ev "primNotBool") (eapp (ev "primNotBool") (eapp (ev "primNotBool") (eapp (ev "primNotBool") (eapp (ev "primNotBool") (eapp (ev "primNotBool") (eapp (ev "primNotBool") (eapp (ev "primNotBool") (eapp (ev "primNotBool") (eapp (ev "primNotBool") (eapp (ev "primNotBool") (eapp (ev "primNotBool") (eapp (ev "primNotBool") (eapp (ev "primNotBool") (eapp (ev "primNotBool") (eapp (ev "primNotBool") (eapp (ev "primNotBool") (ev "zero"))))))))))))))))))))))))))))))))))))))))))))))))))))))))))))))))))))))))))))))))))))))))))))))))))))))))))))))))))))))))))))))))))))))))))))))))))))))))))))))))))))))))))))))))))))))))))))))))))))))))))))))))))))))))))))))))))))))))))))))))))))))))))))))
    ∷ check (eapp (ev "primNotBool") (eapp (ev "primNotBool") (eapp (ev "primNotBool") (eapp (ev "primNotBool") (eapp (ev "primNotBool") (eapp (ev "primNotBool") (eapp (ev "primNotBool") (eapp (ev "primNotBool") (eapp (ev "primNotBool") (eapp (ev "primNotBool") (eapp (ev "primNotBool") (eapp (ev "primNotBool") (eapp (ev "primNotBool") (eapp (ev "primNotBool") (eapp (ev "primNotBool") (eapp (ev "primNotBool") (eapp (ev "primNotBool") (eapp (ev "primNotBool") (eapp (ev "primNotBool") (eapp (ev "primNotBool") (eapp (ev "primNotBool") (eapp (ev "primNotBool") (eapp (ev "primNotBool") (eapp (ev "primNotBool") (eapp (ev "primNotBool") (eapp (ev "primNotBool") (eapp (ev "primNotBool") (eapp (ev "primNotBool") (eapp (ev "primNotBool") (eapp (ev "primNotBool") (eapp (ev "primNotBool") (eapp (ev "primNotBool") (eapp (ev "primNotBool") (eapp (ev "primNotBool") (eapp (ev "primNotBool") (eapp (ev "primNotBool") (eapp (ev "primNotBool") (eapp (ev "primNotBool") (eapp (ev "primNotBool") (eapp (ev "primNotBool") (eapp (ev "primNotBool") (eapp (ev "primNotBool") (eapp (ev "primNotBool") (eapp (ev "primNotBool") (eapp (ev "primNotBool") (eapp (ev "primNotBool") (eapp (ev "primNotBool") (eapp (ev "primNotBool") (eapp (ev "primNotBool") (eapp (ev "primNotBool") (eapp (ev "primNotBool") (eapp (ev "primNotBool") (eapp (ev "primNotBool") (eapp (ev "primNotBool") (eapp (ev "primNotBool") (eapp (ev "primNotBool") (eapp (ev "primNotBool") (eapp (ev "primNotBool") (eapp (ev "primNotBool") (eapp (ev "primNotBool") (eapp (ev "primNotBool") (eapp (ev "primNotBool") (eapp (ev "primNotBool") (eapp (ev "primNotBool") (eapp (ev "primNotBool") (eapp (ev "primNotBool") (eapp (ev "primNotBool") (eapp (ev "primNotBool") (eapp (ev "primNotBool") (eapp (ev "primNotBool") (eapp (ev "primNotBool") (eapp (ev "primNotBool") (eapp (ev "primNotBool") (eapp (ev "primNotBool") (eapp (ev "primNotBool") (eapp (ev "primNotBool") (eapp (ev "primNotBool") (eapp (ev "primNotBool") (eapp (ev "primNotBool") (eapp (ev "primNotBool") (eapp (ev "primNotBool") (eapp (ev "primNotBool") (eapp (ev "primNotBool") (eapp (ev "primNotBool") (eapp (ev "primNotBool") (eapp (ev "primNotBool") (eapp (ev "primNotBool") (eapp (ev "primNotBool") (eapp (ev "primNotBool") (eapp (ev "primNotBool") (eapp (ev "primNotBool") (eapp (ev "primNotBool") (eapp (ev "primNotBool") (eapp (ev "primNotBool") (eapp (ev "primNotBool") (eapp (ev "primNotBool") (eapp (ev "primNotBool") (eapp (ev "primNotBool") (eapp (ev "primNotBool") (eapp (ev "primNotBool") (eapp (ev "primNotBool") (eapp (ev "primNotBool") (eapp (ev "primNotBool") (eapp (ev "primNotBool") (eapp (ev "primNotBool") (eapp (ev "primNotBool") (eapp (ev "primNotBool") (eapp (ev "primNotBool") (eapp (ev "primNotBool") (eapp (ev "primNotBool") (eapp (ev "primNotBool") (eapp (ev "primNotBool") (eapp (ev "primNotBool") (eapp (ev "primNotBool") (eapp (ev "primNotBool") (eapp (ev "primNotBool") (eapp (ev "primNotBool") (eapp (ev "primNotBool") (eapp (ev "primNotBool") (eapp (ev "primNotBool") (eapp (ev "primNotBool") (eapp (ev "primNotBool") (eapp (ev "primNotBool") (eapp (ev "primNotBool") (eapp (ev "primNotBool") (eapp (ev "primNotBool") (eapp (ev "primNotBool") (eapp (ev "primNotBool") (eapp (ev "primNotBool") (eapp (ev "primNotBool") (eapp (ev "primNotBool") (eapp (ev "primNotBool") (eapp (ev "primNotBool") (eapp (ev "primNotBool") (eapp (ev "primNotBool") (eapp (ev "primNotBool") (eapp (ev "primNotBool") (eapp (ev "primNotBool") (eapp (ev "primNotBool") (eapp (ev "primNotBool") (eapp (ev "primNotBool") (eapp (ev "primNotBool") (eapp (ev "primNotBool") (eapp (ev "primNotBool") (eapp (ev "primNotBool") (eapp (ev "primNotBool") (eapp (ev "primNotBool") (eapp (ev "primNotBool") (eapp (ev "primNotBool") (eapp (ev "primNotBool") (eapp (ev "primNotBool") (eapp (ev "primNotBool") (eapp (ev "primNotBool") (eapp (ev "primNotBool") (eapp (ev "primNotBool") (eapp (ev "primNotBool") (eapp (ev "primNotBool") (eapp (ev "primNotBool") (eapp (ev "primNotBool") (eapp (ev "primNotBool") (eapp (ev "primNotBool") (eapp (ev "primNotBool") (eapp (ev "primNotBool") (eapp (ev "primNotBool") (eapp (ev "primNotBool") (eapp (ev "primNotBool") (eapp (ev "primNotBool") (eapp (ev "primNotBool") (eapp (ev "primNotBool") (eapp (ev "primNotBool") (eapp (ev "primNotBool") (eapp (ev "primNotBool") (eapp (ev "primNotBool") (eapp (ev "primNotBool") (eapp (ev "primNotBool") (eapp (ev "primNotBool") (eapp (ev "primNotBool") (eapp (ev "primNotBool") (eapp (ev "primNotBool") (eapp (ev "primNotBool") (eapp (ev "primNotBool") (eapp (ev "primNotBool") (eapp (ev "primNotBool") (eapp (ev "primNotBool") (eapp (ev "primNotBool") (eapp (ev "primNotBool") (eapp (ev "primNotBool") (eapp (ev "primNotBool") (eapp (ev "primNotBool") (eapp (ev "primNotBool") (eapp (ev "primNotBool") (eapp (ev "primNotBool") (eapp (ev "primNotBool") (eapp (ev "primNotBool") (eapp (ev "primNotBool") (eapp (ev "primNotBool") (eapp (ev "primNotBool") (eapp (ev "primNotBool") (eapp (ev "primNotBool") (eapp (ev "primNotBool") (eapp (ev "primNotBool") (eapp (ev "primNotBool") (eapp (ev "primNotBool") (eapp (ev "primNotBool") (eapp (ev "primNotBool") (eapp (ev "primNotBool") (eapp (ev "primNotBool") (eapp (ev "primNotBool") (eapp (ev "primNotBool") (eapp (ev "primNotBool") (eapp (ev "primNotBool") (eapp (ev "primNotBool") (eapp (ev "primNotBool") (eapp (ev "primNotBool") (eapp (ev "primNotBool") (eapp (ev "primNotBool") (eapp (ev "primNotBool") (eapp (ev "primNotBool") (eapp (ev "primNotBool") (eapp (ev "primNotBool") (eapp (ev "primNotBool") (eapp (ev "primNotBool") (eapp (ev "primNotBool") (eapp (ev "primNotBool") (eapp (ev "primNotBool") (eapp (ev "primNotBool") (eapp (ev "primNotBool") (eapp (ev "primNotBool") (eapp (ev "primNotBool") (eapp (ev "primNotBool") (eapp (ev "primNotBool") (eapp (ev "primNotBool") (eapp (ev "primNotBool") (eapp (ev "primNotBool") (eapp (ev "primNotBool") (eapp (ev "primNotBool") (eapp (ev "primNotBool") (eapp (ev "primNotBool") (eapp (ev "primNotBool") (eapp (ev "primNotBool") (eapp (ev "primNotBool") (eapp (ev "primNotBool") (eapp (ev "primNotBool") (eapp (ev "primNotBool") (eapp (ev "primNotBool") (eapp (ev "primNotBool") (eapp (ev "primNotBool") (eapp (ev "primNotBool") (eapp (ev "primNotBool") (eapp (ev "primNotBool") (eapp (ev "primNotBool") (eapp (ev "primNotBool") (eapp (ev "primNotBool") (eapp (ev "primNotBool") (ev "zero")))))))))))))))))))))))))))))))))))))))))))))))))))))))))))))))))))))))))))))))))))))))))))))))))))))))))))))))))))))))))))))))))))))))))))))))))))))))))))))))))))))))))))))))))))))))))))))))))))))))))))))))))))))))))))))))))))))))))))))))))))))))))))))))
    ∷ check (eapp (ev "primNotBool") (eapp (ev "primNotBool") (eapp (ev "primNotBool") (eapp (ev "primNotBool") (eapp (ev "primNotBool") (eapp (ev "primNotBool") (eapp (ev "primNotBool") (eapp (ev "primNotBool") (eapp (ev "primNotBool") (eapp (ev "primNotBool") (eapp (ev "primNotBool") (eapp (ev "primNotBool") (eapp (ev "primNotBool") (eapp (ev "primNotBool") (eapp (ev "primNotBool") (eapp (ev "primNotBool") (eapp (ev "primNotBool") (eapp (ev "primNotBool") (eapp (ev "primNotBool") (eapp (ev "primNotBool") (eapp (ev "primNotBool") (eapp (ev "primNotBool") (eapp (ev "primNotBool") (eapp (ev "primNotBool") (eapp (ev "primNotBool") (eapp (ev "primNotBool") (eapp (ev "primNotBool") (eapp (ev "primNotBool") (eapp (ev "primNotBool") (eapp (ev "primNotBool") (eapp (ev "primNotBool") (eapp (ev "primNotBool") (eapp (ev "primNotBool") (eapp (ev "primNotBool") (eapp (ev "primNotBool") (eapp (ev "primNotBool") (eapp (ev "primNotBool") (eapp (ev "primNotBool") (eapp (ev "primNotBool") (eapp (ev "primNotBool") (eapp (ev "primNotBool") (eapp (ev "primNotBool") (eapp (ev "primNotBool") (eapp (ev "primNotBool") (eapp (ev "primNotBool") (eapp (ev "primNotBool") (eapp (ev "primNotBool") (eapp (ev "primNotBool") (eapp (ev "primNotBool") (eapp (ev "primNotBool") (eapp (ev "primNotBool") (eapp (ev "primNotBool") (eapp (ev "primNotBool") (eapp (ev "primNotBool") (eapp (ev "primNotBool") (eapp (ev "primNotBool") (eapp (ev "primNotBool") (eapp (ev "primNotBool") (eapp (ev "primNotBool") (eapp (ev "primNotBool") (eapp (ev "primNotBool") (eapp (ev "primNotBool") (eapp (ev "primNotBool") (eapp (ev "primNotBool") (eapp (ev "primNotBool") (eapp (ev "primNotBool") (eapp (ev "primNotBool") (eapp (ev "primNotBool") (eapp (ev "primNotBool") (eapp (ev "primNotBool") (eapp (ev "primNotBool") (eapp (ev "primNotBool") (eapp (ev "primNotBool") (eapp (ev "primNotBool") (eapp (ev "primNotBool") (eapp (ev "primNotBool") (eapp (ev "primNotBool") (eapp (ev "primNotBool") (eapp (ev "primNotBool") (eapp (ev "primNotBool") (eapp (ev "primNotBool") (eapp (ev "primNotBool") (eapp (ev "primNotBool") (eapp (ev "primNotBool") (eapp (ev "primNotBool") (eapp (ev "primNotBool") (eapp (ev "primNotBool") (eapp (ev "primNotBool") (eapp (ev "primNotBool") (eapp (ev "primNotBool") (eapp (ev "primNotBool") (eapp (ev "primNotBool") (eapp (ev "primNotBool") (eapp (ev "primNotBool") (eapp (ev "primNotBool") (eapp (ev "primNotBool") (eapp (ev "primNotBool") (eapp (ev "primNotBool") (eapp (ev "primNotBool") (eapp (ev "primNotBool") (eapp (ev "primNotBool") (eapp (ev "primNotBool") (eapp (ev "primNotBool") (eapp (ev "primNotBool") (eapp (ev "primNotBool") (eapp (ev "primNotBool") (eapp (ev "primNotBool") (eapp (ev "primNotBool") (eapp (ev "primNotBool") (eapp (ev "primNotBool") (eapp (ev "primNotBool") (eapp (ev "primNotBool") (eapp (ev "primNotBool") (eapp (ev "primNotBool") (eapp (ev "primNotBool") (eapp (ev "primNotBool") (eapp (ev "primNotBool") (eapp (ev "primNotBool") (eapp (ev "primNotBool") (eapp (ev "primNotBool") (eapp (ev "primNotBool") (eapp (ev "primNotBool") (eapp (ev "primNotBool") (eapp (ev "primNotBool") (eapp (ev "primNotBool") (eapp (ev "primNotBool") (eapp (ev "primNotBool") (eapp (ev "primNotBool") (eapp (ev "primNotBool") (eapp (ev "primNotBool") (eapp (ev "primNotBool") (eapp (ev "primNotBool") (eapp (ev "primNotBool") (eapp (ev "primNotBool") (eapp (ev "primNotBool") (eapp (ev "primNotBool") (eapp (ev "primNotBool") (eapp (ev "primNotBool") (eapp (ev "primNotBool") (eapp (ev "primNotBool") (eapp (ev "primNotBool") (eapp (ev "primNotBool") (eapp (ev "primNotBool") (eapp (ev "primNotBool") (eapp (ev "primNotBool") (eapp (ev "primNotBool") (eapp (ev "primNotBool") (eapp (ev "primNotBool") (eapp (ev "primNotBool") (eapp (ev "primNotBool") (eapp (ev "primNotBool") (eapp (ev "primNotBool") (eapp (ev "primNotBool") (eapp (ev "primNotBool") (eapp (ev "primNotBool") (eapp (ev "primNotBool") (eapp (ev "primNotBool") (eapp (ev "primNotBool") (eapp (ev "primNotBool") (eapp (ev "primNotBool") (eapp (ev "primNotBool") (eapp (ev "primNotBool") (eapp (ev "primNotBool") (eapp (ev "primNotBool") (eapp (ev "primNotBool") (eapp (ev "primNotBool") (eapp (ev "primNotBool") (eapp (ev "primNotBool") (eapp (ev "primNotBool") (eapp (ev "primNotBool") (eapp (ev "primNotBool") (eapp (ev "primNotBool") (eapp (ev "primNotBool") (eapp (ev "primNotBool") (eapp (ev "primNotBool") (eapp (ev "primNotBool") (eapp (ev "primNotBool") (eapp (ev "primNotBool") (eapp (ev "primNotBool") (eapp (ev "primNotBool") (eapp (ev "primNotBool") (eapp (ev "primNotBool") (eapp (ev "primNotBool") (eapp (ev "primNotBool") (eapp (ev "primNotBool") (eapp (ev "primNotBool") (eapp (ev "primNotBool") (eapp (ev "primNotBool") (eapp (ev "primNotBool") (eapp (ev "primNotBool") (eapp (ev "primNotBool") (eapp (ev "primNotBool") (eapp (ev "primNotBool") (eapp (ev "primNotBool") (eapp (ev "primNotBool") (eapp (ev "primNotBool") (eapp (ev "primNotBool") (eapp (ev "primNotBool") (eapp (ev "primNotBool") (eapp (ev "primNotBool") (eapp (ev "primNotBool") (eapp (ev "primNotBool") (eapp (ev "primNotBool") (eapp (ev "primNotBool") (eapp (ev "primNotBool") (eapp (ev "primNotBool") (eapp (ev "primNotBool") (eapp (ev "primNotBool") (eapp (ev "primNotBool") (eapp (ev "primNotBool") (eapp (ev "primNotBool") (eapp (ev "primNotBool") (eapp (ev "primNotBool") (eapp (ev "primNotBool") (eapp (ev "primNotBool") (eapp (ev "primNotBool") (eapp (ev "primNotBool") (eapp (ev "primNotBool") (eapp (ev "primNotBool") (eapp (ev "primNotBool") (eapp (ev "primNotBool") (eapp (ev "primNotBool") (eapp (ev "primNotBool") (eapp (ev "primNotBool") (eapp (ev "primNotBool") (eapp (ev "primNotBool") (eapp (ev "primNotBool") (eapp (ev "primNotBool") (eapp (ev "primNotBool") (eapp (ev "primNotBool") (eapp (ev "primNotBool") (eapp (ev "primNotBool") (eapp (ev "primNotBool") (eapp (ev "primNotBool") (eapp (ev "primNotBool") (eapp (ev "primNotBool") (eapp (ev "primNotBool") (eapp (ev "primNotBool") (eapp (ev "primNotBool") (eapp (ev "primNotBool") (eapp (ev "primNotBool") (eapp (ev "primNotBool") (eapp (ev "primNotBool") (eapp (ev "primNotBool") (eapp (ev "primNotBool") (eapp (ev "primNotBool") (eapp (ev "primNotBool") (eapp (ev "primNotBool") (eapp (ev "primNotBool") (eapp (ev "primNotBool") (eapp (ev "primNotBool") (eapp (ev "primNotBool") (eapp (ev "primNotBool") (eapp (ev "primNotBool") (eapp (ev "primNotBool") (ev "zero"))))))))))))))))))))))))))))))))))))))))))))))))))))))))))))))))))))))))))))))))))))))))))))))))))))))))))))))))))))))))))))))))))))))))))))))))))))))))))))))))))))))))))))))))))))))))))))))))))))))))))))))))))))))))))))))))))))))))))))))))))))))))))))))))
    ∷ []

c_depth_method_computed : metered 512 65536 512 c_depth_method ≡ said "declarations 5\n0 0 - | 3 36 0 0\n1 0 - | 4 38 0 0\n2 6 - | 512 38 0 0\n3 6 - | 512 38 0 0\n4 6 - | 512 38 0 0\n"
unfolding everything metered said
c_depth_method_computed = refl
