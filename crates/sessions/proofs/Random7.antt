-- Recorded sessions, computed: text, steps, kept nodes and both counters. (tools/session_test.py)
use mathlib.Core.Path.{◌≡◌, refl}
use mathlib.Core.Bool.{true, false}
use mathlib.Core.List.{List, [], ◌∷◌}
use Rattle.meaning.specs.Ast.{Ty, arrow, Expr, eint, ebool, eapp, Decl, nil, ◌◂◌}
use Rattle.meaning.proofs.Metered.{everything, metered, said}
use Rattle.meaning.proofs.Written.{v, c, ev, lam, bind, class, instance, define, check, at, sig, body}

abbrev x_5005578 : List Decl
x_5005578 =
    class "Ord" "a" [] (sig "use1" (c "List" ((v "a") ◂ nil)) ∷ []) []
    ∷ define "primAndBool" (lam "x" (eapp (ev "primAndBool") (ev "x")))
    ∷ check (eapp (eapp (eapp (lam "y" (lam "z" (bind "f" (ev "use1") (ev "use1")))) (ebool true)) (ebool true)) (ev "use1"))
    ∷ check (ebool true)
    ∷ []

x_5005578_computed : metered 512 65536 512 x_5005578 ≡ said "declarations 4\n0 0 - | 5 38 0 0\n1 0 [] (-> Bool (-> Bool Bool)) | 44 38 2 0\n2 12 (List t8) (-> (List t9) t2) | 77 38 2 0\n3 0 [] Bool = true | 5 38 2 0\n"
unfolding everything metered said
x_5005578_computed = refl

abbrev x_5005944 : List Decl
x_5005944 =
    class "Big" "a" [] (sig "big" (arrow (v "a") (c "Pair" ((arrow (v "a") (v "a")) ◂ (arrow (v "a") (v "a")) ◂ nil))) ∷ []) (body "big" (lam "x" (ev "x")) ∷ [])
    ∷ instance [] "Big" (c "Pair" ((arrow (v "a") (v "a")) ◂ (arrow (v "a") (v "a")) ◂ nil)) []
    ∷ instance [] "Big" (c "Int" nil) []
    ∷ check (eapp (ev "big") (eint 1))
    ∷ check (eapp (ev "big") (eapp (ev "big") (eint 1)))
    ∷ check (lam "x" (eapp (ev "big") (ev "x")))
    ∷ check (bind "Big" (lam "x" (lam "s" (eapp (eapp (ev "s") (ev "x")) (ev "x")))) (eapp (ev "f") (eapp (ev "f") (eapp (ev "f") (eapp (ev "f") (eapp (ev "f") (eint 1)))))))
    ∷ []

x_5005944_computed : metered 512 65536 512 x_5005944 ≡ said "declarations 7\n0 0 - | 19 52 0 0\n1 0 - | 15 61 1 0\n2 0 - | 11 64 2 0\n3 0 [] (Pair (-> Int Int) (-> Int Int)) = (app (proj (rec Big Int) big) 1) | 64 64 4 1\n4 0 [] (Pair (-> (Pair (-> Int Int) (-> Int Int)) (Pair (-> Int Int) (-> Int Int))) (-> (Pair (-> Int Int) (-> Int Int)) (Pair (-> Int Int) (-> Int Int)))) = (app (proj (rec Big (Pair (-> Int Int) (-> Int Int))) big) (app (proj (rec Big Int) big) 1)) | 197 64 8 3\n5 0 [Big a] (-> a (Pair (-> a a) (-> a a))) = (dabs [d3 Big a] (lam x (app (proj d3 big) x))) | 72 64 11 4\n6 11 f | 54 64 11 4\n"
unfolding everything metered said
x_5005944_computed = refl

abbrev x_5007678 : List Decl
x_5007678 =
    class "Bag" "a" [] (sig "nil" (arrow (c "List" nil) (v "a")) ∷ sig "shw" (arrow (c "Int" nil) (v "a")) ∷ []) []
    ∷ class "Eq" "a" ("Bag" ∷ "Bag" ∷ []) [] []
    ∷ check (eapp (ev "primLtInt") (eint 7))
    ∷ class "Show" "a" [] (sig "mk" (arrow (v "a") (arrow (v "a") (c "Bool" nil))) ∷ []) (body "mk" (lam "x" (lam "w" (ebool false))) ∷ [])
    ∷ instance [] "Show" (c "Int" nil) []
    ∷ []

x_5007678_computed : metered 512 65536 512 x_5007678 ≡ said "declarations 5\n0 0 - | 14 47 0 0\n1 0 - | 0 47 0 0\n2 0 [] (-> Int Bool) = (app primLtInt 7) | 33 47 1 0\n3 0 - | 11 58 1 0\n4 0 - | 12 62 3 0\n"
unfolding everything metered said
x_5007678_computed = refl
