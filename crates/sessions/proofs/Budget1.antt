-- Recorded sessions, computed: text, steps, kept nodes and both counters. (tools/session_test.py)
use mathlib.Core.Path.{◌≡◌, refl}
use mathlib.Core.Bool.{true, false}
use mathlib.Core.List.{List, [], ◌∷◌}
use Rattle.meaning.specs.Ast.{Ty, arrow, Expr, eint, ebool, eapp, Decl, nil, ◌◂◌}
use Rattle.meaning.proofs.Metered.{everything, metered, said}
use Rattle.meaning.proofs.Written.{v, c, ev, lam, bind, class, instance, define, check, at, sig, body}

abbrev b_5000404 : List Decl
b_5000404 =
    class "Deep" "a" [] (sig "f0" (arrow (arrow (arrow (arrow (arrow (arrow (arrow (arrow (arrow (arrow (arrow (arrow (arrow (arrow (arrow (arrow (arrow (arrow (arrow (arrow (arrow (arrow (arrow (arrow (arrow (arrow (arrow (arrow (arrow (arrow (arrow (arrow (arrow (arrow (arrow (arrow (arrow (arrow (arrow (arrow (arrow (arrow (arrow (arrow (arrow (arrow (arrow (arrow (arrow (arrow (arrow (arrow (arrow (arrow (arrow (arrow (arrow (arrow (arrow (arrow (arrow (arrow (arrow (arrow (arrow (arrow (arrow (arrow (arrow (arrow (arrow (arrow (arrow (arrow (arrow (arrow (arrow (arrow (arrow (arrow (arrow (arrow (arrow (arrow (arrow (arrow (arrow (arrow (arrow (arrow (arrow (arrow (arrow (arrow (arrow (arrow (arrow (arrow (arrow (arrow (arrow (arrow (arrow (arrow (arrow (arrow (arrow (arrow (arrow (arrow (arrow (arrow (arrow (arrow (arrow (arrow (arrow (arrow (arrow (arrow (arrow (arrow (arrow (arrow (arrow (arrow (arrow (arrow (arrow (arrow (arrow (arrow (arrow (arrow (arrow (arrow (arrow (arrow (arrow (arrow (arrow (arrow (arrow (arrow (arrow (arrow (arrow (arrow (arrow (v "b") (c "Int" nil)) (c "Int" nil)) (c "Int" nil)) (c "Int" nil)) (c "Int" nil)) (c "Int" nil)) (c "Int" nil)) (c "Int" nil)) (c "Int" nil)) (c "Int" nil)) (c "Int" nil)) (c "Int" nil)) (c "Int" nil)) (c "Int" nil)) (c "Int" nil)) (c "Int" nil)) (c "Int" nil)) (c "Int" nil)) (c "Int" nil)) (c "Int" nil)) (c "Int" nil)) (c "Int" nil)) (c "Int" nil)) (c "Int" nil)) (c "Int" nil)) (c "Int" nil)) (c "Int" nil)) (c "Int" nil)) (c "Int" nil)) (c "Int" nil)) (c "Int" nil)) (c "Int" nil)) (c "Int" nil)) (c "Int" nil)) (c "Int" nil)) (c "Int" nil)) (c "Int" nil)) (c "Int" nil)) (c "Int" nil)) (c "Int" nil)) (c "Int" nil)) (c "Int" nil)) (c "Int" nil)) (c "Int" nil)) (c "Int" nil)) (c "Int" nil)) (c "Int" nil)) (c "Int" nil)) (c "Int" nil)) (c "Int" nil)) (c "Int" nil)) (c "Int" nil)) (c "Int" nil)) (c "Int" nil)) (c "Int" nil)) (c "Int" nil)) (c "Int" nil)) (c "Int" nil)) (c "Int" nil)) (c "Int" nil)) (c "Int" nil)) (c "Int" nil)) (c "Int" nil)) (c "Int" nil)) (c "Int" nil)) (c "Int" nil)) (c "Int" nil)) (c "Int" nil)) (c "Int" nil)) (c "Int" nil)) (c "Int" nil)) (c "Int" nil)) (c "Int" nil)) (c "Int" nil)) (c "Int" nil)) (c "Int" nil)) (c "Int" nil)) (c "Int" nil)) (c "Int" nil)) (c "Int" nil)) (c "Int" nil)) (c "Int" nil)) (c "Int" nil)) (c "Int" nil)) (c "Int" nil)) (c "Int" nil)) (c "Int" nil)) (c "Int" nil)) (c "Int" nil)) (c "Int" nil)) (c "Int" nil)) (c "Int" nil)) (c "Int" nil)) (c "Int" nil)) (c "Int" nil)) (c "Int" nil)) (c "Int" nil)) (c "Int" nil)) (c "Int" nil)) (c "Int" nil)) (c "Int" nil)) (c "Int" nil)) (c "Int" nil)) (c "Int" nil)) (c "Int" nil)) (c "Int" nil)) (c "Int" nil)) (c "Int" nil)) (c "Int" nil)) (c "Int" nil)) (c "Int" nil)) (c "Int" nil)) (c "Int" nil)) (c "Int" nil)) (c "Int" nil)) (c "Int" nil)) (c "Int" nil)) (c "Int" nil)) (c "Int" nil)) (c "Int" nil)) (c "Int" nil)) (c "Int" nil)) (c "Int" nil)) (c "Int" nil)) (c "Int" nil)) (c "Int" nil)) (c "Int" nil)) (c "Int" nil)) (c "Int" nil)) (c "Int" nil)) (c "Int" nil)) (c "Int" nil)) (c "Int" nil)) (c "Int" nil)) (c "Int" nil)) (c "Int" nil)) (c "Int" nil)) (c "Int" nil)) (c "Int" nil)) (c "Int" nil)) (c "Int" nil)) (c "Int" nil)) (c "Int" nil)) (c "Int" nil)) (c "Int" nil)) (c "Int" nil)) (c "Int" nil)) (v "a")) (arrow (v "b") (arrow (arrow (arrow (arrow (arrow (arrow (arrow (arrow (arrow (arrow (arrow (arrow (arrow (arrow (arrow (arrow (arrow (arrow (arrow (arrow (arrow (arrow (arrow (arrow (arrow (arrow (arrow (arrow (arrow (arrow (arrow (arrow (arrow (arrow (arrow (arrow (arrow (arrow (arrow (arrow (arrow (arrow (arrow (arrow (arrow (arrow (arrow (arrow (arrow (arrow (arrow (arrow (arrow (arrow (arrow (arrow (arrow (arrow (arrow (arrow (arrow (arrow (arrow (arrow (arrow (arrow (arrow (arrow (arrow (arrow (arrow (arrow (arrow (arrow (arrow (arrow (arrow (arrow (arrow (arrow (arrow (arrow (arrow (arrow (arrow (arrow (arrow (arrow (arrow (arrow (arrow (arrow (arrow (arrow (arrow (arrow (arrow (arrow (arrow (arrow (arrow (arrow (arrow (arrow (arrow (arrow (arrow (arrow (arrow (arrow (arrow (arrow (arrow (arrow (arrow (arrow (arrow (arrow (arrow (arrow (arrow (arrow (arrow (arrow (arrow (arrow (arrow (arrow (arrow (arrow (arrow (arrow (arrow (arrow (arrow (arrow (arrow (arrow (arrow (arrow (arrow (arrow (arrow (arrow (arrow (arrow (arrow (v "b") (c "Int" nil)) (c "Int" nil)) (c "Int" nil)) (c "Int" nil)) (c "Int" nil)) (c "Int" nil)) (c "Int" nil)) (c "Int" nil)) (c "Int" nil)) (c "Int" nil)) (c "Int" nil)) (c "Int" nil)) (c "Int" nil)) (c "Int" nil)) (c "Int" nil)) (c "Int" nil)) (c "Int" nil)) (c "Int" nil)) (c "Int" nil)) (c "Int" nil)) (c "Int" nil)) (c "Int" nil)) (c "Int" nil)) (c "Int" nil)) (c "Int" nil)) (c "Int" nil)) (c "Int" nil)) (c "Int" nil)) (c "Int" nil)) (c "Int" nil)) (c "Int" nil)) (c "Int" nil)) (c "Int" nil)) (c "Int" nil)) (c "Int" nil)) (c "Int" nil)) (c "Int" nil)) (c "Int" nil)) (c "Int" nil)) (c "Int" nil)) (c "Int" nil)) (c "Int" nil)) (c "Int" nil)) (c "Int" nil)) (c "Int" nil)) (c "Int" nil)) (c "Int" nil)) (c "Int" nil)) (c "Int" nil)) (c "Int" nil)) (c "Int" nil)) (c "Int" nil)) (c "Int" nil)) (c "Int" nil)) (c "Int" nil)) (c "Int" nil)) (c "Int" nil)) (c "Int" nil)) (c "Int" nil)) (c "Int" nil)) (c "Int" nil)) (c "Int" nil)) (c "Int" nil)) (c "Int" nil)) (c "Int" nil)) (c "Int" nil)) (c "Int" nil)) (c "Int" nil)) (c "Int" nil)) (c "Int" nil)) (c "Int" nil)) (c "Int" nil)) (c "Int" nil)) (c "Int" nil)) (c "Int" nil)) (c "Int" nil)) (c "Int" nil)) (c "Int" nil)) (c "Int" nil)) (c "Int" nil)) (c "Int" nil)) (c "Int" nil)) (c "Int" nil)) (c "Int" nil)) (c "Int" nil)) (c "Int" nil)) (c "Int" nil)) (c "Int" nil)) (c "Int" nil)) (c "Int" nil)) (c "Int" nil)) (c "Int" nil)) (c "Int" nil)) (c "Int" nil)) (c "Int" nil)) (c "Int" nil)) (c "Int" nil)) (c "Int" nil)) (c "Int" nil)) (c "Int" nil)) (c "Int" nil)) (c "Int" nil)) (c "Int" nil)) (c "Int" nil)) (c "Int" nil)) (c "Int" nil)) (c "Int" nil)) (c "Int" nil)) (c "Int" nil)) (c "Int" nil)) (c "Int" nil)) (c "Int" nil)) (c "Int" nil)) (c "Int" nil)) (c "Int" nil)) (c "Int" nil)) (c "Int" nil)) (c "Int" nil)) (c "Int" nil)) (c "Int" nil)) (c "Int" nil)) (c "Int" nil)) (c "Int" nil)) (c "Int" nil)) (c "Int" nil)) (c "Int" nil)) (c "Int" nil)) (c "Int" nil)) (c "Int" nil)) (c "Int" nil)) (c "Int" nil)) (c "Int" nil)) (c "Int" nil)) (c "Int" nil)) (c "Int" nil)) (c "Int" nil)) (c "Int" nil)) (c "Int" nil)) (c "Int" nil)) (c "Int" nil)) (c "Int" nil)) (c "Int" nil)) (c "Int" nil)) (c "Int" nil)) (c "Int" nil)) (c "Int" nil)) (c "Int" nil)))) ∷ sig "u" (arrow (arrow (arrow (arrow (arrow (arrow (arrow (arrow (arrow (arrow (arrow (arrow (arrow (arrow (arrow (arrow (arrow (arrow (arrow (arrow (arrow (arrow (arrow (arrow (arrow (arrow (arrow (arrow (arrow (arrow (arrow (arrow (arrow (arrow (arrow (arrow (arrow (arrow (arrow (arrow (arrow (arrow (arrow (arrow (arrow (arrow (arrow (arrow (arrow (arrow (arrow (arrow (arrow (arrow (arrow (arrow (arrow (arrow (arrow (arrow (arrow (arrow (arrow (arrow (arrow (arrow (arrow (arrow (arrow (arrow (arrow (arrow (arrow (arrow (arrow (arrow (arrow (arrow (arrow (arrow (arrow (arrow (arrow (arrow (arrow (arrow (arrow (arrow (arrow (arrow (arrow (arrow (arrow (arrow (arrow (arrow (arrow (arrow (arrow (arrow (arrow (arrow (arrow (arrow (arrow (arrow (arrow (arrow (arrow (arrow (v "a") (c "Int" nil)) (c "Int" nil)) (c "Int" nil)) (c "Int" nil)) (c "Int" nil)) (c "Int" nil)) (c "Int" nil)) (c "Int" nil)) (c "Int" nil)) (c "Int" nil)) (c "Int" nil)) (c "Int" nil)) (c "Int" nil)) (c "Int" nil)) (c "Int" nil)) (c "Int" nil)) (c "Int" nil)) (c "Int" nil)) (c "Int" nil)) (c "Int" nil)) (c "Int" nil)) (c "Int" nil)) (c "Int" nil)) (c "Int" nil)) (c "Int" nil)) (c "Int" nil)) (c "Int" nil)) (c "Int" nil)) (c "Int" nil)) (c "Int" nil)) (c "Int" nil)) (c "Int" nil)) (c "Int" nil)) (c "Int" nil)) (c "Int" nil)) (c "Int" nil)) (c "Int" nil)) (c "Int" nil)) (c "Int" nil)) (c "Int" nil)) (c "Int" nil)) (c "Int" nil)) (c "Int" nil)) (c "Int" nil)) (c "Int" nil)) (c "Int" nil)) (c "Int" nil)) (c "Int" nil)) (c "Int" nil)) (c "Int" nil)) (c "Int" nil)) (c "Int" nil)) (c "Int" nil)) (c "Int" nil)) (c "Int" nil)) (c "Int" nil)) (c "Int" nil)) (c "Int" nil)) (c "Int" nil)) (c "Int" nil)) (c "Int" nil)) (c "Int" nil)) (c "Int" nil)) (c "Int" nil)) (c "Int" nil)) (c "Int" nil)) (c "Int" nil)) (c "Int" nil)) (c "Int" nil)) (c "Int" nil)) (c "Int" nil)) (c "Int" nil)) (c "Int" nil)) (c "Int" nil)) (c "Int" nil)) (c "Int" nil)) (c "Int" nil)) (c "Int" nil)) (c "Int" nil)) (c "Int" nil)) (c "Int" nil)) (c "Int" nil)) (c "Int" nil)) (c "Int" nil)) (c "Int" nil)) (c "Int" nil)) (c "Int" nil)) (c "Int" nil)) (c "Int" nil)) (c "Int" nil)) (c "Int" nil)) (c "Int" nil)) (c "Int" nil)) (c "Int" nil)) (c "Int" nil)) (c "Int" nil)) (c "Int" nil)) (c "Int" nil)) (c "Int" nil)) (c "Int" nil)) (c "Int" nil)) (c "Int" nil)) (c "Int" nil)) (c "Int" nil)) (c "Int" nil)) (c "Int" nil)) (c "Int" nil)) (c "Int" nil)) (c "Int" nil)) (c "Int" nil)) ∷ []) (body "f0" (eint 1) ∷ body "u" (eint 1) ∷ [])
    ∷ instance [] "Deep" (c "Int" nil) []
    ∷ check (lam "g" (eapp (ev "g") (eapp (eapp (ev "f0") (ev "g")) (ev "u"))))
    ∷ define "f" (lam "g" (eapp (ev "g") (eapp (eapp (ev "f0") (ev "g")) (ev "u"))))
    ∷ check (lam "x" (lam "x" (bind "k" (eapp (eapp (lam "p" (lam "q" (ev "p"))) (eapp (ev "u") (ev "x"))) (eapp (ev "u") (ev "x"))) (eapp (eapp (lam "p" (lam "q" (ev "q"))) (ev "k")) (eapp (eapp (ev "u") (ev "x")) (ev "x"))))))
    ∷ []

b_5000404_computed : metered 20000 2000000 20000 b_5000404 ≡ said "declarations 5\n0 0 - | 1634 1667 0 0\n1 0 - | 7 1670 0 0\n2 7 - | 4291 1670 0 0\n3 7 - | 4291 1670 0 0\n4 12 Int (-> (-> (-> (-> (-> (-> (-> (-> (-> (-> (-> (-> (-> (-> (-> (-> (-> (-> (-> (-> (-> (-> (-> (-> (-> (-> (-> (-> (-> (-> (-> (-> (-> (-> (-> (-> (-> (-> (-> (-> (-> (-> (-> (-> (-> (-> (-> (-> (-> (-> (-> (-> (-> (-> (-> (-> (-> (-> (-> (-> (-> (-> (-> (-> (-> (-> (-> (-> (-> (-> (-> (-> (-> (-> (-> (-> (-> (-> (-> (-> (-> (-> (-> (-> (-> (-> (-> (-> (-> (-> (-> (-> (-> (-> (-> (-> (-> (-> (-> (-> (-> (-> (-> (-> (-> (-> (-> (-> (-> (-> t7 Int) Int) Int) Int) Int) Int) Int) Int) Int) Int) Int) Int) Int) Int) Int) Int) Int) Int) Int) Int) Int) Int) Int) Int) Int) Int) Int) Int) Int) Int) Int) Int) Int) Int) Int) Int) Int) Int) Int) Int) Int) Int) Int) Int) Int) Int) Int) Int) Int) Int) Int) Int) Int) Int) Int) Int) Int) Int) Int) Int) Int) Int) Int) Int) Int) Int) Int) Int) Int) Int) Int) Int) Int) Int) Int) Int) Int) Int) Int) Int) Int) Int) Int) Int) Int) Int) Int) Int) Int) Int) Int) Int) Int) Int) Int) Int) Int) Int) Int) Int) Int) Int) Int) Int) Int) Int) Int) Int) Int) t14) | 5410 1670 0 0\n"
unfolding everything metered said
b_5000404_computed = refl

abbrev b_5000644 : List Decl
b_5000644 =
    class "Real" "a" [] (sig "shw" (arrow (v "b") (v "b")) ∷ []) []
    ∷ instance [] "Real" (c "Int" nil) (body "shw" (lam "x" (eapp (eapp (lam "u" (lam "v" (ev "v"))) (eapp (ev "shw") (ev "x"))) (ev "x"))) ∷ [])
    ∷ class "Eq" "c" [] (sig "tag" (arrow (v "c") (c "List" ((v "c") ◂ nil))) ∷ []) []
    ∷ instance (at "Real" (c "List" ((arrow (v "a") (v "a")) ◂ nil)) ∷ at "Eq" (v "a") ∷ at "Real" (v "a") ∷ []) "Real" (arrow (v "a") (v "a")) (body "shw" (bind "same" (lam "x" (lam "y" (ev "x"))) (bind "g" (lam "x" (eapp (ev "primAndBool") (ev "x"))) (eapp (ev "same") (ev "same")))) ∷ [])
    ∷ class "Fun" "a" ("Eq" ∷ "Real" ∷ []) [] []
    ∷ instance [] "Eq" (c "Pair" ((c "Int" nil) ◂ (v "c") ◂ nil)) (body "tag" (lam "x" (eapp (eapp (lam "u" (lam "v" (ev "v"))) (eapp (ev "shw") (ev "x"))) (eapp (eapp (lam "u" (lam "v" (ev "v"))) (eapp (ev "shw") (ev "x"))) (eapp (eapp (lam "u" (lam "v" (ev "v"))) (eapp (ev "tag") (ev "x"))) (eapp (eapp (lam "u" (lam "v" (ev "v"))) (eapp (ev "tag") (ev "x"))) (bind "u" (eapp (ev "shw") (ev "x")) (eapp (ev "shw") (eapp (ev "tag") (ev "x"))))))))) ∷ [])
    ∷ instance [] "Real" (c "Pair" ((c "Int" nil) ◂ (v "c") ◂ nil)) (body "shw" (lam "u" (ev "u")) ∷ [])
    ∷ instance [] "Fun" (c "Pair" ((c "Int" nil) ◂ (v "c") ◂ nil)) []
    ∷ class "Ord" "a" ("Eq" ∷ "Num" ∷ []) (sig "fst" (arrow (v "a") (v "a")) ∷ []) (body "fst" (lam "v" (eapp (ev "fst") (ev "tag"))) ∷ [])
    ∷ define "comp" (lam "q" (ev "q"))
    ∷ check (lam "v" (ev "v"))
    ∷ instance [] "Real" (c "Bool" nil) (body "shw" (lam "v" (eapp (ev "comp") (ev "tag"))) ∷ [])
    ∷ check (eapp (ev "comp") (ev "g"))
    ∷ instance (at "Fun" (v "a") ∷ at "Real" (c "Bool" nil) ∷ []) "Real" (c "List" ((v "a") ◂ nil)) (body "shw" (lam "w" (ev "w")) ∷ [])
    ∷ instance (at "Fun" (v "a") ∷ at "Real" (c "Bool" nil) ∷ []) "Fun" (c "List" ((v "a") ◂ nil)) []
    ∷ check (lam "x" (bind "h" (eapp (ev "shw") (ev "x")) (eapp (eapp (lam "u" (lam "v" (ev "v"))) (eapp (ev "shw") (ev "x"))) (bind "comp" (eapp (ev "tag") (ev "x")) (eapp (lam "u" (eapp (ev "shw") (ev "x"))) (eapp (ev "shw") (ev "x")))))))
    ∷ []

b_5000644_computed : metered 20000 2000000 20000 b_5000644 ≡ said "declarations 16\n0 0 - | 7 40 0 0\n1 16 Real t6 | 99 40 0 0\n2 0 - | 9 49 0 0\n3 0 - | 165 70 9 0\n4 0 - | 0 70 9 0\n5 17 Real t37 | 233 70 9 0\n6 0 - | 28 75 10 0\n7 16 Eq (Pair Int c) | 4 75 10 0\n8 21 Ord Num | 7 75 10 0\n9 0 [] (-> a a) | 14 78 11 0\n10 0 [] (-> a a) = (lam v v) | 14 78 12 0\n11 16 Eq t15 | 59 78 12 0\n12 11 g | 6 78 12 0\n13 0 - | 31 84 13 0\n14 16 Eq (List a) | 9 84 13 0\n15 17 Real t15 | 28 84 13 0\n"
unfolding everything metered said
b_5000644_computed = refl

abbrev b_5000946 : List Decl
b_5000946 =
    class "Real" "e" [] (sig "eq" (arrow (v "e") (c "Pair" ((v "e") ◂ nil))) ∷ sig "cons" (arrow (v "e") (c "Bool" nil)) ∷ sig "eq" (c "List" ((v "e") ◂ nil)) ∷ []) []
    ∷ class "Show" "a" ("Real" ∷ []) [] (body "lt" (lam "x" (lam "y" (lam "z" (eapp (ev "cons") (ev "x"))))) ∷ [])
    ∷ class "Real" "a" [] (sig "snd" (arrow (arrow (v "a") (v "c")) (v "c")) ∷ []) (body "snd" (lam "q" (ev "cons")) ∷ [])
    ∷ check (lam "x" (bind "comp" (eapp (ev "cons") (ev "x")) (bind "same" (ev "eq") (eapp (lam "u" (ev "eq")) (ev "eq")))))
    ∷ define "f" (eapp (ebool false) (ev "primAndBool"))
    ∷ instance (at "Real" (v "a") ∷ []) "Real" (c "Pair" ((v "a") ◂ (v "a") ◂ nil)) (body "eq" (bind "k" (ev "primEqInt") (lam "x" (ev "primAddInt"))) ∷ body "cons" (lam "w" (eapp (ev "primNotBool") (ebool true))) ∷ body "eq" (ev "eq") ∷ [])
    ∷ define "twice" (bind "id" (lam "x" (ev "x")) (lam "primEqInt" (eapp (ev "id") (lam "q" (ev "h")))))
    ∷ define "id" (lam "y" (lam "q" (ev "y")))
    ∷ []

b_5000946_computed : metered 20000 2000000 20000 b_5000946 ≡ said "declarations 8\n0 0 - | 21 49 0 0\n1 0 - | 0 49 0 0\n2 4 - | 0 49 0 0\n3 0 [Real a, Real b, Real c] (-> a (List b)) = (dabs [d0 Real a, d2 Real b, d3 Real c] (lam x (let comp (app (proj d0 cons) x) (let same (dabs [d1 Real a] (proj d1 eq)) (app (lam u (proj d2 eq)) (proj d3 eq)))))) | 137 49 8 4\n4 12 Bool (-> (-> Bool (-> Bool Bool)) t8) | 10 49 8 4\n5 12 (-> Int (-> Int Int)) (Pair (Pair a a)) | 57 49 8 4\n6 11 h | 21 49 8 4\n7 0 [] (-> a (-> b a)) | 22 54 10 4\n"
unfolding everything metered said
b_5000946_computed = refl

abbrev b_5001674 : List Decl
b_5001674 =
    class "Eq" "a" [] (sig "eq" (arrow (v "a") (arrow (v "a") (c "Bool" nil))) ∷ []) (body "eq" (eint 1) ∷ [])
    ∷ instance (at "Eq" (c "List" ((v "b") ◂ nil)) ∷ []) "Eq" (c "List" ((v "a") ◂ nil)) []
    ∷ check (eapp (ev "eq") (eint 1))
    ∷ class "Bag" "a" ("Eq" ∷ []) (sig "one" (arrow (v "a") (c "List" ((v "a") ◂ nil))) ∷ []) (body "one" (eint 1) ∷ [])
    ∷ instance [] "Bag" (c "Int" nil) []
    ∷ check (eapp (ev "eq") (eapp (ev "one") (eint 1)))
    ∷ instance [] "Num" (c "List" ((c "List" ((c "List" ((c "Int" nil) ◂ nil)) ◂ nil)) ◂ nil)) []
    ∷ check (lam "p" (ev "p"))
    ∷ check (ev "one")
    ∷ []

b_5001674_computed : metered 20000 2000000 20000 b_5001674 ≡ said "declarations 9\n0 0 - | 11 44 0 0\n1 0 - | 7 49 0 0\n2 16 Eq Int | 30 49 0 0\n3 0 - | 9 58 0 0\n4 16 Eq Int | 5 58 0 0\n5 7 - | 1336 58 0 0\n6 19 Num | 4 58 0 0\n7 0 [] (-> a a) = (lam p p) | 14 58 1 0\n8 0 [Bag a] (-> a (List a)) = (dabs [d0 Bag a] (proj d0 one)) | 22 58 2 1\n"
unfolding everything metered said
b_5001674_computed = refl

abbrev b_5002264 : List Decl
b_5002264 =
    class "Eq" "a" [] (sig "eq" (arrow (v "a") (arrow (v "a") (c "Bool" nil))) ∷ []) (body "eq" (eint 1) ∷ [])
    ∷ class "Mk" "a" [] (sig "mk" (arrow (v "a") (arrow (v "b") (c "Pair" ((v "a") ◂ (v "b") ◂ nil)))) ∷ []) (body "mk" (eint 1) ∷ [])
    ∷ instance [] "Mk" (c "Int" nil) []
    ∷ instance [] "Mk" (c "Bool" nil) []
    ∷ instance [] "Mk" (c "Pair" ((v "a") ◂ (v "b") ◂ nil)) []
    ∷ instance [] "Eq" (c "Pair" ((v "a") ◂ (c "Int" nil) ◂ nil)) []
    ∷ instance (at "Eq" (v "a") ∷ []) "Eq" (arrow (v "a") (c "Int" nil)) []
    ∷ instance [] "Eq" (c "Pair" ((v "a") ◂ (v "a") ◂ nil)) []
    ∷ instance [] "Eq" (c "Int" nil) []
    ∷ check (eapp (ev "eq") (eapp (eapp (ev "mk") (eint 4)) (eint 6)))
    ∷ check (eapp (ev "eq") (eapp (ev "primAddInt") (eint 1)))
    ∷ check (eapp (ev "eq") (eapp (eapp (ev "mk") (eint 1)) (eint 8)))
    ∷ define "id" (eapp (ev "eq") (ev "primNotBool"))
    ∷ instance (at "Mk" (v "c") ∷ []) "Eq" (c "List" ((v "c") ◂ nil)) (body "eq" (lam "x" (lam "p" (eapp (eapp (ev "primLtInt") (eint 4)) (eint 7)))) ∷ [])
    ∷ check (lam "x" (bind "h" (lam "y" (bind "k" (eapp (eapp (lam "p" (lam "q" (ev "p"))) (eapp (eapp (ev "eq") (ev "x")) (ev "x"))) (eapp (ev "eq") (ev "x"))) (eapp (eapp (lam "p" (lam "q" (ev "q"))) (ev "k")) (eapp (eapp (ev "mk") (ev "x")) (ev "x"))))) (eapp (ev "h") (ev "x"))))
    ∷ []

b_5002264_computed : metered 20000 2000000 20000 b_5002264 ≡ said "declarations 15\n0 0 - | 11 44 0 0\n1 0 - | 15 59 0 0\n2 0 - | 4 61 0 0\n3 0 - | 6 63 0 0\n4 0 - | 10 67 0 0\n5 0 - | 6 71 0 0\n6 0 - | 9 76 0 0\n7 0 - | 14 80 0 0\n8 0 - | 10 82 0 0\n9 0 [] (-> (Pair Int Int) Bool) = (app (proj (rec Eq (Pair Int Int)) eq) (app (app (proj (rec Mk Int) mk) 4) 6)) | 141 82 6 2\n10 0 [] (-> (-> Int Int) Bool) = (app (proj (dapp (rec Eq (-> Int Int)) (rec Eq Int)) eq) (app primAddInt 1)) | 95 82 9 3\n11 0 [] (-> (Pair Int Int) Bool) = (app (proj (rec Eq (Pair Int Int)) eq) (app (app (proj (rec Mk Int) mk) 1) 8)) | 141 82 15 5\n12 16 Eq (-> Bool Bool) | 44 82 15 5\n13 0 - | 110 92 19 5\n14 0 [Eq a, Mk a] (-> a (Pair a a)) = (dabs [d8 Eq a, d9 Mk a] (lam x (let h (dabs [d5 Eq a, d7 Mk a] (lam y (let k (app (app (lam p (lam q p)) (app (app (proj d5 eq) x) x)) (app (proj d6 eq) x)) (app (app (lam p (lam q q)) k) (app (app (proj d7 mk) x) x))))) (app (dapp h d8 d9) x)))) | 578 92 40 10\n"
unfolding everything metered said
b_5002264_computed = refl

abbrev b_5002758 : List Decl
b_5002758 =
    class "Show" "a" [] (sig "add" (arrow (c "Pair" ((v "a") ◂ nil)) (v "a")) ∷ []) (body "nil" (bind "g" (lam "x" (eapp (ev "primAddInt") (bind "u" (eint 3) (ev "twice")))) (eapp (eapp (ev "primLtInt") (eapp (eapp (ev "primMulInt") (eint 8)) (eint 7))) (eapp (eapp (ev "g") (eint 3)) (eint 7)))) ∷ [])
    ∷ class "Eq" "a" [] [] []
    ∷ instance (at "Show" (v "a") ∷ at "Eq" (v "a") ∷ at "Eq" (v "a") ∷ []) "Show" (arrow (v "a") (v "a")) (body "add" (ev "add") ∷ [])
    ∷ class "Real" "tx" ("Eq" ∷ []) [] (body "neg" (eapp (ev "primAndBool") (ebool true)) ∷ [])
    ∷ class "Fun" "a" ("Eq" ∷ []) (sig "tag" (arrow (v "a") (v "c")) ∷ sig "zero" (arrow (c "Pair" ((v "a") ◂ (v "c") ◂ nil)) (v "a")) ∷ sig "snd" (arrow (v "a") (arrow (v "a") (c "Bool" nil))) ∷ []) []
    ∷ instance [] "Show" (c "Bool" nil) (body "add" (lam "z" (eapp (eapp (ev "snd") (ev "z")) (ev "z"))) ∷ [])
    ∷ class "Mon" "a" ("Real" ∷ "Fun" ∷ []) [] []
    ∷ define "k" (lam "x" (eapp (lam "u" (bind "id" (eapp (ev "add") (ev "x")) (eapp (eapp (ev "snd") (ev "x")) (ev "x")))) (eapp (eapp (ev "snd") (ev "x")) (ev "x"))))
    ∷ check (eapp (ev "zero") (eapp (ev "tag") (eapp (ev "tag") (ev "tag"))))
    ∷ check (lam "x" (lam "y" (eapp (lam "u" (eapp (lam "u" (bind "h" (eapp (eapp (ev "snd") (ev "y")) (ev "y")) (eapp (eapp (lam "u" (lam "v" (ev "v"))) (eapp (eapp (ev "snd") (ev "y")) (ev "x"))) (bind "comp" (eapp (ev "add") (ev "x")) (eapp (ev "tag") (ev "x")))))) (eapp (ev "zero") (ev "x")))) (eapp (ev "tag") (ev "y")))))
    ∷ check (eapp (ev "primNotBool") (ebool false))
    ∷ []

b_5002758_computed : metered 20000 2000000 20000 b_5002758 ≡ said "declarations 11\n0 0 - | 9 42 0 0\n1 0 - | 0 42 0 0\n2 16 Show (-> a a) | 52 42 0 0\n3 0 - | 0 42 0 0\n4 0 - | 29 71 0 0\n5 16 Fun (Pair Bool) | 76 71 0 0\n6 0 - | 0 71 0 0\n7 16 Fun (Pair t3) | 230 71 0 0\n8 16 Fun (-> t9 t10) | 92 71 0 0\n9 15 Pair 2 1 | 314 71 0 0\n10 0 [] Bool = (app primNotBool false) | 23 71 1 0\n"
unfolding everything metered said
b_5002758_computed = refl

abbrev b_5003550 : List Decl
b_5003550 =
    define "deep" (bind "x" (bind "x" (bind "x" (bind "x" (bind "x" (bind "x" (bind "x" (bind "x" (bind "x" (bind "x" (bind "x" (bind "x" (bind "x" (bind "x" (bind "x" (bind "x" (bind "x" (bind "x" (bind "x" (bind "x" (bind "x" (bind "x" (bind "x" (bind "x" (bind "x" (bind "x" (bind "x" (bind "x" (bind "x" (bind "x" (bind "x" (bind "x" (bind "x" (bind "x" (bind "x" (bind "x" (bind "x" (bind "x" (bind "x" (bind "x" (bind "x" (bind "x" (bind "x" (bind "x" (bind "x" (bind "x" (bind "x" (bind "x" (bind "x" (bind "x" (bind "x" (bind "x" (bind "x" (bind "x" (bind "x" (bind "x" (bind "x" (bind "x" (bind "x" (bind "x" (bind "x" (bind "x" (bind "x" (bind "x" (bind "x" (bind "x" (bind "x" (bind "x" (bind "x" (bind "x" (bind "x" (bind "x" (bind "x" (bind "x" (bind "x" (bind "x" (bind "x" (bind "x" (bind "x" (bind "x" (bind "x" (bind "x" (bind "x" (bind "x" (bind "x" (bind "x" (bind "x" (bind "x" (bind "x" (bind "x" (bind "x" (bind "x" (bind "x" (bind "x" (bind "x" (bind "x" (bind "x" (bind "x" (bind "x" (bind "x" (bind "x" (bind "x" (bind "x" (bind "x" (bind "x" (bind "x" (bind "x" (bind "x" (bind "x" (bind "x" (bind "x" (bind "x" (bind "x" (bind "x" (bind "x" (bind "x" (bind "x" (bind "x" (bind "x" (bind "x" (bind "x" (bind "x" (bind "x" (bind "x" (bind "x" (bind "x" (bind "x" (bind "x" (bind "x" (bind "x" (bind "x" (bind "x" (bind "x" (bind "x" (bind "x" (bind "x" (bind "x" (bind "x" (bind "x" (bind "x" (bind "x" (bind "x" (bind "x" (bind "x" (bind "x" (bind "x" (bind "x" (bind "x" (bind "x" (bind "x" (bind "x" (bind "x" (bind "x" (bind "x" (bind "x" (bind "x" (ebool true) (ev "x")) (ev "x")) (ev "x")) (ev "x")) (ev "x")) (ev "x")) (ev "x")) (ev "x")) (ev "x")) (ev "x")) (ev "x")) (ev "x")) (ev "x")) (ev "x")) (ev "x")) (ev "x")) (ev "x")) (ev "x")) (ev "x")) (ev "x")) (ev "x")) (ev "x")) (ev "x")) (ev "x")) (ev "x")) (ev "x")) (ev "x")) (ev "x")) (ev "x")) (ev "x")) (ev "x")) (ev "x")) (ev "x")) (ev "x")) (ev "x")) (ev "x")) (ev "x")) (ev "x")) (ev "x")) (ev "x")) (ev "x")) (ev "x")) (ev "x")) (ev "x")) (ev "x")) (ev "x")) (ev "x")) (ev "x")) (ev "x")) (ev "x")) (ev "x")) (ev "x")) (ev "x")) (ev "x")) (ev "x")) (ev "x")) (ev "x")) (ev "x")) (ev "x")) (ev "x")) (ev "x")) (ev "x")) (ev "x")) (ev "x")) (ev "x")) (ev "x")) (ev "x")) (ev "x")) (ev "x")) (ev "x")) (ev "x")) (ev "x")) (ev "x")) (ev "x")) (ev "x")) (ev "x")) (ev "x")) (ev "x")) (ev "x")) (ev "x")) (ev "x")) (ev "x")) (ev "x")) (ev "x")) (ev "x")) (ev "x")) (ev "x")) (ev "x")) (ev "x")) (ev "x")) (ev "x")) (ev "x")) (ev "x")) (ev "x")) (ev "x")) (ev "x")) (ev "x")) (ev "x")) (ev "x")) (ev "x")) (ev "x")) (ev "x")) (ev "x")) (ev "x")) (ev "x")) (ev "x")) (ev "x")) (ev "x")) (ev "x")) (ev "x")) (ev "x")) (ev "x")) (ev "x")) (ev "x")) (ev "x")) (ev "x")) (ev "x")) (ev "x")) (ev "x")) (ev "x")) (ev "x")) (ev "x")) (ev "x")) (ev "x")) (ev "x")) (ev "x")) (ev "x")) (ev "x")) (ev "x")) (ev "x")) (ev "x")) (ev "x")) (ev "x")) (ev "x")) (ev "x")) (ev "x")) (ev "x")) (ev "x")) (ev "x")) (ev "x")) (ev "x")) (ev "x")) (ev "x")) (ev "x")) (ev "x")) (ev "x")) (ev "x")) (ev "x")) (ev "x")) (ev "x")) (ev "x")) (ev "x")) (ev "x")) (ev "x")) (ev "x")) (ev "x"))
    ∷ check (ev "deep")
    ∷ []

b_5003550_computed : metered 20000 2000000 20000 b_5003550 ≡ said "declarations 2\n0 6 - | 20000 33 0 0\n1 11 deep | 1 33 0 0\n"
unfolding everything metered said
b_5003550_computed = refl

abbrev b_5003560 : List Decl
b_5003560 =
    class "Num" "z" [] (sig "neg" (arrow (v "z") (arrow (v "z") (c "Bool" nil))) ∷ sig "add" (arrow (v "z") (c "List" ((v "z") ◂ nil))) ∷ []) (body "add" (lam "q" (eapp (ev "add") (ev "q"))) ∷ [])
    ∷ instance [] "Num" (c "Int" nil) []
    ∷ class "Ord" "a" ("Bag" ∷ []) (sig "pair" (arrow (v "a") (c "List" ((v "a") ◂ nil))) ∷ []) []
    ∷ instance (at "Num" (v "c") ∷ at "Num" (v "c") ∷ at "Num" (v "c") ∷ []) "Num" (c "Pair" ((c "Int" nil) ◂ (v "c") ◂ nil)) (body "neg" (lam "x" (lam "y" (ebool true))) ∷ body "add" (lam "w" (eapp (ebool true) (ev "w"))) ∷ [])
    ∷ instance [] "Num" (c "List" nil) (body "neg" (bind "f" (lam "x" (ev "x")) (lam "q" (lam "w" (eapp (eapp (ev "neg") (ev "w")) (ev "w"))))) ∷ [])
    ∷ class "Real" "t1x" [] [] []
    ∷ class "Ord" "a" [] (sig "conv" (arrow (v "a") (arrow (v "a") (c "Bool" nil))) ∷ []) (body "conv" (lam "q" (eapp (ev "neg") (ev "q"))) ∷ [])
    ∷ instance [] "Ord" (c "List" ((v "t") ◂ nil)) []
    ∷ check (lam "z" (ev "z"))
    ∷ check (ebool true)
    ∷ instance [] "Ord" (c "Int" nil) []
    ∷ check (lam "q" (ev "q"))
    ∷ check (eapp (eapp (eapp (lam "x" (lam "y" (eapp (ev "neg") (ev "x")))) (ebool true)) (ebool true)) (eapp (ev "add") (eint 8)))
    ∷ instance [] "Num" (c "Int" nil) (body "neg" (lam "x" (lam "y" (eapp (eapp (lam "u" (lam "v" (ev "v"))) (eapp (eapp (ev "conv") (ev "y")) (ev "x"))) (eapp (eapp (lam "u" (lam "v" (ev "v"))) (eapp (eapp (ev "conv") (ev "y")) (ev "x"))) (eapp (eapp (lam "u" (lam "v" (ev "v"))) (eapp (eapp (ev "conv") (ev "y")) (ev "y"))) (eapp (eapp (ev "conv") (ev "x")) (eint 7))))))) ∷ body "add" (lam "z" (eapp (ev "add") (eint 3))) ∷ [])
    ∷ define "same" (eapp (ev "add") (eapp (eapp (ev "primAddInt") (eint 8)) (eint 11103282147923656527)))
    ∷ []

b_5003560_computed : metered 20000 2000000 20000 b_5003560 ≡ said "declarations 15\n0 0 - | 20 53 0 0\n1 22 Num Int neg | 1 53 0 0\n2 21 Ord Bag | 9 53 0 0\n3 12 Bool (-> t2 t3) | 66 53 0 0\n4 16 Num List | 104 53 0 0\n5 0 - | 0 53 0 0\n6 0 - | 11 64 0 0\n7 0 - | 40 71 3 1\n8 0 [] (-> a a) = (lam z z) | 14 71 4 1\n9 0 [] Bool = true | 5 71 4 1\n10 0 - | 41 77 7 2\n11 0 [] (-> a a) = (lam q q) | 14 77 8 2\n12 14 Bool List | 124 77 8 2\n13 16 Num Int | 630 77 8 2\n14 16 Num Int | 66 77 8 2\n"
unfolding everything metered said
b_5003560_computed = refl
