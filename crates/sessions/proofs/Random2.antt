-- Recorded sessions, computed: text, steps, kept nodes and both counters. (tools/session_test.py)
use mathlib.Core.Path.{◌≡◌, refl}
use mathlib.Core.Bool.{true, false}
use mathlib.Core.List.{List, [], ◌∷◌}
use Rattle.meaning.specs.Ast.{Ty, arrow, Expr, eint, ebool, eapp, Decl, nil, ◌◂◌}
use Rattle.meaning.proofs.Metered.{everything, metered, said}
use Rattle.meaning.proofs.Written.{v, c, ev, lam, bind, class, instance, define, check, at, sig, body}

abbrev s_5001266 : List Decl
s_5001266 =
    class "Eq" "a" [] (sig "eq" (arrow (v "a") (arrow (v "a") (c "Bool" nil))) ∷ []) []
    ∷ class "Ord" "a" ("Eq" ∷ []) (sig "lt" (arrow (v "a") (arrow (v "a") (c "Bool" nil))) ∷ []) []
    ∷ class "Real" "a" ("Ord" ∷ "Eq" ∷ []) (sig "add" (arrow (v "a") (arrow (v "a") (v "a"))) ∷ []) []
    ∷ class "Bag" "a" [] (sig "nil" (c "List" ((v "a") ◂ nil)) ∷ sig "cons" (arrow (v "a") (arrow (c "List" ((v "a") ◂ nil)) (c "List" ((v "a") ◂ nil)))) ∷ sig "pair" (arrow (v "a") (arrow (v "b") (c "Pair" ((v "a") ◂ (v "b") ◂ nil)))) ∷ sig "odd" (arrow (v "a") (c "List" nil)) ∷ []) (body "nil" (eint 0) ∷ body "cons" (eint 0) ∷ body "pair" (eint 0) ∷ body "odd" (eint 0) ∷ [])
    ∷ instance [] "Bag" (c "Int" nil) []
    ∷ instance [] "Bag" (c "Bool" nil) []
    ∷ instance [] "Bag" (c "List" ((v "a") ◂ nil)) []
    ∷ instance [] "Eq" (c "Int" nil) (body "eq" (ev "primEqInt") ∷ [])
    ∷ instance [] "Eq" (c "Bool" nil) (body "eq" (ev "primEqBool") ∷ [])
    ∷ instance [] "Real" (c "Int" nil) (body "add" (ev "primAddInt") ∷ [])
    ∷ instance (at "Eq" (v "a") ∷ []) "Eq" (c "List" ((v "a") ◂ nil)) (body "eq" (lam "x" (lam "y" (ebool true))) ∷ [])
    ∷ check (eapp (ev "add") (lam "y" (ev "y")))
    ∷ define "pair" (lam "v" (ev "v"))
    ∷ define "id" (eapp (eapp (ev "primEqBool") (eapp (eapp (ev "add") (eapp (eapp (ev "eq") (ev "eq")) (lam "q" (lam "z" (ebool false))))) (eapp (eapp (ev "add") (ebool true)) (ebool true)))) (eapp (eapp (ev "add") (eapp (eapp (ev "primEqInt") (eint 3)) (eint 3))) (eapp (eapp (ev "lt") (ev "lt")) (lam "v" (lam "p" (ebool true))))))
    ∷ check (lam "p" (ev "p"))
    ∷ define "g" (ev "add")
    ∷ define "id" (ev "nil")
    ∷ check (lam "nil" (lam "z" (ebool true)))
    ∷ define "f" (lam "x" (lam "y" (eapp (lam "u" (eapp (lam "u" (eapp (eapp (lam "u" (lam "v" (ev "v"))) (eapp (eapp (ev "pair") (ev "x")) (ev "y"))) (eapp (eapp (ev "cons") (ev "y")) (ev "y")))) (eapp (ev "add") (ev "x")))) (eapp (eapp (ev "pair") (ev "x")) (ev "y")))))
    ∷ check (eapp (eapp (ev "g") (eapp (ev "pair") (eapp (eapp (ev "eq") (ev "odd")) (bind "id" (ev "eq") (lam "w" (ev "w")))))) (eapp (ev "pair") (bind "same" (lam "x" (ev "x")) (eapp (ev "same") (ebool false)))))
    ∷ []

s_5001266_computed : metered 512 65536 512 s_5001266 ≡ said "declarations 20\n0 0 - | 11 44 0 0\n1 0 - | 11 55 0 0\n2 0 - | 11 66 0 0\n3 0 - | 42 108 0 0\n4 0 - | 13 113 0 0\n5 0 - | 15 118 0 0\n6 0 - | 18 124 0 0\n7 0 - | 37 126 0 0\n8 0 - | 39 128 0 0\n9 16 Ord Int | 37 128 0 0\n10 0 - | 53 134 2 0\n11 16 Real (-> t4 t4) | 40 134 2 0\n12 0 [] (-> a a) | 14 129 3 0\n13 6 - | 512 129 3 0\n14 0 [] (-> a a) = (lam p p) | 14 129 4 0\n15 0 [Real a] (-> a (-> a a)) | 25 135 5 1\n16 0 [Bag a] (List a) | 16 138 6 2\n17 0 [] (-> a (-> b Bool)) = (lam nil (lam z true)) | 21 138 8 2\n18 20 pair | 23 138 8 2\n19 20 pair | 14 138 8 2\n"
unfolding everything metered said
s_5001266_computed = refl

abbrev s_5001404 : List Decl
s_5001404 =
    class "Big" "a" [] (sig "big" (arrow (v "a") (arrow (c "Tree" ((c "Pair" ((arrow (c "Pair" ((c "Tree" ((v "a") ◂ (v "a") ◂ (v "a") ◂ nil)) ◂ (c "Tree" ((v "a") ◂ (v "a") ◂ (v "a") ◂ nil)) ◂ nil)) (c "Pair" ((c "Tree" ((v "a") ◂ (v "a") ◂ (v "a") ◂ nil)) ◂ (c "Tree" ((v "a") ◂ (v "a") ◂ (v "a") ◂ nil)) ◂ nil))) ◂ (arrow (c "Pair" ((c "Tree" ((v "a") ◂ (v "a") ◂ (v "a") ◂ nil)) ◂ (c "Tree" ((v "a") ◂ (v "a") ◂ (v "a") ◂ nil)) ◂ nil)) (c "Pair" ((c "Tree" ((v "a") ◂ (v "a") ◂ (v "a") ◂ nil)) ◂ (c "Tree" ((v "a") ◂ (v "a") ◂ (v "a") ◂ nil)) ◂ nil))) ◂ nil)) ◂ (c "Pair" ((arrow (c "Pair" ((c "Tree" ((v "a") ◂ (v "a") ◂ (v "a") ◂ nil)) ◂ (c "Tree" ((v "a") ◂ (v "a") ◂ (v "a") ◂ nil)) ◂ nil)) (c "Pair" ((c "Tree" ((v "a") ◂ (v "a") ◂ (v "a") ◂ nil)) ◂ (c "Tree" ((v "a") ◂ (v "a") ◂ (v "a") ◂ nil)) ◂ nil))) ◂ (arrow (c "Pair" ((c "Tree" ((v "a") ◂ (v "a") ◂ (v "a") ◂ nil)) ◂ (c "Tree" ((v "a") ◂ (v "a") ◂ (v "a") ◂ nil)) ◂ nil)) (c "Pair" ((c "Tree" ((v "a") ◂ (v "a") ◂ (v "a") ◂ nil)) ◂ (c "Tree" ((v "a") ◂ (v "a") ◂ (v "a") ◂ nil)) ◂ nil))) ◂ nil)) ◂ (c "Pair" ((arrow (c "Pair" ((c "Tree" ((v "a") ◂ (v "a") ◂ (v "a") ◂ nil)) ◂ (c "Tree" ((v "a") ◂ (v "a") ◂ (v "a") ◂ nil)) ◂ nil)) (c "Pair" ((c "Tree" ((v "a") ◂ (v "a") ◂ (v "a") ◂ nil)) ◂ (c "Tree" ((v "a") ◂ (v "a") ◂ (v "a") ◂ nil)) ◂ nil))) ◂ (arrow (c "Pair" ((c "Tree" ((v "a") ◂ (v "a") ◂ (v "a") ◂ nil)) ◂ (c "Tree" ((v "a") ◂ (v "a") ◂ (v "a") ◂ nil)) ◂ nil)) (c "Pair" ((c "Tree" ((v "a") ◂ (v "a") ◂ (v "a") ◂ nil)) ◂ (c "Tree" ((v "a") ◂ (v "a") ◂ (v "a") ◂ nil)) ◂ nil))) ◂ nil)) ◂ nil)) (c "Tree" ((c "Pair" ((arrow (c "Pair" ((c "Tree" ((v "a") ◂ (v "a") ◂ (v "a") ◂ nil)) ◂ (c "Tree" ((v "a") ◂ (v "a") ◂ (v "a") ◂ nil)) ◂ nil)) (c "Pair" ((c "Tree" ((v "a") ◂ (v "a") ◂ (v "a") ◂ nil)) ◂ (c "Tree" ((v "a") ◂ (v "a") ◂ (v "a") ◂ nil)) ◂ nil))) ◂ (arrow (c "Pair" ((c "Tree" ((v "a") ◂ (v "a") ◂ (v "a") ◂ nil)) ◂ (c "Tree" ((v "a") ◂ (v "a") ◂ (v "a") ◂ nil)) ◂ nil)) (c "Pair" ((c "Tree" ((v "a") ◂ (v "a") ◂ (v "a") ◂ nil)) ◂ (c "Tree" ((v "a") ◂ (v "a") ◂ (v "a") ◂ nil)) ◂ nil))) ◂ nil)) ◂ (c "Pair" ((arrow (c "Pair" ((c "Tree" ((v "a") ◂ (v "a") ◂ (v "a") ◂ nil)) ◂ (c "Tree" ((v "a") ◂ (v "a") ◂ (v "a") ◂ nil)) ◂ nil)) (c "Pair" ((c "Tree" ((v "a") ◂ (v "a") ◂ (v "a") ◂ nil)) ◂ (c "Tree" ((v "a") ◂ (v "a") ◂ (v "a") ◂ nil)) ◂ nil))) ◂ (arrow (c "Pair" ((c "Tree" ((v "a") ◂ (v "a") ◂ (v "a") ◂ nil)) ◂ (c "Tree" ((v "a") ◂ (v "a") ◂ (v "a") ◂ nil)) ◂ nil)) (c "Pair" ((c "Tree" ((v "a") ◂ (v "a") ◂ (v "a") ◂ nil)) ◂ (c "Tree" ((v "a") ◂ (v "a") ◂ (v "a") ◂ nil)) ◂ nil))) ◂ nil)) ◂ (c "Pair" ((arrow (c "Pair" ((c "Tree" ((v "a") ◂ (v "a") ◂ (v "a") ◂ nil)) ◂ (c "Tree" ((v "a") ◂ (v "a") ◂ (v "a") ◂ nil)) ◂ nil)) (c "Pair" ((c "Tree" ((v "a") ◂ (v "a") ◂ (v "a") ◂ nil)) ◂ (c "Tree" ((v "a") ◂ (v "a") ◂ (v "a") ◂ nil)) ◂ nil))) ◂ (arrow (c "Pair" ((c "Tree" ((v "a") ◂ (v "a") ◂ (v "a") ◂ nil)) ◂ (c "Tree" ((v "a") ◂ (v "a") ◂ (v "a") ◂ nil)) ◂ nil)) (c "Pair" ((c "Tree" ((v "a") ◂ (v "a") ◂ (v "a") ◂ nil)) ◂ (c "Tree" ((v "a") ◂ (v "a") ◂ (v "a") ◂ nil)) ◂ nil))) ◂ nil)) ◂ nil)))) ∷ []) (body "big" (lam "x" (ev "x")) ∷ [])
    ∷ instance (at "Big" (v "a") ∷ []) "Big" (arrow (c "Tree" ((c "Pair" ((arrow (c "Pair" ((c "Tree" ((v "a") ◂ (v "a") ◂ (v "a") ◂ nil)) ◂ (c "Tree" ((v "a") ◂ (v "a") ◂ (v "a") ◂ nil)) ◂ nil)) (c "Pair" ((c "Tree" ((v "a") ◂ (v "a") ◂ (v "a") ◂ nil)) ◂ (c "Tree" ((v "a") ◂ (v "a") ◂ (v "a") ◂ nil)) ◂ nil))) ◂ (arrow (c "Pair" ((c "Tree" ((v "a") ◂ (v "a") ◂ (v "a") ◂ nil)) ◂ (c "Tree" ((v "a") ◂ (v "a") ◂ (v "a") ◂ nil)) ◂ nil)) (c "Pair" ((c "Tree" ((v "a") ◂ (v "a") ◂ (v "a") ◂ nil)) ◂ (c "Tree" ((v "a") ◂ (v "a") ◂ (v "a") ◂ nil)) ◂ nil))) ◂ nil)) ◂ (c "Pair" ((arrow (c "Pair" ((c "Tree" ((v "a") ◂ (v "a") ◂ (v "a") ◂ nil)) ◂ (c "Tree" ((v "a") ◂ (v "a") ◂ (v "a") ◂ nil)) ◂ nil)) (c "Pair" ((c "Tree" ((v "a") ◂ (v "a") ◂ (v "a") ◂ nil)) ◂ (c "Tree" ((v "a") ◂ (v "a") ◂ (v "a") ◂ nil)) ◂ nil))) ◂ (arrow (c "Pair" ((c "Tree" ((v "a") ◂ (v "a") ◂ (v "a") ◂ nil)) ◂ (c "Tree" ((v "a") ◂ (v "a") ◂ (v "a") ◂ nil)) ◂ nil)) (c "Pair" ((c "Tree" ((v "a") ◂ (v "a") ◂ (v "a") ◂ nil)) ◂ (c "Tree" ((v "a") ◂ (v "a") ◂ (v "a") ◂ nil)) ◂ nil))) ◂ nil)) ◂ (c "Pair" ((arrow (c "Pair" ((c "Tree" ((v "a") ◂ (v "a") ◂ (v "a") ◂ nil)) ◂ (c "Tree" ((v "a") ◂ (v "a") ◂ (v "a") ◂ nil)) ◂ nil)) (c "Pair" ((c "Tree" ((v "a") ◂ (v "a") ◂ (v "a") ◂ nil)) ◂ (c "Tree" ((v "a") ◂ (v "a") ◂ (v "a") ◂ nil)) ◂ nil))) ◂ (arrow (c "Pair" ((c "Tree" ((v "a") ◂ (v "a") ◂ (v "a") ◂ nil)) ◂ (c "Tree" ((v "a") ◂ (v "a") ◂ (v "a") ◂ nil)) ◂ nil)) (c "Pair" ((c "Tree" ((v "a") ◂ (v "a") ◂ (v "a") ◂ nil)) ◂ (c "Tree" ((v "a") ◂ (v "a") ◂ (v "a") ◂ nil)) ◂ nil))) ◂ nil)) ◂ nil)) (c "Tree" ((c "Pair" ((arrow (c "Pair" ((c "Tree" ((v "a") ◂ (v "a") ◂ (v "a") ◂ nil)) ◂ (c "Tree" ((v "a") ◂ (v "a") ◂ (v "a") ◂ nil)) ◂ nil)) (c "Pair" ((c "Tree" ((v "a") ◂ (v "a") ◂ (v "a") ◂ nil)) ◂ (c "Tree" ((v "a") ◂ (v "a") ◂ (v "a") ◂ nil)) ◂ nil))) ◂ (arrow (c "Pair" ((c "Tree" ((v "a") ◂ (v "a") ◂ (v "a") ◂ nil)) ◂ (c "Tree" ((v "a") ◂ (v "a") ◂ (v "a") ◂ nil)) ◂ nil)) (c "Pair" ((c "Tree" ((v "a") ◂ (v "a") ◂ (v "a") ◂ nil)) ◂ (c "Tree" ((v "a") ◂ (v "a") ◂ (v "a") ◂ nil)) ◂ nil))) ◂ nil)) ◂ (c "Pair" ((arrow (c "Pair" ((c "Tree" ((v "a") ◂ (v "a") ◂ (v "a") ◂ nil)) ◂ (c "Tree" ((v "a") ◂ (v "a") ◂ (v "a") ◂ nil)) ◂ nil)) (c "Pair" ((c "Tree" ((v "a") ◂ (v "a") ◂ (v "a") ◂ nil)) ◂ (c "Tree" ((v "a") ◂ (v "a") ◂ (v "a") ◂ nil)) ◂ nil))) ◂ (arrow (c "Pair" ((c "Tree" ((v "a") ◂ (v "a") ◂ (v "a") ◂ nil)) ◂ (c "Tree" ((v "a") ◂ (v "a") ◂ (v "a") ◂ nil)) ◂ nil)) (c "Pair" ((c "Tree" ((v "a") ◂ (v "a") ◂ (v "a") ◂ nil)) ◂ (c "Tree" ((v "a") ◂ (v "a") ◂ (v "a") ◂ nil)) ◂ nil))) ◂ nil)) ◂ (c "Pair" ((arrow (c "Pair" ((c "Tree" ((v "a") ◂ (v "a") ◂ (v "a") ◂ nil)) ◂ (c "Tree" ((v "a") ◂ (v "a") ◂ (v "a") ◂ nil)) ◂ nil)) (c "Pair" ((c "Tree" ((v "a") ◂ (v "a") ◂ (v "a") ◂ nil)) ◂ (c "Tree" ((v "a") ◂ (v "a") ◂ (v "a") ◂ nil)) ◂ nil))) ◂ (arrow (c "Pair" ((c "Tree" ((v "a") ◂ (v "a") ◂ (v "a") ◂ nil)) ◂ (c "Tree" ((v "a") ◂ (v "a") ◂ (v "a") ◂ nil)) ◂ nil)) (c "Pair" ((c "Tree" ((v "a") ◂ (v "a") ◂ (v "a") ◂ nil)) ◂ (c "Tree" ((v "a") ◂ (v "a") ◂ (v "a") ◂ nil)) ◂ nil))) ◂ nil)) ◂ nil))) []
    ∷ instance [] "Big" (c "Int" nil) []
    ∷ check (eapp (ev "big") (eint 1))
    ∷ check (eapp (ev "big") (eapp (ev "big") (eint 1)))
    ∷ check (lam "x" (eapp (ev "big") (ev "x")))
    ∷ check (bind "f" (lam "x" (lam "s" (eapp (eapp (ev "s") (ev "x")) (ev "x")))) (eapp (ev "f") (eapp (ev "f") (eapp (ev "f") (eint 1)))))
    ∷ []

s_5001404_computed : metered 512 65536 512 s_5001404 ≡ said "declarations 7\n0 0 - | 479 512 0 0\n1 0 - | 246 752 1 0\n2 5 - | 0 752 1 0\n3 5 - | 0 752 1 0\n4 5 - | 0 752 1 0\n5 5 - | 0 752 1 0\n6 5 - | 0 752 1 0\n"
unfolding everything metered said
s_5001404_computed = refl

abbrev s_5001648 : List Decl
s_5001648 =
    class "Eq" "a" [] (sig "eq" (arrow (v "a") (arrow (v "a") (c "Bool" nil))) ∷ []) []
    ∷ class "Ord" "a" ("Eq" ∷ []) (sig "lt" (arrow (v "a") (arrow (v "a") (c "Bool" nil))) ∷ []) []
    ∷ class "Real" "a" ("Ord" ∷ "Eq" ∷ []) (sig "add" (arrow (v "a") (arrow (v "a") (v "a"))) ∷ []) []
    ∷ class "Bag" "a" [] (sig "nil" (c "List" ((v "a") ◂ nil)) ∷ sig "cons" (arrow (v "a") (arrow (c "List" ((v "a") ◂ nil)) (c "List" ((v "a") ◂ nil)))) ∷ sig "pair" (arrow (v "a") (arrow (v "b") (c "Pair" ((v "a") ◂ (v "b") ◂ nil)))) ∷ sig "odd" (arrow (v "a") (c "List" nil)) ∷ []) (body "nil" (eint 0) ∷ body "cons" (eint 0) ∷ body "pair" (eint 0) ∷ body "odd" (eint 0) ∷ [])
    ∷ instance [] "Bag" (c "Int" nil) []
    ∷ instance [] "Bag" (c "List" ((v "a") ◂ nil)) []
    ∷ instance [] "Bag" (c "Pair" ((v "a") ◂ (v "b") ◂ nil)) []
    ∷ instance [] "Eq" (c "Int" nil) (body "eq" (ev "primEqInt") ∷ [])
    ∷ instance [] "Ord" (c "Int" nil) (body "lt" (ev "primLtInt") ∷ [])
    ∷ instance [] "Eq" (c "Bool" nil) (body "eq" (ev "primEqBool") ∷ [])
    ∷ instance [] "Ord" (c "Bool" nil) (body "lt" (ev "primAndBool") ∷ [])
    ∷ instance [] "Real" (c "Int" nil) (body "add" (ev "primAddInt") ∷ [])
    ∷ instance (at "Eq" (v "a") ∷ []) "Eq" (c "List" ((v "a") ◂ nil)) (body "eq" (lam "x" (lam "y" (ebool true))) ∷ [])
    ∷ instance (at "Eq" (v "a") ∷ at "Eq" (v "b") ∷ []) "Eq" (c "Pair" ((v "a") ◂ (v "b") ◂ nil)) (body "eq" (lam "x" (lam "y" (ebool false))) ∷ [])
    ∷ check (lam "y" (bind "h" (lam "x" (bind "k" (eapp (eapp (lam "p" (lam "q" (ev "p"))) (eapp (eapp (ev "pair") (ev "x")) (ev "x"))) (eapp (ev "lt") (ev "x"))) (eapp (eapp (lam "p" (lam "q" (ev "q"))) (ev "k")) (eapp (eapp (ev "pair") (ev "x")) (ev "x"))))) (eapp (ev "h") (ev "y"))))
    ∷ define "twice" (ev "lt")
    ∷ define "k" (lam "y" (eapp (eapp (ev "add") (ev "y")) (ev "y")))
    ∷ []

s_5001648_computed : metered 512 65536 512 s_5001648 ≡ said "declarations 17\n0 0 - | 11 44 0 0\n1 0 - | 11 55 0 0\n2 0 - | 11 66 0 0\n3 0 - | 42 108 0 0\n4 0 - | 13 113 0 0\n5 0 - | 16 119 0 0\n6 0 - | 19 126 0 0\n7 0 - | 37 128 0 0\n8 0 - | 42 132 0 0\n9 0 - | 39 134 0 0\n10 0 - | 45 138 0 0\n11 0 - | 47 144 0 0\n12 0 - | 53 150 2 0\n13 0 - | 62 158 4 0\n14 6 - | 512 158 4 0\n15 0 [Ord a] (-> a (-> a Bool)) | 25 164 5 1\n16 0 [Real a] (-> a a) | 74 168 9 2\n"
unfolding everything metered said
s_5001648_computed = refl

abbrev s_5001884 : List Decl
s_5001884 =
    class "Show" "a" [] (sig "neg" (arrow (v "a") (c "List" nil)) ∷ sig "use1" (arrow (c "List" nil) (v "a")) ∷ []) (body "use1" (ev "use1") ∷ [])
    ∷ define "many" (lam "x0" (lam "x1" (lam "x2" (lam "x3" (lam "x4" (lam "x5" (lam "x6" (lam "x7" (lam "x8" (lam "x9" (lam "x10" (lam "x11" (lam "x12" (lam "x13" (lam "x14" (lam "x15" (lam "x16" (lam "x17" (lam "x18" (lam "x19" (lam "x20" (eapp (eapp (lam "u" (lam "v" (ev "v"))) (eapp (ev "neg") (ev "x3"))) (eapp (eapp (lam "u" (lam "v" (ev "v"))) (eapp (ev "neg") (ev "x10"))) (eapp (eapp (lam "u" (lam "v" (ev "v"))) (eapp (ev "neg") (ev "x4"))) (ev "x1")))))))))))))))))))))))))
    ∷ check (ev "many")
    ∷ check (eapp (ev "many") (eint 1))
    ∷ define "more" (eapp (ev "many") (eint 1))
    ∷ check (lam "y" (bind "m" (lam "x0" (lam "x1" (ev "x0"))) (eapp (ev "m") (ev "y"))))
    ∷ []

s_5001884_computed : metered 512 65536 512 s_5001884 ≡ said "declarations 6\n0 0 - | 14 47 0 0\n1 6 - | 512 47 0 0\n2 11 many | 1 47 0 0\n3 11 many | 2 47 0 0\n4 11 many | 2 47 0 0\n5 0 [] (-> a (-> b a)) = (lam y (let m (lam x0 (lam x1 x0)) (app m y))) | 71 47 6 0\n"
unfolding everything metered said
s_5001884_computed = refl

abbrev s_5001976 : List Decl
s_5001976 =
    class "Eq" "a" [] (sig "eq" (arrow (v "a") (arrow (v "a") (c "Bool" nil))) ∷ []) (body "eq" (eint 1) ∷ [])
    ∷ instance [] "Eq" (c "Int" nil) []
    ∷ instance (at "Eq" (v "a") ∷ []) "Eq" (c "List" ((v "a") ◂ nil)) []
    ∷ class "Deep" "a" [] (sig "mk" (arrow (v "a") (c "List" ((c "List" ((c "List" ((c "List" ((c "List" ((c "List" ((c "List" ((c "List" ((c "List" ((c "List" ((c "List" ((c "List" ((c "List" ((c "List" ((c "List" ((c "List" ((c "List" ((c "List" ((c "List" ((c "List" ((c "List" ((c "List" ((c "List" ((c "List" ((c "List" ((c "List" ((c "List" ((c "List" ((c "List" ((c "List" ((c "List" ((c "List" ((c "List" ((c "List" ((c "List" ((c "List" ((c "List" ((c "List" ((c "List" ((c "List" ((c "List" ((c "List" ((c "List" ((c "List" ((c "List" ((c "List" ((c "List" ((c "List" ((c "List" ((c "List" ((c "List" ((c "List" ((c "List" ((c "List" ((c "List" ((c "List" ((c "List" ((c "List" ((c "List" ((c "List" ((c "List" ((c "List" ((c "List" ((c "List" ((c "List" ((c "List" ((c "List" ((c "List" ((c "List" ((c "List" ((c "List" ((c "List" ((c "List" ((c "List" ((c "List" ((c "List" ((c "List" ((c "List" ((c "List" ((c "List" ((c "List" ((c "List" ((c "List" ((c "List" ((c "List" ((c "List" ((c "List" ((c "List" ((c "List" ((c "List" ((c "List" ((c "List" ((c "List" ((c "List" ((c "List" ((c "List" ((c "List" ((c "List" ((c "List" ((c "List" ((c "List" ((c "List" ((c "List" ((c "List" ((c "List" ((c "List" ((c "List" ((c "List" ((c "List" ((c "List" ((c "List" ((c "List" ((c "List" ((c "List" ((c "List" ((c "List" ((c "List" ((c "List" ((c "List" ((c "List" ((c "List" ((c "List" ((c "List" ((c "List" ((c "List" ((c "List" ((c "List" ((c "List" ((c "List" ((c "List" ((c "List" ((c "List" ((c "List" ((c "List" ((c "List" ((c "List" ((c "List" ((c "List" ((c "List" ((c "List" ((c "List" ((c "List" ((c "List" ((c "List" ((c "List" ((c "List" ((c "List" ((c "List" ((c "List" ((c "List" ((c "List" ((c "List" ((c "List" ((c "List" ((c "List" ((c "List" ((c "List" ((c "List" ((c "List" ((c "List" ((c "List" ((c "List" ((c "List" ((c "List" ((c "List" ((c "List" ((c "List" ((c "List" ((c "List" ((c "List" ((c "List" ((c "List" ((c "List" ((c "List" ((c "List" ((c "List" ((c "List" ((c "List" ((c "List" ((c "List" ((c "List" ((c "List" ((c "List" ((c "List" ((c "List" ((c "List" ((c "List" ((c "List" ((c "List" ((c "List" ((c "List" ((c "List" ((c "List" ((c "List" ((c "List" ((c "List" ((c "List" ((c "List" ((c "List" ((c "List" ((c "List" ((c "List" ((c "List" ((c "List" ((c "List" ((c "List" ((c "List" ((c "List" ((c "List" ((c "List" ((c "List" ((c "List" ((c "List" ((c "List" ((c "List" ((c "List" ((c "List" ((c "List" ((c "List" ((c "List" ((c "List" ((c "List" ((c "List" ((c "List" ((c "List" ((c "List" ((c "List" ((c "List" ((c "List" ((c "List" ((c "List" ((c "List" ((c "List" ((c "List" ((c "List" ((c "List" ((c "List" ((c "List" ((c "List" ((c "List" ((c "List" ((c "List" ((c "List" ((c "List" ((c "List" ((c "List" ((c "List" ((c "List" ((c "List" ((c "List" ((v "a") ◂ nil)) ◂ nil)) ◂ nil)) ◂ nil)) ◂ nil)) ◂ nil)) ◂ nil)) ◂ nil)) ◂ nil)) ◂ nil)) ◂ nil)) ◂ nil)) ◂ nil)) ◂ nil)) ◂ nil)) ◂ nil)) ◂ nil)) ◂ nil)) ◂ nil)) ◂ nil)) ◂ nil)) ◂ nil)) ◂ nil)) ◂ nil)) ◂ nil)) ◂ nil)) ◂ nil)) ◂ nil)) ◂ nil)) ◂ nil)) ◂ nil)) ◂ nil)) ◂ nil)) ◂ nil)) ◂ nil)) ◂ nil)) ◂ nil)) ◂ nil)) ◂ nil)) ◂ nil)) ◂ nil)) ◂ nil)) ◂ nil)) ◂ nil)) ◂ nil)) ◂ nil)) ◂ nil)) ◂ nil)) ◂ nil)) ◂ nil)) ◂ nil)) ◂ nil)) ◂ nil)) ◂ nil)) ◂ nil)) ◂ nil)) ◂ nil)) ◂ nil)) ◂ nil)) ◂ nil)) ◂ nil)) ◂ nil)) ◂ nil)) ◂ nil)) ◂ nil)) ◂ nil)) ◂ nil)) ◂ nil)) ◂ nil)) ◂ nil)) ◂ nil)) ◂ nil)) ◂ nil)) ◂ nil)) ◂ nil)) ◂ nil)) ◂ nil)) ◂ nil)) ◂ nil)) ◂ nil)) ◂ nil)) ◂ nil)) ◂ nil)) ◂ nil)) ◂ nil)) ◂ nil)) ◂ nil)) ◂ nil)) ◂ nil)) ◂ nil)) ◂ nil)) ◂ nil)) ◂ nil)) ◂ nil)) ◂ nil)) ◂ nil)) ◂ nil)) ◂ nil)) ◂ nil)) ◂ nil)) ◂ nil)) ◂ nil)) ◂ nil)) ◂ nil)) ◂ nil)) ◂ nil)) ◂ nil)) ◂ nil)) ◂ nil)) ◂ nil)) ◂ nil)) ◂ nil)) ◂ nil)) ◂ nil)) ◂ nil)) ◂ nil)) ◂ nil)) ◂ nil)) ◂ nil)) ◂ nil)) ◂ nil)) ◂ nil)) ◂ nil)) ◂ nil)) ◂ nil)) ◂ nil)) ◂ nil)) ◂ nil)) ◂ nil)) ◂ nil)) ◂ nil)) ◂ nil)) ◂ nil)) ◂ nil)) ◂ nil)) ◂ nil)) ◂ nil)) ◂ nil)) ◂ nil)) ◂ nil)) ◂ nil)) ◂ nil)) ◂ nil)) ◂ nil)) ◂ nil)) ◂ nil)) ◂ nil)) ◂ nil)) ◂ nil)) ◂ nil)) ◂ nil)) ◂ nil)) ◂ nil)) ◂ nil)) ◂ nil)) ◂ nil)) ◂ nil)) ◂ nil)) ◂ nil)) ◂ nil)) ◂ nil)) ◂ nil)) ◂ nil)) ◂ nil)) ◂ nil)) ◂ nil)) ◂ nil)) ◂ nil)) ◂ nil)) ◂ nil)) ◂ nil)) ◂ nil)) ◂ nil)) ◂ nil)) ◂ nil)) ◂ nil)) ◂ nil)) ◂ nil)) ◂ nil)) ◂ nil)) ◂ nil)) ◂ nil)) ◂ nil)) ◂ nil)) ◂ nil)) ◂ nil)) ◂ nil)) ◂ nil)) ◂ nil)) ◂ nil)) ◂ nil)) ◂ nil)) ◂ nil)) ◂ nil)) ◂ nil)) ◂ nil)) ◂ nil)) ◂ nil)) ◂ nil)) ◂ nil)) ◂ nil)) ◂ nil)) ◂ nil)) ◂ nil)) ◂ nil)) ◂ nil)) ◂ nil)) ◂ nil)) ◂ nil)) ◂ nil)) ◂ nil)) ◂ nil)) ◂ nil)) ◂ nil)) ◂ nil)) ◂ nil)) ◂ nil)) ◂ nil)) ◂ nil)) ◂ nil)) ◂ nil)) ◂ nil)) ◂ nil)) ◂ nil)) ◂ nil)) ◂ nil)) ◂ nil)) ◂ nil)) ◂ nil)) ◂ nil)) ◂ nil)) ◂ nil)) ◂ nil)) ◂ nil)) ◂ nil)) ◂ nil)) ◂ nil)) ◂ nil)) ◂ nil)) ◂ nil)) ◂ nil)) ◂ nil)) ◂ nil)) ◂ nil)) ◂ nil)) ◂ nil)) ◂ nil)) ◂ nil)) ◂ nil)) ◂ nil))) ∷ []) (body "mk" (eint 1) ∷ [])
    ∷ instance [] "Deep" (c "Int" nil) []
    ∷ check (eapp (ev "mk") (eint 1))
    ∷ check (eapp (ev "eq") (eapp (ev "mk") (eint 1)))
    ∷ define "g" (lam "x" (eapp (ev "eq") (eapp (ev "mk") (ev "x"))))
    ∷ instance [] "Deep" (c "List" ((c "List" ((c "List" ((c "List" ((c "List" ((c "List" ((c "List" ((c "List" ((c "List" ((c "List" ((c "List" ((c "List" ((c "List" ((c "List" ((c "List" ((c "List" ((c "List" ((c "List" ((c "List" ((c "List" ((c "List" ((c "List" ((c "List" ((c "List" ((c "List" ((c "List" ((c "List" ((c "List" ((c "List" ((c "List" ((c "List" ((c "List" ((c "List" ((c "List" ((c "List" ((c "List" ((c "List" ((c "List" ((c "List" ((c "List" ((c "List" ((c "List" ((c "List" ((c "List" ((c "List" ((c "List" ((c "List" ((c "List" ((c "List" ((c "List" ((c "List" ((c "List" ((c "List" ((c "List" ((c "List" ((c "List" ((c "List" ((c "List" ((c "List" ((c "List" ((c "List" ((c "List" ((c "List" ((c "List" ((c "List" ((c "List" ((c "List" ((c "List" ((c "List" ((c "List" ((c "List" ((c "List" ((c "List" ((c "List" ((c "List" ((c "List" ((c "List" ((c "List" ((c "List" ((c "List" ((c "List" ((c "List" ((c "List" ((c "List" ((c "List" ((c "List" ((c "List" ((c "List" ((c "List" ((c "List" ((c "List" ((c "List" ((c "List" ((c "List" ((c "List" ((c "List" ((c "List" ((c "List" ((c "List" ((c "List" ((c "List" ((c "List" ((c "List" ((c "List" ((c "List" ((c "List" ((c "List" ((c "List" ((c "List" ((c "List" ((c "List" ((c "List" ((c "List" ((c "List" ((c "List" ((c "List" ((c "List" ((c "List" ((c "List" ((c "List" ((c "List" ((c "List" ((c "List" ((c "List" ((c "List" ((c "List" ((c "List" ((c "List" ((c "List" ((c "List" ((c "List" ((c "List" ((c "List" ((c "List" ((c "List" ((c "List" ((c "List" ((c "List" ((c "List" ((c "List" ((c "List" ((c "List" ((c "List" ((c "List" ((c "List" ((c "List" ((c "List" ((c "List" ((c "List" ((c "List" ((c "List" ((c "List" ((c "List" ((c "List" ((c "List" ((c "List" ((c "List" ((c "List" ((c "List" ((c "List" ((c "List" ((c "List" ((c "List" ((c "List" ((c "List" ((c "List" ((c "List" ((c "List" ((c "List" ((c "List" ((c "List" ((c "List" ((c "List" ((c "List" ((c "List" ((c "List" ((c "List" ((c "List" ((c "List" ((c "List" ((c "List" ((c "List" ((c "List" ((c "List" ((c "List" ((c "List" ((c "List" ((c "List" ((c "List" ((c "List" ((c "List" ((c "List" ((c "List" ((c "List" ((c "List" ((c "List" ((c "List" ((c "List" ((c "List" ((c "List" ((c "List" ((c "List" ((c "List" ((c "List" ((c "List" ((c "List" ((c "List" ((c "List" ((c "List" ((c "List" ((c "List" ((c "List" ((c "List" ((c "List" ((c "List" ((c "List" ((c "List" ((c "List" ((c "List" ((c "List" ((c "List" ((c "List" ((c "List" ((c "List" ((c "List" ((c "List" ((c "List" ((c "List" ((c "List" ((c "List" ((c "List" ((c "List" ((c "List" ((c "List" ((c "List" ((c "List" ((c "List" ((c "List" ((c "List" ((c "List" ((c "List" ((c "List" ((c "List" ((c "List" ((c "List" ((c "List" ((c "List" ((c "List" ((c "List" ((c "List" ((v "a") ◂ nil)) ◂ nil)) ◂ nil)) ◂ nil)) ◂ nil)) ◂ nil)) ◂ nil)) ◂ nil)) ◂ nil)) ◂ nil)) ◂ nil)) ◂ nil)) ◂ nil)) ◂ nil)) ◂ nil)) ◂ nil)) ◂ nil)) ◂ nil)) ◂ nil)) ◂ nil)) ◂ nil)) ◂ nil)) ◂ nil)) ◂ nil)) ◂ nil)) ◂ nil)) ◂ nil)) ◂ nil)) ◂ nil)) ◂ nil)) ◂ nil)) ◂ nil)) ◂ nil)) ◂ nil)) ◂ nil)) ◂ nil)) ◂ nil)) ◂ nil)) ◂ nil)) ◂ nil)) ◂ nil)) ◂ nil)) ◂ nil)) ◂ nil)) ◂ nil)) ◂ nil)) ◂ nil)) ◂ nil)) ◂ nil)) ◂ nil)) ◂ nil)) ◂ nil)) ◂ nil)) ◂ nil)) ◂ nil)) ◂ nil)) ◂ nil)) ◂ nil)) ◂ nil)) ◂ nil)) ◂ nil)) ◂ nil)) ◂ nil)) ◂ nil)) ◂ nil)) ◂ nil)) ◂ nil)) ◂ nil)) ◂ nil)) ◂ nil)) ◂ nil)) ◂ nil)) ◂ nil)) ◂ nil)) ◂ nil)) ◂ nil)) ◂ nil)) ◂ nil)) ◂ nil)) ◂ nil)) ◂ nil)) ◂ nil)) ◂ nil)) ◂ nil)) ◂ nil)) ◂ nil)) ◂ nil)) ◂ nil)) ◂ nil)) ◂ nil)) ◂ nil)) ◂ nil)) ◂ nil)) ◂ nil)) ◂ nil)) ◂ nil)) ◂ nil)) ◂ nil)) ◂ nil)) ◂ nil)) ◂ nil)) ◂ nil)) ◂ nil)) ◂ nil)) ◂ nil)) ◂ nil)) ◂ nil)) ◂ nil)) ◂ nil)) ◂ nil)) ◂ nil)) ◂ nil)) ◂ nil)) ◂ nil)) ◂ nil)) ◂ nil)) ◂ nil)) ◂ nil)) ◂ nil)) ◂ nil)) ◂ nil)) ◂ nil)) ◂ nil)) ◂ nil)) ◂ nil)) ◂ nil)) ◂ nil)) ◂ nil)) ◂ nil)) ◂ nil)) ◂ nil)) ◂ nil)) ◂ nil)) ◂ nil)) ◂ nil)) ◂ nil)) ◂ nil)) ◂ nil)) ◂ nil)) ◂ nil)) ◂ nil)) ◂ nil)) ◂ nil)) ◂ nil)) ◂ nil)) ◂ nil)) ◂ nil)) ◂ nil)) ◂ nil)) ◂ nil)) ◂ nil)) ◂ nil)) ◂ nil)) ◂ nil)) ◂ nil)) ◂ nil)) ◂ nil)) ◂ nil)) ◂ nil)) ◂ nil)) ◂ nil)) ◂ nil)) ◂ nil)) ◂ nil)) ◂ nil)) ◂ nil)) ◂ nil)) ◂ nil)) ◂ nil)) ◂ nil)) ◂ nil)) ◂ nil)) ◂ nil)) ◂ nil)) ◂ nil)) ◂ nil)) ◂ nil)) ◂ nil)) ◂ nil)) ◂ nil)) ◂ nil)) ◂ nil)) ◂ nil)) ◂ nil)) ◂ nil)) ◂ nil)) ◂ nil)) ◂ nil)) ◂ nil)) ◂ nil)) ◂ nil)) ◂ nil)) ◂ nil)) ◂ nil)) ◂ nil)) ◂ nil)) ◂ nil)) ◂ nil)) ◂ nil)) ◂ nil)) ◂ nil)) ◂ nil)) ◂ nil)) ◂ nil)) ◂ nil)) ◂ nil)) ◂ nil)) ◂ nil)) ◂ nil)) ◂ nil)) ◂ nil)) ◂ nil)) ◂ nil)) ◂ nil)) ◂ nil)) ◂ nil)) ◂ nil)) ◂ nil)) ◂ nil)) ◂ nil)) ◂ nil)) ◂ nil)) ◂ nil)) ◂ nil)) ◂ nil)) ◂ nil)) ◂ nil)) ◂ nil)) ◂ nil)) ◂ nil)) ◂ nil)) ◂ nil)) ◂ nil)) ◂ nil)) ◂ nil)) ◂ nil)) ◂ nil)) ◂ nil)) ◂ nil)) ◂ nil)) ◂ nil)) ◂ nil)) ◂ nil)) ◂ nil)) ◂ nil)) ◂ nil)) ◂ nil)) ◂ nil)) ◂ nil)) ◂ nil)) []
    ∷ instance [] "Deep" (c "List" ((c "List" ((c "List" ((c "List" ((c "List" ((c "List" ((c "List" ((c "List" ((c "List" ((c "List" ((c "List" ((c "List" ((c "List" ((c "List" ((c "List" ((c "List" ((c "List" ((c "List" ((c "List" ((c "List" ((c "List" ((c "List" ((c "List" ((c "List" ((c "List" ((c "List" ((c "List" ((c "List" ((c "List" ((c "List" ((c "List" ((c "List" ((c "List" ((c "List" ((c "List" ((c "List" ((c "List" ((c "List" ((c "List" ((c "List" ((c "List" ((c "List" ((c "List" ((c "List" ((c "List" ((c "List" ((c "List" ((c "List" ((c "List" ((c "List" ((c "List" ((c "List" ((c "List" ((c "List" ((c "List" ((c "List" ((c "List" ((c "List" ((c "List" ((c "List" ((c "List" ((c "List" ((c "List" ((c "List" ((c "List" ((c "List" ((c "List" ((c "List" ((c "List" ((c "List" ((c "List" ((c "List" ((c "List" ((c "List" ((c "List" ((c "List" ((c "List" ((c "List" ((c "List" ((c "List" ((c "List" ((c "List" ((c "List" ((c "List" ((c "List" ((c "List" ((c "List" ((c "List" ((c "List" ((c "List" ((c "List" ((c "List" ((c "List" ((c "List" ((c "List" ((c "List" ((c "List" ((c "List" ((c "List" ((c "List" ((c "List" ((c "List" ((c "List" ((c "List" ((c "List" ((c "List" ((c "List" ((c "List" ((c "List" ((c "List" ((c "List" ((c "List" ((c "List" ((c "List" ((c "List" ((c "List" ((c "List" ((c "List" ((c "List" ((c "List" ((c "List" ((c "List" ((c "List" ((c "List" ((c "List" ((c "List" ((c "List" ((c "List" ((c "List" ((c "List" ((c "List" ((c "List" ((c "List" ((c "List" ((c "List" ((c "List" ((c "List" ((c "List" ((c "List" ((c "List" ((c "List" ((c "List" ((c "List" ((c "List" ((c "List" ((c "List" ((c "List" ((c "List" ((c "List" ((c "List" ((c "List" ((c "List" ((c "List" ((c "List" ((c "List" ((c "List" ((c "List" ((c "List" ((c "List" ((c "List" ((c "List" ((c "List" ((c "List" ((c "List" ((c "List" ((c "List" ((c "List" ((c "List" ((c "List" ((c "List" ((c "List" ((c "List" ((c "List" ((c "List" ((c "List" ((c "List" ((c "List" ((c "List" ((c "List" ((c "List" ((c "List" ((c "List" ((c "List" ((c "List" ((c "List" ((c "List" ((c "List" ((c "List" ((c "List" ((c "List" ((c "List" ((c "List" ((c "List" ((c "List" ((c "List" ((c "List" ((c "List" ((c "List" ((c "List" ((c "List" ((c "List" ((c "List" ((c "List" ((c "List" ((c "List" ((c "List" ((c "List" ((c "List" ((c "List" ((c "List" ((c "List" ((c "List" ((c "List" ((c "List" ((c "List" ((c "List" ((c "List" ((c "List" ((c "List" ((c "List" ((c "List" ((c "List" ((c "List" ((c "List" ((c "List" ((c "List" ((c "List" ((c "List" ((c "List" ((c "List" ((c "List" ((c "List" ((c "List" ((c "List" ((c "List" ((c "List" ((c "List" ((c "List" ((c "List" ((c "List" ((c "List" ((c "List" ((c "List" ((c "List" ((c "List" ((c "List" ((c "List" ((c "List" ((c "List" ((c "List" ((v "a") ◂ nil)) ◂ nil)) ◂ nil)) ◂ nil)) ◂ nil)) ◂ nil)) ◂ nil)) ◂ nil)) ◂ nil)) ◂ nil)) ◂ nil)) ◂ nil)) ◂ nil)) ◂ nil)) ◂ nil)) ◂ nil)) ◂ nil)) ◂ nil)) ◂ nil)) ◂ nil)) ◂ nil)) ◂ nil)) ◂ nil)) ◂ nil)) ◂ nil)) ◂ nil)) ◂ nil)) ◂ nil)) ◂ nil)) ◂ nil)) ◂ nil)) ◂ nil)) ◂ nil)) ◂ nil)) ◂ nil)) ◂ nil)) ◂ nil)) ◂ nil)) ◂ nil)) ◂ nil)) ◂ nil)) ◂ nil)) ◂ nil)) ◂ nil)) ◂ nil)) ◂ nil)) ◂ nil)) ◂ nil)) ◂ nil)) ◂ nil)) ◂ nil)) ◂ nil)) ◂ nil)) ◂ nil)) ◂ nil)) ◂ nil)) ◂ nil)) ◂ nil)) ◂ nil)) ◂ nil)) ◂ nil)) ◂ nil)) ◂ nil)) ◂ nil)) ◂ nil)) ◂ nil)) ◂ nil)) ◂ nil)) ◂ nil)) ◂ nil)) ◂ nil)) ◂ nil)) ◂ nil)) ◂ nil)) ◂ nil)) ◂ nil)) ◂ nil)) ◂ nil)) ◂ nil)) ◂ nil)) ◂ nil)) ◂ nil)) ◂ nil)) ◂ nil)) ◂ nil)) ◂ nil)) ◂ nil)) ◂ nil)) ◂ nil)) ◂ nil)) ◂ nil)) ◂ nil)) ◂ nil)) ◂ nil)) ◂ nil)) ◂ nil)) ◂ nil)) ◂ nil)) ◂ nil)) ◂ nil)) ◂ nil)) ◂ nil)) ◂ nil)) ◂ nil)) ◂ nil)) ◂ nil)) ◂ nil)) ◂ nil)) ◂ nil)) ◂ nil)) ◂ nil)) ◂ nil)) ◂ nil)) ◂ nil)) ◂ nil)) ◂ nil)) ◂ nil)) ◂ nil)) ◂ nil)) ◂ nil)) ◂ nil)) ◂ nil)) ◂ nil)) ◂ nil)) ◂ nil)) ◂ nil)) ◂ nil)) ◂ nil)) ◂ nil)) ◂ nil)) ◂ nil)) ◂ nil)) ◂ nil)) ◂ nil)) ◂ nil)) ◂ nil)) ◂ nil)) ◂ nil)) ◂ nil)) ◂ nil)) ◂ nil)) ◂ nil)) ◂ nil)) ◂ nil)) ◂ nil)) ◂ nil)) ◂ nil)) ◂ nil)) ◂ nil)) ◂ nil)) ◂ nil)) ◂ nil)) ◂ nil)) ◂ nil)) ◂ nil)) ◂ nil)) ◂ nil)) ◂ nil)) ◂ nil)) ◂ nil)) ◂ nil)) ◂ nil)) ◂ nil)) ◂ nil)) ◂ nil)) ◂ nil)) ◂ nil)) ◂ nil)) ◂ nil)) ◂ nil)) ◂ nil)) ◂ nil)) ◂ nil)) ◂ nil)) ◂ nil)) ◂ nil)) ◂ nil)) ◂ nil)) ◂ nil)) ◂ nil)) ◂ nil)) ◂ nil)) ◂ nil)) ◂ nil)) ◂ nil)) ◂ nil)) ◂ nil)) ◂ nil)) ◂ nil)) ◂ nil)) ◂ nil)) ◂ nil)) ◂ nil)) ◂ nil)) ◂ nil)) ◂ nil)) ◂ nil)) ◂ nil)) ◂ nil)) ◂ nil)) ◂ nil)) ◂ nil)) ◂ nil)) ◂ nil)) ◂ nil)) ◂ nil)) ◂ nil)) ◂ nil)) ◂ nil)) ◂ nil)) ◂ nil)) ◂ nil)) ◂ nil)) ◂ nil)) ◂ nil)) ◂ nil)) ◂ nil)) ◂ nil)) ◂ nil)) ◂ nil)) ◂ nil)) ◂ nil)) ◂ nil)) ◂ nil)) ◂ nil)) ◂ nil)) ◂ nil)) ◂ nil)) ◂ nil)) ◂ nil)) ◂ nil)) ◂ nil)) ◂ nil)) ◂ nil)) ◂ nil)) ◂ nil)) ◂ nil)) ◂ nil)) ◂ nil)) ◂ nil)) ◂ nil)) ◂ nil)) ◂ nil)) ◂ nil)) ◂ nil)) ◂ nil)) ◂ nil)) ◂ nil)) ◂ nil)) ◂ nil)) []
    ∷ check (eapp (eapp (eapp (lam "x" (eapp (eapp (lam "u" (lam "v" (ev "v"))) (eapp (eapp (ev "eq") (ev "x")) (ev "x"))) (eapp (eapp (ev "eq") (ev "x")) (ev "x")))) (ebool true)) (eint 5)) (eint 5))
    ∷ []

s_5001976_computed : metered 512 65536 512 s_5001976 ≡ said "declarations 11\n0 0 - | 11 44 0 0\n1 0 - | 4 46 0 0\n2 0 - | 8 50 0 0\n3 0 - | 507 557 0 0\n4 5 - | 0 557 0 0\n5 5 - | 0 557 0 0\n6 5 - | 0 557 0 0\n7 5 - | 0 557 0 0\n8 5 - | 0 557 0 0\n9 5 - | 0 557 0 0\n10 5 - | 0 557 0 0\n"
unfolding everything metered said
s_5001976_computed = refl

abbrev s_5002022 : List Decl
s_5002022 =
    check (eapp (eapp (eapp (eapp (eapp (eapp (eapp (eapp (eapp (eapp (eapp (eapp (eapp (eapp (eapp (eapp (eapp (eapp (eapp (eapp (eapp (eapp (eapp (eapp (eapp (eapp (eapp (eapp (eapp (eapp (eapp (eapp (eapp (eapp (eapp (eapp (eapp (eapp (eapp (eapp (eapp (eapp (eapp (eapp (eapp (eapp (eapp (eapp (eapp (eapp (eapp (eapp (eapp (eapp (eapp (eapp (eapp (eapp (eapp (eapp (eapp (eapp (eapp (eapp (eapp (eapp (eapp (eapp (eapp (eapp (eapp (eapp (eapp (eapp (eapp (eapp (eapp (eapp (eapp (eapp (eapp (eapp (eapp (eapp (eapp (eapp (eapp (eapp (eapp (eapp (eapp (eapp (eapp (eapp (eapp (eapp (eapp (eapp (eapp (eapp (eapp (eapp (eapp (eapp (eapp (eapp (eapp (eapp (eapp (eapp (eapp (eapp (eapp (eapp (eapp (eapp (eapp (eapp (eapp (eapp (eapp (eapp (eapp (eapp (eapp (eapp (eapp (eapp (eapp (eapp (eapp (eapp (eapp (eapp (eapp (eapp (eapp (eapp (eapp (eapp (eapp (eapp (eapp (eapp (eapp (eapp (eapp (eapp (eapp (eapp (eapp (eapp (eapp (eapp (eapp (eapp (eapp (eapp (eapp (eapp (eapp (eapp (eapp (eapp (eapp (eapp (eapp (eapp (eapp (eapp (eapp (eapp (eapp (eapp (eapp (eapp (eapp (eapp (eapp (eapp (eapp (eapp (eapp (eapp (eapp (eapp (eapp (eapp (eapp (eapp (eapp (eapp (eapp (eapp (eapp (eapp (eapp (eapp (eapp (eapp (eapp (eapp (eapp (eapp (eapp (eapp (eapp (eapp (eapp (eapp (eapp (eapp (eapp (eapp (eapp (eapp (eapp (eapp (eapp (eapp (eapp (eapp (eapp (eapp (eapp (eapp (eapp (eapp (eapp (eapp (eapp (eapp (eapp (eapp (eapp (eapp (eapp (eapp (eapp (eapp (eapp (eapp (eapp (eapp (eapp (eapp (eapp (eapp (eapp (eapp (eapp (eapp (eapp (eapp (eapp (eapp (eapp (eint 7) (eint 1)) (eint 1)) (eint 1)) (eint 1)) (eint 1)) (eint 1)) (eint 1)) (eint 1)) (eint 1)) (eint 1)) (eint 1)) (eint 1)) (eint 1)) (eint 1)) (eint 1)) (eint 1)) (eint 1)) (eint 1)) (eint 1)) (eint 1)) (eint 1)) (eint 1)) (eint 1)) (eint 1)) (eint 1)) (eint 1)) (eint 1)) (eint 1)) (eint 1)) (eint 1)) (eint 1)) (eint 1)) (eint 1)) (eint 1)) (eint 1)) (eint 1)) (eint 1)) (eint 1)) (eint 1)) (eint 1)) (eint 1)) (eint 1)) (eint 1)) (eint 1)) (eint 1)) (eint 1)) (eint 1)) (eint 1)) (eint 1)) (eint 1)) (eint 1)) (eint 1)) (eint 1)) (eint 1)) (eint 1)) (eint 1)) (eint 1)) (eint 1)) (eint 1)) (eint 1)) (eint 1)) (eint 1)) (eint 1)) (eint 1)) (eint 1)) (eint 1)) (eint 1)) (eint 1)) (eint 1)) (eint 1)) (eint 1)) (eint 1)) (eint 1)) (eint 1)) (eint 1)) (eint 1)) (eint 1)) (eint 1)) (eint 1)) (eint 1)) (eint 1)) (eint 1)) (eint 1)) (eint 1)) (eint 1)) (eint 1)) (eint 1)) (eint 1)) (eint 1)) (eint 1)) (eint 1)) (eint 1)) (eint 1)) (eint 1)) (eint 1)) (eint 1)) (eint 1)) (eint 1)) (eint 1)) (eint 1)) (eint 1)) (eint 1)) (eint 1)) (eint 1)) (eint 1)) (eint 1)) (eint 1)) (eint 1)) (eint 1)) (eint 1)) (eint 1)) (eint 1)) (eint 1)) (eint 1)) (eint 1)) (eint 1)) (eint 1)) (eint 1)) (eint 1)) (eint 1)) (eint 1)) (eint 1)) (eint 1)) (eint 1)) (eint 1)) (eint 1)) (eint 1)) (eint 1)) (eint 1)) (eint 1)) (eint 1)) (eint 1)) (eint 1)) (eint 1)) (eint 1)) (eint 1)) (eint 1)) (eint 1)) (eint 1)) (eint 1)) (eint 1)) (eint 1)) (eint 1)) (eint 1)) (eint 1)) (eint 1)) (eint 1)) (eint 1)) (eint 1)) (eint 1)) (eint 1)) (eint 1)) (eint 1)) (eint 1)) (eint 1)) (eint 1)) (eint 1)) (eint 1)) (eint 1)) (eint 1)) (eint 1)) (eint 1)) (eint 1)) (eint 1)) (eint 1)) (eint 1)) (eint 1)) (eint 1)) (eint 1)) (eint 1)) (eint 1)) (eint 1)) (eint 1)) (eint 1)) (eint 1)) (eint 1)) (eint 1)) (eint 1)) (eint 1)) (eint 1)) (eint 1)) (eint 1)) (eint 1)) (eint 1)) (eint 1)) (eint 1)) (eint 1)) (eint 1)) (eint 1)) (eint 1)) (eint 1)) (eint 1)) (eint 1)) (eint 1)) (eint 1)) (eint 1)) (eint 1)) (eint 1)) (eint 1)) (eint 1)) (eint 1)) (eint 1)) (eint 1)) (eint 1)) (eint 1)) (eint 1)) (eint 1)) (eint 1)) (eint 1)) (eint 1)) (eint 1)) (eint 1)) (eint 1)) (eint 1)) (eint 1)) (eint 1)) (eint 1)) (eint 1)) (eint 1)) (eint 1)) (eint 1)) (eint 1)) (eint 1)) (eint 1)) (eint 1)) (eint 1)) (eint 1)) (eint 1)) (eint 1)) (eint 1)) (eint 1)) (eint 1)) (eint 1)) (eint 1)) (eint 1)) (eint 1)) (eint 1)) (eint 1)) (eint 1)) (eint 1)) (eint 1)) (eint 1)) (eint 1)) (eint 1)) (eint 1)) (eint 1)) (eint 1)) (eint 1)) (eint 1)) (eint 1)) (eint 1)) (eint 1)) (eint 1)) (eint 1)) (eint 1)) (eint 1)) (eint 1))
    ∷ []

s_5002022_computed : metered 512 65536 512 s_5002022 ≡ said "declarations 1\n0 7 - | 256 33 0 0\n"
unfolding everything metered said
s_5002022_computed = refl

abbrev s_5002256 : List Decl
s_5002256 =
    class "Eq" "a" [] (sig "eq" (arrow (v "a") (arrow (v "a") (c "Bool" nil))) ∷ []) (body "eq" (eint 1) ∷ [])
    ∷ class "Mk" "a" [] (sig "mk" (arrow (v "a") (arrow (v "b") (c "Pair" ((v "a") ◂ (v "b") ◂ nil)))) ∷ []) (body "mk" (eint 1) ∷ [])
    ∷ instance [] "Mk" (c "Int" nil) []
    ∷ instance [] "Mk" (c "Bool" nil) []
    ∷ instance [] "Mk" (c "Pair" ((v "a") ◂ (v "b") ◂ nil)) []
    ∷ instance [] "Eq" (c "Bool" nil) []
    ∷ instance [] "Eq" (c "Pair" ((c "Int" nil) ◂ (v "a") ◂ nil)) []
    ∷ instance [] "Eq" (c "Pair" ((c "Bool" nil) ◂ (v "a") ◂ nil)) []
    ∷ instance (at "Eq" (v "a") ∷ []) "Eq" (c "Pair" ((v "a") ◂ (c "Int" nil) ◂ nil)) []
    ∷ instance [] "Eq" (c "Pair" ((v "a") ◂ (v "a") ◂ nil)) []
    ∷ check (eapp (ev "eq") (eapp (eapp (ev "mk") (eapp (eapp (ev "mk") (eint 6)) (eint 2))) (eint 1)))
    ∷ check (eapp (ev "eq") (eapp (ev "primAddInt") (eint 1)))
    ∷ check (eapp (ev "eq") (eapp (eapp (ev "mk") (ebool true)) (eapp (eapp (ev "mk") (eint 9)) (eint 2))))
    ∷ check (eapp (ev "eq") (eapp (eapp (ev "mk") (eint 7)) (eapp (eapp (ev "mk") (eint 3)) (eint 2))))
    ∷ check (eapp (ev "eq") (eapp (eapp (ev "mk") (eint 4)) (eapp (eapp (ev "mk") (eint 1)) (eint 2))))
    ∷ check (eapp (ev "eq") (eapp (eapp (ev "mk") (eapp (eapp (ev "mk") (eint 9)) (eint 2))) (eint 0)))
    ∷ check (eapp (ev "eq") (eapp (eapp (ev "mk") (eapp (eapp (ev "mk") (eint 0)) (eint 2))) (ebool true)))
    ∷ check (eapp (ev "eq") (eapp (eapp (ev "mk") (ebool true)) (eint 18446744073709551615)))
    ∷ instance [] "Mk" (c "List" ((c "Int" nil) ◂ nil)) (body "mk" (lam "x" (lam "y" (eapp (eapp (lam "u" (lam "v" (ev "v"))) (eapp (eapp (ev "eq") (ev "y")) (ev "y"))) (eapp (eapp (lam "u" (lam "v" (ev "v"))) (eapp (eapp (ev "mk") (ev "y")) (ev "y"))) (eapp (eapp (lam "u" (lam "v" (ev "v"))) (eapp (eapp (ev "mk") (ev "y")) (ev "y"))) (eapp (eapp (ev "mk") (ev "y")) (ev "y"))))))) ∷ [])
    ∷ check (lam "z" (lam "z" (ev "z")))
    ∷ []

s_5002256_computed : metered 512 65536 512 s_5002256 ≡ said "declarations 20\n0 0 - | 11 44 0 0\n1 0 - | 15 59 0 0\n2 0 - | 4 61 0 0\n3 0 - | 6 63 0 0\n4 0 - | 10 67 0 0\n5 0 - | 4 69 0 0\n6 0 - | 8 73 0 0\n7 0 - | 12 77 0 0\n8 0 - | 19 82 0 0\n9 0 - | 24 86 0 0\n10 0 [] (-> (Pair (Pair Int Int) Int) Bool) = (app (proj (dapp (rec Eq (Pair (Pair Int Int) Int)) (rec Eq (Pair Int Int))) eq) (app (app (proj (rec Mk (Pair Int Int)) mk) (app (app (proj (rec Mk Int) mk) 6) 2)) 1)) | 320 86 10 3\n11 16 Eq (-> Int Int) | 63 86 10 3\n12 0 [] (-> (Pair Bool (Pair Int Int)) Bool) = (app (proj (rec Eq (Pair Bool (Pair Int Int))) eq) (app (app (proj (rec Mk Bool) mk) true) (app (app (proj (rec Mk Int) mk) 9) 2))) | 260 86 20 6\n13 0 [] (-> (Pair Int (Pair Int Int)) Bool) = (app (proj (rec Eq (Pair Int (Pair Int Int))) eq) (app (app (proj (rec Mk Int) mk) 7) (app (app (proj (rec Mk Int) mk) 3) 2))) | 257 86 30 9\n14 0 [] (-> (Pair Int (Pair Int Int)) Bool) = (app (proj (rec Eq (Pair Int (Pair Int Int))) eq) (app (app (proj (rec Mk Int) mk) 4) (app (app (proj (rec Mk Int) mk) 1) 2))) | 257 86 40 12\n15 0 [] (-> (Pair (Pair Int Int) Int) Bool) = (app (proj (dapp (rec Eq (Pair (Pair Int Int) Int)) (rec Eq (Pair Int Int))) eq) (app (app (proj (rec Mk (Pair Int Int)) mk) (app (app (proj (rec Mk Int) mk) 9) 2)) 0)) | 320 86 50 15\n16 16 Eq (Pair (Pair Int Int) Bool) | 250 86 50 15\n17 0 [] (-> (Pair Bool Int) Bool) = (app (proj (rec Eq (Pair Bool Int)) eq) (app (app (proj (rec Mk Bool) mk) true) 18446744073709551615)) | 145 86 56 17\n18 6 - | 512 86 56 17\n19 0 [] (-> a (-> b b)) = (lam z (lam z z)) | 22 86 58 17\n"
unfolding everything metered said
s_5002256_computed = refl

abbrev s_5002264 : List Decl
s_5002264 =
    class "Eq" "a" [] (sig "eq" (arrow (v "a") (arrow (v "a") (c "Bool" nil))) ∷ []) (body "eq" (eint 1) ∷ [])
    ∷ class "Mk" "a" [] (sig "mk" (arrow (v "a") (arrow (v "b") (c "Pair" ((v "a") ◂ (v "b") ◂ nil)))) ∷ []) (body "mk" (eint 1) ∷ [])
    ∷ instance [] "Mk" (c "Int" nil) []
    ∷ instance [] "Mk" (c "Bool" nil) []
    ∷ instance [] "Mk" (c "Pair" ((v "a") ◂ (v "b") ◂ nil)) []
    ∷ instance [] "Eq" (c "Pair" ((v "a") ◂ (c "Int" nil) ◂ nil)) []
    ∷ instance (at "Eq" (v "a") ∷ []) "Eq" (arrow (v "a") (c "Int" nil)) []
    ∷ instance [] "Eq" (c "Pair" ((v "a") ◂ (v "a") ◂ nil)) []
    ∷ instance [] "Eq" (c "Int" nil) []
    ∷ check (eapp (ev "eq") (eapp (eapp (ev "mk") (eint 4)) (eint 6)))
    ∷ check (eapp (ev "eq") (eapp (ev "primAddInt") (eint 1)))
    ∷ check (eapp (ev "eq") (eapp (eapp (ev "mk") (eint 1)) (eint 8)))
    ∷ define "id" (eapp (ev "eq") (ev "primNotBool"))
    ∷ instance (at "Mk" (v "c") ∷ []) "Eq" (c "List" ((v "c") ◂ nil)) (body "eq" (lam "x" (lam "p" (eapp (eapp (ev "primLtInt") (eint 4)) (eint 7)))) ∷ [])
    ∷ check (lam "x" (bind "h" (lam "y" (bind "k" (eapp (eapp (lam "p" (lam "q" (ev "p"))) (eapp (eapp (ev "eq") (ev "x")) (ev "x"))) (eapp (ev "eq") (ev "x"))) (eapp (eapp (lam "p" (lam "q" (ev "q"))) (ev "k")) (eapp (eapp (ev "mk") (ev "x")) (ev "x"))))) (eapp (ev "h") (ev "x"))))
    ∷ []

s_5002264_computed : metered 512 65536 512 s_5002264 ≡ said "declarations 15\n0 0 - | 11 44 0 0\n1 0 - | 15 59 0 0\n2 0 - | 4 61 0 0\n3 0 - | 6 63 0 0\n4 0 - | 10 67 0 0\n5 0 - | 6 71 0 0\n6 0 - | 9 76 0 0\n7 0 - | 14 80 0 0\n8 0 - | 10 82 0 0\n9 0 [] (-> (Pair Int Int) Bool) = (app (proj (rec Eq (Pair Int Int)) eq) (app (app (proj (rec Mk Int) mk) 4) 6)) | 141 82 6 2\n10 0 [] (-> (-> Int Int) Bool) = (app (proj (dapp (rec Eq (-> Int Int)) (rec Eq Int)) eq) (app primAddInt 1)) | 95 82 9 3\n11 0 [] (-> (Pair Int Int) Bool) = (app (proj (rec Eq (Pair Int Int)) eq) (app (app (proj (rec Mk Int) mk) 1) 8)) | 141 82 15 5\n12 16 Eq (-> Bool Bool) | 44 82 15 5\n13 0 - | 110 92 19 5\n14 6 - | 512 92 19 5\n"
unfolding everything metered said
s_5002264_computed = refl

abbrev s_5002310 : List Decl
s_5002310 =
    class "Eq" "a" [] (sig "eq" (arrow (v "a") (arrow (v "a") (c "Bool" nil))) ∷ []) (body "eq" (eint 1) ∷ [])
    ∷ instance (at "Eq" (v "a") ∷ []) "Eq" (v "a") []
    ∷ check (eapp (ev "eq") (eint 1))
    ∷ class "Bag" "a" ("Eq" ∷ []) (sig "one" (arrow (v "a") (c "List" ((v "a") ◂ nil))) ∷ []) (body "one" (eint 1) ∷ [])
    ∷ instance [] "Bag" (c "Int" nil) []
    ∷ check (eapp (ev "eq") (eapp (ev "one") (eint 1)))
    ∷ instance (at "Eq" (c "Int" nil) ∷ []) "Eq" (c "Int" nil) []
    ∷ instance (at "Eq" (c "Int" nil) ∷ []) "Bag" (c "Int" nil) []
    ∷ check (lam "z" (lam "y" (ev "y")))
    ∷ check (lam "x" (bind "h" (lam "y" (bind "k" (eapp (eapp (lam "p" (lam "q" (ev "p"))) (eapp (eapp (ev "one") (ev "x")) (ev "x"))) (eapp (eapp (ev "eq") (ev "x")) (ev "x"))) (eapp (eapp (lam "p" (lam "q" (ev "q"))) (ev "k")) (eapp (ev "eq") (ev "x"))))) (eapp (ev "h") (ev "x"))))
    ∷ []

s_5002310_computed : metered 512 65536 512 s_5002310 ≡ said "declarations 10\n0 0 - | 11 44 0 0\n1 0 - | 5 47 0 0\n2 6 - | 512 47 0 0\n3 0 - | 9 56 0 0\n4 6 - | 512 56 0 0\n5 6 - | 512 56 0 0\n6 18 Eq Int | 6 56 0 0\n7 0 - | 8 60 0 0\n8 0 [] (-> a (-> b b)) = (lam z (lam y y)) | 22 60 2 0\n9 12 (List t2) (-> t2 t8) | 46 60 2 0\n"
unfolding everything metered said
s_5002310_computed = refl

abbrev s_5002386 : List Decl
s_5002386 =
    class "Leaf" "a" [] (sig "leaf" (v "a") ∷ []) (body "leaf" (eint 1) ∷ [])
    ∷ instance [] "Leaf" (c "Int" nil) []
    ∷ instance [] "Leaf" (c "Bool" nil) []
    ∷ instance [] "Leaf" (c "List" ((c "Int" nil) ◂ nil)) (body "leaf" (bind "x" (bind "x" (bind "x" (bind "x" (bind "x" (bind "x" (bind "x" (bind "x" (bind "x" (bind "x" (bind "x" (bind "x" (bind "x" (bind "x" (bind "x" (bind "x" (bind "x" (bind "x" (bind "x" (bind "x" (bind "x" (bind "x" (bind "x" (bind "x" (bind "x" (bind "x" (bind "x" (bind "x" (bind "x" (bind "x" (bind "x" (bind "x" (bind "x" (bind "x" (bind "x" (bind "x" (bind "x" (bind "x" (bind "x" (bind "x" (bind "x" (bind "x" (bind "x" (bind "x" (bind "x" (bind "x" (bind "x" (bind "x" (bind "x" (bind "x" (bind "x" (bind "x" (bind "x" (bind "x" (bind "x" (bind "x" (bind "x" (bind "x" (bind "x" (bind "x" (bind "x" (bind "x" (bind "x" (bind "x" (bind "x" (bind "x" (bind "x" (bind "x" (bind "x" (bind "x" (bind "x" (bind "x" (bind "x" (bind "x" (bind "x" (bind "x" (bind "x" (bind "x" (bind "x" (bind "x" (bind "x" (bind "x" (bind "x" (bind "x" (bind "x" (bind "x" (bind "x" (bind "x" (bind "x" (bind "x" (bind "x" (bind "x" (bind "x" (bind "x" (bind "x" (bind "x" (bind "x" (bind "x" (bind "x" (bind "x" (bind "x" (bind "x" (bind "x" (bind "x" (bind "x" (bind "x" (bind "x" (bind "x" (bind "x" (bind "x" (bind "x" (bind "x" (bind "x" (bind "x" (bind "x" (bind "x" (bind "x" (bind "x" (bind "x" (bind "x" (bind "x" (bind "x" (bind "x" (bind "x" (bind "x" (bind "x" (bind "x" (bind "x" (bind "x" (bind "x" (bind "x" (bind "x" (bind "x" (bind "x" (bind "x" (bind "x" (bind "x" (bind "x" (bind "x" (bind "x" (bind "x" (bind "x" (bind "x" (bind "x" (bind "x" (bind "x" (bind "x" (bind "x" (bind "x" (bind "x" (bind "x" (bind "x" (bind "x" (bind "x" (bind "x" (bind "x" (bind "x" (bind "x" (bind "x" (bind "x" (bind "x" (bind "x" (bind "x" (bind "x" (bind "x" (bind "x" (bind "x" (bind "x" (bind "x" (bind "x" (bind "x" (bind "x" (bind "x" (bind "x" (bind "x" (bind "x" (bind "x" (bind "x" (bind "x" (bind "x" (bind "x" (bind "x" (bind "x" (bind "x" (bind "x" (bind "x" (bind "x" (bind "x" (bind "x" (bind "x" (bind "x" (bind "x" (bind "x" (bind "x" (bind "x" (bind "x" (bind "x" (bind "x" (bind "x" (bind "x" (bind "x" (bind "x" (bind "x" (bind "x" (bind "x" (bind "x" (bind "x" (bind "x" (bind "x" (bind "x" (bind "x" (bind "x" (bind "x" (bind "x" (bind "x" (bind "x" (bind "x" (bind "x" (bind "x" (bind "x" (bind "x" (bind "x" (bind "x" (bind "x" (bind "x" (bind "x" (bind "x" (bind "x" (bind "x" (bind "x" (bind "x" (bind "x" (bind "x" (bind "x" (bind "x" (bind "x" (bind "x" (bind "x" (bind "x" (bind "x" (bind "x" (bind "x" (bind "x" (bind "x" (bind "x" (bind "x" (bind "x" (bind "x" (bind "x" (bind "x" (bind "x" (bind "x" (bind "x" (bind "x" (bind "x" (bind "x" (ev "leaf") (ev "x")) (ev "x")) (ev "x")) (ev "x")) (ev "x")) (ev "x")) (ev "x")) (ev "x")) (ev "x")) (ev "x")) (ev "x")) (ev "x")) (ev "x")) (ev "x")) (ev "x")) (ev "x")) (ev "x")) (ev "x")) (ev "x")) (ev "x")) (ev "x")) (ev "x")) (ev "x")) (ev "x")) (ev "x")) (ev "x")) (ev "x")) (ev "x")) (ev "x")) (ev "x")) (ev "x")) (ev "x")) (ev "x")) (ev "x")) (ev "x")) (ev "x")) (ev "x")) (ev "x")) (ev "x")) (ev "x")) (ev "x")) (ev "x")) (ev "x")) (ev "x")) (ev "x")) (ev "x")) (ev "x")) (ev "x")) (ev "x")) (ev "x")) (ev "x")) (ev "x")) (ev "x")) (ev "x")) (ev "x")) (ev "x")) (ev "x")) (ev "x")) (ev "x")) (ev "x")) (ev "x")) (ev "x")) (ev "x")) (ev "x")) (ev "x")) (ev "x")) (ev "x")) (ev "x")) (ev "x")) (ev "x")) (ev "x")) (ev "x")) (ev "x")) (ev "x")) (ev "x")) (ev "x")) (ev "x")) (ev "x")) (ev "x")) (ev "x")) (ev "x")) (ev "x")) (ev "x")) (ev "x")) (ev "x")) (ev "x")) (ev "x")) (ev "x")) (ev "x")) (ev "x")) (ev "x")) (ev "x")) (ev "x")) (ev "x")) (ev "x")) (ev "x")) (ev "x")) (ev "x")) (ev "x")) (ev "x")) (ev "x")) (ev "x")) (ev "x")) (ev "x")) (ev "x")) (ev "x")) (ev "x")) (ev "x")) (ev "x")) (ev "x")) (ev "x")) (ev "x")) (ev "x")) (ev "x")) (ev "x")) (ev "x")) (ev "x")) (ev "x")) (ev "x")) (ev "x")) (ev "x")) (ev "x")) (ev "x")) (ev "x")) (ev "x")) (ev "x")) (ev "x")) (ev "x")) (ev "x")) (ev "x")) (ev "x")) (ev "x")) (ev "x")) (ev "x")) (ev "x")) (ev "x")) (ev "x")) (ev "x")) (ev "x")) (ev "x")) (ev "x")) (ev "x")) (ev "x")) (ev "x")) (ev "x")) (ev "x")) (ev "x")) (ev "x")) (ev "x")) (ev "x")) (ev "x")) (ev "x")) (ev "x")) (ev "x")) (ev "x")) (ev "x")) (ev "x")) (ev "x")) (ev "x")) (ev "x")) (ev "x")) (ev "x")) (ev "x")) (ev "x")) (ev "x")) (ev "x")) (ev "x")) (ev "x")) (ev "x")) (ev "x")) (ev "x")) (ev "x")) (ev "x")) (ev "x")) (ev "x")) (ev "x")) (ev "x")) (ev "x")) (ev "x")) (ev "x")) (ev "x")) (ev "x")) (ev "x")) (ev "x")) (ev "x")) (ev "x")) (ev "x")) (ev "x")) (ev "x")) (ev "x")) (ev "x")) (ev "x")) (ev "x")) (ev "x")) (ev "x")) (ev "x")) (ev "x")) (ev "x")) (ev "x")) (ev "x")) (ev "x")) (ev "x")) (ev "x")) (ev "x")) (ev "x")) (ev "x")) (ev "x")) (ev "x")) (ev "x")) (ev "x")) (ev "x")) (ev "x")) (ev "x")) (ev "x")) (ev "x")) (ev "x")) (ev "x")) (ev "x")) (ev "x")) (ev "x")) (ev "x")) (ev "x")) (ev "x")) (ev "x")) (ev "x")) (ev "x")) (ev "x")) (ev "x")) (ev "x")) (ev "x")) (ev "x")) (ev "x")) (ev "x")) (ev "x")) (ev "x")) (ev "x")) (ev "x")) (ev "x")) (ev "x")) (ev "x")) (ev "x")) (ev "x")) (ev "x")) (ev "x")) (ev "x")) (ev "x")) (ev "x")) (ev "x")) (ev "x")) (ev "x")) (ev "x")) (ev "x")) (ev "x")) (ev "x")) (ev "x")) (ev "x")) ∷ [])
    ∷ define "deep" (bind "x" (bind "x" (bind "x" (bind "x" (bind "x" (bind "x" (bind "x" (bind "x" (bind "x" (bind "x" (bind "x" (bind "x" (bind "x" (bind "x" (bind "x" (bind "x" (bind "x" (bind "x" (bind "x" (bind "x" (bind "x" (bind "x" (bind "x" (bind "x" (bind "x" (bind "x" (bind "x" (bind "x" (bind "x" (bind "x" (bind "x" (bind "x" (bind "x" (bind "x" (bind "x" (bind "x" (bind "x" (bind "x" (bind "x" (bind "x" (bind "x" (bind "x" (bind "x" (bind "x" (bind "x" (bind "x" (bind "x" (bind "x" (bind "x" (bind "x" (bind "x" (bind "x" (bind "x" (bind "x" (bind "x" (bind "x" (bind "x" (bind "x" (bind "x" (bind "x" (bind "x" (bind "x" (bind "x" (bind "x" (bind "x" (bind "x" (bind "x" (bind "x" (bind "x" (bind "x" (bind "x" (bind "x" (bind "x" (bind "x" (bind "x" (bind "x" (bind "x" (bind "x" (bind "x" (bind "x" (bind "x" (bind "x" (bind "x" (bind "x" (bind "x" (bind "x" (bind "x" (bind "x" (bind "x" (bind "x" (bind "x" (bind "x" (bind "x" (bind "x" (bind "x" (bind "x" (bind "x" (bind "x" (bind "x" (bind "x" (bind "x" (bind "x" (bind "x" (bind "x" (bind "x" (bind "x" (bind "x" (bind "x" (bind "x" (bind "x" (bind "x" (bind "x" (bind "x" (bind "x" (bind "x" (bind "x" (bind "x" (bind "x" (bind "x" (bind "x" (bind "x" (bind "x" (bind "x" (bind "x" (bind "x" (bind "x" (bind "x" (bind "x" (bind "x" (bind "x" (bind "x" (bind "x" (bind "x" (bind "x" (bind "x" (bind "x" (bind "x" (bind "x" (bind "x" (bind "x" (bind "x" (bind "x" (bind "x" (bind "x" (bind "x" (bind "x" (bind "x" (bind "x" (bind "x" (bind "x" (bind "x" (bind "x" (bind "x" (bind "x" (bind "x" (bind "x" (bind "x" (bind "x" (bind "x" (bind "x" (bind "x" (bind "x" (bind "x" (bind "x" (bind "x" (bind "x" (bind "x" (bind "x" (bind "x" (bind "x" (bind "x" (bind "x" (bind "x" (bind "x" (bind "x" (bind "x" (bind "x" (bind "x" (bind "x" (bind "x" (bind "x" (bind "x" (bind "x" (bind "x" (bind "x" (bind "x" (bind "x" (bind "x" (bind "x" (bind "x" (bind "x" (bind "x" (bind "x" (bind "x" (bind "x" (bind "x" (bind "x" (bind "x" (bind "x" (bind "x" (bind "x" (bind "x" (bind "x" (bind "x" (bind "x" (bind "x" (bind "x" (bind "x" (bind "x" (bind "x" (bind "x" (bind "x" (bind "x" (bind "x" (bind "x" (bind "x" (bind "x" (bind "x" (bind "x" (bind "x" (bind "x" (bind "x" (bind "x" (bind "x" (bind "x" (bind "x" (bind "x" (bind "x" (bind "x" (bind "x" (bind "x" (bind "x" (bind "x" (bind "x" (bind "x" (bind "x" (bind "x" (bind "x" (bind "x" (bind "x" (bind "x" (bind "x" (bind "x" (bind "x" (bind "x" (bind "x" (bind "x" (bind "x" (bind "x" (bind "x" (bind "x" (bind "x" (bind "x" (bind "x" (bind "x" (bind "x" (ev "leaf") (ev "x")) (ev "x")) (ev "x")) (ev "x")) (ev "x")) (ev "x")) (ev "x")) (ev "x")) (ev "x")) (ev "x")) (ev "x")) (ev "x")) (ev "x")) (ev "x")) (ev "x")) (ev "x")) (ev "x")) (ev "x")) (ev "x")) (ev "x")) (ev "x")) (ev "x")) (ev "x")) (ev "x")) (ev "x")) (ev "x")) (ev "x")) (ev "x")) (ev "x")) (ev "x")) (ev "x")) (ev "x")) (ev "x")) (ev "x")) (ev "x")) (ev "x")) (ev "x")) (ev "x")) (ev "x")) (ev "x")) (ev "x")) (ev "x")) (ev "x")) (ev "x")) (ev "x")) (ev "x")) (ev "x")) (ev "x")) (ev "x")) (ev "x")) (ev "x")) (ev "x")) (ev "x")) (ev "x")) (ev "x")) (ev "x")) (ev "x")) (ev "x")) (ev "x")) (ev "x")) (ev "x")) (ev "x")) (ev "x")) (ev "x")) (ev "x")) (ev "x")) (ev "x")) (ev "x")) (ev "x")) (ev "x")) (ev "x")) (ev "x")) (ev "x")) (ev "x")) (ev "x")) (ev "x")) (ev "x")) (ev "x")) (ev "x")) (ev "x")) (ev "x")) (ev "x")) (ev "x")) (ev "x")) (ev "x")) (ev "x")) (ev "x")) (ev "x")) (ev "x")) (ev "x")) (ev "x")) (ev "x")) (ev "x")) (ev "x")) (ev "x")) (ev "x")) (ev "x")) (ev "x")) (ev "x")) (ev "x")) (ev "x")) (ev "x")) (ev "x")) (ev "x")) (ev "x")) (ev "x")) (ev "x")) (ev "x")) (ev "x")) (ev "x")) (ev "x")) (ev "x")) (ev "x")) (ev "x")) (ev "x")) (ev "x")) (ev "x")) (ev "x")) (ev "x")) (ev "x")) (ev "x")) (ev "x")) (ev "x")) (ev "x")) (ev "x")) (ev "x")) (ev "x")) (ev "x")) (ev "x")) (ev "x")) (ev "x")) (ev "x")) (ev "x")) (ev "x")) (ev "x")) (ev "x")) (ev "x")) (ev "x")) (ev "x")) (ev "x")) (ev "x")) (ev "x")) (ev "x")) (ev "x")) (ev "x")) (ev "x")) (ev "x")) (ev "x")) (ev "x")) (ev "x")) (ev "x")) (ev "x")) (ev "x")) (ev "x")) (ev "x")) (ev "x")) (ev "x")) (ev "x")) (ev "x")) (ev "x")) (ev "x")) (ev "x")) (ev "x")) (ev "x")) (ev "x")) (ev "x")) (ev "x")) (ev "x")) (ev "x")) (ev "x")) (ev "x")) (ev "x")) (ev "x")) (ev "x")) (ev "x")) (ev "x")) (ev "x")) (ev "x")) (ev "x")) (ev "x")) (ev "x")) (ev "x")) (ev "x")) (ev "x")) (ev "x")) (ev "x")) (ev "x")) (ev "x")) (ev "x")) (ev "x")) (ev "x")) (ev "x")) (ev "x")) (ev "x")) (ev "x")) (ev "x")) (ev "x")) (ev "x")) (ev "x")) (ev "x")) (ev "x")) (ev "x")) (ev "x")) (ev "x")) (ev "x")) (ev "x")) (ev "x")) (ev "x")) (ev "x")) (ev "x")) (ev "x")) (ev "x")) (ev "x")) (ev "x")) (ev "x")) (ev "x")) (ev "x")) (ev "x")) (ev "x")) (ev "x")) (ev "x")) (ev "x")) (ev "x")) (ev "x")) (ev "x")) (ev "x")) (ev "x")) (ev "x")) (ev "x")) (ev "x")) (ev "x")) (ev "x")) (ev "x")) (ev "x")) (ev "x")) (ev "x")) (ev "x")) (ev "x")) (ev "x")) (ev "x")) (ev "x")) (ev "x")) (ev "x")) (ev "x")) (ev "x")) (ev "x")) (ev "x")) (ev "x")) (ev "x")) (ev "x")) (ev "x")) (ev "x")) (ev "x")) (ev "x")) (ev "x")) (ev "x"))
    ∷ check (ev "deep")
    ∷ []

s_5002386_computed : metered 512 65536 512 s_5002386 ≡ said "declarations 6\n0 0 - | 3 36 0 0\n1 0 - | 4 38 0 0\n2 0 - | 6 40 0 0\n3 7 - | 259 40 0 0\n4 7 - | 256 40 0 0\n5 11 deep | 1 40 0 0\n"
unfolding everything metered said
s_5002386_computed = refl

abbrev s_5002466 : List Decl
s_5002466 =
    class "Real" "b" [] (sig "cons" (arrow (v "b") (arrow (v "b") (v "b"))) ∷ []) []
    ∷ instance [] "Real" (c "Int" nil) (body "cons" (bind "x" (ev "cons") (lam "y" (lam "v" (eapp (eapp (ev "primMulInt") (eint 7)) (ev "v"))))) ∷ [])
    ∷ instance (at "Real" (v "b") ∷ []) "Real" (c "List" ((c "List" ((v "b") ◂ nil)) ◂ nil)) (body "cons" (lam "q" (lam "z" (ev "z"))) ∷ [])
    ∷ class "Eq" "a" ("Real" ∷ "Real" ∷ []) (sig "shw" (arrow (c "Int" nil) (v "a")) ∷ []) []
    ∷ instance [] "Real" (arrow (c "Int" nil) (v "b")) []
    ∷ class "Mon" "b" ("Real" ∷ []) (sig "snd" (c "Tree" ((c "List" ((c "Pair" ((c "Bool" nil) ◂ (v "b") ◂ nil)) ◂ nil)) ◂ nil)) ∷ sig "neg" (arrow (v "b") (arrow (c "List" ((v "b") ◂ nil)) (c "List" ((v "b") ◂ nil)))) ∷ sig "zero" (c "Bool" nil) ∷ []) []
    ∷ instance [] "Real" (arrow (c "Int" nil) (v "a")) (body "cons" (lam "x" (lam "y" (lam "z" (eapp (eapp (lam "u" (lam "v" (ev "v"))) (eapp (eapp (ev "cons") (ev "y")) (ev "x"))) (eapp (eapp (lam "u" (lam "v" (ev "v"))) (eapp (eapp (ev "cons") (ev "y")) (ev "x"))) (eapp (eapp (lam "u" (lam "v" (ev "v"))) (eapp (ev "shw") (ev "y"))) (eapp (eapp (lam "u" (lam "v" (ev "v"))) (eapp (ev "shw") (ev "y"))) (eapp (eapp (lam "u" (lam "v" (ev "v"))) (eapp (eapp (ev "cons") (ev "x")) (ev "y"))) (ev "snd"))))))))) ∷ [])
    ∷ instance [] "Real" (arrow (c "Int" nil) (v "a")) (body "cons" (lam "z" (bind "p" (ev "primNotBool") (lam "y" (ev "primMulInt")))) ∷ [])
    ∷ instance [] "Eq" (arrow (c "Int" nil) (v "a")) (body "shw" (lam "w" (bind "g" (lam "x" (ev "x")) (lam "z" (ev "w")))) ∷ [])
    ∷ instance [] "Real" (c "List" ((v "a") ◂ nil)) (body "cons" (lam "q" (bind "k" (ev "primMulInt") (eapp (ev "shw") (eint 9)))) ∷ [])
    ∷ check (eapp (lam "x" (lam "y" (eapp (ev "shw") (ev "y")))) (eint 7))
    ∷ class "Num" "a" ("Real" ∷ []) (sig "eq" (arrow (v "a") (arrow (v "a") (c "Bool" nil))) ∷ []) (body "eq" (lam "y" (lam "x" (ebool true))) ∷ [])
    ∷ define "g" (ebool true)
    ∷ check (eapp (eapp (lam "x" (lam "y" (eapp (eapp (lam "u" (lam "v" (ev "v"))) (eapp (eapp (ev "eq") (ev "y")) (ev "x"))) (bind "k" (eapp (ev "eq") (ev "x")) (eapp (lam "u" (bind "k" (eapp (eapp (ev "eq") (ev "x")) (ev "x")) (eapp (lam "u" (ev "zero")) (ev "snd")))) (eapp (eapp (ev "cons") (ev "y")) (ev "y"))))))) (eint 9)) (eapp (eapp (ev "neg") (eapp (lam "y" (ev "y")) (ev "primLtInt"))) (eapp (eapp (ev "neg") (eint 1)) (eapp (ev "primNotBool") (eint 3)))))
    ∷ check (eapp (ev "primAddInt") (eint 2))
    ∷ check (lam "y" (ev "y"))
    ∷ []

s_5002466_computed : metered 512 65536 512 s_5002466 ≡ said "declarations 16\n0 0 - | 11 44 0 0\n1 0 - | 127 57 5 1\n2 0 - | 72 64 7 1\n3 0 - | 7 71 7 1\n4 22 Real (-> Int b) cons | 3 71 7 1\n5 0 - | 29 100 7 1\n6 6 - | 512 100 7 1\n7 0 - | 102 108 9 1\n8 0 - | 88 125 12 1\n9 16 Eq (-> (List a) (List a)) | 69 125 12 1\n10 0 [Eq a] (-> Int a) = (dabs [d1 Eq a] (app (lam x (lam y (app (proj d1 shw) y))) 7)) | 72 125 17 2\n11 0 - | 11 136 17 2\n12 0 [] Bool | 5 137 17 2\n13 6 - | 512 137 17 2\n14 0 [] (-> Int Int) = (app primAddInt 2) | 33 137 18 2\n15 0 [] (-> a a) = (lam y y) | 14 137 19 2\n"
unfolding everything metered said
s_5002466_computed = refl

abbrev s_5002532 : List Decl
s_5002532 =
    class "Real" "a" [] [] []
    ∷ instance (at "Real" (v "b") ∷ []) "Real" (arrow (c "Int" nil) (v "b")) []
    ∷ instance [] "Real" (c "List" ((c "Int" nil) ◂ nil)) []
    ∷ class "Fun" "t" [] (sig "zero" (arrow (v "t") (arrow (v "t") (c "Bool" nil))) ∷ []) []
    ∷ define "same" (eint 9223372036854775808)
    ∷ check (eapp (eapp (ev "primEqInt") (eint 2)) (ev "same"))
    ∷ instance [] "Fun" (c "Bool" nil) (body "zero" (lam "x" (eapp (ev "zero") (ebool true))) ∷ [])
    ∷ instance [] "Real" (c "Int" nil) (body "join" (ev "primEqBool") ∷ [])
    ∷ instance (at "Real" (v "a") ∷ at "Real" (v "a") ∷ at "Real" (v "a") ∷ at "Fun" (v "a") ∷ []) "Real" (c "List" ((v "a") ◂ nil)) []
    ∷ instance (at "Fun" (v "e") ∷ []) "Fun" (v "b") (body "zero" (lam "w" (lam "u" (eapp (eapp (ev "primAndBool") (ebool true)) (ebool true)))) ∷ [])
    ∷ check (lam "x" (bind "h" (lam "y" (bind "k" (eapp (eapp (lam "p" (lam "q" (ev "p"))) (eapp (ev "zero") (ev "x"))) (eapp (eapp (ev "zero") (ev "x")) (ev "x"))) (eapp (eapp (lam "p" (lam "q" (ev "q"))) (ev "k")) (eapp (eapp (ev "zero") (ev "x")) (ev "x"))))) (eapp (ev "h") (ev "x"))))
    ∷ class "Show" "_u" ("Real" ∷ []) (sig "tag" (arrow (v "t") (arrow (v "_u") (v "t"))) ∷ []) []
    ∷ check (lam "u" (lam "x" (ev "x")))
    ∷ []

s_5002532_computed : metered 512 65536 512 s_5002532 ≡ said "declarations 13\n0 0 - | 0 33 0 0\n1 0 - | 4 37 0 0\n2 0 - | 4 39 0 0\n3 0 - | 11 50 0 0\n4 0 [] Int | 5 51 0 0\n5 0 [] Bool = (app (app primEqInt 2) same) | 51 51 2 0\n6 16 Fun Bool | 63 51 2 0\n7 20 join | 1 51 2 0\n8 18 Real (List a) | 12 51 2 0\n9 0 - | 96 60 6 0\n10 6 - | 512 60 6 0\n11 0 - | 11 71 6 0\n12 0 [] (-> a (-> b b)) = (lam u (lam x x)) | 22 71 8 0\n"
unfolding everything metered said
s_5002532_computed = refl
