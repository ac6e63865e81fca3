-- Recorded sessions, computed: text, steps, kept nodes and both counters. (tools/session_test.py)
use mathlib.Core.Path.{◌≡◌, refl}
use mathlib.Core.Bool.{true, false}
use mathlib.Core.List.{List, [], ◌∷◌}
use Rattle.meaning.specs.Ast.{Ty, arrow, Expr, eint, ebool, eapp, Decl, nil, ◌◂◌}
use Rattle.meaning.proofs.Metered.{everything, metered, said}
use Rattle.meaning.proofs.Written.{v, c, ev, lam, bind, class, instance, define, check, at, sig, body}

abbrev s_5000122 : List Decl
s_5000122 =
    class "Eq" "a" [] (sig "eq" (arrow (v "a") (arrow (v "a") (c "Bool" nil))) ∷ []) []
    ∷ class "Ord" "a" ("Eq" ∷ []) (sig "lt" (arrow (v "a") (arrow (v "a") (c "Bool" nil))) ∷ []) []
    ∷ class "Real" "a" ("Ord" ∷ "Eq" ∷ []) (sig "add" (arrow (v "a") (arrow (v "a") (v "a"))) ∷ []) []
    ∷ class "Bag" "a" [] (sig "nil" (c "List" ((v "a") ◂ nil)) ∷ sig "cons" (arrow (v "a") (arrow (c "List" ((v "a") ◂ nil)) (c "List" ((v "a") ◂ nil)))) ∷ sig "pair" (arrow (v "a") (arrow (v "b") (c "Pair" ((v "a") ◂ (v "b") ◂ nil)))) ∷ sig "odd" (arrow (v "a") (c "List" nil)) ∷ []) (body "nil" (eint 0) ∷ body "cons" (eint 0) ∷ body "pair" (eint 0) ∷ body "odd" (eint 0) ∷ [])
    ∷ instance [] "Bag" (c "Int" nil) []
    ∷ instance [] "Bag" (c "Bool" nil) []
    ∷ instance [] "Bag" (c "List" ((v "a") ◂ nil)) []
    ∷ instance [] "Bag" (c "Pair" ((v "a") ◂ (v "b") ◂ nil)) []
    ∷ instance [] "Eq" (c "Int" nil) (body "eq" (ev "primEqInt") ∷ [])
    ∷ instance [] "Eq" (c "Bool" nil) (body "eq" (ev "primEqBool") ∷ [])
    ∷ instance [] "Ord" (c "Bool" nil) (body "lt" (ev "primAndBool") ∷ [])
    ∷ instance [] "Real" (c "Int" nil) (body "add" (ev "primAddInt") ∷ [])
    ∷ instance (at "Eq" (v "a") ∷ []) "Eq" (c "List" ((v "a") ◂ nil)) (body "eq" (lam "x" (lam "y" (ebool true))) ∷ [])
    ∷ instance (at "Eq" (v "a") ∷ at "Eq" (v "b") ∷ []) "Eq" (c "Pair" ((v "a") ◂ (v "b") ◂ nil)) (body "eq" (lam "x" (lam "y" (ebool false))) ∷ [])
    ∷ define "f" (lam "x" (bind "k" (eapp (eapp (lam "p" (lam "q" (ev "p"))) (eapp (eapp (ev "lt") (ev "x")) (ev "x"))) (eapp (eapp (ev "pair") (ev "x")) (ev "x"))) (eapp (eapp (lam "p" (lam "q" (ev "q"))) (ev "k")) (eapp (eapp (ev "cons") (ev "x")) (ev "x")))))
    ∷ check (lam "u" (bind "twice" (lam "q" (ev "u")) (ev "u")))
    ∷ define "id" (eapp (eapp (lam "x" (lam "y" (eapp (eapp (lam "u" (lam "v" (ev "v"))) (eapp (eapp (ev "lt") (ev "x")) (ev "y"))) (eapp (lam "u" (eapp (lam "u" (eapp (lam "u" (ev "nil")) (eapp (eapp (ev "pair") (ev "x")) (ev "y")))) (eapp (ev "lt") (ev "x")))) (eapp (eapp (ev "pair") (ev "y")) (ev "y")))))) (eapp (eapp (ev "cons") (eapp (eapp (ev "add") (eint 7)) (eint 9223372036854775808))) (ev "nil"))) (ebool true))
    ∷ define "twice" (eapp (eapp (eapp (eapp (eint 7) (ev "eq")) (lam "y" (ev "primNotBool"))) (ebool false)) (ebool false))
    ∷ check (eapp (ev "lt") (eapp (eint 9) (lam "y" (ev "y"))))
    ∷ instance (at "Bag" (v "a") ∷ []) "Bag" (arrow (v "a") (v "a")) (body "nil" (ev "nil") ∷ [])
    ∷ instance [] "Bag" (c "List" ((c "Int" nil) ◂ nil)) (body "nil" (bind "primLtInt" (lam "x" (lam "y" (ev "x"))) (eapp (eapp (ev "cons") (ebool true)) (lam "w" (ev "primNotBool")))) ∷ body "pair" (lam "y" (lam "y" (eapp (eapp (lam "v" (lam "v" (ev "primMulInt"))) (eapp (ev "y") (ev "same"))) (eapp (ev "twice") (ev "y"))))) ∷ body "odd" (lam "x" (eapp (ev "odd") (eapp (eapp (ev "primAndBool") (ebool true)) (ebool false)))) ∷ [])
    ∷ []

s_5000122_computed : metered 512 65536 512 s_5000122 ≡ said "declarations 21\n0 0 - | 11 44 0 0\n1 0 - | 11 55 0 0\n2 0 - | 11 66 0 0\n3 0 - | 42 108 0 0\n4 0 - | 13 113 0 0\n5 0 - | 15 118 0 0\n6 0 - | 18 124 0 0\n7 0 - | 21 131 0 0\n8 0 - | 37 133 0 0\n9 0 - | 39 135 0 0\n10 0 - | 43 139 0 0\n11 16 Ord Int | 38 139 0 0\n12 0 - | 53 145 2 0\n13 0 - | 62 153 4 0\n14 13 t4 (List t4) | 292 153 4 0\n15 0 [] (-> a a) = (lam u (let twice (lam q u) u)) | 33 153 6 0\n16 6 - | 512 153 6 0\n17 12 Int (-> (-> t10 (-> t10 Bool)) t9) | 14 153 6 0\n18 12 Int (-> (-> t9 t9) t8) | 16 153 6 0\n19 16 Bag (-> a a) | 29 153 6 0\n20 12 (List Bool) (-> t11 (-> Bool Bool)) | 66 153 6 0\n"
unfolding everything metered said
s_5000122_computed = refl

abbrev s_5000136 : List Decl
s_5000136 =
    class "Eq" "a" [] (sig "eq" (arrow (v "a") (arrow (v "a") (c "Bool" nil))) ∷ []) []
    ∷ class "Ord" "a" ("Eq" ∷ []) (sig "lt" (arrow (v "a") (arrow (v "a") (c "Bool" nil))) ∷ []) []
    ∷ class "Real" "a" ("Ord" ∷ "Eq" ∷ []) (sig "add" (arrow (v "a") (arrow (v "a") (v "a"))) ∷ []) []
    ∷ class "Bag" "a" [] (sig "nil" (c "List" ((v "a") ◂ nil)) ∷ sig "cons" (arrow (v "a") (arrow (c "List" ((v "a") ◂ nil)) (c "List" ((v "a") ◂ nil)))) ∷ sig "pair" (arrow (v "a") (arrow (v "b") (c "Pair" ((v "a") ◂ (v "b") ◂ nil)))) ∷ sig "odd" (arrow (v "a") (c "List" nil)) ∷ []) (body "nil" (eint 0) ∷ body "cons" (eint 0) ∷ body "pair" (eint 0) ∷ body "odd" (eint 0) ∷ [])
    ∷ instance [] "Bag" (c "Int" nil) []
    ∷ instance [] "Bag" (c "Bool" nil) []
    ∷ instance [] "Bag" (c "List" ((v "a") ◂ nil)) []
    ∷ instance [] "Bag" (c "Pair" ((v "a") ◂ (v "b") ◂ nil)) []
    ∷ instance [] "Eq" (c "Int" nil) (body "eq" (ev "primEqInt") ∷ [])
    ∷ instance [] "Eq" (c "Bool" nil) (body "eq" (ev "primEqBool") ∷ [])
    ∷ instance [] "Real" (c "Int" nil) (body "add" (ev "primAddInt") ∷ [])
    ∷ instance (at "Eq" (v "a") ∷ []) "Eq" (c "List" ((v "a") ◂ nil)) (body "eq" (lam "x" (lam "y" (ebool true))) ∷ [])
    ∷ instance (at "Eq" (v "a") ∷ at "Eq" (v "b") ∷ []) "Eq" (c "Pair" ((v "a") ◂ (v "b") ◂ nil)) (body "eq" (lam "x" (lam "y" (ebool false))) ∷ [])
    ∷ check (eint 9)
    ∷ check (lam "z" (lam "y" (eapp (ev "primAndBool") (eapp (ev "y") (ebool true)))))
    ∷ check (eapp (eapp (eapp (lam "x" (lam "y" (eapp (eapp (lam "u" (lam "v" (ev "v"))) (eapp (eapp (ev "cons") (ev "x")) (ev "x"))) (eapp (lam "u" (bind "comp" (eapp (eapp (ev "eq") (ev "y")) (ev "x")) (eapp (ev "odd") (ev "y")))) (eapp (eapp (ev "pair") (ev "x")) (ev "x")))))) (eint 1)) (eint 9)) (eint 7))
    ∷ check (bind "p" (eapp (eapp (ev "add") (eapp (eapp (ev "add") (bind "x" (ev "comp") (ev "twice"))) (eapp (ev "primNotBool") (eint 1)))) (eapp (eapp (ev "add") (eapp (ev "nil") (ev "comp"))) (eapp (eint 1) (ev "eq")))) (eint 5))
    ∷ instance [] "Bag" (c "Int" nil) (body "cons" (lam "x" (lam "y" (eapp (eapp (lam "u" (lam "v" (ev "v"))) (eapp (eapp (ev "pair") (ev "y")) (ev "x"))) (eapp (eapp (lam "u" (lam "v" (ev "v"))) (eapp (eapp (ev "pair") (ev "y")) (ev "x"))) (bind "twice" (lam "x" (ev "x")) (bind "twice" (ev "eq") (ev "y"))))))) ∷ [])
    ∷ []

s_5000136_computed : metered 512 65536 512 s_5000136 ≡ said "declarations 18\n0 0 - | 11 44 0 0\n1 0 - | 11 55 0 0\n2 0 - | 11 66 0 0\n3 0 - | 42 108 0 0\n4 0 - | 13 113 0 0\n5 0 - | 15 118 0 0\n6 0 - | 18 124 0 0\n7 0 - | 21 131 0 0\n8 0 - | 37 133 0 0\n9 0 - | 39 135 0 0\n10 16 Ord Int | 37 135 0 0\n11 0 - | 53 141 2 0\n12 0 - | 62 149 4 0\n13 0 [] Int = 9 | 5 149 4 0\n14 0 [] (-> a (-> (-> Bool Bool) (-> Bool Bool))) = (lam z (lam y (app primAndBool (app y true)))) | 71 149 8 0\n15 13 t11 (List t11) | 60 149 8 0\n16 11 comp | 21 149 8 0\n17 6 - | 512 149 8 0\n"
unfolding everything metered said
s_5000136_computed = refl

abbrev s_5000176 : List Decl
s_5000176 =
    class "Eq" "a" [] (sig "eq" (arrow (v "a") (arrow (v "a") (c "Bool" nil))) ∷ []) (body "eq" (eint 1) ∷ [])
    ∷ instance [] "Eq" (c "Int" nil) []
    ∷ instance (at "Eq" (v "a") ∷ []) "Eq" (c "Pair" ((c "Int" nil) ◂ (v "a") ◂ nil)) []
    ∷ class "Deep" "a" [] (sig "mk" (arrow (v "a") (c "Pair" ((c "Int" nil) ◂ (c "Pair" ((c "Int" nil) ◂ (c "Pair" ((c "Int" nil) ◂ (c "Pair" ((c "Int" nil) ◂ (c "Pair" ((c "Int" nil) ◂ (c "Pair" ((c "Int" nil) ◂ (c "Pair" ((c "Int" nil) ◂ (c "Pair" ((c "Int" nil) ◂ (c "Pair" ((c "Int" nil) ◂ (c "Pair" ((c "Int" nil) ◂ (c "Pair" ((c "Int" nil) ◂ (c "Pair" ((c "Int" nil) ◂ (c "Pair" ((c "Int" nil) ◂ (c "Pair" ((c "Int" nil) ◂ (c "Pair" ((c "Int" nil) ◂ (c "Pair" ((c "Int" nil) ◂ (c "Pair" ((c "Int" nil) ◂ (c "Pair" ((c "Int" nil) ◂ (c "Pair" ((c "Int" nil) ◂ (c "Pair" ((c "Int" nil) ◂ (c "Pair" ((c "Int" nil) ◂ (c "Pair" ((c "Int" nil) ◂ (c "Pair" ((c "Int" nil) ◂ (c "Pair" ((c "Int" nil) ◂ (c "Pair" ((c "Int" nil) ◂ (c "Pair" ((c "Int" nil) ◂ (c "Pair" ((c "Int" nil) ◂ (c "Pair" ((c "Int" nil) ◂ (c "Pair" ((c "Int" nil) ◂ (c "Pair" ((c "Int" nil) ◂ (c "Pair" ((c "Int" nil) ◂ (c "Pair" ((c "Int" nil) ◂ (c "Pair" ((c "Int" nil) ◂ (c "Pair" ((c "Int" nil) ◂ (c "Pair" ((c "Int" nil) ◂ (c "Pair" ((c "Int" nil) ◂ (c "Pair" ((c "Int" nil) ◂ (c "Pair" ((c "Int" nil) ◂ (c "Pair" ((c "Int" nil) ◂ (c "Pair" ((c "Int" nil) ◂ (c "Pair" ((c "Int" nil) ◂ (c "Pair" ((c "Int" nil) ◂ (c "Pair" ((c "Int" nil) ◂ (c "Pair" ((c "Int" nil) ◂ (c "Pair" ((c "Int" nil) ◂ (c "Pair" ((c "Int" nil) ◂ (c "Pair" ((c "Int" nil) ◂ (c "Pair" ((c "Int" nil) ◂ (c "Pair" ((c "Int" nil) ◂ (c "Pair" ((c "Int" nil) ◂ (c "Pair" ((c "Int" nil) ◂ (c "Pair" ((c "Int" nil) ◂ (c "Pair" ((c "Int" nil) ◂ (c "Pair" ((c "Int" nil) ◂ (c "Pair" ((c "Int" nil) ◂ (c "Pair" ((c "Int" nil) ◂ (c "Pair" ((c "Int" nil) ◂ (c "Pair" ((c "Int" nil) ◂ (c "Pair" ((c "Int" nil) ◂ (c "Pair" ((c "Int" nil) ◂ (c "Pair" ((c "Int" nil) ◂ (c "Pair" ((c "Int" nil) ◂ (c "Pair" ((c "Int" nil) ◂ (c "Pair" ((c "Int" nil) ◂ (c "Pair" ((c "Int" nil) ◂ (c "Pair" ((c "Int" nil) ◂ (c "Pair" ((c "Int" nil) ◂ (c "Pair" ((c "Int" nil) ◂ (c "Pair" ((c "Int" nil) ◂ (c "Pair" ((c "Int" nil) ◂ (c "Pair" ((c "Int" nil) ◂ (c "Pair" ((c "Int" nil) ◂ (c "Pair" ((c "Int" nil) ◂ (c "Pair" ((c "Int" nil) ◂ (c "Pair" ((c "Int" nil) ◂ (c "Pair" ((c "Int" nil) ◂ (c "Pair" ((c "Int" nil) ◂ (c "Pair" ((c "Int" nil) ◂ (c "Pair" ((c "Int" nil) ◂ (c "Pair" ((c "Int" nil) ◂ (c "Pair" ((c "Int" nil) ◂ (c "Pair" ((c "Int" nil) ◂ (c "Pair" ((c "Int" nil) ◂ (c "Pair" ((c "Int" nil) ◂ (c "Pair" ((c "Int" nil) ◂ (c "Pair" ((c "Int" nil) ◂ (c "Pair" ((c "Int" nil) ◂ (c "Pair" ((c "Int" nil) ◂ (c "Pair" ((c "Int" nil) ◂ (c "Pair" ((c "Int" nil) ◂ (c "Pair" ((c "Int" nil) ◂ (c "Pair" ((c "Int" nil) ◂ (c "Pair" ((c "Int" nil) ◂ (c "Pair" ((c "Int" nil) ◂ (c "Pair" ((c "Int" nil) ◂ (c "Pair" ((c "Int" nil) ◂ (c "Pair" ((c "Int" nil) ◂ (c "Pair" ((c "Int" nil) ◂ (c "Pair" ((c "Int" nil) ◂ (c "Pair" ((c "Int" nil) ◂ (c "Pair" ((c "Int" nil) ◂ (c "Pair" ((c "Int" nil) ◂ (c "Pair" ((c "Int" nil) ◂ (c "Pair" ((c "Int" nil) ◂ (c "Pair" ((c "Int" nil) ◂ (c "Pair" ((c "Int" nil) ◂ (c "Pair" ((c "Int" nil) ◂ (c "Pair" ((c "Int" nil) ◂ (c "Pair" ((c "Int" nil) ◂ (c "Pair" ((c "Int" nil) ◂ (c "Pair" ((c "Int" nil) ◂ (c "Pair" ((c "Int" nil) ◂ (c "Pair" ((c "Int" nil) ◂ (c "Pair" ((c "Int" nil) ◂ (c "Pair" ((c "Int" nil) ◂ (c "Pair" ((c "Int" nil) ◂ (c "Pair" ((c "Int" nil) ◂ (c "Pair" ((c "Int" nil) ◂ (c "Pair" ((c "Int" nil) ◂ (c "Pair" ((c "Int" nil) ◂ (c "Pair" ((c "Int" nil) ◂ (c "Pair" ((c "Int" nil) ◂ (c "Pair" ((c "Int" nil) ◂ (c "Pair" ((c "Int" nil) ◂ (c "Pair" ((c "Int" nil) ◂ (c "Pair" ((c "Int" nil) ◂ (c "Pair" ((c "Int" nil) ◂ (c "Pair" ((c "Int" nil) ◂ (c "Pair" ((c "Int" nil) ◂ (c "Pair" ((c "Int" nil) ◂ (c "Pair" ((c "Int" nil) ◂ (c "Pair" ((c "Int" nil) ◂ (c "Pair" ((c "Int" nil) ◂ (c "Pair" ((c "Int" nil) ◂ (c "Pair" ((c "Int" nil) ◂ (c "Pair" ((c "Int" nil) ◂ (c "Pair" ((c "Int" nil) ◂ (c "Pair" ((c "Int" nil) ◂ (c "Pair" ((c "Int" nil) ◂ (c "Pair" ((c "Int" nil) ◂ (c "Pair" ((c "Int" nil) ◂ (c "Pair" ((c "Int" nil) ◂ (c "Pair" ((c "Int" nil) ◂ (c "Int" nil) ◂ nil)) ◂ nil)) ◂ nil)) ◂ nil)) ◂ nil)) ◂ nil)) ◂ nil)) ◂ nil)) ◂ nil)) ◂ nil)) ◂ nil)) ◂ nil)) ◂ nil)) ◂ nil)) ◂ nil)) ◂ nil)) ◂ nil)) ◂ nil)) ◂ nil)) ◂ nil)) ◂ nil)) ◂ nil)) ◂ nil)) ◂ nil)) ◂ nil)) ◂ nil)) ◂ nil)) ◂ nil)) ◂ nil)) ◂ nil)) ◂ nil)) ◂ nil)) ◂ nil)) ◂ nil)) ◂ nil)) ◂ nil)) ◂ nil)) ◂ nil)) ◂ nil)) ◂ nil)) ◂ nil)) ◂ nil)) ◂ nil)) ◂ nil)) ◂ nil)) ◂ nil)) ◂ nil)) ◂ nil)) ◂ nil)) ◂ nil)) ◂ nil)) ◂ nil)) ◂ nil)) ◂ nil)) ◂ nil)) ◂ nil)) ◂ nil)) ◂ nil)) ◂ nil)) ◂ nil)) ◂ nil)) ◂ nil)) ◂ nil)) ◂ nil)) ◂ nil)) ◂ nil)) ◂ nil)) ◂ nil)) ◂ nil)) ◂ nil)) ◂ nil)) ◂ nil)) ◂ nil)) ◂ nil)) ◂ nil)) ◂ nil)) ◂ nil)) ◂ nil)) ◂ nil)) ◂ nil)) ◂ nil)) ◂ nil)) ◂ nil)) ◂ nil)) ◂ nil)) ◂ nil)) ◂ nil)) ◂ nil)) ◂ nil)) ◂ nil)) ◂ nil)) ◂ nil)) ◂ nil)) ◂ nil)) ◂ nil)) ◂ nil)) ◂ nil)) ◂ nil)) ◂ nil)) ◂ nil)) ◂ nil)) ◂ nil)) ◂ nil)) ◂ nil)) ◂ nil)) ◂ nil)) ◂ nil)) ◂ nil)) ◂ nil)) ◂ nil)) ◂ nil)) ◂ nil)) ◂ nil)) ◂ nil)) ◂ nil)) ◂ nil)) ◂ nil)) ◂ nil)) ◂ nil)) ◂ nil)) ◂ nil)) ◂ nil)) ◂ nil)) ◂ nil)) ◂ nil)) ◂ nil)) ◂ nil)) ◂ nil)) ◂ nil)) ◂ nil)) ◂ nil)) ◂ nil)) ◂ nil)) ◂ nil)) ◂ nil)) ◂ nil)) ◂ nil)) ◂ nil)) ◂ nil)) ◂ nil)) ◂ nil)) ◂ nil)) ◂ nil))) ∷ []) (body "mk" (eint 1) ∷ [])
    ∷ instance [] "Deep" (c "Int" nil) []
    ∷ check (eapp (ev "mk") (eint 1))
    ∷ check (eapp (ev "eq") (eapp (ev "mk") (eint 1)))
    ∷ define "g" (lam "x" (eapp (ev "eq") (eapp (ev "mk") (ev "x"))))
    ∷ instance [] "Deep" (c "Pair" ((c "Int" nil) ◂ (c "Pair" ((c "Int" nil) ◂ (c "Pair" ((c "Int" nil) ◂ (c "Pair" ((c "Int" nil) ◂ (c "Pair" ((c "Int" nil) ◂ (c "Pair" ((c "Int" nil) ◂ (c "Pair" ((c "Int" nil) ◂ (c "Pair" ((c "Int" nil) ◂ (c "Pair" ((c "Int" nil) ◂ (c "Pair" ((c "Int" nil) ◂ (c "Pair" ((c "Int" nil) ◂ (c "Pair" ((c "Int" nil) ◂ (c "Pair" ((c "Int" nil) ◂ (c "Pair" ((c "Int" nil) ◂ (c "Pair" ((c "Int" nil) ◂ (c "Pair" ((c "Int" nil) ◂ (c "Pair" ((c "Int" nil) ◂ (c "Pair" ((c "Int" nil) ◂ (c "Pair" ((c "Int" nil) ◂ (c "Pair" ((c "Int" nil) ◂ (c "Pair" ((c "Int" nil) ◂ (c "Pair" ((c "Int" nil) ◂ (c "Pair" ((c "Int" nil) ◂ (c "Pair" ((c "Int" nil) ◂ (c "Pair" ((c "Int" nil) ◂ (c "Pair" ((c "Int" nil) ◂ (c "Pair" ((c "Int" nil) ◂ (c "Pair" ((c "Int" nil) ◂ (c "Pair" ((c "Int" nil) ◂ (c "Pair" ((c "Int" nil) ◂ (c "Pair" ((c "Int" nil) ◂ (c "Pair" ((c "Int" nil) ◂ (c "Pair" ((c "Int" nil) ◂ (c "Pair" ((c "Int" nil) ◂ (c "Pair" ((c "Int" nil) ◂ (c "Pair" ((c "Int" nil) ◂ (c "Pair" ((c "Int" nil) ◂ (c "Pair" ((c "Int" nil) ◂ (c "Pair" ((c "Int" nil) ◂ (c "Pair" ((c "Int" nil) ◂ (c "Pair" ((c "Int" nil) ◂ (c "Pair" ((c "Int" nil) ◂ (c "Pair" ((c "Int" nil) ◂ (c "Pair" ((c "Int" nil) ◂ (c "Pair" ((c "Int" nil) ◂ (c "Pair" ((c "Int" nil) ◂ (c "Pair" ((c "Int" nil) ◂ (c "Pair" ((c "Int" nil) ◂ (c "Pair" ((c "Int" nil) ◂ (c "Pair" ((c "Int" nil) ◂ (c "Pair" ((c "Int" nil) ◂ (c "Pair" ((c "Int" nil) ◂ (c "Pair" ((c "Int" nil) ◂ (c "Pair" ((c "Int" nil) ◂ (c "Pair" ((c "Int" nil) ◂ (c "Pair" ((c "Int" nil) ◂ (c "Pair" ((c "Int" nil) ◂ (c "Pair" ((c "Int" nil) ◂ (c "Pair" ((c "Int" nil) ◂ (c "Pair" ((c "Int" nil) ◂ (c "Pair" ((c "Int" nil) ◂ (c "Pair" ((c "Int" nil) ◂ (c "Pair" ((c "Int" nil) ◂ (c "Pair" ((c "Int" nil) ◂ (c "Pair" ((c "Int" nil) ◂ (c "Pair" ((c "Int" nil) ◂ (c "Pair" ((c "Int" nil) ◂ (c "Pair" ((c "Int" nil) ◂ (c "Pair" ((c "Int" nil) ◂ (c "Pair" ((c "Int" nil) ◂ (c "Pair" ((c "Int" nil) ◂ (c "Pair" ((c "Int" nil) ◂ (c "Pair" ((c "Int" nil) ◂ (c "Pair" ((c "Int" nil) ◂ (c "Pair" ((c "Int" nil) ◂ (c "Pair" ((c "Int" nil) ◂ (c "Pair" ((c "Int" nil) ◂ (c "Pair" ((c "Int" nil) ◂ (c "Pair" ((c "Int" nil) ◂ (c "Pair" ((c "Int" nil) ◂ (c "Pair" ((c "Int" nil) ◂ (c "Pair" ((c "Int" nil) ◂ (c "Pair" ((c "Int" nil) ◂ (c "Pair" ((c "Int" nil) ◂ (c "Pair" ((c "Int" nil) ◂ (c "Pair" ((c "Int" nil) ◂ (c "Pair" ((c "Int" nil) ◂ (c "Pair" ((c "Int" nil) ◂ (c "Pair" ((c "Int" nil) ◂ (c "Pair" ((c "Int" nil) ◂ (c "Pair" ((c "Int" nil) ◂ (c "Pair" ((c "Int" nil) ◂ (c "Pair" ((c "Int" nil) ◂ (c "Pair" ((c "Int" nil) ◂ (c "Pair" ((c "Int" nil) ◂ (c "Pair" ((c "Int" nil) ◂ (c "Pair" ((c "Int" nil) ◂ (c "Pair" ((c "Int" nil) ◂ (c "Pair" ((c "Int" nil) ◂ (c "Pair" ((c "Int" nil) ◂ (c "Pair" ((c "Int" nil) ◂ (c "Pair" ((c "Int" nil) ◂ (c "Pair" ((c "Int" nil) ◂ (c "Pair" ((c "Int" nil) ◂ (c "Pair" ((c "Int" nil) ◂ (c "Pair" ((c "Int" nil) ◂ (c "Pair" ((c "Int" nil) ◂ (c "Pair" ((c "Int" nil) ◂ (c "Pair" ((c "Int" nil) ◂ (c "Pair" ((c "Int" nil) ◂ (c "Pair" ((c "Int" nil) ◂ (c "Pair" ((c "Int" nil) ◂ (c "Pair" ((c "Int" nil) ◂ (c "Pair" ((c "Int" nil) ◂ (c "Pair" ((c "Int" nil) ◂ (c "Pair" ((c "Int" nil) ◂ (c "Pair" ((c "Int" nil) ◂ (c "Pair" ((c "Int" nil) ◂ (c "Pair" ((c "Int" nil) ◂ (c "Pair" ((c "Int" nil) ◂ (c "Pair" ((c "Int" nil) ◂ (c "Pair" ((c "Int" nil) ◂ (c "Pair" ((c "Int" nil) ◂ (c "Pair" ((c "Int" nil) ◂ (c "Pair" ((c "Int" nil) ◂ (c "Pair" ((c "Int" nil) ◂ (c "Pair" ((c "Int" nil) ◂ (c "Pair" ((c "Int" nil) ◂ (c "Pair" ((c "Int" nil) ◂ (c "Pair" ((c "Int" nil) ◂ (c "Pair" ((c "Int" nil) ◂ (c "Pair" ((c "Int" nil) ◂ (c "Pair" ((c "Int" nil) ◂ (c "Pair" ((c "Int" nil) ◂ (c "Pair" ((c "Int" nil) ◂ (c "Pair" ((c "Int" nil) ◂ (c "Pair" ((c "Int" nil) ◂ (c "Pair" ((c "Int" nil) ◂ (c "Pair" ((c "Int" nil) ◂ (c "Pair" ((c "Int" nil) ◂ (c "Pair" ((c "Int" nil) ◂ (c "Pair" ((c "Int" nil) ◂ (c "Pair" ((c "Int" nil) ◂ (c "Int" nil) ◂ nil)) ◂ nil)) ◂ nil)) ◂ nil)) ◂ nil)) ◂ nil)) ◂ nil)) ◂ nil)) ◂ nil)) ◂ nil)) ◂ nil)) ◂ nil)) ◂ nil)) ◂ nil)) ◂ nil)) ◂ nil)) ◂ nil)) ◂ nil)) ◂ nil)) ◂ nil)) ◂ nil)) ◂ nil)) ◂ nil)) ◂ nil)) ◂ nil)) ◂ nil)) ◂ nil)) ◂ nil)) ◂ nil)) ◂ nil)) ◂ nil)) ◂ nil)) ◂ nil)) ◂ nil)) ◂ nil)) ◂ nil)) ◂ nil)) ◂ nil)) ◂ nil)) ◂ nil)) ◂ nil)) ◂ nil)) ◂ nil)) ◂ nil)) ◂ nil)) ◂ nil)) ◂ nil)) ◂ nil)) ◂ nil)) ◂ nil)) ◂ nil)) ◂ nil)) ◂ nil)) ◂ nil)) ◂ nil)) ◂ nil)) ◂ nil)) ◂ nil)) ◂ nil)) ◂ nil)) ◂ nil)) ◂ nil)) ◂ nil)) ◂ nil)) ◂ nil)) ◂ nil)) ◂ nil)) ◂ nil)) ◂ nil)) ◂ nil)) ◂ nil)) ◂ nil)) ◂ nil)) ◂ nil)) ◂ nil)) ◂ nil)) ◂ nil)) ◂ nil)) ◂ nil)) ◂ nil)) ◂ nil)) ◂ nil)) ◂ nil)) ◂ nil)) ◂ nil)) ◂ nil)) ◂ nil)) ◂ nil)) ◂ nil)) ◂ nil)) ◂ nil)) ◂ nil)) ◂ nil)) ◂ nil)) ◂ nil)) ◂ nil)) ◂ nil)) ◂ nil)) ◂ nil)) ◂ nil)) ◂ nil)) ◂ nil)) ◂ nil)) ◂ nil)) ◂ nil)) ◂ nil)) ◂ nil)) ◂ nil)) ◂ nil)) ◂ nil)) ◂ nil)) ◂ nil)) ◂ nil)) ◂ nil)) ◂ nil)) ◂ nil)) ◂ nil)) ◂ nil)) ◂ nil)) ◂ nil)) ◂ nil)) ◂ nil)) ◂ nil)) ◂ nil)) ◂ nil)) ◂ nil)) ◂ nil)) ◂ nil)) ◂ nil)) ◂ nil)) ◂ nil)) ◂ nil)) ◂ nil)) ◂ nil)) ◂ nil)) ◂ nil)) ◂ nil)) ◂ nil)) ◂ nil)) ◂ nil)) ◂ nil)) ◂ nil)) ◂ nil)) []
    ∷ instance [] "Deep" (c "Pair" ((c "Int" nil) ◂ (c "Pair" ((c "Int" nil) ◂ (c "Pair" ((c "Int" nil) ◂ (c "Pair" ((c "Int" nil) ◂ (c "Pair" ((c "Int" nil) ◂ (c "Pair" ((c "Int" nil) ◂ (c "Pair" ((c "Int" nil) ◂ (c "Pair" ((c "Int" nil) ◂ (c "Pair" ((c "Int" nil) ◂ (c "Pair" ((c "Int" nil) ◂ (c "Pair" ((c "Int" nil) ◂ (c "Pair" ((c "Int" nil) ◂ (c "Pair" ((c "Int" nil) ◂ (c "Pair" ((c "Int" nil) ◂ (c "Pair" ((c "Int" nil) ◂ (c "Pair" ((c "Int" nil) ◂ (c "Pair" ((c "Int" nil) ◂ (c "Pair" ((c "Int" nil) ◂ (c "Pair" ((c "Int" nil) ◂ (c "Pair" ((c "Int" nil) ◂ (c "Pair" ((c "Int" nil) ◂ (c "Pair" ((c "Int" nil) ◂ (c "Pair" ((c "Int" nil) ◂ (c "Pair" ((c "Int" nil) ◂ (c "Pair" ((c "Int" nil) ◂ (c "Pair" ((c "Int" nil) ◂ (c "Pair" ((c "Int" nil) ◂ (c "Pair" ((c "Int" nil) ◂ (c "Pair" ((c "Int" nil) ◂ (c "Pair" ((c "Int" nil) ◂ (c "Pair" ((c "Int" nil) ◂ (c "Pair" ((c "Int" nil) ◂ (c "Pair" ((c "Int" nil) ◂ (c "Pair" ((c "Int" nil) ◂ (c "Pair" ((c "Int" nil) ◂ (c "Pair" ((c "Int" nil) ◂ (c "Pair" ((c "Int" nil) ◂ (c "Pair" ((c "Int" nil) ◂ (c "Pair" ((c "Int" nil) ◂ (c "Pair" ((c "Int" nil) ◂ (c "Pair" ((c "Int" nil) ◂ (c "Pair" ((c "Int" nil) ◂ (c "Pair" ((c "Int" nil) ◂ (c "Pair" ((c "Int" nil) ◂ (c "Pair" ((c "Int" nil) ◂ (c "Pair" ((c "Int" nil) ◂ (c "Pair" ((c "Int" nil) ◂ (c "Pair" ((c "Int" nil) ◂ (c "Pair" ((c "Int" nil) ◂ (c "Pair" ((c "Int" nil) ◂ (c "Pair" ((c "Int" nil) ◂ (c "Pair" ((c "Int" nil) ◂ (c "Pair" ((c "Int" nil) ◂ (c "Pair" ((c "Int" nil) ◂ (c "Pair" ((c "Int" nil) ◂ (c "Pair" ((c "Int" nil) ◂ (c "Pair" ((c "Int" nil) ◂ (c "Pair" ((c "Int" nil) ◂ (c "Pair" ((c "Int" nil) ◂ (c "Pair" ((c "Int" nil) ◂ (c "Pair" ((c "Int" nil) ◂ (c "Pair" ((c "Int" nil) ◂ (c "Pair" ((c "Int" nil) ◂ (c "Pair" ((c "Int" nil) ◂ (c "Pair" ((c "Int" nil) ◂ (c "Pair" ((c "Int" nil) ◂ (c "Pair" ((c "Int" nil) ◂ (c "Pair" ((c "Int" nil) ◂ (c "Pair" ((c "Int" nil) ◂ (c "Pair" ((c "Int" nil) ◂ (c "Pair" ((c "Int" nil) ◂ (c "Pair" ((c "Int" nil) ◂ (c "Pair" ((c "Int" nil) ◂ (c "Pair" ((c "Int" nil) ◂ (c "Pair" ((c "Int" nil) ◂ (c "Pair" ((c "Int" nil) ◂ (c "Pair" ((c "Int" nil) ◂ (c "Pair" ((c "Int" nil) ◂ (c "Pair" ((c "Int" nil) ◂ (c "Pair" ((c "Int" nil) ◂ (c "Pair" ((c "Int" nil) ◂ (c "Pair" ((c "Int" nil) ◂ (c "Pair" ((c "Int" nil) ◂ (c "Pair" ((c "Int" nil) ◂ (c "Pair" ((c "Int" nil) ◂ (c "Pair" ((c "Int" nil) ◂ (c "Pair" ((c "Int" nil) ◂ (c "Pair" ((c "Int" nil) ◂ (c "Pair" ((c "Int" nil) ◂ (c "Pair" ((c "Int" nil) ◂ (c "Pair" ((c "Int" nil) ◂ (c "Pair" ((c "Int" nil) ◂ (c "Pair" ((c "Int" nil) ◂ (c "Pair" ((c "Int" nil) ◂ (c "Pair" ((c "Int" nil) ◂ (c "Pair" ((c "Int" nil) ◂ (c "Pair" ((c "Int" nil) ◂ (c "Pair" ((c "Int" nil) ◂ (c "Pair" ((c "Int" nil) ◂ (c "Pair" ((c "Int" nil) ◂ (c "Pair" ((c "Int" nil) ◂ (c "Pair" ((c "Int" nil) ◂ (c "Pair" ((c "Int" nil) ◂ (c "Pair" ((c "Int" nil) ◂ (c "Pair" ((c "Int" nil) ◂ (c "Pair" ((c "Int" nil) ◂ (c "Pair" ((c "Int" nil) ◂ (c "Pair" ((c "Int" nil) ◂ (c "Pair" ((c "Int" nil) ◂ (c "Pair" ((c "Int" nil) ◂ (c "Pair" ((c "Int" nil) ◂ (c "Pair" ((c "Int" nil) ◂ (c "Pair" ((c "Int" nil) ◂ (c "Pair" ((c "Int" nil) ◂ (c "Pair" ((c "Int" nil) ◂ (c "Pair" ((c "Int" nil) ◂ (c "Pair" ((c "Int" nil) ◂ (c "Pair" ((c "Int" nil) ◂ (c "Pair" ((c "Int" nil) ◂ (c "Pair" ((c "Int" nil) ◂ (c "Pair" ((c "Int" nil) ◂ (c "Pair" ((c "Int" nil) ◂ (c "Pair" ((c "Int" nil) ◂ (c "Pair" ((c "Int" nil) ◂ (c "Pair" ((c "Int" nil) ◂ (c "Pair" ((c "Int" nil) ◂ (c "Pair" ((c "Int" nil) ◂ (c "Pair" ((c "Int" nil) ◂ (c "Pair" ((c "Int" nil) ◂ (c "Pair" ((c "Int" nil) ◂ (c "Pair" ((c "Int" nil) ◂ (c "Pair" ((c "Int" nil) ◂ (c "Pair" ((c "Int" nil) ◂ (c "Pair" ((c "Int" nil) ◂ (c "Pair" ((c "Int" nil) ◂ (c "Pair" ((c "Int" nil) ◂ (c "Pair" ((c "Int" nil) ◂ (c "Pair" ((c "Int" nil) ◂ (c "Pair" ((c "Int" nil) ◂ (c "Pair" ((c "Int" nil) ◂ (c "Pair" ((c "Int" nil) ◂ (c "Pair" ((c "Int" nil) ◂ (c "Pair" ((c "Int" nil) ◂ (c "Int" nil) ◂ nil)) ◂ nil)) ◂ nil)) ◂ nil)) ◂ nil)) ◂ nil)) ◂ nil)) ◂ nil)) ◂ nil)) ◂ nil)) ◂ nil)) ◂ nil)) ◂ nil)) ◂ nil)) ◂ nil)) ◂ nil)) ◂ nil)) ◂ nil)) ◂ nil)) ◂ nil)) ◂ nil)) ◂ nil)) ◂ nil)) ◂ nil)) ◂ nil)) ◂ nil)) ◂ nil)) ◂ nil)) ◂ nil)) ◂ nil)) ◂ nil)) ◂ nil)) ◂ nil)) ◂ nil)) ◂ nil)) ◂ nil)) ◂ nil)) ◂ nil)) ◂ nil)) ◂ nil)) ◂ nil)) ◂ nil)) ◂ nil)) ◂ nil)) ◂ nil)) ◂ nil)) ◂ nil)) ◂ nil)) ◂ nil)) ◂ nil)) ◂ nil)) ◂ nil)) ◂ nil)) ◂ nil)) ◂ nil)) ◂ nil)) ◂ nil)) ◂ nil)) ◂ nil)) ◂ nil)) ◂ nil)) ◂ nil)) ◂ nil)) ◂ nil)) ◂ nil)) ◂ nil)) ◂ nil)) ◂ nil)) ◂ nil)) ◂ nil)) ◂ nil)) ◂ nil)) ◂ nil)) ◂ nil)) ◂ nil)) ◂ nil)) ◂ nil)) ◂ nil)) ◂ nil)) ◂ nil)) ◂ nil)) ◂ nil)) ◂ nil)) ◂ nil)) ◂ nil)) ◂ nil)) ◂ nil)) ◂ nil)) ◂ nil)) ◂ nil)) ◂ nil)) ◂ nil)) ◂ nil)) ◂ nil)) ◂ nil)) ◂ nil)) ◂ nil)) ◂ nil)) ◂ nil)) ◂ nil)) ◂ nil)) ◂ nil)) ◂ nil)) ◂ nil)) ◂ nil)) ◂ nil)) ◂ nil)) ◂ nil)) ◂ nil)) ◂ nil)) ◂ nil)) ◂ nil)) ◂ nil)) ◂ nil)) ◂ nil)) ◂ nil)) ◂ nil)) ◂ nil)) ◂ nil)) ◂ nil)) ◂ nil)) ◂ nil)) ◂ nil)) ◂ nil)) ◂ nil)) ◂ nil)) ◂ nil)) ◂ nil)) ◂ nil)) ◂ nil)) ◂ nil)) ◂ nil)) ◂ nil)) ◂ nil)) ◂ nil)) ◂ nil)) ◂ nil)) ◂ nil)) ◂ nil)) ◂ nil)) ◂ nil)) ◂ nil)) ◂ nil)) []
    ∷ check (lam "y" (bind "h" (lam "x" (bind "k" (eapp (eapp (lam "p" (lam "q" (ev "p"))) (eapp (eapp (ev "eq") (ev "x")) (ev "x"))) (eapp (eapp (ev "eq") (ev "x")) (ev "x"))) (eapp (eapp (lam "p" (lam "q" (ev "q"))) (ev "k")) (eapp (eapp (ev "eq") (ev "x")) (ev "x"))))) (eapp (ev "h") (ev "y"))))
    ∷ []

s_5000176_computed : metered 512 65536 512 s_5000176 ≡ said "declarations 11\n0 0 - | 11 44 0 0\n1 0 - | 4 46 0 0\n2 0 - | 9 51 0 0\n3 6 - | 512 51 0 0\n4 19 Deep | 1 51 0 0\n5 11 mk | 2 51 0 0\n6 11 mk | 10 51 0 0\n7 11 mk | 12 51 0 0\n8 19 Deep | 287 51 0 0\n9 19 Deep | 287 51 0 0\n10 6 - | 512 51 0 0\n"
unfolding everything metered said
s_5000176_computed = refl

abbrev s_5000306 : List Decl
s_5000306 =
    class "Eq" "a" [] (sig "lt" (arrow (c "List" nil) (v "a")) ∷ []) []
    ∷ instance [] "Eq" (c "List" ((c "Int" nil) ◂ nil)) (body "lt" (lam "q" (eapp (ev "primEqInt") (ev "primEqInt"))) ∷ [])
    ∷ instance [] "Eq" (c "Int" nil) (body "lt" (lam "primAndBool" (eint 8)) ∷ [])
    ∷ class "Num" "a" [] (sig "lt" (arrow (v "a") (c "Pair" ((v "a") ◂ nil))) ∷ sig "eq" (arrow (v "a") (c "Pair" ((v "a") ◂ nil))) ∷ []) []
    ∷ class "Bag" "a" [] [] []
    ∷ class "Fun" "a" ("Bag" ∷ "Eq" ∷ []) (sig "snd" (arrow (v "b") (v "b")) ∷ []) []
    ∷ instance [] "Bag" (c "List" ((c "List" ((v "a") ◂ nil)) ◂ nil)) []
    ∷ check (bind "x" (lam "x" (ev "x")) (eint 6))
    ∷ instance (at "Num" (v "a") ∷ at "Num" (v "a") ∷ at "Bag" (v "a") ∷ []) "Num" (c "List" ((v "a") ◂ nil)) (body "eq" (lam "x" (eapp (ev "eq") (ev "x"))) ∷ body "lt" (lam "x" (eapp (ev "eq") (ev "x"))) ∷ [])
    ∷ define "snd" (bind "k" (eapp (ev "primLtInt") (bind "v" (lam "w" (eapp (eapp (ev "primAndBool") (ebool true)) (ebool true))) (eapp (ev "snd") (eint 9)))) (eapp (ev "k") (eint 4426277295658667910)))
    ∷ class "Ord" "a" ("Fun" ∷ "Real" ∷ []) (sig "fst" (arrow (v "a") (c "List" nil)) ∷ []) []
    ∷ define "f" (eapp (lam "w" (eapp (ev "w") (ev "w"))) (eapp (ev "primAddInt") (eapp (eapp (ev "primMulInt") (eint 7)) (eint 4))))
    ∷ instance [] "Bag" (c "List" ((c "List" ((c "List" ((c "Int" nil) ◂ nil)) ◂ nil)) ◂ nil)) []
    ∷ instance [] "Eq" (c "List" ((c "List" ((c "List" ((c "Int" nil) ◂ nil)) ◂ nil)) ◂ nil)) (body "lt" (lam "q" (eapp (ev "snd") (bind "h" (bind "g" (lam "q" (ev "q")) (ebool true)) (eapp (ev "snd") (eapp (ev "snd") (eapp (ev "snd") (eapp (ev "snd") (ev "q")))))))) ∷ [])
    ∷ instance [] "Fun" (c "List" ((c "List" ((c "List" ((c "Int" nil) ◂ nil)) ◂ nil)) ◂ nil)) (body "snd" (lam "z" (ev "z")) ∷ [])
    ∷ []

s_5000306_computed : metered 512 65536 512 s_5000306 ≡ said "declarations 15\n0 0 - | 7 40 0 0\n1 12 Int (-> Int (-> Int Bool)) | 27 40 0 0\n2 0 - | 23 43 1 0\n3 0 - | 18 57 1 0\n4 0 - | 0 57 1 0\n5 0 - | 7 64 1 0\n6 0 - | 3 67 1 0\n7 0 [] Int = (let x (lam x x) 6) | 23 67 2 0\n8 16 Num (List a) | 70 67 2 0\n9 17 Fun t7 | 122 67 2 0\n10 21 Ord Real | 7 67 2 0\n11 13 t3 (-> t3 t4) | 10 67 2 0\n12 18 Bag (List (List (List Int))) | 7 67 2 0\n13 15 List 0 1 | 173 67 2 0\n14 16 Eq (List (List (List Int))) | 34 67 2 0\n"
unfolding everything metered said
s_5000306_computed = refl

abbrev s_5000338 : List Decl
s_5000338 =
    class "Real" "a" [] (sig "lt" (arrow (c "Pair" ((v "a") ◂ nil)) (v "a")) ∷ sig "add" (arrow (c "Pair" ((v "a") ◂ (v "a") ◂ nil)) (v "a")) ∷ []) (body "add" (lam "p" (bind "same" (ev "add") (eapp (ev "lt") (eapp (ev "add") (eapp (ev "add") (eapp (ebool true) (ev "lt"))))))) ∷ [])
    ∷ instance (at "Real" (v "b") ∷ at "Real" (v "b") ∷ []) "Real" (c "List" ((v "b") ◂ nil)) (body "lt" (lam "x" (eapp (ev "add") (eapp (ev "add") (eapp (ev "lt") (eapp (ev "lt") (eapp (ev "x") (ev "x"))))))) ∷ [])
    ∷ instance [] "Real" (c "List" ((v "b") ◂ nil)) (body "lt" (lam "primNotBool" (eapp (ev "lt") (ev "primNotBool"))) ∷ body "add" (lam "x" (eapp (eapp (lam "u" (lam "v" (ev "v"))) (eapp (ev "add") (ev "x"))) (eapp (eapp (lam "u" (lam "v" (ev "v"))) (eapp (ev "lt") (ev "x"))) (eapp (eapp (lam "u" (lam "v" (ev "v"))) (eapp (ev "lt") (ev "x"))) (eapp (ev "add") (ev "x")))))) ∷ [])
    ∷ class "Ord" "z" [] [] []
    ∷ instance [] "Ord" (c "Pair" ((c "Int" nil) ◂ (v "a") ◂ nil)) []
    ∷ class "Num" "a" ("Real" ∷ []) (sig "cons" (c "List" ((v "a") ◂ nil)) ∷ []) []
    ∷ instance (at "Ord" (v "a") ∷ at "Num" (v "tx") ∷ at "Ord" (v "tx") ∷ []) "Ord" (c "Pair" ((v "a") ◂ (v "tx") ◂ nil)) []
    ∷ instance [] "Real" (c "Int" nil) (body "lt" (lam "x" (eapp (eapp (lam "u" (lam "v" (ev "v"))) (eapp (ev "lt") (ev "x"))) (eapp (eapp (lam "u" (lam "v" (ev "v"))) (ev "cons")) (eapp (eapp (lam "u" (lam "v" (ev "v"))) (eapp (ev "lt") (ev "x"))) (eint 7))))) ∷ [])
    ∷ instance [] "Ord" (c "Int" nil) []
    ∷ check (eapp (ev "lt") (eapp (ev "add") (eapp (ev "lt") (eapp (ev "lt") (ev "primAddInt")))))
    ∷ check (ebool false)
    ∷ class "Show" "a" ("Num" ∷ []) (sig "nil" (arrow (v "a") (v "t")) ∷ sig "pair" (arrow (v "a") (v "a")) ∷ sig "tag" (arrow (v "c") (arrow (v "a") (v "c"))) ∷ []) []
    ∷ instance [] "Real" (c "List" ((v "a") ◂ nil)) (body "lt" (lam "u" (bind "w" (ev "pair") (eapp (ev "w") (ev "cons")))) ∷ [])
    ∷ instance [] "Num" (c "List" ((v "a") ◂ nil)) (body "cons" (eapp (ev "add") (lam "q" (ev "q"))) ∷ [])
    ∷ instance [] "Show" (c "List" ((v "a") ◂ nil)) (body "nil" (eapp (ev "lt") (eapp (ev "nil") (eapp (ev "lt") (eapp (ev "lt") (eapp (ev "add") (ebool true)))))) ∷ body "pair" (lam "x" (eapp (eapp (lam "u" (lam "v" (ev "v"))) (eapp (ev "add") (ev "x"))) (eapp (eapp (lam "u" (lam "v" (ev "v"))) (eapp (ev "add") (ev "x"))) (eapp (eapp (lam "u" (lam "v" (ev "v"))) (eapp (ev "add") (ev "x"))) (eapp (eapp (lam "u" (lam "v" (ev "v"))) (eapp (ev "add") (ev "x"))) (eapp (eapp (lam "u" (lam "v" (ev "v"))) (eapp (ev "add") (ev "x"))) (ev "x"))))))) ∷ body "tag" (eapp (ev "nil") (ev "lt")) ∷ [])
    ∷ define "twice" (lam "x" (bind "same" (eapp (ev "lt") (ev "x")) (eapp (lam "u" (ev "cons")) (eapp (ev "add") (ev "x")))))
    ∷ []

s_5000338_computed : metered 512 65536 512 s_5000338 ≡ said "declarations 16\n0 0 - | 20 53 0 0\n1 13 t0 (-> t0 t9) | 51 53 0 0\n2 16 Real (List b) | 61 53 0 0\n3 0 - | 0 53 0 0\n4 0 - | 3 56 0 0\n5 0 - | 5 61 0 0\n6 18 Ord (Pair a tx) | 11 61 0 0\n7 16 Real Int | 287 61 0 0\n8 0 - | 3 62 0 0\n9 12 (Pair t7) (-> Int (-> Int Int)) | 41 62 0 0\n10 0 [] Bool = false | 5 62 0 0\n11 0 - | 25 87 0 0\n12 16 Show (List a) | 81 87 0 0\n13 12 (Pair t1 t1) (-> t2 t2) | 23 87 0 0\n14 14 Pair Bool | 48 87 0 0\n15 15 Pair 2 1 | 72 87 0 0\n"
unfolding everything metered said
s_5000338_computed = refl

abbrev s_5000346 : List Decl
s_5000346 =
    class "Mon" "a" [] (sig "conv" (arrow (v "a") (c "Int" nil)) ∷ []) []
    ∷ instance (at "Mon" (v "a") ∷ at "Mon" (v "a") ∷ at "Mon" (v "a") ∷ at "Mon" (v "a") ∷ []) "Mon" (v "a") (body "conv" (lam "v" (ev "v")) ∷ [])
    ∷ class "Mon" "A" ("Mon" ∷ []) (sig "pair" (arrow (c "List" nil) (v "A")) ∷ []) []
    ∷ instance [] "Mon" (c "List" ((v "c") ◂ nil)) (body "conv" (lam "q" (eapp (eapp (ev "primMulInt") (eapp (ev "conv") (ev "q"))) (eint 7))) ∷ [])
    ∷ instance [] "Mon" (arrow (c "Int" nil) (v "a")) (body "conv" (ev "conv") ∷ [])
    ∷ class "Show" "a" [] (sig "shw" (arrow (v "a") (arrow (c "List" ((v "a") ◂ nil)) (c "List" ((v "a") ◂ nil)))) ∷ sig "zero" (arrow (c "Pair" ((v "a") ◂ (v "t") ◂ nil)) (v "a")) ∷ []) []
    ∷ class "Real" "A" [] (sig "neg" (arrow (v "A") (arrow (v "A") (c "Bool" nil))) ∷ sig "pair" (arrow (v "b") (v "b")) ∷ []) []
    ∷ class "Eq" "a" ("Show" ∷ []) (sig "pair" (v "a") ∷ sig "mk" (arrow (v "a") (v "a")) ∷ sig "use1" (arrow (v "a") (c "List" ((v "a") ◂ nil))) ∷ []) []
    ∷ instance (at "Mon" (v "a") ∷ []) "Eq" (c "List" ((c "List" ((v "a") ◂ nil)) ◂ nil)) (body "pair" (eapp (ev "use1") (eapp (ev "use1") (eapp (ev "primMulInt") (eapp (ev "zero") (eapp (ev "mk") (ev "pair")))))) ∷ body "mk" (lam "y" (ev "y")) ∷ body "use1" (ev "use1") ∷ [])
    ∷ check (lam "x" (lam "y" (lam "z" (bind "same" (eapp (ev "pair") (ev "z")) (eapp (lam "u" (eapp (lam "u" (eapp (lam "u" (eapp (eapp (ev "neg") (ev "x")) (ev "z"))) (eapp (ev "conv") (ev "x")))) (eapp (eapp (ev "neg") (ev "x")) (ev "y")))) (eapp (eapp (ev "shw") (ev "y")) (ev "y")))))))
    ∷ instance [] "Real" (c "Int" nil) (body "neg" (lam "x" (lam "mk" (eapp (ev "zero") (ev "pair")))) ∷ [])
    ∷ check (eapp (ev "zero") (eapp (ev "zero") (bind "twice" (bind "mk" (bind "v" (lam "q" (ev "q")) (ev "v")) (ev "mk")) (eapp (ev "mk") (ev "pair")))))
    ∷ define "id" (lam "x" (bind "twice" (eapp (ev "use1") (ev "x")) (bind "same" (eapp (ev "mk") (ev "x")) (bind "id" (eapp (eapp (ev "shw") (ev "x")) (ev "x")) (eapp (eapp (lam "u" (lam "v" (ev "v"))) (eapp (ev "zero") (ev "x"))) (ev "pair"))))))
    ∷ check (lam "x" (eapp (ev "zero") (ev "pair")))
    ∷ define "same" (eapp (lam "x" (eapp (eapp (lam "u" (lam "v" (ev "v"))) (eapp (eapp (ev "neg") (ev "x")) (ev "x"))) (eapp (ev "zero") (ev "x")))) (ebool true))
    ∷ []

s_5000346_computed : metered 512 65536 512 s_5000346 ≡ said "declarations 15\n0 0 - | 7 40 0 0\n1 0 - | 28 47 1 0\n2 4 - | 0 47 1 0\n3 6 - | 512 47 1 0\n4 6 - | 512 47 1 0\n5 0 - | 26 73 1 0\n6 0 - | 18 91 1 0\n7 0 - | 19 106 1 0\n8 16 Eq (List (-> Int Int)) | 255 106 1 0\n9 16 Eq (-> t3 t4) | 24 106 1 0\n10 16 Show Bool | 73 106 1 0\n11 20 mk | 49 106 1 0\n12 13 t4 (List t4) | 135 106 1 0\n13 16 Eq (Pair t2 t4) | 38 106 1 0\n14 14 Pair Bool | 153 106 1 0\n"
unfolding everything metered said
s_5000346_computed = refl

abbrev s_5000394 : List Decl
s_5000394 =
    define "deep" (eapp (eapp (eapp (eapp (eapp (eapp (eapp (eapp (eapp (eapp (eapp (eapp (eapp (eapp (eapp (eapp (eapp (eapp (eapp (eapp (eapp (eapp (eapp (eapp (eapp (eapp (eapp (eapp (eapp (eapp (eapp (eapp (eapp (eapp (eapp (eapp (eapp (eapp (eapp (eapp (eapp (eapp (eapp (eapp (eapp (eapp (eapp (eapp (eapp (eapp (eapp (eapp (eapp (eapp (eapp (eapp (eapp (eapp (eapp (eapp (eapp (eapp (eapp (eapp (eapp (eapp (eapp (eapp (eapp (eapp (eapp (eapp (eapp (eapp (eapp (eapp (eapp (eapp (eapp (eapp (eapp (eapp (eapp (eapp (eapp (eapp (eapp (eapp (eapp (eapp (eapp (eapp (eapp (eapp (eapp (eapp (eapp (eapp (eapp (eapp (eapp (eapp (eapp (eapp (eapp (eapp (eapp (eapp (eapp (eapp (eapp (eapp (eapp (eapp (eapp (eapp (eapp (eapp (eapp (eapp (eapp (eapp (eapp (eapp (eapp (eapp (eapp (eapp (eapp (eapp (eapp (eapp (eapp (eapp (eapp (eapp (eapp (eapp (eapp (eapp (eapp (eapp (eapp (eapp (eapp (eapp (eapp (eapp (eapp (eapp (eapp (eapp (eapp (eapp (eapp (eapp (eapp (eapp (eapp (eapp (eapp (eapp (eapp (eapp (eapp (eapp (eapp (eapp (eapp (eapp (eapp (eapp (eapp (eapp (eapp (eapp (eapp (eapp (eapp (eapp (eapp (eapp (eapp (eapp (eapp (eapp (eapp (eapp (eapp (eapp (eapp (eapp (eapp (eapp (eapp (eapp (eapp (eapp (eapp (eapp (eapp (eapp (eapp (eapp (eapp (eapp (eapp (eapp (eapp (eapp (eapp (eapp (eapp (eapp (eapp (eapp (eapp (eapp (eapp (eapp (eapp (eapp (eapp (eapp (eapp (eapp (eapp (eapp (eapp (eapp (eapp (eapp (eapp (eapp (eapp (eapp (eapp (eapp (eapp (eapp (eapp (eapp (eapp (eapp (eapp (eapp (eapp (eapp (eapp (eapp (eapp (eapp (eapp (eapp (eapp (eapp (ev "x") (eint 1)) (eint 1)) (eint 1)) (eint 1)) (eint 1)) (eint 1)) (eint 1)) (eint 1)) (eint 1)) (eint 1)) (eint 1)) (eint 1)) (eint 1)) (eint 1)) (eint 1)) (eint 1)) (eint 1)) (eint 1)) (eint 1)) (eint 1)) (eint 1)) (eint 1)) (eint 1)) (eint 1)) (eint 1)) (eint 1)) (eint 1)) (eint 1)) (eint 1)) (eint 1)) (eint 1)) (eint 1)) (eint 1)) (eint 1)) (eint 1)) (eint 1)) (eint 1)) (eint 1)) (eint 1)) (eint 1)) (eint 1)) (eint 1)) (eint 1)) (eint 1)) (eint 1)) (eint 1)) (eint 1)) (eint 1)) (eint 1)) (eint 1)) (eint 1)) (eint 1)) (eint 1)) (eint 1)) (eint 1)) (eint 1)) (eint 1)) (eint 1)) (eint 1)) (eint 1)) (eint 1)) (eint 1)) (eint 1)) (eint 1)) (eint 1)) (eint 1)) (eint 1)) (eint 1)) (eint 1)) (eint 1)) (eint 1)) (eint 1)) (eint 1)) (eint 1)) (eint 1)) (eint 1)) (eint 1)) (eint 1)) (eint 1)) (eint 1)) (eint 1)) (eint 1)) (eint 1)) (eint 1)) (eint 1)) (eint 1)) (eint 1)) (eint 1)) (eint 1)) (eint 1)) (eint 1)) (eint 1)) (eint 1)) (eint 1)) (eint 1)) (eint 1)) (eint 1)) (eint 1)) (eint 1)) (eint 1)) (eint 1)) (eint 1)) (eint 1)) (eint 1)) (eint 1)) (eint 1)) (eint 1)) (eint 1)) (eint 1)) (eint 1)) (eint 1)) (eint 1)) (eint 1)) (eint 1)) (eint 1)) (eint 1)) (eint 1)) (eint 1)) (eint 1)) (eint 1)) (eint 1)) (eint 1)) (eint 1)) (eint 1)) (eint 1)) (eint 1)) (eint 1)) (eint 1)) (eint 1)) (eint 1)) (eint 1)) (eint 1)) (eint 1)) (eint 1)) (eint 1)) (eint 1)) (eint 1)) (eint 1)) (eint 1)) (eint 1)) (eint 1)) (eint 1)) (eint 1)) (eint 1)) (eint 1)) (eint 1)) (eint 1)) (eint 1)) (eint 1)) (eint 1)) (eint 1)) (eint 1)) (eint 1)) (eint 1)) (eint 1)) (eint 1)) (eint 1)) (eint 1)) (eint 1)) (eint 1)) (eint 1)) (eint 1)) (eint 1)) (eint 1)) (eint 1)) (eint 1)) (eint 1)) (eint 1)) (eint 1)) (eint 1)) (eint 1)) (eint 1)) (eint 1)) (eint 1)) (eint 1)) (eint 1)) (eint 1)) (eint 1)) (eint 1)) (eint 1)) (eint 1)) (eint 1)) (eint 1)) (eint 1)) (eint 1)) (eint 1)) (eint 1)) (eint 1)) (eint 1)) (eint 1)) (eint 1)) (eint 1)) (eint 1)) (eint 1)) (eint 1)) (eint 1)) (eint 1)) (eint 1)) (eint 1)) (eint 1)) (eint 1)) (eint 1)) (eint 1)) (eint 1)) (eint 1)) (eint 1)) (eint 1)) (eint 1)) (eint 1)) (eint 1)) (eint 1)) (eint 1)) (eint 1)) (eint 1)) (eint 1)) (eint 1)) (eint 1)) (eint 1)) (eint 1)) (eint 1)) (eint 1)) (eint 1)) (eint 1)) (eint 1)) (eint 1)) (eint 1)) (eint 1)) (eint 1)) (eint 1)) (eint 1)) (eint 1)) (eint 1)) (eint 1)) (eint 1)) (eint 1)) (eint 1)) (eint 1)) (eint 1)) (eint 1)) (eint 1)) (eint 1)) (eint 1)) (eint 1)) (eint 1)) (eint 1)) (eint 1)) (eint 1)) (eint 1)) (eint 1)) (eint 1)) (eint 1)) (eint 1)) (eint 1)) (eint 1)) (eint 1)) (eint 1))
    ∷ check (ev "deep")
    ∷ []

s_5000394_computed : metered 512 65536 512 s_5000394 ≡ said "declarations 2\n0 7 - | 256 33 0 0\n1 11 deep | 1 33 0 0\n"
unfolding everything metered said
s_5000394_computed = refl

abbrev s_5000644 : List Decl
s_5000644 =
    class "Real" "a" [] (sig "shw" (arrow (v "b") (v "b")) ∷ []) []
    ∷ instance [] "Real" (c "Int" nil) (body "shw" (lam "x" (eapp (eapp (lam "u" (lam "v" (ev "v"))) (eapp (ev "shw") (ev "x"))) (ev "x"))) ∷ [])
    ∷ class "Eq" "c" [] (sig "tag" (arrow (v "c") (c "List" ((v "c") ◂ nil))) ∷ []) []
    ∷ instance (at "Real" (c "List" ((arrow (v "a") (v "a")) ◂ nil)) ∷ at "Eq" (v "a") ∷ at "Real" (v "a") ∷ []) "Real" (arrow (v "a") (v "a")) (body "shw" (bind "same" (lam "x" (lam "y" (ev "x"))) (bind "g" (lam "x" (eapp (ev "primAndBool") (ev "x"))) (eapp (ev "same") (ev "same")))) ∷ [])
    ∷ class "Fun" "a" ("Eq" ∷ "Real" ∷ []) [] []
    ∷ instance [] "Eq" (c "Pair" ((c "Int" nil) ◂ (v "c") ◂ nil)) (body "tag" (lam "x" (eapp (eapp (lam "u" (lam "v" (ev "v"))) (eapp (ev "shw") (ev "x"))) (eapp (eapp (lam "u" (lam "v" (ev "v"))) (eapp (ev "shw") (ev "x"))) (eapp (eapp (lam "u" (lam "v" (ev "v"))) (eapp (ev "tag") (ev "x"))) (eapp (eapp (lam "u" (lam "v" (ev "v"))) (eapp (ev "tag") (ev "x"))) (bind "u" (eapp (ev "shw") (ev "x")) (eapp (ev "shw") (eapp (ev "tag") (ev "x"))))))))) ∷ [])
    ∷ instance [] "Real" (c "Pair" ((c "Int" nil) ◂ (v "c") ◂ nil)) (body "shw" (lam "u" (ev "u")) ∷ [])
    ∷ instance [] "Fun" (c "Pair" ((c "Int" nil) ◂ (v "c") ◂ nil)) []
    ∷ class "Ord" "a" ("Eq" ∷ "Num" ∷ []) (sig "fst" (arrow (v "a") (v "a")) ∷ []) (body "fst" (lam "v" (eapp (ev "fst") (ev "tag"))) ∷ [])
    ∷ define "comp" (lam "q" (ev "q"))
    ∷ check (lam "v" (ev "v"))
    ∷ instance [] "Real" (c "Bool" nil) (body "shw" (lam "v" (eapp (ev "comp") (ev "tag"))) ∷ [])
    ∷ check (eapp (ev "comp") (ev "g"))
    ∷ instance (at "Fun" (v "a") ∷ at "Real" (c "Bool" nil) ∷ []) "Real" (c "List" ((v "a") ◂ nil)) (body "shw" (lam "w" (ev "w")) ∷ [])
    ∷ instance (at "Fun" (v "a") ∷ at "Real" (c "Bool" nil) ∷ []) "Fun" (c "List" ((v "a") ◂ nil)) []
    ∷ check (lam "x" (bind "h" (eapp (ev "shw") (ev "x")) (eapp (eapp (lam "u" (lam "v" (ev "v"))) (eapp (ev "shw") (ev "x"))) (bind "comp" (eapp (ev "tag") (ev "x")) (eapp (lam "u" (eapp (ev "shw") (ev "x"))) (eapp (ev "shw") (ev "x")))))))
    ∷ []

s_5000644_computed : metered 512 65536 512 s_5000644 ≡ said "declarations 16\n0 0 - | 7 40 0 0\n1 16 Real t6 | 99 40 0 0\n2 0 - | 9 49 0 0\n3 0 - | 165 70 9 0\n4 0 - | 0 70 9 0\n5 17 Real t37 | 233 70 9 0\n6 0 - | 28 75 10 0\n7 16 Eq (Pair Int c) | 4 75 10 0\n8 21 Ord Num | 7 75 10 0\n9 0 [] (-> a a) | 14 78 11 0\n10 0 [] (-> a a) = (lam v v) | 14 78 12 0\n11 16 Eq t15 | 59 78 12 0\n12 11 g | 6 78 12 0\n13 0 - | 31 84 13 0\n14 16 Eq (List a) | 9 84 13 0\n15 17 Real t15 | 28 84 13 0\n"
unfolding everything metered said
s_5000644_computed = refl

abbrev s_5000878 : List Decl
s_5000878 =
    class "Num" "a" [] (sig "add" (arrow (arrow (v "a") (v "c")) (v "c")) ∷ []) (body "add" (lam "v" (ev "primLtInt")) ∷ [])
    ∷ instance (at "Num" (v "a") ∷ at "Num" (v "a") ∷ []) "Num" (c "Pair" ((v "a") ◂ (v "a") ◂ nil)) []
    ∷ instance [] "Num" (c "Pair" ((c "Int" nil) ◂ (v "t") ◂ nil)) (body "add" (lam "x" (eapp (eapp (lam "u" (lam "v" (ev "v"))) (eapp (ev "add") (ev "x"))) (eapp (eapp (lam "u" (lam "v" (ev "v"))) (eapp (ev "add") (ev "x"))) (eapp (eapp (lam "u" (lam "v" (ev "v"))) (eapp (ev "add") (ev "x"))) (eapp (eapp (lam "u" (lam "v" (ev "v"))) (eapp (ev "add") (ev "x"))) (eapp (eapp (ev "primAddInt") (eapp (ev "x") (ev "primEqInt"))) (eapp (ev "x") (eapp (ev "x") (ebool false))))))))) ∷ [])
    ∷ define "same" (lam "x" (bind "h" (eapp (ev "add") (ev "x")) (eapp (lam "u" (eapp (lam "u" (eapp (eapp (lam "u" (lam "v" (ev "v"))) (eapp (ev "add") (ev "x"))) (eapp (eapp (lam "u" (lam "v" (ev "v"))) (eapp (ev "add") (ev "x"))) (eapp (ev "add") (ev "x"))))) (eapp (ev "add") (ev "x")))) (eapp (ev "add") (ev "x")))))
    ∷ check (lam "primEqInt" (lam "q" (ev "q")))
    ∷ class "Fun" "a" [] (sig "mk" (arrow (c "List" nil) (v "a")) ∷ sig "zero" (arrow (v "a") (arrow (c "List" ((v "a") ◂ nil)) (c "List" ((v "a") ◂ nil)))) ∷ []) (body "mk" (lam "u" (ev "u")) ∷ body "zero" (lam "z" (lam "z" (eapp (ev "add") (bind "g" (lam "x" (ev "x")) (lam "primMulInt" (eapp (ev "mk") (eapp (ev "mk") (ev "primMulInt")))))))) ∷ [])
    ∷ check (eapp (eapp (ev "primEqBool") (eapp (ev "primNotBool") (ebool false))) (bind "y" (ev "primAddInt") (ebool false)))
    ∷ check (lam "x" (lam "y" (eapp (lam "u" (eapp (eapp (ev "zero") (ev "y")) (ev "x"))) (eapp (ev "mk") (ev "x")))))
    ∷ []

s_5000878_computed : metered 512 65536 512 s_5000878 ≡ said "declarations 8\n0 0 - | 11 44 0 0\n1 0 - | 17 51 1 0\n2 12 (-> Int (-> Int Bool)) Bool | 352 51 1 0\n3 6 - | 512 51 1 0\n4 0 [] (-> a (-> b b)) = (lam primEqInt (lam q q)) | 22 51 3 0\n5 0 - | 22 73 3 0\n6 0 [] Bool = (app (app primEqBool (app primNotBool false)) (let y primAddInt false)) | 89 73 6 0\n7 15 List 0 1 | 91 73 6 0\n"
unfolding everything metered said
s_5000878_computed = refl

abbrev s_5000928 : List Decl
s_5000928 =
    class "Eq" "a" [] (sig "eq" (arrow (v "a") (arrow (v "a") (c "Bool" nil))) ∷ []) (body "eq" (eint 1) ∷ [])
    ∷ instance (at "Eq" (v "a") ∷ []) "Eq" (v "a") []
    ∷ check (eapp (ev "eq") (eint 1))
    ∷ class "Bag" "a" ("Eq" ∷ []) (sig "one" (arrow (v "a") (c "List" ((v "a") ◂ nil))) ∷ []) (body "one" (eint 1) ∷ [])
    ∷ instance [] "Bag" (c "Int" nil) []
    ∷ check (eapp (ev "eq") (eapp (ev "one") (eint 1)))
    ∷ instance (at "Eq" (c "List" nil) ∷ []) "Eq" (c "List" nil) []
    ∷ check (lam "p" (lam "p" (ev "p")))
    ∷ check (lam "primEqInt" (eapp (ev "primNotBool") (ev "primEqInt")))
    ∷ []

s_5000928_computed : metered 512 65536 512 s_5000928 ≡ said "declarations 9\n0 0 - | 11 44 0 0\n1 0 - | 5 47 0 0\n2 6 - | 512 47 0 0\n3 0 - | 9 56 0 0\n4 6 - | 512 56 0 0\n5 6 - | 512 56 0 0\n6 18 Eq List | 6 56 0 0\n7 0 [] (-> a (-> b b)) = (lam p (lam p p)) | 22 56 2 0\n8 0 [] (-> Bool Bool) = (lam primEqInt (app primNotBool primEqInt)) | 34 56 4 0\n"
unfolding everything metered said
s_5000928_computed = refl

abbrev s_5001016 : List Decl
s_5001016 =
    class "Fun" "A" ("Show" ∷ []) [] []
    ∷ instance [] "Fun" (c "Pair" ((v "a") ◂ (c "Int" nil) ◂ nil)) []
    ∷ define "twice" (eapp (eapp (lam "y" (ev "primAddInt")) (eint 14843840016358684485)) (eapp (ev "primNotBool") (ebool true)))
    ∷ define "f" (eint 3)
    ∷ check (lam "x" (ev "x"))
    ∷ []

s_5001016_computed : metered 512 65536 512 s_5001016 ≡ said "declarations 5\n0 21 Fun Show | 0 33 0 0\n1 19 Fun | 3 33 0 0\n2 14 Int Bool | 51 33 0 0\n3 0 [] Int | 5 34 0 0\n4 0 [] (-> a a) = (lam x x) | 14 34 1 0\n"
unfolding everything metered said
s_5001016_computed = refl

abbrev s_5001158 : List Decl
s_5001158 =
    class "Show" "_u" [] (sig "zero" (arrow (c "Pair" ((v "_u") ◂ nil)) (v "_u")) ∷ []) []
    ∷ class "Leaf" "a" [] (sig "leaf" (v "a") ∷ []) (body "leaf" (eint 1) ∷ [])
    ∷ instance [] "Leaf" (c "Int" nil) []
    ∷ instance [] "Leaf" (c "Bool" nil) []
    ∷ instance [] "Leaf" (c "List" ((c "Int" nil) ◂ nil)) (body "leaf" (lam "x" (lam "x" (lam "x" (lam "x" (lam "x" (lam "x" (lam "x" (lam "x" (lam "x" (lam "x" (lam "x" (lam "x" (lam "x" (lam "x" (lam "x" (lam "x" (lam "x" (lam "x" (lam "x" (lam "x" (lam "x" (lam "x" (lam "x" (lam "x" (lam "x" (lam "x" (lam "x" (lam "x" (lam "x" (lam "x" (lam "x" (lam "x" (lam "x" (lam "x" (lam "x" (lam "x" (lam "x" (lam "x" (lam "x" (lam "x" (lam "x" (lam "x" (lam "x" (lam "x" (lam "x" (lam "x" (lam "x" (lam "x" (lam "x" (lam "x" (lam "x" (lam "x" (lam "x" (lam "x" (lam "x" (lam "x" (lam "x" (lam "x" (lam "x" (lam "x" (lam "x" (lam "x" (lam "x" (lam "x" (lam "x" (lam "x" (lam "x" (lam "x" (lam "x" (lam "x" (lam "x" (lam "x" (lam "x" (lam "x" (lam "x" (lam "x" (lam "x" (lam "x" (lam "x" (lam "x" (lam "x" (lam "x" (lam "x" (lam "x" (lam "x" (lam "x" (lam "x" (lam "x" (lam "x" (lam "x" (lam "x" (lam "x" (lam "x" (lam "x" (lam "x" (lam "x" (lam "x" (lam "x" (lam "x" (lam "x" (lam "x" (lam "x" (lam "x" (lam "x" (lam "x" (lam "x" (lam "x" (lam "x" (lam "x" (lam "x" (lam "x" (lam "x" (lam "x" (lam "x" (lam "x" (lam "x" (lam "x" (lam "x" (lam "x" (lam "x" (lam "x" (lam "x" (lam "x" (lam "x" (lam "x" (lam "x" (lam "x" (lam "x" (lam "x" (lam "x" (lam "x" (lam "x" (lam "x" (lam "x" (lam "x" (lam "x" (lam "x" (lam "x" (lam "x" (lam "x" (lam "x" (lam "x" (lam "x" (lam "x" (lam "x" (lam "x" (lam "x" (lam "x" (lam "x" (lam "x" (lam "x" (lam "x" (lam "x" (lam "x" (lam "x" (lam "x" (lam "x" (lam "x" (lam "x" (lam "x" (lam "x" (lam "x" (lam "x" (lam "x" (lam "x" (lam "x" (lam "x" (lam "x" (lam "x" (lam "x" (lam "x" (lam "x" (lam "x" (lam "x" (lam "x" (lam "x" (lam "x" (lam "x" (lam "x" (lam "x" (lam "x" (lam "x" (lam "x" (lam "x" (lam "x" (lam "x" (lam "x" (lam "x" (lam "x" (lam "x" (lam "x" (lam "x" (lam "x" (lam "x" (lam "x" (lam "x" (lam "x" (lam "x" (lam "x" (lam "x" (lam "x" (lam "x" (lam "x" (lam "x" (lam "x" (lam "x" (lam "x" (lam "x" (lam "x" (lam "x" (lam "x" (lam "x" (lam "x" (lam "x" (lam "x" (lam "x" (lam "x" (lam "x" (lam "x" (lam "x" (lam "x" (lam "x" (lam "x" (lam "x" (lam "x" (lam "x" (lam "x" (lam "x" (lam "x" (lam "x" (lam "x" (lam "x" (lam "x" (lam "x" (lam "x" (lam "x" (lam "x" (lam "x" (lam "x" (lam "x" (lam "x" (lam "x" (lam "x" (lam "x" (lam "x" (lam "x" (lam "x" (lam "x" (lam "x" (lam "x" (lam "x" (lam "x" (lam "x" (lam "x" (lam "x" (lam "x" (ev "leaf"))))))))))))))))))))))))))))))))))))))))))))))))))))))))))))))))))))))))))))))))))))))))))))))))))))))))))))))))))))))))))))))))))))))))))))))))))))))))))))))))))))))))))))))))))))))))))))))))))))))))))))))))))))))))))))))))))))))))))))))))))))))))))))))))) ∷ [])
    ∷ check (lam "x" (lam "x" (lam "x" (lam "x" (lam "x" (lam "x" (lam "x" (lam "x" (lam "x" (lam "x" (lam "x" (lam "x" (lam "x" (lam "x" (lam "x" (lam "x" (lam "x" (lam "x" (lam "x" (lam "x" (lam "x" (lam "x" (lam "x" (lam "x" (lam "x" (lam "x" (lam "x" (lam "x" (lam "x" (lam "x" (lam "x" (lam "x" (lam "x" (lam "x" (lam "x" (lam "x" (lam "x" (lam "x" (lam "x" (lam "x" (lam "x" (lam "x" (lam "x" (lam "x" (lam "x" (lam "x" (lam "x" (lam "x" (lam "x" (lam "x" (lam "x" (lam "x" (lam "x" (lam "x" (lam "x" (lam "x" (lam "x" (lam "x" (lam "x" (lam "x" (lam "x" (lam "x" (lam "x" (lam "x" (lam "x" (lam "x" (lam "x" (lam "x" (lam "x" (lam "x" (lam "x" (lam "x" (lam "x" (lam "x" (lam "x" (lam "x" (lam "x" (lam "x" (lam "x" (lam "x" (lam "x" (lam "x" (lam "x" (lam "x" (lam "x" (lam "x" (lam "x" (lam "x" (lam "x" (lam "x" (lam "x" (lam "x" (lam "x" (lam "x" (lam "x" (lam "x" (lam "x" (lam "x" (lam "x" (lam "x" (lam "x" (lam "x" (lam "x" (lam "x" (lam "x" (lam "x" (lam "x" (lam "x" (lam "x" (lam "x" (lam "x" (lam "x" (lam "x" (lam "x" (lam "x" (lam "x" (lam "x" (lam "x" (lam "x" (lam "x" (lam "x" (lam "x" (lam "x" (lam "x" (lam "x" (lam "x" (lam "x" (lam "x" (lam "x" (lam "x" (lam "x" (lam "x" (lam "x" (lam "x" (lam "x" (lam "x" (lam "x" (lam "x" (lam "x" (lam "x" (lam "x" (lam "x" (lam "x" (lam "x" (lam "x" (lam "x" (lam "x" (lam "x" (lam "x" (lam "x" (lam "x" (lam "x" (lam "x" (lam "x" (lam "x" (lam "x" (lam "x" (lam "x" (lam "x" (lam "x" (lam "x" (lam "x" (lam "x" (lam "x" (lam "x" (lam "x" (lam "x" (lam "x" (lam "x" (lam "x" (lam "x" (lam "x" (lam "x" (lam "x" (lam "x" (lam "x" (lam "x" (lam "x" (lam "x" (lam "x" (lam "x" (lam "x" (lam "x" (lam "x" (lam "x" (lam "x" (lam "x" (lam "x" (lam "x" (lam "x" (lam "x" (lam "x" (lam "x" (lam "x" (lam "x" (lam "x" (lam "x" (lam "x" (lam "x" (lam "x" (lam "x" (lam "x" (lam "x" (lam "x" (lam "x" (lam "x" (lam "x" (lam "x" (lam "x" (lam "x" (lam "x" (lam "x" (lam "x" (lam "x" (lam "x" (lam "x" (lam "x" (lam "x" (lam "x" (lam "x" (lam "x" (lam "x" (lam "x" (lam "x" (lam "x" (lam "x" (lam "x" (lam "x" (lam "x" (lam "x" (lam "x" (lam "x" (lam "x" (lam "x" (lam "x" (lam "x" (lam "x" (lam "x" (lam "x" (lam "x" (lam "x" (lam "x" (lam "x" (lam "x" (lam "x" (lam "x" (lam "x" (lam "x" (lam "x" (lam "x" (lam "x" (lam "x" (lam "x" (lam "x" (lam "x" (lam "x" (ev "leaf")))))))))))))))))))))))))))))))))))))))))))))))))))))))))))))))))))))))))))))))))))))))))))))))))))))))))))))))))))))))))))))))))))))))))))))))))))))))))))))))))))))))))))))))))))))))))))))))))))))))))))))))))))))))))))))))))))))))))))))))))))))))))))))))))
    ∷ []

s_5001158_computed : metered 512 65536 512 s_5001158 ≡ said "declarations 6\n0 0 - | 9 42 0 0\n1 0 - | 3 45 0 0\n2 0 - | 4 47 0 0\n3 0 - | 6 49 0 0\n4 7 - | 259 49 0 0\n5 7 - | 256 49 0 0\n"
unfolding everything metered said
s_5001158_computed = refl
