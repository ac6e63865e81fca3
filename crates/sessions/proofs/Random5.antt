-- Recorded sessions, computed: text, steps, kept nodes and both counters. (tools/session_test.py)
use mathlib.Core.Path.{◌≡◌, refl}
use mathlib.Core.Bool.{true, false}
use mathlib.Core.List.{List, [], ◌∷◌}
use Rattle.meaning.specs.Ast.{Ty, arrow, Expr, eint, ebool, eapp, Decl, nil, ◌◂◌}
use Rattle.meaning.proofs.Metered.{everything, metered, said}
use Rattle.meaning.proofs.Written.{v, c, ev, lam, bind, class, instance, define, check, at, sig, body}

abbrev s_5005100 : List Decl
s_5005100 =
    class "Eq" "t" [] (sig "cons" (arrow (c "Pair" ((v "t") ◂ (v "b") ◂ nil)) (v "t")) ∷ sig "mk" (arrow (v "a") (v "a")) ∷ sig "lt" (arrow (v "t") (arrow (v "t") (c "Bool" nil))) ∷ []) (body "mk" (eapp (ev "mk") (lam "x" (ev "x"))) ∷ [])
    ∷ check (lam "x" (lam "x" (lam "x" (lam "x" (lam "x" (lam "x" (lam "x" (lam "x" (lam "x" (lam "x" (lam "x" (lam "x" (lam "x" (lam "x" (lam "x" (lam "x" (lam "x" (lam "x" (lam "x" (lam "x" (lam "x" (lam "x" (lam "x" (lam "x" (lam "x" (lam "x" (lam "x" (lam "x" (lam "x" (lam "x" (lam "x" (lam "x" (lam "x" (lam "x" (lam "x" (lam "x" (lam "x" (lam "x" (lam "x" (lam "x" (lam "x" (lam "x" (lam "x" (lam "x" (lam "x" (lam "x" (lam "x" (lam "x" (lam "x" (lam "x" (lam "x" (lam "x" (lam "x" (lam "x" (lam "x" (lam "x" (lam "x" (lam "x" (lam "x" (lam "x" (lam "x" (lam "x" (lam "x" (lam "x" (lam "x" (lam "x" (lam "x" (lam "x" (lam "x" (lam "x" (lam "x" (lam "x" (lam "x" (lam "x" (lam "x" (lam "x" (lam "x" (lam "x" (lam "x" (lam "x" (lam "x" (lam "x" (lam "x" (lam "x" (lam "x" (lam "x" (lam "x" (lam "x" (lam "x" (lam "x" (lam "x" (lam "x" (lam "x" (lam "x" (lam "x" (lam "x" (lam "x" (lam "x" (lam "x" (lam "x" (lam "x" (lam "x" (lam "x" (lam "x" (lam "x" (lam "x" (lam "x" (lam "x" (lam "x" (lam "x" (lam "x" (lam "x" (lam "x" (lam "x" (lam "x" (lam "x" (lam "x" (lam "x" (lam "x" (lam "x" (lam "x" (lam "x" (lam "x" (lam "x" (lam "x" (lam "x" (lam "x" (lam "x" (lam "x" (lam "x" (lam "x" (lam "x" (lam "x" (lam "x" (lam "x" (lam "x" (lam "x" (lam "x" (lam "x" (lam "x" (lam "x" (lam "x" (lam "x" (lam "x" (lam "x" (lam "x" (lam "x" (lam "x" (lam "x" (lam "x" (lam "x" (lam "x" (lam "x" (lam "x" (lam "x" (lam "x" (lam "x" (lam "x" (lam "x" (lam "x" (lam "x" (lam "x" (lam "x" (lam "x" (lam "x" (lam "x" (lam "x" (lam "x" (lam "x" (lam "x" (lam "x" (lam "x" (lam "x" (lam "x" (lam "x" (lam "x" (lam "x" (lam "x" (lam "x" (lam "x" (lam "x" (lam "x" (lam "x" (lam "x" (lam "x" (lam "x" (lam "x" (lam "x" (lam "x" (lam "x" (lam "x" (lam "x" (lam "x" (lam "x" (lam "x" (lam "x" (lam "x" (lam "x" (lam "x" (lam "x" (lam "x" (lam "x" (lam "x" (lam "x" (lam "x" (lam "x" (lam "x" (lam "x" (lam "x" (lam "x" (lam "x" (lam "x" (lam "x" (lam "x" (lam "x" (lam "x" (lam "x" (lam "x" (lam "x" (lam "x" (lam "x" (lam "x" (lam "x" (lam "x" (lam "x" (lam "x" (lam "x" (lam "x" (lam "x" (lam "x" (lam "x" (lam "x" (lam "x" (lam "x" (lam "x" (lam "x" (lam "x" (lam "x" (lam "x" (lam "x" (lam "x" (lam "x" (lam "x" (lam "x" (lam "x" (lam "x" (lam "x" (lam "x" (lam "x" (lam "x" (lam "x" (lam "x" (lam "x" (lam "x" (lam "x" (lam "x" (ebool true)))))))))))))))))))))))))))))))))))))))))))))))))))))))))))))))))))))))))))))))))))))))))))))))))))))))))))))))))))))))))))))))))))))))))))))))))))))))))))))))))))))))))))))))))))))))))))))))))))))))))))))))))))))))))))))))))))))))))))))))))))))))))))))))))
    ∷ []

s_5005100_computed : metered 512 65536 512 s_5005100 ≡ said "declarations 2\n0 0 - | 29 62 0 0\n1 7 - | 256 62 0 0\n"
unfolding everything metered said
s_5005100_computed = refl

abbrev s_5005134 : List Decl
s_5005134 =
    class "Eq" "a" [] (sig "eq" (arrow (v "a") (arrow (v "a") (c "Bool" nil))) ∷ []) []
    ∷ class "Ord" "a" ("Eq" ∷ []) (sig "lt" (arrow (v "a") (arrow (v "a") (c "Bool" nil))) ∷ []) []
    ∷ class "Real" "a" ("Ord" ∷ "Eq" ∷ []) (sig "add" (arrow (v "a") (arrow (v "a") (v "a"))) ∷ []) []
    ∷ class "Bag" "a" [] (sig "nil" (c "List" ((v "a") ◂ nil)) ∷ sig "cons" (arrow (v "a") (arrow (c "List" ((v "a") ◂ nil)) (c "List" ((v "a") ◂ nil)))) ∷ sig "pair" (arrow (v "a") (arrow (v "b") (c "Pair" ((v "a") ◂ (v "b") ◂ nil)))) ∷ sig "odd" (arrow (v "a") (c "List" nil)) ∷ []) (body "nil" (eint 0) ∷ body "cons" (eint 0) ∷ body "pair" (eint 0) ∷ body "odd" (eint 0) ∷ [])
    ∷ instance [] "Bag" (c "Bool" nil) []
    ∷ instance [] "Bag" (c "List" ((v "a") ◂ nil)) []
    ∷ instance [] "Bag" (c "Pair" ((v "a") ◂ (v "b") ◂ nil)) []
    ∷ instance [] "Eq" (c "Int" nil) (body "eq" (ev "primEqInt") ∷ [])
    ∷ instance [] "Eq" (c "Bool" nil) (body "eq" (ev "primEqBool") ∷ [])
    ∷ instance [] "Ord" (c "Bool" nil) (body "lt" (ev "primAndBool") ∷ [])
    ∷ instance [] "Real" (c "Int" nil) (body "add" (ev "primAddInt") ∷ [])
    ∷ instance (at "Eq" (v "a") ∷ []) "Eq" (c "List" ((v "a") ◂ nil)) (body "eq" (lam "x" (lam "y" (ebool true))) ∷ [])
    ∷ instance (at "Ord" (v "a") ∷ []) "Ord" (c "List" ((v "a") ◂ nil)) (body "lt" (lam "x" (lam "y" (eapp (eapp (ev "eq") (ev "x")) (ev "y")))) ∷ [])
    ∷ define "h" (eapp (ev "eq") (ev "cons"))
    ∷ instance [] "Ord" (c "Bool" nil) (body "lt" (lam "x" (lam "y" (eapp (eapp (lam "u" (lam "v" (ev "v"))) (eapp (eapp (ev "lt") (ev "x")) (ev "x"))) (eapp (eapp (lam "u" (lam "v" (ev "v"))) (eapp (eapp (ev "lt") (ev "x")) (ev "x"))) (eapp (eapp (lam "u" (lam "v" (ev "v"))) (eapp (eapp (ev "pair") (ev "y")) (ev "y"))) (ebool false)))))) ∷ [])
    ∷ instance [] "Ord" (c "Bool" nil) (body "lt" (ev "add") ∷ [])
    ∷ []

s_5005134_computed : metered 512 65536 512 s_5005134 ≡ said "declarations 16\n0 0 - | 11 44 0 0\n1 0 - | 11 55 0 0\n2 0 - | 11 66 0 0\n3 0 - | 42 108 0 0\n4 0 - | 13 113 0 0\n5 0 - | 16 119 0 0\n6 0 - | 19 126 0 0\n7 0 - | 37 128 0 0\n8 0 - | 39 130 0 0\n9 0 - | 43 134 0 0\n10 16 Ord Int | 38 134 0 0\n11 0 - | 53 140 2 0\n12 0 - | 156 162 7 1\n13 16 Eq (-> t9 (-> (List t9) (List t9))) | 60 162 7 1\n14 6 - | 512 162 7 1\n15 16 Real Bool | 39 162 7 1\n"
unfolding everything metered said
s_5005134_computed = refl

abbrev s_5005196 : List Decl
s_5005196 =
    class "Eq" "a" [] (sig "eq" (arrow (v "a") (arrow (v "a") (c "Bool" nil))) ∷ []) []
    ∷ class "Ord" "a" ("Eq" ∷ []) (sig "lt" (arrow (v "a") (arrow (v "a") (c "Bool" nil))) ∷ []) []
    ∷ class "Real" "a" ("Ord" ∷ "Eq" ∷ []) (sig "add" (arrow (v "a") (arrow (v "a") (v "a"))) ∷ []) []
    ∷ class "Bag" "a" [] (sig "nil" (c "List" ((v "a") ◂ nil)) ∷ sig "cons" (arrow (v "a") (arrow (c "List" ((v "a") ◂ nil)) (c "List" ((v "a") ◂ nil)))) ∷ sig "pair" (arrow (v "a") (arrow (v "b") (c "Pair" ((v "a") ◂ (v "b") ◂ nil)))) ∷ sig "odd" (arrow (v "a") (c "List" nil)) ∷ []) (body "nil" (eint 0) ∷ body "cons" (eint 0) ∷ body "pair" (eint 0) ∷ body "odd" (eint 0) ∷ [])
    ∷ instance [] "Bag" (c "Int" nil) []
    ∷ instance [] "Bag" (c "List" ((v "a") ◂ nil)) []
    ∷ instance [] "Bag" (c "Pair" ((v "a") ◂ (v "b") ◂ nil)) []
    ∷ instance [] "Eq" (c "Int" nil) (body "eq" (ev "primEqInt") ∷ [])
    ∷ instance [] "Eq" (c "Bool" nil) (body "eq" (ev "primEqBool") ∷ [])
    ∷ instance [] "Ord" (c "Bool" nil) (body "lt" (ev "primAndBool") ∷ [])
    ∷ instance [] "Real" (c "Int" nil) (body "add" (ev "primAddInt") ∷ [])
    ∷ instance (at "Eq" (v "a") ∷ []) "Eq" (c "List" ((v "a") ◂ nil)) (body "eq" (lam "x" (lam "y" (ebool true))) ∷ [])
    ∷ instance (at "Ord" (v "a") ∷ []) "Ord" (c "List" ((v "a") ◂ nil)) (body "lt" (lam "x" (lam "y" (eapp (eapp (ev "eq") (ev "x")) (ev "y")))) ∷ [])
    ∷ instance (at "Eq" (v "a") ∷ at "Eq" (v "b") ∷ []) "Eq" (c "Pair" ((v "a") ◂ (v "b") ◂ nil)) (body "eq" (lam "x" (lam "y" (ebool false))) ∷ [])
    ∷ check (eapp (eapp (lam "z" (ev "odd")) (eapp (ev "nil") (ev "primLtInt"))) (lam "v" (ebool false)))
    ∷ define "id" (lam "x" (lam "x" (eapp (eapp (ev "primAndBool") (eapp (eapp (ev "primAndBool") (eapp (eapp (ev "primEqInt") (eint 4)) (eint 2))) (eapp (eapp (ev "eq") (ev "x")) (ev "x")))) (ebool false))))
    ∷ check (eapp (eapp (ev "lt") (eapp (ev "cons") (ev "cons"))) (bind "f" (lam "x" (eapp (ev "primMulInt") (ev "x"))) (lam "primEqInt" (ev "primEqInt"))))
    ∷ check (lam "p" (ev "p"))
    ∷ check (eapp (eapp (eapp (lam "x" (lam "y" (lam "z" (eapp (eapp (lam "u" (lam "v" (ev "v"))) (ev "nil")) (bind "comp" (ev "nil") (eapp (eapp (lam "u" (lam "v" (ev "v"))) (eapp (eapp (ev "lt") (ev "z")) (ev "y"))) (eapp (lam "u" (eapp (eapp (lam "u" (lam "v" (ev "v"))) (eapp (eapp (ev "add") (ev "y")) (ev "x"))) (eapp (eapp (ev "add") (ev "x")) (ev "y")))) (eapp (ev "odd") (ev "z"))))))))) (ebool true)) (eint 4)) (ebool true))
    ∷ check (eint 18446744073709551615)
    ∷ define "comp" (lam "x" (lam "y" (lam "z" (eapp (lam "u" (ev "nil")) (eapp (eapp (ev "pair") (ev "y")) (ev "x"))))))
    ∷ instance [] "Eq" (arrow (v "b") (v "a")) (body "eq" (eapp (eapp (ev "add") (eapp (eapp (ev "add") (lam "p" (lam "x" (ebool false)))) (lam "v" (lam "q" (ebool false))))) (eapp (eapp (ev "add") (lam "z" (lam "x" (ebool false)))) (lam "w" (lam "w" (ebool true))))) ∷ [])
    ∷ instance [] "Ord" (arrow (v "b") (v "a")) (body "lt" (eapp (eapp (ev "add") (lam "y" (lam "p" (ebool false)))) (lam "q" (lam "p" (ebool true)))) ∷ [])
    ∷ check (lam "p" (lam "p" (eapp (eapp (ev "add") (eapp (eapp (ev "eq") (bind "id" (lam "u" (ev "u")) (ev "nil"))) (eapp (eapp (ev "add") (ev "p")) (eapp (ev "odd") (ebool true))))) (eapp (eapp (ev "id") (bind "w" (lam "x" (eapp (ev "odd") (ev "x"))) (ev "id"))) (ev "lt")))))
    ∷ []

s_5005196_computed : metered 512 65536 512 s_5005196 ≡ said "declarations 24\n0 0 - | 11 44 0 0\n1 0 - | 11 55 0 0\n2 0 - | 11 66 0 0\n3 0 - | 42 108 0 0\n4 0 - | 13 113 0 0\n5 0 - | 16 119 0 0\n6 0 - | 19 126 0 0\n7 0 - | 37 128 0 0\n8 0 - | 39 130 0 0\n9 0 - | 43 134 0 0\n10 16 Ord Int | 38 134 0 0\n11 0 - | 53 140 2 0\n12 0 - | 156 162 7 1\n13 0 - | 62 170 9 1\n14 12 (List t14) (-> (-> Int (-> Int Bool)) t13) | 23 170 9 1\n15 0 [Eq b] (-> a (-> b Bool)) | 282 176 20 2\n16 16 Ord (-> (List (-> t25 (-> (List t25) (List t25)))) (List (-> t25 (-> (List t25) (List t25))))) | 434 176 20 2\n17 0 [] (-> a a) = (lam p p) | 14 176 21 2\n18 6 - | 512 176 21 2\n19 0 [] Int = 18446744073709551615 | 5 176 21 2\n20 0 [Bag d, Bag b] (-> a (-> b (-> c (List d)))) | 160 186 31 4\n21 6 - | 512 186 31 4\n22 16 Real (-> (-> b a) (-> (-> b a) Bool)) | 184 186 31 4\n23 15 List 1 0 | 132 186 31 4\n"
unfolding everything metered said
s_5005196_computed = refl

abbrev s_5005236 : List Decl
s_5005236 =
    class "Real" "e" [] (sig "shw" (arrow (c "Int" nil) (v "e")) ∷ []) []
    ∷ instance [] "Real" (c "Int" nil) []
    ∷ class "Mon" "c" ("Real" ∷ []) (sig "nil" (v "c") ∷ []) []
    ∷ class "Fun" "t" [] (sig "zero" (arrow (c "Pair" ((v "t") ◂ (v "c") ◂ nil)) (v "t")) ∷ sig "tag" (arrow (v "t") (c "Bool" nil)) ∷ sig "conv" (arrow (v "t") (c "List" nil)) ∷ []) (body "zero" (lam "z" (eapp (ev "tag") (ev "primNotBool"))) ∷ body "conv" (lam "p" (ev "nil")) ∷ [])
    ∷ instance [] "Mon" (c "Int" nil) (body "nil" (eint 2) ∷ [])
    ∷ define "f" (eapp (lam "x" (eapp (lam "u" (eapp (lam "u" (bind "f" (eapp (ev "shw") (ev "x")) (eapp (lam "u" (eapp (eapp (lam "u" (lam "v" (ev "v"))) (eapp (ev "shw") (ev "x"))) (eapp (ev "tag") (ev "x")))) (eapp (ev "zero") (ev "x"))))) (eapp (ev "conv") (ev "x")))) (eapp (ev "zero") (ev "x")))) (eint 1))
    ∷ check (eapp (eapp (ev "primLtInt") (eint 1)) (eapp (eapp (ev "primAddInt") (eint 4)) (eint 3)))
    ∷ define "f" (ev "nil")
    ∷ instance [] "Fun" (c "Int" nil) (body "tag" (bind "x" (eint 5) (lam "z" (ebool true))) ∷ [])
    ∷ check (bind "twice" (lam "x" (eapp (ev "primNotBool") (ev "x"))) (ev "twice"))
    ∷ class "Show" "a" ("Mon" ∷ []) (sig "zero" (arrow (v "a") (c "Bool" nil)) ∷ sig "zero" (v "a") ∷ []) (body "zero" (lam "w" (ebool true)) ∷ body "zero" (eapp (ev "conv") (ev "zero")) ∷ [])
    ∷ instance (at "Show" (v "a") ∷ at "Fun" (v "a") ∷ at "Real" (v "a") ∷ []) "Real" (c "Pair" ((v "a") ◂ (v "c") ◂ nil)) (body "shw" (lam "z" (bind "y" (ev "zero") (bind "h" (eapp (ev "tag") (ev "y")) (ev "zero")))) ∷ [])
    ∷ define "shw" (eapp (ev "shw") (ev "zero"))
    ∷ []

s_5005236_computed : metered 512 65536 512 s_5005236 ≡ said "declarations 13\n0 0 - | 7 40 0 0\n1 22 Real Int shw | 1 40 0 0\n2 0 - | 3 43 0 0\n3 0 - | 25 68 0 0\n4 16 Real Int | 8 68 0 0\n5 14 Pair Int | 154 68 0 0\n6 0 [] Bool = (app (app primLtInt 1) (app (app primAddInt 4) 3)) | 99 68 4 0\n7 0 [Mon a] a | 13 70 5 1\n8 0 - | 79 83 11 3\n9 0 [] (-> Bool Bool) = (let twice (lam x (app primNotBool x)) twice) | 56 83 13 3\n10 0 - | 10 83 13 3\n11 17 Fun t17 | 60 83 13 3\n12 16 Show Int | 25 83 13 3\n"
unfolding everything metered said
s_5005236_computed = refl

abbrev s_5005266 : List Decl
s_5005266 =
    class "Eq" "a" [] (sig "eq" (arrow (v "a") (arrow (v "a") (c "Bool" nil))) ∷ []) []
    ∷ class "Ord" "a" ("Eq" ∷ []) (sig "lt" (arrow (v "a") (arrow (v "a") (c "Bool" nil))) ∷ []) []
    ∷ class "Real" "a" ("Ord" ∷ "Eq" ∷ []) (sig "add" (arrow (v "a") (arrow (v "a") (v "a"))) ∷ []) []
    ∷ class "Bag" "a" [] (sig "nil" (c "List" ((v "a") ◂ nil)) ∷ sig "cons" (arrow (v "a") (arrow (c "List" ((v "a") ◂ nil)) (c "List" ((v "a") ◂ nil)))) ∷ sig "pair" (arrow (v "a") (arrow (v "b") (c "Pair" ((v "a") ◂ (v "b") ◂ nil)))) ∷ sig "odd" (arrow (v "a") (c "List" nil)) ∷ []) (body "nil" (eint 0) ∷ body "cons" (eint 0) ∷ body "pair" (eint 0) ∷ body "odd" (eint 0) ∷ [])
    ∷ instance [] "Bag" (c "Int" nil) []
    ∷ instance [] "Bag" (c "Bool" nil) []
    ∷ instance [] "Eq" (c "Int" nil) (body "eq" (ev "primEqInt") ∷ [])
    ∷ instance [] "Ord" (c "Int" nil) (body "lt" (ev "primLtInt") ∷ [])
    ∷ instance [] "Eq" (c "Bool" nil) (body "eq" (ev "primEqBool") ∷ [])
    ∷ instance [] "Real" (c "Int" nil) (body "add" (ev "primAddInt") ∷ [])
    ∷ instance (at "Eq" (v "a") ∷ []) "Eq" (c "List" ((v "a") ◂ nil)) (body "eq" (lam "x" (lam "y" (ebool true))) ∷ [])
    ∷ instance (at "Ord" (v "a") ∷ []) "Ord" (c "List" ((v "a") ◂ nil)) (body "lt" (lam "x" (lam "y" (eapp (eapp (ev "eq") (ev "x")) (ev "y")))) ∷ [])
    ∷ instance (at "Eq" (v "a") ∷ at "Eq" (v "b") ∷ []) "Eq" (c "Pair" ((v "a") ◂ (v "b") ◂ nil)) (body "eq" (lam "x" (lam "y" (ebool false))) ∷ [])
    ∷ define "id" (eapp (eapp (ev "primEqBool") (eapp (eapp (ev "eq") (eapp (eapp (ev "primAndBool") (ebool false)) (ebool false))) (eapp (eapp (ev "add") (ebool true)) (ebool false)))) (eapp (eapp (ev "primLtInt") (eapp (eapp (ev "add") (eint 9223372036854775808)) (eint 9))) (bind "p" (lam "x" (ev "x")) (eint 8))))
    ∷ check (eapp (eapp (ev "add") (bind "g" (lam "p" (ev "nil")) (bind "z" (eapp (ev "g") (ev "cons")) (ev "eq")))) (lam "primAddInt" (eapp (ev "eq") (ebool false))))
    ∷ check (ev "eq")
    ∷ define "h" (lam "x" (eapp (ev "odd") (ev "x")))
    ∷ check (lam "cons" (ev "cons"))
    ∷ check (eapp (eapp (ev "cons") (eint 9)) (eapp (eapp (ev "add") (ev "nil")) (eapp (eapp (ev "add") (ev "eq")) (ev "pair"))))
    ∷ define "id" (lam "x" (ebool true))
    ∷ define "k" (eapp (eapp (ev "add") (eint 1)) (eint 0))
    ∷ []

s_5005266_computed : metered 512 65536 512 s_5005266 ≡ said "declarations 21\n0 0 - | 11 44 0 0\n1 0 - | 11 55 0 0\n2 0 - | 11 66 0 0\n3 0 - | 42 108 0 0\n4 0 - | 13 113 0 0\n5 0 - | 15 118 0 0\n6 0 - | 37 120 0 0\n7 0 - | 42 124 0 0\n8 0 - | 39 126 0 0\n9 0 - | 47 132 0 0\n10 0 - | 53 138 2 0\n11 0 - | 156 160 7 1\n12 0 - | 62 168 9 1\n13 16 Real Bool | 354 168 9 1\n14 17 Bag t17 | 77 168 9 1\n15 0 [Eq a] (-> a (-> a Bool)) = (dabs [d1 Eq a] (proj d1 eq)) | 25 168 10 2\n16 0 [Bag a] (-> a List) | 42 172 13 3\n17 20 cons | 3 172 13 3\n18 14 Bool Pair | 135 172 13 3\n19 0 [] (-> a Bool) | 13 175 14 3\n20 0 [] Int | 63 176 17 4\n"
unfolding everything metered said
s_5005266_computed = refl

abbrev s_5005308 : List Decl
s_5005308 =
    class "Eq" "a" [] (sig "eq" (arrow (v "a") (arrow (v "a") (c "Bool" nil))) ∷ []) (body "eq" (eint 1) ∷ [])
    ∷ class "Mk" "a" [] (sig "mk" (arrow (v "a") (arrow (v "b") (c "Pair" ((v "a") ◂ (v "b") ◂ nil)))) ∷ []) (body "mk" (eint 1) ∷ [])
    ∷ instance [] "Mk" (c "Int" nil) []
    ∷ instance [] "Mk" (c "Bool" nil) []
    ∷ instance [] "Mk" (c "Pair" ((v "a") ◂ (v "b") ◂ nil)) []
    ∷ instance [] "Eq" (c "Pair" ((c "Int" nil) ◂ (v "a") ◂ nil)) []
    ∷ instance [] "Eq" (c "Pair" ((v "a") ◂ (c "Pair" ((v "a") ◂ (c "Int" nil) ◂ nil)) ◂ nil)) []
    ∷ instance [] "Eq" (c "Bool" nil) []
    ∷ instance [] "Eq" (c "Int" nil) []
    ∷ instance (at "Mk" (v "a") ∷ []) "Eq" (c "Pair" ((c "Bool" nil) ◂ (v "a") ◂ nil)) []
    ∷ instance [] "Eq" (arrow (v "a") (c "Int" nil)) []
    ∷ instance (at "Eq" (v "a") ∷ at "Eq" (v "a") ∷ []) "Eq" (c "Pair" ((v "a") ◂ (v "a") ◂ nil)) []
    ∷ instance (at "Eq" (v "a") ∷ at "Eq" (v "a") ∷ at "Eq" (v "a") ∷ at "Eq" (v "z") ∷ []) "Eq" (c "Pair" ((v "a") ◂ (c "Int" nil) ◂ nil)) []
    ∷ define "g" (eapp (ev "eq") (eapp (eapp (ev "mk") (eint 9223372036854775808)) (eapp (eapp (ev "mk") (eint 6)) (eint 2))))
    ∷ check (eapp (ev "eq") (eapp (eapp (ev "mk") (eapp (eapp (ev "mk") (eint 7)) (eint 2))) (eint 1)))
    ∷ define "twice" (eapp (ev "eq") (eapp (eapp (ev "mk") (eint 6)) (eint 6)))
    ∷ instance [] "Eq" (c "Bool" nil) (body "eq" (lam "x" (lam "y" (eapp (eapp (lam "u" (lam "v" (ev "v"))) (eapp (eapp (ev "mk") (ev "y")) (ev "x"))) (eapp (eapp (lam "u" (lam "v" (ev "v"))) (eapp (eapp (ev "mk") (ev "y")) (ev "x"))) (eapp (eapp (lam "u" (lam "v" (ev "v"))) (eapp (eapp (ev "mk") (ev "y")) (ev "x"))) (eapp (eapp (lam "u" (lam "v" (ev "v"))) (eapp (eapp (ev "mk") (ev "y")) (ev "x"))) (ev "x"))))))) ∷ [])
    ∷ check (lam "x" (lam "y" (bind "g" (eapp (ev "eq") (ev "y")) (eapp (eapp (lam "u" (lam "v" (ev "v"))) (eapp (ev "mk") (ev "y"))) (eapp (lam "u" (eapp (eapp (lam "u" (lam "v" (ev "v"))) (eapp (eapp (ev "eq") (ev "y")) (ev "y"))) (bind "f" (eapp (eapp (ev "mk") (ev "x")) (ev "x")) (eapp (ev "eq") (ev "x"))))) (eapp (eapp (ev "mk") (ev "y")) (ev "y")))))))
    ∷ []

s_5005308_computed : metered 512 65536 512 s_5005308 ≡ said "declarations 18\n0 0 - | 11 44 0 0\n1 0 - | 15 59 0 0\n2 0 - | 4 61 0 0\n3 0 - | 6 63 0 0\n4 0 - | 10 67 0 0\n5 0 - | 6 71 0 0\n6 0 - | 13 77 0 0\n7 0 - | 8 79 0 0\n8 0 - | 10 81 0 0\n9 0 - | 20 86 0 0\n10 0 - | 16 90 0 0\n11 0 - | 30 96 0 0\n12 0 - | 38 104 0 0\n13 0 [] (-> (Pair Int (Pair Int Int)) Bool) | 256 111 10 3\n14 16 Eq z | 289 111 10 3\n15 0 [] (-> (Pair Int Int) Bool) | 141 116 16 5\n16 6 - | 512 116 16 5\n17 6 - | 512 116 16 5\n"
unfolding everything metered said
s_5005308_computed = refl

abbrev s_5005342 : List Decl
s_5005342 =
    class "Num" "a" ("Fun" ∷ []) (sig "add" (arrow (v "t") (v "t")) ∷ []) []
    ∷ instance [] "Bag" (c "List" ((c "List" ((v "t") ◂ nil)) ◂ nil)) []
    ∷ instance [] "Eq" (c "List" ((c "List" ((v "b") ◂ nil)) ◂ nil)) []
    ∷ class "Real" "tx" [] (sig "zero" (v "tx") ∷ sig "zero" (v "tx") ∷ []) (body "zero" (ev "primLtInt") ∷ [])
    ∷ instance (at "Real" (v "a") ∷ at "Real" (v "b") ∷ []) "Real" (c "List" ((v "a") ◂ nil)) (body "zero" (ev "zero") ∷ [])
    ∷ instance (at "Real" (v "tx") ∷ []) "Real" (c "Pair" ((v "a") ◂ (v "tx") ◂ nil)) (body "zero" (ev "zero") ∷ [])
    ∷ class "Mon" "a" [] (sig "mk" (arrow (v "a") (v "a")) ∷ []) []
    ∷ instance [] "Real" (arrow (v "b") (v "b")) []
    ∷ class "Fun" "A" [] (sig "use1" (arrow (c "Int" nil) (v "A")) ∷ sig "tag" (arrow (v "A") (c "List" ((v "A") ◂ nil))) ∷ []) (body "use1" (lam "x" (ev "zero")) ∷ [])
    ∷ instance (at "Fun" (v "c") ∷ []) "Fun" (c "Pair" ((v "c") ◂ (v "c") ◂ nil)) (body "use1" (eapp (ev "mk") (lam "y" (eapp (ev "use1") (ev "y")))) ∷ body "tag" (eapp (ev "use1") (eapp (ev "mk") (eapp (eapp (ev "primMulInt") (eint 6)) (eint 0)))) ∷ [])
    ∷ instance [] "Real" (c "List" ((v "a") ◂ nil)) (body "zero" (eapp (ev "mk") (ev "zero")) ∷ body "zero" (eapp (ev "mk") (ev "primNotBool")) ∷ [])
    ∷ define "primNotBool" (ev "mk")
    ∷ instance [] "Fun" (c "Int" nil) []
    ∷ check (ev "mk")
    ∷ []

s_5005342_computed : metered 512 65536 512 s_5005342 ≡ said "declarations 14\n0 21 Num Fun | 7 33 0 0\n1 19 Bag | 3 33 0 0\n2 19 Eq | 3 33 0 0\n3 0 - | 6 37 0 0\n4 16 Real (List a) | 16 37 0 0\n5 16 Real (Pair a tx) | 16 37 0 0\n6 0 - | 7 44 0 0\n7 0 - | 19 49 0 0\n8 0 - | 16 65 0 0\n9 16 Mon (-> Int (Pair c c)) | 80 65 0 0\n10 16 Mon (List a) | 33 65 0 0\n11 0 [Mon a] (-> a a) | 19 66 1 1\n12 22 Fun Int tag | 9 66 1 1\n13 0 [Mon a] (-> a a) = (dabs [d1 Mon a] (proj d1 mk)) | 19 66 2 2\n"
unfolding everything metered said
s_5005342_computed = refl

abbrev s_5005524 : List Decl
s_5005524 =
    class "Mon" "a" [] (sig "primEqBool" (arrow (v "a") (c "Pair" ((v "a") ◂ nil))) ∷ sig "mk" (arrow (v "b") (v "b")) ∷ []) []
    ∷ class "Show" "t1x" [] (sig "fst" (c "List" ((v "t1x") ◂ nil)) ∷ sig "add" (arrow (v "t1x") (arrow (v "a") (c "Pair" ((v "t1x") ◂ (v "a") ◂ nil)))) ∷ []) (body "add" (lam "u" (eapp (ev "mk") (lam "u" (eapp (eapp (ev "add") (bind "twice" (ev "add") (bind "q" (ev "twice") (ev "q")))) (eapp (ev "primLtInt") (eapp (ev "mk") (eint 2))))))) ∷ [])
    ∷ instance (at "Show" (v "t") ∷ []) "Mon" (c "Pair" ((v "t") ◂ (v "b") ◂ nil)) (body "primEqBool" (lam "p" (eapp (lam "w" (ev "p")) (eapp (ev "primEqBool") (ev "p")))) ∷ body "mk" (bind "w" (ev "primMulInt") (ev "w")) ∷ [])
    ∷ class "Eq" "a" [] (sig "cons" (arrow (c "List" ((v "a") ◂ nil)) (v "a")) ∷ sig "conv" (arrow (v "a") (arrow (c "List" ((v "a") ◂ nil)) (c "List" ((v "a") ◂ nil)))) ∷ sig "snd" (arrow (c "List" ((v "a") ◂ nil)) (v "a")) ∷ []) []
    ∷ instance [] "Mon" (c "Pair" ((v "c") ◂ (c "Int" nil) ◂ nil)) (body "primEqBool" (lam "v" (ev "primLtInt")) ∷ body "mk" (lam "x" (eapp (eapp (lam "u" (lam "v" (ev "v"))) (eapp (ev "primEqBool") (ev "x"))) (eapp (eapp (lam "u" (lam "v" (ev "v"))) (ev "fst")) (eapp (eapp (lam "u" (lam "v" (ev "v"))) (ev "fst")) (ev "x"))))) ∷ [])
    ∷ instance [] "Eq" (c "Bool" nil) (body "cons" (lam "q" (eapp (ev "primNotBool") (ebool false))) ∷ body "conv" (lam "z" (lam "w" (ev "w"))) ∷ body "snd" (lam "x" (ebool false)) ∷ [])
    ∷ class "Real" "z" [] (sig "eq" (c "List" ((arrow (c "Int" nil) (arrow (v "z") (c "Int" nil))) ◂ nil)) ∷ []) []
    ∷ instance (at "Mon" (v "a") ∷ []) "Mon" (c "Pair" ((v "a") ◂ (v "a") ◂ nil)) (body "primEqBool" (eapp (ev "cons") (eapp (ev "cons") (ev "fst"))) ∷ body "mk" (lam "u" (ev "u")) ∷ [])
    ∷ instance (at "Eq" (v "b") ∷ []) "Eq" (arrow (v "a") (v "b")) (body "cons" (lam "conv" (lam "q" (ev "primEqInt"))) ∷ body "conv" (eapp (ev "snd") (eapp (ev "mk") (eapp (ev "cons") (eapp (eapp (ev "conv") (eapp (eapp (ev "conv") (lam "conv" (lam "p" (ev "p")))) (ebool false))) (eapp (ev "snd") (ev "mk")))))) ∷ body "snd" (lam "x" (lam "y" (eapp (eapp (lam "u" (lam "v" (ev "v"))) (ev "eq")) (eapp (eapp (lam "u" (lam "v" (ev "v"))) (ev "eq")) (eapp (eapp (lam "u" (lam "v" (ev "v"))) (eapp (ev "cons") (ev "x"))) (eapp (eapp (lam "u" (lam "v" (ev "v"))) (eapp (ev "cons") (ev "x"))) (eapp (eapp (lam "u" (lam "v" (ev "v"))) (eapp (ev "primEqBool") (ev "x"))) (eapp (eapp (lam "u" (lam "v" (ev "v"))) (eapp (ev "primEqBool") (ev "x"))) (ev "conv"))))))))) ∷ [])
    ∷ check (ev "add")
    ∷ check (lam "x" (lam "y" (lam "z" (bind "k" (ev "fst") (eapp (lam "u" (bind "g" (eapp (ev "mk") (ev "x")) (eapp (eapp (lam "u" (lam "v" (ev "v"))) (eapp (ev "primEqBool") (ev "y"))) (bind "g" (ev "eq") (ev "fst"))))) (eapp (eapp (ev "add") (ev "z")) (ev "y")))))))
    ∷ define "twice" (lam "add" (ev "add"))
    ∷ class "Fun" "z" ("Eq" ∷ "Show" ∷ []) (sig "pair" (arrow (v "z") (arrow (c "List" ((v "z") ◂ nil)) (c "List" ((v "z") ◂ nil)))) ∷ sig "shw" (arrow (v "z") (arrow (v "b") (c "Pair" ((v "z") ◂ (v "b") ◂ nil)))) ∷ []) (body "shw" (ev "shw") ∷ [])
    ∷ define "g" (ebool true)
    ∷ define "primNotBool" (lam "q" (ev "primEqBool"))
    ∷ define "same" (bind "q" (eapp (ev "primAddInt") (eapp (ev "cons") (bind "k" (bind "twice" (lam "x" (ev "x")) (eint 1)) (eapp (ev "primEqInt") (ev "k"))))) (lam "y" (ev "y")))
    ∷ define "h" (lam "x" (eapp (eapp (lam "u" (lam "v" (ev "v"))) (eapp (eapp (ev "add") (ev "x")) (ev "x"))) (eapp (lam "u" (eapp (eapp (ev "pair") (ev "x")) (ev "x"))) (eapp (ev "mk") (ev "x")))))
    ∷ []

s_5005524_computed : metered 512 65536 512 s_5005524 ≡ said "declarations 17\n0 0 - | 16 44 0 0\n1 0 - | 20 64 0 0\n2 15 Pair 2 1 | 73 64 0 0\n3 0 - | 33 97 0 0\n4 12 (-> Int (-> Int Bool)) (Pair (Pair c Int)) | 42 97 0 0\n5 0 - | 124 107 5 0\n6 0 - | 13 120 5 0\n7 16 Eq (-> (Pair a a) (Pair (Pair a a))) | 84 120 5 0\n8 14 List Bool | 158 120 5 0\n9 0 [Show b] (-> b (-> a (Pair b a))) = (dabs [d0 Show b] (proj d0 add)) | 31 120 7 1\n10 17 Mon t14 | 56 120 7 1\n11 20 add | 3 120 7 1\n12 0 - | 30 150 7 1\n13 0 [] Bool | 5 151 7 1\n14 0 [Mon b] (-> a (-> b (Pair b))) | 30 155 9 2\n15 12 (List t11) (-> Int Bool) | 66 155 9 2\n16 13 t9 (List t9) | 148 155 9 2\n"
unfolding everything metered said
s_5005524_computed = refl

abbrev s_5005666 : List Decl
s_5005666 =
    class "Real" "a" [] (sig "join" (arrow (v "a") (arrow (v "a") (c "Bool" nil))) ∷ []) (body "join" (ev "join") ∷ [])
    ∷ instance [] "Bag" (c "Int" nil) []
    ∷ instance [] "Real" (v "b") []
    ∷ define "k" (lam "x" (bind "h" (lam "y" (bind "k" (eapp (eapp (lam "p" (lam "q" (ev "p"))) (eapp (ev "join") (ev "x"))) (eapp (eapp (ev "join") (ev "x")) (ev "x"))) (eapp (eapp (lam "p" (lam "q" (ev "q"))) (ev "k")) (eapp (eapp (ev "join") (ev "x")) (ev "x"))))) (eapp (ev "h") (ev "x"))))
    ∷ define "same" (bind "h" (ev "primMulInt") (ebool false))
    ∷ define "h" (lam "v" (lam "w" (ev "w")))
    ∷ define "g" (lam "x" (bind "twice" (eapp (eapp (ev "join") (ev "x")) (ev "x")) (bind "comp" (eapp (eapp (ev "join") (ev "x")) (ev "x")) (eapp (lam "u" (eapp (ev "join") (ev "x"))) (eapp (eapp (ev "join") (ev "x")) (ev "x"))))))
    ∷ []

s_5005666_computed : metered 512 65536 512 s_5005666 ≡ said "declarations 7\n0 0 - | 11 44 0 0\n1 19 Bag | 1 44 0 0\n2 0 - | 12 47 1 1\n3 6 - | 512 47 1 1\n4 0 [] Bool | 23 48 1 1\n5 0 [] (-> a (-> b b)) | 22 53 3 1\n6 0 [Real a] (-> a (-> a Bool)) | 321 59 17 5\n"
unfolding everything metered said
s_5005666_computed = refl

abbrev s_5005756 : List Decl
s_5005756 =
    class "Eq" "a" [] (sig "eq" (arrow (v "a") (arrow (v "a") (c "Bool" nil))) ∷ []) (body "eq" (eint 1) ∷ [])
    ∷ instance (at "Eq" (c "List" ((c "List" ((v "a") ◂ nil)) ◂ nil)) ∷ []) "Eq" (c "List" ((v "a") ◂ nil)) []
    ∷ check (eapp (ev "eq") (eint 1))
    ∷ class "Bag" "a" [] (sig "one" (arrow (v "a") (c "List" ((v "a") ◂ nil))) ∷ []) (body "one" (eint 1) ∷ [])
    ∷ instance [] "Bag" (c "Int" nil) []
    ∷ check (eapp (ev "eq") (eapp (ev "one") (eint 1)))
    ∷ instance [] "Bag" (c "List" ((c "List" ((v "t") ◂ nil)) ◂ nil)) (body "one" (bind "w" (eint 13325642530596032330) (lam "v" (lam "y" (ev "eq")))) ∷ [])
    ∷ check (bind "k" (ev "primEqInt") (eapp (eapp (ev "primMulInt") (eint 18446744073709551615)) (eint 1)))
    ∷ check (eapp (eapp (ev "eq") (ev "one")) (lam "one" (eapp (ev "one") (ev "primAndBool"))))
    ∷ []

s_5005756_computed : metered 512 65536 512 s_5005756 ≡ said "declarations 9\n0 0 - | 11 44 0 0\n1 0 - | 8 50 0 0\n2 16 Eq Int | 30 50 0 0\n3 0 - | 9 59 0 0\n4 0 - | 4 61 0 0\n5 6 - | 512 61 0 0\n6 12 (-> t1 (-> t2 (-> t2 Bool))) (List (List (List t))) | 54 61 0 0\n7 0 [] Int = (let k primEqInt (app (app primMulInt 18446744073709551615) 1)) | 68 61 2 0\n8 20 one | 38 61 2 0\n"
unfolding everything metered said
s_5005756_computed = refl

abbrev s_5005786 : List Decl
s_5005786 =
    class "Eq" "a" [] (sig "eq" (arrow (v "a") (arrow (v "a") (c "Bool" nil))) ∷ []) (body "eq" (eint 1) ∷ [])
    ∷ class "Mk" "a" [] (sig "mk" (arrow (v "a") (arrow (v "b") (c "Pair" ((v "a") ◂ (v "b") ◂ nil)))) ∷ []) (body "mk" (eint 1) ∷ [])
    ∷ instance [] "Mk" (c "Int" nil) []
    ∷ instance [] "Mk" (c "Bool" nil) []
    ∷ instance [] "Mk" (c "Pair" ((v "a") ◂ (v "b") ◂ nil)) []
    ∷ instance (at "Eq" (v "a") ∷ []) "Eq" (c "Pair" ((v "a") ◂ (c "Bool" nil) ◂ nil)) []
    ∷ instance [] "Eq" (c "Pair" ((v "a") ◂ (v "a") ◂ nil)) []
    ∷ instance [] "Eq" (c "Pair" ((v "a") ◂ (c "Int" nil) ◂ nil)) []
    ∷ instance (at "Mk" (v "b") ∷ []) "Eq" (arrow (v "a") (c "Int" nil)) []
    ∷ define "k" (eapp (ev "eq") (eapp (eapp (ev "mk") (ebool true)) (ebool true)))
    ∷ define "twice" (eapp (ev "eq") (eapp (ev "primAddInt") (eint 1)))
    ∷ check (eapp (ev "eq") (eapp (eapp (ev "mk") (eint 9223372036854775808)) (eint 2)))
    ∷ instance (at "Mk" (v "b") ∷ []) "Mk" (c "List" ((v "b") ◂ nil)) []
    ∷ check (ev "eq")
    ∷ []

s_5005786_computed : metered 512 65536 512 s_5005786 ≡ said "declarations 14\n0 0 - | 11 44 0 0\n1 0 - | 15 59 0 0\n2 0 - | 4 61 0 0\n3 0 - | 6 63 0 0\n4 0 - | 10 67 0 0\n5 0 - | 7 72 0 0\n6 0 - | 12 76 0 0\n7 0 - | 18 80 0 0\n8 0 - | 13 85 0 0\n9 16 Eq Bool | 114 85 0 0\n10 16 Mk b | 69 85 0 0\n11 0 [] (-> (Pair Int Int) Bool) = (app (proj (rec Eq (Pair Int Int)) eq) (app (app (proj (rec Mk Int) mk) 9223372036854775808) 2)) | 144 85 6 2\n12 0 - | 12 89 6 2\n13 0 [Eq a] (-> a (-> a Bool)) = (dabs [d2 Eq a] (proj d2 eq)) | 25 89 7 3\n"
unfolding everything metered said
s_5005786_computed = refl

abbrev s_5005940 : List Decl
s_5005940 =
    class "Bag" "b" [] (sig "tag" (arrow (c "List" nil) (v "b")) ∷ sig "mk" (arrow (c "Pair" ((v "b") ◂ nil)) (v "b")) ∷ sig "shw" (arrow (v "b") (v "b")) ∷ []) (body "tag" (lam "w" (eapp (ev "shw") (ev "mk"))) ∷ body "shw" (lam "w" (eapp (ev "shw") (ev "tag"))) ∷ [])
    ∷ class "Fun" "a" ("Bag" ∷ []) (sig "lt" (arrow (v "a") (arrow (v "a") (c "Bool" nil))) ∷ []) (body "lt" (lam "y" (bind "h" (ev "y") (lam "z" (ebool false)))) ∷ [])
    ∷ class "Eq" "a" [] (sig "zero" (arrow (v "a") (arrow (v "a") (c "Bool" nil))) ∷ []) []
    ∷ instance [] "Bag" (c "List" ((c "Int" nil) ◂ nil)) (body "shw" (eapp (ev "mk") (eapp (ev "mk") (eapp (ev "tag") (eapp (ev "shw") (eapp (ev "tag") (bind "u" (lam "x" (lam "y" (ev "x"))) (eapp (eapp (ev "u") (eapp (eapp (ev "u") (bind "w" (ev "u") (ev "u"))) (ev "u"))) (eapp (ev "mk") (eapp (eint 458551005267395812) (ev "u")))))))))) ∷ body "mk" (lam "x" (eapp (eapp (lam "u" (lam "v" (ev "v"))) (eapp (ev "shw") (ev "x"))) (eapp (eapp (lam "u" (lam "v" (ev "v"))) (eapp (ev "shw") (ev "x"))) (lam "v" (eint 6))))) ∷ body "tag" (lam "u" (eapp (ev "mk") (eapp (ev "tag") (ev "u")))) ∷ [])
    ∷ class "Mon" "z" ("Eq" ∷ []) (sig "use1" (arrow (c "Pair" ((v "z") ◂ (v "c") ◂ nil)) (v "z")) ∷ sig "snd" (arrow (v "z") (arrow (v "z") (c "Bool" nil))) ∷ sig "eq" (arrow (v "z") (c "List" nil)) ∷ []) []
    ∷ instance (at "Mon" (v "a") ∷ []) "Eq" (arrow (v "a") (v "a")) (body "zero" (lam "x" (lam "y" (eapp (eapp (lam "u" (lam "v" (ev "v"))) (eapp (ev "use1") (ev "x"))) (eapp (eapp (lam "u" (lam "v" (ev "v"))) (eapp (ev "use1") (ev "x"))) (eapp (eapp (lam "u" (lam "v" (ev "v"))) (eapp (ev "shw") (ev "y"))) (eapp (eapp (lam "u" (lam "v" (ev "v"))) (eapp (ev "shw") (ev "y"))) (eapp (ev "x") (eapp (ev "use1") (eapp (ev "y") (eint 0)))))))))) ∷ [])
    ∷ instance (at "Mon" (v "a") ∷ []) "Mon" (arrow (v "a") (v "a")) (body "use1" (lam "z" (lam "z" (eapp (eapp (eapp (ev "f") (ev "z")) (eint 3)) (eapp (ev "shw") (bind "z" (ev "z") (ev "z")))))) ∷ body "snd" (lam "u" (lam "p" (eapp (ev "p") (eapp (eapp (ev "snd") (eapp (ev "eq") (ev "u"))) (bind "twice" (eapp (eapp (ev "lt") (ev "p")) (ev "p")) (eapp (ev "tag") (eapp (ev "h") (eapp (eapp (ev "twice") (ev "p")) (bind "x" (ebool false) (ev "twice")))))))))) ∷ body "eq" (lam "u" (eapp (ev "mk") (eapp (ev "u") (eapp (ev "u") (eapp (ev "u") (eapp (ev "u") (ebool false))))))) ∷ [])
    ∷ instance [] "Bag" (c "Bool" nil) (body "tag" (eapp (ev "use1") (eapp (ev "shw") (lam "v" (ev "g")))) ∷ body "mk" (lam "y" (ebool false)) ∷ body "shw" (eapp (ev "snd") (bind "q" (eapp (ev "mk") (bind "q" (eapp (ev "tag") (lam "u" (ev "u"))) (bind "x" (ev "q") (lam "u" (ev "primMulInt"))))) (ebool false))) ∷ [])
    ∷ instance [] "Eq" (arrow (c "Int" nil) (v "t")) []
    ∷ check (eapp (eapp (lam "x" (lam "y" (eapp (lam "u" (eapp (eapp (lam "u" (lam "v" (ev "v"))) (eapp (eapp (ev "snd") (ev "x")) (ev "y"))) (bind "h" (eapp (ev "mk") (ev "y")) (bind "comp" (eapp (ev "use1") (ev "x")) (bind "comp" (eapp (ev "eq") (ev "y")) (eapp (eapp (ev "snd") (ev "y")) (ev "y"))))))) (eapp (ev "mk") (ev "y"))))) (ebool true)) (eint 8))
    ∷ instance [] "Eq" (c "Pair" ((v "a") ◂ (v "tx") ◂ nil)) (body "zero" (lam "p" (eapp (ev "shw") (bind "z" (lam "x" (lam "y" (ev "x"))) (lam "p" (ebool false))))) ∷ [])
    ∷ define "twice" (lam "y" (bind "u" (eapp (ev "snd") (ev "y")) (bind "q" (lam "x" (lam "y" (ev "x"))) (bind "q" (lam "x" (ev "x")) (lam "x" (eapp (ev "q") (ebool true)))))))
    ∷ []

s_5005940_computed : metered 512 65536 512 s_5005940 ≡ said "declarations 12\n0 0 - | 23 56 0 0\n1 0 - | 11 67 0 0\n2 0 - | 11 78 0 0\n3 12 Int (-> (-> t29 (-> t30 t29)) t28) | 222 78 0 0\n4 0 - | 29 107 0 0\n5 12 (Pair t13 t7) (-> t29 t28) | 306 107 0 0\n6 11 f | 15 107 0 0\n7 11 g | 20 107 0 0\n8 22 Eq (-> Int t) zero | 3 107 0 0\n9 15 Pair 2 1 | 162 107 0 0\n10 16 Bag (-> (Pair a tx) Bool) | 97 107 0 0\n11 0 [] (-> a (-> b Bool)) | 160 112 9 1\n"
unfolding everything metered said
s_5005940_computed = refl
