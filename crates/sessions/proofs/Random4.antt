-- Recorded sessions, computed: text, steps, kept nodes and both counters. (tools/session_test.py)
use mathlib.Core.Path.{◌≡◌, refl}
use mathlib.Core.Bool.{true, false}
use mathlib.Core.List.{List, [], ◌∷◌}
use Rattle.meaning.specs.Ast.{Ty, arrow, Expr, eint, ebool, eapp, Decl, nil, ◌◂◌}
use Rattle.meaning.proofs.Metered.{everything, metered, said}
use Rattle.meaning.proofs.Written.{v, c, ev, lam, bind, class, instance, define, check, at, sig, body}

abbrev s_5004038 : List Decl
s_5004038 =
    class "Eq" "a" [] (sig "eq" (arrow (v "a") (arrow (v "a") (c "Bool" nil))) ∷ []) []
    ∷ class "Ord" "a" ("Eq" ∷ []) (sig "lt" (arrow (v "a") (arrow (v "a") (c "Bool" nil))) ∷ []) []
    ∷ class "Real" "a" ("Ord" ∷ "Eq" ∷ []) (sig "add" (arrow (v "a") (arrow (v "a") (v "a"))) ∷ []) []
    ∷ class "Bag" "a" [] (sig "nil" (c "List" ((v "a") ◂ nil)) ∷ sig "cons" (arrow (v "a") (arrow (c "List" ((v "a") ◂ nil)) (c "List" ((v "a") ◂ nil)))) ∷ sig "pair" (arrow (v "a") (arrow (v "b") (c "Pair" ((v "a") ◂ (v "b") ◂ nil)))) ∷ sig "odd" (arrow (v "a") (c "List" nil)) ∷ []) (body "nil" (eint 0) ∷ body "cons" (eint 0) ∷ body "pair" (eint 0) ∷ body "odd" (eint 0) ∷ [])
    ∷ instance [] "Bag" (c "Int" nil) []
    ∷ instance [] "Bag" (c "Bool" nil) []
    ∷ instance [] "Bag" (c "List" ((v "a") ◂ nil)) []
    ∷ instance [] "Bag" (c "Pair" ((v "a") ◂ (v "b") ◂ nil)) []
    ∷ instance [] "Eq" (c "Int" nil) (body "eq" (ev "primEqInt") ∷ [])
    ∷ instance [] "Ord" (c "Int" nil) (body "lt" (ev "primLtInt") ∷ [])
    ∷ instance [] "Eq" (c "Bool" nil) (body "eq" (ev "primEqBool") ∷ [])
    ∷ instance [] "Ord" (c "Bool" nil) (body "lt" (ev "primAndBool") ∷ [])
    ∷ instance [] "Real" (c "Int" nil) (body "add" (ev "primAddInt") ∷ [])
    ∷ instance (at "Eq" (v "a") ∷ []) "Eq" (c "List" ((v "a") ◂ nil)) (body "eq" (lam "x" (lam "y" (ebool true))) ∷ [])
    ∷ instance (at "Ord" (v "a") ∷ []) "Ord" (c "List" ((v "a") ◂ nil)) (body "lt" (lam "x" (lam "y" (eapp (eapp (ev "eq") (ev "x")) (ev "y")))) ∷ [])
    ∷ instance (at "Eq" (v "a") ∷ at "Eq" (v "b") ∷ []) "Eq" (c "Pair" ((v "a") ◂ (v "b") ◂ nil)) (body "eq" (lam "x" (lam "y" (ebool false))) ∷ [])
    ∷ instance (at "Real" (v "b") ∷ []) "Eq" (arrow (v "b") (v "b")) (body "eq" (bind "h" (lam "x" (ev "x")) (eapp (ev "h") (eapp (ev "h") (lam "y" (lam "p" (eapp (eapp (ev "primEqBool") (eapp (ev "p") (ebool true))) (eapp (eapp (ev "primEqBool") (ebool false)) (ebool false)))))))) ∷ [])
    ∷ instance (at "Real" (v "b") ∷ []) "Ord" (arrow (v "b") (v "b")) (body "lt" (lam "u" (lam "v" (eapp (ev "v") (bind "q" (lam "x" (ev "x")) (eapp (ev "u") (ebool true)))))) ∷ [])
    ∷ instance (at "Real" (v "b") ∷ []) "Real" (arrow (v "b") (v "b")) (body "add" (lam "odd" (lam "y" (ev "y"))) ∷ [])
    ∷ check (eapp (eapp (ev "add") (eapp (ev "odd") (ev "primAddInt"))) (ev "nil"))
    ∷ check (ev "nil")
    ∷ check (ev "eq")
    ∷ define "g" (ev "nil")
    ∷ check (lam "primEqBool" (ev "pair"))
    ∷ define "k" (eapp (ev "lt") (bind "u" (ev "primEqBool") (ev "u")))
    ∷ []

s_5004038_computed : metered 512 65536 512 s_5004038 ≡ said "declarations 25\n0 0 - | 11 44 0 0\n1 0 - | 11 55 0 0\n2 0 - | 11 66 0 0\n3 0 - | 42 108 0 0\n4 0 - | 13 113 0 0\n5 0 - | 15 118 0 0\n6 0 - | 18 124 0 0\n7 0 - | 21 131 0 0\n8 0 - | 37 133 0 0\n9 0 - | 42 137 0 0\n10 0 - | 39 139 0 0\n11 0 - | 45 143 0 0\n12 0 - | 47 149 0 0\n13 0 - | 53 155 2 0\n14 0 - | 158 177 7 1\n15 0 - | 62 185 9 1\n16 0 - | 340 209 21 1\n17 0 - | 150 229 26 1\n18 0 - | 115 248 28 1\n19 15 List 0 1 | 71 248 28 1\n20 0 [Bag a] (List a) = (dabs [d1 Bag a] (proj d1 nil)) | 16 248 29 2\n21 0 [Eq a] (-> a (-> a Bool)) = (dabs [d2 Eq a] (proj d2 eq)) | 25 248 30 3\n22 0 [Bag a] (List a) | 16 251 31 4\n23 0 [Bag b] (-> a (-> b (-> c (Pair b c)))) = (dabs [d4 Bag b] (lam primEqBool (proj d4 pair))) | 39 251 34 5\n24 16 Ord (-> Bool (-> Bool Bool)) | 66 251 34 5\n"
unfolding everything metered said
s_5004038_computed = refl

abbrev s_5004054 : List Decl
s_5004054 =
    define "deep" (lam "x" (lam "x" (lam "x" (lam "x" (lam "x" (lam "x" (lam "x" (lam "x" (lam "x" (lam "x" (lam "x" (lam "x" (lam "x" (lam "x" (lam "x" (lam "x" (lam "x" (lam "x" (lam "x" (lam "x" (lam "x" (lam "x" (lam "x" (lam "x" (lam "x" (lam "x" (lam "x" (lam "x" (lam "x" (lam "x" (lam "x" (lam "x" (lam "x" (lam "x" (lam "x" (lam "x" (lam "x" (lam "x" (lam "x" (lam "x" (lam "x" (lam "x" (lam "x" (lam "x" (lam "x" (lam "x" (lam "x" (lam "x" (lam "x" (lam "x" (lam "x" (lam "x" (lam "x" (lam "x" (lam "x" (lam "x" (lam "x" (lam "x" (lam "x" (lam "x" (lam "x" (lam "x" (lam "x" (lam "x" (lam "x" (lam "x" (lam "x" (lam "x" (lam "x" (lam "x" (lam "x" (lam "x" (lam "x" (lam "x" (lam "x" (lam "x" (lam "x" (lam "x" (lam "x" (lam "x" (lam "x" (lam "x" (lam "x" (lam "x" (lam "x" (lam "x" (lam "x" (lam "x" (lam "x" (lam "x" (lam "x" (lam "x" (lam "x" (lam "x" (lam "x" (lam "x" (lam "x" (lam "x" (lam "x" (lam "x" (lam "x" (lam "x" (lam "x" (lam "x" (lam "x" (lam "x" (lam "x" (lam "x" (lam "x" (lam "x" (lam "x" (lam "x" (lam "x" (lam "x" (lam "x" (lam "x" (lam "x" (lam "x" (lam "x" (lam "x" (lam "x" (lam "x" (lam "x" (lam "x" (lam "x" (lam "x" (lam "x" (lam "x" (lam "x" (lam "x" (lam "x" (lam "x" (lam "x" (lam "x" (lam "x" (lam "x" (lam "x" (lam "x" (lam "x" (lam "x" (lam "x" (lam "x" (lam "x" (lam "x" (lam "x" (lam "x" (lam "x" (lam "x" (lam "x" (lam "x" (lam "x" (lam "x" (lam "x" (lam "x" (lam "x" (lam "x" (lam "x" (lam "x" (lam "x" (lam "x" (lam "x" (lam "x" (lam "x" (lam "x" (lam "x" (lam "x" (lam "x" (lam "x" (lam "x" (lam "x" (lam "x" (lam "x" (lam "x" (lam "x" (lam "x" (lam "x" (lam "x" (lam "x" (lam "x" (lam "x" (lam "x" (lam "x" (lam "x" (lam "x" (lam "x" (lam "x" (lam "x" (lam "x" (lam "x" (lam "x" (lam "x" (lam "x" (lam "x" (lam "x" (lam "x" (lam "x" (lam "x" (lam "x" (lam "x" (lam "x" (lam "x" (lam "x" (lam "x" (lam "x" (lam "x" (lam "x" (lam "x" (lam "x" (lam "x" (lam "x" (lam "x" (lam "x" (lam "x" (lam "x" (lam "x" (lam "x" (lam "x" (lam "x" (lam "x" (lam "x" (lam "x" (lam "x" (lam "x" (lam "x" (lam "x" (lam "x" (lam "x" (lam "x" (lam "x" (lam "x" (lam "x" (lam "x" (lam "x" (lam "x" (lam "x" (lam "x" (lam "x" (lam "x" (lam "x" (lam "x" (lam "x" (lam "x" (lam "x" (lam "x" (lam "x" (lam "x" (lam "x" (lam "x" (lam "x" (lam "x" (lam "x" (lam "x" (lam "x" (lam "x" (lam "x" (lam "x" (lam "x" (lam "x" (lam "x" (lam "x" (lam "x" (lam "x" (lam "x" (lam "x" (lam "x" (ebool true))))))))))))))))))))))))))))))))))))))))))))))))))))))))))))))))))))))))))))))))))))))))))))))))))))))))))))))))))))))))))))))))))))))))))))))))))))))))))))))))))))))))))))))))))))))))))))))))))))))))))))))))))))))))))))))))))))))))))))))))))))))))))))))))))))))))))
    ∷ check (ev "deep")
    ∷ []

s_5004054_computed : metered 512 65536 512 s_5004054 ≡ said "declarations 2\n0 7 - | 256 33 0 0\n1 11 deep | 1 33 0 0\n"
unfolding everything metered said
s_5004054_computed = refl

abbrev s_5004060 : List Decl
s_5004060 =
    class "Num" "a" [] (sig "neg" (arrow (v "a") (c "Bool" nil)) ∷ sig "eq" (arrow (v "a") (v "a")) ∷ sig "cons" (arrow (c "Pair" ((c "Pair" nil) ◂ (arrow (c "Unit" nil) (v "a")) ◂ nil)) (c "Pair" ((c "List" ((c "Int" nil) ◂ nil)) ◂ (c "List" ((v "a") ◂ nil)) ◂ nil))) ∷ []) (body "eq" (lam "x" (ev "eq")) ∷ [])
    ∷ instance [] "Num" (c "Bool" nil) (body "neg" (ev "primNotBool") ∷ body "cons" (eapp (ev "eq") (lam "z" (eapp (ev "z") (ev "z")))) ∷ [])
    ∷ instance [] "Num" (c "List" ((c "List" ((v "c") ◂ nil)) ◂ nil)) (body "neg" (ev "neg") ∷ body "eq" (lam "u" (ev "u")) ∷ body "cons" (lam "y" (eapp (ev "eq") (eapp (ev "eq") (ev "primLtInt")))) ∷ [])
    ∷ class "Eq" "t" [] (sig "snd" (arrow (v "t") (c "List" ((v "t") ◂ nil))) ∷ sig "snd" (arrow (c "Pair" ((v "t") ◂ nil)) (v "t")) ∷ []) []
    ∷ instance [] "Bag" (c "Int" nil) []
    ∷ check (lam "x" (lam "y" (lam "z" (bind "f" (eapp (ev "cons") (ev "y")) (eapp (eapp (lam "u" (lam "v" (ev "v"))) (eapp (ev "snd") (ev "z"))) (eapp (lam "u" (eapp (eapp (lam "u" (lam "v" (ev "v"))) (eapp (ev "snd") (ev "z"))) (eapp (eapp (lam "u" (lam "v" (ev "v"))) (eapp (ev "snd") (ev "z"))) (eapp (ev "eq") (ev "x"))))) (eapp (ev "snd") (ev "y"))))))))
    ∷ check (bind "h" (ev "primLtInt") (ev "h"))
    ∷ check (bind "k" (lam "y" (eapp (eapp (ev "primEqBool") (ev "y")) (bind "id" (ev "primLtInt") (bind "q" (ev "id") (ebool true))))) (eapp (ev "snd") (bind "twice" (bind "y" (lam "y" (eapp (ev "k") (ebool true))) (lam "x" (eapp (ev "y") (eapp (ev "y") (bind "same" (ev "x") (ebool true)))))) (eapp (ev "twice") (ev "cons")))))
    ∷ define "k" (lam "x" (lam "y" (eapp (ev "snd") (ev "y"))))
    ∷ define "same" (eapp (ev "eq") (eapp (eapp (ev "k") (eapp (ev "neg") (ev "k"))) (eapp (ev "eq") (eapp (ev "snd") (eapp (ev "eq") (ev "primLtInt"))))))
    ∷ class "Fun" "z" ("Eq" ∷ []) (sig "mk" (arrow (v "z") (arrow (v "z") (c "Bool" nil))) ∷ sig "fst" (arrow (v "z") (arrow (v "z") (c "Bool" nil))) ∷ []) []
    ∷ define "same" (lam "q" (lam "p" (eapp (ev "primNotBool") (ebool false))))
    ∷ instance (at "Num" (v "a") ∷ at "Fun" (v "a") ∷ at "Fun" (v "a") ∷ []) "Eq" (arrow (v "a") (v "b")) (body "snd" (lam "z" (eapp (ev "snd") (eapp (ev "eq") (eapp (ev "eq") (bind "comp" (eapp (ev "z") (eapp (ev "z") (eapp (ev "same") (eint 3)))) (eapp (ev "eq") (eapp (eapp (ev "k") (ev "comp")) (lam "x" (ev "z"))))))))) ∷ body "snd" (eapp (ev "eq") (lam "v" (lam "u" (ev "snd")))) ∷ [])
    ∷ []

s_5004060_computed : metered 512 65536 512 s_5004060 ≡ said "declarations 13\n0 0 - | 37 70 0 0\n1 13 t2 (-> t2 t3) | 46 70 0 0\n2 16 Num (List (List c)) | 29 70 0 0\n3 0 - | 18 83 0 0\n4 19 Bag | 1 83 0 0\n5 15 Pair 1 2 | 492 83 0 0\n6 0 [] (-> Int (-> Int Bool)) = (let h primLtInt h) | 36 83 0 0\n7 14 Pair Bool | 260 83 0 0\n8 0 [Eq b] (-> a (-> (Pair b) b)) | 56 90 4 1\n9 12 (Pair t17) (-> Int (-> Int Bool)) | 124 90 4 1\n10 0 - | 22 112 4 1\n11 0 [] (-> a (-> b Bool)) | 41 117 7 1\n12 12 (Pair t24) (-> t25 (-> (-> t18 Bool) (-> t18 Bool))) | 194 117 7 1\n"
unfolding everything metered said
s_5004060_computed = refl

abbrev s_5004136 : List Decl
s_5004136 =
    class "K0" "a" [] (sig "m0" (arrow (v "a") (c "Bool" nil)) ∷ []) []
    ∷ class "K1" "a" ("K0" ∷ []) (sig "m1" (arrow (v "a") (c "Bool" nil)) ∷ []) []
    ∷ class "K2" "a" ("K1" ∷ []) (sig "m2" (arrow (v "a") (c "Bool" nil)) ∷ []) []
    ∷ class "K3" "a" ("K1" ∷ "K2" ∷ []) (sig "m3" (arrow (v "a") (c "Bool" nil)) ∷ []) []
    ∷ class "K4" "a" ("K3" ∷ []) (sig "m4" (arrow (v "a") (c "Bool" nil)) ∷ []) []
    ∷ class "K5" "a" ("K0" ∷ "K4" ∷ []) (sig "m5" (arrow (v "a") (c "Bool" nil)) ∷ []) []
    ∷ define "same" (lam "x" (eapp (eapp (ev "primAndBool") (eapp (ev "m0") (ev "x"))) (eapp (eapp (ev "primAndBool") (eapp (ev "m0") (ev "x"))) (eapp (eapp (ev "primAndBool") (eapp (ev "m0") (ev "x"))) (eapp (eapp (ev "primAndBool") (eapp (ev "m3") (ev "x"))) (eapp (eapp (ev "primAndBool") (eapp (ev "m0") (ev "x"))) (eapp (ev "m5") (ev "x"))))))))
    ∷ check (lam "x" (eapp (eapp (ev "primAndBool") (eapp (ev "m0") (ev "x"))) (eapp (eapp (ev "primAndBool") (eapp (ev "m0") (ev "x"))) (eapp (eapp (ev "primAndBool") (eapp (ev "m5") (ev "x"))) (eapp (eapp (ev "primAndBool") (eapp (ev "m5") (ev "x"))) (eapp (eapp (ev "primAndBool") (eapp (ev "m0") (ev "x"))) (eapp (ev "m5") (ev "x"))))))))
    ∷ check (lam "x" (eapp (eapp (ev "primAndBool") (eapp (ev "m0") (ev "x"))) (eapp (ev "m5") (ev "x"))))
    ∷ check (lam "x" (eapp (eapp (ev "primAndBool") (eapp (ev "m5") (ev "x"))) (eapp (ev "m0") (ev "x"))))
    ∷ instance (at "K4" (v "c") ∷ at "K4" (v "c") ∷ at "K4" (v "c") ∷ at "K4" (v "c") ∷ []) "K0" (c "Pair" ((v "a") ◂ (v "c") ◂ nil)) (body "m0" (lam "z" (ebool false)) ∷ [])
    ∷ instance (at "K4" (v "c") ∷ at "K4" (v "c") ∷ at "K4" (v "c") ∷ at "K4" (v "c") ∷ []) "K1" (c "Pair" ((v "a") ◂ (v "c") ◂ nil)) (body "eq" (eapp (ev "m4") (eapp (ev "m1") (ev "primEqBool"))) ∷ [])
    ∷ instance (at "K4" (v "c") ∷ at "K4" (v "c") ∷ at "K4" (v "c") ∷ at "K4" (v "c") ∷ []) "K1" (c "Pair" ((v "a") ◂ (v "c") ◂ nil)) (body "m1" (lam "x" (eapp (eapp (lam "u" (lam "v" (ev "v"))) (eapp (ev "m0") (ev "x"))) (eapp (eapp (lam "u" (lam "v" (ev "v"))) (eapp (ev "m0") (ev "x"))) (eapp (ev "m0") (ev "x"))))) ∷ [])
    ∷ instance (at "K4" (v "c") ∷ at "K4" (v "c") ∷ at "K4" (v "c") ∷ at "K4" (v "c") ∷ []) "K2" (c "Pair" ((v "a") ◂ (v "c") ◂ nil)) (body "m2" (lam "u" (eapp (ev "m2") (ev "u"))) ∷ [])
    ∷ instance (at "K4" (v "c") ∷ at "K4" (v "c") ∷ at "K4" (v "c") ∷ at "K4" (v "c") ∷ []) "K3" (c "Pair" ((v "a") ◂ (v "c") ◂ nil)) (body "m3" (lam "x" (eapp (ev "m2") (ev "x"))) ∷ [])
    ∷ instance (at "K4" (v "c") ∷ at "K4" (v "c") ∷ at "K4" (v "c") ∷ at "K4" (v "c") ∷ []) "K4" (c "Pair" ((v "a") ◂ (v "c") ◂ nil)) (body "m4" (bind "z" (eapp (eapp (ev "primAddInt") (eint 2)) (eapp (eapp (ev "primMulInt") (eint 0)) (eint 1))) (lam "q" (eapp (ev "m1") (eapp (ev "primAndBool") (eapp (eapp (ev "primAndBool") (ebool false)) (ebool true)))))) ∷ [])
    ∷ instance [] "K2" (c "Pair" ((v "b") ◂ (c "Int" nil) ◂ nil)) (body "m2" (lam "v" (ebool true)) ∷ [])
    ∷ instance [] "K0" (c "Int" nil) (body "m0" (lam "p" (ebool false)) ∷ [])
    ∷ instance [] "K1" (c "Int" nil) (body "m1" (lam "u" (ebool false)) ∷ [])
    ∷ instance [] "K2" (c "Int" nil) (body "m2" (bind "twice" (lam "x" (ev "x")) (lam "x" (eapp (ev "twice") (eapp (ev "twice") (eapp (ev "twice") (bind "z" (lam "x" (eapp (ev "primEqInt") (ev "x"))) (eapp (eapp (ev "primEqBool") (ebool false)) (ebool true)))))))) ∷ [])
    ∷ instance [] "K3" (c "Int" nil) (body "m3" (lam "x" (ebool false)) ∷ [])
    ∷ instance [] "K0" (c "Bool" nil) (body "m0" (ev "primNotBool") ∷ [])
    ∷ instance [] "K1" (c "Bool" nil) (body "m1" (ev "m4") ∷ [])
    ∷ instance [] "K1" (c "Bool" nil) (body "m1" (lam "x" (bind "twice" (lam "q" (ebool true)) (eapp (ev "twice") (eapp (ev "twice") (ebool true))))) ∷ [])
    ∷ instance [] "K2" (c "Bool" nil) (body "m2" (lam "x" (eapp (ev "m1") (ev "x"))) ∷ [])
    ∷ instance [] "K3" (c "Bool" nil) (body "m3" (ev "m1") ∷ [])
    ∷ instance [] "K4" (c "Bool" nil) (body "m4" (lam "y" (ev "y")) ∷ [])
    ∷ instance [] "K5" (c "Bool" nil) (body "m5" (lam "q" (ebool false)) ∷ [])
    ∷ check (bind "u" (ev "primNotBool") (lam "w" (ev "w")))
    ∷ check (lam "v" (ev "v"))
    ∷ check (eapp (ev "m3") (ev "m2"))
    ∷ []

s_5004136_computed : metered 512 65536 512 s_5004136 ≡ said "declarations 31\n0 0 - | 7 40 0 0\n1 0 - | 7 47 0 0\n2 0 - | 7 54 0 0\n3 0 - | 7 61 0 0\n4 0 - | 7 68 0 0\n5 0 - | 7 75 0 0\n6 6 - | 512 75 0 0\n7 6 - | 512 75 0 0\n8 0 [K5 a] (-> a Bool) = (dabs [d1 K5 a] (lam x (app (app primAndBool (app (proj (proj d1 __super_K5__K0) m0) x)) (app (proj d1 m5) x)))) | 129 75 7 2\n9 0 [K5 a] (-> a Bool) = (dabs [d2 K5 a] (lam x (app (app primAndBool (app (proj d2 m5) x)) (app (proj (proj d2 __super_K5__K0) m0) x)))) | 130 75 14 4\n10 0 - | 33 84 15 4\n11 20 eq | 7 84 15 4\n12 0 - | 475 131 30 7\n13 16 K2 (Pair a c) | 80 131 30 7\n14 16 K2 (Pair a c) | 80 131 30 7\n15 16 K1 (-> Bool Bool) | 279 131 30 7\n16 16 K4 Int | 36 131 30 7\n17 0 - | 25 134 31 7\n18 0 - | 31 139 32 7\n19 0 - | 253 162 44 7\n20 0 - | 34 169 45 7\n21 0 - | 25 171 45 7\n22 16 K4 Bool | 23 171 45 7\n23 0 - | 98 183 51 7\n24 0 - | 66 192 54 8\n25 0 - | 47 200 55 9\n26 0 - | 30 205 56 9\n27 0 - | 35 212 57 9\n28 0 [] (-> a a) = (let u primNotBool (lam w w)) | 28 212 58 9\n29 0 [] (-> a a) = (lam v v) | 14 212 59 9\n30 16 K3 (-> t61 Bool) | 33 212 59 9\n"
unfolding everything metered said
s_5004136_computed = refl

abbrev s_5004158 : List Decl
s_5004158 =
    class "Eq" "a" [] (sig "zero" (arrow (v "a") (c "Bool" nil)) ∷ sig "conv" (arrow (v "a") (arrow (v "a") (c "Bool" nil))) ∷ []) []
    ∷ instance [] "Eq" (c "List" ((v "b") ◂ nil)) (body "conv" (lam "p" (bind "k" (lam "z" (ev "z")) (lam "q" (ebool true)))) ∷ [])
    ∷ instance [] "Eq" (c "Bool" nil) (body "conv" (lam "q" (lam "z" (eapp (eapp (ev "primEqInt") (eint 2)) (bind "twice" (lam "x" (lam "y" (ev "x"))) (eint 10932660292858993882))))) ∷ body "zero" (lam "u" (bind "p" (lam "z" (eint 9)) (ebool false))) ∷ [])
    ∷ class "Ord" "_u" ("Eq" ∷ []) (sig "conv" (arrow (v "_u") (c "List" nil)) ∷ sig "shw" (arrow (v "_u") (v "_u")) ∷ []) []
    ∷ instance [] "Eq" (c "List" ((c "Int" nil) ◂ nil)) (body "zero" (eapp (ev "shw") (lam "q" (ebool true))) ∷ body "conv" (lam "w" (lam "y" (eapp (eapp (ev "primLtInt") (eapp (eapp (ev "primAddInt") (eint 1)) (eint 1))) (eint 18446744073709551615)))) ∷ [])
    ∷ instance [] "Ord" (c "List" ((c "Int" nil) ◂ nil)) (body "conv" (lam "y" (eapp (ev "shw") (bind "p" (lam "x" (ev "x")) (eapp (ev "shw") (eapp (ev "shw") (eapp (ev "p") (ev "y"))))))) ∷ body "shw" (lam "v" (ev "v")) ∷ [])
    ∷ instance [] "Eq" (c "List" ((v "b") ◂ nil)) (body "conv" (lam "q" (ev "zero")) ∷ [])
    ∷ define "k" (lam "w" (ev "w"))
    ∷ check (ev "primAddInt")
    ∷ []

s_5004158_computed : metered 512 65536 512 s_5004158 ≡ said "declarations 9\n0 0 - | 18 51 0 0\n1 22 Eq (List b) zero | 61 51 0 0\n2 0 - | 163 68 8 0\n3 0 - | 14 76 8 0\n4 16 Ord (-> (List Int) Bool) | 51 76 8 0\n5 15 List 1 0 | 119 76 8 0\n6 16 Eq (List b) | 47 76 8 0\n7 0 [] (-> a a) | 14 79 9 0\n8 0 [] (-> Int (-> Int Int)) = primAddInt | 18 79 9 0\n"
unfolding everything metered said
s_5004158_computed = refl

abbrev s_5004572 : List Decl
s_5004572 =
    class "Eq" "z" [] (sig "shw" (arrow (v "z") (c "Pair" ((v "z") ◂ nil))) ∷ sig "primAndBool" (arrow (v "z") (c "Pair" ((v "z") ◂ nil))) ∷ []) []
    ∷ instance (at "Eq" (c "Int" nil) ∷ []) "Eq" (c "Int" nil) (body "primAndBool" (lam "x" (eint 9)) ∷ [])
    ∷ instance [] "Eq" (c "List" ((c "Int" nil) ◂ nil)) (body "shw" (lam "v" (ev "v")) ∷ body "primAndBool" (lam "u" (ev "primEqInt")) ∷ [])
    ∷ class "Real" "t1x" [] (sig "add" (arrow (c "Pair" ((v "t1x") ◂ (v "a") ◂ nil)) (v "t1x")) ∷ sig "nil" (arrow (c "Pair" ((v "t1x") ◂ (v "b") ◂ nil)) (v "t1x")) ∷ sig "cons" (arrow (v "b") (c "Bool" nil)) ∷ []) []
    ∷ instance [] "Real" (c "Bool" nil) (body "add" (ev "add") ∷ body "nil" (lam "v" (ebool true)) ∷ body "cons" (bind "v" (lam "x" (ev "x")) (bind "primEqBool" (lam "x" (ev "x")) (lam "x" (ev "x")))) ∷ [])
    ∷ check (bind "g" (ev "primAndBool") (lam "v" (lam "q" (ebool false))))
    ∷ instance [] "Real" (c "Bool" nil) (body "add" (lam "x" (eapp (eapp (lam "u" (lam "v" (ev "v"))) (eapp (ev "shw") (ev "x"))) (eapp (eapp (ev "primEqBool") (eapp (eapp (ev "primEqBool") (ebool false)) (ebool false))) (ebool false)))) ∷ body "nil" (lam "x" (eapp (eapp (lam "u" (lam "v" (ev "v"))) (eapp (ev "cons") (ev "x"))) (eapp (eapp (lam "u" (lam "v" (ev "v"))) (eapp (ev "cons") (ev "x"))) (eapp (eapp (lam "u" (lam "v" (ev "v"))) (eapp (ev "cons") (ev "x"))) (eapp (eapp (ev "primLtInt") (eapp (ev "nil") (eapp (ev "x") (ev "x")))) (eapp (ev "add") (ev "x"))))))) ∷ body "cons" (bind "f" (lam "x" (eapp (ev "primEqInt") (ev "x"))) (lam "x" (eapp (eapp (ev "f") (eint 18446744073709551615)) (eapp (eapp (ev "primAddInt") (eint 2)) (eint 2))))) ∷ [])
    ∷ instance [] "Eq" (c "Bool" nil) (body "shw" (lam "z" (eapp (ev "nil") (eapp (ev "add") (eapp (ev "nil") (eapp (ev "nil") (eapp (ev "nil") (eapp (ebool true) (ev "k")))))))) ∷ body "primAndBool" (eapp (ev "add") (eapp (ev "nil") (eapp (ev "nil") (ev "primEqInt")))) ∷ [])
    ∷ check (eapp (eapp (ev "primEqInt") (eapp (ev "nil") (eapp (ev "add") (eapp (ev "nil") (ev "add"))))) (eint 4))
    ∷ instance [] "Eq" (c "Bool" nil) (body "shw" (lam "z" (eapp (ev "add") (eapp (ev "add") (eapp (ev "add") (lam "q" (ev "primMulInt")))))) ∷ body "primAndBool" (lam "p" (eapp (ev "nil") (bind "x" (eint 9223372036854775808) (ev "x")))) ∷ [])
    ∷ define "same" (eapp (ev "nil") (eapp (ev "add") (eapp (ev "primAndBool") (ev "shw"))))
    ∷ instance (at "Eq" (v "a") ∷ at "Eq" (v "a") ∷ at "Eq" (v "a") ∷ []) "Eq" (c "List" ((c "List" ((v "a") ◂ nil)) ◂ nil)) (body "shw" (ev "primAndBool") ∷ body "primAndBool" (lam "w" (eapp (ev "add") (eapp (ev "nil") (ev "g")))) ∷ [])
    ∷ check (eapp (ev "nil") (eapp (ev "nil") (eapp (ev "add") (eapp (ev "add") (eapp (ev "nil") (eapp (ev "nil") (eapp (ev "add") (lam "q" (ev "q")))))))))
    ∷ []

s_5004572_computed : metered 512 65536 512 s_5004572 ≡ said "declarations 13\n0 0 - | 18 46 0 0\n1 14 Int Pair | 22 46 0 0\n2 14 List Pair | 26 46 0 0\n3 0 - | 29 75 0 0\n4 16 Real Bool | 39 75 0 0\n5 0 [] (-> a (-> b Bool)) = (let g (dabs [d0 Eq a] (proj d0 primAndBool)) (lam v (lam q false))) | 49 75 3 1\n6 16 Eq (Pair Bool a) | 222 75 3 1\n7 11 k | 55 75 3 1\n8 12 (Pair t13 t12) (-> (Pair t15 t14) t15) | 46 75 3 1\n9 12 (Pair t12 t11) (-> t13 (-> Int (-> Int Int))) | 48 75 3 1\n10 15 Pair 2 1 | 53 75 3 1\n11 16 Eq (List (List a)) | 60 75 3 1\n12 12 (Pair t23 t22) (-> t24 t24) | 67 75 3 1\n"
unfolding everything metered said
s_5004572_computed = refl

abbrev s_5004788 : List Decl
s_5004788 =
    class "Eq" "a" [] (sig "eq" (arrow (v "a") (arrow (v "a") (c "Bool" nil))) ∷ []) (body "eq" (eint 1) ∷ [])
    ∷ class "Mk" "a" [] (sig "mk" (arrow (v "a") (arrow (v "b") (c "Pair" ((v "a") ◂ (v "b") ◂ nil)))) ∷ []) (body "mk" (eint 1) ∷ [])
    ∷ instance [] "Mk" (c "Int" nil) []
    ∷ instance [] "Mk" (c "Bool" nil) []
    ∷ instance [] "Mk" (c "Pair" ((v "a") ◂ (v "b") ◂ nil)) []
    ∷ instance (at "Eq" (v "a") ∷ at "Eq" (v "a") ∷ []) "Eq" (c "Pair" ((v "a") ◂ (c "Pair" ((v "a") ◂ (c "Int" nil) ◂ nil)) ◂ nil)) []
    ∷ instance [] "Eq" (c "Int" nil) []
    ∷ instance (at "Eq" (v "a") ∷ at "Eq" (v "a") ∷ []) "Eq" (c "Pair" ((c "Bool" nil) ◂ (v "a") ◂ nil)) []
    ∷ instance [] "Eq" (c "Pair" ((c "Int" nil) ◂ (v "a") ◂ nil)) []
    ∷ instance (at "Eq" (v "a") ∷ at "Eq" (v "a") ∷ at "Eq" (c "List" ((arrow (v "a") (c "Int" nil)) ◂ nil)) ∷ []) "Eq" (arrow (v "a") (c "Int" nil)) []
    ∷ instance [] "Eq" (c "Pair" ((c "Pair" ((v "a") ◂ (c "Int" nil) ◂ nil)) ◂ (v "a") ◂ nil)) []
    ∷ instance [] "Eq" (c "Pair" ((v "a") ◂ (v "a") ◂ nil)) []
    ∷ instance (at "Eq" (v "b") ∷ []) "Eq" (c "Bool" nil) []
    ∷ check (eapp (ev "eq") (eapp (eapp (ev "mk") (eapp (eapp (ev "mk") (eint 3)) (eint 2))) (eint 2)))
    ∷ check (eapp (ev "eq") (eapp (ev "primAddInt") (eint 1)))
    ∷ check (eapp (ev "eq") (eapp (eapp (ev "mk") (ebool true)) (eint 2)))
    ∷ check (eapp (ev "eq") (eapp (eapp (ev "mk") (ebool true)) (ebool true)))
    ∷ define "k" (eapp (ev "eq") (ev "primNotBool"))
    ∷ check (eapp (ev "eq") (eapp (eapp (ev "mk") (ebool true)) (eint 3)))
    ∷ instance [] "Mk" (arrow (v "a") (v "a")) []
    ∷ check (lam "y" (bind "h" (lam "x" (bind "k" (eapp (eapp (lam "p" (lam "q" (ev "p"))) (eapp (eapp (ev "eq") (ev "x")) (ev "x"))) (eapp (eapp (ev "eq") (ev "x")) (ev "x"))) (eapp (eapp (lam "p" (lam "q" (ev "q"))) (ev "k")) (eapp (ev "mk") (ev "x"))))) (eapp (ev "h") (ev "y"))))
    ∷ []

s_5004788_computed : metered 512 65536 512 s_5004788 ≡ said "declarations 21\n0 0 - | 11 44 0 0\n1 0 - | 15 59 0 0\n2 0 - | 4 61 0 0\n3 0 - | 6 63 0 0\n4 0 - | 10 67 0 0\n5 0 - | 10 75 0 0\n6 0 - | 6 77 0 0\n7 0 - | 15 83 0 0\n8 0 - | 17 87 0 0\n9 0 - | 20 97 0 0\n10 0 - | 25 103 0 0\n11 0 - | 31 107 0 0\n12 0 - | 19 110 0 0\n13 0 [] (-> (Pair (Pair Int Int) Int) Bool) = (app (proj (rec Eq (Pair (Pair Int Int) Int)) eq) (app (app (proj (rec Mk (Pair Int Int)) mk) (app (app (proj (rec Mk Int) mk) 3) 2)) 2)) | 314 110 10 3\n14 16 Eq (List (-> Int Int)) | 88 110 10 3\n15 0 [] (-> (Pair Bool Int) Bool) = (app (proj (dapp (rec Eq (Pair Bool Int)) (rec Eq Int) (rec Eq Int)) eq) (app (app (proj (rec Mk Bool) mk) true) 2)) | 161 110 16 5\n16 16 Eq b | 133 110 16 5\n17 16 Eq (-> Bool Bool) | 48 110 16 5\n18 0 [] (-> (Pair Bool Int) Bool) = (app (proj (dapp (rec Eq (Pair Bool Int)) (rec Eq Int) (rec Eq Int)) eq) (app (app (proj (rec Mk Bool) mk) true) 3)) | 161 110 22 7\n19 0 - | 12 114 22 7\n20 6 - | 512 114 22 7\n"
unfolding everything metered said
s_5004788_computed = refl

abbrev s_5004800 : List Decl
s_5004800 =
    class "Num" "a" [] (sig "pair" (arrow (v "a") (arrow (v "c") (c "Pair" ((v "a") ◂ (v "c") ◂ nil)))) ∷ []) []
    ∷ class "Ord" "a" ("Num" ∷ []) (sig "neg" (arrow (v "t") (v "t")) ∷ []) []
    ∷ instance [] "Ord" (c "List" ((v "c") ◂ nil)) (body "neg" (bind "p" (eapp (ev "primEqBool") (eapp (ev "neg") (eapp (eapp (ev "primEqBool") (ebool true)) (ebool true)))) (bind "f" (lam "x" (ev "x")) (bind "comp" (ev "f") (lam "q" (eapp (ev "primAndBool") (ebool true)))))) ∷ [])
    ∷ class "Fun" "a" ("Num" ∷ []) [] []
    ∷ instance [] "Num" (c "Int" nil) (body "pair" (lam "x" (lam "u" (eapp (ev "x") (ev "h")))) ∷ [])
    ∷ instance [] "Fun" (c "Int" nil) []
    ∷ instance [] "Num" (c "Int" nil) (body "pair" (lam "u" (bind "same" (ev "pair") (eapp (ev "neg") (lam "y" (lam "v" (ev "id")))))) ∷ [])
    ∷ instance [] "Fun" (c "Int" nil) []
    ∷ class "Real" "a" ("Num" ∷ []) (sig "zero" (arrow (c "Int" nil) (v "a")) ∷ sig "add" (arrow (v "a") (c "Pair" ((v "a") ◂ nil))) ∷ []) (body "zero" (lam "p" (ev "neg")) ∷ body "add" (lam "x" (eapp (ev "zero") (eint 2))) ∷ [])
    ∷ instance [] "Num" (arrow (v "t") (v "tx")) (body "pair" (eapp (ev "zero") (eint 1)) ∷ [])
    ∷ instance [] "Real" (arrow (v "t") (v "tx")) []
    ∷ instance [] "Num" (c "Int" nil) (body "pair" (lam "x" (lam "y" (eapp (eapp (lam "u" (lam "v" (ev "v"))) (eapp (eapp (ev "pair") (ev "x")) (ev "x"))) (eapp (eapp (lam "u" (lam "v" (ev "v"))) (eapp (ev "neg") (ev "y"))) (eapp (eapp (lam "u" (lam "v" (ev "v"))) (eapp (ev "neg") (ev "y"))) (eapp (ev "neg") (eapp (ev "neg") (bind "q" (ev "y") (lam "y" (ev "pair")))))))))) ∷ [])
    ∷ instance [] "Fun" (c "Int" nil) (body "join" (ebool true) ∷ [])
    ∷ define "id" (eapp (eapp (lam "x" (lam "y" (bind "twice" (eapp (ev "zero") (ev "x")) (bind "id" (eapp (ev "zero") (ev "y")) (bind "same" (eapp (ev "add") (ev "y")) (eapp (ev "zero") (ev "x"))))))) (eapp (ev "zero") (eapp (eapp (ev "primAddInt") (eapp (eapp (ev "primAddInt") (eint 9)) (eint 5))) (eint 9223372036854775808)))) (eint 4))
    ∷ define "comp" (ev "k")
    ∷ check (ev "primEqInt")
    ∷ []

s_5004800_computed : metered 512 65536 512 s_5004800 ≡ said "declarations 16\n0 0 - | 15 48 0 0\n1 0 - | 7 55 0 0\n2 17 Ord t2 | 103 55 0 0\n3 0 - | 0 55 0 0\n4 11 h | 16 55 0 0\n5 16 Num Int | 2 55 0 0\n6 11 id | 45 55 0 0\n7 16 Num Int | 2 55 0 0\n8 0 - | 16 71 0 0\n9 16 Real (-> (-> t tx) (-> c (Pair (-> t tx) c))) | 43 71 0 0\n10 16 Num (-> t tx) | 39 71 0 0\n11 6 - | 512 71 0 0\n12 20 join | 1 71 0 0\n13 16 Real Int | 101 71 0 0\n14 11 k | 1 71 0 0\n15 0 [] (-> Int (-> Int Bool)) = primEqInt | 18 71 0 0\n"
unfolding everything metered said
s_5004800_computed = refl

abbrev s_5004824 : List Decl
s_5004824 =
    class "Fun" "a" [] (sig "fst" (arrow (v "a") (arrow (v "a") (c "Bool" nil))) ∷ sig "cons" (arrow (v "a") (c "Pair" ((v "a") ◂ nil))) ∷ sig "conv" (arrow (v "a") (v "c")) ∷ []) (body "fst" (lam "x" (ev "conv")) ∷ [])
    ∷ instance [] "Fun" (c "List" ((c "Int" nil) ◂ nil)) (body "fst" (lam "x" (lam "p" (bind "w" (ev "x") (ebool false)))) ∷ body "conv" (lam "w" (ev "w")) ∷ [])
    ∷ instance [] "Fun" (c "List" ((c "Int" nil) ◂ nil)) (body "cons" (bind "w" (lam "v" (ev "v")) (lam "u" (eapp (ev "cons") (ev "u")))) ∷ body "conv" (ev "conv") ∷ [])
    ∷ class "Fun" "a" [] (sig "join" (arrow (v "a") (v "a")) ∷ []) []
    ∷ class "Ord" "c" [] (sig "join" (arrow (v "c") (v "c")) ∷ []) (body "join" (lam "p" (ev "fst")) ∷ [])
    ∷ instance [] "Ord" (arrow (c "Int" nil) (v "b")) []
    ∷ check (eapp (ev "conv") (ev "primEqBool"))
    ∷ check (ebool false)
    ∷ check (lam "u" (ev "u"))
    ∷ define "f" (lam "x" (lam "y" (eapp (eapp (lam "u" (lam "v" (ev "v"))) (eapp (ev "join") (ev "x"))) (eapp (eapp (lam "u" (lam "v" (ev "v"))) (eapp (ev "conv") (ev "y"))) (eapp (eapp (lam "u" (lam "v" (ev "v"))) (eapp (ev "conv") (ev "x"))) (eapp (eapp (lam "u" (lam "v" (ev "v"))) (eapp (eapp (ev "fst") (ev "y")) (ev "x"))) (bind "id" (eapp (ev "conv") (ev "y")) (eapp (ev "conv") (ev "y")))))))))
    ∷ class "Eq" "a" ("Fun" ∷ "Ord" ∷ []) (sig "snd" (arrow (c "List" ((v "a") ◂ nil)) (v "a")) ∷ sig "lt" (arrow (v "a") (c "Int" nil)) ∷ []) (body "snd" (bind "g" (ev "snd") (ev "g")) ∷ [])
    ∷ check (lam "u" (ev "snd"))
    ∷ check (ebool true)
    ∷ define "k" (eapp (ev "join") (bind "g" (eapp (ev "snd") (eapp (ev "primEqBool") (ev "comp"))) (eapp (ev "snd") (lam "p" (ev "primAddInt")))))
    ∷ []

s_5004824_computed : metered 512 65536 512 s_5004824 ≡ said "declarations 14\n0 0 - | 27 60 0 0\n1 22 Fun (List Int) cons | 78 60 0 0\n2 16 Fun (List Int) | 76 60 0 0\n3 4 - | 0 60 0 0\n4 0 - | 7 67 0 0\n5 0 - | 18 73 2 1\n6 16 Fun (-> Bool (-> Bool Bool)) | 34 73 2 1\n7 0 [] Bool = false | 5 73 2 1\n8 0 [] (-> a a) = (lam u u) | 14 73 3 1\n9 6 - | 512 73 3 1\n10 0 - | 16 89 3 1\n11 0 [Eq b] (-> a (-> (List b) b)) = (dabs [d1 Eq b] (lam u (proj d1 snd))) | 30 89 5 2\n12 0 [] Bool = true | 5 89 5 2\n13 11 comp | 22 89 5 2\n"
unfolding everything metered said
s_5004824_computed = refl

abbrev s_5004840 : List Decl
s_5004840 =
    class "Bag" "A" [] (sig "zero" (arrow (v "A") (c "Bool" nil)) ∷ []) (body "zero" (lam "y" (ev "y")) ∷ [])
    ∷ check (bind "m" (lam "x0" (lam "x1" (lam "x2" (lam "x3" (lam "x4" (lam "x5" (lam "x6" (lam "x7" (lam "x8" (lam "x9" (lam "x10" (lam "x11" (lam "x12" (lam "x13" (lam "x14" (lam "x15" (lam "x16" (lam "x17" (lam "x18" (lam "x19" (lam "x20" (lam "x21" (lam "x22" (lam "x23" (lam "x24" (eapp (eapp (lam "u" (lam "v" (ev "v"))) (eapp (ev "zero") (ev "x18"))) (eapp (eapp (lam "u" (lam "v" (ev "v"))) (eapp (ev "zero") (ev "x11"))) (eapp (eapp (lam "u" (lam "v" (ev "v"))) (eapp (ev "zero") (ev "x3"))) (ev "x20"))))))))))))))))))))))))))))) (ev "m"))
    ∷ check (lam "y" (bind "m" (lam "x0" (lam "x1" (ev "x0"))) (eapp (ev "m") (ev "y"))))
    ∷ []

s_5004840_computed : metered 512 65536 512 s_5004840 ≡ said "declarations 3\n0 0 - | 7 40 0 0\n1 6 - | 512 40 0 0\n2 0 [] (-> a (-> b a)) = (lam y (let m (lam x0 (lam x1 x0)) (app m y))) | 71 40 6 0\n"
unfolding everything metered said
s_5004840_computed = refl

abbrev s_5004892 : List Decl
s_5004892 =
    class "Real" "a" [] (sig "fst" (c "List" ((c "Pair" ((c "Bool" ((c "Int" nil) ◂ (c "Int" nil) ◂ nil)) ◂ (c "Bool" nil) ◂ nil)) ◂ nil)) ∷ []) []
    ∷ class "Ord" "a" [] (sig "cons" (arrow (v "c") (v "c")) ∷ []) []
    ∷ class "Mon" "e" ("Ord" ∷ []) [] []
    ∷ class "Fun" "a" ("Ord" ∷ []) (sig "nil" (c "List" ((v "a") ◂ nil)) ∷ sig "snd" (v "a") ∷ []) []
    ∷ check (eapp (ev "primNotBool") (ebool true))
    ∷ check (lam "w" (eapp (ev "cons") (lam "q" (ebool false))))
    ∷ check (lam "v" (eapp (lam "fst" (eapp (eapp (eapp (ev "fst") (ev "fst")) (ev "v")) (ev "snd"))) (ebool false)))
    ∷ instance (at "Mon" (v "a") ∷ []) "Ord" (c "List" ((v "a") ◂ nil)) (body "cons" (lam "x" (eapp (eapp (lam "u" (lam "v" (ev "v"))) (ev "snd")) (eapp (eapp (lam "u" (lam "v" (ev "v"))) (ev "nil")) (eapp (eapp (lam "u" (lam "v" (ev "v"))) (ev "nil")) (ev "primLtInt"))))) ∷ [])
    ∷ instance (at "Mon" (v "a") ∷ []) "Mon" (c "List" ((v "a") ◂ nil)) []
    ∷ define "twice" (ebool false)
    ∷ define "id" (bind "v" (eapp (ev "cons") (ev "snd")) (bind "z" (lam "x" (lam "y" (ev "x"))) (lam "q" (ebool true))))
    ∷ []

s_5004892_computed : metered 512 65536 512 s_5004892 ≡ said "declarations 11\n0 0 - | 13 46 0 0\n1 0 - | 7 53 0 0\n2 0 - | 0 53 0 0\n3 0 - | 8 61 0 0\n4 0 [] Bool = (app primNotBool true) | 23 61 1 0\n5 0 [Ord b] (-> a (-> c Bool)) = (dabs [d0 Ord b] (lam w (app (proj d0 cons) (lam q false)))) | 51 61 6 1\n6 20 fst | 8 61 6 1\n7 16 Fun t11 | 344 61 6 1\n8 16 Ord (List a) | 6 61 6 1\n9 0 [] Bool | 5 62 6 1\n10 17 Ord t7 | 32 62 6 1\n"
unfolding everything metered said
s_5004892_computed = refl

abbrev s_5005020 : List Decl
s_5005020 =
    class "Eq" "a" [] (sig "eq" (arrow (v "a") (arrow (v "a") (c "Bool" nil))) ∷ []) []
    ∷ class "Ord" "a" ("Eq" ∷ []) (sig "lt" (arrow (v "a") (arrow (v "a") (c "Bool" nil))) ∷ []) []
    ∷ class "Real" "a" ("Ord" ∷ "Eq" ∷ []) (sig "add" (arrow (v "a") (arrow (v "a") (v "a"))) ∷ []) []
    ∷ class "Bag" "a" [] (sig "nil" (c "List" ((v "a") ◂ nil)) ∷ sig "cons" (arrow (v "a") (arrow (c "List" ((v "a") ◂ nil)) (c "List" ((v "a") ◂ nil)))) ∷ sig "pair" (arrow (v "a") (arrow (v "b") (c "Pair" ((v "a") ◂ (v "b") ◂ nil)))) ∷ sig "odd" (arrow (v "a") (c "List" nil)) ∷ []) (body "nil" (eint 0) ∷ body "cons" (eint 0) ∷ body "pair" (eint 0) ∷ body "odd" (eint 0) ∷ [])
    ∷ instance [] "Bag" (c "Int" nil) []
    ∷ instance [] "Bag" (c "Pair" ((v "a") ◂ (v "b") ◂ nil)) []
    ∷ instance [] "Eq" (c "Int" nil) (body "eq" (ev "primEqInt") ∷ [])
    ∷ instance [] "Ord" (c "Int" nil) (body "lt" (ev "primLtInt") ∷ [])
    ∷ instance [] "Eq" (c "Bool" nil) (body "eq" (ev "primEqBool") ∷ [])
    ∷ instance [] "Ord" (c "Bool" nil) (body "lt" (ev "primAndBool") ∷ [])
    ∷ instance [] "Real" (c "Int" nil) (body "add" (ev "primAddInt") ∷ [])
    ∷ instance (at "Eq" (v "a") ∷ []) "Eq" (c "List" ((v "a") ◂ nil)) (body "eq" (lam "x" (lam "y" (ebool true))) ∷ [])
    ∷ instance (at "Ord" (v "a") ∷ []) "Ord" (c "List" ((v "a") ◂ nil)) (body "lt" (lam "x" (lam "y" (eapp (eapp (ev "eq") (ev "x")) (ev "y")))) ∷ [])
    ∷ instance (at "Eq" (v "a") ∷ at "Eq" (v "b") ∷ []) "Eq" (c "Pair" ((v "a") ◂ (v "b") ◂ nil)) (body "eq" (lam "x" (lam "y" (ebool false))) ∷ [])
    ∷ check (lam "x" (lam "x" (bind "k" (eapp (eapp (lam "p" (lam "q" (ev "p"))) (eapp (eapp (ev "add") (ev "x")) (ev "x"))) (eapp (ev "nil") (ev "x"))) (eapp (eapp (lam "p" (lam "q" (ev "q"))) (ev "k")) (eapp (eapp (ev "lt") (ev "x")) (ev "x"))))))
    ∷ define "g" (eapp (ev "eq") (ev "primLtInt"))
    ∷ define "same" (lam "y" (bind "h" (lam "x" (bind "k" (eapp (eapp (lam "p" (lam "q" (ev "p"))) (eapp (ev "cons") (ev "x"))) (eapp (eapp (ev "pair") (ev "x")) (ev "x"))) (eapp (eapp (lam "p" (lam "q" (ev "q"))) (ev "k")) (eapp (eapp (ev "eq") (ev "x")) (ev "x"))))) (eapp (ev "h") (ev "y"))))
    ∷ define "id" (eapp (eapp (ev "add") (eapp (eapp (ev "lt") (ev "primLtInt")) (lam "v" (lam "z" (ebool false))))) (ebool false))
    ∷ check (eapp (ev "pair") (ev "cons"))
    ∷ class "Show" "a" ("Real" ∷ []) (sig "use1" (arrow (c "Pair" ((v "a") ◂ nil)) (v "a")) ∷ sig "shw" (arrow (v "a") (arrow (v "a") (v "a"))) ∷ []) []
    ∷ check (lam "x" (lam "y" (eapp (lam "u" (eapp (eapp (lam "u" (lam "v" (ev "v"))) (eapp (eapp (ev "lt") (ev "y")) (ev "y"))) (eapp (eapp (ev "lt") (ev "y")) (ev "x")))) (ev "nil"))))
    ∷ []

s_5005020_computed : metered 512 65536 512 s_5005020 ≡ said "declarations 21\n0 0 - | 11 44 0 0\n1 0 - | 11 55 0 0\n2 0 - | 11 66 0 0\n3 0 - | 42 108 0 0\n4 0 - | 13 113 0 0\n5 0 - | 17 120 0 0\n6 0 - | 37 122 0 0\n7 0 - | 42 126 0 0\n8 0 - | 39 128 0 0\n9 0 - | 45 132 0 0\n10 0 - | 47 138 0 0\n11 0 - | 53 144 2 0\n12 0 - | 158 166 7 1\n13 0 - | 62 174 9 1\n14 12 (List t19) (-> t15 t18) | 92 174 9 1\n15 16 Eq (-> Int (-> Int Bool)) | 50 174 9 1\n16 6 - | 512 174 9 1\n17 16 Real Bool | 204 174 9 1\n18 16 Bag (-> t12 (-> (List t12) (List t12))) | 67 174 9 1\n19 0 - | 20 194 9 1\n20 0 [Ord a, Bag b] (-> a (-> a Bool)) = (dabs [d1 Ord a, d3 Bag b] (lam x (lam y (app (lam u (app (app (lam u (lam v v)) (app (app (proj d1 lt) y) y)) (app (app (proj d1 lt) y) x))) (proj d3 nil))))) | 303 194 24 4\n"
unfolding everything metered said
s_5005020_computed = refl
