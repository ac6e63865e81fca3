-- Recorded sessions, computed: text, steps, kept nodes and both counters. (tools/session_test.py)
use mathlib.Core.Path.{◌≡◌, refl}
use mathlib.Core.Bool.{true, false}
use mathlib.Core.List.{List, [], ◌∷◌}
use Rattle.meaning.specs.Ast.{Ty, arrow, Expr, eint, ebool, eapp, Decl, nil, ◌◂◌}
use Rattle.meaning.proofs.Metered.{everything, metered, said}
use Rattle.meaning.proofs.Written.{v, c, ev, lam, bind, class, instance, define, check, at, sig, body}

abbrev s_5006022 : List Decl
s_5006022 =
    class "Fun" "a" [] (sig "snd" (arrow (c "List" nil) (v "a")) ∷ sig "use1" (arrow (v "a") (arrow (v "a") (c "Bool" nil))) ∷ []) (body "use1" (ev "snd") ∷ [])
    ∷ class "Show" "t" [] (sig "neg" (v "t") ∷ []) []
    ∷ class "Bag" "a" ("Fun" ∷ "Show" ∷ []) (sig "add" (arrow (v "a") (v "b")) ∷ []) []
    ∷ instance [] "Fun" (c "Pair" ((v "b") ◂ (c "Int" nil) ◂ nil)) (body "snd" (lam "primAndBool" (ev "neg")) ∷ [])
    ∷ class "Mon" "t" [] (sig "tag" (arrow (v "c") (v "c")) ∷ []) []
    ∷ instance [] "Fun" (c "Pair" ((v "a") ◂ (v "tx") ◂ nil)) (body "snd" (lam "u" (eapp (ev "tag") (ev "neg"))) ∷ body "use1" (eapp (ev "snd") (eapp (ev "add") (ev "tag"))) ∷ [])
    ∷ define "g" (lam "y" (ev "y"))
    ∷ instance (at "Fun" (v "b") ∷ []) "Fun" (c "Pair" ((v "b") ◂ (c "Int" nil) ◂ nil)) (body "snd" (bind "z" (ev "tag") (eapp (ev "z") (lam "v" (bind "comp" (ev "g") (eapp (ev "snd") (ev "v")))))) ∷ [])
    ∷ class "Eq" "a" [] [] []
    ∷ check (lam "x" (lam "y" (eapp (lam "u" (bind "g" (eapp (eapp (ev "use1") (ev "y")) (ev "y")) (eapp (lam "u" (eapp (eapp (lam "u" (lam "v" (ev "v"))) (eapp (eapp (ev "use1") (ev "x")) (ev "x"))) (bind "k" (eapp (ev "tag") (ev "y")) (eapp (ev "use1") (ev "y"))))) (eapp (ev "add") (ev "y"))))) (eapp (ev "snd") (ev "x")))))
    ∷ []

s_5006022_computed : metered 512 65536 512 s_5006022 ≡ said "declarations 10\n0 0 - | 18 51 0 0\n1 0 - | 3 54 0 0\n2 0 - | 7 61 0 0\n3 16 Show (Pair b Int) | 29 61 0 0\n4 0 - | 7 68 0 0\n5 16 Show (Pair a tx) | 51 68 0 0\n6 0 [] (-> a a) | 14 71 1 0\n7 17 Mon t2 | 16 71 1 0\n8 0 - | 0 71 1 0\n9 17 Mon t19 | 193 71 1 0\n"
unfolding everything metered said
s_5006022_computed = refl

abbrev s_5006082 : List Decl
s_5006082 =
    class "K0" "a" [] (sig "m0" (arrow (v "a") (c "Bool" nil)) ∷ []) []
    ∷ class "K1" "a" ("K0" ∷ []) (sig "m1" (arrow (v "a") (c "Bool" nil)) ∷ []) []
    ∷ class "K2" "a" ("K1" ∷ "K0" ∷ []) (sig "m2" (arrow (v "a") (c "Bool" nil)) ∷ []) []
    ∷ class "K3" "a" ("K2" ∷ "K1" ∷ []) (sig "m3" (arrow (v "a") (c "Bool" nil)) ∷ []) []
    ∷ class "K4" "a" ("K3" ∷ []) (sig "m4" (arrow (v "a") (c "Bool" nil)) ∷ []) []
    ∷ check (lam "x" (eapp (eapp (ev "primAndBool") (eapp (ev "m4") (ev "x"))) (eapp (eapp (ev "primAndBool") (eapp (ev "m4") (ev "x"))) (eapp (eapp (ev "primAndBool") (eapp (ev "m0") (ev "x"))) (eapp (eapp (ev "primAndBool") (eapp (ev "m4") (ev "x"))) (eapp (eapp (ev "primAndBool") (eapp (ev "m4") (ev "x"))) (eapp (ev "m0") (ev "x"))))))))
    ∷ check (lam "x" (eapp (eapp (ev "primAndBool") (eapp (ev "m3") (ev "x"))) (eapp (eapp (ev "primAndBool") (eapp (ev "m0") (ev "x"))) (eapp (eapp (ev "primAndBool") (eapp (ev "m1") (ev "x"))) (eapp (eapp (ev "primAndBool") (eapp (ev "m0") (ev "x"))) (eapp (eapp (ev "primAndBool") (eapp (ev "m0") (ev "x"))) (eapp (ev "m4") (ev "x"))))))))
    ∷ define "twice" (lam "x" (eapp (eapp (ev "primAndBool") (eapp (ev "m0") (ev "x"))) (eapp (eapp (ev "primAndBool") (eapp (ev "m0") (ev "x"))) (eapp (eapp (ev "primAndBool") (eapp (ev "m0") (ev "x"))) (eapp (eapp (ev "primAndBool") (eapp (ev "m4") (ev "x"))) (eapp (ev "m0") (ev "x")))))))
    ∷ define "h" (lam "x" (eapp (eapp (ev "primAndBool") (eapp (ev "m4") (ev "x"))) (eapp (eapp (ev "primAndBool") (eapp (ev "m0") (ev "x"))) (eapp (ev "m4") (ev "x")))))
    ∷ instance (at "K3" (v "a") ∷ []) "K0" (c "List" ((v "a") ◂ nil)) (body "m0" (ev "m0") ∷ [])
    ∷ instance (at "K3" (v "a") ∷ []) "K1" (c "List" ((v "a") ◂ nil)) (body "m1" (lam "y" (eapp (ev "m3") (ev "primNotBool"))) ∷ [])
    ∷ instance (at "K3" (v "a") ∷ []) "K3" (c "List" ((v "a") ◂ nil)) (body "m3" (lam "q" (eapp (ev "h") (ev "q"))) ∷ [])
    ∷ instance [] "K1" (c "Bool" nil) (body "m1" (lam "q" (ev "q")) ∷ [])
    ∷ instance (at "K4" (v "a") ∷ []) "K0" (c "List" ((v "a") ◂ nil)) (body "m0" (lam "w" (ebool false)) ∷ [])
    ∷ instance [] "K0" (c "Bool" nil) (body "m0" (bind "w" (lam "x" (eapp (ev "h") (ev "x"))) (ev "w")) ∷ [])
    ∷ instance [] "K1" (c "Bool" nil) (body "m1" (lam "m1" (eapp (eapp (ev "m1") (ev "m1")) (eapp (eint 5) (ev "m1")))) ∷ [])
    ∷ check (lam "x" (lam "y" (lam "z" (eapp (eapp (lam "u" (lam "v" (ev "v"))) (eapp (ev "m1") (ev "y"))) (eapp (eapp (lam "u" (lam "v" (ev "v"))) (eapp (ev "m2") (ev "z"))) (eapp (lam "u" (bind "g" (eapp (ev "m1") (ev "z")) (eapp (ev "m4") (ev "x")))) (eapp (ev "m2") (ev "x"))))))))
    ∷ check (eapp (eapp (lam "x" (eapp (lam "u" (eapp (eapp (lam "u" (lam "v" (ev "v"))) (eapp (ev "m4") (ev "x"))) (eapp (lam "u" (bind "h" (eapp (ev "m0") (ev "x")) (eapp (ev "m4") (ev "x")))) (eapp (ev "m3") (ev "x"))))) (eapp (ev "m1") (ev "x")))) (ebool true)) (ebool true))
    ∷ check (eapp (eapp (eapp (ev "primAddInt") (ebool false)) (eapp (ev "primLtInt") (ev "m4"))) (ev "h"))
    ∷ []

s_5006082_computed : metered 512 65536 512 s_5006082 ≡ said "declarations 19\n0 0 - | 7 40 0 0\n1 0 - | 7 47 0 0\n2 0 - | 7 54 0 0\n3 0 - | 7 61 0 0\n4 0 - | 7 68 0 0\n5 6 - | 512 68 0 0\n6 6 - | 512 68 0 0\n7 0 [K4 a] (-> a Bool) | 429 72 19 5\n8 0 [K4 a] (-> a Bool) | 227 76 30 8\n9 16 K0 (List a) | 34 76 30 8\n10 16 K3 (-> Bool Bool) | 61 76 30 8\n11 16 K4 (List a) | 53 76 30 8\n12 16 K0 Bool | 23 76 30 8\n13 0 - | 27 81 31 8\n14 16 K4 Bool | 69 81 31 8\n15 20 m1 | 9 81 31 8\n16 0 [K1 b, K2 c, K4 a] (-> a (-> b (-> c Bool))) = (dabs [d8 K1 b, d9 K2 c, d11 K4 a] (lam x (lam y (lam z (app (app (lam u (lam v v)) (app (proj d8 m1) y)) (app (app (lam u (lam v v)) (app (proj d9 m2) z)) (app (lam u (let g (app (proj (proj d9 __super_K2__K1) m1) z) (app (proj d11 m4) x))) (app (proj (proj (proj d11 __super_K4__K3) __super_K3__K2) m2) x)))))))) | 462 81 54 13\n17 12 Bool (-> Bool t54) | 327 81 54 13\n18 14 Int Bool | 17 81 54 13\n"
unfolding everything metered said
s_5006082_computed = refl

abbrev s_5006140 : List Decl
s_5006140 =
    class "Real" "a" [] (sig "zero" (arrow (c "List" ((v "a") ◂ nil)) (v "a")) ∷ sig "conv" (arrow (v "a") (c "List" nil)) ∷ sig "fst" (c "Int" nil) ∷ []) (body "conv" (lam "x" (eapp (ev "conv") (eapp (eapp (ev "primAddInt") (ev "x")) (ev "fst")))) ∷ body "fst" (ev "fst") ∷ [])
    ∷ instance (at "Real" (arrow (c "Pair" ((v "a") ◂ (v "a") ◂ nil)) (arrow (c "Pair" nil) (v "a"))) ∷ []) "Real" (arrow (c "Pair" ((v "a") ◂ (v "a") ◂ nil)) (arrow (c "Pair" nil) (v "a"))) (body "zero" (lam "x" (lam "y" (lam "z" (eapp (eapp (lam "u" (lam "v" (ev "v"))) (eapp (ev "conv") (ev "z"))) (eapp (eapp (lam "u" (lam "v" (ev "v"))) (eapp (ev "conv") (ev "z"))) (eapp (eapp (lam "u" (lam "v" (ev "v"))) (ev "fst")) (eapp (eapp (lam "u" (lam "v" (ev "v"))) (ev "fst")) (eapp (eapp (lam "u" (lam "v" (ev "v"))) (ev "fst")) (ev "fst"))))))))) ∷ body "conv" (bind "h" (ev "conv") (ev "conv")) ∷ [])
    ∷ instance [] "Real" (c "Bool" nil) (body "zero" (lam "q" (ebool false)) ∷ body "conv" (lam "x" (eapp (eapp (lam "u" (lam "v" (ev "v"))) (eapp (ev "conv") (ev "x"))) (eapp (eapp (lam "u" (lam "v" (ev "v"))) (eapp (ev "conv") (ev "x"))) (eapp (eapp (lam "u" (lam "v" (ev "v"))) (eapp (ev "zero") (ev "x"))) (eapp (ev "zero") (eapp (ev "zero") (lam "q" (ev "q")))))))) ∷ body "fst" (ev "fst") ∷ [])
    ∷ class "Mon" "a" ("Real" ∷ []) (sig "snd" (arrow (c "Pair" ((v "a") ◂ (v "t") ◂ nil)) (v "a")) ∷ sig "eq" (arrow (v "a") (c "Bool" nil)) ∷ []) []
    ∷ instance [] "Real" (c "Int" nil) (body "zero" (bind "same" (lam "p" (ev "fst")) (lam "x" (eapp (ev "same") (eapp (ev "same") (eapp (ev "same") (eapp (ev "snd") (eapp (ev "snd") (bind "y" (lam "x" (lam "y" (ev "x"))) (eapp (ev "f") (ev "same")))))))))) ∷ [])
    ∷ instance [] "Mon" (c "Int" nil) (body "snd" (lam "v" (eapp (ev "zero") (eapp (ev "v") (ev "primMulInt")))) ∷ body "eq" (lam "y" (eapp (eapp (ev "primAndBool") (ebool false)) (ebool true))) ∷ [])
    ∷ class "Bag" "a" [] (sig "join" (arrow (arrow (v "a") (v "c")) (v "c")) ∷ sig "pair" (arrow (v "a") (arrow (c "List" ((v "a") ◂ nil)) (c "List" ((v "a") ◂ nil)))) ∷ []) (body "join" (bind "id" (ev "primNotBool") (lam "primAddInt" (eapp (ev "id") (ebool true)))) ∷ [])
    ∷ instance [] "Real" (c "List" ((c "Int" nil) ◂ nil)) (body "zero" (ev "zero") ∷ body "fst" (eint 17694934526861510200) ∷ [])
    ∷ instance (at "Mon" (v "z") ∷ []) "Real" (c "List" ((v "t") ◂ nil)) (body "zero" (lam "x" (eapp (eapp (lam "u" (lam "v" (ev "v"))) (eapp (ev "zero") (ev "x"))) (eapp (eapp (lam "u" (lam "v" (ev "v"))) (eapp (ev "conv") (ev "x"))) (eapp (eapp (lam "u" (lam "v" (ev "v"))) (eapp (ev "conv") (ev "x"))) (bind "q" (ev "x") (ev "x")))))) ∷ body "fst" (eapp (ev "join") (eapp (ev "join") (lam "y" (lam "y" (eint 1))))) ∷ body "zero" (lam "x" (eapp (eapp (lam "u" (lam "v" (ev "v"))) (eapp (ev "zero") (ev "x"))) (eapp (eapp (lam "u" (lam "v" (ev "v"))) (eapp (ev "conv") (ev "x"))) (eapp (eapp (lam "u" (lam "v" (ev "v"))) (eapp (ev "conv") (ev "x"))) (bind "q" (ev "x") (ev "x")))))) ∷ [])
    ∷ define "comp" (lam "x" (bind "k" (eapp (eapp (lam "p" (lam "q" (ev "p"))) (eapp (eapp (ev "fst") (ev "x")) (ev "x"))) (eapp (ev "pair") (ev "x"))) (eapp (eapp (lam "p" (lam "q" (ev "q"))) (ev "k")) (eapp (ev "conv") (ev "x")))))
    ∷ check (bind "g" (bind "k" (ev "snd") (eapp (ev "join") (lam "z" (lam "x" (ev "x"))))) (bind "u" (lam "x" (eapp (ev "primLtInt") (ev "x"))) (lam "p" (eapp (ev "g") (eapp (ev "eq") (eapp (ev "u") (eapp (ev "join") (lam "x" (eint 0)))))))))
    ∷ class "Num" "a" ("Mon" ∷ "Bag" ∷ []) (sig "lt" (v "a") ∷ sig "mk" (arrow (v "a") (arrow (v "c") (c "Pair" ((v "a") ◂ (v "c") ◂ nil)))) ∷ sig "shw" (c "Int" nil) ∷ []) (body "shw" (eapp (eapp (ev "primAddInt") (eint 3)) (eint 3)) ∷ [])
    ∷ []

s_5006140_computed : metered 512 65536 512 s_5006140 ≡ said "declarations 12\n0 0 - | 19 52 0 0\n1 6 - | 512 52 0 0\n2 12 (List t23) (-> t24 t24) | 201 52 0 0\n3 0 - | 18 70 0 0\n4 17 Real t1 | 15 70 0 0\n5 12 (-> (-> Int (-> Int Int)) (List t1)) (Pair Int t) | 66 70 0 0\n6 0 - | 26 96 0 0\n7 16 Real (List Int) | 39 96 0 0\n8 13 t (List t) | 332 96 0 0\n9 12 Int (-> t0 t6) | 21 96 0 0\n10 17 Bag t5 | 70 96 0 0\n11 0 - | 21 117 0 0\n"
unfolding everything metered said
s_5006140_computed = refl

abbrev s_5006198 : List Decl
s_5006198 =
    class "Fun" "a" [] [] []
    ∷ class "Eq" "tx" ("Fun" ∷ []) (sig "tag" (arrow (c "Pair" ((v "tx") ◂ nil)) (v "tx")) ∷ sig "nil" (arrow (v "b") (arrow (v "tx") (v "b"))) ∷ []) []
    ∷ instance [] "Fun" (c "Bool" nil) []
    ∷ instance [] "Eq" (c "Bool" nil) (body "tag" (lam "p" (eapp (eapp (ev "primEqInt") (eint 7)) (eint 6))) ∷ body "nil" (lam "x" (lam "y" (eapp (eapp (lam "u" (lam "v" (ev "v"))) (eapp (eapp (ev "nil") (ev "y")) (ev "x"))) (ev "x")))) ∷ [])
    ∷ instance [] "Fun" (c "List" ((v "c") ◂ nil)) []
    ∷ instance [] "Eq" (c "List" ((v "c") ◂ nil)) (body "nil" (lam "u" (ev "nil")) ∷ body "tag" (lam "z" (eint 8)) ∷ [])
    ∷ class "Mon" "a" ("Fun" ∷ []) (sig "join" (arrow (v "a") (arrow (c "List" ((v "a") ◂ nil)) (c "List" ((v "a") ◂ nil)))) ∷ sig "zero" (arrow (c "Pair" ((v "a") ◂ (v "c") ◂ nil)) (v "a")) ∷ []) []
    ∷ define "g" (eapp (ev "zero") (eapp (ev "zero") (bind "h" (eapp (ev "tag") (eapp (eapp (ev "nil") (ev "primAndBool")) (ev "primEqInt"))) (eapp (ev "zero") (bind "q" (lam "x" (eapp (ev "primAndBool") (ev "x"))) (eapp (ev "zero") (eapp (eapp (ev "nil") (eapp (eapp (ev "nil") (ev "primNotBool")) (ev "q"))) (eapp (eapp (ev "q") (ebool false)) (ebool true)))))))))
    ∷ check (ev "tag")
    ∷ define "comp" (eapp (lam "x" (lam "y" (bind "k" (eapp (eapp (ev "nil") (ev "x")) (ev "y")) (eapp (eapp (ev "join") (ev "x")) (ev "x"))))) (eint 9))
    ∷ define "twice" (lam "x" (lam "y" (bind "twice" (eapp (ev "zero") (ev "y")) (eapp (lam "u" (bind "k" (eapp (ev "tag") (ev "y")) (eapp (eapp (lam "u" (lam "v" (ev "v"))) (eapp (eapp (ev "nil") (ev "y")) (ev "y"))) (bind "h" (eapp (ev "tag") (ev "x")) (eapp (ev "join") (ev "y")))))) (eapp (eapp (ev "join") (ev "x")) (ev "y"))))))
    ∷ check (ev "primLtInt")
    ∷ []

s_5006198_computed : metered 512 65536 512 s_5006198 ≡ said "declarations 12\n0 0 - | 0 33 0 0\n1 0 - | 20 53 0 0\n2 0 - | 1 54 0 0\n3 16 Eq b | 235 54 0 0\n4 0 - | 4 56 0 0\n5 16 Eq t2 | 51 56 0 0\n6 0 - | 26 82 0 0\n7 12 (Pair t7) (-> Bool (-> Bool Bool)) | 117 82 0 0\n8 0 [Eq a] (-> (Pair a) a) = (dabs [d0 Eq a] (proj d0 tag)) | 22 82 1 1\n9 13 t4 (List t4) | 118 82 1 1\n10 15 Pair 1 2 | 72 82 1 1\n11 0 [] (-> Int (-> Int Bool)) = primLtInt | 18 82 1 1\n"
unfolding everything metered said
s_5006198_computed = refl

abbrev s_5006234 : List Decl
s_5006234 =
    class "Eq" "A" [] (sig "tag" (c "Int" nil) ∷ sig "conv" (arrow (c "Pair" ((v "A") ◂ (v "a") ◂ nil)) (v "A")) ∷ sig "neg" (arrow (v "A") (arrow (v "A") (v "A"))) ∷ []) (body "tag" (ev "tag") ∷ [])
    ∷ instance [] "Eq" (c "List" ((v "c") ◂ nil)) (body "tag" (bind "v" (ev "neg") (bind "twice" (ev "primNotBool") (eint 6))) ∷ body "conv" (lam "x" (eapp (eapp (lam "u" (lam "v" (ev "v"))) (eapp (ev "conv") (ev "x"))) (eapp (eapp (lam "u" (lam "v" (ev "v"))) (eapp (ev "conv") (ev "x"))) (eapp (eapp (lam "u" (lam "v" (ev "v"))) (eapp (ev "conv") (ev "x"))) (eapp (eapp (lam "u" (lam "v" (ev "v"))) (eapp (eapp (ev "neg") (ev "x")) (ev "x"))) (eapp (eapp (lam "u" (lam "v" (ev "v"))) (eapp (eapp (ev "neg") (ev "x")) (ev "x"))) (eapp (ev "primEqBool") (eint 6)))))))) ∷ body "neg" (lam "u" (lam "y" (ev "y"))) ∷ [])
    ∷ class "Num" "_u" [] (sig "eq" (arrow (v "_u") (arrow (v "_u") (c "Bool" nil))) ∷ sig "cons" (c "Unit" nil) ∷ sig "eq" (arrow (v "_u") (c "List" nil)) ∷ []) []
    ∷ class "Mon" "a" ("Num" ∷ "Eq" ∷ []) (sig "fst" (arrow (v "a") (c "List" nil)) ∷ []) []
    ∷ class "Bag" "a" [] (sig "zero" (arrow (c "List" nil) (v "a")) ∷ sig "add" (arrow (v "a") (arrow (v "a") (v "a"))) ∷ sig "snd" (c "List" ((c "List" ((c "Int" nil) ◂ nil)) ◂ nil)) ∷ []) (body "zero" (lam "v" (ev "cons")) ∷ body "add" (lam "v" (lam "q" (bind "twice" (ev "fst") (ev "zero")))) ∷ [])
    ∷ instance (at "Bag" (v "c") ∷ []) "Bag" (arrow (v "c") (v "b")) (body "zero" (lam "x" (lam "x" (ev "zero"))) ∷ body "snd" (eapp (eapp (ev "add") (eapp (ev "conv") (lam "w" (ev "primAddInt")))) (bind "h" (lam "x" (ev "x")) (ev "snd"))) ∷ [])
    ∷ define "f" (eapp (eapp (ev "neg") (eapp (ev "zero") (eapp (eapp (ev "add") (ev "primNotBool")) (lam "p" (ebool false))))) (eapp (eapp (ev "add") (eapp (eapp (ev "add") (bind "u" (ev "fst") (ev "primMulInt"))) (eapp (ev "conv") (ev "neg")))) (bind "k" (ev "conv") (bind "p" (ev "k") (ev "add")))))
    ∷ define "id" (lam "w" (lam "u" (ebool true)))
    ∷ define "f" (lam "p" (lam "q" (ev "p")))
    ∷ check (lam "p" (lam "w" (ev "p")))
    ∷ []

s_5006234_computed : metered 512 65536 512 s_5006234 ≡ said "declarations 10\n0 0 - | 25 58 0 0\n1 6 - | 512 58 0 0\n2 0 - | 21 73 0 0\n3 0 - | 7 80 0 0\n4 0 - | 25 105 0 0\n5 16 Bag t2 | 49 105 0 0\n6 12 List (-> Bool Bool) | 97 105 0 0\n7 0 [] (-> a (-> b Bool)) | 21 110 2 0\n8 0 [] (-> a (-> b a)) | 22 115 4 0\n9 0 [] (-> a (-> b a)) = (lam p (lam w p)) | 22 115 6 0\n"
unfolding everything metered said
s_5006234_computed = refl

abbrev s_5006300 : List Decl
s_5006300 =
    class "Eq" "a" [] (sig "eq" (arrow (v "a") (arrow (v "a") (c "Bool" nil))) ∷ []) (body "eq" (eint 1) ∷ [])
    ∷ instance (at "Eq" (v "a") ∷ []) "Eq" (v "a") []
    ∷ check (eapp (ev "eq") (eint 1))
    ∷ class "Bag" "a" [] (sig "one" (arrow (v "a") (c "List" ((v "a") ◂ nil))) ∷ []) (body "one" (eint 1) ∷ [])
    ∷ instance [] "Bag" (c "Int" nil) []
    ∷ check (eapp (ev "eq") (eapp (ev "one") (eint 1)))
    ∷ instance (at "Bag" (v "a") ∷ at "Bag" (v "b") ∷ []) "Bag" (c "Pair" ((v "a") ◂ (v "b") ◂ nil)) (body "one" (ev "one") ∷ [])
    ∷ check (ev "primEqInt")
    ∷ check (lam "x" (bind "h" (lam "y" (bind "k" (eapp (eapp (lam "p" (lam "q" (ev "p"))) (eapp (ev "one") (ev "x"))) (eapp (ev "eq") (ev "x"))) (eapp (eapp (lam "p" (lam "q" (ev "q"))) (ev "k")) (eapp (ev "eq") (ev "x"))))) (eapp (ev "h") (ev "x"))))
    ∷ []

s_5006300_computed : metered 512 65536 512 s_5006300 ≡ said "declarations 9\n0 0 - | 11 44 0 0\n1 0 - | 5 47 0 0\n2 6 - | 512 47 0 0\n3 0 - | 9 56 0 0\n4 0 - | 4 58 0 0\n5 6 - | 512 58 0 0\n6 16 Bag (Pair a b) | 57 58 0 0\n7 0 [] (-> Int (-> Int Bool)) = primEqInt | 18 58 0 0\n8 6 - | 512 58 0 0\n"
unfolding everything metered said
s_5006300_computed = refl

abbrev s_5006360 : List Decl
s_5006360 =
    class "K0" "a" [] (sig "m0" (arrow (v "a") (c "Bool" nil)) ∷ []) []
    ∷ class "K1" "a" ("K0" ∷ []) (sig "m1" (arrow (v "a") (c "Bool" nil)) ∷ []) []
    ∷ check (lam "x" (eapp (eapp (ev "primAndBool") (eapp (ev "m1") (ev "x"))) (eapp (eapp (ev "primAndBool") (eapp (ev "m0") (ev "x"))) (eapp (ev "m0") (ev "x")))))
    ∷ define "g" (lam "x" (eapp (eapp (ev "primAndBool") (eapp (ev "m1") (ev "x"))) (eapp (eapp (ev "primAndBool") (eapp (ev "m1") (ev "x"))) (eapp (eapp (ev "primAndBool") (eapp (ev "m1") (ev "x"))) (eapp (eapp (ev "primAndBool") (eapp (ev "m1") (ev "x"))) (eapp (eapp (ev "primAndBool") (eapp (ev "m0") (ev "x"))) (eapp (ev "m0") (ev "x"))))))))
    ∷ define "h" (lam "x" (eapp (eapp (ev "primAndBool") (eapp (ev "m1") (ev "x"))) (eapp (ev "m0") (ev "x"))))
    ∷ define "g" (lam "x" (eapp (eapp (ev "primAndBool") (eapp (ev "m1") (ev "x"))) (eapp (eapp (ev "primAndBool") (eapp (ev "m1") (ev "x"))) (eapp (eapp (ev "primAndBool") (eapp (ev "m0") (ev "x"))) (eapp (eapp (ev "primAndBool") (eapp (ev "m1") (ev "x"))) (eapp (ev "m1") (ev "x")))))))
    ∷ instance (at "K1" (v "c") ∷ []) "K0" (c "List" ((v "c") ◂ nil)) (body "m0" (lam "g" (ebool false)) ∷ [])
    ∷ instance (at "K1" (v "c") ∷ []) "K1" (c "List" ((v "c") ◂ nil)) (body "m1" (lam "x" (eapp (eapp (lam "u" (lam "v" (ev "v"))) (eapp (ev "m0") (ev "x"))) (eapp (eapp (lam "u" (lam "v" (ev "v"))) (eapp (ev "m0") (ev "x"))) (bind "q" (bind "k" (lam "x" (lam "y" (ev "x"))) (ev "k")) (eapp (ev "m0") (ev "x")))))) ∷ [])
    ∷ check (ebool true)
    ∷ check (lam "p" (ebool false))
    ∷ check (lam "x" (lam "y" (lam "z" (eapp (ev "m1") (ev "z")))))
    ∷ []

s_5006360_computed : metered 512 65536 512 s_5006360 ≡ said "declarations 11\n0 0 - | 7 40 0 0\n1 0 - | 7 47 0 0\n2 0 [K1 a] (-> a Bool) = (dabs [d0 K1 a] (lam x (app (app primAndBool (app (proj d0 m1) x)) (app (app primAndBool (app (proj (proj d0 __super_K1__K0) m0) x)) (app (proj d1 m0) x))))) | 221 47 11 3\n3 6 - | 512 47 11 3\n4 0 [K1 a] (-> a Bool) | 130 51 18 5\n5 0 [K1 a] (-> a Bool) | 424 55 37 10\n6 0 - | 27 60 38 10\n7 0 - | 367 101 57 13\n8 0 [] Bool = true | 5 101 57 13\n9 0 [] (-> a Bool) = (lam p false) | 13 101 58 13\n10 0 [K1 c] (-> a (-> b (-> c Bool))) = (dabs [d13 K1 c] (lam x (lam y (lam z (app (proj d13 m1) z))))) | 60 101 63 14\n"
unfolding everything metered said
s_5006360_computed = refl

abbrev s_5006434 : List Decl
s_5006434 =
    class "Big" "a" [] (sig "big" (arrow (v "a") (c "Tree" ((arrow (arrow (arrow (arrow (arrow (c "Int" nil) (c "Int" nil)) (arrow (c "Int" nil) (c "Int" nil))) (arrow (arrow (c "Int" nil) (c "Int" nil)) (arrow (c "Int" nil) (c "Int" nil)))) (arrow (arrow (arrow (c "Int" nil) (c "Int" nil)) (arrow (c "Int" nil) (c "Int" nil))) (arrow (arrow (c "Int" nil) (c "Int" nil)) (arrow (c "Int" nil) (c "Int" nil))))) (arrow (arrow (arrow (arrow (c "Int" nil) (c "Int" nil)) (arrow (c "Int" nil) (c "Int" nil))) (arrow (arrow (c "Int" nil) (c "Int" nil)) (arrow (c "Int" nil) (c "Int" nil)))) (arrow (arrow (arrow (c "Int" nil) (c "Int" nil)) (arrow (c "Int" nil) (c "Int" nil))) (arrow (arrow (c "Int" nil) (c "Int" nil)) (arrow (c "Int" nil) (c "Int" nil)))))) ◂ (arrow (arrow (arrow (arrow (arrow (c "Int" nil) (c "Int" nil)) (arrow (c "Int" nil) (c "Int" nil))) (arrow (arrow (c "Int" nil) (c "Int" nil)) (arrow (c "Int" nil) (c "Int" nil)))) (arrow (arrow (arrow (c "Int" nil) (c "Int" nil)) (arrow (c "Int" nil) (c "Int" nil))) (arrow (arrow (c "Int" nil) (c "Int" nil)) (arrow (c "Int" nil) (c "Int" nil))))) (arrow (arrow (arrow (arrow (c "Int" nil) (c "Int" nil)) (arrow (c "Int" nil) (c "Int" nil))) (arrow (arrow (c "Int" nil) (c "Int" nil)) (arrow (c "Int" nil) (c "Int" nil)))) (arrow (arrow (arrow (c "Int" nil) (c "Int" nil)) (arrow (c "Int" nil) (c "Int" nil))) (arrow (arrow (c "Int" nil) (c "Int" nil)) (arrow (c "Int" nil) (c "Int" nil)))))) ◂ (arrow (arrow (arrow (arrow (arrow (c "Int" nil) (c "Int" nil)) (arrow (c "Int" nil) (c "Int" nil))) (arrow (arrow (c "Int" nil) (c "Int" nil)) (arrow (c "Int" nil) (c "Int" nil)))) (arrow (arrow (arrow (c "Int" nil) (c "Int" nil)) (arrow (c "Int" nil) (c "Int" nil))) (arrow (arrow (c "Int" nil) (c "Int" nil)) (arrow (c "Int" nil) (c "Int" nil))))) (arrow (arrow (arrow (arrow (c "Int" nil) (c "Int" nil)) (arrow (c "Int" nil) (c "Int" nil))) (arrow (arrow (c "Int" nil) (c "Int" nil)) (arrow (c "Int" nil) (c "Int" nil)))) (arrow (arrow (arrow (c "Int" nil) (c "Int" nil)) (arrow (c "Int" nil) (c "Int" nil))) (arrow (arrow (c "Int" nil) (c "Int" nil)) (arrow (c "Int" nil) (c "Int" nil)))))) ◂ nil))) ∷ []) (body "big" (lam "x" (ev "x")) ∷ [])
    ∷ instance (at "Big" (v "a") ∷ []) "Big" (c "Tree" ((arrow (arrow (arrow (arrow (arrow (c "Int" nil) (c "Int" nil)) (arrow (c "Int" nil) (c "Int" nil))) (arrow (arrow (c "Int" nil) (c "Int" nil)) (arrow (c "Int" nil) (c "Int" nil)))) (arrow (arrow (arrow (c "Int" nil) (c "Int" nil)) (arrow (c "Int" nil) (c "Int" nil))) (arrow (arrow (c "Int" nil) (c "Int" nil)) (arrow (c "Int" nil) (c "Int" nil))))) (arrow (arrow (arrow (arrow (c "Int" nil) (c "Int" nil)) (arrow (c "Int" nil) (c "Int" nil))) (arrow (arrow (c "Int" nil) (c "Int" nil)) (arrow (c "Int" nil) (c "Int" nil)))) (arrow (arrow (arrow (c "Int" nil) (c "Int" nil)) (arrow (c "Int" nil) (c "Int" nil))) (arrow (arrow (c "Int" nil) (c "Int" nil)) (arrow (c "Int" nil) (c "Int" nil)))))) ◂ (arrow (arrow (arrow (arrow (arrow (c "Int" nil) (c "Int" nil)) (arrow (c "Int" nil) (c "Int" nil))) (arrow (arrow (c "Int" nil) (c "Int" nil)) (arrow (c "Int" nil) (c "Int" nil)))) (arrow (arrow (arrow (c "Int" nil) (c "Int" nil)) (arrow (c "Int" nil) (c "Int" nil))) (arrow (arrow (c "Int" nil) (c "Int" nil)) (arrow (c "Int" nil) (c "Int" nil))))) (arrow (arrow (arrow (arrow (c "Int" nil) (c "Int" nil)) (arrow (c "Int" nil) (c "Int" nil))) (arrow (arrow (c "Int" nil) (c "Int" nil)) (arrow (c "Int" nil) (c "Int" nil)))) (arrow (arrow (arrow (c "Int" nil) (c "Int" nil)) (arrow (c "Int" nil) (c "Int" nil))) (arrow (arrow (c "Int" nil) (c "Int" nil)) (arrow (c "Int" nil) (c "Int" nil)))))) ◂ (arrow (arrow (arrow (arrow (arrow (c "Int" nil) (c "Int" nil)) (arrow (c "Int" nil) (c "Int" nil))) (arrow (arrow (c "Int" nil) (c "Int" nil)) (arrow (c "Int" nil) (c "Int" nil)))) (arrow (arrow (arrow (c "Int" nil) (c "Int" nil)) (arrow (c "Int" nil) (c "Int" nil))) (arrow (arrow (c "Int" nil) (c "Int" nil)) (arrow (c "Int" nil) (c "Int" nil))))) (arrow (arrow (arrow (arrow (c "Int" nil) (c "Int" nil)) (arrow (c "Int" nil) (c "Int" nil))) (arrow (arrow (c "Int" nil) (c "Int" nil)) (arrow (c "Int" nil) (c "Int" nil)))) (arrow (arrow (arrow (c "Int" nil) (c "Int" nil)) (arrow (c "Int" nil) (c "Int" nil))) (arrow (arrow (c "Int" nil) (c "Int" nil)) (arrow (c "Int" nil) (c "Int" nil)))))) ◂ nil)) []
    ∷ instance [] "Big" (c "Int" nil) []
    ∷ check (eapp (ev "big") (eint 1))
    ∷ check (eapp (ev "big") (eapp (ev "big") (eint 1)))
    ∷ check (lam "x" (eapp (ev "big") (ev "x")))
    ∷ check (bind "f" (lam "x" (lam "s" (eapp (eapp (ev "s") (ev "x")) (ev "x")))) (eapp (ev "f") (eapp (ev "f") (eapp (ev "f") (eapp (ev "f") (eapp (ev "f") (eint 1)))))))
    ∷ []

s_5006434_computed : metered 512 65536 512 s_5006434 ≡ said "declarations 7\n0 0 - | 385 418 0 0\n1 0 - | 199 611 1 0\n2 5 - | 0 611 1 0\n3 5 - | 0 611 1 0\n4 5 - | 0 611 1 0\n5 5 - | 0 611 1 0\n6 5 - | 0 611 1 0\n"
unfolding everything metered said
s_5006434_computed = refl

abbrev s_5006462 : List Decl
s_5006462 =
    class "Big" "a" [] (sig "big" (arrow (v "a") (c "Pair" ((c "Pair" ((arrow (c "Pair" ((c "Tree" ((c "Tree" ((v "a") ◂ (v "a") ◂ (v "a") ◂ nil)) ◂ (c "Tree" ((v "a") ◂ (v "a") ◂ (v "a") ◂ nil)) ◂ (c "Tree" ((v "a") ◂ (v "a") ◂ (v "a") ◂ nil)) ◂ nil)) ◂ (c "Tree" ((c "Tree" ((v "a") ◂ (v "a") ◂ (v "a") ◂ nil)) ◂ (c "Tree" ((v "a") ◂ (v "a") ◂ (v "a") ◂ nil)) ◂ (c "Tree" ((v "a") ◂ (v "a") ◂ (v "a") ◂ nil)) ◂ nil)) ◂ nil)) (c "Pair" ((c "Tree" ((c "Tree" ((v "a") ◂ (v "a") ◂ (v "a") ◂ nil)) ◂ (c "Tree" ((v "a") ◂ (v "a") ◂ (v "a") ◂ nil)) ◂ (c "Tree" ((v "a") ◂ (v "a") ◂ (v "a") ◂ nil)) ◂ nil)) ◂ (c "Tree" ((c "Tree" ((v "a") ◂ (v "a") ◂ (v "a") ◂ nil)) ◂ (c "Tree" ((v "a") ◂ (v "a") ◂ (v "a") ◂ nil)) ◂ (c "Tree" ((v "a") ◂ (v "a") ◂ (v "a") ◂ nil)) ◂ nil)) ◂ nil))) ◂ (arrow (c "Pair" ((c "Tree" ((c "Tree" ((v "a") ◂ (v "a") ◂ (v "a") ◂ nil)) ◂ (c "Tree" ((v "a") ◂ (v "a") ◂ (v "a") ◂ nil)) ◂ (c "Tree" ((v "a") ◂ (v "a") ◂ (v "a") ◂ nil)) ◂ nil)) ◂ (c "Tree" ((c "Tree" ((v "a") ◂ (v "a") ◂ (v "a") ◂ nil)) ◂ (c "Tree" ((v "a") ◂ (v "a") ◂ (v "a") ◂ nil)) ◂ (c "Tree" ((v "a") ◂ (v "a") ◂ (v "a") ◂ nil)) ◂ nil)) ◂ nil)) (c "Pair" ((c "Tree" ((c "Tree" ((v "a") ◂ (v "a") ◂ (v "a") ◂ nil)) ◂ (c "Tree" ((v "a") ◂ (v "a") ◂ (v "a") ◂ nil)) ◂ (c "Tree" ((v "a") ◂ (v "a") ◂ (v "a") ◂ nil)) ◂ nil)) ◂ (c "Tree" ((c "Tree" ((v "a") ◂ (v "a") ◂ (v "a") ◂ nil)) ◂ (c "Tree" ((v "a") ◂ (v "a") ◂ (v "a") ◂ nil)) ◂ (c "Tree" ((v "a") ◂ (v "a") ◂ (v "a") ◂ nil)) ◂ nil)) ◂ nil))) ◂ nil)) ◂ (c "Pair" ((arrow (c "Pair" ((c "Tree" ((c "Tree" ((v "a") ◂ (v "a") ◂ (v "a") ◂ nil)) ◂ (c "Tree" ((v "a") ◂ (v "a") ◂ (v "a") ◂ nil)) ◂ (c "Tree" ((v "a") ◂ (v "a") ◂ (v "a") ◂ nil)) ◂ nil)) ◂ (c "Tree" ((c "Tree" ((v "a") ◂ (v "a") ◂ (v "a") ◂ nil)) ◂ (c "Tree" ((v "a") ◂ (v "a") ◂ (v "a") ◂ nil)) ◂ (c "Tree" ((v "a") ◂ (v "a") ◂ (v "a") ◂ nil)) ◂ nil)) ◂ nil)) (c "Pair" ((c "Tree" ((c "Tree" ((v "a") ◂ (v "a") ◂ (v "a") ◂ nil)) ◂ (c "Tree" ((v "a") ◂ (v "a") ◂ (v "a") ◂ nil)) ◂ (c "Tree" ((v "a") ◂ (v "a") ◂ (v "a") ◂ nil)) ◂ nil)) ◂ (c "Tree" ((c "Tree" ((v "a") ◂ (v "a") ◂ (v "a") ◂ nil)) ◂ (c "Tree" ((v "a") ◂ (v "a") ◂ (v "a") ◂ nil)) ◂ (c "Tree" ((v "a") ◂ (v "a") ◂ (v "a") ◂ nil)) ◂ nil)) ◂ nil))) ◂ (arrow (c "Pair" ((c "Tree" ((c "Tree" ((v "a") ◂ (v "a") ◂ (v "a") ◂ nil)) ◂ (c "Tree" ((v "a") ◂ (v "a") ◂ (v "a") ◂ nil)) ◂ (c "Tree" ((v "a") ◂ (v "a") ◂ (v "a") ◂ nil)) ◂ nil)) ◂ (c "Tree" ((c "Tree" ((v "a") ◂ (v "a") ◂ (v "a") ◂ nil)) ◂ (c "Tree" ((v "a") ◂ (v "a") ◂ (v "a") ◂ nil)) ◂ (c "Tree" ((v "a") ◂ (v "a") ◂ (v "a") ◂ nil)) ◂ nil)) ◂ nil)) (c "Pair" ((c "Tree" ((c "Tree" ((v "a") ◂ (v "a") ◂ (v "a") ◂ nil)) ◂ (c "Tree" ((v "a") ◂ (v "a") ◂ (v "a") ◂ nil)) ◂ (c "Tree" ((v "a") ◂ (v "a") ◂ (v "a") ◂ nil)) ◂ nil)) ◂ (c "Tree" ((c "Tree" ((v "a") ◂ (v "a") ◂ (v "a") ◂ nil)) ◂ (c "Tree" ((v "a") ◂ (v "a") ◂ (v "a") ◂ nil)) ◂ (c "Tree" ((v "a") ◂ (v "a") ◂ (v "a") ◂ nil)) ◂ nil)) ◂ nil))) ◂ nil)) ◂ nil))) ∷ []) (body "big" (lam "x" (ev "x")) ∷ [])
    ∷ instance (at "Big" (v "a") ∷ []) "Big" (c "Pair" ((c "Pair" ((arrow (c "Pair" ((c "Tree" ((c "Tree" ((v "a") ◂ (v "a") ◂ (v "a") ◂ nil)) ◂ (c "Tree" ((v "a") ◂ (v "a") ◂ (v "a") ◂ nil)) ◂ (c "Tree" ((v "a") ◂ (v "a") ◂ (v "a") ◂ nil)) ◂ nil)) ◂ (c "Tree" ((c "Tree" ((v "a") ◂ (v "a") ◂ (v "a") ◂ nil)) ◂ (c "Tree" ((v "a") ◂ (v "a") ◂ (v "a") ◂ nil)) ◂ (c "Tree" ((v "a") ◂ (v "a") ◂ (v "a") ◂ nil)) ◂ nil)) ◂ nil)) (c "Pair" ((c "Tree" ((c "Tree" ((v "a") ◂ (v "a") ◂ (v "a") ◂ nil)) ◂ (c "Tree" ((v "a") ◂ (v "a") ◂ (v "a") ◂ nil)) ◂ (c "Tree" ((v "a") ◂ (v "a") ◂ (v "a") ◂ nil)) ◂ nil)) ◂ (c "Tree" ((c "Tree" ((v "a") ◂ (v "a") ◂ (v "a") ◂ nil)) ◂ (c "Tree" ((v "a") ◂ (v "a") ◂ (v "a") ◂ nil)) ◂ (c "Tree" ((v "a") ◂ (v "a") ◂ (v "a") ◂ nil)) ◂ nil)) ◂ nil))) ◂ (arrow (c "Pair" ((c "Tree" ((c "Tree" ((v "a") ◂ (v "a") ◂ (v "a") ◂ nil)) ◂ (c "Tree" ((v "a") ◂ (v "a") ◂ (v "a") ◂ nil)) ◂ (c "Tree" ((v "a") ◂ (v "a") ◂ (v "a") ◂ nil)) ◂ nil)) ◂ (c "Tree" ((c "Tree" ((v "a") ◂ (v "a") ◂ (v "a") ◂ nil)) ◂ (c "Tree" ((v "a") ◂ (v "a") ◂ (v "a") ◂ nil)) ◂ (c "Tree" ((v "a") ◂ (v "a") ◂ (v "a") ◂ nil)) ◂ nil)) ◂ nil)) (c "Pair" ((c "Tree" ((c "Tree" ((v "a") ◂ (v "a") ◂ (v "a") ◂ nil)) ◂ (c "Tree" ((v "a") ◂ (v "a") ◂ (v "a") ◂ nil)) ◂ (c "Tree" ((v "a") ◂ (v "a") ◂ (v "a") ◂ nil)) ◂ nil)) ◂ (c "Tree" ((c "Tree" ((v "a") ◂ (v "a") ◂ (v "a") ◂ nil)) ◂ (c "Tree" ((v "a") ◂ (v "a") ◂ (v "a") ◂ nil)) ◂ (c "Tree" ((v "a") ◂ (v "a") ◂ (v "a") ◂ nil)) ◂ nil)) ◂ nil))) ◂ nil)) ◂ (c "Pair" ((arrow (c "Pair" ((c "Tree" ((c "Tree" ((v "a") ◂ (v "a") ◂ (v "a") ◂ nil)) ◂ (c "Tree" ((v "a") ◂ (v "a") ◂ (v "a") ◂ nil)) ◂ (c "Tree" ((v "a") ◂ (v "a") ◂ (v "a") ◂ nil)) ◂ nil)) ◂ (c "Tree" ((c "Tree" ((v "a") ◂ (v "a") ◂ (v "a") ◂ nil)) ◂ (c "Tree" ((v "a") ◂ (v "a") ◂ (v "a") ◂ nil)) ◂ (c "Tree" ((v "a") ◂ (v "a") ◂ (v "a") ◂ nil)) ◂ nil)) ◂ nil)) (c "Pair" ((c "Tree" ((c "Tree" ((v "a") ◂ (v "a") ◂ (v "a") ◂ nil)) ◂ (c "Tree" ((v "a") ◂ (v "a") ◂ (v "a") ◂ nil)) ◂ (c "Tree" ((v "a") ◂ (v "a") ◂ (v "a") ◂ nil)) ◂ nil)) ◂ (c "Tree" ((c "Tree" ((v "a") ◂ (v "a") ◂ (v "a") ◂ nil)) ◂ (c "Tree" ((v "a") ◂ (v "a") ◂ (v "a") ◂ nil)) ◂ (c "Tree" ((v "a") ◂ (v "a") ◂ (v "a") ◂ nil)) ◂ nil)) ◂ nil))) ◂ (arrow (c "Pair" ((c "Tree" ((c "Tree" ((v "a") ◂ (v "a") ◂ (v "a") ◂ nil)) ◂ (c "Tree" ((v "a") ◂ (v "a") ◂ (v "a") ◂ nil)) ◂ (c "Tree" ((v "a") ◂ (v "a") ◂ (v "a") ◂ nil)) ◂ nil)) ◂ (c "Tree" ((c "Tree" ((v "a") ◂ (v "a") ◂ (v "a") ◂ nil)) ◂ (c "Tree" ((v "a") ◂ (v "a") ◂ (v "a") ◂ nil)) ◂ (c "Tree" ((v "a") ◂ (v "a") ◂ (v "a") ◂ nil)) ◂ nil)) ◂ nil)) (c "Pair" ((c "Tree" ((c "Tree" ((v "a") ◂ (v "a") ◂ (v "a") ◂ nil)) ◂ (c "Tree" ((v "a") ◂ (v "a") ◂ (v "a") ◂ nil)) ◂ (c "Tree" ((v "a") ◂ (v "a") ◂ (v "a") ◂ nil)) ◂ nil)) ◂ (c "Tree" ((c "Tree" ((v "a") ◂ (v "a") ◂ (v "a") ◂ nil)) ◂ (c "Tree" ((v "a") ◂ (v "a") ◂ (v "a") ◂ nil)) ◂ (c "Tree" ((v "a") ◂ (v "a") ◂ (v "a") ◂ nil)) ◂ nil)) ◂ nil))) ◂ nil)) ◂ nil)) []
    ∷ instance [] "Big" (c "Int" nil) []
    ∷ check (eapp (ev "big") (eint 1))
    ∷ check (eapp (ev "big") (eapp (ev "big") (eint 1)))
    ∷ check (lam "x" (eapp (ev "big") (ev "x")))
    ∷ check (bind "f" (lam "x" (lam "s" (eapp (eapp (ev "s") (ev "x")) (ev "x")))) (eapp (ev "f") (eapp (ev "f") (eint 1))))
    ∷ []

s_5006462_computed : metered 512 65536 512 s_5006462 ≡ said "declarations 7\n0 0 - | 451 484 0 0\n1 0 - | 232 710 1 0\n2 5 - | 0 710 1 0\n3 5 - | 0 710 1 0\n4 5 - | 0 710 1 0\n5 5 - | 0 710 1 0\n6 5 - | 0 710 1 0\n"
unfolding everything metered said
s_5006462_computed = refl

abbrev s_5006568 : List Decl
s_5006568 =
    check (eapp (lam "x" (ev "x")) (eapp (lam "x" (ev "x")) (eapp (lam "x" (ev "x")) (eapp (lam "x" (ev "x")) (eapp (lam "x" (ev "x")) (eapp (lam "x" (ev "x")) (eapp (lam "x" (ev "x")) (eapp (lam "x" (ev "x")) (eapp (lam "x" (ev "x")) (eapp (lam "x" (ev "x")) (eapp (lam "x" (ev "x")) (eapp (lam "x" (ev "x")) (eapp (lam "x" (ev "x")) (eapp (lam "x" (ev "x")) (eapp (lam "x" (ev "x")) (eapp (lam "x" (ev "x")) (eapp (lam "x" (ev "x")) (eapp (lam "x" (ev "x")) (eapp (lam "x" (ev "x")) (eapp (lam "x" (ev "x")) (eapp (lam "x" (ev "x")) (eapp (lam "x" (ev "x")) (eapp (lam "x" (ev "x")) (eapp (lam "x" (ev "x")) (eapp (lam "x" (ev "x")) (eapp (lam "x" (ev "x")) (eapp (lam "x" (ev "x")) (eapp (lam "x" (ev "x")) (eapp (lam "x" (ev "x")) (eapp (lam "x" (ev "x")) (eapp (lam "x" (ev "x")) (eapp (lam "x" (ev "x")) (eapp (lam "x" (ev "x")) (eapp (lam "x" (ev "x")) (eapp (lam "x" (ev "x")) (eapp (lam "x" (ev "x")) (eapp (lam "x" (ev "x")) (eapp (lam "x" (ev "x")) (eapp (lam "x" (ev "x")) (eapp (lam "x" (ev "x")) (eapp (lam "x" (ev "x")) (eapp (lam "x" (ev "x")) (eapp (lam "x" (ev "x")) (eapp (lam "x" (ev "x")) (eapp (lam "x" (ev "x")) (eapp (lam "x" (ev "x")) (eapp (lam "x" (ev "x")) (eapp (lam "x" (ev "x")) (eapp (lam "x" (ev "x")) (eapp (lam "x" (ev "x")) (eapp (lam "x" (ev "x")) (eapp (lam "x" (ev "x")) (eapp (lam "x" (ev "x")) (eapp (lam "x" (ev "x")) (eapp (lam "x" (ev "x")) (eapp (lam "x" (ev "x")) (eapp (lam "x" (ev "x")) (eapp (lam "x" (ev "x")) (eapp (lam "x" (ev "x")) (eapp (lam "x" (ev "x")) (eapp (lam "x" (ev "x")) (eapp (lam "x" (ev "x")) (eapp (lam "x" (ev "x")) (eapp (lam "x" (ev "x")) (eapp (lam "x" (ev "x")) (eapp (lam "x" (ev "x")) (eapp (lam "x" (ev "x")) (eapp (lam "x" (ev "x")) (eapp (lam "x" (ev "x")) (eapp (lam "x" (ev "x")) (eapp (lam "x" (ev "x")) (eapp (lam "x" (ev "x")) (eapp (lam "x" (ev "x")) (eapp (lam "x" (ev "x")) (eapp (lam "x" (ev "x")) (eapp (lam "x" (ev "x")) (eapp (lam "x" (ev "x")) (eapp (lam "x" (ev "x")) (eapp (lam "x" (ev "x")) (eapp (lam "x" (ev "x")) (eapp (lam "x" (ev "x")) (eapp (lam "x" (ev "x")) (eapp (lam "x" (ev "x")) (eapp (lam "x" (ev "x")) (eapp (lam "x" (ev "x")) (eapp (lam "x" (ev "x")) (eapp (lam "x" (ev "x")) (eapp (lam "x" (ev "x")) (eapp (lam "x" (ev "x")) (eapp (lam "x" (ev "x")) (eapp (lam "x" (ev "x")) (eapp (lam "x" (ev "x")) (eapp (lam "x" (ev "x")) (eapp (lam "x" (ev "x")) (eapp (lam "x" (ev "x")) (eapp (lam "x" (ev "x")) (eapp (lam "x" (ev "x")) (eapp (lam "x" (ev "x")) (eapp (lam "x" (ev "x")) (eapp (lam "x" (ev "x")) (eapp (lam "x" (ev "x")) (eapp (lam "x" (ev "x")) (eapp (lam "x" (ev "x")) (eapp (lam "x" (ev "x")) (eapp (lam "x" (ev "x")) (eapp (lam "x" (ev "x")) (eapp (lam "x" (ev "x")) (eapp (lam "x" (ev "x")) (eapp (lam "x" (ev "x")) (eapp (lam "x" (ev "x")) (eapp (lam "x" (ev "x")) (eapp (lam "x" (ev "x")) (eapp (lam "x" (ev "x")) (eapp (lam "x" (ev "x")) (eapp (lam "x" (ev "x")) (eapp (lam "x" (ev "x")) (eapp (lam "x" (ev "x")) (eapp (lam "x" (ev "x")) (eapp (lam "x" (ev "x")) (eapp (lam "x" (ev "x")) (eapp (lam "x" (ev "x")) (eapp (lam "x" (ev "x")) (eapp (lam "x" (ev "x")) (eapp (lam "x" (ev "x")) (eapp (lam "x" (ev "x")) (eapp (lam "x" (ev "x")) (eapp (lam "x" (ev "x")) (eapp (lam "x" (ev "x")) (eapp (lam "x" (ev "x")) (eapp (lam "x" (ev "x")) (eapp (lam "x" (ev "x")) (eapp (lam "x" (ev "x")) (eapp (lam "x" (ev "x")) (eapp (lam "x" (ev "x")) (eapp (lam "x" (ev "x")) (eapp (lam "x" (ev "x")) (eapp (lam "x" (ev "x")) (eapp (lam "x" (ev "x")) (eapp (lam "x" (ev "x")) (eint 7))))))))))))))))))))))))))))))))))))))))))))))))))))))))))))))))))))))))))))))))))))))))))))))))))))))))))))))))))))))))))))))))))))))))))))
    ∷ []

s_5006568_computed : metered 512 65536 512 s_5006568 ≡ said "declarations 1\n0 6 - | 512 33 0 0\n"
unfolding everything metered said
s_5006568_computed = refl

abbrev s_5006592 : List Decl
s_5006592 =
    class "Show" "a" [] (sig "lt" (c "Pair" ((arrow (c "List" ((c "Bool" nil) ◂ nil)) (c "Bool" nil)) ◂ (c "Int" nil) ◂ nil)) ∷ sig "primMulInt" (arrow (v "a") (v "a")) ∷ sig "tag" (arrow (v "a") (arrow (v "a") (c "Bool" nil))) ∷ []) []
    ∷ instance (at "Show" (v "c") ∷ at "Show" (v "c") ∷ []) "Show" (c "List" ((v "c") ◂ nil)) (body "tag" (lam "x" (lam "w" (bind "same" (ev "lt") (eapp (eapp (ev "tag") (ev "same")) (ev "same"))))) ∷ body "primMulInt" (lam "y" (ev "y")) ∷ body "lt" (eapp (ev "primMulInt") (eapp (ev "primMulInt") (bind "v" (lam "x" (lam "y" (ev "x"))) (eapp (eapp (ev "v") (eapp (eapp (ev "v") (eapp (ev "lt") (ev "v"))) (ev "v"))) (eapp (eapp (ev "v") (ev "v")) (ev "v")))))) ∷ [])
    ∷ instance [] "Show" (c "List" ((v "a") ◂ nil)) (body "lt" (bind "z" (ev "primMulInt") (ev "lt")) ∷ body "primMulInt" (lam "u" (bind "z" (lam "x" (lam "y" (ev "x"))) (ev "u"))) ∷ body "tag" (lam "u" (lam "z" (ebool false))) ∷ [])
    ∷ class "Ord" "a" [] (sig "primAddInt" (arrow (v "a") (arrow (c "List" ((v "a") ◂ nil)) (c "List" ((v "a") ◂ nil)))) ∷ sig "cons" (arrow (c "List" ((c "Pair" ((c "Int" nil) ◂ (v "a") ◂ nil)) ◂ nil)) (c "Pair" ((c "Pair" ((c "Unit" nil) ◂ (c "Bool" nil) ◂ nil)) ◂ (c "Pair" ((c "Int" nil) ◂ (c "Bool" nil) ◂ nil)) ◂ nil))) ∷ []) []
    ∷ instance [] "Ord" (c "Int" nil) []
    ∷ instance (at "Show" (v "t") ∷ at "Show" (v "t") ∷ at "Ord" (v "t") ∷ at "Show" (v "t") ∷ []) "Show" (arrow (c "List" ((c "Pair" ((c "Bool" nil) ◂ (c "Int" nil) ◂ nil)) ◂ nil)) (v "t")) (body "tag" (lam "x" (lam "x" (eapp (ev "x") (eapp (ev "primMulInt") (eapp (eint 18446744073709551615) (ev "x")))))) ∷ body "primMulInt" (lam "z" (lam "z" (ev "z"))) ∷ body "lt" (bind "h" (lam "x" (ev "x")) (eapp (ev "h") (eapp (ev "h") (ev "lt")))) ∷ [])
    ∷ define "k" (lam "q" (ev "q"))
    ∷ define "id" (lam "x" (bind "k" (eapp (eapp (lam "p" (lam "q" (ev "p"))) (eapp (eapp (ev "tag") (ev "x")) (ev "x"))) (eapp (eapp (ev "cons") (ev "x")) (ev "x"))) (eapp (eapp (lam "p" (lam "q" (ev "q"))) (ev "k")) (eapp (eapp (ev "primAddInt") (ev "x")) (ev "x")))))
    ∷ check (lam "v" (lam "u" (ev "u")))
    ∷ define "k" (eapp (eapp (ev "primAddInt") (eint 4)) (ev "primLtInt"))
    ∷ define "twice" (eapp (ev "primMulInt") (eapp (eapp (ev "primEqBool") (ebool true)) (ebool true)))
    ∷ define "id" (eapp (ev "primMulInt") (ebool true))
    ∷ define "f" (eapp (eapp (eapp (lam "x" (eapp (lam "u" (bind "k" (eapp (eapp (ev "primAddInt") (ev "x")) (ev "x")) (eapp (eapp (ev "primAddInt") (ev "x")) (ev "x")))) (eapp (ev "cons") (ev "x")))) (eint 4)) (eapp (ev "k") (eapp (ev "k") (eapp (ev "k") (bind "id" (lam "x" (eint 18446744073709551615)) (bind "p" (ev "f") (ev "p"))))))) (eint 8))
    ∷ instance [] "Ord" (c "Int" nil) (body "primAddInt" (lam "v" (lam "y" (ev "y"))) ∷ body "cons" (lam "x" (eapp (ev "x") (ev "x"))) ∷ [])
    ∷ check (lam "x" (lam "x" (bind "k" (eapp (eapp (lam "p" (lam "q" (ev "p"))) (eapp (ev "cons") (ev "x"))) (eapp (ev "cons") (ev "x"))) (eapp (eapp (lam "p" (lam "q" (ev "q"))) (ev "k")) (eapp (ev "tag") (ev "x"))))))
    ∷ []

s_5006592_computed : metered 512 65536 512 s_5006592 ≡ said "declarations 15\n0 0 - | 31 59 0 0\n1 17 Show t2 | 25 59 0 0\n2 16 Show t1 | 66 59 0 0\n3 0 - | 40 94 0 0\n4 22 Ord Int primAddInt | 1 94 0 0\n5 12 Int (-> t1 t5) | 35 94 0 0\n6 0 [] (-> a a) | 14 97 1 0\n7 12 (Pair (Pair Unit Bool) (Pair Int Bool)) (-> (List (Pair Int t11)) t9) | 142 97 1 0\n8 0 [] (-> a (-> b b)) = (lam v (lam u u)) | 22 97 3 0\n9 12 (List Int) (-> Int (-> Int Bool)) | 44 97 3 0\n10 16 Show Bool | 62 97 3 0\n11 16 Show Bool | 21 97 3 0\n12 13 t6 (List t6) | 52 97 3 0\n13 13 t5 (-> t5 t6) | 72 97 3 0\n14 16 Show (List (Pair Int t10)) | 491 97 3 0\n"
unfolding everything metered said
s_5006592_computed = refl

abbrev s_5006750 : List Decl
s_5006750 =
    class "K0" "a" [] (sig "m0" (arrow (v "a") (c "Bool" nil)) ∷ []) []
    ∷ class "K1" "a" ("K0" ∷ []) (sig "m1" (arrow (v "a") (c "Bool" nil)) ∷ []) []
    ∷ class "K2" "a" ("K0" ∷ "K1" ∷ []) (sig "m2" (arrow (v "a") (c "Bool" nil)) ∷ []) []
    ∷ class "K3" "a" ("K2" ∷ []) (sig "m3" (arrow (v "a") (c "Bool" nil)) ∷ []) []
    ∷ class "K4" "a" ("K3" ∷ []) (sig "m4" (arrow (v "a") (c "Bool" nil)) ∷ []) []
    ∷ check (lam "x" (eapp (eapp (ev "primAndBool") (eapp (ev "m4") (ev "x"))) (eapp (ev "m4") (ev "x"))))
    ∷ check (lam "x" (eapp (eapp (ev "primAndBool") (eapp (ev "m0") (ev "x"))) (eapp (eapp (ev "primAndBool") (eapp (ev "m3") (ev "x"))) (eapp (ev "m4") (ev "x")))))
    ∷ define "comp" (lam "x" (eapp (eapp (ev "primAndBool") (eapp (ev "m3") (ev "x"))) (eapp (eapp (ev "primAndBool") (eapp (ev "m0") (ev "x"))) (eapp (eapp (ev "primAndBool") (eapp (ev "m0") (ev "x"))) (eapp (ev "m4") (ev "x"))))))
    ∷ check (lam "x" (eapp (eapp (ev "primAndBool") (eapp (ev "m0") (ev "x"))) (eapp (eapp (ev "primAndBool") (eapp (ev "m4") (ev "x"))) (eapp (eapp (ev "primAndBool") (eapp (ev "m0") (ev "x"))) (eapp (eapp (ev "primAndBool") (eapp (ev "m0") (ev "x"))) (eapp (eapp (ev "primAndBool") (eapp (ev "m0") (ev "x"))) (eapp (ev "m4") (ev "x"))))))))
    ∷ instance [] "K0" (c "Bool" nil) (body "m0" (lam "z" (ebool false)) ∷ [])
    ∷ instance [] "K1" (c "Bool" nil) (body "m1" (ev "m2") ∷ [])
    ∷ instance [] "K2" (c "Bool" nil) (body "m2" (lam "y" (ebool true)) ∷ [])
    ∷ instance [] "K0" (c "List" nil) (body "m0" (lam "w" (eapp (ev "m3") (ev "w"))) ∷ [])
    ∷ instance (at "K2" (v "z") ∷ at "K2" (v "a") ∷ []) "K0" (v "a") (body "m0" (lam "y" (ebool true)) ∷ [])
    ∷ instance (at "K2" (v "z") ∷ at "K2" (v "a") ∷ []) "K0" (v "a") (body "m0" (lam "u" (eapp (eapp (ev "primLtInt") (eint 5)) (eint 7))) ∷ [])
    ∷ instance (at "K2" (v "z") ∷ at "K2" (v "a") ∷ []) "K1" (v "a") (body "m1" (lam "u" (ebool true)) ∷ [])
    ∷ instance (at "K2" (v "z") ∷ at "K2" (v "a") ∷ []) "K2" (v "a") (body "m2" (lam "w" (ev "w")) ∷ [])
    ∷ instance (at "K4" (v "a") ∷ at "K3" (v "a") ∷ at "K0" (v "a") ∷ []) "K0" (c "List" ((c "List" ((v "a") ◂ nil)) ◂ nil)) (body "m0" (lam "q" (eapp (ev "m3") (ev "q"))) ∷ [])
    ∷ instance (at "K4" (v "a") ∷ at "K3" (v "a") ∷ at "K0" (v "a") ∷ []) "K0" (c "List" ((c "List" ((v "a") ◂ nil)) ◂ nil)) (body "m0" (lam "v" (ebool true)) ∷ [])
    ∷ instance (at "K4" (v "a") ∷ at "K3" (v "a") ∷ at "K0" (v "a") ∷ []) "K1" (c "List" ((c "List" ((v "a") ◂ nil)) ◂ nil)) (body "m1" (ev "m0") ∷ [])
    ∷ instance (at "K4" (v "a") ∷ at "K3" (v "a") ∷ at "K0" (v "a") ∷ []) "K2" (c "List" ((c "List" ((v "a") ◂ nil)) ◂ nil)) (body "m2" (ev "m0") ∷ [])
    ∷ instance (at "K4" (v "a") ∷ at "K3" (v "a") ∷ at "K0" (v "a") ∷ []) "K3" (c "List" ((c "List" ((v "a") ◂ nil)) ◂ nil)) (body "m3" (ev "m2") ∷ [])
    ∷ check (eapp (eapp (ev "primLtInt") (eint 18446744073709551615)) (eint 4))
    ∷ check (eapp (ev "m4") (ev "m4"))
    ∷ check (lam "w" (lam "z" (eapp (eapp (ev "primAndBool") (ebool false)) (ebool true))))
    ∷ []

s_5006750_computed : metered 512 65536 512 s_5006750 ≡ said "declarations 25\n0 0 - | 7 40 0 0\n1 0 - | 7 47 0 0\n2 0 - | 7 54 0 0\n3 0 - | 7 61 0 0\n4 0 - | 7 68 0 0\n5 0 [K4 a] (-> a Bool) = (dabs [d0 K4 a] (lam x (app (app primAndBool (app (proj d0 m4) x)) (app (proj d0 m4) x)))) | 126 68 7 2\n6 0 [K4 a] (-> a Bool) = (dabs [d4 K4 a] (lam x (app (app primAndBool (app (proj (proj (proj d3 __super_K3__K2) __super_K2__K0) m0) x)) (app (app primAndBool (app (proj (proj d4 __super_K4__K3) m3) x)) (app (proj d4 m4) x))))) | 225 68 18 5\n7 0 [K4 a] (-> a Bool) | 326 72 33 9\n8 6 - | 512 72 33 9\n9 0 - | 23 75 34 9\n10 16 K2 Bool | 23 75 34 9\n11 16 K1 Bool | 25 75 34 9\n12 16 K3 List | 42 75 34 9\n13 18 K0 a | 27 75 34 9\n14 18 K0 a | 78 75 34 9\n15 0 - | 34 82 35 9\n16 0 - | 45 91 36 9\n17 16 K3 (List (List a)) | 63 91 36 9\n18 0 - | 34 99 37 9\n19 18 K1 (List (List a)) | 125 99 37 9\n20 6 - | 512 99 37 9\n21 6 - | 512 99 37 9\n22 0 [] Bool = (app (app primLtInt 18446744073709551615) 4) | 50 99 39 9\n23 16 K4 (-> t41 Bool) | 31 99 39 9\n24 0 [] (-> a (-> b Bool)) = (lam w (lam z (app (app primAndBool false) true))) | 70 99 43 9\n"
unfolding everything metered said
s_5006750_computed = refl
