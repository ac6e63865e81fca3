-- Recorded sessions, computed: text, steps, kept nodes and both counters. (tools/session_test.py)
use mathlib.Core.Path.{◌≡◌, refl}
use mathlib.Core.Bool.{true, false}
use mathlib.Core.List.{List, [], ◌∷◌}
use Rattle.meaning.specs.Ast.{Ty, arrow, Expr, eint, ebool, eapp, Decl, nil, ◌◂◌}
use Rattle.meaning.proofs.Metered.{everything, metered, said}
use Rattle.meaning.proofs.Written.{v, c, ev, lam, bind, class, instance, define, check, at, sig, body}

abbrev n_5000250 : List Decl
n_5000250 =
    class "K0" "a" [] (sig "m0" (arrow (v "a") (c "Bool" nil)) ∷ []) []
    ∷ class "K1" "a" ("K0" ∷ []) (sig "m1" (arrow (v "a") (c "Bool" nil)) ∷ []) []
    ∷ class "K2" "a" ("K1" ∷ []) (sig "m2" (arrow (v "a") (c "Bool" nil)) ∷ []) []
    ∷ define "h" (lam "x" (eapp (eapp (ev "primAndBool") (eapp (ev "m0") (ev "x"))) (eapp (eapp (ev "primAndBool") (eapp (ev "m2") (ev "x"))) (eapp (ev "m2") (ev "x")))))
    ∷ check (lam "x" (eapp (eapp (ev "primAndBool") (eapp (ev "m0") (ev "x"))) (eapp (ev "m2") (ev "x"))))
    ∷ check (lam "x" (eapp (eapp (ev "primAndBool") (eapp (ev "m0") (ev "x"))) (eapp (eapp (ev "primAndBool") (eapp (ev "m0") (ev "x"))) (eapp (ev "m0") (ev "x")))))
    ∷ check (lam "x" (eapp (eapp (ev "primAndBool") (eapp (ev "m0") (ev "x"))) (eapp (eapp (ev "primAndBool") (eapp (ev "m2") (ev "x"))) (eapp (ev "m2") (ev "x")))))
    ∷ instance (at "K2" (v "a") ∷ []) "K0" (v "a") (body "m0" (lam "w" (eapp (ev "h") (ev "w"))) ∷ [])
    ∷ instance (at "K2" (v "a") ∷ []) "K1" (v "a") (body "m1" (bind "id" (lam "x" (ev "x")) (lam "q" (ebool true))) ∷ [])
    ∷ check (bind "z" (eapp (ev "primAddInt") (ev "primEqBool")) (ev "primMulInt"))
    ∷ check (lam "x" (ev "primNotBool"))
    ∷ check (ebool false)
    ∷ []

n_5000250_computed : metered 100 10240 100 n_5000250 ≡ said "declarations 12\n0 0 - | 7 40 0 0\n1 0 - | 7 47 0 0\n2 0 - | 7 54 0 0\n3 6 - | 100 54 0 0\n4 6 - | 100 54 0 0\n5 6 - | 100 54 0 0\n6 6 - | 100 54 0 0\n7 11 h | 8 54 0 0\n8 0 - | 49 64 2 0\n9 5 - | 0 64 2 0\n10 5 - | 0 64 2 0\n11 5 - | 0 64 2 0\n"
unfolding everything metered said
n_5000250_computed = refl

abbrev n_5000330 : List Decl
n_5000330 =
    class "K0" "a" [] (sig "m0" (arrow (v "a") (c "Bool" nil)) ∷ []) []
    ∷ class "K1" "a" ("K0" ∷ []) (sig "m1" (arrow (v "a") (c "Bool" nil)) ∷ []) []
    ∷ class "K2" "a" ("K1" ∷ []) (sig "m2" (arrow (v "a") (c "Bool" nil)) ∷ []) []
    ∷ check (lam "x" (eapp (eapp (ev "primAndBool") (eapp (ev "m1") (ev "x"))) (eapp (eapp (ev "primAndBool") (eapp (ev "m1") (ev "x"))) (eapp (eapp (ev "primAndBool") (eapp (ev "m2") (ev "x"))) (eapp (eapp (ev "primAndBool") (eapp (ev "m1") (ev "x"))) (eapp (ev "m0") (ev "x")))))))
    ∷ define "same" (lam "x" (eapp (eapp (ev "primAndBool") (eapp (ev "m2") (ev "x"))) (eapp (eapp (ev "primAndBool") (eapp (ev "m2") (ev "x"))) (eapp (eapp (ev "primAndBool") (eapp (ev "m0") (ev "x"))) (eapp (ev "m2") (ev "x"))))))
    ∷ check (lam "x" (eapp (eapp (ev "primAndBool") (eapp (ev "m2") (ev "x"))) (eapp (eapp (ev "primAndBool") (eapp (ev "m2") (ev "x"))) (eapp (eapp (ev "primAndBool") (eapp (ev "m2") (ev "x"))) (eapp (ev "m2") (ev "x"))))))
    ∷ define "f" (lam "x" (eapp (eapp (ev "primAndBool") (eapp (ev "m0") (ev "x"))) (eapp (eapp (ev "primAndBool") (eapp (ev "m2") (ev "x"))) (eapp (eapp (ev "primAndBool") (eapp (ev "m2") (ev "x"))) (eapp (eapp (ev "primAndBool") (eapp (ev "m1") (ev "x"))) (eapp (eapp (ev "primAndBool") (eapp (ev "m2") (ev "x"))) (eapp (ev "m0") (ev "x"))))))))
    ∷ instance (at "K2" (v "t") ∷ []) "K0" (c "List" ((v "t") ◂ nil)) (body "m0" (lam "x" (eapp (ev "same") (ev "m2"))) ∷ [])
    ∷ instance (at "K2" (v "t") ∷ []) "K1" (c "List" ((v "t") ◂ nil)) (body "m1" (ev "m1") ∷ [])
    ∷ instance (at "K2" (v "b") ∷ at "K2" (v "c") ∷ []) "K0" (c "Pair" ((v "c") ◂ (v "b") ◂ nil)) (body "m0" (lam "x" (eapp (eapp (lam "u" (lam "v" (ev "v"))) (eapp (ev "m0") (ev "x"))) (eapp (eapp (lam "u" (lam "v" (ev "v"))) (eapp (ev "m0") (ev "x"))) (eapp (eapp (lam "u" (lam "v" (ev "v"))) (eapp (ev "m1") (ev "x"))) (eapp (eapp (lam "u" (lam "v" (ev "v"))) (eapp (ev "m2") (ev "x"))) (eapp (eapp (ev "primEqBool") (eapp (ev "primNotBool") (ebool false))) (eapp (ev "same") (ev "x")))))))) ∷ [])
    ∷ instance (at "K2" (v "b") ∷ at "K2" (v "c") ∷ []) "K1" (c "Pair" ((v "c") ◂ (v "b") ◂ nil)) (body "m1" (lam "x" (eapp (eapp (lam "u" (lam "v" (ev "v"))) (eapp (ev "m2") (ev "x"))) (eapp (eapp (lam "u" (lam "v" (ev "v"))) (eapp (ev "m2") (ev "x"))) (eapp (eapp (lam "u" (lam "v" (ev "v"))) (eapp (ev "m0") (ev "x"))) (eapp (eapp (lam "u" (lam "v" (ev "v"))) (eapp (ev "m0") (ev "x"))) (ebool true)))))) ∷ [])
    ∷ instance (at "K2" (v "b") ∷ at "K2" (v "c") ∷ []) "K2" (c "Pair" ((v "c") ◂ (v "b") ◂ nil)) (body "m2" (bind "p" (eint 4) (ev "same")) ∷ [])
    ∷ instance [] "K0" (c "List" ((c "Int" nil) ◂ nil)) (body "m0" (ev "m0") ∷ [])
    ∷ check (eapp (ev "primAndBool") (ev "primNotBool"))
    ∷ check (lam "x" (lam "y" (eapp (eapp (lam "u" (lam "v" (ev "v"))) (eapp (ev "m1") (ev "y"))) (eapp (ev "m1") (ev "y")))))
    ∷ check (lam "m1" (ev "m1"))
    ∷ []

n_5000330_computed : metered 100 10240 100 n_5000330 ≡ said "declarations 16\n0 0 - | 7 40 0 0\n1 0 - | 7 47 0 0\n2 0 - | 7 54 0 0\n3 6 - | 100 54 0 0\n4 6 - | 100 54 0 0\n5 6 - | 100 54 0 0\n6 6 - | 100 54 0 0\n7 11 same | 9 54 0 0\n8 16 K1 (List t) | 30 54 0 0\n9 6 - | 100 54 0 0\n10 6 - | 100 54 0 0\n11 11 same | 14 54 0 0\n12 16 K0 (List Int) | 26 54 0 0\n13 12 Bool (-> Bool Bool) | 18 54 0 0\n14 6 - | 100 54 0 0\n15 20 m1 | 3 54 0 0\n"
unfolding everything metered said
n_5000330_computed = refl

abbrev n_5001450 : List Decl
n_5001450 =
    class "Eq" "a" [] (sig "mk" (arrow (v "a") (arrow (v "a") (v "a"))) ∷ sig "tag" (c "Int" nil) ∷ []) []
    ∷ instance [] "Eq" (c "List" ((v "t") ◂ nil)) (body "mk" (bind "v" (ev "primMulInt") (lam "q" (lam "q" (ev "q")))) ∷ body "tag" (eapp (eapp (ev "primMulInt") (eint 0)) (bind "p" (lam "x" (ev "x")) (eapp (ev "p") (eapp (ev "p") (eapp (ev "p") (eint 2)))))) ∷ [])
    ∷ instance [] "Eq" (c "List" ((c "List" ((v "b") ◂ nil)) ◂ nil)) (body "mk" (eapp (eapp (ev "mk") (lam "w" (lam "v" (ev "v")))) (lam "u" (lam "w" (ev "w")))) ∷ body "tag" (eapp (eapp (ev "mk") (eint 1)) (eint 7)) ∷ [])
    ∷ instance (at "Eq" (v "t") ∷ []) "Eq" (c "List" ((c "List" ((v "t") ◂ nil)) ◂ nil)) (body "mk" (ev "mk") ∷ body "tag" (eint 2) ∷ [])
    ∷ check (eapp (eapp (ev "primEqInt") (eapp (eapp (ev "mk") (eint 1)) (eint 8))) (eapp (eapp (ev "mk") (eint 18446744073709551615)) (eint 3)))
    ∷ check (eapp (ev "mk") (bind "id" (lam "tag" (ev "tag")) (eapp (ev "primNotBool") (ebool false))))
    ∷ check (ev "primAndBool")
    ∷ check (eapp (eapp (ev "primAndBool") (eapp (eapp (ev "primLtInt") (ev "tag")) (eapp (eapp (ev "primAddInt") (eint 2)) (eint 5)))) (eapp (eapp (ev "primEqInt") (ev "tag")) (eapp (eapp (ev "primAddInt") (eint 9223372036854775808)) (eint 3))))
    ∷ check (eapp (eapp (ev "primEqBool") (ebool true)) (eapp (eapp (ev "primEqBool") (eapp (eapp (ev "mk") (ebool true)) (ebool false))) (ebool false)))
    ∷ instance [] "Eq" (c "Int" nil) (body "mk" (ev "primAddInt") ∷ [])
    ∷ []

n_5001450_computed : metered 100 10240 100 n_5001450 ≡ said "declarations 10\n0 0 - | 14 47 0 0\n1 6 - | 100 47 0 0\n2 6 - | 100 47 0 0\n3 16 Eq (List (List t)) | 75 47 0 0\n4 6 - | 100 47 0 0\n5 20 tag | 12 47 0 0\n6 0 [] (-> Bool (-> Bool Bool)) = primAndBool | 18 47 0 0\n7 6 - | 100 47 0 0\n8 6 - | 100 47 0 0\n9 22 Eq Int tag | 36 47 0 0\n"
unfolding everything metered said
n_5001450_computed = refl

abbrev n_5002310 : List Decl
n_5002310 =
    class "Eq" "a" [] (sig "eq" (arrow (v "a") (arrow (v "a") (c "Bool" nil))) ∷ []) (body "eq" (eint 1) ∷ [])
    ∷ instance (at "Eq" (v "a") ∷ []) "Eq" (v "a") []
    ∷ check (eapp (ev "eq") (eint 1))
    ∷ class "Bag" "a" ("Eq" ∷ []) (sig "one" (arrow (v "a") (c "List" ((v "a") ◂ nil))) ∷ []) (body "one" (eint 1) ∷ [])
    ∷ instance [] "Bag" (c "Int" nil) []
    ∷ check (eapp (ev "eq") (eapp (ev "one") (eint 1)))
    ∷ instance (at "Eq" (c "Int" nil) ∷ []) "Eq" (c "Int" nil) []
    ∷ instance (at "Eq" (c "Int" nil) ∷ []) "Bag" (c "Int" nil) []
    ∷ check (lam "z" (lam "y" (ev "y")))
    ∷ check (lam "x" (bind "h" (lam "y" (bind "k" (eapp (eapp (lam "p" (lam "q" (ev "p"))) (eapp (eapp (ev "one") (ev "x")) (ev "x"))) (eapp (eapp (ev "eq") (ev "x")) (ev "x"))) (eapp (eapp (lam "p" (lam "q" (ev "q"))) (ev "k")) (eapp (ev "eq") (ev "x"))))) (eapp (ev "h") (ev "x"))))
    ∷ []

n_5002310_computed : metered 100 10240 100 n_5002310 ≡ said "declarations 10\n0 0 - | 11 44 0 0\n1 0 - | 5 47 0 0\n2 6 - | 100 47 0 0\n3 0 - | 9 56 0 0\n4 6 - | 100 56 0 0\n5 6 - | 100 56 0 0\n6 18 Eq Int | 6 56 0 0\n7 0 - | 8 60 0 0\n8 0 [] (-> a (-> b b)) = (lam z (lam y y)) | 22 60 2 0\n9 12 (List t2) (-> t2 t8) | 46 60 2 0\n"
unfolding everything metered said
n_5002310_computed = refl

abbrev n_5002854 : List Decl
n_5002854 =
    class "Mon" "a" [] (sig "pair" (arrow (v "a") (c "Int" nil)) ∷ []) []
    ∷ instance [] "Mon" (c "Unit" nil) (body "pair" (lam "x" (eapp (eapp (lam "u" (lam "v" (ev "v"))) (eapp (ev "pair") (ev "x"))) (eapp (eapp (lam "u" (lam "v" (ev "v"))) (eapp (ev "pair") (ev "x"))) (eapp (eapp (lam "u" (lam "v" (ev "v"))) (eapp (ev "pair") (ev "x"))) (eint 3))))) ∷ [])
    ∷ check (ev "primAndBool")
    ∷ define "comp" (lam "v" (lam "w" (eapp (eapp (ev "primEqBool") (ebool false)) (eapp (eapp (ev "primLtInt") (ev "w")) (ev "v")))))
    ∷ check (eapp (eapp (eapp (lam "x" (lam "y" (eapp (lam "u" (eapp (ev "pair") (ev "x"))) (eapp (ev "pair") (ev "x"))))) (ebool true)) (eint 13375522816216190945)) (eint 7))
    ∷ check (eapp (ev "comp") (eapp (eint 6) (ev "primAndBool")))
    ∷ instance [] "Mon" (c "Bool" nil) (body "pair" (lam "w" (eapp (ev "pair") (eapp (eapp (ebool true) (ev "w")) (lam "y" (ev "primEqBool"))))) ∷ [])
    ∷ check (lam "x" (lam "x" (bind "k" (eapp (eapp (lam "p" (lam "q" (ev "p"))) (eapp (ev "pair") (ev "x"))) (eapp (ev "pair") (ev "x"))) (eapp (eapp (lam "p" (lam "q" (ev "q"))) (ev "k")) (eapp (ev "pair") (ev "x"))))))
    ∷ define "comp" (lam "y" (eapp (eint 2) (ev "y")))
    ∷ []

n_5002854_computed : metered 100 10240 100 n_5002854 ≡ said "declarations 9\n0 0 - | 7 40 0 0\n1 6 - | 100 40 0 0\n2 0 [] (-> Bool (-> Bool Bool)) = primAndBool | 18 40 0 0\n3 6 - | 100 40 0 0\n4 6 - | 100 40 0 0\n5 11 comp | 2 40 0 0\n6 12 Bool (-> t0 t4) | 20 40 0 0\n7 6 - | 100 40 0 0\n8 12 Int (-> t0 t1) | 8 40 0 0\n"
unfolding everything metered said
n_5002854_computed = refl

abbrev n_5003140 : List Decl
n_5003140 =
    class "Eq" "a" [] (sig "eq" (arrow (v "a") (arrow (v "a") (c "Bool" nil))) ∷ []) (body "eq" (eint 1) ∷ [])
    ∷ instance [] "Eq" (c "Int" nil) []
    ∷ instance (at "Eq" (v "a") ∷ []) "Eq" (c "Pair" ((c "Int" nil) ◂ (v "a") ◂ nil)) []
    ∷ class "Deep" "a" [] (sig "mk" (arrow (v "a") (c "Pair" ((c "Int" nil) ◂ (c "Pair" ((c "Int" nil) ◂ (c "Pair" ((c "Int" nil) ◂ (c "Pair" ((c "Int" nil) ◂ (c "Pair" ((c "Int" nil) ◂ (c "Pair" ((c "Int" nil) ◂ (c "Pair" ((c "Int" nil) ◂ (c "Pair" ((c "Int" nil) ◂ (c "Pair" ((c "Int" nil) ◂ (c "Pair" ((c "Int" nil) ◂ (c "Pair" ((c "Int" nil) ◂ (c "Pair" ((c "Int" nil) ◂ (c "Pair" ((c "Int" nil) ◂ (c "Pair" ((c "Int" nil) ◂ (c "Pair" ((c "Int" nil) ◂ (c "Pair" ((c "Int" nil) ◂ (c "Pair" ((c "Int" nil) ◂ (c "Pair" ((c "Int" nil) ◂ (c "Pair" ((c "Int" nil) ◂ (c "Pair" ((c "Int" nil) ◂ (c "Pair" ((c "Int" nil) ◂ (c "Pair" ((c "Int" nil) ◂ (c "Pair" ((c "Int" nil) ◂ (c "Pair" ((c "Int" nil) ◂ (c "Int" nil) ◂ nil)) ◂ nil)) ◂ nil)) ◂ nil)) ◂ nil)) ◂ nil)) ◂ nil)) ◂ nil)) ◂ nil)) ◂ nil)) ◂ nil)) ◂ nil)) ◂ nil)) ◂ nil)) ◂ nil)) ◂ nil)) ◂ nil)) ◂ nil)) ◂ nil)) ◂ nil)) ◂ nil)) ◂ nil)) ◂ nil)) ◂ nil))) ∷ []) (body "mk" (eint 1) ∷ [])
    ∷ instance [] "Deep" (c "Int" nil) []
    ∷ check (eapp (ev "mk") (eint 1))
    ∷ check (eapp (ev "eq") (eapp (ev "mk") (eint 1)))
    ∷ define "g" (lam "x" (eapp (ev "eq") (eapp (ev "mk") (ev "x"))))
    ∷ instance [] "Eq" (c "Pair" ((c "Int" nil) ◂ (c "Pair" ((c "Int" nil) ◂ (c "Pair" ((c "Int" nil) ◂ (c "Pair" ((c "Int" nil) ◂ (c "Pair" ((c "Int" nil) ◂ (c "Pair" ((c "Int" nil) ◂ (c "Pair" ((c "Int" nil) ◂ (c "Pair" ((c "Int" nil) ◂ (c "Pair" ((c "Int" nil) ◂ (c "Pair" ((c "Int" nil) ◂ (c "Pair" ((c "Int" nil) ◂ (c "Pair" ((c "Int" nil) ◂ (c "Pair" ((c "Int" nil) ◂ (c "Pair" ((c "Int" nil) ◂ (c "Pair" ((c "Int" nil) ◂ (c "Pair" ((c "Int" nil) ◂ (c "Pair" ((c "Int" nil) ◂ (c "Pair" ((c "Int" nil) ◂ (c "Pair" ((c "Int" nil) ◂ (c "Pair" ((c "Int" nil) ◂ (c "Pair" ((c "Int" nil) ◂ (c "Pair" ((c "Int" nil) ◂ (c "Pair" ((c "Int" nil) ◂ (c "Pair" ((c "Int" nil) ◂ (c "Int" nil) ◂ nil)) ◂ nil)) ◂ nil)) ◂ nil)) ◂ nil)) ◂ nil)) ◂ nil)) ◂ nil)) ◂ nil)) ◂ nil)) ◂ nil)) ◂ nil)) ◂ nil)) ◂ nil)) ◂ nil)) ◂ nil)) ◂ nil)) ◂ nil)) ◂ nil)) ◂ nil)) ◂ nil)) ◂ nil)) ◂ nil)) ◂ nil)) []
    ∷ instance [] "Deep" (c "Pair" ((c "Int" nil) ◂ (c "Pair" ((c "Int" nil) ◂ (c "Pair" ((c "Int" nil) ◂ (c "Pair" ((c "Int" nil) ◂ (c "Pair" ((c "Int" nil) ◂ (c "Pair" ((c "Int" nil) ◂ (c "Pair" ((c "Int" nil) ◂ (c "Pair" ((c "Int" nil) ◂ (c "Pair" ((c "Int" nil) ◂ (c "Pair" ((c "Int" nil) ◂ (c "Pair" ((c "Int" nil) ◂ (c "Pair" ((c "Int" nil) ◂ (c "Pair" ((c "Int" nil) ◂ (c "Pair" ((c "Int" nil) ◂ (c "Pair" ((c "Int" nil) ◂ (c "Pair" ((c "Int" nil) ◂ (c "Pair" ((c "Int" nil) ◂ (c "Pair" ((c "Int" nil) ◂ (c "Pair" ((c "Int" nil) ◂ (c "Pair" ((c "Int" nil) ◂ (c "Pair" ((c "Int" nil) ◂ (c "Pair" ((c "Int" nil) ◂ (c "Pair" ((c "Int" nil) ◂ (c "Pair" ((c "Int" nil) ◂ (c "Pair" ((c "Int" nil) ◂ (v "b") ◂ nil)) ◂ nil)) ◂ nil)) ◂ nil)) ◂ nil)) ◂ nil)) ◂ nil)) ◂ nil)) ◂ nil)) ◂ nil)) ◂ nil)) ◂ nil)) ◂ nil)) ◂ nil)) ◂ nil)) ◂ nil)) ◂ nil)) ◂ nil)) ◂ nil)) ◂ nil)) ◂ nil)) ◂ nil)) ◂ nil)) ◂ nil)) ◂ nil)) []
    ∷ check (lam "q" (lam "w" (eapp (eapp (ev "primAndBool") (ebool false)) (ebool true))))
    ∷ []

n_5003140_computed : metered 100 10240 100 n_5003140 ≡ said "declarations 11\n0 0 - | 11 44 0 0\n1 0 - | 4 46 0 0\n2 0 - | 9 51 0 0\n3 6 - | 100 51 0 0\n4 19 Deep | 1 51 0 0\n5 11 mk | 2 51 0 0\n6 11 mk | 10 51 0 0\n7 11 mk | 12 51 0 0\n8 18 Eq (Pair Int (Pair Int (Pair Int (Pair Int (Pair Int (Pair Int (Pair Int (Pair Int (Pair Int (Pair Int (Pair Int (Pair Int (Pair Int (Pair Int (Pair Int (Pair Int (Pair Int (Pair Int (Pair Int (Pair Int (Pair Int (Pair Int (Pair Int (Pair Int Int)))))))))))))))))))))))) | 57 51 0 0\n9 19 Deep | 51 51 0 0\n10 0 [] (-> a (-> b Bool)) = (lam q (lam w (app (app primAndBool false) true))) | 70 51 4 0\n"
unfolding everything metered said
n_5003140_computed = refl

abbrev n_5003590 : List Decl
n_5003590 =
    class "Real" "b" [] (sig "mk" (v "b") ∷ []) (body "fst" (ev "f") ∷ [])
    ∷ class "Num" "a" [] (sig "use1" (arrow (c "List" ((v "a") ◂ nil)) (v "a")) ∷ []) (body "use1" (eapp (ev "use1") (eapp (ev "use1") (ev "mk"))) ∷ body "snd" (lam "y" (ev "mk")) ∷ [])
    ∷ instance (at "Real" (v "b") ∷ at "Num" (v "b") ∷ at "Real" (v "b") ∷ []) "Real" (arrow (v "b") (v "b")) (body "mk" (bind "comp" (ev "use1") (lam "u" (eapp (ev "comp") (bind "same" (ev "u") (ev "mk"))))) ∷ [])
    ∷ instance (at "Num" (v "b") ∷ at "Num" (v "b") ∷ at "Num" (v "b") ∷ []) "Num" (c "List" ((v "b") ◂ nil)) []
    ∷ class "Eq" "a" ("Num" ∷ []) (sig "join" (arrow (v "a") (c "Int" nil)) ∷ []) (body "join" (lam "u" (eint 7)) ∷ [])
    ∷ class "Show" "a" ("Num" ∷ []) (sig "fst" (c "List" ((c "List" ((c "List" ((c "Int" nil) ◂ nil)) ◂ nil)) ◂ nil)) ∷ []) []
    ∷ instance [] "Real" (c "Int" nil) (body "mk" (eapp (ev "use1") (eapp (ev "use1") (eapp (ev "use1") (bind "g" (lam "z" (ev "z")) (eapp (ev "g") (ev "mk")))))) ∷ [])
    ∷ instance [] "Num" (c "Int" nil) []
    ∷ check (lam "q" (ev "q"))
    ∷ instance (at "Num" (v "a") ∷ []) "Num" (arrow (v "a") (v "a")) []
    ∷ check (ev "mk")
    ∷ check (ev "use1")
    ∷ check (eapp (ev "use1") (eapp (ev "use1") (ev "mk")))
    ∷ check (lam "y" (lam "p" (ebool true)))
    ∷ define "id" (ev "mk")
    ∷ define "g" (lam "y" (lam "join" (ev "join")))
    ∷ []

n_5003590_computed : metered 100 10240 100 n_5003590 ≡ said "declarations 16\n0 0 - | 3 36 0 0\n1 0 - | 9 45 0 0\n2 16 Real (List b) | 84 45 0 0\n3 0 - | 71 58 5 3\n4 0 - | 7 65 5 3\n5 5 - | 0 65 5 3\n6 5 - | 0 65 5 3\n7 5 - | 0 65 5 3\n8 5 - | 0 65 5 3\n9 5 - | 0 65 5 3\n10 5 - | 0 65 5 3\n11 5 - | 0 65 5 3\n12 5 - | 0 65 5 3\n13 5 - | 0 65 5 3\n14 5 - | 0 65 5 3\n15 5 - | 0 65 5 3\n"
unfolding everything metered said
n_5003590_computed = refl

abbrev n_5004076 : List Decl
n_5004076 =
    class "Ord" "a" [] (sig "eq" (arrow (arrow (v "a") (v "b")) (v "b")) ∷ []) []
    ∷ instance [] "Ord" (c "List" ((v "t") ◂ nil)) (body "eq" (eapp (ev "eq") (lam "q" (lam "q" (bind "comp" (bind "z" (lam "x" (lam "y" (ev "x"))) (ev "z")) (bind "twice" (ev "comp") (ev "twice")))))) ∷ [])
    ∷ instance (at "Ord" (v "b") ∷ []) "Ord" (c "Int" nil) (body "eq" (lam "q" (eapp (ev "q") (eapp (ev "eq") (ev "eq")))) ∷ [])
    ∷ class "Show" "z" ("Ord" ∷ []) (sig "join" (arrow (c "Pair" ((v "z") ◂ nil)) (v "z")) ∷ []) (body "join" (bind "z" (lam "x" (ebool true)) (lam "p" (ev "eq"))) ∷ [])
    ∷ instance [] "Ord" (c "Pair" ((c "Int" nil) ◂ (v "c") ◂ nil)) (body "eq" (lam "x" (eapp (eapp (lam "u" (lam "v" (ev "v"))) (eapp (ev "eq") (ev "x"))) (ev "primMulInt"))) ∷ [])
    ∷ instance [] "Show" (c "Pair" ((c "Int" nil) ◂ (v "c") ◂ nil)) []
    ∷ instance [] "Ord" (c "List" ((v "a") ◂ nil)) (body "eq" (lam "p" (eapp (ev "p") (eapp (ev "join") (bind "q" (lam "x" (ev "x")) (eapp (ev "q") (eapp (ev "eq") (ev "p"))))))) ∷ [])
    ∷ instance [] "Show" (c "List" ((v "a") ◂ nil)) []
    ∷ class "Eq" "z" [] (sig "conv" (arrow (v "b") (c "Pair" ((arrow (v "z") (v "b")) ◂ (c "Int" nil) ◂ nil))) ∷ []) []
    ∷ class "Num" "t" ("Eq" ∷ []) (sig "fst" (arrow (v "t") (arrow (v "t") (c "Bool" nil))) ∷ sig "neg" (arrow (v "t") (arrow (c "List" ((v "t") ◂ nil)) (c "List" ((v "t") ◂ nil)))) ∷ []) (body "neg" (lam "x" (lam "v" (ev "v"))) ∷ [])
    ∷ instance (at "Show" (v "a") ∷ at "Show" (v "a") ∷ []) "Ord" (c "Pair" ((v "a") ◂ (v "b") ◂ nil)) (body "eq" (ev "eq") ∷ [])
    ∷ instance (at "Show" (v "a") ∷ at "Show" (v "a") ∷ []) "Show" (c "Pair" ((v "a") ◂ (v "b") ◂ nil)) (body "join" (lam "x" (eapp (eapp (lam "u" (lam "v" (ev "v"))) (eapp (ev "join") (ev "x"))) (eapp (eapp (lam "u" (lam "v" (ev "v"))) (eapp (ev "join") (ev "x"))) (eapp (eapp (lam "u" (lam "v" (ev "v"))) (eapp (ev "conv") (ev "x"))) (eapp (eapp (lam "u" (lam "v" (ev "v"))) (eapp (ev "conv") (ev "x"))) (eapp (eapp (lam "u" (lam "v" (ev "v"))) (eapp (ev "eq") (ev "x"))) (eapp (eapp (lam "u" (lam "v" (ev "v"))) (eapp (ev "eq") (ev "x"))) (eapp (ev "eq") (lam "x" (eapp (ev "conv") (ev "x"))))))))))) ∷ [])
    ∷ class "Mon" "a" [] (sig "cons" (arrow (v "a") (arrow (v "a") (c "Bool" nil))) ∷ []) []
    ∷ define "g" (ebool true)
    ∷ check (eapp (eapp (ev "primEqBool") (eapp (eapp (ev "primEqBool") (ebool false)) (eapp (eapp (ev "cons") (ev "eq")) (lam "u" (ev "primLtInt"))))) (eapp (ev "primNotBool") (ebool false)))
    ∷ []

n_5004076_computed : metered 100 10240 100 n_5004076 ≡ said "declarations 15\n0 0 - | 11 44 0 0\n1 6 - | 100 44 0 0\n2 6 - | 100 44 0 0\n3 0 - | 9 53 0 0\n4 6 - | 100 53 0 0\n5 16 Ord (Pair Int c) | 30 53 0 0\n6 6 - | 100 53 0 0\n7 16 Ord (List a) | 29 53 0 0\n8 0 - | 15 68 0 0\n9 5 - | 0 68 0 0\n10 5 - | 0 68 0 0\n11 5 - | 0 68 0 0\n12 5 - | 0 68 0 0\n13 5 - | 0 68 0 0\n14 5 - | 0 68 0 0\n"
unfolding everything metered said
n_5004076_computed = refl
