-- Recorded sessions, computed: text, steps, kept nodes and both counters. (tools/session_test.py)
use mathlib.Core.Path.{◌≡◌, refl}
use mathlib.Core.Bool.{true, false}
use mathlib.Core.List.{List, [], ◌∷◌}
use Rattle.meaning.specs.Ast.{Ty, arrow, Expr, eint, ebool, eapp, Decl, nil, ◌◂◌}
use Rattle.meaning.proofs.Metered.{everything, metered, said}
use Rattle.meaning.proofs.Written.{v, c, ev, lam, bind, class, instance, define, check, at, sig, body}

abbrev s_5002682 : List Decl
s_5002682 =
    class "Eq" "tx" [] (sig "pair" (arrow (v "c") (arrow (v "tx") (v "c"))) ∷ []) []
    ∷ instance [] "Ord" (c "Bool" nil) []
    ∷ instance (at "Eq" (v "z") ∷ at "Eq" (v "t") ∷ at "Eq" (v "t") ∷ []) "Eq" (v "t") (body "pair" (ev "pair") ∷ [])
    ∷ class "Num" "a" [] (sig "zero" (arrow (v "a") (c "List" ((v "a") ◂ nil))) ∷ sig "add" (arrow (v "a") (arrow (v "a") (c "Bool" nil))) ∷ []) []
    ∷ instance (at "Eq" (v "c") ∷ at "Num" (v "c") ∷ at "Num" (v "a") ∷ []) "Eq" (c "Pair" ((v "c") ◂ (c "Int" nil) ◂ nil)) (body "pair" (eapp (ev "pair") (lam "u" (ev "pair"))) ∷ [])
    ∷ []

s_5002682_computed : metered 512 65536 512 s_5002682 ≡ said "declarations 5\n0 0 - | 11 44 0 0\n1 19 Ord | 1 44 0 0\n2 0 - | 48 50 2 1\n3 0 - | 20 70 2 1\n4 6 - | 512 70 2 1\n"
unfolding everything metered said
s_5002682_computed = refl

abbrev s_5002758 : List Decl
s_5002758 =
    class "Show" "a" [] (sig "add" (arrow (c "Pair" ((v "a") ◂ nil)) (v "a")) ∷ []) (body "nil" (bind "g" (lam "x" (eapp (ev "primAddInt") (bind "u" (eint 3) (ev "twice")))) (eapp (eapp (ev "primLtInt") (eapp (eapp (ev "primMulInt") (eint 8)) (eint 7))) (eapp (eapp (ev "g") (eint 3)) (eint 7)))) ∷ [])
    ∷ class "Eq" "a" [] [] []
    ∷ instance (at "Show" (v "a") ∷ at "Eq" (v "a") ∷ at "Eq" (v "a") ∷ []) "Show" (arrow (v "a") (v "a")) (body "add" (ev "add") ∷ [])
    ∷ class "Real" "tx" ("Eq" ∷ []) [] (body "neg" (eapp (ev "primAndBool") (ebool true)) ∷ [])
    ∷ class "Fun" "a" ("Eq" ∷ []) (sig "tag" (arrow (v "a") (v "c")) ∷ sig "zero" (arrow (c "Pair" ((v "a") ◂ (v "c") ◂ nil)) (v "a")) ∷ sig "snd" (arrow (v "a") (arrow (v "a") (c "Bool" nil))) ∷ []) []
    ∷ instance [] "Show" (c "Bool" nil) (body "add" (lam "z" (eapp (eapp (ev "snd") (ev "z")) (ev "z"))) ∷ [])
    ∷ class "Mon" "a" ("Real" ∷ "Fun" ∷ []) [] []
    ∷ define "k" (lam "x" (eapp (lam "u" (bind "id" (eapp (ev "add") (ev "x")) (eapp (eapp (ev "snd") (ev "x")) (ev "x")))) (eapp (eapp (ev "snd") (ev "x")) (ev "x"))))
    ∷ check (eapp (ev "zero") (eapp (ev "tag") (eapp (ev "tag") (ev "tag"))))
    ∷ check (lam "x" (lam "y" (eapp (lam "u" (eapp (lam "u" (bind "h" (eapp (eapp (ev "snd") (ev "y")) (ev "y")) (eapp (eapp (lam "u" (lam "v" (ev "v"))) (eapp (eapp (ev "snd") (ev "y")) (ev "x"))) (bind "comp" (eapp (ev "add") (ev "x")) (eapp (ev "tag") (ev "x")))))) (eapp (ev "zero") (ev "x")))) (eapp (ev "tag") (ev "y")))))
    ∷ check (eapp (ev "primNotBool") (ebool false))
    ∷ []

s_5002758_computed : metered 512 65536 512 s_5002758 ≡ said "declarations 11\n0 0 - | 9 42 0 0\n1 0 - | 0 42 0 0\n2 16 Show (-> a a) | 52 42 0 0\n3 0 - | 0 42 0 0\n4 0 - | 29 71 0 0\n5 16 Fun (Pair Bool) | 76 71 0 0\n6 0 - | 0 71 0 0\n7 16 Fun (Pair t3) | 230 71 0 0\n8 16 Fun (-> t9 t10) | 92 71 0 0\n9 15 Pair 2 1 | 314 71 0 0\n10 0 [] Bool = (app primNotBool false) | 23 71 1 0\n"
unfolding everything metered said
s_5002758_computed = refl

abbrev s_5002838 : List Decl
s_5002838 =
    class "Mon" "a" [] [] []
    ∷ instance (at "Mon" (c "Int" nil) ∷ []) "Mon" (c "Int" nil) []
    ∷ instance [] "Mon" (v "t") []
    ∷ class "Eq" "a" ("Mon" ∷ []) (sig "snd" (arrow (v "a") (arrow (v "a") (c "Bool" nil))) ∷ []) (body "eq" (lam "q" (bind "f" (ev "q") (ev "f"))) ∷ [])
    ∷ instance [] "Eq" (c "Int" nil) (body "snd" (lam "w" (eapp (ev "snd") (ev "w"))) ∷ [])
    ∷ class "Num" "a" ("Eq" ∷ []) (sig "shw" (arrow (v "a") (c "List" ((v "a") ◂ nil))) ∷ []) []
    ∷ define "comp" (bind "u" (lam "v" (ev "v")) (eapp (ev "u") (lam "y" (bind "q" (lam "x" (ev "x")) (ebool true)))))
    ∷ check (lam "u" (eapp (eapp (ev "primEqInt") (ev "u")) (ev "u")))
    ∷ define "g" (ebool true)
    ∷ check (lam "x" (bind "h" (lam "y" (bind "k" (eapp (eapp (lam "p" (lam "q" (ev "p"))) (eapp (eapp (ev "snd") (ev "x")) (ev "x"))) (eapp (ev "snd") (ev "x"))) (eapp (eapp (lam "p" (lam "q" (ev "q"))) (ev "k")) (eapp (ev "snd") (ev "x"))))) (eapp (ev "h") (ev "x"))))
    ∷ check (lam "p" (lam "u" (ebool false)))
    ∷ []

s_5002838_computed : metered 512 65536 512 s_5002838 ≡ said "declarations 11\n0 0 - | 0 33 0 0\n1 0 - | 2 35 0 0\n2 18 Mon t | 3 35 0 0\n3 0 - | 11 46 0 0\n4 16 Eq Int | 64 46 0 0\n5 0 - | 9 55 0 0\n6 0 [] (-> a Bool) | 71 58 5 0\n7 0 [] (-> Int Bool) = (lam u (app (app primEqInt u) u)) | 65 58 8 0\n8 0 [] Bool | 5 59 8 0\n9 0 [Eq a] (-> a (-> a Bool)) = (dabs [d3 Eq a] (lam x (let h (dabs [d0 Eq a] (lam y (let k (app (app (lam p (lam q p)) (app (app (proj d0 snd) x) x)) (app (proj d1 snd) x)) (app (app (lam p (lam q q)) k) (app (proj d0 snd) x))))) (app (dapp h d3) x)))) | 505 59 27 4\n10 0 [] (-> a (-> b Bool)) = (lam p (lam u false)) | 21 59 29 4\n"
unfolding everything metered said
s_5002838_computed = refl

abbrev s_5002866 : List Decl
s_5002866 =
    class "Deep" "a" [] (sig "f0" (arrow (arrow (arrow (arrow (arrow (arrow (arrow (arrow (arrow (arrow (arrow (arrow (arrow (arrow (arrow (arrow (arrow (arrow (arrow (arrow (arrow (arrow (arrow (arrow (arrow (arrow (arrow (arrow (arrow (arrow (arrow (arrow (arrow (arrow (arrow (arrow (arrow (arrow (v "b") (c "Int" nil)) (c "Int" nil)) (c "Int" nil)) (c "Int" nil)) (c "Int" nil)) (c "Int" nil)) (c "Int" nil)) (c "Int" nil)) (c "Int" nil)) (c "Int" nil)) (c "Int" nil)) (c "Int" nil)) (c "Int" nil)) (c "Int" nil)) (c "Int" nil)) (c "Int" nil)) (c "Int" nil)) (c "Int" nil)) (c "Int" nil)) (c "Int" nil)) (c "Int" nil)) (c "Int" nil)) (c "Int" nil)) (c "Int" nil)) (c "Int" nil)) (c "Int" nil)) (c "Int" nil)) (c "Int" nil)) (c "Int" nil)) (c "Int" nil)) (c "Int" nil)) (c "Int" nil)) (c "Int" nil)) (c "Int" nil)) (c "Int" nil)) (c "Int" nil)) (v "a")) (arrow (v "b") (arrow (arrow (arrow (arrow (arrow (arrow (arrow (arrow (arrow (arrow (arrow (arrow (arrow (arrow (arrow (arrow (arrow (arrow (arrow (arrow (arrow (arrow (arrow (arrow (arrow (arrow (arrow (arrow (arrow (arrow (arrow (arrow (arrow (arrow (arrow (arrow (v "b") (c "Int" nil)) (c "Int" nil)) (c "Int" nil)) (c "Int" nil)) (c "Int" nil)) (c "Int" nil)) (c "Int" nil)) (c "Int" nil)) (c "Int" nil)) (c "Int" nil)) (c "Int" nil)) (c "Int" nil)) (c "Int" nil)) (c "Int" nil)) (c "Int" nil)) (c "Int" nil)) (c "Int" nil)) (c "Int" nil)) (c "Int" nil)) (c "Int" nil)) (c "Int" nil)) (c "Int" nil)) (c "Int" nil)) (c "Int" nil)) (c "Int" nil)) (c "Int" nil)) (c "Int" nil)) (c "Int" nil)) (c "Int" nil)) (c "Int" nil)) (c "Int" nil)) (c "Int" nil)) (c "Int" nil)) (c "Int" nil)) (c "Int" nil)) (c "Int" nil)))) ∷ sig "u" (arrow (arrow (arrow (arrow (arrow (arrow (arrow (arrow (arrow (arrow (arrow (arrow (arrow (arrow (arrow (arrow (arrow (arrow (arrow (arrow (arrow (arrow (arrow (arrow (arrow (arrow (arrow (arrow (arrow (arrow (arrow (arrow (arrow (arrow (arrow (arrow (arrow (arrow (arrow (arrow (arrow (arrow (arrow (arrow (arrow (arrow (arrow (arrow (arrow (arrow (arrow (arrow (arrow (v "a") (c "Int" nil)) (c "Int" nil)) (c "Int" nil)) (c "Int" nil)) (c "Int" nil)) (c "Int" nil)) (c "Int" nil)) (c "Int" nil)) (c "Int" nil)) (c "Int" nil)) (c "Int" nil)) (c "Int" nil)) (c "Int" nil)) (c "Int" nil)) (c "Int" nil)) (c "Int" nil)) (c "Int" nil)) (c "Int" nil)) (c "Int" nil)) (c "Int" nil)) (c "Int" nil)) (c "Int" nil)) (c "Int" nil)) (c "Int" nil)) (c "Int" nil)) (c "Int" nil)) (c "Int" nil)) (c "Int" nil)) (c "Int" nil)) (c "Int" nil)) (c "Int" nil)) (c "Int" nil)) (c "Int" nil)) (c "Int" nil)) (c "Int" nil)) (c "Int" nil)) (c "Int" nil)) (c "Int" nil)) (c "Int" nil)) (c "Int" nil)) (c "Int" nil)) (c "Int" nil)) (c "Int" nil)) (c "Int" nil)) (c "Int" nil)) (c "Int" nil)) (c "Int" nil)) (c "Int" nil)) (c "Int" nil)) (c "Int" nil)) (c "Int" nil)) (c "Int" nil)) (c "Int" nil)) ∷ []) (body "f0" (eint 1) ∷ body "u" (eint 1) ∷ [])
    ∷ instance [] "Deep" (c "Int" nil) []
    ∷ check (lam "g" (eapp (ev "g") (eapp (eapp (ev "f0") (ev "g")) (ev "u"))))
    ∷ define "f" (lam "g" (eapp (ev "g") (eapp (eapp (ev "f0") (ev "g")) (ev "u"))))
    ∷ check (lam "p" (ebool false))
    ∷ []

s_5002866_computed : metered 512 65536 512 s_5002866 ≡ said "declarations 5\n0 6 - | 512 33 0 0\n1 19 Deep | 1 33 0 0\n2 11 f0 | 8 33 0 0\n3 11 f0 | 8 33 0 0\n4 0 [] (-> a Bool) = (lam p false) | 13 33 1 0\n"
unfolding everything metered said
s_5002866_computed = refl

abbrev s_5002966 : List Decl
s_5002966 =
    check (eapp (eapp (eapp (eapp (eapp (eapp (eapp (eapp (eapp (eapp (eapp (eapp (eapp (eapp (eapp (eapp (eapp (eapp (eapp (eapp (eapp (eapp (eapp (eapp (eapp (eapp (eapp (eapp (eapp (eapp (eapp (eapp (eapp (eapp (eapp (eapp (eapp (eapp (eapp (eapp (eapp (eapp (eapp (eapp (eapp (eapp (eapp (eapp (eapp (eapp (eapp (eapp (eapp (eapp (eapp (eapp (eapp (eapp (eapp (eapp (eapp (eapp (eapp (eapp (eapp (eapp (eapp (eapp (eapp (eapp (eapp (eapp (eapp (eapp (eapp (eapp (eapp (eapp (eapp (eapp (eapp (eapp (eapp (eapp (eapp (eapp (eapp (eapp (eapp (eapp (eapp (eapp (eapp (eapp (eapp (eapp (eapp (eapp (eapp (eapp (eapp (eapp (eapp (eapp (eapp (eapp (eapp (eapp (eapp (eapp (eapp (eapp (eapp (eapp (eapp (eapp (eapp (eapp (eapp (eapp (eapp (eapp (eapp (eapp (eapp (eapp (eapp (eapp (eapp (eapp (eapp (eapp (eapp (eapp (eapp (eapp (eapp (eapp (eapp (eapp (eapp (eapp (eapp (eapp (eapp (eapp (eapp (eapp (eapp (eapp (eapp (eapp (eapp (eapp (eapp (eapp (eapp (eapp (eapp (eapp (eapp (eapp (eapp (eapp (eapp (eapp (eapp (eapp (eapp (eapp (eapp (eapp (eapp (eapp (eapp (eapp (eapp (eapp (eapp (eapp (eapp (eapp (eapp (eapp (eapp (eapp (eapp (eapp (eapp (eapp (eapp (eapp (eapp (eapp (eapp (eapp (eapp (eapp (eapp (eapp (eapp (eapp (eapp (eapp (eapp (eapp (eapp (eapp (eapp (eapp (eapp (eapp (eapp (eapp (eapp (eapp (eapp (eapp (eapp (eapp (eapp (eapp (eapp (eapp (eapp (eapp (eapp (eapp (eapp (eapp (eapp (eapp (eapp (eapp (eapp (eapp (eapp (eapp (eapp (eapp (eapp (eapp (eapp (eapp (eapp (eapp (eapp (eapp (eapp (eapp (eapp (eapp (eapp (eapp (eapp (eapp (eint 7) (eint 1)) (eint 1)) (eint 1)) (eint 1)) (eint 1)) (eint 1)) (eint 1)) (eint 1)) (eint 1)) (eint 1)) (eint 1)) (eint 1)) (eint 1)) (eint 1)) (eint 1)) (eint 1)) (eint 1)) (eint 1)) (eint 1)) (eint 1)) (eint 1)) (eint 1)) (eint 1)) (eint 1)) (eint 1)) (eint 1)) (eint 1)) (eint 1)) (eint 1)) (eint 1)) (eint 1)) (eint 1)) (eint 1)) (eint 1)) (eint 1)) (eint 1)) (eint 1)) (eint 1)) (eint 1)) (eint 1)) (eint 1)) (eint 1)) (eint 1)) (eint 1)) (eint 1)) (eint 1)) (eint 1)) (eint 1)) (eint 1)) (eint 1)) (eint 1)) (eint 1)) (eint 1)) (eint 1)) (eint 1)) (eint 1)) (eint 1)) (eint 1)) (eint 1)) (eint 1)) (eint 1)) (eint 1)) (eint 1)) (eint 1)) (eint 1)) (eint 1)) (eint 1)) (eint 1)) (eint 1)) (eint 1)) (eint 1)) (eint 1)) (eint 1)) (eint 1)) (eint 1)) (eint 1)) (eint 1)) (eint 1)) (eint 1)) (eint 1)) (eint 1)) (eint 1)) (eint 1)) (eint 1)) (eint 1)) (eint 1)) (eint 1)) (eint 1)) (eint 1)) (eint 1)) (eint 1)) (eint 1)) (eint 1)) (eint 1)) (eint 1)) (eint 1)) (eint 1)) (eint 1)) (eint 1)) (eint 1)) (eint 1)) (eint 1)) (eint 1)) (eint 1)) (eint 1)) (eint 1)) (eint 1)) (eint 1)) (eint 1)) (eint 1)) (eint 1)) (eint 1)) (eint 1)) (eint 1)) (eint 1)) (eint 1)) (eint 1)) (eint 1)) (eint 1)) (eint 1)) (eint 1)) (eint 1)) (eint 1)) (eint 1)) (eint 1)) (eint 1)) (eint 1)) (eint 1)) (eint 1)) (eint 1)) (eint 1)) (eint 1)) (eint 1)) (eint 1)) (eint 1)) (eint 1)) (eint 1)) (eint 1)) (eint 1)) (eint 1)) (eint 1)) (eint 1)) (eint 1)) (eint 1)) (eint 1)) (eint 1)) (eint 1)) (eint 1)) (eint 1)) (eint 1)) (eint 1)) (eint 1)) (eint 1)) (eint 1)) (eint 1)) (eint 1)) (eint 1)) (eint 1)) (eint 1)) (eint 1)) (eint 1)) (eint 1)) (eint 1)) (eint 1)) (eint 1)) (eint 1)) (eint 1)) (eint 1)) (eint 1)) (eint 1)) (eint 1)) (eint 1)) (eint 1)) (eint 1)) (eint 1)) (eint 1)) (eint 1)) (eint 1)) (eint 1)) (eint 1)) (eint 1)) (eint 1)) (eint 1)) (eint 1)) (eint 1)) (eint 1)) (eint 1)) (eint 1)) (eint 1)) (eint 1)) (eint 1)) (eint 1)) (eint 1)) (eint 1)) (eint 1)) (eint 1)) (eint 1)) (eint 1)) (eint 1)) (eint 1)) (eint 1)) (eint 1)) (eint 1)) (eint 1)) (eint 1)) (eint 1)) (eint 1)) (eint 1)) (eint 1)) (eint 1)) (eint 1)) (eint 1)) (eint 1)) (eint 1)) (eint 1)) (eint 1)) (eint 1)) (eint 1)) (eint 1)) (eint 1)) (eint 1)) (eint 1)) (eint 1)) (eint 1)) (eint 1)) (eint 1)) (eint 1)) (eint 1)) (eint 1)) (eint 1)) (eint 1)) (eint 1)) (eint 1)) (eint 1)) (eint 1)) (eint 1)) (eint 1)) (eint 1)) (eint 1)) (eint 1)) (eint 1)) (eint 1)) (eint 1)) (eint 1)) (eint 1)) (eint 1)) (eint 1)) (eint 1)) (eint 1)) (eint 1)) (eint 1)) (eint 1)) (eint 1)) (eint 1)) (eint 1)) (eint 1))
    ∷ []

s_5002966_computed : metered 512 65536 512 s_5002966 ≡ said "declarations 1\n0 7 - | 256 33 0 0\n"
unfolding everything metered said
s_5002966_computed = refl

abbrev s_5002986 : List Decl
s_5002986 =
    class "Eq" "a" [] (sig "eq" (arrow (v "a") (arrow (v "a") (c "Bool" nil))) ∷ []) (body "eq" (eint 1) ∷ [])
    ∷ class "Mk" "a" [] (sig "mk" (arrow (v "a") (arrow (v "b") (c "Pair" ((v "a") ◂ (v "b") ◂ nil)))) ∷ []) (body "mk" (eint 1) ∷ [])
    ∷ instance [] "Mk" (c "Int" nil) []
    ∷ instance [] "Mk" (c "Bool" nil) []
    ∷ instance [] "Mk" (c "Pair" ((v "a") ◂ (v "b") ◂ nil)) []
    ∷ instance (at "Eq" (v "a") ∷ []) "Eq" (arrow (c "Int" nil) (v "a")) []
    ∷ instance (at "Eq" (v "a") ∷ at "Eq" (v "a") ∷ []) "Eq" (c "Pair" ((c "Bool" nil) ◂ (v "a") ◂ nil)) []
    ∷ instance [] "Eq" (c "Int" nil) []
    ∷ instance (at "Mk" (v "b") ∷ []) "Eq" (c "Pair" ((v "a") ◂ (c "Int" nil) ◂ nil)) []
    ∷ check (eapp (ev "eq") (eapp (ev "primAddInt") (eint 1)))
    ∷ check (eapp (ev "eq") (eapp (eapp (ev "mk") (eint 5)) (eint 5)))
    ∷ check (eapp (ev "eq") (eapp (eapp (ev "mk") (ebool true)) (eint 8)))
    ∷ check (eapp (ev "eq") (eapp (ev "primAddInt") (eint 1)))
    ∷ define "id" (eapp (ev "eq") (eapp (eapp (ev "mk") (eapp (eapp (ev "mk") (eint 2)) (eint 2))) (ebool true)))
    ∷ instance [] "Eq" (c "Pair" ((v "a") ◂ (c "Int" nil) ◂ nil)) []
    ∷ check (lam "u" (ev "primNotBool"))
    ∷ []

s_5002986_computed : metered 512 65536 512 s_5002986 ≡ said "declarations 16\n0 0 - | 11 44 0 0\n1 0 - | 15 59 0 0\n2 0 - | 4 61 0 0\n3 0 - | 6 63 0 0\n4 0 - | 10 67 0 0\n5 0 - | 7 72 0 0\n6 0 - | 10 78 0 0\n7 0 - | 8 80 0 0\n8 0 - | 16 85 0 0\n9 0 [] (-> (-> Int Int) Bool) = (app (proj (dapp (rec Eq (-> Int Int)) (rec Eq Int)) eq) (app primAddInt 1)) | 93 85 3 1\n10 16 Mk b | 117 85 3 1\n11 0 [] (-> (Pair Bool Int) Bool) = (app (proj (dapp (rec Eq (Pair Bool Int)) (rec Eq Int) (rec Eq Int)) eq) (app (app (proj (rec Mk Bool) mk) true) 8)) | 160 85 9 3\n12 0 [] (-> (-> Int Int) Bool) = (app (proj (dapp (rec Eq (-> Int Int)) (rec Eq Int)) eq) (app primAddInt 1)) | 93 85 12 4\n13 16 Eq (Pair (Pair Int Int) Bool) | 246 85 12 4\n14 18 Eq (Pair a Int) | 18 85 12 4\n15 0 [] (-> a (-> Bool Bool)) = (lam u primNotBool) | 20 85 13 4\n"
unfolding everything metered said
s_5002986_computed = refl

abbrev s_5003140 : List Decl
s_5003140 =
    class "Eq" "a" [] (sig "eq" (arrow (v "a") (arrow (v "a") (c "Bool" nil))) ∷ []) (body "eq" (eint 1) ∷ [])
    ∷ instance [] "Eq" (c "Int" nil) []
    ∷ instance (at "Eq" (v "a") ∷ []) "Eq" (c "Pair" ((c "Int" nil) ◂ (v "a") ◂ nil)) []
    ∷ class "Deep" "a" [] (sig "mk" (arrow (v "a") (c "Pair" ((c "Int" nil) ◂ (c "Pair" ((c "Int" nil) ◂ (c "Pair" ((c "Int" nil) ◂ (c "Pair" ((c "Int" nil) ◂ (c "Pair" ((c "Int" nil) ◂ (c "Pair" ((c "Int" nil) ◂ (c "Pair" ((c "Int" nil) ◂ (c "Pair" ((c "Int" nil) ◂ (c "Pair" ((c "Int" nil) ◂ (c "Pair" ((c "Int" nil) ◂ (c "Pair" ((c "Int" nil) ◂ (c "Pair" ((c "Int" nil) ◂ (c "Pair" ((c "Int" nil) ◂ (c "Pair" ((c "Int" nil) ◂ (c "Pair" ((c "Int" nil) ◂ (c "Pair" ((c "Int" nil) ◂ (c "Pair" ((c "Int" nil) ◂ (c "Pair" ((c "Int" nil) ◂ (c "Pair" ((c "Int" nil) ◂ (c "Pair" ((c "Int" nil) ◂ (c "Pair" ((c "Int" nil) ◂ (c "Pair" ((c "Int" nil) ◂ (c "Pair" ((c "Int" nil) ◂ (c "Pair" ((c "Int" nil) ◂ (c "Int" nil) ◂ nil)) ◂ nil)) ◂ nil)) ◂ nil)) ◂ nil)) ◂ nil)) ◂ nil)) ◂ nil)) ◂ nil)) ◂ nil)) ◂ nil)) ◂ nil)) ◂ nil)) ◂ nil)) ◂ nil)) ◂ nil)) ◂ nil)) ◂ nil)) ◂ nil)) ◂ nil)) ◂ nil)) ◂ nil)) ◂ nil)) ◂ nil))) ∷ []) (body "mk" (eint 1) ∷ [])
    ∷ instance [] "Deep" (c "Int" nil) []
    ∷ check (eapp (ev "mk") (eint 1))
    ∷ check (eapp (ev "eq") (eapp (ev "mk") (eint 1)))
    ∷ define "g" (lam "x" (eapp (ev "eq") (eapp (ev "mk") (ev "x"))))
    ∷ instance [] "Eq" (c "Pair" ((c "Int" nil) ◂ (c "Pair" ((c "Int" nil) ◂ (c "Pair" ((c "Int" nil) ◂ (c "Pair" ((c "Int" nil) ◂ (c "Pair" ((c "Int" nil) ◂ (c "Pair" ((c "Int" nil) ◂ (c "Pair" ((c "Int" nil) ◂ (c "Pair" ((c "Int" nil) ◂ (c "Pair" ((c "Int" nil) ◂ (c "Pair" ((c "Int" nil) ◂ (c "Pair" ((c "Int" nil) ◂ (c "Pair" ((c "Int" nil) ◂ (c "Pair" ((c "Int" nil) ◂ (c "Pair" ((c "Int" nil) ◂ (c "Pair" ((c "Int" nil) ◂ (c "Pair" ((c "Int" nil) ◂ (c "Pair" ((c "Int" nil) ◂ (c "Pair" ((c "Int" nil) ◂ (c "Pair" ((c "Int" nil) ◂ (c "Pair" ((c "Int" nil) ◂ (c "Pair" ((c "Int" nil) ◂ (c "Pair" ((c "Int" nil) ◂ (c "Pair" ((c "Int" nil) ◂ (c "Pair" ((c "Int" nil) ◂ (c "Int" nil) ◂ nil)) ◂ nil)) ◂ nil)) ◂ nil)) ◂ nil)) ◂ nil)) ◂ nil)) ◂ nil)) ◂ nil)) ◂ nil)) ◂ nil)) ◂ nil)) ◂ nil)) ◂ nil)) ◂ nil)) ◂ nil)) ◂ nil)) ◂ nil)) ◂ nil)) ◂ nil)) ◂ nil)) ◂ nil)) ◂ nil)) ◂ nil)) []
    ∷ instance [] "Deep" (c "Pair" ((c "Int" nil) ◂ (c "Pair" ((c "Int" nil) ◂ (c "Pair" ((c "Int" nil) ◂ (c "Pair" ((c "Int" nil) ◂ (c "Pair" ((c "Int" nil) ◂ (c "Pair" ((c "Int" nil) ◂ (c "Pair" ((c "Int" nil) ◂ (c "Pair" ((c "Int" nil) ◂ (c "Pair" ((c "Int" nil) ◂ (c "Pair" ((c "Int" nil) ◂ (c "Pair" ((c "Int" nil) ◂ (c "Pair" ((c "Int" nil) ◂ (c "Pair" ((c "Int" nil) ◂ (c "Pair" ((c "Int" nil) ◂ (c "Pair" ((c "Int" nil) ◂ (c "Pair" ((c "Int" nil) ◂ (c "Pair" ((c "Int" nil) ◂ (c "Pair" ((c "Int" nil) ◂ (c "Pair" ((c "Int" nil) ◂ (c "Pair" ((c "Int" nil) ◂ (c "Pair" ((c "Int" nil) ◂ (c "Pair" ((c "Int" nil) ◂ (c "Pair" ((c "Int" nil) ◂ (c "Pair" ((c "Int" nil) ◂ (c "Pair" ((c "Int" nil) ◂ (v "b") ◂ nil)) ◂ nil)) ◂ nil)) ◂ nil)) ◂ nil)) ◂ nil)) ◂ nil)) ◂ nil)) ◂ nil)) ◂ nil)) ◂ nil)) ◂ nil)) ◂ nil)) ◂ nil)) ◂ nil)) ◂ nil)) ◂ nil)) ◂ nil)) ◂ nil)) ◂ nil)) ◂ nil)) ◂ nil)) ◂ nil)) ◂ nil)) ◂ nil)) []
    ∷ check (lam "q" (lam "w" (eapp (eapp (ev "primAndBool") (ebool false)) (ebool true))))
    ∷ []

s_5003140_computed : metered 512 65536 512 s_5003140 ≡ said "declarations 11\n0 0 - | 11 44 0 0\n1 0 - | 4 46 0 0\n2 0 - | 9 51 0 0\n3 0 - | 103 154 0 0\n4 0 - | 4 156 0 0\n5 0 [] (Pair Int (Pair Int (Pair Int (Pair Int (Pair Int (Pair Int (Pair Int (Pair Int (Pair Int (Pair Int (Pair Int (Pair Int (Pair Int (Pair Int (Pair Int (Pair Int (Pair Int (Pair Int (Pair Int (Pair Int (Pair Int (Pair Int (Pair Int (Pair Int Int)))))))))))))))))))))))) = (app (proj (rec Deep Int) mk) 1) | 273 156 2 1\n6 6 - | 512 156 2 1\n7 6 - | 512 156 2 1\n8 18 Eq (Pair Int (Pair Int (Pair Int (Pair Int (Pair Int (Pair Int (Pair Int (Pair Int (Pair Int (Pair Int (Pair Int (Pair Int (Pair Int (Pair Int (Pair Int (Pair Int (Pair Int (Pair Int (Pair Int (Pair Int (Pair Int (Pair Int (Pair Int (Pair Int Int)))))))))))))))))))))))) | 57 156 2 1\n9 0 - | 56 208 2 1\n10 0 [] (-> a (-> b Bool)) = (lam q (lam w (app (app primAndBool false) true))) | 70 208 6 1\n"
unfolding everything metered said
s_5003140_computed = refl

abbrev s_5003388 : List Decl
s_5003388 =
    class "Leaf" "a" [] (sig "leaf" (v "a") ∷ []) (body "leaf" (eint 1) ∷ [])
    ∷ instance [] "Leaf" (c "Int" nil) []
    ∷ instance [] "Leaf" (c "Bool" nil) []
    ∷ instance [] "Leaf" (c "List" ((c "Int" nil) ◂ nil)) (body "leaf" (bind "x" (bind "x" (bind "x" (bind "x" (bind "x" (bind "x" (bind "x" (bind "x" (bind "x" (bind "x" (bind "x" (bind "x" (bind "x" (bind "x" (bind "x" (bind "x" (bind "x" (bind "x" (bind "x" (bind "x" (bind "x" (bind "x" (bind "x" (bind "x" (bind "x" (bind "x" (bind "x" (bind "x" (bind "x" (bind "x" (bind "x" (bind "x" (bind "x" (bind "x" (bind "x" (bind "x" (bind "x" (bind "x" (bind "x" (bind "x" (bind "x" (bind "x" (bind "x" (bind "x" (bind "x" (bind "x" (bind "x" (bind "x" (bind "x" (bind "x" (bind "x" (bind "x" (bind "x" (bind "x" (bind "x" (bind "x" (bind "x" (bind "x" (bind "x" (bind "x" (bind "x" (bind "x" (bind "x" (bind "x" (bind "x" (bind "x" (bind "x" (bind "x" (bind "x" (bind "x" (bind "x" (bind "x" (bind "x" (bind "x" (bind "x" (bind "x" (bind "x" (bind "x" (bind "x" (bind "x" (bind "x" (bind "x" (bind "x" (bind "x" (bind "x" (bind "x" (bind "x" (bind "x" (bind "x" (bind "x" (bind "x" (bind "x" (bind "x" (bind "x" (bind "x" (bind "x" (bind "x" (bind "x" (bind "x" (bind "x" (bind "x" (bind "x" (bind "x" (bind "x" (bind "x" (bind "x" (bind "x" (bind "x" (bind "x" (bind "x" (bind "x" (bind "x" (bind "x" (bind "x" (bind "x" (bind "x" (bind "x" (bind "x" (bind "x" (bind "x" (bind "x" (bind "x" (bind "x" (bind "x" (bind "x" (bind "x" (bind "x" (bind "x" (bind "x" (bind "x" (bind "x" (bind "x" (bind "x" (bind "x" (bind "x" (bind "x" (bind "x" (bind "x" (bind "x" (bind "x" (bind "x" (bind "x" (bind "x" (bind "x" (bind "x" (bind "x" (bind "x" (bind "x" (bind "x" (bind "x" (bind "x" (bind "x" (bind "x" (bind "x" (bind "x" (bind "x" (bind "x" (bind "x" (bind "x" (bind "x" (bind "x" (bind "x" (bind "x" (bind "x" (bind "x" (bind "x" (bind "x" (bind "x" (bind "x" (bind "x" (bind "x" (bind "x" (bind "x" (bind "x" (bind "x" (bind "x" (bind "x" (bind "x" (bind "x" (bind "x" (bind "x" (bind "x" (bind "x" (bind "x" (bind "x" (bind "x" (bind "x" (bind "x" (bind "x" (bind "x" (bind "x" (bind "x" (bind "x" (bind "x" (bind "x" (bind "x" (bind "x" (bind "x" (bind "x" (bind "x" (bind "x" (bind "x" (bind "x" (bind "x" (bind "x" (bind "x" (bind "x" (bind "x" (bind "x" (bind "x" (bind "x" (bind "x" (bind "x" (bind "x" (bind "x" (bind "x" (bind "x" (bind "x" (bind "x" (bind "x" (bind "x" (bind "x" (bind "x" (bind "x" (bind "x" (bind "x" (bind "x" (bind "x" (bind "x" (bind "x" (bind "x" (bind "x" (bind "x" (bind "x" (bind "x" (bind "x" (bind "x" (bind "x" (bind "x" (bind "x" (bind "x" (bind "x" (bind "x" (bind "x" (bind "x" (bind "x" (bind "x" (bind "x" (bind "x" (bind "x" (bind "x" (bind "x" (bind "x" (bind "x" (bind "x" (bind "x" (ev "leaf") (ev "x")) (ev "x")) (ev "x")) (ev "x")) (ev "x")) (ev "x")) (ev "x")) (ev "x")) (ev "x")) (ev "x")) (ev "x")) (ev "x")) (ev "x")) (ev "x")) (ev "x")) (ev "x")) (ev "x")) (ev "x")) (ev "x")) (ev "x")) (ev "x")) (ev "x")) (ev "x")) (ev "x")) (ev "x")) (ev "x")) (ev "x")) (ev "x")) (ev "x")) (ev "x")) (ev "x")) (ev "x")) (ev "x")) (ev "x")) (ev "x")) (ev "x")) (ev "x")) (ev "x")) (ev "x")) (ev "x")) (ev "x")) (ev "x")) (ev "x")) (ev "x")) (ev "x")) (ev "x")) (ev "x")) (ev "x")) (ev "x")) (ev "x")) (ev "x")) (ev "x")) (ev "x")) (ev "x")) (ev "x")) (ev "x")) (ev "x")) (ev "x")) (ev "x")) (ev "x")) (ev "x")) (ev "x")) (ev "x")) (ev "x")) (ev "x")) (ev "x")) (ev "x")) (ev "x")) (ev "x")) (ev "x")) (ev "x")) (ev "x")) (ev "x")) (ev "x")) (ev "x")) (ev "x")) (ev "x")) (ev "x")) (ev "x")) (ev "x")) (ev "x")) (ev "x")) (ev "x")) (ev "x")) (ev "x")) (ev "x")) (ev "x")) (ev "x")) (ev "x")) (ev "x")) (ev "x")) (ev "x")) (ev "x")) (ev "x")) (ev "x")) (ev "x")) (ev "x")) (ev "x")) (ev "x")) (ev "x")) (ev "x")) (ev "x")) (ev "x")) (ev "x")) (ev "x")) (ev "x")) (ev "x")) (ev "x")) (ev "x")) (ev "x")) (ev "x")) (ev "x")) (ev "x")) (ev "x")) (ev "x")) (ev "x")) (ev "x")) (ev "x")) (ev "x")) (ev "x")) (ev "x")) (ev "x")) (ev "x")) (ev "x")) (ev "x")) (ev "x")) (ev "x")) (ev "x")) (ev "x")) (ev "x")) (ev "x")) (ev "x")) (ev "x")) (ev "x")) (ev "x")) (ev "x")) (ev "x")) (ev "x")) (ev "x")) (ev "x")) (ev "x")) (ev "x")) (ev "x")) (ev "x")) (ev "x")) (ev "x")) (ev "x")) (ev "x")) (ev "x")) (ev "x")) (ev "x")) (ev "x")) (ev "x")) (ev "x")) (ev "x")) (ev "x")) (ev "x")) (ev "x")) (ev "x")) (ev "x")) (ev "x")) (ev "x")) (ev "x")) (ev "x")) (ev "x")) (ev "x")) (ev "x")) (ev "x")) (ev "x")) (ev "x")) (ev "x")) (ev "x")) (ev "x")) (ev "x")) (ev "x")) (ev "x")) (ev "x")) (ev "x")) (ev "x")) (ev "x")) (ev "x")) (ev "x")) (ev "x")) (ev "x")) (ev "x")) (ev "x")) (ev "x")) (ev "x")) (ev "x")) (ev "x")) (ev "x")) (ev "x")) (ev "x")) (ev "x")) (ev "x")) (ev "x")) (ev "x")) (ev "x")) (ev "x")) (ev "x")) (ev "x")) (ev "x")) (ev "x")) (ev "x")) (ev "x")) (ev "x")) (ev "x")) (ev "x")) (ev "x")) (ev "x")) (ev "x")) (ev "x")) (ev "x")) (ev "x")) (ev "x")) (ev "x")) (ev "x")) (ev "x")) (ev "x")) (ev "x")) (ev "x")) (ev "x")) (ev "x")) (ev "x")) (ev "x")) (ev "x")) (ev "x")) (ev "x")) (ev "x")) (ev "x")) (ev "x")) (ev "x")) (ev "x")) (ev "x")) (ev "x")) (ev "x")) (ev "x")) (ev "x")) (ev "x")) (ev "x")) (ev "x")) (ev "x")) (ev "x")) (ev "x")) (ev "x")) (ev "x")) (ev "x")) (ev "x")) (ev "x")) (ev "x")) (ev "x")) (ev "x")) (ev "x")) (ev "x")) (ev "x")) (ev "x")) ∷ [])
    ∷ define "deep" (bind "x" (bind "x" (bind "x" (bind "x" (bind "x" (bind "x" (bind "x" (bind "x" (bind "x" (bind "x" (bind "x" (bind "x" (bind "x" (bind "x" (bind "x" (bind "x" (bind "x" (bind "x" (bind "x" (bind "x" (bind "x" (bind "x" (bind "x" (bind "x" (bind "x" (bind "x" (bind "x" (bind "x" (bind "x" (bind "x" (bind "x" (bind "x" (bind "x" (bind "x" (bind "x" (bind "x" (bind "x" (bind "x" (bind "x" (bind "x" (bind "x" (bind "x" (bind "x" (bind "x" (bind "x" (bind "x" (bind "x" (bind "x" (bind "x" (bind "x" (bind "x" (bind "x" (bind "x" (bind "x" (bind "x" (bind "x" (bind "x" (bind "x" (bind "x" (bind "x" (bind "x" (bind "x" (bind "x" (bind "x" (bind "x" (bind "x" (bind "x" (bind "x" (bind "x" (bind "x" (bind "x" (bind "x" (bind "x" (bind "x" (bind "x" (bind "x" (bind "x" (bind "x" (bind "x" (bind "x" (bind "x" (bind "x" (bind "x" (bind "x" (bind "x" (bind "x" (bind "x" (bind "x" (bind "x" (bind "x" (bind "x" (bind "x" (bind "x" (bind "x" (bind "x" (bind "x" (bind "x" (bind "x" (bind "x" (bind "x" (bind "x" (bind "x" (bind "x" (bind "x" (bind "x" (bind "x" (bind "x" (bind "x" (bind "x" (bind "x" (bind "x" (bind "x" (bind "x" (bind "x" (bind "x" (bind "x" (bind "x" (bind "x" (bind "x" (bind "x" (bind "x" (bind "x" (bind "x" (bind "x" (bind "x" (bind "x" (bind "x" (bind "x" (bind "x" (bind "x" (bind "x" (bind "x" (bind "x" (bind "x" (bind "x" (bind "x" (bind "x" (bind "x" (bind "x" (bind "x" (bind "x" (bind "x" (bind "x" (bind "x" (bind "x" (bind "x" (bind "x" (bind "x" (bind "x" (bind "x" (bind "x" (bind "x" (bind "x" (bind "x" (bind "x" (bind "x" (bind "x" (bind "x" (bind "x" (bind "x" (bind "x" (bind "x" (bind "x" (bind "x" (bind "x" (bind "x" (bind "x" (bind "x" (bind "x" (bind "x" (bind "x" (bind "x" (bind "x" (bind "x" (bind "x" (bind "x" (bind "x" (bind "x" (bind "x" (bind "x" (bind "x" (bind "x" (bind "x" (bind "x" (bind "x" (bind "x" (bind "x" (bind "x" (bind "x" (bind "x" (bind "x" (bind "x" (bind "x" (bind "x" (bind "x" (bind "x" (bind "x" (bind "x" (bind "x" (bind "x" (bind "x" (bind "x" (bind "x" (bind "x" (bind "x" (bind "x" (bind "x" (bind "x" (bind "x" (bind "x" (bind "x" (bind "x" (bind "x" (bind "x" (bind "x" (bind "x" (bind "x" (bind "x" (bind "x" (bind "x" (bind "x" (bind "x" (bind "x" (bind "x" (bind "x" (bind "x" (bind "x" (bind "x" (bind "x" (bind "x" (bind "x" (bind "x" (bind "x" (bind "x" (bind "x" (bind "x" (bind "x" (bind "x" (bind "x" (bind "x" (bind "x" (bind "x" (bind "x" (bind "x" (bind "x" (bind "x" (bind "x" (bind "x" (bind "x" (bind "x" (bind "x" (bind "x" (bind "x" (bind "x" (bind "x" (bind "x" (ev "leaf") (ev "x")) (ev "x")) (ev "x")) (ev "x")) (ev "x")) (ev "x")) (ev "x")) (ev "x")) (ev "x")) (ev "x")) (ev "x")) (ev "x")) (ev "x")) (ev "x")) (ev "x")) (ev "x")) (ev "x")) (ev "x")) (ev "x")) (ev "x")) (ev "x")) (ev "x")) (ev "x")) (ev "x")) (ev "x")) (ev "x")) (ev "x")) (ev "x")) (ev "x")) (ev "x")) (ev "x")) (ev "x")) (ev "x")) (ev "x")) (ev "x")) (ev "x")) (ev "x")) (ev "x")) (ev "x")) (ev "x")) (ev "x")) (ev "x")) (ev "x")) (ev "x")) (ev "x")) (ev "x")) (ev "x")) (ev "x")) (ev "x")) (ev "x")) (ev "x")) (ev "x")) (ev "x")) (ev "x")) (ev "x")) (ev "x")) (ev "x")) (ev "x")) (ev "x")) (ev "x")) (ev "x")) (ev "x")) (ev "x")) (ev "x")) (ev "x")) (ev "x")) (ev "x")) (ev "x")) (ev "x")) (ev "x")) (ev "x")) (ev "x")) (ev "x")) (ev "x")) (ev "x")) (ev "x")) (ev "x")) (ev "x")) (ev "x")) (ev "x")) (ev "x")) (ev "x")) (ev "x")) (ev "x")) (ev "x")) (ev "x")) (ev "x")) (ev "x")) (ev "x")) (ev "x")) (ev "x")) (ev "x")) (ev "x")) (ev "x")) (ev "x")) (ev "x")) (ev "x")) (ev "x")) (ev "x")) (ev "x")) (ev "x")) (ev "x")) (ev "x")) (ev "x")) (ev "x")) (ev "x")) (ev "x")) (ev "x")) (ev "x")) (ev "x")) (ev "x")) (ev "x")) (ev "x")) (ev "x")) (ev "x")) (ev "x")) (ev "x")) (ev "x")) (ev "x")) (ev "x")) (ev "x")) (ev "x")) (ev "x")) (ev "x")) (ev "x")) (ev "x")) (ev "x")) (ev "x")) (ev "x")) (ev "x")) (ev "x")) (ev "x")) (ev "x")) (ev "x")) (ev "x")) (ev "x")) (ev "x")) (ev "x")) (ev "x")) (ev "x")) (ev "x")) (ev "x")) (ev "x")) (ev "x")) (ev "x")) (ev "x")) (ev "x")) (ev "x")) (ev "x")) (ev "x")) (ev "x")) (ev "x")) (ev "x")) (ev "x")) (ev "x")) (ev "x")) (ev "x")) (ev "x")) (ev "x")) (ev "x")) (ev "x")) (ev "x")) (ev "x")) (ev "x")) (ev "x")) (ev "x")) (ev "x")) (ev "x")) (ev "x")) (ev "x")) (ev "x")) (ev "x")) (ev "x")) (ev "x")) (ev "x")) (ev "x")) (ev "x")) (ev "x")) (ev "x")) (ev "x")) (ev "x")) (ev "x")) (ev "x")) (ev "x")) (ev "x")) (ev "x")) (ev "x")) (ev "x")) (ev "x")) (ev "x")) (ev "x")) (ev "x")) (ev "x")) (ev "x")) (ev "x")) (ev "x")) (ev "x")) (ev "x")) (ev "x")) (ev "x")) (ev "x")) (ev "x")) (ev "x")) (ev "x")) (ev "x")) (ev "x")) (ev "x")) (ev "x")) (ev "x")) (ev "x")) (ev "x")) (ev "x")) (ev "x")) (ev "x")) (ev "x")) (ev "x")) (ev "x")) (ev "x")) (ev "x")) (ev "x")) (ev "x")) (ev "x")) (ev "x")) (ev "x")) (ev "x")) (ev "x")) (ev "x")) (ev "x")) (ev "x")) (ev "x")) (ev "x")) (ev "x")) (ev "x")) (ev "x")) (ev "x")) (ev "x")) (ev "x")) (ev "x")) (ev "x")) (ev "x")) (ev "x")) (ev "x")) (ev "x")) (ev "x")) (ev "x")) (ev "x")) (ev "x")) (ev "x")) (ev "x")) (ev "x")) (ev "x")) (ev "x")) (ev "x")) (ev "x")) (ev "x")) (ev "x"))
    ∷ check (ev "deep")
    ∷ []

s_5003388_computed : metered 512 65536 512 s_5003388 ≡ said "declarations 6\n0 0 - | 3 36 0 0\n1 0 - | 4 38 0 0\n2 0 - | 6 40 0 0\n3 7 - | 259 40 0 0\n4 7 - | 256 40 0 0\n5 11 deep | 1 40 0 0\n"
unfolding everything metered said
s_5003388_computed = refl

abbrev s_5003582 : List Decl
s_5003582 =
    class "Eq" "a" [] (sig "neg" (arrow (v "c") (v "c")) ∷ sig "nil" (arrow (c "Pair" ((v "a") ◂ nil)) (v "a")) ∷ []) []
    ∷ class "Bag" "t" [] (sig "conv" (c "Bool" nil) ∷ []) []
    ∷ instance (at "Bag" (v "a") ∷ at "Bag" (v "a") ∷ []) "Bag" (arrow (v "a") (v "tx")) (body "conv" (lam "conv" (ev "conv")) ∷ [])
    ∷ class "Bag" "a" [] [] []
    ∷ class "Show" "e" [] (sig "mk" (arrow (v "e") (v "b")) ∷ []) (body "mk" (bind "u" (eapp (ev "neg") (eapp (ev "mk") (ev "mk"))) (lam "p" (ev "conv"))) ∷ [])
    ∷ check (eapp (eapp (ev "primEqBool") (ebool true)) (eapp (ev "neg") (eapp (ev "mk") (ev "primAndBool"))))
    ∷ check (lam "x" (eapp (lam "u" (bind "comp" (eapp (ev "mk") (ev "x")) (bind "k" (eapp (ev "neg") (ev "x")) (bind "h" (ev "conv") (ev "conv"))))) (eapp (ev "nil") (ev "x"))))
    ∷ check (eint 3)
    ∷ instance [] "Show" (arrow (c "Int" nil) (v "c")) (body "mk" (eapp (eapp (eapp (eint 7) (ev "nil")) (lam "p" (ev "p"))) (lam "u" (ev "u"))) ∷ [])
    ∷ []

s_5003582_computed : metered 512 65536 512 s_5003582 ≡ said "declarations 9\n0 0 - | 16 49 0 0\n1 0 - | 3 52 0 0\n2 20 conv | 9 52 0 0\n3 4 - | 0 52 0 0\n4 0 - | 7 59 0 0\n5 16 Show (-> Bool (-> Bool Bool)) | 115 59 0 0\n6 17 Eq t7 | 66 59 0 0\n7 0 [] Int = 3 | 5 59 0 0\n8 12 Int (-> (-> (Pair t3) t3) t2) | 18 59 0 0\n"
unfolding everything metered said
s_5003582_computed = refl

abbrev s_5003590 : List Decl
s_5003590 =
    class "Real" "b" [] (sig "mk" (v "b") ∷ []) (body "fst" (ev "f") ∷ [])
    ∷ class "Num" "a" [] (sig "use1" (arrow (c "List" ((v "a") ◂ nil)) (v "a")) ∷ []) (body "use1" (eapp (ev "use1") (eapp (ev "use1") (ev "mk"))) ∷ body "snd" (lam "y" (ev "mk")) ∷ [])
    ∷ instance (at "Real" (v "b") ∷ at "Num" (v "b") ∷ at "Real" (v "b") ∷ []) "Real" (arrow (v "b") (v "b")) (body "mk" (bind "comp" (ev "use1") (lam "u" (eapp (ev "comp") (bind "same" (ev "u") (ev "mk"))))) ∷ [])
    ∷ instance (at "Num" (v "b") ∷ at "Num" (v "b") ∷ at "Num" (v "b") ∷ []) "Num" (c "List" ((v "b") ◂ nil)) []
    ∷ class "Eq" "a" ("Num" ∷ []) (sig "join" (arrow (v "a") (c "Int" nil)) ∷ []) (body "join" (lam "u" (eint 7)) ∷ [])
    ∷ class "Show" "a" ("Num" ∷ []) (sig "fst" (c "List" ((c "List" ((c "List" ((c "Int" nil) ◂ nil)) ◂ nil)) ◂ nil)) ∷ []) []
    ∷ instance [] "Real" (c "Int" nil) (body "mk" (eapp (ev "use1") (eapp (ev "use1") (eapp (ev "use1") (bind "g" (lam "z" (ev "z")) (eapp (ev "g") (ev "mk")))))) ∷ [])
    ∷ instance [] "Num" (c "Int" nil) []
    ∷ check (lam "q" (ev "q"))
    ∷ instance (at "Num" (v "a") ∷ []) "Num" (arrow (v "a") (v "a")) []
    ∷ check (ev "mk")
    ∷ check (ev "use1")
    ∷ check (eapp (ev "use1") (eapp (ev "use1") (ev "mk")))
    ∷ check (lam "y" (lam "p" (ebool true)))
    ∷ define "id" (ev "mk")
    ∷ define "g" (lam "y" (lam "join" (ev "join")))
    ∷ []

s_5003590_computed : metered 512 65536 512 s_5003590 ≡ said "declarations 16\n0 0 - | 3 36 0 0\n1 0 - | 9 45 0 0\n2 16 Real (List b) | 84 45 0 0\n3 0 - | 71 58 5 3\n4 0 - | 7 65 5 3\n5 0 - | 9 74 5 3\n6 16 Num Int | 164 74 5 3\n7 0 - | 69 83 10 6\n8 0 [] (-> a a) = (lam q q) | 14 83 11 6\n9 0 - | 74 95 16 9\n10 0 [Real a] a = (dabs [d9 Real a] (proj d9 mk)) | 13 95 17 10\n11 0 [Num a] (-> (List a) a) = (dabs [d10 Num a] (proj d10 use1)) | 22 95 18 11\n12 16 Num t18 | 67 95 18 11\n13 0 [] (-> a (-> b Bool)) = (lam y (lam p true)) | 21 95 20 11\n14 0 [Real a] a | 13 97 21 12\n15 20 join | 4 97 21 12\n"
unfolding everything metered said
s_5003590_computed = refl

abbrev s_5003600 : List Decl
s_5003600 =
    class "Leaf" "a" [] (sig "leaf" (v "a") ∷ []) (body "leaf" (eint 1) ∷ [])
    ∷ instance [] "Leaf" (c "Int" nil) []
    ∷ instance [] "Leaf" (c "Bool" nil) []
    ∷ instance [] "Leaf" (c "List" ((c "Int" nil) ◂ nil)) (body "leaf" (eapp (eapp (eapp (eapp (eapp (eapp (eapp (eapp (eapp (eapp (eapp (eapp (eapp (eapp (eapp (eapp (eapp (eapp (eapp (eapp (eapp (eapp (eapp (eapp (eapp (eapp (eapp (eapp (eapp (eapp (eapp (eapp (eapp (eapp (eapp (eapp (eapp (eapp (eapp (eapp (eapp (eapp (eapp (eapp (eapp (eapp (eapp (eapp (eapp (eapp (eapp (eapp (eapp (eapp (eapp (eapp (eapp (eapp (eapp (eapp (eapp (eapp (eapp (eapp (eapp (eapp (eapp (eapp (eapp (eapp (eapp (eapp (eapp (eapp (eapp (eapp (eapp (eapp (eapp (eapp (eapp (eapp (eapp (eapp (eapp (eapp (eapp (eapp (eapp (eapp (eapp (eapp (eapp (eapp (eapp (eapp (eapp (eapp (eapp (eapp (eapp (eapp (eapp (eapp (eapp (eapp (eapp (eapp (eapp (eapp (eapp (eapp (eapp (eapp (eapp (eapp (eapp (eapp (eapp (eapp (eapp (eapp (eapp (eapp (eapp (eapp (eapp (eapp (eapp (eapp (eapp (eapp (eapp (eapp (eapp (eapp (eapp (eapp (eapp (eapp (eapp (eapp (eapp (eapp (eapp (eapp (eapp (eapp (eapp (eapp (eapp (eapp (eapp (eapp (eapp (eapp (eapp (eapp (eapp (eapp (eapp (eapp (eapp (eapp (eapp (eapp (eapp (eapp (eapp (eapp (eapp (eapp (eapp (eapp (eapp (eapp (eapp (eapp (eapp (eapp (eapp (eapp (eapp (eapp (eapp (eapp (eapp (eapp (eapp (eapp (eapp (eapp (eapp (eapp (eapp (eapp (eapp (eapp (eapp (eapp (eapp (eapp (eapp (eapp (eapp (eapp (eapp (eapp (eapp (eapp (eapp (eapp (eapp (eapp (eapp (eapp (eapp (eapp (eapp (eapp (eapp (eapp (eapp (eapp (eapp (eapp (eapp (eapp (eapp (eapp (eapp (eapp (eapp (eapp (eapp (eapp (eapp (eapp (eapp (eapp (eapp (eapp (eapp (eapp (eapp (eapp (eapp (eapp (eapp (eapp (eapp (eapp (eapp (eapp (eapp (eapp (ev "leaf") (eint 1)) (eint 1)) (eint 1)) (eint 1)) (eint 1)) (eint 1)) (eint 1)) (eint 1)) (eint 1)) (eint 1)) (eint 1)) (eint 1)) (eint 1)) (eint 1)) (eint 1)) (eint 1)) (eint 1)) (eint 1)) (eint 1)) (eint 1)) (eint 1)) (eint 1)) (eint 1)) (eint 1)) (eint 1)) (eint 1)) (eint 1)) (eint 1)) (eint 1)) (eint 1)) (eint 1)) (eint 1)) (eint 1)) (eint 1)) (eint 1)) (eint 1)) (eint 1)) (eint 1)) (eint 1)) (eint 1)) (eint 1)) (eint 1)) (eint 1)) (eint 1)) (eint 1)) (eint 1)) (eint 1)) (eint 1)) (eint 1)) (eint 1)) (eint 1)) (eint 1)) (eint 1)) (eint 1)) (eint 1)) (eint 1)) (eint 1)) (eint 1)) (eint 1)) (eint 1)) (eint 1)) (eint 1)) (eint 1)) (eint 1)) (eint 1)) (eint 1)) (eint 1)) (eint 1)) (eint 1)) (eint 1)) (eint 1)) (eint 1)) (eint 1)) (eint 1)) (eint 1)) (eint 1)) (eint 1)) (eint 1)) (eint 1)) (eint 1)) (eint 1)) (eint 1)) (eint 1)) (eint 1)) (eint 1)) (eint 1)) (eint 1)) (eint 1)) (eint 1)) (eint 1)) (eint 1)) (eint 1)) (eint 1)) (eint 1)) (eint 1)) (eint 1)) (eint 1)) (eint 1)) (eint 1)) (eint 1)) (eint 1)) (eint 1)) (eint 1)) (eint 1)) (eint 1)) (eint 1)) (eint 1)) (eint 1)) (eint 1)) (eint 1)) (eint 1)) (eint 1)) (eint 1)) (eint 1)) (eint 1)) (eint 1)) (eint 1)) (eint 1)) (eint 1)) (eint 1)) (eint 1)) (eint 1)) (eint 1)) (eint 1)) (eint 1)) (eint 1)) (eint 1)) (eint 1)) (eint 1)) (eint 1)) (eint 1)) (eint 1)) (eint 1)) (eint 1)) (eint 1)) (eint 1)) (eint 1)) (eint 1)) (eint 1)) (eint 1)) (eint 1)) (eint 1)) (eint 1)) (eint 1)) (eint 1)) (eint 1)) (eint 1)) (eint 1)) (eint 1)) (eint 1)) (eint 1)) (eint 1)) (eint 1)) (eint 1)) (eint 1)) (eint 1)) (eint 1)) (eint 1)) (eint 1)) (eint 1)) (eint 1)) (eint 1)) (eint 1)) (eint 1)) (eint 1)) (eint 1)) (eint 1)) (eint 1)) (eint 1)) (eint 1)) (eint 1)) (eint 1)) (eint 1)) (eint 1)) (eint 1)) (eint 1)) (eint 1)) (eint 1)) (eint 1)) (eint 1)) (eint 1)) (eint 1)) (eint 1)) (eint 1)) (eint 1)) (eint 1)) (eint 1)) (eint 1)) (eint 1)) (eint 1)) (eint 1)) (eint 1)) (eint 1)) (eint 1)) (eint 1)) (eint 1)) (eint 1)) (eint 1)) (eint 1)) (eint 1)) (eint 1)) (eint 1)) (eint 1)) (eint 1)) (eint 1)) (eint 1)) (eint 1)) (eint 1)) (eint 1)) (eint 1)) (eint 1)) (eint 1)) (eint 1)) (eint 1)) (eint 1)) (eint 1)) (eint 1)) (eint 1)) (eint 1)) (eint 1)) (eint 1)) (eint 1)) (eint 1)) (eint 1)) (eint 1)) (eint 1)) (eint 1)) (eint 1)) (eint 1)) (eint 1)) (eint 1)) (eint 1)) (eint 1)) (eint 1)) (eint 1)) (eint 1)) (eint 1)) (eint 1)) (eint 1)) (eint 1)) (eint 1)) (eint 1)) (eint 1)) (eint 1)) (eint 1)) (eint 1)) (eint 1)) (eint 1)) (eint 1)) (eint 1)) (eint 1)) (eint 1)) (eint 1)) (eint 1)) (eint 1)) (eint 1)) ∷ [])
    ∷ define "deep" (eapp (eapp (eapp (eapp (eapp (eapp (eapp (eapp (eapp (eapp (eapp (eapp (eapp (eapp (eapp (eapp (eapp (eapp (eapp (eapp (eapp (eapp (eapp (eapp (eapp (eapp (eapp (eapp (eapp (eapp (eapp (eapp (eapp (eapp (eapp (eapp (eapp (eapp (eapp (eapp (eapp (eapp (eapp (eapp (eapp (eapp (eapp (eapp (eapp (eapp (eapp (eapp (eapp (eapp (eapp (eapp (eapp (eapp (eapp (eapp (eapp (eapp (eapp (eapp (eapp (eapp (eapp (eapp (eapp (eapp (eapp (eapp (eapp (eapp (eapp (eapp (eapp (eapp (eapp (eapp (eapp (eapp (eapp (eapp (eapp (eapp (eapp (eapp (eapp (eapp (eapp (eapp (eapp (eapp (eapp (eapp (eapp (eapp (eapp (eapp (eapp (eapp (eapp (eapp (eapp (eapp (eapp (eapp (eapp (eapp (eapp (eapp (eapp (eapp (eapp (eapp (eapp (eapp (eapp (eapp (eapp (eapp (eapp (eapp (eapp (eapp (eapp (eapp (eapp (eapp (eapp (eapp (eapp (eapp (eapp (eapp (eapp (eapp (eapp (eapp (eapp (eapp (eapp (eapp (eapp (eapp (eapp (eapp (eapp (eapp (eapp (eapp (eapp (eapp (eapp (eapp (eapp (eapp (eapp (eapp (eapp (eapp (eapp (eapp (eapp (eapp (eapp (eapp (eapp (eapp (eapp (eapp (eapp (eapp (eapp (eapp (eapp (eapp (eapp (eapp (eapp (eapp (eapp (eapp (eapp (eapp (eapp (eapp (eapp (eapp (eapp (eapp (eapp (eapp (eapp (eapp (eapp (eapp (eapp (eapp (eapp (eapp (eapp (eapp (eapp (eapp (eapp (eapp (eapp (eapp (eapp (eapp (eapp (eapp (eapp (eapp (eapp (eapp (eapp (eapp (eapp (eapp (eapp (eapp (eapp (eapp (eapp (eapp (eapp (eapp (eapp (eapp (eapp (eapp (eapp (eapp (eapp (eapp (eapp (eapp (eapp (eapp (eapp (eapp (eapp (eapp (eapp (eapp (eapp (eapp (eapp (eapp (eapp (eapp (eapp (eapp (ev "leaf") (eint 1)) (eint 1)) (eint 1)) (eint 1)) (eint 1)) (eint 1)) (eint 1)) (eint 1)) (eint 1)) (eint 1)) (eint 1)) (eint 1)) (eint 1)) (eint 1)) (eint 1)) (eint 1)) (eint 1)) (eint 1)) (eint 1)) (eint 1)) (eint 1)) (eint 1)) (eint 1)) (eint 1)) (eint 1)) (eint 1)) (eint 1)) (eint 1)) (eint 1)) (eint 1)) (eint 1)) (eint 1)) (eint 1)) (eint 1)) (eint 1)) (eint 1)) (eint 1)) (eint 1)) (eint 1)) (eint 1)) (eint 1)) (eint 1)) (eint 1)) (eint 1)) (eint 1)) (eint 1)) (eint 1)) (eint 1)) (eint 1)) (eint 1)) (eint 1)) (eint 1)) (eint 1)) (eint 1)) (eint 1)) (eint 1)) (eint 1)) (eint 1)) (eint 1)) (eint 1)) (eint 1)) (eint 1)) (eint 1)) (eint 1)) (eint 1)) (eint 1)) (eint 1)) (eint 1)) (eint 1)) (eint 1)) (eint 1)) (eint 1)) (eint 1)) (eint 1)) (eint 1)) (eint 1)) (eint 1)) (eint 1)) (eint 1)) (eint 1)) (eint 1)) (eint 1)) (eint 1)) (eint 1)) (eint 1)) (eint 1)) (eint 1)) (eint 1)) (eint 1)) (eint 1)) (eint 1)) (eint 1)) (eint 1)) (eint 1)) (eint 1)) (eint 1)) (eint 1)) (eint 1)) (eint 1)) (eint 1)) (eint 1)) (eint 1)) (eint 1)) (eint 1)) (eint 1)) (eint 1)) (eint 1)) (eint 1)) (eint 1)) (eint 1)) (eint 1)) (eint 1)) (eint 1)) (eint 1)) (eint 1)) (eint 1)) (eint 1)) (eint 1)) (eint 1)) (eint 1)) (eint 1)) (eint 1)) (eint 1)) (eint 1)) (eint 1)) (eint 1)) (eint 1)) (eint 1)) (eint 1)) (eint 1)) (eint 1)) (eint 1)) (eint 1)) (eint 1)) (eint 1)) (eint 1)) (eint 1)) (eint 1)) (eint 1)) (eint 1)) (eint 1)) (eint 1)) (eint 1)) (eint 1)) (eint 1)) (eint 1)) (eint 1)) (eint 1)) (eint 1)) (eint 1)) (eint 1)) (eint 1)) (eint 1)) (eint 1)) (eint 1)) (eint 1)) (eint 1)) (eint 1)) (eint 1)) (eint 1)) (eint 1)) (eint 1)) (eint 1)) (eint 1)) (eint 1)) (eint 1)) (eint 1)) (eint 1)) (eint 1)) (eint 1)) (eint 1)) (eint 1)) (eint 1)) (eint 1)) (eint 1)) (eint 1)) (eint 1)) (eint 1)) (eint 1)) (eint 1)) (eint 1)) (eint 1)) (eint 1)) (eint 1)) (eint 1)) (eint 1)) (eint 1)) (eint 1)) (eint 1)) (eint 1)) (eint 1)) (eint 1)) (eint 1)) (eint 1)) (eint 1)) (eint 1)) (eint 1)) (eint 1)) (eint 1)) (eint 1)) (eint 1)) (eint 1)) (eint 1)) (eint 1)) (eint 1)) (eint 1)) (eint 1)) (eint 1)) (eint 1)) (eint 1)) (eint 1)) (eint 1)) (eint 1)) (eint 1)) (eint 1)) (eint 1)) (eint 1)) (eint 1)) (eint 1)) (eint 1)) (eint 1)) (eint 1)) (eint 1)) (eint 1)) (eint 1)) (eint 1)) (eint 1)) (eint 1)) (eint 1)) (eint 1)) (eint 1)) (eint 1)) (eint 1)) (eint 1)) (eint 1)) (eint 1)) (eint 1)) (eint 1)) (eint 1)) (eint 1)) (eint 1)) (eint 1)) (eint 1)) (eint 1)) (eint 1)) (eint 1)) (eint 1)) (eint 1)) (eint 1)) (eint 1)) (eint 1)) (eint 1)) (eint 1)) (eint 1)) (eint 1)) (eint 1))
    ∷ check (ev "deep")
    ∷ []

s_5003600_computed : metered 512 65536 512 s_5003600 ≡ said "declarations 6\n0 0 - | 3 36 0 0\n1 0 - | 4 38 0 0\n2 0 - | 6 40 0 0\n3 7 - | 259 40 0 0\n4 7 - | 256 40 0 0\n5 11 deep | 1 40 0 0\n"
unfolding everything metered said
s_5003600_computed = refl

abbrev s_5003802 : List Decl
s_5003802 =
    class "Eq" "a" [] (sig "eq" (arrow (v "a") (arrow (v "a") (c "Bool" nil))) ∷ []) []
    ∷ class "Ord" "a" ("Eq" ∷ []) (sig "lt" (arrow (v "a") (arrow (v "a") (c "Bool" nil))) ∷ []) []
    ∷ class "Real" "a" ("Ord" ∷ "Eq" ∷ []) (sig "add" (arrow (v "a") (arrow (v "a") (v "a"))) ∷ []) []
    ∷ class "Bag" "a" [] (sig "nil" (c "List" ((v "a") ◂ nil)) ∷ sig "cons" (arrow (v "a") (arrow (c "List" ((v "a") ◂ nil)) (c "List" ((v "a") ◂ nil)))) ∷ sig "pair" (arrow (v "a") (arrow (v "b") (c "Pair" ((v "a") ◂ (v "b") ◂ nil)))) ∷ sig "odd" (arrow (v "a") (c "List" nil)) ∷ []) (body "nil" (eint 0) ∷ body "cons" (eint 0) ∷ body "pair" (eint 0) ∷ body "odd" (eint 0) ∷ [])
    ∷ instance [] "Bag" (c "Int" nil) []
    ∷ instance [] "Bag" (c "Bool" nil) []
    ∷ instance [] "Bag" (c "List" ((v "a") ◂ nil)) []
    ∷ instance [] "Bag" (c "Pair" ((v "a") ◂ (v "b") ◂ nil)) []
    ∷ instance [] "Eq" (c "Int" nil) (body "eq" (ev "primEqInt") ∷ [])
    ∷ instance [] "Ord" (c "Int" nil) (body "lt" (ev "primLtInt") ∷ [])
    ∷ instance [] "Eq" (c "Bool" nil) (body "eq" (ev "primEqBool") ∷ [])
    ∷ instance [] "Ord" (c "Bool" nil) (body "lt" (ev "primAndBool") ∷ [])
    ∷ instance [] "Real" (c "Int" nil) (body "add" (ev "primAddInt") ∷ [])
    ∷ instance (at "Eq" (v "a") ∷ []) "Eq" (c "List" ((v "a") ◂ nil)) (body "eq" (lam "x" (lam "y" (ebool true))) ∷ [])
    ∷ instance (at "Ord" (v "a") ∷ []) "Ord" (c "List" ((v "a") ◂ nil)) (body "lt" (lam "x" (lam "y" (eapp (eapp (ev "eq") (ev "x")) (ev "y")))) ∷ [])
    ∷ instance (at "Eq" (v "a") ∷ at "Eq" (v "b") ∷ []) "Eq" (c "Pair" ((v "a") ◂ (v "b") ◂ nil)) (body "eq" (lam "x" (lam "y" (ebool false))) ∷ [])
    ∷ define "id" (lam "w" (eapp (ev "eq") (eapp (eapp (ev "lt") (ev "w")) (bind "q" (lam "p" (ev "p")) (eapp (ev "q") (eapp (ev "q") (ev "w")))))))
    ∷ class "Mon" "a" [] (sig "use1" (arrow (v "a") (arrow (v "a") (c "Bool" nil))) ∷ []) []
    ∷ instance [] "Ord" (arrow (v "a") (v "a")) (body "lt" (lam "p" (lam "q" (ev "primAndBool"))) ∷ [])
    ∷ instance [] "Eq" (arrow (v "a") (v "a")) (body "eq" (lam "y" (eapp (ev "use1") (lam "y" (ev "add")))) ∷ [])
    ∷ instance [] "Real" (arrow (v "a") (v "a")) (body "add" (lam "v" (lam "v" (lam "x" (ev "nil")))) ∷ [])
    ∷ instance (at "Eq" (v "a") ∷ at "Bag" (v "a") ∷ []) "Eq" (v "a") (body "eq" (lam "x" (lam "y" (eapp (eapp (lam "u" (lam "v" (ev "v"))) (ev "nil")) (eapp (eapp (lam "u" (lam "v" (ev "v"))) (eapp (ev "odd") (ev "x"))) (ev "x"))))) ∷ [])
    ∷ define "comp" (eapp (eapp (ev "add") (ev "nil")) (eapp (eapp (ev "cons") (bind "v" (lam "x" (ev "x")) (eapp (ev "v") (eint 4)))) (eapp (eapp (ev "add") (ev "nil")) (eapp (ev "odd") (ev "add")))))
    ∷ check (eapp (eapp (lam "x" (lam "y" (lam "z" (eapp (eapp (lam "u" (lam "v" (ev "v"))) (eapp (eapp (ev "add") (ev "y")) (ev "y"))) (eapp (eapp (lam "u" (lam "v" (ev "v"))) (eapp (eapp (ev "eq") (ev "z")) (ev "y"))) (bind "comp" (eapp (eapp (ev "cons") (ev "x")) (ev "y")) (eapp (eapp (ev "use1") (ev "z")) (ev "y")))))))) (eapp (eapp (ev "cons") (eapp (eapp (ev "primMulInt") (eint 8)) (eint 5))) (bind "z" (lam "x" (lam "y" (ev "x"))) (eapp (ebool false) (ev "z"))))) (eint 8))
    ∷ class "Fun" "a" ("Ord" ∷ []) [] []
    ∷ []

s_5003802_computed : metered 512 65536 512 s_5003802 ≡ said "declarations 25\n0 0 - | 11 44 0 0\n1 0 - | 11 55 0 0\n2 0 - | 11 66 0 0\n3 0 - | 42 108 0 0\n4 0 - | 13 113 0 0\n5 0 - | 15 118 0 0\n6 0 - | 18 124 0 0\n7 0 - | 21 131 0 0\n8 0 - | 37 133 0 0\n9 0 - | 42 137 0 0\n10 0 - | 39 139 0 0\n11 0 - | 45 143 0 0\n12 0 - | 47 149 0 0\n13 0 - | 53 155 2 0\n14 0 - | 158 177 7 1\n15 0 - | 62 185 9 1\n16 0 [Ord a] (-> a (-> Bool Bool)) | 189 191 20 3\n17 0 - | 11 202 20 3\n18 12 (-> Bool (-> Bool Bool)) Bool | 59 202 20 3\n19 16 Mon (-> (-> t24 (-> t24 t24)) (-> t24 (-> t24 t24))) | 138 202 20 3\n20 16 Bag t23 | 75 202 20 3\n21 16 Bag t26 | 199 202 20 3\n22 15 List 1 0 | 156 202 20 3\n23 6 - | 512 202 20 3\n24 0 - | 0 202 20 3\n"
unfolding everything metered said
s_5003802_computed = refl
