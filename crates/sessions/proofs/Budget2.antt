-- Recorded sessions, computed: text, steps, kept nodes and both counters. (tools/session_test.py)
use mathlib.Core.Path.{◌≡◌, refl}
use mathlib.Core.Bool.{true, false}
use mathlib.Core.List.{List, [], ◌∷◌}
use Rattle.meaning.specs.Ast.{Ty, arrow, Expr, eint, ebool, eapp, Decl, nil, ◌◂◌}
use Rattle.meaning.proofs.Metered.{everything, metered, said}
use Rattle.meaning.proofs.Written.{v, c, ev, lam, bind, class, instance, define, check, at, sig, body}

abbrev b_5003590 : List Decl
b_5003590 =
    class "Real" "b" [] (sig "mk" (v "b") ∷ []) (body "fst" (ev "f") ∷ [])
    ∷ class "Num" "a" [] (sig "use1" (arrow (c "List" ((v "a") ◂ nil)) (v "a")) ∷ []) (body "use1" (eapp (ev "use1") (eapp (ev "use1") (ev "mk"))) ∷ body "snd" (lam "y" (ev "mk")) ∷ [])
    ∷ instance (at "Real" (v "b") ∷ at "Num" (v "b") ∷ at "Real" (v "b") ∷ []) "Real" (arrow (v "b") (v "b")) (body "mk" (bind "comp" (ev "use1") (lam "u" (eapp (ev "comp") (bind "same" (ev "u") (ev "mk"))))) ∷ [])
    ∷ instance (at "Num" (v "b") ∷ at "Num" (v "b") ∷ at "Num" (v "b") ∷ []) "Num" (c "List" ((v "b") ◂ nil)) []
    ∷ class "Eq" "a" ("Num" ∷ []) (sig "join" (arrow (v "a") (c "Int" nil)) ∷ []) (body "join" (lam "u" (eint 7)) ∷ [])
    ∷ class "Show" "a" ("Num" ∷ []) (sig "fst" (c "List" ((c "List" ((c "List" ((c "Int" nil) ◂ nil)) ◂ nil)) ◂ nil)) ∷ []) []
    ∷ instance [] "Real" (c "Int" nil) (body "mk" (eapp (ev "use1") (eapp (ev "use1") (eapp (ev "use1") (bind "g" (lam "z" (ev "z")) (eapp (ev "g") (ev "mk")))))) ∷ [])
    ∷ instance [] "Num" (c "Int" nil) []
    ∷ check (lam "q" (ev "q"))
    ∷ instance (at "Num" (v "a") ∷ []) "Num" (arrow (v "a") (v "a")) []
    ∷ check (ev "mk")
    ∷ check (ev "use1")
    ∷ check (eapp (ev "use1") (eapp (ev "use1") (ev "mk")))
    ∷ check (lam "y" (lam "p" (ebool true)))
    ∷ define "id" (ev "mk")
    ∷ define "g" (lam "y" (lam "join" (ev "join")))
    ∷ []

b_5003590_computed : metered 20000 2000000 20000 b_5003590 ≡ said "declarations 16\n0 0 - | 3 36 0 0\n1 0 - | 9 45 0 0\n2 16 Real (List b) | 84 45 0 0\n3 0 - | 71 58 5 3\n4 0 - | 7 65 5 3\n5 0 - | 9 74 5 3\n6 16 Num Int | 164 74 5 3\n7 0 - | 69 83 10 6\n8 0 [] (-> a a) = (lam q q) | 14 83 11 6\n9 0 - | 74 95 16 9\n10 0 [Real a] a = (dabs [d9 Real a] (proj d9 mk)) | 13 95 17 10\n11 0 [Num a] (-> (List a) a) = (dabs [d10 Num a] (proj d10 use1)) | 22 95 18 11\n12 16 Num t18 | 67 95 18 11\n13 0 [] (-> a (-> b Bool)) = (lam y (lam p true)) | 21 95 20 11\n14 0 [Real a] a | 13 97 21 12\n15 20 join | 4 97 21 12\n"
unfolding everything metered said
b_5003590_computed = refl

abbrev b_5003960 : List Decl
b_5003960 =
    class "Big" "a" [] (sig "big" (arrow (v "a") (c "Tree" ((c "Pair" ((c "Tree" ((arrow (c "Tree" ((c "Pair" ((c "Tree" ((c "Tree" ((c "Tree" ((v "a") ◂ (v "a") ◂ (v "a") ◂ nil)) ◂ (c "Tree" ((v "a") ◂ (v "a") ◂ (v "a") ◂ nil)) ◂ (c "Tree" ((v "a") ◂ (v "a") ◂ (v "a") ◂ nil)) ◂ nil)) ◂ (c "Tree" ((c "Tree" ((v "a") ◂ (v "a") ◂ (v "a") ◂ nil)) ◂ (c "Tree" ((v "a") ◂ (v "a") ◂ (v "a") ◂ nil)) ◂ (c "Tree" ((v "a") ◂ (v "a") ◂ (v "a") ◂ nil)) ◂ nil)) ◂ (c "Tree" ((c "Tree" ((v "a") ◂ (v "a") ◂ (v "a") ◂ nil)) ◂ (c "Tree" ((v "a") ◂ (v "a") ◂ (v "a") ◂ nil)) ◂ (c "Tree" ((v "a") ◂ (v "a") ◂ (v "a") ◂ nil)) ◂ nil)) ◂ nil)) ◂ (c "Tree" ((c "Tree" ((c "Tree" ((v "a") ◂ (v "a") ◂ (v "a") ◂ nil)) ◂ (c "Tree" ((v "a") ◂ (v "a") ◂ (v "a") ◂ nil)) ◂ (c "Tree" ((v "a") ◂ (v "a") ◂ (v "a") ◂ nil)) ◂ nil)) ◂ (c "Tree" ((c "Tree" ((v "a") ◂ (v "a") ◂ (v "a") ◂ nil)) ◂ (c "Tree" ((v "a") ◂ (v "a") ◂ (v "a") ◂ nil)) ◂ (c "Tree" ((v "a") ◂ (v "a") ◂ (v "a") ◂ nil)) ◂ nil)) ◂ (c "Tree" ((c "Tree" ((v "a") ◂ (v "a") ◂ (v "a") ◂ nil)) ◂ (c "Tree" ((v "a") ◂ (v "a") ◂ (v "a") ◂ nil)) ◂ (c "Tree" ((v "a") ◂ (v "a") ◂ (v "a") ◂ nil)) ◂ nil)) ◂ nil)) ◂ nil)) ◂ (c "Pair" ((c "Tree" ((c "Tree" ((c "Tree" ((v "a") ◂ (v "a") ◂ (v "a") ◂ nil)) ◂ (c "Tree" ((v "a") ◂ (v "a") ◂ (v "a") ◂ nil)) ◂ (c "Tree" ((v "a") ◂ (v "a") ◂ (v "a") ◂ nil)) ◂ nil)) ◂ (c "Tree" ((c "Tree" ((v "a") ◂ (v "a") ◂ (v "a") ◂ nil)) ◂ (c "Tree" ((v "a") ◂ (v "a") ◂ (v "a") ◂ nil)) ◂ (c "Tree" ((v "a") ◂ (v "a") ◂ (v "a") ◂ nil)) ◂ nil)) ◂ (c "Tree" ((c "Tree" ((v "a") ◂ (v "a") ◂ (v "a") ◂ nil)) ◂ (c "Tree" ((v "a") ◂ (v "a") ◂ (v "a") ◂ nil)) ◂ (c "Tree" ((v "a") ◂ (v "a") ◂ (v "a") ◂ nil)) ◂ nil)) ◂ nil)) ◂ (c "Tree" ((c "Tree" ((c "Tree" ((v "a") ◂ (v "a") ◂ (v "a") ◂ nil)) ◂ (c "Tree" ((v "a") ◂ (v "a") ◂ (v "a") ◂ nil)) ◂ (c "Tree" ((v "a") ◂ (v "a") ◂ (v "a") ◂ nil)) ◂ nil)) ◂ (c "Tree" ((c "Tree" ((v "a") ◂ (v "a") ◂ (v "a") ◂ nil)) ◂ (c "Tree" ((v "a") ◂ (v "a") ◂ (v "a") ◂ nil)) ◂ (c "Tree" ((v "a") ◂ (v "a") ◂ (v "a") ◂ nil)) ◂ nil)) ◂ (c "Tree" ((c "Tree" ((v "a") ◂ (v "a") ◂ (v "a") ◂ nil)) ◂ (c "Tree" ((v "a") ◂ (v "a") ◂ (v "a") ◂ nil)) ◂ (c "Tree" ((v "a") ◂ (v "a") ◂ (v "a") ◂ nil)) ◂ nil)) ◂ nil)) ◂ nil)) ◂ (c "Pair" ((c "Tree" ((c "Tree" ((c "Tree" ((v "a") ◂ (v "a") ◂ (v "a") ◂ nil)) ◂ (c "Tree" ((v "a") ◂ (v "a") ◂ (v "a") ◂ nil)) ◂ (c "Tree" ((v "a") ◂ (v "a") ◂ (v "a") ◂ nil)) ◂ nil)) ◂ (c "Tree" ((c "Tree" ((v "a") ◂ (v "a") ◂ (v "a") ◂ nil)) ◂ (c "Tree" ((v "a") ◂ (v "a") ◂ (v "a") ◂ nil)) ◂ (c "Tree" ((v "a") ◂ (v "a") ◂ (v "a") ◂ nil)) ◂ nil)) ◂ (c "Tree" ((c "Tree" ((v "a") ◂ (v "a") ◂ (v "a") ◂ nil)) ◂ (c "Tree" ((v "a") ◂ (v "a") ◂ (v "a") ◂ nil)) ◂ (c "Tree" ((v "a") ◂ (v "a") ◂ (v "a") ◂ nil)) ◂ nil)) ◂ nil)) ◂ (c "Tree" ((c "Tree" ((c "Tree" ((v "a") ◂ (v "a") ◂ (v "a") ◂ nil)) ◂ (c "Tree" ((v "a") ◂ (v "a") ◂ (v "a") ◂ nil)) ◂ (c "Tree" ((v "a") ◂ (v "a") ◂ (v "a") ◂ nil)) ◂ nil)) ◂ (c "Tree" ((c "Tree" ((v "a") ◂ (v "a") ◂ (v "a") ◂ nil)) ◂ (c "Tree" ((v "a") ◂ (v "a") ◂ (v "a") ◂ nil)) ◂ (c "Tree" ((v "a") ◂ (v "a") ◂ (v "a") ◂ nil)) ◂ nil)) ◂ (c "Tree" ((c "Tree" ((v "a") ◂ (v "a") ◂ (v "a") ◂ nil)) ◂ (c "Tree" ((v "a") ◂ (v "a") ◂ (v "a") ◂ nil)) ◂ (c "Tree" ((v "a") ◂ (v "a") ◂ (v "a") ◂ nil)) ◂ nil)) ◂ nil)) ◂ nil)) ◂ nil)) (c "Tree" ((c "Pair" ((c "Tree" ((c "Tree" ((c "Tree" ((v "a") ◂ (v "a") ◂ (v "a") ◂ nil)) ◂ (c "Tree" ((v "a") ◂ (v "a") ◂ (v "a") ◂ nil)) ◂ (c "Tree" ((v "a") ◂ (v "a") ◂ (v "a") ◂ nil)) ◂ nil)) ◂ (c "Tree" ((c "Tree" ((v "a") ◂ (v "a") ◂ (v "a") ◂ nil)) ◂ (c "Tree" ((v "a") ◂ (v "a") ◂ (v "a") ◂ nil)) ◂ (c "Tree" ((v "a") ◂ (v "a") ◂ (v "a") ◂ nil)) ◂ nil)) ◂ (c "Tree" ((c "Tree" ((v "a") ◂ (v "a") ◂ (v "a") ◂ nil)) ◂ (c "Tree" ((v "a") ◂ (v "a") ◂ (v "a") ◂ nil)) ◂ (c "Tree" ((v "a") ◂ (v "a") ◂ (v "a") ◂ nil)) ◂ nil)) ◂ nil)) ◂ (c "Tree" ((c "Tree" ((c "Tree" ((v "a") ◂ (v "a") ◂ (v "a") ◂ nil)) ◂ (c "Tree" ((v "a") ◂ (v "a") ◂ (v "a") ◂ nil)) ◂ (c "Tree" ((v "a") ◂ (v "a") ◂ (v "a") ◂ nil)) ◂ nil)) ◂ (c "Tree" ((c "Tree" ((v "a") ◂ (v "a") ◂ (v "a") ◂ nil)) ◂ (c "Tree" ((v "a") ◂ (v "a") ◂ (v "a") ◂ nil)) ◂ (c "Tree" ((v "a") ◂ (v "a") ◂ (v "a") ◂ nil)) ◂ nil)) ◂ (c "Tree" ((c "Tree" ((v "a") ◂ (v "a") ◂ (v "a") ◂ nil)) ◂ (c "Tree" ((v "a") ◂ (v "a") ◂ (v "a") ◂ nil)) ◂ (c "Tree" ((v "a") ◂ (v "a") ◂ (v "a") ◂ nil)) ◂ nil)) ◂ nil)) ◂ nil)) ◂ (c "Pair" ((c "Tree" ((c "Tree" ((c "Tree" ((v "a") ◂ (v "a") ◂ (v "a") ◂ nil)) ◂ (c "Tree" ((v "a") ◂ (v "a") ◂ (v "a") ◂ nil)) ◂ (c "Tree" ((v "a") ◂ (v "a") ◂ (v "a") ◂ nil)) ◂ nil)) ◂ (c "Tree" ((c "Tree" ((v "a") ◂ (v "a") ◂ (v "a") ◂ nil)) ◂ (c "Tree" ((v "a") ◂ (v "a") ◂ (v "a") ◂ nil)) ◂ (c "Tree" ((v "a") ◂ (v "a") ◂ (v "a") ◂ nil)) ◂ nil)) ◂ (c "Tree" ((c "Tree" ((v "a") ◂ (v "a") ◂ (v "a") ◂ nil)) ◂ (c "Tree" ((v "a") ◂ (v "a") ◂ (v "a") ◂ nil)) ◂ (c "Tree" ((v "a") ◂ (v "a") ◂ (v "a") ◂ nil)) ◂ nil)) ◂ nil)) ◂ (c "Tree" ((c "Tree" ((c "Tree" ((v "a") ◂ (v "a") ◂ (v "a") ◂ nil)) ◂ (c "Tree" ((v "a") ◂ (v "a") ◂ (v "a") ◂ nil)) ◂ (c "Tree" ((v "a") ◂ (v "a") ◂ (v "a") ◂ nil)) ◂ nil)) ◂ (c "Tree" ((c "Tree" ((v "a") ◂ (v "a") ◂ (v "a") ◂ nil)) ◂ (c "Tree" ((v "a") ◂ (v "a") ◂ (v "a") ◂ nil)) ◂ (c "Tree" ((v "a") ◂ (v "a") ◂ (v "a") ◂ nil)) ◂ nil)) ◂ (c "Tree" ((c "Tree" ((v "a") ◂ (v "a") ◂ (v "a") ◂ nil)) ◂ (c "Tree" ((v "a") ◂ (v "a") ◂ (v "a") ◂ nil)) ◂ (c "Tree" ((v "a") ◂ (v "a") ◂ (v "a") ◂ nil)) ◂ nil)) ◂ nil)) ◂ nil)) ◂ (c "Pair" ((c "Tree" ((c "Tree" ((c "Tree" ((v "a") ◂ (v "a") ◂ (v "a") ◂ nil)) ◂ (c "Tree" ((v "a") ◂ (v "a") ◂ (v "a") ◂ nil)) ◂ (c "Tree" ((v "a") ◂ (v "a") ◂ (v "a") ◂ nil)) ◂ nil)) ◂ (c "Tree" ((c "Tree" ((v "a") ◂ (v "a") ◂ (v "a") ◂ nil)) ◂ (c "Tree" ((v "a") ◂ (v "a") ◂ (v "a") ◂ nil)) ◂ (c "Tree" ((v "a") ◂ (v "a") ◂ (v "a") ◂ nil)) ◂ nil)) ◂ (c "Tree" ((c "Tree" ((v "a") ◂ (v "a") ◂ (v "a") ◂ nil)) ◂ (c "Tree" ((v "a") ◂ (v "a") ◂ (v "a") ◂ nil)) ◂ (c "Tree" ((v "a") ◂ (v "a") ◂ (v "a") ◂ nil)) ◂ nil)) ◂ nil)) ◂ (c "Tree" ((c "Tree" ((c "Tree" ((v "a") ◂ (v "a") ◂ (v "a") ◂ nil)) ◂ (c "Tree" ((v "a") ◂ (v "a") ◂ (v "a") ◂ nil)) ◂ (c "Tree" ((v "a") ◂ (v "a") ◂ (v "a") ◂ nil)) ◂ nil)) ◂ (c "Tree" ((c "Tree" ((v "a") ◂ (v "a") ◂ (v "a") ◂ nil)) ◂ (c "Tree" ((v "a") ◂ (v "a") ◂ (v "a") ◂ nil)) ◂ (c "Tree" ((v "a") ◂ (v "a") ◂ (v "a") ◂ nil)) ◂ nil)) ◂ (c "Tree" ((c "Tree" ((v "a") ◂ (v "a") ◂ (v "a") ◂ nil)) ◂ (c "Tree" ((v "a") ◂ (v "a") ◂ (v "a") ◂ nil)) ◂ (c "Tree" ((v "a") ◂ (v "a") ◂ (v "a") ◂ nil)) ◂ nil)) ◂ nil)) ◂ nil)) ◂ nil))) ◂ (arrow (c "Tree" ((c "Pair" ((c "Tree" ((c "Tree" ((c "Tree" ((v "a") ◂ (v "a") ◂ (v "a") ◂ nil)) ◂ (c "Tree" ((v "a") ◂ (v "a") ◂ (v "a") ◂ nil)) ◂ (c "Tree" ((v "a") ◂ (v "a") ◂ (v "a") ◂ nil)) ◂ nil)) ◂ (c "Tree" ((c "Tree" ((v "a") ◂ (v "a") ◂ (v "a") ◂ nil)) ◂ (c "Tree" ((v "a") ◂ (v "a") ◂ (v "a") ◂ nil)) ◂ (c "Tree" ((v "a") ◂ (v "a") ◂ (v "a") ◂ nil)) ◂ nil)) ◂ (c "Tree" ((c "Tree" ((v "a") ◂ (v "a") ◂ (v "a") ◂ nil)) ◂ (c "Tree" ((v "a") ◂ (v "a") ◂ (v "a") ◂ nil)) ◂ (c "Tree" ((v "a") ◂ (v "a") ◂ (v "a") ◂ nil)) ◂ nil)) ◂ nil)) ◂ (c "Tree" ((c "Tree" ((c "Tree" ((v "a") ◂ (v "a") ◂ (v "a") ◂ nil)) ◂ (c "Tree" ((v "a") ◂ (v "a") ◂ (v "a") ◂ nil)) ◂ (c "Tree" ((v "a") ◂ (v "a") ◂ (v "a") ◂ nil)) ◂ nil)) ◂ (c "Tree" ((c "Tree" ((v "a") ◂ (v "a") ◂ (v "a") ◂ nil)) ◂ (c "Tree" ((v "a") ◂ (v "a") ◂ (v "a") ◂ nil)) ◂ (c "Tree" ((v "a") ◂ (v "a") ◂ (v "a") ◂ nil)) ◂ nil)) ◂ (c "Tree" ((c "Tree" ((v "a") ◂ (v "a") ◂ (v "a") ◂ nil)) ◂ (c "Tree" ((v "a") ◂ (v "a") ◂ (v "a") ◂ nil)) ◂ (c "Tree" ((v "a") ◂ (v "a") ◂ (v "a") ◂ nil)) ◂ nil)) ◂ nil)) ◂ nil)) ◂ (c "Pair" ((c "Tree" ((c "Tree" ((c "Tree" ((v "a") ◂ (v "a") ◂ (v "a") ◂ nil)) ◂ (c "Tree" ((v "a") ◂ (v "a") ◂ (v "a") ◂ nil)) ◂ (c "Tree" ((v "a") ◂ (v "a") ◂ (v "a") ◂ nil)) ◂ nil)) ◂ (c "Tree" ((c "Tree" ((v "a") ◂ (v "a") ◂ (v "a") ◂ nil)) ◂ (c "Tree" ((v "a") ◂ (v "a") ◂ (v "a") ◂ nil)) ◂ (c "Tree" ((v "a") ◂ (v "a") ◂ (v "a") ◂ nil)) ◂ nil)) ◂ (c "Tree" ((c "Tree" ((v "a") ◂ (v "a") ◂ (v "a") ◂ nil)) ◂ (c "Tree" ((v "a") ◂ (v "a") ◂ (v "a") ◂ nil)) ◂ (c "Tree" ((v "a") ◂ (v "a") ◂ (v "a") ◂ nil)) ◂ nil)) ◂ nil)) ◂ (c "Tree" ((c "Tree" ((c "Tree" ((v "a") ◂ (v "a") ◂ (v "a") ◂ nil)) ◂ (c "Tree" ((v "a") ◂ (v "a") ◂ (v "a") ◂ nil)) ◂ (c "Tree" ((v "a") ◂ (v "a") ◂ (v "a") ◂ nil)) ◂ nil)) ◂ (c "Tree" ((c "Tree" ((v "a") ◂ (v "a") ◂ (v "a") ◂ nil)) ◂ (c "Tree" ((v "a") ◂ (v "a") ◂ (v "a") ◂ nil)) ◂ (c "Tree" ((v "a") ◂ (v "a") ◂ (v "a") ◂ nil)) ◂ nil)) ◂ (c "Tree" ((c "Tree" ((v "a") ◂ (v "a") ◂ (v "a") ◂ nil)) ◂ (c "Tree" ((v "a") ◂ (v "a") ◂ (v "a") ◂ nil)) ◂ (c "Tree" ((v "a") ◂ (v "a") ◂ (v "a") ◂ nil)) ◂ nil)) ◂ nil)) ◂ nil)) ◂ (c "Pair" ((c "Tree" ((c "Tree" ((c "Tree" ((v "a") ◂ (v "a") ◂ (v "a") ◂ nil)) ◂ (c "Tree" ((v "a") ◂ (v "a") ◂ (v "a") ◂ nil)) ◂ (c "Tree" ((v "a") ◂ (v "a") ◂ (v "a") ◂ nil)) ◂ nil)) ◂ (c "Tree" ((c "Tree" ((v "a") ◂ (v "a") ◂ (v "a") ◂ nil)) ◂ (c "Tree" ((v "a") ◂ (v "a") ◂ (v "a") ◂ nil)) ◂ (c "Tree" ((v "a") ◂ (v "a") ◂ (v "a") ◂ nil)) ◂ nil)) ◂ (c "Tree" ((c "Tree" ((v "a") ◂ (v "a") ◂ (v "a") ◂ nil)) ◂ (c "Tree" ((v "a") ◂ (v "a") ◂ (v "a") ◂ nil)) ◂ (c "Tree" ((v "a") ◂ (v "a") ◂ (v "a") ◂ nil)) ◂ nil)) ◂ nil)) ◂ (c "Tree" ((c "Tree" ((c "Tree" ((v "a") ◂ (v "a") ◂ (v "a") ◂ nil)) ◂ (c "Tree" ((v "a") ◂ (v "a") ◂ (v "a") ◂ nil)) ◂ (c "Tree" ((v "a") ◂ (v "a") ◂ (v "a") ◂ nil)) ◂ nil)) ◂ (c "Tree" ((c "Tree" ((v "a") ◂ (v "a") ◂ (v "a") ◂ nil)) ◂ (c "Tree" ((v "a") ◂ (v "a") ◂ (v "a") ◂ nil)) ◂ (c "Tree" ((v "a") ◂ (v "a") ◂ (v "a") ◂ nil)) ◂ nil)) ◂ (c "Tree" ((c "Tree" ((v "a") ◂ (v "a") ◂ (v "a") ◂ nil)) ◂ (c "Tree" ((v "a") ◂ (v "a") ◂ (v "a") ◂ nil)) ◂ (c "Tree" ((v "a") ◂ (v "a") ◂ (v "a") ◂ nil)) ◂ nil)) ◂ nil)) ◂ nil)) ◂ nil)) (c "Tree" ((c "Pair" ((c "Tree" ((c "Tree" ((c "Tree" ((v "a") ◂ (v "a") ◂ (v "a") ◂ nil)) ◂ (c "Tree" ((v "a") ◂ (v "a") ◂ (v "a") ◂ nil)) ◂ (c "Tree" ((v "a") ◂ (v "a") ◂ (v "a") ◂ nil)) ◂ nil)) ◂ (c "Tree" ((c "Tree" ((v "a") ◂ (v "a") ◂ (v "a") ◂ nil)) ◂ (c "Tree" ((v "a") ◂ (v "a") ◂ (v "a") ◂ nil)) ◂ (c "Tree" ((v "a") ◂ (v "a") ◂ (v "a") ◂ nil)) ◂ nil)) ◂ (c "Tree" ((c "Tree" ((v "a") ◂ (v "a") ◂ (v "a") ◂ nil)) ◂ (c "Tree" ((v "a") ◂ (v "a") ◂ (v "a") ◂ nil)) ◂ (c "Tree" ((v "a") ◂ (v "a") ◂ (v "a") ◂ nil)) ◂ nil)) ◂ nil)) ◂ (c "Tree" ((c "Tree" ((c "Tree" ((v "a") ◂ (v "a") ◂ (v "a") ◂ nil)) ◂ (c "Tree" ((v "a") ◂ (v "a") ◂ (v "a") ◂ nil)) ◂ (c "Tree" ((v "a") ◂ (v "a") ◂ (v "a") ◂ nil)) ◂ nil)) ◂ (c "Tree" ((c "Tree" ((v "a") ◂ (v "a") ◂ (v "a") ◂ nil)) ◂ (c "Tree" ((v "a") ◂ (v "a") ◂ (v "a") ◂ nil)) ◂ (c "Tree" ((v "a") ◂ (v "a") ◂ (v "a") ◂ nil)) ◂ nil)) ◂ (c "Tree" ((c "Tree" ((v "a") ◂ (v "a") ◂ (v "a") ◂ nil)) ◂ (c "Tree" ((v "a") ◂ (v "a") ◂ (v "a") ◂ nil)) ◂ (c "Tree" ((v "a") ◂ (v "a") ◂ (v "a") ◂ nil)) ◂ nil)) ◂ nil)) ◂ nil)) ◂ (c "Pair" ((c "Tree" ((c "Tree" ((c "Tree" ((v "a") ◂ (v "a") ◂ (v "a") ◂ nil)) ◂ (c "Tree" ((v "a") ◂ (v "a") ◂ (v "a") ◂ nil)) ◂ (c "Tree" ((v "a") ◂ (v "a") ◂ (v "a") ◂ nil)) ◂ nil)) ◂ (c "Tree" ((c "Tree" ((v "a") ◂ (v "a") ◂ (v "a") ◂ nil)) ◂ (c "Tree" ((v "a") ◂ (v "a") ◂ (v "a") ◂ nil)) ◂ (c "Tree" ((v "a") ◂ (v "a") ◂ (v "a") ◂ nil)) ◂ nil)) ◂ (c "Tree" ((c "Tree" ((v "a") ◂ (v "a") ◂ (v "a") ◂ nil)) ◂ (c "Tree" ((v "a") ◂ (v "a") ◂ (v "a") ◂ nil)) ◂ (c "Tree" ((v "a") ◂ (v "a") ◂ (v "a") ◂ nil)) ◂ nil)) ◂ nil)) ◂ (c "Tree" ((c "Tree" ((c "Tree" ((v "a") ◂ (v "a") ◂ (v "a") ◂ nil)) ◂ (c "Tree" ((v "a") ◂ (v "a") ◂ (v "a") ◂ nil)) ◂ (c "Tree" ((v "a") ◂ (v "a") ◂ (v "a") ◂ nil)) ◂ nil)) ◂ (c "Tree" ((c "Tree" ((v "a") ◂ (v "a") ◂ (v "a") ◂ nil)) ◂ (c "Tree" ((v "a") ◂ (v "a") ◂ (v "a") ◂ nil)) ◂ (c "Tree" ((v "a") ◂ (v "a") ◂ (v "a") ◂ nil)) ◂ nil)) ◂ (c "Tree" ((c "Tree" ((v "a") ◂ (v "a") ◂ (v "a") ◂ nil)) ◂ (c "Tree" ((v "a") ◂ (v "a") ◂ (v "a") ◂ nil)) ◂ (c "Tree" ((v "a") ◂ (v "a") ◂ (v "a") ◂ nil)) ◂ nil)) ◂ nil)) ◂ nil)) ◂ (c "Pair" ((c "Tree" ((c "Tree" ((c "Tree" ((v "a") ◂ (v "a") ◂ (v "a") ◂ nil)) ◂ (c "Tree" ((v "a") ◂ (v "a") ◂ (v "a") ◂ nil)) ◂ (c "Tree" ((v "a") ◂ (v "a") ◂ (v "a") ◂ nil)) ◂ nil)) ◂ (c "Tree" ((c "Tree" ((v "a") ◂ (v "a") ◂ (v "a") ◂ nil)) ◂ (c "Tree" ((v "a") ◂ (v "a") ◂ (v "a") ◂ nil)) ◂ (c "Tree" ((v "a") ◂ (v "a") ◂ (v "a") ◂ nil)) ◂ nil)) ◂ (c "Tree" ((c "Tree" ((v "a") ◂ (v "a") ◂ (v "a") ◂ nil)) ◂ (c "Tree" ((v "a") ◂ (v "a") ◂ (v "a") ◂ nil)) ◂ (c "Tree" ((v "a") ◂ (v "a") ◂ (v "a") ◂ nil)) ◂ nil)) ◂ nil)) ◂ (c "Tree" ((c "Tree" ((c "Tree" ((v "a") ◂ (v "a") ◂ (v "a") ◂ nil)) ◂ (c "Tree" ((v "a") ◂ (v "a") ◂ (v "a") ◂ nil)) ◂ (c "Tree" ((v "a") ◂ (v "a") ◂ (v "a") ◂ nil)) ◂ nil)) ◂ (c "Tree" ((c "Tree" ((v "a") ◂ (v "a") ◂ (v "a") ◂ nil)) ◂ (c "Tree" ((v "a") ◂ (v "a") ◂ (v "a") ◂ nil)) ◂ (c "Tree" ((v "a") ◂ (v "a") ◂ (v "a") ◂ nil)) ◂ nil)) ◂ (c "Tree" ((c "Tree" ((v "a") ◂ (v "a") ◂ (v "a") ◂ nil)) ◂ (c "Tree" ((v "a") ◂ (v "a") ◂ (v "a") ◂ nil)) ◂ (c "Tree" ((v "a") ◂ (v "a") ◂ (v "a") ◂ nil)) ◂ nil)) ◂ nil)) ◂ nil)) ◂ nil))) ◂ (arrow (c "Tree" ((c "Pair" ((c "Tree" ((c "Tree" ((c "Tree" ((v "a") ◂ (v "a") ◂ (v "a") ◂ nil)) ◂ (c "Tree" ((v "a") ◂ (v "a") ◂ (v "a") ◂ nil)) ◂ (c "Tree" ((v "a") ◂ (v "a") ◂ (v "a") ◂ nil)) ◂ nil)) ◂ (c "Tree" ((c "Tree" ((v "a") ◂ (v "a") ◂ (v "a") ◂ nil)) ◂ (c "Tree" ((v "a") ◂ (v "a") ◂ (v "a") ◂ nil)) ◂ (c "Tree" ((v "a") ◂ (v "a") ◂ (v "a") ◂ nil)) ◂ nil)) ◂ (c "Tree" ((c "Tree" ((v "a") ◂ (v "a") ◂ (v "a") ◂ nil)) ◂ (c "Tree" ((v "a") ◂ (v "a") ◂ (v "a") ◂ nil)) ◂ (c "Tree" ((v "a") ◂ (v "a") ◂ (v "a") ◂ nil)) ◂ nil)) ◂ nil)) ◂ (c "Tree" ((c "Tree" ((c "Tree" ((v "a") ◂ (v "a") ◂ (v "a") ◂ nil)) ◂ (c "Tree" ((v "a") ◂ (v "a") ◂ (v "a") ◂ nil)) ◂ (c "Tree" ((v "a") ◂ (v "a") ◂ (v "a") ◂ nil)) ◂ nil)) ◂ (c "Tree" ((c "Tree" ((v "a") ◂ (v "a") ◂ (v "a") ◂ nil)) ◂ (c "Tree" ((v "a") ◂ (v "a") ◂ (v "a") ◂ nil)) ◂ (c "Tree" ((v "a") ◂ (v "a") ◂ (v "a") ◂ nil)) ◂ nil)) ◂ (c "Tree" ((c "Tree" ((v "a") ◂ (v "a") ◂ (v "a") ◂ nil)) ◂ (c "Tree" ((v "a") ◂ (v "a") ◂ (v "a") ◂ nil)) ◂ (c "Tree" ((v "a") ◂ (v "a") ◂ (v "a") ◂ nil)) ◂ nil)) ◂ nil)) ◂ nil)) ◂ (c "Pair" ((c "Tree" ((c "Tree" ((c "Tree" ((v "a") ◂ (v "a") ◂ (v "a") ◂ nil)) ◂ (c "Tree" ((v "a") ◂ (v "a") ◂ (v "a") ◂ nil)) ◂ (c "Tree" ((v "a") ◂ (v "a") ◂ (v "a") ◂ nil)) ◂ nil)) ◂ (c "Tree" ((c "Tree" ((v "a") ◂ (v "a") ◂ (v "a") ◂ nil)) ◂ (c "Tree" ((v "a") ◂ (v "a") ◂ (v "a") ◂ nil)) ◂ (c "Tree" ((v "a") ◂ (v "a") ◂ (v "a") ◂ nil)) ◂ nil)) ◂ (c "Tree" ((c "Tree" ((v "a") ◂ (v "a") ◂ (v "a") ◂ nil)) ◂ (c "Tree" ((v "a") ◂ (v "a") ◂ (v "a") ◂ nil)) ◂ (c "Tree" ((v "a") ◂ (v "a") ◂ (v "a") ◂ nil)) ◂ nil)) ◂ nil)) ◂ (c "Tree" ((c "Tree" ((c "Tree" ((v "a") ◂ (v "a") ◂ (v "a") ◂ nil)) ◂ (c "Tree" ((v "a") ◂ (v "a") ◂ (v "a") ◂ nil)) ◂ (c "Tree" ((v "a") ◂ (v "a") ◂ (v "a") ◂ nil)) ◂ nil)) ◂ (c "Tree" ((c "Tree" ((v "a") ◂ (v "a") ◂ (v "a") ◂ nil)) ◂ (c "Tree" ((v "a") ◂ (v "a") ◂ (v "a") ◂ nil)) ◂ (c "Tree" ((v "a") ◂ (v "a") ◂ (v "a") ◂ nil)) ◂ nil)) ◂ (c "Tree" ((c "Tree" ((v "a") ◂ (v "a") ◂ (v "a") ◂ nil)) ◂ (c "Tree" ((v "a") ◂ (v "a") ◂ (v "a") ◂ nil)) ◂ (c "Tree" ((v "a") ◂ (v "a") ◂ (v "a") ◂ nil)) ◂ nil)) ◂ nil)) ◂ nil)) ◂ (c "Pair" ((c "Tree" ((c "Tree" ((c "Tree" ((v "a") ◂ (v "a") ◂ (v "a") ◂ nil)) ◂ (c "Tree" ((v "a") ◂ (v "a") ◂ (v "a") ◂ nil)) ◂ (c "Tree" ((v "a") ◂ (v "a") ◂ (v "a") ◂ nil)) ◂ nil)) ◂ (c "Tree" ((c "Tree" ((v "a") ◂ (v "a") ◂ (v "a") ◂ nil)) ◂ (c "Tree" ((v "a") ◂ (v "a") ◂ (v "a") ◂ nil)) ◂ (c "Tree" ((v "a") ◂ (v "a") ◂ (v "a") ◂ nil)) ◂ nil)) ◂ (c "Tree" ((c "Tree" ((v "a") ◂ (v "a") ◂ (v "a") ◂ nil)) ◂ (c "Tree" ((v "a") ◂ (v "a") ◂ (v "a") ◂ nil)) ◂ (c "Tree" ((v "a") ◂ (v "a") ◂ (v "a") ◂ nil)) ◂ nil)) ◂ nil)) ◂ (c "Tree" ((c "Tree" ((c "Tree" ((v "a") ◂ (v "a") ◂ (v "a") ◂ nil)) ◂ (c "Tree" ((v "a") ◂ (v "a") ◂ (v "a") ◂ nil)) ◂ (c "Tree" ((v "a") ◂ (v "a") ◂ (v "a") ◂ nil)) ◂ nil)) ◂ (c "Tree" ((c "Tree" ((v "a") ◂ (v "a") ◂ (v "a") ◂ nil)) ◂ (c "Tree" ((v "a") ◂ (v "a") ◂ (v "a") ◂ nil)) ◂ (c "Tree" ((v "a") ◂ (v "a") ◂ (v "a") ◂ nil)) ◂ nil)) ◂ (c "Tree" ((c "Tree" ((v "a") ◂ (v "a") ◂ (v "a") ◂ nil)) ◂ (c "Tree" ((v "a") ◂ (v "a") ◂ (v "a") ◂ nil)) ◂ (c "Tree" ((v "a") ◂ (v "a") ◂ (v "a") ◂ nil)) ◂ nil)) ◂ nil)) ◂ nil)) ◂ nil)) (c "Tree" ((c "Pair" ((c "Tree" ((c "Tree" ((c "Tree" ((v "a") ◂ (v "a") ◂ (v "a") ◂ nil)) ◂ (c "Tree" ((v "a") ◂ (v "a") ◂ (v "a") ◂ nil)) ◂ (c "Tree" ((v "a") ◂ (v "a") ◂ (v "a") ◂ nil)) ◂ nil)) ◂ (c "Tree" ((c "Tree" ((v "a") ◂ (v "a") ◂ (v "a") ◂ nil)) ◂ (c "Tree" ((v "a") ◂ (v "a") ◂ (v "a") ◂ nil)) ◂ (c "Tree" ((v "a") ◂ (v "a") ◂ (v "a") ◂ nil)) ◂ nil)) ◂ (c "Tree" ((c "Tree" ((v "a") ◂ (v "a") ◂ (v "a") ◂ nil)) ◂ (c "Tree" ((v "a") ◂ (v "a") ◂ (v "a") ◂ nil)) ◂ (c "Tree" ((v "a") ◂ (v "a") ◂ (v "a") ◂ nil)) ◂ nil)) ◂ nil)) ◂ (c "Tree" ((c "Tree" ((c "Tree" ((v "a") ◂ (v "a") ◂ (v "a") ◂ nil)) ◂ (c "Tree" ((v "a") ◂ (v "a") ◂ (v "a") ◂ nil)) ◂ (c "Tree" ((v "a") ◂ (v "a") ◂ (v "a") ◂ nil)) ◂ nil)) ◂ (c "Tree" ((c "Tree" ((v "a") ◂ (v "a") ◂ (v "a") ◂ nil)) ◂ (c "Tree" ((v "a") ◂ (v "a") ◂ (v "a") ◂ nil)) ◂ (c "Tree" ((v "a") ◂ (v "a") ◂ (v "a") ◂ nil)) ◂ nil)) ◂ (c "Tree" ((c "Tree" ((v "a") ◂ (v "a") ◂ (v "a") ◂ nil)) ◂ (c "Tree" ((v "a") ◂ (v "a") ◂ (v "a") ◂ nil)) ◂ (c "Tree" ((v "a") ◂ (v "a") ◂ (v "a") ◂ nil)) ◂ nil)) ◂ nil)) ◂ nil)) ◂ (c "Pair" ((c "Tree" ((c "Tree" ((c "Tree" ((v "a") ◂ (v "a") ◂ (v "a") ◂ nil)) ◂ (c "Tree" ((v "a") ◂ (v "a") ◂ (v "a") ◂ nil)) ◂ (c "Tree" ((v "a") ◂ (v "a") ◂ (v "a") ◂ nil)) ◂ nil)) ◂ (c "Tree" ((c "Tree" ((v "a") ◂ (v "a") ◂ (v "a") ◂ nil)) ◂ (c "Tree" ((v "a") ◂ (v "a") ◂ (v "a") ◂ nil)) ◂ (c "Tree" ((v "a") ◂ (v "a") ◂ (v "a") ◂ nil)) ◂ nil)) ◂ (c "Tree" ((c "Tree" ((v "a") ◂ (v "a") ◂ (v "a") ◂ nil)) ◂ (c "Tree" ((v "a") ◂ (v "a") ◂ (v "a") ◂ nil)) ◂ (c "Tree" ((v "a") ◂ (v "a") ◂ (v "a") ◂ nil)) ◂ nil)) ◂ nil)) ◂ (c "Tree" ((c "Tree" ((c "Tree" ((v "a") ◂ (v "a") ◂ (v "a") ◂ nil)) ◂ (c "Tree" ((v "a") ◂ (v "a") ◂ (v "a") ◂ nil)) ◂ (c "Tree" ((v "a") ◂ (v "a") ◂ (v "a") ◂ nil)) ◂ nil)) ◂ (c "Tree" ((c "Tree" ((v "a") ◂ (v "a") ◂ (v "a") ◂ nil)) ◂ (c "Tree" ((v "a") ◂ (v "a") ◂ (v "a") ◂ nil)) ◂ (c "Tree" ((v "a") ◂ (v "a") ◂ (v "a") ◂ nil)) ◂ nil)) ◂ (c "Tree" ((c "Tree" ((v "a") ◂ (v "a") ◂ (v "a") ◂ nil)) ◂ (c "Tree" ((v "a") ◂ (v "a") ◂ (v "a") ◂ nil)) ◂ (c "Tree" ((v "a") ◂ (v "a") ◂ (v "a") ◂ nil)) ◂ nil)) ◂ nil)) ◂ nil)) ◂ (c "Pair" ((c "Tree" ((c "Tree" ((c "Tree" ((v "a") ◂ (v "a") ◂ (v "a") ◂ nil)) ◂ (c "Tree" ((v "a") ◂ (v "a") ◂ (v "a") ◂ nil)) ◂ (c "Tree" ((v "a") ◂ (v "a") ◂ (v "a") ◂ nil)) ◂ nil)) ◂ (c "Tree" ((c "Tree" ((v "a") ◂ (v "a") ◂ (v "a") ◂ nil)) ◂ (c "Tree" ((v "a") ◂ (v "a") ◂ (v "a") ◂ nil)) ◂ (c "Tree" ((v "a") ◂ (v "a") ◂ (v "a") ◂ nil)) ◂ nil)) ◂ (c "Tree" ((c "Tree" ((v "a") ◂ (v "a") ◂ (v "a") ◂ nil)) ◂ (c "Tree" ((v "a") ◂ (v "a") ◂ (v "a") ◂ nil)) ◂ (c "Tree" ((v "a") ◂ (v "a") ◂ (v "a") ◂ nil)) ◂ nil)) ◂ nil)) ◂ (c "Tree" ((c "Tree" ((c "Tree" ((v "a") ◂ (v "a") ◂ (v "a") ◂ nil)) ◂ (c "Tree" ((v "a") ◂ (v "a") ◂ (v "a") ◂ nil)) ◂ (c "Tree" ((v "a") ◂ (v "a") ◂ (v "a") ◂ nil)) ◂ nil)) ◂ (c "Tree" ((c "Tree" ((v "a") ◂ (v "a") ◂ (v "a") ◂ nil)) ◂ (c "Tree" ((v "a") ◂ (v "a") ◂ (v "a") ◂ nil)) ◂ (c "Tree" ((v "a") ◂ (v "a") ◂ (v "a") ◂ nil)) ◂ nil)) ◂ (c "Tree" ((c "Tree" ((v "a") ◂ (v "a") ◂ (v "a") ◂ nil)) ◂ (c "Tree" ((v "a") ◂ (v "a") ◂ (v "a") ◂ nil)) ◂ (c "Tree" ((v "a") ◂ (v "a") ◂ (v "a") ◂ nil)) ◂ nil)) ◂ nil)) ◂ nil)) ◂ nil))) ◂ nil)) ◂ (c "Tree" ((arrow (c "Tree" ((c "Pair" ((c "Tree" ((c "Tree" ((c "Tree" ((v "a") ◂ (v "a") ◂ (v "a") ◂ nil)) ◂ (c "Tree" ((v "a") ◂ (v "a") ◂ (v "a") ◂ nil)) ◂ (c "Tree" ((v "a") ◂ (v "a") ◂ (v "a") ◂ nil)) ◂ nil)) ◂ (c "Tree" ((c "Tree" ((v "a") ◂ (v "a") ◂ (v "a") ◂ nil)) ◂ (c "Tree" ((v "a") ◂ (v "a") ◂ (v "a") ◂ nil)) ◂ (c "Tree" ((v "a") ◂ (v "a") ◂ (v "a") ◂ nil)) ◂ nil)) ◂ (c "Tree" ((c "Tree" ((v "a") ◂ (v "a") ◂ (v "a") ◂ nil)) ◂ (c "Tree" ((v "a") ◂ (v "a") ◂ (v "a") ◂ nil)) ◂ (c "Tree" ((v "a") ◂ (v "a") ◂ (v "a") ◂ nil)) ◂ nil)) ◂ nil)) ◂ (c "Tree" ((c "Tree" ((c "Tree" ((v "a") ◂ (v "a") ◂ (v "a") ◂ nil)) ◂ (c "Tree" ((v "a") ◂ (v "a") ◂ (v "a") ◂ nil)) ◂ (c "Tree" ((v "a") ◂ (v "a") ◂ (v "a") ◂ nil)) ◂ nil)) ◂ (c "Tree" ((c "Tree" ((v "a") ◂ (v "a") ◂ (v "a") ◂ nil)) ◂ (c "Tree" ((v "a") ◂ (v "a") ◂ (v "a") ◂ nil)) ◂ (c "Tree" ((v "a") ◂ (v "a") ◂ (v "a") ◂ nil)) ◂ nil)) ◂ (c "Tree" ((c "Tree" ((v "a") ◂ (v "a") ◂ (v "a") ◂ nil)) ◂ (c "Tree" ((v "a") ◂ (v "a") ◂ (v "a") ◂ nil)) ◂ (c "Tree" ((v "a") ◂ (v "a") ◂ (v "a") ◂ nil)) ◂ nil)) ◂ nil)) ◂ nil)) ◂ (c "Pair" ((c "Tree" ((c "Tree" ((c "Tree" ((v "a") ◂ (v "a") ◂ (v "a") ◂ nil)) ◂ (c "Tree" ((v "a") ◂ (v "a") ◂ (v "a") ◂ nil)) ◂ (c "Tree" ((v "a") ◂ (v "a") ◂ (v "a") ◂ nil)) ◂ nil)) ◂ (c "Tree" ((c "Tree" ((v "a") ◂ (v "a") ◂ (v "a") ◂ nil)) ◂ (c "Tree" ((v "a") ◂ (v "a") ◂ (v "a") ◂ nil)) ◂ (c "Tree" ((v "a") ◂ (v "a") ◂ (v "a") ◂ nil)) ◂ nil)) ◂ (c "Tree" ((c "Tree" ((v "a") ◂ (v "a") ◂ (v "a") ◂ nil)) ◂ (c "Tree" ((v "a") ◂ (v "a") ◂ (v "a") ◂ nil)) ◂ (c "Tree" ((v "a") ◂ (v "a") ◂ (v "a") ◂ nil)) ◂ nil)) ◂ nil)) ◂ (c "Tree" ((c "Tree" ((c "Tree" ((v "a") ◂ (v "a") ◂ (v "a") ◂ nil)) ◂ (c "Tree" ((v "a") ◂ (v "a") ◂ (v "a") ◂ nil)) ◂ (c "Tree" ((v "a") ◂ (v "a") ◂ (v "a") ◂ nil)) ◂ nil)) ◂ (c "Tree" ((c "Tree" ((v "a") ◂ (v "a") ◂ (v "a") ◂ nil)) ◂ (c "Tree" ((v "a") ◂ (v "a") ◂ (v "a") ◂ nil)) ◂ (c "Tree" ((v "a") ◂ (v "a") ◂ (v "a") ◂ nil)) ◂ nil)) ◂ (c "Tree" ((c "Tree" ((v "a") ◂ (v "a") ◂ (v "a") ◂ nil)) ◂ (c "Tree" ((v "a") ◂ (v "a") ◂ (v "a") ◂ nil)) ◂ (c "Tree" ((v "a") ◂ (v "a") ◂ (v "a") ◂ nil)) ◂ nil)) ◂ nil)) ◂ nil)) ◂ (c "Pair" ((c "Tree" ((c "Tree" ((c "Tree" ((v "a") ◂ (v "a") ◂ (v "a") ◂ nil)) ◂ (c "Tree" ((v "a") ◂ (v "a") ◂ (v "a") ◂ nil)) ◂ (c "Tree" ((v "a") ◂ (v "a") ◂ (v "a") ◂ nil)) ◂ nil)) ◂ (c "Tree" ((c "Tree" ((v "a") ◂ (v "a") ◂ (v "a") ◂ nil)) ◂ (c "Tree" ((v "a") ◂ (v "a") ◂ (v "a") ◂ nil)) ◂ (c "Tree" ((v "a") ◂ (v "a") ◂ (v "a") ◂ nil)) ◂ nil)) ◂ (c "Tree" ((c "Tree" ((v "a") ◂ (v "a") ◂ (v "a") ◂ nil)) ◂ (c "Tree" ((v "a") ◂ (v "a") ◂ (v "a") ◂ nil)) ◂ (c "Tree" ((v "a") ◂ (v "a") ◂ (v "a") ◂ nil)) ◂ nil)) ◂ nil)) ◂ (c "Tree" ((c "Tree" ((c "Tree" ((v "a") ◂ (v "a") ◂ (v "a") ◂ nil)) ◂ (c "Tree" ((v "a") ◂ (v "a") ◂ (v "a") ◂ nil)) ◂ (c "Tree" ((v "a") ◂ (v "a") ◂ (v "a") ◂ nil)) ◂ nil)) ◂ (c "Tree" ((c "Tree" ((v "a") ◂ (v "a") ◂ (v "a") ◂ nil)) ◂ (c "Tree" ((v "a") ◂ (v "a") ◂ (v "a") ◂ nil)) ◂ (c "Tree" ((v "a") ◂ (v "a") ◂ (v "a") ◂ nil)) ◂ nil)) ◂ (c "Tree" ((c "Tree" ((v "a") ◂ (v "a") ◂ (v "a") ◂ nil)) ◂ (c "Tree" ((v "a") ◂ (v "a") ◂ (v "a") ◂ nil)) ◂ (c "Tree" ((v "a") ◂ (v "a") ◂ (v "a") ◂ nil)) ◂ nil)) ◂ nil)) ◂ nil)) ◂ nil)) (c "Tree" ((c "Pair" ((c "Tree" ((c "Tree" ((c "Tree" ((v "a") ◂ (v "a") ◂ (v "a") ◂ nil)) ◂ (c "Tree" ((v "a") ◂ (v "a") ◂ (v "a") ◂ nil)) ◂ (c "Tree" ((v "a") ◂ (v "a") ◂ (v "a") ◂ nil)) ◂ nil)) ◂ (c "Tree" ((c "Tree" ((v "a") ◂ (v "a") ◂ (v "a") ◂ nil)) ◂ (c "Tree" ((v "a") ◂ (v "a") ◂ (v "a") ◂ nil)) ◂ (c "Tree" ((v "a") ◂ (v "a") ◂ (v "a") ◂ nil)) ◂ nil)) ◂ (c "Tree" ((c "Tree" ((v "a") ◂ (v "a") ◂ (v "a") ◂ nil)) ◂ (c "Tree" ((v "a") ◂ (v "a") ◂ (v "a") ◂ nil)) ◂ (c "Tree" ((v "a") ◂ (v "a") ◂ (v "a") ◂ nil)) ◂ nil)) ◂ nil)) ◂ (c "Tree" ((c "Tree" ((c "Tree" ((v "a") ◂ (v "a") ◂ (v "a") ◂ nil)) ◂ (c "Tree" ((v "a") ◂ (v "a") ◂ (v "a") ◂ nil)) ◂ (c "Tree" ((v "a") ◂ (v "a") ◂ (v "a") ◂ nil)) ◂ nil)) ◂ (c "Tree" ((c "Tree" ((v "a") ◂ (v "a") ◂ (v "a") ◂ nil)) ◂ (c "Tree" ((v "a") ◂ (v "a") ◂ (v "a") ◂ nil)) ◂ (c "Tree" ((v "a") ◂ (v "a") ◂ (v "a") ◂ nil)) ◂ nil)) ◂ (c "Tree" ((c "Tree" ((v "a") ◂ (v "a") ◂ (v "a") ◂ nil)) ◂ (c "Tree" ((v "a") ◂ (v "a") ◂ (v "a") ◂ nil)) ◂ (c "Tree" ((v "a") ◂ (v "a") ◂ (v "a") ◂ nil)) ◂ nil)) ◂ nil)) ◂ nil)) ◂ (c "Pair" ((c "Tree" ((c "Tree" ((c "Tree" ((v "a") ◂ (v "a") ◂ (v "a") ◂ nil)) ◂ (c "Tree" ((v "a") ◂ (v "a") ◂ (v "a") ◂ nil)) ◂ (c "Tree" ((v "a") ◂ (v "a") ◂ (v "a") ◂ nil)) ◂ nil)) ◂ (c "Tree" ((c "Tree" ((v "a") ◂ (v "a") ◂ (v "a") ◂ nil)) ◂ (c "Tree" ((v "a") ◂ (v "a") ◂ (v "a") ◂ nil)) ◂ (c "Tree" ((v "a") ◂ (v "a") ◂ (v "a") ◂ nil)) ◂ nil)) ◂ (c "Tree" ((c "Tree" ((v "a") ◂ (v "a") ◂ (v "a") ◂ nil)) ◂ (c "Tree" ((v "a") ◂ (v "a") ◂ (v "a") ◂ nil)) ◂ (c "Tree" ((v "a") ◂ (v "a") ◂ (v "a") ◂ nil)) ◂ nil)) ◂ nil)) ◂ (c "Tree" ((c "Tree" ((c "Tree" ((v "a") ◂ (v "a") ◂ (v "a") ◂ nil)) ◂ (c "Tree" ((v "a") ◂ (v "a") ◂ (v "a") ◂ nil)) ◂ (c "Tree" ((v "a") ◂ (v "a") ◂ (v "a") ◂ nil)) ◂ nil)) ◂ (c "Tree" ((c "Tree" ((v "a") ◂ (v "a") ◂ (v "a") ◂ nil)) ◂ (c "Tree" ((v "a") ◂ (v "a") ◂ (v "a") ◂ nil)) ◂ (c "Tree" ((v "a") ◂ (v "a") ◂ (v "a") ◂ nil)) ◂ nil)) ◂ (c "Tree" ((c "Tree" ((v "a") ◂ (v "a") ◂ (v "a") ◂ nil)) ◂ (c "Tree" ((v "a") ◂ (v "a") ◂ (v "a") ◂ nil)) ◂ (c "Tree" ((v "a") ◂ (v "a") ◂ (v "a") ◂ nil)) ◂ nil)) ◂ nil)) ◂ nil)) ◂ (c "Pair" ((c "Tree" ((c "Tree" ((c "Tree" ((v "a") ◂ (v "a") ◂ (v "a") ◂ nil)) ◂ (c "Tree" ((v "a") ◂ (v "a") ◂ (v "a") ◂ nil)) ◂ (c "Tree" ((v "a") ◂ (v "a") ◂ (v "a") ◂ nil)) ◂ nil)) ◂ (c "Tree" ((c "Tree" ((v "a") ◂ (v "a") ◂ (v "a") ◂ nil)) ◂ (c "Tree" ((v "a") ◂ (v "a") ◂ (v "a") ◂ nil)) ◂ (c "Tree" ((v "a") ◂ (v "a") ◂ (v "a") ◂ nil)) ◂ nil)) ◂ (c "Tree" ((c "Tree" ((v "a") ◂ (v "a") ◂ (v "a") ◂ nil)) ◂ (c "Tree" ((v "a") ◂ (v "a") ◂ (v "a") ◂ nil)) ◂ (c "Tree" ((v "a") ◂ (v "a") ◂ (v "a") ◂ nil)) ◂ nil)) ◂ nil)) ◂ (c "Tree" ((c "Tree" ((c "Tree" ((v "a") ◂ (v "a") ◂ (v "a") ◂ nil)) ◂ (c "Tree" ((v "a") ◂ (v "a") ◂ (v "a") ◂ nil)) ◂ (c "Tree" ((v "a") ◂ (v "a") ◂ (v "a") ◂ nil)) ◂ nil)) ◂ (c "Tree" ((c "Tree" ((v "a") ◂ (v "a") ◂ (v "a") ◂ nil)) ◂ (c "Tree" ((v "a") ◂ (v "a") ◂ (v "a") ◂ nil)) ◂ (c "Tree" ((v "a") ◂ (v "a") ◂ (v "a") ◂ nil)) ◂ nil)) ◂ (c "Tree" ((c "Tree" ((v "a") ◂ (v "a") ◂ (v "a") ◂ nil)) ◂ (c "Tree" ((v "a") ◂ (v "a") ◂ (v "a") ◂ nil)) ◂ (c "Tree" ((v "a") ◂ (v "a") ◂ (v "a") ◂ nil)) ◂ nil)) ◂ nil)) ◂ nil)) ◂ nil))) ◂ (arrow (c "Tree" ((c "Pair" ((c "Tree" ((c "Tree" ((c "Tree" ((v "a") ◂ (v "a") ◂ (v "a") ◂ nil)) ◂ (c "Tree" ((v "a") ◂ (v "a") ◂ (v "a") ◂ nil)) ◂ (c "Tree" ((v "a") ◂ (v "a") ◂ (v "a") ◂ nil)) ◂ nil)) ◂ (c "Tree" ((c "Tree" ((v "a") ◂ (v "a") ◂ (v "a") ◂ nil)) ◂ (c "Tree" ((v "a") ◂ (v "a") ◂ (v "a") ◂ nil)) ◂ (c "Tree" ((v "a") ◂ (v "a") ◂ (v "a") ◂ nil)) ◂ nil)) ◂ (c "Tree" ((c "Tree" ((v "a") ◂ (v "a") ◂ (v "a") ◂ nil)) ◂ (c "Tree" ((v "a") ◂ (v "a") ◂ (v "a") ◂ nil)) ◂ (c "Tree" ((v "a") ◂ (v "a") ◂ (v "a") ◂ nil)) ◂ nil)) ◂ nil)) ◂ (c "Tree" ((c "Tree" ((c "Tree" ((v "a") ◂ (v "a") ◂ (v "a") ◂ nil)) ◂ (c "Tree" ((v "a") ◂ (v "a") ◂ (v "a") ◂ nil)) ◂ (c "Tree" ((v "a") ◂ (v "a") ◂ (v "a") ◂ nil)) ◂ nil)) ◂ (c "Tree" ((c "Tree" ((v "a") ◂ (v "a") ◂ (v "a") ◂ nil)) ◂ (c "Tree" ((v "a") ◂ (v "a") ◂ (v "a") ◂ nil)) ◂ (c "Tree" ((v "a") ◂ (v "a") ◂ (v "a") ◂ nil)) ◂ nil)) ◂ (c "Tree" ((c "Tree" ((v "a") ◂ (v "a") ◂ (v "a") ◂ nil)) ◂ (c "Tree" ((v "a") ◂ (v "a") ◂ (v "a") ◂ nil)) ◂ (c "Tree" ((v "a") ◂ (v "a") ◂ (v "a") ◂ nil)) ◂ nil)) ◂ nil)) ◂ nil)) ◂ (c "Pair" ((c "Tree" ((c "Tree" ((c "Tree" ((v "a") ◂ (v "a") ◂ (v "a") ◂ nil)) ◂ (c "Tree" ((v "a") ◂ (v "a") ◂ (v "a") ◂ nil)) ◂ (c "Tree" ((v "a") ◂ (v "a") ◂ (v "a") ◂ nil)) ◂ nil)) ◂ (c "Tree" ((c "Tree" ((v "a") ◂ (v "a") ◂ (v "a") ◂ nil)) ◂ (c "Tree" ((v "a") ◂ (v "a") ◂ (v "a") ◂ nil)) ◂ (c "Tree" ((v "a") ◂ (v "a") ◂ (v "a") ◂ nil)) ◂ nil)) ◂ (c "Tree" ((c "Tree" ((v "a") ◂ (v "a") ◂ (v "a") ◂ nil)) ◂ (c "Tree" ((v "a") ◂ (v "a") ◂ (v "a") ◂ nil)) ◂ (c "Tree" ((v "a") ◂ (v "a") ◂ (v "a") ◂ nil)) ◂ nil)) ◂ nil)) ◂ (c "Tree" ((c "Tree" ((c "Tree" ((v "a") ◂ (v "a") ◂ (v "a") ◂ nil)) ◂ (c "Tree" ((v "a") ◂ (v "a") ◂ (v "a") ◂ nil)) ◂ (c "Tree" ((v "a") ◂ (v "a") ◂ (v "a") ◂ nil)) ◂ nil)) ◂ (c "Tree" ((c "Tree" ((v "a") ◂ (v "a") ◂ (v "a") ◂ nil)) ◂ (c "Tree" ((v "a") ◂ (v "a") ◂ (v "a") ◂ nil)) ◂ (c "Tree" ((v "a") ◂ (v "a") ◂ (v "a") ◂ nil)) ◂ nil)) ◂ (c "Tree" ((c "Tree" ((v "a") ◂ (v "a") ◂ (v "a") ◂ nil)) ◂ (c "Tree" ((v "a") ◂ (v "a") ◂ (v "a") ◂ nil)) ◂ (c "Tree" ((v "a") ◂ (v "a") ◂ (v "a") ◂ nil)) ◂ nil)) ◂ nil)) ◂ nil)) ◂ (c "Pair" ((c "Tree" ((c "Tree" ((c "Tree" ((v "a") ◂ (v "a") ◂ (v "a") ◂ nil)) ◂ (c "Tree" ((v "a") ◂ (v "a") ◂ (v "a") ◂ nil)) ◂ (c "Tree" ((v "a") ◂ (v "a") ◂ (v "a") ◂ nil)) ◂ nil)) ◂ (c "Tree" ((c "Tree" ((v "a") ◂ (v "a") ◂ (v "a") ◂ nil)) ◂ (c "Tree" ((v "a") ◂ (v "a") ◂ (v "a") ◂ nil)) ◂ (c "Tree" ((v "a") ◂ (v "a") ◂ (v "a") ◂ nil)) ◂ nil)) ◂ (c "Tree" ((c "Tree" ((v "a") ◂ (v "a") ◂ (v "a") ◂ nil)) ◂ (c "Tree" ((v "a") ◂ (v "a") ◂ (v "a") ◂ nil)) ◂ (c "Tree" ((v "a") ◂ (v "a") ◂ (v "a") ◂ nil)) ◂ nil)) ◂ nil)) ◂ (c "Tree" ((c "Tree" ((c "Tree" ((v "a") ◂ (v "a") ◂ (v "a") ◂ nil)) ◂ (c "Tree" ((v "a") ◂ (v "a") ◂ (v "a") ◂ nil)) ◂ (c "Tree" ((v "a") ◂ (v "a") ◂ (v "a") ◂ nil)) ◂ nil)) ◂ (c "Tree" ((c "Tree" ((v "a") ◂ (v "a") ◂ (v "a") ◂ nil)) ◂ (c "Tree" ((v "a") ◂ (v "a") ◂ (v "a") ◂ nil)) ◂ (c "Tree" ((v "a") ◂ (v "a") ◂ (v "a") ◂ nil)) ◂ nil)) ◂ (c "Tree" ((c "Tree" ((v "a") ◂ (v "a") ◂ (v "a") ◂ nil)) ◂ (c "Tree" ((v "a") ◂ (v "a") ◂ (v "a") ◂ nil)) ◂ (c "Tree" ((v "a") ◂ (v "a") ◂ (v "a") ◂ nil)) ◂ nil)) ◂ nil)) ◂ nil)) ◂ nil)) (c "Tree" ((c "Pair" ((c "Tree" ((c "Tree" ((c "Tree" ((v "a") ◂ (v "a") ◂ (v "a") ◂ nil)) ◂ (c "Tree" ((v "a") ◂ (v "a") ◂ (v "a") ◂ nil)) ◂ (c "Tree" ((v "a") ◂ (v "a") ◂ (v "a") ◂ nil)) ◂ nil)) ◂ (c "Tree" ((c "Tree" ((v "a") ◂ (v "a") ◂ (v "a") ◂ nil)) ◂ (c "Tree" ((v "a") ◂ (v "a") ◂ (v "a") ◂ nil)) ◂ (c "Tree" ((v "a") ◂ (v "a") ◂ (v "a") ◂ nil)) ◂ nil)) ◂ (c "Tree" ((c "Tree" ((v "a") ◂ (v "a") ◂ (v "a") ◂ nil)) ◂ (c "Tree" ((v "a") ◂ (v "a") ◂ (v "a") ◂ nil)) ◂ (c "Tree" ((v "a") ◂ (v "a") ◂ (v "a") ◂ nil)) ◂ nil)) ◂ nil)) ◂ (c "Tree" ((c "Tree" ((c "Tree" ((v "a") ◂ (v "a") ◂ (v "a") ◂ nil)) ◂ (c "Tree" ((v "a") ◂ (v "a") ◂ (v "a") ◂ nil)) ◂ (c "Tree" ((v "a") ◂ (v "a") ◂ (v "a") ◂ nil)) ◂ nil)) ◂ (c "Tree" ((c "Tree" ((v "a") ◂ (v "a") ◂ (v "a") ◂ nil)) ◂ (c "Tree" ((v "a") ◂ (v "a") ◂ (v "a") ◂ nil)) ◂ (c "Tree" ((v "a") ◂ (v "a") ◂ (v "a") ◂ nil)) ◂ nil)) ◂ (c "Tree" ((c "Tree" ((v "a") ◂ (v "a") ◂ (v "a") ◂ nil)) ◂ (c "Tree" ((v "a") ◂ (v "a") ◂ (v "a") ◂ nil)) ◂ (c "Tree" ((v "a") ◂ (v "a") ◂ (v "a") ◂ nil)) ◂ nil)) ◂ nil)) ◂ nil)) ◂ (c "Pair" ((c "Tree" ((c "Tree" ((c "Tree" ((v "a") ◂ (v "a") ◂ (v "a") ◂ nil)) ◂ (c "Tree" ((v "a") ◂ (v "a") ◂ (v "a") ◂ nil)) ◂ (c "Tree" ((v "a") ◂ (v "a") ◂ (v "a") ◂ nil)) ◂ nil)) ◂ (c "Tree" ((c "Tree" ((v "a") ◂ (v "a") ◂ (v "a") ◂ nil)) ◂ (c "Tree" ((v "a") ◂ (v "a") ◂ (v "a") ◂ nil)) ◂ (c "Tree" ((v "a") ◂ (v "a") ◂ (v "a") ◂ nil)) ◂ nil)) ◂ (c "Tree" ((c "Tree" ((v "a") ◂ (v "a") ◂ (v "a") ◂ nil)) ◂ (c "Tree" ((v "a") ◂ (v "a") ◂ (v "a") ◂ nil)) ◂ (c "Tree" ((v "a") ◂ (v "a") ◂ (v "a") ◂ nil)) ◂ nil)) ◂ nil)) ◂ (c "Tree" ((c "Tree" ((c "Tree" ((v "a") ◂ (v "a") ◂ (v "a") ◂ nil)) ◂ (c "Tree" ((v "a") ◂ (v "a") ◂ (v "a") ◂ nil)) ◂ (c "Tree" ((v "a") ◂ (v "a") ◂ (v "a") ◂ nil)) ◂ nil)) ◂ (c "Tree" ((c "Tree" ((v "a") ◂ (v "a") ◂ (v "a") ◂ nil)) ◂ (c "Tree" ((v "a") ◂ (v "a") ◂ (v "a") ◂ nil)) ◂ (c "Tree" ((v "a") ◂ (v "a") ◂ (v "a") ◂ nil)) ◂ nil)) ◂ (c "Tree" ((c "Tree" ((v "a") ◂ (v "a") ◂ (v "a") ◂ nil)) ◂ (c "Tree" ((v "a") ◂ (v "a") ◂ (v "a") ◂ nil)) ◂ (c "Tree" ((v "a") ◂ (v "a") ◂ (v "a") ◂ nil)) ◂ nil)) ◂ nil)) ◂ nil)) ◂ (c "Pair" ((c "Tree" ((c "Tree" ((c "Tree" ((v "a") ◂ (v "a") ◂ (v "a") ◂ nil)) ◂ (c "Tree" ((v "a") ◂ (v "a") ◂ (v "a") ◂ nil)) ◂ (c "Tree" ((v "a") ◂ (v "a") ◂ (v "a") ◂ nil)) ◂ nil)) ◂ (c "Tree" ((c "Tree" ((v "a") ◂ (v "a") ◂ (v "a") ◂ nil)) ◂ (c "Tree" ((v "a") ◂ (v "a") ◂ (v "a") ◂ nil)) ◂ (c "Tree" ((v "a") ◂ (v "a") ◂ (v "a") ◂ nil)) ◂ nil)) ◂ (c "Tree" ((c "Tree" ((v "a") ◂ (v "a") ◂ (v "a") ◂ nil)) ◂ (c "Tree" ((v "a") ◂ (v "a") ◂ (v "a") ◂ nil)) ◂ (c "Tree" ((v "a") ◂ (v "a") ◂ (v "a") ◂ nil)) ◂ nil)) ◂ nil)) ◂ (c "Tree" ((c "Tree" ((c "Tree" ((v "a") ◂ (v "a") ◂ (v "a") ◂ nil)) ◂ (c "Tree" ((v "a") ◂ (v "a") ◂ (v "a") ◂ nil)) ◂ (c "Tree" ((v "a") ◂ (v "a") ◂ (v "a") ◂ nil)) ◂ nil)) ◂ (c "Tree" ((c "Tree" ((v "a") ◂ (v "a") ◂ (v "a") ◂ nil)) ◂ (c "Tree" ((v "a") ◂ (v "a") ◂ (v "a") ◂ nil)) ◂ (c "Tree" ((v "a") ◂ (v "a") ◂ (v "a") ◂ nil)) ◂ nil)) ◂ (c "Tree" ((c "Tree" ((v "a") ◂ (v "a") ◂ (v "a") ◂ nil)) ◂ (c "Tree" ((v "a") ◂ (v "a") ◂ (v "a") ◂ nil)) ◂ (c "Tree" ((v "a") ◂ (v "a") ◂ (v "a") ◂ nil)) ◂ nil)) ◂ nil)) ◂ nil)) ◂ nil))) ◂ (arrow (c "Tree" ((c "Pair" ((c "Tree" ((c "Tree" ((c "Tree" ((v "a") ◂ (v "a") ◂ (v "a") ◂ nil)) ◂ (c "Tree" ((v "a") ◂ (v "a") ◂ (v "a") ◂ nil)) ◂ (c "Tree" ((v "a") ◂ (v "a") ◂ (v "a") ◂ nil)) ◂ nil)) ◂ (c "Tree" ((c "Tree" ((v "a") ◂ (v "a") ◂ (v "a") ◂ nil)) ◂ (c "Tree" ((v "a") ◂ (v "a") ◂ (v "a") ◂ nil)) ◂ (c "Tree" ((v "a") ◂ (v "a") ◂ (v "a") ◂ nil)) ◂ nil)) ◂ (c "Tree" ((c "Tree" ((v "a") ◂ (v "a") ◂ (v "a") ◂ nil)) ◂ (c "Tree" ((v "a") ◂ (v "a") ◂ (v "a") ◂ nil)) ◂ (c "Tree" ((v "a") ◂ (v "a") ◂ (v "a") ◂ nil)) ◂ nil)) ◂ nil)) ◂ (c "Tree" ((c "Tree" ((c "Tree" ((v "a") ◂ (v "a") ◂ (v "a") ◂ nil)) ◂ (c "Tree" ((v "a") ◂ (v "a") ◂ (v "a") ◂ nil)) ◂ (c "Tree" ((v "a") ◂ (v "a") ◂ (v "a") ◂ nil)) ◂ nil)) ◂ (c "Tree" ((c "Tree" ((v "a") ◂ (v "a") ◂ (v "a") ◂ nil)) ◂ (c "Tree" ((v "a") ◂ (v "a") ◂ (v "a") ◂ nil)) ◂ (c "Tree" ((v "a") ◂ (v "a") ◂ (v "a") ◂ nil)) ◂ nil)) ◂ (c "Tree" ((c "Tree" ((v "a") ◂ (v "a") ◂ (v "a") ◂ nil)) ◂ (c "Tree" ((v "a") ◂ (v "a") ◂ (v "a") ◂ nil)) ◂ (c "Tree" ((v "a") ◂ (v "a") ◂ (v "a") ◂ nil)) ◂ nil)) ◂ nil)) ◂ nil)) ◂ (c "Pair" ((c "Tree" ((c "Tree" ((c "Tree" ((v "a") ◂ (v "a") ◂ (v "a") ◂ nil)) ◂ (c "Tree" ((v "a") ◂ (v "a") ◂ (v "a") ◂ nil)) ◂ (c "Tree" ((v "a") ◂ (v "a") ◂ (v "a") ◂ nil)) ◂ nil)) ◂ (c "Tree" ((c "Tree" ((v "a") ◂ (v "a") ◂ (v "a") ◂ nil)) ◂ (c "Tree" ((v "a") ◂ (v "a") ◂ (v "a") ◂ nil)) ◂ (c "Tree" ((v "a") ◂ (v "a") ◂ (v "a") ◂ nil)) ◂ nil)) ◂ (c "Tree" ((c "Tree" ((v "a") ◂ (v "a") ◂ (v "a") ◂ nil)) ◂ (c "Tree" ((v "a") ◂ (v "a") ◂ (v "a") ◂ nil)) ◂ (c "Tree" ((v "a") ◂ (v "a") ◂ (v "a") ◂ nil)) ◂ nil)) ◂ nil)) ◂ (c "Tree" ((c "Tree" ((c "Tree" ((v "a") ◂ (v "a") ◂ (v "a") ◂ nil)) ◂ (c "Tree" ((v "a") ◂ (v "a") ◂ (v "a") ◂ nil)) ◂ (c "Tree" ((v "a") ◂ (v "a") ◂ (v "a") ◂ nil)) ◂ nil)) ◂ (c "Tree" ((c "Tree" ((v "a") ◂ (v "a") ◂ (v "a") ◂ nil)) ◂ (c "Tree" ((v "a") ◂ (v "a") ◂ (v "a") ◂ nil)) ◂ (c "Tree" ((v "a") ◂ (v "a") ◂ (v "a") ◂ nil)) ◂ nil)) ◂ (c "Tree" ((c "Tree" ((v "a") ◂ (v "a") ◂ (v "a") ◂ nil)) ◂ (c "Tree" ((v "a") ◂ (v "a") ◂ (v "a") ◂ nil)) ◂ (c "Tree" ((v "a") ◂ (v "a") ◂ (v "a") ◂ nil)) ◂ nil)) ◂ nil)) ◂ nil)) ◂ (c "Pair" ((c "Tree" ((c "Tree" ((c "Tree" ((v "a") ◂ (v "a") ◂ (v "a") ◂ nil)) ◂ (c "Tree" ((v "a") ◂ (v "a") ◂ (v "a") ◂ nil)) ◂ (c "Tree" ((v "a") ◂ (v "a") ◂ (v "a") ◂ nil)) ◂ nil)) ◂ (c "Tree" ((c "Tree" ((v "a") ◂ (v "a") ◂ (v "a") ◂ nil)) ◂ (c "Tree" ((v "a") ◂ (v "a") ◂ (v "a") ◂ nil)) ◂ (c "Tree" ((v "a") ◂ (v "a") ◂ (v "a") ◂ nil)) ◂ nil)) ◂ (c "Tree" ((c "Tree" ((v "a") ◂ (v "a") ◂ (v "a") ◂ nil)) ◂ (c "Tree" ((v "a") ◂ (v "a") ◂ (v "a") ◂ nil)) ◂ (c "Tree" ((v "a") ◂ (v "a") ◂ (v "a") ◂ nil)) ◂ nil)) ◂ nil)) ◂ (c "Tree" ((c "Tree" ((c "Tree" ((v "a") ◂ (v "a") ◂ (v "a") ◂ nil)) ◂ (c "Tree" ((v "a") ◂ (v "a") ◂ (v "a") ◂ nil)) ◂ (c "Tree" ((v "a") ◂ (v "a") ◂ (v "a") ◂ nil)) ◂ nil)) ◂ (c "Tree" ((c "Tree" ((v "a") ◂ (v "a") ◂ (v "a") ◂ nil)) ◂ (c "Tree" ((v "a") ◂ (v "a") ◂ (v "a") ◂ nil)) ◂ (c "Tree" ((v "a") ◂ (v "a") ◂ (v "a") ◂ nil)) ◂ nil)) ◂ (c "Tree" ((c "Tree" ((v "a") ◂ (v "a") ◂ (v "a") ◂ nil)) ◂ (c "Tree" ((v "a") ◂ (v "a") ◂ (v "a") ◂ nil)) ◂ (c "Tree" ((v "a") ◂ (v "a") ◂ (v "a") ◂ nil)) ◂ nil)) ◂ nil)) ◂ nil)) ◂ nil)) (c "Tree" ((c "Pair" ((c "Tree" ((c "Tree" ((c "Tree" ((v "a") ◂ (v "a") ◂ (v "a") ◂ nil)) ◂ (c "Tree" ((v "a") ◂ (v "a") ◂ (v "a") ◂ nil)) ◂ (c "Tree" ((v "a") ◂ (v "a") ◂ (v "a") ◂ nil)) ◂ nil)) ◂ (c "Tree" ((c "Tree" ((v "a") ◂ (v "a") ◂ (v "a") ◂ nil)) ◂ (c "Tree" ((v "a") ◂ (v "a") ◂ (v "a") ◂ nil)) ◂ (c "Tree" ((v "a") ◂ (v "a") ◂ (v "a") ◂ nil)) ◂ nil)) ◂ (c "Tree" ((c "Tree" ((v "a") ◂ (v "a") ◂ (v "a") ◂ nil)) ◂ (c "Tree" ((v "a") ◂ (v "a") ◂ (v "a") ◂ nil)) ◂ (c "Tree" ((v "a") ◂ (v "a") ◂ (v "a") ◂ nil)) ◂ nil)) ◂ nil)) ◂ (c "Tree" ((c "Tree" ((c "Tree" ((v "a") ◂ (v "a") ◂ (v "a") ◂ nil)) ◂ (c "Tree" ((v "a") ◂ (v "a") ◂ (v "a") ◂ nil)) ◂ (c "Tree" ((v "a") ◂ (v "a") ◂ (v "a") ◂ nil)) ◂ nil)) ◂ (c "Tree" ((c "Tree" ((v "a") ◂ (v "a") ◂ (v "a") ◂ nil)) ◂ (c "Tree" ((v "a") ◂ (v "a") ◂ (v "a") ◂ nil)) ◂ (c "Tree" ((v "a") ◂ (v "a") ◂ (v "a") ◂ nil)) ◂ nil)) ◂ (c "Tree" ((c "Tree" ((v "a") ◂ (v "a") ◂ (v "a") ◂ nil)) ◂ (c "Tree" ((v "a") ◂ (v "a") ◂ (v "a") ◂ nil)) ◂ (c "Tree" ((v "a") ◂ (v "a") ◂ (v "a") ◂ nil)) ◂ nil)) ◂ nil)) ◂ nil)) ◂ (c "Pair" ((c "Tree" ((c "Tree" ((c "Tree" ((v "a") ◂ (v "a") ◂ (v "a") ◂ nil)) ◂ (c "Tree" ((v "a") ◂ (v "a") ◂ (v "a") ◂ nil)) ◂ (c "Tree" ((v "a") ◂ (v "a") ◂ (v "a") ◂ nil)) ◂ nil)) ◂ (c "Tree" ((c "Tree" ((v "a") ◂ (v "a") ◂ (v "a") ◂ nil)) ◂ (c "Tree" ((v "a") ◂ (v "a") ◂ (v "a") ◂ nil)) ◂ (c "Tree" ((v "a") ◂ (v "a") ◂ (v "a") ◂ nil)) ◂ nil)) ◂ (c "Tree" ((c "Tree" ((v "a") ◂ (v "a") ◂ (v "a") ◂ nil)) ◂ (c "Tree" ((v "a") ◂ (v "a") ◂ (v "a") ◂ nil)) ◂ (c "Tree" ((v "a") ◂ (v "a") ◂ (v "a") ◂ nil)) ◂ nil)) ◂ nil)) ◂ (c "Tree" ((c "Tree" ((c "Tree" ((v "a") ◂ (v "a") ◂ (v "a") ◂ nil)) ◂ (c "Tree" ((v "a") ◂ (v "a") ◂ (v "a") ◂ nil)) ◂ (c "Tree" ((v "a") ◂ (v "a") ◂ (v "a") ◂ nil)) ◂ nil)) ◂ (c "Tree" ((c "Tree" ((v "a") ◂ (v "a") ◂ (v "a") ◂ nil)) ◂ (c "Tree" ((v "a") ◂ (v "a") ◂ (v "a") ◂ nil)) ◂ (c "Tree" ((v "a") ◂ (v "a") ◂ (v "a") ◂ nil)) ◂ nil)) ◂ (c "Tree" ((c "Tree" ((v "a") ◂ (v "a") ◂ (v "a") ◂ nil)) ◂ (c "Tree" ((v "a") ◂ (v "a") ◂ (v "a") ◂ nil)) ◂ (c "Tree" ((v "a") ◂ (v "a") ◂ (v "a") ◂ nil)) ◂ nil)) ◂ nil)) ◂ nil)) ◂ (c "Pair" ((c "Tree" ((c "Tree" ((c "Tree" ((v "a") ◂ (v "a") ◂ (v "a") ◂ nil)) ◂ (c "Tree" ((v "a") ◂ (v "a") ◂ (v "a") ◂ nil)) ◂ (c "Tree" ((v "a") ◂ (v "a") ◂ (v "a") ◂ nil)) ◂ nil)) ◂ (c "Tree" ((c "Tree" ((v "a") ◂ (v "a") ◂ (v "a") ◂ nil)) ◂ (c "Tree" ((v "a") ◂ (v "a") ◂ (v "a") ◂ nil)) ◂ (c "Tree" ((v "a") ◂ (v "a") ◂ (v "a") ◂ nil)) ◂ nil)) ◂ (c "Tree" ((c "Tree" ((v "a") ◂ (v "a") ◂ (v "a") ◂ nil)) ◂ (c "Tree" ((v "a") ◂ (v "a") ◂ (v "a") ◂ nil)) ◂ (c "Tree" ((v "a") ◂ (v "a") ◂ (v "a") ◂ nil)) ◂ nil)) ◂ nil)) ◂ (c "Tree" ((c "Tree" ((c "Tree" ((v "a") ◂ (v "a") ◂ (v "a") ◂ nil)) ◂ (c "Tree" ((v "a") ◂ (v "a") ◂ (v "a") ◂ nil)) ◂ (c "Tree" ((v "a") ◂ (v "a") ◂ (v "a") ◂ nil)) ◂ nil)) ◂ (c "Tree" ((c "Tree" ((v "a") ◂ (v "a") ◂ (v "a") ◂ nil)) ◂ (c "Tree" ((v "a") ◂ (v "a") ◂ (v "a") ◂ nil)) ◂ (c "Tree" ((v "a") ◂ (v "a") ◂ (v "a") ◂ nil)) ◂ nil)) ◂ (c "Tree" ((c "Tree" ((v "a") ◂ (v "a") ◂ (v "a") ◂ nil)) ◂ (c "Tree" ((v "a") ◂ (v "a") ◂ (v "a") ◂ nil)) ◂ (c "Tree" ((v "a") ◂ (v "a") ◂ (v "a") ◂ nil)) ◂ nil)) ◂ nil)) ◂ nil)) ◂ nil))) ◂ nil)) ◂ nil)) ◂ (c "Pair" ((c "Tree" ((arrow (c "Tree" ((c "Pair" ((c "Tree" ((c "Tree" ((c "Tree" ((v "a") ◂ (v "a") ◂ (v "a") ◂ nil)) ◂ (c "Tree" ((v "a") ◂ (v "a") ◂ (v "a") ◂ nil)) ◂ (c "Tree" ((v "a") ◂ (v "a") ◂ (v "a") ◂ nil)) ◂ nil)) ◂ (c "Tree" ((c "Tree" ((v "a") ◂ (v "a") ◂ (v "a") ◂ nil)) ◂ (c "Tree" ((v "a") ◂ (v "a") ◂ (v "a") ◂ nil)) ◂ (c "Tree" ((v "a") ◂ (v "a") ◂ (v "a") ◂ nil)) ◂ nil)) ◂ (c "Tree" ((c "Tree" ((v "a") ◂ (v "a") ◂ (v "a") ◂ nil)) ◂ (c "Tree" ((v "a") ◂ (v "a") ◂ (v "a") ◂ nil)) ◂ (c "Tree" ((v "a") ◂ (v "a") ◂ (v "a") ◂ nil)) ◂ nil)) ◂ nil)) ◂ (c "Tree" ((c "Tree" ((c "Tree" ((v "a") ◂ (v "a") ◂ (v "a") ◂ nil)) ◂ (c "Tree" ((v "a") ◂ (v "a") ◂ (v "a") ◂ nil)) ◂ (c "Tree" ((v "a") ◂ (v "a") ◂ (v "a") ◂ nil)) ◂ nil)) ◂ (c "Tree" ((c "Tree" ((v "a") ◂ (v "a") ◂ (v "a") ◂ nil)) ◂ (c "Tree" ((v "a") ◂ (v "a") ◂ (v "a") ◂ nil)) ◂ (c "Tree" ((v "a") ◂ (v "a") ◂ (v "a") ◂ nil)) ◂ nil)) ◂ (c "Tree" ((c "Tree" ((v "a") ◂ (v "a") ◂ (v "a") ◂ nil)) ◂ (c "Tree" ((v "a") ◂ (v "a") ◂ (v "a") ◂ nil)) ◂ (c "Tree" ((v "a") ◂ (v "a") ◂ (v "a") ◂ nil)) ◂ nil)) ◂ nil)) ◂ nil)) ◂ (c "Pair" ((c "Tree" ((c "Tree" ((c "Tree" ((v "a") ◂ (v "a") ◂ (v "a") ◂ nil)) ◂ (c "Tree" ((v "a") ◂ (v "a") ◂ (v "a") ◂ nil)) ◂ (c "Tree" ((v "a") ◂ (v "a") ◂ (v "a") ◂ nil)) ◂ nil)) ◂ (c "Tree" ((c "Tree" ((v "a") ◂ (v "a") ◂ (v "a") ◂ nil)) ◂ (c "Tree" ((v "a") ◂ (v "a") ◂ (v "a") ◂ nil)) ◂ (c "Tree" ((v "a") ◂ (v "a") ◂ (v "a") ◂ nil)) ◂ nil)) ◂ (c "Tree" ((c "Tree" ((v "a") ◂ (v "a") ◂ (v "a") ◂ nil)) ◂ (c "Tree" ((v "a") ◂ (v "a") ◂ (v "a") ◂ nil)) ◂ (c "Tree" ((v "a") ◂ (v "a") ◂ (v "a") ◂ nil)) ◂ nil)) ◂ nil)) ◂ (c "Tree" ((c "Tree" ((c "Tree" ((v "a") ◂ (v "a") ◂ (v "a") ◂ nil)) ◂ (c "Tree" ((v "a") ◂ (v "a") ◂ (v "a") ◂ nil)) ◂ (c "Tree" ((v "a") ◂ (v "a") ◂ (v "a") ◂ nil)) ◂ nil)) ◂ (c "Tree" ((c "Tree" ((v "a") ◂ (v "a") ◂ (v "a") ◂ nil)) ◂ (c "Tree" ((v "a") ◂ (v "a") ◂ (v "a") ◂ nil)) ◂ (c "Tree" ((v "a") ◂ (v "a") ◂ (v "a") ◂ nil)) ◂ nil)) ◂ (c "Tree" ((c "Tree" ((v "a") ◂ (v "a") ◂ (v "a") ◂ nil)) ◂ (c "Tree" ((v "a") ◂ (v "a") ◂ (v "a") ◂ nil)) ◂ (c "Tree" ((v "a") ◂ (v "a") ◂ (v "a") ◂ nil)) ◂ nil)) ◂ nil)) ◂ nil)) ◂ (c "Pair" ((c "Tree" ((c "Tree" ((c "Tree" ((v "a") ◂ (v "a") ◂ (v "a") ◂ nil)) ◂ (c "Tree" ((v "a") ◂ (v "a") ◂ (v "a") ◂ nil)) ◂ (c "Tree" ((v "a") ◂ (v "a") ◂ (v "a") ◂ nil)) ◂ nil)) ◂ (c "Tree" ((c "Tree" ((v "a") ◂ (v "a") ◂ (v "a") ◂ nil)) ◂ (c "Tree" ((v "a") ◂ (v "a") ◂ (v "a") ◂ nil)) ◂ (c "Tree" ((v "a") ◂ (v "a") ◂ (v "a") ◂ nil)) ◂ nil)) ◂ (c "Tree" ((c "Tree" ((v "a") ◂ (v "a") ◂ (v "a") ◂ nil)) ◂ (c "Tree" ((v "a") ◂ (v "a") ◂ (v "a") ◂ nil)) ◂ (c "Tree" ((v "a") ◂ (v "a") ◂ (v "a") ◂ nil)) ◂ nil)) ◂ nil)) ◂ (c "Tree" ((c "Tree" ((c "Tree" ((v "a") ◂ (v "a") ◂ (v "a") ◂ nil)) ◂ (c "Tree" ((v "a") ◂ (v "a") ◂ (v "a") ◂ nil)) ◂ (c "Tree" ((v "a") ◂ (v "a") ◂ (v "a") ◂ nil)) ◂ nil)) ◂ (c "Tree" ((c "Tree" ((v "a") ◂ (v "a") ◂ (v "a") ◂ nil)) ◂ (c "Tree" ((v "a") ◂ (v "a") ◂ (v "a") ◂ nil)) ◂ (c "Tree" ((v "a") ◂ (v "a") ◂ (v "a") ◂ nil)) ◂ nil)) ◂ (c "Tree" ((c "Tree" ((v "a") ◂ (v "a") ◂ (v "a") ◂ nil)) ◂ (c "Tree" ((v "a") ◂ (v "a") ◂ (v "a") ◂ nil)) ◂ (c "Tree" ((v "a") ◂ (v "a") ◂ (v "a") ◂ nil)) ◂ nil)) ◂ nil)) ◂ nil)) ◂ nil)) (c "Tree" ((c "Pair" ((c "Tree" ((c "Tree" ((c "Tree" ((v "a") ◂ (v "a") ◂ (v "a") ◂ nil)) ◂ (c "Tree" ((v "a") ◂ (v "a") ◂ (v "a") ◂ nil)) ◂ (c "Tree" ((v "a") ◂ (v "a") ◂ (v "a") ◂ nil)) ◂ nil)) ◂ (c "Tree" ((c "Tree" ((v "a") ◂ (v "a") ◂ (v "a") ◂ nil)) ◂ (c "Tree" ((v "a") ◂ (v "a") ◂ (v "a") ◂ nil)) ◂ (c "Tree" ((v "a") ◂ (v "a") ◂ (v "a") ◂ nil)) ◂ nil)) ◂ (c "Tree" ((c "Tree" ((v "a") ◂ (v "a") ◂ (v "a") ◂ nil)) ◂ (c "Tree" ((v "a") ◂ (v "a") ◂ (v "a") ◂ nil)) ◂ (c "Tree" ((v "a") ◂ (v "a") ◂ (v "a") ◂ nil)) ◂ nil)) ◂ nil)) ◂ (c "Tree" ((c "Tree" ((c "Tree" ((v "a") ◂ (v "a") ◂ (v "a") ◂ nil)) ◂ (c "Tree" ((v "a") ◂ (v "a") ◂ (v "a") ◂ nil)) ◂ (c "Tree" ((v "a") ◂ (v "a") ◂ (v "a") ◂ nil)) ◂ nil)) ◂ (c "Tree" ((c "Tree" ((v "a") ◂ (v "a") ◂ (v "a") ◂ nil)) ◂ (c "Tree" ((v "a") ◂ (v "a") ◂ (v "a") ◂ nil)) ◂ (c "Tree" ((v "a") ◂ (v "a") ◂ (v "a") ◂ nil)) ◂ nil)) ◂ (c "Tree" ((c "Tree" ((v "a") ◂ (v "a") ◂ (v "a") ◂ nil)) ◂ (c "Tree" ((v "a") ◂ (v "a") ◂ (v "a") ◂ nil)) ◂ (c "Tree" ((v "a") ◂ (v "a") ◂ (v "a") ◂ nil)) ◂ nil)) ◂ nil)) ◂ nil)) ◂ (c "Pair" ((c "Tree" ((c "Tree" ((c "Tree" ((v "a") ◂ (v "a") ◂ (v "a") ◂ nil)) ◂ (c "Tree" ((v "a") ◂ (v "a") ◂ (v "a") ◂ nil)) ◂ (c "Tree" ((v "a") ◂ (v "a") ◂ (v "a") ◂ nil)) ◂ nil)) ◂ (c "Tree" ((c "Tree" ((v "a") ◂ (v "a") ◂ (v "a") ◂ nil)) ◂ (c "Tree" ((v "a") ◂ (v "a") ◂ (v "a") ◂ nil)) ◂ (c "Tree" ((v "a") ◂ (v "a") ◂ (v "a") ◂ nil)) ◂ nil)) ◂ (c "Tree" ((c "Tree" ((v "a") ◂ (v "a") ◂ (v "a") ◂ nil)) ◂ (c "Tree" ((v "a") ◂ (v "a") ◂ (v "a") ◂ nil)) ◂ (c "Tree" ((v "a") ◂ (v "a") ◂ (v "a") ◂ nil)) ◂ nil)) ◂ nil)) ◂ (c "Tree" ((c "Tree" ((c "Tree" ((v "a") ◂ (v "a") ◂ (v "a") ◂ nil)) ◂ (c "Tree" ((v "a") ◂ (v "a") ◂ (v "a") ◂ nil)) ◂ (c "Tree" ((v "a") ◂ (v "a") ◂ (v "a") ◂ nil)) ◂ nil)) ◂ (c "Tree" ((c "Tree" ((v "a") ◂ (v "a") ◂ (v "a") ◂ nil)) ◂ (c "Tree" ((v "a") ◂ (v "a") ◂ (v "a") ◂ nil)) ◂ (c "Tree" ((v "a") ◂ (v "a") ◂ (v "a") ◂ nil)) ◂ nil)) ◂ (c "Tree" ((c "Tree" ((v "a") ◂ (v "a") ◂ (v "a") ◂ nil)) ◂ (c "Tree" ((v "a") ◂ (v "a") ◂ (v "a") ◂ nil)) ◂ (c "Tree" ((v "a") ◂ (v "a") ◂ (v "a") ◂ nil)) ◂ nil)) ◂ nil)) ◂ nil)) ◂ (c "Pair" ((c "Tree" ((c "Tree" ((c "Tree" ((v "a") ◂ (v "a") ◂ (v "a") ◂ nil)) ◂ (c "Tree" ((v "a") ◂ (v "a") ◂ (v "a") ◂ nil)) ◂ (c "Tree" ((v "a") ◂ (v "a") ◂ (v "a") ◂ nil)) ◂ nil)) ◂ (c "Tree" ((c "Tree" ((v "a") ◂ (v "a") ◂ (v "a") ◂ nil)) ◂ (c "Tree" ((v "a") ◂ (v "a") ◂ (v "a") ◂ nil)) ◂ (c "Tree" ((v "a") ◂ (v "a") ◂ (v "a") ◂ nil)) ◂ nil)) ◂ (c "Tree" ((c "Tree" ((v "a") ◂ (v "a") ◂ (v "a") ◂ nil)) ◂ (c "Tree" ((v "a") ◂ (v "a") ◂ (v "a") ◂ nil)) ◂ (c "Tree" ((v "a") ◂ (v "a") ◂ (v "a") ◂ nil)) ◂ nil)) ◂ nil)) ◂ (c "Tree" ((c "Tree" ((c "Tree" ((v "a") ◂ (v "a") ◂ (v "a") ◂ nil)) ◂ (c "Tree" ((v "a") ◂ (v "a") ◂ (v "a") ◂ nil)) ◂ (c "Tree" ((v "a") ◂ (v "a") ◂ (v "a") ◂ nil)) ◂ nil)) ◂ (c "Tree" ((c "Tree" ((v "a") ◂ (v "a") ◂ (v "a") ◂ nil)) ◂ (c "Tree" ((v "a") ◂ (v "a") ◂ (v "a") ◂ nil)) ◂ (c "Tree" ((v "a") ◂ (v "a") ◂ (v "a") ◂ nil)) ◂ nil)) ◂ (c "Tree" ((c "Tree" ((v "a") ◂ (v "a") ◂ (v "a") ◂ nil)) ◂ (c "Tree" ((v "a") ◂ (v "a") ◂ (v "a") ◂ nil)) ◂ (c "Tree" ((v "a") ◂ (v "a") ◂ (v "a") ◂ nil)) ◂ nil)) ◂ nil)) ◂ nil)) ◂ nil))) ◂ (arrow (c "Tree" ((c "Pair" ((c "Tree" ((c "Tree" ((c "Tree" ((v "a") ◂ (v "a") ◂ (v "a") ◂ nil)) ◂ (c "Tree" ((v "a") ◂ (v "a") ◂ (v "a") ◂ nil)) ◂ (c "Tree" ((v "a") ◂ (v "a") ◂ (v "a") ◂ nil)) ◂ nil)) ◂ (c "Tree" ((c "Tree" ((v "a") ◂ (v "a") ◂ (v "a") ◂ nil)) ◂ (c "Tree" ((v "a") ◂ (v "a") ◂ (v "a") ◂ nil)) ◂ (c "Tree" ((v "a") ◂ (v "a") ◂ (v "a") ◂ nil)) ◂ nil)) ◂ (c "Tree" ((c "Tree" ((v "a") ◂ (v "a") ◂ (v "a") ◂ nil)) ◂ (c "Tree" ((v "a") ◂ (v "a") ◂ (v "a") ◂ nil)) ◂ (c "Tree" ((v "a") ◂ (v "a") ◂ (v "a") ◂ nil)) ◂ nil)) ◂ nil)) ◂ (c "Tree" ((c "Tree" ((c "Tree" ((v "a") ◂ (v "a") ◂ (v "a") ◂ nil)) ◂ (c "Tree" ((v "a") ◂ (v "a") ◂ (v "a") ◂ nil)) ◂ (c "Tree" ((v "a") ◂ (v "a") ◂ (v "a") ◂ nil)) ◂ nil)) ◂ (c "Tree" ((c "Tree" ((v "a") ◂ (v "a") ◂ (v "a") ◂ nil)) ◂ (c "Tree" ((v "a") ◂ (v "a") ◂ (v "a") ◂ nil)) ◂ (c "Tree" ((v "a") ◂ (v "a") ◂ (v "a") ◂ nil)) ◂ nil)) ◂ (c "Tree" ((c "Tree" ((v "a") ◂ (v "a") ◂ (v "a") ◂ nil)) ◂ (c "Tree" ((v "a") ◂ (v "a") ◂ (v "a") ◂ nil)) ◂ (c "Tree" ((v "a") ◂ (v "a") ◂ (v "a") ◂ nil)) ◂ nil)) ◂ nil)) ◂ nil)) ◂ (c "Pair" ((c "Tree" ((c "Tree" ((c "Tree" ((v "a") ◂ (v "a") ◂ (v "a") ◂ nil)) ◂ (c "Tree" ((v "a") ◂ (v "a") ◂ (v "a") ◂ nil)) ◂ (c "Tree" ((v "a") ◂ (v "a") ◂ (v "a") ◂ nil)) ◂ nil)) ◂ (c "Tree" ((c "Tree" ((v "a") ◂ (v "a") ◂ (v "a") ◂ nil)) ◂ (c "Tree" ((v "a") ◂ (v "a") ◂ (v "a") ◂ nil)) ◂ (c "Tree" ((v "a") ◂ (v "a") ◂ (v "a") ◂ nil)) ◂ nil)) ◂ (c "Tree" ((c "Tree" ((v "a") ◂ (v "a") ◂ (v "a") ◂ nil)) ◂ (c "Tree" ((v "a") ◂ (v "a") ◂ (v "a") ◂ nil)) ◂ (c "Tree" ((v "a") ◂ (v "a") ◂ (v "a") ◂ nil)) ◂ nil)) ◂ nil)) ◂ (c "Tree" ((c "Tree" ((c "Tree" ((v "a") ◂ (v "a") ◂ (v "a") ◂ nil)) ◂ (c "Tree" ((v "a") ◂ (v "a") ◂ (v "a") ◂ nil)) ◂ (c "Tree" ((v "a") ◂ (v "a") ◂ (v "a") ◂ nil)) ◂ nil)) ◂ (c "Tree" ((c "Tree" ((v "a") ◂ (v "a") ◂ (v "a") ◂ nil)) ◂ (c "Tree" ((v "a") ◂ (v "a") ◂ (v "a") ◂ nil)) ◂ (c "Tree" ((v "a") ◂ (v "a") ◂ (v "a") ◂ nil)) ◂ nil)) ◂ (c "Tree" ((c "Tree" ((v "a") ◂ (v "a") ◂ (v "a") ◂ nil)) ◂ (c "Tree" ((v "a") ◂ (v "a") ◂ (v "a") ◂ nil)) ◂ (c "Tree" ((v "a") ◂ (v "a") ◂ (v "a") ◂ nil)) ◂ nil)) ◂ nil)) ◂ nil)) ◂ (c "Pair" ((c "Tree" ((c "Tree" ((c "Tree" ((v "a") ◂ (v "a") ◂ (v "a") ◂ nil)) ◂ (c "Tree" ((v "a") ◂ (v "a") ◂ (v "a") ◂ nil)) ◂ (c "Tree" ((v "a") ◂ (v "a") ◂ (v "a") ◂ nil)) ◂ nil)) ◂ (c "Tree" ((c "Tree" ((v "a") ◂ (v "a") ◂ (v "a") ◂ nil)) ◂ (c "Tree" ((v "a") ◂ (v "a") ◂ (v "a") ◂ nil)) ◂ (c "Tree" ((v "a") ◂ (v "a") ◂ (v "a") ◂ nil)) ◂ nil)) ◂ (c "Tree" ((c "Tree" ((v "a") ◂ (v "a") ◂ (v "a") ◂ nil)) ◂ (c "Tree" ((v "a") ◂ (v "a") ◂ (v "a") ◂ nil)) ◂ (c "Tree" ((v "a") ◂ (v "a") ◂ (v "a") ◂ nil)) ◂ nil)) ◂ nil)) ◂ (c "Tree" ((c "Tree" ((c "Tree" ((v "a") ◂ (v "a") ◂ (v "a") ◂ nil)) ◂ (c "Tree" ((v "a") ◂ (v "a") ◂ (v "a") ◂ nil)) ◂ (c "Tree" ((v "a") ◂ (v "a") ◂ (v "a") ◂ nil)) ◂ nil)) ◂ (c "Tree" ((c "Tree" ((v "a") ◂ (v "a") ◂ (v "a") ◂ nil)) ◂ (c "Tree" ((v "a") ◂ (v "a") ◂ (v "a") ◂ nil)) ◂ (c "Tree" ((v "a") ◂ (v "a") ◂ (v "a") ◂ nil)) ◂ nil)) ◂ (c "Tree" ((c "Tree" ((v "a") ◂ (v "a") ◂ (v "a") ◂ nil)) ◂ (c "Tree" ((v "a") ◂ (v "a") ◂ (v "a") ◂ nil)) ◂ (c "Tree" ((v "a") ◂ (v "a") ◂ (v "a") ◂ nil)) ◂ nil)) ◂ nil)) ◂ nil)) ◂ nil)) (c "Tree" ((c "Pair" ((c "Tree" ((c "Tree" ((c "Tree" ((v "a") ◂ (v "a") ◂ (v "a") ◂ nil)) ◂ (c "Tree" ((v "a") ◂ (v "a") ◂ (v "a") ◂ nil)) ◂ (c "Tree" ((v "a") ◂ (v "a") ◂ (v "a") ◂ nil)) ◂ nil)) ◂ (c "Tree" ((c "Tree" ((v "a") ◂ (v "a") ◂ (v "a") ◂ nil)) ◂ (c "Tree" ((v "a") ◂ (v "a") ◂ (v "a") ◂ nil)) ◂ (c "Tree" ((v "a") ◂ (v "a") ◂ (v "a") ◂ nil)) ◂ nil)) ◂ (c "Tree" ((c "Tree" ((v "a") ◂ (v "a") ◂ (v "a") ◂ nil)) ◂ (c "Tree" ((v "a") ◂ (v "a") ◂ (v "a") ◂ nil)) ◂ (c "Tree" ((v "a") ◂ (v "a") ◂ (v "a") ◂ nil)) ◂ nil)) ◂ nil)) ◂ (c "Tree" ((c "Tree" ((c "Tree" ((v "a") ◂ (v "a") ◂ (v "a") ◂ nil)) ◂ (c "Tree" ((v "a") ◂ (v "a") ◂ (v "a") ◂ nil)) ◂ (c "Tree" ((v "a") ◂ (v "a") ◂ (v "a") ◂ nil)) ◂ nil)) ◂ (c "Tree" ((c "Tree" ((v "a") ◂ (v "a") ◂ (v "a") ◂ nil)) ◂ (c "Tree" ((v "a") ◂ (v "a") ◂ (v "a") ◂ nil)) ◂ (c "Tree" ((v "a") ◂ (v "a") ◂ (v "a") ◂ nil)) ◂ nil)) ◂ (c "Tree" ((c "Tree" ((v "a") ◂ (v "a") ◂ (v "a") ◂ nil)) ◂ (c "Tree" ((v "a") ◂ (v "a") ◂ (v "a") ◂ nil)) ◂ (c "Tree" ((v "a") ◂ (v "a") ◂ (v "a") ◂ nil)) ◂ nil)) ◂ nil)) ◂ nil)) ◂ (c "Pair" ((c "Tree" ((c "Tree" ((c "Tree" ((v "a") ◂ (v "a") ◂ (v "a") ◂ nil)) ◂ (c "Tree" ((v "a") ◂ (v "a") ◂ (v "a") ◂ nil)) ◂ (c "Tree" ((v "a") ◂ (v "a") ◂ (v "a") ◂ nil)) ◂ nil)) ◂ (c "Tree" ((c "Tree" ((v "a") ◂ (v "a") ◂ (v "a") ◂ nil)) ◂ (c "Tree" ((v "a") ◂ (v "a") ◂ (v "a") ◂ nil)) ◂ (c "Tree" ((v "a") ◂ (v "a") ◂ (v "a") ◂ nil)) ◂ nil)) ◂ (c "Tree" ((c "Tree" ((v "a") ◂ (v "a") ◂ (v "a") ◂ nil)) ◂ (c "Tree" ((v "a") ◂ (v "a") ◂ (v "a") ◂ nil)) ◂ (c "Tree" ((v "a") ◂ (v "a") ◂ (v "a") ◂ nil)) ◂ nil)) ◂ nil)) ◂ (c "Tree" ((c "Tree" ((c "Tree" ((v "a") ◂ (v "a") ◂ (v "a") ◂ nil)) ◂ (c "Tree" ((v "a") ◂ (v "a") ◂ (v "a") ◂ nil)) ◂ (c "Tree" ((v "a") ◂ (v "a") ◂ (v "a") ◂ nil)) ◂ nil)) ◂ (c "Tree" ((c "Tree" ((v "a") ◂ (v "a") ◂ (v "a") ◂ nil)) ◂ (c "Tree" ((v "a") ◂ (v "a") ◂ (v "a") ◂ nil)) ◂ (c "Tree" ((v "a") ◂ (v "a") ◂ (v "a") ◂ nil)) ◂ nil)) ◂ (c "Tree" ((c "Tree" ((v "a") ◂ (v "a") ◂ (v "a") ◂ nil)) ◂ (c "Tree" ((v "a") ◂ (v "a") ◂ (v "a") ◂ nil)) ◂ (c "Tree" ((v "a") ◂ (v "a") ◂ (v "a") ◂ nil)) ◂ nil)) ◂ nil)) ◂ nil)) ◂ (c "Pair" ((c "Tree" ((c "Tree" ((c "Tree" ((v "a") ◂ (v "a") ◂ (v "a") ◂ nil)) ◂ (c "Tree" ((v "a") ◂ (v "a") ◂ (v "a") ◂ nil)) ◂ (c "Tree" ((v "a") ◂ (v "a") ◂ (v "a") ◂ nil)) ◂ nil)) ◂ (c "Tree" ((c "Tree" ((v "a") ◂ (v "a") ◂ (v "a") ◂ nil)) ◂ (c "Tree" ((v "a") ◂ (v "a") ◂ (v "a") ◂ nil)) ◂ (c "Tree" ((v "a") ◂ (v "a") ◂ (v "a") ◂ nil)) ◂ nil)) ◂ (c "Tree" ((c "Tree" ((v "a") ◂ (v "a") ◂ (v "a") ◂ nil)) ◂ (c "Tree" ((v "a") ◂ (v "a") ◂ (v "a") ◂ nil)) ◂ (c "Tree" ((v "a") ◂ (v "a") ◂ (v "a") ◂ nil)) ◂ nil)) ◂ nil)) ◂ (c "Tree" ((c "Tree" ((c "Tree" ((v "a") ◂ (v "a") ◂ (v "a") ◂ nil)) ◂ (c "Tree" ((v "a") ◂ (v "a") ◂ (v "a") ◂ nil)) ◂ (c "Tree" ((v "a") ◂ (v "a") ◂ (v "a") ◂ nil)) ◂ nil)) ◂ (c "Tree" ((c "Tree" ((v "a") ◂ (v "a") ◂ (v "a") ◂ nil)) ◂ (c "Tree" ((v "a") ◂ (v "a") ◂ (v "a") ◂ nil)) ◂ (c "Tree" ((v "a") ◂ (v "a") ◂ (v "a") ◂ nil)) ◂ nil)) ◂ (c "Tree" ((c "Tree" ((v "a") ◂ (v "a") ◂ (v "a") ◂ nil)) ◂ (c "Tree" ((v "a") ◂ (v "a") ◂ (v "a") ◂ nil)) ◂ (c "Tree" ((v "a") ◂ (v "a") ◂ (v "a") ◂ nil)) ◂ nil)) ◂ nil)) ◂ nil)) ◂ nil))) ◂ (arrow (c "Tree" ((c "Pair" ((c "Tree" ((c "Tree" ((c "Tree" ((v "a") ◂ (v "a") ◂ (v "a") ◂ nil)) ◂ (c "Tree" ((v "a") ◂ (v "a") ◂ (v "a") ◂ nil)) ◂ (c "Tree" ((v "a") ◂ (v "a") ◂ (v "a") ◂ nil)) ◂ nil)) ◂ (c "Tree" ((c "Tree" ((v "a") ◂ (v "a") ◂ (v "a") ◂ nil)) ◂ (c "Tree" ((v "a") ◂ (v "a") ◂ (v "a") ◂ nil)) ◂ (c "Tree" ((v "a") ◂ (v "a") ◂ (v "a") ◂ nil)) ◂ nil)) ◂ (c "Tree" ((c "Tree" ((v "a") ◂ (v "a") ◂ (v "a") ◂ nil)) ◂ (c "Tree" ((v "a") ◂ (v "a") ◂ (v "a") ◂ nil)) ◂ (c "Tree" ((v "a") ◂ (v "a") ◂ (v "a") ◂ nil)) ◂ nil)) ◂ nil)) ◂ (c "Tree" ((c "Tree" ((c "Tree" ((v "a") ◂ (v "a") ◂ (v "a") ◂ nil)) ◂ (c "Tree" ((v "a") ◂ (v "a") ◂ (v "a") ◂ nil)) ◂ (c "Tree" ((v "a") ◂ (v "a") ◂ (v "a") ◂ nil)) ◂ nil)) ◂ (c "Tree" ((c "Tree" ((v "a") ◂ (v "a") ◂ (v "a") ◂ nil)) ◂ (c "Tree" ((v "a") ◂ (v "a") ◂ (v "a") ◂ nil)) ◂ (c "Tree" ((v "a") ◂ (v "a") ◂ (v "a") ◂ nil)) ◂ nil)) ◂ (c "Tree" ((c "Tree" ((v "a") ◂ (v "a") ◂ (v "a") ◂ nil)) ◂ (c "Tree" ((v "a") ◂ (v "a") ◂ (v "a") ◂ nil)) ◂ (c "Tree" ((v "a") ◂ (v "a") ◂ (v "a") ◂ nil)) ◂ nil)) ◂ nil)) ◂ nil)) ◂ (c "Pair" ((c "Tree" ((c "Tree" ((c "Tree" ((v "a") ◂ (v "a") ◂ (v "a") ◂ nil)) ◂ (c "Tree" ((v "a") ◂ (v "a") ◂ (v "a") ◂ nil)) ◂ (c "Tree" ((v "a") ◂ (v "a") ◂ (v "a") ◂ nil)) ◂ nil)) ◂ (c "Tree" ((c "Tree" ((v "a") ◂ (v "a") ◂ (v "a") ◂ nil)) ◂ (c "Tree" ((v "a") ◂ (v "a") ◂ (v "a") ◂ nil)) ◂ (c "Tree" ((v "a") ◂ (v "a") ◂ (v "a") ◂ nil)) ◂ nil)) ◂ (c "Tree" ((c "Tree" ((v "a") ◂ (v "a") ◂ (v "a") ◂ nil)) ◂ (c "Tree" ((v "a") ◂ (v "a") ◂ (v "a") ◂ nil)) ◂ (c "Tree" ((v "a") ◂ (v "a") ◂ (v "a") ◂ nil)) ◂ nil)) ◂ nil)) ◂ (c "Tree" ((c "Tree" ((c "Tree" ((v "a") ◂ (v "a") ◂ (v "a") ◂ nil)) ◂ (c "Tree" ((v "a") ◂ (v "a") ◂ (v "a") ◂ nil)) ◂ (c "Tree" ((v "a") ◂ (v "a") ◂ (v "a") ◂ nil)) ◂ nil)) ◂ (c "Tree" ((c "Tree" ((v "a") ◂ (v "a") ◂ (v "a") ◂ nil)) ◂ (c "Tree" ((v "a") ◂ (v "a") ◂ (v "a") ◂ nil)) ◂ (c "Tree" ((v "a") ◂ (v "a") ◂ (v "a") ◂ nil)) ◂ nil)) ◂ (c "Tree" ((c "Tree" ((v "a") ◂ (v "a") ◂ (v "a") ◂ nil)) ◂ (c "Tree" ((v "a") ◂ (v "a") ◂ (v "a") ◂ nil)) ◂ (c "Tree" ((v "a") ◂ (v "a") ◂ (v "a") ◂ nil)) ◂ nil)) ◂ nil)) ◂ nil)) ◂ (c "Pair" ((c "Tree" ((c "Tree" ((c "Tree" ((v "a") ◂ (v "a") ◂ (v "a") ◂ nil)) ◂ (c "Tree" ((v "a") ◂ (v "a") ◂ (v "a") ◂ nil)) ◂ (c "Tree" ((v "a") ◂ (v "a") ◂ (v "a") ◂ nil)) ◂ nil)) ◂ (c "Tree" ((c "Tree" ((v "a") ◂ (v "a") ◂ (v "a") ◂ nil)) ◂ (c "Tree" ((v "a") ◂ (v "a") ◂ (v "a") ◂ nil)) ◂ (c "Tree" ((v "a") ◂ (v "a") ◂ (v "a") ◂ nil)) ◂ nil)) ◂ (c "Tree" ((c "Tree" ((v "a") ◂ (v "a") ◂ (v "a") ◂ nil)) ◂ (c "Tree" ((v "a") ◂ (v "a") ◂ (v "a") ◂ nil)) ◂ (c "Tree" ((v "a") ◂ (v "a") ◂ (v "a") ◂ nil)) ◂ nil)) ◂ nil)) ◂ (c "Tree" ((c "Tree" ((c "Tree" ((v "a") ◂ (v "a") ◂ (v "a") ◂ nil)) ◂ (c "Tree" ((v "a") ◂ (v "a") ◂ (v "a") ◂ nil)) ◂ (c "Tree" ((v "a") ◂ (v "a") ◂ (v "a") ◂ nil)) ◂ nil)) ◂ (c "Tree" ((c "Tree" ((v "a") ◂ (v "a") ◂ (v "a") ◂ nil)) ◂ (c "Tree" ((v "a") ◂ (v "a") ◂ (v "a") ◂ nil)) ◂ (c "Tree" ((v "a") ◂ (v "a") ◂ (v "a") ◂ nil)) ◂ nil)) ◂ (c "Tree" ((c "Tree" ((v "a") ◂ (v "a") ◂ (v "a") ◂ nil)) ◂ (c "Tree" ((v "a") ◂ (v "a") ◂ (v "a") ◂ nil)) ◂ (c "Tree" ((v "a") ◂ (v "a") ◂ (v "a") ◂ nil)) ◂ nil)) ◂ nil)) ◂ nil)) ◂ nil)) (c "Tree" ((c "Pair" ((c "Tree" ((c "Tree" ((c "Tree" ((v "a") ◂ (v "a") ◂ (v "a") ◂ nil)) ◂ (c "Tree" ((v "a") ◂ (v "a") ◂ (v "a") ◂ nil)) ◂ (c "Tree" ((v "a") ◂ (v "a") ◂ (v "a") ◂ nil)) ◂ nil)) ◂ (c "Tree" ((c "Tree" ((v "a") ◂ (v "a") ◂ (v "a") ◂ nil)) ◂ (c "Tree" ((v "a") ◂ (v "a") ◂ (v "a") ◂ nil)) ◂ (c "Tree" ((v "a") ◂ (v "a") ◂ (v "a") ◂ nil)) ◂ nil)) ◂ (c "Tree" ((c "Tree" ((v "a") ◂ (v "a") ◂ (v "a") ◂ nil)) ◂ (c "Tree" ((v "a") ◂ (v "a") ◂ (v "a") ◂ nil)) ◂ (c "Tree" ((v "a") ◂ (v "a") ◂ (v "a") ◂ nil)) ◂ nil)) ◂ nil)) ◂ (c "Tree" ((c "Tree" ((c "Tree" ((v "a") ◂ (v "a") ◂ (v "a") ◂ nil)) ◂ (c "Tree" ((v "a") ◂ (v "a") ◂ (v "a") ◂ nil)) ◂ (c "Tree" ((v "a") ◂ (v "a") ◂ (v "a") ◂ nil)) ◂ nil)) ◂ (c "Tree" ((c "Tree" ((v "a") ◂ (v "a") ◂ (v "a") ◂ nil)) ◂ (c "Tree" ((v "a") ◂ (v "a") ◂ (v "a") ◂ nil)) ◂ (c "Tree" ((v "a") ◂ (v "a") ◂ (v "a") ◂ nil)) ◂ nil)) ◂ (c "Tree" ((c "Tree" ((v "a") ◂ (v "a") ◂ (v "a") ◂ nil)) ◂ (c "Tree" ((v "a") ◂ (v "a") ◂ (v "a") ◂ nil)) ◂ (c "Tree" ((v "a") ◂ (v "a") ◂ (v "a") ◂ nil)) ◂ nil)) ◂ nil)) ◂ nil)) ◂ (c "Pair" ((c "Tree" ((c "Tree" ((c "Tree" ((v "a") ◂ (v "a") ◂ (v "a") ◂ nil)) ◂ (c "Tree" ((v "a") ◂ (v "a") ◂ (v "a") ◂ nil)) ◂ (c "Tree" ((v "a") ◂ (v "a") ◂ (v "a") ◂ nil)) ◂ nil)) ◂ (c "Tree" ((c "Tree" ((v "a") ◂ (v "a") ◂ (v "a") ◂ nil)) ◂ (c "Tree" ((v "a") ◂ (v "a") ◂ (v "a") ◂ nil)) ◂ (c "Tree" ((v "a") ◂ (v "a") ◂ (v "a") ◂ nil)) ◂ nil)) ◂ (c "Tree" ((c "Tree" ((v "a") ◂ (v "a") ◂ (v "a") ◂ nil)) ◂ (c "Tree" ((v "a") ◂ (v "a") ◂ (v "a") ◂ nil)) ◂ (c "Tree" ((v "a") ◂ (v "a") ◂ (v "a") ◂ nil)) ◂ nil)) ◂ nil)) ◂ (c "Tree" ((c "Tree" ((c "Tree" ((v "a") ◂ (v "a") ◂ (v "a") ◂ nil)) ◂ (c "Tree" ((v "a") ◂ (v "a") ◂ (v "a") ◂ nil)) ◂ (c "Tree" ((v "a") ◂ (v "a") ◂ (v "a") ◂ nil)) ◂ nil)) ◂ (c "Tree" ((c "Tree" ((v "a") ◂ (v "a") ◂ (v "a") ◂ nil)) ◂ (c "Tree" ((v "a") ◂ (v "a") ◂ (v "a") ◂ nil)) ◂ (c "Tree" ((v "a") ◂ (v "a") ◂ (v "a") ◂ nil)) ◂ nil)) ◂ (c "Tree" ((c "Tree" ((v "a") ◂ (v "a") ◂ (v "a") ◂ nil)) ◂ (c "Tree" ((v "a") ◂ (v "a") ◂ (v "a") ◂ nil)) ◂ (c "Tree" ((v "a") ◂ (v "a") ◂ (v "a") ◂ nil)) ◂ nil)) ◂ nil)) ◂ nil)) ◂ (c "Pair" ((c "Tree" ((c "Tree" ((c "Tree" ((v "a") ◂ (v "a") ◂ (v "a") ◂ nil)) ◂ (c "Tree" ((v "a") ◂ (v "a") ◂ (v "a") ◂ nil)) ◂ (c "Tree" ((v "a") ◂ (v "a") ◂ (v "a") ◂ nil)) ◂ nil)) ◂ (c "Tree" ((c "Tree" ((v "a") ◂ (v "a") ◂ (v "a") ◂ nil)) ◂ (c "Tree" ((v "a") ◂ (v "a") ◂ (v "a") ◂ nil)) ◂ (c "Tree" ((v "a") ◂ (v "a") ◂ (v "a") ◂ nil)) ◂ nil)) ◂ (c "Tree" ((c "Tree" ((v "a") ◂ (v "a") ◂ (v "a") ◂ nil)) ◂ (c "Tree" ((v "a") ◂ (v "a") ◂ (v "a") ◂ nil)) ◂ (c "Tree" ((v "a") ◂ (v "a") ◂ (v "a") ◂ nil)) ◂ nil)) ◂ nil)) ◂ (c "Tree" ((c "Tree" ((c "Tree" ((v "a") ◂ (v "a") ◂ (v "a") ◂ nil)) ◂ (c "Tree" ((v "a") ◂ (v "a") ◂ (v "a") ◂ nil)) ◂ (c "Tree" ((v "a") ◂ (v "a") ◂ (v "a") ◂ nil)) ◂ nil)) ◂ (c "Tree" ((c "Tree" ((v "a") ◂ (v "a") ◂ (v "a") ◂ nil)) ◂ (c "Tree" ((v "a") ◂ (v "a") ◂ (v "a") ◂ nil)) ◂ (c "Tree" ((v "a") ◂ (v "a") ◂ (v "a") ◂ nil)) ◂ nil)) ◂ (c "Tree" ((c "Tree" ((v "a") ◂ (v "a") ◂ (v "a") ◂ nil)) ◂ (c "Tree" ((v "a") ◂ (v "a") ◂ (v "a") ◂ nil)) ◂ (c "Tree" ((v "a") ◂ (v "a") ◂ (v "a") ◂ nil)) ◂ nil)) ◂ nil)) ◂ nil)) ◂ nil))) ◂ nil)) ◂ (c "Tree" ((arrow (c "Tree" ((c "Pair" ((c "Tree" ((c "Tree" ((c "Tree" ((v "a") ◂ (v "a") ◂ (v "a") ◂ nil)) ◂ (c "Tree" ((v "a") ◂ (v "a") ◂ (v "a") ◂ nil)) ◂ (c "Tree" ((v "a") ◂ (v "a") ◂ (v "a") ◂ nil)) ◂ nil)) ◂ (c "Tree" ((c "Tree" ((v "a") ◂ (v "a") ◂ (v "a") ◂ nil)) ◂ (c "Tree" ((v "a") ◂ (v "a") ◂ (v "a") ◂ nil)) ◂ (c "Tree" ((v "a") ◂ (v "a") ◂ (v "a") ◂ nil)) ◂ nil)) ◂ (c "Tree" ((c "Tree" ((v "a") ◂ (v "a") ◂ (v "a") ◂ nil)) ◂ (c "Tree" ((v "a") ◂ (v "a") ◂ (v "a") ◂ nil)) ◂ (c "Tree" ((v "a") ◂ (v "a") ◂ (v "a") ◂ nil)) ◂ nil)) ◂ nil)) ◂ (c "Tree" ((c "Tree" ((c "Tree" ((v "a") ◂ (v "a") ◂ (v "a") ◂ nil)) ◂ (c "Tree" ((v "a") ◂ (v "a") ◂ (v "a") ◂ nil)) ◂ (c "Tree" ((v "a") ◂ (v "a") ◂ (v "a") ◂ nil)) ◂ nil)) ◂ (c "Tree" ((c "Tree" ((v "a") ◂ (v "a") ◂ (v "a") ◂ nil)) ◂ (c "Tree" ((v "a") ◂ (v "a") ◂ (v "a") ◂ nil)) ◂ (c "Tree" ((v "a") ◂ (v "a") ◂ (v "a") ◂ nil)) ◂ nil)) ◂ (c "Tree" ((c "Tree" ((v "a") ◂ (v "a") ◂ (v "a") ◂ nil)) ◂ (c "Tree" ((v "a") ◂ (v "a") ◂ (v "a") ◂ nil)) ◂ (c "Tree" ((v "a") ◂ (v "a") ◂ (v "a") ◂ nil)) ◂ nil)) ◂ nil)) ◂ nil)) ◂ (c "Pair" ((c "Tree" ((c "Tree" ((c "Tree" ((v "a") ◂ (v "a") ◂ (v "a") ◂ nil)) ◂ (c "Tree" ((v "a") ◂ (v "a") ◂ (v "a") ◂ nil)) ◂ (c "Tree" ((v "a") ◂ (v "a") ◂ (v "a") ◂ nil)) ◂ nil)) ◂ (c "Tree" ((c "Tree" ((v "a") ◂ (v "a") ◂ (v "a") ◂ nil)) ◂ (c "Tree" ((v "a") ◂ (v "a") ◂ (v "a") ◂ nil)) ◂ (c "Tree" ((v "a") ◂ (v "a") ◂ (v "a") ◂ nil)) ◂ nil)) ◂ (c "Tree" ((c "Tree" ((v "a") ◂ (v "a") ◂ (v "a") ◂ nil)) ◂ (c "Tree" ((v "a") ◂ (v "a") ◂ (v "a") ◂ nil)) ◂ (c "Tree" ((v "a") ◂ (v "a") ◂ (v "a") ◂ nil)) ◂ nil)) ◂ nil)) ◂ (c "Tree" ((c "Tree" ((c "Tree" ((v "a") ◂ (v "a") ◂ (v "a") ◂ nil)) ◂ (c "Tree" ((v "a") ◂ (v "a") ◂ (v "a") ◂ nil)) ◂ (c "Tree" ((v "a") ◂ (v "a") ◂ (v "a") ◂ nil)) ◂ nil)) ◂ (c "Tree" ((c "Tree" ((v "a") ◂ (v "a") ◂ (v "a") ◂ nil)) ◂ (c "Tree" ((v "a") ◂ (v "a") ◂ (v "a") ◂ nil)) ◂ (c "Tree" ((v "a") ◂ (v "a") ◂ (v "a") ◂ nil)) ◂ nil)) ◂ (c "Tree" ((c "Tree" ((v "a") ◂ (v "a") ◂ (v "a") ◂ nil)) ◂ (c "Tree" ((v "a") ◂ (v "a") ◂ (v "a") ◂ nil)) ◂ (c "Tree" ((v "a") ◂ (v "a") ◂ (v "a") ◂ nil)) ◂ nil)) ◂ nil)) ◂ nil)) ◂ (c "Pair" ((c "Tree" ((c "Tree" ((c "Tree" ((v "a") ◂ (v "a") ◂ (v "a") ◂ nil)) ◂ (c "Tree" ((v "a") ◂ (v "a") ◂ (v "a") ◂ nil)) ◂ (c "Tree" ((v "a") ◂ (v "a") ◂ (v "a") ◂ nil)) ◂ nil)) ◂ (c "Tree" ((c "Tree" ((v "a") ◂ (v "a") ◂ (v "a") ◂ nil)) ◂ (c "Tree" ((v "a") ◂ (v "a") ◂ (v "a") ◂ nil)) ◂ (c "Tree" ((v "a") ◂ (v "a") ◂ (v "a") ◂ nil)) ◂ nil)) ◂ (c "Tree" ((c "Tree" ((v "a") ◂ (v "a") ◂ (v "a") ◂ nil)) ◂ (c "Tree" ((v "a") ◂ (v "a") ◂ (v "a") ◂ nil)) ◂ (c "Tree" ((v "a") ◂ (v "a") ◂ (v "a") ◂ nil)) ◂ nil)) ◂ nil)) ◂ (c "Tree" ((c "Tree" ((c "Tree" ((v "a") ◂ (v "a") ◂ (v "a") ◂ nil)) ◂ (c "Tree" ((v "a") ◂ (v "a") ◂ (v "a") ◂ nil)) ◂ (c "Tree" ((v "a") ◂ (v "a") ◂ (v "a") ◂ nil)) ◂ nil)) ◂ (c "Tree" ((c "Tree" ((v "a") ◂ (v "a") ◂ (v "a") ◂ nil)) ◂ (c "Tree" ((v "a") ◂ (v "a") ◂ (v "a") ◂ nil)) ◂ (c "Tree" ((v "a") ◂ (v "a") ◂ (v "a") ◂ nil)) ◂ nil)) ◂ (c "Tree" ((c "Tree" ((v "a") ◂ (v "a") ◂ (v "a") ◂ nil)) ◂ (c "Tree" ((v "a") ◂ (v "a") ◂ (v "a") ◂ nil)) ◂ (c "Tree" ((v "a") ◂ (v "a") ◂ (v "a") ◂ nil)) ◂ nil)) ◂ nil)) ◂ nil)) ◂ nil)) (c "Tree" ((c "Pair" ((c "Tree" ((c "Tree" ((c "Tree" ((v "a") ◂ (v "a") ◂ (v "a") ◂ nil)) ◂ (c "Tree" ((v "a") ◂ (v "a") ◂ (v "a") ◂ nil)) ◂ (c "Tree" ((v "a") ◂ (v "a") ◂ (v "a") ◂ nil)) ◂ nil)) ◂ (c "Tree" ((c "Tree" ((v "a") ◂ (v "a") ◂ (v "a") ◂ nil)) ◂ (c "Tree" ((v "a") ◂ (v "a") ◂ (v "a") ◂ nil)) ◂ (c "Tree" ((v "a") ◂ (v "a") ◂ (v "a") ◂ nil)) ◂ nil)) ◂ (c "Tree" ((c "Tree" ((v "a") ◂ (v "a") ◂ (v "a") ◂ nil)) ◂ (c "Tree" ((v "a") ◂ (v "a") ◂ (v "a") ◂ nil)) ◂ (c "Tree" ((v "a") ◂ (v "a") ◂ (v "a") ◂ nil)) ◂ nil)) ◂ nil)) ◂ (c "Tree" ((c "Tree" ((c "Tree" ((v "a") ◂ (v "a") ◂ (v "a") ◂ nil)) ◂ (c "Tree" ((v "a") ◂ (v "a") ◂ (v "a") ◂ nil)) ◂ (c "Tree" ((v "a") ◂ (v "a") ◂ (v "a") ◂ nil)) ◂ nil)) ◂ (c "Tree" ((c "Tree" ((v "a") ◂ (v "a") ◂ (v "a") ◂ nil)) ◂ (c "Tree" ((v "a") ◂ (v "a") ◂ (v "a") ◂ nil)) ◂ (c "Tree" ((v "a") ◂ (v "a") ◂ (v "a") ◂ nil)) ◂ nil)) ◂ (c "Tree" ((c "Tree" ((v "a") ◂ (v "a") ◂ (v "a") ◂ nil)) ◂ (c "Tree" ((v "a") ◂ (v "a") ◂ (v "a") ◂ nil)) ◂ (c "Tree" ((v "a") ◂ (v "a") ◂ (v "a") ◂ nil)) ◂ nil)) ◂ nil)) ◂ nil)) ◂ (c "Pair" ((c "Tree" ((c "Tree" ((c "Tree" ((v "a") ◂ (v "a") ◂ (v "a") ◂ nil)) ◂ (c "Tree" ((v "a") ◂ (v "a") ◂ (v "a") ◂ nil)) ◂ (c "Tree" ((v "a") ◂ (v "a") ◂ (v "a") ◂ nil)) ◂ nil)) ◂ (c "Tree" ((c "Tree" ((v "a") ◂ (v "a") ◂ (v "a") ◂ nil)) ◂ (c "Tree" ((v "a") ◂ (v "a") ◂ (v "a") ◂ nil)) ◂ (c "Tree" ((v "a") ◂ (v "a") ◂ (v "a") ◂ nil)) ◂ nil)) ◂ (c "Tree" ((c "Tree" ((v "a") ◂ (v "a") ◂ (v "a") ◂ nil)) ◂ (c "Tree" ((v "a") ◂ (v "a") ◂ (v "a") ◂ nil)) ◂ (c "Tree" ((v "a") ◂ (v "a") ◂ (v "a") ◂ nil)) ◂ nil)) ◂ nil)) ◂ (c "Tree" ((c "Tree" ((c "Tree" ((v "a") ◂ (v "a") ◂ (v "a") ◂ nil)) ◂ (c "Tree" ((v "a") ◂ (v "a") ◂ (v "a") ◂ nil)) ◂ (c "Tree" ((v "a") ◂ (v "a") ◂ (v "a") ◂ nil)) ◂ nil)) ◂ (c "Tree" ((c "Tree" ((v "a") ◂ (v "a") ◂ (v "a") ◂ nil)) ◂ (c "Tree" ((v "a") ◂ (v "a") ◂ (v "a") ◂ nil)) ◂ (c "Tree" ((v "a") ◂ (v "a") ◂ (v "a") ◂ nil)) ◂ nil)) ◂ (c "Tree" ((c "Tree" ((v "a") ◂ (v "a") ◂ (v "a") ◂ nil)) ◂ (c "Tree" ((v "a") ◂ (v "a") ◂ (v "a") ◂ nil)) ◂ (c "Tree" ((v "a") ◂ (v "a") ◂ (v "a") ◂ nil)) ◂ nil)) ◂ nil)) ◂ nil)) ◂ (c "Pair" ((c "Tree" ((c "Tree" ((c "Tree" ((v "a") ◂ (v "a") ◂ (v "a") ◂ nil)) ◂ (c "Tree" ((v "a") ◂ (v "a") ◂ (v "a") ◂ nil)) ◂ (c "Tree" ((v "a") ◂ (v "a") ◂ (v "a") ◂ nil)) ◂ nil)) ◂ (c "Tree" ((c "Tree" ((v "a") ◂ (v "a") ◂ (v "a") ◂ nil)) ◂ (c "Tree" ((v "a") ◂ (v "a") ◂ (v "a") ◂ nil)) ◂ (c "Tree" ((v "a") ◂ (v "a") ◂ (v "a") ◂ nil)) ◂ nil)) ◂ (c "Tree" ((c "Tree" ((v "a") ◂ (v "a") ◂ (v "a") ◂ nil)) ◂ (c "Tree" ((v "a") ◂ (v "a") ◂ (v "a") ◂ nil)) ◂ (c "Tree" ((v "a") ◂ (v "a") ◂ (v "a") ◂ nil)) ◂ nil)) ◂ nil)) ◂ (c "Tree" ((c "Tree" ((c "Tree" ((v "a") ◂ (v "a") ◂ (v "a") ◂ nil)) ◂ (c "Tree" ((v "a") ◂ (v "a") ◂ (v "a") ◂ nil)) ◂ (c "Tree" ((v "a") ◂ (v "a") ◂ (v "a") ◂ nil)) ◂ nil)) ◂ (c "Tree" ((c "Tree" ((v "a") ◂ (v "a") ◂ (v "a") ◂ nil)) ◂ (c "Tree" ((v "a") ◂ (v "a") ◂ (v "a") ◂ nil)) ◂ (c "Tree" ((v "a") ◂ (v "a") ◂ (v "a") ◂ nil)) ◂ nil)) ◂ (c "Tree" ((c "Tree" ((v "a") ◂ (v "a") ◂ (v "a") ◂ nil)) ◂ (c "Tree" ((v "a") ◂ (v "a") ◂ (v "a") ◂ nil)) ◂ (c "Tree" ((v "a") ◂ (v "a") ◂ (v "a") ◂ nil)) ◂ nil)) ◂ nil)) ◂ nil)) ◂ nil))) ◂ (arrow (c "Tree" ((c "Pair" ((c "Tree" ((c "Tree" ((c "Tree" ((v "a") ◂ (v "a") ◂ (v "a") ◂ nil)) ◂ (c "Tree" ((v "a") ◂ (v "a") ◂ (v "a") ◂ nil)) ◂ (c "Tree" ((v "a") ◂ (v "a") ◂ (v "a") ◂ nil)) ◂ nil)) ◂ (c "Tree" ((c "Tree" ((v "a") ◂ (v "a") ◂ (v "a") ◂ nil)) ◂ (c "Tree" ((v "a") ◂ (v "a") ◂ (v "a") ◂ nil)) ◂ (c "Tree" ((v "a") ◂ (v "a") ◂ (v "a") ◂ nil)) ◂ nil)) ◂ (c "Tree" ((c "Tree" ((v "a") ◂ (v "a") ◂ (v "a") ◂ nil)) ◂ (c "Tree" ((v "a") ◂ (v "a") ◂ (v "a") ◂ nil)) ◂ (c "Tree" ((v "a") ◂ (v "a") ◂ (v "a") ◂ nil)) ◂ nil)) ◂ nil)) ◂ (c "Tree" ((c "Tree" ((c "Tree" ((v "a") ◂ (v "a") ◂ (v "a") ◂ nil)) ◂ (c "Tree" ((v "a") ◂ (v "a") ◂ (v "a") ◂ nil)) ◂ (c "Tree" ((v "a") ◂ (v "a") ◂ (v "a") ◂ nil)) ◂ nil)) ◂ (c "Tree" ((c "Tree" ((v "a") ◂ (v "a") ◂ (v "a") ◂ nil)) ◂ (c "Tree" ((v "a") ◂ (v "a") ◂ (v "a") ◂ nil)) ◂ (c "Tree" ((v "a") ◂ (v "a") ◂ (v "a") ◂ nil)) ◂ nil)) ◂ (c "Tree" ((c "Tree" ((v "a") ◂ (v "a") ◂ (v "a") ◂ nil)) ◂ (c "Tree" ((v "a") ◂ (v "a") ◂ (v "a") ◂ nil)) ◂ (c "Tree" ((v "a") ◂ (v "a") ◂ (v "a") ◂ nil)) ◂ nil)) ◂ nil)) ◂ nil)) ◂ (c "Pair" ((c "Tree" ((c "Tree" ((c "Tree" ((v "a") ◂ (v "a") ◂ (v "a") ◂ nil)) ◂ (c "Tree" ((v "a") ◂ (v "a") ◂ (v "a") ◂ nil)) ◂ (c "Tree" ((v "a") ◂ (v "a") ◂ (v "a") ◂ nil)) ◂ nil)) ◂ (c "Tree" ((c "Tree" ((v "a") ◂ (v "a") ◂ (v "a") ◂ nil)) ◂ (c "Tree" ((v "a") ◂ (v "a") ◂ (v "a") ◂ nil)) ◂ (c "Tree" ((v "a") ◂ (v "a") ◂ (v "a") ◂ nil)) ◂ nil)) ◂ (c "Tree" ((c "Tree" ((v "a") ◂ (v "a") ◂ (v "a") ◂ nil)) ◂ (c "Tree" ((v "a") ◂ (v "a") ◂ (v "a") ◂ nil)) ◂ (c "Tree" ((v "a") ◂ (v "a") ◂ (v "a") ◂ nil)) ◂ nil)) ◂ nil)) ◂ (c "Tree" ((c "Tree" ((c "Tree" ((v "a") ◂ (v "a") ◂ (v "a") ◂ nil)) ◂ (c "Tree" ((v "a") ◂ (v "a") ◂ (v "a") ◂ nil)) ◂ (c "Tree" ((v "a") ◂ (v "a") ◂ (v "a") ◂ nil)) ◂ nil)) ◂ (c "Tree" ((c "Tree" ((v "a") ◂ (v "a") ◂ (v "a") ◂ nil)) ◂ (c "Tree" ((v "a") ◂ (v "a") ◂ (v "a") ◂ nil)) ◂ (c "Tree" ((v "a") ◂ (v "a") ◂ (v "a") ◂ nil)) ◂ nil)) ◂ (c "Tree" ((c "Tree" ((v "a") ◂ (v "a") ◂ (v "a") ◂ nil)) ◂ (c "Tree" ((v "a") ◂ (v "a") ◂ (v "a") ◂ nil)) ◂ (c "Tree" ((v "a") ◂ (v "a") ◂ (v "a") ◂ nil)) ◂ nil)) ◂ nil)) ◂ nil)) ◂ (c "Pair" ((c "Tree" ((c "Tree" ((c "Tree" ((v "a") ◂ (v "a") ◂ (v "a") ◂ nil)) ◂ (c "Tree" ((v "a") ◂ (v "a") ◂ (v "a") ◂ nil)) ◂ (c "Tree" ((v "a") ◂ (v "a") ◂ (v "a") ◂ nil)) ◂ nil)) ◂ (c "Tree" ((c "Tree" ((v "a") ◂ (v "a") ◂ (v "a") ◂ nil)) ◂ (c "Tree" ((v "a") ◂ (v "a") ◂ (v "a") ◂ nil)) ◂ (c "Tree" ((v "a") ◂ (v "a") ◂ (v "a") ◂ nil)) ◂ nil)) ◂ (c "Tree" ((c "Tree" ((v "a") ◂ (v "a") ◂ (v "a") ◂ nil)) ◂ (c "Tree" ((v "a") ◂ (v "a") ◂ (v "a") ◂ nil)) ◂ (c "Tree" ((v "a") ◂ (v "a") ◂ (v "a") ◂ nil)) ◂ nil)) ◂ nil)) ◂ (c "Tree" ((c "Tree" ((c "Tree" ((v "a") ◂ (v "a") ◂ (v "a") ◂ nil)) ◂ (c "Tree" ((v "a") ◂ (v "a") ◂ (v "a") ◂ nil)) ◂ (c "Tree" ((v "a") ◂ (v "a") ◂ (v "a") ◂ nil)) ◂ nil)) ◂ (c "Tree" ((c "Tree" ((v "a") ◂ (v "a") ◂ (v "a") ◂ nil)) ◂ (c "Tree" ((v "a") ◂ (v "a") ◂ (v "a") ◂ nil)) ◂ (c "Tree" ((v "a") ◂ (v "a") ◂ (v "a") ◂ nil)) ◂ nil)) ◂ (c "Tree" ((c "Tree" ((v "a") ◂ (v "a") ◂ (v "a") ◂ nil)) ◂ (c "Tree" ((v "a") ◂ (v "a") ◂ (v "a") ◂ nil)) ◂ (c "Tree" ((v "a") ◂ (v "a") ◂ (v "a") ◂ nil)) ◂ nil)) ◂ nil)) ◂ nil)) ◂ nil)) (c "Tree" ((c "Pair" ((c "Tree" ((c "Tree" ((c "Tree" ((v "a") ◂ (v "a") ◂ (v "a") ◂ nil)) ◂ (c "Tree" ((v "a") ◂ (v "a") ◂ (v "a") ◂ nil)) ◂ (c "Tree" ((v "a") ◂ (v "a") ◂ (v "a") ◂ nil)) ◂ nil)) ◂ (c "Tree" ((c "Tree" ((v "a") ◂ (v "a") ◂ (v "a") ◂ nil)) ◂ (c "Tree" ((v "a") ◂ (v "a") ◂ (v "a") ◂ nil)) ◂ (c "Tree" ((v "a") ◂ (v "a") ◂ (v "a") ◂ nil)) ◂ nil)) ◂ (c "Tree" ((c "Tree" ((v "a") ◂ (v "a") ◂ (v "a") ◂ nil)) ◂ (c "Tree" ((v "a") ◂ (v "a") ◂ (v "a") ◂ nil)) ◂ (c "Tree" ((v "a") ◂ (v "a") ◂ (v "a") ◂ nil)) ◂ nil)) ◂ nil)) ◂ (c "Tree" ((c "Tree" ((c "Tree" ((v "a") ◂ (v "a") ◂ (v "a") ◂ nil)) ◂ (c "Tree" ((v "a") ◂ (v "a") ◂ (v "a") ◂ nil)) ◂ (c "Tree" ((v "a") ◂ (v "a") ◂ (v "a") ◂ nil)) ◂ nil)) ◂ (c "Tree" ((c "Tree" ((v "a") ◂ (v "a") ◂ (v "a") ◂ nil)) ◂ (c "Tree" ((v "a") ◂ (v "a") ◂ (v "a") ◂ nil)) ◂ (c "Tree" ((v "a") ◂ (v "a") ◂ (v "a") ◂ nil)) ◂ nil)) ◂ (c "Tree" ((c "Tree" ((v "a") ◂ (v "a") ◂ (v "a") ◂ nil)) ◂ (c "Tree" ((v "a") ◂ (v "a") ◂ (v "a") ◂ nil)) ◂ (c "Tree" ((v "a") ◂ (v "a") ◂ (v "a") ◂ nil)) ◂ nil)) ◂ nil)) ◂ nil)) ◂ (c "Pair" ((c "Tree" ((c "Tree" ((c "Tree" ((v "a") ◂ (v "a") ◂ (v "a") ◂ nil)) ◂ (c "Tree" ((v "a") ◂ (v "a") ◂ (v "a") ◂ nil)) ◂ (c "Tree" ((v "a") ◂ (v "a") ◂ (v "a") ◂ nil)) ◂ nil)) ◂ (c "Tree" ((c "Tree" ((v "a") ◂ (v "a") ◂ (v "a") ◂ nil)) ◂ (c "Tree" ((v "a") ◂ (v "a") ◂ (v "a") ◂ nil)) ◂ (c "Tree" ((v "a") ◂ (v "a") ◂ (v "a") ◂ nil)) ◂ nil)) ◂ (c "Tree" ((c "Tree" ((v "a") ◂ (v "a") ◂ (v "a") ◂ nil)) ◂ (c "Tree" ((v "a") ◂ (v "a") ◂ (v "a") ◂ nil)) ◂ (c "Tree" ((v "a") ◂ (v "a") ◂ (v "a") ◂ nil)) ◂ nil)) ◂ nil)) ◂ (c "Tree" ((c "Tree" ((c "Tree" ((v "a") ◂ (v "a") ◂ (v "a") ◂ nil)) ◂ (c "Tree" ((v "a") ◂ (v "a") ◂ (v "a") ◂ nil)) ◂ (c "Tree" ((v "a") ◂ (v "a") ◂ (v "a") ◂ nil)) ◂ nil)) ◂ (c "Tree" ((c "Tree" ((v "a") ◂ (v "a") ◂ (v "a") ◂ nil)) ◂ (c "Tree" ((v "a") ◂ (v "a") ◂ (v "a") ◂ nil)) ◂ (c "Tree" ((v "a") ◂ (v "a") ◂ (v "a") ◂ nil)) ◂ nil)) ◂ (c "Tree" ((c "Tree" ((v "a") ◂ (v "a") ◂ (v "a") ◂ nil)) ◂ (c "Tree" ((v "a") ◂ (v "a") ◂ (v "a") ◂ nil)) ◂ (c "Tree" ((v "a") ◂ (v "a") ◂ (v "a") ◂ nil)) ◂ nil)) ◂ nil)) ◂ nil)) ◂ (c "Pair" ((c "Tree" ((c "Tree" ((c "Tree" ((v "a") ◂ (v "a") ◂ (v "a") ◂ nil)) ◂ (c "Tree" ((v "a") ◂ (v "a") ◂ (v "a") ◂ nil)) ◂ (c "Tree" ((v "a") ◂ (v "a") ◂ (v "a") ◂ nil)) ◂ nil)) ◂ (c "Tree" ((c "Tree" ((v "a") ◂ (v "a") ◂ (v "a") ◂ nil)) ◂ (c "Tree" ((v "a") ◂ (v "a") ◂ (v "a") ◂ nil)) ◂ (c "Tree" ((v "a") ◂ (v "a") ◂ (v "a") ◂ nil)) ◂ nil)) ◂ (c "Tree" ((c "Tree" ((v "a") ◂ (v "a") ◂ (v "a") ◂ nil)) ◂ (c "Tree" ((v "a") ◂ (v "a") ◂ (v "a") ◂ nil)) ◂ (c "Tree" ((v "a") ◂ (v "a") ◂ (v "a") ◂ nil)) ◂ nil)) ◂ nil)) ◂ (c "Tree" ((c "Tree" ((c "Tree" ((v "a") ◂ (v "a") ◂ (v "a") ◂ nil)) ◂ (c "Tree" ((v "a") ◂ (v "a") ◂ (v "a") ◂ nil)) ◂ (c "Tree" ((v "a") ◂ (v "a") ◂ (v "a") ◂ nil)) ◂ nil)) ◂ (c "Tree" ((c "Tree" ((v "a") ◂ (v "a") ◂ (v "a") ◂ nil)) ◂ (c "Tree" ((v "a") ◂ (v "a") ◂ (v "a") ◂ nil)) ◂ (c "Tree" ((v "a") ◂ (v "a") ◂ (v "a") ◂ nil)) ◂ nil)) ◂ (c "Tree" ((c "Tree" ((v "a") ◂ (v "a") ◂ (v "a") ◂ nil)) ◂ (c "Tree" ((v "a") ◂ (v "a") ◂ (v "a") ◂ nil)) ◂ (c "Tree" ((v "a") ◂ (v "a") ◂ (v "a") ◂ nil)) ◂ nil)) ◂ nil)) ◂ nil)) ◂ nil))) ◂ (arrow (c "Tree" ((c "Pair" ((c "Tree" ((c "Tree" ((c "Tree" ((v "a") ◂ (v "a") ◂ (v "a") ◂ nil)) ◂ (c "Tree" ((v "a") ◂ (v "a") ◂ (v "a") ◂ nil)) ◂ (c "Tree" ((v "a") ◂ (v "a") ◂ (v "a") ◂ nil)) ◂ nil)) ◂ (c "Tree" ((c "Tree" ((v "a") ◂ (v "a") ◂ (v "a") ◂ nil)) ◂ (c "Tree" ((v "a") ◂ (v "a") ◂ (v "a") ◂ nil)) ◂ (c "Tree" ((v "a") ◂ (v "a") ◂ (v "a") ◂ nil)) ◂ nil)) ◂ (c "Tree" ((c "Tree" ((v "a") ◂ (v "a") ◂ (v "a") ◂ nil)) ◂ (c "Tree" ((v "a") ◂ (v "a") ◂ (v "a") ◂ nil)) ◂ (c "Tree" ((v "a") ◂ (v "a") ◂ (v "a") ◂ nil)) ◂ nil)) ◂ nil)) ◂ (c "Tree" ((c "Tree" ((c "Tree" ((v "a") ◂ (v "a") ◂ (v "a") ◂ nil)) ◂ (c "Tree" ((v "a") ◂ (v "a") ◂ (v "a") ◂ nil)) ◂ (c "Tree" ((v "a") ◂ (v "a") ◂ (v "a") ◂ nil)) ◂ nil)) ◂ (c "Tree" ((c "Tree" ((v "a") ◂ (v "a") ◂ (v "a") ◂ nil)) ◂ (c "Tree" ((v "a") ◂ (v "a") ◂ (v "a") ◂ nil)) ◂ (c "Tree" ((v "a") ◂ (v "a") ◂ (v "a") ◂ nil)) ◂ nil)) ◂ (c "Tree" ((c "Tree" ((v "a") ◂ (v "a") ◂ (v "a") ◂ nil)) ◂ (c "Tree" ((v "a") ◂ (v "a") ◂ (v "a") ◂ nil)) ◂ (c "Tree" ((v "a") ◂ (v "a") ◂ (v "a") ◂ nil)) ◂ nil)) ◂ nil)) ◂ nil)) ◂ (c "Pair" ((c "Tree" ((c "Tree" ((c "Tree" ((v "a") ◂ (v "a") ◂ (v "a") ◂ nil)) ◂ (c "Tree" ((v "a") ◂ (v "a") ◂ (v "a") ◂ nil)) ◂ (c "Tree" ((v "a") ◂ (v "a") ◂ (v "a") ◂ nil)) ◂ nil)) ◂ (c "Tree" ((c "Tree" ((v "a") ◂ (v "a") ◂ (v "a") ◂ nil)) ◂ (c "Tree" ((v "a") ◂ (v "a") ◂ (v "a") ◂ nil)) ◂ (c "Tree" ((v "a") ◂ (v "a") ◂ (v "a") ◂ nil)) ◂ nil)) ◂ (c "Tree" ((c "Tree" ((v "a") ◂ (v "a") ◂ (v "a") ◂ nil)) ◂ (c "Tree" ((v "a") ◂ (v "a") ◂ (v "a") ◂ nil)) ◂ (c "Tree" ((v "a") ◂ (v "a") ◂ (v "a") ◂ nil)) ◂ nil)) ◂ nil)) ◂ (c "Tree" ((c "Tree" ((c "Tree" ((v "a") ◂ (v "a") ◂ (v "a") ◂ nil)) ◂ (c "Tree" ((v "a") ◂ (v "a") ◂ (v "a") ◂ nil)) ◂ (c "Tree" ((v "a") ◂ (v "a") ◂ (v "a") ◂ nil)) ◂ nil)) ◂ (c "Tree" ((c "Tree" ((v "a") ◂ (v "a") ◂ (v "a") ◂ nil)) ◂ (c "Tree" ((v "a") ◂ (v "a") ◂ (v "a") ◂ nil)) ◂ (c "Tree" ((v "a") ◂ (v "a") ◂ (v "a") ◂ nil)) ◂ nil)) ◂ (c "Tree" ((c "Tree" ((v "a") ◂ (v "a") ◂ (v "a") ◂ nil)) ◂ (c "Tree" ((v "a") ◂ (v "a") ◂ (v "a") ◂ nil)) ◂ (c "Tree" ((v "a") ◂ (v "a") ◂ (v "a") ◂ nil)) ◂ nil)) ◂ nil)) ◂ nil)) ◂ (c "Pair" ((c "Tree" ((c "Tree" ((c "Tree" ((v "a") ◂ (v "a") ◂ (v "a") ◂ nil)) ◂ (c "Tree" ((v "a") ◂ (v "a") ◂ (v "a") ◂ nil)) ◂ (c "Tree" ((v "a") ◂ (v "a") ◂ (v "a") ◂ nil)) ◂ nil)) ◂ (c "Tree" ((c "Tree" ((v "a") ◂ (v "a") ◂ (v "a") ◂ nil)) ◂ (c "Tree" ((v "a") ◂ (v "a") ◂ (v "a") ◂ nil)) ◂ (c "Tree" ((v "a") ◂ (v "a") ◂ (v "a") ◂ nil)) ◂ nil)) ◂ (c "Tree" ((c "Tree" ((v "a") ◂ (v "a") ◂ (v "a") ◂ nil)) ◂ (c "Tree" ((v "a") ◂ (v "a") ◂ (v "a") ◂ nil)) ◂ (c "Tree" ((v "a") ◂ (v "a") ◂ (v "a") ◂ nil)) ◂ nil)) ◂ nil)) ◂ (c "Tree" ((c "Tree" ((c "Tree" ((v "a") ◂ (v "a") ◂ (v "a") ◂ nil)) ◂ (c "Tree" ((v "a") ◂ (v "a") ◂ (v "a") ◂ nil)) ◂ (c "Tree" ((v "a") ◂ (v "a") ◂ (v "a") ◂ nil)) ◂ nil)) ◂ (c "Tree" ((c "Tree" ((v "a") ◂ (v "a") ◂ (v "a") ◂ nil)) ◂ (c "Tree" ((v "a") ◂ (v "a") ◂ (v "a") ◂ nil)) ◂ (c "Tree" ((v "a") ◂ (v "a") ◂ (v "a") ◂ nil)) ◂ nil)) ◂ (c "Tree" ((c "Tree" ((v "a") ◂ (v "a") ◂ (v "a") ◂ nil)) ◂ (c "Tree" ((v "a") ◂ (v "a") ◂ (v "a") ◂ nil)) ◂ (c "Tree" ((v "a") ◂ (v "a") ◂ (v "a") ◂ nil)) ◂ nil)) ◂ nil)) ◂ nil)) ◂ nil)) (c "Tree" ((c "Pair" ((c "Tree" ((c "Tree" ((c "Tree" ((v "a") ◂ (v "a") ◂ (v "a") ◂ nil)) ◂ (c "Tree" ((v "a") ◂ (v "a") ◂ (v "a") ◂ nil)) ◂ (c "Tree" ((v "a") ◂ (v "a") ◂ (v "a") ◂ nil)) ◂ nil)) ◂ (c "Tree" ((c "Tree" ((v "a") ◂ (v "a") ◂ (v "a") ◂ nil)) ◂ (c "Tree" ((v "a") ◂ (v "a") ◂ (v "a") ◂ nil)) ◂ (c "Tree" ((v "a") ◂ (v "a") ◂ (v "a") ◂ nil)) ◂ nil)) ◂ (c "Tree" ((c "Tree" ((v "a") ◂ (v "a") ◂ (v "a") ◂ nil)) ◂ (c "Tree" ((v "a") ◂ (v "a") ◂ (v "a") ◂ nil)) ◂ (c "Tree" ((v "a") ◂ (v "a") ◂ (v "a") ◂ nil)) ◂ nil)) ◂ nil)) ◂ (c "Tree" ((c "Tree" ((c "Tree" ((v "a") ◂ (v "a") ◂ (v "a") ◂ nil)) ◂ (c "Tree" ((v "a") ◂ (v "a") ◂ (v "a") ◂ nil)) ◂ (c "Tree" ((v "a") ◂ (v "a") ◂ (v "a") ◂ nil)) ◂ nil)) ◂ (c "Tree" ((c "Tree" ((v "a") ◂ (v "a") ◂ (v "a") ◂ nil)) ◂ (c "Tree" ((v "a") ◂ (v "a") ◂ (v "a") ◂ nil)) ◂ (c "Tree" ((v "a") ◂ (v "a") ◂ (v "a") ◂ nil)) ◂ nil)) ◂ (c "Tree" ((c "Tree" ((v "a") ◂ (v "a") ◂ (v "a") ◂ nil)) ◂ (c "Tree" ((v "a") ◂ (v "a") ◂ (v "a") ◂ nil)) ◂ (c "Tree" ((v "a") ◂ (v "a") ◂ (v "a") ◂ nil)) ◂ nil)) ◂ nil)) ◂ nil)) ◂ (c "Pair" ((c "Tree" ((c "Tree" ((c "Tree" ((v "a") ◂ (v "a") ◂ (v "a") ◂ nil)) ◂ (c "Tree" ((v "a") ◂ (v "a") ◂ (v "a") ◂ nil)) ◂ (c "Tree" ((v "a") ◂ (v "a") ◂ (v "a") ◂ nil)) ◂ nil)) ◂ (c "Tree" ((c "Tree" ((v "a") ◂ (v "a") ◂ (v "a") ◂ nil)) ◂ (c "Tree" ((v "a") ◂ (v "a") ◂ (v "a") ◂ nil)) ◂ (c "Tree" ((v "a") ◂ (v "a") ◂ (v "a") ◂ nil)) ◂ nil)) ◂ (c "Tree" ((c "Tree" ((v "a") ◂ (v "a") ◂ (v "a") ◂ nil)) ◂ (c "Tree" ((v "a") ◂ (v "a") ◂ (v "a") ◂ nil)) ◂ (c "Tree" ((v "a") ◂ (v "a") ◂ (v "a") ◂ nil)) ◂ nil)) ◂ nil)) ◂ (c "Tree" ((c "Tree" ((c "Tree" ((v "a") ◂ (v "a") ◂ (v "a") ◂ nil)) ◂ (c "Tree" ((v "a") ◂ (v "a") ◂ (v "a") ◂ nil)) ◂ (c "Tree" ((v "a") ◂ (v "a") ◂ (v "a") ◂ nil)) ◂ nil)) ◂ (c "Tree" ((c "Tree" ((v "a") ◂ (v "a") ◂ (v "a") ◂ nil)) ◂ (c "Tree" ((v "a") ◂ (v "a") ◂ (v "a") ◂ nil)) ◂ (c "Tree" ((v "a") ◂ (v "a") ◂ (v "a") ◂ nil)) ◂ nil)) ◂ (c "Tree" ((c "Tree" ((v "a") ◂ (v "a") ◂ (v "a") ◂ nil)) ◂ (c "Tree" ((v "a") ◂ (v "a") ◂ (v "a") ◂ nil)) ◂ (c "Tree" ((v "a") ◂ (v "a") ◂ (v "a") ◂ nil)) ◂ nil)) ◂ nil)) ◂ nil)) ◂ (c "Pair" ((c "Tree" ((c "Tree" ((c "Tree" ((v "a") ◂ (v "a") ◂ (v "a") ◂ nil)) ◂ (c "Tree" ((v "a") ◂ (v "a") ◂ (v "a") ◂ nil)) ◂ (c "Tree" ((v "a") ◂ (v "a") ◂ (v "a") ◂ nil)) ◂ nil)) ◂ (c "Tree" ((c "Tree" ((v "a") ◂ (v "a") ◂ (v "a") ◂ nil)) ◂ (c "Tree" ((v "a") ◂ (v "a") ◂ (v "a") ◂ nil)) ◂ (c "Tree" ((v "a") ◂ (v "a") ◂ (v "a") ◂ nil)) ◂ nil)) ◂ (c "Tree" ((c "Tree" ((v "a") ◂ (v "a") ◂ (v "a") ◂ nil)) ◂ (c "Tree" ((v "a") ◂ (v "a") ◂ (v "a") ◂ nil)) ◂ (c "Tree" ((v "a") ◂ (v "a") ◂ (v "a") ◂ nil)) ◂ nil)) ◂ nil)) ◂ (c "Tree" ((c "Tree" ((c "Tree" ((v "a") ◂ (v "a") ◂ (v "a") ◂ nil)) ◂ (c "Tree" ((v "a") ◂ (v "a") ◂ (v "a") ◂ nil)) ◂ (c "Tree" ((v "a") ◂ (v "a") ◂ (v "a") ◂ nil)) ◂ nil)) ◂ (c "Tree" ((c "Tree" ((v "a") ◂ (v "a") ◂ (v "a") ◂ nil)) ◂ (c "Tree" ((v "a") ◂ (v "a") ◂ (v "a") ◂ nil)) ◂ (c "Tree" ((v "a") ◂ (v "a") ◂ (v "a") ◂ nil)) ◂ nil)) ◂ (c "Tree" ((c "Tree" ((v "a") ◂ (v "a") ◂ (v "a") ◂ nil)) ◂ (c "Tree" ((v "a") ◂ (v "a") ◂ (v "a") ◂ nil)) ◂ (c "Tree" ((v "a") ◂ (v "a") ◂ (v "a") ◂ nil)) ◂ nil)) ◂ nil)) ◂ nil)) ◂ nil))) ◂ nil)) ◂ nil)) ◂ (c "Pair" ((c "Tree" ((arrow (c "Tree" ((c "Pair" ((c "Tree" ((c "Tree" ((c "Tree" ((v "a") ◂ (v "a") ◂ (v "a") ◂ nil)) ◂ (c "Tree" ((v "a") ◂ (v "a") ◂ (v "a") ◂ nil)) ◂ (c "Tree" ((v "a") ◂ (v "a") ◂ (v "a") ◂ nil)) ◂ nil)) ◂ (c "Tree" ((c "Tree" ((v "a") ◂ (v "a") ◂ (v "a") ◂ nil)) ◂ (c "Tree" ((v "a") ◂ (v "a") ◂ (v "a") ◂ nil)) ◂ (c "Tree" ((v "a") ◂ (v "a") ◂ (v "a") ◂ nil)) ◂ nil)) ◂ (c "Tree" ((c "Tree" ((v "a") ◂ (v "a") ◂ (v "a") ◂ nil)) ◂ (c "Tree" ((v "a") ◂ (v "a") ◂ (v "a") ◂ nil)) ◂ (c "Tree" ((v "a") ◂ (v "a") ◂ (v "a") ◂ nil)) ◂ nil)) ◂ nil)) ◂ (c "Tree" ((c "Tree" ((c "Tree" ((v "a") ◂ (v "a") ◂ (v "a") ◂ nil)) ◂ (c "Tree" ((v "a") ◂ (v "a") ◂ (v "a") ◂ nil)) ◂ (c "Tree" ((v "a") ◂ (v "a") ◂ (v "a") ◂ nil)) ◂ nil)) ◂ (c "Tree" ((c "Tree" ((v "a") ◂ (v "a") ◂ (v "a") ◂ nil)) ◂ (c "Tree" ((v "a") ◂ (v "a") ◂ (v "a") ◂ nil)) ◂ (c "Tree" ((v "a") ◂ (v "a") ◂ (v "a") ◂ nil)) ◂ nil)) ◂ (c "Tree" ((c "Tree" ((v "a") ◂ (v "a") ◂ (v "a") ◂ nil)) ◂ (c "Tree" ((v "a") ◂ (v "a") ◂ (v "a") ◂ nil)) ◂ (c "Tree" ((v "a") ◂ (v "a") ◂ (v "a") ◂ nil)) ◂ nil)) ◂ nil)) ◂ nil)) ◂ (c "Pair" ((c "Tree" ((c "Tree" ((c "Tree" ((v "a") ◂ (v "a") ◂ (v "a") ◂ nil)) ◂ (c "Tree" ((v "a") ◂ (v "a") ◂ (v "a") ◂ nil)) ◂ (c "Tree" ((v "a") ◂ (v "a") ◂ (v "a") ◂ nil)) ◂ nil)) ◂ (c "Tree" ((c "Tree" ((v "a") ◂ (v "a") ◂ (v "a") ◂ nil)) ◂ (c "Tree" ((v "a") ◂ (v "a") ◂ (v "a") ◂ nil)) ◂ (c "Tree" ((v "a") ◂ (v "a") ◂ (v "a") ◂ nil)) ◂ nil)) ◂ (c "Tree" ((c "Tree" ((v "a") ◂ (v "a") ◂ (v "a") ◂ nil)) ◂ (c "Tree" ((v "a") ◂ (v "a") ◂ (v "a") ◂ nil)) ◂ (c "Tree" ((v "a") ◂ (v "a") ◂ (v "a") ◂ nil)) ◂ nil)) ◂ nil)) ◂ (c "Tree" ((c "Tree" ((c "Tree" ((v "a") ◂ (v "a") ◂ (v "a") ◂ nil)) ◂ (c "Tree" ((v "a") ◂ (v "a") ◂ (v "a") ◂ nil)) ◂ (c "Tree" ((v "a") ◂ (v "a") ◂ (v "a") ◂ nil)) ◂ nil)) ◂ (c "Tree" ((c "Tree" ((v "a") ◂ (v "a") ◂ (v "a") ◂ nil)) ◂ (c "Tree" ((v "a") ◂ (v "a") ◂ (v "a") ◂ nil)) ◂ (c "Tree" ((v "a") ◂ (v "a") ◂ (v "a") ◂ nil)) ◂ nil)) ◂ (c "Tree" ((c "Tree" ((v "a") ◂ (v "a") ◂ (v "a") ◂ nil)) ◂ (c "Tree" ((v "a") ◂ (v "a") ◂ (v "a") ◂ nil)) ◂ (c "Tree" ((v "a") ◂ (v "a") ◂ (v "a") ◂ nil)) ◂ nil)) ◂ nil)) ◂ nil)) ◂ (c "Pair" ((c "Tree" ((c "Tree" ((c "Tree" ((v "a") ◂ (v "a") ◂ (v "a") ◂ nil)) ◂ (c "Tree" ((v "a") ◂ (v "a") ◂ (v "a") ◂ nil)) ◂ (c "Tree" ((v "a") ◂ (v "a") ◂ (v "a") ◂ nil)) ◂ nil)) ◂ (c "Tree" ((c "Tree" ((v "a") ◂ (v "a") ◂ (v "a") ◂ nil)) ◂ (c "Tree" ((v "a") ◂ (v "a") ◂ (v "a") ◂ nil)) ◂ (c "Tree" ((v "a") ◂ (v "a") ◂ (v "a") ◂ nil)) ◂ nil)) ◂ (c "Tree" ((c "Tree" ((v "a") ◂ (v "a") ◂ (v "a") ◂ nil)) ◂ (c "Tree" ((v "a") ◂ (v "a") ◂ (v "a") ◂ nil)) ◂ (c "Tree" ((v "a") ◂ (v "a") ◂ (v "a") ◂ nil)) ◂ nil)) ◂ nil)) ◂ (c "Tree" ((c "Tree" ((c "Tree" ((v "a") ◂ (v "a") ◂ (v "a") ◂ nil)) ◂ (c "Tree" ((v "a") ◂ (v "a") ◂ (v "a") ◂ nil)) ◂ (c "Tree" ((v "a") ◂ (v "a") ◂ (v "a") ◂ nil)) ◂ nil)) ◂ (c "Tree" ((c "Tree" ((v "a") ◂ (v "a") ◂ (v "a") ◂ nil)) ◂ (c "Tree" ((v "a") ◂ (v "a") ◂ (v "a") ◂ nil)) ◂ (c "Tree" ((v "a") ◂ (v "a") ◂ (v "a") ◂ nil)) ◂ nil)) ◂ (c "Tree" ((c "Tree" ((v "a") ◂ (v "a") ◂ (v "a") ◂ nil)) ◂ (c "Tree" ((v "a") ◂ (v "a") ◂ (v "a") ◂ nil)) ◂ (c "Tree" ((v "a") ◂ (v "a") ◂ (v "a") ◂ nil)) ◂ nil)) ◂ nil)) ◂ nil)) ◂ nil)) (c "Tree" ((c "Pair" ((c "Tree" ((c "Tree" ((c "Tree" ((v "a") ◂ (v "a") ◂ (v "a") ◂ nil)) ◂ (c "Tree" ((v "a") ◂ (v "a") ◂ (v "a") ◂ nil)) ◂ (c "Tree" ((v "a") ◂ (v "a") ◂ (v "a") ◂ nil)) ◂ nil)) ◂ (c "Tree" ((c "Tree" ((v "a") ◂ (v "a") ◂ (v "a") ◂ nil)) ◂ (c "Tree" ((v "a") ◂ (v "a") ◂ (v "a") ◂ nil)) ◂ (c "Tree" ((v "a") ◂ (v "a") ◂ (v "a") ◂ nil)) ◂ nil)) ◂ (c "Tree" ((c "Tree" ((v "a") ◂ (v "a") ◂ (v "a") ◂ nil)) ◂ (c "Tree" ((v "a") ◂ (v "a") ◂ (v "a") ◂ nil)) ◂ (c "Tree" ((v "a") ◂ (v "a") ◂ (v "a") ◂ nil)) ◂ nil)) ◂ nil)) ◂ (c "Tree" ((c "Tree" ((c "Tree" ((v "a") ◂ (v "a") ◂ (v "a") ◂ nil)) ◂ (c "Tree" ((v "a") ◂ (v "a") ◂ (v "a") ◂ nil)) ◂ (c "Tree" ((v "a") ◂ (v "a") ◂ (v "a") ◂ nil)) ◂ nil)) ◂ (c "Tree" ((c "Tree" ((v "a") ◂ (v "a") ◂ (v "a") ◂ nil)) ◂ (c "Tree" ((v "a") ◂ (v "a") ◂ (v "a") ◂ nil)) ◂ (c "Tree" ((v "a") ◂ (v "a") ◂ (v "a") ◂ nil)) ◂ nil)) ◂ (c "Tree" ((c "Tree" ((v "a") ◂ (v "a") ◂ (v "a") ◂ nil)) ◂ (c "Tree" ((v "a") ◂ (v "a") ◂ (v "a") ◂ nil)) ◂ (c "Tree" ((v "a") ◂ (v "a") ◂ (v "a") ◂ nil)) ◂ nil)) ◂ nil)) ◂ nil)) ◂ (c "Pair" ((c "Tree" ((c "Tree" ((c "Tree" ((v "a") ◂ (v "a") ◂ (v "a") ◂ nil)) ◂ (c "Tree" ((v "a") ◂ (v "a") ◂ (v "a") ◂ nil)) ◂ (c "Tree" ((v "a") ◂ (v "a") ◂ (v "a") ◂ nil)) ◂ nil)) ◂ (c "Tree" ((c "Tree" ((v "a") ◂ (v "a") ◂ (v "a") ◂ nil)) ◂ (c "Tree" ((v "a") ◂ (v "a") ◂ (v "a") ◂ nil)) ◂ (c "Tree" ((v "a") ◂ (v "a") ◂ (v "a") ◂ nil)) ◂ nil)) ◂ (c "Tree" ((c "Tree" ((v "a") ◂ (v "a") ◂ (v "a") ◂ nil)) ◂ (c "Tree" ((v "a") ◂ (v "a") ◂ (v "a") ◂ nil)) ◂ (c "Tree" ((v "a") ◂ (v "a") ◂ (v "a") ◂ nil)) ◂ nil)) ◂ nil)) ◂ (c "Tree" ((c "Tree" ((c "Tree" ((v "a") ◂ (v "a") ◂ (v "a") ◂ nil)) ◂ (c "Tree" ((v "a") ◂ (v "a") ◂ (v "a") ◂ nil)) ◂ (c "Tree" ((v "a") ◂ (v "a") ◂ (v "a") ◂ nil)) ◂ nil)) ◂ (c "Tree" ((c "Tree" ((v "a") ◂ (v "a") ◂ (v "a") ◂ nil)) ◂ (c "Tree" ((v "a") ◂ (v "a") ◂ (v "a") ◂ nil)) ◂ (c "Tree" ((v "a") ◂ (v "a") ◂ (v "a") ◂ nil)) ◂ nil)) ◂ (c "Tree" ((c "Tree" ((v "a") ◂ (v "a") ◂ (v "a") ◂ nil)) ◂ (c "Tree" ((v "a") ◂ (v "a") ◂ (v "a") ◂ nil)) ◂ (c "Tree" ((v "a") ◂ (v "a") ◂ (v "a") ◂ nil)) ◂ nil)) ◂ nil)) ◂ nil)) ◂ (c "Pair" ((c "Tree" ((c "Tree" ((c "Tree" ((v "a") ◂ (v "a") ◂ (v "a") ◂ nil)) ◂ (c "Tree" ((v "a") ◂ (v "a") ◂ (v "a") ◂ nil)) ◂ (c "Tree" ((v "a") ◂ (v "a") ◂ (v "a") ◂ nil)) ◂ nil)) ◂ (c "Tree" ((c "Tree" ((v "a") ◂ (v "a") ◂ (v "a") ◂ nil)) ◂ (c "Tree" ((v "a") ◂ (v "a") ◂ (v "a") ◂ nil)) ◂ (c "Tree" ((v "a") ◂ (v "a") ◂ (v "a") ◂ nil)) ◂ nil)) ◂ (c "Tree" ((c "Tree" ((v "a") ◂ (v "a") ◂ (v "a") ◂ nil)) ◂ (c "Tree" ((v "a") ◂ (v "a") ◂ (v "a") ◂ nil)) ◂ (c "Tree" ((v "a") ◂ (v "a") ◂ (v "a") ◂ nil)) ◂ nil)) ◂ nil)) ◂ (c "Tree" ((c "Tree" ((c "Tree" ((v "a") ◂ (v "a") ◂ (v "a") ◂ nil)) ◂ (c "Tree" ((v "a") ◂ (v "a") ◂ (v "a") ◂ nil)) ◂ (c "Tree" ((v "a") ◂ (v "a") ◂ (v "a") ◂ nil)) ◂ nil)) ◂ (c "Tree" ((c "Tree" ((v "a") ◂ (v "a") ◂ (v "a") ◂ nil)) ◂ (c "Tree" ((v "a") ◂ (v "a") ◂ (v "a") ◂ nil)) ◂ (c "Tree" ((v "a") ◂ (v "a") ◂ (v "a") ◂ nil)) ◂ nil)) ◂ (c "Tree" ((c "Tree" ((v "a") ◂ (v "a") ◂ (v "a") ◂ nil)) ◂ (c "Tree" ((v "a") ◂ (v "a") ◂ (v "a") ◂ nil)) ◂ (c "Tree" ((v "a") ◂ (v "a") ◂ (v "a") ◂ nil)) ◂ nil)) ◂ nil)) ◂ nil)) ◂ nil))) ◂ (arrow (c "Tree" ((c "Pair" ((c "Tree" ((c "Tree" ((c "Tree" ((v "a") ◂ (v "a") ◂ (v "a") ◂ nil)) ◂ (c "Tree" ((v "a") ◂ (v "a") ◂ (v "a") ◂ nil)) ◂ (c "Tree" ((v "a") ◂ (v "a") ◂ (v "a") ◂ nil)) ◂ nil)) ◂ (c "Tree" ((c "Tree" ((v "a") ◂ (v "a") ◂ (v "a") ◂ nil)) ◂ (c "Tree" ((v "a") ◂ (v "a") ◂ (v "a") ◂ nil)) ◂ (c "Tree" ((v "a") ◂ (v "a") ◂ (v "a") ◂ nil)) ◂ nil)) ◂ (c "Tree" ((c "Tree" ((v "a") ◂ (v "a") ◂ (v "a") ◂ nil)) ◂ (c "Tree" ((v "a") ◂ (v "a") ◂ (v "a") ◂ nil)) ◂ (c "Tree" ((v "a") ◂ (v "a") ◂ (v "a") ◂ nil)) ◂ nil)) ◂ nil)) ◂ (c "Tree" ((c "Tree" ((c "Tree" ((v "a") ◂ (v "a") ◂ (v "a") ◂ nil)) ◂ (c "Tree" ((v "a") ◂ (v "a") ◂ (v "a") ◂ nil)) ◂ (c "Tree" ((v "a") ◂ (v "a") ◂ (v "a") ◂ nil)) ◂ nil)) ◂ (c "Tree" ((c "Tree" ((v "a") ◂ (v "a") ◂ (v "a") ◂ nil)) ◂ (c "Tree" ((v "a") ◂ (v "a") ◂ (v "a") ◂ nil)) ◂ (c "Tree" ((v "a") ◂ (v "a") ◂ (v "a") ◂ nil)) ◂ nil)) ◂ (c "Tree" ((c "Tree" ((v "a") ◂ (v "a") ◂ (v "a") ◂ nil)) ◂ (c "Tree" ((v "a") ◂ (v "a") ◂ (v "a") ◂ nil)) ◂ (c "Tree" ((v "a") ◂ (v "a") ◂ (v "a") ◂ nil)) ◂ nil)) ◂ nil)) ◂ nil)) ◂ (c "Pair" ((c "Tree" ((c "Tree" ((c "Tree" ((v "a") ◂ (v "a") ◂ (v "a") ◂ nil)) ◂ (c "Tree" ((v "a") ◂ (v "a") ◂ (v "a") ◂ nil)) ◂ (c "Tree" ((v "a") ◂ (v "a") ◂ (v "a") ◂ nil)) ◂ nil)) ◂ (c "Tree" ((c "Tree" ((v "a") ◂ (v "a") ◂ (v "a") ◂ nil)) ◂ (c "Tree" ((v "a") ◂ (v "a") ◂ (v "a") ◂ nil)) ◂ (c "Tree" ((v "a") ◂ (v "a") ◂ (v "a") ◂ nil)) ◂ nil)) ◂ (c "Tree" ((c "Tree" ((v "a") ◂ (v "a") ◂ (v "a") ◂ nil)) ◂ (c "Tree" ((v "a") ◂ (v "a") ◂ (v "a") ◂ nil)) ◂ (c "Tree" ((v "a") ◂ (v "a") ◂ (v "a") ◂ nil)) ◂ nil)) ◂ nil)) ◂ (c "Tree" ((c "Tree" ((c "Tree" ((v "a") ◂ (v "a") ◂ (v "a") ◂ nil)) ◂ (c "Tree" ((v "a") ◂ (v "a") ◂ (v "a") ◂ nil)) ◂ (c "Tree" ((v "a") ◂ (v "a") ◂ (v "a") ◂ nil)) ◂ nil)) ◂ (c "Tree" ((c "Tree" ((v "a") ◂ (v "a") ◂ (v "a") ◂ nil)) ◂ (c "Tree" ((v "a") ◂ (v "a") ◂ (v "a") ◂ nil)) ◂ (c "Tree" ((v "a") ◂ (v "a") ◂ (v "a") ◂ nil)) ◂ nil)) ◂ (c "Tree" ((c "Tree" ((v "a") ◂ (v "a") ◂ (v "a") ◂ nil)) ◂ (c "Tree" ((v "a") ◂ (v "a") ◂ (v "a") ◂ nil)) ◂ (c "Tree" ((v "a") ◂ (v "a") ◂ (v "a") ◂ nil)) ◂ nil)) ◂ nil)) ◂ nil)) ◂ (c "Pair" ((c "Tree" ((c "Tree" ((c "Tree" ((v "a") ◂ (v "a") ◂ (v "a") ◂ nil)) ◂ (c "Tree" ((v "a") ◂ (v "a") ◂ (v "a") ◂ nil)) ◂ (c "Tree" ((v "a") ◂ (v "a") ◂ (v "a") ◂ nil)) ◂ nil)) ◂ (c "Tree" ((c "Tree" ((v "a") ◂ (v "a") ◂ (v "a") ◂ nil)) ◂ (c "Tree" ((v "a") ◂ (v "a") ◂ (v "a") ◂ nil)) ◂ (c "Tree" ((v "a") ◂ (v "a") ◂ (v "a") ◂ nil)) ◂ nil)) ◂ (c "Tree" ((c "Tree" ((v "a") ◂ (v "a") ◂ (v "a") ◂ nil)) ◂ (c "Tree" ((v "a") ◂ (v "a") ◂ (v "a") ◂ nil)) ◂ (c "Tree" ((v "a") ◂ (v "a") ◂ (v "a") ◂ nil)) ◂ nil)) ◂ nil)) ◂ (c "Tree" ((c "Tree" ((c "Tree" ((v "a") ◂ (v "a") ◂ (v "a") ◂ nil)) ◂ (c "Tree" ((v "a") ◂ (v "a") ◂ (v "a") ◂ nil)) ◂ (c "Tree" ((v "a") ◂ (v "a") ◂ (v "a") ◂ nil)) ◂ nil)) ◂ (c "Tree" ((c "Tree" ((v "a") ◂ (v "a") ◂ (v "a") ◂ nil)) ◂ (c "Tree" ((v "a") ◂ (v "a") ◂ (v "a") ◂ nil)) ◂ (c "Tree" ((v "a") ◂ (v "a") ◂ (v "a") ◂ nil)) ◂ nil)) ◂ (c "Tree" ((c "Tree" ((v "a") ◂ (v "a") ◂ (v "a") ◂ nil)) ◂ (c "Tree" ((v "a") ◂ (v "a") ◂ (v "a") ◂ nil)) ◂ (c "Tree" ((v "a") ◂ (v "a") ◂ (v "a") ◂ nil)) ◂ nil)) ◂ nil)) ◂ nil)) ◂ nil)) (c "Tree" ((c "Pair" ((c "Tree" ((c "Tree" ((c "Tree" ((v "a") ◂ (v "a") ◂ (v "a") ◂ nil)) ◂ (c "Tree" ((v "a") ◂ (v "a") ◂ (v "a") ◂ nil)) ◂ (c "Tree" ((v "a") ◂ (v "a") ◂ (v "a") ◂ nil)) ◂ nil)) ◂ (c "Tree" ((c "Tree" ((v "a") ◂ (v "a") ◂ (v "a") ◂ nil)) ◂ (c "Tree" ((v "a") ◂ (v "a") ◂ (v "a") ◂ nil)) ◂ (c "Tree" ((v "a") ◂ (v "a") ◂ (v "a") ◂ nil)) ◂ nil)) ◂ (c "Tree" ((c "Tree" ((v "a") ◂ (v "a") ◂ (v "a") ◂ nil)) ◂ (c "Tree" ((v "a") ◂ (v "a") ◂ (v "a") ◂ nil)) ◂ (c "Tree" ((v "a") ◂ (v "a") ◂ (v "a") ◂ nil)) ◂ nil)) ◂ nil)) ◂ (c "Tree" ((c "Tree" ((c "Tree" ((v "a") ◂ (v "a") ◂ (v "a") ◂ nil)) ◂ (c "Tree" ((v "a") ◂ (v "a") ◂ (v "a") ◂ nil)) ◂ (c "Tree" ((v "a") ◂ (v "a") ◂ (v "a") ◂ nil)) ◂ nil)) ◂ (c "Tree" ((c "Tree" ((v "a") ◂ (v "a") ◂ (v "a") ◂ nil)) ◂ (c "Tree" ((v "a") ◂ (v "a") ◂ (v "a") ◂ nil)) ◂ (c "Tree" ((v "a") ◂ (v "a") ◂ (v "a") ◂ nil)) ◂ nil)) ◂ (c "Tree" ((c "Tree" ((v "a") ◂ (v "a") ◂ (v "a") ◂ nil)) ◂ (c "Tree" ((v "a") ◂ (v "a") ◂ (v "a") ◂ nil)) ◂ (c "Tree" ((v "a") ◂ (v "a") ◂ (v "a") ◂ nil)) ◂ nil)) ◂ nil)) ◂ nil)) ◂ (c "Pair" ((c "Tree" ((c "Tree" ((c "Tree" ((v "a") ◂ (v "a") ◂ (v "a") ◂ nil)) ◂ (c "Tree" ((v "a") ◂ (v "a") ◂ (v "a") ◂ nil)) ◂ (c "Tree" ((v "a") ◂ (v "a") ◂ (v "a") ◂ nil)) ◂ nil)) ◂ (c "Tree" ((c "Tree" ((v "a") ◂ (v "a") ◂ (v "a") ◂ nil)) ◂ (c "Tree" ((v "a") ◂ (v "a") ◂ (v "a") ◂ nil)) ◂ (c "Tree" ((v "a") ◂ (v "a") ◂ (v "a") ◂ nil)) ◂ nil)) ◂ (c "Tree" ((c "Tree" ((v "a") ◂ (v "a") ◂ (v "a") ◂ nil)) ◂ (c "Tree" ((v "a") ◂ (v "a") ◂ (v "a") ◂ nil)) ◂ (c "Tree" ((v "a") ◂ (v "a") ◂ (v "a") ◂ nil)) ◂ nil)) ◂ nil)) ◂ (c "Tree" ((c "Tree" ((c "Tree" ((v "a") ◂ (v "a") ◂ (v "a") ◂ nil)) ◂ (c "Tree" ((v "a") ◂ (v "a") ◂ (v "a") ◂ nil)) ◂ (c "Tree" ((v "a") ◂ (v "a") ◂ (v "a") ◂ nil)) ◂ nil)) ◂ (c "Tree" ((c "Tree" ((v "a") ◂ (v "a") ◂ (v "a") ◂ nil)) ◂ (c "Tree" ((v "a") ◂ (v "a") ◂ (v "a") ◂ nil)) ◂ (c "Tree" ((v "a") ◂ (v "a") ◂ (v "a") ◂ nil)) ◂ nil)) ◂ (c "Tree" ((c "Tree" ((v "a") ◂ (v "a") ◂ (v "a") ◂ nil)) ◂ (c "Tree" ((v "a") ◂ (v "a") ◂ (v "a") ◂ nil)) ◂ (c "Tree" ((v "a") ◂ (v "a") ◂ (v "a") ◂ nil)) ◂ nil)) ◂ nil)) ◂ nil)) ◂ (c "Pair" ((c "Tree" ((c "Tree" ((c "Tree" ((v "a") ◂ (v "a") ◂ (v "a") ◂ nil)) ◂ (c "Tree" ((v "a") ◂ (v "a") ◂ (v "a") ◂ nil)) ◂ (c "Tree" ((v "a") ◂ (v "a") ◂ (v "a") ◂ nil)) ◂ nil)) ◂ (c "Tree" ((c "Tree" ((v "a") ◂ (v "a") ◂ (v "a") ◂ nil)) ◂ (c "Tree" ((v "a") ◂ (v "a") ◂ (v "a") ◂ nil)) ◂ (c "Tree" ((v "a") ◂ (v "a") ◂ (v "a") ◂ nil)) ◂ nil)) ◂ (c "Tree" ((c "Tree" ((v "a") ◂ (v "a") ◂ (v "a") ◂ nil)) ◂ (c "Tree" ((v "a") ◂ (v "a") ◂ (v "a") ◂ nil)) ◂ (c "Tree" ((v "a") ◂ (v "a") ◂ (v "a") ◂ nil)) ◂ nil)) ◂ nil)) ◂ (c "Tree" ((c "Tree" ((c "Tree" ((v "a") ◂ (v "a") ◂ (v "a") ◂ nil)) ◂ (c "Tree" ((v "a") ◂ (v "a") ◂ (v "a") ◂ nil)) ◂ (c "Tree" ((v "a") ◂ (v "a") ◂ (v "a") ◂ nil)) ◂ nil)) ◂ (c "Tree" ((c "Tree" ((v "a") ◂ (v "a") ◂ (v "a") ◂ nil)) ◂ (c "Tree" ((v "a") ◂ (v "a") ◂ (v "a") ◂ nil)) ◂ (c "Tree" ((v "a") ◂ (v "a") ◂ (v "a") ◂ nil)) ◂ nil)) ◂ (c "Tree" ((c "Tree" ((v "a") ◂ (v "a") ◂ (v "a") ◂ nil)) ◂ (c "Tree" ((v "a") ◂ (v "a") ◂ (v "a") ◂ nil)) ◂ (c "Tree" ((v "a") ◂ (v "a") ◂ (v "a") ◂ nil)) ◂ nil)) ◂ nil)) ◂ nil)) ◂ nil))) ◂ (arrow (c "Tree" ((c "Pair" ((c "Tree" ((c "Tree" ((c "Tree" ((v "a") ◂ (v "a") ◂ (v "a") ◂ nil)) ◂ (c "Tree" ((v "a") ◂ (v "a") ◂ (v "a") ◂ nil)) ◂ (c "Tree" ((v "a") ◂ (v "a") ◂ (v "a") ◂ nil)) ◂ nil)) ◂ (c "Tree" ((c "Tree" ((v "a") ◂ (v "a") ◂ (v "a") ◂ nil)) ◂ (c "Tree" ((v "a") ◂ (v "a") ◂ (v "a") ◂ nil)) ◂ (c "Tree" ((v "a") ◂ (v "a") ◂ (v "a") ◂ nil)) ◂ nil)) ◂ (c "Tree" ((c "Tree" ((v "a") ◂ (v "a") ◂ (v "a") ◂ nil)) ◂ (c "Tree" ((v "a") ◂ (v "a") ◂ (v "a") ◂ nil)) ◂ (c "Tree" ((v "a") ◂ (v "a") ◂ (v "a") ◂ nil)) ◂ nil)) ◂ nil)) ◂ (c "Tree" ((c "Tree" ((c "Tree" ((v "a") ◂ (v "a") ◂ (v "a") ◂ nil)) ◂ (c "Tree" ((v "a") ◂ (v "a") ◂ (v "a") ◂ nil)) ◂ (c "Tree" ((v "a") ◂ (v "a") ◂ (v "a") ◂ nil)) ◂ nil)) ◂ (c "Tree" ((c "Tree" ((v "a") ◂ (v "a") ◂ (v "a") ◂ nil)) ◂ (c "Tree" ((v "a") ◂ (v "a") ◂ (v "a") ◂ nil)) ◂ (c "Tree" ((v "a") ◂ (v "a") ◂ (v "a") ◂ nil)) ◂ nil)) ◂ (c "Tree" ((c "Tree" ((v "a") ◂ (v "a") ◂ (v "a") ◂ nil)) ◂ (c "Tree" ((v "a") ◂ (v "a") ◂ (v "a") ◂ nil)) ◂ (c "Tree" ((v "a") ◂ (v "a") ◂ (v "a") ◂ nil)) ◂ nil)) ◂ nil)) ◂ nil)) ◂ (c "Pair" ((c "Tree" ((c "Tree" ((c "Tree" ((v "a") ◂ (v "a") ◂ (v "a") ◂ nil)) ◂ (c "Tree" ((v "a") ◂ (v "a") ◂ (v "a") ◂ nil)) ◂ (c "Tree" ((v "a") ◂ (v "a") ◂ (v "a") ◂ nil)) ◂ nil)) ◂ (c "Tree" ((c "Tree" ((v "a") ◂ (v "a") ◂ (v "a") ◂ nil)) ◂ (c "Tree" ((v "a") ◂ (v "a") ◂ (v "a") ◂ nil)) ◂ (c "Tree" ((v "a") ◂ (v "a") ◂ (v "a") ◂ nil)) ◂ nil)) ◂ (c "Tree" ((c "Tree" ((v "a") ◂ (v "a") ◂ (v "a") ◂ nil)) ◂ (c "Tree" ((v "a") ◂ (v "a") ◂ (v "a") ◂ nil)) ◂ (c "Tree" ((v "a") ◂ (v "a") ◂ (v "a") ◂ nil)) ◂ nil)) ◂ nil)) ◂ (c "Tree" ((c "Tree" ((c "Tree" ((v "a") ◂ (v "a") ◂ (v "a") ◂ nil)) ◂ (c "Tree" ((v "a") ◂ (v "a") ◂ (v "a") ◂ nil)) ◂ (c "Tree" ((v "a") ◂ (v "a") ◂ (v "a") ◂ nil)) ◂ nil)) ◂ (c "Tree" ((c "Tree" ((v "a") ◂ (v "a") ◂ (v "a") ◂ nil)) ◂ (c "Tree" ((v "a") ◂ (v "a") ◂ (v "a") ◂ nil)) ◂ (c "Tree" ((v "a") ◂ (v "a") ◂ (v "a") ◂ nil)) ◂ nil)) ◂ (c "Tree" ((c "Tree" ((v "a") ◂ (v "a") ◂ (v "a") ◂ nil)) ◂ (c "Tree" ((v "a") ◂ (v "a") ◂ (v "a") ◂ nil)) ◂ (c "Tree" ((v "a") ◂ (v "a") ◂ (v "a") ◂ nil)) ◂ nil)) ◂ nil)) ◂ nil)) ◂ (c "Pair" ((c "Tree" ((c "Tree" ((c "Tree" ((v "a") ◂ (v "a") ◂ (v "a") ◂ nil)) ◂ (c "Tree" ((v "a") ◂ (v "a") ◂ (v "a") ◂ nil)) ◂ (c "Tree" ((v "a") ◂ (v "a") ◂ (v "a") ◂ nil)) ◂ nil)) ◂ (c "Tree" ((c "Tree" ((v "a") ◂ (v "a") ◂ (v "a") ◂ nil)) ◂ (c "Tree" ((v "a") ◂ (v "a") ◂ (v "a") ◂ nil)) ◂ (c "Tree" ((v "a") ◂ (v "a") ◂ (v "a") ◂ nil)) ◂ nil)) ◂ (c "Tree" ((c "Tree" ((v "a") ◂ (v "a") ◂ (v "a") ◂ nil)) ◂ (c "Tree" ((v "a") ◂ (v "a") ◂ (v "a") ◂ nil)) ◂ (c "Tree" ((v "a") ◂ (v "a") ◂ (v "a") ◂ nil)) ◂ nil)) ◂ nil)) ◂ (c "Tree" ((c "Tree" ((c "Tree" ((v "a") ◂ (v "a") ◂ (v "a") ◂ nil)) ◂ (c "Tree" ((v "a") ◂ (v "a") ◂ (v "a") ◂ nil)) ◂ (c "Tree" ((v "a") ◂ (v "a") ◂ (v "a") ◂ nil)) ◂ nil)) ◂ (c "Tree" ((c "Tree" ((v "a") ◂ (v "a") ◂ (v "a") ◂ nil)) ◂ (c "Tree" ((v "a") ◂ (v "a") ◂ (v "a") ◂ nil)) ◂ (c "Tree" ((v "a") ◂ (v "a") ◂ (v "a") ◂ nil)) ◂ nil)) ◂ (c "Tree" ((c "Tree" ((v "a") ◂ (v "a") ◂ (v "a") ◂ nil)) ◂ (c "Tree" ((v "a") ◂ (v "a") ◂ (v "a") ◂ nil)) ◂ (c "Tree" ((v "a") ◂ (v "a") ◂ (v "a") ◂ nil)) ◂ nil)) ◂ nil)) ◂ nil)) ◂ nil)) (c "Tree" ((c "Pair" ((c "Tree" ((c "Tree" ((c "Tree" ((v "a") ◂ (v "a") ◂ (v "a") ◂ nil)) ◂ (c "Tree" ((v "a") ◂ (v "a") ◂ (v "a") ◂ nil)) ◂ (c "Tree" ((v "a") ◂ (v "a") ◂ (v "a") ◂ nil)) ◂ nil)) ◂ (c "Tree" ((c "Tree" ((v "a") ◂ (v "a") ◂ (v "a") ◂ nil)) ◂ (c "Tree" ((v "a") ◂ (v "a") ◂ (v "a") ◂ nil)) ◂ (c "Tree" ((v "a") ◂ (v "a") ◂ (v "a") ◂ nil)) ◂ nil)) ◂ (c "Tree" ((c "Tree" ((v "a") ◂ (v "a") ◂ (v "a") ◂ nil)) ◂ (c "Tree" ((v "a") ◂ (v "a") ◂ (v "a") ◂ nil)) ◂ (c "Tree" ((v "a") ◂ (v "a") ◂ (v "a") ◂ nil)) ◂ nil)) ◂ nil)) ◂ (c "Tree" ((c "Tree" ((c "Tree" ((v "a") ◂ (v "a") ◂ (v "a") ◂ nil)) ◂ (c "Tree" ((v "a") ◂ (v "a") ◂ (v "a") ◂ nil)) ◂ (c "Tree" ((v "a") ◂ (v "a") ◂ (v "a") ◂ nil)) ◂ nil)) ◂ (c "Tree" ((c "Tree" ((v "a") ◂ (v "a") ◂ (v "a") ◂ nil)) ◂ (c "Tree" ((v "a") ◂ (v "a") ◂ (v "a") ◂ nil)) ◂ (c "Tree" ((v "a") ◂ (v "a") ◂ (v "a") ◂ nil)) ◂ nil)) ◂ (c "Tree" ((c "Tree" ((v "a") ◂ (v "a") ◂ (v "a") ◂ nil)) ◂ (c "Tree" ((v "a") ◂ (v "a") ◂ (v "a") ◂ nil)) ◂ (c "Tree" ((v "a") ◂ (v "a") ◂ (v "a") ◂ nil)) ◂ nil)) ◂ nil)) ◂ nil)) ◂ (c "Pair" ((c "Tree" ((c "Tree" ((c "Tree" ((v "a") ◂ (v "a") ◂ (v "a") ◂ nil)) ◂ (c "Tree" ((v "a") ◂ (v "a") ◂ (v "a") ◂ nil)) ◂ (c "Tree" ((v "a") ◂ (v "a") ◂ (v "a") ◂ nil)) ◂ nil)) ◂ (c "Tree" ((c "Tree" ((v "a") ◂ (v "a") ◂ (v "a") ◂ nil)) ◂ (c "Tree" ((v "a") ◂ (v "a") ◂ (v "a") ◂ nil)) ◂ (c "Tree" ((v "a") ◂ (v "a") ◂ (v "a") ◂ nil)) ◂ nil)) ◂ (c "Tree" ((c "Tree" ((v "a") ◂ (v "a") ◂ (v "a") ◂ nil)) ◂ (c "Tree" ((v "a") ◂ (v "a") ◂ (v "a") ◂ nil)) ◂ (c "Tree" ((v "a") ◂ (v "a") ◂ (v "a") ◂ nil)) ◂ nil)) ◂ nil)) ◂ (c "Tree" ((c "Tree" ((c "Tree" ((v "a") ◂ (v "a") ◂ (v "a") ◂ nil)) ◂ (c "Tree" ((v "a") ◂ (v "a") ◂ (v "a") ◂ nil)) ◂ (c "Tree" ((v "a") ◂ (v "a") ◂ (v "a") ◂ nil)) ◂ nil)) ◂ (c "Tree" ((c "Tree" ((v "a") ◂ (v "a") ◂ (v "a") ◂ nil)) ◂ (c "Tree" ((v "a") ◂ (v "a") ◂ (v "a") ◂ nil)) ◂ (c "Tree" ((v "a") ◂ (v "a") ◂ (v "a") ◂ nil)) ◂ nil)) ◂ (c "Tree" ((c "Tree" ((v "a") ◂ (v "a") ◂ (v "a") ◂ nil)) ◂ (c "Tree" ((v "a") ◂ (v "a") ◂ (v "a") ◂ nil)) ◂ (c "Tree" ((v "a") ◂ (v "a") ◂ (v "a") ◂ nil)) ◂ nil)) ◂ nil)) ◂ nil)) ◂ (c "Pair" ((c "Tree" ((c "Tree" ((c "Tree" ((v "a") ◂ (v "a") ◂ (v "a") ◂ nil)) ◂ (c "Tree" ((v "a") ◂ (v "a") ◂ (v "a") ◂ nil)) ◂ (c "Tree" ((v "a") ◂ (v "a") ◂ (v "a") ◂ nil)) ◂ nil)) ◂ (c "Tree" ((c "Tree" ((v "a") ◂ (v "a") ◂ (v "a") ◂ nil)) ◂ (c "Tree" ((v "a") ◂ (v "a") ◂ (v "a") ◂ nil)) ◂ (c "Tree" ((v "a") ◂ (v "a") ◂ (v "a") ◂ nil)) ◂ nil)) ◂ (c "Tree" ((c "Tree" ((v "a") ◂ (v "a") ◂ (v "a") ◂ nil)) ◂ (c "Tree" ((v "a") ◂ (v "a") ◂ (v "a") ◂ nil)) ◂ (c "Tree" ((v "a") ◂ (v "a") ◂ (v "a") ◂ nil)) ◂ nil)) ◂ nil)) ◂ (c "Tree" ((c "Tree" ((c "Tree" ((v "a") ◂ (v "a") ◂ (v "a") ◂ nil)) ◂ (c "Tree" ((v "a") ◂ (v "a") ◂ (v "a") ◂ nil)) ◂ (c "Tree" ((v "a") ◂ (v "a") ◂ (v "a") ◂ nil)) ◂ nil)) ◂ (c "Tree" ((c "Tree" ((v "a") ◂ (v "a") ◂ (v "a") ◂ nil)) ◂ (c "Tree" ((v "a") ◂ (v "a") ◂ (v "a") ◂ nil)) ◂ (c "Tree" ((v "a") ◂ (v "a") ◂ (v "a") ◂ nil)) ◂ nil)) ◂ (c "Tree" ((c "Tree" ((v "a") ◂ (v "a") ◂ (v "a") ◂ nil)) ◂ (c "Tree" ((v "a") ◂ (v "a") ◂ (v "a") ◂ nil)) ◂ (c "Tree" ((v "a") ◂ (v "a") ◂ (v "a") ◂ nil)) ◂ nil)) ◂ nil)) ◂ nil)) ◂ nil))) ◂ nil)) ◂ (c "Tree" ((arrow (c "Tree" ((c "Pair" ((c "Tree" ((c "Tree" ((c "Tree" ((v "a") ◂ (v "a") ◂ (v "a") ◂ nil)) ◂ (c "Tree" ((v "a") ◂ (v "a") ◂ (v "a") ◂ nil)) ◂ (c "Tree" ((v "a") ◂ (v "a") ◂ (v "a") ◂ nil)) ◂ nil)) ◂ (c "Tree" ((c "Tree" ((v "a") ◂ (v "a") ◂ (v "a") ◂ nil)) ◂ (c "Tree" ((v "a") ◂ (v "a") ◂ (v "a") ◂ nil)) ◂ (c "Tree" ((v "a") ◂ (v "a") ◂ (v "a") ◂ nil)) ◂ nil)) ◂ (c "Tree" ((c "Tree" ((v "a") ◂ (v "a") ◂ (v "a") ◂ nil)) ◂ (c "Tree" ((v "a") ◂ (v "a") ◂ (v "a") ◂ nil)) ◂ (c "Tree" ((v "a") ◂ (v "a") ◂ (v "a") ◂ nil)) ◂ nil)) ◂ nil)) ◂ (c "Tree" ((c "Tree" ((c "Tree" ((v "a") ◂ (v "a") ◂ (v "a") ◂ nil)) ◂ (c "Tree" ((v "a") ◂ (v "a") ◂ (v "a") ◂ nil)) ◂ (c "Tree" ((v "a") ◂ (v "a") ◂ (v "a") ◂ nil)) ◂ nil)) ◂ (c "Tree" ((c "Tree" ((v "a") ◂ (v "a") ◂ (v "a") ◂ nil)) ◂ (c "Tree" ((v "a") ◂ (v "a") ◂ (v "a") ◂ nil)) ◂ (c "Tree" ((v "a") ◂ (v "a") ◂ (v "a") ◂ nil)) ◂ nil)) ◂ (c "Tree" ((c "Tree" ((v "a") ◂ (v "a") ◂ (v "a") ◂ nil)) ◂ (c "Tree" ((v "a") ◂ (v "a") ◂ (v "a") ◂ nil)) ◂ (c "Tree" ((v "a") ◂ (v "a") ◂ (v "a") ◂ nil)) ◂ nil)) ◂ nil)) ◂ nil)) ◂ (c "Pair" ((c "Tree" ((c "Tree" ((c "Tree" ((v "a") ◂ (v "a") ◂ (v "a") ◂ nil)) ◂ (c "Tree" ((v "a") ◂ (v "a") ◂ (v "a") ◂ nil)) ◂ (c "Tree" ((v "a") ◂ (v "a") ◂ (v "a") ◂ nil)) ◂ nil)) ◂ (c "Tree" ((c "Tree" ((v "a") ◂ (v "a") ◂ (v "a") ◂ nil)) ◂ (c "Tree" ((v "a") ◂ (v "a") ◂ (v "a") ◂ nil)) ◂ (c "Tree" ((v "a") ◂ (v "a") ◂ (v "a") ◂ nil)) ◂ nil)) ◂ (c "Tree" ((c "Tree" ((v "a") ◂ (v "a") ◂ (v "a") ◂ nil)) ◂ (c "Tree" ((v "a") ◂ (v "a") ◂ (v "a") ◂ nil)) ◂ (c "Tree" ((v "a") ◂ (v "a") ◂ (v "a") ◂ nil)) ◂ nil)) ◂ nil)) ◂ (c "Tree" ((c "Tree" ((c "Tree" ((v "a") ◂ (v "a") ◂ (v "a") ◂ nil)) ◂ (c "Tree" ((v "a") ◂ (v "a") ◂ (v "a") ◂ nil)) ◂ (c "Tree" ((v "a") ◂ (v "a") ◂ (v "a") ◂ nil)) ◂ nil)) ◂ (c "Tree" ((c "Tree" ((v "a") ◂ (v "a") ◂ (v "a") ◂ nil)) ◂ (c "Tree" ((v "a") ◂ (v "a") ◂ (v "a") ◂ nil)) ◂ (c "Tree" ((v "a") ◂ (v "a") ◂ (v "a") ◂ nil)) ◂ nil)) ◂ (c "Tree" ((c "Tree" ((v "a") ◂ (v "a") ◂ (v "a") ◂ nil)) ◂ (c "Tree" ((v "a") ◂ (v "a") ◂ (v "a") ◂ nil)) ◂ (c "Tree" ((v "a") ◂ (v "a") ◂ (v "a") ◂ nil)) ◂ nil)) ◂ nil)) ◂ nil)) ◂ (c "Pair" ((c "Tree" ((c "Tree" ((c "Tree" ((v "a") ◂ (v "a") ◂ (v "a") ◂ nil)) ◂ (c "Tree" ((v "a") ◂ (v "a") ◂ (v "a") ◂ nil)) ◂ (c "Tree" ((v "a") ◂ (v "a") ◂ (v "a") ◂ nil)) ◂ nil)) ◂ (c "Tree" ((c "Tree" ((v "a") ◂ (v "a") ◂ (v "a") ◂ nil)) ◂ (c "Tree" ((v "a") ◂ (v "a") ◂ (v "a") ◂ nil)) ◂ (c "Tree" ((v "a") ◂ (v "a") ◂ (v "a") ◂ nil)) ◂ nil)) ◂ (c "Tree" ((c "Tree" ((v "a") ◂ (v "a") ◂ (v "a") ◂ nil)) ◂ (c "Tree" ((v "a") ◂ (v "a") ◂ (v "a") ◂ nil)) ◂ (c "Tree" ((v "a") ◂ (v "a") ◂ (v "a") ◂ nil)) ◂ nil)) ◂ nil)) ◂ (c "Tree" ((c "Tree" ((c "Tree" ((v "a") ◂ (v "a") ◂ (v "a") ◂ nil)) ◂ (c "Tree" ((v "a") ◂ (v "a") ◂ (v "a") ◂ nil)) ◂ (c "Tree" ((v "a") ◂ (v "a") ◂ (v "a") ◂ nil)) ◂ nil)) ◂ (c "Tree" ((c "Tree" ((v "a") ◂ (v "a") ◂ (v "a") ◂ nil)) ◂ (c "Tree" ((v "a") ◂ (v "a") ◂ (v "a") ◂ nil)) ◂ (c "Tree" ((v "a") ◂ (v "a") ◂ (v "a") ◂ nil)) ◂ nil)) ◂ (c "Tree" ((c "Tree" ((v "a") ◂ (v "a") ◂ (v "a") ◂ nil)) ◂ (c "Tree" ((v "a") ◂ (v "a") ◂ (v "a") ◂ nil)) ◂ (c "Tree" ((v "a") ◂ (v "a") ◂ (v "a") ◂ nil)) ◂ nil)) ◂ nil)) ◂ nil)) ◂ nil)) (c "Tree" ((c "Pair" ((c "Tree" ((c "Tree" ((c "Tree" ((v "a") ◂ (v "a") ◂ (v "a") ◂ nil)) ◂ (c "Tree" ((v "a") ◂ (v "a") ◂ (v "a") ◂ nil)) ◂ (c "Tree" ((v "a") ◂ (v "a") ◂ (v "a") ◂ nil)) ◂ nil)) ◂ (c "Tree" ((c "Tree" ((v "a") ◂ (v "a") ◂ (v "a") ◂ nil)) ◂ (c "Tree" ((v "a") ◂ (v "a") ◂ (v "a") ◂ nil)) ◂ (c "Tree" ((v "a") ◂ (v "a") ◂ (v "a") ◂ nil)) ◂ nil)) ◂ (c "Tree" ((c "Tree" ((v "a") ◂ (v "a") ◂ (v "a") ◂ nil)) ◂ (c "Tree" ((v "a") ◂ (v "a") ◂ (v "a") ◂ nil)) ◂ (c "Tree" ((v "a") ◂ (v "a") ◂ (v "a") ◂ nil)) ◂ nil)) ◂ nil)) ◂ (c "Tree" ((c "Tree" ((c "Tree" ((v "a") ◂ (v "a") ◂ (v "a") ◂ nil)) ◂ (c "Tree" ((v "a") ◂ (v "a") ◂ (v "a") ◂ nil)) ◂ (c "Tree" ((v "a") ◂ (v "a") ◂ (v "a") ◂ nil)) ◂ nil)) ◂ (c "Tree" ((c "Tree" ((v "a") ◂ (v "a") ◂ (v "a") ◂ nil)) ◂ (c "Tree" ((v "a") ◂ (v "a") ◂ (v "a") ◂ nil)) ◂ (c "Tree" ((v "a") ◂ (v "a") ◂ (v "a") ◂ nil)) ◂ nil)) ◂ (c "Tree" ((c "Tree" ((v "a") ◂ (v "a") ◂ (v "a") ◂ nil)) ◂ (c "Tree" ((v "a") ◂ (v "a") ◂ (v "a") ◂ nil)) ◂ (c "Tree" ((v "a") ◂ (v "a") ◂ (v "a") ◂ nil)) ◂ nil)) ◂ nil)) ◂ nil)) ◂ (c "Pair" ((c "Tree" ((c "Tree" ((c "Tree" ((v "a") ◂ (v "a") ◂ (v "a") ◂ nil)) ◂ (c "Tree" ((v "a") ◂ (v "a") ◂ (v "a") ◂ nil)) ◂ (c "Tree" ((v "a") ◂ (v "a") ◂ (v "a") ◂ nil)) ◂ nil)) ◂ (c "Tree" ((c "Tree" ((v "a") ◂ (v "a") ◂ (v "a") ◂ nil)) ◂ (c "Tree" ((v "a") ◂ (v "a") ◂ (v "a") ◂ nil)) ◂ (c "Tree" ((v "a") ◂ (v "a") ◂ (v "a") ◂ nil)) ◂ nil)) ◂ (c "Tree" ((c "Tree" ((v "a") ◂ (v "a") ◂ (v "a") ◂ nil)) ◂ (c "Tree" ((v "a") ◂ (v "a") ◂ (v "a") ◂ nil)) ◂ (c "Tree" ((v "a") ◂ (v "a") ◂ (v "a") ◂ nil)) ◂ nil)) ◂ nil)) ◂ (c "Tree" ((c "Tree" ((c "Tree" ((v "a") ◂ (v "a") ◂ (v "a") ◂ nil)) ◂ (c "Tree" ((v "a") ◂ (v "a") ◂ (v "a") ◂ nil)) ◂ (c "Tree" ((v "a") ◂ (v "a") ◂ (v "a") ◂ nil)) ◂ nil)) ◂ (c "Tree" ((c "Tree" ((v "a") ◂ (v "a") ◂ (v "a") ◂ nil)) ◂ (c "Tree" ((v "a") ◂ (v "a") ◂ (v "a") ◂ nil)) ◂ (c "Tree" ((v "a") ◂ (v "a") ◂ (v "a") ◂ nil)) ◂ nil)) ◂ (c "Tree" ((c "Tree" ((v "a") ◂ (v "a") ◂ (v "a") ◂ nil)) ◂ (c "Tree" ((v "a") ◂ (v "a") ◂ (v "a") ◂ nil)) ◂ (c "Tree" ((v "a") ◂ (v "a") ◂ (v "a") ◂ nil)) ◂ nil)) ◂ nil)) ◂ nil)) ◂ (c "Pair" ((c "Tree" ((c "Tree" ((c "Tree" ((v "a") ◂ (v "a") ◂ (v "a") ◂ nil)) ◂ (c "Tree" ((v "a") ◂ (v "a") ◂ (v "a") ◂ nil)) ◂ (c "Tree" ((v "a") ◂ (v "a") ◂ (v "a") ◂ nil)) ◂ nil)) ◂ (c "Tree" ((c "Tree" ((v "a") ◂ (v "a") ◂ (v "a") ◂ nil)) ◂ (c "Tree" ((v "a") ◂ (v "a") ◂ (v "a") ◂ nil)) ◂ (c "Tree" ((v "a") ◂ (v "a") ◂ (v "a") ◂ nil)) ◂ nil)) ◂ (c "Tree" ((c "Tree" ((v "a") ◂ (v "a") ◂ (v "a") ◂ nil)) ◂ (c "Tree" ((v "a") ◂ (v "a") ◂ (v "a") ◂ nil)) ◂ (c "Tree" ((v "a") ◂ (v "a") ◂ (v "a") ◂ nil)) ◂ nil)) ◂ nil)) ◂ (c "Tree" ((c "Tree" ((c "Tree" ((v "a") ◂ (v "a") ◂ (v "a") ◂ nil)) ◂ (c "Tree" ((v "a") ◂ (v "a") ◂ (v "a") ◂ nil)) ◂ (c "Tree" ((v "a") ◂ (v "a") ◂ (v "a") ◂ nil)) ◂ nil)) ◂ (c "Tree" ((c "Tree" ((v "a") ◂ (v "a") ◂ (v "a") ◂ nil)) ◂ (c "Tree" ((v "a") ◂ (v "a") ◂ (v "a") ◂ nil)) ◂ (c "Tree" ((v "a") ◂ (v "a") ◂ (v "a") ◂ nil)) ◂ nil)) ◂ (c "Tree" ((c "Tree" ((v "a") ◂ (v "a") ◂ (v "a") ◂ nil)) ◂ (c "Tree" ((v "a") ◂ (v "a") ◂ (v "a") ◂ nil)) ◂ (c "Tree" ((v "a") ◂ (v "a") ◂ (v "a") ◂ nil)) ◂ nil)) ◂ nil)) ◂ nil)) ◂ nil))) ◂ (arrow (c "Tree" ((c "Pair" ((c "Tree" ((c "Tree" ((c "Tree" ((v "a") ◂ (v "a") ◂ (v "a") ◂ nil)) ◂ (c "Tree" ((v "a") ◂ (v "a") ◂ (v "a") ◂ nil)) ◂ (c "Tree" ((v "a") ◂ (v "a") ◂ (v "a") ◂ nil)) ◂ nil)) ◂ (c "Tree" ((c "Tree" ((v "a") ◂ (v "a") ◂ (v "a") ◂ nil)) ◂ (c "Tree" ((v "a") ◂ (v "a") ◂ (v "a") ◂ nil)) ◂ (c "Tree" ((v "a") ◂ (v "a") ◂ (v "a") ◂ nil)) ◂ nil)) ◂ (c "Tree" ((c "Tree" ((v "a") ◂ (v "a") ◂ (v "a") ◂ nil)) ◂ (c "Tree" ((v "a") ◂ (v "a") ◂ (v "a") ◂ nil)) ◂ (c "Tree" ((v "a") ◂ (v "a") ◂ (v "a") ◂ nil)) ◂ nil)) ◂ nil)) ◂ (c "Tree" ((c "Tree" ((c "Tree" ((v "a") ◂ (v "a") ◂ (v "a") ◂ nil)) ◂ (c "Tree" ((v "a") ◂ (v "a") ◂ (v "a") ◂ nil)) ◂ (c "Tree" ((v "a") ◂ (v "a") ◂ (v "a") ◂ nil)) ◂ nil)) ◂ (c "Tree" ((c "Tree" ((v "a") ◂ (v "a") ◂ (v "a") ◂ nil)) ◂ (c "Tree" ((v "a") ◂ (v "a") ◂ (v "a") ◂ nil)) ◂ (c "Tree" ((v "a") ◂ (v "a") ◂ (v "a") ◂ nil)) ◂ nil)) ◂ (c "Tree" ((c "Tree" ((v "a") ◂ (v "a") ◂ (v "a") ◂ nil)) ◂ (c "Tree" ((v "a") ◂ (v "a") ◂ (v "a") ◂ nil)) ◂ (c "Tree" ((v "a") ◂ (v "a") ◂ (v "a") ◂ nil)) ◂ nil)) ◂ nil)) ◂ nil)) ◂ (c "Pair" ((c "Tree" ((c "Tree" ((c "Tree" ((v "a") ◂ (v "a") ◂ (v "a") ◂ nil)) ◂ (c "Tree" ((v "a") ◂ (v "a") ◂ (v "a") ◂ nil)) ◂ (c "Tree" ((v "a") ◂ (v "a") ◂ (v "a") ◂ nil)) ◂ nil)) ◂ (c "Tree" ((c "Tree" ((v "a") ◂ (v "a") ◂ (v "a") ◂ nil)) ◂ (c "Tree" ((v "a") ◂ (v "a") ◂ (v "a") ◂ nil)) ◂ (c "Tree" ((v "a") ◂ (v "a") ◂ (v "a") ◂ nil)) ◂ nil)) ◂ (c "Tree" ((c "Tree" ((v "a") ◂ (v "a") ◂ (v "a") ◂ nil)) ◂ (c "Tree" ((v "a") ◂ (v "a") ◂ (v "a") ◂ nil)) ◂ (c "Tree" ((v "a") ◂ (v "a") ◂ (v "a") ◂ nil)) ◂ nil)) ◂ nil)) ◂ (c "Tree" ((c "Tree" ((c "Tree" ((v "a") ◂ (v "a") ◂ (v "a") ◂ nil)) ◂ (c "Tree" ((v "a") ◂ (v "a") ◂ (v "a") ◂ nil)) ◂ (c "Tree" ((v "a") ◂ (v "a") ◂ (v "a") ◂ nil)) ◂ nil)) ◂ (c "Tree" ((c "Tree" ((v "a") ◂ (v "a") ◂ (v "a") ◂ nil)) ◂ (c "Tree" ((v "a") ◂ (v "a") ◂ (v "a") ◂ nil)) ◂ (c "Tree" ((v "a") ◂ (v "a") ◂ (v "a") ◂ nil)) ◂ nil)) ◂ (c "Tree" ((c "Tree" ((v "a") ◂ (v "a") ◂ (v "a") ◂ nil)) ◂ (c "Tree" ((v "a") ◂ (v "a") ◂ (v "a") ◂ nil)) ◂ (c "Tree" ((v "a") ◂ (v "a") ◂ (v "a") ◂ nil)) ◂ nil)) ◂ nil)) ◂ nil)) ◂ (c "Pair" ((c "Tree" ((c "Tree" ((c "Tree" ((v "a") ◂ (v "a") ◂ (v "a") ◂ nil)) ◂ (c "Tree" ((v "a") ◂ (v "a") ◂ (v "a") ◂ nil)) ◂ (c "Tree" ((v "a") ◂ (v "a") ◂ (v "a") ◂ nil)) ◂ nil)) ◂ (c "Tree" ((c "Tree" ((v "a") ◂ (v "a") ◂ (v "a") ◂ nil)) ◂ (c "Tree" ((v "a") ◂ (v "a") ◂ (v "a") ◂ nil)) ◂ (c "Tree" ((v "a") ◂ (v "a") ◂ (v "a") ◂ nil)) ◂ nil)) ◂ (c "Tree" ((c "Tree" ((v "a") ◂ (v "a") ◂ (v "a") ◂ nil)) ◂ (c "Tree" ((v "a") ◂ (v "a") ◂ (v "a") ◂ nil)) ◂ (c "Tree" ((v "a") ◂ (v "a") ◂ (v "a") ◂ nil)) ◂ nil)) ◂ nil)) ◂ (c "Tree" ((c "Tree" ((c "Tree" ((v "a") ◂ (v "a") ◂ (v "a") ◂ nil)) ◂ (c "Tree" ((v "a") ◂ (v "a") ◂ (v "a") ◂ nil)) ◂ (c "Tree" ((v "a") ◂ (v "a") ◂ (v "a") ◂ nil)) ◂ nil)) ◂ (c "Tree" ((c "Tree" ((v "a") ◂ (v "a") ◂ (v "a") ◂ nil)) ◂ (c "Tree" ((v "a") ◂ (v "a") ◂ (v "a") ◂ nil)) ◂ (c "Tree" ((v "a") ◂ (v "a") ◂ (v "a") ◂ nil)) ◂ nil)) ◂ (c "Tree" ((c "Tree" ((v "a") ◂ (v "a") ◂ (v "a") ◂ nil)) ◂ (c "Tree" ((v "a") ◂ (v "a") ◂ (v "a") ◂ nil)) ◂ (c "Tree" ((v "a") ◂ (v "a") ◂ (v "a") ◂ nil)) ◂ nil)) ◂ nil)) ◂ nil)) ◂ nil)) (c "Tree" ((c "Pair" ((c "Tree" ((c "Tree" ((c "Tree" ((v "a") ◂ (v "a") ◂ (v "a") ◂ nil)) ◂ (c "Tree" ((v "a") ◂ (v "a") ◂ (v "a") ◂ nil)) ◂ (c "Tree" ((v "a") ◂ (v "a") ◂ (v "a") ◂ nil)) ◂ nil)) ◂ (c "Tree" ((c "Tree" ((v "a") ◂ (v "a") ◂ (v "a") ◂ nil)) ◂ (c "Tree" ((v "a") ◂ (v "a") ◂ (v "a") ◂ nil)) ◂ (c "Tree" ((v "a") ◂ (v "a") ◂ (v "a") ◂ nil)) ◂ nil)) ◂ (c "Tree" ((c "Tree" ((v "a") ◂ (v "a") ◂ (v "a") ◂ nil)) ◂ (c "Tree" ((v "a") ◂ (v "a") ◂ (v "a") ◂ nil)) ◂ (c "Tree" ((v "a") ◂ (v "a") ◂ (v "a") ◂ nil)) ◂ nil)) ◂ nil)) ◂ (c "Tree" ((c "Tree" ((c "Tree" ((v "a") ◂ (v "a") ◂ (v "a") ◂ nil)) ◂ (c "Tree" ((v "a") ◂ (v "a") ◂ (v "a") ◂ nil)) ◂ (c "Tree" ((v "a") ◂ (v "a") ◂ (v "a") ◂ nil)) ◂ nil)) ◂ (c "Tree" ((c "Tree" ((v "a") ◂ (v "a") ◂ (v "a") ◂ nil)) ◂ (c "Tree" ((v "a") ◂ (v "a") ◂ (v "a") ◂ nil)) ◂ (c "Tree" ((v "a") ◂ (v "a") ◂ (v "a") ◂ nil)) ◂ nil)) ◂ (c "Tree" ((c "Tree" ((v "a") ◂ (v "a") ◂ (v "a") ◂ nil)) ◂ (c "Tree" ((v "a") ◂ (v "a") ◂ (v "a") ◂ nil)) ◂ (c "Tree" ((v "a") ◂ (v "a") ◂ (v "a") ◂ nil)) ◂ nil)) ◂ nil)) ◂ nil)) ◂ (c "Pair" ((c "Tree" ((c "Tree" ((c "Tree" ((v "a") ◂ (v "a") ◂ (v "a") ◂ nil)) ◂ (c "Tree" ((v "a") ◂ (v "a") ◂ (v "a") ◂ nil)) ◂ (c "Tree" ((v "a") ◂ (v "a") ◂ (v "a") ◂ nil)) ◂ nil)) ◂ (c "Tree" ((c "Tree" ((v "a") ◂ (v "a") ◂ (v "a") ◂ nil)) ◂ (c "Tree" ((v "a") ◂ (v "a") ◂ (v "a") ◂ nil)) ◂ (c "Tree" ((v "a") ◂ (v "a") ◂ (v "a") ◂ nil)) ◂ nil)) ◂ (c "Tree" ((c "Tree" ((v "a") ◂ (v "a") ◂ (v "a") ◂ nil)) ◂ (c "Tree" ((v "a") ◂ (v "a") ◂ (v "a") ◂ nil)) ◂ (c "Tree" ((v "a") ◂ (v "a") ◂ (v "a") ◂ nil)) ◂ nil)) ◂ nil)) ◂ (c "Tree" ((c "Tree" ((c "Tree" ((v "a") ◂ (v "a") ◂ (v "a") ◂ nil)) ◂ (c "Tree" ((v "a") ◂ (v "a") ◂ (v "a") ◂ nil)) ◂ (c "Tree" ((v "a") ◂ (v "a") ◂ (v "a") ◂ nil)) ◂ nil)) ◂ (c "Tree" ((c "Tree" ((v "a") ◂ (v "a") ◂ (v "a") ◂ nil)) ◂ (c "Tree" ((v "a") ◂ (v "a") ◂ (v "a") ◂ nil)) ◂ (c "Tree" ((v "a") ◂ (v "a") ◂ (v "a") ◂ nil)) ◂ nil)) ◂ (c "Tree" ((c "Tree" ((v "a") ◂ (v "a") ◂ (v "a") ◂ nil)) ◂ (c "Tree" ((v "a") ◂ (v "a") ◂ (v "a") ◂ nil)) ◂ (c "Tree" ((v "a") ◂ (v "a") ◂ (v "a") ◂ nil)) ◂ nil)) ◂ nil)) ◂ nil)) ◂ (c "Pair" ((c "Tree" ((c "Tree" ((c "Tree" ((v "a") ◂ (v "a") ◂ (v "a") ◂ nil)) ◂ (c "Tree" ((v "a") ◂ (v "a") ◂ (v "a") ◂ nil)) ◂ (c "Tree" ((v "a") ◂ (v "a") ◂ (v "a") ◂ nil)) ◂ nil)) ◂ (c "Tree" ((c "Tree" ((v "a") ◂ (v "a") ◂ (v "a") ◂ nil)) ◂ (c "Tree" ((v "a") ◂ (v "a") ◂ (v "a") ◂ nil)) ◂ (c "Tree" ((v "a") ◂ (v "a") ◂ (v "a") ◂ nil)) ◂ nil)) ◂ (c "Tree" ((c "Tree" ((v "a") ◂ (v "a") ◂ (v "a") ◂ nil)) ◂ (c "Tree" ((v "a") ◂ (v "a") ◂ (v "a") ◂ nil)) ◂ (c "Tree" ((v "a") ◂ (v "a") ◂ (v "a") ◂ nil)) ◂ nil)) ◂ nil)) ◂ (c "Tree" ((c "Tree" ((c "Tree" ((v "a") ◂ (v "a") ◂ (v "a") ◂ nil)) ◂ (c "Tree" ((v "a") ◂ (v "a") ◂ (v "a") ◂ nil)) ◂ (c "Tree" ((v "a") ◂ (v "a") ◂ (v "a") ◂ nil)) ◂ nil)) ◂ (c "Tree" ((c "Tree" ((v "a") ◂ (v "a") ◂ (v "a") ◂ nil)) ◂ (c "Tree" ((v "a") ◂ (v "a") ◂ (v "a") ◂ nil)) ◂ (c "Tree" ((v "a") ◂ (v "a") ◂ (v "a") ◂ nil)) ◂ nil)) ◂ (c "Tree" ((c "Tree" ((v "a") ◂ (v "a") ◂ (v "a") ◂ nil)) ◂ (c "Tree" ((v "a") ◂ (v "a") ◂ (v "a") ◂ nil)) ◂ (c "Tree" ((v "a") ◂ (v "a") ◂ (v "a") ◂ nil)) ◂ nil)) ◂ nil)) ◂ nil)) ◂ nil))) ◂ (arrow (c "Tree" ((c "Pair" ((c "Tree" ((c "Tree" ((c "Tree" ((v "a") ◂ (v "a") ◂ (v "a") ◂ nil)) ◂ (c "Tree" ((v "a") ◂ (v "a") ◂ (v "a") ◂ nil)) ◂ (c "Tree" ((v "a") ◂ (v "a") ◂ (v "a") ◂ nil)) ◂ nil)) ◂ (c "Tree" ((c "Tree" ((v "a") ◂ (v "a") ◂ (v "a") ◂ nil)) ◂ (c "Tree" ((v "a") ◂ (v "a") ◂ (v "a") ◂ nil)) ◂ (c "Tree" ((v "a") ◂ (v "a") ◂ (v "a") ◂ nil)) ◂ nil)) ◂ (c "Tree" ((c "Tree" ((v "a") ◂ (v "a") ◂ (v "a") ◂ nil)) ◂ (c "Tree" ((v "a") ◂ (v "a") ◂ (v "a") ◂ nil)) ◂ (c "Tree" ((v "a") ◂ (v "a") ◂ (v "a") ◂ nil)) ◂ nil)) ◂ nil)) ◂ (c "Tree" ((c "Tree" ((c "Tree" ((v "a") ◂ (v "a") ◂ (v "a") ◂ nil)) ◂ (c "Tree" ((v "a") ◂ (v "a") ◂ (v "a") ◂ nil)) ◂ (c "Tree" ((v "a") ◂ (v "a") ◂ (v "a") ◂ nil)) ◂ nil)) ◂ (c "Tree" ((c "Tree" ((v "a") ◂ (v "a") ◂ (v "a") ◂ nil)) ◂ (c "Tree" ((v "a") ◂ (v "a") ◂ (v "a") ◂ nil)) ◂ (c "Tree" ((v "a") ◂ (v "a") ◂ (v "a") ◂ nil)) ◂ nil)) ◂ (c "Tree" ((c "Tree" ((v "a") ◂ (v "a") ◂ (v "a") ◂ nil)) ◂ (c "Tree" ((v "a") ◂ (v "a") ◂ (v "a") ◂ nil)) ◂ (c "Tree" ((v "a") ◂ (v "a") ◂ (v "a") ◂ nil)) ◂ nil)) ◂ nil)) ◂ nil)) ◂ (c "Pair" ((c "Tree" ((c "Tree" ((c "Tree" ((v "a") ◂ (v "a") ◂ (v "a") ◂ nil)) ◂ (c "Tree" ((v "a") ◂ (v "a") ◂ (v "a") ◂ nil)) ◂ (c "Tree" ((v "a") ◂ (v "a") ◂ (v "a") ◂ nil)) ◂ nil)) ◂ (c "Tree" ((c "Tree" ((v "a") ◂ (v "a") ◂ (v "a") ◂ nil)) ◂ (c "Tree" ((v "a") ◂ (v "a") ◂ (v "a") ◂ nil)) ◂ (c "Tree" ((v "a") ◂ (v "a") ◂ (v "a") ◂ nil)) ◂ nil)) ◂ (c "Tree" ((c "Tree" ((v "a") ◂ (v "a") ◂ (v "a") ◂ nil)) ◂ (c "Tree" ((v "a") ◂ (v "a") ◂ (v "a") ◂ nil)) ◂ (c "Tree" ((v "a") ◂ (v "a") ◂ (v "a") ◂ nil)) ◂ nil)) ◂ nil)) ◂ (c "Tree" ((c "Tree" ((c "Tree" ((v "a") ◂ (v "a") ◂ (v "a") ◂ nil)) ◂ (c "Tree" ((v "a") ◂ (v "a") ◂ (v "a") ◂ nil)) ◂ (c "Tree" ((v "a") ◂ (v "a") ◂ (v "a") ◂ nil)) ◂ nil)) ◂ (c "Tree" ((c "Tree" ((v "a") ◂ (v "a") ◂ (v "a") ◂ nil)) ◂ (c "Tree" ((v "a") ◂ (v "a") ◂ (v "a") ◂ nil)) ◂ (c "Tree" ((v "a") ◂ (v "a") ◂ (v "a") ◂ nil)) ◂ nil)) ◂ (c "Tree" ((c "Tree" ((v "a") ◂ (v "a") ◂ (v "a") ◂ nil)) ◂ (c "Tree" ((v "a") ◂ (v "a") ◂ (v "a") ◂ nil)) ◂ (c "Tree" ((v "a") ◂ (v "a") ◂ (v "a") ◂ nil)) ◂ nil)) ◂ nil)) ◂ nil)) ◂ (c "Pair" ((c "Tree" ((c "Tree" ((c "Tree" ((v "a") ◂ (v "a") ◂ (v "a") ◂ nil)) ◂ (c "Tree" ((v "a") ◂ (v "a") ◂ (v "a") ◂ nil)) ◂ (c "Tree" ((v "a") ◂ (v "a") ◂ (v "a") ◂ nil)) ◂ nil)) ◂ (c "Tree" ((c "Tree" ((v "a") ◂ (v "a") ◂ (v "a") ◂ nil)) ◂ (c "Tree" ((v "a") ◂ (v "a") ◂ (v "a") ◂ nil)) ◂ (c "Tree" ((v "a") ◂ (v "a") ◂ (v "a") ◂ nil)) ◂ nil)) ◂ (c "Tree" ((c "Tree" ((v "a") ◂ (v "a") ◂ (v "a") ◂ nil)) ◂ (c "Tree" ((v "a") ◂ (v "a") ◂ (v "a") ◂ nil)) ◂ (c "Tree" ((v "a") ◂ (v "a") ◂ (v "a") ◂ nil)) ◂ nil)) ◂ nil)) ◂ (c "Tree" ((c "Tree" ((c "Tree" ((v "a") ◂ (v "a") ◂ (v "a") ◂ nil)) ◂ (c "Tree" ((v "a") ◂ (v "a") ◂ (v "a") ◂ nil)) ◂ (c "Tree" ((v "a") ◂ (v "a") ◂ (v "a") ◂ nil)) ◂ nil)) ◂ (c "Tree" ((c "Tree" ((v "a") ◂ (v "a") ◂ (v "a") ◂ nil)) ◂ (c "Tree" ((v "a") ◂ (v "a") ◂ (v "a") ◂ nil)) ◂ (c "Tree" ((v "a") ◂ (v "a") ◂ (v "a") ◂ nil)) ◂ nil)) ◂ (c "Tree" ((c "Tree" ((v "a") ◂ (v "a") ◂ (v "a") ◂ nil)) ◂ (c "Tree" ((v "a") ◂ (v "a") ◂ (v "a") ◂ nil)) ◂ (c "Tree" ((v "a") ◂ (v "a") ◂ (v "a") ◂ nil)) ◂ nil)) ◂ nil)) ◂ nil)) ◂ nil)) (c "Tree" ((c "Pair" ((c "Tree" ((c "Tree" ((c "Tree" ((v "a") ◂ (v "a") ◂ (v "a") ◂ nil)) ◂ (c "Tree" ((v "a") ◂ (v "a") ◂ (v "a") ◂ nil)) ◂ (c "Tree" ((v "a") ◂ (v "a") ◂ (v "a") ◂ nil)) ◂ nil)) ◂ (c "Tree" ((c "Tree" ((v "a") ◂ (v "a") ◂ (v "a") ◂ nil)) ◂ (c "Tree" ((v "a") ◂ (v "a") ◂ (v "a") ◂ nil)) ◂ (c "Tree" ((v "a") ◂ (v "a") ◂ (v "a") ◂ nil)) ◂ nil)) ◂ (c "Tree" ((c "Tree" ((v "a") ◂ (v "a") ◂ (v "a") ◂ nil)) ◂ (c "Tree" ((v "a") ◂ (v "a") ◂ (v "a") ◂ nil)) ◂ (c "Tree" ((v "a") ◂ (v "a") ◂ (v "a") ◂ nil)) ◂ nil)) ◂ nil)) ◂ (c "Tree" ((c "Tree" ((c "Tree" ((v "a") ◂ (v "a") ◂ (v "a") ◂ nil)) ◂ (c "Tree" ((v "a") ◂ (v "a") ◂ (v "a") ◂ nil)) ◂ (c "Tree" ((v "a") ◂ (v "a") ◂ (v "a") ◂ nil)) ◂ nil)) ◂ (c "Tree" ((c "Tree" ((v "a") ◂ (v "a") ◂ (v "a") ◂ nil)) ◂ (c "Tree" ((v "a") ◂ (v "a") ◂ (v "a") ◂ nil)) ◂ (c "Tree" ((v "a") ◂ (v "a") ◂ (v "a") ◂ nil)) ◂ nil)) ◂ (c "Tree" ((c "Tree" ((v "a") ◂ (v "a") ◂ (v "a") ◂ nil)) ◂ (c "Tree" ((v "a") ◂ (v "a") ◂ (v "a") ◂ nil)) ◂ (c "Tree" ((v "a") ◂ (v "a") ◂ (v "a") ◂ nil)) ◂ nil)) ◂ nil)) ◂ nil)) ◂ (c "Pair" ((c "Tree" ((c "Tree" ((c "Tree" ((v "a") ◂ (v "a") ◂ (v "a") ◂ nil)) ◂ (c "Tree" ((v "a") ◂ (v "a") ◂ (v "a") ◂ nil)) ◂ (c "Tree" ((v "a") ◂ (v "a") ◂ (v "a") ◂ nil)) ◂ nil)) ◂ (c "Tree" ((c "Tree" ((v "a") ◂ (v "a") ◂ (v "a") ◂ nil)) ◂ (c "Tree" ((v "a") ◂ (v "a") ◂ (v "a") ◂ nil)) ◂ (c "Tree" ((v "a") ◂ (v "a") ◂ (v "a") ◂ nil)) ◂ nil)) ◂ (c "Tree" ((c "Tree" ((v "a") ◂ (v "a") ◂ (v "a") ◂ nil)) ◂ (c "Tree" ((v "a") ◂ (v "a") ◂ (v "a") ◂ nil)) ◂ (c "Tree" ((v "a") ◂ (v "a") ◂ (v "a") ◂ nil)) ◂ nil)) ◂ nil)) ◂ (c "Tree" ((c "Tree" ((c "Tree" ((v "a") ◂ (v "a") ◂ (v "a") ◂ nil)) ◂ (c "Tree" ((v "a") ◂ (v "a") ◂ (v "a") ◂ nil)) ◂ (c "Tree" ((v "a") ◂ (v "a") ◂ (v "a") ◂ nil)) ◂ nil)) ◂ (c "Tree" ((c "Tree" ((v "a") ◂ (v "a") ◂ (v "a") ◂ nil)) ◂ (c "Tree" ((v "a") ◂ (v "a") ◂ (v "a") ◂ nil)) ◂ (c "Tree" ((v "a") ◂ (v "a") ◂ (v "a") ◂ nil)) ◂ nil)) ◂ (c "Tree" ((c "Tree" ((v "a") ◂ (v "a") ◂ (v "a") ◂ nil)) ◂ (c "Tree" ((v "a") ◂ (v "a") ◂ (v "a") ◂ nil)) ◂ (c "Tree" ((v "a") ◂ (v "a") ◂ (v "a") ◂ nil)) ◂ nil)) ◂ nil)) ◂ nil)) ◂ (c "Pair" ((c "Tree" ((c "Tree" ((c "Tree" ((v "a") ◂ (v "a") ◂ (v "a") ◂ nil)) ◂ (c "Tree" ((v "a") ◂ (v "a") ◂ (v "a") ◂ nil)) ◂ (c "Tree" ((v "a") ◂ (v "a") ◂ (v "a") ◂ nil)) ◂ nil)) ◂ (c "Tree" ((c "Tree" ((v "a") ◂ (v "a") ◂ (v "a") ◂ nil)) ◂ (c "Tree" ((v "a") ◂ (v "a") ◂ (v "a") ◂ nil)) ◂ (c "Tree" ((v "a") ◂ (v "a") ◂ (v "a") ◂ nil)) ◂ nil)) ◂ (c "Tree" ((c "Tree" ((v "a") ◂ (v "a") ◂ (v "a") ◂ nil)) ◂ (c "Tree" ((v "a") ◂ (v "a") ◂ (v "a") ◂ nil)) ◂ (c "Tree" ((v "a") ◂ (v "a") ◂ (v "a") ◂ nil)) ◂ nil)) ◂ nil)) ◂ (c "Tree" ((c "Tree" ((c "Tree" ((v "a") ◂ (v "a") ◂ (v "a") ◂ nil)) ◂ (c "Tree" ((v "a") ◂ (v "a") ◂ (v "a") ◂ nil)) ◂ (c "Tree" ((v "a") ◂ (v "a") ◂ (v "a") ◂ nil)) ◂ nil)) ◂ (c "Tree" ((c "Tree" ((v "a") ◂ (v "a") ◂ (v "a") ◂ nil)) ◂ (c "Tree" ((v "a") ◂ (v "a") ◂ (v "a") ◂ nil)) ◂ (c "Tree" ((v "a") ◂ (v "a") ◂ (v "a") ◂ nil)) ◂ nil)) ◂ (c "Tree" ((c "Tree" ((v "a") ◂ (v "a") ◂ (v "a") ◂ nil)) ◂ (c "Tree" ((v "a") ◂ (v "a") ◂ (v "a") ◂ nil)) ◂ (c "Tree" ((v "a") ◂ (v "a") ◂ (v "a") ◂ nil)) ◂ nil)) ◂ nil)) ◂ nil)) ◂ nil))) ◂ nil)) ◂ nil)) ◂ nil))) ∷ []) (body "big" (lam "x" (ev "x")) ∷ [])
    ∷ instance (at "Big" (v "a") ∷ []) "Big" (c "Tree" ((c "Pair" ((c "Tree" ((arrow (c "Tree" ((c "Pair" ((c "Tree" ((c "Tree" ((c "Tree" ((v "a") ◂ (v "a") ◂ (v "a") ◂ nil)) ◂ (c "Tree" ((v "a") ◂ (v "a") ◂ (v "a") ◂ nil)) ◂ (c "Tree" ((v "a") ◂ (v "a") ◂ (v "a") ◂ nil)) ◂ nil)) ◂ (c "Tree" ((c "Tree" ((v "a") ◂ (v "a") ◂ (v "a") ◂ nil)) ◂ (c "Tree" ((v "a") ◂ (v "a") ◂ (v "a") ◂ nil)) ◂ (c "Tree" ((v "a") ◂ (v "a") ◂ (v "a") ◂ nil)) ◂ nil)) ◂ (c "Tree" ((c "Tree" ((v "a") ◂ (v "a") ◂ (v "a") ◂ nil)) ◂ (c "Tree" ((v "a") ◂ (v "a") ◂ (v "a") ◂ nil)) ◂ (c "Tree" ((v "a") ◂ (v "a") ◂ (v "a") ◂ nil)) ◂ nil)) ◂ nil)) ◂ (c "Tree" ((c "Tree" ((c "Tree" ((v "a") ◂ (v "a") ◂ (v "a") ◂ nil)) ◂ (c "Tree" ((v "a") ◂ (v "a") ◂ (v "a") ◂ nil)) ◂ (c "Tree" ((v "a") ◂ (v "a") ◂ (v "a") ◂ nil)) ◂ nil)) ◂ (c "Tree" ((c "Tree" ((v "a") ◂ (v "a") ◂ (v "a") ◂ nil)) ◂ (c "Tree" ((v "a") ◂ (v "a") ◂ (v "a") ◂ nil)) ◂ (c "Tree" ((v "a") ◂ (v "a") ◂ (v "a") ◂ nil)) ◂ nil)) ◂ (c "Tree" ((c "Tree" ((v "a") ◂ (v "a") ◂ (v "a") ◂ nil)) ◂ (c "Tree" ((v "a") ◂ (v "a") ◂ (v "a") ◂ nil)) ◂ (c "Tree" ((v "a") ◂ (v "a") ◂ (v "a") ◂ nil)) ◂ nil)) ◂ nil)) ◂ nil)) ◂ (c "Pair" ((c "Tree" ((c "Tree" ((c "Tree" ((v "a") ◂ (v "a") ◂ (v "a") ◂ nil)) ◂ (c "Tree" ((v "a") ◂ (v "a") ◂ (v "a") ◂ nil)) ◂ (c "Tree" ((v "a") ◂ (v "a") ◂ (v "a") ◂ nil)) ◂ nil)) ◂ (c "Tree" ((c "Tree" ((v "a") ◂ (v "a") ◂ (v "a") ◂ nil)) ◂ (c "Tree" ((v "a") ◂ (v "a") ◂ (v "a") ◂ nil)) ◂ (c "Tree" ((v "a") ◂ (v "a") ◂ (v "a") ◂ nil)) ◂ nil)) ◂ (c "Tree" ((c "Tree" ((v "a") ◂ (v "a") ◂ (v "a") ◂ nil)) ◂ (c "Tree" ((v "a") ◂ (v "a") ◂ (v "a") ◂ nil)) ◂ (c "Tree" ((v "a") ◂ (v "a") ◂ (v "a") ◂ nil)) ◂ nil)) ◂ nil)) ◂ (c "Tree" ((c "Tree" ((c "Tree" ((v "a") ◂ (v "a") ◂ (v "a") ◂ nil)) ◂ (c "Tree" ((v "a") ◂ (v "a") ◂ (v "a") ◂ nil)) ◂ (c "Tree" ((v "a") ◂ (v "a") ◂ (v "a") ◂ nil)) ◂ nil)) ◂ (c "Tree" ((c "Tree" ((v "a") ◂ (v "a") ◂ (v "a") ◂ nil)) ◂ (c "Tree" ((v "a") ◂ (v "a") ◂ (v "a") ◂ nil)) ◂ (c "Tree" ((v "a") ◂ (v "a") ◂ (v "a") ◂ nil)) ◂ nil)) ◂ (c "Tree" ((c "Tree" ((v "a") ◂ (v "a") ◂ (v "a") ◂ nil)) ◂ (c "Tree" ((v "a") ◂ (v "a") ◂ (v "a") ◂ nil)) ◂ (c "Tree" ((v "a") ◂ (v "a") ◂ (v "a") ◂ nil)) ◂ nil)) ◂ nil)) ◂ nil)) ◂ (c "Pair" ((c "Tree" ((c "Tree" ((c "Tree" ((v "a") ◂ (v "a") ◂ (v "a") ◂ nil)) ◂ (c "Tree" ((v "a") ◂ (v "a") ◂ (v "a") ◂ nil)) ◂ (c "Tree" ((v "a") ◂ (v "a") ◂ (v "a") ◂ nil)) ◂ nil)) ◂ (c "Tree" ((c "Tree" ((v "a") ◂ (v "a") ◂ (v "a") ◂ nil)) ◂ (c "Tree" ((v "a") ◂ (v "a") ◂ (v "a") ◂ nil)) ◂ (c "Tree" ((v "a") ◂ (v "a") ◂ (v "a") ◂ nil)) ◂ nil)) ◂ (c "Tree" ((c "Tree" ((v "a") ◂ (v "a") ◂ (v "a") ◂ nil)) ◂ (c "Tree" ((v "a") ◂ (v "a") ◂ (v "a") ◂ nil)) ◂ (c "Tree" ((v "a") ◂ (v "a") ◂ (v "a") ◂ nil)) ◂ nil)) ◂ nil)) ◂ (c "Tree" ((c "Tree" ((c "Tree" ((v "a") ◂ (v "a") ◂ (v "a") ◂ nil)) ◂ (c "Tree" ((v "a") ◂ (v "a") ◂ (v "a") ◂ nil)) ◂ (c "Tree" ((v "a") ◂ (v "a") ◂ (v "a") ◂ nil)) ◂ nil)) ◂ (c "Tree" ((c "Tree" ((v "a") ◂ (v "a") ◂ (v "a") ◂ nil)) ◂ (c "Tree" ((v "a") ◂ (v "a") ◂ (v "a") ◂ nil)) ◂ (c "Tree" ((v "a") ◂ (v "a") ◂ (v "a") ◂ nil)) ◂ nil)) ◂ (c "Tree" ((c "Tree" ((v "a") ◂ (v "a") ◂ (v "a") ◂ nil)) ◂ (c "Tree" ((v "a") ◂ (v "a") ◂ (v "a") ◂ nil)) ◂ (c "Tree" ((v "a") ◂ (v "a") ◂ (v "a") ◂ nil)) ◂ nil)) ◂ nil)) ◂ nil)) ◂ nil)) (c "Tree" ((c "Pair" ((c "Tree" ((c "Tree" ((c "Tree" ((v "a") ◂ (v "a") ◂ (v "a") ◂ nil)) ◂ (c "Tree" ((v "a") ◂ (v "a") ◂ (v "a") ◂ nil)) ◂ (c "Tree" ((v "a") ◂ (v "a") ◂ (v "a") ◂ nil)) ◂ nil)) ◂ (c "Tree" ((c "Tree" ((v "a") ◂ (v "a") ◂ (v "a") ◂ nil)) ◂ (c "Tree" ((v "a") ◂ (v "a") ◂ (v "a") ◂ nil)) ◂ (c "Tree" ((v "a") ◂ (v "a") ◂ (v "a") ◂ nil)) ◂ nil)) ◂ (c "Tree" ((c "Tree" ((v "a") ◂ (v "a") ◂ (v "a") ◂ nil)) ◂ (c "Tree" ((v "a") ◂ (v "a") ◂ (v "a") ◂ nil)) ◂ (c "Tree" ((v "a") ◂ (v "a") ◂ (v "a") ◂ nil)) ◂ nil)) ◂ nil)) ◂ (c "Tree" ((c "Tree" ((c "Tree" ((v "a") ◂ (v "a") ◂ (v "a") ◂ nil)) ◂ (c "Tree" ((v "a") ◂ (v "a") ◂ (v "a") ◂ nil)) ◂ (c "Tree" ((v "a") ◂ (v "a") ◂ (v "a") ◂ nil)) ◂ nil)) ◂ (c "Tree" ((c "Tree" ((v "a") ◂ (v "a") ◂ (v "a") ◂ nil)) ◂ (c "Tree" ((v "a") ◂ (v "a") ◂ (v "a") ◂ nil)) ◂ (c "Tree" ((v "a") ◂ (v "a") ◂ (v "a") ◂ nil)) ◂ nil)) ◂ (c "Tree" ((c "Tree" ((v "a") ◂ (v "a") ◂ (v "a") ◂ nil)) ◂ (c "Tree" ((v "a") ◂ (v "a") ◂ (v "a") ◂ nil)) ◂ (c "Tree" ((v "a") ◂ (v "a") ◂ (v "a") ◂ nil)) ◂ nil)) ◂ nil)) ◂ nil)) ◂ (c "Pair" ((c "Tree" ((c "Tree" ((c "Tree" ((v "a") ◂ (v "a") ◂ (v "a") ◂ nil)) ◂ (c "Tree" ((v "a") ◂ (v "a") ◂ (v "a") ◂ nil)) ◂ (c "Tree" ((v "a") ◂ (v "a") ◂ (v "a") ◂ nil)) ◂ nil)) ◂ (c "Tree" ((c "Tree" ((v "a") ◂ (v "a") ◂ (v "a") ◂ nil)) ◂ (c "Tree" ((v "a") ◂ (v "a") ◂ (v "a") ◂ nil)) ◂ (c "Tree" ((v "a") ◂ (v "a") ◂ (v "a") ◂ nil)) ◂ nil)) ◂ (c "Tree" ((c "Tree" ((v "a") ◂ (v "a") ◂ (v "a") ◂ nil)) ◂ (c "Tree" ((v "a") ◂ (v "a") ◂ (v "a") ◂ nil)) ◂ (c "Tree" ((v "a") ◂ (v "a") ◂ (v "a") ◂ nil)) ◂ nil)) ◂ nil)) ◂ (c "Tree" ((c "Tree" ((c "Tree" ((v "a") ◂ (v "a") ◂ (v "a") ◂ nil)) ◂ (c "Tree" ((v "a") ◂ (v "a") ◂ (v "a") ◂ nil)) ◂ (c "Tree" ((v "a") ◂ (v "a") ◂ (v "a") ◂ nil)) ◂ nil)) ◂ (c "Tree" ((c "Tree" ((v "a") ◂ (v "a") ◂ (v "a") ◂ nil)) ◂ (c "Tree" ((v "a") ◂ (v "a") ◂ (v "a") ◂ nil)) ◂ (c "Tree" ((v "a") ◂ (v "a") ◂ (v "a") ◂ nil)) ◂ nil)) ◂ (c "Tree" ((c "Tree" ((v "a") ◂ (v "a") ◂ (v "a") ◂ nil)) ◂ (c "Tree" ((v "a") ◂ (v "a") ◂ (v "a") ◂ nil)) ◂ (c "Tree" ((v "a") ◂ (v "a") ◂ (v "a") ◂ nil)) ◂ nil)) ◂ nil)) ◂ nil)) ◂ (c "Pair" ((c "Tree" ((c "Tree" ((c "Tree" ((v "a") ◂ (v "a") ◂ (v "a") ◂ nil)) ◂ (c "Tree" ((v "a") ◂ (v "a") ◂ (v "a") ◂ nil)) ◂ (c "Tree" ((v "a") ◂ (v "a") ◂ (v "a") ◂ nil)) ◂ nil)) ◂ (c "Tree" ((c "Tree" ((v "a") ◂ (v "a") ◂ (v "a") ◂ nil)) ◂ (c "Tree" ((v "a") ◂ (v "a") ◂ (v "a") ◂ nil)) ◂ (c "Tree" ((v "a") ◂ (v "a") ◂ (v "a") ◂ nil)) ◂ nil)) ◂ (c "Tree" ((c "Tree" ((v "a") ◂ (v "a") ◂ (v "a") ◂ nil)) ◂ (c "Tree" ((v "a") ◂ (v "a") ◂ (v "a") ◂ nil)) ◂ (c "Tree" ((v "a") ◂ (v "a") ◂ (v "a") ◂ nil)) ◂ nil)) ◂ nil)) ◂ (c "Tree" ((c "Tree" ((c "Tree" ((v "a") ◂ (v "a") ◂ (v "a") ◂ nil)) ◂ (c "Tree" ((v "a") ◂ (v "a") ◂ (v "a") ◂ nil)) ◂ (c "Tree" ((v "a") ◂ (v "a") ◂ (v "a") ◂ nil)) ◂ nil)) ◂ (c "Tree" ((c "Tree" ((v "a") ◂ (v "a") ◂ (v "a") ◂ nil)) ◂ (c "Tree" ((v "a") ◂ (v "a") ◂ (v "a") ◂ nil)) ◂ (c "Tree" ((v "a") ◂ (v "a") ◂ (v "a") ◂ nil)) ◂ nil)) ◂ (c "Tree" ((c "Tree" ((v "a") ◂ (v "a") ◂ (v "a") ◂ nil)) ◂ (c "Tree" ((v "a") ◂ (v "a") ◂ (v "a") ◂ nil)) ◂ (c "Tree" ((v "a") ◂ (v "a") ◂ (v "a") ◂ nil)) ◂ nil)) ◂ nil)) ◂ nil)) ◂ nil))) ◂ (arrow (c "Tree" ((c "Pair" ((c "Tree" ((c "Tree" ((c "Tree" ((v "a") ◂ (v "a") ◂ (v "a") ◂ nil)) ◂ (c "Tree" ((v "a") ◂ (v "a") ◂ (v "a") ◂ nil)) ◂ (c "Tree" ((v "a") ◂ (v "a") ◂ (v "a") ◂ nil)) ◂ nil)) ◂ (c "Tree" ((c "Tree" ((v "a") ◂ (v "a") ◂ (v "a") ◂ nil)) ◂ (c "Tree" ((v "a") ◂ (v "a") ◂ (v "a") ◂ nil)) ◂ (c "Tree" ((v "a") ◂ (v "a") ◂ (v "a") ◂ nil)) ◂ nil)) ◂ (c "Tree" ((c "Tree" ((v "a") ◂ (v "a") ◂ (v "a") ◂ nil)) ◂ (c "Tree" ((v "a") ◂ (v "a") ◂ (v "a") ◂ nil)) ◂ (c "Tree" ((v "a") ◂ (v "a") ◂ (v "a") ◂ nil)) ◂ nil)) ◂ nil)) ◂ (c "Tree" ((c "Tree" ((c "Tree" ((v "a") ◂ (v "a") ◂ (v "a") ◂ nil)) ◂ (c "Tree" ((v "a") ◂ (v "a") ◂ (v "a") ◂ nil)) ◂ (c "Tree" ((v "a") ◂ (v "a") ◂ (v "a") ◂ nil)) ◂ nil)) ◂ (c "Tree" ((c "Tree" ((v "a") ◂ (v "a") ◂ (v "a") ◂ nil)) ◂ (c "Tree" ((v "a") ◂ (v "a") ◂ (v "a") ◂ nil)) ◂ (c "Tree" ((v "a") ◂ (v "a") ◂ (v "a") ◂ nil)) ◂ nil)) ◂ (c "Tree" ((c "Tree" ((v "a") ◂ (v "a") ◂ (v "a") ◂ nil)) ◂ (c "Tree" ((v "a") ◂ (v "a") ◂ (v "a") ◂ nil)) ◂ (c "Tree" ((v "a") ◂ (v "a") ◂ (v "a") ◂ nil)) ◂ nil)) ◂ nil)) ◂ nil)) ◂ (c "Pair" ((c "Tree" ((c "Tree" ((c "Tree" ((v "a") ◂ (v "a") ◂ (v "a") ◂ nil)) ◂ (c "Tree" ((v "a") ◂ (v "a") ◂ (v "a") ◂ nil)) ◂ (c "Tree" ((v "a") ◂ (v "a") ◂ (v "a") ◂ nil)) ◂ nil)) ◂ (c "Tree" ((c "Tree" ((v "a") ◂ (v "a") ◂ (v "a") ◂ nil)) ◂ (c "Tree" ((v "a") ◂ (v "a") ◂ (v "a") ◂ nil)) ◂ (c "Tree" ((v "a") ◂ (v "a") ◂ (v "a") ◂ nil)) ◂ nil)) ◂ (c "Tree" ((c "Tree" ((v "a") ◂ (v "a") ◂ (v "a") ◂ nil)) ◂ (c "Tree" ((v "a") ◂ (v "a") ◂ (v "a") ◂ nil)) ◂ (c "Tree" ((v "a") ◂ (v "a") ◂ (v "a") ◂ nil)) ◂ nil)) ◂ nil)) ◂ (c "Tree" ((c "Tree" ((c "Tree" ((v "a") ◂ (v "a") ◂ (v "a") ◂ nil)) ◂ (c "Tree" ((v "a") ◂ (v "a") ◂ (v "a") ◂ nil)) ◂ (c "Tree" ((v "a") ◂ (v "a") ◂ (v "a") ◂ nil)) ◂ nil)) ◂ (c "Tree" ((c "Tree" ((v "a") ◂ (v "a") ◂ (v "a") ◂ nil)) ◂ (c "Tree" ((v "a") ◂ (v "a") ◂ (v "a") ◂ nil)) ◂ (c "Tree" ((v "a") ◂ (v "a") ◂ (v "a") ◂ nil)) ◂ nil)) ◂ (c "Tree" ((c "Tree" ((v "a") ◂ (v "a") ◂ (v "a") ◂ nil)) ◂ (c "Tree" ((v "a") ◂ (v "a") ◂ (v "a") ◂ nil)) ◂ (c "Tree" ((v "a") ◂ (v "a") ◂ (v "a") ◂ nil)) ◂ nil)) ◂ nil)) ◂ nil)) ◂ (c "Pair" ((c "Tree" ((c "Tree" ((c "Tree" ((v "a") ◂ (v "a") ◂ (v "a") ◂ nil)) ◂ (c "Tree" ((v "a") ◂ (v "a") ◂ (v "a") ◂ nil)) ◂ (c "Tree" ((v "a") ◂ (v "a") ◂ (v "a") ◂ nil)) ◂ nil)) ◂ (c "Tree" ((c "Tree" ((v "a") ◂ (v "a") ◂ (v "a") ◂ nil)) ◂ (c "Tree" ((v "a") ◂ (v "a") ◂ (v "a") ◂ nil)) ◂ (c "Tree" ((v "a") ◂ (v "a") ◂ (v "a") ◂ nil)) ◂ nil)) ◂ (c "Tree" ((c "Tree" ((v "a") ◂ (v "a") ◂ (v "a") ◂ nil)) ◂ (c "Tree" ((v "a") ◂ (v "a") ◂ (v "a") ◂ nil)) ◂ (c "Tree" ((v "a") ◂ (v "a") ◂ (v "a") ◂ nil)) ◂ nil)) ◂ nil)) ◂ (c "Tree" ((c "Tree" ((c "Tree" ((v "a") ◂ (v "a") ◂ (v "a") ◂ nil)) ◂ (c "Tree" ((v "a") ◂ (v "a") ◂ (v "a") ◂ nil)) ◂ (c "Tree" ((v "a") ◂ (v "a") ◂ (v "a") ◂ nil)) ◂ nil)) ◂ (c "Tree" ((c "Tree" ((v "a") ◂ (v "a") ◂ (v "a") ◂ nil)) ◂ (c "Tree" ((v "a") ◂ (v "a") ◂ (v "a") ◂ nil)) ◂ (c "Tree" ((v "a") ◂ (v "a") ◂ (v "a") ◂ nil)) ◂ nil)) ◂ (c "Tree" ((c "Tree" ((v "a") ◂ (v "a") ◂ (v "a") ◂ nil)) ◂ (c "Tree" ((v "a") ◂ (v "a") ◂ (v "a") ◂ nil)) ◂ (c "Tree" ((v "a") ◂ (v "a") ◂ (v "a") ◂ nil)) ◂ nil)) ◂ nil)) ◂ nil)) ◂ nil)) (c "Tree" ((c "Pair" ((c "Tree" ((c "Tree" ((c "Tree" ((v "a") ◂ (v "a") ◂ (v "a") ◂ nil)) ◂ (c "Tree" ((v "a") ◂ (v "a") ◂ (v "a") ◂ nil)) ◂ (c "Tree" ((v "a") ◂ (v "a") ◂ (v "a") ◂ nil)) ◂ nil)) ◂ (c "Tree" ((c "Tree" ((v "a") ◂ (v "a") ◂ (v "a") ◂ nil)) ◂ (c "Tree" ((v "a") ◂ (v "a") ◂ (v "a") ◂ nil)) ◂ (c "Tree" ((v "a") ◂ (v "a") ◂ (v "a") ◂ nil)) ◂ nil)) ◂ (c "Tree" ((c "Tree" ((v "a") ◂ (v "a") ◂ (v "a") ◂ nil)) ◂ (c "Tree" ((v "a") ◂ (v "a") ◂ (v "a") ◂ nil)) ◂ (c "Tree" ((v "a") ◂ (v "a") ◂ (v "a") ◂ nil)) ◂ nil)) ◂ nil)) ◂ (c "Tree" ((c "Tree" ((c "Tree" ((v "a") ◂ (v "a") ◂ (v "a") ◂ nil)) ◂ (c "Tree" ((v "a") ◂ (v "a") ◂ (v "a") ◂ nil)) ◂ (c "Tree" ((v "a") ◂ (v "a") ◂ (v "a") ◂ nil)) ◂ nil)) ◂ (c "Tree" ((c "Tree" ((v "a") ◂ (v "a") ◂ (v "a") ◂ nil)) ◂ (c "Tree" ((v "a") ◂ (v "a") ◂ (v "a") ◂ nil)) ◂ (c "Tree" ((v "a") ◂ (v "a") ◂ (v "a") ◂ nil)) ◂ nil)) ◂ (c "Tree" ((c "Tree" ((v "a") ◂ (v "a") ◂ (v "a") ◂ nil)) ◂ (c "Tree" ((v "a") ◂ (v "a") ◂ (v "a") ◂ nil)) ◂ (c "Tree" ((v "a") ◂ (v "a") ◂ (v "a") ◂ nil)) ◂ nil)) ◂ nil)) ◂ nil)) ◂ (c "Pair" ((c "Tree" ((c "Tree" ((c "Tree" ((v "a") ◂ (v "a") ◂ (v "a") ◂ nil)) ◂ (c "Tree" ((v "a") ◂ (v "a") ◂ (v "a") ◂ nil)) ◂ (c "Tree" ((v "a") ◂ (v "a") ◂ (v "a") ◂ nil)) ◂ nil)) ◂ (c "Tree" ((c "Tree" ((v "a") ◂ (v "a") ◂ (v "a") ◂ nil)) ◂ (c "Tree" ((v "a") ◂ (v "a") ◂ (v "a") ◂ nil)) ◂ (c "Tree" ((v "a") ◂ (v "a") ◂ (v "a") ◂ nil)) ◂ nil)) ◂ (c "Tree" ((c "Tree" ((v "a") ◂ (v "a") ◂ (v "a") ◂ nil)) ◂ (c "Tree" ((v "a") ◂ (v "a") ◂ (v "a") ◂ nil)) ◂ (c "Tree" ((v "a") ◂ (v "a") ◂ (v "a") ◂ nil)) ◂ nil)) ◂ nil)) ◂ (c "Tree" ((c "Tree" ((c "Tree" ((v "a") ◂ (v "a") ◂ (v "a") ◂ nil)) ◂ (c "Tree" ((v "a") ◂ (v "a") ◂ (v "a") ◂ nil)) ◂ (c "Tree" ((v "a") ◂ (v "a") ◂ (v "a") ◂ nil)) ◂ nil)) ◂ (c "Tree" ((c "Tree" ((v "a") ◂ (v "a") ◂ (v "a") ◂ nil)) ◂ (c "Tree" ((v "a") ◂ (v "a") ◂ (v "a") ◂ nil)) ◂ (c "Tree" ((v "a") ◂ (v "a") ◂ (v "a") ◂ nil)) ◂ nil)) ◂ (c "Tree" ((c "Tree" ((v "a") ◂ (v "a") ◂ (v "a") ◂ nil)) ◂ (c "Tree" ((v "a") ◂ (v "a") ◂ (v "a") ◂ nil)) ◂ (c "Tree" ((v "a") ◂ (v "a") ◂ (v "a") ◂ nil)) ◂ nil)) ◂ nil)) ◂ nil)) ◂ (c "Pair" ((c "Tree" ((c "Tree" ((c "Tree" ((v "a") ◂ (v "a") ◂ (v "a") ◂ nil)) ◂ (c "Tree" ((v "a") ◂ (v "a") ◂ (v "a") ◂ nil)) ◂ (c "Tree" ((v "a") ◂ (v "a") ◂ (v "a") ◂ nil)) ◂ nil)) ◂ (c "Tree" ((c "Tree" ((v "a") ◂ (v "a") ◂ (v "a") ◂ nil)) ◂ (c "Tree" ((v "a") ◂ (v "a") ◂ (v "a") ◂ nil)) ◂ (c "Tree" ((v "a") ◂ (v "a") ◂ (v "a") ◂ nil)) ◂ nil)) ◂ (c "Tree" ((c "Tree" ((v "a") ◂ (v "a") ◂ (v "a") ◂ nil)) ◂ (c "Tree" ((v "a") ◂ (v "a") ◂ (v "a") ◂ nil)) ◂ (c "Tree" ((v "a") ◂ (v "a") ◂ (v "a") ◂ nil)) ◂ nil)) ◂ nil)) ◂ (c "Tree" ((c "Tree" ((c "Tree" ((v "a") ◂ (v "a") ◂ (v "a") ◂ nil)) ◂ (c "Tree" ((v "a") ◂ (v "a") ◂ (v "a") ◂ nil)) ◂ (c "Tree" ((v "a") ◂ (v "a") ◂ (v "a") ◂ nil)) ◂ nil)) ◂ (c "Tree" ((c "Tree" ((v "a") ◂ (v "a") ◂ (v "a") ◂ nil)) ◂ (c "Tree" ((v "a") ◂ (v "a") ◂ (v "a") ◂ nil)) ◂ (c "Tree" ((v "a") ◂ (v "a") ◂ (v "a") ◂ nil)) ◂ nil)) ◂ (c "Tree" ((c "Tree" ((v "a") ◂ (v "a") ◂ (v "a") ◂ nil)) ◂ (c "Tree" ((v "a") ◂ (v "a") ◂ (v "a") ◂ nil)) ◂ (c "Tree" ((v "a") ◂ (v "a") ◂ (v "a") ◂ nil)) ◂ nil)) ◂ nil)) ◂ nil)) ◂ nil))) ◂ (arrow (c "Tree" ((c "Pair" ((c "Tree" ((c "Tree" ((c "Tree" ((v "a") ◂ (v "a") ◂ (v "a") ◂ nil)) ◂ (c "Tree" ((v "a") ◂ (v "a") ◂ (v "a") ◂ nil)) ◂ (c "Tree" ((v "a") ◂ (v "a") ◂ (v "a") ◂ nil)) ◂ nil)) ◂ (c "Tree" ((c "Tree" ((v "a") ◂ (v "a") ◂ (v "a") ◂ nil)) ◂ (c "Tree" ((v "a") ◂ (v "a") ◂ (v "a") ◂ nil)) ◂ (c "Tree" ((v "a") ◂ (v "a") ◂ (v "a") ◂ nil)) ◂ nil)) ◂ (c "Tree" ((c "Tree" ((v "a") ◂ (v "a") ◂ (v "a") ◂ nil)) ◂ (c "Tree" ((v "a") ◂ (v "a") ◂ (v "a") ◂ nil)) ◂ (c "Tree" ((v "a") ◂ (v "a") ◂ (v "a") ◂ nil)) ◂ nil)) ◂ nil)) ◂ (c "Tree" ((c "Tree" ((c "Tree" ((v "a") ◂ (v "a") ◂ (v "a") ◂ nil)) ◂ (c "Tree" ((v "a") ◂ (v "a") ◂ (v "a") ◂ nil)) ◂ (c "Tree" ((v "a") ◂ (v "a") ◂ (v "a") ◂ nil)) ◂ nil)) ◂ (c "Tree" ((c "Tree" ((v "a") ◂ (v "a") ◂ (v "a") ◂ nil)) ◂ (c "Tree" ((v "a") ◂ (v "a") ◂ (v "a") ◂ nil)) ◂ (c "Tree" ((v "a") ◂ (v "a") ◂ (v "a") ◂ nil)) ◂ nil)) ◂ (c "Tree" ((c "Tree" ((v "a") ◂ (v "a") ◂ (v "a") ◂ nil)) ◂ (c "Tree" ((v "a") ◂ (v "a") ◂ (v "a") ◂ nil)) ◂ (c "Tree" ((v "a") ◂ (v "a") ◂ (v "a") ◂ nil)) ◂ nil)) ◂ nil)) ◂ nil)) ◂ (c "Pair" ((c "Tree" ((c "Tree" ((c "Tree" ((v "a") ◂ (v "a") ◂ (v "a") ◂ nil)) ◂ (c "Tree" ((v "a") ◂ (v "a") ◂ (v "a") ◂ nil)) ◂ (c "Tree" ((v "a") ◂ (v "a") ◂ (v "a") ◂ nil)) ◂ nil)) ◂ (c "Tree" ((c "Tree" ((v "a") ◂ (v "a") ◂ (v "a") ◂ nil)) ◂ (c "Tree" ((v "a") ◂ (v "a") ◂ (v "a") ◂ nil)) ◂ (c "Tree" ((v "a") ◂ (v "a") ◂ (v "a") ◂ nil)) ◂ nil)) ◂ (c "Tree" ((c "Tree" ((v "a") ◂ (v "a") ◂ (v "a") ◂ nil)) ◂ (c "Tree" ((v "a") ◂ (v "a") ◂ (v "a") ◂ nil)) ◂ (c "Tree" ((v "a") ◂ (v "a") ◂ (v "a") ◂ nil)) ◂ nil)) ◂ nil)) ◂ (c "Tree" ((c "Tree" ((c "Tree" ((v "a") ◂ (v "a") ◂ (v "a") ◂ nil)) ◂ (c "Tree" ((v "a") ◂ (v "a") ◂ (v "a") ◂ nil)) ◂ (c "Tree" ((v "a") ◂ (v "a") ◂ (v "a") ◂ nil)) ◂ nil)) ◂ (c "Tree" ((c "Tree" ((v "a") ◂ (v "a") ◂ (v "a") ◂ nil)) ◂ (c "Tree" ((v "a") ◂ (v "a") ◂ (v "a") ◂ nil)) ◂ (c "Tree" ((v "a") ◂ (v "a") ◂ (v "a") ◂ nil)) ◂ nil)) ◂ (c "Tree" ((c "Tree" ((v "a") ◂ (v "a") ◂ (v "a") ◂ nil)) ◂ (c "Tree" ((v "a") ◂ (v "a") ◂ (v "a") ◂ nil)) ◂ (c "Tree" ((v "a") ◂ (v "a") ◂ (v "a") ◂ nil)) ◂ nil)) ◂ nil)) ◂ nil)) ◂ (c "Pair" ((c "Tree" ((c "Tree" ((c "Tree" ((v "a") ◂ (v "a") ◂ (v "a") ◂ nil)) ◂ (c "Tree" ((v "a") ◂ (v "a") ◂ (v "a") ◂ nil)) ◂ (c "Tree" ((v "a") ◂ (v "a") ◂ (v "a") ◂ nil)) ◂ nil)) ◂ (c "Tree" ((c "Tree" ((v "a") ◂ (v "a") ◂ (v "a") ◂ nil)) ◂ (c "Tree" ((v "a") ◂ (v "a") ◂ (v "a") ◂ nil)) ◂ (c "Tree" ((v "a") ◂ (v "a") ◂ (v "a") ◂ nil)) ◂ nil)) ◂ (c "Tree" ((c "Tree" ((v "a") ◂ (v "a") ◂ (v "a") ◂ nil)) ◂ (c "Tree" ((v "a") ◂ (v "a") ◂ (v "a") ◂ nil)) ◂ (c "Tree" ((v "a") ◂ (v "a") ◂ (v "a") ◂ nil)) ◂ nil)) ◂ nil)) ◂ (c "Tree" ((c "Tree" ((c "Tree" ((v "a") ◂ (v "a") ◂ (v "a") ◂ nil)) ◂ (c "Tree" ((v "a") ◂ (v "a") ◂ (v "a") ◂ nil)) ◂ (c "Tree" ((v "a") ◂ (v "a") ◂ (v "a") ◂ nil)) ◂ nil)) ◂ (c "Tree" ((c "Tree" ((v "a") ◂ (v "a") ◂ (v "a") ◂ nil)) ◂ (c "Tree" ((v "a") ◂ (v "a") ◂ (v "a") ◂ nil)) ◂ (c "Tree" ((v "a") ◂ (v "a") ◂ (v "a") ◂ nil)) ◂ nil)) ◂ (c "Tree" ((c "Tree" ((v "a") ◂ (v "a") ◂ (v "a") ◂ nil)) ◂ (c "Tree" ((v "a") ◂ (v "a") ◂ (v "a") ◂ nil)) ◂ (c "Tree" ((v "a") ◂ (v "a") ◂ (v "a") ◂ nil)) ◂ nil)) ◂ nil)) ◂ nil)) ◂ nil)) (c "Tree" ((c "Pair" ((c "Tree" ((c "Tree" ((c "Tree" ((v "a") ◂ (v "a") ◂ (v "a") ◂ nil)) ◂ (c "Tree" ((v "a") ◂ (v "a") ◂ (v "a") ◂ nil)) ◂ (c "Tree" ((v "a") ◂ (v "a") ◂ (v "a") ◂ nil)) ◂ nil)) ◂ (c "Tree" ((c "Tree" ((v "a") ◂ (v "a") ◂ (v "a") ◂ nil)) ◂ (c "Tree" ((v "a") ◂ (v "a") ◂ (v "a") ◂ nil)) ◂ (c "Tree" ((v "a") ◂ (v "a") ◂ (v "a") ◂ nil)) ◂ nil)) ◂ (c "Tree" ((c "Tree" ((v "a") ◂ (v "a") ◂ (v "a") ◂ nil)) ◂ (c "Tree" ((v "a") ◂ (v "a") ◂ (v "a") ◂ nil)) ◂ (c "Tree" ((v "a") ◂ (v "a") ◂ (v "a") ◂ nil)) ◂ nil)) ◂ nil)) ◂ (c "Tree" ((c "Tree" ((c "Tree" ((v "a") ◂ (v "a") ◂ (v "a") ◂ nil)) ◂ (c "Tree" ((v "a") ◂ (v "a") ◂ (v "a") ◂ nil)) ◂ (c "Tree" ((v "a") ◂ (v "a") ◂ (v "a") ◂ nil)) ◂ nil)) ◂ (c "Tree" ((c "Tree" ((v "a") ◂ (v "a") ◂ (v "a") ◂ nil)) ◂ (c "Tree" ((v "a") ◂ (v "a") ◂ (v "a") ◂ nil)) ◂ (c "Tree" ((v "a") ◂ (v "a") ◂ (v "a") ◂ nil)) ◂ nil)) ◂ (c "Tree" ((c "Tree" ((v "a") ◂ (v "a") ◂ (v "a") ◂ nil)) ◂ (c "Tree" ((v "a") ◂ (v "a") ◂ (v "a") ◂ nil)) ◂ (c "Tree" ((v "a") ◂ (v "a") ◂ (v "a") ◂ nil)) ◂ nil)) ◂ nil)) ◂ nil)) ◂ (c "Pair" ((c "Tree" ((c "Tree" ((c "Tree" ((v "a") ◂ (v "a") ◂ (v "a") ◂ nil)) ◂ (c "Tree" ((v "a") ◂ (v "a") ◂ (v "a") ◂ nil)) ◂ (c "Tree" ((v "a") ◂ (v "a") ◂ (v "a") ◂ nil)) ◂ nil)) ◂ (c "Tree" ((c "Tree" ((v "a") ◂ (v "a") ◂ (v "a") ◂ nil)) ◂ (c "Tree" ((v "a") ◂ (v "a") ◂ (v "a") ◂ nil)) ◂ (c "Tree" ((v "a") ◂ (v "a") ◂ (v "a") ◂ nil)) ◂ nil)) ◂ (c "Tree" ((c "Tree" ((v "a") ◂ (v "a") ◂ (v "a") ◂ nil)) ◂ (c "Tree" ((v "a") ◂ (v "a") ◂ (v "a") ◂ nil)) ◂ (c "Tree" ((v "a") ◂ (v "a") ◂ (v "a") ◂ nil)) ◂ nil)) ◂ nil)) ◂ (c "Tree" ((c "Tree" ((c "Tree" ((v "a") ◂ (v "a") ◂ (v "a") ◂ nil)) ◂ (c "Tree" ((v "a") ◂ (v "a") ◂ (v "a") ◂ nil)) ◂ (c "Tree" ((v "a") ◂ (v "a") ◂ (v "a") ◂ nil)) ◂ nil)) ◂ (c "Tree" ((c "Tree" ((v "a") ◂ (v "a") ◂ (v "a") ◂ nil)) ◂ (c "Tree" ((v "a") ◂ (v "a") ◂ (v "a") ◂ nil)) ◂ (c "Tree" ((v "a") ◂ (v "a") ◂ (v "a") ◂ nil)) ◂ nil)) ◂ (c "Tree" ((c "Tree" ((v "a") ◂ (v "a") ◂ (v "a") ◂ nil)) ◂ (c "Tree" ((v "a") ◂ (v "a") ◂ (v "a") ◂ nil)) ◂ (c "Tree" ((v "a") ◂ (v "a") ◂ (v "a") ◂ nil)) ◂ nil)) ◂ nil)) ◂ nil)) ◂ (c "Pair" ((c "Tree" ((c "Tree" ((c "Tree" ((v "a") ◂ (v "a") ◂ (v "a") ◂ nil)) ◂ (c "Tree" ((v "a") ◂ (v "a") ◂ (v "a") ◂ nil)) ◂ (c "Tree" ((v "a") ◂ (v "a") ◂ (v "a") ◂ nil)) ◂ nil)) ◂ (c "Tree" ((c "Tree" ((v "a") ◂ (v "a") ◂ (v "a") ◂ nil)) ◂ (c "Tree" ((v "a") ◂ (v "a") ◂ (v "a") ◂ nil)) ◂ (c "Tree" ((v "a") ◂ (v "a") ◂ (v "a") ◂ nil)) ◂ nil)) ◂ (c "Tree" ((c "Tree" ((v "a") ◂ (v "a") ◂ (v "a") ◂ nil)) ◂ (c "Tree" ((v "a") ◂ (v "a") ◂ (v "a") ◂ nil)) ◂ (c "Tree" ((v "a") ◂ (v "a") ◂ (v "a") ◂ nil)) ◂ nil)) ◂ nil)) ◂ (c "Tree" ((c "Tree" ((c "Tree" ((v "a") ◂ (v "a") ◂ (v "a") ◂ nil)) ◂ (c "Tree" ((v "a") ◂ (v "a") ◂ (v "a") ◂ nil)) ◂ (c "Tree" ((v "a") ◂ (v "a") ◂ (v "a") ◂ nil)) ◂ nil)) ◂ (c "Tree" ((c "Tree" ((v "a") ◂ (v "a") ◂ (v "a") ◂ nil)) ◂ (c "Tree" ((v "a") ◂ (v "a") ◂ (v "a") ◂ nil)) ◂ (c "Tree" ((v "a") ◂ (v "a") ◂ (v "a") ◂ nil)) ◂ nil)) ◂ (c "Tree" ((c "Tree" ((v "a") ◂ (v "a") ◂ (v "a") ◂ nil)) ◂ (c "Tree" ((v "a") ◂ (v "a") ◂ (v "a") ◂ nil)) ◂ (c "Tree" ((v "a") ◂ (v "a") ◂ (v "a") ◂ nil)) ◂ nil)) ◂ nil)) ◂ nil)) ◂ nil))) ◂ nil)) ◂ (c "Tree" ((arrow (c "Tree" ((c "Pair" ((c "Tree" ((c "Tree" ((c "Tree" ((v "a") ◂ (v "a") ◂ (v "a") ◂ nil)) ◂ (c "Tree" ((v "a") ◂ (v "a") ◂ (v "a") ◂ nil)) ◂ (c "Tree" ((v "a") ◂ (v "a") ◂ (v "a") ◂ nil)) ◂ nil)) ◂ (c "Tree" ((c "Tree" ((v "a") ◂ (v "a") ◂ (v "a") ◂ nil)) ◂ (c "Tree" ((v "a") ◂ (v "a") ◂ (v "a") ◂ nil)) ◂ (c "Tree" ((v "a") ◂ (v "a") ◂ (v "a") ◂ nil)) ◂ nil)) ◂ (c "Tree" ((c "Tree" ((v "a") ◂ (v "a") ◂ (v "a") ◂ nil)) ◂ (c "Tree" ((v "a") ◂ (v "a") ◂ (v "a") ◂ nil)) ◂ (c "Tree" ((v "a") ◂ (v "a") ◂ (v "a") ◂ nil)) ◂ nil)) ◂ nil)) ◂ (c "Tree" ((c "Tree" ((c "Tree" ((v "a") ◂ (v "a") ◂ (v "a") ◂ nil)) ◂ (c "Tree" ((v "a") ◂ (v "a") ◂ (v "a") ◂ nil)) ◂ (c "Tree" ((v "a") ◂ (v "a") ◂ (v "a") ◂ nil)) ◂ nil)) ◂ (c "Tree" ((c "Tree" ((v "a") ◂ (v "a") ◂ (v "a") ◂ nil)) ◂ (c "Tree" ((v "a") ◂ (v "a") ◂ (v "a") ◂ nil)) ◂ (c "Tree" ((v "a") ◂ (v "a") ◂ (v "a") ◂ nil)) ◂ nil)) ◂ (c "Tree" ((c "Tree" ((v "a") ◂ (v "a") ◂ (v "a") ◂ nil)) ◂ (c "Tree" ((v "a") ◂ (v "a") ◂ (v "a") ◂ nil)) ◂ (c "Tree" ((v "a") ◂ (v "a") ◂ (v "a") ◂ nil)) ◂ nil)) ◂ nil)) ◂ nil)) ◂ (c "Pair" ((c "Tree" ((c "Tree" ((c "Tree" ((v "a") ◂ (v "a") ◂ (v "a") ◂ nil)) ◂ (c "Tree" ((v "a") ◂ (v "a") ◂ (v "a") ◂ nil)) ◂ (c "Tree" ((v "a") ◂ (v "a") ◂ (v "a") ◂ nil)) ◂ nil)) ◂ (c "Tree" ((c "Tree" ((v "a") ◂ (v "a") ◂ (v "a") ◂ nil)) ◂ (c "Tree" ((v "a") ◂ (v "a") ◂ (v "a") ◂ nil)) ◂ (c "Tree" ((v "a") ◂ (v "a") ◂ (v "a") ◂ nil)) ◂ nil)) ◂ (c "Tree" ((c "Tree" ((v "a") ◂ (v "a") ◂ (v "a") ◂ nil)) ◂ (c "Tree" ((v "a") ◂ (v "a") ◂ (v "a") ◂ nil)) ◂ (c "Tree" ((v "a") ◂ (v "a") ◂ (v "a") ◂ nil)) ◂ nil)) ◂ nil)) ◂ (c "Tree" ((c "Tree" ((c "Tree" ((v "a") ◂ (v "a") ◂ (v "a") ◂ nil)) ◂ (c "Tree" ((v "a") ◂ (v "a") ◂ (v "a") ◂ nil)) ◂ (c "Tree" ((v "a") ◂ (v "a") ◂ (v "a") ◂ nil)) ◂ nil)) ◂ (c "Tree" ((c "Tree" ((v "a") ◂ (v "a") ◂ (v "a") ◂ nil)) ◂ (c "Tree" ((v "a") ◂ (v "a") ◂ (v "a") ◂ nil)) ◂ (c "Tree" ((v "a") ◂ (v "a") ◂ (v "a") ◂ nil)) ◂ nil)) ◂ (c "Tree" ((c "Tree" ((v "a") ◂ (v "a") ◂ (v "a") ◂ nil)) ◂ (c "Tree" ((v "a") ◂ (v "a") ◂ (v "a") ◂ nil)) ◂ (c "Tree" ((v "a") ◂ (v "a") ◂ (v "a") ◂ nil)) ◂ nil)) ◂ nil)) ◂ nil)) ◂ (c "Pair" ((c "Tree" ((c "Tree" ((c "Tree" ((v "a") ◂ (v "a") ◂ (v "a") ◂ nil)) ◂ (c "Tree" ((v "a") ◂ (v "a") ◂ (v "a") ◂ nil)) ◂ (c "Tree" ((v "a") ◂ (v "a") ◂ (v "a") ◂ nil)) ◂ nil)) ◂ (c "Tree" ((c "Tree" ((v "a") ◂ (v "a") ◂ (v "a") ◂ nil)) ◂ (c "Tree" ((v "a") ◂ (v "a") ◂ (v "a") ◂ nil)) ◂ (c "Tree" ((v "a") ◂ (v "a") ◂ (v "a") ◂ nil)) ◂ nil)) ◂ (c "Tree" ((c "Tree" ((v "a") ◂ (v "a") ◂ (v "a") ◂ nil)) ◂ (c "Tree" ((v "a") ◂ (v "a") ◂ (v "a") ◂ nil)) ◂ (c "Tree" ((v "a") ◂ (v "a") ◂ (v "a") ◂ nil)) ◂ nil)) ◂ nil)) ◂ (c "Tree" ((c "Tree" ((c "Tree" ((v "a") ◂ (v "a") ◂ (v "a") ◂ nil)) ◂ (c "Tree" ((v "a") ◂ (v "a") ◂ (v "a") ◂ nil)) ◂ (c "Tree" ((v "a") ◂ (v "a") ◂ (v "a") ◂ nil)) ◂ nil)) ◂ (c "Tree" ((c "Tree" ((v "a") ◂ (v "a") ◂ (v "a") ◂ nil)) ◂ (c "Tree" ((v "a") ◂ (v "a") ◂ (v "a") ◂ nil)) ◂ (c "Tree" ((v "a") ◂ (v "a") ◂ (v "a") ◂ nil)) ◂ nil)) ◂ (c "Tree" ((c "Tree" ((v "a") ◂ (v "a") ◂ (v "a") ◂ nil)) ◂ (c "Tree" ((v "a") ◂ (v "a") ◂ (v "a") ◂ nil)) ◂ (c "Tree" ((v "a") ◂ (v "a") ◂ (v "a") ◂ nil)) ◂ nil)) ◂ nil)) ◂ nil)) ◂ nil)) (c "Tree" ((c "Pair" ((c "Tree" ((c "Tree" ((c "Tree" ((v "a") ◂ (v "a") ◂ (v "a") ◂ nil)) ◂ (c "Tree" ((v "a") ◂ (v "a") ◂ (v "a") ◂ nil)) ◂ (c "Tree" ((v "a") ◂ (v "a") ◂ (v "a") ◂ nil)) ◂ nil)) ◂ (c "Tree" ((c "Tree" ((v "a") ◂ (v "a") ◂ (v "a") ◂ nil)) ◂ (c "Tree" ((v "a") ◂ (v "a") ◂ (v "a") ◂ nil)) ◂ (c "Tree" ((v "a") ◂ (v "a") ◂ (v "a") ◂ nil)) ◂ nil)) ◂ (c "Tree" ((c "Tree" ((v "a") ◂ (v "a") ◂ (v "a") ◂ nil)) ◂ (c "Tree" ((v "a") ◂ (v "a") ◂ (v "a") ◂ nil)) ◂ (c "Tree" ((v "a") ◂ (v "a") ◂ (v "a") ◂ nil)) ◂ nil)) ◂ nil)) ◂ (c "Tree" ((c "Tree" ((c "Tree" ((v "a") ◂ (v "a") ◂ (v "a") ◂ nil)) ◂ (c "Tree" ((v "a") ◂ (v "a") ◂ (v "a") ◂ nil)) ◂ (c "Tree" ((v "a") ◂ (v "a") ◂ (v "a") ◂ nil)) ◂ nil)) ◂ (c "Tree" ((c "Tree" ((v "a") ◂ (v "a") ◂ (v "a") ◂ nil)) ◂ (c "Tree" ((v "a") ◂ (v "a") ◂ (v "a") ◂ nil)) ◂ (c "Tree" ((v "a") ◂ (v "a") ◂ (v "a") ◂ nil)) ◂ nil)) ◂ (c "Tree" ((c "Tree" ((v "a") ◂ (v "a") ◂ (v "a") ◂ nil)) ◂ (c "Tree" ((v "a") ◂ (v "a") ◂ (v "a") ◂ nil)) ◂ (c "Tree" ((v "a") ◂ (v "a") ◂ (v "a") ◂ nil)) ◂ nil)) ◂ nil)) ◂ nil)) ◂ (c "Pair" ((c "Tree" ((c "Tree" ((c "Tree" ((v "a") ◂ (v "a") ◂ (v "a") ◂ nil)) ◂ (c "Tree" ((v "a") ◂ (v "a") ◂ (v "a") ◂ nil)) ◂ (c "Tree" ((v "a") ◂ (v "a") ◂ (v "a") ◂ nil)) ◂ nil)) ◂ (c "Tree" ((c "Tree" ((v "a") ◂ (v "a") ◂ (v "a") ◂ nil)) ◂ (c "Tree" ((v "a") ◂ (v "a") ◂ (v "a") ◂ nil)) ◂ (c "Tree" ((v "a") ◂ (v "a") ◂ (v "a") ◂ nil)) ◂ nil)) ◂ (c "Tree" ((c "Tree" ((v "a") ◂ (v "a") ◂ (v "a") ◂ nil)) ◂ (c "Tree" ((v "a") ◂ (v "a") ◂ (v "a") ◂ nil)) ◂ (c "Tree" ((v "a") ◂ (v "a") ◂ (v "a") ◂ nil)) ◂ nil)) ◂ nil)) ◂ (c "Tree" ((c "Tree" ((c "Tree" ((v "a") ◂ (v "a") ◂ (v "a") ◂ nil)) ◂ (c "Tree" ((v "a") ◂ (v "a") ◂ (v "a") ◂ nil)) ◂ (c "Tree" ((v "a") ◂ (v "a") ◂ (v "a") ◂ nil)) ◂ nil)) ◂ (c "Tree" ((c "Tree" ((v "a") ◂ (v "a") ◂ (v "a") ◂ nil)) ◂ (c "Tree" ((v "a") ◂ (v "a") ◂ (v "a") ◂ nil)) ◂ (c "Tree" ((v "a") ◂ (v "a") ◂ (v "a") ◂ nil)) ◂ nil)) ◂ (c "Tree" ((c "Tree" ((v "a") ◂ (v "a") ◂ (v "a") ◂ nil)) ◂ (c "Tree" ((v "a") ◂ (v "a") ◂ (v "a") ◂ nil)) ◂ (c "Tree" ((v "a") ◂ (v "a") ◂ (v "a") ◂ nil)) ◂ nil)) ◂ nil)) ◂ nil)) ◂ (c "Pair" ((c "Tree" ((c "Tree" ((c "Tree" ((v "a") ◂ (v "a") ◂ (v "a") ◂ nil)) ◂ (c "Tree" ((v "a") ◂ (v "a") ◂ (v "a") ◂ nil)) ◂ (c "Tree" ((v "a") ◂ (v "a") ◂ (v "a") ◂ nil)) ◂ nil)) ◂ (c "Tree" ((c "Tree" ((v "a") ◂ (v "a") ◂ (v "a") ◂ nil)) ◂ (c "Tree" ((v "a") ◂ (v "a") ◂ (v "a") ◂ nil)) ◂ (c "Tree" ((v "a") ◂ (v "a") ◂ (v "a") ◂ nil)) ◂ nil)) ◂ (c "Tree" ((c "Tree" ((v "a") ◂ (v "a") ◂ (v "a") ◂ nil)) ◂ (c "Tree" ((v "a") ◂ (v "a") ◂ (v "a") ◂ nil)) ◂ (c "Tree" ((v "a") ◂ (v "a") ◂ (v "a") ◂ nil)) ◂ nil)) ◂ nil)) ◂ (c "Tree" ((c "Tree" ((c "Tree" ((v "a") ◂ (v "a") ◂ (v "a") ◂ nil)) ◂ (c "Tree" ((v "a") ◂ (v "a") ◂ (v "a") ◂ nil)) ◂ (c "Tree" ((v "a") ◂ (v "a") ◂ (v "a") ◂ nil)) ◂ nil)) ◂ (c "Tree" ((c "Tree" ((v "a") ◂ (v "a") ◂ (v "a") ◂ nil)) ◂ (c "Tree" ((v "a") ◂ (v "a") ◂ (v "a") ◂ nil)) ◂ (c "Tree" ((v "a") ◂ (v "a") ◂ (v "a") ◂ nil)) ◂ nil)) ◂ (c "Tree" ((c "Tree" ((v "a") ◂ (v "a") ◂ (v "a") ◂ nil)) ◂ (c "Tree" ((v "a") ◂ (v "a") ◂ (v "a") ◂ nil)) ◂ (c "Tree" ((v "a") ◂ (v "a") ◂ (v "a") ◂ nil)) ◂ nil)) ◂ nil)) ◂ nil)) ◂ nil))) ◂ (arrow (c "Tree" ((c "Pair" ((c "Tree" ((c "Tree" ((c "Tree" ((v "a") ◂ (v "a") ◂ (v "a") ◂ nil)) ◂ (c "Tree" ((v "a") ◂ (v "a") ◂ (v "a") ◂ nil)) ◂ (c "Tree" ((v "a") ◂ (v "a") ◂ (v "a") ◂ nil)) ◂ nil)) ◂ (c "Tree" ((c "Tree" ((v "a") ◂ (v "a") ◂ (v "a") ◂ nil)) ◂ (c "Tree" ((v "a") ◂ (v "a") ◂ (v "a") ◂ nil)) ◂ (c "Tree" ((v "a") ◂ (v "a") ◂ (v "a") ◂ nil)) ◂ nil)) ◂ (c "Tree" ((c "Tree" ((v "a") ◂ (v "a") ◂ (v "a") ◂ nil)) ◂ (c "Tree" ((v "a") ◂ (v "a") ◂ (v "a") ◂ nil)) ◂ (c "Tree" ((v "a") ◂ (v "a") ◂ (v "a") ◂ nil)) ◂ nil)) ◂ nil)) ◂ (c "Tree" ((c "Tree" ((c "Tree" ((v "a") ◂ (v "a") ◂ (v "a") ◂ nil)) ◂ (c "Tree" ((v "a") ◂ (v "a") ◂ (v "a") ◂ nil)) ◂ (c "Tree" ((v "a") ◂ (v "a") ◂ (v "a") ◂ nil)) ◂ nil)) ◂ (c "Tree" ((c "Tree" ((v "a") ◂ (v "a") ◂ (v "a") ◂ nil)) ◂ (c "Tree" ((v "a") ◂ (v "a") ◂ (v "a") ◂ nil)) ◂ (c "Tree" ((v "a") ◂ (v "a") ◂ (v "a") ◂ nil)) ◂ nil)) ◂ (c "Tree" ((c "Tree" ((v "a") ◂ (v "a") ◂ (v "a") ◂ nil)) ◂ (c "Tree" ((v "a") ◂ (v "a") ◂ (v "a") ◂ nil)) ◂ (c "Tree" ((v "a") ◂ (v "a") ◂ (v "a") ◂ nil)) ◂ nil)) ◂ nil)) ◂ nil)) ◂ (c "Pair" ((c "Tree" ((c "Tree" ((c "Tree" ((v "a") ◂ (v "a") ◂ (v "a") ◂ nil)) ◂ (c "Tree" ((v "a") ◂ (v "a") ◂ (v "a") ◂ nil)) ◂ (c "Tree" ((v "a") ◂ (v "a") ◂ (v "a") ◂ nil)) ◂ nil)) ◂ (c "Tree" ((c "Tree" ((v "a") ◂ (v "a") ◂ (v "a") ◂ nil)) ◂ (c "Tree" ((v "a") ◂ (v "a") ◂ (v "a") ◂ nil)) ◂ (c "Tree" ((v "a") ◂ (v "a") ◂ (v "a") ◂ nil)) ◂ nil)) ◂ (c "Tree" ((c "Tree" ((v "a") ◂ (v "a") ◂ (v "a") ◂ nil)) ◂ (c "Tree" ((v "a") ◂ (v "a") ◂ (v "a") ◂ nil)) ◂ (c "Tree" ((v "a") ◂ (v "a") ◂ (v "a") ◂ nil)) ◂ nil)) ◂ nil)) ◂ (c "Tree" ((c "Tree" ((c "Tree" ((v "a") ◂ (v "a") ◂ (v "a") ◂ nil)) ◂ (c "Tree" ((v "a") ◂ (v "a") ◂ (v "a") ◂ nil)) ◂ (c "Tree" ((v "a") ◂ (v "a") ◂ (v "a") ◂ nil)) ◂ nil)) ◂ (c "Tree" ((c "Tree" ((v "a") ◂ (v "a") ◂ (v "a") ◂ nil)) ◂ (c "Tree" ((v "a") ◂ (v "a") ◂ (v "a") ◂ nil)) ◂ (c "Tree" ((v "a") ◂ (v "a") ◂ (v "a") ◂ nil)) ◂ nil)) ◂ (c "Tree" ((c "Tree" ((v "a") ◂ (v "a") ◂ (v "a") ◂ nil)) ◂ (c "Tree" ((v "a") ◂ (v "a") ◂ (v "a") ◂ nil)) ◂ (c "Tree" ((v "a") ◂ (v "a") ◂ (v "a") ◂ nil)) ◂ nil)) ◂ nil)) ◂ nil)) ◂ (c "Pair" ((c "Tree" ((c "Tree" ((c "Tree" ((v "a") ◂ (v "a") ◂ (v "a") ◂ nil)) ◂ (c "Tree" ((v "a") ◂ (v "a") ◂ (v "a") ◂ nil)) ◂ (c "Tree" ((v "a") ◂ (v "a") ◂ (v "a") ◂ nil)) ◂ nil)) ◂ (c "Tree" ((c "Tree" ((v "a") ◂ (v "a") ◂ (v "a") ◂ nil)) ◂ (c "Tree" ((v "a") ◂ (v "a") ◂ (v "a") ◂ nil)) ◂ (c "Tree" ((v "a") ◂ (v "a") ◂ (v "a") ◂ nil)) ◂ nil)) ◂ (c "Tree" ((c "Tree" ((v "a") ◂ (v "a") ◂ (v "a") ◂ nil)) ◂ (c "Tree" ((v "a") ◂ (v "a") ◂ (v "a") ◂ nil)) ◂ (c "Tree" ((v "a") ◂ (v "a") ◂ (v "a") ◂ nil)) ◂ nil)) ◂ nil)) ◂ (c "Tree" ((c "Tree" ((c "Tree" ((v "a") ◂ (v "a") ◂ (v "a") ◂ nil)) ◂ (c "Tree" ((v "a") ◂ (v "a") ◂ (v "a") ◂ nil)) ◂ (c "Tree" ((v "a") ◂ (v "a") ◂ (v "a") ◂ nil)) ◂ nil)) ◂ (c "Tree" ((c "Tree" ((v "a") ◂ (v "a") ◂ (v "a") ◂ nil)) ◂ (c "Tree" ((v "a") ◂ (v "a") ◂ (v "a") ◂ nil)) ◂ (c "Tree" ((v "a") ◂ (v "a") ◂ (v "a") ◂ nil)) ◂ nil)) ◂ (c "Tree" ((c "Tree" ((v "a") ◂ (v "a") ◂ (v "a") ◂ nil)) ◂ (c "Tree" ((v "a") ◂ (v "a") ◂ (v "a") ◂ nil)) ◂ (c "Tree" ((v "a") ◂ (v "a") ◂ (v "a") ◂ nil)) ◂ nil)) ◂ nil)) ◂ nil)) ◂ nil)) (c "Tree" ((c "Pair" ((c "Tree" ((c "Tree" ((c "Tree" ((v "a") ◂ (v "a") ◂ (v "a") ◂ nil)) ◂ (c "Tree" ((v "a") ◂ (v "a") ◂ (v "a") ◂ nil)) ◂ (c "Tree" ((v "a") ◂ (v "a") ◂ (v "a") ◂ nil)) ◂ nil)) ◂ (c "Tree" ((c "Tree" ((v "a") ◂ (v "a") ◂ (v "a") ◂ nil)) ◂ (c "Tree" ((v "a") ◂ (v "a") ◂ (v "a") ◂ nil)) ◂ (c "Tree" ((v "a") ◂ (v "a") ◂ (v "a") ◂ nil)) ◂ nil)) ◂ (c "Tree" ((c "Tree" ((v "a") ◂ (v "a") ◂ (v "a") ◂ nil)) ◂ (c "Tree" ((v "a") ◂ (v "a") ◂ (v "a") ◂ nil)) ◂ (c "Tree" ((v "a") ◂ (v "a") ◂ (v "a") ◂ nil)) ◂ nil)) ◂ nil)) ◂ (c "Tree" ((c "Tree" ((c "Tree" ((v "a") ◂ (v "a") ◂ (v "a") ◂ nil)) ◂ (c "Tree" ((v "a") ◂ (v "a") ◂ (v "a") ◂ nil)) ◂ (c "Tree" ((v "a") ◂ (v "a") ◂ (v "a") ◂ nil)) ◂ nil)) ◂ (c "Tree" ((c "Tree" ((v "a") ◂ (v "a") ◂ (v "a") ◂ nil)) ◂ (c "Tree" ((v "a") ◂ (v "a") ◂ (v "a") ◂ nil)) ◂ (c "Tree" ((v "a") ◂ (v "a") ◂ (v "a") ◂ nil)) ◂ nil)) ◂ (c "Tree" ((c "Tree" ((v "a") ◂ (v "a") ◂ (v "a") ◂ nil)) ◂ (c "Tree" ((v "a") ◂ (v "a") ◂ (v "a") ◂ nil)) ◂ (c "Tree" ((v "a") ◂ (v "a") ◂ (v "a") ◂ nil)) ◂ nil)) ◂ nil)) ◂ nil)) ◂ (c "Pair" ((c "Tree" ((c "Tree" ((c "Tree" ((v "a") ◂ (v "a") ◂ (v "a") ◂ nil)) ◂ (c "Tree" ((v "a") ◂ (v "a") ◂ (v "a") ◂ nil)) ◂ (c "Tree" ((v "a") ◂ (v "a") ◂ (v "a") ◂ nil)) ◂ nil)) ◂ (c "Tree" ((c "Tree" ((v "a") ◂ (v "a") ◂ (v "a") ◂ nil)) ◂ (c "Tree" ((v "a") ◂ (v "a") ◂ (v "a") ◂ nil)) ◂ (c "Tree" ((v "a") ◂ (v "a") ◂ (v "a") ◂ nil)) ◂ nil)) ◂ (c "Tree" ((c "Tree" ((v "a") ◂ (v "a") ◂ (v "a") ◂ nil)) ◂ (c "Tree" ((v "a") ◂ (v "a") ◂ (v "a") ◂ nil)) ◂ (c "Tree" ((v "a") ◂ (v "a") ◂ (v "a") ◂ nil)) ◂ nil)) ◂ nil)) ◂ (c "Tree" ((c "Tree" ((c "Tree" ((v "a") ◂ (v "a") ◂ (v "a") ◂ nil)) ◂ (c "Tree" ((v "a") ◂ (v "a") ◂ (v "a") ◂ nil)) ◂ (c "Tree" ((v "a") ◂ (v "a") ◂ (v "a") ◂ nil)) ◂ nil)) ◂ (c "Tree" ((c "Tree" ((v "a") ◂ (v "a") ◂ (v "a") ◂ nil)) ◂ (c "Tree" ((v "a") ◂ (v "a") ◂ (v "a") ◂ nil)) ◂ (c "Tree" ((v "a") ◂ (v "a") ◂ (v "a") ◂ nil)) ◂ nil)) ◂ (c "Tree" ((c "Tree" ((v "a") ◂ (v "a") ◂ (v "a") ◂ nil)) ◂ (c "Tree" ((v "a") ◂ (v "a") ◂ (v "a") ◂ nil)) ◂ (c "Tree" ((v "a") ◂ (v "a") ◂ (v "a") ◂ nil)) ◂ nil)) ◂ nil)) ◂ nil)) ◂ (c "Pair" ((c "Tree" ((c "Tree" ((c "Tree" ((v "a") ◂ (v "a") ◂ (v "a") ◂ nil)) ◂ (c "Tree" ((v "a") ◂ (v "a") ◂ (v "a") ◂ nil)) ◂ (c "Tree" ((v "a") ◂ (v "a") ◂ (v "a") ◂ nil)) ◂ nil)) ◂ (c "Tree" ((c "Tree" ((v "a") ◂ (v "a") ◂ (v "a") ◂ nil)) ◂ (c "Tree" ((v "a") ◂ (v "a") ◂ (v "a") ◂ nil)) ◂ (c "Tree" ((v "a") ◂ (v "a") ◂ (v "a") ◂ nil)) ◂ nil)) ◂ (c "Tree" ((c "Tree" ((v "a") ◂ (v "a") ◂ (v "a") ◂ nil)) ◂ (c "Tree" ((v "a") ◂ (v "a") ◂ (v "a") ◂ nil)) ◂ (c "Tree" ((v "a") ◂ (v "a") ◂ (v "a") ◂ nil)) ◂ nil)) ◂ nil)) ◂ (c "Tree" ((c "Tree" ((c "Tree" ((v "a") ◂ (v "a") ◂ (v "a") ◂ nil)) ◂ (c "Tree" ((v "a") ◂ (v "a") ◂ (v "a") ◂ nil)) ◂ (c "Tree" ((v "a") ◂ (v "a") ◂ (v "a") ◂ nil)) ◂ nil)) ◂ (c "Tree" ((c "Tree" ((v "a") ◂ (v "a") ◂ (v "a") ◂ nil)) ◂ (c "Tree" ((v "a") ◂ (v "a") ◂ (v "a") ◂ nil)) ◂ (c "Tree" ((v "a") ◂ (v "a") ◂ (v "a") ◂ nil)) ◂ nil)) ◂ (c "Tree" ((c "Tree" ((v "a") ◂ (v "a") ◂ (v "a") ◂ nil)) ◂ (c "Tree" ((v "a") ◂ (v "a") ◂ (v "a") ◂ nil)) ◂ (c "Tree" ((v "a") ◂ (v "a") ◂ (v "a") ◂ nil)) ◂ nil)) ◂ nil)) ◂ nil)) ◂ nil))) ◂ (arrow (c "Tree" ((c "Pair" ((c "Tree" ((c "Tree" ((c "Tree" ((v "a") ◂ (v "a") ◂ (v "a") ◂ nil)) ◂ (c "Tree" ((v "a") ◂ (v "a") ◂ (v "a") ◂ nil)) ◂ (c "Tree" ((v "a") ◂ (v "a") ◂ (v "a") ◂ nil)) ◂ nil)) ◂ (c "Tree" ((c "Tree" ((v "a") ◂ (v "a") ◂ (v "a") ◂ nil)) ◂ (c "Tree" ((v "a") ◂ (v "a") ◂ (v "a") ◂ nil)) ◂ (c "Tree" ((v "a") ◂ (v "a") ◂ (v "a") ◂ nil)) ◂ nil)) ◂ (c "Tree" ((c "Tree" ((v "a") ◂ (v "a") ◂ (v "a") ◂ nil)) ◂ (c "Tree" ((v "a") ◂ (v "a") ◂ (v "a") ◂ nil)) ◂ (c "Tree" ((v "a") ◂ (v "a") ◂ (v "a") ◂ nil)) ◂ nil)) ◂ nil)) ◂ (c "Tree" ((c "Tree" ((c "Tree" ((v "a") ◂ (v "a") ◂ (v "a") ◂ nil)) ◂ (c "Tree" ((v "a") ◂ (v "a") ◂ (v "a") ◂ nil)) ◂ (c "Tree" ((v "a") ◂ (v "a") ◂ (v "a") ◂ nil)) ◂ nil)) ◂ (c "Tree" ((c "Tree" ((v "a") ◂ (v "a") ◂ (v "a") ◂ nil)) ◂ (c "Tree" ((v "a") ◂ (v "a") ◂ (v "a") ◂ nil)) ◂ (c "Tree" ((v "a") ◂ (v "a") ◂ (v "a") ◂ nil)) ◂ nil)) ◂ (c "Tree" ((c "Tree" ((v "a") ◂ (v "a") ◂ (v "a") ◂ nil)) ◂ (c "Tree" ((v "a") ◂ (v "a") ◂ (v "a") ◂ nil)) ◂ (c "Tree" ((v "a") ◂ (v "a") ◂ (v "a") ◂ nil)) ◂ nil)) ◂ nil)) ◂ nil)) ◂ (c "Pair" ((c "Tree" ((c "Tree" ((c "Tree" ((v "a") ◂ (v "a") ◂ (v "a") ◂ nil)) ◂ (c "Tree" ((v "a") ◂ (v "a") ◂ (v "a") ◂ nil)) ◂ (c "Tree" ((v "a") ◂ (v "a") ◂ (v "a") ◂ nil)) ◂ nil)) ◂ (c "Tree" ((c "Tree" ((v "a") ◂ (v "a") ◂ (v "a") ◂ nil)) ◂ (c "Tree" ((v "a") ◂ (v "a") ◂ (v "a") ◂ nil)) ◂ (c "Tree" ((v "a") ◂ (v "a") ◂ (v "a") ◂ nil)) ◂ nil)) ◂ (c "Tree" ((c "Tree" ((v "a") ◂ (v "a") ◂ (v "a") ◂ nil)) ◂ (c "Tree" ((v "a") ◂ (v "a") ◂ (v "a") ◂ nil)) ◂ (c "Tree" ((v "a") ◂ (v "a") ◂ (v "a") ◂ nil)) ◂ nil)) ◂ nil)) ◂ (c "Tree" ((c "Tree" ((c "Tree" ((v "a") ◂ (v "a") ◂ (v "a") ◂ nil)) ◂ (c "Tree" ((v "a") ◂ (v "a") ◂ (v "a") ◂ nil)) ◂ (c "Tree" ((v "a") ◂ (v "a") ◂ (v "a") ◂ nil)) ◂ nil)) ◂ (c "Tree" ((c "Tree" ((v "a") ◂ (v "a") ◂ (v "a") ◂ nil)) ◂ (c "Tree" ((v "a") ◂ (v "a") ◂ (v "a") ◂ nil)) ◂ (c "Tree" ((v "a") ◂ (v "a") ◂ (v "a") ◂ nil)) ◂ nil)) ◂ (c "Tree" ((c "Tree" ((v "a") ◂ (v "a") ◂ (v "a") ◂ nil)) ◂ (c "Tree" ((v "a") ◂ (v "a") ◂ (v "a") ◂ nil)) ◂ (c "Tree" ((v "a") ◂ (v "a") ◂ (v "a") ◂ nil)) ◂ nil)) ◂ nil)) ◂ nil)) ◂ (c "Pair" ((c "Tree" ((c "Tree" ((c "Tree" ((v "a") ◂ (v "a") ◂ (v "a") ◂ nil)) ◂ (c "Tree" ((v "a") ◂ (v "a") ◂ (v "a") ◂ nil)) ◂ (c "Tree" ((v "a") ◂ (v "a") ◂ (v "a") ◂ nil)) ◂ nil)) ◂ (c "Tree" ((c "Tree" ((v "a") ◂ (v "a") ◂ (v "a") ◂ nil)) ◂ (c "Tree" ((v "a") ◂ (v "a") ◂ (v "a") ◂ nil)) ◂ (c "Tree" ((v "a") ◂ (v "a") ◂ (v "a") ◂ nil)) ◂ nil)) ◂ (c "Tree" ((c "Tree" ((v "a") ◂ (v "a") ◂ (v "a") ◂ nil)) ◂ (c "Tree" ((v "a") ◂ (v "a") ◂ (v "a") ◂ nil)) ◂ (c "Tree" ((v "a") ◂ (v "a") ◂ (v "a") ◂ nil)) ◂ nil)) ◂ nil)) ◂ (c "Tree" ((c "Tree" ((c "Tree" ((v "a") ◂ (v "a") ◂ (v "a") ◂ nil)) ◂ (c "Tree" ((v "a") ◂ (v "a") ◂ (v "a") ◂ nil)) ◂ (c "Tree" ((v "a") ◂ (v "a") ◂ (v "a") ◂ nil)) ◂ nil)) ◂ (c "Tree" ((c "Tree" ((v "a") ◂ (v "a") ◂ (v "a") ◂ nil)) ◂ (c "Tree" ((v "a") ◂ (v "a") ◂ (v "a") ◂ nil)) ◂ (c "Tree" ((v "a") ◂ (v "a") ◂ (v "a") ◂ nil)) ◂ nil)) ◂ (c "Tree" ((c "Tree" ((v "a") ◂ (v "a") ◂ (v "a") ◂ nil)) ◂ (c "Tree" ((v "a") ◂ (v "a") ◂ (v "a") ◂ nil)) ◂ (c "Tree" ((v "a") ◂ (v "a") ◂ (v "a") ◂ nil)) ◂ nil)) ◂ nil)) ◂ nil)) ◂ nil)) (c "Tree" ((c "Pair" ((c "Tree" ((c "Tree" ((c "Tree" ((v "a") ◂ (v "a") ◂ (v "a") ◂ nil)) ◂ (c "Tree" ((v "a") ◂ (v "a") ◂ (v "a") ◂ nil)) ◂ (c "Tree" ((v "a") ◂ (v "a") ◂ (v "a") ◂ nil)) ◂ nil)) ◂ (c "Tree" ((c "Tree" ((v "a") ◂ (v "a") ◂ (v "a") ◂ nil)) ◂ (c "Tree" ((v "a") ◂ (v "a") ◂ (v "a") ◂ nil)) ◂ (c "Tree" ((v "a") ◂ (v "a") ◂ (v "a") ◂ nil)) ◂ nil)) ◂ (c "Tree" ((c "Tree" ((v "a") ◂ (v "a") ◂ (v "a") ◂ nil)) ◂ (c "Tree" ((v "a") ◂ (v "a") ◂ (v "a") ◂ nil)) ◂ (c "Tree" ((v "a") ◂ (v "a") ◂ (v "a") ◂ nil)) ◂ nil)) ◂ nil)) ◂ (c "Tree" ((c "Tree" ((c "Tree" ((v "a") ◂ (v "a") ◂ (v "a") ◂ nil)) ◂ (c "Tree" ((v "a") ◂ (v "a") ◂ (v "a") ◂ nil)) ◂ (c "Tree" ((v "a") ◂ (v "a") ◂ (v "a") ◂ nil)) ◂ nil)) ◂ (c "Tree" ((c "Tree" ((v "a") ◂ (v "a") ◂ (v "a") ◂ nil)) ◂ (c "Tree" ((v "a") ◂ (v "a") ◂ (v "a") ◂ nil)) ◂ (c "Tree" ((v "a") ◂ (v "a") ◂ (v "a") ◂ nil)) ◂ nil)) ◂ (c "Tree" ((c "Tree" ((v "a") ◂ (v "a") ◂ (v "a") ◂ nil)) ◂ (c "Tree" ((v "a") ◂ (v "a") ◂ (v "a") ◂ nil)) ◂ (c "Tree" ((v "a") ◂ (v "a") ◂ (v "a") ◂ nil)) ◂ nil)) ◂ nil)) ◂ nil)) ◂ (c "Pair" ((c "Tree" ((c "Tree" ((c "Tree" ((v "a") ◂ (v "a") ◂ (v "a") ◂ nil)) ◂ (c "Tree" ((v "a") ◂ (v "a") ◂ (v "a") ◂ nil)) ◂ (c "Tree" ((v "a") ◂ (v "a") ◂ (v "a") ◂ nil)) ◂ nil)) ◂ (c "Tree" ((c "Tree" ((v "a") ◂ (v "a") ◂ (v "a") ◂ nil)) ◂ (c "Tree" ((v "a") ◂ (v "a") ◂ (v "a") ◂ nil)) ◂ (c "Tree" ((v "a") ◂ (v "a") ◂ (v "a") ◂ nil)) ◂ nil)) ◂ (c "Tree" ((c "Tree" ((v "a") ◂ (v "a") ◂ (v "a") ◂ nil)) ◂ (c "Tree" ((v "a") ◂ (v "a") ◂ (v "a") ◂ nil)) ◂ (c "Tree" ((v "a") ◂ (v "a") ◂ (v "a") ◂ nil)) ◂ nil)) ◂ nil)) ◂ (c "Tree" ((c "Tree" ((c "Tree" ((v "a") ◂ (v "a") ◂ (v "a") ◂ nil)) ◂ (c "Tree" ((v "a") ◂ (v "a") ◂ (v "a") ◂ nil)) ◂ (c "Tree" ((v "a") ◂ (v "a") ◂ (v "a") ◂ nil)) ◂ nil)) ◂ (c "Tree" ((c "Tree" ((v "a") ◂ (v "a") ◂ (v "a") ◂ nil)) ◂ (c "Tree" ((v "a") ◂ (v "a") ◂ (v "a") ◂ nil)) ◂ (c "Tree" ((v "a") ◂ (v "a") ◂ (v "a") ◂ nil)) ◂ nil)) ◂ (c "Tree" ((c "Tree" ((v "a") ◂ (v "a") ◂ (v "a") ◂ nil)) ◂ (c "Tree" ((v "a") ◂ (v "a") ◂ (v "a") ◂ nil)) ◂ (c "Tree" ((v "a") ◂ (v "a") ◂ (v "a") ◂ nil)) ◂ nil)) ◂ nil)) ◂ nil)) ◂ (c "Pair" ((c "Tree" ((c "Tree" ((c "Tree" ((v "a") ◂ (v "a") ◂ (v "a") ◂ nil)) ◂ (c "Tree" ((v "a") ◂ (v "a") ◂ (v "a") ◂ nil)) ◂ (c "Tree" ((v "a") ◂ (v "a") ◂ (v "a") ◂ nil)) ◂ nil)) ◂ (c "Tree" ((c "Tree" ((v "a") ◂ (v "a") ◂ (v "a") ◂ nil)) ◂ (c "Tree" ((v "a") ◂ (v "a") ◂ (v "a") ◂ nil)) ◂ (c "Tree" ((v "a") ◂ (v "a") ◂ (v "a") ◂ nil)) ◂ nil)) ◂ (c "Tree" ((c "Tree" ((v "a") ◂ (v "a") ◂ (v "a") ◂ nil)) ◂ (c "Tree" ((v "a") ◂ (v "a") ◂ (v "a") ◂ nil)) ◂ (c "Tree" ((v "a") ◂ (v "a") ◂ (v "a") ◂ nil)) ◂ nil)) ◂ nil)) ◂ (c "Tree" ((c "Tree" ((c "Tree" ((v "a") ◂ (v "a") ◂ (v "a") ◂ nil)) ◂ (c "Tree" ((v "a") ◂ (v "a") ◂ (v "a") ◂ nil)) ◂ (c "Tree" ((v "a") ◂ (v "a") ◂ (v "a") ◂ nil)) ◂ nil)) ◂ (c "Tree" ((c "Tree" ((v "a") ◂ (v "a") ◂ (v "a") ◂ nil)) ◂ (c "Tree" ((v "a") ◂ (v "a") ◂ (v "a") ◂ nil)) ◂ (c "Tree" ((v "a") ◂ (v "a") ◂ (v "a") ◂ nil)) ◂ nil)) ◂ (c "Tree" ((c "Tree" ((v "a") ◂ (v "a") ◂ (v "a") ◂ nil)) ◂ (c "Tree" ((v "a") ◂ (v "a") ◂ (v "a") ◂ nil)) ◂ (c "Tree" ((v "a") ◂ (v "a") ◂ (v "a") ◂ nil)) ◂ nil)) ◂ nil)) ◂ nil)) ◂ nil))) ◂ nil)) ◂ nil)) ◂ (c "Pair" ((c "Tree" ((arrow (c "Tree" ((c "Pair" ((c "Tree" ((c "Tree" ((c "Tree" ((v "a") ◂ (v "a") ◂ (v "a") ◂ nil)) ◂ (c "Tree" ((v "a") ◂ (v "a") ◂ (v "a") ◂ nil)) ◂ (c "Tree" ((v "a") ◂ (v "a") ◂ (v "a") ◂ nil)) ◂ nil)) ◂ (c "Tree" ((c "Tree" ((v "a") ◂ (v "a") ◂ (v "a") ◂ nil)) ◂ (c "Tree" ((v "a") ◂ (v "a") ◂ (v "a") ◂ nil)) ◂ (c "Tree" ((v "a") ◂ (v "a") ◂ (v "a") ◂ nil)) ◂ nil)) ◂ (c "Tree" ((c "Tree" ((v "a") ◂ (v "a") ◂ (v "a") ◂ nil)) ◂ (c "Tree" ((v "a") ◂ (v "a") ◂ (v "a") ◂ nil)) ◂ (c "Tree" ((v "a") ◂ (v "a") ◂ (v "a") ◂ nil)) ◂ nil)) ◂ nil)) ◂ (c "Tree" ((c "Tree" ((c "Tree" ((v "a") ◂ (v "a") ◂ (v "a") ◂ nil)) ◂ (c "Tree" ((v "a") ◂ (v "a") ◂ (v "a") ◂ nil)) ◂ (c "Tree" ((v "a") ◂ (v "a") ◂ (v "a") ◂ nil)) ◂ nil)) ◂ (c "Tree" ((c "Tree" ((v "a") ◂ (v "a") ◂ (v "a") ◂ nil)) ◂ (c "Tree" ((v "a") ◂ (v "a") ◂ (v "a") ◂ nil)) ◂ (c "Tree" ((v "a") ◂ (v "a") ◂ (v "a") ◂ nil)) ◂ nil)) ◂ (c "Tree" ((c "Tree" ((v "a") ◂ (v "a") ◂ (v "a") ◂ nil)) ◂ (c "Tree" ((v "a") ◂ (v "a") ◂ (v "a") ◂ nil)) ◂ (c "Tree" ((v "a") ◂ (v "a") ◂ (v "a") ◂ nil)) ◂ nil)) ◂ nil)) ◂ nil)) ◂ (c "Pair" ((c "Tree" ((c "Tree" ((c "Tree" ((v "a") ◂ (v "a") ◂ (v "a") ◂ nil)) ◂ (c "Tree" ((v "a") ◂ (v "a") ◂ (v "a") ◂ nil)) ◂ (c "Tree" ((v "a") ◂ (v "a") ◂ (v "a") ◂ nil)) ◂ nil)) ◂ (c "Tree" ((c "Tree" ((v "a") ◂ (v "a") ◂ (v "a") ◂ nil)) ◂ (c "Tree" ((v "a") ◂ (v "a") ◂ (v "a") ◂ nil)) ◂ (c "Tree" ((v "a") ◂ (v "a") ◂ (v "a") ◂ nil)) ◂ nil)) ◂ (c "Tree" ((c "Tree" ((v "a") ◂ (v "a") ◂ (v "a") ◂ nil)) ◂ (c "Tree" ((v "a") ◂ (v "a") ◂ (v "a") ◂ nil)) ◂ (c "Tree" ((v "a") ◂ (v "a") ◂ (v "a") ◂ nil)) ◂ nil)) ◂ nil)) ◂ (c "Tree" ((c "Tree" ((c "Tree" ((v "a") ◂ (v "a") ◂ (v "a") ◂ nil)) ◂ (c "Tree" ((v "a") ◂ (v "a") ◂ (v "a") ◂ nil)) ◂ (c "Tree" ((v "a") ◂ (v "a") ◂ (v "a") ◂ nil)) ◂ nil)) ◂ (c "Tree" ((c "Tree" ((v "a") ◂ (v "a") ◂ (v "a") ◂ nil)) ◂ (c "Tree" ((v "a") ◂ (v "a") ◂ (v "a") ◂ nil)) ◂ (c "Tree" ((v "a") ◂ (v "a") ◂ (v "a") ◂ nil)) ◂ nil)) ◂ (c "Tree" ((c "Tree" ((v "a") ◂ (v "a") ◂ (v "a") ◂ nil)) ◂ (c "Tree" ((v "a") ◂ (v "a") ◂ (v "a") ◂ nil)) ◂ (c "Tree" ((v "a") ◂ (v "a") ◂ (v "a") ◂ nil)) ◂ nil)) ◂ nil)) ◂ nil)) ◂ (c "Pair" ((c "Tree" ((c "Tree" ((c "Tree" ((v "a") ◂ (v "a") ◂ (v "a") ◂ nil)) ◂ (c "Tree" ((v "a") ◂ (v "a") ◂ (v "a") ◂ nil)) ◂ (c "Tree" ((v "a") ◂ (v "a") ◂ (v "a") ◂ nil)) ◂ nil)) ◂ (c "Tree" ((c "Tree" ((v "a") ◂ (v "a") ◂ (v "a") ◂ nil)) ◂ (c "Tree" ((v "a") ◂ (v "a") ◂ (v "a") ◂ nil)) ◂ (c "Tree" ((v "a") ◂ (v "a") ◂ (v "a") ◂ nil)) ◂ nil)) ◂ (c "Tree" ((c "Tree" ((v "a") ◂ (v "a") ◂ (v "a") ◂ nil)) ◂ (c "Tree" ((v "a") ◂ (v "a") ◂ (v "a") ◂ nil)) ◂ (c "Tree" ((v "a") ◂ (v "a") ◂ (v "a") ◂ nil)) ◂ nil)) ◂ nil)) ◂ (c "Tree" ((c "Tree" ((c "Tree" ((v "a") ◂ (v "a") ◂ (v "a") ◂ nil)) ◂ (c "Tree" ((v "a") ◂ (v "a") ◂ (v "a") ◂ nil)) ◂ (c "Tree" ((v "a") ◂ (v "a") ◂ (v "a") ◂ nil)) ◂ nil)) ◂ (c "Tree" ((c "Tree" ((v "a") ◂ (v "a") ◂ (v "a") ◂ nil)) ◂ (c "Tree" ((v "a") ◂ (v "a") ◂ (v "a") ◂ nil)) ◂ (c "Tree" ((v "a") ◂ (v "a") ◂ (v "a") ◂ nil)) ◂ nil)) ◂ (c "Tree" ((c "Tree" ((v "a") ◂ (v "a") ◂ (v "a") ◂ nil)) ◂ (c "Tree" ((v "a") ◂ (v "a") ◂ (v "a") ◂ nil)) ◂ (c "Tree" ((v "a") ◂ (v "a") ◂ (v "a") ◂ nil)) ◂ nil)) ◂ nil)) ◂ nil)) ◂ nil)) (c "Tree" ((c "Pair" ((c "Tree" ((c "Tree" ((c "Tree" ((v "a") ◂ (v "a") ◂ (v "a") ◂ nil)) ◂ (c "Tree" ((v "a") ◂ (v "a") ◂ (v "a") ◂ nil)) ◂ (c "Tree" ((v "a") ◂ (v "a") ◂ (v "a") ◂ nil)) ◂ nil)) ◂ (c "Tree" ((c "Tree" ((v "a") ◂ (v "a") ◂ (v "a") ◂ nil)) ◂ (c "Tree" ((v "a") ◂ (v "a") ◂ (v "a") ◂ nil)) ◂ (c "Tree" ((v "a") ◂ (v "a") ◂ (v "a") ◂ nil)) ◂ nil)) ◂ (c "Tree" ((c "Tree" ((v "a") ◂ (v "a") ◂ (v "a") ◂ nil)) ◂ (c "Tree" ((v "a") ◂ (v "a") ◂ (v "a") ◂ nil)) ◂ (c "Tree" ((v "a") ◂ (v "a") ◂ (v "a") ◂ nil)) ◂ nil)) ◂ nil)) ◂ (c "Tree" ((c "Tree" ((c "Tree" ((v "a") ◂ (v "a") ◂ (v "a") ◂ nil)) ◂ (c "Tree" ((v "a") ◂ (v "a") ◂ (v "a") ◂ nil)) ◂ (c "Tree" ((v "a") ◂ (v "a") ◂ (v "a") ◂ nil)) ◂ nil)) ◂ (c "Tree" ((c "Tree" ((v "a") ◂ (v "a") ◂ (v "a") ◂ nil)) ◂ (c "Tree" ((v "a") ◂ (v "a") ◂ (v "a") ◂ nil)) ◂ (c "Tree" ((v "a") ◂ (v "a") ◂ (v "a") ◂ nil)) ◂ nil)) ◂ (c "Tree" ((c "Tree" ((v "a") ◂ (v "a") ◂ (v "a") ◂ nil)) ◂ (c "Tree" ((v "a") ◂ (v "a") ◂ (v "a") ◂ nil)) ◂ (c "Tree" ((v "a") ◂ (v "a") ◂ (v "a") ◂ nil)) ◂ nil)) ◂ nil)) ◂ nil)) ◂ (c "Pair" ((c "Tree" ((c "Tree" ((c "Tree" ((v "a") ◂ (v "a") ◂ (v "a") ◂ nil)) ◂ (c "Tree" ((v "a") ◂ (v "a") ◂ (v "a") ◂ nil)) ◂ (c "Tree" ((v "a") ◂ (v "a") ◂ (v "a") ◂ nil)) ◂ nil)) ◂ (c "Tree" ((c "Tree" ((v "a") ◂ (v "a") ◂ (v "a") ◂ nil)) ◂ (c "Tree" ((v "a") ◂ (v "a") ◂ (v "a") ◂ nil)) ◂ (c "Tree" ((v "a") ◂ (v "a") ◂ (v "a") ◂ nil)) ◂ nil)) ◂ (c "Tree" ((c "Tree" ((v "a") ◂ (v "a") ◂ (v "a") ◂ nil)) ◂ (c "Tree" ((v "a") ◂ (v "a") ◂ (v "a") ◂ nil)) ◂ (c "Tree" ((v "a") ◂ (v "a") ◂ (v "a") ◂ nil)) ◂ nil)) ◂ nil)) ◂ (c "Tree" ((c "Tree" ((c "Tree" ((v "a") ◂ (v "a") ◂ (v "a") ◂ nil)) ◂ (c "Tree" ((v "a") ◂ (v "a") ◂ (v "a") ◂ nil)) ◂ (c "Tree" ((v "a") ◂ (v "a") ◂ (v "a") ◂ nil)) ◂ nil)) ◂ (c "Tree" ((c "Tree" ((v "a") ◂ (v "a") ◂ (v "a") ◂ nil)) ◂ (c "Tree" ((v "a") ◂ (v "a") ◂ (v "a") ◂ nil)) ◂ (c "Tree" ((v "a") ◂ (v "a") ◂ (v "a") ◂ nil)) ◂ nil)) ◂ (c "Tree" ((c "Tree" ((v "a") ◂ (v "a") ◂ (v "a") ◂ nil)) ◂ (c "Tree" ((v "a") ◂ (v "a") ◂ (v "a") ◂ nil)) ◂ (c "Tree" ((v "a") ◂ (v "a") ◂ (v "a") ◂ nil)) ◂ nil)) ◂ nil)) ◂ nil)) ◂ (c "Pair" ((c "Tree" ((c "Tree" ((c "Tree" ((v "a") ◂ (v "a") ◂ (v "a") ◂ nil)) ◂ (c "Tree" ((v "a") ◂ (v "a") ◂ (v "a") ◂ nil)) ◂ (c "Tree" ((v "a") ◂ (v "a") ◂ (v "a") ◂ nil)) ◂ nil)) ◂ (c "Tree" ((c "Tree" ((v "a") ◂ (v "a") ◂ (v "a") ◂ nil)) ◂ (c "Tree" ((v "a") ◂ (v "a") ◂ (v "a") ◂ nil)) ◂ (c "Tree" ((v "a") ◂ (v "a") ◂ (v "a") ◂ nil)) ◂ nil)) ◂ (c "Tree" ((c "Tree" ((v "a") ◂ (v "a") ◂ (v "a") ◂ nil)) ◂ (c "Tree" ((v "a") ◂ (v "a") ◂ (v "a") ◂ nil)) ◂ (c "Tree" ((v "a") ◂ (v "a") ◂ (v "a") ◂ nil)) ◂ nil)) ◂ nil)) ◂ (c "Tree" ((c "Tree" ((c "Tree" ((v "a") ◂ (v "a") ◂ (v "a") ◂ nil)) ◂ (c "Tree" ((v "a") ◂ (v "a") ◂ (v "a") ◂ nil)) ◂ (c "Tree" ((v "a") ◂ (v "a") ◂ (v "a") ◂ nil)) ◂ nil)) ◂ (c "Tree" ((c "Tree" ((v "a") ◂ (v "a") ◂ (v "a") ◂ nil)) ◂ (c "Tree" ((v "a") ◂ (v "a") ◂ (v "a") ◂ nil)) ◂ (c "Tree" ((v "a") ◂ (v "a") ◂ (v "a") ◂ nil)) ◂ nil)) ◂ (c "Tree" ((c "Tree" ((v "a") ◂ (v "a") ◂ (v "a") ◂ nil)) ◂ (c "Tree" ((v "a") ◂ (v "a") ◂ (v "a") ◂ nil)) ◂ (c "Tree" ((v "a") ◂ (v "a") ◂ (v "a") ◂ nil)) ◂ nil)) ◂ nil)) ◂ nil)) ◂ nil))) ◂ (arrow (c "Tree" ((c "Pair" ((c "Tree" ((c "Tree" ((c "Tree" ((v "a") ◂ (v "a") ◂ (v "a") ◂ nil)) ◂ (c "Tree" ((v "a") ◂ (v "a") ◂ (v "a") ◂ nil)) ◂ (c "Tree" ((v "a") ◂ (v "a") ◂ (v "a") ◂ nil)) ◂ nil)) ◂ (c "Tree" ((c "Tree" ((v "a") ◂ (v "a") ◂ (v "a") ◂ nil)) ◂ (c "Tree" ((v "a") ◂ (v "a") ◂ (v "a") ◂ nil)) ◂ (c "Tree" ((v "a") ◂ (v "a") ◂ (v "a") ◂ nil)) ◂ nil)) ◂ (c "Tree" ((c "Tree" ((v "a") ◂ (v "a") ◂ (v "a") ◂ nil)) ◂ (c "Tree" ((v "a") ◂ (v "a") ◂ (v "a") ◂ nil)) ◂ (c "Tree" ((v "a") ◂ (v "a") ◂ (v "a") ◂ nil)) ◂ nil)) ◂ nil)) ◂ (c "Tree" ((c "Tree" ((c "Tree" ((v "a") ◂ (v "a") ◂ (v "a") ◂ nil)) ◂ (c "Tree" ((v "a") ◂ (v "a") ◂ (v "a") ◂ nil)) ◂ (c "Tree" ((v "a") ◂ (v "a") ◂ (v "a") ◂ nil)) ◂ nil)) ◂ (c "Tree" ((c "Tree" ((v "a") ◂ (v "a") ◂ (v "a") ◂ nil)) ◂ (c "Tree" ((v "a") ◂ (v "a") ◂ (v "a") ◂ nil)) ◂ (c "Tree" ((v "a") ◂ (v "a") ◂ (v "a") ◂ nil)) ◂ nil)) ◂ (c "Tree" ((c "Tree" ((v "a") ◂ (v "a") ◂ (v "a") ◂ nil)) ◂ (c "Tree" ((v "a") ◂ (v "a") ◂ (v "a") ◂ nil)) ◂ (c "Tree" ((v "a") ◂ (v "a") ◂ (v "a") ◂ nil)) ◂ nil)) ◂ nil)) ◂ nil)) ◂ (c "Pair" ((c "Tree" ((c "Tree" ((c "Tree" ((v "a") ◂ (v "a") ◂ (v "a") ◂ nil)) ◂ (c "Tree" ((v "a") ◂ (v "a") ◂ (v "a") ◂ nil)) ◂ (c "Tree" ((v "a") ◂ (v "a") ◂ (v "a") ◂ nil)) ◂ nil)) ◂ (c "Tree" ((c "Tree" ((v "a") ◂ (v "a") ◂ (v "a") ◂ nil)) ◂ (c "Tree" ((v "a") ◂ (v "a") ◂ (v "a") ◂ nil)) ◂ (c "Tree" ((v "a") ◂ (v "a") ◂ (v "a") ◂ nil)) ◂ nil)) ◂ (c "Tree" ((c "Tree" ((v "a") ◂ (v "a") ◂ (v "a") ◂ nil)) ◂ (c "Tree" ((v "a") ◂ (v "a") ◂ (v "a") ◂ nil)) ◂ (c "Tree" ((v "a") ◂ (v "a") ◂ (v "a") ◂ nil)) ◂ nil)) ◂ nil)) ◂ (c "Tree" ((c "Tree" ((c "Tree" ((v "a") ◂ (v "a") ◂ (v "a") ◂ nil)) ◂ (c "Tree" ((v "a") ◂ (v "a") ◂ (v "a") ◂ nil)) ◂ (c "Tree" ((v "a") ◂ (v "a") ◂ (v "a") ◂ nil)) ◂ nil)) ◂ (c "Tree" ((c "Tree" ((v "a") ◂ (v "a") ◂ (v "a") ◂ nil)) ◂ (c "Tree" ((v "a") ◂ (v "a") ◂ (v "a") ◂ nil)) ◂ (c "Tree" ((v "a") ◂ (v "a") ◂ (v "a") ◂ nil)) ◂ nil)) ◂ (c "Tree" ((c "Tree" ((v "a") ◂ (v "a") ◂ (v "a") ◂ nil)) ◂ (c "Tree" ((v "a") ◂ (v "a") ◂ (v "a") ◂ nil)) ◂ (c "Tree" ((v "a") ◂ (v "a") ◂ (v "a") ◂ nil)) ◂ nil)) ◂ nil)) ◂ nil)) ◂ (c "Pair" ((c "Tree" ((c "Tree" ((c "Tree" ((v "a") ◂ (v "a") ◂ (v "a") ◂ nil)) ◂ (c "Tree" ((v "a") ◂ (v "a") ◂ (v "a") ◂ nil)) ◂ (c "Tree" ((v "a") ◂ (v "a") ◂ (v "a") ◂ nil)) ◂ nil)) ◂ (c "Tree" ((c "Tree" ((v "a") ◂ (v "a") ◂ (v "a") ◂ nil)) ◂ (c "Tree" ((v "a") ◂ (v "a") ◂ (v "a") ◂ nil)) ◂ (c "Tree" ((v "a") ◂ (v "a") ◂ (v "a") ◂ nil)) ◂ nil)) ◂ (c "Tree" ((c "Tree" ((v "a") ◂ (v "a") ◂ (v "a") ◂ nil)) ◂ (c "Tree" ((v "a") ◂ (v "a") ◂ (v "a") ◂ nil)) ◂ (c "Tree" ((v "a") ◂ (v "a") ◂ (v "a") ◂ nil)) ◂ nil)) ◂ nil)) ◂ (c "Tree" ((c "Tree" ((c "Tree" ((v "a") ◂ (v "a") ◂ (v "a") ◂ nil)) ◂ (c "Tree" ((v "a") ◂ (v "a") ◂ (v "a") ◂ nil)) ◂ (c "Tree" ((v "a") ◂ (v "a") ◂ (v "a") ◂ nil)) ◂ nil)) ◂ (c "Tree" ((c "Tree" ((v "a") ◂ (v "a") ◂ (v "a") ◂ nil)) ◂ (c "Tree" ((v "a") ◂ (v "a") ◂ (v "a") ◂ nil)) ◂ (c "Tree" ((v "a") ◂ (v "a") ◂ (v "a") ◂ nil)) ◂ nil)) ◂ (c "Tree" ((c "Tree" ((v "a") ◂ (v "a") ◂ (v "a") ◂ nil)) ◂ (c "Tree" ((v "a") ◂ (v "a") ◂ (v "a") ◂ nil)) ◂ (c "Tree" ((v "a") ◂ (v "a") ◂ (v "a") ◂ nil)) ◂ nil)) ◂ nil)) ◂ nil)) ◂ nil)) (c "Tree" ((c "Pair" ((c "Tree" ((c "Tree" ((c "Tree" ((v "a") ◂ (v "a") ◂ (v "a") ◂ nil)) ◂ (c "Tree" ((v "a") ◂ (v "a") ◂ (v "a") ◂ nil)) ◂ (c "Tree" ((v "a") ◂ (v "a") ◂ (v "a") ◂ nil)) ◂ nil)) ◂ (c "Tree" ((c "Tree" ((v "a") ◂ (v "a") ◂ (v "a") ◂ nil)) ◂ (c "Tree" ((v "a") ◂ (v "a") ◂ (v "a") ◂ nil)) ◂ (c "Tree" ((v "a") ◂ (v "a") ◂ (v "a") ◂ nil)) ◂ nil)) ◂ (c "Tree" ((c "Tree" ((v "a") ◂ (v "a") ◂ (v "a") ◂ nil)) ◂ (c "Tree" ((v "a") ◂ (v "a") ◂ (v "a") ◂ nil)) ◂ (c "Tree" ((v "a") ◂ (v "a") ◂ (v "a") ◂ nil)) ◂ nil)) ◂ nil)) ◂ (c "Tree" ((c "Tree" ((c "Tree" ((v "a") ◂ (v "a") ◂ (v "a") ◂ nil)) ◂ (c "Tree" ((v "a") ◂ (v "a") ◂ (v "a") ◂ nil)) ◂ (c "Tree" ((v "a") ◂ (v "a") ◂ (v "a") ◂ nil)) ◂ nil)) ◂ (c "Tree" ((c "Tree" ((v "a") ◂ (v "a") ◂ (v "a") ◂ nil)) ◂ (c "Tree" ((v "a") ◂ (v "a") ◂ (v "a") ◂ nil)) ◂ (c "Tree" ((v "a") ◂ (v "a") ◂ (v "a") ◂ nil)) ◂ nil)) ◂ (c "Tree" ((c "Tree" ((v "a") ◂ (v "a") ◂ (v "a") ◂ nil)) ◂ (c "Tree" ((v "a") ◂ (v "a") ◂ (v "a") ◂ nil)) ◂ (c "Tree" ((v "a") ◂ (v "a") ◂ (v "a") ◂ nil)) ◂ nil)) ◂ nil)) ◂ nil)) ◂ (c "Pair" ((c "Tree" ((c "Tree" ((c "Tree" ((v "a") ◂ (v "a") ◂ (v "a") ◂ nil)) ◂ (c "Tree" ((v "a") ◂ (v "a") ◂ (v "a") ◂ nil)) ◂ (c "Tree" ((v "a") ◂ (v "a") ◂ (v "a") ◂ nil)) ◂ nil)) ◂ (c "Tree" ((c "Tree" ((v "a") ◂ (v "a") ◂ (v "a") ◂ nil)) ◂ (c "Tree" ((v "a") ◂ (v "a") ◂ (v "a") ◂ nil)) ◂ (c "Tree" ((v "a") ◂ (v "a") ◂ (v "a") ◂ nil)) ◂ nil)) ◂ (c "Tree" ((c "Tree" ((v "a") ◂ (v "a") ◂ (v "a") ◂ nil)) ◂ (c "Tree" ((v "a") ◂ (v "a") ◂ (v "a") ◂ nil)) ◂ (c "Tree" ((v "a") ◂ (v "a") ◂ (v "a") ◂ nil)) ◂ nil)) ◂ nil)) ◂ (c "Tree" ((c "Tree" ((c "Tree" ((v "a") ◂ (v "a") ◂ (v "a") ◂ nil)) ◂ (c "Tree" ((v "a") ◂ (v "a") ◂ (v "a") ◂ nil)) ◂ (c "Tree" ((v "a") ◂ (v "a") ◂ (v "a") ◂ nil)) ◂ nil)) ◂ (c "Tree" ((c "Tree" ((v "a") ◂ (v "a") ◂ (v "a") ◂ nil)) ◂ (c "Tree" ((v "a") ◂ (v "a") ◂ (v "a") ◂ nil)) ◂ (c "Tree" ((v "a") ◂ (v "a") ◂ (v "a") ◂ nil)) ◂ nil)) ◂ (c "Tree" ((c "Tree" ((v "a") ◂ (v "a") ◂ (v "a") ◂ nil)) ◂ (c "Tree" ((v "a") ◂ (v "a") ◂ (v "a") ◂ nil)) ◂ (c "Tree" ((v "a") ◂ (v "a") ◂ (v "a") ◂ nil)) ◂ nil)) ◂ nil)) ◂ nil)) ◂ (c "Pair" ((c "Tree" ((c "Tree" ((c "Tree" ((v "a") ◂ (v "a") ◂ (v "a") ◂ nil)) ◂ (c "Tree" ((v "a") ◂ (v "a") ◂ (v "a") ◂ nil)) ◂ (c "Tree" ((v "a") ◂ (v "a") ◂ (v "a") ◂ nil)) ◂ nil)) ◂ (c "Tree" ((c "Tree" ((v "a") ◂ (v "a") ◂ (v "a") ◂ nil)) ◂ (c "Tree" ((v "a") ◂ (v "a") ◂ (v "a") ◂ nil)) ◂ (c "Tree" ((v "a") ◂ (v "a") ◂ (v "a") ◂ nil)) ◂ nil)) ◂ (c "Tree" ((c "Tree" ((v "a") ◂ (v "a") ◂ (v "a") ◂ nil)) ◂ (c "Tree" ((v "a") ◂ (v "a") ◂ (v "a") ◂ nil)) ◂ (c "Tree" ((v "a") ◂ (v "a") ◂ (v "a") ◂ nil)) ◂ nil)) ◂ nil)) ◂ (c "Tree" ((c "Tree" ((c "Tree" ((v "a") ◂ (v "a") ◂ (v "a") ◂ nil)) ◂ (c "Tree" ((v "a") ◂ (v "a") ◂ (v "a") ◂ nil)) ◂ (c "Tree" ((v "a") ◂ (v "a") ◂ (v "a") ◂ nil)) ◂ nil)) ◂ (c "Tree" ((c "Tree" ((v "a") ◂ (v "a") ◂ (v "a") ◂ nil)) ◂ (c "Tree" ((v "a") ◂ (v "a") ◂ (v "a") ◂ nil)) ◂ (c "Tree" ((v "a") ◂ (v "a") ◂ (v "a") ◂ nil)) ◂ nil)) ◂ (c "Tree" ((c "Tree" ((v "a") ◂ (v "a") ◂ (v "a") ◂ nil)) ◂ (c "Tree" ((v "a") ◂ (v "a") ◂ (v "a") ◂ nil)) ◂ (c "Tree" ((v "a") ◂ (v "a") ◂ (v "a") ◂ nil)) ◂ nil)) ◂ nil)) ◂ nil)) ◂ nil))) ◂ (arrow (c "Tree" ((c "Pair" ((c "Tree" ((c "Tree" ((c "Tree" ((v "a") ◂ (v "a") ◂ (v "a") ◂ nil)) ◂ (c "Tree" ((v "a") ◂ (v "a") ◂ (v "a") ◂ nil)) ◂ (c "Tree" ((v "a") ◂ (v "a") ◂ (v "a") ◂ nil)) ◂ nil)) ◂ (c "Tree" ((c "Tree" ((v "a") ◂ (v "a") ◂ (v "a") ◂ nil)) ◂ (c "Tree" ((v "a") ◂ (v "a") ◂ (v "a") ◂ nil)) ◂ (c "Tree" ((v "a") ◂ (v "a") ◂ (v "a") ◂ nil)) ◂ nil)) ◂ (c "Tree" ((c "Tree" ((v "a") ◂ (v "a") ◂ (v "a") ◂ nil)) ◂ (c "Tree" ((v "a") ◂ (v "a") ◂ (v "a") ◂ nil)) ◂ (c "Tree" ((v "a") ◂ (v "a") ◂ (v "a") ◂ nil)) ◂ nil)) ◂ nil)) ◂ (c "Tree" ((c "Tree" ((c "Tree" ((v "a") ◂ (v "a") ◂ (v "a") ◂ nil)) ◂ (c "Tree" ((v "a") ◂ (v "a") ◂ (v "a") ◂ nil)) ◂ (c "Tree" ((v "a") ◂ (v "a") ◂ (v "a") ◂ nil)) ◂ nil)) ◂ (c "Tree" ((c "Tree" ((v "a") ◂ (v "a") ◂ (v "a") ◂ nil)) ◂ (c "Tree" ((v "a") ◂ (v "a") ◂ (v "a") ◂ nil)) ◂ (c "Tree" ((v "a") ◂ (v "a") ◂ (v "a") ◂ nil)) ◂ nil)) ◂ (c "Tree" ((c "Tree" ((v "a") ◂ (v "a") ◂ (v "a") ◂ nil)) ◂ (c "Tree" ((v "a") ◂ (v "a") ◂ (v "a") ◂ nil)) ◂ (c "Tree" ((v "a") ◂ (v "a") ◂ (v "a") ◂ nil)) ◂ nil)) ◂ nil)) ◂ nil)) ◂ (c "Pair" ((c "Tree" ((c "Tree" ((c "Tree" ((v "a") ◂ (v "a") ◂ (v "a") ◂ nil)) ◂ (c "Tree" ((v "a") ◂ (v "a") ◂ (v "a") ◂ nil)) ◂ (c "Tree" ((v "a") ◂ (v "a") ◂ (v "a") ◂ nil)) ◂ nil)) ◂ (c "Tree" ((c "Tree" ((v "a") ◂ (v "a") ◂ (v "a") ◂ nil)) ◂ (c "Tree" ((v "a") ◂ (v "a") ◂ (v "a") ◂ nil)) ◂ (c "Tree" ((v "a") ◂ (v "a") ◂ (v "a") ◂ nil)) ◂ nil)) ◂ (c "Tree" ((c "Tree" ((v "a") ◂ (v "a") ◂ (v "a") ◂ nil)) ◂ (c "Tree" ((v "a") ◂ (v "a") ◂ (v "a") ◂ nil)) ◂ (c "Tree" ((v "a") ◂ (v "a") ◂ (v "a") ◂ nil)) ◂ nil)) ◂ nil)) ◂ (c "Tree" ((c "Tree" ((c "Tree" ((v "a") ◂ (v "a") ◂ (v "a") ◂ nil)) ◂ (c "Tree" ((v "a") ◂ (v "a") ◂ (v "a") ◂ nil)) ◂ (c "Tree" ((v "a") ◂ (v "a") ◂ (v "a") ◂ nil)) ◂ nil)) ◂ (c "Tree" ((c "Tree" ((v "a") ◂ (v "a") ◂ (v "a") ◂ nil)) ◂ (c "Tree" ((v "a") ◂ (v "a") ◂ (v "a") ◂ nil)) ◂ (c "Tree" ((v "a") ◂ (v "a") ◂ (v "a") ◂ nil)) ◂ nil)) ◂ (c "Tree" ((c "Tree" ((v "a") ◂ (v "a") ◂ (v "a") ◂ nil)) ◂ (c "Tree" ((v "a") ◂ (v "a") ◂ (v "a") ◂ nil)) ◂ (c "Tree" ((v "a") ◂ (v "a") ◂ (v "a") ◂ nil)) ◂ nil)) ◂ nil)) ◂ nil)) ◂ (c "Pair" ((c "Tree" ((c "Tree" ((c "Tree" ((v "a") ◂ (v "a") ◂ (v "a") ◂ nil)) ◂ (c "Tree" ((v "a") ◂ (v "a") ◂ (v "a") ◂ nil)) ◂ (c "Tree" ((v "a") ◂ (v "a") ◂ (v "a") ◂ nil)) ◂ nil)) ◂ (c "Tree" ((c "Tree" ((v "a") ◂ (v "a") ◂ (v "a") ◂ nil)) ◂ (c "Tree" ((v "a") ◂ (v "a") ◂ (v "a") ◂ nil)) ◂ (c "Tree" ((v "a") ◂ (v "a") ◂ (v "a") ◂ nil)) ◂ nil)) ◂ (c "Tree" ((c "Tree" ((v "a") ◂ (v "a") ◂ (v "a") ◂ nil)) ◂ (c "Tree" ((v "a") ◂ (v "a") ◂ (v "a") ◂ nil)) ◂ (c "Tree" ((v "a") ◂ (v "a") ◂ (v "a") ◂ nil)) ◂ nil)) ◂ nil)) ◂ (c "Tree" ((c "Tree" ((c "Tree" ((v "a") ◂ (v "a") ◂ (v "a") ◂ nil)) ◂ (c "Tree" ((v "a") ◂ (v "a") ◂ (v "a") ◂ nil)) ◂ (c "Tree" ((v "a") ◂ (v "a") ◂ (v "a") ◂ nil)) ◂ nil)) ◂ (c "Tree" ((c "Tree" ((v "a") ◂ (v "a") ◂ (v "a") ◂ nil)) ◂ (c "Tree" ((v "a") ◂ (v "a") ◂ (v "a") ◂ nil)) ◂ (c "Tree" ((v "a") ◂ (v "a") ◂ (v "a") ◂ nil)) ◂ nil)) ◂ (c "Tree" ((c "Tree" ((v "a") ◂ (v "a") ◂ (v "a") ◂ nil)) ◂ (c "Tree" ((v "a") ◂ (v "a") ◂ (v "a") ◂ nil)) ◂ (c "Tree" ((v "a") ◂ (v "a") ◂ (v "a") ◂ nil)) ◂ nil)) ◂ nil)) ◂ nil)) ◂ nil)) (c "Tree" ((c "Pair" ((c "Tree" ((c "Tree" ((c "Tree" ((v "a") ◂ (v "a") ◂ (v "a") ◂ nil)) ◂ (c "Tree" ((v "a") ◂ (v "a") ◂ (v "a") ◂ nil)) ◂ (c "Tree" ((v "a") ◂ (v "a") ◂ (v "a") ◂ nil)) ◂ nil)) ◂ (c "Tree" ((c "Tree" ((v "a") ◂ (v "a") ◂ (v "a") ◂ nil)) ◂ (c "Tree" ((v "a") ◂ (v "a") ◂ (v "a") ◂ nil)) ◂ (c "Tree" ((v "a") ◂ (v "a") ◂ (v "a") ◂ nil)) ◂ nil)) ◂ (c "Tree" ((c "Tree" ((v "a") ◂ (v "a") ◂ (v "a") ◂ nil)) ◂ (c "Tree" ((v "a") ◂ (v "a") ◂ (v "a") ◂ nil)) ◂ (c "Tree" ((v "a") ◂ (v "a") ◂ (v "a") ◂ nil)) ◂ nil)) ◂ nil)) ◂ (c "Tree" ((c "Tree" ((c "Tree" ((v "a") ◂ (v "a") ◂ (v "a") ◂ nil)) ◂ (c "Tree" ((v "a") ◂ (v "a") ◂ (v "a") ◂ nil)) ◂ (c "Tree" ((v "a") ◂ (v "a") ◂ (v "a") ◂ nil)) ◂ nil)) ◂ (c "Tree" ((c "Tree" ((v "a") ◂ (v "a") ◂ (v "a") ◂ nil)) ◂ (c "Tree" ((v "a") ◂ (v "a") ◂ (v "a") ◂ nil)) ◂ (c "Tree" ((v "a") ◂ (v "a") ◂ (v "a") ◂ nil)) ◂ nil)) ◂ (c "Tree" ((c "Tree" ((v "a") ◂ (v "a") ◂ (v "a") ◂ nil)) ◂ (c "Tree" ((v "a") ◂ (v "a") ◂ (v "a") ◂ nil)) ◂ (c "Tree" ((v "a") ◂ (v "a") ◂ (v "a") ◂ nil)) ◂ nil)) ◂ nil)) ◂ nil)) ◂ (c "Pair" ((c "Tree" ((c "Tree" ((c "Tree" ((v "a") ◂ (v "a") ◂ (v "a") ◂ nil)) ◂ (c "Tree" ((v "a") ◂ (v "a") ◂ (v "a") ◂ nil)) ◂ (c "Tree" ((v "a") ◂ (v "a") ◂ (v "a") ◂ nil)) ◂ nil)) ◂ (c "Tree" ((c "Tree" ((v "a") ◂ (v "a") ◂ (v "a") ◂ nil)) ◂ (c "Tree" ((v "a") ◂ (v "a") ◂ (v "a") ◂ nil)) ◂ (c "Tree" ((v "a") ◂ (v "a") ◂ (v "a") ◂ nil)) ◂ nil)) ◂ (c "Tree" ((c "Tree" ((v "a") ◂ (v "a") ◂ (v "a") ◂ nil)) ◂ (c "Tree" ((v "a") ◂ (v "a") ◂ (v "a") ◂ nil)) ◂ (c "Tree" ((v "a") ◂ (v "a") ◂ (v "a") ◂ nil)) ◂ nil)) ◂ nil)) ◂ (c "Tree" ((c "Tree" ((c "Tree" ((v "a") ◂ (v "a") ◂ (v "a") ◂ nil)) ◂ (c "Tree" ((v "a") ◂ (v "a") ◂ (v "a") ◂ nil)) ◂ (c "Tree" ((v "a") ◂ (v "a") ◂ (v "a") ◂ nil)) ◂ nil)) ◂ (c "Tree" ((c "Tree" ((v "a") ◂ (v "a") ◂ (v "a") ◂ nil)) ◂ (c "Tree" ((v "a") ◂ (v "a") ◂ (v "a") ◂ nil)) ◂ (c "Tree" ((v "a") ◂ (v "a") ◂ (v "a") ◂ nil)) ◂ nil)) ◂ (c "Tree" ((c "Tree" ((v "a") ◂ (v "a") ◂ (v "a") ◂ nil)) ◂ (c "Tree" ((v "a") ◂ (v "a") ◂ (v "a") ◂ nil)) ◂ (c "Tree" ((v "a") ◂ (v "a") ◂ (v "a") ◂ nil)) ◂ nil)) ◂ nil)) ◂ nil)) ◂ (c "Pair" ((c "Tree" ((c "Tree" ((c "Tree" ((v "a") ◂ (v "a") ◂ (v "a") ◂ nil)) ◂ (c "Tree" ((v "a") ◂ (v "a") ◂ (v "a") ◂ nil)) ◂ (c "Tree" ((v "a") ◂ (v "a") ◂ (v "a") ◂ nil)) ◂ nil)) ◂ (c "Tree" ((c "Tree" ((v "a") ◂ (v "a") ◂ (v "a") ◂ nil)) ◂ (c "Tree" ((v "a") ◂ (v "a") ◂ (v "a") ◂ nil)) ◂ (c "Tree" ((v "a") ◂ (v "a") ◂ (v "a") ◂ nil)) ◂ nil)) ◂ (c "Tree" ((c "Tree" ((v "a") ◂ (v "a") ◂ (v "a") ◂ nil)) ◂ (c "Tree" ((v "a") ◂ (v "a") ◂ (v "a") ◂ nil)) ◂ (c "Tree" ((v "a") ◂ (v "a") ◂ (v "a") ◂ nil)) ◂ nil)) ◂ nil)) ◂ (c "Tree" ((c "Tree" ((c "Tree" ((v "a") ◂ (v "a") ◂ (v "a") ◂ nil)) ◂ (c "Tree" ((v "a") ◂ (v "a") ◂ (v "a") ◂ nil)) ◂ (c "Tree" ((v "a") ◂ (v "a") ◂ (v "a") ◂ nil)) ◂ nil)) ◂ (c "Tree" ((c "Tree" ((v "a") ◂ (v "a") ◂ (v "a") ◂ nil)) ◂ (c "Tree" ((v "a") ◂ (v "a") ◂ (v "a") ◂ nil)) ◂ (c "Tree" ((v "a") ◂ (v "a") ◂ (v "a") ◂ nil)) ◂ nil)) ◂ (c "Tree" ((c "Tree" ((v "a") ◂ (v "a") ◂ (v "a") ◂ nil)) ◂ (c "Tree" ((v "a") ◂ (v "a") ◂ (v "a") ◂ nil)) ◂ (c "Tree" ((v "a") ◂ (v "a") ◂ (v "a") ◂ nil)) ◂ nil)) ◂ nil)) ◂ nil)) ◂ nil))) ◂ nil)) ◂ (c "Tree" ((arrow (c "Tree" ((c "Pair" ((c "Tree" ((c "Tree" ((c "Tree" ((v "a") ◂ (v "a") ◂ (v "a") ◂ nil)) ◂ (c "Tree" ((v "a") ◂ (v "a") ◂ (v "a") ◂ nil)) ◂ (c "Tree" ((v "a") ◂ (v "a") ◂ (v "a") ◂ nil)) ◂ nil)) ◂ (c "Tree" ((c "Tree" ((v "a") ◂ (v "a") ◂ (v "a") ◂ nil)) ◂ (c "Tree" ((v "a") ◂ (v "a") ◂ (v "a") ◂ nil)) ◂ (c "Tree" ((v "a") ◂ (v "a") ◂ (v "a") ◂ nil)) ◂ nil)) ◂ (c "Tree" ((c "Tree" ((v "a") ◂ (v "a") ◂ (v "a") ◂ nil)) ◂ (c "Tree" ((v "a") ◂ (v "a") ◂ (v "a") ◂ nil)) ◂ (c "Tree" ((v "a") ◂ (v "a") ◂ (v "a") ◂ nil)) ◂ nil)) ◂ nil)) ◂ (c "Tree" ((c "Tree" ((c "Tree" ((v "a") ◂ (v "a") ◂ (v "a") ◂ nil)) ◂ (c "Tree" ((v "a") ◂ (v "a") ◂ (v "a") ◂ nil)) ◂ (c "Tree" ((v "a") ◂ (v "a") ◂ (v "a") ◂ nil)) ◂ nil)) ◂ (c "Tree" ((c "Tree" ((v "a") ◂ (v "a") ◂ (v "a") ◂ nil)) ◂ (c "Tree" ((v "a") ◂ (v "a") ◂ (v "a") ◂ nil)) ◂ (c "Tree" ((v "a") ◂ (v "a") ◂ (v "a") ◂ nil)) ◂ nil)) ◂ (c "Tree" ((c "Tree" ((v "a") ◂ (v "a") ◂ (v "a") ◂ nil)) ◂ (c "Tree" ((v "a") ◂ (v "a") ◂ (v "a") ◂ nil)) ◂ (c "Tree" ((v "a") ◂ (v "a") ◂ (v "a") ◂ nil)) ◂ nil)) ◂ nil)) ◂ nil)) ◂ (c "Pair" ((c "Tree" ((c "Tree" ((c "Tree" ((v "a") ◂ (v "a") ◂ (v "a") ◂ nil)) ◂ (c "Tree" ((v "a") ◂ (v "a") ◂ (v "a") ◂ nil)) ◂ (c "Tree" ((v "a") ◂ (v "a") ◂ (v "a") ◂ nil)) ◂ nil)) ◂ (c "Tree" ((c "Tree" ((v "a") ◂ (v "a") ◂ (v "a") ◂ nil)) ◂ (c "Tree" ((v "a") ◂ (v "a") ◂ (v "a") ◂ nil)) ◂ (c "Tree" ((v "a") ◂ (v "a") ◂ (v "a") ◂ nil)) ◂ nil)) ◂ (c "Tree" ((c "Tree" ((v "a") ◂ (v "a") ◂ (v "a") ◂ nil)) ◂ (c "Tree" ((v "a") ◂ (v "a") ◂ (v "a") ◂ nil)) ◂ (c "Tree" ((v "a") ◂ (v "a") ◂ (v "a") ◂ nil)) ◂ nil)) ◂ nil)) ◂ (c "Tree" ((c "Tree" ((c "Tree" ((v "a") ◂ (v "a") ◂ (v "a") ◂ nil)) ◂ (c "Tree" ((v "a") ◂ (v "a") ◂ (v "a") ◂ nil)) ◂ (c "Tree" ((v "a") ◂ (v "a") ◂ (v "a") ◂ nil)) ◂ nil)) ◂ (c "Tree" ((c "Tree" ((v "a") ◂ (v "a") ◂ (v "a") ◂ nil)) ◂ (c "Tree" ((v "a") ◂ (v "a") ◂ (v "a") ◂ nil)) ◂ (c "Tree" ((v "a") ◂ (v "a") ◂ (v "a") ◂ nil)) ◂ nil)) ◂ (c "Tree" ((c "Tree" ((v "a") ◂ (v "a") ◂ (v "a") ◂ nil)) ◂ (c "Tree" ((v "a") ◂ (v "a") ◂ (v "a") ◂ nil)) ◂ (c "Tree" ((v "a") ◂ (v "a") ◂ (v "a") ◂ nil)) ◂ nil)) ◂ nil)) ◂ nil)) ◂ (c "Pair" ((c "Tree" ((c "Tree" ((c "Tree" ((v "a") ◂ (v "a") ◂ (v "a") ◂ nil)) ◂ (c "Tree" ((v "a") ◂ (v "a") ◂ (v "a") ◂ nil)) ◂ (c "Tree" ((v "a") ◂ (v "a") ◂ (v "a") ◂ nil)) ◂ nil)) ◂ (c "Tree" ((c "Tree" ((v "a") ◂ (v "a") ◂ (v "a") ◂ nil)) ◂ (c "Tree" ((v "a") ◂ (v "a") ◂ (v "a") ◂ nil)) ◂ (c "Tree" ((v "a") ◂ (v "a") ◂ (v "a") ◂ nil)) ◂ nil)) ◂ (c "Tree" ((c "Tree" ((v "a") ◂ (v "a") ◂ (v "a") ◂ nil)) ◂ (c "Tree" ((v "a") ◂ (v "a") ◂ (v "a") ◂ nil)) ◂ (c "Tree" ((v "a") ◂ (v "a") ◂ (v "a") ◂ nil)) ◂ nil)) ◂ nil)) ◂ (c "Tree" ((c "Tree" ((c "Tree" ((v "a") ◂ (v "a") ◂ (v "a") ◂ nil)) ◂ (c "Tree" ((v "a") ◂ (v "a") ◂ (v "a") ◂ nil)) ◂ (c "Tree" ((v "a") ◂ (v "a") ◂ (v "a") ◂ nil)) ◂ nil)) ◂ (c "Tree" ((c "Tree" ((v "a") ◂ (v "a") ◂ (v "a") ◂ nil)) ◂ (c "Tree" ((v "a") ◂ (v "a") ◂ (v "a") ◂ nil)) ◂ (c "Tree" ((v "a") ◂ (v "a") ◂ (v "a") ◂ nil)) ◂ nil)) ◂ (c "Tree" ((c "Tree" ((v "a") ◂ (v "a") ◂ (v "a") ◂ nil)) ◂ (c "Tree" ((v "a") ◂ (v "a") ◂ (v "a") ◂ nil)) ◂ (c "Tree" ((v "a") ◂ (v "a") ◂ (v "a") ◂ nil)) ◂ nil)) ◂ nil)) ◂ nil)) ◂ nil)) (c "Tree" ((c "Pair" ((c "Tree" ((c "Tree" ((c "Tree" ((v "a") ◂ (v "a") ◂ (v "a") ◂ nil)) ◂ (c "Tree" ((v "a") ◂ (v "a") ◂ (v "a") ◂ nil)) ◂ (c "Tree" ((v "a") ◂ (v "a") ◂ (v "a") ◂ nil)) ◂ nil)) ◂ (c "Tree" ((c "Tree" ((v "a") ◂ (v "a") ◂ (v "a") ◂ nil)) ◂ (c "Tree" ((v "a") ◂ (v "a") ◂ (v "a") ◂ nil)) ◂ (c "Tree" ((v "a") ◂ (v "a") ◂ (v "a") ◂ nil)) ◂ nil)) ◂ (c "Tree" ((c "Tree" ((v "a") ◂ (v "a") ◂ (v "a") ◂ nil)) ◂ (c "Tree" ((v "a") ◂ (v "a") ◂ (v "a") ◂ nil)) ◂ (c "Tree" ((v "a") ◂ (v "a") ◂ (v "a") ◂ nil)) ◂ nil)) ◂ nil)) ◂ (c "Tree" ((c "Tree" ((c "Tree" ((v "a") ◂ (v "a") ◂ (v "a") ◂ nil)) ◂ (c "Tree" ((v "a") ◂ (v "a") ◂ (v "a") ◂ nil)) ◂ (c "Tree" ((v "a") ◂ (v "a") ◂ (v "a") ◂ nil)) ◂ nil)) ◂ (c "Tree" ((c "Tree" ((v "a") ◂ (v "a") ◂ (v "a") ◂ nil)) ◂ (c "Tree" ((v "a") ◂ (v "a") ◂ (v "a") ◂ nil)) ◂ (c "Tree" ((v "a") ◂ (v "a") ◂ (v "a") ◂ nil)) ◂ nil)) ◂ (c "Tree" ((c "Tree" ((v "a") ◂ (v "a") ◂ (v "a") ◂ nil)) ◂ (c "Tree" ((v "a") ◂ (v "a") ◂ (v "a") ◂ nil)) ◂ (c "Tree" ((v "a") ◂ (v "a") ◂ (v "a") ◂ nil)) ◂ nil)) ◂ nil)) ◂ nil)) ◂ (c "Pair" ((c "Tree" ((c "Tree" ((c "Tree" ((v "a") ◂ (v "a") ◂ (v "a") ◂ nil)) ◂ (c "Tree" ((v "a") ◂ (v "a") ◂ (v "a") ◂ nil)) ◂ (c "Tree" ((v "a") ◂ (v "a") ◂ (v "a") ◂ nil)) ◂ nil)) ◂ (c "Tree" ((c "Tree" ((v "a") ◂ (v "a") ◂ (v "a") ◂ nil)) ◂ (c "Tree" ((v "a") ◂ (v "a") ◂ (v "a") ◂ nil)) ◂ (c "Tree" ((v "a") ◂ (v "a") ◂ (v "a") ◂ nil)) ◂ nil)) ◂ (c "Tree" ((c "Tree" ((v "a") ◂ (v "a") ◂ (v "a") ◂ nil)) ◂ (c "Tree" ((v "a") ◂ (v "a") ◂ (v "a") ◂ nil)) ◂ (c "Tree" ((v "a") ◂ (v "a") ◂ (v "a") ◂ nil)) ◂ nil)) ◂ nil)) ◂ (c "Tree" ((c "Tree" ((c "Tree" ((v "a") ◂ (v "a") ◂ (v "a") ◂ nil)) ◂ (c "Tree" ((v "a") ◂ (v "a") ◂ (v "a") ◂ nil)) ◂ (c "Tree" ((v "a") ◂ (v "a") ◂ (v "a") ◂ nil)) ◂ nil)) ◂ (c "Tree" ((c "Tree" ((v "a") ◂ (v "a") ◂ (v "a") ◂ nil)) ◂ (c "Tree" ((v "a") ◂ (v "a") ◂ (v "a") ◂ nil)) ◂ (c "Tree" ((v "a") ◂ (v "a") ◂ (v "a") ◂ nil)) ◂ nil)) ◂ (c "Tree" ((c "Tree" ((v "a") ◂ (v "a") ◂ (v "a") ◂ nil)) ◂ (c "Tree" ((v "a") ◂ (v "a") ◂ (v "a") ◂ nil)) ◂ (c "Tree" ((v "a") ◂ (v "a") ◂ (v "a") ◂ nil)) ◂ nil)) ◂ nil)) ◂ nil)) ◂ (c "Pair" ((c "Tree" ((c "Tree" ((c "Tree" ((v "a") ◂ (v "a") ◂ (v "a") ◂ nil)) ◂ (c "Tree" ((v "a") ◂ (v "a") ◂ (v "a") ◂ nil)) ◂ (c "Tree" ((v "a") ◂ (v "a") ◂ (v "a") ◂ nil)) ◂ nil)) ◂ (c "Tree" ((c "Tree" ((v "a") ◂ (v "a") ◂ (v "a") ◂ nil)) ◂ (c "Tree" ((v "a") ◂ (v "a") ◂ (v "a") ◂ nil)) ◂ (c "Tree" ((v "a") ◂ (v "a") ◂ (v "a") ◂ nil)) ◂ nil)) ◂ (c "Tree" ((c "Tree" ((v "a") ◂ (v "a") ◂ (v "a") ◂ nil)) ◂ (c "Tree" ((v "a") ◂ (v "a") ◂ (v "a") ◂ nil)) ◂ (c "Tree" ((v "a") ◂ (v "a") ◂ (v "a") ◂ nil)) ◂ nil)) ◂ nil)) ◂ (c "Tree" ((c "Tree" ((c "Tree" ((v "a") ◂ (v "a") ◂ (v "a") ◂ nil)) ◂ (c "Tree" ((v "a") ◂ (v "a") ◂ (v "a") ◂ nil)) ◂ (c "Tree" ((v "a") ◂ (v "a") ◂ (v "a") ◂ nil)) ◂ nil)) ◂ (c "Tree" ((c "Tree" ((v "a") ◂ (v "a") ◂ (v "a") ◂ nil)) ◂ (c "Tree" ((v "a") ◂ (v "a") ◂ (v "a") ◂ nil)) ◂ (c "Tree" ((v "a") ◂ (v "a") ◂ (v "a") ◂ nil)) ◂ nil)) ◂ (c "Tree" ((c "Tree" ((v "a") ◂ (v "a") ◂ (v "a") ◂ nil)) ◂ (c "Tree" ((v "a") ◂ (v "a") ◂ (v "a") ◂ nil)) ◂ (c "Tree" ((v "a") ◂ (v "a") ◂ (v "a") ◂ nil)) ◂ nil)) ◂ nil)) ◂ nil)) ◂ nil))) ◂ (arrow (c "Tree" ((c "Pair" ((c "Tree" ((c "Tree" ((c "Tree" ((v "a") ◂ (v "a") ◂ (v "a") ◂ nil)) ◂ (c "Tree" ((v "a") ◂ (v "a") ◂ (v "a") ◂ nil)) ◂ (c "Tree" ((v "a") ◂ (v "a") ◂ (v "a") ◂ nil)) ◂ nil)) ◂ (c "Tree" ((c "Tree" ((v "a") ◂ (v "a") ◂ (v "a") ◂ nil)) ◂ (c "Tree" ((v "a") ◂ (v "a") ◂ (v "a") ◂ nil)) ◂ (c "Tree" ((v "a") ◂ (v "a") ◂ (v "a") ◂ nil)) ◂ nil)) ◂ (c "Tree" ((c "Tree" ((v "a") ◂ (v "a") ◂ (v "a") ◂ nil)) ◂ (c "Tree" ((v "a") ◂ (v "a") ◂ (v "a") ◂ nil)) ◂ (c "Tree" ((v "a") ◂ (v "a") ◂ (v "a") ◂ nil)) ◂ nil)) ◂ nil)) ◂ (c "Tree" ((c "Tree" ((c "Tree" ((v "a") ◂ (v "a") ◂ (v "a") ◂ nil)) ◂ (c "Tree" ((v "a") ◂ (v "a") ◂ (v "a") ◂ nil)) ◂ (c "Tree" ((v "a") ◂ (v "a") ◂ (v "a") ◂ nil)) ◂ nil)) ◂ (c "Tree" ((c "Tree" ((v "a") ◂ (v "a") ◂ (v "a") ◂ nil)) ◂ (c "Tree" ((v "a") ◂ (v "a") ◂ (v "a") ◂ nil)) ◂ (c "Tree" ((v "a") ◂ (v "a") ◂ (v "a") ◂ nil)) ◂ nil)) ◂ (c "Tree" ((c "Tree" ((v "a") ◂ (v "a") ◂ (v "a") ◂ nil)) ◂ (c "Tree" ((v "a") ◂ (v "a") ◂ (v "a") ◂ nil)) ◂ (c "Tree" ((v "a") ◂ (v "a") ◂ (v "a") ◂ nil)) ◂ nil)) ◂ nil)) ◂ nil)) ◂ (c "Pair" ((c "Tree" ((c "Tree" ((c "Tree" ((v "a") ◂ (v "a") ◂ (v "a") ◂ nil)) ◂ (c "Tree" ((v "a") ◂ (v "a") ◂ (v "a") ◂ nil)) ◂ (c "Tree" ((v "a") ◂ (v "a") ◂ (v "a") ◂ nil)) ◂ nil)) ◂ (c "Tree" ((c "Tree" ((v "a") ◂ (v "a") ◂ (v "a") ◂ nil)) ◂ (c "Tree" ((v "a") ◂ (v "a") ◂ (v "a") ◂ nil)) ◂ (c "Tree" ((v "a") ◂ (v "a") ◂ (v "a") ◂ nil)) ◂ nil)) ◂ (c "Tree" ((c "Tree" ((v "a") ◂ (v "a") ◂ (v "a") ◂ nil)) ◂ (c "Tree" ((v "a") ◂ (v "a") ◂ (v "a") ◂ nil)) ◂ (c "Tree" ((v "a") ◂ (v "a") ◂ (v "a") ◂ nil)) ◂ nil)) ◂ nil)) ◂ (c "Tree" ((c "Tree" ((c "Tree" ((v "a") ◂ (v "a") ◂ (v "a") ◂ nil)) ◂ (c "Tree" ((v "a") ◂ (v "a") ◂ (v "a") ◂ nil)) ◂ (c "Tree" ((v "a") ◂ (v "a") ◂ (v "a") ◂ nil)) ◂ nil)) ◂ (c "Tree" ((c "Tree" ((v "a") ◂ (v "a") ◂ (v "a") ◂ nil)) ◂ (c "Tree" ((v "a") ◂ (v "a") ◂ (v "a") ◂ nil)) ◂ (c "Tree" ((v "a") ◂ (v "a") ◂ (v "a") ◂ nil)) ◂ nil)) ◂ (c "Tree" ((c "Tree" ((v "a") ◂ (v "a") ◂ (v "a") ◂ nil)) ◂ (c "Tree" ((v "a") ◂ (v "a") ◂ (v "a") ◂ nil)) ◂ (c "Tree" ((v "a") ◂ (v "a") ◂ (v "a") ◂ nil)) ◂ nil)) ◂ nil)) ◂ nil)) ◂ (c "Pair" ((c "Tree" ((c "Tree" ((c "Tree" ((v "a") ◂ (v "a") ◂ (v "a") ◂ nil)) ◂ (c "Tree" ((v "a") ◂ (v "a") ◂ (v "a") ◂ nil)) ◂ (c "Tree" ((v "a") ◂ (v "a") ◂ (v "a") ◂ nil)) ◂ nil)) ◂ (c "Tree" ((c "Tree" ((v "a") ◂ (v "a") ◂ (v "a") ◂ nil)) ◂ (c "Tree" ((v "a") ◂ (v "a") ◂ (v "a") ◂ nil)) ◂ (c "Tree" ((v "a") ◂ (v "a") ◂ (v "a") ◂ nil)) ◂ nil)) ◂ (c "Tree" ((c "Tree" ((v "a") ◂ (v "a") ◂ (v "a") ◂ nil)) ◂ (c "Tree" ((v "a") ◂ (v "a") ◂ (v "a") ◂ nil)) ◂ (c "Tree" ((v "a") ◂ (v "a") ◂ (v "a") ◂ nil)) ◂ nil)) ◂ nil)) ◂ (c "Tree" ((c "Tree" ((c "Tree" ((v "a") ◂ (v "a") ◂ (v "a") ◂ nil)) ◂ (c "Tree" ((v "a") ◂ (v "a") ◂ (v "a") ◂ nil)) ◂ (c "Tree" ((v "a") ◂ (v "a") ◂ (v "a") ◂ nil)) ◂ nil)) ◂ (c "Tree" ((c "Tree" ((v "a") ◂ (v "a") ◂ (v "a") ◂ nil)) ◂ (c "Tree" ((v "a") ◂ (v "a") ◂ (v "a") ◂ nil)) ◂ (c "Tree" ((v "a") ◂ (v "a") ◂ (v "a") ◂ nil)) ◂ nil)) ◂ (c "Tree" ((c "Tree" ((v "a") ◂ (v "a") ◂ (v "a") ◂ nil)) ◂ (c "Tree" ((v "a") ◂ (v "a") ◂ (v "a") ◂ nil)) ◂ (c "Tree" ((v "a") ◂ (v "a") ◂ (v "a") ◂ nil)) ◂ nil)) ◂ nil)) ◂ nil)) ◂ nil)) (c "Tree" ((c "Pair" ((c "Tree" ((c "Tree" ((c "Tree" ((v "a") ◂ (v "a") ◂ (v "a") ◂ nil)) ◂ (c "Tree" ((v "a") ◂ (v "a") ◂ (v "a") ◂ nil)) ◂ (c "Tree" ((v "a") ◂ (v "a") ◂ (v "a") ◂ nil)) ◂ nil)) ◂ (c "Tree" ((c "Tree" ((v "a") ◂ (v "a") ◂ (v "a") ◂ nil)) ◂ (c "Tree" ((v "a") ◂ (v "a") ◂ (v "a") ◂ nil)) ◂ (c "Tree" ((v "a") ◂ (v "a") ◂ (v "a") ◂ nil)) ◂ nil)) ◂ (c "Tree" ((c "Tree" ((v "a") ◂ (v "a") ◂ (v "a") ◂ nil)) ◂ (c "Tree" ((v "a") ◂ (v "a") ◂ (v "a") ◂ nil)) ◂ (c "Tree" ((v "a") ◂ (v "a") ◂ (v "a") ◂ nil)) ◂ nil)) ◂ nil)) ◂ (c "Tree" ((c "Tree" ((c "Tree" ((v "a") ◂ (v "a") ◂ (v "a") ◂ nil)) ◂ (c "Tree" ((v "a") ◂ (v "a") ◂ (v "a") ◂ nil)) ◂ (c "Tree" ((v "a") ◂ (v "a") ◂ (v "a") ◂ nil)) ◂ nil)) ◂ (c "Tree" ((c "Tree" ((v "a") ◂ (v "a") ◂ (v "a") ◂ nil)) ◂ (c "Tree" ((v "a") ◂ (v "a") ◂ (v "a") ◂ nil)) ◂ (c "Tree" ((v "a") ◂ (v "a") ◂ (v "a") ◂ nil)) ◂ nil)) ◂ (c "Tree" ((c "Tree" ((v "a") ◂ (v "a") ◂ (v "a") ◂ nil)) ◂ (c "Tree" ((v "a") ◂ (v "a") ◂ (v "a") ◂ nil)) ◂ (c "Tree" ((v "a") ◂ (v "a") ◂ (v "a") ◂ nil)) ◂ nil)) ◂ nil)) ◂ nil)) ◂ (c "Pair" ((c "Tree" ((c "Tree" ((c "Tree" ((v "a") ◂ (v "a") ◂ (v "a") ◂ nil)) ◂ (c "Tree" ((v "a") ◂ (v "a") ◂ (v "a") ◂ nil)) ◂ (c "Tree" ((v "a") ◂ (v "a") ◂ (v "a") ◂ nil)) ◂ nil)) ◂ (c "Tree" ((c "Tree" ((v "a") ◂ (v "a") ◂ (v "a") ◂ nil)) ◂ (c "Tree" ((v "a") ◂ (v "a") ◂ (v "a") ◂ nil)) ◂ (c "Tree" ((v "a") ◂ (v "a") ◂ (v "a") ◂ nil)) ◂ nil)) ◂ (c "Tree" ((c "Tree" ((v "a") ◂ (v "a") ◂ (v "a") ◂ nil)) ◂ (c "Tree" ((v "a") ◂ (v "a") ◂ (v "a") ◂ nil)) ◂ (c "Tree" ((v "a") ◂ (v "a") ◂ (v "a") ◂ nil)) ◂ nil)) ◂ nil)) ◂ (c "Tree" ((c "Tree" ((c "Tree" ((v "a") ◂ (v "a") ◂ (v "a") ◂ nil)) ◂ (c "Tree" ((v "a") ◂ (v "a") ◂ (v "a") ◂ nil)) ◂ (c "Tree" ((v "a") ◂ (v "a") ◂ (v "a") ◂ nil)) ◂ nil)) ◂ (c "Tree" ((c "Tree" ((v "a") ◂ (v "a") ◂ (v "a") ◂ nil)) ◂ (c "Tree" ((v "a") ◂ (v "a") ◂ (v "a") ◂ nil)) ◂ (c "Tree" ((v "a") ◂ (v "a") ◂ (v "a") ◂ nil)) ◂ nil)) ◂ (c "Tree" ((c "Tree" ((v "a") ◂ (v "a") ◂ (v "a") ◂ nil)) ◂ (c "Tree" ((v "a") ◂ (v "a") ◂ (v "a") ◂ nil)) ◂ (c "Tree" ((v "a") ◂ (v "a") ◂ (v "a") ◂ nil)) ◂ nil)) ◂ nil)) ◂ nil)) ◂ (c "Pair" ((c "Tree" ((c "Tree" ((c "Tree" ((v "a") ◂ (v "a") ◂ (v "a") ◂ nil)) ◂ (c "Tree" ((v "a") ◂ (v "a") ◂ (v "a") ◂ nil)) ◂ (c "Tree" ((v "a") ◂ (v "a") ◂ (v "a") ◂ nil)) ◂ nil)) ◂ (c "Tree" ((c "Tree" ((v "a") ◂ (v "a") ◂ (v "a") ◂ nil)) ◂ (c "Tree" ((v "a") ◂ (v "a") ◂ (v "a") ◂ nil)) ◂ (c "Tree" ((v "a") ◂ (v "a") ◂ (v "a") ◂ nil)) ◂ nil)) ◂ (c "Tree" ((c "Tree" ((v "a") ◂ (v "a") ◂ (v "a") ◂ nil)) ◂ (c "Tree" ((v "a") ◂ (v "a") ◂ (v "a") ◂ nil)) ◂ (c "Tree" ((v "a") ◂ (v "a") ◂ (v "a") ◂ nil)) ◂ nil)) ◂ nil)) ◂ (c "Tree" ((c "Tree" ((c "Tree" ((v "a") ◂ (v "a") ◂ (v "a") ◂ nil)) ◂ (c "Tree" ((v "a") ◂ (v "a") ◂ (v "a") ◂ nil)) ◂ (c "Tree" ((v "a") ◂ (v "a") ◂ (v "a") ◂ nil)) ◂ nil)) ◂ (c "Tree" ((c "Tree" ((v "a") ◂ (v "a") ◂ (v "a") ◂ nil)) ◂ (c "Tree" ((v "a") ◂ (v "a") ◂ (v "a") ◂ nil)) ◂ (c "Tree" ((v "a") ◂ (v "a") ◂ (v "a") ◂ nil)) ◂ nil)) ◂ (c "Tree" ((c "Tree" ((v "a") ◂ (v "a") ◂ (v "a") ◂ nil)) ◂ (c "Tree" ((v "a") ◂ (v "a") ◂ (v "a") ◂ nil)) ◂ (c "Tree" ((v "a") ◂ (v "a") ◂ (v "a") ◂ nil)) ◂ nil)) ◂ nil)) ◂ nil)) ◂ nil))) ◂ (arrow (c "Tree" ((c "Pair" ((c "Tree" ((c "Tree" ((c "Tree" ((v "a") ◂ (v "a") ◂ (v "a") ◂ nil)) ◂ (c "Tree" ((v "a") ◂ (v "a") ◂ (v "a") ◂ nil)) ◂ (c "Tree" ((v "a") ◂ (v "a") ◂ (v "a") ◂ nil)) ◂ nil)) ◂ (c "Tree" ((c "Tree" ((v "a") ◂ (v "a") ◂ (v "a") ◂ nil)) ◂ (c "Tree" ((v "a") ◂ (v "a") ◂ (v "a") ◂ nil)) ◂ (c "Tree" ((v "a") ◂ (v "a") ◂ (v "a") ◂ nil)) ◂ nil)) ◂ (c "Tree" ((c "Tree" ((v "a") ◂ (v "a") ◂ (v "a") ◂ nil)) ◂ (c "Tree" ((v "a") ◂ (v "a") ◂ (v "a") ◂ nil)) ◂ (c "Tree" ((v "a") ◂ (v "a") ◂ (v "a") ◂ nil)) ◂ nil)) ◂ nil)) ◂ (c "Tree" ((c "Tree" ((c "Tree" ((v "a") ◂ (v "a") ◂ (v "a") ◂ nil)) ◂ (c "Tree" ((v "a") ◂ (v "a") ◂ (v "a") ◂ nil)) ◂ (c "Tree" ((v "a") ◂ (v "a") ◂ (v "a") ◂ nil)) ◂ nil)) ◂ (c "Tree" ((c "Tree" ((v "a") ◂ (v "a") ◂ (v "a") ◂ nil)) ◂ (c "Tree" ((v "a") ◂ (v "a") ◂ (v "a") ◂ nil)) ◂ (c "Tree" ((v "a") ◂ (v "a") ◂ (v "a") ◂ nil)) ◂ nil)) ◂ (c "Tree" ((c "Tree" ((v "a") ◂ (v "a") ◂ (v "a") ◂ nil)) ◂ (c "Tree" ((v "a") ◂ (v "a") ◂ (v "a") ◂ nil)) ◂ (c "Tree" ((v "a") ◂ (v "a") ◂ (v "a") ◂ nil)) ◂ nil)) ◂ nil)) ◂ nil)) ◂ (c "Pair" ((c "Tree" ((c "Tree" ((c "Tree" ((v "a") ◂ (v "a") ◂ (v "a") ◂ nil)) ◂ (c "Tree" ((v "a") ◂ (v "a") ◂ (v "a") ◂ nil)) ◂ (c "Tree" ((v "a") ◂ (v "a") ◂ (v "a") ◂ nil)) ◂ nil)) ◂ (c "Tree" ((c "Tree" ((v "a") ◂ (v "a") ◂ (v "a") ◂ nil)) ◂ (c "Tree" ((v "a") ◂ (v "a") ◂ (v "a") ◂ nil)) ◂ (c "Tree" ((v "a") ◂ (v "a") ◂ (v "a") ◂ nil)) ◂ nil)) ◂ (c "Tree" ((c "Tree" ((v "a") ◂ (v "a") ◂ (v "a") ◂ nil)) ◂ (c "Tree" ((v "a") ◂ (v "a") ◂ (v "a") ◂ nil)) ◂ (c "Tree" ((v "a") ◂ (v "a") ◂ (v "a") ◂ nil)) ◂ nil)) ◂ nil)) ◂ (c "Tree" ((c "Tree" ((c "Tree" ((v "a") ◂ (v "a") ◂ (v "a") ◂ nil)) ◂ (c "Tree" ((v "a") ◂ (v "a") ◂ (v "a") ◂ nil)) ◂ (c "Tree" ((v "a") ◂ (v "a") ◂ (v "a") ◂ nil)) ◂ nil)) ◂ (c "Tree" ((c "Tree" ((v "a") ◂ (v "a") ◂ (v "a") ◂ nil)) ◂ (c "Tree" ((v "a") ◂ (v "a") ◂ (v "a") ◂ nil)) ◂ (c "Tree" ((v "a") ◂ (v "a") ◂ (v "a") ◂ nil)) ◂ nil)) ◂ (c "Tree" ((c "Tree" ((v "a") ◂ (v "a") ◂ (v "a") ◂ nil)) ◂ (c "Tree" ((v "a") ◂ (v "a") ◂ (v "a") ◂ nil)) ◂ (c "Tree" ((v "a") ◂ (v "a") ◂ (v "a") ◂ nil)) ◂ nil)) ◂ nil)) ◂ nil)) ◂ (c "Pair" ((c "Tree" ((c "Tree" ((c "Tree" ((v "a") ◂ (v "a") ◂ (v "a") ◂ nil)) ◂ (c "Tree" ((v "a") ◂ (v "a") ◂ (v "a") ◂ nil)) ◂ (c "Tree" ((v "a") ◂ (v "a") ◂ (v "a") ◂ nil)) ◂ nil)) ◂ (c "Tree" ((c "Tree" ((v "a") ◂ (v "a") ◂ (v "a") ◂ nil)) ◂ (c "Tree" ((v "a") ◂ (v "a") ◂ (v "a") ◂ nil)) ◂ (c "Tree" ((v "a") ◂ (v "a") ◂ (v "a") ◂ nil)) ◂ nil)) ◂ (c "Tree" ((c "Tree" ((v "a") ◂ (v "a") ◂ (v "a") ◂ nil)) ◂ (c "Tree" ((v "a") ◂ (v "a") ◂ (v "a") ◂ nil)) ◂ (c "Tree" ((v "a") ◂ (v "a") ◂ (v "a") ◂ nil)) ◂ nil)) ◂ nil)) ◂ (c "Tree" ((c "Tree" ((c "Tree" ((v "a") ◂ (v "a") ◂ (v "a") ◂ nil)) ◂ (c "Tree" ((v "a") ◂ (v "a") ◂ (v "a") ◂ nil)) ◂ (c "Tree" ((v "a") ◂ (v "a") ◂ (v "a") ◂ nil)) ◂ nil)) ◂ (c "Tree" ((c "Tree" ((v "a") ◂ (v "a") ◂ (v "a") ◂ nil)) ◂ (c "Tree" ((v "a") ◂ (v "a") ◂ (v "a") ◂ nil)) ◂ (c "Tree" ((v "a") ◂ (v "a") ◂ (v "a") ◂ nil)) ◂ nil)) ◂ (c "Tree" ((c "Tree" ((v "a") ◂ (v "a") ◂ (v "a") ◂ nil)) ◂ (c "Tree" ((v "a") ◂ (v "a") ◂ (v "a") ◂ nil)) ◂ (c "Tree" ((v "a") ◂ (v "a") ◂ (v "a") ◂ nil)) ◂ nil)) ◂ nil)) ◂ nil)) ◂ nil)) (c "Tree" ((c "Pair" ((c "Tree" ((c "Tree" ((c "Tree" ((v "a") ◂ (v "a") ◂ (v "a") ◂ nil)) ◂ (c "Tree" ((v "a") ◂ (v "a") ◂ (v "a") ◂ nil)) ◂ (c "Tree" ((v "a") ◂ (v "a") ◂ (v "a") ◂ nil)) ◂ nil)) ◂ (c "Tree" ((c "Tree" ((v "a") ◂ (v "a") ◂ (v "a") ◂ nil)) ◂ (c "Tree" ((v "a") ◂ (v "a") ◂ (v "a") ◂ nil)) ◂ (c "Tree" ((v "a") ◂ (v "a") ◂ (v "a") ◂ nil)) ◂ nil)) ◂ (c "Tree" ((c "Tree" ((v "a") ◂ (v "a") ◂ (v "a") ◂ nil)) ◂ (c "Tree" ((v "a") ◂ (v "a") ◂ (v "a") ◂ nil)) ◂ (c "Tree" ((v "a") ◂ (v "a") ◂ (v "a") ◂ nil)) ◂ nil)) ◂ nil)) ◂ (c "Tree" ((c "Tree" ((c "Tree" ((v "a") ◂ (v "a") ◂ (v "a") ◂ nil)) ◂ (c "Tree" ((v "a") ◂ (v "a") ◂ (v "a") ◂ nil)) ◂ (c "Tree" ((v "a") ◂ (v "a") ◂ (v "a") ◂ nil)) ◂ nil)) ◂ (c "Tree" ((c "Tree" ((v "a") ◂ (v "a") ◂ (v "a") ◂ nil)) ◂ (c "Tree" ((v "a") ◂ (v "a") ◂ (v "a") ◂ nil)) ◂ (c "Tree" ((v "a") ◂ (v "a") ◂ (v "a") ◂ nil)) ◂ nil)) ◂ (c "Tree" ((c "Tree" ((v "a") ◂ (v "a") ◂ (v "a") ◂ nil)) ◂ (c "Tree" ((v "a") ◂ (v "a") ◂ (v "a") ◂ nil)) ◂ (c "Tree" ((v "a") ◂ (v "a") ◂ (v "a") ◂ nil)) ◂ nil)) ◂ nil)) ◂ nil)) ◂ (c "Pair" ((c "Tree" ((c "Tree" ((c "Tree" ((v "a") ◂ (v "a") ◂ (v "a") ◂ nil)) ◂ (c "Tree" ((v "a") ◂ (v "a") ◂ (v "a") ◂ nil)) ◂ (c "Tree" ((v "a") ◂ (v "a") ◂ (v "a") ◂ nil)) ◂ nil)) ◂ (c "Tree" ((c "Tree" ((v "a") ◂ (v "a") ◂ (v "a") ◂ nil)) ◂ (c "Tree" ((v "a") ◂ (v "a") ◂ (v "a") ◂ nil)) ◂ (c "Tree" ((v "a") ◂ (v "a") ◂ (v "a") ◂ nil)) ◂ nil)) ◂ (c "Tree" ((c "Tree" ((v "a") ◂ (v "a") ◂ (v "a") ◂ nil)) ◂ (c "Tree" ((v "a") ◂ (v "a") ◂ (v "a") ◂ nil)) ◂ (c "Tree" ((v "a") ◂ (v "a") ◂ (v "a") ◂ nil)) ◂ nil)) ◂ nil)) ◂ (c "Tree" ((c "Tree" ((c "Tree" ((v "a") ◂ (v "a") ◂ (v "a") ◂ nil)) ◂ (c "Tree" ((v "a") ◂ (v "a") ◂ (v "a") ◂ nil)) ◂ (c "Tree" ((v "a") ◂ (v "a") ◂ (v "a") ◂ nil)) ◂ nil)) ◂ (c "Tree" ((c "Tree" ((v "a") ◂ (v "a") ◂ (v "a") ◂ nil)) ◂ (c "Tree" ((v "a") ◂ (v "a") ◂ (v "a") ◂ nil)) ◂ (c "Tree" ((v "a") ◂ (v "a") ◂ (v "a") ◂ nil)) ◂ nil)) ◂ (c "Tree" ((c "Tree" ((v "a") ◂ (v "a") ◂ (v "a") ◂ nil)) ◂ (c "Tree" ((v "a") ◂ (v "a") ◂ (v "a") ◂ nil)) ◂ (c "Tree" ((v "a") ◂ (v "a") ◂ (v "a") ◂ nil)) ◂ nil)) ◂ nil)) ◂ nil)) ◂ (c "Pair" ((c "Tree" ((c "Tree" ((c "Tree" ((v "a") ◂ (v "a") ◂ (v "a") ◂ nil)) ◂ (c "Tree" ((v "a") ◂ (v "a") ◂ (v "a") ◂ nil)) ◂ (c "Tree" ((v "a") ◂ (v "a") ◂ (v "a") ◂ nil)) ◂ nil)) ◂ (c "Tree" ((c "Tree" ((v "a") ◂ (v "a") ◂ (v "a") ◂ nil)) ◂ (c "Tree" ((v "a") ◂ (v "a") ◂ (v "a") ◂ nil)) ◂ (c "Tree" ((v "a") ◂ (v "a") ◂ (v "a") ◂ nil)) ◂ nil)) ◂ (c "Tree" ((c "Tree" ((v "a") ◂ (v "a") ◂ (v "a") ◂ nil)) ◂ (c "Tree" ((v "a") ◂ (v "a") ◂ (v "a") ◂ nil)) ◂ (c "Tree" ((v "a") ◂ (v "a") ◂ (v "a") ◂ nil)) ◂ nil)) ◂ nil)) ◂ (c "Tree" ((c "Tree" ((c "Tree" ((v "a") ◂ (v "a") ◂ (v "a") ◂ nil)) ◂ (c "Tree" ((v "a") ◂ (v "a") ◂ (v "a") ◂ nil)) ◂ (c "Tree" ((v "a") ◂ (v "a") ◂ (v "a") ◂ nil)) ◂ nil)) ◂ (c "Tree" ((c "Tree" ((v "a") ◂ (v "a") ◂ (v "a") ◂ nil)) ◂ (c "Tree" ((v "a") ◂ (v "a") ◂ (v "a") ◂ nil)) ◂ (c "Tree" ((v "a") ◂ (v "a") ◂ (v "a") ◂ nil)) ◂ nil)) ◂ (c "Tree" ((c "Tree" ((v "a") ◂ (v "a") ◂ (v "a") ◂ nil)) ◂ (c "Tree" ((v "a") ◂ (v "a") ◂ (v "a") ◂ nil)) ◂ (c "Tree" ((v "a") ◂ (v "a") ◂ (v "a") ◂ nil)) ◂ nil)) ◂ nil)) ◂ nil)) ◂ nil))) ◂ nil)) ◂ nil)) ◂ (c "Pair" ((c "Tree" ((arrow (c "Tree" ((c "Pair" ((c "Tree" ((c "Tree" ((c "Tree" ((v "a") ◂ (v "a") ◂ (v "a") ◂ nil)) ◂ (c "Tree" ((v "a") ◂ (v "a") ◂ (v "a") ◂ nil)) ◂ (c "Tree" ((v "a") ◂ (v "a") ◂ (v "a") ◂ nil)) ◂ nil)) ◂ (c "Tree" ((c "Tree" ((v "a") ◂ (v "a") ◂ (v "a") ◂ nil)) ◂ (c "Tree" ((v "a") ◂ (v "a") ◂ (v "a") ◂ nil)) ◂ (c "Tree" ((v "a") ◂ (v "a") ◂ (v "a") ◂ nil)) ◂ nil)) ◂ (c "Tree" ((c "Tree" ((v "a") ◂ (v "a") ◂ (v "a") ◂ nil)) ◂ (c "Tree" ((v "a") ◂ (v "a") ◂ (v "a") ◂ nil)) ◂ (c "Tree" ((v "a") ◂ (v "a") ◂ (v "a") ◂ nil)) ◂ nil)) ◂ nil)) ◂ (c "Tree" ((c "Tree" ((c "Tree" ((v "a") ◂ (v "a") ◂ (v "a") ◂ nil)) ◂ (c "Tree" ((v "a") ◂ (v "a") ◂ (v "a") ◂ nil)) ◂ (c "Tree" ((v "a") ◂ (v "a") ◂ (v "a") ◂ nil)) ◂ nil)) ◂ (c "Tree" ((c "Tree" ((v "a") ◂ (v "a") ◂ (v "a") ◂ nil)) ◂ (c "Tree" ((v "a") ◂ (v "a") ◂ (v "a") ◂ nil)) ◂ (c "Tree" ((v "a") ◂ (v "a") ◂ (v "a") ◂ nil)) ◂ nil)) ◂ (c "Tree" ((c "Tree" ((v "a") ◂ (v "a") ◂ (v "a") ◂ nil)) ◂ (c "Tree" ((v "a") ◂ (v "a") ◂ (v "a") ◂ nil)) ◂ (c "Tree" ((v "a") ◂ (v "a") ◂ (v "a") ◂ nil)) ◂ nil)) ◂ nil)) ◂ nil)) ◂ (c "Pair" ((c "Tree" ((c "Tree" ((c "Tree" ((v "a") ◂ (v "a") ◂ (v "a") ◂ nil)) ◂ (c "Tree" ((v "a") ◂ (v "a") ◂ (v "a") ◂ nil)) ◂ (c "Tree" ((v "a") ◂ (v "a") ◂ (v "a") ◂ nil)) ◂ nil)) ◂ (c "Tree" ((c "Tree" ((v "a") ◂ (v "a") ◂ (v "a") ◂ nil)) ◂ (c "Tree" ((v "a") ◂ (v "a") ◂ (v "a") ◂ nil)) ◂ (c "Tree" ((v "a") ◂ (v "a") ◂ (v "a") ◂ nil)) ◂ nil)) ◂ (c "Tree" ((c "Tree" ((v "a") ◂ (v "a") ◂ (v "a") ◂ nil)) ◂ (c "Tree" ((v "a") ◂ (v "a") ◂ (v "a") ◂ nil)) ◂ (c "Tree" ((v "a") ◂ (v "a") ◂ (v "a") ◂ nil)) ◂ nil)) ◂ nil)) ◂ (c "Tree" ((c "Tree" ((c "Tree" ((v "a") ◂ (v "a") ◂ (v "a") ◂ nil)) ◂ (c "Tree" ((v "a") ◂ (v "a") ◂ (v "a") ◂ nil)) ◂ (c "Tree" ((v "a") ◂ (v "a") ◂ (v "a") ◂ nil)) ◂ nil)) ◂ (c "Tree" ((c "Tree" ((v "a") ◂ (v "a") ◂ (v "a") ◂ nil)) ◂ (c "Tree" ((v "a") ◂ (v "a") ◂ (v "a") ◂ nil)) ◂ (c "Tree" ((v "a") ◂ (v "a") ◂ (v "a") ◂ nil)) ◂ nil)) ◂ (c "Tree" ((c "Tree" ((v "a") ◂ (v "a") ◂ (v "a") ◂ nil)) ◂ (c "Tree" ((v "a") ◂ (v "a") ◂ (v "a") ◂ nil)) ◂ (c "Tree" ((v "a") ◂ (v "a") ◂ (v "a") ◂ nil)) ◂ nil)) ◂ nil)) ◂ nil)) ◂ (c "Pair" ((c "Tree" ((c "Tree" ((c "Tree" ((v "a") ◂ (v "a") ◂ (v "a") ◂ nil)) ◂ (c "Tree" ((v "a") ◂ (v "a") ◂ (v "a") ◂ nil)) ◂ (c "Tree" ((v "a") ◂ (v "a") ◂ (v "a") ◂ nil)) ◂ nil)) ◂ (c "Tree" ((c "Tree" ((v "a") ◂ (v "a") ◂ (v "a") ◂ nil)) ◂ (c "Tree" ((v "a") ◂ (v "a") ◂ (v "a") ◂ nil)) ◂ (c "Tree" ((v "a") ◂ (v "a") ◂ (v "a") ◂ nil)) ◂ nil)) ◂ (c "Tree" ((c "Tree" ((v "a") ◂ (v "a") ◂ (v "a") ◂ nil)) ◂ (c "Tree" ((v "a") ◂ (v "a") ◂ (v "a") ◂ nil)) ◂ (c "Tree" ((v "a") ◂ (v "a") ◂ (v "a") ◂ nil)) ◂ nil)) ◂ nil)) ◂ (c "Tree" ((c "Tree" ((c "Tree" ((v "a") ◂ (v "a") ◂ (v "a") ◂ nil)) ◂ (c "Tree" ((v "a") ◂ (v "a") ◂ (v "a") ◂ nil)) ◂ (c "Tree" ((v "a") ◂ (v "a") ◂ (v "a") ◂ nil)) ◂ nil)) ◂ (c "Tree" ((c "Tree" ((v "a") ◂ (v "a") ◂ (v "a") ◂ nil)) ◂ (c "Tree" ((v "a") ◂ (v "a") ◂ (v "a") ◂ nil)) ◂ (c "Tree" ((v "a") ◂ (v "a") ◂ (v "a") ◂ nil)) ◂ nil)) ◂ (c "Tree" ((c "Tree" ((v "a") ◂ (v "a") ◂ (v "a") ◂ nil)) ◂ (c "Tree" ((v "a") ◂ (v "a") ◂ (v "a") ◂ nil)) ◂ (c "Tree" ((v "a") ◂ (v "a") ◂ (v "a") ◂ nil)) ◂ nil)) ◂ nil)) ◂ nil)) ◂ nil)) (c "Tree" ((c "Pair" ((c "Tree" ((c "Tree" ((c "Tree" ((v "a") ◂ (v "a") ◂ (v "a") ◂ nil)) ◂ (c "Tree" ((v "a") ◂ (v "a") ◂ (v "a") ◂ nil)) ◂ (c "Tree" ((v "a") ◂ (v "a") ◂ (v "a") ◂ nil)) ◂ nil)) ◂ (c "Tree" ((c "Tree" ((v "a") ◂ (v "a") ◂ (v "a") ◂ nil)) ◂ (c "Tree" ((v "a") ◂ (v "a") ◂ (v "a") ◂ nil)) ◂ (c "Tree" ((v "a") ◂ (v "a") ◂ (v "a") ◂ nil)) ◂ nil)) ◂ (c "Tree" ((c "Tree" ((v "a") ◂ (v "a") ◂ (v "a") ◂ nil)) ◂ (c "Tree" ((v "a") ◂ (v "a") ◂ (v "a") ◂ nil)) ◂ (c "Tree" ((v "a") ◂ (v "a") ◂ (v "a") ◂ nil)) ◂ nil)) ◂ nil)) ◂ (c "Tree" ((c "Tree" ((c "Tree" ((v "a") ◂ (v "a") ◂ (v "a") ◂ nil)) ◂ (c "Tree" ((v "a") ◂ (v "a") ◂ (v "a") ◂ nil)) ◂ (c "Tree" ((v "a") ◂ (v "a") ◂ (v "a") ◂ nil)) ◂ nil)) ◂ (c "Tree" ((c "Tree" ((v "a") ◂ (v "a") ◂ (v "a") ◂ nil)) ◂ (c "Tree" ((v "a") ◂ (v "a") ◂ (v "a") ◂ nil)) ◂ (c "Tree" ((v "a") ◂ (v "a") ◂ (v "a") ◂ nil)) ◂ nil)) ◂ (c "Tree" ((c "Tree" ((v "a") ◂ (v "a") ◂ (v "a") ◂ nil)) ◂ (c "Tree" ((v "a") ◂ (v "a") ◂ (v "a") ◂ nil)) ◂ (c "Tree" ((v "a") ◂ (v "a") ◂ (v "a") ◂ nil)) ◂ nil)) ◂ nil)) ◂ nil)) ◂ (c "Pair" ((c "Tree" ((c "Tree" ((c "Tree" ((v "a") ◂ (v "a") ◂ (v "a") ◂ nil)) ◂ (c "Tree" ((v "a") ◂ (v "a") ◂ (v "a") ◂ nil)) ◂ (c "Tree" ((v "a") ◂ (v "a") ◂ (v "a") ◂ nil)) ◂ nil)) ◂ (c "Tree" ((c "Tree" ((v "a") ◂ (v "a") ◂ (v "a") ◂ nil)) ◂ (c "Tree" ((v "a") ◂ (v "a") ◂ (v "a") ◂ nil)) ◂ (c "Tree" ((v "a") ◂ (v "a") ◂ (v "a") ◂ nil)) ◂ nil)) ◂ (c "Tree" ((c "Tree" ((v "a") ◂ (v "a") ◂ (v "a") ◂ nil)) ◂ (c "Tree" ((v "a") ◂ (v "a") ◂ (v "a") ◂ nil)) ◂ (c "Tree" ((v "a") ◂ (v "a") ◂ (v "a") ◂ nil)) ◂ nil)) ◂ nil)) ◂ (c "Tree" ((c "Tree" ((c "Tree" ((v "a") ◂ (v "a") ◂ (v "a") ◂ nil)) ◂ (c "Tree" ((v "a") ◂ (v "a") ◂ (v "a") ◂ nil)) ◂ (c "Tree" ((v "a") ◂ (v "a") ◂ (v "a") ◂ nil)) ◂ nil)) ◂ (c "Tree" ((c "Tree" ((v "a") ◂ (v "a") ◂ (v "a") ◂ nil)) ◂ (c "Tree" ((v "a") ◂ (v "a") ◂ (v "a") ◂ nil)) ◂ (c "Tree" ((v "a") ◂ (v "a") ◂ (v "a") ◂ nil)) ◂ nil)) ◂ (c "Tree" ((c "Tree" ((v "a") ◂ (v "a") ◂ (v "a") ◂ nil)) ◂ (c "Tree" ((v "a") ◂ (v "a") ◂ (v "a") ◂ nil)) ◂ (c "Tree" ((v "a") ◂ (v "a") ◂ (v "a") ◂ nil)) ◂ nil)) ◂ nil)) ◂ nil)) ◂ (c "Pair" ((c "Tree" ((c "Tree" ((c "Tree" ((v "a") ◂ (v "a") ◂ (v "a") ◂ nil)) ◂ (c "Tree" ((v "a") ◂ (v "a") ◂ (v "a") ◂ nil)) ◂ (c "Tree" ((v "a") ◂ (v "a") ◂ (v "a") ◂ nil)) ◂ nil)) ◂ (c "Tree" ((c "Tree" ((v "a") ◂ (v "a") ◂ (v "a") ◂ nil)) ◂ (c "Tree" ((v "a") ◂ (v "a") ◂ (v "a") ◂ nil)) ◂ (c "Tree" ((v "a") ◂ (v "a") ◂ (v "a") ◂ nil)) ◂ nil)) ◂ (c "Tree" ((c "Tree" ((v "a") ◂ (v "a") ◂ (v "a") ◂ nil)) ◂ (c "Tree" ((v "a") ◂ (v "a") ◂ (v "a") ◂ nil)) ◂ (c "Tree" ((v "a") ◂ (v "a") ◂ (v "a") ◂ nil)) ◂ nil)) ◂ nil)) ◂ (c "Tree" ((c "Tree" ((c "Tree" ((v "a") ◂ (v "a") ◂ (v "a") ◂ nil)) ◂ (c "Tree" ((v "a") ◂ (v "a") ◂ (v "a") ◂ nil)) ◂ (c "Tree" ((v "a") ◂ (v "a") ◂ (v "a") ◂ nil)) ◂ nil)) ◂ (c "Tree" ((c "Tree" ((v "a") ◂ (v "a") ◂ (v "a") ◂ nil)) ◂ (c "Tree" ((v "a") ◂ (v "a") ◂ (v "a") ◂ nil)) ◂ (c "Tree" ((v "a") ◂ (v "a") ◂ (v "a") ◂ nil)) ◂ nil)) ◂ (c "Tree" ((c "Tree" ((v "a") ◂ (v "a") ◂ (v "a") ◂ nil)) ◂ (c "Tree" ((v "a") ◂ (v "a") ◂ (v "a") ◂ nil)) ◂ (c "Tree" ((v "a") ◂ (v "a") ◂ (v "a") ◂ nil)) ◂ nil)) ◂ nil)) ◂ nil)) ◂ nil))) ◂ (arrow (c "Tree" ((c "Pair" ((c "Tree" ((c "Tree" ((c "Tree" ((v "a") ◂ (v "a") ◂ (v "a") ◂ nil)) ◂ (c "Tree" ((v "a") ◂ (v "a") ◂ (v "a") ◂ nil)) ◂ (c "Tree" ((v "a") ◂ (v "a") ◂ (v "a") ◂ nil)) ◂ nil)) ◂ (c "Tree" ((c "Tree" ((v "a") ◂ (v "a") ◂ (v "a") ◂ nil)) ◂ (c "Tree" ((v "a") ◂ (v "a") ◂ (v "a") ◂ nil)) ◂ (c "Tree" ((v "a") ◂ (v "a") ◂ (v "a") ◂ nil)) ◂ nil)) ◂ (c "Tree" ((c "Tree" ((v "a") ◂ (v "a") ◂ (v "a") ◂ nil)) ◂ (c "Tree" ((v "a") ◂ (v "a") ◂ (v "a") ◂ nil)) ◂ (c "Tree" ((v "a") ◂ (v "a") ◂ (v "a") ◂ nil)) ◂ nil)) ◂ nil)) ◂ (c "Tree" ((c "Tree" ((c "Tree" ((v "a") ◂ (v "a") ◂ (v "a") ◂ nil)) ◂ (c "Tree" ((v "a") ◂ (v "a") ◂ (v "a") ◂ nil)) ◂ (c "Tree" ((v "a") ◂ (v "a") ◂ (v "a") ◂ nil)) ◂ nil)) ◂ (c "Tree" ((c "Tree" ((v "a") ◂ (v "a") ◂ (v "a") ◂ nil)) ◂ (c "Tree" ((v "a") ◂ (v "a") ◂ (v "a") ◂ nil)) ◂ (c "Tree" ((v "a") ◂ (v "a") ◂ (v "a") ◂ nil)) ◂ nil)) ◂ (c "Tree" ((c "Tree" ((v "a") ◂ (v "a") ◂ (v "a") ◂ nil)) ◂ (c "Tree" ((v "a") ◂ (v "a") ◂ (v "a") ◂ nil)) ◂ (c "Tree" ((v "a") ◂ (v "a") ◂ (v "a") ◂ nil)) ◂ nil)) ◂ nil)) ◂ nil)) ◂ (c "Pair" ((c "Tree" ((c "Tree" ((c "Tree" ((v "a") ◂ (v "a") ◂ (v "a") ◂ nil)) ◂ (c "Tree" ((v "a") ◂ (v "a") ◂ (v "a") ◂ nil)) ◂ (c "Tree" ((v "a") ◂ (v "a") ◂ (v "a") ◂ nil)) ◂ nil)) ◂ (c "Tree" ((c "Tree" ((v "a") ◂ (v "a") ◂ (v "a") ◂ nil)) ◂ (c "Tree" ((v "a") ◂ (v "a") ◂ (v "a") ◂ nil)) ◂ (c "Tree" ((v "a") ◂ (v "a") ◂ (v "a") ◂ nil)) ◂ nil)) ◂ (c "Tree" ((c "Tree" ((v "a") ◂ (v "a") ◂ (v "a") ◂ nil)) ◂ (c "Tree" ((v "a") ◂ (v "a") ◂ (v "a") ◂ nil)) ◂ (c "Tree" ((v "a") ◂ (v "a") ◂ (v "a") ◂ nil)) ◂ nil)) ◂ nil)) ◂ (c "Tree" ((c "Tree" ((c "Tree" ((v "a") ◂ (v "a") ◂ (v "a") ◂ nil)) ◂ (c "Tree" ((v "a") ◂ (v "a") ◂ (v "a") ◂ nil)) ◂ (c "Tree" ((v "a") ◂ (v "a") ◂ (v "a") ◂ nil)) ◂ nil)) ◂ (c "Tree" ((c "Tree" ((v "a") ◂ (v "a") ◂ (v "a") ◂ nil)) ◂ (c "Tree" ((v "a") ◂ (v "a") ◂ (v "a") ◂ nil)) ◂ (c "Tree" ((v "a") ◂ (v "a") ◂ (v "a") ◂ nil)) ◂ nil)) ◂ (c "Tree" ((c "Tree" ((v "a") ◂ (v "a") ◂ (v "a") ◂ nil)) ◂ (c "Tree" ((v "a") ◂ (v "a") ◂ (v "a") ◂ nil)) ◂ (c "Tree" ((v "a") ◂ (v "a") ◂ (v "a") ◂ nil)) ◂ nil)) ◂ nil)) ◂ nil)) ◂ (c "Pair" ((c "Tree" ((c "Tree" ((c "Tree" ((v "a") ◂ (v "a") ◂ (v "a") ◂ nil)) ◂ (c "Tree" ((v "a") ◂ (v "a") ◂ (v "a") ◂ nil)) ◂ (c "Tree" ((v "a") ◂ (v "a") ◂ (v "a") ◂ nil)) ◂ nil)) ◂ (c "Tree" ((c "Tree" ((v "a") ◂ (v "a") ◂ (v "a") ◂ nil)) ◂ (c "Tree" ((v "a") ◂ (v "a") ◂ (v "a") ◂ nil)) ◂ (c "Tree" ((v "a") ◂ (v "a") ◂ (v "a") ◂ nil)) ◂ nil)) ◂ (c "Tree" ((c "Tree" ((v "a") ◂ (v "a") ◂ (v "a") ◂ nil)) ◂ (c "Tree" ((v "a") ◂ (v "a") ◂ (v "a") ◂ nil)) ◂ (c "Tree" ((v "a") ◂ (v "a") ◂ (v "a") ◂ nil)) ◂ nil)) ◂ nil)) ◂ (c "Tree" ((c "Tree" ((c "Tree" ((v "a") ◂ (v "a") ◂ (v "a") ◂ nil)) ◂ (c "Tree" ((v "a") ◂ (v "a") ◂ (v "a") ◂ nil)) ◂ (c "Tree" ((v "a") ◂ (v "a") ◂ (v "a") ◂ nil)) ◂ nil)) ◂ (c "Tree" ((c "Tree" ((v "a") ◂ (v "a") ◂ (v "a") ◂ nil)) ◂ (c "Tree" ((v "a") ◂ (v "a") ◂ (v "a") ◂ nil)) ◂ (c "Tree" ((v "a") ◂ (v "a") ◂ (v "a") ◂ nil)) ◂ nil)) ◂ (c "Tree" ((c "Tree" ((v "a") ◂ (v "a") ◂ (v "a") ◂ nil)) ◂ (c "Tree" ((v "a") ◂ (v "a") ◂ (v "a") ◂ nil)) ◂ (c "Tree" ((v "a") ◂ (v "a") ◂ (v "a") ◂ nil)) ◂ nil)) ◂ nil)) ◂ nil)) ◂ nil)) (c "Tree" ((c "Pair" ((c "Tree" ((c "Tree" ((c "Tree" ((v "a") ◂ (v "a") ◂ (v "a") ◂ nil)) ◂ (c "Tree" ((v "a") ◂ (v "a") ◂ (v "a") ◂ nil)) ◂ (c "Tree" ((v "a") ◂ (v "a") ◂ (v "a") ◂ nil)) ◂ nil)) ◂ (c "Tree" ((c "Tree" ((v "a") ◂ (v "a") ◂ (v "a") ◂ nil)) ◂ (c "Tree" ((v "a") ◂ (v "a") ◂ (v "a") ◂ nil)) ◂ (c "Tree" ((v "a") ◂ (v "a") ◂ (v "a") ◂ nil)) ◂ nil)) ◂ (c "Tree" ((c "Tree" ((v "a") ◂ (v "a") ◂ (v "a") ◂ nil)) ◂ (c "Tree" ((v "a") ◂ (v "a") ◂ (v "a") ◂ nil)) ◂ (c "Tree" ((v "a") ◂ (v "a") ◂ (v "a") ◂ nil)) ◂ nil)) ◂ nil)) ◂ (c "Tree" ((c "Tree" ((c "Tree" ((v "a") ◂ (v "a") ◂ (v "a") ◂ nil)) ◂ (c "Tree" ((v "a") ◂ (v "a") ◂ (v "a") ◂ nil)) ◂ (c "Tree" ((v "a") ◂ (v "a") ◂ (v "a") ◂ nil)) ◂ nil)) ◂ (c "Tree" ((c "Tree" ((v "a") ◂ (v "a") ◂ (v "a") ◂ nil)) ◂ (c "Tree" ((v "a") ◂ (v "a") ◂ (v "a") ◂ nil)) ◂ (c "Tree" ((v "a") ◂ (v "a") ◂ (v "a") ◂ nil)) ◂ nil)) ◂ (c "Tree" ((c "Tree" ((v "a") ◂ (v "a") ◂ (v "a") ◂ nil)) ◂ (c "Tree" ((v "a") ◂ (v "a") ◂ (v "a") ◂ nil)) ◂ (c "Tree" ((v "a") ◂ (v "a") ◂ (v "a") ◂ nil)) ◂ nil)) ◂ nil)) ◂ nil)) ◂ (c "Pair" ((c "Tree" ((c "Tree" ((c "Tree" ((v "a") ◂ (v "a") ◂ (v "a") ◂ nil)) ◂ (c "Tree" ((v "a") ◂ (v "a") ◂ (v "a") ◂ nil)) ◂ (c "Tree" ((v "a") ◂ (v "a") ◂ (v "a") ◂ nil)) ◂ nil)) ◂ (c "Tree" ((c "Tree" ((v "a") ◂ (v "a") ◂ (v "a") ◂ nil)) ◂ (c "Tree" ((v "a") ◂ (v "a") ◂ (v "a") ◂ nil)) ◂ (c "Tree" ((v "a") ◂ (v "a") ◂ (v "a") ◂ nil)) ◂ nil)) ◂ (c "Tree" ((c "Tree" ((v "a") ◂ (v "a") ◂ (v "a") ◂ nil)) ◂ (c "Tree" ((v "a") ◂ (v "a") ◂ (v "a") ◂ nil)) ◂ (c "Tree" ((v "a") ◂ (v "a") ◂ (v "a") ◂ nil)) ◂ nil)) ◂ nil)) ◂ (c "Tree" ((c "Tree" ((c "Tree" ((v "a") ◂ (v "a") ◂ (v "a") ◂ nil)) ◂ (c "Tree" ((v "a") ◂ (v "a") ◂ (v "a") ◂ nil)) ◂ (c "Tree" ((v "a") ◂ (v "a") ◂ (v "a") ◂ nil)) ◂ nil)) ◂ (c "Tree" ((c "Tree" ((v "a") ◂ (v "a") ◂ (v "a") ◂ nil)) ◂ (c "Tree" ((v "a") ◂ (v "a") ◂ (v "a") ◂ nil)) ◂ (c "Tree" ((v "a") ◂ (v "a") ◂ (v "a") ◂ nil)) ◂ nil)) ◂ (c "Tree" ((c "Tree" ((v "a") ◂ (v "a") ◂ (v "a") ◂ nil)) ◂ (c "Tree" ((v "a") ◂ (v "a") ◂ (v "a") ◂ nil)) ◂ (c "Tree" ((v "a") ◂ (v "a") ◂ (v "a") ◂ nil)) ◂ nil)) ◂ nil)) ◂ nil)) ◂ (c "Pair" ((c "Tree" ((c "Tree" ((c "Tree" ((v "a") ◂ (v "a") ◂ (v "a") ◂ nil)) ◂ (c "Tree" ((v "a") ◂ (v "a") ◂ (v "a") ◂ nil)) ◂ (c "Tree" ((v "a") ◂ (v "a") ◂ (v "a") ◂ nil)) ◂ nil)) ◂ (c "Tree" ((c "Tree" ((v "a") ◂ (v "a") ◂ (v "a") ◂ nil)) ◂ (c "Tree" ((v "a") ◂ (v "a") ◂ (v "a") ◂ nil)) ◂ (c "Tree" ((v "a") ◂ (v "a") ◂ (v "a") ◂ nil)) ◂ nil)) ◂ (c "Tree" ((c "Tree" ((v "a") ◂ (v "a") ◂ (v "a") ◂ nil)) ◂ (c "Tree" ((v "a") ◂ (v "a") ◂ (v "a") ◂ nil)) ◂ (c "Tree" ((v "a") ◂ (v "a") ◂ (v "a") ◂ nil)) ◂ nil)) ◂ nil)) ◂ (c "Tree" ((c "Tree" ((c "Tree" ((v "a") ◂ (v "a") ◂ (v "a") ◂ nil)) ◂ (c "Tree" ((v "a") ◂ (v "a") ◂ (v "a") ◂ nil)) ◂ (c "Tree" ((v "a") ◂ (v "a") ◂ (v "a") ◂ nil)) ◂ nil)) ◂ (c "Tree" ((c "Tree" ((v "a") ◂ (v "a") ◂ (v "a") ◂ nil)) ◂ (c "Tree" ((v "a") ◂ (v "a") ◂ (v "a") ◂ nil)) ◂ (c "Tree" ((v "a") ◂ (v "a") ◂ (v "a") ◂ nil)) ◂ nil)) ◂ (c "Tree" ((c "Tree" ((v "a") ◂ (v "a") ◂ (v "a") ◂ nil)) ◂ (c "Tree" ((v "a") ◂ (v "a") ◂ (v "a") ◂ nil)) ◂ (c "Tree" ((v "a") ◂ (v "a") ◂ (v "a") ◂ nil)) ◂ nil)) ◂ nil)) ◂ nil)) ◂ nil))) ◂ (arrow (c "Tree" ((c "Pair" ((c "Tree" ((c "Tree" ((c "Tree" ((v "a") ◂ (v "a") ◂ (v "a") ◂ nil)) ◂ (c "Tree" ((v "a") ◂ (v "a") ◂ (v "a") ◂ nil)) ◂ (c "Tree" ((v "a") ◂ (v "a") ◂ (v "a") ◂ nil)) ◂ nil)) ◂ (c "Tree" ((c "Tree" ((v "a") ◂ (v "a") ◂ (v "a") ◂ nil)) ◂ (c "Tree" ((v "a") ◂ (v "a") ◂ (v "a") ◂ nil)) ◂ (c "Tree" ((v "a") ◂ (v "a") ◂ (v "a") ◂ nil)) ◂ nil)) ◂ (c "Tree" ((c "Tree" ((v "a") ◂ (v "a") ◂ (v "a") ◂ nil)) ◂ (c "Tree" ((v "a") ◂ (v "a") ◂ (v "a") ◂ nil)) ◂ (c "Tree" ((v "a") ◂ (v "a") ◂ (v "a") ◂ nil)) ◂ nil)) ◂ nil)) ◂ (c "Tree" ((c "Tree" ((c "Tree" ((v "a") ◂ (v "a") ◂ (v "a") ◂ nil)) ◂ (c "Tree" ((v "a") ◂ (v "a") ◂ (v "a") ◂ nil)) ◂ (c "Tree" ((v "a") ◂ (v "a") ◂ (v "a") ◂ nil)) ◂ nil)) ◂ (c "Tree" ((c "Tree" ((v "a") ◂ (v "a") ◂ (v "a") ◂ nil)) ◂ (c "Tree" ((v "a") ◂ (v "a") ◂ (v "a") ◂ nil)) ◂ (c "Tree" ((v "a") ◂ (v "a") ◂ (v "a") ◂ nil)) ◂ nil)) ◂ (c "Tree" ((c "Tree" ((v "a") ◂ (v "a") ◂ (v "a") ◂ nil)) ◂ (c "Tree" ((v "a") ◂ (v "a") ◂ (v "a") ◂ nil)) ◂ (c "Tree" ((v "a") ◂ (v "a") ◂ (v "a") ◂ nil)) ◂ nil)) ◂ nil)) ◂ nil)) ◂ (c "Pair" ((c "Tree" ((c "Tree" ((c "Tree" ((v "a") ◂ (v "a") ◂ (v "a") ◂ nil)) ◂ (c "Tree" ((v "a") ◂ (v "a") ◂ (v "a") ◂ nil)) ◂ (c "Tree" ((v "a") ◂ (v "a") ◂ (v "a") ◂ nil)) ◂ nil)) ◂ (c "Tree" ((c "Tree" ((v "a") ◂ (v "a") ◂ (v "a") ◂ nil)) ◂ (c "Tree" ((v "a") ◂ (v "a") ◂ (v "a") ◂ nil)) ◂ (c "Tree" ((v "a") ◂ (v "a") ◂ (v "a") ◂ nil)) ◂ nil)) ◂ (c "Tree" ((c "Tree" ((v "a") ◂ (v "a") ◂ (v "a") ◂ nil)) ◂ (c "Tree" ((v "a") ◂ (v "a") ◂ (v "a") ◂ nil)) ◂ (c "Tree" ((v "a") ◂ (v "a") ◂ (v "a") ◂ nil)) ◂ nil)) ◂ nil)) ◂ (c "Tree" ((c "Tree" ((c "Tree" ((v "a") ◂ (v "a") ◂ (v "a") ◂ nil)) ◂ (c "Tree" ((v "a") ◂ (v "a") ◂ (v "a") ◂ nil)) ◂ (c "Tree" ((v "a") ◂ (v "a") ◂ (v "a") ◂ nil)) ◂ nil)) ◂ (c "Tree" ((c "Tree" ((v "a") ◂ (v "a") ◂ (v "a") ◂ nil)) ◂ (c "Tree" ((v "a") ◂ (v "a") ◂ (v "a") ◂ nil)) ◂ (c "Tree" ((v "a") ◂ (v "a") ◂ (v "a") ◂ nil)) ◂ nil)) ◂ (c "Tree" ((c "Tree" ((v "a") ◂ (v "a") ◂ (v "a") ◂ nil)) ◂ (c "Tree" ((v "a") ◂ (v "a") ◂ (v "a") ◂ nil)) ◂ (c "Tree" ((v "a") ◂ (v "a") ◂ (v "a") ◂ nil)) ◂ nil)) ◂ nil)) ◂ nil)) ◂ (c "Pair" ((c "Tree" ((c "Tree" ((c "Tree" ((v "a") ◂ (v "a") ◂ (v "a") ◂ nil)) ◂ (c "Tree" ((v "a") ◂ (v "a") ◂ (v "a") ◂ nil)) ◂ (c "Tree" ((v "a") ◂ (v "a") ◂ (v "a") ◂ nil)) ◂ nil)) ◂ (c "Tree" ((c "Tree" ((v "a") ◂ (v "a") ◂ (v "a") ◂ nil)) ◂ (c "Tree" ((v "a") ◂ (v "a") ◂ (v "a") ◂ nil)) ◂ (c "Tree" ((v "a") ◂ (v "a") ◂ (v "a") ◂ nil)) ◂ nil)) ◂ (c "Tree" ((c "Tree" ((v "a") ◂ (v "a") ◂ (v "a") ◂ nil)) ◂ (c "Tree" ((v "a") ◂ (v "a") ◂ (v "a") ◂ nil)) ◂ (c "Tree" ((v "a") ◂ (v "a") ◂ (v "a") ◂ nil)) ◂ nil)) ◂ nil)) ◂ (c "Tree" ((c "Tree" ((c "Tree" ((v "a") ◂ (v "a") ◂ (v "a") ◂ nil)) ◂ (c "Tree" ((v "a") ◂ (v "a") ◂ (v "a") ◂ nil)) ◂ (c "Tree" ((v "a") ◂ (v "a") ◂ (v "a") ◂ nil)) ◂ nil)) ◂ (c "Tree" ((c "Tree" ((v "a") ◂ (v "a") ◂ (v "a") ◂ nil)) ◂ (c "Tree" ((v "a") ◂ (v "a") ◂ (v "a") ◂ nil)) ◂ (c "Tree" ((v "a") ◂ (v "a") ◂ (v "a") ◂ nil)) ◂ nil)) ◂ (c "Tree" ((c "Tree" ((v "a") ◂ (v "a") ◂ (v "a") ◂ nil)) ◂ (c "Tree" ((v "a") ◂ (v "a") ◂ (v "a") ◂ nil)) ◂ (c "Tree" ((v "a") ◂ (v "a") ◂ (v "a") ◂ nil)) ◂ nil)) ◂ nil)) ◂ nil)) ◂ nil)) (c "Tree" ((c "Pair" ((c "Tree" ((c "Tree" ((c "Tree" ((v "a") ◂ (v "a") ◂ (v "a") ◂ nil)) ◂ (c "Tree" ((v "a") ◂ (v "a") ◂ (v "a") ◂ nil)) ◂ (c "Tree" ((v "a") ◂ (v "a") ◂ (v "a") ◂ nil)) ◂ nil)) ◂ (c "Tree" ((c "Tree" ((v "a") ◂ (v "a") ◂ (v "a") ◂ nil)) ◂ (c "Tree" ((v "a") ◂ (v "a") ◂ (v "a") ◂ nil)) ◂ (c "Tree" ((v "a") ◂ (v "a") ◂ (v "a") ◂ nil)) ◂ nil)) ◂ (c "Tree" ((c "Tree" ((v "a") ◂ (v "a") ◂ (v "a") ◂ nil)) ◂ (c "Tree" ((v "a") ◂ (v "a") ◂ (v "a") ◂ nil)) ◂ (c "Tree" ((v "a") ◂ (v "a") ◂ (v "a") ◂ nil)) ◂ nil)) ◂ nil)) ◂ (c "Tree" ((c "Tree" ((c "Tree" ((v "a") ◂ (v "a") ◂ (v "a") ◂ nil)) ◂ (c "Tree" ((v "a") ◂ (v "a") ◂ (v "a") ◂ nil)) ◂ (c "Tree" ((v "a") ◂ (v "a") ◂ (v "a") ◂ nil)) ◂ nil)) ◂ (c "Tree" ((c "Tree" ((v "a") ◂ (v "a") ◂ (v "a") ◂ nil)) ◂ (c "Tree" ((v "a") ◂ (v "a") ◂ (v "a") ◂ nil)) ◂ (c "Tree" ((v "a") ◂ (v "a") ◂ (v "a") ◂ nil)) ◂ nil)) ◂ (c "Tree" ((c "Tree" ((v "a") ◂ (v "a") ◂ (v "a") ◂ nil)) ◂ (c "Tree" ((v "a") ◂ (v "a") ◂ (v "a") ◂ nil)) ◂ (c "Tree" ((v "a") ◂ (v "a") ◂ (v "a") ◂ nil)) ◂ nil)) ◂ nil)) ◂ nil)) ◂ (c "Pair" ((c "Tree" ((c "Tree" ((c "Tree" ((v "a") ◂ (v "a") ◂ (v "a") ◂ nil)) ◂ (c "Tree" ((v "a") ◂ (v "a") ◂ (v "a") ◂ nil)) ◂ (c "Tree" ((v "a") ◂ (v "a") ◂ (v "a") ◂ nil)) ◂ nil)) ◂ (c "Tree" ((c "Tree" ((v "a") ◂ (v "a") ◂ (v "a") ◂ nil)) ◂ (c "Tree" ((v "a") ◂ (v "a") ◂ (v "a") ◂ nil)) ◂ (c "Tree" ((v "a") ◂ (v "a") ◂ (v "a") ◂ nil)) ◂ nil)) ◂ (c "Tree" ((c "Tree" ((v "a") ◂ (v "a") ◂ (v "a") ◂ nil)) ◂ (c "Tree" ((v "a") ◂ (v "a") ◂ (v "a") ◂ nil)) ◂ (c "Tree" ((v "a") ◂ (v "a") ◂ (v "a") ◂ nil)) ◂ nil)) ◂ nil)) ◂ (c "Tree" ((c "Tree" ((c "Tree" ((v "a") ◂ (v "a") ◂ (v "a") ◂ nil)) ◂ (c "Tree" ((v "a") ◂ (v "a") ◂ (v "a") ◂ nil)) ◂ (c "Tree" ((v "a") ◂ (v "a") ◂ (v "a") ◂ nil)) ◂ nil)) ◂ (c "Tree" ((c "Tree" ((v "a") ◂ (v "a") ◂ (v "a") ◂ nil)) ◂ (c "Tree" ((v "a") ◂ (v "a") ◂ (v "a") ◂ nil)) ◂ (c "Tree" ((v "a") ◂ (v "a") ◂ (v "a") ◂ nil)) ◂ nil)) ◂ (c "Tree" ((c "Tree" ((v "a") ◂ (v "a") ◂ (v "a") ◂ nil)) ◂ (c "Tree" ((v "a") ◂ (v "a") ◂ (v "a") ◂ nil)) ◂ (c "Tree" ((v "a") ◂ (v "a") ◂ (v "a") ◂ nil)) ◂ nil)) ◂ nil)) ◂ nil)) ◂ (c "Pair" ((c "Tree" ((c "Tree" ((c "Tree" ((v "a") ◂ (v "a") ◂ (v "a") ◂ nil)) ◂ (c "Tree" ((v "a") ◂ (v "a") ◂ (v "a") ◂ nil)) ◂ (c "Tree" ((v "a") ◂ (v "a") ◂ (v "a") ◂ nil)) ◂ nil)) ◂ (c "Tree" ((c "Tree" ((v "a") ◂ (v "a") ◂ (v "a") ◂ nil)) ◂ (c "Tree" ((v "a") ◂ (v "a") ◂ (v "a") ◂ nil)) ◂ (c "Tree" ((v "a") ◂ (v "a") ◂ (v "a") ◂ nil)) ◂ nil)) ◂ (c "Tree" ((c "Tree" ((v "a") ◂ (v "a") ◂ (v "a") ◂ nil)) ◂ (c "Tree" ((v "a") ◂ (v "a") ◂ (v "a") ◂ nil)) ◂ (c "Tree" ((v "a") ◂ (v "a") ◂ (v "a") ◂ nil)) ◂ nil)) ◂ nil)) ◂ (c "Tree" ((c "Tree" ((c "Tree" ((v "a") ◂ (v "a") ◂ (v "a") ◂ nil)) ◂ (c "Tree" ((v "a") ◂ (v "a") ◂ (v "a") ◂ nil)) ◂ (c "Tree" ((v "a") ◂ (v "a") ◂ (v "a") ◂ nil)) ◂ nil)) ◂ (c "Tree" ((c "Tree" ((v "a") ◂ (v "a") ◂ (v "a") ◂ nil)) ◂ (c "Tree" ((v "a") ◂ (v "a") ◂ (v "a") ◂ nil)) ◂ (c "Tree" ((v "a") ◂ (v "a") ◂ (v "a") ◂ nil)) ◂ nil)) ◂ (c "Tree" ((c "Tree" ((v "a") ◂ (v "a") ◂ (v "a") ◂ nil)) ◂ (c "Tree" ((v "a") ◂ (v "a") ◂ (v "a") ◂ nil)) ◂ (c "Tree" ((v "a") ◂ (v "a") ◂ (v "a") ◂ nil)) ◂ nil)) ◂ nil)) ◂ nil)) ◂ nil))) ◂ nil)) ◂ (c "Tree" ((arrow (c "Tree" ((c "Pair" ((c "Tree" ((c "Tree" ((c "Tree" ((v "a") ◂ (v "a") ◂ (v "a") ◂ nil)) ◂ (c "Tree" ((v "a") ◂ (v "a") ◂ (v "a") ◂ nil)) ◂ (c "Tree" ((v "a") ◂ (v "a") ◂ (v "a") ◂ nil)) ◂ nil)) ◂ (c "Tree" ((c "Tree" ((v "a") ◂ (v "a") ◂ (v "a") ◂ nil)) ◂ (c "Tree" ((v "a") ◂ (v "a") ◂ (v "a") ◂ nil)) ◂ (c "Tree" ((v "a") ◂ (v "a") ◂ (v "a") ◂ nil)) ◂ nil)) ◂ (c "Tree" ((c "Tree" ((v "a") ◂ (v "a") ◂ (v "a") ◂ nil)) ◂ (c "Tree" ((v "a") ◂ (v "a") ◂ (v "a") ◂ nil)) ◂ (c "Tree" ((v "a") ◂ (v "a") ◂ (v "a") ◂ nil)) ◂ nil)) ◂ nil)) ◂ (c "Tree" ((c "Tree" ((c "Tree" ((v "a") ◂ (v "a") ◂ (v "a") ◂ nil)) ◂ (c "Tree" ((v "a") ◂ (v "a") ◂ (v "a") ◂ nil)) ◂ (c "Tree" ((v "a") ◂ (v "a") ◂ (v "a") ◂ nil)) ◂ nil)) ◂ (c "Tree" ((c "Tree" ((v "a") ◂ (v "a") ◂ (v "a") ◂ nil)) ◂ (c "Tree" ((v "a") ◂ (v "a") ◂ (v "a") ◂ nil)) ◂ (c "Tree" ((v "a") ◂ (v "a") ◂ (v "a") ◂ nil)) ◂ nil)) ◂ (c "Tree" ((c "Tree" ((v "a") ◂ (v "a") ◂ (v "a") ◂ nil)) ◂ (c "Tree" ((v "a") ◂ (v "a") ◂ (v "a") ◂ nil)) ◂ (c "Tree" ((v "a") ◂ (v "a") ◂ (v "a") ◂ nil)) ◂ nil)) ◂ nil)) ◂ nil)) ◂ (c "Pair" ((c "Tree" ((c "Tree" ((c "Tree" ((v "a") ◂ (v "a") ◂ (v "a") ◂ nil)) ◂ (c "Tree" ((v "a") ◂ (v "a") ◂ (v "a") ◂ nil)) ◂ (c "Tree" ((v "a") ◂ (v "a") ◂ (v "a") ◂ nil)) ◂ nil)) ◂ (c "Tree" ((c "Tree" ((v "a") ◂ (v "a") ◂ (v "a") ◂ nil)) ◂ (c "Tree" ((v "a") ◂ (v "a") ◂ (v "a") ◂ nil)) ◂ (c "Tree" ((v "a") ◂ (v "a") ◂ (v "a") ◂ nil)) ◂ nil)) ◂ (c "Tree" ((c "Tree" ((v "a") ◂ (v "a") ◂ (v "a") ◂ nil)) ◂ (c "Tree" ((v "a") ◂ (v "a") ◂ (v "a") ◂ nil)) ◂ (c "Tree" ((v "a") ◂ (v "a") ◂ (v "a") ◂ nil)) ◂ nil)) ◂ nil)) ◂ (c "Tree" ((c "Tree" ((c "Tree" ((v "a") ◂ (v "a") ◂ (v "a") ◂ nil)) ◂ (c "Tree" ((v "a") ◂ (v "a") ◂ (v "a") ◂ nil)) ◂ (c "Tree" ((v "a") ◂ (v "a") ◂ (v "a") ◂ nil)) ◂ nil)) ◂ (c "Tree" ((c "Tree" ((v "a") ◂ (v "a") ◂ (v "a") ◂ nil)) ◂ (c "Tree" ((v "a") ◂ (v "a") ◂ (v "a") ◂ nil)) ◂ (c "Tree" ((v "a") ◂ (v "a") ◂ (v "a") ◂ nil)) ◂ nil)) ◂ (c "Tree" ((c "Tree" ((v "a") ◂ (v "a") ◂ (v "a") ◂ nil)) ◂ (c "Tree" ((v "a") ◂ (v "a") ◂ (v "a") ◂ nil)) ◂ (c "Tree" ((v "a") ◂ (v "a") ◂ (v "a") ◂ nil)) ◂ nil)) ◂ nil)) ◂ nil)) ◂ (c "Pair" ((c "Tree" ((c "Tree" ((c "Tree" ((v "a") ◂ (v "a") ◂ (v "a") ◂ nil)) ◂ (c "Tree" ((v "a") ◂ (v "a") ◂ (v "a") ◂ nil)) ◂ (c "Tree" ((v "a") ◂ (v "a") ◂ (v "a") ◂ nil)) ◂ nil)) ◂ (c "Tree" ((c "Tree" ((v "a") ◂ (v "a") ◂ (v "a") ◂ nil)) ◂ (c "Tree" ((v "a") ◂ (v "a") ◂ (v "a") ◂ nil)) ◂ (c "Tree" ((v "a") ◂ (v "a") ◂ (v "a") ◂ nil)) ◂ nil)) ◂ (c "Tree" ((c "Tree" ((v "a") ◂ (v "a") ◂ (v "a") ◂ nil)) ◂ (c "Tree" ((v "a") ◂ (v "a") ◂ (v "a") ◂ nil)) ◂ (c "Tree" ((v "a") ◂ (v "a") ◂ (v "a") ◂ nil)) ◂ nil)) ◂ nil)) ◂ (c "Tree" ((c "Tree" ((c "Tree" ((v "a") ◂ (v "a") ◂ (v "a") ◂ nil)) ◂ (c "Tree" ((v "a") ◂ (v "a") ◂ (v "a") ◂ nil)) ◂ (c "Tree" ((v "a") ◂ (v "a") ◂ (v "a") ◂ nil)) ◂ nil)) ◂ (c "Tree" ((c "Tree" ((v "a") ◂ (v "a") ◂ (v "a") ◂ nil)) ◂ (c "Tree" ((v "a") ◂ (v "a") ◂ (v "a") ◂ nil)) ◂ (c "Tree" ((v "a") ◂ (v "a") ◂ (v "a") ◂ nil)) ◂ nil)) ◂ (c "Tree" ((c "Tree" ((v "a") ◂ (v "a") ◂ (v "a") ◂ nil)) ◂ (c "Tree" ((v "a") ◂ (v "a") ◂ (v "a") ◂ nil)) ◂ (c "Tree" ((v "a") ◂ (v "a") ◂ (v "a") ◂ nil)) ◂ nil)) ◂ nil)) ◂ nil)) ◂ nil)) (c "Tree" ((c "Pair" ((c "Tree" ((c "Tree" ((c "Tree" ((v "a") ◂ (v "a") ◂ (v "a") ◂ nil)) ◂ (c "Tree" ((v "a") ◂ (v "a") ◂ (v "a") ◂ nil)) ◂ (c "Tree" ((v "a") ◂ (v "a") ◂ (v "a") ◂ nil)) ◂ nil)) ◂ (c "Tree" ((c "Tree" ((v "a") ◂ (v "a") ◂ (v "a") ◂ nil)) ◂ (c "Tree" ((v "a") ◂ (v "a") ◂ (v "a") ◂ nil)) ◂ (c "Tree" ((v "a") ◂ (v "a") ◂ (v "a") ◂ nil)) ◂ nil)) ◂ (c "Tree" ((c "Tree" ((v "a") ◂ (v "a") ◂ (v "a") ◂ nil)) ◂ (c "Tree" ((v "a") ◂ (v "a") ◂ (v "a") ◂ nil)) ◂ (c "Tree" ((v "a") ◂ (v "a") ◂ (v "a") ◂ nil)) ◂ nil)) ◂ nil)) ◂ (c "Tree" ((c "Tree" ((c "Tree" ((v "a") ◂ (v "a") ◂ (v "a") ◂ nil)) ◂ (c "Tree" ((v "a") ◂ (v "a") ◂ (v "a") ◂ nil)) ◂ (c "Tree" ((v "a") ◂ (v "a") ◂ (v "a") ◂ nil)) ◂ nil)) ◂ (c "Tree" ((c "Tree" ((v "a") ◂ (v "a") ◂ (v "a") ◂ nil)) ◂ (c "Tree" ((v "a") ◂ (v "a") ◂ (v "a") ◂ nil)) ◂ (c "Tree" ((v "a") ◂ (v "a") ◂ (v "a") ◂ nil)) ◂ nil)) ◂ (c "Tree" ((c "Tree" ((v "a") ◂ (v "a") ◂ (v "a") ◂ nil)) ◂ (c "Tree" ((v "a") ◂ (v "a") ◂ (v "a") ◂ nil)) ◂ (c "Tree" ((v "a") ◂ (v "a") ◂ (v "a") ◂ nil)) ◂ nil)) ◂ nil)) ◂ nil)) ◂ (c "Pair" ((c "Tree" ((c "Tree" ((c "Tree" ((v "a") ◂ (v "a") ◂ (v "a") ◂ nil)) ◂ (c "Tree" ((v "a") ◂ (v "a") ◂ (v "a") ◂ nil)) ◂ (c "Tree" ((v "a") ◂ (v "a") ◂ (v "a") ◂ nil)) ◂ nil)) ◂ (c "Tree" ((c "Tree" ((v "a") ◂ (v "a") ◂ (v "a") ◂ nil)) ◂ (c "Tree" ((v "a") ◂ (v "a") ◂ (v "a") ◂ nil)) ◂ (c "Tree" ((v "a") ◂ (v "a") ◂ (v "a") ◂ nil)) ◂ nil)) ◂ (c "Tree" ((c "Tree" ((v "a") ◂ (v "a") ◂ (v "a") ◂ nil)) ◂ (c "Tree" ((v "a") ◂ (v "a") ◂ (v "a") ◂ nil)) ◂ (c "Tree" ((v "a") ◂ (v "a") ◂ (v "a") ◂ nil)) ◂ nil)) ◂ nil)) ◂ (c "Tree" ((c "Tree" ((c "Tree" ((v "a") ◂ (v "a") ◂ (v "a") ◂ nil)) ◂ (c "Tree" ((v "a") ◂ (v "a") ◂ (v "a") ◂ nil)) ◂ (c "Tree" ((v "a") ◂ (v "a") ◂ (v "a") ◂ nil)) ◂ nil)) ◂ (c "Tree" ((c "Tree" ((v "a") ◂ (v "a") ◂ (v "a") ◂ nil)) ◂ (c "Tree" ((v "a") ◂ (v "a") ◂ (v "a") ◂ nil)) ◂ (c "Tree" ((v "a") ◂ (v "a") ◂ (v "a") ◂ nil)) ◂ nil)) ◂ (c "Tree" ((c "Tree" ((v "a") ◂ (v "a") ◂ (v "a") ◂ nil)) ◂ (c "Tree" ((v "a") ◂ (v "a") ◂ (v "a") ◂ nil)) ◂ (c "Tree" ((v "a") ◂ (v "a") ◂ (v "a") ◂ nil)) ◂ nil)) ◂ nil)) ◂ nil)) ◂ (c "Pair" ((c "Tree" ((c "Tree" ((c "Tree" ((v "a") ◂ (v "a") ◂ (v "a") ◂ nil)) ◂ (c "Tree" ((v "a") ◂ (v "a") ◂ (v "a") ◂ nil)) ◂ (c "Tree" ((v "a") ◂ (v "a") ◂ (v "a") ◂ nil)) ◂ nil)) ◂ (c "Tree" ((c "Tree" ((v "a") ◂ (v "a") ◂ (v "a") ◂ nil)) ◂ (c "Tree" ((v "a") ◂ (v "a") ◂ (v "a") ◂ nil)) ◂ (c "Tree" ((v "a") ◂ (v "a") ◂ (v "a") ◂ nil)) ◂ nil)) ◂ (c "Tree" ((c "Tree" ((v "a") ◂ (v "a") ◂ (v "a") ◂ nil)) ◂ (c "Tree" ((v "a") ◂ (v "a") ◂ (v "a") ◂ nil)) ◂ (c "Tree" ((v "a") ◂ (v "a") ◂ (v "a") ◂ nil)) ◂ nil)) ◂ nil)) ◂ (c "Tree" ((c "Tree" ((c "Tree" ((v "a") ◂ (v "a") ◂ (v "a") ◂ nil)) ◂ (c "Tree" ((v "a") ◂ (v "a") ◂ (v "a") ◂ nil)) ◂ (c "Tree" ((v "a") ◂ (v "a") ◂ (v "a") ◂ nil)) ◂ nil)) ◂ (c "Tree" ((c "Tree" ((v "a") ◂ (v "a") ◂ (v "a") ◂ nil)) ◂ (c "Tree" ((v "a") ◂ (v "a") ◂ (v "a") ◂ nil)) ◂ (c "Tree" ((v "a") ◂ (v "a") ◂ (v "a") ◂ nil)) ◂ nil)) ◂ (c "Tree" ((c "Tree" ((v "a") ◂ (v "a") ◂ (v "a") ◂ nil)) ◂ (c "Tree" ((v "a") ◂ (v "a") ◂ (v "a") ◂ nil)) ◂ (c "Tree" ((v "a") ◂ (v "a") ◂ (v "a") ◂ nil)) ◂ nil)) ◂ nil)) ◂ nil)) ◂ nil))) ◂ (arrow (c "Tree" ((c "Pair" ((c "Tree" ((c "Tree" ((c "Tree" ((v "a") ◂ (v "a") ◂ (v "a") ◂ nil)) ◂ (c "Tree" ((v "a") ◂ (v "a") ◂ (v "a") ◂ nil)) ◂ (c "Tree" ((v "a") ◂ (v "a") ◂ (v "a") ◂ nil)) ◂ nil)) ◂ (c "Tree" ((c "Tree" ((v "a") ◂ (v "a") ◂ (v "a") ◂ nil)) ◂ (c "Tree" ((v "a") ◂ (v "a") ◂ (v "a") ◂ nil)) ◂ (c "Tree" ((v "a") ◂ (v "a") ◂ (v "a") ◂ nil)) ◂ nil)) ◂ (c "Tree" ((c "Tree" ((v "a") ◂ (v "a") ◂ (v "a") ◂ nil)) ◂ (c "Tree" ((v "a") ◂ (v "a") ◂ (v "a") ◂ nil)) ◂ (c "Tree" ((v "a") ◂ (v "a") ◂ (v "a") ◂ nil)) ◂ nil)) ◂ nil)) ◂ (c "Tree" ((c "Tree" ((c "Tree" ((v "a") ◂ (v "a") ◂ (v "a") ◂ nil)) ◂ (c "Tree" ((v "a") ◂ (v "a") ◂ (v "a") ◂ nil)) ◂ (c "Tree" ((v "a") ◂ (v "a") ◂ (v "a") ◂ nil)) ◂ nil)) ◂ (c "Tree" ((c "Tree" ((v "a") ◂ (v "a") ◂ (v "a") ◂ nil)) ◂ (c "Tree" ((v "a") ◂ (v "a") ◂ (v "a") ◂ nil)) ◂ (c "Tree" ((v "a") ◂ (v "a") ◂ (v "a") ◂ nil)) ◂ nil)) ◂ (c "Tree" ((c "Tree" ((v "a") ◂ (v "a") ◂ (v "a") ◂ nil)) ◂ (c "Tree" ((v "a") ◂ (v "a") ◂ (v "a") ◂ nil)) ◂ (c "Tree" ((v "a") ◂ (v "a") ◂ (v "a") ◂ nil)) ◂ nil)) ◂ nil)) ◂ nil)) ◂ (c "Pair" ((c "Tree" ((c "Tree" ((c "Tree" ((v "a") ◂ (v "a") ◂ (v "a") ◂ nil)) ◂ (c "Tree" ((v "a") ◂ (v "a") ◂ (v "a") ◂ nil)) ◂ (c "Tree" ((v "a") ◂ (v "a") ◂ (v "a") ◂ nil)) ◂ nil)) ◂ (c "Tree" ((c "Tree" ((v "a") ◂ (v "a") ◂ (v "a") ◂ nil)) ◂ (c "Tree" ((v "a") ◂ (v "a") ◂ (v "a") ◂ nil)) ◂ (c "Tree" ((v "a") ◂ (v "a") ◂ (v "a") ◂ nil)) ◂ nil)) ◂ (c "Tree" ((c "Tree" ((v "a") ◂ (v "a") ◂ (v "a") ◂ nil)) ◂ (c "Tree" ((v "a") ◂ (v "a") ◂ (v "a") ◂ nil)) ◂ (c "Tree" ((v "a") ◂ (v "a") ◂ (v "a") ◂ nil)) ◂ nil)) ◂ nil)) ◂ (c "Tree" ((c "Tree" ((c "Tree" ((v "a") ◂ (v "a") ◂ (v "a") ◂ nil)) ◂ (c "Tree" ((v "a") ◂ (v "a") ◂ (v "a") ◂ nil)) ◂ (c "Tree" ((v "a") ◂ (v "a") ◂ (v "a") ◂ nil)) ◂ nil)) ◂ (c "Tree" ((c "Tree" ((v "a") ◂ (v "a") ◂ (v "a") ◂ nil)) ◂ (c "Tree" ((v "a") ◂ (v "a") ◂ (v "a") ◂ nil)) ◂ (c "Tree" ((v "a") ◂ (v "a") ◂ (v "a") ◂ nil)) ◂ nil)) ◂ (c "Tree" ((c "Tree" ((v "a") ◂ (v "a") ◂ (v "a") ◂ nil)) ◂ (c "Tree" ((v "a") ◂ (v "a") ◂ (v "a") ◂ nil)) ◂ (c "Tree" ((v "a") ◂ (v "a") ◂ (v "a") ◂ nil)) ◂ nil)) ◂ nil)) ◂ nil)) ◂ (c "Pair" ((c "Tree" ((c "Tree" ((c "Tree" ((v "a") ◂ (v "a") ◂ (v "a") ◂ nil)) ◂ (c "Tree" ((v "a") ◂ (v "a") ◂ (v "a") ◂ nil)) ◂ (c "Tree" ((v "a") ◂ (v "a") ◂ (v "a") ◂ nil)) ◂ nil)) ◂ (c "Tree" ((c "Tree" ((v "a") ◂ (v "a") ◂ (v "a") ◂ nil)) ◂ (c "Tree" ((v "a") ◂ (v "a") ◂ (v "a") ◂ nil)) ◂ (c "Tree" ((v "a") ◂ (v "a") ◂ (v "a") ◂ nil)) ◂ nil)) ◂ (c "Tree" ((c "Tree" ((v "a") ◂ (v "a") ◂ (v "a") ◂ nil)) ◂ (c "Tree" ((v "a") ◂ (v "a") ◂ (v "a") ◂ nil)) ◂ (c "Tree" ((v "a") ◂ (v "a") ◂ (v "a") ◂ nil)) ◂ nil)) ◂ nil)) ◂ (c "Tree" ((c "Tree" ((c "Tree" ((v "a") ◂ (v "a") ◂ (v "a") ◂ nil)) ◂ (c "Tree" ((v "a") ◂ (v "a") ◂ (v "a") ◂ nil)) ◂ (c "Tree" ((v "a") ◂ (v "a") ◂ (v "a") ◂ nil)) ◂ nil)) ◂ (c "Tree" ((c "Tree" ((v "a") ◂ (v "a") ◂ (v "a") ◂ nil)) ◂ (c "Tree" ((v "a") ◂ (v "a") ◂ (v "a") ◂ nil)) ◂ (c "Tree" ((v "a") ◂ (v "a") ◂ (v "a") ◂ nil)) ◂ nil)) ◂ (c "Tree" ((c "Tree" ((v "a") ◂ (v "a") ◂ (v "a") ◂ nil)) ◂ (c "Tree" ((v "a") ◂ (v "a") ◂ (v "a") ◂ nil)) ◂ (c "Tree" ((v "a") ◂ (v "a") ◂ (v "a") ◂ nil)) ◂ nil)) ◂ nil)) ◂ nil)) ◂ nil)) (c "Tree" ((c "Pair" ((c "Tree" ((c "Tree" ((c "Tree" ((v "a") ◂ (v "a") ◂ (v "a") ◂ nil)) ◂ (c "Tree" ((v "a") ◂ (v "a") ◂ (v "a") ◂ nil)) ◂ (c "Tree" ((v "a") ◂ (v "a") ◂ (v "a") ◂ nil)) ◂ nil)) ◂ (c "Tree" ((c "Tree" ((v "a") ◂ (v "a") ◂ (v "a") ◂ nil)) ◂ (c "Tree" ((v "a") ◂ (v "a") ◂ (v "a") ◂ nil)) ◂ (c "Tree" ((v "a") ◂ (v "a") ◂ (v "a") ◂ nil)) ◂ nil)) ◂ (c "Tree" ((c "Tree" ((v "a") ◂ (v "a") ◂ (v "a") ◂ nil)) ◂ (c "Tree" ((v "a") ◂ (v "a") ◂ (v "a") ◂ nil)) ◂ (c "Tree" ((v "a") ◂ (v "a") ◂ (v "a") ◂ nil)) ◂ nil)) ◂ nil)) ◂ (c "Tree" ((c "Tree" ((c "Tree" ((v "a") ◂ (v "a") ◂ (v "a") ◂ nil)) ◂ (c "Tree" ((v "a") ◂ (v "a") ◂ (v "a") ◂ nil)) ◂ (c "Tree" ((v "a") ◂ (v "a") ◂ (v "a") ◂ nil)) ◂ nil)) ◂ (c "Tree" ((c "Tree" ((v "a") ◂ (v "a") ◂ (v "a") ◂ nil)) ◂ (c "Tree" ((v "a") ◂ (v "a") ◂ (v "a") ◂ nil)) ◂ (c "Tree" ((v "a") ◂ (v "a") ◂ (v "a") ◂ nil)) ◂ nil)) ◂ (c "Tree" ((c "Tree" ((v "a") ◂ (v "a") ◂ (v "a") ◂ nil)) ◂ (c "Tree" ((v "a") ◂ (v "a") ◂ (v "a") ◂ nil)) ◂ (c "Tree" ((v "a") ◂ (v "a") ◂ (v "a") ◂ nil)) ◂ nil)) ◂ nil)) ◂ nil)) ◂ (c "Pair" ((c "Tree" ((c "Tree" ((c "Tree" ((v "a") ◂ (v "a") ◂ (v "a") ◂ nil)) ◂ (c "Tree" ((v "a") ◂ (v "a") ◂ (v "a") ◂ nil)) ◂ (c "Tree" ((v "a") ◂ (v "a") ◂ (v "a") ◂ nil)) ◂ nil)) ◂ (c "Tree" ((c "Tree" ((v "a") ◂ (v "a") ◂ (v "a") ◂ nil)) ◂ (c "Tree" ((v "a") ◂ (v "a") ◂ (v "a") ◂ nil)) ◂ (c "Tree" ((v "a") ◂ (v "a") ◂ (v "a") ◂ nil)) ◂ nil)) ◂ (c "Tree" ((c "Tree" ((v "a") ◂ (v "a") ◂ (v "a") ◂ nil)) ◂ (c "Tree" ((v "a") ◂ (v "a") ◂ (v "a") ◂ nil)) ◂ (c "Tree" ((v "a") ◂ (v "a") ◂ (v "a") ◂ nil)) ◂ nil)) ◂ nil)) ◂ (c "Tree" ((c "Tree" ((c "Tree" ((v "a") ◂ (v "a") ◂ (v "a") ◂ nil)) ◂ (c "Tree" ((v "a") ◂ (v "a") ◂ (v "a") ◂ nil)) ◂ (c "Tree" ((v "a") ◂ (v "a") ◂ (v "a") ◂ nil)) ◂ nil)) ◂ (c "Tree" ((c "Tree" ((v "a") ◂ (v "a") ◂ (v "a") ◂ nil)) ◂ (c "Tree" ((v "a") ◂ (v "a") ◂ (v "a") ◂ nil)) ◂ (c "Tree" ((v "a") ◂ (v "a") ◂ (v "a") ◂ nil)) ◂ nil)) ◂ (c "Tree" ((c "Tree" ((v "a") ◂ (v "a") ◂ (v "a") ◂ nil)) ◂ (c "Tree" ((v "a") ◂ (v "a") ◂ (v "a") ◂ nil)) ◂ (c "Tree" ((v "a") ◂ (v "a") ◂ (v "a") ◂ nil)) ◂ nil)) ◂ nil)) ◂ nil)) ◂ (c "Pair" ((c "Tree" ((c "Tree" ((c "Tree" ((v "a") ◂ (v "a") ◂ (v "a") ◂ nil)) ◂ (c "Tree" ((v "a") ◂ (v "a") ◂ (v "a") ◂ nil)) ◂ (c "Tree" ((v "a") ◂ (v "a") ◂ (v "a") ◂ nil)) ◂ nil)) ◂ (c "Tree" ((c "Tree" ((v "a") ◂ (v "a") ◂ (v "a") ◂ nil)) ◂ (c "Tree" ((v "a") ◂ (v "a") ◂ (v "a") ◂ nil)) ◂ (c "Tree" ((v "a") ◂ (v "a") ◂ (v "a") ◂ nil)) ◂ nil)) ◂ (c "Tree" ((c "Tree" ((v "a") ◂ (v "a") ◂ (v "a") ◂ nil)) ◂ (c "Tree" ((v "a") ◂ (v "a") ◂ (v "a") ◂ nil)) ◂ (c "Tree" ((v "a") ◂ (v "a") ◂ (v "a") ◂ nil)) ◂ nil)) ◂ nil)) ◂ (c "Tree" ((c "Tree" ((c "Tree" ((v "a") ◂ (v "a") ◂ (v "a") ◂ nil)) ◂ (c "Tree" ((v "a") ◂ (v "a") ◂ (v "a") ◂ nil)) ◂ (c "Tree" ((v "a") ◂ (v "a") ◂ (v "a") ◂ nil)) ◂ nil)) ◂ (c "Tree" ((c "Tree" ((v "a") ◂ (v "a") ◂ (v "a") ◂ nil)) ◂ (c "Tree" ((v "a") ◂ (v "a") ◂ (v "a") ◂ nil)) ◂ (c "Tree" ((v "a") ◂ (v "a") ◂ (v "a") ◂ nil)) ◂ nil)) ◂ (c "Tree" ((c "Tree" ((v "a") ◂ (v "a") ◂ (v "a") ◂ nil)) ◂ (c "Tree" ((v "a") ◂ (v "a") ◂ (v "a") ◂ nil)) ◂ (c "Tree" ((v "a") ◂ (v "a") ◂ (v "a") ◂ nil)) ◂ nil)) ◂ nil)) ◂ nil)) ◂ nil))) ◂ (arrow (c "Tree" ((c "Pair" ((c "Tree" ((c "Tree" ((c "Tree" ((v "a") ◂ (v "a") ◂ (v "a") ◂ nil)) ◂ (c "Tree" ((v "a") ◂ (v "a") ◂ (v "a") ◂ nil)) ◂ (c "Tree" ((v "a") ◂ (v "a") ◂ (v "a") ◂ nil)) ◂ nil)) ◂ (c "Tree" ((c "Tree" ((v "a") ◂ (v "a") ◂ (v "a") ◂ nil)) ◂ (c "Tree" ((v "a") ◂ (v "a") ◂ (v "a") ◂ nil)) ◂ (c "Tree" ((v "a") ◂ (v "a") ◂ (v "a") ◂ nil)) ◂ nil)) ◂ (c "Tree" ((c "Tree" ((v "a") ◂ (v "a") ◂ (v "a") ◂ nil)) ◂ (c "Tree" ((v "a") ◂ (v "a") ◂ (v "a") ◂ nil)) ◂ (c "Tree" ((v "a") ◂ (v "a") ◂ (v "a") ◂ nil)) ◂ nil)) ◂ nil)) ◂ (c "Tree" ((c "Tree" ((c "Tree" ((v "a") ◂ (v "a") ◂ (v "a") ◂ nil)) ◂ (c "Tree" ((v "a") ◂ (v "a") ◂ (v "a") ◂ nil)) ◂ (c "Tree" ((v "a") ◂ (v "a") ◂ (v "a") ◂ nil)) ◂ nil)) ◂ (c "Tree" ((c "Tree" ((v "a") ◂ (v "a") ◂ (v "a") ◂ nil)) ◂ (c "Tree" ((v "a") ◂ (v "a") ◂ (v "a") ◂ nil)) ◂ (c "Tree" ((v "a") ◂ (v "a") ◂ (v "a") ◂ nil)) ◂ nil)) ◂ (c "Tree" ((c "Tree" ((v "a") ◂ (v "a") ◂ (v "a") ◂ nil)) ◂ (c "Tree" ((v "a") ◂ (v "a") ◂ (v "a") ◂ nil)) ◂ (c "Tree" ((v "a") ◂ (v "a") ◂ (v "a") ◂ nil)) ◂ nil)) ◂ nil)) ◂ nil)) ◂ (c "Pair" ((c "Tree" ((c "Tree" ((c "Tree" ((v "a") ◂ (v "a") ◂ (v "a") ◂ nil)) ◂ (c "Tree" ((v "a") ◂ (v "a") ◂ (v "a") ◂ nil)) ◂ (c "Tree" ((v "a") ◂ (v "a") ◂ (v "a") ◂ nil)) ◂ nil)) ◂ (c "Tree" ((c "Tree" ((v "a") ◂ (v "a") ◂ (v "a") ◂ nil)) ◂ (c "Tree" ((v "a") ◂ (v "a") ◂ (v "a") ◂ nil)) ◂ (c "Tree" ((v "a") ◂ (v "a") ◂ (v "a") ◂ nil)) ◂ nil)) ◂ (c "Tree" ((c "Tree" ((v "a") ◂ (v "a") ◂ (v "a") ◂ nil)) ◂ (c "Tree" ((v "a") ◂ (v "a") ◂ (v "a") ◂ nil)) ◂ (c "Tree" ((v "a") ◂ (v "a") ◂ (v "a") ◂ nil)) ◂ nil)) ◂ nil)) ◂ (c "Tree" ((c "Tree" ((c "Tree" ((v "a") ◂ (v "a") ◂ (v "a") ◂ nil)) ◂ (c "Tree" ((v "a") ◂ (v "a") ◂ (v "a") ◂ nil)) ◂ (c "Tree" ((v "a") ◂ (v "a") ◂ (v "a") ◂ nil)) ◂ nil)) ◂ (c "Tree" ((c "Tree" ((v "a") ◂ (v "a") ◂ (v "a") ◂ nil)) ◂ (c "Tree" ((v "a") ◂ (v "a") ◂ (v "a") ◂ nil)) ◂ (c "Tree" ((v "a") ◂ (v "a") ◂ (v "a") ◂ nil)) ◂ nil)) ◂ (c "Tree" ((c "Tree" ((v "a") ◂ (v "a") ◂ (v "a") ◂ nil)) ◂ (c "Tree" ((v "a") ◂ (v "a") ◂ (v "a") ◂ nil)) ◂ (c "Tree" ((v "a") ◂ (v "a") ◂ (v "a") ◂ nil)) ◂ nil)) ◂ nil)) ◂ nil)) ◂ (c "Pair" ((c "Tree" ((c "Tree" ((c "Tree" ((v "a") ◂ (v "a") ◂ (v "a") ◂ nil)) ◂ (c "Tree" ((v "a") ◂ (v "a") ◂ (v "a") ◂ nil)) ◂ (c "Tree" ((v "a") ◂ (v "a") ◂ (v "a") ◂ nil)) ◂ nil)) ◂ (c "Tree" ((c "Tree" ((v "a") ◂ (v "a") ◂ (v "a") ◂ nil)) ◂ (c "Tree" ((v "a") ◂ (v "a") ◂ (v "a") ◂ nil)) ◂ (c "Tree" ((v "a") ◂ (v "a") ◂ (v "a") ◂ nil)) ◂ nil)) ◂ (c "Tree" ((c "Tree" ((v "a") ◂ (v "a") ◂ (v "a") ◂ nil)) ◂ (c "Tree" ((v "a") ◂ (v "a") ◂ (v "a") ◂ nil)) ◂ (c "Tree" ((v "a") ◂ (v "a") ◂ (v "a") ◂ nil)) ◂ nil)) ◂ nil)) ◂ (c "Tree" ((c "Tree" ((c "Tree" ((v "a") ◂ (v "a") ◂ (v "a") ◂ nil)) ◂ (c "Tree" ((v "a") ◂ (v "a") ◂ (v "a") ◂ nil)) ◂ (c "Tree" ((v "a") ◂ (v "a") ◂ (v "a") ◂ nil)) ◂ nil)) ◂ (c "Tree" ((c "Tree" ((v "a") ◂ (v "a") ◂ (v "a") ◂ nil)) ◂ (c "Tree" ((v "a") ◂ (v "a") ◂ (v "a") ◂ nil)) ◂ (c "Tree" ((v "a") ◂ (v "a") ◂ (v "a") ◂ nil)) ◂ nil)) ◂ (c "Tree" ((c "Tree" ((v "a") ◂ (v "a") ◂ (v "a") ◂ nil)) ◂ (c "Tree" ((v "a") ◂ (v "a") ◂ (v "a") ◂ nil)) ◂ (c "Tree" ((v "a") ◂ (v "a") ◂ (v "a") ◂ nil)) ◂ nil)) ◂ nil)) ◂ nil)) ◂ nil)) (c "Tree" ((c "Pair" ((c "Tree" ((c "Tree" ((c "Tree" ((v "a") ◂ (v "a") ◂ (v "a") ◂ nil)) ◂ (c "Tree" ((v "a") ◂ (v "a") ◂ (v "a") ◂ nil)) ◂ (c "Tree" ((v "a") ◂ (v "a") ◂ (v "a") ◂ nil)) ◂ nil)) ◂ (c "Tree" ((c "Tree" ((v "a") ◂ (v "a") ◂ (v "a") ◂ nil)) ◂ (c "Tree" ((v "a") ◂ (v "a") ◂ (v "a") ◂ nil)) ◂ (c "Tree" ((v "a") ◂ (v "a") ◂ (v "a") ◂ nil)) ◂ nil)) ◂ (c "Tree" ((c "Tree" ((v "a") ◂ (v "a") ◂ (v "a") ◂ nil)) ◂ (c "Tree" ((v "a") ◂ (v "a") ◂ (v "a") ◂ nil)) ◂ (c "Tree" ((v "a") ◂ (v "a") ◂ (v "a") ◂ nil)) ◂ nil)) ◂ nil)) ◂ (c "Tree" ((c "Tree" ((c "Tree" ((v "a") ◂ (v "a") ◂ (v "a") ◂ nil)) ◂ (c "Tree" ((v "a") ◂ (v "a") ◂ (v "a") ◂ nil)) ◂ (c "Tree" ((v "a") ◂ (v "a") ◂ (v "a") ◂ nil)) ◂ nil)) ◂ (c "Tree" ((c "Tree" ((v "a") ◂ (v "a") ◂ (v "a") ◂ nil)) ◂ (c "Tree" ((v "a") ◂ (v "a") ◂ (v "a") ◂ nil)) ◂ (c "Tree" ((v "a") ◂ (v "a") ◂ (v "a") ◂ nil)) ◂ nil)) ◂ (c "Tree" ((c "Tree" ((v "a") ◂ (v "a") ◂ (v "a") ◂ nil)) ◂ (c "Tree" ((v "a") ◂ (v "a") ◂ (v "a") ◂ nil)) ◂ (c "Tree" ((v "a") ◂ (v "a") ◂ (v "a") ◂ nil)) ◂ nil)) ◂ nil)) ◂ nil)) ◂ (c "Pair" ((c "Tree" ((c "Tree" ((c "Tree" ((v "a") ◂ (v "a") ◂ (v "a") ◂ nil)) ◂ (c "Tree" ((v "a") ◂ (v "a") ◂ (v "a") ◂ nil)) ◂ (c "Tree" ((v "a") ◂ (v "a") ◂ (v "a") ◂ nil)) ◂ nil)) ◂ (c "Tree" ((c "Tree" ((v "a") ◂ (v "a") ◂ (v "a") ◂ nil)) ◂ (c "Tree" ((v "a") ◂ (v "a") ◂ (v "a") ◂ nil)) ◂ (c "Tree" ((v "a") ◂ (v "a") ◂ (v "a") ◂ nil)) ◂ nil)) ◂ (c "Tree" ((c "Tree" ((v "a") ◂ (v "a") ◂ (v "a") ◂ nil)) ◂ (c "Tree" ((v "a") ◂ (v "a") ◂ (v "a") ◂ nil)) ◂ (c "Tree" ((v "a") ◂ (v "a") ◂ (v "a") ◂ nil)) ◂ nil)) ◂ nil)) ◂ (c "Tree" ((c "Tree" ((c "Tree" ((v "a") ◂ (v "a") ◂ (v "a") ◂ nil)) ◂ (c "Tree" ((v "a") ◂ (v "a") ◂ (v "a") ◂ nil)) ◂ (c "Tree" ((v "a") ◂ (v "a") ◂ (v "a") ◂ nil)) ◂ nil)) ◂ (c "Tree" ((c "Tree" ((v "a") ◂ (v "a") ◂ (v "a") ◂ nil)) ◂ (c "Tree" ((v "a") ◂ (v "a") ◂ (v "a") ◂ nil)) ◂ (c "Tree" ((v "a") ◂ (v "a") ◂ (v "a") ◂ nil)) ◂ nil)) ◂ (c "Tree" ((c "Tree" ((v "a") ◂ (v "a") ◂ (v "a") ◂ nil)) ◂ (c "Tree" ((v "a") ◂ (v "a") ◂ (v "a") ◂ nil)) ◂ (c "Tree" ((v "a") ◂ (v "a") ◂ (v "a") ◂ nil)) ◂ nil)) ◂ nil)) ◂ nil)) ◂ (c "Pair" ((c "Tree" ((c "Tree" ((c "Tree" ((v "a") ◂ (v "a") ◂ (v "a") ◂ nil)) ◂ (c "Tree" ((v "a") ◂ (v "a") ◂ (v "a") ◂ nil)) ◂ (c "Tree" ((v "a") ◂ (v "a") ◂ (v "a") ◂ nil)) ◂ nil)) ◂ (c "Tree" ((c "Tree" ((v "a") ◂ (v "a") ◂ (v "a") ◂ nil)) ◂ (c "Tree" ((v "a") ◂ (v "a") ◂ (v "a") ◂ nil)) ◂ (c "Tree" ((v "a") ◂ (v "a") ◂ (v "a") ◂ nil)) ◂ nil)) ◂ (c "Tree" ((c "Tree" ((v "a") ◂ (v "a") ◂ (v "a") ◂ nil)) ◂ (c "Tree" ((v "a") ◂ (v "a") ◂ (v "a") ◂ nil)) ◂ (c "Tree" ((v "a") ◂ (v "a") ◂ (v "a") ◂ nil)) ◂ nil)) ◂ nil)) ◂ (c "Tree" ((c "Tree" ((c "Tree" ((v "a") ◂ (v "a") ◂ (v "a") ◂ nil)) ◂ (c "Tree" ((v "a") ◂ (v "a") ◂ (v "a") ◂ nil)) ◂ (c "Tree" ((v "a") ◂ (v "a") ◂ (v "a") ◂ nil)) ◂ nil)) ◂ (c "Tree" ((c "Tree" ((v "a") ◂ (v "a") ◂ (v "a") ◂ nil)) ◂ (c "Tree" ((v "a") ◂ (v "a") ◂ (v "a") ◂ nil)) ◂ (c "Tree" ((v "a") ◂ (v "a") ◂ (v "a") ◂ nil)) ◂ nil)) ◂ (c "Tree" ((c "Tree" ((v "a") ◂ (v "a") ◂ (v "a") ◂ nil)) ◂ (c "Tree" ((v "a") ◂ (v "a") ◂ (v "a") ◂ nil)) ◂ (c "Tree" ((v "a") ◂ (v "a") ◂ (v "a") ◂ nil)) ◂ nil)) ◂ nil)) ◂ nil)) ◂ nil))) ◂ nil)) ◂ nil)) ◂ nil)) []
    ∷ instance [] "Big" (c "Int" nil) []
    ∷ check (eapp (ev "big") (eint 1))
    ∷ check (eapp (ev "big") (eapp (ev "big") (eint 1)))
    ∷ check (lam "x" (eapp (ev "big") (ev "x")))
    ∷ check (bind "f" (lam "x" (lam "s" (eapp (eapp (ev "s") (ev "x")) (ev "x")))) (eapp (ev "f") (eapp (ev "f") (eapp (ev "f") (eint 1)))))
    ∷ []

b_5003960_computed : metered 20000 2000000 20000 b_5003960 ≡ said "declarations 7\n0 0 - | 17629 17662 0 0\n1 5 - | 0 17662 0 0\n2 5 - | 0 17662 0 0\n3 5 - | 0 17662 0 0\n4 5 - | 0 17662 0 0\n5 5 - | 0 17662 0 0\n6 5 - | 0 17662 0 0\n"
unfolding everything metered said
b_5003960_computed = refl

abbrev b_5004038 : List Decl
b_5004038 =
    class "Eq" "a" [] (sig "eq" (arrow (v "a") (arrow (v "a") (c "Bool" nil))) ∷ []) []
    ∷ class "Ord" "a" ("Eq" ∷ []) (sig "lt" (arrow (v "a") (arrow (v "a") (c "Bool" nil))) ∷ []) []
    ∷ class "Real" "a" ("Ord" ∷ "Eq" ∷ []) (sig "add" (arrow (v "a") (arrow (v "a") (v "a"))) ∷ []) []
    ∷ class "Bag" "a" [] (sig "nil" (c "List" ((v "a") ◂ nil)) ∷ sig "cons" (arrow (v "a") (arrow (c "List" ((v "a") ◂ nil)) (c "List" ((v "a") ◂ nil)))) ∷ sig "pair" (arrow (v "a") (arrow (v "b") (c "Pair" ((v "a") ◂ (v "b") ◂ nil)))) ∷ sig "odd" (arrow (v "a") (c "List" nil)) ∷ []) (body "nil" (eint 0) ∷ body "cons" (eint 0) ∷ body "pair" (eint 0) ∷ body "odd" (eint 0) ∷ [])
    ∷ instance [] "Bag" (c "Int" nil) []
    ∷ instance [] "Bag" (c "Bool" nil) []
    ∷ instance [] "Bag" (c "List" ((v "a") ◂ nil)) []
    ∷ instance [] "Bag" (c "Pair" ((v "a") ◂ (v "b") ◂ nil)) []
    ∷ instance [] "Eq" (c "Int" nil) (body "eq" (ev "primEqInt") ∷ [])
    ∷ instance [] "Ord" (c "Int" nil) (body "lt" (ev "primLtInt") ∷ [])
    ∷ instance [] "Eq" (c "Bool" nil) (body "eq" (ev "primEqBool") ∷ [])
    ∷ instance [] "Ord" (c "Bool" nil) (body "lt" (ev "primAndBool") ∷ [])
    ∷ instance [] "Real" (c "Int" nil) (body "add" (ev "primAddInt") ∷ [])
    ∷ instance (at "Eq" (v "a") ∷ []) "Eq" (c "List" ((v "a") ◂ nil)) (body "eq" (lam "x" (lam "y" (ebool true))) ∷ [])
    ∷ instance (at "Ord" (v "a") ∷ []) "Ord" (c "List" ((v "a") ◂ nil)) (body "lt" (lam "x" (lam "y" (eapp (eapp (ev "eq") (ev "x")) (ev "y")))) ∷ [])
    ∷ instance (at "Eq" (v "a") ∷ at "Eq" (v "b") ∷ []) "Eq" (c "Pair" ((v "a") ◂ (v "b") ◂ nil)) (body "eq" (lam "x" (lam "y" (ebool false))) ∷ [])
    ∷ instance (at "Real" (v "b") ∷ []) "Eq" (arrow (v "b") (v "b")) (body "eq" (bind "h" (lam "x" (ev "x")) (eapp (ev "h") (eapp (ev "h") (lam "y" (lam "p" (eapp (eapp (ev "primEqBool") (eapp (ev "p") (ebool true))) (eapp (eapp (ev "primEqBool") (ebool false)) (ebool false)))))))) ∷ [])
    ∷ instance (at "Real" (v "b") ∷ []) "Ord" (arrow (v "b") (v "b")) (body "lt" (lam "u" (lam "v" (eapp (ev "v") (bind "q" (lam "x" (ev "x")) (eapp (ev "u") (ebool true)))))) ∷ [])
    ∷ instance (at "Real" (v "b") ∷ []) "Real" (arrow (v "b") (v "b")) (body "add" (lam "odd" (lam "y" (ev "y"))) ∷ [])
    ∷ check (eapp (eapp (ev "add") (eapp (ev "odd") (ev "primAddInt"))) (ev "nil"))
    ∷ check (ev "nil")
    ∷ check (ev "eq")
    ∷ define "g" (ev "nil")
    ∷ check (lam "primEqBool" (ev "pair"))
    ∷ define "k" (eapp (ev "lt") (bind "u" (ev "primEqBool") (ev "u")))
    ∷ []

b_5004038_computed : metered 20000 2000000 20000 b_5004038 ≡ said "declarations 25\n0 0 - | 11 44 0 0\n1 0 - | 11 55 0 0\n2 0 - | 11 66 0 0\n3 0 - | 42 108 0 0\n4 0 - | 13 113 0 0\n5 0 - | 15 118 0 0\n6 0 - | 18 124 0 0\n7 0 - | 21 131 0 0\n8 0 - | 37 133 0 0\n9 0 - | 42 137 0 0\n10 0 - | 39 139 0 0\n11 0 - | 45 143 0 0\n12 0 - | 47 149 0 0\n13 0 - | 53 155 2 0\n14 0 - | 158 177 7 1\n15 0 - | 62 185 9 1\n16 0 - | 340 209 21 1\n17 0 - | 150 229 26 1\n18 0 - | 115 248 28 1\n19 15 List 0 1 | 71 248 28 1\n20 0 [Bag a] (List a) = (dabs [d1 Bag a] (proj d1 nil)) | 16 248 29 2\n21 0 [Eq a] (-> a (-> a Bool)) = (dabs [d2 Eq a] (proj d2 eq)) | 25 248 30 3\n22 0 [Bag a] (List a) | 16 251 31 4\n23 0 [Bag b] (-> a (-> b (-> c (Pair b c)))) = (dabs [d4 Bag b] (lam primEqBool (proj d4 pair))) | 39 251 34 5\n24 16 Ord (-> Bool (-> Bool Bool)) | 66 251 34 5\n"
unfolding everything metered said
b_5004038_computed = refl

abbrev b_5004060 : List Decl
b_5004060 =
    class "Num" "a" [] (sig "neg" (arrow (v "a") (c "Bool" nil)) ∷ sig "eq" (arrow (v "a") (v "a")) ∷ sig "cons" (arrow (c "Pair" ((c "Pair" nil) ◂ (arrow (c "Unit" nil) (v "a")) ◂ nil)) (c "Pair" ((c "List" ((c "Int" nil) ◂ nil)) ◂ (c "List" ((v "a") ◂ nil)) ◂ nil))) ∷ []) (body "eq" (lam "x" (ev "eq")) ∷ [])
    ∷ instance [] "Num" (c "Bool" nil) (body "neg" (ev "primNotBool") ∷ body "cons" (eapp (ev "eq") (lam "z" (eapp (ev "z") (ev "z")))) ∷ [])
    ∷ instance [] "Num" (c "List" ((c "List" ((v "c") ◂ nil)) ◂ nil)) (body "neg" (ev "neg") ∷ body "eq" (lam "u" (ev "u")) ∷ body "cons" (lam "y" (eapp (ev "eq") (eapp (ev "eq") (ev "primLtInt")))) ∷ [])
    ∷ class "Eq" "t" [] (sig "snd" (arrow (v "t") (c "List" ((v "t") ◂ nil))) ∷ sig "snd" (arrow (c "Pair" ((v "t") ◂ nil)) (v "t")) ∷ []) []
    ∷ instance [] "Bag" (c "Int" nil) []
    ∷ check (lam "x" (lam "y" (lam "z" (bind "f" (eapp (ev "cons") (ev "y")) (eapp (eapp (lam "u" (lam "v" (ev "v"))) (eapp (ev "snd") (ev "z"))) (eapp (lam "u" (eapp (eapp (lam "u" (lam "v" (ev "v"))) (eapp (ev "snd") (ev "z"))) (eapp (eapp (lam "u" (lam "v" (ev "v"))) (eapp (ev "snd") (ev "z"))) (eapp (ev "eq") (ev "x"))))) (eapp (ev "snd") (ev "y"))))))))
    ∷ check (bind "h" (ev "primLtInt") (ev "h"))
    ∷ check (bind "k" (lam "y" (eapp (eapp (ev "primEqBool") (ev "y")) (bind "id" (ev "primLtInt") (bind "q" (ev "id") (ebool true))))) (eapp (ev "snd") (bind "twice" (bind "y" (lam "y" (eapp (ev "k") (ebool true))) (lam "x" (eapp (ev "y") (eapp (ev "y") (bind "same" (ev "x") (ebool true)))))) (eapp (ev "twice") (ev "cons")))))
    ∷ define "k" (lam "x" (lam "y" (eapp (ev "snd") (ev "y"))))
    ∷ define "same" (eapp (ev "eq") (eapp (eapp (ev "k") (eapp (ev "neg") (ev "k"))) (eapp (ev "eq") (eapp (ev "snd") (eapp (ev "eq") (ev "primLtInt"))))))
    ∷ class "Fun" "z" ("Eq" ∷ []) (sig "mk" (arrow (v "z") (arrow (v "z") (c "Bool" nil))) ∷ sig "fst" (arrow (v "z") (arrow (v "z") (c "Bool" nil))) ∷ []) []
    ∷ define "same" (lam "q" (lam "p" (eapp (ev "primNotBool") (ebool false))))
    ∷ instance (at "Num" (v "a") ∷ at "Fun" (v "a") ∷ at "Fun" (v "a") ∷ []) "Eq" (arrow (v "a") (v "b")) (body "snd" (lam "z" (eapp (ev "snd") (eapp (ev "eq") (eapp (ev "eq") (bind "comp" (eapp (ev "z") (eapp (ev "z") (eapp (ev "same") (eint 3)))) (eapp (ev "eq") (eapp (eapp (ev "k") (ev "comp")) (lam "x" (ev "z"))))))))) ∷ body "snd" (eapp (ev "eq") (lam "v" (lam "u" (ev "snd")))) ∷ [])
    ∷ []

b_5004060_computed : metered 20000 2000000 20000 b_5004060 ≡ said "declarations 13\n0 0 - | 37 70 0 0\n1 13 t2 (-> t2 t3) | 46 70 0 0\n2 16 Num (List (List c)) | 29 70 0 0\n3 0 - | 18 83 0 0\n4 19 Bag | 1 83 0 0\n5 15 Pair 1 2 | 492 83 0 0\n6 0 [] (-> Int (-> Int Bool)) = (let h primLtInt h) | 36 83 0 0\n7 14 Pair Bool | 260 83 0 0\n8 0 [Eq b] (-> a (-> (Pair b) b)) | 56 90 4 1\n9 12 (Pair t17) (-> Int (-> Int Bool)) | 124 90 4 1\n10 0 - | 22 112 4 1\n11 0 [] (-> a (-> b Bool)) | 41 117 7 1\n12 12 (Pair t24) (-> t25 (-> (-> t18 Bool) (-> t18 Bool))) | 194 117 7 1\n"
unfolding everything metered said
b_5004060_computed = refl

abbrev b_5004350 : List Decl
b_5004350 =
    class "Eq" "a" [] (sig "eq" (arrow (v "a") (arrow (v "a") (c "Bool" nil))) ∷ []) (body "eq" (eint 1) ∷ [])
    ∷ class "Mk" "a" [] (sig "mk" (arrow (v "a") (arrow (v "b") (c "Pair" ((v "a") ◂ (v "b") ◂ nil)))) ∷ []) (body "mk" (eint 1) ∷ [])
    ∷ instance [] "Mk" (c "Int" nil) []
    ∷ instance [] "Mk" (c "Bool" nil) []
    ∷ instance [] "Mk" (c "Pair" ((v "a") ◂ (v "b") ◂ nil)) []
    ∷ instance [] "Eq" (c "Bool" nil) []
    ∷ instance (at "Eq" (v "a") ∷ at "Eq" (v "a") ∷ at "Mk" (v "a") ∷ at "Eq" (v "a") ∷ []) "Eq" (c "Pair" ((v "a") ◂ (c "Pair" ((v "a") ◂ (c "Int" nil) ◂ nil)) ◂ nil)) []
    ∷ instance (at "Eq" (v "z") ∷ at "Eq" (v "a") ∷ at "Mk" (v "a") ∷ []) "Eq" (arrow (v "a") (c "Int" nil)) []
    ∷ instance [] "Eq" (c "Pair" ((v "a") ◂ (v "a") ◂ nil)) []
    ∷ instance [] "Eq" (c "Pair" ((v "a") ◂ (c "Int" nil) ◂ nil)) []
    ∷ instance (at "Eq" (v "a") ∷ at "Mk" (v "a") ∷ at "Eq" (v "a") ∷ []) "Eq" (c "Pair" ((c "Bool" nil) ◂ (v "a") ◂ nil)) []
    ∷ instance [] "Eq" (c "Pair" ((c "Pair" ((v "a") ◂ (c "Int" nil) ◂ nil)) ◂ (v "a") ◂ nil)) []
    ∷ instance (at "Eq" (v "z") ∷ []) "Eq" (c "Pair" ((v "a") ◂ (c "Bool" nil) ◂ nil)) []
    ∷ check (eapp (ev "eq") (eapp (eapp (ev "mk") (eint 5662902173545453975)) (eint 9)))
    ∷ check (eapp (ev "eq") (eapp (ev "primAddInt") (eint 1)))
    ∷ check (eapp (ev "eq") (ev "primNotBool"))
    ∷ check (eapp (ev "eq") (eapp (eapp (ev "mk") (ebool true)) (eint 7)))
    ∷ check (eapp (ev "eq") (eapp (eapp (ev "mk") (eapp (eapp (ev "mk") (eint 9)) (eint 2))) (ebool true)))
    ∷ instance [] "Eq" (v "b") (body "eq" (lam "x" (lam "y" (eapp (eapp (lam "u" (lam "v" (ev "v"))) (eapp (eapp (ev "mk") (ev "y")) (ev "y"))) (eapp (eapp (lam "u" (lam "v" (ev "v"))) (eapp (eapp (ev "eq") (ev "x")) (ev "y"))) (eapp (eapp (lam "u" (lam "v" (ev "v"))) (eapp (eapp (ev "eq") (ev "x")) (ev "y"))) (eapp (eapp (lam "u" (lam "v" (ev "v"))) (eapp (eapp (ev "eq") (ev "x")) (ev "y"))) (ev "y"))))))) ∷ [])
    ∷ check (lam "x" (lam "x" (bind "k" (eapp (eapp (lam "p" (lam "q" (ev "p"))) (eapp (ev "mk") (ev "x"))) (eapp (ev "eq") (ev "x"))) (eapp (eapp (lam "p" (lam "q" (ev "q"))) (ev "k")) (eapp (eapp (ev "mk") (ev "x")) (ev "x"))))))
    ∷ []

b_5004350_computed : metered 20000 2000000 20000 b_5004350 ≡ said "declarations 20\n0 0 - | 11 44 0 0\n1 0 - | 15 59 0 0\n2 0 - | 4 61 0 0\n3 0 - | 6 63 0 0\n4 0 - | 10 67 0 0\n5 0 - | 4 69 0 0\n6 0 - | 14 79 0 0\n7 0 - | 13 86 0 0\n8 0 - | 16 90 0 0\n9 0 - | 22 94 0 0\n10 0 - | 28 101 0 0\n11 0 - | 31 107 0 0\n12 0 - | 39 112 0 0\n13 0 [] (-> (Pair Int Int) Bool) = (app (proj (rec Eq (Pair Int Int)) eq) (app (app (proj (rec Mk Int) mk) 5662902173545453975) 9)) | 146 112 6 2\n14 16 Eq z | 75 112 6 2\n15 16 Eq (-> Bool Bool) | 48 112 6 2\n16 0 [] (-> (Pair Bool Int) Bool) = (app (proj (rec Eq (Pair Bool Int)) eq) (app (app (proj (rec Mk Bool) mk) true) 7)) | 150 112 12 4\n17 16 Eq z | 270 112 12 4\n18 18 Eq b | 760 112 12 4\n19 0 [Mk b, Eq b] (-> a (-> b (Pair b b))) = (dabs [d6 Mk b, d7 Eq b] (lam x (lam x (let k (dabs [d4 Mk b, d5 Eq b] (app (app (lam p (lam q p)) (app (proj d4 mk) x)) (app (proj d5 eq) x))) (app (app (lam p (lam q q)) (dapp k d6 d7)) (app (app (proj d6 mk) x) x)))))) | 493 112 32 9\n"
unfolding everything metered said
b_5004350_computed = refl

abbrev b_5005058 : List Decl
b_5005058 =
    class "Leaf" "a" [] (sig "leaf" (v "a") ∷ []) (body "leaf" (eint 1) ∷ [])
    ∷ instance [] "Leaf" (c "Int" nil) []
    ∷ instance [] "Leaf" (c "Bool" nil) []
    ∷ instance [] "Leaf" (c "List" ((c "Int" nil) ◂ nil)) (body "leaf" (bind "x" (eint 254) (bind "x" (eint 253) (bind "x" (eint 252) (bind "x" (eint 251) (bind "x" (eint 250) (bind "x" (eint 249) (bind "x" (eint 248) (bind "x" (eint 247) (bind "x" (eint 246) (bind "x" (eint 245) (bind "x" (eint 244) (bind "x" (eint 243) (bind "x" (eint 242) (bind "x" (eint 241) (bind "x" (eint 240) (bind "x" (eint 239) (bind "x" (eint 238) (bind "x" (eint 237) (bind "x" (eint 236) (bind "x" (eint 235) (bind "x" (eint 234) (bind "x" (eint 233) (bind "x" (eint 232) (bind "x" (eint 231) (bind "x" (eint 230) (bind "x" (eint 229) (bind "x" (eint 228) (bind "x" (eint 227) (bind "x" (eint 226) (bind "x" (eint 225) (bind "x" (eint 224) (bind "x" (eint 223) (bind "x" (eint 222) (bind "x" (eint 221) (bind "x" (eint 220) (bind "x" (eint 219) (bind "x" (eint 218) (bind "x" (eint 217) (bind "x" (eint 216) (bind "x" (eint 215) (bind "x" (eint 214) (bind "x" (eint 213) (bind "x" (eint 212) (bind "x" (eint 211) (bind "x" (eint 210) (bind "x" (eint 209) (bind "x" (eint 208) (bind "x" (eint 207) (bind "x" (eint 206) (bind "x" (eint 205) (bind "x" (eint 204) (bind "x" (eint 203) (bind "x" (eint 202) (bind "x" (eint 201) (bind "x" (eint 200) (bind "x" (eint 199) (bind "x" (eint 198) (bind "x" (eint 197) (bind "x" (eint 196) (bind "x" (eint 195) (bind "x" (eint 194) (bind "x" (eint 193) (bind "x" (eint 192) (bind "x" (eint 191) (bind "x" (eint 190) (bind "x" (eint 189) (bind "x" (eint 188) (bind "x" (eint 187) (bind "x" (eint 186) (bind "x" (eint 185) (bind "x" (eint 184) (bind "x" (eint 183) (bind "x" (eint 182) (bind "x" (eint 181) (bind "x" (eint 180) (bind "x" (eint 179) (bind "x" (eint 178) (bind "x" (eint 177) (bind "x" (eint 176) (bind "x" (eint 175) (bind "x" (eint 174) (bind "x" (eint 173) (bind "x" (eint 172) (bind "x" (eint 171) (bind "x" (eint 170) (bind "x" (eint 169) (bind "x" (eint 168) (bind "x" (eint 167) (bind "x" (eint 166) (bind "x" (eint 165) (bind "x" (eint 164) (bind "x" (eint 163) (bind "x" (eint 162) (bind "x" (eint 161) (bind "x" (eint 160) (bind "x" (eint 159) (bind "x" (eint 158) (bind "x" (eint 157) (bind "x" (eint 156) (bind "x" (eint 155) (bind "x" (eint 154) (bind "x" (eint 153) (bind "x" (eint 152) (bind "x" (eint 151) (bind "x" (eint 150) (bind "x" (eint 149) (bind "x" (eint 148) (bind "x" (eint 147) (bind "x" (eint 146) (bind "x" (eint 145) (bind "x" (eint 144) (bind "x" (eint 143) (bind "x" (eint 142) (bind "x" (eint 141) (bind "x" (eint 140) (bind "x" (eint 139) (bind "x" (eint 138) (bind "x" (eint 137) (bind "x" (eint 136) (bind "x" (eint 135) (bind "x" (eint 134) (bind "x" (eint 133) (bind "x" (eint 132) (bind "x" (eint 131) (bind "x" (eint 130) (bind "x" (eint 129) (bind "x" (eint 128) (bind "x" (eint 127) (bind "x" (eint 126) (bind "x" (eint 125) (bind "x" (eint 124) (bind "x" (eint 123) (bind "x" (eint 122) (bind "x" (eint 121) (bind "x" (eint 120) (bind "x" (eint 119) (bind "x" (eint 118) (bind "x" (eint 117) (bind "x" (eint 116) (bind "x" (eint 115) (bind "x" (eint 114) (bind "x" (eint 113) (bind "x" (eint 112) (bind "x" (eint 111) (bind "x" (eint 110) (bind "x" (eint 109) (bind "x" (eint 108) (bind "x" (eint 107) (bind "x" (eint 106) (bind "x" (eint 105) (bind "x" (eint 104) (bind "x" (eint 103) (bind "x" (eint 102) (bind "x" (eint 101) (bind "x" (eint 100) (bind "x" (eint 99) (bind "x" (eint 98) (bind "x" (eint 97) (bind "x" (eint 96) (bind "x" (eint 95) (bind "x" (eint 94) (bind "x" (eint 93) (bind "x" (eint 92) (bind "x" (eint 91) (bind "x" (eint 90) (bind "x" (eint 89) (bind "x" (eint 88) (bind "x" (eint 87) (bind "x" (eint 86) (bind "x" (eint 85) (bind "x" (eint 84) (bind "x" (eint 83) (bind "x" (eint 82) (bind "x" (eint 81) (bind "x" (eint 80) (bind "x" (eint 79) (bind "x" (eint 78) (bind "x" (eint 77) (bind "x" (eint 76) (bind "x" (eint 75) (bind "x" (eint 74) (bind "x" (eint 73) (bind "x" (eint 72) (bind "x" (eint 71) (bind "x" (eint 70) (bind "x" (eint 69) (bind "x" (eint 68) (bind "x" (eint 67) (bind "x" (eint 66) (bind "x" (eint 65) (bind "x" (eint 64) (bind "x" (eint 63) (bind "x" (eint 62) (bind "x" (eint 61) (bind "x" (eint 60) (bind "x" (eint 59) (bind "x" (eint 58) (bind "x" (eint 57) (bind "x" (eint 56) (bind "x" (eint 55) (bind "x" (eint 54) (bind "x" (eint 53) (bind "x" (eint 52) (bind "x" (eint 51) (bind "x" (eint 50) (bind "x" (eint 49) (bind "x" (eint 48) (bind "x" (eint 47) (bind "x" (eint 46) (bind "x" (eint 45) (bind "x" (eint 44) (bind "x" (eint 43) (bind "x" (eint 42) (bind "x" (eint 41) (bind "x" (eint 40) (bind "x" (eint 39) (bind "x" (eint 38) (bind "x" (eint 37) (bind "x" (eint 36) (bind "x" (eint 35) (bind "x" (eint 34) (bind "x" (eint 33) (bind "x" (eint 32) (bind "x" (eint 31) (bind "x" (eint 30) (bind "x" (eint 29) (bind "x" (eint 28) (bind "x" (eint 27) (bind "x" (eint 26) (bind "x" (eint 25) (bind "x" (eint 24) (bind "x" (eint 23) (bind "x" (eint 22) (bind "x" (eint 21) (bind "x" (eint 20) (bind "x" (eint 19) (bind "x" (eint 18) (bind "x" (eint 17) (bind "x" (eint 16) (bind "x" (eint 15) (bind "x" (eint 14) (bind "x" (eint 13) (bind "x" (eint 12) (bind "x" (eint 11) (bind "x" (eint 10) (bind "x" (eint 9) (bind "x" (eint 8) (bind "x" (eint 7) (bind "x" (eint 6) (bind "x" (eint 5) (bind "x" (eint 4) (bind "x" (eint 3) (bind "x" (eint 2) (bind "x" (eint 1) (bind "x" (eint 0) (ev "leaf")))))))))))))))))))))))))))))))))))))))))))))))))))))))))))))))))))))))))))))))))))))))))))))))))))))))))))))))))))))))))))))))))))))))))))))))))))))))))))))))))))))))))))))))))))))))))))))))))))))))))))))))))))))))))))))))))))))))))))))))))))))))))))))))) ∷ [])
    ∷ check (bind "x" (eint 254) (bind "x" (eint 253) (bind "x" (eint 252) (bind "x" (eint 251) (bind "x" (eint 250) (bind "x" (eint 249) (bind "x" (eint 248) (bind "x" (eint 247) (bind "x" (eint 246) (bind "x" (eint 245) (bind "x" (eint 244) (bind "x" (eint 243) (bind "x" (eint 242) (bind "x" (eint 241) (bind "x" (eint 240) (bind "x" (eint 239) (bind "x" (eint 238) (bind "x" (eint 237) (bind "x" (eint 236) (bind "x" (eint 235) (bind "x" (eint 234) (bind "x" (eint 233) (bind "x" (eint 232) (bind "x" (eint 231) (bind "x" (eint 230) (bind "x" (eint 229) (bind "x" (eint 228) (bind "x" (eint 227) (bind "x" (eint 226) (bind "x" (eint 225) (bind "x" (eint 224) (bind "x" (eint 223) (bind "x" (eint 222) (bind "x" (eint 221) (bind "x" (eint 220) (bind "x" (eint 219) (bind "x" (eint 218) (bind "x" (eint 217) (bind "x" (eint 216) (bind "x" (eint 215) (bind "x" (eint 214) (bind "x" (eint 213) (bind "x" (eint 212) (bind "x" (eint 211) (bind "x" (eint 210) (bind "x" (eint 209) (bind "x" (eint 208) (bind "x" (eint 207) (bind "x" (eint 206) (bind "x" (eint 205) (bind "x" (eint 204) (bind "x" (eint 203) (bind "x" (eint 202) (bind "x" (eint 201) (bind "x" (eint 200) (bind "x" (eint 199) (bind "x" (eint 198) (bind "x" (eint 197) (bind "x" (eint 196) (bind "x" (eint 195) (bind "x" (eint 194) (bind "x" (eint 193) (bind "x" (eint 192) (bind "x" (eint 191) (bind "x" (eint 190) (bind "x" (eint 189) (bind "x" (eint 188) (bind "x" (eint 187) (bind "x" (eint 186) (bind "x" (eint 185) (bind "x" (eint 184) (bind "x" (eint 183) (bind "x" (eint 182) (bind "x" (eint 181) (bind "x" (eint 180) (bind "x" (eint 179) (bind "x" (eint 178) (bind "x" (eint 177) (bind "x" (eint 176) (bind "x" (eint 175) (bind "x" (eint 174) (bind "x" (eint 173) (bind "x" (eint 172) (bind "x" (eint 171) (bind "x" (eint 170) (bind "x" (eint 169) (bind "x" (eint 168) (bind "x" (eint 167) (bind "x" (eint 166) (bind "x" (eint 165) (bind "x" (eint 164) (bind "x" (eint 163) (bind "x" (eint 162) (bind "x" (eint 161) (bind "x" (eint 160) (bind "x" (eint 159) (bind "x" (eint 158) (bind "x" (eint 157) (bind "x" (eint 156) (bind "x" (eint 155) (bind "x" (eint 154) (bind "x" (eint 153) (bind "x" (eint 152) (bind "x" (eint 151) (bind "x" (eint 150) (bind "x" (eint 149) (bind "x" (eint 148) (bind "x" (eint 147) (bind "x" (eint 146) (bind "x" (eint 145) (bind "x" (eint 144) (bind "x" (eint 143) (bind "x" (eint 142) (bind "x" (eint 141) (bind "x" (eint 140) (bind "x" (eint 139) (bind "x" (eint 138) (bind "x" (eint 137) (bind "x" (eint 136) (bind "x" (eint 135) (bind "x" (eint 134) (bind "x" (eint 133) (bind "x" (eint 132) (bind "x" (eint 131) (bind "x" (eint 130) (bind "x" (eint 129) (bind "x" (eint 128) (bind "x" (eint 127) (bind "x" (eint 126) (bind "x" (eint 125) (bind "x" (eint 124) (bind "x" (eint 123) (bind "x" (eint 122) (bind "x" (eint 121) (bind "x" (eint 120) (bind "x" (eint 119) (bind "x" (eint 118) (bind "x" (eint 117) (bind "x" (eint 116) (bind "x" (eint 115) (bind "x" (eint 114) (bind "x" (eint 113) (bind "x" (eint 112) (bind "x" (eint 111) (bind "x" (eint 110) (bind "x" (eint 109) (bind "x" (eint 108) (bind "x" (eint 107) (bind "x" (eint 106) (bind "x" (eint 105) (bind "x" (eint 104) (bind "x" (eint 103) (bind "x" (eint 102) (bind "x" (eint 101) (bind "x" (eint 100) (bind "x" (eint 99) (bind "x" (eint 98) (bind "x" (eint 97) (bind "x" (eint 96) (bind "x" (eint 95) (bind "x" (eint 94) (bind "x" (eint 93) (bind "x" (eint 92) (bind "x" (eint 91) (bind "x" (eint 90) (bind "x" (eint 89) (bind "x" (eint 88) (bind "x" (eint 87) (bind "x" (eint 86) (bind "x" (eint 85) (bind "x" (eint 84) (bind "x" (eint 83) (bind "x" (eint 82) (bind "x" (eint 81) (bind "x" (eint 80) (bind "x" (eint 79) (bind "x" (eint 78) (bind "x" (eint 77) (bind "x" (eint 76) (bind "x" (eint 75) (bind "x" (eint 74) (bind "x" (eint 73) (bind "x" (eint 72) (bind "x" (eint 71) (bind "x" (eint 70) (bind "x" (eint 69) (bind "x" (eint 68) (bind "x" (eint 67) (bind "x" (eint 66) (bind "x" (eint 65) (bind "x" (eint 64) (bind "x" (eint 63) (bind "x" (eint 62) (bind "x" (eint 61) (bind "x" (eint 60) (bind "x" (eint 59) (bind "x" (eint 58) (bind "x" (eint 57) (bind "x" (eint 56) (bind "x" (eint 55) (bind "x" (eint 54) (bind "x" (eint 53) (bind "x" (eint 52) (bind "x" (eint 51) (bind "x" (eint 50) (bind "x" (eint 49) (bind "x" (eint 48) (bind "x" (eint 47) (bind "x" (eint 46) (bind "x" (eint 45) (bind "x" (eint 44) (bind "x" (eint 43) (bind "x" (eint 42) (bind "x" (eint 41) (bind "x" (eint 40) (bind "x" (eint 39) (bind "x" (eint 38) (bind "x" (eint 37) (bind "x" (eint 36) (bind "x" (eint 35) (bind "x" (eint 34) (bind "x" (eint 33) (bind "x" (eint 32) (bind "x" (eint 31) (bind "x" (eint 30) (bind "x" (eint 29) (bind "x" (eint 28) (bind "x" (eint 27) (bind "x" (eint 26) (bind "x" (eint 25) (bind "x" (eint 24) (bind "x" (eint 23) (bind "x" (eint 22) (bind "x" (eint 21) (bind "x" (eint 20) (bind "x" (eint 19) (bind "x" (eint 18) (bind "x" (eint 17) (bind "x" (eint 16) (bind "x" (eint 15) (bind "x" (eint 14) (bind "x" (eint 13) (bind "x" (eint 12) (bind "x" (eint 11) (bind "x" (eint 10) (bind "x" (eint 9) (bind "x" (eint 8) (bind "x" (eint 7) (bind "x" (eint 6) (bind "x" (eint 5) (bind "x" (eint 4) (bind "x" (eint 3) (bind "x" (eint 2) (bind "x" (eint 1) (bind "x" (eint 0) (ev "leaf"))))))))))))))))))))))))))))))))))))))))))))))))))))))))))))))))))))))))))))))))))))))))))))))))))))))))))))))))))))))))))))))))))))))))))))))))))))))))))))))))))))))))))))))))))))))))))))))))))))))))))))))))))))))))))))))))))))))))))))))))))))))))))))))))
    ∷ []

b_5005058_computed : metered 20000 2000000 20000 b_5005058 ≡ said "declarations 5\n0 0 - | 3 36 0 0\n1 0 - | 4 38 0 0\n2 0 - | 6 40 0 0\n3 16 Leaf (List Int) | 1289 40 0 0\n4 7 - | 1791 40 0 0\n"
unfolding everything metered said
b_5005058_computed = refl

abbrev b_5005756 : List Decl
b_5005756 =
    class "Eq" "a" [] (sig "eq" (arrow (v "a") (arrow (v "a") (c "Bool" nil))) ∷ []) (body "eq" (eint 1) ∷ [])
    ∷ instance (at "Eq" (c "List" ((c "List" ((v "a") ◂ nil)) ◂ nil)) ∷ []) "Eq" (c "List" ((v "a") ◂ nil)) []
    ∷ check (eapp (ev "eq") (eint 1))
    ∷ class "Bag" "a" [] (sig "one" (arrow (v "a") (c "List" ((v "a") ◂ nil))) ∷ []) (body "one" (eint 1) ∷ [])
    ∷ instance [] "Bag" (c "Int" nil) []
    ∷ check (eapp (ev "eq") (eapp (ev "one") (eint 1)))
    ∷ instance [] "Bag" (c "List" ((c "List" ((v "t") ◂ nil)) ◂ nil)) (body "one" (bind "w" (eint 13325642530596032330) (lam "v" (lam "y" (ev "eq")))) ∷ [])
    ∷ check (bind "k" (ev "primEqInt") (eapp (eapp (ev "primMulInt") (eint 18446744073709551615)) (eint 1)))
    ∷ check (eapp (eapp (ev "eq") (ev "one")) (lam "one" (eapp (ev "one") (ev "primAndBool"))))
    ∷ []

b_5005756_computed : metered 20000 2000000 20000 b_5005756 ≡ said "declarations 9\n0 0 - | 11 44 0 0\n1 0 - | 8 50 0 0\n2 16 Eq Int | 30 50 0 0\n3 0 - | 9 59 0 0\n4 0 - | 4 61 0 0\n5 7 - | 1592 61 0 0\n6 12 (-> t1 (-> t2 (-> t2 Bool))) (List (List (List t))) | 54 61 0 0\n7 0 [] Int = (let k primEqInt (app (app primMulInt 18446744073709551615) 1)) | 68 61 2 0\n8 20 one | 38 61 2 0\n"
unfolding everything metered said
b_5005756_computed = refl

abbrev b_5006198 : List Decl
b_5006198 =
    class "Fun" "a" [] [] []
    ∷ class "Eq" "tx" ("Fun" ∷ []) (sig "tag" (arrow (c "Pair" ((v "tx") ◂ nil)) (v "tx")) ∷ sig "nil" (arrow (v "b") (arrow (v "tx") (v "b"))) ∷ []) []
    ∷ instance [] "Fun" (c "Bool" nil) []
    ∷ instance [] "Eq" (c "Bool" nil) (body "tag" (lam "p" (eapp (eapp (ev "primEqInt") (eint 7)) (eint 6))) ∷ body "nil" (lam "x" (lam "y" (eapp (eapp (lam "u" (lam "v" (ev "v"))) (eapp (eapp (ev "nil") (ev "y")) (ev "x"))) (ev "x")))) ∷ [])
    ∷ instance [] "Fun" (c "List" ((v "c") ◂ nil)) []
    ∷ instance [] "Eq" (c "List" ((v "c") ◂ nil)) (body "nil" (lam "u" (ev "nil")) ∷ body "tag" (lam "z" (eint 8)) ∷ [])
    ∷ class "Mon" "a" ("Fun" ∷ []) (sig "join" (arrow (v "a") (arrow (c "List" ((v "a") ◂ nil)) (c "List" ((v "a") ◂ nil)))) ∷ sig "zero" (arrow (c "Pair" ((v "a") ◂ (v "c") ◂ nil)) (v "a")) ∷ []) []
    ∷ define "g" (eapp (ev "zero") (eapp (ev "zero") (bind "h" (eapp (ev "tag") (eapp (eapp (ev "nil") (ev "primAndBool")) (ev "primEqInt"))) (eapp (ev "zero") (bind "q" (lam "x" (eapp (ev "primAndBool") (ev "x"))) (eapp (ev "zero") (eapp (eapp (ev "nil") (eapp (eapp (ev "nil") (ev "primNotBool")) (ev "q"))) (eapp (eapp (ev "q") (ebool false)) (ebool true)))))))))
    ∷ check (ev "tag")
    ∷ define "comp" (eapp (lam "x" (lam "y" (bind "k" (eapp (eapp (ev "nil") (ev "x")) (ev "y")) (eapp (eapp (ev "join") (ev "x")) (ev "x"))))) (eint 9))
    ∷ define "twice" (lam "x" (lam "y" (bind "twice" (eapp (ev "zero") (ev "y")) (eapp (lam "u" (bind "k" (eapp (ev "tag") (ev "y")) (eapp (eapp (lam "u" (lam "v" (ev "v"))) (eapp (eapp (ev "nil") (ev "y")) (ev "y"))) (bind "h" (eapp (ev "tag") (ev "x")) (eapp (ev "join") (ev "y")))))) (eapp (eapp (ev "join") (ev "x")) (ev "y"))))))
    ∷ check (ev "primLtInt")
    ∷ []

b_5006198_computed : metered 20000 2000000 20000 b_5006198 ≡ said "declarations 12\n0 0 - | 0 33 0 0\n1 0 - | 20 53 0 0\n2 0 - | 1 54 0 0\n3 16 Eq b | 235 54 0 0\n4 0 - | 4 56 0 0\n5 16 Eq t2 | 51 56 0 0\n6 0 - | 26 82 0 0\n7 12 (Pair t7) (-> Bool (-> Bool Bool)) | 117 82 0 0\n8 0 [Eq a] (-> (Pair a) a) = (dabs [d0 Eq a] (proj d0 tag)) | 22 82 1 1\n9 13 t4 (List t4) | 118 82 1 1\n10 15 Pair 1 2 | 72 82 1 1\n11 0 [] (-> Int (-> Int Bool)) = primLtInt | 18 82 1 1\n"
unfolding everything metered said
b_5006198_computed = refl
