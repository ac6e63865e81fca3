-- Recorded sessions, computed: text, steps, kept nodes and both counters. (tools/session_test.py)
use mathlib.Core.Path.{◌≡◌, refl}
use mathlib.Core.Bool.{true, false}
use mathlib.Core.List.{List, [], ◌∷◌}
use Rattle.meaning.specs.Ast.{Ty, arrow, Expr, eint, ebool, eapp, Decl, nil, ◌◂◌}
use Rattle.meaning.proofs.Metered.{everything, metered, said}
use Rattle.meaning.proofs.Written.{v, c, ev, lam, bind, class, instance, define, check, at, sig, body}

abbrev c_twice : List Decl
c_twice =
    class "C" "a" [] (sig "m" (c "Int" nil) ∷ sig "m" (arrow (v "a") (c "Bool" nil)) ∷ []) []
    ∷ check (ev "m")
    ∷ instance [] "C" (c "Int" nil) (body "m" (eint 1) ∷ [])
    ∷ instance [] "C" (c "Bool" nil) (body "m" (lam "x" (ebool true)) ∷ [])
    ∷ instance [] "C" (c "Bool" nil) (body "m" (eint 1) ∷ body "m" (eint 2) ∷ [])
    ∷ class "D" "a" [] (sig "n" (v "a") ∷ sig "n" (v "a") ∷ []) (body "n" (eint 1) ∷ [])
    ∷ instance [] "D" (c "Int" nil) []
    ∷ []

c_twice_computed : metered 512 65536 512 c_twice ≡ said "declarations 7\n0 0 - | 10 41 0 0\n1 0 [C a] (-> a Bool) = (dabs [d0 C a] (proj d0 m)) | 19 41 1 1\n2 0 - | 8 43 1 1\n3 12 (-> t1 Bool) Int | 10 43 1 1\n4 0 - | 17 46 1 1\n5 0 - | 6 50 1 1\n6 0 - | 7 53 1 1\n"
unfolding everything metered said
c_twice_computed = refl

abbrev c_twin : List Decl
c_twin =
    class "Eq" "a" [] (sig "eq" (arrow (v "a") (arrow (v "a") (c "Bool" nil))) ∷ []) (body "eq" (eint 1) ∷ [])
    ∷ class "Mk" "a" [] (sig "mk" (arrow (v "a") (c "List" ((v "a") ◂ nil))) ∷ []) (body "mk" (eint 1) ∷ [])
    ∷ instance [] "Eq" (c "Int" nil) []
    ∷ instance [] "Mk" (v "a") []
    ∷ instance (at "Eq" (v "a") ∷ at "Eq" (v "a") ∷ []) "Eq" (c "List" ((v "a") ◂ nil)) []
    ∷ check (eapp (ev "eq") (eapp (ev "mk") (eapp (ev "mk") (eint 1))))
    ∷ []

c_twin_computed : metered 512 65536 512 c_twin ≡ said "declarations 6\n0 0 - | 11 44 0 0\n1 0 - | 9 53 0 0\n2 0 - | 4 55 0 0\n3 0 - | 4 57 0 0\n4 0 - | 9 62 0 0\n5 0 [] (-> (List (List Int)) Bool) = (app (proj (dapp (rec Eq (List (List Int))) (dapp (rec Eq (List Int)) (rec Eq Int) (rec Eq Int)) (dapp (rec Eq (List Int)) (rec Eq Int) (rec Eq Int))) eq) (app (proj (rec Mk (List Int)) mk) (app (proj (rec Mk Int) mk) 1))) | 183 62 6 3\n"
unfolding everything metered said
c_twin_computed = refl

abbrev c_unbound_dict : List Decl
c_unbound_dict =
    class "Eq" "a" [] (sig "eq" (arrow (v "a") (arrow (v "a") (c "Bool" nil))) ∷ []) []
    ∷ class "Ord" "a" ("Eq" ∷ []) (sig "lt" (arrow (v "a") (arrow (v "a") (c "Bool" nil))) ∷ []) []
    ∷ class "Real" "a" ("Ord" ∷ []) (sig "ge" (arrow (v "a") (arrow (v "a") (c "Bool" nil))) ∷ []) []
    ∷ check (lam "x" (eapp (eapp (ev "primAndBool") (eapp (eapp (ev "eq") (ev "x")) (ev "x"))) (eapp (eapp (ev "primAndBool") (eapp (eapp (ev "lt") (ev "x")) (ev "x"))) (eapp (eapp (ev "ge") (ev "x")) (ev "x")))))
    ∷ check (lam "x" (eapp (eapp (ev "primAndBool") (eapp (eapp (ev "ge") (ev "x")) (ev "x"))) (eapp (eapp (ev "primAndBool") (eapp (eapp (ev "lt") (ev "x")) (ev "x"))) (eapp (eapp (ev "eq") (ev "x")) (ev "x")))))
    ∷ check (lam "x" (eapp (eapp (ev "primAndBool") (eapp (eapp (ev "eq") (ev "x")) (ev "x"))) (eapp (eapp (ev "lt") (ev "x")) (ev "x"))))
    ∷ check (lam "x" (eapp (eapp (ev "primAndBool") (eapp (eapp (ev "eq") (ev "x")) (ev "x"))) (eapp (eapp (ev "eq") (ev "x")) (ev "x"))))
    ∷ []

c_unbound_dict_computed : metered 512 65536 512 c_unbound_dict ≡ said "declarations 7\n0 0 - | 11 44 0 0\n1 0 - | 11 55 0 0\n2 0 - | 11 66 0 0\n3 0 [Real a] (-> a Bool) = (dabs [d2 Real a] (lam x (app (app primAndBool (app (app (proj (proj d1 __super_Ord__Eq) eq) x) x)) (app (app primAndBool (app (app (proj (proj d2 __super_Real__Ord) lt) x) x)) (app (app (proj d2 ge) x) x))))) | 346 66 14 3\n4 0 [Real a] (-> a Bool) = (dabs [d3 Real a] (lam x (app (app primAndBool (app (app (proj d3 ge) x) x)) (app (app primAndBool (app (app (proj (proj d3 __super_Real__Ord) lt) x) x)) (app (app (proj (proj (proj d3 __super_Real__Ord) __super_Ord__Eq) eq) x) x))))) | 351 66 28 6\n5 0 [Ord a] (-> a Bool) = (dabs [d7 Ord a] (lam x (app (app primAndBool (app (app (proj (proj d7 __super_Ord__Eq) eq) x) x)) (app (app (proj d7 lt) x) x)))) | 205 66 37 8\n6 0 [Eq a] (-> a Bool) = (dabs [d8 Eq a] (lam x (app (app primAndBool (app (app (proj d8 eq) x) x)) (app (app (proj d8 eq) x) x)))) | 202 66 46 10\n"
unfolding everything metered said
c_unbound_dict_computed = refl

abbrev c_unify_pairs : List Decl
c_unify_pairs =
    class "K" "a" [] (sig "pair" (arrow (v "a") (arrow (v "b") (c "Pair" ((v "a") ◂ (v "b") ◂ nil)))) ∷ sig "usepp" (arrow (c "Pair" ((v "a") ◂ (v "a") ◂ nil)) (c "Int" nil)) ∷ sig "usepi" (arrow (c "Pair" ((v "a") ◂ (c "Int" nil) ◂ nil)) (v "a")) ∷ sig "usel" (arrow (c "List" ((v "a") ◂ nil)) (c "Int" nil)) ∷ sig "useb" (arrow (c "List" nil) (v "a")) ∷ sig "mkl" (c "List" ((v "a") ◂ nil)) ∷ []) (body "pair" (eint 1) ∷ body "usepp" (eint 1) ∷ body "usepi" (eint 1) ∷ body "usel" (eint 1) ∷ body "useb" (eint 1) ∷ body "mkl" (eint 1) ∷ [])
    ∷ instance [] "K" (c "Int" nil) []
    ∷ instance [] "K" (c "Bool" nil) []
    ∷ check (eapp (ev "usepp") (eapp (eapp (ev "pair") (eint 1)) (ebool true)))
    ∷ check (lam "x" (eapp (ev "usepi") (eapp (eapp (ev "pair") (ebool true)) (ev "x"))))
    ∷ check (eapp (ev "useb") (ev "mkl"))
    ∷ check (lam "x" (eapp (ev "x") (ev "x")))
    ∷ check (eapp (eint 1) (eint 2))
    ∷ check (eapp (ev "primAddInt") (ev "primAddInt"))
    ∷ check (lam "x" (eapp (eapp (ev "primAddInt") (eapp (ev "x") (eint 1))) (eapp (ev "x") (ebool true))))
    ∷ []

c_unify_pairs_computed : metered 512 65536 512 c_unify_pairs ≡ said "declarations 10\n0 0 - | 58 91 0 0\n1 0 - | 19 98 0 0\n2 0 - | 21 105 0 0\n3 14 Int Bool | 80 105 0 0\n4 0 [] (-> Int Bool) = (lam x (app (proj (rec K Bool) usepi) (app (app (proj (rec K Bool) pair) true) x))) | 143 105 7 2\n5 15 List 0 1 | 15 105 7 2\n6 13 t7 (-> t7 t8) | 9 105 7 2\n7 12 Int (-> Int t7) | 5 105 7 2\n8 12 Int (-> Int (-> Int Int)) | 20 105 7 2\n9 14 Int Bool | 47 105 7 2\n"
unfolding everything metered said
c_unify_pairs_computed = refl

abbrev c_unknown_context : List Decl
c_unknown_context =
    class "Eq" "a" [] (sig "eq" (arrow (v "a") (arrow (v "a") (c "Bool" nil))) ∷ []) (body "eq" (eint 1) ∷ [])
    ∷ class "Mk" "a" [] (sig "mk" (arrow (v "a") (c "List" ((v "a") ◂ nil))) ∷ []) (body "mk" (eint 1) ∷ [])
    ∷ instance [] "Mk" (c "Int" nil) []
    ∷ instance (at "Nope" (v "a") ∷ []) "Eq" (c "List" ((v "a") ◂ nil)) []
    ∷ check (eapp (ev "eq") (eapp (ev "mk") (eint 1)))
    ∷ instance [] "Nope" (c "Int" nil) []
    ∷ class "Two" "a" [] (sig "two" (arrow (v "a") (c "Bool" nil)) ∷ []) []
    ∷ []

c_unknown_context_computed : metered 512 65536 512 c_unknown_context ≡ said "declarations 7\n0 0 - | 11 44 0 0\n1 0 - | 9 53 0 0\n2 0 - | 4 55 0 0\n3 0 - | 6 59 0 0\n4 16 Nope Int | 61 59 0 0\n5 19 Nope | 1 59 0 0\n6 0 - | 7 66 0 0\n"
unfolding everything metered said
c_unknown_context_computed = refl

abbrev c_vars26 : List Decl
c_vars26 =
    check (lam "x0" (lam "x1" (lam "x2" (lam "x3" (lam "x4" (lam "x5" (lam "x6" (lam "x7" (lam "x8" (lam "x9" (lam "x10" (lam "x11" (lam "x12" (lam "x13" (lam "x14" (lam "x15" (lam "x16" (lam "x17" (lam "x18" (lam "x19" (lam "x20" (lam "x21" (lam "x22" (lam "x23" (lam "x24" (ev "x0"))))))))))))))))))))))))))
    ∷ check (lam "x0" (lam "x1" (lam "x2" (lam "x3" (lam "x4" (lam "x5" (lam "x6" (lam "x7" (lam "x8" (lam "x9" (lam "x10" (lam "x11" (lam "x12" (lam "x13" (lam "x14" (lam "x15" (lam "x16" (lam "x17" (lam "x18" (lam "x19" (lam "x20" (lam "x21" (lam "x22" (lam "x23" (lam "x24" (lam "x25" (ev "x0")))))))))))))))))))))))))))
    ∷ check (lam "x0" (lam "x1" (lam "x2" (lam "x3" (lam "x4" (lam "x5" (lam "x6" (lam "x7" (lam "x8" (lam "x9" (lam "x10" (lam "x11" (lam "x12" (lam "x13" (lam "x14" (lam "x15" (lam "x16" (lam "x17" (lam "x18" (lam "x19" (lam "x20" (lam "x21" (lam "x22" (lam "x23" (lam "x24" (lam "x25" (lam "x26" (ev "x0"))))))))))))))))))))))))))))
    ∷ define "many" (lam "x0" (lam "x1" (lam "x2" (lam "x3" (lam "x4" (lam "x5" (lam "x6" (lam "x7" (lam "x8" (lam "x9" (lam "x10" (lam "x11" (lam "x12" (lam "x13" (lam "x14" (lam "x15" (lam "x16" (lam "x17" (lam "x18" (lam "x19" (lam "x20" (lam "x21" (lam "x22" (lam "x23" (lam "x24" (lam "x25" (lam "x26" (lam "x27" (lam "x28" (lam "x29" (ev "x0")))))))))))))))))))))))))))))))
    ∷ check (ev "many")
    ∷ check (eapp (ev "many") (eint 1))
    ∷ []

c_vars26_computed : metered 512 65536 512 c_vars26 ≡ said "declarations 6\n0 0 [] (-> a (-> b (-> c (-> d (-> e (-> f (-> g (-> h (-> i (-> j (-> k (-> l (-> m (-> n (-> o (-> p (-> q (-> r (-> s (-> t (-> u (-> v (-> w (-> x (-> y a))))))))))))))))))))))))) = (lam x0 (lam x1 (lam x2 (lam x3 (lam x4 (lam x5 (lam x6 (lam x7 (lam x8 (lam x9 (lam x10 (lam x11 (lam x12 (lam x13 (lam x14 (lam x15 (lam x16 (lam x17 (lam x18 (lam x19 (lam x20 (lam x21 (lam x22 (lam x23 (lam x24 x0))))))))))))))))))))))))) | 206 33 25 0\n1 0 [] (-> a (-> b (-> c (-> d (-> e (-> f (-> g (-> h (-> i (-> j (-> k (-> l (-> m (-> n (-> o (-> p (-> q (-> r (-> s (-> t (-> u (-> v (-> w (-> x (-> y (-> z a)))))))))))))))))))))))))) = (lam x0 (lam x1 (lam x2 (lam x3 (lam x4 (lam x5 (lam x6 (lam x7 (lam x8 (lam x9 (lam x10 (lam x11 (lam x12 (lam x13 (lam x14 (lam x15 (lam x16 (lam x17 (lam x18 (lam x19 (lam x20 (lam x21 (lam x22 (lam x23 (lam x24 (lam x25 x0)))))))))))))))))))))))))) | 214 33 51 0\n2 0 [] (-> a (-> b (-> c (-> d (-> e (-> f (-> g (-> h (-> i (-> j (-> k (-> l (-> m (-> n (-> o (-> p (-> q (-> r (-> s (-> t (-> u (-> v (-> w (-> x (-> y (-> z (-> t77 a))))))))))))))))))))))))))) = (lam x0 (lam x1 (lam x2 (lam x3 (lam x4 (lam x5 (lam x6 (lam x7 (lam x8 (lam x9 (lam x10 (lam x11 (lam x12 (lam x13 (lam x14 (lam x15 (lam x16 (lam x17 (lam x18 (lam x19 (lam x20 (lam x21 (lam x22 (lam x23 (lam x24 (lam x25 (lam x26 x0))))))))))))))))))))))))))) | 222 33 78 0\n3 0 [] (-> a (-> b (-> c (-> d (-> e (-> f (-> g (-> h (-> i (-> j (-> k (-> l (-> m (-> n (-> o (-> p (-> q (-> r (-> s (-> t (-> u (-> v (-> w (-> x (-> y (-> z (-> t104 (-> t105 (-> t106 (-> t107 a)))))))))))))))))))))))))))))) | 246 94 108 0\n4 0 [] (-> a (-> b (-> c (-> d (-> e (-> f (-> g (-> h (-> i (-> j (-> k (-> l (-> m (-> n (-> o (-> p (-> q (-> r (-> s (-> t (-> y (-> z (-> t134 (-> t135 (-> t136 (-> t137 (-> u (-> v (-> w (-> x a)))))))))))))))))))))))))))))) = many | 186 94 138 0\n5 0 [] (-> a (-> b (-> c (-> d (-> e (-> f (-> g (-> h (-> i (-> j (-> k (-> l (-> m (-> n (-> o (-> p (-> q (-> r (-> s (-> x (-> y (-> z (-> t166 (-> t167 (-> t168 (-> t (-> u (-> v (-> w Int))))))))))))))))))))))))))))) = (app many 1) | 314 94 169 0\n"
unfolding everything metered said
c_vars26_computed = refl

abbrev c_worked : List Decl
c_worked =
    class "Eq" "a" [] (sig "eq" (arrow (v "a") (arrow (v "a") (c "Bool" nil))) ∷ []) []
    ∷ instance [] "Eq" (c "Int" nil) (body "eq" (ev "primEqInt") ∷ [])
    ∷ define "same" (lam "x" (eapp (eapp (ev "eq") (ev "x")) (ev "x")))
    ∷ check (eapp (ev "same") (eint 1))
    ∷ check (lam "x" (eapp (eapp (ev "eq") (ev "x")) (ev "x")))
    ∷ check (eapp (ev "eq") (ebool true))
    ∷ []

c_worked_computed : metered 512 65536 512 c_worked ≡ said "declarations 6\n0 0 - | 11 44 0 0\n1 0 - | 37 46 0 0\n2 0 [Eq a] (-> a Bool) | 74 50 4 1\n3 0 [] Bool = (app (dapp same (rec Eq Int)) 1) | 35 50 6 2\n4 0 [Eq a] (-> a Bool) = (dabs [d2 Eq a] (lam x (app (app (proj d2 eq) x) x))) | 74 50 10 3\n5 16 Eq Bool | 30 50 10 3\n"
unfolding everything metered said
c_worked_computed = refl
