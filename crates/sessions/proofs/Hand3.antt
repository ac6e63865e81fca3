-- Recorded sessions, computed: text, steps, kept nodes and both counters. (tools/session_test.py)
use mathlib.Core.Path.{◌≡◌, refl}
use mathlib.Core.Bool.{true, false}
use mathlib.Core.List.{List, [], ◌∷◌}
use Rattle.meaning.specs.Ast.{Ty, arrow, Expr, eint, ebool, eapp, Decl, nil, ◌◂◌}
use Rattle.meaning.proofs.Metered.{everything, metered, said}
use Rattle.meaning.proofs.Written.{v, c, ev, lam, bind, class, instance, define, check, at, sig, body}

abbrev c_overlap : List Decl
c_overlap =
    class "Eq" "a" [] (sig "eq" (arrow (v "a") (arrow (v "a") (c "Bool" nil))) ∷ []) (body "eq" (eint 1) ∷ [])
    ∷ class "Mk" "a" [] (sig "mk" (arrow (v "a") (arrow (v "b") (c "Pair" ((v "a") ◂ (v "b") ◂ nil)))) ∷ []) (body "mk" (eint 1) ∷ [])
    ∷ instance [] "Mk" (c "Int" nil) []
    ∷ instance (at "Eq" (v "a") ∷ []) "Eq" (c "Pair" ((c "Int" nil) ◂ (v "a") ◂ nil)) []
    ∷ instance [] "Eq" (c "Pair" ((v "a") ◂ (c "Int" nil) ◂ nil)) []
    ∷ instance [] "Eq" (c "List" ((v "a") ◂ nil)) []
    ∷ instance [] "Eq" (c "List" ((v "b") ◂ nil)) []
    ∷ instance [] "Eq" (c "List" ((c "Int" nil) ◂ nil)) []
    ∷ check (eapp (ev "eq") (eapp (eapp (ev "mk") (eint 1)) (eint 2)))
    ∷ instance [] "Eq" (c "Int" nil) []
    ∷ check (eapp (ev "eq") (eapp (eapp (ev "mk") (eint 1)) (eint 2)))
    ∷ instance [] "Eq" (c "Pair" ((c "Int" nil) ◂ (c "Int" nil) ◂ nil)) []
    ∷ instance [] "Eq" (arrow (v "a") (c "Int" nil)) []
    ∷ instance [] "Eq" (arrow (c "Int" nil) (v "a")) []
    ∷ check (eapp (ev "eq") (ev "primNotBool"))
    ∷ check (eapp (ev "eq") (eapp (ev "primAddInt") (eint 1)))
    ∷ instance [] "Eq" (v "a") []
    ∷ []

c_overlap_computed : metered 512 65536 512 c_overlap ≡ said "declarations 17\n0 0 - | 11 44 0 0\n1 0 - | 15 59 0 0\n2 0 - | 4 61 0 0\n3 0 - | 7 66 0 0\n4 0 - | 11 70 0 0\n5 0 - | 9 73 0 0\n6 18 Eq (List b) | 11 73 0 0\n7 18 Eq (List Int) | 11 73 0 0\n8 16 Eq Int | 113 73 0 0\n9 0 - | 10 75 0 0\n10 0 [] (-> (Pair Int Int) Bool) = (app (proj (dapp (rec Eq (Pair Int Int)) (rec Eq Int)) eq) (app (app (proj (rec Mk Int) mk) 1) 2)) | 151 75 6 2\n11 18 Eq (Pair Int Int) | 9 75 6 2\n12 0 - | 14 79 6 2\n13 0 - | 19 83 6 2\n14 16 Eq (-> Bool Bool) | 47 83 6 2\n15 0 [] (-> (-> Int Int) Bool) = (app (proj (rec Eq (-> Int Int)) eq) (app primAddInt 1)) | 88 83 9 3\n16 18 Eq a | 6 83 9 3\n"
unfolding everything metered said
c_overlap_computed = refl

abbrev c_pairs_super : List Decl
c_pairs_super =
    class "Eq" "a" [] (sig "eq" (arrow (v "a") (arrow (v "a") (c "Bool" nil))) ∷ []) []
    ∷ class "Ord" "a" ("Eq" ∷ []) (sig "lt" (arrow (v "a") (arrow (v "a") (c "Bool" nil))) ∷ []) []
    ∷ check (lam "x" (eapp (eapp (ev "primAndBool") (eapp (eapp (ev "eq") (ev "x")) (ev "x"))) (eapp (eapp (ev "lt") (ev "x")) (ev "x"))))
    ∷ []

c_pairs_super_computed : metered 512 65536 512 c_pairs_super ≡ said "declarations 3\n0 0 - | 11 44 0 0\n1 0 - | 11 55 0 0\n2 0 [Ord a] (-> a Bool) = (dabs [d1 Ord a] (lam x (app (app primAndBool (app (app (proj (proj d1 __super_Ord__Eq) eq) x) x)) (app (app (proj d1 lt) x) x)))) | 205 55 9 2\n"
unfolding everything metered said
c_pairs_super_computed = refl

abbrev c_rust_cycle : List Decl
c_rust_cycle =
    class "A" "a" [] (sig "m" (arrow (v "a") (c "Bool" nil)) ∷ []) []
    ∷ class "B" "a" ("A" ∷ []) (sig "n" (arrow (v "a") (c "Bool" nil)) ∷ []) []
    ∷ class "A" "a" ("B" ∷ []) (sig "m" (arrow (v "a") (c "Bool" nil)) ∷ []) []
    ∷ check (lam "x" (eapp (eapp (ev "primAndBool") (eapp (ev "m") (ev "x"))) (eapp (ev "n") (ev "x"))))
    ∷ []

c_rust_cycle_computed : metered 512 65536 512 c_rust_cycle ≡ said "declarations 4\n0 0 - | 7 40 0 0\n1 0 - | 7 47 0 0\n2 4 - | 0 47 0 0\n3 0 [B a] (-> a Bool) = (dabs [d1 B a] (lam x (app (app primAndBool (app (proj (proj d1 __super_B__A) m) x)) (app (proj d1 n) x)))) | 129 47 7 2\n"
unfolding everything metered said
c_rust_cycle_computed = refl

abbrev c_rust_double : List Decl
c_rust_double =
    class "K0" "a" [] (sig "m0" (arrow (v "a") (c "Bool" nil)) ∷ []) []
    ∷ class "K1" "a" ("K0" ∷ "K0" ∷ []) [] []
    ∷ class "K2" "a" ("K1" ∷ "K1" ∷ []) [] []
    ∷ class "K3" "a" ("K2" ∷ "K2" ∷ []) [] []
    ∷ class "K4" "a" ("K3" ∷ "K3" ∷ []) [] []
    ∷ class "K5" "a" ("K4" ∷ "K4" ∷ []) [] []
    ∷ class "K6" "a" ("K5" ∷ "K5" ∷ []) [] []
    ∷ class "K7" "a" ("K6" ∷ "K6" ∷ []) [] []
    ∷ class "K8" "a" ("K7" ∷ "K7" ∷ []) [] []
    ∷ class "K9" "a" ("K8" ∷ "K8" ∷ []) [] []
    ∷ class "K10" "a" ("K9" ∷ "K9" ∷ []) [] []
    ∷ class "K11" "a" ("K10" ∷ "K10" ∷ []) [] []
    ∷ class "K12" "a" ("K11" ∷ "K11" ∷ []) [] []
    ∷ class "K13" "a" ("K12" ∷ "K12" ∷ []) [] []
    ∷ class "K14" "a" ("K13" ∷ "K13" ∷ []) [] []
    ∷ class "K15" "a" ("K14" ∷ "K14" ∷ []) [] []
    ∷ class "K16" "a" ("K15" ∷ "K15" ∷ []) [] []
    ∷ class "K17" "a" ("K16" ∷ "K16" ∷ []) [] []
    ∷ class "K18" "a" ("K17" ∷ "K17" ∷ []) [] []
    ∷ class "K19" "a" ("K18" ∷ "K18" ∷ []) [] []
    ∷ class "K20" "a" ("K19" ∷ "K19" ∷ []) (sig "m20" (arrow (v "a") (c "Bool" nil)) ∷ []) []
    ∷ class "Z" "a" [] (sig "z" (arrow (v "a") (c "Bool" nil)) ∷ []) []
    ∷ check (lam "x" (eapp (eapp (ev "primAndBool") (eapp (ev "m20") (ev "x"))) (eapp (ev "m0") (ev "x"))))
    ∷ check (lam "x" (eapp (eapp (ev "primAndBool") (eapp (ev "m20") (ev "x"))) (eapp (ev "z") (ev "x"))))
    ∷ []

c_rust_double_computed : metered 512 65536 512 c_rust_double ≡ said "declarations 24\n0 0 - | 7 40 0 0\n1 0 - | 0 40 0 0\n2 0 - | 0 40 0 0\n3 0 - | 0 40 0 0\n4 0 - | 0 40 0 0\n5 0 - | 0 40 0 0\n6 0 - | 0 40 0 0\n7 0 - | 0 40 0 0\n8 0 - | 0 40 0 0\n9 0 - | 0 40 0 0\n10 0 - | 0 40 0 0\n11 0 - | 0 40 0 0\n12 0 - | 0 40 0 0\n13 0 - | 0 40 0 0\n14 0 - | 0 40 0 0\n15 0 - | 0 40 0 0\n16 0 - | 0 40 0 0\n17 0 - | 0 40 0 0\n18 0 - | 0 40 0 0\n19 0 - | 0 40 0 0\n20 0 - | 7 47 0 0\n21 0 - | 7 54 0 0\n22 0 [K20 a] (-> a Bool) = (dabs [d0 K20 a] (lam x (app (app primAndBool (app (proj d0 m20) x)) (app (proj (proj (proj (proj (proj (proj (proj (proj (proj (proj (proj (proj (proj (proj (proj (proj (proj (proj (proj (proj (proj d0 __super_K20__K19) __super_K19__K18) __super_K18__K17) __super_K17__K16) __super_K16__K15) __super_K15__K14) __super_K14__K13) __super_K13__K12) __super_K12__K11) __super_K11__K10) __super_K10__K9) __super_K9__K8) __super_K8__K7) __super_K7__K6) __super_K6__K5) __super_K5__K4) __super_K4__K3) __super_K3__K2) __super_K2__K1) __super_K1__K0) m0) x)))) | 168 54 7 2\n23 6 - | 512 54 7 2\n"
unfolding everything metered said
c_rust_double_computed = refl

abbrev c_rust_square : List Decl
c_rust_square =
    class "Big" "a" [] (sig "big" (arrow (v "a") (c "Tree" ((c "Tree" ((c "Tree" ((c "Tree" ((c "Tree" ((c "Tree" ((c "Tree" ((v "a") ◂ (v "a") ◂ (v "a") ◂ nil)) ◂ (c "Tree" ((v "a") ◂ (v "a") ◂ (v "a") ◂ nil)) ◂ (c "Tree" ((v "a") ◂ (v "a") ◂ (v "a") ◂ nil)) ◂ nil)) ◂ (c "Tree" ((c "Tree" ((v "a") ◂ (v "a") ◂ (v "a") ◂ nil)) ◂ (c "Tree" ((v "a") ◂ (v "a") ◂ (v "a") ◂ nil)) ◂ (c "Tree" ((v "a") ◂ (v "a") ◂ (v "a") ◂ nil)) ◂ nil)) ◂ (c "Tree" ((c "Tree" ((v "a") ◂ (v "a") ◂ (v "a") ◂ nil)) ◂ (c "Tree" ((v "a") ◂ (v "a") ◂ (v "a") ◂ nil)) ◂ (c "Tree" ((v "a") ◂ (v "a") ◂ (v "a") ◂ nil)) ◂ nil)) ◂ nil)) ◂ (c "Tree" ((c "Tree" ((c "Tree" ((v "a") ◂ (v "a") ◂ (v "a") ◂ nil)) ◂ (c "Tree" ((v "a") ◂ (v "a") ◂ (v "a") ◂ nil)) ◂ (c "Tree" ((v "a") ◂ (v "a") ◂ (v "a") ◂ nil)) ◂ nil)) ◂ (c "Tree" ((c "Tree" ((v "a") ◂ (v "a") ◂ (v "a") ◂ nil)) ◂ (c "Tree" ((v "a") ◂ (v "a") ◂ (v "a") ◂ nil)) ◂ (c "Tree" ((v "a") ◂ (v "a") ◂ (v "a") ◂ nil)) ◂ nil)) ◂ (c "Tree" ((c "Tree" ((v "a") ◂ (v "a") ◂ (v "a") ◂ nil)) ◂ (c "Tree" ((v "a") ◂ (v "a") ◂ (v "a") ◂ nil)) ◂ (c "Tree" ((v "a") ◂ (v "a") ◂ (v "a") ◂ nil)) ◂ nil)) ◂ nil)) ◂ (c "Tree" ((c "Tree" ((c "Tree" ((v "a") ◂ (v "a") ◂ (v "a") ◂ nil)) ◂ (c "Tree" ((v "a") ◂ (v "a") ◂ (v "a") ◂ nil)) ◂ (c "Tree" ((v "a") ◂ (v "a") ◂ (v "a") ◂ nil)) ◂ nil)) ◂ (c "Tree" ((c "Tree" ((v "a") ◂ (v "a") ◂ (v "a") ◂ nil)) ◂ (c "Tree" ((v "a") ◂ (v "a") ◂ (v "a") ◂ nil)) ◂ (c "Tree" ((v "a") ◂ (v "a") ◂ (v "a") ◂ nil)) ◂ nil)) ◂ (c "Tree" ((c "Tree" ((v "a") ◂ (v "a") ◂ (v "a") ◂ nil)) ◂ (c "Tree" ((v "a") ◂ (v "a") ◂ (v "a") ◂ nil)) ◂ (c "Tree" ((v "a") ◂ (v "a") ◂ (v "a") ◂ nil)) ◂ nil)) ◂ nil)) ◂ nil)) ◂ (c "Tree" ((c "Tree" ((c "Tree" ((c "Tree" ((v "a") ◂ (v "a") ◂ (v "a") ◂ nil)) ◂ (c "Tree" ((v "a") ◂ (v "a") ◂ (v "a") ◂ nil)) ◂ (c "Tree" ((v "a") ◂ (v "a") ◂ (v "a") ◂ nil)) ◂ nil)) ◂ (c "Tree" ((c "Tree" ((v "a") ◂ (v "a") ◂ (v "a") ◂ nil)) ◂ (c "Tree" ((v "a") ◂ (v "a") ◂ (v "a") ◂ nil)) ◂ (c "Tree" ((v "a") ◂ (v "a") ◂ (v "a") ◂ nil)) ◂ nil)) ◂ (c "Tree" ((c "Tree" ((v "a") ◂ (v "a") ◂ (v "a") ◂ nil)) ◂ (c "Tree" ((v "a") ◂ (v "a") ◂ (v "a") ◂ nil)) ◂ (c "Tree" ((v "a") ◂ (v "a") ◂ (v "a") ◂ nil)) ◂ nil)) ◂ nil)) ◂ (c "Tree" ((c "Tree" ((c "Tree" ((v "a") ◂ (v "a") ◂ (v "a") ◂ nil)) ◂ (c "Tree" ((v "a") ◂ (v "a") ◂ (v "a") ◂ nil)) ◂ (c "Tree" ((v "a") ◂ (v "a") ◂ (v "a") ◂ nil)) ◂ nil)) ◂ (c "Tree" ((c "Tree" ((v "a") ◂ (v "a") ◂ (v "a") ◂ nil)) ◂ (c "Tree" ((v "a") ◂ (v "a") ◂ (v "a") ◂ nil)) ◂ (c "Tree" ((v "a") ◂ (v "a") ◂ (v "a") ◂ nil)) ◂ nil)) ◂ (c "Tree" ((c "Tree" ((v "a") ◂ (v "a") ◂ (v "a") ◂ nil)) ◂ (c "Tree" ((v "a") ◂ (v "a") ◂ (v "a") ◂ nil)) ◂ (c "Tree" ((v "a") ◂ (v "a") ◂ (v "a") ◂ nil)) ◂ nil)) ◂ nil)) ◂ (c "Tree" ((c "Tree" ((c "Tree" ((v "a") ◂ (v "a") ◂ (v "a") ◂ nil)) ◂ (c "Tree" ((v "a") ◂ (v "a") ◂ (v "a") ◂ nil)) ◂ (c "Tree" ((v "a") ◂ (v "a") ◂ (v "a") ◂ nil)) ◂ nil)) ◂ (c "Tree" ((c "Tree" ((v "a") ◂ (v "a") ◂ (v "a") ◂ nil)) ◂ (c "Tree" ((v "a") ◂ (v "a") ◂ (v "a") ◂ nil)) ◂ (c "Tree" ((v "a") ◂ (v "a") ◂ (v "a") ◂ nil)) ◂ nil)) ◂ (c "Tree" ((c "Tree" ((v "a") ◂ (v "a") ◂ (v "a") ◂ nil)) ◂ (c "Tree" ((v "a") ◂ (v "a") ◂ (v "a") ◂ nil)) ◂ (c "Tree" ((v "a") ◂ (v "a") ◂ (v "a") ◂ nil)) ◂ nil)) ◂ nil)) ◂ nil)) ◂ (c "Tree" ((c "Tree" ((c "Tree" ((c "Tree" ((v "a") ◂ (v "a") ◂ (v "a") ◂ nil)) ◂ (c "Tree" ((v "a") ◂ (v "a") ◂ (v "a") ◂ nil)) ◂ (c "Tree" ((v "a") ◂ (v "a") ◂ (v "a") ◂ nil)) ◂ nil)) ◂ (c "Tree" ((c "Tree" ((v "a") ◂ (v "a") ◂ (v "a") ◂ nil)) ◂ (c "Tree" ((v "a") ◂ (v "a") ◂ (v "a") ◂ nil)) ◂ (c "Tree" ((v "a") ◂ (v "a") ◂ (v "a") ◂ nil)) ◂ nil)) ◂ (c "Tree" ((c "Tree" ((v "a") ◂ (v "a") ◂ (v "a") ◂ nil)) ◂ (c "Tree" ((v "a") ◂ (v "a") ◂ (v "a") ◂ nil)) ◂ (c "Tree" ((v "a") ◂ (v "a") ◂ (v "a") ◂ nil)) ◂ nil)) ◂ nil)) ◂ (c "Tree" ((c "Tree" ((c "Tree" ((v "a") ◂ (v "a") ◂ (v "a") ◂ nil)) ◂ (c "Tree" ((v "a") ◂ (v "a") ◂ (v "a") ◂ nil)) ◂ (c "Tree" ((v "a") ◂ (v "a") ◂ (v "a") ◂ nil)) ◂ nil)) ◂ (c "Tree" ((c "Tree" ((v "a") ◂ (v "a") ◂ (v "a") ◂ nil)) ◂ (c "Tree" ((v "a") ◂ (v "a") ◂ (v "a") ◂ nil)) ◂ (c "Tree" ((v "a") ◂ (v "a") ◂ (v "a") ◂ nil)) ◂ nil)) ◂ (c "Tree" ((c "Tree" ((v "a") ◂ (v "a") ◂ (v "a") ◂ nil)) ◂ (c "Tree" ((v "a") ◂ (v "a") ◂ (v "a") ◂ nil)) ◂ (c "Tree" ((v "a") ◂ (v "a") ◂ (v "a") ◂ nil)) ◂ nil)) ◂ nil)) ◂ (c "Tree" ((c "Tree" ((c "Tree" ((v "a") ◂ (v "a") ◂ (v "a") ◂ nil)) ◂ (c "Tree" ((v "a") ◂ (v "a") ◂ (v "a") ◂ nil)) ◂ (c "Tree" ((v "a") ◂ (v "a") ◂ (v "a") ◂ nil)) ◂ nil)) ◂ (c "Tree" ((c "Tree" ((v "a") ◂ (v "a") ◂ (v "a") ◂ nil)) ◂ (c "Tree" ((v "a") ◂ (v "a") ◂ (v "a") ◂ nil)) ◂ (c "Tree" ((v "a") ◂ (v "a") ◂ (v "a") ◂ nil)) ◂ nil)) ◂ (c "Tree" ((c "Tree" ((v "a") ◂ (v "a") ◂ (v "a") ◂ nil)) ◂ (c "Tree" ((v "a") ◂ (v "a") ◂ (v "a") ◂ nil)) ◂ (c "Tree" ((v "a") ◂ (v "a") ◂ (v "a") ◂ nil)) ◂ nil)) ◂ nil)) ◂ nil)) ◂ nil)) ◂ (c "Tree" ((c "Tree" ((c "Tree" ((c "Tree" ((c "Tree" ((v "a") ◂ (v "a") ◂ (v "a") ◂ nil)) ◂ (c "Tree" ((v "a") ◂ (v "a") ◂ (v "a") ◂ nil)) ◂ (c "Tree" ((v "a") ◂ (v "a") ◂ (v "a") ◂ nil)) ◂ nil)) ◂ (c "Tree" ((c "Tree" ((v "a") ◂ (v "a") ◂ (v "a") ◂ nil)) ◂ (c "Tree" ((v "a") ◂ (v "a") ◂ (v "a") ◂ nil)) ◂ (c "Tree" ((v "a") ◂ (v "a") ◂ (v "a") ◂ nil)) ◂ nil)) ◂ (c "Tree" ((c "Tree" ((v "a") ◂ (v "a") ◂ (v "a") ◂ nil)) ◂ (c "Tree" ((v "a") ◂ (v "a") ◂ (v "a") ◂ nil)) ◂ (c "Tree" ((v "a") ◂ (v "a") ◂ (v "a") ◂ nil)) ◂ nil)) ◂ nil)) ◂ (c "Tree" ((c "Tree" ((c "Tree" ((v "a") ◂ (v "a") ◂ (v "a") ◂ nil)) ◂ (c "Tree" ((v "a") ◂ (v "a") ◂ (v "a") ◂ nil)) ◂ (c "Tree" ((v "a") ◂ (v "a") ◂ (v "a") ◂ nil)) ◂ nil)) ◂ (c "Tree" ((c "Tree" ((v "a") ◂ (v "a") ◂ (v "a") ◂ nil)) ◂ (c "Tree" ((v "a") ◂ (v "a") ◂ (v "a") ◂ nil)) ◂ (c "Tree" ((v "a") ◂ (v "a") ◂ (v "a") ◂ nil)) ◂ nil)) ◂ (c "Tree" ((c "Tree" ((v "a") ◂ (v "a") ◂ (v "a") ◂ nil)) ◂ (c "Tree" ((v "a") ◂ (v "a") ◂ (v "a") ◂ nil)) ◂ (c "Tree" ((v "a") ◂ (v "a") ◂ (v "a") ◂ nil)) ◂ nil)) ◂ nil)) ◂ (c "Tree" ((c "Tree" ((c "Tree" ((v "a") ◂ (v "a") ◂ (v "a") ◂ nil)) ◂ (c "Tree" ((v "a") ◂ (v "a") ◂ (v "a") ◂ nil)) ◂ (c "Tree" ((v "a") ◂ (v "a") ◂ (v "a") ◂ nil)) ◂ nil)) ◂ (c "Tree" ((c "Tree" ((v "a") ◂ (v "a") ◂ (v "a") ◂ nil)) ◂ (c "Tree" ((v "a") ◂ (v "a") ◂ (v "a") ◂ nil)) ◂ (c "Tree" ((v "a") ◂ (v "a") ◂ (v "a") ◂ nil)) ◂ nil)) ◂ (c "Tree" ((c "Tree" ((v "a") ◂ (v "a") ◂ (v "a") ◂ nil)) ◂ (c "Tree" ((v "a") ◂ (v "a") ◂ (v "a") ◂ nil)) ◂ (c "Tree" ((v "a") ◂ (v "a") ◂ (v "a") ◂ nil)) ◂ nil)) ◂ nil)) ◂ nil)) ◂ (c "Tree" ((c "Tree" ((c "Tree" ((c "Tree" ((v "a") ◂ (v "a") ◂ (v "a") ◂ nil)) ◂ (c "Tree" ((v "a") ◂ (v "a") ◂ (v "a") ◂ nil)) ◂ (c "Tree" ((v "a") ◂ (v "a") ◂ (v "a") ◂ nil)) ◂ nil)) ◂ (c "Tree" ((c "Tree" ((v "a") ◂ (v "a") ◂ (v "a") ◂ nil)) ◂ (c "Tree" ((v "a") ◂ (v "a") ◂ (v "a") ◂ nil)) ◂ (c "Tree" ((v "a") ◂ (v "a") ◂ (v "a") ◂ nil)) ◂ nil)) ◂ (c "Tree" ((c "Tree" ((v "a") ◂ (v "a") ◂ (v "a") ◂ nil)) ◂ (c "Tree" ((v "a") ◂ (v "a") ◂ (v "a") ◂ nil)) ◂ (c "Tree" ((v "a") ◂ (v "a") ◂ (v "a") ◂ nil)) ◂ nil)) ◂ nil)) ◂ (c "Tree" ((c "Tree" ((c "Tree" ((v "a") ◂ (v "a") ◂ (v "a") ◂ nil)) ◂ (c "Tree" ((v "a") ◂ (v "a") ◂ (v "a") ◂ nil)) ◂ (c "Tree" ((v "a") ◂ (v "a") ◂ (v "a") ◂ nil)) ◂ nil)) ◂ (c "Tree" ((c "Tree" ((v "a") ◂ (v "a") ◂ (v "a") ◂ nil)) ◂ (c "Tree" ((v "a") ◂ (v "a") ◂ (v "a") ◂ nil)) ◂ (c "Tree" ((v "a") ◂ (v "a") ◂ (v "a") ◂ nil)) ◂ nil)) ◂ (c "Tree" ((c "Tree" ((v "a") ◂ (v "a") ◂ (v "a") ◂ nil)) ◂ (c "Tree" ((v "a") ◂ (v "a") ◂ (v "a") ◂ nil)) ◂ (c "Tree" ((v "a") ◂ (v "a") ◂ (v "a") ◂ nil)) ◂ nil)) ◂ nil)) ◂ (c "Tree" ((c "Tree" ((c "Tree" ((v "a") ◂ (v "a") ◂ (v "a") ◂ nil)) ◂ (c "Tree" ((v "a") ◂ (v "a") ◂ (v "a") ◂ nil)) ◂ (c "Tree" ((v "a") ◂ (v "a") ◂ (v "a") ◂ nil)) ◂ nil)) ◂ (c "Tree" ((c "Tree" ((v "a") ◂ (v "a") ◂ (v "a") ◂ nil)) ◂ (c "Tree" ((v "a") ◂ (v "a") ◂ (v "a") ◂ nil)) ◂ (c "Tree" ((v "a") ◂ (v "a") ◂ (v "a") ◂ nil)) ◂ nil)) ◂ (c "Tree" ((c "Tree" ((v "a") ◂ (v "a") ◂ (v "a") ◂ nil)) ◂ (c "Tree" ((v "a") ◂ (v "a") ◂ (v "a") ◂ nil)) ◂ (c "Tree" ((v "a") ◂ (v "a") ◂ (v "a") ◂ nil)) ◂ nil)) ◂ nil)) ◂ nil)) ◂ (c "Tree" ((c "Tree" ((c "Tree" ((c "Tree" ((v "a") ◂ (v "a") ◂ (v "a") ◂ nil)) ◂ (c "Tree" ((v "a") ◂ (v "a") ◂ (v "a") ◂ nil)) ◂ (c "Tree" ((v "a") ◂ (v "a") ◂ (v "a") ◂ nil)) ◂ nil)) ◂ (c "Tree" ((c "Tree" ((v "a") ◂ (v "a") ◂ (v "a") ◂ nil)) ◂ (c "Tree" ((v "a") ◂ (v "a") ◂ (v "a") ◂ nil)) ◂ (c "Tree" ((v "a") ◂ (v "a") ◂ (v "a") ◂ nil)) ◂ nil)) ◂ (c "Tree" ((c "Tree" ((v "a") ◂ (v "a") ◂ (v "a") ◂ nil)) ◂ (c "Tree" ((v "a") ◂ (v "a") ◂ (v "a") ◂ nil)) ◂ (c "Tree" ((v "a") ◂ (v "a") ◂ (v "a") ◂ nil)) ◂ nil)) ◂ nil)) ◂ (c "Tree" ((c "Tree" ((c "Tree" ((v "a") ◂ (v "a") ◂ (v "a") ◂ nil)) ◂ (c "Tree" ((v "a") ◂ (v "a") ◂ (v "a") ◂ nil)) ◂ (c "Tree" ((v "a") ◂ (v "a") ◂ (v "a") ◂ nil)) ◂ nil)) ◂ (c "Tree" ((c "Tree" ((v "a") ◂ (v "a") ◂ (v "a") ◂ nil)) ◂ (c "Tree" ((v "a") ◂ (v "a") ◂ (v "a") ◂ nil)) ◂ (c "Tree" ((v "a") ◂ (v "a") ◂ (v "a") ◂ nil)) ◂ nil)) ◂ (c "Tree" ((c "Tree" ((v "a") ◂ (v "a") ◂ (v "a") ◂ nil)) ◂ (c "Tree" ((v "a") ◂ (v "a") ◂ (v "a") ◂ nil)) ◂ (c "Tree" ((v "a") ◂ (v "a") ◂ (v "a") ◂ nil)) ◂ nil)) ◂ nil)) ◂ (c "Tree" ((c "Tree" ((c "Tree" ((v "a") ◂ (v "a") ◂ (v "a") ◂ nil)) ◂ (c "Tree" ((v "a") ◂ (v "a") ◂ (v "a") ◂ nil)) ◂ (c "Tree" ((v "a") ◂ (v "a") ◂ (v "a") ◂ nil)) ◂ nil)) ◂ (c "Tree" ((c "Tree" ((v "a") ◂ (v "a") ◂ (v "a") ◂ nil)) ◂ (c "Tree" ((v "a") ◂ (v "a") ◂ (v "a") ◂ nil)) ◂ (c "Tree" ((v "a") ◂ (v "a") ◂ (v "a") ◂ nil)) ◂ nil)) ◂ (c "Tree" ((c "Tree" ((v "a") ◂ (v "a") ◂ (v "a") ◂ nil)) ◂ (c "Tree" ((v "a") ◂ (v "a") ◂ (v "a") ◂ nil)) ◂ (c "Tree" ((v "a") ◂ (v "a") ◂ (v "a") ◂ nil)) ◂ nil)) ◂ nil)) ◂ nil)) ◂ nil)) ◂ (c "Tree" ((c "Tree" ((c "Tree" ((c "Tree" ((c "Tree" ((v "a") ◂ (v "a") ◂ (v "a") ◂ nil)) ◂ (c "Tree" ((v "a") ◂ (v "a") ◂ (v "a") ◂ nil)) ◂ (c "Tree" ((v "a") ◂ (v "a") ◂ (v "a") ◂ nil)) ◂ nil)) ◂ (c "Tree" ((c "Tree" ((v "a") ◂ (v "a") ◂ (v "a") ◂ nil)) ◂ (c "Tree" ((v "a") ◂ (v "a") ◂ (v "a") ◂ nil)) ◂ (c "Tree" ((v "a") ◂ (v "a") ◂ (v "a") ◂ nil)) ◂ nil)) ◂ (c "Tree" ((c "Tree" ((v "a") ◂ (v "a") ◂ (v "a") ◂ nil)) ◂ (c "Tree" ((v "a") ◂ (v "a") ◂ (v "a") ◂ nil)) ◂ (c "Tree" ((v "a") ◂ (v "a") ◂ (v "a") ◂ nil)) ◂ nil)) ◂ nil)) ◂ (c "Tree" ((c "Tree" ((c "Tree" ((v "a") ◂ (v "a") ◂ (v "a") ◂ nil)) ◂ (c "Tree" ((v "a") ◂ (v "a") ◂ (v "a") ◂ nil)) ◂ (c "Tree" ((v "a") ◂ (v "a") ◂ (v "a") ◂ nil)) ◂ nil)) ◂ (c "Tree" ((c "Tree" ((v "a") ◂ (v "a") ◂ (v "a") ◂ nil)) ◂ (c "Tree" ((v "a") ◂ (v "a") ◂ (v "a") ◂ nil)) ◂ (c "Tree" ((v "a") ◂ (v "a") ◂ (v "a") ◂ nil)) ◂ nil)) ◂ (c "Tree" ((c "Tree" ((v "a") ◂ (v "a") ◂ (v "a") ◂ nil)) ◂ (c "Tree" ((v "a") ◂ (v "a") ◂ (v "a") ◂ nil)) ◂ (c "Tree" ((v "a") ◂ (v "a") ◂ (v "a") ◂ nil)) ◂ nil)) ◂ nil)) ◂ (c "Tree" ((c "Tree" ((c "Tree" ((v "a") ◂ (v "a") ◂ (v "a") ◂ nil)) ◂ (c "Tree" ((v "a") ◂ (v "a") ◂ (v "a") ◂ nil)) ◂ (c "Tree" ((v "a") ◂ (v "a") ◂ (v "a") ◂ nil)) ◂ nil)) ◂ (c "Tree" ((c "Tree" ((v "a") ◂ (v "a") ◂ (v "a") ◂ nil)) ◂ (c "Tree" ((v "a") ◂ (v "a") ◂ (v "a") ◂ nil)) ◂ (c "Tree" ((v "a") ◂ (v "a") ◂ (v "a") ◂ nil)) ◂ nil)) ◂ (c "Tree" ((c "Tree" ((v "a") ◂ (v "a") ◂ (v "a") ◂ nil)) ◂ (c "Tree" ((v "a") ◂ (v "a") ◂ (v "a") ◂ nil)) ◂ (c "Tree" ((v "a") ◂ (v "a") ◂ (v "a") ◂ nil)) ◂ nil)) ◂ nil)) ◂ nil)) ◂ (c "Tree" ((c "Tree" ((c "Tree" ((c "Tree" ((v "a") ◂ (v "a") ◂ (v "a") ◂ nil)) ◂ (c "Tree" ((v "a") ◂ (v "a") ◂ (v "a") ◂ nil)) ◂ (c "Tree" ((v "a") ◂ (v "a") ◂ (v "a") ◂ nil)) ◂ nil)) ◂ (c "Tree" ((c "Tree" ((v "a") ◂ (v "a") ◂ (v "a") ◂ nil)) ◂ (c "Tree" ((v "a") ◂ (v "a") ◂ (v "a") ◂ nil)) ◂ (c "Tree" ((v "a") ◂ (v "a") ◂ (v "a") ◂ nil)) ◂ nil)) ◂ (c "Tree" ((c "Tree" ((v "a") ◂ (v "a") ◂ (v "a") ◂ nil)) ◂ (c "Tree" ((v "a") ◂ (v "a") ◂ (v "a") ◂ nil)) ◂ (c "Tree" ((v "a") ◂ (v "a") ◂ (v "a") ◂ nil)) ◂ nil)) ◂ nil)) ◂ (c "Tree" ((c "Tree" ((c "Tree" ((v "a") ◂ (v "a") ◂ (v "a") ◂ nil)) ◂ (c "Tree" ((v "a") ◂ (v "a") ◂ (v "a") ◂ nil)) ◂ (c "Tree" ((v "a") ◂ (v "a") ◂ (v "a") ◂ nil)) ◂ nil)) ◂ (c "Tree" ((c "Tree" ((v "a") ◂ (v "a") ◂ (v "a") ◂ nil)) ◂ (c "Tree" ((v "a") ◂ (v "a") ◂ (v "a") ◂ nil)) ◂ (c "Tree" ((v "a") ◂ (v "a") ◂ (v "a") ◂ nil)) ◂ nil)) ◂ (c "Tree" ((c "Tree" ((v "a") ◂ (v "a") ◂ (v "a") ◂ nil)) ◂ (c "Tree" ((v "a") ◂ (v "a") ◂ (v "a") ◂ nil)) ◂ (c "Tree" ((v "a") ◂ (v "a") ◂ (v "a") ◂ nil)) ◂ nil)) ◂ nil)) ◂ (c "Tree" ((c "Tree" ((c "Tree" ((v "a") ◂ (v "a") ◂ (v "a") ◂ nil)) ◂ (c "Tree" ((v "a") ◂ (v "a") ◂ (v "a") ◂ nil)) ◂ (c "Tree" ((v "a") ◂ (v "a") ◂ (v "a") ◂ nil)) ◂ nil)) ◂ (c "Tree" ((c "Tree" ((v "a") ◂ (v "a") ◂ (v "a") ◂ nil)) ◂ (c "Tree" ((v "a") ◂ (v "a") ◂ (v "a") ◂ nil)) ◂ (c "Tree" ((v "a") ◂ (v "a") ◂ (v "a") ◂ nil)) ◂ nil)) ◂ (c "Tree" ((c "Tree" ((v "a") ◂ (v "a") ◂ (v "a") ◂ nil)) ◂ (c "Tree" ((v "a") ◂ (v "a") ◂ (v "a") ◂ nil)) ◂ (c "Tree" ((v "a") ◂ (v "a") ◂ (v "a") ◂ nil)) ◂ nil)) ◂ nil)) ◂ nil)) ◂ (c "Tree" ((c "Tree" ((c "Tree" ((c "Tree" ((v "a") ◂ (v "a") ◂ (v "a") ◂ nil)) ◂ (c "Tree" ((v "a") ◂ (v "a") ◂ (v "a") ◂ nil)) ◂ (c "Tree" ((v "a") ◂ (v "a") ◂ (v "a") ◂ nil)) ◂ nil)) ◂ (c "Tree" ((c "Tree" ((v "a") ◂ (v "a") ◂ (v "a") ◂ nil)) ◂ (c "Tree" ((v "a") ◂ (v "a") ◂ (v "a") ◂ nil)) ◂ (c "Tree" ((v "a") ◂ (v "a") ◂ (v "a") ◂ nil)) ◂ nil)) ◂ (c "Tree" ((c "Tree" ((v "a") ◂ (v "a") ◂ (v "a") ◂ nil)) ◂ (c "Tree" ((v "a") ◂ (v "a") ◂ (v "a") ◂ nil)) ◂ (c "Tree" ((v "a") ◂ (v "a") ◂ (v "a") ◂ nil)) ◂ nil)) ◂ nil)) ◂ (c "Tree" ((c "Tree" ((c "Tree" ((v "a") ◂ (v "a") ◂ (v "a") ◂ nil)) ◂ (c "Tree" ((v "a") ◂ (v "a") ◂ (v "a") ◂ nil)) ◂ (c "Tree" ((v "a") ◂ (v "a") ◂ (v "a") ◂ nil)) ◂ nil)) ◂ (c "Tree" ((c "Tree" ((v "a") ◂ (v "a") ◂ (v "a") ◂ nil)) ◂ (c "Tree" ((v "a") ◂ (v "a") ◂ (v "a") ◂ nil)) ◂ (c "Tree" ((v "a") ◂ (v "a") ◂ (v "a") ◂ nil)) ◂ nil)) ◂ (c "Tree" ((c "Tree" ((v "a") ◂ (v "a") ◂ (v "a") ◂ nil)) ◂ (c "Tree" ((v "a") ◂ (v "a") ◂ (v "a") ◂ nil)) ◂ (c "Tree" ((v "a") ◂ (v "a") ◂ (v "a") ◂ nil)) ◂ nil)) ◂ nil)) ◂ (c "Tree" ((c "Tree" ((c "Tree" ((v "a") ◂ (v "a") ◂ (v "a") ◂ nil)) ◂ (c "Tree" ((v "a") ◂ (v "a") ◂ (v "a") ◂ nil)) ◂ (c "Tree" ((v "a") ◂ (v "a") ◂ (v "a") ◂ nil)) ◂ nil)) ◂ (c "Tree" ((c "Tree" ((v "a") ◂ (v "a") ◂ (v "a") ◂ nil)) ◂ (c "Tree" ((v "a") ◂ (v "a") ◂ (v "a") ◂ nil)) ◂ (c "Tree" ((v "a") ◂ (v "a") ◂ (v "a") ◂ nil)) ◂ nil)) ◂ (c "Tree" ((c "Tree" ((v "a") ◂ (v "a") ◂ (v "a") ◂ nil)) ◂ (c "Tree" ((v "a") ◂ (v "a") ◂ (v "a") ◂ nil)) ◂ (c "Tree" ((v "a") ◂ (v "a") ◂ (v "a") ◂ nil)) ◂ nil)) ◂ nil)) ◂ nil)) ◂ nil)) ◂ nil)) ◂ (c "Tree" ((c "Tree" ((c "Tree" ((c "Tree" ((c "Tree" ((c "Tree" ((v "a") ◂ (v "a") ◂ (v "a") ◂ nil)) ◂ (c "Tree" ((v "a") ◂ (v "a") ◂ (v "a") ◂ nil)) ◂ (c "Tree" ((v "a") ◂ (v "a") ◂ (v "a") ◂ nil)) ◂ nil)) ◂ (c "Tree" ((c "Tree" ((v "a") ◂ (v "a") ◂ (v "a") ◂ nil)) ◂ (c "Tree" ((v "a") ◂ (v "a") ◂ (v "a") ◂ nil)) ◂ (c "Tree" ((v "a") ◂ (v "a") ◂ (v "a") ◂ nil)) ◂ nil)) ◂ (c "Tree" ((c "Tree" ((v "a") ◂ (v "a") ◂ (v "a") ◂ nil)) ◂ (c "Tree" ((v "a") ◂ (v "a") ◂ (v "a") ◂ nil)) ◂ (c "Tree" ((v "a") ◂ (v "a") ◂ (v "a") ◂ nil)) ◂ nil)) ◂ nil)) ◂ (c "Tree" ((c "Tree" ((c "Tree" ((v "a") ◂ (v "a") ◂ (v "a") ◂ nil)) ◂ (c "Tree" ((v "a") ◂ (v "a") ◂ (v "a") ◂ nil)) ◂ (c "Tree" ((v "a") ◂ (v "a") ◂ (v "a") ◂ nil)) ◂ nil)) ◂ (c "Tree" ((c "Tree" ((v "a") ◂ (v "a") ◂ (v "a") ◂ nil)) ◂ (c "Tree" ((v "a") ◂ (v "a") ◂ (v "a") ◂ nil)) ◂ (c "Tree" ((v "a") ◂ (v "a") ◂ (v "a") ◂ nil)) ◂ nil)) ◂ (c "Tree" ((c "Tree" ((v "a") ◂ (v "a") ◂ (v "a") ◂ nil)) ◂ (c "Tree" ((v "a") ◂ (v "a") ◂ (v "a") ◂ nil)) ◂ (c "Tree" ((v "a") ◂ (v "a") ◂ (v "a") ◂ nil)) ◂ nil)) ◂ nil)) ◂ (c "Tree" ((c "Tree" ((c "Tree" ((v "a") ◂ (v "a") ◂ (v "a") ◂ nil)) ◂ (c "Tree" ((v "a") ◂ (v "a") ◂ (v "a") ◂ nil)) ◂ (c "Tree" ((v "a") ◂ (v "a") ◂ (v "a") ◂ nil)) ◂ nil)) ◂ (c "Tree" ((c "Tree" ((v "a") ◂ (v "a") ◂ (v "a") ◂ nil)) ◂ (c "Tree" ((v "a") ◂ (v "a") ◂ (v "a") ◂ nil)) ◂ (c "Tree" ((v "a") ◂ (v "a") ◂ (v "a") ◂ nil)) ◂ nil)) ◂ (c "Tree" ((c "Tree" ((v "a") ◂ (v "a") ◂ (v "a") ◂ nil)) ◂ (c "Tree" ((v "a") ◂ (v "a") ◂ (v "a") ◂ nil)) ◂ (c "Tree" ((v "a") ◂ (v "a") ◂ (v "a") ◂ nil)) ◂ nil)) ◂ nil)) ◂ nil)) ◂ (c "Tree" ((c "Tree" ((c "Tree" ((c "Tree" ((v "a") ◂ (v "a") ◂ (v "a") ◂ nil)) ◂ (c "Tree" ((v "a") ◂ (v "a") ◂ (v "a") ◂ nil)) ◂ (c "Tree" ((v "a") ◂ (v "a") ◂ (v "a") ◂ nil)) ◂ nil)) ◂ (c "Tree" ((c "Tree" ((v "a") ◂ (v "a") ◂ (v "a") ◂ nil)) ◂ (c "Tree" ((v "a") ◂ (v "a") ◂ (v "a") ◂ nil)) ◂ (c "Tree" ((v "a") ◂ (v "a") ◂ (v "a") ◂ nil)) ◂ nil)) ◂ (c "Tree" ((c "Tree" ((v "a") ◂ (v "a") ◂ (v "a") ◂ nil)) ◂ (c "Tree" ((v "a") ◂ (v "a") ◂ (v "a") ◂ nil)) ◂ (c "Tree" ((v "a") ◂ (v "a") ◂ (v "a") ◂ nil)) ◂ nil)) ◂ nil)) ◂ (c "Tree" ((c "Tree" ((c "Tree" ((v "a") ◂ (v "a") ◂ (v "a") ◂ nil)) ◂ (c "Tree" ((v "a") ◂ (v "a") ◂ (v "a") ◂ nil)) ◂ (c "Tree" ((v "a") ◂ (v "a") ◂ (v "a") ◂ nil)) ◂ nil)) ◂ (c "Tree" ((c "Tree" ((v "a") ◂ (v "a") ◂ (v "a") ◂ nil)) ◂ (c "Tree" ((v "a") ◂ (v "a") ◂ (v "a") ◂ nil)) ◂ (c "Tree" ((v "a") ◂ (v "a") ◂ (v "a") ◂ nil)) ◂ nil)) ◂ (c "Tree" ((c "Tree" ((v "a") ◂ (v "a") ◂ (v "a") ◂ nil)) ◂ (c "Tree" ((v "a") ◂ (v "a") ◂ (v "a") ◂ nil)) ◂ (c "Tree" ((v "a") ◂ (v "a") ◂ (v "a") ◂ nil)) ◂ nil)) ◂ nil)) ◂ (c "Tree" ((c "Tree" ((c "Tree" ((v "a") ◂ (v "a") ◂ (v "a") ◂ nil)) ◂ (c "Tree" ((v "a") ◂ (v "a") ◂ (v "a") ◂ nil)) ◂ (c "Tree" ((v "a") ◂ (v "a") ◂ (v "a") ◂ nil)) ◂ nil)) ◂ (c "Tree" ((c "Tree" ((v "a") ◂ (v "a") ◂ (v "a") ◂ nil)) ◂ (c "Tree" ((v "a") ◂ (v "a") ◂ (v "a") ◂ nil)) ◂ (c "Tree" ((v "a") ◂ (v "a") ◂ (v "a") ◂ nil)) ◂ nil)) ◂ (c "Tree" ((c "Tree" ((v "a") ◂ (v "a") ◂ (v "a") ◂ nil)) ◂ (c "Tree" ((v "a") ◂ (v "a") ◂ (v "a") ◂ nil)) ◂ (c "Tree" ((v "a") ◂ (v "a") ◂ (v "a") ◂ nil)) ◂ nil)) ◂ nil)) ◂ nil)) ◂ (c "Tree" ((c "Tree" ((c "Tree" ((c "Tree" ((v "a") ◂ (v "a") ◂ (v "a") ◂ nil)) ◂ (c "Tree" ((v "a") ◂ (v "a") ◂ (v "a") ◂ nil)) ◂ (c "Tree" ((v "a") ◂ (v "a") ◂ (v "a") ◂ nil)) ◂ nil)) ◂ (c "Tree" ((c "Tree" ((v "a") ◂ (v "a") ◂ (v "a") ◂ nil)) ◂ (c "Tree" ((v "a") ◂ (v "a") ◂ (v "a") ◂ nil)) ◂ (c "Tree" ((v "a") ◂ (v "a") ◂ (v "a") ◂ nil)) ◂ nil)) ◂ (c "Tree" ((c "Tree" ((v "a") ◂ (v "a") ◂ (v "a") ◂ nil)) ◂ (c "Tree" ((v "a") ◂ (v "a") ◂ (v "a") ◂ nil)) ◂ (c "Tree" ((v "a") ◂ (v "a") ◂ (v "a") ◂ nil)) ◂ nil)) ◂ nil)) ◂ (c "Tree" ((c "Tree" ((c "Tree" ((v "a") ◂ (v "a") ◂ (v "a") ◂ nil)) ◂ (c "Tree" ((v "a") ◂ (v "a") ◂ (v "a") ◂ nil)) ◂ (c "Tree" ((v "a") ◂ (v "a") ◂ (v "a") ◂ nil)) ◂ nil)) ◂ (c "Tree" ((c "Tree" ((v "a") ◂ (v "a") ◂ (v "a") ◂ nil)) ◂ (c "Tree" ((v "a") ◂ (v "a") ◂ (v "a") ◂ nil)) ◂ (c "Tree" ((v "a") ◂ (v "a") ◂ (v "a") ◂ nil)) ◂ nil)) ◂ (c "Tree" ((c "Tree" ((v "a") ◂ (v "a") ◂ (v "a") ◂ nil)) ◂ (c "Tree" ((v "a") ◂ (v "a") ◂ (v "a") ◂ nil)) ◂ (c "Tree" ((v "a") ◂ (v "a") ◂ (v "a") ◂ nil)) ◂ nil)) ◂ nil)) ◂ (c "Tree" ((c "Tree" ((c "Tree" ((v "a") ◂ (v "a") ◂ (v "a") ◂ nil)) ◂ (c "Tree" ((v "a") ◂ (v "a") ◂ (v "a") ◂ nil)) ◂ (c "Tree" ((v "a") ◂ (v "a") ◂ (v "a") ◂ nil)) ◂ nil)) ◂ (c "Tree" ((c "Tree" ((v "a") ◂ (v "a") ◂ (v "a") ◂ nil)) ◂ (c "Tree" ((v "a") ◂ (v "a") ◂ (v "a") ◂ nil)) ◂ (c "Tree" ((v "a") ◂ (v "a") ◂ (v "a") ◂ nil)) ◂ nil)) ◂ (c "Tree" ((c "Tree" ((v "a") ◂ (v "a") ◂ (v "a") ◂ nil)) ◂ (c "Tree" ((v "a") ◂ (v "a") ◂ (v "a") ◂ nil)) ◂ (c "Tree" ((v "a") ◂ (v "a") ◂ (v "a") ◂ nil)) ◂ nil)) ◂ nil)) ◂ nil)) ◂ nil)) ◂ (c "Tree" ((c "Tree" ((c "Tree" ((c "Tree" ((c "Tree" ((v "a") ◂ (v "a") ◂ (v "a") ◂ nil)) ◂ (c "Tree" ((v "a") ◂ (v "a") ◂ (v "a") ◂ nil)) ◂ (c "Tree" ((v "a") ◂ (v "a") ◂ (v "a") ◂ nil)) ◂ nil)) ◂ (c "Tree" ((c "Tree" ((v "a") ◂ (v "a") ◂ (v "a") ◂ nil)) ◂ (c "Tree" ((v "a") ◂ (v "a") ◂ (v "a") ◂ nil)) ◂ (c "Tree" ((v "a") ◂ (v "a") ◂ (v "a") ◂ nil)) ◂ nil)) ◂ (c "Tree" ((c "Tree" ((v "a") ◂ (v "a") ◂ (v "a") ◂ nil)) ◂ (c "Tree" ((v "a") ◂ (v "a") ◂ (v "a") ◂ nil)) ◂ (c "Tree" ((v "a") ◂ (v "a") ◂ (v "a") ◂ nil)) ◂ nil)) ◂ nil)) ◂ (c "Tree" ((c "Tree" ((c "Tree" ((v "a") ◂ (v "a") ◂ (v "a") ◂ nil)) ◂ (c "Tree" ((v "a") ◂ (v "a") ◂ (v "a") ◂ nil)) ◂ (c "Tree" ((v "a") ◂ (v "a") ◂ (v "a") ◂ nil)) ◂ nil)) ◂ (c "Tree" ((c "Tree" ((v "a") ◂ (v "a") ◂ (v "a") ◂ nil)) ◂ (c "Tree" ((v "a") ◂ (v "a") ◂ (v "a") ◂ nil)) ◂ (c "Tree" ((v "a") ◂ (v "a") ◂ (v "a") ◂ nil)) ◂ nil)) ◂ (c "Tree" ((c "Tree" ((v "a") ◂ (v "a") ◂ (v "a") ◂ nil)) ◂ (c "Tree" ((v "a") ◂ (v "a") ◂ (v "a") ◂ nil)) ◂ (c "Tree" ((v "a") ◂ (v "a") ◂ (v "a") ◂ nil)) ◂ nil)) ◂ nil)) ◂ (c "Tree" ((c "Tree" ((c "Tree" ((v "a") ◂ (v "a") ◂ (v "a") ◂ nil)) ◂ (c "Tree" ((v "a") ◂ (v "a") ◂ (v "a") ◂ nil)) ◂ (c "Tree" ((v "a") ◂ (v "a") ◂ (v "a") ◂ nil)) ◂ nil)) ◂ (c "Tree" ((c "Tree" ((v "a") ◂ (v "a") ◂ (v "a") ◂ nil)) ◂ (c "Tree" ((v "a") ◂ (v "a") ◂ (v "a") ◂ nil)) ◂ (c "Tree" ((v "a") ◂ (v "a") ◂ (v "a") ◂ nil)) ◂ nil)) ◂ (c "Tree" ((c "Tree" ((v "a") ◂ (v "a") ◂ (v "a") ◂ nil)) ◂ (c "Tree" ((v "a") ◂ (v "a") ◂ (v "a") ◂ nil)) ◂ (c "Tree" ((v "a") ◂ (v "a") ◂ (v "a") ◂ nil)) ◂ nil)) ◂ nil)) ◂ nil)) ◂ (c "Tree" ((c "Tree" ((c "Tree" ((c "Tree" ((v "a") ◂ (v "a") ◂ (v "a") ◂ nil)) ◂ (c "Tree" ((v "a") ◂ (v "a") ◂ (v "a") ◂ nil)) ◂ (c "Tree" ((v "a") ◂ (v "a") ◂ (v "a") ◂ nil)) ◂ nil)) ◂ (c "Tree" ((c "Tree" ((v "a") ◂ (v "a") ◂ (v "a") ◂ nil)) ◂ (c "Tree" ((v "a") ◂ (v "a") ◂ (v "a") ◂ nil)) ◂ (c "Tree" ((v "a") ◂ (v "a") ◂ (v "a") ◂ nil)) ◂ nil)) ◂ (c "Tree" ((c "Tree" ((v "a") ◂ (v "a") ◂ (v "a") ◂ nil)) ◂ (c "Tree" ((v "a") ◂ (v "a") ◂ (v "a") ◂ nil)) ◂ (c "Tree" ((v "a") ◂ (v "a") ◂ (v "a") ◂ nil)) ◂ nil)) ◂ nil)) ◂ (c "Tree" ((c "Tree" ((c "Tree" ((v "a") ◂ (v "a") ◂ (v "a") ◂ nil)) ◂ (c "Tree" ((v "a") ◂ (v "a") ◂ (v "a") ◂ nil)) ◂ (c "Tree" ((v "a") ◂ (v "a") ◂ (v "a") ◂ nil)) ◂ nil)) ◂ (c "Tree" ((c "Tree" ((v "a") ◂ (v "a") ◂ (v "a") ◂ nil)) ◂ (c "Tree" ((v "a") ◂ (v "a") ◂ (v "a") ◂ nil)) ◂ (c "Tree" ((v "a") ◂ (v "a") ◂ (v "a") ◂ nil)) ◂ nil)) ◂ (c "Tree" ((c "Tree" ((v "a") ◂ (v "a") ◂ (v "a") ◂ nil)) ◂ (c "Tree" ((v "a") ◂ (v "a") ◂ (v "a") ◂ nil)) ◂ (c "Tree" ((v "a") ◂ (v "a") ◂ (v "a") ◂ nil)) ◂ nil)) ◂ nil)) ◂ (c "Tree" ((c "Tree" ((c "Tree" ((v "a") ◂ (v "a") ◂ (v "a") ◂ nil)) ◂ (c "Tree" ((v "a") ◂ (v "a") ◂ (v "a") ◂ nil)) ◂ (c "Tree" ((v "a") ◂ (v "a") ◂ (v "a") ◂ nil)) ◂ nil)) ◂ (c "Tree" ((c "Tree" ((v "a") ◂ (v "a") ◂ (v "a") ◂ nil)) ◂ (c "Tree" ((v "a") ◂ (v "a") ◂ (v "a") ◂ nil)) ◂ (c "Tree" ((v "a") ◂ (v "a") ◂ (v "a") ◂ nil)) ◂ nil)) ◂ (c "Tree" ((c "Tree" ((v "a") ◂ (v "a") ◂ (v "a") ◂ nil)) ◂ (c "Tree" ((v "a") ◂ (v "a") ◂ (v "a") ◂ nil)) ◂ (c "Tree" ((v "a") ◂ (v "a") ◂ (v "a") ◂ nil)) ◂ nil)) ◂ nil)) ◂ nil)) ◂ (c "Tree" ((c "Tree" ((c "Tree" ((c "Tree" ((v "a") ◂ (v "a") ◂ (v "a") ◂ nil)) ◂ (c "Tree" ((v "a") ◂ (v "a") ◂ (v "a") ◂ nil)) ◂ (c "Tree" ((v "a") ◂ (v "a") ◂ (v "a") ◂ nil)) ◂ nil)) ◂ (c "Tree" ((c "Tree" ((v "a") ◂ (v "a") ◂ (v "a") ◂ nil)) ◂ (c "Tree" ((v "a") ◂ (v "a") ◂ (v "a") ◂ nil)) ◂ (c "Tree" ((v "a") ◂ (v "a") ◂ (v "a") ◂ nil)) ◂ nil)) ◂ (c "Tree" ((c "Tree" ((v "a") ◂ (v "a") ◂ (v "a") ◂ nil)) ◂ (c "Tree" ((v "a") ◂ (v "a") ◂ (v "a") ◂ nil)) ◂ (c "Tree" ((v "a") ◂ (v "a") ◂ (v "a") ◂ nil)) ◂ nil)) ◂ nil)) ◂ (c "Tree" ((c "Tree" ((c "Tree" ((v "a") ◂ (v "a") ◂ (v "a") ◂ nil)) ◂ (c "Tree" ((v "a") ◂ (v "a") ◂ (v "a") ◂ nil)) ◂ (c "Tree" ((v "a") ◂ (v "a") ◂ (v "a") ◂ nil)) ◂ nil)) ◂ (c "Tree" ((c "Tree" ((v "a") ◂ (v "a") ◂ (v "a") ◂ nil)) ◂ (c "Tree" ((v "a") ◂ (v "a") ◂ (v "a") ◂ nil)) ◂ (c "Tree" ((v "a") ◂ (v "a") ◂ (v "a") ◂ nil)) ◂ nil)) ◂ (c "Tree" ((c "Tree" ((v "a") ◂ (v "a") ◂ (v "a") ◂ nil)) ◂ (c "Tree" ((v "a") ◂ (v "a") ◂ (v "a") ◂ nil)) ◂ (c "Tree" ((v "a") ◂ (v "a") ◂ (v "a") ◂ nil)) ◂ nil)) ◂ nil)) ◂ (c "Tree" ((c "Tree" ((c "Tree" ((v "a") ◂ (v "a") ◂ (v "a") ◂ nil)) ◂ (c "Tree" ((v "a") ◂ (v "a") ◂ (v "a") ◂ nil)) ◂ (c "Tree" ((v "a") ◂ (v "a") ◂ (v "a") ◂ nil)) ◂ nil)) ◂ (c "Tree" ((c "Tree" ((v "a") ◂ (v "a") ◂ (v "a") ◂ nil)) ◂ (c "Tree" ((v "a") ◂ (v "a") ◂ (v "a") ◂ nil)) ◂ (c "Tree" ((v "a") ◂ (v "a") ◂ (v "a") ◂ nil)) ◂ nil)) ◂ (c "Tree" ((c "Tree" ((v "a") ◂ (v "a") ◂ (v "a") ◂ nil)) ◂ (c "Tree" ((v "a") ◂ (v "a") ◂ (v "a") ◂ nil)) ◂ (c "Tree" ((v "a") ◂ (v "a") ◂ (v "a") ◂ nil)) ◂ nil)) ◂ nil)) ◂ nil)) ◂ nil)) ◂ (c "Tree" ((c "Tree" ((c "Tree" ((c "Tree" ((c "Tree" ((v "a") ◂ (v "a") ◂ (v "a") ◂ nil)) ◂ (c "Tree" ((v "a") ◂ (v "a") ◂ (v "a") ◂ nil)) ◂ (c "Tree" ((v "a") ◂ (v "a") ◂ (v "a") ◂ nil)) ◂ nil)) ◂ (c "Tree" ((c "Tree" ((v "a") ◂ (v "a") ◂ (v "a") ◂ nil)) ◂ (c "Tree" ((v "a") ◂ (v "a") ◂ (v "a") ◂ nil)) ◂ (c "Tree" ((v "a") ◂ (v "a") ◂ (v "a") ◂ nil)) ◂ nil)) ◂ (c "Tree" ((c "Tree" ((v "a") ◂ (v "a") ◂ (v "a") ◂ nil)) ◂ (c "Tree" ((v "a") ◂ (v "a") ◂ (v "a") ◂ nil)) ◂ (c "Tree" ((v "a") ◂ (v "a") ◂ (v "a") ◂ nil)) ◂ nil)) ◂ nil)) ◂ (c "Tree" ((c "Tree" ((c "Tree" ((v "a") ◂ (v "a") ◂ (v "a") ◂ nil)) ◂ (c "Tree" ((v "a") ◂ (v "a") ◂ (v "a") ◂ nil)) ◂ (c "Tree" ((v "a") ◂ (v "a") ◂ (v "a") ◂ nil)) ◂ nil)) ◂ (c "Tree" ((c "Tree" ((v "a") ◂ (v "a") ◂ (v "a") ◂ nil)) ◂ (c "Tree" ((v "a") ◂ (v "a") ◂ (v "a") ◂ nil)) ◂ (c "Tree" ((v "a") ◂ (v "a") ◂ (v "a") ◂ nil)) ◂ nil)) ◂ (c "Tree" ((c "Tree" ((v "a") ◂ (v "a") ◂ (v "a") ◂ nil)) ◂ (c "Tree" ((v "a") ◂ (v "a") ◂ (v "a") ◂ nil)) ◂ (c "Tree" ((v "a") ◂ (v "a") ◂ (v "a") ◂ nil)) ◂ nil)) ◂ nil)) ◂ (c "Tree" ((c "Tree" ((c "Tree" ((v "a") ◂ (v "a") ◂ (v "a") ◂ nil)) ◂ (c "Tree" ((v "a") ◂ (v "a") ◂ (v "a") ◂ nil)) ◂ (c "Tree" ((v "a") ◂ (v "a") ◂ (v "a") ◂ nil)) ◂ nil)) ◂ (c "Tree" ((c "Tree" ((v "a") ◂ (v "a") ◂ (v "a") ◂ nil)) ◂ (c "Tree" ((v "a") ◂ (v "a") ◂ (v "a") ◂ nil)) ◂ (c "Tree" ((v "a") ◂ (v "a") ◂ (v "a") ◂ nil)) ◂ nil)) ◂ (c "Tree" ((c "Tree" ((v "a") ◂ (v "a") ◂ (v "a") ◂ nil)) ◂ (c "Tree" ((v "a") ◂ (v "a") ◂ (v "a") ◂ nil)) ◂ (c "Tree" ((v "a") ◂ (v "a") ◂ (v "a") ◂ nil)) ◂ nil)) ◂ nil)) ◂ nil)) ◂ (c "Tree" ((c "Tree" ((c "Tree" ((c "Tree" ((v "a") ◂ (v "a") ◂ (v "a") ◂ nil)) ◂ (c "Tree" ((v "a") ◂ (v "a") ◂ (v "a") ◂ nil)) ◂ (c "Tree" ((v "a") ◂ (v "a") ◂ (v "a") ◂ nil)) ◂ nil)) ◂ (c "Tree" ((c "Tree" ((v "a") ◂ (v "a") ◂ (v "a") ◂ nil)) ◂ (c "Tree" ((v "a") ◂ (v "a") ◂ (v "a") ◂ nil)) ◂ (c "Tree" ((v "a") ◂ (v "a") ◂ (v "a") ◂ nil)) ◂ nil)) ◂ (c "Tree" ((c "Tree" ((v "a") ◂ (v "a") ◂ (v "a") ◂ nil)) ◂ (c "Tree" ((v "a") ◂ (v "a") ◂ (v "a") ◂ nil)) ◂ (c "Tree" ((v "a") ◂ (v "a") ◂ (v "a") ◂ nil)) ◂ nil)) ◂ nil)) ◂ (c "Tree" ((c "Tree" ((c "Tree" ((v "a") ◂ (v "a") ◂ (v "a") ◂ nil)) ◂ (c "Tree" ((v "a") ◂ (v "a") ◂ (v "a") ◂ nil)) ◂ (c "Tree" ((v "a") ◂ (v "a") ◂ (v "a") ◂ nil)) ◂ nil)) ◂ (c "Tree" ((c "Tree" ((v "a") ◂ (v "a") ◂ (v "a") ◂ nil)) ◂ (c "Tree" ((v "a") ◂ (v "a") ◂ (v "a") ◂ nil)) ◂ (c "Tree" ((v "a") ◂ (v "a") ◂ (v "a") ◂ nil)) ◂ nil)) ◂ (c "Tree" ((c "Tree" ((v "a") ◂ (v "a") ◂ (v "a") ◂ nil)) ◂ (c "Tree" ((v "a") ◂ (v "a") ◂ (v "a") ◂ nil)) ◂ (c "Tree" ((v "a") ◂ (v "a") ◂ (v "a") ◂ nil)) ◂ nil)) ◂ nil)) ◂ (c "Tree" ((c "Tree" ((c "Tree" ((v "a") ◂ (v "a") ◂ (v "a") ◂ nil)) ◂ (c "Tree" ((v "a") ◂ (v "a") ◂ (v "a") ◂ nil)) ◂ (c "Tree" ((v "a") ◂ (v "a") ◂ (v "a") ◂ nil)) ◂ nil)) ◂ (c "Tree" ((c "Tree" ((v "a") ◂ (v "a") ◂ (v "a") ◂ nil)) ◂ (c "Tree" ((v "a") ◂ (v "a") ◂ (v "a") ◂ nil)) ◂ (c "Tree" ((v "a") ◂ (v "a") ◂ (v "a") ◂ nil)) ◂ nil)) ◂ (c "Tree" ((c "Tree" ((v "a") ◂ (v "a") ◂ (v "a") ◂ nil)) ◂ (c "Tree" ((v "a") ◂ (v "a") ◂ (v "a") ◂ nil)) ◂ (c "Tree" ((v "a") ◂ (v "a") ◂ (v "a") ◂ nil)) ◂ nil)) ◂ nil)) ◂ nil)) ◂ (c "Tree" ((c "Tree" ((c "Tree" ((c "Tree" ((v "a") ◂ (v "a") ◂ (v "a") ◂ nil)) ◂ (c "Tree" ((v "a") ◂ (v "a") ◂ (v "a") ◂ nil)) ◂ (c "Tree" ((v "a") ◂ (v "a") ◂ (v "a") ◂ nil)) ◂ nil)) ◂ (c "Tree" ((c "Tree" ((v "a") ◂ (v "a") ◂ (v "a") ◂ nil)) ◂ (c "Tree" ((v "a") ◂ (v "a") ◂ (v "a") ◂ nil)) ◂ (c "Tree" ((v "a") ◂ (v "a") ◂ (v "a") ◂ nil)) ◂ nil)) ◂ (c "Tree" ((c "Tree" ((v "a") ◂ (v "a") ◂ (v "a") ◂ nil)) ◂ (c "Tree" ((v "a") ◂ (v "a") ◂ (v "a") ◂ nil)) ◂ (c "Tree" ((v "a") ◂ (v "a") ◂ (v "a") ◂ nil)) ◂ nil)) ◂ nil)) ◂ (c "Tree" ((c "Tree" ((c "Tree" ((v "a") ◂ (v "a") ◂ (v "a") ◂ nil)) ◂ (c "Tree" ((v "a") ◂ (v "a") ◂ (v "a") ◂ nil)) ◂ (c "Tree" ((v "a") ◂ (v "a") ◂ (v "a") ◂ nil)) ◂ nil)) ◂ (c "Tree" ((c "Tree" ((v "a") ◂ (v "a") ◂ (v "a") ◂ nil)) ◂ (c "Tree" ((v "a") ◂ (v "a") ◂ (v "a") ◂ nil)) ◂ (c "Tree" ((v "a") ◂ (v "a") ◂ (v "a") ◂ nil)) ◂ nil)) ◂ (c "Tree" ((c "Tree" ((v "a") ◂ (v "a") ◂ (v "a") ◂ nil)) ◂ (c "Tree" ((v "a") ◂ (v "a") ◂ (v "a") ◂ nil)) ◂ (c "Tree" ((v "a") ◂ (v "a") ◂ (v "a") ◂ nil)) ◂ nil)) ◂ nil)) ◂ (c "Tree" ((c "Tree" ((c "Tree" ((v "a") ◂ (v "a") ◂ (v "a") ◂ nil)) ◂ (c "Tree" ((v "a") ◂ (v "a") ◂ (v "a") ◂ nil)) ◂ (c "Tree" ((v "a") ◂ (v "a") ◂ (v "a") ◂ nil)) ◂ nil)) ◂ (c "Tree" ((c "Tree" ((v "a") ◂ (v "a") ◂ (v "a") ◂ nil)) ◂ (c "Tree" ((v "a") ◂ (v "a") ◂ (v "a") ◂ nil)) ◂ (c "Tree" ((v "a") ◂ (v "a") ◂ (v "a") ◂ nil)) ◂ nil)) ◂ (c "Tree" ((c "Tree" ((v "a") ◂ (v "a") ◂ (v "a") ◂ nil)) ◂ (c "Tree" ((v "a") ◂ (v "a") ◂ (v "a") ◂ nil)) ◂ (c "Tree" ((v "a") ◂ (v "a") ◂ (v "a") ◂ nil)) ◂ nil)) ◂ nil)) ◂ nil)) ◂ nil)) ◂ nil)) ◂ (c "Tree" ((c "Tree" ((c "Tree" ((c "Tree" ((c "Tree" ((c "Tree" ((v "a") ◂ (v "a") ◂ (v "a") ◂ nil)) ◂ (c "Tree" ((v "a") ◂ (v "a") ◂ (v "a") ◂ nil)) ◂ (c "Tree" ((v "a") ◂ (v "a") ◂ (v "a") ◂ nil)) ◂ nil)) ◂ (c "Tree" ((c "Tree" ((v "a") ◂ (v "a") ◂ (v "a") ◂ nil)) ◂ (c "Tree" ((v "a") ◂ (v "a") ◂ (v "a") ◂ nil)) ◂ (c "Tree" ((v "a") ◂ (v "a") ◂ (v "a") ◂ nil)) ◂ nil)) ◂ (c "Tree" ((c "Tree" ((v "a") ◂ (v "a") ◂ (v "a") ◂ nil)) ◂ (c "Tree" ((v "a") ◂ (v "a") ◂ (v "a") ◂ nil)) ◂ (c "Tree" ((v "a") ◂ (v "a") ◂ (v "a") ◂ nil)) ◂ nil)) ◂ nil)) ◂ (c "Tree" ((c "Tree" ((c "Tree" ((v "a") ◂ (v "a") ◂ (v "a") ◂ nil)) ◂ (c "Tree" ((v "a") ◂ (v "a") ◂ (v "a") ◂ nil)) ◂ (c "Tree" ((v "a") ◂ (v "a") ◂ (v "a") ◂ nil)) ◂ nil)) ◂ (c "Tree" ((c "Tree" ((v "a") ◂ (v "a") ◂ (v "a") ◂ nil)) ◂ (c "Tree" ((v "a") ◂ (v "a") ◂ (v "a") ◂ nil)) ◂ (c "Tree" ((v "a") ◂ (v "a") ◂ (v "a") ◂ nil)) ◂ nil)) ◂ (c "Tree" ((c "Tree" ((v "a") ◂ (v "a") ◂ (v "a") ◂ nil)) ◂ (c "Tree" ((v "a") ◂ (v "a") ◂ (v "a") ◂ nil)) ◂ (c "Tree" ((v "a") ◂ (v "a") ◂ (v "a") ◂ nil)) ◂ nil)) ◂ nil)) ◂ (c "Tree" ((c "Tree" ((c "Tree" ((v "a") ◂ (v "a") ◂ (v "a") ◂ nil)) ◂ (c "Tree" ((v "a") ◂ (v "a") ◂ (v "a") ◂ nil)) ◂ (c "Tree" ((v "a") ◂ (v "a") ◂ (v "a") ◂ nil)) ◂ nil)) ◂ (c "Tree" ((c "Tree" ((v "a") ◂ (v "a") ◂ (v "a") ◂ nil)) ◂ (c "Tree" ((v "a") ◂ (v "a") ◂ (v "a") ◂ nil)) ◂ (c "Tree" ((v "a") ◂ (v "a") ◂ (v "a") ◂ nil)) ◂ nil)) ◂ (c "Tree" ((c "Tree" ((v "a") ◂ (v "a") ◂ (v "a") ◂ nil)) ◂ (c "Tree" ((v "a") ◂ (v "a") ◂ (v "a") ◂ nil)) ◂ (c "Tree" ((v "a") ◂ (v "a") ◂ (v "a") ◂ nil)) ◂ nil)) ◂ nil)) ◂ nil)) ◂ (c "Tree" ((c "Tree" ((c "Tree" ((c "Tree" ((v "a") ◂ (v "a") ◂ (v "a") ◂ nil)) ◂ (c "Tree" ((v "a") ◂ (v "a") ◂ (v "a") ◂ nil)) ◂ (c "Tree" ((v "a") ◂ (v "a") ◂ (v "a") ◂ nil)) ◂ nil)) ◂ (c "Tree" ((c "Tree" ((v "a") ◂ (v "a") ◂ (v "a") ◂ nil)) ◂ (c "Tree" ((v "a") ◂ (v "a") ◂ (v "a") ◂ nil)) ◂ (c "Tree" ((v "a") ◂ (v "a") ◂ (v "a") ◂ nil)) ◂ nil)) ◂ (c "Tree" ((c "Tree" ((v "a") ◂ (v "a") ◂ (v "a") ◂ nil)) ◂ (c "Tree" ((v "a") ◂ (v "a") ◂ (v "a") ◂ nil)) ◂ (c "Tree" ((v "a") ◂ (v "a") ◂ (v "a") ◂ nil)) ◂ nil)) ◂ nil)) ◂ (c "Tree" ((c "Tree" ((c "Tree" ((v "a") ◂ (v "a") ◂ (v "a") ◂ nil)) ◂ (c "Tree" ((v "a") ◂ (v "a") ◂ (v "a") ◂ nil)) ◂ (c "Tree" ((v "a") ◂ (v "a") ◂ (v "a") ◂ nil)) ◂ nil)) ◂ (c "Tree" ((c "Tree" ((v "a") ◂ (v "a") ◂ (v "a") ◂ nil)) ◂ (c "Tree" ((v "a") ◂ (v "a") ◂ (v "a") ◂ nil)) ◂ (c "Tree" ((v "a") ◂ (v "a") ◂ (v "a") ◂ nil)) ◂ nil)) ◂ (c "Tree" ((c "Tree" ((v "a") ◂ (v "a") ◂ (v "a") ◂ nil)) ◂ (c "Tree" ((v "a") ◂ (v "a") ◂ (v "a") ◂ nil)) ◂ (c "Tree" ((v "a") ◂ (v "a") ◂ (v "a") ◂ nil)) ◂ nil)) ◂ nil)) ◂ (c "Tree" ((c "Tree" ((c "Tree" ((v "a") ◂ (v "a") ◂ (v "a") ◂ nil)) ◂ (c "Tree" ((v "a") ◂ (v "a") ◂ (v "a") ◂ nil)) ◂ (c "Tree" ((v "a") ◂ (v "a") ◂ (v "a") ◂ nil)) ◂ nil)) ◂ (c "Tree" ((c "Tree" ((v "a") ◂ (v "a") ◂ (v "a") ◂ nil)) ◂ (c "Tree" ((v "a") ◂ (v "a") ◂ (v "a") ◂ nil)) ◂ (c "Tree" ((v "a") ◂ (v "a") ◂ (v "a") ◂ nil)) ◂ nil)) ◂ (c "Tree" ((c "Tree" ((v "a") ◂ (v "a") ◂ (v "a") ◂ nil)) ◂ (c "Tree" ((v "a") ◂ (v "a") ◂ (v "a") ◂ nil)) ◂ (c "Tree" ((v "a") ◂ (v "a") ◂ (v "a") ◂ nil)) ◂ nil)) ◂ nil)) ◂ nil)) ◂ (c "Tree" ((c "Tree" ((c "Tree" ((c "Tree" ((v "a") ◂ (v "a") ◂ (v "a") ◂ nil)) ◂ (c "Tree" ((v "a") ◂ (v "a") ◂ (v "a") ◂ nil)) ◂ (c "Tree" ((v "a") ◂ (v "a") ◂ (v "a") ◂ nil)) ◂ nil)) ◂ (c "Tree" ((c "Tree" ((v "a") ◂ (v "a") ◂ (v "a") ◂ nil)) ◂ (c "Tree" ((v "a") ◂ (v "a") ◂ (v "a") ◂ nil)) ◂ (c "Tree" ((v "a") ◂ (v "a") ◂ (v "a") ◂ nil)) ◂ nil)) ◂ (c "Tree" ((c "Tree" ((v "a") ◂ (v "a") ◂ (v "a") ◂ nil)) ◂ (c "Tree" ((v "a") ◂ (v "a") ◂ (v "a") ◂ nil)) ◂ (c "Tree" ((v "a") ◂ (v "a") ◂ (v "a") ◂ nil)) ◂ nil)) ◂ nil)) ◂ (c "Tree" ((c "Tree" ((c "Tree" ((v "a") ◂ (v "a") ◂ (v "a") ◂ nil)) ◂ (c "Tree" ((v "a") ◂ (v "a") ◂ (v "a") ◂ nil)) ◂ (c "Tree" ((v "a") ◂ (v "a") ◂ (v "a") ◂ nil)) ◂ nil)) ◂ (c "Tree" ((c "Tree" ((v "a") ◂ (v "a") ◂ (v "a") ◂ nil)) ◂ (c "Tree" ((v "a") ◂ (v "a") ◂ (v "a") ◂ nil)) ◂ (c "Tree" ((v "a") ◂ (v "a") ◂ (v "a") ◂ nil)) ◂ nil)) ◂ (c "Tree" ((c "Tree" ((v "a") ◂ (v "a") ◂ (v "a") ◂ nil)) ◂ (c "Tree" ((v "a") ◂ (v "a") ◂ (v "a") ◂ nil)) ◂ (c "Tree" ((v "a") ◂ (v "a") ◂ (v "a") ◂ nil)) ◂ nil)) ◂ nil)) ◂ (c "Tree" ((c "Tree" ((c "Tree" ((v "a") ◂ (v "a") ◂ (v "a") ◂ nil)) ◂ (c "Tree" ((v "a") ◂ (v "a") ◂ (v "a") ◂ nil)) ◂ (c "Tree" ((v "a") ◂ (v "a") ◂ (v "a") ◂ nil)) ◂ nil)) ◂ (c "Tree" ((c "Tree" ((v "a") ◂ (v "a") ◂ (v "a") ◂ nil)) ◂ (c "Tree" ((v "a") ◂ (v "a") ◂ (v "a") ◂ nil)) ◂ (c "Tree" ((v "a") ◂ (v "a") ◂ (v "a") ◂ nil)) ◂ nil)) ◂ (c "Tree" ((c "Tree" ((v "a") ◂ (v "a") ◂ (v "a") ◂ nil)) ◂ (c "Tree" ((v "a") ◂ (v "a") ◂ (v "a") ◂ nil)) ◂ (c "Tree" ((v "a") ◂ (v "a") ◂ (v "a") ◂ nil)) ◂ nil)) ◂ nil)) ◂ nil)) ◂ nil)) ◂ (c "Tree" ((c "Tree" ((c "Tree" ((c "Tree" ((c "Tree" ((v "a") ◂ (v "a") ◂ (v "a") ◂ nil)) ◂ (c "Tree" ((v "a") ◂ (v "a") ◂ (v "a") ◂ nil)) ◂ (c "Tree" ((v "a") ◂ (v "a") ◂ (v "a") ◂ nil)) ◂ nil)) ◂ (c "Tree" ((c "Tree" ((v "a") ◂ (v "a") ◂ (v "a") ◂ nil)) ◂ (c "Tree" ((v "a") ◂ (v "a") ◂ (v "a") ◂ nil)) ◂ (c "Tree" ((v "a") ◂ (v "a") ◂ (v "a") ◂ nil)) ◂ nil)) ◂ (c "Tree" ((c "Tree" ((v "a") ◂ (v "a") ◂ (v "a") ◂ nil)) ◂ (c "Tree" ((v "a") ◂ (v "a") ◂ (v "a") ◂ nil)) ◂ (c "Tree" ((v "a") ◂ (v "a") ◂ (v "a") ◂ nil)) ◂ nil)) ◂ nil)) ◂ (c "Tree" ((c "Tree" ((c "Tree" ((v "a") ◂ (v "a") ◂ (v "a") ◂ nil)) ◂ (c "Tree" ((v "a") ◂ (v "a") ◂ (v "a") ◂ nil)) ◂ (c "Tree" ((v "a") ◂ (v "a") ◂ (v "a") ◂ nil)) ◂ nil)) ◂ (c "Tree" ((c "Tree" ((v "a") ◂ (v "a") ◂ (v "a") ◂ nil)) ◂ (c "Tree" ((v "a") ◂ (v "a") ◂ (v "a") ◂ nil)) ◂ (c "Tree" ((v "a") ◂ (v "a") ◂ (v "a") ◂ nil)) ◂ nil)) ◂ (c "Tree" ((c "Tree" ((v "a") ◂ (v "a") ◂ (v "a") ◂ nil)) ◂ (c "Tree" ((v "a") ◂ (v "a") ◂ (v "a") ◂ nil)) ◂ (c "Tree" ((v "a") ◂ (v "a") ◂ (v "a") ◂ nil)) ◂ nil)) ◂ nil)) ◂ (c "Tree" ((c "Tree" ((c "Tree" ((v "a") ◂ (v "a") ◂ (v "a") ◂ nil)) ◂ (c "Tree" ((v "a") ◂ (v "a") ◂ (v "a") ◂ nil)) ◂ (c "Tree" ((v "a") ◂ (v "a") ◂ (v "a") ◂ nil)) ◂ nil)) ◂ (c "Tree" ((c "Tree" ((v "a") ◂ (v "a") ◂ (v "a") ◂ nil)) ◂ (c "Tree" ((v "a") ◂ (v "a") ◂ (v "a") ◂ nil)) ◂ (c "Tree" ((v "a") ◂ (v "a") ◂ (v "a") ◂ nil)) ◂ nil)) ◂ (c "Tree" ((c "Tree" ((v "a") ◂ (v "a") ◂ (v "a") ◂ nil)) ◂ (c "Tree" ((v "a") ◂ (v "a") ◂ (v "a") ◂ nil)) ◂ (c "Tree" ((v "a") ◂ (v "a") ◂ (v "a") ◂ nil)) ◂ nil)) ◂ nil)) ◂ nil)) ◂ (c "Tree" ((c "Tree" ((c "Tree" ((c "Tree" ((v "a") ◂ (v "a") ◂ (v "a") ◂ nil)) ◂ (c "Tree" ((v "a") ◂ (v "a") ◂ (v "a") ◂ nil)) ◂ (c "Tree" ((v "a") ◂ (v "a") ◂ (v "a") ◂ nil)) ◂ nil)) ◂ (c "Tree" ((c "Tree" ((v "a") ◂ (v "a") ◂ (v "a") ◂ nil)) ◂ (c "Tree" ((v "a") ◂ (v "a") ◂ (v "a") ◂ nil)) ◂ (c "Tree" ((v "a") ◂ (v "a") ◂ (v "a") ◂ nil)) ◂ nil)) ◂ (c "Tree" ((c "Tree" ((v "a") ◂ (v "a") ◂ (v "a") ◂ nil)) ◂ (c "Tree" ((v "a") ◂ (v "a") ◂ (v "a") ◂ nil)) ◂ (c "Tree" ((v "a") ◂ (v "a") ◂ (v "a") ◂ nil)) ◂ nil)) ◂ nil)) ◂ (c "Tree" ((c "Tree" ((c "Tree" ((v "a") ◂ (v "a") ◂ (v "a") ◂ nil)) ◂ (c "Tree" ((v "a") ◂ (v "a") ◂ (v "a") ◂ nil)) ◂ (c "Tree" ((v "a") ◂ (v "a") ◂ (v "a") ◂ nil)) ◂ nil)) ◂ (c "Tree" ((c "Tree" ((v "a") ◂ (v "a") ◂ (v "a") ◂ nil)) ◂ (c "Tree" ((v "a") ◂ (v "a") ◂ (v "a") ◂ nil)) ◂ (c "Tree" ((v "a") ◂ (v "a") ◂ (v "a") ◂ nil)) ◂ nil)) ◂ (c "Tree" ((c "Tree" ((v "a") ◂ (v "a") ◂ (v "a") ◂ nil)) ◂ (c "Tree" ((v "a") ◂ (v "a") ◂ (v "a") ◂ nil)) ◂ (c "Tree" ((v "a") ◂ (v "a") ◂ (v "a") ◂ nil)) ◂ nil)) ◂ nil)) ◂ (c "Tree" ((c "Tree" ((c "Tree" ((v "a") ◂ (v "a") ◂ (v "a") ◂ nil)) ◂ (c "Tree" ((v "a") ◂ (v "a") ◂ (v "a") ◂ nil)) ◂ (c "Tree" ((v "a") ◂ (v "a") ◂ (v "a") ◂ nil)) ◂ nil)) ◂ (c "Tree" ((c "Tree" ((v "a") ◂ (v "a") ◂ (v "a") ◂ nil)) ◂ (c "Tree" ((v "a") ◂ (v "a") ◂ (v "a") ◂ nil)) ◂ (c "Tree" ((v "a") ◂ (v "a") ◂ (v "a") ◂ nil)) ◂ nil)) ◂ (c "Tree" ((c "Tree" ((v "a") ◂ (v "a") ◂ (v "a") ◂ nil)) ◂ (c "Tree" ((v "a") ◂ (v "a") ◂ (v "a") ◂ nil)) ◂ (c "Tree" ((v "a") ◂ (v "a") ◂ (v "a") ◂ nil)) ◂ nil)) ◂ nil)) ◂ nil)) ◂ (c "Tree" ((c "Tree" ((c "Tree" ((c "Tree" ((v "a") ◂ (v "a") ◂ (v "a") ◂ nil)) ◂ (c "Tree" ((v "a") ◂ (v "a") ◂ (v "a") ◂ nil)) ◂ (c "Tree" ((v "a") ◂ (v "a") ◂ (v "a") ◂ nil)) ◂ nil)) ◂ (c "Tree" ((c "Tree" ((v "a") ◂ (v "a") ◂ (v "a") ◂ nil)) ◂ (c "Tree" ((v "a") ◂ (v "a") ◂ (v "a") ◂ nil)) ◂ (c "Tree" ((v "a") ◂ (v "a") ◂ (v "a") ◂ nil)) ◂ nil)) ◂ (c "Tree" ((c "Tree" ((v "a") ◂ (v "a") ◂ (v "a") ◂ nil)) ◂ (c "Tree" ((v "a") ◂ (v "a") ◂ (v "a") ◂ nil)) ◂ (c "Tree" ((v "a") ◂ (v "a") ◂ (v "a") ◂ nil)) ◂ nil)) ◂ nil)) ◂ (c "Tree" ((c "Tree" ((c "Tree" ((v "a") ◂ (v "a") ◂ (v "a") ◂ nil)) ◂ (c "Tree" ((v "a") ◂ (v "a") ◂ (v "a") ◂ nil)) ◂ (c "Tree" ((v "a") ◂ (v "a") ◂ (v "a") ◂ nil)) ◂ nil)) ◂ (c "Tree" ((c "Tree" ((v "a") ◂ (v "a") ◂ (v "a") ◂ nil)) ◂ (c "Tree" ((v "a") ◂ (v "a") ◂ (v "a") ◂ nil)) ◂ (c "Tree" ((v "a") ◂ (v "a") ◂ (v "a") ◂ nil)) ◂ nil)) ◂ (c "Tree" ((c "Tree" ((v "a") ◂ (v "a") ◂ (v "a") ◂ nil)) ◂ (c "Tree" ((v "a") ◂ (v "a") ◂ (v "a") ◂ nil)) ◂ (c "Tree" ((v "a") ◂ (v "a") ◂ (v "a") ◂ nil)) ◂ nil)) ◂ nil)) ◂ (c "Tree" ((c "Tree" ((c "Tree" ((v "a") ◂ (v "a") ◂ (v "a") ◂ nil)) ◂ (c "Tree" ((v "a") ◂ (v "a") ◂ (v "a") ◂ nil)) ◂ (c "Tree" ((v "a") ◂ (v "a") ◂ (v "a") ◂ nil)) ◂ nil)) ◂ (c "Tree" ((c "Tree" ((v "a") ◂ (v "a") ◂ (v "a") ◂ nil)) ◂ (c "Tree" ((v "a") ◂ (v "a") ◂ (v "a") ◂ nil)) ◂ (c "Tree" ((v "a") ◂ (v "a") ◂ (v "a") ◂ nil)) ◂ nil)) ◂ (c "Tree" ((c "Tree" ((v "a") ◂ (v "a") ◂ (v "a") ◂ nil)) ◂ (c "Tree" ((v "a") ◂ (v "a") ◂ (v "a") ◂ nil)) ◂ (c "Tree" ((v "a") ◂ (v "a") ◂ (v "a") ◂ nil)) ◂ nil)) ◂ nil)) ◂ nil)) ◂ nil)) ◂ (c "Tree" ((c "Tree" ((c "Tree" ((c "Tree" ((c "Tree" ((v "a") ◂ (v "a") ◂ (v "a") ◂ nil)) ◂ (c "Tree" ((v "a") ◂ (v "a") ◂ (v "a") ◂ nil)) ◂ (c "Tree" ((v "a") ◂ (v "a") ◂ (v "a") ◂ nil)) ◂ nil)) ◂ (c "Tree" ((c "Tree" ((v "a") ◂ (v "a") ◂ (v "a") ◂ nil)) ◂ (c "Tree" ((v "a") ◂ (v "a") ◂ (v "a") ◂ nil)) ◂ (c "Tree" ((v "a") ◂ (v "a") ◂ (v "a") ◂ nil)) ◂ nil)) ◂ (c "Tree" ((c "Tree" ((v "a") ◂ (v "a") ◂ (v "a") ◂ nil)) ◂ (c "Tree" ((v "a") ◂ (v "a") ◂ (v "a") ◂ nil)) ◂ (c "Tree" ((v "a") ◂ (v "a") ◂ (v "a") ◂ nil)) ◂ nil)) ◂ nil)) ◂ (c "Tree" ((c "Tree" ((c "Tree" ((v "a") ◂ (v "a") ◂ (v "a") ◂ nil)) ◂ (c "Tree" ((v "a") ◂ (v "a") ◂ (v "a") ◂ nil)) ◂ (c "Tree" ((v "a") ◂ (v "a") ◂ (v "a") ◂ nil)) ◂ nil)) ◂ (c "Tree" ((c "Tree" ((v "a") ◂ (v "a") ◂ (v "a") ◂ nil)) ◂ (c "Tree" ((v "a") ◂ (v "a") ◂ (v "a") ◂ nil)) ◂ (c "Tree" ((v "a") ◂ (v "a") ◂ (v "a") ◂ nil)) ◂ nil)) ◂ (c "Tree" ((c "Tree" ((v "a") ◂ (v "a") ◂ (v "a") ◂ nil)) ◂ (c "Tree" ((v "a") ◂ (v "a") ◂ (v "a") ◂ nil)) ◂ (c "Tree" ((v "a") ◂ (v "a") ◂ (v "a") ◂ nil)) ◂ nil)) ◂ nil)) ◂ (c "Tree" ((c "Tree" ((c "Tree" ((v "a") ◂ (v "a") ◂ (v "a") ◂ nil)) ◂ (c "Tree" ((v "a") ◂ (v "a") ◂ (v "a") ◂ nil)) ◂ (c "Tree" ((v "a") ◂ (v "a") ◂ (v "a") ◂ nil)) ◂ nil)) ◂ (c "Tree" ((c "Tree" ((v "a") ◂ (v "a") ◂ (v "a") ◂ nil)) ◂ (c "Tree" ((v "a") ◂ (v "a") ◂ (v "a") ◂ nil)) ◂ (c "Tree" ((v "a") ◂ (v "a") ◂ (v "a") ◂ nil)) ◂ nil)) ◂ (c "Tree" ((c "Tree" ((v "a") ◂ (v "a") ◂ (v "a") ◂ nil)) ◂ (c "Tree" ((v "a") ◂ (v "a") ◂ (v "a") ◂ nil)) ◂ (c "Tree" ((v "a") ◂ (v "a") ◂ (v "a") ◂ nil)) ◂ nil)) ◂ nil)) ◂ nil)) ◂ (c "Tree" ((c "Tree" ((c "Tree" ((c "Tree" ((v "a") ◂ (v "a") ◂ (v "a") ◂ nil)) ◂ (c "Tree" ((v "a") ◂ (v "a") ◂ (v "a") ◂ nil)) ◂ (c "Tree" ((v "a") ◂ (v "a") ◂ (v "a") ◂ nil)) ◂ nil)) ◂ (c "Tree" ((c "Tree" ((v "a") ◂ (v "a") ◂ (v "a") ◂ nil)) ◂ (c "Tree" ((v "a") ◂ (v "a") ◂ (v "a") ◂ nil)) ◂ (c "Tree" ((v "a") ◂ (v "a") ◂ (v "a") ◂ nil)) ◂ nil)) ◂ (c "Tree" ((c "Tree" ((v "a") ◂ (v "a") ◂ (v "a") ◂ nil)) ◂ (c "Tree" ((v "a") ◂ (v "a") ◂ (v "a") ◂ nil)) ◂ (c "Tree" ((v "a") ◂ (v "a") ◂ (v "a") ◂ nil)) ◂ nil)) ◂ nil)) ◂ (c "Tree" ((c "Tree" ((c "Tree" ((v "a") ◂ (v "a") ◂ (v "a") ◂ nil)) ◂ (c "Tree" ((v "a") ◂ (v "a") ◂ (v "a") ◂ nil)) ◂ (c "Tree" ((v "a") ◂ (v "a") ◂ (v "a") ◂ nil)) ◂ nil)) ◂ (c "Tree" ((c "Tree" ((v "a") ◂ (v "a") ◂ (v "a") ◂ nil)) ◂ (c "Tree" ((v "a") ◂ (v "a") ◂ (v "a") ◂ nil)) ◂ (c "Tree" ((v "a") ◂ (v "a") ◂ (v "a") ◂ nil)) ◂ nil)) ◂ (c "Tree" ((c "Tree" ((v "a") ◂ (v "a") ◂ (v "a") ◂ nil)) ◂ (c "Tree" ((v "a") ◂ (v "a") ◂ (v "a") ◂ nil)) ◂ (c "Tree" ((v "a") ◂ (v "a") ◂ (v "a") ◂ nil)) ◂ nil)) ◂ nil)) ◂ (c "Tree" ((c "Tree" ((c "Tree" ((v "a") ◂ (v "a") ◂ (v "a") ◂ nil)) ◂ (c "Tree" ((v "a") ◂ (v "a") ◂ (v "a") ◂ nil)) ◂ (c "Tree" ((v "a") ◂ (v "a") ◂ (v "a") ◂ nil)) ◂ nil)) ◂ (c "Tree" ((c "Tree" ((v "a") ◂ (v "a") ◂ (v "a") ◂ nil)) ◂ (c "Tree" ((v "a") ◂ (v "a") ◂ (v "a") ◂ nil)) ◂ (c "Tree" ((v "a") ◂ (v "a") ◂ (v "a") ◂ nil)) ◂ nil)) ◂ (c "Tree" ((c "Tree" ((v "a") ◂ (v "a") ◂ (v "a") ◂ nil)) ◂ (c "Tree" ((v "a") ◂ (v "a") ◂ (v "a") ◂ nil)) ◂ (c "Tree" ((v "a") ◂ (v "a") ◂ (v "a") ◂ nil)) ◂ nil)) ◂ nil)) ◂ nil)) ◂ (c "Tree" ((c "Tree" ((c "Tree" ((c "Tree" ((v "a") ◂ (v "a") ◂ (v "a") ◂ nil)) ◂ (c "Tree" ((v "a") ◂ (v "a") ◂ (v "a") ◂ nil)) ◂ (c "Tree" ((v "a") ◂ (v "a") ◂ (v "a") ◂ nil)) ◂ nil)) ◂ (c "Tree" ((c "Tree" ((v "a") ◂ (v "a") ◂ (v "a") ◂ nil)) ◂ (c "Tree" ((v "a") ◂ (v "a") ◂ (v "a") ◂ nil)) ◂ (c "Tree" ((v "a") ◂ (v "a") ◂ (v "a") ◂ nil)) ◂ nil)) ◂ (c "Tree" ((c "Tree" ((v "a") ◂ (v "a") ◂ (v "a") ◂ nil)) ◂ (c "Tree" ((v "a") ◂ (v "a") ◂ (v "a") ◂ nil)) ◂ (c "Tree" ((v "a") ◂ (v "a") ◂ (v "a") ◂ nil)) ◂ nil)) ◂ nil)) ◂ (c "Tree" ((c "Tree" ((c "Tree" ((v "a") ◂ (v "a") ◂ (v "a") ◂ nil)) ◂ (c "Tree" ((v "a") ◂ (v "a") ◂ (v "a") ◂ nil)) ◂ (c "Tree" ((v "a") ◂ (v "a") ◂ (v "a") ◂ nil)) ◂ nil)) ◂ (c "Tree" ((c "Tree" ((v "a") ◂ (v "a") ◂ (v "a") ◂ nil)) ◂ (c "Tree" ((v "a") ◂ (v "a") ◂ (v "a") ◂ nil)) ◂ (c "Tree" ((v "a") ◂ (v "a") ◂ (v "a") ◂ nil)) ◂ nil)) ◂ (c "Tree" ((c "Tree" ((v "a") ◂ (v "a") ◂ (v "a") ◂ nil)) ◂ (c "Tree" ((v "a") ◂ (v "a") ◂ (v "a") ◂ nil)) ◂ (c "Tree" ((v "a") ◂ (v "a") ◂ (v "a") ◂ nil)) ◂ nil)) ◂ nil)) ◂ (c "Tree" ((c "Tree" ((c "Tree" ((v "a") ◂ (v "a") ◂ (v "a") ◂ nil)) ◂ (c "Tree" ((v "a") ◂ (v "a") ◂ (v "a") ◂ nil)) ◂ (c "Tree" ((v "a") ◂ (v "a") ◂ (v "a") ◂ nil)) ◂ nil)) ◂ (c "Tree" ((c "Tree" ((v "a") ◂ (v "a") ◂ (v "a") ◂ nil)) ◂ (c "Tree" ((v "a") ◂ (v "a") ◂ (v "a") ◂ nil)) ◂ (c "Tree" ((v "a") ◂ (v "a") ◂ (v "a") ◂ nil)) ◂ nil)) ◂ (c "Tree" ((c "Tree" ((v "a") ◂ (v "a") ◂ (v "a") ◂ nil)) ◂ (c "Tree" ((v "a") ◂ (v "a") ◂ (v "a") ◂ nil)) ◂ (c "Tree" ((v "a") ◂ (v "a") ◂ (v "a") ◂ nil)) ◂ nil)) ◂ nil)) ◂ nil)) ◂ nil)) ◂ nil)) ◂ nil))) ∷ []) (body "big" (eint 1) ∷ [])
    ∷ instance [] "Big" (c "Int" nil) []
    ∷ instance [] "Big" (c "Tree" ((v "a") ◂ (v "b") ◂ (v "c") ◂ nil)) []
    ∷ check (eapp (ev "big") (eint 1))
    ∷ check (eapp (ev "big") (eapp (ev "big") (eint 1)))
    ∷ check (eapp (lam "u" (eint 1)) (eapp (ev "big") (eapp (ev "big") (eint 1))))
    ∷ []

c_rust_square_computed : metered 512 65536 512 c_rust_square ≡ said "declarations 6\n0 6 - | 512 33 0 0\n1 19 Big | 1 33 0 0\n2 19 Big | 4 33 0 0\n3 11 big | 2 33 0 0\n4 11 big | 2 33 0 0\n5 11 big | 6 33 0 0\n"
unfolding everything metered said
c_rust_square_computed = refl

abbrev c_self_use : List Decl
c_self_use =
    class "Eq" "a" [] (sig "eq" (arrow (v "a") (arrow (v "a") (c "Bool" nil))) ∷ []) []
    ∷ instance (at "Eq" (v "a") ∷ []) "Eq" (c "List" ((v "a") ◂ nil)) (body "eq" (lam "x" (lam "y" (eapp (eapp (ev "eq") (ev "x")) (ev "y")))) ∷ [])
    ∷ instance [] "Eq" (c "Pair" ((v "a") ◂ (v "b") ◂ nil)) (body "eq" (lam "x" (lam "y" (eapp (eapp (ev "primAndBool") (eapp (eapp (ev "eq") (ev "x")) (ev "y"))) (ebool true)))) ∷ [])
    ∷ instance [] "Eq" (c "Int" nil) (body "eq" (ev "primEqInt") ∷ [])
    ∷ class "Id" "a" [] (sig "idm" (arrow (v "a") (v "a")) ∷ []) []
    ∷ instance [] "Id" (arrow (v "a") (v "b")) (body "idm" (lam "f" (lam "x" (eapp (ev "f") (eapp (eapp (ev "primAddInt") (ev "x")) (eint 1))))) ∷ [])
    ∷ instance [] "Id" (c "List" ((v "a") ◂ nil)) (body "idm" (lam "x" (ev "x")) ∷ [])
    ∷ class "Show" "a" [] (sig "shw" (arrow (v "a") (c "Int" nil)) ∷ []) []
    ∷ instance [] "Show" (v "a") (body "shw" (lam "x" (eapp (eapp (ev "primAddInt") (ev "x")) (eint 1))) ∷ [])
    ∷ check (eapp (ev "shw") (ebool true))
    ∷ []

c_self_use_computed : metered 512 65536 512 c_self_use ≡ said "declarations 10\n0 0 - | 11 44 0 0\n1 16 Eq (List a) | 103 44 0 0\n2 16 Eq (Pair a b) | 174 44 0 0\n3 0 - | 37 46 0 0\n4 0 - | 7 53 0 0\n5 0 - | 129 65 5 0\n6 0 - | 34 69 6 0\n7 0 - | 7 76 6 0\n8 0 - | 79 83 9 0\n9 0 [] Int = (app (proj (rec Show Bool) shw) true) | 33 83 11 1\n"
unfolding everything metered said
c_self_use_computed = refl

abbrev c_spend_first : List Decl
c_spend_first =
    class "C" "a" ("Nope" ∷ []) (sig "m" (c "Pair" ((c "Pair" ((c "Pair" ((c "Pair" ((c "Pair" ((c "Pair" ((c "Pair" ((c "Pair" ((c "Int" nil) ◂ (c "Int" nil) ◂ nil)) ◂ (c "Pair" ((c "Int" nil) ◂ (c "Int" nil) ◂ nil)) ◂ nil)) ◂ (c "Pair" ((c "Pair" ((c "Int" nil) ◂ (c "Int" nil) ◂ nil)) ◂ (c "Pair" ((c "Int" nil) ◂ (c "Int" nil) ◂ nil)) ◂ nil)) ◂ nil)) ◂ (c "Pair" ((c "Pair" ((c "Pair" ((c "Int" nil) ◂ (c "Int" nil) ◂ nil)) ◂ (c "Pair" ((c "Int" nil) ◂ (c "Int" nil) ◂ nil)) ◂ nil)) ◂ (c "Pair" ((c "Pair" ((c "Int" nil) ◂ (c "Int" nil) ◂ nil)) ◂ (c "Pair" ((c "Int" nil) ◂ (c "Int" nil) ◂ nil)) ◂ nil)) ◂ nil)) ◂ nil)) ◂ (c "Pair" ((c "Pair" ((c "Pair" ((c "Pair" ((c "Int" nil) ◂ (c "Int" nil) ◂ nil)) ◂ (c "Pair" ((c "Int" nil) ◂ (c "Int" nil) ◂ nil)) ◂ nil)) ◂ (c "Pair" ((c "Pair" ((c "Int" nil) ◂ (c "Int" nil) ◂ nil)) ◂ (c "Pair" ((c "Int" nil) ◂ (c "Int" nil) ◂ nil)) ◂ nil)) ◂ nil)) ◂ (c "Pair" ((c "Pair" ((c "Pair" ((c "Int" nil) ◂ (c "Int" nil) ◂ nil)) ◂ (c "Pair" ((c "Int" nil) ◂ (c "Int" nil) ◂ nil)) ◂ nil)) ◂ (c "Pair" ((c "Pair" ((c "Int" nil) ◂ (c "Int" nil) ◂ nil)) ◂ (c "Pair" ((c "Int" nil) ◂ (c "Int" nil) ◂ nil)) ◂ nil)) ◂ nil)) ◂ nil)) ◂ nil)) ◂ (c "Pair" ((c "Pair" ((c "Pair" ((c "Pair" ((c "Pair" ((c "Int" nil) ◂ (c "Int" nil) ◂ nil)) ◂ (c "Pair" ((c "Int" nil) ◂ (c "Int" nil) ◂ nil)) ◂ nil)) ◂ (c "Pair" ((c "Pair" ((c "Int" nil) ◂ (c "Int" nil) ◂ nil)) ◂ (c "Pair" ((c "Int" nil) ◂ (c "Int" nil) ◂ nil)) ◂ nil)) ◂ nil)) ◂ (c "Pair" ((c "Pair" ((c "Pair" ((c "Int" nil) ◂ (c "Int" nil) ◂ nil)) ◂ (c "Pair" ((c "Int" nil) ◂ (c "Int" nil) ◂ nil)) ◂ nil)) ◂ (c "Pair" ((c "Pair" ((c "Int" nil) ◂ (c "Int" nil) ◂ nil)) ◂ (c "Pair" ((c "Int" nil) ◂ (c "Int" nil) ◂ nil)) ◂ nil)) ◂ nil)) ◂ nil)) ◂ (c "Pair" ((c "Pair" ((c "Pair" ((c "Pair" ((c "Int" nil) ◂ (c "Int" nil) ◂ nil)) ◂ (c "Pair" ((c "Int" nil) ◂ (c "Int" nil) ◂ nil)) ◂ nil)) ◂ (c "Pair" ((c "Pair" ((c "Int" nil) ◂ (c "Int" nil) ◂ nil)) ◂ (c "Pair" ((c "Int" nil) ◂ (c "Int" nil) ◂ nil)) ◂ nil)) ◂ nil)) ◂ (c "Pair" ((c "Pair" ((c "Pair" ((c "Int" nil) ◂ (c "Int" nil) ◂ nil)) ◂ (c "Pair" ((c "Int" nil) ◂ (c "Int" nil) ◂ nil)) ◂ nil)) ◂ (c "Pair" ((c "Pair" ((c "Int" nil) ◂ (c "Int" nil) ◂ nil)) ◂ (c "Pair" ((c "Int" nil) ◂ (c "Int" nil) ◂ nil)) ◂ nil)) ◂ nil)) ◂ nil)) ◂ nil)) ◂ nil)) ◂ (c "Pair" ((c "Pair" ((c "Pair" ((c "Pair" ((c "Pair" ((c "Pair" ((c "Int" nil) ◂ (c "Int" nil) ◂ nil)) ◂ (c "Pair" ((c "Int" nil) ◂ (c "Int" nil) ◂ nil)) ◂ nil)) ◂ (c "Pair" ((c "Pair" ((c "Int" nil) ◂ (c "Int" nil) ◂ nil)) ◂ (c "Pair" ((c "Int" nil) ◂ (c "Int" nil) ◂ nil)) ◂ nil)) ◂ nil)) ◂ (c "Pair" ((c "Pair" ((c "Pair" ((c "Int" nil) ◂ (c "Int" nil) ◂ nil)) ◂ (c "Pair" ((c "Int" nil) ◂ (c "Int" nil) ◂ nil)) ◂ nil)) ◂ (c "Pair" ((c "Pair" ((c "Int" nil) ◂ (c "Int" nil) ◂ nil)) ◂ (c "Pair" ((c "Int" nil) ◂ (c "Int" nil) ◂ nil)) ◂ nil)) ◂ nil)) ◂ nil)) ◂ (c "Pair" ((c "Pair" ((c "Pair" ((c "Pair" ((c "Int" nil) ◂ (c "Int" nil) ◂ nil)) ◂ (c "Pair" ((c "Int" nil) ◂ (c "Int" nil) ◂ nil)) ◂ nil)) ◂ (c "Pair" ((c "Pair" ((c "Int" nil) ◂ (c "Int" nil) ◂ nil)) ◂ (c "Pair" ((c "Int" nil) ◂ (c "Int" nil) ◂ nil)) ◂ nil)) ◂ nil)) ◂ (c "Pair" ((c "Pair" ((c "Pair" ((c "Int" nil) ◂ (c "Int" nil) ◂ nil)) ◂ (c "Pair" ((c "Int" nil) ◂ (c "Int" nil) ◂ nil)) ◂ nil)) ◂ (c "Pair" ((c "Pair" ((c "Int" nil) ◂ (c "Int" nil) ◂ nil)) ◂ (c "Pair" ((c "Int" nil) ◂ (c "Int" nil) ◂ nil)) ◂ nil)) ◂ nil)) ◂ nil)) ◂ nil)) ◂ (c "Pair" ((c "Pair" ((c "Pair" ((c "Pair" ((c "Pair" ((c "Int" nil) ◂ (c "Int" nil) ◂ nil)) ◂ (c "Pair" ((c "Int" nil) ◂ (c "Int" nil) ◂ nil)) ◂ nil)) ◂ (c "Pair" ((c "Pair" ((c "Int" nil) ◂ (c "Int" nil) ◂ nil)) ◂ (c "Pair" ((c "Int" nil) ◂ (c "Int" nil) ◂ nil)) ◂ nil)) ◂ nil)) ◂ (c "Pair" ((c "Pair" ((c "Pair" ((c "Int" nil) ◂ (c "Int" nil) ◂ nil)) ◂ (c "Pair" ((c "Int" nil) ◂ (c "Int" nil) ◂ nil)) ◂ nil)) ◂ (c "Pair" ((c "Pair" ((c "Int" nil) ◂ (c "Int" nil) ◂ nil)) ◂ (c "Pair" ((c "Int" nil) ◂ (c "Int" nil) ◂ nil)) ◂ nil)) ◂ nil)) ◂ nil)) ◂ (c "Pair" ((c "Pair" ((c "Pair" ((c "Pair" ((c "Int" nil) ◂ (c "Int" nil) ◂ nil)) ◂ (c "Pair" ((c "Int" nil) ◂ (c "Int" nil) ◂ nil)) ◂ nil)) ◂ (c "Pair" ((c "Pair" ((c "Int" nil) ◂ (c "Int" nil) ◂ nil)) ◂ (c "Pair" ((c "Int" nil) ◂ (c "Int" nil) ◂ nil)) ◂ nil)) ◂ nil)) ◂ (c "Pair" ((c "Pair" ((c "Pair" ((c "Int" nil) ◂ (c "Int" nil) ◂ nil)) ◂ (c "Pair" ((c "Int" nil) ◂ (c "Int" nil) ◂ nil)) ◂ nil)) ◂ (c "Pair" ((c "Pair" ((c "Int" nil) ◂ (c "Int" nil) ◂ nil)) ◂ (c "Pair" ((c "Int" nil) ◂ (c "Int" nil) ◂ nil)) ◂ nil)) ◂ nil)) ◂ nil)) ◂ nil)) ◂ nil)) ◂ nil)) ◂ (c "Pair" ((c "Pair" ((c "Pair" ((c "Pair" ((c "Pair" ((c "Pair" ((c "Pair" ((c "Int" nil) ◂ (c "Int" nil) ◂ nil)) ◂ (c "Pair" ((c "Int" nil) ◂ (c "Int" nil) ◂ nil)) ◂ nil)) ◂ (c "Pair" ((c "Pair" ((c "Int" nil) ◂ (c "Int" nil) ◂ nil)) ◂ (c "Pair" ((c "Int" nil) ◂ (c "Int" nil) ◂ nil)) ◂ nil)) ◂ nil)) ◂ (c "Pair" ((c "Pair" ((c "Pair" ((c "Int" nil) ◂ (c "Int" nil) ◂ nil)) ◂ (c "Pair" ((c "Int" nil) ◂ (c "Int" nil) ◂ nil)) ◂ nil)) ◂ (c "Pair" ((c "Pair" ((c "Int" nil) ◂ (c "Int" nil) ◂ nil)) ◂ (c "Pair" ((c "Int" nil) ◂ (c "Int" nil) ◂ nil)) ◂ nil)) ◂ nil)) ◂ nil)) ◂ (c "Pair" ((c "Pair" ((c "Pair" ((c "Pair" ((c "Int" nil) ◂ (c "Int" nil) ◂ nil)) ◂ (c "Pair" ((c "Int" nil) ◂ (c "Int" nil) ◂ nil)) ◂ nil)) ◂ (c "Pair" ((c "Pair" ((c "Int" nil) ◂ (c "Int" nil) ◂ nil)) ◂ (c "Pair" ((c "Int" nil) ◂ (c "Int" nil) ◂ nil)) ◂ nil)) ◂ nil)) ◂ (c "Pair" ((c "Pair" ((c "Pair" ((c "Int" nil) ◂ (c "Int" nil) ◂ nil)) ◂ (c "Pair" ((c "Int" nil) ◂ (c "Int" nil) ◂ nil)) ◂ nil)) ◂ (c "Pair" ((c "Pair" ((c "Int" nil) ◂ (c "Int" nil) ◂ nil)) ◂ (c "Pair" ((c "Int" nil) ◂ (c "Int" nil) ◂ nil)) ◂ nil)) ◂ nil)) ◂ nil)) ◂ nil)) ◂ (c "Pair" ((c "Pair" ((c "Pair" ((c "Pair" ((c "Pair" ((c "Int" nil) ◂ (c "Int" nil) ◂ nil)) ◂ (c "Pair" ((c "Int" nil) ◂ (c "Int" nil) ◂ nil)) ◂ nil)) ◂ (c "Pair" ((c "Pair" ((c "Int" nil) ◂ (c "Int" nil) ◂ nil)) ◂ (c "Pair" ((c "Int" nil) ◂ (c "Int" nil) ◂ nil)) ◂ nil)) ◂ nil)) ◂ (c "Pair" ((c "Pair" ((c "Pair" ((c "Int" nil) ◂ (c "Int" nil) ◂ nil)) ◂ (c "Pair" ((c "Int" nil) ◂ (c "Int" nil) ◂ nil)) ◂ nil)) ◂ (c "Pair" ((c "Pair" ((c "Int" nil) ◂ (c "Int" nil) ◂ nil)) ◂ (c "Pair" ((c "Int" nil) ◂ (c "Int" nil) ◂ nil)) ◂ nil)) ◂ nil)) ◂ nil)) ◂ (c "Pair" ((c "Pair" ((c "Pair" ((c "Pair" ((c "Int" nil) ◂ (c "Int" nil) ◂ nil)) ◂ (c "Pair" ((c "Int" nil) ◂ (c "Int" nil) ◂ nil)) ◂ nil)) ◂ (c "Pair" ((c "Pair" ((c "Int" nil) ◂ (c "Int" nil) ◂ nil)) ◂ (c "Pair" ((c "Int" nil) ◂ (c "Int" nil) ◂ nil)) ◂ nil)) ◂ nil)) ◂ (c "Pair" ((c "Pair" ((c "Pair" ((c "Int" nil) ◂ (c "Int" nil) ◂ nil)) ◂ (c "Pair" ((c "Int" nil) ◂ (c "Int" nil) ◂ nil)) ◂ nil)) ◂ (c "Pair" ((c "Pair" ((c "Int" nil) ◂ (c "Int" nil) ◂ nil)) ◂ (c "Pair" ((c "Int" nil) ◂ (c "Int" nil) ◂ nil)) ◂ nil)) ◂ nil)) ◂ nil)) ◂ nil)) ◂ nil)) ◂ (c "Pair" ((c "Pair" ((c "Pair" ((c "Pair" ((c "Pair" ((c "Pair" ((c "Int" nil) ◂ (c "Int" nil) ◂ nil)) ◂ (c "Pair" ((c "Int" nil) ◂ (c "Int" nil) ◂ nil)) ◂ nil)) ◂ (c "Pair" ((c "Pair" ((c "Int" nil) ◂ (c "Int" nil) ◂ nil)) ◂ (c "Pair" ((c "Int" nil) ◂ (c "Int" nil) ◂ nil)) ◂ nil)) ◂ nil)) ◂ (c "Pair" ((c "Pair" ((c "Pair" ((c "Int" nil) ◂ (c "Int" nil) ◂ nil)) ◂ (c "Pair" ((c "Int" nil) ◂ (c "Int" nil) ◂ nil)) ◂ nil)) ◂ (c "Pair" ((c "Pair" ((c "Int" nil) ◂ (c "Int" nil) ◂ nil)) ◂ (c "Pair" ((c "Int" nil) ◂ (c "Int" nil) ◂ nil)) ◂ nil)) ◂ nil)) ◂ nil)) ◂ (c "Pair" ((c "Pair" ((c "Pair" ((c "Pair" ((c "Int" nil) ◂ (c "Int" nil) ◂ nil)) ◂ (c "Pair" ((c "Int" nil) ◂ (c "Int" nil) ◂ nil)) ◂ nil)) ◂ (c "Pair" ((c "Pair" ((c "Int" nil) ◂ (c "Int" nil) ◂ nil)) ◂ (c "Pair" ((c "Int" nil) ◂ (c "Int" nil) ◂ nil)) ◂ nil)) ◂ nil)) ◂ (c "Pair" ((c "Pair" ((c "Pair" ((c "Int" nil) ◂ (c "Int" nil) ◂ nil)) ◂ (c "Pair" ((c "Int" nil) ◂ (c "Int" nil) ◂ nil)) ◂ nil)) ◂ (c "Pair" ((c "Pair" ((c "Int" nil) ◂ (c "Int" nil) ◂ nil)) ◂ (c "Pair" ((c "Int" nil) ◂ (c "Int" nil) ◂ nil)) ◂ nil)) ◂ nil)) ◂ nil)) ◂ nil)) ◂ (c "Pair" ((c "Pair" ((c "Pair" ((c "Pair" ((c "Pair" ((c "Int" nil) ◂ (c "Int" nil) ◂ nil)) ◂ (c "Pair" ((c "Int" nil) ◂ (c "Int" nil) ◂ nil)) ◂ nil)) ◂ (c "Pair" ((c "Pair" ((c "Int" nil) ◂ (c "Int" nil) ◂ nil)) ◂ (c "Pair" ((c "Int" nil) ◂ (c "Int" nil) ◂ nil)) ◂ nil)) ◂ nil)) ◂ (c "Pair" ((c "Pair" ((c "Pair" ((c "Int" nil) ◂ (c "Int" nil) ◂ nil)) ◂ (c "Pair" ((c "Int" nil) ◂ (c "Int" nil) ◂ nil)) ◂ nil)) ◂ (c "Pair" ((c "Pair" ((c "Int" nil) ◂ (c "Int" nil) ◂ nil)) ◂ (c "Pair" ((c "Int" nil) ◂ (c "Int" nil) ◂ nil)) ◂ nil)) ◂ nil)) ◂ nil)) ◂ (c "Pair" ((c "Pair" ((c "Pair" ((c "Pair" ((c "Int" nil) ◂ (c "Int" nil) ◂ nil)) ◂ (c "Pair" ((c "Int" nil) ◂ (c "Int" nil) ◂ nil)) ◂ nil)) ◂ (c "Pair" ((c "Pair" ((c "Int" nil) ◂ (c "Int" nil) ◂ nil)) ◂ (c "Pair" ((c "Int" nil) ◂ (c "Int" nil) ◂ nil)) ◂ nil)) ◂ nil)) ◂ (c "Pair" ((c "Pair" ((c "Pair" ((c "Int" nil) ◂ (c "Int" nil) ◂ nil)) ◂ (c "Pair" ((c "Int" nil) ◂ (c "Int" nil) ◂ nil)) ◂ nil)) ◂ (c "Pair" ((c "Pair" ((c "Int" nil) ◂ (c "Int" nil) ◂ nil)) ◂ (c "Pair" ((c "Int" nil) ◂ (c "Int" nil) ◂ nil)) ◂ nil)) ◂ nil)) ◂ nil)) ◂ nil)) ◂ nil)) ◂ nil)) ◂ nil)) ∷ []) []
    ∷ class "C" "a" ("Nope" ∷ []) (sig "m" (c "Pair" ((c "Pair" ((c "Pair" ((c "Pair" ((c "Pair" ((c "Int" nil) ◂ (c "Int" nil) ◂ nil)) ◂ (c "Pair" ((c "Int" nil) ◂ (c "Int" nil) ◂ nil)) ◂ nil)) ◂ (c "Pair" ((c "Pair" ((c "Int" nil) ◂ (c "Int" nil) ◂ nil)) ◂ (c "Pair" ((c "Int" nil) ◂ (c "Int" nil) ◂ nil)) ◂ nil)) ◂ nil)) ◂ (c "Pair" ((c "Pair" ((c "Pair" ((c "Int" nil) ◂ (c "Int" nil) ◂ nil)) ◂ (c "Pair" ((c "Int" nil) ◂ (c "Int" nil) ◂ nil)) ◂ nil)) ◂ (c "Pair" ((c "Pair" ((c "Int" nil) ◂ (c "Int" nil) ◂ nil)) ◂ (c "Pair" ((c "Int" nil) ◂ (c "Int" nil) ◂ nil)) ◂ nil)) ◂ nil)) ◂ nil)) ◂ (c "Pair" ((c "Pair" ((c "Pair" ((c "Pair" ((c "Int" nil) ◂ (c "Int" nil) ◂ nil)) ◂ (c "Pair" ((c "Int" nil) ◂ (c "Int" nil) ◂ nil)) ◂ nil)) ◂ (c "Pair" ((c "Pair" ((c "Int" nil) ◂ (c "Int" nil) ◂ nil)) ◂ (c "Pair" ((c "Int" nil) ◂ (c "Int" nil) ◂ nil)) ◂ nil)) ◂ nil)) ◂ (c "Pair" ((c "Pair" ((c "Pair" ((c "Int" nil) ◂ (c "Int" nil) ◂ nil)) ◂ (c "Pair" ((c "Int" nil) ◂ (c "Int" nil) ◂ nil)) ◂ nil)) ◂ (c "Pair" ((c "Pair" ((c "Int" nil) ◂ (c "Int" nil) ◂ nil)) ◂ (c "Pair" ((c "Int" nil) ◂ (c "Int" nil) ◂ nil)) ◂ nil)) ◂ nil)) ◂ nil)) ◂ nil)) ∷ []) []
    ∷ instance [] "Nope" (c "Pair" ((c "Pair" ((c "Pair" ((c "Pair" ((c "Pair" ((c "Pair" ((c "Pair" ((c "Pair" ((c "Pair" ((c "Int" nil) ◂ (c "Int" nil) ◂ nil)) ◂ (c "Pair" ((c "Int" nil) ◂ (c "Int" nil) ◂ nil)) ◂ nil)) ◂ (c "Pair" ((c "Pair" ((c "Int" nil) ◂ (c "Int" nil) ◂ nil)) ◂ (c "Pair" ((c "Int" nil) ◂ (c "Int" nil) ◂ nil)) ◂ nil)) ◂ nil)) ◂ (c "Pair" ((c "Pair" ((c "Pair" ((c "Int" nil) ◂ (c "Int" nil) ◂ nil)) ◂ (c "Pair" ((c "Int" nil) ◂ (c "Int" nil) ◂ nil)) ◂ nil)) ◂ (c "Pair" ((c "Pair" ((c "Int" nil) ◂ (c "Int" nil) ◂ nil)) ◂ (c "Pair" ((c "Int" nil) ◂ (c "Int" nil) ◂ nil)) ◂ nil)) ◂ nil)) ◂ nil)) ◂ (c "Pair" ((c "Pair" ((c "Pair" ((c "Pair" ((c "Int" nil) ◂ (c "Int" nil) ◂ nil)) ◂ (c "Pair" ((c "Int" nil) ◂ (c "Int" nil) ◂ nil)) ◂ nil)) ◂ (c "Pair" ((c "Pair" ((c "Int" nil) ◂ (c "Int" nil) ◂ nil)) ◂ (c "Pair" ((c "Int" nil) ◂ (c "Int" nil) ◂ nil)) ◂ nil)) ◂ nil)) ◂ (c "Pair" ((c "Pair" ((c "Pair" ((c "Int" nil) ◂ (c "Int" nil) ◂ nil)) ◂ (c "Pair" ((c "Int" nil) ◂ (c "Int" nil) ◂ nil)) ◂ nil)) ◂ (c "Pair" ((c "Pair" ((c "Int" nil) ◂ (c "Int" nil) ◂ nil)) ◂ (c "Pair" ((c "Int" nil) ◂ (c "Int" nil) ◂ nil)) ◂ nil)) ◂ nil)) ◂ nil)) ◂ nil)) ◂ (c "Pair" ((c "Pair" ((c "Pair" ((c "Pair" ((c "Pair" ((c "Int" nil) ◂ (c "Int" nil) ◂ nil)) ◂ (c "Pair" ((c "Int" nil) ◂ (c "Int" nil) ◂ nil)) ◂ nil)) ◂ (c "Pair" ((c "Pair" ((c "Int" nil) ◂ (c "Int" nil) ◂ nil)) ◂ (c "Pair" ((c "Int" nil) ◂ (c "Int" nil) ◂ nil)) ◂ nil)) ◂ nil)) ◂ (c "Pair" ((c "Pair" ((c "Pair" ((c "Int" nil) ◂ (c "Int" nil) ◂ nil)) ◂ (c "Pair" ((c "Int" nil) ◂ (c "Int" nil) ◂ nil)) ◂ nil)) ◂ (c "Pair" ((c "Pair" ((c "Int" nil) ◂ (c "Int" nil) ◂ nil)) ◂ (c "Pair" ((c "Int" nil) ◂ (c "Int" nil) ◂ nil)) ◂ nil)) ◂ nil)) ◂ nil)) ◂ (c "Pair" ((c "Pair" ((c "Pair" ((c "Pair" ((c "Int" nil) ◂ (c "Int" nil) ◂ nil)) ◂ (c "Pair" ((c "Int" nil) ◂ (c "Int" nil) ◂ nil)) ◂ nil)) ◂ (c "Pair" ((c "Pair" ((c "Int" nil) ◂ (c "Int" nil) ◂ nil)) ◂ (c "Pair" ((c "Int" nil) ◂ (c "Int" nil) ◂ nil)) ◂ nil)) ◂ nil)) ◂ (c "Pair" ((c "Pair" ((c "Pair" ((c "Int" nil) ◂ (c "Int" nil) ◂ nil)) ◂ (c "Pair" ((c "Int" nil) ◂ (c "Int" nil) ◂ nil)) ◂ nil)) ◂ (c "Pair" ((c "Pair" ((c "Int" nil) ◂ (c "Int" nil) ◂ nil)) ◂ (c "Pair" ((c "Int" nil) ◂ (c "Int" nil) ◂ nil)) ◂ nil)) ◂ nil)) ◂ nil)) ◂ nil)) ◂ nil)) ◂ (c "Pair" ((c "Pair" ((c "Pair" ((c "Pair" ((c "Pair" ((c "Pair" ((c "Int" nil) ◂ (c "Int" nil) ◂ nil)) ◂ (c "Pair" ((c "Int" nil) ◂ (c "Int" nil) ◂ nil)) ◂ nil)) ◂ (c "Pair" ((c "Pair" ((c "Int" nil) ◂ (c "Int" nil) ◂ nil)) ◂ (c "Pair" ((c "Int" nil) ◂ (c "Int" nil) ◂ nil)) ◂ nil)) ◂ nil)) ◂ (c "Pair" ((c "Pair" ((c "Pair" ((c "Int" nil) ◂ (c "Int" nil) ◂ nil)) ◂ (c "Pair" ((c "Int" nil) ◂ (c "Int" nil) ◂ nil)) ◂ nil)) ◂ (c "Pair" ((c "Pair" ((c "Int" nil) ◂ (c "Int" nil) ◂ nil)) ◂ (c "Pair" ((c "Int" nil) ◂ (c "Int" nil) ◂ nil)) ◂ nil)) ◂ nil)) ◂ nil)) ◂ (c "Pair" ((c "Pair" ((c "Pair" ((c "Pair" ((c "Int" nil) ◂ (c "Int" nil) ◂ nil)) ◂ (c "Pair" ((c "Int" nil) ◂ (c "Int" nil) ◂ nil)) ◂ nil)) ◂ (c "Pair" ((c "Pair" ((c "Int" nil) ◂ (c "Int" nil) ◂ nil)) ◂ (c "Pair" ((c "Int" nil) ◂ (c "Int" nil) ◂ nil)) ◂ nil)) ◂ nil)) ◂ (c "Pair" ((c "Pair" ((c "Pair" ((c "Int" nil) ◂ (c "Int" nil) ◂ nil)) ◂ (c "Pair" ((c "Int" nil) ◂ (c "Int" nil) ◂ nil)) ◂ nil)) ◂ (c "Pair" ((c "Pair" ((c "Int" nil) ◂ (c "Int" nil) ◂ nil)) ◂ (c "Pair" ((c "Int" nil) ◂ (c "Int" nil) ◂ nil)) ◂ nil)) ◂ nil)) ◂ nil)) ◂ nil)) ◂ (c "Pair" ((c "Pair" ((c "Pair" ((c "Pair" ((c "Pair" ((c "Int" nil) ◂ (c "Int" nil) ◂ nil)) ◂ (c "Pair" ((c "Int" nil) ◂ (c "Int" nil) ◂ nil)) ◂ nil)) ◂ (c "Pair" ((c "Pair" ((c "Int" nil) ◂ (c "Int" nil) ◂ nil)) ◂ (c "Pair" ((c "Int" nil) ◂ (c "Int" nil) ◂ nil)) ◂ nil)) ◂ nil)) ◂ (c "Pair" ((c "Pair" ((c "Pair" ((c "Int" nil) ◂ (c "Int" nil) ◂ nil)) ◂ (c "Pair" ((c "Int" nil) ◂ (c "Int" nil) ◂ nil)) ◂ nil)) ◂ (c "Pair" ((c "Pair" ((c "Int" nil) ◂ (c "Int" nil) ◂ nil)) ◂ (c "Pair" ((c "Int" nil) ◂ (c "Int" nil) ◂ nil)) ◂ nil)) ◂ nil)) ◂ nil)) ◂ (c "Pair" ((c "Pair" ((c "Pair" ((c "Pair" ((c "Int" nil) ◂ (c "Int" nil) ◂ nil)) ◂ (c "Pair" ((c "Int" nil) ◂ (c "Int" nil) ◂ nil)) ◂ nil)) ◂ (c "Pair" ((c "Pair" ((c "Int" nil) ◂ (c "Int" nil) ◂ nil)) ◂ (c "Pair" ((c "Int" nil) ◂ (c "Int" nil) ◂ nil)) ◂ nil)) ◂ nil)) ◂ (c "Pair" ((c "Pair" ((c "Pair" ((c "Int" nil) ◂ (c "Int" nil) ◂ nil)) ◂ (c "Pair" ((c "Int" nil) ◂ (c "Int" nil) ◂ nil)) ◂ nil)) ◂ (c "Pair" ((c "Pair" ((c "Int" nil) ◂ (c "Int" nil) ◂ nil)) ◂ (c "Pair" ((c "Int" nil) ◂ (c "Int" nil) ◂ nil)) ◂ nil)) ◂ nil)) ◂ nil)) ◂ nil)) ◂ nil)) ◂ nil)) ◂ (c "Pair" ((c "Pair" ((c "Pair" ((c "Pair" ((c "Pair" ((c "Pair" ((c "Pair" ((c "Int" nil) ◂ (c "Int" nil) ◂ nil)) ◂ (c "Pair" ((c "Int" nil) ◂ (c "Int" nil) ◂ nil)) ◂ nil)) ◂ (c "Pair" ((c "Pair" ((c "Int" nil) ◂ (c "Int" nil) ◂ nil)) ◂ (c "Pair" ((c "Int" nil) ◂ (c "Int" nil) ◂ nil)) ◂ nil)) ◂ nil)) ◂ (c "Pair" ((c "Pair" ((c "Pair" ((c "Int" nil) ◂ (c "Int" nil) ◂ nil)) ◂ (c "Pair" ((c "Int" nil) ◂ (c "Int" nil) ◂ nil)) ◂ nil)) ◂ (c "Pair" ((c "Pair" ((c "Int" nil) ◂ (c "Int" nil) ◂ nil)) ◂ (c "Pair" ((c "Int" nil) ◂ (c "Int" nil) ◂ nil)) ◂ nil)) ◂ nil)) ◂ nil)) ◂ (c "Pair" ((c "Pair" ((c "Pair" ((c "Pair" ((c "Int" nil) ◂ (c "Int" nil) ◂ nil)) ◂ (c "Pair" ((c "Int" nil) ◂ (c "Int" nil) ◂ nil)) ◂ nil)) ◂ (c "Pair" ((c "Pair" ((c "Int" nil) ◂ (c "Int" nil) ◂ nil)) ◂ (c "Pair" ((c "Int" nil) ◂ (c "Int" nil) ◂ nil)) ◂ nil)) ◂ nil)) ◂ (c "Pair" ((c "Pair" ((c "Pair" ((c "Int" nil) ◂ (c "Int" nil) ◂ nil)) ◂ (c "Pair" ((c "Int" nil) ◂ (c "Int" nil) ◂ nil)) ◂ nil)) ◂ (c "Pair" ((c "Pair" ((c "Int" nil) ◂ (c "Int" nil) ◂ nil)) ◂ (c "Pair" ((c "Int" nil) ◂ (c "Int" nil) ◂ nil)) ◂ nil)) ◂ nil)) ◂ nil)) ◂ nil)) ◂ (c "Pair" ((c "Pair" ((c "Pair" ((c "Pair" ((c "Pair" ((c "Int" nil) ◂ (c "Int" nil) ◂ nil)) ◂ (c "Pair" ((c "Int" nil) ◂ (c "Int" nil) ◂ nil)) ◂ nil)) ◂ (c "Pair" ((c "Pair" ((c "Int" nil) ◂ (c "Int" nil) ◂ nil)) ◂ (c "Pair" ((c "Int" nil) ◂ (c "Int" nil) ◂ nil)) ◂ nil)) ◂ nil)) ◂ (c "Pair" ((c "Pair" ((c "Pair" ((c "Int" nil) ◂ (c "Int" nil) ◂ nil)) ◂ (c "Pair" ((c "Int" nil) ◂ (c "Int" nil) ◂ nil)) ◂ nil)) ◂ (c "Pair" ((c "Pair" ((c "Int" nil) ◂ (c "Int" nil) ◂ nil)) ◂ (c "Pair" ((c "Int" nil) ◂ (c "Int" nil) ◂ nil)) ◂ nil)) ◂ nil)) ◂ nil)) ◂ (c "Pair" ((c "Pair" ((c "Pair" ((c "Pair" ((c "Int" nil) ◂ (c "Int" nil) ◂ nil)) ◂ (c "Pair" ((c "Int" nil) ◂ (c "Int" nil) ◂ nil)) ◂ nil)) ◂ (c "Pair" ((c "Pair" ((c "Int" nil) ◂ (c "Int" nil) ◂ nil)) ◂ (c "Pair" ((c "Int" nil) ◂ (c "Int" nil) ◂ nil)) ◂ nil)) ◂ nil)) ◂ (c "Pair" ((c "Pair" ((c "Pair" ((c "Int" nil) ◂ (c "Int" nil) ◂ nil)) ◂ (c "Pair" ((c "Int" nil) ◂ (c "Int" nil) ◂ nil)) ◂ nil)) ◂ (c "Pair" ((c "Pair" ((c "Int" nil) ◂ (c "Int" nil) ◂ nil)) ◂ (c "Pair" ((c "Int" nil) ◂ (c "Int" nil) ◂ nil)) ◂ nil)) ◂ nil)) ◂ nil)) ◂ nil)) ◂ nil)) ◂ (c "Pair" ((c "Pair" ((c "Pair" ((c "Pair" ((c "Pair" ((c "Pair" ((c "Int" nil) ◂ (c "Int" nil) ◂ nil)) ◂ (c "Pair" ((c "Int" nil) ◂ (c "Int" nil) ◂ nil)) ◂ nil)) ◂ (c "Pair" ((c "Pair" ((c "Int" nil) ◂ (c "Int" nil) ◂ nil)) ◂ (c "Pair" ((c "Int" nil) ◂ (c "Int" nil) ◂ nil)) ◂ nil)) ◂ nil)) ◂ (c "Pair" ((c "Pair" ((c "Pair" ((c "Int" nil) ◂ (c "Int" nil) ◂ nil)) ◂ (c "Pair" ((c "Int" nil) ◂ (c "Int" nil) ◂ nil)) ◂ nil)) ◂ (c "Pair" ((c "Pair" ((c "Int" nil) ◂ (c "Int" nil) ◂ nil)) ◂ (c "Pair" ((c "Int" nil) ◂ (c "Int" nil) ◂ nil)) ◂ nil)) ◂ nil)) ◂ nil)) ◂ (c "Pair" ((c "Pair" ((c "Pair" ((c "Pair" ((c "Int" nil) ◂ (c "Int" nil) ◂ nil)) ◂ (c "Pair" ((c "Int" nil) ◂ (c "Int" nil) ◂ nil)) ◂ nil)) ◂ (c "Pair" ((c "Pair" ((c "Int" nil) ◂ (c "Int" nil) ◂ nil)) ◂ (c "Pair" ((c "Int" nil) ◂ (c "Int" nil) ◂ nil)) ◂ nil)) ◂ nil)) ◂ (c "Pair" ((c "Pair" ((c "Pair" ((c "Int" nil) ◂ (c "Int" nil) ◂ nil)) ◂ (c "Pair" ((c "Int" nil) ◂ (c "Int" nil) ◂ nil)) ◂ nil)) ◂ (c "Pair" ((c "Pair" ((c "Int" nil) ◂ (c "Int" nil) ◂ nil)) ◂ (c "Pair" ((c "Int" nil) ◂ (c "Int" nil) ◂ nil)) ◂ nil)) ◂ nil)) ◂ nil)) ◂ nil)) ◂ (c "Pair" ((c "Pair" ((c "Pair" ((c "Pair" ((c "Pair" ((c "Int" nil) ◂ (c "Int" nil) ◂ nil)) ◂ (c "Pair" ((c "Int" nil) ◂ (c "Int" nil) ◂ nil)) ◂ nil)) ◂ (c "Pair" ((c "Pair" ((c "Int" nil) ◂ (c "Int" nil) ◂ nil)) ◂ (c "Pair" ((c "Int" nil) ◂ (c "Int" nil) ◂ nil)) ◂ nil)) ◂ nil)) ◂ (c "Pair" ((c "Pair" ((c "Pair" ((c "Int" nil) ◂ (c "Int" nil) ◂ nil)) ◂ (c "Pair" ((c "Int" nil) ◂ (c "Int" nil) ◂ nil)) ◂ nil)) ◂ (c "Pair" ((c "Pair" ((c "Int" nil) ◂ (c "Int" nil) ◂ nil)) ◂ (c "Pair" ((c "Int" nil) ◂ (c "Int" nil) ◂ nil)) ◂ nil)) ◂ nil)) ◂ nil)) ◂ (c "Pair" ((c "Pair" ((c "Pair" ((c "Pair" ((c "Int" nil) ◂ (c "Int" nil) ◂ nil)) ◂ (c "Pair" ((c "Int" nil) ◂ (c "Int" nil) ◂ nil)) ◂ nil)) ◂ (c "Pair" ((c "Pair" ((c "Int" nil) ◂ (c "Int" nil) ◂ nil)) ◂ (c "Pair" ((c "Int" nil) ◂ (c "Int" nil) ◂ nil)) ◂ nil)) ◂ nil)) ◂ (c "Pair" ((c "Pair" ((c "Pair" ((c "Int" nil) ◂ (c "Int" nil) ◂ nil)) ◂ (c "Pair" ((c "Int" nil) ◂ (c "Int" nil) ◂ nil)) ◂ nil)) ◂ (c "Pair" ((c "Pair" ((c "Int" nil) ◂ (c "Int" nil) ◂ nil)) ◂ (c "Pair" ((c "Int" nil) ◂ (c "Int" nil) ◂ nil)) ◂ nil)) ◂ nil)) ◂ nil)) ◂ nil)) ◂ nil)) ◂ nil)) ◂ nil)) ◂ (v "a") ◂ nil)) []
    ∷ instance [] "Nope" (c "Pair" ((c "Pair" ((c "Pair" ((c "Pair" ((c "Pair" ((c "Pair" ((c "Int" nil) ◂ (c "Int" nil) ◂ nil)) ◂ (c "Pair" ((c "Int" nil) ◂ (c "Int" nil) ◂ nil)) ◂ nil)) ◂ (c "Pair" ((c "Pair" ((c "Int" nil) ◂ (c "Int" nil) ◂ nil)) ◂ (c "Pair" ((c "Int" nil) ◂ (c "Int" nil) ◂ nil)) ◂ nil)) ◂ nil)) ◂ (c "Pair" ((c "Pair" ((c "Pair" ((c "Int" nil) ◂ (c "Int" nil) ◂ nil)) ◂ (c "Pair" ((c "Int" nil) ◂ (c "Int" nil) ◂ nil)) ◂ nil)) ◂ (c "Pair" ((c "Pair" ((c "Int" nil) ◂ (c "Int" nil) ◂ nil)) ◂ (c "Pair" ((c "Int" nil) ◂ (c "Int" nil) ◂ nil)) ◂ nil)) ◂ nil)) ◂ nil)) ◂ (c "Pair" ((c "Pair" ((c "Pair" ((c "Pair" ((c "Int" nil) ◂ (c "Int" nil) ◂ nil)) ◂ (c "Pair" ((c "Int" nil) ◂ (c "Int" nil) ◂ nil)) ◂ nil)) ◂ (c "Pair" ((c "Pair" ((c "Int" nil) ◂ (c "Int" nil) ◂ nil)) ◂ (c "Pair" ((c "Int" nil) ◂ (c "Int" nil) ◂ nil)) ◂ nil)) ◂ nil)) ◂ (c "Pair" ((c "Pair" ((c "Pair" ((c "Int" nil) ◂ (c "Int" nil) ◂ nil)) ◂ (c "Pair" ((c "Int" nil) ◂ (c "Int" nil) ◂ nil)) ◂ nil)) ◂ (c "Pair" ((c "Pair" ((c "Int" nil) ◂ (c "Int" nil) ◂ nil)) ◂ (c "Pair" ((c "Int" nil) ◂ (c "Int" nil) ◂ nil)) ◂ nil)) ◂ nil)) ◂ nil)) ◂ nil)) ◂ (c "Pair" ((c "Pair" ((c "Pair" ((c "Pair" ((c "Pair" ((c "Int" nil) ◂ (c "Int" nil) ◂ nil)) ◂ (c "Pair" ((c "Int" nil) ◂ (c "Int" nil) ◂ nil)) ◂ nil)) ◂ (c "Pair" ((c "Pair" ((c "Int" nil) ◂ (c "Int" nil) ◂ nil)) ◂ (c "Pair" ((c "Int" nil) ◂ (c "Int" nil) ◂ nil)) ◂ nil)) ◂ nil)) ◂ (c "Pair" ((c "Pair" ((c "Pair" ((c "Int" nil) ◂ (c "Int" nil) ◂ nil)) ◂ (c "Pair" ((c "Int" nil) ◂ (c "Int" nil) ◂ nil)) ◂ nil)) ◂ (c "Pair" ((c "Pair" ((c "Int" nil) ◂ (c "Int" nil) ◂ nil)) ◂ (c "Pair" ((c "Int" nil) ◂ (c "Int" nil) ◂ nil)) ◂ nil)) ◂ nil)) ◂ nil)) ◂ (c "Pair" ((c "Pair" ((c "Pair" ((c "Pair" ((c "Int" nil) ◂ (c "Int" nil) ◂ nil)) ◂ (c "Pair" ((c "Int" nil) ◂ (c "Int" nil) ◂ nil)) ◂ nil)) ◂ (c "Pair" ((c "Pair" ((c "Int" nil) ◂ (c "Int" nil) ◂ nil)) ◂ (c "Pair" ((c "Int" nil) ◂ (c "Int" nil) ◂ nil)) ◂ nil)) ◂ nil)) ◂ (c "Pair" ((c "Pair" ((c "Pair" ((c "Int" nil) ◂ (c "Int" nil) ◂ nil)) ◂ (c "Pair" ((c "Int" nil) ◂ (c "Int" nil) ◂ nil)) ◂ nil)) ◂ (c "Pair" ((c "Pair" ((c "Int" nil) ◂ (c "Int" nil) ◂ nil)) ◂ (c "Pair" ((c "Int" nil) ◂ (c "Int" nil) ◂ nil)) ◂ nil)) ◂ nil)) ◂ nil)) ◂ nil)) ◂ nil)) []
    ∷ class "Free" "a" [] [] []
    ∷ []

c_spend_first_computed : metered 512 65536 512 c_spend_first ≡ said "declarations 5\n0 6 - | 512 33 0 0\n1 21 C Nope | 127 33 0 0\n2 6 - | 512 33 0 0\n3 19 Nope | 127 33 0 0\n4 0 - | 0 33 0 0\n"
unfolding everything metered said
c_spend_first_computed = refl

abbrev c_stale_types : List Decl
c_stale_types =
    class "Mk" "a" [] (sig "mk" (arrow (v "a") (c "List" ((v "a") ◂ nil))) ∷ []) (body "mk" (eint 1) ∷ [])
    ∷ class "Show" "a" [] (sig "shw" (arrow (v "a") (c "Int" nil)) ∷ []) (body "shw" (eint 1) ∷ [])
    ∷ instance [] "Mk" (v "a") []
    ∷ instance [] "Show" (c "List" ((v "a") ◂ nil)) []
    ∷ check (lam "x" (bind "k" (eapp (ev "shw") (eapp (ev "mk") (ev "x"))) (eapp (eapp (ev "primAddInt") (ev "x")) (ev "k"))))
    ∷ check (lam "x" (bind "k" (eapp (ev "shw") (eapp (ev "mk") (ev "x"))) (ev "k")))
    ∷ check (eapp (lam "x" (eapp (ev "shw") (eapp (ev "mk") (ev "x")))) (eint 1))
    ∷ []

c_stale_types_computed : metered 512 65536 512 c_stale_types ≡ said "declarations 7\n0 0 - | 9 42 0 0\n1 0 - | 7 49 0 0\n2 0 - | 4 51 0 0\n3 0 - | 5 54 0 0\n4 0 [] (-> Int Int) = (lam x (let k (app (proj (rec Show (List t0)) shw) (app (proj (rec Mk Int) mk) x)) (app (app primAddInt x) k))) | 168 54 7 2\n5 0 [Mk a] (-> a Int) = (dabs [d3 Mk a] (lam x (let k (app (proj (rec Show (List a)) shw) (app (proj d3 mk) x)) k))) | 116 54 12 4\n6 0 [] Int = (app (lam x (app (proj (rec Show (List Int)) shw) (app (proj (rec Mk Int) mk) x))) 1) | 111 54 18 6\n"
unfolding everything metered said
c_stale_types_computed = refl
