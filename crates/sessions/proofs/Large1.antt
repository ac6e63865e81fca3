-- Recorded sessions, computed: text, steps, kept nodes and both counters. (tools/session_test.py)
use mathlib.Core.Path.{◌≡◌, refl}
use mathlib.Core.Bool.{true, false}
use mathlib.Core.List.{List, [], ◌∷◌}
use Rattle.meaning.specs.Ast.{Ty, arrow, Expr, eint, ebool, eapp, Decl, nil, ◌◂◌}
use Rattle.meaning.proofs.Metered.{everything, metered, said}
use Rattle.meaning.proofs.Written.{v, c, ev, lam, bind, class, instance, define, check, at, sig, body}

abbrev big_depth_unify : List Decl
big_depth_unify =
    class "D103" "a" [] (sig "f103" (arrow (arrow (arrow (arrow (arrow (arrow (arrow (arrow (arrow (arrow (arrow (arrow (arrow (arrow (arrow (arrow (arrow (arrow (arrow (arrow (arrow (arrow (arrow (arrow (arrow (arrow (arrow (arrow (arrow (arrow (arrow (arrow (arrow (arrow (arrow (arrow (arrow (arrow (arrow (arrow (arrow (arrow (arrow (arrow (arrow (arrow (arrow (arrow (arrow (arrow (arrow (arrow (arrow (arrow (arrow (arrow (arrow (arrow (arrow (arrow (arrow (arrow (arrow (arrow (arrow (arrow (arrow (arrow (arrow (arrow (arrow (arrow (arrow (arrow (arrow (arrow (arrow (arrow (arrow (arrow (arrow (arrow (arrow (arrow (arrow (arrow (arrow (arrow (arrow (arrow (arrow (arrow (arrow (arrow (arrow (arrow (arrow (arrow (arrow (arrow (arrow (arrow (arrow (arrow (arrow (arrow (arrow (arrow (arrow (arrow (arrow (arrow (arrow (arrow (arrow (arrow (arrow (arrow (arrow (arrow (arrow (arrow (arrow (arrow (arrow (arrow (arrow (arrow (arrow (arrow (arrow (arrow (arrow (arrow (arrow (arrow (arrow (arrow (arrow (arrow (arrow (arrow (arrow (arrow (arrow (arrow (arrow (arrow (arrow (arrow (arrow (arrow (v "b") (c "Int" nil)) (c "Int" nil)) (c "Int" nil)) (c "Int" nil)) (c "Int" nil)) (c "Int" nil)) (c "Int" nil)) (c "Int" nil)) (c "Int" nil)) (c "Int" nil)) (c "Int" nil)) (c "Int" nil)) (c "Int" nil)) (c "Int" nil)) (c "Int" nil)) (c "Int" nil)) (c "Int" nil)) (c "Int" nil)) (c "Int" nil)) (c "Int" nil)) (c "Int" nil)) (c "Int" nil)) (c "Int" nil)) (c "Int" nil)) (c "Int" nil)) (c "Int" nil)) (c "Int" nil)) (c "Int" nil)) (c "Int" nil)) (c "Int" nil)) (c "Int" nil)) (c "Int" nil)) (c "Int" nil)) (c "Int" nil)) (c "Int" nil)) (c "Int" nil)) (c "Int" nil)) (c "Int" nil)) (c "Int" nil)) (c "Int" nil)) (c "Int" nil)) (c "Int" nil)) (c "Int" nil)) (c "Int" nil)) (c "Int" nil)) (c "Int" nil)) (c "Int" nil)) (c "Int" nil)) (c "Int" nil)) (c "Int" nil)) (c "Int" nil)) (c "Int" nil)) (c "Int" nil)) (c "Int" nil)) (c "Int" nil)) (c "Int" nil)) (c "Int" nil)) (c "Int" nil)) (c "Int" nil)) (c "Int" nil)) (c "Int" nil)) (c "Int" nil)) (c "Int" nil)) (c "Int" nil)) (c "Int" nil)) (c "Int" nil)) (c "Int" nil)) (c "Int" nil)) (c "Int" nil)) (c "Int" nil)) (c "Int" nil)) (c "Int" nil)) (c "Int" nil)) (c "Int" nil)) (c "Int" nil)) (c "Int" nil)) (c "Int" nil)) (c "Int" nil)) (c "Int" nil)) (c "Int" nil)) (c "Int" nil)) (c "Int" nil)) (c "Int" nil)) (c "Int" nil)) (c "Int" nil)) (c "Int" nil)) (c "Int" nil)) (c "Int" nil)) (c "Int" nil)) (c "Int" nil)) (c "Int" nil)) (c "Int" nil)) (c "Int" nil)) (c "Int" nil)) (c "Int" nil)) (c "Int" nil)) (c "Int" nil)) (c "Int" nil)) (c "Int" nil)) (c "Int" nil)) (c "Int" nil)) (c "Int" nil)) (c "Int" nil)) (c "Int" nil)) (c "Int" nil)) (c "Int" nil)) (c "Int" nil)) (c "Int" nil)) (c "Int" nil)) (c "Int" nil)) (c "Int" nil)) (c "Int" nil)) (c "Int" nil)) (c "Int" nil)) (c "Int" nil)) (c "Int" nil)) (c "Int" nil)) (c "Int" nil)) (c "Int" nil)) (c "Int" nil)) (c "Int" nil)) (c "Int" nil)) (c "Int" nil)) (c "Int" nil)) (c "Int" nil)) (c "Int" nil)) (c "Int" nil)) (c "Int" nil)) (c "Int" nil)) (c "Int" nil)) (c "Int" nil)) (c "Int" nil)) (c "Int" nil)) (c "Int" nil)) (c "Int" nil)) (c "Int" nil)) (c "Int" nil)) (c "Int" nil)) (c "Int" nil)) (c "Int" nil)) (c "Int" nil)) (c "Int" nil)) (c "Int" nil)) (c "Int" nil)) (c "Int" nil)) (c "Int" nil)) (c "Int" nil)) (c "Int" nil)) (c "Int" nil)) (c "Int" nil)) (v "a")) (arrow (v "b") (arrow (arrow (arrow (arrow (arrow (arrow (arrow (arrow (arrow (arrow (arrow (arrow (arrow (arrow (arrow (arrow (arrow (arrow (arrow (arrow (arrow (arrow (arrow (arrow (arrow (arrow (arrow (arrow (arrow (arrow (arrow (arrow (arrow (arrow (arrow (arrow (arrow (arrow (arrow (arrow (arrow (arrow (arrow (arrow (arrow (arrow (arrow (arrow (arrow (arrow (arrow (arrow (arrow (arrow (arrow (arrow (arrow (arrow (arrow (arrow (arrow (arrow (arrow (arrow (arrow (arrow (arrow (arrow (arrow (arrow (arrow (arrow (arrow (arrow (arrow (arrow (arrow (arrow (arrow (arrow (arrow (arrow (arrow (arrow (arrow (arrow (arrow (arrow (arrow (arrow (arrow (arrow (arrow (arrow (arrow (arrow (arrow (arrow (arrow (arrow (arrow (arrow (arrow (arrow (arrow (arrow (arrow (arrow (arrow (arrow (arrow (arrow (arrow (arrow (arrow (arrow (arrow (arrow (arrow (arrow (arrow (arrow (arrow (arrow (arrow (arrow (arrow (arrow (arrow (arrow (arrow (arrow (arrow (arrow (arrow (arrow (arrow (arrow (arrow (arrow (arrow (arrow (arrow (arrow (arrow (arrow (arrow (arrow (arrow (arrow (v "b") (c "Int" nil)) (c "Int" nil)) (c "Int" nil)) (c "Int" nil)) (c "Int" nil)) (c "Int" nil)) (c "Int" nil)) (c "Int" nil)) (c "Int" nil)) (c "Int" nil)) (c "Int" nil)) (c "Int" nil)) (c "Int" nil)) (c "Int" nil)) (c "Int" nil)) (c "Int" nil)) (c "Int" nil)) (c "Int" nil)) (c "Int" nil)) (c "Int" nil)) (c "Int" nil)) (c "Int" nil)) (c "Int" nil)) (c "Int" nil)) (c "Int" nil)) (c "Int" nil)) (c "Int" nil)) (c "Int" nil)) (c "Int" nil)) (c "Int" nil)) (c "Int" nil)) (c "Int" nil)) (c "Int" nil)) (c "Int" nil)) (c "Int" nil)) (c "Int" nil)) (c "Int" nil)) (c "Int" nil)) (c "Int" nil)) (c "Int" nil)) (c "Int" nil)) (c "Int" nil)) (c "Int" nil)) (c "Int" nil)) (c "Int" nil)) (c "Int" nil)) (c "Int" nil)) (c "Int" nil)) (c "Int" nil)) (c "Int" nil)) (c "Int" nil)) (c "Int" nil)) (c "Int" nil)) (c "Int" nil)) (c "Int" nil)) (c "Int" nil)) (c "Int" nil)) (c "Int" nil)) (c "Int" nil)) (c "Int" nil)) (c "Int" nil)) (c "Int" nil)) (c "Int" nil)) (c "Int" nil)) (c "Int" nil)) (c "Int" nil)) (c "Int" nil)) (c "Int" nil)) (c "Int" nil)) (c "Int" nil)) (c "Int" nil)) (c "Int" nil)) (c "Int" nil)) (c "Int" nil)) (c "Int" nil)) (c "Int" nil)) (c "Int" nil)) (c "Int" nil)) (c "Int" nil)) (c "Int" nil)) (c "Int" nil)) (c "Int" nil)) (c "Int" nil)) (c "Int" nil)) (c "Int" nil)) (c "Int" nil)) (c "Int" nil)) (c "Int" nil)) (c "Int" nil)) (c "Int" nil)) (c "Int" nil)) (c "Int" nil)) (c "Int" nil)) (c "Int" nil)) (c "Int" nil)) (c "Int" nil)) (c "Int" nil)) (c "Int" nil)) (c "Int" nil)) (c "Int" nil)) (c "Int" nil)) (c "Int" nil)) (c "Int" nil)) (c "Int" nil)) (c "Int" nil)) (c "Int" nil)) (c "Int" nil)) (c "Int" nil)) (c "Int" nil)) (c "Int" nil)) (c "Int" nil)) (c "Int" nil)) (c "Int" nil)) (c "Int" nil)) (c "Int" nil)) (c "Int" nil)) (c "Int" nil)) (c "Int" nil)) (c "Int" nil)) (c "Int" nil)) (c "Int" nil)) (c "Int" nil)) (c "Int" nil)) (c "Int" nil)) (c "Int" nil)) (c "Int" nil)) (c "Int" nil)) (c "Int" nil)) (c "Int" nil)) (c "Int" nil)) (c "Int" nil)) (c "Int" nil)) (c "Int" nil)) (c "Int" nil)) (c "Int" nil)) (c "Int" nil)) (c "Int" nil)) (c "Int" nil)) (c "Int" nil)) (c "Int" nil)) (c "Int" nil)) (c "Int" nil)) (c "Int" nil)) (c "Int" nil)) (c "Int" nil)) (c "Int" nil)) (c "Int" nil)) (c "Int" nil)) (c "Int" nil)) (c "Int" nil)))) ∷ sig "u103" (arrow (arrow (arrow (arrow (arrow (arrow (arrow (arrow (arrow (arrow (arrow (arrow (arrow (arrow (arrow (arrow (arrow (arrow (arrow (arrow (arrow (arrow (arrow (arrow (arrow (arrow (arrow (arrow (arrow (arrow (arrow (arrow (arrow (arrow (arrow (arrow (arrow (arrow (arrow (arrow (arrow (arrow (arrow (arrow (arrow (arrow (arrow (arrow (arrow (arrow (arrow (arrow (arrow (arrow (arrow (arrow (arrow (arrow (arrow (arrow (arrow (arrow (arrow (arrow (arrow (arrow (arrow (arrow (arrow (arrow (arrow (arrow (arrow (arrow (arrow (arrow (arrow (arrow (arrow (arrow (arrow (arrow (arrow (arrow (arrow (arrow (arrow (arrow (arrow (arrow (arrow (arrow (arrow (arrow (arrow (arrow (arrow (arrow (arrow (arrow (arrow (arrow (arrow (v "a") (c "Int" nil)) (c "Int" nil)) (c "Int" nil)) (c "Int" nil)) (c "Int" nil)) (c "Int" nil)) (c "Int" nil)) (c "Int" nil)) (c "Int" nil)) (c "Int" nil)) (c "Int" nil)) (c "Int" nil)) (c "Int" nil)) (c "Int" nil)) (c "Int" nil)) (c "Int" nil)) (c "Int" nil)) (c "Int" nil)) (c "Int" nil)) (c "Int" nil)) (c "Int" nil)) (c "Int" nil)) (c "Int" nil)) (c "Int" nil)) (c "Int" nil)) (c "Int" nil)) (c "Int" nil)) (c "Int" nil)) (c "Int" nil)) (c "Int" nil)) (c "Int" nil)) (c "Int" nil)) (c "Int" nil)) (c "Int" nil)) (c "Int" nil)) (c "Int" nil)) (c "Int" nil)) (c "Int" nil)) (c "Int" nil)) (c "Int" nil)) (c "Int" nil)) (c "Int" nil)) (c "Int" nil)) (c "Int" nil)) (c "Int" nil)) (c "Int" nil)) (c "Int" nil)) (c "Int" nil)) (c "Int" nil)) (c "Int" nil)) (c "Int" nil)) (c "Int" nil)) (c "Int" nil)) (c "Int" nil)) (c "Int" nil)) (c "Int" nil)) (c "Int" nil)) (c "Int" nil)) (c "Int" nil)) (c "Int" nil)) (c "Int" nil)) (c "Int" nil)) (c "Int" nil)) (c "Int" nil)) (c "Int" nil)) (c "Int" nil)) (c "Int" nil)) (c "Int" nil)) (c "Int" nil)) (c "Int" nil)) (c "Int" nil)) (c "Int" nil)) (c "Int" nil)) (c "Int" nil)) (c "Int" nil)) (c "Int" nil)) (c "Int" nil)) (c "Int" nil)) (c "Int" nil)) (c "Int" nil)) (c "Int" nil)) (c "Int" nil)) (c "Int" nil)) (c "Int" nil)) (c "Int" nil)) (c "Int" nil)) (c "Int" nil)) (c "Int" nil)) (c "Int" nil)) (c "Int" nil)) (c "Int" nil)) (c "Int" nil)) (c "Int" nil)) (c "Int" nil)) (c "Int" nil)) (c "Int" nil)) (c "Int" nil)) (c "Int" nil)) (c "Int" nil)) (c "Int" nil)) (c "Int" nil)) (c "Int" nil)) (c "Int" nil)) ∷ []) (body "f103" (eint 1) ∷ body "u103" (eint 1) ∷ [])
    ∷ instance [] "D103" (c "Int" nil) []
    ∷ check (lam "g" (eapp (ev "g") (eapp (eapp (ev "f103") (ev "g")) (ev "u103"))))
    ∷ class "D104" "a" [] (sig "f104" (arrow (arrow (arrow (arrow (arrow (arrow (arrow (arrow (arrow (arrow (arrow (arrow (arrow (arrow (arrow (arrow (arrow (arrow (arrow (arrow (arrow (arrow (arrow (arrow (arrow (arrow (arrow (arrow (arrow (arrow (arrow (arrow (arrow (arrow (arrow (arrow (arrow (arrow (arrow (arrow (arrow (arrow (arrow (arrow (arrow (arrow (arrow (arrow (arrow (arrow (arrow (arrow (arrow (arrow (arrow (arrow (arrow (arrow (arrow (arrow (arrow (arrow (arrow (arrow (arrow (arrow (arrow (arrow (arrow (arrow (arrow (arrow (arrow (arrow (arrow (arrow (arrow (arrow (arrow (arrow (arrow (arrow (arrow (arrow (arrow (arrow (arrow (arrow (arrow (arrow (arrow (arrow (arrow (arrow (arrow (arrow (arrow (arrow (arrow (arrow (arrow (arrow (arrow (arrow (arrow (arrow (arrow (arrow (arrow (arrow (arrow (arrow (arrow (arrow (arrow (arrow (arrow (arrow (arrow (arrow (arrow (arrow (arrow (arrow (arrow (arrow (arrow (arrow (arrow (arrow (arrow (arrow (arrow (arrow (arrow (arrow (arrow (arrow (arrow (arrow (arrow (arrow (arrow (arrow (arrow (arrow (arrow (arrow (arrow (arrow (arrow (arrow (v "b") (c "Int" nil)) (c "Int" nil)) (c "Int" nil)) (c "Int" nil)) (c "Int" nil)) (c "Int" nil)) (c "Int" nil)) (c "Int" nil)) (c "Int" nil)) (c "Int" nil)) (c "Int" nil)) (c "Int" nil)) (c "Int" nil)) (c "Int" nil)) (c "Int" nil)) (c "Int" nil)) (c "Int" nil)) (c "Int" nil)) (c "Int" nil)) (c "Int" nil)) (c "Int" nil)) (c "Int" nil)) (c "Int" nil)) (c "Int" nil)) (c "Int" nil)) (c "Int" nil)) (c "Int" nil)) (c "Int" nil)) (c "Int" nil)) (c "Int" nil)) (c "Int" nil)) (c "Int" nil)) (c "Int" nil)) (c "Int" nil)) (c "Int" nil)) (c "Int" nil)) (c "Int" nil)) (c "Int" nil)) (c "Int" nil)) (c "Int" nil)) (c "Int" nil)) (c "Int" nil)) (c "Int" nil)) (c "Int" nil)) (c "Int" nil)) (c "Int" nil)) (c "Int" nil)) (c "Int" nil)) (c "Int" nil)) (c "Int" nil)) (c "Int" nil)) (c "Int" nil)) (c "Int" nil)) (c "Int" nil)) (c "Int" nil)) (c "Int" nil)) (c "Int" nil)) (c "Int" nil)) (c "Int" nil)) (c "Int" nil)) (c "Int" nil)) (c "Int" nil)) (c "Int" nil)) (c "Int" nil)) (c "Int" nil)) (c "Int" nil)) (c "Int" nil)) (c "Int" nil)) (c "Int" nil)) (c "Int" nil)) (c "Int" nil)) (c "Int" nil)) (c "Int" nil)) (c "Int" nil)) (c "Int" nil)) (c "Int" nil)) (c "Int" nil)) (c "Int" nil)) (c "Int" nil)) (c "Int" nil)) (c "Int" nil)) (c "Int" nil)) (c "Int" nil)) (c "Int" nil)) (c "Int" nil)) (c "Int" nil)) (c "Int" nil)) (c "Int" nil)) (c "Int" nil)) (c "Int" nil)) (c "Int" nil)) (c "Int" nil)) (c "Int" nil)) (c "Int" nil)) (c "Int" nil)) (c "Int" nil)) (c "Int" nil)) (c "Int" nil)) (c "Int" nil)) (c "Int" nil)) (c "Int" nil)) (c "Int" nil)) (c "Int" nil)) (c "Int" nil)) (c "Int" nil)) (c "Int" nil)) (c "Int" nil)) (c "Int" nil)) (c "Int" nil)) (c "Int" nil)) (c "Int" nil)) (c "Int" nil)) (c "Int" nil)) (c "Int" nil)) (c "Int" nil)) (c "Int" nil)) (c "Int" nil)) (c "Int" nil)) (c "Int" nil)) (c "Int" nil)) (c "Int" nil)) (c "Int" nil)) (c "Int" nil)) (c "Int" nil)) (c "Int" nil)) (c "Int" nil)) (c "Int" nil)) (c "Int" nil)) (c "Int" nil)) (c "Int" nil)) (c "Int" nil)) (c "Int" nil)) (c "Int" nil)) (c "Int" nil)) (c "Int" nil)) (c "Int" nil)) (c "Int" nil)) (c "Int" nil)) (c "Int" nil)) (c "Int" nil)) (c "Int" nil)) (c "Int" nil)) (c "Int" nil)) (c "Int" nil)) (c "Int" nil)) (c "Int" nil)) (c "Int" nil)) (c "Int" nil)) (c "Int" nil)) (c "Int" nil)) (v "a")) (arrow (v "b") (arrow (arrow (arrow (arrow (arrow (arrow (arrow (arrow (arrow (arrow (arrow (arrow (arrow (arrow (arrow (arrow (arrow (arrow (arrow (arrow (arrow (arrow (arrow (arrow (arrow (arrow (arrow (arrow (arrow (arrow (arrow (arrow (arrow (arrow (arrow (arrow (arrow (arrow (arrow (arrow (arrow (arrow (arrow (arrow (arrow (arrow (arrow (arrow (arrow (arrow (arrow (arrow (arrow (arrow (arrow (arrow (arrow (arrow (arrow (arrow (arrow (arrow (arrow (arrow (arrow (arrow (arrow (arrow (arrow (arrow (arrow (arrow (arrow (arrow (arrow (arrow (arrow (arrow (arrow (arrow (arrow (arrow (arrow (arrow (arrow (arrow (arrow (arrow (arrow (arrow (arrow (arrow (arrow (arrow (arrow (arrow (arrow (arrow (arrow (arrow (arrow (arrow (arrow (arrow (arrow (arrow (arrow (arrow (arrow (arrow (arrow (arrow (arrow (arrow (arrow (arrow (arrow (arrow (arrow (arrow (arrow (arrow (arrow (arrow (arrow (arrow (arrow (arrow (arrow (arrow (arrow (arrow (arrow (arrow (arrow (arrow (arrow (arrow (arrow (arrow (arrow (arrow (arrow (arrow (arrow (arrow (arrow (arrow (arrow (arrow (v "b") (c "Int" nil)) (c "Int" nil)) (c "Int" nil)) (c "Int" nil)) (c "Int" nil)) (c "Int" nil)) (c "Int" nil)) (c "Int" nil)) (c "Int" nil)) (c "Int" nil)) (c "Int" nil)) (c "Int" nil)) (c "Int" nil)) (c "Int" nil)) (c "Int" nil)) (c "Int" nil)) (c "Int" nil)) (c "Int" nil)) (c "Int" nil)) (c "Int" nil)) (c "Int" nil)) (c "Int" nil)) (c "Int" nil)) (c "Int" nil)) (c "Int" nil)) (c "Int" nil)) (c "Int" nil)) (c "Int" nil)) (c "Int" nil)) (c "Int" nil)) (c "Int" nil)) (c "Int" nil)) (c "Int" nil)) (c "Int" nil)) (c "Int" nil)) (c "Int" nil)) (c "Int" nil)) (c "Int" nil)) (c "Int" nil)) (c "Int" nil)) (c "Int" nil)) (c "Int" nil)) (c "Int" nil)) (c "Int" nil)) (c "Int" nil)) (c "Int" nil)) (c "Int" nil)) (c "Int" nil)) (c "Int" nil)) (c "Int" nil)) (c "Int" nil)) (c "Int" nil)) (c "Int" nil)) (c "Int" nil)) (c "Int" nil)) (c "Int" nil)) (c "Int" nil)) (c "Int" nil)) (c "Int" nil)) (c "Int" nil)) (c "Int" nil)) (c "Int" nil)) (c "Int" nil)) (c "Int" nil)) (c "Int" nil)) (c "Int" nil)) (c "Int" nil)) (c "Int" nil)) (c "Int" nil)) (c "Int" nil)) (c "Int" nil)) (c "Int" nil)) (c "Int" nil)) (c "Int" nil)) (c "Int" nil)) (c "Int" nil)) (c "Int" nil)) (c "Int" nil)) (c "Int" nil)) (c "Int" nil)) (c "Int" nil)) (c "Int" nil)) (c "Int" nil)) (c "Int" nil)) (c "Int" nil)) (c "Int" nil)) (c "Int" nil)) (c "Int" nil)) (c "Int" nil)) (c "Int" nil)) (c "Int" nil)) (c "Int" nil)) (c "Int" nil)) (c "Int" nil)) (c "Int" nil)) (c "Int" nil)) (c "Int" nil)) (c "Int" nil)) (c "Int" nil)) (c "Int" nil)) (c "Int" nil)) (c "Int" nil)) (c "Int" nil)) (c "Int" nil)) (c "Int" nil)) (c "Int" nil)) (c "Int" nil)) (c "Int" nil)) (c "Int" nil)) (c "Int" nil)) (c "Int" nil)) (c "Int" nil)) (c "Int" nil)) (c "Int" nil)) (c "Int" nil)) (c "Int" nil)) (c "Int" nil)) (c "Int" nil)) (c "Int" nil)) (c "Int" nil)) (c "Int" nil)) (c "Int" nil)) (c "Int" nil)) (c "Int" nil)) (c "Int" nil)) (c "Int" nil)) (c "Int" nil)) (c "Int" nil)) (c "Int" nil)) (c "Int" nil)) (c "Int" nil)) (c "Int" nil)) (c "Int" nil)) (c "Int" nil)) (c "Int" nil)) (c "Int" nil)) (c "Int" nil)) (c "Int" nil)) (c "Int" nil)) (c "Int" nil)) (c "Int" nil)) (c "Int" nil)) (c "Int" nil)) (c "Int" nil)) (c "Int" nil)) (c "Int" nil)) (c "Int" nil)) (c "Int" nil)) (c "Int" nil)) (c "Int" nil)))) ∷ sig "u104" (arrow (arrow (arrow (arrow (arrow (arrow (arrow (arrow (arrow (arrow (arrow (arrow (arrow (arrow (arrow (arrow (arrow (arrow (arrow (arrow (arrow (arrow (arrow (arrow (arrow (arrow (arrow (arrow (arrow (arrow (arrow (arrow (arrow (arrow (arrow (arrow (arrow (arrow (arrow (arrow (arrow (arrow (arrow (arrow (arrow (arrow (arrow (arrow (arrow (arrow (arrow (arrow (arrow (arrow (arrow (arrow (arrow (arrow (arrow (arrow (arrow (arrow (arrow (arrow (arrow (arrow (arrow (arrow (arrow (arrow (arrow (arrow (arrow (arrow (arrow (arrow (arrow (arrow (arrow (arrow (arrow (arrow (arrow (arrow (arrow (arrow (arrow (arrow (arrow (arrow (arrow (arrow (arrow (arrow (arrow (arrow (arrow (arrow (arrow (arrow (arrow (arrow (arrow (arrow (v "a") (c "Int" nil)) (c "Int" nil)) (c "Int" nil)) (c "Int" nil)) (c "Int" nil)) (c "Int" nil)) (c "Int" nil)) (c "Int" nil)) (c "Int" nil)) (c "Int" nil)) (c "Int" nil)) (c "Int" nil)) (c "Int" nil)) (c "Int" nil)) (c "Int" nil)) (c "Int" nil)) (c "Int" nil)) (c "Int" nil)) (c "Int" nil)) (c "Int" nil)) (c "Int" nil)) (c "Int" nil)) (c "Int" nil)) (c "Int" nil)) (c "Int" nil)) (c "Int" nil)) (c "Int" nil)) (c "Int" nil)) (c "Int" nil)) (c "Int" nil)) (c "Int" nil)) (c "Int" nil)) (c "Int" nil)) (c "Int" nil)) (c "Int" nil)) (c "Int" nil)) (c "Int" nil)) (c "Int" nil)) (c "Int" nil)) (c "Int" nil)) (c "Int" nil)) (c "Int" nil)) (c "Int" nil)) (c "Int" nil)) (c "Int" nil)) (c "Int" nil)) (c "Int" nil)) (c "Int" nil)) (c "Int" nil)) (c "Int" nil)) (c "Int" nil)) (c "Int" nil)) (c "Int" nil)) (c "Int" nil)) (c "Int" nil)) (c "Int" nil)) (c "Int" nil)) (c "Int" nil)) (c "Int" nil)) (c "Int" nil)) (c "Int" nil)) (c "Int" nil)) (c "Int" nil)) (c "Int" nil)) (c "Int" nil)) (c "Int" nil)) (c "Int" nil)) (c "Int" nil)) (c "Int" nil)) (c "Int" nil)) (c "Int" nil)) (c "Int" nil)) (c "Int" nil)) (c "Int" nil)) (c "Int" nil)) (c "Int" nil)) (c "Int" nil)) (c "Int" nil)) (c "Int" nil)) (c "Int" nil)) (c "Int" nil)) (c "Int" nil)) (c "Int" nil)) (c "Int" nil)) (c "Int" nil)) (c "Int" nil)) (c "Int" nil)) (c "Int" nil)) (c "Int" nil)) (c "Int" nil)) (c "Int" nil)) (c "Int" nil)) (c "Int" nil)) (c "Int" nil)) (c "Int" nil)) (c "Int" nil)) (c "Int" nil)) (c "Int" nil)) (c "Int" nil)) (c "Int" nil)) (c "Int" nil)) (c "Int" nil)) (c "Int" nil)) (c "Int" nil)) ∷ []) (body "f104" (eint 1) ∷ body "u104" (eint 1) ∷ [])
    ∷ instance [] "D104" (c "Int" nil) []
    ∷ check (lam "g" (eapp (ev "g") (eapp (eapp (ev "f104") (ev "g")) (ev "u104"))))
    ∷ class "D105" "a" [] (sig "f105" (arrow (arrow (arrow (arrow (arrow (arrow (arrow (arrow (arrow (arrow (arrow (arrow (arrow (arrow (arrow (arrow (arrow (arrow (arrow (arrow (arrow (arrow (arrow (arrow (arrow (arrow (arrow (arrow (arrow (arrow (arrow (arrow (arrow (arrow (arrow (arrow (arrow (arrow (arrow (arrow (arrow (arrow (arrow (arrow (arrow (arrow (arrow (arrow (arrow (arrow (arrow (arrow (arrow (arrow (arrow (arrow (arrow (arrow (arrow (arrow (arrow (arrow (arrow (arrow (arrow (arrow (arrow (arrow (arrow (arrow (arrow (arrow (arrow (arrow (arrow (arrow (arrow (arrow (arrow (arrow (arrow (arrow (arrow (arrow (arrow (arrow (arrow (arrow (arrow (arrow (arrow (arrow (arrow (arrow (arrow (arrow (arrow (arrow (arrow (arrow (arrow (arrow (arrow (arrow (arrow (arrow (arrow (arrow (arrow (arrow (arrow (arrow (arrow (arrow (arrow (arrow (arrow (arrow (arrow (arrow (arrow (arrow (arrow (arrow (arrow (arrow (arrow (arrow (arrow (arrow (arrow (arrow (arrow (arrow (arrow (arrow (arrow (arrow (arrow (arrow (arrow (arrow (arrow (arrow (arrow (arrow (arrow (arrow (arrow (arrow (arrow (arrow (v "b") (c "Int" nil)) (c "Int" nil)) (c "Int" nil)) (c "Int" nil)) (c "Int" nil)) (c "Int" nil)) (c "Int" nil)) (c "Int" nil)) (c "Int" nil)) (c "Int" nil)) (c "Int" nil)) (c "Int" nil)) (c "Int" nil)) (c "Int" nil)) (c "Int" nil)) (c "Int" nil)) (c "Int" nil)) (c "Int" nil)) (c "Int" nil)) (c "Int" nil)) (c "Int" nil)) (c "Int" nil)) (c "Int" nil)) (c "Int" nil)) (c "Int" nil)) (c "Int" nil)) (c "Int" nil)) (c "Int" nil)) (c "Int" nil)) (c "Int" nil)) (c "Int" nil)) (c "Int" nil)) (c "Int" nil)) (c "Int" nil)) (c "Int" nil)) (c "Int" nil)) (c "Int" nil)) (c "Int" nil)) (c "Int" nil)) (c "Int" nil)) (c "Int" nil)) (c "Int" nil)) (c "Int" nil)) (c "Int" nil)) (c "Int" nil)) (c "Int" nil)) (c "Int" nil)) (c "Int" nil)) (c "Int" nil)) (c "Int" nil)) (c "Int" nil)) (c "Int" nil)) (c "Int" nil)) (c "Int" nil)) (c "Int" nil)) (c "Int" nil)) (c "Int" nil)) (c "Int" nil)) (c "Int" nil)) (c "Int" nil)) (c "Int" nil)) (c "Int" nil)) (c "Int" nil)) (c "Int" nil)) (c "Int" nil)) (c "Int" nil)) (c "Int" nil)) (c "Int" nil)) (c "Int" nil)) (c "Int" nil)) (c "Int" nil)) (c "Int" nil)) (c "Int" nil)) (c "Int" nil)) (c "Int" nil)) (c "Int" nil)) (c "Int" nil)) (c "Int" nil)) (c "Int" nil)) (c "Int" nil)) (c "Int" nil)) (c "Int" nil)) (c "Int" nil)) (c "Int" nil)) (c "Int" nil)) (c "Int" nil)) (c "Int" nil)) (c "Int" nil)) (c "Int" nil)) (c "Int" nil)) (c "Int" nil)) (c "Int" nil)) (c "Int" nil)) (c "Int" nil)) (c "Int" nil)) (c "Int" nil)) (c "Int" nil)) (c "Int" nil)) (c "Int" nil)) (c "Int" nil)) (c "Int" nil)) (c "Int" nil)) (c "Int" nil)) (c "Int" nil)) (c "Int" nil)) (c "Int" nil)) (c "Int" nil)) (c "Int" nil)) (c "Int" nil)) (c "Int" nil)) (c "Int" nil)) (c "Int" nil)) (c "Int" nil)) (c "Int" nil)) (c "Int" nil)) (c "Int" nil)) (c "Int" nil)) (c "Int" nil)) (c "Int" nil)) (c "Int" nil)) (c "Int" nil)) (c "Int" nil)) (c "Int" nil)) (c "Int" nil)) (c "Int" nil)) (c "Int" nil)) (c "Int" nil)) (c "Int" nil)) (c "Int" nil)) (c "Int" nil)) (c "Int" nil)) (c "Int" nil)) (c "Int" nil)) (c "Int" nil)) (c "Int" nil)) (c "Int" nil)) (c "Int" nil)) (c "Int" nil)) (c "Int" nil)) (c "Int" nil)) (c "Int" nil)) (c "Int" nil)) (c "Int" nil)) (c "Int" nil)) (c "Int" nil)) (c "Int" nil)) (c "Int" nil)) (c "Int" nil)) (c "Int" nil)) (c "Int" nil)) (v "a")) (arrow (v "b") (arrow (arrow (arrow (arrow (arrow (arrow (arrow (arrow (arrow (arrow (arrow (arrow (arrow (arrow (arrow (arrow (arrow (arrow (arrow (arrow (arrow (arrow (arrow (arrow (arrow (arrow (arrow (arrow (arrow (arrow (arrow (arrow (arrow (arrow (arrow (arrow (arrow (arrow (arrow (arrow (arrow (arrow (arrow (arrow (arrow (arrow (arrow (arrow (arrow (arrow (arrow (arrow (arrow (arrow (arrow (arrow (arrow (arrow (arrow (arrow (arrow (arrow (arrow (arrow (arrow (arrow (arrow (arrow (arrow (arrow (arrow (arrow (arrow (arrow (arrow (arrow (arrow (arrow (arrow (arrow (arrow (arrow (arrow (arrow (arrow (arrow (arrow (arrow (arrow (arrow (arrow (arrow (arrow (arrow (arrow (arrow (arrow (arrow (arrow (arrow (arrow (arrow (arrow (arrow (arrow (arrow (arrow (arrow (arrow (arrow (arrow (arrow (arrow (arrow (arrow (arrow (arrow (arrow (arrow (arrow (arrow (arrow (arrow (arrow (arrow (arrow (arrow (arrow (arrow (arrow (arrow (arrow (arrow (arrow (arrow (arrow (arrow (arrow (arrow (arrow (arrow (arrow (arrow (arrow (arrow (arrow (arrow (arrow (arrow (arrow (v "b") (c "Int" nil)) (c "Int" nil)) (c "Int" nil)) (c "Int" nil)) (c "Int" nil)) (c "Int" nil)) (c "Int" nil)) (c "Int" nil)) (c "Int" nil)) (c "Int" nil)) (c "Int" nil)) (c "Int" nil)) (c "Int" nil)) (c "Int" nil)) (c "Int" nil)) (c "Int" nil)) (c "Int" nil)) (c "Int" nil)) (c "Int" nil)) (c "Int" nil)) (c "Int" nil)) (c "Int" nil)) (c "Int" nil)) (c "Int" nil)) (c "Int" nil)) (c "Int" nil)) (c "Int" nil)) (c "Int" nil)) (c "Int" nil)) (c "Int" nil)) (c "Int" nil)) (c "Int" nil)) (c "Int" nil)) (c "Int" nil)) (c "Int" nil)) (c "Int" nil)) (c "Int" nil)) (c "Int" nil)) (c "Int" nil)) (c "Int" nil)) (c "Int" nil)) (c "Int" nil)) (c "Int" nil)) (c "Int" nil)) (c "Int" nil)) (c "Int" nil)) (c "Int" nil)) (c "Int" nil)) (c "Int" nil)) (c "Int" nil)) (c "Int" nil)) (c "Int" nil)) (c "Int" nil)) (c "Int" nil)) (c "Int" nil)) (c "Int" nil)) (c "Int" nil)) (c "Int" nil)) (c "Int" nil)) (c "Int" nil)) (c "Int" nil)) (c "Int" nil)) (c "Int" nil)) (c "Int" nil)) (c "Int" nil)) (c "Int" nil)) (c "Int" nil)) (c "Int" nil)) (c "Int" nil)) (c "Int" nil)) (c "Int" nil)) (c "Int" nil)) (c "Int" nil)) (c "Int" nil)) (c "Int" nil)) (c "Int" nil)) (c "Int" nil)) (c "Int" nil)) (c "Int" nil)) (c "Int" nil)) (c "Int" nil)) (c "Int" nil)) (c "Int" nil)) (c "Int" nil)) (c "Int" nil)) (c "Int" nil)) (c "Int" nil)) (c "Int" nil)) (c "Int" nil)) (c "Int" nil)) (c "Int" nil)) (c "Int" nil)) (c "Int" nil)) (c "Int" nil)) (c "Int" nil)) (c "Int" nil)) (c "Int" nil)) (c "Int" nil)) (c "Int" nil)) (c "Int" nil)) (c "Int" nil)) (c "Int" nil)) (c "Int" nil)) (c "Int" nil)) (c "Int" nil)) (c "Int" nil)) (c "Int" nil)) (c "Int" nil)) (c "Int" nil)) (c "Int" nil)) (c "Int" nil)) (c "Int" nil)) (c "Int" nil)) (c "Int" nil)) (c "Int" nil)) (c "Int" nil)) (c "Int" nil)) (c "Int" nil)) (c "Int" nil)) (c "Int" nil)) (c "Int" nil)) (c "Int" nil)) (c "Int" nil)) (c "Int" nil)) (c "Int" nil)) (c "Int" nil)) (c "Int" nil)) (c "Int" nil)) (c "Int" nil)) (c "Int" nil)) (c "Int" nil)) (c "Int" nil)) (c "Int" nil)) (c "Int" nil)) (c "Int" nil)) (c "Int" nil)) (c "Int" nil)) (c "Int" nil)) (c "Int" nil)) (c "Int" nil)) (c "Int" nil)) (c "Int" nil)) (c "Int" nil)) (c "Int" nil)) (c "Int" nil)) (c "Int" nil)) (c "Int" nil)) (c "Int" nil)) (c "Int" nil)) (c "Int" nil)))) ∷ sig "u105" (arrow (arrow (arrow (arrow (arrow (arrow (arrow (arrow (arrow (arrow (arrow (arrow (arrow (arrow (arrow (arrow (arrow (arrow (arrow (arrow (arrow (arrow (arrow (arrow (arrow (arrow (arrow (arrow (arrow (arrow (arrow (arrow (arrow (arrow (arrow (arrow (arrow (arrow (arrow (arrow (arrow (arrow (arrow (arrow (arrow (arrow (arrow (arrow (arrow (arrow (arrow (arrow (arrow (arrow (arrow (arrow (arrow (arrow (arrow (arrow (arrow (arrow (arrow (arrow (arrow (arrow (arrow (arrow (arrow (arrow (arrow (arrow (arrow (arrow (arrow (arrow (arrow (arrow (arrow (arrow (arrow (arrow (arrow (arrow (arrow (arrow (arrow (arrow (arrow (arrow (arrow (arrow (arrow (arrow (arrow (arrow (arrow (arrow (arrow (arrow (arrow (arrow (arrow (arrow (arrow (v "a") (c "Int" nil)) (c "Int" nil)) (c "Int" nil)) (c "Int" nil)) (c "Int" nil)) (c "Int" nil)) (c "Int" nil)) (c "Int" nil)) (c "Int" nil)) (c "Int" nil)) (c "Int" nil)) (c "Int" nil)) (c "Int" nil)) (c "Int" nil)) (c "Int" nil)) (c "Int" nil)) (c "Int" nil)) (c "Int" nil)) (c "Int" nil)) (c "Int" nil)) (c "Int" nil)) (c "Int" nil)) (c "Int" nil)) (c "Int" nil)) (c "Int" nil)) (c "Int" nil)) (c "Int" nil)) (c "Int" nil)) (c "Int" nil)) (c "Int" nil)) (c "Int" nil)) (c "Int" nil)) (c "Int" nil)) (c "Int" nil)) (c "Int" nil)) (c "Int" nil)) (c "Int" nil)) (c "Int" nil)) (c "Int" nil)) (c "Int" nil)) (c "Int" nil)) (c "Int" nil)) (c "Int" nil)) (c "Int" nil)) (c "Int" nil)) (c "Int" nil)) (c "Int" nil)) (c "Int" nil)) (c "Int" nil)) (c "Int" nil)) (c "Int" nil)) (c "Int" nil)) (c "Int" nil)) (c "Int" nil)) (c "Int" nil)) (c "Int" nil)) (c "Int" nil)) (c "Int" nil)) (c "Int" nil)) (c "Int" nil)) (c "Int" nil)) (c "Int" nil)) (c "Int" nil)) (c "Int" nil)) (c "Int" nil)) (c "Int" nil)) (c "Int" nil)) (c "Int" nil)) (c "Int" nil)) (c "Int" nil)) (c "Int" nil)) (c "Int" nil)) (c "Int" nil)) (c "Int" nil)) (c "Int" nil)) (c "Int" nil)) (c "Int" nil)) (c "Int" nil)) (c "Int" nil)) (c "Int" nil)) (c "Int" nil)) (c "Int" nil)) (c "Int" nil)) (c "Int" nil)) (c "Int" nil)) (c "Int" nil)) (c "Int" nil)) (c "Int" nil)) (c "Int" nil)) (c "Int" nil)) (c "Int" nil)) (c "Int" nil)) (c "Int" nil)) (c "Int" nil)) (c "Int" nil)) (c "Int" nil)) (c "Int" nil)) (c "Int" nil)) (c "Int" nil)) (c "Int" nil)) (c "Int" nil)) (c "Int" nil)) (c "Int" nil)) (c "Int" nil)) (c "Int" nil)) ∷ []) (body "f105" (eint 1) ∷ body "u105" (eint 1) ∷ [])
    ∷ instance [] "D105" (c "Int" nil) []
    ∷ check (lam "g" (eapp (ev "g") (eapp (eapp (ev "f105") (ev "g")) (ev "u105"))))
    ∷ class "D106" "a" [] (sig "f106" (arrow (arrow (arrow (arrow (arrow (arrow (arrow (arrow (arrow (arrow (arrow (arrow (arrow (arrow (arrow (arrow (arrow (arrow (arrow (arrow (arrow (arrow (arrow (arrow (arrow (arrow (arrow (arrow (arrow (arrow (arrow (arrow (arrow (arrow (arrow (arrow (arrow (arrow (arrow (arrow (arrow (arrow (arrow (arrow (arrow (arrow (arrow (arrow (arrow (arrow (arrow (arrow (arrow (arrow (arrow (arrow (arrow (arrow (arrow (arrow (arrow (arrow (arrow (arrow (arrow (arrow (arrow (arrow (arrow (arrow (arrow (arrow (arrow (arrow (arrow (arrow (arrow (arrow (arrow (arrow (arrow (arrow (arrow (arrow (arrow (arrow (arrow (arrow (arrow (arrow (arrow (arrow (arrow (arrow (arrow (arrow (arrow (arrow (arrow (arrow (arrow (arrow (arrow (arrow (arrow (arrow (arrow (arrow (arrow (arrow (arrow (arrow (arrow (arrow (arrow (arrow (arrow (arrow (arrow (arrow (arrow (arrow (arrow (arrow (arrow (arrow (arrow (arrow (arrow (arrow (arrow (arrow (arrow (arrow (arrow (arrow (arrow (arrow (arrow (arrow (arrow (arrow (arrow (arrow (arrow (arrow (arrow (arrow (arrow (arrow (arrow (arrow (v "b") (c "Int" nil)) (c "Int" nil)) (c "Int" nil)) (c "Int" nil)) (c "Int" nil)) (c "Int" nil)) (c "Int" nil)) (c "Int" nil)) (c "Int" nil)) (c "Int" nil)) (c "Int" nil)) (c "Int" nil)) (c "Int" nil)) (c "Int" nil)) (c "Int" nil)) (c "Int" nil)) (c "Int" nil)) (c "Int" nil)) (c "Int" nil)) (c "Int" nil)) (c "Int" nil)) (c "Int" nil)) (c "Int" nil)) (c "Int" nil)) (c "Int" nil)) (c "Int" nil)) (c "Int" nil)) (c "Int" nil)) (c "Int" nil)) (c "Int" nil)) (c "Int" nil)) (c "Int" nil)) (c "Int" nil)) (c "Int" nil)) (c "Int" nil)) (c "Int" nil)) (c "Int" nil)) (c "Int" nil)) (c "Int" nil)) (c "Int" nil)) (c "Int" nil)) (c "Int" nil)) (c "Int" nil)) (c "Int" nil)) (c "Int" nil)) (c "Int" nil)) (c "Int" nil)) (c "Int" nil)) (c "Int" nil)) (c "Int" nil)) (c "Int" nil)) (c "Int" nil)) (c "Int" nil)) (c "Int" nil)) (c "Int" nil)) (c "Int" nil)) (c "Int" nil)) (c "Int" nil)) (c "Int" nil)) (c "Int" nil)) (c "Int" nil)) (c "Int" nil)) (c "Int" nil)) (c "Int" nil)) (c "Int" nil)) (c "Int" nil)) (c "Int" nil)) (c "Int" nil)) (c "Int" nil)) (c "Int" nil)) (c "Int" nil)) (c "Int" nil)) (c "Int" nil)) (c "Int" nil)) (c "Int" nil)) (c "Int" nil)) (c "Int" nil)) (c "Int" nil)) (c "Int" nil)) (c "Int" nil)) (c "Int" nil)) (c "Int" nil)) (c "Int" nil)) (c "Int" nil)) (c "Int" nil)) (c "Int" nil)) (c "Int" nil)) (c "Int" nil)) (c "Int" nil)) (c "Int" nil)) (c "Int" nil)) (c "Int" nil)) (c "Int" nil)) (c "Int" nil)) (c "Int" nil)) (c "Int" nil)) (c "Int" nil)) (c "Int" nil)) (c "Int" nil)) (c "Int" nil)) (c "Int" nil)) (c "Int" nil)) (c "Int" nil)) (c "Int" nil)) (c "Int" nil)) (c "Int" nil)) (c "Int" nil)) (c "Int" nil)) (c "Int" nil)) (c "Int" nil)) (c "Int" nil)) (c "Int" nil)) (c "Int" nil)) (c "Int" nil)) (c "Int" nil)) (c "Int" nil)) (c "Int" nil)) (c "Int" nil)) (c "Int" nil)) (c "Int" nil)) (c "Int" nil)) (c "Int" nil)) (c "Int" nil)) (c "Int" nil)) (c "Int" nil)) (c "Int" nil)) (c "Int" nil)) (c "Int" nil)) (c "Int" nil)) (c "Int" nil)) (c "Int" nil)) (c "Int" nil)) (c "Int" nil)) (c "Int" nil)) (c "Int" nil)) (c "Int" nil)) (c "Int" nil)) (c "Int" nil)) (c "Int" nil)) (c "Int" nil)) (c "Int" nil)) (c "Int" nil)) (c "Int" nil)) (c "Int" nil)) (c "Int" nil)) (c "Int" nil)) (c "Int" nil)) (c "Int" nil)) (c "Int" nil)) (c "Int" nil)) (v "a")) (arrow (v "b") (arrow (arrow (arrow (arrow (arrow (arrow (arrow (arrow (arrow (arrow (arrow (arrow (arrow (arrow (arrow (arrow (arrow (arrow (arrow (arrow (arrow (arrow (arrow (arrow (arrow (arrow (arrow (arrow (arrow (arrow (arrow (arrow (arrow (arrow (arrow (arrow (arrow (arrow (arrow (arrow (arrow (arrow (arrow (arrow (arrow (arrow (arrow (arrow (arrow (arrow (arrow (arrow (arrow (arrow (arrow (arrow (arrow (arrow (arrow (arrow (arrow (arrow (arrow (arrow (arrow (arrow (arrow (arrow (arrow (arrow (arrow (arrow (arrow (arrow (arrow (arrow (arrow (arrow (arrow (arrow (arrow (arrow (arrow (arrow (arrow (arrow (arrow (arrow (arrow (arrow (arrow (arrow (arrow (arrow (arrow (arrow (arrow (arrow (arrow (arrow (arrow (arrow (arrow (arrow (arrow (arrow (arrow (arrow (arrow (arrow (arrow (arrow (arrow (arrow (arrow (arrow (arrow (arrow (arrow (arrow (arrow (arrow (arrow (arrow (arrow (arrow (arrow (arrow (arrow (arrow (arrow (arrow (arrow (arrow (arrow (arrow (arrow (arrow (arrow (arrow (arrow (arrow (arrow (arrow (arrow (arrow (arrow (arrow (arrow (arrow (v "b") (c "Int" nil)) (c "Int" nil)) (c "Int" nil)) (c "Int" nil)) (c "Int" nil)) (c "Int" nil)) (c "Int" nil)) (c "Int" nil)) (c "Int" nil)) (c "Int" nil)) (c "Int" nil)) (c "Int" nil)) (c "Int" nil)) (c "Int" nil)) (c "Int" nil)) (c "Int" nil)) (c "Int" nil)) (c "Int" nil)) (c "Int" nil)) (c "Int" nil)) (c "Int" nil)) (c "Int" nil)) (c "Int" nil)) (c "Int" nil)) (c "Int" nil)) (c "Int" nil)) (c "Int" nil)) (c "Int" nil)) (c "Int" nil)) (c "Int" nil)) (c "Int" nil)) (c "Int" nil)) (c "Int" nil)) (c "Int" nil)) (c "Int" nil)) (c "Int" nil)) (c "Int" nil)) (c "Int" nil)) (c "Int" nil)) (c "Int" nil)) (c "Int" nil)) (c "Int" nil)) (c "Int" nil)) (c "Int" nil)) (c "Int" nil)) (c "Int" nil)) (c "Int" nil)) (c "Int" nil)) (c "Int" nil)) (c "Int" nil)) (c "Int" nil)) (c "Int" nil)) (c "Int" nil)) (c "Int" nil)) (c "Int" nil)) (c "Int" nil)) (c "Int" nil)) (c "Int" nil)) (c "Int" nil)) (c "Int" nil)) (c "Int" nil)) (c "Int" nil)) (c "Int" nil)) (c "Int" nil)) (c "Int" nil)) (c "Int" nil)) (c "Int" nil)) (c "Int" nil)) (c "Int" nil)) (c "Int" nil)) (c "Int" nil)) (c "Int" nil)) (c "Int" nil)) (c "Int" nil)) (c "Int" nil)) (c "Int" nil)) (c "Int" nil)) (c "Int" nil)) (c "Int" nil)) (c "Int" nil)) (c "Int" nil)) (c "Int" nil)) (c "Int" nil)) (c "Int" nil)) (c "Int" nil)) (c "Int" nil)) (c "Int" nil)) (c "Int" nil)) (c "Int" nil)) (c "Int" nil)) (c "Int" nil)) (c "Int" nil)) (c "Int" nil)) (c "Int" nil)) (c "Int" nil)) (c "Int" nil)) (c "Int" nil)) (c "Int" nil)) (c "Int" nil)) (c "Int" nil)) (c "Int" nil)) (c "Int" nil)) (c "Int" nil)) (c "Int" nil)) (c "Int" nil)) (c "Int" nil)) (c "Int" nil)) (c "Int" nil)) (c "Int" nil)) (c "Int" nil)) (c "Int" nil)) (c "Int" nil)) (c "Int" nil)) (c "Int" nil)) (c "Int" nil)) (c "Int" nil)) (c "Int" nil)) (c "Int" nil)) (c "Int" nil)) (c "Int" nil)) (c "Int" nil)) (c "Int" nil)) (c "Int" nil)) (c "Int" nil)) (c "Int" nil)) (c "Int" nil)) (c "Int" nil)) (c "Int" nil)) (c "Int" nil)) (c "Int" nil)) (c "Int" nil)) (c "Int" nil)) (c "Int" nil)) (c "Int" nil)) (c "Int" nil)) (c "Int" nil)) (c "Int" nil)) (c "Int" nil)) (c "Int" nil)) (c "Int" nil)) (c "Int" nil)) (c "Int" nil)) (c "Int" nil)) (c "Int" nil)) (c "Int" nil)) (c "Int" nil)) (c "Int" nil)) (c "Int" nil)) (c "Int" nil)) (c "Int" nil)))) ∷ sig "u106" (arrow (arrow (arrow (arrow (arrow (arrow (arrow (arrow (arrow (arrow (arrow (arrow (arrow (arrow (arrow (arrow (arrow (arrow (arrow (arrow (arrow (arrow (arrow (arrow (arrow (arrow (arrow (arrow (arrow (arrow (arrow (arrow (arrow (arrow (arrow (arrow (arrow (arrow (arrow (arrow (arrow (arrow (arrow (arrow (arrow (arrow (arrow (arrow (arrow (arrow (arrow (arrow (arrow (arrow (arrow (arrow (arrow (arrow (arrow (arrow (arrow (arrow (arrow (arrow (arrow (arrow (arrow (arrow (arrow (arrow (arrow (arrow (arrow (arrow (arrow (arrow (arrow (arrow (arrow (arrow (arrow (arrow (arrow (arrow (arrow (arrow (arrow (arrow (arrow (arrow (arrow (arrow (arrow (arrow (arrow (arrow (arrow (arrow (arrow (arrow (arrow (arrow (arrow (arrow (arrow (arrow (v "a") (c "Int" nil)) (c "Int" nil)) (c "Int" nil)) (c "Int" nil)) (c "Int" nil)) (c "Int" nil)) (c "Int" nil)) (c "Int" nil)) (c "Int" nil)) (c "Int" nil)) (c "Int" nil)) (c "Int" nil)) (c "Int" nil)) (c "Int" nil)) (c "Int" nil)) (c "Int" nil)) (c "Int" nil)) (c "Int" nil)) (c "Int" nil)) (c "Int" nil)) (c "Int" nil)) (c "Int" nil)) (c "Int" nil)) (c "Int" nil)) (c "Int" nil)) (c "Int" nil)) (c "Int" nil)) (c "Int" nil)) (c "Int" nil)) (c "Int" nil)) (c "Int" nil)) (c "Int" nil)) (c "Int" nil)) (c "Int" nil)) (c "Int" nil)) (c "Int" nil)) (c "Int" nil)) (c "Int" nil)) (c "Int" nil)) (c "Int" nil)) (c "Int" nil)) (c "Int" nil)) (c "Int" nil)) (c "Int" nil)) (c "Int" nil)) (c "Int" nil)) (c "Int" nil)) (c "Int" nil)) (c "Int" nil)) (c "Int" nil)) (c "Int" nil)) (c "Int" nil)) (c "Int" nil)) (c "Int" nil)) (c "Int" nil)) (c "Int" nil)) (c "Int" nil)) (c "Int" nil)) (c "Int" nil)) (c "Int" nil)) (c "Int" nil)) (c "Int" nil)) (c "Int" nil)) (c "Int" nil)) (c "Int" nil)) (c "Int" nil)) (c "Int" nil)) (c "Int" nil)) (c "Int" nil)) (c "Int" nil)) (c "Int" nil)) (c "Int" nil)) (c "Int" nil)) (c "Int" nil)) (c "Int" nil)) (c "Int" nil)) (c "Int" nil)) (c "Int" nil)) (c "Int" nil)) (c "Int" nil)) (c "Int" nil)) (c "Int" nil)) (c "Int" nil)) (c "Int" nil)) (c "Int" nil)) (c "Int" nil)) (c "Int" nil)) (c "Int" nil)) (c "Int" nil)) (c "Int" nil)) (c "Int" nil)) (c "Int" nil)) (c "Int" nil)) (c "Int" nil)) (c "Int" nil)) (c "Int" nil)) (c "Int" nil)) (c "Int" nil)) (c "Int" nil)) (c "Int" nil)) (c "Int" nil)) (c "Int" nil)) (c "Int" nil)) (c "Int" nil)) (c "Int" nil)) (c "Int" nil)) ∷ []) (body "f106" (eint 1) ∷ body "u106" (eint 1) ∷ [])
    ∷ instance [] "D106" (c "Int" nil) []
    ∷ check (lam "g" (eapp (ev "g") (eapp (eapp (ev "f106") (ev "g")) (ev "u106"))))
    ∷ []

big_depth_unify_computed : metered 1000000 67108864 1000000 big_depth_unify ≡ said "declarations 12\n0 0 - | 1630 1663 0 0\n1 0 - | 7 1666 0 0\n2 0 [D103 a, D103 b] (-> (-> (-> (-> (-> (-> (-> (-> (-> (-> (-> (-> (-> (-> (-> (-> (-> (-> (-> (-> (-> (-> (-> (-> (-> (-> (-> (-> (-> (-> (-> (-> (-> (-> (-> (-> (-> (-> (-> (-> (-> (-> (-> (-> (-> (-> (-> (-> (-> (-> (-> (-> (-> (-> (-> (-> (-> (-> (-> (-> (-> (-> (-> (-> (-> (-> (-> (-> (-> (-> (-> (-> (-> (-> (-> (-> (-> (-> (-> (-> (-> (-> (-> (-> (-> (-> (-> (-> (-> (-> (-> (-> (-> (-> (-> (-> (-> (-> (-> (-> (-> (-> (-> (-> (-> (-> (-> (-> (-> (-> (-> (-> (-> (-> (-> (-> (-> (-> (-> (-> (-> (-> (-> (-> (-> (-> (-> (-> (-> (-> (-> (-> (-> (-> (-> (-> (-> (-> (-> (-> (-> (-> (-> (-> (-> (-> (-> (-> (-> (-> (-> (-> (-> (-> (-> (-> (-> (-> (-> (-> (-> (-> (-> (-> (-> (-> (-> (-> (-> (-> (-> (-> (-> (-> (-> (-> (-> (-> (-> (-> (-> (-> (-> (-> (-> (-> (-> (-> (-> (-> (-> (-> (-> (-> (-> (-> (-> (-> (-> (-> (-> (-> (-> (-> (-> (-> (-> (-> (-> (-> (-> (-> (-> (-> (-> (-> (-> (-> (-> (-> (-> (-> (-> (-> (-> (-> (-> (-> (-> (-> (-> (-> (-> (-> (-> (-> (-> (-> (-> (-> (-> (-> (-> (-> (-> (-> (-> (-> (-> (-> (-> (-> (-> (-> (-> b Int) Int) Int) Int) Int) Int) Int) Int) Int) Int) Int) Int) Int) Int) Int) Int) Int) Int) Int) Int) Int) Int) Int) Int) Int) Int) Int) Int) Int) Int) Int) Int) Int) Int) Int) Int) Int) Int) Int) Int) Int) Int) Int) Int) Int) Int) Int) Int) Int) Int) Int) Int) Int) Int) Int) Int) Int) Int) Int) Int) Int) Int) Int) Int) Int) Int) Int) Int) Int) Int) Int) Int) Int) Int) Int) Int) Int) Int) Int) Int) Int) Int) Int) Int) Int) Int) Int) Int) Int) Int) Int) Int) Int) Int) Int) Int) Int) Int) Int) Int) Int) Int) Int) Int) Int) Int) Int) Int) Int) Int) Int) Int) Int) Int) Int) Int) Int) Int) Int) Int) Int) Int) Int) Int) Int) Int) Int) Int) Int) Int) Int) Int) Int) Int) Int) Int) Int) Int) Int) Int) Int) Int) Int) Int) Int) Int) Int) Int) Int) Int) Int) Int) Int) Int) Int) Int) Int) Int) Int) Int) Int) Int) Int) Int) Int) Int) Int) Int) Int) Int) Int) Int) Int) Int) Int) Int) Int) Int) Int) Int) Int) Int) Int) Int) Int) Int) Int) Int) Int) Int) Int) Int) Int) Int) Int) Int) Int) Int) Int) Int) Int) Int) Int) Int) Int) Int) Int) Int) Int) Int) Int) Int) Int) Int) Int) Int) Int) Int) Int) Int) Int) Int) Int) Int) Int) Int) Int) Int) Int) Int) Int) Int) Int) Int) Int) Int) Int) Int) Int) Int) Int) Int) Int) Int) Int) Int) Int) Int) Int) Int) Int) Int) Int) a) a) = (dabs [d0 D103 a, d1 D103 b] (lam g (app g (app (app (proj d0 f103) g) (proj d1 u103))))) | 8089 1666 7 2\n3 0 - | 1634 3300 7 2\n4 0 - | 7 3303 7 2\n5 7 - | 7312 3303 7 2\n6 0 - | 1638 4941 7 2\n7 0 - | 7 4944 7 2\n8 7 - | 4343 4944 7 2\n9 0 - | 1642 6586 7 2\n10 0 - | 7 6589 7 2\n11 7 - | 4347 6589 7 2\n"
unfolding everything metered said
big_depth_unify_computed = refl

abbrev big_endless : List Decl
big_endless =
    class "Eq" "a" [] (sig "eq" (arrow (v "a") (arrow (v "a") (c "Bool" nil))) ∷ []) (body "eq" (eint 1) ∷ [])
    ∷ instance (at "Eq" (c "List" ((v "a") ◂ nil)) ∷ []) "Eq" (v "a") []
    ∷ check (eapp (ev "eq") (eint 1))
    ∷ []

big_endless_computed : metered 1000000 67108864 1000000 big_endless ≡ said "declarations 3\n0 0 - | 11 44 0 0\n1 0 - | 6 48 0 0\n2 7 - | 1052 48 0 0\n"
unfolding everything metered said
big_endless_computed = refl

abbrev big_endless2 : List Decl
big_endless2 =
    class "Eq" "a" [] (sig "eq" (arrow (v "a") (arrow (v "a") (c "Bool" nil))) ∷ []) (body "eq" (eint 1) ∷ [])
    ∷ instance (at "Eq" (v "a") ∷ []) "Eq" (v "a") []
    ∷ check (eapp (ev "eq") (eint 1))
    ∷ define "f" (lam "x" (eapp (ev "eq") (ev "x")))
    ∷ class "Sub" "a" ("Eq" ∷ []) [] []
    ∷ instance [] "Sub" (c "Int" nil) []
    ∷ instance (at "Eq" (c "Int" nil) ∷ []) "Sub" (c "Int" nil) []
    ∷ []

big_endless2_computed : metered 1000000 67108864 1000000 big_endless2 ≡ said "declarations 7\n0 0 - | 11 44 0 0\n1 0 - | 5 47 0 0\n2 7 - | 796 47 0 0\n3 0 [Eq a] (-> a (-> a Bool)) | 52 53 3 1\n4 0 - | 0 53 3 1\n5 7 - | 769 53 3 1\n6 0 - | 5 56 3 1\n"
unfolding everything metered said
big_endless2_computed = refl

abbrev big_endless3 : List Decl
big_endless3 =
    class "Eq" "a" [] (sig "eq" (arrow (v "a") (arrow (v "a") (c "Bool" nil))) ∷ []) (body "eq" (eint 1) ∷ [])
    ∷ class "Mk" "a" [] (sig "mk" (arrow (v "a") (c "List" ((v "a") ◂ nil))) ∷ []) (body "mk" (eint 1) ∷ [])
    ∷ instance [] "Mk" (c "Int" nil) []
    ∷ instance (at "Eq" (c "List" ((c "List" ((v "a") ◂ nil)) ◂ nil)) ∷ []) "Eq" (c "List" ((v "a") ◂ nil)) []
    ∷ check (eapp (ev "eq") (eapp (ev "mk") (eint 1)))
    ∷ check (lam "x" (eapp (ev "eq") (eapp (ev "mk") (ev "x"))))
    ∷ []

big_endless3_computed : metered 1000000 67108864 1000000 big_endless3 ≡ said "declarations 6\n0 0 - | 11 44 0 0\n1 0 - | 9 53 0 0\n2 0 - | 4 55 0 0\n3 0 - | 8 61 0 0\n4 7 - | 1592 61 0 0\n5 7 - | 1599 61 0 0\n"
unfolding everything metered said
big_endless3_computed = refl

abbrev big_spend_first : List Decl
big_spend_first =
    class "C" "a" ("Nope" ∷ []) (sig "m" (c "Pair" ((c "Pair" ((c "Pair" ((c "Pair" ((c "Pair" ((c "Pair" ((c "Pair" ((c "Pair" ((c "Int" nil) ◂ (c "Int" nil) ◂ nil)) ◂ (c "Pair" ((c "Int" nil) ◂ (c "Int" nil) ◂ nil)) ◂ nil)) ◂ (c "Pair" ((c "Pair" ((c "Int" nil) ◂ (c "Int" nil) ◂ nil)) ◂ (c "Pair" ((c "Int" nil) ◂ (c "Int" nil) ◂ nil)) ◂ nil)) ◂ nil)) ◂ (c "Pair" ((c "Pair" ((c "Pair" ((c "Int" nil) ◂ (c "Int" nil) ◂ nil)) ◂ (c "Pair" ((c "Int" nil) ◂ (c "Int" nil) ◂ nil)) ◂ nil)) ◂ (c "Pair" ((c "Pair" ((c "Int" nil) ◂ (c "Int" nil) ◂ nil)) ◂ (c "Pair" ((c "Int" nil) ◂ (c "Int" nil) ◂ nil)) ◂ nil)) ◂ nil)) ◂ nil)) ◂ (c "Pair" ((c "Pair" ((c "Pair" ((c "Pair" ((c "Int" nil) ◂ (c "Int" nil) ◂ nil)) ◂ (c "Pair" ((c "Int" nil) ◂ (c "Int" nil) ◂ nil)) ◂ nil)) ◂ (c "Pair" ((c "Pair" ((c "Int" nil) ◂ (c "Int" nil) ◂ nil)) ◂ (c "Pair" ((c "Int" nil) ◂ (c "Int" nil) ◂ nil)) ◂ nil)) ◂ nil)) ◂ (c "Pair" ((c "Pair" ((c "Pair" ((c "Int" nil) ◂ (c "Int" nil) ◂ nil)) ◂ (c "Pair" ((c "Int" nil) ◂ (c "Int" nil) ◂ nil)) ◂ nil)) ◂ (c "Pair" ((c "Pair" ((c "Int" nil) ◂ (c "Int" nil) ◂ nil)) ◂ (c "Pair" ((c "Int" nil) ◂ (c "Int" nil) ◂ nil)) ◂ nil)) ◂ nil)) ◂ nil)) ◂ nil)) ◂ (c "Pair" ((c "Pair" ((c "Pair" ((c "Pair" ((c "Pair" ((c "Int" nil) ◂ (c "Int" nil) ◂ nil)) ◂ (c "Pair" ((c "Int" nil) ◂ (c "Int" nil) ◂ nil)) ◂ nil)) ◂ (c "Pair" ((c "Pair" ((c "Int" nil) ◂ (c "Int" nil) ◂ nil)) ◂ (c "Pair" ((c "Int" nil) ◂ (c "Int" nil) ◂ nil)) ◂ nil)) ◂ nil)) ◂ (c "Pair" ((c "Pair" ((c "Pair" ((c "Int" nil) ◂ (c "Int" nil) ◂ nil)) ◂ (c "Pair" ((c "Int" nil) ◂ (c "Int" nil) ◂ nil)) ◂ nil)) ◂ (c "Pair" ((c "Pair" ((c "Int" nil) ◂ (c "Int" nil) ◂ nil)) ◂ (c "Pair" ((c "Int" nil) ◂ (c "Int" nil) ◂ nil)) ◂ nil)) ◂ nil)) ◂ nil)) ◂ (c "Pair" ((c "Pair" ((c "Pair" ((c "Pair" ((c "Int" nil) ◂ (c "Int" nil) ◂ nil)) ◂ (c "Pair" ((c "Int" nil) ◂ (c "Int" nil) ◂ nil)) ◂ nil)) ◂ (c "Pair" ((c "Pair" ((c "Int" nil) ◂ (c "Int" nil) ◂ nil)) ◂ (c "Pair" ((c "Int" nil) ◂ (c "Int" nil) ◂ nil)) ◂ nil)) ◂ nil)) ◂ (c "Pair" ((c "Pair" ((c "Pair" ((c "Int" nil) ◂ (c "Int" nil) ◂ nil)) ◂ (c "Pair" ((c "Int" nil) ◂ (c "Int" nil) ◂ nil)) ◂ nil)) ◂ (c "Pair" ((c "Pair" ((c "Int" nil) ◂ (c "Int" nil) ◂ nil)) ◂ (c "Pair" ((c "Int" nil) ◂ (c "Int" nil) ◂ nil)) ◂ nil)) ◂ nil)) ◂ nil)) ◂ nil)) ◂ nil)) ◂ (c "Pair" ((c "Pair" ((c "Pair" ((c "Pair" ((c "Pair" ((c "Pair" ((c "Int" nil) ◂ (c "Int" nil) ◂ nil)) ◂ (c "Pair" ((c "Int" nil) ◂ (c "Int" nil) ◂ nil)) ◂ nil)) ◂ (c "Pair" ((c "Pair" ((c "Int" nil) ◂ (c "Int" nil) ◂ nil)) ◂ (c "Pair" ((c "Int" nil) ◂ (c "Int" nil) ◂ nil)) ◂ nil)) ◂ nil)) ◂ (c "Pair" ((c "Pair" ((c "Pair" ((c "Int" nil) ◂ (c "Int" nil) ◂ nil)) ◂ (c "Pair" ((c "Int" nil) ◂ (c "Int" nil) ◂ nil)) ◂ nil)) ◂ (c "Pair" ((c "Pair" ((c "Int" nil) ◂ (c "Int" nil) ◂ nil)) ◂ (c "Pair" ((c "Int" nil) ◂ (c "Int" nil) ◂ nil)) ◂ nil)) ◂ nil)) ◂ nil)) ◂ (c "Pair" ((c "Pair" ((c "Pair" ((c "Pair" ((c "Int" nil) ◂ (c "Int" nil) ◂ nil)) ◂ (c "Pair" ((c "Int" nil) ◂ (c "Int" nil) ◂ nil)) ◂ nil)) ◂ (c "Pair" ((c "Pair" ((c "Int" nil) ◂ (c "Int" nil) ◂ nil)) ◂ (c "Pair" ((c "Int" nil) ◂ (c "Int" nil) ◂ nil)) ◂ nil)) ◂ nil)) ◂ (c "Pair" ((c "Pair" ((c "Pair" ((c "Int" nil) ◂ (c "Int" nil) ◂ nil)) ◂ (c "Pair" ((c "Int" nil) ◂ (c "Int" nil) ◂ nil)) ◂ nil)) ◂ (c "Pair" ((c "Pair" ((c "Int" nil) ◂ (c "Int" nil) ◂ nil)) ◂ (c "Pair" ((c "Int" nil) ◂ (c "Int" nil) ◂ nil)) ◂ nil)) ◂ nil)) ◂ nil)) ◂ nil)) ◂ (c "Pair" ((c "Pair" ((c "Pair" ((c "Pair" ((c "Pair" ((c "Int" nil) ◂ (c "Int" nil) ◂ nil)) ◂ (c "Pair" ((c "Int" nil) ◂ (c "Int" nil) ◂ nil)) ◂ nil)) ◂ (c "Pair" ((c "Pair" ((c "Int" nil) ◂ (c "Int" nil) ◂ nil)) ◂ (c "Pair" ((c "Int" nil) ◂ (c "Int" nil) ◂ nil)) ◂ nil)) ◂ nil)) ◂ (c "Pair" ((c "Pair" ((c "Pair" ((c "Int" nil) ◂ (c "Int" nil) ◂ nil)) ◂ (c "Pair" ((c "Int" nil) ◂ (c "Int" nil) ◂ nil)) ◂ nil)) ◂ (c "Pair" ((c "Pair" ((c "Int" nil) ◂ (c "Int" nil) ◂ nil)) ◂ (c "Pair" ((c "Int" nil) ◂ (c "Int" nil) ◂ nil)) ◂ nil)) ◂ nil)) ◂ nil)) ◂ (c "Pair" ((c "Pair" ((c "Pair" ((c "Pair" ((c "Int" nil) ◂ (c "Int" nil) ◂ nil)) ◂ (c "Pair" ((c "Int" nil) ◂ (c "Int" nil) ◂ nil)) ◂ nil)) ◂ (c "Pair" ((c "Pair" ((c "Int" nil) ◂ (c "Int" nil) ◂ nil)) ◂ (c "Pair" ((c "Int" nil) ◂ (c "Int" nil) ◂ nil)) ◂ nil)) ◂ nil)) ◂ (c "Pair" ((c "Pair" ((c "Pair" ((c "Int" nil) ◂ (c "Int" nil) ◂ nil)) ◂ (c "Pair" ((c "Int" nil) ◂ (c "Int" nil) ◂ nil)) ◂ nil)) ◂ (c "Pair" ((c "Pair" ((c "Int" nil) ◂ (c "Int" nil) ◂ nil)) ◂ (c "Pair" ((c "Int" nil) ◂ (c "Int" nil) ◂ nil)) ◂ nil)) ◂ nil)) ◂ nil)) ◂ nil)) ◂ nil)) ◂ nil)) ◂ (c "Pair" ((c "Pair" ((c "Pair" ((c "Pair" ((c "Pair" ((c "Pair" ((c "Pair" ((c "Int" nil) ◂ (c "Int" nil) ◂ nil)) ◂ (c "Pair" ((c "Int" nil) ◂ (c "Int" nil) ◂ nil)) ◂ nil)) ◂ (c "Pair" ((c "Pair" ((c "Int" nil) ◂ (c "Int" nil) ◂ nil)) ◂ (c "Pair" ((c "Int" nil) ◂ (c "Int" nil) ◂ nil)) ◂ nil)) ◂ nil)) ◂ (c "Pair" ((c "Pair" ((c "Pair" ((c "Int" nil) ◂ (c "Int" nil) ◂ nil)) ◂ (c "Pair" ((c "Int" nil) ◂ (c "Int" nil) ◂ nil)) ◂ nil)) ◂ (c "Pair" ((c "Pair" ((c "Int" nil) ◂ (c "Int" nil) ◂ nil)) ◂ (c "Pair" ((c "Int" nil) ◂ (c "Int" nil) ◂ nil)) ◂ nil)) ◂ nil)) ◂ nil)) ◂ (c "Pair" ((c "Pair" ((c "Pair" ((c "Pair" ((c "Int" nil) ◂ (c "Int" nil) ◂ nil)) ◂ (c "Pair" ((c "Int" nil) ◂ (c "Int" nil) ◂ nil)) ◂ nil)) ◂ (c "Pair" ((c "Pair" ((c "Int" nil) ◂ (c "Int" nil) ◂ nil)) ◂ (c "Pair" ((c "Int" nil) ◂ (c "Int" nil) ◂ nil)) ◂ nil)) ◂ nil)) ◂ (c "Pair" ((c "Pair" ((c "Pair" ((c "Int" nil) ◂ (c "Int" nil) ◂ nil)) ◂ (c "Pair" ((c "Int" nil) ◂ (c "Int" nil) ◂ nil)) ◂ nil)) ◂ (c "Pair" ((c "Pair" ((c "Int" nil) ◂ (c "Int" nil) ◂ nil)) ◂ (c "Pair" ((c "Int" nil) ◂ (c "Int" nil) ◂ nil)) ◂ nil)) ◂ nil)) ◂ nil)) ◂ nil)) ◂ (c "Pair" ((c "Pair" ((c "Pair" ((c "Pair" ((c "Pair" ((c "Int" nil) ◂ (c "Int" nil) ◂ nil)) ◂ (c "Pair" ((c "Int" nil) ◂ (c "Int" nil) ◂ nil)) ◂ nil)) ◂ (c "Pair" ((c "Pair" ((c "Int" nil) ◂ (c "Int" nil) ◂ nil)) ◂ (c "Pair" ((c "Int" nil) ◂ (c "Int" nil) ◂ nil)) ◂ nil)) ◂ nil)) ◂ (c "Pair" ((c "Pair" ((c "Pair" ((c "Int" nil) ◂ (c "Int" nil) ◂ nil)) ◂ (c "Pair" ((c "Int" nil) ◂ (c "Int" nil) ◂ nil)) ◂ nil)) ◂ (c "Pair" ((c "Pair" ((c "Int" nil) ◂ (c "Int" nil) ◂ nil)) ◂ (c "Pair" ((c "Int" nil) ◂ (c "Int" nil) ◂ nil)) ◂ nil)) ◂ nil)) ◂ nil)) ◂ (c "Pair" ((c "Pair" ((c "Pair" ((c "Pair" ((c "Int" nil) ◂ (c "Int" nil) ◂ nil)) ◂ (c "Pair" ((c "Int" nil) ◂ (c "Int" nil) ◂ nil)) ◂ nil)) ◂ (c "Pair" ((c "Pair" ((c "Int" nil) ◂ (c "Int" nil) ◂ nil)) ◂ (c "Pair" ((c "Int" nil) ◂ (c "Int" nil) ◂ nil)) ◂ nil)) ◂ nil)) ◂ (c "Pair" ((c "Pair" ((c "Pair" ((c "Int" nil) ◂ (c "Int" nil) ◂ nil)) ◂ (c "Pair" ((c "Int" nil) ◂ (c "Int" nil) ◂ nil)) ◂ nil)) ◂ (c "Pair" ((c "Pair" ((c "Int" nil) ◂ (c "Int" nil) ◂ nil)) ◂ (c "Pair" ((c "Int" nil) ◂ (c "Int" nil) ◂ nil)) ◂ nil)) ◂ nil)) ◂ nil)) ◂ nil)) ◂ nil)) ◂ (c "Pair" ((c "Pair" ((c "Pair" ((c "Pair" ((c "Pair" ((c "Pair" ((c "Int" nil) ◂ (c "Int" nil) ◂ nil)) ◂ (c "Pair" ((c "Int" nil) ◂ (c "Int" nil) ◂ nil)) ◂ nil)) ◂ (c "Pair" ((c "Pair" ((c "Int" nil) ◂ (c "Int" nil) ◂ nil)) ◂ (c "Pair" ((c "Int" nil) ◂ (c "Int" nil) ◂ nil)) ◂ nil)) ◂ nil)) ◂ (c "Pair" ((c "Pair" ((c "Pair" ((c "Int" nil) ◂ (c "Int" nil) ◂ nil)) ◂ (c "Pair" ((c "Int" nil) ◂ (c "Int" nil) ◂ nil)) ◂ nil)) ◂ (c "Pair" ((c "Pair" ((c "Int" nil) ◂ (c "Int" nil) ◂ nil)) ◂ (c "Pair" ((c "Int" nil) ◂ (c "Int" nil) ◂ nil)) ◂ nil)) ◂ nil)) ◂ nil)) ◂ (c "Pair" ((c "Pair" ((c "Pair" ((c "Pair" ((c "Int" nil) ◂ (c "Int" nil) ◂ nil)) ◂ (c "Pair" ((c "Int" nil) ◂ (c "Int" nil) ◂ nil)) ◂ nil)) ◂ (c "Pair" ((c "Pair" ((c "Int" nil) ◂ (c "Int" nil) ◂ nil)) ◂ (c "Pair" ((c "Int" nil) ◂ (c "Int" nil) ◂ nil)) ◂ nil)) ◂ nil)) ◂ (c "Pair" ((c "Pair" ((c "Pair" ((c "Int" nil) ◂ (c "Int" nil) ◂ nil)) ◂ (c "Pair" ((c "Int" nil) ◂ (c "Int" nil) ◂ nil)) ◂ nil)) ◂ (c "Pair" ((c "Pair" ((c "Int" nil) ◂ (c "Int" nil) ◂ nil)) ◂ (c "Pair" ((c "Int" nil) ◂ (c "Int" nil) ◂ nil)) ◂ nil)) ◂ nil)) ◂ nil)) ◂ nil)) ◂ (c "Pair" ((c "Pair" ((c "Pair" ((c "Pair" ((c "Pair" ((c "Int" nil) ◂ (c "Int" nil) ◂ nil)) ◂ (c "Pair" ((c "Int" nil) ◂ (c "Int" nil) ◂ nil)) ◂ nil)) ◂ (c "Pair" ((c "Pair" ((c "Int" nil) ◂ (c "Int" nil) ◂ nil)) ◂ (c "Pair" ((c "Int" nil) ◂ (c "Int" nil) ◂ nil)) ◂ nil)) ◂ nil)) ◂ (c "Pair" ((c "Pair" ((c "Pair" ((c "Int" nil) ◂ (c "Int" nil) ◂ nil)) ◂ (c "Pair" ((c "Int" nil) ◂ (c "Int" nil) ◂ nil)) ◂ nil)) ◂ (c "Pair" ((c "Pair" ((c "Int" nil) ◂ (c "Int" nil) ◂ nil)) ◂ (c "Pair" ((c "Int" nil) ◂ (c "Int" nil) ◂ nil)) ◂ nil)) ◂ nil)) ◂ nil)) ◂ (c "Pair" ((c "Pair" ((c "Pair" ((c "Pair" ((c "Int" nil) ◂ (c "Int" nil) ◂ nil)) ◂ (c "Pair" ((c "Int" nil) ◂ (c "Int" nil) ◂ nil)) ◂ nil)) ◂ (c "Pair" ((c "Pair" ((c "Int" nil) ◂ (c "Int" nil) ◂ nil)) ◂ (c "Pair" ((c "Int" nil) ◂ (c "Int" nil) ◂ nil)) ◂ nil)) ◂ nil)) ◂ (c "Pair" ((c "Pair" ((c "Pair" ((c "Int" nil) ◂ (c "Int" nil) ◂ nil)) ◂ (c "Pair" ((c "Int" nil) ◂ (c "Int" nil) ◂ nil)) ◂ nil)) ◂ (c "Pair" ((c "Pair" ((c "Int" nil) ◂ (c "Int" nil) ◂ nil)) ◂ (c "Pair" ((c "Int" nil) ◂ (c "Int" nil) ◂ nil)) ◂ nil)) ◂ nil)) ◂ nil)) ◂ nil)) ◂ nil)) ◂ nil)) ◂ nil)) ∷ []) []
    ∷ class "C" "a" ("Nope" ∷ []) (sig "m" (c "Pair" ((c "Pair" ((c "Pair" ((c "Pair" ((c "Pair" ((c "Int" nil) ◂ (c "Int" nil) ◂ nil)) ◂ (c "Pair" ((c "Int" nil) ◂ (c "Int" nil) ◂ nil)) ◂ nil)) ◂ (c "Pair" ((c "Pair" ((c "Int" nil) ◂ (c "Int" nil) ◂ nil)) ◂ (c "Pair" ((c "Int" nil) ◂ (c "Int" nil) ◂ nil)) ◂ nil)) ◂ nil)) ◂ (c "Pair" ((c "Pair" ((c "Pair" ((c "Int" nil) ◂ (c "Int" nil) ◂ nil)) ◂ (c "Pair" ((c "Int" nil) ◂ (c "Int" nil) ◂ nil)) ◂ nil)) ◂ (c "Pair" ((c "Pair" ((c "Int" nil) ◂ (c "Int" nil) ◂ nil)) ◂ (c "Pair" ((c "Int" nil) ◂ (c "Int" nil) ◂ nil)) ◂ nil)) ◂ nil)) ◂ nil)) ◂ (c "Pair" ((c "Pair" ((c "Pair" ((c "Pair" ((c "Int" nil) ◂ (c "Int" nil) ◂ nil)) ◂ (c "Pair" ((c "Int" nil) ◂ (c "Int" nil) ◂ nil)) ◂ nil)) ◂ (c "Pair" ((c "Pair" ((c "Int" nil) ◂ (c "Int" nil) ◂ nil)) ◂ (c "Pair" ((c "Int" nil) ◂ (c "Int" nil) ◂ nil)) ◂ nil)) ◂ nil)) ◂ (c "Pair" ((c "Pair" ((c "Pair" ((c "Int" nil) ◂ (c "Int" nil) ◂ nil)) ◂ (c "Pair" ((c "Int" nil) ◂ (c "Int" nil) ◂ nil)) ◂ nil)) ◂ (c "Pair" ((c "Pair" ((c "Int" nil) ◂ (c "Int" nil) ◂ nil)) ◂ (c "Pair" ((c "Int" nil) ◂ (c "Int" nil) ◂ nil)) ◂ nil)) ◂ nil)) ◂ nil)) ◂ nil)) ∷ []) []
    ∷ instance [] "Nope" (c "Pair" ((c "Pair" ((c "Pair" ((c "Pair" ((c "Pair" ((c "Pair" ((c "Pair" ((c "Pair" ((c "Pair" ((c "Int" nil) ◂ (c "Int" nil) ◂ nil)) ◂ (c "Pair" ((c "Int" nil) ◂ (c "Int" nil) ◂ nil)) ◂ nil)) ◂ (c "Pair" ((c "Pair" ((c "Int" nil) ◂ (c "Int" nil) ◂ nil)) ◂ (c "Pair" ((c "Int" nil) ◂ (c "Int" nil) ◂ nil)) ◂ nil)) ◂ nil)) ◂ (c "Pair" ((c "Pair" ((c "Pair" ((c "Int" nil) ◂ (c "Int" nil) ◂ nil)) ◂ (c "Pair" ((c "Int" nil) ◂ (c "Int" nil) ◂ nil)) ◂ nil)) ◂ (c "Pair" ((c "Pair" ((c "Int" nil) ◂ (c "Int" nil) ◂ nil)) ◂ (c "Pair" ((c "Int" nil) ◂ (c "Int" nil) ◂ nil)) ◂ nil)) ◂ nil)) ◂ nil)) ◂ (c "Pair" ((c "Pair" ((c "Pair" ((c "Pair" ((c "Int" nil) ◂ (c "Int" nil) ◂ nil)) ◂ (c "Pair" ((c "Int" nil) ◂ (c "Int" nil) ◂ nil)) ◂ nil)) ◂ (c "Pair" ((c "Pair" ((c "Int" nil) ◂ (c "Int" nil) ◂ nil)) ◂ (c "Pair" ((c "Int" nil) ◂ (c "Int" nil) ◂ nil)) ◂ nil)) ◂ nil)) ◂ (c "Pair" ((c "Pair" ((c "Pair" ((c "Int" nil) ◂ (c "Int" nil) ◂ nil)) ◂ (c "Pair" ((c "Int" nil) ◂ (c "Int" nil) ◂ nil)) ◂ nil)) ◂ (c "Pair" ((c "Pair" ((c "Int" nil) ◂ (c "Int" nil) ◂ nil)) ◂ (c "Pair" ((c "Int" nil) ◂ (c "Int" nil) ◂ nil)) ◂ nil)) ◂ nil)) ◂ nil)) ◂ nil)) ◂ (c "Pair" ((c "Pair" ((c "Pair" ((c "Pair" ((c "Pair" ((c "Int" nil) ◂ (c "Int" nil) ◂ nil)) ◂ (c "Pair" ((c "Int" nil) ◂ (c "Int" nil) ◂ nil)) ◂ nil)) ◂ (c "Pair" ((c "Pair" ((c "Int" nil) ◂ (c "Int" nil) ◂ nil)) ◂ (c "Pair" ((c "Int" nil) ◂ (c "Int" nil) ◂ nil)) ◂ nil)) ◂ nil)) ◂ (c "Pair" ((c "Pair" ((c "Pair" ((c "Int" nil) ◂ (c "Int" nil) ◂ nil)) ◂ (c "Pair" ((c "Int" nil) ◂ (c "Int" nil) ◂ nil)) ◂ nil)) ◂ (c "Pair" ((c "Pair" ((c "Int" nil) ◂ (c "Int" nil) ◂ nil)) ◂ (c "Pair" ((c "Int" nil) ◂ (c "Int" nil) ◂ nil)) ◂ nil)) ◂ nil)) ◂ nil)) ◂ (c "Pair" ((c "Pair" ((c "Pair" ((c "Pair" ((c "Int" nil) ◂ (c "Int" nil) ◂ nil)) ◂ (c "Pair" ((c "Int" nil) ◂ (c "Int" nil) ◂ nil)) ◂ nil)) ◂ (c "Pair" ((c "Pair" ((c "Int" nil) ◂ (c "Int" nil) ◂ nil)) ◂ (c "Pair" ((c "Int" nil) ◂ (c "Int" nil) ◂ nil)) ◂ nil)) ◂ nil)) ◂ (c "Pair" ((c "Pair" ((c "Pair" ((c "Int" nil) ◂ (c "Int" nil) ◂ nil)) ◂ (c "Pair" ((c "Int" nil) ◂ (c "Int" nil) ◂ nil)) ◂ nil)) ◂ (c "Pair" ((c "Pair" ((c "Int" nil) ◂ (c "Int" nil) ◂ nil)) ◂ (c "Pair" ((c "Int" nil) ◂ (c "Int" nil) ◂ nil)) ◂ nil)) ◂ nil)) ◂ nil)) ◂ nil)) ◂ nil)) ◂ (c "Pair" ((c "Pair" ((c "Pair" ((c "Pair" ((c "Pair" ((c "Pair" ((c "Int" nil) ◂ (c "Int" nil) ◂ nil)) ◂ (c "Pair" ((c "Int" nil) ◂ (c "Int" nil) ◂ nil)) ◂ nil)) ◂ (c "Pair" ((c "Pair" ((c "Int" nil) ◂ (c "Int" nil) ◂ nil)) ◂ (c "Pair" ((c "Int" nil) ◂ (c "Int" nil) ◂ nil)) ◂ nil)) ◂ nil)) ◂ (c "Pair" ((c "Pair" ((c "Pair" ((c "Int" nil) ◂ (c "Int" nil) ◂ nil)) ◂ (c "Pair" ((c "Int" nil) ◂ (c "Int" nil) ◂ nil)) ◂ nil)) ◂ (c "Pair" ((c "Pair" ((c "Int" nil) ◂ (c "Int" nil) ◂ nil)) ◂ (c "Pair" ((c "Int" nil) ◂ (c "Int" nil) ◂ nil)) ◂ nil)) ◂ nil)) ◂ nil)) ◂ (c "Pair" ((c "Pair" ((c "Pair" ((c "Pair" ((c "Int" nil) ◂ (c "Int" nil) ◂ nil)) ◂ (c "Pair" ((c "Int" nil) ◂ (c "Int" nil) ◂ nil)) ◂ nil)) ◂ (c "Pair" ((c "Pair" ((c "Int" nil) ◂ (c "Int" nil) ◂ nil)) ◂ (c "Pair" ((c "Int" nil) ◂ (c "Int" nil) ◂ nil)) ◂ nil)) ◂ nil)) ◂ (c "Pair" ((c "Pair" ((c "Pair" ((c "Int" nil) ◂ (c "Int" nil) ◂ nil)) ◂ (c "Pair" ((c "Int" nil) ◂ (c "Int" nil) ◂ nil)) ◂ nil)) ◂ (c "Pair" ((c "Pair" ((c "Int" nil) ◂ (c "Int" nil) ◂ nil)) ◂ (c "Pair" ((c "Int" nil) ◂ (c "Int" nil) ◂ nil)) ◂ nil)) ◂ nil)) ◂ nil)) ◂ nil)) ◂ (c "Pair" ((c "Pair" ((c "Pair" ((c "Pair" ((c "Pair" ((c "Int" nil) ◂ (c "Int" nil) ◂ nil)) ◂ (c "Pair" ((c "Int" nil) ◂ (c "Int" nil) ◂ nil)) ◂ nil)) ◂ (c "Pair" ((c "Pair" ((c "Int" nil) ◂ (c "Int" nil) ◂ nil)) ◂ (c "Pair" ((c "Int" nil) ◂ (c "Int" nil) ◂ nil)) ◂ nil)) ◂ nil)) ◂ (c "Pair" ((c "Pair" ((c "Pair" ((c "Int" nil) ◂ (c "Int" nil) ◂ nil)) ◂ (c "Pair" ((c "Int" nil) ◂ (c "Int" nil) ◂ nil)) ◂ nil)) ◂ (c "Pair" ((c "Pair" ((c "Int" nil) ◂ (c "Int" nil) ◂ nil)) ◂ (c "Pair" ((c "Int" nil) ◂ (c "Int" nil) ◂ nil)) ◂ nil)) ◂ nil)) ◂ nil)) ◂ (c "Pair" ((c "Pair" ((c "Pair" ((c "Pair" ((c "Int" nil) ◂ (c "Int" nil) ◂ nil)) ◂ (c "Pair" ((c "Int" nil) ◂ (c "Int" nil) ◂ nil)) ◂ nil)) ◂ (c "Pair" ((c "Pair" ((c "Int" nil) ◂ (c "Int" nil) ◂ nil)) ◂ (c "Pair" ((c "Int" nil) ◂ (c "Int" nil) ◂ nil)) ◂ nil)) ◂ nil)) ◂ (c "Pair" ((c "Pair" ((c "Pair" ((c "Int" nil) ◂ (c "Int" nil) ◂ nil)) ◂ (c "Pair" ((c "Int" nil) ◂ (c "Int" nil) ◂ nil)) ◂ nil)) ◂ (c "Pair" ((c "Pair" ((c "Int" nil) ◂ (c "Int" nil) ◂ nil)) ◂ (c "Pair" ((c "Int" nil) ◂ (c "Int" nil) ◂ nil)) ◂ nil)) ◂ nil)) ◂ nil)) ◂ nil)) ◂ nil)) ◂ nil)) ◂ (c "Pair" ((c "Pair" ((c "Pair" ((c "Pair" ((c "Pair" ((c "Pair" ((c "Pair" ((c "Int" nil) ◂ (c "Int" nil) ◂ nil)) ◂ (c "Pair" ((c "Int" nil) ◂ (c "Int" nil) ◂ nil)) ◂ nil)) ◂ (c "Pair" ((c "Pair" ((c "Int" nil) ◂ (c "Int" nil) ◂ nil)) ◂ (c "Pair" ((c "Int" nil) ◂ (c "Int" nil) ◂ nil)) ◂ nil)) ◂ nil)) ◂ (c "Pair" ((c "Pair" ((c "Pair" ((c "Int" nil) ◂ (c "Int" nil) ◂ nil)) ◂ (c "Pair" ((c "Int" nil) ◂ (c "Int" nil) ◂ nil)) ◂ nil)) ◂ (c "Pair" ((c "Pair" ((c "Int" nil) ◂ (c "Int" nil) ◂ nil)) ◂ (c "Pair" ((c "Int" nil) ◂ (c "Int" nil) ◂ nil)) ◂ nil)) ◂ nil)) ◂ nil)) ◂ (c "Pair" ((c "Pair" ((c "Pair" ((c "Pair" ((c "Int" nil) ◂ (c "Int" nil) ◂ nil)) ◂ (c "Pair" ((c "Int" nil) ◂ (c "Int" nil) ◂ nil)) ◂ nil)) ◂ (c "Pair" ((c "Pair" ((c "Int" nil) ◂ (c "Int" nil) ◂ nil)) ◂ (c "Pair" ((c "Int" nil) ◂ (c "Int" nil) ◂ nil)) ◂ nil)) ◂ nil)) ◂ (c "Pair" ((c "Pair" ((c "Pair" ((c "Int" nil) ◂ (c "Int" nil) ◂ nil)) ◂ (c "Pair" ((c "Int" nil) ◂ (c "Int" nil) ◂ nil)) ◂ nil)) ◂ (c "Pair" ((c "Pair" ((c "Int" nil) ◂ (c "Int" nil) ◂ nil)) ◂ (c "Pair" ((c "Int" nil) ◂ (c "Int" nil) ◂ nil)) ◂ nil)) ◂ nil)) ◂ nil)) ◂ nil)) ◂ (c "Pair" ((c "Pair" ((c "Pair" ((c "Pair" ((c "Pair" ((c "Int" nil) ◂ (c "Int" nil) ◂ nil)) ◂ (c "Pair" ((c "Int" nil) ◂ (c "Int" nil) ◂ nil)) ◂ nil)) ◂ (c "Pair" ((c "Pair" ((c "Int" nil) ◂ (c "Int" nil) ◂ nil)) ◂ (c "Pair" ((c "Int" nil) ◂ (c "Int" nil) ◂ nil)) ◂ nil)) ◂ nil)) ◂ (c "Pair" ((c "Pair" ((c "Pair" ((c "Int" nil) ◂ (c "Int" nil) ◂ nil)) ◂ (c "Pair" ((c "Int" nil) ◂ (c "Int" nil) ◂ nil)) ◂ nil)) ◂ (c "Pair" ((c "Pair" ((c "Int" nil) ◂ (c "Int" nil) ◂ nil)) ◂ (c "Pair" ((c "Int" nil) ◂ (c "Int" nil) ◂ nil)) ◂ nil)) ◂ nil)) ◂ nil)) ◂ (c "Pair" ((c "Pair" ((c "Pair" ((c "Pair" ((c "Int" nil) ◂ (c "Int" nil) ◂ nil)) ◂ (c "Pair" ((c "Int" nil) ◂ (c "Int" nil) ◂ nil)) ◂ nil)) ◂ (c "Pair" ((c "Pair" ((c "Int" nil) ◂ (c "Int" nil) ◂ nil)) ◂ (c "Pair" ((c "Int" nil) ◂ (c "Int" nil) ◂ nil)) ◂ nil)) ◂ nil)) ◂ (c "Pair" ((c "Pair" ((c "Pair" ((c "Int" nil) ◂ (c "Int" nil) ◂ nil)) ◂ (c "Pair" ((c "Int" nil) ◂ (c "Int" nil) ◂ nil)) ◂ nil)) ◂ (c "Pair" ((c "Pair" ((c "Int" nil) ◂ (c "Int" nil) ◂ nil)) ◂ (c "Pair" ((c "Int" nil) ◂ (c "Int" nil) ◂ nil)) ◂ nil)) ◂ nil)) ◂ nil)) ◂ nil)) ◂ nil)) ◂ (c "Pair" ((c "Pair" ((c "Pair" ((c "Pair" ((c "Pair" ((c "Pair" ((c "Int" nil) ◂ (c "Int" nil) ◂ nil)) ◂ (c "Pair" ((c "Int" nil) ◂ (c "Int" nil) ◂ nil)) ◂ nil)) ◂ (c "Pair" ((c "Pair" ((c "Int" nil) ◂ (c "Int" nil) ◂ nil)) ◂ (c "Pair" ((c "Int" nil) ◂ (c "Int" nil) ◂ nil)) ◂ nil)) ◂ nil)) ◂ (c "Pair" ((c "Pair" ((c "Pair" ((c "Int" nil) ◂ (c "Int" nil) ◂ nil)) ◂ (c "Pair" ((c "Int" nil) ◂ (c "Int" nil) ◂ nil)) ◂ nil)) ◂ (c "Pair" ((c "Pair" ((c "Int" nil) ◂ (c "Int" nil) ◂ nil)) ◂ (c "Pair" ((c "Int" nil) ◂ (c "Int" nil) ◂ nil)) ◂ nil)) ◂ nil)) ◂ nil)) ◂ (c "Pair" ((c "Pair" ((c "Pair" ((c "Pair" ((c "Int" nil) ◂ (c "Int" nil) ◂ nil)) ◂ (c "Pair" ((c "Int" nil) ◂ (c "Int" nil) ◂ nil)) ◂ nil)) ◂ (c "Pair" ((c "Pair" ((c "Int" nil) ◂ (c "Int" nil) ◂ nil)) ◂ (c "Pair" ((c "Int" nil) ◂ (c "Int" nil) ◂ nil)) ◂ nil)) ◂ nil)) ◂ (c "Pair" ((c "Pair" ((c "Pair" ((c "Int" nil) ◂ (c "Int" nil) ◂ nil)) ◂ (c "Pair" ((c "Int" nil) ◂ (c "Int" nil) ◂ nil)) ◂ nil)) ◂ (c "Pair" ((c "Pair" ((c "Int" nil) ◂ (c "Int" nil) ◂ nil)) ◂ (c "Pair" ((c "Int" nil) ◂ (c "Int" nil) ◂ nil)) ◂ nil)) ◂ nil)) ◂ nil)) ◂ nil)) ◂ (c "Pair" ((c "Pair" ((c "Pair" ((c "Pair" ((c "Pair" ((c "Int" nil) ◂ (c "Int" nil) ◂ nil)) ◂ (c "Pair" ((c "Int" nil) ◂ (c "Int" nil) ◂ nil)) ◂ nil)) ◂ (c "Pair" ((c "Pair" ((c "Int" nil) ◂ (c "Int" nil) ◂ nil)) ◂ (c "Pair" ((c "Int" nil) ◂ (c "Int" nil) ◂ nil)) ◂ nil)) ◂ nil)) ◂ (c "Pair" ((c "Pair" ((c "Pair" ((c "Int" nil) ◂ (c "Int" nil) ◂ nil)) ◂ (c "Pair" ((c "Int" nil) ◂ (c "Int" nil) ◂ nil)) ◂ nil)) ◂ (c "Pair" ((c "Pair" ((c "Int" nil) ◂ (c "Int" nil) ◂ nil)) ◂ (c "Pair" ((c "Int" nil) ◂ (c "Int" nil) ◂ nil)) ◂ nil)) ◂ nil)) ◂ nil)) ◂ (c "Pair" ((c "Pair" ((c "Pair" ((c "Pair" ((c "Int" nil) ◂ (c "Int" nil) ◂ nil)) ◂ (c "Pair" ((c "Int" nil) ◂ (c "Int" nil) ◂ nil)) ◂ nil)) ◂ (c "Pair" ((c "Pair" ((c "Int" nil) ◂ (c "Int" nil) ◂ nil)) ◂ (c "Pair" ((c "Int" nil) ◂ (c "Int" nil) ◂ nil)) ◂ nil)) ◂ nil)) ◂ (c "Pair" ((c "Pair" ((c "Pair" ((c "Int" nil) ◂ (c "Int" nil) ◂ nil)) ◂ (c "Pair" ((c "Int" nil) ◂ (c "Int" nil) ◂ nil)) ◂ nil)) ◂ (c "Pair" ((c "Pair" ((c "Int" nil) ◂ (c "Int" nil) ◂ nil)) ◂ (c "Pair" ((c "Int" nil) ◂ (c "Int" nil) ◂ nil)) ◂ nil)) ◂ nil)) ◂ nil)) ◂ nil)) ◂ nil)) ◂ nil)) ◂ nil)) ◂ (v "a") ◂ nil)) []
    ∷ instance [] "Nope" (c "Pair" ((c "Pair" ((c "Pair" ((c "Pair" ((c "Pair" ((c "Pair" ((c "Int" nil) ◂ (c "Int" nil) ◂ nil)) ◂ (c "Pair" ((c "Int" nil) ◂ (c "Int" nil) ◂ nil)) ◂ nil)) ◂ (c "Pair" ((c "Pair" ((c "Int" nil) ◂ (c "Int" nil) ◂ nil)) ◂ (c "Pair" ((c "Int" nil) ◂ (c "Int" nil) ◂ nil)) ◂ nil)) ◂ nil)) ◂ (c "Pair" ((c "Pair" ((c "Pair" ((c "Int" nil) ◂ (c "Int" nil) ◂ nil)) ◂ (c "Pair" ((c "Int" nil) ◂ (c "Int" nil) ◂ nil)) ◂ nil)) ◂ (c "Pair" ((c "Pair" ((c "Int" nil) ◂ (c "Int" nil) ◂ nil)) ◂ (c "Pair" ((c "Int" nil) ◂ (c "Int" nil) ◂ nil)) ◂ nil)) ◂ nil)) ◂ nil)) ◂ (c "Pair" ((c "Pair" ((c "Pair" ((c "Pair" ((c "Int" nil) ◂ (c "Int" nil) ◂ nil)) ◂ (c "Pair" ((c "Int" nil) ◂ (c "Int" nil) ◂ nil)) ◂ nil)) ◂ (c "Pair" ((c "Pair" ((c "Int" nil) ◂ (c "Int" nil) ◂ nil)) ◂ (c "Pair" ((c "Int" nil) ◂ (c "Int" nil) ◂ nil)) ◂ nil)) ◂ nil)) ◂ (c "Pair" ((c "Pair" ((c "Pair" ((c "Int" nil) ◂ (c "Int" nil) ◂ nil)) ◂ (c "Pair" ((c "Int" nil) ◂ (c "Int" nil) ◂ nil)) ◂ nil)) ◂ (c "Pair" ((c "Pair" ((c "Int" nil) ◂ (c "Int" nil) ◂ nil)) ◂ (c "Pair" ((c "Int" nil) ◂ (c "Int" nil) ◂ nil)) ◂ nil)) ◂ nil)) ◂ nil)) ◂ nil)) ◂ (c "Pair" ((c "Pair" ((c "Pair" ((c "Pair" ((c "Pair" ((c "Int" nil) ◂ (c "Int" nil) ◂ nil)) ◂ (c "Pair" ((c "Int" nil) ◂ (c "Int" nil) ◂ nil)) ◂ nil)) ◂ (c "Pair" ((c "Pair" ((c "Int" nil) ◂ (c "Int" nil) ◂ nil)) ◂ (c "Pair" ((c "Int" nil) ◂ (c "Int" nil) ◂ nil)) ◂ nil)) ◂ nil)) ◂ (c "Pair" ((c "Pair" ((c "Pair" ((c "Int" nil) ◂ (c "Int" nil) ◂ nil)) ◂ (c "Pair" ((c "Int" nil) ◂ (c "Int" nil) ◂ nil)) ◂ nil)) ◂ (c "Pair" ((c "Pair" ((c "Int" nil) ◂ (c "Int" nil) ◂ nil)) ◂ (c "Pair" ((c "Int" nil) ◂ (c "Int" nil) ◂ nil)) ◂ nil)) ◂ nil)) ◂ nil)) ◂ (c "Pair" ((c "Pair" ((c "Pair" ((c "Pair" ((c "Int" nil) ◂ (c "Int" nil) ◂ nil)) ◂ (c "Pair" ((c "Int" nil) ◂ (c "Int" nil) ◂ nil)) ◂ nil)) ◂ (c "Pair" ((c "Pair" ((c "Int" nil) ◂ (c "Int" nil) ◂ nil)) ◂ (c "Pair" ((c "Int" nil) ◂ (c "Int" nil) ◂ nil)) ◂ nil)) ◂ nil)) ◂ (c "Pair" ((c "Pair" ((c "Pair" ((c "Int" nil) ◂ (c "Int" nil) ◂ nil)) ◂ (c "Pair" ((c "Int" nil) ◂ (c "Int" nil) ◂ nil)) ◂ nil)) ◂ (c "Pair" ((c "Pair" ((c "Int" nil) ◂ (c "Int" nil) ◂ nil)) ◂ (c "Pair" ((c "Int" nil) ◂ (c "Int" nil) ◂ nil)) ◂ nil)) ◂ nil)) ◂ nil)) ◂ nil)) ◂ nil)) []
    ∷ class "Free" "a" [] [] []
    ∷ []

big_spend_first_computed : metered 1000000 67108864 1000000 big_spend_first ≡ said "declarations 5\n0 21 C Nope | 1023 33 0 0\n1 21 C Nope | 127 33 0 0\n2 19 Nope | 513 33 0 0\n3 19 Nope | 127 33 0 0\n4 0 - | 0 33 0 0\n"
unfolding everything metered said
big_spend_first_computed = refl
