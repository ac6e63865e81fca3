-- Recorded sessions, computed: text, steps, kept nodes and both counters. (tools/session_test.py)
use mathlib.Core.Path.{◌≡◌, refl}
use mathlib.Core.Bool.{true, false}
use mathlib.Core.List.{List, [], ◌∷◌}
use Rattle.meaning.specs.Ast.{Ty, arrow, Expr, eint, ebool, eapp, Decl, nil, ◌◂◌}
use Rattle.meaning.proofs.Metered.{everything, metered, said}
use Rattle.meaning.proofs.Written.{v, c, ev, lam, bind, class, instance, define, check, at, sig, body}

abbrev c_depth_types : List Decl
c_depth_types =
    class "Eq" "a" [] (sig "eq" (arrow (v "a") (c "Bool" nil)) ∷ []) (body "eq" (eint 1) ∷ [])
    ∷ instance [] "Eq" (c "Int" nil) []
    ∷ instance (at "Eq" (v "a") ∷ []) "Eq" (c "List" ((v "a") ◂ nil)) []
    ∷ class "M252" "a" [] (sig "m252" (arrow (v "a") (c "List" ((c "List" ((c "List" ((c "List" ((c "List" ((c "List" ((c "List" ((c "List" ((c "List" ((c "List" ((c "List" ((c "List" ((c "List" ((c "List" ((c "List" ((c "List" ((c "List" ((c "List" ((c "List" ((c "List" ((c "List" ((c "List" ((c "List" ((c "List" ((c "List" ((c "List" ((c "List" ((c "List" ((c "List" ((c "List" ((c "List" ((c "List" ((c "List" ((c "List" ((c "List" ((c "List" ((c "List" ((c "List" ((c "List" ((c "List" ((c "List" ((c "List" ((c "List" ((c "List" ((c "List" ((c "List" ((c "List" ((c "List" ((c "List" ((c "List" ((c "List" ((c "List" ((c "List" ((c "List" ((c "List" ((c "List" ((c "List" ((c "List" ((c "List" ((c "List" ((c "List" ((c "List" ((c "List" ((c "List" ((c "List" ((c "List" ((c "List" ((c "List" ((c "List" ((c "List" ((c "List" ((c "List" ((c "List" ((c "List" ((c "List" ((c "List" ((c "List" ((c "List" ((c "List" ((c "List" ((c "List" ((c "List" ((c "List" ((c "List" ((c "List" ((c "List" ((c "List" ((c "List" ((c "List" ((c "List" ((c "List" ((c "List" ((c "List" ((c "List" ((c "List" ((c "List" ((c "List" ((c "List" ((c "List" ((c "List" ((c "List" ((c "List" ((c "List" ((c "List" ((c "List" ((c "List" ((c "List" ((c "List" ((c "List" ((c "List" ((c "List" ((c "List" ((c "List" ((c "List" ((c "List" ((c "List" ((c "List" ((c "List" ((c "List" ((c "List" ((c "List" ((c "List" ((c "List" ((c "List" ((c "List" ((c "List" ((c "List" ((c "List" ((c "List" ((c "List" ((c "List" ((c "List" ((c "List" ((c "List" ((c "List" ((c "List" ((c "List" ((c "List" ((c "List" ((c "List" ((c "List" ((c "List" ((c "List" ((c "List" ((c "List" ((c "List" ((c "List" ((c "List" ((c "List" ((c "List" ((c "List" ((c "List" ((c "List" ((c "List" ((c "List" ((c "List" ((c "List" ((c "List" ((c "List" ((c "List" ((c "List" ((c "List" ((c "List" ((c "List" ((c "List" ((c "List" ((c "List" ((c "List" ((c "List" ((c "List" ((c "List" ((c "List" ((c "List" ((c "List" ((c "List" ((c "List" ((c "List" ((c "List" ((c "List" ((c "List" ((c "List" ((c "List" ((c "List" ((c "List" ((c "List" ((c "List" ((c "List" ((c "List" ((c "List" ((c "List" ((c "List" ((c "List" ((c "List" ((c "List" ((c "List" ((c "List" ((c "List" ((c "List" ((c "List" ((c "List" ((c "List" ((c "List" ((c "List" ((c "List" ((c "List" ((c "List" ((c "List" ((c "List" ((c "List" ((c "List" ((c "List" ((c "List" ((c "List" ((c "List" ((c "List" ((c "List" ((c "List" ((c "List" ((c "List" ((c "List" ((c "List" ((c "List" ((c "List" ((c "List" ((c "List" ((c "List" ((c "List" ((c "List" ((c "List" ((c "List" ((c "List" ((c "List" ((c "List" ((c "List" ((c "List" ((c "List" ((c "List" ((c "List" ((c "List" ((c "List" ((c "List" ((c "List" ((c "List" ((c "List" ((c "List" ((c "List" ((c "List" ((c "List" ((c "List" ((c "List" ((c "List" ((c "List" ((c "Int" nil) ◂ nil)) ◂ nil)) ◂ nil)) ◂ nil)) ◂ nil)) ◂ nil)) ◂ nil)) ◂ nil)) ◂ nil)) ◂ nil)) ◂ nil)) ◂ nil)) ◂ nil)) ◂ nil)) ◂ nil)) ◂ nil)) ◂ nil)) ◂ nil)) ◂ nil)) ◂ nil)) ◂ nil)) ◂ nil)) ◂ nil)) ◂ nil)) ◂ nil)) ◂ nil)) ◂ nil)) ◂ nil)) ◂ nil)) ◂ nil)) ◂ nil)) ◂ nil)) ◂ nil)) ◂ nil)) ◂ nil)) ◂ nil)) ◂ nil)) ◂ nil)) ◂ nil)) ◂ nil)) ◂ nil)) ◂ nil)) ◂ nil)) ◂ nil)) ◂ nil)) ◂ nil)) ◂ nil)) ◂ nil)) ◂ nil)) ◂ nil)) ◂ nil)) ◂ nil)) ◂ nil)) ◂ nil)) ◂ nil)) ◂ nil)) ◂ nil)) ◂ nil)) ◂ nil)) ◂ nil)) ◂ nil)) ◂ nil)) ◂ nil)) ◂ nil)) ◂ nil)) ◂ nil)) ◂ nil)) ◂ nil)) ◂ nil)) ◂ nil)) ◂ nil)) ◂ nil)) ◂ nil)) ◂ nil)) ◂ nil)) ◂ nil)) ◂ nil)) ◂ nil)) ◂ nil)) ◂ nil)) ◂ nil)) ◂ nil)) ◂ nil)) ◂ nil)) ◂ nil)) ◂ nil)) ◂ nil)) ◂ nil)) ◂ nil)) ◂ nil)) ◂ nil)) ◂ nil)) ◂ nil)) ◂ nil)) ◂ nil)) ◂ nil)) ◂ nil)) ◂ nil)) ◂ nil)) ◂ nil)) ◂ nil)) ◂ nil)) ◂ nil)) ◂ nil)) ◂ nil)) ◂ nil)) ◂ nil)) ◂ nil)) ◂ nil)) ◂ nil)) ◂ nil)) ◂ nil)) ◂ nil)) ◂ nil)) ◂ nil)) ◂ nil)) ◂ nil)) ◂ nil)) ◂ nil)) ◂ nil)) ◂ nil)) ◂ nil)) ◂ nil)) ◂ nil)) ◂ nil)) ◂ nil)) ◂ nil)) ◂ nil)) ◂ nil)) ◂ nil)) ◂ nil)) ◂ nil)) ◂ nil)) ◂ nil)) ◂ nil)) ◂ nil)) ◂ nil)) ◂ nil)) ◂ nil)) ◂ nil)) ◂ nil)) ◂ nil)) ◂ nil)) ◂ nil)) ◂ nil)) ◂ nil)) ◂ nil)) ◂ nil)) ◂ nil)) ◂ nil)) ◂ nil)) ◂ nil)) ◂ nil)) ◂ nil)) ◂ nil)) ◂ nil)) ◂ nil)) ◂ nil)) ◂ nil)) ◂ nil)) ◂ nil)) ◂ nil)) ◂ nil)) ◂ nil)) ◂ nil)) ◂ nil)) ◂ nil)) ◂ nil)) ◂ nil)) ◂ nil)) ◂ nil)) ◂ nil)) ◂ nil)) ◂ nil)) ◂ nil)) ◂ nil)) ◂ nil)) ◂ nil)) ◂ nil)) ◂ nil)) ◂ nil)) ◂ nil)) ◂ nil)) ◂ nil)) ◂ nil)) ◂ nil)) ◂ nil)) ◂ nil)) ◂ nil)) ◂ nil)) ◂ nil)) ◂ nil)) ◂ nil)) ◂ nil)) ◂ nil)) ◂ nil)) ◂ nil)) ◂ nil)) ◂ nil)) ◂ nil)) ◂ nil)) ◂ nil)) ◂ nil)) ◂ nil)) ◂ nil)) ◂ nil)) ◂ nil)) ◂ nil)) ◂ nil)) ◂ nil)) ◂ nil)) ◂ nil)) ◂ nil)) ◂ nil)) ◂ nil)) ◂ nil)) ◂ nil)) ◂ nil)) ◂ nil)) ◂ nil)) ◂ nil)) ◂ nil)) ◂ nil)) ◂ nil)) ◂ nil)) ◂ nil)) ◂ nil)) ◂ nil)) ◂ nil)) ◂ nil)) ◂ nil)) ◂ nil)) ◂ nil)) ◂ nil)) ◂ nil)) ◂ nil)) ◂ nil)) ◂ nil)) ◂ nil)) ◂ nil)) ◂ nil)) ◂ nil)) ◂ nil)) ◂ nil)) ◂ nil)) ◂ nil)) ◂ nil)) ◂ nil)) ◂ nil)) ◂ nil)) ◂ nil)) ◂ nil))) ∷ []) (body "m252" (eint 1) ∷ [])
    ∷ instance [] "M252" (c "Int" nil) []
    ∷ check (eapp (ev "m252") (eint 1))
    ∷ check (eapp (ev "eq") (eapp (ev "m252") (eint 1)))
    ∷ class "M253" "a" [] (sig "m253" (arrow (v "a") (c "List" ((c "List" ((c "List" ((c "List" ((c "List" ((c "List" ((c "List" ((c "List" ((c "List" ((c "List" ((c "List" ((c "List" ((c "List" ((c "List" ((c "List" ((c "List" ((c "List" ((c "List" ((c "List" ((c "List" ((c "List" ((c "List" ((c "List" ((c "List" ((c "List" ((c "List" ((c "List" ((c "List" ((c "List" ((c "List" ((c "List" ((c "List" ((c "List" ((c "List" ((c "List" ((c "List" ((c "List" ((c "List" ((c "List" ((c "List" ((c "List" ((c "List" ((c "List" ((c "List" ((c "List" ((c "List" ((c "List" ((c "List" ((c "List" ((c "List" ((c "List" ((c "List" ((c "List" ((c "List" ((c "List" ((c "List" ((c "List" ((c "List" ((c "List" ((c "List" ((c "List" ((c "List" ((c "List" ((c "List" ((c "List" ((c "List" ((c "List" ((c "List" ((c "List" ((c "List" ((c "List" ((c "List" ((c "List" ((c "List" ((c "List" ((c "List" ((c "List" ((c "List" ((c "List" ((c "List" ((c "List" ((c "List" ((c "List" ((c "List" ((c "List" ((c "List" ((c "List" ((c "List" ((c "List" ((c "List" ((c "List" ((c "List" ((c "List" ((c "List" ((c "List" ((c "List" ((c "List" ((c "List" ((c "List" ((c "List" ((c "List" ((c "List" ((c "List" ((c "List" ((c "List" ((c "List" ((c "List" ((c "List" ((c "List" ((c "List" ((c "List" ((c "List" ((c "List" ((c "List" ((c "List" ((c "List" ((c "List" ((c "List" ((c "List" ((c "List" ((c "List" ((c "List" ((c "List" ((c "List" ((c "List" ((c "List" ((c "List" ((c "List" ((c "List" ((c "List" ((c "List" ((c "List" ((c "List" ((c "List" ((c "List" ((c "List" ((c "List" ((c "List" ((c "List" ((c "List" ((c "List" ((c "List" ((c "List" ((c "List" ((c "List" ((c "List" ((c "List" ((c "List" ((c "List" ((c "List" ((c "List" ((c "List" ((c "List" ((c "List" ((c "List" ((c "List" ((c "List" ((c "List" ((c "List" ((c "List" ((c "List" ((c "List" ((c "List" ((c "List" ((c "List" ((c "List" ((c "List" ((c "List" ((c "List" ((c "List" ((c "List" ((c "List" ((c "List" ((c "List" ((c "List" ((c "List" ((c "List" ((c "List" ((c "List" ((c "List" ((c "List" ((c "List" ((c "List" ((c "List" ((c "List" ((c "List" ((c "List" ((c "List" ((c "List" ((c "List" ((c "List" ((c "List" ((c "List" ((c "List" ((c "List" ((c "List" ((c "List" ((c "List" ((c "List" ((c "List" ((c "List" ((c "List" ((c "List" ((c "List" ((c "List" ((c "List" ((c "List" ((c "List" ((c "List" ((c "List" ((c "List" ((c "List" ((c "List" ((c "List" ((c "List" ((c "List" ((c "List" ((c "List" ((c "List" ((c "List" ((c "List" ((c "List" ((c "List" ((c "List" ((c "List" ((c "List" ((c "List" ((c "List" ((c "List" ((c "List" ((c "List" ((c "List" ((c "List" ((c "List" ((c "List" ((c "List" ((c "List" ((c "List" ((c "List" ((c "List" ((c "List" ((c "List" ((c "List" ((c "List" ((c "List" ((c "List" ((c "List" ((c "List" ((c "List" ((c "List" ((c "List" ((c "List" ((c "List" ((c "Int" nil) ◂ nil)) ◂ nil)) ◂ nil)) ◂ nil)) ◂ nil)) ◂ nil)) ◂ nil)) ◂ nil)) ◂ nil)) ◂ nil)) ◂ nil)) ◂ nil)) ◂ nil)) ◂ nil)) ◂ nil)) ◂ nil)) ◂ nil)) ◂ nil)) ◂ nil)) ◂ nil)) ◂ nil)) ◂ nil)) ◂ nil)) ◂ nil)) ◂ nil)) ◂ nil)) ◂ nil)) ◂ nil)) ◂ nil)) ◂ nil)) ◂ nil)) ◂ nil)) ◂ nil)) ◂ nil)) ◂ nil)) ◂ nil)) ◂ nil)) ◂ nil)) ◂ nil)) ◂ nil)) ◂ nil)) ◂ nil)) ◂ nil)) ◂ nil)) ◂ nil)) ◂ nil)) ◂ nil)) ◂ nil)) ◂ nil)) ◂ nil)) ◂ nil)) ◂ nil)) ◂ nil)) ◂ nil)) ◂ nil)) ◂ nil)) ◂ nil)) ◂ nil)) ◂ nil)) ◂ nil)) ◂ nil)) ◂ nil)) ◂ nil)) ◂ nil)) ◂ nil)) ◂ nil)) ◂ nil)) ◂ nil)) ◂ nil)) ◂ nil)) ◂ nil)) ◂ nil)) ◂ nil)) ◂ nil)) ◂ nil)) ◂ nil)) ◂ nil)) ◂ nil)) ◂ nil)) ◂ nil)) ◂ nil)) ◂ nil)) ◂ nil)) ◂ nil)) ◂ nil)) ◂ nil)) ◂ nil)) ◂ nil)) ◂ nil)) ◂ nil)) ◂ nil)) ◂ nil)) ◂ nil)) ◂ nil)) ◂ nil)) ◂ nil)) ◂ nil)) ◂ nil)) ◂ nil)) ◂ nil)) ◂ nil)) ◂ nil)) ◂ nil)) ◂ nil)) ◂ nil)) ◂ nil)) ◂ nil)) ◂ nil)) ◂ nil)) ◂ nil)) ◂ nil)) ◂ nil)) ◂ nil)) ◂ nil)) ◂ nil)) ◂ nil)) ◂ nil)) ◂ nil)) ◂ nil)) ◂ nil)) ◂ nil)) ◂ nil)) ◂ nil)) ◂ nil)) ◂ nil)) ◂ nil)) ◂ nil)) ◂ nil)) ◂ nil)) ◂ nil)) ◂ nil)) ◂ nil)) ◂ nil)) ◂ nil)) ◂ nil)) ◂ nil)) ◂ nil)) ◂ nil)) ◂ nil)) ◂ nil)) ◂ nil)) ◂ nil)) ◂ nil)) ◂ nil)) ◂ nil)) ◂ nil)) ◂ nil)) ◂ nil)) ◂ nil)) ◂ nil)) ◂ nil)) ◂ nil)) ◂ nil)) ◂ nil)) ◂ nil)) ◂ nil)) ◂ nil)) ◂ nil)) ◂ nil)) ◂ nil)) ◂ nil)) ◂ nil)) ◂ nil)) ◂ nil)) ◂ nil)) ◂ nil)) ◂ nil)) ◂ nil)) ◂ nil)) ◂ nil)) ◂ nil)) ◂ nil)) ◂ nil)) ◂ nil)) ◂ nil)) ◂ nil)) ◂ nil)) ◂ nil)) ◂ nil)) ◂ nil)) ◂ nil)) ◂ nil)) ◂ nil)) ◂ nil)) ◂ nil)) ◂ nil)) ◂ nil)) ◂ nil)) ◂ nil)) ◂ nil)) ◂ nil)) ◂ nil)) ◂ nil)) ◂ nil)) ◂ nil)) ◂ nil)) ◂ nil)) ◂ nil)) ◂ nil)) ◂ nil)) ◂ nil)) ◂ nil)) ◂ nil)) ◂ nil)) ◂ nil)) ◂ nil)) ◂ nil)) ◂ nil)) ◂ nil)) ◂ nil)) ◂ nil)) ◂ nil)) ◂ nil)) ◂ nil)) ◂ nil)) ◂ nil)) ◂ nil)) ◂ nil)) ◂ nil)) ◂ nil)) ◂ nil)) ◂ nil)) ◂ nil)) ◂ nil)) ◂ nil)) ◂ nil)) ◂ nil)) ◂ nil)) ◂ nil)) ◂ nil)) ◂ nil)) ◂ nil)) ◂ nil)) ◂ nil)) ◂ nil)) ◂ nil)) ◂ nil)) ◂ nil)) ◂ nil)) ◂ nil)) ◂ nil)) ◂ nil)) ◂ nil)) ◂ nil)) ◂ nil)) ◂ nil)) ◂ nil)) ◂ nil)) ◂ nil)) ◂ nil)) ◂ nil)) ◂ nil)) ◂ nil))) ∷ []) (body "m253" (eint 1) ∷ [])
    ∷ instance [] "M253" (c "Int" nil) []
    ∷ check (eapp (ev "m253") (eint 1))
    ∷ check (eapp (ev "eq") (eapp (ev "m253") (eint 1)))
    ∷ class "M254" "a" [] (sig "m254" (arrow (v "a") (c "List" ((c "List" ((c "List" ((c "List" ((c "List" ((c "List" ((c "List" ((c "List" ((c "List" ((c "List" ((c "List" ((c "List" ((c "List" ((c "List" ((c "List" ((c "List" ((c "List" ((c "List" ((c "List" ((c "List" ((c "List" ((c "List" ((c "List" ((c "List" ((c "List" ((c "List" ((c "List" ((c "List" ((c "List" ((c "List" ((c "List" ((c "List" ((c "List" ((c "List" ((c "List" ((c "List" ((c "List" ((c "List" ((c "List" ((c "List" ((c "List" ((c "List" ((c "List" ((c "List" ((c "List" ((c "List" ((c "List" ((c "List" ((c "List" ((c "List" ((c "List" ((c "List" ((c "List" ((c "List" ((c "List" ((c "List" ((c "List" ((c "List" ((c "List" ((c "List" ((c "List" ((c "List" ((c "List" ((c "List" ((c "List" ((c "List" ((c "List" ((c "List" ((c "List" ((c "List" ((c "List" ((c "List" ((c "List" ((c "List" ((c "List" ((c "List" ((c "List" ((c "List" ((c "List" ((c "List" ((c "List" ((c "List" ((c "List" ((c "List" ((c "List" ((c "List" ((c "List" ((c "List" ((c "List" ((c "List" ((c "List" ((c "List" ((c "List" ((c "List" ((c "List" ((c "List" ((c "List" ((c "List" ((c "List" ((c "List" ((c "List" ((c "List" ((c "List" ((c "List" ((c "List" ((c "List" ((c "List" ((c "List" ((c "List" ((c "List" ((c "List" ((c "List" ((c "List" ((c "List" ((c "List" ((c "List" ((c "List" ((c "List" ((c "List" ((c "List" ((c "List" ((c "List" ((c "List" ((c "List" ((c "List" ((c "List" ((c "List" ((c "List" ((c "List" ((c "List" ((c "List" ((c "List" ((c "List" ((c "List" ((c "List" ((c "List" ((c "List" ((c "List" ((c "List" ((c "List" ((c "List" ((c "List" ((c "List" ((c "List" ((c "List" ((c "List" ((c "List" ((c "List" ((c "List" ((c "List" ((c "List" ((c "List" ((c "List" ((c "List" ((c "List" ((c "List" ((c "List" ((c "List" ((c "List" ((c "List" ((c "List" ((c "List" ((c "List" ((c "List" ((c "List" ((c "List" ((c "List" ((c "List" ((c "List" ((c "List" ((c "List" ((c "List" ((c "List" ((c "List" ((c "List" ((c "List" ((c "List" ((c "List" ((c "List" ((c "List" ((c "List" ((c "List" ((c "List" ((c "List" ((c "List" ((c "List" ((c "List" ((c "List" ((c "List" ((c "List" ((c "List" ((c "List" ((c "List" ((c "List" ((c "List" ((c "List" ((c "List" ((c "List" ((c "List" ((c "List" ((c "List" ((c "List" ((c "List" ((c "List" ((c "List" ((c "List" ((c "List" ((c "List" ((c "List" ((c "List" ((c "List" ((c "List" ((c "List" ((c "List" ((c "List" ((c "List" ((c "List" ((c "List" ((c "List" ((c "List" ((c "List" ((c "List" ((c "List" ((c "List" ((c "List" ((c "List" ((c "List" ((c "List" ((c "List" ((c "List" ((c "List" ((c "List" ((c "List" ((c "List" ((c "List" ((c "List" ((c "List" ((c "List" ((c "List" ((c "List" ((c "List" ((c "List" ((c "List" ((c "List" ((c "List" ((c "List" ((c "List" ((c "List" ((c "List" ((c "List" ((c "List" ((c "List" ((c "List" ((c "List" ((c "Int" nil) ◂ nil)) ◂ nil)) ◂ nil)) ◂ nil)) ◂ nil)) ◂ nil)) ◂ nil)) ◂ nil)) ◂ nil)) ◂ nil)) ◂ nil)) ◂ nil)) ◂ nil)) ◂ nil)) ◂ nil)) ◂ nil)) ◂ nil)) ◂ nil)) ◂ nil)) ◂ nil)) ◂ nil)) ◂ nil)) ◂ nil)) ◂ nil)) ◂ nil)) ◂ nil)) ◂ nil)) ◂ nil)) ◂ nil)) ◂ nil)) ◂ nil)) ◂ nil)) ◂ nil)) ◂ nil)) ◂ nil)) ◂ nil)) ◂ nil)) ◂ nil)) ◂ nil)) ◂ nil)) ◂ nil)) ◂ nil)) ◂ nil)) ◂ nil)) ◂ nil)) ◂ nil)) ◂ nil)) ◂ nil)) ◂ nil)) ◂ nil)) ◂ nil)) ◂ nil)) ◂ nil)) ◂ nil)) ◂ nil)) ◂ nil)) ◂ nil)) ◂ nil)) ◂ nil)) ◂ nil)) ◂ nil)) ◂ nil)) ◂ nil)) ◂ nil)) ◂ nil)) ◂ nil)) ◂ nil)) ◂ nil)) ◂ nil)) ◂ nil)) ◂ nil)) ◂ nil)) ◂ nil)) ◂ nil)) ◂ nil)) ◂ nil)) ◂ nil)) ◂ nil)) ◂ nil)) ◂ nil)) ◂ nil)) ◂ nil)) ◂ nil)) ◂ nil)) ◂ nil)) ◂ nil)) ◂ nil)) ◂ nil)) ◂ nil)) ◂ nil)) ◂ nil)) ◂ nil)) ◂ nil)) ◂ nil)) ◂ nil)) ◂ nil)) ◂ nil)) ◂ nil)) ◂ nil)) ◂ nil)) ◂ nil)) ◂ nil)) ◂ nil)) ◂ nil)) ◂ nil)) ◂ nil)) ◂ nil)) ◂ nil)) ◂ nil)) ◂ nil)) ◂ nil)) ◂ nil)) ◂ nil)) ◂ nil)) ◂ nil)) ◂ nil)) ◂ nil)) ◂ nil)) ◂ nil)) ◂ nil)) ◂ nil)) ◂ nil)) ◂ nil)) ◂ nil)) ◂ nil)) ◂ nil)) ◂ nil)) ◂ nil)) ◂ nil)) ◂ nil)) ◂ nil)) ◂ nil)) ◂ nil)) ◂ nil)) ◂ nil)) ◂ nil)) ◂ nil)) ◂ nil)) ◂ nil)) ◂ nil)) ◂ nil)) ◂ nil)) ◂ nil)) ◂ nil)) ◂ nil)) ◂ nil)) ◂ nil)) ◂ nil)) ◂ nil)) ◂ nil)) ◂ nil)) ◂ nil)) ◂ nil)) ◂ nil)) ◂ nil)) ◂ nil)) ◂ nil)) ◂ nil)) ◂ nil)) ◂ nil)) ◂ nil)) ◂ nil)) ◂ nil)) ◂ nil)) ◂ nil)) ◂ nil)) ◂ nil)) ◂ nil)) ◂ nil)) ◂ nil)) ◂ nil)) ◂ nil)) ◂ nil)) ◂ nil)) ◂ nil)) ◂ nil)) ◂ nil)) ◂ nil)) ◂ nil)) ◂ nil)) ◂ nil)) ◂ nil)) ◂ nil)) ◂ nil)) ◂ nil)) ◂ nil)) ◂ nil)) ◂ nil)) ◂ nil)) ◂ nil)) ◂ nil)) ◂ nil)) ◂ nil)) ◂ nil)) ◂ nil)) ◂ nil)) ◂ nil)) ◂ nil)) ◂ nil)) ◂ nil)) ◂ nil)) ◂ nil)) ◂ nil)) ◂ nil)) ◂ nil)) ◂ nil)) ◂ nil)) ◂ nil)) ◂ nil)) ◂ nil)) ◂ nil)) ◂ nil)) ◂ nil)) ◂ nil)) ◂ nil)) ◂ nil)) ◂ nil)) ◂ nil)) ◂ nil)) ◂ nil)) ◂ nil)) ◂ nil)) ◂ nil)) ◂ nil)) ◂ nil)) ◂ nil)) ◂ nil)) ◂ nil)) ◂ nil)) ◂ nil)) ◂ nil)) ◂ nil)) ◂ nil)) ◂ nil)) ◂ nil)) ◂ nil)) ◂ nil)) ◂ nil)) ◂ nil)) ◂ nil)) ◂ nil)) ◂ nil)) ◂ nil)) ◂ nil)) ◂ nil)) ◂ nil)) ◂ nil)) ◂ nil)) ◂ nil)) ◂ nil)) ◂ nil)) ◂ nil)) ◂ nil)) ◂ nil))) ∷ []) (body "m254" (eint 1) ∷ [])
    ∷ instance [] "M254" (c "Int" nil) []
    ∷ check (eapp (ev "m254") (eint 1))
    ∷ check (eapp (ev "eq") (eapp (ev "m254") (eint 1)))
    ∷ class "M255" "a" [] (sig "m255" (arrow (v "a") (c "List" ((c "List" ((c "List" ((c "List" ((c "List" ((c "List" ((c "List" ((c "List" ((c "List" ((c "List" ((c "List" ((c "List" ((c "List" ((c "List" ((c "List" ((c "List" ((c "List" ((c "List" ((c "List" ((c "List" ((c "List" ((c "List" ((c "List" ((c "List" ((c "List" ((c "List" ((c "List" ((c "List" ((c "List" ((c "List" ((c "List" ((c "List" ((c "List" ((c "List" ((c "List" ((c "List" ((c "List" ((c "List" ((c "List" ((c "List" ((c "List" ((c "List" ((c "List" ((c "List" ((c "List" ((c "List" ((c "List" ((c "List" ((c "List" ((c "List" ((c "List" ((c "List" ((c "List" ((c "List" ((c "List" ((c "List" ((c "List" ((c "List" ((c "List" ((c "List" ((c "List" ((c "List" ((c "List" ((c "List" ((c "List" ((c "List" ((c "List" ((c "List" ((c "List" ((c "List" ((c "List" ((c "List" ((c "List" ((c "List" ((c "List" ((c "List" ((c "List" ((c "List" ((c "List" ((c "List" ((c "List" ((c "List" ((c "List" ((c "List" ((c "List" ((c "List" ((c "List" ((c "List" ((c "List" ((c "List" ((c "List" ((c "List" ((c "List" ((c "List" ((c "List" ((c "List" ((c "List" ((c "List" ((c "List" ((c "List" ((c "List" ((c "List" ((c "List" ((c "List" ((c "List" ((c "List" ((c "List" ((c "List" ((c "List" ((c "List" ((c "List" ((c "List" ((c "List" ((c "List" ((c "List" ((c "List" ((c "List" ((c "List" ((c "List" ((c "List" ((c "List" ((c "List" ((c "List" ((c "List" ((c "List" ((c "List" ((c "List" ((c "List" ((c "List" ((c "List" ((c "List" ((c "List" ((c "List" ((c "List" ((c "List" ((c "List" ((c "List" ((c "List" ((c "List" ((c "List" ((c "List" ((c "List" ((c "List" ((c "List" ((c "List" ((c "List" ((c "List" ((c "List" ((c "List" ((c "List" ((c "List" ((c "List" ((c "List" ((c "List" ((c "List" ((c "List" ((c "List" ((c "List" ((c "List" ((c "List" ((c "List" ((c "List" ((c "List" ((c "List" ((c "List" ((c "List" ((c "List" ((c "List" ((c "List" ((c "List" ((c "List" ((c "List" ((c "List" ((c "List" ((c "List" ((c "List" ((c "List" ((c "List" ((c "List" ((c "List" ((c "List" ((c "List" ((c "List" ((c "List" ((c "List" ((c "List" ((c "List" ((c "List" ((c "List" ((c "List" ((c "List" ((c "List" ((c "List" ((c "List" ((c "List" ((c "List" ((c "List" ((c "List" ((c "List" ((c "List" ((c "List" ((c "List" ((c "List" ((c "List" ((c "List" ((c "List" ((c "List" ((c "List" ((c "List" ((c "List" ((c "List" ((c "List" ((c "List" ((c "List" ((c "List" ((c "List" ((c "List" ((c "List" ((c "List" ((c "List" ((c "List" ((c "List" ((c "List" ((c "List" ((c "List" ((c "List" ((c "List" ((c "List" ((c "List" ((c "List" ((c "List" ((c "List" ((c "List" ((c "List" ((c "List" ((c "List" ((c "List" ((c "List" ((c "List" ((c "List" ((c "List" ((c "List" ((c "List" ((c "List" ((c "List" ((c "List" ((c "List" ((c "List" ((c "List" ((c "List" ((c "List" ((c "List" ((c "List" ((c "List" ((c "List" ((c "Int" nil) ◂ nil)) ◂ nil)) ◂ nil)) ◂ nil)) ◂ nil)) ◂ nil)) ◂ nil)) ◂ nil)) ◂ nil)) ◂ nil)) ◂ nil)) ◂ nil)) ◂ nil)) ◂ nil)) ◂ nil)) ◂ nil)) ◂ nil)) ◂ nil)) ◂ nil)) ◂ nil)) ◂ nil)) ◂ nil)) ◂ nil)) ◂ nil)) ◂ nil)) ◂ nil)) ◂ nil)) ◂ nil)) ◂ nil)) ◂ nil)) ◂ nil)) ◂ nil)) ◂ nil)) ◂ nil)) ◂ nil)) ◂ nil)) ◂ nil)) ◂ nil)) ◂ nil)) ◂ nil)) ◂ nil)) ◂ nil)) ◂ nil)) ◂ nil)) ◂ nil)) ◂ nil)) ◂ nil)) ◂ nil)) ◂ nil)) ◂ nil)) ◂ nil)) ◂ nil)) ◂ nil)) ◂ nil)) ◂ nil)) ◂ nil)) ◂ nil)) ◂ nil)) ◂ nil)) ◂ nil)) ◂ nil)) ◂ nil)) ◂ nil)) ◂ nil)) ◂ nil)) ◂ nil)) ◂ nil)) ◂ nil)) ◂ nil)) ◂ nil)) ◂ nil)) ◂ nil)) ◂ nil)) ◂ nil)) ◂ nil)) ◂ nil)) ◂ nil)) ◂ nil)) ◂ nil)) ◂ nil)) ◂ nil)) ◂ nil)) ◂ nil)) ◂ nil)) ◂ nil)) ◂ nil)) ◂ nil)) ◂ nil)) ◂ nil)) ◂ nil)) ◂ nil)) ◂ nil)) ◂ nil)) ◂ nil)) ◂ nil)) ◂ nil)) ◂ nil)) ◂ nil)) ◂ nil)) ◂ nil)) ◂ nil)) ◂ nil)) ◂ nil)) ◂ nil)) ◂ nil)) ◂ nil)) ◂ nil)) ◂ nil)) ◂ nil)) ◂ nil)) ◂ nil)) ◂ nil)) ◂ nil)) ◂ nil)) ◂ nil)) ◂ nil)) ◂ nil)) ◂ nil)) ◂ nil)) ◂ nil)) ◂ nil)) ◂ nil)) ◂ nil)) ◂ nil)) ◂ nil)) ◂ nil)) ◂ nil)) ◂ nil)) ◂ nil)) ◂ nil)) ◂ nil)) ◂ nil)) ◂ nil)) ◂ nil)) ◂ nil)) ◂ nil)) ◂ nil)) ◂ nil)) ◂ nil)) ◂ nil)) ◂ nil)) ◂ nil)) ◂ nil)) ◂ nil)) ◂ nil)) ◂ nil)) ◂ nil)) ◂ nil)) ◂ nil)) ◂ nil)) ◂ nil)) ◂ nil)) ◂ nil)) ◂ nil)) ◂ nil)) ◂ nil)) ◂ nil)) ◂ nil)) ◂ nil)) ◂ nil)) ◂ nil)) ◂ nil)) ◂ nil)) ◂ nil)) ◂ nil)) ◂ nil)) ◂ nil)) ◂ nil)) ◂ nil)) ◂ nil)) ◂ nil)) ◂ nil)) ◂ nil)) ◂ nil)) ◂ nil)) ◂ nil)) ◂ nil)) ◂ nil)) ◂ nil)) ◂ nil)) ◂ nil)) ◂ nil)) ◂ nil)) ◂ nil)) ◂ nil)) ◂ nil)) ◂ nil)) ◂ nil)) ◂ nil)) ◂ nil)) ◂ nil)) ◂ nil)) ◂ nil)) ◂ nil)) ◂ nil)) ◂ nil)) ◂ nil)) ◂ nil)) ◂ nil)) ◂ nil)) ◂ nil)) ◂ nil)) ◂ nil)) ◂ nil)) ◂ nil)) ◂ nil)) ◂ nil)) ◂ nil)) ◂ nil)) ◂ nil)) ◂ nil)) ◂ nil)) ◂ nil)) ◂ nil)) ◂ nil)) ◂ nil)) ◂ nil)) ◂ nil)) ◂ nil)) ◂ nil)) ◂ nil)) ◂ nil)) ◂ nil)) ◂ nil)) ◂ nil)) ◂ nil)) ◂ nil)) ◂ nil)) ◂ nil)) ◂ nil)) ◂ nil)) ◂ nil)) ◂ nil)) ◂ nil)) ◂ nil)) ◂ nil)) ◂ nil)) ◂ nil)) ◂ nil)) ◂ nil)) ◂ nil)) ◂ nil)) ◂ nil)) ◂ nil)) ◂ nil)) ◂ nil)) ◂ nil)) ◂ nil)) ◂ nil)) ◂ nil)) ◂ nil)) ◂ nil)) ◂ nil)) ◂ nil)) ◂ nil))) ∷ []) (body "m255" (eint 1) ∷ [])
    ∷ instance [] "M255" (c "Int" nil) []
    ∷ check (eapp (ev "m255") (eint 1))
    ∷ check (eapp (ev "eq") (eapp (ev "m255") (eint 1)))
    ∷ class "M256" "a" [] (sig "m256" (arrow (v "a") (c "List" ((c "List" ((c "List" ((c "List" ((c "List" ((c "List" ((c "List" ((c "List" ((c "List" ((c "List" ((c "List" ((c "List" ((c "List" ((c "List" ((c "List" ((c "List" ((c "List" ((c "List" ((c "List" ((c "List" ((c "List" ((c "List" ((c "List" ((c "List" ((c "List" ((c "List" ((c "List" ((c "List" ((c "List" ((c "List" ((c "List" ((c "List" ((c "List" ((c "List" ((c "List" ((c "List" ((c "List" ((c "List" ((c "List" ((c "List" ((c "List" ((c "List" ((c "List" ((c "List" ((c "List" ((c "List" ((c "List" ((c "List" ((c "List" ((c "List" ((c "List" ((c "List" ((c "List" ((c "List" ((c "List" ((c "List" ((c "List" ((c "List" ((c "List" ((c "List" ((c "List" ((c "List" ((c "List" ((c "List" ((c "List" ((c "List" ((c "List" ((c "List" ((c "List" ((c "List" ((c "List" ((c "List" ((c "List" ((c "List" ((c "List" ((c "List" ((c "List" ((c "List" ((c "List" ((c "List" ((c "List" ((c "List" ((c "List" ((c "List" ((c "List" ((c "List" ((c "List" ((c "List" ((c "List" ((c "List" ((c "List" ((c "List" ((c "List" ((c "List" ((c "List" ((c "List" ((c "List" ((c "List" ((c "List" ((c "List" ((c "List" ((c "List" ((c "List" ((c "List" ((c "List" ((c "List" ((c "List" ((c "List" ((c "List" ((c "List" ((c "List" ((c "List" ((c "List" ((c "List" ((c "List" ((c "List" ((c "List" ((c "List" ((c "List" ((c "List" ((c "List" ((c "List" ((c "List" ((c "List" ((c "List" ((c "List" ((c "List" ((c "List" ((c "List" ((c "List" ((c "List" ((c "List" ((c "List" ((c "List" ((c "List" ((c "List" ((c "List" ((c "List" ((c "List" ((c "List" ((c "List" ((c "List" ((c "List" ((c "List" ((c "List" ((c "List" ((c "List" ((c "List" ((c "List" ((c "List" ((c "List" ((c "List" ((c "List" ((c "List" ((c "List" ((c "List" ((c "List" ((c "List" ((c "List" ((c "List" ((c "List" ((c "List" ((c "List" ((c "List" ((c "List" ((c "List" ((c "List" ((c "List" ((c "List" ((c "List" ((c "List" ((c "List" ((c "List" ((c "List" ((c "List" ((c "List" ((c "List" ((c "List" ((c "List" ((c "List" ((c "List" ((c "List" ((c "List" ((c "List" ((c "List" ((c "List" ((c "List" ((c "List" ((c "List" ((c "List" ((c "List" ((c "List" ((c "List" ((c "List" ((c "List" ((c "List" ((c "List" ((c "List" ((c "List" ((c "List" ((c "List" ((c "List" ((c "List" ((c "List" ((c "List" ((c "List" ((c "List" ((c "List" ((c "List" ((c "List" ((c "List" ((c "List" ((c "List" ((c "List" ((c "List" ((c "List" ((c "List" ((c "List" ((c "List" ((c "List" ((c "List" ((c "List" ((c "List" ((c "List" ((c "List" ((c "List" ((c "List" ((c "List" ((c "List" ((c "List" ((c "List" ((c "List" ((c "List" ((c "List" ((c "List" ((c "List" ((c "List" ((c "List" ((c "List" ((c "List" ((c "List" ((c "List" ((c "List" ((c "List" ((c "List" ((c "List" ((c "List" ((c "List" ((c "List" ((c "List" ((c "List" ((c "List" ((c "List" ((c "List" ((c "List" ((c "List" ((c "Int" nil) ◂ nil)) ◂ nil)) ◂ nil)) ◂ nil)) ◂ nil)) ◂ nil)) ◂ nil)) ◂ nil)) ◂ nil)) ◂ nil)) ◂ nil)) ◂ nil)) ◂ nil)) ◂ nil)) ◂ nil)) ◂ nil)) ◂ nil)) ◂ nil)) ◂ nil)) ◂ nil)) ◂ nil)) ◂ nil)) ◂ nil)) ◂ nil)) ◂ nil)) ◂ nil)) ◂ nil)) ◂ nil)) ◂ nil)) ◂ nil)) ◂ nil)) ◂ nil)) ◂ nil)) ◂ nil)) ◂ nil)) ◂ nil)) ◂ nil)) ◂ nil)) ◂ nil)) ◂ nil)) ◂ nil)) ◂ nil)) ◂ nil)) ◂ nil)) ◂ nil)) ◂ nil)) ◂ nil)) ◂ nil)) ◂ nil)) ◂ nil)) ◂ nil)) ◂ nil)) ◂ nil)) ◂ nil)) ◂ nil)) ◂ nil)) ◂ nil)) ◂ nil)) ◂ nil)) ◂ nil)) ◂ nil)) ◂ nil)) ◂ nil)) ◂ nil)) ◂ nil)) ◂ nil)) ◂ nil)) ◂ nil)) ◂ nil)) ◂ nil)) ◂ nil)) ◂ nil)) ◂ nil)) ◂ nil)) ◂ nil)) ◂ nil)) ◂ nil)) ◂ nil)) ◂ nil)) ◂ nil)) ◂ nil)) ◂ nil)) ◂ nil)) ◂ nil)) ◂ nil)) ◂ nil)) ◂ nil)) ◂ nil)) ◂ nil)) ◂ nil)) ◂ nil)) ◂ nil)) ◂ nil)) ◂ nil)) ◂ nil)) ◂ nil)) ◂ nil)) ◂ nil)) ◂ nil)) ◂ nil)) ◂ nil)) ◂ nil)) ◂ nil)) ◂ nil)) ◂ nil)) ◂ nil)) ◂ nil)) ◂ nil)) ◂ nil)) ◂ nil)) ◂ nil)) ◂ nil)) ◂ nil)) ◂ nil)) ◂ nil)) ◂ nil)) ◂ nil)) ◂ nil)) ◂ nil)) ◂ nil)) ◂ nil)) ◂ nil)) ◂ nil)) ◂ nil)) ◂ nil)) ◂ nil)) ◂ nil)) ◂ nil)) ◂ nil)) ◂ nil)) ◂ nil)) ◂ nil)) ◂ nil)) ◂ nil)) ◂ nil)) ◂ nil)) ◂ nil)) ◂ nil)) ◂ nil)) ◂ nil)) ◂ nil)) ◂ nil)) ◂ nil)) ◂ nil)) ◂ nil)) ◂ nil)) ◂ nil)) ◂ nil)) ◂ nil)) ◂ nil)) ◂ nil)) ◂ nil)) ◂ nil)) ◂ nil)) ◂ nil)) ◂ nil)) ◂ nil)) ◂ nil)) ◂ nil)) ◂ nil)) ◂ nil)) ◂ nil)) ◂ nil)) ◂ nil)) ◂ nil)) ◂ nil)) ◂ nil)) ◂ nil)) ◂ nil)) ◂ nil)) ◂ nil)) ◂ nil)) ◂ nil)) ◂ nil)) ◂ nil)) ◂ nil)) ◂ nil)) ◂ nil)) ◂ nil)) ◂ nil)) ◂ nil)) ◂ nil)) ◂ nil)) ◂ nil)) ◂ nil)) ◂ nil)) ◂ nil)) ◂ nil)) ◂ nil)) ◂ nil)) ◂ nil)) ◂ nil)) ◂ nil)) ◂ nil)) ◂ nil)) ◂ nil)) ◂ nil)) ◂ nil)) ◂ nil)) ◂ nil)) ◂ nil)) ◂ nil)) ◂ nil)) ◂ nil)) ◂ nil)) ◂ nil)) ◂ nil)) ◂ nil)) ◂ nil)) ◂ nil)) ◂ nil)) ◂ nil)) ◂ nil)) ◂ nil)) ◂ nil)) ◂ nil)) ◂ nil)) ◂ nil)) ◂ nil)) ◂ nil)) ◂ nil)) ◂ nil)) ◂ nil)) ◂ nil)) ◂ nil)) ◂ nil)) ◂ nil)) ◂ nil)) ◂ nil)) ◂ nil)) ◂ nil)) ◂ nil)) ◂ nil)) ◂ nil)) ◂ nil)) ◂ nil)) ◂ nil)) ◂ nil)) ◂ nil)) ◂ nil)) ◂ nil)) ◂ nil)) ◂ nil)) ◂ nil)) ◂ nil)) ◂ nil)) ◂ nil)) ◂ nil)) ◂ nil)) ◂ nil)) ◂ nil)) ◂ nil)) ◂ nil)) ◂ nil)) ◂ nil)) ◂ nil))) ∷ []) (body "m256" (eint 1) ∷ [])
    ∷ instance [] "M256" (c "Int" nil) []
    ∷ check (eapp (ev "m256") (eint 1))
    ∷ check (eapp (ev "eq") (eapp (ev "m256") (eint 1)))
    ∷ class "H" "a" [] [] []
    ∷ instance [] "H" (c "List" ((c "List" ((c "List" ((c "List" ((c "List" ((c "List" ((c "List" ((c "List" ((c "List" ((c "List" ((c "List" ((c "List" ((c "List" ((c "List" ((c "List" ((c "List" ((c "List" ((c "List" ((c "List" ((c "List" ((c "List" ((c "List" ((c "List" ((c "List" ((c "List" ((c "List" ((c "List" ((c "List" ((c "List" ((c "List" ((c "List" ((c "List" ((c "List" ((c "List" ((c "List" ((c "List" ((c "List" ((c "List" ((c "List" ((c "List" ((c "List" ((c "List" ((c "List" ((c "List" ((c "List" ((c "List" ((c "List" ((c "List" ((c "List" ((c "List" ((c "List" ((c "List" ((c "List" ((c "List" ((c "List" ((c "List" ((c "List" ((c "List" ((c "List" ((c "List" ((c "List" ((c "List" ((c "List" ((c "List" ((c "List" ((c "List" ((c "List" ((c "List" ((c "List" ((c "List" ((c "List" ((c "List" ((c "List" ((c "List" ((c "List" ((c "List" ((c "List" ((c "List" ((c "List" ((c "List" ((c "List" ((c "List" ((c "List" ((c "List" ((c "List" ((c "List" ((c "List" ((c "List" ((c "List" ((c "List" ((c "List" ((c "List" ((c "List" ((c "List" ((c "List" ((c "List" ((c "List" ((c "List" ((c "List" ((c "List" ((c "List" ((c "List" ((c "List" ((c "List" ((c "List" ((c "List" ((c "List" ((c "List" ((c "List" ((c "List" ((c "List" ((c "List" ((c "List" ((c "List" ((c "List" ((c "List" ((c "List" ((c "List" ((c "List" ((c "List" ((c "List" ((c "List" ((c "List" ((c "List" ((c "List" ((c "List" ((c "List" ((c "List" ((c "List" ((c "List" ((c "List" ((c "List" ((c "List" ((c "List" ((c "List" ((c "List" ((c "List" ((c "List" ((c "List" ((c "List" ((c "List" ((c "List" ((c "List" ((c "List" ((c "List" ((c "List" ((c "List" ((c "List" ((c "List" ((c "List" ((c "List" ((c "List" ((c "List" ((c "List" ((c "List" ((c "List" ((c "List" ((c "List" ((c "List" ((c "List" ((c "List" ((c "List" ((c "List" ((c "List" ((c "List" ((c "List" ((c "List" ((c "List" ((c "List" ((c "List" ((c "List" ((c "List" ((c "List" ((c "List" ((c "List" ((c "List" ((c "List" ((c "List" ((c "List" ((c "List" ((c "List" ((c "List" ((c "List" ((c "List" ((c "List" ((c "List" ((c "List" ((c "List" ((c "List" ((c "List" ((c "List" ((c "List" ((c "List" ((c "List" ((c "List" ((c "List" ((c "List" ((c "List" ((c "List" ((c "List" ((c "List" ((c "List" ((c "List" ((c "List" ((c "List" ((c "List" ((c "List" ((c "List" ((c "List" ((c "List" ((c "List" ((c "List" ((c "List" ((c "List" ((c "List" ((c "List" ((c "List" ((c "List" ((c "List" ((c "List" ((c "List" ((c "List" ((c "List" ((c "List" ((c "List" ((c "List" ((c "List" ((c "List" ((c "List" ((c "List" ((c "List" ((c "List" ((c "List" ((c "List" ((c "List" ((c "List" ((c "List" ((c "List" ((c "List" ((c "List" ((c "List" ((c "List" ((c "List" ((c "List" ((c "List" ((c "List" ((c "List" ((c "List" ((c "List" ((c "List" ((c "List" ((c "List" ((c "List" ((c "List" ((c "List" ((v "a") ◂ nil)) ◂ nil)) ◂ nil)) ◂ nil)) ◂ nil)) ◂ nil)) ◂ nil)) ◂ nil)) ◂ nil)) ◂ nil)) ◂ nil)) ◂ nil)) ◂ nil)) ◂ nil)) ◂ nil)) ◂ nil)) ◂ nil)) ◂ nil)) ◂ nil)) ◂ nil)) ◂ nil)) ◂ nil)) ◂ nil)) ◂ nil)) ◂ nil)) ◂ nil)) ◂ nil)) ◂ nil)) ◂ nil)) ◂ nil)) ◂ nil)) ◂ nil)) ◂ nil)) ◂ nil)) ◂ nil)) ◂ nil)) ◂ nil)) ◂ nil)) ◂ nil)) ◂ nil)) ◂ nil)) ◂ nil)) ◂ nil)) ◂ nil)) ◂ nil)) ◂ nil)) ◂ nil)) ◂ nil)) ◂ nil)) ◂ nil)) ◂ nil)) ◂ nil)) ◂ nil)) ◂ nil)) ◂ nil)) ◂ nil)) ◂ nil)) ◂ nil)) ◂ nil)) ◂ nil)) ◂ nil)) ◂ nil)) ◂ nil)) ◂ nil)) ◂ nil)) ◂ nil)) ◂ nil)) ◂ nil)) ◂ nil)) ◂ nil)) ◂ nil)) ◂ nil)) ◂ nil)) ◂ nil)) ◂ nil)) ◂ nil)) ◂ nil)) ◂ nil)) ◂ nil)) ◂ nil)) ◂ nil)) ◂ nil)) ◂ nil)) ◂ nil)) ◂ nil)) ◂ nil)) ◂ nil)) ◂ nil)) ◂ nil)) ◂ nil)) ◂ nil)) ◂ nil)) ◂ nil)) ◂ nil)) ◂ nil)) ◂ nil)) ◂ nil)) ◂ nil)) ◂ nil)) ◂ nil)) ◂ nil)) ◂ nil)) ◂ nil)) ◂ nil)) ◂ nil)) ◂ nil)) ◂ nil)) ◂ nil)) ◂ nil)) ◂ nil)) ◂ nil)) ◂ nil)) ◂ nil)) ◂ nil)) ◂ nil)) ◂ nil)) ◂ nil)) ◂ nil)) ◂ nil)) ◂ nil)) ◂ nil)) ◂ nil)) ◂ nil)) ◂ nil)) ◂ nil)) ◂ nil)) ◂ nil)) ◂ nil)) ◂ nil)) ◂ nil)) ◂ nil)) ◂ nil)) ◂ nil)) ◂ nil)) ◂ nil)) ◂ nil)) ◂ nil)) ◂ nil)) ◂ nil)) ◂ nil)) ◂ nil)) ◂ nil)) ◂ nil)) ◂ nil)) ◂ nil)) ◂ nil)) ◂ nil)) ◂ nil)) ◂ nil)) ◂ nil)) ◂ nil)) ◂ nil)) ◂ nil)) ◂ nil)) ◂ nil)) ◂ nil)) ◂ nil)) ◂ nil)) ◂ nil)) ◂ nil)) ◂ nil)) ◂ nil)) ◂ nil)) ◂ nil)) ◂ nil)) ◂ nil)) ◂ nil)) ◂ nil)) ◂ nil)) ◂ nil)) ◂ nil)) ◂ nil)) ◂ nil)) ◂ nil)) ◂ nil)) ◂ nil)) ◂ nil)) ◂ nil)) ◂ nil)) ◂ nil)) ◂ nil)) ◂ nil)) ◂ nil)) ◂ nil)) ◂ nil)) ◂ nil)) ◂ nil)) ◂ nil)) ◂ nil)) ◂ nil)) ◂ nil)) ◂ nil)) ◂ nil)) ◂ nil)) ◂ nil)) ◂ nil)) ◂ nil)) ◂ nil)) ◂ nil)) ◂ nil)) ◂ nil)) ◂ nil)) ◂ nil)) ◂ nil)) ◂ nil)) ◂ nil)) ◂ nil)) ◂ nil)) ◂ nil)) ◂ nil)) ◂ nil)) ◂ nil)) ◂ nil)) ◂ nil)) ◂ nil)) ◂ nil)) ◂ nil)) ◂ nil)) ◂ nil)) ◂ nil)) ◂ nil)) ◂ nil)) ◂ nil)) ◂ nil)) ◂ nil)) ◂ nil)) ◂ nil)) ◂ nil)) ◂ nil)) ◂ nil)) ◂ nil)) ◂ nil)) ◂ nil)) ◂ nil)) ◂ nil)) ◂ nil)) ◂ nil)) ◂ nil)) ◂ nil)) ◂ nil)) ◂ nil)) ◂ nil)) ◂ nil)) ◂ nil)) ◂ nil)) ◂ nil)) ◂ nil)) ◂ nil)) ◂ nil)) ◂ nil)) ◂ nil)) ◂ nil)) ◂ nil)) ◂ nil)) ◂ nil)) []
    ∷ instance [] "H" (c "List" ((c "List" ((c "List" ((c "List" ((c "List" ((c "List" ((c "List" ((c "List" ((c "List" ((c "List" ((c "List" ((c "List" ((c "List" ((c "List" ((c "List" ((c "List" ((c "List" ((c "List" ((c "List" ((c "List" ((c "List" ((c "List" ((c "List" ((c "List" ((c "List" ((c "List" ((c "List" ((c "List" ((c "List" ((c "List" ((c "List" ((c "List" ((c "List" ((c "List" ((c "List" ((c "List" ((c "List" ((c "List" ((c "List" ((c "List" ((c "List" ((c "List" ((c "List" ((c "List" ((c "List" ((c "List" ((c "List" ((c "List" ((c "List" ((c "List" ((c "List" ((c "List" ((c "List" ((c "List" ((c "List" ((c "List" ((c "List" ((c "List" ((c "List" ((c "List" ((c "List" ((c "List" ((c "List" ((c "List" ((c "List" ((c "List" ((c "List" ((c "List" ((c "List" ((c "List" ((c "List" ((c "List" ((c "List" ((c "List" ((c "List" ((c "List" ((c "List" ((c "List" ((c "List" ((c "List" ((c "List" ((c "List" ((c "List" ((c "List" ((c "List" ((c "List" ((c "List" ((c "List" ((c "List" ((c "List" ((c "List" ((c "List" ((c "List" ((c "List" ((c "List" ((c "List" ((c "List" ((c "List" ((c "List" ((c "List" ((c "List" ((c "List" ((c "List" ((c "List" ((c "List" ((c "List" ((c "List" ((c "List" ((c "List" ((c "List" ((c "List" ((c "List" ((c "List" ((c "List" ((c "List" ((c "List" ((c "List" ((c "List" ((c "List" ((c "List" ((c "List" ((c "List" ((c "List" ((c "List" ((c "List" ((c "List" ((c "List" ((c "List" ((c "List" ((c "List" ((c "List" ((c "List" ((c "List" ((c "List" ((c "List" ((c "List" ((c "List" ((c "List" ((c "List" ((c "List" ((c "List" ((c "List" ((c "List" ((c "List" ((c "List" ((c "List" ((c "List" ((c "List" ((c "List" ((c "List" ((c "List" ((c "List" ((c "List" ((c "List" ((c "List" ((c "List" ((c "List" ((c "List" ((c "List" ((c "List" ((c "List" ((c "List" ((c "List" ((c "List" ((c "List" ((c "List" ((c "List" ((c "List" ((c "List" ((c "List" ((c "List" ((c "List" ((c "List" ((c "List" ((c "List" ((c "List" ((c "List" ((c "List" ((c "List" ((c "List" ((c "List" ((c "List" ((c "List" ((c "List" ((c "List" ((c "List" ((c "List" ((c "List" ((c "List" ((c "List" ((c "List" ((c "List" ((c "List" ((c "List" ((c "List" ((c "List" ((c "List" ((c "List" ((c "List" ((c "List" ((c "List" ((c "List" ((c "List" ((c "List" ((c "List" ((c "List" ((c "List" ((c "List" ((c "List" ((c "List" ((c "List" ((c "List" ((c "List" ((c "List" ((c "List" ((c "List" ((c "List" ((c "List" ((c "List" ((c "List" ((c "List" ((c "List" ((c "List" ((c "List" ((c "List" ((c "List" ((c "List" ((c "List" ((c "List" ((c "List" ((c "List" ((c "List" ((c "List" ((c "List" ((c "List" ((c "List" ((c "List" ((c "List" ((c "List" ((c "List" ((c "List" ((c "List" ((c "List" ((c "List" ((c "List" ((c "List" ((c "List" ((c "List" ((c "List" ((c "List" ((c "List" ((c "List" ((c "List" ((c "List" ((c "List" ((v "a") ◂ nil)) ◂ nil)) ◂ nil)) ◂ nil)) ◂ nil)) ◂ nil)) ◂ nil)) ◂ nil)) ◂ nil)) ◂ nil)) ◂ nil)) ◂ nil)) ◂ nil)) ◂ nil)) ◂ nil)) ◂ nil)) ◂ nil)) ◂ nil)) ◂ nil)) ◂ nil)) ◂ nil)) ◂ nil)) ◂ nil)) ◂ nil)) ◂ nil)) ◂ nil)) ◂ nil)) ◂ nil)) ◂ nil)) ◂ nil)) ◂ nil)) ◂ nil)) ◂ nil)) ◂ nil)) ◂ nil)) ◂ nil)) ◂ nil)) ◂ nil)) ◂ nil)) ◂ nil)) ◂ nil)) ◂ nil)) ◂ nil)) ◂ nil)) ◂ nil)) ◂ nil)) ◂ nil)) ◂ nil)) ◂ nil)) ◂ nil)) ◂ nil)) ◂ nil)) ◂ nil)) ◂ nil)) ◂ nil)) ◂ nil)) ◂ nil)) ◂ nil)) ◂ nil)) ◂ nil)) ◂ nil)) ◂ nil)) ◂ nil)) ◂ nil)) ◂ nil)) ◂ nil)) ◂ nil)) ◂ nil)) ◂ nil)) ◂ nil)) ◂ nil)) ◂ nil)) ◂ nil)) ◂ nil)) ◂ nil)) ◂ nil)) ◂ nil)) ◂ nil)) ◂ nil)) ◂ nil)) ◂ nil)) ◂ nil)) ◂ nil)) ◂ nil)) ◂ nil)) ◂ nil)) ◂ nil)) ◂ nil)) ◂ nil)) ◂ nil)) ◂ nil)) ◂ nil)) ◂ nil)) ◂ nil)) ◂ nil)) ◂ nil)) ◂ nil)) ◂ nil)) ◂ nil)) ◂ nil)) ◂ nil)) ◂ nil)) ◂ nil)) ◂ nil)) ◂ nil)) ◂ nil)) ◂ nil)) ◂ nil)) ◂ nil)) ◂ nil)) ◂ nil)) ◂ nil)) ◂ nil)) ◂ nil)) ◂ nil)) ◂ nil)) ◂ nil)) ◂ nil)) ◂ nil)) ◂ nil)) ◂ nil)) ◂ nil)) ◂ nil)) ◂ nil)) ◂ nil)) ◂ nil)) ◂ nil)) ◂ nil)) ◂ nil)) ◂ nil)) ◂ nil)) ◂ nil)) ◂ nil)) ◂ nil)) ◂ nil)) ◂ nil)) ◂ nil)) ◂ nil)) ◂ nil)) ◂ nil)) ◂ nil)) ◂ nil)) ◂ nil)) ◂ nil)) ◂ nil)) ◂ nil)) ◂ nil)) ◂ nil)) ◂ nil)) ◂ nil)) ◂ nil)) ◂ nil)) ◂ nil)) ◂ nil)) ◂ nil)) ◂ nil)) ◂ nil)) ◂ nil)) ◂ nil)) ◂ nil)) ◂ nil)) ◂ nil)) ◂ nil)) ◂ nil)) ◂ nil)) ◂ nil)) ◂ nil)) ◂ nil)) ◂ nil)) ◂ nil)) ◂ nil)) ◂ nil)) ◂ nil)) ◂ nil)) ◂ nil)) ◂ nil)) ◂ nil)) ◂ nil)) ◂ nil)) ◂ nil)) ◂ nil)) ◂ nil)) ◂ nil)) ◂ nil)) ◂ nil)) ◂ nil)) ◂ nil)) ◂ nil)) ◂ nil)) ◂ nil)) ◂ nil)) ◂ nil)) ◂ nil)) ◂ nil)) ◂ nil)) ◂ nil)) ◂ nil)) ◂ nil)) ◂ nil)) ◂ nil)) ◂ nil)) ◂ nil)) ◂ nil)) ◂ nil)) ◂ nil)) ◂ nil)) ◂ nil)) ◂ nil)) ◂ nil)) ◂ nil)) ◂ nil)) ◂ nil)) ◂ nil)) ◂ nil)) ◂ nil)) ◂ nil)) ◂ nil)) ◂ nil)) ◂ nil)) ◂ nil)) ◂ nil)) ◂ nil)) ◂ nil)) ◂ nil)) ◂ nil)) ◂ nil)) ◂ nil)) ◂ nil)) ◂ nil)) ◂ nil)) ◂ nil)) ◂ nil)) ◂ nil)) ◂ nil)) ◂ nil)) ◂ nil)) ◂ nil)) ◂ nil)) ◂ nil)) ◂ nil)) ◂ nil)) ◂ nil)) ◂ nil)) ◂ nil)) ◂ nil)) ◂ nil)) ◂ nil)) ◂ nil)) ◂ nil)) ◂ nil)) ◂ nil)) ◂ nil)) ◂ nil)) ◂ nil)) ◂ nil)) []
    ∷ instance [] "H" (c "List" ((c "List" ((c "List" ((c "List" ((c "List" ((c "List" ((c "List" ((c "List" ((c "List" ((c "List" ((c "List" ((c "List" ((c "List" ((c "List" ((c "List" ((c "List" ((c "List" ((c "List" ((c "List" ((c "List" ((c "List" ((c "List" ((c "List" ((c "List" ((c "List" ((c "List" ((c "List" ((c "List" ((c "List" ((c "List" ((c "List" ((c "List" ((c "List" ((c "List" ((c "List" ((c "List" ((c "List" ((c "List" ((c "List" ((c "List" ((c "List" ((c "List" ((c "List" ((c "List" ((c "List" ((c "List" ((c "List" ((c "List" ((c "List" ((c "List" ((c "List" ((c "List" ((c "List" ((c "List" ((c "List" ((c "List" ((c "List" ((c "List" ((c "List" ((c "List" ((c "List" ((c "List" ((c "List" ((c "List" ((c "List" ((c "List" ((c "List" ((c "List" ((c "List" ((c "List" ((c "List" ((c "List" ((c "List" ((c "List" ((c "List" ((c "List" ((c "List" ((c "List" ((c "List" ((c "List" ((c "List" ((c "List" ((c "List" ((c "List" ((c "List" ((c "List" ((c "List" ((c "List" ((c "List" ((c "List" ((c "List" ((c "List" ((c "List" ((c "List" ((c "List" ((c "List" ((c "List" ((c "List" ((c "List" ((c "List" ((c "List" ((c "List" ((c "List" ((c "List" ((c "List" ((c "List" ((c "List" ((c "List" ((c "List" ((c "List" ((c "List" ((c "List" ((c "List" ((c "List" ((c "List" ((c "List" ((c "List" ((c "List" ((c "List" ((c "List" ((c "List" ((c "List" ((c "List" ((c "List" ((c "List" ((c "List" ((c "List" ((c "List" ((c "List" ((c "List" ((c "List" ((c "List" ((c "List" ((c "List" ((c "List" ((c "List" ((c "List" ((c "List" ((c "List" ((c "List" ((c "List" ((c "List" ((c "List" ((c "List" ((c "List" ((c "List" ((c "List" ((c "List" ((c "List" ((c "List" ((c "List" ((c "List" ((c "List" ((c "List" ((c "List" ((c "List" ((c "List" ((c "List" ((c "List" ((c "List" ((c "List" ((c "List" ((c "List" ((c "List" ((c "List" ((c "List" ((c "List" ((c "List" ((c "List" ((c "List" ((c "List" ((c "List" ((c "List" ((c "List" ((c "List" ((c "List" ((c "List" ((c "List" ((c "List" ((c "List" ((c "List" ((c "List" ((c "List" ((c "List" ((c "List" ((c "List" ((c "List" ((c "List" ((c "List" ((c "List" ((c "List" ((c "List" ((c "List" ((c "List" ((c "List" ((c "List" ((c "List" ((c "List" ((c "List" ((c "List" ((c "List" ((c "List" ((c "List" ((c "List" ((c "List" ((c "List" ((c "List" ((c "List" ((c "List" ((c "List" ((c "List" ((c "List" ((c "List" ((c "List" ((c "List" ((c "List" ((c "List" ((c "List" ((c "List" ((c "List" ((c "List" ((c "List" ((c "List" ((c "List" ((c "List" ((c "List" ((c "List" ((c "List" ((c "List" ((c "List" ((c "List" ((c "List" ((c "List" ((c "List" ((c "List" ((c "List" ((c "List" ((c "List" ((c "List" ((c "List" ((c "List" ((c "List" ((c "List" ((c "List" ((c "List" ((c "List" ((c "List" ((c "List" ((c "List" ((c "List" ((c "List" ((c "List" ((c "List" ((c "List" ((c "List" ((c "List" ((v "a") ◂ nil)) ◂ nil)) ◂ nil)) ◂ nil)) ◂ nil)) ◂ nil)) ◂ nil)) ◂ nil)) ◂ nil)) ◂ nil)) ◂ nil)) ◂ nil)) ◂ nil)) ◂ nil)) ◂ nil)) ◂ nil)) ◂ nil)) ◂ nil)) ◂ nil)) ◂ nil)) ◂ nil)) ◂ nil)) ◂ nil)) ◂ nil)) ◂ nil)) ◂ nil)) ◂ nil)) ◂ nil)) ◂ nil)) ◂ nil)) ◂ nil)) ◂ nil)) ◂ nil)) ◂ nil)) ◂ nil)) ◂ nil)) ◂ nil)) ◂ nil)) ◂ nil)) ◂ nil)) ◂ nil)) ◂ nil)) ◂ nil)) ◂ nil)) ◂ nil)) ◂ nil)) ◂ nil)) ◂ nil)) ◂ nil)) ◂ nil)) ◂ nil)) ◂ nil)) ◂ nil)) ◂ nil)) ◂ nil)) ◂ nil)) ◂ nil)) ◂ nil)) ◂ nil)) ◂ nil)) ◂ nil)) ◂ nil)) ◂ nil)) ◂ nil)) ◂ nil)) ◂ nil)) ◂ nil)) ◂ nil)) ◂ nil)) ◂ nil)) ◂ nil)) ◂ nil)) ◂ nil)) ◂ nil)) ◂ nil)) ◂ nil)) ◂ nil)) ◂ nil)) ◂ nil)) ◂ nil)) ◂ nil)) ◂ nil)) ◂ nil)) ◂ nil)) ◂ nil)) ◂ nil)) ◂ nil)) ◂ nil)) ◂ nil)) ◂ nil)) ◂ nil)) ◂ nil)) ◂ nil)) ◂ nil)) ◂ nil)) ◂ nil)) ◂ nil)) ◂ nil)) ◂ nil)) ◂ nil)) ◂ nil)) ◂ nil)) ◂ nil)) ◂ nil)) ◂ nil)) ◂ nil)) ◂ nil)) ◂ nil)) ◂ nil)) ◂ nil)) ◂ nil)) ◂ nil)) ◂ nil)) ◂ nil)) ◂ nil)) ◂ nil)) ◂ nil)) ◂ nil)) ◂ nil)) ◂ nil)) ◂ nil)) ◂ nil)) ◂ nil)) ◂ nil)) ◂ nil)) ◂ nil)) ◂ nil)) ◂ nil)) ◂ nil)) ◂ nil)) ◂ nil)) ◂ nil)) ◂ nil)) ◂ nil)) ◂ nil)) ◂ nil)) ◂ nil)) ◂ nil)) ◂ nil)) ◂ nil)) ◂ nil)) ◂ nil)) ◂ nil)) ◂ nil)) ◂ nil)) ◂ nil)) ◂ nil)) ◂ nil)) ◂ nil)) ◂ nil)) ◂ nil)) ◂ nil)) ◂ nil)) ◂ nil)) ◂ nil)) ◂ nil)) ◂ nil)) ◂ nil)) ◂ nil)) ◂ nil)) ◂ nil)) ◂ nil)) ◂ nil)) ◂ nil)) ◂ nil)) ◂ nil)) ◂ nil)) ◂ nil)) ◂ nil)) ◂ nil)) ◂ nil)) ◂ nil)) ◂ nil)) ◂ nil)) ◂ nil)) ◂ nil)) ◂ nil)) ◂ nil)) ◂ nil)) ◂ nil)) ◂ nil)) ◂ nil)) ◂ nil)) ◂ nil)) ◂ nil)) ◂ nil)) ◂ nil)) ◂ nil)) ◂ nil)) ◂ nil)) ◂ nil)) ◂ nil)) ◂ nil)) ◂ nil)) ◂ nil)) ◂ nil)) ◂ nil)) ◂ nil)) ◂ nil)) ◂ nil)) ◂ nil)) ◂ nil)) ◂ nil)) ◂ nil)) ◂ nil)) ◂ nil)) ◂ nil)) ◂ nil)) ◂ nil)) ◂ nil)) ◂ nil)) ◂ nil)) ◂ nil)) ◂ nil)) ◂ nil)) ◂ nil)) ◂ nil)) ◂ nil)) ◂ nil)) ◂ nil)) ◂ nil)) ◂ nil)) ◂ nil)) ◂ nil)) ◂ nil)) ◂ nil)) ◂ nil)) ◂ nil)) ◂ nil)) ◂ nil)) ◂ nil)) ◂ nil)) ◂ nil)) ◂ nil)) ◂ nil)) ◂ nil)) ◂ nil)) ◂ nil)) ◂ nil)) ◂ nil)) ◂ nil)) ◂ nil)) ◂ nil)) ◂ nil)) ◂ nil)) ◂ nil)) ◂ nil)) ◂ nil)) ◂ nil)) ◂ nil)) ◂ nil)) ◂ nil)) ◂ nil)) ◂ nil)) ◂ nil)) ◂ nil)) []
    ∷ instance [] "H" (c "List" ((c "List" ((c "List" ((c "List" ((c "List" ((c "List" ((c "List" ((c "List" ((c "List" ((c "List" ((c "List" ((c "List" ((c "List" ((c "List" ((c "List" ((c "List" ((c "List" ((c "List" ((c "List" ((c "List" ((c "List" ((c "List" ((c "List" ((c "List" ((c "List" ((c "List" ((c "List" ((c "List" ((c "List" ((c "List" ((c "List" ((c "List" ((c "List" ((c "List" ((c "List" ((c "List" ((c "List" ((c "List" ((c "List" ((c "List" ((c "List" ((c "List" ((c "List" ((c "List" ((c "List" ((c "List" ((c "List" ((c "List" ((c "List" ((c "List" ((c "List" ((c "List" ((c "List" ((c "List" ((c "List" ((c "List" ((c "List" ((c "List" ((c "List" ((c "List" ((c "List" ((c "List" ((c "List" ((c "List" ((c "List" ((c "List" ((c "List" ((c "List" ((c "List" ((c "List" ((c "List" ((c "List" ((c "List" ((c "List" ((c "List" ((c "List" ((c "List" ((c "List" ((c "List" ((c "List" ((c "List" ((c "List" ((c "List" ((c "List" ((c "List" ((c "List" ((c "List" ((c "List" ((c "List" ((c "List" ((c "List" ((c "List" ((c "List" ((c "List" ((c "List" ((c "List" ((c "List" ((c "List" ((c "List" ((c "List" ((c "List" ((c "List" ((c "List" ((c "List" ((c "List" ((c "List" ((c "List" ((c "List" ((c "List" ((c "List" ((c "List" ((c "List" ((c "List" ((c "List" ((c "List" ((c "List" ((c "List" ((c "List" ((c "List" ((c "List" ((c "List" ((c "List" ((c "List" ((c "List" ((c "List" ((c "List" ((c "List" ((c "List" ((c "List" ((c "List" ((c "List" ((c "List" ((c "List" ((c "List" ((c "List" ((c "List" ((c "List" ((c "List" ((c "List" ((c "List" ((c "List" ((c "List" ((c "List" ((c "List" ((c "List" ((c "List" ((c "List" ((c "List" ((c "List" ((c "List" ((c "List" ((c "List" ((c "List" ((c "List" ((c "List" ((c "List" ((c "List" ((c "List" ((c "List" ((c "List" ((c "List" ((c "List" ((c "List" ((c "List" ((c "List" ((c "List" ((c "List" ((c "List" ((c "List" ((c "List" ((c "List" ((c "List" ((c "List" ((c "List" ((c "List" ((c "List" ((c "List" ((c "List" ((c "List" ((c "List" ((c "List" ((c "List" ((c "List" ((c "List" ((c "List" ((c "List" ((c "List" ((c "List" ((c "List" ((c "List" ((c "List" ((c "List" ((c "List" ((c "List" ((c "List" ((c "List" ((c "List" ((c "List" ((c "List" ((c "List" ((c "List" ((c "List" ((c "List" ((c "List" ((c "List" ((c "List" ((c "List" ((c "List" ((c "List" ((c "List" ((c "List" ((c "List" ((c "List" ((c "List" ((c "List" ((c "List" ((c "List" ((c "List" ((c "List" ((c "List" ((c "List" ((c "List" ((c "List" ((c "List" ((c "List" ((c "List" ((c "List" ((c "List" ((c "List" ((c "List" ((c "List" ((c "List" ((c "List" ((c "List" ((c "List" ((c "List" ((c "List" ((c "List" ((c "List" ((c "List" ((c "List" ((c "List" ((c "List" ((c "List" ((c "List" ((c "List" ((c "List" ((c "List" ((c "List" ((c "List" ((c "List" ((c "List" ((c "List" ((c "List" ((c "List" ((c "List" ((v "a") ◂ nil)) ◂ nil)) ◂ nil)) ◂ nil)) ◂ nil)) ◂ nil)) ◂ nil)) ◂ nil)) ◂ nil)) ◂ nil)) ◂ nil)) ◂ nil)) ◂ nil)) ◂ nil)) ◂ nil)) ◂ nil)) ◂ nil)) ◂ nil)) ◂ nil)) ◂ nil)) ◂ nil)) ◂ nil)) ◂ nil)) ◂ nil)) ◂ nil)) ◂ nil)) ◂ nil)) ◂ nil)) ◂ nil)) ◂ nil)) ◂ nil)) ◂ nil)) ◂ nil)) ◂ nil)) ◂ nil)) ◂ nil)) ◂ nil)) ◂ nil)) ◂ nil)) ◂ nil)) ◂ nil)) ◂ nil)) ◂ nil)) ◂ nil)) ◂ nil)) ◂ nil)) ◂ nil)) ◂ nil)) ◂ nil)) ◂ nil)) ◂ nil)) ◂ nil)) ◂ nil)) ◂ nil)) ◂ nil)) ◂ nil)) ◂ nil)) ◂ nil)) ◂ nil)) ◂ nil)) ◂ nil)) ◂ nil)) ◂ nil)) ◂ nil)) ◂ nil)) ◂ nil)) ◂ nil)) ◂ nil)) ◂ nil)) ◂ nil)) ◂ nil)) ◂ nil)) ◂ nil)) ◂ nil)) ◂ nil)) ◂ nil)) ◂ nil)) ◂ nil)) ◂ nil)) ◂ nil)) ◂ nil)) ◂ nil)) ◂ nil)) ◂ nil)) ◂ nil)) ◂ nil)) ◂ nil)) ◂ nil)) ◂ nil)) ◂ nil)) ◂ nil)) ◂ nil)) ◂ nil)) ◂ nil)) ◂ nil)) ◂ nil)) ◂ nil)) ◂ nil)) ◂ nil)) ◂ nil)) ◂ nil)) ◂ nil)) ◂ nil)) ◂ nil)) ◂ nil)) ◂ nil)) ◂ nil)) ◂ nil)) ◂ nil)) ◂ nil)) ◂ nil)) ◂ nil)) ◂ nil)) ◂ nil)) ◂ nil)) ◂ nil)) ◂ nil)) ◂ nil)) ◂ nil)) ◂ nil)) ◂ nil)) ◂ nil)) ◂ nil)) ◂ nil)) ◂ nil)) ◂ nil)) ◂ nil)) ◂ nil)) ◂ nil)) ◂ nil)) ◂ nil)) ◂ nil)) ◂ nil)) ◂ nil)) ◂ nil)) ◂ nil)) ◂ nil)) ◂ nil)) ◂ nil)) ◂ nil)) ◂ nil)) ◂ nil)) ◂ nil)) ◂ nil)) ◂ nil)) ◂ nil)) ◂ nil)) ◂ nil)) ◂ nil)) ◂ nil)) ◂ nil)) ◂ nil)) ◂ nil)) ◂ nil)) ◂ nil)) ◂ nil)) ◂ nil)) ◂ nil)) ◂ nil)) ◂ nil)) ◂ nil)) ◂ nil)) ◂ nil)) ◂ nil)) ◂ nil)) ◂ nil)) ◂ nil)) ◂ nil)) ◂ nil)) ◂ nil)) ◂ nil)) ◂ nil)) ◂ nil)) ◂ nil)) ◂ nil)) ◂ nil)) ◂ nil)) ◂ nil)) ◂ nil)) ◂ nil)) ◂ nil)) ◂ nil)) ◂ nil)) ◂ nil)) ◂ nil)) ◂ nil)) ◂ nil)) ◂ nil)) ◂ nil)) ◂ nil)) ◂ nil)) ◂ nil)) ◂ nil)) ◂ nil)) ◂ nil)) ◂ nil)) ◂ nil)) ◂ nil)) ◂ nil)) ◂ nil)) ◂ nil)) ◂ nil)) ◂ nil)) ◂ nil)) ◂ nil)) ◂ nil)) ◂ nil)) ◂ nil)) ◂ nil)) ◂ nil)) ◂ nil)) ◂ nil)) ◂ nil)) ◂ nil)) ◂ nil)) ◂ nil)) ◂ nil)) ◂ nil)) ◂ nil)) ◂ nil)) ◂ nil)) ◂ nil)) ◂ nil)) ◂ nil)) ◂ nil)) ◂ nil)) ◂ nil)) ◂ nil)) ◂ nil)) ◂ nil)) ◂ nil)) ◂ nil)) ◂ nil)) ◂ nil)) ◂ nil)) ◂ nil)) ◂ nil)) ◂ nil)) ◂ nil)) ◂ nil)) ◂ nil)) ◂ nil)) ◂ nil)) ◂ nil)) ◂ nil)) ◂ nil)) ◂ nil)) ◂ nil)) ◂ nil)) ◂ nil)) ◂ nil)) ◂ nil)) ◂ nil)) ◂ nil)) ◂ nil)) ◂ nil)) []
    ∷ []

c_depth_types_computed : metered 512 65536 512 c_depth_types ≡ said "declarations 28\n0 0 - | 7 40 0 0\n1 0 - | 4 42 0 0\n2 0 - | 8 46 0 0\n3 0 - | 511 557 0 0\n4 5 - | 0 557 0 0\n5 5 - | 0 557 0 0\n6 5 - | 0 557 0 0\n7 5 - | 0 557 0 0\n8 5 - | 0 557 0 0\n9 5 - | 0 557 0 0\n10 5 - | 0 557 0 0\n11 5 - | 0 557 0 0\n12 5 - | 0 557 0 0\n13 5 - | 0 557 0 0\n14 5 - | 0 557 0 0\n15 5 - | 0 557 0 0\n16 5 - | 0 557 0 0\n17 5 - | 0 557 0 0\n18 5 - | 0 557 0 0\n19 5 - | 0 557 0 0\n20 5 - | 0 557 0 0\n21 5 - | 0 557 0 0\n22 5 - | 0 557 0 0\n23 5 - | 0 557 0 0\n24 5 - | 0 557 0 0\n25 5 - | 0 557 0 0\n26 5 - | 0 557 0 0\n27 5 - | 0 557 0 0\n"
unfolding everything metered said
c_depth_types_computed = refl

abbrev c_depth_unify : List Decl
c_depth_unify =
    class "D103" "a" [] (sig "f103" (arrow (arrow (arrow (arrow (arrow (arrow (arrow (arrow (arrow (arrow (arrow (arrow (arrow (arrow (arrow (arrow (arrow (arrow (arrow (arrow (arrow (arrow (arrow (arrow (arrow (arrow (arrow (arrow (arrow (arrow (arrow (arrow (arrow (arrow (arrow (arrow (arrow (arrow (arrow (arrow (arrow (arrow (arrow (arrow (arrow (arrow (arrow (arrow (arrow (arrow (arrow (arrow (arrow (arrow (arrow (arrow (arrow (arrow (arrow (arrow (arrow (arrow (arrow (arrow (arrow (arrow (arrow (arrow (arrow (arrow (arrow (arrow (arrow (arrow (arrow (arrow (arrow (arrow (arrow (arrow (arrow (arrow (arrow (arrow (arrow (arrow (arrow (arrow (arrow (arrow (arrow (arrow (arrow (arrow (arrow (arrow (arrow (arrow (arrow (arrow (arrow (arrow (arrow (arrow (arrow (arrow (arrow (arrow (arrow (arrow (arrow (arrow (arrow (arrow (arrow (arrow (arrow (arrow (arrow (arrow (arrow (arrow (arrow (arrow (arrow (arrow (arrow (arrow (arrow (arrow (arrow (arrow (arrow (arrow (arrow (arrow (arrow (arrow (arrow (arrow (arrow (arrow (arrow (arrow (arrow (arrow (arrow (arrow (arrow (arrow (arrow (arrow (v "b") (c "Int" nil)) (c "Int" nil)) (c "Int" nil)) (c "Int" nil)) (c "Int" nil)) (c "Int" nil)) (c "Int" nil)) (c "Int" nil)) (c "Int" nil)) (c "Int" nil)) (c "Int" nil)) (c "Int" nil)) (c "Int" nil)) (c "Int" nil)) (c "Int" nil)) (c "Int" nil)) (c "Int" nil)) (c "Int" nil)) (c "Int" nil)) (c "Int" nil)) (c "Int" nil)) (c "Int" nil)) (c "Int" nil)) (c "Int" nil)) (c "Int" nil)) (c "Int" nil)) (c "Int" nil)) (c "Int" nil)) (c "Int" nil)) (c "Int" nil)) (c "Int" nil)) (c "Int" nil)) (c "Int" nil)) (c "Int" nil)) (c "Int" nil)) (c "Int" nil)) (c "Int" nil)) (c "Int" nil)) (c "Int" nil)) (c "Int" nil)) (c "Int" nil)) (c "Int" nil)) (c "Int" nil)) (c "Int" nil)) (c "Int" nil)) (c "Int" nil)) (c "Int" nil)) (c "Int" nil)) (c "Int" nil)) (c "Int" nil)) (c "Int" nil)) (c "Int" nil)) (c "Int" nil)) (c "Int" nil)) (c "Int" nil)) (c "Int" nil)) (c "Int" nil)) (c "Int" nil)) (c "Int" nil)) (c "Int" nil)) (c "Int" nil)) (c "Int" nil)) (c "Int" nil)) (c "Int" nil)) (c "Int" nil)) (c "Int" nil)) (c "Int" nil)) (c "Int" nil)) (c "Int" nil)) (c "Int" nil)) (c "Int" nil)) (c "Int" nil)) (c "Int" nil)) (c "Int" nil)) (c "Int" nil)) (c "Int" nil)) (c "Int" nil)) (c "Int" nil)) (c "Int" nil)) (c "Int" nil)) (c "Int" nil)) (c "Int" nil)) (c "Int" nil)) (c "Int" nil)) (c "Int" nil)) (c "Int" nil)) (c "Int" nil)) (c "Int" nil)) (c "Int" nil)) (c "Int" nil)) (c "Int" nil)) (c "Int" nil)) (c "Int" nil)) (c "Int" nil)) (c "Int" nil)) (c "Int" nil)) (c "Int" nil)) (c "Int" nil)) (c "Int" nil)) (c "Int" nil)) (c "Int" nil)) (c "Int" nil)) (c "Int" nil)) (c "Int" nil)) (c "Int" nil)) (c "Int" nil)) (c "Int" nil)) (c "Int" nil)) (c "Int" nil)) (c "Int" nil)) (c "Int" nil)) (c "Int" nil)) (c "Int" nil)) (c "Int" nil)) (c "Int" nil)) (c "Int" nil)) (c "Int" nil)) (c "Int" nil)) (c "Int" nil)) (c "Int" nil)) (c "Int" nil)) (c "Int" nil)) (c "Int" nil)) (c "Int" nil)) (c "Int" nil)) (c "Int" nil)) (c "Int" nil)) (c "Int" nil)) (c "Int" nil)) (c "Int" nil)) (c "Int" nil)) (c "Int" nil)) (c "Int" nil)) (c "Int" nil)) (c "Int" nil)) (c "Int" nil)) (c "Int" nil)) (c "Int" nil)) (c "Int" nil)) (c "Int" nil)) (c "Int" nil)) (c "Int" nil)) (c "Int" nil)) (c "Int" nil)) (c "Int" nil)) (c "Int" nil)) (c "Int" nil)) (c "Int" nil)) (c "Int" nil)) (c "Int" nil)) (v "a")) (arrow (v "b") (arrow (arrow (arrow (arrow (arrow (arrow (arrow (arrow (arrow (arrow (arrow (arrow (arrow (arrow (arrow (arrow (arrow (arrow (arrow (arrow (arrow (arrow (arrow (arrow (arrow (arrow (arrow (arrow (arrow (arrow (arrow (arrow (arrow (arrow (arrow (arrow (arrow (arrow (arrow (arrow (arrow (arrow (arrow (arrow (arrow (arrow (arrow (arrow (arrow (arrow (arrow (arrow (arrow (arrow (arrow (arrow (arrow (arrow (arrow (arrow (arrow (arrow (arrow (arrow (arrow (arrow (arrow (arrow (arrow (arrow (arrow (arrow (arrow (arrow (arrow (arrow (arrow (arrow (arrow (arrow (arrow (arrow (arrow (arrow (arrow (arrow (arrow (arrow (arrow (arrow (arrow (arrow (arrow (arrow (arrow (arrow (arrow (arrow (arrow (arrow (arrow (arrow (arrow (arrow (arrow (arrow (arrow (arrow (arrow (arrow (arrow (arrow (arrow (arrow (arrow (arrow (arrow (arrow (arrow (arrow (arrow (arrow (arrow (arrow (arrow (arrow (arrow (arrow (arrow (arrow (arrow (arrow (arrow (arrow (arrow (arrow (arrow (arrow (arrow (arrow (arrow (arrow (arrow (arrow (arrow (arrow (arrow (arrow (arrow (arrow (v "b") (c "Int" nil)) (c "Int" nil)) (c "Int" nil)) (c "Int" nil)) (c "Int" nil)) (c "Int" nil)) (c "Int" nil)) (c "Int" nil)) (c "Int" nil)) (c "Int" nil)) (c "Int" nil)) (c "Int" nil)) (c "Int" nil)) (c "Int" nil)) (c "Int" nil)) (c "Int" nil)) (c "Int" nil)) (c "Int" nil)) (c "Int" nil)) (c "Int" nil)) (c "Int" nil)) (c "Int" nil)) (c "Int" nil)) (c "Int" nil)) (c "Int" nil)) (c "Int" nil)) (c "Int" nil)) (c "Int" nil)) (c "Int" nil)) (c "Int" nil)) (c "Int" nil)) (c "Int" nil)) (c "Int" nil)) (c "Int" nil)) (c "Int" nil)) (c "Int" nil)) (c "Int" nil)) (c "Int" nil)) (c "Int" nil)) (c "Int" nil)) (c "Int" nil)) (c "Int" nil)) (c "Int" nil)) (c "Int" nil)) (c "Int" nil)) (c "Int" nil)) (c "Int" nil)) (c "Int" nil)) (c "Int" nil)) (c "Int" nil)) (c "Int" nil)) (c "Int" nil)) (c "Int" nil)) (c "Int" nil)) (c "Int" nil)) (c "Int" nil)) (c "Int" nil)) (c "Int" nil)) (c "Int" nil)) (c "Int" nil)) (c "Int" nil)) (c "Int" nil)) (c "Int" nil)) (c "Int" nil)) (c "Int" nil)) (c "Int" nil)) (c "Int" nil)) (c "Int" nil)) (c "Int" nil)) (c "Int" nil)) (c "Int" nil)) (c "Int" nil)) (c "Int" nil)) (c "Int" nil)) (c "Int" nil)) (c "Int" nil)) (c "Int" nil)) (c "Int" nil)) (c "Int" nil)) (c "Int" nil)) (c "Int" nil)) (c "Int" nil)) (c "Int" nil)) (c "Int" nil)) (c "Int" nil)) (c "Int" nil)) (c "Int" nil)) (c "Int" nil)) (c "Int" nil)) (c "Int" nil)) (c "Int" nil)) (c "Int" nil)) (c "Int" nil)) (c "Int" nil)) (c "Int" nil)) (c "Int" nil)) (c "Int" nil)) (c "Int" nil)) (c "Int" nil)) (c "Int" nil)) (c "Int" nil)) (c "Int" nil)) (c "Int" nil)) (c "Int" nil)) (c "Int" nil)) (c "Int" nil)) (c "Int" nil)) (c "Int" nil)) (c "Int" nil)) (c "Int" nil)) (c "Int" nil)) (c "Int" nil)) (c "Int" nil)) (c "Int" nil)) (c "Int" nil)) (c "Int" nil)) (c "Int" nil)) (c "Int" nil)) (c "Int" nil)) (c "Int" nil)) (c "Int" nil)) (c "Int" nil)) (c "Int" nil)) (c "Int" nil)) (c "Int" nil)) (c "Int" nil)) (c "Int" nil)) (c "Int" nil)) (c "Int" nil)) (c "Int" nil)) (c "Int" nil)) (c "Int" nil)) (c "Int" nil)) (c "Int" nil)) (c "Int" nil)) (c "Int" nil)) (c "Int" nil)) (c "Int" nil)) (c "Int" nil)) (c "Int" nil)) (c "Int" nil)) (c "Int" nil)) (c "Int" nil)) (c "Int" nil)) (c "Int" nil)) (c "Int" nil)) (c "Int" nil)) (c "Int" nil)) (c "Int" nil)) (c "Int" nil)))) ∷ sig "u103" (arrow (arrow (arrow (arrow (arrow (arrow (arrow (arrow (arrow (arrow (arrow (arrow (arrow (arrow (arrow (arrow (arrow (arrow (arrow (arrow (arrow (arrow (arrow (arrow (arrow (arrow (arrow (arrow (arrow (arrow (arrow (arrow (arrow (arrow (arrow (arrow (arrow (arrow (arrow (arrow (arrow (arrow (arrow (arrow (arrow (arrow (arrow (arrow (arrow (arrow (arrow (arrow (arrow (arrow (arrow (arrow (arrow (arrow (arrow (arrow (arrow (arrow (arrow (arrow (arrow (arrow (arrow (arrow (arrow (arrow (arrow (arrow (arrow (arrow (arrow (arrow (arrow (arrow (arrow (arrow (arrow (arrow (arrow (arrow (arrow (arrow (arrow (arrow (arrow (arrow (arrow (arrow (arrow (arrow (arrow (arrow (arrow (arrow (arrow (arrow (arrow (arrow (arrow (v "a") (c "Int" nil)) (c "Int" nil)) (c "Int" nil)) (c "Int" nil)) (c "Int" nil)) (c "Int" nil)) (c "Int" nil)) (c "Int" nil)) (c "Int" nil)) (c "Int" nil)) (c "Int" nil)) (c "Int" nil)) (c "Int" nil)) (c "Int" nil)) (c "Int" nil)) (c "Int" nil)) (c "Int" nil)) (c "Int" nil)) (c "Int" nil)) (c "Int" nil)) (c "Int" nil)) (c "Int" nil)) (c "Int" nil)) (c "Int" nil)) (c "Int" nil)) (c "Int" nil)) (c "Int" nil)) (c "Int" nil)) (c "Int" nil)) (c "Int" nil)) (c "Int" nil)) (c "Int" nil)) (c "Int" nil)) (c "Int" nil)) (c "Int" nil)) (c "Int" nil)) (c "Int" nil)) (c "Int" nil)) (c "Int" nil)) (c "Int" nil)) (c "Int" nil)) (c "Int" nil)) (c "Int" nil)) (c "Int" nil)) (c "Int" nil)) (c "Int" nil)) (c "Int" nil)) (c "Int" nil)) (c "Int" nil)) (c "Int" nil)) (c "Int" nil)) (c "Int" nil)) (c "Int" nil)) (c "Int" nil)) (c "Int" nil)) (c "Int" nil)) (c "Int" nil)) (c "Int" nil)) (c "Int" nil)) (c "Int" nil)) (c "Int" nil)) (c "Int" nil)) (c "Int" nil)) (c "Int" nil)) (c "Int" nil)) (c "Int" nil)) (c "Int" nil)) (c "Int" nil)) (c "Int" nil)) (c "Int" nil)) (c "Int" nil)) (c "Int" nil)) (c "Int" nil)) (c "Int" nil)) (c "Int" nil)) (c "Int" nil)) (c "Int" nil)) (c "Int" nil)) (c "Int" nil)) (c "Int" nil)) (c "Int" nil)) (c "Int" nil)) (c "Int" nil)) (c "Int" nil)) (c "Int" nil)) (c "Int" nil)) (c "Int" nil)) (c "Int" nil)) (c "Int" nil)) (c "Int" nil)) (c "Int" nil)) (c "Int" nil)) (c "Int" nil)) (c "Int" nil)) (c "Int" nil)) (c "Int" nil)) (c "Int" nil)) (c "Int" nil)) (c "Int" nil)) (c "Int" nil)) (c "Int" nil)) (c "Int" nil)) (c "Int" nil)) ∷ []) (body "f103" (eint 1) ∷ body "u103" (eint 1) ∷ [])
    ∷ instance [] "D103" (c "Int" nil) []
    ∷ check (lam "g" (eapp (ev "g") (eapp (eapp (ev "f103") (ev "g")) (ev "u103"))))
    ∷ class "D104" "a" [] (sig "f104" (arrow (arrow (arrow (arrow (arrow (arrow (arrow (arrow (arrow (arrow (arrow (arrow (arrow (arrow (arrow (arrow (arrow (arrow (arrow (arrow (arrow (arrow (arrow (arrow (arrow (arrow (arrow (arrow (arrow (arrow (arrow (arrow (arrow (arrow (arrow (arrow (arrow (arrow (arrow (arrow (arrow (arrow (arrow (arrow (arrow (arrow (arrow (arrow (arrow (arrow (arrow (arrow (arrow (arrow (arrow (arrow (arrow (arrow (arrow (arrow (arrow (arrow (arrow (arrow (arrow (arrow (arrow (arrow (arrow (arrow (arrow (arrow (arrow (arrow (arrow (arrow (arrow (arrow (arrow (arrow (arrow (arrow (arrow (arrow (arrow (arrow (arrow (arrow (arrow (arrow (arrow (arrow (arrow (arrow (arrow (arrow (arrow (arrow (arrow (arrow (arrow (arrow (arrow (arrow (arrow (arrow (arrow (arrow (arrow (arrow (arrow (arrow (arrow (arrow (arrow (arrow (arrow (arrow (arrow (arrow (arrow (arrow (arrow (arrow (arrow (arrow (arrow (arrow (arrow (arrow (arrow (arrow (arrow (arrow (arrow (arrow (arrow (arrow (arrow (arrow (arrow (arrow (arrow (arrow (arrow (arrow (arrow (arrow (arrow (arrow (arrow (arrow (v "b") (c "Int" nil)) (c "Int" nil)) (c "Int" nil)) (c "Int" nil)) (c "Int" nil)) (c "Int" nil)) (c "Int" nil)) (c "Int" nil)) (c "Int" nil)) (c "Int" nil)) (c "Int" nil)) (c "Int" nil)) (c "Int" nil)) (c "Int" nil)) (c "Int" nil)) (c "Int" nil)) (c "Int" nil)) (c "Int" nil)) (c "Int" nil)) (c "Int" nil)) (c "Int" nil)) (c "Int" nil)) (c "Int" nil)) (c "Int" nil)) (c "Int" nil)) (c "Int" nil)) (c "Int" nil)) (c "Int" nil)) (c "Int" nil)) (c "Int" nil)) (c "Int" nil)) (c "Int" nil)) (c "Int" nil)) (c "Int" nil)) (c "Int" nil)) (c "Int" nil)) (c "Int" nil)) (c "Int" nil)) (c "Int" nil)) (c "Int" nil)) (c "Int" nil)) (c "Int" nil)) (c "Int" nil)) (c "Int" nil)) (c "Int" nil)) (c "Int" nil)) (c "Int" nil)) (c "Int" nil)) (c "Int" nil)) (c "Int" nil)) (c "Int" nil)) (c "Int" nil)) (c "Int" nil)) (c "Int" nil)) (c "Int" nil)) (c "Int" nil)) (c "Int" nil)) (c "Int" nil)) (c "Int" nil)) (c "Int" nil)) (c "Int" nil)) (c "Int" nil)) (c "Int" nil)) (c "Int" nil)) (c "Int" nil)) (c "Int" nil)) (c "Int" nil)) (c "Int" nil)) (c "Int" nil)) (c "Int" nil)) (c "Int" nil)) (c "Int" nil)) (c "Int" nil)) (c "Int" nil)) (c "Int" nil)) (c "Int" nil)) (c "Int" nil)) (c "Int" nil)) (c "Int" nil)) (c "Int" nil)) (c "Int" nil)) (c "Int" nil)) (c "Int" nil)) (c "Int" nil)) (c "Int" nil)) (c "Int" nil)) (c "Int" nil)) (c "Int" nil)) (c "Int" nil)) (c "Int" nil)) (c "Int" nil)) (c "Int" nil)) (c "Int" nil)) (c "Int" nil)) (c "Int" nil)) (c "Int" nil)) (c "Int" nil)) (c "Int" nil)) (c "Int" nil)) (c "Int" nil)) (c "Int" nil)) (c "Int" nil)) (c "Int" nil)) (c "Int" nil)) (c "Int" nil)) (c "Int" nil)) (c "Int" nil)) (c "Int" nil)) (c "Int" nil)) (c "Int" nil)) (c "Int" nil)) (c "Int" nil)) (c "Int" nil)) (c "Int" nil)) (c "Int" nil)) (c "Int" nil)) (c "Int" nil)) (c "Int" nil)) (c "Int" nil)) (c "Int" nil)) (c "Int" nil)) (c "Int" nil)) (c "Int" nil)) (c "Int" nil)) (c "Int" nil)) (c "Int" nil)) (c "Int" nil)) (c "Int" nil)) (c "Int" nil)) (c "Int" nil)) (c "Int" nil)) (c "Int" nil)) (c "Int" nil)) (c "Int" nil)) (c "Int" nil)) (c "Int" nil)) (c "Int" nil)) (c "Int" nil)) (c "Int" nil)) (c "Int" nil)) (c "Int" nil)) (c "Int" nil)) (c "Int" nil)) (c "Int" nil)) (c "Int" nil)) (c "Int" nil)) (c "Int" nil)) (c "Int" nil)) (c "Int" nil)) (c "Int" nil)) (v "a")) (arrow (v "b") (arrow (arrow (arrow (arrow (arrow (arrow (arrow (arrow (arrow (arrow (arrow (arrow (arrow (arrow (arrow (arrow (arrow (arrow (arrow (arrow (arrow (arrow (arrow (arrow (arrow (arrow (arrow (arrow (arrow (arrow (arrow (arrow (arrow (arrow (arrow (arrow (arrow (arrow (arrow (arrow (arrow (arrow (arrow (arrow (arrow (arrow (arrow (arrow (arrow (arrow (arrow (arrow (arrow (arrow (arrow (arrow (arrow (arrow (arrow (arrow (arrow (arrow (arrow (arrow (arrow (arrow (arrow (arrow (arrow (arrow (arrow (arrow (arrow (arrow (arrow (arrow (arrow (arrow (arrow (arrow (arrow (arrow (arrow (arrow (arrow (arrow (arrow (arrow (arrow (arrow (arrow (arrow (arrow (arrow (arrow (arrow (arrow (arrow (arrow (arrow (arrow (arrow (arrow (arrow (arrow (arrow (arrow (arrow (arrow (arrow (arrow (arrow (arrow (arrow (arrow (arrow (arrow (arrow (arrow (arrow (arrow (arrow (arrow (arrow (arrow (arrow (arrow (arrow (arrow (arrow (arrow (arrow (arrow (arrow (arrow (arrow (arrow (arrow (arrow (arrow (arrow (arrow (arrow (arrow (arrow (arrow (arrow (arrow (arrow (arrow (v "b") (c "Int" nil)) (c "Int" nil)) (c "Int" nil)) (c "Int" nil)) (c "Int" nil)) (c "Int" nil)) (c "Int" nil)) (c "Int" nil)) (c "Int" nil)) (c "Int" nil)) (c "Int" nil)) (c "Int" nil)) (c "Int" nil)) (c "Int" nil)) (c "Int" nil)) (c "Int" nil)) (c "Int" nil)) (c "Int" nil)) (c "Int" nil)) (c "Int" nil)) (c "Int" nil)) (c "Int" nil)) (c "Int" nil)) (c "Int" nil)) (c "Int" nil)) (c "Int" nil)) (c "Int" nil)) (c "Int" nil)) (c "Int" nil)) (c "Int" nil)) (c "Int" nil)) (c "Int" nil)) (c "Int" nil)) (c "Int" nil)) (c "Int" nil)) (c "Int" nil)) (c "Int" nil)) (c "Int" nil)) (c "Int" nil)) (c "Int" nil)) (c "Int" nil)) (c "Int" nil)) (c "Int" nil)) (c "Int" nil)) (c "Int" nil)) (c "Int" nil)) (c "Int" nil)) (c "Int" nil)) (c "Int" nil)) (c "Int" nil)) (c "Int" nil)) (c "Int" nil)) (c "Int" nil)) (c "Int" nil)) (c "Int" nil)) (c "Int" nil)) (c "Int" nil)) (c "Int" nil)) (c "Int" nil)) (c "Int" nil)) (c "Int" nil)) (c "Int" nil)) (c "Int" nil)) (c "Int" nil)) (c "Int" nil)) (c "Int" nil)) (c "Int" nil)) (c "Int" nil)) (c "Int" nil)) (c "Int" nil)) (c "Int" nil)) (c "Int" nil)) (c "Int" nil)) (c "Int" nil)) (c "Int" nil)) (c "Int" nil)) (c "Int" nil)) (c "Int" nil)) (c "Int" nil)) (c "Int" nil)) (c "Int" nil)) (c "Int" nil)) (c "Int" nil)) (c "Int" nil)) (c "Int" nil)) (c "Int" nil)) (c "Int" nil)) (c "Int" nil)) (c "Int" nil)) (c "Int" nil)) (c "Int" nil)) (c "Int" nil)) (c "Int" nil)) (c "Int" nil)) (c "Int" nil)) (c "Int" nil)) (c "Int" nil)) (c "Int" nil)) (c "Int" nil)) (c "Int" nil)) (c "Int" nil)) (c "Int" nil)) (c "Int" nil)) (c "Int" nil)) (c "Int" nil)) (c "Int" nil)) (c "Int" nil)) (c "Int" nil)) (c "Int" nil)) (c "Int" nil)) (c "Int" nil)) (c "Int" nil)) (c "Int" nil)) (c "Int" nil)) (c "Int" nil)) (c "Int" nil)) (c "Int" nil)) (c "Int" nil)) (c "Int" nil)) (c "Int" nil)) (c "Int" nil)) (c "Int" nil)) (c "Int" nil)) (c "Int" nil)) (c "Int" nil)) (c "Int" nil)) (c "Int" nil)) (c "Int" nil)) (c "Int" nil)) (c "Int" nil)) (c "Int" nil)) (c "Int" nil)) (c "Int" nil)) (c "Int" nil)) (c "Int" nil)) (c "Int" nil)) (c "Int" nil)) (c "Int" nil)) (c "Int" nil)) (c "Int" nil)) (c "Int" nil)) (c "Int" nil)) (c "Int" nil)) (c "Int" nil)) (c "Int" nil)) (c "Int" nil)) (c "Int" nil)) (c "Int" nil)) (c "Int" nil)) (c "Int" nil)))) ∷ sig "u104" (arrow (arrow (arrow (arrow (arrow (arrow (arrow (arrow (arrow (arrow (arrow (arrow (arrow (arrow (arrow (arrow (arrow (arrow (arrow (arrow (arrow (arrow (arrow (arrow (arrow (arrow (arrow (arrow (arrow (arrow (arrow (arrow (arrow (arrow (arrow (arrow (arrow (arrow (arrow (arrow (arrow (arrow (arrow (arrow (arrow (arrow (arrow (arrow (arrow (arrow (arrow (arrow (arrow (arrow (arrow (arrow (arrow (arrow (arrow (arrow (arrow (arrow (arrow (arrow (arrow (arrow (arrow (arrow (arrow (arrow (arrow (arrow (arrow (arrow (arrow (arrow (arrow (arrow (arrow (arrow (arrow (arrow (arrow (arrow (arrow (arrow (arrow (arrow (arrow (arrow (arrow (arrow (arrow (arrow (arrow (arrow (arrow (arrow (arrow (arrow (arrow (arrow (arrow (arrow (v "a") (c "Int" nil)) (c "Int" nil)) (c "Int" nil)) (c "Int" nil)) (c "Int" nil)) (c "Int" nil)) (c "Int" nil)) (c "Int" nil)) (c "Int" nil)) (c "Int" nil)) (c "Int" nil)) (c "Int" nil)) (c "Int" nil)) (c "Int" nil)) (c "Int" nil)) (c "Int" nil)) (c "Int" nil)) (c "Int" nil)) (c "Int" nil)) (c "Int" nil)) (c "Int" nil)) (c "Int" nil)) (c "Int" nil)) (c "Int" nil)) (c "Int" nil)) (c "Int" nil)) (c "Int" nil)) (c "Int" nil)) (c "Int" nil)) (c "Int" nil)) (c "Int" nil)) (c "Int" nil)) (c "Int" nil)) (c "Int" nil)) (c "Int" nil)) (c "Int" nil)) (c "Int" nil)) (c "Int" nil)) (c "Int" nil)) (c "Int" nil)) (c "Int" nil)) (c "Int" nil)) (c "Int" nil)) (c "Int" nil)) (c "Int" nil)) (c "Int" nil)) (c "Int" nil)) (c "Int" nil)) (c "Int" nil)) (c "Int" nil)) (c "Int" nil)) (c "Int" nil)) (c "Int" nil)) (c "Int" nil)) (c "Int" nil)) (c "Int" nil)) (c "Int" nil)) (c "Int" nil)) (c "Int" nil)) (c "Int" nil)) (c "Int" nil)) (c "Int" nil)) (c "Int" nil)) (c "Int" nil)) (c "Int" nil)) (c "Int" nil)) (c "Int" nil)) (c "Int" nil)) (c "Int" nil)) (c "Int" nil)) (c "Int" nil)) (c "Int" nil)) (c "Int" nil)) (c "Int" nil)) (c "Int" nil)) (c "Int" nil)) (c "Int" nil)) (c "Int" nil)) (c "Int" nil)) (c "Int" nil)) (c "Int" nil)) (c "Int" nil)) (c "Int" nil)) (c "Int" nil)) (c "Int" nil)) (c "Int" nil)) (c "Int" nil)) (c "Int" nil)) (c "Int" nil)) (c "Int" nil)) (c "Int" nil)) (c "Int" nil)) (c "Int" nil)) (c "Int" nil)) (c "Int" nil)) (c "Int" nil)) (c "Int" nil)) (c "Int" nil)) (c "Int" nil)) (c "Int" nil)) (c "Int" nil)) (c "Int" nil)) (c "Int" nil)) (c "Int" nil)) ∷ []) (body "f104" (eint 1) ∷ body "u104" (eint 1) ∷ [])
    ∷ instance [] "D104" (c "Int" nil) []
    ∷ check (lam "g" (eapp (ev "g") (eapp (eapp (ev "f104") (ev "g")) (ev "u104"))))
    ∷ class "D105" "a" [] (sig "f105" (arrow (arrow (arrow (arrow (arrow (arrow (arrow (arrow (arrow (arrow (arrow (arrow (arrow (arrow (arrow (arrow (arrow (arrow (arrow (arrow (arrow (arrow (arrow (arrow (arrow (arrow (arrow (arrow (arrow (arrow (arrow (arrow (arrow (arrow (arrow (arrow (arrow (arrow (arrow (arrow (arrow (arrow (arrow (arrow (arrow (arrow (arrow (arrow (arrow (arrow (arrow (arrow (arrow (arrow (arrow (arrow (arrow (arrow (arrow (arrow (arrow (arrow (arrow (arrow (arrow (arrow (arrow (arrow (arrow (arrow (arrow (arrow (arrow (arrow (arrow (arrow (arrow (arrow (arrow (arrow (arrow (arrow (arrow (arrow (arrow (arrow (arrow (arrow (arrow (arrow (arrow (arrow (arrow (arrow (arrow (arrow (arrow (arrow (arrow (arrow (arrow (arrow (arrow (arrow (arrow (arrow (arrow (arrow (arrow (arrow (arrow (arrow (arrow (arrow (arrow (arrow (arrow (arrow (arrow (arrow (arrow (arrow (arrow (arrow (arrow (arrow (arrow (arrow (arrow (arrow (arrow (arrow (arrow (arrow (arrow (arrow (arrow (arrow (arrow (arrow (arrow (arrow (arrow (arrow (arrow (arrow (arrow (arrow (arrow (arrow (arrow (arrow (v "b") (c "Int" nil)) (c "Int" nil)) (c "Int" nil)) (c "Int" nil)) (c "Int" nil)) (c "Int" nil)) (c "Int" nil)) (c "Int" nil)) (c "Int" nil)) (c "Int" nil)) (c "Int" nil)) (c "Int" nil)) (c "Int" nil)) (c "Int" nil)) (c "Int" nil)) (c "Int" nil)) (c "Int" nil)) (c "Int" nil)) (c "Int" nil)) (c "Int" nil)) (c "Int" nil)) (c "Int" nil)) (c "Int" nil)) (c "Int" nil)) (c "Int" nil)) (c "Int" nil)) (c "Int" nil)) (c "Int" nil)) (c "Int" nil)) (c "Int" nil)) (c "Int" nil)) (c "Int" nil)) (c "Int" nil)) (c "Int" nil)) (c "Int" nil)) (c "Int" nil)) (c "Int" nil)) (c "Int" nil)) (c "Int" nil)) (c "Int" nil)) (c "Int" nil)) (c "Int" nil)) (c "Int" nil)) (c "Int" nil)) (c "Int" nil)) (c "Int" nil)) (c "Int" nil)) (c "Int" nil)) (c "Int" nil)) (c "Int" nil)) (c "Int" nil)) (c "Int" nil)) (c "Int" nil)) (c "Int" nil)) (c "Int" nil)) (c "Int" nil)) (c "Int" nil)) (c "Int" nil)) (c "Int" nil)) (c "Int" nil)) (c "Int" nil)) (c "Int" nil)) (c "Int" nil)) (c "Int" nil)) (c "Int" nil)) (c "Int" nil)) (c "Int" nil)) (c "Int" nil)) (c "Int" nil)) (c "Int" nil)) (c "Int" nil)) (c "Int" nil)) (c "Int" nil)) (c "Int" nil)) (c "Int" nil)) (c "Int" nil)) (c "Int" nil)) (c "Int" nil)) (c "Int" nil)) (c "Int" nil)) (c "Int" nil)) (c "Int" nil)) (c "Int" nil)) (c "Int" nil)) (c "Int" nil)) (c "Int" nil)) (c "Int" nil)) (c "Int" nil)) (c "Int" nil)) (c "Int" nil)) (c "Int" nil)) (c "Int" nil)) (c "Int" nil)) (c "Int" nil)) (c "Int" nil)) (c "Int" nil)) (c "Int" nil)) (c "Int" nil)) (c "Int" nil)) (c "Int" nil)) (c "Int" nil)) (c "Int" nil)) (c "Int" nil)) (c "Int" nil)) (c "Int" nil)) (c "Int" nil)) (c "Int" nil)) (c "Int" nil)) (c "Int" nil)) (c "Int" nil)) (c "Int" nil)) (c "Int" nil)) (c "Int" nil)) (c "Int" nil)) (c "Int" nil)) (c "Int" nil)) (c "Int" nil)) (c "Int" nil)) (c "Int" nil)) (c "Int" nil)) (c "Int" nil)) (c "Int" nil)) (c "Int" nil)) (c "Int" nil)) (c "Int" nil)) (c "Int" nil)) (c "Int" nil)) (c "Int" nil)) (c "Int" nil)) (c "Int" nil)) (c "Int" nil)) (c "Int" nil)) (c "Int" nil)) (c "Int" nil)) (c "Int" nil)) (c "Int" nil)) (c "Int" nil)) (c "Int" nil)) (c "Int" nil)) (c "Int" nil)) (c "Int" nil)) (c "Int" nil)) (c "Int" nil)) (c "Int" nil)) (c "Int" nil)) (c "Int" nil)) (c "Int" nil)) (c "Int" nil)) (c "Int" nil)) (c "Int" nil)) (v "a")) (arrow (v "b") (arrow (arrow (arrow (arrow (arrow (arrow (arrow (arrow (arrow (arrow (arrow (arrow (arrow (arrow (arrow (arrow (arrow (arrow (arrow (arrow (arrow (arrow (arrow (arrow (arrow (arrow (arrow (arrow (arrow (arrow (arrow (arrow (arrow (arrow (arrow (arrow (arrow (arrow (arrow (arrow (arrow (arrow (arrow (arrow (arrow (arrow (arrow (arrow (arrow (arrow (arrow (arrow (arrow (arrow (arrow (arrow (arrow (arrow (arrow (arrow (arrow (arrow (arrow (arrow (arrow (arrow (arrow (arrow (arrow (arrow (arrow (arrow (arrow (arrow (arrow (arrow (arrow (arrow (arrow (arrow (arrow (arrow (arrow (arrow (arrow (arrow (arrow (arrow (arrow (arrow (arrow (arrow (arrow (arrow (arrow (arrow (arrow (arrow (arrow (arrow (arrow (arrow (arrow (arrow (arrow (arrow (arrow (arrow (arrow (arrow (arrow (arrow (arrow (arrow (arrow (arrow (arrow (arrow (arrow (arrow (arrow (arrow (arrow (arrow (arrow (arrow (arrow (arrow (arrow (arrow (arrow (arrow (arrow (arrow (arrow (arrow (arrow (arrow (arrow (arrow (arrow (arrow (arrow (arrow (arrow (arrow (arrow (arrow (arrow (arrow (v "b") (c "Int" nil)) (c "Int" nil)) (c "Int" nil)) (c "Int" nil)) (c "Int" nil)) (c "Int" nil)) (c "Int" nil)) (c "Int" nil)) (c "Int" nil)) (c "Int" nil)) (c "Int" nil)) (c "Int" nil)) (c "Int" nil)) (c "Int" nil)) (c "Int" nil)) (c "Int" nil)) (c "Int" nil)) (c "Int" nil)) (c "Int" nil)) (c "Int" nil)) (c "Int" nil)) (c "Int" nil)) (c "Int" nil)) (c "Int" nil)) (c "Int" nil)) (c "Int" nil)) (c "Int" nil)) (c "Int" nil)) (c "Int" nil)) (c "Int" nil)) (c "Int" nil)) (c "Int" nil)) (c "Int" nil)) (c "Int" nil)) (c "Int" nil)) (c "Int" nil)) (c "Int" nil)) (c "Int" nil)) (c "Int" nil)) (c "Int" nil)) (c "Int" nil)) (c "Int" nil)) (c "Int" nil)) (c "Int" nil)) (c "Int" nil)) (c "Int" nil)) (c "Int" nil)) (c "Int" nil)) (c "Int" nil)) (c "Int" nil)) (c "Int" nil)) (c "Int" nil)) (c "Int" nil)) (c "Int" nil)) (c "Int" nil)) (c "Int" nil)) (c "Int" nil)) (c "Int" nil)) (c "Int" nil)) (c "Int" nil)) (c "Int" nil)) (c "Int" nil)) (c "Int" nil)) (c "Int" nil)) (c "Int" nil)) (c "Int" nil)) (c "Int" nil)) (c "Int" nil)) (c "Int" nil)) (c "Int" nil)) (c "Int" nil)) (c "Int" nil)) (c "Int" nil)) (c "Int" nil)) (c "Int" nil)) (c "Int" nil)) (c "Int" nil)) (c "Int" nil)) (c "Int" nil)) (c "Int" nil)) (c "Int" nil)) (c "Int" nil)) (c "Int" nil)) (c "Int" nil)) (c "Int" nil)) (c "Int" nil)) (c "Int" nil)) (c "Int" nil)) (c "Int" nil)) (c "Int" nil)) (c "Int" nil)) (c "Int" nil)) (c "Int" nil)) (c "Int" nil)) (c "Int" nil)) (c "Int" nil)) (c "Int" nil)) (c "Int" nil)) (c "Int" nil)) (c "Int" nil)) (c "Int" nil)) (c "Int" nil)) (c "Int" nil)) (c "Int" nil)) (c "Int" nil)) (c "Int" nil)) (c "Int" nil)) (c "Int" nil)) (c "Int" nil)) (c "Int" nil)) (c "Int" nil)) (c "Int" nil)) (c "Int" nil)) (c "Int" nil)) (c "Int" nil)) (c "Int" nil)) (c "Int" nil)) (c "Int" nil)) (c "Int" nil)) (c "Int" nil)) (c "Int" nil)) (c "Int" nil)) (c "Int" nil)) (c "Int" nil)) (c "Int" nil)) (c "Int" nil)) (c "Int" nil)) (c "Int" nil)) (c "Int" nil)) (c "Int" nil)) (c "Int" nil)) (c "Int" nil)) (c "Int" nil)) (c "Int" nil)) (c "Int" nil)) (c "Int" nil)) (c "Int" nil)) (c "Int" nil)) (c "Int" nil)) (c "Int" nil)) (c "Int" nil)) (c "Int" nil)) (c "Int" nil)) (c "Int" nil)) (c "Int" nil)) (c "Int" nil)) (c "Int" nil)) (c "Int" nil)) (c "Int" nil)) (c "Int" nil)))) ∷ sig "u105" (arrow (arrow (arrow (arrow (arrow (arrow (arrow (arrow (arrow (arrow (arrow (arrow (arrow (arrow (arrow (arrow (arrow (arrow (arrow (arrow (arrow (arrow (arrow (arrow (arrow (arrow (arrow (arrow (arrow (arrow (arrow (arrow (arrow (arrow (arrow (arrow (arrow (arrow (arrow (arrow (arrow (arrow (arrow (arrow (arrow (arrow (arrow (arrow (arrow (arrow (arrow (arrow (arrow (arrow (arrow (arrow (arrow (arrow (arrow (arrow (arrow (arrow (arrow (arrow (arrow (arrow (arrow (arrow (arrow (arrow (arrow (arrow (arrow (arrow (arrow (arrow (arrow (arrow (arrow (arrow (arrow (arrow (arrow (arrow (arrow (arrow (arrow (arrow (arrow (arrow (arrow (arrow (arrow (arrow (arrow (arrow (arrow (arrow (arrow (arrow (arrow (arrow (arrow (arrow (arrow (v "a") (c "Int" nil)) (c "Int" nil)) (c "Int" nil)) (c "Int" nil)) (c "Int" nil)) (c "Int" nil)) (c "Int" nil)) (c "Int" nil)) (c "Int" nil)) (c "Int" nil)) (c "Int" nil)) (c "Int" nil)) (c "Int" nil)) (c "Int" nil)) (c "Int" nil)) (c "Int" nil)) (c "Int" nil)) (c "Int" nil)) (c "Int" nil)) (c "Int" nil)) (c "Int" nil)) (c "Int" nil)) (c "Int" nil)) (c "Int" nil)) (c "Int" nil)) (c "Int" nil)) (c "Int" nil)) (c "Int" nil)) (c "Int" nil)) (c "Int" nil)) (c "Int" nil)) (c "Int" nil)) (c "Int" nil)) (c "Int" nil)) (c "Int" nil)) (c "Int" nil)) (c "Int" nil)) (c "Int" nil)) (c "Int" nil)) (c "Int" nil)) (c "Int" nil)) (c "Int" nil)) (c "Int" nil)) (c "Int" nil)) (c "Int" nil)) (c "Int" nil)) (c "Int" nil)) (c "Int" nil)) (c "Int" nil)) (c "Int" nil)) (c "Int" nil)) (c "Int" nil)) (c "Int" nil)) (c "Int" nil)) (c "Int" nil)) (c "Int" nil)) (c "Int" nil)) (c "Int" nil)) (c "Int" nil)) (c "Int" nil)) (c "Int" nil)) (c "Int" nil)) (c "Int" nil)) (c "Int" nil)) (c "Int" nil)) (c "Int" nil)) (c "Int" nil)) (c "Int" nil)) (c "Int" nil)) (c "Int" nil)) (c "Int" nil)) (c "Int" nil)) (c "Int" nil)) (c "Int" nil)) (c "Int" nil)) (c "Int" nil)) (c "Int" nil)) (c "Int" nil)) (c "Int" nil)) (c "Int" nil)) (c "Int" nil)) (c "Int" nil)) (c "Int" nil)) (c "Int" nil)) (c "Int" nil)) (c "Int" nil)) (c "Int" nil)) (c "Int" nil)) (c "Int" nil)) (c "Int" nil)) (c "Int" nil)) (c "Int" nil)) (c "Int" nil)) (c "Int" nil)) (c "Int" nil)) (c "Int" nil)) (c "Int" nil)) (c "Int" nil)) (c "Int" nil)) (c "Int" nil)) (c "Int" nil)) (c "Int" nil)) (c "Int" nil)) (c "Int" nil)) (c "Int" nil)) ∷ []) (body "f105" (eint 1) ∷ body "u105" (eint 1) ∷ [])
    ∷ instance [] "D105" (c "Int" nil) []
    ∷ check (lam "g" (eapp (ev "g") (eapp (eapp (ev "f105") (ev "g")) (ev "u105"))))
    ∷ class "D106" "a" [] (sig "f106" (arrow (arrow (arrow (arrow (arrow (arrow (arrow (arrow (arrow (arrow (arrow (arrow (arrow (arrow (arrow (arrow (arrow (arrow (arrow (arrow (arrow (arrow (arrow (arrow (arrow (arrow (arrow (arrow (arrow (arrow (arrow (arrow (arrow (arrow (arrow (arrow (arrow (arrow (arrow (arrow (arrow (arrow (arrow (arrow (arrow (arrow (arrow (arrow (arrow (arrow (arrow (arrow (arrow (arrow (arrow (arrow (arrow (arrow (arrow (arrow (arrow (arrow (arrow (arrow (arrow (arrow (arrow (arrow (arrow (arrow (arrow (arrow (arrow (arrow (arrow (arrow (arrow (arrow (arrow (arrow (arrow (arrow (arrow (arrow (arrow (arrow (arrow (arrow (arrow (arrow (arrow (arrow (arrow (arrow (arrow (arrow (arrow (arrow (arrow (arrow (arrow (arrow (arrow (arrow (arrow (arrow (arrow (arrow (arrow (arrow (arrow (arrow (arrow (arrow (arrow (arrow (arrow (arrow (arrow (arrow (arrow (arrow (arrow (arrow (arrow (arrow (arrow (arrow (arrow (arrow (arrow (arrow (arrow (arrow (arrow (arrow (arrow (arrow (arrow (arrow (arrow (arrow (arrow (arrow (arrow (arrow (arrow (arrow (arrow (arrow (arrow (arrow (v "b") (c "Int" nil)) (c "Int" nil)) (c "Int" nil)) (c "Int" nil)) (c "Int" nil)) (c "Int" nil)) (c "Int" nil)) (c "Int" nil)) (c "Int" nil)) (c "Int" nil)) (c "Int" nil)) (c "Int" nil)) (c "Int" nil)) (c "Int" nil)) (c "Int" nil)) (c "Int" nil)) (c "Int" nil)) (c "Int" nil)) (c "Int" nil)) (c "Int" nil)) (c "Int" nil)) (c "Int" nil)) (c "Int" nil)) (c "Int" nil)) (c "Int" nil)) (c "Int" nil)) (c "Int" nil)) (c "Int" nil)) (c "Int" nil)) (c "Int" nil)) (c "Int" nil)) (c "Int" nil)) (c "Int" nil)) (c "Int" nil)) (c "Int" nil)) (c "Int" nil)) (c "Int" nil)) (c "Int" nil)) (c "Int" nil)) (c "Int" nil)) (c "Int" nil)) (c "Int" nil)) (c "Int" nil)) (c "Int" nil)) (c "Int" nil)) (c "Int" nil)) (c "Int" nil)) (c "Int" nil)) (c "Int" nil)) (c "Int" nil)) (c "Int" nil)) (c "Int" nil)) (c "Int" nil)) (c "Int" nil)) (c "Int" nil)) (c "Int" nil)) (c "Int" nil)) (c "Int" nil)) (c "Int" nil)) (c "Int" nil)) (c "Int" nil)) (c "Int" nil)) (c "Int" nil)) (c "Int" nil)) (c "Int" nil)) (c "Int" nil)) (c "Int" nil)) (c "Int" nil)) (c "Int" nil)) (c "Int" nil)) (c "Int" nil)) (c "Int" nil)) (c "Int" nil)) (c "Int" nil)) (c "Int" nil)) (c "Int" nil)) (c "Int" nil)) (c "Int" nil)) (c "Int" nil)) (c "Int" nil)) (c "Int" nil)) (c "Int" nil)) (c "Int" nil)) (c "Int" nil)) (c "Int" nil)) (c "Int" nil)) (c "Int" nil)) (c "Int" nil)) (c "Int" nil)) (c "Int" nil)) (c "Int" nil)) (c "Int" nil)) (c "Int" nil)) (c "Int" nil)) (c "Int" nil)) (c "Int" nil)) (c "Int" nil)) (c "Int" nil)) (c "Int" nil)) (c "Int" nil)) (c "Int" nil)) (c "Int" nil)) (c "Int" nil)) (c "Int" nil)) (c "Int" nil)) (c "Int" nil)) (c "Int" nil)) (c "Int" nil)) (c "Int" nil)) (c "Int" nil)) (c "Int" nil)) (c "Int" nil)) (c "Int" nil)) (c "Int" nil)) (c "Int" nil)) (c "Int" nil)) (c "Int" nil)) (c "Int" nil)) (c "Int" nil)) (c "Int" nil)) (c "Int" nil)) (c "Int" nil)) (c "Int" nil)) (c "Int" nil)) (c "Int" nil)) (c "Int" nil)) (c "Int" nil)) (c "Int" nil)) (c "Int" nil)) (c "Int" nil)) (c "Int" nil)) (c "Int" nil)) (c "Int" nil)) (c "Int" nil)) (c "Int" nil)) (c "Int" nil)) (c "Int" nil)) (c "Int" nil)) (c "Int" nil)) (c "Int" nil)) (c "Int" nil)) (c "Int" nil)) (c "Int" nil)) (c "Int" nil)) (c "Int" nil)) (c "Int" nil)) (c "Int" nil)) (c "Int" nil)) (c "Int" nil)) (c "Int" nil)) (v "a")) (arrow (v "b") (arrow (arrow (arrow (arrow (arrow (arrow (arrow (arrow (arrow (arrow (arrow (arrow (arrow (arrow (arrow (arrow (arrow (arrow (arrow (arrow (arrow (arrow (arrow (arrow (arrow (arrow (arrow (arrow (arrow (arrow (arrow (arrow (arrow (arrow (arrow (arrow (arrow (arrow (arrow (arrow (arrow (arrow (arrow (arrow (arrow (arrow (arrow (arrow (arrow (arrow (arrow (arrow (arrow (arrow (arrow (arrow (arrow (arrow (arrow (arrow (arrow (arrow (arrow (arrow (arrow (arrow (arrow (arrow (arrow (arrow (arrow (arrow (arrow (arrow (arrow (arrow (arrow (arrow (arrow (arrow (arrow (arrow (arrow (arrow (arrow (arrow (arrow (arrow (arrow (arrow (arrow (arrow (arrow (arrow (arrow (arrow (arrow (arrow (arrow (arrow (arrow (arrow (arrow (arrow (arrow (arrow (arrow (arrow (arrow (arrow (arrow (arrow (arrow (arrow (arrow (arrow (arrow (arrow (arrow (arrow (arrow (arrow (arrow (arrow (arrow (arrow (arrow (arrow (arrow (arrow (arrow (arrow (arrow (arrow (arrow (arrow (arrow (arrow (arrow (arrow (arrow (arrow (arrow (arrow (arrow (arrow (arrow (arrow (arrow (arrow (v "b") (c "Int" nil)) (c "Int" nil)) (c "Int" nil)) (c "Int" nil)) (c "Int" nil)) (c "Int" nil)) (c "Int" nil)) (c "Int" nil)) (c "Int" nil)) (c "Int" nil)) (c "Int" nil)) (c "Int" nil)) (c "Int" nil)) (c "Int" nil)) (c "Int" nil)) (c "Int" nil)) (c "Int" nil)) (c "Int" nil)) (c "Int" nil)) (c "Int" nil)) (c "Int" nil)) (c "Int" nil)) (c "Int" nil)) (c "Int" nil)) (c "Int" nil)) (c "Int" nil)) (c "Int" nil)) (c "Int" nil)) (c "Int" nil)) (c "Int" nil)) (c "Int" nil)) (c "Int" nil)) (c "Int" nil)) (c "Int" nil)) (c "Int" nil)) (c "Int" nil)) (c "Int" nil)) (c "Int" nil)) (c "Int" nil)) (c "Int" nil)) (c "Int" nil)) (c "Int" nil)) (c "Int" nil)) (c "Int" nil)) (c "Int" nil)) (c "Int" nil)) (c "Int" nil)) (c "Int" nil)) (c "Int" nil)) (c "Int" nil)) (c "Int" nil)) (c "Int" nil)) (c "Int" nil)) (c "Int" nil)) (c "Int" nil)) (c "Int" nil)) (c "Int" nil)) (c "Int" nil)) (c "Int" nil)) (c "Int" nil)) (c "Int" nil)) (c "Int" nil)) (c "Int" nil)) (c "Int" nil)) (c "Int" nil)) (c "Int" nil)) (c "Int" nil)) (c "Int" nil)) (c "Int" nil)) (c "Int" nil)) (c "Int" nil)) (c "Int" nil)) (c "Int" nil)) (c "Int" nil)) (c "Int" nil)) (c "Int" nil)) (c "Int" nil)) (c "Int" nil)) (c "Int" nil)) (c "Int" nil)) (c "Int" nil)) (c "Int" nil)) (c "Int" nil)) (c "Int" nil)) (c "Int" nil)) (c "Int" nil)) (c "Int" nil)) (c "Int" nil)) (c "Int" nil)) (c "Int" nil)) (c "Int" nil)) (c "Int" nil)) (c "Int" nil)) (c "Int" nil)) (c "Int" nil)) (c "Int" nil)) (c "Int" nil)) (c "Int" nil)) (c "Int" nil)) (c "Int" nil)) (c "Int" nil)) (c "Int" nil)) (c "Int" nil)) (c "Int" nil)) (c "Int" nil)) (c "Int" nil)) (c "Int" nil)) (c "Int" nil)) (c "Int" nil)) (c "Int" nil)) (c "Int" nil)) (c "Int" nil)) (c "Int" nil)) (c "Int" nil)) (c "Int" nil)) (c "Int" nil)) (c "Int" nil)) (c "Int" nil)) (c "Int" nil)) (c "Int" nil)) (c "Int" nil)) (c "Int" nil)) (c "Int" nil)) (c "Int" nil)) (c "Int" nil)) (c "Int" nil)) (c "Int" nil)) (c "Int" nil)) (c "Int" nil)) (c "Int" nil)) (c "Int" nil)) (c "Int" nil)) (c "Int" nil)) (c "Int" nil)) (c "Int" nil)) (c "Int" nil)) (c "Int" nil)) (c "Int" nil)) (c "Int" nil)) (c "Int" nil)) (c "Int" nil)) (c "Int" nil)) (c "Int" nil)) (c "Int" nil)) (c "Int" nil)) (c "Int" nil)) (c "Int" nil)) (c "Int" nil)) (c "Int" nil)) (c "Int" nil)))) ∷ sig "u106" (arrow (arrow (arrow (arrow (arrow (arrow (arrow (arrow (arrow (arrow (arrow (arrow (arrow (arrow (arrow (arrow (arrow (arrow (arrow (arrow (arrow (arrow (arrow (arrow (arrow (arrow (arrow (arrow (arrow (arrow (arrow (arrow (arrow (arrow (arrow (arrow (arrow (arrow (arrow (arrow (arrow (arrow (arrow (arrow (arrow (arrow (arrow (arrow (arrow (arrow (arrow (arrow (arrow (arrow (arrow (arrow (arrow (arrow (arrow (arrow (arrow (arrow (arrow (arrow (arrow (arrow (arrow (arrow (arrow (arrow (arrow (arrow (arrow (arrow (arrow (arrow (arrow (arrow (arrow (arrow (arrow (arrow (arrow (arrow (arrow (arrow (arrow (arrow (arrow (arrow (arrow (arrow (arrow (arrow (arrow (arrow (arrow (arrow (arrow (arrow (arrow (arrow (arrow (arrow (arrow (arrow (v "a") (c "Int" nil)) (c "Int" nil)) (c "Int" nil)) (c "Int" nil)) (c "Int" nil)) (c "Int" nil)) (c "Int" nil)) (c "Int" nil)) (c "Int" nil)) (c "Int" nil)) (c "Int" nil)) (c "Int" nil)) (c "Int" nil)) (c "Int" nil)) (c "Int" nil)) (c "Int" nil)) (c "Int" nil)) (c "Int" nil)) (c "Int" nil)) (c "Int" nil)) (c "Int" nil)) (c "Int" nil)) (c "Int" nil)) (c "Int" nil)) (c "Int" nil)) (c "Int" nil)) (c "Int" nil)) (c "Int" nil)) (c "Int" nil)) (c "Int" nil)) (c "Int" nil)) (c "Int" nil)) (c "Int" nil)) (c "Int" nil)) (c "Int" nil)) (c "Int" nil)) (c "Int" nil)) (c "Int" nil)) (c "Int" nil)) (c "Int" nil)) (c "Int" nil)) (c "Int" nil)) (c "Int" nil)) (c "Int" nil)) (c "Int" nil)) (c "Int" nil)) (c "Int" nil)) (c "Int" nil)) (c "Int" nil)) (c "Int" nil)) (c "Int" nil)) (c "Int" nil)) (c "Int" nil)) (c "Int" nil)) (c "Int" nil)) (c "Int" nil)) (c "Int" nil)) (c "Int" nil)) (c "Int" nil)) (c "Int" nil)) (c "Int" nil)) (c "Int" nil)) (c "Int" nil)) (c "Int" nil)) (c "Int" nil)) (c "Int" nil)) (c "Int" nil)) (c "Int" nil)) (c "Int" nil)) (c "Int" nil)) (c "Int" nil)) (c "Int" nil)) (c "Int" nil)) (c "Int" nil)) (c "Int" nil)) (c "Int" nil)) (c "Int" nil)) (c "Int" nil)) (c "Int" nil)) (c "Int" nil)) (c "Int" nil)) (c "Int" nil)) (c "Int" nil)) (c "Int" nil)) (c "Int" nil)) (c "Int" nil)) (c "Int" nil)) (c "Int" nil)) (c "Int" nil)) (c "Int" nil)) (c "Int" nil)) (c "Int" nil)) (c "Int" nil)) (c "Int" nil)) (c "Int" nil)) (c "Int" nil)) (c "Int" nil)) (c "Int" nil)) (c "Int" nil)) (c "Int" nil)) (c "Int" nil)) (c "Int" nil)) (c "Int" nil)) (c "Int" nil)) (c "Int" nil)) (c "Int" nil)) ∷ []) (body "f106" (eint 1) ∷ body "u106" (eint 1) ∷ [])
    ∷ instance [] "D106" (c "Int" nil) []
    ∷ check (lam "g" (eapp (ev "g") (eapp (eapp (ev "f106") (ev "g")) (ev "u106"))))
    ∷ []

c_depth_unify_computed : metered 512 65536 512 c_depth_unify ≡ said "declarations 12\n0 6 - | 512 33 0 0\n1 19 D103 | 1 33 0 0\n2 11 f103 | 8 33 0 0\n3 6 - | 512 33 0 0\n4 19 D104 | 1 33 0 0\n5 11 f104 | 8 33 0 0\n6 6 - | 512 33 0 0\n7 19 D105 | 1 33 0 0\n8 11 f105 | 8 33 0 0\n9 6 - | 512 33 0 0\n10 19 D106 | 1 33 0 0\n11 11 f106 | 8 33 0 0\n"
unfolding everything metered said
c_depth_unify_computed = refl

abbrev c_endless : List Decl
c_endless =
    class "Eq" "a" [] (sig "eq" (arrow (v "a") (arrow (v "a") (c "Bool" nil))) ∷ []) (body "eq" (eint 1) ∷ [])
    ∷ instance (at "Eq" (c "List" ((v "a") ◂ nil)) ∷ []) "Eq" (v "a") []
    ∷ check (eapp (ev "eq") (eint 1))
    ∷ []

c_endless_computed : metered 512 65536 512 c_endless ≡ said "declarations 3\n0 0 - | 11 44 0 0\n1 0 - | 6 48 0 0\n2 6 - | 512 48 0 0\n"
unfolding everything metered said
c_endless_computed = refl

abbrev c_endless2 : List Decl
c_endless2 =
    class "Eq" "a" [] (sig "eq" (arrow (v "a") (arrow (v "a") (c "Bool" nil))) ∷ []) (body "eq" (eint 1) ∷ [])
    ∷ instance (at "Eq" (v "a") ∷ []) "Eq" (v "a") []
    ∷ check (eapp (ev "eq") (eint 1))
    ∷ define "f" (lam "x" (eapp (ev "eq") (ev "x")))
    ∷ class "Sub" "a" ("Eq" ∷ []) [] []
    ∷ instance [] "Sub" (c "Int" nil) []
    ∷ instance (at "Eq" (c "Int" nil) ∷ []) "Sub" (c "Int" nil) []
    ∷ []

c_endless2_computed : metered 512 65536 512 c_endless2 ≡ said "declarations 7\n0 0 - | 11 44 0 0\n1 0 - | 5 47 0 0\n2 6 - | 512 47 0 0\n3 0 [Eq a] (-> a (-> a Bool)) | 52 53 3 1\n4 0 - | 0 53 3 1\n5 6 - | 512 53 3 1\n6 0 - | 5 56 3 1\n"
unfolding everything metered said
c_endless2_computed = refl

abbrev c_endless3 : List Decl
c_endless3 =
    class "Eq" "a" [] (sig "eq" (arrow (v "a") (arrow (v "a") (c "Bool" nil))) ∷ []) (body "eq" (eint 1) ∷ [])
    ∷ class "Mk" "a" [] (sig "mk" (arrow (v "a") (c "List" ((v "a") ◂ nil))) ∷ []) (body "mk" (eint 1) ∷ [])
    ∷ instance [] "Mk" (c "Int" nil) []
    ∷ instance (at "Eq" (c "List" ((c "List" ((v "a") ◂ nil)) ◂ nil)) ∷ []) "Eq" (c "List" ((v "a") ◂ nil)) []
    ∷ check (eapp (ev "eq") (eapp (ev "mk") (eint 1)))
    ∷ check (lam "x" (eapp (ev "eq") (eapp (ev "mk") (ev "x"))))
    ∷ []

c_endless3_computed : metered 512 65536 512 c_endless3 ≡ said "declarations 6\n0 0 - | 11 44 0 0\n1 0 - | 9 53 0 0\n2 0 - | 4 55 0 0\n3 0 - | 8 61 0 0\n4 6 - | 512 61 0 0\n5 6 - | 512 61 0 0\n"
unfolding everything metered said
c_endless3_computed = refl

abbrev c_first_equal : List Decl
c_first_equal =
    class "Eq" "a" [] (sig "eq" (arrow (v "a") (arrow (v "a") (c "Bool" nil))) ∷ []) []
    ∷ instance [] "Eq" (c "Int" nil) (body "eq" (ev "primEqInt") ∷ [])
    ∷ class "Two" "a" [] (sig "two" (arrow (v "a") (c "Bool" nil)) ∷ []) []
    ∷ instance [] "Two" (c "Int" nil) (body "two" (lam "x" (eapp (eapp (ev "eq") (ev "x")) (eint 1))) ∷ [])
    ∷ instance [] "Two" (c "List" ((v "a") ◂ nil)) (body "two" (lam "x" (eapp (eapp (ev "primAndBool") (eapp (eapp (ev "eq") (eint 1)) (eint 1))) (eapp (eapp (ev "eq") (eint 2)) (eint 2)))) ∷ [])
    ∷ []

c_first_equal_computed : metered 512 65536 512 c_first_equal ≡ said "declarations 5\n0 0 - | 11 44 0 0\n1 0 - | 37 46 0 0\n2 0 - | 7 53 0 0\n3 0 - | 90 62 4 1\n4 0 - | 231 81 13 3\n"
unfolding everything metered said
c_first_equal_computed = refl

abbrev c_hidden_method : List Decl
c_hidden_method =
    class "Eq" "a" [] (sig "eq" (arrow (v "a") (arrow (v "a") (c "Bool" nil))) ∷ []) []
    ∷ check (lam "eq" (ev "eq"))
    ∷ check (lam "eq" (eint 1))
    ∷ check (bind "eq" (eint 1) (ev "eq"))
    ∷ check (bind "eq" (lam "x" (eapp (eapp (ev "eq") (ev "x")) (ev "x"))) (ev "eq"))
    ∷ define "eq" (lam "x" (eint 1))
    ∷ check (eapp (ev "eq") (eint 1))
    ∷ class "Ord" "a" [] (sig "lt" (arrow (v "a") (arrow (v "a") (c "Bool" nil))) ∷ []) []
    ∷ define "lt" (lam "x" (eapp (eapp (ev "lt") (ev "x")) (ev "x")))
    ∷ check (ev "lt")
    ∷ []

c_hidden_method_computed : metered 512 65536 512 c_hidden_method ≡ said "declarations 10\n0 0 - | 11 44 0 0\n1 20 eq | 3 44 0 0\n2 0 [] (-> a Int) = (lam eq 1) | 13 44 1 0\n3 20 eq | 7 44 1 0\n4 0 [Eq a] (-> a Bool) = (dabs [d1 Eq a] (let eq (dabs [d0 Eq a] (lam x (app (app (proj d0 eq) x) x))) (proj d1 eq))) | 115 44 6 2\n5 0 [] (-> a Int) | 13 41 7 2\n6 20 eq | 5 41 7 2\n7 0 - | 11 52 7 2\n8 0 [Ord a] (-> a Bool) | 74 50 11 3\n9 0 [Ord a] (-> a Bool) = (dabs [d3 Ord a] (proj d3 lt)) | 19 50 12 4\n"
unfolding everything metered said
c_hidden_method_computed = refl

abbrev c_outward : List Decl
c_outward =
    class "Eq" "a" [] (sig "eq" (arrow (v "a") (arrow (v "a") (c "Bool" nil))) ∷ []) []
    ∷ check (lam "x" (bind "k" (eapp (eapp (ev "primAndBool") (eapp (eapp (ev "eq") (ev "x")) (ev "x"))) (eapp (eapp (ev "eq") (ev "x")) (ev "x"))) (ev "k")))
    ∷ check (lam "x" (bind "k" (eapp (eapp (ev "eq") (ev "x")) (ev "x")) (eapp (eapp (ev "primAndBool") (ev "k")) (eapp (eapp (ev "eq") (ev "x")) (ev "x")))))
    ∷ check (lam "x" (bind "f" (lam "y" (eapp (eapp (ev "primAndBool") (eapp (eapp (ev "eq") (ev "x")) (ev "x"))) (eapp (eapp (ev "eq") (ev "y")) (ev "y")))) (eapp (ev "f") (eint 1))))
    ∷ instance [] "Eq" (c "Int" nil) (body "eq" (ev "primEqInt") ∷ [])
    ∷ check (lam "x" (bind "f" (lam "y" (eapp (eapp (ev "primAndBool") (eapp (eapp (ev "eq") (ev "x")) (ev "x"))) (eapp (eapp (ev "eq") (ev "y")) (ev "y")))) (eapp (ev "f") (eint 1))))
    ∷ []

c_outward_computed : metered 512 65536 512 c_outward ≡ said "declarations 6\n0 0 - | 11 44 0 0\n1 0 [Eq a] (-> a Bool) = (dabs [d0 Eq a] (lam x (let k (app (app primAndBool (app (app (proj d0 eq) x) x)) (app (app (proj d1 eq) x) x)) k))) | 257 44 9 2\n2 0 [Eq a] (-> a Bool) = (dabs [d2 Eq a] (lam x (let k (app (app (proj d2 eq) x) x) (app (app primAndBool k) (app (app (proj d2 eq) x) x))))) | 213 44 18 4\n3 16 Eq Int | 249 44 18 4\n4 0 - | 37 46 18 4\n5 0 [Eq a] (-> a Bool) = (dabs [d4 Eq a] (lam x (let f (dabs [d5 Eq a] (lam y (app (app primAndBool (app (app (proj d4 eq) x) x)) (app (app (proj d5 eq) y) y)))) (app (dapp f (rec Eq Int)) 1)))) | 307 46 30 7\n"
unfolding everything metered said
c_outward_computed = refl
