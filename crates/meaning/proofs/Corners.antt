-- Corners that a tempting change would round off, each computed.
use mathlib.Core.Path.{◌≡◌, refl}
use mathlib.Core.List.{List, [], ◌∷◌}
use Rattle.meaning.specs.Ast.{letter, called, dvar, self, nil, ◌◂◌, arrow, int, bool, pred, cdict, eint, eapp, Decl}
use Rattle.meaning.specs.Errors.{too_deep}
use Rattle.meaning.specs.Budget.{done, refused}
use Rattle.meaning.specs.Subst.{apply_in, compose}
use Rattle.meaning.specs.Unify.{unify_in, match_in}
use Rattle.meaning.specs.Classes.{no_classes, by_super_in, resolve_in}
use Rattle.meaning.specs.Cores.{subst_in, apply_core_in}
use Rattle.meaning.specs.Infer.{infer_in}
use Rattle.meaning.specs.Session.{new}
use Rattle.meaning.proofs.Written.{v, c, ev, at, body, sig, class, instance, check}
use Rattle.meaning.proofs.Metered.{everything, metered, said}
use mathlib.Core.Bool.{true}

-- A step that is both too deep and one too many is too deep, in each of the eight walks.
abbrev DepthFirst : Type 0
DepthFirst =
    (apply_in 0 [] int 0 ≡ refused too_deep 0)
    × (unify_in 0 int int 0 ≡ refused too_deep 0)
    × (match_in 0 int int 0 ≡ refused too_deep 0)
    × (by_super_in 0 no_classes (λ e p. true) (cdict self) (pred (called "Eq") int) 0 ≡ refused too_deep 0)
    × (resolve_in 0 no_classes [] (pred (called "Eq") int) 0 ≡ refused too_deep 0)
    × (subst_in 0 [] (cdict self) 0 ≡ refused too_deep 0)
    × (apply_core_in 0 [] (cdict self) 0 ≡ refused too_deep 0)
    × (infer_in 0 no_classes (eint 1) new.state 0 ≡ refused too_deep 0)

depth_first : DepthFirst
unfolding everything
depth_first = (refl, refl, refl, refl, refl, refl, refl, refl)

-- A dictionary's name is replaced once: what replaces it is not looked at again, although it has a replacement too.
replaced_once : subst_in 9 ((dvar 1, cdict (dvar 2)) ∷ (dvar 2, cdict self) ∷ []) (cdict (dvar 1)) 9 ≡ done (cdict (dvar 2)) 8
unfolding everything
replaced_once = refl

-- `self.compose(other)` applies `self` to what `other` gives.
composed : compose ((letter 0, int) ∷ []) ((letter 1, c "List" (v "a" ◂ nil)) ∷ []) 9 ≡ done ((letter 0, int) ∷ (letter 1, c "List" (int ◂ nil)) ∷ []) 7
unfolding everything
composed = refl

-- A context variable absent from the head stays as written, and a variable head takes it.
abbrev absent : List Decl
absent =
    class "Eq" "a" [] (sig "eq" (arrow (v "a") (arrow (v "a") bool)) ∷ []) (body "eq" (eint 1) ∷ [])
    ∷ class "Mk" "a" [] (sig "mk" (arrow (v "a") (c "List" (v "a" ◂ nil))) ∷ []) (body "mk" (eint 1) ∷ [])
    ∷ instance [] "Eq" (v "a") []
    ∷ instance (at "Eq" (v "b") ∷ []) "Mk" int []
    ∷ check (eapp (ev "mk") (eint 1))
    ∷ []

absent_stays : metered 512 65_536 512 absent ≡ said "declarations 5\n0 0 - | 11 44 0 0\n1 0 - | 9 53 0 0\n2 0 - | 4 55 0 0\n3 0 - | 5 58 0 0\n4 0 [] (List Int) = (app (proj (dapp (rec Mk Int) (rec Eq b)) mk) 1) | 45 58 2 1\n"
unfolding everything metered said
absent_stays = refl
