-- Replaced once: `simplify_context` may replace a binder by a projection of another that it removes in its turn. So
-- `Simplified` promises no projection of a kept binder, only that each predicate follows from one.
use mathlib.Core.Path.{◌≡◌, refl}
use mathlib.Core.List.Memᴰ
use mathlib.Core.List.{List, [], ◌∷◌, ◌++◌, Memᴰ}
use mathlib.Core.Logic.{◌⊎◌, inl, inr}
use Prim.Native.Nat.{ℕ}
use Prim.Native.String.{String}
use native.Mathlib.Omega.{arith}
use Rattle.meaning.specs.Ast.{called, dvar, super, arrow, int, Pred, Core, cvar, cdict, cint, cbool, cabs, capp, clet, dict_abs, dict_app, dict_proj, dict_rec, Binder, Expr, eapp, Decl}
use Rattle.meaning.specs.Budget.{done}
use Rattle.meaning.specs.Classes.{ClassEnv}
use Rattle.meaning.specs.Derives.{Entry, itself, above}
use Rattle.meaning.specs.Reduce.{simplify_context}
use Rattle.meaning.specs.Session.{new}
use Rattle.meaning.proofs.Written.{v, ev, lam, at, sig, class, check}
use Rattle.meaning.proofs.Metered.{everything, lined, said}
use Rattle.theorems.proofs.Running.{declared}
use Rattle.theorems.proofs.Simplified.{Projects}

-- C2 over C1, and C3 over C2.
abbrev chain : List Decl
chain =
    class "C1" "a" [] (sig "one" (arrow (v "a") int) ∷ []) []
    ∷ class "C2" "a" ("C1" ∷ []) (sig "two" (arrow (v "a") int) ∷ []) []
    ∷ class "C3" "a" ("C2" ∷ []) (sig "three" (arrow (v "a") int) ∷ []) []
    ∷ []

abbrev chained : ClassEnv
chained = (declared chain new).class_env

abbrev binders : List Binder
binders = (dvar 1, at "C1" (v "a")) ∷ (dvar 2, at "C2" (v "a")) ∷ (dvar 3, at "C3" (v "a")) ∷ []

abbrev kept : List Binder
kept = (dvar 3, at "C3" (v "a")) ∷ []

-- d1 becomes a projection of d2, which is still to come, and then d2 one of d3.
abbrev of_d2 : Core
of_d2 = dict_proj (cdict (dvar 2)) (super (called "C2") (called "C1"))

abbrev of_d3 : Core
of_d3 = dict_proj (cdict (dvar 3)) (super (called "C3") (called "C2"))

-- d3 alone stays, and the replacement of d1 names d2, which is gone.
pub replaced_once : simplify_context chained binders 100 ≡ done (kept, (dvar 1, of_d2) ∷ (dvar 2, of_d3) ∷ []) 96
unfolding everything declared
replaced_once = refl

-- The same in a checked term: under its only binder d2 it still names d1.
abbrev at_x : String → Expr
at_x m = eapp (ev m) (ev "x")

abbrev plus : Expr → Expr → Expr
plus e f = eapp (eapp (ev "primAddInt") e) f

pub still_named : lined (chain ++ (check (lam "x" (plus (at_x "one") (plus (at_x "two") (at_x "three")))) ∷ []))
    ≡ said "declarations 4\n0 0 -\n1 0 -\n2 0 -\n3 0 [C3 a] (-> a Int) = (dabs [d2 C3 a] (lam x (app (app primAddInt (app (proj (proj d1 __super_C2__C1) one) x)) (app (app primAddInt (app (proj (proj d2 __super_C3__C2) two) x)) (app (proj d2 three) x)))))\n"
unfolding everything lined said
still_named = refl

-- What a projection starts from.
unfoldable root : Core → Core
root (dict_proj e m) = root e
root (cvar x) = cvar x
root (cdict d) = cdict d
root (cint i) = cint i
root (cbool b) = cbool b
root (cabs x e) = cabs x e
root (capp f e) = capp f e
root (clet x e f) = clet x e f
root (dict_abs bs e) = dict_abs bs e
root (dict_app f es) = dict_app f es
root (dict_rec c a i) = dict_rec c a i

same_root : {ce : ClassEnv} {e f : Core} {p q : Pred} → Entry ce e p f q → root f ≡ root e
unfolding root
same_root itself = refl
same_root (above k m x) = same_root x

-- So it is false that a replacement is a projection of a binder that stays.
pub not_of_kept : Projects chained kept (at "C1" (v "a")) of_d2 → ⊥
unfolding root
not_of_kept (b, m, x, h) = go (Memᴰ.cases_cons m)
  where
    go : (b ≡ (dvar 3, at "C3" (v "a"))) ⊎ Memᴰ b [] → ⊥
    go (inl i) = let j : cdict (dvar 2) ≡ cdict b.0 = same_root x in let z : ◌≡◌ {A = ℕ} 2 3 = cc in omega arith
    go (inr n) = Memᴰ.not-nil n
