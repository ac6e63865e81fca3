-- Laws of a substitution without some variables: what it has for a variable is what the words have that `find_but` finds.
use mathlib.Core.Path.{◌≡◌, refl, sym, ◌∙◌}
use mathlib.Core.Bool.{Bool, true, false, not}
use mathlib.Core.List.{List, [], ◌∷◌}
use mathlib.Core.Option.{Option, none, some}
use Prim.Native.Nat.{ℕ}
use native.Mathlib.Omega.{arith}
use Rattle.meaning.specs.Base.{is_yes, if, keep}
use Rattle.meaning.specs.Ast.{Ty, TyVar, var, same_tyvar}
use Rattle.meaning.specs.Map.{tyvars, get, remove, elem}
use Rattle.meaning.specs.Subst.{Subst, or_var, look, filtered, apply_in}
use Rattle.names.specs.Names.{Names, tyvar_of}
use Rattle.ast.specs.Table.{tree, Node}
use Rattle.ast.proofs.Laws.{low_node}
use Rattle.vars.specs.Vars.{vars_of_word}
use Rattle.vars.proofs.VarLaws.{low_vars}
use Rattle.pairs.specs.Pairs.{sub_at, find_at}
use Rattle.pairs.proofs.Looks as L
use Rattle.apply.specs.Region.{sub_but, find_but, Ready, ReadyBut, Gives}
use Rattle.apply.specs.Applied.{Applied}
use Rattle.std.specs.Prelude.{Option as Maybe, Some, None}

-- Without one variable.
get-remove : (v x : TyVar) (s : Subst) → get tyvars x (remove tyvars v s) ≡ if (is_yes (same_tyvar x v)) none (get tyvars x s)
unfolding get remove keep
get-remove v x [] = go (same_tyvar x v)
  where
    go : (c : Dec (x ≡ v)) → ◌≡◌ {A = Option Ty} none (if (is_yes c) none none)
    go (yes p) = refl
    go (no n) = refl
get-remove v x (p ∷ s) = go (same_tyvar v p.0) (same_tyvar x p.0) refl (same_tyvar x v) (get-remove v x s)
  where
    go : (a : Dec (v ≡ p.0)) (b : Dec (x ≡ p.0)) → same_tyvar x p.0 ≡ b → (c : Dec (x ≡ v)) → get tyvars x (remove tyvars v s) ≡ if (is_yes c) none (get tyvars x s)
        → get tyvars x (if (not (is_yes a)) (p ∷ remove tyvars v s) (remove tyvars v s)) ≡ if (is_yes c) none (if (is_yes b) (some p.1) (get tyvars x s))
    go (yes a) (yes b) i (yes c) ih = ih
    go (yes a) (yes b) i (no c) ih = absurd (c (b ∙ sym a))
    go (yes a) (no b) i (yes c) ih = ih
    go (yes a) (no b) i (no c) ih = ih
    go (no a) (yes b) i (yes c) ih = absurd (a (sym c ∙ b))
    go (no a) (yes b) i (no c) ih = rw i refl
    go (no a) (no b) i (yes c) ih = rw i ih
    go (no a) (no b) i (no c) ih = rw i ih

-- Without a list of them.
pub get-filtered : (x : TyVar) (vs : List TyVar) (s : Subst) → get tyvars x (filtered vs s) ≡ if (elem tyvars x vs) none (get tyvars x s)
unfolding filtered elem
get-filtered x [] s = refl
get-filtered x (v ∷ vs) s = get-filtered x vs (remove tyvars v s) ∙ rw (get-remove v x s) (go (is_yes (same_tyvar x v)) (elem tyvars x vs))
  where
    go : (c b : Bool) → if b none (if c none (get tyvars x s)) ≡ if (if c true b) none (get tyvars x s)
    go true true = refl
    go true false = refl
    go false b = refl

-- The ways out of `find_but`: q is what `has_var` returned.
module _ (ns w : List ℕ) (vs at k x : ℕ) {q : Bool} (e : q ≡ elem tyvars (tyvar_of ns x) (vars_of_word ns w vs)) where
  -- The variable is one of the list.
  pub found_none : q ≡ true → None ≡ find_but ns w vs at k x
  unfolding find_but
  found_none i = rw (sym e ∙ i)

  -- It is not.
  pub found_as : {f : Maybe ℕ} → q ≡ false → f ≡ find_at w at k x → f ≡ find_but ns w vs at k x
  unfolding find_but
  found_as i h = rw (sym e ∙ i) h

-- The words have for a variable what the substitution has that is left.
get_but : (ns : List ℕ) → Names ns → (w : List ℕ) (vs at k x : ℕ) → get tyvars (tyvar_of ns x) (sub_but ns w vs at k) ≡ L.type_of ns w (find_but ns w vs at k x)
unfolding find_but
get_but ns N w vs at k x = get-filtered (tyvar_of ns x) (vars_of_word ns w vs) (sub_at ns w at k) ∙ go (elem tyvars (tyvar_of ns x) (vars_of_word ns w vs))
  where
    go : (b : Bool) → if b none (get tyvars (tyvar_of ns x) (sub_at ns w at k)) ≡ L.type_of ns w (if b None (find_at w at k x))
    go true = refl
    go false = L.get_is ns N w at k x

-- A word that was found is that of a pair.
found_pair : (ns w : List ℕ) (vs at k x m : ℕ) → find_but ns w vs at k x ≡ Some m → find_at w at k x ≡ Some m
unfolding find_but
found_pair ns w vs at k x m = go (elem tyvars (tyvar_of ns x) (vars_of_word ns w vs))
  where
    go : (b : Bool) → if b None (find_at w at k x) ≡ Some m → find_at w at k x ≡ Some m
    go true e = let z : ◌≡◌ {A = ℕ} 0 1 = cc in absurd (omega arith)
    go false e = e

-- What a caller of `find_but` learns: f is what it returned, and the arm of the match says which one it is.
module _ {ns w : List ℕ} {top left at k vs t : ℕ} (R : ReadyBut ns w top left at k vs t) (x : ℕ) {f : Maybe ℕ} (e : f ≡ find_but ns w vs at k x) where
  -- The variable becomes the type of the word that was found.
  pub look_at : {m : ℕ} → f ≡ Some m → look (sub_but ns w vs at k) (tyvar_of ns x) ≡ tree ns w m
  unfolding or_var
  look_at h = rw (get_but ns R.ty.names w vs at k x, sym e ∙ h)

  -- Or it stays.
  pub look_nothing : f ≡ None → look (sub_but ns w vs at k) (tyvar_of ns x) ≡ var (tyvar_of ns x)
  unfolding or_var
  look_nothing h = rw (get_but ns R.ty.names w vs at k x, sym e ∙ h)

  -- That word is one of the table.
  pub found_node : {m : ℕ} → f ≡ Some m → Node w top m
  found_node {m} h = L.found_node x R.ty.node.table R.ty.sub refl (found_pair ns w vs at k x m (sym e ∙ h))

-- Without no variables all pairs are left.
pub no_vars : (ns w : List ℕ) (at k : ℕ) → sub_but ns w 0 at k ≡ sub_at ns w at k
unfolding filtered
no_vars ns w at k = rw (low_vars ns w 0 (omega arith))

-- And a word that names no node is no variables.
pub ready_all : {ns w : List ℕ} {top left at k t : ℕ} → Ready ns w top left at k t → ReadyBut ns w top left at k 0 t
ready_all R = record { ty = R; vars = low_node R.node.table (omega arith) }

-- So what they do to a type without no variables they do.
pub all_given : {ns w w' : List ℕ} {b top left at k t : ℕ} {r : Applied} (d : ℕ) → Ready ns w top left at k t
    → Gives (tree ns w') b ns w w' top left (apply_in d (sub_but ns w 0 at k) (tree ns w t) left) r → Gives (tree ns w') b ns w w' top left (apply_in d (sub_at ns w at k) (tree ns w t) left) r
all_given {ns = ns} {w = w} {at = at} {k = k} d R G = rw (no_vars ns w at k) at G
