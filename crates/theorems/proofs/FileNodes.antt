-- The nodes of a session file: each is made of nodes of smaller number and of names that are not reserved.
use mathlib.Core.Path.{◌≡◌, refl, ap, sym, ◌∙◌, subst}
use mathlib.Core.Bool.{Bool, true, false, true≢false}
use mathlib.Core.List.{List, [], ◌∷◌, ◌++◌}
use mathlib.Core.Option.{some}
use mathlib.Core.Logic.{◌⊎◌, inl, inr}
use Prim.Native.Nat.{ℕ, suc, zero}
use Rattle.meaning.specs.Base.{is_yes, if, any, count, nth}
use Rattle.meaning.specs.Ast.{Name, same_name, named, fresh, Ty, Tys, var, con, arrow, nil, ◌◂◌, Expr, evar, eint, ebool, eabs, eapp, elet}
use Rattle.meaning.specs.Reserved.{made_variable, made_name}
use Rattle.meaning.specs.File.{File}
use Rattle.theorems.proofs.Tests.{some_inj, none_some, is_yes_of}
use Rattle.theorems.proofs.Grown.{nth_left, nth_last}
use Rattle.theorems.proofs.Readers.{Smaller}

-- P of each type of a list.
abbrev pub EachTy : (Ty → Type 0) → Tys → Type 0
EachTy P nil = Unit {0}
EachTy P (t ◂ ts) = P t × EachTy P ts

-- A type node whose parts are such; its variable is a name that the checker does not make.
abbrev pub TypeNode : (Ty → Type 0) → Ty → Type 0
TypeNode P (var (named x)) = made_variable x ≡ false
TypeNode P (var (fresh n)) = ⊥
TypeNode P (con c ts) = EachTy P ts
TypeNode P (arrow a b) = P a × P b

-- An expression node whose parts are such; its name is one that the checker does not make.
abbrev pub ExprNode : (Expr → Type 0) → Expr → Type 0
ExprNode P (evar x) = made_name x ≡ false
ExprNode P (eint n) = Unit {0}
ExprNode P (ebool b) = Unit {0}
ExprNode P (eabs x e) = (made_name x ≡ false) × P e
ExprNode P (eapp f e) = P f × P e
ExprNode P (elet x e f) = (made_name x ≡ false) × P e × P f

-- Each node names only nodes of smaller number in its own section.
abbrev pub NamesSmaller : {A : Type 0} → ((A → Type 0) → A → Type 0) → List A → Type 0
NamesSmaller Node xs = (k : ℕ) (x : _) → nth xs k ≡ some x → Node (Smaller xs k) x

-- No two are equal.
abbrev pub AllDiffer : {A : Type 0} → List A → Type 0
AllDiffer xs = (j k : ℕ) (x : _) → nth xs j ≡ some x → nth xs k ≡ some x → j ≡ k

-- What an accepted file is.
pub record Good (f : File) : Type 0 where
  pub names_differ : AllDiffer f.names
  pub types_smaller : NamesSmaller TypeNode f.types
  pub exprs_smaller : NamesSmaller ExprNode f.exprs

-- ## one more node
pub type_map : (P Q : Ty → Type 0) (t : Ty) → ((u : Ty) → P u → Q u) → TypeNode P t → TypeNode Q t
type_map P Q (var (named x)) f h = h
type_map P Q (var (fresh n)) f h = h
type_map P Q (con c ts) f h = go ts h
  where
    go : (ts : Tys) → EachTy P ts → EachTy Q ts
    go nil h = tt
    go (t ◂ ts) h = (f t h.0, go ts h.1)
type_map P Q (arrow a b) f h = (f a h.0, f b h.1)

pub expr_map : (P Q : Expr → Type 0) (e : Expr) → ((d : Expr) → P d → Q d) → ExprNode P e → ExprNode Q e
expr_map P Q (evar x) f h = h
expr_map P Q (eint n) f h = h
expr_map P Q (ebool b) f h = h
expr_map P Q (eabs x e) f h = (h.0, f e h.1)
expr_map P Q (eapp d e) f h = (f d h.0, f e h.1)
expr_map P Q (elet x d e) f h = (h.0, f d h.1, f e h.2)

-- A node over all that stand before it keeps the order.
pub smaller_snoc : {A : Type 0} (Node : (A → Type 0) → A → Type 0)
    → ((P Q : A → Type 0) (x : A) → ((y : A) → P y → Q y) → Node P x → Node Q x)
    → (xs : List A) (x : A) → NamesSmaller Node xs → Node (Smaller xs (count xs)) x → NamesSmaller Node (xs ++ x ∷ [])
smaller_snoc Node node-map xs x h n k y e = go (nth_last xs x k y e)
  where
    grown : (k : ℕ) (y : _) → Smaller xs k y → Smaller (xs ++ x ∷ []) k y
    grown k y s = record { number = s.number; smaller = s.smaller; there = nth_left xs (x ∷ []) s.number y s.there }

    go : (nth xs k ≡ some y) ⊎ ((k ≡ count xs) × (y ≡ x)) → Node (Smaller (xs ++ x ∷ []) k) y
    go (inl i) = node-map (Smaller xs k) (Smaller (xs ++ x ∷ []) k) y (grown k) (h k y i)
    go (inr i) = node-map (Smaller xs k) (Smaller (xs ++ x ∷ []) k) y (grown k) (subst (λ j. Node (Smaller xs j) y) (sym i.0) (subst (Node (Smaller xs (count xs))) (sym i.1) n))

pub smaller_none : {A : Type 0} (Node : (A → Type 0) → A → Type 0) → NamesSmaller Node []
unfolding nth
smaller_none Node k x e = absurd (none_some x e)

-- ## names
pub differ_none : AllDiffer {A = Name} []
unfolding nth
differ_none j k x e i = absurd (none_some x e)

-- A name that none of these is has none of their numbers.
not_any : (x : Name) (ys : List Name) (j : ℕ) → any (λ y. is_yes (same_name x y)) ys ≡ false → nth ys j ≡ some x → ⊥
unfolding any nth
not_any x [] j h e = none_some x e
not_any x (y ∷ ys) j h e = go (is_yes (same_name x y)) refl h j e (λ j h e. not_any x ys j h e)
  where
    go : (b : Bool) → is_yes (same_name x y) ≡ b → if b true (any (λ y. is_yes (same_name x y)) ys) ≡ false → (j : ℕ) → nth (y ∷ ys) j ≡ some x
        → ((j : ℕ) → any (λ y. is_yes (same_name x y)) ys ≡ false → nth ys j ≡ some x → ⊥) → ⊥
    go true i h j e ih = true≢false h
    go false i h zero e ih = true≢false (sym (is_yes_of (same_name x y) (sym (some_inj y x e))) ∙ i)
    go false i h (suc j) e ih = ih j h e

pub differ_snoc : (xs : List Name) (x : Name) → AllDiffer xs → any (λ y. is_yes (same_name x y)) xs ≡ false → AllDiffer (xs ++ x ∷ [])
differ_snoc xs x h n j k y e i = go (nth_last xs x j y e) (nth_last xs x k y i)
  where
    go : (nth xs j ≡ some y) ⊎ ((j ≡ count xs) × (y ≡ x)) → (nth xs k ≡ some y) ⊎ ((k ≡ count xs) × (y ≡ x)) → j ≡ k
    go (inl a) (inl b) = h j k y a b
    go (inl a) (inr b) = absurd (not_any x xs j n (a ∙ ap some b.1))
    go (inr a) (inl b) = absurd (not_any x xs k n (b ∙ ap some a.1))
    go (inr a) (inr b) = a.0 ∙ sym b.0
