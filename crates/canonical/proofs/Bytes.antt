-- Lists of variables in byte order: sorting makes them, and one is known by its variables.
use mathlib.Core.Path.{◌≡◌, refl, ap, ap₂, sym, ◌∙◌, subst}
use mathlib.Core.Bool.{Bool, true, false, true≢false, false≢true}
use mathlib.Core.List.{List, [], ◌∷◌, ◌++◌}
use mathlib.Core.Logic.{◌≢◌}
use Prim.Native.Nat.{suc}
use Rattle.meaning.specs.Base.{is_yes, if, count}
use Rattle.meaning.specs.Ast.{TyVar, same_tyvar, tyvar_before}
use Rattle.meaning.specs.Map.{tyvars, elem}
use Rattle.meaning.specs.Cores.{put, sort_by}
use Rattle.theorems.proofs.Tests.{is_no_of, or_right}
use Rattle.theorems.proofs.ByteOrder.{tyvars_ordered}
use Rattle.theorems.proofs.FreeVars.{elem_head, elem_cons, elem-sort_by}
use Rattle.theorems.proofs.MadeOrder.{Once}

-- Each variable lies before all later ones.
abbrev pub InBytes : List TyVar → Type 0
InBytes [] = Unit {0}
InBytes (v ∷ vs) = ((x : TyVar) → elem tyvars x vs ≡ true → tyvar_before v x ≡ true) × InBytes vs

-- Another variable than the first one is among the rest.
pub elem_rest : (x v : TyVar) (vs : List TyVar) → x ≢ v → elem tyvars x (v ∷ vs) ≡ elem tyvars x vs
unfolding elem
elem_rest x v vs h = rw (is_no_of (same_tyvar x v) h) refl

-- One of the rest is one of all.
pub elem_all : (x v : TyVar) (vs : List TyVar) → elem tyvars x vs ≡ true → elem tyvars x (v ∷ vs) ≡ true
elem_all x v vs e = elem_cons x v vs ∙ or_right (is_yes (same_tyvar x v)) (elem tyvars x vs) e

-- The first one is none of the rest.
once_there : (v : TyVar) (vs : List TyVar) → InBytes (v ∷ vs) → elem tyvars v vs ≡ false
once_there v vs r = go (elem tyvars v vs) refl
  where
    go : (b : Bool) → elem tyvars v vs ≡ b → elem tyvars v vs ≡ false
    go true e = absurd (tyvars_ordered.irrefl v (r.0 v e))
    go false e = e

-- Two lists in byte order of the same variables are one list.
pub bytes_same : (us vs : List TyVar) → InBytes us → InBytes vs → ((x : TyVar) → elem tyvars x us ≡ elem tyvars x vs) → us ≡ vs
unfolding elem
bytes_same [] [] r s k = refl
bytes_same [] (v ∷ vs) r s k = absurd (false≢true (k v ∙ elem_head v vs))
bytes_same (u ∷ us) [] r s k = absurd (true≢false (sym (elem_head u us) ∙ k u))
bytes_same (u ∷ us) (v ∷ vs) r s k = ap₂ (λ (x : TyVar) (xs : List TyVar). x ∷ xs) first (bytes_same us vs r.1 s.1 λ x. go x (same_tyvar x u))
  where
    meet : Dec (u ≡ v) → u ≡ v
    meet (yes e) = e
    meet (no i) =
        let a = s.0 u (sym (elem_rest u v vs i) ∙ sym (k u) ∙ elem_head u us) in
        let b = r.0 v (sym (elem_rest v u us (λ e. i (sym e))) ∙ k v ∙ elem_head v vs) in
        absurd (tyvars_ordered.irrefl u (tyvars_ordered.trans u v u b a))

    first : u ≡ v
    first = meet (same_tyvar u v)

    go : (x : TyVar) → Dec (x ≡ u) → elem tyvars x us ≡ elem tyvars x vs
    go x (yes e) =
        let a = once_there u us r in
        let b = once_there v vs s in
        let f = first in cc
    go x (no i) = sym (elem_rest x u us i) ∙ k x ∙ elem_rest x v vs (λ e. i (e ∙ sym first))

-- What holds of the first one and of the others holds of all.
each_of : (P : TyVar → Type 0) (v : TyVar) (vs : List TyVar) → P v → ((x : TyVar) → elem tyvars x vs ≡ true → P x) → (x : TyVar) → elem tyvars x (v ∷ vs) ≡ true → P x
each_of P v vs p h x e = go (same_tyvar x v)
  where
    go : Dec (x ≡ v) → P x
    go (yes i) = subst P (sym i) p
    go (no i) = h x (sym (elem_rest x v vs i) ∙ e)

-- What holds of a variable and of the others of a list holds of all once it is put in.
put_each : (P : TyVar → Type 0) (v : TyVar) (vs : List TyVar) → P v → ((x : TyVar) → elem tyvars x vs ≡ true → P x)
    → (x : TyVar) → elem tyvars x (put tyvar_before v vs) ≡ true → P x
unfolding put
put_each P v [] p h = each_of P v [] p h
put_each P v (w ∷ vs) p h = go (tyvar_before w v) (put_each P v vs p (λ x e. h x (elem_all x w vs e)))
  where
    go : (b : Bool) → ((x : TyVar) → elem tyvars x (put tyvar_before v vs) ≡ true → P x)
        → (x : TyVar) → elem tyvars x (if b (w ∷ put tyvar_before v vs) (v ∷ (w ∷ vs))) ≡ true → P x
    go true ih = each_of P w (put tyvar_before v vs) (h w (elem_head w vs)) ih
    go false ih = each_of P v (w ∷ vs) p h

-- Putting a new variable in keeps the byte order.
put_bytes : (v : TyVar) (vs : List TyVar) → elem tyvars v vs ≡ false → InBytes vs → InBytes (put tyvar_before v vs)
unfolding put elem
put_bytes v [] a r = ((λ x e. absurd (false≢true e)), tt)
put_bytes v (w ∷ vs) a r = go (tyvar_before w v) refl (put_bytes v vs (sym (elem_rest v w vs apart) ∙ a) r.1)
  where
    apart : v ≢ w
    apart e = true≢false (sym (elem_head v vs) ∙ ap (λ (x : TyVar). elem tyvars v (x ∷ vs)) e ∙ a)

    go : (b : Bool) → tyvar_before w v ≡ b → InBytes (put tyvar_before v vs) → InBytes (if b (w ∷ put tyvar_before v vs) (v ∷ (w ∷ vs)))
    go true e ih = (put_each (λ x. tyvar_before w x ≡ true) v vs e r.0, ih)
    go false e ih =
        let f = tyvars_ordered.total w v (λ p. apart (sym p)) e in
        (each_of (λ x. tyvar_before v x ≡ true) w vs f (λ x o. tyvars_ordered.trans v w x f (r.0 x o)), r)

-- Sorting makes such a list of variables that stand there once.
pub sort_bytes : (vs : List TyVar) → Once vs → InBytes (sort_by tyvar_before vs)
unfolding sort_by
sort_bytes [] o = tt
sort_bytes (v ∷ vs) o = put_bytes v (sort_by tyvar_before vs) (elem-sort_by tyvar_before v vs ∙ o.0) (sort_bytes vs o.1)

-- One more variable, whatever the order.
put_count : (before : TyVar → TyVar → Bool) (v : TyVar) (vs : List TyVar) → count (put before v vs) ≡ suc (count vs)
unfolding put count
put_count before v [] = refl
put_count before v (w ∷ vs) = go (before w v) (put_count before v vs)
  where
    go : (b : Bool) → count (put before v vs) ≡ suc (count vs) → count (if b (w ∷ put before v vs) (v ∷ (w ∷ vs))) ≡ suc (suc (count vs))
    go true ih = ap suc ih
    go false ih = refl

-- Sorting keeps their number.
pub sort_count : (before : TyVar → TyVar → Bool) (vs : List TyVar) → count (sort_by before vs) ≡ count vs
unfolding sort_by count
sort_count before [] = refl
sort_count before (v ∷ vs) = put_count before v (sort_by before vs) ∙ ap suc (sort_count before vs)

-- ## the last one
-- us is some variables and then x; the some are those of us that lie before x.
pub record Ends (us : List TyVar) (x : TyVar) : Type 0 where
  pub front : List TyVar
  pub is : us ≡ front ++ (x ∷ [])
  pub bytes : InBytes front
  pub inside : (v : TyVar) → elem tyvars v front ≡ true → (elem tyvars v us ≡ true) × (tyvar_before v x ≡ true)
  pub covers : (v : TyVar) → elem tyvars v us ≡ true → tyvar_before v x ≡ true → elem tyvars v front ≡ true

-- A variable that no other one of a list in byte order is after is its last one.
pub ends_with : (us : List TyVar) (x : TyVar) → InBytes us → elem tyvars x us ≡ true → ((v : TyVar) → elem tyvars v us ≡ true → tyvar_before x v ≡ false) → Ends us x
unfolding elem
ends_with [] x r e h = absurd (false≢true e)
ends_with (u ∷ us) x r e h = go (same_tyvar x u) (λ a b. ends_with us x r.1 a b)
  where
    rest_of : Ends us x → (x ≢ u) → Ends (u ∷ us) x
    rest_of G n = record {
      front = u ∷ G.front;
      is = ap (λ (xs : List TyVar). u ∷ xs) G.is;
      bytes = ((λ v i. r.0 v (G.inside v i).0), G.bytes);
      inside = each_of (λ v. (elem tyvars v (u ∷ us) ≡ true) × (tyvar_before v x ≡ true)) u G.front
          (elem_head u us, r.0 x (sym (elem_rest x u us n) ∙ e)) (λ v i. (elem_all v u us (G.inside v i).0, (G.inside v i).1));
      covers = λ v i b. cover v i b (same_tyvar v u);
    }
      where
        cover : (v : TyVar) → elem tyvars v (u ∷ us) ≡ true → tyvar_before v x ≡ true → Dec (v ≡ u) → elem tyvars v (u ∷ G.front) ≡ true
        cover v i b (yes j) = subst (λ (y : TyVar). elem tyvars y (u ∷ G.front) ≡ true) (sym j) (elem_head u G.front)
        cover v i b (no j) = elem_all v u G.front (G.covers v (sym (elem_rest v u us j) ∙ i) b)

    alone : (ws : List TyVar) → x ≡ u → InBytes (u ∷ ws) → ((v : TyVar) → elem tyvars v (u ∷ ws) ≡ true → tyvar_before x v ≡ false) → Ends (u ∷ ws) x
    alone [] i r h = record {
      front = [];
      is = ap (λ (y : TyVar). y ∷ []) (sym i);
      bytes = tt;
      inside = λ v j. absurd (false≢true j);
      covers = each_of (λ v. tyvar_before v x ≡ true → elem tyvars v [] ≡ true) u [] (λ b. absurd (tyvars_ordered.irrefl x (subst (λ (y : TyVar). tyvar_before y x ≡ true) (sym i) b))) (λ v j b. absurd (false≢true j));
    }
    alone (w ∷ ws) i r h =
        absurd (true≢false (sym (subst (λ (y : TyVar). tyvar_before y w ≡ true) (sym i) (r.0 w (elem_head w ws))) ∙ h w (elem_all w u (w ∷ ws) (elem_head w ws))))

    go : Dec (x ≡ u) → (elem tyvars x us ≡ true → ((v : TyVar) → elem tyvars v us ≡ true → tyvar_before x v ≡ false) → Ends us x) → Ends (u ∷ us) x
    go (yes i) ih = alone us i r h
    go (no n) ih = rest_of (ih (sym (elem_rest x u us n) ∙ e) (λ v i. h v (elem_all v u us i))) n
