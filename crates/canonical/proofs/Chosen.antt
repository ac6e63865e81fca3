-- The words that are chosen one after the other, and that giving them the letters is the canonical renaming.
use mathlib.Core.Path.{◌≡◌, refl, ap, sym, ◌∙◌, subst}
use mathlib.Core.Bool.{Bool, true, false, true≢false, false≢true}
use mathlib.Core.List.{List, [], ◌∷◌}
use mathlib.Core.Option.{Option, none, some}
use mathlib.Core.Logic.{◌≢◌}
use Prim.Native.Nat.{ℕ, suc, ◌+◌, ◌-◌, ◌<◌, ◌≤◌}
use native.Mathlib.Omega.{arith}
use native.Mathlib.Decide.{ℕ_discrete, dec_lt}
use Rattle.meaning.specs.Base.{is_yes, if, ltb}
use Rattle.meaning.specs.Ast.{TyVar, named, fresh, same_tyvar, letter, var}
use Rattle.meaning.specs.Map.{Map, tyvars, get, insert, elem}
use Rattle.meaning.specs.Subst.{or_var, look}
use Rattle.meaning.specs.Cores.{internal_before, sort_by, renamer_from, canonical_renamer, as_subst}
use Rattle.theorems.proofs.Tests.{ltb_true, is_no_of, or_right}
use Rattle.theorems.proofs.Maps.{get_insert_same, get_insert_other}
use Rattle.theorems.proofs.FreeVars.{elem_head, elem_cons, elem-sort_by}
use Rattle.theorems.proofs.Made.{IsMade}
use Rattle.theorems.proofs.MadeGeneralized.{MadeVars}
use Rattle.theorems.proofs.MadeOrder.{Rising, Once, sort_rising}
use Rattle.names.specs.Names.{Names, first_fresh, first_nullary, first_node, variable_of, tyvar_of}
use Rattle.names.specs.declared.Kind.{Kind}
use Rattle.names.proofs.Tests.{lt_yes, lt_no, eq_yes, eq_no}
use Rattle.names.proofs.Where.{is_named, is_fresh, is_nullary, is_node}
use Rattle.names.proofs.Distinct.{tyvar_of_same}
use Rattle.ast.specs.Table.{nil_word}
use Rattle.ast.proofs.Ranges.{cell_low}
use Rattle.rename.specs.Renaming.{later, pos_f, pos_in, pos_at, or_word, renamed_word, Renames}

-- The word of a made variable.
abbrev pub MadeWord : ℕ → Type 0
MadeWord x = (first_fresh ≤ x) × (x < first_nullary)

-- ls are the next words from number k on, up to 26 in all: each is the least word from `from` on whose variable is one of vs.
pub data Chosen (ns : List ℕ) (vs : List TyVar) : ℕ → ℕ → List ℕ → Type 0 where
  full : {from : ℕ} (k : ℕ) → 26 ≤ k → Chosen ns vs from k []
  over : {from k : ℕ} → ((x : ℕ) → from ≤ x → x < first_nullary → elem tyvars (tyvar_of ns x) vs ≡ false) → Chosen ns vs from k []
  next : {from k : ℕ} {ls : List ℕ} (x : ℕ) → k < 26 → from ≤ x → x < first_nullary → elem tyvars (tyvar_of ns x) vs ≡ true
      → ((y : ℕ) → from ≤ y → y < x → elem tyvars (tyvar_of ns y) vs ≡ false) → Chosen ns vs (suc x) (suc k) ls → Chosen ns vs from k (x ∷ ls)

-- A variable that lies before the word x has a word itself.
record Below (ns : List ℕ) (v : TyVar) (x : ℕ) : Type 0 where
  word : ℕ
  low : first_fresh ≤ word
  less : word < x
  is : tyvar_of ns word ≡ v

-- ## tests
-- Another variable than the first one is among the rest.
elem_other : (x v : TyVar) (vs : List TyVar) → x ≢ v → elem tyvars x (v ∷ vs) ≡ elem tyvars x vs
unfolding elem
elem_other x v vs h = rw (is_no_of (same_tyvar x v) h) refl

-- One of the rest is one of all.
elem_more : (x v : TyVar) (vs : List TyVar) → elem tyvars x vs ≡ true → elem tyvars x (v ∷ vs) ≡ true
elem_more x v vs e = elem_cons x v vs ∙ or_right (is_yes (same_tyvar x v)) (elem tyvars x vs) e

-- No word has a place in the empty list.
pub no_place : (w : List ℕ) (x : ℕ) → pos_in w nil_word x ≡ none
unfolding pos_in pos_f
no_place w x = rw (cell_low w nil_word (omega arith)) refl

-- ## words of made variables
-- What such a word stands for.
pub made_word : (ns : List ℕ) (x : ℕ) → MadeWord x → tyvar_of ns x ≡ fresh (x - first_fresh)
unfolding tyvar_of
made_word ns x h = rw (is_fresh x h.0 h.1)

-- It was made.
pub word_made : (ns : List ℕ) (x : ℕ) → MadeWord x → IsMade (tyvar_of ns x)
word_made ns x h = rw (made_word ns x h) tt

-- Their internal order is that of the words.
pub word_before : (ns : List ℕ) (x y : ℕ) → MadeWord x → MadeWord y → internal_before (tyvar_of ns x) (tyvar_of ns y) ≡ true → x < y
unfolding internal_before
word_before ns x y h k e =
    let f = rw (made_word ns x h, made_word ns y k) at e in
    let l = ltb_true (x - first_fresh) (y - first_fresh) f in
    let a = h.0 in omega arith

-- A word of a made variable is one of those.
pub made_is_word : (ns : List ℕ) (x : ℕ) → IsMade (tyvar_of ns x) → MadeWord x
unfolding tyvar_of
made_is_word ns x m = go (dec_lt x first_fresh) (dec_lt x first_nullary) (dec_lt x first_node)
  where
    go : Dec (x < first_fresh) → Dec (x < first_nullary) → Dec (x < first_node) → MadeWord x
    go (yes f) g h = absurd (subst (λ (k : Kind). IsMade (variable_of ns k)) (is_named x f) m)
    go (no f) (yes g) h = (omega arith, g)
    go (no f) (no g) (yes h) = absurd (subst (λ (k : Kind). IsMade (variable_of ns k)) (is_nullary x (omega arith) (omega arith) h) m)
    go (no f) (no g) (no h) = absurd (subst (λ (k : Kind). IsMade (variable_of ns k)) (is_node x (omega arith) (omega arith) (omega arith)) m)

-- Before the variable of such a word there are only variables of such words.
made_below : (ns : List ℕ) (v : TyVar) (x : ℕ) → IsMade v → MadeWord x → internal_before v (tyvar_of ns x) ≡ true → Below ns v x
unfolding internal_before
made_below ns (named y) x i h e = absurd i
made_below ns (fresh m) x i h e =
    let f = rw (made_word ns x h) at e in
    let l = ltb_true m (x - first_fresh) f in
    let a = h.0 in
    let b = h.1 in
    let k : MadeWord (first_fresh + m) = (omega arith, omega arith) in
    record { word = first_fresh + m; low = k.0; less = omega arith; is = made_word ns (first_fresh + m) k ∙ ap fresh (omega arith) }

-- ## the renaming
-- A new name, or the old one where there is none.
abbrev pub or_name : TyVar → Option TyVar → TyVar
or_name x none = x
or_name x (some y) = y

-- A renaming as a substitution says of a variable its new name.
pub look_as : (x : TyVar) (r : Map TyVar TyVar) → look (as_subst r) x ≡ var (or_name x (get tyvars x r))
unfolding get or_var
look_as x [] = refl
look_as x (p ∷ r) = go (same_tyvar x p.0) (look_as x r)
  where
    go : (d : Dec (x ≡ p.0)) → look (as_subst r) x ≡ var (or_name x (get tyvars x r))
        → or_var x (if (is_yes d) (some (var p.1)) (get tyvars x (as_subst r))) ≡ var (or_name x (if (is_yes d) (some p.1) (get tyvars x r)))
    go (yes e) ih = refl
    go (no h) ih = ih

-- The 27th variable and later ones keep their names.
late : (x : TyVar) (k : ℕ) (vs : List TyVar) → 26 ≤ k → or_name x (get tyvars x (renamer_from k vs)) ≡ x
unfolding renamer_from get
late x k [] h = refl
late x k (v ∷ vs) h = rw (lt_no k 26 h) (go (same_tyvar x v) (late x (suc k) vs (omega arith)))
  where
    go : Dec (x ≡ v) → or_name x (get tyvars x (renamer_from (suc k) vs)) ≡ x → or_name x (get tyvars x (insert tyvars (v, v) (renamer_from (suc k) vs))) ≡ x
    go (yes e) ih = rw e (ap (or_name v) (get_insert_same tyvars v v (renamer_from (suc k) vs)))
    go (no n) ih = ap (or_name x) (get_insert_other tyvars x (v, v) (renamer_from (suc k) vs) n) ∙ ih

-- A variable that is not in the list gets no name.
pub absent : (x : TyVar) (k : ℕ) (vs : List TyVar) → elem tyvars x vs ≡ false → get tyvars x (renamer_from k vs) ≡ none
unfolding renamer_from get elem
absent x k [] e = refl
absent x k (v ∷ vs) e = go (same_tyvar x v) refl (absent x (suc k) vs)
  where
    go : (d : Dec (x ≡ v)) → same_tyvar x v ≡ d → (elem tyvars x vs ≡ false → get tyvars x (renamer_from (suc k) vs) ≡ none)
        → get tyvars x (insert tyvars (v, if (ltb k 26) (letter k) v) (renamer_from (suc k) vs)) ≡ none
    go (yes i) j ih = absurd (true≢false (rw j at e))
    go (no n) j ih = get_insert_other tyvars x (v, if (ltb k 26) (letter k) v) (renamer_from (suc k) vs) n ∙ ih (rw j at e)

-- A first variable among the first 26 gets its letter.
first_name : (v : TyVar) (k : ℕ) (vs : List TyVar) → k < 26 → or_name v (get tyvars v (renamer_from k (v ∷ vs))) ≡ letter k
unfolding renamer_from
first_name v k vs h = rw (lt_yes k 26 h) (ap (or_name v) (get_insert_same tyvars v (letter k) (renamer_from (suc k) vs)))

-- Another one its name among the rest.
pub later_name : (x v : TyVar) (k : ℕ) (vs : List TyVar) → x ≢ v → get tyvars x (renamer_from k (v ∷ vs)) ≡ get tyvars x (renamer_from (suc k) vs)
unfolding renamer_from
later_name x v k vs h = get_insert_other tyvars x (v, if (ltb k 26) (letter k) v) (renamer_from (suc k) vs) h

-- ## places
-- One place further on from a letter before.
pub place_later : (k x : ℕ) (p : Option ℕ) → or_word (9 + suc k) x p ≡ or_word (9 + k) x (later p)
place_later k x none = refl
place_later k x (some i) = omega arith

-- The first word.
pub place_first : (k x : ℕ) (ls : List ℕ) → or_word (9 + k) x (pos_at (x ∷ ls) x) ≡ 9 + k
unfolding pos_at
place_first k x ls = rw (eq_yes x x refl) (omega arith)

-- Another one.
pub place_other : (y x : ℕ) (ls : List ℕ) → (y ≡ x → ⊥) → pos_at (y ∷ ls) x ≡ later (pos_at ls x)
unfolding pos_at
place_other y x ls h = rw (eq_no y x h) refl

-- ## the letters
-- The words of S from `from` on are those of vs.
record Covers (ns : List ℕ) (vs : List TyVar) (from : ℕ) (S : List TyVar) : Type 0 where
  rising : Rising S
  made : MadeVars S
  first : first_fresh ≤ from
  inside : (x : ℕ) → elem tyvars (tyvar_of ns x) S ≡ true → (from ≤ x) × ((x < first_nullary) × (elem tyvars (tyvar_of ns x) vs ≡ true))
  covers : (x : ℕ) → from ≤ x → x < first_nullary → elem tyvars (tyvar_of ns x) vs ≡ true → elem tyvars (tyvar_of ns x) S ≡ true

module _ {ns : List ℕ} {vs : List TyVar} (N : Names ns) (L : (k : ℕ) → k < 26 → tyvar_of ns (9 + k) ≡ letter k) where
  -- The least word is that of the first one.
  head_is : {from x : ℕ} (v : TyVar) (S : List TyVar) → Covers ns vs from (v ∷ S) → from ≤ x → x < first_nullary → elem tyvars (tyvar_of ns x) vs ≡ true
      → ((y : ℕ) → from ≤ y → y < x → elem tyvars (tyvar_of ns y) vs ≡ false) → tyvar_of ns x ≡ v
  head_is {from} {x} v S C f b e l = go (same_tyvar (tyvar_of ns x) v)
    where
      never : Below ns v x → ⊥
      never B =
          let i = C.inside B.word (rw B.is (elem_head v S)) in
          true≢false (sym i.1.1 ∙ l B.word i.0 B.less)

      go : Dec (tyvar_of ns x ≡ v) → tyvar_of ns x ≡ v
      go (yes i) = i
      go (no h) =
          let k : elem tyvars (tyvar_of ns x) S ≡ true = sym (elem_other (tyvar_of ns x) v S h) ∙ C.covers x f b e in
          let a = C.first in
          absurd (never (made_below ns v x (C.made v (elem_head v S)) (omega arith, b) (C.rising.0 (tyvar_of ns x) k)))

  -- The others are those from the next word on.
  tail_covers : {from x : ℕ} (v : TyVar) (S : List TyVar) → Covers ns vs from (v ∷ S) → from ≤ x → x < first_nullary → tyvar_of ns x ≡ v → Covers ns vs (suc x) S
  tail_covers {from} {x} v S C f b e = record {
    rising = C.rising.1;
    made = λ y i. C.made y (elem_more y v S i);
    first = (let a = C.first in omega arith);
    inside = λ y i.
        let j = C.inside y (elem_more (tyvar_of ns y) v S i) in
        let a = C.first in
        let k = C.rising.0 (tyvar_of ns y) i in
        (word_before ns x y (omega arith, b) ((let c = j.0 in omega arith), j.1.0) (rw e k), j.1);
    covers = λ y g c i. sym (elem_other (tyvar_of ns y) v S (λ j. apart y g (tyvar_of_same ns N y x (j ∙ sym e)))) ∙ C.covers y (omega arith) c i;
  }
    where
      apart : (y : ℕ) → suc x ≤ y → y ≡ x → ⊥
      apart y g i = omega arith

  -- Each word gets its letter, from the k-th letter on.
  lettered : {from k : ℕ} {ls : List ℕ} (S : List TyVar) → Covers ns vs from S → Chosen ns vs from k ls → (x : ℕ)
      → or_name (tyvar_of ns x) (get tyvars (tyvar_of ns x) (renamer_from k S)) ≡ tyvar_of ns (or_word (9 + k) x (pos_at ls x))
  unfolding pos_at elem
  lettered S C (full k h) x = late (tyvar_of ns x) k S h
  lettered {k = k} S C (over h) x = go (elem tyvars (tyvar_of ns x) S) refl
    where
      go : (b : Bool) → elem tyvars (tyvar_of ns x) S ≡ b → or_name (tyvar_of ns x) (get tyvars (tyvar_of ns x) (renamer_from k S)) ≡ tyvar_of ns x
      go true e = let i = C.inside x e in absurd (true≢false (sym i.1.1 ∙ h x i.0 i.1.0))
      go false e = ap (or_name (tyvar_of ns x)) (absent (tyvar_of ns x) k S e)
  lettered [] C (next y s f b e l rest) x = absurd (false≢true (C.covers y f b e))
  lettered {k = k} (v ∷ S) C (next {ls = ls} y s f b e l rest) x =
      let i = head_is v S C f b e l in
      go i (ℕ_discrete y x) (lettered S (tail_covers v S C f b i) rest x)
    where
      go : tyvar_of ns y ≡ v → Dec (y ≡ x) → or_name (tyvar_of ns x) (get tyvars (tyvar_of ns x) (renamer_from (suc k) S)) ≡ tyvar_of ns (or_word (9 + suc k) x (pos_at ls x))
          → or_name (tyvar_of ns x) (get tyvars (tyvar_of ns x) (renamer_from k (v ∷ S))) ≡ tyvar_of ns (or_word (9 + k) x (pos_at (y ∷ ls) x))
      go i (yes j) ih = rw (← j, i) (first_name v k S s) ∙ sym (L k s) ∙ ap (tyvar_of ns) (sym (rw j (place_first k x ls)))
      go i (no n) ih =
          ap (or_name (tyvar_of ns x)) (later_name (tyvar_of ns x) v k S (λ j. n (sym (tyvar_of_same ns N x y (j ∙ sym i))))) ∙ ih
          ∙ ap (tyvar_of ns) (place_later k x (pos_at ls x) ∙ ap (or_word (9 + k) x) (sym (place_other y x ls n)))

  -- At first all are covered.
  all_covered : MadeVars vs → Once vs → Covers ns vs first_fresh (sort_by internal_before vs)
  all_covered m o = record {
    rising = sort_rising vs m o;
    made = λ x e. m x (sym (elem-sort_by internal_before x vs) ∙ e);
    first = omega arith;
    inside = λ x e.
        let i = sym (elem-sort_by internal_before (tyvar_of ns x) vs) ∙ e in
        let w = made_is_word ns x (m (tyvar_of ns x) i) in
        (w.0, (w.1, i));
    covers = λ x f b e. elem-sort_by internal_before (tyvar_of ns x) vs ∙ e;
  }

  -- So giving the chosen words the letters is the canonical renaming.
  pub chosen_renames : {ls : List ℕ} (w : List ℕ) → MadeVars vs → Once vs → Chosen ns vs first_fresh 0 ls → Renames ns w nil_word 0 ls (as_subst (canonical_renamer vs))
  unfolding canonical_renamer renamed_word
  chosen_renames {ls} w m o C = record {
    at = λ x. look_as (tyvar_of ns x) (renamer_from 0 (sort_by internal_before vs))
        ∙ ap var (lettered (sort_by internal_before vs) (all_covered m o) C x) ∙ rw (no_place w x) refl;
  }
