-- Laws of places: the place of a word in a list by its cell, that it stays where the list's words do, and looking for it.
use Prim.Native.Nat.{ℕ, zero, suc, ◌+◌, ◌<◌, ◌≤◌}
use native.Mathlib.Decide.{ℕ_discrete}
use native.Mathlib.Omega.{arith}
use mathlib.Core.Path.{◌≡◌, refl, ap, sym, ◌∙◌}
use mathlib.Core.Bool.{Bool, true, false}
use mathlib.Core.List.{List, [], ◌∷◌}
use mathlib.Core.Option.{Option, none, some}
use lib.ListN.{length, get_or}
use Rattle.meaning.specs.Base.{if, eqb}
use Rattle.names.specs.Names.{first_nullary, first_node}
use Rattle.names.proofs.Tests.{eq_yes, eq_no}
use Rattle.ast.specs.Table.{cell_of, CellBelow, Table, Node, Kept}
use Rattle.ast.specs.declared.Cell.{Cell}
use Rattle.ast.specs.declared.Cell.TheVariants.{Nil, Cons}
use Rattle.ast.proofs.Ranges.{cons_node}
use Rattle.ast.proofs.Laws.{cells_below, kept_cell, kept_refl, cons_tail}
use Rattle.rename.specs.Renaming.{later, of_place, pos_f, pos_in, pos_at, first_letter, or_word, renamed_word}
use Rattle.rename.specs.Renamed.{Renaming}

-- ## In a list of cells

-- Two readings that agree below t agree on a cell that refers below t.
cell_ext : (x : ℕ) (p q : ℕ → Option ℕ) (t : ℕ) (s : Cell) → CellBelow t s → ((m : ℕ) → m < t → p m ≡ q m) → of_place x p s ≡ of_place x q s
cell_ext x p q t Nil h k = refl
cell_ext x p q t (Cons a b) h k = rw (k b h.1)

module _ {w w' : List ℕ} {top : ℕ} (K : Kept w w' top) (x : ℕ) (T : Table w top) where
  -- What stands below top is read alike from words that keep it, with any fuel that is enough.
  fuel : (f g t : ℕ) → t < f → t < g → t < first_node + top → pos_f f w' t x ≡ pos_f g w t x
  unfolding pos_f
  fuel zero g t p q r = absurd (omega arith)
  fuel (suc f) zero t p q r = absurd (omega arith)
  fuel (suc f) (suc g) t p q r =
      ap (of_place x (λ m. pos_f f w' m x)) (kept_cell K t r)
      ∙ cell_ext x _ _ t (cell_of w t) (cells_below (record { table = T; below = r })) (λ m h. fuel f g m (omega arith) (omega arith) (omega arith))

-- A place is the same in words that keep the table.
pub kept_pos : {w w' : List ℕ} {top l : ℕ} (x : ℕ) → Kept w w' top → Node w top l → pos_in w' l x ≡ pos_in w l x
unfolding pos_in
kept_pos {l = l} x K N = fuel K x N.table (suc l) (suc l) l (omega arith) (omega arith) N.below

-- So a word becomes the same word.
pub kept_renamed : {w w' : List ℕ} {top vs : ℕ} (to : ℕ) (ls : List ℕ) (x : ℕ) → Kept w w' top → Node w top vs → renamed_word w' vs to ls x ≡ renamed_word w vs to ls x
unfolding renamed_word
kept_renamed to ls x K N = rw (kept_pos x K N)

-- What a reader of a list learns: r is what `cell_at` returned, and the arm of the match says which cell it is.
module _ {w : List ℕ} {top l : ℕ} {r : Cell} (x : ℕ) (N : Node w top l) (e : r ≡ cell_of w l) where
  -- The place of a word, by the cell.
  pos_of : pos_in w l x ≡ of_place x (λ m. pos_in w m x) r
  unfolding pos_in pos_f
  pos_of = rw e (let b = N.below in cell_ext x _ _ l (cell_of w l) (cells_below N)
      (λ m h. fuel (kept_refl w top) x N.table l (suc m) m h (omega arith) (omega arith)))

  -- No list has no place.
  pub pos_nil : r ≡ Nil → pos_in w l x ≡ none
  pos_nil k = rw k at pos_of

  -- A first word and the rest.
  pub pos_cons : {a b : ℕ} → r ≡ Cons a b → pos_in w l x ≡ if (eqb a x) (some 0) (later (pos_in w b x))
  pos_cons k = rw k at pos_of

-- A place that is counted from i words further to the front.
abbrev pub shifted : ℕ → Option ℕ → Option ℕ
shifted i none = none
shifted i (some j) = some (i + j)

-- One more word was passed.
shift_later : (i : ℕ) (o : Option ℕ) → shifted i (later o) ≡ shifted (i + 1) o
shift_later i none = refl
shift_later i (some j) = ap (λ n. some n) (let e : i + suc j ≡ i + 1 + j = omega arith in e)

-- After i words without x the list l is left, of all of vs.
pub record Passed (w : List ℕ) (top vs x l i : ℕ) : Type 0 where
  pub node : Node w top l
  pub few : i + l ≤ vs
  pub same : pos_in w vs x ≡ shifted i (pos_in w l x)

-- Nothing was passed.
shift_none : (o : Option ℕ) → o ≡ shifted 0 o
shift_none none = refl
shift_none (some j) = ap (λ n. some n) (let e : j ≡ 0 + j = omega arith in e)

-- At first all is left.
pub passed : {w : List ℕ} {top vs : ℕ} (x : ℕ) → Node w top vs → Passed w top vs x vs 0
passed x N = record { node = N; few = omega arith; same = shift_none _ }

-- A cell that is no first word and rest is the empty list.
pub no_cell : (r : Cell) → ((a b : ℕ) → r ≡ Cons a b → ⊥) → r ≡ Nil
no_cell Nil n = refl
no_cell (Cons a b) n = absurd (n a b refl)

-- What a cell of the list tells.
module _ {w ls : List ℕ} {top vs to x l i : ℕ} {r : Cell} (R : Renaming w ls top vs to) (P : Passed w top vs x l i) (e : r ≡ cell_of w l) where
  -- Nothing is left: the words that become letters are next.
  pub passes_none : {q : ℕ} → r ≡ Nil → q ≡ or_word first_letter x (pos_at ls x) → q ≡ renamed_word w vs to ls x
  unfolding renamed_word
  passes_none k h = rw (P.same, pos_nil x P.node e k) h

  -- A cell is left, so that fewer than the table's nodes were passed.
  pub passes_few : {a b : ℕ} → r ≡ Cons a b → to + i < first_nullary
  passes_few k = let n = cons_node w l (sym e ∙ k) in let f = P.few in let m = R.words in omega arith

  -- The word is there.
  pub passes_hit : {a b : ℕ} → r ≡ Cons a b → a ≡ x → to + i ≡ renamed_word w vs to ls x
  unfolding renamed_word
  passes_hit {a} k h = rw (P.same, pos_cons x P.node e k, eq_yes a x h) (let z : to + i ≡ to + (i + 0) = omega arith in z)

  -- Another one is passed; what is left is shorter.
  pub passes_on : {a b : ℕ} → r ≡ Cons a b → (a ≡ x → ⊥) → (b < l) × Passed w top vs x b (i + 1)
  passes_on {a} {b} k n =
      let t = cons_tail P.node e k in let u = t.0 in let f = P.few in
      (u, record { node = t.1; few = omega arith; same = P.same ∙ rw (pos_cons x P.node e k, eq_no a x n) (shift_later i (pos_in w b x)) })

-- ## In some words

-- None of the first i words is x.
pub record Without (ls : List ℕ) (x i : ℕ) : Type 0 where
  pub none : (j : ℕ) → j < i → get_or ls j 0 ≡ x → ⊥

-- At first there are none.
pub without_none : (ls : List ℕ) (x : ℕ) → Without ls x 0
without_none ls x = record { none = λ j h e. omega arith }

-- One more is not.
pub without_on : {ls : List ℕ} {x i : ℕ} → Without ls x i → (get_or ls i 0 ≡ x → ⊥) → Without ls x (i + 1)
without_on {ls} {x} {i} W n = record { none = λ j h e. go j h e (ℕ_discrete j i) }
  where
    go : (j : ℕ) → j < i + 1 → get_or ls j 0 ≡ x → Dec (j ≡ i) → ⊥
    go j h e (yes p) = n (rw p at e)
    go j h e (no p) = W.none j (omega arith) e

-- The first that is x.
pos_hit : (ls : List ℕ) (x i : ℕ) → i < length ls → ((j : ℕ) → j < i → get_or ls j 0 ≡ x → ⊥) → get_or ls i 0 ≡ x → pos_at ls x ≡ some i
unfolding pos_at
pos_hit [] x i h n e = absurd (omega arith)
pos_hit (y ∷ ls) x zero h n e = rw (eq_yes y x e)
pos_hit (y ∷ ls) x (suc i) h n e = rw (eq_no y x (n 0 (omega arith)), pos_hit ls x i (omega arith) (λ j k. n (suc j) (omega arith)) e)

-- There is none.
pos_miss : (ls : List ℕ) (x : ℕ) → ((j : ℕ) → j < length ls → get_or ls j 0 ≡ x → ⊥) → pos_at ls x ≡ none
unfolding pos_at
pos_miss [] x n = refl
pos_miss (y ∷ ls) x n = rw (eq_no y x (n 0 (omega arith)), pos_miss ls x (λ j k. n (suc j) (omega arith)))

-- The word is there: it becomes a letter.
pub letter_hit : {ls : List ℕ} {x i : ℕ} → Without ls x i → i < length ls → get_or ls i 0 ≡ x → first_letter + i ≡ or_word first_letter x (pos_at ls x)
letter_hit {ls} {x} {i} W h e = rw (pos_hit ls x i h W.none e)

-- It is not: it stays.
pub letter_miss : {ls : List ℕ} {x i : ℕ} → Without ls x i → length ls ≤ i → x ≡ or_word first_letter x (pos_at ls x)
letter_miss {ls} {x} {i} W h = rw (pos_miss ls x (λ j k. W.none j (omega arith)))

-- ## What a variable's word becomes is a variable's word

-- A place that is one further than another, or the first.
place_case : (P : ℕ → Type 0) (c : Bool) (o : Option ℕ) (i : ℕ) → if c (some 0) (later o) ≡ some i → P 0 → ((j : ℕ) → o ≡ some j → P (suc j)) → P i
place_case P true o i e z n = let k : 0 ≡ i = cc in rw k at z
place_case P false none i e z n = let k : ◌≡◌ {A = ℕ} 0 1 = cc in absurd (omega arith)
place_case P false (some j) i e z n = let k : suc j ≡ i = cc in rw k at (n j refl)

-- A place in some words is less than how many they are.
pos_less : (ls : List ℕ) (x i : ℕ) → pos_at ls x ≡ some i → i < length ls
unfolding pos_at
pos_less [] x i e = let z : ◌≡◌ {A = ℕ} 0 1 = cc in absurd (omega arith)
pos_less (y ∷ ls) x i e = place_case (λ n. n < suc (length ls)) (eqb y x) (pos_at ls x) i e (omega arith) (λ j k. let h = pos_less ls x j k in omega arith)

-- A place in a list of cells is no more than the number of its node.
pub pos_few : {w : List ℕ} {top : ℕ} (x : ℕ) → Table w top → (f l i : ℕ) → l < first_node + top → pos_f f w l x ≡ some i → first_node + i ≤ l
unfolding pos_f
pos_few x T zero l i h e = let z : ◌≡◌ {A = ℕ} 0 1 = cc in absurd (omega arith)
pos_few {w} {top} x T (suc f) l i h e = go (cell_of w l) refl (cells_below (record { table = T; below = h })) e (λ b j. pos_few x T f b j)
  where
    go : (s : Cell) → cell_of w l ≡ s → CellBelow l s → of_place x (λ m. pos_f f w m x) s ≡ some i
        → ((b j : ℕ) → b < first_node + top → pos_f f w b x ≡ some j → first_node + j ≤ b) → first_node + i ≤ l
    go Nil k c q ih = let z : ◌≡◌ {A = ℕ} 0 1 = cc in absurd (omega arith)
    go (Cons a b) k c q ih =
        let n = cons_node w l k in let u = c.1 in
        place_case (λ m. first_node + m ≤ l) (eqb a x) (pos_f f w b x) i q (omega arith) (λ j r. let y = ih b j (omega arith) r in omega arith)

-- A word stays or becomes one below the constructors.
pub data Becomes (x : ℕ) : ℕ → Type 0 where
  stays : Becomes x x
  changes : {y : ℕ} → y < first_nullary → Becomes x y

-- So does each.
pub becomes : {w ls : List ℕ} {top vs to : ℕ} (x : ℕ) → Renaming w ls top vs to → Becomes x (renamed_word w vs to ls x)
unfolding renamed_word pos_in
becomes {w} {ls} {top} {vs} {to} x R = go (pos_in w vs x) refl (pos_at ls x) refl
  where
    go : (p : Option ℕ) → pos_in w vs x ≡ p → (q : Option ℕ) → pos_at ls x ≡ q → Becomes x (or_word to (or_word first_letter x q) p)
    go (some i) k q m = let h = pos_few x R.vars.table (suc vs) vs i R.vars.below k in let z = R.words in changes {y = to + i} (omega arith)
    go none k (some i) m = let h = pos_less ls x i m in let z = R.letters in changes {y = first_letter + i} (omega arith)
    go none k none m = stays
