-- Laws of the frames: which stand when a frame is written or one more superclass is taken, and what the contracts of
-- `enter` and `turn` ask.
use mathlib.Core.Path.{◌≡◌, refl, sym, ◌∙◌, subst}
use mathlib.Core.Bool.{Bool, true, false}
use mathlib.Core.List.{List}
use Prim.Native.Nat.{ℕ, zero, suc, ◌+◌, ◌*◌, ◌-◌, ◌<◌, ◌≤◌}
use native.Mathlib.Omega.{arith}
use lib.ListN.{length, get_or, set, length-set}
use lib.Seq.{get_or-set_same, get_or-set_other}
use Rattle.meaning.specs.Ast.{Core}
use Rattle.pairs.specs.Pairs.{Stands}
use Rattle.pairs.proofs.Frames.{stands_then, put_stands}
use Rattle.supers.specs.declared.path.Entered.{Entered}
use Rattle.supers.specs.declared.path.Entered.TheVariants.{Up, Deep, Spent, Hit, Miss}
use Rattle.supers.specs.ClassTable.{super_at}
use Rattle.supers.specs.Frames.{class_in, taken_in, framed, taken, path_core, EntersAs, Enters, TurnsAs}
use Rattle.std.specs.Prelude.{Option, Some, None}

-- A dictionary on the path is told by the classes up to it.
pub path_classes : (w w' ns : List ℕ) (sp : ℕ) (e : Core) (j : ℕ) → ((k : ℕ) → k ≤ j → class_in w' sp k ≡ class_in w sp k) → path_core ns w' sp e j ≡ path_core ns w sp e j
unfolding path_core
path_classes w w' ns sp e zero h = refl
path_classes w w' ns sp e (suc j) h = rw (path_classes w w' ns sp e j (λ k l. h k (omega arith)), h j (omega arith), h (suc j) (omega arith))

-- The first d frames stand.
pub record Alike (w w' : List ℕ) (sp d : ℕ) : Type 0 where
  pub at : (i : ℕ) → sp ≤ i + 2 * d → i < sp → get_or w' i 0 ≡ get_or w i 0

-- So do fewer.
pub alike_less : {w w' : List ℕ} {sp d j : ℕ} → Alike w w' sp d → j ≤ d → Alike w w' sp j
alike_less A h = record { at = λ i p q. A.at i (omega arith) q }

module _ {w w' : List ℕ} {sp d : ℕ} (A : Alike w w' sp d) (room : 2 * d ≤ sp) where
  -- Their classes are the same.
  pub class_alike : (j : ℕ) → j < d → class_in w' sp j ≡ class_in w sp j
  unfolding class_in
  class_alike j h = A.at (sp - 2 * suc j) (omega arith) (omega arith)

  -- As many superclasses were taken.
  pub taken_alike : (j : ℕ) → j < d → taken_in w' sp j ≡ taken_in w sp j
  unfolding taken_in
  taken_alike j h = A.at (sp - 2 * suc j + 1) (omega arith) (omega arith)

-- w' is w with frame d, of the class s.
module _ {w' : List ℕ} (w : List ℕ) (sp d s : ℕ) (e : w' ≡ framed w sp d s) (room : 2 * suc d ≤ sp) where
  -- The frames before it stand.
  pub framed_alike : Alike w w' sp d
  unfolding framed
  framed_alike = rw e (record { at = λ i p q. get_or-set_other (set w (sp - 2 * suc d) s) (sp - 2 * suc d + 1) i 0 0 (omega arith) ∙ get_or-set_other w (sp - 2 * suc d) i s 0 (omega arith) })

  -- Table and stack stand.
  pub framed_stands : (top : ℕ) → 4 * top + 2 * suc d ≤ sp → Stands w w' top sp
  unfolding framed
  framed_stands top h = stands_then (put_stands w (sp - 2 * suc d) s refl top sp (omega arith) (omega arith)) (put_stands (set w (sp - 2 * suc d) s) (sp - 2 * suc d + 1) 0 e top sp (omega arith) (omega arith)) (omega arith)

  -- As many words.
  pub framed-length : length w' ≡ length w
  unfolding framed
  framed-length = rw e (simp length-set)

  module _ (fits : sp ≤ length w) where
    -- Its class.
    pub framed_class : class_in w' sp d ≡ s
    unfolding framed class_in
    framed_class = rw e (get_or-set_other (set w (sp - 2 * suc d) s) (sp - 2 * suc d + 1) (sp - 2 * suc d) 0 0 (omega arith) ∙ get_or-set_same w (sp - 2 * suc d) s 0 (omega arith))

    -- None of its superclasses was taken.
    pub framed_none : taken_in w' sp d ≡ 0
    unfolding framed taken_in
    framed_none = rw e (get_or-set_same (set w (sp - 2 * suc d) s) (sp - 2 * suc d + 1) 0 0 (simp length-set (omega arith)))

-- w' is w with one more superclass of frame j taken.
module _ {w' : List ℕ} (w : List ℕ) (sp j : ℕ) (e : w' ≡ taken w sp j) (room : 2 * suc j ≤ sp) where
  -- The frames before it stand.
  pub took_alike : Alike w w' sp j
  unfolding taken
  took_alike = rw e (record { at = λ i p q. get_or-set_other w (sp - 2 * suc j + 1) i (taken_in w sp j + 1) 0 (omega arith) })

  -- The classes do, its own too.
  pub took_class : (k : ℕ) → k ≤ j → class_in w' sp k ≡ class_in w sp k
  unfolding taken class_in
  took_class k h = rw e (get_or-set_other w (sp - 2 * suc j + 1) (sp - 2 * suc k) (taken_in w sp j + 1) 0 (omega arith))

  -- Table and stack stand.
  pub took_stands : (top : ℕ) → 4 * top + 2 * suc j ≤ sp → Stands w w' top sp
  unfolding taken
  took_stands top h = put_stands w (sp - 2 * suc j + 1) (taken_in w sp j + 1) e top sp (omega arith) (omega arith)

  -- As many words.
  pub took_length : length w' ≡ length w
  unfolding taken
  took_length = rw e (simp length-set)

  -- One more was taken.
  pub took_one : sp ≤ length w → taken_in w' sp j ≡ suc (taken_in w sp j)
  unfolding taken taken_in
  took_one fits = go (taken_in w sp j) e
    where
      go : (k : ℕ) → w' ≡ set w (sp - 2 * suc j + 1) (k + 1) → taken_in w' sp j ≡ suc k
      go k f = rw f (get_or-set_same w (sp - 2 * suc j + 1) (k + 1) 0 (omega arith) ∙ (let z : k + 1 ≡ suc k = omega arith in z))

-- ## What `enter` and `turn` ask

-- Two words written are a frame.
pub framed_is : {w₁ w₂ : List ℕ} (w : List ℕ) (sp d s : ℕ) → w₁ ≡ set w (sp - 2 * (d + 1)) s → w₂ ≡ set w₁ (sp - 2 * (d + 1) + 1) 0 → w₂ ≡ framed w sp d s
unfolding framed
framed_is w sp d s p q = let z : 2 * (d + 1) ≡ 2 * suc d = omega arith in q ∙ rw (p, z)

-- The last of d frames, as the code reads it.
module _ {d j : ℕ} (q : d ≡ suc j) (cl w : List ℕ) (sp : ℕ) {c i : ℕ} (ec : c ≡ get_or w (sp - 2 * d) 0) (ei : i ≡ get_or w (sp - 2 * d + 1) 0) {f : Option ℕ} (ef : f ≡ super_at cl c i) where
  -- Its class.
  read_class : c ≡ class_in w sp j
  unfolding class_in
  read_class = ec ∙ rw q

  -- How many were taken.
  read_taken : i ≡ taken_in w sp j
  unfolding taken_in
  read_taken = ei ∙ rw q

  -- What is next.
  read_next : super_at cl (class_in w sp j) (taken_in w sp j) ≡ f
  read_next = rw (← read_class, ← read_taken) (sym ef)

  -- None is.
  pub turn_up : f ≡ None → TurnsAs cl w w sp j 0 0 false Up
  turn_up h = (refl, read_next ∙ h)

  -- A superclass is.
  pub turn_took : {w₁ w' : List ℕ} {left s goal : ℕ} {same : Bool} (r : Entered) → f ≡ Some s → w₁ ≡ set w (sp - 2 * d + 1) (i + 1) → Enters w₁ w' sp d left s goal same false r → TurnsAs cl w w' sp j left goal same r
  unfolding taken
  turn_took {w₁} {w'} {left} {s} {goal} {same} r h p E = go r (subst (λ (v : List ℕ). EntersAs v w' sp (suc j) left s goal same false r) words (subst (λ (m : ℕ). EntersAs w₁ w' sp m left s goal same false r) q E.says))
    where
      words : w₁ ≡ taken w sp j
      words = p ∙ rw (q, read_taken)

      go : (r : Entered) → EntersAs (taken w sp j) w' sp (suc j) left s goal same false r → TurnsAs cl w w' sp j left goal same r
      go Up x = absurd x
      go Deep x = record { s = s; next = read_next ∙ h; entered = x }
      go Spent x = record { s = s; next = read_next ∙ h; entered = x }
      go Hit x = record { s = s; next = read_next ∙ h; entered = x }
      go Miss x = record { s = s; next = read_next ∙ h; entered = x }

-- A test does not say both.
pub not_both : {b : Bool} → b ≡ true → b ≡ false → ⊥
not_both p q = let z : ◌≡◌ {A = ℕ} 0 1 = cc in omega arith
