-- The inner loop of `search`: what was left at its begin is what is left now.
use mathlib.Core.Path.{◌≡◌, refl, ap, ◌∙◌}
use mathlib.Core.Bool.{Bool, true, false}
use mathlib.Core.List.{List}
use Prim.Native.Nat.{ℕ, suc, ◌+◌, ◌*◌, ◌-◌, ◌<◌, ◌≤◌}
use native.Mathlib.Omega.{arith}
use lib.ListN.{length}
use Rattle.meaning.specs.Ast.{Field, pred, Core, dict_proj}
use Rattle.names.specs.Names.{name_of}
use Rattle.pairs.specs.Pairs.{Stands}
use Rattle.pairs.proofs.Frames.{stands_refl, stands_then}
use Rattle.supers.specs.declared.path.Entered.{Entered}
use Rattle.supers.specs.declared.path.Entered.TheVariants.{Up, Deep, Spent, Hit, Miss}
use Rattle.supers.specs.ClassTable.{Supers}
use Rattle.supers.specs.Frames.{taken, EntersAs, Enters, Took, TurnsAs, Turns}
use Rattle.supers.proofs.FrameLaws.{framed_stands, framed-length, took_stands, took_length}
use Rattle.supers.proofs.Rest.{Way, todo, pending, goes_up, goes_down, enters}

-- A walk over a class table, in which the projections of the class goal are taken if the types are the same.
pub record Fine (ns cl : List ℕ) (goal : ℕ) (same : Bool) (W : Way) : Type 0 where
  pub supers : Supers ns cl W.env
  pub hit : (s : ℕ) (f : Core) (x : Field) → s ≡ goal → same ≡ true → W.hit (dict_proj f x) (pred (name_of ns s) W.ty) ≡ true
  pub miss : (s : ℕ) (f : Core) (x : Field) → (s ≡ goal → same ≡ true → ⊥) → W.hit (dict_proj f x) (pred (name_of ns s) W.ty) ≡ false

-- What came of an entry can be followed: a frame to leave, or a step to take; where no step is left, none is.
abbrev pub Holds : Entered → ℕ → ℕ → Type 0
Holds Up d n = 0 < d
Holds Deep d n = Unit {0}
Holds Spent d n = n ≡ 0
Holds Hit d n = 0 < n
Holds Miss d n = 0 < n

-- From the words w₁, where r₁ had come of a given and n₁ steps were left, to w, where r came of an entry below d frames.
pub record Walking (ns cl w₁ : List ℕ) (top sp n₁ goal : ℕ) (same : Bool) (r₁ : Entered) (w : List ℕ) (n : ℕ) (r : Entered) (d : ℕ) : Type 0 where
  pub stands : Stands w₁ w top sp
  pub long : length w ≡ length w₁
  pub paid : n + d ≤ n₁
  pub holds : Holds r d n
  pub is : (W : Way) → Fine ns cl goal same W → pending ns cl W w₁ sp r₁ 0 n₁ ≡ pending ns cl W w sp r d n

-- The same between two entries: the first d frames are there.
pub record Going (ns cl w₁ : List ℕ) (top sp n₁ goal : ℕ) (same : Bool) (r₁ : Entered) (w : List ℕ) (n d : ℕ) : Type 0 where
  pub stands : Stands w₁ w top sp
  pub long : length w ≡ length w₁
  pub paid : n + d ≤ n₁
  pub is : (W : Way) → Fine ns cl goal same W → pending ns cl W w₁ sp r₁ 0 n₁ ≡ todo ns cl W w sp d n

-- An entry was told what can be followed.
holds_of : (w w' : List ℕ) (sp d n s goal : ℕ) (same barred : Bool) (r : Entered) → EntersAs w w' sp d n s goal same barred r → Holds r d n
holds_of w w' sp d n s goal same barred Up x = absurd x
holds_of w w' sp d n s goal same barred Deep x = tt
holds_of w w' sp d n s goal same barred Spent x = x.1.1
holds_of w w' sp d n s goal same barred Hit x = x.1.1.0
holds_of w w' sp d n s goal same barred Miss x = x.1.1.0

-- Table and stack stand over an entry, and so does the length.
pub enter_stands : (w w' : List ℕ) (top sp d n s goal : ℕ) (same barred : Bool) (r : Entered) → 4 * top + 8 * n + 8 * d ≤ sp → EntersAs w w' sp d n s goal same barred r
    → Stands w w' top sp × (length w' ≡ length w)
enter_stands w w' top sp d n s goal same barred Up room x = absurd x
enter_stands w w' top sp d n s goal same barred Deep room x = rw x.0 (stands_refl w top sp, refl)
enter_stands w w' top sp d n s goal same barred Spent room x = rw x.0 (stands_refl w top sp, refl)
enter_stands w w' top sp d n s goal same barred Hit room x = let h = x.1.1.0 in (framed_stands w sp d s x.0 (omega arith) top (omega arith), framed-length w sp d s x.0 (omega arith))
enter_stands w w' top sp d n s goal same barred Miss room x = let h = x.1.1.0 in (framed_stands w sp d s x.0 (omega arith) top (omega arith), framed-length w sp d s x.0 (omega arith))

-- It begins where the given was entered.
pub walking : {w w₁ : List ℕ} {sp n s goal : ℕ} {same barred : Bool} {r : Entered} (ns cl : List ℕ) (top : ℕ) → Enters w w₁ sp 0 n s goal same barred r → Walking ns cl w₁ top sp n goal same r w₁ n r 0
walking {w} {w₁} {sp} {n} {s} {goal} {same} {barred} {r} ns cl top E = record {
  stands = stands_refl _ _ _;
  long = refl;
  paid = omega arith;
  holds = holds_of w w₁ sp 0 n s goal same barred r E.says;
  is = λ W F. refl;
}

module _ {ns cl w₁ w : List ℕ} {top sp n₁ goal n d : ℕ} {same : Bool} {r₁ r : Entered} (K : Walking ns cl w₁ top sp n₁ goal same r₁ w n r d) where
  -- What can be followed, at what came.
  pub holds_at : {x : Entered} → r ≡ x → Holds x d n
  holds_at e = rw e at K.holds

  -- An entry that is not the goal has a frame now.
  pub on_miss : {n' d' : ℕ} → r ≡ Miss → n' ≡ n - 1 → d' ≡ d + 1 → Going ns cl w₁ top sp n₁ goal same r₁ w n' d'
  unfolding pending
  on_miss {n'} {d'} e p q =
      let h = holds_at e in
      let x = K.paid in
      record { stands = K.stands; long = K.long; paid = omega arith; is = λ W F. K.is W F ∙ rw (e, p, q) }

  -- A frame that has taken all is left.
  pub on_up : {n' d' : ℕ} → r ≡ Up → n' ≡ n → d' ≡ d - 1 → Going ns cl w₁ top sp n₁ goal same r₁ w n' d'
  unfolding pending
  on_up {n'} {d'} e p q =
      let h = holds_at e in
      let x = K.paid in
      record { stands = K.stands; long = K.long; paid = omega arith; is = λ W F. K.is W F ∙ rw (e, p, q) }

  -- Twice the steps left and the frames are fewer then.
  pub miss_less : {n' d' : ℕ} → r ≡ Miss → n' ≡ n - 1 → d' ≡ d + 1 → 2 * n' + d' < 2 * n + d
  miss_less e p q = let h = holds_at e in omega arith

  -- And here too.
  pub up_less : {n' d' : ℕ} → r ≡ Up → n' ≡ n → d' ≡ d - 1 → 2 * n' + d' < 2 * n + d
  up_less e p q = let h = holds_at e in omega arith

module _ {ns cl w₁ w w' : List ℕ} {top sp n₁ goal n d : ℕ} {same : Bool} {r₁ : Entered} (G : Going ns cl w₁ top sp n₁ goal same r₁ w n d) (room : 4 * top + 8 * n₁ ≤ sp) (fits : sp ≤ length w₁) where
  -- The next superclass of the last frame was entered.
  took : {r : Entered} (j : ℕ) → d ≡ suc j → Took cl w w' sp j n goal same r → Walking ns cl w₁ top sp n₁ goal same r₁ w' n r d
  took {r} j q T =
      let p = G.paid in
      let l = G.long in
      let y : 2 * suc j ≤ sp = omega arith in
      let m = took_length w sp j refl y in
      let X = enter_stands (taken w sp j) w' top sp (suc j) n T.s goal same false r (omega arith) T.entered in
      record {
        stands = stands_then G.stands (stands_then (took_stands w sp j refl y top (omega arith)) X.0 (omega arith)) (omega arith);
        long = X.1 ∙ m ∙ l;
        paid = p;
        holds = rw q (holds_of (taken w sp j) w' sp (suc j) n T.s goal same false r T.entered);
        is = λ W F. G.is W F ∙ rw q (goes_down ns cl W w sp j n T.s y (omega arith) T.next refl
            ∙ enters ns cl W (taken w sp j) w' sp (suc j) n T.s goal same false r (omega arith) (omega arith) F.supers
            (λ a b x. F.hit T.s _ _ a b) (λ a. F.miss T.s _ _ (λ b x. a b x refl)) T.entered);
      }

  -- What came of a turn is followed.
  pub turned : {r : Entered} → 0 < d → Turns cl w w' sp d n goal same r → Walking ns cl w₁ top sp n₁ goal same r₁ w' n r d
  unfolding pending
  turned {r} h T = go r (T.says (d - 1) e)
    where
      e : d ≡ suc (d - 1)
      e = omega arith

      go : (r : Entered) → TurnsAs cl w w' sp (d - 1) n goal same r → Walking ns cl w₁ top sp n₁ goal same r₁ w' n r d
      go Up x = rw x.0 (record {
        stands = G.stands;
        long = G.long;
        paid = G.paid;
        holds = h;
        is = λ W F. G.is W F ∙ ap (λ (m : ℕ). todo ns cl W w sp m n) e ∙ goes_up ns cl W w sp (d - 1) n x.1;
      })
      go Deep x = took (d - 1) e x
      go Spent x = took (d - 1) e x
      go Hit x = took (d - 1) e x
      go Miss x = took (d - 1) e x
