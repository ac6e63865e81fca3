-- What is left of a walk: the superclasses that no frame has taken, frame by frame, and then what follows the walk.
use mathlib.Core.Path.{◌≡◌, refl, ap, sym, ◌∙◌}
use mathlib.Core.Bool.{Bool, true, false}
use mathlib.Core.List.{List, map}
use mathlib.Core.Option.{Option, none, some}
use Prim.Native.Nat.{ℕ, zero, suc, ◌+◌, ◌*◌, ◌-◌, ◌<◌, ◌≤◌}
use native.Mathlib.Omega.{arith}
use native.Mathlib.Numerals.{sub-one, add-one}
use lib.ListN.{length}
use Rattle.meaning.specs.Base.{if}
use Rattle.meaning.specs.Ast.{super, Ty, Pred, pred, Core, dict_proj}
use Rattle.meaning.specs.Errors.{out_of_steps, too_deep}
use Rattle.meaning.specs.Budget.{Out, done, refused, Steps, after, step}
use Rattle.meaning.specs.Classes.{ClassEnv, class_of, supers_of, or_next, by_supers, by_super_in}
use Rattle.names.specs.Names.{name_of}
use Rattle.supers.specs.declared.path.Entered.{Entered}
use Rattle.supers.specs.declared.path.Entered.TheVariants.{Up, Deep, Spent, Hit, Miss}
use Rattle.supers.specs.ClassTable.{super_at, supers_from, Supers}
use Rattle.supers.specs.Frames.{class_in, taken_in, framed, taken, path_core, EntersAs}
use Rattle.supers.proofs.ClassLaws.{supers_next, supers_end}
use Rattle.supers.proofs.FrameLaws.{Alike, alike_less, class_alike, taken_alike, path_classes, framed_alike, framed_class, framed_none, took_alike, took_class, took_one}
use Rattle.std.specs.Prelude.{Some, None}

-- What a walk is about: the classes, the entries that are taken, the given's dictionary and type, and what follows.
pub record Way : Type 0 where
  pub env : ClassEnv
  pub hit : Core → Pred → Bool
  pub root : Core
  pub ty : Ty
  pub rest : Steps (Option Core)

-- What the first finds, or else the second.
unfoldable pub or_then : Steps (Option Core) → Steps (Option Core) → Steps (Option Core)
or_then m k = λ n. after (m n) (λ r. or_next r k)

-- The superclasses of frame j that were not taken.
unfoldable pub above : List ℕ → List ℕ → Way → List ℕ → ℕ → ℕ → Steps (Option Core)
above ns cl W w sp j =
    by_supers (λ e p. by_super_in (255 - j) W.env W.hit e p) (path_core ns w sp W.root j) (pred (name_of ns (class_in w sp j)) W.ty)
    (map (name_of ns) (supers_from cl (class_in w sp j) (taken_in w sp j)))

-- Those of the first d frames, from the last one on, and then what follows.
unfoldable pub todo : List ℕ → List ℕ → Way → List ℕ → ℕ → ℕ → Steps (Option Core)
todo ns cl W w sp zero = W.rest
todo ns cl W w sp (suc j) = or_then (above ns cl W w sp j) (todo ns cl W w sp j)

-- The dictionary of an entry of class s below d frames.
abbrev pub entry : List ℕ → Way → List ℕ → ℕ → ℕ → ℕ → Core
entry ns W w sp zero s = W.root
entry ns W w sp (suc j) s = dict_proj (path_core ns w sp W.root j) (super (name_of ns (class_in w sp j)) (name_of ns s))

-- The list of that entry, and then what is left.
unfoldable pub next : List ℕ → List ℕ → Way → List ℕ → ℕ → ℕ → ℕ → Steps (Option Core)
next ns cl W w sp d s = or_then (by_super_in (256 - d) W.env W.hit (entry ns W w sp d s) (pred (name_of ns s) W.ty)) (todo ns cl W w sp d)

-- What is left after an entry below d frames, of which r came, with n steps before it.
unfoldable pub pending : List ℕ → List ℕ → Way → List ℕ → ℕ → Entered → ℕ → ℕ → Out (Option Core)
pending ns cl W w sp Up d n = todo ns cl W w sp (d - 1) n
pending ns cl W w sp Deep d n = refused too_deep n
pending ns cl W w sp Spent d n = refused out_of_steps 0
pending ns cl W w sp Hit d n = done (some (path_core ns w sp W.root d)) (n - 1)
pending ns cl W w sp Miss d n = todo ns cl W w sp (d + 1) (n - 1)

-- Two alternatives one after the other.
or_assoc : (o : Out (Option Core)) (m k : Steps (Option Core)) → after (after o (λ r. or_next r m)) (λ r. or_next r k) ≡ after o (λ r. or_next r (or_then m k))
unfolding after or_next or_then
or_assoc (done none n) m k = refl
or_assoc (done (some e) n) m k = refl
or_assoc (refused x n) m k = refl

-- Frames that stand have the same left.
pub todo_alike : {w w' : List ℕ} (ns cl : List ℕ) (W : Way) (sp d : ℕ) → Alike w w' sp d → 2 * d ≤ sp → todo ns cl W w' sp d ≡ todo ns cl W w sp d
unfolding todo above
todo_alike ns cl W sp zero A room = refl
todo_alike {w} {w'} ns cl W sp (suc j) A room =
    rw (class_alike A room j (omega arith), taken_alike A room j (omega arith), path_classes w w' ns sp W.root j (λ k l. class_alike A room k (omega arith)), todo_alike ns cl W sp j (alike_less A (omega arith)) (omega arith))

module _ (ns cl : List ℕ) (W : Way) where
  -- A frame that has taken all is left.
  pub goes_up : (w : List ℕ) (sp j n : ℕ) → super_at cl (class_in w sp j) (taken_in w sp j) ≡ None → todo ns cl W w sp (suc j) n ≡ todo ns cl W w sp j n
  unfolding todo above or_then by_supers after or_next
  goes_up w sp j n e = rw (supers_end cl _ _ e)

  -- The next superclass of a frame is the next entry.
  pub goes_down : {w₁ : List ℕ} (w : List ℕ) (sp j n s : ℕ) → 2 * suc j ≤ sp → sp ≤ length w → super_at cl (class_in w sp j) (taken_in w sp j) ≡ Some s → w₁ ≡ taken w sp j
      → todo ns cl W w sp (suc j) n ≡ next ns cl W w₁ sp (suc j) s n
  unfolding todo above next by_supers or_then
  goes_down {w₁} w sp j n s room fits e t =
      let z : 256 - suc j ≡ 255 - j = omega arith in
      rw (
        z,
        path_classes w w₁ ns sp W.root j (took_class w sp j t room),
        took_class w sp j t room j (omega arith),
        took_one w sp j t room fits,
        todo_alike ns cl W sp j (took_alike w sp j t room) (omega arith),
        supers_next cl (class_in w sp j) (taken_in w sp j) e,
      ) (or_assoc _ _ _)

-- A step that can be taken.
step_open : {A : Type 0} (m : Steps A) (n : ℕ) → 0 < n → step m n ≡ m (n - 1)
unfolding step
step_open m zero h = absurd (omega arith)
step_open m (suc n) h = simp sub-one

module _ (ce : ClassEnv) (hit : Core → Pred → Bool) (k : ℕ) (e : Core) (p : Pred) (n : ℕ) where
  -- An entry that lies too deep.
  in_deep : k ≡ 0 → by_super_in k ce hit e p n ≡ refused too_deep n
  unfolding by_super_in
  in_deep z = rw z

  -- One with no step for it.
  in_spent : 0 < k → n ≡ 0 → by_super_in k ce hit e p n ≡ refused out_of_steps 0
  unfolding by_super_in step
  in_spent h z = let y : k ≡ suc (k - 1) = omega arith in rw (z, y)

module _ (ce : ClassEnv) (hit : Core → Pred → Bool) (k : ℕ) (e : Core) (p : Pred) (n : ℕ) (h : 0 < n) where
  -- An entry with a step for it.
  in_open : by_super_in (suc k) ce hit e p n ≡ if (hit e p) (λ m. done (some e) m) (by_supers (λ e₁ p₁. by_super_in k ce hit e₁ p₁) e p (supers_of (class_of ce p.class))) (n - 1)
  unfolding by_super_in
  in_open = step_open _ n h

  -- It is taken.
  in_hit : hit e p ≡ true → by_super_in (suc k) ce hit e p n ≡ done (some e) (n - 1)
  in_hit q = in_open ∙ rw q

  -- It is not.
  in_miss : hit e p ≡ false → by_super_in (suc k) ce hit e p n ≡ by_supers (λ e₁ p₁. by_super_in k ce hit e₁ p₁) e p (supers_of (class_of ce p.class)) (n - 1)
  in_miss q = in_open ∙ rw q

module _ {w' : List ℕ} (ns cl : List ℕ) (W : Way) (w : List ℕ) (sp d s : ℕ) (e : w' ≡ framed w sp d s) (room : 2 * suc d ≤ sp) (fits : sp ≤ length w) where
  -- The dictionary of a new frame is that of its entry.
  framed_path : path_core ns w' sp W.root d ≡ entry ns W w sp d s
  unfolding path_core
  framed_path = go d e room
    where
      go : (d : ℕ) → w' ≡ framed w sp d s → 2 * suc d ≤ sp → path_core ns w' sp W.root d ≡ entry ns W w sp d s
      go zero e room = refl
      go (suc j) e room =
          rw (
            path_classes w w' ns sp W.root j (λ k l. class_alike (framed_alike w sp (suc j) s e room) (omega arith) k (omega arith)),
            class_alike (framed_alike w sp (suc j) s e room) (omega arith) j (omega arith),
            framed_class w sp (suc j) s e room fits,
          )

  -- What is left where the new frame has taken nothing: the entries above it, then what was left.
  framed_todo : (n : ℕ) → Supers ns cl W.env
      → todo ns cl W w' sp (d + 1) n ≡ after (by_supers (λ e₁ p₁. by_super_in (255 - d) W.env W.hit e₁ p₁) (entry ns W w sp d s) (pred (name_of ns s) W.ty) (supers_of (class_of W.env (name_of ns s))) n) (λ r. or_next r (todo ns cl W w sp d))
  unfolding todo above or_then
  framed_todo n S = rw (add-one d, framed_path, framed_class w sp d s e room fits, framed_none w sp d s e room fits, todo_alike ns cl W sp d (framed_alike w sp d s e room) (omega arith), S.is s)

-- What comes of an entry is what its list gives, and then what is left.
pub enters : (ns cl : List ℕ) (W : Way) (w w' : List ℕ) (sp d n s goal : ℕ) (same barred : Bool) (r : Entered) → 8 * n + 2 * d ≤ sp → sp ≤ length w → Supers ns cl W.env
    → (s ≡ goal → same ≡ true → barred ≡ false → W.hit (entry ns W w sp d s) (pred (name_of ns s) W.ty) ≡ true)
    → ((s ≡ goal → same ≡ true → barred ≡ false → ⊥) → W.hit (entry ns W w sp d s) (pred (name_of ns s) W.ty) ≡ false)
    → EntersAs w w' sp d n s goal same barred r → next ns cl W w sp d s n ≡ pending ns cl W w' sp r d n
unfolding next pending or_then after or_next
enters ns cl W w w' sp d n s goal same barred Up room fits S y m x = absurd x
enters ns cl W w w' sp d n s goal same barred Deep room fits S y m x = ap (λ (o : Out (Option Core)). after o (λ r. or_next r (todo ns cl W w sp d))) (in_deep W.env W.hit (256 - d) (entry ns W w sp d s) (pred (name_of ns s) W.ty) n (let h = x.1 in omega arith))
enters ns cl W w w' sp d n s goal same barred Spent room fits S y m x = ap (λ (o : Out (Option Core)). after o (λ r. or_next r (todo ns cl W w sp d))) (in_spent W.env W.hit (256 - d) (entry ns W w sp d s) (pred (name_of ns s) W.ty) n (let h = x.1.0 in omega arith) x.1.1)
enters ns cl W w w' sp d n s goal same barred Hit room fits S y m x =
    let z : 256 - d ≡ suc (255 - d) = (let h = x.1.0 in omega arith) in
    let l = x.1.1.0 in
    rw (
      z,
      in_hit W.env W.hit (255 - d) (entry ns W w sp d s) (pred (name_of ns s) W.ty) n l (y x.1.1.1.0 x.1.1.1.1.0 x.1.1.1.1.1),
      framed_path ns cl W w sp d s x.0 (omega arith) fits,
    )
enters ns cl W w w' sp d n s goal same barred Miss room fits S y m x =
    let z : 256 - d ≡ suc (255 - d) = (let h = x.1.0 in omega arith) in
    let l = x.1.1.0 in
    rw (z, in_miss W.env W.hit (255 - d) (entry ns W w sp d s) (pred (name_of ns s) W.ty) n l (m x.1.1.1))
    (sym (framed_todo ns cl W w sp d s x.0 (omega arith) fits (n - 1) S))
