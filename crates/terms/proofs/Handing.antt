-- Laws of answers for each x of which something holds, each for one way out of a function.
use mathlib.Core.Path.{◌≡◌, refl, ap, sym, ◌∙◌}
use mathlib.Core.List.{List, []}
use Prim.Native.Nat.{ℕ, ◌+◌, ◌*◌, ◌^◌, ◌<◌, ◌≤◌}
use native.Mathlib.Omega.{arith}
use lib.ListN.{length}
use Rattle.meaning.specs.Budget.{Out, Steps, done, refused, after}
use Rattle.names.specs.Names.{first_node}
use Rattle.ast.specs.Table.{Node}
use Rattle.ast.proofs.NewNode.{Pushed}
use Rattle.errors.specs.declared.Refusal.{Refusal}
use Rattle.errors.specs.Refusals.{refusal_of, InTable}
use Rattle.pairs.specs.Pairs.{Stands}
use Rattle.pairs.proofs.Frames.{stands_refl, stands_then, stands_up}
use Rattle.apply.specs.Applied.{Applied}
use Rattle.apply.specs.Applied.{Done, Refused}
use Rattle.apply.proofs.Hand.{refuse_on, refuse_same, refuse_here}
use Rattle.apply.proofs.Ways.{Room}
use Rattle.terms.specs.Answers.{MakesFor, AnswerFor, GivesFor}

-- o goes on after o₁ by k, for each x of which `Of` holds.
pub record Thens {E A B : Type 0} (Of : E → Type 0) (o : E → Out B) (o₁ : E → Out A) (k : E → A → Steps B) : Type 0 where
  pub at : (x : E) → Of x → o x ≡ after (o₁ x) (k x)

-- Two outcomes are the same for each x of which `Of` holds.
pub record Sames {E A : Type 0} (Of : E → Type 0) (o o' : E → Out A) : Type 0 where
  pub at : (x : E) → Of x → o x ≡ o' x

-- An answer for a caller that began with no larger table, no fewer steps and no tighter bound.
regive : {E A : Type 0} {Of : E → Type 0} {nm : E → List ℕ} {read : List ℕ → List ℕ → ℕ → A} {w₀ w w' : List ℕ} {o o' : E → Out A} {top left t l s hi s' hi' : ℕ} (r : Applied)
    → GivesFor Of nm read s hi w w' t l o' r → Stands w₀ w' top hi' → Sames Of o o' → top ≤ t → l ≤ left → hi + s' ≤ hi' + s → GivesFor Of nm read s' hi' w₀ w' top left o r
regive (Done m t₁ l₁) G F e more down less =
    let a = G.answer in let x = a.more in let y = a.spent in let z = a.down in
    record { stands = F; answer = record { node = a.node; more = omega arith; spent = omega arith; down = omega arith; is = λ x h. e.at x h ∙ a.is x h } }
regive (Refused q t₁ l₁) G F e more down less = record { stands = F; answer = λ x h. refuse_same (e.at x h) (G.answer x h) more down }

-- The same over the same words.
pub onward : {E A : Type 0} {Of : E → Type 0} {nm : E → List ℕ} {read : List ℕ → List ℕ → ℕ → A} {s hi s' hi' : ℕ} {w w' : List ℕ} {top left l : ℕ} {o o' : E → Out A} {r : Applied}
    → GivesFor Of nm read s hi w w' top l o' r → Sames Of o o' → l ≤ left → hi ≤ hi' → hi + s' ≤ hi' + s → GivesFor Of nm read s' hi' w w' top left o r
onward {r = r} G e down up less = regive r G (stands_up G.stands up) e (omega arith) down less

-- Where there is no more to say of the outcome.
pub same_out : {E A : Type 0} (Of : E → Type 0) (o : E → Out A) → Sames Of o o
same_out Of o = record { at = λ x h. refl }

module _ {E A : Type 0} {Of : E → Type 0} {nm : E → List ℕ} {read : List ℕ → List ℕ → ℕ → A} {s hi : ℕ} {w w₁ : List ℕ} {top left : ℕ} {o₁ : E → Out A} {r₁ : Applied}
    (G : GivesFor Of nm read s hi w w₁ top left o₁ r₁) where
  -- The answer, where there is one.
  pub made : {m t j : ℕ} → r₁ ≡ Done m t j → MakesFor Of nm read s hi w₁ top left o₁ m t j
  made k = rw k at G.answer

  -- A refusal goes through.
  pub fails : {B : Type 0} {read' : List ℕ → List ℕ → ℕ → B} {s' t j : ℕ} {q : Refusal} {o : E → Out B} {k : E → A → Steps B}
      → Thens Of o o₁ k → r₁ ≡ Refused q t j → GivesFor Of nm read' s' hi w w₁ top left o (Refused q t j)
  fails T h =
      let a : AnswerFor Of nm read s hi w₁ top left o₁ (Refused _ _ _) = rw h at G.answer in
      record { stands = G.stands; answer = λ x p. refuse_on (record { is = T.at x p }) (a x p) (omega arith) (omega arith) }

  -- An answer is handed on to what gives the rest.
  pub goes : {B : Type 0} {read' : List ℕ → List ℕ → ℕ → B} {s' m t j : ℕ} {w₂ : List ℕ} {o : E → Out B} {k : E → A → Steps B} {r : Applied}
      → Thens Of o o₁ k → r₁ ≡ Done m t j → GivesFor Of nm read' s' hi w₁ w₂ t j (λ x. k x (read (nm x) w₁ m) j) r → GivesFor Of nm read' s' hi w w₂ top left o r
  unfolding after
  goes {r = r} T h H =
      let g = made h in
      regive r H (stands_then G.stands H.stands g.more) (record { at = λ x p. T.at x p ∙ rw (g.is x p) }) g.more g.down (omega arith)

-- Nothing was written.
pub stays : {E A : Type 0} {Of : E → Type 0} {nm : E → List ℕ} {read : List ℕ → List ℕ → ℕ → A} {s hi : ℕ} {w : List ℕ} {top left l m : ℕ} {o : E → Out A}
    → ((x : E) → Of x → o x ≡ done (read (nm x) w m) l) → Node w top m → l ≤ left → 4 * top + 8 * l + s ≤ hi → GivesFor Of nm read s hi w w top left o (Done m top l)
stays e N h b = record { stands = stands_refl _ _ _; answer = record { node = N; more = omega arith; spent = b; down = h; is = e } }

-- Nothing was written, and it is refused.
pub refuses : {E A : Type 0} {Of : E → Type 0} {nm : E → List ℕ} {read : List ℕ → List ℕ → ℕ → A} {s hi : ℕ} {w : List ℕ} {top left l : ℕ} {q : Refusal} {o : E → Out A}
    → ((x : E) → Of x → o x ≡ refused (refusal_of (nm x) w q) l) → InTable w top q → l ≤ left → GivesFor Of nm read s hi w w top left o (Refused q top l)
refuses e t h = record { stands = stands_refl _ _ _; answer = λ x p. refuse_here (e x p) t h }

-- A node was added, which stands for u under any names.
pub adds : {E A : Type 0} {Of : E → Type 0} {nm : E → List ℕ} {read : List ℕ → List ℕ → ℕ → A} {s hi : ℕ} {w w' : List ℕ} {top left : ℕ} {o : E → Out A} (u : List ℕ → A)
    → ((ns : List ℕ) → Pushed (read ns w') w w' top (u ns)) → Stands w w' top hi → ((x : E) → Of x → o x ≡ done (u (nm x)) left) → 4 * top + 4 + 8 * left + s ≤ hi
    → GivesFor Of nm read s hi w w' top left o (Done (first_node + top) (top + 1) left)
adds {nm = nm} {left = left} u P F e b = record {
  stands = F;
  answer = record {
    node = (P []).node;
    more = omega arith;
    spent = omega arith;
    down = omega arith;
    is = λ x h. e x h ∙ ap (λ v. done v left) (sym (P (nm x)).is);
  };
}

-- ## A node made of one part, and of two

module _ {E A : Type 0} {Of : E → Type 0} {nm : E → List ℕ} {read : List ℕ → List ℕ → ℕ → A} {w w₁ : List ℕ} {top left : ℕ} {o₁ : E → Out A} {r₁ : Applied}
    (G : GivesFor Of nm read 4 (4 * top + 8 * left) w w₁ top left o₁ r₁) {m t₁ l₁ : ℕ} (h : r₁ ≡ Done m t₁ l₁) where
  -- There is room for the new node.
  pub one_room : 4 * top + 8 * left ≤ length w → length w₁ ≡ length w → length w < 2 ^ 65 → Room w₁ top t₁
  one_room o len big = let g = made G h in let s = g.spent in record { more = g.more; room = omega arith; small = omega arith }

  -- The node is the answer.
  pub one_done : {B : Type 0} {read' : List ℕ → List ℕ → ℕ → B} {o : E → Out B} {w₂ : List ℕ} {k : E → A → Steps B} (u : List ℕ → B) → Thens Of o o₁ k → ((ns : List ℕ) → Pushed (read' ns w₂) w₁ w₂ t₁ (u ns)) → Stands w₁ w₂ t₁ (4 * t₁ + 4)
      → ((x : E) → Of x → k x (read (nm x) w₁ m) l₁ ≡ done (u (nm x)) l₁) → GivesFor Of nm read' 0 (4 * top + 8 * left) w w₂ top left o (Done (first_node + t₁) (t₁ + 1) l₁)
  one_done u T P F e = let g = made G h in let s = g.spent in goes G T h (adds u P (stands_up F (omega arith)) e (omega arith))

module _ {E A B : Type 0} {Of : E → Type 0} {nm : E → List ℕ} {read : List ℕ → List ℕ → ℕ → A} {read₂ : List ℕ → List ℕ → ℕ → B} {w w₁ w₂ : List ℕ} {top left : ℕ}
    {o₁ : E → Out A} {o₂ : E → Out B} {r₁ r₂ : Applied}
    {s₁ : ℕ} (G : GivesFor Of nm read s₁ (4 * top + 8 * left) w w₁ top left o₁ r₁) {m t₁ l₁ : ℕ} (h : r₁ ≡ Done m t₁ l₁)
    {s₂ : ℕ} (H : GivesFor Of nm read₂ s₂ (4 * t₁ + 8 * l₁) w₁ w₂ t₁ l₁ o₂ r₂) where
  -- The second part is refused.
  pub two_refused : {C : Type 0} {read' : List ℕ → List ℕ → ℕ → C} {o : E → Out C} {k : E → A → Steps C} {k₂ : E → B → Steps C} {q : Refusal} {t₂ l₂ : ℕ} → Thens Of o o₁ k → Thens Of (λ x. k x (read (nm x) w₁ m) l₁) o₂ k₂
      → r₂ ≡ Refused q t₂ l₂ → GivesFor Of nm read' 0 (4 * top + 8 * left) w w₂ top left o (Refused q t₂ l₂)
  two_refused T U i = let g = made G h in let s = g.spent in goes G T h (fails (onward {s' = 0} H (same_out Of o₂) (omega arith) (omega arith) (omega arith)) U i)

  module _ {m₂ t₂ l₂ : ℕ} (i : r₂ ≡ Done m₂ t₂ l₂) (four : 4 ≤ s₁ + s₂) where
    -- There is room for the new node.
    pub two_room : 4 * top + 8 * left ≤ length w → length w₂ ≡ length w → length w < 2 ^ 65 → Room w₂ top t₂
    two_room o len big =
        let g = made G h in let s = g.spent in let n = g.more in let g₂ = made H i in let z = g₂.spent in let n₂ = g₂.more in
        record { more = omega arith; room = omega arith; small = omega arith }

    -- The node is the answer.
    pub two_done : {C : Type 0} {read' : List ℕ → List ℕ → ℕ → C} {o : E → Out C} {w₃ : List ℕ} {k : E → A → Steps C} {k₂ : E → B → Steps C} (u : List ℕ → C) → Thens Of o o₁ k → Thens Of (λ x. k x (read (nm x) w₁ m) l₁) o₂ k₂
        → ((ns : List ℕ) → Pushed (read' ns w₃) w₂ w₃ t₂ (u ns)) → Stands w₂ w₃ t₂ (4 * t₂ + 4) → ((x : E) → Of x → k₂ x (read₂ (nm x) w₂ m₂) l₂ ≡ done (u (nm x)) l₂)
        → GivesFor Of nm read' 0 (4 * top + 8 * left) w w₃ top left o (Done (first_node + t₂) (t₂ + 1) l₂)
    two_done u T U P F e =
        let g = made G h in let s = g.spent in let g₂ = made H i in let z = g₂.spent in
        goes G T h (goes (onward {s' = 0} H (same_out Of o₂) (omega arith) (omega arith) (omega arith)) U i (adds u P (stands_up F (omega arith)) e (omega arith)))
