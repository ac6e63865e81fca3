-- Laws of answers that may refuse, each for one way out of a function: these and `Refuses` go from call to caller.
use mathlib.Core.Path.{◌≡◌, refl, ap, sym, ◌∙◌}
use mathlib.Core.List.{List}
use Prim.Native.Nat.{ℕ, ◌+◌, ◌*◌, ◌≤◌}
use native.Mathlib.Omega.{arith}
use Rattle.meaning.specs.Budget.{Out, Steps, done, refused, after}
use Rattle.names.specs.Names.{first_node}
use Rattle.ast.specs.Table.{Node}
use Rattle.ast.proofs.NewNode.{Pushed}
use Rattle.errors.specs.declared.Refusal.{Refusal}
use Rattle.errors.specs.Refusals.{refusal_of, InTable, Refuses}
use Rattle.pairs.specs.Pairs.{Stands}
use Rattle.pairs.proofs.Frames.{stands_refl, stands_then, stands_up}
use Rattle.apply.specs.Region.{Grown, Answer, Gives}
use Rattle.apply.specs.Applied.{Applied}
use Rattle.apply.specs.Applied.{Done, Refused}

-- ## Refusals, of whatever outcome

-- o goes on after o₁ by k. A record, so that o, o₁ and k are found from it.
pub record Then {A B : Type 0} (o : Out B) (o₁ : Out A) (k : A → Steps B) : Type 0 where
  pub is : o ≡ after o₁ k

-- What goes on after an outcome goes on after the same outcome, said otherwise.
pub same_then : {A B : Type 0} {o₁ o₂ : Out A} (k : A → Steps B) → o₁ ≡ o₂ → Then (after o₁ k) o₂ k
same_then k e = record { is = rw e }

-- And what is the same as that.
pub is_then : {A B : Type 0} {o o' : Out B} {o₁ : Out A} {k : A → Steps B} → o ≡ o' → Then o' o₁ k → Then o o₁ k
is_then e T = record { is = e ∙ T.is }

-- After a refusal comes that refusal.
pub then_refused : {A B : Type 0} {ns w' : List ℕ} {top left top' left' : ℕ} {e : Refusal} {o : Out B} {o₁ : Out A} {k : A → Steps B}
    → Then o o₁ k → Refuses ns w' top left o₁ e top' left' → o ≡ refused (refusal_of ns w' e) left'
unfolding after
then_refused T R = T.is ∙ rw R.is

-- After an answer comes what follows it.
pub then_done : {A B : Type 0} {o : Out B} {o₁ : Out A} {k : A → Steps B} (a : A) (l : ℕ) → Then o o₁ k → o₁ ≡ done a l → o ≡ k a l
unfolding after
then_done a l T e = T.is ∙ rw e

-- A refusal is handed on: the caller began with no larger table and no fewer steps.
pub refuse_on : {A B : Type 0} {ns w' : List ℕ} {top left top₁ left₁ top' left' : ℕ} {e : Refusal} {o : Out B} {o₁ : Out A} {k : A → Steps B}
    → Then o o₁ k → Refuses ns w' top₁ left₁ o₁ e top' left' → top ≤ top₁ → left₁ ≤ left → Refuses ns w' top left o e top' left'
refuse_on T R h l = let x = R.more in let y = R.down in
    record { is = then_refused T R; types = R.types; more = omega arith; down = omega arith }

-- The same where the caller's outcome is the call's.
pub refuse_same : {B : Type 0} {ns w' : List ℕ} {top left top₁ left₁ top' left' : ℕ} {e : Refusal} {o o₁ : Out B}
    → o ≡ o₁ → Refuses ns w' top₁ left₁ o₁ e top' left' → top ≤ top₁ → left₁ ≤ left → Refuses ns w' top left o e top' left'
refuse_same k R h l = let x = R.more in let y = R.down in
    record { is = k ∙ R.is; types = R.types; more = omega arith; down = omega arith }

-- A refusal of one's own, with the table as it is.
pub refuse_here : {B : Type 0} {ns w : List ℕ} {top left left' : ℕ} {e : Refusal} {o : Out B}
    → o ≡ refused (refusal_of ns w e) left' → InTable w top e → left' ≤ left → Refuses ns w top left o e top left'
refuse_here k t l = record { is = k; types = t; more = omega arith; down = l }

-- ## Answers of `apply` and `args`, with any words from hi on that stand

-- As `Gives`, in a frame that ends at hi.
pub record Within {A : Type 0} (read : ℕ → A) (b hi : ℕ) (ns w w' : List ℕ) (top left : ℕ) (o : Out A) (r : Applied) : Type 0 where
  pub stands : Stands w w' top hi
  pub answer : Answer read b ns w' top left o r

-- An answer for a caller that began with no larger table, no fewer steps and no tighter bound.
answer_on : {B : Type 0} (read : ℕ → B) (ns w : List ℕ) (o o' : Out B) (top left t l b₂ b' : ℕ) (r : Applied)
    → o ≡ o' → top ≤ t → l ≤ left → b₂ ≤ b' → Answer read b₂ ns w t l o' r → Answer read b' ns w top left o r
answer_on read ns w o o' top left t l b₂ b' (Done n t' l') e more down less a =
    let x = a.1.more in let y = a.1.spent in let z = a.1.down in
    (e ∙ a.0, record { node = a.1.node; more = omega arith; spent = omega arith; down = omega arith })
answer_on read ns w o o' top left t l b₂ b' (Refused u t' l') e more down less a = refuse_same e a more down

-- What was given with fewer steps is within any higher frame.
pub within : {A : Type 0} {read : ℕ → A} {b : ℕ} {ns w w' : List ℕ} {top l : ℕ} {o : Out A} {r : Applied} (left hi : ℕ)
    → Gives read b ns w w' top l o r → l ≤ left → 4 * top + 8 * l ≤ hi → Within read b hi ns w w' top left o r
within {read = read} {b = b} {top = top} {l = l} {o = o} {r = r} left hi G h u =
    record { stands = stands_up G.stands u; answer = answer_on read _ _ o o top left top l b b r refl (omega arith) h (omega arith) G.answer }

-- And what is within the frame of the own steps is given.
pub gives : {A : Type 0} {read : ℕ → A} {b : ℕ} {ns w w' : List ℕ} {top left : ℕ} {o : Out A} {r : Applied}
    → Within read b (4 * top + 8 * left) ns w w' top left o r → Gives read b ns w w' top left o r
gives G = record { stands = G.stands; answer = G.answer }

-- What a call gave, by its answer.
module _ {A : Type 0} {read : ℕ → A} {b : ℕ} {ns w w₁ : List ℕ} {top left : ℕ} {o₁ : Out A} {r₁ : Applied} (G : Gives read b ns w w₁ top left o₁ r₁) where
  -- The answer, where there is one.
  pub gave : {m t j : ℕ} → r₁ ≡ Done m t j → (o₁ ≡ done (read m) j) × Grown b w₁ top left t j m
  gave k = rw k at G.answer

  -- The refusal.
  pub failed : {e : Refusal} {t j : ℕ} → r₁ ≡ Refused e t j → Refuses ns w₁ top left o₁ e t j
  failed k = rw k at G.answer

-- What a caller gives after a call.
module _ {A : Type 0} {read : ℕ → A} {b hi : ℕ} {ns w w₁ : List ℕ} {top left : ℕ} {o₁ : Out A} {r₁ : Applied} (G : Within read b hi ns w w₁ top left o₁ r₁) where
  -- A refusal goes through.
  pub fails : {B : Type 0} {read' : ℕ → B} {b' t j : ℕ} {e : Refusal} {o : Out B} {k : A → Steps B}
      → Then o o₁ k → r₁ ≡ Refused e t j → Within read' b' hi ns w w₁ top left o (Refused e t j)
  fails T h = record { stands = G.stands; answer = refuse_on T (rw h at G.answer) (omega arith) (omega arith) }

  -- An answer is handed on to what gives the rest.
  pub goes : {B : Type 0} {read' : ℕ → B} {b₂ b' m t j : ℕ} {w₂ : List ℕ} {o : Out B} {k : A → Steps B} {r : Applied}
      → Then o o₁ k → r₁ ≡ Done m t j → Within read' b₂ hi ns w₁ w₂ t j (k (read m) j) r → b₂ ≤ b' → Within read' b' hi ns w w₂ top left o r
  goes {read' = read'} {b₂ = b₂} {b' = b'} {m = m} {t = t} {j = j} {o = o} {k = k} {r = r} T h H less =
      let g : (o₁ ≡ done (read m) j) × Grown b w₁ top left t j m = rw h at G.answer in
      record {
        stands = stands_then G.stands H.stands g.1.more;
        answer = answer_on read' _ _ o (k (read m) j) top left t j b₂ b' r (then_done (read m) j T g.0) g.1.more g.1.down less H.answer;
      }

-- Nothing was written.
pub stays : {A : Type 0} {read : ℕ → A} {b hi : ℕ} {ns w : List ℕ} {top left l n : ℕ} {o : Out A}
    → o ≡ done (read n) l → Node w top n → l ≤ left → 4 * top + 8 * l ≤ b → Within read b hi ns w w top left o (Done n top l)
stays e N h s = record { stands = stands_refl _ _ _; answer = (e, record { node = N; more = omega arith; spent = s; down = h }) }

-- Nothing was written, and it is refused.
pub refuses : {A : Type 0} {read : ℕ → A} {b hi : ℕ} {ns w : List ℕ} {top left l : ℕ} {e : Refusal} {o : Out A}
    → o ≡ refused (refusal_of ns w e) l → InTable w top e → l ≤ left → Within read b hi ns w w top left o (Refused e top l)
refuses k t h = record { stands = stands_refl _ _ _; answer = refuse_here k t h }

-- A node was added.
pub adds : {A : Type 0} {read : ℕ → A} {hi : ℕ} {ns w w' : List ℕ} {top left : ℕ} {t u : A}
    → Pushed read w w' top t → Stands w w' top hi → t ≡ u → Within read (4 * top + 4 + 8 * left) hi ns w w' top left (done u left) (Done (first_node + top) (top + 1) left)
adds {left = left} P F e =
    record { stands = F; answer = (ap (λ a. done a left) (sym (P.is ∙ e)), record { node = P.node; more = omega arith; spent = omega arith; down = omega arith }) }
