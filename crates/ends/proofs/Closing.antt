-- The ways out of `close` and `app_end`, from what the calls gave.
use mathlib.Core.Path.{◌≡◌, refl, ◌∙◌}
use mathlib.Core.List.{List}
use Prim.Native.Nat.{ℕ, zero, suc, ◌+◌, ◌*◌, ◌-◌, ◌≤◌}
use native.Mathlib.Omega.{arith}
use native.Mathlib.Numerals.{sub-one}
use lib.ListN.{length}
use Rattle.meaning.specs.Ast.{TyVar, Ty, var}
use Rattle.meaning.specs.Errors.{out_of_steps}
use Rattle.meaning.specs.Budget.{Out, done, refused, after, step}
use Rattle.meaning.specs.Subst.{Subst, look, apply_node, apply_in}
use Rattle.names.specs.Names.{tyvar_of}
use Rattle.ast.specs.Table.{tree, Node}
use Rattle.ast.proofs.Laws.{kept_tree, node_more}
use Rattle.errors.specs.declared.Refusal.{Refusal}
use Rattle.errors.specs.declared.Refusal.TheVariants.{Steps}
use Rattle.pairs.specs.Pairs.{sub_at}
use Rattle.pairs.proofs.Frames.{stands_then, stands_up, sub-later, sub_stands}
use Rattle.apply.specs.Applied.{Applied}
use Rattle.apply.specs.Applied.{Done as A-Done, Refused as A-Refused}
use Rattle.apply.proofs.Hand.{Then, then_done, refuse_on}
use Rattle.compose.specs.Answers.{GivesU}
use Rattle.compose.proofs.Hand.{after-after, got, lost}
use Rattle.ends.specs.Ends.{met, gathered, closed, joined, ReadyMeet, Seen, ReadyGather, ReadyApp, AnswerJoin, GivesJoin}
use Rattle.ends.specs.Joined.{Joined}
use Rattle.ends.specs.Joined.{Done, Refused}

-- A variable takes a step.
variable_is : (s : Subst) (x : TyVar) (l : ℕ) → (l ≡ 0 → ⊥) → apply_in 256 s (var x) l ≡ done (look s x) (l - 1)
unfolding apply_in apply_node step
variable_is s x zero h = absurd (h refl)
variable_is s x (suc l) h = simp sub-one

-- Without one it is refused.
variable_spent : (s : Subst) (x : TyVar) (l : ℕ) → l ≡ 0 → apply_in 256 s (var x) l ≡ refused out_of_steps 0
unfolding apply_in step
variable_spent s x l e = rw e

-- All three are made one first.
closed_way : (s₃ s₂ s₁ : Subst) (a : TyVar) (n : ℕ) → Then (closed s₃ s₂ s₁ a n) (gathered s₃ s₂ s₁ n) (λ s m. after (apply_in 256 s₃ (var a) m) (λ u j. done (s, u) j))
unfolding closed
closed_way s₃ s₂ s₁ a n = record { is = refl }

module _ {ns w : List ℕ} {top left sp k₃ k₂ k₁ a m : ℕ} (R : ReadyGather ns w top left sp k₃ k₂ k₁) (S : Seen w (sp - 2 * k₁ - 2 * k₂ - 2 * k₃) k₃ a m)
    {w₁ : List ℕ} {r : Applied} (G : GivesU 0 (2 * k₃ + 2 * k₂ + 2 * k₁) ns w w₁ top left sp
    (gathered (sub_at ns w (sp - 2 * k₁ - 2 * k₂ - 2 * k₃) k₃) (sub_at ns w (sp - 2 * k₁ - 2 * k₂) k₂) (sub_at ns w (sp - 2 * k₁) k₁) left) r) where
  -- The outcome.
  abbrev whole : Out (Subst × Ty)
  whole = closed (sub_at ns w (sp - 2 * k₁ - 2 * k₂ - 2 * k₃) k₃) (sub_at ns w (sp - 2 * k₁ - 2 * k₂) k₂) (sub_at ns w (sp - 2 * k₁) k₁) (tyvar_of ns a) left

  -- It goes on after the three are one.
  way : Then whole (gathered (sub_at ns w (sp - 2 * k₁ - 2 * k₂ - 2 * k₃) k₃) (sub_at ns w (sp - 2 * k₁ - 2 * k₂) k₂) (sub_at ns w (sp - 2 * k₁) k₁) left)
      (λ s n. after (apply_in 256 (sub_at ns w (sp - 2 * k₁ - 2 * k₂ - 2 * k₃) k₃) (var (tyvar_of ns a)) n) (λ u j. done (s, u) j))
  way = closed_way (sub_at ns w (sp - 2 * k₁ - 2 * k₂ - 2 * k₃) k₃) (sub_at ns w (sp - 2 * k₁ - 2 * k₂) k₂) (sub_at ns w (sp - 2 * k₁) k₁) (tyvar_of ns a) left

  -- Making them one was refused.
  pub close_refused : {e : Refusal} {t l : ℕ} → r ≡ A-Refused e t l → GivesJoin 8 1 (2 * k₃ + 2 * k₂ + 2 * k₁) ns w w₁ top left sp whole (Refused e t l)
  close_refused h = record { stands = G.stands; answer = refuse_on way (lost G h) (omega arith) (omega arith) }

  module _ {k t l : ℕ} (h : r ≡ A-Done k t l) where
    -- No step is left for the variable.
    pub close_spent : l ≡ 0 → GivesJoin 8 1 (2 * k₃ + 2 * k₂ + 2 * k₁) ns w w₁ top left sp whole (Refused Steps t 0)
    unfolding after
    close_spent z = record {
      stands = G.stands;
      answer = record { is = then_done _ l way (got G h).0 ∙ rw (variable_spent _ (tyvar_of ns a) l z); types = tt; more = (got G h).1.more; down = omega arith };
    }

    -- The type that the lowest region has for it.
    pub close_done : (l ≡ 0 → ⊥) → GivesJoin 8 1 (2 * k₃ + 2 * k₂ + 2 * k₁) ns w w₁ top left sp whole (Done m k t (l - 1))
    unfolding after
    close_done z =
        let g = (got G h).1 in let s = g.spent in let d = g.down in
        let N : Node w top m = record { table = R.table; below = S.below top R.last } in
        record {
          stands = G.stands;
          answer = (
            then_done _ l way (got G h).0 ∙ rw (variable_is _ (tyvar_of ns a) l z, S.is ns R.names, kept_tree ns G.stands.low N),
            record { node = node_more g.table g.more N; sub = g.sub; sorted = g.sorted; more = g.more; spent = omega arith; down = omega arith },
          );
        }

-- ## app_end

-- The unification first, then the three substitutions.
joined_way : (s₁ : Subst) (f : Ty) (s₂ : Subst) (x : Ty) (a : TyVar) (n : ℕ) → Then (joined s₁ f s₂ x a n) (met s₂ f x a n) (λ s₃ m. closed s₃ s₂ s₁ a m)
unfolding joined met closed gathered
joined_way s₁ f s₂ x a n = record { is = simp after-after }

-- An answer for a caller who had more words and steps.
answer_on : (ns w : List ℕ) (top left t l sp x x₂ : ℕ) (o o' : Out (Subst × Ty)) (r : Joined) → o ≡ o' → top ≤ t → 4 * t + 8 * l + x₂ + 6 ≤ 4 * top + 8 * left + x → l + 1 ≤ left
    → AnswerJoin 8 1 x₂ ns w t l sp o' r → AnswerJoin 14 2 x ns w top left sp o r
answer_on ns w top left t l sp x x₂ o o' (Done u k t' l') e more less fewer a =
    let p = a.1.more in let q = a.1.spent in let d = a.1.down in
    (e ∙ a.0, record { node = a.1.node; sub = a.1.sub; sorted = a.1.sorted; more = omega arith; spent = omega arith; down = omega arith })
answer_on ns w top left t l sp x x₂ o o' (Refused u t' l') e more less fewer a =
    let p = a.more in let d = a.down in
    record { is = e ∙ a.is; types = a.types; more = omega arith; down = omega arith }

module _ {ns w : List ℕ} {top left sp k₁ k₂ a tf tx : ℕ} (R : ReadyApp ns w top left sp k₁ k₂ a tf tx) where
  -- What `meet` asks.
  pub app_meet : ReadyMeet ns w top left (sp - 2 * k₁ - 2 * k₂) k₂ a tf tx
  app_meet = let z = R.room in record { names = R.names; variable = R.variable; function = R.function; argument = R.argument; sub = R.self; room = omega arith }

  -- The outcome.
  abbrev all : Out (Subst × Ty)
  all = joined (sub_at ns w (sp - 2 * k₁) k₁) (tree ns w tf) (sub_at ns w (sp - 2 * k₁ - 2 * k₂) k₂) (tree ns w tx) (tyvar_of ns a) left

  module _ {w₁ : List ℕ} {r : Applied} (M : GivesU 1 0 ns w w₁ top left (sp - 2 * k₁ - 2 * k₂) (met (sub_at ns w (sp - 2 * k₁ - 2 * k₂) k₂) (tree ns w tf) (tree ns w tx) (tyvar_of ns a) left) r) where
    -- It goes on after the unification.
    onward : Then all (met (sub_at ns w (sp - 2 * k₁ - 2 * k₂) k₂) (tree ns w tf) (tree ns w tx) (tyvar_of ns a) left)
        (λ s₃ n. closed s₃ (sub_at ns w (sp - 2 * k₁ - 2 * k₂) k₂) (sub_at ns w (sp - 2 * k₁) k₁) (tyvar_of ns a) n)
    onward = joined_way (sub_at ns w (sp - 2 * k₁) k₁) (tree ns w tf) (sub_at ns w (sp - 2 * k₁ - 2 * k₂) k₂) (tree ns w tx) (tyvar_of ns a) left

    -- The unification refused.
    pub app_refused : {e : Refusal} {t l : ℕ} → r ≡ A-Refused e t l → GivesJoin 14 2 (2 * k₁ + 2 * k₂) ns w w₁ top left sp all (Refused e t l)
    app_refused h = record { stands = stands_up M.stands (omega arith); answer = refuse_on onward (lost M h) (omega arith) (omega arith) }

    module _ {k₃ t l : ℕ} (h : r ≡ A-Done k₃ t l) where
      -- The table did not shrink.
      pub app_more : top ≤ t
      app_more = (got M h).1.more

      -- The three regions as they are asked for.
      pub app_close : length w₁ ≡ length w → ReadyGather ns w₁ t l sp k₃ k₂ k₁
      app_close len =
          let g = (got M h).1 in let s = g.spent in let z = R.room in let T = R.function.table in
          record {
            names = R.names;
            table = g.table;
            room = omega arith;
            last = g.sub;
            self = sub-later M.stands R.self (omega arith) g.more (omega arith);
            other = sub-later M.stands R.other (omega arith) g.more (omega arith);
            last_sorted = g.sorted;
            self_sorted = rw (sub_stands ns T M.stands R.self (omega arith)) R.self_sorted;
            other_sorted = rw (sub_stands ns T M.stands R.other (omega arith)) R.other_sorted;
          }

      -- Their end is the answer.
      pub app_done : {w₂ : List ℕ} {q : Joined} → GivesJoin 8 1 (2 * k₃ + 2 * k₂ + 2 * k₁) ns w₁ w₂ t l sp
          (closed (sub_at ns w₁ (sp - 2 * k₁ - 2 * k₂ - 2 * k₃) k₃) (sub_at ns w₁ (sp - 2 * k₁ - 2 * k₂) k₂) (sub_at ns w₁ (sp - 2 * k₁) k₁) (tyvar_of ns a) l) q
          → GivesJoin 14 2 (2 * k₁ + 2 * k₂) ns w w₂ top left sp all q
      app_done {w₂} {q} J =
          let g = (got M h).1 in let s = g.spent in let d = g.down in let T = R.function.table in
          record {
            stands = stands_then (stands_up M.stands (omega arith)) J.stands g.more;
            answer = answer_on ns w₂ top left t l sp (2 * k₁ + 2 * k₂) (2 * k₃ + 2 * k₂ + 2 * k₁) _ _ q
                (then_done _ l onward (got M h).0 ∙ rw (sub_stands ns T M.stands R.self (omega arith), sub_stands ns T M.stands R.other (omega arith)))
                g.more (omega arith) (omega arith) J.answer;
          }
