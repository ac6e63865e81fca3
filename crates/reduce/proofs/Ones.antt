-- One predicate: whether its type is a variable, and its dictionary from the givens or by `resolve`.
use mathlib.Core.Path.{◌≡◌, refl, sym, ◌∙◌}
use mathlib.Core.Bool.{Bool, true, false}
use mathlib.Core.List.{List}
use mathlib.Core.Option.{Option}
use Prim.Native.Nat.{ℕ, ◌+◌, ◌*◌, ◌-◌}
use native.Mathlib.Omega.{arith}
use Rattle.meaning.specs.Ast.{pred, Pred, Core}
use Rattle.meaning.specs.Budget.{Out, after}
use Rattle.meaning.specs.Classes.{ClassEnv, Given, resolve, resolve_from_givens}
use Rattle.meaning.specs.Reduce.{is_head_normal, reduce_one}
use Rattle.names.specs.Names.{name_of}
use Rattle.ast.specs.Table.{shape_of, tree, tree_f}
use Rattle.ast.specs.declared.Shape.{Shape}
use Rattle.ast.specs.declared.Shape.TheVariants.{Var, Con, Arrow}
use Rattle.errors.specs.declared.Refusal.{Refusal}
use Rattle.apply.proofs.Hand.{refuse_on, refuse_same}
use Rattle.cores.specs.Terms.{core}
use Rattle.supers.specs.Givens.{givens_of}
use Rattle.supers.specs.Search.{GivesFound}
use Rattle.supers.specs.declared.Root.{Root}
use Rattle.supers.specs.Searched.{Searched}
use Rattle.supers.specs.Searched.{Found, Nothing, Refused}
use Rattle.resolve.specs.Resolves.{Declared, ReadyResolve, GivesCore}
use Rattle.resolve.specs.Resolved.{Resolved}
use Rattle.resolve.specs.Resolved.{Done, Refused as Resolved-Refused}
use Rattle.resolve.proofs.Goals.{made, lost}
use Rattle.reduce.specs.Reduces.{must, HeadNormal, GivesOne}

-- ## Whether a type is a variable: r is what `shape_at` returned

module _ {w : List ℕ} {t : ℕ} {r : Shape} (e : r ≡ shape_of w t) where
  -- It is one.
  pub normal_var : {x : ℕ} → r ≡ Var x → HeadNormal w t true
  unfolding is_head_normal tree tree_f
  normal_var k = record { is = λ ns. rw (sym e ∙ k) }

  -- It is a constructor's.
  pub normal_con : {c l : ℕ} → r ≡ Con c l → HeadNormal w t false
  unfolding is_head_normal tree tree_f
  normal_con k = record { is = λ ns. rw (sym e ∙ k) }

  -- It is an arrow.
  pub normal_arrow : {a b : ℕ} → r ≡ Arrow a b → HeadNormal w t false
  unfolding is_head_normal tree tree_f
  normal_arrow k = record { is = λ ns. rw (sym e ∙ k) }

-- ## A dictionary that there must be: r is what `resolve` returned

module _ {ns w il : List ℕ} {top left sp : ℕ} {root : Root} {l t : ℕ} (R : ReadyResolve ns w il top left sp root l t) (cl : List ℕ) (c : ℕ) {w₁ : List ℕ} {r : Resolved}
    (G : GivesCore (Declared ns cl w top il) (core ns w₁) (4 * top + 8 * left - 4) 1 ns w w₁ top left sp (λ ce. resolve ce (givens_of ns w root 0 l) (pred (name_of ns c) (tree ns w t)) left) r) where
  -- It was found.
  pub must_found : {e t₁ l₁ : ℕ} → r ≡ Done e t₁ l₁ → GivesOne (Declared ns cl w top il) ns w w₁ top left sp (λ ce. must ce (givens_of ns w root 0 l) (pred (name_of ns c) (tree ns w t)) left) (Found e t₁ l₁)
  unfolding after
  must_found h = let m = made G h in record { stands = G.stands; answer = record { node = m.node; more = m.more; spent = m.spent; down = m.down; is = λ ce D. rw (m.is ce D) } }

  -- It is refused.
  pub must_refused : {x : Refusal} {t₁ l₁ : ℕ} → r ≡ Resolved-Refused x t₁ l₁
      → GivesOne (Declared ns cl w top il) ns w w₁ top left sp (λ ce. must ce (givens_of ns w root 0 l) (pred (name_of ns c) (tree ns w t)) left) (Refused x t₁ l₁)
  must_refused h = record { stands = G.stands; answer = λ ce D. refuse_on (record { is = refl }) (lost G h ce D) (omega arith) (omega arith) }

-- ## Either way

-- An answer for an outcome is one for the same outcome, said otherwise.
same_one : {Of : ClassEnv → Type 0} {ns w w₁ : List ℕ} {top left sp : ℕ} {o o₁ : ClassEnv → Out (Option Core)} (r : Searched) → ((ce : ClassEnv) → o ce ≡ o₁ ce) → GivesOne Of ns w w₁ top left sp o₁ r → GivesOne Of ns w w₁ top left sp o r
same_one (Found e t l) q G = let A = G.answer in record { stands = G.stands; answer = record { node = A.node; more = A.more; spent = A.spent; down = A.down; is = λ ce D. q ce ∙ A.is ce D } }
same_one (Nothing l) q G = let A = G.answer in record { stands = G.stands; answer = record { down = A.down; is = λ ce D. q ce ∙ A.is ce D } }
same_one (Refused e t l) q G = record { stands = G.stands; answer = λ ce D. refuse_same (q ce) (G.answer ce D) (omega arith) (omega arith) }

-- An answer of the search over givens, for the environments of class table and instances.
found_one : {ns cl w w₁ : List ℕ} {top left sp : ℕ} {o : ClassEnv → Out (Option Core)} (il : List ℕ) (r : Searched) → GivesFound ns cl w w₁ top left sp o r → GivesOne (Declared ns cl w top il) ns w w₁ top left sp o r
found_one il (Found e t l) G =
    let A = G.answer in let s = A.spent in let d = A.down in
    record { stands = G.stands; answer = record { node = A.node; more = A.more; spent = omega arith; down = omega arith; is = λ ce D. A.is ce D.supers } }
found_one il (Nothing l) G = let A = G.answer in record { stands = G.stands; answer = record { down = A.down; is = λ ce D. A.is ce D.supers } }
found_one il (Refused e t l) G = record { stands = G.stands; answer = λ ce D. G.answer ce D.supers }

module _ (p : Pred) {b : Bool} (H : is_head_normal p.ty ≡ b) (ce : ClassEnv) (gs : List Given) (n : ℕ) where
  -- A variable: the givens alone.
  var_one : b ≡ true → reduce_one ce gs p n ≡ resolve_from_givens ce gs p n
  unfolding reduce_one
  var_one k = rw (H ∙ k)

  -- No variable: it must resolve.
  other_one : b ≡ false → reduce_one ce gs p n ≡ must ce gs p n
  unfolding reduce_one
  other_one k = rw (H ∙ k)

module _ {ns w il : List ℕ} {top left sp : ℕ} {root : Root} {l t : ℕ} (R : ReadyResolve ns w il top left sp root l t) (cl : List ℕ) (c : ℕ) {w₁ : List ℕ} {b : Bool} {r : Searched} (H : HeadNormal w t b) where
  -- The answer from the givens.
  pub one_var : b ≡ true → GivesFound ns cl w w₁ top left sp (λ ce. resolve_from_givens ce (givens_of ns w root 0 l) (pred (name_of ns c) (tree ns w t)) left) r
      → GivesOne (Declared ns cl w top il) ns w w₁ top left sp (λ ce. reduce_one ce (givens_of ns w root 0 l) (pred (name_of ns c) (tree ns w t)) left) r
  one_var k G = same_one r (λ ce. var_one (pred (name_of ns c) (tree ns w t)) (H.is ns) ce (givens_of ns w root 0 l) left k) (found_one il r G)

  -- The answer by `resolve`.
  pub one_other : b ≡ false → GivesOne (Declared ns cl w top il) ns w w₁ top left sp (λ ce. must ce (givens_of ns w root 0 l) (pred (name_of ns c) (tree ns w t)) left) r
      → GivesOne (Declared ns cl w top il) ns w w₁ top left sp (λ ce. reduce_one ce (givens_of ns w root 0 l) (pred (name_of ns c) (tree ns w t)) left) r
  one_other k G = same_one r (λ ce. other_one (pred (name_of ns c) (tree ns w t)) (H.is ns) ce (givens_of ns w root 0 l) left k) G
