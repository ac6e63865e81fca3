-- Laws of two lists of types, and of two constructors.
use Prim.Native.Nat.{ℕ, ◌*◌, ◌-◌, ◌<◌, ◌≤◌}
use native.Mathlib.Omega.{arith}
use mathlib.Core.Path.{◌≡◌, ap, ◌∙◌}
use mathlib.Core.List.{List}
use lib.ListN.{length}
use Rattle.meaning.specs.Ast.{same_name}
use Rattle.meaning.specs.Budget.{Out, done, after}
use Rattle.meaning.specs.Subst.{Subst}
use Rattle.meaning.specs.Unify.{unify_zip, unify_con, unify_in}
use Rattle.names.specs.Names.{name_of}
use Rattle.names.proofs.Distinct.{name_of_same}
use Rattle.names.proofs.Tests.{eq_yes, eq_no}
use Rattle.ast.specs.Table.{tree, list, cell_of, Counted}
use Rattle.ast.specs.declared.Cell.{Cell}
use Rattle.ast.specs.declared.Cell.TheVariants.{Nil, Cons}
use Rattle.ast.proofs.Laws.{kept_list, node_more, list_nil, list_cons, cons_head, cons_tail}
use Rattle.errors.specs.declared.Refusal.{Refusal}
use Rattle.errors.specs.declared.Refusal.TheVariants.{ConMismatch, ArityMismatch}
use Rattle.pairs.specs.Pairs.{sub_at}
use Rattle.apply.specs.Applied.{Applied}
use Rattle.apply.specs.Applied.{Done, Refused}
use Rattle.compose.specs.Answers.{GivesU, ReadyU, ReadyOne}
use Rattle.unify.specs.Unify.{unify_one}
use Rattle.pairs.proofs.Frames.{stands_refl}
use Rattle.unify.proofs.Outcomes.{holds, fails, zip_one, zip_nil}
use Rattle.unify.proofs.Hand.{refuses_on, on, because, refuses}
use Rattle.compose.proofs.Hand.{got, lost}

-- The pairs as they are.
stays : {ns w : List ℕ} {top left hi k x y : ℕ} {o : Out Subst} → ReadyOne ns w top left hi k x y → o ≡ done (sub_at ns w (hi - 2 * k) k) left → GivesU 0 (2 * k) ns w w top left hi o (Done k top left)
stays R e = record { stands = stands_refl _ _ _; answer = (e, record { table = R.first.table; sub = R.sub; sorted = R.sorted; more = omega arith; spent = omega arith; down = omega arith }) }

module _ {ns w : List ℕ} {top left hi k xs ys : ℕ} (R : ReadyOne ns w top left hi k xs ys) (depth : ℕ) {p q : Cell} (ep : p ≡ cell_of w xs) (eq : q ≡ cell_of w ys) where
  -- The first list has ended.
  pub zip_end : p ≡ Nil → GivesU 0 (2 * k) ns w w top left hi (unify_zip (λ a b. unify_in depth a b) (list ns w xs) (list ns w ys) (sub_at ns w (hi - 2 * k) k) left) (Done k top left)
  zip_end h = stays R (rw (list_nil ns R.first ep h) (zip_nil _ _ _ _))

  -- The second list has ended.
  pub zip_end_2 : {x xs₂ : ℕ} → p ≡ Cons x xs₂ → q ≡ Nil
      → GivesU 0 (2 * k) ns w w top left hi (unify_zip (λ a b. unify_in depth a b) (list ns w xs) (list ns w ys) (sub_at ns w (hi - 2 * k) k) left) (Done k top left)
  unfolding unify_zip
  zip_end_2 h i = stays R (rw (list_cons ns R.first ep h, list_nil ns R.second eq i))

  module _ {x xs₂ y ys₂ : ℕ} (h : p ≡ Cons x xs₂) (i : q ≡ Cons y ys₂) where
    -- What `one` asks of the first pair.
    pub zip_ready : ReadyOne ns w top left hi k x y
    zip_ready = record { names = R.names; first = (cons_head R.first ep h).1; second = (cons_head R.second eq i).1; room = R.room; sub = R.sub; sorted = R.sorted; fits = R.fits }

    -- The lists as first pair and rest.
    opened : unify_zip (λ a b. unify_in depth a b) (list ns w xs) (list ns w ys) (sub_at ns w (hi - 2 * k) k) left
        ≡ after (unify_one (λ a b. unify_in depth a b) (sub_at ns w (hi - 2 * k) k) (tree ns w x) (tree ns w y) left) (λ s. unify_zip (λ a b. unify_in depth a b) (list ns w xs₂) (list ns w ys₂) s)
    opened = rw (list_cons ns R.first ep h, list_cons ns R.second eq i) (zip_one _ _ _ _ _ _ _)

    module _ {w₁ : List ℕ} {r : Applied} (G : GivesU 1 (2 * k) ns w w₁ top left hi (unify_one (λ a b. unify_in depth a b) (sub_at ns w (hi - 2 * k) k) (tree ns w x) (tree ns w y) left) r) where
      -- The first pair refused.
      pub zip_fails : {e : Refusal} {t l : ℕ} → r ≡ Refused e t l
          → GivesU 0 (2 * k) ns w w₁ top left hi (unify_zip (λ a b. unify_in depth a b) (list ns w xs) (list ns w ys) (sub_at ns w (hi - 2 * k) k) left) (Refused e t l)
      unfolding after
      zip_fails j = because G.stands (refuses_on (lost G j) (opened ∙ rw (lost G j).is) (omega arith) (omega arith))

      module _ {k₂ t l : ℕ} (j : r ≡ Done k₂ t l) where
        -- The table did not shrink.
        pub zip_more : top ≤ t
        zip_more = (got G j).1.more

        -- A step was spent.
        pub zip_less : l < left
        zip_less = let d = (got G j).1.down in omega arith

        -- What the rest asks.
        pub zip_rest : length w₁ ≡ length w → ReadyOne ns w₁ t l hi k₂ xs₂ ys₂
        zip_rest e =
            let g = (got G j).1 in
            let s = g.spent in
            let z = R.room in
            let f = R.fits in
            record {
              names = R.names;
              first = node_more g.table g.more (cons_tail R.first ep h).1;
              second = node_more g.table g.more (cons_tail R.second eq i).1;
              room = omega arith;
              sub = g.sub;
              sorted = g.sorted;
              fits = omega arith;
            }

        -- The rest after the first pair.
        pub zip_go : {w₂ : List ℕ} {v : Applied} → GivesU 0 (2 * k₂) ns w₁ w₂ t l hi (unify_zip (λ a b. unify_in depth a b) (list ns w₁ xs₂) (list ns w₁ ys₂) (sub_at ns w₁ (hi - 2 * k₂) k₂) l) v
            → GivesU 0 (2 * k) ns w w₂ top left hi (unify_zip (λ a b. unify_in depth a b) (list ns w xs) (list ns w ys) (sub_at ns w (hi - 2 * k) k) left) v
        unfolding after
        zip_go H =
            let g = (got G j).1 in
            let s = g.spent in
            let d = g.down in
            on G.stands g.more
            (opened ∙ rw ((got G j).0, kept_list ns G.stands.low (cons_tail R.first ep h).1, kept_list ns G.stands.low (cons_tail R.second eq i).1))
            (omega arith) (omega arith) H

-- No pairs yet.
pub no_pairs : {ns w : List ℕ} {top left sp s t : ℕ} → ReadyU ns w top left sp s t → ReadyOne ns w top left sp 0 s t
unfolding sub_at
no_pairs R =
    let r = R.room in
    let f = R.fits in
    record {
      names = R.names;
      first = R.first;
      second = R.second;
      room = omega arith;
      sub = record { fits = omega arith; bound = record { node = λ i a. absurd (omega arith) } };
      sorted = tt;
      fits = R.fits;
    }

module _ {ns w : List ℕ} {top left sp xs ys : ℕ} (R : ReadyU ns w top left sp xs ys) (depth c d : ℕ) where
  -- The names differ.
  pub con_names : (c ≡ d → ⊥) → GivesU 0 0 ns w w top left sp (unify_con (λ a b. unify_in depth a b) (name_of ns c) (list ns w xs) (name_of ns d) (list ns w ys) left) (Refused (ConMismatch c d) top left)
  unfolding unify_con
  con_names h = refuses (ConMismatch c d) (rw (fails (same_name (name_of ns c) (name_of ns d)) (λ g. h (name_of_same ns R.names c d g)))) tt (omega arith)

  module _ {i j : ℕ} (h : c ≡ d) (C : (ns : List ℕ) → Counted ns w xs i) (D : (ns : List ℕ) → Counted ns w ys j) where
    -- The numbers of arguments differ.
    pub con_lengths : (i ≡ j → ⊥)
        → GivesU 0 0 ns w w top left sp (unify_con (λ a b. unify_in depth a b) (name_of ns c) (list ns w xs) (name_of ns d) (list ns w ys) left) (Refused (ArityMismatch c i j) top left)
    unfolding unify_con
    con_lengths n = refuses (ArityMismatch c i j) (rw (holds (same_name (name_of ns c) (name_of ns d)) (ap (name_of ns) h), ← (C ns).is, ← (D ns).is, eq_no i j n)) tt (omega arith)

    -- The arguments.
    pub con_go : {w₁ : List ℕ} {v : Applied} → i ≡ j
        → GivesU 0 (2 * 0) ns w w₁ top left sp (unify_zip (λ a b. unify_in depth a b) (list ns w xs) (list ns w ys) (sub_at ns w (sp - 2 * 0) 0) left) v
        → GivesU 0 0 ns w w₁ top left sp (unify_con (λ a b. unify_in depth a b) (name_of ns c) (list ns w xs) (name_of ns d) (list ns w ys) left) v
    unfolding unify_con sub_at
    con_go n G = on (stands_refl _ _ _) (omega arith) (rw (holds (same_name (name_of ns c) (name_of ns d)) (ap (name_of ns) h), ← (C ns).is, ← (D ns).is, eq_yes i j n)) (omega arith) (omega arith) G
