-- The loop of `take_preds`: what `instantiate_preds` does to all predicates, by what it does to those that are left.
use mathlib.Core.Path.{◌≡◌, refl, ap, sym, ◌∙◌}
use mathlib.Core.List.{List, [], ◌∷◌, ◌++◌, append_assoc, append-nil}
use Prim.Native.Nat.{ℕ, suc, ◌+◌, ◌*◌, ◌-◌, ◌<◌, ◌≤◌}
use native.Mathlib.Omega.{arith}
use lib.ListN.{length}
use Rattle.meaning.specs.Base.{total}
use Rattle.meaning.specs.Ast.{dvar, Ty, var, con, arrow, size, Pred, pred, Binder}
use Rattle.meaning.specs.Budget.{Out, Steps, done, refused, after}
use Rattle.meaning.specs.Subst.{Subst, apply_in, apply_pred}
use Rattle.meaning.specs.Generalize.{Pending, Env}
use Rattle.meaning.specs.Infer.{State, fresh_dictvar, instantiate_preds}
use Rattle.meaning.specs.Declare.{pred_nodes}
use Rattle.names.specs.Names.{first_fresh, first_node, name_of}
use Rattle.ast.specs.Table.{cell_of, tree, Node}
use Rattle.ast.specs.declared.Cell.{Cell}
use Rattle.ast.specs.declared.Cell.TheVariants.{Nil, Cons}
use Rattle.ast.proofs.Ranges.{cons_node}
use Rattle.ast.proofs.Laws.{kept_cell, cons_head, cons_tail, node_more}
use Rattle.errors.specs.declared.Refusal.{Refusal}
use Rattle.pairs.specs.Pairs.{Stands}
use Rattle.pairs.proofs.Frames.{stands_refl, stands_then, stands_up}
use Rattle.apply.specs.Applied.{Applied}
use Rattle.apply.specs.Applied.{Done, Refused}
use Rattle.apply.proofs.Hand.{Then, then_done, refuse_on}
use Rattle.rename.specs.Renaming.{Renames, leaves}
use Rattle.rename.specs.Renamed.{ReadyRename, GivesRenamed, TypeRenamed}
use Rattle.rename.proofs.Arms.{type_before}
use Rattle.rename.proofs.Ways.{gave}
use Rattle.subst.specs.Preds.{class_at, preds_of_word}
use Rattle.subst.proofs.PredLaws.{preds_nil, preds_cons}
use Rattle.supers.specs.Rows.{binders_from, binders_in}
use Rattle.scope.specs.Scope.{Smalls}
use Rattle.scope.proofs.Fines.{small_number, small_head, small_tail}
use Rattle.instantiate.specs.Instance.{state, with_words, Rows, ReadyPreds, GivesTaken}
use Rattle.instantiate.specs.Taken.{Done as Took, Refused as Untaken}
use Rattle.instantiate.proofs.RowWords.{words_long, no_rows, rows_more, binders_more}

-- ## Of the meaning

-- What makes one predicate's binder.
pub preds_step : (s : Subst) (p : Pred) (ps : List Pred) (env : Env) (tv dv n : ℕ)
    → instantiate_preds s (p ∷ ps) (state env tv dv) n
    ≡ after (apply_in 256 s p.ty n) (λ u k. after (instantiate_preds s ps (state env tv (suc dv)) k) (λ r j. done ((dvar dv, pred p.class u) ∷ r.0, r.1) j))
unfolding instantiate_preds fresh_dictvar apply_pred after
preds_step s p ps env tv dv n = go (apply_in 256 s p.ty n)
  where
    go : (o : Out Ty) → after {A = Pred × State} {B = Pending × State} (after {A = Pred} (after o (λ u k. done (pred p.class u) k)) (λ a k. done (a, state env tv (suc dv)) k))
        (λ r k. after {A = Pending × State} {B = Pending × State} (instantiate_preds s ps r.1 k) (λ q j. done ((dvar dv, r.0) ∷ q.0, q.1) j))
        ≡ after o (λ u k. after {A = Pending × State} {B = Pending × State} (instantiate_preds s ps (state env tv (suc dv)) k) (λ r j. done ((dvar dv, pred p.class u) ∷ r.0, r.1) j))
    go (done u k) = refl
    go (refused e k) = refl

-- What follows an outcome that follows another.
after-after : {A B C : Type 0} (o : Out A) (f : A → Steps B) (g : B → Steps C) → after (after o f) g ≡ after o (λ a k. after (f a k) g)
unfolding after
after-after (done a k) f g = refl
after-after (refused e k) f g = refl

-- Binders before those of an outcome.
abbrev pub with_first : Pending → Out (Pending × State) → Out (Pending × State)
with_first xs o = after o (λ r k. done (xs ++ r.0, r.1) k)

-- None before.
first_none : (o : Out (Pending × State)) → o ≡ with_first [] o
unfolding after
first_none (done a k) = refl
first_none (refused e k) = refl

-- One more before.
first_more : (xs : Pending) (x : Binder) (o : Out (Pending × State)) → with_first xs (after o (λ r j. done (x ∷ r.0, r.1) j)) ≡ with_first (xs ++ (x ∷ [])) o
unfolding after
first_more xs x (done a k) = simp append_assoc refl
first_more xs x (refused e k) = refl

-- No type is empty.
pub some_node : (t : Ty) → 1 ≤ size t
unfolding size
some_node (var x) = omega arith
some_node (con c ts) = omega arith
some_node (arrow a b) = omega arith

-- The nodes of one predicate more.
nodes_more : (p : Pred) (ps : List Pred) → pred_nodes (p ∷ ps) ≡ size p.ty + pred_nodes ps
unfolding pred_nodes total
nodes_more p ps = refl

-- And of none.
nodes_none : pred_nodes [] ≡ 0
unfolding pred_nodes total
nodes_none = refl

-- ## The loop

-- After m rows the list l is left, with t nodes and n steps.
pub record Taking (ns w₀ w bs₀ bs : List ℕ) (top left tv dv vs ps l m t n : ℕ) : Type 0 where
  pub older : Node w₀ top l
  pub table : Node w t l
  pub stands : Stands w₀ w top (4 * top + 8 * left)
  pub long : length w ≡ length w₀
  pub many : length bs ≡ length bs₀
  pub more : top ≤ t
  pub spent : 4 * t + 8 * n + 4 * m ≤ 4 * top + 8 * left
  pub steps : left + pred_nodes (preds_of_word ns w₀ l) ≡ n + pred_nodes (preds_of_word ns w₀ ps)
  pub each : m + n ≤ left
  pub rows : Rows w bs t dv m
  pub small : Smalls ns (preds_of_word ns w₀ l)
  pub is : (s : Subst) → Renames ns w₀ vs (first_fresh + tv) [] s → (env : Env) (tv₁ : ℕ)
      → instantiate_preds s (preds_of_word ns w₀ ps) (state env tv₁ dv) left ≡ with_first (binders_in ns w bs 0 m) (instantiate_preds s (preds_of_word ns w₀ l) (state env tv₁ (dv + m)) n)

-- At first all is left.
pub taking : {ns w bs : List ℕ} {top left tv dv vs ps : ℕ} → ReadyPreds ns w bs top left tv dv vs ps → Taking ns w w bs bs top left tv dv vs ps ps 0 top left
unfolding binders_from
taking {ns} {w} {bs} {top} {left} {tv} {dv} {vs} {ps} R = record {
  older = R.preds;
  table = R.preds;
  stands = stands_refl _ _ _;
  long = refl;
  many = refl;
  more = omega arith;
  spent = omega arith;
  steps = refl;
  each = omega arith;
  rows = no_rows w bs top dv;
  small = R.small;
  is = λ s S env tv₁. let e : dv + 0 ≡ dv = omega arith in rw e (first_none (instantiate_preds s (preds_of_word ns w ps) (state env tv₁ dv) left));
}

-- What a cell of the list tells.
module _ {ns w₀ w bs₀ bs : List ℕ} {top left tv dv vs ps l m t n : ℕ} (R : ReadyPreds ns w₀ bs₀ top left tv dv vs ps) (T : Taking ns w₀ w bs₀ bs top left tv dv vs ps l m t n)
    {r : Cell} (e : r ≡ cell_of w l) where
  -- The words before the loop say the same.
  cell_before : r ≡ cell_of w₀ l
  cell_before = e ∙ kept_cell T.stands.low l T.older.below

  -- Nothing is left.
  pub take_end : r ≡ Nil → GivesTaken ns w₀ w bs top left tv dv vs ps (Took m t n)
  unfolding instantiate_preds after
  take_end k =
      let p = preds_nil ns T.older cell_before k in
      let q : pred_nodes (preds_of_word ns w₀ l) ≡ 0 = rw p nodes_none in let st = T.steps in
      record {
        stands = T.stands;
        answer = record {
          more = T.more;
          table = T.table.table;
          rows = T.rows;
          steps = omega arith;
          each = T.each;
          spent = T.spent;
          is = λ s S env tv₁. T.is s S env tv₁ ∙ rw p (simp append-nil refl);
        };
      }

  module _ {a b : ℕ} (k : r ≡ Cons a b) where
    -- The first predicate and the rest, in the words before the loop.
    preds_are : preds_of_word ns w₀ l ≡ pred (name_of ns (class_at w₀ l)) (tree ns w₀ a) ∷ preds_of_word ns w₀ b
    preds_are = preds_cons ns T.older cell_before k

    -- Its class is the same word.
    class_before : class_at w l ≡ class_at w₀ l
    unfolding class_at
    class_before = let c = cons_node w l (sym e ∙ k) in let d = T.older.below in T.stands.low.at (4 * (l - first_node) + 3) (omega arith)

    -- So it is one of two bytes.
    class_small : class_at w₀ l < 65536
    class_small = small_number ns R.names (class_at w₀ l) (small_head _ _ (rw preds_are at T.small))

    -- What is done to all goes on after what is done to its type.
    took : (s : Subst) → Renames ns w₀ vs (first_fresh + tv) [] s → (env : Env) (tv₁ : ℕ)
        → Then (instantiate_preds s (preds_of_word ns w₀ ps) (state env tv₁ dv) left) (apply_in 256 s (tree ns w₀ a) n)
        (λ u k. with_first (binders_in ns w bs 0 m) (after (instantiate_preds s (preds_of_word ns w₀ b) (state env tv₁ (suc (dv + m))) k)
        (λ r j. done ((dvar (dv + m), pred (name_of ns (class_at w₀ l)) u) ∷ r.0, r.1) j)))
    took s S env tv₁ = record {
      is = T.is s S env tv₁
          ∙ ap (λ qs. with_first (binders_in ns w bs 0 m) (instantiate_preds s qs (state env tv₁ (dv + m)) n)) preds_are
          ∙ ap (with_first (binders_in ns w bs 0 m)) (preds_step s (pred (name_of ns (class_at w₀ l)) (tree ns w₀ a)) (preds_of_word ns w₀ b) env tv₁ (dv + m) n)
          ∙ after-after (apply_in 256 s (tree ns w₀ a) n) _ _;
    }

    -- Its type is next.
    pub take_ready : ReadyRename ns w [] t n vs (first_fresh + tv) a
    take_ready =
        let rm = R.room in let bg = R.big in let vb = R.vars.below in let md = R.made in let lg = T.long in let sp = T.spent in let mr = T.more in
        record {
          names = R.names;
          node = (cons_head T.table e k).1;
          by = record { vars = node_more T.table.table T.more R.vars; words = omega arith; letters = omega arith };
          room = omega arith;
        }

    -- After that.
    module _ {w₁ : List ℕ} {q : Applied} (G : TypeRenamed ns w w₁ [] t n 256 vs (first_fresh + tv) a q) where
      -- What it says of the words before the loop.
      type_is : GivesRenamed (Renames ns w₀ vs (first_fresh + tv) []) (tree ns w₁) 4 (leaves (tree ns w₀ a)) (size (tree ns w₀ a)) ns w w₁ t n (λ s. apply_in 256 s (tree ns w₀ a) n) q
      type_is = type_before 256 T.stands.low R.vars (cons_head T.older cell_before k).1 G

      -- What stands.
      both_stand : Stands w₀ w₁ top (4 * top + 8 * left)
      both_stand = let sp = T.spent in stands_then T.stands (stands_up G.stands (omega arith)) T.more

      -- It is refused.
      pub take_refused : {x : Refusal} {t₂ n₂ : ℕ} → q ≡ Refused x t₂ n₂ → GivesTaken ns w₀ w₁ bs top left tv dv vs ps (Untaken x t₂ n₂)
      take_refused h = record {
        stands = both_stand;
        answer = λ s S env tv₁. let ea = T.each in refuse_on (took s S env tv₁) ((rw h at type_is.answer) s S) T.more (omega arith);
      }

      module _ {u t₂ n₂ : ℕ} (h : q ≡ Done u t₂ n₂) where
        -- There is a row for it, and its number is small.
        pub take_room : (3 * m + 3 ≤ length bs) × (dv + m < 17_592_186_044_416)
        take_room =
            let g = gave type_is h in let st = g.steps in let ea = T.each in let y = some_node (tree ns w₀ a) in let rs = R.rows in let mn = T.many in let nm = R.named in
            (omega arith, omega arith)

        -- One more was taken, and what is left is shorter.
        pub take_on : {p : ℕ} {bs₁ : List ℕ} → p ≡ class_at w l → length w₁ ≡ length w → bs₁ ≡ with_words bs m (dv + m) p u
            → (b < l) × Taking ns w₀ w₁ bs₀ bs₁ top left tv dv vs ps b (m + 1) t₂ n₂
        take_on {p} {bs₁} c len is =
            let g = gave type_is h in let st = g.steps in let gs = g.spent in let gm = g.more in
            let ea = T.each in let ts = T.steps in let tp = T.spent in let mr = T.more in let y = some_node (tree ns w₀ a) in
            let tail = cons_tail T.older cell_before k in
            let nm : pred_nodes (preds_of_word ns w₀ l) ≡ size (tree ns w₀ a) + pred_nodes (preds_of_word ns w₀ b) = ap pred_nodes preds_are ∙ nodes_more _ _ in
            let is₁ : bs₁ ≡ with_words bs m (dv + m) (class_at w₀ l) u = is ∙ ap (λ x. with_words bs m (dv + m) x u) (c ∙ class_before) in (
              tail.0,
              record {
                older = tail.1;
                table = node_more g.node.table (omega arith) tail.1;
                stands = both_stand;
                long = len ∙ T.long;
                many = words_long bs m (dv + m) (class_at w₀ l) u is₁ ∙ T.many;
                more = omega arith;
                spent = omega arith;
                steps = omega arith;
                each = omega arith;
                rows = rows_more T.rows is₁ take_room.0 class_small gm g.node;
                small = small_tail _ _ (rw preds_are at T.small);
                is = λ s S env tv₁. then_done (tree ns w₁ u) n₂ (took s S env tv₁) (g.is s S)
                    ∙ first_more (binders_in ns w bs 0 m) (dvar (dv + m), pred (name_of ns (class_at w₀ l)) (tree ns w₁ u)) (instantiate_preds s (preds_of_word ns w₀ b) (state env tv₁ (suc (dv + m))) n₂)
                    ∙ ap (λ ys. with_first ys (instantiate_preds s (preds_of_word ns w₀ b) (state env tv₁ (suc (dv + m))) n₂)) (sym (binders_more T.rows is₁ take_room.0 class_small gm g.node ns G.stands.low))
                    ∙ ap (λ d. with_first (binders_in ns w₁ bs₁ 0 (m + 1)) (instantiate_preds s (preds_of_word ns w₀ b) (state env tv₁ d) n₂)) (let z : suc (dv + m) ≡ dv + (m + 1) = omega arith in z);
              },
            )
