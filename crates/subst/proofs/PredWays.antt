-- The ways out of `apply_pred_but` and `apply_preds_but`, from what the calls gave.
use mathlib.Core.Path.{◌≡◌, refl, sym, ◌∙◌}
use mathlib.Core.List.{List, ◌∷◌}
use Prim.Native.Nat.{ℕ, ◌+◌, ◌*◌, ◌-◌, ◌^◌, ◌<◌, ◌≤◌}
use native.Mathlib.Omega.{arith}
use lib.ListN.{length}
use Rattle.meaning.specs.Ast.{Pred, pred}
use Rattle.meaning.specs.Budget.{Out, done, after}
use Rattle.meaning.specs.Subst.{Subst, apply_in, apply_pred, apply_preds}
use Rattle.names.specs.Names.{first_node, name_of}
use Rattle.ast.specs.Table.{cell_of, tree, Node, Kept}
use Rattle.ast.specs.declared.Cell.{Cell}
use Rattle.ast.specs.declared.Cell.TheVariants.{Nil, Cons}
use Rattle.ast.proofs.Ranges.{cons_node}
use Rattle.ast.proofs.Laws.{cons_tail, node_more, node_room, kept_tree}
use Rattle.errors.specs.declared.Refusal.{Refusal}
use Rattle.pairs.specs.Pairs.{Stands}
use Rattle.apply.specs.Region.{sub_but, ReadyBut, Answer, Gives}
use Rattle.apply.specs.Applied.{Applied}
use Rattle.apply.specs.Applied.{Done, Refused}
use Rattle.apply.proofs.Hand.{Then, then_done, refuse_on, within, gives, gave, fails, goes, adds, same_then}
use Rattle.apply.proofs.Arms.{but_then, but_kept}
use Rattle.apply.proofs.Ways.{Room}
use Rattle.subst.specs.Preds.{class_at, preds_of_word, pushed_pred}
use Rattle.subst.proofs.PredLaws.{kept_preds, preds_nil, preds_cons, pred_stands, push_preds}

-- An answer, read through a function that follows it.
reads_on : {A B : Type 0} (f : A → B) (read : ℕ → A) (b : ℕ) (ns w' : List ℕ) (top left : ℕ) {o : Out A} {o' : Out B} → Then o' o (λ a l. done (f a) l)
    → (r : Applied) → Answer read b ns w' top left o r → Answer (λ u. f (read u)) b ns w' top left o' r
reads_on f read b ns w' top left T (Done m t l) a = (then_done (read m) l T a.0, a.1)
reads_on f read b ns w' top left T (Refused e t l) a = refuse_on T a (omega arith) (omega arith)

-- What `apply_but` gives for a type is given for a predicate of that type; its class stays.
pub pred_gives : {ns w w' : List ℕ} {top left at k vs t b : ℕ} {r : Applied} (c : ℕ) → ReadyBut ns w top left at k vs t
    → Gives (tree ns w') b ns w w' top left (apply_in 256 (sub_but ns w vs at k) (tree ns w t) left) r
    → Gives (λ u. pred (name_of ns c) (tree ns w' u)) b ns w w' top left (apply_pred (sub_but ns w vs at k) (pred (name_of ns c) (tree ns w t)) left) r
unfolding apply_pred
pred_gives {r = r} c R G = record { stands = G.stands; answer = reads_on (pred (name_of _ c)) (tree _ _) _ _ _ _ _ (record { is = refl }) r G.answer }

-- ## At a list: r is what `cell_at` returned

-- No predicates stay.
pub no_preds : {w : List ℕ} {top n : ℕ} (ns : List ℕ) (N : Node w top n) (S : Subst) (left : ℕ) {r : Cell} → r ≡ cell_of w n → r ≡ Nil
    → apply_preds S (preds_of_word ns w n) left ≡ done (preds_of_word ns w n) left
unfolding apply_preds
no_preds ns N S left e k = rw (preds_nil ns N e k)

-- A cell's class may be read: this is what `class_at` requires.
pub class_room : {w : List ℕ} {top n : ℕ} {r : Cell} {a b : ℕ} → Node w top n → r ≡ cell_of w n → r ≡ Cons a b → (first_node ≤ n) × (4 * n + 4 ≤ 4 * first_node + length w)
class_room N e arm = (cons_node _ _ (sym e ∙ arm), node_room N)

-- What the pairs do to older predicates is the same after another call.
preds_same : {ns w w₁ : List ℕ} {top left at k vs t hi b : ℕ} → ReadyBut ns w top left at k vs t → Stands w w₁ top hi → hi ≤ at → (l : ℕ) → Node w top b
    → apply_preds (sub_but ns w₁ vs at k) (preds_of_word ns w₁ b) l ≡ apply_preds (sub_but ns w vs at k) (preds_of_word ns w b) l
preds_same {ns} R F u l N = rw (but_kept R F u, kept_preds ns F.low N)

-- An older type at the head of a list stands for what it stood for.
head_kept : {w w' : List ℕ} {top m : ℕ} (ns : List ℕ) → Kept w w' top → Node w top m → (c : ℕ) (qs : List Pred)
    → ◌≡◌ {A = List Pred} (pred (name_of ns c) (tree ns w' m) ∷ qs) (pred (name_of ns c) (tree ns w m) ∷ qs)
head_kept ns K N c qs = rw (kept_tree ns K N)

-- A first predicate of class c at a, and the rest b.
module _ {ns w : List ℕ} {top left at k vs n : ℕ} (R : ReadyBut ns w top left at k vs n) {r : Cell} (e : r ≡ cell_of w n) {a b c : ℕ} (arm : r ≡ Cons a b) (class : c ≡ class_at w n) {w₁ : List ℕ} {r₁ : Applied}
    (G : Gives (λ u. pred (name_of ns c) (tree ns w₁ u)) (4 * top + 8 * left - 4) ns w w₁ top left (apply_pred (sub_but ns w vs at k) (pred (name_of ns c) (tree ns w a)) left) r₁) where
  -- The first predicate, then the rest.
  first : Then (apply_preds (sub_but ns w vs at k) (preds_of_word ns w n) left) (apply_pred (sub_but ns w vs at k) (pred (name_of ns c) (tree ns w a)) left)
      (λ q l. after (apply_preds (sub_but ns w vs at k) (preds_of_word ns w b) l) (λ qs l₂. done (q ∷ qs) l₂))
  unfolding apply_preds
  first = record { is = rw (preds_cons ns R.ty.node e arm, class) }

  -- It is refused.
  pub first_refused : {q : Refusal} {t₁ l₁ : ℕ} → r₁ ≡ Refused q t₁ l₁
      → Gives (preds_of_word ns w₁) (4 * top + 8 * left) ns w w₁ top left (apply_preds (sub_but ns w vs at k) (preds_of_word ns w n) left) (Refused q t₁ l₁)
  first_refused h = gives (fails (within _ _ G (omega arith) (omega arith)) first h)

  module _ {m t₁ l₁ : ℕ} (h : r₁ ≡ Done m t₁ l₁) where
    -- The rest is next.
    pub rest_next : length w₁ ≡ length w → (top ≤ t₁) × ReadyBut ns w₁ t₁ l₁ at k vs b
    rest_next len = let g = (gave G h).1 in let o = R.ty.room in
        (g.more, but_then R G.stands o g (omega arith) len (cons_tail R.ty.node e arm).1)

    -- After the call for the rest.
    module _ {w₂ : List ℕ} {r₂ : Applied}
        (H : Gives (preds_of_word ns w₂) (4 * t₁ + 8 * l₁) ns w₁ w₂ t₁ l₁ (apply_preds (sub_but ns w₁ vs at k) (preds_of_word ns w₁ b) l₁) r₂) where
      -- That is refused.
      pub rest_refused : {q : Refusal} {t₂ l₂ : ℕ} → r₂ ≡ Refused q t₂ l₂
          → Gives (preds_of_word ns w₂) (4 * top + 8 * left) ns w w₂ top left (apply_preds (sub_but ns w vs at k) (preds_of_word ns w n) left) (Refused q t₂ l₂)
      rest_refused i =
          let g = (gave G h).1 in let s = g.spent in
          gives (goes (within _ _ G (omega arith) (omega arith)) first h
          (fails (within _ _ H (omega arith) (omega arith)) {b' = 0} (same_then _ (sym (preds_same R G.stands R.ty.room _ (cons_tail R.ty.node e arm).1))) i) (omega arith))

      module _ {m₂ t₂ l₂ : ℕ} (i : r₂ ≡ Done m₂ t₂ l₂) (len : length w₂ ≡ length w) (big : length w < 2 ^ 65) where
        -- A list with a first predicate is a node, so that the table is not empty.
        some_node : 1 ≤ top
        some_node = let c = cons_node w n (sym e ∙ arm) in let d = R.ty.node.below in omega arith

        -- There is room for the new cell.
        pub cell_room : Room w₂ top t₂
        cell_room =
            let g = (gave G h).1 in let s = g.spent in let m₁ = g.more in let u = (gave H i).1 in let v = u.spent in let n₁ = u.more in let o = R.ty.room in let f = R.ty.sub.fits in let z = some_node in
            record { more = omega arith; room = omega arith; small = omega arith }

        -- The cell is the answer.
        pub cell_done : {w₃ : List ℕ} → w₃ ≡ pushed_pred w₂ t₂ c m m₂
            → Gives (preds_of_word ns w₃) (4 * top + 8 * left) ns w w₃ top left (apply_preds (sub_but ns w vs at k) (preds_of_word ns w n) left) (Done (first_node + t₂) (t₂ + 1) l₂)
        cell_done p =
            let g = (gave G h).1 in let s = g.spent in let u = (gave H i).1 in let v = u.spent in let z = some_node in
            gives (goes (within _ _ G (omega arith) (omega arith)) first h
            (goes (within _ _ H (omega arith) (omega arith)) {b' = 4 * top + 8 * left} (same_then _ (sym (preds_same R G.stands R.ty.room _ (cons_tail R.ty.node e arm).1))) i
            (adds (push_preds w₂ t₂ c m m₂ cell_room.room p ns cell_room.small (node_more u.node.table u.more g.node) u.node) (pred_stands w₂ t₂ c m m₂ cell_room.room p _ (omega arith))
            (head_kept ns H.stands.low g.node c _)) (omega arith)) (omega arith))
