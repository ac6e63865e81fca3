-- Renaming the types of rows, and the list of their predicates: what one row gives, and the two loops.
use mathlib.Core.Path.{◌≡◌, refl, sym, ◌∙◌, subst}
use mathlib.Core.List.{List, ◌∷◌}
use Prim.Native.Nat.{ℕ, ◌+◌, ◌*◌, ◌<◌, ◌≤◌}
use native.Mathlib.Omega.{arith}
use lib.ListN.{length, set}
use lib.Seq.{get_or-set_same, get_or-set_other}
use Rattle.meaning.specs.Base.{count, total}
use Rattle.meaning.specs.Ast.{Name, DictName, Ty, pred, dvar, Binder}
use Rattle.meaning.specs.Errors as E
use Rattle.meaning.specs.Budget.{Out, done, refused, after, depth}
use Rattle.meaning.specs.Subst.{Subst, apply_in, apply_pred, apply_preds_pending}
use Rattle.names.specs.Names.{name_of}
use Rattle.ast.specs.Table.{nil_word, tree}
use Rattle.ast.proofs.Laws.{low_node}
use Rattle.errors.specs.declared.Refusal.{Refusal}
use Rattle.pairs.proofs.Frames.{stands_refl}
use Rattle.apply.specs.Applied.{Applied}
use Rattle.apply.specs.Applied.{Done as Made, Refused as Not-made}
use Rattle.supers.specs.declared.rows.Row.{Row}
use Rattle.supers.specs.declared.rows.Row.TheVariants.{Pending, Replaced}
use Rattle.supers.specs.Rows.{row_at, TypeIn}
use Rattle.supers.proofs.RowLaws.{row_open}
use Rattle.simplify.proofs.RowSets.{row_words, set_others}
use Rattle.rename.specs.Renaming.{renamed_word}
use Rattle.rename.specs.Renamed as R
use Rattle.canonical.specs.Rows.{ReadyRename, Letters, RenamesRow}
use Rattle.canonical.specs.Rows.{Done, Refused}
use Rattle.canonical.proofs.Chosen.{no_place}

-- ## rows of which one changes
-- The third word of row i is written: the row has the new type.
new_row : {d c t : ℕ} (bs : List ℕ) (i u : ℕ) → 3 * i + 3 ≤ length bs → row_at bs i ≡ Pending d c t → row_at (set bs (3 * i + 2) u) i ≡ Pending d c u
unfolding row_at
new_row {d} {c} {t} bs i u h e =
    let W = row_words bs i e in
    rw (get_or-set_other bs (3 * i + 2) (3 * i) u 0 (omega arith), get_or-set_other bs (3 * i + 2) (3 * i + 1) u 0 (omega arith), get_or-set_same bs (3 * i + 2) u 0 (omega arith), W.dict, W.class)
    (row_open d c u W.free)

-- ## computations
-- What follows an answer and hands it on changes nothing.
pub after_same : {A : Type 0} (o : Out A) → after o (λ a k. done a k) ≡ o
unfolding after
after_same (done a k) = refl
after_same (refused r k) = refl

-- A renamed type, then the other binders.
pending_goes : {u : Ty} {k : ℕ} (left : ℕ) (s : Subst) (d : DictName) (c : Name) (t : Ty) (os : List Binder) → apply_in depth s t left ≡ done u k
    → apply_preds_pending s ((d, pred c t) ∷ os) left ≡ after (apply_preds_pending s os k) (λ qs l. done ((d, pred c u) ∷ qs) l)
unfolding apply_preds_pending apply_pred after
pending_goes left s d c t os e = rw e refl

-- A type that is refused.
pending_stops : {k : ℕ} {x : E.Refusal} (left : ℕ) (s : Subst) (d : DictName) (c : Name) (t : Ty) (os : List Binder) → apply_in depth s t left ≡ refused x k
    → apply_preds_pending s ((d, pred c t) ∷ os) left ≡ refused x k
unfolding apply_preds_pending apply_pred after
pending_stops left s d c t os e = rw e refl

-- One computation after two others.
pub after_both : {A B C : Type 0} (o : Out A) (f : A → ℕ → Out B) (g : B → ℕ → Out C) → after (after o f) g ≡ after o (λ a k. after (f a k) g)
unfolding after
after_both (done a k) f g = refl
after_both (refused r k) f g = refl

-- What follows, told otherwise.
pub after_ext : {A B : Type 0} (o : Out A) (f g : A → ℕ → Out B) → ((a : A) (k : ℕ) → f a k ≡ g a k) → after o f ≡ after o g
unfolding after
after_ext (done a k) f g h = h a k
after_ext (refused r k) f g h = refl

-- ## one row: r is what `row_at` returned
-- The words ls become letters whatever the table is.
pub letters_same : {ns ls : List ℕ} {s : Subst} (w w' : List ℕ) → Letters ns w ls s → Letters ns w' ls s
unfolding renamed_word
letters_same {ns} w w' S = record { at = λ x. S.at x ∙ rw (no_place w x, no_place w' x) refl }

module _ {ns w ls bs : List ℕ} {top left n i : ℕ} {r : Row} (G : ReadyRename ns w ls bs top left n) (h : i < n) (e : r ≡ row_at bs i) where
  -- A row that was replaced stays.
  pub row_stays : {d x : ℕ} → r ≡ Replaced d x → RenamesRow ns w w ls bs bs top left i (Done top left)
  unfolding count total
  row_stays k = record {
    stands = stands_refl w top (4 * top + 8 * left);
    others = λ j q. refl;
    answer = record {
      table = G.table;
      fits = λ x. x;
      type = G.binders.types i h;
      more = omega arith;
      down = omega arith;
      spent = rw (sym e ∙ k) (omega arith);
      same = refl;
      is = λ s S os. rw (sym e ∙ k) (sym (after_same (apply_preds_pending s os left)));
    };
  }

  module _ {d c t : ℕ} (k : r ≡ Pending d c t) where
    -- What renaming the type of a pending row asks.
    pub row_asks : R.ReadyRename ns w ls top left nil_word 0 t
    row_asks = record {
      names = G.names;
      node = subst (TypeIn w top) (sym e ∙ k) (G.binders.types i h);
      by = record { vars = low_node G.table (omega arith); words = omega arith; letters = G.letters };
      room = G.room;
    }

    -- The row has words.
    pub row_fits : 3 * i + 3 ≤ length bs
    row_fits = let f = G.binders.rows.fits in omega arith

    module _ {w' : List ℕ} {a : Applied} (A : R.TypeRenamed ns w w' ls top left depth nil_word 0 t a) where
      -- The type was refused.
      pub row_refused : {x : Refusal} {m l : ℕ} → a ≡ Not-made x m l → RenamesRow ns w w' ls bs bs top left i (Refused x m l)
      row_refused {x} {m} {l} q =
          let B = rw q at A.answer in
          record {
            stands = A.stands;
            others = λ j p. refl;
            answer = λ s S os. let F = B s S in record {
              is = rw (sym e ∙ k) (pending_stops left s (dvar d) (name_of ns c) (tree ns w t) os F.is);
              types = F.types;
              more = F.more;
              down = F.down;
            };
          }

      -- It was renamed and written.
      pub row_renamed : {bs' : List ℕ} {u m l : ℕ} → a ≡ Made u m l → bs' ≡ set bs (3 * i + 2) u → RenamesRow ns w w' ls bs bs' top left i (Done m l)
      unfolding count total
      row_renamed {bs'} {u} {m} {l} q z =
          let B = rw q at A.answer in
          let p : row_at bs' i ≡ Pending d c u = rw z (new_row bs i u row_fits (sym e ∙ k)) in
          let y = B.spent in
          let o = B.steps in
          record {
            stands = A.stands;
            others = λ j g. rw z (set_others bs i (3 * i + 2) u (omega arith) (omega arith) j g);
            answer = record {
              table = B.node.table;
              fits = λ x. rw p (rw (sym e ∙ k) at x);
              type = rw p B.node;
              more = B.more;
              down = omega arith;
              spent = rw (sym e ∙ k) (omega arith);
              same = rw (sym e ∙ k, p) refl;
              is = λ s S os. rw (sym e ∙ k, p) (pending_goes left s (dvar d) (name_of ns c) (tree ns w t) os (B.is s S));
            };
          }
