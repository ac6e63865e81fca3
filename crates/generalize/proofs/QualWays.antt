-- Predicates and type with letters: what the calls of `name_qual` are asked, and its ways out.
use mathlib.Core.Path.{◌≡◌, refl, ap, sym, ◌∙◌, subst}
use mathlib.Core.List.{List, [], ◌∷◌}
use Prim.Native.Nat.{ℕ, zero, suc, ◌-◌, ◌<◌, ◌≤◌}
use native.Mathlib.Omega.{arith}
use lib.ListN.{length, take}
use Rattle.meaning.specs.Ast.{Ty, Pred, Qual, qual}
use Rattle.meaning.specs.Budget.{done, after}
use Rattle.meaning.specs.Subst.{Subst, apply_in, apply_type, apply_preds, apply_qual}
use Rattle.names.specs.Names.{Names}
use Rattle.ast.specs.Table.{nil_word, tree, Table}
use Rattle.ast.proofs.Laws.{kept_tree, node_more, low_node}
use Rattle.errors.specs.Refusals.{Refuses}
use Rattle.errors.specs.declared.Refusal.{Refusal}
use Rattle.pairs.specs.Pairs.{Stands}
use Rattle.pairs.proofs.Frames.{stands_then, stands_up}
use Rattle.apply.specs.Applied.{Applied}
use Rattle.apply.specs.Applied.{Done as Made, Refused as Not-made}
use Rattle.apply.proofs.Hand.{Then, then_done, refuse_on}
use Rattle.subst.specs.Preds.{preds_of_word}
use Rattle.subst.proofs.PredLaws.{kept_preds}
use Rattle.supers.specs.Rows.{row_at, binders_in, HasWord, TypeIn, Binders}
use Rattle.supers.specs.declared.rows.Row.{Row}
use Rattle.supers.specs.declared.rows.Row.TheVariants.{Pending, Replaced}
use Rattle.supers.proofs.RowLaws.{kept_rows}
use Rattle.scope.specs.Scope.{Smalls}
use Rattle.rename.specs.Renaming.{Renames, renamed_word}
use Rattle.rename.specs.Renamed as by
use Rattle.rename.specs.Renamed.{TypeRenamed}
use Rattle.canonical.specs.Named.{rows_qual}
use Rattle.canonical.specs.Rows.{leaves_preds, ReadyRename, RenamesRows, GivesRenamed}
use Rattle.canonical.proofs.Chosen.{no_place}
use Rattle.canonical.proofs.SameLeaves.{type_leaves, rows_leaves}
use Rattle.canoncore.specs.RowsReady.{SmallRow}
use Rattle.settle.specs.Answers.{OwnRow}
use Rattle.subst.specs.AppliedQual.{Done, Refused}
use Rattle.generalize.specs.Naming.{OwnRows, ReadyLetters, GivesLettered}
use Rattle.generalize.proofs.Again.{renamed_again}
use Rattle.generalize.proofs.Smallness.{SmallBinders, preds_small, rows_small, small_rows, renamed_small, renamed_smalls}

-- ## rows
-- Rows of one's own stand for binders.
pub own_binders : {w bs : List ℕ} {top n : ℕ} → OwnRows w bs top n → Binders w bs top n
own_binders {w} {bs} {top} O = record {
  rows = record { fits = O.fits; dicts = λ j h. worded (row_at bs j) (O.each j h) };
  types = λ j h. typed (row_at bs j) (O.each j h);
}
  where
    worded : (r : Row) → OwnRow w top r → HasWord r
    worded (Pending d c t) o = let x = o.0 in omega arith
    worded (Replaced d x) o = tt

    typed : (r : Row) → OwnRow w top r → TypeIn w top r
    typed (Pending d c t) o = o.1.1
    typed (Replaced d x) o = tt

-- Their numbers and classes fit into a word.
pub own_small : {w bs : List ℕ} {top n : ℕ} → OwnRows w bs top n → (j : ℕ) → j < n → SmallRow (row_at bs j)
own_small {w} {bs} {top} O j h = go (row_at bs j) (O.each j h)
  where
    go : (r : Row) → OwnRow w top r → SmallRow r
    go (Pending d c t) o = (o.0, o.1.0)
    go (Replaced d x) o = tt

-- So do their binders.
pub own_binders_small : {w bs : List ℕ} {top n : ℕ} (ns : List ℕ) → OwnRows w bs top n → SmallBinders ns (binders_in ns w bs 0 n)
own_binders_small {w} {bs} {top} {n} ns O = rows_small ns w bs 0 (n - 0) (λ i p q. own_small O i (omega arith))

-- Rows that stand for such binders are of one's own.
pub binders_own : {w bs : List ℕ} {top n : ℕ} (ns : List ℕ) → Names ns → Binders w bs top n → SmallBinders ns (binders_in ns w bs 0 n) → OwnRows w bs top n
binders_own {w} {bs} {top} {n} ns N B s = record { fits = B.rows.fits; each = λ i h. go (row_at bs i) (small_rows ns w bs N 0 (n - 0) s i (omega arith) (omega arith)) (B.types i h) }
  where
    go : (r : Row) → SmallRow r → TypeIn w top r → OwnRow w top r
    go (Pending d c t) s x = (s.0, (s.1, x))
    go (Replaced d x) s y = tt

-- They stand while the table does.
pub own_kept : {w w' bs : List ℕ} {top top' n : ℕ} → Table w' top' → top ≤ top' → OwnRows w bs top n → OwnRows w' bs top' n
own_kept {w} {w'} {bs} {top} {top'} T h O = record { fits = O.fits; each = λ i l. go (row_at bs i) (O.each i l) }
  where
    go : (r : Row) → OwnRow w top r → OwnRow w' top' r
    go (Pending d c t) o = (o.0, (o.1.0, node_more T h o.1.1))
    go (Replaced d x) o = tt

-- ## letters
-- At most so many words are taken.
pub take_few : (k : ℕ) (ls : List ℕ) → length (take k ls) ≤ k
take_few zero ls = omega arith
take_few (suc k) [] = omega arith
take_few (suc k) (l ∷ ls) = let h = take_few k ls in omega arith

-- Words that become letters do so over any words.
pub renames_any : (ns w ls : List ℕ) (s : Subst) (w' : List ℕ) → Renames ns w nil_word 0 ls s → Renames ns w' nil_word 0 ls s
unfolding renamed_word
renames_any ns w ls s w' X = record { at = λ x. X.at x ∙ rw (no_place w x, no_place w' x) refl }

-- ## a qualified type
-- After its predicates comes its type.
pub qual-after : (s : Subst) (q : Qual) (n l : ℕ) (ps : List Pred) → apply_preds s q.preds n ≡ done ps l → Then (apply_qual s q n) (apply_type s q.ty l) (λ u. done (qual ps u))
unfolding apply_qual after
qual-after s q n l ps e = record { is = rw e refl }

module _ {ns w ls bs : List ℕ} {top left sp n t : ℕ} (R : ReadyLetters ns w ls bs top left sp n t) where
  -- What `rename_rows` is asked.
  pub preds_asked : ReadyRename ns w ls bs top left n
  preds_asked = let r = R.room in let s = R.fits in record { names = R.names; table = R.type.table; binders = own_binders R.rows; letters = R.letters; room = omega arith }

  module _ {w₁ bs₁ : List ℕ} {r₁ : Applied} (G : GivesRenamed ns w w₁ ls bs bs₁ top left n r₁) where
    -- A predicate is refused.
    pub preds_refused : {x : Refusal} {m l : ℕ} → r₁ ≡ Not-made x m l → GivesLettered ns w w₁ ls bs bs₁ top left sp n t (Refused x m l)
    unfolding apply_qual
    preds_refused h = let g = rw h at G.answer in
        record { stands = stands_up G.stands R.room; answer = λ s L. refuse_on (record { is = refl }) (g s L) (omega arith) (omega arith) }

    module _ {ps m l : ℕ} (h : r₁ ≡ Made ps m l) where
      -- The renamed predicates.
      preds_made : RenamesRows ns w w₁ ls bs bs₁ top left n ps m l
      preds_made = rw h at G.answer

      -- The table has grown.
      pub preds_more : top ≤ m
      preds_more = preds_made.more

      -- What `rename` is asked.
      pub type_asked : length w₁ ≡ length w → by.ReadyRename ns w₁ ls m l nil_word 0 t
      type_asked len = let A = preds_made in let r = R.room in let s = R.fits in let z = A.spent in
          record {
            names = R.names;
            node = node_more A.node.table A.more R.type;
            by = record { vars = low_node A.node.table (omega arith); words = omega arith; letters = R.letters };
            room = omega arith;
          }

      -- The type before and after is the same.
      type_same : tree ns w₁ t ≡ tree ns w t
      type_same = kept_tree ns G.stands.low R.type

      module _ {w₂ : List ℕ} {r₂ : Applied} (T : TypeRenamed ns w₁ w₂ ls m l 256 nil_word 0 t r₂) where
        -- The frames of both.
        both_stand : Stands w w₂ top sp
        both_stand = let r = R.room in let z = preds_made.spent in stands_then (stands_up G.stands r) (stands_up T.stands (omega arith)) preds_made.more

        -- The type is refused.
        pub type_refused : {x : Refusal} {m₂ l₂ : ℕ} → r₂ ≡ Not-made x m₂ l₂ → GivesLettered ns w w₂ ls bs bs₁ top left sp n t (Refused x m₂ l₂)
        type_refused {x} {m₂} {l₂} i = let g = rw i at T.answer in
            record {
              stands = both_stand;
              answer = λ s L. refuse_on (qual-after s (rows_qual ns w bs n t) left l (preds_of_word ns w₁ ps) (preds_made.is s L))
                  (subst (λ (u : Ty). Refuses ns w₂ m l (apply_in 256 s u l) x m₂ l₂) type_same (g s (renames_any ns w ls s w₁ L)))
                  preds_made.more preds_made.down;
            }

        -- Both are renamed.
        pub qual_named : {u m₂ l₂ : ℕ} → r₂ ≡ Made u m₂ l₂ → GivesLettered ns w w₂ ls bs bs₁ top left sp n t (Done ps u m₂ l₂)
        qual_named {u} {m₂} {l₂} i =
            let A = preds_made in
            let g = rw i at T.answer in
            let K = T.stands.low in
            let P : preds_of_word ns w₂ ps ≡ preds_of_word ns w₁ ps = kept_preds ns K A.node in
            let b = A.spent in
            let c = g.spent in
            let e = type_leaves t u R.names (rw i at T) in
            let f = rows_leaves R.names A in
            let a : leaves_preds (preds_of_word ns w₂ ps) ≡ leaves_preds (preds_of_word ns w₁ ps) = ap (λ (z : List Pred). leaves_preds z) P in
            let j = A.more in
            let o = g.more in
            let v = A.down in
            let y = g.steps in
            let D : binders_in ns w₂ bs₁ 0 n ≡ binders_in ns w₁ bs₁ 0 n = kept_rows ns bs₁ K 0 (n - 0) (λ a p q. A.binders.types a (omega arith)) in
            record {
              stands = both_stand;
              answer = record {
                preds = node_more g.node.table o A.node;
                type = g.node;
                rows = own_kept g.node.table o (binders_own ns R.names A.binders (renamed_small ns ls w _ _ left l R.names A.rows (own_binders_small ns R.rows)));
                small = subst (Smalls ns) (sym P) (renamed_smalls ns ls w _ _ left l R.names A.is (preds_small ns (binders_in ns w bs 0 n) (own_binders_small ns R.rows)));
                more = omega arith;
                spent = omega arith;
                down = omega arith;
                again = λ s L S c m. rw D (renamed_again (binders_in ns w bs 0 n) (binders_in ns w₁ bs₁ 0 n) left l s S (A.rows s L) c m);
                is = λ s L. then_done (tree ns w₂ u) l₂ (qual-after s (rows_qual ns w bs n t) left l (preds_of_word ns w₁ ps) (A.is s L))
                    (ap (λ (a : Ty). apply_type s a l) (sym type_same) ∙ g.is s (renames_any ns w ls s w₁ L))
                    ∙ ap (λ (a : List Pred). done (qual a (tree ns w₂ u)) l₂) (sym P);
              };
            }
