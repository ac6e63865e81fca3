-- One turn of `simplify_context`: what each way out of `sift` says.
use mathlib.Core.Path.{◌≡◌, refl, sym, ◌∙◌}
use mathlib.Core.List.{List, [], ◌∷◌, ◌++◌, append-nil}
use mathlib.Core.Option.{none, some}
use Prim.Native.Nat.{ℕ, suc, ◌+◌, ◌*◌, ◌-◌, ◌<◌, ◌≤◌}
use native.Mathlib.Omega.{arith}
use native.Mathlib.Decide.{ℕ_discrete}
use lib.ListN.{length, get_or, set, length-set}
use lib.Seq.{get_or-set_same, get_or-set_other}
use Rattle.meaning.specs.Ast.{DictName, dvar, Pred, pred, Core, Binder}
use Rattle.meaning.specs.Errors.{Refusal}
use Rattle.meaning.specs.Budget.{done, refused, after}
use Rattle.meaning.specs.Classes.{ClassEnv}
use Rattle.meaning.specs.Reduce.{Removed, find_super_proof, sorted_out, simplify_from}
use Rattle.names.specs.Names.{name_of}
use Rattle.ast.specs.Table.{tree, Table, Kept}
use Rattle.ast.proofs.Laws.{kept_tree, kept_table, node_more}
use Rattle.errors.specs.declared.Refusal.{Refusal as A-Refusal}
use Rattle.errors.specs.Refusals.{refusal_of}
use Rattle.pairs.proofs.Frames.{stands_refl}
use Rattle.cores.specs.Terms.{core}
use Rattle.supers.specs.declared.rows.Row.{Row}
use Rattle.supers.specs.declared.rows.Row.TheVariants.{Pending, Replaced}
use Rattle.supers.specs.declared.Source.TheVariants.{Rows}
use Rattle.supers.specs.Searched.{Searched}
use Rattle.supers.specs.Searched.{Found, Nothing, Refused}
use Rattle.supers.specs.Rows.{mark, row_at, with_row, binders_in, HasWord, TypeIn, Binders}
use Rattle.supers.specs.Search.{ReadyIn, GivesFound}
use Rattle.supers.proofs.RowLaws.{row_replaced, row_open, row_pending, row_passed, kept_rows}
use Rattle.simplify.specs.Simplified.{Done, Refused as Is-Refused}
use Rattle.simplify.specs.Simplified.{removed_row, RowLeft, RowMade, ReadySimplify, Turn}
use Rattle.simplify.proofs.RowSets.{Words, row_words, set_others, same_rows, binders_split, binders_snoc}

-- ## Rows of which one was left

-- A row that stands.
pub left_same : (r : Row) → RowLeft r r
left_same (Pending d c t) = (refl, (refl, refl))
left_same (Replaced d x) = (refl, refl)

-- It has nothing new.
pub made_same : (w : List ℕ) (top : ℕ) (r : Row) → RowMade w top r r
made_same w top (Pending d c t) = tt
made_same w top (Replaced d x) = tt

-- And nothing is removed.
removed_same : (ns w : List ℕ) (r : Row) → removed_row ns w r r ≡ []
removed_same ns w (Pending d c t) = refl
removed_same ns w (Replaced d x) = refl

-- The dictionary of a row that was left has a word.
left_word : (r r' : Row) → RowLeft r r' → HasWord r → HasWord r'
left_word (Pending d c t) (Pending d₁ c₁ t₁) l h = rw l.0 h
left_word (Pending d c t) (Replaced d₁ e) l h = tt
left_word (Replaced d x) (Pending d₁ c₁ t₁) l h = absurd l
left_word (Replaced d x) (Replaced d₁ e) l h = tt

-- Its type is a word of the table, which may have grown.
left_type : {w' : List ℕ} {top' : ℕ} (w : List ℕ) (top : ℕ) (r r' : Row) → Table w' top' → top ≤ top' → RowLeft r r' → TypeIn w top r → TypeIn w' top' r'
left_type w top (Pending d c t) (Pending d₁ c₁ t₁) T m l N = rw l.1.1 (node_more T m N)
left_type w top (Pending d c t) (Replaced d₁ e) T m l N = tt
left_type w top (Replaced d x) (Pending d₁ c₁ t₁) T m l N = absurd l
left_type w top (Replaced d x) (Replaced d₁ e) T m l N = tt

-- Rows that were left stand for binders, under a table that may have grown.
pub binders_left : {w w' bs bs' : List ℕ} {top top' n : ℕ} → Binders w bs top n → Table w' top' → top ≤ top' → length bs' ≡ length bs → ((j : ℕ) → j < n → RowLeft (row_at bs j) (row_at bs' j)) → Binders w' bs' top' n
binders_left {w} {w'} {bs} {bs'} {top} {top'} {n} B T m l r = record {
  rows = record { fits = (let f = B.rows.fits in omega arith); dicts = λ j h. left_word (row_at bs j) (row_at bs' j) (r j h) (B.rows.dicts j h) };
  types = λ j h. left_type w top (row_at bs j) (row_at bs' j) T m (r j h) (B.types j h);
}

-- Rows of which row i was left and the others stand.
pub one_left : (bs bs' : List ℕ) (i : ℕ) → ((j : ℕ) → (j ≡ i → ⊥) → row_at bs' j ≡ row_at bs j) → RowLeft (row_at bs i) (row_at bs' i) → (j : ℕ) → RowLeft (row_at bs j) (row_at bs' j)
one_left bs bs' i o r j = go (ℕ_discrete j i)
  where
    go : Dec (j ≡ i) → RowLeft (row_at bs j) (row_at bs' j)
    go (yes e) = rw e r
    go (no h) = rw (o j h) (left_same (row_at bs j))

module _ {w w' bs : List ℕ} {top n i : ℕ} (ns bs' : List ℕ) (K : Kept w w' top) (B : Binders w bs top n) (o : (j : ℕ) → (j ≡ i → ⊥) → row_at bs' j ≡ row_at bs j) (h : i < n) where
  -- The binders before row i.
  before_row : binders_in ns w' bs' 0 i ≡ binders_in ns w bs 0 i
  before_row = same_rows ns w' bs bs' 0 (i - 0) (λ j p q. o j (omega arith)) ∙ kept_rows ns bs K 0 (i - 0) (λ j p q. B.types j (omega arith))

  -- Those after it.
  after_row : binders_in ns w' bs' (suc i) n ≡ binders_in ns w bs (suc i) n
  after_row = same_rows ns w' bs bs' (suc i) (n - suc i) (λ j p q. o j (omega arith)) ∙ kept_rows ns bs K (suc i) (n - suc i) (λ j p q. B.types j (omega arith))

  -- Those up to it.
  up_to_row : binders_in ns w' bs' 0 (suc i) ≡ binders_in ns w bs 0 i ++ with_row ns w' (row_at bs' i) []
  up_to_row = binders_snoc ns w' bs' i ∙ rw before_row

-- ## One turn of the definition

module _ (ce : ClassEnv) (x : DictName) (p : Pred) (ks bs : List Binder) (rs : List Removed) (left l : ℕ) where
  -- The others prove the binder.
  turn_some : (e : Core) → find_super_proof ce (ks ++ bs) p left ≡ done (some e) l → simplify_from ce ((x, p) ∷ bs) (ks, rs) left ≡ simplify_from ce bs (ks, rs ++ ((x, e) ∷ [])) l
  unfolding simplify_from sorted_out after
  turn_some e q = rw q

  -- They do not.
  turn_none : find_super_proof ce (ks ++ bs) p left ≡ done none l → simplify_from ce ((x, p) ∷ bs) (ks, rs) left ≡ simplify_from ce bs (ks ++ ((x, p) ∷ []), rs) l
  unfolding simplify_from sorted_out after
  turn_none q = rw q

  -- The search is refused.
  turn_refused : (z : Refusal) → find_super_proof ce (ks ++ bs) p left ≡ refused z l → simplify_from ce ((x, p) ∷ bs) (ks, rs) left ≡ refused z l
  unfolding simplify_from after
  turn_refused z q = rw q

-- ## The ways out of `sift`

module _ {ns w bs : List ℕ} {top left sp n i : ℕ} {q : Row} (R : ReadySimplify ns w bs top left sp n) (h : i < n) (e : q ≡ row_at bs i) where
  -- The row was replaced before.
  pub turn_passed : {d x : ℕ} (cl : List ℕ) → q ≡ Replaced d x → Turn ns cl w w bs bs top left sp n i (Done top left)
  turn_passed cl k =
      let r = sym e ∙ k in
      record {
        stands = stands_refl w top sp;
        others = λ j m. refl;
        row = left_same (row_at bs i);
        outside = λ j m. refl;
        answer = record {
          grown = record { table = R.table; more = omega arith; down = omega arith; spent = omega arith };
          made = made_same w top (row_at bs i);
          is = λ ce S rs. rw (row_passed ns w bs i n h r, binders_snoc ns w bs i, r, append-nil (binders_in ns w bs 0 i), append-nil rs);
        };
      }

  module _ {d c t : ℕ} {bs₁ : List ℕ} (k : q ≡ Pending d c t) (m : bs₁ ≡ set bs (3 * i + 1) mark) where
    -- It is pending.
    here : row_at bs i ≡ Pending d c t
    here = sym e ∙ k

    -- Its words.
    words : Words bs i d c t
    words = row_words bs i here

    -- They are there.
    pub row_fits : 3 * i + 2 < length bs₁
    row_fits = let f = R.binders.rows.fits in rw m (rw (length-set bs (3 * i + 1) mark) (omega arith))

    -- While it is marked, the others stand.
    marked_others : (j : ℕ) → (j ≡ i → ⊥) → row_at bs₁ j ≡ row_at bs j
    marked_others j l = rw m (set_others bs i (3 * i + 1) mark (omega arith) (omega arith) j l)

    -- Its words are the same but for its class.
    marked_dict : get_or bs₁ (3 * i) 0 ≡ d
    marked_dict = rw m (get_or-set_other bs (3 * i + 1) (3 * i) mark 0 (omega arith) ∙ words.dict)

    marked_class : get_or bs₁ (3 * i + 1) 0 ≡ mark
    marked_class = let f = R.binders.rows.fits in rw m (get_or-set_same bs (3 * i + 1) mark 0 (omega arith))

    marked_type : get_or bs₁ (3 * i + 2) 0 ≡ t
    marked_type = rw m (get_or-set_other bs (3 * i + 1) (3 * i + 2) mark 0 (omega arith) ∙ words.ty)

    -- It counts as replaced.
    marked_here : row_at bs₁ i ≡ Replaced d t
    unfolding row_at
    marked_here = rw (marked_dict, marked_class, marked_type) (row_replaced d mark t refl)

    -- The search can begin.
    pub mark_ready : ReadyIn ns w bs₁ top left sp (Rows n) 0 0 t
    mark_ready = record {
      names = R.names;
      givens = binders_left R.binders R.table (omega arith) (rw m (length-set bs (3 * i + 1) mark)) (λ j b. one_left bs bs₁ i marked_others (rw (here, marked_here) refl) j);
      ty = rw here at (R.binders.types i h);
      room = R.room;
      fits = R.fits;
    }

    -- It looks through the rows before and after this one.
    looked : binders_in ns w bs₁ 0 n ≡ binders_in ns w bs 0 i ++ binders_in ns w bs (suc i) n
    looked =
        binders_split ns w bs₁ i n (omega arith)
        ∙ rw (same_rows ns w bs bs₁ 0 (i - 0) (λ j p z. marked_others j (omega arith)), row_passed ns w bs₁ i n h marked_here, same_rows ns w bs bs₁ (suc i) (n - suc i) (λ j p z. marked_others j (omega arith)))

    module _ {bs₂ : List ℕ} (a v : ℕ) (z : bs₂ ≡ set bs₁ a v) (lo : 3 * i < a) (hi : a < 3 * i + 3) where
      -- After the second writing the others stand.
      then_others : (j : ℕ) → (j ≡ i → ⊥) → row_at bs₂ j ≡ row_at bs j
      then_others j l = rw z (set_others bs₁ i a v lo hi j l ∙ marked_others j l)

      -- And what lies after all rows.
      then_outside : (j : ℕ) → 3 * n ≤ j → get_or bs₂ j 0 ≡ get_or bs j 0
      then_outside j l = rw (z, m) (get_or-set_other (set bs (3 * i + 1) mark) a j v 0 (omega arith) ∙ get_or-set_other bs (3 * i + 1) j mark 0 (omega arith))

    -- The row is replaced by x.
    replaced_here : {bs₂ : List ℕ} {x : ℕ} → bs₂ ≡ set bs₁ (3 * i + 2) x → row_at bs₂ i ≡ Replaced d x
    unfolding row_at
    replaced_here {bs₂} {x} z =
        let f = row_fits in
        rw (
          z,
          get_or-set_other bs₁ (3 * i + 2) (3 * i) x 0 (omega arith),
          get_or-set_other bs₁ (3 * i + 2) (3 * i + 1) x 0 (omega arith),
          get_or-set_same bs₁ (3 * i + 2) x 0 (omega arith),
          marked_dict,
          marked_class,
        ) (row_replaced d mark x refl)

    -- It has its class again.
    restored_here : {bs₂ : List ℕ} → bs₂ ≡ set bs₁ (3 * i + 1) c → row_at bs₂ i ≡ Pending d c t
    unfolding row_at
    restored_here {bs₂} z =
        let f = row_fits in
        rw (
          z,
          get_or-set_other bs₁ (3 * i + 1) (3 * i) c 0 (omega arith),
          get_or-set_same bs₁ (3 * i + 1) c 0 (omega arith),
          get_or-set_other bs₁ (3 * i + 1) (3 * i + 2) c 0 (omega arith),
          marked_dict,
          marked_type,
        ) (row_open d c t words.free)

    module _ {cl w' bs₂ : List ℕ} {s : Searched} (long : length w' ≡ length w)
        (G : GivesFound ns cl w w' top left sp (λ ce. find_super_proof ce (binders_in ns w bs₁ 0 n) (pred (name_of ns c) (tree ns w t)) left) s) where
      -- The others prove it.
      pub turn_found : {x top' left' : ℕ} → s ≡ Found x top' left' → bs₂ ≡ set bs₁ (3 * i + 2) x → Turn ns cl w w' bs bs₂ top left sp n i (Done top' left')
      turn_found {x} {top'} {left'} y z =
          let F = rw y at G.answer in
          let spent = F.spent in
          let down = F.down in
          let row = replaced_here z in
          record {
            stands = G.stands;
            others = then_others (3 * i + 2) x z (omega arith) (omega arith);
            row = rw (here, row) refl;
            outside = then_outside (3 * i + 2) x z (omega arith) (omega arith);
            answer = record {
              grown = record { table = F.node.table; more = F.more; down = omega arith; spent = omega arith };
              made = rw (here, row) F.node;
              is = λ ce S rs. rw (
                row_pending ns w bs i n h here,
                up_to_row ns bs₂ G.stands.low R.binders (then_others (3 * i + 2) x z (omega arith) (omega arith)) h,
                after_row ns bs₂ G.stands.low R.binders (then_others (3 * i + 2) x z (omega arith) (omega arith)) h,
                here,
                row,
                append-nil,
              ) (turn_some ce (dvar d) (pred (name_of ns c) (tree ns w t)) (binders_in ns w bs 0 i) (binders_in ns w bs (suc i) n) rs left left' (core ns w' x) (rw (sym looked) (F.is ce S)));
            };
          }

      module _ (z : bs₂ ≡ set bs₁ (3 * i + 1) c) where
        -- The row stands again.
        restored_left : RowLeft (row_at bs i) (row_at bs₂ i)
        restored_left = rw (here, restored_here z) (refl, (refl, refl))

        -- They do not prove it.
        pub turn_kept : {left' : ℕ} → s ≡ Nothing left' → Turn ns cl w w' bs bs₂ top left sp n i (Done top left')
        turn_kept {left'} y =
            let F = rw y at G.answer in
            let down = F.down in
            let o = R.table.room in
            record {
              stands = G.stands;
              others = then_others (3 * i + 1) c z (omega arith) (omega arith);
              row = restored_left;
              outside = then_outside (3 * i + 1) c z (omega arith) (omega arith);
              answer = record {
                grown = record { table = kept_table G.stands.low (omega arith) R.table; more = omega arith; down = omega arith; spent = omega arith };
                made = rw (here, restored_here z) tt;
                is = λ ce S rs. rw (
                  row_pending ns w bs i n h here,
                  up_to_row ns bs₂ G.stands.low R.binders (then_others (3 * i + 1) c z (omega arith) (omega arith)) h,
                  after_row ns bs₂ G.stands.low R.binders (then_others (3 * i + 1) c z (omega arith) (omega arith)) h,
                  here,
                  restored_here z,
                  kept_tree ns G.stands.low mark_ready.ty,
                  append-nil,
                ) (turn_none ce (dvar d) (pred (name_of ns c) (tree ns w t)) (binders_in ns w bs 0 i) (binders_in ns w bs (suc i) n) rs left left' (rw (sym looked) (F.is ce S)));
              };
            }

        -- The search is refused.
        pub turn_lost : {x : A-Refusal} {top' left' : ℕ} → s ≡ Refused x top' left' → Turn ns cl w w' bs bs₂ top left sp n i (Is-Refused x top' left')
        turn_lost {x} {top'} {left'} y =
            let F = rw y at G.answer in
            record {
              stands = G.stands;
              others = then_others (3 * i + 1) c z (omega arith) (omega arith);
              row = restored_left;
              outside = then_outside (3 * i + 1) c z (omega arith) (omega arith);
              answer = λ ce S rs. record {
                is = rw (row_pending ns w bs i n h here) (turn_refused ce (dvar d) (pred (name_of ns c) (tree ns w t)) (binders_in ns w bs 0 i) (binders_in ns w bs (suc i) n) rs left left' (refusal_of ns w' x) (rw (sym looked) (F ce S).is));
                types = (F ce S).types;
                more = (F ce S).more;
                down = (F ce S).down;
              };
            }
