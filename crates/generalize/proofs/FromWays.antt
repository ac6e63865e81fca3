-- The rows from some number on, and `generalize_binding`: what the calls are asked, and the ways out.
use mathlib.Core.Path.{◌≡◌, refl, ap, sym, ◌∙◌, subst}
use mathlib.Core.List.{List, [], ◌++◌}
use Prim.Native.Nat.{ℕ, ◌+◌, ◌*◌, ◌-◌, ◌<◌, ◌≤◌}
use native.Mathlib.Omega.{arith}
use lib.ListN.{length, get_or, take, drop, get_or-append}
use lib.Seq.{get_or-take}
use lib.Seq.{length-take-le}
use Rattle.meaning.specs.Ast.{Ty, qual, Core, Binder}
use Rattle.meaning.specs.Budget.{done, after}
use Rattle.meaning.specs.Subst.{ftv_type}
use Rattle.meaning.specs.Classes.{ClassEnv}
use Rattle.meaning.specs.Generalize.{Env, env_ftv, preds_of, is_own}
use Rattle.theorems.proofs.Made.{MadeQual, MadeEnv, made_qual}
use Rattle.ast.specs.Table.{tree, Node}
use Rattle.ast.proofs.Laws.{kept_tree, node_more}
use Rattle.errors.specs.declared.Refusal.{Refusal}
use Rattle.pairs.proofs.Frames.{stands_then}
use Rattle.apply.proofs.Hand.{Then, then_done, refuse_on}
use Rattle.compose.proofs.Hand.{after-after}
use Rattle.subst.specs.Schemes.{scheme_of_word}
use Rattle.cores.specs.Terms.{core}
use Rattle.supers.specs.Rows.{row_at, binders_from, binders_in, TypeIn}
use Rattle.supers.specs.declared.rows.Row.{Row}
use Rattle.supers.specs.declared.rows.Row.TheVariants.{Pending, Replaced}
use Rattle.supers.proofs.RowLaws.{kept_rows}
use Rattle.scope.specs.Scope.{env_of}
use Rattle.scope.proofs.Laws.{scope_kept, env_kept}
use Rattle.pending.specs.Rows.{PendingRow}
use Rattle.settle.specs.Settles.{generalized}
use Rattle.settle.specs.Answers.{OwnRow, settled_out, SettledIn, GivesSettled}
use Rattle.settle.specs.Settled.{Settled}
use Rattle.settle.specs.Settled.{Done as Settled-Done, Refused as Settled-Refused}
use Rattle.settle.proofs.Halves.{generalize_is}
use Rattle.settle.proofs.Parts.{part_row, part_long}
use Rattle.settle.proofs.Course.{rows_shift}
use Rattle.generalize.specs.Named.{Named}
use Rattle.generalize.specs.Named.{Done as Named-Done, Refused as Named-Refused}
use Rattle.generalize.specs.Generalized.{Done as Generalized-Done, Refused as Generalized-Refused}
use Rattle.generalize.specs.Naming.{ReadyNames, GivesNamed}
use Rattle.generalize.specs.Generalizes.{LeftOver, concluded_for, GivesConcluded, ReadyFrom, GivesFrom, ReadyGeneralize, Known, generalized_out, GivesGeneralized}
use Rattle.generalize.proofs.Kept.{fit_made, fit_variable, kept_fit}

-- ## a part of the rows
-- A word before the part.
fore : (bs rest : List ℕ) (a i : ℕ) → a ≤ length bs → i < a → get_or (take a bs ++ rest) i 0 ≡ get_or bs i 0
fore bs rest a i h k = let z = length-take-le a bs h in get_or-append (take a bs) rest 0 i (omega arith) ∙ get_or-take a bs i 0 k

-- A row before it.
row_before : (bs rest : List ℕ) (nd j : ℕ) → 3 * nd ≤ length bs → j < nd → row_at (take (3 * nd) bs ++ rest) j ≡ row_at bs j
unfolding row_at
row_before bs rest nd j h k = rw (fore bs rest (3 * nd) (3 * j) h (omega arith), fore bs rest (3 * nd) (3 * j + 1) h (omega arith), fore bs rest (3 * nd) (3 * j + 2) h (omega arith)) refl

-- What `conclude` is asked of the part.
pub part_asked : {ns w ev od bs : List ℕ} {top left sp nd n t : ℕ} → ReadyFrom ns w ev od bs top left sp nd n t
    → ReadyNames ns w ev od (take (length bs - 3 * nd) (drop (3 * nd) bs)) top left sp (n - nd) t
part_asked {w = w} {bs = bs} {top = top} {nd = nd} {n = n} R =
    let m = R.most in
    let l = R.there in
    let z = part_long bs (3 * nd) (omega arith) in
    record {
      names = R.names;
      scope = R.scope;
      rows = record { fits = omega arith; each = λ j h. subst (λ (r : Row). OwnRow w top r) (sym (part_row bs nd n j m l h)) (R.own (nd + j) (omega arith) (omega arith)) };
      type = R.type;
      room = R.room;
      fits = R.fits;
    }

-- The binders of the part.
pub part_binders : (ns w bs : List ℕ) (nd n : ℕ) → nd ≤ n → 3 * n ≤ length bs → binders_in ns w (take (length bs - 3 * nd) (drop (3 * nd) bs)) 0 (n - nd) ≡ binders_in ns w bs nd n
part_binders ns w bs nd n m l =
    let z : n - nd - 0 ≡ n - nd = omega arith in
    ap (binders_from ns w (take (length bs - 3 * nd) (drop (3 * nd) bs)) 0) z
    ∙ rows_shift ns w bs (take (length bs - 3 * nd) (drop (3 * nd) bs)) nd 0 (n - nd) (λ j h. let a : 0 + j ≡ j = omega arith in ap (row_at (take (length bs - 3 * nd) (drop (3 * nd) bs))) a ∙ part_row bs nd n j m l h)

-- What it gives for all rows.
pub part_given : {ns w w' ev od bs : List ℕ} {top left sp nd n t : ℕ} {r : Named} (e : ℕ) (rest : List ℕ) → ReadyFrom ns w ev od bs top left sp nd n t
    → GivesConcluded ns w w' ev od (take (length bs - 3 * nd) (drop (3 * nd) bs)) top left sp (n - nd) t e r → GivesFrom ns w w' ev od bs (take (3 * nd) bs ++ rest) top left sp nd n t e r
part_given {ns} {w} {w'} {ev} {od} {bs} {top} {left} {sp} {nd} {n} {t} {r} e rest R G = let m = R.most in let l = R.there in
    record {
      before = λ j h. row_before bs rest nd j (omega arith) h;
      gives = subst (λ (os : List Binder). GivesNamed (LeftOver ns (env_of ns w ev od) (tree ns w t) os) ns w w' top left sp (concluded_for (env_of ns w ev od) (tree ns w t) os (core ns w e) left) r)
          (part_binders ns w bs nd n m l) G;
    }

-- ## the meaning
-- The second half is what `conclude` gives, with what is deferred.
generalized_is : (env : Env) (ty : Ty) (kept late : List Binder) (c : Core) (l : ℕ) → generalized env ty (kept, c, late) l ≡ after (concluded_for env ty kept c l) (λ p. done (p.0, p.1, late))
unfolding generalized
generalized_is env ty kept late c l = sym (after-after _ _ _)

-- ## the ways
module _ {ns cl w w₁ il ev od bs bs₁ : List ℕ} {top left sp n t e : ℕ} {r₁ : Settled} (R : ReadyGeneralize ns w il ev od bs top left sp n t e)
    (G : GivesSettled ns cl w w₁ il ev od bs bs₁ top left sp n t e r₁) where
  -- After what is settled comes the second half.
  halves : (ce : ClassEnv) → Then (generalized_out ns w ev od bs n t e left ce) (settled_out ns w ev od bs n t e left ce) (generalized (env_of ns w ev od) (tree ns w t))
  halves ce = record { is = generalize_is ce (env_of ns w ev od) (tree ns w t) (binders_in ns w bs 0 n) (core ns w e) left }

  -- Settling refuses.
  pub settle_refused : {x : Refusal} {m l : ℕ} → r₁ ≡ Settled-Refused x m l → GivesGeneralized ns cl w w₁ il ev od bs bs₁ top left sp n t e (Generalized-Refused x m l)
  settle_refused h = let g = rw h at G.answer in
      record { stands = G.stands; long = G.long; answer = λ ce K. refuse_on (halves ce) (g ce K.asked) (omega arith) (omega arith) }

  module _ {f nd m l : ℕ} (h : r₁ ≡ Settled-Done f nd m l) where
    -- What is settled.
    rows_settled : SettledIn ns cl w w₁ il ev od bs bs₁ top left n t e f nd m l
    rows_settled = rw h at G.answer

    -- The rows are there, and the table has grown.
    pub settle_more : (nd ≤ n) × ((3 * n ≤ length bs₁) × (top ≤ m))
    settle_more = let a = R.settle.rows.fits in let b = G.long in (rows_settled.most, (omega arith, rows_settled.more))

    -- What `conclude_from` is asked.
    pub from_asked : length w₁ ≡ length w → ReadyFrom ns w₁ ev od bs₁ m l sp nd n t
    from_asked len =
        let S = rows_settled in let a = S.spent in let r = R.settle.room in let z = R.settle.fits in
        record {
          names = R.settle.names;
          scope = scope_kept R.settle.scope G.stands.low S.more S.term.table;
          most = S.most;
          there = settle_more.1.0;
          own = S.own;
          type = node_more S.term.table S.more R.settle.type;
          room = omega arith;
          fits = omega arith;
        }

    -- And of the term.
    pub from_term : Node w₁ m f
    from_term = rows_settled.term

    -- The environment is the same.
    same_env : env_of ns w₁ ev od ≡ env_of ns w ev od
    same_env = env_kept R.settle.scope G.stands.low

    -- So is the type.
    same_type : tree ns w₁ t ≡ tree ns w t
    same_type = kept_tree ns G.stands.low R.settle.type

    module _ (ce : ClassEnv) (K : Known ns cl w top il (binders_in ns w bs 0 n) (tree ns w t) (core ns w e) (env_of ns w ev od) ce) where
      -- The second half after what was settled.
      second : Then (generalized_out ns w ev od bs n t e left ce) (concluded_for (env_of ns w₁ ev od) (tree ns w₁ t) (binders_in ns w₁ bs₁ nd n) (core ns w₁ f) l)
          (λ p. done (p.0, p.1, binders_in ns w₁ bs₁ 0 nd))
      second = record {
        is = then_done _ l (halves ce) (rows_settled.is ce K.asked) ∙ generalized_is (env_of ns w ev od) (tree ns w t) (binders_in ns w₁ bs₁ nd n) (binders_in ns w₁ bs₁ 0 nd) (core ns w₁ f) l
            ∙ ap (λ (a : Env). after (concluded_for a (tree ns w t) (binders_in ns w₁ bs₁ nd n) (core ns w₁ f) l) (λ p. done (p.0, p.1, binders_in ns w₁ bs₁ 0 nd))) (sym same_env)
            ∙ ap (λ (a : Ty). after (concluded_for (env_of ns w₁ ev od) a (binders_in ns w₁ bs₁ nd n) (core ns w₁ f) l) (λ p. done (p.0, p.1, binders_in ns w₁ bs₁ 0 nd))) (sym same_type);
      }

      -- What is left was made, and its types are variables.
      left_over : LeftOver ns (env_of ns w₁ ev od) (tree ns w₁ t) (binders_in ns w₁ bs₁ nd n)
      left_over =
          let k = kept_fit ce (is_own (ftv_type (tree ns w t) []) (env_ftv (env_of ns w ev od))) (binders_in ns w bs 0 n) (core ns w e) left l (binders_in ns w₁ bs₁ nd n) (binders_in ns w₁ bs₁ 0 nd) (core ns w₁ f) K.pending
          (rows_settled.is ce K.asked) in
          record {
            variables = fit_variable (preds_of (binders_in ns w₁ bs₁ nd n)) k;
            unnamed = record {
              built = R.built;
              type = subst (λ (a : Ty). MadeQual (qual (preds_of (binders_in ns w₁ bs₁ nd n)) a)) (sym same_type)
                  (made_qual (preds_of (binders_in ns w₁ bs₁ nd n)) (tree ns w t) (fit_made (preds_of (binders_in ns w₁ bs₁ nd n)) k) K.type);
              schemes = subst (λ (a : Env). MadeEnv a) (sym same_env) K.schemes;
            };
          }

    module _ {w₂ bs₂ : List ℕ} {r₂ : Named} (C : GivesFrom ns w₁ w₂ ev od bs₁ bs₂ m l sp nd n t f r₂) (wide : length bs₂ ≡ length bs₁) where
      -- The second half refuses.
      pub conclude_stops : {x : Refusal} {m₂ l₂ : ℕ} → r₂ ≡ Named-Refused x m₂ l₂ → GivesGeneralized ns cl w w₂ il ev od bs bs₂ top left sp n t e (Generalized-Refused x m₂ l₂)
      conclude_stops i = let g = rw i at C.gives.answer in
          record {
            stands = stands_then G.stands C.gives.stands rows_settled.more;
            long = wide ∙ G.long;
            answer = λ ce K. refuse_on (second ce K) (g (left_over ce K)) rows_settled.more rows_settled.down;
          }

      -- What is deferred.
      deferred_same : binders_in ns w₂ bs₂ 0 nd ≡ binders_in ns w₁ bs₁ 0 nd
      deferred_same = rows_shift ns w₂ bs₁ bs₂ 0 0 (nd - 0) (λ j k. C.before (0 + j) (omega arith))
          ∙ kept_rows ns bs₁ C.gives.stands.low 0 (nd - 0) (λ j p q. go (row_at bs₁ j) (rows_settled.late.each j (omega arith)))
        where
          go : (r : Row) → PendingRow w₁ m r → TypeIn w₁ m r
          go (Pending d c u) k = k.1.1
          go (Replaced d x) k = absurd k

      -- All of it.
      pub conclude_done : {vs ps u g m₂ l₂ : ℕ} → r₂ ≡ Named-Done vs ps u g m₂ l₂ → GivesGeneralized ns cl w w₂ il ev od bs bs₂ top left sp n t e (Generalized-Done vs ps u g nd m₂ l₂)
      conclude_done {vs} {ps} {u} {g} {m₂} {l₂} i =
          let A = rw i at C.gives.answer in
          let S = rows_settled in
          let a = S.more in
          let b = A.more in
          let c = S.spent in
          let d = A.spent in
          let y = S.down in
          let z = A.down in
          let v = S.late.fits in
          record {
            stands = stands_then G.stands C.gives.stands a;
            long = wide ∙ G.long;
            answer = record {
              held = A.held;
              term = A.term;
              most = S.most;
              late = record { fits = omega arith; each = λ j k. subst (λ (r : Row). PendingRow w₂ m₂ r) (sym (C.before j k)) (go A.term b (row_at bs₁ j) (S.late.each j k)) };
              more = omega arith;
              spent = omega arith;
              down = omega arith;
              is = λ ce K. then_done (scheme_of_word ns w₂ vs ps u, core ns w₂ g) l₂ (second ce K) (A.is (left_over ce K))
                  ∙ ap (λ (os : List Binder). done (scheme_of_word ns w₂ vs ps u, core ns w₂ g, os) l₂) (sym deferred_same);
            };
          }
        where
          go : Node w₂ m₂ g → m ≤ m₂ → (r : Row) → PendingRow w₁ m r → PendingRow w₂ m₂ r
          go T b (Pending d c u) k = (k.0, (k.1.0, node_more T.table b k.1.1))
          go T b (Replaced d x) k = absurd k
