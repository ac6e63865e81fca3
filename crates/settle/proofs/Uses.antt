-- What callers make of `settle`'s promise: `generalize_binding`, `finalize_expr` without an environment, and the rows from number nd
-- on as rows of their own.
use mathlib.Core.Path.{◌≡◌, refl, ap, sym, ◌∙◌, subst}
use mathlib.Core.Bool.{true}
use mathlib.Core.List.{List, []}
use Prim.Native.Nat.{ℕ, ◌+◌, ◌*◌, ◌-◌, ◌<◌, ◌≤◌}
use native.Mathlib.Omega.{arith}
use lib.ListN.{length, take, drop}
use Rattle.meaning.specs.Ast.{Core, Binder}
use Rattle.meaning.specs.Errors.{Refusal}
use Rattle.meaning.specs.Budget.{done, refused, after}
use Rattle.meaning.specs.Subst.{ftv_type}
use Rattle.meaning.specs.Classes.{ClassEnv}
use Rattle.meaning.specs.Generalize.{env_ftv, generalize_binding, finalize_expr}
use Rattle.ast.specs.Table.{tree}
use Rattle.scope.specs.Scope.{env_of}
use Rattle.scope.proofs.Empties.{no_env}
use Rattle.cores.specs.Terms.{core}
use Rattle.supers.specs.Rows.{row_at, binders_from, binders_in, HasWord, TypeIn, Binders}
use Rattle.supers.specs.declared.rows.Row.{Row}
use Rattle.supers.specs.declared.rows.Row.TheVariants.{Pending, Replaced}
use Rattle.settle.specs.Settles.{settled, generalized, finalized}
use Rattle.settle.specs.Answers.{settled_out, OwnRow, SettledIn}
use Rattle.settle.proofs.Halves.{generalize_is, finalize_is, settled_alone}
use Rattle.settle.proofs.Parts.{part_row, part_long}
use Rattle.settle.proofs.Course.{rows_shift}

-- ## `generalize_binding`

module _ (ns w ev od bs : List ℕ) (n t e left : ℕ) (ce : ClassEnv) where
  -- It goes on with what was settled.
  pub generalize_goes : {r : List Binder × Core × List Binder} {m : ℕ} → settled_out ns w ev od bs n t e left ce ≡ done r m
      → generalize_binding ce (env_of ns w ev od) (tree ns w t) (binders_in ns w bs 0 n) (core ns w e) left ≡ generalized (env_of ns w ev od) (tree ns w t) r m
  unfolding after
  generalize_goes h = generalize_is ce (env_of ns w ev od) (tree ns w t) (binders_in ns w bs 0 n) (core ns w e) left ∙ rw h refl

  -- A refusal is its own.
  pub generalize_stops : {x : Refusal} {m : ℕ} → settled_out ns w ev od bs n t e left ce ≡ refused x m
      → generalize_binding ce (env_of ns w ev od) (tree ns w t) (binders_in ns w bs 0 n) (core ns w e) left ≡ refused x m
  unfolding after
  generalize_stops h = generalize_is ce (env_of ns w ev od) (tree ns w t) (binders_in ns w bs 0 n) (core ns w e) left ∙ rw h refl

-- ## `finalize_expr`: the caller lends no environment

module _ (ns w bs : List ℕ) (n t e left : ℕ) (ce : ClassEnv) where
  -- Nothing is deferred.
  pub settled_out_alone : settled_out ns w [] [] bs n t e left ce ≡ settled ce (λ b. true) (binders_in ns w bs 0 n) (core ns w e) left
  unfolding env_ftv
  settled_out_alone = rw (no_env ns w) (settled_alone ce (ftv_type (tree ns w t) []) (binders_in ns w bs 0 n) (core ns w e) left)

  -- It goes on with what was settled.
  pub finalize_goes : {r : List Binder × Core × List Binder} {m : ℕ} → settled_out ns w [] [] bs n t e left ce ≡ done r m
      → finalize_expr ce (tree ns w t) (binders_in ns w bs 0 n) (core ns w e) left ≡ finalized (tree ns w t) r m
  unfolding after
  finalize_goes h = finalize_is ce (tree ns w t) (binders_in ns w bs 0 n) (core ns w e) left ∙ rw (sym settled_out_alone ∙ h) refl

  -- A refusal is its own.
  pub finalize_stops : {x : Refusal} {m : ℕ} → settled_out ns w [] [] bs n t e left ce ≡ refused x m
      → finalize_expr ce (tree ns w t) (binders_in ns w bs 0 n) (core ns w e) left ≡ refused x m
  unfolding after
  finalize_stops h = finalize_is ce (tree ns w t) (binders_in ns w bs 0 n) (core ns w e) left ∙ rw (sym settled_out_alone ∙ h) refl

-- ## The rows from number nd on

-- The dictionary of such a row has a word.
own_word : (w : List ℕ) (top : ℕ) (r : Row) → OwnRow w top r → HasWord r
own_word w top (Pending d c t) h = let k = h.0 in omega arith
own_word w top (Replaced d x) h = tt

-- And the row a type.
own_type : (w : List ℕ) (top : ℕ) (r : Row) → OwnRow w top r → TypeIn w top r
own_type w top (Pending d c t) h = h.1.1
own_type w top (Replaced d x) h = tt

module _ {ns cl w w' il ev od bs bs' : List ℕ} {top left n t e e' nd top' left' : ℕ} (S : SettledIn ns cl w w' il ev od bs bs' top left n t e e' nd top' left') (fits : 3 * n ≤ length bs') where
  -- Each of them is in its bounds.
  pub own_part : (j : ℕ) → j < n - nd → OwnRow w' top' (row_at (take (length bs' - 3 * nd) (drop (3 * nd) bs')) j)
  own_part j h = subst (λ (r : Row). OwnRow w' top' r) (sym (part_row bs' nd n j S.most fits h)) (S.own (nd + j) (omega arith) (omega arith))

  -- They stand for binders.
  pub own_binders : Binders w' (take (length bs' - 3 * nd) (drop (3 * nd) bs')) top' (n - nd)
  own_binders =
      let o = S.most in
      let z = part_long bs' (3 * nd) (omega arith) in
      record {
        rows = record { fits = omega arith; dicts = λ j h. own_word w' top' (row_at (take (length bs' - 3 * nd) (drop (3 * nd) bs')) j) (own_part j h) };
        types = λ j h. own_type w' top' (row_at (take (length bs' - 3 * nd) (drop (3 * nd) bs')) j) (own_part j h);
      }

  -- For those that are kept.
  pub own_part_is : (ns₁ w₁ : List ℕ) → binders_in ns₁ w₁ (take (length bs' - 3 * nd) (drop (3 * nd) bs')) 0 (n - nd) ≡ binders_in ns₁ w₁ bs' nd n
  own_part_is ns₁ w₁ =
      let z : n - nd - 0 ≡ n - nd = omega arith in
      ap (binders_from ns₁ w₁ (take (length bs' - 3 * nd) (drop (3 * nd) bs')) 0) z
      ∙ rows_shift ns₁ w₁ bs' (take (length bs' - 3 * nd) (drop (3 * nd) bs')) nd 0 (n - nd) (λ m h. let a : 0 + m ≡ m = omega arith in ap (row_at (take (length bs' - 3 * nd) (drop (3 * nd) bs'))) a ∙ part_row bs' nd n m S.most fits h)
