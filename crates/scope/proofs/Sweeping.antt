-- `apply_row` and `apply_env`: what becomes of a row, and what the rows that are left give after those before them.
use mathlib.Core.Path.{◌≡◌, refl, ap, sym, ◌∙◌}
use mathlib.Core.List.{List, [], ◌∷◌, ◌++◌}
use mathlib.Core.Option.{Option, none, some}
use Prim.Native.Nat.{ℕ, suc, ◌+◌, ◌*◌, ◌-◌, ◌<◌, ◌≤◌}
use native.Mathlib.Omega.{arith}
use native.Mathlib.Decide.{ℕ_discrete}
use native.Mathlib.Numerals.{add-one}
use lib.ListN.{length, get_or}
use Rattle.meaning.specs.Ast.{Name, Scheme}
use Rattle.meaning.specs.Budget.{Out, done, refused, after}
use Rattle.meaning.specs.Subst.{Subst, apply_scheme}
use Rattle.meaning.specs.Generalize.{Env}
use Rattle.meaning.specs.Infer.{apply_schemes}
use Rattle.theorems.proofs.Says.{Limit, of_done}
use Rattle.ast.specs.Table.{Table}
use Rattle.ast.proofs.Laws.{node_more}
use Rattle.ast.proofs.Join.{joined}
use Rattle.errors.specs.declared.Refusal.{Refusal}
use Rattle.pairs.specs.Pairs.{sub_at, Stands}
use Rattle.pairs.proofs.Frames.{stands_refl, stands_then, stands_up, sub-later, sub_stands}
use Rattle.apply.proofs.Hand.{Then, then_done, refuse_on}
use Rattle.subst.specs.Schemes.{scheme_of_word, ReadyScheme, GivesScheme}
use Rattle.subst.specs.AppliedQual.{AppliedQual}
use Rattle.subst.specs.AppliedQual.{Done as Qual-Done, Refused as Qual-Refused}
use Rattle.scope.specs.Scope.{closed_entry, local_entry, entry_of, with_entry, scheme_in, with_scheme, env_from, env_of, Fine, Held, HeldClosed, EntryIn, Scope}
use Rattle.scope.specs.Sweeps.{ReadyRow, applied, RowDone, GivesRow, ReadyEnv, GivesEnv}
use Rattle.scope.specs.declared.Entry.{Entry}
use Rattle.scope.specs.declared.Entry.TheVariants.{Nothing}
use Rattle.scope.specs.Swept.{Swept}
use Rattle.scope.specs.Swept.{Done, Refused}
use Rattle.scope.proofs.EntryLaws.{entry_long, entry_here, entry_other}
use Rattle.scope.proofs.Envs.{name_at, scheme_at, apart, envs_same, env_last}
use Rattle.scope.proofs.Fines.{apply_fine, entry_kept, scheme_kept}
use Rattle.scope.proofs.Laws.{scope_row}

-- Buffers behind one closed table are as long as each other where both lists are.
pub same_short : (b v v' : List ℕ) → length (b ++ v') ≡ length (b ++ v) → length v' ≡ length v
same_short b v v' e = let p = joined b v in let q = joined b v' in omega arith

-- ## The ways out of `apply_row`: q is what `row_at` returned

module _ {ns w ev : List ℕ} {top left at k r : ℕ} (R : ReadyRow ns w ev top left at k r) {q : Entry} (e : q ≡ entry_of ev r) where
  -- There is no scheme.
  pub row_nothing : q ≡ Nothing → GivesRow ns w w ev ev top left r (applied (sub_at ns w at k) (scheme_in ns w (entry_of ev r)) left) (Done top left)
  unfolding applied
  row_nothing f = record {
    stands = stands_refl _ _ _;
    wide = refl;
    answer = record { table = R.table; more = omega arith; spent = omega arith; down = omega arith; entry = R.entry; others = λ j h. refl; is = rw (sym e ∙ f) };
  }

  -- A closed scheme stays, for no step.
  pub row_closed : {vs ps t : ℕ} → q ≡ closed_entry vs ps t → GivesRow ns w w ev ev top left r (applied (sub_at ns w at k) (scheme_in ns w (entry_of ev r)) left) (Done top left)
  unfolding applied apply_scheme after
  row_closed {vs} {ps} {t} f =
      let E : HeldClosed ns w top vs ps t = rw (sym e ∙ f) at R.entry in
      record {
        stands = stands_refl _ _ _;
        wide = refl;
        answer = record { table = R.table; more = omega arith; spent = omega arith; down = omega arith; entry = R.entry; others = λ j h. refl; is = rw (sym e ∙ f, E.closed) };
      }

  module _ {vs ps t : ℕ} (f : q ≡ local_entry vs ps t) where
    -- The words of any other.
    held : Held ns w top vs ps t
    held = rw (sym e ∙ f) at R.entry

    -- What is asked of them.
    pub row_ready : ReadyScheme ns w top left at k vs ps t
    row_ready = record { qual = record { ty = record { names = R.names; node = held.type; room = R.room; sub = R.sub }; preds = held.preds }; vars = held.vars }

    module _ {w₁ : List ℕ} {x : AppliedQual} (G : GivesScheme ns w w₁ top left vs ps t (apply_scheme (sub_at ns w at k) (scheme_of_word ns w vs ps t) left) x) where
      -- That scheme, if there is an answer.
      then_some : Then (applied (sub_at ns w at k) (scheme_in ns w (entry_of ev r)) left) (apply_scheme (sub_at ns w at k) (scheme_of_word ns w vs ps t) left) (λ c m. done (some c) m)
      unfolding applied
      then_some = record { is = rw (sym e ∙ f) }

      -- It is replaced.
      pub row_applied : {ev₁ : List ℕ} {ps₁ u t₁ l₁ : ℕ} → x ≡ Qual-Done ps₁ u t₁ l₁ → ev₁ ≡ with_entry ev r (local_entry vs ps₁ u)
          → GivesRow ns w w₁ ev ev₁ top left r (applied (sub_at ns w at k) (scheme_in ns w (entry_of ev r)) left) (Done t₁ l₁)
      row_applied {ev₁} {ps₁} {u} {t₁} {l₁} g p =
          let A = rw g at G.answer in
          let N = A.1.1.node in
          let here : entry_of ev₁ r ≡ local_entry vs ps₁ u = ap (λ v. entry_of v r) p ∙ entry_here ev r (local_entry vs ps₁ u) R.there in
          let F : Fine ns (scheme_of_word ns w₁ vs ps₁ u) = of_done (λ c. Fine ns c) Limit _ _ l₁ (apply_fine (sub_at ns w at k) (scheme_of_word ns w vs ps t) left held.fine) A.0 in
          record {
            stands = G.stands;
            wide = ap length p ∙ entry_long ev r (local_entry vs ps₁ u);
            answer = record {
              table = N.table;
              more = A.1.1.more;
              spent = A.1.1.spent;
              down = A.1.1.down;
              entry = rw here (record { vars = node_more N.table A.1.1.more held.vars; preds = A.1.0; type = N; fine = F });
              others = λ j h. ap (λ v. entry_of v j) p ∙ entry_other ev r (local_entry vs ps₁ u) j h;
              is = rw here (then_done _ l₁ then_some A.0);
            };
          }

      -- It is refused.
      pub row_refused : {y : Refusal} {t₁ l₁ : ℕ} → x ≡ Qual-Refused y t₁ l₁ → GivesRow ns w w₁ ev ev top left r (applied (sub_at ns w at k) (scheme_in ns w (entry_of ev r)) left) (Refused y t₁ l₁)
      row_refused g = record { stands = G.stands; wide = refl; answer = refuse_on then_some (rw g at G.answer) (omega arith) (omega arith) }

-- ## One name of the definition

-- Nothing is put after.
append_none : (xs : Env) → xs ++ [] ≡ xs
append_none [] = refl
append_none (p ∷ xs) = ap (λ (s : Env). p ∷ s) (append_none xs)

-- One pair is the last of the first or the first of the rest.
append_one : (xs : Env) (p : Name × Scheme) (ys : Env) → xs ++ (p ∷ ys) ≡ (xs ++ (p ∷ [])) ++ ys
append_one [] p ys = refl
append_one (q ∷ xs) p ys = ap (λ (s : Env). q ∷ s) (append_one xs p ys)

-- An outcome and nothing after it.
after_all : (o : Out Env) → o ≡ after o (λ rest l. done ([] ++ rest) l)
unfolding after
after_all (done a l) = refl
after_all (refused r l) = refl

-- A name, with the names before it and those after it.
one_name : (s : Subst) (x : Name) (o : Option Scheme) (env before : Env) (n : ℕ)
    → after (apply_schemes s (with_scheme x o env) n) (λ rest l. done (before ++ rest) l) ≡ after (applied s o n) (λ c m. after (apply_schemes s env m) (λ rest l. done ((before ++ with_scheme x c []) ++ rest) l))
unfolding applied apply_schemes after
one_name s x none env before n = rw (append_none before)
one_name s x (some c) env before n = go (apply_scheme s c n)
  where
    last : (d : Scheme) (o : Out Env) → after (after o (λ rest. done ((x, d) ∷ rest))) (λ rest l. done (before ++ rest) l) ≡ after o (λ rest l. done ((before ++ ((x, d) ∷ [])) ++ rest) l)
    last d (done rest l) = ap (λ (v : Env). done v l) (append_one before (x, d) rest)
    last d (refused r l) = refl

    go : (o : Out Scheme) → after (after o (λ d m. after (apply_schemes s env m) (λ rest. done ((x, d) ∷ rest)))) (λ rest l. done (before ++ rest) l)
        ≡ after (after o (λ d m. done (some d) m)) (λ d m. after (apply_schemes s env m) (λ rest l. done ((before ++ with_scheme x d []) ++ rest) l))
    go (done d m) = last d (apply_schemes s env m)
    go (refused r m) = refl

-- ## The loop has done the names before number i: the words are w₁ and the rows ev₁

pub record Sweeping (ns w ev od : List ℕ) (top left at k : ℕ) (w₁ ev₁ : List ℕ) (t m i : ℕ) : Type 0 where
  pub stands : Stands w w₁ top (4 * top + 8 * left)
  pub long : length w₁ ≡ length w
  pub wide : length ev₁ ≡ length ev
  pub table : Table w₁ t
  pub more : top ≤ t
  pub spent : 4 * t + 8 * m ≤ 4 * top + 8 * left
  pub down : m ≤ left
  pub under : i ≤ length od
  pub scope : Scope ns w₁ ev₁ od t
  pub is : apply_schemes (sub_at ns w at k) (env_of ns w ev od) left
      ≡ after (apply_schemes (sub_at ns w at k) (env_from ns w₁ ev₁ od i (length od - i)) m) (λ rest l. done (env_from ns w₁ ev₁ od 0 i ++ rest) l)

module _ {ns w ev od : List ℕ} {top left at k : ℕ} (R : ReadyEnv ns w ev od top left at k) where
  -- At first none.
  pub sweeping : Sweeping ns w ev od top left at k w ev top left 0
  unfolding env_from
  sweeping =
      let z : length od - 0 ≡ length od = omega arith in
      record {
        stands = stands_refl _ _ _;
        long = refl;
        wide = refl;
        table = R.table;
        more = omega arith;
        spent = omega arith;
        down = omega arith;
        under = omega arith;
        scope = R.scope;
        is = rw z (after_all (apply_schemes (sub_at ns w at k) (env_of ns w ev od) left));
      }

  module _ {w₁ ev₁ : List ℕ} {t m i : ℕ} (I : Sweeping ns w ev od top left at k w₁ ev₁ t m i) where
    -- All names are done.
    pub swept_all : length od ≤ i → GivesEnv ns w w₁ ev ev₁ od top left (apply_schemes (sub_at ns w at k) (env_of ns w ev od) left) (Done t m)
    unfolding env_from apply_schemes after
    swept_all h =
        let u = I.under in
        let z : length od - i ≡ 0 = omega arith in
        let y : length od ≡ i = omega arith in
        record {
          stands = I.stands;
          wide = I.wide;
          answer = record {
            table = I.table;
            more = I.more;
            spent = I.spent;
            down = I.down;
            scope = I.scope;
            is = I.is ∙ rw z (ap (λ (v : Env). done v m) (append_none (env_from ns w₁ ev₁ od 0 i) ∙ ap (λ n. env_from ns w₁ ev₁ od 0 n) (sym y)));
          };
        }

    module _ (h : i < length od) where
      -- The i-th name is one of those that have rows.
      pub swept_below : get_or od i 0 < length od
      swept_below = I.scope.order.below i h

      -- What is asked of its row.
      pub swept_ready : ReadyRow ns w₁ ev₁ t m at k (get_or od i 0)
      swept_ready =
          let s = I.spent in let r = R.room in let a = I.long in
          record {
            names = R.names;
            table = I.table;
            room = omega arith;
            sub = sub-later I.stands R.sub R.room I.more (omega arith);
            there = scope_row I.scope (get_or od i 0) swept_below;
            entry = I.scope.entries (get_or od i 0) swept_below;
          }

      -- That row, and then the others.
      next : Then (apply_schemes (sub_at ns w at k) (env_of ns w ev od) left) (applied (sub_at ns w₁ at k) (scheme_at ns w₁ ev₁ od i) m)
          (λ c l. after (apply_schemes (sub_at ns w at k) (env_from ns w₁ ev₁ od (suc i) (length od - suc i)) l) (λ rest n. done ((env_from ns w₁ ev₁ od 0 i ++ with_scheme (name_at ns od i) c []) ++ rest) n))
      unfolding env_from
      next =
          let z : length od - i ≡ suc (length od - suc i) = omega arith in
          record {
            is = I.is ∙ rw (z, sub_stands ns R.table I.stands R.sub R.room)
                (one_name (sub_at ns w at k) (name_at ns od i) (scheme_at ns w₁ ev₁ od i) (env_from ns w₁ ev₁ od (suc i) (length od - suc i)) (env_from ns w₁ ev₁ od 0 i) m);
          }

      module _ {w₂ ev₂ : List ℕ} {x : Swept} (G : GivesRow ns w₁ w₂ ev₁ ev₂ t m (get_or od i 0) (applied (sub_at ns w₁ at k) (scheme_at ns w₁ ev₁ od i) m) x) where
        -- What is older stands.
        stands_on : Stands w w₂ top (4 * top + 8 * left)
        stands_on = let s = I.spent in stands_then I.stands (stands_up G.stands s) I.more

        -- It is refused.
        pub swept_refused : {y : Refusal} {t₂ m₂ : ℕ} → x ≡ Refused y t₂ m₂ → GivesEnv ns w w₂ ev ev₂ od top left (apply_schemes (sub_at ns w at k) (env_of ns w ev od) left) (Refused y t₂ m₂)
        swept_refused g = record { stands = stands_on; wide = G.wide ∙ I.wide; answer = refuse_on next (rw g at G.answer) I.more I.down }

        module _ {t₂ m₂ : ℕ} (g : x ≡ Done t₂ m₂) (len : length w₂ ≡ length w₁) where
          -- What the row became.
          row : RowDone ns w₂ ev₁ ev₂ t m (get_or od i 0) (applied (sub_at ns w₁ at k) (scheme_at ns w₁ ev₁ od i) m) t₂ m₂
          row = rw g at G.answer

          -- The other names have the schemes that they had.
          same_at : (j : ℕ) → j < length od → (j ≡ i → ⊥) → scheme_at ns w₁ ev₁ od j ≡ scheme_at ns w₂ ev₂ od j
          same_at j b n =
              rw (row.others (get_or od j 0) (λ f. apart I.scope.order j i b h n (rw f)))
              (sym (scheme_kept ns (entry_of ev₁ (get_or od j 0)) G.stands.low (I.scope.entries (get_or od j 0) (I.scope.order.below j b))))

          -- Those before it and it.
          so_far : env_from ns w₁ ev₁ od 0 i ++ with_scheme (name_at ns od i) (scheme_at ns w₂ ev₂ od i) [] ≡ env_from ns w₂ ev₂ od 0 (suc i)
          so_far =
              let z : 0 + i ≡ i = omega arith in
              rw (envs_same ns w₂ w₁ ev₂ ev₁ od 0 i (λ j p q. same_at j (omega arith) (omega arith))) (sym (rw z at (env_last ns w₂ ev₂ od 0 i)))

          -- Those after it.
          to_go : env_from ns w₁ ev₁ od (suc i) (length od - suc i) ≡ env_from ns w₂ ev₂ od (suc i) (length od - suc i)
          to_go = envs_same ns w₂ w₁ ev₂ ev₁ od (suc i) (length od - suc i) (λ j p q. same_at j (omega arith) (omega arith))

          -- Each row holds.
          rows_on : (r : ℕ) → r < length od → Dec (r ≡ get_or od i 0) → EntryIn ns w₂ t₂ (entry_of ev₂ r)
          rows_on r b (yes f) = rw f row.entry
          rows_on r b (no n) = rw (row.others r n) (entry_kept ns (entry_of ev₁ r) G.stands.low row.table row.more (I.scope.entries r b))

          -- One name more is done.
          pub swept_on : Sweeping ns w ev od top left at k w₂ ev₂ t₂ m₂ (i + 1)
          swept_on =
              let a = I.more in let b = row.more in let c = I.spent in let d = row.spent in let p = I.down in let q = row.down in
              rw (add-one i) (record {
                stands = stands_on;
                long = len ∙ I.long;
                wide = G.wide ∙ I.wide;
                table = row.table;
                more = omega arith;
                spent = omega arith;
                down = omega arith;
                under = h;
                scope = record { order = I.scope.order; fits = G.wide ∙ I.scope.fits; entries = λ r u. rows_on r u (ℕ_discrete r (get_or od i 0)) };
                is = then_done _ m₂ next row.is ∙ rw (so_far, to_go);
              })
