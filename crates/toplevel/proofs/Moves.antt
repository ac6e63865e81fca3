-- The steps that a let and an expression share: the substitution is applied to the rows, and to the type.
use mathlib.Core.Path.{◌≡◌, refl}
use mathlib.Core.List.{List}
use Prim.Native.Nat.{ℕ, ◌+◌, ◌*◌, ◌-◌, ◌≤◌}
use native.Mathlib.Omega.{arith}
use lib.ListN.{length}
use Rattle.meaning.specs.Budget.{done}
use Rattle.meaning.specs.Subst.{apply_in}
use Rattle.meaning.specs.Classes.{ClassEnv}
use Rattle.theorems.proofs.Bound.{names_of, pending_names}
use Rattle.theorems.proofs.Made.{MadeTy, MadePending, apply_made, pending_made}
use Rattle.ast.specs.Table.{tree}
use Rattle.ast.proofs.Laws.{kept_tree, node_more}
use Rattle.pairs.specs.Pairs.{sub_at, Stands}
use Rattle.pairs.proofs.Frames.{stands_up, sub_stands}
use Rattle.apply.specs.Region.{Ready, Grown, Gives}
use Rattle.apply.specs.Applied.{Applied}
use Rattle.apply.specs.Applied.{Done as A-Done}
use Rattle.cores.specs.Terms.{core}
use Rattle.cores.proofs.TermLaws.{kept_core}
use Rattle.supers.specs.Rows.{row_at, binders_in}
use Rattle.instances.proofs.Held.{heads_kept}
use Rattle.resolve.proofs.Goals.{declared_kept}
use Rattle.scope.specs.Scope.{env_of}
use Rattle.scope.proofs.Laws.{scope_kept, env_kept}
use Rattle.pending.specs.Swept.{ReadySweep, RowsSwept, GivesRows}
use Rattle.pending.specs.Swept.{Swept}
use Rattle.pending.specs.Swept.{Done as S-Done}
use Rattle.inferred.specs.Closing.{answer_of}
use Rattle.inferred.specs.Inferring.{state_of}
use Rattle.inferred.proofs.Ends.{row_type, rows_later, rows_same, region_later}
use Rattle.binding.specs.General.{AskedGeneral}
use Rattle.binding.proofs.AfterEnv.{says_done}
use Rattle.toplevel.specs.Tops.{ReadyRest}

-- After a step: the words are w₁, the rows bs₁, the type t₁, and all that was known of the older ones is known of them.
pub record Moved (ns w ev od il bs : List ℕ) (top left sp tv dv t e k m : ℕ) (w₁ bs₁ : List ℕ) (t₁ top₁ left₁ : ℕ) : Type 0 where
  pub stands : Stands w w₁ top sp
  pub wide : length bs₁ ≡ length bs
  pub more : top ≤ top₁
  pub down : left₁ ≤ left
  pub spent : 4 * top₁ + 8 * left₁ ≤ 4 * top + 8 * left
  pub ready : ReadyRest ns w₁ ev od il bs₁ top₁ left₁ sp tv dv t₁ e k m
  pub env : env_of ns w₁ ev od ≡ env_of ns w ev od
  pub sub : sub_at ns w₁ (sp - 2 * k) k ≡ sub_at ns w (sp - 2 * k) k
  pub term : core ns w₁ e ≡ core ns w e
  pub asked : (cl : List ℕ) (ce : ClassEnv) → AskedGeneral ns cl w il top (answer_of ns w bs sp t e k m) (state_of ns w ev od tv dv) ce
      → AskedGeneral ns cl w₁ il top₁ (answer_of ns w₁ bs₁ sp t₁ e k m) (state_of ns w₁ ev od tv dv) ce

module _ {ns w ev od il bs : List ℕ} {top left sp tv dv t e k m : ℕ} (R : ReadyRest ns w ev od il bs top left sp tv dv t e k m) where
  -- What `apply_rows` asks.
  pub rows_asks : ReadySweep ns w bs top left (sp - 2 * k) k 0 m
  rows_asks =
      let z = R.ready.room in let P = R.words.pending in
      record { names = R.ready.names; table = R.ready.table; sub = R.words.region.sub; room = omega arith; rows = P.fits; types = λ i p q. row_type w top (row_at bs i) (P.each i q) }

  -- What `apply` asks.
  pub type_asks : Ready ns w top left (sp - 2 * k) k t
  type_asks = let z = R.ready.room in record { names = R.ready.names; node = R.words.ty; room = omega arith; sub = R.words.region.sub }

  module _ {w₁ bs₁ : List ℕ} {s : Swept} (G : GivesRows ns w w₁ bs bs₁ top left (sp - 2 * k) k m s) (wide : length bs₁ ≡ length bs) {t₂ l₂ : ℕ} (h : s ≡ S-Done t₂ l₂) (len : length w₁ ≡ length w) where
    -- What the rows became.
    pub swept : RowsSwept ns w w₁ bs bs₁ top left (sp - 2 * k) k 0 m t₂ l₂
    swept = rw h at G.gives.answer

    -- What was older stands.
    rows_stands : Stands w w₁ top (sp - 2 * k)
    rows_stands = let z = R.ready.room in stands_up G.gives.stands (omega arith)

    -- The substitution was applied to the rows.
    pub rows_moved : Moved ns w ev od il bs top left sp tv dv t e k m w₁ bs₁ t t₂ l₂
    rows_moved =
        let S = swept in let s1 = S.more in let s2 = S.spent in let s3 = S.down in let T = S.table in let Q = R.ready in let W = R.words in let K = G.gives.stands.low in
        let q1 = Q.room in let q2 = Q.fits in let q3 = Q.long in let q4 = Q.rows in let q5 = Q.tvs in let q6 = Q.dvs in
        let N : names_of (binders_in ns w₁ bs₁ 0 m) ≡ names_of (binders_in ns w bs 0 m) =
        says_done (λ cs. names_of cs ≡ names_of (binders_in ns w bs 0 m)) (binders_in ns w₁ bs₁ 0 m) l₂ S.is (pending_names (sub_at ns w (sp - 2 * k) k) (binders_in ns w bs 0 m) left) in
        let U = sub_stands ns Q.table rows_stands W.region.sub (omega arith) in
        let C = kept_core ns K W.term in
        record {
          stands = stands_up G.gives.stands (omega arith);
          wide = wide;
          more = s1;
          down = s3;
          spent = s2;
          ready = record {
            ready = record {
              names = Q.names;
              built = Q.built;
              table = T;
              scope = scope_kept Q.scope K s1 T;
              all = Q.all;
              heads = heads_kept K T s1 Q.heads;
              room = omega arith;
              fits = omega arith;
              long = omega arith;
              rows = omega arith;
              tvs = omega arith;
              dvs = omega arith;
            };
            words = record {
              ty = node_more T s1 W.ty;
              term = node_more T s1 W.term;
              region = region_later Q.table rows_stands (omega arith) s1 (omega arith) W.region;
              pending = (rw h at G.pending) W.pending;
            };
          };
          env = env_kept Q.scope K;
          sub = U;
          term = C;
          asked = λ cl ce A. let F = A.fit in record {
            declared = declared_kept K T s1 A.declared;
            fit = record {
              made = (rw U F.made.0, rw (kept_tree ns K W.ty) F.made.1, says_done MadePending (binders_in ns w₁ bs₁ 0 m) l₂ S.is (pending_made (sub_at ns w (sp - 2 * k) k) (binders_in ns w bs 0 m) left F.made.0 F.made.2));
              env = rw (env_kept Q.scope K) F.env;
              lo = F.lo;
              hi = F.hi;
              named = rw (N, C) F.named;
            };
          };
        }

  module _ {w₁ : List ℕ} {a : Applied} (G : Gives (tree ns w₁) (4 * top + 8 * left - 4) ns w w₁ top left (apply_in 256 (sub_at ns w (sp - 2 * k) k) (tree ns w t) left) a) {u t₂ l₂ : ℕ} (h : a ≡ A-Done u t₂ l₂) (len : length w₁ ≡ length w) where
    -- The type that `apply` gave.
    pub typed : (apply_in 256 (sub_at ns w (sp - 2 * k) k) (tree ns w t) left ≡ done (tree ns w₁ u) l₂) × Grown (4 * top + 8 * left - 4) w₁ top left t₂ l₂ u
    typed = rw h at G.answer

    -- What was older stands.
    type_stands : Stands w w₁ top (sp - 2 * k)
    type_stands = let z = R.ready.room in stands_up G.stands (omega arith)

    -- The substitution was applied to the type.
    pub type_moved : Moved ns w ev od il bs top left sp tv dv t e k m w₁ bs u t₂ l₂
    type_moved =
        let S = typed.1 in let s1 = S.more in let s2 = S.spent in let s3 = S.down in let T = S.node.table in let Q = R.ready in let W = R.words in let K = G.stands.low in
        let q1 = Q.room in let q2 = Q.fits in let q3 = Q.long in let q4 = Q.rows in let q5 = Q.tvs in let q6 = Q.dvs in
        let U = sub_stands ns Q.table type_stands W.region.sub (omega arith) in
        let C = kept_core ns K W.term in
        let B = rows_same ns K W.pending 0 m (omega arith) in
        record {
          stands = stands_up G.stands (omega arith);
          wide = refl;
          more = s1;
          down = s3;
          spent = omega arith;
          ready = record {
            ready = record {
              names = Q.names;
              built = Q.built;
              table = T;
              scope = scope_kept Q.scope K s1 T;
              all = Q.all;
              heads = heads_kept K T s1 Q.heads;
              room = omega arith;
              fits = omega arith;
              long = omega arith;
              rows = omega arith;
              tvs = omega arith;
              dvs = omega arith;
            };
            words = record {
              ty = S.node;
              term = node_more T s1 W.term;
              region = region_later Q.table type_stands (omega arith) s1 (omega arith) W.region;
              pending = rows_later T s1 W.pending;
            };
          };
          env = env_kept Q.scope K;
          sub = U;
          term = C;
          asked = λ cl ce A. let F = A.fit in record {
            declared = declared_kept K T s1 A.declared;
            fit = record {
              made = (rw U F.made.0, says_done MadeTy (tree ns w₁ u) l₂ typed.0 (apply_made (sub_at ns w (sp - 2 * k) k) (tree ns w t) left F.made.0 F.made.1), rw B F.made.2);
              env = rw (env_kept Q.scope K) F.env;
              lo = F.lo;
              hi = F.hi;
              named = rw (B, C) F.named;
            };
          };
        }
