-- The loop of `sorted_vars`: from the last variable on each is put before those that follow it.
use mathlib.Core.Path.{◌≡◌, refl, ap, sym, ◌∙◌, subst}
use mathlib.Core.Bool.{Bool, true, false, not, ◌||◌, ◌&&◌, false≢true}
use mathlib.Core.List.{List, [], ◌∷◌, ◌++◌, append-nil, append_assoc}
use mathlib.Core.Logic.{⊎_elim}
use Prim.Native.Nat.{ℕ, suc, ◌+◌, ◌*◌, ◌<◌, ◌≤◌}
use native.Mathlib.Omega.{arith}
use lib.ListN.{length}
use Rattle.meaning.specs.Base.{count}
use Rattle.meaning.specs.Ast.{TyVar, tyvar_before, Qual}
use Rattle.meaning.specs.Map.{tyvars, elem}
use Rattle.meaning.specs.Subst.{ftv_qual, occurs, occurs_in}
use Rattle.meaning.specs.Cores.{sort_by}
use Rattle.meaning.specs.Generalize.{Env, env_ftv}
use Rattle.theorems.proofs.Tests.{and_left, and_right}
use Rattle.theorems.proofs.ByteOrder.{tyvars_ordered}
use Rattle.theorems.proofs.FreeVars.{elem_head, elem-without, elem-sort_by, elem_ftv_types, elem-ftv_preds, elem-ftv_qual, occurs_preds, occurs_qual}
use Rattle.theorems.proofs.MadeOrder.{Once, once_ftv_qual, once_without}
use Rattle.names.specs.Names.{first_node, tyvar_of}
use Rattle.ast.specs.Table.{nil_word, tree, list, Node, pushed}
use Rattle.ast.proofs.Laws.{kept_tree, low_node}
use Rattle.ast.proofs.NewNode.{pushed_old}
use Rattle.vars.specs.Vars.{vars_of_word}
use Rattle.vars.proofs.VarLaws.{low_vars, push_vars}
use Rattle.pairs.specs.Pairs.{Stands}
use Rattle.pairs.proofs.Frames.{stands_refl, stands_then, stands_up, pushed_stands}
use Rattle.subst.specs.Preds.{preds_of_word}
use Rattle.subst.proofs.PredLaws.{kept_preds, preds_types}
use Rattle.scope.specs.Scope.{env_of}
use Rattle.scope.proofs.Laws.{scope_kept, env_kept}
use Rattle.canonical.specs.Picks.{Under, Last}
use Rattle.std.specs.Prelude.{Option, Some, None}
use Rattle.canonical.specs.Named.{list_qual, bound, free_in, ReadyType, ReadyVars, Sorted}
use Rattle.canonical.proofs.Bytes.{InBytes, Ends, ends_with, sort_bytes, sort_count}
use Rattle.canonical.proofs.Lasts.{last_same, last_then}
use Rattle.canonical.proofs.Lettering.{bound_yes}

-- ## predicates
-- A test that fails may be left out.
or_none : (a : Bool) → (a || false) ≡ a
or_none true = refl
or_none false = refl

-- A variable occurs in predicates where it occurs in the types of their cells.
preds_occur : {w : List ℕ} {top l : ℕ} (ns : List ℕ) (v : TyVar) → Node w top l → occurs_in v (list ns w l) ≡ occurs_preds v (preds_of_word ns w l)
unfolding elem
preds_occur {w} {top} {l} ns v N =
    sym (elem_ftv_types v (list ns w l) [] ∙ or_none (occurs_in v (list ns w l)))
    ∙ ap (elem tyvars v) (sym (preds_types ns (suc l) l [] (omega arith) N))
    ∙ elem-ftv_preds v (preds_of_word ns w l) [] ∙ or_none (occurs_preds v (preds_of_word ns w l))

-- The predicates, then the type.
pub last_qual : {w : List ℕ} {top ps : ℕ} {ns : List ℕ} {E : List TyVar} {last m r : Option ℕ} (t : ℕ) → Node w top ps → Last ns E (λ v. occurs_in v (list ns w ps)) top last None m
    → Last ns E (λ v. occurs v (tree ns w t)) top last m r → Last ns E (λ v. occurs_qual v (list_qual ns w ps t)) top last None r
last_qual {w} {ps = ps} {ns = ns} t N A B = last_then (last_same (λ v. occurs_in v (list ns w ps)) (λ v. occurs_preds v (preds_of_word ns w ps)) (λ v. preds_occur ns v N) A) B

-- ## what is still ahead
-- The sorted variables are some, which lie before `last`, and then those that were found.
pub record Ahead (ns : List ℕ) (vs : List TyVar) (last : Option ℕ) (behind : List TyVar) : Type 0 where
  pub front : List TyVar
  pub is : sort_by tyvar_before vs ≡ front ++ behind
  pub bytes : InBytes front
  pub inside : (v : TyVar) → elem tyvars v front ≡ true → (elem tyvars v vs ≡ true) × Under ns last v
  pub covers : (v : TyVar) → elem tyvars v vs ≡ true → Under ns last v → elem tyvars v front ≡ true

-- At first all are.
pub all_ahead : (ns : List ℕ) (vs : List TyVar) → Once vs → Ahead ns vs None []
all_ahead ns vs o = record {
  front = sort_by tyvar_before vs;
  is = sym (append-nil (sort_by tyvar_before vs));
  bytes = sort_bytes vs o;
  inside = λ v e. (sym (elem-sort_by tyvar_before v vs) ∙ e, tt);
  covers = λ v e u. elem-sort_by tyvar_before v vs ∙ e;
}

-- What lies before one that lies before the picked one lies before that.
under_trans : (ns : List ℕ) (p : Option ℕ) (v x : TyVar) → tyvar_before v x ≡ true → Under ns p x → Under ns p v
under_trans ns None v x b u = tt
under_trans ns (Some y) v x b u = tyvars_ordered.trans v x (tyvar_of ns y) b u

-- The last one of those ahead is put before those that were found.
pub ahead_on : {ns : List ℕ} {vs behind : List TyVar} {last : Option ℕ} (x : ℕ) → Ahead ns vs last behind → elem tyvars (tyvar_of ns x) vs ≡ true → Under ns last (tyvar_of ns x)
    → ((v : TyVar) → elem tyvars v vs ≡ true → Under ns last v → tyvar_before (tyvar_of ns x) v ≡ false) → Ahead ns vs (Some x) (tyvar_of ns x ∷ behind)
ahead_on {ns} {vs} {behind} {last} x A e u h = go (ends_with A.front (tyvar_of ns x) A.bytes (A.covers (tyvar_of ns x) e u) (λ v i. let k = A.inside v i in h v k.0 k.1))
  where
    go : Ends A.front (tyvar_of ns x) → Ahead ns vs (Some x) (tyvar_of ns x ∷ behind)
    go G = record {
      front = G.front;
      is = A.is ∙ ap (λ (us : List TyVar). us ++ behind) G.is ∙ append_assoc G.front (tyvar_of ns x ∷ []) behind;
      bytes = G.bytes;
      inside = λ v i. ((A.inside v (G.inside v i).0).0, (G.inside v i).1);
      covers = λ v i b. G.covers v (A.covers v i (under_trans ns last v (tyvar_of ns x) b u)) b;
    }

-- None is ahead: those that were found are all.
pub none_ahead : {ns : List ℕ} {vs behind : List TyVar} {last : Option ℕ} → Ahead ns vs last behind → ((v : TyVar) → elem tyvars v vs ≡ true → Under ns last v → ⊥) → sort_by tyvar_before vs ≡ behind
none_ahead {ns} {vs} {behind} {last} A h = A.is ∙ ap (λ (us : List TyVar). us ++ behind) (go A.front A.inside)
  where
    go : (us : List TyVar) → ((v : TyVar) → elem tyvars v us ≡ true → (elem tyvars v vs ≡ true) × Under ns last v) → us ≡ []
    go [] i = refl
    go (u ∷ us) i = let k = i u (elem_head u us) in absurd (h u k.0 k.1)

-- Of two lists.
count_both : (us vs : List TyVar) → count (us ++ vs) ≡ count us + count vs
unfolding count
count_both [] vs = omega arith
count_both (u ∷ us) vs = let ih = count_both us vs in omega arith

-- Those that were found are no more than all.
pub ahead_few : {ns : List ℕ} {vs behind : List TyVar} {last : Option ℕ} → Ahead ns vs last behind → count behind ≤ count vs
ahead_few {ns} {vs} {behind} A =
    let e : count vs ≡ count A.front + count behind = sym (sort_count tyvar_before vs) ∙ ap count A.is ∙ count_both A.front behind in
    omega arith

-- ## the loop
-- A bound variable occurs, and the environment has it not.
pub bound_parts : (v : TyVar) (q : Qual) (env : Env) → elem tyvars v (bound q env) ≡ true → (occurs_qual v q ≡ true) × (elem tyvars v (env_ftv env) ≡ false)
bound_parts v q env e =
    let f : (elem tyvars v (ftv_qual q) && not (elem tyvars v (env_ftv env))) ≡ true = sym (elem-without v (ftv_qual q) (env_ftv env)) ∙ e in
    (sym (elem-ftv_qual v q) ∙ and_left (elem tyvars v (ftv_qual q)) _ f, unnot (elem tyvars v (env_ftv env)) (and_right (elem tyvars v (ftv_qual q)) _ f))
  where
    unnot : (b : Bool) → not b ≡ true → b ≡ false
    unnot true e = absurd (false≢true e)
    unnot false e = refl

-- The words were w and are w', with n nodes: the list l has those that were found.
pub record Sorting (ns w w' ev od : List ℕ) (top ps t l n : ℕ) (last : Option ℕ) : Type 0 where
  pub ready : ReadyType ns w' ev od n t
  pub preds : Node w' n ps
  pub same_env : env_of ns w' ev od ≡ env_of ns w ev od
  pub same_qual : list_qual ns w' ps t ≡ list_qual ns w ps t
  pub long : length w' ≡ length w
  pub more : top ≤ n
  pub room : 4 * (top + count (bound (list_qual ns w ps t) (env_of ns w ev od))) ≤ length w
  pub node : Node w' n l
  pub grows : n ≡ top + count (vars_of_word ns w' l)
  pub stands : Stands w w' top (4 * n)
  pub ahead : Ahead ns (bound (list_qual ns w ps t) (env_of ns w ev od)) last (vars_of_word ns w' l)

-- At first none was found.
pub sorting : {ns w ev od : List ℕ} {top ps t : ℕ} → ReadyVars ns w ev od top ps t → Sorting ns w w ev od top ps t nil_word top None
unfolding count
sorting {ns} {w} {ev} {od} {top} {ps} {t} R =
    let N : Node w top nil_word = low_node R.type.node.table (omega arith) in
    let z = low_vars ns w nil_word (omega arith) in
    record {
      ready = R.type;
      preds = R.preds;
      same_env = refl;
      same_qual = refl;
      long = refl;
      more = omega arith;
      room = R.room;
      node = N;
      grows = rw z (omega arith);
      stands = stands_refl w top (4 * top);
      ahead = rw z (all_ahead ns _ (once_without (ftv_qual (list_qual ns w ps t)) (free_in ns w ev od) (once_ftv_qual (list_qual ns w ps t))));
    }

module _ {ns w w' ev od : List ℕ} {top ps t l n : ℕ} {last r : Option ℕ} (G : Sorting ns w w' ev od top ps t l n last)
    (L : Last ns (free_in ns w' ev od) (λ v. occurs_qual v (list_qual ns w' ps t)) n last None r) where
  -- The same said of the first words.
  first_last : Last ns (free_in ns w ev od) (λ v. occurs_qual v (list_qual ns w ps t)) n last None r
  first_last = subst (λ (q : Qual). Last ns (free_in ns w ev od) (λ v. occurs_qual v q) n last None r) G.same_qual
      (subst (λ (env : Env). Last ns (env_ftv env) (λ v. occurs_qual v (list_qual ns w' ps t)) n last None r) G.same_env L)

  -- There is no more.
  pub sorts_end : r ≡ None → Sorted ns w w' (list_qual ns w ps t) (env_of ns w ev od) top l n
  sorts_end k =
      let M = rw k at first_last in
      let e = none_ahead G.ahead (λ v i u. let p = bound_parts v (list_qual ns w ps t) (env_of ns w ev od) i in M.most v p.0 p.1 u) in
      record {
        is = sym e;
        node = G.node;
        grows = G.grows ∙ ap (λ (vs : List TyVar). top + count vs) (sym e) ∙ ap (λ (m : ℕ). top + m) (sort_count tyvar_before _);
        stands = G.stands;
      }

  module _ {x : ℕ} (k : r ≡ Some x) where
    -- What was found is the last one ahead.
    next_ahead : (x < first_node + n) × Ahead ns (bound (list_qual ns w ps t) (env_of ns w ev od)) (Some x) (tyvar_of ns x ∷ vars_of_word ns w' l)
    next_ahead =
        let M : Last ns (free_in ns w ev od) (λ v. occurs_qual v (list_qual ns w ps t)) n last None (Some x) = rw k at first_last in
        ⊎_elim (λ e. absurd (let z : ◌≡◌ {A = ℕ} 0 1 = cc in omega arith)) (λ f. (
          f.0,
          ahead_on x G.ahead (bound_yes (tyvar_of ns x) (list_qual ns w ps t) (env_of ns w ev od) f.1.0 f.1.1.0) f.1.1.1
              (λ v i u. let p = bound_parts v (list_qual ns w ps t) (env_of ns w ev od) i in M.most v p.0 p.1 u),
        )) M.found

    -- There is room for its cell.
    pub sorts_room : (4 * n + 4 ≤ length w') × ((4 * n + 4 ≤ length w) × (n < top + count (bound (list_qual ns w ps t) (env_of ns w ev od))))
    unfolding count
    sorts_room =
        let f = ahead_few next_ahead.1 in
        let g = G.grows in
        let m = G.room in
        let o = G.long in
        (omega arith, (omega arith, omega arith))

    -- The cell is written.
    pub sorts_on : {w'' : List ℕ} → n < first_node → w'' ≡ pushed w' n 3 x l → Sorting ns w w'' ev od top ps t (first_node + n) (n + 1) (Some x)
    unfolding count
    sorts_on {w''} small e =
        let m = sorts_room.0 in
        let T = G.node.table in
        let X : Node w' n x = record { table = T; below = next_ahead.0 } in
        let P = push_vars ns m small X G.node e in
        let K = P.kept in
        let g = G.grows in
        let s = pushed_stands n 3 x l (4 * (n + 1)) (omega arith) e in
        let t' = P.node.table in
        let a : n ≤ n + 1 = omega arith in
        record {
          ready = record { env = record { names = G.ready.env.names; scope = scope_kept G.ready.env.scope K a t' }; node = pushed_old P G.ready.node };
          preds = pushed_old P G.preds;
          same_env = env_kept G.ready.env.scope K ∙ G.same_env;
          same_qual = rw (kept_preds ns K G.preds, kept_tree ns K G.ready.node) G.same_qual;
          long = P.long ∙ G.long;
          more = (let y = G.more in omega arith);
          room = G.room;
          node = P.node;
          grows = rw P.is (omega arith);
          stands = stands_then (stands_up G.stands (omega arith)) s G.more;
          ahead = rw P.is next_ahead.1;
        }
