-- The ways out of `instantiate`, from what the calls gave.
use mathlib.Core.Path.{◌≡◌, refl, ap, sym, ◌∙◌}
use mathlib.Core.List.{List, []}
use Prim.Native.Nat.{ℕ, zero, suc, ◌+◌, ◌<◌, ◌≤◌}
use native.Mathlib.Omega.{arith}
use lib.ListN.{length}
use Rattle.meaning.specs.Base.{count}
use Rattle.meaning.specs.Ast.{Ty, count_tys, Scheme}
use Rattle.meaning.specs.Budget.{Out, Steps, done, refused, after}
use Rattle.meaning.specs.Subst.{apply_in}
use Rattle.meaning.specs.Generalize.{Pending, Env}
use Rattle.meaning.specs.Infer.{State, instantiate_preds, instantiate}
use Rattle.meaning.specs.Declare.{pred_nodes}
use Rattle.meaning.specs.Session.{scheme_nodes}
use Rattle.names.specs.Names.{first_fresh}
use Rattle.ast.specs.Table.{cell_of, tree, list, Node, Counted}
use Rattle.ast.specs.declared.Cell.{Cell}
use Rattle.ast.specs.declared.Cell.TheVariants.{Nil, Cons}
use Rattle.ast.proofs.Laws.{list_nil, list_cons, cons_tail, node_more, kept_tree}
use Rattle.errors.specs.declared.Refusal.{Refusal}
use Rattle.pairs.specs.Pairs.{Stands}
use Rattle.pairs.proofs.Frames.{stands_then, stands_up}
use Rattle.vars.specs.Vars.{vars_of_word}
use Rattle.vars.proofs.VarLaws.{vars_nil, vars_cons}
use Rattle.apply.specs.Applied.{Applied}
use Rattle.apply.specs.Applied.{Done as Renamed, Refused as Unnamed}
use Rattle.apply.proofs.Hand.{Then, then_done, refuse_on}
use Rattle.rename.specs.Renaming.{Renames, freshened}
use Rattle.rename.specs.Renamed.{ReadyRename, TypeRenamed}
use Rattle.rename.proofs.Arms.{renames_then}
use Rattle.rename.proofs.Ways.{gave}
use Rattle.rename.proofs.Freshly.{with_made, fresh_is, fresh_renames}
use Rattle.subst.specs.Preds.{preds_of_word}
use Rattle.subst.specs.Schemes.{scheme_of_word}
use Rattle.subst.proofs.PredLaws.{kept_preds}
use Rattle.instantiate.specs.Instance.{state, ReadyPreds, Takes, GivesTaken, ReadyInstance, GivesInstance}
use Rattle.instantiate.specs.Taken.{Taken}
use Rattle.instantiate.specs.Taken.{Done as Took, Refused as Untaken}
use Rattle.instantiate.specs.Opened.{Done, Refused}
use Rattle.instantiate.proofs.Taking.{some_node}

-- ## Of the meaning

-- After the made variables come the type and then the predicates.
pub inst_step : (c : Scheme) (env : Env) (tv dv n : ℕ) → Then (instantiate c (state env tv dv) n) (apply_in 256 (freshened tv c.vars) c.qual.ty n)
    (λ u k. after (instantiate_preds (freshened tv c.vars) c.qual.preds (state env (tv + count c.vars) dv) k) (λ r j. done ((u, r.0), r.1) j))
unfolding instantiate after with_made
inst_step c env tv dv n = record { is = rw (fresh_is c.vars (state env tv dv) n) (go (apply_in 256 (freshened tv c.vars) c.qual.ty n)) }
  where
    rest : Ty × State → Steps ((Ty × Pending) × State)
    rest a k = after {A = Pending × State} {B = (Ty × Pending) × State} (instantiate_preds (freshened tv c.vars) c.qual.preds a.1 k) (λ r j. done ((a.0, r.0), r.1) j)

    go : (o : Out Ty) → after {A = Ty × State} {B = (Ty × Pending) × State} (after o (λ a k. done (a, state env (tv + count c.vars) dv) k)) rest
        ≡ after o (λ u k. rest (u, state env (tv + count c.vars) dv) k)
    go (done u k) = refl
    go (refused e k) = refl

-- A list has as many variables as cells.
vars_count : {w : List ℕ} {top : ℕ} (ns : List ℕ) (f l : ℕ) → l < f → Node w top l → count (vars_of_word ns w l) ≡ count_tys (list ns w l)
unfolding count count_tys
vars_count ns zero l h N = absurd (omega arith)
vars_count {w} {top} ns (suc f) l h N = go (cell_of w l) refl (λ b. vars_count ns f b)
  where
    go : (s : Cell) → s ≡ cell_of w l → ((b : ℕ) → b < f → Node w top b → count (vars_of_word ns w b) ≡ count_tys (list ns w b)) → count (vars_of_word ns w l) ≡ count_tys (list ns w l)
    go Nil e ih = rw (vars_nil ns N e refl, list_nil ns N e refl)
    go (Cons a b) e ih = let t = cons_tail N e refl in let u = t.0 in rw (vars_cons ns N e refl, list_cons ns N e refl) (ap suc (ih b (omega arith) t.1))

-- ## The ways out

module _ {ns w bs : List ℕ} {top left sp tv dv vs ps t : ℕ} (R : ReadyInstance ns w bs top left sp tv dv vs ps t) where
  -- Few variables are bound.
  pub few_made : {c : ℕ} → ((ns : List ℕ) → Counted ns w vs c) → tv + c < 2_305_843_009_213_693_952
  few_made C = let m = (C ns).most in let v = R.held.vars.below in let a = R.held.vars.table.room in let b = R.big in let d = R.made in omega arith

  -- What `fresh_all` builds renames the scheme's variables.
  made_renames : Renames ns w vs (first_fresh + tv) [] (freshened tv (vars_of_word ns w vs))
  made_renames =
      let v = R.held.vars.below in let a = R.held.vars.table.room in let b = R.big in let d = R.made in
      fresh_renames tv R.names R.held.vars (omega arith)

  -- The type is first.
  pub type_ready : ReadyRename ns w [] top left vs (first_fresh + tv) t
  type_ready =
      let v = R.held.vars.below in let a = R.held.vars.table.room in let b = R.big in let d = R.made in let rm = R.room in let ft = R.fits in
      record { names = R.names; node = R.held.type; by = record { vars = R.held.vars; words = omega arith; letters = omega arith }; room = omega arith }

  -- After that.
  module _ {w₁ : List ℕ} {r : Applied} (G : TypeRenamed ns w w₁ [] top left 256 vs (first_fresh + tv) t r) where
    -- It is refused.
    pub type_refused : {x : Refusal} {t₂ l₂ : ℕ} {bs₁ : List ℕ} → r ≡ Unnamed x t₂ l₂ → GivesInstance ns w w₁ bs₁ top left sp tv dv vs ps t (Refused x t₂ l₂)
    type_refused h = record {
      stands = stands_up G.stands R.room;
      answer = λ env. refuse_on (inst_step (scheme_of_word ns w vs ps t) env tv dv left) ((rw h at G.answer) _ made_renames) (omega arith) (omega arith);
    }

    module _ {u t₂ l₂ : ℕ} (h : r ≡ Renamed u t₂ l₂) where
      -- The predicates are next.
      pub preds_ready : length w₁ ≡ length w → (top ≤ t₂) × ReadyPreds ns w₁ bs t₂ l₂ tv dv vs ps
      preds_ready len =
          let g = gave G h in let st = g.steps in let gs = g.spent in let rm = R.room in let ft = R.fits in let b = R.big in let rs = R.rows in let md = R.made in let nm = R.named in (
            g.more,
            record {
              names = R.names;
              vars = node_more g.node.table g.more R.held.vars;
              preds = node_more g.node.table g.more R.held.preds;
              small = rw (kept_preds ns G.stands.low R.held.preds) R.held.fine.small;
              room = omega arith;
              big = omega arith;
              rows = omega arith;
              made = omega arith;
              named = omega arith;
            },
          )

      -- After them.
      module _ {w₂ bs₂ : List ℕ} {q : Taken} (H : GivesTaken ns w₁ w₂ bs₂ t₂ l₂ tv dv vs ps q) where
        -- What stands.
        both_stand : Stands w w₂ top sp
        both_stand = let g = gave G h in let gs = g.spent in let rm = R.room in stands_then (stands_up G.stands R.room) (stands_up H.stands (omega arith)) g.more

        -- The made variables in the words after the first call.
        made_then : Renames ns w₁ vs (first_fresh + tv) [] (freshened tv (vars_of_word ns w vs))
        made_then = renames_then G.stands.low R.held.vars made_renames

        -- The outcome goes on after that of the predicates.
        inst_then : (env : Env) → Then (instantiate (scheme_of_word ns w vs ps t) (state env tv dv) left)
            (instantiate_preds (freshened tv (vars_of_word ns w vs)) (preds_of_word ns w₁ ps) (state env (tv + count (vars_of_word ns w vs)) dv) l₂) (λ r j. done ((tree ns w₁ u, r.0), r.1) j)
        inst_then env = record {
          is = then_done (tree ns w₁ u) l₂ (inst_step (scheme_of_word ns w vs ps t) env tv dv left) ((gave G h).is _ made_renames) ∙ rw (kept_preds ns G.stands.low R.held.preds) refl;
        }

        -- They are refused.
        pub preds_refused : {x : Refusal} {t₃ l₃ : ℕ} → q ≡ Untaken x t₃ l₃ → GivesInstance ns w w₂ bs₂ top left sp tv dv vs ps t (Refused x t₃ l₃)
        preds_refused i = let g = gave G h in let st = g.steps in record {
          stands = both_stand;
          answer = λ env. refuse_on (inst_then env) ((rw i at H.answer) _ made_then env _) g.more (omega arith);
        }

        module _ {m t₃ l₃ : ℕ} (i : q ≡ Took m t₃ l₃) where
          -- What they gave.
          took : Takes ns w₁ w₂ bs₂ t₂ l₂ tv dv vs ps m t₃ l₃
          took = rw i at H.answer

          -- The counter of names stays small.
          pub few_named : dv + m ≤ 17_592_186_044_416
          few_named = let g = gave G h in let st = g.steps in let e = took.each in let nm = R.named in omega arith

          -- The instance.
          pub inst_done : {c : ℕ} → ((ns : List ℕ) → Counted ns w vs c) → GivesInstance ns w w₂ bs₂ top left sp tv dv vs ps t (Done u m t₃ l₃ (tv + c) (dv + m))
          unfolding scheme_nodes
          inst_done {c} C =
              let g = gave G h in let st = g.steps in let gs = g.spent in let gm = g.more in let y = some_node (tree ns w t) in
              let e = took.each in let ts = took.spent in let tm = took.more in
              let k : l₃ + pred_nodes (preds_of_word ns w ps) ≡ l₂ = rw (kept_preds ns G.stands.low R.held.preds) at took.steps in
              let n : c ≡ count (vars_of_word ns w vs) = (C ns).is ∙ sym (vars_count ns (suc vs) vs (omega arith) R.held.vars) in
              let f = R.held.fine.modest in
              record {
                stands = both_stand;
                answer = record {
                  node = node_more took.table tm g.node;
                  more = omega arith;
                  rows = took.rows;
                  dicts = refl;
                  made = omega arith;
                  named = omega arith;
                  steps = omega arith;
                  spent = omega arith;
                  is = λ env. then_done _ _ (inst_then env) (took.is _ made_then env (tv + count (vars_of_word ns w vs))) ∙ rw (n, kept_tree ns H.stands.low g.node) refl;
                };
              }
