-- A scheme and a term with canonical names: what the calls of `name_with` are asked, and its ways out.
use mathlib.Core.Path.{◌≡◌, refl, ap, sym, ◌∙◌, subst}
use mathlib.Core.List.{List, [], ◌∷◌}
use Prim.Native.Nat.{ℕ, ◌+◌, ◌*◌, ◌-◌, ◌≤◌}
use native.Mathlib.Omega.{arith}
use lib.ListN.{length, take}
use Rattle.meaning.specs.Base.{count, total}
use Rattle.meaning.specs.Ast.{TyVar, tyvar_before, Pred, Qual, qual, Scheme, forall, Core}
use Rattle.meaning.specs.Budget.{Out, done, after}
use Rattle.meaning.specs.Subst.{look, apply_qual, ftv_qual}
use Rattle.meaning.specs.Plain.{sub, sub_preds}
use Rattle.meaning.specs.Cores.{sort_by, images, canonical_renamer, as_subst, apply_core_in, apply_subst_to_core, canonical_scheme_and_core}
use Rattle.meaning.specs.Generalize.{Env, env_ftv, abstracted}
use Rattle.meaning.specs.Declare.{pred_nodes}
use Rattle.meaning.specs.Session.{scheme_nodes}
use Rattle.theorems.proofs.Says.{Says, Limit}
use Rattle.theorems.proofs.Generalized.{qual_says}
use Rattle.theorems.proofs.Made.{MadeQual}
use Rattle.theorems.proofs.MadeGeneralized.{MadeVars, ftv_made, without_made}
use Rattle.ast.specs.Table.{Node}
use Rattle.ast.proofs.Laws.{kept_tree, node_more}
use Rattle.errors.specs.Refusals.{Refuses}
use Rattle.errors.specs.declared.Refusal.{Refusal}
use Rattle.pairs.specs.Pairs.{Stands}
use Rattle.pairs.proofs.Frames.{stands_then, stands_up}
use Rattle.apply.specs.Applied.{Applied}
use Rattle.apply.specs.Applied.{Done as Made, Refused as Not-made}
use Rattle.apply.proofs.Hand.{Then, then_done, refuse_on, refuse_same}
use Rattle.subst.specs.Schemes.{scheme_of_word}
use Rattle.subst.specs.AppliedQual.{AppliedQual}
use Rattle.subst.specs.AppliedQual.{Done, Refused}
use Rattle.subst.proofs.PredLaws.{kept_preds}
use Rattle.supers.specs.Rows.{binders_in}
use Rattle.supers.proofs.RowLaws.{kept_rows}
use Rattle.cores.specs.Terms.{core}
use Rattle.cores.proofs.TermLaws.{kept_core}
use Rattle.scope.specs.Scope.{env_of, Smalls, Fine}
use Rattle.scope.proofs.Envs.{in_order}
use Rattle.scope.proofs.Laws.{scope_kept, env_kept}
use Rattle.scope.proofs.Fines.{kept_scheme}
use Rattle.rename.proofs.Leaves.{leaves_size}
use Rattle.rows.specs.BuiltIns.{BuiltIns}
use Rattle.canonical.specs.Named.{rows_qual, list_qual, bound, ReadyRows, Lettered, ReadyVars, Sorted}
use Rattle.canonical.specs.Rows.{leaves_preds}
use Rattle.canonical.proofs.Bytes.{sort_count}
use Rattle.canonical.proofs.Fewer.{bound_few}
use Rattle.canonical.proofs.Images.{env_vars_made, new-names}
use Rattle.canoncore.specs.Lettered as letter
use Rattle.canoncore.specs.RowsReady as rows
use Rattle.generalize.specs.Named.{Done as Named-Done, Refused as Named-Refused}
use Rattle.generalize.specs.Naming.{ReadyNames, Stays, ReadyLetters, Chosen, canonical, NamesQual, GivesLettered, GivesNames}
use Rattle.generalize.proofs.Again.{canonical_stays}
use Rattle.generalize.proofs.QualWays.{own_binders, own_small, own_kept, take_few, renames_any}

-- ## the meaning
-- The term comes after the qualified type.
pub core-after : (vs : List TyVar) (q q₁ : Qual) (c : Core) (n l : ℕ) → apply_qual (as_subst (canonical_renamer vs)) q n ≡ done q₁ l
    → Then (canonical_scheme_and_core vs q c n) (apply_subst_to_core (as_subst (canonical_renamer vs)) c l) (λ e. done (forall (sort_by tyvar_before (images (canonical_renamer vs))) q₁, e))
unfolding canonical_scheme_and_core after
core-after vs q q₁ c n l e = record { is = rw e refl }

-- A refusal of the qualified type is handed on.
pub scheme_refused : {ns w' : List ℕ} {top left m l : ℕ} {x : Refusal} (vs : List TyVar) (q : Qual) (c : Core) → Refuses ns w' top left (apply_qual (as_subst (canonical_renamer vs)) q left) x m l
    → Refuses ns w' top left (canonical_scheme_and_core vs q c left) x m l
unfolding canonical_scheme_and_core
scheme_refused vs q c r = refuse_on (record { is = refl }) r (omega arith) (omega arith)

-- ## few variables
-- In predicates are no more variables than nodes.
preds_few : (ps : List Pred) → leaves_preds ps ≤ pred_nodes ps
unfolding pred_nodes total
preds_few [] = omega arith
preds_few (p ∷ ps) = let h = preds_few ps in let k = leaves_size p.ty in omega arith

-- A scheme of sorted bound variables is fine.
pub bound_fine : (ns : List ℕ) (q : Qual) (env : Env) → Smalls ns q.preds → Fine ns (forall (sort_by tyvar_before (bound q env)) q)
unfolding scheme_nodes
bound_fine ns q env s =
    let a = sort_count tyvar_before (bound q env) in
    let b = bound_few q env in
    let c = preds_few q.preds in
    let d = leaves_size q.ty in
    record { modest = omega arith; small = s }

-- ## the ways
module _ {ns w ev od bs : List ℕ} {top left sp n t : ℕ} (R : ReadyNames ns w ev od bs top left sp n t) where
  -- What `letters` is asked.
  pub letters_asked : ReadyRows ns w ev od bs top n t
  letters_asked = record { type = record { env = record { names = R.names; scope = R.scope }; node = R.type }; binders = own_binders R.rows }

  -- The words that it gives are those that get the letters.
  pub letters_chosen : {ls : List ℕ} {k : ℕ} → Lettered ns w (rows_qual ns w bs n t) (env_of ns w ev od) ls k → Chosen ns w (take k ls) (rows_qual ns w bs n t) (env_of ns w ev od)
  letters_chosen {ls} {k} L = let f = take_few k ls in let m = L.most in record { few = omega arith; renames = L.renames }

module _ {ns w ev od ls bs : List ℕ} {top left sp n t e : ℕ} (R : ReadyNames ns w ev od bs top left sp n t) (E : Node w top e)
    (C : Chosen ns w ls (rows_qual ns w bs n t) (env_of ns w ev od)) where
  -- What `name_qual` is asked.
  pub qual_asked : ReadyLetters ns w ls bs top left sp n t
  qual_asked = record { names = R.names; letters = C.few; rows = R.rows; type = R.type; room = R.room; fits = R.fits }

  -- New names stay.
  new_stay : MadeQual (rows_qual ns w bs n t) → (x : TyVar) → Stays (canonical (rows_qual ns w bs n t) (env_of ns w ev od)) x
  new_stay M = canonical_stays _ (without_made (ftv_qual (rows_qual ns w bs n t)) (env_ftv (env_of ns w ev od)) (ftv_made (rows_qual ns w bs n t) M))

  module _ {w₁ bs₁ : List ℕ} {r₁ : AppliedQual} (G : GivesLettered ns w w₁ ls bs bs₁ top left sp n t r₁) where
    -- The qualified type is refused.
    pub named_refused : {x : Refusal} {m l : ℕ} → r₁ ≡ Refused x m l → GivesNames ns w w₁ ev od bs top left sp n t e (Named-Refused x m l)
    named_refused h = let g = rw h at G.answer in
        record { stands = G.stands; answer = λ U. scheme_refused _ _ _ (g _ (C.renames U.built U.type)) }

    module _ {ps u m l : ℕ} (h : r₁ ≡ Done ps u m l) where
      -- The renamed type.
      qual_made : NamesQual ns w w₁ ls bs bs₁ top left n t ps u m l
      qual_made = rw h at G.answer

      -- The table has grown.
      pub qual_more : top ≤ m
      qual_more = qual_made.more

      -- The environment is the same.
      same_env : env_of ns w₁ ev od ≡ env_of ns w ev od
      same_env = env_kept R.scope G.stands.low

      -- There is room for a cell for each bound variable.
      vars_room : 4 * m + 8 * l + 4 * count (bound (list_qual ns w₁ ps u) (env_of ns w₁ ev od)) ≤ 4 * top + 8 * left
      vars_room = let a = qual_made.spent in let b = bound_few (list_qual ns w₁ ps u) (env_of ns w₁ ev od) in omega arith

      -- What `sorted_vars` is asked.
      pub vars_asked : length w₁ ≡ length w → ReadyVars ns w₁ ev od m ps u
      vars_asked len =
          let Q = qual_made in let a = vars_room in let r = R.room in let f = R.fits in
          record {
            type = record { env = record { names = R.names; scope = scope_kept R.scope G.stands.low Q.more Q.type.table }; node = Q.type };
            preds = Q.preds;
            room = omega arith;
          }

      module _ {w₂ : List ℕ} {v m₁ : ℕ} (S : Sorted ns w₁ w₂ (list_qual ns w₁ ps u) (env_of ns w₁ ev od) m v m₁) where
        -- The table has grown again, and so has what is left.
        pub vars_more : (m ≤ m₁) × (4 * m₁ + 8 * l ≤ 4 * top + 8 * left)
        vars_more = let a = S.grows in let s = vars_room in (omega arith, omega arith)

        -- The frame of both.
        vars_stand : Stands w w₂ top sp
        vars_stand = let a = vars_more.1 in let r = R.room in stands_then G.stands (stands_up S.stands (omega arith)) qual_made.more

        -- The term is still there.
        pub term_asked : Node w₂ m₁ e
        term_asked = let a = vars_more.0 in let b = qual_more in node_more S.node.table (omega arith) E

        -- What `rename_abstracted` is asked.
        pub rows_asked : length w₂ ≡ length w → rows.ReadyRows ns w₂ bs₁ ls m₁ l n
        rows_asked len =
            let Q = qual_made in let a = vars_more.1 in let r = R.room in let f = R.fits in
            record {
              names = R.names;
              table = S.node.table;
              rows = own_binders (own_kept S.node.table vars_more.0 Q.rows);
              small = own_small Q.rows;
              few = C.few;
              room = omega arith;
            }

        -- What the meaning does to the term is what the code does.
        term_same : BuiltIns ns → MadeQual (rows_qual ns w bs n t)
            → apply_subst_to_core (canonical (rows_qual ns w bs n t) (env_of ns w ev od)) (abstracted (binders_in ns w bs 0 n) (core ns w e)) l
            ≡ apply_core_in 256 (canonical (rows_qual ns w bs n t) (env_of ns w ev od)) (abstracted (binders_in ns w₂ bs₁ 0 n) (core ns w₂ e)) l
        term_same B M =
            let Q = qual_made in
            let D : binders_in ns w₂ bs₁ 0 n ≡ binders_in ns w₁ bs₁ 0 n = kept_rows ns bs₁ S.stands.low 0 (n - 0) (λ a p q. (own_binders Q.rows).types a (omega arith)) in
            let F : core ns w₂ e ≡ core ns w e = kept_core ns vars_stand.low E in
            sym (rw (D, F) (Q.again _ (C.renames B M) (new_stay M) (core ns w e) l))

        module _ {w₃ : List ℕ} {r₃ : Applied} (A : letter.GivesLettered core 4 ns ls w₂ w₃ m₁ l (λ s. apply_core_in 256 s (abstracted (binders_in ns w₂ bs₁ 0 n) (core ns w₂ e)) l) r₃) where
          -- All words that stand.
          all_stand : Stands w w₃ top sp
          all_stand = let a = vars_more.1 in let b = vars_more.0 in let c = qual_more in let r = R.room in stands_then vars_stand (stands_up A.stands (omega arith)) (omega arith)

          -- The term is refused.
          pub term_refused : {x : Refusal} {m₃ l₃ : ℕ} → r₃ ≡ Not-made x m₃ l₃ → GivesNames ns w w₃ ev od bs top left sp n t e (Named-Refused x m₃ l₃)
          term_refused {x} {m₃} {l₃} i =
              let g = rw i at A.answer in let a = vars_more.0 in let b = qual_more in
              record {
                stands = all_stand;
                answer = λ U. refuse_on (core-after (bound (rows_qual ns w bs n t) (env_of ns w ev od)) (rows_qual ns w bs n t) (list_qual ns w₁ ps u) (abstracted (binders_in ns w bs 0 n) (core ns w e)) left l (qual_made.is _ (C.renames U.built U.type)))
                    (refuse_same (term_same U.built U.type) (g _ (renames_any ns w ls _ [] (C.renames U.built U.type))) (omega arith) (omega arith))
                    b qual_made.down;
              }

          -- All have their names.
          pub all_named : {f m₃ l₃ : ℕ} → r₃ ≡ Made f m₃ l₃ → GivesNames ns w w₃ ev od bs top left sp n t e (Named-Done v ps u f m₃ l₃)
          all_named {f} {m₃} {l₃} i =
              let g = rw i at A.answer in
              let Q = qual_made in
              let a = vars_more.0 in
              let b = vars_more.1 in
              let c = qual_more in
              let d = g.more in
              let y = g.spent in
              let z = g.down in
              let o = Q.down in
              let T = S.node.table in
              let X : scheme_of_word ns w₃ v ps u ≡ forall (sort_by tyvar_before (bound (list_qual ns w₁ ps u) (env_of ns w ev od))) (list_qual ns w₁ ps u) =
              kept_scheme ns A.stands.low S.node (node_more T a Q.preds) (node_more T a Q.type)
              ∙ rw (S.is, kept_preds ns S.stands.low Q.preds, kept_tree ns S.stands.low Q.type, same_env) refl in
              record {
                stands = all_stand;
                answer = record {
                  held = record {
                    vars = node_more g.node.table d S.node;
                    preds = node_more g.node.table (omega arith) Q.preds;
                    type = node_more g.node.table (omega arith) Q.type;
                    fine = subst (Fine ns) (sym X) (bound_fine ns (list_qual ns w₁ ps u) (env_of ns w ev od) Q.small);
                  };
                  term = g.node;
                  more = omega arith;
                  spent = omega arith;
                  down = omega arith;
                  is = λ U. then_done (core ns w₃ f) l₃ (core-after (bound (rows_qual ns w bs n t) (env_of ns w ev od)) (rows_qual ns w bs n t) (list_qual ns w₁ ps u) (abstracted (binders_in ns w bs 0 n) (core ns w e)) left l (Q.is _ (C.renames U.built U.type)))
                      (term_same U.built U.type ∙ g.is _ (renames_any ns w ls _ [] (C.renames U.built U.type)))
                      ∙ ap (λ (s : Scheme). done (s, core ns w₃ f) l₃) (sym (X ∙ ap (λ (vs : List TyVar). forall vs (list_qual ns w₁ ps u)) (names_are (Q.is _ (C.renames U.built U.type)) U.type
                      (env_vars_made (env_of ns w ev od) (in_order R.scope.order w ev 0 (length od) (omega arith)) U.schemes))));
                };
              }
            where
              names_are : apply_qual (canonical (rows_qual ns w bs n t) (env_of ns w ev od)) (rows_qual ns w bs n t) left ≡ done (list_qual ns w₁ ps u) l
                  → MadeQual (rows_qual ns w bs n t) → MadeVars (env_ftv (env_of ns w ev od))
                  → sort_by tyvar_before (bound (list_qual ns w₁ ps u) (env_of ns w ev od)) ≡ sort_by tyvar_before (images (canonical_renamer (bound (rows_qual ns w bs n t) (env_of ns w ev od))))
              names_are q M F =
                  let s = canonical (rows_qual ns w bs n t) (env_of ns w ev od) in
                  let p : list_qual ns w₁ ps u ≡ qual (sub_preds (look s) (rows_qual ns w bs n t).preds) (sub (look s) (rows_qual ns w bs n t).ty) =
                  subst (λ (o : Out Qual). Says (λ q₁. q₁ ≡ qual (sub_preds (look s) (rows_qual ns w bs n t).preds) (sub (look s) (rows_qual ns w bs n t).ty)) Limit o) q (qual_says s (rows_qual ns w bs n t) left) in
                  ap (λ (q₁ : Qual). sort_by tyvar_before (bound q₁ (env_of ns w ev od))) p ∙ new-names (rows_qual ns w bs n t) (env_of ns w ev od) M F
