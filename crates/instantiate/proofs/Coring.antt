-- The ways out of `var_core`.
use mathlib.Core.Path.{◌≡◌, refl, ap, sym, ◌∙◌}
use mathlib.Core.List.{List, [], ◌∷◌}
use mathlib.Core.Option.{none, some}
use Prim.Native.Nat.{ℕ, ◌+◌, ◌*◌, ◌-◌, ◌<◌, ◌≤◌}
use native.Mathlib.Omega.{arith}
use lib.ListN.{length}
use Rattle.meaning.specs.Base.{first}
use Rattle.meaning.specs.Ast.{Name, method, Ty, Binder, cvar, cdict, dict_app, dict_proj}
use Rattle.meaning.specs.Errors as E
use Rattle.meaning.specs.Budget.{done, refused, after, or_refuse}
use Rattle.meaning.specs.Generalize.{Pending}
use Rattle.meaning.specs.Classes.{ClassInfo}
use Rattle.meaning.specs.Infer.{args_of, plain_core, var_core}
use Rattle.names.specs.Names.{first_fresh, first_node, name_of}
use Rattle.names.proofs.Where.{is_named}
use Rattle.ast.specs.Table.{tree, Node}
use Rattle.ast.proofs.Laws.{low_node, no_nodes}
use Rattle.pairs.proofs.Frames.{stands_refl, stands_then, stands_up}
use Rattle.cores.specs.Parts.{part_of, pushed_four}
use Rattle.cores.specs.Terms.{core}
use Rattle.cores.proofs.TermLaws.{core_of, dict_core}
use Rattle.cores.proofs.NewTerm.{four_stands, push_selected, push_applied}
use Rattle.supers.specs.Rows.{binders_from, binders_in}
use Rattle.supers.proofs.RowLaws.{row_pending}
use Rattle.classes.specs.Method.{LooksUp}
use Rattle.classes.specs.declared.Method.{Method}
use Rattle.simplify.proofs.RowSets.{row_words}
use Rattle.instantiate.specs.Looks.{FindsFirst, ReadyCore, Lists, GivesCored}
use Rattle.std.specs.Prelude.{Option, Some, None}
use Rattle.instantiate.specs.Cored.{Made, Unmade}
use Rattle.instantiate.proofs.Finding.{of_class, found_from, none_from}

-- The word of a name.
name_core : (ns w : List ℕ) (x : ℕ) → x < first_fresh → core ns w x ≡ cvar (name_of ns x)
unfolding part_of
name_core ns w x h = core_of ns (low_node (no_nodes w) (omega arith)) refl ∙ rw (is_named x h)

-- A method's term, where the first binder of its class is known.
method_found : (x : Name) (ps : Pending) (r : ClassInfo × Ty) (b : Binder) (l : ℕ) → first (of_class r.0.name) ps ≡ some b → var_core x ps (some r) l ≡ done (dict_proj (cdict b.0) (method x)) l
unfolding var_core or_refuse after
method_found x ps r b l e = rw e

-- And where there is none.
method_lost : (x : Name) (ps : Pending) (r : ClassInfo × Ty) (l : ℕ) → first (of_class r.0.name) ps ≡ none → var_core x ps (some r) l ≡ refused (E.unknown_method x) l
unfolding var_core or_refuse after
method_lost x ps r l e = rw e

-- A name that is no method, over no binders.
plain_none : (x : Name) (ps : Pending) (l : ℕ) → ps ≡ [] → var_core x ps none l ≡ done (cvar x) l
unfolding var_core plain_core
plain_none x ps l e = rw e

-- And over some.
plain_some : (x : Name) (ps : Pending) (b : Binder) (bs : Pending) (l : ℕ) → ps ≡ b ∷ bs → var_core x ps none l ≡ done (dict_app (cvar x) (args_of ps)) l
unfolding var_core plain_core
plain_some x ps b bs l e = rw e

module _ {ns w bs mt : List ℕ} {top dv m x : ℕ} (R : ReadyCore ns w bs top dv m x) {k : Option Method} (L : LooksUp mt x k) where
  -- There is room for a node.
  pub core_room : (4 * top + 4 ≤ length w) × (top + m < first_node)
  core_room = let r = R.room in let b = R.big in (omega arith, omega arith)

  module _ {q : Method} (arm : k ≡ Some q) {s : Option ℕ} (F : FindsFirst bs m q.class s) where
    -- The dictionary's number has a word.
    pub found_small : {d : ℕ} → s ≡ Some d → d < 17_592_186_044_416
    found_small h =
        let f = rw h at F.says in let b = f.below in let n = R.named in let e = f.dict in
        let z = (row_words bs f.at (R.rows.at f.at b).row).dict in omega arith

    -- A method of the first row of its class.
    pub method_done : {d : ℕ} {w₁ : List ℕ} → s ≡ Some d → w₁ ≡ pushed_four w top 9 (first_fresh + d) x 0 → GivesCored ns w w₁ bs mt top m x (Made (first_node + top) (top + 1))
    method_done {d} {w₁} h e =
        let z = found_small h in let r = core_room in let p = r.1 in
        let D : Node w top (first_fresh + d) = low_node R.table (omega arith) in
        let P = push_selected ns r.0 (omega arith) x D e in
        let H = found_from ns R.names R.rows q.class (rw h at F.says) (m - 0) 0 (omega arith) (omega arith) in
        record {
          stands = four_stands w top 9 (first_fresh + d) x 0 e (4 * top + 4 * m + 4) (omega arith);
          answer = record {
            node = P.node;
            more = omega arith;
            most = omega arith;
            is = λ v n ce M N l. let o = rw arm at (L.answer ns v n ce M) in
                rw o.is (method_found (name_of ns x) (binders_in ns w bs 0 m) (o.info, tree ns v q.ty) H.binder l (rw (N.is (name_of ns q.class) o.info o.class) H.is)
                ∙ ap (λ y. done y l) (sym (P.is ∙ rw (dict_core ns w d (omega arith), H.dict) refl)));
          };
        }

    -- No row is of its class.
    pub method_none : s ≡ None → GivesCored ns w w bs mt top m x Unmade
    method_none h = record {
      stands = stands_refl _ _ _;
      answer = λ v n ce M N l. let o = rw arm at (L.answer ns v n ce M) in
          rw o.is (method_lost (name_of ns x) (binders_in ns w bs 0 m) (o.info, tree ns v q.ty) l (rw (N.is (name_of ns q.class) o.info o.class) (none_from ns R.names R.rows q.class (rw h at F.says) (m - 0) 0 (omega arith))));
    }

  module _ (arm : k ≡ None) where
    -- The name itself.
    pub name_done : m ≡ 0 → GivesCored ns w w bs mt top m x (Made x top)
    unfolding binders_from
    name_done z = record {
      stands = stands_refl _ _ _;
      answer = record {
        node = low_node R.table (let h = R.name in omega arith);
        more = omega arith;
        most = omega arith;
        is = λ v n ce M N l. rw (rw arm at (L.answer ns v n ce M)) (plain_none (name_of ns x) (binders_in ns w bs 0 m) l (let q : m - 0 ≡ 0 = omega arith in rw q refl) ∙ rw (name_core ns w x R.name) refl);
      };
    }

    -- The name applied to the rows' dictionaries.
    module _ (p : m ≡ 0 → ⊥) {w₁ : List ℕ} {l : ℕ} (A : Lists w w₁ bs top m l) (len : length w₁ ≡ length w) where
      -- There is room for the node.
      pub app_room : 4 * (top + m) + 4 ≤ length w₁
      app_room = let r = R.room in omega arith

      -- The node is the term.
      pub app_done : {w₂ : List ℕ} → w₂ ≡ pushed_four w₁ (top + m) 8 x l 0 → GivesCored ns w w₂ bs mt top m x (Made (first_node + (top + m)) (top + m + 1))
      app_done {w₂} e =
          let r = core_room in
          let X : Node w₁ (top + m) x = low_node A.node.table (let h = R.name in omega arith) in
          let P = push_applied ns app_room r.1 X A.node e in
          let W = R.rows.at 0 (omega arith) in
          record {
            stands = stands_then (stands_up A.stands (omega arith)) (four_stands w₁ (top + m) 8 x l 0 e (4 * top + 4 * m + 4) (omega arith)) (omega arith);
            answer = record {
              node = P.node;
              more = omega arith;
              most = omega arith;
              is = λ v n ce M N j. rw (rw arm at (L.answer ns v n ce M)) (plain_some (name_of ns x) (binders_in ns w bs 0 m) _ _ j (row_pending ns w bs 0 m (omega arith) W.row)
                  ∙ ap (λ y. done y j) (sym (P.is ∙ rw (name_core ns w₁ x R.name, A.is ns) refl)));
            };
          }
