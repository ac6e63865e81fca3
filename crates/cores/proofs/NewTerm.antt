-- Laws of a new node that is a core term: what is pushed is read back, and all below it stands.
use Prim.Native.Nat.{ℕ, ◌+◌, ◌*◌, ◌-◌, ◌/◌, ◌%◌, ◌<◌, ◌≤◌}
use native.Mathlib.Omega.{arith}
use mathlib.Core.Path.{◌≡◌, refl, ap, sym, ◌∙◌}
use mathlib.Core.List.{List, ◌∷◌}
use lib.ListN.{length, get_or, set}
use lib.Seq.{get_or-set_same, get_or-set_other}
use borrow.Author.Tests.{lt-ltb}
use Rattle.meaning.specs.Ast.{dvar, pred, method, super, cint, cabs, capp, clet, dict_abs, dict_app, dict_proj, dict_rec, ◌◃◌}
use Rattle.names.specs.Names.{first_node, name_of}
use Rattle.ast.specs.Table.{shape, cell, cell_of, tree, ShapeBelow, CellBelow, Table, Node, pushed}
use Rattle.ast.proofs.Laws.{kept_tree, kept_table}
use Rattle.ast.proofs.NewNode.{Pushed, pushed-0, pushed-1, pushed-2, pushed_kept, pushed_node, pushed-cell, length-pushed}
use Rattle.pairs.specs.Pairs.{Stands}
use Rattle.pairs.proofs.Frames.{stands_then, pushed_stands, put_length, put_stands}
use Rattle.cores.specs.declared.Part.TheVariants.{Int, Abs, App, Let, DictAbs, DictApp, Method, Super, Rec}
use Rattle.cores.specs.Parts.{node_part, read_part, checked, part_of, pushed_four}
use Rattle.cores.specs.Binders.{fourth_at, binders_of_word}
use Rattle.cores.specs.Terms.{core, cores}
use Rattle.cores.proofs.Parted.{part_at_lem}
use Rattle.cores.proofs.BinderLaws.{kept_binders, binders_cons}
use Rattle.cores.proofs.TermLaws.{kept_core, kept_cores, core_of, cores_cons}

module _ {w' : List ℕ} (w : List ℕ) (top tag a b d : ℕ) (e : w' ≡ pushed_four w top tag a b d) where
  -- Pushing changes no length.
  pub four-length : length w' ≡ length w
  unfolding pushed_four
  four-length = rw e (length-pushed (set w (4 * top + 3) d) top tag a b ∙ put_length w (4 * top + 3) d refl)

  -- All older words stand, and those above the node.
  pub four_stands : (hi : ℕ) → 4 * top + 4 ≤ hi → Stands w w' top hi
  unfolding pushed_four
  four_stands hi h = stands_then (put_stands w (4 * top + 3) d refl top hi (omega arith) (omega arith)) (pushed_stands top tag a b hi h e) (omega arith)

  module _ (room : 4 * top + 4 ≤ length w) where
    -- Room is as before when the fourth word is there.
    room_put : 4 * top + 4 ≤ length (set w (4 * top + 3) d)
    room_put = let l = put_length w (4 * top + 3) d refl in omega arith

    -- The new node's fourth word.
    four-3 : get_or w' (4 * top + 3) 0 ≡ d
    unfolding pushed_four pushed
    four-3 =
        let one = set w (4 * top + 3) d in
        rw e (get_or-set_other (set (set one (4 * top) tag) (4 * top + 1) a) (4 * top + 2) (4 * top + 3) b 0 (omega arith)
        ∙ get_or-set_other (set one (4 * top) tag) (4 * top + 1) (4 * top + 3) a 0 (omega arith)
        ∙ get_or-set_other one (4 * top) (4 * top + 3) tag 0 (omega arith) ∙ get_or-set_same w (4 * top + 3) d 0 (omega arith))

    -- What the new node says.
    four_part : part_of w' (first_node + top) ≡ checked (first_node + top) (node_part tag a b d)
    unfolding read_part pushed_four
    four_part =
        let one = set w (4 * top + 3) d in
        let r = room_put in
        part_at_lem w' top ∙ rw (
          ap (λ v. get_or v (4 * top) 0) e ∙ pushed-0 one top tag a b r,
          ap (λ v. get_or v (4 * top + 1) 0) e ∙ pushed-1 one top tag a b r,
          ap (λ v. get_or v (4 * top + 2) 0) e ∙ pushed-2 one top tag a b r,
          four-3,
        )

    -- The new node is one of a table that is one larger, if it is no type and no list.
    four_node : Table w top → top < first_node → ShapeBelow (first_node + top) (shape (first_node + top) tag a b) → CellBelow (first_node + top) (cell tag a b) → Node w' (top + 1) (first_node + top)
    unfolding pushed_four
    four_node T small hs hc =
        let K = (put_stands w (4 * top + 3) d refl top (4 * top + 4) (omega arith) (omega arith)).low in
        let r = room_put in
        rw e (pushed_node (set w (4 * top + 3) d) top tag a b r (kept_table K (omega arith) T) small hs hc)

-- What the writers make, w' being the words after them.
module _ {w w' : List ℕ} {top : ℕ} (ns : List ℕ) (room : 4 * top + 4 ≤ length w) (small : top < first_node) where
  -- A number.
  pub push_number : (v : ℕ) → Table w top → w' ≡ pushed_four w top 12 v 0 0 → Pushed (core ns w') w w' top (cint v)
  unfolding node_part
  push_number v T e =
      let N = four_node w top 12 v 0 0 e room T small tt tt in
      record {
        long = four-length w top 12 v 0 0 e;
        kept = (four_stands w top 12 v 0 0 e (4 * top + 4) (omega arith)).low;
        node = N;
        is = core_of {r = Int v} ns N (sym (four_part w top 12 v 0 0 e room));
      }

  -- A superclass's dictionary in the dictionary x.
  pub push_super : {x : ℕ} (c s : ℕ) → Node w top x → w' ≡ pushed_four w top 10 x c s → Pushed (core ns w') w w' top (dict_proj (core ns w x) (super (name_of ns c) (name_of ns s)))
  unfolding node_part
  push_super {x} c s X e =
      let K = (four_stands w top 10 x c s e (4 * top + 4) (omega arith)).low in
      let N = four_node w top 10 x c s e room X.table small tt tt in
      let l = lt-ltb x (first_node + top) X.below in
      record {
        long = four-length w top 10 x c s e;
        kept = K;
        node = N;
        is = core_of {r = Super x c s} ns N (sym (four_part w top 10 x c s e room ∙ rw l)) ∙ ap (λ y. dict_proj y (super (name_of ns c) (name_of ns s))) (kept_core ns K X);
      }

  -- The record of instance i.
  pub push_record : {t : ℕ} (c i : ℕ) → Node w top t → w' ≡ pushed_four w top 11 c t i → Pushed (core ns w') w w' top (dict_rec (name_of ns c) (tree ns w t) i)
  unfolding node_part
  push_record {t} c i X e =
      let K = (four_stands w top 11 c t i e (4 * top + 4) (omega arith)).low in
      let N = four_node w top 11 c t i e room X.table small tt tt in
      let l = lt-ltb t (first_node + top) X.below in
      record {
        long = four-length w top 11 c t i e;
        kept = K;
        node = N;
        is = core_of {r = Rec c t i} ns N (sym (four_part w top 11 c t i e room ∙ rw l)) ∙ ap (λ u. dict_rec (name_of ns c) u i) (kept_tree ns K X);
      }

  -- A function of a name.
  pub push_function : {b : ℕ} (x : ℕ) → Node w top b → w' ≡ pushed_four w top 4 x b 0 → Pushed (core ns w') w w' top (cabs (name_of ns x) (core ns w b))
  unfolding node_part
  push_function {b} x B e =
      let K = (four_stands w top 4 x b 0 e (4 * top + 4) (omega arith)).low in
      let N = four_node w top 4 x b 0 e room B.table small tt tt in
      let l = lt-ltb b (first_node + top) B.below in
      record {
        long = four-length w top 4 x b 0 e;
        kept = K;
        node = N;
        is = core_of {r = Abs x b} ns N (sym (four_part w top 4 x b 0 e room ∙ rw l)) ∙ ap (cabs (name_of ns x)) (kept_core ns K B);
      }

  -- A method of the dictionary x.
  pub push_selected : {x : ℕ} (m : ℕ) → Node w top x → w' ≡ pushed_four w top 9 x m 0 → Pushed (core ns w') w w' top (dict_proj (core ns w x) (method (name_of ns m)))
  unfolding node_part
  push_selected {x} m X e =
      let K = (four_stands w top 9 x m 0 e (4 * top + 4) (omega arith)).low in
      let N = four_node w top 9 x m 0 e room X.table small tt tt in
      let l = lt-ltb x (first_node + top) X.below in
      record {
        long = four-length w top 9 x m 0 e;
        kept = K;
        node = N;
        is = core_of {r = Method x m} ns N (sym (four_part w top 9 x m 0 e room ∙ rw l)) ∙ ap (λ y. dict_proj y (method (name_of ns m))) (kept_core ns K X);
      }

  module _ {f l : ℕ} (F : Node w top f) (L : Node w top l) where
    -- A term applied to a term.
    pub push_called : w' ≡ pushed_four w top 5 f l 0 → Pushed (core ns w') w w' top (capp (core ns w f) (core ns w l))
    unfolding node_part
    push_called e =
        let K = (four_stands w top 5 f l 0 e (4 * top + 4) (omega arith)).low in
        let N = four_node w top 5 f l 0 e room F.table small tt tt in
        record {
          long = four-length w top 5 f l 0 e;
          kept = K;
          node = N;
          is = core_of {r = App f l} ns N (sym (four_part w top 5 f l 0 e room ∙ rw (lt-ltb f (first_node + top) F.below, lt-ltb l (first_node + top) L.below)))
              ∙ rw (kept_core ns K F, kept_core ns K L);
        }

    -- A term in which a name stands for another.
    pub push_bound : (x : ℕ) → w' ≡ pushed_four w top 6 x f l → Pushed (core ns w') w w' top (clet (name_of ns x) (core ns w f) (core ns w l))
    unfolding node_part
    push_bound x e =
        let K = (four_stands w top 6 x f l e (4 * top + 4) (omega arith)).low in
        let N = four_node w top 6 x f l e room F.table small tt tt in
        record {
          long = four-length w top 6 x f l e;
          kept = K;
          node = N;
          is = core_of {r = Let x f l} ns N (sym (four_part w top 6 x f l e room ∙ rw (lt-ltb f (first_node + top) F.below, lt-ltb l (first_node + top) L.below)))
              ∙ rw (kept_core ns K F, kept_core ns K L);
        }

    -- A term under binders.
    pub push_under : w' ≡ pushed_four w top 7 f l 0 → Pushed (core ns w') w w' top (dict_abs (binders_of_word ns w f) (core ns w l))
    unfolding node_part
    push_under e =
        let K = (four_stands w top 7 f l 0 e (4 * top + 4) (omega arith)).low in
        let N = four_node w top 7 f l 0 e room F.table small tt tt in
        record {
          long = four-length w top 7 f l 0 e;
          kept = K;
          node = N;
          is = core_of {r = DictAbs f l} ns N (sym (four_part w top 7 f l 0 e room ∙ rw (lt-ltb f (first_node + top) F.below, lt-ltb l (first_node + top) L.below)))
              ∙ rw (kept_binders ns K F, kept_core ns K L);
        }

    -- A dictionary applied to a list.
    pub push_applied : w' ≡ pushed_four w top 8 f l 0 → Pushed (core ns w') w w' top (dict_app (core ns w f) (cores ns w l))
    unfolding node_part
    push_applied e =
        let K = (four_stands w top 8 f l 0 e (4 * top + 4) (omega arith)).low in
        let N = four_node w top 8 f l 0 e room F.table small tt tt in
        record {
          long = four-length w top 8 f l 0 e;
          kept = K;
          node = N;
          is = core_of {r = DictApp f l} ns N (sym (four_part w top 8 f l 0 e room ∙ rw (lt-ltb f (first_node + top) F.below, lt-ltb l (first_node + top) L.below)))
              ∙ rw (kept_core ns K F, kept_cores ns K L);
        }

    -- A first term and the rest of a list: what `ast::push` makes of tag 3.
    pub push_cores : w' ≡ pushed w top 3 f l → Pushed (cores ns w') w w' top (core ns w f ◃ cores ns w l)
    push_cores e =
        let K = pushed_kept w top 3 f l in
        let N = pushed_node w top 3 f l room F.table small tt (F.below, L.below) in
        rw e (record {
          long = length-pushed w top 3 f l;
          kept = K;
          node = N;
          is = cores_cons ns N (sym (pushed-cell w top 3 f l room)) refl ∙ rw (kept_core ns K F, kept_cores ns K L);
        })

    -- A first binder, of the fourth word x, and the rest of a list.
    pub push_binder : (x : ℕ) → w' ≡ pushed_four w top 3 f l x → Pushed (binders_of_word ns w') w w' top ((dvar (x / 65536), pred (name_of ns (x % 65536)) (tree ns w f)) ∷ binders_of_word ns w l)
    unfolding pushed_four fourth_at
    push_binder x e =
        let K = (four_stands w top 3 f l x e (4 * top + 4) (omega arith)).low in
        let N = four_node w top 3 f l x e room F.table small tt (F.below, L.below) in
        let z : first_node + top - first_node ≡ top = omega arith in
        let c = ap (λ v. cell_of v (first_node + top)) e ∙ pushed-cell (set w (4 * top + 3) x) top 3 f l (room_put w top 3 f l x e room) in
        record {
          long = four-length w top 3 f l x e;
          kept = K;
          node = N;
          is = binders_cons ns N (sym c) refl ∙ rw (z, four-3 w top 3 f l x e room, kept_tree ns K F, kept_binders ns K L);
        }
