-- What the functions that collect ask and give: one variable, and one call after another.
use mathlib.Core.Path.{◌≡◌, ap, sym, ◌∙◌}
use mathlib.Core.Bool.{Bool, true, false}
use mathlib.Core.List.{List, ◌∷◌}
use Prim.Native.Nat.{ℕ, suc, ◌+◌, ◌*◌, ◌^◌, ◌<◌, ◌≤◌}
use native.Mathlib.Omega.{arith}
use lib.ListN.{length}
use Rattle.meaning.specs.Base.{count}
use Rattle.meaning.specs.Ast.{TyVar}
use Rattle.meaning.specs.Map.{tyvars, elem}
use Rattle.meaning.specs.Subst.{add}
use Rattle.names.specs.Names.{first_node, tyvar_of}
use Rattle.ast.specs.Table.{tree, list, Node, pushed}
use Rattle.ast.proofs.Laws.{node_more, kept_tree, kept_list}
use Rattle.vars.specs.Vars.{vars_of_word}
use Rattle.vars.proofs.VarLaws.{kept_vars, push_vars}
use Rattle.pairs.proofs.Frames.{stands_refl, stands_then, stands_up, pushed_stands}
use Rattle.free.specs.Free.{add_but, free_type, free_types, Wants, Collects}

-- ## One variable

-- Nothing is written where there is nothing new.
pub collects_same : {ns w : List ℕ} {top out : ℕ} {new : List TyVar} → Node w top out → vars_of_word ns w out ≡ new → Collects ns w w top (vars_of_word ns w out) new out top
collects_same {ns} {w} {out = out} {new = new} O e = let c = ap count e in record { is = e; node = O; grows = omega arith; more = omega arith; stands = stands_refl _ _ _ }

-- What is added where it is not passed over, by whether it is there.
module _ (vs xs : List TyVar) (x : TyVar) where
  -- It is passed over.
  passed : elem tyvars x vs ≡ true → xs ≡ add_but vs x xs
  unfolding add_but
  passed e = rw e

  -- It is there.
  there : elem tyvars x vs ≡ false → elem tyvars x xs ≡ true → xs ≡ add_but vs x xs
  unfolding add_but add
  there e f = rw (e, f)

  -- It is new.
  is_new : elem tyvars x vs ≡ false → elem tyvars x xs ≡ false → add_but vs x xs ≡ x ∷ xs
  unfolding add_but add
  is_new e f = rw (e, f)

-- The ways out of `add_but`: q and p are what `has_var` returned of vs and of out.
module _ {ns w : List ℕ} {top vs out x : ℕ} (Vs : Node w top vs) (O : Node w top out) (X : Node w top x)
    (W : Wants ns w top (vars_of_word ns w out) (add_but (vars_of_word ns w vs) (tyvar_of ns x) (vars_of_word ns w out))) {q : Bool} (e : q ≡ elem tyvars (tyvar_of ns x) (vars_of_word ns w vs)) where
  -- It is passed over.
  pub var_passed : q ≡ true → Collects ns w w top (vars_of_word ns w out) (add_but (vars_of_word ns w vs) (tyvar_of ns x) (vars_of_word ns w out)) out top
  var_passed i = collects_same O (passed (vars_of_word ns w vs) (vars_of_word ns w out) (tyvar_of ns x) (sym e ∙ i))

  module _ (i : q ≡ false) {p : Bool} (f : p ≡ elem tyvars (tyvar_of ns x) (vars_of_word ns w out)) where
    -- It is there.
    pub var_there : p ≡ true → Collects ns w w top (vars_of_word ns w out) (add_but (vars_of_word ns w vs) (tyvar_of ns x) (vars_of_word ns w out)) out top
    var_there j = collects_same O (there (vars_of_word ns w vs) (vars_of_word ns w out) (tyvar_of ns x) (sym e ∙ i) (sym f ∙ j))

    module _ (j : p ≡ false) (big : length w < 2 ^ 65) where
      -- So many there are then.
      one_more : count (add_but (vars_of_word ns w vs) (tyvar_of ns x) (vars_of_word ns w out)) ≡ suc (count (vars_of_word ns w out))
      unfolding count
      one_more = rw (is_new (vars_of_word ns w vs) (vars_of_word ns w out) (tyvar_of ns x) (sym e ∙ i) (sym f ∙ j))

      -- There is room for the cell.
      pub var_room : (4 * top + 4 ≤ length w) × (top < first_node)
      var_room = let r = W.room in let c = one_more in (omega arith, omega arith)

      -- The cell is the answer.
      pub var_new : {w' : List ℕ} → w' ≡ pushed w top 3 x out
          → Collects ns w w' top (vars_of_word ns w out) (add_but (vars_of_word ns w vs) (tyvar_of ns x) (vars_of_word ns w out)) (first_node + top) (top + 1)
      var_new k =
          let P = push_vars ns var_room.0 var_room.1 X O k in let c = one_more in
          record {
            is = P.is ∙ sym (is_new (vars_of_word ns w vs) (vars_of_word ns w out) (tyvar_of ns x) (sym e ∙ i) (sym f ∙ j));
            node = P.node;
            grows = omega arith;
            more = omega arith;
            stands = pushed_stands top 3 x out (4 * (top + 1)) (omega arith) k;
          }

-- ## One call after another

-- The same lists, said otherwise.
module _ {ns w : List ℕ} {top : ℕ} {old old' new new' : List TyVar} (e : old ≡ old') (f : new ≡ new') where
  -- Of what is wanted.
  pub wants_as : Wants ns w top old new → Wants ns w top old' new'
  wants_as W = rw (e, f) at W

  -- Of what is given.
  pub collects_as : {w' : List ℕ} {l top' : ℕ} → Collects ns w w' top old new l top' → Collects ns w w' top old' new' l top'
  collects_as C = rw (e, f) at C

-- What was collected first is collected further.
collects_then : {ns w w₁ w₂ : List ℕ} {top t₁ t₂ l₁ l₂ : ℕ} {old mid new : List TyVar} → Collects ns w w₁ top old mid l₁ t₁ → Collects ns w₁ w₂ t₁ mid new l₂ t₂
    → Collects ns w w₂ top old new l₂ t₂
collects_then C D = let g = C.grows in let h = D.grows in let m = C.more in let n = D.more in
    record { is = D.is; node = D.node; grows = omega arith; more = omega arith; stands = stands_then (stands_up C.stands (omega arith)) D.stands m }

-- What the next call asks of the words.
pub record Next (ns w₁ : List ℕ) (top t₁ vs l₁ b : ℕ) (new : List TyVar) : Type 0 where
  pub more : top ≤ t₁
  pub vars : Node w₁ t₁ vs
  pub out : Node w₁ t₁ l₁
  pub node : Node w₁ t₁ b
  pub wants : Wants ns w₁ t₁ (vars_of_word ns w₁ l₁) new

-- After a call, with what that left: b is next.
module _ {ns w w₁ : List ℕ} {top t₁ vs l₁ b : ℕ} {old mid : List TyVar} (Vs : Node w top vs) (B : Node w top b) (C : Collects ns w w₁ top old mid l₁ t₁) where
  -- There is room for what is wanted.
  next : {new new' : List TyVar} → new' ≡ new → Wants ns w top old new → length w₁ ≡ length w → Next ns w₁ top t₁ vs l₁ b new'
  next e W len = let g = C.grows in let r = W.room in let c = ap count C.is in let d = ap count e in record {
    more = C.more;
    vars = node_more C.node.table C.more Vs;
    out = C.node;
    node = node_more C.node.table C.more B;
    wants = record { names = W.names; room = omega arith };
  }

  -- A type is read as before.
  same_type : free_type (vars_of_word ns w₁ vs) (tree ns w₁ b) (vars_of_word ns w₁ l₁) ≡ free_type (vars_of_word ns w vs) (tree ns w b) mid
  same_type = rw (kept_vars ns C.stands.low Vs, kept_tree ns C.stands.low B, C.is)

  -- And a list.
  same_types : free_types (vars_of_word ns w₁ vs) (list ns w₁ b) (vars_of_word ns w₁ l₁) ≡ free_types (vars_of_word ns w vs) (list ns w b) mid
  same_types = rw (kept_vars ns C.stands.low Vs, kept_list ns C.stands.low B, C.is)

  -- A type is next.
  pub type_next : Wants ns w top old (free_type (vars_of_word ns w vs) (tree ns w b) mid) → length w₁ ≡ length w
      → Next ns w₁ top t₁ vs l₁ b (free_type (vars_of_word ns w₁ vs) (tree ns w₁ b) (vars_of_word ns w₁ l₁))
  type_next W len = next same_type W len

  -- A list is.
  pub types_next : Wants ns w top old (free_types (vars_of_word ns w vs) (list ns w b) mid) → length w₁ ≡ length w
      → Next ns w₁ top t₁ vs l₁ b (free_types (vars_of_word ns w₁ vs) (list ns w₁ b) (vars_of_word ns w₁ l₁))
  types_next W len = next same_types W len

  module _ {w₂ : List ℕ} {l₂ t₂ : ℕ} where
    -- The type was collected.
    pub type_then : Collects ns w₁ w₂ t₁ (vars_of_word ns w₁ l₁) (free_type (vars_of_word ns w₁ vs) (tree ns w₁ b) (vars_of_word ns w₁ l₁)) l₂ t₂
        → Collects ns w w₂ top old (free_type (vars_of_word ns w vs) (tree ns w b) mid) l₂ t₂
    type_then D = collects_then C (collects_as C.is same_type D)

    -- The list was.
    pub types_then : Collects ns w₁ w₂ t₁ (vars_of_word ns w₁ l₁) (free_types (vars_of_word ns w₁ vs) (list ns w₁ b) (vars_of_word ns w₁ l₁)) l₂ t₂
        → Collects ns w w₂ top old (free_types (vars_of_word ns w vs) (list ns w b) mid) l₂ t₂
    types_then D = collects_then C (collects_as C.is same_types D)

-- What is wanted in the end is enough for the first call.
pub first_wants : {ns w : List ℕ} {top : ℕ} {old mid new : List TyVar} → count mid ≤ count new → Wants ns w top old new → Wants ns w top old mid
first_wants h W = let r = W.room in record { names = W.names; room = omega arith }
