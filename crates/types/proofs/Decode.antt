-- A type of the file from its node and its parts; and in a file that was accepted it is the file's own.
use mathlib.Core.Path.{◌≡◌, refl, ap, sym, ◌∙◌, fun_ext}
use mathlib.Core.Bool.{Bool, true, false}
use mathlib.Core.List.{List, [], ◌∷◌}
use mathlib.Core.Option.{some}
use Prim.Native.Nat.{ℕ, zero, suc, ◌+◌, ◌*◌, ◌<◌, ◌≤◌}
use native.Mathlib.Omega.{arith}
use lib.ListN.{get_or}
use Rattle.meaning.specs.Base.{if, ltb, nth, count}
use Rattle.meaning.specs.Ast.{Name, named, Ty, var, con, arrow}
use Rattle.meaning.specs.File as M
use Rattle.theorems.proofs.Tests.{ltb_of, ltb_true}
use Rattle.names.specs.Names.{name_of}
use Rattle.reader.specs.Placing.{upto}
use Rattle.views.specs.Numbers.{number_at, Named, NamedAll}
use Rattle.views.specs.TypeViews.{type_node_at, TypeAs, IsType}
use Rattle.views.specs.declared.TypeNode.{TypeNode}
use Rattle.std.specs.Prelude.{Option as Option-of, Some, None}
use Rattle.views.specs.declared.TypeNode.TheVariants.{Var, Con, Arrow}
use Rattle.views.proofs.Earlier.{named_smaller, named_whole}
use Rattle.views.proofs.TypeLaws.{type_there}
use Rattle.file.specs.Reading.{Indexed}
use Rattle.types.specs.Types.{row_of, no_type, args_of, of_node, type_f, type_of, part_of, parts_of, WrittenType}

-- ## with enough fuel
-- A choice between equal things where the test holds.
same_if : {A : Type 0} (a a' c : A) (b : Bool) → (b ≡ true → a ≡ a') → if b a c ≡ if b a' c
same_if a a' c true h = h refl
same_if a a' c false h = refl

module _ (bytes ns ix : List ℕ) where
  -- Any two fuels that are enough read the same type.
  fuel : (f g i : ℕ) → i < f → i < g → type_f f bytes ns ix i ≡ type_f g bytes ns ix i
  unfolding type_f
  fuel zero g i p q = absurd (omega arith)
  fuel (suc f) zero i p q = absurd (omega arith)
  fuel (suc f) (suc g) i p q =
      ap (λ (ty : ℕ → Ty). of_node bytes ns ix ty (type_node_at bytes ix i))
      (fun_ext (λ j. same_if (type_f f bytes ns ix j) (type_f g bytes ns ix j) (no_type ns) (ltb j i) (λ e. let l = ltb_true j i e in fuel f g j (omega arith) (omega arith))))

  -- A type from its node and its parts.
  pub type_at : (i : ℕ) → type_of bytes ns ix i ≡ of_node bytes ns ix (part_of bytes ns ix i) (type_node_at bytes ix i)
  unfolding type_of type_f part_of
  type_at i =
      ap (λ (ty : ℕ → Ty). of_node bytes ns ix ty (type_node_at bytes ix i))
      (fun_ext (λ j. same_if (type_f i bytes ns ix j) (type_f (suc j) bytes ns ix j) (no_type ns) (ltb j i) (λ e. let l = ltb_true j i e in fuel i (suc j) j l (omega arith))))

  -- A part of smaller number is that type.
  pub part_is : (i j : ℕ) → j < i → part_of bytes ns ix i j ≡ type_of bytes ns ix j
  unfolding part_of
  part_is i j h = rw (ltb_of j i h) refl

  -- Any other is none.
  pub part_none : (i j : ℕ) → i ≤ j → part_of bytes ns ix i j ≡ no_type ns
  unfolding part_of
  part_none i j h = go (ltb j i) refl
    where
      go : (b : Bool) → ltb j i ≡ b → if b (type_of bytes ns ix j) (no_type ns) ≡ no_type ns
      go true e = absurd (let l = ltb_true j i e in omega arith)
      go false e = refl

-- What `type_at` returned, by the arm of the match.
module _ {bytes ix : List ℕ} {i : ℕ} {r : Option-of TypeNode} (T : IsType bytes ix i r) (ns : List ℕ) where
  -- The type by what was returned.
  type_of_lem : type_of bytes ns ix i ≡ of_node bytes ns ix (part_of bytes ns ix i) r
  type_of_lem = rw T.exact (type_at bytes ns ix i)

  -- A variable.
  pub type_var : {x : ℕ} → r ≡ Some (Var x) → type_of bytes ns ix i ≡ var (named (name_of ns (row_of ix x)))
  type_var k = rw k at type_of_lem

  -- A constructor and its arguments.
  pub type_con : {c p k : ℕ} → r ≡ Some (Con c p k) → type_of bytes ns ix i ≡ con (name_of ns (row_of ix c)) (parts_of bytes ns ix i p k)
  type_con k = rw k at type_of_lem

  -- An arrow of its two sides.
  pub type_arrow : {a b : ℕ} → r ≡ Some (Arrow a b) → type_of bytes ns ix i ≡ arrow (part_of bytes ns ix i a) (part_of bytes ns ix i b)
  type_arrow k = rw k at type_of_lem

  -- No node.
  pub type_nothing : r ≡ None → type_of bytes ns ix i ≡ no_type ns
  type_nothing k = rw k at type_of_lem

-- ## rows of the table of names
-- A number below the number of rows.
pub row_small : (ix : List ℕ) (v : ℕ) → row_of ix v < 1_059
unfolding row_of
row_small ix v = go (ltb (get_or ix v 0) 1_059) refl
  where
    go : (b : Bool) → ltb (get_or ix v 0) 1_059 ≡ b → if b (get_or ix v 0) 0 < 1_059
    go true e = ltb_true (get_or ix v 0) 1_059 e
    go false e = omega arith

-- So is any that equals it.
pub row_fits : (ix : List ℕ) (v n : ℕ) → n ≡ row_of ix v → n < 1_059
row_fits ix v n e = rw e (row_small ix v)

-- It is the word of the index where that is one.
pub row_is : (ix : List ℕ) (v n : ℕ) → n ≡ get_or ix v 0 → n < 1_059 → n ≡ row_of ix v
unfolding row_of
row_is ix v n e h = rw (ltb_of (get_or ix v 0) 1_059 (let k : get_or ix v 0 < 1_059 = omega arith in k)) e

-- And 0 where it is none.
pub row_none : (ix : List ℕ) (v n : ℕ) → n ≡ get_or ix v 0 → 1_059 ≤ n → 0 ≡ row_of ix v
unfolding row_of
row_none ix v n e h = go (ltb (get_or ix v 0) 1_059) refl
  where
    go : (b : Bool) → ltb (get_or ix v 0) 1_059 ≡ b → 0 ≡ if b (get_or ix v 0) 0
    go true k = absurd (let l = ltb_true (get_or ix v 0) 1_059 k in omega arith)
    go false k = refl

-- ## a file that was accepted
module _ {bytes ns ix : List ℕ} {f : M.File} {a b c d : ℕ} (X : Indexed bytes ns ix f a b c d) where
  -- A name of the file is that of its row.
  name_is : (v : ℕ) (x : Name) → Named f.names v x → name_of ns (row_of ix v) ≡ x
  name_is v x N = let k = X.names v x N.there in ap (name_of ns) (sym (row_is ix v _ refl k.number)) ∙ k.named

  module _ (i : ℕ) (before : (j : ℕ) (u : Ty) → j < i → nth f.types j ≡ some u → type_of bytes ns ix j ≡ u) where
    -- A part of type i is what stands before it.
    part_so : (v : ℕ) (u : Ty) → Named (upto i f.types) v u → part_of bytes ns ix i v ≡ u
    part_so v u N =
        let l = named_smaller i f.types v u N in
        part_is bytes ns ix i v l ∙ before v u l (named_whole i f.types v u N).there

    -- So are the arguments from the place p on.
    args_so : (us : List Ty) (p k : ℕ) → NamedAll bytes (upto i f.types) p k us → parts_of bytes ns ix i p k ≡ M.tys_of us
    unfolding args_of M.tys_of nth count
    args_so [] p zero A = refl
    args_so [] p (suc k) A = absurd (let m : 0 ≡ suc k = A.many in omega arith)
    args_so (u ∷ us) p zero A = absurd (let m : suc (count us) ≡ 0 = A.many in omega arith)
    args_so (u ∷ us) p (suc k) A =
        let here : p + 2 * 0 ≡ p = omega arith in
        let h = part_so (number_at bytes p) u (rw here at (A.each 0 u refl)) in
        let m : suc (count us) ≡ suc k = A.many in
        let t = args_so us (p + 2) k (record { many = omega arith; each = λ j v e. let n : p + 2 * suc j ≡ p + 2 + 2 * j = omega arith in rw n at (A.each (suc j) v e) }) in
        cc

    -- The type by what `views` shows of it.
    node_so : (r : Option-of TypeNode) (u : Ty) → TypeAs bytes f.names (upto i f.types) u r → of_node bytes ns ix (part_of bytes ns ix i) r ≡ u
    node_so (Some (Var x)) u T = ap (λ n. var (named n)) (name_is x T.name T.named_so) ∙ sym T.is
    node_so (Some (Con q p k)) u T = let n = name_is q T.name T.named_so in let t = args_so T.arguments p k T.each in let s = T.is in cc
    node_so (Some (Arrow x y)) u T = let l = part_so x T.left T.left_so in let r = part_so y T.right T.right_so in let s = T.is in cc
    node_so None u T = absurd T

  -- Every type below the bound n.
  types_so : (n i : ℕ) (u : Ty) → i < n → nth f.types i ≡ some u → type_of bytes ns ix i ≡ u
  types_so zero i u h e = absurd (omega arith)
  types_so (suc n) i u h e =
      let P = X.types in
      type_at bytes ns ix i
      ∙ node_so i (λ j v l k. types_so n j v (omega arith) k) (type_node_at bytes ix i) u ((type_there bytes ix i).is f.names f.types P.start P.end u P.placed e)

-- A type of an accepted file is read as what it is.
pub written_type : {bytes ns ix : List ℕ} {i : ℕ} {u : Ty} → WrittenType bytes ns ix i u → type_of bytes ns ix i ≡ u
written_type {i = i} {u = u} W = types_so W.indexed (suc i) i u (omega arith) W.there
