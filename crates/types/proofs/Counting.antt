-- Laws of sizes: what a type's and a list's size is, and a law for each way out of counting.
use mathlib.Core.Path.{◌≡◌, refl, ap, sym, ◌∙◌}
use mathlib.Core.List.{List}
use Prim.Native.Nat.{ℕ, zero, suc, ◌+◌, ◌*◌, ◌-◌, ◌<◌, ◌≤◌}
use native.Mathlib.Omega.{arith}
use lib.ListN.{length}
use Rattle.meaning.specs.Ast.{Ty, var, con, arrow, nil, ◌◂◌, size, sizes}
use Rattle.views.specs.Numbers.{number_at}
use Rattle.views.specs.TypeViews.{IsType}
use Rattle.views.specs.declared.TypeNode.{TypeNode}
use Rattle.std.specs.Prelude.{Option as Option-of, Some, None}
use Rattle.views.specs.declared.TypeNode.TheVariants.{Var, Con, Arrow}
use Rattle.types.specs.Types.{args_of, type_of, part_of, parts_of}
use Rattle.types.specs.Sizes.{Measured}
use Rattle.types.proofs.Decode.{type_var, type_con, type_arrow, type_nothing, part_is, part_none}

-- A type has a node.
pub size_some : (u : Ty) → 1 ≤ size u
unfolding size
size_some (var x) = omega arith
size_some (con c ts) = omega arith
size_some (arrow a b) = omega arith

-- ## arguments
-- No arguments.
pub parts_nil : (bytes ns ix : List ℕ) (i p k : ℕ) → k ≡ 0 → parts_of bytes ns ix i p k ≡ nil
unfolding args_of
parts_nil bytes ns ix i p k e = rw e refl

-- A first argument, of number j, and the others.
pub parts_cons : (bytes ns ix : List ℕ) (i p k j : ℕ) → (k ≡ 0 → ⊥) → j ≡ number_at bytes p
    → parts_of bytes ns ix i p k ≡ part_of bytes ns ix i j ◂ parts_of bytes ns ix i (p + 2) (k - 1)
unfolding args_of
parts_cons bytes ns ix i p zero j h e = absurd (h refl)
parts_cons bytes ns ix i p (suc k) j h e = let s : suc k - 1 ≡ k = omega arith in rw (s, e) refl

-- Their sizes.
pub sizes_cons : (bytes ns ix : List ℕ) (i p k j : ℕ) → (k ≡ 0 → ⊥) → j ≡ number_at bytes p
    → sizes (parts_of bytes ns ix i p k) ≡ size (part_of bytes ns ix i j) + sizes (parts_of bytes ns ix i (p + 2) (k - 1))
unfolding size
sizes_cons bytes ns ix i p k j h e = ap sizes (parts_cons bytes ns ix i p k j h e)

-- ## what `views` showed
module _ {bytes ix : List ℕ} {i : ℕ} {r : Option-of TypeNode} (T : IsType bytes ix i r) where
  -- A constructor: its place and count are small.
  pub con_small : {c p k : ℕ} → r ≡ Some (Con c p k) → (p ≤ length bytes + 4) × (k ≤ 64)
  con_small arm = rw arm at T.small

  module _ (ns : List ℕ) where
    -- One node more than the arguments.
    pub con_size : {c p k : ℕ} → r ≡ Some (Con c p k) → size (type_of bytes ns ix i) ≡ suc (sizes (parts_of bytes ns ix i p k))
    unfolding size
    con_size arm = ap size (type_con T ns arm)

    -- One node more than both sides.
    pub arrow_size : {a b : ℕ} → r ≡ Some (Arrow a b) → size (type_of bytes ns ix i) ≡ suc (size (part_of bytes ns ix i a) + size (part_of bytes ns ix i b))
    unfolding size
    arrow_size arm = ap size (type_arrow T ns arm)

-- ## ways out
-- The same sizes, said otherwise.
same_measured : {f g : List ℕ → ℕ} {limit : ℕ} (r : Option-of ℕ) → ((ns : List ℕ) → f ns ≡ g ns) → Measured f limit r → Measured g limit r
same_measured (Some n) h M = record { is = (λ ns. sym (h ns) ∙ M.is.0 ns, M.is.1) }
same_measured None h M = record { is = λ ns. let a = M.is ns in let b = h ns in omega arith }

-- What was over a limit is over that of the whole.
over_on : {f : List ℕ → ℕ} {l : ℕ} {r : Option-of ℕ} (g : List ℕ → ℕ) (limit : ℕ) → Measured f l r → r ≡ None → ((ns : List ℕ) → limit + f ns ≤ l + g ns) → Measured g limit None
over_on g limit M e h = let o = rw e at M.is in record { is = λ ns. let a = o ns in let b = h ns in omega arith }

-- What was counted.
counted : {f : List ℕ → ℕ} {l m : ℕ} {r : Option-of ℕ} → Measured f l r → r ≡ Some m → ((ns : List ℕ) → f ns ≡ m) × (m ≤ l)
counted M e = rw e at M.is

-- It keeps the limit.
pub keeps : {f : List ℕ → ℕ} {l m : ℕ} {r : Option-of ℕ} → Measured f l r → r ≡ Some m → m ≤ l
keeps M e = (counted M e).1

-- No node is within a limit of none.
pub type_over : (bytes ix : List ℕ) (i limit : ℕ) → limit ≡ 0 → Measured (λ (ns : List ℕ). size (type_of bytes ns ix i)) limit None
type_over bytes ix i limit e = record { is = λ ns. let s = size_some (type_of bytes ns ix i) in omega arith }

-- The same of a part.
pub part_over : (bytes ix : List ℕ) (i j limit : ℕ) → limit ≡ 0 → Measured (λ (ns : List ℕ). size (part_of bytes ns ix i j)) limit None
part_over bytes ix i j limit e = record { is = λ ns. let s = size_some (part_of bytes ns ix i j) in omega arith }

-- A part that is no type is one node.
pub part_one : (bytes ix : List ℕ) (i j limit : ℕ) → i ≤ j → (limit ≡ 0 → ⊥) → Measured (λ (ns : List ℕ). size (part_of bytes ns ix i j)) limit (Some 1)
unfolding size
part_one bytes ix i j limit h z = record { is = (λ ns. ap size (part_none bytes ns ix i j h), let k : 1 ≤ limit = omega arith in k) }

-- Any other is that type.
pub part_type : (bytes ix : List ℕ) (i j limit : ℕ) (r : Option-of ℕ) → j < i → Measured (λ (ns : List ℕ). size (type_of bytes ns ix j)) limit r
    → Measured (λ (ns : List ℕ). size (part_of bytes ns ix i j)) limit r
part_type bytes ix i j limit r h M = same_measured r (λ ns. ap size (sym (part_is bytes ns ix i j h))) M

-- ## arguments, one after the other
-- After j of them, of which all nodes were counted.
pub record Summed (bytes ix : List ℕ) (i p k limit count j : ℕ) : Type 0 where
  pub is : (ns : List ℕ) → sizes (parts_of bytes ns ix i p k) ≡ count + sizes (parts_of bytes ns ix i (p + 2 * j) (k - j))
  pub most : count ≤ limit

pub summed_none : (bytes ix : List ℕ) (i p k limit : ℕ) → Summed bytes ix i p k limit 0 0
summed_none bytes ix i p k limit = record {
  is = λ ns. let s : sizes (parts_of bytes ns ix i p k) ≡ sizes (parts_of bytes ns ix i (p + 2 * 0) (k - 0)) = rw (sym (here p), sym (whole k)) refl in omega arith;
  most = omega arith;
}
  where
    here : (p : ℕ) → p ≡ p + 2 * 0
    here p = omega arith

    whole : (k : ℕ) → k ≡ k - 0
    whole k = omega arith

module _ {bytes ix : List ℕ} {i p k limit count j v : ℕ} (S : Summed bytes ix i p k limit count j) (l : j < k) (e : v ≡ number_at bytes (p + 2 * j)) {s : Option-of ℕ}
    (M : Measured (λ (ns : List ℕ). size (part_of bytes ns ix i v)) (limit - count) s) where
  next : (ns : List ℕ) → sizes (parts_of bytes ns ix i (p + 2 * j) (k - j)) ≡ size (part_of bytes ns ix i v) + sizes (parts_of bytes ns ix i (p + 2 * j + 2) (k - j - 1))
  next ns = sizes_cons bytes ns ix i (p + 2 * j) (k - j) v (λ z. omega (arith, z, l)) e

  -- This one is over.
  pub summed_over : s ≡ None → Measured (λ (ns : List ℕ). sizes (parts_of bytes ns ix i p k)) limit None
  summed_over o = over_on _ limit M o (λ ns. let z = next ns in let h = S.is ns in let m = S.most in omega arith)

  -- It was counted.
  pub summed_more : {m : ℕ} → s ≡ Some m → Summed bytes ix i p k limit (count + m) (j + 1)
  summed_more {m} o =
      let b = (counted M o).1 in
      record {
        is = λ ns.
            let z = next ns in let h = S.is ns in let a = (counted M o).0 ns in
            let g : p + 2 * j + 2 ≡ p + 2 * (j + 1) = omega arith in let f : k - j - 1 ≡ k - (j + 1) = omega arith in
            let q : sizes (parts_of bytes ns ix i (p + 2 * j + 2) (k - j - 1)) ≡ sizes (parts_of bytes ns ix i (p + 2 * (j + 1)) (k - (j + 1))) = rw (g, f) refl in
            omega arith;
        most = (let y = S.most in omega arith);
      }

-- All were counted.
pub summed_all : {bytes ix : List ℕ} {i p k limit count j : ℕ} → Summed bytes ix i p k limit count j → k ≤ j → Measured (λ (ns : List ℕ). sizes (parts_of bytes ns ix i p k)) limit (Some count)
unfolding size
summed_all {bytes} {ix} {i} {p} {k} {limit} {count} {j} S h = record {
  is = (λ ns. let e = S.is ns in let z = ap sizes (parts_nil bytes ns ix i (p + 2 * j) (k - j) (omega arith)) in omega arith, S.most);
}

module _ {bytes ix : List ℕ} {i : ℕ} {r : Option-of TypeNode} (T : IsType bytes ix i r) (limit left : ℕ) (some : limit ≡ left + 1) where
  -- A variable is one node.
  pub var_is : {x : ℕ} → r ≡ Some (Var x) → Measured (λ (ns : List ℕ). size (type_of bytes ns ix i)) limit (Some 1)
  unfolding size
  var_is arm = record { is = (λ ns. ap size (type_var T ns arm), let k : 1 ≤ limit = omega arith in k) }

  -- So is no node.
  pub nothing_is : r ≡ None → Measured (λ (ns : List ℕ). size (type_of bytes ns ix i)) limit (Some 1)
  unfolding size
  nothing_is arm = record { is = (λ ns. ap size (type_nothing T ns arm), let k : 1 ≤ limit = omega arith in k) }

  module _ {c p k : ℕ} (arm : r ≡ Some (Con c p k)) {s : Option-of ℕ} (M : Measured (λ (ns : List ℕ). sizes (parts_of bytes ns ix i p k)) left s) where
    -- A constructor's arguments are over.
    pub con_over : s ≡ None → Measured (λ (ns : List ℕ). size (type_of bytes ns ix i)) limit None
    con_over o = over_on _ limit M o (λ ns. let z = con_size T ns arm in omega arith)

    -- They were counted.
    pub con_is : {n : ℕ} → s ≡ Some n → Measured (λ (ns : List ℕ). size (type_of bytes ns ix i)) limit (Some (n + 1))
    con_is {n} o =
        let b = (counted M o).1 in
        record { is = (λ ns. let z = con_size T ns arm in let a = (counted M o).0 ns in omega arith, let y : n + 1 ≤ limit = omega arith in y) }

  module _ {a b : ℕ} (arm : r ≡ Some (Arrow a b)) {s : Option-of ℕ} (M : Measured (λ (ns : List ℕ). size (part_of bytes ns ix i a)) left s) where
    -- An arrow's left side is over.
    pub left_over : s ≡ None → Measured (λ (ns : List ℕ). size (type_of bytes ns ix i)) limit None
    left_over o = over_on _ limit M o (λ ns. let z = arrow_size T ns arm in omega arith)

    module _ {m : ℕ} (h : s ≡ Some m) {s₂ : Option-of ℕ} (N : Measured (λ (ns : List ℕ). size (part_of bytes ns ix i b)) (left - m) s₂) where
      -- Its right side is.
      pub right_over : s₂ ≡ None → Measured (λ (ns : List ℕ). size (type_of bytes ns ix i)) limit None
      right_over o = over_on _ limit N o (λ ns. let z = arrow_size T ns arm in let x = (counted M h).0 ns in let y = (counted M h).1 in omega arith)

      -- Both were counted.
      pub arrow_is : {n : ℕ} → s₂ ≡ Some n → Measured (λ (ns : List ℕ). size (type_of bytes ns ix i)) limit (Some (m + n + 1))
      arrow_is {n} o =
          let x = (counted M h).1 in let y = (counted N o).1 in
          record { is = (λ ns. let z = arrow_size T ns arm in let u = (counted M h).0 ns in let v = (counted N o).0 ns in omega arith, let q : m + n + 1 ≤ limit = omega arith in q) }
