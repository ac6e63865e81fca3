-- The size of a type of the file is the same over all names: room for it over one table of names is room over all.
use mathlib.Core.Path.{◌≡◌, refl, ap, sym, ◌∙◌}
use mathlib.Core.List.{List}
use Prim.Native.Nat.{ℕ, zero, suc, ◌+◌, ◌*◌, ◌<◌, ◌≤◌}
use native.Mathlib.Omega.{arith}
use native.Mathlib.Decide.{dec_lt}
use lib.ListN.{length}
use Rattle.meaning.specs.Ast.{Ty, size, sizes}
use Rattle.ast.specs.Table.{Table}
use Rattle.views.specs.Numbers.{number_at}
use Rattle.views.specs.TypeViews.{type_node_at}
use Rattle.views.specs.declared.TypeNode.{TypeNode}
use Rattle.std.specs.Prelude.{Option as Option-of, Some, None}
use Rattle.views.specs.declared.TypeNode.TheVariants.{Var, Con, Arrow}
use Rattle.types.specs.Types.{args_of, of_node, type_of, part_of}
use Rattle.types.specs.Taking.{Fits}
use Rattle.types.proofs.Decode.{type_at, part_is, part_none}

module _ (bytes ix ns ns' : List ℕ) where
  -- Of arguments.
  args_size : (ty ty' : ℕ → Ty) → ((j : ℕ) → size (ty j) ≡ size (ty' j)) → (p k : ℕ) → sizes (args_of ty bytes p k) ≡ sizes (args_of ty' bytes p k)
  unfolding args_of size
  args_size ty ty' h p zero = refl
  args_size ty ty' h p (suc k) = let a = h (number_at bytes p) in let b = args_size ty ty' h (p + 2) k in omega (arith, a, b)

  -- Of a node.
  node_size : (ty ty' : ℕ → Ty) → ((j : ℕ) → size (ty j) ≡ size (ty' j)) → (r : Option-of TypeNode) → size (of_node bytes ns ix ty r) ≡ size (of_node bytes ns' ix ty' r)
  unfolding size
  node_size ty ty' h (Some (Var x)) = refl
  node_size ty ty' h (Some (Con c p k)) = ap suc (args_size ty ty' h p k)
  node_size ty ty' h (Some (Arrow a b)) = let x = h a in let y = h b in omega (arith, x, y)
  node_size ty ty' h None = refl

  -- Of a part.
  part_size : (i j : ℕ) → (j < i → size (type_of bytes ns ix j) ≡ size (type_of bytes ns' ix j)) → size (part_of bytes ns ix i j) ≡ size (part_of bytes ns' ix i j)
  unfolding size
  part_size i j h = go (dec_lt j i)
    where
      go : Dec (j < i) → size (part_of bytes ns ix i j) ≡ size (part_of bytes ns' ix i j)
      go (yes l) = ap size (part_is bytes ns ix i j l) ∙ h l ∙ ap size (sym (part_is bytes ns' ix i j l))
      go (no l) = ap size (part_none bytes ns ix i j (omega arith)) ∙ ap size (sym (part_none bytes ns' ix i j (omega arith)))

  -- Of every type below the bound n.
  sizes_below : (n i : ℕ) → i < n → size (type_of bytes ns ix i) ≡ size (type_of bytes ns' ix i)
  sizes_below zero i h = absurd (omega arith)
  sizes_below (suc n) i h =
      ap size (type_at bytes ns ix i)
      ∙ node_size (part_of bytes ns ix i) (part_of bytes ns' ix i) (λ j. part_size i j (λ l. sizes_below n j (omega arith))) (type_node_at bytes ix i)
      ∙ ap size (sym (type_at bytes ns' ix i))

-- Of every type.
pub same_size : (bytes ix ns ns' : List ℕ) (i : ℕ) → size (type_of bytes ns ix i) ≡ size (type_of bytes ns' ix i)
same_size bytes ix ns ns' i = sizes_below bytes ix ns ns' (suc i) i (omega arith)

-- Room over one table of names is room over all.
pub any_room : {w : List ℕ} {top : ℕ} (bytes ix ns : List ℕ) (i : ℕ) → Table w top → 4 * top + 8 * size (type_of bytes ns ix i) ≤ length w
    → Fits w top (λ (ns' : List ℕ). size (type_of bytes ns' ix i))
any_room bytes ix ns i T h = record { table = T; room = λ ns'. let e = same_size bytes ix ns ns' i in omega arith }
