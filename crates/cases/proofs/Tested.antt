-- Lists that were tested one by one.
use mathlib.Core.Path.{◌≡◌, sym, ap, ◌∙◌}
use mathlib.Core.List.{List}
use Prim.Native.Nat.{ℕ, ◌+◌, ◌-◌, ◌<◌}
use native.Mathlib.Omega.{arith}
use lib.ListN.{length, get_or}
use Rattle.meaning.specs.Base.{count}
use Rattle.names.specs.Names.{first_node}
use Rattle.ast.specs.Table.{cell_of, Table, Node}
use Rattle.ast.specs.declared.Cell.{Cell}
use Rattle.ast.specs.declared.Cell.TheVariants.{Nil, Cons}
use Rattle.subst.proofs.PredLaws.{preds_nil, preds_cons}
use Rattle.instances.specs.Accepted.{Heads}
use Rattle.cases.specs.Posed.{Short, Headed}

module _ {w : List ℕ} {top l most : ℕ} {r : Cell} (N : Node w top l) (e : r ≡ cell_of w l) where
  -- The empty list is short enough.
  pub short_nil : r ≡ Nil → Short w l most
  unfolding count
  short_nil k = record { is = λ ns. let x = ap count (preds_nil ns N e k) in omega arith }

  -- One more than the rest.
  pub short_cons : {a b : ℕ} → r ≡ Cons a b → 0 < most → Short w b (most - 1) → Short w l most
  unfolding count
  short_cons k h S = record { is = λ ns. let x = ap count (preds_cons ns N e k) in let y = S.is ns in omega arith }

-- A list with a first element, below the table's end.
pub headed : {w : List ℕ} {top l a b : ℕ} {r : Cell} → l < first_node + top → r ≡ cell_of w l → r ≡ Cons a b → Headed w top l
headed {w} {top} {l} {a} {b} {r} h e k = record { below = h; cell = rw (sym e ∙ k) tt }

-- Instances each of which has a head.
pub all_headed : {w : List ℕ} {top : ℕ} {il : List ℕ} → Table w top → ((i : ℕ) → i < length il → Headed w top (get_or il i 0)) → Heads w top il
all_headed T f = record { node = λ i h. record { table = T; below = (f i h).below }; cell = λ i h. (f i h).cell }
