-- What the pairs do without no variables they do: for those functions that leave none as it is.
use mathlib.Core.List.{List}
use Prim.Native.Nat.{ℕ}
use native.Mathlib.Omega.{arith}
use Rattle.meaning.specs.Ast.{Pred, Qual}
use Rattle.meaning.specs.Subst.{apply_pred, apply_preds, apply_qual}
use Rattle.ast.proofs.Laws.{low_node}
use Rattle.pairs.specs.Pairs.{sub_at}
use Rattle.apply.specs.Region.{sub_but, Ready, Gives}
use Rattle.apply.specs.Applied.{Applied}
use Rattle.apply.proofs.Buts.{no_vars}
use Rattle.subst.specs.Quals.{ReadyQual, GivesQual}
use Rattle.subst.specs.Schemes.{ReadyScheme}
use Rattle.subst.specs.AppliedQual.{AppliedQual}

-- A word that names no node is no variables.
pub ready_qual : {ns w : List ℕ} {top left at k ps t : ℕ} → ReadyQual ns w top left at k ps t → ReadyScheme ns w top left at k 0 ps t
ready_qual R = record { qual = R; vars = low_node R.preds.table (omega arith) }

module _ {ns w w' : List ℕ} {b top left at k t : ℕ} {r : Applied} (R : Ready ns w top left at k t) where
  -- To a predicate.
  pub whole_pred : {read : ℕ → Pred} (p : Pred) → Gives read b ns w w' top left (apply_pred (sub_but ns w 0 at k) p left) r → Gives read b ns w w' top left (apply_pred (sub_at ns w at k) p left) r
  whole_pred p G = rw (no_vars ns w at k) at G

  -- To a list of them.
  pub whole_preds : {read : ℕ → List Pred} (ps : List Pred) → Gives read b ns w w' top left (apply_preds (sub_but ns w 0 at k) ps left) r → Gives read b ns w w' top left (apply_preds (sub_at ns w at k) ps left) r
  whole_preds ps G = rw (no_vars ns w at k) at G

-- To a qualified type.
pub whole_qual : {ns w w' : List ℕ} {top left at k ps t : ℕ} {r : AppliedQual} (q : Qual) → ReadyQual ns w top left at k ps t
    → GivesQual ns w w' top left (apply_qual (sub_but ns w 0 at k) q left) r → GivesQual ns w w' top left (apply_qual (sub_at ns w at k) q left) r
whole_qual {ns} {w} {at = at} {k = k} q R G = rw (no_vars ns w at k) at G
