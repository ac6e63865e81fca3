-- The parts of `resolve` that the code has as functions of their own: the way to a dictionary, and the dictionary of an
-- instance from those of its subgoals.
use Rattle.std.specs.Prelude.{List}
use Rattle.std.proofs.Math.Option.{Option, none, some}
use Rattle.meaning.specs.Ast.{Pred, Core, Cores, dict_rec}
use Rattle.meaning.specs.Errors.{no_instance}
use Rattle.meaning.specs.Budget.{Steps, ◌>>=◌, pure, refuse}
use Rattle.meaning.specs.Subst.{apply_type, apply_preds}
use Rattle.meaning.specs.Classes.{ClassEnv, Given, Chosen, resolve_from_givens, by_inst, all_resolved, applied}

-- The way to a goal's dictionary: it is at hand, or it is that of an instance with these subgoals.
pub data Way : Type 0 where
  at_hand : Core → Way
  by : Chosen → List Pred → Way

-- The way by an instance that was chosen: its contexts are filled. Where none was, there is no way (16).
unfoldable pub way_by : Pred → Option Chosen → Steps Way
way_by p none = refuse (no_instance p)
way_by p (some i) = do
  subgoals ← apply_preds i.fills i.inst.context
  pure (by i subgoals)

-- What the givens gave, or else the way by the first instance whose head matches.
unfoldable pub or_way : ClassEnv → Pred → Option Core → Steps Way
or_way ce p (some e) = pure (at_hand e)
or_way ce p none = do
  i ← by_inst 0 ce.instances p
  way_by p i

-- The way to a goal's dictionary: all that `resolve` does before the subgoals.
unfoldable pub way_to : ClassEnv → List Given → Pred → Steps Way
way_to ce gs p = do
  e ← resolve_from_givens ce gs p
  or_way ce p e

-- The dictionary of an instance from those of its subgoals: the end of `from_instance` (`build_instance_dict`).
unfoldable pub dictionary : Chosen → Cores → Steps Core
dictionary i es = do
  head_ty ← apply_type i.fills i.inst.head.ty
  pure (applied (dict_rec i.inst.head.class head_ty i.index) es)

-- The dictionary at the end of the way. So `resolve_node` is `way_to` and then this (`node_way` of proofs/Followed).
unfoldable pub follow : (Pred → Steps Core) → Way → Steps Core
follow r (at_hand e) = pure e
follow r (by i ps) = do
  es ← all_resolved r ps
  dictionary i es
