-- Laws of an expression that is shown: e is what `views` returned.
use mathlib.Core.Path.{◌≡◌, ap, sym, ◌∙◌}
use mathlib.Core.List.{List}
use mathlib.Core.Option.{some}
use Prim.Native.Nat.{ℕ, ◌<◌}
use Rattle.meaning.specs.Base.{nth}
use Rattle.meaning.specs.Ast.{Name, Expr, eabs, evar, elet}
use Rattle.names.specs.Names.{name_of}
use Rattle.reader.specs.Placing.{upto}
use Rattle.views.specs.Numbers.{Named}
use Rattle.views.specs.ExprViews.{ExprAs, IsExpr}
use Rattle.views.specs.declared.ExprNode.{ExprNode}
use Rattle.views.specs.declared.ExprNode.TheVariants.{Var, Int, Bool, Abs, App, Let}
use Rattle.views.proofs.Earlier.{named_smaller, named_whole}
use Rattle.std.specs.Prelude.{Option as Option-of, Some, None, Ok}
use Rattle.nodes.specs.declared.Counts.{Counts}
use Rattle.file.specs.Reading.{IsName, Reads}
use Rattle.exprs.specs.Exprs.{Written, Shows}

-- Each expression of a file that was accepted is written so.
pub accepted_written : {bytes ns ix : List ℕ} {m : Counts} (R : Reads bytes ns ix (Ok m)) {i : ℕ} {x : Expr} → nth R.is.0.exprs i ≡ some x → Written bytes ns ix i x
accepted_written {m = m} R h = record { file = R.is.0; a = m.names; b = m.types; c = m.exprs; d = m.decls; indexed = R.is.2; there = h }

module _ {bytes ix : List ℕ} {i : ℕ} {e : Option-of ExprNode} (G : IsExpr bytes ix i e) where
  module _ {ns : List ℕ} {x : Expr} (W : Written bytes ns ix i x) where
    -- What `views` says of the expression, among the names and expressions of its file.
    seen : ExprAs W.file.names (upto i W.file.exprs) x e
    seen = let P = W.indexed.exprs in G.is W.file.names W.file.exprs P.start P.end x P.placed W.there

    -- A part of it is an expression of the same file, of smaller number.
    part : {v : ℕ} {y : Expr} → Named (upto i W.file.exprs) v y → (v < i) × Written bytes ns ix v y
    part {v} {y} N = (
      named_smaller i W.file.exprs v y N,
      record { file = W.file; a = W.a; b = W.b; c = W.c; d = W.d; indexed = W.indexed; there = (named_whole i W.file.exprs v y N).there },
    )

    -- A name of it has this number.
    number : {v r : ℕ} {y : Name} → IsName ix v r → Named W.file.names v y → (r < 1_059) × (name_of ns r ≡ y)
    number {y = y} R N = (R.small bytes ns W.file _ _ _ _ W.indexed y N.there, R.is bytes ns W.file _ _ _ _ W.indexed y N.there)

  -- A variable.
  pub shows_var : {x r : ℕ} → e ≡ Some (Var x) → IsName ix x r → Shows bytes ix i (Some (Var r))
  shows_var h R = record { is = λ ns y W. let s = rw h at (seen W) in let n = number W R s.named_so in record { small = n.0; is = s.is ∙ ap evar (sym n.1) } }

  -- A number.
  pub shows_int : {v : ℕ} → e ≡ Some (Int v) → Shows bytes ix i (Some (Int v))
  shows_int h = record { is = λ ns y W. rw h at (seen W) }

  -- A truth value.
  pub shows_bool : {b : _} → e ≡ Some (Bool b) → Shows bytes ix i (Some (Bool b))
  shows_bool h = record { is = λ ns y W. rw h at (seen W) }

  -- A function.
  pub shows_abs : {x b r : ℕ} → e ≡ Some (Abs x b) → IsName ix x r → Shows bytes ix i (Some (Abs r b))
  shows_abs h R = record {
    is = λ ns y W.
        let s = rw h at (seen W) in
        let n = number W R s.named_so in
        let p = part W s.body_so in
        record { body = s.body; small = n.0; less = p.0; body_so = p.1; is = s.is ∙ ap (λ z. eabs z s.body) (sym n.1) };
  }

  -- An application.
  pub shows_app : {f a : ℕ} → e ≡ Some (App f a) → Shows bytes ix i (Some (App f a))
  shows_app h = record {
    is = λ ns y W.
        let s = rw h at (seen W) in
        let p = part W s.function_so in
        let q = part W s.argument_so in
        record { function = s.function; argument = s.argument; function_less = p.0; argument_less = q.0; function_so = p.1; argument_so = q.1; is = s.is };
  }

  -- A let.
  pub shows_let : {x b f r : ℕ} → e ≡ Some (Let x b f) → IsName ix x r → Shows bytes ix i (Some (Let r b f))
  shows_let h R = record {
    is = λ ns y W.
        let s = rw h at (seen W) in
        let n = number W R s.named_so in
        let p = part W s.bound_so in
        let q = part W s.body_so in
        record {
          bound = s.bound;
          body = s.body;
          small = n.0;
          bound_less = p.0;
          body_less = q.0;
          bound_so = p.1;
          body_so = q.1;
          is = s.is ∙ ap (λ z. elet z s.bound s.body) (sym n.1);
        };
  }

  -- An expression of the file is always a node.
  pub shows_none : e ≡ None → Shows bytes ix i None
  shows_none h = record { is = λ ns y W. rw h at (seen W) }
