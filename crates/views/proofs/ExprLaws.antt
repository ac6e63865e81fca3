-- Expressions: what the code reads at a place is what the definition reads there.
use mathlib.Core.Path.{◌≡◌, refl, sym, ap, ◌∙◌, subst}
use mathlib.Core.Bool.{Bool as B, true, false}
use mathlib.Core.List.{List, [], ◌∷◌}
use mathlib.Core.Option.{some}
use Prim.Native.Nat.{ℕ, zero, suc, ◌+◌, ◌≤◌}
use native.Mathlib.Omega.{arith}
use native.Mathlib.Decide.{ℕ_discrete}
use lib.ListN.{get_or}
use Rattle.meaning.specs.Base.{eqb, count, nth}
use Rattle.meaning.specs.Errors.{format}
use Rattle.meaning.specs.Ast.{eint, ebool}
use Rattle.meaning.specs.Reader.{item, numeral}
use Rattle.meaning.specs.File.{evar_node, int_node, bool_node, abs_node, app_node, let_node, expr_node}
use Rattle.theorems.proofs.Tests.{some_inj, none_some, eqb_of, is_no_of}
use Rattle.theorems.proofs.Grown.{nth_below}
use Rattle.std.specs.Prelude.{Option as Option-of, Some, None}
use Rattle.reader.specs.Verdicts.{IsField}
use Rattle.reader.specs.Placing.{upto}
use Rattle.views.specs.declared.ExprNode.{ExprNode}
use Rattle.views.specs.declared.ExprNode.TheVariants.{Var, Int, Bool, Abs, App, Let}
use Rattle.views.specs.Numbers.{value_at, number_at}
use Rattle.views.specs.ExprViews.{ExprRead, IsExpr}
use Rattle.views.proofs.Onward.{value_is, read_is, by_number, item_ends, Moves, went, numeral_moves, one_of_moves, word_moves, tag_chose, tag_below, tag_there}

-- A byte as a truth value.
flag_is : (v : ℕ) (b : B) → nth (false ∷ true ∷ []) v ≡ some b → eqb v 1 ≡ b
unfolding nth eqb ℕ_discrete
flag_is zero b e = some_inj false b e
flag_is (suc zero) b e = some_inj true b e
flag_is (suc (suc v)) b e = absurd (none_some b e)

pub flag_true : (bytes : List ℕ) (at v : ℕ) → v ≡ value_at 1 bytes at → v ≡ 1 → true ≡ eqb (value_at 1 bytes at) 1
flag_true bytes at v e h = sym (eqb_of _ 1 (sym e ∙ h))

pub flag_false : (bytes : List ℕ) (at v : ℕ) → v ≡ value_at 1 bytes at → (v ≡ 1 → ⊥) → false ≡ eqb (value_at 1 bytes at) 1
unfolding eqb
flag_false bytes at v e h = sym (is_no_of (ℕ_discrete (value_at 1 bytes at) 1) (λ i. h (e ∙ i)))

pub flag_cut : (bytes : List ℕ) (at : ℕ) → IsField 1 bytes at None → false ≡ eqb (value_at 1 bytes at) 1
unfolding eqb
flag_cut bytes at f = flag_false bytes at 0 (value_is 1 bytes at None 0 f refl) (λ e. omega (arith, e))

flag_moves : (bytes : List ℕ) → Moves bytes 1 (λ p b. eqb (value_at 1 bytes p) 1 ≡ b) (item format (numeral 1) (nth (false ∷ true ∷ [])))
flag_moves bytes = record { at = λ p b next rest e. let i = item_ends format 1 (nth (false ∷ true ∷ [])) bytes p b next rest e in (flag_is _ b i.0, i.1, i.2) }

module _ (bytes : List ℕ) (at tag : ℕ) (f : IsField 1 bytes at (Some tag)) where
  pub expr_var : (x : ℕ) → tag ≡ 0 → x ≡ number_at bytes (at + 1) → ExprRead bytes at (Some (Var x))
  unfolding expr_node evar_node nth
  expr_var x z d = record {
    is = λ ns es t next rest e.
        let c = tag_chose bytes _ at t next rest e (evar_node ns) tag f (rw z refl) in
        let w = went (word_moves ns bytes) _ (at + 1) (at + 1 + 2) t next rest refl c in
        record { name = w.value; named_so = by_number d w.such; is = read_is _ t _ next _ rest w.then };
  }

  pub expr_int : (v : ℕ) → tag ≡ 1 → v ≡ value_at 8 bytes (at + 1) → ExprRead bytes at (Some (Int v))
  unfolding expr_node int_node nth
  expr_int v z d = record {
    is = λ ns es t next rest e.
        let c = tag_chose bytes _ at t next rest e int_node tag f (rw z refl) in
        let w = went (numeral_moves 8 bytes) _ (at + 1) (at + 1 + 8) t next rest refl c in
        read_is _ t _ next _ rest w.then ∙ ap eint (sym w.such ∙ sym d);
  }

  pub expr_bool : (b : B) → tag ≡ 2 → b ≡ eqb (value_at 1 bytes (at + 1)) 1 → ExprRead bytes at (Some (Bool b))
  unfolding expr_node bool_node nth
  expr_bool b z d = record {
    is = λ ns es t next rest e.
        let c = tag_chose bytes _ at t next rest e bool_node tag f (rw z refl) in
        let w = went (flag_moves bytes) _ (at + 1) (at + 1 + 1) t next rest refl c in
        read_is _ t _ next _ rest w.then ∙ ap ebool (sym w.such ∙ sym d);
  }

  pub expr_abs : (x b : ℕ) → tag ≡ 3 → x ≡ number_at bytes (at + 1) → b ≡ number_at bytes (at + 3) → ExprRead bytes at (Some (Abs x b))
  unfolding expr_node abs_node nth
  expr_abs x b z d h = record {
    is = λ ns es t next rest e.
        let i = tag_chose bytes _ at t next rest e (abs_node ns es) tag f (rw z refl) in
        let w = went (word_moves ns bytes) _ (at + 1) (at + 3) t next rest (omega arith) i in
        let l = went (one_of_moves es bytes) _ (at + 3) (at + 3 + 2) t next rest refl w.then in
        record {
          name = w.value;
          body = l.value;
          named_so = by_number d w.such;
          body_so = by_number h l.such;
          is = read_is _ t _ next _ rest l.then;
        };
  }

  pub expr_app : (g a : ℕ) → tag ≡ 4 → g ≡ number_at bytes (at + 1) → a ≡ number_at bytes (at + 3) → ExprRead bytes at (Some (App g a))
  unfolding expr_node app_node nth
  expr_app g a z d h = record {
    is = λ ns es t next rest e.
        let i = tag_chose bytes _ at t next rest e (app_node es) tag f (rw z refl) in
        let w = went (one_of_moves es bytes) _ (at + 1) (at + 3) t next rest (omega arith) i in
        let l = went (one_of_moves es bytes) _ (at + 3) (at + 3 + 2) t next rest refl w.then in
        record {
          function = w.value;
          argument = l.value;
          function_so = by_number d w.such;
          argument_so = by_number h l.such;
          is = read_is _ t _ next _ rest l.then;
        };
  }

  pub expr_let : (x b g : ℕ) → tag ≡ 5 → x ≡ number_at bytes (at + 1) → b ≡ number_at bytes (at + 3) → g ≡ number_at bytes (at + 5) → ExprRead bytes at (Some (Let x b g))
  unfolding expr_node let_node nth
  expr_let x b g z d h j = record {
    is = λ ns es t next rest e.
        let i = tag_chose bytes _ at t next rest e (let_node ns es) tag f (rw z refl) in
        let w = went (word_moves ns bytes) _ (at + 1) (at + 3) t next rest (omega arith) i in
        let l = went (one_of_moves es bytes) _ (at + 3) (at + 5) t next rest (omega arith) w.then in
        let m = went (one_of_moves es bytes) _ (at + 5) (at + 5 + 2) t next rest refl l.then in
        record {
          name = w.value;
          bound = l.value;
          body = m.value;
          named_so = by_number d w.such;
          bound_so = by_number h l.such;
          body_so = by_number j m.such;
          is = read_is _ t _ next _ rest m.then;
        };
  }

  -- The definition knows no other tag.
  pub expr_unknown : 6 ≤ tag → ExprRead bytes at None
  unfolding expr_node count
  expr_unknown z = record { is = λ ns es t next rest e. let b = tag_below bytes _ at t next rest e tag f in omega (arith, b, z) }

pub expr_cut : (bytes : List ℕ) (at : ℕ) → IsField 1 bytes at None → ExprRead bytes at None
unfolding expr_node
expr_cut bytes at f = record { is = λ ns es t next rest e. tag_there bytes _ at t next rest e f }

-- The index has the place of expression i.
pub expr_placed : (bytes ix : List ℕ) (i p : ℕ) (r : Option-of ExprNode) → p ≡ get_or ix (6_144 + i) 0 → ExprRead bytes p r → IsExpr bytes ix i r
expr_placed bytes ix i p r e g = record { is = λ ns es at end t h n. (subst (λ q. ExprRead bytes q r) (e ∙ h.word i (nth_below es i t n)) g).is ns (upto i es) t _ _ (h.item i t n) }
