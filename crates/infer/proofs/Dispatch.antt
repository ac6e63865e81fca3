-- The ways out of `infer`: one step, and then what the expression is.
use mathlib.Core.Path.{◌≡◌, refl, ap, ◌∙◌}
use mathlib.Core.List.{List, []}
use Prim.Native.Nat.{ℕ, zero, suc, ◌+◌, ◌-◌, ◌<◌, ◌≤◌}
use native.Mathlib.Omega.{arith}
use native.Mathlib.Numerals.{add-one, sub-one}
use Rattle.meaning.specs.Ast.{Name, int, bool, Expr, evar, eint, ebool, eabs, eapp, elet, cint, cbool}
use Rattle.meaning.specs.Errors as Er
use Rattle.meaning.specs.Budget.{Out, refused, after, step}
use Rattle.meaning.specs.Subst.{empty}
use Rattle.meaning.specs.Classes.{ClassEnv}
use Rattle.meaning.specs.Infer as M
use Rattle.names.specs.Names.{first_fresh, name_of, tyvar_of}
use Rattle.errors.specs.declared.Refusal.TheVariants.{Steps, Depth}
use Rattle.pairs.proofs.Frames.{stands_refl}
use Rattle.exprs.specs.Exprs.{ShownAs, Shows}
use Rattle.std.specs.Prelude.{Option, Some, None}
use Rattle.views.specs.declared.ExprNode.{ExprNode}
use Rattle.views.specs.declared.ExprNode.TheVariants.{Var, Int, Bool, Abs, App, Let}
use Rattle.inferred.specs.Parts.{abs_body, app_arg, let_mid}
use Rattle.inferred.specs.Inferring.{state_of, ReadyI, GivesI}
use Rattle.inferred.specs.Inferred.{Inferred}
use Rattle.inferred.specs.Inferred.{Refused}
use Rattle.inferred.proofs.Cuts.{abs_cut, app_cut, let_cut}
use Rattle.infer.specs.Runs.{Nothing, literal, inferred_then}
use Rattle.infer.specs.Asking.{Asked, AskedNamed, AskedName, AskedTwo, AskedLet}
use Rattle.infer.proofs.Handing.{Via, handed, refused_here}
use Rattle.infer.proofs.Abstractions.{fresh_word}

-- Without depth.
deep : (d : ℕ) (ce : ClassEnv) (x : Expr) (st : M.State) (n : ℕ) → d ≡ 0 → M.infer_in d ce x st n ≡ refused Er.too_deep n
unfolding M.infer_in
deep d ce x st n h = rw h

-- Without a step.
spent : (d : ℕ) (ce : ClassEnv) (x : Expr) (st : M.State) (n : ℕ) → (d ≡ 0 → ⊥) → n ≡ 0 → M.infer_in d ce x st n ≡ refused Er.out_of_steps 0
unfolding M.infer_in step
spent zero ce x st n h z = absurd (h refl)
spent (suc d) ce x st n h z = rw z

-- One step.
one_step : (d : ℕ) (ce : ClassEnv) (x : Expr) (st : M.State) (n : ℕ) → (d ≡ 0 → ⊥) → (n ≡ 0 → ⊥) → M.infer_in d ce x st n ≡ M.infer_node ce (λ u. M.infer_in (d - 1) ce u) x st (n - 1)
unfolding M.infer_in step
one_step zero ce x st n h k = absurd (h refl)
one_step (suc d) ce x st zero h k = absurd (k refl)
one_step (suc d) ce x st (suc n) h k = simp sub-one

-- A function, cut, with the next variable's number.
abs_node : (ce : ClassEnv) (inf : Expr → M.Run M.Inferred) (x : Name) (b : Expr) (ns w ev od : List ℕ) (tv dv n : ℕ) → tv < first_fresh
    → M.infer_node ce inf (eabs x b) (state_of ns w ev od tv dv) n ≡ abs_body inf x (tyvar_of ns (first_fresh + tv)) b (state_of ns w ev od (tv + 1) dv) n
unfolding M.infer_node M.fresh_tyvar after
abs_node ce inf x b ns w ev od tv dv n h = abs_cut inf x b (state_of ns w ev od tv dv) n ∙ rw (fresh_word ns tv h, add-one tv)

-- An application.
app_node : (ce : ClassEnv) (inf : Expr → M.Run M.Inferred) (f x : Expr) (ns w ev od : List ℕ) (tv dv n : ℕ) → tv < first_fresh
    → M.infer_node ce inf (eapp f x) (state_of ns w ev od tv dv) n ≡ inferred_then (inf f) (λ r. app_arg inf (tyvar_of ns (first_fresh + tv)) r x) (state_of ns w ev od (tv + 1) dv) n
unfolding M.infer_node M.fresh_tyvar after
app_node ce inf f x ns w ev od tv dv n h = app_cut inf f x (state_of ns w ev od tv dv) n ∙ rw (fresh_word ns tv h, add-one tv)

-- A let.
let_node : (ce : ClassEnv) (inf : Expr → M.Run M.Inferred) (v : Name) (b f : Expr) (st : M.State) (n : ℕ)
    → M.infer_node ce inf (elet v b f) st n ≡ inferred_then (inf b) (λ r. let_mid ce inf v r f) st n
unfolding M.infer_node
let_node ce inf v b f st n = let_cut ce inf v b f st n

-- What the view says, in two steps.
pub node_is : {x : Option ExprNode} {n y : ExprNode} → x ≡ Some n → n ≡ y → x ≡ Some y
node_is e f = e ∙ ap (λ (z : ExprNode). Some z) f

-- A variable.
var_node : (ce : ClassEnv) (inf : Expr → M.Run M.Inferred) (x : Name) (st : M.State) (n : ℕ) → M.infer_node ce inf (evar x) st n ≡ M.infer_var ce x st n
unfolding M.infer_node
var_node ce inf x st n = refl

-- A number.
int_node : (ce : ClassEnv) (inf : Expr → M.Run M.Inferred) (v : ℕ) (st : M.State) (n : ℕ) → M.infer_node ce inf (eint v) st n ≡ literal (empty, int, [], cint v) st n
unfolding M.infer_node
int_node ce inf v st n = refl

-- A truth value.
bool_node : (ce : ClassEnv) (inf : Expr → M.Run M.Inferred) (b : _) (st : M.State) (n : ℕ) → M.infer_node ce inf (ebool b) st n ≡ literal (empty, bool, [], cbool b) st n
unfolding M.infer_node
bool_node ce inf b st n = refl

module _ {ns w ev od il bs : List ℕ} {top left sp tv dv : ℕ} (R : ReadyI 0 0 0 ns w ev od il bs top left sp tv dv) (bytes ix cl mt : List ℕ) (depth i : ℕ) where
  -- The outcome.
  abbrev whole : ClassEnv × Expr → Out (M.Inferred × M.State)
  whole p = M.infer_in depth p.0 p.1 (state_of ns w ev od tv dv) left

  -- No depth is left.
  pub infer_deep : depth ≡ 0 → GivesI (Asked bytes ns ix w cl mt il ev od top i) whole 0 0 0 ns w w ev od bs bs top left sp tv dv (Refused Depth top left)
  infer_deep h = refused_here tt (omega arith) (λ p A. deep depth p.0 p.1 (state_of ns w ev od tv dv) left h)

  module _ (h : depth ≡ 0 → ⊥) where
    -- No step is left.
    pub infer_spent : left ≡ 0 → GivesI (Asked bytes ns ix w cl mt il ev od top i) whole 0 0 0 ns w w ev od bs bs top left sp tv dv (Refused Steps top left)
    infer_spent k = refused_here tt (omega arith) (λ p A. spent depth p.0 p.1 (state_of ns w ev od tv dv) left h k ∙ rw k refl)

    module _ (k : left ≡ 0 → ⊥) where
      -- What the members ask: the step pays for eight words, a variable and a row.
      pub infer_asks : (x y z : ℕ) → x ≤ 8 → y ≤ 1 → z ≤ 1 → ReadyI x y z ns w ev od il bs top (left - 1) sp tv dv
      infer_asks x y z a b c = let q1 = R.room in let q2 = R.rows in let q3 = R.tvs in let q4 = R.dvs in record {
        names = R.names;
        built = R.built;
        table = R.table;
        scope = R.scope;
        all = R.all;
        heads = R.heads;
        room = omega arith;
        fits = R.fits;
        long = R.long;
        rows = omega arith;
        tvs = omega arith;
        dvs = omega arith;
      }

      -- A member's answer, where its outcome is the node's.
      hands : {E : Type 0} {Of : E → Type 0} {o : E → Out (M.Inferred × M.State)} {x y z : ℕ} {w' ev' bs' : List ℕ} {q : Inferred} → x ≤ 8 → y ≤ 1 → z ≤ 1
          → ((p : ClassEnv × Expr) → Asked bytes ns ix w cl mt il ev od top i p → Via Of o (M.infer_node p.0 (λ u. M.infer_in (depth - 1) p.0 u) p.1 (state_of ns w ev od tv dv) (left - 1)))
          → GivesI Of o x y z ns w w' ev' od bs bs' top (left - 1) sp tv dv q → GivesI (Asked bytes ns ix w cl mt il ev od top i) whole 0 0 0 ns w w' ev' od bs bs' top left sp tv dv q
      hands a b c via G = handed (record { more = omega arith; fewer = omega arith; words = omega arith; rows = omega arith; tvs = omega arith; dvs = omega arith })
          (λ p A. let v = via p A in record { at = v.at; holds = v.holds; is = one_step depth p.0 p.1 (state_of ns w ev od tv dv) left h k ∙ v.is }) (stands_refl _ _ _) refl G

      module _ {x : Option ExprNode} (S : Shows bytes ix i x) where
        -- What the view says.
        shown : {y : Option ExprNode} → x ≡ y → (p : ClassEnv × Expr) → Asked bytes ns ix w cl mt il ev od top i p → ShownAs bytes ns ix i p.1 y
        shown e p A = rw e at (S.is ns p.1 A.written)

        -- No node of a file.
        pub infer_nothing : x ≡ None → GivesI (Asked bytes ns ix w cl mt il ev od top i) whole 0 0 0 ns w w ev od bs bs top left sp tv dv (Refused Depth top left)
        infer_nothing e = refused_here tt (omega arith) (λ p A. absurd (shown e p A))

        -- A variable.
        pub infer_name : {r : ℕ} {w' ev' bs' : List ℕ} {q : Inferred} → x ≡ Some (Var r)
            → GivesI (AskedName ns w cl mt il top r) (λ ce. M.infer_var ce (name_of ns r) (state_of ns w ev od tv dv) (left - 1)) 0 0 0 ns w w' ev' od bs bs' top (left - 1) sp tv dv q
            → GivesI (Asked bytes ns ix w cl mt il ev od top i) whole 0 0 0 ns w w' ev' od bs bs' top left sp tv dv q
        infer_name {r} e G = hands (omega arith) (omega arith) (omega arith) (λ p A. let v = shown e p A in record {
          at = p.0;
          holds = record { still = A.still; right = A.right; small = v.small };
          is = ap (λ (e : Expr). M.infer_node p.0 (λ u. M.infer_in (depth - 1) p.0 u) e (state_of ns w ev od tv dv) (left - 1)) v.is ∙ (var_node p.0 (λ u. M.infer_in (depth - 1) p.0 u) (name_of ns r) (state_of ns w ev od tv dv) (left - 1));
        }) G

        -- A number.
        pub infer_int : {v : ℕ} {w' : List ℕ} {q : Inferred} → x ≡ Some (Int v)
            → GivesI Nothing (λ _. literal (empty, int, [], cint v) (state_of ns w ev od tv dv) (left - 1)) 8 0 0 ns w w' ev od bs bs top (left - 1) sp tv dv q
            → GivesI (Asked bytes ns ix w cl mt il ev od top i) whole 0 0 0 ns w w' ev od bs bs top left sp tv dv q
        infer_int {v} e G = hands (omega arith) (omega arith) (omega arith) (λ p A. record {
          at = tt {0};
          holds = tt {0};
          is = ap (λ (e : Expr). M.infer_node p.0 (λ u. M.infer_in (depth - 1) p.0 u) e (state_of ns w ev od tv dv) (left - 1)) (shown e p A) ∙ (int_node p.0 (λ u. M.infer_in (depth - 1) p.0 u) v (state_of ns w ev od tv dv) (left - 1));
        }) G

        -- A truth value.
        pub infer_bool : {b : _} {w' : List ℕ} {q : Inferred} → x ≡ Some (Bool b)
            → GivesI Nothing (λ _. literal (empty, bool, [], cbool b) (state_of ns w ev od tv dv) (left - 1)) 8 0 0 ns w w' ev od bs bs top (left - 1) sp tv dv q
            → GivesI (Asked bytes ns ix w cl mt il ev od top i) whole 0 0 0 ns w w' ev od bs bs top left sp tv dv q
        infer_bool {b} e G = hands (omega arith) (omega arith) (omega arith) (λ p A. record {
          at = tt {0};
          holds = tt {0};
          is = ap (λ (e : Expr). M.infer_node p.0 (λ u. M.infer_in (depth - 1) p.0 u) e (state_of ns w ev od tv dv) (left - 1)) (shown e p A) ∙ (bool_node p.0 (λ u. M.infer_in (depth - 1) p.0 u) b (state_of ns w ev od tv dv) (left - 1));
        }) G

        -- A function.
        pub infer_abs : {r b : ℕ} {w' ev' bs' : List ℕ} {q : Inferred} → x ≡ Some (Abs r b)
            → GivesI (AskedNamed bytes ns ix w cl mt il ev od top r b) (λ p. abs_body (λ u. M.infer_in (depth - 1) p.0 u) (name_of ns r) (tyvar_of ns (first_fresh + tv)) p.1 (state_of ns w ev od (tv + 1) dv) (left - 1))
            8 1 1 ns w w' ev' od bs bs' top (left - 1) sp tv dv q
            → GivesI (Asked bytes ns ix w cl mt il ev od top i) whole 0 0 0 ns w w' ev' od bs bs' top left sp tv dv q
        infer_abs {r} {b} e G = hands (omega arith) (omega arith) (omega arith) (λ p A. let v = shown e p A in record {
          at = (p.0, v.body);
          holds = record { asked = record { still = A.still; right = A.right; written = v.body_so; made = A.made }; small = v.small };
          is = ap (λ (e : Expr). M.infer_node p.0 (λ u. M.infer_in (depth - 1) p.0 u) e (state_of ns w ev od tv dv) (left - 1)) v.is ∙ (let a = R.tvs in abs_node p.0 (λ u. M.infer_in (depth - 1) p.0 u) (name_of ns r) v.body ns w ev od tv dv (left - 1) (omega arith));
        }) G

        -- An application.
        pub infer_app : {f y : ℕ} {w' ev' bs' : List ℕ} {q : Inferred} → x ≡ Some (App f y)
            → GivesI (AskedTwo bytes ns ix w cl mt il ev od top f y) (λ p. inferred_then (M.infer_in (depth - 1) p.0 p.1) (λ r. app_arg (λ u. M.infer_in (depth - 1) p.0 u) (tyvar_of ns (first_fresh + tv)) r p.2) (state_of ns w ev od (tv + 1) dv) (left - 1))
            8 1 1 ns w w' ev' od bs bs' top (left - 1) sp tv dv q
            → GivesI (Asked bytes ns ix w cl mt il ev od top i) whole 0 0 0 ns w w' ev' od bs bs' top left sp tv dv q
        infer_app {f} {y} e G = hands (omega arith) (omega arith) (omega arith) (λ p A. let v = shown e p A in record {
          at = (p.0, v.function, v.argument);
          holds = record { first = record { still = A.still; right = A.right; written = v.function_so; made = A.made }; second = v.argument_so };
          is = ap (λ (e : Expr). M.infer_node p.0 (λ u. M.infer_in (depth - 1) p.0 u) e (state_of ns w ev od tv dv) (left - 1)) v.is ∙ (let a = R.tvs in app_node p.0 (λ u. M.infer_in (depth - 1) p.0 u) v.function v.argument ns w ev od tv dv (left - 1) (omega arith));
        }) G

        -- A let.
        pub infer_let : {r b f : ℕ} {w' ev' bs' : List ℕ} {q : Inferred} → x ≡ Some (Let r b f)
            → GivesI (AskedLet bytes ns ix w cl mt il ev od top r b f) (λ p. inferred_then (M.infer_in (depth - 1) p.0 p.1) (λ r₁. let_mid p.0 (λ u. M.infer_in (depth - 1) p.0 u) (name_of ns r) r₁ p.2) (state_of ns w ev od tv dv) (left - 1))
            8 0 1 ns w w' ev' od bs bs' top (left - 1) sp tv dv q
            → GivesI (Asked bytes ns ix w cl mt il ev od top i) whole 0 0 0 ns w w' ev' od bs bs' top left sp tv dv q
        infer_let {r} {b} {f} e G = hands (omega arith) (omega arith) (omega arith) (λ p A. let v = shown e p A in record {
          at = (p.0, v.bound, v.body);
          holds = record { two = record { first = record { still = A.still; right = A.right; written = v.bound_so; made = A.made }; second = v.body_so }; small = v.small };
          is = ap (λ (e : Expr). M.infer_node p.0 (λ u. M.infer_in (depth - 1) p.0 u) e (state_of ns w ev od tv dv) (left - 1)) v.is ∙ (let_node p.0 (λ u. M.infer_in (depth - 1) p.0 u) (name_of ns r) v.bound v.body (state_of ns w ev od tv dv) (left - 1));
        }) G
