-- What `fresh_all` builds renames the variables of a list to made ones.
use Prim.Native.Nat.{ℕ, zero, suc, ◌+◌, ◌-◌, ◌<◌}
use native.Mathlib.Decide.{ℕ_discrete}
use native.Mathlib.Omega.{arith}
use mathlib.Core.Path.{◌≡◌, refl, ap, sym, ◌∙◌}
use mathlib.Core.List.{List, [], ◌∷◌}
use mathlib.Core.Option.{Option, none, some}
use Rattle.meaning.specs.Base.{if, eqb, count}
use Rattle.meaning.specs.Ast.{TyVar, fresh, Ty, var}
use Rattle.meaning.specs.Map.{tyvars, get, insert}
use Rattle.meaning.specs.Budget.{done, after}
use Rattle.meaning.specs.Subst.{or_var}
use Rattle.meaning.specs.Infer.{State, fresh_tyvar, fresh_all}
use Rattle.theorems.proofs.Maps.{get_insert_same, get_insert_other}
use Rattle.names.specs.Names.{Names, first_fresh, first_nullary, first_node, kind_of, tyvar_of}
use Rattle.names.proofs.Tests.{eq_yes, eq_no, lt_yes, lt_no}
use Rattle.names.proofs.Distinct.{tyvar_of_same}
use Rattle.ast.specs.Table.{cell_of, Node}
use Rattle.ast.specs.declared.Cell.{Cell}
use Rattle.ast.specs.declared.Cell.TheVariants.{Nil, Cons}
use Rattle.ast.proofs.Laws.{cons_tail}
use Rattle.vars.specs.Vars.{vars_of_word}
use Rattle.vars.proofs.VarLaws.{vars_nil, vars_cons}
use Rattle.rename.specs.Renaming.{later, pos_in, pos_at, or_word, renamed_word, Renames, freshened}
use Rattle.rename.proofs.Places.{pos_nil, pos_cons, pos_few}

-- The state with another counter of made variables.
unfoldable pub with_made : ℕ → State → State
with_made k st = record { env = st.env; tv_counter = k; dv_counter = st.dv_counter }

-- `fresh_all` builds it, and the counter is so much further.
pub fresh_is : (vs : List TyVar) (st : State) (n : ℕ) → fresh_all vs st n ≡ done (freshened st.tv_counter vs, with_made (st.tv_counter + count vs) st) n
unfolding fresh_all fresh_tyvar freshened after count with_made
fresh_is [] st n = let e : st.tv_counter + 0 ≡ st.tv_counter = omega arith in rw e refl
fresh_is (v ∷ vs) st n = let e : st.tv_counter + suc (count vs) ≡ suc st.tv_counter + count vs = omega arith in
    rw (e, fresh_is vs (record { env = st.env; tv_counter = suc st.tv_counter; dv_counter = st.dv_counter }) n) refl

-- The made variable at a place, if there is one.
abbrev made : ℕ → Option ℕ → Option Ty
made k none = none
made k (some i) = some (var (fresh (k + i)))

-- It is the next one's.
made_later : (k : ℕ) (o : Option ℕ) → made (suc k) o ≡ made k (later o)
made_later k none = refl
made_later k (some i) = ap (λ n. some (var (fresh n))) (let e : suc k + i ≡ k + suc i = omega arith in e)

module _ {ns w : List ℕ} {top : ℕ} (M : Names ns) (x : ℕ) where
  -- What it has for a variable is the made one at the place of its word, for a list below f.
  get_fresh : (f l k : ℕ) → l < f → Node w top l → get tyvars (tyvar_of ns x) (freshened k (vars_of_word ns w l)) ≡ made k (pos_in w l x)
  unfolding freshened get
  get_fresh zero l k h N = absurd (omega arith)
  get_fresh (suc f) l k h N = go (cell_of w l) refl (λ b j. get_fresh f b j)
    where
      one : (a b : ℕ) → Dec (a ≡ x) → get tyvars (tyvar_of ns x) (freshened (suc k) (vars_of_word ns w b)) ≡ made (suc k) (pos_in w b x)
          → get tyvars (tyvar_of ns x) (insert tyvars (tyvar_of ns a, var (fresh k)) (freshened (suc k) (vars_of_word ns w b))) ≡ made k (if (eqb a x) (some 0) (later (pos_in w b x)))
      one a b (yes p) ih = rw (eq_yes a x p, p) (get_insert_same tyvars (tyvar_of ns x) (var (fresh k)) _ ∙ ap (λ n. some (var (fresh n))) (let e : k ≡ k + 0 = omega arith in e))
      one a b (no n) ih = rw (eq_no a x n) (get_insert_other tyvars (tyvar_of ns x) (tyvar_of ns a, var (fresh k)) _ (λ p. n (sym (tyvar_of_same ns M x a p))) ∙ ih ∙ made_later k (pos_in w b x))

      go : (s : Cell) → s ≡ cell_of w l → ((b j : ℕ) → b < f → Node w top b → get tyvars (tyvar_of ns x) (freshened j (vars_of_word ns w b)) ≡ made j (pos_in w b x))
          → get tyvars (tyvar_of ns x) (freshened k (vars_of_word ns w l)) ≡ made k (pos_in w l x)
      go Nil e ih = rw (vars_nil ns N e refl, pos_nil x N e refl)
      go (Cons a b) e ih = let t = cons_tail N e refl in let u = t.0 in
          rw (vars_cons ns N e refl, pos_cons x N e refl) (one a b (ℕ_discrete a x) (ih b (suc k) (omega arith) t.1))

-- The word of a made variable.
made_word : (ns : List ℕ) (k : ℕ) → k < first_fresh → tyvar_of ns (first_fresh + k) ≡ fresh k
unfolding tyvar_of kind_of
made_word ns k h =
    let e : first_fresh + k - first_fresh ≡ k = omega arith in
    rw (lt_no (first_fresh + k) first_fresh (omega arith), lt_yes (first_fresh + k) first_nullary (omega arith), e)

-- So it renames the variables of a list of the table to made ones, in order, if these have words.
pub fresh_renames : {ns w : List ℕ} {top vs : ℕ} (tv : ℕ) → Names ns → Node w top vs → tv + vs < first_fresh + first_node → Renames ns w vs (first_fresh + tv) [] (freshened tv (vars_of_word ns w vs))
unfolding or_var renamed_word pos_at pos_in
fresh_renames {ns} {w} {top} {vs} tv M N h = record { at = λ x. rw (get_fresh M x (suc vs) vs tv (omega arith) N) (go x (pos_in w vs x) refl) }
  where
    go : (x : ℕ) (o : Option ℕ) → pos_in w vs x ≡ o → or_var (tyvar_of ns x) (made tv o) ≡ var (tyvar_of ns (or_word (first_fresh + tv) x o))
    go x none k = refl
    go x (some i) k =
        let b = pos_few x N.table (suc vs) vs i N.below k in
        let e : first_fresh + tv + i ≡ first_fresh + (tv + i) = omega arith in
        rw (e, made_word ns (tv + i) (omega arith))
