-- A primitive is added to an environment, and all of them to one without schemes.
use mathlib.Core.Path.{◌≡◌, refl, sym, ap, ◌∙◌}
use mathlib.Core.List.{List}
use mathlib.Core.Option.{some}
use Prim.Native.Nat.{ℕ, suc, ◌+◌, ◌*◌, ◌<◌, ◌≤◌}
use native.Mathlib.Omega.{arith}
use lib.ListN.{length, get_or}
use Rattle.meaning.specs.Map.{names, insert}
use Rattle.meaning.specs.Generalize.{Env}
use Rattle.meaning.specs.Infer.{mono}
use Rattle.meaning.specs.Session.{primitives}
use Rattle.names.specs.Names.{first_nullary}
use Rattle.ast.specs.Table.{Table, Node}
use Rattle.ast.proofs.Laws.{low_node}
use Rattle.pairs.specs.Pairs.{Stands}
use Rattle.pairs.proofs.Frames.{stands_refl, stands_then, stands_up}
use Rattle.subst.specs.Schemes.{scheme_of_word}
use Rattle.scope.specs.Scope.{entry_of, with_entry, closed_entry, env_of, EntryIn, Scope}
use Rattle.scope.specs.declared.Entry.TheVariants.{Nothing}
use Rattle.scope.proofs.EntryLaws.{entry_long}
use Rattle.scope.proofs.Fines.{mono_is, mono_held}
use Rattle.scope.proofs.Laws.{scope_put, scope_with, scope_kept, env_kept}
use Rattle.scope.proofs.Empties.{bare_scope, bare_env}
use Rattle.primitives.specs.declared.Primitive.{Primitive}
use Rattle.primitives.specs.Prims.{title, kind, arrows, firsts, Row, TypeMade, ReadyOne, GivesOne, ReadyPrims, GivesPrims}
use Rattle.primitives.proofs.Rowed.{title_is, kind_closed, firsts_next, firsts_all, arrows_all, arrows_most}
use Rattle.primitives.proofs.Typed.{base_word}

-- ## One primitive

module _ {ns w ev od : List ℕ} {top p : ℕ} {r : Primitive} (R : ReadyOne ns w ev od top p) (Q : Row p r) where
  -- The word of its arguments' type is one of the table.
  pub argument_node : Node w top (first_nullary + r.argument)
  argument_node = let h = Q.argument in low_node R.table (omega arith)

  -- And that of its result's type.
  pub result_node : Node w top (first_nullary + r.result)
  result_node = let h = Q.result in low_node R.table (omega arith)

  -- There is room for its arrows.
  pub one_room : 4 * (top + r.many) ≤ length w
  one_room = let m = Q.many in let h = R.room in omega arith

  -- Its name is one of those that have rows.
  pub one_below : r.number < length od
  one_below = let a = Q.number in let b = R.first in let c = R.rows in omega arith

  -- Its row lies in the words.
  pub one_row : 4 * r.number + 4 ≤ length ev
  one_row = let a = one_below in let b = R.scope.fits in omega arith

  module _ {w' : List ℕ} {t : ℕ} (M : TypeMade w w' top r.many (first_nullary + r.argument) (first_nullary + r.result) t) where
    -- The new word stands for its scheme.
    one_scheme : scheme_of_word ns w' 0 0 t ≡ kind p
    one_scheme =
        mono_is ns w' t
        ∙ ap (λ u. mono u) (M.is ns ∙ rw (base_word w R.built r.argument Q.argument, base_word w R.built r.result Q.result))
        ∙ sym Q.is

    -- What always holds of an entry.
    one_entry : EntryIn ns w' (top + r.many) (closed_entry 0 0 t)
    one_entry = record { held = mono_held ns M.node; closed = rw one_scheme (kind_closed p R.first) }

    -- The rows as they were, over the new words.
    one_scope : Scope ns w' ev od (top + r.many)
    one_scope = scope_kept R.scope M.stands.low (omega arith) M.node.table

    -- It is added.
    pub one_added : {ev' : List ℕ} → ev' ≡ with_entry ev r.number (closed_entry 0 0 t) → GivesOne ns w w' ev ev' od top p (top + r.many)
    one_added {ev'} e = rw e (record {
      stands = M.stands;
      long = M.long;
      wide = entry_long ev r.number (closed_entry 0 0 t);
      grown = ap (λ n. top + n) Q.many;
      table = M.node.table;
      scope = scope_with one_scope r.number (closed_entry 0 0 t) one_below one_entry;
      is = scope_put one_scope r.number one_below (closed_entry 0 0 t) (kind p) (ap some one_scheme)
          ∙ rw (Q.number, title_is R.built p R.first, env_kept R.scope M.stands.low);
    })

-- ## All of them

-- A row whose state is zero says nothing: so do all rows of a slice of zeros.
pub zero_row : (ev : List ℕ) (r : ℕ) → get_or ev (4 * r) 0 ≡ 0 → entry_of ev r ≡ Nothing
unfolding entry_of
zero_row ev r e = rw e

-- The loop has added the first p.
pub record Adding (ns w ev od : List ℕ) (top : ℕ) (w₁ ev₁ : List ℕ) (t p : ℕ) : Type 0 where
  pub upto : p ≤ 7
  pub stands : Stands w w₁ top (4 * (top + 13))
  pub long : length w₁ ≡ length w
  pub wide : length ev₁ ≡ length ev
  pub grown : t ≡ top + arrows p
  pub table : Table w₁ t
  pub scope : Scope ns w₁ ev₁ od t
  pub is : env_of ns w₁ ev₁ od ≡ firsts p primitives

module _ {ns w ev od : List ℕ} {top : ℕ} (R : ReadyPrims ns w ev od top) where
  -- At first none.
  pub none_added : Adding ns w ev od top w ev top 0
  unfolding arrows firsts
  none_added =
      let n = R.rows in let m = R.fits in
      record {
        upto = omega arith;
        stands = stands_refl _ _ _;
        long = refl;
        wide = refl;
        grown = omega arith;
        table = R.table;
        scope = bare_scope ns w ev od top R.order (omega arith) (λ r h. R.bare r (omega arith));
        is = bare_env ns w ev od R.order (λ r h. R.bare r (omega arith));
      }

  module _ {w₁ ev₁ : List ℕ} {t p : ℕ} (I : Adding ns w ev od top w₁ ev₁ t p) where
    -- What the next one asks.
    pub next_ready : p < 7 → ReadyOne ns w₁ ev₁ od t p
    next_ready h =
        let a = arrows_most p h in let g = I.grown in let l = I.long in let o = R.room in
        record { built = R.built; first = h; table = I.table; scope = I.scope; rows = R.rows; room = omega arith }

    -- One more is added.
    pub next_added : {w₂ ev₂ : List ℕ} {t₂ : ℕ} → p < 7 → GivesOne ns w₁ w₂ ev₁ ev₂ od t p t₂ → Adding ns w ev od top w₂ ev₂ t₂ (p + 1)
    unfolding arrows
    next_added {w₂} {ev₂} {t₂} h G =
        let a = arrows_most p h in let g = I.grown in let d = G.grown in
        let y : p + 1 ≡ suc p = omega arith in
        rw y (record {
          upto = omega arith;
          stands = stands_then I.stands (stands_up G.stands (omega arith)) (omega arith);
          long = G.long ∙ I.long;
          wide = G.wide ∙ I.wide;
          grown = omega arith;
          table = G.table;
          scope = G.scope;
          is = G.is ∙ ap (λ (env : Env). insert names (title p, kind p) env) I.is ∙ firsts_next p h;
        })

    -- All are added.
    pub all_added : 7 ≤ p → GivesPrims ns w w₁ ev ev₁ od top t
    all_added h =
        let u = I.upto in let e : p ≡ 7 = omega arith in
        let z : t ≡ top + 13 = I.grown ∙ ap (λ n. top + arrows n) e ∙ ap (λ n. top + n) arrows_all in
        record {
          stands = rw z I.stands;
          long = I.long;
          wide = I.wide;
          grown = z;
          table = I.table;
          scope = I.scope;
          is = I.is ∙ ap (λ n. firsts n primitives) e ∙ firsts_all;
        }
