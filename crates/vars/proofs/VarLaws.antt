-- Laws of lists of variables: what a list stands for by its cell, that it stands where its words do, a new cell, and looking in it.
use Prim.Native.Nat.{ℕ, zero, suc, ◌+◌, ◌*◌, ◌<◌, ◌≤◌}
use native.Mathlib.Omega.{arith}
use mathlib.Core.Path.{◌≡◌, refl, ap, sym, ◌∙◌}
use mathlib.Core.Bool.{true, false}
use mathlib.Core.List.{List, [], ◌∷◌}
use lib.ListN.{length}
use Rattle.meaning.specs.Base.{is_yes, if}
use Rattle.meaning.specs.Ast.{TyVar, same_tyvar}
use Rattle.meaning.specs.Map.{tyvars, elem}
use Rattle.names.specs.Names.{Names, first_node, tyvar_of}
use Rattle.names.proofs.Distinct.{tyvar_of_same}
use Rattle.ast.specs.Table.{cell_of, CellBelow, Table, Node, Kept, pushed}
use Rattle.ast.specs.declared.Cell.{Cell}
use Rattle.ast.specs.declared.Cell.TheVariants.{Nil, Cons}
use Rattle.ast.proofs.Ranges.{cell_low}
use Rattle.ast.proofs.Laws.{cells_below, kept_cell, kept_refl, no_nodes, low_node, cons_tail}
use Rattle.ast.proofs.NewNode.{Pushed, push_cons, pushed-cell}
use Rattle.vars.specs.Vars.{of_vars, vars_f, vars_of_word}

-- Two readings that agree below t agree on a cell that refers below t.
cell_ext : (ns : List ℕ) (vs vs' : ℕ → List TyVar) (t : ℕ) (s : Cell) → CellBelow t s → ((m : ℕ) → m < t → vs m ≡ vs' m) → of_vars ns vs s ≡ of_vars ns vs' s
cell_ext ns vs vs' t Nil h q = refl
cell_ext ns vs vs' t (Cons a b) h q = rw (q b h.1)

module _ {w w' : List ℕ} {top : ℕ} (K : Kept w w' top) (ns : List ℕ) (T : Table w top) where
  -- What stands below top is read alike from words that keep it, with any fuel that is enough.
  fuel : (f g t : ℕ) → t < f → t < g → t < first_node + top → vars_f f ns w' t ≡ vars_f g ns w t
  unfolding vars_f
  fuel zero g t p q r = absurd (omega arith)
  fuel (suc f) zero t p q r = absurd (omega arith)
  fuel (suc f) (suc g) t p q r =
      ap (of_vars ns (λ m. vars_f f ns w' m)) (kept_cell K t r)
      ∙ cell_ext ns _ _ t (cell_of w t) (cells_below (record { table = T; below = r })) (λ m h. fuel f g m (omega arith) (omega arith) (omega arith))

-- A word of a table stands for the same variables in words that keep the table.
pub kept_vars : {w w' : List ℕ} {top t : ℕ} (ns : List ℕ) → Kept w w' top → Node w top t → vars_of_word ns w' t ≡ vars_of_word ns w t
unfolding vars_of_word
kept_vars {t = t} ns K N = fuel K ns N.table (suc t) (suc t) t (omega arith) (omega arith) N.below

-- What a reader of a list learns: r is what `cell_at` returned, and the arm of the match says which cell it is.
module _ {w : List ℕ} {top l : ℕ} {r : Cell} (ns : List ℕ) (N : Node w top l) (e : r ≡ cell_of w l) where
  -- The variables of a word, by its cell.
  pub vars_of : vars_of_word ns w l ≡ of_vars ns (vars_of_word ns w) r
  unfolding vars_of_word vars_f
  vars_of = rw e (let b = N.below in cell_ext ns _ _ l (cell_of w l) (cells_below N)
      (λ m h. fuel (kept_refl w top) ns N.table l (suc m) m h (omega arith) (omega arith)))

  -- No variables.
  pub vars_nil : r ≡ Nil → vars_of_word ns w l ≡ []
  vars_nil k = rw k at vars_of

  -- A first variable and the rest.
  pub vars_cons : {a b : ℕ} → r ≡ Cons a b → vars_of_word ns w l ≡ tyvar_of ns a ∷ vars_of_word ns w b
  vars_cons k = rw k at vars_of

-- A word that names no node is no variables, over any words.
pub low_vars : (ns w : List ℕ) (t : ℕ) → t < first_node → vars_of_word ns w t ≡ []
low_vars ns w t h = vars_nil ns (low_node (no_nodes w) h) (sym (cell_low w t h)) refl

-- What `push` makes of a variable's word and the rest of a list, w' being the words after it.
pub push_vars : {w w' : List ℕ} {top a b : ℕ} (ns : List ℕ) → 4 * top + 4 ≤ length w → top < first_node → Node w top a → Node w top b → w' ≡ pushed w top 3 a b
    → Pushed (vars_of_word ns w') w w' top (tyvar_of ns a ∷ vars_of_word ns w b)
push_vars {w} {w'} {top} {a} {b} ns room small A B e =
    let P = push_cons ns room small A B e in
    record {
      long = P.long;
      kept = P.kept;
      node = P.node;
      is = vars_cons ns P.node (sym (ap (λ v. cell_of v (first_node + top)) e ∙ pushed-cell w top 3 a b room)) refl ∙ rw (kept_vars ns P.kept B);
    }

-- ## Looking for a variable

-- One variable more, told by a test of the variables.
hit : (x y : TyVar) (vs : List TyVar) → x ≡ y → elem tyvars x (y ∷ vs) ≡ true
unfolding elem
hit x y vs e = go (same_tyvar x y)
  where
    go : (d : Dec (x ≡ y)) → if (is_yes d) true (elem tyvars x vs) ≡ true
    go (yes p) = refl
    go (no n) = absurd (n e)

-- It is another one.
miss : (x y : TyVar) (vs : List TyVar) → (x ≡ y → ⊥) → elem tyvars x (y ∷ vs) ≡ elem tyvars x vs
unfolding elem
miss x y vs n = go (same_tyvar x y)
  where
    go : (d : Dec (x ≡ y)) → if (is_yes d) true (elem tyvars x vs) ≡ elem tyvars x vs
    go (yes p) = absurd (n p)
    go (no _) = refl

-- What is left of the list has the variable of word x just where all of it has.
pub record Seeking (ns w : List ℕ) (top vs x l : ℕ) : Type 0 where
  pub node : Node w top l
  pub same : elem tyvars (tyvar_of ns x) (vars_of_word ns w l) ≡ elem tyvars (tyvar_of ns x) (vars_of_word ns w vs)

-- At first all is left.
pub seeking : {ns w : List ℕ} {top vs : ℕ} (x : ℕ) → Node w top vs → Seeking ns w top vs x vs
seeking x N = record { node = N; same = refl }

-- What a cell of the list tells.
module _ {ns w : List ℕ} {top vs x l : ℕ} {r : Cell} (M : Names ns) (S : Seeking ns w top vs x l) (e : r ≡ cell_of w l) where
  -- Nothing is left.
  pub seeks_none : r ≡ Nil → false ≡ elem tyvars (tyvar_of ns x) (vars_of_word ns w vs)
  unfolding elem
  seeks_none k = rw (vars_nil ns S.node e k) at S.same

  -- The variable is there.
  pub seeks_hit : {a b : ℕ} → r ≡ Cons a b → a ≡ x → true ≡ elem tyvars (tyvar_of ns x) (vars_of_word ns w vs)
  seeks_hit {a} {b} k h = sym (hit (tyvar_of ns x) (tyvar_of ns a) (vars_of_word ns w b) (ap (tyvar_of ns) (sym h))) ∙ (rw (vars_cons ns S.node e k) at S.same)

  -- Another one is passed; what is left is shorter.
  pub seeks_on : {a b : ℕ} → r ≡ Cons a b → (a ≡ x → ⊥) → (b < l) × Seeking ns w top vs x b
  seeks_on {a} {b} k n = let t = cons_tail S.node e k in (
    t.0,
    record {
      node = t.1;
      same = sym (miss (tyvar_of ns x) (tyvar_of ns a) (vars_of_word ns w b) (λ p. n (sym (tyvar_of_same ns M x a p)))) ∙ (rw (vars_cons ns S.node e k) at S.same);
    },
  )
