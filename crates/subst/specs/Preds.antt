-- Lists of predicates: cells of a list of types whose fourth word is the class's name.
use Rattle.std.specs.Prelude.{List, [], ◌∷◌, ℕ, zero, suc, ◌+◌, ◌*◌, ◌-◌, get_or, set}
use Rattle.meaning.specs.Ast.{Name, Ty, Pred, pred}
use Rattle.names.specs.Names.{first_node, name_of}
use Rattle.ast.specs.Table.{cell_of, tree, pushed}
use Rattle.ast.specs.declared.Cell.{Cell}
use Rattle.ast.specs.declared.Cell.TheVariants.{Nil, Cons}

-- The number of the name of the class of the cell l.
unfoldable pub class_at : List ℕ → ℕ → ℕ
class_at w l = get_or w (4 * (l - first_node) + 3) 0

-- What a cell says of a class, by what types and lists say.
abbrev pub of_preds : Name → (ℕ → Ty) → (ℕ → List Pred) → Cell → List Pred
of_preds c ty ps Nil = []
of_preds c ty ps (Cons a b) = pred c (ty a) ∷ ps b

-- The same with so much fuel.
unfoldable pub preds_f : ℕ → List ℕ → List ℕ → ℕ → List Pred
preds_f zero ns w l = []
preds_f (suc f) ns w l = of_preds (name_of ns (class_at w l)) (tree ns w) (λ m. preds_f f ns w m) (cell_of w l)

-- The predicates that a word stands for under the names ns.
unfoldable pub preds_of_word : List ℕ → List ℕ → ℕ → List Pred
preds_of_word ns w l = preds_f (suc l) ns w l

-- w with a predicate's cell as node top: its class, its type and the rest of the list.
unfoldable pub pushed_pred : List ℕ → ℕ → ℕ → ℕ → ℕ → List ℕ
pushed_pred w top c a b = pushed (set w (4 * top + 3) c) top 3 a b
