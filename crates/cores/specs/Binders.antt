-- Lists of binders: cells of a list of types whose fourth word is 65536 * (the dictionary's number) + (the class's name).
use Rattle.std.specs.Prelude.{List, [], ◌∷◌, ℕ, zero, suc, ◌+◌, ◌*◌, ◌-◌, ◌/◌, ◌%◌, get_or}
use Rattle.meaning.specs.Ast.{dvar, Ty, pred, Binder}
use Rattle.names.specs.Names.{first_node, name_of}
use Rattle.ast.specs.Table.{cell_of, tree}
use Rattle.ast.specs.declared.Cell.{Cell}
use Rattle.ast.specs.declared.Cell.TheVariants.{Nil, Cons}

-- The fourth word of the cell l.
unfoldable pub fourth_at : List ℕ → ℕ → ℕ
fourth_at w l = get_or w (4 * (l - first_node) + 3) 0

-- What a cell says, by its fourth word and by what types and lists say.
abbrev pub of_binders : List ℕ → ℕ → (ℕ → Ty) → (ℕ → List Binder) → Cell → List Binder
of_binders ns x ty bs Nil = []
of_binders ns x ty bs (Cons a b) = (dvar (x / 65536), pred (name_of ns (x % 65536)) (ty a)) ∷ bs b

-- The same with so much fuel.
unfoldable pub binders_f : ℕ → List ℕ → List ℕ → ℕ → List Binder
binders_f zero ns w l = []
binders_f (suc f) ns w l = of_binders ns (fourth_at w l) (tree ns w) (λ m. binders_f f ns w m) (cell_of w l)

-- The binders that a word stands for under the names ns.
unfoldable pub binders_of_word : List ℕ → List ℕ → ℕ → List Binder
binders_of_word ns w l = binders_f (suc l) ns w l
