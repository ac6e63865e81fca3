-- Lists of type variables: cells of a list of types whose heads are words of variables.
use Rattle.std.specs.Prelude.{Bool, List, [], ◌∷◌, ℕ, zero, suc}
use Rattle.meaning.specs.Base.{null}
use Rattle.meaning.specs.Ast.{TyVar}
use Rattle.meaning.specs.Subst.{without}
use Rattle.names.specs.Names.{tyvar_of}
use Rattle.ast.specs.Table.{cell_of}
use Rattle.ast.specs.declared.Cell.{Cell}
use Rattle.ast.specs.declared.Cell.TheVariants.{Nil, Cons}

-- What a cell says, by what lists say.
abbrev pub of_vars : List ℕ → (ℕ → List TyVar) → Cell → List TyVar
of_vars ns vs Nil = []
of_vars ns vs (Cons a b) = tyvar_of ns a ∷ vs b

-- The same with so much fuel.
unfoldable pub vars_f : ℕ → List ℕ → List ℕ → ℕ → List TyVar
vars_f zero ns w l = []
vars_f (suc f) ns w l = of_vars ns (λ m. vars_f f ns w m) (cell_of w l)

-- The variables that a word stands for under the names ns.
unfoldable pub vars_of_word : List ℕ → List ℕ → ℕ → List TyVar
vars_of_word ns w l = vars_f (suc l) ns w l

-- Each of the first variables is one of the second.
abbrev pub all_in : List TyVar → List TyVar → Bool
all_in xs vs = null (without xs vs)
