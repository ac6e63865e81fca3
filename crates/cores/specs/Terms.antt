-- The core terms that words stand for.
use Rattle.std.specs.Prelude.{List, ℕ, zero, suc}
use Rattle.meaning.specs.Ast.{Ty, dvar, ctx, self, method, super, Binder, Core, Cores, cvar, cdict, cint, cbool, cabs, capp, clet, dict_abs, dict_app, dict_proj, dict_rec, cnil, ◌◃◌}
use Rattle.names.specs.Names.{name_of}
use Rattle.ast.specs.Table.{cell_of, tree}
use Rattle.ast.specs.declared.Cell.{Cell}
use Rattle.ast.specs.declared.Cell.TheVariants.{Nil, Cons}
use Rattle.cores.specs.declared.Part.{Part}
use Rattle.cores.specs.declared.Part.TheVariants.{Var, Dict, Context, Own, Bool, Int, Abs, App, Let, DictAbs, DictApp, Method, Super, Rec}
use Rattle.cores.specs.Parts.{part_of}
use Rattle.cores.specs.Binders.{binders_of_word}

-- The term of a part, by what types, binders, terms and lists of terms its words stand for.
abbrev pub of_part : List ℕ → (ℕ → Ty) → (ℕ → List Binder) → (ℕ → Core) → (ℕ → Cores) → Part → Core
of_part ns ty bs e es (Var x) = cvar (name_of ns x)
of_part ns ty bs e es (Dict n) = cdict (dvar n)
of_part ns ty bs e es (Context c i) = cdict (ctx (name_of ns c) i)
of_part ns ty bs e es Own = cdict self
of_part ns ty bs e es (Bool b) = cbool b
of_part ns ty bs e es (Int v) = cint v
of_part ns ty bs e es (Abs x b) = cabs (name_of ns x) (e b)
of_part ns ty bs e es (App f a) = capp (e f) (e a)
of_part ns ty bs e es (Let x a b) = clet (name_of ns x) (e a) (e b)
of_part ns ty bs e es (DictAbs l b) = dict_abs (bs l) (e b)
of_part ns ty bs e es (DictApp f l) = dict_app (e f) (es l)
of_part ns ty bs e es (Method a m) = dict_proj (e a) (method (name_of ns m))
of_part ns ty bs e es (Super a c s) = dict_proj (e a) (super (name_of ns c) (name_of ns s))
of_part ns ty bs e es (Rec c u i) = dict_rec (name_of ns c) (ty u) i

-- The same of a list's cell.
abbrev pub of_cores : (ℕ → Core) → (ℕ → Cores) → Cell → Cores
of_cores e es Nil = cnil
of_cores e es (Cons a b) = e a ◃ es b

unfoldable mutual
  pub core_f : ℕ → List ℕ → List ℕ → ℕ → Core
  core_f zero ns w t = cdict self
  core_f (suc f) ns w t = of_part ns (tree ns w) (binders_of_word ns w) (λ m. core_f f ns w m) (λ m. cores_f f ns w m) (part_of w t)

  pub cores_f : ℕ → List ℕ → List ℕ → ℕ → Cores
  cores_f zero ns w l = cnil
  cores_f (suc f) ns w l = of_cores (λ m. core_f f ns w m) (λ m. cores_f f ns w m) (cell_of w l)

-- The core term that a word stands for under the names ns, and the list of terms.
unfoldable pub core : List ℕ → List ℕ → ℕ → Core
core ns w t = core_f (suc t) ns w t

unfoldable pub cores : List ℕ → List ℕ → ℕ → Cores
cores ns w l = cores_f (suc l) ns w l
