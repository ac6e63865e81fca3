-- A term that binds no key of a map is apart from it.
use mathlib.Core.Path.{◌≡◌}
use mathlib.Core.List.{List, [], ◌∷◌}
use mathlib.Core.Option.{none}
use Rattle.meaning.specs.Ast.{DictName, Core, Cores, cvar, cdict, cint, cbool, cabs, capp, clet, dict_abs, dict_app, dict_proj, dict_rec, cnil, ◌◃◌, Binder}
use Rattle.meaning.specs.Map.{Map, dicts, get}
use Rattle.theorems.proofs.Bound.{names_of, Each, Bound, BoundIn}
use Rattle.terms.specs.Plain.{NotReplaced, Apart, AllApart}

module _ (sub : Map DictName Core) where
  -- None of the binders' names is replaced.
  not_replaced : (bs : List Binder) → Each (λ d. get dicts d sub ≡ none) (names_of bs) → NotReplaced bs sub
  unfolding NotReplaced
  not_replaced [] h = tt
  not_replaced (b ∷ bs) h = (h.0, not_replaced bs h.1)

  mutual
    unfolding Apart

    -- A term.
    pub apart_of : (e : Core) → Bound (λ d. get dicts d sub ≡ none) e → Apart e sub
    apart_of (cvar x) h = tt
    apart_of (cdict d) h = tt
    apart_of (cint i) h = tt
    apart_of (cbool b) h = tt
    apart_of (cabs x e) h = apart_of e h
    apart_of (capp f e) h = (apart_of f h.0, apart_of e h.1)
    apart_of (clet x e f) h = (apart_of e h.0, apart_of f h.1)
    apart_of (dict_abs bs e) h = (not_replaced bs h.0, apart_of e h.1)
    apart_of (dict_app f es) h = (apart_of f h.0, apart_all es h.1)
    apart_of (dict_proj e m) h = apart_of e h
    apart_of (dict_rec c a i) h = tt

    -- Each of a list.
    pub apart_all : (es : Cores) → BoundIn (λ d. get dicts d sub ≡ none) es → AllApart es sub
    apart_all cnil h = tt
    apart_all (e ◃ es) h = (apart_of e h.0, apart_all es h.1)
