-- Methods of a class environment with one more class: its own by its first signature of the name, the others as before.
use mathlib.Core.Path.{◌≡◌, refl, sym, ◌∙◌}
use mathlib.Core.Bool.{Bool, true, false}
use mathlib.Core.List.{List, [], ◌∷◌}
use mathlib.Core.Option.{Option, none, some}
use Rattle.meaning.specs.Base.{is_yes, if, found, first}
use Rattle.meaning.specs.Ast.{Name, same_name, Ty}
use Rattle.meaning.specs.Map.{Map, names, get, insert}
use Rattle.meaning.specs.Classes.{ClassEnv, ClassInfo, class_of, methods_of, with_class, lookup_method}
use Rattle.theorems.proofs.Maps.{get_insert_same, get_insert_other}
use Rattle.classes.specs.Growing.{is_some}
use Rattle.classes.proofs.AddLaws.{class_new, class_other}

-- The first signature of a name.
abbrev pub sig_of : Name → List (Name × Ty) → Option (Name × Ty)
sig_of n gs = first (λ (g : Name × Ty). is_yes (same_name g.0 n)) gs

-- The same, whatever a test says.
both : {A : Type 0} (b : Bool) (x : A) → if b x x ≡ x
both true x = refl
both false x = refl

-- Whose method it is then.
methods_get : (c n : Name) (gs : List (Name × Ty)) (mo : Map Name Name) → get names n (methods_of c gs mo) ≡ if (is_some (sig_of n gs)) (some c) (get names n mo)
unfolding methods_of first
methods_get c n [] mo = refl
methods_get c n (g ∷ gs) mo = methods_get c n gs (insert names (g.0, c) mo) ∙ go (same_name g.0 n) refl
  where
    go : (d : Dec (g.0 ≡ n)) → same_name g.0 n ≡ d
        → if (is_some (sig_of n gs)) (some c) (get names n (insert names (g.0, c) mo)) ≡ if (is_some (if (is_yes (same_name g.0 n)) (some g) (sig_of n gs))) (some c) (get names n mo)
    go (yes e) f = rw (f, e, get_insert_same names n c mo) (both (is_some (sig_of n gs)) (some c))
    go (no h) f = rw (f, get_insert_other names n (g.0, c) mo (λ e. h (sym e)))

module _ (ce : ClassEnv) (ci : ClassInfo) (n : Name) where
  -- A method that the class has.
  pub lookup_own : (g : Name × Ty) → sig_of n ci.sigs ≡ some g → lookup_method (with_class ci ce) n ≡ some (ci, g.1)
  unfolding lookup_method found with_class
  lookup_own g e =
      let m : get names n (with_class ci ce).method_of ≡ some ci.name = methods_get ci.name n ci.sigs ce.method_of ∙ rw e in
      rw (m, class_new ce ci ci.name refl, e)

  -- One that it has not.
  pub lookup_other : class_of ce ci.name ≡ none → sig_of n ci.sigs ≡ none → lookup_method (with_class ci ce) n ≡ lookup_method ce n
  unfolding lookup_method found with_class
  lookup_other h e = go (get names n ce.method_of) refl
    where
      go : (o : Option Name) → get names n ce.method_of ≡ o → lookup_method (with_class ci ce) n ≡ lookup_method ce n
      go none f =
          let m : get names n (with_class ci ce).method_of ≡ none = methods_get ci.name n ci.sigs ce.method_of ∙ rw (e, f) in
          rw (m, f)
      go (some c) f = other c f (same_name c ci.name)
        where
          other : (c : Name) → get names n ce.method_of ≡ some c → Dec (c ≡ ci.name) → lookup_method (with_class ci ce) n ≡ lookup_method ce n
          other c f (yes q) =
              let m : get names n (with_class ci ce).method_of ≡ some ci.name = methods_get ci.name n ci.sigs ce.method_of ∙ rw (e, f, q) in
              rw (m, f, q, class_new ce ci ci.name refl, e, h)
          other c f (no q) =
              let m : get names n (with_class ci ce).method_of ≡ some c = methods_get ci.name n ci.sigs ce.method_of ∙ rw (e, f) in
              rw (m, f, class_other ce ci c q)
