-- Each class table stands for a class environment, so that what is said of all such is said of one.
use mathlib.Core.Path.{◌≡◌, refl, ap, sym, ◌∙◌}
use mathlib.Core.List.{List, [], ◌∷◌, map}
use mathlib.Core.Option.{some}
use Prim.Native.Nat.{ℕ, zero, suc, ◌<◌, ◌≤◌}
use native.Mathlib.Decide.{dec_lt}
use native.Mathlib.Omega.{arith}
use lib.ListN.{length}
use Rattle.meaning.specs.Base.{is_yes, if}
use Rattle.meaning.specs.Ast.{Name, same_name, named}
use Rattle.meaning.specs.Map.{Map, names, get}
use Rattle.meaning.specs.Classes.{ClassInfo, ClassEnv, supers_of}
use Rattle.names.specs.Names.{Names, name_of}
use Rattle.names.proofs.Distinct.{name_of_same}
use Rattle.supers.specs.ClassTable.{super_words_of, Supers}
use Rattle.supers.proofs.ClassLaws.{none_class, row_not, supers_end}

module _ (ns cl : List ℕ) where
  -- The class of name c, with no methods.
  declared : ℕ → ClassInfo
  declared c = record { name = name_of ns c; tyvar = named (name_of ns c); supers = map (name_of ns) (super_words_of cl c); sigs = []; defaults = [] }

  -- The first k classes.
  classes : ℕ → Map Name ClassInfo
  classes zero = []
  classes (suc k) = (name_of ns k, declared k) ∷ classes k

  -- As many as the table has words.
  pub some_env : ClassEnv
  some_env = record { classes = classes (length cl); method_of = []; instances = [] }

  module _ (N : Names ns) where
    -- A class among them has its superclasses.
    inside : (c k : ℕ) → c < k → supers_of (get names (name_of ns c) (classes k)) ≡ map (name_of ns) (super_words_of cl c)
    unfolding classes declared get supers_of
    inside c zero h = absurd (omega arith)
    inside c (suc k) h = go (same_name (name_of ns c) (name_of ns k)) (λ (l : c < k). inside c k l)
      where
        go : (d : Dec (name_of ns c ≡ name_of ns k)) → (c < k → supers_of (get names (name_of ns c) (classes k)) ≡ map (name_of ns) (super_words_of cl c))
            → supers_of (if (is_yes d) (some (declared k)) (get names (name_of ns c) (classes k))) ≡ map (name_of ns) (super_words_of cl c)
        go (yes e) ih = let z = name_of_same ns N c k e in rw z
        go (no n) ih = ih (apart c k h (λ z. n (ap (name_of ns) z)))
          where
            apart : (c k : ℕ) → c < suc k → (c ≡ k → ⊥) → c < k
            apart c k h n = omega arith

    -- Any other has none.
    outside : (c k : ℕ) → k ≤ c → supers_of (get names (name_of ns c) (classes k)) ≡ []
    unfolding classes get supers_of
    outside c zero h = refl
    outside c (suc k) h = go (same_name (name_of ns c) (name_of ns k)) (outside c k (omega arith))
      where
        go : (d : Dec (name_of ns c ≡ name_of ns k)) → supers_of (get names (name_of ns c) (classes k)) ≡ []
            → supers_of (if (is_yes d) (some (declared k)) (get names (name_of ns c) (classes k))) ≡ []
        go (yes e) ih = let z = name_of_same ns N c k e in absurd (omega arith)
        go (no n) ih = ih

    -- The table stands for them.
    pub some_supers : Supers ns cl some_env
    unfolding some_env
    some_supers = record { is = λ c. go c (dec_lt c (length cl)) }
      where
        go : (c : ℕ) → Dec (c < length cl) → supers_of (get names (name_of ns c) (classes (length cl))) ≡ map (name_of ns) (super_words_of cl c)
        go c (yes h) = inside c (length cl) h
        go c (no h) = outside c (length cl) (omega arith) ∙ ap (map (name_of ns)) (sym (supers_end cl c 0 (sym (none_class cl c 0 (sym (row_not cl c (omega arith)))))))
