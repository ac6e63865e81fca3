-- Words that are lists with a first predicate stand for instances: what `by_inst` and `none_overlaps` promise for all
-- instances of their words is promised for some. And one more word stands for one more instance.
use Prim.Native.Nat.{ℕ, zero, suc, ◌<◌}
use native.Mathlib.Omega.{arith}
use mathlib.Core.Path.{◌≡◌, refl, ap, ◌∙◌}
use mathlib.Core.List.{List, [], ◌∷◌, ◌++◌}
use mathlib.Core.Option.{some}
use lib.ListN.{length, get_or}
use Rattle.meaning.specs.Base.{count, nth}
use Rattle.meaning.specs.Ast.{pred}
use Rattle.meaning.specs.Classes.{InstanceInfo}
use Rattle.names.specs.Names.{name_of}
use Rattle.ast.specs.Table.{cell_of, tree, Node}
use Rattle.ast.specs.declared.Cell.{Cell}
use Rattle.ast.specs.declared.Cell.TheVariants.{Nil, Cons}
use Rattle.theorems.proofs.Tests.{some_inj, none_some}
use Rattle.subst.specs.Preds.{class_at, preds_of_word}
use Rattle.subst.proofs.PredLaws.{preds_cons}
use Rattle.instances.specs.Accepted.{Stored, Instances, NotNil, Heads, front_of, head_of}

-- The rest of a list.
abbrev rest_of : Cell → ℕ
rest_of Nil = 0
rest_of (Cons a b) = b

-- The instance of a word, with no methods.
abbrev plain : List ℕ → List ℕ → ℕ → InstanceInfo
plain ns w l = record { context = preds_of_word ns w (rest_of (cell_of w l)); head = head_of ns w l; methods = [] }

-- The word stands for it.
plain_stored : {w : List ℕ} {top l : ℕ} (ns : List ℕ) → Node w top l → NotNil (cell_of w l) → Stored ns w top l (plain ns w l)
unfolding head_of
plain_stored {w} {top} {l} ns N h = record { node = N; says = go (cell_of w l) refl h }
  where
    go : (c : Cell) → c ≡ cell_of w l → NotNil c → preds_of_word ns w l ≡ (plain ns w l).head ∷ (plain ns w l).context
    go Nil e k = absurd k
    go (Cons a b) e k = preds_cons ns N e refl ∙ ap (λ x. pred (name_of ns (class_at w l)) (tree ns w (front_of x)) ∷ preds_of_word ns w (rest_of x)) e

-- The instances of words.
unfoldable pub plains : List ℕ → List ℕ → List ℕ → List InstanceInfo
plains ns w [] = []
plains ns w (l ∷ il) = plain ns w l ∷ plains ns w il

-- They are as many.
plains_many : (ns w il : List ℕ) → length il ≡ count (plains ns w il)
unfolding plains count
plains_many ns w [] = refl
plains_many ns w (l ∷ il) = ap suc (plains_many ns w il)

-- Each has its word.
plains_each : (ns w : List ℕ) (top : ℕ) (il : List ℕ) → ((i : ℕ) → i < length il → Node w top (get_or il i 0)) → ((i : ℕ) → i < length il → NotNil (cell_of w (get_or il i 0)))
    → (i : ℕ) (inst : InstanceInfo) → nth (plains ns w il) i ≡ some inst → Stored ns w top (get_or il i 0) inst
unfolding plains nth
plains_each ns w top [] N C i inst e = absurd (none_some inst e)
plains_each ns w top (l ∷ il) N C zero inst e =
    rw (← some_inj _ _ e) (plain_stored ns (N 0 (omega arith)) (C 0 (omega arith)))
plains_each ns w top (l ∷ il) N C (suc i) inst e = plains_each ns w top il (λ j h. N (suc j) (omega arith)) (λ j h. C (suc j) (omega arith)) i inst e

-- So there are instances of any such words.
pub some_instances : {w : List ℕ} {top : ℕ} {il : List ℕ} (ns : List ℕ) → Heads w top il → Instances ns w top il (plains ns w il)
some_instances {w} {top} {il} ns H = record { many = plains_many ns w il; each = plains_each ns w top il H.node H.cell }

-- ## One more instance

-- Each instance of a longer list has its word.
added_each : (ns w : List ℕ) (top : ℕ) (il : List ℕ) (insts : List InstanceInfo) {l : ℕ} {inst : InstanceInfo} → length il ≡ count insts
    → ((i : ℕ) (x : InstanceInfo) → nth insts i ≡ some x → Stored ns w top (get_or il i 0) x) → Stored ns w top l inst
    → (i : ℕ) (x : InstanceInfo) → nth (insts ++ (inst ∷ [])) i ≡ some x → Stored ns w top (get_or (il ++ (l ∷ [])) i 0) x
unfolding count nth
added_each ns w top [] [] m E S zero x e = rw (← some_inj _ _ e) S
added_each ns w top [] [] m E S (suc i) x e = absurd (none_some x e)
added_each ns w top [] (y ∷ insts) m E S i x e = absurd (omega arith)
added_each ns w top (k ∷ il) [] m E S i x e = absurd (omega arith)
added_each ns w top (k ∷ il) (y ∷ insts) m E S zero x e = E 0 x e
added_each ns w top (k ∷ il) (y ∷ insts) m E S (suc i) x e = added_each ns w top il insts (omega arith) (λ j z f. E (suc j) z f) S i x e

-- They are as many.
added_many : (il : List ℕ) (insts : List InstanceInfo) (l : ℕ) (inst : InstanceInfo) → length il ≡ count insts → length (il ++ (l ∷ [])) ≡ count (insts ++ (inst ∷ []))
unfolding count
added_many [] [] l inst m = refl
added_many [] (y ∷ insts) l inst m = absurd (omega arith)
added_many (k ∷ il) [] l inst m = absurd (omega arith)
added_many (k ∷ il) (y ∷ insts) l inst m = ap suc (added_many il insts l inst (omega arith))

-- The words of the older instances and the word of a new one: what `with_instance` makes.
pub instances_add : {ns w : List ℕ} {top : ℕ} {il : List ℕ} {insts : List InstanceInfo} {l : ℕ} {inst : InstanceInfo}
    → Instances ns w top il insts → Stored ns w top l inst → Instances ns w top (il ++ (l ∷ [])) (insts ++ (inst ∷ []))
instances_add {ns} {w} {top} {il} {insts} {l} {inst} I S = record { many = added_many il insts l inst I.many; each = added_each ns w top il insts I.many I.each S }
