-- The nodes that maps, environments and class environments keep after an insertion.
use mathlib.Core.Path.{◌≡◌}
use mathlib.Core.Bool.{Bool, true, false}
use mathlib.Core.List.{List, [], ◌∷◌, ◌++◌}
use Prim.Native.Nat.{ℕ, suc, ◌+◌, ◌≤◌}
use native.Mathlib.Omega.{arith}
use Rattle.meaning.specs.Base.{if, total, count}
use Rattle.meaning.specs.Ast.{Name, Ty, size, Scheme, ClassDecl}
use Rattle.meaning.specs.Map.{Keys, Map, names, is, insert}
use Rattle.meaning.specs.Classes.{ClassEnv, ClassInfo, InstanceInfo, with_class, with_instance}
use Rattle.meaning.specs.Generalize.{Env}
use Rattle.meaning.specs.Declare.{sig_nodes, pred_nodes, sig_scheme, insert_sigs}
use Rattle.meaning.specs.Session.{scheme_nodes, env_nodes, instance_nodes, class_nodes}

-- A pair adds no more than its own number: an older pair of the same key goes.
pub total-insert : {K A : Type 0} (k : Keys K) (f : K × A → ℕ) (p : K × A) (s : Map K A) → total f (insert k p s) ≤ total f s + f p
unfolding total insert
total-insert k f p [] = omega arith
total-insert k f p (q ∷ s) = go (is k p.0 q.0) (k.before p.0 q.0) (total-insert k f p s)
  where
    go : (a b : Bool) → total f (insert k p s) ≤ total f s + f p → total f (if a (p ∷ s) (if b (p ∷ (q ∷ s)) (q ∷ insert k p s))) ≤ f q + total f s + f p
    go true b h = omega arith
    go false true h = omega arith
    go false false h = omega arith

-- One more element at the end.
pub total_last : {A : Type 0} (f : A → ℕ) (xs : List A) (x : A) → total f (xs ++ (x ∷ [])) ≡ total f xs + f x
unfolding total
total_last f [] x = omega arith
total_last f (y ∷ xs) x = let h = total_last f xs x in omega arith

-- One more name in the environment.
pub env_nodes-insert : (x : Name) (c : Scheme) (env : Env) → env_nodes (insert names (x, c) env) ≤ env_nodes env + scheme_nodes c
unfolding env_nodes
env_nodes-insert x c env = total-insert names (λ (p : Name × Scheme). scheme_nodes p.1) (x, c) env

-- A method's scheme has one node more than its type: that of its predicate.
pub sig_scheme_nodes : (k : ClassDecl) (u : Ty) → scheme_nodes (sig_scheme k u) ≡ suc (size u)
unfolding scheme_nodes sig_scheme pred_nodes total size
sig_scheme_nodes k u = omega arith

-- A class's methods in the environment.
pub insert_sigs_nodes : (k : ClassDecl) (gs : List (Name × Ty)) (env : Env) → env_nodes (insert_sigs k gs env) ≤ env_nodes env + (sig_nodes gs + count gs)
unfolding insert_sigs sig_nodes count total
insert_sigs_nodes k [] env = omega arith
insert_sigs_nodes k (g ∷ gs) env =
    let h = insert_sigs_nodes k gs (insert names (g.0, sig_scheme k g.1) env) in
    let i = env_nodes-insert g.0 (sig_scheme k g.1) env in
    let j = sig_scheme_nodes k g.1 in omega arith

-- One more class.
pub with_class_nodes : (ci : ClassInfo) (ce : ClassEnv) → class_nodes (with_class ci ce) ≤ class_nodes ce + sig_nodes ci.sigs
unfolding class_nodes with_class
with_class_nodes ci ce = let h = total-insert names (λ (p : Name × ClassInfo). sig_nodes p.1.sigs) (ci.name, ci) ce.classes in omega arith

-- One more instance.
pub with_instance_nodes : (i : InstanceInfo) (ce : ClassEnv) → class_nodes (with_instance i ce) ≡ class_nodes ce + instance_nodes i
unfolding class_nodes with_instance
with_instance_nodes i ce = let h = total_last instance_nodes ce.instances i in omega arith
