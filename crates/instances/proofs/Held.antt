-- Laws of instances as words: what a word says of its instance, and that it says so wherever its words stand.
use Prim.Native.Nat.{ℕ, zero, suc, ◌+◌, ◌*◌, ◌<◌, ◌≤◌}
use native.Mathlib.Omega.{arith}
use mathlib.Core.Path.{◌≡◌, refl, sym, ◌∙◌}
use mathlib.Core.List.{List, [], ◌∷◌}
use mathlib.Core.Option.{some}
use lib.ListN.{length, get_or}
use Rattle.meaning.specs.Base.{count, nth}
use Rattle.meaning.specs.Ast.{Pred, pred}
use Rattle.meaning.specs.Classes.{InstanceInfo}
use Rattle.names.specs.Names.{first_node, name_of}
use Rattle.ast.specs.Table.{cell_of, tree, Table, Node, Kept}
use Rattle.ast.specs.declared.Cell.{Cell}
use Rattle.ast.specs.declared.Cell.TheVariants.{Nil, Cons}
use Rattle.ast.proofs.Ranges.{cons_node}
use Rattle.ast.proofs.Laws.{kept_cell, node_more, node_room, cons_head, cons_tail}
use Rattle.subst.specs.Preds.{class_at, preds_of_word}
use Rattle.subst.proofs.PredLaws.{kept_preds, preds_nil, preds_cons}
use Rattle.instances.specs.Accepted.{Stored, Instances, NotNil, Heads, Openable, Opened, head_of}

-- ## Instances by their number

-- The instances from number i on.
unfoldable pub from : ℕ → List InstanceInfo → List InstanceInfo
from zero insts = insts
from (suc i) [] = []
from (suc i) (x ∷ insts) = from i insts

-- Instance number i is the first of those from i on.
pub record Next (i : ℕ) (insts : List InstanceInfo) : Type 0 where
  pub inst : InstanceInfo
  pub there : nth insts i ≡ some inst
  pub opens : from i insts ≡ inst ∷ from (suc i) insts

-- There is one for each number that is small enough.
pub next : (i : ℕ) (insts : List InstanceInfo) → i < count insts → Next i insts
unfolding count nth from
next zero [] h = absurd (omega arith)
next (suc i) [] h = absurd (omega arith)
next zero (x ∷ insts) h = record { inst = x; there = refl; opens = refl }
next (suc i) (x ∷ insts) h = let N = next i insts (omega arith) in record { inst = N.inst; there = N.there; opens = N.opens }

-- And none after the last.
pub from_end : (i : ℕ) (insts : List InstanceInfo) → count insts ≤ i → from i insts ≡ []
unfolding count from
from_end zero [] h = refl
from_end (suc i) [] h = refl
from_end zero (x ∷ insts) h = absurd (omega arith)
from_end (suc i) (x ∷ insts) h = from_end i insts (omega arith)

-- ## What one word says

-- A list that stands for a first predicate has a first element.
not_nil : {w : List ℕ} {top l : ℕ} {h : Pred} {ps : List Pred} (ns : List ℕ) → Node w top l → preds_of_word ns w l ≡ h ∷ ps → NotNil (cell_of w l)
not_nil {w} {top} {l} {h} {ps} ns N e = go (cell_of w l) refl
  where
    go : (c : Cell) → c ≡ cell_of w l → NotNil c
    go Nil k = let f = preds_nil ns N k refl in let z : ◌≡◌ {A = ℕ} 0 1 = cc in absurd (omega arith)
    go (Cons a b) k = tt

-- The class, the type and the context that were read are those of the instance.
pub record Parts (ns w : List ℕ) (top : ℕ) (inst : InstanceInfo) (c a b : ℕ) : Type 0 where
  pub type : Node w top a
  pub rest : Node w top b
  pub head : inst.head ≡ pred (name_of ns c) (tree ns w a)
  pub context : inst.context ≡ preds_of_word ns w b

-- Equal lists have equal heads and equal rests.
same_head : {p q : Pred} {ps qs : List Pred} → p ∷ ps ≡ q ∷ qs → p ≡ q
same_head e = cc

same_rest : {p q : Pred} {ps qs : List Pred} → p ∷ ps ≡ q ∷ qs → ps ≡ qs
same_rest e = cc

-- What `instance_at` answers means this.
pub parts : {ns w : List ℕ} {top l c a b : ℕ} {inst : InstanceInfo} → Stored ns w top l inst → Opened w l c a b → Parts ns w top inst c a b
parts {ns} S O =
    let e = sym S.says ∙ preds_cons ns S.node refl O.cell in
    record {
      type = (cons_head S.node refl O.cell).1;
      rest = (cons_tail S.node refl O.cell).1;
      head = rw O.class (same_head e);
      context = same_rest e;
    }

-- A cell that is not empty, by its parts.
record Some-cell (c : Cell) : Type 0 where
  first : ℕ
  rest : ℕ
  is : c ≡ Cons first rest

-- It has parts.
some_cell : (c : Cell) → NotNil c → Some-cell c
some_cell Nil h = absurd h
some_cell (Cons a b) h = record { first = a; rest = b; is = refl }

-- The head by what `instance_at` answered.
pub opened_head : {w : List ℕ} {l c a b : ℕ} (ns : List ℕ) → Opened w l c a b → head_of ns w l ≡ pred (name_of ns c) (tree ns w a)
unfolding head_of
opened_head ns O = rw (O.class, O.cell)

-- The head of an instance is what its word says.
pub stored_head : {ns w : List ℕ} {top l : ℕ} {inst : InstanceInfo} → Stored ns w top l inst → inst.head ≡ head_of ns w l
stored_head {ns} {w} {l = l} S =
    let C = some_cell (cell_of w l) (not_nil ns S.node S.says) in
    let O : Opened w l (class_at w l) C.first C.rest = record { class = refl; cell = C.is } in
    (parts S O).head ∙ sym (opened_head ns O)

-- ## Where the table stands

-- A word says of an instance what it said, over a table that has grown or has not.
pub stored_kept : {ns w w' : List ℕ} {top top' l : ℕ} {inst : InstanceInfo} → Kept w w' top → Table w' top' → top ≤ top' → Stored ns w top l inst → Stored ns w' top' l inst
stored_kept {ns} K T h S = record { node = node_more T h S.node; says = kept_preds ns K S.node ∙ S.says }

-- So it is for all instances.
pub instances_kept : {ns w w' : List ℕ} {top top' : ℕ} {il : List ℕ} {insts : List InstanceInfo}
    → Kept w w' top → Table w' top' → top ≤ top' → Instances ns w top il insts → Instances ns w' top' il insts
instances_kept K T h I = record { many = I.many; each = λ i inst e. stored_kept K T h (I.each i inst e) }

-- And for their words alone.
pub heads_kept : {w w' : List ℕ} {top top' : ℕ} {il : List ℕ} → Kept w w' top → Table w' top' → top ≤ top' → Heads w top il → Heads w' top' il
heads_kept K T h H = record {
  node = λ i l. node_more T h (H.node i l);
  cell = λ i l. rw (kept_cell K _ (H.node i l).below) (H.cell i l);
}

-- Words of instances are lists with a first predicate.
pub instances_heads : {ns w : List ℕ} {top : ℕ} {il : List ℕ} {insts : List InstanceInfo} → Instances ns w top il insts → Heads w top il
instances_heads {ns} {insts = insts} I = record {
  node = λ i l. let m = I.many in let N = next i insts (omega arith) in (I.each i N.inst N.there).node;
  cell = λ i l. let m = I.many in let N = next i insts (omega arith) in let S = I.each i N.inst N.there in not_nil ns S.node S.says;
}

-- What `instance_at` requires.
pub heads_open : {w : List ℕ} {top i : ℕ} {il : List ℕ} → Heads w top il → i < length il → Openable w (get_or il i 0)
heads_open H h = record { room = node_room (H.node _ h); cell = H.cell _ h }

-- What `class_at` requires.
pub class_there : {w : List ℕ} {l a b : ℕ} {r : Cell} → Openable w l → r ≡ cell_of w l → r ≡ Cons a b → (first_node ≤ l) × (4 * l + 4 ≤ 4 * first_node + length w)
class_there {w} {l} O e k = (cons_node w l (sym e ∙ k), O.room)

-- The empty list is not met.
pub no_nil : {A : Type 0} {w : List ℕ} {l : ℕ} {r : Cell} → Openable w l → r ≡ cell_of w l → r ≡ Nil → A
no_nil {w = w} {l = l} O e k = absurd (go (cell_of w l) (sym e ∙ k) O.cell)
  where
    go : (c : Cell) → c ≡ Nil → NotNil c → ⊥
    go Nil k h = h
    go (Cons a b) k h = let z : ◌≡◌ {A = ℕ} 0 1 = cc in omega arith
