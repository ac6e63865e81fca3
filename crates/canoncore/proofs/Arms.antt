-- What the walk does at each kind of term: one law for each arm.
use mathlib.Core.Path.{◌≡◌, refl, ◌∙◌}
use mathlib.Core.Bool.{Bool}
use mathlib.Core.List.{List, []}
use Prim.Native.Nat.{ℕ, zero, suc, ◌-◌, ◌<◌}
use native.Mathlib.Numerals.{sub-one}
use native.Mathlib.Omega.{arith}
use Rattle.meaning.specs.Ast.{Core, cabs, capp, clet, dict_abs, dict_app, dict_proj, dict_rec, method, super}
use Rattle.meaning.specs.Errors as E
use Rattle.meaning.specs.Budget.{Out, done, refused, step}
use Rattle.meaning.specs.Subst.{Subst, apply_in}
use Rattle.meaning.specs.Cores.{apply_core_node, apply_core_in}
use Rattle.names.specs.Names.{name_of}
use Rattle.ast.specs.Table.{tree, Node}
use Rattle.ast.proofs.Laws.{no_nodes, low_node}
use Rattle.cores.specs.declared.Part.{Part}
use Rattle.cores.specs.declared.Part.TheVariants.{Var, Dict, Context, Own, Bool as A-Bool, Int, Abs, App, Let, DictAbs, DictApp, Method, Super, Rec}
use Rattle.cores.specs.Parts.{part_of, PartBelow}
use Rattle.cores.specs.Binders.{binders_of_word}
use Rattle.cores.specs.Terms.{core, cores}
use Rattle.cores.proofs.Parted.{parts_below}
use Rattle.cores.proofs.TermLaws.{core_of}
use Rattle.errors.specs.declared.Refusal.TheVariants.{Depth, Steps}
use Rattle.apply.specs.Applied.{Applied}
use Rattle.apply.specs.Applied.{Done, Refused}
use Rattle.rename.specs.Renaming.{Renames}
use Rattle.rename.specs.Renamed.{ReadyRename, TypeRenamed}
use Rattle.rename.proofs.Arms.{renames_then}
use Rattle.terms.proofs.Handing.{onward, stays, refuses}
use Rattle.canoncore.specs.Lettered.{Lettered, ReadyLetters, GivesLettered, node_out}

-- ## The words do not matter where no list is asked

-- Over any words.
pub lettered_over : {ns ls : List ℕ} {s : Subst} (w : List ℕ) → Lettered ns ls s → Renames ns w 0 0 ls s
lettered_over w L = renames_then (record { at = λ i h. absurd (omega arith) }) (low_node (no_nodes []) (omega arith)) L

-- From any words.
pub lettered_from : {ns ls w : List ℕ} {s : Subst} → Renames ns w 0 0 ls s → Lettered ns ls s
lettered_from {w = w} L = renames_then (record { at = λ i h. absurd (omega arith) }) (low_node (no_nodes w) (omega arith)) L

-- What `rename` asks.
pub asks_type : {ns w ls : List ℕ} {top left t : ℕ} → ReadyLetters ns w ls top left t → ReadyRename ns w ls top left 0 0 t
asks_type R = record {
  names = R.names;
  node = R.node;
  by = record { vars = low_node R.node.table (omega arith); words = omega arith; letters = R.few };
  room = R.room;
}

-- What it gives.
pub gives_type : {ns w w' ls : List ℕ} {top left : ℕ} (depth t : ℕ) (r : Applied) → TypeRenamed ns w w' ls top left depth 0 0 t r
    → GivesLettered tree 4 ns ls w w' top left (λ s. apply_in depth s (tree ns w t) left) r
gives_type {w = w} depth t (Done m t₁ l₁) G = let a = G.answer in let x = a.spent in let y = a.steps in
    record { stands = G.stands; answer = record { node = a.node; more = a.more; spent = omega arith; down = omega arith; is = λ s L. a.is s (lettered_over w L) } }
gives_type {w = w} depth t (Refused q t₁ l₁) G = record { stands = G.stands; answer = λ s L. G.answer s (lettered_over w L) }

-- ## One node

-- No depth is left.
core_deep : (d l : ℕ) (s : Subst) (c : Core) → d ≡ 0 → apply_core_in d s c l ≡ refused E.too_deep l
unfolding apply_core_in
core_deep d l s c e = rw e

-- No step is left.
pub core_spent : (d l : ℕ) (s : Subst) (c : Core) → (d ≡ 0 → ⊥) → l ≡ 0 → apply_core_in d s c l ≡ refused E.out_of_steps 0
unfolding apply_core_in step
core_spent zero l s c p q = absurd (p refl)
core_spent (suc d) l s c p q = rw q

-- One step, then the node.
pub core_step : (d l : ℕ) (s : Subst) (c : Core) → (d ≡ 0 → ⊥) → (l ≡ 0 → ⊥) → apply_core_in d s c l ≡ node_out (d - 1) (l - 1) s c
unfolding apply_core_in step
core_step zero l s c p q = absurd (p refl)
core_step (suc d) zero s c p q = absurd (q refl)
core_step (suc d) (suc l) s c p q = simp sub-one

-- ## The ways out of `rename_core`

-- For want of depth.
pub deep : {ns w ls : List ℕ} {top left t depth : ℕ} → ReadyLetters ns w ls top left t → depth ≡ 0 → GivesLettered core 4 ns ls w w top left (λ s. apply_core_in depth s (core ns w t) left) (Refused Depth top left)
deep R h = refuses (λ s u. core_deep _ _ _ _ h) tt (omega arith)

-- For want of steps.
pub spent : {ns w ls : List ℕ} {top left t depth : ℕ} → ReadyLetters ns w ls top left t → (depth ≡ 0 → ⊥) → left ≡ 0 → GivesLettered core 4 ns ls w w top left (λ s. apply_core_in depth s (core ns w t) left) (Refused Steps top left)
spent R p h = refuses (λ s u. core_spent _ _ _ _ p h ∙ rw h) tt (omega arith)

-- r is what `part_at` returned.
module _ {ns w ls : List ℕ} {top left t depth : ℕ} (R : ReadyLetters ns w ls top left t) (dp : depth ≡ 0 → ⊥) (lp : left ≡ 0 → ⊥) {r : Part} (e : r ≡ part_of w t) where
  -- The node, one deeper and with one step less.
  out : (s : Subst) {c : Core} → core ns w t ≡ c → apply_core_in depth s (core ns w t) left ≡ node_out (depth - 1) (left - 1) s c
  out s p = rw p (core_step depth left _ _ dp lp)

  -- A term that stays.
  stay : ((s : Subst) → node_out (depth - 1) (left - 1) s (core ns w t) ≡ done (core ns w t) (left - 1)) → GivesLettered core 4 ns ls w w top left (λ s. apply_core_in depth s (core ns w t) left) (Done t top (left - 1))
  stay h = stays (λ s u. out s refl ∙ h s) R.node (omega arith) (omega arith)

  -- A script's name.
  pub at_var : {x : ℕ} → r ≡ Var x → GivesLettered core 4 ns ls w w top left (λ s. apply_core_in depth s (core ns w t) left) (Done t top (left - 1))
  unfolding apply_core_node
  at_var k = stay (λ s. let h = core_of ns R.node e in let i = rw k at h in rw i)

  -- A dictionary's name.
  pub at_dict : {d : ℕ} → r ≡ Dict d → GivesLettered core 4 ns ls w w top left (λ s. apply_core_in depth s (core ns w t) left) (Done t top (left - 1))
  unfolding apply_core_node
  at_dict k = stay (λ s. let h = core_of ns R.node e in let i = rw k at h in rw i)

  -- A context's name.
  pub at_context : {c i : ℕ} → r ≡ Context c i → GivesLettered core 4 ns ls w w top left (λ s. apply_core_in depth s (core ns w t) left) (Done t top (left - 1))
  unfolding apply_core_node
  at_context k = stay (λ s. let h = core_of ns R.node e in let i = rw k at h in rw i)

  -- The name `self`.
  pub at_own : r ≡ Own → GivesLettered core 4 ns ls w w top left (λ s. apply_core_in depth s (core ns w t) left) (Done t top (left - 1))
  unfolding apply_core_node
  at_own k = stay (λ s. let h = core_of ns R.node e in let i = rw k at h in rw i)

  -- A truth value.
  pub at_bool : {b : Bool} → r ≡ A-Bool b → GivesLettered core 4 ns ls w w top left (λ s. apply_core_in depth s (core ns w t) left) (Done t top (left - 1))
  unfolding apply_core_node
  at_bool k = stay (λ s. let h = core_of ns R.node e in let i = rw k at h in rw i)

  -- A number.
  pub at_int : {v : ℕ} → r ≡ Int v → GivesLettered core 4 ns ls w w top left (λ s. apply_core_in depth s (core ns w t) left) (Done t top (left - 1))
  unfolding apply_core_node
  at_int k = stay (λ s. let h = core_of ns R.node e in let i = rw k at h in rw i)

  -- What the part refers to lies below.
  below : PartBelow t r
  below = rw e (parts_below w t)

  -- A word below is ready for the next call, with fewer steps.
  next : {b : ℕ} → b < t → ReadyLetters ns w ls top (left - 1) b
  next h = let o = R.room in let z = R.node.below in record { names = R.names; node = record { table = R.node.table; below = omega arith }; few = R.few; room = omega arith }

  -- A word below is one of the table.
  child : {b : ℕ} → b < t → Node w top b
  child h = (next h).node

  -- What a call for the node gave is the answer.
  handed : {o : Subst → Out Core} {w' : List ℕ} {q : Applied} → GivesLettered core 0 ns ls w w' top (left - 1) o q → ((s : Subst) → apply_core_in depth s (core ns w t) left ≡ o s)
      → GivesLettered core 4 ns ls w w' top left (λ s. apply_core_in depth s (core ns w t) left) q
  handed G h = onward G (record { at = λ s u. h s }) (omega arith) (omega arith) (omega arith)

  -- A function.
  module _ {x b : ℕ} (k : r ≡ Abs x b) where
    -- What the call asks.
    pub abs_asks : ReadyLetters ns w ls top (left - 1) b
    abs_asks = let h : PartBelow t (Abs x b) = rw k at below in next h

    -- What it gives.
    pub abs_gives : {w' : List ℕ} {q : Applied} → GivesLettered core 0 ns ls w w' top (left - 1) (λ s. node_out (depth - 1) (left - 1) s (cabs (name_of ns x) (core ns w b))) q
        → GivesLettered core 4 ns ls w w' top left (λ s. apply_core_in depth s (core ns w t) left) q
    abs_gives G = handed G (λ s. let h = core_of ns R.node e in let i = rw k at h in out s i)

  -- A term applied to a term.
  module _ {f a : ℕ} (k : r ≡ App f a) where
    -- What the call asks.
    pub call_asks : ReadyLetters ns w ls top (left - 1) f × Node w top a
    call_asks = let h : PartBelow t (App f a) = rw k at below in (next h.0, child h.1)

    -- What it gives.
    pub call_gives : {w' : List ℕ} {q : Applied} → GivesLettered core 0 ns ls w w' top (left - 1) (λ s. node_out (depth - 1) (left - 1) s (capp (core ns w f) (core ns w a))) q
        → GivesLettered core 4 ns ls w w' top left (λ s. apply_core_in depth s (core ns w t) left) q
    call_gives G = handed G (λ s. let h = core_of ns R.node e in let i = rw k at h in out s i)

  -- A term in which a name stands for another.
  module _ {x a b : ℕ} (k : r ≡ Let x a b) where
    -- What the call asks.
    pub let_asks : ReadyLetters ns w ls top (left - 1) a × Node w top b
    let_asks = let h : PartBelow t (Let x a b) = rw k at below in (next h.0, child h.1)

    -- What it gives.
    pub let_gives : {w' : List ℕ} {q : Applied} → GivesLettered core 0 ns ls w w' top (left - 1) (λ s. node_out (depth - 1) (left - 1) s (clet (name_of ns x) (core ns w a) (core ns w b))) q
        → GivesLettered core 4 ns ls w w' top left (λ s. apply_core_in depth s (core ns w t) left) q
    let_gives G = handed G (λ s. let h = core_of ns R.node e in let i = rw k at h in out s i)

  -- A term under binders.
  module _ {v b : ℕ} (k : r ≡ DictAbs v b) where
    -- What the call asks.
    pub under_asks : ReadyLetters ns w ls top (left - 1) v × Node w top b
    under_asks = let h : PartBelow t (DictAbs v b) = rw k at below in (next h.0, child h.1)

    -- What it gives.
    pub under_gives : {w' : List ℕ} {q : Applied} → GivesLettered core 0 ns ls w w' top (left - 1) (λ s. node_out (depth - 1) (left - 1) s (dict_abs (binders_of_word ns w v) (core ns w b))) q
        → GivesLettered core 4 ns ls w w' top left (λ s. apply_core_in depth s (core ns w t) left) q
    under_gives G = handed G (λ s. let h = core_of ns R.node e in let i = rw k at h in out s i)

  -- A term applied to dictionaries.
  module _ {f v : ℕ} (k : r ≡ DictApp f v) where
    -- What the call asks.
    pub applied_asks : ReadyLetters ns w ls top (left - 1) f × Node w top v
    applied_asks = let h : PartBelow t (DictApp f v) = rw k at below in (next h.0, child h.1)

    -- What it gives.
    pub applied_gives : {w' : List ℕ} {q : Applied} → GivesLettered core 0 ns ls w w' top (left - 1) (λ s. node_out (depth - 1) (left - 1) s (dict_app (core ns w f) (cores ns w v))) q
        → GivesLettered core 4 ns ls w w' top left (λ s. apply_core_in depth s (core ns w t) left) q
    applied_gives G = handed G (λ s. let h = core_of ns R.node e in let i = rw k at h in out s i)

  -- A method.
  module _ {a x : ℕ} (k : r ≡ Method a x) where
    -- What the call asks.
    pub method_asks : ReadyLetters ns w ls top (left - 1) a
    method_asks = let h : PartBelow t (Method a x) = rw k at below in next h

    -- What it gives.
    pub method_gives : {w' : List ℕ} {q : Applied} → GivesLettered core 0 ns ls w w' top (left - 1) (λ s. node_out (depth - 1) (left - 1) s (dict_proj (core ns w a) (method (name_of ns x)))) q
        → GivesLettered core 4 ns ls w w' top left (λ s. apply_core_in depth s (core ns w t) left) q
    method_gives G = handed G (λ s. let h = core_of ns R.node e in let i = rw k at h in out s i)

  -- A superclass.
  module _ {a c z : ℕ} (k : r ≡ Super a c z) where
    -- What the call asks.
    pub super_asks : ReadyLetters ns w ls top (left - 1) a
    super_asks = let h : PartBelow t (Super a c z) = rw k at below in next h

    -- What it gives.
    pub super_gives : {w' : List ℕ} {q : Applied} → GivesLettered core 0 ns ls w w' top (left - 1) (λ s. node_out (depth - 1) (left - 1) s (dict_proj (core ns w a) (super (name_of ns c) (name_of ns z)))) q
        → GivesLettered core 4 ns ls w w' top left (λ s. apply_core_in depth s (core ns w t) left) q
    super_gives G = handed G (λ s. let h = core_of ns R.node e in let i = rw k at h in out s i)

  -- A record.
  module _ {c u n : ℕ} (k : r ≡ Rec c u n) where
    -- What the call asks.
    pub rec_asks : ReadyLetters ns w ls top (left - 1) u
    rec_asks = let h : PartBelow t (Rec c u n) = rw k at below in next h

    -- What it gives.
    pub rec_gives : {w' : List ℕ} {q : Applied} → GivesLettered core 0 ns ls w w' top (left - 1) (λ s. node_out 0 (left - 1) s (dict_rec (name_of ns c) (tree ns w u) n)) q
        → GivesLettered core 4 ns ls w w' top left (λ s. apply_core_in depth s (core ns w t) left) q
    unfolding apply_core_node
    rec_gives G = handed G (λ s. let h = core_of ns R.node e in let i = rw k at h in out s i)
