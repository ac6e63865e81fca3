-- What the walk does at each kind of term: one law for each arm.
use mathlib.Core.Path.{◌≡◌, refl, ap, ◌∙◌}
use mathlib.Core.Bool.{Bool}
use mathlib.Core.Bool.{Bool}
use mathlib.Core.Bool.{Bool}
use mathlib.Core.List.{List}
use Prim.Native.Nat.{ℕ, zero, suc, ◌-◌, ◌<◌}
use native.Mathlib.Numerals.{sub-one}
use native.Mathlib.Omega.{arith}
use Rattle.meaning.specs.Ast.{DictName, Core, cabs, capp, clet, dict_abs, dict_app, dict_proj, method, super}
use Rattle.meaning.specs.Errors as E
use Rattle.meaning.specs.Budget.{Out, done, refused, step}
use Rattle.meaning.specs.Map.{Map}
use Rattle.names.specs.Names.{name_of}
use Rattle.ast.specs.Table.{Node}
use Rattle.cores.specs.declared.Part.{Part}
use Rattle.cores.specs.declared.Part.TheVariants.{Var, Dict, Context, Own, Bool as A-Bool, Int, Abs, App, Let, DictAbs, DictApp, Method, Super, Rec}
use Rattle.cores.specs.Parts.{part_of, PartBelow}
use Rattle.cores.specs.Binders.{binders_of_word}
use Rattle.cores.specs.Terms.{core, cores}
use Rattle.cores.proofs.Parted.{parts_below}
use Rattle.cores.proofs.TermLaws.{core_of}
use Rattle.apply.specs.Applied.{Applied}
use Rattle.errors.specs.declared.Refusal.TheVariants.{Depth, Steps}
use Rattle.apply.specs.Applied.{Done, Refused}
use Rattle.terms.specs.Plain.{plain_node, plain_in}
use Rattle.terms.specs.Rows.{replaced_in, replacement_in, ReadyTerm}
use Rattle.terms.specs.Answers.{GivesTerm, node_out}
use Rattle.terms.proofs.RowLaws.{or_found, or_self, or_context, found_node}
use Rattle.terms.proofs.Handing.{onward, stays, refuses}

-- No depth is left.
plain_deep : (d l : ℕ) (s : Map DictName Core) (c : Core) → d ≡ 0 → plain_in d s c l ≡ refused E.too_deep l
unfolding plain_in
plain_deep d l s c e = rw e

-- No step is left.
plain_spent : (d l : ℕ) (s : Map DictName Core) (c : Core) → (d ≡ 0 → ⊥) → l ≡ 0 → plain_in d s c l ≡ refused E.out_of_steps 0
unfolding plain_in step
plain_spent zero l s c p q = absurd (p refl)
plain_spent (suc d) l s c p q = rw q

-- One step, then the node.
plain_step : (d l : ℕ) (s : Map DictName Core) (c : Core) → (d ≡ 0 → ⊥) → (l ≡ 0 → ⊥) → plain_in d s c l ≡ plain_node (plain_in (d - 1) s) s c (l - 1)
unfolding plain_in step
plain_step zero l s c p q = absurd (p refl)
plain_step (suc d) zero s c p q = absurd (q refl)
plain_step (suc d) (suc l) s c p q = simp sub-one

-- ## The ways out of `subst_core`

-- For want of depth.
pub deep : {w bs : List ℕ} {top left n e depth : ℕ} → ReadyTerm w bs top left n e → depth ≡ 0
    → GivesTerm core 4 w w top left (λ ns. plain_in depth (replaced_in ns w bs n) (core ns w e) left) (Refused Depth top left)
deep R h = refuses (λ ns u. plain_deep _ _ _ _ h) tt (omega arith)

-- For want of steps.
pub spent : {w bs : List ℕ} {top left n e depth : ℕ} → ReadyTerm w bs top left n e → (depth ≡ 0 → ⊥) → left ≡ 0
    → GivesTerm core 4 w w top left (λ ns. plain_in depth (replaced_in ns w bs n) (core ns w e) left) (Refused Steps top left)
spent R p h = refuses (λ ns u. plain_spent _ _ _ _ p h ∙ rw h) tt (omega arith)

-- r is what `part_at` returned.
module _ {w bs : List ℕ} {top left n t depth : ℕ} (R : ReadyTerm w bs top left n t) (dp : depth ≡ 0 → ⊥) (lp : left ≡ 0 → ⊥) {r : Part} (e : r ≡ part_of w t) where
  -- The node, one deeper and with one step less.
  out : (ns : List ℕ) {c : Core} → core ns w t ≡ c → plain_in depth (replaced_in ns w bs n) (core ns w t) left ≡ node_out ns w bs n (depth - 1) (left - 1) c
  out ns p = rw p (plain_step depth left _ _ dp lp)

  -- A term that stays.
  stay : ((ns : List ℕ) → node_out ns w bs n (depth - 1) (left - 1) (core ns w t) ≡ done (core ns w t) (left - 1))
      → GivesTerm core 4 w w top left (λ ns. plain_in depth (replaced_in ns w bs n) (core ns w t) left) (Done t top (left - 1))
  stay h = stays (λ ns u. out ns refl ∙ h ns) R.node (omega arith) (omega arith)

  -- A script's name.
  pub at_var : {x : ℕ} → r ≡ Var x → GivesTerm core 4 w w top left (λ ns. plain_in depth (replaced_in ns w bs n) (core ns w t) left) (Done t top (left - 1))
  unfolding plain_node
  at_var k = stay (λ ns. let h = core_of ns R.node e in let i = rw k at h in rw i)

  -- A number.
  pub at_int : {v : ℕ} → r ≡ Int v → GivesTerm core 4 w w top left (λ ns. plain_in depth (replaced_in ns w bs n) (core ns w t) left) (Done t top (left - 1))
  unfolding plain_node
  at_int k = stay (λ ns. let h = core_of ns R.node e in let i = rw k at h in rw i)

  -- A truth value.
  pub at_bool : {b : Bool} → r ≡ A-Bool b → GivesTerm core 4 w w top left (λ ns. plain_in depth (replaced_in ns w bs n) (core ns w t) left) (Done t top (left - 1))
  unfolding plain_node
  at_bool k = stay (λ ns. let h = core_of ns R.node e in let i = rw k at h in rw i)

  -- A record.
  pub at_rec : {c u i : ℕ} → r ≡ Rec c u i → GivesTerm core 4 w w top left (λ ns. plain_in depth (replaced_in ns w bs n) (core ns w t) left) (Done t top (left - 1))
  unfolding plain_node
  at_rec k = stay (λ ns. let h = core_of ns R.node e in let i = rw k at h in rw i)

  -- The name `self`.
  pub at_own : r ≡ Own → GivesTerm core 4 w w top left (λ ns. plain_in depth (replaced_in ns w bs n) (core ns w t) left) (Done t top (left - 1))
  unfolding plain_node
  at_own k = stay (λ ns. let h = core_of ns R.node e in let i = rw k at h in rw i (ap (λ u. done u (left - 1)) (or_self ns w bs n)))

  -- A context's name.
  pub at_context : {c i : ℕ} → r ≡ Context c i → GivesTerm core 4 w w top left (λ ns. plain_in depth (replaced_in ns w bs n) (core ns w t) left) (Done t top (left - 1))
  unfolding plain_node
  at_context {c} {i} k = stay (λ ns. let h = core_of ns R.node e in let j = rw k at h in rw j (ap (λ u. done u (left - 1)) (or_context ns w bs n (name_of ns c) i)))

  -- A dictionary's name becomes what was found for it.
  pub at_dict : {d m : ℕ} → r ≡ Dict d → m ≡ replacement_in bs 0 n d t → GivesTerm core 4 w w top left (λ ns. plain_in depth (replaced_in ns w bs n) (core ns w t) left) (Done m top (left - 1))
  unfolding plain_node
  at_dict {d} k i = stays
      (λ ns u. let h = core_of ns R.node e in let j = rw k at h in out ns j ∙ ap (λ u. done u (left - 1)) (or_found ns w bs n d t j i))
      (found_node d R.rows R.node i) (omega arith) (omega arith)

  -- What the part refers to lies below.
  below : PartBelow t r
  below = rw e (parts_below w t)

  -- A word below is ready for the next call, with fewer steps.
  next : {b : ℕ} → b < t → ReadyTerm w bs top (left - 1) n b
  next h = let o = R.room in let z = R.node.below in record { node = record { table = R.node.table; below = omega arith }; rows = R.rows; room = omega arith }

  -- A word below is one of the table.
  child : {b : ℕ} → b < t → Node w top b
  child h = (next h).node

  -- What a call for the node gave is the answer.
  handed : {o : List ℕ → Out Core} {w' : List ℕ} {q : Applied} → GivesTerm core 0 w w' top (left - 1) o q → ((ns : List ℕ) → plain_in depth (replaced_in ns w bs n) (core ns w t) left ≡ o ns)
      → GivesTerm core 4 w w' top left (λ ns. plain_in depth (replaced_in ns w bs n) (core ns w t) left) q
  handed G h = onward G (record { at = λ ns u. h ns }) (omega arith) (omega arith) (omega arith)

  -- A function.
  module _ {x b : ℕ} (k : r ≡ Abs x b) where
    -- What the call asks.
    pub abs_asks : ReadyTerm w bs top (left - 1) n b
    abs_asks = let h : PartBelow t (Abs x b) = rw k at below in next h

    -- What it gives.
    pub abs_gives : {w' : List ℕ} {q : Applied} → GivesTerm core 0 w w' top (left - 1) (λ ns. node_out ns w bs n (depth - 1) (left - 1) (cabs (name_of ns x) (core ns w b))) q
        → GivesTerm core 4 w w' top left (λ ns. plain_in depth (replaced_in ns w bs n) (core ns w t) left) q
    abs_gives G = handed G (λ ns. let h = core_of ns R.node e in let i = rw k at h in out ns i)

  -- A term applied to a term.
  module _ {f a : ℕ} (k : r ≡ App f a) where
    -- What the call asks.
    pub call_asks : ReadyTerm w bs top (left - 1) n f × Node w top a
    call_asks = let h : PartBelow t (App f a) = rw k at below in (next h.0, child h.1)

    -- What it gives.
    pub call_gives : {w' : List ℕ} {q : Applied} → GivesTerm core 0 w w' top (left - 1) (λ ns. node_out ns w bs n (depth - 1) (left - 1) (capp (core ns w f) (core ns w a))) q
        → GivesTerm core 4 w w' top left (λ ns. plain_in depth (replaced_in ns w bs n) (core ns w t) left) q
    call_gives G = handed G (λ ns. let h = core_of ns R.node e in let i = rw k at h in out ns i)

  -- A term in which a name stands for another.
  module _ {x a b : ℕ} (k : r ≡ Let x a b) where
    -- What the call asks.
    pub let_asks : ReadyTerm w bs top (left - 1) n a × Node w top b
    let_asks = let h : PartBelow t (Let x a b) = rw k at below in (next h.0, child h.1)

    -- What it gives.
    pub let_gives : {w' : List ℕ} {q : Applied} → GivesTerm core 0 w w' top (left - 1) (λ ns. node_out ns w bs n (depth - 1) (left - 1) (clet (name_of ns x) (core ns w a) (core ns w b))) q
        → GivesTerm core 4 w w' top left (λ ns. plain_in depth (replaced_in ns w bs n) (core ns w t) left) q
    let_gives G = handed G (λ ns. let h = core_of ns R.node e in let i = rw k at h in out ns i)

  -- A term under binders.
  module _ {v b : ℕ} (k : r ≡ DictAbs v b) where
    -- What the call asks.
    pub under_asks : ReadyTerm w bs top (left - 1) n b × Node w top v
    under_asks = let h : PartBelow t (DictAbs v b) = rw k at below in (next h.1, child h.0)

    -- What it gives.
    pub under_gives : {w' : List ℕ} {q : Applied} → GivesTerm core 0 w w' top (left - 1) (λ ns. node_out ns w bs n (depth - 1) (left - 1) (dict_abs (binders_of_word ns w v) (core ns w b))) q
        → GivesTerm core 4 w w' top left (λ ns. plain_in depth (replaced_in ns w bs n) (core ns w t) left) q
    under_gives G = handed G (λ ns. let h = core_of ns R.node e in let i = rw k at h in out ns i)

  -- A term applied to dictionaries.
  module _ {f v : ℕ} (k : r ≡ DictApp f v) where
    -- What the call asks.
    pub applied_asks : ReadyTerm w bs top (left - 1) n f × Node w top v
    applied_asks = let h : PartBelow t (DictApp f v) = rw k at below in (next h.0, child h.1)

    -- What it gives.
    pub applied_gives : {w' : List ℕ} {q : Applied} → GivesTerm core 0 w w' top (left - 1) (λ ns. node_out ns w bs n (depth - 1) (left - 1) (dict_app (core ns w f) (cores ns w v))) q
        → GivesTerm core 4 w w' top left (λ ns. plain_in depth (replaced_in ns w bs n) (core ns w t) left) q
    applied_gives G = handed G (λ ns. let h = core_of ns R.node e in let i = rw k at h in out ns i)

  -- A method.
  module _ {a x : ℕ} (k : r ≡ Method a x) where
    -- What the call asks.
    pub method_asks : ReadyTerm w bs top (left - 1) n a
    method_asks = let h : PartBelow t (Method a x) = rw k at below in next h

    -- What it gives.
    pub method_gives : {w' : List ℕ} {q : Applied} → GivesTerm core 0 w w' top (left - 1) (λ ns. node_out ns w bs n (depth - 1) (left - 1) (dict_proj (core ns w a) (method (name_of ns x)))) q
        → GivesTerm core 4 w w' top left (λ ns. plain_in depth (replaced_in ns w bs n) (core ns w t) left) q
    method_gives G = handed G (λ ns. let h = core_of ns R.node e in let i = rw k at h in out ns i)

  -- A superclass.
  module _ {a c s : ℕ} (k : r ≡ Super a c s) where
    -- What the call asks.
    pub super_asks : ReadyTerm w bs top (left - 1) n a
    super_asks = let h : PartBelow t (Super a c s) = rw k at below in next h

    -- What it gives.
    pub super_gives : {w' : List ℕ} {q : Applied} → GivesTerm core 0 w w' top (left - 1) (λ ns. node_out ns w bs n (depth - 1) (left - 1) (dict_proj (core ns w a) (super (name_of ns c) (name_of ns s)))) q
        → GivesTerm core 4 w w' top left (λ ns. plain_in depth (replaced_in ns w bs n) (core ns w t) left) q
    super_gives G = handed G (λ ns. let h = core_of ns R.node e in let i = rw k at h in out ns i)
