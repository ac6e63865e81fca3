-- What inference does at a function and at an application once their parts are inferred: definitions, what the code asks
-- of the words, and what it gives.
use Rattle.std.specs.Prelude.{◌≡◌, List, ℕ, ◌+◌, ◌*◌, ◌-◌, ◌<◌, ◌≤◌, length, get_or}
use Rattle.meaning.specs.Ast.{Name, TyVar, Ty, var, arrow, Core, cabs}
use Rattle.meaning.specs.Budget.{Out, done, Steps, ◌>>=◌, pure}
use Rattle.meaning.specs.Map.{tyvars}
use Rattle.meaning.specs.Subst.{Subst, look, apply_type, compose}
use Rattle.meaning.specs.Unify.{unify}
use Rattle.theorems.proofs.Ordered.{Sorted}
use Rattle.names.specs.Names.{Names, tyvar_of, first_nullary, first_node}
use Rattle.ast.specs.Table.{tree, Table, Node}
use Rattle.errors.specs.Refusals.{Refuses}
use Rattle.pairs.specs.Pairs.{sub_at, Sub, Stands}
use Rattle.cores.specs.Terms.{core}
use Rattle.ends.specs.Ended.{Ended}
use Rattle.ends.specs.Ended.{Done as Ended-Done, Refused as Ended-Refused}
use Rattle.ends.specs.Joined.{Joined}
use Rattle.ends.specs.Joined.{Done as Joined-Done, Refused as Joined-Refused}

-- ## The end of `infer_abs`

-- The type and the core term of a function of the variable x: its body has the type t and the term e, and s is what its
-- inference found.
unfoldable pub abs_ended : Subst → TyVar → Ty → Name → Core → Steps (Ty × Core)
abs_ended s a t x e = do
  u ← apply_type s (var a)
  pure (arrow u t, cabs x e)

-- The k pairs that end at sp, a variable's word, a type and a term; four words more than 8 for each step are free.
pub record ReadyAbs (ns w : List ℕ) (top left sp k a t e : ℕ) : Type 0 where
  pub names : Names ns
  pub variable : a < first_nullary
  pub ty : Node w top t
  pub term : Node w top e
  pub sub : Sub w top (sp - 2 * k) k
  pub room : 4 * top + 8 * left + 2 * k + 4 ≤ sp
  pub fits : sp ≤ length w

-- Both are words of the grown table, which took no more than the four words beside those of the steps.
pub record GrownAbs (w' : List ℕ) (top left top' left' t e : ℕ) : Type 0 where
  pub ty : Node w' top' t
  pub term : Node w' top' e
  pub more : top ≤ top'
  pub spent : 4 * top' + 8 * left' ≤ 4 * top + 8 * left + 4
  pub down : left' ≤ left

-- The code's answer for an outcome o.
abbrev pub AnswerAbs : List ℕ → List ℕ → ℕ → ℕ → Out (Ty × Core) → Ended → Type 0
AnswerAbs ns w' top left o (Ended-Done t e top' left') = (o ≡ done (tree ns w' t, core ns w' e) left') × GrownAbs w' top left top' left' t e
AnswerAbs ns w' top left o (Ended-Refused e top' left') = Refuses ns w' top left o e top' left'

-- The words became w': table and pairs stand, and the answer is the outcome o.
pub record GivesAbs (ns w w' : List ℕ) (top left : ℕ) (o : Out (Ty × Core)) (r : Ended) : Type 0 where
  pub stands : Stands w w' top (4 * top + 8 * left + 4)
  pub answer : AnswerAbs ns w' top left o r

-- ## The end of `infer_app`

-- The function's type after s₂ unified with an arrow from the argument's type to the variable a.
unfoldable pub met : Subst → Ty → Ty → TyVar → Steps Subst
met s₂ f-ty x-ty a = do
  f-ty₂ ← apply_type s₂ f-ty
  unify f-ty₂ (arrow x-ty (var a))

-- Three substitutions made one: first s₁, then s₂, then s₃.
unfoldable pub gathered : Subst → Subst → Subst → Steps Subst
gathered s₃ s₂ s₁ = do
  s₂₁ ← compose s₂ s₁
  compose s₃ s₂₁

-- All three, and what the last one says of the variable a.
unfoldable pub closed : Subst → Subst → Subst → TyVar → Steps (Subst × Ty)
closed s₃ s₂ s₁ a = do
  s ← gathered s₃ s₂ s₁
  u ← apply_type s₃ (var a)
  pure (s, u)

-- `infer_app` from the two inferences to the type of the result: s₁ and f-ty are the function's, s₂ and x-ty the
-- argument's, a is the variable of the result.
unfoldable pub joined : Subst → Ty → Subst → Ty → TyVar → Steps (Subst × Ty)
joined s₁ f-ty s₂ x-ty a = do
  f-ty₂ ← apply_type s₂ f-ty
  s₃ ← unify f-ty₂ (arrow x-ty (var a))
  s₂₁ ← compose s₂ s₁
  s ← compose s₃ s₂₁
  u ← apply_type s₃ (var a)
  pure (s, u)

-- The k₂ pairs from lo, two types' words and a variable's; the stack ends at lo.
pub record ReadyMeet (ns w : List ℕ) (top left lo k₂ a tf tx : ℕ) : Type 0 where
  pub names : Names ns
  pub variable : a < first_nullary
  pub function : Node w top tf
  pub argument : Node w top tx
  pub sub : Sub w top lo k₂
  pub room : 4 * top + 8 * left ≤ lo

-- The words from at up to end were moved up by d.
pub record Raised (w w' : List ℕ) (at end d : ℕ) : Type 0 where
  pub moved : (q : ℕ) → at ≤ q → q < end → get_or w' (q + d) 0 ≡ get_or w q 0
  pub before : (q : ℕ) → q < at → get_or w' q 0 ≡ get_or w q 0
  pub after : (q : ℕ) → end + d ≤ q → get_or w' q 0 ≡ get_or w q 0

-- The word m is what the k pairs from at say of the variable a.
pub record Seen (w : List ℕ) (at k a m : ℕ) : Type 0 where
  pub is : (ns : List ℕ) → Names ns → look (sub_at ns w at k) (tyvar_of ns a) ≡ tree ns w m
  pub below : (top : ℕ) → Sub w top at k → m < first_node + top

-- Three regions side by side that end at sp: k₃ pairs, then k₂, then k₁, each in order.
pub record ReadyGather (ns w : List ℕ) (top left sp k₃ k₂ k₁ : ℕ) : Type 0 where
  pub names : Names ns
  pub table : Table w top
  pub room : 4 * top + 8 * left + 2 * k₃ + 2 * k₂ + 2 * k₁ ≤ sp
  pub last : Sub w top (sp - 2 * k₁ - 2 * k₂ - 2 * k₃) k₃
  pub self : Sub w top (sp - 2 * k₁ - 2 * k₂) k₂
  pub other : Sub w top (sp - 2 * k₁) k₁
  pub last_sorted : Sorted tyvars (sub_at ns w (sp - 2 * k₁ - 2 * k₂ - 2 * k₃) k₃)
  pub self_sorted : Sorted tyvars (sub_at ns w (sp - 2 * k₁ - 2 * k₂) k₂)
  pub other_sorted : Sorted tyvars (sub_at ns w (sp - 2 * k₁) k₁)

-- Two regions side by side that end at sp, the argument's k₂ pairs and the function's k₁, each in order; the two types,
-- and the variable of the result. No words are asked for but 8 for each step.
pub record ReadyApp (ns w : List ℕ) (top left sp k₁ k₂ a tf tx : ℕ) : Type 0 where
  pub names : Names ns
  pub variable : a < first_nullary
  pub function : Node w top tf
  pub argument : Node w top tx
  pub room : 4 * top + 8 * left + 2 * k₁ + 2 * k₂ ≤ sp
  pub self : Sub w top (sp - 2 * k₁ - 2 * k₂) k₂
  pub other : Sub w top (sp - 2 * k₁) k₁
  pub self_sorted : Sorted tyvars (sub_at ns w (sp - 2 * k₁ - 2 * k₂) k₂)
  pub other_sorted : Sorted tyvars (sub_at ns w (sp - 2 * k₁) k₁)

-- The k pairs that end at sp, in order, and a type's word. Of the words of before and x more at least slack are not
-- used, and at least steps were taken.
pub record GrownJoin (slack steps x : ℕ) (ns w' : List ℕ) (top left sp top' left' t k : ℕ) : Type 0 where
  pub node : Node w' top' t
  pub sub : Sub w' top' (sp - 2 * k) k
  pub sorted : Sorted tyvars (sub_at ns w' (sp - 2 * k) k)
  pub more : top ≤ top'
  pub spent : 4 * top' + 8 * left' + 2 * k + slack ≤ 4 * top + 8 * left + x
  pub down : left' + steps ≤ left

-- The code's answer for an outcome o.
abbrev pub AnswerJoin : ℕ → ℕ → ℕ → List ℕ → List ℕ → ℕ → ℕ → ℕ → Out (Subst × Ty) → Joined → Type 0
AnswerJoin slack steps x ns w' top left sp o (Joined-Done t k top' left') = (o ≡ done (sub_at ns w' (sp - 2 * k) k, tree ns w' t) left') × GrownJoin slack steps x ns w' top left sp top' left' t k
AnswerJoin slack steps x ns w' top left sp o (Joined-Refused e top' left') = Refuses ns w' top left o e top' left'

-- The words became w': the table and what lies from sp on stand, and the answer is the outcome o.
pub record GivesJoin (slack steps x : ℕ) (ns w w' : List ℕ) (top left sp : ℕ) (o : Out (Subst × Ty)) (r : Joined) : Type 0 where
  pub stands : Stands w w' top sp
  pub answer : AnswerJoin slack steps x ns w' top left sp o r
