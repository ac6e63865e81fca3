-- What the ends of abstractions, applications and lets ask of the words and give: the environment is not touched there.
use Rattle.std.specs.Prelude.{◌≡◌, List, ℕ, ◌+◌, ◌*◌, ◌-◌, ◌<◌, ◌≤◌, length}
use Rattle.meaning.specs.Budget.{Out, done}
use Rattle.meaning.specs.Map.{tyvars}
use Rattle.meaning.specs.Infer as M
use Rattle.theorems.proofs.Ordered.{Sorted}
use Rattle.names.specs.Names.{Names, first_nullary}
use Rattle.rows.specs.BuiltIns.{BuiltIns}
use Rattle.ast.specs.Table.{tree, Table, Node}
use Rattle.errors.specs.Refusals.{Refuses}
use Rattle.pairs.specs.Pairs.{sub_at, Sub, Stands}
use Rattle.cores.specs.Terms.{core}
use Rattle.supers.specs.Rows.{binders_in}
use Rattle.pending.specs.Rows.{PendingRows}
use Rattle.inferred.specs.Closed.{Closed}
use Rattle.inferred.specs.Closed.{Done, Refused}

-- ## Words of an answer

-- k pairs that end at hi, in order.
pub record Region (ns w : List ℕ) (top hi k : ℕ) : Type 0 where
  pub sub : Sub w top (hi - 2 * k) k
  pub sorted : Sorted tyvars (sub_at ns w (hi - 2 * k) k)

-- A type t and a term e, k pairs that end at sp, in order, and m pending rows.
pub record Answered (ns w bs : List ℕ) (top sp t e k m : ℕ) : Type 0 where
  pub ty : Node w top t
  pub term : Node w top e
  pub region : Region ns w top sp k
  pub pending : PendingRows w bs top m

-- What they stand for, the rows being those from number j up to number m.
abbrev pub answer_from : List ℕ → List ℕ → List ℕ → ℕ → ℕ → ℕ → ℕ → ℕ → ℕ → M.Inferred
answer_from ns w bs sp t e k j m = (sub_at ns w (sp - 2 * k) k, tree ns w t, binders_in ns w bs j m, core ns w e)

-- The same of the first m rows.
abbrev pub answer_of : List ℕ → List ℕ → List ℕ → ℕ → ℕ → ℕ → ℕ → ℕ → M.Inferred
answer_of ns w bs sp t e k m = answer_from ns w bs sp t e k 0 m

-- ## What is asked

-- An abstraction's body was inferred; a is the word of its parameter's variable. Eight words more than 8 for each step are free.
pub record ReadyAbs (ns w bs : List ℕ) (top left sp t e k m a : ℕ) : Type 0 where
  pub names : Names ns
  pub body : Answered ns w bs top sp t e k m
  pub variable : a < first_nullary
  pub room : 4 * top + 8 * left + 2 * k + 8 ≤ sp
  pub fits : sp ≤ length w

-- An application's types were joined: t is its type, f and e are the terms of function and argument, k pairs end at sp, and m rows
-- are pending.
pub record ReadyLast (ns w bs : List ℕ) (top left sp t f e k m : ℕ) : Type 0 where
  pub names : Names ns
  pub ty : Node w top t
  pub function_term : Node w top f
  pub argument_term : Node w top e
  pub region : Region ns w top sp k
  pub pending : PendingRows w bs top m
  pub room : 4 * top + 8 * left + 2 * k + 4 ≤ sp
  pub fits : sp ≤ length w

-- Function and argument were inferred: the argument's k₂ pairs lie below the function's k₁, and its rows behind the m₁ of the
-- function, m in all. a is the word of the result's variable.
pub record ReadyApp (ns w bs : List ℕ) (top left sp tf f k₁ tx e k₂ m₁ m a : ℕ) : Type 0 where
  pub names : Names ns
  pub function : Node w top tf
  pub function_term : Node w top f
  pub argument : Node w top tx
  pub argument_term : Node w top e
  pub self : Region ns w top (sp - 2 * k₁) k₂
  pub other : Region ns w top sp k₁
  pub pending : PendingRows w bs top m
  pub few : m₁ ≤ m
  pub variable : a < first_nullary
  pub room : 4 * top + 8 * left + 2 * k₁ + 2 * k₂ + 8 ≤ sp
  pub fits : sp ≤ length w

-- A let's body was inferred: its k₂ pairs lie below the k₁ of what the let binds, whose term is c, and its rows behind the nd
-- deferred ones, m in all.
pub record ReadyLet (ns w bs : List ℕ) (top left sp k₁ c t e k₂ nd m : ℕ) : Type 0 where
  pub names : Names ns
  pub bound : Node w top c
  pub ty : Node w top t
  pub term : Node w top e
  pub self : Region ns w top (sp - 2 * k₁) k₂
  pub other : Region ns w top sp k₁
  pub pending : PendingRows w bs top m
  pub few : nd ≤ m
  pub room : 4 * top + 8 * left + 2 * k₁ + 2 * k₂ + 4 ≤ sp
  pub fits : sp ≤ length w

-- A literal is inferred: no pairs, no rows.
pub record ReadyLiteral (ns w bs : List ℕ) (top left sp : ℕ) : Type 0 where
  pub built : BuiltIns ns
  pub table : Table w top
  pub room : 4 * top + 8 * left + 8 ≤ sp
  pub fits : sp ≤ length w

-- ## What is given

-- The answer's words in the grown table; at most x words more are used than the table had and the steps paid for.
pub record GrownC (x : ℕ) (ns w' bs' : List ℕ) (top left sp t e k m top' left' : ℕ) : Type 0 where
  pub words : Answered ns w' bs' top' sp t e k m
  pub more : top ≤ top'
  pub down : left' ≤ left
  pub spent : 4 * top' + 8 * left' + 2 * k ≤ 4 * top + 8 * left + x

-- The code's answer for the outcome o: m rows are pending, as before.
abbrev pub AnswerC : Out M.Inferred → ℕ → List ℕ → List ℕ → List ℕ → ℕ → ℕ → ℕ → ℕ → Closed → Type 0
AnswerC o x ns w' bs' top left sp m (Done t e k top' left') = GrownC x ns w' bs' top left sp t e k m top' left' × (o ≡ done (answer_of ns w' bs' sp t e k m) left')
AnswerC o x ns w' bs' top left sp m (Refused r top' left') = Refuses ns w' top left o r top' left'

-- The words became w' and the rows bs': table and stack stand, and the answer is the outcome o.
pub record GivesC (o : Out M.Inferred) (x : ℕ) (ns w w' bs bs' : List ℕ) (top left sp m : ℕ) (r : Closed) : Type 0 where
  pub stands : Stands w w' top sp
  pub long : length bs' ≡ length bs
  pub answer : AnswerC o x ns w' bs' top left sp m r
