-- The environment of inference as rows of a lent slice, four words for each name: a state, the words of a list of variables
-- and of a list of predicates, and a type's word. A second slice has the numbers of the names in byte order.
use Rattle.std.specs.Prelude.{◌≡◌, true, List, [], ◌∷◌, ℕ, zero, suc, ◌+◌, ◌*◌, ◌<◌, ◌≤◌, length, get_or, set}
use Rattle.std.proofs.Math.Option.{Option, none, some}
use Rattle.meaning.specs.Base.{null, count}
use Rattle.meaning.specs.Ast.{Name, name_before, Pred, Scheme}
use Rattle.meaning.specs.Subst.{ftv_scheme}
use Rattle.meaning.specs.Generalize.{Env}
use Rattle.meaning.specs.Session.{scheme_nodes}
use Rattle.names.specs.Names.{name_of}
use Rattle.ast.specs.Table.{Node}
use Rattle.subst.specs.Schemes.{scheme_of_word}
use Rattle.scope.specs.declared.Entry.{Entry}
use Rattle.scope.specs.declared.Entry.TheVariants.{Nothing, Closed, Local}

-- ## Rows

-- The entry of a scheme without free variables, by its three words.
abbrev pub closed_entry : ℕ → ℕ → ℕ → Entry
closed_entry vs ps t = Closed (record { vars = vs; preds = ps; ty = t })

-- The entry of any other scheme.
abbrev pub local_entry : ℕ → ℕ → ℕ → Entry
local_entry vs ps t = Local (record { vars = vs; preds = ps; ty = t })

-- What a row's words say: state 0 nothing, 1 a scheme without free variables, any other a scheme.
abbrev pub entry : ℕ → ℕ → ℕ → ℕ → Entry
entry zero vs ps t = Nothing
entry (suc zero) vs ps t = closed_entry vs ps t
entry (suc (suc s)) vs ps t = local_entry vs ps t

-- The row of name number r.
unfoldable pub entry_of : List ℕ → ℕ → Entry
entry_of ev r = entry (get_or ev (4 * r) 0) (get_or ev (4 * r + 1) 0) (get_or ev (4 * r + 2) 0) (get_or ev (4 * r + 3) 0)

-- ev with four words as row r.
unfoldable pub written : List ℕ → ℕ → ℕ → ℕ → ℕ → ℕ → List ℕ
written ev r s vs ps t = set (set (set (set ev (4 * r) s) (4 * r + 1) vs) (4 * r + 2) ps) (4 * r + 3) t

-- ev with an entry as row r.
abbrev pub with_entry : List ℕ → ℕ → Entry → List ℕ
with_entry ev r Nothing = written ev r 0 0 0 0
with_entry ev r (Closed s) = written ev r 1 s.vars s.preds s.ty
with_entry ev r (Local s) = written ev r 2 s.vars s.preds s.ty

-- ## What they stand for, under the names ns and over the words w

-- The scheme of an entry.
abbrev pub scheme_in : List ℕ → List ℕ → Entry → Option Scheme
scheme_in ns w Nothing = none
scheme_in ns w (Closed s) = some (scheme_of_word ns w s.vars s.preds s.ty)
scheme_in ns w (Local s) = some (scheme_of_word ns w s.vars s.preds s.ty)

-- A name with its scheme, if it has one, before others.
abbrev pub with_scheme : Name → Option Scheme → Env → Env
with_scheme x none env = env
with_scheme x (some c) env = (x, c) ∷ env

-- The schemes of the k names of od from number i on.
unfoldable pub env_from : List ℕ → List ℕ → List ℕ → List ℕ → ℕ → ℕ → Env
env_from ns w ev od i zero = []
env_from ns w ev od i (suc k) = with_scheme (name_of ns (get_or od i 0)) (scheme_in ns w (entry_of ev (get_or od i 0))) (env_from ns w ev od (suc i) k)

-- Those of all names of od.
abbrev pub env_of : List ℕ → List ℕ → List ℕ → List ℕ → Env
env_of ns w ev od = env_from ns w ev od 0 (length od)

-- ## What always holds of them

-- Where the number r stands in od.
pub record Listed (od : List ℕ) (r : ℕ) : Type 0 where
  pub at : ℕ
  pub below : at < length od
  pub is : get_or od at 0 ≡ r

-- The numbers in od are all those below its length, by their names in byte order: so each is there once.
pub record Order (ns od : List ℕ) : Type 0 where
  pub below : (i : ℕ) → i < length od → get_or od i 0 < length od
  pub rises : (i : ℕ) → suc i < length od → name_before (name_of ns (get_or od i 0)) (name_of ns (get_or od (suc i) 0)) ≡ true
  pub covers : (r : ℕ) → r < length od → Listed od r

-- The name has a number of two bytes.
pub record Small (ns : List ℕ) (x : Name) : Type 0 where
  pub number : ℕ
  pub below : number < 65536
  pub is : x ≡ name_of ns number

-- The class of each predicate has such a number.
pub data Smalls (ns : List ℕ) : List Pred → Type 0 where
  no_preds : Smalls ns []
  one_more : {p : Pred} {ps : List Pred} → Small ns p.class → Smalls ns ps → Smalls ns (p ∷ ps)

-- A scheme that binds no more variables than it has nodes, and whose classes have such numbers.
pub record Fine (ns : List ℕ) (c : Scheme) : Type 0 where
  pub modest : count c.vars ≤ scheme_nodes c
  pub small : Smalls ns c.qual.preds

-- Three words of the table of top nodes that stand for such a scheme.
pub record Held (ns w : List ℕ) (top vs ps t : ℕ) : Type 0 where
  pub vars : Node w top vs
  pub preds : Node w top ps
  pub type : Node w top t
  pub fine : Fine ns (scheme_of_word ns w vs ps t)

-- The words of a closed scheme.
pub record HeldClosed (ns w : List ℕ) (top vs ps t : ℕ) : Type 0 where
  pub held : Held ns w top vs ps t
  pub closed : null (ftv_scheme (scheme_of_word ns w vs ps t)) ≡ true

-- What always holds of an entry.
abbrev pub EntryIn : List ℕ → List ℕ → ℕ → Entry → Type 0
EntryIn ns w top Nothing = Unit {0}
EntryIn ns w top (Closed s) = HeldClosed ns w top s.vars s.preds s.ty
EntryIn ns w top (Local s) = Held ns w top s.vars s.preds s.ty

-- The names of od have a row each, and what always holds of an entry holds of each row.
pub record Scope (ns w ev od : List ℕ) (top : ℕ) : Type 0 where
  pub order : Order ns od
  pub fits : length ev ≡ 4 * length od
  pub entries : (r : ℕ) → r < length od → EntryIn ns w top (entry_of ev r)
