-- How the numbers of the names are put in byte order: one after the other into a sorted beginning.
use Rattle.std.specs.Prelude.{◌≡◌, Bool, true, false, List, ℕ, zero, suc, ◌*◌, ◌<◌, ◌≤◌, length, get_or}
use Rattle.meaning.specs.Base.{if, eqb, ltb}
use Rattle.meaning.specs.Ast.{name_before}
use Rattle.names.specs.Names.{name_of}
use Rattle.scope.specs.Scope.{Order}

-- ## Which rows a pass takes

-- Row x has zero as its first word: it holds no name but its own number.
unfoldable pub idle : List ℕ → ℕ → Bool
idle ns x = eqb (get_or ns (4 * x) 0) 0

-- A pass takes the idle rows, or else the others.
unfoldable pub due : List ℕ → Bool → ℕ → Bool
due ns true x = idle ns x
due ns false x = if (idle ns x) false true

-- Row x was taken when a pass has come to row r. The pass over the others comes after the one over the idle rows.
unfoldable pub chosen : List ℕ → Bool → ℕ → ℕ → Bool
chosen ns true r x = if (idle ns x) (ltb x r) false
chosen ns false r x = if (idle ns x) (ltb x 1_059) (ltb x r)

-- How many numbers below n pass a test.
unfoldable pub tally : (ℕ → Bool) → ℕ → ℕ
tally P zero = 0
tally P (suc n) = if (P n) (suc (tally P n)) (tally P n)

-- ## The beginning that is sorted

-- The number x is one of the first k words.
pub record In (od : List ℕ) (k x : ℕ) : Type 0 where
  pub at : ℕ
  pub below : at < k
  pub is : get_or od at 0 ≡ x

-- The first k words are numbers of rows.
pub record Low (od : List ℕ) (k : ℕ) : Type 0 where
  pub below : (i : ℕ) → i < k → get_or od i 0 < 1_059

-- The first k words are the numbers of the rows that pass the test P, each once, by their names in byte order.
pub record Gathered (ns od : List ℕ) (k : ℕ) (P : ℕ → Bool) : Type 0 where
  pub low : Low od k
  pub only : (i : ℕ) → i < k → P (get_or od i 0) ≡ true
  pub all : (x : ℕ) → x < 1_059 → P x ≡ true → In od k x
  pub many : k ≡ tally P 1_059
  pub rises : (i : ℕ) → suc i < k → name_before (name_of ns (get_or od i 0)) (name_of ns (get_or od (suc i) 0)) ≡ true

-- ## One number more

-- Of the first k words those from number i on moved up by one: the name of r goes between those before i and these.
pub record Room (ns od od' : List ℕ) (k r i : ℕ) : Type 0 where
  pub wide : length od' ≡ length od
  pub upto : i ≤ k
  pub low : (j : ℕ) → j < i → get_or od' j 0 ≡ get_or od j 0
  pub high : (j : ℕ) → i ≤ j → j < k → get_or od' (suc j) 0 ≡ get_or od j 0
  pub before : (j : ℕ) → suc j ≡ i → name_before (name_of ns (get_or od j 0)) (name_of ns r) ≡ true
  pub after : i < k → name_before (name_of ns (get_or od i 0)) (name_of ns r) ≡ false

-- The number r was put into such a gap.
pub record Inserted (ns od od' : List ℕ) (k r : ℕ) : Type 0 where
  pub place : ℕ
  pub room : Room ns od od' k r place
  pub here : get_or od' place 0 ≡ r

-- ## The answer

-- A pass has come to row r: k' numbers are gathered.
pub record Passed (ns od od' : List ℕ) (low : Bool) (r k' : ℕ) : Type 0 where
  pub wide : length od' ≡ length od
  pub gathered : Gathered ns od' k' (chosen ns low r)

-- The numbers of all names, in the byte order of the names.
pub record Ordered (ns od od' : List ℕ) : Type 0 where
  pub wide : length od' ≡ length od
  pub order : Order ns od'
