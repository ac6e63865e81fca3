-- The sections of a file after its names, and where their items stand.
use Rattle.std.specs.Prelude.{◌≡◌, List, [], ℕ, ◌+◌, ◌<◌, ◌≤◌, length, get_or, Result, Ok, Err}
use Rattle.meaning.specs.Base.{count}
use Rattle.meaning.specs.Ast.{Ty, Expr, Decl}
use Rattle.meaning.specs.Reader.{got, bad, Reader, from, items, section}
use Rattle.meaning.specs.File.{type_node, expr_node, decl_entry}
use Rattle.errors.specs.Refusals.{refusal_of}
use Rattle.errors.specs.declared.Refusal.{Refusal}
use Rattle.reader.specs.Verdicts.{Verdict}
use Rattle.reader.specs.Placing.{Placed}
use Rattle.nodes.specs.declared.Counts.{Counts}
use Rattle.nodes.specs.Known.{Before, Known}
use Rattle.sections.specs.declared.Part.{Part}
use Rattle.sections.specs.declared.Part.TheVariants.{Types, Exprs, Decls}
use Rattle.sections.specs.declared.Counted.{Counted}

-- What a section's items are.
abbrev pub PartOf : Part → Type 0
PartOf Types = Ty
PartOf Exprs = Expr
PartOf Decls = Decl

-- One item, after those of its section that stand before it.
abbrev pub part_reader : (k : Part) → Before → List (PartOf k) → Reader (PartOf k)
part_reader Types s xs = type_node s.names xs
part_reader Exprs s xs = expr_node s.names xs
part_reader Decls s xs = decl_entry s.names s.types s.exprs

-- How many there may be.
abbrev pub limit_of : Part → ℕ
limit_of Types = 4_096
limit_of Exprs = 4_096
limit_of Decls = 512

-- The word of the index that has the place of the first.
abbrev pub base_of : Part → ℕ
base_of Types = 2_048
base_of Exprs = 6_144
base_of Decls = 10_240

-- One item's verdict, whatever stands before it that the code knows.
pub record NodeGives (bytes ix : List ℕ) (n : Counts) (k : Part) (i at : ℕ) (r : Result ℕ Refusal) : Type 0 where
  pub is : (s : Before) (xs : List (PartOf k)) → Known ix n s → count xs ≡ i → Verdict bytes (part_reader k s xs at (from at bytes)) r

-- What m items of a section are read as: a list that ends at the place p, and each item's place; or a refusal.
abbrev pub ItemsAs : {A : Type 0} → List ℕ → List ℕ → ℕ → (List A → Reader A) → ℕ → ℕ → Result ℕ Refusal → Type 0
ItemsAs {A = A} bytes ix base r m at (Ok p) =
    (xs : List A) × (items r m [] at (from at bytes) ≡ got xs p (from p bytes)) × (count xs ≡ m) × (p ≤ length bytes) × Placed bytes ix base r xs at p
ItemsAs bytes ix base r m at (Err e) = items r m [] at (from at bytes) ≡ bad (refusal_of [] [] e)

-- The index became ix': m words of it may have changed.
pub record GivesItems (bytes ix ix' : List ℕ) (n : Counts) (k : Part) (m at : ℕ) (r : Result ℕ Refusal) : Type 0 where
  pub low : (j : ℕ) → j < base_of k → get_or ix' j 0 ≡ get_or ix j 0
  pub high : (j : ℕ) → base_of k + m ≤ j → get_or ix' j 0 ≡ get_or ix j 0
  pub is : (s : Before) → Known ix n s → ItemsAs bytes ix' (base_of k) (part_reader k s) m at r

-- A section: its count, then its items.
abbrev pub SectionAs : {A : Type 0} → List ℕ → List ℕ → ℕ → (List A → Reader A) → ℕ → ℕ → Result Counted Refusal → Type 0
SectionAs {A = A} bytes ix base r most at (Ok i) =
    (xs : List A) × (section most r at (from at bytes) ≡ got xs i.end (from i.end bytes)) × (count xs ≡ i.count) × (i.count ≤ most) × (i.end ≤ length bytes) × Placed bytes ix base r xs (at + 2) i.end
SectionAs bytes ix base r most at (Err e) = section most r at (from at bytes) ≡ bad (refusal_of [] [] e)

pub record GivesSection (bytes ix ix' : List ℕ) (n : Counts) (k : Part) (at : ℕ) (r : Result Counted Refusal) : Type 0 where
  pub low : (j : ℕ) → j < base_of k → get_or ix' j 0 ≡ get_or ix j 0
  pub high : (j : ℕ) → base_of k + limit_of k ≤ j → get_or ix' j 0 ≡ get_or ix j 0
  pub is : (s : Before) → Known ix n s → SectionAs bytes ix' (base_of k) (part_reader k s) (limit_of k) at r
