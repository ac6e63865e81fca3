-- The file as a whole: its length, its names, and what follows them.
use mathlib.Core.Path.{◌≡◌, refl, sym, ap, ◌∙◌}
use mathlib.Core.Bool.{Bool, true, false}
use mathlib.Core.List.{List, []}
use mathlib.Core.Option.{some}
use Prim.Native.Nat.{ℕ, ◌+◌, ◌<◌, ◌≤◌}
use native.Mathlib.Omega.{arith}
use lib.ListN.{length, get_or}
use Rattle.meaning.specs.Base.{ltb, count, nth}
use Rattle.meaning.specs.Ast.{Name}
use Rattle.meaning.specs.Errors.{limit}
use Rattle.meaning.specs.Reader.{Read, got, bad, onward, from, items, counted, section, end_of_file}
use Rattle.meaning.specs.File as M
use Rattle.theorems.proofs.Tests.{ltb_of, ltb_true}
use Rattle.theorems.proofs.Grown.{nth_below}
use Rattle.errors.specs.Refusals.{refusal_of}
use Rattle.errors.specs.declared.Refusal.{Refusal}
use Rattle.errors.specs.declared.Refusal.TheVariants.{Limit}
use Rattle.std.specs.Prelude.{Result, Ok, Err}
use Rattle.reader.specs.Verdicts.{IsCount}
use Rattle.reader.proofs.Fields.{count-length}
use Rattle.reader.proofs.Sequence.{stops}
use Rattle.nodes.specs.declared.Counts.{Counts}
use Rattle.nodes.specs.Known.{Before, Known}
use Rattle.nametable.specs.Tables.{NameKnown, SectionRead, NamesRead}
use Rattle.sections.proofs.Places.{placed_kept}
use Rattle.body.specs.Tails.{after_exprs, after_types, after_names, Types, TypesAs, GivesTail}
use Rattle.body.proofs.Sequel.{goes_on}
use Rattle.file.specs.Reading.{ReadsAs, Reads}

-- ## the length
long : (bytes : List ℕ) → 65_535 < length bytes → ltb 65_535 (count bytes) ≡ true
long bytes h = ltb_of 65_535 (count bytes) (let c = count-length bytes in omega arith)

short : (bytes : List ℕ) → length bytes ≤ 65_535 → ltb 65_535 (count bytes) ≡ false
short bytes h = go (ltb 65_535 (count bytes)) refl
  where
    go : (b : Bool) → ltb 65_535 (count bytes) ≡ b → b ≡ false
    go true e = absurd (let i = ltb_true 65_535 (count bytes) e in let c = count-length bytes in omega arith)
    go false e = refl

pub too_long : (bytes ns ix : List ℕ) → 65_535 < length bytes → Reads bytes ns ix (Err (Limit 0))
unfolding M.read
too_long bytes ns ix h = record { is = ap (λ (b : Bool). elim b [ true ↦ bad (limit 0) | false ↦ M.sections 0 bytes ]) (long bytes h) }

-- ## the names, and what follows them
abbrev start : List Name → Before
start ns = record { names = ns; types = []; exprs = [] }

-- The definition, part by part.
in_parts : (bytes : List ℕ) → length bytes ≤ 65_535 → M.read bytes ≡ onward (onward (counted 1_024 0 (from 0 bytes)) (λ n. items M.name_entry n [])) (λ ns. after_names (start ns))
unfolding M.read M.sections section after_names after_types after_exprs from
in_parts bytes h = ap (λ (b : Bool). elim b [ true ↦ bad (limit 0) | false ↦ M.sections 0 bytes ]) (short bytes h)

pub count_bad : (bytes ns ix : List ℕ) → length bytes ≤ 65_535 → (e : Refusal) → IsCount 1_024 bytes 0 (Err e) → Reads bytes ns ix (Err e)
count_bad bytes ns ix small e c = record { is = in_parts bytes small ∙ stops _ _ _ (stops (counted 1_024 0 (from 0 bytes)) _ _ c.is) }

module _ (bytes ns' ix ix₁ ix' : List ℕ) (small : length bytes ≤ 65_535) where
  module _ (a : ℕ) (c : IsCount 1_024 bytes 0 (Ok a)) where
    counted_first : (o : Read (List Name)) → items M.name_entry a [] 2 (from 2 bytes) ≡ o → M.read bytes ≡ onward o (λ ns. after_names (start ns))
    counted_first o e = in_parts bytes small ∙ ap (λ q. onward q (λ ns. after_names (start ns))) (goes_on (counted 1_024 0 (from 0 bytes)) _ a 2 _ c.is.0 ∙ e)

    pub names_bad : (e : Refusal) → NamesRead bytes ix ns' ix₁ 2 a (Err e) → Reads bytes ns' ix' (Err e)
    names_bad e g = record { is = counted_first (bad (refusal_of [] [] e)) g.is ∙ stops (bad (refusal_of [] [] e)) _ _ refl }

    -- What the rest of the file may know of the names.
    abbrev counts : Counts
    counts = record { names = a; types = 0; exprs = 0; decls = 0 }

    known : (q : ℕ) (g : SectionRead bytes ix ns' ix₁ 2 a q) → Known ix₁ counts (start g.list)
    unfolding count
    known q g = record {
      sized = record { names = g.many; types = refl; exprs = refl };
      forms = record { at = λ i x e. let f = (g.known i x e).form in record { variable = f.variable; word = f.word } };
    }

    -- The names stay known when the index is written further on.
    name_on : (q : ℕ) (g : SectionRead bytes ix ns' ix₁ 2 a q) → ((j : ℕ) → j < 2_048 → get_or ix' j 0 ≡ get_or ix₁ j 0) → (i : ℕ) (x : Name) → nth g.list i ≡ some x → NameKnown ns' ix' i x
    name_on q g low i x e =
        let b = nth_below g.list i x e in let m = g.many in let l = c.is.1 in
        let u = low i (omega arith) in let v = low (1_024 + i) (omega arith) in let k = g.known i x e in
        record { number = rw u k.number; named = rw u k.named; form = rw v k.form }

    -- The rest, read to its end.
    rest_read : (s : Before) (at b c₁ d : ℕ) (t : Types bytes ix' s at b c₁ d)
        → after_names s at (from at bytes) ≡ got (record { names = s.names; types = t.types; exprs = t.rest.exprs; decls = t.rest.rest.decls }) (length bytes) []
    unfolding after_names after_types after_exprs onward end_of_file
    rest_read s at b c₁ d t = goes_on _ _ t.types t.end _ t.read
        ∙ goes_on _ _ t.rest.exprs t.rest.end _ t.rest.read
        ∙ goes_on _ _ t.rest.rest.decls (length bytes) _ t.rest.rest.read

    pub names_on : (q : ℕ) (r : Result Counts Refusal) → NamesRead bytes ix ns' ix₁ 2 a (Ok q) → GivesTail TypesAs 2_048 bytes ix₁ ix' counts q r → Reads bytes ns' ix' r
    names_on q r g h = record { is = go r (h.is (start g.is.list) (known q g.is)) }
      where
        whole : M.read bytes ≡ after_names (start g.is.list) q (from q bytes)
        whole = counted_first (got g.is.list q (from q bytes)) g.is.is ∙ goes_on (got g.is.list q (from q bytes)) (λ ns. after_names (start ns)) g.is.list q (from q bytes) refl

        go : (r : Result Counts Refusal) → TypesAs bytes ix' counts (start g.is.list) q r → ReadsAs bytes ns' ix' r
        go (Ok m) t = (
          record { names = g.is.list; types = t.1.types; exprs = t.1.rest.exprs; decls = t.1.rest.rest.decls },
          whole ∙ rest_read (start g.is.list) q m.types m.exprs m.decls t.1,
          record {
            names_many = g.is.many ∙ sym t.0;
            types_many = t.1.many;
            exprs_many = t.1.rest.many;
            decls_many = t.1.rest.rest.many;
            table = g.is.table;
            built = g.is.built;
            names = name_on q g.is h.low;
            names_end = q;
            names_at = placed_kept bytes ix₁ ix' 10_752 M.name_entry g.is.list 2 q (λ j l. h.high (10_752 + j) (omega arith)) g.is.places;
            types = record { start = q + 2; end = t.1.end; placed = t.1.placed };
            exprs = record { start = t.1.end + 2; end = t.1.rest.end; placed = t.1.rest.placed };
            decls = record { start = t.1.rest.end + 2; end = length bytes; placed = t.1.rest.rest.placed };
          },
        )
        go (Err e) t = whole ∙ t
