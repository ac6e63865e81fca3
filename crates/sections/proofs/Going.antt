-- The loop over a section's items, and the section as a whole.
use mathlib.Core.Path.{◌≡◌, refl, sym, ap, ◌∙◌, subst}
use mathlib.Core.List.{List, [], ◌∷◌, ◌++◌}
use Prim.Native.Nat.{ℕ, ◌+◌, ◌-◌, ◌<◌, ◌≤◌}
use native.Mathlib.Omega.{arith}
use lib.ListN.{length, get_or, set, length-set}
use lib.Seq.{get_or-set_same, get_or-set_other}
use Rattle.meaning.specs.Base.{count}
use Rattle.meaning.specs.Reader.{onward, from, items, counted, section}
use Rattle.meaning.specs.File.{type_node, expr_node, decl_entry}
use Rattle.theorems.proofs.Grown.{nth_below}
use Rattle.errors.specs.declared.Refusal.{Refusal}
use Rattle.std.specs.Prelude.{Result, Ok, Err}
use Rattle.reader.specs.Verdicts.{IsCount}
use Rattle.reader.proofs.Sequence.{stops}
use Rattle.nodes.specs.declared.Counts.{Counts}
use Rattle.nodes.specs.Known.{Before, Known, Gives}
use Rattle.nodes.proofs.Loops.{items_more, items_past, one_less}
use Rattle.sections.specs.declared.Part.{Part}
use Rattle.sections.specs.declared.Part.TheVariants.{Types, Exprs, Decls}
use Rattle.reader.specs.Placing.{Placed}
use Rattle.sections.specs.Parts.{PartOf, part_reader, base_of, limit_of, NodeGives, GivesItems, GivesSection}
use Rattle.sections.proofs.Places.{count_snoc, placed_none, placed_more}

-- ## one item, by the section that it is of
pub node_type : (bytes ix : List ℕ) (n : Counts) (k : Part) (i at : ℕ) (r : Result ℕ Refusal) → k ≡ Types
    → Gives (Known ix (record { names = n.names; types = i; exprs = n.exprs; decls = n.decls })) bytes (λ s. type_node s.names s.types) at r → NodeGives bytes ix n k i at r
node_type bytes ix n k i at r e g = subst (λ j. NodeGives bytes ix n j i at r) (sym e) (record {
  is = λ s xs h c.
      g.is (record { names = s.names; types = xs; exprs = s.exprs }) (record { sized = record { names = h.sized.names; types = c; exprs = h.sized.exprs }; forms = h.forms });
})

pub node_expr : (bytes ix : List ℕ) (n : Counts) (k : Part) (i at : ℕ) (r : Result ℕ Refusal) → k ≡ Exprs
    → Gives (Known ix (record { names = n.names; types = n.types; exprs = i; decls = n.decls })) bytes (λ s. expr_node s.names s.exprs) at r → NodeGives bytes ix n k i at r
node_expr bytes ix n k i at r e g = subst (λ j. NodeGives bytes ix n j i at r) (sym e) (record {
  is = λ s xs h c.
      g.is (record { names = s.names; types = s.types; exprs = xs }) (record { sized = record { names = h.sized.names; types = h.sized.types; exprs = c }; forms = h.forms });
})

pub node_decl : (bytes ix : List ℕ) (n : Counts) (k : Part) (i at : ℕ) (r : Result ℕ Refusal) → k ≡ Decls
    → Gives (Known ix n) bytes (λ s. decl_entry s.names s.types s.exprs) at r → NodeGives bytes ix n k i at r
node_decl bytes ix n k i at r e g = subst (λ j. NodeGives bytes ix n j i at r) (sym e) (record { is = λ s xs h c. g.is s h })

-- ## what stays known while places are written
base_high : (k : Part) → 2_048 ≤ base_of k
base_high Types = omega arith
base_high Exprs = omega arith
base_high Decls = omega arith

pub known_on : (ix ix' : List ℕ) (n : Counts) (s : Before) → n.names ≤ 1_024 → ((j : ℕ) → j < 2_048 → get_or ix' j 0 ≡ get_or ix j 0) → Known ix n s → Known ix' n s
known_on ix ix' n s m h k = record {
  sized = k.sized;
  forms = record {
    at = λ i x e.
        let b = nth_below s.names i x e in let c = k.sized.names in
        let w = h (1_024 + i) (omega arith) in let f = k.forms.at i x e in record { variable = rw w f.variable; word = rw w f.word };
  };
}

-- ## the loop
-- After i items, at the place p, with the index ix.
pub record Going (bytes ix₀ ix : List ℕ) (n : Counts) (k : Part) (m at p i : ℕ) : Type 0 where
  pub low : (j : ℕ) → j < base_of k → get_or ix j 0 ≡ get_or ix₀ j 0
  pub high : (j : ℕ) → base_of k + m ≤ j → get_or ix j 0 ≡ get_or ix₀ j 0
  pub most : i ≤ m
  pub long : length ix ≡ 11_776
  pub is : (s : Before) → Known ix₀ n s
      → (xs : List (PartOf k)) × (items (part_reader k s) m [] at (from at bytes) ≡ items (part_reader k s) (m - i) xs p (from p bytes))
      × (count xs ≡ i) × (p ≤ length bytes) × Placed bytes ix (base_of k) (part_reader k s) xs at p

pub going_first : (bytes ix : List ℕ) (n : Counts) (k : Part) (m at : ℕ) → at ≤ length bytes → length ix ≡ 11_776 → Going bytes ix ix n k m at at 0
unfolding count
going_first bytes ix n k m at h len = record {
  low = λ j l. refl;
  high = λ j l. refl;
  most = omega arith;
  long = len;
  is = λ s g. ([], ap (λ j. items (part_reader k s) j [] at (from at bytes)) (whole m), refl, h, placed_none bytes ix (base_of k) (part_reader k s) at);
}
  where
    whole : (m : ℕ) → m ≡ m - 0
    whole m = omega arith

limit_low : (k : Part) → base_of k + limit_of k ≤ 11_776
limit_low Types = omega arith
limit_low Exprs = omega arith
limit_low Decls = omega arith

pub in_index : (k : Part) (m i b : ℕ) → m ≤ limit_of k → i < m → b ≡ base_of k → b + i < 11_776
in_index k m i b h l e = let x = limit_low k in omega arith

module _ (bytes ix₀ ix ix' : List ℕ) (n : Counts) (k : Part) (m at p i b : ℕ) (g : Going bytes ix₀ ix n k m at p i) (few : n.names ≤ 1_024) (l : i < m)
    (here : b ≡ base_of k) (put : ix' ≡ set ix (b + i) p) where
  -- The word of item i has been written: what lies elsewhere stands.
  other : (j : ℕ) → (j ≡ b + i → ⊥) → get_or ix' j 0 ≡ get_or ix j 0
  other j h = ap (λ w. get_or w j 0) put ∙ get_or-set_other ix (b + i) j p 0 h

  low_on : (j : ℕ) → j < base_of k → get_or ix' j 0 ≡ get_or ix₀ j 0
  low_on j h = other j (λ e. omega (arith, e, h, here)) ∙ g.low j h

  high_on : (j : ℕ) → base_of k + m ≤ j → get_or ix' j 0 ≡ get_or ix₀ j 0
  high_on j h = other j (λ e. omega (arith, e, h, here, l)) ∙ g.high j h

  known : (s : Before) → Known ix₀ n s → Known ix' n s
  known s h = known_on ix₀ ix' n s few (λ j q. low_on j (let y = base_high k in omega arith)) h

  pub going_next : (q : ℕ) → m ≤ limit_of k → NodeGives bytes ix' n k i p (Ok q) → Going bytes ix₀ ix' n k m at q (i + 1)
  going_next q lim v = record { low = low_on; high = high_on; most = omega arith; long = ap (λ w. length w) put ∙ length-set ix (b + i) p ∙ g.long; is = λ s h. go s h (g.is s h) }
    where
      go : (s : Before) → Known ix₀ n s → (xs : List (PartOf k)) × (items (part_reader k s) m [] at (from at bytes) ≡ items (part_reader k s) (m - i) xs p (from p bytes))
          × (count xs ≡ i) × (p ≤ length bytes) × Placed bytes ix (base_of k) (part_reader k s) xs at p
          → (xs : List (PartOf k)) × (items (part_reader k s) m [] at (from at bytes) ≡ items (part_reader k s) (m - (i + 1)) xs q (from q bytes))
          × (count xs ≡ i + 1) × (q ≤ length bytes) × Placed bytes ix' (base_of k) (part_reader k s) xs at q
      go s h o = let u = v.is s o.0 (known s h) o.2 in (
        o.0 ++ u.value ∷ [],
        o.1 ∙ items_past bytes (part_reader k s) (m - i) o.0 p q (omega arith) u ∙ ap (λ j. items (part_reader k s) j (o.0 ++ u.value ∷ []) q (from q bytes)) (one_less m i),
        count_snoc o.0 u.value ∙ (let c = o.2 in omega arith),
        u.within,
        placed_more bytes ix ix' (base_of k) (part_reader k s) o.0 u.value at p q o.4
            (λ j c. other (base_of k + j) (λ e. omega (arith, e, c, o.2, here)))
            (ap (λ j. get_or ix' j 0) (let c = o.2 in let d : base_of k + count o.0 ≡ b + i = omega (arith, c, here) in d) ∙ ap (λ w. get_or w (b + i) 0) put ∙ get_or-set_same ix (b + i) p 0 (rw g.long (in_index k m i b lim l here)))
            u.is,
      )

  pub going_bad : (e : Refusal) → NodeGives bytes ix' n k i p (Err e) → GivesItems bytes ix₀ ix' n k m at (Err e)
  going_bad e v = record {
    low = low_on;
    high = high_on;
    is = λ s h. let o = g.is s h in
        o.1 ∙ items_more (part_reader k s) (m - i) o.0 p (from p bytes) (omega arith) ∙ stops (part_reader k s o.0 p (from p bytes)) _ _ (v.is s o.0 (known s h) o.2);
  }

pub going_last : (bytes ix₀ ix : List ℕ) (n : Counts) (k : Part) (m at p i : ℕ) → Going bytes ix₀ ix n k m at p i → m ≤ i → GivesItems bytes ix₀ ix n k m at (Ok p)
unfolding items
going_last bytes ix₀ ix n k m at p i g h = record {
  low = g.low;
  high = g.high;
  is = λ s c. let o = g.is s c in
      (o.0, o.1 ∙ ap (λ j. items (part_reader k s) j o.0 p (from p bytes)) (none m i h), (let d = o.2 in let t = g.most in omega arith), o.3, o.4);
}
  where
    none : (m i : ℕ) → m ≤ i → m - i ≡ 0
    none m i h = omega arith

-- ## a section
module _ (bytes ix ix' : List ℕ) (n : Counts) (k : Part) (at m : ℕ) (c : IsCount (limit_of k) bytes at (Ok m)) where
  pub section_read : (p : ℕ) → GivesItems bytes ix ix' n k m (at + 2) (Ok p) → GivesSection bytes ix ix' n k at (Ok (record { count = m; end = p }))
  unfolding section onward
  section_read p g = record {
    low = g.low;
    high = λ j h. g.high j (let l = c.is.1 in omega arith);
    is = λ s h. let o = g.is s h in
        (o.0, ap (λ q. onward q (λ j. items (part_reader k s) j [])) c.is.0 ∙ o.1, o.2, c.is.1, o.3, o.4);
  }

  pub section_stops : (e : Refusal) → GivesItems bytes ix ix' n k m (at + 2) (Err e) → GivesSection bytes ix ix' n k at (Err e)
  unfolding section onward
  section_stops e g = record {
    low = g.low;
    high = λ j h. g.high j (let l = c.is.1 in omega arith);
    is = λ s h.
        ap (λ q. onward q (λ j. items (part_reader k s) j [])) c.is.0 ∙ g.is s h;
  }

pub section_bad : (bytes ix : List ℕ) (n : Counts) (k : Part) (at : ℕ) (e : Refusal) → IsCount (limit_of k) bytes at (Err e) → GivesSection bytes ix ix n k at (Err e)
unfolding section
section_bad bytes ix n k at e c = record { low = λ j h. refl; high = λ j h. refl; is = λ s h. stops (counted (limit_of k) at (from at bytes)) _ _ c.is }
