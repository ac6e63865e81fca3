-- One section after another: each hands its refusal on, or what it has read and where.
use mathlib.Core.Path.{◌≡◌, refl, sym, ap, ◌∙◌, subst}
use mathlib.Core.List.{List, []}
use Prim.Native.Nat.{ℕ, ◌+◌, ◌<◌, ◌≤◌}
use native.Mathlib.Omega.{arith}
use lib.ListN.{length, get_or}
use Rattle.meaning.specs.Base.{count}
use Rattle.meaning.specs.Errors.{format}
use Rattle.meaning.specs.Reader.{Read, got, bad, Reader, onward, from, section, end_of_file}
use Rattle.meaning.specs.File.{type_node, expr_node, decl_entry}
use Rattle.errors.specs.declared.Refusal.{Refusal}
use Rattle.errors.specs.declared.Refusal.TheVariants.{Format}
use Rattle.reader.proofs.Fields.{get_d_from, past_end}
use Rattle.reader.proofs.Sequence.{stops}
use Rattle.nodes.specs.declared.Counts.{Counts}
use Rattle.nodes.specs.Known.{Before, Known}
use Rattle.sections.specs.declared.Part.TheVariants.{Types as Part-Types, Exprs as Part-Exprs, Decls as Part-Decls}
use Rattle.std.specs.Prelude.{Result, Ok, Err}
use Rattle.reader.specs.Placing.{Placed}
use Rattle.sections.specs.Parts.{GivesSection}
use Rattle.sections.proofs.Places.{placed_kept}
use Rattle.sections.proofs.Going.{known_on}
use Rattle.body.specs.Tails.{with_types, with_exprs, after_exprs, after_types, after_names, DeclsAs, ExprsAs, TypesAs, GivesTail}

-- A reader goes on after what was read.
pub goes_on : {A B : Type 0} (o : Read A) (f : A → Reader B) (a : A) (p : ℕ) (bs : List ℕ) → o ≡ got a p bs → onward o f ≡ f a p bs
unfolding onward
goes_on o f a p bs e = ap (λ q. onward q f) e

-- ## the end of the file
file_ends : (bytes : List ℕ) (p : ℕ) → p ≡ length bytes → from p bytes ≡ []
file_ends bytes p e = past_end p bytes (omega arith)

byte_more : (bytes : List ℕ) (p : ℕ) → p < length bytes → end_of_file p (from p bytes) ≡ bad (format p)
unfolding end_of_file
byte_more bytes p h = rw (get_d_from p bytes h) refl

module _ (bytes ix ix' : List ℕ) (n : Counts) (at : ℕ) where
  -- ## declarations
  pub decls_bad : (e : Refusal) → GivesSection bytes ix ix' n Part-Decls at (Err e) → GivesTail DeclsAs 10_240 bytes ix ix' n at (Err e)
  unfolding after_exprs
  decls_bad e g = record { low = g.low; high = λ j l. g.high j (omega arith); is = λ s k. stops _ _ _ (g.is s k) }

  pub decls_more : (d p : ℕ) → GivesSection bytes ix ix' n Part-Decls at (Ok (record { count = d; end = p })) → (p ≡ length bytes → ⊥) → GivesTail DeclsAs 10_240 bytes ix ix' n at (Err (Format p))
  unfolding after_exprs
  decls_more d p g h = record {
    low = g.low;
    high = λ j l. g.high j (omega arith);
    is = λ s k. let o = g.is s k in
        goes_on _ _ o.0 p _ o.1 ∙ stops (end_of_file p (from p bytes)) _ _ (byte_more bytes p (let w = o.4 in omega (arith, w, h)));
  }

  pub decls_good : (d p : ℕ) → GivesSection bytes ix ix' n Part-Decls at (Ok (record { count = d; end = p })) → p ≡ length bytes
      → GivesTail DeclsAs 10_240 bytes ix ix' n at (Ok (record { names = n.names; types = n.types; exprs = n.exprs; decls = d }))
  decls_good d p g h = record {
    low = g.low;
    high = λ j l. g.high j (omega arith);
    is = λ s k. let o = g.is s k in
        (refl, refl, refl, record { decls = o.0; read = o.1 ∙ ap (λ bs. got o.0 p bs) (file_ends bytes p h) ∙ ap (λ q. got o.0 q []) h; many = o.2; placed = subst (λ q. Placed bytes ix' 10_240 (λ earlier. decl_entry s.names s.types s.exprs) o.0 (at + 2) q) h o.5 });
  }

  -- ## expressions
  pub exprs_bad : (e : Refusal) → GivesSection bytes ix ix' n Part-Exprs at (Err e) → GivesTail ExprsAs 6_144 bytes ix ix' n at (Err e)
  unfolding after_types
  exprs_bad e g = record { low = g.low; high = λ j l. g.high j (omega arith); is = λ s k. stops _ _ _ (g.is s k) }

  -- ## types
  pub types_bad : (e : Refusal) → GivesSection bytes ix ix' n Part-Types at (Err e) → GivesTail TypesAs 2_048 bytes ix ix' n at (Err e)
  unfolding after_names
  types_bad e g = record { low = g.low; high = λ j l. g.high j (omega arith); is = λ s k. stops _ _ _ (g.is s k) }

-- What stays known once expressions or types were read.
exprs_known : (ix ix₁ : List ℕ) (n : Counts) (s : Before) (c : ℕ) (es : List _) → n.names ≤ 1_024 → ((j : ℕ) → j < 6_144 → get_or ix₁ j 0 ≡ get_or ix j 0) → count es ≡ c → Known ix n s
    → Known ix₁ (record { names = n.names; types = n.types; exprs = c; decls = n.decls }) (with_exprs s es)
exprs_known ix ix₁ n s c es few low m k = let x = known_on ix ix₁ n s few (λ j h. low j (omega arith)) k in
    record { sized = record { names = x.sized.names; types = x.sized.types; exprs = m }; forms = x.forms }

types_known : (ix ix₁ : List ℕ) (n : Counts) (s : Before) (b : ℕ) (ts : List _) → n.names ≤ 1_024 → ((j : ℕ) → j < 2_048 → get_or ix₁ j 0 ≡ get_or ix j 0) → count ts ≡ b → Known ix n s
    → Known ix₁ (record { names = n.names; types = b; exprs = n.exprs; decls = n.decls }) (with_types s ts)
types_known ix ix₁ n s b ts few low m k = let x = known_on ix ix₁ n s few (λ j h. low j (omega arith)) k in
    record { sized = record { names = x.sized.names; types = m; exprs = x.sized.exprs }; forms = x.forms }

module _ (bytes ix ix₁ ix' : List ℕ) (n : Counts) (at : ℕ) (few : n.names ≤ 1_024) where
  -- Expressions, and then declarations.
  pub exprs_on : (c p : ℕ) (r : Result Counts Refusal) → GivesSection bytes ix ix₁ n Part-Exprs at (Ok (record { count = c; end = p }))
      → GivesTail DeclsAs 10_240 bytes ix₁ ix' (record { names = n.names; types = n.types; exprs = c; decls = n.decls }) p r → GivesTail ExprsAs 6_144 bytes ix ix' n at r
  unfolding after_types
  exprs_on c p r g h = record { low = λ j l. h.low j (omega arith) ∙ g.low j l; high = λ j l. h.high j l ∙ g.high j (omega arith); is = λ s k. go s (g.is s k) r (λ es m. h.is (with_exprs s es) (exprs_known ix ix₁ n s c es few g.low m k)) }
    where
      go : (s : Before) → (es : List _) × (section 4_096 (expr_node s.names) at (from at bytes) ≡ got es p (from p bytes)) × (count es ≡ c) × (c ≤ 4_096) × (p ≤ length bytes) × Placed bytes ix₁ 6_144 (expr_node s.names) es (at + 2) p
          → (r : Result Counts Refusal) → ((es : List _) → count es ≡ c → DeclsAs bytes ix' (record { names = n.names; types = n.types; exprs = c; decls = n.decls }) (with_exprs s es) p r) → ExprsAs bytes ix' n s at r
      go s o (Ok m) f = let x = f o.0 o.2 in (
        x.0,
        x.1,
        record {
          exprs = o.0;
          end = p;
          read = o.1;
          many = o.2 ∙ sym x.2;
          placed = placed_kept bytes ix₁ ix' 6_144 _ o.0 (at + 2) p (λ j l. h.low (6_144 + j) (let u = o.2 in let v = o.3 in omega arith)) o.5;
          rest = x.3;
        },
      )
      go s o (Err e) f = goes_on _ _ o.0 p _ o.1 ∙ f o.0 o.2

  -- Types, and then expressions.
  pub types_on : (b p : ℕ) (r : Result Counts Refusal) → GivesSection bytes ix ix₁ n Part-Types at (Ok (record { count = b; end = p }))
      → GivesTail ExprsAs 6_144 bytes ix₁ ix' (record { names = n.names; types = b; exprs = n.exprs; decls = n.decls }) p r → GivesTail TypesAs 2_048 bytes ix ix' n at r
  unfolding after_names
  types_on b p r g h = record { low = λ j l. h.low j (omega arith) ∙ g.low j l; high = λ j l. h.high j l ∙ g.high j (omega arith); is = λ s k. go s (g.is s k) r (λ ts m. h.is (with_types s ts) (types_known ix ix₁ n s b ts few g.low m k)) }
    where
      go : (s : Before) → (ts : List _) × (section 4_096 (type_node s.names) at (from at bytes) ≡ got ts p (from p bytes)) × (count ts ≡ b) × (b ≤ 4_096) × (p ≤ length bytes) × Placed bytes ix₁ 2_048 (type_node s.names) ts (at + 2) p
          → (r : Result Counts Refusal) → ((ts : List _) → count ts ≡ b → ExprsAs bytes ix' (record { names = n.names; types = b; exprs = n.exprs; decls = n.decls }) (with_types s ts) p r) → TypesAs bytes ix' n s at r
      go s o (Ok m) f = let x = f o.0 o.2 in (
        x.0,
        record {
          types = o.0;
          end = p;
          read = o.1;
          many = o.2 ∙ sym x.1;
          placed = placed_kept bytes ix₁ ix' 2_048 _ o.0 (at + 2) p (λ j l. h.low (2_048 + j) (let u = o.2 in let v = o.3 in omega arith)) o.5;
          rest = x.2;
        },
      )
      go s o (Err e) f = goes_on _ _ o.0 p _ o.1 ∙ f o.0 o.2
