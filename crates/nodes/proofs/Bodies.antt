-- Nodes and declarations of several parts: read part by part, they are what the definition reads.
use mathlib.Core.List.{List}
use Prim.Native.Nat.{ℕ}
use Rattle.meaning.specs.Reader.{from, one_of, pair, list_of}
use Rattle.meaning.specs.File.{variable, word, con_node, let_node, pred_entry, class_entry, instance_entry}
use Rattle.errors.specs.declared.Refusal.{Refusal}
use Rattle.std.specs.Prelude.{Result, Ok, Err}
use Rattle.reader.proofs.Sequence.{goes, stops, paired, three_paired, four_paired}
use Rattle.nodes.specs.Known.{Before, Gives}
use Rattle.nodes.specs.Rows.{class_body, instance_body}
use Rattle.nodes.proofs.Tags.{put_two}

-- The first part refuses.
module _ (P : Before → Type 0) (bytes : List ℕ) (at : ℕ) (e : Refusal) where
  pub let_bad : Gives P bytes (λ s. word s.names) at (Err e) → Gives P bytes (λ s. let_node s.names s.exprs) at (Err e)
  unfolding let_node
  let_bad g = record { is = λ s k. stops (word s.names at (from at bytes)) _ _ (g.is s k) }

  pub class_bad : Gives P bytes (λ s. one_of s.names) at (Err e) → Gives P bytes (λ s. class_entry s.names s.types s.exprs) at (Err e)
  unfolding class_entry
  class_bad g = record { is = λ s k. stops (one_of s.names at (from at bytes)) _ _ (g.is s k) }

module _ (P : Before → Type 0) (bytes : List ℕ) (at : ℕ) (q : Result ℕ Refusal) where
  -- A constructor and its arguments.
  pub con_pair : Gives P bytes (λ s. pair (one_of s.names) (list_of (one_of s.types))) at q → Gives P bytes (λ s. con_node s.names s.types) at q
  unfolding con_node
  con_pair g = put_two P bytes at q _ _ _ g

  -- A let: its name, then two expressions.
  pub let_on : (p : ℕ) → Gives P bytes (λ s. word s.names) at (Ok p) → Gives P bytes (λ s. pair (one_of s.exprs) (one_of s.exprs)) p q
      → Gives P bytes (λ s. let_node s.names s.exprs) at q
  unfolding let_node
  let_on p g h = record {
    is = λ s k. goes bytes (word s.names at (from at bytes)) _ p q (g.is s k) λ x.
        paired bytes (one_of s.exprs) (one_of s.exprs) _ p (from p bytes) q (h.is s k);
  }

  -- An instance: context, head, methods.
  pub instance_parts : Gives P bytes (λ s. pair (list_of (pred_entry s.names s.types)) (instance_body s)) at q
      → Gives P bytes (λ s. instance_entry s.names s.types s.exprs) at q
  unfolding instance_entry
  instance_parts g = record { is = λ s k. three_paired bytes (list_of (pred_entry s.names s.types)) (pred_entry s.names s.types) _ _ at (from at bytes) q (g.is s k) }

  -- A class: its name, then variable, superclasses, signatures and defaults.
  pub class_on : (p : ℕ) → Gives P bytes (λ s. one_of s.names) at (Ok p) → Gives P bytes (λ s. pair (variable s.names) (class_body s)) p q
      → Gives P bytes (λ s. class_entry s.names s.types s.exprs) at q
  unfolding class_entry
  class_on p g h = record {
    is = λ s k. goes bytes (one_of s.names at (from at bytes)) _ p q (g.is s k) λ c.
        four_paired bytes (variable s.names) (list_of (one_of s.names)) (list_of (pair (word s.names) (one_of s.types))) _ _ p (from p bytes) q (h.is s k);
  }
