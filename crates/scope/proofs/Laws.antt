-- What inference does with its environment, over rows: look up, insert, put back, and that it stands while the table does.
use mathlib.Core.Path.{◌≡◌, sym, ◌∙◌}
use mathlib.Core.List.{List}
use mathlib.Core.Option.{none, some}
use mathlib.Core.Logic.{◌≢◌}
use Prim.Native.Nat.{ℕ, ◌+◌, ◌*◌, ◌<◌, ◌≤◌}
use native.Mathlib.Omega.{arith}
use native.Mathlib.Decide.{ℕ_discrete}
use lib.ListN.{length, get_or}
use Rattle.meaning.specs.Ast.{Name, same_name, Scheme}
use Rattle.meaning.specs.Map.{names, get, insert, remove}
use Rattle.theorems.proofs.Maps.{get_insert_same, get_insert_other}
use Rattle.theorems.proofs.Ordered.{sorted_insert, sorted_remove, same_finds}
use Rattle.theorems.proofs.ByteOrder.{names_ordered}
use Rattle.theorems.proofs.Stays.{get_remove_same, get_remove_other}
use Rattle.names.specs.Names.{name_of}
use Rattle.ast.specs.Table.{Table, Kept}
use Rattle.scope.specs.Scope.{entry_of, with_entry, scheme_in, env_of, Order, EntryIn, Scope}
use Rattle.scope.specs.declared.Entry.{Entry}
use Rattle.scope.specs.declared.Entry.TheVariants.{Nothing}
use Rattle.scope.proofs.EntryLaws.{entry_long, entry_here, entry_other}
use Rattle.scope.proofs.Envs.{envs_same, finds_same, in_order, found_at}
use Rattle.scope.proofs.Fines.{entry_kept, scheme_kept}

-- ## By the order alone

module _ {ns od : List ℕ} (O : Order ns od) (w ev : List ℕ) where
  -- A name's row has what is found of it.
  row_get : (r : ℕ) → r < length od → get names (name_of ns r) (env_of ns w ev od) ≡ scheme_in ns w (entry_of ev r)
  row_get r h = let L = O.covers r h in let b = L.below in rw (← L.is) (found_at O w ev L.at 0 (length od) (omega arith) (omega arith) (omega arith))

-- Rows that differ in row r alone, and there in what is said.
module _ {ns od : List ℕ} (O : Order ns od) (w ev ev' : List ℕ) (r : ℕ) (h : r < length od) (others : (j : ℕ) → j ≢ r → entry_of ev' j ≡ entry_of ev j) where
  -- Of other names the same is found.
  other_found : (x : Name) → x ≢ name_of ns r → get names x (env_of ns w ev' od) ≡ get names x (env_of ns w ev od)
  other_found x n = finds_same ns w w ev ev' od x 0 (length od) (λ j p q e. rw (others (get_or od j 0) (λ f. n (rw f at e))))

  -- A scheme was put there.
  row_put : (c : Scheme) → scheme_in ns w (entry_of ev' r) ≡ some c → env_of ns w ev' od ≡ insert names (name_of ns r, c) (env_of ns w ev od)
  row_put c e = same_finds names names_ordered _ _ (in_order O w ev' 0 (length od) (omega arith)) (sorted_insert names names_ordered (name_of ns r, c) (env_of ns w ev od) (in_order O w ev 0 (length od) (omega arith)))
      (λ x. go x (same_name x (name_of ns r)))
    where
      go : (x : Name) → Dec (x ≡ name_of ns r) → get names x (env_of ns w ev' od) ≡ get names x (insert names (name_of ns r, c) (env_of ns w ev od))
      go x (yes f) = rw f (row_get O w ev' r h ∙ e ∙ sym (get_insert_same names (name_of ns r) c (env_of ns w ev od)))
      go x (no n) = other_found x n ∙ sym (get_insert_other names x (name_of ns r, c) (env_of ns w ev od) n)

  -- None is there.
  row_drop : scheme_in ns w (entry_of ev' r) ≡ none → env_of ns w ev' od ≡ remove names (name_of ns r) (env_of ns w ev od)
  row_drop e = same_finds names names_ordered _ _ (in_order O w ev' 0 (length od) (omega arith)) (sorted_remove names (name_of ns r) (env_of ns w ev od) (in_order O w ev 0 (length od) (omega arith)))
      (λ x. go x (same_name x (name_of ns r)))
    where
      go : (x : Name) → Dec (x ≡ name_of ns r) → get names x (env_of ns w ev' od) ≡ get names x (remove names (name_of ns r) (env_of ns w ev od))
      go x (yes f) = rw f (row_get O w ev' r h ∙ e ∙ sym (get_remove_same names (name_of ns r) (env_of ns w ev od)))
      go x (no n) = other_found x n ∙ sym (get_remove_other names (name_of ns r) x (env_of ns w ev od) n)

-- ## Of a scope

module _ {ns w ev od : List ℕ} {top : ℕ} (S : Scope ns w ev od top) where
  -- Each name has its row.
  pub scope_row : (r : ℕ) → r < length od → 4 * r + 4 ≤ length ev
  scope_row r h = let f = S.fits in omega arith

  -- `env.get`: what the row of a name says.
  pub scope_get : (r : ℕ) → r < length od → get names (name_of ns r) (env_of ns w ev od) ≡ scheme_in ns w (entry_of ev r)
  scope_get r h = row_get S.order w ev r h

  module _ (r : ℕ) (h : r < length od) where
    -- `env.insert`: an entry that has a scheme is written, known to be closed or not.
    pub scope_put : (e : Entry) (c : Scheme) → scheme_in ns w e ≡ some c → env_of ns w (with_entry ev r e) od ≡ insert names (name_of ns r, c) (env_of ns w ev od)
    scope_put e c k = row_put S.order w ev (with_entry ev r e) r h (entry_other ev r e) c (rw (entry_here ev r e (scope_row r h)) k)

    -- `env.remove`: the row says nothing.
    pub scope_drop : env_of ns w (with_entry ev r Nothing) od ≡ remove names (name_of ns r) (env_of ns w ev od)
    scope_drop = row_drop S.order w ev (with_entry ev r Nothing) r h (entry_other ev r Nothing) (rw (entry_here ev r Nothing (scope_row r h)))

  -- With an entry of which holds what always holds it is a scope again.
  pub scope_with : (r : ℕ) (e : Entry) → r < length od → EntryIn ns w top e → Scope ns w (with_entry ev r e) od top
  scope_with r e h E = record {
    order = S.order;
    fits = entry_long ev r e ∙ S.fits;
    entries = λ j k. go j k (ℕ_discrete j r);
  }
    where
      go : (j : ℕ) → j < length od → Dec (j ≡ r) → EntryIn ns w top (entry_of (with_entry ev r e) j)
      go j k (yes f) = rw (f, entry_here ev r e (scope_row r h)) E
      go j k (no n) = rw (entry_other ev r e j n) (S.entries j k)

  -- It stands while the table does.
  pub scope_kept : {w' : List ℕ} {top' : ℕ} → Kept w w' top → top ≤ top' → Table w' top' → Scope ns w' ev od top'
  scope_kept K h T = record { order = S.order; fits = S.fits; entries = λ r k. entry_kept ns (entry_of ev r) K T h (S.entries r k) }

  -- And is the same environment.
  pub env_kept : {w' : List ℕ} → Kept w w' top → env_of ns w' ev od ≡ env_of ns w ev od
  env_kept {w'} K = envs_same ns w w' ev ev od 0 (length od) (λ j p q. scheme_kept ns (entry_of ev (get_or od j 0)) K (S.entries (get_or od j 0) (S.order.below j (omega arith))))
