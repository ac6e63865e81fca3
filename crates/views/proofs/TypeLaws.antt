-- Types: what the code reads at a place is what the definition reads there.
use mathlib.Core.Path.{◌≡◌, refl, ap, ◌∙◌, subst}
use mathlib.Core.List.{List}
use Prim.Native.Nat.{ℕ, zero, suc, ◌+◌, ◌<◌, ◌≤◌}
use native.Mathlib.Omega.{arith}
use native.Mathlib.Decide.{dec_lt}
use lib.ListN.{length, get_or}
use Rattle.meaning.specs.Base.{count, nth}
use Rattle.meaning.specs.File.{var_node, con_node, arrow_node, type_node}
use Rattle.theorems.proofs.Grown.{nth_below}
use Rattle.std.specs.Prelude.{Option as Option-of, Some, None}
use Rattle.reader.specs.Verdicts.{IsField}
use Rattle.reader.proofs.Fields.{numeral_is, numeral_cut}
use Rattle.reader.proofs.Counts.{count_cut, count_over, count_is as counts-so}
use Rattle.reader.specs.Placing.{upto}
use Rattle.views.specs.declared.TypeNode.{TypeNode}
use Rattle.views.specs.declared.TypeNode.TheVariants.{Var, Con, Arrow}
use Rattle.views.specs.Numbers.{number_at, CountRead, NamedAll}
use Rattle.views.specs.TypeViews.{tagged_node, type_node_in, type_node_at, TypeRead, IsType}
use Rattle.views.proofs.Onward.{read_is, by_number, went, one_of_moves, variable_moves, tag_chose, tag_below, tag_there}
use Rattle.views.proofs.Listings.{count_is, count_none, numbers_went}

-- Any other tag is no node.
other : (bytes : List ℕ) (at tag : ℕ) → 3 ≤ tag → None ≡ tagged_node bytes at tag
other bytes at zero h = absurd (omega arith)
other bytes at (suc zero) h = absurd (omega arith)
other bytes at (suc (suc zero)) h = absurd (omega arith)
other bytes at (suc (suc (suc tag))) h = refl

module _ (bytes : List ℕ) (at tag : ℕ) (f : IsField 1 bytes at (Some tag)) where
  pub type_var : (x : ℕ) → tag ≡ 0 → x ≡ number_at bytes (at + 1) → TypeRead bytes at (Some (Var x))
  unfolding type_node var_node nth type_node_in
  type_var x z d = record {
    exact = rw f.is.0 (rw z (ap (λ n. Some (Var n)) d));
    small = tt;
    is = λ ns ts t next rest e.
        let c = tag_chose bytes _ at t next rest e (var_node ns) tag f (rw z refl) in
        let w = went (variable_moves ns bytes) _ (at + 1) (at + 1 + 2) t next rest refl c in
        record { name = w.value; named_so = by_number d w.such; is = read_is _ t _ next _ rest w.then };
  }

  pub type_con : (c p k : ℕ) → tag ≡ 1 → c ≡ number_at bytes (at + 1) → p ≡ at + 5 → CountRead bytes (at + 3) k → TypeRead bytes at (Some (Con c p k))
  unfolding type_node con_node nth type_node_in
  type_con c p k z d h r = record {
    exact = rw f.is.0 (rw z (rw (d, h, r.exact) refl));
    small = (let l = f.is.1 in omega arith, r.few);
    is = λ ns ts t next rest e.
        let i = tag_chose bytes _ at t next rest e (con_node ns ts) tag f (rw z refl) in
        let w = went (one_of_moves ns bytes) _ (at + 1) (at + 3) t next rest (omega arith) i in
        let l = numbers_went bytes ts _ (at + 3) _ k t next rest r refl w.then in
        record {
          name = w.value;
          arguments = l.value;
          named_so = by_number d w.such;
          each = subst (λ q. NamedAll bytes ts q k l.value) (let y : at + 3 + 2 ≡ p = omega (arith, h) in y) l.such;
          is = read_is _ t _ next _ rest l.then;
        };
  }

  pub type_arrow : (a b : ℕ) → tag ≡ 2 → a ≡ number_at bytes (at + 1) → b ≡ number_at bytes (at + 3) → TypeRead bytes at (Some (Arrow a b))
  unfolding type_node arrow_node nth type_node_in
  type_arrow a b z d h = record {
    exact = rw f.is.0 (rw z (rw (d, h) refl));
    small = tt;
    is = λ ns ts t next rest e.
        let i = tag_chose bytes _ at t next rest e (arrow_node ts) tag f (rw z refl) in
        let w = went (one_of_moves ts bytes) _ (at + 1) (at + 3) t next rest (omega arith) i in
        let l = went (one_of_moves ts bytes) _ (at + 3) (at + 3 + 2) t next rest refl w.then in
        record {
          left = w.value;
          right = l.value;
          left_so = by_number d w.such;
          right_so = by_number h l.such;
          is = read_is _ t _ next _ rest l.then;
        };
  }

  -- The definition knows no other tag.
  pub type_unknown : 3 ≤ tag → TypeRead bytes at None
  unfolding type_node count type_node_in
  type_unknown z = record { exact = rw f.is.0 (other bytes at tag z); small = tt; is = λ ns ts t next rest e. let b = tag_below bytes _ at t next rest e tag f in omega (arith, b, z) }

pub type_cut : (bytes : List ℕ) (at : ℕ) → IsField 1 bytes at None → TypeRead bytes at None
unfolding type_node type_node_in
type_cut bytes at f = record { exact = rw f.is refl; small = tt; is = λ ns ts t next rest e. tag_there bytes _ at t next rest e f }

-- The index has the place of type i.
pub type_placed : (bytes ix : List ℕ) (i p : ℕ) (r : Option-of TypeNode) → p ≡ get_or ix (2_048 + i) 0 → TypeRead bytes p r → IsType bytes ix i r
unfolding type_node_at
type_placed bytes ix i p r e g = record { exact = g.exact ∙ ap (type_node_in bytes) e; small = g.small; is = λ ns ts at end t h n. (subst (λ q. TypeRead bytes q r) (e ∙ h.word i (nth_below ts i t n)) g).is ns (upto i ts) t _ _ (h.item i t n) }

-- ## without the code
-- Some count stands at each place.
some_count : (bytes : List ℕ) (at : ℕ) → (r : ℕ) × CountRead bytes at r
some_count bytes at = go (dec_lt (length bytes) (at + 2))
  where
    field : (n : ℕ) → IsField 2 bytes at (Some n) → Dec (64 < n) → (r : ℕ) × CountRead bytes at r
    field n f (yes h) = (0, count_none bytes at _ (count_over 64 bytes at n f h))
    field n f (no h) = (n, count_is bytes at n (counts-so 64 bytes at n f (omega arith)))

    go : Dec (length bytes < at + 2) → (r : ℕ) × CountRead bytes at r
    go (yes h) = (0, count_none bytes at _ (count_cut 64 bytes at (numeral_cut 1 bytes at h)))
    go (no h) = field _ (numeral_is 2 bytes at _ (omega arith) refl) (dec_lt 64 _)

-- Some node stands at each place.
some_node : (bytes : List ℕ) (at : ℕ) → (r : Option-of TypeNode) × TypeRead bytes at r
some_node bytes at = go (dec_lt (length bytes) (at + 1))
  where
    tags : (tag : ℕ) → IsField 1 bytes at (Some tag) → (r : Option-of TypeNode) × TypeRead bytes at r
    tags zero f = (_, type_var bytes at zero f _ refl refl)
    tags (suc zero) f = let k = some_count bytes (at + 3) in (_, type_con bytes at (suc zero) f _ _ k.0 refl refl refl k.1)
    tags (suc (suc zero)) f = (_, type_arrow bytes at (suc (suc zero)) f _ _ refl refl refl)
    tags (suc (suc (suc tag))) f = (_, type_unknown bytes at (suc (suc (suc tag))) f (omega arith))

    go : Dec (length bytes < at + 1) → (r : Option-of TypeNode) × TypeRead bytes at r
    go (yes h) = (_, type_cut bytes at (numeral_cut 0 bytes at h))
    go (no h) = tags _ (numeral_is 1 bytes at _ (omega arith) refl)

-- The node of type i by its definition is what `views` would show.
pub type_there : (bytes ix : List ℕ) (i : ℕ) → IsType bytes ix i (type_node_at bytes ix i)
type_there bytes ix i =
    let s = some_node bytes (get_or ix (2_048 + i) 0) in
    let t = type_placed bytes ix i _ s.0 refl s.1 in
    subst (IsType bytes ix i) t.exact t
