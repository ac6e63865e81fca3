-- Laws of `sweep` and `compose_in`: one region is applied to the types of the other, and then both become one.
use Prim.Native.Nat.{ℕ, ◌+◌, ◌*◌, ◌-◌, ◌<◌, ◌≤◌}
use native.Mathlib.Omega.{arith}
use mathlib.Core.Path.{◌≡◌, refl, ◌∙◌}
use Rattle.std.specs.Prelude.{Result, Ok, Err}
use mathlib.Core.Logic.{◌⊎◌, inl, inr}
use mathlib.Core.List.{List, [], ◌∷◌, ◌++◌, append_assoc, append-nil}
use lib.ListN.{length, get_or, set, length-set}
use lib.Seq.{get_or-set_same, get_or-set_other}
use Rattle.meaning.specs.Ast.{TyVar, Ty}
use Rattle.meaning.specs.Budget.{Out, done, refused, Steps, after, depth}
use Rattle.meaning.specs.Errors as E
use Rattle.meaning.specs.Subst.{Subst, apply_in, apply_type, apply_values, compose}
use Rattle.names.specs.Names.{first_node, tyvar_of}
use Rattle.ast.specs.Table.{tree, Table, Kept}
use Rattle.ast.proofs.Laws.{kept_refl, kept_then, kept_table, kept_tree}
use Rattle.errors.specs.declared.Refusal.{Refusal}
use Rattle.pairs.specs.Pairs.{sub_at, Below, Sub, Stands}
use Rattle.pairs.proofs.Frames.{stands_then, sub_same}
use Rattle.apply.specs.Region.{Ready, Grown, Gives}
use Rattle.apply.specs.Applied.{Applied}
use Rattle.apply.specs.Applied.{Done, Refused}
use Rattle.compose.specs.Compose.{Both, Merged, Swept, GivesSub}
use Rattle.compose.proofs.Orders.{sorted_merge, merge_is}
use Rattle.compose.proofs.Pieces.{same_or, sub_at_lem, sub_snoc, below_first, below_part, sorted_keys}

-- ## outcomes
-- An outcome is followed by nothing.
and_done : {A : Type 0} (o : Out A) → o ≡ after o (λ a l. done a l)
unfolding after
and_done (done a l) = refl
and_done (refused r l) = refl

-- What follows twice follows once.
and_then : {A B C : Type 0} (o : Out A) (f : A → Steps B) (g : B → Steps C) → after (after o f) g ≡ after o (λ a l. after (f a l) g)
unfolding after
and_then (done a l) f g = refl
and_then (refused r l) f g = refl

-- The next type was done.
step_done : (self : Subst) (y : TyVar) (t u : Ty) (ts xs : Subst) (l l₁ : ℕ) → apply_type self t l ≡ done u l₁
    → after (apply_values self ((y, t) ∷ ts) l) (λ us j. done (xs ++ us) j) ≡ after (apply_values self ts l₁) (λ us j. done ((xs ++ (y, u) ∷ []) ++ us) j)
unfolding apply_values after
step_done self y t u ts xs l l₁ e = rw e (and_then (apply_values self ts l₁) _ _ ∙ simp append_assoc)

-- The next type was refused.
step_fails : (self : Subst) (y : TyVar) (t : Ty) (ts xs : Subst) (l l₁ : ℕ) (r : E.Refusal) → apply_type self t l ≡ refused r l₁
    → after (apply_values self ((y, t) ∷ ts) l) (λ us j. done (xs ++ us) j) ≡ refused r l₁
unfolding apply_values after
step_fails self y t ts xs l l₁ r e = rw e

-- ## sweep
-- The first i types of the other region have been replaced.
pub record Sweeping (ns w₀ : List ℕ) (top₀ left₀ lo k₂ k₁ : ℕ) (w : List ℕ) (top left i : ℕ) : Type 0 where
  pub stands : Stands w₀ w top₀ (lo + 2 * k₂ + 2 * k₁)
  pub mid : (q : ℕ) → 4 * top₀ + 8 * left₀ ≤ q → q < lo → get_or w q 0 ≡ get_or w₀ q 0
  pub both : Both ns w top left lo k₂ k₁
  pub more : top₀ ≤ top
  pub spent : 4 * top + 8 * left ≤ 4 * top₀ + 8 * left₀
  pub down : left ≤ left₀
  pub long : length w ≡ length w₀
  pub upto : i ≤ k₁
  pub same : sub_at ns w lo k₂ ≡ sub_at ns w₀ lo k₂
  pub out : apply_values (sub_at ns w₀ lo k₂) (sub_at ns w₀ (lo + 2 * k₂) k₁) left₀
      ≡ after (apply_values (sub_at ns w₀ lo k₂) (sub_at ns w (lo + 2 * k₂ + 2 * i) (k₁ - i)) left) (λ us l. done (sub_at ns w (lo + 2 * k₂) i ++ us) l)

-- At first none have.
pub sweeping : {ns w : List ℕ} {top left lo k₂ k₁ : ℕ} → Both ns w top left lo k₂ k₁ → Sweeping ns w top left lo k₂ k₁ w top left 0
unfolding sub_at
sweeping {lo = lo} {k₂ = k₂} {k₁ = k₁} B =
    let e : lo + 2 * k₂ + 2 * 0 ≡ lo + 2 * k₂ = omega arith in
    let f : k₁ - 0 ≡ k₁ = omega arith in
    record {
      stands = record { low = kept_refl _ _; high = λ i h. refl };
      mid = λ q a b. refl;
      both = B;
      more = omega arith;
      spent = omega arith;
      down = omega arith;
      long = refl;
      upto = omega arith;
      same = refl;
      out = rw (e, f) (and_done _);
    }

module _ {ns w₀ : List ℕ} {top₀ left₀ lo k₂ k₁ : ℕ} {w : List ℕ} {top left i : ℕ} (S : Sweeping ns w₀ top₀ left₀ lo k₂ k₁ w top left i) where
  module _ (h : i < k₁) where
    -- What `apply` requires.
    pub sweeping_ready : {n : ℕ} → n ≡ get_or w (lo + 2 * k₂ + 2 * i + 1) 0 → Ready ns w top left lo k₂ n
    sweeping_ready e = record {
      names = S.both.names;
      node = record { table = S.both.table; below = rw e (S.both.other.bound.node i h) };
      room = S.both.room;
      sub = S.both.self;
    }

    -- The outcome, by the next type.
    open_out : {n : ℕ} → n ≡ get_or w (lo + 2 * k₂ + 2 * i + 1) 0 → apply_values (sub_at ns w₀ lo k₂) (sub_at ns w₀ (lo + 2 * k₂) k₁) left₀
        ≡ after (apply_values (sub_at ns w lo k₂) ((tyvar_of ns (get_or w (lo + 2 * k₂ + 2 * i) 0), tree ns w n) ∷ sub_at ns w (lo + 2 * k₂ + 2 * (i + 1)) (k₁ - (i + 1))) left)
        (λ us l. done (sub_at ns w (lo + 2 * k₂) i ++ us) l)
    open_out e = rw (e, ← sub_at_lem ns w (lo + 2 * k₂) k₁ i h, S.same) S.out

    module _ {n : ℕ} {r : Applied} {w₁ : List ℕ} (e : n ≡ get_or w (lo + 2 * k₂ + 2 * i + 1) 0)
        (G : Gives (tree ns w₁) (4 * top + 8 * left - 4) ns w w₁ top left (apply_in depth (sub_at ns w lo k₂) (tree ns w n) left) r) where
      -- All words from the regions on stand.
      from_lo : (q : ℕ) → lo ≤ q → get_or w₁ q 0 ≡ get_or w q 0
      from_lo q a = let z = S.both.room in G.stands.high q (omega arith)

      -- And those before the regions that no step may use.
      between : (q : ℕ) → 4 * top₀ + 8 * left₀ ≤ q → q < lo → get_or w₁ q 0 ≡ get_or w₀ q 0
      between q a b = let z = S.spent in G.stands.high q (omega arith) ∙ S.mid q a b

      -- A refusal ends the sweep.
      pub sweeping_fails : {u : Refusal} {t l : ℕ} → r ≡ Refused u t l → Swept ns w₀ w₁ top₀ left₀ lo k₂ k₁ (apply_values (sub_at ns w₀ lo k₂) (sub_at ns w₀ (lo + 2 * k₂) k₁) left₀) (Err u) t l
      sweeping_fails k =
          let Z = rw k at G.answer in
          let zm = Z.more in
          let zd = Z.down in
          let sm = S.more in
          let sd = S.down in
          record {
            stands = stands_then S.stands (record { low = G.stands.low; high = λ q a. from_lo q (omega arith) }) sm;
            mid = between;
            answer = record { is = open_out e ∙ step_fails _ _ _ _ (sub_at ns w (lo + 2 * k₂) i) _ _ _ Z.is; types = Z.types; more = omega arith; down = omega arith };
          }

      module _ {m t l : ℕ} (k : r ≡ Done m t l) (len : length w₁ ≡ length w) where
        -- Where the type stands.
        abbrev p : ℕ
        p = lo + 2 * k₂ + 2 * i + 1

        -- The words with the new type.
        abbrev w₂ : List ℕ
        w₂ = set w₁ p m

        -- What was done.
        g : (apply_in depth (sub_at ns w lo k₂) (tree ns w n) left ≡ done (tree ns w₁ m) l) × Grown (4 * top + 8 * left - 4) w₁ top left t l m
        g = rw k at G.answer

        -- The other words of the regions.
        others : (q : ℕ) → lo ≤ q → (q ≡ p → ⊥) → get_or w₂ q 0 ≡ get_or w q 0
        others q a b = get_or-set_other w₁ p q m 0 (λ x. b (omega arith)) ∙ from_lo q a

        -- The new type's word.
        here : get_or w₂ p 0 ≡ m
        here = let z = S.both.other.fits in get_or-set_same w₁ p m 0 (omega arith)

        -- The table lies below the regions.
        lows : 4 * t ≤ lo
        lows = let z = g.1.spent in let r = S.both.room in let y = g.1.more in omega arith

        -- The new table stands.
        kept₁ : Kept w₁ w₂ t
        kept₁ = record { at = λ q a. get_or-set_other w₁ p q m 0 (let z = lows in omega arith) }

        -- And so does the old one.
        kept : Kept w w₂ top
        kept = kept_then G.stands.low kept₁ g.1.more

        -- The words are as many.
        long₂ : length w₂ ≡ length w
        long₂ = simp length-set len

        -- The new table.
        table₂ : Table w₂ t
        table₂ = let z = g.1.node.table.room in let y = long₂ in kept_table kept₁ (omega arith) g.1.node.table

        -- The first region.
        self₂ : Sub w₂ t lo k₂
        self₂ =
            let z = S.both.self.fits in
            let y = long₂ in
            record {
              fits = omega arith;
              bound = record { node = λ q a. rw (others (lo + 2 * q + 1) (omega arith) (λ x. omega arith)) (let z = S.both.self.bound.node q a in let y = g.1.more in omega arith) };
            }

        -- The bounds of the other.
        bound₂ : (q : ℕ) → q < k₁ → (q ≡ i) ⊎ (q ≡ i → ⊥) → get_or w₂ (lo + 2 * k₂ + 2 * q + 1) 0 < first_node + t
        bound₂ q a (inl x) = rw (x, here) g.1.node.below
        bound₂ q a (inr x) = rw (others (lo + 2 * k₂ + 2 * q + 1) (omega arith) (λ y. x (omega arith))) (let z = S.both.other.bound.node q a in let y = g.1.more in omega arith)

        -- The other region.
        other₂ : Sub w₂ t (lo + 2 * k₂) k₁
        other₂ = let z = S.both.other.fits in let y = long₂ in record { fits = omega arith; bound = record { node = λ q a. bound₂ q a (same_or q i) } }

        -- Pairs among which the new type is not.
        part : (at j : ℕ) → Below w top at j → lo ≤ at → ((q : ℕ) → at ≤ q → q < at + 2 * j → q ≡ p → ⊥) → sub_at ns w₂ at j ≡ sub_at ns w at j
        part at j b a d = sub_same ns S.both.table kept at j b (λ q x y. others q (omega arith) (d q x y))

        -- The first region says the same.
        self_same : sub_at ns w₂ lo k₂ ≡ sub_at ns w lo k₂
        self_same = part lo k₂ S.both.self.bound (omega arith) (λ q x y d. omega arith)

        -- Both regions.
        both₂ : Both ns w₂ t l lo k₂ k₁
        both₂ =
            let gs = g.1.spent in
            let gm = g.1.more in
            let sr = S.both.room in
            record {
              names = S.both.names;
              table = table₂;
              room = omega arith;
              self = self₂;
              other = other₂;
              self_sorted = rw self_same S.both.self_sorted;
              other_sorted = sorted_keys ns w w₂ (lo + 2 * k₂) k₁ (λ q a. others (lo + 2 * k₂ + 2 * q) (omega arith) (λ d. omega arith)) S.both.other_sorted;
            }

        -- One type more.
        sweeping_on₂ : Sweeping ns w₀ top₀ left₀ lo k₂ k₁ w₂ t l (i + 1)
        sweeping_on₂ =
            let gs = g.1.spent in
            let gm = g.1.more in
            let gd = g.1.down in
            let sm = S.more in
            let sd = S.down in
            let ss = S.spent in
            let sl = S.long in
            let sr = S.both.room in
            let z = long₂ in
            let e₁ = part (lo + 2 * k₂ + 2 * (i + 1)) (k₁ - (i + 1)) (below_part (i + 1) (k₁ - (i + 1)) S.both.other.bound (omega arith)) (omega arith) (λ q x y d. omega arith) in
            let e₂ = part (lo + 2 * k₂) i (below_first i S.both.other.bound (omega arith)) (omega arith) (λ q x y d. omega arith) in
            record {
              stands = stands_then S.stands (record { low = kept; high = λ q a. others q (omega arith) (λ d. omega arith) }) sm;
              mid = λ q a b. get_or-set_other w₁ p q m 0 (omega arith) ∙ between q a b;
              both = both₂;
              more = omega arith;
              spent = omega arith;
              down = omega arith;
              long = omega arith;
              upto = omega arith;
              same = self_same ∙ S.same;
              out = open_out e ∙ step_done _ _ _ _ _ (sub_at ns w (lo + 2 * k₂) i) _ _ g.0
                  ∙ rw (S.same, e₁, sub_snoc ns w₂ (lo + 2 * k₂) i, e₂, others (lo + 2 * k₂ + 2 * i) (omega arith) (λ d. omega arith), here, kept_tree ns kept₁ g.1.node);
            }

        -- The same of the words that `put` leaves.
        pub sweeping_on : {w' : List ℕ} → w' ≡ set w₁ (lo + 2 * k₂ + 2 * i + 1) m → Sweeping ns w₀ top₀ left₀ lo k₂ k₁ w' t l (i + 1)
        sweeping_on f = rw f sweeping_on₂

  -- All have.
  pub swept : k₁ ≤ i → Swept ns w₀ w top₀ left₀ lo k₂ k₁ (apply_values (sub_at ns w₀ lo k₂) (sub_at ns w₀ (lo + 2 * k₂) k₁) left₀) (Ok tt) top left
  unfolding apply_values sub_at after
  swept h =
      let u = S.upto in
      let a : k₁ - i ≡ 0 = omega arith in
      let b : i ≡ k₁ = omega arith in
      record {
        stands = S.stands;
        mid = S.mid;
        answer = record { more = S.more; spent = S.spent; down = S.down; both = S.both; same = S.same; is = S.out ∙ rw (a, b, append-nil) };
      }

-- ## compose_in
module _ {ns w w₁ : List ℕ} {top left lo k₂ k₁ t l : ℕ} {r : Result (Unit {0}) Refusal}
    (S : Swept ns w w₁ top left lo k₂ k₁ (apply_values (sub_at ns w lo k₂) (sub_at ns w (lo + 2 * k₂) k₁) left) r t l) where
  -- A refusal of the sweep is handed on.
  pub composed_fails : {u : Refusal} → r ≡ Err u → GivesSub (4 * top + 8 * left + 2 * k₂ + 2 * k₁) ns w w₁ top left (lo + 2 * k₂ + 2 * k₁)
      (compose (sub_at ns w lo k₂) (sub_at ns w (lo + 2 * k₂) k₁) left) (Refused u t l)
  unfolding compose after
  composed_fails k =
      let Z = rw k at S.answer in
      record { stands = S.stands; mid = λ q a b. S.mid q a (omega arith); answer = record { is = rw Z.is; types = Z.types; more = Z.more; down = Z.down } }

  -- Both regions became one.
  pub composed : {w₂ : List ℕ} {c : ℕ} {v : Unit {0}} → r ≡ Ok v → Merged ns w₁ w₂ lo k₂ k₁ c → GivesSub (4 * top + 8 * left + 2 * k₂ + 2 * k₁) ns w w₂ top left (lo + 2 * k₂ + 2 * k₁)
      (compose (sub_at ns w lo k₂) (sub_at ns w (lo + 2 * k₂) k₁) left) (Done c t l)
  unfolding compose after
  composed {w₂} {c} k M =
      let A = rw k at S.answer in
      let R = M.is t l A.both in
      let room = A.both.room in
      let most = M.most in
      let spent = A.spent in
      record {
        stands = stands_then S.stands (record { low = record { at = λ q a. M.before q (omega arith) }; high = M.after }) A.more;
        mid = λ q a b. M.before q (omega arith) ∙ S.mid q a (omega arith);
        answer = (
          rw (A.is, R.1, merge_is (sub_at ns w₁ lo k₂) (sub_at ns w₁ (lo + 2 * k₂) k₁) A.both.self_sorted A.both.other_sorted, A.same),
          record {
            table = R.0.table;
            sub = R.0.sub;
            sorted = rw R.1 (sorted_merge (sub_at ns w₁ lo k₂) (sub_at ns w₁ (lo + 2 * k₂) k₁) A.both.other_sorted);
            more = A.more;
            spent = omega arith;
            own = spent;
            few = omega arith;
            down = A.down;
          },
        );
      }
