-- What `reduce` leaves of pending predicates when nothing is at hand: the variable-typed ones, in order, each once; and
-- the binders of those are the first of their predicate.
use mathlib.Core.Path.{◌≡◌, refl, ap, sym, ◌∙◌, subst}
use mathlib.Core.Bool.{Bool, true, false, not, ◌&&◌, true≢false, false≢true}
use mathlib.Core.List.Memᴰ
use mathlib.Core.List.{List, [], ◌∷◌, ◌++◌, append-nil, append_assoc, Memᴰ}
use mathlib.Core.Option.{Option, none, some}
use mathlib.Core.Logic.{◌≢◌}
use Prim.Native.Nat.{ℕ}
use Rattle.meaning.specs.Base.{is_yes, if, first}
use Rattle.meaning.specs.Ast.{Pred, same_pred, Core, Binder}
use Rattle.meaning.specs.Budget.{Out, done, refused, Steps}
use Rattle.meaning.specs.Classes.{ClassEnv, from_givens, resolve_from_givens, resolve}
use Rattle.meaning.specs.Reduce.{Discharged, is_head_normal, contains, discharge, reduce_one, reduce_from, reduce}
use Rattle.meaning.specs.Generalize.{Pending, preds_of, with_first, binders_of}
use Rattle.theorems.proofs.Says.{Says, Any, and_then, if_says, weaken}
use Rattle.theorems.proofs.Tests.{is_yes_of, is_no_of}
use Rattle.theorems.proofs.Members.{contains_true, contains_false, snoc_cases}

-- The computation has given that answer, with some number of steps.
pub record Gave {A : Type 0} (m : Steps A) (a : A) : Type 0 where
  pub steps : ℕ
  pub left : ℕ
  pub is : m steps ≡ done a left

-- Each computation has given what it gives.
pub gives_it : {A : Type 0} (m : Steps A) (n : ℕ) → Says (Gave m) Any (m n)
gives_it m n = go (m n) refl
  where
    go : (o : Out _) → m n ≡ o → Says (Gave m) Any o
    go (done a k) e = record { steps = n; left = k; is = e }
    go (refused r k) e = tt

-- ## what is left
-- The predicate is variable-typed, and not yet in the list.
abbrev pub is_new : List Pred → Pred → Bool
is_new rs p = is_head_normal p.ty && not (contains rs p)

-- What some predicates add to those that are left.
unfoldable pub left_of : List Pred → List Pred → List Pred
left_of rs [] = []
left_of rs (p ∷ ps) = if (is_new rs p) (p ∷ left_of (rs ++ (p ∷ [])) ps) (left_of rs ps)

-- The dictionaries of those that are not variable-typed, in order.
pub data Answers (ce : ClassEnv) : List Pred → List Discharged → Type 0 where
  no_more : Answers ce [] []
  stays : {p : Pred} {ps : List Pred} {ds : List Discharged} → is_head_normal p.ty ≡ true → Answers ce ps ds → Answers ce (p ∷ ps) ds
  resolves : {p : Pred} {ps : List Pred} {ds : List Discharged} {e : Core} → is_head_normal p.ty ≡ false → Gave (resolve ce [] p) e → Answers ce ps ds → Answers ce (p ∷ ps) ((p, e) ∷ ds)

-- The loop's accumulator, and what the rest adds to it.
pub record Adds (ce : ClassEnv) (ps : List Pred) (o out : List Discharged × List Pred) : Type 0 where
  pub more : List Discharged
  pub discharged_are : out.0 ≡ o.0 ++ more
  pub answers : Answers ce ps more
  pub residual_is : out.1 ≡ o.1 ++ left_of o.1 ps

-- What one turn tells.
abbrev Turn : ClassEnv → Pred → Option Core → Type 0
Turn ce p none = is_head_normal p.ty ≡ true
Turn ce p (some e) = (is_head_normal p.ty ≡ false) × Gave (resolve ce [] p) e

turn_says : (ce : ClassEnv) (p : Pred) (n : ℕ) → Says (Turn ce p) Any (reduce_one ce [] p n)
unfolding reduce_one from_givens
turn_says ce p n = if_says _ _ (is_head_normal p.ty) (resolve_from_givens ce [] p) _ n (λ h. h)
    (λ h. and_then _ _ _ (resolve ce [] p n) _ (gives_it (resolve ce [] p) n) λ e g m. (h, g))

-- Predicates that are left, after one more.
stays_left : (rs : List Pred) (p : Pred) (ps : List Pred) → is_head_normal p.ty ≡ true
    → (if (contains rs p) rs (rs ++ (p ∷ []))) ++ left_of (if (contains rs p) rs (rs ++ (p ∷ []))) ps ≡ rs ++ left_of rs (p ∷ ps)
unfolding left_of
stays_left rs p ps h = rw h (go (contains rs p))
  where
    go : (b : Bool) → (if b rs (rs ++ (p ∷ []))) ++ left_of (if b rs (rs ++ (p ∷ []))) ps ≡ rs ++ if (not b) (p ∷ left_of (rs ++ (p ∷ [])) ps) (left_of rs ps)
    go true = refl
    go false = append_assoc rs (p ∷ []) (left_of (rs ++ (p ∷ [])) ps)

-- One that resolves leaves nothing.
goes_away : (rs : List Pred) (p : Pred) (ps : List Pred) → is_head_normal p.ty ≡ false → left_of rs (p ∷ ps) ≡ left_of rs ps
unfolding left_of
goes_away rs p ps h = rw h refl

one_turn : (ce : ClassEnv) (p : Pred) (ps : List Pred) (o : List Discharged × List Pred) (a : Option Core) (out : List Discharged × List Pred)
    → Turn ce p a → Adds ce ps (discharge p a o) out → Adds ce (p ∷ ps) o out
unfolding discharge
one_turn ce p ps o none out h r = record {
  more = r.more;
  discharged_are = r.discharged_are;
  answers = stays h r.answers;
  residual_is = r.residual_is ∙ stays_left o.1 p ps h;
}
one_turn ce p ps o (some e) out h r = record {
  more = (p, e) ∷ r.more;
  discharged_are = r.discharged_are ∙ append_assoc o.0 ((p, e) ∷ []) r.more;
  answers = resolves h.0 h.1 r.answers;
  residual_is = r.residual_is ∙ ap (λ (l : List Pred). o.1 ++ l) (sym (goes_away o.1 p ps h.0));
}

adds : (ce : ClassEnv) (ps : List Pred) (o : List Discharged × List Pred) (n : ℕ) → Says (Adds ce ps o) Any (reduce_from ce [] ps o n)
unfolding reduce_from left_of
adds ce [] o n = record { more = []; discharged_are = sym (append-nil o.0); answers = no_more; residual_is = sym (append-nil o.1) }
adds ce (p ∷ ps) o n =
    and_then _ _ _ (reduce_one ce [] p n) _ (turn_says ce p n) λ a h m.
    weaken _ _ _ _ (reduce_from ce [] ps (discharge p a o) m) (adds ce ps (discharge p a o) m) (λ out r. one_turn ce p ps o a out h r) (λ r z. z)

-- `reduce` with nothing at hand: what resolves has its dictionaries, in order, and the variable-typed ones are left.
pub record Split (ce : ClassEnv) (ps : List Pred) (out : List Discharged × List Pred) : Type 0 where
  pub answers : Answers ce ps out.0
  pub residual_is : out.1 ≡ left_of [] ps

-- Whatever the steps.
pub reduce_splits : (ce : ClassEnv) (ps : List Pred) (n : ℕ) → Says (Split ce ps) Any (reduce ce [] ps n)
reduce_splits ce ps n = weaken _ _ _ _ (reduce ce [] ps n) (adds ce ps ([], []) n)
    (λ out r. record { answers = subst (Answers ce ps) (sym r.discharged_are) r.answers; residual_is = r.residual_is }) (λ r z. z)

-- ## the binders of what is left
-- The binders of new predicates.
unfoldable pub firsts : List Pred → Pending → Pending
firsts rs [] = []
firsts rs (b ∷ bs) = if (is_new rs b.1) (b ∷ firsts (rs ++ (b.1 ∷ [])) bs) (firsts rs bs)

-- Every variable-typed predicate of the binders is in the list.
abbrev Seen : List Pred → Pending → Type 0
Seen rs pre = (c : Binder) → Memᴰ c pre → is_head_normal c.1.ty ≡ true → Memᴰ c.1 rs

-- The first binder of a predicate that none before it has.
first_is : (pre : Pending) (b : Binder) (rest : Pending) → ((c : Binder) → Memᴰ c pre → c.1 ≢ b.1)
    → first (λ (c : Binder). is_yes (same_pred c.1 b.1)) (pre ++ (b ∷ rest)) ≡ some b
unfolding first
first_is [] b rest h = rw (is_yes_of (same_pred b.1 b.1) refl) refl
first_is (c ∷ pre) b rest h = rw (is_no_of (same_pred c.1 b.1) (h c (Memᴰ.head refl))) (first_is pre b rest (λ a m. h a (Memᴰ.tail m)))

-- A test of two parts that fails.
and_fails : (a b : Bool) → (a && not b) ≡ false → a ≡ true → b ≡ true
and_fails true true e h = refl
and_fails true false e h = absurd (true≢false e)
and_fails false b e h = absurd (false≢true h)

and_holds : (a b : Bool) → (a && not b) ≡ true → (a ≡ true) × (b ≡ false)
and_holds true true e = absurd (false≢true e)
and_holds true false e = (refl, refl)
and_holds false b e = absurd (false≢true e)

binders_from_lem : (pre rest : Pending) (rs : List Pred) → Seen rs pre → binders_of (left_of rs (preds_of rest)) (pre ++ rest) ≡ firsts rs rest
unfolding left_of firsts binders_of with_first
binders_from_lem pre [] rs h = refl
binders_from_lem pre (b ∷ rest) rs h = go (is_new rs b.1) refl (λ qs k. subst (λ (l : Pending). binders_of (left_of qs (preds_of rest)) l ≡ firsts qs rest) (append_assoc pre (b ∷ []) rest) (binders_from_lem (pre ++ (b ∷ [])) rest qs k))
  where
    go : (c : Bool) → is_new rs b.1 ≡ c → ((qs : List Pred) → Seen qs (pre ++ (b ∷ [])) → binders_of (left_of qs (preds_of rest)) (pre ++ (b ∷ rest)) ≡ firsts qs rest)
        → binders_of (if c (b.1 ∷ left_of (rs ++ (b.1 ∷ [])) (preds_of rest)) (left_of rs (preds_of rest))) (pre ++ (b ∷ rest))
        ≡ if c (b ∷ firsts (rs ++ (b.1 ∷ [])) rest) (firsts rs rest)
    go true e ih =
        let t = and_holds (is_head_normal b.1.ty) (contains rs b.1) e in
        let apart : (c : Binder) → Memᴰ c pre → c.1 ≢ b.1 = λ c m i. contains_false rs b.1 t.1 (Memᴰ.cast (sym i) (h c m (ap (λ (p : Pred). is_head_normal p.ty) i ∙ t.0))) in
        let seen : Seen (rs ++ (b.1 ∷ [])) (pre ++ (b ∷ [])) =
        snoc_cases (λ (c : Binder). is_head_normal c.1.ty ≡ true → Memᴰ c.1 (rs ++ (b.1 ∷ []))) pre b
        (λ c m i. Memᴰ.append_left (b.1 ∷ []) (h c m i)) (λ i. Memᴰ.append_right rs (Memᴰ.head refl)) in
        rw (first_is pre b rest apart) (rw (ih (rs ++ (b.1 ∷ [])) seen) refl)
    go false e ih = ih rs (snoc_cases (λ (c : Binder). is_head_normal c.1.ty ≡ true → Memᴰ c.1 rs) pre b h
        (λ t. contains_true rs b.1 (and_fails (is_head_normal b.1.ty) (contains rs b.1) e t)))

-- The binders of what `reduce` leaves are the first ones of the variable-typed predicates.
pub binders_are : (ps : Pending) → binders_of (left_of [] (preds_of ps)) ps ≡ firsts [] ps
binders_are ps = binders_from_lem [] ps [] (λ c m. absurd (Memᴰ.not-nil m))
