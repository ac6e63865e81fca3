-- Rows through all that happens to them: what stands for each name in the term, in the rows and in `sub_map`.
use mathlib.Core.Path.{◌≡◌, refl, ap, sym, ◌∙◌, subst}
use mathlib.Core.Bool.{true, false}
use mathlib.Core.List.Memᴰ
use mathlib.Core.List.{List, [], ◌∷◌, Memᴰ}
use mathlib.Core.Option.{some}
use mathlib.Core.Logic.{◌⊎◌, inl, inr}
use Prim.Native.Nat.{ℕ, ◌+◌, ◌-◌, ◌<◌}
use native.Mathlib.Omega.{arith}
use native.Mathlib.Decide.{dec_lt, ℕ_discrete}
use Rattle.meaning.specs.Base.{nth, keep}
use Rattle.meaning.specs.Ast.{TyVar, Ty, DictName, dvar, same_dict, pred, Core, cdict, Binder}
use Rattle.meaning.specs.Map.{Map, dicts, get}
use Rattle.meaning.specs.Classes.{ClassEnv}
use Rattle.meaning.specs.Reduce.{Removed, is_head_normal}
use Rattle.meaning.specs.Cores.{or_core}
use Rattle.meaning.specs.Generalize.{is_own}
use Rattle.theorems.proofs.RisingNames.{NotIn}
use Rattle.theorems.proofs.Residuals.{firsts}
use Rattle.theorems.proofs.Tests.{some_inj}
use Rattle.theorems.proofs.FirstRows.{NoneBefore}
use Rattle.theorems.proofs.Discharges.{NamesDiffer}
use Rattle.theorems.proofs.Aliases.{removed_names}
use Rattle.theorems.proofs.SubMap.{sub-map, Removing, one_number, keeping_firsts, own_of_pred, sub_resolved, row_alias, row_first, row_deferred}
use Rattle.names.specs.Names.{first_fresh, name_of}
use Rattle.ast.specs.Table.{tree, Node, Kept}
use Rattle.ast.proofs.Laws.{kept_tree}
use Rattle.cores.specs.Terms.{core}
use Rattle.cores.proofs.TermLaws.{kept_core, dict_core}
use Rattle.supers.specs.Rows.{row_at, binders_from, binders_in}
use Rattle.supers.specs.declared.rows.Row.{Row}
use Rattle.supers.specs.declared.rows.Row.TheVariants.{Pending, Replaced}
use Rattle.reduce.specs.Reduces.{discharged_in}
use Rattle.simplify.specs.Simplified.{removed_from, RowLeft}
use Rattle.pending.specs.Owned.{first_of, StandsIn, Aliased, GivesAliased, IsPending, Among, GivesDeferred}
use Rattle.settle.proofs.Lists.{binder_of, PendingAs, pending_as, nth_row, Gone, removed_out, NoRow}
use Rattle.settle.proofs.Found.{at_variable, Stood, first_stood}
use Rattle.settle.proofs.Cut.{Cut, Fate, remains, gone, fate_of, went, rows_left}

-- The rows b₁ that `reduce` left became mid and then b₃; p are those from number nd on, and p' what simplifying makes of
-- them, over the words w₂.
pub record Staged (ce : ClassEnv) (fs es : List TyVar) (ns w w₁ w₂ bs b₁ mid b₃ p p' : List ℕ) (top top₁ n nd : ℕ) : Type 0 where
  pub cut : Cut ce ns w w₁ bs b₁ top top₁ n
  pub kept : Kept w₁ w₂ top₁
  pub aliased : GivesAliased fs es ns w₁ b₁ mid n
  pub deferred : GivesDeferred fs es ns w₁ mid b₃ n nd
  pub part : (j : ℕ) → j < n - nd → row_at p j ≡ row_at b₃ (nd + j)
  pub left : (j : ℕ) → j < n - nd → RowLeft (row_at p j) (row_at p' j)
  pub differ : NamesDiffer (binders_from ns w bs 0 n)
  pub removes : Removing (keep (is_own fs es) (firsts [] (binders_from ns w bs 0 n))) (removed_from ns w₂ p p' 0 (n - nd))

-- ## What two rows of one number say of each other

-- A dictionary's number.
abbrev pub name_in : Row → ℕ
name_in (Pending d c t) = d
name_in (Replaced d x) = d

-- A row that was replaced stays so when it is simplified.
left_gone : {d x : ℕ} (r r' : Row) → r ≡ Replaced d x → RowLeft r r' → r' ≡ Replaced d x
left_gone (Pending a b u) (Pending d' c' t') e h = absurd (let z : ◌≡◌ {A = ℕ} 0 1 = cc in omega arith)
left_gone (Pending a b u) (Replaced d' y) e h = absurd (let z : ◌≡◌ {A = ℕ} 0 1 = cc in omega arith)
left_gone (Replaced a y) (Pending d' c' t') e h = absurd h
left_gone (Replaced a y) (Replaced d' z) e h = let i = h.0 in let j = h.1 in rw (i, j) e

-- Where a row that is replaced was before it was simplified.
pub data Before (r : Row) (d x : ℕ) : Type 0 where
  was_open : (c t : ℕ) → r ≡ Pending d c t → Before r d x
  was_so : r ≡ Replaced d x → Before r d x

-- One of both.
pub left_from : {d x : ℕ} (r r' : Row) → r' ≡ Replaced d x → RowLeft r r' → Before r d x
left_from (Pending a b u) (Pending d' c' t') e h = absurd (let z : ◌≡◌ {A = ℕ} 0 1 = cc in omega arith)
left_from {d} (Pending a b u) (Replaced d' y) e h = was_open b u (let i : d' ≡ a = h in let j : d' ≡ d = cc in ap (λ m. Pending m b u) (sym i ∙ j))
left_from (Replaced a y) (Pending d' c' t') e h = absurd h
left_from (Replaced a y) (Replaced d' z) e h = was_so (let i = h.0 in let j = h.1 in rw (sym i, sym j) e)

module _ (fs es : List TyVar) (ns w : List ℕ) (os : List Binder) where
  -- Equal predicates change no number.
  pub aliased_name : (r r' : Row) → Aliased fs es ns w os r r' → name_in r' ≡ name_in r
  aliased_name (Pending d c t) (Pending d' c' t') h = ap name_in h.0
  aliased_name (Pending d c t) (Replaced d' x) h = h.0
  aliased_name (Replaced d x) (Pending d' c' t') h = absurd h
  aliased_name (Replaced d x) (Replaced d' x') h = ap name_in h

  -- A row that was replaced stays so.
  pub aliased_gone : {d x : ℕ} (r r' : Row) → r ≡ Replaced d x → Aliased fs es ns w os r r' → r' ≡ Replaced d x
  aliased_gone (Pending a b u) (Pending d' c' t') e h = absurd (let z : ◌≡◌ {A = ℕ} 0 1 = cc in omega arith)
  aliased_gone (Pending a b u) (Replaced d' y) e h = absurd (let z : ◌≡◌ {A = ℕ} 0 1 = cc in omega arith)
  aliased_gone (Replaced a y) (Pending d' c' t') e h = absurd h
  aliased_gone (Replaced a y) (Replaced d' z) e h = h ∙ e

  -- A pending row after another: it is that one, which is the first of its predicate.
  pub aliased_open : {d c t d' c' t' : ℕ} (r r' : Row) → r ≡ Pending d c t → r' ≡ Pending d' c' t' → Aliased fs es ns w os r r'
      → first_of os (pred (name_of ns c) (tree ns w t)) ≡ some (dvar d, pred (name_of ns c) (tree ns w t))
  aliased_open r r' e f h = let h₁ = rw (e, f) at h in h₁.1

  -- A row that was pending and is replaced.
  pub aliased_by : {d c t m x : ℕ} (r r' : Row) → r ≡ Pending d c t → r' ≡ Replaced m x → Aliased fs es ns w os r r'
      → (m ≡ d) × StandsIn fs es os (pred (name_of ns c) (tree ns w t)) d x
  aliased_by r r' e f h = rw (e, f) at h

-- A name is in a list or not.
pub find_name : (d : DictName) (ds : List DictName) → Memᴰ d ds ⊎ NotIn d ds
find_name d [] = inr Memᴰ.not-nil
find_name d (c ∷ ds) = go (same_dict d c) (find_name d ds)
  where
    go : Dec (d ≡ c) → Memᴰ d ds ⊎ NotIn d ds → Memᴰ d (c ∷ ds) ⊎ NotIn d (c ∷ ds)
    go (yes e) r = inl (Memᴰ.head e)
    go (no n) (inl m) = inl (Memᴰ.tail m)
    go (no n) (inr h) = inr (λ m. out (Memᴰ.cases_cons m))
      where
        out : (d ≡ c) ⊎ Memᴰ d ds → ⊥
        out (inl e) = n e
        out (inr k) = h k

-- Names of one number.
pub dvar_same : (i j : ℕ) → dvar i ≡ dvar j → i ≡ j
dvar_same i j e = cc

-- ## Each name

module _ {ce : ClassEnv} {fs es : List TyVar} {ns w w₁ w₂ bs b₁ mid b₃ p p' : List ℕ} {top top₁ n nd : ℕ} (Z : Staged ce fs es ns w w₁ w₂ bs b₁ mid b₃ p p' top top₁ n nd) where
  -- The pending binders.
  abbrev pub waiting : List Binder
  waiting = binders_from ns w bs 0 n

  -- `sub_map`.
  abbrev pub whole : Map DictName Core
  whole = sub-map (removed_from ns w₂ p p' 0 (n - nd)) (keep (is_own fs es) (firsts [] waiting)) (discharged_in ns w w₁ bs b₁ n) waiting

  -- The words of row i.
  pub row : (i : ℕ) → i < n → PendingAs w top (row_at bs i)
  row i l = pending_as (row_at bs i) (Z.cut.all i l)

  -- What became of it.
  pub fate : (i : ℕ) (l : i < n) → Fate w₁ top₁ (row_at b₁ i) (row i l).d (row i l).c (row i l).t
  fate i l = fate_of (row_at bs i) (row_at b₁ i) (row i l).is (Z.cut.became i l)

  -- Its binder.
  abbrev pub its : (i : ℕ) (l : i < n) → Binder
  its i l = binder_of ns w (row i l).d (row i l).c (row i l).t

  -- It stands there.
  pub its_at : (i : ℕ) (l : i < n) → nth waiting i ≡ some (its i l)
  its_at i l = nth_row ns w bs top 0 n i (λ j a b. Z.cut.all j (omega arith)) l (let z : 0 + i ≡ i = omega arith in rw z (row i l).is)

  -- Rows of one name are one row.
  pub one_row : (i k : ℕ) (l : i < n) (m : k < n) → (row i l).d ≡ (row k m).d → i ≡ k
  one_row i k l m e = one_number waiting Z.differ i k (its i l) (its k m) (its_at i l) (its_at k m) (ap dvar e)

  -- Its name in mid.
  pub name_mid : (i : ℕ) (l : i < n) → name_in (row_at mid i) ≡ (row i l).d
  name_mid i l = aliased_name fs es ns w₁ (binders_in ns w₁ b₁ 0 n) (row_at b₁ i) (row_at mid i) (Z.aliased.rows i l) ∙ go (fate i l)
    where
      go : Fate w₁ top₁ (row_at b₁ i) (row i l).d (row i l).c (row i l).t → name_in (row_at b₁ i) ≡ (row i l).d
      go (remains e) = ap name_in e
      go (gone x e N) = ap name_in e

  -- A row of mid that was replaced is one of p'.
  pub shows : (i : ℕ) → i < n → {m x : ℕ} → row_at mid i ≡ Replaced m x → NoRow p' 0 (n - nd) (dvar m) → ⊥
  shows i l {m} {x} e none_has =
      let g = Z.deferred.goes i l in
      let j = g.number in
      let f : row_at b₃ j ≡ Replaced m x = g.is ∙ e in
      let k = g.below in
      which j k f (dec_lt j nd)
    where
      which : (j : ℕ) → j < n → row_at b₃ j ≡ Replaced m x → Dec (j < nd) → ⊥
      which j k f (yes h) = let y : IsPending (Replaced m x) = rw f at (Z.deferred.front j h) in y
      which j k f (no h) =
          let a : nd + (j - nd) ≡ j = omega arith in
          let b : j - nd < n - nd = omega arith in
          let q : row_at p (j - nd) ≡ Replaced m x = Z.part (j - nd) b ∙ ap (row_at b₃) a ∙ f in
          none_has (j - nd) m x (omega arith) (omega arith) (left_gone (row_at p (j - nd)) (row_at p' (j - nd)) q (Z.left (j - nd) b)) refl

  -- The binders of rows that `reduce` left are those at variables.
  pub stayed_are : binders_in ns w₁ b₁ 0 n ≡ keep at_variable waiting
  stayed_are = let z : n - 0 ≡ n = omega arith in ap (binders_from ns w₁ b₁ 0) z ∙ rows_left Z.cut 0 n (omega arith)

  -- The first row of the predicate of row i.
  pub stood_at : (i : ℕ) (l : i < n) {d : ℕ} → is_head_normal (tree ns w (row i l).t) ≡ true
      → first_of (binders_in ns w₁ b₁ 0 n) (pred (name_of ns (row i l).c) (tree ns w₁ (row i l).t)) ≡ some (dvar d, pred (name_of ns (row i l).c) (tree ns w₁ (row i l).t))
      → Stood waiting (its i l).1 (dvar d, (its i l).1)
  stood_at i l {d} h e =
      first_stood waiting (its i l).1 (dvar d, (its i l).1) h
      (subst (λ (u : Ty). first_of (keep at_variable waiting) (pred (name_of ns (row i l).c) u) ≡ some (dvar d, pred (name_of ns (row i l).c) u)) (kept_tree ns Z.cut.kept (row i l).type)
      (subst (λ (os : List Binder). first_of os (pred (name_of ns (row i l).c) (tree ns w₁ (row i l).t)) ≡ some (dvar d, pred (name_of ns (row i l).c) (tree ns w₁ (row i l).t))) stayed_are e))

  -- A row that simplifying replaced is pending in mid, under its name.
  gone_mid : {r : Removed} (g : Gone ns w₂ p p' 0 (n - nd) r) (i : ℕ) (l : i < n) {m x : ℕ} → row_at mid i ≡ Replaced m x → g.e ≡ (row i l).d → ⊥
  gone_mid g i l {m} {x} e named = come (Z.deferred.comes (nd + g.number) within)
    where
      y : g.number < 0 + (n - nd)
      y = g.below

      h : g.number < n - nd
      h = omega (arith, y)

      within : nd + g.number < n
      within = omega (arith, h)

      same : g.e ≡ g.d
      same = rw (g.was, g.is) at (Z.left g.number h)

      come : Among mid n (row_at b₃ (nd + g.number)) → ⊥
      come f = clash (one_row f.number i f.below l (sym (name_mid f.number f.below) ∙ ap name_in (here f) ∙ sym same ∙ named))
        where
          here : (f : Among mid n (row_at b₃ (nd + g.number))) → row_at mid f.number ≡ Pending g.d g.c g.t
          here f = f.is ∙ sym (Z.part g.number h) ∙ g.was

          clash : f.number ≡ i → ⊥
          clash one =
              let both : Replaced m x ≡ Pending g.d g.c g.t = sym e ∙ ap (row_at mid) (sym one) ∙ here f in
              let z : ◌≡◌ {A = ℕ} 0 1 = cc in omega arith

  -- A row of mid that was replaced is not removed.
  pub not_removed : (i : ℕ) (l : i < n) {m x : ℕ} → row_at mid i ≡ Replaced m x → NotIn (dvar (row i l).d) (removed_names (removed_from ns w₂ p p' 0 (n - nd)))
  not_removed i l e k =
      let r = Memᴰ.of_map (λ (r : Removed). r.0) (removed_from ns w₂ p p' 0 (n - nd)) k in
      let g = removed_out ns w₂ p p' 0 (n - nd) r.0 r.1 in
      gone_mid g i l e (dvar_same g.e (row i l).d (ap (λ (z : Removed). z.0) (sym g.pair) ∙ r.2))

  -- ### A row that replaces

  -- What it has is what `sub_map` has.
  abbrev pub Says : ℕ → ℕ → Type 0
  Says m x = or_core (cdict (dvar m)) (get dicts (dvar m) whole) ≡ core ns w₂ x

  -- One that `reduce` replaced.
  pub by_reduce : (i : ℕ) (l : i < n) (x : ℕ) → row_at b₁ i ≡ Replaced (row i l).d x → Node w₁ top₁ x → Says (row i l).d x
  unfolding or_core
  by_reduce i l x f N =
      let t = went Z.cut i l (row i l).is f in
      ap (or_core (cdict (dvar (row i l).d))) (sub_resolved ce waiting Z.differ (discharged_in ns w w₁ bs b₁ n) Z.cut.answers (keep (is_own fs es) (firsts [] waiting))
      (keeping_firsts (is_own fs es) waiting) (removed_from ns w₂ p p' 0 (n - nd)) Z.removes i (its i l) (its_at i l) t.0 (core ns w₁ x) t.1) ∙ sym (kept_core ns Z.kept N)

  -- One that is at a variable and is the binding's own: it has the name of the first row of its predicate.
  pub by_first : (i : ℕ) (l : i < n) (d : ℕ) {m y : ℕ} → row_at mid i ≡ Replaced m y → is_head_normal (tree ns w (row i l).t) ≡ true → is_own fs es (its i l) ≡ true → d < first_fresh
      → Stood waiting (its i l).1 (dvar d, (its i l).1) → Says (row i l).d (first_fresh + d)
  unfolding or_core
  by_first i l d e h o s S = go (ℕ_discrete i S.number)
    where
      go : Dec (i ≡ S.number) → Says (row i l).d (first_fresh + d)
      go (yes j) =
          let none_before : NoneBefore waiting i (its i l).1 = subst (λ (k : ℕ). NoneBefore waiting k (its i l).1) (sym j) S.before in
          let same : its i l ≡ (dvar d, (its i l).1) = some_inj _ _ (sym (its_at i l) ∙ ap (nth waiting) j ∙ S.stands) in
          ap (or_core (cdict (dvar (row i l).d))) (row_first ce waiting Z.differ (discharged_in ns w w₁ bs b₁ n) Z.cut.answers (is_own fs es) (own_of_pred fs es)
          (removed_from ns w₂ p p' 0 (n - nd)) Z.removes i (its i l) (its_at i l) h none_before (not_removed i l e)) ∙ ap (λ (b : Binder). cdict b.0) same ∙ sym (dict_core ns w₂ d s)
      go (no k) = ap (or_core (cdict (dvar (row i l).d))) (row_alias ce waiting Z.differ (discharged_in ns w w₁ bs b₁ n) Z.cut.answers (is_own fs es) (own_of_pred fs es)
          (removed_from ns w₂ p p' 0 (n - nd)) Z.removes i (its i l) (its_at i l) h o S.number (dvar d, (its i l).1) S.stands S.before refl k) ∙ sym (dict_core ns w₂ d s)

  -- One that is deferred has its own name.
  pub by_itself : (i : ℕ) (l : i < n) → is_head_normal (tree ns w (row i l).t) ≡ true → is_own fs es (its i l) ≡ false → Says (row i l).d (first_fresh + (row i l).d)
  unfolding or_core
  by_itself i l h o =
      let s = (row i l).small in
      let z : (row i l).d < first_fresh = omega arith in
      ap (or_core (cdict (dvar (row i l).d))) (row_deferred ce waiting Z.differ (discharged_in ns w w₁ bs b₁ n) Z.cut.answers (is_own fs es) (own_of_pred fs es)
      (removed_from ns w₂ p p' 0 (n - nd)) Z.removes i (its i l) (its_at i l) h o) ∙ sym (dict_core ns w₂ (row i l).d z)
