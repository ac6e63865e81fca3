-- The rows that were replaced say of every name what `sub_map` says, so the walk over the term is `subst_core`.
use mathlib.Core.Path.{◌≡◌, refl, ap, sym, ◌∙◌, subst}
use mathlib.Core.Bool.{Bool, true, false}
use mathlib.Core.List.Memᴰ
use mathlib.Core.List.{List, [], Memᴰ}
use mathlib.Core.Option.{none}
use mathlib.Core.Logic.{◌⊎◌, inl, inr}
use Prim.Native.Nat.{ℕ, ◌+◌, ◌-◌, ◌<◌}
use native.Mathlib.Omega.{arith}
use Rattle.meaning.specs.Base.{if, keep}
use Rattle.meaning.specs.Ast.{TyVar, DictName, dvar, pred, Core, cdict, Binder}
use Rattle.meaning.specs.Map.{dicts, get}
use Rattle.meaning.specs.Classes.{ClassEnv}
use Rattle.meaning.specs.Reduce.{Removed, is_head_normal}
use Rattle.meaning.specs.Cores.{or_core, subst_core}
use Rattle.meaning.specs.Generalize.{is_own}
use Rattle.theorems.proofs.Bound.{names_of, Bound, bound_less}
use Rattle.theorems.proofs.RisingNames.{NotIn}
use Rattle.theorems.proofs.NamesGeneralized.{Own}
use Rattle.theorems.proofs.Residuals.{firsts}
use Rattle.theorems.proofs.FirstRows.{NoneBefore}
use Rattle.theorems.proofs.Aliases.{removed_names}
use Rattle.theorems.proofs.SubMap.{one_number, keeping_firsts, own_of_pred, sub_absent, sub_removed, row_first}
use Rattle.names.specs.Names.{first_fresh, name_of}
use Rattle.ast.specs.Table.{tree}
use Rattle.ast.proofs.Laws.{kept_tree}
use Rattle.cores.specs.Terms.{core}
use Rattle.supers.specs.Rows.{row_at, binders_in}
use Rattle.supers.specs.declared.rows.Row.{Row}
use Rattle.supers.specs.declared.rows.Row.TheVariants.{Pending, Replaced}
use Rattle.reduce.specs.Reduces.{discharged_in}
use Rattle.simplify.specs.Simplified.{removed_from}
use Rattle.terms.specs.Plain.{plain_in}
use Rattle.terms.specs.Rows.{replaced_in}
use Rattle.terms.proofs.Apart.{plain_is, subst_same}
use Rattle.pending.specs.Owned.{owns, StandsIn}
use Rattle.settle.proofs.Halves.{own_is}
use Rattle.settle.proofs.Lists.{RowOf, member_row, removed_out, removed_in_lem, NoRow, get_replaced}
use Rattle.settle.proofs.Found.{Stood}
use Rattle.settle.proofs.Cut.{Fate, remains, gone, stayed}
use Rattle.settle.proofs.Staged.{Staged, name_in, Before, was_open, was_so, left_from, aliased_gone, aliased_open, aliased_by, find_name, waiting, whole, row, fate, its, its_at, name_mid, shows, stood_at, Says, by_reduce, by_first, by_itself}
use Rattle.settle.proofs.Apart.{apart_of}

module _ {ce : ClassEnv} {fs es : List TyVar} {ns w w₁ w₂ bs b₁ mid b₃ p p' : List ℕ} {top top₁ n nd : ℕ} (Z : Staged ce fs es ns w w₁ w₂ bs b₁ mid b₃ p p' top top₁ n nd) where
  -- Both tests of row i agree.
  own_here : (i : ℕ) (l : i < n) → is_head_normal (tree ns w (row Z i l).t) ≡ true → is_own fs es (its Z i l) ≡ owns fs es (tree ns w₁ (row Z i l).t)
  own_here i l h = own_is fs es (its Z i l) h ∙ ap (owns fs es) (sym (kept_tree ns Z.cut.kept (row Z i l).type))

  -- A row of mid that was replaced because an earlier one has its predicate.
  by_alias : (i : ℕ) (l : i < n) {m x : ℕ} → row_at mid i ≡ Replaced m x → is_head_normal (tree ns w (row Z i l).t) ≡ true
      → StandsIn fs es (binders_in ns w₁ b₁ 0 n) (pred (name_of ns (row Z i l).c) (tree ns w₁ (row Z i l).t)) (row Z i l).d x → Says Z (row Z i l).d x
  by_alias i l {m} {x} e h S = go (owns fs es (tree ns w₁ (row Z i l).t)) refl
    where
      go : (b : Bool) → owns fs es (tree ns w₁ (row Z i l).t) ≡ b → Says Z (row Z i l).d x
      go true o = subst (λ (y : ℕ). Says Z (row Z i l).d y) (sym (S.word ∙ ap (λ (b : Bool). first_fresh + if b S.number (row Z i l).d) o))
          (by_first Z i l S.number e h (own_here i l h ∙ o) S.small (stood_at Z i l h S.is))
      go false o = subst (λ (y : ℕ). Says Z (row Z i l).d y) (sym (S.word ∙ ap (λ (b : Bool). first_fresh + if b S.number (row Z i l).d) o)) (by_itself Z i l h (own_here i l h ∙ o))

  -- Any row of mid that was replaced.
  from_mid : (i : ℕ) (l : i < n) {m x : ℕ} → row_at mid i ≡ Replaced m x → Says Z m x
  from_mid i l {m} {x} e = go (fate Z i l)
    where
      go : Fate w₁ top₁ (row_at b₁ i) (row Z i l).d (row Z i l).c (row Z i l).t → Says Z m x
      go (gone y f N) = same (sym e ∙ aliased_gone fs es ns w₁ (binders_in ns w₁ b₁ 0 n) (row_at b₁ i) (row_at mid i) f (Z.aliased.rows i l))
        where
          same : Replaced m x ≡ Replaced (row Z i l).d y → Says Z m x
          same h =
              let a : m ≡ (row Z i l).d = cc in
              let b : x ≡ y = cc in
              subst (λ (k : ℕ). Says Z k x) (sym a) (subst (λ (u : ℕ). Says Z (row Z i l).d u) (sym b) (by_reduce Z i l y f N))
      go (remains f) =
          let h = aliased_by fs es ns w₁ (binders_in ns w₁ b₁ 0 n) (row_at b₁ i) (row_at mid i) f e (Z.aliased.rows i l) in
          subst (λ (k : ℕ). Says Z k x) (sym h.0) (by_alias i l e (stayed Z.cut i l (row Z i l).is f) h.1)

  -- Each row that replaces a name in the end.
  claim : (j m x : ℕ) → j < n - nd → row_at p' j ≡ Replaced m x → Says Z m x
  unfolding or_core
  claim j m x l e = go (left_from (row_at p j) (row_at p' j) e (Z.left j l))
    where
      go : Before (row_at p j) m x → Says Z m x
      go (was_open c t f) =
          let z : 0 + j ≡ j = omega arith in
          ap (or_core (cdict (dvar m))) (sub_removed ce (waiting Z) Z.differ (discharged_in ns w w₁ bs b₁ n) Z.cut.answers (keep (is_own fs es) (firsts [] (waiting Z)))
          (keeping_firsts (is_own fs es) (waiting Z)) (removed_from ns w₂ p p' 0 (n - nd)) Z.removes (dvar m, core ns w₂ x)
          (removed_in_lem ns w₂ p p' 0 (n - nd) j l (ap (row_at p) z ∙ f) (ap (row_at p') z ∙ e)))
      go (was_so f) =
          let k : nd + j < n = omega arith in
          let g = Z.deferred.comes (nd + j) k in
          from_mid g.number g.below (g.is ∙ sym (Z.part j l) ∙ f)

  -- ## A name that no row replaces

  -- It was not removed.
  kept_name : (d : ℕ) → NoRow p' 0 (n - nd) (dvar d) → NotIn (dvar d) (removed_names (removed_from ns w₂ p p' 0 (n - nd)))
  kept_name d h k =
      let r = Memᴰ.of_map (λ (r : Removed). r.0) (removed_from ns w₂ p p' 0 (n - nd)) k in
      let g = removed_out ns w₂ p p' 0 (n - nd) r.0 r.1 in
      h g.number g.e g.x g.from g.below g.is (sym r.2 ∙ ap (λ (z : Removed). z.0) g.pair)

  -- A first row.
  at_first : (i : ℕ) (l : i < n) → is_head_normal (tree ns w (row Z i l).t) ≡ true → NoRow p' 0 (n - nd) (dvar (row Z i l).d) → Stood (waiting Z) (its Z i l).1 (its Z i l) → get dicts (dvar (row Z i l).d) (whole Z) ≡ none
  at_first i l t h S =
      let one : S.number ≡ i = one_number (waiting Z) Z.differ S.number i (its Z i l) (its Z i l) S.stands (its_at Z i l) refl in
      row_first ce (waiting Z) Z.differ (discharged_in ns w w₁ bs b₁ n) Z.cut.answers (is_own fs es) (own_of_pred fs es)
      (removed_from ns w₂ p p' 0 (n - nd)) Z.removes i (its Z i l) (its_at Z i l) t (subst (λ (k : ℕ). NoneBefore (waiting Z) k (its Z i l).1) one S.before) (kept_name (row Z i l).d h)

  -- Any row.
  at_row : (i : ℕ) (l : i < n) → NoRow p' 0 (n - nd) (dvar (row Z i l).d) → get dicts (dvar (row Z i l).d) (whole Z) ≡ none
  at_row i l h = go (fate Z i l) (row_at mid i) refl
    where
      go : Fate w₁ top₁ (row_at b₁ i) (row Z i l).d (row Z i l).c (row Z i l).t → (q : Row) → row_at mid i ≡ q → get dicts (dvar (row Z i l).d) (whole Z) ≡ none
      go (gone y f N) q e = absurd (shows Z i l (aliased_gone fs es ns w₁ (binders_in ns w₁ b₁ 0 n) (row_at b₁ i) (row_at mid i) f (Z.aliased.rows i l)) h)
      go (remains f) (Replaced a y) e =
          let z : a ≡ (row Z i l).d = ap name_in (sym e) ∙ name_mid Z i l in
          absurd (shows Z i l e (subst (λ (k : ℕ). NoRow p' 0 (n - nd) (dvar k)) (sym z) h))
      go (remains f) (Pending a b u) e =
          let t = stayed Z.cut i l (row Z i l).is f in
          at_first i l t h (stood_at Z i l t (aliased_open fs es ns w₁ (binders_in ns w₁ b₁ 0 n) (row_at b₁ i) (row_at mid i) f e (Z.aliased.rows i l)))

  -- It stays as it is.
  nothing : (d : DictName) → NoRow p' 0 (n - nd) d → cdict d ≡ or_core (cdict d) (get dicts d (whole Z))
  unfolding or_core
  nothing d h = go (find_name d (names_of (waiting Z)))
    where
      here : (i : ℕ) (l : i < n) → d ≡ dvar (row Z i l).d → get dicts d (whole Z) ≡ none
      here i l e = subst (λ (c : DictName). get dicts c (whole Z) ≡ none) (sym e) (at_row i l (subst (λ (c : DictName). NoRow p' 0 (n - nd) c) e h))

      there : (b : Binder) (m : RowOf ns w bs 0 n b) → b.0 ≡ d → get dicts d (whole Z) ≡ none
      there b m e = here m.number inside (sym e ∙ ap (λ (b : Binder). b.0) m.binder ∙ ap dvar same)
        where
          inside : m.number < n
          inside = let y = m.below in omega arith

          same : m.d ≡ (row Z m.number inside).d
          same = ap name_in (sym m.is ∙ (row Z m.number inside).is)

      go : Memᴰ d (names_of (waiting Z)) ⊎ NotIn d (names_of (waiting Z)) → cdict d ≡ or_core (cdict d) (get dicts d (whole Z))
      go (inr k) = sym (ap (or_core (cdict d)) (sub_absent ce (waiting Z) Z.differ (discharged_in ns w w₁ bs b₁ n) Z.cut.answers (keep (is_own fs es) (firsts [] (waiting Z)))
          (keeping_firsts (is_own fs es) (waiting Z)) (removed_from ns w₂ p p' 0 (n - nd)) Z.removes d k))
      go (inl k) = let r = Memᴰ.of_map (λ (b : Binder). b.0) (waiting Z) k in sym (ap (or_core (cdict d)) (there r.0 (member_row ns w bs 0 n r.0 r.1) r.2))

  -- ## All names

  -- The rows say of every name what `sub_map` says.
  pub tied : (d : DictName) → or_core (cdict d) (get dicts d (replaced_in ns w₂ p' (n - nd))) ≡ or_core (cdict d) (get dicts d (whole Z))
  tied d = get_replaced ns w₂ p' 0 (n - nd) d (or_core (cdict d) (get dicts d (whole Z)))
      (λ i m x a b e f. subst (λ (c : DictName). core ns w₂ x ≡ or_core (cdict c) (get dicts c (whole Z))) (sym f) (sym (claim i m x (omega arith) e))) (λ h. nothing d h)

  -- So the walk over a term that binds no pending name is `subst_core`.
  pub walks : (lo hi : ℕ) (e : Core) (l : ℕ) → Bound (Own lo hi (names_of (waiting Z))) e → subst_core e (whole Z) l ≡ plain_in 256 (replaced_in ns w₂ p' (n - nd)) e l
  walks lo hi e l h = sym (subst_same (replaced_in ns w₂ p' (n - nd)) (whole Z) tied 256 e l ∙ plain_is 256 (whole Z) e l (apart_of (whole Z) e (bound_less (Own lo hi (names_of (waiting Z))) (λ d. get dicts d (whole Z) ≡ none)
      (λ d k. sub_absent ce (waiting Z) Z.differ (discharged_in ns w w₁ bs b₁ n) Z.cut.answers (keep (is_own fs es) (firsts [] (waiting Z)))
      (keeping_firsts (is_own fs es) (waiting Z)) (removed_from ns w₂ p p' 0 (n - nd)) Z.removes d k.1) e h)))
