-- The method table after a new class's signatures is that of the class environment with the class.
use mathlib.Core.Path.{◌≡◌, refl, sym, ap, ◌∙◌}
use mathlib.Core.List.{List}
use mathlib.Core.Option.{Option as Maybe, none, some}
use Prim.Native.Nat.{ℕ, zero, suc, ◌+◌, ◌*◌, ◌/◌, ◌<◌, ◌≤◌}
use native.Mathlib.Decide.{ℕ_discrete, dec_lt}
use native.Mathlib.Omega.{arith}
use lib.ListN.{length, get_or}
use Rattle.meaning.specs.Base.{if, eqb, is_yes, first}
use Rattle.meaning.specs.Ast.{Name, same_name, Ty}
use Rattle.meaning.specs.Classes.{ClassEnv, ClassInfo, class_of, with_class, lookup_method}
use Rattle.theorems.proofs.Tests.{is_yes_of, is_no_of, none_some}
use Rattle.names.specs.Names.{name_of, Names}
use Rattle.names.proofs.Distinct.{name_of_same}
use Rattle.names.proofs.Tests.{eq_yes, eq_no}
use Rattle.ast.specs.Table.{tree, Node}
use Rattle.pairs.specs.Pairs.{find_at}
use Rattle.classes.specs.Method.{method_at, sigs_at, with_methods, MethodAs, Methods, Rowed, NewSigs, AddsMethods}
use Rattle.classes.specs.declared.Method.{Method}
use Rattle.classes.proofs.AddLaws.{class_new, class_other}
use Rattle.classes.proofs.Owned.{sig_of, lookup_own, lookup_other}
use Rattle.classes.proofs.Recording.{method_out, method_own, all_long, all_found, find_one, Going, going_end}
use Rattle.std.specs.Prelude.{Option, Some, None}

-- The signature that a type's word stands for.
abbrev sig_found : List ℕ → List ℕ → ℕ → Option ℕ → Maybe (Name × Ty)
sig_found ns w m (Some t) = some (name_of ns m, tree ns w t)
sig_found ns w m None = none

-- The first signature of a name is found by the number of the name.
sig_at : (ns w sl : List ℕ) → Names ns → (at k m : ℕ) → sig_of (name_of ns m) (sigs_at ns w sl at k) ≡ sig_found ns w m (find_at sl at k m)
unfolding sigs_at find_at first
sig_at ns w sl N at zero m = refl
sig_at ns w sl N at (suc k) m = go (ℕ_discrete (get_or sl at 0) m) (sig_at ns w sl N (at + 2) k m)
  where
    go : Dec (get_or sl at 0 ≡ m) → sig_of (name_of ns m) (sigs_at ns w sl (at + 2) k) ≡ sig_found ns w m (find_at sl (at + 2) k m)
        → if (is_yes (same_name (name_of ns (get_or sl at 0)) (name_of ns m))) (some (name_of ns (get_or sl at 0), tree ns w (get_or sl (at + 1) 0))) (sig_of (name_of ns m) (sigs_at ns w sl (at + 2) k))
        ≡ sig_found ns w m (if (eqb (get_or sl at 0) m) (Some (get_or sl (at + 1) 0)) (find_at sl (at + 2) k m))
    go (yes q) ih = rw (eq_yes (get_or sl at 0) m q, q, is_yes_of (same_name (name_of ns m) (name_of ns m)) refl)
    go (no q) ih = rw (eq_no (get_or sl at 0) m q, is_no_of (same_name (name_of ns (get_or sl at 0)) (name_of ns m)) (λ e. q (name_of_same ns N _ m e))) ih

module _ (mt : List ℕ) (c : ℕ) (sl : List ℕ) (R : Rowed mt c sl) {ns w : List ℕ} {top : ℕ} {ce : ClassEnv} {ci : ClassInfo} (S : NewSigs ns w top c sl ce ci) (M : Methods ns w top mt ce) where
  -- The new class has no method yet.
  not_yet : (m : ℕ) → 2 * m + 1 < length mt → get_or mt (2 * m) 0 ≡ c + 1 → ⊥
  not_yet m h e = let o = rw (method_own mt m c h e) at (M.is m) in none_some o.info (sym S.new ∙ o.class)

  -- The class is not in the environment before.
  not_before : class_of ce ci.name ≡ none
  not_before = rw S.name S.new

  -- Another class's method is what it was.
  old_method : (m : ℕ) → find_at sl 0 (length sl / 2) m ≡ None → (r : Option Method) → MethodAs ns w top ce (name_of ns m) r → MethodAs ns w top (with_class ci ce) (name_of ns m) r
  old_method m e r o =
      let l = lookup_other ce ci (name_of ns m) not_before (rw (S.sigs, sig_at ns w sl S.names 0 (length sl / 2) m, e) refl) in
      go r l o
    where
      go : (x : Option Method) → lookup_method (with_class ci ce) (name_of ns m) ≡ lookup_method ce (name_of ns m) → MethodAs ns w top ce (name_of ns m) x → MethodAs ns w top (with_class ci ce) (name_of ns m) x
      go (Some q) l p = record {
        info = p.info;
        class = class_other ce ci (name_of ns q.class) (λ s. none_some p.info (sym not_before ∙ ap (class_of ce) (sym s) ∙ p.class)) ∙ p.class;
        node = p.node;
        is = l ∙ p.is;
      }
      go None l p = l ∙ p

  -- Each method is the new class's by its first signature, or what it was.
  each_method : (m : ℕ) → MethodAs ns w top (with_class ci ce) (name_of ns m) (method_at (with_methods mt c sl 0 (length sl / 2)) m)
  each_method m = go (find_at sl 0 (length sl / 2) m) refl (dec_lt (2 * m + 1) (length mt))
    where
      go : (f : Option ℕ) → find_at sl 0 (length sl / 2) m ≡ f → Dec (2 * m + 1 < length mt) → MethodAs ns w top (with_class ci ce) (name_of ns m) (method_at (with_methods mt c sl 0 (length sl / 2)) m)
      go (Some t) e d =
          let h : 2 * m + 1 < length mt = find_one (λ x y. 2 * x + 1 < length mt) sl 0 (length sl / 2) m t (λ i k. let z : 0 + 2 * i ≡ 2 * i = omega arith in rw z (R.each i k)) e in
          rw (all_found mt c sl 0 (length sl / 2) m h (not_yet m h), e) (record {
            info = ci;
            class = class_new ce ci (name_of ns c) S.name;
            node = find_one (λ x y. Node w top y) sl 0 (length sl / 2) m t (λ i k. let z : 0 + 2 * i ≡ 2 * i = omega arith in rw z (S.nodes i k)) e;
            is = lookup_own ce ci (name_of ns m) (name_of ns m, tree ns w t) (rw (S.sigs, sig_at ns w sl S.names 0 (length sl / 2) m, e) refl);
          })
      go None e (yes h) = rw (all_found mt c sl 0 (length sl / 2) m h (not_yet m h), e) (old_method m e (method_at mt m) (M.is m))
      go None e (no h) =
          let l = all_long mt c sl 0 (length sl / 2) in
          rw (method_out (with_methods mt c sl 0 (length sl / 2)) m (omega arith)) (old_method m e None (rw (method_out mt m (omega arith)) at (M.is m)))

-- So it is where the loop is through.
pub adds_methods : {mt mt' : List ℕ} {c : ℕ} {sl : List ℕ} {j : ℕ} → Rowed mt c sl → Going mt mt' c sl j (length sl / 2) → length sl / 2 ≤ j → AddsMethods mt mt' c sl
adds_methods {mt} {mt'} {c} {sl} R G h = rw (going_end G h) (record {
  long = all_long mt c sl 0 (length sl / 2);
  answer = λ ns w top ce ci S M. record { is = each_method mt c sl R S M };
})
