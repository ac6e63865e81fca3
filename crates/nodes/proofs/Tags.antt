-- What follows a tag byte, and the nodes that have one.
use mathlib.Core.Path.{◌≡◌, refl}
use mathlib.Core.Bool.{true, false}
use mathlib.Core.List.{List, [], ◌∷◌}
use mathlib.Core.Option.{none, some}
use Prim.Native.Nat.{ℕ, zero, suc, ◌+◌, ◌<◌, ◌≤◌}
use native.Mathlib.Omega.{arith}
use Rattle.meaning.specs.Base.{count, nth}
use Rattle.meaning.specs.Errors.{format}
use Rattle.meaning.specs.Reader.{got, Reader, onward, from, item, numeral, tagged, one_of, pair}
use Rattle.meaning.specs.File.{variable, word, var_node, con_node, arrow_node, type_node, evar_node, int_node, bool_node, abs_node, app_node, let_node, expr_node, class_entry, instance_entry, let_entry, check_entry, decl_entry}
use Rattle.errors.specs.declared.Refusal.TheVariants.{Format}
use Rattle.std.specs.Prelude.{Result, Ok, Err}
use Rattle.errors.specs.declared.Refusal.{Refusal}
use Rattle.std.specs.Prelude.{Some, None}
use Rattle.reader.specs.Verdicts.{IsField}
use Rattle.reader.proofs.Counts.{item_got, item_fails, item_bad}
use Rattle.reader.proofs.Sequence.{goes_with, stops, ends, paired}
use Rattle.nodes.specs.Known.{Before, Any, Gives}

nth_past : {A : Type 0} (xs : List A) (n : ℕ) → count xs ≤ n → nth xs n ≡ none
unfolding nth count
nth_past [] n h = refl
nth_past (x ∷ xs) zero h = absurd (omega arith)
nth_past (x ∷ xs) (suc n) h = nth_past xs n (omega arith)

module _ {A : Type 0} (P : Before → Type 0) (bytes : List ℕ) (rs : Before → List (Reader A)) (at : ℕ) where
  -- The tag chooses the reader r.
  pub tag_goes : (r : Before → Reader A) (t : ℕ) (q : Result ℕ Refusal) → IsField 1 bytes at (Some t) → ((s : Before) → nth (rs s) t ≡ some (r s))
      → Gives P bytes r (at + 1) q → Gives P bytes (λ s. tagged (rs s)) at q
  unfolding tagged
  tag_goes r t q f h g = record {
    is = λ s k.
        goes_with bytes (item format (numeral 1) (nth (rs s)) at (from at bytes)) _ (r s) (at + 1) q
        (item_got format (numeral 1) (nth (rs s)) at _ t (r s) _ _ f.is.0 (h s)) (g.is s k);
  }

  -- The tag is unknown, or cut.
  pub tag_unknown : (t m : ℕ) → IsField 1 bytes at (Some t) → ((s : Before) → count (rs s) ≡ m) → m ≤ t → Gives P bytes (λ s. tagged (rs s)) at (Err (Format at))
  unfolding tagged
  tag_unknown t m f h i = record {
    is = λ s k.
        stops (item format (numeral 1) (nth (rs s)) at (from at bytes)) _ _
        (item_fails format (numeral 1) (nth (rs s)) at _ t _ _ f.is.0 (nth_past (rs s) t (let e = h s in omega arith)));
  }

  pub tag_cut : IsField 1 bytes at None → Gives P bytes (λ s. tagged (rs s)) at (Err (Format at))
  unfolding tagged
  tag_cut f = record { is = λ s k. stops (item format (numeral 1) (nth (rs s)) at (from at bytes)) _ _ (item_bad format (numeral 1) (nth (rs s)) at _ _ f.is) }

-- ## what the code reads as a pair or alone
module _ {A B : Type 0} (P : Before → Type 0) (bytes : List ℕ) (at : ℕ) (q : Result ℕ Refusal) where
  pub put : (r : Before → Reader A) (f : A → B) → Gives P bytes r at q → Gives P bytes (λ s at₁ bs. onward (r s at₁ bs) (λ a at₂ bs₂. got (f a) at₂ bs₂)) at q
  put r f g = record { is = λ s k. ends bytes (r s at (from at bytes)) f q (g.is s k) }

module _ {A B C : Type 0} (P : Before → Type 0) (bytes : List ℕ) (at : ℕ) (q : Result ℕ Refusal) where
  pub put_two : (r : Before → Reader A) (r₂ : Before → Reader B) (f : A → B → C) → Gives P bytes (λ s. pair (r s) (r₂ s)) at q
      → Gives P bytes (λ s at₁ bs. onward (r s at₁ bs) (λ a at₂ bs₂. onward (r₂ s at₂ bs₂) (λ b at₃ bs₃. got (f a b) at₃ bs₃))) at q
  put_two r r₂ f g = record { is = λ s k. paired bytes (r s) (r₂ s) f at (from at bytes) q (g.is s k) }

-- ## types
module _ (P : Before → Type 0) (bytes : List ℕ) (at t : ℕ) (q : Result ℕ Refusal) (f : IsField 1 bytes at (Some t)) where
  pub type_var : t ≡ 0 → Gives P bytes (λ s. variable s.names) (at + 1) q → Gives P bytes (λ s. type_node s.names s.types) at q
  unfolding type_node nth var_node
  type_var e g = tag_goes P bytes _ at (λ s. var_node s.names) t q f (λ s. rw e refl) (put P bytes (at + 1) q _ _ g)

  pub type_con : t ≡ 1 → Gives P bytes (λ s. con_node s.names s.types) (at + 1) q → Gives P bytes (λ s. type_node s.names s.types) at q
  unfolding type_node nth
  type_con e g = tag_goes P bytes _ at (λ s. con_node s.names s.types) t q f (λ s. rw e refl) g

  pub type_arrow : t ≡ 2 → Gives P bytes (λ s. pair (one_of s.types) (one_of s.types)) (at + 1) q → Gives P bytes (λ s. type_node s.names s.types) at q
  unfolding type_node nth arrow_node
  type_arrow e g = tag_goes P bytes _ at (λ s. arrow_node s.types) t q f (λ s. rw e refl) (put_two P bytes (at + 1) q _ _ _ g)

  -- ## expressions
  pub expr_var : t ≡ 0 → Gives P bytes (λ s. word s.names) (at + 1) q → Gives P bytes (λ s. expr_node s.names s.exprs) at q
  unfolding expr_node nth evar_node
  expr_var e g = tag_goes P bytes _ at (λ s. evar_node s.names) t q f (λ s. rw e refl) (put P bytes (at + 1) q _ _ g)

  pub expr_int : t ≡ 1 → Gives Any bytes (λ s. int_node) (at + 1) q → Gives P bytes (λ s. expr_node s.names s.exprs) at q
  unfolding expr_node nth
  expr_int e g = tag_goes P bytes _ at (λ s. int_node) t q f (λ s. rw e refl) (record { is = λ s k. g.is s tt })

  pub expr_bool : t ≡ 2 → Gives Any bytes (λ s. bool_node) (at + 1) q → Gives P bytes (λ s. expr_node s.names s.exprs) at q
  unfolding expr_node nth
  expr_bool e g = tag_goes P bytes _ at (λ s. bool_node) t q f (λ s. rw e refl) (record { is = λ s k. g.is s tt })

  pub expr_abs : t ≡ 3 → Gives P bytes (λ s. pair (word s.names) (one_of s.exprs)) (at + 1) q → Gives P bytes (λ s. expr_node s.names s.exprs) at q
  unfolding expr_node nth abs_node
  expr_abs e g = tag_goes P bytes _ at (λ s. abs_node s.names s.exprs) t q f (λ s. rw e refl) (put_two P bytes (at + 1) q _ _ _ g)

  pub expr_app : t ≡ 4 → Gives P bytes (λ s. pair (one_of s.exprs) (one_of s.exprs)) (at + 1) q → Gives P bytes (λ s. expr_node s.names s.exprs) at q
  unfolding expr_node nth app_node
  expr_app e g = tag_goes P bytes _ at (λ s. app_node s.exprs) t q f (λ s. rw e refl) (put_two P bytes (at + 1) q _ _ _ g)

  pub expr_let : t ≡ 5 → Gives P bytes (λ s. let_node s.names s.exprs) (at + 1) q → Gives P bytes (λ s. expr_node s.names s.exprs) at q
  unfolding expr_node nth
  expr_let e g = tag_goes P bytes _ at (λ s. let_node s.names s.exprs) t q f (λ s. rw e refl) g

  -- ## declarations
  pub decl_class : t ≡ 0 → Gives P bytes (λ s. class_entry s.names s.types s.exprs) (at + 1) q → Gives P bytes (λ s. decl_entry s.names s.types s.exprs) at q
  unfolding decl_entry nth
  decl_class e g = tag_goes P bytes _ at (λ s. class_entry s.names s.types s.exprs) t q f (λ s. rw e refl) g

  pub decl_instance : t ≡ 1 → Gives P bytes (λ s. instance_entry s.names s.types s.exprs) (at + 1) q → Gives P bytes (λ s. decl_entry s.names s.types s.exprs) at q
  unfolding decl_entry nth
  decl_instance e g = tag_goes P bytes _ at (λ s. instance_entry s.names s.types s.exprs) t q f (λ s. rw e refl) g

  pub decl_let : t ≡ 2 → Gives P bytes (λ s. pair (word s.names) (one_of s.exprs)) (at + 1) q → Gives P bytes (λ s. decl_entry s.names s.types s.exprs) at q
  unfolding decl_entry nth let_entry
  decl_let e g = tag_goes P bytes _ at (λ s. let_entry s.names s.exprs) t q f (λ s. rw e refl) (put_two P bytes (at + 1) q _ _ _ g)

  pub decl_check : t ≡ 3 → Gives P bytes (λ s. one_of s.exprs) (at + 1) q → Gives P bytes (λ s. decl_entry s.names s.types s.exprs) at q
  unfolding decl_entry nth check_entry
  decl_check e g = tag_goes P bytes _ at (λ s. check_entry s.exprs) t q f (λ s. rw e refl) (put P bytes (at + 1) q _ _ g)

-- ## unknown and cut tags
module _ (P : Before → Type 0) (bytes : List ℕ) (at : ℕ) where
  pub type_unknown : (t : ℕ) → IsField 1 bytes at (Some t) → 3 ≤ t → Gives P bytes (λ s. type_node s.names s.types) at (Err (Format at))
  unfolding type_node count
  type_unknown t f h = tag_unknown P bytes _ at t 3 f (λ s. refl) h

  pub type_cut : IsField 1 bytes at None → Gives P bytes (λ s. type_node s.names s.types) at (Err (Format at))
  unfolding type_node
  type_cut f = tag_cut P bytes _ at f

  pub expr_unknown : (t : ℕ) → IsField 1 bytes at (Some t) → 6 ≤ t → Gives P bytes (λ s. expr_node s.names s.exprs) at (Err (Format at))
  unfolding expr_node count
  expr_unknown t f h = tag_unknown P bytes _ at t 6 f (λ s. refl) h

  pub expr_cut : IsField 1 bytes at None → Gives P bytes (λ s. expr_node s.names s.exprs) at (Err (Format at))
  unfolding expr_node
  expr_cut f = tag_cut P bytes _ at f

  pub decl_unknown : (t : ℕ) → IsField 1 bytes at (Some t) → 4 ≤ t → Gives P bytes (λ s. decl_entry s.names s.types s.exprs) at (Err (Format at))
  unfolding decl_entry count
  decl_unknown t f h = tag_unknown P bytes _ at t 4 f (λ s. refl) h

  pub decl_cut : IsField 1 bytes at None → Gives P bytes (λ s. decl_entry s.names s.types s.exprs) at (Err (Format at))
  unfolding decl_entry
  decl_cut f = tag_cut P bytes _ at f

-- ## literals
module _ (bytes : List ℕ) (at : ℕ) where
  pub int_is : (v : ℕ) → IsField 8 bytes at (Some v) → Gives Any bytes (λ s. int_node) at (Ok (at + 8))
  unfolding int_node
  int_is v f = record { is = λ s k. ends bytes (numeral 8 at (from at bytes)) _ (Ok (at + 8)) (record { value = v; is = f.is.0; within = f.is.1 }) }

  pub int_cut : IsField 8 bytes at None → Gives Any bytes (λ s. int_node) at (Err (Format at))
  unfolding int_node
  int_cut f = record { is = λ s k. stops (numeral 8 at (from at bytes)) _ _ f.is }

  pub bool_over : (v : ℕ) → IsField 1 bytes at (Some v) → 2 ≤ v → Gives Any bytes (λ s. bool_node) at (Err (Format at))
  unfolding bool_node count
  bool_over v f h = record {
    is = λ s k. stops (item format (numeral 1) (nth (false ∷ true ∷ [])) at (from at bytes)) _ _
        (item_fails format (numeral 1) (nth (false ∷ true ∷ [])) at _ v _ _ f.is.0 (nth_past (false ∷ true ∷ []) v h));
  }

  pub bool_cut : IsField 1 bytes at None → Gives Any bytes (λ s. bool_node) at (Err (Format at))
  unfolding bool_node
  bool_cut f = record { is = λ s k. stops (item format (numeral 1) (nth (false ∷ true ∷ [])) at (from at bytes)) _ _ (item_bad format (numeral 1) (nth (false ∷ true ∷ [])) at _ _ f.is) }

  pub bool_is : (v : ℕ) → IsField 1 bytes at (Some v) → v < 2 → Gives Any bytes (λ s. bool_node) at (Ok (at + 1))
  unfolding bool_node nth
  bool_is zero f h = record {
    is = λ s k. ends bytes (item format (numeral 1) (nth (false ∷ true ∷ [])) at (from at bytes)) _ (Ok (at + 1))
        (record { value = false; is = item_got format (numeral 1) (nth (false ∷ true ∷ [])) at _ 0 false _ _ f.is.0 refl; within = f.is.1 });
  }
  bool_is (suc zero) f h = record {
    is = λ s k. ends bytes (item format (numeral 1) (nth (false ∷ true ∷ [])) at (from at bytes)) _ (Ok (at + 1))
        (record { value = true; is = item_got format (numeral 1) (nth (false ∷ true ∷ [])) at _ 1 true _ _ f.is.0 refl; within = f.is.1 });
  }
  bool_is (suc (suc v)) f h = absurd (omega arith)
