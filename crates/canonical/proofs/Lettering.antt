-- The loop of `letters`: one word after the other is chosen.
use mathlib.Core.Path.{◌≡◌, refl, ap, sym, ◌∙◌, subst}
use mathlib.Core.Bool.{Bool, true, false, not, ◌&&◌}
use mathlib.Core.List.{List, [], ◌∷◌, ◌++◌, append-nil}
use mathlib.Core.Option.{some}
use Prim.Native.Nat.{ℕ, zero, suc, ◌+◌, ◌<◌, ◌≤◌}
use native.Mathlib.Omega.{arith}
use native.Mathlib.Numerals.{add-one}
use lib.ListN.{length, take, set, length-set}
use Rattle.meaning.specs.Base.{nth}
use Rattle.meaning.specs.Text.{quoted, packed}
use Rattle.meaning.specs.Ast.{name, called, letter, TyVar, Qual}
use Rattle.meaning.specs.Map.{tyvars, elem}
use Rattle.meaning.specs.Subst.{ftv_qual}
use Rattle.meaning.specs.Cores.{canonical_renamer, as_subst}
use Rattle.meaning.specs.Generalize.{Env, env_ftv}
use Rattle.theorems.proofs.FreeVars.{elem-without, elem-ftv_qual, occurs_qual}
use Rattle.theorems.proofs.MadeGeneralized.{ftv_made, without_made}
use Rattle.theorems.proofs.MadeOrder.{once_ftv_qual, once_without}
use Rattle.names.specs.Names.{Names, first_fresh, first_nullary, tyvar_of}
use Rattle.names.proofs.Where.{is_named}
use Rattle.ast.specs.Table.{nil_word}
use Rattle.rows.specs.BuiltIns.{built_ins, BuiltIns}
use Rattle.rename.specs.Renaming.{Renames}
use Rattle.canonical.specs.Picks.{Least}
use Rattle.canonical.specs.Named.{bound, Lettered}
use Rattle.canonical.proofs.Chosen.{Chosen, full, over, next, chosen_renames}

-- ## the letters
-- The rows of the letters.
letter_row : (k : ℕ) → k < 26 → nth built_ins (9 + k) ≡ some (name (packed 32 ((97 + k) ∷ [])))
unfolding nth built_ins called packed quoted
letter_row zero h = refl
letter_row (suc zero) h = refl
letter_row (suc (suc zero)) h = refl
letter_row (suc (suc (suc zero))) h = refl
letter_row (suc (suc (suc (suc zero)))) h = refl
letter_row (suc (suc (suc (suc (suc zero))))) h = refl
letter_row (suc (suc (suc (suc (suc (suc zero)))))) h = refl
letter_row (suc (suc (suc (suc (suc (suc (suc zero))))))) h = refl
letter_row (suc (suc (suc (suc (suc (suc (suc (suc zero)))))))) h = refl
letter_row (suc (suc (suc (suc (suc (suc (suc (suc (suc zero))))))))) h = refl
letter_row (suc (suc (suc (suc (suc (suc (suc (suc (suc (suc zero)))))))))) h = refl
letter_row (suc (suc (suc (suc (suc (suc (suc (suc (suc (suc (suc zero))))))))))) h = refl
letter_row (suc (suc (suc (suc (suc (suc (suc (suc (suc (suc (suc (suc zero)))))))))))) h = refl
letter_row (suc (suc (suc (suc (suc (suc (suc (suc (suc (suc (suc (suc (suc zero))))))))))))) h = refl
letter_row (suc (suc (suc (suc (suc (suc (suc (suc (suc (suc (suc (suc (suc (suc zero)))))))))))))) h = refl
letter_row (suc (suc (suc (suc (suc (suc (suc (suc (suc (suc (suc (suc (suc (suc (suc zero))))))))))))))) h = refl
letter_row (suc (suc (suc (suc (suc (suc (suc (suc (suc (suc (suc (suc (suc (suc (suc (suc zero)))))))))))))))) h = refl
letter_row (suc (suc (suc (suc (suc (suc (suc (suc (suc (suc (suc (suc (suc (suc (suc (suc (suc zero))))))))))))))))) h = refl
letter_row (suc (suc (suc (suc (suc (suc (suc (suc (suc (suc (suc (suc (suc (suc (suc (suc (suc (suc zero)))))))))))))))))) h = refl
letter_row (suc (suc (suc (suc (suc (suc (suc (suc (suc (suc (suc (suc (suc (suc (suc (suc (suc (suc (suc zero))))))))))))))))))) h = refl
letter_row (suc (suc (suc (suc (suc (suc (suc (suc (suc (suc (suc (suc (suc (suc (suc (suc (suc (suc (suc (suc zero)))))))))))))))))))) h = refl
letter_row (suc (suc (suc (suc (suc (suc (suc (suc (suc (suc (suc (suc (suc (suc (suc (suc (suc (suc (suc (suc (suc zero))))))))))))))))))))) h = refl
letter_row (suc (suc (suc (suc (suc (suc (suc (suc (suc (suc (suc (suc (suc (suc (suc (suc (suc (suc (suc (suc (suc (suc zero)))))))))))))))))))))) h = refl
letter_row (suc (suc (suc (suc (suc (suc (suc (suc (suc (suc (suc (suc (suc (suc (suc (suc (suc (suc (suc (suc (suc (suc (suc zero))))))))))))))))))))))) h = refl
letter_row (suc (suc (suc (suc (suc (suc (suc (suc (suc (suc (suc (suc (suc (suc (suc (suc (suc (suc (suc (suc (suc (suc (suc (suc zero)))))))))))))))))))))))) h = refl
letter_row (suc (suc (suc (suc (suc (suc (suc (suc (suc (suc (suc (suc (suc (suc (suc (suc (suc (suc (suc (suc (suc (suc (suc (suc (suc zero))))))))))))))))))))))))) h = refl
letter_row (suc (suc (suc (suc (suc (suc (suc (suc (suc (suc (suc (suc (suc (suc (suc (suc (suc (suc (suc (suc (suc (suc (suc (suc (suc (suc k)))))))))))))))))))))))))) h = absurd (omega arith)

-- The word of the k-th letter.
pub letter_word : (ns : List ℕ) → BuiltIns ns → (k : ℕ) → k < 26 → tyvar_of ns (9 + k) ≡ letter k
unfolding tyvar_of letter
letter_word ns B k h = rw (is_named (9 + k) (omega arith)) (rw (B.is (9 + k) _ (letter_row k h)) refl)

-- ## the loop
-- A word written behind the first k of a list.
taken : (ls ms : List ℕ) (k x : ℕ) → k < length ls → take (suc k) (set ls k x) ++ ms ≡ take k ls ++ (x ∷ ms)
taken [] ms k x h = absurd (omega arith)
taken (l ∷ ls) ms zero x h = refl
taken (l ∷ ls) ms (suc k) x h = ap (λ (r : List ℕ). l ∷ r) (taken ls ms k x (omega arith))

-- What is chosen from `from` on comes behind the first k words of out.
pub record Lettering (ns : List ℕ) (q : Qual) (env : Env) (out : List ℕ) (from k : ℕ) : Type 0 where
  pub few : k ≤ 26
  pub long : 26 ≤ length out
  pub is : (ls : List ℕ) → Chosen ns (bound q env) from k ls → Chosen ns (bound q env) first_fresh 0 (take k out ++ ls)

-- At first nothing was chosen.
pub lettering : (ns : List ℕ) (q : Qual) (env : Env) (out : List ℕ) → 26 ≤ length out → Lettering ns q env out first_fresh 0
lettering ns q env out h = record { few = omega arith; long = h; is = λ ls C. C }

-- A variable is bound where it occurs and the environment has it not.
pub bound_yes : (v : TyVar) (q : Qual) (env : Env) → occurs_qual v q ≡ true → elem tyvars v (env_ftv env) ≡ false → elem tyvars v (bound q env) ≡ true
bound_yes v q env e f = elem-without v (ftv_qual q) (env_ftv env) ∙ rw (elem-ftv_qual v q, e, f) refl

-- It is not where the environment has it wherever it occurs.
bound_no : (v : TyVar) (q : Qual) (env : Env) → (occurs_qual v q ≡ true → elem tyvars v (env_ftv env) ≡ true) → elem tyvars v (bound q env) ≡ false
bound_no v q env h = elem-without v (ftv_qual q) (env_ftv env) ∙ rw (elem-ftv_qual v q) (go (occurs_qual v q) h)
  where
    go : (b : Bool) → (b ≡ true → elem tyvars v (env_ftv env) ≡ true) → (b && not (elem tyvars v (env_ftv env))) ≡ false
    go true h = rw (h refl) refl
    go false h = refl

module _ {ns : List ℕ} {q : Qual} {env : Env} {out : List ℕ} {from k x : ℕ} (G : Lettering ns q env out from k)
    (L : Least ns (env_ftv env) (λ v. occurs_qual v q) from first_nullary x) where
  -- There is no more word.
  none_left : first_nullary ≤ x → Chosen ns (bound q env) from k []
  none_left h = over (λ y f b. bound_no (tyvar_of ns y) q env (L.least y f (omega arith)))

  -- One more is chosen.
  pub letters_on : {out' : List ℕ} → k < 26 → x < first_nullary → out' ≡ set out k x → Lettering ns q env out' (x + 1) (k + 1)
  letters_on {out'} h b e =
      let f = L.found b in
      let o = G.long in
      rw (add-one x, add-one k, e) (record {
        few = h;
        long = rw (length-set out k x) o;
        is = λ ls C. subst (Chosen ns (bound q env) first_fresh 0) (sym (taken out ls k x (omega arith)))
            (G.is (x ∷ ls) (next x h f.0 b (bound_yes (tyvar_of ns x) q env f.1.0 f.1.1) (λ y g l. bound_no (tyvar_of ns y) q env (L.least y g l)) C));
      })

-- What all chosen words give.
all_lettered : {ns : List ℕ} {q : Qual} {env : Env} {out : List ℕ} {k : ℕ} (w : List ℕ) → Names ns → k ≤ 26 → Chosen ns (bound q env) first_fresh 0 (take k out ++ []) → Lettered ns w q env out k
all_lettered {ns} {q} {env} {out} {k} w N h C = record {
  most = h;
  renames = λ B m. subst (λ (ls : List ℕ). Renames ns w nil_word 0 ls (as_subst (canonical_renamer (bound q env)))) (append-nil (take k out))
      (chosen_renames N (letter_word ns B) w (without_made (ftv_qual q) (env_ftv env) (ftv_made q m)) (once_without (ftv_qual q) (env_ftv env) (once_ftv_qual q)) C);
}

module _ {ns : List ℕ} {q : Qual} {env : Env} {out : List ℕ} {from k : ℕ} (w : List ℕ) (N : Names ns) (G : Lettering ns q env out from k) where
  -- All 26 are chosen.
  pub letters_full : 26 ≤ k → Lettered ns w q env out k
  letters_full h = all_lettered w N G.few (G.is [] (full k h))

  -- There are no more.
  pub letters_over : {x : ℕ} → Least ns (env_ftv env) (λ v. occurs_qual v q) from first_nullary x → first_nullary ≤ x → Lettered ns w q env out k
  letters_over L h = all_lettered w N G.few (G.is [] (none_left G L h))
