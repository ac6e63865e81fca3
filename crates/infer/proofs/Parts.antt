-- A part of the rows is lent and comes back: the ways out of `onward`.
use mathlib.Core.Path.{◌≡◌, ap, sym, ◌∙◌}
use mathlib.Core.List.{List, [], ◌++◌, append-nil}
use Prim.Native.Nat.{ℕ, ◌*◌, ◌-◌, ◌<◌, ◌≤◌}
use native.Mathlib.Omega.{arith}
use lib.ListN.{length, get_or, take, drop, length-append, length-drop}
use lib.Seq.{length-take-le, take_all, drop-length, take_at, drop_at, get_or-take}
use Rattle.meaning.specs.Budget.{Out}
use Rattle.meaning.specs.Infer as M
use Rattle.inferred.specs.Inferring.{ReadyI, GivesI}
use Rattle.inferred.specs.Inferred.{Inferred}
use Rattle.infer.specs.Asking.{GivesO}

-- The rest of a list as a part of it.
pub part_is : (bs : List ℕ) (a k : ℕ) → k ≡ length bs - a → take k (drop a bs) ≡ drop a bs
part_is bs a k e = let z = length-drop a bs in take_all k (drop a bs) (omega arith)

module _ (bs bs₁ : List ℕ) (a k : ℕ) (e : k ≡ length bs - a) (h : a ≤ length bs) (l : length bs₁ ≡ length (take k (drop a bs))) where
  -- The list with the part as it came back.
  abbrev back : List ℕ
  back = take a bs ++ (bs₁ ++ drop k (drop a bs))

  -- The part of it.
  pub back_part : drop a back ≡ bs₁
  back_part =
      let z : k ≡ length (drop a bs) = e ∙ sym (length-drop a bs) in
      drop_at (take a bs) (bs₁ ++ drop k (drop a bs)) a (length-take-le a bs h) ∙ rw (z, drop-length (drop a bs)) (append-nil bs₁)

  -- What lies before it.
  pub back_before : (i : ℕ) → i < a → get_or back i 0 ≡ get_or bs i 0
  back_before i p =
      sym (get_or-take a back i 0 p) ∙ ap (λ (z : List ℕ). get_or z i 0) (take_at (take a bs) (bs₁ ++ drop k (drop a bs)) a (length-take-le a bs h)) ∙ get_or-take a bs i 0 p

  -- As long as it was.
  pub back_long : length back ≡ length bs
  back_long =
      let y = length-drop a bs in
      let x : length (take k (drop a bs)) ≡ length (drop a bs) = ap length (part_is bs a k e) in
      let z : drop k (drop a bs) ≡ [] = ap (λ (n : ℕ). drop n (drop a bs)) (e ∙ sym y) ∙ drop-length (drop a bs) in
      let v = length-take-le a bs h in
      length-append (take a bs) (bs₁ ++ drop k (drop a bs)) ∙ rw (z, append-nil bs₁) (omega arith)

  -- What the call gave, of the whole.
  pub onward_gives : {E : Type 0} {Of : E → Type 0} {o : E → Out (M.Inferred × M.State)} {ns w w' ev' od : List ℕ} {top left sp tv dv m : ℕ} {r : Inferred} → a ≡ 3 * m
      → GivesI Of o 0 0 0 ns w w' ev' od (take k (drop a bs)) bs₁ top left sp tv dv r → GivesO Of o ns w w' ev' od bs back top left sp tv dv m r
  onward_gives f G = record {
    gives = rw (← f, back_part, ← part_is bs a k e) G;
    before = λ i p. back_before i (omega arith);
    wide = back_long;
  }

-- What the call asks.
pub onward_asks : {ns w ev od il : List ℕ} {top left sp tv dv : ℕ} (m : ℕ) (bs : List ℕ) (a k : ℕ) → k ≡ length bs - a → a ≡ 3 * m → ReadyI 0 0 0 ns w ev od il (drop (3 * m) bs) top left sp tv dv
    → ReadyI 0 0 0 ns w ev od il (take k (drop a bs)) top left sp tv dv
onward_asks m bs a k e f R = rw (part_is bs a k e, f) R
