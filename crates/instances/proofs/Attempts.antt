-- The ways out of one attempt: `try_match`, `try_instance`, `overlaps` and `overlaps_instance`.
use Prim.Native.Nat.{ℕ, ◌*◌, ◌-◌, ◌<◌, ◌≤◌}
use native.Mathlib.Omega.{arith}
use mathlib.Core.Path.{◌≡◌, refl, ap, ◌∙◌}
use mathlib.Core.Bool.{Bool, true, false}
use mathlib.Core.List.{List}
use mathlib.Core.Option.{Option, none, some}
use lib.ListN.{length, get_or}
use Rattle.std.specs.Prelude.{Option as Maybe, Some, None, Ok, is_some}
use Rattle.meaning.specs.Ast.{Ty, pred}
use Rattle.meaning.specs.Errors.{added}
use Rattle.meaning.specs.Budget.{Out, done, settled}
use Rattle.meaning.specs.Subst.{Subst}
use Rattle.meaning.specs.Unify.{match_in, match_pred}
use Rattle.meaning.specs.Classes.{or_back, overlaps}
use Rattle.names.specs.Names.{name_of}
use Rattle.names.proofs.Tests.{lt_yes, lt_no}
use Rattle.names.proofs.Distinct.{name_of_same}
use Rattle.ast.specs.Table.{tree}
use Rattle.ast.proofs.Laws.{kept_tree, cons_head}
use Rattle.errors.specs.Refusals.{Numbered, Refuses}
use Rattle.errors.specs.declared.Refusal.{Refusal}
use Rattle.pairs.specs.Pairs.{sub_at}
use Rattle.pairs.proofs.Frames.{stands_refl, stands_then, stands_node}
use Rattle.apply.specs.Applied.{Applied}
use Rattle.apply.specs.Applied.{Done, Refused}
use Rattle.apply.proofs.Hand.{Then, then_done, refuse_on, refuse_same}
use Rattle.compose.specs.Answers.{GrownU, GivesU, ReadyU}
use Rattle.compose.proofs.Hand.{got, lost}
use Rattle.matching.proofs.Heads.{names_same, names_not}
use Rattle.instances.specs.Accepted.{Opened, head_of}
use Rattle.instances.specs.Picks.{tried, clash, ReadyPick, Tries, TruthAs, Tests}
use Rattle.instances.specs.Tried.{Tried, Got, Failed, Limit, tried_of}
use Rattle.instances.specs.Truth.{Truth, Yes, No, Refused as Truth-Refused, truth_of}
use Rattle.instances.proofs.Held.{opened_head}

-- ## try_match: G is what `match_ty` gave

module _ {ns w w₁ : List ℕ} {top left sp : ℕ} {o : Out Subst} {r : Applied} (G : GivesU 1 0 ns w w₁ top left sp o r) where
  -- A match.
  pub try_got : {k t l : ℕ} → r ≡ Done k t l → Tries ns w w₁ top left sp (settled o) (Got k t l)
  unfolding settled
  try_got h = record { stands = G.stands; answer = (rw (got G h).0, (got G h).1) }

  module _ {e : Refusal} {t l n : ℕ} (h : r ≡ Refused e t l) (N : Numbered e n) where
    -- A refusal that the port adds stays one.
    pub try_limit : n < 11 → Tries ns w w₁ top left sp (settled o) (Limit e t l)
    unfolding settled added
    try_limit small =
        let R = lost G h in
        record { stands = G.stands; answer = record { is = rw (R.is, ← N.is ns w₁, lt_yes n 11 small); types = R.types; more = R.more; down = R.down } }

    -- An error of the Rust is no match.
    pub try_failed : 11 ≤ n → Tries ns w w₁ top left sp (settled o) (Failed l)
    unfolding settled added
    try_failed big = let R = lost G h in record { stands = G.stands; answer = (rw (R.is, ← N.is ns w₁, lt_no n 11 big), R.down) }

-- What an attempt gave, by the arm of the match.
module _ {ns w w₁ : List ℕ} {top left sp : ℕ} {o : Out (Option Subst)} {r : Tried} (G : Tries ns w w₁ top left sp o r) where
  -- A match.
  pub match_got : {k t l : ℕ} → r ≡ Got k t l → (o ≡ done (some (sub_at ns w₁ (sp - 2 * k) k)) l) × GrownU 1 0 ns w₁ top left sp t l k
  match_got h = rw h at G.answer

  -- None.
  pub match_failed : {l : ℕ} → r ≡ Failed l → (o ≡ done none l) × (l ≤ left)
  match_failed h = rw h at G.answer

  -- A refusal.
  pub match_limit : {e : Refusal} {t l : ℕ} → r ≡ Limit e t l → Refuses ns w₁ top left o e t l
  match_limit h = rw h at G.answer

-- ## try_instance and overlaps_instance: an instance of the class c₁ at a, and a goal of the class c

-- What the match and the test of its head ask.
pub instance_ready : {ns w il : List ℕ} {top left sp t i c a b : ℕ} → ReadyPick ns w il top left sp t → i < length il → Opened w (get_or il i 0) c a b → ReadyU ns w top left sp a t
instance_ready R h O = record { names = R.names; first = (cons_head (R.heads.node _ h) refl O.cell).1; second = R.node; room = R.room; fits = R.fits }

module _ {ns w il : List ℕ} {top left sp t : ℕ} (R : ReadyPick ns w il top left sp t) {l c₁ a b : ℕ} (O : Opened w l c₁ a b) (c : ℕ) where
  module _ (h : c₁ ≡ c → ⊥) where
    -- Their names differ.
    other : name_of ns c₁ ≡ name_of ns c → ⊥
    other e = h (name_of_same ns R.names c₁ c e)

    -- Of another class: no match.
    pub instance_other : Tries ns w w top left sp (tried (head_of ns w l) (pred (name_of ns c) (tree ns w t)) left) (Failed left)
    unfolding tried
    instance_other = record { stands = stands_refl _ _ _; answer = (rw (opened_head ns O, names_not other), omega arith) }

    -- And no overlap.
    pub clash_other : Tests ns w w top left sp (clash (head_of ns w l) (pred (name_of ns c) (tree ns w t)) left) (No left)
    unfolding clash
    clash_other = record { stands = stands_refl _ _ _; answer = (rw (opened_head ns O, names_not other), omega arith) }

  module _ (h : c₁ ≡ c) where
    -- Of the same class: what the types give.
    pub instance_same : {w₁ : List ℕ} {r : Tried} → Tries ns w w₁ top left sp (settled (match_in 256 (tree ns w a) (tree ns w t) left)) r
        → Tries ns w w₁ top left sp (tried (head_of ns w l) (pred (name_of ns c) (tree ns w t)) left) r
    unfolding tried match_pred
    instance_same G = rw (opened_head ns O, names_same (ap (name_of ns) h)) G

    -- The same of the overlap.
    pub clash_same : {w₁ : List ℕ} {r : Truth} → Tests ns w w₁ top left sp (overlaps (tree ns w a) (tree ns w t) left) r
        → Tests ns w w₁ top left sp (clash (head_of ns w l) (pred (name_of ns c) (tree ns w t)) left) r
    unfolding clash
    clash_same G = rw (opened_head ns O, names_same (ap (name_of ns) h)) G

-- ## overlaps_back: G is what the match of b with a gave

-- What `try_match` asks.
pub turned_ready : {ns w : List ℕ} {top left sp a b : ℕ} → ReadyU ns w top left sp a b → ReadyU ns w top left sp b a
turned_ready R = record { names = R.names; first = R.second; second = R.first; room = R.room; fits = R.fits }

-- The second way, by its match.
back_then : (a b : Ty) (n : ℕ) → Then (or_back none a b n) (settled (match_in 256 b a n)) (λ r. λ m. done (elim r [ none ↦ false | some s ↦ true ]) m)
unfolding or_back
back_then a b n = record { is = refl }

module _ {ns w w₁ : List ℕ} {top left sp a b : ℕ} (R : ReadyU ns w top left sp a b) {r : Tried}
    (G : Tries ns w w₁ top left sp (settled (match_in 256 (tree ns w b) (tree ns w a) left)) r) where
  -- There is one.
  pub back_yes : {k t l : ℕ} → r ≡ Got k t l → Tests ns w w₁ top left sp (or_back none (tree ns w a) (tree ns w b) left) (Yes l)
  back_yes h = let d = (match_got G h).1.down in record { stands = G.stands; answer = (then_done _ _ (back_then _ _ left) (match_got G h).0, omega arith) }

  -- There is none.
  pub back_no : {l : ℕ} → r ≡ Failed l → Tests ns w w₁ top left sp (or_back none (tree ns w a) (tree ns w b) left) (No l)
  back_no h = record { stands = G.stands; answer = (then_done _ _ (back_then _ _ left) (match_failed G h).0, (match_failed G h).1) }

  -- Either, by whether there is one.
  pub back_told : {q : Bool} (x : Maybe ℕ) (t t' l : ℕ) → r ≡ tried_of (Ok x) t l → q ≡ is_some x → Tests ns w w₁ top left sp (or_back none (tree ns w a) (tree ns w b) left) (truth_of (Ok q) t' l)
  back_told (Some k) t t' l h e = rw e (back_yes h)
  back_told None t t' l h e = rw e (back_no h)

  -- It is refused.
  pub back_refused : {e : Refusal} {t l : ℕ} → r ≡ Limit e t l → Tests ns w w₁ top left sp (or_back none (tree ns w a) (tree ns w b) left) (Truth-Refused e t l)
  back_refused h = record { stands = G.stands; answer = refuse_on (back_then _ _ left) (match_limit G h) (omega arith) (omega arith) }

-- ## overlaps: G is what the match of a with b gave

-- Both ways, by the first one's match.
both_then : (a b : Ty) (n : ℕ) → Then (overlaps a b n) (settled (match_in 256 a b n)) (λ r. or_back r a b)
unfolding overlaps
both_then a b n = record { is = refl }

-- A truth for a caller that began with no fewer steps.
truth_on : (ns w : List ℕ) (top left l : ℕ) (o o' : Out Bool) (r : Truth) → o ≡ o' → l ≤ left → TruthAs ns w top l o' r → TruthAs ns w top left o r
truth_on ns w top left l o o' (Yes n) e h a = let d = a.1 in (e ∙ a.0, omega arith)
truth_on ns w top left l o o' (No n) e h a = let d = a.1 in (e ∙ a.0, omega arith)
truth_on ns w top left l o o' (Truth-Refused u t n) e h a = refuse_same e a (omega arith) h

module _ {ns w w₁ : List ℕ} {top left sp a b : ℕ} (R : ReadyU ns w top left sp a b) {r : Tried}
    (G : Tries ns w w₁ top left sp (settled (match_in 256 (tree ns w a) (tree ns w b) left)) r) where
  -- There is one.
  pub overlaps_yes : {k t l : ℕ} → r ≡ Got k t l → Tests ns w w₁ top left sp (overlaps (tree ns w a) (tree ns w b) left) (Yes l)
  unfolding or_back
  overlaps_yes h = let d = (match_got G h).1.down in record { stands = G.stands; answer = (then_done _ _ (both_then _ _ left) (match_got G h).0, omega arith) }

  -- It is refused.
  pub overlaps_refused : {e : Refusal} {t l : ℕ} → r ≡ Limit e t l → Tests ns w w₁ top left sp (overlaps (tree ns w a) (tree ns w b) left) (Truth-Refused e t l)
  overlaps_refused h = record { stands = G.stands; answer = refuse_on (both_then _ _ left) (match_limit G h) (omega arith) (omega arith) }

  module _ {l : ℕ} (h : r ≡ Failed l) where
    -- The other way is next.
    pub back_ready : length w₁ ≡ length w → ReadyU ns w₁ top l sp a b
    back_ready e =
        let d = (match_failed G h).1 in
        let m = R.room in
        let f = R.fits in
        record { names = R.names; first = stands_node G.stands (omega arith) R.first; second = stands_node G.stands (omega arith) R.second; room = omega arith; fits = omega arith }

    -- And says it.
    pub overlaps_back : {w₂ : List ℕ} {v : Truth} → Tests ns w₁ w₂ top l sp (or_back none (tree ns w₁ a) (tree ns w₁ b) l) v
        → Tests ns w w₂ top left sp (overlaps (tree ns w a) (tree ns w b) left) v
    overlaps_back {w₂} {v} T = record {
      stands = stands_then G.stands T.stands (omega arith);
      answer = truth_on ns w₂ top left l _ _ v
          (then_done _ _ (both_then _ _ left) (match_failed G h).0 ∙ rw (kept_tree ns G.stands.low R.first, kept_tree ns G.stands.low R.second))
          (match_failed G h).1 T.answer;
    }
