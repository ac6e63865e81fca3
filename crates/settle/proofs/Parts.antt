-- Rows of a part of a slice, and what sorting and replacing ask and give.
use mathlib.Core.Path.{◌≡◌, refl, ap, sym, ◌∙◌, subst}
use mathlib.Core.List.{List, ◌++◌}
use mathlib.Core.Logic.{inl, inr}
use Prim.Native.Nat.{ℕ, ◌+◌, ◌*◌, ◌-◌, ◌<◌, ◌≤◌}
use native.Mathlib.Omega.{arith}
use lib.ListN.{length, get_or, take, drop, length-drop, get_or-append}
use lib.Seq.{get_or-take, get_or-drop, get_or-append-add}
use lib.Seq.{length-take-le}
use Rattle.meaning.specs.Ast.{TyVar, Binder}
use Rattle.ast.specs.Table.{Table}
use Rattle.ast.proofs.Laws.{node_more}
use Rattle.errors.specs.declared.Refusal.{Refusal}
use Rattle.pairs.proofs.Frames.{stands_then, stands_up}
use Rattle.apply.specs.Applied.{Applied}
use Rattle.apply.specs.Applied.{Done, Refused}
use Rattle.cores.specs.Terms.{core}
use Rattle.supers.specs.Rows.{row_at, TypeIn, HasWord}
use Rattle.supers.specs.declared.rows.Row.{Row}
use Rattle.supers.specs.declared.rows.Row.TheVariants.{Pending, Replaced}
use Rattle.simplify.specs.Simplified.{ReadySimplify, Simplifies, GivesSimplified, RowLeft, RowMade}
use Rattle.simplify.specs.Simplified.{Simplified}
use Rattle.simplify.specs.Simplified.{Done as Simplified-Done, Refused as Simplified-Refused}
use Rattle.terms.specs.Rows.{TermIn, ReadyTerm}
use Rattle.terms.specs.Answers.{AnswerFor, GivesTerm}
use Rattle.pending.specs.Owned.{ReadyOwn, Aliased, GivesAliased, GivesDeferred}
use Rattle.settle.specs.Answers.{GivesSorted, ReadyReplace, Simplifying, walk_out, ReplacedAs, GivesReplaced, GivesFrom}

-- ## sort_out

-- A row's name has a word still, if an earlier row has its predicate.
alias_word : (fs es : List TyVar) (ns w : List ℕ) (os : List Binder) (r r' : Row) → HasWord r → Aliased fs es ns w os r r' → HasWord r'
alias_word fs es ns w os (Pending d c t) (Pending d' c' t') h a = subst (λ (q : Row). HasWord q) (sym a.0) h
alias_word fs es ns w os (Pending d c t) (Replaced d' x) h a = tt
alias_word fs es ns w os (Replaced d x) (Pending d' c' t') h a = absurd a
alias_word fs es ns w os (Replaced d x) (Replaced d' x') h a = tt

-- Its type.
alias_type : (fs es : List TyVar) (ns w : List ℕ) (os : List Binder) (top : ℕ) (r r' : Row) → TypeIn w top r → Aliased fs es ns w os r r' → TypeIn w top r'
alias_type fs es ns w os top (Pending d c t) (Pending d' c' t') h a = subst (λ (q : Row). TypeIn w top q) (sym a.0) h
alias_type fs es ns w os top (Pending d c t) (Replaced d' x) h a = tt
alias_type fs es ns w os top (Replaced d x) (Pending d' c' t') h a = absurd a
alias_type fs es ns w os top (Replaced d x) (Replaced d' x') h a = tt

-- The rows between stand for binders too.
pub sort_ready : {fs es : List TyVar} {ns w ev od bs mid : List ℕ} {top n t : ℕ} → ReadyOwn ns w ev od bs top n t → length mid ≡ length bs → GivesAliased fs es ns w bs mid n → ReadyOwn ns w ev od mid top n t
sort_ready {fs} {es} {ns} {w} {bs = bs} {mid = mid} {top = top} {n = n} R l A = record {
  names = R.names;
  scope = R.scope;
  type = R.type;
  binders = record {
    rows = record { fits = (let f = R.binders.rows.fits in omega arith); dicts = λ j k. alias_word fs es ns w _ (row_at bs j) (row_at mid j) (R.binders.rows.dicts j k) (A.rows j k) };
    types = λ j k. alias_type fs es ns w _ top (row_at bs j) (row_at mid j) (R.binders.types j k) (A.rows j k);
  };
}

-- Both calls together.
pub sort_done : {fs es : List TyVar} {ns w bs mid bs' : List ℕ} {n nd : ℕ} → length mid ≡ length bs → GivesAliased fs es ns w bs mid n → GivesDeferred fs es ns w mid bs' n nd → GivesSorted fs es ns w bs bs' n nd
sort_done {mid = mid} l A D = record { mid = mid; long = l; aliased = A; deferred = D }

-- ## replace

-- What the simplification asks.
pub simplify_ready : {ns w bs : List ℕ} {top left sp n e : ℕ} → ReadyReplace ns w bs top left sp n e → ReadySimplify ns w bs top left sp n
simplify_ready R = record { names = R.names; table = R.term.table; binders = R.binders; room = R.room; fits = R.fits }

-- What replaces a row is a word of the grown table.
left_term : (w w₁ : List ℕ) (top top₁ : ℕ) (r r' : Row) → Table w₁ top₁ → top ≤ top₁ → TermIn w top r → RowLeft r r' → RowMade w₁ top₁ r r' → TermIn w₁ top₁ r'
left_term w w₁ top top₁ (Pending d c t) (Pending d' c' t') T m h l k = tt
left_term w w₁ top top₁ (Pending d c t) (Replaced d' x) T m h l k = k
left_term w w₁ top top₁ (Replaced d x) (Pending d' c' t') T m h l k = absurd l
left_term w w₁ top top₁ (Replaced d x) (Replaced d' x') T m h l k = rw l.1 (node_more T m h)

module _ {ns cl w w₁ bs bs' : List ℕ} {top left sp n e : ℕ} {q : Simplified} (R : ReadyReplace ns w bs top left sp n e) (G : GivesSimplified ns cl w w₁ bs bs' top left sp n q)
    (long : length w₁ ≡ length w) (wide : length bs' ≡ length bs) where
  -- What the walk asks.
  pub walk_ready : {t l b : ℕ} → q ≡ Simplified-Done t l → b ≤ 4 * top → (b ≤ 4 * t) × ReadyTerm w₁ bs' t l n e
  walk_ready {t} {l} k h =
      let S : Simplifies ns cl w w₁ bs bs' top left n t l = rw k at G.answer in
      let m = S.grown.more in
      let s = S.grown.spent in
      let r = R.room in
      let f = R.fits in (
        omega arith,
        record {
          node = node_more S.grown.table m R.term;
          rows = record {
            fits = (let z = R.replaced.fits in omega arith);
            terms = λ j i. left_term w w₁ top t (row_at bs j) (row_at bs' j) S.grown.table m (R.replaced.terms j i) (G.rows j i) (S.made j i);
          };
          room = omega arith;
        },
      )

  -- The walk's answer.
  pub walk_done : {t l : ℕ} {w₂ : List ℕ} {r : Applied} → q ≡ Simplified-Done t l → GivesTerm core 4 w₁ w₂ t l (λ ms. walk_out w₁ bs' n e l ms) r → GivesReplaced ns cl w w₂ bs bs' top left sp n e r
  walk_done {t} {l} {w₂} {r} k W =
      let S : Simplifies ns cl w w₁ bs bs' top left n t l = rw k at G.answer in
      let m = S.grown.more in
      let s = S.grown.spent in
      let f = R.room in
      let z : 4 * t + 8 * l ≤ sp = omega arith in
      record { stands = stands_then G.stands (stands_up W.stands z) m; rows = G.rows; outside = G.outside; answer = go S z r W.answer }
    where
      first : Simplifies ns cl w w₁ bs bs' top left n t l → Simplifying ns cl w w₁ bs bs' top left sp n t l
      first S = record { stands = G.stands; long = long; is = S }

      go : Simplifies ns cl w w₁ bs bs' top left n t l → 4 * t + 8 * l ≤ sp → (r : Applied) → AnswerFor {E = List ℕ} (λ ms. Unit {0}) (λ ms. ms) core 4 (4 * t + 8 * l) w₂ t l (λ ms. walk_out w₁ bs' n e l ms) r
          → ReplacedAs ns cl w w₂ bs bs' top left sp n e r
      go S z (Done e' t' l') a = record { mid = w₁; top₁ = t; left₁ = l; first = first S; stands = stands_up W.stands z; made = a }
      go S z (Refused x t' l') a = inr (record { mid = w₁; top₁ = t; left₁ = l; first = first S; lost = a ns tt })

  -- The simplification's refusal.
  pub walk_never : {x : Refusal} {t l : ℕ} → q ≡ Simplified-Refused x t l → GivesReplaced ns cl w w₁ bs bs' top left sp n e (Refused x t l)
  walk_never k = record { stands = G.stands; rows = G.rows; outside = G.outside; answer = inl (rw k at G.answer) }

-- ## replace_from

-- Two slices with equal words at two rows.
row_shift : (bs ps : List ℕ) (i j : ℕ) → ((m : ℕ) → m < 3 → get_or ps (3 * j + m) 0 ≡ get_or bs (3 * i + m) 0) → row_at ps j ≡ row_at bs i
unfolding row_at
row_shift bs ps i j h =
    let a : 3 * j + 0 ≡ 3 * j = omega arith in
    let b : 3 * i + 0 ≡ 3 * i = omega arith in
    let x : get_or ps (3 * j) 0 ≡ get_or bs (3 * i) 0 = ap (λ (k : ℕ). get_or ps k 0) (sym a) ∙ h 0 (omega arith) ∙ ap (λ (k : ℕ). get_or bs k 0) b in
    rw (x, h 1 (omega arith), h 2 (omega arith)) refl

-- A row of the part from number nd on.
pub part_row : (bs : List ℕ) (nd n j : ℕ) → nd ≤ n → 3 * n ≤ length bs → j < n - nd → row_at (take (length bs - 3 * nd) (drop (3 * nd) bs)) j ≡ row_at bs (nd + j)
part_row bs nd n j m l h = row_shift bs (take (length bs - 3 * nd) (drop (3 * nd) bs)) (nd + j) j λ k i.
    let a : 3 * nd + (3 * j + k) ≡ 3 * (nd + j) + k = omega arith in
    get_or-take (length bs - 3 * nd) (drop (3 * nd) bs) (3 * j + k) 0 (omega arith) ∙ get_or-drop (3 * nd) bs (3 * j + k) 0 ∙ ap (λ (x : ℕ). get_or bs x 0) a

-- The length of that part.
pub part_long : (bs : List ℕ) (a : ℕ) → a ≤ length bs → length (take (length bs - a) (drop a bs)) ≡ length bs - a
part_long bs a h = length-take-le (length bs - a) (drop a bs) (let z = length-drop a bs in omega arith)

-- A word of the first list of three.
fore : (bs ps rest : List ℕ) (a i : ℕ) → a ≤ length bs → i < a → get_or (take a bs ++ (ps ++ rest)) i 0 ≡ get_or bs i 0
fore bs ps rest a i h k = let z = length-take-le a bs h in get_or-append (take a bs) (ps ++ rest) 0 i (omega arith) ∙ get_or-take a bs i 0 k

-- One of the second.
middle : (bs ps rest : List ℕ) (a i : ℕ) → a ≤ length bs → i < length ps → get_or (take a bs ++ (ps ++ rest)) (a + i) 0 ≡ get_or ps i 0
middle bs ps rest a i h k =
    let z = length-take-le a bs h in
    ap (λ (m : ℕ). get_or (take a bs ++ (ps ++ rest)) (m + i) 0) (sym z) ∙ get_or-append-add (take a bs) (ps ++ rest) i 0 ∙ get_or-append ps rest 0 i k

-- What `replace` asks of the part.
pub part_ready : {ns w bs : List ℕ} {top left sp nd n e : ℕ} → nd ≤ n → 3 * n ≤ length bs → ReadyReplace ns w bs top left sp n e
    → ReadyReplace ns w (take (length bs - 3 * nd) (drop (3 * nd) bs)) top left sp (n - nd) e
part_ready {w = w} {bs} {top} {nd = nd} {n} m l R = record {
  names = R.names;
  term = R.term;
  binders = record {
    rows = record { fits = fits; dicts = λ j h. subst HasWord (sym (part_row bs nd n j m l h)) (R.binders.rows.dicts (nd + j) (omega arith)) };
    types = λ j h. subst (λ (r : Row). TypeIn w top r) (sym (part_row bs nd n j m l h)) (R.binders.types (nd + j) (omega arith));
  };
  replaced = record { fits = fits; terms = λ j h. subst (λ (r : Row). TermIn w top r) (sym (part_row bs nd n j m l h)) (R.replaced.terms (nd + j) (omega arith)) };
  room = R.room;
  fits = R.fits;
}
  where
    fits : 3 * (n - nd) ≤ length (take (length bs - 3 * nd) (drop (3 * nd) bs))
    fits = let z = part_long bs (3 * nd) (omega arith) in omega arith

-- What it gives for the whole.
pub part_done : {ns cl w w' bs part' : List ℕ} {top left sp nd n e : ℕ} {r : Applied} (rest : List ℕ) → nd ≤ n → 3 * n ≤ length bs → length part' ≡ length (take (length bs - 3 * nd) (drop (3 * nd) bs))
    → GivesReplaced ns cl w w' (take (length bs - 3 * nd) (drop (3 * nd) bs)) part' top left sp (n - nd) e r → GivesFrom ns cl w w' bs (take (3 * nd) bs ++ (part' ++ rest)) top left sp nd n e r
part_done {bs = bs} {part'} {nd = nd} {n} rest m l k G = record {
  part = take (length bs - 3 * nd) (drop (3 * nd) bs);
  part' = part';
  cut = λ j h. part_row bs nd n j m l h;
  back = λ j h. row_shift part' (take (3 * nd) bs ++ (part' ++ rest)) j (nd + j) λ x i.
      let a : 3 * (nd + j) + x ≡ 3 * nd + (3 * j + x) = omega arith in
      let z = part_long bs (3 * nd) (omega arith) in
      ap (λ (y : ℕ). get_or (take (3 * nd) bs ++ (part' ++ rest)) y 0) a ∙ middle bs part' rest (3 * nd) (3 * j + x) (omega arith) (omega arith);
  before = λ j h. row_shift bs (take (3 * nd) bs ++ (part' ++ rest)) j j λ x i. fore bs part' rest (3 * nd) (3 * j + x) (omega arith) (omega arith);
  gives = G;
}
