-- Handing dictionaries on to a caller, and the ways out of `all_resolved`, from what the calls gave.
use mathlib.Core.Path.{◌≡◌, ap, sym, ◌∙◌}
use mathlib.Core.List.{List}
use Prim.Native.Nat.{ℕ, ◌+◌, ◌*◌, ◌-◌, ◌^◌, ◌<◌, ◌≤◌}
use native.Mathlib.Omega.{arith}
use lib.ListN.{length}
use Rattle.meaning.specs.Ast.{pred, ◌◃◌}
use Rattle.meaning.specs.Budget.{Out, done, after}
use Rattle.meaning.specs.Classes.{ClassEnv, all_resolved, resolve_in}
use Rattle.names.specs.Names.{first_node, name_of}
use Rattle.ast.specs.Table.{cell_of, tree, Table, Node, Kept, pushed}
use Rattle.ast.specs.declared.Cell.{Cell}
use Rattle.ast.specs.declared.Cell.TheVariants.{Nil, Cons}
use Rattle.ast.proofs.Ranges.{cons_node}
use Rattle.ast.proofs.Laws.{node_more, cons_head, cons_tail}
use Rattle.errors.specs.declared.Refusal.{Refusal}
use Rattle.errors.specs.Refusals.{Refuses}
use Rattle.pairs.proofs.Frames.{stands_refl, stands_then, pushed_stands}
use Rattle.apply.proofs.Hand.{Then, then_done, is_then, refuse_on}
use Rattle.apply.proofs.Ways.{Room}
use Rattle.subst.specs.Preds.{class_at, preds_of_word}
use Rattle.subst.proofs.PredLaws.{kept_preds, preds_nil, preds_cons}
use Rattle.instances.proofs.Held.{instances_kept, heads_kept}
use Rattle.cores.specs.Terms.{core, cores}
use Rattle.cores.proofs.TermLaws.{kept_core, cores_nil}
use Rattle.cores.proofs.NewTerm.{push_cores}
use Rattle.supers.specs.Givens.{givens_of}
use Rattle.supers.specs.declared.Root.{Root}
use Rattle.supers.proofs.GivenLaws.{kept_list, kept_few}
use Rattle.resolve.specs.Resolves.{Declared, ReadyResolve, Makes, GivesCore}
use Rattle.resolve.specs.Resolved.{Resolved}
use Rattle.resolve.specs.Resolved.{Done, Refused}
use Rattle.resolve.proofs.Followed.{first_goal}

-- ## What an answer says, by the arm of the match

module _ {E A : Type 0} {Of : E → Type 0} {read : ℕ → A} {b s : ℕ} {ns w w₁ : List ℕ} {top left sp : ℕ} {o : E → Out A} {r : Resolved} (G : GivesCore Of read b s ns w w₁ top left sp o r) where
  -- A dictionary, or a list of them.
  pub made : {e t l : ℕ} → r ≡ Done e t l → Makes Of read b s w₁ top left o e t l
  made h = rw h at G.answer

  -- A refusal.
  pub lost : {e : Refusal} {t l : ℕ} → r ≡ Refused e t l → (x : E) → Of x → Refuses ns w₁ top left (o x) e t l
  lost h = rw h at G.answer

-- ## After a call that left w₁, over a table of t nodes

-- Class table and words say of the environment what they said.
pub declared_kept : {ns cl w w₁ il : List ℕ} {top t : ℕ} {ce : ClassEnv} → Kept w w₁ top → Table w₁ t → top ≤ t → Declared ns cl w top il ce → Declared ns cl w₁ t il ce
declared_kept K T h D = record { supers = D.supers; instances = instances_kept K T h D.instances }

-- What is asked of a goal's type or of a list of goals u, with a stack that may end lower.
pub ready_on : {ns w w₁ il : List ℕ} {top left sp t l sp₁ : ℕ} {root : Root} {g u v : ℕ} → ReadyResolve ns w il top left sp root g v → Kept w w₁ top → top ≤ t → Node w₁ t u → 4 * t + 8 * l ≤ sp₁ → sp₁ ≤ sp → length w₁ ≡ length w
    → ReadyResolve ns w₁ il t l sp₁ root g u
ready_on {ns} {root = root} R K m N room low len =
    let f = R.fits in
    record {
      names = R.names;
      givens = node_more N.table m R.givens;
      few = kept_few ns root 0 K R.givens R.few;
      goal = N;
      heads = heads_kept K N.table m R.heads;
      room = room;
      fits = omega arith;
    }

-- ## A list of goals: c is what `cell_at` returned

-- Givens and goals of kept words are the same.
goals_same : {w w₁ : List ℕ} {top g l : ℕ} (ns : List ℕ) (root : Root) (d n : ℕ) (ce : ClassEnv) → Kept w w₁ top → Node w top l → Node w top g
    → all_resolved (λ q. resolve_in d ce (givens_of ns w root 0 l) q) (preds_of_word ns w g) n ≡ all_resolved (λ q. resolve_in d ce (givens_of ns w₁ root 0 l) q) (preds_of_word ns w₁ g) n
goals_same {w} {w₁} {g = g} {l = l} ns root d n ce K L N =
    ap (λ gs. all_resolved (λ q. resolve_in d ce gs q) (preds_of_word ns w g) n) (sym (kept_list ns root 0 K L)) ∙ ap (λ ps. all_resolved (λ q. resolve_in d ce (givens_of ns w₁ root 0 l) q) ps n) (sym (kept_preds ns K N))

module _ {ns w il : List ℕ} {top left sp : ℕ} {root : Root} {l g : ℕ} (R : ReadyResolve ns w il top left sp root l g) (cl : List ℕ) (d : ℕ) {c : Cell} (e : c ≡ cell_of w g) where
  -- There are none.
  pub all_none : c ≡ Nil → GivesCore (Declared ns cl w top il) (cores ns w) (4 * top + 8 * left) 0 ns w w top left sp
      (λ ce. all_resolved (λ q. resolve_in d ce (givens_of ns w root 0 l) q) (preds_of_word ns w g) left) (Done g top left)
  unfolding all_resolved
  all_none h = record {
    stands = stands_refl _ _ _;
    answer = record { node = R.goal; more = omega arith; spent = omega arith; down = omega arith; is = λ ce D. rw (preds_nil ns R.goal e h, cores_nil ns R.goal e h) };
  }

  module _ {t b : ℕ} (arm : c ≡ Cons t b) where
    -- What `resolve` asks for the first.
    pub all_first : ReadyResolve ns w il top left sp root l t
    all_first = record { names = R.names; givens = R.givens; few = R.few; goal = (cons_head R.goal e arm).1; heads = R.heads; room = R.room; fits = R.fits }

    -- A list with a first goal is a node, so that the table is not empty.
    some_node : 1 ≤ top
    some_node = let z = cons_node w g (sym e ∙ arm) in let y = R.goal.below in omega arith

    module _ {p : ℕ} (class : p ≡ class_at w g) {w₁ : List ℕ} {r₁ : Resolved}
        (G : GivesCore (Declared ns cl w top il) (core ns w₁) (4 * top + 8 * left - 4) 1 ns w w₁ top left sp (λ ce. resolve_in d ce (givens_of ns w root 0 l) (pred (name_of ns p) (tree ns w t)) left) r₁) where
      -- The first goal, and then the others.
      first : (ce : ClassEnv) → Then (all_resolved (λ q. resolve_in d ce (givens_of ns w root 0 l) q) (preds_of_word ns w g) left) (resolve_in d ce (givens_of ns w root 0 l) (pred (name_of ns p) (tree ns w t)) left)
          (λ x m. after (all_resolved (λ q. resolve_in d ce (givens_of ns w root 0 l) q) (preds_of_word ns w b) m) (λ xs n. done (x ◃ xs) n))
      first ce = is_then (rw (preds_cons ns R.goal e arm, class)) (first_goal (λ q. resolve_in d ce (givens_of ns w root 0 l) q) (pred (name_of ns p) (tree ns w t)) (preds_of_word ns w b) left)

      -- It is refused.
      pub all_refused : {x : Refusal} {t₁ l₁ : ℕ} → r₁ ≡ Refused x t₁ l₁
          → GivesCore (Declared ns cl w top il) (cores ns w₁) (4 * top + 8 * left) 0 ns w w₁ top left sp (λ ce. all_resolved (λ q. resolve_in d ce (givens_of ns w root 0 l) q) (preds_of_word ns w g) left) (Refused x t₁ l₁)
      all_refused h = record { stands = G.stands; answer = λ ce D. refuse_on (first ce) (lost G h ce D) (omega arith) (omega arith) }

      module _ {a t₁ l₁ : ℕ} (h : r₁ ≡ Done a t₁ l₁) (len : length w₁ ≡ length w) where
        -- A step was spent, and the table is no smaller.
        pub all_less : (l₁ < left) × (top ≤ t₁)
        all_less = let f = (made G h).down in (omega arith, (made G h).more)

        -- What is asked of the others.
        pub all_next : ReadyResolve ns w₁ il t₁ l₁ sp root l b
        all_next =
            let m = made G h in let s = m.spent in let f = m.down in let r = R.room in
            ready_on R G.stands.low m.more (node_more m.node.table m.more (cons_tail R.goal e arm).1) (omega arith) (omega arith) len

        module _ {w₂ : List ℕ} {r₂ : Resolved}
            (H : GivesCore (Declared ns cl w₁ t₁ il) (cores ns w₂) (4 * t₁ + 8 * l₁) 0 ns w₁ w₂ t₁ l₁ sp (λ ce. all_resolved (λ q. resolve_in d ce (givens_of ns w₁ root 0 l) q) (preds_of_word ns w₁ b) l₁) r₂) where
          -- The first is done, the others are left.
          others : (ce : ClassEnv) → Declared ns cl w top il ce → Then (all_resolved (λ q. resolve_in d ce (givens_of ns w root 0 l) q) (preds_of_word ns w g) left)
              (all_resolved (λ q. resolve_in d ce (givens_of ns w₁ root 0 l) q) (preds_of_word ns w₁ b) l₁) (λ xs n. done (core ns w₁ a ◃ xs) n)
          others ce D = record {
            is = then_done (core ns w₁ a) l₁ (first ce) ((made G h).is ce D)
                ∙ ap (λ o. after o (λ xs n. done (core ns w₁ a ◃ xs) n)) (goals_same ns root d l₁ ce G.stands.low R.givens (cons_tail R.goal e arm).1);
          }

          -- The environment, for them.
          said : (ce : ClassEnv) → Declared ns cl w top il ce → Declared ns cl w₁ t₁ il ce
          said ce D = declared_kept G.stands.low (made G h).node.table (made G h).more D

          -- They are refused.
          pub all_lost : {x : Refusal} {t₂ l₂ : ℕ} → r₂ ≡ Refused x t₂ l₂
              → GivesCore (Declared ns cl w top il) (cores ns w₂) (4 * top + 8 * left) 0 ns w w₂ top left sp (λ ce. all_resolved (λ q. resolve_in d ce (givens_of ns w root 0 l) q) (preds_of_word ns w g) left) (Refused x t₂ l₂)
          all_lost i = let f = (made G h).down in record {
            stands = stands_then G.stands H.stands (made G h).more;
            answer = λ ce D. refuse_on (others ce D) (lost H i ce (said ce D)) (made G h).more (omega arith);
          }

          module _ {es t₂ l₂ : ℕ} (i : r₂ ≡ Done es t₂ l₂) (len₂ : length w₂ ≡ length w₁) (big : length w < 2 ^ 65) where
            -- There is room for the new cell.
            pub all_room : Room w₂ top t₂
            all_room =
                let m = made G h in let s = m.spent in let v = m.more in let u = made H i in let q = u.spent in let n = u.more in let r = R.room in let f = R.fits in let z = some_node in
                record { more = omega arith; room = omega arith; small = omega arith }

            -- The cell is the answer.
            pub all_done : {w₃ : List ℕ} → w₃ ≡ pushed w₂ t₂ 3 a es
                → GivesCore (Declared ns cl w top il) (cores ns w₃) (4 * top + 8 * left) 0 ns w w₃ top left sp (λ ce. all_resolved (λ q. resolve_in d ce (givens_of ns w root 0 l) q) (preds_of_word ns w g) left) (Done (first_node + t₂) (t₂ + 1) l₂)
            all_done p =
                let m = made G h in let s = m.spent in let v = m.more in let y = m.down in let u = made H i in let q = u.spent in let n = u.more in let j = u.down in let r = R.room in let z = some_node in
                let P = push_cores ns all_room.room all_room.small (node_more u.node.table n m.node) u.node p in
                record {
                  stands = stands_then (stands_then G.stands H.stands v) (pushed_stands t₂ 3 a es sp (omega arith) p) (omega arith);
                  answer = record {
                    node = P.node;
                    more = omega arith;
                    spent = omega arith;
                    down = omega arith;
                    is = λ ce D. then_done (cores ns w₂ es) l₂ (others ce D) (u.is ce (said ce D)) ∙ rw (P.is, kept_core ns H.stands.low m.node);
                  };
                }
