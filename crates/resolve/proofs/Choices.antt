-- The ways out of `choose` and `find_way`, from what the calls gave.
use mathlib.Core.Path.{◌≡◌, refl, ◌∙◌}
use mathlib.Core.List.{List}
use mathlib.Core.Option.{none, some}
use Prim.Native.Nat.{ℕ, ◌+◌, ◌*◌, ◌-◌, ◌<◌, ◌≤◌}
use native.Mathlib.Omega.{arith}
use lib.ListN.{length, get_or}
use Rattle.meaning.specs.Ast.{Pred, pred, Core}
use Rattle.meaning.specs.Budget.{Out, done}
use Rattle.meaning.specs.Subst.{apply_preds}
use Rattle.meaning.specs.Classes.{ClassEnv, InstanceInfo, Chosen, resolve_from_givens, by_inst}
use Rattle.theorems.proofs.Grown.{nth_below}
use Rattle.names.specs.Names.{name_of}
use Rattle.ast.specs.Table.{tree, Node}
use Rattle.ast.proofs.Laws.{kept_tree, kept_node, kept_table, cons_tail}
use Rattle.errors.specs.declared.Refusal.{Refusal}
use Rattle.errors.specs.declared.Refusal.TheVariants.{NoInstance}
use Rattle.errors.specs.Refusals.{Refuses}
use Rattle.pairs.specs.Pairs.{sub_at, Stands}
use Rattle.pairs.proofs.Frames.{stands_then, stands_up, sub_stands, sub-later}
use Rattle.apply.specs.Region.{Ready, Gives}
use Rattle.apply.specs.Applied.{Applied}
use Rattle.apply.specs.Applied.{Done as A-Done, Refused as A-Refused}
use Rattle.apply.proofs.Hand.{Then, then_done, refuse_on, refuse_same, refuse_here, gave, failed}
use Rattle.compose.specs.Answers.{GrownU}
use Rattle.subst.specs.Preds.{preds_of_word}
use Rattle.instances.specs.Accepted.{Instances, Heads, Openable, Opened}
use Rattle.instances.specs.Picks.{ReadyPick, PickedAt, GivesPick}
use Rattle.instances.specs.Picked.{Picked}
use Rattle.instances.specs.Picked.{At, Nothing, Refused as P-Refused}
use Rattle.instances.proofs.Held.{parts, stored_kept, instances_kept, heads_kept, heads_open}
use Rattle.instances.proofs.Plain.{plains, some_instances}
use Rattle.cores.specs.Terms.{core}
use Rattle.supers.specs.Givens.{givens_of}
use Rattle.supers.specs.Search.{ReadySearch, Finds, FindsNone, FoundAs, GivesFound}
use Rattle.supers.specs.declared.Root.{Root}
use Rattle.supers.specs.Searched.{Searched}
use Rattle.supers.specs.Searched.{Found, Nothing as S-Nothing, Refused as S-Refused}
use Rattle.resolve.specs.Ways.{Way, at_hand, by, way_by, or_way, way_to}
use Rattle.resolve.specs.Resolves.{Declared, ReadyResolve, WayAs, GivesWay}
use Rattle.resolve.specs.Choice.{Choice}
use Rattle.resolve.specs.Choice.{Given, By, Refused}

-- ## The way by an instance

-- Instances first, then the way by the chosen one.
picks_way : (ce : ClassEnv) (p : Pred) (n : ℕ) → Then (or_way ce p none n) (by_inst 0 ce.instances p n) (λ i. way_by p i)
unfolding or_way
picks_way ce p n = record { is = refl }

-- The way by an instance is its contexts.
fills_way : (p : Pred) (i : Chosen) (n : ℕ) → Then (way_by p (some i) n) (apply_preds i.fills i.inst.context n) (λ ps m. done (by i ps) m)
unfolding way_by
fills_way p i n = record { is = refl }

module _ {ns w il : List ℕ} {top left sp t : ℕ} (R : ReadyPick ns w il top left sp t) (c : ℕ) {w₁ : List ℕ} {p : Picked} (G : GivesPick ns w w₁ il top left sp (pred (name_of ns c) (tree ns w t)) p) where
  -- No instance.
  pub choose_none : {l : ℕ} → p ≡ Nothing l → length w₁ ≡ length w
      → GivesWay (λ ce. Instances ns w top il ce.instances) ns w w₁ il top left sp (λ ce. or_way ce (pred (name_of ns c) (tree ns w t)) none left) (Refused (NoInstance c t) top l)
  unfolding way_by
  choose_none {l} h len = record {
    stands = G.stands;
    answer = λ ce I.
        let a : (by_inst 0 ce.instances (pred (name_of ns c) (tree ns w t)) left ≡ done none l) × (l ≤ left) = rw h at (G.answer ce.instances I) in
        let r = R.node.table.room in
        refuse_here (then_done none l (picks_way ce _ left) a.0 ∙ rw (kept_tree ns G.stands.low R.node)) (kept_node G.stands.low (omega arith) R.node) a.1;
  }

  -- A refusal is handed on.
  pub choose_refused : {e : Refusal} {t₁ l₁ : ℕ} → p ≡ P-Refused e t₁ l₁
      → GivesWay (λ ce. Instances ns w top il ce.instances) ns w w₁ il top left sp (λ ce. or_way ce (pred (name_of ns c) (tree ns w t)) none left) (Refused e t₁ l₁)
  choose_refused {e} {t₁} {l₁} h = record {
    stands = G.stands;
    answer = λ ce I.
        let a : Refuses ns w₁ top left (by_inst 0 ce.instances (pred (name_of ns c) (tree ns w t)) left) e t₁ l₁ = rw h at (G.answer ce.instances I) in
        refuse_on (picks_way ce _ left) a (omega arith) (omega arith);
  }

  module _ {i k t₁ l₁ : ℕ} (h : p ≡ At i k t₁ l₁) where
    -- What was chosen among instances that the words stand for.
    picked : (insts : List InstanceInfo) → Instances ns w top il insts → PickedAt ns w₁ insts top left sp (by_inst 0 insts (pred (name_of ns c) (tree ns w t)) left) i k t₁ l₁
    picked insts I = rw h at (G.answer insts I)

    -- The pairs, whatever the instances.
    pub pick_grown : GrownU 1 0 ns w₁ top left sp t₁ l₁ k
    pick_grown = (picked (plains ns w il) (some_instances ns R.heads)).grown

    -- The instance's number is one of theirs.
    pub pick_there : i < length il
    pick_there =
        let I = some_instances ns R.heads in
        let P = picked (plains ns w il) I in
        let m = I.many in
        let b = nth_below (plains ns w il) i P.inst P.there in
        omega arith

    -- The instances' words, over the grown table.
    pick_heads : Heads w₁ t₁ il
    pick_heads = heads_kept G.stands.low pick_grown.table pick_grown.more R.heads

    -- What `instance_at` asks.
    pub pick_open : (i < length il) × Openable w₁ (get_or il i 0)
    pick_open = (pick_there, heads_open pick_heads pick_there)

    -- The pairs lie below sp, and above all room.
    pub pick_under : (2 * k ≤ sp) × (4 * t₁ + 8 * l₁ ≤ sp - 2 * k)
    pick_under = let s = pick_grown.spent in let r = R.room in (omega arith, omega arith)

    module _ {x a b : ℕ} (O : Opened w₁ (get_or il i 0) x a b) where
      -- The list of its contexts.
      context_node : Node w₁ t₁ b
      context_node = (cons_tail (pick_heads.node i pick_there) refl O.cell).1

      -- What `apply_preds` asks.
      pub pick_ready : Ready ns w₁ t₁ l₁ (sp - 2 * k) k b
      pick_ready = record { names = R.names; node = context_node; room = pick_under.1; sub = pick_grown.sub }

      module _ {w₂ : List ℕ} {r : Applied}
          (A : Gives (preds_of_word ns w₂) (4 * t₁ + 8 * l₁) ns w₁ w₂ t₁ l₁ (apply_preds (sub_at ns w₁ (sp - 2 * k) k) (preds_of_word ns w₁ b) l₁) r) where
        -- Both calls leave what is older.
        both_stand : Stands w w₂ top sp
        both_stand = let u = pick_under.1 in stands_then G.stands (stands_up A.stands (omega arith)) pick_grown.more

        -- The way, by the contexts that were read.
        context_way : (ce : ClassEnv) (I : Instances ns w top il ce.instances)
            → Then (or_way ce (pred (name_of ns c) (tree ns w t)) none left) (apply_preds (sub_at ns w₁ (sp - 2 * k) k) (preds_of_word ns w₁ b) l₁)
            (λ ps m. done (by (record { index = i; inst = (picked ce.instances I).inst; fills = sub_at ns w₁ (sp - 2 * k) k }) ps) m)
        context_way ce I =
            let P = picked ce.instances I in
            let S = stored_kept G.stands.low pick_grown.table pick_grown.more (I.each i P.inst P.there) in
            let T = fills_way (pred (name_of ns c) (tree ns w t)) (record { index = i; inst = P.inst; fills = sub_at ns w₁ (sp - 2 * k) k }) l₁ in
            record { is = then_done _ l₁ (picks_way ce _ left) P.is ∙ T.is ∙ rw (parts S O).context }

        -- They are refused.
        pub choose_lost : {e : Refusal} {t₂ l₂ : ℕ} → r ≡ A-Refused e t₂ l₂
            → GivesWay (λ ce. Instances ns w top il ce.instances) ns w w₂ il top left sp (λ ce. or_way ce (pred (name_of ns c) (tree ns w t)) none left) (Refused e t₂ l₂)
        choose_lost j = let d = pick_grown.down in record { stands = both_stand; answer = λ ce I. refuse_on (context_way ce I) (failed A j) pick_grown.more (omega arith) }

        -- They are the subgoals.
        pub choose_by : {g t₂ l₂ : ℕ} → r ≡ A-Done g t₂ l₂ → length w₂ ≡ length w₁
            → GivesWay (λ ce. Instances ns w top il ce.instances) ns w w₂ il top left sp (λ ce. or_way ce (pred (name_of ns c) (tree ns w t)) none left) (By i k g t₂ l₂)
        choose_by {g} {t₂} {l₂} j len =
            let g₁ = pick_grown in
            let s₁ = g₁.spent in
            let m₁ = g₁.more in
            let d₁ = g₁.down in
            let g₂ = (gave A j).1 in
            let s₂ = g₂.spent in
            let m₂ = g₂.more in
            let d₂ = g₂.down in
            record {
              stands = both_stand;
              answer = record {
                there = pick_there;
                goals = g₂.node;
                sub = sub-later A.stands g₁.sub pick_under.1 m₂ (omega arith);
                more = omega arith;
                spent = omega arith;
                down = omega arith;
                is = λ ce I. record {
                  inst = (picked ce.instances I).inst;
                  there = (picked ce.instances I).there;
                  is = then_done (preds_of_word ns w₂ g) l₂ (context_way ce I) (gave A j).0 ∙ rw (sub_stands ns g₁.table A.stands g₁.sub pick_under.1);
                };
              };
            }

-- ## The way to a dictionary

-- Givens first.
givens_way : (ce : ClassEnv) (root : Root) (ns w : List ℕ) (l : ℕ) (p : Pred) (n : ℕ)
    → Then (way_to ce (givens_of ns w root 0 l) p n) (resolve_from_givens ce (givens_of ns w root 0 l) p n) (λ e. or_way ce p e)
unfolding way_to
givens_way ce root ns w l p n = record { is = refl }

-- One that is found is the way.
found_way : (ce : ClassEnv) (p : Pred) (e : Core) (n : ℕ) → or_way ce p (some e) n ≡ done (at_hand e) n
unfolding or_way
found_way ce p e n = refl

-- A way is handed on to a caller that had more steps.
way_on : (Of Of₁ : ClassEnv → Type 0) (ns w il : List ℕ) (top left l sp : ℕ) (o o₁ : ClassEnv → Out Way) (r : Choice) → l ≤ left → ((ce : ClassEnv) → Of ce → Of₁ ce) → ((ce : ClassEnv) → Of ce → o ce ≡ o₁ ce)
    → WayAs Of₁ ns w il top l sp o₁ r → WayAs Of ns w il top left sp o r
way_on Of Of₁ ns w il top left l sp o o₁ (Given e t' l') h f q a =
    let s = a.spent in let d = a.down in
    record { node = a.node; more = a.more; spent = omega arith; down = omega arith; is = λ ce D. q ce D ∙ a.is ce (f ce D) }
way_on Of Of₁ ns w il top left l sp o o₁ (By i k g t' l') h f q a =
    let s = a.spent in let d = a.down in
    record {
      there = a.there;
      goals = a.goals;
      sub = a.sub;
      more = a.more;
      spent = omega arith;
      down = omega arith;
      is = λ ce D. let W = a.is ce (f ce D) in record { inst = W.inst; there = W.there; is = q ce D ∙ W.is };
    }
way_on Of Of₁ ns w il top left l sp o o₁ (Refused e t' l') h f q a = λ ce D. refuse_same (q ce D) (a ce (f ce D)) (omega arith) h

module _ {ns w il : List ℕ} {top left sp : ℕ} {root : Root} {l t : ℕ} (R : ReadyResolve ns w il top left sp root l t) where
  -- What `resolve_from_givens` asks.
  pub way_search : ReadySearch ns w top left sp root 0 l t
  way_search = record { names = R.names; givens = R.givens; few = R.few; ty = R.goal; room = R.room; fits = R.fits }

  module _ (cl : List ℕ) (c : ℕ) {w₁ : List ℕ} {f : Searched}
      (F : GivesFound ns cl w w₁ top left sp (λ ce. resolve_from_givens ce (givens_of ns w root 0 l) (pred (name_of ns c) (tree ns w t)) left) f) where
    -- The givens have it.
    pub way_found : {e t₁ l₁ : ℕ} → f ≡ Found e t₁ l₁
        → GivesWay (Declared ns cl w top il) ns w w₁ il top left sp (λ ce. way_to ce (givens_of ns w root 0 l) (pred (name_of ns c) (tree ns w t)) left) (Given e t₁ l₁)
    way_found {e} {t₁} {l₁} h =
        let a : Finds ns cl w₁ top left (λ ce. resolve_from_givens ce (givens_of ns w root 0 l) (pred (name_of ns c) (tree ns w t)) left) e t₁ l₁ = rw h at F.answer in
        let s = a.spent in
        let d = a.down in
        record {
          stands = F.stands;
          answer = record {
            node = a.node;
            more = a.more;
            spent = omega arith;
            down = omega arith;
            is = λ ce D. then_done (some (core ns w₁ e)) l₁ (givens_way ce root ns w l _ left) (a.is ce D.supers) ∙ found_way ce _ _ l₁;
          };
        }

    -- A refusal is handed on.
    pub way_refused : {e : Refusal} {t₁ l₁ : ℕ} → f ≡ S-Refused e t₁ l₁
        → GivesWay (Declared ns cl w top il) ns w w₁ il top left sp (λ ce. way_to ce (givens_of ns w root 0 l) (pred (name_of ns c) (tree ns w t)) left) (Refused e t₁ l₁)
    way_refused {e} {t₁} {l₁} h =
        let a : FoundAs ns cl w₁ top left (λ ce. resolve_from_givens ce (givens_of ns w root 0 l) (pred (name_of ns c) (tree ns w t)) left) (S-Refused e t₁ l₁) = rw h at F.answer in
        record { stands = F.stands; answer = λ ce D. refuse_on (givens_way ce root ns w l _ left) (a ce D.supers) (omega arith) (omega arith) }

    module _ {l₁ : ℕ} (h : f ≡ S-Nothing l₁) (len : length w₁ ≡ length w) where
      -- They have nothing.
      nothing : FindsNone ns cl left (λ ce. resolve_from_givens ce (givens_of ns w root 0 l) (pred (name_of ns c) (tree ns w t)) left) l₁
      nothing = rw h at F.answer

      -- What `choose` asks.
      pub way_ready : ReadyPick ns w₁ il top l₁ sp t
      way_ready =
          let r = R.goal.table.room in
          let q = R.room in
          let z = R.fits in
          let d = nothing.down in
          let K = F.stands.low in
          record { names = R.names; node = kept_node K (omega arith) R.goal; heads = heads_kept K (kept_table K (omega arith) R.goal.table) (omega arith) R.heads; room = omega arith; fits = omega arith }

      -- What it gives.
      pub way_goes : {w₂ : List ℕ} {r : Choice}
          → GivesWay (λ ce. Instances ns w₁ top il ce.instances) ns w₁ w₂ il top l₁ sp (λ ce. or_way ce (pred (name_of ns c) (tree ns w₁ t)) none l₁) r
          → GivesWay (Declared ns cl w top il) ns w w₂ il top left sp (λ ce. way_to ce (givens_of ns w root 0 l) (pred (name_of ns c) (tree ns w t)) left) r
      way_goes {w₂} {r} W =
          let K = F.stands.low in
          let m = R.goal.table.room in
          record {
            stands = stands_then F.stands W.stands (omega arith);
            answer = way_on _ _ ns w₂ il top left l₁ sp _ _ r nothing.down
                (λ ce (D : Declared ns cl w top il ce). instances_kept K (kept_table K (omega arith) R.goal.table) (omega arith) D.instances)
                (λ ce (D : Declared ns cl w top il ce). then_done none l₁ (givens_way ce root ns w l _ left) (nothing.is ce D.supers) ∙ rw (kept_tree ns K R.goal))
                W.answer;
          }
