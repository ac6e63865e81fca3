-- The ways out of `resolve`, from what the calls gave.
use mathlib.Core.Path.{◌≡◌, refl, ap, sym, ◌∙◌}
use mathlib.Core.List.{List}
use Prim.Native.Nat.{ℕ, ◌+◌, ◌*◌, ◌-◌, ◌<◌, ◌≤◌}
use native.Mathlib.Omega.{arith}
use lib.ListN.{length, get_or}
use Rattle.meaning.specs.Ast.{Pred, pred, Core}
use Rattle.meaning.specs.Budget.{Out, done, Steps, after}
use Rattle.meaning.specs.Classes.{ClassEnv, InstanceInfo, Chosen, all_resolved, resolve_in}
use Rattle.names.specs.Names.{name_of}
use Rattle.ast.specs.Table.{tree}
use Rattle.errors.specs.declared.Refusal.{Refusal}
use Rattle.errors.specs.declared.Refusal.TheVariants.{Depth, Steps as No-steps}
use Rattle.pairs.specs.Pairs.{sub_at, Stands}
use Rattle.pairs.proofs.Frames.{stands_refl, stands_then, stands_up, sub_stands, sub-later}
use Rattle.apply.proofs.Hand.{Then, then_done, refuse_on, refuse_same, refuse_here}
use Rattle.subst.specs.Preds.{preds_of_word}
use Rattle.instances.specs.Accepted.{Stored}
use Rattle.instances.proofs.Held.{stored_kept, heads_kept}
use Rattle.cores.specs.Terms.{core, cores}
use Rattle.supers.specs.Givens.{givens_of}
use Rattle.supers.specs.declared.Root.{Root}
use Rattle.supers.proofs.GivenLaws.{kept_list}
use Rattle.resolve.specs.Ways.{at_hand, by, way_to, dictionary, follow}
use Rattle.resolve.specs.Resolves.{Declared, ReadyResolve, ReadyBuild, CoreAs, GivesCore, Chooses, WayAs, GivesWay}
use Rattle.resolve.specs.Resolved.{Resolved}
use Rattle.resolve.specs.Resolved.{Done, Refused}
use Rattle.resolve.specs.Choice.{Choice}
use Rattle.resolve.specs.Choice.{Given, By, Refused as C-Refused}
use Rattle.resolve.proofs.Followed.{no_depth, no_steps, goes_way}
use Rattle.resolve.proofs.Goals.{made, lost, declared_kept, ready_on}

-- A dictionary at hand is the end of the way.
ends_at_hand : (r : Pred → Steps Core) (e : Core) (n : ℕ) → follow r (at_hand e) n ≡ done e n
unfolding follow
ends_at_hand r e n = refl

-- The way by an instance: its subgoals, and then its dictionary.
ends_by : (r : Pred → Steps Core) (i : Chosen) (ps : List Pred) (n : ℕ) → Then (follow r (by i ps) n) (all_resolved r ps n) (λ es. dictionary i es)
unfolding follow
ends_by r i ps n = record { is = refl }

-- The dictionary of an instance as that of a goal.
core_on : (Of : ClassEnv → Type 0) (Of₁ : InstanceInfo → Type 0) (read : ℕ → Core) (b b₁ : ℕ) (ns w : List ℕ) (top left t l : ℕ) (o : ClassEnv → Out Core) (o₁ : InstanceInfo → Out Core) (r : Resolved)
    (f : (ce : ClassEnv) → Of ce → InstanceInfo) → ((ce : ClassEnv) (D : Of ce) → Of₁ (f ce D)) → ((ce : ClassEnv) (D : Of ce) → o ce ≡ o₁ (f ce D)) → top ≤ t → l < left → b₁ ≤ b
    → CoreAs Of₁ read b₁ 0 ns w t l o₁ r → CoreAs Of read b 1 ns w top left o r
core_on Of Of₁ read b b₁ ns w top left t l o o₁ (Done e t' l') f g q m d u a =
    let x = a.more in let y = a.spent in let z = a.down in
    record { node = a.node; more = omega arith; spent = omega arith; down = omega arith; is = λ ce D. q ce D ∙ a.is (f ce D) (g ce D) }
core_on Of Of₁ read b b₁ ns w top left t l o o₁ (Refused e t' l') f g q m d u a = λ ce D. refuse_same (q ce D) (a (f ce D) (g ce D)) m (omega arith)

module _ {ns w il : List ℕ} {top left sp : ℕ} {root : Root} {l t : ℕ} (R : ReadyResolve ns w il top left sp root l t) (cl : List ℕ) (d c : ℕ) where
  -- No depth is left.
  pub res_deep : d ≡ 0 → GivesCore (Declared ns cl w top il) (core ns w) (4 * top + 8 * left - 4) 1 ns w w top left sp
      (λ ce. resolve_in d ce (givens_of ns w root 0 l) (pred (name_of ns c) (tree ns w t)) left) (Refused Depth top left)
  res_deep h = record { stands = stands_refl _ _ _; answer = λ ce D. refuse_here (no_depth d left ce _ _ h) tt (omega arith) }

  module _ (hd : d ≡ 0 → ⊥) where
    -- No step is left.
    pub res_spent : left ≡ 0 → GivesCore (Declared ns cl w top il) (core ns w) (4 * top + 8 * left - 4) 1 ns w w top left sp
        (λ ce. resolve_in d ce (givens_of ns w root 0 l) (pred (name_of ns c) (tree ns w t)) left) (Refused No-steps top left)
    res_spent h = record { stands = stands_refl _ _ _; answer = λ ce D. refuse_here (no_steps d left ce _ _ hd h ∙ rw h) tt (omega arith) }

    module _ (hl : left ≡ 0 → ⊥) where
      -- What `find_way` asks.
      pub res_less : ReadyResolve ns w il top (left - 1) sp root l t
      res_less = let r = R.room in record { names = R.names; givens = R.givens; few = R.few; goal = R.goal; heads = R.heads; room = omega arith; fits = R.fits }

      module _ {w₁ : List ℕ} {f : Choice} (W : GivesWay (Declared ns cl w top il) ns w w₁ il top (left - 1) sp (λ ce. way_to ce (givens_of ns w root 0 l) (pred (name_of ns c) (tree ns w t)) (left - 1)) f) where
        -- The dictionary is at hand.
        pub res_given : {e t₁ l₁ : ℕ} → f ≡ Given e t₁ l₁ → GivesCore (Declared ns cl w top il) (core ns w₁) (4 * top + 8 * left - 4) 1 ns w w₁ top left sp
            (λ ce. resolve_in d ce (givens_of ns w root 0 l) (pred (name_of ns c) (tree ns w t)) left) (Done e t₁ l₁)
        res_given {e} {t₁} {l₁} h =
            let a : WayAs (Declared ns cl w top il) ns w₁ il top (left - 1) sp (λ ce. way_to ce (givens_of ns w root 0 l) (pred (name_of ns c) (tree ns w t)) (left - 1)) (Given e t₁ l₁) = rw h at W.answer in
            let s = a.spent in
            let y = a.down in
            record {
              stands = W.stands;
              answer = record {
                node = a.node;
                more = a.more;
                spent = omega arith;
                down = omega arith;
                is = λ ce D. then_done (at_hand (core ns w₁ e)) l₁ (goes_way d left ce _ _ hd hl) (a.is ce D) ∙ ends_at_hand _ _ l₁;
              };
            }

        -- There is no way.
        pub res_refused : {e : Refusal} {t₁ l₁ : ℕ} → f ≡ C-Refused e t₁ l₁ → GivesCore (Declared ns cl w top il) (core ns w₁) (4 * top + 8 * left - 4) 1 ns w w₁ top left sp
            (λ ce. resolve_in d ce (givens_of ns w root 0 l) (pred (name_of ns c) (tree ns w t)) left) (Refused e t₁ l₁)
        res_refused {e} {t₁} {l₁} h =
            let a : WayAs (Declared ns cl w top il) ns w₁ il top (left - 1) sp (λ ce. way_to ce (givens_of ns w root 0 l) (pred (name_of ns c) (tree ns w t)) (left - 1)) (C-Refused e t₁ l₁) = rw h at W.answer in
            record { stands = W.stands; answer = λ ce D. refuse_on (goes_way d left ce _ _ hd hl) (a ce D) (omega arith) (omega arith) }

        module _ {i k g t₁ l₁ : ℕ} (h : f ≡ By i k g t₁ l₁) where
          -- The way is by an instance.
          chose : Chooses (Declared ns cl w top il) ns w₁ il top (left - 1) sp (λ ce. way_to ce (givens_of ns w root 0 l) (pred (name_of ns c) (tree ns w t)) (left - 1)) i k g t₁ l₁
          chose = rw h at W.answer

          -- The pairs lie below sp, and the table is no smaller.
          pub res_under : (2 * k ≤ sp) × (top ≤ t₁)
          res_under = let s = chose.spent in let r = R.room in (omega arith, chose.more)

          -- Steps were spent.
          pub res_down : l₁ + 1 < left
          res_down = let y = chose.down in omega arith

          -- What `all_resolved` asks.
          pub res_goals : length w₁ ≡ length w → ReadyResolve ns w₁ il t₁ l₁ (sp - 2 * k) root l g
          res_goals len = let s = chose.spent in let r = R.room in ready_on R W.stands.low chose.more chose.goals (omega arith) (omega arith) len

          module _ {w₂ : List ℕ} {v : Resolved} (A : GivesCore (Declared ns cl w₁ t₁ il) (cores ns w₂) (4 * t₁ + 8 * l₁) 0 ns w₁ w₂ t₁ l₁ (sp - 2 * k)
              (λ ce. all_resolved (λ q. resolve_in (d - 1) ce (givens_of ns w₁ root 0 l) q) (preds_of_word ns w₁ g) l₁) v) where
            -- The goal by its subgoals, which the code has resolved.
            subgoals : (ce : ClassEnv) (D : Declared ns cl w top il ce) → Then (resolve_in d ce (givens_of ns w root 0 l) (pred (name_of ns c) (tree ns w t)) left)
                (all_resolved (λ q. resolve_in (d - 1) ce (givens_of ns w₁ root 0 l) q) (preds_of_word ns w₁ g) l₁)
                (λ es. dictionary (record { index = i; inst = (chose.is ce D).inst; fills = sub_at ns w₁ (sp - 2 * k) k }) es)
            subgoals ce D =
                let o = ends_by (λ q. resolve_in (d - 1) ce (givens_of ns w root 0 l) q) (record { index = i; inst = (chose.is ce D).inst; fills = sub_at ns w₁ (sp - 2 * k) k }) (preds_of_word ns w₁ g) l₁ in
                record {
                  is = then_done _ l₁ (goes_way d left ce _ _ hd hl) (chose.is ce D).is ∙ o.is
                      ∙ ap (λ gs. after (all_resolved (λ q. resolve_in (d - 1) ce gs q) (preds_of_word ns w₁ g) l₁) (λ es. dictionary (record { index = i; inst = (chose.is ce D).inst; fills = sub_at ns w₁ (sp - 2 * k) k }) es))
                      (sym (kept_list ns root 0 W.stands.low R.givens));
                }

            -- The environment, for them.
            said : (ce : ClassEnv) → Declared ns cl w top il ce → Declared ns cl w₁ t₁ il ce
            said ce D = declared_kept W.stands.low chose.goals.table chose.more D

            -- Both calls leave what is older.
            both_stand : Stands w w₂ top sp
            both_stand = stands_then W.stands (stands_up A.stands (omega arith)) chose.more

            -- A subgoal is refused.
            pub res_lost : {e : Refusal} {t₂ l₂ : ℕ} → v ≡ Refused e t₂ l₂ → GivesCore (Declared ns cl w top il) (core ns w₂) (4 * top + 8 * left - 4) 1 ns w w₂ top left sp
                (λ ce. resolve_in d ce (givens_of ns w root 0 l) (pred (name_of ns c) (tree ns w t)) left) (Refused e t₂ l₂)
            res_lost j = let y = res_down in record { stands = both_stand; answer = λ ce D. refuse_on (subgoals ce D) (lost A j ce (said ce D)) chose.more (omega arith) }

            module _ {es t₂ l₂ : ℕ} (j : v ≡ Done es t₂ l₂) (len : length w₂ ≡ length w₁) where
              -- The table is no smaller.
              pub res_more : t₁ ≤ t₂
              res_more = (made A j).more

              -- What `build` asks.
              pub res_build : ReadyBuild ns w₂ il t₂ l₂ (sp - 2 * k) k i es
              res_build =
                  let m = made A j in let s = chose.spent in let q = m.spent in let n = chose.more in let r = R.room in
                  let K = both_stand.low in
                  let x = m.more in
                  record {
                    names = R.names;
                    heads = heads_kept K m.node.table (omega arith) R.heads;
                    there = chose.there;
                    args = m.node;
                    room = omega arith;
                    sub = sub-later A.stands chose.sub (omega arith) m.more (omega arith);
                  }

              -- What it gives.
              pub res_done : {w₃ : List ℕ} {z : Resolved} → GivesCore (Stored ns w₂ t₂ (get_or il i 0)) (core ns w₃) (4 * t₂ + 8 * l₂ + 4) 0 ns w₂ w₃ t₂ l₂ (sp - 2 * k)
                  (λ inst. dictionary (record { index = i; inst = inst; fills = sub_at ns w₂ (sp - 2 * k) k }) (cores ns w₂ es) l₂) z
                  → GivesCore (Declared ns cl w top il) (core ns w₃) (4 * top + 8 * left - 4) 1 ns w w₃ top left sp
                  (λ ce. resolve_in d ce (givens_of ns w root 0 l) (pred (name_of ns c) (tree ns w t)) left) z
              res_done {w₃} {z} B =
                  let m = made A j in let s = chose.spent in let q = m.spent in let n = chose.more in let x = m.more in let y = m.down in let u = res_down in
                  record {
                    stands = stands_then both_stand (stands_up B.stands (omega arith)) (omega arith);
                    answer = core_on _ _ (core ns w₃) _ _ ns w₃ top left t₂ l₂ _ _ z
                        (λ ce (D : Declared ns cl w top il ce). (chose.is ce D).inst)
                        (λ ce (D : Declared ns cl w top il ce). stored_kept both_stand.low m.node.table (omega arith) (D.instances.each i (chose.is ce D).inst (chose.is ce D).there))
                        (λ ce (D : Declared ns cl w top il ce). then_done (cores ns w₂ es) l₂ (subgoals ce D) (m.is ce (said ce D)) ∙ rw (sub_stands ns chose.goals.table A.stands chose.sub (omega arith)))
                        (omega arith) (omega arith) (omega arith) B.answer;
                  }
