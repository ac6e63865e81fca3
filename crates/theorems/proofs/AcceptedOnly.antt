-- The accepted calls of a session answer what they would answer alone: what was refused in between leaves no trace.
use mathlib.Core.Path.{◌≡◌, refl, ap, subst}
use mathlib.Core.Bool.{Bool, true, false}
use mathlib.Core.List.{List, [], ◌∷◌}
use Rattle.meaning.specs.Base.{if, keep}
use Rattle.meaning.specs.Session.{Checker, Result, accepted, scheme_of, typed, refusal, Answer, Call, call, calls, after_calls, is_accepted, accepted_calls, Reached, after_call}
use Rattle.theorems.proofs.Refused.{refused_stands}

-- The answer accepts.
abbrev pub accepts : Answer → Bool
accepts a = is_accepted a.result

-- What is not accepted is refused, so the checker is the one before.
not_accepted : (c : Call) (ck : Checker) → accepts (call c ck) ≡ false → (call c ck).checker ≡ ck
unfolding is_accepted
not_accepted c ck e = go (call c ck).result refl e
  where
    go : (q : Result) → (call c ck).result ≡ q → is_accepted q ≡ false → (call c ck).checker ≡ ck
    go accepted i h = let z : true ≡ false = h in cc
    go (scheme_of s) i h = let z : true ≡ false = h in cc
    go (typed q e) i h = let z : true ≡ false = h in cc
    go (refusal r) i h = refused_stands c.budget c.work c.binders c.decl ck r i

-- The answers of the accepted calls, among all others, are those of the accepted calls alone.
pub accepted_alone : (cs : List Call) (ck : Checker) → keep accepts (calls cs ck) ≡ calls (accepted_calls cs ck) ck
unfolding keep calls accepted_calls
accepted_alone [] ck = refl
accepted_alone (c ∷ cs) ck = go (accepts (call c ck)) refl (accepted_alone cs (call c ck).checker)
  where
    go : (b : Bool) → accepts (call c ck) ≡ b → keep accepts (calls cs (call c ck).checker) ≡ calls (accepted_calls cs (call c ck).checker) (call c ck).checker
        → if b (call c ck ∷ keep accepts (calls cs (call c ck).checker)) (keep accepts (calls cs (call c ck).checker))
        ≡ calls (if b (c ∷ accepted_calls cs (call c ck).checker) (accepted_calls cs (call c ck).checker)) ck
    go true e rest = ap (◌∷◌ (call c ck)) rest
    go false e rest = subst (λ (k : Checker). keep accepts (calls cs (call c ck).checker) ≡ calls (accepted_calls cs (call c ck).checker) k) (not_accepted c ck e) rest

-- And they lead to the same checker.
pub accepted_leads : (cs : List Call) (ck : Checker) → after_calls cs ck ≡ after_calls (accepted_calls cs ck) ck
unfolding after_calls accepted_calls
accepted_leads [] ck = refl
accepted_leads (c ∷ cs) ck = go (accepts (call c ck)) refl (accepted_leads cs (call c ck).checker)
  where
    go : (b : Bool) → accepts (call c ck) ≡ b → after_calls cs (call c ck).checker ≡ after_calls (accepted_calls cs (call c ck).checker) (call c ck).checker
        → after_calls cs (call c ck).checker ≡ after_calls (if b (c ∷ accepted_calls cs (call c ck).checker) (accepted_calls cs (call c ck).checker)) ck
    go true e rest = rest
    go false e rest = subst (λ (k : Checker). after_calls cs (call c ck).checker ≡ after_calls (accepted_calls cs (call c ck).checker) k) (not_accepted c ck e) rest

-- What calls lead to from a new session is reached.
pub calls_reached : (cs : List Call) (ck : Checker) → Reached ck → Reached (after_calls cs ck)
unfolding after_calls
calls_reached [] ck r = r
calls_reached (c ∷ cs) ck r = calls_reached cs (call c ck).checker (after_call r c.budget c.work c.binders c.decl)
