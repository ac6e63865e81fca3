-- Examples as sessions: the checker after declarations, each with a small budget and enough room.
use mathlib.Core.List.{List, [], ◌∷◌}
use Rattle.meaning.specs.Ast.{Decl}
use Rattle.meaning.specs.Session.{Checker, declare, Reached, after_call}

-- The checker after a list of declarations.
unfoldable pub declared : List Decl → Checker → Checker
declared [] ck = ck
declared (k ∷ ks) ck = declared ks (declare 512 65_536 512 k ck).checker

-- So an example speaks of a checker that a session can come to.
pub declared_reached : (ks : List Decl) (ck : Checker) → Reached ck → Reached (declared ks ck)
unfolding declared
declared_reached [] ck r = r
declared_reached (k ∷ ks) ck r = declared_reached ks (declare 512 65_536 512 k ck).checker (after_call r 512 65_536 512 k)
