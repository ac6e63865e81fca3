-- What a case that was tested is.
use mathlib.Core.List.{List}
use Prim.Native.Nat.{ℕ, ◌≤◌}
use native.Mathlib.Omega.{arith}
use lib.ListN.{length}
use Rattle.names.specs.Names.{Names}
use Rattle.instances.specs.Picks.{ReadyPick}
use Rattle.supers.specs.declared.Root.TheVariants.{Context}
use Rattle.resolve.specs.Resolves.{ReadyResolve}
use Rattle.cases.specs.Posed.{Posed}

-- What resolution asks, where the stack ends after n words.
pub resolve_ready : {ns w il : List ℕ} {n top left h l t : ℕ} → Names ns → n ≤ length w → Posed w n il top left h l t → ReadyResolve ns w il top left n (Context h) l t
resolve_ready {ns} N h P = record { names = N; givens = P.fits.first; few = (P.named, let s = P.short.is ns in omega arith); goal = P.fits.second; heads = P.heads; room = P.fits.room; fits = h }

-- What the test of overlap asks.
pub pick_ready : {ns w il : List ℕ} {n top left h l t : ℕ} → Names ns → n ≤ length w → Posed w n il top left h l t → ReadyPick ns w il top left n t
pick_ready N h P = record { names = N; node = P.fits.second; heads = P.heads; room = P.fits.room; fits = h }
