-- What stands above a dictionary, and what is derived, under more givens and under other names.
use mathlib.Core.Path.{refl}
use mathlib.Core.List.{List, Memᴰ}
use Rattle.meaning.specs.Ast.{super, Pred, Core, Cores, dict_proj, dict_rec, cnil, ◌◃◌}
use Rattle.meaning.specs.Classes.{ClassEnv, Given, applied}
use Rattle.meaning.specs.Derives.{Entry, itself, above, Derives, by_given, by_instance, DeriveAll, none_left, one_more}

-- A projection of a projection is a projection.
pub entry_trans : {ce : ClassEnv} {e f g : Core} {p q r : Pred} → Entry ce e p f q → Entry ce f q g r → Entry ce e p g r
entry_trans itself y = y
entry_trans (above k s x) y = above k s (entry_trans x y)

-- Which predicates stand above one is no matter of the dictionary at hand: another has the same list, by other terms.
pub entry_from : {ce : ClassEnv} {e f : Core} {p q : Pred} (e' : Core) → Entry ce e p f q → (f' : Core) × Entry ce e' p f' q
entry_from e' itself = (e', itself)
entry_from e' (above {p = p} {s = s} k m x) = let r = entry_from (dict_proj e' (super p.class s)) x in (r.0, above k m r.1)

-- More givens derive no less, by the same dictionaries.
mutual
  pub derives_more : {ce : ClassEnv} {gs hs : List Given} {p : Pred} {e : Core}
      → ((g : Given) → Memᴰ g gs → Memᴰ g hs) → Derives ce gs p e → Derives ce hs p e
  derives_more w (by_given {g = g} m x) = by_given (w g m) x
  derives_more w (by_instance i a t ds e) = by_instance i a t (derive_all_more w ds) e

  pub derive_all_more : {ce : ClassEnv} {gs hs : List Given} {ps : List Pred} {es : Cores}
      → ((g : Given) → Memᴰ g gs → Memᴰ g hs) → DeriveAll ce gs ps es → DeriveAll ce hs ps es
  derive_all_more w none_left = none_left
  derive_all_more w (one_more d ds) = one_more (derives_more w d) (derive_all_more w ds)

-- What can be derived depends on the givens' predicates alone: under other names, and more, it is derived by another term.
mutual
  pub derives_renamed : {ce : ClassEnv} {gs hs : List Given} {p : Pred} {e : Core}
      → ((g : Given) → Memᴰ g gs → (f : Core) × Memᴰ (f, g.1) hs) → Derives ce gs p e → (e' : Core) × Derives ce hs p e'
  derives_renamed w (by_given {g = g} m x) = let r = w g m in let y = entry_from r.0 x in (y.0, by_given r.1 y.1)
  derives_renamed w (by_instance i {p = p} a t ds e) =
      let r = derive_all_renamed w ds in (applied (dict_rec p.class p.ty i) r.0, by_instance i a t r.1 refl)

  pub derive_all_renamed : {ce : ClassEnv} {gs hs : List Given} {ps : List Pred} {es : Cores}
      → ((g : Given) → Memᴰ g gs → (f : Core) × Memᴰ (f, g.1) hs) → DeriveAll ce gs ps es → (es' : Cores) × DeriveAll ce hs ps es'
  derive_all_renamed w none_left = (cnil, none_left)
  derive_all_renamed w (one_more d ds) =
      let r = derives_renamed w d in let rs = derive_all_renamed w ds in (r.0 ◃ rs.0, one_more r.1 rs.1)
