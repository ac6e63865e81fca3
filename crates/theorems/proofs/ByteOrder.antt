-- Byte order is a strict order of all names, and of all type variables. Nothing is asked of the bytes of a made
-- variable: they are some number.
use mathlib.Core.Path.{◌≡◌, refl, ap, sym, ◌∙◌}
use mathlib.Core.Bool.{Bool, true, false, true≢false, false≢true}
use mathlib.Core.Logic.{◌≢◌}
use Prim.Native.Nat.{ℕ, ◌<◌}
use native.Mathlib.Omega.{arith}
use Rattle.meaning.specs.Base.{if, eqb, ltb}
use Rattle.meaning.specs.Ast.{Name, name, name_before, TyVar, named, fresh, key, tie, tyvar_before}
use Rattle.meaning.specs.Map.{names, tyvars}
use Rattle.theorems.proofs.Tests.{eqb_true, eqb_false, eqb_of, ltb_true, ltb_false, ltb_of}
use Rattle.theorems.proofs.Ordered.{Ordered}

-- ## numbers
less_trans : (l m n : ℕ) → ltb l m ≡ true → ltb m n ≡ true → ltb l n ≡ true
less_trans l m n p q = ltb_of l n (omega (arith, ltb_true l m p, ltb_true m n q))

less_irrefl : (n : ℕ) → ltb n n ≡ true → ⊥
less_irrefl n p = omega (arith, ltb_true n n p)

less_total : (m n : ℕ) → m ≢ n → ltb m n ≡ false → ltb n m ≡ true
less_total m n h p = ltb_of n m (omega (arith, ltb_false m n p))

-- ## names
name_trans : (x y z : Name) → name_before x y ≡ true → name_before y z ≡ true → name_before x z ≡ true
unfolding name_before
name_trans (name l) (name m) (name n) p q = less_trans l m n p q

name_irrefl : (x : Name) → name_before x x ≡ true → ⊥
unfolding name_before
name_irrefl (name n) p = less_irrefl n p

name_total : (x y : Name) → x ≢ y → name_before x y ≡ false → name_before y x ≡ true
unfolding name_before
name_total (name m) (name n) h p = less_total m n (λ e. h (ap name e)) p

-- Maps over names can be in order.
pub names_ordered : Ordered names
names_ordered = record { trans = name_trans; irrefl = name_irrefl; total = name_total }

-- ## variables of the same bytes
tie_trans : (x y z : TyVar) → tie x y ≡ true → tie y z ≡ true → tie x z ≡ true
unfolding tie
tie_trans (named x) (named y) (named z) p q = p
tie_trans (named x) (named y) (fresh n) p q = refl
tie_trans (named x) (fresh m) (named z) p q = q
tie_trans (named x) (fresh m) (fresh n) p q = refl
tie_trans (fresh l) (named y) (named z) p q = p
tie_trans (fresh l) (named y) (fresh n) p q = absurd (false≢true p)
tie_trans (fresh l) (fresh m) (named z) p q = q
tie_trans (fresh l) (fresh m) (fresh n) p q = less_trans l m n p q

tie_irrefl : (x : TyVar) → tie x x ≡ true → ⊥
unfolding tie
tie_irrefl (named x) p = absurd (false≢true p)
tie_irrefl (fresh n) p = less_irrefl n p

same_bytes : (x y : Name) → key (named x) ≡ key (named y) → x ≡ y
unfolding key
same_bytes (name m) (name n) e = ap name e

tie_total : (x y : TyVar) → x ≢ y → key x ≡ key y → tie x y ≡ false → tie y x ≡ true
unfolding tie
tie_total (named x) (named y) h e p = absurd (h (ap named (same_bytes x y e)))
tie_total (named x) (fresh n) h e p = absurd (true≢false p)
tie_total (fresh m) (named y) h e p = refl
tie_total (fresh m) (fresh n) h e p = less_total m n (λ i. h (ap fresh i)) p

-- ## type variables
-- What the order says: fewer bytes, or the same bytes and before by `tie`.
data Before (x y : TyVar) : Type 0 where
  by_key : key x < key y → Before x y
  by_tie : key x ≡ key y → tie x y ≡ true → Before x y

before : (x y : TyVar) → tyvar_before x y ≡ true → Before x y
unfolding tyvar_before
before x y p = go (eqb (key x) (key y)) refl p
  where
    go : (c : Bool) → eqb (key x) (key y) ≡ c → if c (tie x y) (ltb (key x) (key y)) ≡ true → Before x y
    go true e p = by_tie (eqb_true (key x) (key y) e) p
    go false e p = by_key (ltb_true (key x) (key y) p)

before_by_key : (x y : TyVar) → key x < key y → tyvar_before x y ≡ true
unfolding tyvar_before
before_by_key x y h = go (eqb (key x) (key y)) refl
  where
    go : (c : Bool) → eqb (key x) (key y) ≡ c → if c (tie x y) (ltb (key x) (key y)) ≡ true
    go true e = absurd (omega (arith, eqb_true (key x) (key y) e))
    go false e = ltb_of (key x) (key y) h

before_by_tie : (x y : TyVar) → key x ≡ key y → tie x y ≡ true → tyvar_before x y ≡ true
unfolding tyvar_before
before_by_tie x y e p = rw (eqb_of (key x) (key y) e) p

tyvar_trans : (x y z : TyVar) → tyvar_before x y ≡ true → tyvar_before y z ≡ true → tyvar_before x z ≡ true
tyvar_trans x y z p q = go (before x y p) (before y z q)
  where
    go : Before x y → Before y z → tyvar_before x z ≡ true
    go (by_key h) (by_key i) = before_by_key x z (omega arith)
    go (by_key h) (by_tie e b) = before_by_key x z (omega arith)
    go (by_tie e a) (by_key i) = before_by_key x z (omega arith)
    go (by_tie e a) (by_tie f b) = before_by_tie x z (e ∙ f) (tie_trans x y z a b)

tyvar_irrefl : (x : TyVar) → tyvar_before x x ≡ true → ⊥
tyvar_irrefl x p = go (before x x p)
  where
    go : Before x x → ⊥
    go (by_key h) = omega arith
    go (by_tie e a) = tie_irrefl x a

tyvar_total : (x y : TyVar) → x ≢ y → tyvar_before x y ≡ false → tyvar_before y x ≡ true
unfolding tyvar_before
tyvar_total x y h p = go (eqb (key x) (key y)) refl p
  where
    go : (c : Bool) → eqb (key x) (key y) ≡ c → if c (tie x y) (ltb (key x) (key y)) ≡ false → tyvar_before y x ≡ true
    go true e p = let i = eqb_true (key x) (key y) e in before_by_tie y x (sym i) (tie_total x y h i p)
    go false e p = before_by_key y x (let i = eqb_false (key x) (key y) e in omega (arith, ltb_false (key x) (key y) p))

-- Maps over type variables can be in order: all of a substitution's laws of order rest on this.
pub tyvars_ordered : Ordered tyvars
tyvars_ordered = record { trans = tyvar_trans; irrefl = tyvar_irrefl; total = tyvar_total }
