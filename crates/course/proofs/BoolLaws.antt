-- What tests and joined tests tell: the laws of bools that the kit does not have, each once for all crates. Assumes nothing.
use Rattle.std.proofs.Common.{◌≡◌, ℕ, suc, ◌≤◌, Bool, true, false, cond, not, ◌&&◌, ◌||◌, T, ◌⊎◌, sym, refl, ◌∙◌, inl, inr, true≢false, arith}
use mathlib.Core.Bool.{false≢true, and-true, and-false}
use Rattle.course.specs.Rules.Counting.{digit}

-- ---- one test
-- a test, with what it says
pub bool : (b : Bool) → (b ≡ true) ⊎ (b ≡ false)
bool true = inl refl
bool false = inr refl

pub no-T : (b : Bool) → (T b → ⊥) → b ≡ false
no-T true h = absurd (h tt)
no-T false h = refl

pub never-false : (b : Bool) → (b ≡ false → ⊥) → b ≡ true
never-false true h = refl
never-false false h = absurd (h refl)

pub digit-le : (b : Bool) → digit b ≤ 1
digit-le true = omega arith
digit-le false = omega arith

-- ---- two tests that imply each other are equal
pub same_test : (a b : Bool) → (T a → T b) → (T b → T a) → a ≡ b
same_test true true f g = refl
same_test true false f g = absurd (f tt)
same_test false true f g = absurd (g tt)
same_test false false f g = refl

-- and so are two that fail together
pub both_ways : (a b : Bool) → (a ≡ false → b ≡ false) → (b ≡ false → a ≡ false) → a ≡ b
both_ways true true f g = refl
both_ways true false f g = g refl
both_ways false true f g = sym (f refl)
both_ways false false f g = refl

-- ---- joined by `and`
pub and_left : (a b : Bool) → (a && b) ≡ true → a ≡ true
and_left true b h = refl
and_left false b h = h

pub and_right : (a b : Bool) → (a && b) ≡ true → b ≡ true
and_right true b h = h
and_right false b h = absurd (false≢true h)

pub both : (a b : Bool) → a ≡ true → b ≡ true → (a && b) ≡ true
both a b p q = rw (p, q)

-- two tests that agree where c does not hold
pub and-else : (c x y : Bool) → (c ≡ false → x ≡ y) → (x && not c) ≡ (y && not c)
and-else true x y h = and-false x ∙ sym (and-false y)
and-else false x y h = rw (h refl)

pub and-not : (a b : Bool) → b ≡ false → (a && not b) ≡ a
and-not a b h = rw h (and-true a)

-- ---- joined by `or`
pub left_false : (a b : Bool) → (a || b) ≡ false → a ≡ false
left_false true b e = e
left_false false b e = refl

pub right-false : (a b : Bool) → (a || b) ≡ false → b ≡ false
right-false true b e = absurd (true≢false e)
right-false false b e = e

pub or_no : (a b : Bool) → (a || b) ≡ false → (a ≡ false) × (b ≡ false)
or_no a b e = (left_false a b e, right-false a b e)

pub or_else : (c x y : Bool) → (c ≡ false → x ≡ y) → (c || x) ≡ (c || y)
or_else true x y h = refl
or_else false x y h = h refl

-- ---- chains of causes
pub cond-else : (b : Bool) (k x y : ℕ) → (b ≡ false → x ≡ y) → cond b k x ≡ cond b k y
cond-else true k x y h = refl
cond-else false k x y h = h refl

pub cond-skip : (b : Bool) (k x : ℕ) → b ≡ false → cond b k x ≡ x
cond-skip b k x h = rw h

-- no cause: the last test of a chain, and the tests before it
pub cleared : (b : Bool) (k r : ℕ) → cond b (suc k) r ≡ 0 → (b ≡ false) × (r ≡ 0)
cleared true k r h = absurd (omega (arith, h))
cleared false k r h = (refl, h)
