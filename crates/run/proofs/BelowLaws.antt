-- Laws of tests over the numbers below a bound: some, every, how many; and of tests held to the numbers below n. Assumes nothing.
use mathlib.Core.Bool.{Bool, true, false, not, ◌&&◌, ◌||◌, and-true, and-false, or-false}
use mathlib.Core.Path.{◌≡◌, refl, sym, ap, ap₂, ◌∙◌, subst}
use Prim.Native.Nat.{ℕ, zero, suc, ◌+◌, ◌-◌, ◌≤◌, ◌<◌}
use native.Mathlib.Nat.{zero-add, sub-add_cancel}
use native.Mathlib.Numerals.{add-one}
use native.Mathlib.Omega.{arith}
use native.Mathlib.Decide.{dec_lt}
use lib.Dec.{ltb, eqb, eqb-suc-suc}
use borrow.Author.Tests.{lt-ltb, le-ltb, ne_eqb}
use Rattle.course.specs.Rules.Counting.{digit, how_many}
use Rattle.run.specs.Rules.Below.{any_below, every_below}
use Rattle.course.proofs.BoolLaws.{and-not, and_left, and_right, left_false, right-false}
use Rattle.run.proofs.WordLaws.{how_many-add}
use Rattle.run.proofs.CreditLaws.{few}

pub any-cong : (n : ℕ) (p q : ℕ → Bool) → ((i : ℕ) → i < n → p i ≡ q i) → any_below n p ≡ any_below n q
unfolding any_below
any-cong zero p q h = refl
any-cong (suc n) p q h = ap₂ ◌||◌ (any-cong n p q (λ i l. h i (omega arith))) (h n (omega arith))

-- what all numbers below n pass, each of them does
pub every-at : (n t : ℕ) (p : ℕ → Bool) → every_below n p ≡ true → t < n → p t ≡ true
unfolding every_below
every-at zero t p e h = absurd (omega arith)
every-at (suc n) t p e h =
    elim (dec_lt t n) [
      | yes l ↦ every-at n t p (and_left (every_below n p) (p n) e) l
      | no l ↦ subst (λ (x : ℕ). p x ≡ true) (omega arith) (and_right (every_below n p) (p n) e)
    ]

-- ---- a test held to the numbers below n
abbrev pub below : ℕ → (ℕ → Bool) → ℕ → Bool
below n p t = ltb t n && p t

pub below_in : (n : ℕ) (p : ℕ → Bool) (t : ℕ) → t < n → below n p t ≡ p t
below_in n p t h = rw (lt-ltb t n h)

pub below_out : (n : ℕ) (p : ℕ → Bool) (t : ℕ) → n ≤ t → below n p t ≡ false
below_out n p t h = rw (le-ltb t n h)

-- what holds of the numbers below n and of the others holds of all
pub by_side : (P : ℕ → Type 0) (n t : ℕ) → (t < n → P t) → (n ≤ t → P t) → P t
by_side P n t f g = elim (dec_lt t n) [ yes l ↦ f l | no l ↦ g (omega arith) ]

-- where nothing from n on passes, a greater bound finds and counts no more
any-past : (n d : ℕ) (p : ℕ → Bool) → ((t : ℕ) → n ≤ t → p t ≡ false) → any_below (d + n) p ≡ any_below n p
unfolding any_below
any-past n zero p h = ap (λ (k : ℕ). any_below k p) (zero-add n)
any-past n (suc d) p h = ap (λ (k : ℕ). any_below k p) (next d n) ∙ ap₂ ◌||◌ (any-past n d p h) (h (d + n) (omega arith)) ∙ or-false (any_below n p)
  where
    next : (d n : ℕ) → suc d + n ≡ suc (d + n)
    next d n = omega arith

pub any-within : (k n : ℕ) (p : ℕ → Bool) → n ≤ k → ((t : ℕ) → n ≤ t → p t ≡ false) → any_below k p ≡ any_below n p
any-within k n p b h = subst (λ (x : ℕ). any_below x p ≡ any_below n p) (sub-add_cancel b) (any-past n (k - n) p h)

none-past : (n : ℕ) (p : ℕ → Bool) → ((t : ℕ) → p t ≡ false) → how_many n p ≡ 0
unfolding how_many
none-past zero p h = refl
none-past (suc n) p h = ap₂ ◌+◌ (none-past n p h) (ap digit (h n))

pub how_many-within : (k n : ℕ) (p : ℕ → Bool) → n ≤ k → ((t : ℕ) → n ≤ t → p t ≡ false) → how_many k p ≡ how_many n p
how_many-within k n p b h =
    ap (λ (x : ℕ). how_many x p) (parts k n b) ∙ how_many-add n (k - n) p
    ∙ ap (λ (x : ℕ). how_many n p + x) (none-past (k - n) (λ t. p (n + t)) (λ t. h (n + t) (omega arith)))
    ∙ same (how_many n p)
  where
    parts : (k n : ℕ) → n ≤ k → k ≡ n + (k - n)
    parts k n b = omega arith

    same : (a : ℕ) → a + 0 ≡ a
    same a = omega arith

-- all pass exactly when as many pass as there are
eqb-digit : (c k : ℕ) (b : Bool) → c ≤ k → eqb (c + digit b) (suc k) ≡ (eqb c k && b)
eqb-digit c k true h = ap (λ (x : ℕ). eqb x (suc k)) (add-one c) ∙ eqb-suc-suc c k ∙ sym (and-true (eqb c k))
eqb-digit c k false h = ne_eqb (c + 0) (suc k) (λ e. omega arith) ∙ sym (and-false (eqb c k))

pub all_pass : (n : ℕ) (p : ℕ → Bool) → eqb (how_many n p) n ≡ every_below n p
unfolding how_many every_below
all_pass zero p = refl
all_pass (suc n) p = eqb-digit (how_many n p) n (p n) (few n p) ∙ ap (λ (b : Bool). b && p n) (all_pass n p)

-- ---- what passes now and did not before
-- where none passed before, some passes now that did not exactly where some passes now
pub any-entered : (k : ℕ) (before now : ℕ → Bool) → any_below k before ≡ false → any_below k (λ i. now i && not (before i)) ≡ any_below k now
unfolding any_below
any-entered zero before now h = refl
any-entered (suc k) before now h =
    ap₂ ◌||◌ (any-entered k before now (left_false _ _ h)) (and-not (now k) (before k) (right-false (any_below k before) (before k) h))
