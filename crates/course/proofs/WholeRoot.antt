-- The law of `whole_root`: it is the one whole number w with w * w ≤ n < (w + 1) * (w + 1). Assumes nothing.
use Rattle.std.proofs.Common.{◌≡◌, ℕ, zero, suc, ◌+◌, ◌-◌, ◌*◌, ◌/◌, ◌^◌, ◌<◌, ◌≤◌, Bool, true, false, cond, not, T, eqb, leb, sym, refl, ap, ◌∙◌, subst, le_trans, le_of_eq, lt_of_lt_of_le, le_of_suc-le-suc, lt_irrefl, mul_assoc, add-mul, mul-le-mul, le_antisymm, one-mul, lt_of_not-le, mul-one, mul-add, mul_left_comm, arith, eqb→eq, leb→le}
use Prim.Native.Nat.{compare, Ordering}
use native.Mathlib.Nat.{pow-succ'}
use lib.Dec.{nleb→lt, is_le, compare_is_eq, eqb_refl}
use lib.Arith.{lt_of_le-ne}
use lib.Ieee.{size, nearest}
use lib.Ieee.Digits.{size-lt}
use Rattle.course.specs.Steps.Root.{IsRoot, near_whole}
use Rattle.course.specs.Rules.Root.{further, root_in, whole_root}

-- ---- squares
pub square-next : (w : ℕ) → (w + 1) * (w + 1) ≡ w * w + 2 * w + 1
square-next w = omega (arith, add-mul w 1 (w + 1), mul-add w w 1, mul-one w, one-mul (w + 1))

pub square-twice : (w : ℕ) → 2 * w * (2 * w) ≡ 4 * (w * w)
square-twice w = omega (arith, mul_assoc 2 w (2 * w), mul_left_comm w 2 w)

pub square-digit : (w : ℕ) → (2 * w + 1) * (2 * w + 1) ≡ 4 * (w * w) + 4 * w + 1
square-digit w = omega (arith, square-next (2 * w), square-twice w)

-- ---- there is one root
no_less : (n w v : ℕ) → IsRoot n w → IsRoot n v → v ≤ w
no_less n w v r s = le_of_suc-le-suc (lt_of_not-le (λ (h : suc w ≤ v). go h))
  where
    up : (a b : ℕ) → suc a ≤ b → a + 1 ≤ b
    up a b h = omega arith

    go : suc w ≤ v → ⊥
    go h = lt_irrefl n (lt_of_lt_of_le r.next-above (le_trans (mul-le-mul (up w v h) (up w v h)) s.not-above))

pub one-root : (n w v : ℕ) → IsRoot n w → IsRoot n v → w ≡ v
one-root n w v r s = le_antisymm (no_less n v w s r) (no_less n w v r s)

-- ---- one digit more
pub further-law : (n w : ℕ) → IsRoot (n / 4) w → IsRoot n (further n w)
further-law n w r = go (leb ((2 * w + 1) * (2 * w + 1)) n) (leb→le ((2 * w + 1) * (2 * w + 1)) n) (nleb→lt ((2 * w + 1) * (2 * w + 1)) n)
  where
    go : (b : Bool) → (T b → (2 * w + 1) * (2 * w + 1) ≤ n) → (T (not b) → n < (2 * w + 1) * (2 * w + 1)) → IsRoot n (cond b (2 * w + 1) (2 * w))
    go true h k = record {
      not-above = h tt;
      next-above = omega (arith, square-next (2 * w + 1), square-digit w, square-next w, r.next-above);
    }
    go false h k = record { not-above = omega (arith, square-twice w, r.not-above); next-above = k tt }

quarter : (n p : ℕ) → n < 4 * p → n / 4 < p
quarter n p h = omega arith

none : (n : ℕ) → n < 1 → IsRoot n 0
none n h = record { not-above = omega arith; next-above = omega arith }

pub root_in-law : (d n : ℕ) → n < 4 ^ d → IsRoot n (root_in d n)
unfolding root_in
root_in-law zero n h = none n h
root_in-law (suc d) n h = further-law n (root_in d (n / 4)) (root_in-law d (n / 4) (quarter n (4 ^ d) (subst (λ (x : ℕ). n < x) (pow-succ' 4 d) h)))

grow : (d : ℕ) → 2 ^ d ≤ 4 ^ d
grow zero = le_of_eq refl
grow (suc d) = go (2 ^ d) (4 ^ d) (2 ^ suc d) (4 ^ suc d) (grow d) (pow-succ' 2 d) (pow-succ' 4 d)
  where
    go : (a b c e : ℕ) → a ≤ b → c ≡ 2 * a → e ≡ 4 * b → c ≤ e
    go a b c e h p q = omega arith

pub root-law : (n : ℕ) → IsRoot n (whole_root n)
unfolding whole_root
root-law n = root_in-law (size n) n (lt_of_lt_of_le (size-lt n) (grow (size n)))

pub root_is : (n w : ℕ) → IsRoot n w → whole_root n ≡ w
root_is n w r = one-root n (whole_root n) w (root-law n) r

-- ---- how large a root is
pub root_below : (n w p : ℕ) → w * w ≤ n → n < p * p → w < p
root_below n w p h k = lt_of_not-le (λ (g : p ≤ w). lt_irrefl n (lt_of_lt_of_le k (le_trans (mul-le-mul g g) h)))

pub root-from : (n w p : ℕ) → n < (w + 1) * (w + 1) → p * p ≤ n → p ≤ w
root-from n w p h k = le_of_suc-le-suc (subst (λ (x : ℕ). p < x) (one w) (root_below n p (w + 1) k h))
  where
    one : (x : ℕ) → x + 1 ≡ suc x
    one x = omega arith

-- ---- what `compare` says
abbrev pub Cmp : Ordering → ℕ → ℕ → Type 0
Cmp Ordering.lt a b = a < b
Cmp Ordering.eq a b = a ≡ b
Cmp Ordering.gt a b = b < a

pub cmp : (a b : ℕ) → Cmp (compare a b) a b
cmp a b = go (compare a b) (leb→le a b) (nleb→lt a b) (eqb→eq a b) (λ (e : a ≡ b). subst (λ (x : ℕ). T (eqb a x)) e (eqb_refl a))
  where
    go : (o : Ordering) → (T (is_le o) → a ≤ b) → (T (not (is_le o)) → b < a) → (T (compare_is_eq o) → a ≡ b) → (a ≡ b → T (compare_is_eq o)) → Cmp o a b
    go Ordering.lt h k e n = lt_of_le-ne (h tt) n
    go Ordering.eq h k e n = e tt
    go Ordering.gt h k e n = k tt

pub compare-is : (o p : Ordering) (a b : ℕ) → Cmp o a b → Cmp p a b → o ≡ p
compare-is Ordering.lt Ordering.lt a b h k = refl
compare-is Ordering.lt Ordering.eq a b h k = absurd (clash a b h k)
  where
    clash : (x y : ℕ) → x < y → x ≡ y → ⊥
    clash x y u v = omega arith
compare-is Ordering.lt Ordering.gt a b h k = absurd (clash a b h k)
  where
    clash : (x y : ℕ) → x < y → y < x → ⊥
    clash x y u v = omega arith
compare-is Ordering.eq Ordering.lt a b h k = absurd (clash a b h k)
  where
    clash : (x y : ℕ) → x ≡ y → x < y → ⊥
    clash x y u v = omega arith
compare-is Ordering.eq Ordering.eq a b h k = refl
compare-is Ordering.eq Ordering.gt a b h k = absurd (clash a b h k)
  where
    clash : (x y : ℕ) → x ≡ y → y < x → ⊥
    clash x y u v = omega arith
compare-is Ordering.gt Ordering.lt a b h k = absurd (clash a b h k)
  where
    clash : (x y : ℕ) → y < x → x < y → ⊥
    clash x y u v = omega arith
compare-is Ordering.gt Ordering.eq a b h k = absurd (clash a b h k)
  where
    clash : (x y : ℕ) → y < x → x ≡ y → ⊥
    clash x y u v = omega arith
compare-is Ordering.gt Ordering.gt a b h k = refl

-- ---- the nearest whole number, by how far the root's square is below
near-at : (n w : ℕ) (o : Ordering) → IsRoot n w → Cmp o (4 * n) ((2 * w + 1) * (2 * w + 1)) → near_whole n ≡ nearest w o
unfolding near_whole
near-at n w o r h =
    ap (λ (x : ℕ). nearest x (compare (4 * n) ((2 * x + 1) * (2 * x + 1)))) (root_is n w r)
    ∙ ap (λ (p : Ordering). nearest w p) (compare-is (compare (4 * n) ((2 * w + 1) * (2 * w + 1))) o (4 * n) ((2 * w + 1) * (2 * w + 1)) (cmp (4 * n) ((2 * w + 1) * (2 * w + 1))) h)

near_up : (n w : ℕ) → IsRoot n w → w * w + w < n → w + 1 ≡ near_whole n
near_up n w r k = one w ∙ sym (near-at n w Ordering.gt r (omega (arith, square-digit w, k)))
  where
    one : (x : ℕ) → x + 1 ≡ suc x
    one x = omega arith

near_down : (n w : ℕ) → IsRoot n w → n ≤ w * w + w → w ≡ near_whole n
near_down n w r k = sym (near-at n w Ordering.lt r (omega (arith, square-digit w, k)))

-- ---- the nearest whole number, by how far its square is from n
near_by : (n e : ℕ) → 0 < e → n ≤ e * e + e → e * e < n + e → e ≡ near_whole n
near_by n e z h k = go (leb (e * e) n) (leb→le (e * e) n) (nleb→lt (e * e) n)
  where
    back : (x : ℕ) → 0 < x → x - 1 + 1 ≡ x
    back x p = omega arith

    go : (b : Bool) → (T b → e * e ≤ n) → (T (not b) → n < e * e) → e ≡ near_whole n
    go true p q = let f : e * e ≤ n = p tt in near_down n e (record { not-above = f; next-above = omega (arith, square-next e) }) (omega arith)
    go false p q =
        let f : n < e * e = q tt in
        let s : e * e ≡ (e - 1) * (e - 1) + 2 * (e - 1) + 1 = ap (λ (x : ℕ). x * x) (sym (back e z)) ∙ square-next (e - 1) in
        sym (back e z) ∙ near_up n (e - 1) (record { not-above = omega (arith, s); next-above = omega (arith, square-next (e - 1), s) }) (omega (arith, s))

-- ---- the whole root of 4 m has one digit more than that of m: it rounds to the nearest
half-even : (m w e : ℕ) → w ≡ 2 * e → IsRoot (4 * m) w → 0 < e → e ≡ near_whole m
half-even m w e q r z =
    let s : w * w ≡ 4 * (e * e) = ap (λ (x : ℕ). x * x) q ∙ square-twice e in
    near_by m e z (omega (arith, s, square-next w, r.not-above, r.next-above)) (omega (arith, s, square-next w, r.not-above, r.next-above))

half-odd : (m w e : ℕ) → w + 1 ≡ 2 * e → IsRoot (4 * m) w → 0 < e → e ≡ near_whole m
half-odd m w e q r z =
    let s : (w + 1) * (w + 1) ≡ 4 * (e * e) = ap (λ (x : ℕ). x * x) q ∙ square-twice e in
    near_by m e z (omega (arith, s, square-next w, r.not-above, r.next-above)) (omega (arith, s, square-next w, r.not-above, r.next-above))

-- e is half of w, rounded up
pub near-half : (m w e : ℕ) → IsRoot (4 * m) w → 0 < w → w ≤ 2 * e → 2 * e ≤ w + 1 → e ≡ near_whole m
near-half m w e r z u v = go (leb (2 * e) w) (leb→le (2 * e) w) (nleb→lt (2 * e) w)
  where
    go : (b : Bool) → (T b → 2 * e ≤ w) → (T (not b) → w < 2 * e) → e ≡ near_whole m
    go true p q = let f : 2 * e ≤ w = p tt in half-even m w e (omega arith) r (omega arith)
    go false p q = let f : w < 2 * e = q tt in half-odd m w e (omega arith) r (omega arith)
