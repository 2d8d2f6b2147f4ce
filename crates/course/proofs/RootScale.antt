-- `nearest_root` at a number that is written as X * 4 ^ K, with X of 105 or 106 binary digits: its root's 53 leading digits are those of X's root, K digits follow, and the bits are K * 2 ^ 52 and the rounded digits. Assumes nothing.
use Rattle.std.proofs.Common.{◌≡◌, ℕ, suc, ◌+◌, ◌-◌, ◌*◌, ◌/◌, ◌%◌, ◌^◌, ◌<◌, ◌≤◌, Bool, true, false, cond, T, ltb, ℤ, sym, refl, ap, ◌∙◌, subst, inl, inr, le_trans, le_of_eq, lt_of_lt_of_le, lt_of_le_of_lt, lt_irrefl, mul-le-mul_right, mod-eq_of_lt, mul_assoc, mul_comm, div-lt_iff_lt-mul, le_antisymm, eq-or-lt_of_le, mul-le-mul_left, mul-lt-mul_of_pos_right, mul-pos, lt_of_not-le, le-div_iff_mul-le, zero-add, mul-one, mul-div_cancel, arith, lit<, lit≤, lt→ltb, pow_pos, pow_mono, pow-add, shl_lt}
use Prim.Native.Nat.{compare, Ordering}
use native.Mathlib.Nat.{mul-mul-mul_comm}
use lib.Ieee.{Float, nan, inf, fin, binary64, up, down, size, nearest, odd, units, of_bits, to_bits, fits}
use lib.Ieee.Digits.{size-lt, size-le}
use lib.Ieee.Fits.{odd-fits, down_pos, nearest-le}
use lib.Ieee.Nearest.{nearest-ge}
use lib.Ieee.Bits.{of_bits-to_bits}
use lib.Ieee.Exact.{HasValue, units_val}
use Rattle.course.specs.Rules.Root.{whole_root, nearest_root}
use Rattle.course.specs.Steps.Root.{IsRoot, near_whole}
use Rattle.course.proofs.WholeRoot.{root-law, root_below, root-from, near-half, Cmp, cmp, compare-is}

-- ---- how many digits
pow_lt_back : (i p : ℕ) → 2 ^ i < 2 ^ p → i < p
pow_lt_back i p h = lt_of_not-le (λ (g : p ≤ i). lt_irrefl (2 ^ i) (lt_of_lt_of_le h (pow_mono g)))

size_exact : (a n : ℕ) → 2 ^ a ≤ n → n < 2 ^ suc a → size n ≡ suc a
size_exact a n lo hi = le_antisymm (size-le n (suc a) hi) (pow_lt_back a (size n) (lt_of_le_of_lt lo (size-lt n)))

-- q * 2 ^ k, for a q of a + 1 digits
pub size-shifted : (a q k : ℕ) → 2 ^ a ≤ q → q < 2 ^ suc a → (s : ℕ) → q * 2 ^ k ≤ s → s < (q + 1) * 2 ^ k → size s ≡ suc (a + k)
size-shifted a q k lo hi s l u =
    size_exact (a + k) s (le_trans (le_of_eq (pow-add 2 a k)) (le_trans (mul-le-mul_right (2 ^ k) lo) l))
    (lt_of_lt_of_le u (le_trans (mul-le-mul_right (2 ^ k) (next q (2 ^ suc a) hi)) (le_of_eq (sym (pow-add 2 (suc a) k) ∙ ap (λ (x : ℕ). 2 ^ x) (one a k)))))
  where
    one : (x y : ℕ) → suc x + y ≡ suc (x + y)
    one x y = omega arith

    next : (x y : ℕ) → x < y → x + 1 ≤ y
    next x y h = omega arith

-- ---- the root of X * (P * P)
module _ (X P : ℕ) (pos : 0 < P) where
  root-lower : P * whole_root X ≤ whole_root (X * (P * P))
  root-lower =
      root-from (X * (P * P)) (whole_root (X * (P * P))) (P * whole_root X) (root-law (X * (P * P))).next-above
      (le_trans (le_of_eq (mul-mul-mul_comm P (whole_root X) P (whole_root X) ∙ mul_comm (P * P) (whole_root X * whole_root X))) (mul-le-mul_right (P * P) (root-law X).not-above))

  root-upper : whole_root (X * (P * P)) < (whole_root X + 1) * P
  root-upper =
      root_below (X * (P * P)) (whole_root (X * (P * P))) ((whole_root X + 1) * P) (root-law (X * (P * P))).not-above
      (lt_of_lt_of_le (mul-lt-mul_of_pos_right (root-law X).next-above (mul-pos pos pos)) (le_of_eq (mul-mul-mul_comm (whole_root X + 1) (whole_root X + 1) P P)))

  lower' : whole_root X * P ≤ whole_root (X * (P * P))
  lower' = le_trans (le_of_eq (mul_comm (whole_root X) P)) root-lower

  root-cut : whole_root (X * (P * P)) / P ≡ whole_root X
  root-cut = le_antisymm (down1 (whole_root (X * (P * P)) / P) (whole_root X) ((div-lt_iff_lt-mul pos).1 root-upper)) ((le-div_iff_mul-le pos).1 lower')
    where
      down1 : (a b : ℕ) → a < b + 1 → a ≤ b
      down1 a b h = omega arith

-- ---- a comparison scaled
cmp-scale : (o : Ordering) (a b c : ℕ) → 0 < c → Cmp o a b → Cmp o (a * c) (b * c)
cmp-scale Ordering.lt a b c C h = mul-lt-mul_of_pos_right h C
cmp-scale Ordering.eq a b c C h = ap (λ (x : ℕ). x * c) h
cmp-scale Ordering.gt a b c C h = mul-lt-mul_of_pos_right h C

pub compare-scale : (a b c : ℕ) → 0 < c → compare (a * c) (b * c) ≡ compare a b
compare-scale a b c C = compare-is (compare (a * c) (b * c)) (compare a b) (a * c) (b * c) (cmp (a * c) (b * c)) (cmp-scale (compare a b) a b c C (cmp a b))

-- ---- `nearest_root`, from its r and its k on
abbrev at_root : ℕ → ℕ → ℕ → Float
at_root n q k = units binary64 false (nearest q (compare (4 * n) ((2 * q + 1) * (2 * q + 1) * (2 ^ k * 2 ^ k)))) k

nearest_root-is : (n : ℕ) → nearest_root n ≡ at_root n (whole_root n / 2 ^ (size (whole_root n) - 53)) (size (whole_root n) - 53)
unfolding nearest_root
nearest_root-is n = refl

pub near_whole-is : (n : ℕ) → near_whole n ≡ nearest (whole_root n) (compare (4 * n) ((2 * whole_root n + 1) * (2 * whole_root n + 1)))
unfolding near_whole
near_whole-is n = refl

-- the root of a number from 2 ^ 104 up and below 2 ^ 106 has 53 digits
pub root-high : (X : ℕ) → 2 ^ 104 ≤ X → 2 ^ 52 ≤ whole_root X
root-high X h = root-from X (whole_root X) (2 ^ 52) (root-law X).next-above h

pub root-low : (X : ℕ) → X < 2 ^ 106 → whole_root X < 2 ^ 53
root-low X h = root_below X (whole_root X) (2 ^ 53) (root-law X).not-above h

pub dropped : (X K : ℕ) → 2 ^ 104 ≤ X → X < 2 ^ 106 → size (whole_root (X * (2 ^ K * 2 ^ K))) - 53 ≡ K
dropped X K lo hi =
    ap (λ (z : ℕ). z - 53) (size-shifted 52 (whole_root X) K (root-high X lo) (root-low X hi) (whole_root (X * (2 ^ K * 2 ^ K))) (lower' X (2 ^ K) (pow_pos K)) (root-upper X (2 ^ K) (pow_pos K)))
    ∙ less K
  where
    less : (k : ℕ) → suc (52 + k) - 53 ≡ k
    less k = omega arith

pub scaled-root : (X K : ℕ) → 2 ^ 104 ≤ X → X < 2 ^ 106 → nearest_root (X * (2 ^ K * 2 ^ K)) ≡ units binary64 false (near_whole X) K
scaled-root X K lo hi =
    let P = 2 ^ K in
    let n = X * (P * P) in
    let w = whole_root X in
    nearest_root-is n
    ∙ ap (λ (k : ℕ). at_root n (whole_root n / 2 ^ k) k) (dropped X K lo hi)
    ∙ ap (λ (q : ℕ). at_root n q K) (root-cut X P (pow_pos K))
    ∙ ap (λ (z : ℕ). units binary64 false (nearest w (compare z ((2 * w + 1) * (2 * w + 1) * (P * P)))) K) (sym (mul_assoc 4 X (P * P)))
    ∙ ap (λ (o : Ordering). units binary64 false (nearest w o) K) (compare-scale (4 * X) ((2 * w + 1) * (2 * w + 1)) (P * P) (mul-pos (pow_pos K) (pow_pos K)))
    ∙ ap (λ (q : ℕ). units binary64 false q K) (sym (near_whole-is X))

pub near-high : (X : ℕ) → 2 ^ 104 ≤ X → 2 ^ 52 ≤ near_whole X
near-high X h = subst (λ (q : ℕ). 2 ^ 52 ≤ q) (sym (near_whole-is X)) (le_trans (root-high X h) (nearest-ge (whole_root X) (compare (4 * X) ((2 * whole_root X + 1) * (2 * whole_root X + 1)))))

pub near-low : (X : ℕ) → X < 2 ^ 106 → near_whole X ≤ 2 ^ 53
near-low X h = subst (λ (q : ℕ). q ≤ 2 ^ 53) (sym (near_whole-is X)) (le_trans (nearest-le (whole_root X) (compare (4 * X) ((2 * whole_root X + 1) * (2 * whole_root X + 1)))) (root-low X h))

-- ---- the bits of `units`
-- the bits of a finite value that is not negative, by its size in units of the smallest value
to_bits_is : (m : ℕ) (e : ℤ) (n : ℕ) → m * up e * 2 ^ 1074 / down e ≡ n → to_bits binary64 (fin false m e) ≡ 0 + (size n - 53) * 4503599627370496 + n / 2 ^ (size n - 53)
unfolding to_bits
to_bits_is m e n p = ap (λ (x : ℕ). 0 + (size x - 53) * 4503599627370496 + x / 2 ^ (size x - 53)) p

pub to_bits_val : (v : Float) (a : ℕ) → HasValue v false a (2 ^ 1074) → to_bits binary64 v ≡ 0 + (size a - 53) * 4503599627370496 + a / 2 ^ (size a - 53)
to_bits_val nan a h = absurd h
to_bits_val (inf s) a h = absurd h
to_bits_val (fin s m e) a h =
    ap (λ (t : Bool). to_bits binary64 (fin t m e)) h.0 ∙ to_bits_is m e a (ap (λ (x : ℕ). x / down e) h.1 ∙ mul-div_cancel a (down_pos e))

-- the two sizes that q can have
bits-of-size : (q K : ℕ) → 2 ^ 52 ≤ q → q ≤ 2 ^ 53 → 0 + (size (q * 2 ^ K) - 53) * 4503599627370496 + q * 2 ^ K / 2 ^ (size (q * 2 ^ K) - 53) ≡ K * 4503599627370496 + q
bits-of-size q K lo hi = elim (eq-or-lt_of_le hi) [
  | inr l ↦
      let z : size (q * 2 ^ K) - 53 ≡ K = ap (λ (x : ℕ). x - 53) (size-shifted 52 q K lo l (q * 2 ^ K) (le_of_eq refl) (mul-lt-mul_of_pos_right (next q) (pow_pos K))) ∙ less K in
      ap (λ (k : ℕ). 0 + k * 4503599627370496 + q * 2 ^ K / 2 ^ k) z
      ∙ ap (λ (x : ℕ). 0 + K * 4503599627370496 + x) (mul-div_cancel q (pow_pos K))
      ∙ ap (λ (x : ℕ). x + q) (zero-add (K * 4503599627370496))
  | inl e ↦ subst (λ (x : ℕ). 0 + (size (x * 2 ^ K) - 53) * 4503599627370496 + x * 2 ^ K / 2 ^ (size (x * 2 ^ K) - 53) ≡ K * 4503599627370496 + x) (sym e) at_top
]
  where
    next : (x : ℕ) → x < x + 1
    next x = omega arith

    less : (k : ℕ) → suc (52 + k) - 53 ≡ k
    less k = omega arith

    less' : (k : ℕ) → suc (53 + k) - 53 ≡ suc k
    less' k = omega arith

    carry : (k : ℕ) → 0 + suc k * 4503599627370496 + 2 ^ 52 ≡ k * 4503599627370496 + 2 ^ 53
    carry k = omega arith

    half : 2 ^ 53 * 2 ^ K ≡ 2 ^ 52 * 2 ^ suc K
    half = sym (pow-add 2 53 K) ∙ ap (λ (x : ℕ). 2 ^ x) (both K) ∙ pow-add 2 52 (suc K)
      where
        both : (k : ℕ) → 53 + k ≡ 52 + suc k
        both k = omega arith

    at_top : 0 + (size (2 ^ 53 * 2 ^ K) - 53) * 4503599627370496 + 2 ^ 53 * 2 ^ K / 2 ^ (size (2 ^ 53 * 2 ^ K) - 53) ≡ K * 4503599627370496 + 2 ^ 53
    at_top =
        let z : size (2 ^ 53 * 2 ^ K) - 53 ≡ suc K = ap (λ (x : ℕ). x - 53) (size-shifted 53 (2 ^ 53) K (lit≤ tt) (lit< tt) (2 ^ 53 * 2 ^ K) (le_of_eq refl) (mul-lt-mul_of_pos_right (next (2 ^ 53)) (pow_pos K))) ∙ less' K in
        ap (λ (k : ℕ). 0 + k * 4503599627370496 + 2 ^ 53 * 2 ^ K / 2 ^ k) z
        ∙ ap (λ (x : ℕ). 0 + suc K * 4503599627370496 + x) (ap (λ (x : ℕ). x / 2 ^ suc K) half ∙ mul-div_cancel (2 ^ 52) (pow_pos (suc K)))
        ∙ carry K

pub in-range : (q K : ℕ) → q ≤ 2 ^ 53 → K ≤ 2000 → q * 2 ^ K < 2 ^ 2098
in-range q K h k = lt_of_lt_of_le (shl_lt 54 K (lt_of_le_of_lt h (lit< tt))) (pow_mono (room K k))
  where
    room : (x : ℕ) → x ≤ 2000 → 54 + x ≤ 2098
    room x g = omega arith

units-is : (q K : ℕ) → q * 2 ^ K < 2 ^ 2098 → units binary64 false q K ≡ odd 54 false q K 1074
unfolding units
units-is q K h = go (ltb (q * 2 ^ K) (2 ^ 2098)) (lt→ltb (q * 2 ^ K) (2 ^ 2098) h)
  where
    go : (b : Bool) → T b → cond b (odd 54 false q K 1074) (inf false) ≡ odd 54 false q K 1074
    go true t = refl
    go false t = absurd t

pub units-fits : (q K : ℕ) → q ≤ 2 ^ 53 → K ≤ 2000 → T (fits binary64 (units binary64 false q K))
units-fits q K h k =
    subst (λ (v : Float). T (fits binary64 v)) (sym (units-is q K (in-range q K h k))) (odd-fits binary64 54 false q K (lt_of_le_of_lt h (lit< tt)) h (in-range q K h k))

pub units-bits : (q K : ℕ) → 2 ^ 52 ≤ q → q ≤ 2 ^ 53 → K ≤ 2000 → of_bits binary64 (K * 4503599627370496 + q) ≡ units binary64 false q K
units-bits q K lo hi k =
    let v = units binary64 false q K in
    ap (λ (b : ℕ). of_bits binary64 b) (sym (to_bits_val v (q * 2 ^ K) (units_val binary64 false q K (in-range q K hi k)) ∙ bits-of-size q K lo hi))
    ∙ of_bits-to_bits binary64 v (units-fits q K hi k)

-- ---- a power of two as 4 ^ K and the rest
pub joined : (m j K h : ℕ) → j + (K + K) ≡ h → m * 2 ^ j * (2 ^ K * 2 ^ K) ≡ m * 2 ^ h
joined m j K h e =
    mul_assoc m (2 ^ j) (2 ^ K * 2 ^ K) ∙ ap (λ (x : ℕ). m * x) (ap (λ (x : ℕ). 2 ^ j * x) (sym (pow-add 2 K K)) ∙ sym (pow-add 2 j (K + K)) ∙ ap (λ (x : ℕ). 2 ^ x) e)

-- ---- what the code computes
pub bits-law : (X K : ℕ) → 2 ^ 104 ≤ X → X < 2 ^ 106 → K ≤ 2000 → of_bits binary64 (K * 4503599627370496 + near_whole X) ≡ nearest_root (X * (2 ^ K * 2 ^ K))
bits-law X K lo hi k = units-bits (near_whole X) K (near-high X lo) (near-low X hi) k ∙ sym (scaled-root X K lo hi)

-- X is m * 2 ^ j
bits : (m j K h X r : ℕ) → X ≡ m * 2 ^ j → j + (K + K) ≡ h → 2 ^ 104 ≤ X → X < 2 ^ 106 → K ≤ 2000 → r ≡ near_whole X
    → (of_bits binary64 (K * 4503599627370496 + r) ≡ nearest_root (m * 2 ^ h)) × (K * 4503599627370496 + r < 9218868437227405312)
bits m j K h X r x e lo hi k q = (
  ap (λ (y : ℕ). of_bits binary64 (K * 4503599627370496 + y)) q ∙ bits-law X K lo hi k ∙ ap nearest_root (ap (λ (y : ℕ). y * (2 ^ K * 2 ^ K)) x ∙ joined m j K h e),
  omega (arith, near-low X hi),
)

-- of a parity
parity : (m o : ℕ) → m * 2 ^ o * 4503599627370496 ≡ m * 2 ^ (o + 52)
parity m o = mul_assoc m (2 ^ o) 4503599627370496 ∙ ap (λ (x : ℕ). m * x) (sym (pow-add 2 o 52))

above : (m o : ℕ) → 4503599627370496 ≤ m → 2 ^ 104 ≤ m * 2 ^ o * 4503599627370496
above m o h = go (m * 2 ^ o) (le_trans h (le_trans (le_of_eq (sym (mul-one m))) (mul-le-mul_left m (pow_pos o))))
  where
    go : (x : ℕ) → 4503599627370496 ≤ x → 2 ^ 104 ≤ x * 4503599627370496
    go x g = omega arith

below : (m o : ℕ) → m < 9007199254740992 → o < 2 → m * 2 ^ o * 4503599627370496 < 2 ^ 106
below m o h k = go (m * 2 ^ o) (omega (arith, mul-le-mul_left m (pow_mono (up o k))))
  where
    up : (x : ℕ) → x < 2 → x ≤ 1
    up x g = omega arith

    go : (x : ℕ) → x < 18014398509481984 → x * 4503599627370496 < 2 ^ 106
    go x g = omega arith

-- m's power by its parity, and the rest halved
pub bits_at : (m o K h r : ℕ) → 4503599627370496 ≤ m → m < 9007199254740992 → o < 2 → o + 52 + (K + K) ≡ h → K ≤ 2000 → r ≡ near_whole (m * 2 ^ o * 4503599627370496)
    → (of_bits binary64 (K * 4503599627370496 + r) ≡ nearest_root (m * 2 ^ h)) × (K * 4503599627370496 + r < 9218868437227405312)
bits_at m o K h r lo hi p e k q = bits m (o + 52) K h (m * 2 ^ o * 4503599627370496) r (parity m o) e (above m o lo) (below m o hi p) k q

-- ---- the significand, shifted by a parity
small : (m o : ℕ) → m < 9007199254740992 → o < 2 → m * 2 ^ o < 18014398509481984
small m o h k = omega (arith, mul-le-mul_left m (pow_mono (up o k)))
  where
    up : (x : ℕ) → x < 2 → x ≤ 1
    up x g = omega arith

-- nothing is shifted out
kept : (m o : ℕ) → m < 9007199254740992 → o < 2 → m * 2 ^ o % 18446744073709551616 ≡ m * 2 ^ o
kept m o h k = mod-eq_of_lt (omega (arith, small m o h k))

pub shifted : (m o : ℕ) → m < 9007199254740992 → o < 2 → m * 2 ^ o % 18446744073709551616 < 18014398509481984
shifted m o h k = subst (λ (x : ℕ). x < 18014398509481984) (sym (kept m o h k)) (small m o h k)

pub reaches : (m o : ℕ) → 4503599627370496 ≤ m → m < 9007199254740992 → o < 2 → 4503599627370496 ≤ m * 2 ^ o % 18446744073709551616
reaches m o g h k = subst (λ (x : ℕ). 4503599627370496 ≤ x) (sym (kept m o h k)) (le_trans g (le_trans (le_of_eq (sym (mul-one m))) (mul-le-mul_left m (pow_pos o))))

-- ---- the whole root of the shifted significand, with a digit to spare
abbrev spare : ℕ → ℕ → ℕ
spare m o = m * 2 ^ o % 18446744073709551616 * 18014398509481984

-- it has 54 digits
pub root-small : (m o w : ℕ) → m < 9007199254740992 → o < 2 → IsRoot (spare m o) w → w < 18014398509481984
root-small m o w h k r = root_below (spare m o) w 18014398509481984 r.not-above (omega (arith, shifted m o h k))

-- its last digit rounds the others
pub rounded : (m o w e : ℕ) → 4503599627370496 ≤ m → m < 9007199254740992 → o < 2 → IsRoot (spare m o) w → w ≤ 2 * e → 2 * e ≤ w + 1 → e ≡ near_whole (m * 2 ^ o * 4503599627370496)
rounded m o w e lo h k r u v =
    let n = m * 2 ^ o * 4503599627370496 in
    let s : IsRoot (4 * n) w = subst (λ (x : ℕ). IsRoot x w) (omega (arith, kept m o h k)) r in
    near-half n w e s (root-from (4 * n) w 1 s.next-above (omega (arith, above m o lo))) u v
