-- `floor x` is the largest whole number not above x: floor x ≤ x < floor x + 1, in the order of floats, for |x| ≤ 4503599627370496; and no other whole number has both. Assumes nothing.
use Rattle.std.proofs.Common.{◌≡◌, ℕ, zero, suc, ◌+◌, ◌-◌, ◌*◌, ◌/◌, ◌%◌, ◌^◌, ◌<◌, ◌≤◌, Bool, true, false, cond, ◌&&◌, ◌||◌, T, eqb, ltb, leb, ◌⊎◌, ℤ, pos, negsuc, neg_ℤ, sym, refl, ap, ◌∙◌, subst, inl, inr, true≢false, le_trans, le_of_eq, lt_of_lt_of_le, lt_of_le_of_lt, mul-le-mul_right, suc-mul, div-lt_iff_lt-mul, lt_of_mul-lt-mul_right, eq-or-lt_of_le, mul-lt-mul_of_pos_right, mul-one, mul_right_comm, div-mul-le_self, le_of_mul-le-mul_right, arith, lit≤, eqb→eq, ltb→lt, lt→ltb, pow_pos, le-ltb, lt-ltb}
use native.Mathlib.Nat.{pow-succ', lt-div-mul-add}
use mathlib.Core.Bool.{false≢true}
use lib.IntN.{suc_ℤ}
use lib.Ieee.{Float, nan, inf, fin, binary64, up, down, le, lt, eq, neg, add, sum, of_int, round, fits}
use lib.Ieee.Fits.{down_pos, eq→eqb, and_i, and_l, and_r}
use lib.Ieee.Exact.{HasValue}
use lib.Ieee.Back.{round_whole}
use lib.Ieee.Order.{le_of_values}
use lib.Ieee.Positive.{first_pos}
use lib.Ieee.Scale.{round_same}
use Rattle.course.specs.Steps.Numbers.{Bounded}
use Rattle.course.specs.Rules.Arithmetic.{natural}
use Rattle.course.specs.Rules.Numeric.{within}
use Rattle.course.specs.Rules.Trig.{floor, whole_below}
use Rattle.course.proofs.Naturals.{natural-val}
use Rattle.course.proofs.Bounds.{or-le, or-ge, bounded-of-within}
use Rattle.course.proofs.FloatOrder.{is-so}
use Rattle.course.proofs.Floor.{quotient}

-- ---- a whole number beside ±m · 2 ^ e
of_ge : (a b : ℕ) → b ≤ a → T (ltb b a || (eqb a b && true))
of_ge a b h = go (ltb b a) (eqb a b) (lt→ltb b a) (λ e. eq→eqb e) (eq-or-lt_of_le h)
  where
    go : (x y : Bool) → (b < a → T x) → (a ≡ b → T y) → (b ≡ a) ⊎ (b < a) → T (x || (y && true))
    go true y f g d = tt
    go false true f g d = tt
    go false false f g (inl e) = absurd (g (sym e))
    go false false f g (inr l) = absurd (f l)

over : (x e k d a : ℕ) → k * 1 ≡ a * d → k * e ≡ a * e * d
over x e k d a h = ap (λ (z : ℕ). z * e) (sym (mul-one k) ∙ h) ∙ mul_right_comm a d e

le-minus : (x : Float) (a m : ℕ) (e : ℤ) → HasValue x true a 1 → m * up e ≤ a * down e → T (le x (fin true m e))
unfolding le
le-minus nan a m e v h = absurd v
le-minus (inf s) a m e v h = absurd v
le-minus (fin false k d) a m e v h = absurd (false≢true v.0)
le-minus (fin true k d) a m e v h = of_ge (k * up d * down e) (m * up e * down d) (le_trans (mul-le-mul_right (down d) h) (le_of_eq (sym (over 0 (down e) (k * up d) (down d) a v.1))))

lt-minus : (x : Float) (a m : ℕ) (e : ℤ) → HasValue x true a 1 → a * down e < m * up e → T (lt (fin true m e) x)
unfolding lt
lt-minus nan a m e v h = absurd v
lt-minus (inf s) a m e v h = absurd v
lt-minus (fin false k d) a m e v h = absurd (false≢true v.0)
lt-minus (fin true k d) a m e v h = lt→ltb _ _ (lt_of_le_of_lt (le_of_eq (over 0 (down e) (k * up d) (down d) a v.1)) (mul-lt-mul_of_pos_right h (down_pos d)))

lt-plus : (x : Float) (a m : ℕ) (e : ℤ) → HasValue x false a 1 → m * up e < a * down e → T (lt (fin false m e) x)
unfolding lt
lt-plus nan a m e v h = absurd v
lt-plus (inf s) a m e v h = absurd v
lt-plus (fin true k d) a m e v h = absurd (true≢false v.0)
lt-plus (fin false k d) a m e v h = lt→ltb _ _ (lt_of_lt_of_le (mul-lt-mul_of_pos_right h (down_pos d)) (le_of_eq (sym (over 0 (down e) (k * up d) (down d) a v.1))))

-- ---- c is x / d rounded up
ceil-ge : (x d : ℕ) → 0 < d → x ≤ (x + (d - 1)) / d * d
ceil-ge x d D = let h : x + (d - 1) < (x + (d - 1)) / d * d + d = lt-div-mul-add D in omega arith

ceil-lt : (x d c : ℕ) → 0 < d → suc c * d ≤ x + (d - 1) → c * d < x
ceil-lt x d c D h = omega (arith, suc-mul c d)

small : (x d : ℕ) → 0 < d → x ≤ 4503599627370496 * d → (x + (d - 1)) / d ≤ 4503599627370496
small x d D h = let g : (x + (d - 1)) / d < 4503599627370497 = (div-lt_iff_lt-mul D).1 (omega arith) in omega arith

whole_part : (x d : ℕ) → 0 < d → x ≤ 4503599627370496 * d → x / d ≤ 4503599627370496
whole_part x d D h = let g : x / d < 4503599627370497 = (div-lt_iff_lt-mul D).1 (omega arith) in omega arith

-- −c below, and −c + 1 above, where c is the size rounded up
minus-below : (m : ℕ) (e : ℤ) (c : ℕ) → m * up e ≤ c * down e → c ≤ 4503599627370496 → T (le (of_int binary64 (neg_ℤ (pos c))) (fin true m e))
unfolding of_int le
minus-below m e zero h s =
    let a : 0 * 1 * down e ≡ m * up e * 1 = omega arith in
    let b : 0 * 1 * down e ≡ 0 = omega arith in
    and_i (eqb (0 * 1 * down e) (m * up e * 1)) (eqb (0 * 1 * down e) 0) (eq→eqb a) (eq→eqb b)
minus-below m e (suc c) h s = le-minus (round binary64 true (suc c) 1) (suc c) m e (round_whole binary64 true (suc c) (le_trans s (lit≤ tt))) h

minus-next : (m : ℕ) (e : ℤ) (c : ℕ) → c * down e ≤ m * up e + (down e - 1) → c ≤ 4503599627370496 → T (lt (fin true m e) (of_int binary64 (suc_ℤ (neg_ℤ (pos c)))))
unfolding of_int lt
minus-next m e zero h s = lt→ltb 0 (m * up e * 1 + 1 * 1 * down e) (let d : 0 < down e = down_pos e in omega arith)
minus-next m e (suc zero) h s = lt→ltb 0 (m * up e * 1 + 0 * 1 * down e) (let d : 0 < down e = down_pos e in omega arith)
minus-next m e (suc (suc c)) h s = lt-minus (round binary64 true (suc c) 1) (suc c) m e (round_whole binary64 true (suc c) (omega arith)) (ceil-lt (m * up e) (down e) (suc c) (down_pos e) h)

pub floor-below : (x : Float) → Bounded x 4503599627370496 → T (le (of_int binary64 (floor x)) x)
unfolding floor of_int
floor-below nan b = absurd b
floor-below (inf s) b = absurd b
floor-below (fin false m e) b =
    let n = m * up e / down e in
    le_of_values (round binary64 false n 1) (fin false m e) n 1 (m * up e) (down e) (lit≤ tt) (down_pos e) (round_whole binary64 false n (le_trans (whole_part (m * up e) (down e) (down_pos e) b) (lit≤ tt))) (refl, refl)
    (le_trans (div-mul-le_self (m * up e) (down e)) (le_of_eq (sym (mul-one (m * up e)))))
floor-below (fin true m e) b = minus-below m e ((m * up e + (down e - 1)) / down e) (ceil-ge (m * up e) (down e) (down_pos e)) (small (m * up e) (down e) (down_pos e) b)

pub floor-next : (x : Float) → Bounded x 4503599627370496 → T (lt x (of_int binary64 (suc_ℤ (floor x))))
unfolding floor of_int
floor-next nan b = absurd b
floor-next (inf s) b = absurd b
floor-next (fin false m e) b =
    let n = m * up e / down e in
    lt-plus (round binary64 false (suc n) 1) (suc n) m e (round_whole binary64 false (suc n) (let g = whole_part (m * up e) (down e) (down_pos e) b in omega arith)) (subst (λ (z : ℕ). m * up e < z) (sym (suc-mul n (down e))) (lt-div-mul-add (down_pos e)))
floor-next (fin true m e) b = minus-next m e ((m * up e + (down e - 1)) / down e) (div-mul-le_self (m * up e + (down e - 1)) (down e)) (small (m * up e) (down e) (down_pos e) b)

-- ---- no other whole number is: k ≤ x < k + 1 gives k ≡ floor x

-- |k| ≤ 4503599627370496
abbrev pub Small : ℤ → Type 0
Small (pos n) = n ≤ 4503599627370496
Small (negsuc n) = suc n ≤ 4503599627370496

-- ±a in order with ±m · 2 ^ e, over whole numbers
module _ (a m : ℕ) (e : ℤ) where
  plus-le : (x : Float) → HasValue x false a 1 → T (le x (fin false m e)) → a * down e ≤ m * up e
  unfolding le
  plus-le nan v h = absurd v
  plus-le (inf s) v h = absurd v
  plus-le (fin true k d) v h = absurd (true≢false v.0)
  plus-le (fin false k d) v h =
      le_of_mul-le-mul_right (le_trans (le_of_eq (sym (over 0 (down e) (k * up d) (down d) a v.1))) (or-le (k * up d * down e) (m * up e * down d) h)) (down_pos d)

  plus-gt : (x : Float) → HasValue x false a 1 → T (lt (fin false m e) x) → m * up e < a * down e
  unfolding lt
  plus-gt nan v h = absurd v
  plus-gt (inf s) v h = absurd v
  plus-gt (fin true k d) v h = absurd (true≢false v.0)
  plus-gt (fin false k d) v h =
      lt_of_mul-lt-mul_right (down d) (lt_of_lt_of_le (ltb→lt (m * up e * down d) (k * up d * down e) h) (le_of_eq (over 0 (down e) (k * up d) (down d) a v.1)))

  minus-le : (x : Float) → HasValue x true a 1 → T (le x (fin true m e)) → m * up e ≤ a * down e
  unfolding le
  minus-le nan v h = absurd v
  minus-le (inf s) v h = absurd v
  minus-le (fin false k d) v h = absurd (false≢true v.0)
  minus-le (fin true k d) v h =
      le_of_mul-le-mul_right (le_trans (or-ge (k * up d * down e) (m * up e * down d) h) (le_of_eq (over 0 (down e) (k * up d) (down d) a v.1))) (down_pos d)

  minus-gt : (x : Float) → HasValue x true a 1 → T (lt (fin true m e) x) → a * down e < m * up e
  unfolding lt
  minus-gt nan v h = absurd v
  minus-gt (inf s) v h = absurd v
  minus-gt (fin false k d) v h = absurd (false≢true v.0)
  minus-gt (fin true k d) v h =
      lt_of_mul-lt-mul_right (down d) (lt_of_le_of_lt (le_of_eq (sym (over 0 (down e) (k * up d) (down d) a v.1))) (ltb→lt (k * up d * down e) (m * up e * down d) h))

  -- across zero
  none_above : (x : Float) → HasValue x true a 1 → T (lt (fin false m e) x) → ⊥
  unfolding lt
  none_above nan v h = absurd v
  none_above (inf s) v h = absurd v
  none_above (fin false k d) v h = absurd (false≢true v.0)
  none_above (fin true k d) v h = h

  both-nought : (x : Float) → HasValue x false a 1 → T (le x (fin true m e)) → (a ≡ 0) × (m * up e ≡ 0)
  unfolding le
  both-nought nan v h = absurd v
  both-nought (inf s) v h = absurd v
  both-nought (fin true k d) v h = absurd (true≢false v.0)
  both-nought (fin false k d) v h =
      let x = k * up d * down e in
      let y = m * up e * down d in
      let q : x ≡ 0 = eqb→eq x 0 (and_r (eqb x y) (eqb x 0) h) in
      let p : x ≡ y = eqb→eq x y (and_l (eqb x y) (eqb x 0) h) in
      let r = over 0 (down e) (k * up d) (down d) a v.1 in
      (factor a (down e) (down_pos e) (factor (a * down e) (down d) (down_pos d) (sym r ∙ q)), factor (m * up e) (down d) (down_pos d) (sym p ∙ q))
    where
      factor : (n d : ℕ) → 0 < d → n * d ≡ 0 → n ≡ 0
      factor zero d D z = refl
      factor (suc n) d D z = absurd (omega (arith, suc-mul n d))

above-nought : (m : ℕ) (e : ℤ) (x : Float) → HasValue x false 0 1 → T (lt (fin true m e) x) → 0 < m * up e
unfolding lt
above-nought m e nan v h = absurd v
above-nought m e (inf s) v h = absurd v
above-nought m e (fin true k d) v h = absurd (true≢false v.0)
above-nought m e (fin false k d) v h =
    let g : 0 < m * up e * down d + k * up d * down e = ltb→lt 0 (m * up e * down d + k * up d * down e) h in
    let z = over 0 (down e) (k * up d) (down d) 0 v.1 in
    first_pos (m * up e) (down d) (omega arith)

-- no float lies between 4503599627370496 and the next whole number
no_part : (m : ℕ) (e : ℤ) → T (fits binary64 (fin false m e)) → m * up e < 4503599627370497 * down e → m * up e ≤ 4503599627370496 * down e
unfolding fits
no_part zero e f h = omega arith
no_part (suc m) (pos k) f h = omega arith
no_part (suc m) (negsuc k) f h =
    let o = eqb (suc m % 2) 1 in
    let d = ltb (suc m) (2 ^ 53) in
    let b = leb (2 ^ suc k) (2 ^ 1074) in
    let a = ltb (suc m * 1) (2 ^ 1024 * 2 ^ suc k) in
    let l : suc m < 2 ^ 53 = ltb→lt (suc m) (2 ^ 53) (and_r o d (and_l (o && d) b (and_l (o && d && b) a f))) in
    omega (arith, l, pow-succ' 2 k, pow_pos k)

no-bottom : (y : Float) (s : Bool) (a : ℕ) → HasValue y s a 1 → T (le y (inf true)) → ⊥
unfolding le
no-bottom nan s a v h = absurd v
no-bottom (inf t) s a v h = absurd v
no-bottom (fin t m e) s a v h = h

no_top : (y : Float) → T (lt (inf false) y) → ⊥
unfolding lt
no_top nan h = h
no_top (inf t) h = h
no_top (fin t m e) h = h

-- |x| ≤ 4503599627370496 and floor x ≡ k
abbrev At : Float → ℤ → Type 0
At x k = Bounded x 4503599627370496 × (floor x ≡ k)

plus-only : (x : Float) (n : ℕ) → T (fits binary64 x) → n ≤ 4503599627370496 → T (le (round binary64 false n 1) x) → T (lt x (round binary64 false (suc n) 1)) → At x (pos n)
unfolding lt floor
plus-only nan n f s l h = absurd h
plus-only (inf true) n f s l h = absurd (no-bottom (round binary64 false n 1) false n (round_whole binary64 false n (omega arith)) l)
plus-only (inf false) n f s l h = absurd (no_top (round binary64 false (suc n) 1) h)
plus-only (fin true m e) n f s l h =
    let z = both-nought n m e (round binary64 false n 1) (round_whole binary64 false n (omega arith)) l in
    let D = down_pos e in
    (omega (arith, z.1), ap (λ (c : ℕ). neg_ℤ (pos c)) (quotient 0 (m * up e + (down e - 1)) (down e) D (omega arith) (omega (arith, z.1))) ∙ ap pos (sym z.0))
plus-only (fin false m e) n f s l h =
    let a = plus-le n m e (round binary64 false n 1) (round_whole binary64 false n (omega arith)) l in
    let b = plus-gt (suc n) m e (round binary64 false (suc n) 1) (round_whole binary64 false (suc n) (omega arith)) h in
    let g : suc n * down e ≤ 4503599627370497 * down e = mul-le-mul_right (down e) (omega arith) in
    (no_part m e f (omega arith), ap pos (quotient n (m * up e) (down e) (down_pos e) a (omega (arith, suc-mul n (down e)))))

minus-only : (x : Float) (n : ℕ) → suc n ≤ 4503599627370496 → T (le (round binary64 true (suc n) 1) x) → T (lt x (of_int binary64 (suc_ℤ (negsuc n)))) → At x (negsuc n)
unfolding lt floor of_int
minus-only nan n s l h = absurd h
minus-only (inf true) n s l h = absurd (no-bottom (round binary64 true (suc n) 1) true (suc n) (round_whole binary64 true (suc n) (omega arith)) l)
minus-only (inf false) n s l h = absurd (no_top (of_int binary64 (suc_ℤ (negsuc n))) h)
minus-only (fin false m e) zero s l h = absurd (omega (arith, plus-gt 0 m e (round binary64 false 0 1) (round_whole binary64 false 0 (lit≤ tt)) h))
minus-only (fin false m e) (suc n) s l h = absurd (none_above (suc n) m e (round binary64 true (suc n) 1) (round_whole binary64 true (suc n) (omega arith)) h)
minus-only (fin true m e) n s l h =
    let a = minus-le (suc n) m e (round binary64 true (suc n) 1) (round_whole binary64 true (suc n) (omega arith)) l in
    let b = more n h s in
    let g : suc n * down e ≤ 4503599627370496 * down e = mul-le-mul_right (down e) s in
    (omega arith, ap (λ (c : ℕ). neg_ℤ (pos c)) (quotient (suc n) (m * up e + (down e - 1)) (down e) (down_pos e) (omega (arith, suc-mul n (down e))) (omega (arith, down_pos e))))
  where
    more : (n : ℕ) → T (lt (fin true m e) (of_int binary64 (suc_ℤ (negsuc n)))) → suc n ≤ 4503599627370496 → n * down e < m * up e
    more zero h s = let p = above-nought m e (round binary64 false 0 1) (round_whole binary64 false 0 (lit≤ tt)) h in omega arith
    more (suc n) h s = minus-gt (suc n) m e (round binary64 true (suc n) 1) (round_whole binary64 true (suc n) (omega arith)) h

pub floor-only : (x : Float) (k : ℤ) → T (fits binary64 x) → Small k → T (le (of_int binary64 k) x) → T (lt x (of_int binary64 (suc_ℤ k))) → At x k
unfolding of_int
floor-only x (pos n) f s l h = plus-only x n f s l h
floor-only x (negsuc n) f s l h = minus-only x n s l h

-- ---- k + 1 in floats is the whole number after k
abbrev one : Float
one = fin false 1 (pos 0)

plus_one : (x : Float) (n : ℕ) → HasValue x false n 1 → add binary64 x one ≡ round binary64 false (suc n) 1
unfolding add sum
plus_one nan n v = absurd v
plus_one (inf s) n v = absurd v
plus_one (fin true k d) n v = absurd (true≢false v.0)
plus_one (fin false k d) n v =
    let D = down_pos d in
    round_same binary64 false (k * up d * 1 + 1 * 1 * down d) (down d * 1) (suc n) 1 (omega arith) (lit≤ tt) (omega (arith, v.1, suc-mul n (down d)))

-- a / c = n + 1, less b / c = 1
less_one : (n a b c : ℕ) → 0 < c → b ≡ c → a ≡ suc n * c
    → cond (ltb a b) (round binary64 false (b - a) c) (round binary64 (ltb b a) (a - b) c) ≡ of_int binary64 (suc_ℤ (negsuc n))
unfolding of_int
less_one zero a b c C h k =
    rw (le-ltb a b (omega arith), le-ltb b a (omega arith)) (round_same binary64 false (a - b) c 0 1 C (lit≤ tt) (omega arith))
less_one (suc n) a b c C h k =
    let e = suc-mul (suc n) c in
    let f = suc-mul n c in
    rw (le-ltb a b (omega arith), lt-ltb b a (omega arith)) (round_same binary64 true (a - b) c (suc n) 1 C (lit≤ tt) (omega arith))

minus_one : (x : Float) (n : ℕ) → HasValue x true (suc n) 1 → add binary64 x one ≡ of_int binary64 (suc_ℤ (negsuc n))
unfolding add sum
minus_one nan n v = absurd v
minus_one (inf s) n v = absurd v
minus_one (fin false k d) n v = absurd (false≢true v.0)
minus_one (fin true k d) n v =
    let D = down_pos d in
    less_one n (k * up d * 1) (1 * 1 * down d) (down d * 1) (omega arith) (omega arith) (v.1 ∙ ap (λ (z : ℕ). suc n * z) (sym (mul-one (down d))))

pub next-whole : (k : ℤ) → Small k → add binary64 (of_int binary64 k) one ≡ of_int binary64 (suc_ℤ k)
unfolding of_int
next-whole (pos n) s = plus_one (round binary64 false n 1) n (round_whole binary64 false n (omega arith))
next-whole (negsuc n) s = minus_one (round binary64 true (suc n) 1) n (round_whole binary64 true (suc n) (omega arith))

-- ---- `whole_below`
within-small : (x : Float) → Bounded x 4503599627370496 → T (within (natural (2 ^ 52)) x)
unfolding within natural of_int round le lt eq neg
within-small nan b = absurd b
within-small (inf s) b = absurd b
within-small (fin false m e) b =
    let c = 1 * 4503599627370496 * down e in
    and_i (le (fin true 1 (pos 52)) (fin false m e)) (le (fin false m e) (fin false 1 (pos 52)))
    (is-so true c false (m * up e * 1) (omega arith)) (is-so false (m * up e * 1) false c (omega arith))
within-small (fin true m e) b =
    let c = 1 * 4503599627370496 * down e in
    and_i (le (fin true 1 (pos 52)) (fin true m e)) (le (fin true m e) (fin false 1 (pos 52)))
    (is-so true c true (m * up e * 1) (omega arith)) (is-so true (m * up e * 1) false c (omega arith))

small-floor : (x : Float) → Bounded x 4503599627370496 → Small (floor x)
unfolding floor
small-floor nan b = absurd b
small-floor (inf s) b = absurd b
small-floor (fin false m e) b = whole_part (m * up e) (down e) (down_pos e) b
small-floor (fin true m e) b = opposite ((m * up e + (down e - 1)) / down e) (small (m * up e) (down e) (down_pos e) b)
  where
    opposite : (c : ℕ) → c ≤ 4503599627370496 → Small (neg_ℤ (pos c))
    opposite zero h = h
    opposite (suc c) h = h

pub small-whole : (x : Float) → Small (whole_below x)
unfolding whole_below
small-whole x = go (within (natural (2 ^ 52)) x) (λ t. small-floor x (bounded-of-within (natural (2 ^ 52)) x (2 ^ 52) (natural-val (2 ^ 52) (lit≤ tt)) t))
  where
    go : (b : Bool) → (T b → Small (floor x)) → Small (cond b (floor x) (pos 0))
    go true f = f tt
    go false f = lit≤ tt

-- a whole number k with k ≤ x < k + 1 is the one below x
pub whole-only : (x : Float) (k : ℤ) → T (fits binary64 x) → Small k → le (of_int binary64 k) x ≡ true → lt x (add binary64 (of_int binary64 k) one) ≡ true → k ≡ whole_below x
unfolding whole_below
whole-only x k f s l h =
    let w = floor-only x k f s (subst T (sym l) tt) (subst T (sym (ap (lt x) (sym (next-whole k s)) ∙ h)) tt) in
    go (within (natural (2 ^ 52)) x) (within-small x w.0) (sym w.1)
  where
    go : (b : Bool) → T b → k ≡ floor x → k ≡ cond b (floor x) (pos 0)
    go true t e = e
    go false t e = absurd t
