-- Document 01, "Stand-ins": sine, cosine and atan2. Assumes nothing.
use Rattle.std.specs.Prelude.{ℕ, zero, suc, ◌+◌, ◌-◌, ◌*◌, ◌/◌, ◌%◌, ◌^◌, true, false, cond, ◌&&◌, List, [], ◌∷◌, ℤ, pos, negsuc, neg_ℤ, Float}
use Rattle.std.specs.Float.{nan, inf, fin, binary64}
use Rattle.std.specs.Float.Ieee.{up, down, neg, lt, eq, of_int}
use Rattle.course.specs.Rules.Arithmetic.{◌⊕◌, ◌⊖◌, ◌⊗◌, ◌⊘◌, natural, decimal}
use Rattle.course.specs.Rules.Constants.{half_pi}
use Rattle.course.specs.Rules.Numeric.{abs_of, within}

-- 1 * 2 * .. * n
unfoldable pub factorial : ℕ → ℕ
factorial zero = 1
factorial (suc n) = suc n * factorial n

-- 1 / n and −1 / n, each one division
unfoldable pub plus : ℕ → Float
plus n = natural 1 ⊘ natural n

unfoldable pub minus : ℕ → Float
minus n = neg (natural 1) ⊘ natural n

-- c + d·z + e·z² + .., highest term first, each step one product and one sum
unfoldable pub horner : Float → Float → List Float → Float
horner z c [] = c
horner z c (d ∷ ds) = horner z d ds ⊗ z ⊕ c

-- ---- sine and cosine

-- −1/3!, 1/5!, .. −1/15!
unfoldable pub sine_terms : List Float
sine_terms = minus (factorial 3) ∷ plus (factorial 5) ∷ minus (factorial 7) ∷ plus (factorial 9) ∷ minus (factorial 11) ∷ plus (factorial 13) ∷ minus (factorial 15) ∷ []

-- −1/2!, 1/4!, .. 1/16!
unfoldable pub cosine_terms : List Float
cosine_terms = minus (factorial 2) ∷ plus (factorial 4) ∷ minus (factorial 6) ∷ plus (factorial 8) ∷ minus (factorial 10) ∷ plus (factorial 12) ∷ minus (factorial 14) ∷ plus (factorial 16) ∷ []

-- S and C, of the rest r
unfoldable pub sine_poly : Float → Float
sine_poly r = r ⊗ horner (r ⊗ r) (natural 1) sine_terms

unfoldable pub cosine_poly : Float → Float
cosine_poly r = horner (r ⊗ r) (natural 1) cosine_terms

-- the largest whole number not above x, for a finite x (`floor-below` and `floor-next` in proofs/FloorOrder.antt: floor x ≤ x < floor x + 1)
unfoldable pub floor : Float → ℤ
floor nan = pos 0
floor (inf s) = pos 0
floor (fin false m e) = pos (m * up e / down e)
floor (fin true m e) = neg_ℤ (pos ((m * up e + (down e - 1)) / down e))

-- Document 01 speaks of |a| at most 16, where a/H + 0.5 is small. Beyond it the same formula goes on while such a number can have a
-- fraction, below 2^52; k is 0 from there on, and for what is not finite.
unfoldable pub whole_below : Float → ℤ
whole_below v = cond (within (natural (2 ^ 52)) v) (floor v) (pos 0)

-- k: the largest whole number not above a/H + 0.5
unfoldable pub turns_of : Float → ℤ
turns_of a = whole_below (a ⊘ half_pi ⊕ decimal 1 2)

-- r = a − k·H
unfoldable pub rest_of : Float → Float
rest_of a = a ⊖ of_int binary64 (turns_of a) ⊗ half_pi

-- k mod 4, from 0 to 3
unfoldable pub quarter_of : ℤ → ℕ
quarter_of (pos n) = n % 4
quarter_of (negsuc n) = 3 - n % 4

-- the one of four that a number from 0 to 3 names
unfoldable pub pick : ℕ → Float → Float → Float → Float → Float
pick zero a b c d = a
pick (suc zero) a b c d = b
pick (suc (suc zero)) a b c d = c
pick (suc (suc (suc n))) a b c d = d

-- by k mod 4, (cos, sin) is (C,S), (−S,C), (−C,−S), (S,−C)
unfoldable pub cosine_of : Float → Float
cosine_of a = pick (quarter_of (turns_of a)) (cosine_poly (rest_of a)) (neg (sine_poly (rest_of a))) (neg (cosine_poly (rest_of a))) (sine_poly (rest_of a))

unfoldable pub sine_of : Float → Float
sine_of a = pick (quarter_of (turns_of a)) (sine_poly (rest_of a)) (cosine_poly (rest_of a)) (neg (sine_poly (rest_of a))) (neg (cosine_poly (rest_of a)))

-- the two together
pub record SinCos : Type 0 where
  pub cos : Float
  pub sin : Float

unfoldable pub sin_cos_of : Float → SinCos
sin_cos_of a = record { cos = cosine_of a; sin = sine_of a }

-- ---- atan2

-- −1/3, 1/5, .. 1/41
unfoldable pub atan_terms : List Float
atan_terms =
    minus 3 ∷ plus 5 ∷ minus 7 ∷ plus 9 ∷ minus 11 ∷ plus 13 ∷ minus 15 ∷ plus 17 ∷ minus 19 ∷ plus 21 ∷ minus 23 ∷ plus 25 ∷ minus 27 ∷ plus 29 ∷ minus 31 ∷ plus 33 ∷ minus 35
    ∷ plus 37 ∷ minus 39 ∷ plus 41 ∷ []

unfoldable pub atan_poly : Float → Float
atan_poly w = horner (w ⊗ w) (natural 1) atan_terms

-- A, of t. If t > 0.41421356237309503, w = (t−1)/(t+1) and base 0.7853981633974483; else w = t, base 0
unfoldable pub arc : Float → Float → Float
arc base w = base ⊕ w ⊗ atan_poly w

unfoldable pub arc_of : Float → Float
arc_of t =
    cond (lt (decimal 41421356237309503 (10 ^ 17)) t)
    (arc (decimal 7853981633974483 (10 ^ 16)) ((t ⊖ natural 1) ⊘ (t ⊕ natural 1)))
    (arc (natural 0) t)

-- t is the smaller over the larger magnitude
unfoldable pub ratio_of : Float → Float → Float
ratio_of ay ax = cond (lt ax ay) (ax ⊘ ay) (ay ⊘ ax)

-- in turn: |y| > |x| gives H − A; x < 0 gives 3.141592653589793 − A; y < 0 gives −A
unfoldable pub steep_of : Float → Float → Float → Float
steep_of ay ax A = cond (lt ax ay) (half_pi ⊖ A) A

unfoldable pub leftward : Float → Float → Float
leftward x A = cond (lt x (natural 0)) (decimal 3141592653589793 (10 ^ 15) ⊖ A) A

unfoldable pub downward : Float → Float → Float
downward y A = cond (lt y (natural 0)) (neg A) A

unfoldable pub direction_of : Float → Float → Float
direction_of y x = downward y (leftward x (steep_of (abs_of y) (abs_of x) (arc_of (ratio_of (abs_of y) (abs_of x)))))

-- 0 if both are zero
unfoldable pub atan2_of : Float → Float → Float
atan2_of y x = cond (eq y (natural 0) && eq x (natural 0)) (natural 0) (direction_of y x)
