-- Two quads shrunk to points overlap (document 01, marked example 5). Every edge of such a quad is the vector 0, so every projection on its normal is 0 or −0,
-- and no zero is below another. Assumes nothing.
use mathlib.Core.Path.{◌≡◌, refl, ap, ap₂, ◌∙◌}
use mathlib.Core.Bool.{Bool, true, false, not, ◌||◌}
use Prim.Native.Nat.{ℕ, ◌-◌, ◌*◌, ◌<◌}
use native.Mathlib.Nat.{le_refl, mul-pos}
use native.Mathlib.Omega.{arith}
use lib.IntN.{pos}
use lib.Dec.{T, ltb, lit≤}
use borrow.Author.Tests.{le-ltb}
use lib.Ieee.{Float, nan, inf, fin, binary64, of_int, up, down, round, unlike, sum, add, sub, mul, neg, lt, is_nan}
use lib.Ieee.Fits.{down_pos}
use lib.Ieee.Scale.{finite, round_same}
use Rattle.course.specs.Rules.Arithmetic.{◌⊕◌, ◌⊖◌, ◌⊗◌, natural, decimal}
use Rattle.course.specs.Rules.Constants.{f64_max, f64_min}
use Rattle.course.specs.Rules.Numeric.{min_of, max_of, least_of, greatest_of}
use Rattle.run.specs.Rules.Overlap.{least_on, greatest_on, apart_on, apart_along, apart_by_edges, overlap_of}
use Rattle.run.specs.Laws.Examples.{rectangle}

-- 0, and −0 where s is true
abbrev zero_of : Bool → Float
zero_of s = fin s 0 (pos 0)

-- x is 0 or −0
abbrev Zero : Float → Type 0
Zero x = (s : Bool) × (x ≡ zero_of s)

-- ---- arithmetic that gives zeros
zero-at-one : (s : Bool) → round binary64 s 0 1 ≡ zero_of s
unfolding round
zero-at-one false = refl
zero-at-one true = refl

-- 0 over anything rounds to a zero of the sign
zero-rounds : (s : Bool) (d : ℕ) → 0 < d → round binary64 s 0 d ≡ zero_of s
zero-rounds s d p = round_same binary64 s 0 d 0 1 p (lit≤ tt) (omega arith) ∙ zero-at-one s

-- a − a, and −a + a, are 0
opposites : (s : Bool) (a c : ℕ) → 0 < c → sum binary64 s a (not s) a c ≡ zero_of false
unfolding sum
opposites s a c p =
    let l : ltb a a ≡ false = le-ltb a a (le_refl a) in
    let d : a - a ≡ 0 = omega arith in
    go s l ∙ ap (λ (n : ℕ). round binary64 false n c) d ∙ zero-rounds false c p
  where
    go : (s : Bool) → ltb a a ≡ false → sum binary64 s a (not s) a c ≡ round binary64 false (a - a) c
    go false l = rw l
    go true l = rw l

-- a finite number less itself
less-itself : (x : Float) → T (finite x) → x ⊖ x ≡ zero_of false
unfolding sub add neg
less-itself nan f = absurd f
less-itself (inf s) f = absurd f
less-itself (fin s m e) f = opposites s (m * up e * down e) (down e * down e) (mul-pos (down_pos e) (down_pos e))

-- 0 times a finite number
zero-times : (x : Float) → T (finite x) → Zero (zero_of false ⊗ x)
unfolding mul
zero-times nan f = absurd f
zero-times (inf s) f = absurd f
zero-times (fin s m e) f =
    let z : 0 * 1 * (m * up e) ≡ 0 = omega arith in
    (unlike false s, ap (λ (n : ℕ). round binary64 (unlike false s) n (1 * down e)) z ∙ zero-rounds (unlike false s) (1 * down e) (mul-pos (lit≤ tt) (down_pos e)))

-- the sum of two zeros
zeros-sum : (s t : Bool) → Zero (zero_of s ⊕ zero_of t)
unfolding add sum round
zeros-sum false false = (false, refl)
zeros-sum false true = (false, refl)
zeros-sum true false = (false, refl)
zeros-sum true true = (true, refl)

-- the projection of a finite point on the axis (0, 0)
projects : (x y : Float) → T (finite x) → T (finite y) → Zero (zero_of false ⊗ x ⊕ zero_of false ⊗ y)
projects x y f g =
    let p = zero-times x f in
    let q = zero-times y g in
    let r = zeros-sum p.0 q.0 in
    (r.0, ap₂ ◌⊕◌ p.1 q.1 ∙ r.1)

-- ---- no axis parts two points
-- the greatest of four equal zeros is not below the least of four others
zeros-level : (s t : Bool) → lt (greatest_of (zero_of s) (zero_of s) (zero_of s) (zero_of s)) (least_of (zero_of t) (zero_of t) (zero_of t) (zero_of t)) ≡ false
unfolding least_of greatest_of min_of max_of f64_max f64_min decimal round neg lt is_nan
zeros-level false false = refl
zeros-level false true = refl
zeros-level true false = refl
zeros-level true true = refl

no-zero-below : (a b : Float) → Zero a → Zero b → lt (greatest_of a a a a) (least_of b b b b) ≡ false
no-zero-below a b (s, p) (t, q) = ap₂ (λ (u v : Float). lt (greatest_of u u u u) (least_of v v v v)) p q ∙ zeros-level s t

-- on the axis (0, 0), which is every normal that two points have
on-no-axis : (x y z w : Float) → T (finite x) → T (finite y) → T (finite z) → T (finite w)
    → apart_on (zero_of false) (zero_of false) (rectangle x y x y) (rectangle z w z w) ≡ false
unfolding apart_on least_on greatest_on
on-no-axis x y z w f g h k =
    let a = zero_of false ⊗ x ⊕ zero_of false ⊗ y in
    let b = zero_of false ⊗ z ⊕ zero_of false ⊗ w in
    ap₂ ◌||◌ (no-zero-below a b (projects x y f g) (projects z w h k)) (no-zero-below b a (projects z w h k) (projects x y f g))

-- on a normal of an edge of a quad shrunk to the point (u, v)
by-no-edge : (u v : Float) → T (finite u) → T (finite v) → (x y z w : Float) → T (finite x) → T (finite y) → T (finite z) → T (finite w)
    → apart_by_edges (rectangle u v u v) (rectangle x y x y) (rectangle z w z w) ≡ false
unfolding apart_by_edges apart_along
by-no-edge u v i j x y z w f g h k =
    let a : apart_on (v ⊖ v) (u ⊖ u) (rectangle x y x y) (rectangle z w z w) ≡ false =
    ap₂ (λ (m n : Float). apart_on m n (rectangle x y x y) (rectangle z w z w)) (less-itself v j) (less-itself u i) ∙ on-no-axis x y z w f g h k in
    ap₂ ◌||◌ a (ap₂ ◌||◌ a (ap₂ ◌||◌ a a))

-- the points may differ or not
pub points-overlap : (x y z w : Float) → T (finite x) → T (finite y) → T (finite z) → T (finite w)
    → overlap_of (rectangle x y x y) (rectangle z w z w) ≡ true
unfolding overlap_of
points-overlap x y z w f g h k = ap₂ (λ (p q : Bool). not (p || q)) (by-no-edge x y f g x y z w f g h k) (by-no-edge z w h k x y z w f g h k)

-- finiteness is needed: a point at infinity is apart from the origin
infinity-apart : overlap_of (rectangle (inf false) (natural 0) (inf false) (natural 0)) (rectangle (natural 0) (natural 0) (natural 0) (natural 0)) ≡ false
unfolding overlap_of apart_by_edges apart_along apart_on least_on greatest_on least_of greatest_of min_of max_of f64_max f64_min natural decimal of_int round add sub mul neg lt is_nan
infinity-apart = refl
