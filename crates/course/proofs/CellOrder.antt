-- `cell_of` keeps the order: v ≤ w gives cell_of v ≤ cell_of w. Assumes nothing.
use Rattle.std.proofs.Common.{◌≡◌, ℕ, ◌+◌, ◌-◌, ◌*◌, ◌/◌, ◌^◌, ◌<◌, ◌≤◌, min, Bool, true, false, cond, not, T, eqb, ltb, ℤ, pos, negsuc, sym, refl, ap, ◌∙◌, inl, inr, zero-le, le_trans, le_of_eq, le_refl, le_of_lt, mul-le-mul_right, mul_assoc, mul_comm, add-mul, eq-zero-or-pos, mul-pos, zero-mul, mul-one, mul_right_comm, le_of_mul-le-mul_right, mul_left_comm, arith, lit≤, eqb→eq, ltb→lt, nltb→le, le-ltb, lt-ltb}
use native.Mathlib.Nat.{mul-sub}
use lib.Ieee.{neg, Float, nan, inf, fin, binary64, up, down, round, sum, add, div, le, to_unsigned, of_int}
use lib.Ieee.Fits.{down_pos, and_l, and_r}
use lib.Ieee.Nearest.{div_mono}
use lib.Ieee.Order.{round_mono}
use lib.Ieee.Casts.{to_unsigned-lt}
use Rattle.course.specs.Rules.Arithmetic.{natural}
use Rattle.course.specs.Rules.Constants.{playfield, scale, grid_cell}
use Rattle.course.specs.Rules.Cell.{along, cell_of}
use Rattle.course.proofs.Bounds.{plain, plain-round, or-le, or-ge, neg-round}
use Rattle.course.proofs.Cells.{cell_cut}

-- ---- the cast keeps the order
capped : (a b : ℕ) → a ≤ b → min a (2 ^ 64 - 1) ≤ min b (2 ^ 64 - 1)
capped a b h = omega arith

cap : (a : ℕ) → min a (2 ^ 64 - 1) ≤ 2 ^ 64 - 1
cap a = omega arith

cast-mono : (x y : Float) → T (plain x) → T (plain y) → T (le x y) → to_unsigned 64 x ≤ to_unsigned 64 y
unfolding to_unsigned le
cast-mono nan y p q h = absurd p
cast-mono (inf true) y p q h = absurd p
cast-mono (inf false) nan p q h = absurd q
cast-mono (inf false) (inf true) p q h = absurd q
cast-mono (inf false) (inf false) p q h = le_refl (2 ^ 64 - 1)
cast-mono (inf false) (fin t n d) p q h = absurd h
cast-mono (fin true m e) y p q h = absurd p
cast-mono (fin false m e) nan p q h = absurd q
cast-mono (fin false m e) (inf true) p q h = absurd q
cast-mono (fin false m e) (inf false) p q h = cap (m * up e / down e)
cast-mono (fin false m e) (fin true n d) p q h = absurd q
cast-mono (fin false m e) (fin false n d) p q h = capped _ _ (div_mono (m * up e) (down e) (n * up d) (down d) (down_pos e) (down_pos d) (or-le _ _ h))

top : (x : Float) → to_unsigned 64 x ≤ 2 ^ 64 - 1
top x = let h = to_unsigned-lt 64 x in omega arith

-- ---- so does a quotient by 10
abbrev ten : Float
ten = fin false 5 (pos 1)

tenth-mono : (x y : Float) → T (plain x) → T (plain y) → T (le x y) → to_unsigned 64 (div binary64 x ten) ≤ to_unsigned 64 (div binary64 y ten)
unfolding div
tenth-mono nan y p q h = absurd p
tenth-mono (inf true) y p q h = absurd p
tenth-mono (inf false) nan p q h = absurd q
tenth-mono (inf false) (inf true) p q h = absurd q
tenth-mono (inf false) (inf false) p q h = le_refl _
tenth-mono (inf false) (fin t n d) p q h = absurd (unfold le in h)
tenth-mono (fin true m e) y p q h = absurd p
tenth-mono (fin false m e) nan p q h = absurd q
tenth-mono (fin false m e) (inf true) p q h = absurd q
tenth-mono (fin false m e) (inf false) p q h = unfold to_unsigned in top (div binary64 (fin false m e) ten)
tenth-mono (fin false m e) (fin true n d) p q h = absurd q
tenth-mono (fin false m e) (fin false n d) p q h =
    let g : m * up e * down d ≤ n * up d * down e = or-le _ _ (unfold le in h) in
    cast-mono (round binary64 false (m * up e * 1) (5 * 2 * down e)) (round binary64 false (n * up d * 1) (5 * 2 * down d)) (plain-round binary64 (m * up e * 1) (5 * 2 * down e)) (plain-round binary64 (n * up d * 1) (5 * 2 * down d))
    (round_mono binary64 (m * up e * 1) (5 * 2 * down e) (n * up d * 1) (5 * 2 * down d) (mul-pos (lit≤ tt) (down_pos e)) (mul-pos (lit≤ tt) (down_pos d)) (scaled (m * up e) (n * up d) (down e) (down d) g))
  where
    scaled : (x y a b : ℕ) → x * b ≤ y * a → x * 1 * (10 * b) ≤ y * 1 * (10 * a)
    scaled x y a b g =
        le_trans (le_of_eq (ap (λ (z : ℕ). z * (10 * b)) (mul-one x) ∙ mul_left_comm x 10 b))
        (le_trans (omega arith) (le_of_eq (sym (ap (λ (z : ℕ). z * (10 * a)) (mul-one y) ∙ mul_left_comm y 10 a))))

-- below zero a quotient's cast is 0
minus-cut : (x : Float) → T (plain x) → to_unsigned 64 (neg x) ≡ 0
unfolding neg to_unsigned
minus-cut nan p = absurd p
minus-cut (inf true) p = absurd p
minus-cut (inf false) p = refl
minus-cut (fin true m e) p = absurd p
minus-cut (fin false m e) p = refl

minus-tenth : (x : Float) → T (plain x) → to_unsigned 64 (div binary64 (neg x) ten) ≡ 0
unfolding neg div to_unsigned
minus-tenth nan p = absurd p
minus-tenth (inf true) p = absurd p
minus-tenth (inf false) p = refl
minus-tenth (fin true m e) p = absurd p
minus-tenth (fin false m e) p =
    ap (to_unsigned 64) (neg-round binary64 (m * up e * 1) (5 * 2 * down e)) ∙ minus-cut (round binary64 false (m * up e * 1) (5 * 2 * down e)) (plain-round binary64 (m * up e * 1) (5 * 2 * down e))

minus-cast : (a b : ℕ) → to_unsigned 64 (div binary64 (round binary64 true a b) ten) ≡ 0
minus-cast a b = ap (λ (x : Float). to_unsigned 64 (div binary64 x ten)) (neg-round binary64 a b) ∙ minus-tenth (round binary64 false a b) (plain-round binary64 a b)

-- ---- ±a + b ≥ 0
abbrev Up : Bool → ℕ → ℕ → Type 0
Up false a b = Unit
Up true a b = a ≤ b

abbrev total : Bool → ℕ → ℕ → ℕ
total false a b = a + b
total true a b = b - a

sum-up : (s : Bool) (a b c : ℕ) → Up s a b → sum binary64 s a false b c ≡ round binary64 false (total s a b) c
unfolding sum
sum-up false a b c h = refl
sum-up true a b c h = go (ltb a b) (ltb b a) (nltb→le a b) (ltb→lt b a)
  where
    go : (x y : Bool) → (T (not x) → b ≤ a) → (T y → b < a) → cond x (round binary64 false (b - a) c) (round binary64 y (a - b) c) ≡ round binary64 false (b - a) c
    go true y f g = refl
    go false true f g = let k : b < a = g tt in absurd (omega arith)
    go false false f g = let k : b ≤ a = f tt in ap (λ (n : ℕ). round binary64 false n c) (omega arith)

sum-down : (a b c : ℕ) → b < a → sum binary64 true a false b c ≡ round binary64 true (a - b) c
unfolding sum
sum-down a b c h = rw (le-ltb a b (le_of_lt h), lt-ltb b a h)

-- ---- the order of two such sums, over whole numbers: v = ±X/D, w = ±Y/E, and p/q is added
abbrev Order : (X D Y E : ℕ) → Bool → Bool → Type 0
Order X D Y E false false = X * E ≤ Y * D
Order X D Y E true true = Y * D ≤ X * E
Order X D Y E true false = Unit
Order X D Y E false true = (X ≡ 0) × (Y ≡ 0)

module _ (X D Y E p q : ℕ) (D0 : 0 < D) (E0 : 0 < E) where
  dx : X * q * (E * q) ≡ X * E * (q * q)
  dx = simp (mul_assoc, mul_left_comm)

  dy : Y * q * (D * q) ≡ Y * D * (q * q)
  dy = simp (mul_assoc, mul_comm, mul_left_comm)

  px : p * D * (E * q) ≡ p * (D * E) * q
  px = simp (mul_assoc, mul_comm, mul_left_comm)

  py : p * E * (D * q) ≡ p * (D * E) * q
  py = simp (mul_assoc, mul_comm, mul_left_comm)

  sub-times : (a b c : ℕ) → (a - b) * c ≡ a * c - b * c
  sub-times a b c = mul_comm (a - b) c ∙ mul-sub c a b ∙ ap (λ (z : ℕ). z - c * b) (mul_comm c a) ∙ ap (λ (z : ℕ). a * c - z) (mul_comm c b)

  plus-x : (X * q + p * D) * (E * q) ≡ X * E * (q * q) + p * (D * E) * q
  plus-x = rw (add-mul, dx, px)

  plus-y : (Y * q + p * E) * (D * q) ≡ Y * D * (q * q) + p * (D * E) * q
  plus-y = rw (add-mul, dy, py)

  less-x : (p * D - X * q) * (E * q) ≡ p * (D * E) * q - X * E * (q * q)
  less-x = rw (sub-times, px, dx)

  less-y : (p * E - Y * q) * (D * q) ≡ p * (D * E) * q - Y * D * (q * q)
  less-y = rw (sub-times, py, dy)

  -- what is taken from p / q stays within it
  still : Y * D ≤ X * E → X * q ≤ p * D → Y * q ≤ p * E
  still h u =
      le_of_mul-le-mul_right
      (le_trans (le_of_eq (mul_right_comm Y q D))
      (le_trans (mul-le-mul_right q h)
      (le_trans (le_of_eq (mul_right_comm X E q))
      (le_trans (mul-le-mul_right E u) (le_of_eq (mul_right_comm p D E))))))
      D0

  sums : (s t : Bool) → Order X D Y E s t → Up s (X * q) (p * D) → Up t (Y * q) (p * E) × (total s (X * q) (p * D) * (E * q) ≤ total t (Y * q) (p * E) * (D * q))
  sums false false h u = let g : X * E * (q * q) ≤ Y * D * (q * q) = mul-le-mul_right (q * q) h in (tt, omega (arith, plus-x, plus-y))
  sums true true h u = let g : Y * D * (q * q) ≤ X * E * (q * q) = mul-le-mul_right (q * q) h in (still h u, omega (arith, less-x, less-y))
  sums true false h u = (tt, omega (arith, less-x, plus-y))
  sums false true h u =
      let a : X * q ≡ 0 = ap (λ (z : ℕ). z * q) h.0 ∙ zero-mul q in
      let b : Y * q ≡ 0 = ap (λ (z : ℕ). z * q) h.1 ∙ zero-mul q in
      let c : X * E * (q * q) ≡ 0 = ap (λ (z : ℕ). z * E * (q * q)) h.0 ∙ ap (λ (z : ℕ). z * (q * q)) (zero-mul E) ∙ zero-mul (q * q) in
      let d : Y * D * (q * q) ≡ 0 = ap (λ (z : ℕ). z * D * (q * q)) h.1 ∙ ap (λ (z : ℕ). z * (q * q)) (zero-mul D) ∙ zero-mul (q * q) in
      (omega arith, omega (arith, plus-x, less-y))

-- ---- two finite values in order
no-product : (x d : ℕ) → 0 < d → x * d ≡ 0 → x ≡ 0
no-product x d D h = elim (eq-zero-or-pos x) [ inl z ↦ z | inr p ↦ let g : 0 < x * d = mul-pos p D in absurd (omega arith) ]

ordered : (s : Bool) (m : ℕ) (e : ℤ) (t : Bool) (k : ℕ) (g : ℤ) → T (le (fin s m e) (fin t k g)) → Order (m * up e) (down e) (k * up g) (down g) s t
unfolding le
ordered false m e false k g h = or-le _ _ h
ordered true m e true k g h = or-ge _ _ h
ordered true m e false k g h = tt
ordered false m e true k g h =
    let a : m * up e * down g ≡ k * up g * down e = eqb→eq _ _ (and_l (eqb (m * up e * down g) (k * up g * down e)) (eqb (m * up e * down g) 0) h) in
    let b : m * up e * down g ≡ 0 = eqb→eq _ _ (and_r (eqb (m * up e * down g) (k * up g * down e)) (eqb (m * up e * down g) 0) h) in
    (no-product (m * up e) (down g) (down_pos g) b, no-product (k * up g) (down e) (down_pos e) (sym a ∙ b))

-- ---- v + n · 2 ^ d, then the tenth, as an integer
abbrev tenth : Float → Float → ℕ
tenth v c = to_unsigned 64 (div binary64 (add binary64 v c) ten)

up-tenth : (s : Bool) (m : ℕ) (e : ℤ) (t : Bool) (k : ℕ) (g : ℤ) (n : ℕ) (d : ℤ) → T (le (fin s m e) (fin t k g)) → Up s (m * up e * down d) (n * up d * down e)
    → tenth (fin s m e) (fin false n d) ≤ tenth (fin t k g) (fin false n d)
unfolding add
up-tenth s m e t k g n d h u =
    let r = sums (m * up e) (down e) (k * up g) (down g) (n * up d) (down d) (down_pos e) (down_pos g) s t (ordered s m e t k g h) u in
    let a = total s (m * up e * down d) (n * up d * down e) in
    let b = total t (k * up g * down d) (n * up d * down g) in
    rw (sum-up s (m * up e * down d) (n * up d * down e) (down e * down d) u, sum-up t (k * up g * down d) (n * up d * down g) (down g * down d) r.0)
    (tenth-mono (round binary64 false a (down e * down d)) (round binary64 false b (down g * down d)) (plain-round binary64 a (down e * down d)) (plain-round binary64 b (down g * down d))
    (round_mono binary64 a (down e * down d) b (down g * down d) (mul-pos (down_pos e) (down_pos d)) (mul-pos (down_pos g) (down_pos d)) r.1))

down-tenth : (m : ℕ) (e : ℤ) (n : ℕ) (d : ℤ) → n * up d * down e < m * up e * down d → tenth (fin true m e) (fin false n d) ≡ 0
unfolding add
down-tenth m e n d h = ap (λ (x : Float). to_unsigned 64 (div binary64 x ten)) (sum-down (m * up e * down d) (n * up d * down e) (down e * down d) h) ∙ minus-cast (m * up e * down d - n * up d * down e) (down e * down d)

fin-tenth : (s : Bool) (m : ℕ) (e : ℤ) (t : Bool) (k : ℕ) (g : ℤ) (n : ℕ) (d : ℤ) → T (le (fin s m e) (fin t k g)) → tenth (fin s m e) (fin false n d) ≤ tenth (fin t k g) (fin false n d)
fin-tenth false m e t k g n d h = up-tenth false m e t k g n d h tt
fin-tenth true m e t k g n d h = go (ltb (n * up d * down e) (m * up e * down d)) (ltb→lt (n * up d * down e) (m * up e * down d)) (nltb→le (n * up d * down e) (m * up e * down d))
  where
    go : (b : Bool) → (T b → n * up d * down e < m * up e * down d) → (T (not b) → m * up e * down d ≤ n * up d * down e) → tenth (fin true m e) (fin false n d) ≤ tenth (fin t k g) (fin false n d)
    go true f u = le_trans (le_of_eq (down-tenth m e n d (f tt))) zero-le
    go false f u = up-tenth true m e t k g n d h (u tt)

any-tenth : (v w : Float) (n : ℕ) (d : ℤ) → T (le v w) → tenth v (fin false n d) ≤ tenth w (fin false n d)
unfolding le add div to_unsigned
any-tenth nan w n d h = absurd h
any-tenth (inf true) w n d h = zero-le
any-tenth (inf false) nan n d h = absurd h
any-tenth (inf false) (inf true) n d h = absurd h
any-tenth (inf false) (inf false) n d h = le_refl (2 ^ 64 - 1)
any-tenth (inf false) (fin t k g) n d h = absurd h
any-tenth (fin s m e) nan n d h = absurd h
any-tenth (fin s m e) (inf true) n d h = absurd h
any-tenth (fin s m e) (inf false) n d h = top (div binary64 (add binary64 (fin s m e) (fin false n d)) ten)
any-tenth (fin s m e) (fin t k g) n d h = fin-tenth s m e t k g n d h

pub along-mono : (v w : Float) → T (le v w) → to_unsigned 64 (along v) ≤ to_unsigned 64 (along w)
unfolding along playfield natural div of_int scale grid_cell
along-mono v w h = any-tenth v w 5864062014805333 (negsuc 43) h

pub cell-mono : (v w : Float) → T (le v w) → cell_of v ≤ cell_of w
cell-mono v w h = omega (arith, cell_cut v, cell_cut w, along-mono v w h)
