-- A float between two bounds that are floats themselves. What an operation gives on the bounds bounds what it gives on the floats between them. Each law takes one test on
-- the bounds alone, which is computed. Assumes nothing.
use Rattle.std.proofs.Common.{◌≡◌, ℕ, ◌*◌, ◌<◌, ◌≤◌, Bool, true, false, cond, not, ◌&&◌, T, eqb, ◌⊎◌, sym, refl, ap, ◌∙◌, subst, inl, inr, le_trans, le_of_eq, mul_comm, mul-le-mul, mul-pos, arith, eqb→eq, ltb→lt}
use native.Mathlib.Nat.{mul-mul-mul_comm}
use lib.Ieee.{Float, nan, inf, fin, binary64, up, down, unlike, neg, lt, le, round, sub, mul, div}
use lib.Ieee.Fits.{up_pos, down_pos, and_i, and_l, and_r}
use lib.Ieee.Positive.{positive, positive-finite, first_pos, num, den}
use lib.Ieee.Scale.{finite}
use Rattle.course.specs.Rules.Arithmetic.{◌⊕◌, ◌⊖◌, ◌⊗◌, ◌⊘◌}
use Rattle.course.specs.Rules.Numeric.{within}
use Rattle.course.proofs.Bounds.{neg-round}
use Rattle.course.proofs.FloatOrder.{not-lt, under-of-le, le_of_lt, le_of_not_lt, le-chain, finite-between}
use Rattle.course.proofs.RoundOrder.{neg-le, round-le, add-le}

-- lo ≤ x ≤ hi
pub record In (lo hi x : Float) : Type 0 where
  pub low : T (le lo x)
  pub high : T (le x hi)

-- |x| ≤ m
abbrev pub Near : Float → Float → Type 0
Near m x = In (neg m) m x

pub near-of-within : (m x : Float) → T (within m x) → Near m x
unfolding within
near-of-within m x t = record { low = and_l (le (neg m) x) (le x m) t; high = and_r (le (neg m) x) (le x m) t }

pub within-of-near : (m x : Float) → Near m x → T (within m x)
unfolding within
within-of-near m x i = and_i (le (neg m) x) (le x m) i.low i.high

in-finite : (lo hi x : Float) → T (finite lo) → T (finite hi) → In lo hi x → T (finite x)
in-finite lo hi x p q i = finite-between lo x hi p q i.low i.high

-- both outcomes of a test
pub either : (P : Float → Type 0) (b : Bool) (u v : Float) → P u → P v → P (cond b u v)
either P true u v p q = p
either P false u v p q = q

pub wider : {lo hi lo' hi' x : Float} → In lo hi x → T (le lo' lo && le hi hi') → In lo' hi' x
wider {lo} {hi} {lo'} {hi'} {x} i t = record {
  low = le-chain lo' lo x (and_l (le lo' lo) (le hi hi') t) i.low;
  high = le-chain x hi hi' i.high (and_r (le lo' lo) (le hi hi') t);
}

-- ---- sums and differences
abbrev pub finites : Float → Float → Float → Float → Bool
finites a b c d = (finite a && finite b) && (finite c && finite d)

pub add-in : {a b c d lo hi x y : Float} → In a b x → In c d y → T (finites a b c d && (le lo (a ⊕ c) && le (b ⊕ d) hi)) → In lo hi (x ⊕ y)
add-in {a} {b} {c} {d} {lo} {hi} {x} {y} i j t =
    let f = and_l (finites a b c d) (le lo (a ⊕ c) && le (b ⊕ d) hi) t in
    let f0 = and_l (finite a && finite b) (finite c && finite d) f in
    let f1 = and_r (finite a && finite b) (finite c && finite d) f in
    let fa = and_l (finite a) (finite b) f0 in
    let fb = and_r (finite a) (finite b) f0 in
    let fc = and_l (finite c) (finite d) f1 in
    let fd = and_r (finite c) (finite d) f1 in
    let fx = in-finite a b x fa fb i in
    let fy = in-finite c d y fc fd j in
    wider (record { low = add-le a c x y fa fc fx fy i.low j.low; high = add-le x y b d fx fy fb fd i.high j.high })
    (and_r (finites a b c d) (le lo (a ⊕ c) && le (b ⊕ d) hi) t)

pub neg-in : {a b x : Float} → In a b x → In (neg b) (neg a) (neg x)
neg-in {a} {b} {x} i = record { low = neg-le x b i.high; high = neg-le a x i.low }

pub sub_in : {a b c d lo hi x y : Float} → In a b x → In c d y → T (finites a b (neg d) (neg c) && (le lo (a ⊖ d) && le (b ⊖ c) hi)) → In lo hi (x ⊖ y)
unfolding sub
sub_in i j t = add-in i (neg-in j) t

-- ---- products and quotients, by size
-- finite, with no minus sign
abbrev solid : Float → Bool
solid nan = false
solid (inf s) = false
solid (fin s m e) = not s

near-size : (m x : Float) → T (solid m) → Near m x → T (finite x) × (num x * den m ≤ num m * den x)
near-size nan x p i = absurd p
near-size (inf s) x p i = absurd p
near-size (fin true k g) x p i = absurd p
near-size (fin false k g) nan p i = absurd (unfold le in i.high)
near-size (fin false k g) (inf true) p i = absurd (unfold le neg in i.low)
near-size (fin false k g) (inf false) p i = absurd (unfold le in i.high)
near-size (fin false k g) (fin false n d) p i = (tt, let h = under-of-le (fin false n d) (fin false k g) tt tt i.high in omega arith)
near-size (fin false k g) (fin true n d) p i = (tt, let h = under-of-le (fin true k g) (fin true n d) tt tt (unfold neg in i.low) in omega arith)

round-near : (s : Bool) (a d b e : ℕ) → 0 < d → 0 < e → a * e ≤ b * d → Near (round binary64 false b e) (round binary64 s a d)
round-near false a d b e D E h = record { low = rw (← neg-round binary64 b e) (round-le true b e false a d E D (omega arith)); high = round-le false a d false b e D E (omega arith) }
round-near true a d b e D E h = record { low = rw (← neg-round binary64 b e) (round-le true b e true a d E D (omega arith)); high = round-le true a d false b e D E (omega arith) }

swap4 : (x d m e y g k h : ℕ) → x * e ≤ m * d → y * h ≤ k * g → x * y * (e * h) ≤ m * k * (d * g)
swap4 x d m e y g k h p q = le_trans (le_of_eq (mul-mul-mul_comm x y e h)) (le_trans (mul-le-mul p q) (le_of_eq (mul-mul-mul_comm m d k g)))

mul-size : (m k x y : Float) → T (solid m) → T (solid k) → T (finite x) → T (finite y) → num x * den m ≤ num m * den x → num y * den k ≤ num k * den y → Near (m ⊗ k) (x ⊗ y)
unfolding mul
mul-size nan k x y p q f g h i = absurd p
mul-size (inf s) k x y p q f g h i = absurd p
mul-size (fin true a b) k x y p q f g h i = absurd p
mul-size (fin false a b) nan x y p q f g h i = absurd q
mul-size (fin false a b) (inf s) x y p q f g h i = absurd q
mul-size (fin false a b) (fin true c d) x y p q f g h i = absurd q
mul-size (fin false a b) (fin false c d) nan y p q f g h i = absurd f
mul-size (fin false a b) (fin false c d) (inf s) y p q f g h i = absurd f
mul-size (fin false a b) (fin false c d) (fin s n e) nan p q f g h i = absurd g
mul-size (fin false a b) (fin false c d) (fin s n e) (inf t) p q f g h i = absurd g
mul-size (fin false a b) (fin false c d) (fin s n e) (fin t r l) p q f g h i =
    round-near (unlike s t) (n * up e * (r * up l)) (down e * down l) (a * up b * (c * up d)) (down b * down d) (mul-pos (down_pos e) (down_pos l)) (mul-pos (down_pos b) (down_pos d))
    (swap4 (n * up e) (down e) (a * up b) (down b) (r * up l) (down l) (c * up d) (down d) h i)

pub mul-near : {m k hi x y : Float} → Near m x → Near k y → T ((solid m && solid k) && (le (neg hi) (neg (m ⊗ k)) && le (m ⊗ k) hi)) → Near hi (x ⊗ y)
mul-near {m} {k} {hi} {x} {y} i j t =
    let s = and_l (solid m && solid k) (le (neg hi) (neg (m ⊗ k)) && le (m ⊗ k) hi) t in
    let p = and_l (solid m) (solid k) s in
    let q = and_r (solid m) (solid k) s in
    let a = near-size m x p i in
    let b = near-size k y q j in
    wider (mul-size m k x y p q a.0 b.0 a.1 b.1) (and_r (solid m && solid k) (le (neg hi) (neg (m ⊗ k)) && le (m ⊗ k) hi) t)

-- x / y, for a y from k on, k above zero
pub nonzero : (n : ℕ) (u v : Float) → 0 < n → cond (eqb n 0) u v ≡ v
nonzero n u v h = go (eqb n 0) (eqb→eq n 0)
  where
    go : (b : Bool) → (T b → n ≡ 0) → cond b u v ≡ v
    go false f = refl
    go true f = let z : n ≡ 0 = f tt in absurd (omega arith)

across : (x d m e y g k h : ℕ) → x * e ≤ m * d → k * g ≤ y * h → x * g * (k * e) ≤ m * h * (y * d)
across x d m e y g k h p q =
    le_trans (le_of_eq (mul-mul-mul_comm x g k e ∙ ap (λ (z : ℕ). x * k * z) (mul_comm g e) ∙ mul-mul-mul_comm x k e g))
    (le_trans (mul-le-mul p q) (le_of_eq (mul-mul-mul_comm m d y h ∙ ap (λ (z : ℕ). m * y * z) (mul_comm d h) ∙ mul-mul-mul_comm m y h d)))

div-size : (m k x y : Float) → T (solid m) → T (positive k) → T (finite x) → T (finite y) → num x * den m ≤ num m * den x → T (le k y) → Near (m ⊘ k) (x ⊘ y)
unfolding div
div-size nan k x y p q f g h i = absurd p
div-size (inf s) k x y p q f g h i = absurd p
div-size (fin true a b) k x y p q f g h i = absurd p
div-size (fin false a b) nan x y p q f g h i = absurd q
div-size (fin false a b) (inf s) x y p q f g h i = absurd q
div-size (fin false a b) (fin true c d) x y p q f g h i = absurd q
div-size (fin false a b) (fin false c d) nan y p q f g h i = absurd f
div-size (fin false a b) (fin false c d) (inf s) y p q f g h i = absurd f
div-size (fin false a b) (fin false c d) (fin s n e) nan p q f g h i = absurd g
div-size (fin false a b) (fin false c d) (fin s n e) (inf t) p q f g h i = absurd g
div-size (fin false a b) (fin false c d) (fin s n e) (fin true r l) p q f g h i =
    let k = under-of-le (fin false c d) (fin true r l) tt tt i in
    let z : 0 < c * up d * down l = mul-pos (mul-pos (ltb→lt 0 c q) (up_pos d)) (down_pos l) in
    absurd (omega arith)
div-size (fin false a b) (fin false c d) (fin s n e) (fin false r l) p q f g h i =
    let k = under-of-le (fin false c d) (fin false r l) tt tt i in
    let C : 0 < c = ltb→lt 0 c q in
    let z : 0 < c * up d * down l = mul-pos (mul-pos C (up_pos d)) (down_pos l) in
    let R' : 0 < r * up l * down d = omega arith in
    let R : 0 < r = first_pos r (up l) (first_pos (r * up l) (down d) R') in
    rw (
      nonzero c (cond (eqb a 0) nan (inf false)) (round binary64 false (a * up b * down d) (c * up d * down b)) C,
      nonzero r (cond (eqb n 0) nan (inf (unlike s false))) (round binary64 (unlike s false) (n * up e * down l) (r * up l * down e)) R,
    )
    (round-near (unlike s false) (n * up e * down l) (r * up l * down e) (a * up b * down d) (c * up d * down b) (mul-pos (mul-pos R (up_pos l)) (down_pos e)) (mul-pos (mul-pos C (up_pos d)) (down_pos b))
    (across (n * up e) (down e) (a * up b) (down b) (r * up l) (down l) (c * up d) (down d) h (omega arith)))

pub div-near : {m k l hi x y : Float} → Near m x → In k l y → T ((solid m && (positive k && finite l)) && (le (neg hi) (neg (m ⊘ k)) && le (m ⊘ k) hi)) → Near hi (x ⊘ y)
div-near {m} {k} {l} {hi} {x} {y} i j t =
    let s = and_l (solid m && (positive k && finite l)) (le (neg hi) (neg (m ⊘ k)) && le (m ⊘ k) hi) t in
    let p = and_l (solid m) (positive k && finite l) s in
    let qr = and_r (solid m) (positive k && finite l) s in
    let q = and_l (positive k) (finite l) qr in
    let a = near-size m x p i in
    wider (div-size m k x y p q a.0 (in-finite k l y (positive-finite k q) (and_r (positive k) (finite l) qr) j) a.1 j.low)
    (and_r (solid m && (positive k && finite l)) (le (neg hi) (neg (m ⊘ k)) && le (m ⊘ k) hi) t)

-- ---- a test against c, for an x from lo to hi
abbrev pub finites3 : Float → Float → Float → Bool
finites3 a b c = finite a && finite b && finite c

module _ (c : Float) {lo hi x : Float} (i : In lo hi x) where
  both-finite : T (finites3 lo hi c) → T (finite x) × T (finite c)
  both-finite f =
      let e = and_l (finite lo && finite hi) (finite c) f in
      (in-finite lo hi x (and_l (finite lo) (finite hi) e) (and_r (finite lo) (finite hi) e) i, and_r (finite lo && finite hi) (finite c) f)

  -- its outcome narrows the interval
  pub above_in : lt c x ≡ true → In c hi x
  above_in e = record { low = le_of_lt c x (subst T (sym e) tt); high = i.high }

  pub below_in : lt x c ≡ true → In lo c x
  below_in e = record { low = i.low; high = le_of_lt x c (subst T (sym e) tt) }

  pub not-above-in : lt c x ≡ false → T (finites3 lo hi c) → In lo c x
  not-above-in e t = let f = both-finite t in record { low = i.low; high = le_of_not_lt x c f.0 f.1 e }

  pub not-below-in : lt x c ≡ false → T (finites3 lo hi c) → In c hi x
  not-below-in e t = let f = both-finite t in record { low = le_of_not_lt c x f.1 f.0 e; high = i.high }

  pub split-in : T (finites3 lo hi c) → In lo c x ⊎ In c hi x
  split-in t = go (lt c x) refl
    where
      go : (b : Bool) → lt c x ≡ b → In lo c x ⊎ In c hi x
      go true e = inr (above_in e)
      go false e = inl (not-above-in e t)

  -- an interval on one side of c decides it
  pub not-above : T (finites3 lo hi c && le hi c) → lt c x ≡ false
  not-above t = let f = both-finite (and_l (finites3 lo hi c) (le hi c) t) in not-lt x c f.0 f.1 (le-chain x hi c i.high (and_r (finites3 lo hi c) (le hi c) t))

  pub not-below : T (finites3 lo hi c && le c lo) → lt x c ≡ false
  not-below t = let f = both-finite (and_l (finites3 lo hi c) (le c lo) t) in not-lt c x f.1 f.0 (le-chain c lo x (and_r (finites3 lo hi c) (le c lo) t) i.low)

  -- and beyond c it is decided the other way
  pub not_beyond : lt c x ≡ false → T (finites3 lo hi c && lt c lo) → ⊥
  not_beyond e t =
      let f = and_l (finites3 lo hi c) (lt c lo) t in
      let l = and_l (finite lo) (finite hi) (and_l (finite lo && finite hi) (finite c) f) in
      let k : lt c lo ≡ false = not-lt lo c l (both-finite f).1 (le-chain lo x c i.low (not-above-in e f).high) in
      subst T k (and_r (finites3 lo hi c) (lt c lo) t)

  pub not_short : lt x c ≡ false → T (finites3 lo hi c && lt hi c) → ⊥
  not_short e t =
      let f = and_l (finites3 lo hi c) (lt hi c) t in
      let h = and_r (finite lo) (finite hi) (and_l (finite lo && finite hi) (finite c) f) in
      let k : lt hi c ≡ false = not-lt c hi (both-finite f).1 h (le-chain c x hi (not-below-in e f).low i.high) in
      subst T k (and_r (finites3 lo hi c) (lt hi c) t)
