-- The curbs of points, one point after the other. Assumes nothing.
use Rattle.std.proofs.Common.{◌≡◌, ℕ, zero, suc, ◌+◌, ◌-◌, ◌*◌, ◌<◌, ◌≤◌, Bool, true, false, cond, leb, List, [], ◌∷◌, ◌++◌, length, take, drop, set, replicate, sym, refl, ap, ◌∙◌, subst, ap₂, append-nil, add-one, arith, take_at, le-ltb, lt-ltb, leb-true}
use lib.Ieee.{Float}
use Rattle.course.specs.Rules.Lengths.{most_points, column_length, quad_numbers}
use Rattle.course.specs.Rules.Arithmetic.{nought}
use Rattle.course.specs.Rules.Tiles.{point_at, before_of, eight}
use Rattle.course.specs.Steps.Tiles.{puts}
use Rattle.std.specs.Prelude.{Result, Ok, Err}
use Rattle.course.specs.Grader.Cause.{number_of, cause_number}
use Rattle.course.specs.Grader.Points.{given_cause}
use Rattle.course.specs.declared.cause.Cause.{Cause}
use Rattle.course.specs.Grader.Curbs.{curb_room, after_of, bordered, curb_quad, white_of, quads_to, whites_to, filled_marks, Edged, edged, curb_cause_of, curb_count_of, curb_cause, curbs_at, curbs_call}
use Rattle.course.specs.Steps.Tiles.{Curbed, CurbsTo}
use Rattle.course.proofs.LengthLaws.{column_fits, column-small}
use Rattle.course.proofs.ColumnLaws.{Grown, grown-more, puts-grown, drop_past}
use Rattle.course.proofs.LaidColumns.{Passed, fill-tiles}
use Rattle.course.specs.Rules.Counting.{digit}
use Rattle.course.proofs.BoolLaws.{and_left, and_right, digit-le}

quads-step : (has : Bool) (vs p c c' l : List Float) (m m' : ℕ) → Grown p c l (m * 8) → length vs ≡ 8 → m * 8 + 8 ≤ length l → m' ≡ m + digit has → c' ≡ cond has (puts vs (m * 8) c) c
    → Grown (p ++ cond has vs []) c' l (m' * 8)
quads-step true vs p c c' l m m' g e h n is =
    let s : m * 8 + length vs ≡ m' * 8 = omega (arith, e, n) in
    subst (λ (z : ℕ). Grown (p ++ vs) c' l z) s (subst (λ (z : List Float). Grown (p ++ vs) z l (m * 8 + length vs)) (sym is) (puts-grown vs p c l (m * 8) g (omega (arith, e, h))))
quads-step false vs p c c' l m m' g e h n is =
    let s : m * 8 ≡ m' * 8 = omega (arith, n) in
    subst (λ (z : ℕ). Grown (p ++ []) c' l z) s
    (subst (λ (z : List Float). Grown (p ++ []) z l (m * 8)) (sym is) (subst (λ (z : List Float). Grown z c l (m * 8)) (sym (append-nil p)) g))

white-step : (has : Bool) (v : ℕ) (p c c' l : List ℕ) (m m' : ℕ) → Grown p c l m → m < length l → m' ≡ m + digit has → c' ≡ cond has (set c m v) c
    → Grown (p ++ cond has (v ∷ []) []) c' l m'
white-step true v p c c' l m m' g h n is =
    subst (λ (z : ℕ). Grown (p ++ (v ∷ [])) c' l z) (sym n)
    (subst (λ (z : List ℕ). Grown (p ++ (v ∷ [])) z l (m + 1)) (sym is) (grown-more p (p ++ (v ∷ [])) c l m v g h refl))
white-step false v p c c' l m m' g h n is =
    let s : m ≡ m' = omega (arith, n) in
    subst (λ (z : ℕ). Grown (p ++ []) c' l z) s
    (subst (λ (z : List ℕ). Grown (p ++ []) z l m) (sym is) (subst (λ (z : List ℕ). Grown z c l m) (sym (append-nil p)) g))

module _ (b e n : List Float) (k : ℕ) (q : List Float) (w : List ℕ) where
  pub curbs-none : CurbsTo b e n k 0 0 q w q w
  unfolding quads_to whites_to
  curbs-none = record { few = omega arith; count = refl; long = refl; quads = refl; white = refl; same-quads = refl; same-white = refl }

  next : (i m : ℕ) (q1 : List Float) (w1 : List ℕ) (m' : ℕ) (q2 : List Float) (w2 : List ℕ) → i * 8 + 8 ≤ length q → i < length w → CurbsTo b e n k i m q w q1 w1
      → Curbed (bordered b k i) (curb_quad (point_at b e n i) (point_at b e n (before_of k i))) (white_of i) m q1 w1 m' q2 w2 → CurbsTo b e n k (suc i) m' q w q2 w2
  unfolding quads_to whites_to eight
  next i m q1 w1 m' q2 w2 hq hw t s =
      let gq : Grown (quads_to b e n k i) q1 q (m * 8) = record { is = t.quads; long = t.long; bound = omega (arith, t.few); same = t.same-quads } in
      let gw : Grown (whites_to b e n k i) w1 w m = record { is = t.white; long = t.count; bound = omega (arith, t.few); same = t.same-white } in
      let rq = quads-step (bordered b k i) (eight (curb_quad (point_at b e n i) (point_at b e n (before_of k i)))) _ q1 q2 q m m' gq refl (omega (arith, t.few)) s.count s.quads in
      let rw' = white-step (bordered b k i) (white_of i) _ w1 w2 w m m' gw (omega (arith, t.few)) s.count s.white in
      record {
        few = omega (arith, t.few, s.count, digit-le (bordered b k i));
        count = rw'.long;
        long = rq.long;
        quads = rq.is;
        white = rw'.is;
        same-quads = rq.same;
        same-white = rw'.same;
      }

  pub curbs-more : (i m : ℕ) (q1 : List Float) (w1 : List ℕ) (m' : ℕ) (q2 : List Float) (w2 : List ℕ) → i * 8 + 8 ≤ length q → i < length w → CurbsTo b e n k i m q w q1 w1
      → Curbed (bordered b k i) (curb_quad (point_at b e n i) (point_at b e n (before_of k i))) (white_of i) m q1 w1 m' q2 w2 → CurbsTo b e n k (i + 1) m' q w q2 w2
  curbs-more i m q1 w1 m' q2 w2 hq hw t s = subst (λ (z : ℕ). CurbsTo b e n k z m' q w q2 w2) (sym (add-one i)) (next i m q1 w1 m' q2 w2 hq hw t s)

-- ---- the call
-- what is known where no cause holds, with columns for z curbs
pub record Fits (z : ℕ) (b e n : List Float) (k : ℕ) (q : List Float) (w : List ℕ) : Type 0 where
  pub few : k ≤ z
  pub small : z ≤ most_points
  pub quads : quad_numbers z ≤ length q
  pub white : z ≤ length w

pub fits : {z : ℕ} {b e n : List Float} {k : ℕ} {q : List Float} {w : List ℕ} → z ≡ column_length k → Passed b e n k (curb_room z q w) → Fits z b e n k q w
unfolding curb_room
fits {z} {k = k} {q} {w} c p = record {
  few = column_fits k z c p.few;
  small = column-small k z c;
  quads = leb-true (quad_numbers z) (length q) (and_left _ _ p.room);
  white = leb-true z (length w) (and_right (leb (quad_numbers z) (length q)) _ p.room);
}

-- the call with columns for z curbs
abbrev curbs_in : ℕ → List Float → List Float → List Float → ℕ → List Float → List ℕ → Edged
curbs_in z b e n k q w = curbs_at z (given_cause (curb_room z q w) b e n k) b e n k q w

curbs-in : (z : ℕ) (b e n : List Float) (k : ℕ) (q : List Float) (w : List ℕ) → z ≡ column_length k → curbs_in z b e n k q w ≡ curbs_call b e n k q w
unfolding curbs_call curb_cause
curbs-in z b e n k q w h = ap (λ (j : ℕ). curbs_in j b e n k q w) h

pub turned-down : {z : ℕ} (b e n : List Float) (k : ℕ) {q : List Float} {w : List ℕ} {r : Result ℕ Cause} {x : Cause} → z ≡ column_length k → r ≡ Err x → Err x ≡ given_cause (curb_room z q w) b e n k
    → edged r q w ≡ curbs_call b e n k q w
unfolding curbs_at
turned-down {z} b e n k {q} {w} c is h =
    ap (λ (a : Result ℕ Cause). edged a q w) is ∙ ap (λ (a : Result Unit Cause). curbs_at z a b e n k q w) h ∙ curbs-in z b e n k q w c

fill-marks : (own t t1 t2 : List ℕ) (k m : ℕ) → length own ≡ k → k ≤ m → t1 ≡ own ++ drop k t → t2 ≡ take k t1 ++ (replicate (m - k) 0 ++ drop m t1) → t2 ≡ filled_marks m own t
unfolding filled_marks
fill-marks own t t1 t2 k m e h p r =
    r ∙ ap (λ (z : List ℕ). take k z ++ (replicate (m - k) 0 ++ drop m z)) p
    ∙ ap₂ (λ (y z : List ℕ). y ++ (replicate (m - k) 0 ++ z)) (take_at own (drop k t) k e) (drop_past own t k m e h)
    ∙ ap (λ (j : ℕ). own ++ (replicate (m - j) 0 ++ drop m t)) (sym e)

pub all-edged : (z : ℕ) (b e n : List Float) (k m : ℕ) (q q1 q2 : List Float) (w w1 w2 : List ℕ) → z ≡ column_length k → Passed b e n k (curb_room z q w) → CurbsTo b e n k k m q w q1 w1
    → q2 ≡ take (m * 8) q1 ++ (replicate (quad_numbers z - m * 8) nought ++ drop (quad_numbers z) q1) → w2 ≡ take m w1 ++ (replicate (z - m) 0 ++ drop z w1)
    → edged (Ok m) q2 w2 ≡ curbs_call b e n k q w
unfolding curbs_at
all-edged z b e n k m q q1 q2 w w1 w2 c h t pq pw =
    let few = (fits c h).few in
    same-edged (ap Ok (sym t.count))
    (fill-tiles (quads_to b e n k k) q q1 q2 (m * 8) (quad_numbers z) t.long (omega (arith, few, t.few)) t.quads pq)
    (fill-marks (whites_to b e n k k) w w1 w2 m z t.count (omega (arith, few, t.few)) t.white pw)
    ∙ ap (λ (a : Result Unit Cause). curbs_at z a b e n k q w) (sym h.cause)
    ∙ curbs-in z b e n k q w c
  where
    same-edged : {r r' : Result ℕ Cause} {q q' : List Float} {w w' : List ℕ} → r ≡ r' → q ≡ q' → w ≡ w' → edged r q w ≡ edged r' q' w'
    same-edged pr pq pw = λ i. edged (pr i) (pq i) (pw i)

-- ---- an answer gives its number back, and a count's answer the count
pub curb-number-back : (c : Cause) → curb_cause_of (Err c) ≡ number_of c
unfolding curb_cause_of cause_number
curb-number-back c = refl

-- 0 where the call was not refused
pub curb-accepted-number : (m : ℕ) → curb_cause_of (Ok m) ≡ 0
unfolding curb_cause_of cause_number
curb-accepted-number m = refl

pub curb-count-back : (m : ℕ) → curb_count_of (Ok m) ≡ m
unfolding curb_count_of
curb-count-back m = refl

-- ---- the spread read forward, as the Rust does it: a marked point gives a curb to itself and to the three before it
pub after-before : (k i : ℕ) → i < k → after_of k (before_of k i) ≡ i
unfolding after_of before_of
after-before zero i h = absurd (omega (arith, h))
after-before (suc k) zero h = simp (le-ltb (suc k - 1 + 1) (suc k) (omega arith))
after-before (suc k) (suc i) h = simp (lt-ltb (i + 1) (suc k) (omega (arith, h))) (add-one i)
