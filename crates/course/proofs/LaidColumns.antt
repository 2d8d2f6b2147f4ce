-- What `finish` leaves is what lay and points write. Assumes nothing.
use Rattle.std.proofs.Common.{◌≡◌, ℕ, zero, suc, ◌-◌, ◌*◌, ◌<◌, ◌≤◌, Bool, true, false, cond, not, eqb, ltb, leb, List, [], ◌++◌, length, take, drop, replicate, sym, refl, ap, ◌∙◌, subst, ap₂, arith, length-take-le, take_at, lt-ltb, leb-true}
use native.Mathlib.Decide.{dec_lt}
use Rattle.std.specs.Prelude.{slice_index_or, Result, Ok, Err}
use Rattle.std.specs.Result.{is_ok, result_map_both}
use lib.Ieee.{Float}
use Rattle.course.specs.Rules.Lengths.{most_points, column_length, quad_numbers, cell_count, offset_count}
use Rattle.course.specs.Rules.Rect.{holds_of, needed}
use Rattle.course.specs.Steps.Index.{Built, index_answer}
use Rattle.course.proofs.BoolLaws.{and_left, and_right}
use Rattle.course.specs.Grader.Index.{index_of}
use Rattle.course.proofs.IndexLaws.{index-length}
use Rattle.course.proofs.CourseRects.{needed-start}
use Rattle.course.proofs.PackedRects.{scratch-cleared}
use Rattle.course.specs.Rules.Arithmetic.{nought}
use Rattle.course.specs.Grader.Course.{from_points, cells_of}
use Rattle.course.specs.Rules.Tiles.{betas, xs, ys, no_point, point_at, points_of, tiles_to, tiles_of}
use Rattle.course.specs.Grader.Outcome.{CourseColumns, lent, Outcome, outcome, filled, written, laid_figures, answered, lay_into, roomy_of}
use Rattle.course.specs.Steps.Tiles.{Roomy}
use Rattle.course.specs.Grader.Cause.{check}
use Rattle.course.specs.Grader.Points.{given_of, all_good, count_cause, columns_cause, given_cause, points_cause, points_at, points_call}
use Rattle.course.specs.declared.cause.Cause.{Cause}
use Rattle.course.specs.declared.cause.Cause.TheVariants.{Length}
use Rattle.course.specs.declared.tiles.TrackPoint.{TrackPoint}
use Rattle.course.specs.declared.points.LaidCourse.{LaidCourse}
use Rattle.course.specs.declared.points.LayError.{LayError}
use Rattle.course.specs.declared.points.LayError.TheVariants.{Refused}
use Rattle.course.proofs.LengthLaws.{column_fits, column-small}
use Rattle.course.proofs.ColumnLaws.{drop_past}
use Rattle.course.proofs.CourseTiles.{points-long, point-read, tiles-long, betas-taken, xs-taken, ys-taken, points-front}

-- equal columns and equal answers
same_outcome : {r r' : Result LaidCourse LayError} {a a' b b' e e' n n' t t' : List Float} {o o' l l' : List ℕ} → r ≡ r' → a ≡ a' → b ≡ b' → e ≡ e' → n ≡ n' → t ≡ t' → o ≡ o' → l ≡ l'
    → outcome r (lent a b e n t o l) ≡ outcome r' (lent a' b' e' n' t' o' l')
same_outcome pr pa pb pe pn pt po pl = λ i. outcome (pr i) (lent (pa i) (pb i) (pe i) (pn i) (pt i) (po i) (pl i))

abbrev figures : ℕ → Bool → ℕ → TrackPoint → LaidCourse
figures k f m p = record { n = k; fallback = f; entries = m; first = p }

-- the course's values, where the builder answers how many entries its index has
abbrev laid_by : ℕ → Bool → TrackPoint → Result ℕ LayError → Result LaidCourse LayError
laid_by k f p r = result_map_both (λ m. figures k f m p) (λ e. e) r

laid-answered : (s f : Bool) (ps : List TrackPoint) → laid_by (length ps) f (slice_index_or ps 0 no_point) (index_answer s (cells_of ps)) ≡ answered s f ps
unfolding index_answer answered laid_figures
laid-answered true f ps = refl
laid-answered false f ps = refl

fill-column : (own c c' : List Float) (k m : ℕ) → own ≡ take k c → k ≤ length c → c' ≡ take k c ++ (replicate (m - k) nought ++ drop m c) → c' ≡ filled m own c
unfolding filled
fill-column own c c' k m e h is = is ∙ ap₂ (λ (z : List Float) (j : ℕ). z ++ (replicate (m - j) nought ++ drop m c)) (sym e) (sym (ap length e ∙ length-take-le k c h))

pub fill-tiles : (own t t1 t2 : List Float) (k m : ℕ) → length own ≡ k → k ≤ m → t1 ≡ own ++ drop k t → t2 ≡ take k t1 ++ (replicate (m - k) nought ++ drop m t1) → t2 ≡ filled m own t
unfolding filled
fill-tiles own t t1 t2 k m e h p q =
    q ∙ ap (λ (z : List Float). take k z ++ (replicate (m - k) nought ++ drop m z)) p
    ∙ ap₂ (λ (y z : List Float). y ++ (replicate (m - k) nought ++ z)) (take_at own (drop k t) k e) (drop_past own t k m e h)
    ∙ ap (λ (j : ℕ). own ++ (replicate (m - j) nought ++ drop m t)) (sym e)

front-tiles : (own t t1 t2 : List Float) (k m : ℕ) → length own ≡ k → k ≤ m → t1 ≡ own ++ drop k t → t2 ≡ take k t1 ++ (replicate (m - k) nought ++ drop m t1) → take k t2 ≡ own
unfolding filled
front-tiles own t t1 t2 k m e h p q = ap (take k) (fill-tiles own t t1 t2 k m e h p q) ∙ take_at own _ k e

-- the points that stand in front of lent columns
abbrev points-in : CourseColumns → ℕ → List TrackPoint
points-in l k = points_of l.beta l.x l.y k

-- after the code: the columns of m points that `finish` was lent, and what its calls made of them; the index is built with `alpha` for scratch,
-- and the tiles stand in their column before its rest is cleared
pub record Finished (m : ℕ) (l : CourseColumns) (k : ℕ) (l' : CourseColumns) (scratch written-tiles : List Float) : Type 0 where
  pub size : (0 < k) × (k ≤ m) × (m ≤ most_points)
  pub room : Roomy m l.alpha l.beta l.x l.y l.tiles l.offsets
  pub kept : drop k scratch ≡ drop k l.alpha
  pub alpha : l'.alpha ≡ take 0 scratch ++ (replicate (m - 0) nought ++ drop m scratch)
  pub beta : l'.beta ≡ take k l.beta ++ (replicate (m - k) nought ++ drop m l.beta)
  pub x : l'.x ≡ take k l.x ++ (replicate (m - k) nought ++ drop m l.x)
  pub y : l'.y ≡ take k l.y ++ (replicate (m - k) nought ++ drop m l.y)
  pub made : written-tiles ≡ tiles_to (points-in l k) k ++ drop (k * 8) l.tiles
  pub tiles : l'.tiles ≡ take (k * 8) written-tiles ++ (replicate (quad_numbers m - k * 8) nought ++ drop (quad_numbers m) written-tiles)
  pub index : Built (take (k * 8) l'.tiles) k l.offsets l.list l'.offsets l'.list

module _ {m : ℕ} {l : CourseColumns} {k : ℕ} {l' : CourseColumns} {scratch written-tiles : List Float} (d : Finished m l k l' scratch written-tiles) where
  few : k ≤ m
  few = d.size.1

  tile-numbers : k * 8 ≤ quad_numbers m
  tile-numbers = omega (arith, few)

  own-tiles : take (k * 8) l'.tiles ≡ tiles_of (points-in l k)
  own-tiles =
      front-tiles _ l.tiles written-tiles l'.tiles (k * 8) (quad_numbers m) (tiles-long (points-in l k) k) tile-numbers d.made d.tiles
      ∙ ap (tiles_to (points-in l k)) (sym (points-long l.beta l.x l.y k))

  built : Built (tiles_of (points-in l k)) (length (points-in l k)) l.offsets l.list l'.offsets l'.list
  built =
      subst (λ (z : List Float). Built z (length (points-in l k)) l.offsets l.list l'.offsets l'.list) own-tiles
      (subst (λ (j : ℕ). Built (take (k * 8) l'.tiles) j l.offsets l.list l'.offsets l'.list) (sym (points-long l.beta l.x l.y k)) d.index)

  -- whether the list is too short
  short : Bool
  short = ltb (length l.list) (cells_of (points-in l k))

  list-long : length (index_of (holds_of (tiles_of (points-in l k))) (length (points-in l k)) cell_count) ≡ needed (tiles_of (points-in l k)) (length (points-in l k))
  list-long = index-length _ _ cell_count ∙ sym (needed-start _ (length (points-in l k)))

  -- the columns without the index
  alpha-is : l'.alpha ≡ filled m [] l.alpha
  unfolding filled
  alpha-is = scratch-cleared l.alpha scratch l'.alpha k m few d.kept d.alpha

  beta-is : l'.beta ≡ filled m (betas (points-in l k)) l.beta
  beta-is =
      let h : k ≤ length l.beta = omega (arith, few, d.room.beta) in
      fill-column _ l.beta l'.beta k m (betas-taken l.beta l.x l.y k h) h d.beta

  x-is : l'.x ≡ filled m (xs (points-in l k)) l.x
  x-is =
      let h : k ≤ length l.x = omega (arith, few, d.room.x) in
      fill-column _ l.x l'.x k m (xs-taken l.beta l.x l.y k h) h d.x

  y-is : l'.y ≡ filled m (ys (points-in l k)) l.y
  y-is =
      let h : k ≤ length l.y = omega (arith, few, d.room.y) in
      fill-column _ l.y l'.y k m (ys-taken l.beta l.x l.y k h) h d.y

  tiles-is : l'.tiles ≡ filled (quad_numbers m) (tiles_of (points-in l k)) l.tiles
  tiles-is =
      fill-tiles _ l.tiles written-tiles l'.tiles (k * 8) (quad_numbers m) (tiles-long (points-in l k) k) tile-numbers d.made d.tiles
      ∙ ap (λ (j : ℕ). filled (quad_numbers m) (tiles_to (points-in l k) j) l.tiles) (sym (points-long l.beta l.x l.y k))

  offsets-is : l'.offsets ≡ cond short l.offsets ((from_points (points-in l k)).offsets ++ drop offset_count l.offsets)
  unfolding from_points cells_of short
  offsets-is = built.offsets

  list-is : l'.list ≡ cond short l.list ((from_points (points-in l k)).list ++ drop (length (from_points (points-in l k)).list) l.list)
  unfolding from_points cells_of short
  list-is =
      built.entries
      ∙ ap (λ (j : ℕ). cond (ltb (length l.list) (needed (tiles_of (points-in l k)) (length (points-in l k)))) l.list (index_of (holds_of (tiles_of (points-in l k))) (length (points-in l k)) cell_count ++ drop j l.list)) (sym list-long)

  -- what the builder answers, of the points' own tiles
  answer-is : {r : Result ℕ LayError} → r ≡ index_answer (ltb (length l.list) (needed (take (k * 8) l'.tiles) k)) (needed (take (k * 8) l'.tiles) k) → r ≡ index_answer short (cells_of (points-in l k))
  unfolding cells_of short needed
  answer-is h = h ∙ ap₂ (λ (z : List Float) (j : ℕ). index_answer (ltb (length l.list) (needed z j)) (needed z j)) own-tiles (sym (points-long l.beta l.x l.y k))

  -- what `finish` ends with: cause 3 where the list is too short, else the course
  pub done : (fallback : Bool) {first : TrackPoint} {r : Result ℕ LayError} {a : Result LaidCourse LayError} → first ≡ point_at l.beta l.x l.y 0
      → r ≡ index_answer (ltb (length l.list) (needed (take (k * 8) l'.tiles) k)) (needed (take (k * 8) l'.tiles) k) → a ≡ laid_by k fallback first r → outcome a l' ≡ lay_into m fallback (points-in l k) l
  unfolding lay_into written from_points short
  done fallback {first} f h is =
      same_outcome
      (is
      ∙ ap (laid_by k fallback first) (answer-is h)
      ∙ (λ i. laid_by (sym (points-long l.beta l.x l.y k) i) fallback ((f ∙ sym (point-read l.beta l.x l.y k 0 d.size.0)) i) (index_answer short (cells_of (points-in l k))))
      ∙ laid-answered short fallback (points-in l k))
      alpha-is beta-is x-is y-is tiles-is offsets-is list-is

-- ---- what stood in the first m entries does not matter
pub lay-past : (m : ℕ) (fallback : Bool) (ps : List TrackPoint) (a b e n a' b' e' n' t : List Float) (o l : List ℕ) → drop m a' ≡ drop m a → drop m b' ≡ drop m b → drop m e' ≡ drop m e → drop m n' ≡ drop m n
    → lay_into m fallback ps (lent a' b' e' n' t o l) ≡ lay_into m fallback ps (lent a b e n t o l)
unfolding lay_into written filled
lay-past m fallback ps a b e n a' b' e' n' t o l pa pb pe pn = simp (pa, pb, pe, pn)

-- the lengths, from the tests
off-on : false ≡ true → ⊥
off-on e = subst (λ (z : Bool). cond z ⊥ (Unit {0})) e tt

pub room : {m : ℕ} {a b e n t : List Float} {o : List ℕ} → roomy_of m a b e n t o ≡ true → Roomy m a b e n t o
unfolding roomy_of
room {m} {a} {b} {e} {n} {t} {o} h =
    let h1 = and_right (leb m (length a)) _ h in
    let h2 = and_right (leb m (length b)) _ h1 in
    let h3 = and_right (leb m (length e)) _ h2 in
    let h4 = and_right (leb m (length n)) _ h3 in
    record {
      alpha = leb-true m (length a) (and_left _ _ h);
      beta = leb-true m (length b) (and_left _ _ h1);
      x = leb-true m (length e) (and_left _ _ h2);
      y = leb-true m (length n) (and_left _ _ h3);
      tiles = leb-true (quad_numbers m) (length t) (and_left _ _ h4);
      offsets = leb-true offset_count (length o) (and_right (leb (quad_numbers m) (length t)) _ h4);
    }

pub record GivenLong (b e n : List Float) (k : ℕ) : Type 0 where
  pub beta : k ≤ length b
  pub x : k ≤ length e
  pub y : k ≤ length n

pub given-long : (b e n : List Float) (k : ℕ) → given_of b e n k ≡ true → GivenLong b e n k
unfolding given_of
given-long b e n k h =
    let h1 = and_right (leb k (length b)) _ h in
    record { beta = leb-true k (length b) (and_left _ _ h); x = leb-true k (length e) (and_left _ _ h1); y = leb-true k (length n) (and_right (leb k (length e)) _ h1) }

-- ---- the checks: what each that passed tells, and the cause of each that did not
pub check-passed : (b : Bool) (c : Cause) {u : Unit {0}} → Ok u ≡ check b c → b ≡ true
unfolding check
check-passed true c h = refl
check-passed false c h = absurd (off-on (sym (ap is_ok h)))

positive : (k : ℕ) → eqb k 0 ≡ false → 0 < k
positive zero h = absurd (off-on (sym h))
positive (suc k) h = omega arith

at_most : (m k : ℕ) → ltb m k ≡ false → k ≤ m
at_most m k h = elim (dec_lt m k) [ yes l ↦ absurd (off-on (sym h ∙ lt-ltb m k l)) | no l ↦ omega arith ]

two-passed : (c d : Cause) {u : Unit {0}} (p q : Bool) → Ok u ≡ cond p (Err c) (cond q (Err d) (Ok tt)) → (p ≡ false) × (q ≡ false)
two-passed c d true q h = absurd (off-on (sym (ap is_ok h)))
two-passed c d false true h = absurd (off-on (sym (ap is_ok h)))
two-passed c d false false h = (refl, refl)

-- no cause of given points
pub record Passed (b e n : List Float) (k : ℕ) (wide : Bool) : Type 0 where
  pub some : 0 < k
  pub few : k ≤ most_points
  pub room : wide ≡ true
  pub given : GivenLong b e n k
  pub cause : given_cause wide b e n k ≡ Ok tt

module _ (b e n : List Float) (k : ℕ) (wide : Bool) where
  pub passed : {u v w : Unit {0}} → Ok u ≡ count_cause k → Ok v ≡ check wide Length → Ok w ≡ columns_cause b e n k → Passed b e n k wide
  unfolding count_cause columns_cause given_cause
  passed h i j =
      let p = two-passed _ _ (eqb k 0) (ltb most_points k) h in
      record {
        some = positive k p.0;
        few = at_most most_points k p.1;
        room = check-passed wide Length i;
        given = given-long b e n k (not-false (given_of b e n k) (two-passed _ _ (not (given_of b e n k)) (not (all_good (points_of b e n k))) j).0);
        cause = rw (sym h, sym i, sym j);
      }
    where
      not-false : (s : Bool) → not s ≡ false → s ≡ true
      not-false true h = refl
      not-false false h = absurd (off-on (sym h))

  pub by-count : {x : Cause} → Err x ≡ count_cause k → Err x ≡ given_cause wide b e n k
  unfolding given_cause
  by-count h = rw (sym h)

  pub by-room : {x : Cause} {u : Unit {0}} → Ok u ≡ count_cause k → Err x ≡ check wide Length → Err x ≡ given_cause wide b e n k
  unfolding given_cause
  by-room g h = rw (sym g, sym h)

  pub by-columns : {x : Cause} {u v : Unit {0}} → Ok u ≡ count_cause k → Ok v ≡ check wide Length → Err x ≡ columns_cause b e n k → Err x ≡ given_cause wide b e n k
  unfolding given_cause
  by-columns g h i = rw (sym g, sym h, sym i)

-- given points that pass, with columns of m
pub record Fit (m : ℕ) (b e n : List Float) (k : ℕ) (a' b' e' n' t' : List Float) (o' : List ℕ) : Type 0 where
  pub few : k ≤ m
  pub small : m ≤ most_points
  pub room : Roomy m a' b' e' n' t' o'

pub fit : {m : ℕ} {b e n : List Float} {k : ℕ} {a' b' e' n' t' : List Float} {o' : List ℕ} → m ≡ column_length k → Passed b e n k (roomy_of m a' b' e' n' t' o') → Fit m b e n k a' b' e' n' t' o'
fit {m} {k = k} c p = record { few = column_fits k m c p.few; small = column-small k m c; room = room p.room }

-- the call of points with columns of m
abbrev points_in : ℕ → List Float → List Float → List Float → ℕ → CourseColumns → Outcome
points_in m b e n k l = points_at m (given_cause (roomy_of m l.alpha l.beta l.x l.y l.tiles l.offsets) b e n k) (points_of b e n k) l

points-call : (m : ℕ) (b e n : List Float) (k : ℕ) (l : CourseColumns) → m ≡ column_length k → points_in m b e n k l ≡ points_call b e n k l
unfolding points_call points_cause
points-call m b e n k l h = ap (λ (z : ℕ). points_in z b e n k l) h

-- refused: nothing is written
pub refused : {m : ℕ} (b e n : List Float) (k : ℕ) {l : CourseColumns} {r : Result LaidCourse LayError} {x : Cause} → m ≡ column_length k → r ≡ Err (Refused x)
    → Err x ≡ given_cause (roomy_of m l.alpha l.beta l.x l.y l.tiles l.offsets) b e n k → outcome r l ≡ points_call b e n k l
unfolding points_at
refused {m} b e n k {l} c is h =
    ap (λ (z : Result LaidCourse LayError). outcome z l) is
    ∙ ap (λ (z : Result Unit Cause). points_at m z (points_of b e n k) l) h
    ∙ points-call m b e n k l c

-- accepted: the given points go in front, and the rest is what lay does
pub accepted : (m : ℕ) (b e n : List Float) (k : ℕ) (a' b' e' n' t' : List Float) (o' l' : List ℕ) (b1 e1 n1 : List Float) (w : Outcome) → m ≡ column_length k → Passed b e n k (roomy_of m a' b' e' n' t' o')
    → b1 ≡ take k b ++ drop k b' → e1 ≡ take k e ++ drop k e' → n1 ≡ take k n ++ drop k n'
    → w ≡ lay_into m false (points_of b1 e1 n1 k) (lent a' b1 e1 n1 t' o' l') → w ≡ points_call b e n k (lent a' b' e' n' t' o' l')
unfolding points_at
accepted m b e n k a' b' e' n' t' o' l' b1 e1 n1 w c h pb pe pn is =
    let f = fit c h in
    let g = h.given in
    is
    ∙ lay-past m false (points_of b1 e1 n1 k) a' b' e' n' a' b1 e1 n1 t' o' l' refl (past b b' b1 g.beta f.few pb) (past e e' e1 g.x f.few pe) (past n n' n1 g.y f.few pn)
    ∙ ap (λ (ps : List TrackPoint). lay_into m false ps (lent a' b' e' n' t' o' l')) (fronts g.beta g.x g.y)
    ∙ ap (λ (z : Result Unit Cause). points_at m z (points_of b e n k) (lent a' b' e' n' t' o' l')) (sym h.cause)
    ∙ points-call m b e n k (lent a' b' e' n' t' o' l') c
  where
    past : (s l c : List Float) → k ≤ length s → k ≤ m → c ≡ take k s ++ drop k l → drop m c ≡ drop m l
    past s l c long few p = ap (drop m) p ∙ drop_past (take k s) l k m (length-take-le k s long) few

    fronts : k ≤ length b → k ≤ length e → k ≤ length n → points_of b1 e1 n1 k ≡ points_of b e n k
    fronts mb me mn =
        (λ i. points_of (pb i) (pe i) (pn i) k) ∙ points-front b e n (drop k b') (drop k e') (drop k n') k k mb me mn (omega arith)
