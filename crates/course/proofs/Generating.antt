-- The ring's columns, and the loop over the attempts. Assumes nothing.
use Rattle.std.proofs.Common.{◌≡◌, ℕ, zero, suc, ◌+◌, ◌-◌, ◌<◌, ◌≤◌, Bool, true, false, not, List, [], ◌∷◌, ◌++◌, map, length, take, drop, set, Option, Some, None, IfSome, unwrap_or, is_none, is_some, sym, refl, ap, ◌∙◌, subst, ap₂, add-one, arith, take_at}
use lib.ListN.{length-map}
use lib.Ieee.{Float}
use Rattle.rng.specs.declared.SplitMix64.{SplitMix64}
use Rattle.rng.specs.Rules.SplitMix.{after, seeded}
use Rattle.course.specs.Rules.Lengths.{laid_length}
use Rattle.course.specs.Rules.Checkpoints.{checkpoints_of}
use Rattle.course.specs.Rules.Tiles.{betas, xs, ys}
use Rattle.course.specs.Rules.Lay.{attempt_on, ring_point, ring_of, CoursePoints, ring_course, or_else, course_on, course_from, course_within}
use Rattle.course.specs.Steps.Lay.{Columns, InFront, or_later, tried_from, tried_within, tried_by, course_by, Ringed, OrRing}
use Rattle.course.specs.declared.checkpoints.Checkpoint.{Checkpoint}
use Rattle.course.specs.declared.tiles.TrackPoint.{TrackPoint}
use Rattle.course.specs.declared.lay.Origin.{Origin}
use Rattle.course.specs.declared.lay.Origin.TheVariants.{Seed, Checkpoints}
use Rattle.course.proofs.ColumnLaws.{Grown, grown-none, drop_past}
use Rattle.course.proofs.CourseSizes.{ring-length}
use Rattle.course.proofs.Turns.{suc-pred}
use Rattle.course.proofs.WalkSteps.{Room, more}

-- ---- the ring
ring-next : (i : ℕ) (p : TrackPoint) → p ≡ ring_point i → ring_of i ++ (p ∷ []) ≡ ring_of (i + 1)
unfolding ring_of
ring-next i p e = rw (add-one, e)

pub record Ringing (c₀ c : Columns) (i : ℕ) : Type 0 where
  pub alpha : c.alpha ≡ c₀.alpha
  pub beta : Grown (betas (ring_of i)) c.beta c₀.beta i
  pub x : Grown (xs (ring_of i)) c.x c₀.x i
  pub y : Grown (ys (ring_of i)) c.y c₀.y i
  pub room : Room 100 c₀

pub ring-none : (c : Columns) → Room 100 c → Ringing c c 0
unfolding ring_of
ring-none c r = record { alpha = refl; beta = grown-none c.beta; x = grown-none c.x; y = grown-none c.y; room = r }

ring-col : (f : TrackPoint → Float) (c l : List Float) (i : ℕ) (p : TrackPoint) → p ≡ ring_point i → i < length l → Grown (map f (ring_of i)) c l i → Grown (map f (ring_of (i + 1))) (set c i (f p)) l (i + 1)
ring-col f c l i p e h g = rw (← ring-next i p e) (more f (ring_of i) p c l i h g)

pub ring-more : {c₀ c : Columns} {i : ℕ} {p : TrackPoint} → i < 100 → p ≡ ring_point i → Ringing c₀ c i
    → Ringing c₀ (record { alpha = c.alpha; beta = set c.beta i p.beta; x = set c.x i p.x; y = set c.y i p.y }) (i + 1)
ring-more {c₀} {c} {i} {p} h e g = record {
  alpha = g.alpha;
  beta = ring-col (λ (q : TrackPoint). q.beta) c.beta c₀.beta i p e (omega (arith, g.room.beta)) g.beta;
  x = ring-col (λ (q : TrackPoint). q.x) c.x c₀.x i p e (omega (arith, g.room.x)) g.x;
  y = ring-col (λ (q : TrackPoint). q.y) c.y c₀.y i p e (omega (arith, g.room.y)) g.y;
  room = g.room;
}

pub ring-all : {c₀ c : Columns} {i : ℕ} → i ≡ 100 → Ringing c₀ c i → Ringed c₀ c
ring-all {c₀} {c} {i} e g = record {
  alpha = g.alpha;
  beta = g.beta.is ∙ ap (λ (n : ℕ). betas (ring_of n) ++ drop n c₀.beta) e;
  x = g.x.is ∙ ap (λ (n : ℕ). xs (ring_of n) ++ drop n c₀.x) e;
  y = g.y.is ∙ ap (λ (n : ℕ). ys (ring_of n) ++ drop n c₀.y) e;
}

front-of : (f : TrackPoint → Float) (c c' : List Float) → c' ≡ map f (ring_of 100) ++ drop 100 c → take 100 c' ≡ map f (ring_of 100)
front-of f c c' e = ap (take 100) e ∙ take_at (map f (ring_of 100)) (drop 100 c) 100 (length-map (ring_of 100) f ∙ ring-length 100)

beyond : (m : ℕ) (f : TrackPoint → Float) (c c' : List Float) → 100 ≤ m → c' ≡ map f (ring_of 100) ++ drop 100 c → drop m c' ≡ drop m c
beyond m f c c' h e = ap (drop m) e ∙ drop_past (map f (ring_of 100)) c 100 m (length-map (ring_of 100) f ∙ ring-length 100) h

ring-front : {c c' : Columns} → Ringed c c' → InFront (ring_of 100) c c' 100
ring-front {c} {c'} r = record {
  count = sym (ring-length 100);
  beta = front-of (λ (q : TrackPoint). q.beta) c.beta c'.beta r.beta;
  x = front-of (λ (q : TrackPoint). q.x) c.x c'.x r.x;
  y = front-of (λ (q : TrackPoint). q.y) c.y c'.y r.y;
  kept-a = ap (drop laid_length) r.alpha;
  kept_b = beyond laid_length (λ (q : TrackPoint). q.beta) c.beta c'.beta (omega arith) r.beta;
  kept-x = beyond laid_length (λ (q : TrackPoint). q.x) c.x c'.x (omega arith) r.x;
  kept-y = beyond laid_length (λ (q : TrackPoint). q.y) c.y c'.y (omega arith) r.y;
}

-- ---- columns of which only the first laid_length entries may have changed
pub record AllBeyond (c₀ c : Columns) : Type 0 where
  pub alpha : drop laid_length c.alpha ≡ drop laid_length c₀.alpha
  pub beta : drop laid_length c.beta ≡ drop laid_length c₀.beta
  pub x : drop laid_length c.x ≡ drop laid_length c₀.x
  pub y : drop laid_length c.y ≡ drop laid_length c₀.y

module _ {ps : List TrackPoint} {c₀ c c' : Columns} {n : ℕ} (s : AllBeyond c₀ c) (d : InFront ps c c' n) where
  -- what stands in front of changed columns, seen from those before
  onto : InFront ps c₀ c' n
  onto = record {
    count = d.count;
    beta = d.beta;
    x = d.x;
    y = d.y;
    kept-a = d.kept-a ∙ s.alpha;
    kept_b = d.kept_b ∙ s.beta;
    kept-x = d.kept-x ∙ s.x;
    kept-y = d.kept-y ∙ s.y;
  }

  all-further : AllBeyond c₀ c'
  all-further = record { alpha = d.kept-a ∙ s.alpha; beta = d.kept_b ∙ s.beta; x = d.kept-x ∙ s.x; y = d.kept-y ∙ s.y }

-- ---- attempt by attempt
none-is : (l : List TrackPoint) → length l ≡ 0 → l ≡ []
none-is [] e = refl
none-is (p ∷ ps) e = absurd (omega (arith, e))

later-some : (l o : List TrackPoint) → 0 < length l → or_later l o ≡ l
unfolding or_later
later-some [] o h = absurd (omega (arith, h))
later-some (p ∷ ps) o h = refl

tried-suc : (n : ℕ) (g : SplitMix64) → tried_from (suc n) g ≡ or_later (attempt_on (checkpoints_of 12 g)) (tried_from n (after 24 g))
unfolding tried_from
tried-suc n g = refl

opened : (m : ℕ) (g : SplitMix64) → (m ≡ 0 → ⊥) → tried_from m g ≡ or_later (attempt_on (checkpoints_of 12 g)) (tried_from (m - 1) (after 24 g))
opened m g z = ap (λ (n : ℕ). tried_from n g) (sym (suc-pred m z)) ∙ tried-suc (m - 1) g

pub record Trying (attempts seed : ℕ) (c₀ c : Columns) (g : SplitMix64) (k : ℕ) : Type 0 where
  pub rest : tried_within attempts seed ≡ tried_from (attempts - k) g
  pub kept : AllBeyond c₀ c

pub trying-none : {attempts seed : ℕ} {c : Columns} {g : SplitMix64} → g ≡ seeded seed → Trying attempts seed c c g 0
unfolding tried_within
trying-none {attempts} {g = g} e = record { rest = ap (tried_from attempts) (sym e) ∙ ap (λ (m : ℕ). tried_from m g) (all attempts); kept = record { alpha = refl; beta = refl; x = refl; y = refl } }
  where
    all : (m : ℕ) → m ≡ m - 0
    all m = omega arith

module _ {attempts seed : ℕ} {c₀ c : Columns} {g : SplitMix64} {k : ℕ} (s : Trying attempts seed c₀ c g k) where
  module _ (h : k < attempts) {c' : Columns} {n : ℕ} (d : InFront (attempt_on (checkpoints_of 12 g)) c c' n) where
    left : attempts - k ≡ 0 → ⊥
    left q = omega (arith, q)

    pub trying-more : {r : SplitMix64} → r ≡ after 24 g → n ≡ 0 → Trying attempts seed c₀ c' r (k + 1)
    unfolding or_later
    trying-more er z =
        let m : attempts - k - 1 ≡ attempts - (k + 1) = omega arith in
        record {
          rest = s.rest ∙ opened (attempts - k) g left ∙ ap (λ (l : List TrackPoint). or_later l (tried_from (attempts - k - 1) (after 24 g))) (none-is (attempt_on (checkpoints_of 12 g)) (sym d.count ∙ z))
              ∙ ap₂ (λ (i : ℕ) (z : SplitMix64). tried_from i z) m (sym er);
          kept = all-further s.kept d;
        }

    pub reached-here : 0 < n → InFront (tried_within attempts seed) c₀ c' n
    reached-here p =
        subst (λ (l : List TrackPoint). InFront l c₀ c' n)
        (sym (s.rest ∙ opened (attempts - k) g left ∙ later-some (attempt_on (checkpoints_of 12 g)) (tried_from (attempts - k - 1) (after 24 g)) (rw (← d.count) p)))
        (onto s.kept d)

  pub reached-none : attempts ≤ k → InFront (tried_within attempts seed) c₀ c 0
  unfolding tried_from
  reached-none h =
      let z : attempts - k ≡ 0 = omega arith in
      rw (s.rest ∙ ap (λ (m : ℕ). tried_from m g) z) (record { count = refl; beta = refl; x = refl; y = refl; kept-a = s.kept.alpha; kept_b = s.kept.beta; kept-x = s.kept.x; kept-y = s.kept.y })

-- ---- the course: the attempt's points, or else the ring's
or-some : (l : List TrackPoint) (o : CoursePoints) → 0 < length l → or_else l o ≡ record { points = l; fallback = false }
unfolding or_else
or-some [] o h = absurd (omega (arith, h))
or-some (p ∷ ps) o h = refl

or-later : (l m : List TrackPoint) (o : CoursePoints) → or_else (or_later l m) o ≡ or_else l (or_else m o)
unfolding or_else or_later
or-later [] m o = refl
or-later (p ∷ ps) m o = refl

course-tried : (n : ℕ) (g : SplitMix64) → course_from n g ≡ or_else (tried_from n g) ring_course
unfolding course_from tried_from or_else
course-tried zero g = refl
course-tried (suc n) g = ap (or_else (attempt_on (checkpoints_of 12 g))) (course-tried n (after 24 g)) ∙ sym (or-later (attempt_on (checkpoints_of 12 g)) (tried_from n (after 24 g)) ring_course)

pub within-tried : (attempts seed : ℕ) → or_else (tried_within attempts seed) ring_course ≡ course_within attempts seed
unfolding course_within tried_within
within-tried attempts seed = sym (course-tried attempts (seeded seed))

pub on-attempt : (cs : List Checkpoint) → or_else (attempt_on cs) ring_course ≡ course_on cs
unfolding course_on
on-attempt cs = refl

pub by-tried : (o : Origin) → or_else (tried_by o) ring_course ≡ course_by o
by-tried (Seed attempts seed) = within-tried attempts seed
by-tried (Checkpoints cs) = on-attempt cs

-- the course p is generated: its points stand in front
pub record Made (p : CoursePoints) (c c' : Columns) (n : ℕ) (fallback : Bool) : Type 0 where
  pub front : InFront p.points c c' n
  pub ring : fallback ≡ p.fallback

made : {p : CoursePoints} {ps : List TrackPoint} {f : Bool} {c c' : Columns} {n : ℕ} → p ≡ record { points = ps; fallback = f } → InFront ps c c' n → Made p c c' n f
made {f = f} {c} {c'} {n} e d = subst (λ (z : CoursePoints). Made z c c' n f) (sym e) (record { front = d; ring = refl })

-- a test for none, and its answer
none-so : (o : Option ℕ) (f : Bool) → is_some o ≡ not f → f ≡ is_none o
none-so None true e = refl
none-so None false e = cc
none-so (Some k) true e = cc
none-so (Some k) false e = refl

pub made-or-ring : {p : CoursePoints} {ps : List TrackPoint} {c₀ c c' : Columns} (o : Option ℕ) {n : ℕ} {f : Bool} → or_else ps ring_course ≡ p
    → InFront ps c₀ c (unwrap_or o 0) → IfSome o (λ k. 0 < k) → OrRing o c c' n → is_some o ≡ not f → Made p c₀ c' n f
unfolding or_else
made-or-ring {p = q} {ps} {c₀} {c} {c'} None {n} {f} e d s r t =
    let k : AllBeyond c₀ c = record { alpha = d.kept-a; beta = d.kept_b; x = d.kept-x; y = d.kept-y } in
    rw (none-so None f t, r.0)
    (made (sym e ∙ ap (λ (l : List TrackPoint). or_else l ring_course) (none-is ps (sym d.count))) (onto k (ring-front r.1)))
made-or-ring {ps = ps} {c₀} {c} {c'} (Some k) {n} {f} e d s r t =
    rw (none-so (Some k) f t, r.0, r.1) (made (sym e ∙ or-some ps ring_course (rw (← d.count) s)) d)
