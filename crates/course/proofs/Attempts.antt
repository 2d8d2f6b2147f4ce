-- An attempt's columns: the walk, then its track moved to the front. Assumes nothing.
use Rattle.std.proofs.Common.{◌≡◌, ℕ, suc, ◌+◌, ◌-◌, ◌<◌, ◌≤◌, Bool, true, false, cond, List, [], ◌∷◌, ◌++◌, map, length, take, drop, Option, Some, None, sym, refl, ap, ◌∙◌, arith, length-drop, take_at}
use Rattle.std.proofs.lemmas.Option.{none-some, same_Some}
use lib.ListN.{length-map}
use lib.Seq.{drop-append-le, take-append-le}
use lib.Ieee.{Float}
use Rattle.course.specs.Rules.Lengths.{step_limit, laid_length}
use Rattle.course.specs.Rules.Step.{Walk, TrackStep, step_of}
use Rattle.course.specs.Rules.Track.{step_betas, step_xs, step_ys, track_of}
use Rattle.course.specs.Rules.Walk.{Trail, follow, onward, walk_from, walk_start, walk_of}
use Rattle.course.specs.Rules.Tiles.{betas, xs, ys}
use Rattle.course.specs.Rules.Lay.{point_of, accepted, attempt_on}
use Rattle.course.specs.Steps.Lay.{Columns, walked_of, Trod, Before, Front, Whole, InFront}
use Rattle.course.specs.declared.checkpoints.Checkpoint.{Checkpoint}
use Rattle.course.specs.declared.tiles.TrackPoint.{TrackPoint}
use Rattle.course.specs.declared.track.Part.{Part}
use Rattle.course.proofs.ColumnLaws.{drop_past}
use Rattle.course.proofs.TrackParts.{map-take, map-drop}

-- a walk that met no limit has a step
some-onward : (s : Option (TrackStep × Walk)) (k : Walk → Trail) → (onward s k).ok ≡ true → 0 < length (onward s k).steps
unfolding onward follow
some-onward None k e = let z : ◌≡◌ {A = ℕ} 0 1 = cc in omega arith
some-onward (Some s) k e = omega arith

some-from : (m : ℕ) (cs : List Checkpoint) (w : Walk) → (walk_from (suc m) cs w).ok ≡ true → 0 < length (walk_from (suc m) cs w).steps
unfolding walk_from
some-from m cs w e = some-onward (step_of cs w) (λ (v : Walk). walk_from m cs v) e

walk-some : (cs : List Checkpoint) → (walk_of cs).ok ≡ true → 0 < length (walk_of cs).steps
unfolding walk_of
walk-some cs e = some-from (step_limit - 1) cs walk_start e

-- the columns of a track's points are those of its steps
map-through : {A B C : Type 0} (f : B → C) (g : A → B) (h : A → C) → ((a : A) → f (g a) ≡ h a) → (l : List A) → map f (map g l) ≡ map h l
map-through f g h e [] = refl
map-through f g h e (a ∷ l) = λ i. e a i ∷ map-through f g h e l i

betas-of : (ps : List TrackStep) → step_betas ps ≡ betas (map point_of ps)
unfolding point_of
betas-of ps = sym (map-through (λ (p : TrackPoint). p.beta) point_of (λ (p : TrackStep). p.beta) (λ a. refl) ps)

xs-of : (ps : List TrackStep) → step_xs ps ≡ xs (map point_of ps)
unfolding point_of
xs-of ps = sym (map-through (λ (p : TrackPoint). p.x) point_of (λ (p : TrackStep). p.x) (λ a. refl) ps)

ys-of : (ps : List TrackStep) → step_ys ps ≡ ys (map point_of ps)
unfolding point_of
ys-of ps = sym (map-through (λ (p : TrackPoint). p.y) point_of (λ (p : TrackStep). p.y) (λ a. refl) ps)

-- ---- one column after the walk and the move
module _ (m : ℕ) (f : TrackStep → Float) (ps : List TrackStep) (c c₀ : List Float) (is : c ≡ map f ps ++ drop (length ps) c₀) (few : length ps ≤ m) where
  walked-kept : drop m c ≡ drop m c₀
  walked-kept = ap (drop m) is ∙ drop_past (map f ps) c₀ (length ps) m (length-map ps f) few

  walked-front : Before (map f ps) c
  walked-front = record { rest = drop (length ps) c₀; is = is }

  module _ (c' : List Float) (p : Part) (moved : c' ≡ take p.n (drop p.from c) ++ drop p.n c) (fits : p.from + p.n ≤ length ps) (cut : Whole ps p) where
    part-is : take p.n (drop p.from c) ≡ map f (track_of ps)
    part-is =
        let lm : length (map f ps) ≡ length ps = length-map ps f in
        let h : p.from ≤ length (map f ps) = omega arith in
        let k : p.n ≤ length (drop p.from (map f ps)) = rw (length-drop p.from (map f ps)) (omega arith) in
        ap (λ (z : List Float). take p.n (drop p.from z)) is
        ∙ ap (take p.n) (drop-append-le p.from (map f ps) (drop (length ps) c₀) h)
        ∙ take-append-le p.n (drop p.from (map f ps)) (drop (length ps) c₀) k
        ∙ ap (take p.n) (sym (map-drop f p.from ps)) ∙ sym (map-take f p.n (drop p.from ps)) ∙ ap (map f) cut.part

    part-long : length (take p.n (drop p.from c)) ≡ p.n
    part-long = ap length part-is ∙ length-map (track_of ps) f ∙ sym cut.size

    moved_front : take p.n c' ≡ map f (track_of ps)
    moved_front = ap (take p.n) moved ∙ take_at (take p.n (drop p.from c)) (drop p.n c) p.n part-long ∙ part-is

    moved-kept : drop m c' ≡ drop m c₀
    moved-kept = ap (drop m) moved ∙ drop_past (take p.n (drop p.from c)) c p.n m part-long (omega arith) ∙ walked-kept

-- ---- the attempt
abbrev steps_of : List Checkpoint → List TrackStep
steps_of cs = (walk_of cs).steps

-- a walk that is refused, and one that is not
walked-ok : (r : Trail) {n : ℕ} → Some n ≡ walked_of r → (r.ok ≡ true) × (n ≡ length r.steps)
walked-ok r {n} e = go r.ok refl e
  where
    go : (b : Bool) → r.ok ≡ b → Some n ≡ cond b (Some (length r.steps)) None → (r.ok ≡ true) × (n ≡ length r.steps)
    go true h e = (h, same_Some n (length r.steps) e)
    go false h e = absurd (none-some n (sym e))

walked-not : (r : Trail) → None ≡ walked_of r → r.ok ≡ false
walked-not r e = go r.ok refl e
  where
    go : (b : Bool) → r.ok ≡ b → None ≡ cond b (Some (length r.steps)) None → r.ok ≡ false
    go true h e = absurd (none-some (length r.steps) e)
    go false h e = h

module _ {cs : List Checkpoint} {c c₁ : Columns} {o : Option ℕ} (d : Trod cs c c₁ o) where
  -- a walk fits into the columns that lay is lent
  fits-laid : length (steps_of cs) ≤ laid_length
  fits-laid = omega (arith, d.few)

  pub front : Front (walk_of cs).steps c₁
  front = record {
    alpha = walked-front step_limit (λ (p : TrackStep). p.alpha) (steps_of cs) c₁.alpha c.alpha d.alpha d.few;
    beta = walked-front step_limit (λ (p : TrackStep). p.beta) (steps_of cs) c₁.beta c.beta d.beta d.few;
    x = walked-front step_limit (λ (p : TrackStep). p.x) (steps_of cs) c₁.x c.x d.x d.few;
    y = walked-front step_limit (λ (p : TrackStep). p.y) (steps_of cs) c₁.y c.y d.y d.few;
  }

  -- no track: the walk is refused, or nothing of it is the track
  none-front : attempt_on cs ≡ [] → InFront (attempt_on cs) c c₁ 0
  none-front n = record {
    count = sym (ap length n);
    beta = sym (ap betas n);
    x = sym (ap xs n);
    y = sym (ap ys n);
    kept-a = walked-kept laid_length (λ (p : TrackStep). p.alpha) (steps_of cs) c₁.alpha c.alpha d.alpha fits-laid;
    kept_b = walked-kept laid_length (λ (p : TrackStep). p.beta) (steps_of cs) c₁.beta c.beta d.beta fits-laid;
    kept-x = walked-kept laid_length (λ (p : TrackStep). p.x) (steps_of cs) c₁.x c.x d.x fits-laid;
    kept-y = walked-kept laid_length (λ (p : TrackStep). p.y) (steps_of cs) c₁.y c.y d.y fits-laid;
  }

  pub attempt-refused : o ≡ None → InFront (attempt_on cs) c c₁ 0
  unfolding attempt_on accepted
  attempt-refused e = let h = walked-not (walk_of cs) (sym e ∙ d.result) in none-front (rw h)

  module _ {w : ℕ} (e : o ≡ Some w) where
    pub walked : ((walk_of cs).ok ≡ true) × (w ≡ length (steps_of cs))
    walked = walked-ok (walk_of cs) (sym e ∙ d.result)

    pub some : (0 < w) × (w ≤ step_limit)
    some = let k = walked in (rw k.1 (walk-some cs k.0), rw k.1 d.few)

    accepted-is : map point_of (track_of (steps_of cs)) ≡ attempt_on cs
    unfolding attempt_on accepted
    accepted-is = let k = walked in rw k.0

    pub attempt-none : track_of (steps_of cs) ≡ [] → InFront (attempt_on cs) c c₁ 0
    attempt-none q = none-front (sym accepted-is ∙ ap (map point_of) q)

    pub attempt-good : {b₂ x₂ y₂ : List Float} {p : Part} → p.from + p.n ≤ w → Whole (walk_of cs).steps p
        → b₂ ≡ take p.n (drop p.from c₁.beta) ++ drop p.n c₁.beta → x₂ ≡ take p.n (drop p.from c₁.x) ++ drop p.n c₁.x → y₂ ≡ take p.n (drop p.from c₁.y) ++ drop p.n c₁.y
        → InFront (attempt_on cs) c (record { alpha = c₁.alpha; beta = b₂; x = x₂; y = y₂ }) p.n
    attempt-good {b₂} {x₂} {y₂} {p} h cut mb mx my =
        let i = accepted-is in
        let fits : p.from + p.n ≤ length (steps_of cs) = rw (← walked.1) h in
        record {
          count = cut.size ∙ sym (length-map (track_of (steps_of cs)) point_of) ∙ ap length i;
          beta = moved_front laid_length (λ (p : TrackStep). p.beta) (steps_of cs) c₁.beta c.beta d.beta fits-laid b₂ p mb fits cut ∙ betas-of (track_of (steps_of cs)) ∙ ap betas i;
          x = moved_front laid_length (λ (p : TrackStep). p.x) (steps_of cs) c₁.x c.x d.x fits-laid x₂ p mx fits cut ∙ xs-of (track_of (steps_of cs)) ∙ ap xs i;
          y = moved_front laid_length (λ (p : TrackStep). p.y) (steps_of cs) c₁.y c.y d.y fits-laid y₂ p my fits cut ∙ ys-of (track_of (steps_of cs)) ∙ ap ys i;
          kept-a = walked-kept laid_length (λ (p : TrackStep). p.alpha) (steps_of cs) c₁.alpha c.alpha d.alpha fits-laid;
          kept_b = moved-kept laid_length (λ (p : TrackStep). p.beta) (steps_of cs) c₁.beta c.beta d.beta fits-laid b₂ p mb fits cut;
          kept-x = moved-kept laid_length (λ (p : TrackStep). p.x) (steps_of cs) c₁.x c.x d.x fits-laid x₂ p mx fits cut;
          kept-y = moved-kept laid_length (λ (p : TrackStep). p.y) (steps_of cs) c₁.y c.y d.y fits-laid y₂ p my fits cut;
        }
