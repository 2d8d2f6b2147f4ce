-- Of the three limits on a step of the walk, the fifth turn of beta and beta beyond ±16 are never met: a refused step is refused by the third pass over the checkpoints. This holds for any
-- checkpoints and any place of the walk, NaN and infinities too. Assumes nothing.
use Rattle.std.proofs.Common.{◌≡◌, ℕ, zero, suc, ◌*◌, Bool, true, false, cond, T, ltb, ◌⊎◌, List, [], Option, Some, None, sym, refl, ap, ◌∙◌, subst, inl, inr, true≢false, arith}
use mathlib.Core.Bool.{false≢true}
use lib.Ieee.{Float, nan, inf, fin, up, down, is_nan, neg, lt, le, round, of_int, of_bits, add, sub}
use Rattle.course.specs.Rules.Arithmetic.{◌⊕◌, ◌⊖◌, ◌⊗◌, natural, decimal}
use Rattle.course.specs.Rules.Constants.{track_turn_rate}
use Rattle.course.specs.Rules.Numeric.{abs_of, min_of, within}
use Rattle.course.specs.Rules.Trig.{SinCos, sin_cos_of}
use Rattle.course.specs.Rules.Finder.{Destination, dest_of}
use Rattle.course.specs.Rules.Step.{Walk, TrackStep, Sight, sight_of, turn_of, proj_of, steered, landed_of, then_landed, then_moved, step_of}
use Rattle.course.specs.Rules.Walk.{follow, onward, walk_from, walk_start, walk_of}
use Rattle.course.specs.Rules.Lengths.{step_limit}
use Rattle.course.specs.Laws.Refusals.{Reached, start, next, ThirdPass, RefusedByPass}
use Rattle.course.specs.declared.checkpoints.Checkpoint.{Checkpoint}
use Rattle.course.proofs.FloatOrder.{le_of_lt, is-so}
use Rattle.course.proofs.Intervals.{In, Near, either, near-of-within, within-of-near, wider, add-in, sub_in}
use Rattle.course.proofs.TurnLimits.{Fine, turn-fine}
use Rattle.course.proofs.SightBound.{Aimed, sight-seen, dest-aimed}

-- ---- steering turns beta by at most 0.31
abs-plus : (x c : Float) → lt (abs_of x) c ≡ true → T (le (natural 0) (abs_of x))
unfolding abs_of lt le natural of_int
abs-plus nan c e = absurd (false≢true e)
abs-plus (inf s) c e = tt
abs-plus (fin s m e') c e = is-so false (0 * 1 * down e') false (m * up e' * 1) (omega arith)

rate-in : (x : Float) → In (natural 0) (decimal 31 100) (min_of track_turn_rate (abs_of x))
unfolding min_of track_turn_rate
rate-in x = go (lt (abs_of x) (decimal 31 100)) refl
  where
    go : (b : Bool) → lt (abs_of x) (decimal 31 100) ≡ b → In (natural 0) (decimal 31 100) (cond b (abs_of x) (cond (is_nan (decimal 31 100)) (abs_of x) (decimal 31 100)))
    go true e = record { low = abs-plus x (decimal 31 100) e; high = le_of_lt (abs_of x) (decimal 31 100) (subst T (sym e) tt) }
    go false e = record { low = unfold natural of_int decimal round is_nan le in tt; high = unfold decimal round is_nan le in tt }

steered-near : (b proj : Float) → Near (natural 12) b → Near (natural 16) (steered b proj)
unfolding steered
steered-near b proj hb =
    let m = min_of track_turn_rate (abs_of (decimal 1 1000 ⊗ proj)) in
    let r = rate-in (decimal 1 1000 ⊗ proj) in
    either (Near (natural 16)) (lt (decimal 3 10) proj) (b ⊖ m) (cond (lt proj (neg (decimal 3 10))) (b ⊕ m) b) (sub_in hb r (unfold natural of_int decimal round neg sub le in tt))
    (either (Near (natural 16)) (lt proj (neg (decimal 3 10))) (b ⊕ m) b (add-in hb r (unfold natural of_int decimal round neg add le in tt)) (wider hb (unfold natural of_int neg le in tt)))

-- ---- a step with a checkpoint to go to is accepted
abbrev Accepted : Option (TrackStep × Walk) → Type 0
Accepted None = ⊥
Accepted (Some s) = T (within (natural 16) s.1.beta)

test-passed : (b : Bool) (p : TrackStep) (v : Walk) → T b → T (within (natural 16) v.beta) → Accepted (cond b (Some (p, v)) None)
test-passed true p v t k = k
test-passed false p v t k = absurd t

landed : (w : Walk) (s : Sight) (h : SinCos) (d : Destination) (prev beta : Float) → Near (natural 16) beta → Accepted (landed_of w s h d prev beta)
unfolding landed_of
landed w s h d prev beta near = let t = within-of-near (natural 16) beta near in test-passed (within (natural 16) beta) _ _ t t

turned : (w : Walk) (s : Sight) (d : Destination) (t : Option (Float × ℕ)) → Fine t → Accepted (then_landed w s d t)
unfolding then_landed
turned w s d None f = f
turned w s d (Some t) f =
    let h = sin_cos_of w.beta in
    landed w s h d t.0 (steered t.0 (proj_of w h d.checkpoint)) (steered-near t.0 (proj_of w h d.checkpoint) f)

moved : (w : Walk) (s : Sight) (d : Option Destination) → T (within (natural 16) w.beta) → Aimed d → (d ≡ None) ⊎ Accepted (then_moved w s d)
unfolding then_moved
moved w s None hb a = inl refl
moved w s (Some d) hb a = inr (turned w s d (turn_of w.beta d.alpha) (turn-fine d.alpha a w.beta (near-of-within (natural 16) w.beta hb)))

step-accepted : (cs : List Checkpoint) (w : Walk) → T (within (natural 16) w.beta) → ThirdPass cs w ⊎ Accepted (step_of cs w)
unfolding step_of
step-accepted cs w hb = moved w (sight_of w) (dest_of cs w.dest (sight_of w).alpha) hb (dest-aimed cs w.dest (sight_of w).alpha (sight-seen w))

-- ---- so a step from a beta within ±16 is refused by the third pass alone
pub step-refused-by-pass : (cs : List Checkpoint) (w : Walk) → T (within (natural 16) w.beta) → step_of cs w ≡ None → ThirdPass cs w
step-refused-by-pass cs w hb e = elim (step-accepted cs w hb) [ inl d ↦ d | inr a ↦ absurd (subst Accepted e a) ]

-- which does refuse it
pub pass-refuses : (cs : List Checkpoint) (w : Walk) → ThirdPass cs w → step_of cs w ≡ None
unfolding step_of then_moved
pass-refuses cs w d = ap (then_moved w (sight_of w)) d

-- ---- and every walk that is reached has its beta within ±16
abbrev Went : Option (TrackStep × Walk) → Type 0
Went None = ⊥
Went (Some s) = Unit

step-within : (cs : List Checkpoint) (w v : Walk) (p : TrackStep) → T (within (natural 16) w.beta) → step_of cs w ≡ Some (p, v) → T (within (natural 16) v.beta)
step-within cs w v p hb e = elim (step-accepted cs w hb) [ inl d ↦ absurd (subst Went (sym e ∙ pass-refuses cs w d) tt) | inr a ↦ subst Accepted e a ]

pub reached-within : (cs : List Checkpoint) (w : Walk) → Reached cs w → T (within (natural 16) w.beta)
reached-within cs w start = unfold walk_start within natural of_int of_bits neg le in tt
reached-within cs u (next w v p r e) = step-within cs w v p (reached-within cs w r) e

pub reached-refused-by-pass : (cs : List Checkpoint) (w : Walk) → Reached cs w → step_of cs w ≡ None → ThirdPass cs w
reached-refused-by-pass cs w r e = step-refused-by-pass cs w (reached-within cs w r) e

-- ---- No walk is ever refused by the fifth turn or by beta beyond ±16.
walk-from : (cs : List Checkpoint) (n : ℕ) (w : Walk) → Reached cs w → (walk_from n cs w).ok ≡ false → RefusedByPass cs
unfolding walk_from onward follow
walk-from cs zero w r e = absurd (true≢false e)
walk-from cs (suc n) w r e = go (step_of cs w) refl e (λ (v : Walk). walk-from cs n v)
  where
    go : (s : Option (TrackStep × Walk)) → step_of cs w ≡ s → (onward s (λ (v : Walk). walk_from n cs v)).ok ≡ false → ((v : Walk) → Reached cs v → (walk_from n cs v).ok ≡ false → RefusedByPass cs) → RefusedByPass cs
    go None i e rest = record { walk = w; reached = r; third-pass = reached-refused-by-pass cs w r i }
    go (Some s) i e rest = ended (ltb 4 s.1.laps) e
      where
        ended : (b : Bool) → (cond b (record { ok = true; steps = [] }) (walk_from n cs s.1)).ok ≡ false → RefusedByPass cs
        ended true e = absurd (true≢false e)
        ended false e = rest s.1 (next w s.1 s.0 r i) e

pub walk-refused-by-pass : (cs : List Checkpoint) → (walk_of cs).ok ≡ false → RefusedByPass cs
unfolding walk_of
walk-refused-by-pass cs e = walk-from cs step_limit walk_start start e
