-- The walk, one more step at a time. Assumes nothing.
use Rattle.std.proofs.Common.{◌≡◌, ℕ, suc, ◌+◌, ◌-◌, ◌<◌, ◌≤◌, Bool, true, false, cond, List, [], ◌∷◌, ◌++◌, map, length, drop, set, Option, Some, None, IfSome, sym, refl, ap, ap₂, ◌∙◌, subst, append_assoc, append-nil, arith, le-ltb, lt-ltb}
use mathlib.Core.List.{map-append}
use lib.ListN.{length-map}
use lib.Ieee.{Float}
use Rattle.course.specs.Rules.Lengths.{step_limit, laid_length}
use Rattle.course.specs.Rules.Arithmetic.{natural}
use Rattle.course.specs.Rules.Numeric.{within}
use Rattle.course.specs.Rules.Trig.{SinCos}
use Rattle.course.specs.Rules.Finder.{Destination, dest_of}
use Rattle.course.specs.Rules.Step.{Walk, TrackStep, Sight, sight_of, turn_of, landed_of, then_landed, then_moved, step_of}
use Rattle.course.specs.Rules.Track.{step_alphas, step_betas, step_xs, step_ys}
use Rattle.course.specs.Rules.Walk.{Trail, follow, onward, walk_from, walk_start, walk_of}
use Rattle.course.specs.Steps.Lay.{Columns, columns_of, SameColumns, Trod}
use Rattle.course.specs.declared.checkpoints.Checkpoint.{Checkpoint}
use Rattle.course.specs.declared.walk_columns.WalkColumns.{WalkColumns}
use Rattle.course.proofs.FinderSteps.{In, dest-in}
use Rattle.course.proofs.ColumnLaws.{Grown, grown-none, grown-more}
use Rattle.course.proofs.Turns.{suc-pred}

-- the four columns hold the points in front
pub record Held (ps : List TrackStep) (c c₀ : Columns) (k : ℕ) : Type 0 where
  pub alpha : Grown (step_alphas ps) c.alpha c₀.alpha k
  pub beta : Grown (step_betas ps) c.beta c₀.beta k
  pub x : Grown (step_xs ps) c.x c₀.x k
  pub y : Grown (step_ys ps) c.y c₀.y k

-- the columns have room for m entries
pub record Room (m : ℕ) (c : Columns) : Type 0 where
  pub alpha : m ≤ length c.alpha
  pub beta : m ≤ length c.beta
  pub x : m ≤ length c.x
  pub y : m ≤ length c.y

pub room-of : (m : ℕ) (c : WalkColumns) → m ≤ laid_length → Room m (columns_of c)
room-of m c h = record { alpha = omega (arith, c.room_alpha); beta = omega (arith, c.room_beta); x = omega (arith, c.room_x); y = omega (arith, c.room_y) }

-- columns that are the ones that were lent, and stay so
pub same-none : (c : WalkColumns) → SameColumns c c
same-none c = record { alpha = refl; beta = refl; x = refl; y = refl }

pub same-then : {c c' c'' : WalkColumns} → SameColumns c c' → SameColumns c' c'' → SameColumns c c''
same-then s t = record { alpha = t.alpha ∙ s.alpha; beta = t.beta ∙ s.beta; x = t.x ∙ s.x; y = t.y ∙ s.y }

-- one step is stored
abbrev pub stored : Columns → ℕ → TrackStep → Columns
stored c k p = record { alpha = set c.alpha k p.alpha; beta = set c.beta k p.beta; x = set c.x k p.x; y = set c.y k p.y }

pub more : {A : Type 0} (f : A → Float) (ps : List A) (p : A) (c l : List Float) (k : ℕ) → k < length l → Grown (map f ps) c l k → Grown (map f (ps ++ (p ∷ []))) (set c k (f p)) l (k + 1)
more f ps p c l k h g = grown-more _ _ c l k (f p) g h (sym (map-append f ps (p ∷ [])))

held_more : {m k : ℕ} {c₀ c : Columns} (ps : List TrackStep) (p : TrackStep) → k < m → Room m c₀ → Held ps c c₀ k → Held (ps ++ (p ∷ [])) (stored c k p) c₀ (k + 1)
held_more {k = k} {c₀} {c} ps p l r h = record {
  alpha = more (λ (q : TrackStep). q.alpha) ps p c.alpha c₀.alpha k (omega (arith, r.alpha)) h.alpha;
  beta = more (λ (q : TrackStep). q.beta) ps p c.beta c₀.beta k (omega (arith, r.beta)) h.beta;
  x = more (λ (q : TrackStep). q.x) ps p c.x c₀.x k (omega (arith, r.x)) h.x;
  y = more (λ (q : TrackStep). q.y) ps p c.y c₀.y k (omega (arith, r.y)) h.y;
}

-- ---- the definition, a step at a time
puts_none : (r : Trail) → follow [] r ≡ r
unfolding follow
puts_none r = refl

puts-more : (ps : List TrackStep) (p : TrackStep) (r : Trail) → follow ps (follow (p ∷ []) r) ≡ follow (ps ++ (p ∷ [])) r
unfolding follow
puts-more ps p r = ap (λ (l : List TrackStep). record { ok = r.ok; steps = l }) (sym (append_assoc ps (p ∷ []) r.steps))

module _ (cs : List Checkpoint) (w : Walk) where
  opened : (m : ℕ) → walk_from (suc m) cs w ≡ onward (step_of cs w) (λ (v : Walk). walk_from m cs v)
  unfolding walk_from
  opened m = refl

  onward-is : (n : ℕ) → (n ≡ 0 → ⊥) → walk_from n cs w ≡ onward (step_of cs w) (λ (v : Walk). walk_from (n - 1) cs v)
  onward-is n z = ap (λ (m : ℕ). walk_from m cs w) (sym (suc-pred n z)) ∙ opened (n - 1)

  pub refused : (n : ℕ) → (n ≡ 0 → ⊥) → step_of cs w ≡ None → walk_from n cs w ≡ record { ok = false; steps = [] }
  unfolding onward
  refused n z e = onward-is n z ∙ rw e

  pub goes_on : (n : ℕ) (p : TrackStep) (v : Walk) → (n ≡ 0 → ⊥) → step_of cs w ≡ Some (p, v) → v.laps ≤ 4 → walk_from n cs w ≡ follow (p ∷ []) (walk_from (n - 1) cs v)
  unfolding onward
  goes_on n p v z e l = onward-is n z ∙ rw (e, le-ltb 4 v.laps l)

  pub ends : (n : ℕ) (p : TrackStep) (v : Walk) → (n ≡ 0 → ⊥) → step_of cs w ≡ Some (p, v) → 4 < v.laps → walk_from n cs w ≡ record { ok = true; steps = p ∷ [] }
  unfolding onward follow
  ends n p v z e l = onward-is n z ∙ rw (e, lt-ltb 4 v.laps l)

pub over : (cs : List Checkpoint) (w : Walk) (n : ℕ) → n ≡ 0 → walk_from n cs w ≡ record { ok = true; steps = [] }
unfolding walk_from
over cs w n z = rw z

-- ---- the checkpoint that a step makes for is one of the list's, so below 12
abbrev pub In-step : ℕ → Option (TrackStep × Walk) → Type 0
In-step m o = IfSome o (λ (s : TrackStep × Walk). s.1.dest < m)

pick-in : (m : ℕ) (b : Bool) (r s : Option (TrackStep × Walk)) → In-step m r → In-step m s → In-step m (cond b r s)
pick-in m true r s h k = h
pick-in m false r s h k = k

module _ (m : ℕ) (w : Walk) (s : Sight) where
  landed-in : (h : SinCos) (d : Destination) (prev beta : Float) → d.place < m → In-step m (landed_of w s h d prev beta)
  unfolding landed_of
  landed-in h d prev beta l = pick-in m (within (natural 16) beta) (Some _) None l tt

  then-landed-in : (d : Destination) (t : Option (Float × ℕ)) → d.place < m → In-step m (then_landed w s d t)
  unfolding then_landed
  then-landed-in d None l = tt
  then-landed-in d (Some t) l = landed-in _ d t.0 _ l

  then-moved-in : (t : Option Destination) → In m t → In-step m (then_moved w s t)
  unfolding then_moved
  then-moved-in None l = tt
  then-moved-in (Some d) l = then-landed-in d (turn_of w.beta d.alpha) l

pub step_in : (cs : List Checkpoint) (w : Walk) → In-step (length cs) (step_of cs w)
unfolding step_of
step_in cs w = then-moved-in (length cs) w (sight_of w) (dest_of cs w.dest (sight_of w).alpha) (dest-in cs w.dest (sight_of w).alpha)

pub near_next : (cs : List Checkpoint) (w : Walk) (p : TrackStep) (v : Walk) → length cs ≡ 12 → step_of cs w ≡ Some (p, v) → v.dest < 12
near_next cs w p v l e = subst (λ (m : ℕ). v.dest < m) l (subst (In-step (length cs)) e (step_in cs w))

-- ---- the loop: k of at most m steps are done, and the columns have room for m
pub record Walking (m : ℕ) (cs : List Checkpoint) (c₀ c : Columns) (w : Walk) (k : ℕ) : Type 0 where
  pub done : List TrackStep
  pub held : Held done c c₀ k
  pub rest : walk_from m cs walk_start ≡ follow done (walk_from (m - k) cs w)
  pub slow : w.laps ≤ 4
  pub few : k ≤ m
  pub room : Room m c₀

module _ (m : ℕ) (cs : List Checkpoint) (c₀ : Columns) where
  pub begun : (w : Walk) → w ≡ walk_start → Room m c₀ → Walking m cs c₀ c₀ w 0
  unfolding walk_start
  begun w e r =
      let all : m ≡ m - 0 = omega arith in
      record {
        done = [];
        held = record { alpha = grown-none c₀.alpha; beta = grown-none c₀.beta; x = grown-none c₀.x; y = grown-none c₀.y };
        rest = ap (λ (v : Walk). walk_from m cs v) (sym e) ∙ ap (λ (n : ℕ). walk_from n cs w) all ∙ sym (puts_none (walk_from (m - 0) cs w));
        slow = rw e (omega arith);
        few = omega arith;
        room = r;
      }

  module _ (c : Columns) (w : Walk) (k : ℕ) (s : Walking m cs c₀ c w k) where
    full : m ≤ k → walk_from m cs walk_start ≡ record { ok = true; steps = s.done }
    unfolding follow
    full h =
        let z : m - k ≡ 0 = omega arith in
        s.rest ∙ ap (follow s.done) (over cs w (m - k) z) ∙ ap (λ (l : List TrackStep). record { ok = true; steps = l }) (append-nil s.done)

    stopped : k < m → step_of cs w ≡ None → walk_from m cs walk_start ≡ record { ok = false; steps = s.done }
    unfolding follow
    stopped h e =
        let z : m - k ≡ 0 → ⊥ = λ q. omega (arith, q) in
        s.rest ∙ ap (follow s.done) (refused cs w (m - k) z e) ∙ ap (λ (l : List TrackStep). record { ok = false; steps = l }) (append-nil s.done)

    module _ (p : TrackStep) (v : Walk) (h : k < m) (e : step_of cs w ≡ Some (p, v)) where
      next-held : Held (s.done ++ (p ∷ [])) (stored c k p) c₀ (k + 1)
      next-held = held_more s.done p h s.room s.held

      ended : 4 < v.laps → walk_from m cs walk_start ≡ record { ok = true; steps = s.done ++ (p ∷ []) }
      unfolding follow
      ended l =
          let z : m - k ≡ 0 → ⊥ = λ q. omega (arith, q) in
          s.rest ∙ ap (follow s.done) (ends cs w (m - k) p v z e l)

      pub walked_on : v.laps ≤ 4 → Walking m cs c₀ (stored c k p) v (k + 1)
      walked_on l =
          let z : m - k ≡ 0 → ⊥ = λ q. omega (arith, q) in
          let n : m - k - 1 ≡ m - (k + 1) = omega arith in
          record {
            done = s.done ++ (p ∷ []);
            held = next-held;
            rest = s.rest ∙ ap (follow s.done) (goes_on cs w (m - k) p v z e l) ∙ puts-more s.done p (walk_from (m - k - 1) cs v)
                ∙ ap (λ (j : ℕ). follow (s.done ++ (p ∷ [])) (walk_from j cs v)) n;
            slow = l;
            few = omega arith;
            room = s.room;
          }

-- ---- the walk of a course has at most step_limit steps
trod : (cs : List Checkpoint) (c₀ c : Columns) (k : ℕ) (ok : Bool) (ps : List TrackStep) → k ≤ step_limit → Held ps c c₀ k
    → walk_from step_limit cs walk_start ≡ record { ok = ok; steps = ps } → Trod cs c₀ c (cond ok (Some k) None)
unfolding walk_of
trod cs c₀ c k ok ps l h e =
    let q : ps ≡ (walk_of cs).steps = sym (ap (λ (r : Trail). r.steps) e) in
    let n : k ≡ length (walk_of cs).steps = sym h.alpha.long ∙ length-map ps _ ∙ ap length q in
    record {
      result = ap (λ (i : ℕ). cond ok (Some i) None) n ∙ ap (λ (z : Bool). cond z (Some (length (walk_of cs).steps)) None) (sym (ap (λ (r : Trail). r.ok) e));
      few = rw (← n) l;
      alpha = h.alpha.is ∙ ap₂ (λ (z : List TrackStep) (i : ℕ). step_alphas z ++ drop i c₀.alpha) q n;
      beta = h.beta.is ∙ ap₂ (λ (z : List TrackStep) (i : ℕ). step_betas z ++ drop i c₀.beta) q n;
      x = h.x.is ∙ ap₂ (λ (z : List TrackStep) (i : ℕ). step_xs z ++ drop i c₀.x) q n;
      y = h.y.is ∙ ap₂ (λ (z : List TrackStep) (i : ℕ). step_ys z ++ drop i c₀.y) q n;
    }

module _ {cs : List Checkpoint} {c₀ c : Columns} {w : Walk} {k : ℕ} (s : Walking step_limit cs c₀ c w k) where
  pub walked-full : step_limit ≤ k → Trod cs c₀ c (Some step_limit)
  walked-full h =
      let e : k ≡ step_limit = omega (arith, s.few) in
      subst (λ (i : ℕ). Trod cs c₀ c (Some i)) e (trod cs c₀ c k true s.done s.few s.held (full step_limit cs c₀ c w k s h))

  pub walked-refused : k < step_limit → step_of cs w ≡ None → Trod cs c₀ c None
  walked-refused h e = trod cs c₀ c k false s.done s.few s.held (stopped step_limit cs c₀ c w k s h e)

  pub walked_end : {p : TrackStep} {v : Walk} → k < step_limit → step_of cs w ≡ Some (p, v) → 4 < v.laps → Trod cs c₀ (stored c k p) (Some (k + 1))
  walked_end {p} {v} h e l =
      trod cs c₀ _ (k + 1) true (s.done ++ (p ∷ [])) (omega arith) (next-held step_limit cs c₀ c w k s p v h e)
      (ended step_limit cs c₀ c w k s p v h e l)
