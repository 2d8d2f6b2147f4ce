-- The part of a walk that is its track. Assumes nothing.
use Rattle.std.proofs.Common.{◌≡◌, ℕ, zero, suc, ◌+◌, ◌-◌, ◌<◌, ◌≤◌, Bool, true, false, cond, List, [], ◌∷◌, ◌++◌, map, length, get_or, take, drop, Option, Some, None, IfSome, sym, refl, ap, ◌∙◌, add-zero, arith, length-drop, length-take-le, get_or-drop, get_or-take}
use Rattle.std.specs.List.{find}
use Rattle.std.specs.Option.{option_map}
use Rattle.std.specs.Iterator.{AlwaysYields}
use Rattle.std.proofs.lemmas.Iterator.{YieldsList}
use Rattle.std.specs.declared.ops.Range.{Range}
use Rattle.std.proofs.iter.runs.Sources.{nat_range_steps_back}
use lib.ListN.{length-map, get_or-append}
use lib.Ieee.{Float, nan}
use Rattle.course.specs.Rules.Track.{passes_at, last_pass, step_alphas, glued_of, well_glued, between_passes, if_glued, from_earlier, to_later, track_of}
use Rattle.course.specs.Steps.Lay.{Columns, Before, Front, Whole, Cut}
use Rattle.course.specs.Rules.Step.{TrackStep}

cond_same : {A : Type 0} (b : Bool) (x : A) → cond b x x ≡ x
cond_same true x = refl
cond_same false x = refl

pub map-take : {A B : Type 0} (f : A → B) (n : ℕ) (l : List A) → map f (take n l) ≡ take n (map f l)
map-take f zero l = refl
map-take f (suc n) [] = refl
map-take f (suc n) (x ∷ l) = ap (λ (z : List _). f x ∷ z) (map-take f n l)

pub map-drop : {A B : Type 0} (f : A → B) (n : ℕ) (l : List A) → map f (drop n l) ≡ drop n (map f l)
map-drop f zero l = refl
map-drop f (suc n) [] = refl
map-drop f (suc n) (x ∷ l) = map-drop f n l

-- ---- the last pass: the numbers are tried from n down to 1
abbrev pub countdown : ℕ → List ℕ
countdown zero = []
countdown (suc n) = suc n ∷ countdown n

counted-down : (n : ℕ) (s : Range ℕ) → s.start ≡ 1 → s.end ≡ n + 1 → AlwaysYields nat_range_steps_back (λ x. x) s (countdown n)
counted-down zero s e f = λ x j p. omega (arith, p.1.0)
counted-down (suc n) s e f = (
  (λ j p. omega (arith, p.1.0)),
  λ x j p. (omega (arith, p.1.1, p.1.2), counted-down n j (p.0 ∙ e) (omega (arith, p.1.2))),
)

pub yields-down : {s : Range ℕ} (n : ℕ) → s ≡ record { start = 1; end = n + 1 } → YieldsList nat_range_steps_back (λ x. x) s (countdown n)
yields-down {s} n e = record { runs = counted-down n s (ap (λ (r : Range ℕ). r.start) e) (ap (λ (r : Range ℕ). r.end) e) }

pub found-down : (l : List Float) (n : ℕ) → find (passes_at l) (countdown n) ≡ last_pass l n
unfolding last_pass
found-down l zero = refl
found-down l (suc n) = ap (cond (passes_at l (suc n)) (Some (suc n))) (found-down l n)

pub same-option : {A : Type 0} (o : Option A) → option_map (λ x. x) o ≡ o
same-option None = refl
same-option (Some x) = refl

-- ---- passes look at the front alone
pass_same : (l r : List Float) (i : ℕ) → i < length l → passes_at (l ++ r) i ≡ passes_at l i
unfolding passes_at
pass_same l r i h =
    let k : i - 1 < length l = omega arith in
    rw (get_or-append l r nan i h, get_or-append l r nan (i - 1) k)

pub pass-front : (l r : List Float) (n : ℕ) → n < length l → last_pass (l ++ r) n ≡ last_pass l n
unfolding last_pass
pass-front l r zero h = refl
pass-front l r (suc n) h = rw (pass_same l r (suc n) h, pass-front l r n (omega arith))

pub pass_le : (l : List Float) (n : ℕ) → IfSome (last_pass l n) (λ i. (0 < i) × (i ≤ n))
unfolding last_pass
pass_le l zero = tt
pass_le l (suc n) = by_cases (passes_at l (suc n)) (last_pass l n) (pass_le l n)
  where
    by_cases : (b : Bool) (o : Option ℕ) → IfSome o (λ i. (0 < i) × (i ≤ n)) → IfSome (cond b (Some (suc n)) o) (λ i. (0 < i) × (i ≤ suc n))
    by_cases true o h = (omega arith, omega arith)
    by_cases false None h = tt
    by_cases false (Some i) h = (h.0, omega arith)

-- ---- the columns say the same as the points
at_front : (f : TrackStep → Float) (ps : List TrackStep) (c : List Float) (i : ℕ) → i < length ps → Before (map f ps) c → get_or c i nan ≡ get_or (map f ps) i nan
at_front f ps c i h b =
    let k : i < length (map f ps) = rw (length-map ps f) h in
    ap (λ (z : List Float). get_or z i nan) b.is ∙ get_or-append (map f ps) b.rest nan i k

at_part : (f : TrackStep → Float) (ps : List TrackStep) (a n i : ℕ) → i < n → get_or (map f (take n (drop a ps))) i nan ≡ get_or (map f ps) (a + i) nan
at_part f ps a n i h =
    ap (λ (z : List Float). get_or z i nan) (map-take f n (drop a ps) ∙ ap (take n) (map-drop f a ps))
    ∙ get_or-take n (drop a (map f ps)) i nan h ∙ get_or-drop a (map f ps) i nan

same : (f : TrackStep → Float) (ps : List TrackStep) (c : List Float) (a n i e : ℕ) → i < n → e ≡ a + i → e < length ps → Before (map f ps) c
    → get_or c e nan ≡ get_or (map f (take n (drop a ps))) i nan
same f ps c a n i e h q l b = at_front f ps c e l b ∙ ap (λ (z : ℕ). get_or (map f ps) z nan) q ∙ sym (at_part f ps a n i h)

part_length : (ps : List TrackStep) (a n : ℕ) → a + n ≤ length ps → length (take n (drop a ps)) ≡ n
part_length ps a n h = length-take-le n (drop a ps) (rw (length-drop a ps) (omega arith))

positive : (m : ℕ) → (m ≡ 0 → ⊥) → 0 < m
positive zero h = absurd (h refl)
positive (suc m) h = omega arith

module _ {ps : List TrackStep} {c : Columns} (f : Front ps c) where
  front-pass : (n : ℕ) → n < length ps → last_pass c.alpha n ≡ last_pass (step_alphas ps) n
  front-pass n h =
      let k : n < length (step_alphas ps) = rw (length-map ps _) h in
      ap (λ (z : List Float). last_pass z n) f.alpha.is ∙ pass-front (step_alphas ps) f.alpha.rest n k

  glued-is : (r n : ℕ) → 0 < n → r + n ≤ length ps → (e : ℕ) → e ≡ r + (n - 1)
      → glued_of (get_or c.beta r nan) (get_or c.x r nan) (get_or c.y r nan) (get_or c.x e nan) (get_or c.y e nan) ≡ well_glued (take n (drop r ps))
  unfolding well_glued
  glued-is r n p h e q =
      let z : r ≡ r + 0 = sym (add-zero r) in
      let lr : r < length ps = omega arith in
      let le : e < length ps = omega arith in
      let ln : n - 1 < n = omega arith in
      rw (
        part_length ps r n h,
        ← same (λ (t : TrackStep). t.beta) ps c.beta r n 0 r p z lr f.beta,
        ← same (λ (t : TrackStep). t.x) ps c.x r n 0 r p z lr f.x,
        ← same (λ (t : TrackStep). t.y) ps c.y r n 0 r p z lr f.y,
        ← same (λ (t : TrackStep). t.x) ps c.x r n (n - 1) e ln q le f.x,
        ← same (λ (t : TrackStep). t.y) ps c.y r n (n - 1) e ln q le f.y,
      )

  -- ---- the passes that were found: the last one, or none
  module _ {n : ℕ} (p : 0 < n) (l : length ps ≡ n) where
    later-is : {o : Option ℕ} → o ≡ last_pass c.alpha (n - 1) → to_later ps o ≡ track_of ps
    unfolding track_of
    later-is {o} e = ap (to_later ps) (e ∙ front-pass (n - 1) (omega arith) ∙ ap (λ (m : ℕ). last_pass (step_alphas ps) (m - 1)) (sym l))

    pub cut-no-later : None ≡ last_pass c.alpha (n - 1) → Cut ps None
    unfolding to_later
    cut-no-later e = sym (later-is e)

    -- and the one before it
    module _ {i2 : ℕ} (e : Some i2 ≡ last_pass c.alpha (n - 1)) (h : i2 ≤ n - 1) where
      earlier-is : {o : Option ℕ} → o ≡ last_pass c.alpha (i2 - 1) → from_earlier ps i2 o ≡ track_of ps
      unfolding to_later
      earlier-is {o} q = ap (from_earlier ps i2) (q ∙ front-pass (i2 - 1) (omega arith)) ∙ later-is e

      pub cut-no-earlier : None ≡ last_pass c.alpha (i2 - 1) → Cut ps None
      unfolding from_earlier
      cut-no-earlier q = sym (earlier-is q)

      module _ {i1 : ℕ} (q : Some i1 ≡ last_pass c.alpha (i2 - 1)) where
        glued-part : if_glued (between_passes ps i1 i2) ≡ track_of ps
        unfolding from_earlier
        glued-part = earlier-is q

        pub cut-empty : i2 - 1 - i1 ≡ 0 → Cut ps None
        unfolding if_glued between_passes
        cut-empty z = sym glued-part ∙ rw (z, cond_same {A = List TrackStep} (well_glued []) [])

        module _ (z : i2 - 1 - i1 ≡ 0 → ⊥) where
          more : 0 < i2 - 1 - i1
          more = positive (i2 - 1 - i1) z

          here : glued_of (get_or c.beta i1 nan) (get_or c.x i1 nan) (get_or c.y i1 nan) (get_or c.x (i2 - 2) nan) (get_or c.y (i2 - 2) nan) ≡ well_glued (between_passes ps i1 i2)
          unfolding between_passes
          here =
              let m = more in
              glued-is i1 (i2 - 1 - i1) m (omega arith) (i2 - 2) (omega arith)

          pub cut_apart : glued_of (get_or c.beta i1 nan) (get_or c.x i1 nan) (get_or c.y i1 nan) (get_or c.x (i2 - 2) nan) (get_or c.y (i2 - 2) nan) ≡ false → Cut ps None
          unfolding if_glued
          cut_apart g = sym glued-part ∙ rw (sym here ∙ g)

          pub cut-good : glued_of (get_or c.beta i1 nan) (get_or c.x i1 nan) (get_or c.y i1 nan) (get_or c.x (i2 - 2) nan) (get_or c.y (i2 - 2) nan) ≡ true → Whole ps (record { from = i1; n = i2 - 1 - i1 })
          unfolding if_glued between_passes
          cut-good g =
              let m = more in
              let k : take (i2 - 1 - i1) (drop i1 ps) ≡ track_of ps = rw (sym here ∙ g) at glued-part in
              record { some = m; size = sym (part_length ps i1 (i2 - 1 - i1) (omega arith)) ∙ ap length k; part = k }
