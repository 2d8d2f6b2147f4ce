-- A contact on sets of words that hold the tiles touched before, and those of each wheel at the contact before, leaves sets that hold them after it.
-- For any number of words. Assumes nothing.
use mathlib.Core.Bool.{Bool, false, not, ◌&&◌, ◌||◌}
use mathlib.Core.List.{List, ◌++◌}
use mathlib.Core.Path.{◌≡◌, refl, sym, ap, ap₂, ◌∙◌}
use Prim.Native.Nat.{ℕ, zero, suc, ◌*◌, ◌≤◌, ◌<◌}
use native.Mathlib.Omega.{arith}
use Rattle.run.specs.Rules.Below.{any_below, how_many}
use Rattle.run.specs.Grader.Words.{member, set_of}
use Rattle.run.specs.Grader.Contact.{wheel_part, enters, entered, wheel_sets, contacted, contact_of}
use Rattle.run.specs.Grader.Grip.{on_road}
use Rattle.run.proofs.WordLaws.{member-set_of, set_of-cong, how_many-cong}
use Rattle.run.proofs.ContactLaws.{part_of}
use Rattle.run.proofs.AnyLaws.{any_none}
use Rattle.run.proofs.BelowLaws.{any-cong, below, below_in, below_out, by_side, any-within, how_many-within, any-entered}
use Rattle.course.proofs.BoolLaws.{and-else, or_else}

pub sets-cong : (m : ℕ) (P Q : ℕ → ℕ → Bool) (k : ℕ) → ((w t : ℕ) → w < k → P w t ≡ Q w t) → wheel_sets m P k ≡ wheel_sets m Q k
unfolding wheel_sets
sets-cong m P Q zero h = refl
sets-cong m P Q (suc k) h = ap₂ ◌++◌ (sets-cong m P Q k (λ w t l. h w t (omega arith))) (set_of-cong m (P k) (Q k) (λ t _. h k t (omega arith)))

-- ---- sets of m words that hold tiles below n
module _ (m n : ℕ) (fits : n ≤ 64 * m) where
  -- the tiles T, and for each wheel w the tiles W w
  abbrev pub credited_by : (ℕ → Bool) → List ℕ
  credited_by T = set_of m (below n T)

  abbrev pub wheels_by : (ℕ → ℕ → Bool) → List ℕ
  wheels_by W = wheel_sets m (λ w. below n (W w)) 4

  in-part : (W : ℕ → ℕ → Bool) (w t : ℕ) → w < 4 → t < 64 * m → member (wheel_part m (wheels_by W) w) t ≡ below n (W w) t
  in-part W w t h l = ap (λ (x : List ℕ). member x t) (part_of m (λ v. below n (W v)) 4 w h) ∙ member-set_of m t (below n (W w)) l

  -- a wheel has grip where it touches a tile
  pub on-road : (W : ℕ → ℕ → Bool) (w : ℕ) → w < 4 → on_road m (wheels_by W) w ≡ any_below n (W w)
  unfolding on_road
  on-road W w h =
      any-cong (64 * m) (member (wheel_part m (wheels_by W) w)) (below n (W w)) (λ t l. in-part W w t h l)
      ∙ any-within (64 * m) n (below n (W w)) fits (λ t l. below_out n (W w) t l)
      ∙ any-cong n (below n (W w)) (W w) (λ t l. below_in n (W w) t l)

  -- T: touched before; W: by each wheel at the contact before; P: what the code finds now, which is H held to the tiles
  module _ (T : ℕ → Bool) (W P H : ℕ → ℕ → Bool) (some : 0 < n)
      (sub : (t : ℕ) → T t ≡ false → any_below 4 (λ w. W w t) ≡ false)
      (agrees : (w t : ℕ) → P w t ≡ below n (H w) t) where
    abbrev now : ℕ → Bool
    now t = any_below 4 (λ w. H w t)

    abbrev E : ℕ → Bool
    E t = entered m (wheels_by W) P t

    entered-in : (t : ℕ) → t < n → E t ≡ any_below 4 (λ w. H w t && not (W w t))
    unfolding entered enters
    entered-in t l =
        any-cong 4 (λ w. enters m (wheels_by W) P w t) (λ w. H w t && not (W w t))
        (λ w h. ap₂ (λ (a b : Bool). a && not b) (agrees w t ∙ below_in n (H w) t l) (in-part W w t h (omega arith) ∙ below_in n (W w) t l))

    entered-out : (t : ℕ) → n ≤ t → E t ≡ false
    unfolding entered enters
    entered-out t l = any_none 4 (λ w. enters m (wheels_by W) P w t) (λ w h. ap (λ (a : Bool). a && not (member (wheel_part m (wheels_by W) w) t)) (agrees w t ∙ below_out n (H w) t l))

    in-credited : (t : ℕ) → t < 64 * m → member (credited_by T) t ≡ below n T t
    in-credited t l = member-set_of m t (below n T) l

    -- what is entered and was not touched before is what is touched now and was not before
    first-in : (t : ℕ) → T t ≡ false → any_below 4 (λ w. H w t && not (W w t)) ≡ now t
    first-in t e = any-entered 4 (λ w. W w t) (λ w. H w t) (sub t e)

    credit-at : (t : ℕ) → t < 64 * m → (member (credited_by T) t || E t) ≡ below n (λ u. T u || now u) t
    credit-at t b =
        ap (λ (a : Bool). a || E t) (in-credited t b)
        ∙ by_side (λ u. (below n T u || E u) ≡ below n (λ v. T v || now v) u) n t
        (λ l. ap₂ ◌||◌ (below_in n T t l) (entered-in t l) ∙ or_else (T t) _ _ (first-in t) ∙ sym (below_in n (λ u. T u || now u) t l))
        (λ l. ap₂ ◌||◌ (below_out n T t l) (entered-out t l) ∙ sym (below_out n (λ u. T u || now u) t l))

    fresh_at : (t : ℕ) → t < n → (E t && not (member (credited_by T) t)) ≡ (now t && not (T t))
    fresh_at t l =
        ap₂ (λ (a b : Bool). a && not b) (entered-in t l) (in-credited t (omega arith) ∙ below_in n T t l)
        ∙ and-else (T t) _ _ (first-in t)

    fresh-is : how_many (64 * m) (λ t. E t && not (member (credited_by T) t)) ≡ how_many n (λ t. now t && not (T t))
    fresh-is =
        how_many-within (64 * m) n (λ t. E t && not (member (credited_by T) t)) fits (λ t l. ap (λ (a : Bool). a && not (member (credited_by T) t)) (entered-out t l))
        ∙ how_many-cong n (λ t. E t && not (member (credited_by T) t)) (λ t. now t && not (T t)) fresh_at

    pub contact-is : contact_of m (credited_by T) (wheels_by W) P
        ≡ contacted (credited_by (λ t. T t || now t)) (wheels_by H) (how_many n (λ t. now t && not (T t))) (any_below 4 (λ w. H w 0 && not (W w 0)))
    unfolding contact_of
    contact-is = λ i.
        contacted (set_of-cong m (λ t. member (credited_by T) t || E t) (below n (λ t. T t || now t)) credit-at i)
        (sets-cong m P (λ w. below n (H w)) 4 (λ w t _. agrees w t) i) (fresh-is i) (entered-in 0 some i)
