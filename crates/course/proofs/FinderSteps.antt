-- The search for the next checkpoint, a step of the code at a time. Assumes nothing.
use Rattle.std.proofs.Common.{◌≡◌, ℕ, zero, suc, ◌+◌, ◌-◌, ◌<◌, ◌≤◌, Bool, true, false, cond, List, [], ◌∷◌, length, get_or, drop, Option, Some, None, IfSome, refl, sym, ap, add-one, arith, length-drop, drop-cons}
use lib.Ieee.{Float, le}
use Rattle.course.specs.Rules.Arithmetic.{◌⊖◌}
use Rattle.course.specs.declared.checkpoints.Checkpoint.{Checkpoint}
use Rattle.course.specs.Rules.Finder.{Destination, scan, or_again, dest_of}
use Rattle.course.specs.Rules.Constants.{tau}
use Rattle.course.proofs.Literals.{tau-bits}
use Rattle.course.proofs.Turns.{tau_b}

-- a pass from place i on, before whatever is searched again, goes on from the next place where alpha is above the angle there, and finds place i where it is not
pub scan-past : (l : List Checkpoint) (i : ℕ) (a : Float) (d : Checkpoint) (again : Option Destination) → i < length l → le a (get_or l i d).angle ≡ false
    → or_again (scan (drop i l) i a) again ≡ or_again (scan (drop (i + 1) l) (i + 1) a) again
unfolding scan
scan-past l i a d again h e = rw (add-one, drop-cons l i d, e)

pub scan-at : (l : List Checkpoint) (i : ℕ) (a : Float) (d : Checkpoint) (again : Option Destination) → i < length l → le a (get_or l i d).angle ≡ true
    → or_again (scan (drop i l) i a) again ≡ Some (record { place = i; alpha = a; checkpoint = get_or l i d })
unfolding scan or_again
scan-at l i a d again h e = rw (drop-cons l i d, e)

-- past the last place
drop_past : (l : List Checkpoint) (i : ℕ) → length l ≤ i → drop i l ≡ []
drop_past l i h = length-zero (drop i l) (omega (arith, length-drop i l))
  where
    length-zero : (k : List Checkpoint) → length k ≡ 0 → k ≡ []
    length-zero [] e = refl
    length-zero (y ∷ k) e = absurd (omega (arith, e))

scan-end : (l : List Checkpoint) (i : ℕ) (a : Float) → length l ≤ i → scan (drop i l) i a ≡ None
unfolding scan
scan-end l i a h = rw (drop_past l i h)

-- what n passes find, the first from place i on
unfoldable pub searched : ℕ → List Checkpoint → ℕ → Float → Option Destination
searched zero l i a = None
searched (suc n) l i a = or_again (scan (drop i l) i a) (searched n l 0 (a ⊖ tau))

-- two of them are the search
pub searched-two : (l : List Checkpoint) (i : ℕ) (a : Float) → dest_of l i a ≡ searched 2 l i a
unfolding dest_of searched or_again
searched-two l i a = ap (or_again (scan (drop i l) i a)) (sym (or-none (scan l 0 (a ⊖ tau))))
  where
    or-none : (o : Option Destination) → or_again o None ≡ o
    or-none None = refl
    or-none (Some d) = refl

-- a pass begins where p of the two are over
pub pass-begun : (p : ℕ) (l : List Checkpoint) (i : ℕ) (a : Float) → p < 2 → searched (2 - p) l i a ≡ or_again (scan (drop i l) i a) (searched (1 - p) l 0 (a ⊖ tau))
unfolding searched
pass-begun p l i a h = let e : 2 - p ≡ suc (1 - p) = omega arith in rw e

-- it ends past the last place, and the next begins at place 0; tau as the compiled code has it
pub pass-over : (p : ℕ) (l : List Checkpoint) (i : ℕ) (a : Float) → p < 2 → length l ≤ i
    → or_again (scan (drop i l) i a) (searched (1 - p) l 0 (a ⊖ tau)) ≡ searched (2 - (p + 1)) l 0 (a ⊖ tau_b)
unfolding or_again
pass-over p l i a h e = let k : 1 - p ≡ 2 - (p + 1) = omega arith in rw (scan-end l i a e, k, tau-bits)

-- no pass is left
pub passes-over : (p : ℕ) (l : List Checkpoint) (i : ℕ) (a : Float) → 2 ≤ p → searched (2 - p) l i a ≡ None
unfolding searched
passes-over p l i a h = let e : 2 - p ≡ 0 = omega arith in rw e

-- a place that is found is a place of the list
abbrev pub In : ℕ → Option Destination → Type 0
In m o = IfSome o (λ (d : Destination). d.place < m)

pick-in : (m : ℕ) (b : Bool) (r s : Option Destination) → In m r → In m s → In m (cond b r s)
pick-in m true r s h k = h
pick-in m false r s h k = k

or-in : (m : ℕ) (r s : Option Destination) → In m r → In m s → In m (or_again r s)
unfolding or_again
or-in m None s h k = k
or-in m (Some d) s h k = h

scan-in : (m : ℕ) (l : List Checkpoint) (i : ℕ) (a : Float) → (0 < length l → i + length l ≡ m) → In m (scan l i a)
unfolding scan
scan-in m [] i a e = tt
scan-in m (y ∷ l) i a e =
    let k : i + length (y ∷ l) ≡ m = e (omega arith) in
    pick-in m (le a y.angle) (Some (record { place = i; alpha = a; checkpoint = y })) (scan l (suc i) a) (omega arith) (scan-in m l (suc i) a (λ _. omega arith))

pub dest-in : (l : List Checkpoint) (n : ℕ) (x : Float) → In (length l) (dest_of l n x)
unfolding dest_of
dest-in l n x =
    or-in (length l) (scan (drop n l) n x) (scan l 0 (x ⊖ tau)) (scan-in (length l) (drop n l) n x (λ h. omega (arith, length-drop n l)))
    (scan-in (length l) l 0 (x ⊖ tau) (λ _. omega arith))
