-- Document 01, "Start", "Touch", "Settle": one contact (the Rust's `contact_pass`), for states whose sets have m words. Wheel w touches tile t
-- where P w t. A tile is credited when it is in a wheel's set now, was not in that wheel's last set, and is not credited. Assumes nothing.
use Rattle.std.specs.Prelude.{Bool, not, ◌&&◌, ◌||◌, List, [], ◌++◌, ℕ, zero, suc, ◌*◌, take, drop}
use Rattle.run.specs.Rules.Below.{any_below, how_many}
use Rattle.run.specs.Grader.Words.{member, set_of}

-- the words of wheel w among those of the four wheels
unfoldable pub wheel_part : ℕ → List ℕ → ℕ → List ℕ
wheel_part m ws w = take m (drop (w * m) ws)

-- wheel w enters tile t: it touches t now, and did not at the contact before
unfoldable pub enters : ℕ → List ℕ → (ℕ → ℕ → Bool) → ℕ → ℕ → Bool
enters m ws P w t = P w t && not (member (wheel_part m ws w) t)

-- some wheel enters tile t
unfoldable pub entered : ℕ → List ℕ → (ℕ → ℕ → Bool) → ℕ → Bool
entered m ws P t = any_below 4 (λ w. enters m ws P w t)

-- the sets of the first k wheels, one after the other
unfoldable pub wheel_sets : ℕ → (ℕ → ℕ → Bool) → ℕ → List ℕ
wheel_sets m P zero = []
wheel_sets m P (suc k) = wheel_sets m P k ++ set_of m (P k)

pub record Contacted : Type 0 where
  pub credited : List ℕ
  pub wheels : List ℕ
  -- new tiles
  pub fresh : ℕ
  -- some wheel touches tile 0 that did not at the contact before
  pub zero : Bool

abbrev pub contacted : List ℕ → List ℕ → ℕ → Bool → Contacted
contacted c ws fresh first = record { credited = c; wheels = ws; fresh = fresh; zero = first }

unfoldable pub contact_of : ℕ → List ℕ → List ℕ → (ℕ → ℕ → Bool) → Contacted
contact_of m credited ws P =
    contacted (set_of m (λ t. member credited t || entered m ws P t)) (wheel_sets m P 4)
    (how_many (64 * m) (λ t. entered m ws P t && not (member credited t))) (entered m ws P 0)
