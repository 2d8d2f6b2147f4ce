-- Document 01, "Touch" and "Contracts" 4: sets of numbers kept as lists of 64-bit words. Number t is bit t % 64 of word t / 64. Stated for any
-- number of words. Assumes nothing.
use Rattle.std.specs.Prelude.{Bool, List, [], ◌∷◌, ℕ, zero, suc, ◌+◌, ◌*◌, ◌/◌, ◌%◌, ◌^◌, get_or, eqb}
use Rattle.course.specs.Rules.Counting.{digit}

-- bit k of the word w
unfoldable pub bit_of : ℕ → ℕ → Bool
bit_of w k = eqb (w / 2 ^ k % 2) 1

-- t is in the set that the words hold
unfoldable pub member : List ℕ → ℕ → Bool
unfolding bit_of
member ws t = bit_of (get_or ws (t / 64) 0) (t % 64)

-- the number of k binary digits whose digit i is set where p i holds
unfoldable pub word_of : ℕ → (ℕ → Bool) → ℕ
word_of zero p = 0
word_of (suc k) p = word_of k (λ i. p (suc i)) * 2 + digit (p 0)

-- the m words that hold the set of all t below 64 * m with p t
unfoldable pub set_of : ℕ → (ℕ → Bool) → List ℕ
unfolding word_of
set_of zero p = []
set_of (suc m) p = word_of 64 p ∷ set_of m (λ t. p (64 + t))
