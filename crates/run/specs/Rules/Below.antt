-- Tests over the numbers below a bound, and over the members of a list: some, every, and how many. Assumes nothing.
use Rattle.std.specs.Prelude.{Bool, true, false, ◌&&◌, ◌||◌, List, [], ◌∷◌, ℕ, zero, suc}
-- how many numbers below n have p: of the crate below, passed on by name
pub use Rattle.course.specs.Rules.Counting.{how_many}

-- some number below n passes
unfoldable pub any_below : ℕ → (ℕ → Bool) → Bool
any_below zero p = false
any_below (suc n) p = any_below n p || p n

-- every number below n passes
unfoldable pub every_below : ℕ → (ℕ → Bool) → Bool
every_below zero p = true
every_below (suc n) p = every_below n p && p n

-- some member of the list passes
unfoldable pub some_of : (ℕ → Bool) → List ℕ → Bool
some_of p [] = false
some_of p (x ∷ xs) = p x || some_of p xs

-- every member of the list passes
unfoldable pub every_of : (ℕ → Bool) → List ℕ → Bool
every_of p [] = true
every_of p (x ∷ xs) = p x && every_of p xs
