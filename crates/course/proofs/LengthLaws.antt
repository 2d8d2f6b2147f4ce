-- The lengths of lent columns beside the most points: all that proofs know of them. Assumes nothing.
use Rattle.std.proofs.Common.{◌≡◌, ℕ, ◌≤◌, sym, refl, subst, arith}
use Rattle.course.specs.Rules.Lengths.{most_points, laid_length, column_length}

-- a course's points fit into the columns lent with it
pub points-fit : (n : ℕ) → n ≤ most_points → n ≤ column_length n
points-fit n h = omega arith

-- no column is longer than the most points
pub column-few : (n : ℕ) → column_length n ≤ most_points
column-few n = omega arith

pub laid-few : laid_length ≤ most_points
laid-few = omega arith

-- up to the length of lay's columns, a course's columns are as long as those
pub column-laid : (n : ℕ) → n ≤ laid_length → column_length n ≡ laid_length
column-laid n h = refl

-- the same of a length that is worked out
pub column_fits : (n m : ℕ) → m ≡ column_length n → n ≤ most_points → n ≤ m
column_fits n m e h = subst (λ (z : ℕ). n ≤ z) (sym e) (points-fit n h)

pub column-small : (n m : ℕ) → m ≡ column_length n → m ≤ most_points
column-small n m e = subst (λ (z : ℕ). z ≤ most_points) (sym e) (column-few n)
