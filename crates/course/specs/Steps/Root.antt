-- The fields of an f64's bits as a number, that number as 53 digits and a power of two, a root with what it leaves, and the nearest whole number. Only private functions of `root` and laws cite these. Assumes nothing.
use Rattle.std.specs.Prelude.{◌≡◌, ℕ, zero, suc, ◌+◌, ◌-◌, ◌*◌, ◌/◌, ◌%◌, ◌^◌, ◌<◌, ◌≤◌}
use Prim.Native.Nat.{compare}
use Rattle.std.specs.Float.Ieee.{nearest}
use Rattle.course.specs.Rules.Root.{whole_root}

-- the number of 2 ^ -1074 that the exponent's field and the digits below the leading one stand for
abbrev pub units_of : ℕ → ℕ → ℕ
units_of zero t = t
units_of (suc x) t = (4503599627370496 + t) * 2 ^ x

-- the 53 digits of a normal number with the bits b, and the power of two that they are multiplied by in units of 2 ^ -2148, over 4 ^ k
abbrev pub significand : ℕ → ℕ
significand b = 4503599627370496 + b % 4503599627370496

abbrev pub power : ℕ → ℕ → ℕ
power b k = 1073 + b / 4503599627370496 - 2 * k

-- b are the bits of a normal number, that is n times 2 ^ -1074 and times 4 ^ k
pub record Scaled (n b k : ℕ) : Type 0 where
  pub same : significand b * 2 ^ power b k ≡ n * 2 ^ 1074
  pub normal : 4503599627370496 ≤ b
  pub finite : b < 9218868437227405312
  pub few : k ≤ 27
  pub room : 2 * k ≤ 51 + b / 4503599627370496

-- w is the whole part of the root of n
pub record IsRoot (n w : ℕ) : Type 0 where
  pub not-above : w * w ≤ n
  pub next-above : n < (w + 1) * (w + 1)

-- The whole number nearest to the root of n, which lies between r and r + 1. Halfway is (2 * r + 1) / 2: four times its square stands beside four times n.
-- `nearest` takes r below it, r + 1 above it, and the even one at it.
unfoldable pub near_whole : ℕ → ℕ
unfolding whole_root
near_whole n = let r = whole_root n in nearest r (compare (4 * n) ((2 * r + 1) * (2 * r + 1)))
