-- How many numbers pass a test. Assumes nothing.
use Rattle.std.specs.Prelude.{ℕ, zero, suc, ◌+◌, Bool, cond}

-- 1 where a test holds, else 0
abbrev pub digit : Bool → ℕ
digit b = cond b 1 0

-- how many numbers below n have p
unfoldable pub how_many : ℕ → (ℕ → Bool) → ℕ
how_many zero p = 0
how_many (suc n) p = how_many n p + digit (p n)
