-- `course::root::root_bits` meets its contract: m * 2 ^ h is X * 4 ^ K, with X of 105 or 106 digits, by h's parity; the whole root of 4 * X, halved, is rounded. Assumes nothing.
use Rattle.std.proofs.Common.{◌≡◌, ℕ, ◌+◌, ◌-◌, ◌*◌, ◌/◌, ◌%◌, ◌≤◌, arith}
use Rattle.course.specs.Steps.Root.{significand, power}
use Rattle.course.proofs.RootScale.{reaches, shifted, rounded, bits_at}
use Rattle.course.proofs.root.root_bits.Goals as goal

-- the parity of the power, and half of the rest
abbrev odd : ℕ → ℕ
odd b = (b + 4503599627370496) % 9007199254740992 / 4503599627370496

abbrev half : ℕ → ℕ → ℕ
half b k = (b / 4503599627370496 + 1021) / 2 - k

halved : (b k : ℕ) → 2 * k ≤ 51 + b / 4503599627370496 → odd b + 52 + (half b k + half b k) ≡ power b k
halved b k h = omega arith

pub whole_root-w-requires : goal.whole_root-w-requires
whole_root-w-requires c =
    let b = c.args.b in
    (reaches (significand b) (odd b) (omega arith) (omega arith) (omega arith), shifted (significand b) (odd b) (omega arith) (omega arith), omega arith)

pub returns : goal.returns
returns c =
    let b = c.args.b in
    let k = c.args.k in
    bits_at (significand b) (odd b) (half b k) (power b k) _ (omega arith) (omega arith) (omega arith) (halved b k (omega arith)) (omega arith)
    (rounded (significand b) (odd b) c.whole_root-w.result _ (omega arith) (omega arith) (omega arith) c.whole_root-w.ensures (omega arith) (omega arith))
