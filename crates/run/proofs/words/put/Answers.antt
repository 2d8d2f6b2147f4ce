-- `run::words::put` meets its contract. Assumes nothing.
use Rattle.run.proofs.WordLaws.{shl_one, with_bit-set_of}
use lib.Bits.{bit_or}
use lib.ListN.{length, get_or, set}
use Prim.Native.Nat.{ℕ, ◌/◌, ◌%◌}
use mathlib.Core.Path.{refl, ap, ◌∙◌}
use native.Mathlib.Omega.{arith}
use borrow.Author.Rules.{rules}
use Rattle.run.proofs.words.put.Goals as goal

pub returns : goal.returns
returns c =
    let a = c.args in
    let ws = a.set.now in
    ap (λ (v : ℕ). set ws (a.id / 64) (bit_or (get_or ws (a.id / 64) 0) v)) (shl_one (a.id % 64) (omega arith))
    ∙ with_bit-set_of (length ws) ws a.id refl (λ i. search rules) c.requires
