-- `form::number::number_at` meets its contract. Assumes nothing.
use Rattle.form.proofs.ByteLaws.{power-grows}
use lib.ListN.{length-take, length, take, drop}
use Rattle.form.specs.Rules.Bytes.{number}
use Rattle.form.proofs.Filling.{part-taken}
use Prim.Native.Nat.{◌^◌, ◌≤◌, min}
use mathlib.Core.Path.{ap, ◌∙◌}
use mathlib.Core.List.{List}
use native.Mathlib.Omega.{arith}
use Rattle.form.proofs.number.number_at.Goals as goal

pub returns : goal.returns
returns c =
    let s = c.args in
    let e = part-taken s.at (min s.k 8) c.min.result c.min-2.result c.min-n.result s.bytes.now c.min.ensures c.min-2.ensures c.min-n.ensures in
    let d : length (take (min s.k 8) (drop s.at s.bytes.now)) ≤ min s.k 8 = omega (arith, length-take (min s.k 8) (drop s.at s.bytes.now)) in
    (c.number_of.ensures.0 ∙ ap number e, omega (arith, c.number_of.ensures.1, ap (λ (l : List _). 256 ^ length l) e, power-grows _ _ d))
