-- `run::numbers::write_four` meets its contract. Assumes nothing.
use Rattle.run.proofs.NumberLaws.{one-written}
use Rattle.std.proofs.Common.{rules, ◌≡◌, ℕ, ◌*◌, ap, length}
use native.Mathlib.Omega.{arith}
use Rattle.run.proofs.numbers.write_four.Goals as goal

pub loop-w-preserved : goal.loop-w-preserved
loop-w-preserved g c =
    let four : length c.args.records ≡ 4 = search rules in
    one-written g.T.Numbers.list g.T.Numbers.COUNT c.args.records _ c.loop-w.invariant c.loop-w-test.true four c.requires
    (ap (λ (x : ℕ). c.loop-w.w * x) c.COUNT.ensures) (omega (arith, c.COUNT-in-loop-w.ensures)) c.write.ensures c.write.auto.numbers
