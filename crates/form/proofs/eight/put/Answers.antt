-- `form::eight::put` meets its contract. Assumes nothing.
use Rattle.form.proofs.ByteLaws.{eight-on, each-length, each_none, stored, store-short}
use Rattle.form.specs.Rules.Bytes.{each_bytes}
use Rattle.form.proofs.Filling.{ends}
use lib.ListN.{length}
use Prim.Native.Nat.{◌≤◌}
use mathlib.Core.Path.{sym, ap, ◌∙◌}
use native.Mathlib.Omega.{arith}
use Rattle.form.proofs.eight.put.Goals as goal

pub returns-then-out-values-clause-value : goal.returns-then-out-values-clause-value
returns-then-out-values-clause-value g c = sym (store-short _ _ (omega (arith, c.if-out-values.true, each-length g.E.Eight.number_of c.args.values.now)))

pub loop-i-preserved : goal.loop-i-preserved
loop-i-preserved g c =
    let f = g.E.Eight.number_of in
    let x = c.index-values-i in
    (c.loop-i.invariant.0, eight-on f _ _ _ _ _ _ x.result c.loop-i.invariant.1 c.loop-i-test.true c.loop-i.invariant.0 (c.number_of.ensures ∙ ap f x.is) (c.copy_from_slice.ensures.after ∙ c.to_le_bytes.ensures))

pub returns-clause-value : goal.returns-clause-value
returns-clause-value g c =
    let s = c.args in
    let f = g.E.Eight.number_of in
    let i = c.loop-i.invariant in
    let h : length (each_bytes f s.values.now) ≤ length s.out.now = omega (arith, each-length f s.values.now, i.0) in
    stored _ _ _ h (ends i.1 (each_none f _ _ c.loop-i-test.false) h)
