-- `form::eight::read` meets its contract. Assumes nothing.
use Rattle.form.proofs.Filling.{grown, grown_up}
use Rattle.form.proofs.ByteLaws.{chunk-said, from-none, from_more, fill-short, fill-room}
use native.Mathlib.Omega.{arith}
use lib.ListN.{length, take}
use Prim.Native.Nat.{◌<◌, ◌≤◌, ◌/◌}
use mathlib.Core.List.{◌++◌}
use mathlib.Core.Path.{sym, ap, ◌∙◌}
use Rattle.form.proofs.eight.read.Goals as goal

pub returns-then-eights-values-clause-value : goal.returns-then-eights-values-clause-value
returns-then-eights-values-clause-value g c = sym (fill-short g.E.Eight.of_number _ _ (omega (arith, c.if-eights-values.true, c.as_chunks.ensures.front_len)))

pub loop-i-preserved : goal.loop-i-preserved
loop-i-preserved g c =
    let of = g.E.Eight.of_number in
    let l = c.loop-i in
    let bs = c.args.bytes.now in
    let k : l.i < length bs / 8 = omega (arith, c.loop-i-test.true, c.if-eights-values.false, c.as_chunks.ensures.front_len) in
    let chunk = chunk-said (length bs / 8) l.i bs c.as_chunks.result.0.now k c.as_chunks.ensures.front in
    let step = from_more of (length c.args.values.now) l.i c.of_number.result bs c.loop-i-test.true (c.of_number.ensures ∙ ap of (c.from_le_bytes.ensures ∙ chunk)) in
    let t : l.i < length l.values = omega (arith, l.auto.values, c.loop-i-test.true) in
    grown l.values l.i c.of_number.result _ _ t (ap (λ r. take l.i l.values ++ r) (sym step) ∙ l.invariant)

pub returns-clause-value : goal.returns-clause-value
returns-clause-value g c =
    let of = g.E.Eight.of_number in
    let l = c.loop-i in
    let h : length l.values ≤ l.i = omega (arith, l.auto.values, c.loop-i-test.false) in
    fill-room of _ _ _ (omega (arith, c.if-eights-values.false, c.as_chunks.ensures.front_len)) (grown_up l.values l.i _ _ h (from-none of _ l.i _ c.loop-i-test.false) l.invariant)
