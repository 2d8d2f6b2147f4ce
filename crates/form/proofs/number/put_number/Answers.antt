-- `form::number::put_number` meets its contract. Assumes nothing.
use Rattle.form.proofs.ByteLaws.{stored, low-length, number-put, store-short}
use native.Mathlib.Omega.{arith}
use lib.ListN.{take}
use mathlib.Core.Path.{sym, ap, ◌∙◌}
use Rattle.form.proofs.number.put_number.Goals as goal

pub returns-then-out-k-clause-value : goal.returns-then-out-k-clause-value
returns-then-out-k-clause-value c = sym (store-short _ _ (omega (arith, c.if-out-k.true, low-length c.args.k c.args.v)))

pub returns-clause-value : goal.returns-clause-value
returns-clause-value c =
    let s = c.args in
    stored _ _ _ (omega (arith, low-length s.k s.v, c.if-out-k.false))
    (number-put s.k _ s.v s.out.now _ _ (omega arith) c.min-n.ensures c.if-out-k.false (c.copy_from_slice.ensures.after ∙ ap (take c.min-n.result) c.to_le_bytes.ensures) (c.fill.ensures.after (λ y e. e)))
