-- `form::number::number_of` meets its contract. Assumes nothing.
use Rattle.form.proofs.ByteLaws.{number_read, number_small}
use lib.ListN.{length}
use Prim.Native.Nat.{ℕ, ◌^◌, ◌<◌}
use mathlib.Core.Path.{sym, ◌∙◌, subst}
use Rattle.form.proofs.number.number_of.Goals as goal

pub returns : goal.returns
returns c =
    let s = c.args.bytes.now in
    let e = c.from_le_bytes.ensures ∙ number_read s c.copy_from_slice.new.self c.requires c.copy_from_slice.ensures.after in
    (e, subst (λ (n : ℕ). n < 256 ^ length s) (sym e) (number_small s (λ i. (c.type_inv.bytes i).fits)))
