-- `run::load::credited_in` meets its contract. Assumes nothing.
use Rattle.run.proofs.FieldSizes.{all-bytes}
use Rattle.run.proofs.LoadLaws.{part-read, lies-4}
use Rattle.form.specs.Rules.Bytes.{each_from}
use native.Mathlib.Omega.{arith}
use mathlib.Core.Path.{refl, sym, ap, ◌∙◌}
use Prim.Native.Nat.{ℕ}
use Rattle.run.proofs.load.credited_in.Goals as goal

pub returns : goal.returns
returns c =
    let full = c.args.full.now in
    part-read (λ (w : ℕ). w) full 20 320 _ _ _ refl (omega (arith, all-bytes)) c.read.ensures.value ∙ ap (each_from (λ (w : ℕ). w) 40) (sym (lies-4 full))
