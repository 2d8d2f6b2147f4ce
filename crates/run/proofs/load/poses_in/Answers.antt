-- `run::load::poses_in` meets its contract. Assumes nothing.
use Rattle.run.proofs.FieldSizes.{all-bytes}
use Rattle.run.proofs.LoadLaws.{part-read, lies-8}
use Rattle.form.specs.Rules.Bytes.{each_from}
use lib.Ieee.{binary64, of_bits}
use native.Mathlib.Omega.{arith}
use mathlib.Core.Path.{refl, sym, ap, ◌∙◌}
use Rattle.run.proofs.load.poses_in.Goals as goal

pub returns : goal.returns
returns c =
    let full = c.args.full.now in
    part-read (of_bits binary64) full 509 128 _ _ _ refl (omega (arith, all-bytes)) c.read.ensures.value ∙ ap (each_from (of_bits binary64) 16) (sym (lies-8 full))
