-- `run::load::car_in` meets its contract. Assumes nothing.
use Rattle.run.specs.Grader.Saved.{float_in}
use Rattle.form.proofs.ByteLaws.{from-length}
use lib.Seq.{set_at}
use lib.ListN.{set, take, drop}
use Rattle.run.proofs.FieldSizes.{all-bytes}
use Rattle.run.proofs.LoadLaws.{part-read, lies-6, lies-7}
use Rattle.form.specs.Rules.Bytes.{each_from}
use lib.Ieee.{Float, binary64, of_bits}
use native.Mathlib.Omega.{arith}
use mathlib.Core.List.{List, [], ◌∷◌, ◌++◌}
use mathlib.Core.Path.{◌≡◌, refl, sym, ap₂, ◌∙◌}
use Prim.Native.Nat.{ℕ}
use Rattle.run.proofs.load.car_in.Goals as goal

pub returns : goal.returns
returns c =
    let full = c.args.full.now in
    let controls = each_from (of_bits binary64) 20 (take 160 (drop 349 full)) in
    let read : c.read.new.values ≡ controls = part-read (of_bits binary64) full 349 160 _ _ _ refl (omega (arith, all-bytes)) c.read.ensures.value in
    c.car_from.ensures.result_value
    ∙ ap₂ (λ (l : List Float) (x : Float). set (l ++ (of_bits binary64 0 ∷ [])) 20 x) read c.float_at.ensures
    ∙ set_at controls (of_bits binary64 0) [] (float_in (take 8 (drop 341 full))) 20 (from-length (of_bits binary64) 20 (take 160 (drop 349 full)))
    ∙ ap₂ (λ (p q : List ℕ). each_from (of_bits binary64) 20 p ++ (float_in q ∷ [])) (sym (lies-7 full)) (sym (lies-6 full))
