-- `run::save::put_last` meets its contract. Assumes nothing.
use mathlib.Core.List.{List, [], ◌∷◌, ◌++◌}
use mathlib.Core.Path.{◌≡◌, refl, ap, ap₂, ◌∙◌}
use Prim.Native.Nat.{ℕ}
use lib.ListN.{length, take}
use lib.Ieee.{Float}
use borrow.Author.Rules.{rules}
use native.Mathlib.Omega.{arith}
use Rattle.form.specs.Rules.Bytes.{low, float_bytes}
use Rattle.form.specs.Rules.Form.{joined}
use Rattle.form.proofs.ByteLaws.{low-length}
use Rattle.form.proofs.Filling.{begins-at}
use Rattle.run.specs.Grader.Numbers.{control_count, pose_count}
use Rattle.run.specs.Steps.Save.{last_fields, last_from, all_bytes}
use Rattle.run.proofs.FieldSizes.{floats-long}
use Rattle.run.proofs.NumberLaws.{controls-taken}
use Rattle.run.proofs.SaveLaws.{field-on, fields-end}
use Rattle.run.proofs.save.put_last.Goals as goal

pub returns : goal.returns
unfolding last_fields
returns c =
    let s = c.args in
    let h : length s.full.now ≡ all_bytes = search rules in
    let poses-length : length s.poses.now ≡ pose_count = search rules in
    let fuel = s.car.fuel_spent in
    let controls = take control_count c.put_car.new.numbers in
    let g5 = low 8 s.wide ∷ [] in
    let g4 = low 2 c.from.result ∷ g5 in
    let g3 = float_bytes s.poses.now ∷ g4 in
    let g2 = float_bytes controls ∷ g3 in
    let g1 = float_bytes (fuel ∷ []) ∷ g2 in
    let k0 = begins-at s.full.now (joined (low 1 s.flags ∷ g1)) last_from (omega (arith, h)) in
    let k1 = field-on (low 1 s.flags) g1 _ 341 _ k0 c.put_number.ensures.value (low-length 1 s.flags) (omega arith) (omega (arith, h)) in
    let k2 = field-on (float_bytes (fuel ∷ [])) g2 _ 349 _ k1 c.put.ensures.value (floats-long (fuel ∷ []) 1 refl) (omega arith) (omega (arith, h)) in
    let k3 = field-on (float_bytes controls) g3 _ 509 _ k2 c.put-2.ensures.value (floats-long controls control_count (controls-taken s.car _ c.put_car.ensures)) (omega arith) (omega (arith, h)) in
    let k4 = field-on (float_bytes s.poses.now) g4 _ 637 _ k3 c.put-3.ensures.value (floats-long s.poses.now pose_count poses-length) (omega arith) (omega (arith, h)) in
    let k5 = field-on (low 2 c.from.result) g5 _ 639 _ k4 c.put_number-2.ensures.value (low-length 2 c.from.result) (omega arith) (omega (arith, h)) in
    let k6 = field-on (low 8 s.wide) [] _ 647 _ k5 c.put_number-3.ensures.value (low-length 8 s.wide) (omega arith) (omega (arith, h)) in
    fields-end k6 h
    ∙ ap₂ (λ (l : List Float) (n : ℕ). take last_from s.full.now ++ joined (last_fields s.flags fuel l s.poses.now n s.wide)) (ap (take control_count) c.put_car.ensures) c.from.ensures
