-- `run::save::put_first` meets its contract. Assumes nothing.
use mathlib.Core.List.{[], ◌∷◌, ◌++◌}
use mathlib.Core.Path.{◌≡◌, refl, ap₂, ◌∙◌}
use Prim.Native.Nat.{ℕ}
use lib.ListN.{length, drop}
use borrow.Author.Rules.{rules}
use native.Mathlib.Omega.{arith}
use Rattle.form.specs.Rules.Bytes.{low, float_bytes}
use Rattle.form.specs.Rules.Form.{joined}
use Rattle.form.proofs.ByteLaws.{low-length}
use Rattle.form.proofs.Filling.{begins}
use Rattle.run.specs.Steps.Save.{first_fields, first_bytes, all_bytes}
use Rattle.run.proofs.FieldSizes.{floats-long}
use Rattle.run.proofs.SaveLaws.{field-on, fields-front}
use Rattle.run.proofs.save.put_first.Goals as goal

pub returns : goal.returns
unfolding first_fields
returns c =
    let s = c.args in
    let h : length s.full.now ≡ all_bytes = search rules in
    let g3 = low 4 c.from-2.result ∷ [] in
    let g2 = low 4 c.from.result ∷ g3 in
    let g1 = float_bytes (s.share ∷ []) ∷ g2 in
    let k0 = begins s.full.now (joined (low 4 s.narrow ∷ g1)) _ refl in
    let k1 = field-on (low 4 s.narrow) g1 _ 4 _ k0 c.put_number.ensures.value (low-length 4 s.narrow) (omega arith) (omega (arith, h)) in
    let k2 = field-on (float_bytes (s.share ∷ [])) g2 _ 12 _ k1 c.put.ensures.value (floats-long (s.share ∷ []) 1 refl) (omega arith) (omega (arith, h)) in
    let k3 = field-on (low 4 c.from.result) g3 _ 16 _ k2 c.put_number-2.ensures.value (low-length 4 c.from.result) (omega arith) (omega (arith, h)) in
    let k4 = field-on (low 4 c.from-2.result) [] _ 20 _ k3 c.put_number-3.ensures.value (low-length 4 c.from-2.result) (omega arith) (omega (arith, h)) in
    fields-front k4 (omega (arith, h)) ∙ ap₂ (λ (limit tick : ℕ). joined (first_fields s.narrow s.share limit tick) ++ drop first_bytes s.full.now) c.from.ensures c.from-2.ensures
