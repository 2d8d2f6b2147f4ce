-- `form::unpack::after_field` meets its contract. Assumes nothing.
use Rattle.form.proofs.ReadLaws.{step_left, step-short, step-tested}
use Rattle.form.specs.Rules.Bytes.{all_zero}
use mathlib.Core.Bool.{Bool, true, false, not, cond, ◌||◌}
use mathlib.Core.Path.{◌≡◌, sym, ap, ◌∙◌}
use mathlib.Core.List.{List}
use Prim.Native.Nat.{ℕ}
use Rattle.std.proofs.Common.{Bor, Option, Some, None}
use Rattle.std.specs.Bool.{then_some}
use Rattle.std.specs.Option.{MatchOption}
use Rattle.form.proofs.unpack.after_field.Goals as goal
use Rattle.form.proofs.unpack.after_field.Goals.{then-row, else-row}

answered : (v : Bool) (rest : Bor (List ℕ)) (r : Option (Bor (List ℕ))) (x : Option (List ℕ)) (d : List ℕ) → r ≡ then_some v rest → rest.now ≡ d → x ≡ cond v (Some d) None
    → MatchOption r (x ≡ None) (λ y. x ≡ Some y.now)
answered true rest r x d e h q = rw e (q ∙ ap (λ (l : List ℕ). Some l) (sym h))
answered false rest r x d e h q = rw e q

pub returns-then-not-stands : goal.returns-then-not-stands
returns-then-not-stands c = step_left _ _ _ c.if-not-stands.true

pub returns-in_err-field : goal.returns-in_err-field
returns-in_err-field c = rw c.from_residual.ensures (step-short _ _ _ c.if-not-stands.false c.in_err-field.ensures.cases)

pub returns : goal.returns
returns c =
    let s = c.in_ok-field.ensures.cases in
    let z = c.args.row.zeros in
    let v : c.if-row.may ≡ (z || not (all_zero c.in_ok-field.field.now)) =
    elim c.if-row.branch [
      | then-row w ↦ w.may-is ∙ w.if-row.true ∙ sym (ap (λ y. y || not (all_zero c.in_ok-field.field.now)) w.if-row.true)
      | else-row w ↦ w.may-is ∙ ap not w.all_zero.ensures ∙ sym (ap (λ y. y || not (all_zero c.in_ok-field.field.now)) w.if-row.false)
    ] in
    let e = step-tested c.args.stands c.args.row c.args.bytes.now _ c.if-not-stands.false s.0 (v ∙ ap (λ l. z || not (all_zero l)) s.1) in
    answered c.if-row.may _ _ _ _ c.then_some.ensures s.2 e
