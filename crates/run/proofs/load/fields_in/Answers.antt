-- `run::load::fields_in` meets its contract. Assumes nothing.
use lib.ListN.{length}
use mathlib.Core.Path.{◌≡◌, refl, sym, ◌∙◌}
use borrow.Author.Rules.{rules}
use Rattle.form.specs.Rules.Form.{sum}
use Rattle.run.specs.Grader.Widths.{full_words}
use Rattle.run.specs.Grader.Saved.{field_bytes}
use Rattle.run.specs.Steps.Save.{all_bytes}
use Rattle.run.proofs.FieldSizes.{all-bytes}
use Rattle.run.proofs.LoadLaws.{fields_read}
use Rattle.run.proofs.load.fields_in.Goals as goal

pub returns : goal.returns
returns c =
    let whole : length c.args.full.now ≡ sum (field_bytes full_words) =
    let e : length c.args.full.now ≡ all_bytes = search rules in e ∙ sym all-bytes
    in
    fields_read c.args.full.now _ whole c.float_at-share.ensures c.four_at-limit.ensures c.four_at-tick.ensures
    c.credited_in-credited.ensures refl refl refl c.car_in-car.ensures c.poses_in-poses.ensures c.number_at-n.ensures.0
