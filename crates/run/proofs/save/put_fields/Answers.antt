-- `run::save::put_fields` meets its contract. Assumes nothing.
use mathlib.Core.Path.{◌≡◌, ◌∙◌}
use lib.ListN.{length}
use borrow.Author.Rules.{rules}
use Rattle.run.specs.Grader.Widths.{full_words}
use Rattle.run.specs.Grader.State.{view}
use Rattle.run.specs.Grader.Numbers.{pose_count}
use Rattle.run.specs.Grader.Saved.{fields_of}
use Rattle.run.specs.Steps.Save.{all_bytes}
use Rattle.run.proofs.FieldSizes.{state-whole}
use Rattle.run.proofs.SaveLaws.{fields-put}
use Rattle.run.proofs.save.put_fields.Goals as goal

pub returns : goal.returns
unfolding view fields_of
returns c =
    let credited-length : length c.args.run.credited ≡ full_words =
    search rules
    in
    let poses-length : length c.args.run.poses ≡ pose_count =
    search rules
    in
    let full-length : length c.args.full.now ≡ all_bytes =
    search rules
    in
    let s = view c.args.run in
    fields-put (fields_of s) c.args.full.now _ _ _ c.put.result c.of-seed.result c.from.result (state-whole full_words s credited-length poses-length) full-length
    c.of-seed.ensures c.put_first.ensures c.put.ensures.value (c.from.ensures ∙ c.flags_of-flags.ensures) c.put_last.ensures
