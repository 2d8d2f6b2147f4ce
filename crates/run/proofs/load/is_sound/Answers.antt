-- `run::load::is_sound` meets its contract. Assumes nothing.
use Rattle.run.specs.Grader.Saved.{all_below, sound_fields}
use Rattle.run.specs.Grader.Numbers.{poses_at}
use Rattle.run.specs.Grader.Widths.{most_tiles}
use Rattle.run.specs.Rules.Arguments.{settings_ok, poses_ok}
use lib.Dec.{leb}
use mathlib.Core.Bool.{◌&&◌}
use mathlib.Core.Path.{◌≡◌, ap, ◌∙◌}
use Rattle.run.proofs.load.is_sound.Goals as goal

pub returns : goal.returns
unfolding sound_fields
returns c =
    let f = c.args.f in
    let settings : c.settings_ok-settings.result ≡ settings_ok f.share f.limit = c.settings_ok-settings.ensures in
    let poses : c.poses_ok.result ≡ poses_ok (poses_at f.poses 0) = c.poses_ok.ensures ∙ ap poses_ok c.poses_from-poses.ensures in
    let tiles : c.all_below-tiles.result ≡ all_below f.n f.credited = c.all_below-tiles.ensures in
    let count : c.count_ok-count.result ≡ (leb 1 f.n && leb f.n most_tiles) = c.count_ok-count.ensures in
    λ i. settings i && (count i && (poses i && (tiles i && leb f.tick f.limit)))
