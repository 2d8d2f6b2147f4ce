-- `run::save::save` meets its contract. Assumes nothing.
use mathlib.Core.Path.{◌≡◌}
use native.Mathlib.Omega.{arith}
use lib.ListN.{length}
use borrow.Author.Rules.{rules}
use Rattle.run.specs.Grader.Widths.{full_words, most_tiles}
use Rattle.run.specs.Grader.State.{view}
use Rattle.run.specs.Grader.Numbers.{pose_count}
use Rattle.run.proofs.SaveLaws.{save-refused, save-packed, save-length, save-accepted}
use Rattle.std.proofs.lemmas.Result.{err_from_is_err_and}
use Rattle.run.proofs.save.save.Goals as goal

pub returns-in_err-save_check : goal.returns-in_err-save_check
unfolding view
returns-in_err-save_check c =
    let p = err_from_is_err_and c.from_residual.result c.from_residual.ensures.1 in
    rw (p.1, p.2) (save-refused most_tiles (view c.args.run) _ _ _ c.save_check.ensures c.in_err-save_check.was)

pub unwrap-length-requires : goal.unwrap-length-requires
unfolding view
unwrap-length-requires c =
    let credited-length : length c.args.run.credited ≡ full_words =
    search rules
    in
    let poses-length : length c.args.run.poses ≡ pose_count =
    search rules
    in
    let e = save-packed most_tiles (view c.args.run) c.args.out.now _ _ _ _ _ _ credited-length poses-length c.rows-rows.ensures c.put_fields.ensures c.map_of-map.ensures c.pack.ensures c.save_check.ensures c.in_ok-save_check.was in
    rw e

pub overflow_cast-result : goal.overflow_cast-result
unfolding view
overflow_cast-result c =
    let credited-length : length c.args.run.credited ≡ full_words =
    search rules
    in
    let poses-length : length c.args.run.poses ≡ pose_count =
    search rules
    in
    let e = save-length most_tiles (view c.args.run) c.args.out.now _ _ _ _ _ _ credited-length poses-length c.rows-rows.ensures c.put_fields.ensures c.map_of-map.ensures c.pack.ensures c.save_check.ensures c.in_ok-save_check.was _ c.unwrap-length.ensures in
    omega (arith, e)

pub returns : goal.returns
unfolding view
returns c =
    let credited-length : length c.args.run.credited ≡ full_words =
    search rules
    in
    let poses-length : length c.args.run.poses ≡ pose_count =
    search rules
    in
    save-accepted most_tiles (view c.args.run) c.args.out.now _ _ _ _ _ _ credited-length poses-length c.rows-rows.ensures c.put_fields.ensures c.map_of-map.ensures c.pack.ensures c.save_check.ensures c.in_ok-save_check.was _ c.unwrap-length.ensures
