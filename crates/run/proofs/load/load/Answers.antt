-- `run::load::load` meets its contract. Assumes nothing.
use lib.ListN.{length}
use mathlib.Core.Path.{◌≡◌, sym, ap, ◌∙◌}
use Rattle.form.specs.Rules.Form.{sum}
use Rattle.run.specs.Grader.Widths.{full_words, most_tiles}
use Rattle.run.specs.Grader.Saved.{field_bytes}
use Rattle.run.specs.Steps.Save.{all_bytes}
use Rattle.run.proofs.FieldSizes.{all-bytes}
use Rattle.std.specs.Prelude.{option_map}
use Rattle.run.specs.Steps.Load.{fields_as}
use Rattle.run.proofs.LoadLaws.{none-read, no-seed, load_is}
use borrow.Author.Rules.{rules}
use native.Mathlib.Omega.{arith}
use Rattle.run.proofs.load.load.Goals as goal

pub returns-in_err-unpack : goal.returns-in_err-unpack
returns-in_err-unpack c =
    ap (option_map fields_as) c.from_residual.ensures
    ∙ none-read most_tiles c.args.bytes.now c.unpack.new.full _ _ c.unpack.result (omega (arith, all-bytes)) c.rows-rows.ensures c.unpack.ensures c.in_err-unpack.was

pub returns-in_err-seed : goal.returns-in_err-seed
returns-in_err-seed c =
    ap (option_map fields_as) c.from_residual-in_err-seed.ensures
    ∙ no-seed most_tiles c.args.bytes.now c.unpack.new.full _ _ c.unpack.result (omega (arith, all-bytes)) c.rows-rows.ensures c.unpack.ensures
    _ c.seeds_in.result c.in_ok-unpack.was c.seeds_in.ensures (sym c.seed.ensures ∙ c.in_err-seed.was)

pub returns : goal.returns
returns c =
    let full-long : length c.unpack.new.full ≡ sum (field_bytes full_words) =
    let e : length c.unpack.new.full ≡ all_bytes = search rules in e ∙ sym all-bytes
    in
    ap (option_map fields_as) c.then_some.ensures
    ∙ load_is most_tiles c.args.bytes.now c.unpack.new.full _ _ c.unpack.result (omega (arith, all-bytes)) c.rows-rows.ensures c.unpack.ensures
    _ c.seeds_in.result c.in_ok-unpack.was c.seeds_in.ensures
    c.is_sound.result _ c.fields_in-fields.result full-long (sym c.seed.ensures ∙ c.in_ok-seed.was) c.fields_in-fields.ensures c.is_sound.ensures
