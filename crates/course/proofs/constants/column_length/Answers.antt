-- `course::constants::column_length` meets its contract, which is the code's own term. Assumes nothing.
use Rattle.std.proofs.Common.{refl}
use Rattle.course.proofs.LengthLaws.{column-few}
use Rattle.course.proofs.constants.column_length.Goals as goal

pub returns : goal.returns
returns c = record { value = refl; upper_bound = column-few c.args.n }
