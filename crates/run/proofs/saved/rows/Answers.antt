-- `run::saved::rows` meets its contract. Assumes nothing.
use Rattle.run.specs.Grader.Saved.{field_bytes}
use Rattle.form.specs.Rules.Form.{rows_of}
use Rattle.run.proofs.saved.rows.Goals as goal

pub returns : goal.returns
unfolding field_bytes rows_of
returns c = cc
