-- `run::touch::Columns::stance_sound` meets its contract. Assumes nothing.
use Rattle.run.specs.Rules.Below.{every_of}
use Rattle.run.specs.Grader.Touch.{sound_cell}
use Rattle.std.specs.Prelude.{IfSome}
use lib.ListN.{take}
use mathlib.Core.Bool.{true}
use mathlib.Core.Path.{◌≡◌}
use Rattle.run.proofs.touch.Columns.stance_sound.Given as goal

abbrev pub invariant-loop-cell : goal.invariant-loop-cell
invariant-loop-cell l =
    let sound = sound_cell l.self.offsets.now l.self.list.now l.n in
    (every_of sound (take l.cell-index l.cell-items) ≡ true) × IfSome l.before (λ c. sound c ≡ true)
