-- `run::touch::Columns::stance_sound` meets its contract. Assumes nothing.
use Rattle.run.proofs.CellLaws.{as-before, every-next, cells-sound-is}
use Rattle.run.proofs.TouchLaws.{every-none, every-fails}
use Rattle.run.specs.Rules.Below.{every_of}
use Rattle.run.specs.Grader.Touch.{sound_cell}
use lib.Seq.{take_all}
use mathlib.Core.Bool.{true}
use mathlib.Core.Path.{◌≡◌, sym, ap, ◌∙◌}
use Prim.Native.Nat.{ℕ}
use Rattle.run.proofs.touch.Columns.stance_sound.Goals as goal
use Rattle.run.proofs.touch.Columns.stance_sound.Goals.{else-ne-via-then-ne+else-not-cell_sound, else-ne-via-else-ne}

pub loop-cell-init : goal.loop-cell-init
loop-cell-init c = (every-none (sound_cell _ _ _), tt)

pub returns-then-not-cell_sound : goal.returns-then-not-cell_sound
returns-then-not-cell_sound c =
    let s = c.args in
    let p = sound_cell s.self.offsets.now s.self.list.now s.n in
    sym (every-fails p _ c.loop-cell.cell-index c.loop-cell-test.true (sym c.cell_sound.ensures ∙ c.if-not-cell_sound.true))
    ∙ cells-sound-is _ _ _ _ c.as_flattened-cell-items.ensures.value s.stance.now.own_cells

pub loop-cell-preserved : goal.loop-cell-preserved
loop-cell-preserved c =
    let s = c.args in
    let p = sound_cell s.self.offsets.now s.self.list.now s.n in
    let i = c.loop-cell.cell-index in
    let next = every-next p _ i c.loop-cell.invariant.0 in
    elim c.else-ne.branch [
      | else-ne-via-then-ne+else-not-cell_sound w ↦ let e = sym w.cell_sound.ensures ∙ w.if-not-cell_sound.false in (next e c.loop-cell-test.true, e)
      | else-ne-via-else-ne w ↦ let e = as-before _ (λ (x : ℕ). p x ≡ true) c.loop-cell.invariant.1 c.ne.ensures w.if-ne.false in (next e c.loop-cell-test.true, e)
    ]

pub returns : goal.returns
returns c =
    let s = c.args in
    let p = sound_cell s.self.offsets.now s.self.list.now s.n in
    sym c.loop-cell.invariant.0 ∙ ap (every_of p) (take_all c.loop-cell.cell-index _ c.loop-cell-test.false)
    ∙ cells-sound-is _ _ _ _ c.as_flattened-cell-items.ensures.value s.stance.now.own_cells
