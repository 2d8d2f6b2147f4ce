-- The examples that document 01 marks for proof, of the course: 3 (cells) and 8 (square roots); and the misreading of cells that it names.
-- Assumes nothing.
use Rattle.std.proofs.Common.{◌≡◌, true, refl}
use lib.Ieee.{nan, binary64, of_int, add, sub, div, le, lt, neg, of_bits}
use Rattle.course.specs.Rules.Arithmetic.{◌⊖◌, natural}
use Rattle.course.specs.Rules.Constants.{playfield, scale, grid_cell}
use Rattle.course.specs.Rules.Counting.{how_many}
use Rattle.course.specs.Rules.Cell.{along, cell_of}
use Rattle.course.specs.Rules.Root.{sqrt_of}
-- examples 1 and 2, passed on
pub use Rattle.rng.proofs.Examples.{marked as draws}

pub record Marked : Type 0 where
  pub cell-nan : cell_of nan ≡ 0
  pub cell-low : cell_of (neg (natural 400)) ≡ 0
  pub cell-middle : cell_of (natural 0) ≡ 33
  pub cell-seven : cell_of (natural 7) ≡ 34
  pub cell-high : cell_of (natural 1000) ≡ 66
  pub root-four : sqrt_of (natural 4) ≡ natural 2
  pub root_below : sqrt_of (neg (natural 1)) ≡ nan

pub marked : Marked
unfolding cell_of how_many along natural playfield scale grid_cell of_int add div le neg sqrt_of
marked = record {
  cell-nan = refl;
  cell-low = refl;
  cell-middle = refl;
  cell-seven = refl;
  cell-high = refl;
  root-four = refl;
  root_below = refl;
}

-- the float just below 340 − P has cell 34: v ≥ 340 − P would give 33
pub misread : (lt (of_bits binary64 0x401aaaaaaaaaaabf) (natural 340 ⊖ playfield) ≡ true) × (cell_of (of_bits binary64 0x401aaaaaaaaaaabf) ≡ 34)
unfolding cell_of how_many along natural playfield scale grid_cell of_int add sub div le lt of_bits
misread = (refl, refl)
