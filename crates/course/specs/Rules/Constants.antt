-- The constants of the reference's track.rs, each the Rust's expression, rounded operation by operation. Assumes nothing.
use Rattle.std.specs.Prelude.{ℕ, ◌*◌, ◌^◌, Float}
use Rattle.std.specs.Float.Ieee.{neg}
use Rattle.course.specs.Rules.Arithmetic.{◌⊗◌, ◌⊘◌, natural, decimal}

-- SCALE
unfoldable pub scale : Float
scale = natural 6

-- TRACK_RAD
unfoldable pub track_rad : Float
track_rad = natural 900 ⊘ scale

-- PLAYFIELD: document 01's P
unfoldable pub playfield : Float
playfield = natural 2000 ⊘ scale

-- FPS
unfoldable pub fps : Float
fps = natural 50

-- TRACK_DETAIL_STEP
unfoldable pub track_detail_step : Float
track_detail_step = natural 21 ⊘ scale

-- TRACK_TURN_RATE
unfoldable pub track_turn_rate : Float
track_turn_rate = decimal 31 100

-- TRACK_WIDTH
unfoldable pub track_width : Float
track_width = natural 40 ⊘ scale

-- BORDER
unfoldable pub border : Float
border = natural 8 ⊘ scale

-- GRID_CELL
unfoldable pub grid_cell : Float
grid_cell = natural 10

-- GRID_DIM: the cells of a row, and the rows
abbrev pub grid_dim : ℕ
grid_dim = 67

-- CHECKPOINTS
abbrev pub checkpoint_count : ℕ
checkpoint_count = 12

-- MAX_ATTEMPTS
unfoldable pub max_attempts : ℕ
max_attempts = 64

-- f64::MAX and f64::MIN
unfoldable pub f64_max : Float
f64_max = decimal (17976931348623157 * 10 ^ 292) 1

unfoldable pub f64_min : Float
f64_min = neg f64_max

-- document 01's H
unfoldable pub half_pi : Float
half_pi = decimal 15707963267948966 (10 ^ 16)

-- std::f64::consts::PI
unfoldable pub pi : Float
pi = decimal 314159265358979323846264338327950288 (10 ^ 35)

-- the Rust's tau
unfoldable pub tau : Float
tau = natural 2 ⊗ pi
