-- Document 01, "Refusals by cause" (1, 2, 8), and document 02, orders 1 and 3 (2): the tests of a call's arguments, by these alone. Assumes nothing.
use Rattle.std.specs.Prelude.{Bool, ◌&&◌, ◌||◌, List, ℕ, ltb, leb, get_or, Float}
use Rattle.std.specs.Float.{nan}
use Rattle.std.specs.Float.Ieee.{le}
use Rattle.course.specs.Rules.Arithmetic.{natural}
use Rattle.course.specs.Rules.Numeric.{within}
use Rattle.course.specs.Rules.Lengths.{column_length, quad_numbers, offset_count}
use Rattle.run.specs.declared.state.Pose.{Pose}
use Rattle.run.specs.declared.dynamics.Motion.{Motion}

-- 1 does not hold: lap share from 0 to 1, tick limit from 1 to 1,000,000
unfoldable pub settings_ok : Float → ℕ → Bool
settings_ok share limit = (le (natural 0) share && le share (natural 1)) && (leb 1 limit && leb limit 1000000)

-- 2: by the lengths of the tiles and offsets that are lent with a course of n points; the index list has none
unfoldable pub short_columns : ℕ → ℕ → ℕ → Bool
short_columns n tiles offsets = ltb tiles (quad_numbers (column_length n)) || ltb offsets offset_count

-- 2: a save's output has this many bytes or more (order 3)
abbrev pub save_room : ℕ
save_room = 645

-- 8: finite and within ±1,000,000
unfoldable pub in_range : Float → Bool
in_range x = within (natural 1000000) x

unfoldable pub pose_ok : Pose → Bool
pose_ok p = ((in_range p.x && in_range p.y) && in_range p.cos) && in_range p.sin

-- pose number i of the four wheels'
abbrev pub pose_at : List Pose → ℕ → Pose
pose_at ps i = get_or ps i (record { x = nan; y = nan; cos = nan; sin = nan })

unfoldable pub poses_ok : List Pose → Bool
poses_ok ps = ((pose_ok (pose_at ps 0) && pose_ok (pose_at ps 1)) && pose_ok (pose_at ps 2)) && pose_ok (pose_at ps 3)

-- hull and four wheel poses are in range
unfoldable pub places_ok : Float → Float → List Pose → Bool
places_ok x y ps = (in_range x && in_range y) && poses_ok ps

-- motion number i of the four wheels'
abbrev pub motion_at : List Motion → ℕ → Motion
motion_at ms i = get_or ms i (record { joint_angle = nan; sin = nan; cos = nan; vx = nan; vy = nan })

unfoldable pub motion_ok : Motion → Bool
motion_ok m = (((in_range m.joint_angle && in_range m.sin) && in_range m.cos) && in_range m.vx) && in_range m.vy

unfoldable pub motions_ok : List Motion → Bool
motions_ok ms = ((motion_ok (motion_at ms 0) && motion_ok (motion_at ms 1)) && motion_ok (motion_at ms 2)) && motion_ok (motion_at ms 3)
