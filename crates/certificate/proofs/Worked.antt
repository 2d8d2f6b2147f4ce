-- A worked instance of the certificate: a course of two points, a start beside it and ten calls, with a save that is restored after the run has ended.
-- Assumes nothing.
use mathlib.Core.Path.{◌≡◌, refl, ap, ◌∙◌}
use mathlib.Core.Bool.{true, false}
use mathlib.Core.List.{List, [], ◌∷◌, ◌++◌, append-nil}
use Prim.Native.Nat.{ℕ}
use native.Mathlib.Omega.{arith}
use lib.Dec.{ltb}
use lib.ListN.{length, replicate, length-replicate}
use lib.Ieee.{Float, of_int, round, add, sub, mul, div, neg, lt, le, is_nan, of_bits, fits}
use Rattle.course.specs.Rules.Arithmetic.{natural, decimal}
use Rattle.course.specs.Rules.Lengths.{quad_numbers, offset_count}
use Rattle.course.specs.Grader.Course.{from_points, cells_of}
use Rattle.course.specs.Grader.Outcome.{CourseColumns, Outcome, lay_into}
use Rattle.course.specs.Rules.Constants.{scale, playfield, track_width, grid_cell, half_pi, f64_max, f64_min}
use Rattle.course.specs.Rules.Numeric.{abs_of, min_of, max_of, least_of, greatest_of, within}
use Rattle.course.specs.Rules.Trig.{factorial, plus, minus, horner, sine_terms, cosine_terms, sine_poly, cosine_poly, floor, whole_below, turns_of, rest_of, quarter_of, pick, cosine_of, sine_of}
use Rattle.course.specs.Rules.Counting.{how_many}
use Rattle.course.specs.Rules.Cell.{along, cell_of, cell_at}
use Rattle.course.specs.Rules.Rect.{least_x, least_y, greatest_x, greatest_y, rect_of, holds}
use Rattle.course.specs.Rules.Tiles.{before_of, tile_quad, eight, tile_of, tile_at, tiles_to, tiles_of}
use Rattle.course.specs.declared.tiles.TrackPoint.{TrackPoint}
use Rattle.course.proofs.LengthLaws.{points-fit}
use Rattle.run.specs.Rules.Below.{any_below, every_below, some_of}
use Rattle.run.specs.Rules.Wheel.{size, wheel_w, wheel_r, placed, wheel_quad, quad_of, box_cells}
use Rattle.run.specs.Rules.Overlap.{least_on, greatest_on, apart_on, apart_along, apart_by_edges, overlap_of}
use Rattle.run.specs.Rules.Arguments.{settings_ok, short_columns, save_room, in_range, pose_ok, poses_ok, places_ok, motion_ok, motions_ok}
use Rattle.run.specs.Rules.Lap.{off_field}
use Rattle.certificate.specs.Rules.Answers.{Reply}
use Rattle.certificate.specs.Rules.Answers.Answer.{drove, settled, refused}
use Rattle.certificate.specs.Rules.Answers.Reply.{answered, decided}
use Rattle.certificate.specs.Claim.Scorer.{LentLengths, Opening, Told, Item, kept_calls, opening, drives, settles, last_poses, off, touch, touches, touched, touched_count, new_tiles, meets_lap, lap_done, over, ended, passed, start_number, drive_number, settle_number, drive_score, settle_score, score, save_number, restore_number, noted, taken_up, after_item}
use Rattle.certificate.specs.Claim.Scorer.History.{begun, then_drive}
use Rattle.run.specs.declared.dynamics.Motion.{Motion}
use Rattle.run.specs.Grader.Widths.{full_words, most_tiles}
use Rattle.run.specs.Grader.State.{columns, short_of}
use Rattle.run.specs.Grader.Numbers.{pose_numbers}
use Rattle.certificate.specs.Claim.Items.{CourseCall, lent_by, lengths_of, told_of, CourseItem, item_by, items_of, reply_to, replies_to, all_fit, is_restore, some_restore, typed_item, typed_items, typed}
use Rattle.certificate.specs.Claim.Items.Lending.{laid, short}
use Rattle.certificate.specs.Claim.Certificate.{CourseLabel, replied_by, start_on}
use Rattle.certificate.proofs.LentColumns.{tiles-few, own-long, offsets-long, own_length, zeros_past, lent_laid}
use Rattle.certificate.proofs.Certificate.{laid-demand3}
use Rattle.run.specs.declared.state.Pose.{Pose}

-- two points, thirty apart: both tiles are the strip between them
abbrev pub points : List TrackPoint
points = record { beta = natural 0; x = natural 0; y = natural 0 } ∷ record { beta = natural 0; x = natural 0; y = natural 30 } ∷ []

-- all four wheels at one place, heading north
abbrev pub wheels_at : Float → Float → List Pose
wheels_at x y =
    let p : Pose = record { x = x; y = y; cos = natural 1; sin = natural 0 } in
    p ∷ p ∷ p ∷ p ∷ []

-- beside the strip, and on it
abbrev pub away : List Pose
away = wheels_at (natural 100) (natural 100)

abbrev pub on : List Pose
on = wheels_at (natural 0) (natural 10)

-- lap share 0.5, ten ticks, beside the strip
abbrev pub beside : Opening
beside = record { share = decimal 5 10; limit = 10; poses = away }

-- a course of given points: no fallback, seed 0
abbrev pub label : CourseLabel
label = record { fallback = false; seed = 0 }

-- at rest
abbrev pub still : List Motion
still =
    let m : Motion = record { joint_angle = natural 0; sin = natural 0; cos = natural 1; vx = natural 0; vy = natural 0 } in
    m ∷ m ∷ m ∷ m ∷ []

abbrev enough : LentLengths
enough = record { tiles = quad_numbers (own_length points); offsets = offset_count }

-- what the plain scorer is told: a settle out of turn, a save, a drive, a save while the settle is due, a settle with no columns, one on the strip, a drive after
-- the end; then the save is restored and the drive made again; and a restore of a save that there is not
abbrev told : List Item
told =
    Item.call (Told.settle enough (natural 0) (natural 10) on)
    ∷ Item.save save_room
    ∷ Item.call (Told.drive 3 still)
    ∷ Item.save save_room
    ∷ Item.call (Told.settle (record { tiles = 0; offsets = 0 }) (natural 0) (natural 10) on)
    ∷ Item.call (Told.settle enough (natural 0) (natural 10) on)
    ∷ Item.call (Told.drive 0 still)
    ∷ Item.restore enough 0
    ∷ Item.call (Told.drive 3 still)
    ∷ Item.restore enough 1
    ∷ []

-- what is replied: the settle on the strip finds both tiles new, completes the lap and ends the run; after the restore the run has not ended, and the drive
-- has the forces that it had
abbrev replies : List Reply
replies =
    answered (refused 5)
    ∷ decided 0
    ∷ answered (drove (passed points (then_drive (begun beside) 3 still)).forces)
    ∷ decided 5
    ∷ answered (refused 2)
    ∷ answered (settled (record { new_tiles = 2; n = 2; off = false; lap = true; ended = true }))
    ∷ answered (refused 4)
    ∷ decided 0
    ∷ answered (drove (passed points (then_drive (begun beside) 3 still)).forces)
    ∷ decided 11
    ∷ []

-- both computed at once
computed : (replies_to points (kept_calls (begun beside) []) told ≡ replies) × (start_number points most_tiles enough beside ≡ 0)
unfolding touches touched new_tiles lap_done meets_lap touched_count over ended off opening settles drives last_poses drive_number settle_number start_number drive_score settle_score score save_number restore_number noted taken_up reply_to after_item replies_to any_below every_below how_many off_field abs_of short_columns settings_ok poses_ok pose_ok in_range places_ok motions_ok motion_ok touch some_of holds rect_of tile_of tiles_to eight tile_at tile_quad before_of box_cells quad_of wheel_quad placed size wheel_w wheel_r least_x least_y greatest_x greatest_y cell_at cell_of along overlap_of apart_by_edges apart_along apart_on least_on greatest_on least_of greatest_of min_of max_of within cosine_of sine_of pick quarter_of rest_of turns_of whole_below floor cosine_poly sine_poly cosine_terms sine_terms horner minus plus factorial scale playfield track_width grid_cell half_pi f64_max f64_min natural decimal of_int round add sub mul div neg lt le is_nan of_bits
computed = (refl, refl)

pub plain : replies_to points (kept_calls (begun beside) []) told ≡ replies
plain = computed.0

-- the start beside the strip is accepted
accepted : start_number points most_tiles enough beside ≡ 0
accepted = computed.1

pub no-columns : short_of (length points) (columns [] [] []) ≡ true
unfolding short_of short_columns
no-columns = refl

-- ---- the grader, lent the course of these points as it was laid into any columns with room for the list
module _ (l : CourseColumns) (whole : ltb (length l.list) (cells_of points) ≡ false) where
  abbrev o : Outcome
  o = lay_into (own_length points) false points l

  -- the same calls: the first settle and the last and the restores are lent the course as laid, the one between is lent nothing; saves have just the room
  abbrev pub given : List (CourseItem (length points))
  given =
      CourseItem.call (CourseCall.settle (laid [] [] []) (natural 0) (natural 10) on)
      ∷ CourseItem.save (replicate save_room 0)
      ∷ CourseItem.call (CourseCall.drive 3 still)
      ∷ CourseItem.save (replicate save_room 0)
      ∷ CourseItem.call (CourseCall.settle (short (columns [] [] []) no-columns) (natural 0) (natural 10) on)
      ∷ CourseItem.call (CourseCall.settle (laid [] [] []) (natural 0) (natural 10) on)
      ∷ CourseItem.call (CourseCall.drive 0 still)
      ∷ CourseItem.restore (laid [] [] []) 0
      ∷ CourseItem.call (CourseCall.drive 3 still)
      ∷ CourseItem.restore (laid [] [] []) 1
      ∷ []

  lent-enough : lengths_of (lent_by {n = length points} o (laid [] [] [])) ≡ enough
  unfolding lengths_of
  lent-enough =
      ap lengths_of (lent_laid false points l whole (omega arith) [] [] [])
      ∙ (λ i. record {
        tiles = (ap (λ (z : List Float). length (tiles_of points ++ z)) (append-nil (zeros_past points)) ∙ own-long (quad_numbers (own_length points)) (tiles_of points) (tiles-few (own_length points) points (points-fit (length points) (omega arith)))) i;
        offsets = (ap length (append-nil (from_points points).offsets) ∙ offsets-long points) i;
      })

  told_same : items_of o given ≡ told
  unfolding item_by told_of lent_by lengths_of
  told_same = λ i.
      Item.call (Told.settle (lent-enough i) (natural 0) (natural 10) on)
      ∷ Item.save (length-replicate {A = ℕ} save_room 0 i)
      ∷ Item.call (Told.drive 3 still)
      ∷ Item.save (length-replicate {A = ℕ} save_room 0 i)
      ∷ Item.call (Told.settle (lengths_of (columns [] [] [])) (natural 0) (natural 10) on)
      ∷ Item.call (Told.settle (lent-enough i) (natural 0) (natural 10) on)
      ∷ Item.call (Told.drive 0 still)
      ∷ Item.restore (lent-enough i) 0
      ∷ Item.call (Told.drive 3 still)
      ∷ Item.restore (lent-enough i) 1
      ∷ []

  -- its values are ones that bytes can carry
  carried : typed label.seed beside given ≡ true
  unfolding typed some_restore is_restore typed_items typed_item all_fit pose_numbers fits natural decimal of_int round div of_bits
  carried = refl

  pub graded : replied_by {n = length points} full_words most_tiles o (start_on {n = length points} full_words most_tiles o (laid [] [] []) label beside) given ≡ replies
  graded =
      ((laid-demand3 full_words most_tiles points (omega arith) (omega arith) (omega arith) (omega arith) false l whole (laid [] [] []) label beside given).runs
      (ap (λ (k : LentLengths). start_number points most_tiles k beside) lent-enough ∙ accepted) carried).answers
      ∙ ap (replies_to points (kept_calls (begun beside) [])) told_same ∙ plain
