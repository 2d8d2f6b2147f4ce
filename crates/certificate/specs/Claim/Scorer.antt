-- Document 01, "The plain scorer", and document 02, order 1. It is fed the points of a course and the calls' arguments, of lent columns the lengths alone. Its state is the
-- accepted calls with their arguments, in order; every answer is worked out from them anew, and every tile is tried against every wheel.
-- Assumes nothing.
use Rattle.std.specs.Prelude.{Bool, false, cond, not, ◌&&◌, ◌||◌, List, [], ◌∷◌, ℕ, zero, suc, ◌+◌, ltb, leb, length, get_or, Float}
use Rattle.course.specs.Rules.Rect.{holds_of}
use Rattle.course.specs.Rules.Tiles.{tile_at, tiles_of}
use Rattle.course.specs.declared.tiles.TrackPoint.{TrackPoint}
use Rattle.run.specs.Rules.Below.{any_below, every_below, some_of, how_many}
use Rattle.run.specs.Rules.Arguments.{settings_ok, short_columns, save_room, poses_ok, places_ok, motions_ok}
use Rattle.run.specs.Rules.Overlap.{overlap_of}
use Rattle.run.specs.Rules.Wheel.{quad_of, box_cells}
use Rattle.run.specs.Rules.Lap.{above_share, off_field}
use Rattle.run.specs.Rules.Pass.{Passed, pass_of, still_car, no_forces}
use Rattle.certificate.specs.Rules.Answers.{Answer}
use Rattle.certificate.specs.Rules.Answers.Answer.{drove, settled, refused}
use Rattle.run.specs.declared.state.Pose.{Pose}
use Rattle.run.specs.declared.dynamics.Motion.{Motion}

-- ---- what it is told

-- the lengths of the lent tiles and offsets; the index list has none to keep to
pub record LentLengths : Type 0 where
  pub tiles : ℕ
  pub offsets : ℕ

-- a start on the course, with its n
pub record Opening : Type 0 where
  pub share : Float
  pub limit : ℕ
  pub poses : List Pose

-- a later call: action and motions, or lengths, hull x, y and poses
pub data Told : Type 0 where
  drive : ℕ → List Motion → Told
  settle : LentLengths → Float → Float → List Pose → Told

-- an item of a list that holds saves and restores too: a drive or settle; a save, with how many bytes it is lent; a restore of what an accepted save of the
-- list wrote, with the lengths that it is lent, and how many saves were accepted after that one
pub data Item : Type 0 where
  call : Told → Item
  save : ℕ → Item
  restore : LentLengths → ℕ → Item

-- ---- its state: the accepted calls, the last one outermost
pub data History : Type 0 where
  begun : Opening → History
  then_drive : History → ℕ → List Motion → History
  then_settle : History → Float → Float → List Pose → History

unfoldable pub opening : History → Opening
opening (begun b) = b
opening (then_drive h a ms) = opening h
opening (then_settle h x y ps) = opening h

unfoldable pub drives : History → ℕ
drives (begun b) = 0
drives (then_drive h a ms) = drives h + 1
drives (then_settle h x y ps) = drives h

unfoldable pub settles : History → ℕ
settles (begun b) = 0
settles (then_drive h a ms) = settles h
settles (then_settle h x y ps) = settles h + 1

-- the poses of the last contact: a start or settle
unfoldable pub last_poses : History → List Pose
last_poses (begun b) = b.poses
last_poses (then_drive h a ms) = last_poses h
last_poses (then_settle h x y ps) = ps

-- Off: of the last settle's hull
unfoldable pub off : History → Bool
off (begun b) = false
off (then_drive h a ms) = off h
off (then_settle h x y ps) = off_field x y

-- an answer, and the calls kept after it
pub record Scored : Type 0 where
  pub answer : Answer
  pub kept : History

abbrev pub scored : Answer → History → Scored
scored a h = record { answer = a; kept = h }

-- the accepted calls, and those that it had at each accepted save, the last save first
pub record KeptCalls : Type 0 where
  pub calls : History
  pub saves : List History

abbrev pub kept_calls : History → List History → KeptCalls
kept_calls h hs = record { calls = h; saves = hs }

-- ---- what follows from it, on the course of the points c
module _ (c : List TrackPoint) where
  abbrev pub tile_count : ℕ
  tile_count = length c

  -- Touch: wheel w of the poses and tile t, by the rectangle test and the overlap
  unfoldable pub touch : List Pose → ℕ → ℕ → Bool
  touch ps w t = some_of (holds_of (tiles_of c) t) (box_cells (quad_of ps w)) && overlap_of (quad_of ps w) (tile_at c t)

  -- some wheel of the poses touches tile t
  unfoldable pub touches : List Pose → ℕ → Bool
  touches ps t = any_below 4 (λ w. touch ps w t)

  -- Touched: the tiles of all contacts
  unfoldable pub touched : History → ℕ → Bool
  touched (begun b) t = touches b.poses t
  touched (then_drive h a ms) t = touched h t
  touched (then_settle h x y ps) t = touched h t || touches ps t

  unfoldable pub touched_count : History → ℕ
  touched_count h = how_many tile_count (touched h)

  -- New: the tiles of this contact and of none before it
  unfoldable pub new_tiles : History → List Pose → ℕ
  new_tiles h ps = how_many tile_count (λ t. touches ps t && not (touched h t))

  -- a contact meets Lap: some wheel touches tile 0 that did not at the contact before, and credited / n is strictly above the lap share
  unfoldable pub meets_lap : Float → (ℕ → Bool) → List Pose → ℕ → Bool
  meets_lap share zeroBefore ps credited = any_below 4 (λ w. touch ps w 0 && not (zeroBefore w)) && above_share credited tile_count share

  -- Lap: complete once a contact meets it, with credited the tiles touched up to and in it; before the start no wheel touched any
  unfoldable pub lap_done : History → Bool
  lap_done (begun b) = meets_lap b.share (λ w. false) b.poses (touched_count (begun b))
  lap_done (then_drive h a ms) = lap_done h
  lap_done (then_settle h x y ps) = lap_done h || meets_lap (opening h).share (λ w. touch (last_poses h) w 0) ps (touched_count (then_settle h x y ps))

  -- all n tiles are touched, a lap is complete or off holds
  unfoldable pub over : History → Bool
  over h = every_below tile_count (touched h) || (lap_done h || off h)

  -- Ended: there is a settle, and the run is over
  unfoldable pub ended : History → Bool
  ended h = ltb 0 (settles h) && over h

  -- each wheel's grip at the last contact: it touches some tile
  unfoldable pub grip : History → ℕ → Bool
  grip h w = any_below tile_count (touch (last_poses h) w)

  unfoldable pub grips : History → List Bool
  grips h = grip h 0 ∷ grip h 1 ∷ grip h 2 ∷ grip h 3 ∷ []

  -- the tyre rules over all kept drives from controls of 0, each wheel's grip by the contact before that drive
  unfoldable pub passed : History → Passed
  passed (begun b) = record { car = still_car; forces = no_forces }
  passed (then_drive h a ms) = pass_of (passed h).car a ms (grips h)
  passed (then_settle h x y ps) = passed h

  -- ---- causes, each number of the first that holds, 0 if none does; a course has at most `most` tiles

  unfoldable pub start_number : ℕ → LentLengths → Opening → ℕ
  start_number most k b =
      cond (not (settings_ok b.share b.limit)) 1
      (cond (short_columns tile_count k.tiles k.offsets || (ltb tile_count 1 || ltb most tile_count)) 2
      (cond (not (poses_ok b.poses)) 8 0))

  unfoldable pub drive_number : History → ℕ → List Motion → ℕ
  drive_number h a ms =
      cond (ended h) 4
      (cond (ltb (settles h) (drives h)) 5
      (cond (leb (opening h).limit (settles h)) 6
      (cond (ltb 4 a) 7
      (cond (not (motions_ok ms)) 8 0))))

  unfoldable pub settle_number : History → LentLengths → Float → Float → List Pose → ℕ
  settle_number h k x y ps =
      cond (ended h) 4
      (cond (not (ltb (settles h) (drives h))) 5
      (cond (short_columns tile_count k.tiles k.offsets) 2
      (cond (not (places_ok x y ps)) 8 0)))

  -- ---- answers: by the cause's number, kept where it is 0

  unfoldable pub drive_score : ℕ → History → ℕ → List Motion → Scored
  drive_score zero h a ms = scored (drove (passed (then_drive h a ms)).forces) (then_drive h a ms)
  drive_score (suc k) h a ms = scored (refused (suc k)) h

  unfoldable pub settle_score : ℕ → History → Float → Float → List Pose → Scored
  settle_score zero h x y ps =
      let g = then_settle h x y ps in
      scored (settled (record { new_tiles = new_tiles h ps; n = tile_count; off = off g; lap = lap_done g; ended = ended g })) g
  settle_score (suc k) h x y ps = scored (refused (suc k)) h

  unfoldable pub score : History → Told → Scored
  score h (drive a ms) = drive_score (drive_number h a ms) h a ms
  score h (settle k x y ps) = settle_score (settle_number h k x y ps) h x y ps

  -- the answers to a list of calls, in order
  unfoldable pub scores : History → List Told → List Answer
  scores h [] = []
  scores h (t ∷ ts) = (score h t).answer ∷ scores (score h t).kept ts

  -- the calls kept after the list
  unfoldable pub kept_of : History → List Told → History
  kept_of h [] = h
  kept_of h (t ∷ ts) = kept_of (score h t).kept ts

  -- ---- saves and restores: it answers neither, and they are refused for these causes alone

  -- 5 while a settle is due, then 2 by the output's length
  unfoldable pub save_number : History → ℕ → ℕ
  save_number h room = cond (ltb (settles h) (drives h)) 5 (cond (ltb room save_room) 2 0)

  -- 11 where there is no such save, then 2 by the lent lengths
  unfoldable pub restore_number : KeptCalls → LentLengths → ℕ → ℕ
  restore_number k l i = cond (leb (length k.saves) i) 11 (cond (short_columns tile_count l.tiles l.offsets) 2 0)

  -- by the number: an accepted save notes the accepted calls, an accepted restore makes them again those that it had at its save
  unfoldable pub noted : ℕ → KeptCalls → KeptCalls
  noted zero k = kept_calls k.calls (k.calls ∷ k.saves)
  noted (suc j) k = k

  unfoldable pub taken_up : ℕ → KeptCalls → ℕ → KeptCalls
  taken_up zero k i = kept_calls (get_or k.saves i k.calls) k.saves
  taken_up (suc j) k i = k

  -- the calls kept after an item
  unfoldable pub after_item : KeptCalls → Item → KeptCalls
  after_item k (call t) = kept_calls (score k.calls t).kept k.saves
  after_item k (save room) = noted (save_number k.calls room) k
  after_item k (restore l i) = taken_up (restore_number k l i) k i

  -- and after a list of items
  unfoldable pub after_items : KeptCalls → List Item → KeptCalls
  after_items k [] = k
  after_items k (i ∷ is) = after_items (after_item k i) is
