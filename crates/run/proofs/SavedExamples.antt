-- Worked saves, byte for byte. Assumes nothing.
use mathlib.Core.Bool.{Bool, true, false}
use mathlib.Core.List.{List, [], ◌∷◌, ◌++◌}
use mathlib.Core.Path.{◌≡◌, refl}
use Prim.Native.Nat.{ℕ, ◌+◌, ◌-◌, ◌^◌}
use lib.ListN.{length, replicate}
use lib.Ieee.{Float, binary64, nan, neg, to_bits, of_bits}
use Rattle.course.specs.Rules.Arithmetic.{nought}
use Rattle.form.specs.Rules.Bytes.{low, all_zero, each_bytes}
use Rattle.form.specs.Rules.Form.{map_of, standing, packed}
use Rattle.run.specs.Grader.Widths.{full_words, most_tiles}
use Rattle.run.specs.Grader.Numbers.{control_count, pose_count}
use Rattle.run.specs.Grader.Saved.{Fields, flags_of, narrow_part, wide_part, ten_fields, bytes_of, saved_form, seeds_ok}

-- by seed, lap share, tick limit, tick, all flags, fuel and tile count; zeros else
abbrev fields : ℕ → Float → ℕ → ℕ → Bool → Float → ℕ → Fields
fields seed share limit tick flags fuel n =
    record {
      seed = seed;
      share = share;
      limit = limit;
      tick = tick;
      credited = replicate full_words 0;
      lap = flags;
      ended = flags;
      fallback = flags;
      fuel = fuel;
      controls = replicate control_count nought;
      poses = replicate pose_count nought;
      n = n;
    }

-- the smallest that a restore takes
least : saved_form (fields 0 nought 1 0 false nought 1) ≡ 0x04 ∷ 0x02 ∷ 0x01 ∷ 0 ∷ 0 ∷ 0 ∷ 0x01 ∷ 0 ∷ []
unfolding saved_form bytes_of ten_fields narrow_part wide_part flags_of packed map_of standing low all_zero each_bytes to_bits of_bits
least = refl

-- a tick at the greatest limit, every flag
late :
    saved_form (fields 0 nought 1000000 1000000 true nought 2)
    ≡ 0x2c ∷ 0x02 ∷ 0x40 ∷ 0x42 ∷ 0x0f ∷ 0 ∷ 0x40 ∷ 0x42 ∷ 0x0f ∷ 0 ∷ 0x07 ∷ 0x02 ∷ 0 ∷ []
unfolding saved_form bytes_of ten_fields narrow_part wide_part flags_of packed map_of standing low all_zero each_bytes to_bits of_bits
late = refl

-- the most tiles
many : saved_form (fields 0 nought 1 0 false nought most_tiles) ≡ 0x04 ∷ 0x02 ∷ 0x01 ∷ 0 ∷ 0 ∷ 0 ∷ 0xc4 ∷ 0x09 ∷ []
unfolding saved_form bytes_of ten_fields narrow_part wide_part flags_of packed map_of standing low all_zero each_bytes to_bits of_bits
many = refl

-- -0.0 and NaN are no zeros
fuel-minus-zero :
    saved_form (fields 0 nought 1 0 false (neg nought) 1) ≡ 0x44 ∷ 0x02 ∷ 0x01 ∷ 0 ∷ 0 ∷ 0 ∷ 0 ∷ 0 ∷ 0 ∷ 0 ∷ 0 ∷ 0 ∷ 0 ∷ 0x80 ∷ 0x01 ∷ 0 ∷ []
unfolding saved_form bytes_of ten_fields narrow_part wide_part flags_of packed map_of standing low all_zero each_bytes to_bits of_bits neg
fuel-minus-zero = refl

fuel-nan :
    saved_form (fields 0 nought 1 0 false nan 1) ≡ 0x44 ∷ 0x02 ∷ 0x01 ∷ 0 ∷ 0 ∷ 0 ∷ 0 ∷ 0 ∷ 0 ∷ 0 ∷ 0 ∷ 0 ∷ 0xf8 ∷ 0x7f ∷ 0x01 ∷ 0 ∷ []
unfolding saved_form bytes_of ten_fields narrow_part wide_part flags_of packed map_of standing low all_zero each_bytes to_bits of_bits
fuel-nan = refl

share-minus-zero :
    saved_form (fields 0 (neg nought) 1 0 false nought 1) ≡ 0x06 ∷ 0x02 ∷ 0 ∷ 0 ∷ 0 ∷ 0 ∷ 0 ∷ 0 ∷ 0 ∷ 0x80 ∷ 0x01 ∷ 0 ∷ 0 ∷ 0 ∷ 0x01 ∷ 0 ∷ []
unfolding saved_form bytes_of ten_fields narrow_part wide_part flags_of packed map_of standing low all_zero each_bytes to_bits of_bits neg
share-minus-zero = refl

-- ---- order 3: the greatest seed of bit 0, and seeds of bit 10
narrow-most :
    saved_form (fields (2 ^ 32 - 1) nought 1 0 false nought 1)
    ≡ 0x05 ∷ 0x02 ∷ 0xff ∷ 0xff ∷ 0xff ∷ 0xff ∷ 0x01 ∷ 0 ∷ 0 ∷ 0 ∷ 0x01 ∷ 0 ∷ []
unfolding saved_form bytes_of ten_fields narrow_part wide_part flags_of packed map_of standing low all_zero each_bytes to_bits of_bits
narrow-most = refl

wide-least :
    saved_form (fields (2 ^ 32) nought 1 0 false nought 1)
    ≡ 0x04 ∷ 0x06 ∷ 0x01 ∷ 0 ∷ 0 ∷ 0 ∷ 0x01 ∷ 0 ∷ 0 ∷ 0 ∷ 0 ∷ 0 ∷ 0x01 ∷ 0 ∷ 0 ∷ 0 ∷ []
unfolding saved_form bytes_of ten_fields narrow_part wide_part flags_of packed map_of standing low all_zero each_bytes to_bits of_bits
wide-least = refl

wide-late :
    saved_form (fields (2 ^ 32 + 7) nought 1000000 1000000 true nought 2)
    ≡ 0x2c ∷ 0x06 ∷ 0x40 ∷ 0x42 ∷ 0x0f ∷ 0 ∷ 0x40 ∷ 0x42 ∷ 0x0f ∷ 0 ∷ 0x07 ∷ 0x02 ∷ 0 ∷ 0x07 ∷ 0 ∷ 0 ∷ 0 ∷ 0x01 ∷ 0 ∷ 0 ∷ 0 ∷ []
unfolding saved_form bytes_of ten_fields narrow_part wide_part flags_of packed map_of standing low all_zero each_bytes to_bits of_bits
wide-late = refl

-- both seeds, a smaller one in bit 10, and the greatest
seeds-judged : (seeds_ok 1 (2 ^ 32 + 1) ≡ false) × (seeds_ok 0 (2 ^ 32 - 1) ≡ false) × (seeds_ok 0 (2 ^ 64 - 1) ≡ true)
unfolding seeds_ok
seeds-judged = (refl, refl, refl)

-- ---- six tiles, of which 0, 3 and 4 are credited, and all wheels at (0, 0), their cosine 1
abbrev half : Float
half = of_bits binary64 0x3fe0000000000000

abbrev one : Float
one = of_bits binary64 0x3ff0000000000000

abbrev pose : List Float
pose = nought ∷ nought ∷ one ∷ nought ∷ []

abbrev on_road : Fields
on_road =
    record {
      seed = 7;
      share = half;
      limit = 10;
      tick = 0;
      credited = 0x19 ∷ replicate 39 0;
      lap = false;
      ended = false;
      fallback = false;
      fuel = nought;
      controls = replicate control_count nought;
      poses = pose ++ (pose ++ (pose ++ pose));
      n = 6;
    }

abbrev pose_written : List ℕ
pose_written = replicate 16 0 ++ (0 ∷ 0 ∷ 0 ∷ 0 ∷ 0 ∷ 0 ∷ 0xf0 ∷ 0x3f ∷ replicate 8 0)

on-road :
    saved_form on_road
    ≡ 0x17 ∷ 0x03 ∷ 0x07 ∷ 0 ∷ 0 ∷ 0 ∷ 0 ∷ 0 ∷ 0 ∷ 0 ∷ 0 ∷ 0 ∷ 0xe0 ∷ 0x3f ∷ 0x0a ∷ 0 ∷ 0 ∷ 0 ∷ 0x19
    ∷ (replicate 319 0 ++ (pose_written ++ (pose_written ++ (pose_written ++ (pose_written ++ (0x06 ∷ 0 ∷ []))))))
unfolding saved_form bytes_of ten_fields narrow_part wide_part flags_of packed map_of standing low all_zero each_bytes to_bits of_bits
on-road = refl

on-road-long : length (saved_form on_road) ≡ 468
unfolding saved_form bytes_of ten_fields narrow_part wide_part flags_of packed map_of standing low all_zero each_bytes to_bits of_bits
on-road-long = refl
