-- Document 01, "Rust with no Rattle counterpart": Rust's methods on f64, at NaN and −0 too; and the range test of cause 8. Assumes nothing.
use Rattle.std.specs.Prelude.{Bool, false, cond, ◌&&◌, is_nan, Float}
use Rattle.std.specs.Float.{nan, inf, fin}
use Rattle.std.specs.Float.Ieee.{lt, le, neg}
use Rattle.course.specs.Rules.Arithmetic.{natural}
use Rattle.course.specs.Rules.Constants.{f64_max, f64_min}

-- abs: the sign cleared, also of −0; NaN gives NaN
unfoldable pub abs_of : Float → Float
abs_of nan = nan
abs_of (inf s) = inf false
abs_of (fin s m e) = fin false m e

-- min and max: the other where one is NaN; the first where the two are equal, as 0 and −0 are
unfoldable pub min_of : Float → Float → Float
min_of a b = cond (lt b a) b (cond (is_nan a) b a)

unfoldable pub max_of : Float → Float → Float
max_of a b = cond (lt a b) b (cond (is_nan a) b a)

-- the least and the greatest of four numbers, folded as in the Rust, from f64::MAX and f64::MIN: a NaN is passed over
unfoldable pub least_of : Float → Float → Float → Float → Float
least_of a b c d = min_of (min_of (min_of (min_of f64_max a) b) c) d

unfoldable pub greatest_of : Float → Float → Float → Float → Float
greatest_of a b c d = max_of (max_of (max_of (max_of f64_min a) b) c) d

-- clamp: raised to lo, then lowered to hi; NaN stays NaN
unfoldable pub clamp_of : Float → Float → Float → Float
clamp_of x lo hi = cond (lt x lo) (cond (lt hi lo) hi lo) (cond (lt hi x) hi x)

-- signum: by the sign, also of −0 and 0; NaN gives NaN
unfoldable pub signum_of : Float → Float
signum_of nan = nan
signum_of (inf s) = cond s (neg (natural 1)) (natural 1)
signum_of (fin s m e) = cond s (neg (natural 1)) (natural 1)

-- x is finite and from −bound to bound, for a finite bound
unfoldable pub within : Float → Float → Bool
within bound x = le (neg bound) x && le x bound
