-- Document 01, "Touch": the widths of a state's bit sets, each named once. Assumes nothing.
use Rattle.std.specs.Prelude.{ℕ}
use Rattle.course.specs.Rules.Lengths.{most_points}

-- words of a set of the full state: with a bit for each of `most_tiles`
abbrev pub full_words : ℕ
full_words = 40

-- the greatest n that the full state takes: that of a course
abbrev pub most_tiles : ℕ
most_tiles = most_points
