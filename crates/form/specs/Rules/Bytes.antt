-- Document 02, order 1: numbers, words and floats as bytes, the low byte first. Assumes nothing.
use Rattle.std.specs.Prelude.{Bool, true, cond, ◌&&◌, List, [], ◌∷◌, ◌++◌, ℕ, zero, suc, ◌+◌, ◌*◌, ◌/◌, ◌%◌, eqb, leb, length, take, drop, Float, Result, Ok, Err}
use Rattle.form.specs.declared.short.TooShort.{TooShort}
use Rattle.std.specs.Float.{binary64}
use Rattle.std.specs.Float.Ieee.{to_bits, of_bits}

-- the k low bytes of v
unfoldable pub low : ℕ → ℕ → List ℕ
low zero v = []
low (suc k) v = v % 256 ∷ low k (v / 256)

-- the number that bytes say
unfoldable pub number : List ℕ → ℕ
number [] = 0
number (b ∷ bs) = b + 256 * number bs

unfoldable pub all_zero : List ℕ → Bool
all_zero [] = true
all_zero (b ∷ bs) = eqb b 0 && all_zero bs

-- a list whose elements are eight bytes each, by the number of each, and back
unfoldable pub each_bytes : {A : Type 0} → (A → ℕ) → List A → List ℕ
each_bytes f [] = []
each_bytes f (x ∷ xs) = low 8 (f x) ++ each_bytes f xs

unfoldable pub each_from : {A : Type 0} → (ℕ → A) → ℕ → List ℕ → List A
each_from g zero bs = []
each_from g (suc k) bs = g (number (take 8 bs)) ∷ each_from g k (drop 8 bs)

abbrev pub word_bytes : List ℕ → List ℕ
word_bytes = each_bytes (λ (w : ℕ). w)

abbrev pub words_from : ℕ → List ℕ → List ℕ
words_from = each_from (λ (w : ℕ). w)

-- floats by their bits: `to_bits` has one pattern for NaN, 7ff8000000000000, and `of_bits` reads NaN from all of them
abbrev pub float_bytes : List Float → List ℕ
float_bytes = each_bytes (to_bits binary64)

abbrev pub floats_from : ℕ → List ℕ → List Float
floats_from = each_from (of_bits binary64)

-- what a call leaves in the list lent to it, and what it answers
pub record Leaves (A : Type 0) : Type 0 where
  pub answer : Result Unit TooShort
  pub list : List A

abbrev pub leaves : {A : Type 0} → Result Unit TooShort → List A → Leaves A
leaves r l = record { answer = r; list = l }

-- a list is too short
abbrev pub too_short : Result Unit TooShort
too_short = Err (record {})

-- bytes go to the front of an output and the rest stays; where they have no room, all of it stays
unfoldable pub store : List ℕ → List ℕ → Leaves ℕ
store bs out = cond (leb (length bs) (length out)) (leaves (Ok tt) (bs ++ drop (length bs) out)) (leaves too_short out)

-- a list is filled from the front of bytes; where these are too few, it stays
unfoldable pub fill_each : {A : Type 0} → (ℕ → A) → List ℕ → List A → Leaves A
fill_each g bs xs = cond (leb (8 * length xs) (length bs)) (leaves (Ok tt) (each_from g (length xs) bs)) (leaves too_short xs)

abbrev pub fill_words : List ℕ → List ℕ → Leaves ℕ
fill_words = fill_each (λ (w : ℕ). w)

abbrev pub fill_floats : List ℕ → List Float → Leaves Float
fill_floats = fill_each (of_bits binary64)
