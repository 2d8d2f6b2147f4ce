-- The batch grader's columns: how a call stands in four words and twenty numbers, and its answer in four words and twelve numbers. Assumes nothing.
use Rattle.std.specs.Prelude.{cond, List, [], ◌∷◌, ℕ, zero, suc, ◌+◌, ◌*◌, ◌/◌, ◌%◌, eqb, get_or, take, drop, replicate, Float}
use Rattle.std.specs.List.{flat_map}
use Rattle.course.specs.Rules.Arithmetic.{nought}
use Rattle.course.specs.Rules.Counting.{digit}
use Rattle.certificate.specs.Rules.Answers.{Answer}
use Rattle.certificate.specs.Rules.Answers.Answer.{drove, settled, refused}
use Rattle.run.specs.Grader.Numbers.{forces_from, force_numbers}
use Rattle.run.specs.declared.settle.SettleValues.{SettleValues}

-- ---- widths of a call and of its answer

-- kind (0 for a drive, else a settle), action, and the lengths of the tiles and offsets that a settle is lent
abbrev pub call_words : ℕ
call_words = 4

-- a drive: per wheel joint angle, sin, cos, vx, vy; a settle: hull x, y, then per wheel x, y, cos, sin, and two that are not read
abbrev pub call_numbers : ℕ
call_numbers = 20

abbrev pub answer_words : ℕ
answer_words = 4

abbrev pub answer_numbers : ℕ
answer_numbers = 12

-- call i of a column, k entries to a call
abbrev pub part_at : {A : Type 0} → ℕ → List A → ℕ → List A
part_at k l i = take k (drop (k * i) l)

-- ---- an answer's words and numbers

-- the case, then its values: 0 for forces; 1 for a settle with new tiles, n and the flags off, lap and ended as 1, 2 and 4; 2 for a refusal with its number
abbrev pub words_of : Answer → List ℕ
words_of (drove fs) = 0 ∷ 0 ∷ 0 ∷ 0 ∷ []
words_of (settled v) = 1 ∷ v.new_tiles ∷ v.n ∷ (digit v.off + 2 * digit v.lap + 4 * digit v.ended) ∷ []
words_of (refused k) = 2 ∷ k ∷ 0 ∷ 0 ∷ []

-- the forces, or zeros
abbrev pub numbers_of : Answer → List Float
numbers_of (drove fs) = force_numbers fs
numbers_of (settled v) = replicate answer_numbers nought
numbers_of (refused k) = replicate answer_numbers nought

-- ---- a list of answers, one after the other

abbrev pub all_words : List Answer → List ℕ
all_words rs = flat_map words_of rs

abbrev pub all_numbers : List Answer → List Float
all_numbers rs = flat_map numbers_of rs

-- ---- and back: what the words and numbers say

-- a settle's values by its words: new tiles, n, and the flags off, lap and ended as bits
unfoldable pub values_from : ℕ → ℕ → ℕ → SettleValues
values_from new n flags = record { new_tiles = new; n = n; off = eqb (flags % 2) 1; lap = eqb (flags / 2 % 2) 1; ended = eqb (flags / 4) 1 }

-- the answer that four words and twelve numbers hold
unfoldable pub answer_from : List ℕ → List Float → Answer
answer_from ws ns =
    cond (eqb (get_or ws 0 0) 0) (drove (forces_from ns))
    (cond (eqb (get_or ws 0 0) 1) (settled (values_from (get_or ws 1 0) (get_or ws 2 0) (get_or ws 3 0)))
    (refused (get_or ws 1 0)))

-- the first n answers of two columns
unfoldable pub answers_from : ℕ → List ℕ → List Float → List Answer
answers_from zero ws ns = []
answers_from (suc n) ws ns = answer_from (take answer_words ws) (take answer_numbers ns) ∷ answers_from n (drop answer_words ws) (drop answer_numbers ns)
