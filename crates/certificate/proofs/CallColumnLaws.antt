-- Calls and answers in columns: what is written over a column, and a list of calls with one more at its end. Assumes nothing.
use mathlib.Core.Path.{◌≡◌, refl, sym, ap, ap₂, ◌∙◌, subst}
use mathlib.Core.List.{List, [], ◌∷◌, ◌++◌, append_assoc}
use mathlib.Core.Bool.{true, ◌&&◌}
use Prim.Native.Nat.{ℕ, zero, suc, ◌+◌, ◌-◌, ◌*◌, ◌/◌, ◌≤◌, ◌<◌}
use native.Mathlib.Omega.{arith}
use Rattle.std.proofs.Math.Nat.{mul-zero, mul-suc}
use Rattle.std.proofs.lemmas.Nat.{le-div}
use native.Mathlib.Numerals.{add-one}
use lib.Dec.{leb}
use borrow.Author.Tests.{leb-true}
use lib.ListN.{length, get_or, take, drop, length-append}
use lib.Seq.{take_at, drop_at, drop-drop}
use lib.Ieee.{Float}
use Rattle.run.specs.Grader.State.{State, Columns}
use Rattle.certificate.specs.Grader.Calls.{Call, reply_of, replies_of, state_after}
use Rattle.run.specs.Grader.Numbers.{force_numbers}
use Rattle.certificate.specs.Grader.CallColumns.{answer_words, answer_numbers, words_of, numbers_of}
use Rattle.certificate.specs.Grader.CallColumns.{call_words, call_numbers, part_at, all_words, all_numbers}
use Rattle.certificate.specs.Steps.Replay.{call_from, calls_to, Replies}
use Rattle.certificate.specs.Grader.Replay.{room_for}
use Rattle.certificate.specs.declared.answer.Encoded.{Encoded}
use Rattle.course.proofs.BoolLaws.{and_left, and_right}
use Rattle.std.specs.Simd.{first_chunks}
use Rattle.std.specs.List.{flat_map}
use Rattle.std.proofs.lemmas.List.{flat_map_more}
use Rattle.certificate.specs.Rules.Answers.{Answer}
use Rattle.certificate.specs.Rules.Answers.Answer.{drove, settled, refused}

-- ---- a call more at the end of a list

pub replies-more : (m most : ℕ) (s : State) (cs : List Call) (c : Call)
    → replies_of m most s (cs ++ (c ∷ [])) ≡ replies_of m most s cs ++ ((reply_of m most (state_after m most s cs) c).answer ∷ [])
unfolding replies_of state_after
replies-more m most s [] c = refl
replies-more m most s (d ∷ cs) c = ap (λ (r : List Answer). (reply_of m most s d).answer ∷ r) (replies-more m most (reply_of m most s d).state cs c)

pub after_more : (m most : ℕ) (s : State) (cs : List Call) (c : Call) → state_after m most s (cs ++ (c ∷ [])) ≡ (reply_of m most (state_after m most s cs) c).state
unfolding state_after
after_more m most s [] c = refl
after_more m most s (d ∷ cs) c = after_more m most (reply_of m most s d).state cs c

-- ---- lengths: four words and twelve numbers to an answer, and an answer to a call

pub words-four : (r : Answer) → length (words_of r) ≡ 4
words-four (drove fs) = refl
words-four (settled v) = refl
words-four (refused k) = refl

pub numbers-twelve : (r : Answer) → length (numbers_of r) ≡ 12
unfolding force_numbers
numbers-twelve (drove fs) = refl
numbers-twelve (settled v) = refl
numbers-twelve (refused k) = refl

replies-long : (m most : ℕ) (s : State) (cs : List Call) → length (replies_of m most s cs) ≡ length cs
unfolding replies_of
replies-long m most s [] = refl
replies-long m most s (c ∷ cs) = ap suc (replies-long m most (reply_of m most s c).state cs)

pub calls-long : (l : Columns) (ws : List ℕ) (ns : List Float) (k : ℕ) → length (calls_to l ws ns k) ≡ k
unfolding calls_to
calls-long l ws ns zero = refl
calls-long l ws ns (suc k) =
    length-append (calls_to l ws ns k) (call_from l (part_at call_words ws k) (part_at call_numbers ns k) ∷ []) ∙ omega (arith, calls-long l ws ns k)

-- ---- columns that are read and written part by part

-- part i of the first n parts of k entries each
pub chunk_at : {A : Type 0} (k n i : ℕ) (l d : List A) → i < n → get_or (first_chunks k n l) i d ≡ part_at k l i
chunk_at k zero i l d h = absurd (omega (arith, h))
chunk_at {A} k (suc n) zero l d h = ap (λ (j : ℕ). take k (drop j l)) (sym (mul-zero k))
chunk_at {A} k (suc n) (suc i) l d h =
    chunk_at k n i (drop k l) d (omega (arith, h)) ∙ ap (take k) (drop-drop (k * i) k l ∙ ap (λ (j : ℕ). drop j l) (omega (arith, mul-suc k i)))

-- the parts that the words of calls are cut into, and their numbers
abbrev pub call_parts : List ℕ → List (List ℕ)
call_parts ws = first_chunks call_words (length ws / call_words) ws

abbrev pub given_parts : List Float → List (List Float)
given_parts ns = first_chunks call_numbers (length ns / call_numbers) ns

-- a part more behind what is written
part-more : {A : Type 0} (a k b : ℕ) (front p col col₀ : List A) → length front ≡ a → col ≡ front ++ drop a col₀ → a + k ≡ b
    → take a col ++ (p ++ drop (a + k - a) (drop a col)) ≡ (front ++ p) ++ drop b col₀
part-more {A} a k b front p col col₀ e h s =
    ap₂ (λ (x y : List A). x ++ (p ++ y))
    (ap (take a) h ∙ take_at front (drop a col₀) a e)
    (ap₂ (λ (j : ℕ) (x : List A). drop j x) (size a k) (ap (drop a) h ∙ drop_at front (drop a col₀) a e) ∙ drop-drop k a col₀ ∙ ap (λ (j : ℕ). drop j col₀) s)
    ∙ sym (append_assoc front p (drop b col₀))
  where
    size : (a k : ℕ) → a + k - a ≡ k
    size a k = omega arith

-- the answers rs, k entries to each, at the front of a column
module _ {A : Type 0} (f : Answer → List A) (k : ℕ) (each : (r : Answer) → length (f r) ≡ k) where
  all-long : (rs : List Answer) → length (flat_map f rs) ≡ k * length rs
  all-long [] = sym (mul-zero k)
  all-long (r ∷ rs) = length-append (f r) (flat_map f rs) ∙ ap₂ (λ (a b : ℕ). a + b) (each r) (all-long rs) ∙ omega (arith, mul-suc k (length rs))

  -- one more behind them
  one-more : (i : ℕ) (rs : List Answer) (r : Answer) (p col col₀ : List A) → length rs ≡ i → p ≡ f r → col ≡ flat_map f rs ++ drop (k * i) col₀
      → take (k * i) col ++ (p ++ drop (k * i + k - k * i) (drop (k * i) col)) ≡ flat_map f (rs ++ (r ∷ [])) ++ drop (k * (i + 1)) col₀
  one-more i rs r p col col₀ e q h =
      part-more (k * i) k (k * (i + 1)) (flat_map f rs) p col col₀ (all-long rs ∙ ap (λ (n : ℕ). k * n) e) h (sym (ap (λ (n : ℕ). k * n) (add-one i) ∙ mul-suc k i))
      ∙ ap (λ (x : List A). x ++ drop (k * (i + 1)) col₀) (ap (λ (x : List A). flat_map f rs ++ x) q ∙ flat_map_more f [] rs r)

-- where the columns have room for n calls, those of calls are cut into as many parts at least
pub parts-many : (n calls given words numbers : ℕ) → room_for n calls given words numbers ≡ true → (n ≤ calls / call_words) × (n ≤ given / call_numbers)
unfolding room_for
parts-many n calls given words numbers e =
    let rest = leb (answer_words * n) words && leb (answer_numbers * n) numbers in
    let of-words = leb-true (call_words * n) calls (and_left (leb (call_words * n) calls) (leb (call_numbers * n) given && rest) e) in
    let of-numbers = leb-true (call_numbers * n) given (and_left (leb (call_numbers * n) given) rest (and_right (leb (call_words * n) calls) (leb (call_numbers * n) given && rest) e)) in
    (le-div n calls call_words (omega arith) (omega (arith, of-words)), le-div n given call_numbers (omega arith) (omega (arith, of-numbers)))

-- ---- the calls one after the other

-- the answers to the first k calls of the columns
abbrev answers_to : ℕ → ℕ → State → Columns → List ℕ → List Float → ℕ → List Answer
answers_to m most s l ws ns k = replies_of m most s (calls_to l ws ns k)

answers-long : (m most : ℕ) (s : State) (l : Columns) (ws : List ℕ) (ns : List Float) (k : ℕ) → length (answers_to m most s l ws ns k) ≡ k
answers-long m most s l ws ns k = replies-long m most s (calls_to l ws ns k) ∙ calls-long l ws ns k

-- after i of the calls: the state, and the answers at the front of the columns W and N
pub record Replying (m most : ℕ) (l : Columns) (calls : List ℕ) (given : List Float) (s₀ : State) (W₀ : List ℕ) (N₀ : List Float) (many : ℕ) (s : State) (W : List ℕ) (N : List Float) (i : ℕ) : Type 0 where
  pub upto : i ≤ many
  pub state : s ≡ state_after m most s₀ (calls_to l calls given i)
  pub words : W ≡ all_words (answers_to m most s₀ l calls given i) ++ drop (4 * i) W₀
  pub numbers : N ≡ all_numbers (answers_to m most s₀ l calls given i) ++ drop (12 * i) N₀

pub no-reply : {m most : ℕ} {l : Columns} {calls : List ℕ} {given : List Float} {s₀ : State} {W₀ : List ℕ} {N₀ : List Float} {many : ℕ} → Replying m most l calls given s₀ W₀ N₀ many s₀ W₀ N₀ 0
unfolding calls_to replies_of state_after
no-reply = record { upto = omega arith; state = refl; words = refl; numbers = refl }

module _ {m most : ℕ} {l : Columns} {calls : List ℕ} {given : List Float} {s₀ : State} {W₀ : List ℕ} {N₀ : List Float} {many : ℕ} {s : State} {W : List ℕ} {N : List Float} {i : ℕ}
    (h : Replying m most l calls given s₀ W₀ N₀ many s W N i) where
  pub one-reply : {after : State} {w : Encoded} {x : List ℕ} {y : List Float} {p : List ℕ} {q : List Float} → i < many
      → Replies m most s (call_from l x y) after w → x ≡ part_at call_words calls i → y ≡ part_at call_numbers given i → p ≡ w.words → q ≡ w.numbers
      → Replying m most l calls given s₀ W₀ N₀ many after (take (4 * i) W ++ (p ++ drop (4 * i + 4 - 4 * i) (drop (4 * i) W))) (take (12 * i) N ++ (q ++ drop (12 * i + 12 - 12 * i) (drop (12 * i) N))) (i + 1)
  unfolding calls_to
  one-reply {after} {w} {x} {y} {p} {q} b a ex ey ep eq =
      let was = calls_to l calls given i in
      let c = call_from l (part_at call_words calls i) (part_at call_numbers given i) in
      let said = answers_to m most s₀ l calls given i in
      let r = (reply_of m most (state_after m most s₀ was) c).answer in
      let now : Replies m most (state_after m most s₀ was) c after w =
      subst (λ (z : State). Replies m most z c after w) h.state (subst (λ (z : Call). Replies m most s z after w) (ap₂ (call_from l) ex ey) a) in
      let more : calls_to l calls given (i + 1) ≡ was ++ (c ∷ []) = ap (calls_to l calls given) (add-one i) in
      let answers : said ++ (r ∷ []) ≡ answers_to m most s₀ l calls given (i + 1) = sym (ap (replies_of m most s₀) more ∙ replies-more m most s₀ was c) in
      record {
        upto = omega arith;
        state = now.state ∙ sym (after_more m most s₀ was c) ∙ ap (state_after m most s₀) (sym more);
        words =
            one-more words_of 4 words-four i said r p W W₀ (answers-long m most s₀ l calls given i) (ep ∙ ap (λ (z : Encoded). z.words) now.answer) h.words
            ∙ ap (λ (x : List Answer). all_words x ++ drop (4 * (i + 1)) W₀) answers;
        numbers =
            one-more numbers_of 12 numbers-twelve i said r q N N₀ (answers-long m most s₀ l calls given i) (eq ∙ ap (λ (z : Encoded). z.numbers) now.answer) h.numbers
            ∙ ap (λ (x : List Answer). all_numbers x ++ drop (12 * (i + 1)) N₀) answers;
      }

  -- all calls are answered
  pub all-replies : many ≤ i
      → (s ≡ state_after m most s₀ (calls_to l calls given many))
      × ((W ≡ all_words (answers_to m most s₀ l calls given many) ++ drop (4 * many) W₀) × (N ≡ all_numbers (answers_to m most s₀ l calls given many) ++ drop (12 * many) N₀))
  all-replies b =
      let e : i ≡ many = omega (arith, h.upto) in (
        h.state ∙ ap (λ (k : ℕ). state_after m most s₀ (calls_to l calls given k)) e,
        (
          h.words ∙ ap (λ (k : ℕ). all_words (answers_to m most s₀ l calls given k) ++ drop (4 * k) W₀) e,
          h.numbers ∙ ap (λ (k : ℕ). all_numbers (answers_to m most s₀ l calls given k) ++ drop (12 * k) N₀) e,
        ),
      )
