-- Numbers, words and floats as bytes: how long they are, and that they are read back. Assumes nothing.
use Prim.Native.Nat.{ℕ, zero, suc, ◌+◌, ◌*◌, ◌-◌, ◌/◌, ◌%◌, ◌^◌, ◌≤◌, ◌<◌, min}
use mathlib.Core.Path.{◌≡◌, refl, sym, ap, ap₂, ◌∙◌}
use mathlib.Core.Bool.{Bool, true, false, cond, true≢false}
use Rattle.std.specs.Bool.{MatchBool}
use Rattle.std.specs.List.{AllWithin, HoldsAt}
use Rattle.std.proofs.lemmas.List.Recursion.{and_is}
use mathlib.Core.List.{List, [], ◌∷◌, ◌++◌, append-nil}
use native.Mathlib.Nat.{pow-suc, pow-le-pow_right, div-div-eq-div-mul}
use native.Mathlib.Numerals.{add-one}
use native.Mathlib.Omega.{arith}
use lib.ListN.{length, get_or, take, drop, length-append, length-drop, length-take, length-replicate, drop_of_length-le, replicate}
use Rattle.form.specs.Rules.Form.{map_in}
use Rattle.std.specs.Int.{w16, w64, byte_at, bytes_low_first, to_le_bytes, from_le_bytes}
use Rattle.std.specs.Simd.{first_chunks}
use Rattle.std.specs.Prelude.{Result, Ok}
use Rattle.form.specs.declared.short.TooShort.{TooShort}
use lib.Seq.{take_at, drop_at, drop-cons, drop-drop, sets}
use lib.Dec.{T, eqb, leb}
use lib.Ieee.{Float, binary64, fits, to_bits, of_bits}
use lib.Ieee.Bits.{of_bits-to_bits, to_bits-lt}
use borrow.Author.Tests.{le-leb, lt-leb, leb-true, leb-false}
use Rattle.form.proofs.Filling.{Filling, sets-front, begins, goes_on, ends, part-on, part-long}
use Rattle.form.specs.Rules.Bytes.{low, number, all_zero, each_bytes, each_from, word_bytes, words_from, float_bytes, floats_from, Leaves, leaves, too_short, store, fill_each, fill_words, fill_floats}

-- ---- numbers
pub low-length : (k v : ℕ) → length (low k v) ≡ k
unfolding low
low-length zero v = refl
low-length (suc k) v = ap suc (low-length k (v / 256))

-- the first of more bytes
low-first : (k n v : ℕ) → k ≤ n → take k (low n v) ≡ low k v
unfolding low
low-first zero n v h = refl
low-first (suc k) zero v h = absurd (omega (arith, h))
low-first (suc k) (suc n) v h = ap (λ (l : List ℕ). v % 256 ∷ l) (low-first k n (v / 256) (omega (arith, h)))

-- past the bytes of a number stand zeros
low-zeros : (k : ℕ) → low k 0 ≡ replicate k 0
unfolding low
low-zeros zero = refl
low-zeros (suc k) = ap (λ (l : List ℕ). 0 ∷ l) (low-zeros k)

low-past : (k j v : ℕ) → v < 256 ^ k → low (k + j) v ≡ low k v ++ replicate j 0
unfolding low
low-past zero j v h =
    let z : v ≡ 0 = omega (arith, h) in
    let n : 0 + j ≡ j = omega arith in
    ap₂ low n z ∙ low-zeros j
low-past (suc k) j v h =
    let n : suc k + j ≡ suc (k + j) = omega arith in
    ap (λ (i : ℕ). low i v) n ∙ ap (λ (l : List ℕ). v % 256 ∷ l) (low-past k j (v / 256) (omega (arith, h, pow-suc 256 k)))

pub low-padded : (k n v : ℕ) → v < 2 ^ 64 → n ≡ min k 8 → low k v ≡ low n v ++ replicate (k - n) 0
low-padded k n v h e = go (leb k 8) refl
  where
    go : (b : Bool) → leb k 8 ≡ b → low k v ≡ low n v ++ replicate (k - n) 0
    go true a =
        let m : k ≡ n = omega (arith, leb-true k 8 a, e) in
        let z : k - n ≡ 0 = omega (arith, m) in
        ap (λ (i : ℕ). low i v) m ∙ sym (append-nil (low n v)) ∙ sym (ap (λ (i : ℕ). low n v ++ replicate i 0) z)
    go false a =
        let m : n ≡ 8 = omega (arith, leb-false k 8 a, e) in
        let s : k ≡ 8 + (k - n) = omega (arith, leb-false k 8 a, m) in
        ap (λ (i : ℕ). low i v) s ∙ low-past 8 (k - n) v h ∙ ap (λ (i : ℕ). low i v ++ replicate (k - n) 0) (sym m)

-- the bytes as the library's functions say them
byte-is : (i v : ℕ) → v / 256 ^ i % 256 ≡ byte_at i v
byte-is zero v = omega arith
byte-is (suc i) v = refl

low-from : (k i v : ℕ) → low k (v / 256 ^ i) ≡ bytes_low_first i k v
unfolding low
low-from zero i v = refl
low-from (suc k) i v =
    ap₂ (λ (b : ℕ) (l : List ℕ). b ∷ l) (byte-is i v) (ap (low k) (div-div-eq-div-mul v (256 ^ i) 256 ∙ ap (λ (p : ℕ). v / p) (sym (pow-suc 256 i))) ∙ low-from k (suc i) v)

pub low-said : (k v : ℕ) → low k v ≡ bytes_low_first 0 k v
low-said k v = let e : v ≡ v / 256 ^ 0 = omega arith in ap (low k) e ∙ low-from k 0 v

-- some of the eight bytes of a number
pub low-taken : (n v : ℕ) → n ≤ 8 → take n (to_le_bytes w64 v) ≡ low n v
low-taken n v h = ap (take n) (sym (low-said 8 v)) ∙ low-first n 8 v h

pub number-back : (k v : ℕ) → v < 256 ^ k → number (low k v) ≡ v
unfolding number low
number-back zero v h = omega (arith, h)
number-back (suc k) v h =
    let g : v / 256 < 256 ^ k = omega (arith, h, pow-suc 256 k) in
    ap (λ (z : ℕ). v % 256 + 256 * z) (number-back k (v / 256) g) ∙ omega arith

-- ---- a test of all bytes, as `all` answers it
pub zeros-found : (bs : List ℕ) (r : Bool) → MatchBool r (AllWithin (λ (b : ℕ). eqb b 0 ≡ true) bs 0 (length bs)) ((k : ℕ) × (k < length bs) × HoldsAt (λ (b : ℕ). eqb b 0 ≡ false) bs k)
    → r ≡ all_zero bs
unfolding all_zero
zeros-found bs true h = and_is all_zero (λ (b : ℕ). eqb b 0) refl (λ _ _. refl) bs 0 true (λ e i l. h i 0 (omega arith) l) (λ e. absurd (true≢false e))
zeros-found bs false h = and_is all_zero (λ (b : ℕ). eqb b 0) refl (λ _ _. refl) bs 0 false (λ e. absurd (true≢false (sym e))) (λ e. (h.0, h.1, h.2 0))

-- ---- what is stored where there is room, and where there is none
pub store-room : (bs out : List ℕ) → length bs ≤ length out → store bs out ≡ leaves (Ok tt) (bs ++ drop (length bs) out)
unfolding store
store-room bs out h = ap (λ (b : Bool). cond b (leaves (Ok tt) (bs ++ drop (length bs) out)) (leaves too_short out)) (le-leb _ _ h)

pub stored : (bs out out' : List ℕ) → length bs ≤ length out → out' ≡ bs ++ drop (length bs) out → leaves (Ok tt) out' ≡ store bs out
stored bs out out' h e = ap (leaves (Ok tt)) e ∙ sym (store-room bs out h)

-- an output that is just long enough
pub stored-whole : (bs out out' : List ℕ) (r : Result Unit TooShort) → length bs ≡ length out → leaves r out' ≡ store bs out → out' ≡ bs
stored-whole bs out out' r n e =
    let k : length out ≤ length bs = omega (arith, n) in
    ap (λ (l : Leaves ℕ). l.list) (e ∙ store-room bs out (omega (arith, n)))
    ∙ ap (λ (l : List ℕ). bs ++ l) (drop_of_length-le out k) ∙ append-nil bs

pub store-short : (bs out : List ℕ) → length out < length bs → store bs out ≡ leaves too_short out
unfolding store
store-short bs out h = ap (λ (b : Bool). cond b (leaves (Ok tt) (bs ++ drop (length bs) out)) (leaves too_short out)) (lt-leb _ _ h)

-- a number's bytes are put, then the zeros past them
pub number-put : (k n v : ℕ) (out p z : List ℕ) → v < 2 ^ 64 → n ≡ min k 8 → k ≤ length out → p ≡ take n (to_le_bytes w64 v) → z ≡ replicate (length (take (k - n) (drop n (p ++ drop n out)))) 0
    → take n (p ++ drop n out) ++ (z ++ drop (k - n) (drop n (p ++ drop n out))) ≡ low k v ++ drop (length (low k v)) out
number-put k n v out p z h m r e q =
    let few : n ≤ k = omega (arith, m) in
    let eight : n ≤ 8 = omega (arith, m) in
    let long : length (low n v) ≡ n = low-length n v in
    let front : p ++ drop n out ≡ sets out 0 (low n v) =
    ap₂ (λ (l : List ℕ) (j : ℕ). l ++ drop j out) (e ∙ low-taken n v eight) (sym long) ∙ sym (sets-front (low n v) out (omega (arith, long, few, r))) in
    let k1 = goes_on (p ++ drop n out) n (low n v) (replicate (k - n) 0) (begins out (low k v) (low k v) refl) (low-padded k n v h m) front (omega (arith, long)) in
    let zeros : length (replicate {A = ℕ} (k - n) 0) ≡ k - n = length-replicate (k - n) 0 in
    let past = q ∙ ap (λ (j : ℕ). replicate j 0) (part-long (p ++ drop n out) n k few (omega (arith, k1.same, r))) in
    ends (part-on z (replicate (k - n) 0) [] k k k1 (sym (append-nil (replicate (k - n) 0))) past (omega (arith, zeros, few)) (omega (arith, k1.same, r)) refl) refl (omega (arith, low-length k v, r))

-- ---- the number of eight bytes, as the library's functions say it
number-next : (l : List ℕ) (i : ℕ) → number (drop i l) ≡ get_or l i 0 + 256 * number (drop (suc i) l)
unfolding number
number-next [] zero = refl
number-next [] (suc i) = refl
number-next (b ∷ l) zero = refl
number-next (b ∷ l) (suc i) = number-next l i

number-past : (l : List ℕ) (i : ℕ) → length l ≤ i → number (drop i l) ≡ 0
unfolding number
number-past l i h = ap number (drop_of_length-le l h)

eight-said : (l : List ℕ) → length l ≤ 8 → number l ≡ from_le_bytes w64 l
eight-said l h =
    omega (arith, number-next l 0, number-next l 1, number-next l 2, number-next l 3, number-next l 4, number-next l 5, number-next l 6, number-next l 7, number-past l 8 h)

-- the map of a form
pub map-said : (bs first : List ℕ) → first ≡ take 2 bs → from_le_bytes w16 first ≡ map_in bs
unfolding map_in
map-said bs first e =
    let l = take 2 bs in
    let few : length l ≤ 2 = omega (arith, length-take 2 bs) in
    let said : number l ≡ from_le_bytes w16 l = omega (arith, number-next l 0, number-next l 1, number-past l 2 few) in
    ap (from_le_bytes w16) e ∙ sym said

-- the number of the eight bytes at a place, in a list cut into eights
chunk-at : (n i : ℕ) (bs : List ℕ) → i < n → get_or (first_chunks 8 n bs) i [] ≡ take 8 (drop (i * 8) bs)
chunk-at zero i bs h = absurd (omega (arith, h))
chunk-at (suc n) zero bs h = refl
chunk-at (suc n) (suc i) bs h =
    let j : 8 + i * 8 ≡ suc i * 8 = omega arith in
    chunk-at n i (drop 8 bs) (omega (arith, h)) ∙ ap (take 8) (drop-drop (i * 8) 8 bs ∙ ap (λ (k : ℕ). drop k bs) j)

pub chunk-said : (n i : ℕ) (bs : List ℕ) (cs : List (List ℕ)) → i < n → cs ≡ first_chunks 8 n bs → from_le_bytes w64 (get_or cs i []) ≡ number (take 8 (drop (i * 8) bs))
chunk-said n i bs cs h q =
    let few : length (take 8 (drop (i * 8) bs)) ≤ 8 = omega (arith, length-take 8 (drop (i * 8) bs)) in
    ap (from_le_bytes w64) (ap (λ (ls : List (List ℕ)). get_or ls i []) q ∙ chunk-at n i bs h) ∙ sym (eight-said (take 8 (drop (i * 8) bs)) few)

-- zeros behind the bytes of a number change nothing
zeros-say : (k n : ℕ) → number (drop n (replicate k 0)) ≡ 0
unfolding number
zeros-say zero zero = refl
zeros-say zero (suc n) = refl
zeros-say (suc k) zero = omega (arith, zeros-say k 0)
zeros-say (suc k) (suc n) = zeros-say k n

padded : (bs zs : List ℕ) → number zs ≡ 0 → number (bs ++ zs) ≡ number bs
unfolding number
padded [] zs h = h
padded (b ∷ bs) zs h = ap (λ (n : ℕ). b + 256 * n) (padded bs zs h)

pub number_read : (bs p : List ℕ) → length bs ≤ 8 → p ≡ bs → from_le_bytes w64 (p ++ drop (length bs) (replicate 8 0)) ≡ number bs
number_read bs p h e =
    let zs = drop (length bs) (replicate 8 0) in
    let n : length (p ++ zs) ≤ 8 = omega (arith, h, ap length e, length-append p zs, length-drop (length bs) (replicate {A = ℕ} 8 0)) in
    sym (eight-said (p ++ zs) n) ∙ ap (λ (l : List ℕ). number (l ++ zs)) e ∙ padded bs zs (zeros-say 8 (length bs))

-- ---- bytes say a number that they have room for
pub power-grows : (k n : ℕ) → k ≤ n → 256 ^ k ≤ 256 ^ n
power-grows k n h = pow-le-pow_right {n = 256} (omega arith) h

abbrev pub Bytes : List ℕ → Type 0
Bytes bs = (i : ℕ) → get_or bs i 0 < 256

pub number_small : (bs : List ℕ) → Bytes bs → number bs < 256 ^ length bs
unfolding number
number_small [] h = omega arith
number_small (b ∷ bs) h = omega (arith, h 0, number_small bs (λ i. h (suc i)), pow-suc 256 (length bs))

-- and they are the bytes of that number
pub bytes_back : (bs : List ℕ) → Bytes bs → low (length bs) (number bs) ≡ bs
unfolding number low
bytes_back [] h = refl
bytes_back (b ∷ bs) h =
    let l : (b + 256 * number bs) % 256 ≡ b = omega (arith, h 0) in
    let r : (b + 256 * number bs) / 256 ≡ number bs = omega (arith, h 0) in
    ap₂ (λ (x y : ℕ). x ∷ low (length bs) y) l r ∙ ap (λ (t : List ℕ). b ∷ t) (bytes_back bs (λ i. h (suc i)))

-- ---- lists of eight bytes an element
next-eight : (i : ℕ) (bs : List ℕ) → drop 8 (drop (i * 8) bs) ≡ drop ((i + 1) * 8) bs
next-eight i bs = let e : i * 8 + 8 ≡ (i + 1) * 8 = omega arith in drop-drop 8 (i * 8) bs ∙ ap (λ (j : ℕ). drop j bs) e

module _ {A : Type 0} (f : A → ℕ) where
  pub each-length : (xs : List A) → length (each_bytes f xs) ≡ 8 * length xs
  unfolding each_bytes
  each-length [] = refl
  each-length (x ∷ xs) = omega (arith, length-append (low 8 (f x)) (each_bytes f xs), low-length 8 (f x), each-length xs)

  pub each_more : (xs : List A) (i : ℕ) (d : A) → i < length xs → each_bytes f (drop i xs) ≡ low 8 (f (get_or xs i d)) ++ each_bytes f (drop (i + 1) xs)
  unfolding each_bytes
  each_more xs i d h = ap (each_bytes f) (drop-cons xs i d h ∙ ap (λ (j : ℕ). get_or xs i d ∷ drop j xs) (sym (add-one i)))

  pub each_none : (xs : List A) (i : ℕ) → length xs ≤ i → each_bytes f (drop i xs) ≡ []
  unfolding each_bytes
  each_none xs i h = ap (each_bytes f) (drop_of_length-le xs h)

  -- one element more is put, in its eight bytes
  pub eight-on : (out out₀ p : List ℕ) (xs : List A) (i b : ℕ) (d : A) → Filling out out₀ (each_bytes f xs) (i * 8) (each_bytes f (drop i xs))
      → i < length xs → 8 * length xs ≤ length out₀ → b ≡ f (get_or xs i d) → p ≡ to_le_bytes w64 b
      → Filling (take (i * 8) out ++ (p ++ drop (i * 8 + 8 - i * 8) (drop (i * 8) out))) out₀ (each_bytes f xs) ((i + 1) * 8) (each_bytes f (drop (i + 1) xs))
  eight-on out out₀ p xs i b d k t h q e =
      let room : i * 8 + 8 ≤ length out = omega (arith, k.same, h, t) in
      part-on p (low 8 b) _ (i * 8 + 8) _ k (each_more xs i d t ∙ ap (λ (z : ℕ). low 8 z ++ each_bytes f (drop (i + 1) xs)) (sym q)) (e ∙ sym (low-said 8 b))
      (ap (λ (j : ℕ). i * 8 + j) (low-length 8 b)) room (omega arith)

module _ {A : Type 0} (g : ℕ → A) where
  pub from-none : (n i : ℕ) (bs : List ℕ) → n ≤ i → each_from g (n - i) bs ≡ []
  unfolding each_from
  from-none n i bs h = let e : n - i ≡ 0 = omega arith in ap (λ (j : ℕ). each_from g j bs) e

  pub from_more : (n i : ℕ) (x : A) (bs : List ℕ) → i < n → x ≡ g (number (take 8 (drop (i * 8) bs)))
      → each_from g (n - i) (drop (i * 8) bs) ≡ x ∷ each_from g (n - (i + 1)) (drop ((i + 1) * 8) bs)
  unfolding each_from
  from_more n i x bs h q =
      let e : n - i ≡ suc (n - (i + 1)) = omega arith in
      ap (λ (j : ℕ). each_from g j (drop (i * 8) bs)) e
      ∙ ap₂ (λ (y : A) (l : List ℕ). y ∷ each_from g (n - (i + 1)) l) (sym q) (next-eight i bs)

  pub from-length : (n : ℕ) (bs : List ℕ) → length (each_from g n bs) ≡ n
  unfolding each_from
  from-length zero bs = refl
  from-length (suc n) bs = ap suc (from-length n (drop 8 bs))

  pub fill-short : (bs : List ℕ) (xs : List A) → length bs < 8 * length xs → fill_each g bs xs ≡ leaves too_short xs
  unfolding fill_each
  fill-short bs xs h = ap (λ (b : Bool). cond b (leaves (Ok tt) (each_from g (length xs) bs)) (leaves too_short xs)) (lt-leb _ _ h)

  pub fill-room : (bs : List ℕ) (xs xs' : List A) → 8 * length xs ≤ length bs → xs' ≡ each_from g (length xs) bs → leaves (Ok tt) xs' ≡ fill_each g bs xs
  unfolding fill_each
  fill-room bs xs xs' h e = ap (leaves (Ok tt)) e ∙ sym (ap (λ (b : Bool). cond b (leaves (Ok tt) (each_from g (length xs) bs)) (leaves too_short xs)) (le-leb _ _ h))

-- what is written is read back, where each element is that of its number and the number fits eight bytes
abbrev pub All : {A : Type 0} → (A → Type 0) → List A → Type 0
All P [] = Unit
All P (x ∷ xs) = P x × All P xs

module _ {A : Type 0} (f : A → ℕ) (g : ℕ → A) (Good : A → Type 0) (small : (x : A) → Good x → f x < 256 ^ 8) (back : (x : A) → Good x → g (f x) ≡ x) where
  each_back : (xs : List A) → All Good xs → each_from g (length xs) (each_bytes f xs) ≡ xs
  unfolding each_from each_bytes
  each_back [] h = refl
  each_back (x ∷ xs) h =
      ap₂ (λ (p q : List ℕ). g (number p) ∷ each_from g (length xs) q) (take_at (low 8 (f x)) (each_bytes f xs) 8 (low-length 8 (f x))) (drop_at (low 8 (f x)) (each_bytes f xs) 8 (low-length 8 (f x)))
      ∙ ap₂ (λ (y : A) (l : List A). y ∷ l) (ap g (number-back 8 (f x) (small x h.0)) ∙ back x h.0) (each_back xs h.1)

abbrev pub Word : ℕ → Type 0
Word w = w < 256 ^ 8

abbrev pub Fitting : Float → Type 0
Fitting x = T (fits binary64 x)

float_small : (x : Float) → Fitting x → to_bits binary64 x < 256 ^ 8
float_small x h = to_bits-lt binary64 x h

pub words_back : (ws : List ℕ) → All Word ws → words_from (length ws) (word_bytes ws) ≡ ws
words_back = each_back (λ (w : ℕ). w) (λ (w : ℕ). w) Word (λ w h. h) (λ w h. refl)

-- every float of the format, NaN and infinities among them
pub float_back : (xs : List Float) → All Fitting xs → floats_from (length xs) (float_bytes xs) ≡ xs
float_back = each_back (to_bits binary64) (of_bits binary64) Fitting float_small (of_bits-to_bits binary64)

-- what `put` and `read` promise, at words and at floats
words-put : (ws out : List ℕ) → store (each_bytes (λ (w : ℕ). w) ws) out ≡ store (word_bytes ws) out
words-put ws out = refl

floats-put : (xs : List Float) (out : List ℕ) → store (each_bytes (to_bits binary64) xs) out ≡ store (float_bytes xs) out
floats-put xs out = refl

words-filled : (bs ws : List ℕ) → fill_each (λ (w : ℕ). w) bs ws ≡ fill_words bs ws
words-filled bs ws = refl

floats-filled : (bs : List ℕ) (xs : List Float) → fill_each (of_bits binary64) bs xs ≡ fill_floats bs xs
floats-filled bs xs = refl
