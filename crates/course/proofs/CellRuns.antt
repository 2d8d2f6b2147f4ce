-- The loops over a run of places, one turn at a time. Assumes nothing.
use Rattle.std.proofs.Common.{◌≡◌, ℕ, zero, suc, ◌+◌, ◌-◌, ◌*◌, ◌<◌, ◌≤◌, max, ◌⊎◌, List, ◌++◌, length, get_or, take, drop, set, get_or-take, length-append, length-drop, length-take-le, sym, refl, ap, ◌∙◌, subst, inl, inr, ⊎_elim, mul-suc, add-one, arith, length-set, get_or-set_other, get_or-set_same}
use native.Mathlib.Decide.{ℕ_discrete}
use Rattle.std.proofs.lemmas.List.{get_or-drop, get_or-append_right}
use lib.ListN.{get_or-append}
use Rattle.course.proofs.IndexLaws.{order}
use Rattle.course.specs.Steps.Index.{Inside, RunCounted, RunPlaced, sum_below}

-- two numbers are equal or not
pub same? : (a b : ℕ) → (a ≡ b) ⊎ (a ≡ b → ⊥)
same? a b = go (ℕ_discrete a b)
  where
    go : Dec (a ≡ b) → (a ≡ b) ⊎ (a ≡ b → ⊥)
    go (yes p) = inl p
    go (no q) = inr q

-- what stands at j after a store at i
stored_at : (l : List ℕ) (i j v x : ℕ) → i < length l → (j ≡ i → v ≡ x) → ((j ≡ i → ⊥) → get_or l j 0 ≡ x) → get_or (set l i v) j 0 ≡ x
stored_at l i j v x b f g =
    ⊎_elim
    (λ e. subst (λ (k : ℕ). get_or (set l i v) k 0 ≡ x) (sym e) (get_or-set_same l i v 0 b ∙ f e))
    (λ ne. get_or-set_other l i j v 0 ne ∙ g ne)
    (same? j i)

-- ---- a run as a part of its column, which is lent alone
abbrev pub part_of : List ℕ → ℕ → ℕ → List ℕ
part_of o a m = take (m - a) (drop a o)

-- the column after p came in the part's place
abbrev pub joined_of : List ℕ → List ℕ → ℕ → ℕ → List ℕ
joined_of o p a m = take a o ++ (p ++ drop (m - a) (drop a o))

module _ (o : List ℕ) (a b m : ℕ) (is : m ≡ max a b) (room : m ≤ length o) where
  part-long : length (part_of o a m) ≡ m - a
  part-long = length-take-le (m - a) (drop a o) (omega (arith, length-drop a o))

  part-read : (k : ℕ) → k < m - a → get_or (part_of o a m) k 0 ≡ get_or o (a + k) 0
  part-read k h = get_or-take (m - a) (drop a o) k 0 h ∙ get_or-drop a o k 0

  -- a place of the part, as one of the run
  part-inside : (k : ℕ) → k < m - a → Inside a b (a + k)
  part-inside k h = record { from = omega arith; below = omega arith }

  -- what holds at each place of the run holds at each of the part
  pub part-each : (n : ℕ) → ((k : ℕ) → Inside a b k → get_or o k 0 < n) → (k : ℕ) → k < length (part_of o a m) → get_or (part_of o a m) k 0 < n
  part-each n f k h =
      let l : k < m - a = omega (arith, part-long) in
      omega (arith, part-read k l, f (a + k) (part-inside k l))

module _ (o p : List ℕ) (a b m : ℕ) (is : m ≡ max a b) (room : m ≤ length o) (long : length p ≡ length (part_of o a m)) where
  abbrev part : List ℕ
  part = part_of o a m

  abbrev joined : List ℕ
  joined = joined_of o p a m

  front-long : length (take a o) ≡ a
  front-long = length-take-le a o (omega arith)

  joined-long : length joined ≡ length o
  joined-long =
      omega (
        arith,
        length-append (take a o) (p ++ drop (m - a) (drop a o)),
        length-append p (drop (m - a) (drop a o)),
        length-drop (m - a) (drop a o),
        length-drop a o,
        front-long,
        part-long o a b m is room,
        long,
      )

  before : (k : ℕ) → k < a → get_or joined k 0 ≡ get_or o k 0
  before k h = get_or-append (take a o) _ 0 k (omega (arith, front-long)) ∙ get_or-take a o k 0 h

  within : (k : ℕ) → k < m - a → get_or joined (a + k) 0 ≡ get_or p k 0
  within k h =
      get_or-append_right (take a o) _ a (a + k) 0 front-long (omega arith)
      ∙ ap (λ (j : ℕ). get_or (p ++ drop (m - a) (drop a o)) j 0) (step a k)
      ∙ get_or-append p _ 0 k (omega (arith, long, part-long o a b m is room))
    where
      step : (a k : ℕ) → a + k - a ≡ k
      step a k = omega arith

  behind : (k : ℕ) → m ≤ k → get_or joined k 0 ≡ get_or o k 0
  behind k h =
      get_or-append_right (take a o) _ a k 0 front-long (omega arith)
      ∙ get_or-append_right p _ (m - a) (k - a) 0 (long ∙ part-long o a b m is room) (omega arith)
      ∙ get_or-drop (m - a) (drop a o) (k - a - (m - a)) 0
      ∙ get_or-drop a o (m - a + (k - a - (m - a))) 0
      ∙ ap (λ (j : ℕ). get_or o j 0) (back a m k (omega arith) h)
    where
      back : (a m k : ℕ) → a ≤ m → m ≤ k → a + (m - a + (k - a - (m - a))) ≡ k
      back a m k f g = omega arith

  -- a place of the run, as a place of the part
  place : (k : ℕ) → Inside a b k → k - a < m - a
  place k w = omega arith

  here : (k : ℕ) → Inside a b k → k ≡ a + (k - a)
  here k w = omega arith

  inside : (k : ℕ) → k < m - a → Inside 0 (length part) k
  inside k h = omega (arith, part-long o a b m is room)

  outside : (k : ℕ) → (Inside a b k → ⊥) → a ≤ k → m ≤ k
  outside k w h = ⊎_elim (λ l. absurd (w (record { from = h; below = l }))) (λ l. omega arith) (order k b)

  pub run-counted : RunCounted part p 0 (length part) → RunCounted o joined a b
  run-counted r =
      record {
        same = joined-long;
        hit = λ k w.
            let e = here k w in
            let h = place k w in
            ap (λ (j : ℕ). get_or joined j 0) e ∙ within (k - a) h ∙ r.hit (k - a) (inside (k - a) h)
            ∙ ap (λ (j : ℕ). j + 1) (part-read o a b m is room (k - a) h ∙ sym (ap (λ (j : ℕ). get_or o j 0) e));
        kept = λ k w. ⊎_elim (before k) (λ h. behind k (outside k w h)) (order k a);
      }

  pub run-placed : (l l' : List ℕ) (id : ℕ) → RunPlaced part l p l' id 0 (length part) → RunPlaced o l joined l' id a b
  run-placed l l' id r =
      record {
        cursors = run-counted r.cursors;
        same-list = r.same-list;
        placed = λ k w.
            let e = here k w in
            let h = place k w in
            ap (λ (j : ℕ). get_or l' j 0) (ap (λ (j : ℕ). get_or o j 0) e ∙ sym (part-read o a b m is room (k - a) h)) ∙ r.placed (k - a) (inside (k - a) h);
        other = λ j f. r.other j (λ k w e. f (a + k) (part-inside o a b m is room k (below k w)) (e ∙ part-read o a b m is room k (below k w)));
        either = r.either;
      }
    where
      below : (k : ℕ) → Inside 0 (length part) k → k < m - a
      below k w = omega (arith, part-long o a b m is room)

-- the sums up to below c are stored, and the elements from c on are still as they were
pub record SummedTo (o₀ o : List ℕ) (c : ℕ) : Type 0 where
  pub same : length o ≡ length o₀
  pub done : (d : ℕ) → d < c → get_or o d 0 ≡ sum_below o₀ (d + 1)
  pub left : (d : ℕ) → c ≤ d → get_or o d 0 ≡ get_or o₀ d 0

pub sum_more : (o : List ℕ) (c : ℕ) → sum_below o (c + 1) ≡ sum_below o c + get_or o c 0
unfolding sum_below
sum_more o c = rw add-one

pub sum-none : (o : List ℕ) → sum_below o 0 ≡ 0
unfolding sum_below
sum-none o = refl

pub sum-small : (m : ℕ) (o : List ℕ) (q : ℕ) → ((c : ℕ) → c < q → get_or o c 0 ≤ m) → sum_below o q ≤ m * q
unfolding sum_below
sum-small m o zero f = omega arith
sum-small m o (suc q) f = omega (arith, sum-small m o q (λ c l. f c (omega arith)), f q (omega arith), mul-suc m q)

module _ (o₀ o : List ℕ) (c : ℕ) where
  pub summed-more : SummedTo o₀ o c → c < length o → SummedTo o₀ (set o c (sum_below o₀ c + get_or o c 0)) (c + 1)
  summed-more s b =
      record {
        same = length-set o c (sum_below o₀ c + get_or o c 0) ∙ s.same;
        done = λ d w.
            stored_at o c d (sum_below o₀ c + get_or o c 0) (sum_below o₀ (d + 1)) b
            (λ e. ap (λ (z : ℕ). sum_below o₀ c + z) (s.left c (omega arith)) ∙ sym (sum_more o₀ c) ∙ ap (λ (z : ℕ). sum_below o₀ (z + 1)) (sym e))
            (λ ne. s.done d (omega arith));
        left = λ d w. get_or-set_other o c d (sum_below o₀ c + get_or o c 0) 0 (omega arith) ∙ s.left d (omega arith);
      }
