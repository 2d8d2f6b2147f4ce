-- A list that is filled from the front, part after part. Assumes nothing.
use Prim.Native.Nat.{ℕ, zero, suc, ◌+◌, ◌-◌, ◌≤◌, ◌<◌, min}
use mathlib.Core.Path.{◌≡◌, refl, sym, ap, ap₂, ◌∙◌}
use mathlib.Core.List.{List, [], ◌∷◌, ◌++◌, append_assoc, append-nil}
use native.Mathlib.Nat.{add-zero, zero-min, min-zero, suc-min-suc}
use native.Mathlib.Omega.{arith}
use lib.ListN.{length, take, drop, set, length-append, length-drop, drop_of_length-le, take-append-drop}
use lib.Seq.{sets, length-sets, sets-eq, drop-drop, length-take-le, take_all}
use Rattle.std.proofs.lemmas.List.{take_more_set}

module _ {A : Type 0} where
  -- one run of stores after another
  pub sets-append : (a b l : List A) (i : ℕ) → sets (sets l i a) (i + length a) b ≡ sets l i (a ++ b)
  sets-append [] b l i = ap (λ (k : ℕ). sets l k b) (add-zero i)
  sets-append (x ∷ a) b l i = ap (λ (k : ℕ). sets (sets (set l i x) (suc i) a) k b) (omega arith) ∙ sets-append a b (set l i x) (suc i)

  -- a run at the front
  pub sets-front : (a l : List A) → length a ≤ length l → sets l 0 a ≡ a ++ drop (length a) l
  sets-front a l h =
      let n : 0 + length a ≡ length a = omega arith in
      sets-eq a l 0 (omega (arith, h)) ∙ ap (λ (k : ℕ). a ++ drop k l) n

  -- c is l with the front of `all` stored, up to number i; `rest` is still to come
  pub record Filling (c l all : List A) (i : ℕ) (rest : List A) : Type 0 where
    pub stored : sets c i rest ≡ sets l 0 all
    pub count : i + length rest ≡ length all
    pub same : length c ≡ length l

  pub begins : (l all rest : List A) → rest ≡ all → Filling l l all 0 rest
  begins l all rest e = record { stored = ap (sets l 0) e; count = omega (arith, ap length e); same = refl }

  -- where the front is there already
  pub begins-at : (l rest : List A) (i : ℕ) → i ≤ length l → Filling l l (take i l ++ rest) i rest
  begins-at l rest i h =
      let long : length (take i l) ≡ i = length-take-le i l h in
      let front : sets l 0 (take i l) ≡ l =
      sets-front (take i l) l (omega (arith, long, h)) ∙ ap (λ (k : ℕ). take i l ++ drop k l) long ∙ take-append-drop i l in
      let at : i ≡ 0 + length (take i l) = omega (arith, long) in
      record {
        stored = ap₂ (λ (c : List A) (k : ℕ). sets c k rest) (sym front) at ∙ sets-append (take i l) rest l 0;
        count = omega (arith, length-append (take i l) rest, long);
        same = refl;
      }

  pub goes_on : {c l all : List A} {i : ℕ} {rest : List A} (c' : List A) (j : ℕ) (a b : List A)
      → Filling c l all i rest → rest ≡ a ++ b → c' ≡ sets c i a → j ≡ i + length a → Filling c' l all j b
  goes_on {c} {l} {all} {i} {rest} c' j a b f e s n = record {
    stored = ap (λ (z : List A). sets z j b) s ∙ ap (λ (k : ℕ). sets (sets c i a) k b) n ∙ sets-append a b c i ∙ ap (sets c i) (sym e) ∙ f.stored;
    count = ap (λ (k : ℕ). k + length b) n ∙ omega (arith, f.count, ap length e, length-append a b);
    same = ap length s ∙ length-sets c i a ∙ f.same;
  }

  -- there is room for the part that comes next
  pub next_fits : {c l all : List A} {i : ℕ} {rest : List A} (a b : List A) → Filling c l all i rest → rest ≡ a ++ b → length all ≤ length l → i + length a ≤ length c
  next_fits {c} {l} {all} {i} {rest} a b f e h = omega (arith, f.count, f.same, ap length e, length-append a b, h)

  pub ends : {c l all : List A} {i : ℕ} {rest : List A} → Filling c l all i rest → rest ≡ [] → length all ≤ length l → c ≡ all ++ drop (length all) l
  ends {c} {l} {all} {i} {rest} f e h = ap (sets c i) (sym e) ∙ f.stored ∙ sets-front all l h

  pub ends-whole : {c l all : List A} {i : ℕ} {rest : List A} → Filling c l all i rest → rest ≡ [] → length all ≡ length l → c ≡ all
  ends-whole {c} {l} {all} {i} {rest} f e h =
      let k : length l ≤ length all = omega (arith, h) in
      ends f e (omega (arith, h)) ∙ ap (λ (r : List A). all ++ r) (drop_of_length-le l k) ∙ append-nil all

  -- what is still to come, behind the front
  pub ends-with : {c l all : List A} {i : ℕ} {rest : List A} → Filling c l all i rest → length all ≡ length l → take i c ++ rest ≡ all
  ends-with {c} {l} {all} {i} {rest} f h =
      let past : length c ≤ i + length rest = omega (arith, f.count, f.same, h) in
      let over : length l ≤ length all = omega (arith, h) in
      sym (append-nil (take i c ++ rest))
      ∙ ap (λ (r : List A). take i c ++ rest ++ r) (sym (drop_of_length-le c past))
      ∙ sym (sets-eq rest c i (omega (arith, f.count, f.same, h)))
      ∙ f.stored
      ∙ sets-front all l (omega (arith, h))
      ∙ ap (λ (r : List A). all ++ r) (drop_of_length-le l over)
      ∙ append-nil all

  -- of a list of which the front alone is told: one more, and all
  pub grown : (l : List A) (i : ℕ) (x : A) (rest all : List A) → i < length l → take i l ++ (x ∷ rest) ≡ all → take (i + 1) (set l i x) ++ rest ≡ all
  grown l i x rest all h e = ap (λ (p : List A). p ++ rest) (take_more_set l i x h) ∙ append_assoc (take i l) (x ∷ []) rest ∙ e

  pub grown_up : (l : List A) (i : ℕ) (rest all : List A) → length l ≤ i → rest ≡ [] → take i l ++ rest ≡ all → l ≡ all
  grown_up l i rest all h e g = sym (take_all i l h) ∙ sym (append-nil (take i l)) ∙ ap (λ (r : List A). take i l ++ r) (sym e) ∙ g

  -- a part lent to a call, and what the call left in it
  pub part-stored : (l p : List A) (i e : ℕ) → i + length p ≡ e → e ≤ length l → take i l ++ (p ++ drop (e - i) (drop i l)) ≡ sets l i p
  part-stored l p i e n h =
      let k : i + (e - i) ≡ i + length p = omega arith in
      ap (λ (r : List A). take i l ++ (p ++ r)) (drop-drop (e - i) i l ∙ ap (λ (j : ℕ). drop j l) k)
      ∙ sym (append_assoc (take i l) p (drop (i + length p) l))
      ∙ sym (sets-eq p l i (omega arith))

  pub part-on : {c l all : List A} {i : ℕ} {rest : List A} (p a b : List A) (e j : ℕ) → Filling c l all i rest → rest ≡ a ++ b → p ≡ a
      → i + length a ≡ e → e ≤ length c → j ≡ e → Filling (take i c ++ (p ++ drop (e - i) (drop i c))) l all j b
  part-on {c} {l} {all} {i} {rest} p a b e j f r w n h q =
      goes_on _ j a b f r (ap (λ (z : List A). take i c ++ (z ++ drop (e - i) (drop i c))) w ∙ part-stored c a i e n h) (q ∙ sym n)

  -- what ends where the list does, if not before
  pub take-least : (n : ℕ) (l : List A) → take (min n (length l)) l ≡ take n l
  take-least zero l = ap (λ (k : ℕ). take k l) (zero-min (length l))
  take-least (suc n) [] = ap (λ (k : ℕ). take k []) (min-zero (suc n))
  take-least (suc n) (x ∷ l) = ap (λ (k : ℕ). take k (x ∷ l)) (suc-min-suc n (length l)) ∙ ap (λ (r : List A). x ∷ r) (take-least n l)

  pub part_length : (l : List A) (i n : ℕ) → i + n ≤ length l → length (take (i + n - i) (drop i l)) ≡ n
  part_length l i n h =
      let e : i + n - i ≡ n = omega arith in
      ap (λ (k : ℕ). length (take k (drop i l))) e ∙ length-take-le n (drop i l) (omega (arith, length-drop i l))

  pub drop-least : (n : ℕ) (l : List A) → drop (min n (length l)) l ≡ drop n l
  drop-least zero l = ap (λ (k : ℕ). drop k l) (zero-min (length l))
  drop-least (suc n) [] = ap (λ (k : ℕ). drop k []) (min-zero (suc n))
  drop-least (suc n) (x ∷ l) = ap (λ (k : ℕ). drop k (x ∷ l)) (suc-min-suc n (length l)) ∙ drop-least n l

  -- a part that begins and ends where the list ends, if not before
  pub part-taken : (at k a b n : ℕ) (l : List A) → a ≡ min at (length l) → b ≡ k → n ≡ min b (length (take (length l - a) (drop a l)))
      → take n (take (length l - a) (drop a l)) ≡ take k (drop at l)
  part-taken at k a b n l d e h =
      let r : take (length l - a) (drop a l) ≡ drop at l =
      take_all (length l - a) (drop a l) (omega (arith, length-drop a l)) ∙ ap (λ (j : ℕ). drop j l) d ∙ drop-least at l in
      ap₂ take (h ∙ ap₂ (λ (j : ℕ) (t : List A). min j (length t)) e r) r ∙ take-least k (drop at l)

  pub part-long : (l : List A) (i e : ℕ) → i ≤ e → e ≤ length l → length (take (e - i) (drop i l)) ≡ e - i
  part-long l i e h k = length-take-le (e - i) (drop i l) (omega (arith, length-drop i l))
