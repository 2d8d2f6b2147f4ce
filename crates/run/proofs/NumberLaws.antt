-- A car and four poses stand in their numbers: what is written over a column, and what the numbers hold is read back. Assumes nothing.
use mathlib.Core.List.{List, [], ◌∷◌, ◌++◌, append-nil, append_assoc}
use mathlib.Core.Path.{◌≡◌, refl, sym, ap, ap₂, ◌∙◌}
use Prim.Native.Nat.{ℕ, zero, suc, ◌+◌, ◌*◌, ◌≤◌, ◌<◌}
use native.Mathlib.Omega.{arith}
use lib.ListN.{length, get_or, set, take, drop, length-append, length-drop, drop_of_length-le}
use lib.Seq.{drop-cons, take_at, drop_at, drop-drop, take-suc, length-take-le}
use native.Mathlib.Nat.{suc-mul}
use native.Mathlib.Numerals.{add-one}
use Rattle.std.proofs.lemmas.List.Concat.{flat_map-append}
use Rattle.run.proofs.ContactLaws.{end-within}
use Rattle.run.proofs.FourItems.{four-items}
use lib.Ieee.{Float, nan}
use Rattle.std.specs.List.{flat_map}
use Rattle.course.specs.Rules.Tiles.{number_at}
use Rattle.run.specs.declared.state.WheelCtl.{WheelCtl}
use Rattle.run.specs.declared.state.Car.{Car}
use Rattle.run.specs.declared.state.Pose.{Pose}
use Rattle.run.specs.declared.dynamics.Force.{Force}
use Rattle.run.specs.Rules.Arguments.{pose_at}
use Rattle.run.specs.Rules.Pass.{ctl_at}
use Rattle.run.specs.Grader.Numbers.{control_count, wheel_from, wheel_list, car_from, car_numbers, pose_list, pose_numbers, force_list, force_at, force_numbers, four_from}

-- ---- four records of k numbers each, one after the other
module _ {T : Type 0} (f : T → List Float) (k : ℕ) (rs : List T) where
  -- after w of them over the numbers ns₀
  pub record Written (ns₀ ns : List Float) (w : ℕ) : Type 0 where
    pub long : length ns ≡ 4 * k
    pub done : length (flat_map f (take w rs)) ≡ w * k
    pub ends : w < 4 → w * k + k ≤ 4 * k
    pub are : ns ≡ flat_map f (take w rs) ++ drop (w * k) ns₀

  -- one more, whose numbers start at a and are n
  pub one-written : {ns₀ ns part : List Float} {w a n : ℕ} (x : T) → Written ns₀ ns w → w < 4 → length rs ≡ 4 → length ns₀ ≡ 4 * k → a ≡ w * k → n ≡ k → part ≡ f (get_or rs w x)
      → length part ≡ length (take n (drop a ns)) → Written ns₀ (take a ns ++ (part ++ drop n (drop a ns))) (w + 1)
  one-written {ns₀} {ns} {part} {w} {a} {n} x h b r e ea en ep lent =
      let before = flat_map f (take w rs) in
      let more : flat_map f (take (w + 1) rs) ≡ before ++ part =
      ap (λ (j : ℕ). flat_map f (take j rs)) (add-one w) ∙ ap (flat_map f) (take-suc rs w x (omega (arith, r))) ∙ flat_map-append f (take w rs) (get_or rs w x ∷ [])
      ∙ ap (λ (l : List Float). before ++ l) (append-nil (f (get_or rs w x)) ∙ sym ep) in
      let next : (w + 1) * k ≡ w * k + k = ap (λ (v : ℕ). v * k) (add-one w) ∙ suc-mul w k in
      let long : length part ≡ k = lent ∙ length-take-le n (drop a ns) (omega (arith, length-drop a ns, h.long, h.ends b, ea, en)) ∙ en in
      let front : take a ns ≡ before = ap₂ (λ (i : ℕ) (l : List Float). take i l) ea h.are ∙ take_at before (drop (w * k) ns₀) (w * k) h.done in
      let past : drop n (drop a ns) ≡ drop ((w + 1) * k) ns₀ =
      ap₂ (λ (i : ℕ) (l : List Float). drop i l) en (ap₂ (λ (i : ℕ) (l : List Float). drop i l) ea h.are ∙ drop_at before (drop (w * k) ns₀) (w * k) h.done)
      ∙ drop-drop k (w * k) ns₀ ∙ ap (λ (i : ℕ). drop i ns₀) (sym next) in
      let whole : take a ns ++ (part ++ drop n (drop a ns)) ≡ flat_map f (take (w + 1) rs) ++ drop ((w + 1) * k) ns₀ =
      ap₂ (λ (l m : List Float). l ++ (part ++ m)) front past ∙ sym (append_assoc before part (drop ((w + 1) * k) ns₀)) ∙ ap (λ (l : List Float). l ++ drop ((w + 1) * k) ns₀) (sym more) in
      let done : length (flat_map f (take (w + 1) rs)) ≡ (w + 1) * k = ap length more ∙ length-append before part ∙ omega (arith, h.done, long, next) in
      record {
        long = ap length whole ∙ length-append (flat_map f (take (w + 1) rs)) (drop ((w + 1) * k) ns₀) ∙ omega (arith, done, length-drop ((w + 1) * k) ns₀, next, h.ends b, e);
        done = done;
        ends = λ d. end-within (w + 1) 4 k d;
        are = whole;
      }

-- ---- a car

-- n entries from number k on
unfoldable entries : {A : Type 0} → ℕ → ℕ → A → List A → List A
entries zero k d l = []
entries (suc n) k d l = get_or l k d ∷ entries n (suc k) d l

entries-all : {A : Type 0} (n k : ℕ) (d : A) (l : List A) → k + n ≡ length l → entries n k d l ≡ drop k l
unfolding entries
entries-all zero k d l e = sym (drop_of_length-le l {i = k} (omega (arith, e)))
entries-all {A} (suc n) k d l e =
    ap (λ (r : List A). get_or l k d ∷ r) (entries-all n (suc k) d l (omega (arith, e)))
    ∙ sym (drop-cons l k d (omega (arith, e)))

numbers-of-car : (l : List Float) → length l ≡ 21 → car_numbers (car_from l) ≡ l
unfolding entries car_numbers car_from wheel_from
numbers-of-car l e = entries-all 21 0 nan l (sym e)

-- a car that is read
pub car_read : (l : List Float) (ctl : List WheelCtl) → length l ≡ 21 → ctl ≡ four_from wheel_from 5 l 0
    → let car : Car = record { ctl = ctl; fuel_spent = number_at l 20 } in (car ≡ car_from l) × (car_numbers car ≡ l)
unfolding car_from
car_read l ctl long e =
    let is : ◌≡◌ {A = Car} (record { ctl = ctl; fuel_spent = number_at l 20 }) (car_from l) = λ i. record { ctl = e i; fuel_spent = number_at l 20 } in
    (is, ap car_numbers is ∙ numbers-of-car l long)

-- a car that is written
four-written : (ctl : List WheelCtl) (fuel x : Float) → length ctl ≡ 4 → set (flat_map wheel_list ctl ++ (x ∷ [])) 20 fuel ≡ car_numbers (record { ctl = ctl; fuel_spent = fuel })
unfolding car_numbers
four-written ctl fuel x h = ap (λ (l : List WheelCtl). set (flat_map wheel_list l ++ (x ∷ [])) 20 fuel) (four-items ctl (ctl_at [] 0) h)

pub car_written : (car : Car) (l : List Float) {ns : List Float} → length car.ctl ≡ 4 → length l ≡ 21 → ns ≡ flat_map wheel_list car.ctl → set (ns ++ drop 20 l) 20 car.fuel_spent ≡ car_numbers car
car_written car l four long e =
    let last : drop 20 l ≡ get_or l 20 nan ∷ [] = drop-cons l 20 nan (omega (arith, long)) ∙ ap (λ (r : List Float). get_or l 20 nan ∷ r) (drop_of_length-le l {i = 21} (omega (arith, long))) in
    ap₂ (λ (a b : List Float). set (a ++ b) 20 car.fuel_spent) e last ∙ four-written car.ctl car.fuel_spent (get_or l 20 nan) four

-- a car of four wheels
pub numbers-back : (a b c d : WheelCtl) (fuel : Float) → car_from (car_numbers (record { ctl = a ∷ b ∷ c ∷ d ∷ []; fuel_spent = fuel })) ≡ record { ctl = a ∷ b ∷ c ∷ d ∷ []; fuel_spent = fuel }
unfolding car_numbers car_from wheel_from
numbers-back a b c d fuel = refl

-- the first numbers of a car are its controls
pub controls-taken : (car : Car) (ns : List Float) → ns ≡ car_numbers car → length (take control_count ns) ≡ control_count
unfolding car_numbers
controls-taken car ns e = ap (λ (l : List Float). length (take control_count l)) e

-- ---- four poses

-- poses that are written
pub poses_written : (ps : List Pose) → length ps ≡ 4 → flat_map pose_list ps ≡ pose_numbers ps
unfolding pose_numbers
poses_written ps h = ap (flat_map pose_list) (four-items ps (pose_at [] 0) h)

-- forces that are written
pub forces_written : (fs : List Force) → length fs ≡ 4 → flat_map force_list fs ≡ force_numbers fs
unfolding force_numbers
forces_written fs h = ap (flat_map force_list) (four-items fs (force_at [] 0) h)
