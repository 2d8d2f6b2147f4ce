-- Checks that end at the first cause that holds: what a check that none ended tells of each test, and the number of the cause that ends one. Assumes nothing.
use mathlib.Core.Bool.{Bool, true, false, cond}
use mathlib.Core.Path.{◌≡◌, refl, ap, sym, ◌∙◌}
use Prim.Native.Nat.{ℕ, suc}
use native.Mathlib.Omega.{arith}
use Rattle.std.specs.Prelude.{Result, Ok, Err, is_ok, Option, Some, None, ok_or}
use Rattle.std.proofs.lemmas.Bool.{false≢true}
use Rattle.course.specs.Grader.Cause.{number_of, cause_number}
use Rattle.course.specs.declared.cause.Cause.{Cause}

-- a test whose cause did not end the check is not met, and the check goes on behind it
pub passed : {A E : Type 0} (b : Bool) (k : E) (r : Result A E) {x : A} → cond b (Err k) r ≡ Ok x → (b ≡ false) × (r ≡ Ok x)
passed true k r e = absurd (false≢true (ap is_ok e))
passed false k r e = (refl, e)

-- what `ok_or` refuses was not there, and is refused by the cause given
pub not-there : {A : Type 0} (o : Option A) {r : Result A Cause} {k j : Cause} → r ≡ ok_or o k → r ≡ Err j → (o ≡ None) × (j ≡ k)
not-there {A} None {k = k} e h = (refl, ap (cause_in k) (sym h ∙ e))
  where
    cause_in : Cause → Result A Cause → Cause
    cause_in d (Ok x) = d
    cause_in d (Err c) = c
not-there (Some x) e h = absurd (false≢true (sym (ap is_ok (sym e ∙ h))))

-- the number of a check, test by test
pub cause-by : {A : Type 0} (b : Bool) (k : Cause) (r : Result A Cause) → cause_number (cond b (Err k) r) ≡ cond b (number_of k) (cause_number r)
unfolding cause_number
cause-by true k r = refl
cause-by false k r = refl

-- no cause's number is 0
pub number-some : (k : Cause) → (j : ℕ) × (number_of k ≡ suc j)
unfolding number_of
number-some Cause.Settings = (0, refl)
number-some Cause.Length = (1, refl)
number-some Cause.State = (3, refl)
number-some Cause.Turn = (4, refl)
number-some Cause.Limit = (5, refl)
number-some Cause.Action = (6, refl)
number-some Cause.Range = (7, refl)
number-some Cause.Count = (8, refl)
number-some Cause.Index = (9, refl)
number-some Cause.Form = (10, refl)
number-some Cause.Course = (11, refl)

pub number-not-0 : (k : Cause) → number_of k ≡ 0 → ⊥
number-not-0 k e = let n = number-some k in omega (arith, n.1, e)

-- a check that passes has none
pub none-number : {A : Type 0} (v : A) → cause_number (Ok v) ≡ 0
unfolding cause_number
none-number v = refl
