-- What an answer holds, or else what its type's `Default` gives, is what it holds or else zeros. Assumes nothing.
use mathlib.Core.Bool.{false}
use mathlib.Core.Path.{◌≡◌}
use Rattle.std.specs.Prelude.{Result, Ok, Err}
use Rattle.std.specs.Result.{result_unwrap_or, ResultUnwrapsOrElse}
use Rattle.course.specs.declared.cause.Cause.{Cause}
use Rattle.run.specs.Grader.Start.{no_start}
use Rattle.run.specs.Grader.Sheet.{no_figures}
use Rattle.run.specs.Grader.Restore.{no_saved_for}
use Rattle.run.specs.declared.start.StartValues.{StartValues}
use Rattle.run.specs.declared.settle.SettleValues.{SettleValues}
use Rattle.run.specs.declared.sheet.RunSheet.{RunSheet}
use Rattle.run.specs.declared.restore.SavedFor.{SavedFor}
use Rattle.abi.specs.Grader.Flat.{no_settle}

held-or-zeros : {X : Type 0} {Zero : X → Type 0} {z : X} → ((x : X) → Zero x → x ≡ z) → (a : Result X Cause) (v : X) → ResultUnwrapsOrElse a Zero v → v ≡ result_unwrap_or a z
held-or-zeros zero (Ok x) v h = h
held-or-zeros zero (Err c) v h = zero v h

pub start_or_zeros : (a : Result StartValues Cause) (v : StartValues) → ResultUnwrapsOrElse a (λ v. (v.count ≡ 0) × (v.lap ≡ false)) v → v ≡ result_unwrap_or a no_start
start_or_zeros = held-or-zeros (λ v h i. record { count = h.0 i; lap = h.1 i })

pub settle_or_zeros : (a : Result SettleValues Cause) (v : SettleValues)
    → ResultUnwrapsOrElse a (λ v. (v.new_tiles ≡ 0) × ((v.n ≡ 0) × ((v.off ≡ false) × ((v.lap ≡ false) × (v.ended ≡ false))))) v → v ≡ result_unwrap_or a no_settle
settle_or_zeros = held-or-zeros (λ v h i. record { new_tiles = h.0 i; n = h.1.0 i; off = h.1.1.0 i; lap = h.1.1.1.0 i; ended = h.1.1.1.1 i })

pub sheet_or_zeros : (a : Result RunSheet Cause) (v : RunSheet)
    → ResultUnwrapsOrElse a (λ v. (v.tick ≡ 0) × ((v.credited ≡ 0) × ((v.n ≡ 0) × ((v.lap ≡ false) × ((v.ended ≡ false) × ((v.fallback ≡ false) × (v.share ≡ 0))))))) v
    → v ≡ result_unwrap_or a no_figures
sheet_or_zeros =
    held-or-zeros
    (λ v h i. record { tick = h.0 i; credited = h.1.0 i; n = h.1.1.0 i; lap = h.1.1.1.0 i; ended = h.1.1.1.1.0 i; fallback = h.1.1.1.1.1.0 i; share = h.1.1.1.1.1.1 i })

pub saved_or_zeros : (a : Result SavedFor Cause) (v : SavedFor) → ResultUnwrapsOrElse a (λ v. (v.seed ≡ 0) × (v.n ≡ 0)) v → v ≡ result_unwrap_or a no_saved_for
saved_or_zeros = held-or-zeros (λ v h i. record { seed = h.0 i; n = h.1 i })
