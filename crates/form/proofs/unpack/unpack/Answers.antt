-- `form::unpack::unpack` meets its contract. Assumes nothing.
use Rattle.form.specs.Steps.Form.{whole, fields_in}
use Rattle.form.specs.Rules.Form.{widths, parse, joined, read}
use Rattle.form.proofs.ByteLaws.{map-said}
use Rattle.form.proofs.ReadLaws.{parsed-short, parsed-long, not-whole, unpack-broken, unpack-short, unpack-whole, form-enough}
use lib.ListN.{length, drop}
use Prim.Native.Nat.{ℕ, ◌≤◌}
use native.Mathlib.Omega.{arith}
use mathlib.Core.Path.{sym, ap, ap₂, ◌∙◌}
use mathlib.Core.List.{List, ◌++◌}
use Rattle.form.proofs.unpack.unpack.Goals as goal

pub returns-in_err-first : goal.returns-in_err-first
returns-in_err-first c =
    ap (λ m. read m c.args.full.now) c.from_residual.ensures ∙ unpack-broken _ _ _ (parsed-short _ _ c.in_err-first.ensures.cases)

pub returns-then-not-has_room : goal.returns-then-not-has_room
returns-then-not-has_room c =
    let s = c.args in unpack-short s.rows.now s.bytes.now s.full.now (sym c.has_room.ensures ∙ c.if-not-has_room.true)

pub returns-then-not-is_form : goal.returns-then-not-is_form
returns-then-not-is_form c =
    let s = c.args in
    let parts = c.in_ok-first.ensures.cases in
    let long : 2 ≤ length s.bytes.now = omega (arith, parts.2) in
    let map = c.from-m.ensures ∙ c.from_le_bytes-map.ensures ∙ map-said s.bytes.now _ parts.0 in
    unpack-broken s.rows.now s.bytes.now s.full.now
    (parsed-long _ _ long ∙ ap₂ (λ (k : ℕ) (l : List ℕ). parse s.rows.now k l) (sym map) (sym parts.1) ∙ not-whole _ (sym c.if-not-is_form.ensures))

pub spread-requires-clause-map_in_bounds : goal.spread-requires-clause-map_in_bounds
spread-requires-clause-map_in_bounds c = form-enough _ _ _ (sym c.is_form.ensures ∙ c.if-not-is_form.false)

pub returns : goal.returns
returns c =
    let s = c.args in
    let parts = c.in_ok-first.ensures.cases in
    let long : 2 ≤ length s.bytes.now = omega (arith, parts.2) in
    let map = c.from_le_bytes-map.ensures ∙ map-said s.bytes.now _ parts.0 in
    let same = c.from-m.ensures in
    let ws = widths s.rows.now in
    unpack-whole s.rows.now s.bytes.now s.full.now _ _ map (sym c.has_room.ensures ∙ c.if-not-has_room.false) long
    (ap₂ (λ (k : ℕ) (l : List ℕ). whole (parse s.rows.now k l)) (sym same) (sym parts.1) ∙ sym c.is_form.ensures ∙ c.if-not-is_form.false)
    (c.spread.ensures ∙ ap₂ (λ (k : ℕ) (l : List ℕ). joined (fields_in ws k l) ++ drop (length (joined (fields_in ws k l))) s.full.now) same parts.1)
