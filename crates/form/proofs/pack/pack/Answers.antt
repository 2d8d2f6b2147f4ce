-- `form::pack::pack` meets its contract. Assumes nothing.
use Rattle.form.specs.Rules.Form.{widths, cut, packed, pack_into}
use Rattle.form.proofs.TableLaws.{packed-length, pack-short, pack-done}
use Rattle.std.specs.Int.{w16, to_le_bytes}
use Prim.Native.Nat.{ℕ, ◌+◌}
use mathlib.Core.Path.{sym, ap, ◌∙◌}
use Rattle.form.proofs.pack.pack.Goals as goal

pub returns-then-out-needed : goal.returns-then-out-needed
returns-then-out-needed c =
    let s = c.args in
    let fs = cut (widths s.fields.rows.now) s.fields.full.now in
    let m = c.from-m.result in
    pack-short (packed m fs) s.out.now _ (ap (λ (n : ℕ). 2 + n) c.standing_length-needed.ensures.0 ∙ sym (packed-length m fs)) c.if-out-needed.true
    ∙ ap (λ (k : ℕ). pack_into (packed k fs) s.out.now) c.from-m.ensures

pub returns : goal.returns
returns c =
    let s = c.args in
    let fs = cut (widths s.fields.rows.now) s.fields.full.now in
    let m = c.from-m.result in
    let n = ap (λ (n : ℕ). 2 + n) c.standing_length-needed.ensures.0 ∙ sym (packed-length m fs) in
    pack-done m _ fs s.out.now _ _ n c.if-out-needed.false (c.copy_from_slice.ensures.after ∙ (c.to_le_bytes.ensures ∙ ap (to_le_bytes w16) (sym c.from-m.ensures))) c.put_standing.ensures ∙ ap (λ (k : ℕ). pack_into (packed k fs) s.out.now) c.from-m.ensures
