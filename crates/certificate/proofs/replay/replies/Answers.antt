-- `certificate::replay::replies` meets its contract. Assumes nothing.
use mathlib.Core.List.{[]}
use mathlib.Core.Path.{◌≡◌, ap, ◌∙◌}
use Prim.Native.Nat.{◌/◌, ◌<◌}
use native.Mathlib.Omega.{arith}
use lib.ListN.{length, take}
use borrow.Author.Rules.{rules}
use Rattle.std.specs.Iterator.Adapters.{enumerate_count, enumerate_source, zip_first, zip_second}
use Rattle.std.specs.Slice.Iter.{iter_rest}
use Rattle.run.proofs.PairLaws.{no_pair_yet, one_pair, no_pair}
use Rattle.certificate.proofs.CallColumnLaws.{call_parts, given_parts, chunk_at, parts-many, no-reply, one-reply, all-replies}
use Rattle.certificate.proofs.replay.replies.Goals as goal

pub loop-i-init : goal.loop-i-init
loop-i-init c =
    let s = c.args.calls in
    let none : enumerate_count c.into_iter-i-iterator.result ≡ 0 = search rules in
    let first : iter_rest (zip_first (enumerate_source c.into_iter-i-iterator.result)) ≡ take s.many c.as_chunks.result.0.now = search rules in
    let second : iter_rest (zip_second (enumerate_source c.into_iter-i-iterator.result)) ≡ c.as_chunks-2.result.0.now = search rules in
    (no_pair_yet _ _ _ (first ∙ ap (take s.many) c.as_chunks.ensures.front) (second ∙ c.as_chunks-2.ensures.front) none, rw none no-reply)

pub loop-i-preserved : goal.loop-i-preserved
loop-i-preserved c =
    let s = c.args.calls in
    let i = enumerate_count c.loop-i.i-iterator in
    let p = one_pair s.many (call_parts s.words.now) (given_parts s.numbers.now) c.next.new.self c.loop-i.invariant.0 c.next.ensures.steps c.in-Some.is in
    let many = parts-many _ _ _ _ _ c.requires in
    let of-words : i < length s.words.now / 4 = omega (arith, p.within, many.0) in
    let of-numbers : i < length s.numbers.now / 20 = omega (arith, p.within, many.1) in (
      p.rest,
      rw (p.number, p.next) (one-reply c.loop-i.invariant.1 p.within c.reply-said.ensures (p.here [] ∙ chunk_at 4 _ i s.words.now [] of-words)
          (p.beside [] ∙ chunk_at 20 _ i s.numbers.now [] of-numbers) c.copy_from_slice.ensures.after c.copy_from_slice-in-loop-i.ensures.after),
    )

pub returns : goal.returns
returns c =
    let s = c.args.calls in
    let many = parts-many _ _ _ _ _ c.requires in
    let long = no_pair s.many (call_parts s.words.now) (given_parts s.numbers.now) c.next.new.self c.loop-i.invariant.0 c.next.ensures.steps c.in-None.is
    (omega (arith, many.0, ap length c.as_chunks.ensures.front, c.as_chunks.ensures.front_len)) (omega (arith, many.1, ap length c.as_chunks-2.ensures.front, c.as_chunks-2.ensures.front_len)) in
    let whole = all-replies c.loop-i.invariant.1 long in
    record { run_after = whole.0; words_after = whole.1.0; numbers_after = whole.1.1 }
