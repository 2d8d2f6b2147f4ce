-- `certificate::replay::replay` meets its contract. Assumes nothing.
use mathlib.Core.Path.{sym, ◌∙◌}
use Rattle.certificate.proofs.ReplayLaws.{same-figures, replayed}
use Rattle.certificate.proofs.replay.replay.Goals as goal

pub returns : goal.returns
returns c =
    replayed
    (record {
      room = sym c.room_for.ensures ∙ c.if-not-room_for.false;
      laid = c.lay-laid.ensures;
      tiles = c.lay-laid.auto.cols.1.1.1.1.0;
      offsets = c.lay-laid.auto.cols.1.1.1.1.1.0;
      values = same-figures c.lay-laid.result _ (λ x p. (p.0, p.1.0)) _ c.unwrap_or_default.ensures;
      settings = c.on-settings.ensures;
      run = c.start_and_reply-start.ensures;
    })
