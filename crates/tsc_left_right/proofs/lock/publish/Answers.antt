-- Proves the contract of `publish`. Publishes what the writer has prepared, notes the epoch of each
-- seat, and releases the writer lock.
use Rattle.std.proofs.Common.{◌∙◌, ap, length}
use Rattle.std.specs.Vec.{with_items}
use Rattle.tsc_left_right.specs.declared.table.WriterState.{WriterState}
use Rattle.tsc_left_right.proofs.WriterCalls.{noted_releases}
use Rattle.tsc_left_right.proofs.lock.publish.Goals as goal

pub release-requires-clause-may : goal.release-requires-clause-may
release-requires-clause-may g c =
    let flipped = c.flip-state.ensures.flipped in
    let noted = c.note_epochs.new.noted in
    noted_releases g.P.Replicated c.args.who.now.me.0 c.args.state.value c.flip-state.new.who.me
    c.note_epochs.new.who.me c.flip-state.result.value _ noted flipped c.note_epochs.ensures.noted
    (ap (λ (d : WriterState g.row.P-Value.Denot g.row.P-Operation.Denot).
    record d { noted = with_items d.noted noted }) c.deref_mut.ensures.value)
    (c.note_epochs.ensures.long ∙ ap length c.deref_mut-2.ensures.value
    ∙ ap (λ d. length d.noted.items) c.deref_mut.ensures.value)
    (c.requires.seats.1 ∙ c.requires.seats.0)
