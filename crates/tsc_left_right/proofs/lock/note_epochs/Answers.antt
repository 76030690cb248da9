-- Proves the contract of `note_epochs`. Notes the epoch of each seat.
use Rattle.std.proofs.Common.{◌∙◌, arith, take}
use mathlib.Core.Option as maybe
use Rattle.std.proofs.lemmas.List.{length-take-le}
use Rattle.atomic_table.specs.Table.{step}
use Rattle.tsc_left_right.proofs.ClearCalls.{note_at}
use Rattle.tsc_left_right.proofs.lock.note_epochs.Goals as goal

pub load-requires : goal.load-requires
load-requires g c =
    let seat = c.loop-seat.seat in
    let noted = c.loop-seat.noted in (
      c.loop-seat.invariant.0 ∙ c.requires.of.table,
      omega (
        arith,
        c.requires.of.sized.words,
        c.epoch_word.ensures.value,
        c.loop-seat-test.true,
        c.requires.seats.0,
      ),
      note_at g.P.Replicated c.args.shared.now.key c.args.shared.now.table_id.slots
          (step c.args.shared.now.table_id.slots c.epoch_word.result 0 0 maybe.none)
          c.loop-seat.who.id c.epoch_word.result seat c.args.who.now.me.0 c.loop-seat.who.me
          (take seat noted) c.args.who.now.me.1 c.loop-seat.invariant.2 c.requires.may.holds
          (length-take-le seat noted (omega (
            arith,
            c.loop-seat-test.true,
            c.loop-seat.invariant.1,
            c.requires.seats.1,
          ))) c.epoch_word.ensures.value,
    )
