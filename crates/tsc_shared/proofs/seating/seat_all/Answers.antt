-- Proves the contract of `seat_all`. A seat for each state that this participant keeps, in the
-- order of their numbers.
use Rattle.std.proofs.Common.{◌∙◌, sym, ap}
use Rattle.tsc_shared.specs.Seats.{SharedView, new_seats}
use Rattle.tsc_shared.specs.Keeping.{shared_view, seat_view}
use Rattle.tsc_shared.proofs.Dealing.{left_at, left_keeps, left_some, left_then, dealt_then}
use Rattle.tsc_shared.proofs.SeatSteps.{resize, new_rests, new_view, new_seats_more}
use Rattle.tsc_shared.proofs.seating.seat_all.Goals as goal

pub split_off-participant-requires-clause-of : goal.split_off-participant-requires-clause-of
split_off-participant-requires-clause-of c =
    left_at c.args.all c.loop-number.all c.args.shared.now.table_id c.args.setup.now
    c.loop-number.number c.requires.participant c.requires.all c.loop-number.invariant.0
    c.loop-number.invariant.1

pub split_off-participant-requires-clause-states : goal.split_off-participant-requires-clause-states
split_off-participant-requires-clause-states c =
    left_keeps c.loop-number.all.me c.args.setup.now c.loop-number.number c.args.setup.now.seats
    c.loop-number.invariant.1

pub split_off-participant-requires-clause-some : goal.split_off-participant-requires-clause-some
split_off-participant-requires-clause-some c =
    left_some c.loop-number.all.me c.args.setup.now c.loop-number.number c.args.setup.now.seats
    c.loop-number-test.true c.loop-number.invariant.1

pub invariant_of-push : goal.invariant_of-push
invariant_of-push c =
    new_rests c.split_off-participant.result c.args.setup.now c.loop-number.number
    (dealt_then c.loop-number.all.me c.split_off-participant.result.me c.args.setup.now
    c.loop-number.number c.args.setup.now.seats c.loop-number-test.true
    c.loop-number.invariant.1 c.split_off-participant.ensures.first.0)
    c.loop-number-test.true
    c.page_first-first.ensures.limits
    (resize c.args.shared.now.table_id c.split_off-participant.result.table_id
    c.args.all.me.0.setup.seats c.args.setup.now.seats
    (c.split_off-participant.ensures.first.1 ∙ c.loop-number.invariant.0 ∙
    c.requires.participant.table) (sym (ap (λ m. m.0.setup.seats) c.requires.all))
    c.requires.participant.sized)

pub loop-number-preserved : goal.loop-number-preserved
loop-number-preserved c =
    let cache : SharedView = shared_view c.args.shared.now.table_id c.args.setup.now in (
      c.split_off-participant.ensures.table ∙ c.loop-number.invariant.0,
      left_then c.loop-number.all.me c.split_off-participant.new.all.me c.args.setup.now
          c.loop-number.number c.args.setup.now.seats c.loop-number-test.true
          c.loop-number.invariant.1 c.split_off-participant.ensures.others,
      new_seats_more cache c.loop-number.number c.args.setup.now.seats c.loop-number.seats.items
          c.push.new.self.items (new_seats cache 0 c.args.setup.now.seats)
          (seat_view c.split_off-participant.result)
          c.loop-number-test.true c.loop-number.invariant.2
          (new_view c.split_off-participant.result c.args.setup.now c.args.shared.now.table_id
          c.loop-number.number
          (c.split_off-participant.ensures.first.1 ∙ c.loop-number.invariant.0 ∙
          c.requires.participant.table)
          (dealt_then c.loop-number.all.me c.split_off-participant.result.me c.args.setup.now
          c.loop-number.number c.args.setup.now.seats c.loop-number-test.true
          c.loop-number.invariant.1 c.split_off-participant.ensures.first.0))
          c.in_ok-push.ensures.items,
    )
