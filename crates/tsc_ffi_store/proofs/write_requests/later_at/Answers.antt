-- What a lookup answers is what a seat is told.
use Rattle.std.proofs.Common.{rules}
use Rattle.tsc_ffi_store.proofs.AskedAtSeat.{asked_later}
use Rattle.tsc_ffi_store.proofs.write_requests.later_at.Goals as goal

pub returns-in_ok-answer-in-Some-clause-reported : goal.returns-in_ok-answer-in-Some-clause-reported
returns-in_ok-answer-in-Some-clause-reported c =
    rw c.in-Some.is
    (asked_later c.args.span.now c.args.by c.in-Some.time c.in_ok-answer-in-Some.answer
    c.earliest_clear_of.result c.args.seat.now.seat c.get_max_ref.new.self.seat
    c.in_ok-answer-in-Some.ensures.looked c.earliest_clear_of.ensures)
