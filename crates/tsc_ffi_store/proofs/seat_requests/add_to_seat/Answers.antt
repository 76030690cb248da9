-- Without tries the Add is refused, and else it is tried.
use Rattle.std.proofs.Common.{refl}
use Rattle.tsc_ffi_store.specs.Decode.{asked_add, added_of}
use Rattle.tsc_ffi_store.proofs.AddsTried.{no_tries_one, tried_one}
use Rattle.tsc_ffi_store.proofs.seat_requests.add_to_seat.Goals as goal

pub returns-then-tries-eq0-clause-answers : goal.returns-then-tries-eq0-clause-answers
returns-then-tries-eq0-clause-answers c =
    no_tries_one (asked_add c.args.args.now) c.args.tries c.args.place.now
    (added_of c.args.out.now) c.args.seat.now.seat c.if-tries-eq0.true

pub returns-clause-answers : goal.returns-clause-answers
returns-clause-answers c =
    tried_one (asked_add c.args.args.now) c.args.tries c.try_add_to_seat.new.place
    (added_of c.try_add_to_seat.new.out) c.try_add_to_seat.result c.args.seat.now.seat
    c.try_add_to_seat.new.seat.seat c.if-tries-eq0.false c.try_add_to_seat.ensures.answers
