-- The number tells what was done to what the handle names, or that it names nothing.
use Rattle.std.proofs.Common.{rules}
use Rattle.std.specs.Prelude.{Err, Some}
use Rattle.tsc_ffi_store.specs.declared.refusal.Refusal.TheVariants as refusal
use Rattle.tsc_ffi_store.specs.SeatCalls.{AnswersSeatAdd}
use Rattle.tsc_ffi_store.specs.Decode.{add_asked, span_asked, added_of}
use Rattle.tsc_ffi_store.specs.Counts.{CountsSeatAdd}
use Rattle.tsc_ffi_store.specs.Kinds.{ByKind}
use Rattle.tsc_ffi_store.specs.StripedCalls.{AnswersStripedAdd}
use Rattle.tsc_ffi_store.proofs.AtHandle.{when_some}
use Rattle.tsc_c.proofs.Held.{no_seat, works_at, works_at_none}
use Rattle.tsc_c.proofs.seat_calls.tsc_seat_add.Goals as goal

pub returns-in-Some-seat_mut : goal.returns-in-Some-seat_mut
returns-in-Some-seat_mut c = record {
  answers = record {
    did = c.add_at.result;
    code_is = c.code.ensures;
    answers = works_at (CountsSeatAdd (ByKind (AnswersSeatAdd (add_asked (span_asked c.args.from.now c.args.to.now
        c.args.ends) c.args.value.now c.args.moment.now) c.args.tries c.add_at.new.place (added_of
        c.add_at.new.out))
        (AnswersStripedAdd (add_asked (span_asked c.args.from.now c.args.to.now
        c.args.ends) c.args.value.now c.args.moment.now) c.args.tries c.add_at.new.place (added_of
        c.add_at.new.out))) c.add_at.new.out.evicted) c.args.store.now.owned (Some (c.seat_mut.follows.lender
        c.add_at.new.held)) c.in-Some.held.now (c.seat_mut.follows.lender c.add_at.new.held)
        c.args.handle c.in-Some-seat_mut.seat.now c.add_at.new.held (c.add_at.result) (search
        rules) (search rules) (search rules) (when_some c.seat_mut.result c.in-Some-seat_mut.seat
        c.in-Some-seat_mut.is (c.seat_mut.follows.holds c.add_at.new.held))
        (c.add_at.ensures.answers);
    kept = c.add_at.ensures.kept;
  };
}

pub returns-in-None-seat_mut : goal.returns-in-None-seat_mut
returns-in-None-seat_mut c = record {
  answers = record {
    did = Err refusal.Closed;
    code_is = search rules;
    answers = works_at_none (CountsSeatAdd (ByKind (AnswersSeatAdd (add_asked (span_asked c.args.from.now c.args.to.now
        c.args.ends) c.args.value.now c.args.moment.now) c.args.tries c.args.place.now (added_of
        c.args.out.now))
        (AnswersStripedAdd (add_asked (span_asked c.args.from.now c.args.to.now
        c.args.ends) c.args.value.now c.args.moment.now) c.args.tries c.args.place.now (added_of
        c.args.out.now))) c.args.out.now.evicted) c.args.store.now.owned (Some c.seat_mut.follows.lender-at-none)
        c.in-Some.held.now c.seat_mut.follows.lender-at-none c.args.handle (search rules) (search
        rules) (search rules) (c.seat_mut.follows.holds-at-none);
    kept = search rules;
  };
}

pub returns-in-None : goal.returns-in-None
returns-in-None c = record {
  answers = record {
    did = Err refusal.Closed;
    code_is = search rules;
    answers = no_seat (CountsSeatAdd (ByKind (AnswersSeatAdd (add_asked (span_asked c.args.from.now c.args.to.now
        c.args.ends) c.args.value.now c.args.moment.now) c.args.tries c.args.place.now (added_of
        c.args.out.now))
        (AnswersStripedAdd (add_asked (span_asked c.args.from.now c.args.to.now
        c.args.ends) c.args.value.now c.args.moment.now) c.args.tries c.args.place.now (added_of
        c.args.out.now))) c.args.out.now.evicted) c.args.store.now.owned c.args.store.now.owned c.args.handle (search rules)
        (search rules);
    kept = search rules;
  };
}
