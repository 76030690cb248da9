-- The number tells what was done to what the handle names, or that it names nothing.
use Rattle.std.proofs.Common.{rules}
use Rattle.std.specs.Prelude.{Err, Some}
use Rattle.tsc_ffi_store.specs.declared.refusal.Refusal.TheVariants as refusal
use Rattle.tsc_ffi_store.specs.SeatCalls.{AnswersSeatLookup}
use Rattle.tsc_ffi_store.specs.Decode.{span_asked, value_of}
use Rattle.tsc_ffi_store.specs.Counts.{CountsSeatLookup}
use Rattle.tsc_ffi_store.specs.Kinds.{ByKind}
use Rattle.tsc_ffi_store.specs.StripedCalls.{AnswersStripedLookup}
use Rattle.tsc_ffi_store.proofs.AtHandle.{when_some}
use Rattle.tsc_c.proofs.Held.{no_seat, works_at, works_at_none}
use Rattle.tsc_c.proofs.seat_calls.tsc_seat_get_max.Goals as goal

pub returns-in-Some-seat_mut : goal.returns-in-Some-seat_mut
returns-in-Some-seat_mut c = record {
  answers = record {
    did = c.look_at.result;
    code_is = c.code.ensures;
    answers = works_at (CountsSeatLookup (ByKind (AnswersSeatLookup (span_asked c.args.from.now c.args.to.now c.args.ends)
        c.look_at.new.seen (value_of c.look_at.new.out))
        (AnswersStripedLookup (span_asked c.args.from.now c.args.to.now c.args.ends)
        c.look_at.new.seen (value_of c.look_at.new.out)))) c.args.store.now.owned (Some
        (c.seat_mut.follows.lender c.look_at.new.held)) c.in-Some.held.now
        (c.seat_mut.follows.lender c.look_at.new.held) c.args.handle c.in-Some-seat_mut.seat.now
        c.look_at.new.held (c.look_at.result) (search rules) (search rules) (search rules)
        (when_some c.seat_mut.result c.in-Some-seat_mut.seat c.in-Some-seat_mut.is
        (c.seat_mut.follows.holds c.look_at.new.held)) (c.look_at.ensures.answers);
    kept = c.look_at.ensures.kept;
  };
}

pub returns-in-None-seat_mut : goal.returns-in-None-seat_mut
returns-in-None-seat_mut c = record {
  answers = record {
    did = Err refusal.Closed;
    code_is = search rules;
    answers = works_at_none (CountsSeatLookup (ByKind (AnswersSeatLookup (span_asked c.args.from.now c.args.to.now
        c.args.ends) c.args.seen.now (value_of c.args.out.now))
        (AnswersStripedLookup (span_asked c.args.from.now c.args.to.now
        c.args.ends) c.args.seen.now (value_of c.args.out.now)))) c.args.store.now.owned (Some
        c.seat_mut.follows.lender-at-none) c.in-Some.held.now c.seat_mut.follows.lender-at-none
        c.args.handle (search rules) (search rules) (search rules)
        (c.seat_mut.follows.holds-at-none);
    kept = search rules;
  };
}

pub returns-in-None : goal.returns-in-None
returns-in-None c = record {
  answers = record {
    did = Err refusal.Closed;
    code_is = search rules;
    answers = no_seat (CountsSeatLookup (ByKind (AnswersSeatLookup (span_asked c.args.from.now c.args.to.now c.args.ends)
        c.args.seen.now (value_of c.args.out.now))
        (AnswersStripedLookup (span_asked c.args.from.now c.args.to.now c.args.ends)
        c.args.seen.now (value_of c.args.out.now)))) c.args.store.now.owned c.args.store.now.owned
        c.args.handle (search rules) (search rules);
    kept = search rules;
  };
}
