-- The number tells what was done to what the handle names, or that it names nothing.
use Rattle.std.proofs.Common.{rules}
use Rattle.std.specs.Prelude.{Err, Some}
use Rattle.tsc_ffi_store.specs.declared.refusal.Refusal.TheVariants as refusal
use Rattle.tsc_ffi_store.specs.Decode.{time_of}
use Rattle.tsc_ffi_store.specs.Writes.{write_asked, AnswersSeatWrite}
use Rattle.tsc_ffi_store.specs.Counts.{CountsSeatLookup}
use Rattle.tsc_ffi_store.specs.Kinds.{ByKind}
use Rattle.tsc_ffi_store.specs.StripedCalls.{AnswersStripedWrite}
use Rattle.tsc_ffi_store.proofs.AtHandle.{when_some}
use Rattle.tsc_c.proofs.Held.{no_seat, works_at, works_at_none}
use Rattle.tsc_c.proofs.write_calls.tsc_seat_earliest_write.Goals as goal

pub returns-in-Some-seat_mut : goal.returns-in-Some-seat_mut
returns-in-Some-seat_mut c = record {
  answers = record {
    did = c.write_at.result;
    code_is = c.code.ensures;
    answers = works_at (CountsSeatLookup (ByKind (AnswersSeatWrite (write_asked c.args.keys.now c.args.spans.now
        c.args.write.now) c.write_at.new.seen (time_of c.write_at.new.out))
        (AnswersStripedWrite (write_asked c.args.keys.now c.args.spans.now
        c.args.write.now) c.write_at.new.seen (time_of c.write_at.new.out)))) c.args.store.now.owned
        (Some (c.seat_mut.follows.lender c.write_at.new.held)) c.in-Some.held.now
        (c.seat_mut.follows.lender c.write_at.new.held) c.args.handle c.in-Some-seat_mut.seat.now
        c.write_at.new.held (c.write_at.result) (search rules) (search rules) (search rules)
        (when_some c.seat_mut.result c.in-Some-seat_mut.seat c.in-Some-seat_mut.is
        (c.seat_mut.follows.holds c.write_at.new.held)) (c.write_at.ensures.answers);
    kept = c.write_at.ensures.kept;
  };
}

pub returns-in-None-seat_mut : goal.returns-in-None-seat_mut
returns-in-None-seat_mut c = record {
  answers = record {
    did = Err refusal.Closed;
    code_is = search rules;
    answers = works_at_none (CountsSeatLookup (ByKind (AnswersSeatWrite (write_asked c.args.keys.now c.args.spans.now
        c.args.write.now) c.args.seen.now (time_of c.args.out.now))
        (AnswersStripedWrite (write_asked c.args.keys.now c.args.spans.now
        c.args.write.now) c.args.seen.now (time_of c.args.out.now)))) c.args.store.now.owned (Some
        c.seat_mut.follows.lender-at-none) c.in-Some.held.now c.seat_mut.follows.lender-at-none
        c.args.handle (search rules) (search rules) (search rules)
        (c.seat_mut.follows.holds-at-none);
    kept = search rules;
  };
}

pub returns-in-None : goal.returns-in-None
returns-in-None c = record {
  answers = record {
    did = Err refusal.Closed;
    code_is = search rules;
    answers = no_seat (CountsSeatLookup (ByKind (AnswersSeatWrite (write_asked c.args.keys.now c.args.spans.now
        c.args.write.now) c.args.seen.now (time_of c.args.out.now))
        (AnswersStripedWrite (write_asked c.args.keys.now c.args.spans.now
        c.args.write.now) c.args.seen.now (time_of c.args.out.now)))) c.args.store.now.owned
        c.args.store.now.owned c.args.handle (search rules) (search rules);
    kept = search rules;
  };
}
