-- The number tells what was done to what the handle names, or that it names nothing.
use Rattle.std.proofs.Common.{rules}
use Rattle.std.specs.Prelude.{Err, Some}
use Rattle.tsc_ffi_store.specs.declared.refusal.Refusal.TheVariants as refusal
use Rattle.tsc_ffi_store.specs.Writes.{write_asked, AnswersSeatMayWrite}
use Rattle.tsc_ffi_store.specs.Counts.{CountsSeatLookup}
use Rattle.tsc_ffi_store.specs.Kinds.{ByKind}
use Rattle.tsc_ffi_store.specs.StripedCalls.{AnswersStripedMayWrite}
use Rattle.tsc_ffi_store.proofs.AtHandle.{when_some}
use Rattle.tsc_c.proofs.Held.{no_seat, works_at, works_at_none}
use Rattle.tsc_c.proofs.write_calls.tsc_seat_may_write.Goals as goal

pub returns-in-Some-seat_mut : goal.returns-in-Some-seat_mut
returns-in-Some-seat_mut c = record {
  answers = record {
    did = c.may_at.result;
    code_is = c.code.ensures;
    answers = works_at (CountsSeatLookup (ByKind (AnswersSeatMayWrite (write_asked c.args.keys.now c.args.spans.now
        c.args.write.now) c.may_at.new.seen c.may_at.new.out)
        (AnswersStripedMayWrite (write_asked c.args.keys.now c.args.spans.now
        c.args.write.now) c.may_at.new.seen c.may_at.new.out))) c.args.store.now.owned (Some
        (c.seat_mut.follows.lender c.may_at.new.held)) c.in-Some.held.now
        (c.seat_mut.follows.lender c.may_at.new.held) c.args.handle c.in-Some-seat_mut.seat.now
        c.may_at.new.held (c.may_at.result) (search rules) (search rules) (search rules) (when_some
        c.seat_mut.result c.in-Some-seat_mut.seat c.in-Some-seat_mut.is (c.seat_mut.follows.holds
        c.may_at.new.held)) (c.may_at.ensures.answers);
    kept = c.may_at.ensures.kept;
  };
}

pub returns-in-None-seat_mut : goal.returns-in-None-seat_mut
returns-in-None-seat_mut c = record {
  answers = record {
    did = Err refusal.Closed;
    code_is = search rules;
    answers = works_at_none (CountsSeatLookup (ByKind (AnswersSeatMayWrite (write_asked c.args.keys.now c.args.spans.now
        c.args.write.now) c.args.seen.now c.args.out.now)
        (AnswersStripedMayWrite (write_asked c.args.keys.now c.args.spans.now
        c.args.write.now) c.args.seen.now c.args.out.now))) c.args.store.now.owned (Some
        c.seat_mut.follows.lender-at-none) c.in-Some.held.now c.seat_mut.follows.lender-at-none
        c.args.handle (search rules) (search rules) (search rules)
        (c.seat_mut.follows.holds-at-none);
    kept = search rules;
  };
}

pub returns-in-None : goal.returns-in-None
returns-in-None c = record {
  answers = record {
    did = Err refusal.Closed;
    code_is = search rules;
    answers = no_seat (CountsSeatLookup (ByKind (AnswersSeatMayWrite (write_asked c.args.keys.now c.args.spans.now
        c.args.write.now) c.args.seen.now c.args.out.now)
        (AnswersStripedMayWrite (write_asked c.args.keys.now c.args.spans.now
        c.args.write.now) c.args.seen.now c.args.out.now))) c.args.store.now.owned
        c.args.store.now.owned c.args.handle (search rules) (search rules);
    kept = search rules;
  };
}
