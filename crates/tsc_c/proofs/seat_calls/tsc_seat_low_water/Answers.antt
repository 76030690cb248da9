-- The number tells what was done to what the handle names, or that it names nothing.
use Rattle.std.proofs.Common.{rules}
use Rattle.std.specs.Prelude.{Err, Some}
use Rattle.tsc_ffi_store.specs.declared.refusal.Refusal.TheVariants as refusal
use Rattle.tsc_ffi_store.specs.SeatCalls.{AnswersSeatLowWater}
use Rattle.tsc_ffi_store.specs.Decode.{time_of}
use Rattle.tsc_ffi_store.specs.Counts.{CountsNothing}
use Rattle.tsc_ffi_store.specs.Kinds.{ByKind}
use Rattle.tsc_ffi_store.specs.StripedCalls.{AnswersStripedLowWater}
use Rattle.tsc_ffi_store.proofs.AtHandle.{when_some}
use Rattle.tsc_c.proofs.Held.{no_seat, works_at, works_at_none}
use Rattle.tsc_c.proofs.seat_calls.tsc_seat_low_water.Goals as goal

pub returns-in-Some-seat_mut : goal.returns-in-Some-seat_mut
returns-in-Some-seat_mut c = record {
  answers = record {
    did = c.floor_at.result;
    code_is = c.code.ensures;
    answers = works_at (CountsNothing (ByKind (AnswersSeatLowWater c.floor_at.new.seen
        (time_of c.floor_at.new.out))
        (AnswersStripedLowWater c.floor_at.new.seen
        (time_of c.floor_at.new.out))))
        c.args.store.now.owned (Some (c.seat_mut.follows.lender c.floor_at.new.held))
        c.in-Some.held.now (c.seat_mut.follows.lender c.floor_at.new.held) c.args.handle
        c.in-Some-seat_mut.seat.now c.floor_at.new.held c.floor_at.result (search rules) (search rules)
        (search rules) (when_some c.seat_mut.result c.in-Some-seat_mut.seat c.in-Some-seat_mut.is
        (c.seat_mut.follows.holds c.floor_at.new.held)) c.floor_at.ensures.answers;
    kept = c.floor_at.ensures.kept;
  };
}

pub returns-in-None-seat_mut : goal.returns-in-None-seat_mut
returns-in-None-seat_mut c = record {
  answers = record {
    did = Err refusal.Closed;
    code_is = search rules;
    answers = works_at_none (CountsNothing (ByKind (AnswersSeatLowWater c.args.seen.now
        (time_of c.args.out.now))
        (AnswersStripedLowWater c.args.seen.now
        (time_of c.args.out.now))))
        c.args.store.now.owned (Some c.seat_mut.follows.lender-at-none) c.in-Some.held.now
        c.seat_mut.follows.lender-at-none c.args.handle (search rules) (search rules) (search
        rules) (c.seat_mut.follows.holds-at-none);
    kept = search rules;
  };
}

pub returns-in-None : goal.returns-in-None
returns-in-None c = record {
  answers = record {
    did = Err refusal.Closed;
    code_is = search rules;
    answers = no_seat (CountsNothing (ByKind (AnswersSeatLowWater c.args.seen.now
        (time_of c.args.out.now))
        (AnswersStripedLowWater c.args.seen.now
        (time_of c.args.out.now))))
        c.args.store.now.owned c.args.store.now.owned c.args.handle (search rules) (search rules);
    kept = search rules;
  };
}
