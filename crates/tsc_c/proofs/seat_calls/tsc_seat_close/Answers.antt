-- The number tells what the store did, or that there is none.
use Rattle.std.proofs.Common.{◌≡◌, rules}
use Rattle.std.specs.Prelude.{Err, OnErr, Some}
use Rattle.tsc_ffi_store.specs.declared.refusal.Refusal.TheVariants as refusal
use Rattle.tsc_ffi_store.specs.SeatCalls.{AnswersCloseSeat}
use Rattle.tsc_c.proofs.Held.{in_store, none_handed_in}
use Rattle.tsc_c.proofs.seat_calls.tsc_seat_close.Goals as goal

pub returns-in-Some : goal.returns-in-Some
returns-in-Some c = record {
  answers = record {
    did = c.close_seat.result;
    code_is = c.code.ensures;
    answers = in_store (λ o n. AnswersCloseSeat c.args.handle o n c.close_seat.result)
        c.args.store.now.owned (Some c.close_seat.new.self) c.in-Some.held.now c.close_seat.new.self
        (search rules) (search rules) c.close_seat.ensures.answers;
    kept = in_store (λ o n. OnErr c.close_seat.result (n ≡ o)) c.args.store.now.owned
        (Some c.close_seat.new.self) c.in-Some.held.now c.close_seat.new.self (search rules)
        (search rules) c.close_seat.ensures.kept;
  };
}

pub returns-in-None : goal.returns-in-None
returns-in-None c = record {
  answers = record {
    did = Err refusal.Closed;
    code_is = search rules;
    answers = none_handed_in c.args.store.now.owned c.args.store.now.owned c.args.handle
        (search rules);
    kept = search rules;
  };
}
