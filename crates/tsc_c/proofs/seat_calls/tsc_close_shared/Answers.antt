-- The number tells what the store did, or that there is none.
use Rattle.std.proofs.Common.{rules}
use Rattle.std.specs.Prelude.{Err, Some}
use Rattle.tsc_ffi_store.specs.declared.refusal.Refusal.TheVariants as refusal
use Rattle.tsc_ffi_store.specs.SeatCalls.{AnswersCloseShared}
use Rattle.tsc_c.proofs.Held.{in_store, none_ended}
use Rattle.tsc_c.proofs.seat_calls.tsc_close_shared.Goals as goal

pub returns-in-Some : goal.returns-in-Some
returns-in-Some c = record {
  answers = record {
    did = c.close_shared.result;
    code_is = c.code.ensures;
    answers = in_store (λ o n. AnswersCloseShared c.close_shared.new.length c.args.handle o n
        c.close_shared.result) c.args.store.now.owned (Some c.close_shared.new.self)
        c.in-Some.held.now c.close_shared.new.self (search rules) (search rules)
        c.close_shared.ensures.answers;
    kept = c.close_shared.ensures.kept;
  };
}

pub returns-in-None : goal.returns-in-None
returns-in-None c = record {
  answers = record {
    did = Err refusal.Closed;
    code_is = search rules;
    answers = none_ended c.args.length.now c.args.store.now.owned c.args.store.now.owned
        c.args.handle (search rules) (search rules);
    kept = search rules;
  };
}
