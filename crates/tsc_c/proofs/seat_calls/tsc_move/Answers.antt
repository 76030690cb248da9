-- The number tells what the store did, or that there is none.
use Rattle.std.proofs.Common.{◌≡◌, rules}
use Rattle.std.specs.Prelude.{Err, OnErr, Some}
use Rattle.tsc_ffi_store.specs.declared.refusal.Refusal.TheVariants as refusal
use Rattle.tsc_ffi_store.specs.SeatCalls.{AnswersMove}
use Rattle.tsc_ffi_store.specs.Store.{slots_of}
use Rattle.tsc_c.proofs.Held.{in_store, none_moved}
use Rattle.tsc_c.proofs.seat_calls.tsc_move.Goals as goal

pub returns-in-Some : goal.returns-in-Some
returns-in-Some c = record {
  answers = record {
    did = c.move_from.result;
    code_is = c.code.ensures;
    answers = in_store (λ o n. AnswersMove c.args.handle c.move_from.new.other_handle o
        (slots_of c.args.other.now.owned) n (slots_of c.move_from.new.other.owned)
        c.move_from.result) c.args.store.now.owned (Some c.move_from.new.held)
        c.in-Some.held.now c.move_from.new.held (search rules) (search rules)
        c.move_from.ensures.answers;
    kept = in_store (λ o n. OnErr c.move_from.result ((n ≡ o) ×
        (slots_of c.move_from.new.other.owned ≡ slots_of c.args.other.now.owned) ×
        (c.move_from.new.other_handle ≡ c.args.other_handle.now))) c.args.store.now.owned
        (Some c.move_from.new.held) c.in-Some.held.now c.move_from.new.held (search rules)
        (search rules) c.move_from.ensures.kept;
  };
}

pub returns-in-None : goal.returns-in-None
returns-in-None c = record {
  answers = record {
    did = Err refusal.Closed;
    code_is = search rules;
    answers = none_moved c.args.handle c.args.other_handle.now c.args.store.now.owned
        c.args.store.now.owned (slots_of c.args.other.now.owned)
        (slots_of c.args.other.now.owned) (search rules);
    kept = search rules;
  };
}
