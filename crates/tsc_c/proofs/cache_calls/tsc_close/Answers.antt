-- The number tells what the store did, or that there is none.
use Rattle.std.proofs.Common.{◌≡◌, refl, rules}
use Rattle.std.specs.Prelude.{Err, OnErr, Some}
use Rattle.tsc_ffi_store.specs.declared.refusal.Refusal.TheVariants as refusal
use Rattle.tsc_ffi_store.specs.Store.{cache_at, AnswersClose}
use Rattle.tsc_c.proofs.Held.{in_store, none_closed}
use Rattle.tsc_c.proofs.cache_calls.tsc_close.Goals as goal

pub returns-in-Some : goal.returns-in-Some
returns-in-Some c = record {
  answers = record {
    did = c.close.result;
    code_is = c.code.ensures;
    answers = in_store (λ o n. AnswersClose cache_at c.args.handle o n c.close.result)
        c.args.store.now.owned (Some c.close.new.self) c.in-Some.held.now c.close.new.self
        (search rules) (search rules) c.close.ensures.answers;
    kept = in_store (λ o n. OnErr c.close.result (n ≡ o)) c.args.store.now.owned
        (Some c.close.new.self) c.in-Some.held.now c.close.new.self (search rules)
        (search rules) c.close.ensures.kept;
  };
}

pub returns-in-None : goal.returns-in-None
returns-in-None c = record {
  answers = record {
    did = Err refusal.Closed;
    code_is = search rules;
    answers = none_closed cache_at c.args.store.now.owned c.args.store.now.owned c.args.handle refl
        (search rules) (search rules);
    kept = search rules;
  };
}
