-- The write may be made just where the earliest time is its own.
use Rattle.std.proofs.Common.{refl, rules}
use Rattle.tsc_ffi_store.specs.Writes.{asked_write}
use Rattle.tsc_ffi_store.proofs.MayWrite.{may_write}
use Rattle.tsc_ffi_store.proofs.write_requests.may_in.Goals as goal

pub returns-clause-answers : goal.returns-clause-answers
returns-clause-answers c = record {
  reads = record {
    reported = may_write c.args.held.now.cache (asked_write c.args.args.now)
        c.in_ok-earliest.earliest c.is_at.result (search rules) c.in_ok-earliest.ensures.reported
        (search rules);
    refused = tt;
  };
  same = refl;
  counted = c.answer.ensures;
}
