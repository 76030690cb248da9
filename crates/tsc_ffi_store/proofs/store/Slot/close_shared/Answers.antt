-- What is written is how many Adds the cache had that ended.
use Rattle.std.proofs.Common.{inr, refl, rules}
use Rattle.tsc_ffi_store.proofs.store.Slot.close_shared.Goals as goal

pub returns-in-Ok-clause-ended : goal.returns-in-Ok-clause-ended
returns-in-Ok-clause-ended c = record {
  closed = record {
    owner = c.in-Shared.owner;
    holds = search rules;
    none = search rules;
    ends = c.in-Ok.ensures.closed;
  };
  refused = tt;
}

pub returns-in-Err-clause-ended : goal.returns-in-Err-clause-ended
returns-in-Err-clause-ended c = record {
  closed = tt;
  refused = inr (
    refl,
    record {
      owner = c.in-Shared.owner;
      after = c.in-Err.owner;
      held = search rules;
      misses = c.in-Err.ensures.still_out;
      left = search rules;
    },
  );
}
