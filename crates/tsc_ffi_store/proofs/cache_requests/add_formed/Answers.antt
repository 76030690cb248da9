-- What the cache made of an Add of the span that was named, and why it refused it.
use Rattle.std.proofs.Common.{inr}
use Rattle.tsc_ffi_store.specs.Decode.{asked_add, added_of, NamesAdd}
use Rattle.tsc_ffi_store.proofs.Answering.{adds_in}
use Rattle.tsc_ffi_store.proofs.Trying.{added_fits, why_refused_in}
use Rattle.tsc_ffi_store.proofs.cache_requests.add_formed.Goals as goal

pub returns-in-Ok-clause-answers : goal.returns-in-Ok-clause-answers
returns-in-Ok-clause-answers c = record {
  added = adds_in c.args.cache.now c.add.new.self (asked_add c.args.args.now)
      c.in_ok-span.span c.in_ok-value.value c.in_ok-moment.moment c.in-Ok.added
      (added_of c.words_of_added.result) (record {
        value_time = c.in_ok-value.ensures.in_range;
        moment = c.in_ok-moment.ensures.in_range;
        names = c.in_ok-span.ensures.names;
      }) (added_fits _ c.in-Ok.added c.in-Ok.ensures.too_large) c.in_ok-value.ensures.value
      c.in_ok-moment.ensures.value c.words_of_added.ensures c.in-Ok.ensures.seen;
  refused = tt;
  unchanged = tt;
}

pub returns-clause-answers : goal.returns-clause-answers
returns-clause-answers c =
    let names : NamesAdd (asked_add c.args.args.now) c.in_ok-span.span = record {
      value_time = c.in_ok-value.ensures.in_range;
      moment = c.in_ok-moment.ensures.in_range;
      names = c.in_ok-span.ensures.names;
    } in
    record {
      added = tt;
      refused = inr (why_refused_in c.of_cache_fault.result _ c.in-Err.fault
          c.in-Err.ensures.too_large c.of_cache_fault.ensures.too_large
          c.of_cache_fault.ensures.memory
          (λ large reported. record {
            span = c.in_ok-span.span;
            names = names;
            too_large = large;
            reported = reported;
          })
          (λ fit reported. record {
            span = c.in_ok-span.span;
            names = names;
            fit = fit;
            reported = reported;
          }));
      unchanged = c.in-Err.ensures.unchanged;
    }
