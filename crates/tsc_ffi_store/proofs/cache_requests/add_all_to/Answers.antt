-- The marks that were made are those that the cache was given.
use Rattle.std.proofs.Common.{sym, subst, inr}
use Rattle.tsc_ffi_store.specs.Decode.{asked_batch, added_of}
use Rattle.tsc_ffi_store.specs.Marks.{AreMarks, NamesAddAll}
use Rattle.tsc_ffi_store.proofs.Answering.{adds_all_in}
use Rattle.tsc_ffi_store.proofs.Trying.{added_fits, why_refused_in}
use Rattle.tsc_ffi_store.proofs.cache_requests.add_all_to.Goals as goal

pub returns-in-Ok-clause-answers : goal.returns-in-Ok-clause-answers
returns-in-Ok-clause-answers c = record {
  added = adds_all_in c.args.cache.now c.add_all.new.self (asked_batch c.args.args.now)
      c.deref.result.now c.in_ok-moment.moment c.in-Ok.added (added_of c.words_of_added.result)
      (record {
        moment = c.in_ok-moment.ensures.in_range;
        are = subst (AreMarks c.args.args.now.keys.now c.args.args.now.marks.now)
            (sym c.deref.ensures.value) c.in_ok-marks.ensures.value;
      }) (added_fits _ c.in-Ok.added c.in-Ok.ensures.too_large) c.in_ok-moment.ensures.value
      c.words_of_added.ensures
      c.in-Ok.ensures.seen;
  refused = tt;
  unchanged = tt;
}

pub returns-clause-answers : goal.returns-clause-answers
returns-clause-answers c =
    let names : NamesAddAll (asked_batch c.args.args.now) c.deref.result.now = record {
      moment = c.in_ok-moment.ensures.in_range;
      are = subst (AreMarks c.args.args.now.keys.now c.args.args.now.marks.now)
          (sym c.deref.ensures.value) c.in_ok-marks.ensures.value;
    } in
    record {
      added = tt;
      refused = inr (why_refused_in c.of_cache_fault.result _ c.in-Err.fault
          c.in-Err.ensures.too_large c.of_cache_fault.ensures.too_large
          c.of_cache_fault.ensures.memory
          (λ large reported. record {
            marks = c.deref.result.now;
            names = names;
            too_large = large;
            reported = reported;
          })
          (λ fit reported. record {
            marks = c.deref.result.now;
            names = names;
            fit = fit;
            reported = reported;
          }));
      unchanged = c.in-Err.ensures.unchanged;
    }
