-- What was read from the bytes is what the cache was given.
use Rattle.tsc_ffi_store.specs.Decode.{added_of}
use Rattle.tsc_ffi_store.specs.Summaries.{asked_apply}
use Rattle.tsc_ffi_store.proofs.Applying.{applies_in}
use Rattle.tsc_ffi_store.proofs.Trying.{added_fits}
use Rattle.tsc_ffi_store.proofs.summary_requests.apply_to.Goals as goal

pub returns-in-Ok-clause-answers : goal.returns-in-Ok-clause-answers
returns-in-Ok-clause-answers c = record {
  added = applies_in c.args.cache.now c.apply.new.cache (asked_apply c.args.args.now)
      c.in_ok-reported.reported c.in_ok-moment.moment c.in-Ok.added
      (added_of c.words_of_added.result)
      (record {
        moment = c.in_ok-moment.ensures.in_range;
        read = c.in_ok-reported.ensures.reported;
      }) (added_fits _ c.in-Ok.added c.in-Ok.ensures.refused.too_large) c.in_ok-moment.ensures.value
      c.words_of_added.ensures
      c.in-Ok.ensures.seen c.in-Ok.ensures.stands c.in-Ok.ensures.added c.in-Ok.ensures.takes_over;
  refused = tt;
  unchanged = tt;
}
