-- What the cache made of an Add of the key that was named, and why it refused it.
use Rattle.std.proofs.Common.{◌≡◌, inr, rules}
use Rattle.std.specs.Prelude.{Some}
use Rattle.tsc_span.specs.Span.{point}
use Rattle.tsc_ffi_store.specs.declared.decode.Form.TheVariants.{Point}
use Rattle.tsc_ffi_store.specs.Decode.{asked_add, asked_span, added_of, form_of}
use Rattle.tsc_ffi_store.proofs.Answering.{adds_in}
use Rattle.tsc_ffi_store.proofs.NamedSpans.{names_point}
use Rattle.tsc_ffi_store.proofs.Trying.{added_fits, why_refused_in}
use Rattle.tsc_ffi_store.proofs.cache_requests.add_to.Goals as goal

pub returns-in-Ok-clause-answers : goal.returns-in-Ok-clause-answers
returns-in-Ok-clause-answers c =
    let is : form_of c.args.args.now.span.ends ≡ Some Point = search rules in
    let fit = added_fits _ c.in-Ok.added c.in-Ok.ensures.too_large in
    record {
      added = adds_in c.args.cache.now c.add_key.new.self (asked_add c.args.args.now)
          (point c.in_ok-key.key) c.in_ok-value.value c.in_ok-moment.moment c.in-Ok.added
          (added_of c.words_of_added.result) (record {
            value_time = c.in_ok-value.ensures.in_range;
            moment = c.in_ok-moment.ensures.in_range;
            names = names_point (asked_span c.args.args.now.span) c.in_ok-key.key is
                c.in_ok-key.ensures.value c.in_ok-key.ensures.short;
          }) fit c.in_ok-value.ensures.value c.in_ok-moment.ensures.value c.words_of_added.ensures
          c.in-Ok.ensures.seen;
      refused = tt;
      unchanged = tt;
    }

pub returns-in-Err-clause-answers : goal.returns-in-Err-clause-answers
returns-in-Err-clause-answers c =
    let is : form_of c.args.args.now.span.ends ≡ Some Point = search rules in
    let names = names_point (asked_span c.args.args.now.span) c.in_ok-key.key is
    c.in_ok-key.ensures.value c.in_ok-key.ensures.short in
    record {
      added = tt;
      refused = inr (why_refused_in c.of_cache_fault.result _ c.in-Err.fault
          c.in-Err.ensures.too_large c.of_cache_fault.ensures.too_large
          c.of_cache_fault.ensures.memory
          (λ large reported. record {
            span = point c.in_ok-key.key;
            names = record {
              value_time = c.in_ok-value.ensures.in_range;
              moment = c.in_ok-moment.ensures.in_range;
              names = names;
            };
            too_large = large;
            reported = reported;
          })
          (λ fit reported. record {
            span = point c.in_ok-key.key;
            names = record {
              value_time = c.in_ok-value.ensures.in_range;
              moment = c.in_ok-moment.ensures.in_range;
              names = names;
            };
            fit = fit;
            reported = reported;
          }));
      unchanged = c.in-Err.ensures.unchanged;
    }
