-- The words that are written tell the value that the cache answers.
use Rattle.std.proofs.Common.{refl, rules, subst}
use Rattle.tsc_ffi_store.specs.CacheCalls.{LooksIn}
use Rattle.tsc_ffi_store.specs.Decode.{asked_span}
use Rattle.tsc_ffi_store.proofs.cache_requests.look_formed.Goals as goal

pub returns-clause-answers : goal.returns-clause-answers
returns-clause-answers c = record {
  reads = record {
    looked = subst (λ v. LooksIn c.args.held.now.cache (asked_span c.args.span.now) v)
        c.words_of.ensures (search rules);
    refused = tt;
  };
  same = refl;
  counted = c.answer.ensures;
}
