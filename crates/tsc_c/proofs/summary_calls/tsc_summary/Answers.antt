-- The number tells what was done to what the handle names, or that it names nothing.
use Rattle.std.proofs.Common.{rules}
use Rattle.std.specs.Prelude.{Err}
use Rattle.tsc_ffi_store.specs.declared.refusal.Refusal.TheVariants as refusal
use Rattle.tsc_ffi_store.specs.Decode.{span_asked}
use Rattle.tsc_ffi_store.specs.Summaries.{summary_asked, AnswersSummary}
use Rattle.tsc_c.proofs.Held.{none_read, reads_there, reads_none_there}
use Rattle.tsc_c.proofs.summary_calls.tsc_summary.Goals as goal

pub returns-in-Some-cache-clause-answers : goal.returns-in-Some-cache-clause-answers
returns-in-Some-cache-clause-answers c = record {
  did = c.put_in.ensures.did;
  answers = reads_there (λ held. AnswersSummary (summary_asked (span_asked c.args.from.now c.args.to.now
      c.args.ends) c.args.most) held.cache) c.args.store.now.owned c.in-Some.held.now c.args.handle
      c.in-Some-cache.cache.now c.put_in.ensures.did (search rules) (search rules)
      c.put_in.ensures.answers;
  put = c.put_in.ensures.put;
}

pub returns-in-None-cache-clause-answers : goal.returns-in-None-cache-clause-answers
returns-in-None-cache-clause-answers c = record {
  did = Err refusal.Closed;
  answers = reads_none_there (λ held. AnswersSummary (summary_asked (span_asked c.args.from.now
      c.args.to.now c.args.ends) c.args.most) held.cache) c.args.store.now.owned c.in-Some.held.now
      c.args.handle (search rules) (search rules);
  put = search rules;
}

pub returns-in-None-clause-answers : goal.returns-in-None-clause-answers
returns-in-None-clause-answers c = record {
  did = Err refusal.Closed;
  answers = none_read (λ held. AnswersSummary (summary_asked (span_asked c.args.from.now c.args.to.now
      c.args.ends) c.args.most) held.cache) c.args.store.now.owned c.args.handle (search rules);
  put = search rules;
}
