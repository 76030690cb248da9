-- The number tells what was done to what the handle names, or that it names nothing.
use Rattle.std.proofs.Common.{refl, rules}
use Rattle.std.specs.Prelude.{Ok, Err}
use Rattle.tsc_ffi_store.specs.declared.refusal.Refusal.TheVariants as refusal
use Rattle.tsc_ffi_store.specs.CacheCalls.{AnswersAlways, ReportsFigures}
use Rattle.tsc_c.proofs.Held.{none_read, reads_there, reads_none_there}
use Rattle.tsc_c.proofs.cache_calls.tsc_figures_of.Goals as goal

pub returns-in-Some-cache-clause-answers : goal.returns-in-Some-cache-clause-answers
returns-in-Some-cache-clause-answers c = record {
  did = Ok tt;
  code_is = search rules;
  answers = reads_there (AnswersAlways (λ held. ReportsFigures held c.figures_in.new.out))
      c.args.store.now.owned c.in-Some.held.now c.args.handle c.in-Some-cache.cache.now (Ok tt)
      (search rules) (search rules) (record { reported = c.figures_in.ensures; done = refl });
  kept = tt;
}

pub returns-in-None-cache-clause-answers : goal.returns-in-None-cache-clause-answers
returns-in-None-cache-clause-answers c = record {
  did = Err refusal.Closed;
  code_is = search rules;
  answers = reads_none_there (AnswersAlways (λ held. ReportsFigures held c.args.out.now))
      c.args.store.now.owned c.in-Some.held.now c.args.handle (search rules) (search rules);
  kept = search rules;
}

pub returns-in-None-clause-answers : goal.returns-in-None-clause-answers
returns-in-None-clause-answers c = record {
  did = Err refusal.Closed;
  code_is = search rules;
  answers = none_read (AnswersAlways (λ held. ReportsFigures held c.args.out.now))
      c.args.store.now.owned c.args.handle (search rules);
  kept = search rules;
}
