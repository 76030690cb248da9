-- The number tells what was done to what the handle names, or that it names nothing.
use Rattle.std.proofs.Common.{rules}
use Rattle.std.specs.Prelude.{Err, Some}
use Rattle.tsc_ffi_store.specs.declared.refusal.Refusal.TheVariants as refusal
use Rattle.tsc_ffi_store.specs.Writes.{write_asked, AnswersMayWrite}
use Rattle.tsc_ffi_store.specs.Counts.{CountsLookup}
use Rattle.tsc_ffi_store.proofs.AtHandle.{when_some}
use Rattle.tsc_c.proofs.Held.{no_cache, works_there, works_on_none}
use Rattle.tsc_c.proofs.write_calls.tsc_may_write.Goals as goal

pub returns-in-Some-cache_mut : goal.returns-in-Some-cache_mut
returns-in-Some-cache_mut c = record {
  answers = record {
    did = c.may_in.result;
    code_is = c.code.ensures;
    answers = works_there (CountsLookup (AnswersMayWrite (write_asked c.args.keys.now c.args.spans.now
        c.args.write.now) c.may_in.new.out))
        c.args.store.now.owned (Some (c.cache_mut.follows.lender c.may_in.new.held))
        c.in-Some.held.now (c.cache_mut.follows.lender c.may_in.new.held) c.args.handle
        c.in-Some-cache_mut.cache.now c.may_in.new.held c.may_in.result (search rules) (search
        rules) (search rules) (when_some c.cache_mut.result c.in-Some-cache_mut.cache
        c.in-Some-cache_mut.is (c.cache_mut.follows.holds c.may_in.new.held))
        c.may_in.ensures.answers;
    kept = c.may_in.ensures.kept;
  };
}

pub returns-in-None-cache_mut : goal.returns-in-None-cache_mut
returns-in-None-cache_mut c = record {
  answers = record {
    did = Err refusal.Closed;
    code_is = search rules;
    answers = works_on_none (CountsLookup (AnswersMayWrite (write_asked c.args.keys.now c.args.spans.now
        c.args.write.now) c.args.out.now))
        c.args.store.now.owned (Some c.cache_mut.follows.lender-at-none) c.in-Some.held.now
        c.cache_mut.follows.lender-at-none c.args.handle (search rules) (search rules) (search
        rules) (c.cache_mut.follows.holds-at-none);
    kept = search rules;
  };
}

pub returns-in-None : goal.returns-in-None
returns-in-None c = record {
  answers = record {
    did = Err refusal.Closed;
    code_is = search rules;
    answers = no_cache (CountsLookup (AnswersMayWrite (write_asked c.args.keys.now c.args.spans.now
        c.args.write.now) c.args.out.now))
        c.args.store.now.owned c.args.store.now.owned c.args.handle (search rules) (search rules);
    kept = search rules;
  };
}
