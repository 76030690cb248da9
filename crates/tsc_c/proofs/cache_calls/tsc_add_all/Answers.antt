-- The number tells what was done to what the handle names, or that it names nothing.
use Rattle.std.proofs.Common.{rules}
use Rattle.std.specs.Prelude.{Err, Some}
use Rattle.tsc_ffi_store.specs.declared.refusal.Refusal.TheVariants as refusal
use Rattle.tsc_ffi_store.specs.CacheCalls.{AnswersAddAll}
use Rattle.tsc_ffi_store.specs.Decode.{batch_asked, added_of}
use Rattle.tsc_ffi_store.specs.Counts.{CountsAdd}
use Rattle.tsc_ffi_store.proofs.AtHandle.{when_some}
use Rattle.tsc_c.proofs.Held.{no_cache, works_there, works_on_none}
use Rattle.tsc_c.proofs.cache_calls.tsc_add_all.Goals as goal

pub returns-in-Some-cache_mut : goal.returns-in-Some-cache_mut
returns-in-Some-cache_mut c = record {
  answers = record {
    did = c.add_all_in.result;
    code_is = c.code.ensures;
    answers = works_there (CountsAdd (AnswersAddAll (batch_asked c.args.keys.now c.args.marks.now
        c.args.moment.now) (added_of c.add_all_in.new.out)) c.add_all_in.new.out.evicted) c.args.store.now.owned (Some
        (c.cache_mut.follows.lender c.add_all_in.new.held)) c.in-Some.held.now
        (c.cache_mut.follows.lender c.add_all_in.new.held) c.args.handle
        c.in-Some-cache_mut.cache.now c.add_all_in.new.held (c.add_all_in.result) (search rules)
        (search rules) (search rules) (when_some c.cache_mut.result c.in-Some-cache_mut.cache
        c.in-Some-cache_mut.is (c.cache_mut.follows.holds c.add_all_in.new.held))
        (c.add_all_in.ensures.answers);
    kept = c.add_all_in.ensures.kept;
  };
}

pub returns-in-None-cache_mut : goal.returns-in-None-cache_mut
returns-in-None-cache_mut c = record {
  answers = record {
    did = Err refusal.Closed;
    code_is = search rules;
    answers = works_on_none (CountsAdd (AnswersAddAll (batch_asked c.args.keys.now c.args.marks.now
        c.args.moment.now) (added_of c.args.out.now)) c.args.out.now.evicted) c.args.store.now.owned (Some
        c.cache_mut.follows.lender-at-none) c.in-Some.held.now c.cache_mut.follows.lender-at-none
        c.args.handle (search rules) (search rules) (search rules)
        (c.cache_mut.follows.holds-at-none);
    kept = search rules;
  };
}

pub returns-in-None : goal.returns-in-None
returns-in-None c = record {
  answers = record {
    did = Err refusal.Closed;
    code_is = search rules;
    answers = no_cache (CountsAdd (AnswersAddAll (batch_asked c.args.keys.now c.args.marks.now
        c.args.moment.now) (added_of c.args.out.now)) c.args.out.now.evicted) c.args.store.now.owned c.args.store.now.owned
        c.args.handle (search rules) (search rules);
    kept = search rules;
  };
}
