-- Proves the contract of `make_calls`. Makes the calls of a list, one after another, and tells the
-- gate of each.
use Rattle.std.proofs.Common.{rules, ◌≡◌, ◌∙◌, ◌+◌, ◌++◌, sym, subst, List, arith, refl}
use Rattle.std.specs.Prelude.{Err}
use Rattle.tsc_trace.specs.declared.log.Line.{Line}
use Rattle.tsc_run.specs.Runs.{Runs}
use Rattle.tsc_run.specs.declared.fault.RunFault.TheVariants.{NoMemory}
use Rattle.tsc_run.proofs.Running.{one_more, all_made}
use Rattle.tsc_run.proofs.Seating.{one_less_left, fits_here, ends_refused, ends_without_memory, ends_whole}
use Rattle.tsc_run.proofs.list.make_calls.Goals as goal

pub loop-index-init : goal.loop-index-init
loop-index-init g c =
    let start = c.args.seat.now in
    record {
      cache = c.requires.cache;
      same = refl;
      thread = search rules;
      runs = λ rest last run. subst (λ (lines : List Line). Runs start 0 c.args.calls.now
          (lines ++ rest) last) (sym c.in_ok-lines.ensures.items) run;
      left = refl;
    }

pub answer-said-requires-clause-cache : goal.answer-said-requires-clause-cache
answer-said-requires-clause-cache g c = c.loop-index.invariant.cache

pub answer-said-requires-clause-fits : goal.answer-said-requires-clause-fits
answer-said-requires-clause-fits g c =
    fits_here c.args.cache.now c.loop-index.seat c.args.calls.now c.loop-index.index
    c.index-calls-index.result c.requires.fits c.loop-index.invariant.cache (omega arith)
    c.index-calls-index.is

pub returns-in_err-lines : goal.returns-in_err-lines
returns-in_err-lines g c =
    let start = c.args.seat.now in
    let same : c.from_residual.result ≡ Err NoMemory = search rules in
    rw same (ends_without_memory start start c.args.calls.now 0 refl refl)

pub returns-in_err-said : goal.returns-in_err-said
returns-in_err-said g c =
    let start = c.args.seat.now in
    let same : c.from_residual-in_err-said.result ≡ Err c.in_err-said.field-0.0 = search rules in
    rw same
    (ends_refused start c.loop-index.seat c.answer-said.new.seat c.args.calls.now c.loop-index.index
    c.index-calls-index.result c.in_err-said.field-0.0
    (omega arith) c.index-calls-index.is c.loop-index.invariant.same c.answer-said.ensures.seat
    c.in_err-said.ensures.refused c.loop-index.invariant.left)

pub returns-in_err-push : goal.returns-in_err-push
returns-in_err-push g c =
    let start = c.args.seat.now in
    let goes = c.answer-said.ensures.seat in
    let left = one_less_left start c.loop-index.seat c.answer-said.new.seat c.args.calls.now
    c.loop-index.index c.index-calls-index.result _ (omega arith) c.index-calls-index.is goes
    c.in_ok-said.ensures.said c.loop-index.invariant.left in
    let same : c.from_residual-in_err-push.result ≡ Err NoMemory = search rules in
    rw same (ends_without_memory start c.answer-said.new.seat c.args.calls.now
    (c.loop-index.index + 1) (goes.cache ∙ c.loop-index.invariant.same) left)

pub loop-index-preserved : goal.loop-index-preserved
loop-index-preserved g c =
    let goes = c.answer-said.ensures.seat in
    let start = c.args.seat.now in
    record {
      cache = goes.cache ∙ c.loop-index.invariant.cache;
      same = goes.cache ∙ c.loop-index.invariant.same;
      thread = c.loop-index.invariant.thread ∙ sym goes.number;
      runs =
          one_more start c.loop-index.seat c.answer-said.new.seat c.args.calls.now
          c.loop-index.lines.items c.push.new.self.items _ c.loop-index.index
          c.index-calls-index.result
          (omega arith) c.index-calls-index.is c.loop-index.invariant.thread refl goes
          c.in_ok-said.ensures.said c.in_ok-push.ensures.items c.loop-index.invariant.runs;
      left = one_less_left start c.loop-index.seat c.answer-said.new.seat c.args.calls.now
          c.loop-index.index c.index-calls-index.result _ (omega arith) c.index-calls-index.is goes
          c.in_ok-said.ensures.said c.loop-index.invariant.left;
    }

pub returns : goal.returns
returns g c =
    let start = c.args.seat.now in
    let run = all_made start c.loop-index.seat c.args.calls.now c.loop-index.lines.items
    c.loop-index.index (omega arith) c.loop-index.invariant.runs in
    ends_whole start c.loop-index.seat c.args.calls.now c.loop-index.lines c.loop-index.index
    c.loop-index.invariant.same c.loop-index.invariant.left run
