-- List by list, by what is left. (What answers share is stated in each: the facts `c` of each goal
-- have a type of their own.)
use Rattle.std.proofs.Common.{◌≡◌, ◌∙◌, sym, ap, subst, ◌<◌, ◌≤◌, ◌+◌, length, drop, Some, true, arith}
use Rattle.std.proofs.lemmas.List.{length-map}
use Rattle.std.specs.Prelude.{slice_get}
use Rattle.tsc_trace_format.specs.Lists.{fits_trace}
use Rattle.tsc_trace_format.specs.Traces.{Trace}
use Rattle.tsc_trace_format.proofs.Totals.{list_at}
use Rattle.tsc_check.specs.Verdict.{calls_of, calls_of_lists}
use Rattle.tsc_check.specs.CheckParts.{first_other}
use Rattle.tsc_check.proofs.LeftLists.{next_list, no_list_left, some_line_left, no_line_left, few_lines, few_before}
use Rattle.tsc_check.proofs.calls.other_line.Goals as goal

pub returns-in-Some-clause-first : goal.returns-in-Some-clause-first
returns-in-Some-clause-first c =
    let trace = c.args.trace.now in
    let threads = ap (λ (t : Trace). t.threads) c.trace.view_is in
    let lists = trace.threads in
    let thread = c.loop-thread.thread in
    let slices = c.slice-calls-items.result.now in
    let within : thread < length slices = omega arith in
    let here : slice_get lists thread ≡ Some c.deref.result.now =
    ap (λ ls. slice_get ls thread) (sym threads ∙ sym c.slice-calls-items.ensures.value) ∙
    list_at slices thread c.calls-item.result within c.calls-item.is ∙
    ap Some (sym c.deref.ensures.value) in
    sym (next_list lists thread c.loop-thread.from c.deref.result.now c.args.lines.now
    (first_other 0 (calls_of trace) c.args.lines.now) here c.loop-thread.invariant.first ∙
    c.in-Some.ensures.first _)

pub returns-in-Some-clause-below : goal.returns-in-Some-clause-below
returns-in-Some-clause-below c =
    let trace = c.args.trace.now in
    let threads = ap (λ (t : Trace). t.threads) c.trace.view_is in
    let lists = trace.threads in
    let thread = c.loop-thread.thread in
    let slices = c.slice-calls-items.result.now in
    let within : thread < length slices = omega arith in
    let here : slice_get lists thread ≡ Some c.deref.result.now =
    ap (λ ls. slice_get ls thread) (sym threads ∙ sym c.slice-calls-items.ensures.value) ∙
    list_at slices thread c.calls-item.result within c.calls-item.is ∙
    ap Some (sym c.deref.ensures.value) in
    let first : Some c.in-Some.i ≡ first_other 0 (calls_of trace) c.args.lines.now =
    sym (next_list lists thread c.loop-thread.from c.deref.result.now c.args.lines.now
    (first_other 0 (calls_of trace) c.args.lines.now) here c.loop-thread.invariant.first ∙
    c.in-Some.ensures.first _) in
    let fits = subst (λ ls. fits_trace ls ≡ true) threads c.slice-calls-items.ensures.fits in
    omega (arith, few_before lists c.args.lines.now c.in-Some.i fits first)

pub loop-thread-preserved : goal.loop-thread-preserved
loop-thread-preserved c =
    let trace = c.args.trace.now in
    let threads = ap (λ (t : Trace). t.threads) c.trace.view_is in
    let lists = trace.threads in
    let thread = c.loop-thread.thread in
    let slices = c.slice-calls-items.result.now in
    let within : thread < length slices = omega arith in
    let here : slice_get lists thread ≡ Some c.deref.result.now =
    ap (λ ls. slice_get ls thread) (sym threads ∙ sym c.slice-calls-items.ensures.value) ∙
    list_at slices thread c.calls-item.result within c.calls-item.is ∙
    ap Some (sym c.deref.ensures.value) in
    let from = c.loop-thread.from in
    let lines = c.args.lines.now in
    let reported = c.in_default.ensures in
    let rest = calls_of_lists (thread + 1) (drop (thread + 1) lists) in
    let size : length c.deref.result.now ≡ c.len-from.result = c.deref.ensures.len ∙
    sym c.len-from.ensures in
    record {
      within = subst (λ n. from + n ≤ length lines) size reported.within;
      first = next_list lists thread from c.deref.result.now lines
          (first_other 0 (calls_of trace) lines) here c.loop-thread.invariant.first
          ∙ reported.first rest ∙ ap (λ n. first_other (from + n) rest (drop (from + n) lines))
          size;
    }

pub returns-then-from-lines-clause-first : goal.returns-then-from-lines-clause-first
returns-then-from-lines-clause-first c =
    let trace = c.args.trace.now in
    let threads = ap (λ (t : Trace). t.threads) c.trace.view_is in
    let slices = c.slice-calls-items.result.now in
    let end : length trace.threads ≤ c.loop-thread.thread =
    omega (
      arith,
      ap length c.slice-calls-items.ensures.value,
      ap length threads,
      length-map slices (λ calls. calls.items),
      c.loop-thread-test.false,
    ) in
    some_line_left c.args.lines.now c.loop-thread.from
    (first_other 0 (calls_of trace) c.args.lines.now) c.if-from-lines.true
    (no_list_left trace.threads c.loop-thread.thread c.loop-thread.from c.args.lines.now
    (first_other 0 (calls_of trace) c.args.lines.now) end c.loop-thread.invariant.first)

pub returns-else-from-lines-clause-few : goal.returns-else-from-lines-clause-few
returns-else-from-lines-clause-few c =
    let trace = c.args.trace.now in
    let threads = ap (λ (t : Trace). t.threads) c.trace.view_is in
    let slices = c.slice-calls-items.result.now in
    let end : length trace.threads ≤ c.loop-thread.thread =
    omega (
      arith,
      ap length c.slice-calls-items.ensures.value,
      ap length threads,
      length-map slices (λ calls. calls.items),
      c.loop-thread-test.false,
    ) in
    let whole = first_other 0 (calls_of trace) c.args.lines.now in
    few_lines trace.threads c.args.lines.now
    (subst (λ ls. fits_trace ls ≡ true) threads c.slice-calls-items.ensures.fits)
    (no_line_left c.args.lines.now c.loop-thread.from whole c.if-from-lines.false
    (no_list_left trace.threads c.loop-thread.thread c.loop-thread.from c.args.lines.now whole
    end c.loop-thread.invariant.first))
