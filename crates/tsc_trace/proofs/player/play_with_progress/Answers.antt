-- The log is told list by list.
use Rattle.std.proofs.Common.{◌≡◌, ◌∙◌, refl, sym, ap, subst, [], ◌++◌, ◌<◌, ◌≤◌, length, Some, true, arith}
use Rattle.std.specs.Prelude.{slice_get}
use Rattle.tsc_cache.specs.ConfigView.{ConfigView}
use Rattle.tsc_cache.specs.State.{opening}
use Rattle.tsc_cache.specs.CacheView.{RepresentsState}
use Rattle.tsc_trace_format.specs.Limits.{most_calls}
use Rattle.tsc_trace_format.specs.Lists.{fits_trace}
use Rattle.tsc_trace_format.specs.Traces.{Trace, EachFits, AllFit}
use Rattle.tsc_trace.specs.Play.{next_all, played}
use Rattle.tsc_trace.specs.Log.{log_of}
use Rattle.tsc_trace.proofs.Playing.{standing_after, lists_anew}
use Rattle.tsc_trace.proofs.ListSteps.{reported_with_list}
use Rattle.tsc_trace_format.proofs.Totals.{calls_within, list_at}
use Rattle.tsc_trace_format.proofs.Fitting.{list_fits}
use Rattle.tsc_trace.proofs.player.play_with_progress.Goals as goal

pub loop-thread-init : goal.loop-thread-init
loop-thread-init g c =
    let trace = c.args.trace.now in
    let config = ap (λ (t : Trace). t.config) c.trace.view_is in
    let stands : RepresentsState c.in_ok-new.field-0 c.trace.inside.config
    (opening c.trace.inside.config) = c.in_ok-new.ensures.stands in
    record {
      at = standing_after trace.config [];
      stands = record {
        state = subst (λ (s : ConfigView). RepresentsState c.in_ok-new.field-0 s
            (opening s)) config stands;
        adds = refl;
      };
      reported = rw c.new-2.ensures.items (sym (lists_anew trace.config 0 [] trace.threads));
      counted = omega arith;
      config = stands.set_up ∙ config;
    }

pub play_list-requires-clause-fits : goal.play_list-requires-clause-fits
play_list-requires-clause-fits g c =
    let trace = c.args.trace.now in
    let slices = c.slice-calls-items.result.now in
    let thread = c.loop-thread.thread in
    let calls = c.deref.result.now in
    let within : thread < length slices = omega arith in
    let threads = ap (λ (t : Trace). t.threads) c.trace.view_is in
    let here : slice_get trace.threads thread ≡ Some calls =
    ap (λ ls. slice_get ls thread) (sym threads ∙ sym c.slice-calls-items.ensures.value) ∙
    list_at slices thread c.calls-item.result within c.calls-item.is ∙
    ap Some (sym c.deref.ensures.value) in
    let fit : AllFit trace.config trace.threads =
    subst (λ (t : Trace). AllFit t.config t.threads) c.trace.view_is c.trace.invariant in
    subst (λ (s : ConfigView). EachFits s calls) (sym c.loop-thread.invariant.config)
    (list_fits trace.config trace.threads thread calls here fit)

pub play_list-requires-clause-index : goal.play_list-requires-clause-index
play_list-requires-clause-index g c =
    let slices = c.slice-calls-items.result.now in
    let fits = subst (λ lists. fits_trace lists ≡ true) (sym c.slice-calls-items.ensures.value)
    c.slice-calls-items.ensures.fits in
    let within : c.loop-thread.thread < length slices = omega arith in
    rw c.deref.ensures.value (calls_within slices c.loop-thread.thread c.calls-item.result fits
    within c.calls-item.is)

pub loop-thread-preserved : goal.loop-thread-preserved
loop-thread-preserved g c =
    let config = c.args.trace.now.config in
    let lists = c.args.trace.now.threads in
    let slices = c.slice-calls-items.result.now in
    let thread = c.loop-thread.thread in
    let at = c.loop-thread.invariant.at in
    let stands = c.loop-thread.invariant.stands in
    let calls = c.deref.result.now in
    let within : thread < length slices = omega arith in
    let fits = subst (λ lists. fits_trace lists ≡ true) (sym c.slice-calls-items.ensures.value)
    c.slice-calls-items.ensures.fits in
    let threads = ap (λ (t : Trace). t.threads) c.trace.view_is in
    let here : slice_get lists thread ≡ Some calls =
    ap (λ ls. slice_get ls thread) (sym threads ∙ sym c.slice-calls-items.ensures.value) ∙
    list_at slices thread c.calls-item.result within c.calls-item.is ∙
    ap Some (sym c.deref.ensures.value) in
    let added : c.play_list.new.self.lines.items ≡ c.loop-thread.player.lines.items ++
    played config thread 0 at calls = c.in_ok-play_list.ensures.lines config at stands in
    record {
      at = next_all config at calls;
      stands = c.in_ok-play_list.ensures.made.stands config at stands;
      reported = reported_with_list config thread at c.loop-thread.player.lines.items
          c.play_list.new.self.lines.items (log_of c.args.trace.now) calls lists here added
          c.loop-thread.invariant.reported;
      counted =
          let more = c.in_ok-play_list.ensures.made.count in
          let most : length calls ≤ most_calls =
          rw c.deref.ensures.value
          (calls_within slices thread c.calls-item.result fits within c.calls-item.is) in
          omega arith;
      config = c.in_ok-play_list.ensures.made.config ∙ c.loop-thread.invariant.config;
    }
