-- Proves the contract of `run_trace`. The log of a trace on threads.
use Rattle.std.proofs.Common.{◌≡◌, ◌∙◌, sym, ap, subst, length, List, map, rules}
use Rattle.std.proofs.lemmas.List.{length-map}
use Rattle.tsc_cache.specs.ConfigView.{ConfigView}
use Rattle.tsc_trace_format.specs.declared.trace.Call.{Call}
use Rattle.tsc_trace_format.specs.Traces.{Trace, AllFit}
use Rattle.tsc_check.specs.Verdict.{verdict_of}
use Rattle.tsc_check.specs.TrueLog.{IsRunOf, adds_of_lists}
use Rattle.tsc_check.proofs.TrueVerdict.{run_is_right}
use Rattle.std.specs.Prelude.{Ok, Err, IfOk, IfErr}
use Rattle.tsc_run.specs.Runs.{RunsAll, StopsLists, RunResult}
use Rattle.tsc_run.proofs.Seating.{can_end}
use Rattle.tsc_run.proofs.Unstarted.{is_started}
use Rattle.tsc_run.proofs.Truth.{run_of}
use Rattle.tsc_run.proofs.trace_runs.run_trace.Goals as goal

pub run_lists-requires : goal.run_lists-requires
run_lists-requires g c =
    let inside = c.trace.inside in
    let lists = map (λ calls. calls.items) c.slice-lists.result.now in
    let fit : AllFit inside.config lists =
    subst (AllFit inside.config) (sym c.slice-lists.ensures.value) c.trace.invariant in (
      search rules,
      (
        search rules,
        record {
          seats = search rules;
          calls = search rules;
          fits = subst (λ (s : ConfigView). AllFit s lists)
              (sym c.in_ok-cache.ensures.opened.config_kept) fit;
        },
      ),
    )

pub close-requires : goal.close-requires
close-requires g c = record { seats = c.in_ok-runs.ensures.runs.of_cache }

pub unreachable-requires : goal.unreachable-requires
unreachable-requires g c =
    let slices = c.slice-lists.result.now in
    let many = c.in_ok-runs.ensures.runs.as_many ∙ length-map slices (λ calls. calls.items) in
    let seats : c.in_ok-cache.cache.seats ≡ length slices =
    c.in_ok-cache.ensures.opened.count_kept in
    let e = c.in_default.ensures.exactly.1 (many ∙ sym seats) in cc

pub returns : goal.returns
returns g c =
    let slices = c.slice-lists.result.now in let cache = c.in_ok-cache.cache in let lines =
    c.in_ok-lines.lines.items in
    let opened = c.in_ok-cache.ensures.opened in
    let lists = c.slice-lists.ensures.value ∙ ap (λ (t : Trace). t.threads) c.trace.view_is in
    let config = opened.config_kept ∙ ap (λ (t : Trace). t.config) c.trace.view_is in
    let reported : c.in_ok-runs.runs.reported ≡ Ok c.in_ok-lines.lines = search rules in
    let ran_all = subst (λ (reported : RunResult). IfOk reported
    (λ all. RunsAll cache 0 (map (λ calls. calls.items) slices) all.items
    c.in_ok-runs.runs.seats.items)) reported c.in_ok-runs.ensures.runs.ran in
    let runs = subst (λ (ls : List (List Call)). RunsAll cache 0 ls lines
    c.in_ok-runs.runs.seats.items) lists ran_all in
    let many : cache.seats ≡ length c.args.trace.now.threads = opened.count_kept ∙
    sym (length-map slices (λ calls. calls.items)) ∙ ap length lists in
    let ran = run_of c.args.trace.now cache lines c.in_ok-runs.runs.seats.items c.in-Ok._closed
    config many runs c.in-Ok.ensures.closed in
    record {
      right = ap (verdict_of c.args.trace.now) c.of.ensures ∙
          run_is_right c.args.trace.now lines ran.0 ran.1;
      run = (ran.0, subst (λ ls. IsRunOf c.args.trace.now ls ran.0) (sym c.of.ensures) ran.1);
      why = tt;
      no_thread = λ is. absurd cc;
    }

pub returns-in_err-lines-clause-why : goal.returns-in_err-lines-clause-why
returns-in_err-lines-clause-why g c =
    let cache = c.in_ok-cache.cache in let lists =
    map (λ calls. calls.items) c.slice-lists.result.now in let seats =
    c.in_ok-runs.runs.seats.items in let why = c.in_err-lines.field-0.0 in
    let limit : cache.limit ≡ adds_of_lists lists = c.in_ok-cache.ensures.opened.limit_kept ∙
    c.count_all_adds-adds.ensures.value in
    let reported : c.in_ok-runs.runs.reported ≡ Err why = search rules in
    let stopped = subst (λ (reported : RunResult). IfErr reported (λ why. StopsLists why cache
    lists seats)) reported
    c.in_ok-runs.ensures.runs.stopped in
    let same : c.from_residual-in_err-lines.result ≡ Err why = search rules in
    rw same (can_end why cache lists seats c.in-Ok._closed limit stopped c.in-Ok.ensures.closed)

pub returns-in_err-lines-clause-no_thread : goal.returns-in_err-lines-clause-no_thread
returns-in_err-lines-clause-no_thread g c =
    let cache = c.in_ok-cache.cache in let lists =
    map (λ calls. calls.items) c.slice-lists.result.now in let seats =
    c.in_ok-runs.runs.seats.items in let why = c.in_err-lines.field-0.0 in
    let reported : c.in_ok-runs.runs.reported ≡ Err why = search rules in
    let stopped = subst (λ (reported : RunResult). IfErr reported (λ why. StopsLists why cache
    lists seats)) reported
    c.in_ok-runs.ensures.runs.stopped in
    let same : c.from_residual-in_err-lines.result ≡ Err why = search rules in
    let started = is_started why cache lists seats stopped in
    λ is. let no = sym same ∙ is in absurd (started cc)
