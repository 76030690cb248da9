-- Proves the contract of `least_untrue`. The least line whose answer is wrong. (What answers share
-- is stated in each: the facts `c` of each goal have a type of their own.)
use Rattle.std.proofs.Common.{sym, ap, subst, ◌≤◌, suc, length, add-one, arith}
use Rattle.tsc_cache.specs.ConfigView.{ConfigView}
use Rattle.tsc_cache.specs.State.{opening}
use Rattle.tsc_cache.specs.CacheView.{RepresentsState}
use Rattle.tsc_trace_format.specs.Traces.{Trace}
use Rattle.tsc_check.specs.Verdict.{adds_in, is_wrong_answer}
use Rattle.tsc_check.specs.CheckParts.{Lowers, state_at, is_before_front}
use Rattle.tsc_check.proofs.Sweeping.{lowers_first, lowers_next, found_least, found_none}
use Rattle.tsc_check.proofs.sweep.least_untrue.Goals as goal

pub loop-front-preserved : goal.loop-front-preserved
loop-front-preserved g c =
    let trace = c.args.trace.now in
    let lines = c.args.lines.now in
    let front = c.loop-front.front in
    let test = is_wrong_answer trace lines in
    record {
      stands = subst (λ f. RepresentsState c.pass.new.cache trace.config (state_at trace lines f))
          (sym (add-one front)) c.in_ok-lowest.ensures.stands;
      lowers = subst (λ f. Lowers test (is_before_front lines f) (length lines)
          c.in_ok-lowest.lowest) (sym (add-one front))
          (lowers_next test lines front (length lines) c.loop-front.lowest c.in_ok-lowest.lowest
          c.loop-front.invariant.lowers c.in_ok-lowest.ensures.lowers);
    }

pub returns-then-lowest-lines : goal.returns-then-lowest-lines
returns-then-lowest-lines g c =
    let trace = c.args.trace.now in
    let lines = c.args.lines.now in
    let o = c.args.order.now in
    let all : suc (adds_in lines) ≤ c.loop-front.front =
    omega (
      arith,
      c.loop-front-test.false,
      c.len-front-end.ensures,
      c.requires.placed.add_slots,
      o.adds.ok.0,
    ) in
    found_least trace lines (is_wrong_answer trace lines) c.requires.order c.loop-front.front
    c.loop-front.lowest all c.loop-front.invariant.lowers c.if-lowest-lines.true

pub returns : goal.returns
returns g c =
    let trace = c.args.trace.now in
    let lines = c.args.lines.now in
    let o = c.args.order.now in
    let all : suc (adds_in lines) ≤ c.loop-front.front =
    omega (
      arith,
      c.loop-front-test.false,
      c.len-front-end.ensures,
      c.requires.placed.add_slots,
      o.adds.ok.0,
    ) in
    found_none trace lines (is_wrong_answer trace lines) c.requires.order c.loop-front.front
    c.loop-front.lowest all c.loop-front.invariant.lowers c.if-lowest-lines.false

pub loop-front-init : goal.loop-front-init
loop-front-init g c =
    let config = ap (λ (t : Trace). t.config) c.trace.view_is in
    let lines = c.args.lines.now in
    record {
      stands = subst (λ (s : ConfigView). RepresentsState c.in_ok-cache.cache s (opening s)) config
          c.in_ok-cache.ensures.stands;
      lowers = lowers_first (is_wrong_answer c.args.trace.now lines) lines (length lines);
    }
