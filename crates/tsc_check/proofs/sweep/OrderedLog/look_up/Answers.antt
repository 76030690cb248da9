-- Proves the contract of `OrderedLog::look_up`. Lowers a line number to that of a lookup whose
-- answer is another than the cache gives. (What answers share is stated in each: the facts `c` of
-- each goal have a type of their own.)
use Rattle.std.proofs.Common.{◌≡◌, sym, refl, length, Some, ap, get_or}
use Rattle.std.specs.Prelude.{slice_get}
use Rattle.std.proofs.lemmas.Option.{slice_get_read}
use Rattle.tsc_cache.specs.History.{state_of}
use Rattle.tsc_cache.specs.CacheView.{RepresentsState}
use Rattle.tsc_check.specs.Verdict.{is_wrong_answer}
use Rattle.tsc_check.proofs.Sweeping.{lookup_reported, lowers_at, call_there}
use Rattle.tsc_check.proofs.sweep.OrderedLog.look_up.Goals as goal

pub returns-in-Some : goal.returns-in-Some
returns-in-Some c = λ front looks stands.
    let trace = c.args.self.now.trace.now in
    let lines = c.args.self.now.lines.now in
    let line = get_or lines c.args.i c.index-self-i.result in
    let at : slice_get lines c.args.i ≡ Some line =
    slice_get_read lines (length lines) c.args.i line refl c.requires.index
    (ap (get_or lines c.args.i) c.index-self-i.is) in
    let reported = lookup_reported trace lines c.args.self.now.in_order c.args.i line at
    c.in-Some.call.now
    (sym c.in-Some.ensures.value) c.is_other_value.result
    (λ h. RepresentsState c.args.cache.now trace.config (state_of trace.config h))
    (λ h s a. c.is_other_value.ensures trace.config h s a) front looks stands in
    lowers_at (is_wrong_answer trace lines) c.args.i c.args.least c.lower.result
    c.is_other_value.result reported c.lower.ensures.at_most c.lower.ensures.one
    c.lower.ensures.lowest

pub returns-in-None : goal.returns-in-None
returns-in-None c = λ front looks stands.
    let trace = c.args.self.now.trace.now in
    let lines = c.args.self.now.lines.now in
    let line = get_or lines c.args.i c.index-self-i.result in
    let at : slice_get lines c.args.i ≡ Some line =
    slice_get_read lines (length lines) c.args.i line refl c.requires.index
    (ap (get_or lines c.args.i) c.index-self-i.is) in
    absurd (call_there trace lines c.args.self.now.in_order c.args.i line at (sym c.in-None.ensures.value))
