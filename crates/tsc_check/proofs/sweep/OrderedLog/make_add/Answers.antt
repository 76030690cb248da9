-- Proves the contract of `OrderedLog::make_add`. Makes the Add of a line, and lowers a line number
-- to that of this line if its answer is another. (What answers share is stated in each: the facts
-- `c` of each goal have a type of their own.)
use Rattle.std.proofs.Common.{◌≡◌, sym, subst, refl, length, Some, ap, get_or}
use Rattle.std.specs.Prelude.{slice_get}
use Rattle.std.proofs.lemmas.Option.{slice_get_read}
use Rattle.tsc_cache.specs.History.{state_of}
use Rattle.tsc_cache.specs.CacheView.{RepresentsState}
use Rattle.tsc_check.specs.Verdict.{calls_of, first_adds, is_wrong_answer}
use Rattle.tsc_check.proofs.Sweeping.{add_reported, lowers_at, call_there, next_adds}
use Rattle.tsc_check.proofs.sweep.OrderedLog.make_add.Goals as goal

pub returns-in_ok-is_other_add-in-Some-clause-lowers :
    goal.returns-in_ok-is_other_add-in-Some-clause-lowers
returns-in_ok-is_other_add-in-Some-clause-lowers c = λ place adds stands.
    let trace = c.args.self.now.trace.now in
    let lines = c.args.self.now.lines.now in
    let line = get_or lines c.args.i c.index-self-i.result in
    let at : slice_get lines c.args.i ≡ Some line =
    slice_get_read lines (length lines) c.args.i line refl c.requires.index
    (ap (get_or lines c.args.i) c.index-self-i.is) in
    let other = c.in_ok-is_other_add-in-Some.field-0 in
    let reported = add_reported trace lines c.args.self.now.in_order c.args.i line at
    c.in-Some.call.now
    (sym c.in-Some.ensures.value) other
    (λ h. RepresentsState c.args.cache.now trace.config (state_of trace.config h))
    (λ h s a k. c.in_ok-is_other_add-in-Some.ensures.other trace.config h s a k) place adds
    stands in
    lowers_at (is_wrong_answer trace lines) c.args.i c.args.least c.lower.result other reported
    c.lower.ensures.at_most c.lower.ensures.one c.lower.ensures.lowest

pub returns-in_ok-is_other_add-in-Some-clause-stands :
    goal.returns-in_ok-is_other_add-in-Some-clause-stands
returns-in_ok-is_other_add-in-Some-clause-stands c = λ place adds stands.
    let trace = c.args.self.now.trace.now in
    let lines = c.args.self.now.lines.now in
    let line = get_or lines c.args.i c.index-self-i.result in
    let at : slice_get lines c.args.i ≡ Some line =
    slice_get_read lines (length lines) c.args.i line refl c.requires.index
    (ap (get_or lines c.args.i) c.index-self-i.is) in
    let next = next_adds trace lines c.args.self.now.in_order place c.args.i line at adds c.in-Some.call.now
    (sym c.in-Some.ensures.value) in
    subst (λ g. RepresentsState c.is_other_add.new.cache trace.config
    (state_of trace.config g)) next.1
    (c.in_ok-is_other_add-in-Some.ensures.stands trace.config next.0
    (first_adds (calls_of trace) lines place) stands)

pub returns-in-None-clause-lowers : goal.returns-in-None-clause-lowers
returns-in-None-clause-lowers c = λ place adds stands.
    let trace = c.args.self.now.trace.now in
    let lines = c.args.self.now.lines.now in
    let line = get_or lines c.args.i c.index-self-i.result in
    let at : slice_get lines c.args.i ≡ Some line =
    slice_get_read lines (length lines) c.args.i line refl c.requires.index
    (ap (get_or lines c.args.i) c.index-self-i.is) in
    absurd (call_there trace lines c.args.self.now.in_order c.args.i line at (sym c.in-None.ensures.value))

pub returns-in-None-clause-stands : goal.returns-in-None-clause-stands
returns-in-None-clause-stands c = λ place adds stands.
    let trace = c.args.self.now.trace.now in
    let lines = c.args.self.now.lines.now in
    let line = get_or lines c.args.i c.index-self-i.result in
    let at : slice_get lines c.args.i ≡ Some line =
    slice_get_read lines (length lines) c.args.i line refl c.requires.index
    (ap (get_or lines c.args.i) c.index-self-i.is) in
    absurd (call_there trace lines c.args.self.now.in_order c.args.i line at (sym c.in-None.ensures.value))
