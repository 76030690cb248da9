-- Proves the contract of `OrderedLog::pass`: it answers all lines that follow one number of Adds,
-- the Add last. Each answer states again what they share, since the facts `c` of each goal have a
-- type of their own.
use Rattle.std.proofs.Common.{◌≡◌, ◌∙◌, sym, subst, length, Some, None}
use Rattle.std.proofs.lemmas.Result.{IfOk-weaker, on_ok_weaker}
use Rattle.tsc_cache.specs.History.{state_of}
use Rattle.tsc_cache.specs.CacheView.{RepresentsState}
use Rattle.tsc_check.specs.Verdict.{is_wrong_answer}
use Rattle.tsc_check.specs.CheckParts.{adds_there, looks_up_there, last_below}
use Rattle.tsc_check.proofs.Sweeping.{no_more_adds, last_is, lowers_pass, lowers_no_add, only_add, no_add_there}
use Rattle.tsc_check.proofs.sweep.OrderedLog.pass.Goals as goal

pub make_add-requires-clause-index : goal.make_add-requires-clause-index
make_add-requires-clause-index g c =
    let trace = c.args.self.now.trace.now in
    let lines = c.args.self.now.lines.now in
    let o = c.args.self.now.order.now in
    let front = c.args.front in
    let i = c.in-Some.i in
    let at : last_below (adds_there lines front) (length lines) ≡ Some i =
    sym (c.args.self.now.placed.adds_at front c.index.result.now c.requires.front) ∙
    sym c.index.ensures ∙ c.in-Some.is in
    let last = last_is (adds_there lines front) (length lines) i at in
    last.below

pub returns-in-Some-clause-lowers : goal.returns-in-Some-clause-lowers
returns-in-Some-clause-lowers g c =
    let trace = c.args.self.now.trace.now in
    let lines = c.args.self.now.lines.now in
    let o = c.args.self.now.order.now in
    let front = c.args.front in
    let i = c.in-Some.i in
    let at : last_below (adds_there lines front) (length lines) ≡ Some i =
    sym (c.args.self.now.placed.adds_at front c.index.result.now c.requires.front) ∙
    sym c.index.ensures ∙ c.in-Some.is in
    let last = last_is (adds_there lines front) (length lines) i at in
    IfOk-weaker c.make_add.result _ _
    (λ new h. lowers_pass (is_wrong_answer trace lines) (looks_up_there lines front)
    (adds_there lines front) i c.args.least c.look_up_all-least.result new
    c.look_up_all-least.ensures (h front last.passes c.requires.stands)
    (only_add trace lines c.args.self.now.in_order front i last.passes))
    c.make_add.ensures.lowers

pub returns-in-Some-clause-stands : goal.returns-in-Some-clause-stands
returns-in-Some-clause-stands g c =
    let trace = c.args.self.now.trace.now in
    let lines = c.args.self.now.lines.now in
    let o = c.args.self.now.order.now in
    let front = c.args.front in
    let i = c.in-Some.i in
    let at : last_below (adds_there lines front) (length lines) ≡ Some i =
    sym (c.args.self.now.placed.adds_at front c.index.result.now c.requires.front) ∙
    sym c.index.ensures ∙ c.in-Some.is in
    let last = last_is (adds_there lines front) (length lines) i at in
    on_ok_weaker c.make_add.result (λ h. h front last.passes c.requires.stands)
    c.make_add.ensures.stands

pub returns-in-None-clause-lowers : goal.returns-in-None-clause-lowers
returns-in-None-clause-lowers g c =
    let trace = c.args.self.now.trace.now in
    let lines = c.args.self.now.lines.now in
    let o = c.args.self.now.order.now in
    let front = c.args.front in
    let at : last_below (adds_there lines front) (length lines) ≡ None =
    sym (c.args.self.now.placed.adds_at front c.index.result.now c.requires.front) ∙
    sym c.index.ensures ∙ c.in-None.is in
    lowers_no_add (is_wrong_answer trace lines) (looks_up_there lines front)
    (adds_there lines front) c.args.least c.look_up_all-least.result c.look_up_all-least.ensures
    (no_add_there lines front at)

pub returns-in-None-clause-stands : goal.returns-in-None-clause-stands
returns-in-None-clause-stands g c =
    let trace = c.args.self.now.trace.now in
    let lines = c.args.self.now.lines.now in
    let o = c.args.self.now.order.now in
    let front = c.args.front in
    let at : last_below (adds_there lines front) (length lines) ≡ None =
    sym (c.args.self.now.placed.adds_at front c.index.result.now c.requires.front) ∙
    sym c.index.ensures ∙ c.in-None.is in
    subst (λ h. RepresentsState c.args.cache.now trace.config (state_of trace.config h))
    (no_more_adds trace lines front at) c.requires.stands
