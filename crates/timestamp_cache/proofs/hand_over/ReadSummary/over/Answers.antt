-- One stretch after another.
use Rattle.std.proofs.Common.{◌∙◌, sym, ap}
use Rattle.tsc_span.specs.Cuts.{cut_of}
use Rattle.tsc_cache.specs.State.{look}
use Rattle.tsc_cache.specs.Keys.{keys_seen}
use Rattle.timestamp_cache.proofs.Going.{under_way_first, under_way_more, under_way_last}
use Rattle.timestamp_cache.proofs.Walking.{fewer_steps}
use Rattle.timestamp_cache.proofs.hand_over.ReadSummary.over.Goals as goal

pub loop-at-init : goal.loop-at-init
loop-at-init c = under_way_first c.args.cache.now (cut_of c.args.cuts.0) (cut_of c.args.cuts.1)
    c.args.most c.args.self c.requires.span c.requires.order c.requires.floor c.requires.none

pub loop-at-preserved : goal.loop-at-preserved
loop-at-preserved c =
    under_way_more c.args.cache.now c.args.self.span (cut_of c.args.cuts.0) (cut_of c.args.cuts.1)
    (cut_of c.loop-at.at) (cut_of c.stretch_end-end.result) c.args.most c.loop-at.reported
    c.in_ok-reported.reported c.get_max_ref-value.result
    c.loop-at.invariant c.stretch_end-end.ensures
    (λ config s stands. c.get_max_ref-value.ensures.stands config s stands ∙
    ap (look s) c.stretch.ensures) c.in_ok-reported.ensures

pub loop-at-smaller : goal.loop-at-smaller
loop-at-smaller c = fewer_steps (keys_seen c.args.cache.now.pages) (cut_of c.loop-at.at)
    (cut_of c.args.cuts.1) (cut_of c.stretch_end-end.result)
    (sym c.is_below.ensures ∙ c.loop-at-test.true) c.stretch_end-end.ensures

pub returns : goal.returns
returns c = under_way_last c.args.cache.now c.args.self.span (cut_of c.args.cuts.0)
    (cut_of c.args.cuts.1) (cut_of c.loop-at.at) c.args.most c.loop-at.reported c.loop-at.invariant
    (sym c.is_below.ensures ∙ c.loop-at-test.false)
