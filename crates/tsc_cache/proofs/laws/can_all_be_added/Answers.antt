-- One mark after another can be made.
use Rattle.std.proofs.Common.{◌≡◌, rules, sym, subst, arith, true}
use Rattle.tsc_page_model.specs.Page.{Mark}
use Rattle.tsc_cache.specs.ConfigView.{fits}
use Rattle.tsc_cache.specs.History.{CanBeAdded}
use Rattle.tsc_cache.proofs.Batches.{one_more_made, all_made}
use Rattle.tsc_cache.proofs.laws.can_all_be_added.Goals as goal

pub loop-mark-init : goal.loop-mark-init
loop-mark-init c fit = record { made = λ k d below. absurd (omega arith); fit = fit }

pub loop-mark-preserved : goal.loop-mark-preserved
loop-mark-preserved c fit =
    let can = subst (λ (m : Mark). fits c.args.config.now m.span ≡ true →
    CanBeAdded c.args.config.now m c.args.now) c.mark.view_is c.can_be_added.ensures in
    one_more_made c.args.config.now c.args.marks.now c.args.now c.loop-mark.mark-index
    c.mark-item.result (c.loop-mark.invariant fit) c.loop-mark-test.true
    (sym c.mark-item.is) can

pub returns : goal.returns
returns c fit seat number = record {
  marks = all_made c.args.config.now c.args.marks.now
      c.loop-mark.mark-index (c.loop-mark.invariant fit) (omega arith);
  moment = search rules;
}
