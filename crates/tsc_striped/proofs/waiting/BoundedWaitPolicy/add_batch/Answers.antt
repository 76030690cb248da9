-- Proves the contract of `BoundedWaitPolicy::add_batch`.
use Rattle.std.proofs.Common.{◌∙◌, sym, ap, subst}
use Rattle.tsc_stripe_table.specs.Steps.{At}
use Rattle.tsc_striped.specs.Cutting.{CanAddBatch}
use Rattle.tsc_striped.specs.Batches.{AddsAll}
use Rattle.tsc_striped.proofs.waiting.BoundedWaitPolicy.add_batch.Goals as goal

pub add_under_all-requires-clause-can : goal.add_under_all-requires-clause-can
add_under_all-requires-clause-can g c =
    let b = c.args.batch.now in
    let can = subst (λ (m : At). CanAddBatch m.0.setup b) (sym c.loop.invariant.5)
    c.requires.can.0 in
    (can, ap (λ it. it.reported) c.loop.invariant.6 ∙ c.requires.can.1)

pub returns-in-Ok-clause-added : goal.returns-in-Ok-clause-added
returns-in-Ok-clause-added g c =
    let b = c.args.batch.now in (
      subst (λ (m : At). AddsAll m c.add_under_all.new.who.me b.marks.items b.moment c.in-Ok.added)
          c.loop.invariant.5 c.in-Ok.ensures.added.0,
      subst (λ it. g.G.Gate.HasReported it.gate.now it.seat) c.loop.invariant.6
          c.in-Ok.ensures.added.1,
    )
