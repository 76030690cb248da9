-- Proves the contract of `range_between`. Two keys between whose ends some place lies are in order.
use Rattle.std.proofs.Common.{◌∙◌, ap}
use Rattle.std.specs.Prelude.{Option, unwrap_or}
use Rattle.tsc_span.specs.Span.{SpanView, nothing}
use Rattle.tsc_striped.proofs.Cutting.{in_order}
use Rattle.tsc_striped.proofs.pieces.range_between.Goals as goal

pub returns : goal.returns
returns c =
    c.for_lookup.ensures
    ∙ ap (λ (r : Option SpanView). unwrap_or r nothing) (in_order c.args.from c.args.to
    c.args.ends.exclude_from c.args.ends.exclude_to c.requires)
