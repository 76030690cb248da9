-- What two keys cost, one after the other.
use Rattle.std.proofs.Common.{arith, ap}
use Rattle.std.proofs.lemmas.List.Sums.{sum_by-append}
use Rattle.tsc_span.specs.Span.{cost_of}
use Rattle.tsc_span.proofs.span.Span.cost.Goals as goal

pub returns-clause-value : goal.returns-clause-value
returns-clause-value c = omega (
  arith,
  c.cost_of.ensures.value,
  c.cost_of-2.ensures.value,
  ap cost_of c.end_keys.ensures.keys,
  sum_by-append,
)
