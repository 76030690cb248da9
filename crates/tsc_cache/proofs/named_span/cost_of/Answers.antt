-- What two keys cost, one after the other.
use Rattle.std.proofs.Common.{arith, ap}
use Rattle.std.proofs.lemmas.List.Sums.{sum_by-append}
use Rattle.tsc_span.specs.Span.{cost_of}
use Rattle.tsc_cache.proofs.named_span.cost_of.Goals as goal

pub returns : goal.returns
returns c = omega (
  arith,
  c.end_cost.ensures.value,
  c.end_cost-2.ensures.value,
  ap cost_of c.end_keys.ensures.keys,
  sum_by-append,
)
