-- Times are in a total order.
use Rattle.tsc_time.proofs.TimeOrder.{is_before-itself, is_before-opposite, is_before-transitive, no_earlier-transitive, same_from_neither_before}
use Rattle.timestamp_cache.proofs.laws.order_of_times.Goals as goal

pub returns : goal.returns
returns c = record {
  itself = is_before-itself;
  opposite = is_before-opposite;
  transitive = is_before-transitive;
  no_earlier = no_earlier-transitive;
  same = same_from_neither_before;
}
