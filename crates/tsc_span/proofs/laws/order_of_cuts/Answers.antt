-- The order of cuts is total, and nothing stands between the place before a key and the place after
-- it.
use Rattle.tsc_span.proofs.CutsTotal.{cut_cmp-total, cut_cmp-same, no_cut_between_sides}
use Rattle.tsc_span.proofs.laws.order_of_cuts.Goals as goal

pub returns : goal.returns
returns c = record {
  total = cut_cmp-total;
  same = cut_cmp-same;
  sides = λ k a. no_cut_between_sides a k;
}
