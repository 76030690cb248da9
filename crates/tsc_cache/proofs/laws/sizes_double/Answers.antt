-- A new page has the first size that the span fits, of twice, four times, eight times and further
-- doublings of the size before it. Each of these is no larger than the largest.
use Rattle.tsc_cache.proofs.Sizes.{sizes_double}
use Rattle.tsc_cache.proofs.laws.sizes_double.Goals as goal

pub returns : goal.returns
returns c = sizes_double
