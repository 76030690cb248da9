-- Proves the contract of `swap`. Makes this copy active, which has had an Add; the one that was
-- active until then lags by it.
use Rattle.std.proofs.Common.{rules}
use Rattle.tsc_left_right.proofs.preparing.swap.Goals as goal

pub returns : goal.returns
returns g c = search rules
