-- The seat counts as many Adds as before.
use Rattle.std.proofs.Common.{rules}
use Rattle.tsc_shared.proofs.shared.SharedCache.fault.Goals as goal

pub invariant_of-seat : goal.invariant_of-seat
invariant_of-seat c = search rules
