-- Where bytes that one cache told were applied to another, a write on a span within what was told
-- of that is clear of what the other one answers, then or after more Adds, is clear of each read
-- there that was added to the first.
use Rattle.tsc_ffi_store.proofs.GoingOn.{leases_go_on}
use Rattle.tsc_ffi_store.proofs.laws.leases_go_on.Goals as goal

pub returns : goal.returns
returns c = leases_go_on
