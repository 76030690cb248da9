-- Where a cache was opened at a handle, and calls added to it, a lookup answers what the floor and
-- all that was added come to.
use Rattle.tsc_ffi_store.proofs.Chains.{answers_all_added}
use Rattle.tsc_ffi_store.proofs.laws.answers_all_added.Goals as goal

pub returns : goal.returns
returns c = answers_all_added
