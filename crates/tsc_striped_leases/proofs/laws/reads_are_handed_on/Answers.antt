-- Proves the contract of `reads_are_handed_on`.
use Rattle.tsc_striped_leases.proofs.Leases as leases
use Rattle.tsc_striped_leases.proofs.laws.reads_are_handed_on.Goals as goal

pub returns : goal.returns
returns c = leases.reads_are_handed_on
