-- Proves the contract of `marks_of`. The marks that are added where a summary is applied.
use Rattle.std.proofs.Common.{rules}
use Rattle.tsc_striped_leases.proofs.marks_of.Goals as goal

pub loop-mark-init : goal.loop-mark-init
loop-mark-init c = search rules
