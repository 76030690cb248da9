-- The earliest floor so far, and of those that are left, is that of all.
use Rattle.std.proofs.Common.{◌≡◌, drop}
use Rattle.tsc_striped_leases.specs.Merging.{least_floor, last_time}
use Rattle.tsc_striped_leases.proofs.merging.earliest_floor.Given as goal

abbrev pub invariant-loop-part : goal.invariant-loop-part
invariant-loop-part l =
    least_floor l.least (drop l.part-index l.parts) ≡ least_floor last_time l.parts
