-- Proves the contract of `is_counted`. A count of dropped pages has 64 bits.
use Rattle.std.proofs.Common.{◌≡◌, ◌-◌, arith}
use Rattle.std.specs.Prelude.{min, ◌^◌}
use Rattle.tsc_striped.proofs.wide_adds.is_counted.Goals as goal

pub returns : goal.returns
returns c =
    let a = c.args.added.now in
    let same : a.evicted ≡ min a.evicted (2 ^ 64 - 1) = omega arith in
    λ i. record { kept = a.kept; rotated = a.rotated; evicted = same i }
