-- Proves the loop invariants of `are_in_order`. Whether bounds ascend.
use Rattle.std.proofs.Common.{◌≡◌, drop}
use Rattle.tsc_striped.specs.Touching.{ascend, are_in_order}
use Rattle.tsc_striped.proofs.bounds.are_in_order.Given as goal

abbrev pub invariant-loop-bound : goal.invariant-loop-bound
invariant-loop-bound l =
    are_in_order l.fn.bounds ≡ ascend l.low (drop l.bound-index l.fn.bounds)
