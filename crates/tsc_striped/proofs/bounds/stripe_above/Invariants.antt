-- Proves the loop invariants of `stripe_above`. The stripe of what lies right above a place.
use Rattle.std.proofs.Common.{◌≤◌, ◌-◌, length}
use Rattle.tsc_span.specs.Cuts.{cut_of}
use Rattle.tsc_striped.specs.Touching.{stripe_above}
use Rattle.tsc_striped.proofs.bounds.stripe_above.Given as goal

abbrev pub invariant-loop-low : goal.invariant-loop-low
invariant-loop-low l =
    (l.low ≤ stripe_above l.fn.bounds (cut_of l.fn.place))
    × (stripe_above l.fn.bounds (cut_of l.fn.place) ≤ l.high) × (l.high ≤ length l.fn.bounds)

abbrev pub decreases-loop-low : goal.decreases-loop-low
decreases-loop-low l = l.high - l.low
