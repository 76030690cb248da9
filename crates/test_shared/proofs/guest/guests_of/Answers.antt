-- Proves the contract of `guests_of`. All seats at their cache.
use Rattle.std.proofs.Common.{◌≡◌, rules}
use Rattle.test_shared.proofs.Others.{others_too}
use Rattle.test_shared.proofs.guest.guests_of.Goals as goal

pub loop-seat-preserved : goal.loop-seat-preserved
loop-seat-preserved c = others_too (λ seat. seat.cache ≡ c.args.cache.now) _ _ _
    c.in-Some.ensures.steps.0 c.loop-seat.invariant
