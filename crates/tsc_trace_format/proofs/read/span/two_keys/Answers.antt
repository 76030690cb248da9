-- Proves the contract of `two_keys`. Two keys.
use Rattle.tsc_trace_format.proofs.BothParts.{both_gives}
use Rattle.tsc_trace_format.proofs.read.span.two_keys.Goals as goal

pub returns : goal.returns
returns c = rw c.both.ensures (both_gives (λ x. x) (λ y. y) c.key.result c.key-2.result _ _
    c.key.ensures c.key-2.ensures)
