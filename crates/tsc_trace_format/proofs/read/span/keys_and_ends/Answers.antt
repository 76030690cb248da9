-- Proves the contract of `keys_and_ends`. Two keys and the brackets of both.
use Rattle.tsc_trace_format.proofs.BothParts.{both_gives}
use Rattle.tsc_trace_format.proofs.read.span.keys_and_ends.Goals as goal

pub returns : goal.returns
returns c = rw c.both.ensures (both_gives (λ x. x) (λ y. y) c.two_keys.result c.ends.result _ _
    c.two_keys.ensures c.ends.ensures)
