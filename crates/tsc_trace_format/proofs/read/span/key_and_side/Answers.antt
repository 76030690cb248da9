-- Proves the contract of `key_and_side`. A key and its bracket.
use Rattle.tsc_trace_format.proofs.BothParts.{both_gives}
use Rattle.tsc_trace_format.proofs.read.span.key_and_side.Goals as goal

pub returns : goal.returns
returns c = rw c.both.ensures (both_gives (λ x. x) (λ y. y) c.key.result c.excluded.result _ _
    c.key.ensures c.excluded.ensures)
