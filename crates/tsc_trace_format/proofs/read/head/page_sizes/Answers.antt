-- Proves the contract of `page_sizes`. `page_first` and `page_max`.
use Rattle.tsc_trace_format.proofs.BothParts.{both_gives}
use Rattle.tsc_trace_format.proofs.read.head.page_sizes.Goals as goal

pub returns : goal.returns
returns c = rw c.both.ensures (both_gives (λ x. x) (λ y. y) c.number_32_in.result
    c.number_32_in-2.result _ _ c.number_32_in.ensures c.number_32_in-2.ensures)
