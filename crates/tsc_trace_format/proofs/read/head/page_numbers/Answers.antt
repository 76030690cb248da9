-- Proves the contract of `page_numbers`. The two page sizes, and `min_pages`.
use Rattle.tsc_trace_format.proofs.BothParts.{both_gives}
use Rattle.tsc_trace_format.proofs.read.head.page_numbers.Goals as goal

pub returns : goal.returns
returns c = rw c.both.ensures (both_gives (λ x. x) (λ y. y) c.page_sizes.result
    c.number_32_in.result _ _ c.page_sizes.ensures c.number_32_in.ensures)
