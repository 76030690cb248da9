-- The last element of the chunks goes.
use Rattle.std.proofs.Common.{◌∙◌, ap, ◌-◌, length, take, arith}
use Rattle.std.specs.Arc.{arc_value}
use Rattle.tsc_chunks.specs.Chunks.{in_chunk, in_chunks, joined}
use Rattle.tsc_chunks.proofs.FullChunks.{all_but_last}
use Rattle.tsc_chunks.proofs.list.ChunkedList.pop_back.Goals as goal

pub returns-then-self-gt0-clause-left : goal.returns-then-self-gt0-clause-left
returns-then-self-gt0-clause-left g c =
    let o = c.self.inside in
    let some = c.if-self-gt0.true in
    all_but_last (in_chunk o.newest) (joined (in_chunks (arc_value o.chunks))) o.chunked
    (omega arith) c.self.invariant.2
    ∙ ap (λ ps. take (length ps - 1) ps) c.self.view_is
