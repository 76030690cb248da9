-- The elements are those that were copied, and then those that are left.
use Rattle.std.proofs.Common.{◌≡◌, ◌++◌, map}
use Rattle.std.specs.Arc.{arc_value}
use Rattle.std.specs.VecDeque.Iter.{deque_iter_rest}
use Rattle.tsc_chunks.specs.Chunks.{in_chunk}
use Rattle.tsc_chunks.proofs.list.copy_of.Given as goal

abbrev pub invariant-loop-element : goal.invariant-loop-element
invariant-loop-element g l = in_chunk l.fn.elements ≡ in_chunk l.copy ++
    map (λ p. arc_value p) (deque_iter_rest l.element-iterator)
