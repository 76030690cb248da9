-- The marks so far, and those of the summaries that are left, are those of all.
use Rattle.std.proofs.Common.{◌≡◌, ◌++◌}
use Rattle.std.specs.Vec.Iter.{into_iter_items}
use Rattle.tsc_striped_leases.specs.Merging.{marks_over}
use Rattle.tsc_striped_leases.proofs.merging.all_as_one.Given as goal

abbrev pub invariant-loop-part : goal.invariant-loop-part
invariant-loop-part l =
    (goal.iterator-loop-part).can_next l.part-iterator ×
    (goal.iterator-loop-part).is_finite l.part-iterator ×
    (l.marks.items ++ marks_over l.floor (into_iter_items l.part-iterator) ≡
    marks_over l.floor l.fn.parts.items)
