-- The marks so far, and those that are left, are all.
use Rattle.std.proofs.Common.{◌≡◌, ◌++◌}
use Rattle.std.specs.Vec.Iter.{into_iter_items}
use Rattle.tsc_striped_leases.specs.Merging.{floor_mark}
use Rattle.tsc_striped_leases.proofs.merging.report_over.Given as goal

abbrev pub invariant-loop-mark : goal.invariant-loop-mark
invariant-loop-mark l =
    (goal.iterator-loop-mark).can_next l.mark-iterator ×
    (goal.iterator-loop-mark).is_finite l.mark-iterator ×
    (l.marks.items ++ into_iter_items l.mark-iterator ≡
    l.fn.marks.items ++ (floor_mark l.fn.floor l.fn.part ++ l.fn.part.marks))
