-- Proves the loop invariants of `install_handles`. Lays a handle on this cache, which has had
-- `adds` Adds, into each slot that was cleared.
use Rattle.std.proofs.Common.{◌≡◌}
use Rattle.std.specs.Arc.{arc_value}
use Rattle.tsc_left_right.proofs.InstallCalls.{Installs}
use Rattle.tsc_left_right.proofs.lock.install_handles.Given as goal

abbrev pub invariant-loop-seat : goal.invariant-loop-seat
invariant-loop-seat g l =
    (l.who.table_id ≡ l.fn.who.table_id)
    × Installs l.fn.who.me.0 l.who.me (arc_value l.fn.active) l.fn.length l.seat
    l.fn.seats l.all
