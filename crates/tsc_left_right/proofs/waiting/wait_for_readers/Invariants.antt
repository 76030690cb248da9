-- Proves the loop invariants of `wait_for_readers`. Takes the slots of all seats on the standby
-- side.
use Rattle.std.proofs.Common.{◌≡◌}
use Rattle.tsc_left_right.specs.Participating.{IsWriting}
use Rattle.tsc_left_right.proofs.waiting.wait_for_readers.Given as goal

abbrev pub invariant-loop-seat : goal.invariant-loop-seat
invariant-loop-seat g l = (l.who.table_id ≡ l.fn.who.table_id)
    × IsWriting l.fn.who.me.0 l.who.me l.seat
