-- Proves the loop invariants of `note_epochs`. Notes the epoch of each seat.
use Rattle.std.proofs.Common.{◌≡◌, length, take}
use Rattle.tsc_left_right.specs.Participating.{noted_in}
use Rattle.tsc_left_right.proofs.lock.note_epochs.Given as goal

abbrev pub invariant-loop-seat : goal.invariant-loop-seat
invariant-loop-seat g l =
    (l.who.table_id ≡ l.fn.who.table_id) × (length l.noted ≡ length l.fn.noted)
    × (l.who.me ≡ (noted_in l.fn.who.me.0 (take l.seat l.noted), l.fn.who.me.1))
