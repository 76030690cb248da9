-- Proves the loop invariants of `Worker::read`. Reads the keys of its transaction, one after
-- another.
use Rattle.std.proofs.Common.{◌≡◌, ◌+◌, length}
use Rattle.timestamp_cache.specs.Words.{BeginsWith}
use Rattle.example_lease_holder.specs.Reads.{since}
use Rattle.example_lease_holder.specs.ReadSeats.{seen_by}
use Rattle.example_lease_holder.proofs.Plans.{HasFirst}
use Rattle.example_lease_holder.proofs.Worker.read.Given as goal

-- The keys so far were read, and each read was told.
abbrev pub invariant-loop-row : goal.invariant-loop-row
invariant-loop-row g l = record {
  added : HasFirst l.plan l.row-index (since (seen_by l.initial.self.me.seat) (seen_by l.self.me.seat));
  reported : length l.self.reported.items ≡ length l.initial.self.reported.items + l.row-index;
  seat : BeginsWith (seen_by l.self.me.seat) (seen_by l.initial.self.me.seat);
  plan : l.self.plan ≡ l.initial.self.plan;
  wrote : l.self.wrote ≡ l.initial.self.wrote;
}
