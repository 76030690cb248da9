-- Proves the contract of `ask_all`. Asks the next holder for all writes, in their order. The holder
-- tells for each write at which time it may be laid down.
use Rattle.std.proofs.Common.{drop, slice_index_or, ◌+◌}
use Rattle.example_hand_over.specs.Answered.{IsPushed}
use Rattle.timestamp_cache.proofs.Rows.{one_more_made, all_made, left_at, none_left}
use Rattle.example_hand_over.proofs.ask_all.Goals as goal

pub loop-write-preserved : goal.loop-write-preserved
loop-write-preserved g c =
    let writes = c.args.tables.writes.now in
    let i = c.loop-write.write-index in
    one_more_made (IsPushed g.F.Former.cache g.F.Former.range) writes c.loop-write.all.items
    c.push.new.self.items (drop i writes) (drop (i + 1) writes) (slice_index_or writes i _) _
    c.loop-write.invariant (left_at writes i _ c.loop-write-test.true) c.in_ok-push.ensures.items
    c.in_ok-reported.ensures

pub returns : goal.returns
returns g c =
    let writes = c.args.tables.writes.now in
    let i = c.loop-write.write-index in
    all_made (IsPushed g.F.Former.cache g.F.Former.range) writes c.loop-write.all.items
    (drop i writes) c.loop-write.invariant (none_left writes i c.loop-write-test.false)
