-- Proves the contract of `latches_of`. A latch for each key, in their order.
use Rattle.std.proofs.Common.{◌≡◌, drop, slice_index_or, ◌+◌}
use Rattle.timestamp_cache.proofs.Rows.{one_more_made, all_made, left_at, none_left}
use Rattle.example_lease_holder.proofs.latches_of.Goals as goal

pub loop-row-preserved : goal.loop-row-preserved
loop-row-preserved g c =
    let keys = c.args.keys.now in
    let i = c.loop-row.row-index in
    one_more_made (λ row latch. latch.key.now ≡ row.0.now) keys c.loop-row.latches.items
    c.push.new.self.items (drop i keys) (drop (i + 1) keys) (slice_index_or keys i _) _
    c.loop-row.invariant
    (left_at keys i _ c.loop-row-test.true) c.in_ok-push.ensures.items c.in_ok-latch.ensures

pub returns : goal.returns
returns g c =
    let keys = c.args.keys.now in
    let i = c.loop-row.row-index in
    all_made (λ row latch. latch.key.now ≡ row.0.now) keys c.loop-row.latches.items (drop i keys)
    c.loop-row.invariant (none_left keys i c.loop-row-test.false)
