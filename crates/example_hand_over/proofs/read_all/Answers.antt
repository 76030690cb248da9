-- Proves the contract of `read_all`. The former holder answers its reads, one after another.
use Rattle.std.proofs.Common.{drop, slice_index_or, ◌+◌}
use Rattle.example_hand_over.proofs.Answered.{none_answered, answering_more, answered_all}
use Rattle.timestamp_cache.proofs.Rows.{left_at, none_left}
use Rattle.example_hand_over.proofs.read_all.Goals as goal

pub loop-row-init : goal.loop-row-init
loop-row-init g c = none_answered c.args.cache.now c.args.reads.now

pub loop-row-preserved : goal.loop-row-preserved
loop-row-preserved g c =
    let reads = c.args.reads.now in
    let i = c.loop-row.row-index in
    answering_more c.args.cache.now c.loop-row.cache c.read_one.new.cache reads (drop i reads)
    (drop (i + 1) reads) (slice_index_or reads i _) c.loop-row.invariant
    (left_at reads i _ c.loop-row-test.true) c.in_ok-read_one.ensures

pub returns : goal.returns
returns g c =
    let reads = c.args.reads.now in
    let i = c.loop-row.row-index in
    answered_all c.args.cache.now c.loop-row.cache reads (drop i reads) c.loop-row.invariant
    (none_left reads i c.loop-row-test.false)
