-- Proves the contract of `free_time`. The earliest time, from one on, that is free for writes.
use Rattle.std.proofs.Common.{rules, sym}
use Rattle.mvcc_range.proofs.Times.{none_yet, one_more_key, no_more_keys, all_keys}
use Rattle.mvcc_range.proofs.range.free_time.Goals as goal

pub loop-write-init : goal.loop-write-init
loop-write-init c = none_yet c.args.cache.now c.args.versions.now c.args.by
    c.args.writes.now c.args.from (search rules)

pub loop-write-preserved : goal.loop-write-preserved
loop-write-preserved c =
    one_more_key c.args.cache.now c.args.versions.now c.args.by c.args.writes.now
    c.loop-write.write-index c.write-item.result c.args.from c.loop-write.at c.in-Some.next
    c.loop-write-test.true (sym c.write-item.is) c.loop-write.invariant c.in-Some.ensures

pub returns-in-None : goal.returns-in-None
returns-in-None c =
    no_more_keys c.args.cache.now c.args.versions.now c.args.by c.args.writes.now
    c.loop-write.write-index c.write-item.result c.args.from c.loop-write.at c.loop-write-test.true
    (sym c.write-item.is) c.loop-write.invariant c.in-None.ensures

pub returns : goal.returns
returns c = all_keys c.args.cache.now c.args.versions.now c.args.by c.args.writes.now
    c.loop-write.write-index c.args.from c.loop-write.at c.loop-write-test.false
    c.loop-write.invariant
