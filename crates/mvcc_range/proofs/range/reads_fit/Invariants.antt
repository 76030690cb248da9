-- Proves the loop invariants of `reads_fit`. Whether a cache has room for each of some reads.
use Rattle.std.proofs.Common.{◌≡◌, drop}
use Rattle.mvcc_range.specs.Steps.{reads_fit}
use Rattle.mvcc_range.proofs.range.reads_fit.Given as goal

abbrev pub invariant-loop-read : goal.invariant-loop-read
invariant-loop-read l = reads_fit l.cache.config (drop l.read-index l.reads)
    ≡ reads_fit l.cache.config l.reads
