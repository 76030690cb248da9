-- Proves the loop invariants of `count_adds`. What is counted so far is what the seats so far come
-- to.
use Rattle.std.proofs.Common.{◌≡◌, take}
use Rattle.std.specs.List.{sum_by}
use Rattle.tsc_cache.specs.Counts.{up_to_end}
use Rattle.tsc_shared.proofs.retiring.count_adds.Given as goal

abbrev pub invariant-loop-seat : goal.invariant-loop-seat
invariant-loop-seat l =
    l.adds ≡ up_to_end (sum_by (λ seat. seat.count) (take l.seat-index l.seats))
