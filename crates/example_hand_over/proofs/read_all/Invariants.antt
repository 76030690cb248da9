-- Proves the loop invariants of `read_all`. The former holder answers its reads, one after another.
use Rattle.std.proofs.Common.{drop}
use Rattle.example_hand_over.proofs.Answered.{IsAnswering}
use Rattle.example_hand_over.proofs.read_all.Given as goal

abbrev pub invariant-loop-row : goal.invariant-loop-row
invariant-loop-row g l = IsAnswering l.initial.cache l.fn.reads l.cache
    (drop l.row-index l.fn.reads)
