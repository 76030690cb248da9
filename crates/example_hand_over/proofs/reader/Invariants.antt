-- Proves the loop invariants of `reader`. The read whose transaction an answer names.
use Rattle.std.proofs.Common.{◌≡◌, drop}
use Rattle.example_hand_over.specs.Texts.{reader}
use Rattle.example_hand_over.proofs.reader.Given as goal

-- The first one among those that are left is the first one of all.
abbrev pub invariant-loop-read : goal.invariant-loop-read
invariant-loop-read l = reader l.answer.owner (drop l.read-index l.reads) ≡ reader l.answer.owner
    l.reads
