-- Proves the loop invariant of `lesser_words`: the first look starts at a place below 64.
use Rattle.std.proofs.Common.{◌≤◌}
use Rattle.tsc_span.proofs.prefix_search.lesser_words.Given as goal

abbrev pub invariant-loop-stride : goal.invariant-loop-stride
invariant-loop-stride g l = l.low ≤ 56
