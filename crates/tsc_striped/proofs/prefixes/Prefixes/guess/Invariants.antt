-- Proves that the loop of `guess` ends: each turn goes on with a part of the prefixes.
use Rattle.std.proofs.Common.{length}
use Rattle.tsc_striped.proofs.prefixes.Prefixes.guess.Given as goal

abbrev pub decreases-loop-rest : goal.decreases-loop-rest
decreases-loop-rest l = length l.rest
