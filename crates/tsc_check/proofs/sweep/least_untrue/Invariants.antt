-- Proves the loop invariants of `least_untrue`. The least line whose answer is wrong.
use Rattle.std.proofs.Common.{length}
use Rattle.tsc_cache.specs.CacheView.{RepresentsState}
use Rattle.tsc_check.specs.Verdict.{is_wrong_answer}
use Rattle.tsc_check.specs.CheckParts.{Lowers, is_before_front, state_at}
use Rattle.tsc_check.proofs.sweep.least_untrue.Given as goal

-- the lines with a lower front are done, and the cache has as many Adds
abbrev pub invariant-loop-front : goal.invariant-loop-front
invariant-loop-front g l =
    record {
      stands : RepresentsState l.cache l.trace.config (state_at l.trace l.lines l.front);
      lowers : Lowers (is_wrong_answer l.trace l.lines) (is_before_front l.lines l.front)
          (length l.lines) l.lowest;
    }
