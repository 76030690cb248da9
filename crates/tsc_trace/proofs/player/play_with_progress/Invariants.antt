-- Proves the loop invariants of `play_with_progress`. Makes the log of a trace, as `play` does. It
-- tells `progress` of each call as soon as the call was made.
use Rattle.std.proofs.Common.{◌≡◌, ◌*◌, ◌≤◌, ◌++◌, drop}
use Rattle.tsc_trace.specs.Log.{log_of}
use Rattle.tsc_trace.specs.Play.{Standing, played_lists}
use Rattle.tsc_trace.specs.PlayerParts.{StandsAt}
use Rattle.tsc_trace.proofs.player.play_with_progress.Given as goal

-- the lines so far and those of the lists that are left are the log of the trace
abbrev pub invariant-loop-thread : goal.invariant-loop-thread
invariant-loop-thread g l =
    record {
      at : Standing;
      stands : StandsAt l.player l.trace.config at;
      reported : l.player.lines.items ++
          played_lists l.trace.config l.thread at (drop l.thread l.trace.threads) ≡ log_of l.trace;
      counted : l.player.adds ≤ l.thread * 65536;
      config : l.player.cache.config ≡ l.trace.config;
    }
