-- Proves the loop invariants of `Player::play_list`. Makes the calls of the list with this number,
-- and adds their lines.
use Rattle.std.proofs.Common.{◌≡◌, ◌+◌, ◌≤◌, drop}
use Rattle.tsc_cache.specs.ConfigView.{ConfigView}
use Rattle.tsc_trace.specs.Play.{Standing}
use Rattle.tsc_trace.specs.PlayerParts.{StandsAt}
use Rattle.tsc_trace.proofs.ListSteps.{IsUnderWay}
use Rattle.tsc_trace.proofs.player.Player.play_list.Given as goal

-- from wherever it stood, it is under way
abbrev pub invariant-loop-index : goal.invariant-loop-index
invariant-loop-index g l =
    record {
      under_way : (config : ConfigView) (from : Standing) → StandsAt l.fn.self config from →
          IsUnderWay l.fn.self l.self config l.thread l.index l.calls (drop l.index l.calls) from;
      counted : l.self.adds ≤ l.fn.self.adds + l.index;
      config : l.self.cache.config ≡ l.fn.self.cache.config;
    }
