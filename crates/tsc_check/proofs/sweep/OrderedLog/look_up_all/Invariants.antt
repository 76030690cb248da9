-- Proves the loop invariants of `OrderedLog::look_up_all`.
use Rattle.std.proofs.Common.{◌≡◌, ◌≤◌, ◌&&◌, ℕ, length, nat_le}
use Rattle.tsc_check.specs.Verdict.{is_wrong_answer}
use Rattle.tsc_check.specs.CheckParts.{Lowers, last_below, looks_up_there}
use Rattle.tsc_check.proofs.Sweeping.{number_from_1}
use Rattle.tsc_check.proofs.sweep.OrderedLog.look_up_all.Given as goal

-- the lines from one on are done, and the next one is the last before it
abbrev pub invariant-loop-next : goal.invariant-loop-next
invariant-loop-next g l =
    record {
      above : ℕ;
      within : above ≤ length l.self.lines.now;
      here : l.next ≡ last_below (looks_up_there l.self.lines.now l.front) above;
      lowers : Lowers (is_wrong_answer l.self.trace.now l.self.lines.now)
          (λ j. looks_up_there l.self.lines.now l.front j && nat_le above j) l.least l.lowest;
    }

abbrev pub decreases-loop-next : goal.decreases-loop-next
decreases-loop-next g l = number_from_1 l.next
