-- Proves the contract of `ask`. The next holder is asked for a write, and tells at which time that
-- may be laid down.
use Rattle.std.proofs.Common.{sym}
use Rattle.example_hand_over.proofs.Answered.{same_span}
use Rattle.example_hand_over.proofs.ask.Goals as goal

pub ask_on-requires : goal.ask_on-requires
ask_on-requires g c = sym (same_span _ _ c.in_ok-span.ensures)
