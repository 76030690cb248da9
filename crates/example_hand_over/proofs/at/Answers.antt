-- Proves the contract of `at`. The time of this wall time and no logical count, or the latest one
-- where that is out of range.
use Rattle.std.proofs.Common.{◌∙◌, ap}
use Rattle.std.specs.Prelude.{unwrap_or}
use Rattle.timestamp_cache.specs.Words.{Time, is_in_range}
use Rattle.example_hand_over.specs.Tables.{last_time}
use Rattle.example_hand_over.proofs.Times.{time_or}
use Rattle.example_hand_over.proofs.at.Goals as goal

pub returns : goal.returns
returns c =
    let time : Time = record { wall = c.args.wall; logical = 0 } in
    c.unwrap_or.ensures ∙ ap (λ reported. unwrap_or reported last_time) c.new.ensures ∙
    time_or (is_in_range time) time last_time
