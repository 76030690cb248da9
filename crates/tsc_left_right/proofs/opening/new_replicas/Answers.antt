-- Proves the contract of `new_replicas`. A table with two empty copies, and its first participant,
-- which keeps the states of all seats.
use Rattle.std.proofs.Common.{◌∙◌}
use Rattle.tsc_left_right.proofs.FirstSlots.{opens}
use Rattle.tsc_left_right.proofs.opening.new_replicas.Goals as goal

pub new-requires : goal.new-requires
new-requires g c =
    opens g.P.Replicated c.args.setup.now c.in_ok-state.state c.as_slice.result.now
    c.in_ok-slots.slots.items
    (c.as_slice.ensures.value ∙ c.in_ok-words.ensures) c.in_ok-state.ensures
    c.in_ok-slots.ensures
