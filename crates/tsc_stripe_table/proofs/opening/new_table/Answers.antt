-- Proves the contract of `new_table`. A table with an empty cache for each stripe, and its first
-- participant, which keeps the states of all seats.
use Rattle.std.proofs.Common.{◌∙◌}
use Rattle.tsc_stripe_table.proofs.Openings.{opens}
use Rattle.tsc_stripe_table.proofs.opening.new_table.Goals as goal

pub new-requires : goal.new-requires
new-requires c =
    opens c.args.setup.now c.args.stripes c.as_slice.result.now c.in_ok-slots.slots.items
    c.requires (c.as_slice.ensures.value ∙ c.in_ok-words.ensures) c.in_ok-slots.ensures.count
    c.in_ok-slots.ensures.opened
