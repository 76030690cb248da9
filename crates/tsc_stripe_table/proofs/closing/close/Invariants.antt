-- Proves the loop invariants of `close`. Closes the table when one participant keeps the states of
-- all seats, and gives the caches of all stripes.
use Rattle.std.proofs.Common.{◌≡◌, ℕ, ◌-◌, ◌<◌, ◌≤◌, false, get_or}
use Rattle.std.specs.Prelude.{vec_len, vec_capacity}
use Rattle.std.specs.Slots.{slots_items, slots_filled, slots_len}
use Rattle.std.specs.Mem.Slots.Ownership.{Filled}
use Rattle.tsc_stripe_table.specs.Stripes.{stripe_count}
use Rattle.tsc_stripe_table.proofs.Endings.{Gathers}
use Rattle.tsc_stripe_table.proofs.closing.close.Given as goal

abbrev pub invariant-loop-stripe : goal.invariant-loop-stripe
invariant-loop-stripe l = Filled (slots_filled l.closed.slots) l.stripe (slots_len l.closed.slots)
    × ((k : ℕ) → k < l.stripe → get_or (slots_filled l.closed.slots) k false ≡ false)
    × (l.stripe ≤ slots_len l.closed.slots)
    × (slots_len l.closed.slots ≡ stripe_count l.fn.table.shared.key.bounds)
    × (vec_len l.caches ≡ l.stripe) × (slots_len l.closed.slots ≤ vec_capacity l.caches)
    × Gathers l.fn.table.shared.key l.fn.all.me.0.states (slots_items l.closed.slots)
    l.caches.items l.stripe

abbrev pub decreases-loop-stripe : goal.decreases-loop-stripe
decreases-loop-stripe l = slots_len l.closed.slots - l.stripe
