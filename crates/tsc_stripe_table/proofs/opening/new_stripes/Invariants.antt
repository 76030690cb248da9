-- Proves the loop invariants of `new_stripes`. The stripes at the opening.
use Rattle.std.proofs.Common.{◌≡◌, length}
use Rattle.tsc_stripe_table.specs.Opening.{AreOpened}
use Rattle.tsc_stripe_table.proofs.opening.new_stripes.Given as goal

abbrev pub invariant-loop-stripe : goal.invariant-loop-stripe
invariant-loop-stripe l = (length l.all.items ≡ l._stripe) × AreOpened l.fn.setup l.all.items
