-- Proves the contract of `close`. Closes the table when one participant keeps the states of all
-- seats, and gives the caches of all stripes.
use Rattle.std.proofs.Common.{◌∙◌, ap, arith, length}
use Rattle.std.specs.Slots.{slots_items, slots_filled, slots_len}
use Rattle.std.specs.Prelude.{vec_len}
use Rattle.tsc_stripe_table.proofs.Endings.{gathers_none, gathers_more, gathers_all, left_filled}
use Rattle.tsc_stripe_table.proofs.Endings.{left_empty}
use Rattle.tsc_stripe_table.proofs.closing.close.Goals as goal

pub loop-stripe-init : goal.loop-stripe-init
loop-stripe-init c =
    let end_ = c.close_with-closed.ensures.values.2 in (
      c.close_with-closed.ensures.values.1,
      (λ k low. absurd (omega (arith, low))),
      omega arith,
      c.close_with-closed.ensures.counts.1 ∙ c.requires.table.1.slots,
      omega (arith, c.args.caches.ok.0, ap length c.requires.room.0),
      omega (
        arith,
        c.close_with-closed.ensures.counts.1,
        c.requires.table.1.slots,
        c.requires.room.1,
      ),
      gathers_none c.args.table.shared.key end_.0 end_.1.0 c.args.all.id c.args.all.me.0
          end_.1.1 c.requires.none c.requires.states (slots_items c.close_with-closed.result.slots)
          end_.4 c.args.caches.items c.requires.room.0,
    )

pub loop-stripe-preserved : goal.loop-stripe-preserved
loop-stripe-preserved c =
    let old = c.loop-stripe.closed.slots in
    let new = c.take.new.self.slots in
    let went = c.take.ensures.others in (
      left_filled (slots_filled old) (slots_filled new) c.loop-stripe.stripe (slots_len old)
          (slots_len new) went.1 went.2 c.loop-stripe.invariant.0,
      left_empty (slots_filled old) (slots_filled new) c.loop-stripe.stripe went.1
          c.loop-stripe.invariant.1,
      omega (arith, went.2, c.loop-stripe-test.true),
      went.2 ∙ c.loop-stripe.invariant.3,
      omega (arith, c.push_reserved.ensures.len, c.loop-stripe.invariant.4),
      omega (arith, went.2, c.push_reserved.ensures.capacity, c.loop-stripe.invariant.5),
      gathers_more c.args.table.shared.key c.args.all.me.0.states (slots_items old)
          (slots_items new) c.loop-stripe.caches.items c.push_reserved.new.self.items
          c.loop-stripe.stripe c.take.result c.into_inner-stored.result.cache
          c.loop-stripe.invariant.6
          (omega (arith, c.loop-stripe-test.true, c.loop-stripe.invariant.3)) went.0
          c.take.ensures.value (ap (λ x. x.cache) c.into_inner-stored.ensures)
          c.push_reserved.ensures.items,
    )

pub returns : goal.returns
returns c = gathers_all c.args.table.shared.key c.args.all.me.0.states
    (slots_items c.loop-stripe.closed.slots) c.loop-stripe.caches.items c.loop-stripe.stripe
    c.loop-stripe.invariant.6 (omega (
      arith,
      c.loop-stripe-test.false,
      c.loop-stripe.invariant.2,
      c.loop-stripe.invariant.3,
    ))
