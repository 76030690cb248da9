-- One floor more is read.
use Rattle.std.proofs.Common.{◌∙◌, ◌+◌, refl}
use Rattle.tsc_ffi_store.proofs.StripesRead.{more_floors, goes_further}
use Rattle.tsc_ffi_store.proofs.seats.striped_calls.floor.Goals as goal

pub loop-stripe-preserved : goal.loop-stripe-preserved
loop-stripe-preserved c = (
  more_floors c.args.seat.now c.loop-stripe.seat c.try_low_water.new.seat c.loop-stripe.stripe
      (c.loop-stripe.stripe + 1) c.loop-stripe.time c.in-Ok.floor c.earlier-time.result refl
      c.loop-stripe.invariant.0 c.in-Ok.ensures.answered c.earlier-time.ensures,
  goes_further c.args.seat.now c.loop-stripe.seat c.try_low_water.new.seat
      c.loop-stripe.invariant.1 c.in-Ok.ensures.answered.goes_on,
  c.in-Ok.ensures.answered.count ∙ c.loop-stripe.invariant.2,
)
