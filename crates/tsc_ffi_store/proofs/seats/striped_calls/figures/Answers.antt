-- The figures of one stripe more are read, and in the end those of all.
use Rattle.std.proofs.Common.{arith, ◌∙◌, ◌+◌, refl}
use Rattle.tsc_ffi_store.proofs.StripesRead.{more_figures, goes_further, all_counted}
use Rattle.tsc_ffi_store.proofs.seats.striped_calls.figures.Goals as goal

pub loop-stripe-preserved : goal.loop-stripe-preserved
loop-stripe-preserved c = (
  more_figures c.args.seat.now c.loop-stripe.seat c.try_figures.new.seat c.loop-stripe.stripe
      (c.loop-stripe.stripe + 1) c.loop-stripe.figures c.in-Ok.more c.both-figures.result refl
      c.loop-stripe.invariant.0 c.in-Ok.ensures.answered c.both-figures.ensures,
  goes_further c.args.seat.now c.loop-stripe.seat c.try_figures.new.seat
      c.loop-stripe.invariant.1 c.in-Ok.ensures.answered.goes_on,
  c.in-Ok.ensures.answered.count ∙ c.loop-stripe.invariant.2,
)

pub returns : goal.returns
returns c =
    all_counted c.args.cache.now c.args.seat.now c.loop-stripe.seat c.memory_of-memory.new.seat
    c.loop-stripe.stripe c.stripes-stripe-end.result
    (record {
      figures = record { figures = c.loop-stripe.figures; front = c.count-front.result };
      memory = c.memory_of-memory.result;
    }) c.requires.cache c.stripes-stripe-end.ensures.value
    (omega (arith, c.loop-stripe.auto.stripe-end, c.loop-stripe-test.false))
    c.loop-stripe.invariant.0
    (record { goes_on = c.loop-stripe.invariant.1; count = c.loop-stripe.invariant.2 })
    c.memory_of-memory.ensures c.count-front.ensures.value
