-- Each slot goes with one of the two.
use Rattle.std.proofs.Common.{ap}
use Rattle.tsc_ffi_store.specs.ReturnSteps.{At}
use Rattle.tsc_ffi_store.proofs.Returning.{deal_at}
use Rattle.tsc_ffi_store.proofs.seats.return_slots.next_token.Goals as goal

pub split_seat-requires : goal.split_seat-requires
split_seat-requires c = (
  c.requires.dealer.its_table,
  c.requires.dealer.words,
  deal_at c.args.slots.now.key c.args.dealer.now.id c.args.dealer.now.me.0
      (ap (λ (me : At). me.0) c.requires.dealer.unused) c.requires.dealer.some,
)
