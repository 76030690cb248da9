-- Proves the contract of `ReadCache::add`. Adds a read.
use Rattle.std.proofs.Common.{sym, subst}
use Rattle.example_lease_holder.specs.declared.reads.ReadSeat.{ReadSeat}
use Rattle.example_lease_holder.specs.declared.reads.ReadSeat.TheVariants.{Copies}
use Rattle.example_lease_holder.specs.declared.reads.ReadFront.TheVariants as front
use Rattle.example_lease_holder.specs.ReadSeats.{AddsRead}
use Rattle.example_lease_holder.proofs.Carried.{adds_in_copies}
use Rattle.example_lease_holder.proofs.reads.ReadCache.add.Goals as goal

pub returns-in_ok-receipt-in-Copies-clause-added :
    goal.returns-in_ok-receipt-in-Copies-clause-added
returns-in_ok-receipt-in-Copies-clause-added g c =
    let receipt = c.in_ok-receipt-in-Copies.receipt in
    subst (λ (old : ReadSeat). AddsRead old (Copies c.add.new.seat) c.args.span.now c.args.read
    (front.Copies receipt.front)) (sym c.in-Copies-seat.is)
    (adds_in_copies c.in-Copies-seat.seat c.add.new.seat c.args.span.now c.args.read c.args.at
    receipt c.in_ok-receipt-in-Copies.ensures.accepted)
