-- Proves the contract of `seats_of_copies`. One seat more is that of the cache.
use Rattle.std.proofs.Common.{◌≡◌, All, sym, ap, subst}
use Rattle.std.proofs.lemmas.List.Elements.{All-push}
use Rattle.example_lease_holder.specs.declared.reads.ReadCache.TheVariants as cache
use Rattle.example_lease_holder.specs.declared.reads.ReadSeat.{ReadSeat}
use Rattle.example_lease_holder.specs.declared.reads.ReadSeat.TheVariants.{Copies}
use Rattle.example_lease_holder.specs.ReadSeats.{cache_of}
use Rattle.example_lease_holder.proofs.Seats.{first_one, others_too}
use Rattle.example_lease_holder.proofs.reads.seats_of_copies.Goals as goal

pub loop-seat-preserved : goal.loop-seat-preserved
loop-seat-preserved c =
    let own = c.args.cache.now in
    let P : ReadSeat → Type 0 = λ seat. cache_of seat ≡ cache.Copies own in
    let first = first_one (λ seat. seat.cache ≡ own) _ _ _ c.in-Some.ensures.steps.0
    c.loop-seat.invariant.1 in (
      subst (All P) (sym c.in_ok-push.ensures.items)
          (All-push P c.loop-seat.seats.items (Copies c.in-Some.seat) c.loop-seat.invariant.0
          (ap cache.Copies first)),
      others_too (λ seat. seat.cache ≡ own) _ _ _ c.in-Some.ensures.steps.0
          c.loop-seat.invariant.1,
    )
