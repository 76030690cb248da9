-- Proves the contract of `seats_of`. The seats in their order, by a type that shows whose they are.
use Rattle.std.proofs.Common.{◌≡◌, refl, rules}
use Rattle.example_lease_holder.specs.ReadSeats.{cache_of}
use Rattle.example_lease_holder.proofs.Seats.{others_too, one_more_of, none_left_of}
use Rattle.example_lease_holder.proofs.seats_of.Goals as goal

pub loop-seat-preserved : goal.loop-seat-preserved
loop-seat-preserved g c = record {
  all = one_more_of (λ one. one.seat) c.args.seats.items c.loop-seat.own.items c.push.new.self.items
      c.loop-seat.seat-iterator.rest.items c.next.new.self.rest.items c.in-Some.seat _
      c.loop-seat.invariant.all c.in-Some.ensures.steps.0 c.in_ok-push.ensures.items refl;
  left = others_too (λ seat. cache_of seat ≡ g.G.Range.cache) _ _ _ c.in-Some.ensures.steps.0
      c.loop-seat.invariant.left;
}

pub returns : goal.returns
returns g c = none_left_of (λ one. one.seat) c.args.seats.items c.loop-seat.own.items
    c.loop-seat.seat-iterator.rest.items c.loop-seat.invariant.all (search rules)
