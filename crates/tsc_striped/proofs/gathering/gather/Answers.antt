-- Proves the contract of `gather`. The states of all seats come to a participant.
use Rattle.std.proofs.Common.{◌≡◌, ◌∙◌, ◌++◌, ◌∷◌, [], append_assoc, refl, ap}
use Rattle.tsc_left_right.proofs.Plain.{all_middle}
use Rattle.tsc_stripe_table.specs.Steps.{At}
use Rattle.tsc_striped.specs.Keeping.{cache_of, state_of_seat}
use Rattle.tsc_striped.proofs.SeeingEnds.{merged_cache}
use Rattle.tsc_striped.proofs.Dealing.{rest_keeps, taken_keeps, gathered_then}
use Rattle.tsc_striped.proofs.gathering.gather.Goals as goal

pub merge-requires-clause-table : goal.merge-requires-clause-table
merge-requires-clause-table c =
    let cache = all_middle (λ seat. seat.cache ≡ c.requires.seats.0)
    c.pop.new.self.items c.loop-seat.invariant.0 c.args.seats.items
    c.loop-seat.seats.items c.in-Some.seat c.loop-seat.invariant.1 c.in-Some.ensures.items
    c.requires.seats.2 in (
      ap (λ s. s.cache.table) c.seat.view_is ∙ ap (λ n. n.table) cache ∙ c.requires.seats.1,
      c.loop-seat.invariant.2,
    )

pub merge-requires-clause-states : goal.merge-requires-clause-states
merge-requires-clause-states c = (
  rest_keeps c.seat.inside.participant.me c.seat.invariant.rest,
  taken_keeps c.loop-seat.all.me c.loop-seat.invariant.0 c.args.others.me.0.states
      c.loop-seat.invariant.4,
)

pub merge-requires-clause-free : goal.merge-requires-clause-free
merge-requires-clause-free c = ap (λ m. m.1) c.loop-seat.invariant.4

pub loop-seat-preserved : goal.loop-seat-preserved
loop-seat-preserved c =
    let cache = all_middle (λ seat. seat.cache ≡ c.requires.seats.0)
    c.pop.new.self.items c.loop-seat.invariant.0 c.args.seats.items
    c.loop-seat.seats.items c.in-Some.seat c.loop-seat.invariant.1 c.in-Some.ensures.items
    c.requires.seats.2 in (
      c.in-Some.seat ∷ c.loop-seat.invariant.0,
      c.loop-seat.invariant.1 ∙ ap (λ xs. xs ++ c.loop-seat.invariant.0) c.in-Some.ensures.items
          ∙ append_assoc c.pop.new.self.items (c.in-Some.seat ∷ [])
          c.loop-seat.invariant.0,
      c.merge.ensures.table ∙ ap (λ s. s.cache.table) c.seat.view_is ∙ ap (λ n. n.table) cache
          ∙ c.requires.seats.1,
      refl,
      gathered_then c.seat.inside.participant.me c.merge.new.who.me c.loop-seat.all.me
          c.in-Some.seat c.loop-seat.invariant.0 c.args.others.me.0.states
          c.seat.invariant.rest
          (ap state_of_seat c.seat.view_is) c.loop-seat.invariant.4 c.merge.ensures.both,
      (λ all. merged_cache c.merge.new.who c.seat.inside.participant c.in-Some.seat
          (cache_of c.args.others) c.merge.ensures.table
          (ap (λ (m : At). m.0.setup) c.merge.ensures.both) c.seat.view_is
          (all_middle (λ seat. seat.cache ≡ cache_of c.args.others) c.pop.new.self.items
          c.loop-seat.invariant.0 c.args.seats.items c.loop-seat.seats.items c.in-Some.seat
          c.loop-seat.invariant.1 c.in-Some.ensures.items all)),
    )
