-- Proves the contract of `install_handles`. Lays a handle on this cache, which has had `adds` Adds,
-- into each slot that was cleared.
use Rattle.std.proofs.Common.{◌∙◌, refl, ap}
use Rattle.std.specs.Arc.{arc_value}
use Rattle.tsc_left_right.specs.Rule.{side_slot}
use Rattle.tsc_left_right.proofs.InstallCalls.{installs_none, installs_more, first_todo}
use Rattle.tsc_left_right.proofs.InstallCalls.{installed_some, installed_all}
use Rattle.tsc_left_right.proofs.lock.install_handles.Goals as goal

pub loop-seat-init : goal.loop-seat-init
loop-seat-init g c = (
  c.turn.ensures.0,
  installs_none c.args.who.now.me.0 c.args.who.now.me c.turn.new.self.me
      (arc_value c.args.active.now) c.args.length c.args.seats c.requires.cleared c.turn.ensures.2,
)

pub exchange-requires : goal.exchange-requires
exchange-requires g c = (
  c.loop-seat.invariant.0 ∙ c.requires.of.table,
  first_todo c.args.who.now.me.0 (arc_value c.args.active.now) c.loop-seat.who.me
      c.args.length c.loop-seat.seat c.args.seats c.side_slot.result c.loop-seat.all
      c.loop-seat.invariant.1
      c.loop-seat-test.true (c.side_slot.ensures.value ∙ ap (side_slot c.loop-seat.seat)
      c.requires.side),
)

pub loop-seat-preserved : goal.loop-seat-preserved
loop-seat-preserved g c = (
  c.turn-in-loop-seat.ensures.0 ∙ c.exchange.ensures.0 ∙ c.loop-seat.invariant.0,
  installs_more c.args.who.now.me.0 (arc_value c.args.active.now) c.loop-seat.who.me
      c.exchange.new.seat.me c.turn-in-loop-seat.new.self.me c.args.length c.loop-seat.seat
      c.args.seats c.side_slot.result c.loop-seat.all c.handle_on-made.result.0 _
      c.handle_on-made.result.1 c.loop-seat.invariant.1
      c.loop-seat-test.true (c.side_slot.ensures.value ∙ ap (side_slot c.loop-seat.seat)
      c.requires.side) c.handle_on-made.ensures refl c.exchange.ensures.3
      c.turn-in-loop-seat.ensures.2,
)

pub returns-clause-cleared : goal.returns-clause-cleared
returns-clause-cleared g c = installed_some c.args.who.now.me.0 (arc_value c.args.active.now)
    c.loop-seat.who.me c.args.length c.loop-seat.seat c.args.seats c.loop-seat.all
    c.loop-seat.invariant.1 c.loop-seat-test.false

pub returns-clause-installed : goal.returns-clause-installed
returns-clause-installed g c = λ is_all. installed_all c.args.who.now.me.0
    (arc_value c.args.active.now) c.loop-seat.who.me c.args.length c.loop-seat.seat
    c.args.seats c.loop-seat.all c.loop-seat.invariant.1 c.loop-seat-test.false is_all
