-- Proves the contract of `pass`. Takes the slot of the next seat, whose epoch was noted as even, on
-- the standby side.
use Rattle.std.proofs.Common.{rules, ◌∙◌, ap, arith}
use mathlib.Core.Option as maybe
use Rattle.atomic_table.specs.Table.{step}
use Rattle.tsc_left_right.specs.Rule.{side_slot}
use Rattle.tsc_left_right.proofs.ClearCalls.{pass_at, passed_then, cleared_more}
use Rattle.tsc_left_right.proofs.lock.pass.Goals as goal

pub load-requires : goal.load-requires
load-requires g c = (
  c.requires.of.table,
  omega (arith, c.requires.of.sized.words),
  pass_at g.P.Replicated c.args.shared.now.key c.args.shared.now.table_id.slots
      (step c.args.shared.now.table_id.slots 16 0 0 maybe.none) c.args.who.now.id c.args.noted
      c.args.who.now.me.0 c.args.who.now.me c.args.seat c.requires.writing
      c.requires.next.0.0 c.requires.next.0.2 c.requires.next.1,
)

pub exchange-requires : goal.exchange-requires
exchange-requires g c = search rules

pub returns-clause-cleared : goal.returns-clause-cleared
returns-clause-cleared g c =
    let t = passed_then (step c.args.shared.now.table_id.slots 16 0 0 maybe.none) c.load.result
    c.args.who.now.me.0 c.args.who.now.me c.load.new.seat.me c.args.seat c.requires.writing
    c.load.ensures.2 in
    cleared_more c.args.who.now.me.0 c.args.who.now.me c.load.new.seat.me c.exchange.new.seat.me
    c.turn.new.self.me c.args.seat c.side_slot.result t.0 c.requires.writing t.1
    (c.side_slot.ensures.value ∙ ap (side_slot c.args.seat) c.requires.next.0.1)
    c.exchange.ensures.3 c.turn.ensures.2
