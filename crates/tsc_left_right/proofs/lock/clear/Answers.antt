-- Proves the contract of `clear`. Looks once whether the next seat, whose epoch was noted so, has
-- left the standby side.
use Rattle.std.proofs.Common.{rules, ◌∙◌, sym, ap, arith}
use mathlib.Core.Option as maybe
use Rattle.atomic_table.specs.Table.{step}
use Rattle.tsc_left_right.specs.Rule.{side_slot}
use Rattle.tsc_left_right.proofs.ClearCalls.{clear_at, cleared_then, stays_then, cleared_more}
use Rattle.tsc_left_right.proofs.lock.clear.Goals as goal

pub load-epoch-requires : goal.load-epoch-requires
load-epoch-requires g c = (
  c.requires.of.table,
  omega (arith, c.requires.of.sized.words, c.epoch_word.ensures.value, c.requires.next.0),
  clear_at g.P.Replicated c.args.shared.now.key c.args.shared.now.table_id.slots
      (step c.args.shared.now.table_id.slots c.epoch_word.result 0 0 maybe.none)
      c.args.who.now.id c.epoch_word.result c.args.who.now.me.0
      c.args.who.now.me c.args.seat c.requires.writing c.requires.next.0 c.epoch_word.ensures.value,
)

pub exchange-requires : goal.exchange-requires
exchange-requires g c = search rules

pub returns-clause-cleared : goal.returns-clause-cleared
returns-clause-cleared g c =
    let t = cleared_then (step c.args.shared.now.table_id.slots c.epoch_word.result 0 0 maybe.none)
    c.load-epoch.result c.args.noted c.args.who.now.me.0 c.args.who.now.me
    c.load-epoch.new.seat.me c.args.seat c.requires.writing
    c.load-epoch.ensures.2 c.requires.next.2 (sym c.has_left.ensures ∙ c.if-not-has_left.false) in
    λ _. cleared_more c.args.who.now.me.0 c.args.who.now.me c.load-epoch.new.seat.me
    c.exchange.new.seat.me c.turn.new.self.me c.args.seat c.side_slot.result t.0
    c.requires.writing t.1
    (c.side_slot.ensures.value ∙ ap (side_slot c.args.seat) c.requires.next.1) c.exchange.ensures.3
    c.turn.ensures.2

pub returns-then-not-has_left-clause-pinned : goal.returns-then-not-has_left-clause-pinned
returns-then-not-has_left-clause-pinned g c =
    λ _. stays_then (step c.args.shared.now.table_id.slots c.epoch_word.result 0 0 maybe.none)
    c.load-epoch.result c.args.noted c.args.who.now.me.0 c.args.who.now.me
    c.load-epoch.new.seat.me c.args.seat c.requires.writing
    c.load-epoch.ensures.2 c.requires.next.2 (sym c.has_left.ensures ∙ c.if-not-has_left.true)
