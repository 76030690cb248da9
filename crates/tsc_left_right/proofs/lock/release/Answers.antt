-- Proves the contract of `release`. Releases the writer lock.
use Rattle.std.proofs.Common.{◌∙◌, refl, ap, arith, ◌∷◌, ◌++◌, []}
use mathlib.Core.Option as maybe
use Rattle.atomic_table.specs.Table.{step}
use Rattle.tsc_left_right.specs.declared.table.Slot.TheVariants.{Empty, Writer}
use Rattle.tsc_left_right.specs.Participating.{cleared_in}
use Rattle.tsc_left_right.proofs.Calls.{first_in}
use Rattle.tsc_left_right.proofs.WriterCalls.{release_at, state_back}
use Rattle.tsc_left_right.proofs.WriterCalls.{released_then}
use Rattle.tsc_left_right.proofs.lock.release.Goals as goal

pub exchange-requires : goal.exchange-requires
exchange-requires g c =
    let me = c.args.who.now.me in
    let lock = c.requires.may.lock in (
      c.requires.of.table,
      first_in me.1 lock.1.slots 0 0 Empty
          (ap (λ m. m.1) lock.1.is)
          refl,
    )

pub store-requires : goal.store-requires
store-requires g c =
    let me = c.args.who.now.me in
    let lock = c.requires.may.lock in (
      c.turn.ensures.0 ∙ c.exchange.ensures.0 ∙ c.requires.of.table,
      omega (arith, c.requires.of.sized.words),
      release_at g.P.Replicated c.args.shared.now.key c.args.shared.now.table_id.slots
          (step c.args.shared.now.table_id.slots 0 0 0 maybe.none) c.turn.new.self.id me.0
          c.turn.new.self.me lock.0 lock.1.slots c.args.state
          (state_back (cleared_in me.0 lock.0) me c.exchange.new.seat.me c.turn.new.self.me
          lock.1.slots c.args.state
          lock.1.is c.exchange.ensures.3 c.turn.ensures.2)
          lock.1.holds lock.1.filled
          c.requires.may.is_after c.requires.may.noted,
    )

pub returns-clause-released : goal.returns-clause-released
returns-clause-released g c =
    let me = c.args.who.now.me in
    let lock = c.requires.may.lock in
    released_then c.turn.new.self.me c.store.new.seat.me (cleared_in me.0 lock.0)
    (lock.1.slots ++ (0, Writer c.args.state) ∷ [])
    (state_back (cleared_in me.0 lock.0) me c.exchange.new.seat.me c.turn.new.self.me
    lock.1.slots c.args.state
    lock.1.is c.exchange.ensures.3 c.turn.ensures.2)
    c.store.ensures.2
