-- Proves the contract of `flip`. Makes the copy active on which the handles are.
use Rattle.std.proofs.Common.{◌∙◌, refl, ap, arith, []}
use mathlib.Core.Option as maybe
use Rattle.atomic_table.specs.Table.{step}
use Rattle.tsc_left_right.specs.declared.table.Slot.TheVariants.{Empty}
use Rattle.tsc_left_right.specs.declared.table.WriterState.{WriterState}
use Rattle.tsc_left_right.specs.Rule.{standby_side}
use Rattle.tsc_left_right.specs.Participating.{published_in}
use Rattle.tsc_left_right.proofs.Calls.{first_in}
use Rattle.tsc_left_right.proofs.WriterCalls.{is_put_back, publish_at, published_then, state_there}
use Rattle.tsc_left_right.proofs.WriterCalls.{flipped_then}
use Rattle.tsc_left_right.proofs.lock.flip.Goals as goal

pub exchange-requires : goal.exchange-requires
exchange-requires g c = let h = c.requires.installed in (
  c.requires.of.table,
  first_in c.args.who.now.me.1 h.slots 0 0 Empty (ap (λ m. m.1) h.is) refl,
)

pub store-requires : goal.store-requires
store-requires g c =
    let me = c.args.who.now.me in
    let n = c.standby_side-head.result in
    let q = is_put_back g.P.Replicated me c.exchange.new.seat.me c.turn.new.self.me
    c.args.state.value
    n _
    c.requires.installed c.requires.ready
    (c.standby_side-head.ensures ∙ ap (λ d. standby_side d.head) c.deref.ensures)
    (ap (λ (d : WriterState g.row.P-Value.Denot g.row.P-Operation.Denot). record d { head = n })
    c.deref_mut.ensures.value) c.exchange.ensures.3
    c.turn.ensures.2 in (
      c.turn.ensures.0 ∙ c.exchange.ensures.0 ∙ c.requires.of.table,
      omega (arith, c.requires.of.sized.words),
      publish_at g.P.Replicated c.args.shared.now.key c.args.shared.now.table_id.slots
          (step c.args.shared.now.table_id.slots 16 n 0 maybe.none) c.turn.new.self.id me.0
          c.turn.new.self.me c.args.state.value n _ q,
    )

pub exchange-requires-2 : goal.exchange-requires-2
exchange-requires-2 g c =
    let me = c.args.who.now.me in
    let old = c.args.state.value in
    let n = c.standby_side-head.result in
    let q = is_put_back g.P.Replicated me c.exchange.new.seat.me c.turn.new.self.me old n _
    c.requires.installed c.requires.ready
    (c.standby_side-head.ensures ∙ ap (λ d. standby_side d.head) c.deref.ensures)
    (ap (λ (d : WriterState g.row.P-Value.Denot g.row.P-Operation.Denot). record d { head = n })
    c.deref_mut.ensures.value) c.exchange.ensures.3
    c.turn.ensures.2 in
    let then_ = published_then g.P.Replicated
    (step c.args.shared.now.table_id.slots 16 n 0 maybe.none) 0
    me.0 c.turn.new.self.me c.store.new.seat.me old n _ q c.store.ensures.2 in (
      c.store.ensures.0 ∙ c.turn.ensures.0 ∙ c.exchange.ensures.0 ∙ c.requires.of.table,
      first_in c.store.new.seat.me.1 [] 0 0 _ (ap (λ m. m.1) then_) refl,
    )

pub unreachable-requires : goal.unreachable-requires
unreachable-requires g c =
    let me = c.args.who.now.me in
    let old = c.args.state.value in
    let n = c.standby_side-head.result in
    let q = is_put_back g.P.Replicated me c.exchange.new.seat.me c.turn.new.self.me old n _
    c.requires.installed c.requires.ready
    (c.standby_side-head.ensures ∙ ap (λ d. standby_side d.head) c.deref.ensures)
    (ap (λ (d : WriterState g.row.P-Value.Denot g.row.P-Operation.Denot). record d { head = n })
    c.deref_mut.ensures.value) c.exchange.ensures.3
    c.turn.ensures.2 in
    let then_ = published_then g.P.Replicated
    (step c.args.shared.now.table_id.slots 16 n 0 maybe.none) 0
    me.0 c.turn.new.self.me c.store.new.seat.me old n _ q c.store.ensures.2 in
    c.in_default.not-Writer _ (state_there g.P.Replicated
    (published_in g.P.Replicated me.0 old.copies.lagging) c.store.new.seat.me c.exchange-2.result _
    then_ c.exchange-2.ensures.2)

pub returns-clause-flipped : goal.returns-clause-flipped
returns-clause-flipped g c =
    let me = c.args.who.now.me in
    let old = c.args.state.value in
    let n = c.standby_side-head.result in
    let q = is_put_back g.P.Replicated me c.exchange.new.seat.me c.turn.new.self.me old n _
    c.requires.installed c.requires.ready
    (c.standby_side-head.ensures ∙ ap (λ d. standby_side d.head) c.deref.ensures)
    (ap (λ (d : WriterState g.row.P-Value.Denot g.row.P-Operation.Denot). record d { head = n })
    c.deref_mut.ensures.value) c.exchange.ensures.3
    c.turn.ensures.2 in
    let then_ = published_then g.P.Replicated
    (step c.args.shared.now.table_id.slots 16 n 0 maybe.none) 0
    me.0 c.turn.new.self.me c.store.new.seat.me old n _ q c.store.ensures.2 in
    flipped_then g.P.Replicated me.0 c.turn.new.self.me c.store.new.seat.me
    c.exchange-2.new.seat.me old n _ c.in-Writer.state c.exchange-2.result q
    c.requires.installed.unpinned then_ c.exchange-2.ensures.2 c.exchange-2.ensures.3
    c.in-Writer.is
