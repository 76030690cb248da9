-- A token takes its slot, and gives it back with the seat.
use Rattle.std.proofs.Common.{◌∙◌, arith, Some}
use mathlib.Core.Option as maybe
use Rattle.atomic_table.specs.Table.{step}
use Rattle.tsc_ffi_store.specs.Kinds.{number_of}
use Rattle.tsc_ffi_store.proofs.Returning.{take_slot_at, return_seat_at, picked, in_hand, put_back, came_home}
use Rattle.tsc_ffi_store.proofs.seats.return_slots.return_seat.Goals as goal

pub load-requires : goal.load-requires
load-requires c =
    let words = c.requires.sized.words in let low = c.requires.low in let same =
    c.number-number.ensures.value in (
      c.requires.token.0,
      omega (arith, words, low, same),
      take_slot_at c.args.slots.now.key c.args.slots.now.table_id.slots
          (step c.args.slots.now.table_id.slots c.number-number.result 0 0 maybe.none) c.args.at.id
          (number_of c.args.seat) c.number-number.result c.args.at.me
          c.requires.token.1 c.number-number.ensures.value c.requires.low,
    )

pub exchange-requires : goal.exchange-requires
exchange-requires c =
    let now = picked (step c.args.slots.now.table_id.slots c.number-number.result 0 0 maybe.none)
    (number_of c.args.seat) c.load.result c.args.at.me c.load.new.seat.me c.requires.token.1
    c.load.ensures.2 in (
      c.load.ensures.0 ∙ c.requires.token.0,
      in_hand (number_of c.args.seat) c.number-number.result now.0 c.load.new.seat.me now.1
          c.number-number.ensures.value,
    )

pub store-requires : goal.store-requires
store-requires c =
    let words = c.requires.sized.words in let low = c.requires.low in let same =
    c.number-number.ensures.value in
    let now = picked (step c.args.slots.now.table_id.slots c.number-number.result 0 0 maybe.none)
    (number_of c.args.seat) c.load.result c.args.at.me c.load.new.seat.me c.requires.token.1
    c.load.ensures.2 in (
      c.exchange.ensures.0 ∙ c.load.ensures.0 ∙ c.requires.token.0,
      omega (arith, words, low, same),
      return_seat_at c.args.slots.now.key c.args.slots.now.table_id.slots
          (step c.args.slots.now.table_id.slots c.number-number.result 1 0 maybe.none)
          c.exchange.new.seat.id c.number-number.result c.args.seat
          c.exchange.new.seat.me
          (put_back (number_of c.args.seat) c.number-number.result now.0 (Some c.args.seat)
          c.load.new.seat.me c.exchange.new.seat.me now.1 c.number-number.ensures.value
          c.exchange.ensures.3) c.number-number.ensures.value c.requires.low c.requires.cache,
    )

pub returns-clause-came : goal.returns-clause-came
returns-clause-came c =
    let now = picked (step c.args.slots.now.table_id.slots c.number-number.result 0 0 maybe.none)
    (number_of c.args.seat) c.load.result c.args.at.me c.load.new.seat.me c.requires.token.1
    c.load.ensures.2 in
    came_home (number_of c.args.seat) c.number-number.result c.args.seat c.exchange.new.seat.me
    c.store.new.seat.me (put_back (number_of c.args.seat) c.number-number.result now.0 (Some c.args.seat)
    c.load.new.seat.me c.exchange.new.seat.me now.1 c.number-number.ensures.value
    c.exchange.ensures.3) c.store.ensures.2
