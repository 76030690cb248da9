-- Each slot has a seat of the cache.
use Rattle.std.proofs.Common.{◌≡◌, ◌∙◌, refl, ◌∷◌, [], ◌++◌, length, All, sym, ap, subst, arith, rules}
use mathlib.Core.Option as maybe
use Rattle.std.proofs.lemmas.List.Elements.{All-nil, All-push}
use Rattle.atomic_table.specs.Table.{Step, step}
use Rattle.tsc_ffi_store.specs.ReturnSlots.{Returned}
use Rattle.tsc_ffi_store.specs.declared.seats.kinds.AnySeat.{AnySeat}
use Rattle.tsc_ffi_store.specs.Kinds.{cache_of}
use Rattle.tsc_ffi_store.proofs.Returning.{collect_at, in_hand_then, found_there, brought, collects_on}
use Rattle.tsc_ffi_store.proofs.Returning.{starts, one_collected, known_stand}
use Rattle.tsc_ffi_store.proofs.seats.return_slots.collect_seats.Goals as goal

pub store-requires : goal.store-requires
store-requires c =
    let words = c.requires.known.sized.words in let low = c.loop-slot-test.true in (
      c.loop-slot.invariant.0,
      omega (arith, words, low),
      collect_at c.args.slots.now.key c.args.slots.now.table_id.slots
          (step c.args.slots.now.table_id.slots c.loop-slot.slot 2 0 maybe.none)
          c.loop-slot.keeper.id c.args.seats c.loop-slot.slot c.args.keeper.me.0.back
          c.args.keeper.me.0.missed c.loop-slot.keeper.me c.loop-slot.invariant.1
          c.requires.seats.0 refl low,
    )

pub exchange-requires : goal.exchange-requires
exchange-requires c = (
  c.store.ensures.0 ∙ c.loop-slot.invariant.0,
  in_hand_then (step c.args.slots.now.table_id.slots c.loop-slot.slot 2 0 maybe.none)
      c.loop-slot.keeper.me c.store.new.seat.me c.store.ensures.2,
)

pub unreachable-requires : goal.unreachable-requires
unreachable-requires c =
    c.in_default.not-Some c.store.ensures.2.0
    (found_there (step c.args.slots.now.table_id.slots c.loop-slot.slot 2 0 maybe.none)
    c.loop-slot.keeper.me c.store.new.seat.me c.loop-slot.slot c.exchange.result
    c.store.ensures.2 c.exchange.ensures.2)

pub loop-slot-preserved : goal.loop-slot-preserved
loop-slot-preserved c =
    let st : Step Returned =
    step c.args.slots.now.table_id.slots c.loop-slot.slot 2 0 maybe.none in
    let pushed : c.push.new.self.items ≡ c.loop-slot.room.items ++ c.in-Some.seat ∷ [] =
    search rules in
    let now = brought c.args.slots.now.key c.args.seats c.loop-slot.slot c.args.keeper.me.0.back
    c.args.keeper.me.0.missed st c.loop-slot.keeper.me c.store.new.seat.me c.exchange.result
    c.in-Some.seat
    c.loop-slot.invariant.1 c.requires.seats.0 refl c.store.ensures.2 c.exchange.ensures.2
    c.in-Some.is in
    let three = c.loop-slot.invariant.3 in let four = c.loop-slot.invariant.4 in (
      c.exchange.ensures.0 ∙ c.store.ensures.0 ∙ c.loop-slot.invariant.0,
      collects_on c.args.slots.now.key c.args.seats c.loop-slot.slot c.args.keeper.me.0.back
          c.args.keeper.me.0.missed st c.loop-slot.keeper.me c.store.new.seat.me
          c.exchange.new.seat.me _ c.loop-slot.invariant.1 c.store.ensures.2 c.exchange.ensures.3,
      subst (All (λ (seat : AnySeat). cache_of seat ≡ c.args.slots.now.key)) (sym pushed)
          (All-push (λ (seat : AnySeat). cache_of seat ≡ c.args.slots.now.key)
          c.loop-slot.room.items c.in-Some.seat c.loop-slot.invariant.2 now.its),
      search rules,
      search rules,
      one_collected c.loop-slot.slot c.loop-slot.room.items c.push.new.self.items
          c.args.keeper.me.0.back c.in-Some.seat c.loop-slot.invariant.5 three pushed now.known,
      (λ _. now.low),
    )

pub loop-slot-init : goal.loop-slot-init
loop-slot-init c =
    let none = c.requires.room.empty in let room = c.requires.room.room in (
      c.requires.known.its_table,
      starts c.args.slots.now.key c.args.seats c.args.keeper.me.0.back c.args.keeper.me.0.missed
          c.args.keeper.me c.requires.known.known,
      subst (All (λ (seat : AnySeat). cache_of seat ≡ c.args.slots.now.key)) (sym none)
          (All-nil (λ (seat : AnySeat). cache_of seat ≡ c.args.slots.now.key)),
      ap length none,
      room,
      (λ i d lt low. absurd (omega (arith, low))),
      (λ low. absurd (omega (arith, low))),
    )

pub returns-clause-back : goal.returns-clause-back
returns-clause-back c =
    let past = c.loop-slot-test.false in let some = c.requires.seats.1 in
    known_stand c.args.seats c.loop-slot.slot c.loop-slot.room.items c.args.keeper.me.0.back
    (omega (arith, past)) c.loop-slot.invariant.5
    (c.loop-slot.invariant.6 (omega (arith, past, some)))
