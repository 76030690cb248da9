-- One seat more is laid, and in the end all are.
use Rattle.std.proofs.Common.{◌≡◌, ◌∙◌, sym, ap, subst, refl, List, [], ◌∷◌, ◌++◌, map, append_assoc, append-nil, length, arith, rules}
use Rattle.std.specs.Vec.Iter.{into_iter_items}
use Rattle.std.proofs.lemmas.List.{nil_from_length}
use Rattle.tsc_ffi_store.specs.declared.counts.CountedSeat.{CountedSeat}
use Rattle.tsc_ffi_store.specs.declared.store.Slot.{Slot}
use Rattle.tsc_ffi_store.specs.declared.store.Slot.TheVariants.{Shared, Seat}
use Rattle.tsc_ffi_store.specs.OpenHandles.{PushesSlot, named_by}
use Rattle.tsc_ffi_store.specs.SeatCalls.{unasked}
use Rattle.tsc_ffi_store.proofs.PushedSlots.{IsPushing, one_pushed, pushed_named}
use Rattle.tsc_ffi_store.proofs.seat_requests.put.Goals as goal

pub loop-seat-preserved : goal.loop-seat-preserved
loop-seat-preserved c =
    let all = named_by c.push_slot.new.handles.items c.push_slot.new.slots.items
    c.push_slot.new.next ++
    map (λ s. Seat (unasked c.args.next.now s)) (into_iter_items c.into_iter-seat-iterator.result) in
    let rest : List Slot = map (λ s. Seat (unasked c.args.next.now s)) (into_iter_items c.next.new.self) in
    let step : into_iter_items c.loop-seat.seat-iterator ≡
    c.in-Some.seat ∷ into_iter_items c.next.new.self = search rules in
    let so_far : IsPushing c.loop-seat.handles.items c.loop-seat.slots.items c.loop-seat.next
    (Seat (unasked c.args.next.now c.in-Some.seat) ∷ rest) all =
    subst (λ its. IsPushing c.loop-seat.handles.items c.loop-seat.slots.items c.loop-seat.next
    (map (λ s. Seat (unasked c.args.next.now s)) its) all) step c.loop-seat.invariant.2 in (
      tt,
      tt,
      one_pushed (Seat (unasked c.args.next.now c.in-Some.seat)) c.loop-seat.handles.items c.loop-seat.slots.items
          c.loop-seat.next c.push_slot-in-loop-seat.new.handles.items
          c.push_slot-in-loop-seat.new.slots.items c.push_slot-in-loop-seat.new.next rest all so_far
          (subst (λ (held : CountedSeat). PushesSlot (Seat held) c.loop-seat.handles.items
          c.loop-seat.slots.items c.loop-seat.next c.push_slot-in-loop-seat.new.handles.items
          c.push_slot-in-loop-seat.new.slots.items c.push_slot-in-loop-seat.new.next)
          c.new-held.ensures c.push_slot-in-loop-seat.ensures.pushed),
      omega (arith, ap length step, c.loop-seat.invariant.3, c.push_slot-in-loop-seat.ensures.room),
      omega (
        arith,
        ap length step,
        c.loop-seat.invariant.4,
        c.push_slot-in-loop-seat.ensures.slots,
      ),
      omega (
        arith,
        ap length step,
        c.loop-seat.invariant.5,
        c.push_slot-in-loop-seat.ensures.pushed.next_is,
      ),
    )

pub returns-clause-named : goal.returns-clause-named
returns-clause-named c =
    let whole = named_by c.args.handles.now.items c.args.slots.now.items c.args.next.now in
    let now = named_by c.loop-seat.handles.items c.loop-seat.slots.items c.loop-seat.next in
    let its = into_iter_items c.into_iter-seat-iterator.result in
    let none : into_iter_items c.loop-seat.seat-iterator ≡ [] =
    nil_from_length (into_iter_items c.loop-seat.seat-iterator)
    (grind (arith, c.in-None.ensures.steps.0, c.loop-seat.seat-iterator.rest.ok)) in
    let first : its ≡ c.args.seats.items = search rules in
    sym (append-nil now) ∙ ap (λ l. now ++ map (λ s. Seat (unasked c.args.next.now s)) l) (sym none) ∙
    c.loop-seat.invariant.2.named ∙
    ap (λ (l : List Slot). l ++ map (λ s. Seat (unasked c.args.next.now s)) its)
    (pushed_named (Shared c.args.owner) c.args.handles.now.items c.args.slots.now.items
    c.args.next.now c.push_slot.new.handles.items c.push_slot.new.slots.items c.push_slot.new.next
    whole c.requires.are_open refl c.push_slot.ensures.pushed) ∙
    append_assoc whole (Shared c.args.owner ∷ []) (map (λ s. Seat (unasked c.args.next.now s)) its) ∙
    ap (λ l. whole ++ Shared c.args.owner ∷ map (λ s. Seat (unasked c.args.next.now s)) l) first
