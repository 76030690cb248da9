-- There is room for the cache and for each of its seats, and there are handles.
use Rattle.std.proofs.Common.{◌≡◌, ◌∙◌, ◌++◌, ◌∷◌, ap, sym, inr, inl, refl, List, map, length, true, arith, rules}
use Rattle.tsc_ffi_store.specs.declared.store.Slot.{Slot}
use Rattle.tsc_ffi_store.specs.declared.store.Slot.TheVariants.{Shared, Seat}
use Rattle.tsc_ffi_store.specs.SeatCalls.{unasked}
use Rattle.tsc_ffi_store.proofs.PushedSlots.{long_as_next}
use Rattle.tsc_ffi_store.specs.Kinds.{new_any_seats}
use Rattle.tsc_shared.specs.Seats.{is_seat_count}
use Rattle.tsc_ffi_store.proofs.NewSeats.{new_handles_long, slots_of_seats}
use Rattle.tsc_ffi_store.proofs.store.Store.open_shared.Goals as goal

pub put-requires-clause-are_open : goal.put-requires-clause-are_open
put-requires-clause-are_open c =
    rw (c.reserve.ensures.items, c.reserve-else-is_err.ensures.items) c.self.invariant

pub put-requires-clause-room : goal.put-requires-clause-room
put-requires-clause-room c =
    let long : length c.in-Ok.seats.items ≡ c.args.seats =
    new_handles_long c.in-Ok.owner.cache c.in-Ok.owner.returns c.args.seats c.in-Ok.seats.items
    c.in-Ok.ensures.opened.seats.in_order in
    search rules

pub put-requires-clause-slots : goal.put-requires-clause-slots
put-requires-clause-slots c =
    let long : length c.in-Ok.seats.items ≡ c.args.seats =
    new_handles_long c.in-Ok.owner.cache c.in-Ok.owner.returns c.args.seats c.in-Ok.seats.items
    c.in-Ok.ensures.opened.seats.in_order in
    search rules

pub put-requires-clause-left : goal.put-requires-clause-left
put-requires-clause-left c =
    let long : length c.in-Ok.seats.items ≡ c.args.seats =
    new_handles_long c.in-Ok.owner.cache c.in-Ok.owner.returns c.args.seats c.in-Ok.seats.items
    c.in-Ok.ensures.opened.seats.in_order in
    grind (arith, long, c.if-self-seats.false)

pub returns-then-self-seats-clause-refused : goal.returns-then-self-seats-clause-refused
returns-then-self-seats-clause-refused c =
    let long : length c.args.self.now ≡ c.self.inside.next = long_as_next
    c.self.inside.handles.items c.self.inside.slots.items c.self.inside.next c.args.self.now
    c.self.view_is in
    inr (inl (refl, grind (arith, long, c.if-self-seats.true)))

pub returns-then-is_err-clause-refused : goal.returns-then-is_err-clause-refused
returns-then-is_err-clause-refused c =
    let long : length c.args.self.now ≡ c.self.inside.next = long_as_next
    c.self.inside.handles.items c.self.inside.slots.items c.self.inside.next c.args.self.now
    c.self.view_is in
    let may : is_seat_count c.args.seats ≡ true = search rules in
    inr (inr (may, (refl, grind (arith, long, c.if-self-seats.false))))

pub returns-in-Err-clause-refused : goal.returns-in-Err-clause-refused
returns-in-Err-clause-refused c =
    let long : length c.args.self.now ≡ c.self.inside.next = long_as_next
    c.self.inside.handles.items c.self.inside.slots.items c.self.inside.next c.args.self.now
    c.self.view_is in
    let may : is_seat_count c.args.seats ≡ true = search rules in
    inr (inr (may, (refl, grind (arith, long, c.if-self-seats.false))))

pub returns-in-Ok-clause-opened : goal.returns-in-Ok-clause-opened
returns-in-Ok-clause-opened c =
    let opened = c.in-Ok.ensures.opened in
    record {
      owner = c.in-Ok.owner;
      next = sym (long_as_next c.self.inside.handles.items c.self.inside.slots.items
          c.self.inside.next c.args.self.now c.self.view_is);
      given = c.put.ensures.named ∙
          ap (λ (l : List Slot). l ++ Shared c.in-Ok.owner ∷
          map (λ s. Seat (unasked c.self.inside.next s)) c.in-Ok.seats.items)
          (rw (c.reserve.ensures.items, c.reserve-else-is_err.ensures.items) c.self.view_is) ∙
          ap (λ seats. c.args.self.now ++ Shared c.in-Ok.owner ∷
          map (λ s. Seat (unasked c.self.inside.next s)) seats) opened.seats.in_order ∙
          ap (λ (l : List Slot). c.args.self.now ++ Shared c.in-Ok.owner ∷ l)
          (slots_of_seats c.self.inside.next c.in-Ok.owner.returns
          (new_any_seats c.in-Ok.owner.cache 0 c.args.seats));
      cache = opened.cache;
      none_back = opened.seats.none_back;
      none_missed = opened.seats.none_missed;
    }
