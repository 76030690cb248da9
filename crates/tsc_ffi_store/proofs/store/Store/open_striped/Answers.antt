-- There is room for the cache and for each of its seats, and there are handles.
use Rattle.std.proofs.Common.{◌≡◌, ◌∙◌, ◌++◌, ◌∷◌, ◌≤◌, ◌+◌, ◌-◌, ◌^◌, ap, sym, subst, inr, inl, refl, List, map, length, arith, rules}
use Rattle.std.specs.Prelude.{Result, Err, IfErr}
use Rattle.tsc_stripe_table.specs.Stripes.{Terms}
use Rattle.tsc_striped.specs.Seats.{IsSettled}
use Rattle.tsc_striped.specs.Answers.{open_fault}
use Rattle.tsc_striped.specs.declared.answers.OpenFault.{OpenFault}
use Rattle.tsc_striped.specs.declared.answers.OpenFault.TheVariants as fault
use Rattle.tsc_ffi_store.specs.declared.refusal.Refusal.{Refusal}
use Rattle.tsc_ffi_store.specs.declared.refusal.Refusal.TheVariants as refusal
use Rattle.tsc_ffi_store.specs.declared.store.Slot.{Slot}
use Rattle.tsc_ffi_store.specs.declared.store.Slot.TheVariants.{Shared, Seat}
use Rattle.tsc_ffi_store.specs.SeatCalls.{unasked}
use Rattle.tsc_ffi_store.specs.StripedCalls.{IsOpenCode, RefusesOpenStriped}
use Rattle.tsc_ffi_store.specs.Kinds.{new_any_seats}
use Rattle.tsc_ffi_store.proofs.BoundsCut.{no_memory}
use Rattle.tsc_ffi_store.proofs.PushedSlots.{long_as_next}
use Rattle.tsc_ffi_store.proofs.NewSeats.{new_handles_long, slots_of_seats}
use Rattle.tsc_ffi_store.proofs.store.Store.open_striped.Goals as goal

pub returns-then-self-seats-clause-refused : goal.returns-then-self-seats-clause-refused
returns-then-self-seats-clause-refused c =
    let long : length c.args.self.now ≡ c.self.inside.next = long_as_next
    c.self.inside.handles.items c.self.inside.slots.items c.self.inside.next c.args.self.now
    c.self.view_is in
    inr (inl (refl, grind (arith, long, c.if-self-seats.true)))

pub returns-in_err-bounds-clause-refused : goal.returns-in_err-bounds-clause-refused
returns-in_err-bounds-clause-refused c =
    let long : length c.args.self.now ≡ c.self.inside.next = long_as_next
    c.self.inside.handles.items c.self.inside.slots.items c.self.inside.next c.args.self.now
    c.self.view_is in
    let is : c.from_residual-in_err-bounds.result ≡ Err c.in_err-bounds.field-0.0 = search rules in
    subst (λ (r : Result _ Refusal). IfErr r (λ why. RefusesOpenStriped why c.args.self.now
    c.args.config c.args.seats c.args.args.now.keys.now c.args.args.now.lens.now)) (sym is)
    (inr (inr (record {
      some = c.in_ok-check_bounds.ensures.some;
      use_up = c.in_ok-check_bounds.ensures.use_up;
      handles = grind (arith, long, c.if-self-seats.false);
      refused = inl c.in_err-bounds.ensures.refused;
    })))

pub returns-in-Err-clause-refused : goal.returns-in-Err-clause-refused
returns-in-Err-clause-refused c =
    let long : length c.args.self.now ≡ c.self.inside.next = long_as_next
    c.self.inside.handles.items c.self.inside.slots.items c.self.inside.next c.args.self.now
    c.self.view_is in
    inr (inr (record {
      some = c.in_ok-check_bounds.ensures.some;
      use_up = c.in_ok-check_bounds.ensures.use_up;
      handles = grind (arith, long, c.if-self-seats.false);
      refused = inr (record {
        bounds = c.in_ok-bounds.bounds.items;
        named = c.in_ok-bounds.ensures.value;
        reported = subst (λ (f : OpenFault). IsOpenCode f c.of_open_fault.result)
            c.in-Err.ensures.refused c.of_open_fault.ensures;
      });
    }))

pub returns-then-is_err-clause-refused : goal.returns-then-is_err-clause-refused
returns-then-is_err-clause-refused c =
    let long : length c.args.self.now ≡ c.self.inside.next = long_as_next
    c.self.inside.handles.items c.self.inside.slots.items c.self.inside.next c.args.self.now
    c.self.view_is in
    let opened = c.in-Ok.ensures.opened.cache in
    inr (inr (record {
      some = c.in_ok-check_bounds.ensures.some;
      use_up = c.in_ok-check_bounds.ensures.use_up;
      handles = grind (arith, long, c.if-self-seats.false);
      refused = inr (record {
        bounds = c.in_ok-bounds.bounds.items;
        named = c.in_ok-bounds.ensures.value;
        reported = subst (λ (f : OpenFault). IsOpenCode f refusal.NoMemory)
            (no_memory c.args.config c.args.seats c.in_ok-bounds.bounds.items
            (subst (λ (t : Terms). IsSettled t) opened.terms opened.settled)) refl;
      });
    }))

pub put-requires-clause-left : goal.put-requires-clause-left
put-requires-clause-left c =
    let long : length c.in-Ok.handles.items ≡ c.args.seats =
    new_handles_long c.in-Ok.owner.cache c.in-Ok.owner.returns c.args.seats c.in-Ok.handles.items
    c.in-Ok.ensures.opened.seats.in_order in
    grind (arith, long, c.if-self-seats.false)

pub returns-else-is_err-2-clause-opened : goal.returns-else-is_err-2-clause-opened
returns-else-is_err-2-clause-opened c =
    let opened = c.in-Ok.ensures.opened in
    record {
      bounds = c.in_ok-bounds.bounds.items;
      named = c.in_ok-bounds.ensures.value;
      opens = record {
        owner = c.in-Ok.owner;
        next = sym (long_as_next c.self.inside.handles.items c.self.inside.slots.items
            c.self.inside.next c.args.self.now c.self.view_is);
        given = c.put.ensures.named ∙
            ap (λ (l : List Slot). l ++ Shared c.in-Ok.owner ∷
            map (λ s. Seat (unasked c.self.inside.next s)) c.in-Ok.handles.items)
            (rw (c.reserve.ensures.items, c.reserve-else-is_err.ensures.items) c.self.view_is) ∙
            ap (λ seats. c.args.self.now ++ Shared c.in-Ok.owner ∷
            map (λ s. Seat (unasked c.self.inside.next s)) seats) opened.seats.in_order ∙
            ap (λ (l : List Slot). c.args.self.now ++ Shared c.in-Ok.owner ∷ l)
            (slots_of_seats c.self.inside.next c.in-Ok.owner.returns
            (new_any_seats c.in-Ok.owner.cache 0 c.args.seats));
        cache = opened.cache;
        none_back = opened.seats.none_back;
        none_missed = opened.seats.none_missed;
      };
    }
