-- What the slot at the handle lends, the store does.
use Rattle.std.proofs.Common.{◌≤◌, ◌∙◌, refl, sym, ap, subst, ℕ, List, length, arith}
use Rattle.tsc_ffi_store.specs.declared.store.Slot.TheVariants.{Seat}
use Rattle.tsc_ffi_store.specs.OpenHandles.{IsPlaceOf}
use Rattle.tsc_ffi_store.specs.Store.{seat_in}
use Rattle.tsc_ffi_store.proofs.AtHandle.{if_some}
use Rattle.tsc_ffi_store.proofs.AtPlace.{is_there, no_seat_there}
use Rattle.tsc_ffi_store.proofs.store.Store.seat_mut.Goals as goal

pub returns-in-Some : goal.returns-in-Some
returns-in-Some c =
    let place = subst (λ (hs : List ℕ). IsPlaceOf hs c.args.handle c.place_of-place.result)
    c.deref.ensures.value c.place_of-place.ensures in
    let at = is_there c.self.inside.handles.items c.self.inside.slots.items c.self.inside.next
    c.place_of-place.result c.args.handle c.in-Some.slot.now c.args.self.now c.self.invariant
    c.self.view_is place c.in-Some.ensures.item.3.0 c.in-Some.ensures.value in (
      (refl, (λ w. if_some c.seat_mut.result (at.changed (Seat w))), at.as_it_was),
      record {
        writes_back = tt;
        value = c.seat_mut.ensures.value ∙ sym (ap seat_in at.there);
      },
    )

pub returns-in-None : goal.returns-in-None
returns-in-None c =
    let place = subst (λ (hs : List ℕ). IsPlaceOf hs c.args.handle c.place_of-place.result)
    c.deref.ensures.value c.place_of-place.ensures in
    let past : length c.self.inside.slots.items ≤ c.place_of-place.result =
    grind (arith, c.in-None.ensures.variant, c.in-None.ensures.item) in (
      (refl, (λ w. tt), c.self.view_is),
      record {
        writes_back = tt;
        value = sym (no_seat_there c.self.inside.handles.items c.self.inside.slots.items
            c.self.inside.next c.place_of-place.result c.args.handle c.args.self.now
            c.self.invariant c.self.view_is place past);
      },
    )
