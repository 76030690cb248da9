-- A closed slot is left out with its handle, which names nothing as before.
use Rattle.std.proofs.Common.{◌≡◌, ◌<◌, ◌∙◌, length, get_or, arith, rules}
use Rattle.tsc_ffi_store.specs.declared.store.Slot.TheVariants.{Closed}
use Rattle.tsc_ffi_store.proofs.OpenHandles.{open_left_out, named_left_out}
use Rattle.tsc_ffi_store.proofs.store.Store.forget.Goals as goal

pub invariant_of-self : goal.invariant_of-self
invariant_of-self c =
    let within : c.place_of-place.result < length c.self.inside.slots.items =
    grind (arith, c.in-Some-Closed.ensures.lookup, c.deref-2.ensures.value) in
    rw (c.remove.ensures.items, c.remove-in-Some-Closed.ensures.items)
    (open_left_out c.self.inside.handles.items c.self.inside.slots.items c.self.inside.next
    c.place_of-place.result c.self.invariant (rw (← c.self.invariant.long) within))

pub returns-in-Some-Closed : goal.returns-in-Some-Closed
returns-in-Some-Closed c =
    let within : c.place_of-place.result < length c.self.inside.slots.items =
    grind (arith, c.in-Some-Closed.ensures.lookup, c.deref-2.ensures.value) in
    let at : Closed ≡ get_or c.self.inside.slots.items c.place_of-place.result Closed =
    search rules in
    rw (c.remove.ensures.items, c.remove-in-Some-Closed.ensures.items)
    (named_left_out c.self.inside.handles.items c.self.inside.slots.items c.self.inside.next
    c.place_of-place.result c.self.invariant (rw (← c.self.invariant.long) within) at ∙
    c.self.view_is)
