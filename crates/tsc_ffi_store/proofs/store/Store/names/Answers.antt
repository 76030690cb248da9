-- What stands at the place of the handle says whether it names something.
use Rattle.std.proofs.Common.{◌≡◌, ◌<◌, ◌≤◌, subst, ℕ, List, length, get_or, arith, rules}
use Rattle.tsc_ffi_store.specs.OpenHandles.{IsPlaceOf}
use Rattle.tsc_ffi_store.proofs.AtPlace.{is_there, some_named, closed_named, none_named}
use Rattle.tsc_ffi_store.proofs.store.Store.names.Goals as goal

pub returns-in-Some-clause-some : goal.returns-in-Some-clause-some
returns-in-Some-clause-some c =
    let place = subst (λ (hs : List ℕ). IsPlaceOf hs c.args.handle c.place_of-place.result)
    c.deref.ensures.value c.place_of-place.ensures in
    let within : c.place_of-place.result < length c.self.inside.slots.items =
    grind (arith, c.in-Some.ensures.lookup, c.deref-2.ensures.value) in
    let at : c.in-Some.slot.now ≡
    get_or c.self.inside.slots.items c.place_of-place.result c.in-Some.slot.now = search rules in
    λ does. some_named c.self.inside.handles.items c.self.inside.slots.items
    c.self.inside.next c.place_of-place.result c.args.handle c.in-Some.slot.now
    c.args.self.now (is_there c.self.inside.handles.items c.self.inside.slots.items
    c.self.inside.next c.place_of-place.result c.args.handle c.in-Some.slot.now
    c.args.self.now c.self.invariant c.self.view_is place within at) (c.is_open.ensures.some does)

pub returns-in-Some-clause-none : goal.returns-in-Some-clause-none
returns-in-Some-clause-none c =
    let place = subst (λ (hs : List ℕ). IsPlaceOf hs c.args.handle c.place_of-place.result)
    c.deref.ensures.value c.place_of-place.ensures in
    let within : c.place_of-place.result < length c.self.inside.slots.items =
    grind (arith, c.in-Some.ensures.lookup, c.deref-2.ensures.value) in
    let at : c.in-Some.slot.now ≡
    get_or c.self.inside.slots.items c.place_of-place.result c.in-Some.slot.now = search rules in
    λ does. closed_named c.self.inside.handles.items c.self.inside.slots.items
    c.self.inside.next c.place_of-place.result c.args.handle c.in-Some.slot.now
    c.args.self.now (is_there c.self.inside.handles.items c.self.inside.slots.items
    c.self.inside.next c.place_of-place.result c.args.handle c.in-Some.slot.now
    c.args.self.now c.self.invariant c.self.view_is place within at) (c.is_open.ensures.none does)

pub returns-in-None-clause-none : goal.returns-in-None-clause-none
returns-in-None-clause-none c =
    let place = subst (λ (hs : List ℕ). IsPlaceOf hs c.args.handle c.place_of-place.result)
    c.deref.ensures.value c.place_of-place.ensures in
    let past : length c.self.inside.slots.items ≤ c.place_of-place.result =
    grind (arith, c.in-None.ensures.lookup, c.deref-2.ensures.value) in
    λ _. none_named c.self.inside.handles.items c.self.inside.slots.items c.self.inside.next
    c.place_of-place.result c.args.handle c.args.self.now c.self.invariant c.self.view_is
    place past
