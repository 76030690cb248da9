-- What the slot at the handle holds, the store does.
use Rattle.std.proofs.Common.{◌≡◌, ◌∙◌, ◌<◌, ◌≤◌, sym, ap, subst, ℕ, List, length, get_or, arith, rules}
use Rattle.tsc_ffi_store.specs.OpenHandles.{IsPlaceOf}
use Rattle.tsc_ffi_store.specs.Store.{cache_in}
use Rattle.tsc_ffi_store.proofs.AtPlace.{is_there, no_cache_there}
use Rattle.tsc_ffi_store.proofs.store.Store.cache.Goals as goal

pub returns-in-Some : goal.returns-in-Some
returns-in-Some c =
    let place = subst (λ (hs : List ℕ). IsPlaceOf hs c.args.handle c.place_of-place.result)
    c.deref.ensures.value c.place_of-place.ensures in
    let within : c.place_of-place.result < length c.self.inside.slots.items =
    grind (arith, c.in-Some.ensures.lookup, c.deref-2.ensures.value) in
    let at : c.in-Some.slot.now ≡
    get_or c.self.inside.slots.items c.place_of-place.result c.in-Some.slot.now = search rules in
    c.cache.ensures ∙ sym (ap cache_in (is_there c.self.inside.handles.items
    c.self.inside.slots.items c.self.inside.next c.place_of-place.result c.args.handle
    c.in-Some.slot.now c.args.self.now c.self.invariant c.self.view_is place within at).there)

pub returns-in-None : goal.returns-in-None
returns-in-None c =
    let place = subst (λ (hs : List ℕ). IsPlaceOf hs c.args.handle c.place_of-place.result)
    c.deref.ensures.value c.place_of-place.ensures in
    let past : length c.self.inside.slots.items ≤ c.place_of-place.result =
    grind (arith, c.in-None.ensures.lookup, c.deref-2.ensures.value) in
    sym (no_cache_there c.self.inside.handles.items c.self.inside.slots.items
    c.self.inside.next c.place_of-place.result c.args.handle c.args.self.now
    c.self.invariant c.self.view_is place past)
