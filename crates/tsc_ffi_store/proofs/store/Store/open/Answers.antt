-- The new cache stands behind all that there is.
use Rattle.std.proofs.Common.{◌≡◌, ◌∙◌, ◌++◌, ◌∷◌, [], refl, sym, ap, inl, inr, length, arith}
use Rattle.tsc_ffi_store.specs.declared.counts.CountedCache.{CountedCache}
use Rattle.tsc_ffi_store.specs.declared.store.Slot.TheVariants.{Own}
use Rattle.tsc_ffi_store.specs.OpenHandles.{named_by}
use Rattle.tsc_ffi_store.proofs.PushedSlots.{long_as_next, pushed_open, pushed_named, pushes_on}
use Rattle.tsc_ffi_store.proofs.NextHandle.{opens_next, gives_next}
use Rattle.tsc_ffi_store.proofs.store.Store.open.Goals as goal

pub returns-then-self-clause-refused : goal.returns-then-self-clause-refused
returns-then-self-clause-refused c =
    let long : length c.args.self.now ≡ c.self.inside.next = long_as_next
    c.self.inside.handles.items c.self.inside.slots.items c.self.inside.next c.args.self.now
    c.self.view_is in
    inl (refl, grind (arith, long, c.if-self.true))

pub returns-in_default-clause-refused : goal.returns-in_default-clause-refused
returns-in_default-clause-refused c =
    let long : length c.args.self.now ≡ c.self.inside.next = long_as_next
    c.self.inside.handles.items c.self.inside.slots.items c.self.inside.next c.args.self.now
    c.self.view_is in
    inr (refl, grind (arith, long, c.if-self.false))

pub returns-then-is_err-clause-refused : goal.returns-then-is_err-clause-refused
returns-then-is_err-clause-refused c =
    let long : length c.args.self.now ≡ c.self.inside.next = long_as_next
    c.self.inside.handles.items c.self.inside.slots.items c.self.inside.next c.args.self.now
    c.self.view_is in
    inr (refl, grind (arith, long, c.if-self.false))

pub invariant_of-self-2 : goal.invariant_of-self-2
invariant_of-self-2 c =
    pushed_open (Own c.new-2.result) c.self.inside.handles.items c.self.inside.slots.items
    c.self.inside.next c.push_slot.new.handles.items c.push_slot.new.slots.items
    c.push_slot.new.next
    c.self.invariant (pushes_on (Own c.new-2.result) c.self.inside.handles.items
    c.reserve.new.self.items c.self.inside.slots.items c.reserve-else-is_err.new.self.items
    c.self.inside.next c.push_slot.new.handles.items c.push_slot.new.slots.items
    c.push_slot.new.next
    c.reserve.ensures.items c.reserve-else-is_err.ensures.items c.push_slot.ensures.pushed)

pub returns-clause-opened : goal.returns-clause-opened
returns-clause-opened c =
    opens_next c.args.self.now
    (named_by c.push_slot.new.handles.items c.push_slot.new.slots.items c.push_slot.new.next)
    c.self.inside.next c.in-Ok.cache c.args.config
    (sym (long_as_next c.self.inside.handles.items c.self.inside.slots.items
    c.self.inside.next c.args.self.now c.self.view_is))
    (pushed_named (Own c.new-2.result) c.self.inside.handles.items c.self.inside.slots.items
    c.self.inside.next c.push_slot.new.handles.items c.push_slot.new.slots.items
    c.push_slot.new.next
    c.args.self.now c.self.invariant c.self.view_is (pushes_on (Own c.new-2.result) c.self.inside.handles.items
    c.reserve.new.self.items c.self.inside.slots.items c.reserve-else-is_err.new.self.items
    c.self.inside.next c.push_slot.new.handles.items c.push_slot.new.slots.items
    c.push_slot.new.next
    c.reserve.ensures.items c.reserve-else-is_err.ensures.items c.push_slot.ensures.pushed) ∙
    ap (λ (held : CountedCache). c.args.self.now ++ Own held ∷ []) c.new-2.ensures)
    c.in-Ok.ensures.stands

pub returns-clause-given : goal.returns-clause-given
returns-clause-given c =
    gives_next c.args.self.now
    (named_by c.push_slot.new.handles.items c.push_slot.new.slots.items c.push_slot.new.next)
    c.self.inside.next (Own c.new-2.result)
    (sym (long_as_next c.self.inside.handles.items c.self.inside.slots.items
    c.self.inside.next c.args.self.now c.self.view_is))
    (pushed_named (Own c.new-2.result) c.self.inside.handles.items c.self.inside.slots.items
    c.self.inside.next c.push_slot.new.handles.items c.push_slot.new.slots.items
    c.push_slot.new.next
    c.args.self.now c.self.invariant c.self.view_is (pushes_on (Own c.new-2.result) c.self.inside.handles.items
    c.reserve.new.self.items c.self.inside.slots.items c.reserve-else-is_err.new.self.items
    c.self.inside.next c.push_slot.new.handles.items c.push_slot.new.slots.items
    c.push_slot.new.next
    c.reserve.ensures.items c.reserve-else-is_err.ensures.items c.push_slot.ensures.pushed))
