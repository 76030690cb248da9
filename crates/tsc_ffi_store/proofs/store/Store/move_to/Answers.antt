-- What is moved stands behind all that there is in the other store.
use Rattle.std.proofs.Common.{◌≡◌, ◌∙◌, refl, sym, inl, inr, length, true, arith, rules}
use Rattle.tsc_ffi_store.proofs.PushedSlots.{long_as_next, pushed_open, pushed_named, pushes_on}
use Rattle.tsc_ffi_store.proofs.store.Store.move_to.Goals as goal

pub returns-then-other-clause-answers : goal.returns-then-other-clause-answers
returns-then-other-clause-answers c =
    let long : length c.args.other.now ≡ c.other.inside.next = long_as_next
    c.other.inside.handles.items c.other.inside.slots.items c.other.inside.next c.args.other.now
    c.other.view_is in
    record { moved = tt; refused = inr (inl (refl, grind (arith, long, c.if-other.true))) }

pub returns-then-is_err-clause-answers : goal.returns-then-is_err-clause-answers
returns-then-is_err-clause-answers c =
    let long : length c.args.other.now ≡ c.other.inside.next = long_as_next
    c.other.inside.handles.items c.other.inside.slots.items c.other.inside.next c.args.other.now
    c.other.view_is in
    let open_ : c.names.result ≡ true = search rules in
    record {
      moved = tt;
      refused = inr (inr (
        c.names.ensures.some open_,
        (refl, grind (arith, long, c.if-other.false)),
      ));
    }

pub invariant_of-other-2 : goal.invariant_of-other-2
invariant_of-other-2 c =
    pushed_open c.in-Some.slot c.other.inside.handles.items c.other.inside.slots.items
    c.other.inside.next c.push_slot.new.handles.items c.push_slot.new.slots.items
    c.push_slot.new.next c.other.invariant (pushes_on c.in-Some.slot c.other.inside.handles.items
    c.reserve.new.self.items c.other.inside.slots.items c.reserve-else-is_err.new.self.items
    c.other.inside.next c.push_slot.new.handles.items c.push_slot.new.slots.items
    c.push_slot.new.next
    c.reserve.ensures.items c.reserve-else-is_err.ensures.items c.push_slot.ensures.pushed)

pub returns-clause-answers : goal.returns-clause-answers
returns-clause-answers c = record {
  moved = record {
    slot = c.in-Some.slot;
    held = c.in-Some.ensures.taken.0;
    open_ = c.in-Some.ensures.taken.1;
    left = c.forget.ensures ∙ c.in-Some.ensures.taken.2;
    came = pushed_named c.in-Some.slot c.other.inside.handles.items c.other.inside.slots.items
        c.other.inside.next c.push_slot.new.handles.items c.push_slot.new.slots.items
        c.push_slot.new.next
        c.args.other.now c.other.invariant c.other.view_is (pushes_on c.in-Some.slot
        c.other.inside.handles.items c.reserve.new.self.items c.other.inside.slots.items
        c.reserve-else-is_err.new.self.items c.other.inside.next c.push_slot.new.handles.items
        c.push_slot.new.slots.items c.push_slot.new.next c.reserve.ensures.items
        c.reserve-else-is_err.ensures.items c.push_slot.ensures.pushed);
    next = sym (long_as_next c.other.inside.handles.items c.other.inside.slots.items
        c.other.inside.next c.args.other.now c.other.view_is);
  };
  refused = tt;
}
