-- What the slot at the handle gives, the store does.
use Rattle.std.proofs.Common.{◌≤◌, subst, ℕ, List, length, arith}
use Rattle.tsc_ffi_store.specs.OpenHandles.{IsPlaceOf}
use Rattle.tsc_ffi_store.proofs.AtPlace.{is_there, seat_taken_there, no_seat_stands, seat_left_there, no_seat_there}
use Rattle.tsc_ffi_store.proofs.store.Store.take_seat.Goals as goal
use Rattle.tsc_ffi_store.proofs.store.Store.take_seat.Goals.{in-Some, in-None}

pub returns-clause-taken : goal.returns-clause-taken
returns-clause-taken c =
    let place = subst (λ (hs : List ℕ). IsPlaceOf hs c.args.handle c.place_of-place.result)
    c.deref.ensures.value c.place_of-place.ensures in
    elim c.match-get_mut.branch [
      | in-Some w ↦
          let at = is_there c.self.inside.handles.items c.self.inside.slots.items
          c.self.inside.next c.place_of-place.result c.args.handle w.in-Some.slot.now
          c.args.self.now c.self.invariant c.self.view_is place w.in-Some.ensures.item.3.0
          w.in-Some.ensures.value in
          rw (w.result-is, w.self-inside-is) (seat_taken_there c.self.inside.handles.items
          c.self.inside.slots.items c.self.inside.next c.place_of-place.result c.args.handle
          w.in-Some.slot.now w.take_seat.new.self c.args.self.now w.take_seat.result at
          w.take_seat.ensures.taken)
      | in-None w ↦
          rw (w.result-is) tt
    ]

pub returns-clause-none : goal.returns-clause-none
returns-clause-none c =
    let place = subst (λ (hs : List ℕ). IsPlaceOf hs c.args.handle c.place_of-place.result)
    c.deref.ensures.value c.place_of-place.ensures in
    elim c.match-get_mut.branch [
      | in-Some w ↦
          let at = is_there c.self.inside.handles.items c.self.inside.slots.items
          c.self.inside.next c.place_of-place.result c.args.handle w.in-Some.slot.now
          c.args.self.now c.self.invariant c.self.view_is place w.in-Some.ensures.item.3.0
          w.in-Some.ensures.value in
          rw (w.result-is) (no_seat_stands c.self.inside.handles.items
          c.self.inside.slots.items c.self.inside.next c.place_of-place.result c.args.handle
          w.in-Some.slot.now c.args.self.now w.take_seat.result at w.take_seat.ensures.none)
      | in-None w ↦
          let past : length c.self.inside.slots.items ≤ c.place_of-place.result =
          grind (arith, w.in-None.ensures.variant, w.in-None.ensures.item) in
          rw (w.result-is) (no_seat_there c.self.inside.handles.items
          c.self.inside.slots.items c.self.inside.next c.place_of-place.result c.args.handle
          c.args.self.now c.self.invariant c.self.view_is place past)
    ]

pub returns-clause-unchanged : goal.returns-clause-unchanged
returns-clause-unchanged c =
    let place = subst (λ (hs : List ℕ). IsPlaceOf hs c.args.handle c.place_of-place.result)
    c.deref.ensures.value c.place_of-place.ensures in
    elim c.match-get_mut.branch [
      | in-Some w ↦
          let at = is_there c.self.inside.handles.items c.self.inside.slots.items
          c.self.inside.next c.place_of-place.result c.args.handle w.in-Some.slot.now
          c.args.self.now c.self.invariant c.self.view_is place w.in-Some.ensures.item.3.0
          w.in-Some.ensures.value in
          rw (w.result-is, w.self-inside-is) (seat_left_there c.self.inside.handles.items
          c.self.inside.slots.items c.self.inside.next c.place_of-place.result c.args.handle
          w.in-Some.slot.now w.take_seat.new.self c.args.self.now w.take_seat.result at
          w.take_seat.ensures.unchanged)
      | in-None w ↦
          rw (w.result-is, w.self-inside-is) c.self.view_is
    ]
