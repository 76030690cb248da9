-- What the slot at the handle gives, the store does.
use Rattle.std.proofs.Common.{◌≤◌, subst, ℕ, List, length, arith}
use Rattle.tsc_ffi_store.specs.OpenHandles.{IsPlaceOf}
use Rattle.tsc_ffi_store.proofs.AtPlace.{is_there, taken_there, no_cache_left, no_seat_left, no_shared_left}
use Rattle.tsc_ffi_store.proofs.AtPlace.{no_cache_there, no_seat_there, no_shared_there}
use Rattle.tsc_ffi_store.proofs.store.Store.take.Goals as goal
use Rattle.tsc_ffi_store.proofs.store.Store.take.Goals.{in-Some, in-None}

pub returns-clause-taken : goal.returns-clause-taken
returns-clause-taken c =
    let place = subst (λ (hs : List ℕ). IsPlaceOf hs c.args.handle c.place_of-place.result)
    c.deref.ensures.value c.place_of-place.ensures in
    elim c.match-get_mut.branch [
      | in-Some w ↦
          let at = is_there c.self.inside.handles.items c.self.inside.slots.items
          c.self.inside.next c.place_of-place.result c.args.handle w.in-Some.slot.now
          c.args.self.now c.self.invariant c.self.view_is place w.in-Some.ensures.item.3.0
          w.in-Some.ensures.value in
          rw (w.result-is, w.self-inside-is) (taken_there c.self.inside.handles.items
          c.self.inside.slots.items c.self.inside.next c.place_of-place.result c.args.handle
          w.in-Some.slot.now w.take.new.self c.args.self.now w.take.result at
          w.take.ensures.taken)
      | in-None w ↦
          rw (w.result-is) tt
    ]

pub returns-clause-no_cache : goal.returns-clause-no_cache
returns-clause-no_cache c =
    let place = subst (λ (hs : List ℕ). IsPlaceOf hs c.args.handle c.place_of-place.result)
    c.deref.ensures.value c.place_of-place.ensures in
    elim c.match-get_mut.branch [
      | in-Some w ↦
          let at = is_there c.self.inside.handles.items c.self.inside.slots.items
          c.self.inside.next c.place_of-place.result c.args.handle w.in-Some.slot.now
          c.args.self.now c.self.invariant c.self.view_is place w.in-Some.ensures.item.3.0
          w.in-Some.ensures.value in
          rw (w.result-is) (no_cache_left c.self.inside.handles.items
          c.self.inside.slots.items c.self.inside.next c.place_of-place.result c.args.handle
          w.in-Some.slot.now w.take.new.self c.args.self.now w.take.result at
          w.take.ensures.none)
      | in-None w ↦
          let past : length c.self.inside.slots.items ≤ c.place_of-place.result =
          grind (arith, w.in-None.ensures.variant, w.in-None.ensures.item) in
          rw (w.result-is) (no_cache_there c.self.inside.handles.items
          c.self.inside.slots.items c.self.inside.next c.place_of-place.result c.args.handle
          c.args.self.now c.self.invariant c.self.view_is place past)
    ]

pub returns-clause-no_shared : goal.returns-clause-no_shared
returns-clause-no_shared c =
    let place = subst (λ (hs : List ℕ). IsPlaceOf hs c.args.handle c.place_of-place.result)
    c.deref.ensures.value c.place_of-place.ensures in
    elim c.match-get_mut.branch [
      | in-Some w ↦
          let at = is_there c.self.inside.handles.items c.self.inside.slots.items
          c.self.inside.next c.place_of-place.result c.args.handle w.in-Some.slot.now
          c.args.self.now c.self.invariant c.self.view_is place w.in-Some.ensures.item.3.0
          w.in-Some.ensures.value in
          rw (w.result-is) (no_shared_left c.self.inside.handles.items
          c.self.inside.slots.items c.self.inside.next c.place_of-place.result c.args.handle
          w.in-Some.slot.now w.take.new.self c.args.self.now w.take.result at
          w.take.ensures.none)
      | in-None w ↦
          let past : length c.self.inside.slots.items ≤ c.place_of-place.result =
          grind (arith, w.in-None.ensures.variant, w.in-None.ensures.item) in
          rw (w.result-is) (no_shared_there c.self.inside.handles.items
          c.self.inside.slots.items c.self.inside.next c.place_of-place.result c.args.handle
          c.args.self.now c.self.invariant c.self.view_is place past)
    ]

pub returns-clause-no_seat : goal.returns-clause-no_seat
returns-clause-no_seat c =
    let place = subst (λ (hs : List ℕ). IsPlaceOf hs c.args.handle c.place_of-place.result)
    c.deref.ensures.value c.place_of-place.ensures in
    elim c.match-get_mut.branch [
      | in-Some w ↦
          let at = is_there c.self.inside.handles.items c.self.inside.slots.items
          c.self.inside.next c.place_of-place.result c.args.handle w.in-Some.slot.now
          c.args.self.now c.self.invariant c.self.view_is place w.in-Some.ensures.item.3.0
          w.in-Some.ensures.value in
          rw (w.result-is) (no_seat_left c.self.inside.handles.items
          c.self.inside.slots.items c.self.inside.next c.place_of-place.result c.args.handle
          w.in-Some.slot.now w.take.new.self c.args.self.now w.take.result at
          w.take.ensures.none)
      | in-None w ↦
          let past : length c.self.inside.slots.items ≤ c.place_of-place.result =
          grind (arith, w.in-None.ensures.variant, w.in-None.ensures.item) in
          rw (w.result-is) (no_seat_there c.self.inside.handles.items
          c.self.inside.slots.items c.self.inside.next c.place_of-place.result c.args.handle
          c.args.self.now c.self.invariant c.self.view_is place past)
    ]
