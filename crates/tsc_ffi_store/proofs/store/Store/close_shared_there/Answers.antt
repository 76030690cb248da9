-- What the slot at the handle answers, the store does.
use Rattle.std.proofs.Common.{◌≤◌, ◌∙◌, sym, subst, ℕ, List, length, set, arith}
use Rattle.tsc_ffi_store.specs.OpenHandles.{IsPlaceOf, named_by}
use Rattle.tsc_ffi_store.proofs.AtPlace.{is_there, no_shared_there}
use Rattle.tsc_ffi_store.proofs.Closing.{ended_there, none_ended_there}
use Rattle.tsc_ffi_store.proofs.store.Store.close_shared_there.Goals as goal
use Rattle.tsc_ffi_store.proofs.store.Store.close_shared_there.Goals.{in-Some, in-None}

pub returns-clause-answers : goal.returns-clause-answers
returns-clause-answers c =
    let place = subst (λ (hs : List ℕ). IsPlaceOf hs c.args.handle c.place_of-place.result)
    c.deref.ensures.value c.place_of-place.ensures in
    elim c.match-get_mut.branch [
      | in-Some w ↦
          let at = is_there c.self.inside.handles.items c.self.inside.slots.items
          c.self.inside.next c.place_of-place.result c.args.handle w.in-Some.slot.now
          c.args.self.now c.self.invariant c.self.view_is place w.in-Some.ensures.item.3.0
          w.in-Some.ensures.value in
          rw (w.length-is, w.result-is, w.self-inside-is) (ended_there w.close_shared.new.length c.args.self.now
          (named_by c.self.inside.handles.items (set c.self.inside.slots.items
          c.place_of-place.result w.close_shared.new.self) c.self.inside.next) c.args.handle
          w.in-Some.slot.now w.close_shared.new.self w.close_shared.result at.there
          (at.changed w.close_shared.new.self) (sym (at.changed w.in-Some.slot.now) ∙ at.as_it_was)
          w.close_shared.ensures.ended)
      | in-None w ↦
          let past : length c.self.inside.slots.items ≤ c.place_of-place.result =
          grind (arith, w.in-None.ensures.variant, w.in-None.ensures.item) in
          rw (w.length-is, w.result-is, w.self-inside-is) (none_ended_there c.args.length.now c.args.self.now
          (named_by c.self.inside.handles.items c.self.inside.slots.items c.self.inside.next)
          c.args.handle (no_shared_there c.self.inside.handles.items c.self.inside.slots.items
          c.self.inside.next c.place_of-place.result c.args.handle c.args.self.now
          c.self.invariant c.self.view_is place past) c.self.view_is)
    ]
