-- What the slot at the handle learns, the store does.
use Rattle.std.proofs.Common.{◌≤◌, subst, ℕ, List, length, set, arith}
use Rattle.tsc_ffi_store.specs.OpenHandles.{IsPlaceOf, named_by}
use Rattle.tsc_ffi_store.proofs.AtPlace.{is_there, nothing_there}
use Rattle.tsc_ffi_store.proofs.Learning.{learns_there, nobody_learns_there}
use Rattle.tsc_ffi_store.proofs.store.Store.learn.Goals as goal
use Rattle.tsc_ffi_store.proofs.store.Store.learn.Goals.{in-Some, in-None}

pub returns : goal.returns
returns c =
    let place = subst (λ (hs : List ℕ). IsPlaceOf hs c.args.handle c.place_of-place.result)
    c.deref.ensures.value c.place_of-place.ensures in
    elim c.match-get_mut.branch [
      | in-Some w ↦
          let at = is_there c.self.inside.handles.items c.self.inside.slots.items
          c.self.inside.next c.place_of-place.result c.args.handle w.in-Some.slot.now
          c.args.self.now c.self.invariant c.self.view_is place w.in-Some.ensures.item.3.0
          w.in-Some.ensures.value in
          rw (w.self-inside-is) (learns_there c.args.token.table_id c.args.token.me.0.back
          c.args.self.now (named_by c.self.inside.handles.items (set c.self.inside.slots.items
          c.place_of-place.result w.learn.new.self) c.self.inside.next) c.args.handle
          w.in-Some.slot.now w.learn.new.self at.there (at.changed w.learn.new.self)
          w.learn.ensures)
      | in-None w ↦
          let past : length c.self.inside.slots.items ≤ c.place_of-place.result =
          grind (arith, w.in-None.ensures.variant, w.in-None.ensures.item) in
          rw (w.self-inside-is) (nobody_learns_there c.args.token.table_id
          c.args.token.me.0.back c.args.self.now (named_by c.self.inside.handles.items
          c.self.inside.slots.items c.self.inside.next) c.args.handle
          (nothing_there c.self.inside.handles.items c.self.inside.slots.items
          c.self.inside.next c.place_of-place.result c.args.handle c.args.self.now
          c.self.invariant c.self.view_is place past) c.self.view_is)
    ]
