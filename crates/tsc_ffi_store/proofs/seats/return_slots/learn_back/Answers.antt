-- A token that knows nothing is made, and changes places with the one that came if it can.
use Rattle.std.proofs.Common.{ap, ◌∙◌}
use Rattle.tsc_ffi_store.specs.ReturnSlots.{also_back}
use Rattle.tsc_ffi_store.specs.ReturnSteps.{At}
use Rattle.tsc_ffi_store.proofs.Returning.{spare_at, learn_at}
use Rattle.tsc_ffi_store.proofs.Learning.{learns_by, joined_table, joined_free}
use Rattle.tsc_ffi_store.proofs.seats.return_slots.learn_back.Goals as goal

pub split_seat-other-requires : goal.split_seat-other-requires
split_seat-other-requires c = (
  c.requires.keeper,
  c.requires.words,
  spare_at c.args.slots.now.key c.args.keeper.now.id c.args.keeper.now.me.0,
)

pub join_seat-requires : goal.join_seat-requires
join_seat-requires c = (
  c.split_seat-other.ensures.0 ∙ c.requires.keeper,
  joined_table c.args.slots.now.table_id c.args.token c.split_seat-other.result
      c.swap_if_same.new.first c.swap_if_same.new.second
      (c.split_seat-other.ensures.3 ∙ c.requires.keeper) c.swap_if_same.ensures,
  joined_free c.args.token c.split_seat-other.result c.swap_if_same.new.first
      c.swap_if_same.new.second c.requires.free c.split_seat-other.ensures.4
      c.swap_if_same.ensures,
  c.requires.words,
  learn_at c.args.slots.now.key c.split_seat-other.new.seat.id c.split_seat-other.new.seat.me.0
      c.swap_if_same.new.second.id c.swap_if_same.new.second.me.0,
)

pub returns-clause-learned : goal.returns-clause-learned
returns-clause-learned c =
    learns_by c.args.slots.now.table_id c.args.token c.split_seat-other.result
    c.swap_if_same.new.first c.swap_if_same.new.second c.args.keeper.now.me
    c.join_seat.new.seat.me (c.split_seat-other.ensures.3 ∙ c.requires.keeper)
    c.split_seat-other.ensures.4 c.swap_if_same.ensures
    (c.join_seat.ensures.2 ∙ ap (λ (m : At). (also_back m.0 c.swap_if_same.new.second.me.0, m.1))
    c.split_seat-other.ensures.2)
