-- The handle names nothing, and then the owner learns of the seat.
use Rattle.std.proofs.Common.{◌∙◌, ap, subst, List, [], ◌∷◌}
use Rattle.atomic_table.specs.Seated.{TableId}
use Rattle.tsc_ffi_store.specs.declared.seats.kinds.AnySeat.{AnySeat}
use Rattle.tsc_ffi_store.specs.ReturnSteps.{At}
use Rattle.tsc_ffi_store.specs.SeatCalls.{LearnsAt}
use Rattle.tsc_ffi_store.proofs.store.Store.close_seat.Goals as goal

pub learn-requires : goal.learn-requires
learn-requires c = record { free = ap (λ (m : At). m.1) c.close.ensures.came }

pub returns-clause-answers : goal.returns-clause-answers
returns-clause-answers c = record {
  closed = record {
    seat = c.in-Some.held;
    held = c.in-Some.ensures.taken.0;
    left = c.forget.new.self;
    goes = c.forget.ensures ∙ c.in-Some.ensures.taken.1;
    learns = subst (λ (returns : TableId). LearnsAt returns (c.in-Some.held.seat.seat ∷ [])
        c.forget.new.self c.learn.new.self c.in-Some.held.opened_at) c.close.ensures.table
        (subst (λ (seats : List AnySeat). LearnsAt c.close.result.table_id seats
        c.forget.new.self c.learn.new.self c.in-Some.held.opened_at)
        (ap (λ (m : At). m.0.back) c.close.ensures.came) c.learn.ensures);
  };
  refused = tt;
}
