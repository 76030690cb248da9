-- Proves the contract of `Lease::write`. Writes a key, while its latch is held, at the earliest
-- time from the wanted one on that is clear of what the cache answers.
use Rattle.std.proofs.Common.{rules, sym, subst}
use Rattle.std.specs.Prelude.{Option, IfSome}
use Rattle.tsc_cache.proofs.Beginnings.{begins_on}
use Rattle.timestamp_cache.specs.Words.{Time}
use Rattle.example_lease_holder.specs.Reads.{IsClearFor}
use Rattle.example_lease_holder.specs.ReadSeats.{seen_by}
use Rattle.example_lease_holder.specs.ReadSeatLaws.{read_seat_laws}
use Rattle.example_lease_holder.proofs.Carried.{clear_of_handed}
use Rattle.example_lease_holder.proofs.lease.Lease.write.Goals as goal
use Rattle.example_lease_holder.proofs.lease.Lease.write.Goals.{in-Some+in_ok-push, in_default}

pub returns-clause-clear : goal.returns-clause-clear
returns-clause-clear g c =
    let held = c.args.held.now in
    let P = λ (reported : Option Time). IfSome reported
    (λ (at : Time). IsClearFor held.answered.items (seen_by c.earliest-reported.new.me.seat)
    held.span c.args.wanted.by at) in
    let clear : P c.earliest-reported.result =
    clear_of_handed held.span c.take_over.new.held.span (seen_by held.handed.seat)
    c.take_over.new.me.seat c.earliest-reported.new.me.seat c.args.wanted.by c.args.wanted.at
    c.earliest-reported.result held.answered.items
    c.take_over.ensures.same.0 c.take_over.ensures.seen c.earliest-reported.ensures held.added in
    elim c.match-reported.branch [
      | in-Some+in_ok-push w ↦ subst P (sym w.reported-is) (subst P w.in-Some.is clear)
      | in_default w ↦ subst P (sym w.reported-is) clear
    ]

pub returns-clause-written : goal.returns-clause-written
returns-clause-written g c = search rules

pub returns-clause-pushed : goal.returns-clause-pushed
returns-clause-pushed g c = search rules

pub returns-clause-seat : goal.returns-clause-seat
returns-clause-seat g c = begins_on _ _ _ (read_seat_laws.begins _ _ c.earliest-reported.ensures.goes_on)
    c.take_over.ensures.kept

pub returns-in_err-push-clause-seat : goal.returns-in_err-push-clause-seat
returns-in_err-push-clause-seat g c =
    begins_on _ _ _ (read_seat_laws.begins _ _ c.earliest-reported.ensures.goes_on) c.take_over.ensures.kept
