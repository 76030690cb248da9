-- Of one span a seat is told as by one lookup.
use Rattle.std.proofs.Common.{List, subst}
use Rattle.timestamp_cache.specs.Words.{SpanView}
use Rattle.timestamp_cache.specs.Clear.{AsksInTurn}
use Rattle.timestamp_cache.proofs.AskingAll.{asked_of_one}
use Rattle.example_lease_holder.specs.ReadSeats.{read_seat}
use Rattle.example_lease_holder.proofs.lease.Lease.earliest.Goals as goal

pub returns : goal.returns
returns g c =
    let me = c.args.me.now.seat in
    let new = c.earliest_write_at.new.seat in
    let span = c.args.held.now.span in
    asked_of_one read_seat me new span c.args.by c.args.wanted c.in-Ok.reported
    (subst (λ (spans : List SpanView). AsksInTurn read_seat c.args.by me new spans
    c.args.wanted c.in-Ok.reported) c.from_ref-spans.ensures.value c.in-Ok.ensures.asked.in_turn)
