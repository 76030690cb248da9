-- One span more is one time more that is no earlier.
use Rattle.std.proofs.Common.{sym, subst, Option, arith, rules}
use Rattle.tsc_time.specs.Time.{Time}
use Rattle.timestamp_cache.specs.Clear.{AsksEarliestAt}
use Rattle.timestamp_cache.proofs.AskingAll.{asked_none, asked_more, asked_last, asked_all}
use Rattle.timestamp_cache.proofs.AskingAll.{asked_until}
use Rattle.timestamp_cache.proofs.writes.earliest_write_at.Goals as goal

pub loop-span-init : goal.loop-span-init
loop-span-init g c = asked_none g.C.Lookup.kind c.args.seat.now c.args.spans.now c.args.by c.args.at
    c.number-number.ensures

pub earliest_of_one-requires : goal.earliest_of_one-requires
earliest_of_one-requires g c = record {
  at = g.met.C.Lookup.stays c.args.cache.now c.args.seat.now c.loop-span.seat c.requires.at
      c.loop-span.invariant.looked.goes_on;
}

pub returns-in-None-clause-asked : goal.returns-in-None-clause-asked
returns-in-None-clause-asked g c =
    let l = c.loop-span in
    asked_last g.C.Lookup.kind g.met.C.Lookup.laws c.args.seat.now l.seat
    c.earliest_of_one.new.seat c.args.spans.now l.span-index c.span-item.result c.args.by c.args.at
    l.time c.number-number.ensures c.loop-span-test.true (sym c.span-item.is) l.invariant
    (subst (λ (reported : Option Time). AsksEarliestAt g.C.Lookup.kind l.seat
    c.earliest_of_one.new.seat c.span-item.result c.args.by l.time reported) c.in-None.is
    c.in_ok-next.ensures.asked)

pub loop-span-preserved : goal.loop-span-preserved
loop-span-preserved g c =
    let l = c.loop-span in
    asked_more g.C.Lookup.kind g.met.C.Lookup.laws c.args.seat.now l.seat
    c.earliest_of_one.new.seat c.args.spans.now l.span-index c.span-item.result c.args.by c.args.at
    l.time c.in-Some.next c.loop-span-test.true (sym c.span-item.is) l.invariant
    (subst (λ (reported : Option Time). AsksEarliestAt g.C.Lookup.kind l.seat
    c.earliest_of_one.new.seat c.span-item.result c.args.by l.time reported) c.in-Some.is
    c.in_ok-next.ensures.asked)

pub returns-in_err-next-clause-refused : goal.returns-in_err-next-clause-refused
returns-in_err-next-clause-refused g c =
    let refused = c.in_err-next.ensures.refused in
    let looked = asked_until g.C.Lookup.kind c.args.seat.now c.loop-span.seat
    c.earliest_of_one.new.seat refused.1 c.loop-span.invariant.looked in
    search (rules, refused, looked)

pub returns-clause-asked : goal.returns-clause-asked
returns-clause-asked g c =
    let l = c.loop-span in
    asked_all g.C.Lookup.kind g.met.C.Lookup.laws c.args.seat.now l.seat c.args.spans.now
    l.span-index c.args.by c.args.at l.time c.number-number.ensures (omega arith) l.invariant

pub returns-clause-reads : goal.returns-clause-reads
returns-clause-reads g c = (returns-clause-asked g c).reads
