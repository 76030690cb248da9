-- One span more is one time more that is no earlier.
use Rattle.std.proofs.Common.{rules, sym, subst, arith}
use Rattle.tsc_time.specs.ValueView.{ValueView}
use Rattle.timestamp_cache.specs.Clear.{IsClearOf}
use Rattle.timestamp_cache.specs.Earliest.{IsEarliest}
use Rattle.timestamp_cache.proofs.Earliest.{first_none, first_more, first_all, clear_of_all_reads}
use Rattle.timestamp_cache.proofs.writes.earliest_write.Goals as goal

pub loop-span-init : goal.loop-span-init
loop-span-init c = first_none c.args.cache.now c.args.spans.now c.args.by c.args.at (search rules)

pub loop-span-preserved : goal.loop-span-preserved
loop-span-preserved c =
    first_more c.args.cache.now c.args.spans.now c.loop-span.span-index c.span-item.result c.args.by
    c.args.at c.loop-span.time c.in_ok-time.time c.loop-span-test.true (sym c.span-item.is)
    c.loop-span.invariant
    (subst (λ (v : ValueView). IsEarliest (λ t. IsClearOf v c.args.by t) c.loop-span.time
    c.in_ok-time.time) c.get_max.ensures.value c.in_ok-time.ensures)

pub returns-clause-reads : goal.returns-clause-reads
returns-clause-reads c =
    clear_of_all_reads c.args.cache.now c.args.spans.now c.args.by c.loop-span.time
    (first_all c.args.cache.now c.args.spans.now c.loop-span.span-index c.args.by c.args.at
    c.loop-span.time (omega arith) c.loop-span.invariant).holds
