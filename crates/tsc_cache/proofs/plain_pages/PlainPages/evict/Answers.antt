-- One page more is dropped.
use Rattle.std.proofs.Common.{◌∙◌, ap, subst, arith, length}
use Rattle.std.proofs.lemmas.List.{length_push}
use Rattle.tsc_cache.specs.CacheParts.{plain_older_of}
use Rattle.tsc_cache.specs.Stacks.{IsDroppedTop}
use Rattle.tsc_cache.proofs.Droppings.{dropping-more, popped_plain}
use Rattle.tsc_cache.proofs.plain_pages.PlainPages.evict.Goals as goal

pub loop-top-preserved : goal.loop-top-preserved
loop-top-preserved c =
    let found = subst (IsDroppedTop c.args.config.now c.args.now (plain_older_of c.loop-top.self))
    c.in-Some.is c.dropped_top.ensures in
    let long = ap length found.2 ∙ length_push found.0 found.1 in
    let fits = c.loop-top.self.older.ok.0 in
    let popped = popped_plain c.loop-top.self.older.items c.pop.new.self.items c.pop.result
    (c.pop.ensures.variant.1 (omega arith)) c.pop.ensures.items in (
      c.loop-top.invariant.0,
      dropping-more c.args.config.now c.args.floor c.args.now (plain_older_of c.args.self.now)
          (plain_older_of c.loop-top.self) c.pop.new.self.items popped.0 c.loop-top.raised
          c.in-Some.top c.max-raised.result c.loop-top.evicted c.loop-top.invariant.1
          c.max-raised.ensures popped.1 found,
    )
