-- Proves the contract of `Next::write`. The earliest time, from the wanted one on, at which a
-- transaction may write.
use Rattle.std.proofs.Common.{List, subst}
use Rattle.timestamp_cache.specs.Words.{Time, SpanView}
use Rattle.timestamp_cache.specs.Clear.{IsClearOfAnswers}
use Rattle.timestamp_cache.specs.Earliest.{ReportsEarliest}
use Rattle.example_hand_over.proofs.Handing.{earliest_of_one, clear_of_former}
use Rattle.example_hand_over.proofs.lease.Next.write.Goals as goal

pub returns-clause-pushed : goal.returns-clause-pushed
returns-clause-pushed g c =
    let cache = c.args.self.now.cache in
    earliest_of_one cache c.args.span.now c.args.by c.args.wanted c.earliest_write.result
    (subst (λ (spans : List SpanView). ReportsEarliest
    (λ (t : Time). IsClearOfAnswers cache spans c.args.by t) c.args.wanted
    c.earliest_write.result) c.from_ref.ensures.value c.earliest_write.ensures.earliest)

pub returns-clause-former : goal.returns-clause-former
returns-clause-former g c =
    clear_of_former _ c.args.self.now.cache _ c.args.span.now c.args.by c.args.wanted
    c.earliest_write.result c.args.self.now.follows (returns-clause-pushed g c)
