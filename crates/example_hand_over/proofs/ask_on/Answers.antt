-- Proves the contract of `ask_on`. Asks the next holder for a write whose key has this span. The
-- holder tells at which time the write may be laid down.
use Rattle.std.proofs.Common.{rules}
use Rattle.timestamp_cache.specs.Words.{Time, cache_answer}
use Rattle.timestamp_cache.specs.Clear.{IsClearOf}
use Rattle.example_hand_over.proofs.Answered.{pushed_row}
use Rattle.example_hand_over.proofs.ask_on.Goals as goal

pub returns : goal.returns
returns g c =
    pushed_row g.F.Former.cache g.F.Former.range c.args.write.now c.args.span.now
    c.in_ok-reported.reported c.id_of.result c.at.result c.write-reported.result
    (λ (t : Time). IsClearOf (cache_answer c.args.next.now.cache c.args.span.now) c.id_of.result t)
    c.requires c.id_of.ensures c.at.ensures (search rules) c.write-reported.ensures.former
    c.write-reported.ensures.pushed
