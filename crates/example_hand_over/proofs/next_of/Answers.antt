-- Proves the contract of `next_of`. Makes the next holder, who has answered nothing. That holder
-- takes over what the former one tells in at most `most` marks.
use Rattle.std.proofs.Common.{subst}
use Rattle.timestamp_cache.specs.Words.{CacheView}
use Rattle.example_hand_over.specs.FormerReads.{ReportsOfCache}
use Rattle.example_hand_over.proofs.next_of.Goals as goal

pub take_over-requires-clause-reports : goal.take_over-requires-clause-reports
take_over-requires-clause-reports g c =
    subst (λ (cache : CacheView). ReportsOfCache cache c.in_ok-reported.reported) c.requires.cache
    c.in_ok-reported.ensures.answers
