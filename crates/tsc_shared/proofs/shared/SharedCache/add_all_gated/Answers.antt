-- Proves the contract of `SharedCache::add_all_gated`. As `add_all`.
use Rattle.tsc_shared.proofs.GivenUp.{waited_answers, waited_ok}
use Rattle.tsc_shared.proofs.shared.SharedCache.add_all_gated.Goals as goal

pub returns-clause-answers : goal.returns-clause-answers
returns-clause-answers g c =
    waited_answers _ _ _ _ _ _ _ _ c.waited.ensures c.add_ref.ensures.answers

pub returns-clause-gate : goal.returns-clause-gate
returns-clause-gate g c = waited_ok _ _ _ c.waited.ensures c.add_ref.ensures.gate
