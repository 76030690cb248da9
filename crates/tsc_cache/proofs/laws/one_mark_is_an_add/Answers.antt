-- An Add of a list of one mark changes a cache as an Add of that mark does, in all that can be
-- seen. Both Adds give one answer.
use Rattle.tsc_cache.proofs.Batches.{one_mark_is_an_add}
use Rattle.tsc_cache.proofs.laws.one_mark_is_an_add.Goals as goal

pub returns : goal.returns
returns c = one_mark_is_an_add
