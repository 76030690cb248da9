-- No key is below the empty one.
use Rattle.tsc_span.proofs.AllKeys.{all_covers_each}
use Rattle.tsc_span.proofs.laws.all_covers_each_key.Goals as goal

pub returns : goal.returns
returns c = all_covers_each
