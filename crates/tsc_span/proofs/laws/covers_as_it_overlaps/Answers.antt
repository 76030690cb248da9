-- A span covers a key exactly where it overlaps the single key.
use Rattle.tsc_span.proofs.Overlaps.{covers_as_it_overlaps}
use Rattle.tsc_span.proofs.laws.covers_as_it_overlaps.Goals as goal

pub returns : goal.returns
returns c = covers_as_it_overlaps
