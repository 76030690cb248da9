-- The span's cost beside the size of the largest page.
use Rattle.std.proofs.Common.{rules}
use Rattle.tsc_cache.proofs.config.Config.fits_ref.Goals as goal

pub returns : goal.returns
returns c = search rules
