-- Proves the contract of `because`. What a key was read by, as the cache answers.
use Rattle.std.proofs.Common.{sym}
use Rattle.example_lease_holder.proofs.because.Goals as goal

pub returns-in-None : goal.returns-in-None
returns-in-None c = rw (sym c.in-None.ensures, sym c.time.ensures) c.format-in-None.ensures.ok
