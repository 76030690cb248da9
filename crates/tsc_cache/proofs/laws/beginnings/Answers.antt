-- A history begins with itself and with all that a beginning of it begins with, and has each entry
-- of a beginning; a beginning of a legal history is legal.
use Rattle.tsc_cache.proofs.Beginnings.{beginnings}
use Rattle.tsc_cache.proofs.laws.beginnings.Goals as goal

pub returns : goal.returns
returns c = beginnings
