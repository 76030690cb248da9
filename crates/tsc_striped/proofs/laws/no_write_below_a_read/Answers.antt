-- A write that is clear of an answer is clear of each read below it.
use Rattle.tsc_striped.proofs.Histories.{no_write_below_a_read_over}
use Rattle.tsc_striped.proofs.laws.no_write_below_a_read.Goals as goal

pub returns : goal.returns
returns c = no_write_below_a_read_over
