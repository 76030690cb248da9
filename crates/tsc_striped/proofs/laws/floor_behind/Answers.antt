-- No floor runs ahead of its window.
use Rattle.tsc_striped.proofs.Histories.{floor_behind_over}
use Rattle.tsc_striped.proofs.laws.floor_behind.Goals as goal

pub returns : goal.returns
returns c = floor_behind_over
