-- Each element that is pushed is the next one.
use Rattle.std.proofs.Common.{arith}
use Rattle.std.proofs.lemmas.Grind.{common_steps}
use Rattle.tsc_chunks.proofs.list.copy_of.Goals as goal

pub loop-element-preserved : goal.loop-element-preserved
loop-element-preserved g c = grind (arith, common_steps)
