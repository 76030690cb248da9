-- Proves the contract of `strict_by_times`. Who commits later comes after it in the serial order.
use Rattle.mvcc_shared.proofs.Lawful.{strict_by_times}
use Rattle.mvcc_shared.proofs.laws.strict_by_times.Goals as goal

pub returns : goal.returns
returns c = strict_by_times
