-- Proves the contract of `sees_commits`. A read answers with what all commits up to its time leave.
use Rattle.mvcc_shared.proofs.Lawful.{sees_commits}
use Rattle.mvcc_shared.proofs.laws.sees_commits.Goals as goal

pub returns : goal.returns
returns c = sees_commits
