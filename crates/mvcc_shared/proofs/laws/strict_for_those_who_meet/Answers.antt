-- Proves the contract of `strict_for_those_who_meet`. A later commit comes after one that was seen.
use Rattle.mvcc_shared.proofs.Meeting.{strict_for_those_who_meet}
use Rattle.mvcc_shared.proofs.laws.strict_for_those_who_meet.Goals as goal

pub returns : goal.returns
returns c = strict_for_those_who_meet
