-- Proves the contract of `no_write_skew`. Who comes later reads what the earlier one wrote.
use Rattle.mvcc_shared.proofs.Meeting.{no_write_skew}
use Rattle.mvcc_shared.proofs.laws.no_write_skew.Goals as goal

pub returns : goal.returns
returns c = no_write_skew
