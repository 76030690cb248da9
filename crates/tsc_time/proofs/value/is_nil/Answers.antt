-- The number of the bytes is zero just where they all are.
use Rattle.tsc_time.proofs.ZeroBytes.{is_zero_number}
use Rattle.tsc_time.proofs.value.is_nil.Goals as goal

pub returns-clause-value : goal.returns-clause-value
returns-clause-value c = is_zero_number c.args.uuid _ c.bytes_of-bytes.ensures.long
    c.as_u128.ensures
