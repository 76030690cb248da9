-- Two UUIDs of one number are the same.
use Rattle.tsc_time.proofs.SameNumber.{is_same_number}
use Rattle.tsc_time.proofs.value.same_uuid.Goals as goal

pub returns : goal.returns
returns c = is_same_number c.args.a c.args.b _ _ c.bytes_of-first.ensures.long
    c.bytes_of-second.ensures.long c.bytes_of-first.ensures.small c.bytes_of-second.ensures.small
    c.as_u128.ensures c.as_u128-2.ensures
