-- The call that was made last on a range, as the slot keeps it.
use Rattle.mvcc_shared.specs.declared.served.PendingCall.{PendingCall}
use Rattle.mvcc_shared.specs.declared.served.PendingCall.TheVariants.{Read, End, HandOn, Collect, Refuse}
use Rattle.mvcc_shared.specs.History.{Call, has_read, has_ended, has_handed_on, has_collected, was_refused}

-- what a pending call did
abbrev pub call_of : PendingCall → Call
call_of (Read before after span now) = has_read before.value after.value span.value now
call_of (End t now outcome) = has_ended t.value now outcome
call_of (HandOn config) = has_handed_on config
call_of (Collect before) = has_collected before
call_of Refuse = was_refused
