-- Proves the contract of `CallParts::call`. Makes the call that the members are. It takes what the
-- call has out of the members.
use Rattle.tsc_trace_fast.proofs.CallMembers.{is_add, is_batch, is_get, is_low}
use Rattle.tsc_trace_fast.proofs.quick.call.CallParts.call.Goals as goal

pub returns-in-add : goal.returns-in-add
returns-in-add c = is_add c.args.self.now c.in_ok-self.field-0 (cc) c.add.result (cc) c.add.ensures

pub returns-in-batch : goal.returns-in-batch
returns-in-batch c = is_batch c.args.self.now c.in_ok-self.field-0 (cc) c.batch.result (cc)
    c.batch.ensures

pub returns-in-get : goal.returns-in-get
returns-in-get c = is_get c.args.self.now c.in_ok-self.field-0 (cc) c.get.result (cc) c.get.ensures

pub returns-in-low : goal.returns-in-low
returns-in-low c = is_low c.args.self.now c.in_ok-self.field-0 (cc) c.low.result (cc) c.low.ensures
