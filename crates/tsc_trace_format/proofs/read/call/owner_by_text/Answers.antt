-- Proves the contract of `owner_by_text`. The owner that a text names.
use Rattle.tsc_trace_format.proofs.Owners.{an_owner, no_owner}
use Rattle.tsc_trace_format.proofs.read.call.owner_by_text.Goals as goal

pub returns-in-Ok : goal.returns-in-Ok
returns-in-Ok c = an_owner c.args.text.now c.in-Ok.uuid c.in-Ok.ensures.bytes

pub returns-in-Err : goal.returns-in-Err
returns-in-Err c = no_owner c.args.text.now
    (λ uuid is. let h = c.in-Err.ensures.ok.1 (uuid, is) in cc)
