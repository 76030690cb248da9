-- Proves the contract of `SharedRange::read`. Answers a read of a transaction.
use Rattle.std.proofs.Common.{subst}
use Rattle.mvcc_shared.specs.Answers.{Calls, ReadsAt}
use Rattle.mvcc_shared.specs.Keeping.{client_view}
use Rattle.mvcc_shared.proofs.Making.{kept_called, calls}
use Rattle.mvcc_shared.proofs.shared_range.SharedRange.read.Goals as goal

pub invariant_of-client : goal.invariant_of-client
invariant_of-client g c =
    kept_called c.client.inside.participant c.read.new.who
    (λ old call new. ReadsAt old call new c.args.transaction.now c.read.new.transaction c.args.span.now
    c.args.now c.read.result)
    c.read.ensures.table c.client.invariant c.read.ensures.called

pub returns : goal.returns
returns g c = subst (λ old'. Calls old' (client_view c.read.new.who)
    (λ old call new. ReadsAt old call new c.args.transaction.now c.read.new.transaction c.args.span.now
    c.args.now c.read.result)) c.client.view_is
    (calls c.client.inside.participant c.read.new.who
    (λ old call new. ReadsAt old call new c.args.transaction.now c.read.new.transaction c.args.span.now
    c.args.now c.read.result)
    c.read.ensures.table c.client.invariant c.read.ensures.called)
