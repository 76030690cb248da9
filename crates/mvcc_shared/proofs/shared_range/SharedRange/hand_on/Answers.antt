-- Proves the contract of `SharedRange::hand_on`. Hands the range on to a new lease.
use Rattle.std.proofs.Common.{subst}
use Rattle.mvcc_shared.specs.Answers.{Calls, HandsOnAt}
use Rattle.mvcc_shared.specs.Keeping.{client_view}
use Rattle.mvcc_shared.proofs.Making.{kept_called, calls}
use Rattle.mvcc_shared.proofs.shared_range.SharedRange.hand_on.Goals as goal

pub invariant_of-client : goal.invariant_of-client
invariant_of-client g c =
    kept_called c.client.inside.participant c.hand_on.new.who
    (λ old call new. HandsOnAt old call new c.args.config c.args.most c.args.now
    c.hand_on.result)
    c.hand_on.ensures.table c.client.invariant c.hand_on.ensures.called

pub returns : goal.returns
returns g c = subst (λ old'. Calls old' (client_view c.hand_on.new.who)
    (λ old call new. HandsOnAt old call new c.args.config c.args.most c.args.now
    c.hand_on.result)) c.client.view_is
    (calls c.client.inside.participant c.hand_on.new.who
    (λ old call new. HandsOnAt old call new c.args.config c.args.most c.args.now
    c.hand_on.result)
    c.hand_on.ensures.table c.client.invariant c.hand_on.ensures.called)
