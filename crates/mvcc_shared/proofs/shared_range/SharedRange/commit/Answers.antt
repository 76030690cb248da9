-- Proves the contract of `SharedRange::commit`. Commits a transaction.
use Rattle.std.proofs.Common.{subst}
use Rattle.mvcc_shared.specs.Answers.{Calls, EndsAt}
use Rattle.mvcc_shared.specs.Keeping.{client_view}
use Rattle.mvcc_shared.proofs.Making.{kept_called, calls}
use Rattle.mvcc_shared.proofs.shared_range.SharedRange.commit.Goals as goal

pub invariant_of-client : goal.invariant_of-client
invariant_of-client g c =
    kept_called c.client.inside.participant c.commit.new.who
    (λ old call new. EndsAt old call new c.args.transaction c.args.now c.commit.result)
    c.commit.ensures.table c.client.invariant c.commit.ensures.called

pub returns : goal.returns
returns g c = subst (λ old'. Calls old' (client_view c.commit.new.who)
    (λ old call new. EndsAt old call new c.args.transaction c.args.now c.commit.result)) c.client.view_is
    (calls c.client.inside.participant c.commit.new.who
    (λ old call new. EndsAt old call new c.args.transaction c.args.now c.commit.result)
    c.commit.ensures.table c.client.invariant c.commit.ensures.called)
