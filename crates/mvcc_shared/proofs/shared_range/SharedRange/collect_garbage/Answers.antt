-- Proves the contract of `SharedRange::collect_garbage`. Drops old versions.
use Rattle.std.proofs.Common.{subst}
use Rattle.mvcc_shared.specs.Answers.{Calls, CollectsAt}
use Rattle.mvcc_shared.specs.Keeping.{client_view}
use Rattle.mvcc_shared.proofs.Making.{kept_called, calls}
use Rattle.mvcc_shared.proofs.shared_range.SharedRange.collect_garbage.Goals as goal

pub invariant_of-client : goal.invariant_of-client
invariant_of-client g c =
    kept_called c.client.inside.participant c.collect_garbage.new.who
    (λ old call new. CollectsAt old call new c.args.before)
    c.collect_garbage.ensures.table c.client.invariant c.collect_garbage.ensures.called

pub returns : goal.returns
returns g c = subst (λ old'. Calls old' (client_view c.collect_garbage.new.who)
    (λ old call new. CollectsAt old call new c.args.before)) c.client.view_is
    (calls c.client.inside.participant c.collect_garbage.new.who
    (λ old call new. CollectsAt old call new c.args.before)
    c.collect_garbage.ensures.table c.client.invariant c.collect_garbage.ensures.called)
