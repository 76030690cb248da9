-- Proves the loop invariants of `gather`. The states of all clients come to a participant.
use Rattle.std.proofs.Common.{◌≡◌, ◌++◌, [], List, map}
use Rattle.mvcc_shared.specs.Rule.{keeping}
use Rattle.mvcc_shared.specs.Clients.{ClientView}
use Rattle.mvcc_shared.specs.Keeping.{state_of_client}
use Rattle.mvcc_shared.proofs.closing.gather.Given as goal

abbrev pub invariant-loop-client : goal.invariant-loop-client
invariant-loop-client l =
    (taken : List ClientView) × (l.fn.clients.items ≡ l.clients.items ++ taken)
    × (l.all.table_id ≡ l.fn.shared.table_id) × (l.shared ≡ l.fn.shared)
    × (l.all.me ≡ (keeping l.all.me.0.setup (map state_of_client taken ++ l.fn.others.me.0.states), []))

abbrev pub decreases-loop-client : goal.decreases-loop-client
decreases-loop-client l = goal.left-loop-client l
