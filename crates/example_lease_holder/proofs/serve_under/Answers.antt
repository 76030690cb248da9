-- Proves the contract of `serve_under`. Serves a range under its lease.
use Rattle.std.proofs.lemmas.Result.{IfOk-weaker}
use Rattle.example_lease_holder.proofs.Turns.{all_served}
use Rattle.example_lease_holder.proofs.serve_under.Goals as goal

pub returns : goal.returns
returns g c =
    IfOk-weaker c.left_of.result _ _
    (λ left leaves. all_served c.args.plans.now c.in_ok-workers.workers.items
    c.in_ok-again.again.items left.items c.in_ok-workers.ensures c.in_ok-again.ensures leaves)
    c.left_of.ensures
