-- Proves the contract of `all_do`. Has all threads take a turn at once. Then it prints what the
-- threads tell, in their order.
use Rattle.std.proofs.lemmas.Result.{IfOk-weaker}
use Rattle.example_lease_holder.proofs.Turns.{have_reported}
use Rattle.example_lease_holder.proofs.all_do.Goals as goal

pub returns : goal.returns
returns g c =
    IfOk-weaker c.all_report.result _ _
    (λ after spoken. have_reported c.args.turn c.args.workers.items after.items
    c.in_ok-ended.ended.items c.in_ok-ended.ensures spoken) c.all_report.ensures
