-- Proves the contract of `take_turns`. Has all threads read, write, and read again.
use Rattle.std.proofs.lemmas.Result.{IfOk-weaker}
use Rattle.example_lease_holder.proofs.Turns.{turns_taken}
use Rattle.example_lease_holder.proofs.take_turns.Goals as goal

pub returns : goal.returns
returns g c =
    IfOk-weaker c.all_do-3.result _ _
    (λ again reads. turns_taken c.args.workers.items c.in_ok-first.first.items
    c.in_ok-then.then.items again.items c.in_ok-first.ensures c.in_ok-then.ensures reads)
    c.all_do-3.ensures
