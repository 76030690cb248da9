-- Proves the contract of `Bank::close`. The log of the range can be replayed.
use Rattle.example_bank.proofs.Replaying.{can_be_replayed}
use Rattle.example_bank.proofs.bank.Bank.close.Goals as goal

pub returns : goal.returns
returns c =
    can_be_replayed c.histories_run.ensures c.textbook_serializable.ensures c.args.dealer
    c.args.clients.items c.in-Ok.closed c.in-Ok.ensures.closed
