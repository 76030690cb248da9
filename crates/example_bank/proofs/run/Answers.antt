-- Proves the contract of `run`. The clerk's client is of the bank, as those of the tellers are.
use Rattle.std.proofs.Common.{◌≡◌}
use Rattle.mvcc_shared.specs.Clients.{ClientView}
use Rattle.example_bank.proofs.Serving.{and_one_more}
use Rattle.example_bank.proofs.run.Goals as goal

pub close-requires-clause-clients : goal.close-requires-clause-clients
close-requires-clause-clients g c =
    and_one_more (λ (client : ClientView). client.range ≡ c.in_ok-bank.bank)
    c.in_ok-tally.clients.items c.push.new.self.items c.in_ok-clerk.clerk
    c.in_ok-push.ensures.items c.in_ok-tally.ensures c.in_ok-clerk.ensures
