-- Proves the loop invariants of `gather`. Each client so far is of the bank, and so is that of each
-- teller that is left.
use Rattle.std.proofs.Common.{◌≡◌}
use Rattle.std.specs.Prelude.{All, IfOk}
use Rattle.example_bank.proofs.gather.Given as goal

abbrev pub invariant-loop-end : goal.invariant-loop-end
invariant-loop-end l = All (λ client. client.range ≡ l.bank) l.clients.items
    × All (λ end. IfOk end (λ teller. teller.client.range ≡ l.bank)) l.end-iterator.rest.items
