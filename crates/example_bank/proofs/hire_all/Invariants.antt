-- Proves the loop invariants of `hire_all`. Each teller so far has a client of the bank.
use Rattle.std.proofs.Common.{◌≡◌}
use Rattle.std.specs.Prelude.{All}
use Rattle.example_bank.proofs.hire_all.Given as goal

abbrev pub invariant-loop-number : goal.invariant-loop-number
invariant-loop-number l = (l.dealer.range ≡ l.bank)
    × All (λ teller. teller.client.range ≡ l.bank) l.tellers.items
