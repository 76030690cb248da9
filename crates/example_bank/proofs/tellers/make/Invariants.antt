-- Proves the loop invariants of `make`. The desk stays at its bank.
use Rattle.std.proofs.Common.{◌≡◌}
use Rattle.example_bank.proofs.tellers.make.Given as goal

abbrev pub invariant-loop : goal.invariant-loop
invariant-loop g l =
    (goal.iterator-loop g).can_next l.iterator' × (goal.iterator-loop g).is_finite l.iterator'
    × (l.desk.bank ≡ l.fn.desk.bank)
