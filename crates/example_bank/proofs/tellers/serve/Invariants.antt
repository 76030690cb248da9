-- Proves the loop invariants of `serve`. The desk stays at its bank.
use Rattle.std.proofs.Common.{◌≡◌}
use Rattle.example_bank.proofs.tellers.serve.Given as goal

abbrev pub invariant-loop-turn : goal.invariant-loop-turn
invariant-loop-turn g l = l.desk.bank.now ≡ l.bank
