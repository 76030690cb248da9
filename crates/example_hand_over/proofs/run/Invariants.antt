-- Proves the loop invariants of `run`. The former holder answers its reads, and the lease of the
-- range is handed on twice.
use Rattle.example_hand_over.proofs.run.Given as goal

-- the former holder's cache and the range, as they are summarized
abbrev pub ghosts-hand_on_twice : goal.ghosts-hand_on_twice
ghosts-hand_on_twice g a = record { cache = a.cache.now; range = a.range.now }
