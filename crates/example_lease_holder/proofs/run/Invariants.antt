-- Proves the loop invariants of `run`. Opens a cache for the range, with a seat for each key and
-- for each plan, and has each plan served.
use Rattle.example_lease_holder.proofs.run.Given as goal

-- the cache that was just opened
abbrev pub ghosts-serve : goal.ghosts-serve
ghosts-serve g a = record { cache = a.cache }
