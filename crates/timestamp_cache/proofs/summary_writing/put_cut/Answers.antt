-- Proves the contract of `put_cut`. Appends a place between keys.
use Rattle.std.proofs.Common.{rules}
use Rattle.timestamp_cache.proofs.summary_writing.put_cut.Goals as goal

pub returns-in-After : goal.returns-in-After
returns-in-After c = search rules
