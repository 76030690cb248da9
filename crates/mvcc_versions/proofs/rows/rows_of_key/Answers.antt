-- Proves the contract of `rows_of_key`. The row of a key as of a time, if it has something then.
use Rattle.std.proofs.Common.{sym, subst, List}
use Rattle.std.specs.Prelude.{option_map}
use Rattle.timestamp_cache.specs.Words.{point}
use Rattle.mvcc_versions.specs.Versions.{Row, as_of, Matches}
use Rattle.mvcc_versions.proofs.RowsAsOf.{key_matches}
use Rattle.mvcc_versions.proofs.rows.rows_of_key.Goals as goal

pub returns : goal.returns
returns c =
    let q = c.args.key.now in
    let there = as_of c.args.at c.args.chains.now.entries in
    subst (λ (rs : List Row). Matches (record { span = point q; rows = rs }) there)
    (sym c.in_ok-rows.ensures)
    (key_matches q (option_map (λ b. b.now.items) c.content_at.result) there c.content_at.ensures)
