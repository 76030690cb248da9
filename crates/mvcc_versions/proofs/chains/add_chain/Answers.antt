-- Proves the contract of `add_chain`. Adds a chain without versions for a key that has none.
use Rattle.std.proofs.Common.{subst, Some, List, []}
use Rattle.std.specs.BTreeMap.{Updates}
use Rattle.tsc_span.specs.Span.{key_cmp}
use Rattle.timestamp_cache.specs.Words.{KeyBytes}
use Rattle.mvcc_versions.specs.Versions.{Version}
use Rattle.mvcc_versions.proofs.Linking.{added}
use Rattle.mvcc_versions.proofs.chains.add_chain.Goals as goal

pub returns-clause-same : goal.returns-clause-same
returns-clause-same c =
    let m = c.args.chains.now in
    let n = c.insert.new.self in
    let u : Updates key_cmp m n c.args.key.now (Some []) =
    subst (λ (k : KeyBytes). Updates key_cmp m n k (Some [])) c.in_ok-key.ensures
    (subst (λ (vs : List Version). Updates key_cmp m n c.in_ok-key.key (Some vs))
    c.new-chain.ensures c.in_ok-insert.ensures.updates) in
    added m n c.args.key.now c.requires u
