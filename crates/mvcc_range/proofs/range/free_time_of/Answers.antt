-- Proves the contract of `free_time_of`. The earliest time, from one on, that is free of a key that
-- is written.
use Rattle.std.proofs.Common.{◌≡◌, ap, sym, subst}
use Rattle.std.specs.Prelude.{option_map}
use Rattle.timestamp_cache.specs.Words.{KeyBytes}
use Rattle.timestamp_cache.specs.Earliest.{ReportsEarliest}
use Rattle.mvcc_versions.specs.Versions.{Write, chain_of, newest_time, IsAfter}
use Rattle.mvcc_range.specs.Steps.{IsFreeOf}
use Rattle.mvcc_range.proofs.Times.{free_of}
use Rattle.mvcc_range.proofs.range.free_time_of.Goals as goal

pub returns-in-Some : goal.returns-in-Some
returns-in-Some c =
    let cache = c.args.cache.now in
    let chains = c.args.versions.now in
    let w : Write = record {
      key = c.write.inside.key;
      content = option_map (λ b. b.items) c.write.inside.content;
    } in
    subst (λ (x : Write). ReportsEarliest (IsFreeOf cache chains c.args.by x) c.args.from
    c.clear_time.result) c.write.view_is
    (free_of cache chains c.args.by w c.args.from c.in-Some.after c.clear_time.result
    c.in-Some.ensures c.clear_time.ensures)

pub returns-in-None : goal.returns-in-None
returns-in-None c = λ t there on free. let same : c.write.inside.key ≡ c.args.write.now.key
    = ap (λ (x : Write). x.key) c.write.view_is in
    c.in-None.ensures t there on
    (subst (λ (k : KeyBytes). IsAfter (newest_time (chain_of c.args.versions.now k)) t) (sym same)
    free.0)
