-- Proves the contract of `run`. The former holder answers its reads, and the lease of the range is
-- handed on twice.
use Rattle.std.specs.List.{AllZip}
use Rattle.example_hand_over.specs.Answered.{IsPushed, IsClear}
use Rattle.example_hand_over.proofs.Answered.{clear_of_table}
use Rattle.timestamp_cache.proofs.Rows.{if_ok_as, zip_as}
use Rattle.example_hand_over.proofs.run.Goals as goal

pub returns-clause-first : goal.returns-clause-first
returns-clause-first g c =
    let cache = c.in_ok-cache.cache in
    let range = c.args.range.now in
    let reads = c.args.tables.reads.now in
    let writes = c.args.tables.writes.now in
    if_ok_as (λ reported. AllZip (IsPushed cache range) writes reported.0.items)
    (λ reported. AllZip (IsClear reads range) writes reported.0.items) c.hand_on_twice.result
    (λ reported. zip_as (IsPushed cache range) (IsClear reads range) writes reported.0.items
    (λ write at. clear_of_table cache reads range write at c.in_ok-cache.ensures))
    c.hand_on_twice.ensures.first

pub returns-clause-second : goal.returns-clause-second
returns-clause-second g c =
    let cache = c.in_ok-cache.cache in
    let range = c.args.range.now in
    let reads = c.args.tables.reads.now in
    let writes = c.args.tables.writes.now in
    if_ok_as (λ reported. AllZip (IsPushed cache range) writes reported.1.items)
    (λ reported. AllZip (IsClear reads range) writes reported.1.items) c.hand_on_twice.result
    (λ reported. zip_as (IsPushed cache range) (IsClear reads range) writes reported.1.items
    (λ write at. clear_of_table cache reads range write at c.in_ok-cache.ensures))
    c.hand_on_twice.ensures.second
