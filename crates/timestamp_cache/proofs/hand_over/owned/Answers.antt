-- Proves the contract of `owned`. Makes the span between two cuts, with keys of its own.
use Rattle.std.proofs.Common.{◌∙◌, rules}
use Rattle.tsc_span.specs.Cuts.{cut_of}
use Rattle.timestamp_cache.proofs.Walking.{between_own_keys}
use Rattle.timestamp_cache.proofs.hand_over.owned.Goals as goal

pub returns-in_ok-own_key-in-Some : goal.returns-in_ok-own_key-in-Some
returns-in_ok-own_key-in-Some c =
    c.for_lookup.ensures
    ∙ between_own_keys (cut_of c.args.from) (cut_of c.args.to) c.start_of.result.now
    c.in-Some.end.now c.in_ok-start.start c.in_ok-own_key-in-Some.field-0
    c.ends_of-ends.result.exclude_from c.ends_of-ends.result.exclude_to
    c.start_of.ensures (search rules) c.requires (search rules) (search rules)
    c.ends_of-ends.ensures.from c.ends_of-ends.ensures.to
