-- A stretch stops at a side of the least key above its cut, or at the third cut.
use Rattle.std.proofs.Common.{◌∙◌, sym, option_map}
use Rattle.tsc_span.specs.Cuts.{cut_of}
use Rattle.tsc_cache.specs.Keys.{keys_seen}
use Rattle.timestamp_cache.proofs.Walking.{stretch_to_key, stretch_to_third}
use Rattle.timestamp_cache.proofs.hand_over.stretch_end.Goals as goal

pub returns-then-is_below : goal.returns-then-is_below
returns-then-is_below c =
    stretch_to_key (keys_seen c.args.cache.now.pages) (cut_of c.args.at) (cut_of c.args.to)
    (cut_of c.end_of-end.result) (option_map (λ k. k.now) c.key_above.result)
    c.requires c.key_above.ensures.value c.end_of-end.ensures
    (sym c.is_below.ensures ∙ c.if-is_below.true)

pub returns-else-is_below : goal.returns-else-is_below
returns-else-is_below c =
    stretch_to_third (keys_seen c.args.cache.now.pages) (cut_of c.args.at) (cut_of c.args.to)
    (cut_of c.end_of-end.result) (option_map (λ k. k.now) c.key_above.result)
    c.requires c.key_above.ensures.value c.end_of-end.ensures
    (sym c.is_below.ensures ∙ c.if-is_below.false)
