-- Proves the contract of `stretch`. The span between two cuts.
use Rattle.std.proofs.Common.{◌∙◌}
use Rattle.tsc_span.specs.Cuts.{cut_of}
use Rattle.timestamp_cache.proofs.Walking.{between_keys}
use Rattle.timestamp_cache.proofs.hand_over.stretch.Goals as goal

pub returns : goal.returns
returns c =
    let is = between_keys (cut_of c.args.from) (cut_of c.args.to) c.start_of.result.now
    c.start_of.ensures c.requires in
    c.between.ensures ∙ rw (c.key_of.ensures, c.ends_of.ensures.from, c.ends_of.ensures.to) is
