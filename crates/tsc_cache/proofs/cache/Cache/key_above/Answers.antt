-- The pages tell, and those that they stand for have the same keys.
use Rattle.std.proofs.Common.{subst}
use Rattle.std.specs.Prelude.{Option, option_map}
use Rattle.tsc_span.specs.Span.{KeyBytes, Cut}
use Rattle.tsc_span.specs.Cuts.{cut_of}
use Rattle.tsc_page_model.specs.KeysAbove.{IsLeastAbove}
use Rattle.tsc_page.proofs.KeysAbove.{least_among_same}
use Rattle.tsc_cache.specs.CacheView.{CacheView}
use Rattle.tsc_cache.specs.Keys.{keys_on, keys_seen}
use Rattle.tsc_cache.proofs.KeysReported.{same_keys}
use Rattle.tsc_cache.proofs.cache.Cache.key_above.Goals as goal

pub returns : goal.returns
returns c =
    let cut : Cut = cut_of c.args.cut in
    let reported : Option KeyBytes = option_map (λ k. k.now) c.key_above.result in
    let seen = subst (λ (v : CacheView). IsLeastAbove cut (keys_seen v.pages) reported)
    c.self.view_is
    c.key_above.ensures in
    record {
      value = seen;
      stands = λ config s is. least_among_same cut
          (keys_seen c.args.self.now.pages) (keys_on s.pages)
          (same_keys c.args.self.now.pages s.pages is.pages) reported seen;
    }
