-- Neither clear nor own, so the next time.
use Rattle.std.proofs.Common.{◌≡◌, ◌∙◌, rules, sym, true≢false, Some}
use Rattle.timestamp_cache.specs.Clear.{IsClearOf}
use Rattle.timestamp_cache.proofs.Earliest.{clear_from_next}
use Rattle.timestamp_cache.proofs.clear.earliest_clear_of.Goals as goal

pub returns : goal.returns
returns c =
    let strange : c.args.read.owner ≡ Some c.args.by → ⊥ = search rules in
    let not_clear : IsClearOf c.args.read c.args.by c.args.at → ⊥ =
    λ clear. true≢false (sym (c.is_clear_of.ensures.1 clear) ∙ c.if-is_clear_of.false) in
    clear_from_next c.args.read c.args.by c.args.at c.time-last.result c.next_time.result strange
    not_clear c.time-last.ensures c.next_time.ensures

pub returns-then-eq : goal.returns-then-eq
returns-then-eq c = search rules
