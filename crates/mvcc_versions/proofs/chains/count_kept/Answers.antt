-- Proves the contract of `count_kept`. How many versions of a key are of use from a time on.
use Rattle.std.proofs.Common.{◌≡◌, ◌∙◌, ◌+◌, ap, sym, take, ℕ, true, false}
use Rattle.timestamp_cache.specs.Words.{is_before}
use Rattle.mvcc_versions.proofs.Dropping.{saturating_inc, kept_last}
use Rattle.mvcc_versions.proofs.chains.count_kept.Goals as goal

pub loop-version-preserved : goal.loop-version-preserved
loop-version-preserved c =
    let v = c.in-Some.version.now in
    let late : is_before v.at c.args.from ≡ false = sym c.is_earlier.ensures
    ∙ c.if-is_earlier.false in
    let on = saturating_inc c.args.chain.now c.loop-version.version-iterator c.next.new.self v
    c.loop-version.count c.args.from c.in-Some.ensures.steps late c.loop-version.invariant.counted
    c.loop-version.invariant.parts c.loop-version.invariant.kept in
    record { counted = on.0; parts = on.1; kept = on.2 }

pub returns-then-is_earlier-clause-kept : goal.returns-then-is_earlier-clause-kept
returns-then-is_earlier-clause-kept c =
    let v = c.in-Some.version.now in
    let vs = c.args.chain.now in
    let early : is_before v.at c.args.from ≡ true = sym c.is_earlier.ensures
    ∙ c.if-is_earlier.true in
    ap (λ (n : ℕ). take (c.loop-version.count + n) vs) c.count_unless_deletion.ensures
    ∙ kept_last vs c.loop-version.version-iterator c.next.new.self v c.loop-version.count
    c.args.from c.in-Some.ensures.steps early c.loop-version.invariant.parts
    c.loop-version.invariant.kept
