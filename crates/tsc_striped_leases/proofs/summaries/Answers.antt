-- Proves the contract of `summaries`. A summary of each cache of a snapshot.
use Rattle.std.proofs.Common.{◌≡◌, ◌∙◌, ◌∷◌, ◌+◌, ◌≤◌, ap, refl, sym, subst, drop, length, List, arith}
use Rattle.tsc_span.specs.Span.{SpanView}
use Rattle.tsc_cache.specs.CacheView.{CacheView}
use Rattle.tsc_stripe_table.specs.Stripes.{stripe_count}
use Rattle.timestamp_cache.specs.HandOver.{Summarizes}
use Rattle.timestamp_cache.proofs.Rows.{left_at, none_left}
use Rattle.tsc_striped_leases.specs.Leases.{SummarizeFrom}
use Rattle.tsc_striped_leases.proofs.Leases.{none_summed, one_more_summed, stripe_there}
use Rattle.tsc_striped_leases.proofs.Leases.{some_left, all_summed}
use Rattle.tsc_striped_leases.proofs.summaries.Goals as goal

pub loop-copy-init : goal.loop-copy-init
loop-copy-init c =
    none_summed c.args.cache.now.terms.bounds c.args.span.now c.args.most c.args.snapshot.now.first
    c.deref-copy-items.result.now c.deref-copy-items.result.now c.new-reported.result.items
    c.new-reported.ensures.items refl

pub piece_of-requires : goal.piece_of-requires
piece_of-requires c =
    let caches = c.deref-copy-items.result.now in
    let bounds = c.args.cache.now.terms.bounds in
    record {
      stripe = stripe_there bounds c.args.span.now c.args.most c.args.snapshot.now.first
          (stripe_count bounds) caches (drop c.loop-copy.copy-index caches)
          c.loop-copy.reported.items c.loop-copy.stripe c.loop-copy.invariant
          (subst (λ (xs : List CacheView). c.args.snapshot.now.first + length xs
          ≤ stripe_count bounds) (sym c.deref-copy-items.ensures.value) c.requires)
          (some_left caches c.loop-copy.copy-index c.loop-copy-test.true);
    }

pub overflow_add-stripe : goal.overflow_add-stripe
overflow_add-stripe c =
    let caches = c.deref-copy-items.result.now in
    let bounds = c.args.cache.now.terms.bounds in
    let low = stripe_there bounds c.args.span.now c.args.most c.args.snapshot.now.first
    (stripe_count bounds) caches (drop c.loop-copy.copy-index caches) c.loop-copy.reported.items
    c.loop-copy.stripe c.loop-copy.invariant
    (subst (λ (xs : List CacheView). c.args.snapshot.now.first + length xs ≤ stripe_count bounds)
    (sym c.deref-copy-items.ensures.value) c.requires)
    (some_left caches c.loop-copy.copy-index c.loop-copy-test.true) in
    omega (arith, low, c.stripes-stripes.ensures.value, c.stripes-stripes.type_inv)

pub loop-copy-preserved : goal.loop-copy-preserved
loop-copy-preserved c =
    let caches = c.deref-copy-items.result.now in
    let i = c.loop-copy.copy-index in
    let x = c.copy-item.result in
    let left : drop i caches ≡ x ∷ drop (i + 1) caches =
    left_at caches i _ c.loop-copy-test.true
    ∙ ap (λ (y : CacheView). y ∷ drop (i + 1) caches) (sym c.copy-item.is) in
    one_more_summed c.args.cache.now.terms.bounds c.args.span.now c.args.most
    c.args.snapshot.now.first caches (drop i caches) (drop (i + 1) caches)
    c.loop-copy.reported.items
    c.push.new.self.items c.loop-copy.stripe (c.loop-copy.stripe + 1) x c.in_ok-one.one
    c.loop-copy.invariant left c.in_ok-push.ensures.items refl
    (subst (λ (p : SpanView). Summarizes x p c.args.most c.in_ok-one.one) c.in_ok-piece.ensures
    c.in_ok-one.ensures)

pub returns : goal.returns
returns c =
    let caches = c.deref-copy-items.result.now in
    let bounds = c.args.cache.now.terms.bounds in
    let all = all_summed bounds c.args.span.now c.args.most c.args.snapshot.now.first caches
    (drop c.loop-copy.copy-index caches) c.loop-copy.reported.items c.loop-copy.stripe
    c.loop-copy.invariant (none_left caches c.loop-copy.copy-index c.loop-copy-test.false) in
    subst (λ (xs : List CacheView). SummarizeFrom bounds c.args.span.now c.args.most
    c.args.snapshot.now.first xs c.loop-copy.reported.items) c.deref-copy-items.ensures.value all
