-- Proves the contract of `next_version`. The cache in hand after what lies of a batch there.
use Rattle.std.proofs.Common.{◌≡◌, ◌∙◌, ◌≤◌, sym, ap, subst}
use Rattle.tsc_cache.specs.CacheView.{CacheView}
use Rattle.tsc_stripe_table.specs.declared.stripe.Stripe.{Stripe}
use Rattle.tsc_stripe_table.specs.Stripes.{marks_in}
use Rattle.tsc_stripe_table.specs.Rule.{StoredStripe}
use Rattle.tsc_striped.specs.Limits.{least_page_max}
use Rattle.tsc_striped.proofs.Holding.{same_in_hand}
use Rattle.tsc_striped.proofs.Sizes.{small_fit}
use Rattle.tsc_striped.proofs.Batches.{is_version_of}
use Rattle.tsc_striped.proofs.wide_adds.next_version.Goals as goal

pub next_all-requires : goal.next_all-requires
next_all-requires c =
    let has = c.requires.has.1 in
    let same = same_in_hand c.args.who.now.me.1 c.args.stripe c.args.stripe c.requires.has.0
    c.slot_mut-stored.result.now _ _ has.hand c.slot_mut-stored.ensures.value in
    let old = ap (λ (y : StoredStripe). y.value.cache) same
    ∙ sym (ap (λ (y : Stripe). y.cache) c.deref.ensures) in record {
      fits = small_fit c.deref.result.now.cache.config c.pieces_in.result.now
          (subst (λ (v : CacheView). least_page_max ≤ v.config.page_max) old
          (c.requires.room c.requires.has.0 has)) c.pieces_in.ensures.small;
    }

pub returns-clause-made : goal.returns-clause-made
returns-clause-made c x has cut =
    let pieces = c.pieces_in.ensures.there c.args.who.now.me.0.setup.bounds cut in
    let same = same_in_hand c.args.who.now.me.1 c.args.stripe c.args.stripe x
    c.slot_mut-stored.result.now _ _ has.hand c.slot_mut-stored.ensures.value in
    let here = ap (λ (y : Stripe). y.cache) c.deref.ensures in
    let old : x.value.cache ≡ c.deref.result.now.cache =
    ap (λ (y : StoredStripe). y.value.cache) same ∙ sym here in
    is_version_of c.deref.result.now.cache x.value.cache c.pieces_in.result.now
    (marks_in c.args.who.now.me.0.setup.bounds c.args.stripe c.args.batch.now.marks.items)
    c.args.batch.now.moment c.next_all.result (sym old) pieces c.next_all.ensures.stands
    c.next_all.ensures.added
