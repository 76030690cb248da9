-- Proves the contract of `Stripe::add`. It adds in place, or by the next version.
use Rattle.std.proofs.Common.{◌≡◌, subst, rules}
use Rattle.std.specs.Prelude.{Option, None, OnOk}
use Rattle.tsc_page_model.specs.Page.{Mark}
use Rattle.tsc_cache.specs.declared.added.Added.{Added}
use Rattle.tsc_cache.specs.CacheView.{CacheView, StandsAfter, AddsWithoutRotation}
use Rattle.tsc_cache.proofs.AddsSeen.{adds_are_steps}
use Rattle.tsc_cache.proofs.WithoutRotation.{made_in_place}
use Rattle.tsc_stripe_table.proofs.stripe.Stripe.add.Goals as goal

pub returns-in-Some-clause-stands : goal.returns-in-Some-clause-stands
returns-in-Some-clause-stands c =
    let m : Mark = record { span = c.args.span.now; value = c.args.value } in
    adds_are_steps.stands c.args.self.now.cache c.add_without_rotation.new.self m c.args.now
    c.in-Some.added
    (made_in_place c.args.self.now.cache c.add_without_rotation.new.self m c.in_ok-added.field-0
    c.in-Some.added c.in-Some.is c.in_ok-added.ensures.seen c.args.now)

pub returns-in-Some-clause-made : goal.returns-in-Some-clause-made
returns-in-Some-clause-made c =
    let m : Mark = record { span = c.args.span.now; value = c.args.value } in (
      adds_are_steps.answers c.args.self.now.cache c.add_without_rotation.new.self m c.args.now
          c.in-Some.added
          (made_in_place c.args.self.now.cache c.add_without_rotation.new.self m
          c.in_ok-added.field-0 c.in-Some.added c.in-Some.is c.in_ok-added.ensures.seen c.args.now),
      tt,
    )

pub returns-clause-stands : goal.returns-clause-stands
returns-clause-stands c =
    let m : Mark = record { span = c.args.span.now; value = c.args.value } in
    let none : c.in_ok-added.field-0 ≡ None = search rules in
    let seen = subst (λ (r : Option Added). AddsWithoutRotation c.args.self.now.cache
    c.add_without_rotation.new.self m r) none c.in_ok-added.ensures.seen in
    subst (λ (v : CacheView). OnOk c.add_by_version.result
    (StandsAfter v c.add_by_version.new.self.cache m c.args.now)) seen.1
    c.add_by_version.ensures.stands
