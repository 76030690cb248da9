-- Proves the contract of `look_under_all`. What a lookup answers in the stripes from the first to the
-- last, under all of their locks.
use Rattle.std.proofs.Common.{◌∙◌, ◌∷◌, ◌<◌, ◌+◌, ◌-◌, sym, ap, subst, arith}
use Rattle.atomic_table.specs.Table.{rest}
use Rattle.tsc_stripe_table.specs.declared.stripe.Stripe.{Stripe}
use Rattle.tsc_stripe_table.specs.Rule.{StoredStripe}
use Rattle.tsc_stripe_table.specs.Stripes.{stripe_count, state_on, IsStateOn}
use Rattle.tsc_stripe_table.specs.Participating.{IsSized}
use Rattle.tsc_striped.specs.Looks.{look_from}
use Rattle.tsc_striped.proofs.Holding.{acquired_is, can_acquire, in_hand, same_in_hand}
use Rattle.tsc_striped.proofs.Several.{looks_more, can_acquire_next, holds_some, has_reached}
use Rattle.tsc_striped.proofs.Several.{can_release_on, looked_on, back_at_rest, same_there}
use Rattle.tsc_striped.proofs.wide.look_under_all.Goals as goal

pub slot_mut-stored-requires : goal.slot_mut-stored-requires
slot_mut-stored-requires c =
    let taken = c.try_acquire.ensures.acquired c.if-not-try_acquire.false in (
      c.try_acquire.ensures.table ∙ c.requires.rest.0.table,
      (taken.0, in_hand c.try_acquire.new.who.me.1 _ c.args.first taken.0 taken.2),
    )

pub look_above-requires : goal.look_above-requires
look_above-requires c =
    let taken = c.try_acquire.ensures.acquired c.if-not-try_acquire.false in
    let a = taken.1 in
    let me = c.args.who.now.me in
    let is = acquired_is me c.try_acquire.new.who.me c.args.first taken.0 a taken.2 in
    let low : c.args.first < c.args.last = c.requires.several.0 in
    record {
      of = record {
        table = c.try_acquire.ensures.table ∙ c.requires.rest.0.table;
        sized = subst (λ v. IsSized c.args.shared.now.table_id v.setup.bounds) (sym a.after)
            c.requires.rest.0.sized;
      };
      can = (
        can_acquire_next me c.try_acquire.new.who.me c.args.first c.args.last a.history taken.0
            (can_acquire me c.args.first c.requires.rest.1 (omega (arith, low, c.requires.several.1)))
            low c.requires.several.1 is,
        holds_some me c.try_acquire.new.who.me c.args.first a.history taken.0 is,
        has_reached me c.try_acquire.new.who.me c.args.first taken.0 a is,
      );
      last = (
        omega (arith, low),
        subst (λ v. c.args.last < stripe_count v.setup.bounds) (sym a.after) c.requires.several.1,
      );
    }

pub release_seen-requires-clause-can : goal.release_seen-requires-clause-can
release_seen-requires-clause-can c =
    let taken = c.try_acquire.ensures.acquired c.if-not-try_acquire.false in
    let a = taken.1 in
    let me = c.args.who.now.me in
    let y : StoredStripe = c.slot_mut-stored.result.now in
    let same = same_in_hand c.try_acquire.new.who.me.1 c.args.first c.args.first taken.0 y _ _
    taken.2 c.slot_mut-stored.ensures.value in (
      y,
      can_release_on me _ c.look_above.new.who.me c.args.first taken.0 y a
          (λ i. (a.after i, (c.args.first, y) ∷ rest (taken.2 i))) _ c.in-Ok.ensures.looked
          (omega (arith, c.requires.several.0, c.requires.several.1))
          (subst (λ (x : StoredStripe). IsStateOn me.0.setup c.args.first a.history x.value.cache)
          same a.stands),
    )

pub release-requires-clause-can : goal.release-requires-clause-can
release-requires-clause-can c =
    let taken = c.try_acquire.ensures.acquired c.if-not-try_acquire.false in
    let a = taken.1 in
    let me = c.args.who.now.me in
    let y : StoredStripe = c.slot_mut-stored.result.now in
    let same = same_in_hand c.try_acquire.new.who.me.1 c.args.first c.args.first taken.0 y _ _
    taken.2 c.slot_mut-stored.ensures.value in (
      y,
      can_release_on me _ c.look_above.new.who.me c.args.first taken.0 y a
          (λ i. (a.after i, (c.args.first, y) ∷ rest (taken.2 i))) _ c.in-Err.ensures.looked
          (omega (arith, c.requires.several.0, c.requires.several.1))
          (subst (λ (x : StoredStripe). IsStateOn me.0.setup c.args.first a.history x.value.cache)
          same a.stands),
    )

pub returns-in-Ok-clause-looked : goal.returns-in-Ok-clause-looked
returns-in-Ok-clause-looked c =
    let taken = c.try_acquire.ensures.acquired c.if-not-try_acquire.false in
    let a = taken.1 in
    let me = c.args.who.now.me in
    let y : StoredStripe = c.slot_mut-stored.result.now in
    let in_hand = same_in_hand c.try_acquire.new.who.me.1 c.args.first c.args.first taken.0 y _ _
    taken.2 c.slot_mut-stored.ensures.value in
    let r = c.in-Ok.ensures.looked in
    looked_on me _ c.look_above.new.who.me c.args.first taken.0 y a
    (λ i. (a.after i, (c.args.first, y) ∷ rest (taken.2 i))) _ r
    c.release_seen.new.who.me _ c.requires.rest.1 c.release_seen.ensures.released
    (looks_more me.0.setup a.history r.history c.args.span.now c.args.first c.args.last
    c.get_max_ref-own.result c.in-Ok.others c.ratchet.result.0 c.requires.several.0
    (same_there me _ c.look_above.new.who.me c.args.first taken.0 y a
    (λ i. (a.after i, (c.args.first, y) ∷ rest (taken.2 i))) _ r)
    (c.get_max_ref-own.ensures.stands me.0.setup.config (state_on me.0.setup c.args.first a.history)
    (subst (λ (z : Stripe). IsStateOn me.0.setup c.args.first a.history z.cache)
    (sym c.deref.ensures)
    (subst (λ (x : StoredStripe). IsStateOn me.0.setup c.args.first a.history x.value.cache) in_hand
    a.stands)))
    (r.found ∙ ap (λ v. look_from v.setup r.history c.args.span.now (c.args.first + 1)
    (c.args.last - (c.args.first + 1))) a.after)
    c.ratchet.ensures.value)

pub returns-in-Err-clause-unchanged : goal.returns-in-Err-clause-unchanged
returns-in-Err-clause-unchanged c =
    let taken = c.try_acquire.ensures.acquired c.if-not-try_acquire.false in
    let a = taken.1 in
    let me = c.args.who.now.me in
    let y : StoredStripe = c.slot_mut-stored.result.now in
    back_at_rest me _ c.look_above.new.who.me c.args.first taken.0 y a
    (λ i. (a.after i, (c.args.first, y) ∷ rest (taken.2 i))) _ c.in-Err.ensures.looked
    c.release.new.who.me c.requires.rest.1 c.release.ensures.released
