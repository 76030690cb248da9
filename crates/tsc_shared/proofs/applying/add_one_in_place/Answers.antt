-- What was made in place is an Add, which never rotated.
use Rattle.std.proofs.Common.{subst}
use Rattle.tsc_page_model.specs.Page.{Mark}
use Rattle.tsc_cache.specs.CacheView.{StandsAfter, Adds}
use Rattle.tsc_cache.proofs.StatesSeen.{adds_stands}
use Rattle.tsc_cache.proofs.WithoutRotation.{made_in_place}
use Rattle.tsc_shared.proofs.InPlace.{reported_no_rotation, reported_one}
use Rattle.tsc_shared.proofs.applying.add_one_in_place.Goals as goal

pub returns-in-Ok-Some-clause-stands : goal.returns-in-Ok-Some-clause-stands
returns-in-Ok-Some-clause-stands c =
    let m : Mark = record { span = c.mark.inside.span; value = c.mark.inside.value } in
    subst (λ (n : Mark). StandsAfter c.args.cache.now c.add_without_rotation.new.self n
    c.args.moment) c.mark.view_is
    (λ config s stands. (adds_stands c.args.cache.now c.add_without_rotation.new.self m
    c.args.moment c.in-Ok-Some.added
    (made_in_place c.args.cache.now c.add_without_rotation.new.self m c.in-Ok-Some.field-0
    c.in-Ok-Some.added c.in-Ok-Some.field-0-is c.in-Ok-Some.ensures.seen c.args.moment) config
    s stands).0)

pub returns-in-Ok-Some-clause-added : goal.returns-in-Ok-Some-clause-added
returns-in-Ok-Some-clause-added c =
    let m : Mark = record { span = c.mark.inside.span; value = c.mark.inside.value } in
    reported_one c.args.cache.now c.add_without_rotation.new.self c.args.mark.now c.args.moment
    c.in-Ok-Some.added
    (subst (λ (n : Mark). Adds c.args.cache.now c.add_without_rotation.new.self n c.args.moment
    c.in-Ok-Some.added) c.mark.view_is
    (made_in_place c.args.cache.now c.add_without_rotation.new.self m c.in-Ok-Some.field-0
    c.in-Ok-Some.added c.in-Ok-Some.field-0-is c.in-Ok-Some.ensures.seen c.args.moment))

pub returns-in-Ok-Some-clause-pages : goal.returns-in-Ok-Some-clause-pages
returns-in-Ok-Some-clause-pages c =
    reported_no_rotation c.args.cache.now c.add_without_rotation.new.self
    (record { span = c.mark.inside.span; value = c.mark.inside.value }) c.in-Ok-Some.field-0
    c.in-Ok-Some.added c.args.moment c.in-Ok-Some.field-0-is c.in-Ok-Some.ensures.seen
