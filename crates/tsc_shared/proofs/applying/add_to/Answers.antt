-- What was brought up to date stands for all, and then for one Add more.
use Rattle.std.proofs.Common.{◌∙◌, sym, ap}
use Rattle.tsc_cache.specs.ConfigView.{ConfigView}
use Rattle.tsc_cache.specs.Batch.{all_fit}
use Rattle.tsc_shared.proofs.InPlace.{caught_up_config, not_refused, no_part_then}
use Rattle.tsc_shared.proofs.InPlace.{untouched_lags}
use Rattle.tsc_shared.proofs.AddingUp.{taken_then}
use Rattle.tsc_shared.proofs.applying.add_to.Goals as goal
use Rattle.tsc_shared.specs.Caches.{marks_in}

pub add_up_to_date-requires : goal.add_up_to_date-requires
add_up_to_date-requires c = record {
  fits = ap (λ (config : ConfigView). all_fit config (marks_in c.args.add.now.marks))
      (caught_up_config c.args.lagging.now c.args.cache.now c.bring_up.new.cache
      c.bring_up.ensures.some) ∙ c.requires.fits.0;
}

pub returns-clause-made : goal.returns-clause-made
returns-clause-made c =
    let no_error = sym c.is_err.ensures.value ∙ c.if-is_err.false in
    let up = not_refused c.bring_up.result _ no_error c.bring_up.ensures.up in
    taken_then c.args.lagging.now c.args.cache.now c.bring_up.new.cache
    c.add_up_to_date.new.cache c.args.add.now c.bring_up.new.lagging c.add_up_to_date.result up
    (not_refused c.bring_up.result _ no_error c.bring_up.ensures.none)
    c.add_up_to_date.ensures.stands c.add_up_to_date.ensures.added c.add_up_to_date.ensures.pages

pub returns-clause-lag : goal.returns-clause-lag
returns-clause-lag c =
    let no_error = sym c.is_err.ensures.value ∙ c.if-is_err.false in
    let up = not_refused c.bring_up.result _ no_error c.bring_up.ensures.up in
    let none = not_refused c.bring_up.result _ no_error c.bring_up.ensures.none in
    untouched_lags c.args.lagging.now c.bring_up.new.lagging
    c.args.add.now.marks c.add_up_to_date.result c.args.cache.now c.bring_up.new.cache
    c.add_up_to_date.new.cache up none
    c.add_up_to_date.ensures.left

pub returns-clause-left : goal.returns-clause-left
returns-clause-left c =
    no_part_then c.args.lagging.now c.args.add.now.marks c.add_up_to_date.result
    c.args.cache.now c.bring_up.new.cache c.add_up_to_date.new.cache c.bring_up.ensures.some
    c.add_up_to_date.ensures.left
