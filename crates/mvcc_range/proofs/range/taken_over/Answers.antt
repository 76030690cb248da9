-- Proves the contract of `taken_over`. Makes a new cache that takes over what a summary of another
-- one tells of a span. The summary has at most `most` marks.
use Rattle.std.proofs.Common.{◌≡◌, subst, inr, false}
use Rattle.std.specs.Prelude.{◌↔◌, Ok, IsErrOf}
use Rattle.tsc_cache.specs.State.{opening}
use Rattle.tsc_cache.specs.Batch.{all_fit}
use Rattle.tsc_cache.specs.declared.fault.CacheFault.TheVariants.{TooLarge}
use Rattle.timestamp_cache.specs.Words.{ConfigView}
use Rattle.timestamp_cache.specs.HandOver.{marks_reported}
use Rattle.mvcc_range.proofs.HandingOn.{taken, no_refusal}
use Rattle.mvcc_range.proofs.range.taken_over.Goals as goal

pub returns-clause-ok : goal.returns-clause-ok
returns-clause-ok c =
    taken c.args.cache.now c.in_ok-next.next c.apply.new.cache c.args.span.now c.args.config
    c.args.most c.in_ok-reported.reported c.args.now c.in_ok-reported.ensures
    c.in_ok-next.ensures.stands c.in_ok-apply.ensures.stands c.in_ok-apply.ensures.takes_over

pub returns-clause-summed : goal.returns-clause-summed
returns-clause-summed c = record {
  summary = c.in_ok-reported.reported;
  summarizes = c.in_ok-reported.ensures;
  stands = c.in_ok-apply.ensures.stands c.args.config (opening c.args.config)
      c.in_ok-next.ensures.stands;
}

pub returns-clause-too_large : goal.returns-clause-too_large
returns-clause-too_large c =
    let reported = c.in_ok-reported.reported in
    let set_up = (c.in_ok-next.ensures.stands).set_up in
    inr (record {
      summary = reported;
      summarizes = c.in_ok-reported.ensures;
      exact = no_refusal c.in_ok-apply.field-0 c.apply.new.cache TooLarge
          (all_fit c.args.config (marks_reported reported) ≡ false)
          (subst (λ (s : ConfigView). IsErrOf (Ok c.in_ok-apply.field-0) TooLarge
          ↔ (all_fit s (marks_reported reported) ≡ false)) set_up
          c.in_ok-apply.ensures.refused.too_large);
    })
