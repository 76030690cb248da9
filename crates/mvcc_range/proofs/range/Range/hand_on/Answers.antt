-- Proves the contract of `Range::hand_on`. Hands the range on to a new lease.
use Rattle.std.proofs.Common.{◌≡◌, refl, subst, inl, inr, false}
use Rattle.std.specs.Prelude.{Ok, IsErrOf}
use Rattle.tsc_cache.specs.Batch.{all_fit}
use Rattle.tsc_cache.specs.declared.fault.CacheFault.TheVariants.{TooLarge, NoMemory}
use Rattle.timestamp_cache.specs.HandOver.{marks_reported}
use Rattle.mvcc_range.specs.Steps.{RangeView}
use Rattle.mvcc_range.specs.Calls.{ReportsTooLarge}
use Rattle.mvcc_range.proofs.HandingOn.{never_refused, no_refusal}
use Rattle.mvcc_range.proofs.range.Range.hand_on.Goals as goal

pub returns-clause-too_large : goal.returns-clause-too_large
returns-clause-too_large c =
    let next = c.in_ok-self-inside.field-0 in
    elim c.in_ok-self-inside.ensures.too_large [
      | inl never ↦ absurd (never_refused (Ok next) next NoMemory refl never)
      | inr reported ↦ inr (subst (λ (r : RangeView). ReportsTooLarge r.cache r.span c.args.config
          c.args.most (IsErrOf (Ok tt) TooLarge)) c.self.view_is (record {
            summary = reported.summary;
            summarizes = reported.summarizes;
            exact = no_refusal next tt TooLarge
                (all_fit c.args.config (marks_reported reported.summary) ≡ false) reported.exact;
          }))
    ]
