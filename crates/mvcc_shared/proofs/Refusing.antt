-- Why a commit is refused, and why it isn't.
use Rattle.std.proofs.Common.{◌≡◌, ◌∙◌, ap, refl, sym, true, false, true≢false}
use Rattle.std.specs.Prelude.{◌↔◌, ◌&&◌, not, Bool, Result, Ok, Err, IsErrOf}
use Rattle.std.proofs.lemmas.Bool.{both_ways}
use Rattle.timestamp_cache.specs.Words.{is_before}
use Rattle.mvcc_versions.specs.Versions.{are_within}
use Rattle.mvcc_range.specs.declared.fault.RangeFault.{RangeFault}
use Rattle.mvcc_range.specs.declared.fault.RangeFault.TheVariants.{OutOfRange, TooEarly, TooLarge, NoMemory}
use Rattle.mvcc_range.specs.Serial.{Transaction}
use Rattle.mvcc_range.specs.Steps.{RangeView, reads_fit}
use Rattle.mvcc_shared.specs.Answers.{ReportsRefused}

abbrev is_ok : {T E : Type 0} → Result T E → Bool
is_ok (Ok y) = true
is_ok (Err f) = false

-- What is not refused tells of a fault that it isn't refused as that.
module _ {T E A : Type 0} (x : T) (e : E) where
  pub still_not : (IsErrOf {T = T} {E = E} (Ok x) e ↔ A) → ⊥ ↔ A
  still_not reported = ((λ none. absurd none), (λ a. both_ways true (ap is_ok (reported.1 a)) refl))

-- ---- a refused one

abbrev is_memory : RangeFault → Bool
is_memory NoMemory = true
is_memory other = false

neither : {X A : Type 0} → (X → ⊥) → (A → ⊥) → X ↔ A
neither never none = ((λ x. absurd (never x)), (λ a. absurd (none a)))

not_both : (a b : Bool) → b ≡ false → (a && b) ≡ true → ⊥
not_both true b low both = true≢false (sym both ∙ low)
not_both false b low both = true≢false (sym both)

-- what may be committed is refused for want of memory alone
pub only_memory : (range : RangeView) (t back : Transaction)
    → are_within t.writes range.span ≡ true → is_before t.at range.threshold ≡ false
    → reads_fit range.cache.config t.reads ≡ true
    → ReportsRefused range t (Err (record { fault = NoMemory; transaction = back }))
only_memory range t back within early fit = record {
  out_of_range = neither (λ e. true≢false (ap is_memory e)) (λ out. true≢false (sym within ∙ out));
  too_early = neither (λ e. true≢false (ap is_memory e)) (not_both _ _ early);
  too_large = neither (λ e. true≢false (ap is_memory e)) (not_both _ _ (ap not fit));
}

fault_or : {T : Type 0} → RangeFault → Result T RangeFault → RangeFault
fault_or d (Ok y) = d
fault_or d (Err e) = e

-- why a call was refused is why the commit is
module _ {T A : Type 0} (fault x : RangeFault) where
  as_reported : (IsErrOf {T = T} {E = RangeFault} (Err fault) x ↔ A) → (fault ≡ x) ↔ A
  unfolding fault_or
  as_reported reported = ((λ e. reported.0 (ap Err e)), (λ a. ap (fault_or x) (reported.1 a)))

pub refused_so : {T : Type 0} (range : RangeView) (t back : Transaction) (fault : RangeFault)
    → (IsErrOf {T = T} {E = RangeFault} (Err fault) OutOfRange
    ↔ (are_within t.writes range.span ≡ false))
    → (IsErrOf {T = T} {E = RangeFault} (Err fault) TooEarly
    ↔ ((are_within t.writes range.span && is_before t.at range.threshold) ≡ true))
    → (IsErrOf {T = T} {E = RangeFault} (Err fault) TooLarge
    ↔ ((are_within t.writes range.span && not (is_before t.at range.threshold)
    && not (reads_fit range.cache.config t.reads)) ≡ true))
    → ReportsRefused range t (Err (record { fault = fault; transaction = back }))
refused_so range t back fault out early large = record {
  out_of_range = as_reported fault OutOfRange out;
  too_early = as_reported fault TooEarly early;
  too_large = as_reported fault TooLarge large;
}
