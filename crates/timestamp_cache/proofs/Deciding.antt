-- Whether a write is clear of a read can be decided.
use Rattle.std.proofs.Common.{◌≡◌, ◌⊎◌, ◌∙◌, inl, inr, sym, Bool, false, ◌&&◌, ◌||◌, Some, None, Decides, true≢false, ap}
use Rattle.std.specs.Prelude.{Option}
use Rattle.std.specs.Str.{bytes_eq}
use Rattle.std.proofs.lemmas.Bool.{cases_Bool}
use Rattle.std.proofs.lemmas.Bool.Decides.{Decides-and, Decides-or}
use Rattle.std.proofs.lemmas.Slice.Eq.{bytes_eq-Decides}
use Rattle.tsc_time.specs.Time.{Time, is_before, is_same_time}
use Rattle.tsc_time.specs.ValueView.{Owner, ValueView}
use Rattle.tsc_time.proofs.TimeOrder.{is_same_time-Decides}
use Rattle.timestamp_cache.specs.Clear.{IsClearOf}

-- whether this is the owner
abbrev pub is_owned_by : Option Owner → Owner → Bool
is_owned_by None by = false
is_owned_by (Some owner) by = bytes_eq owner by

pub is_owned_by-Decides : (o : Option Owner) (by : Owner) → Decides (is_owned_by o by) (o ≡ Some by)
is_owned_by-Decides None by = (
  λ e. absurd (true≢false (sym e)),
  λ e. absurd (let none_is_some : None ≡ Some by = e in cc),
)
is_owned_by-Decides (Some owner) by = (
  λ e. ap Some ((bytes_eq-Decides owner by).0 e),
  λ e. (bytes_eq-Decides owner by).1 (let same : Some owner ≡ Some by = e in cc),
)

-- whether a write is clear
abbrev pub is_clear : ValueView → Owner → Time → Bool
is_clear read by at = is_before read.time at ||
    (is_same_time read.time at && is_owned_by read.owner by)

pub is_clear-Decides : (read : ValueView) (by : Owner) (at : Time) →
    Decides (is_clear read by at) (IsClearOf read by at)
is_clear-Decides read by at = Decides-or _ _ (λ e. e, λ e. e)
    (Decides-and _ _ (is_same_time-Decides read.time at) (is_owned_by-Decides read.owner by))

-- it is or it isn't
pub clear_or_not : (read : ValueView) (by : Owner) (at : Time) →
    IsClearOf read by at ⊎ (IsClearOf read by at → ⊥)
clear_or_not read by at = elim (cases_Bool (is_clear read by at)) [
  | inl h ↦ inl ((is_clear-Decides read by at).0 h)
  | inr h ↦ inr (λ clear. true≢false (sym ((is_clear-Decides read by at).1 clear) ∙ h))
]
