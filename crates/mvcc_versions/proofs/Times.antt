-- The earliest time after a key's last write.
use Rattle.std.proofs.Common.{◌≡◌, inl, inr, true, false, Some, None, Option}
use Rattle.std.proofs.lemmas.Bool.{cases_Bool, both_ways}
use Rattle.tsc_time.proofs.TimeOrder.{is_before-itself, is_before-opposite, no_earlier-transitive}
use Rattle.timestamp_cache.specs.Words.{Time, is_in_range, is_before}
use Rattle.timestamp_cache.specs.Earliest.{ReportsEarliest}
use Rattle.mvcc_versions.specs.Versions.{IsAfter}

-- ---- one key

pub from_itself : (from : Time) → is_in_range from ≡ true
    → ReportsEarliest (IsAfter None) from (Some from)
from_itself from range = record {
  in_range = range;
  from_on = is_before-itself from;
  holds = tt;
  least = λ t _ on _. on;
}

pub already_after : (last from : Time) → is_in_range from ≡ true → is_before last from ≡ true
    → ReportsEarliest (IsAfter (Some last)) from (Some from)
already_after last from range h = record {
  in_range = range;
  from_on = is_before-itself from;
  holds = h;
  least = λ t _ on _. on;
}

pub after_next : (last from : Time) (next : Option Time) → is_before last from ≡ false
    → ReportsEarliest (λ t. is_before last t ≡ true) last next
    → ReportsEarliest (IsAfter (Some last)) from next
after_next last from None on reports =
    λ t range later is. reports t range (is_before-opposite last t is) is
after_next last from (Some n) on reports = record {
  in_range = reports.in_range;
  from_on = no_earlier-transitive from last n on (is_before-opposite last n reports.holds);
  holds = reports.holds;
  least = λ t range later is. reports.least t range (is_before-opposite last t is) is;
}

-- what is later than a key's last write stays so
pub after_stays : (o : Option Time) (t u : Time) → is_before u t ≡ false → IsAfter o t → IsAfter o u
after_stays None t u on h = tt
after_stays (Some last) t u on h = elim (cases_Bool (is_before last u)) [
  | inl b ↦ b
  | inr n ↦
      absurd (both_ways (is_before last t) (no_earlier-transitive t u last on n) h)
]
