-- A write that is clear of each read on a span, and above the floor, is clear of what a lookup
-- answers.
use Rattle.std.proofs.Common.{◌≡◌, ◌⊎◌, inl, inr, refl, sym, subst, List, [], ◌∷◌, ◌++◌, true, false, Some, None, arith}
use Rattle.std.specs.List.{Contains}
use Rattle.tsc_time.specs.Time.{Time, is_before}
use Rattle.tsc_time.specs.ValueView.{Owner, ValueView, unowned}
use Rattle.tsc_time.specs.Joint.{joint_above, IsAtMost}
use Rattle.tsc_time.proofs.TimeOrder.{is_before-reports}
use Rattle.tsc_time.proofs.Members.{IsIn, IsIn-from_Contains, Contains-from_IsIn}
use Rattle.tsc_time.proofs.JointLemmas.{joint-least}
use Rattle.tsc_page_model.specs.Page.{Mark}
use Rattle.tsc_cache.specs.ConfigView.{ConfigView}
use Rattle.tsc_cache.specs.declared.history.Entry.{Entry}
use Rattle.tsc_cache.specs.History.{History, state_of, marks_of, marks_on}
use Rattle.tsc_cache.proofs.MarkLists.{values_on-from}
use Rattle.tsc_cache.proofs.Histories.{real_answers, floor_behind}
use Rattle.timestamp_cache.specs.Clear.{IsClearOf}
use Rattle.timestamp_cache.specs.Laws.{IsRetained, PushedByReadsAlone, ClearIsAtMost}
use Rattle.timestamp_cache.proofs.Deciding.{clear_or_not}

-- the value of a write
abbrev written : Owner → Time → ValueView
written by at = record { time = at; owner = Some by }

-- a read that a write is clear of is at most its value, and the other way round
at_most_from : (read : ValueView) (by : Owner) (at : Time) → IsClearOf read by at →
    IsAtMost read (written by at)
at_most_from read by at (inl earlier) = inl earlier
at_most_from read by at (inr own) = inr (own.0, inr (sym own.1))

clear_from : (read : ValueView) (by : Owner) (at : Time) → IsAtMost read (written by at) →
    IsClearOf read by at
clear_from read by at (inl earlier) = inl earlier
clear_from read by at (inr (same, inl none)) =
    absurd (let some_is_none : Some by ≡ None = none in cc)
clear_from read by at (inr (same, inr own)) = inr (same, sym own)

pub clear_is_at_most : ClearIsAtMost
clear_is_at_most read by at = (at_most_from read by at, clear_from read by at)

-- either a write is clear of each of some reads, or there is one that it isn't clear of
clear_of_each : (by : Owner) (at : Time) (vs : List ValueView) →
    ((v : ValueView) → IsIn vs v → IsClearOf v by at) ⊎
    ((v : ValueView) × IsIn vs v × (IsClearOf v by at → ⊥))
clear_of_each by at [] = inl (λ v i. absurd i)
clear_of_each by at (v ∷ vs) = elim (clear_or_not v by at) [
  | inr not ↦ inr (v, inl refl, not)
  | inl first ↦ elim (clear_of_each by at vs) [
    | inr found ↦ inr (found.0, inr found.1, found.2)
    | inl others ↦ inl (λ w i. elim i
        [ inl e ↦ subst (λ (x : ValueView). IsClearOf x by at) e first | inr j ↦ others w j ])
  ]
]

-- A write above a floor and clear of each of some reads is clear of what they come to together.
clear_together : (floor : Time) (vs : List ValueView) (by : Owner) (at : Time) →
    is_before floor at ≡ true → ((v : ValueView) → IsIn vs v → IsClearOf v by at) →
    IsClearOf (joint_above floor vs) by at
clear_together floor vs by at above each =
    clear_from (joint_above floor vs) by at
    (joint-least (unowned floor) vs (written by at)
    (λ x c. elim (IsIn-from_Contains (unowned floor ∷ vs) x c) [
      | inl e ↦ subst (λ (v : ValueView). IsAtMost v (written by at)) e (inl above)
      | inr i ↦ at_most_from x by at (each x i)
    ]))

-- the floor lies below a write that is retained, and above the low-water time
floor_below : (config : ConfigView) (h : History) (at : Time) → IsRetained config h at →
    is_before config.low_water at ≡ true → is_before (state_of config h).floor at ≡ true
floor_below config h at retained above = elim (floor_behind config h) [
  | inl first ↦ subst (λ (t : Time). is_before t at ≡ true) (sym first) above
  | inr behind ↦ below_limit (state_of config h).floor behind.1 at behind.4
      (retained behind.0 behind.1 behind.2 behind.3)
]
  where
    below_limit : (floor limit t : Time) → is_before floor limit ≡ true →
        is_before t limit ≡ false → is_before floor t ≡ true
    below_limit floor limit t low on = grind (arith, is_before-reports)

-- a mark of a history is one of an entry
entry_of : (h : History) (m : Mark) → IsIn (marks_of h) m → (e : Entry) × IsIn h e ×
    Contains e.marks m
entry_of [] m i = absurd i
entry_of (e ∷ h) m i = elim (in_either e.marks (marks_of h) i) [
  | inl own ↦ (e, inl refl, Contains-from_IsIn e.marks m own)
  | inr other ↦ let found = entry_of h m other in (found.0, inr found.1, found.2)
]
  where
    in_either : (ms ns : List Mark) → IsIn (ms ++ ns) m → IsIn ms m ⊎ IsIn ns m
    in_either [] ns j = inr j
    in_either (n ∷ ms) ns (inl same) = inl (inl same)
    in_either (n ∷ ms) ns (inr j) = elim (in_either ms ns j) [ inl k ↦ inl (inr k) | inr k ↦ inr k ]

-- so a write that isn't clear of an answer isn't clear of some read
pub pushed_by_reads_alone : PushedByReadsAlone
pushed_by_reads_alone config h span by at retained above not_clear =
    elim (clear_of_each by at (marks_on span h)) [
      | inl each ↦ absurd (not_clear (subst (λ (v : ValueView). IsClearOf v by at)
          (sym (real_answers config h span))
          (clear_together (state_of config h).floor (marks_on span h) by at
          (floor_below config h at retained above) each)))
      | inr found ↦
          let m = values_on-from span (marks_of h) found.0
          (Contains-from_IsIn (marks_on span h) found.0 found.1) in
          let e = entry_of h m.0 (IsIn-from_Contains (marks_of h) m.0 m.1) in
          record {
            entry = e.0;
            mark = m.0;
            added = Contains-from_IsIn h e.0 e.1;
            there = e.2;
            over = m.2;
            not_clear = λ clear. found.2 (subst (λ (v : ValueView). IsClearOf v by at) m.3 clear);
          }
    ]
