-- What a lookup answers is above all that was seen, and tells no part of an entry.
use Rattle.std.proofs.Common.{◌≡◌, ◌⊎◌, inl, inr, refl, sym, subst, Bool, true, false, ◌-◌, []}
use Rattle.std.proofs.Common.{◌∷◌, ◌++◌, ℕ, length, append_assoc, arith}
use Rattle.std.specs.Prelude.{nat_le}
use Rattle.std.proofs.lemmas.List.{length_push}
use Rattle.std.proofs.lemmas.Bool.Decides.{nat_tests}
use Rattle.std.proofs.lemmas.List.Elements.{Contains-append_right}
use Rattle.tsc_time.specs.Time.{Time, is_before}
use Rattle.tsc_time.specs.ValueView.{ValueView, unowned}
use Rattle.tsc_time.specs.Joint.{IsAtMost}
use Rattle.tsc_time.proofs.TimeOrder.{is_before-itself, is_before-opposite}
use Rattle.tsc_time.proofs.RatchetOrder.{IsAtMost-transitive}
use Rattle.tsc_span.specs.Span.{SpanView}
use Rattle.tsc_cache.specs.declared.history.Entry.{Entry}
use Rattle.tsc_cache.specs.History.{History, BeginsWith}
use Rattle.tsc_cache.specs.Laws.{IsClearOf}
use Rattle.tsc_cache.proofs.Beginnings.{begins_entries}
use Rattle.tsc_stripe_table.specs.Stripes.{Terms, state_on}
use Rattle.tsc_left_right.proofs.Prefixes.{seen_whole}
use Rattle.tsc_striped.specs.Touching.{first_touched, last_touched}
use Rattle.tsc_striped.specs.Looks.{look_on, look_over}
use Rattle.tsc_striped.specs.Seats.{SeatView, IsSeat}
use Rattle.tsc_striped.specs.Answers.{IsAbove, ReportsNoPart}
use Rattle.tsc_striped.proofs.Histories.{among_answers, kept_up_over, no_write_below_a_read_over}
use Rattle.tsc_striped.proofs.Reals.{floor_below}

-- what a floor is at most is no earlier than it
no_earlier : (floor : Time) (v : ValueView) → IsAtMost (unowned floor) v
    → is_before v.time floor ≡ false
no_earlier floor v (inl early) = is_before-opposite floor v.time early
no_earlier floor v (inr there) =
    subst (λ (t : Time). is_before t floor ≡ false) there.0 (is_before-itself floor)

-- what a lookup answers is above all that was seen
pub is_above : (seat : SeatView) (span : SpanView) (value : ValueView) → IsSeat seat
    → value ≡ look_over seat.cache.terms seat.seen span → IsAbove seat span value
is_above seat span value was is =
    let terms : Terms = seat.cache.terms in
    let h : History = seat.seen in
    let first : ℕ = first_touched terms.bounds span in
    let more : ℕ = last_touched terms.bounds span - first in
    record {
      adds = λ e m there own over. subst (IsAtMost m.value) (sym is)
          (kept_up_over terms h e m span was.settled.in_order there own over);
      floors = λ stripe touched.
          let floor : Time = (state_on terms stripe h).floor in
          no_earlier floor value (subst (IsAtMost (unowned floor)) (sym is)
          (IsAtMost-transitive (unowned floor) (look_on terms h span stripe)
          (look_over terms h span) (floor_below terms h span stripe)
          (among_answers terms h span more first stripe touched.from touched.to)));
      clear = λ writer time clear e m there own over. no_write_below_a_read_over terms h span writer
          time was.settled.in_order
          (subst (λ (v : ValueView). IsClearOf v writer time) is clear) e m there own over;
    }

-- Of an entry either all was seen, or nothing, so a lookup tells no part of one.
pub reports_no_part : (seat : SeatView) (span : SpanView) (value : ValueView)
    → IsAbove seat span value → ReportsNoPart seat span value
reports_no_part seat span value above before after e b =
    elim (seen_whole before after seat.seen e b) [
      | inl late ↦ inl late
      | inr seen ↦ inr (
        seen,
        λ m has over. above.adds e m
            (begins_entries seat.seen (before ++ e ∷ []) e seen
            (Contains-append_right before (e ∷ []) e (0, omega arith, refl))) has over,
      )
    ]
