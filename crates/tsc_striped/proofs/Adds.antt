-- What an Add answers at a seat.
use Rattle.std.proofs.Common.{◌≡◌, ◌≢◌, ◌∙◌, inl, inr, refl, sym, ap, subst, true, ℕ, ◌-◌, ◌<◌, ◌≤◌}
use Rattle.std.proofs.Common.{List, [], ◌∷◌, arith, not, append-nil}
use Rattle.std.specs.Prelude.{nat_le, Option, Some, None, Result, Ok, Err, OnOk, IsErrOf}
use Rattle.std.proofs.lemmas.Bool.Decides.{nat_tests}
use Rattle.tsc_time.specs.Time.{Time}
use Rattle.tsc_span.specs.Span.{KeyBytes, SpanView, nothing, between, before, is_below, span_cost}
use Rattle.tsc_span.specs.MadeSpan.{IsMadeSpan}
use Rattle.tsc_page_model.specs.Page.{Mark}
use Rattle.tsc_cache.specs.declared.added.Added.{Added}
use Rattle.tsc_cache.specs.ConfigView.{ConfigView, fits}
use Rattle.tsc_cache.specs.Batch.{all_fit}
use Rattle.tsc_cache.specs.History.{CanBeAdded, CanAllBeAdded}
use Rattle.tsc_stripe_table.specs.Stripes.{Terms, stripe_count, piece_of, mark_on, marks_in}
use Rattle.tsc_stripe_table.specs.Steps.{At}
use Rattle.tsc_stripe_table.specs.Participating.{Participant}
use Rattle.tsc_striped.specs.declared.answers.Receipt.{Receipt}
use Rattle.tsc_striped.specs.declared.answers.AddFault.{AddFault}
use Rattle.tsc_striped.specs.declared.answers.AddFault.TheVariants as fault
use Rattle.tsc_striped.specs.declared.answers.TryAddFault.{TryAddFault}
use Rattle.tsc_striped.specs.declared.answers.TryAddFault.TheVariants.{Busy, Refused}
use Rattle.tsc_striped.specs.declared.fault.StripeFault.{StripeFault}
use Rattle.tsc_striped.specs.declared.fault.StripeFault.TheVariants as stopped
use Rattle.tsc_striped.specs.Limits.{most_adds, least_page_max}
use Rattle.tsc_striped.specs.Touching.{first_touched, last_touched}
use Rattle.tsc_striped.specs.Seats.{SeatView, IsSeat, IsSettled}
use Rattle.tsc_striped.specs.Keeping.{seat_view}
use Rattle.tsc_striped.specs.Looks.{added_from, counted}
use Rattle.tsc_striped.specs.Cutting.{LieWithin}
use Rattle.tsc_striped.specs.Waiting.{HasEnd}
use Rattle.tsc_striped.specs.Moves.{LiesIn, AddsIn, IsStripeFault}
use Rattle.tsc_striped.specs.Batches.{AddsAll}
use Rattle.tsc_striped.specs.Answers.{AnswersTriedAdd, CanCount, IsNoTry}
use Rattle.tsc_striped.specs.Adding.{IsWaited}
use Rattle.tsc_striped.proofs.Counting.{above_falls, below_falls, at_most}
use Rattle.tsc_striped.proofs.Touches.{lies_in_one}
use Rattle.tsc_striped.proofs.SeatSteps.{goes_nowhere, accepts, added_on_seat}
use Rattle.tsc_striped.proofs.Batches.{added_within}

-- the stripes that a span touches are there
pub first_there : (bounds : List KeyBytes) (span : SpanView)
    → first_touched bounds span < stripe_count bounds
first_there bounds nothing = omega arith
first_there bounds (between from to) = omega (
  arith,
  at_most (λ k. not (is_below from (before k))) (above_falls from) bounds,
)

pub last_there : (bounds : List KeyBytes) (span : SpanView)
    → last_touched bounds span < stripe_count bounds
last_there bounds nothing = omega arith
last_there bounds (between from to) = omega (
  arith,
  at_most (λ k. is_below (before k) to) (below_falls to) bounds,
)

pub there_in : (bounds bounds' : List KeyBytes) (span : SpanView) (first : ℕ) → bounds ≡ bounds'
    → first ≡ first_touched bounds span → first < stripe_count bounds'
there_in bounds bounds' span first same is =
    subst (λ (b : List KeyBytes). first < stripe_count b) same
    (subst (λ (i : ℕ). i < stripe_count bounds) (sym is) (first_there bounds span))

pub last_in : (bounds bounds' : List KeyBytes) (span : SpanView) (last : ℕ) → bounds ≡ bounds'
    → last ≡ last_touched bounds span → last < stripe_count bounds'
last_in bounds bounds' span last same is =
    subst (λ (b : List KeyBytes). last < stripe_count b) same
    (subst (λ (i : ℕ). i < stripe_count bounds) (sym is) (last_there bounds span))

-- the largest page has room for any span
pub any_fits : (config : ConfigView) (span : SpanView) (cost : ℕ) → least_page_max ≤ config.page_max
    → cost ≡ span_cost span → cost ≤ 8256 → fits config span ≡ true
any_fits config span cost room is most =
    fits_by (span_cost span) config.page_max (omega (arith, room, is, most))
  where
    fits_by : (a b : ℕ) → a ≤ b → nat_le a b ≡ true
    fits_by a b le = grind (arith, nat_tests)

-- a span fits
pub span_fits : (terms : Terms) (span : SpanView) (cost : ℕ) → IsSettled terms
    → cost ≡ span_cost span → cost ≤ 8256 → fits terms.config span ≡ true
span_fits terms span cost settled is most = any_fits terms.config span cost settled.room is most

-- and lies in the stripe that it touches, if that is one
pub lies_there : (terms : Terms) (bounds : List KeyBytes) (m : Mark) (now : Time) (first last : ℕ)
    → IsSettled terms → bounds ≡ terms.bounds → CanBeAdded terms.config m now
    → first ≡ first_touched bounds m.span → last ≡ last_touched bounds m.span → first ≡ last
    → LiesIn terms.bounds first m.span
lies_there terms bounds m now first last settled same can f l is =
    let made : IsMadeSpan m.span = ((can 0 0).marks 0 m (omega arith)).span in
    let there : first ≡ first_touched terms.bounds m.span =
    f ∙ ap (λ (b : List KeyBytes). first_touched b m.span) same in
    let one : first_touched terms.bounds m.span ≡ last_touched terms.bounds m.span =
    sym there ∙ is ∙ l ∙ ap (λ (b : List KeyBytes). last_touched b m.span) same in
    subst (λ (i : ℕ). LiesIn terms.bounds i m.span) (sym there)
    (lies_in_one terms.bounds m.span settled.in_order made one)

-- marks that fit can be added, also as a copy and by the settings' other name
pub can_be_all : (config config' : ConfigView) (xs ys zs : List Mark) (now : Time)
    → all_fit config xs ≡ true → (all_fit config ys ≡ true → CanAllBeAdded config ys now)
    → xs ≡ zs → ys ≡ zs → config ≡ config' → CanAllBeAdded config' zs now
can_be_all config config' xs ys zs now fit can x y same =
    subst (λ (s : ConfigView). CanAllBeAdded s zs now) same
    (subst (λ (ms : List Mark). CanAllBeAdded config ms now) y
    (can (subst (λ (ms : List Mark). all_fit config ms ≡ true) (x ∙ sym y) fit)))

-- so it does in all stripes what it does there
pub adds_one : (me me' : At) (stripe : ℕ) (m : Mark) (now : Time) (added : Added)
    → stripe < stripe_count me.0.setup.bounds → LiesIn me.0.setup.bounds stripe m.span
    → added ≡ counted added → AddsIn me me' stripe m now added
    → AddsAll me me' (m ∷ []) now added
adds_one me me' stripe m now added there lies is_counted a = record {
  before = a.before;
  after = a.after;
  begins = a.begins;
  legal = a.legal;
  own = a.own;
  added_is = is_counted ∙ ap counted (a.added_is
      ∙ ap (added_from me.0.setup a.before (m ∷ []) now stripe) none
      ∙ added_within me.0.setup a.before (m ∷ []) now stripe stripe (omega arith)
      (omega (arith, there)) within);
}
  where
    none : 0 ≡ stripe - stripe
    none = omega arith

    nothing_there : (other : ℕ) → other ≢ stripe → marks_in me.0.setup.bounds other (m ∷ []) ≡ []
    nothing_there other apart = append-nil (mark_on (piece_of me.0.setup.bounds other m.span) m)
        ∙ ap (λ (span : SpanView). mark_on span m) (lies.none other apart)

    within : LieWithin me.0.setup.bounds (m ∷ []) stripe stripe
    within other (inl low) = nothing_there other (λ is. omega (arith, low, is))
    within other (inr high) = nothing_there other (λ is. omega (arith, high, is))

none_is : (tries : Option ℕ) → IsNoTry tries → tries ≡ Some 0
none_is None none = absurd none
none_is (Some n) none = ap Some none

-- an Add that is refused
pub refused_full : (old : SeatView) (ms : List Mark) (now : Time) (tries : Option ℕ) → IsSeat old
    → old.count ≡ most_adds → AnswersTriedAdd old old ms now tries (Err (Refused fault.SeatFull))
refused_full old ms now tries is full = record {
  accepted = tt;
  may = tt;
  seat = goes_nowhere old is;
  refused = refl;
  why = full;
  no_tries = λ none may. absurd (may full);
}

pub refused_busy : (old : SeatView) (ms : List Mark) (now : Time) (tries : Option ℕ) → IsSeat old
    → CanCount old → AnswersTriedAdd old old ms now tries (Err Busy)
refused_busy old ms now tries is may = record {
  accepted = tt;
  may = tt;
  seat = goes_nowhere old is;
  refused = refl;
  why = may;
  no_tries = λ none _. refl;
}

pub refused_memory : (old : SeatView) (ms : List Mark) (now : Time) (tries : Option ℕ) → IsSeat old
    → CanCount old → (tries ≡ Some 0 → ⊥)
    → AnswersTriedAdd old old ms now tries (Err (Refused fault.NoMemory))
refused_memory old ms now tries is may some = record {
  accepted = tt;
  may = tt;
  seat = goes_nowhere old is;
  refused = refl;
  why = may;
  no_tries = λ none _. absurd (some (none_is tries none));
}

-- What an Add answers that is refused in the stripes for this.
abbrev pub Gives : StripeFault → TryAddFault → Type 0
Gives by answer = (by ≡ stopped.Busy → answer ≡ Busy)
    × (by ≡ stopped.NoMemory → answer ≡ Refused fault.NoMemory)

pub answers_refused : (old : SeatView) (ms : List Mark) (now : Time) (tries : Option ℕ)
    (by : StripeFault) (answer : TryAddFault) → IsSeat old → CanCount old → Gives by answer
    → (tries ≡ Some 0 → by ≡ stopped.Busy) → AnswersTriedAdd old old ms now tries (Err answer)
answers_refused old ms now tries stopped.Busy answer is may gives busy =
    subst (λ (f : TryAddFault). AnswersTriedAdd old old ms now tries (Err f)) (sym (gives.0 refl))
    (refused_busy old ms now tries is may)
answers_refused old ms now tries stopped.NoMemory answer is may gives busy =
    subst (λ (f : TryAddFault). AnswersTriedAdd old old ms now tries (Err f)) (sym (gives.1 refl))
    (refused_memory old ms now tries is may (λ none. other (busy none)))
  where
    other : stopped.NoMemory ≡ stopped.Busy → ⊥
    other same = cc

-- the tries have an end, if it is busy
pub ended_by : (tries : Option ℕ) (by : StripeFault) (answer : TryAddFault)
    → IsStripeFault tries by → Gives by answer → answer ≡ Busy → HasEnd tries
ended_by tries stopped.Busy answer why gives is = why
ended_by tries stopped.NoMemory answer why gives is = absurd (other (sym (gives.1 refl) ∙ is))
  where
    other : Refused fault.NoMemory ≡ Busy → ⊥
    other same = cc

abbrev IsAccepted : Result Added StripeFault → Type 0
IsAccepted (Ok added) = Unit {0}
IsAccepted (Err fault) = ⊥

-- an Add that is accepted
pub answers_added : (old new : Participant) (ms : List Mark) (now : Time) (tries : Option ℕ)
    (receipt : Receipt) → IsSeat (seat_view old) → new.table_id ≡ old.table_id
    → AddsAll old.me new.me ms now receipt.added → receipt.number ≡ (seat_view old).count
    → receipt.front ≡ record { cache = (seat_view new).cache; seen = (seat_view new).seen }
    → CanCount (seat_view old) → (tries ≡ Some 0 → ⊥)
    → AnswersTriedAdd (seat_view old) (seat_view new) ms now tries (Ok receipt)
answers_added old new ms now tries receipt was table adds number front may some = record {
  accepted = accepts old new ms now receipt table adds number front;
  may = may;
  seat = added_on_seat old new ms now receipt table adds was;
  refused = tt;
  why = tt;
  no_tries = λ none may'. absurd (some (none_is tries none));
}

-- it was tried
-- what holds of an Add that was made holds once it was waited for
pub reported_waited : (added : Result Receipt TryAddFault) (result : Result Receipt AddFault)
    (T : Type 0) → OnOk added T → IsWaited added result → OnOk result T
reported_waited (Ok receipt) result T reported is = subst (λ (r : Result Receipt AddFault). OnOk r T) (sym is) reported
reported_waited (Err Busy) result T reported is = absurd is
reported_waited (Err (Refused fault)) result T reported is =
    subst (λ (r : Result Receipt AddFault). OnOk r T) (sym is) tt

pub was_tried : (tries : Option ℕ) (added : Added)
    → (tries ≡ Some 0 → IsErrOf {T = Added} {E = StripeFault} (Ok added) stopped.Busy)
    → tries ≡ Some 0 → ⊥
was_tried tries added tried none = absurd (subst IsAccepted (tried none) tt)
