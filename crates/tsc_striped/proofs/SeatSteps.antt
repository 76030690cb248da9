-- What becomes of a seat in a call.
use Rattle.std.proofs.Common.{◌≡◌, ◌∙◌, refl, sym, ap, subst, ℕ, suc, ◌-◌, ◌<◌, ◌≤◌, List, [], ◌∷◌}
use Rattle.std.proofs.Common.{◌++◌, arith}
use Rattle.std.specs.Prelude.{Option, Some, None, IfSome, IfNone}
use Rattle.atomic_table.specs.Seated.{TableId}
use Rattle.tsc_time.specs.Time.{Time}
use Rattle.tsc_time.specs.ValueView.{ValueView}
use Rattle.tsc_span.specs.Span.{KeyBytes, SpanView}
use Rattle.tsc_page_model.specs.Page.{Mark}
use Rattle.tsc_cache.specs.Counts.{figures_of}
use Rattle.tsc_cache.specs.declared.figures.Figures.{Figures}
use Rattle.tsc_cache.specs.History.{History, own_count, BeginsWith, IsLegal}
use Rattle.tsc_cache.proofs.Beginnings.{begins_itself, begins_on}
use Rattle.tsc_stripe_table.specs.Stripes.{Terms, state_on}
use Rattle.tsc_stripe_table.specs.Steps.{At, seated, number_of, seen_of, count_of, front_of}
use Rattle.tsc_stripe_table.specs.Participating.{Participant, IsAtRest, IsOf, IsSized}
use Rattle.tsc_stripe_table.specs.Participating.{IsFront as IsFrontAt}
use Rattle.tsc_stripe_table.proofs.Prefixes.{begins_more, legal_empty}
use Rattle.tsc_striped.specs.declared.answers.Receipt.{Receipt}
use Rattle.tsc_striped.specs.Touching.{first_touched, last_touched}
use Rattle.tsc_striped.specs.Looks.{look_on, look_from, look_over}
use Rattle.tsc_striped.specs.Seats.{StripedView, SeatView, IsSeat, IsFront, IsSettled, new_seat}
use Rattle.tsc_striped.specs.Keeping.{cache_of, striped_view, seat_view, front_view, KeepsSeat}
use Rattle.tsc_striped.specs.Moves.{HasLooked}
use Rattle.tsc_striped.specs.Batches.{AddsAll, entry_of_marks}
use Rattle.tsc_striped.specs.Answers.{GoesOn, Accepts, IsAbove, AnswersLookup, ReadsFloor}
use Rattle.tsc_striped.specs.Answers.{ReadsFigures}
use Rattle.tsc_striped.proofs.Answering.{is_above, reports_no_part}

-- the seat of a participant that has seen a history then, with so many Adds of its own
abbrev pub seat_after : Participant → History → ℕ → SeatView
seat_after old seen count = record {
  cache = cache_of old;
  number = number_of old.me.0;
  count = count;
  seen = seen;
}

-- what a participant keeps then
abbrev pub At_after : Participant → History → ℕ → At
At_after old seen count = (seated old.me.0.setup (number_of old.me.0) seen count, [])

module _ (old new : Participant) (seen : History) (count : ℕ) (table : new.table_id ≡ old.table_id)
    (is : new.me ≡ At_after old seen count) where
  pub view_after : seat_view new ≡ seat_after old seen count
  view_after = λ i. record {
    cache = striped_view (table i) ((is i).0.setup);
    number = number_of (is i).0;
    count = count_of (is i).0;
    seen = seen_of (is i).0;
  }

  module _ (was : IsSeat (seat_view old))
      (legal : IsLegal old.me.0.setup.config old.me.0.setup.seats seen)
      (own : own_count (number_of old.me.0) seen ≡ count) where
    is_seat_after : IsSeat (seat_after old seen count)
    is_seat_after = record {
      number = was.number;
      legal = legal;
      own = own;
      settled = was.settled;
    }

    -- it goes on
    pub goes_on_after : BeginsWith seen (seen_of old.me.0) → GoesOn (seat_view old) (seat_view new)
    goes_on_after begins = subst (GoesOn (seat_view old)) (sym view_after) (record {
      cache = refl;
      number = refl;
      begins = begins;
      is_seat = is_seat_after;
    })

    -- and is kept
    pub kept_after : (number counted counts : ℕ) → KeepsSeat old number counted → counts ≡ count
        → KeepsSeat new number counts
    kept_after number counted counts k counts_is = record {
      rest = subst IsAtRest (sym is) refl;
      number_kept = k.number_kept ∙ ap (λ (m : At). number_of m.0) (sym is);
      count_kept = counts_is ∙ ap (λ (m : At). count_of m.0) (sym is);
      seat = subst IsSeat (sym view_after) is_seat_after;
      sized = subst (λ (t : TableId). IsSized t new.me.0.setup.bounds) (sym table)
          (subst (λ (m : At). IsSized old.table_id m.0.setup.bounds) (sym is) k.sized);
    }

-- a seat that nothing happened to
pub same_seat : (old new : Participant) → new.table_id ≡ old.table_id → new.me ≡ old.me
    → seat_view new ≡ seat_view old
same_seat old new table me = λ i. record {
  cache = striped_view (table i) ((me i).0.setup);
  number = number_of (me i).0;
  count = count_of (me i).0;
  seen = seen_of (me i).0;
}

pub kept_same : (old new : Participant) (number count : ℕ) → KeepsSeat old number count
    → new.table_id ≡ old.table_id → new.me ≡ old.me → KeepsSeat new number count
kept_same old new number count k table me = record {
  rest = subst IsAtRest (sym me) k.rest;
  number_kept = k.number_kept ∙ ap (λ (m : At). number_of m.0) (sym me);
  count_kept = k.count_kept ∙ ap (λ (m : At). count_of m.0) (sym me);
  seat = subst IsSeat (sym (same_seat old new table me)) k.seat;
  sized = subst (λ (t : TableId). IsSized t new.me.0.setup.bounds) (sym table)
      (subst (λ (m : At). IsSized old.table_id m.0.setup.bounds) (sym me) k.sized);
}

pub goes_nowhere : (s : SeatView) → IsSeat s → GoesOn s s
goes_nowhere s is = record {
  cache = refl;
  number = refl;
  begins = begins_itself s.seen;
  is_seat = is;
}

-- a seat that has looked
module _ (old new : Participant) (holds : History → Type 0) (table : new.table_id ≡ old.table_id)
    (l : HasLooked old.me new.me holds) where
  pub looked_view : seat_view new ≡ seat_after old l.history (count_of old.me.0)
  looked_view = view_after old new l.history (count_of old.me.0) table l.after

  pub kept_looked : (number count : ℕ) → KeepsSeat old number count → KeepsSeat new number count
  kept_looked number count k = kept_after old new l.history (count_of old.me.0) table l.after
      k.seat l.legal l.own number count count k k.count_kept

  pub looked_on : IsSeat (seat_view old) → GoesOn (seat_view old) (seat_view new)
  looked_on was = goes_on_after old new l.history (count_of old.me.0) table l.after was l.legal
      l.own l.begins

  pub looked_count : (seat_view new).count ≡ (seat_view old).count
  looked_count = ap (λ (s : SeatView). s.count) looked_view

  pub looked_found : holds (seat_view new).seen
  looked_found = subst (λ (s : SeatView). holds s.seen) (sym looked_view) l.found

-- a seat that may have looked
pub kept_if_looked : {X : Type 0} (old new : Participant) (r : Option X)
    (holds : X → History → Type 0) (end : Type 0) → new.table_id ≡ old.table_id
    → IfSome r (λ value. HasLooked old.me new.me (holds value))
    → IfNone r ((new.me ≡ old.me) × end)
    → (number count : ℕ) → KeepsSeat old number count → KeepsSeat new number count
kept_if_looked old new None holds end table looked busy number count k =
    kept_same old new number count k table busy.0
kept_if_looked old new (Some value) holds end table looked busy number count k =
    kept_looked old new (holds value) table looked number count k

pub same_if_busy : {X : Type 0} (old new : Participant) (r : Option X) (end : Type 0)
    → new.table_id ≡ old.table_id → IfNone r ((new.me ≡ old.me) × end)
    → IfNone r ((seat_view new ≡ seat_view old) × end)
same_if_busy old new None end table busy = (same_seat old new table busy.0, busy.1)
same_if_busy old new (Some value) end table busy = tt

-- so a lookup answers
pub answers_lookup : (old new : Participant) (span : SpanView) (value : ValueView)
    → IsSeat (seat_view old) → new.table_id ≡ old.table_id
    → HasLooked old.me new.me (λ h. value ≡ look_over old.me.0.setup h span)
    → AnswersLookup (seat_view old) (seat_view new) span value
answers_lookup old new span value was table l =
    let holds : History → Type 0 = λ h. value ≡ look_over old.me.0.setup h span in
    let on : GoesOn (seat_view old) (seat_view new) = looked_on old new holds table l was in
    let found : value ≡ look_over old.me.0.setup (seat_view new).seen span =
    looked_found old new holds table l in
    let above : IsAbove (seat_view new) span value =
    is_above (seat_view new) span value on.is_seat
    (found ∙ ap (λ (c : StripedView). look_over c.terms (seat_view new).seen span)
    (sym on.cache)) in
    record {
      goes_on = on;
      count = looked_count old new holds table l;
      value_is = found;
      above = above;
      whole = reports_no_part (seat_view new) span value above;
    }

-- in several stripes
pub looked_over : (me me' : At) (bounds : List KeyBytes) (span : SpanView) (value : ValueView)
    (first last : ℕ) → bounds ≡ me.0.setup.bounds → first ≡ first_touched bounds span
    → last ≡ last_touched bounds span
    → HasLooked me me' (λ h. value ≡ look_from me.0.setup h span first (last - first))
    → HasLooked me me' (λ h. value ≡ look_over me.0.setup h span)
looked_over me me' bounds span value first last same f l looked =
    let first_is : first ≡ first_touched me.0.setup.bounds span =
    f ∙ ap (λ (b : List KeyBytes). first_touched b span) same in
    let last_is : last ≡ last_touched me.0.setup.bounds span =
    l ∙ ap (λ (b : List KeyBytes). last_touched b span) same in record {
      history = looked.history;
      after = looked.after;
      begins = looked.begins;
      legal = looked.legal;
      own = looked.own;
      found = looked.found
          ∙ (λ i. look_from me.0.setup looked.history span (first_is i) (last_is i - first_is i));
    }

-- and in one
pub looked_at : (me me' : At) (bounds : List KeyBytes) (span : SpanView) (value : ValueView)
    (first last : ℕ) → bounds ≡ me.0.setup.bounds → first ≡ first_touched bounds span
    → last ≡ last_touched bounds span → last ≤ first
    → HasLooked me me' (λ h. value ≡ look_on me.0.setup h span first)
    → HasLooked me me' (λ h. value ≡ look_over me.0.setup h span)
looked_at me me' bounds span value first last same f l one looked =
    let none : 0 ≡ last - first = omega (arith, one) in
    looked_over me me' bounds span value first last same f l (record {
      history = looked.history;
      after = looked.after;
      begins = looked.begins;
      legal = looked.legal;
      own = looked.own;
      found = looked.found ∙ ap (look_from me.0.setup looked.history span first) none;
    })

-- and a floor and figures are read
pub reads_floor : (old new : Participant) (stripe : ℕ) (time : Time) → IsSeat (seat_view old)
    → new.table_id ≡ old.table_id
    → HasLooked old.me new.me (λ h. time ≡ (state_on old.me.0.setup stripe h).floor)
    → ReadsFloor (seat_view old) (seat_view new) stripe time
reads_floor old new stripe time was table l =
    let holds : History → Type 0 = λ h. time ≡ (state_on old.me.0.setup stripe h).floor in record {
      goes_on = looked_on old new holds table l was;
      count = looked_count old new holds table l;
      time_is = looked_found old new holds table l;
    }

pub reads_figures : (old new : Participant) (stripe : ℕ) (figures : Figures)
    → IsSeat (seat_view old) → new.table_id ≡ old.table_id
    → HasLooked old.me new.me (λ h. figures ≡ figures_of (state_on old.me.0.setup stripe h))
    → ReadsFigures (seat_view old) (seat_view new) stripe figures
reads_figures old new stripe figures was table l =
    let holds : History → Type 0 = λ h. figures ≡ figures_of (state_on old.me.0.setup stripe h) in
    record {
      goes_on = looked_on old new holds table l was;
      count = looked_count old new holds table l;
      figures_are = looked_found old new holds table l;
    }

-- if they are
pub floor_if_read : (old new : Participant) (stripe : ℕ) (r : Option Time)
    → IsSeat (seat_view old) → new.table_id ≡ old.table_id
    → IfSome r (λ time. HasLooked old.me new.me
    (λ h. time ≡ (state_on old.me.0.setup stripe h).floor))
    → IfSome r (λ time. ReadsFloor (seat_view old) (seat_view new) stripe time)
floor_if_read old new stripe None was table looked = tt
floor_if_read old new stripe (Some time) was table looked =
    reads_floor old new stripe time was table looked

pub figures_if_read : (old new : Participant) (stripe : ℕ) (r : Option Figures)
    → IsSeat (seat_view old) → new.table_id ≡ old.table_id
    → IfSome r (λ figures. HasLooked old.me new.me
    (λ h. figures ≡ figures_of (state_on old.me.0.setup stripe h)))
    → IfSome r (λ figures. ReadsFigures (seat_view old) (seat_view new) stripe figures)
figures_if_read old new stripe None was table looked = tt
figures_if_read old new stripe (Some figures) was table looked =
    reads_figures old new stripe figures was table looked

-- a seat whose Add was accepted
module _ (old new : Participant) (ms : List Mark) (now : Time) (receipt : Receipt)
    (table : new.table_id ≡ old.table_id)
    (a : AddsAll old.me new.me ms now receipt.added) where
  abbrev pub whole : History
  whole = a.before ++ entry_of_marks old.me ms now ∷ []

  pub added_view : seat_view new ≡ seat_after old whole (suc (count_of old.me.0))
  added_view = view_after old new whole (suc (count_of old.me.0)) table a.after

  pub kept_added : (number count counts : ℕ) → KeepsSeat old number count → counts ≡ suc count
      → KeepsSeat new number counts
  kept_added number count counts k is = kept_after old new whole (suc (count_of old.me.0)) table
      a.after k.seat a.legal a.own number count counts k (is ∙ ap suc k.count_kept)

  pub added_on_seat : IsSeat (seat_view old) → GoesOn (seat_view old) (seat_view new)
  added_on_seat was = goes_on_after old new whole (suc (count_of old.me.0)) table a.after was
      a.legal a.own
      (begins_on whole a.before (seen_of old.me.0)
      (begins_more a.before (entry_of_marks old.me ms now ∷ [])) a.begins)

  pub accepts : receipt.number ≡ count_of old.me.0
      → receipt.front ≡ record { cache = (seat_view new).cache; seen = (seat_view new).seen }
      → Accepts (seat_view old) (seat_view new) ms now receipt
  accepts number front =
      let then' : receipt.front ≡ record { cache = cache_of old; seen = whole } =
      front ∙ ap (λ (s : SeatView). record { cache = s.cache; seen = s.seen }) added_view in
      subst (λ (s : SeatView). Accepts (seat_view old) s ms now receipt)
      (sym added_view) (record {
        before = a.before;
        begins = a.begins;
        seen = refl;
        count = refl;
        number = number;
        added = a.added_is;
        front = then';
      })

-- a seat that nobody has used
pub new_rests : (p : Participant) (t : Terms) (number : ℕ) → p.me ≡ (seated t number [] 0, [])
    → number < t.seats → IsSettled t → IsSized p.table_id t.bounds → KeepsSeat p number 0
new_rests p t number is low settled sized = record {
  rest = subst IsAtRest (sym is) refl;
  number_kept = ap (λ (m : At). number_of m.0) (sym is);
  count_kept = ap (λ (m : At). count_of m.0) (sym is);
  seat = subst (λ (m : At). IsSeat (record {
    cache = striped_view p.table_id m.0.setup;
    number = number_of m.0;
    count = count_of m.0;
    seen = seen_of m.0;
  })) (sym is) (record {
    number = low;
    legal = legal_empty t.config t.seats;
    own = refl;
    settled = settled;
  });
  sized = subst (λ (m : At). IsSized p.table_id m.0.setup.bounds) (sym is) sized;
}

pub new_view : (p : Participant) (t : Terms) (table : TableId) (number : ℕ) → p.table_id ≡ table
    → p.me ≡ (seated t number [] 0, []) → seat_view p ≡ new_seat (striped_view table t) number
new_view p t table number same is = λ i. record {
  cache = striped_view (same i) ((is i).0.setup);
  number = number_of (is i).0;
  count = count_of (is i).0;
  seen = seen_of (is i).0;
}

-- a participant takes part in the table that is its own
pub of_table : (p : Participant) (table : TableId) (number count : ℕ) → p.table_id ≡ table
    → KeepsSeat p number count → IsOf p table
of_table p table number count same k = record {
  table = same;
  sized = subst (λ (t : TableId). IsSized t p.me.0.setup.bounds) same k.sized;
}

-- a front of all that a seat has seen
pub front_of_seat : (p q : Participant) (number count : ℕ) → KeepsSeat p number count
    → q.me ≡ (front_of p.me.0.setup (seen_of p.me.0), []) → IsFrontAt q.me × IsFront (front_view q)
front_of_seat p q number count k is = (
  subst IsFrontAt (sym is) refl,
  record {
    legal = subst (λ (m : At). IsLegal m.0.setup.config m.0.setup.seats m.0.front) (sym is)
        k.seat.legal;
  },
)

-- what a lookup in one or in several stripes answers, if it does
pub answers_over : (old new : Participant) (bounds : List KeyBytes) (span : SpanView)
    (r : Option ValueView) (first last : ℕ) → IsSeat (seat_view old)
    → new.table_id ≡ old.table_id → bounds ≡ old.me.0.setup.bounds
    → first ≡ first_touched bounds span → last ≡ last_touched bounds span
    → IfSome r (λ value. HasLooked old.me new.me
    (λ h. value ≡ look_from old.me.0.setup h span first (last - first)))
    → IfSome r (λ value. AnswersLookup (seat_view old) (seat_view new) span value)
answers_over old new bounds span None first last was table same f l looked = tt
answers_over old new bounds span (Some value) first last was table same f l looked =
    answers_lookup old new span value was table
    (looked_over old.me new.me bounds span value first last same f l looked)

pub answers_in : (old new : Participant) (bounds : List KeyBytes) (span : SpanView)
    (r : Option ValueView) (first last : ℕ) → IsSeat (seat_view old)
    → new.table_id ≡ old.table_id → bounds ≡ old.me.0.setup.bounds
    → first ≡ first_touched bounds span → last ≡ last_touched bounds span → last ≤ first
    → IfSome r (λ value. HasLooked old.me new.me
    (λ h. value ≡ look_on old.me.0.setup h span first))
    → IfSome r (λ value. AnswersLookup (seat_view old) (seat_view new) span value)
answers_in old new bounds span None first last was table same f l one looked = tt
answers_in old new bounds span (Some value) first last was table same f l one looked =
    answers_lookup old new span value was table
    (looked_at old.me new.me bounds span value first last same f l one looked)
