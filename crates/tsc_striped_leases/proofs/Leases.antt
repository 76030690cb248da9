-- What a seat of a cache in stripes is told of the reads of a span, and takes over.
use Rattle.std.proofs.Common.{◌≡◌, ◌∙◌, inl, inr, refl, sym, ap, subst, true, ℕ, zero, suc, ◌+◌}
use Rattle.std.proofs.Common.{◌-◌, ◌<◌, ◌≤◌, List, [], ◌∷◌, ◌++◌, length, drop, arith}
use Rattle.std.proofs.Common.{append_assoc, append-nil, length-append}
use Rattle.std.specs.Prelude.{Option, Result, Ok, Err, OnOk}
use Rattle.std.specs.List.{Contains}
use Rattle.std.proofs.lemmas.List.Elements.{Contains-append_right}
use Rattle.tsc_time.specs.Time.{Time}
use Rattle.tsc_time.specs.ValueView.{ValueView, unowned}
use Rattle.tsc_time.specs.Joint.{IsAtMost}
use Rattle.tsc_time.proofs.Members.{IsIn, IsIn-from_Contains, Contains-from_IsIn}
use Rattle.tsc_time.proofs.RatchetOrder.{IsAtMost-transitive}
use Rattle.tsc_span.specs.Span.{KeyBytes, SpanView, nothing, between}
use Rattle.tsc_page_model.specs.Page.{Mark}
use Rattle.tsc_cache.specs.State.{look}
use Rattle.tsc_cache.specs.CacheView.{CacheView}
use Rattle.tsc_cache.specs.declared.history.Entry.{Entry}
use Rattle.tsc_cache.specs.History.{History}
use Rattle.tsc_stripe_table.specs.Stripes.{Terms, state_on, IsStateOn, piece_of, stripe_count}
use Rattle.tsc_striped.specs.declared.answers.AddFault.{AddFault}
use Rattle.tsc_striped.specs.declared.answers.TryAddFault.{TryAddFault}
use Rattle.tsc_striped.specs.declared.answers.Receipt.{Receipt}
use Rattle.tsc_striped.specs.declared.answers.Snapshot.{Snapshot}
use Rattle.tsc_striped.specs.Touching.{are_in_order, first_touched, last_touched}
use Rattle.tsc_striped.specs.Looks.{StandFrom, look_over}
use Rattle.tsc_striped.specs.Seats.{SeatView, IsSeat}
use Rattle.tsc_striped.specs.Answers.{Accepts, AnswersAdd, AnswersTriedAdd, TakesSnapshot}
use Rattle.tsc_striped.specs.Answers.{entry_by}
use Rattle.tsc_striped.proofs.Adds.{first_there, last_there}
use Rattle.tsc_striped.proofs.Histories.{kept_in, kept_up_over}
use Rattle.tsc_striped.proofs.Overlaps.{meets_at, above_rises, below_rises}
use Rattle.timestamp_cache.proofs.TakingOver.{reported_below}
use Rattle.timestamp_cache.specs.HandOver.{Summary, Summarizes, IsWithin, summary_answer}
use Rattle.timestamp_cache.specs.HandOver.{marks_reported}
use Rattle.tsc_striped_leases.specs.Leases.{ReportReads, SummarizeFrom, SummarizesInStripes}
use Rattle.tsc_striped_leases.specs.Leases.{TakesOverInStripes, ReadsAreHandedOn}
use Rattle.timestamp_cache.proofs.Rising.{summaries_report_no_less}
use Rattle.timestamp_cache.proofs.Reporting.{IsBound, joint_below}
use Rattle.timestamp_cache.proofs.Within.{within_overlaps, overlaps_wider}
use Rattle.tsc_striped_leases.proofs.Parts.{is_part_of}

-- a span within another touches no other stripes
first_within : (bounds : List KeyBytes) (inner outer : SpanView) → IsWithin inner outer
    → first_touched bounds outer ≤ first_touched bounds inner
first_within bounds nothing outer w = absurd w
first_within bounds (between first stop) nothing w = absurd w
first_within bounds (between first stop) (between from to) w = above_rises bounds from first w.1

last_within : (bounds : List KeyBytes) (inner outer : SpanView) → IsWithin inner outer
    → last_touched bounds inner ≤ last_touched bounds outer
last_within bounds nothing outer w = absurd w
last_within bounds (between first stop) nothing w = absurd w
last_within bounds (between first stop) (between from to) w = below_rises bounds stop to w.2

-- The summary of one of some stripes.
record IsReportedOf (terms : Terms) (h : History) (of : SpanView) (most stripe : ℕ)
    (reported : List Summary) : Type 0 where
  cache : CacheView
  one : Summary
  there : IsIn reported one
  stands : IsStateOn terms stripe h cache
  summarizes : Summarizes cache (piece_of terms.bounds stripe of) most one

reported_of : (terms : Terms) (h : History) (of : SpanView) (most k from : ℕ)
    (caches : List CacheView) (reported : List Summary) → StandFrom terms h from caches
    → SummarizeFrom terms.bounds of most from caches reported → k < length caches
    → IsReportedOf terms h of most (from + k) reported
reported_of terms h of most k from [] reported stand zip low = absurd (omega (arith, low))
reported_of terms h of most k from (cache ∷ caches) [] stand zip low = absurd zip
reported_of terms h of most zero from (cache ∷ caches) (one ∷ reported) stand zip low =
    let same : from ≡ from + 0 = omega arith in record {
      cache = cache;
      one = one;
      there = inl refl;
      stands = subst (λ (i : ℕ). IsStateOn terms i h cache) same stand.0;
      summarizes =
          subst (λ (i : ℕ). Summarizes cache (piece_of terms.bounds i of) most one) same zip.0;
    }
reported_of terms h of most (suc k) from (cache ∷ caches) (one ∷ reported) stand zip low =
    let r = reported_of terms h of most k (suc from) caches reported stand.1 zip.1
    (omega (arith, low)) in
    let same : suc from + k ≡ from + suc k = omega arith in record {
      cache = r.cache;
      one = r.one;
      there = inr r.there;
      stands = subst (λ (i : ℕ). IsStateOn terms i h r.cache) same r.stands;
      summarizes = subst (λ (i : ℕ). Summarizes r.cache (piece_of terms.bounds i of) most r.one)
          same r.summarizes;
    }

-- together they tell no less than each read
report_reads : (terms : Terms) (h : History) (of : SpanView) (most : ℕ) (caches : List CacheView)
    (reported : List Summary) → are_in_order terms.bounds ≡ true
    → length caches ≡ suc (last_touched terms.bounds of - first_touched terms.bounds of)
    → StandFrom terms h (first_touched terms.bounds of) caches
    → SummarizeFrom terms.bounds of most (first_touched terms.bounds of) caches reported
    → ReportReads h of reported
report_reads terms h of most caches reported up all stand zip inner e m within there own over =
    let at = meets_at terms.bounds m.span inner up over in
    let meet = at.meet in
    let part : SpanView = between at.start at.stop in
    let from : ℕ = first_touched terms.bounds of in
    let low : from ≤ first_touched terms.bounds inner = first_within terms.bounds inner of within in
    let high : last_touched terms.bounds inner ≤ last_touched terms.bounds of =
    last_within terms.bounds inner of within in
    let k : ℕ = meet.stripe - from in
    let r = reported_of terms h of most k from caches reported stand zip
    (omega (arith, all, low, high, at.first, at.last_)) in
    let here : from + k ≡ meet.stripe = omega (arith, low, at.first) in
    let stands : IsStateOn terms meet.stripe h r.cache =
    subst (λ (i : ℕ). IsStateOn terms i h r.cache) here r.stands in
    let summarizes : Summarizes r.cache (piece_of terms.bounds meet.stripe of) most r.one =
    subst (λ (i : ℕ). Summarizes r.cache (piece_of terms.bounds i of) most r.one) here
    r.summarizes in
    let its = is_part_of terms.bounds meet.stripe at.start at.stop inner of within at.part at.below in
    let in_one : IsWithin part r.one.span =
    subst (IsWithin part) (sym summarizes.span) its.wider in record {
      one = r.one;
      there = Contains-from_IsIn reported r.one r.there;
      part = part;
      within = its.within;
      its = in_one;
      no_less = IsAtMost-transitive m.value (look (state_on terms meet.stripe h) part)
          (summary_answer r.one part) (kept_in terms h e m part there own meet)
          (summaries_report_no_less.no_less (state_on terms meet.stripe h) r.one part
          (summarizes.answers terms.config (state_on terms meet.stripe h) stands) in_one);
    }

-- ---- one summary after another

summarize_push : (bounds : List KeyBytes) (of : SpanView) (most stripe : ℕ) (xs : List CacheView)
    (ss : List Summary) (x : CacheView) (s : Summary) → SummarizeFrom bounds of most stripe xs ss
    → Summarizes x (piece_of bounds (stripe + length xs) of) most s
    → SummarizeFrom bounds of most stripe (xs ++ x ∷ []) (ss ++ s ∷ [])
summarize_push bounds of most stripe [] [] x s all one =
    let same : stripe + 0 ≡ stripe = omega arith in
    (subst (λ (i : ℕ). Summarizes x (piece_of bounds i of) most s) same one, tt)
summarize_push bounds of most stripe [] (t ∷ ss) x s all one = absurd all
summarize_push bounds of most stripe (y ∷ xs) [] x s all one = absurd all
summarize_push bounds of most stripe (y ∷ xs) (t ∷ ss) x s all one =
    let same : stripe + suc (length xs) ≡ suc stripe + length xs = omega arith in (
      all.0,
      summarize_push bounds of most (suc stripe) xs ss x s all.1
          (subst (λ (i : ℕ). Summarizes x (piece_of bounds i of) most s) same one),
    )

-- there is a summary of each of the first caches, and the next one is that of this stripe
pub record AreSummed (bounds : List KeyBytes) (of : SpanView) (most first : ℕ)
    (all left : List CacheView) (reported : List Summary) (stripe : ℕ) : Type 0 where
  pub before : List CacheView
  pub parts : all ≡ before ++ left
  pub place : stripe ≡ first + length before
  pub summarize : SummarizeFrom bounds of most first before reported

pub none_summed : (bounds : List KeyBytes) (of : SpanView) (most first : ℕ)
    (all left : List CacheView) (reported : List Summary) → reported ≡ [] → left ≡ all
    → AreSummed bounds of most first all left reported first
none_summed bounds of most first all left reported is same = record {
  before = [];
  parts = sym same;
  place = omega arith;
  summarize = subst (λ (ss : List Summary). SummarizeFrom bounds of most first [] ss) (sym is) tt;
}

pub one_more_summed : (bounds : List KeyBytes) (of : SpanView) (most first : ℕ)
    (all left others : List CacheView) (reported more : List Summary) (stripe next : ℕ)
    (x : CacheView) (s : Summary) → AreSummed bounds of most first all left reported stripe
    → left ≡ x ∷ others → more ≡ reported ++ s ∷ [] → next ≡ stripe + 1
    → Summarizes x (piece_of bounds stripe of) most s
    → AreSummed bounds of most first all others more next
one_more_summed bounds of most first all left others reported more stripe next x s so_far is last_
    up
    one = record {
      before = so_far.before ++ x ∷ [];
      parts = so_far.parts ∙ ap (λ (xs : List CacheView). so_far.before ++ xs) is ∙
          sym (append_assoc so_far.before (x ∷ []) others);
      place = omega (arith, up, so_far.place, length-append so_far.before (x ∷ []));
      summarize = subst (λ (ss : List Summary). SummarizeFrom bounds of most first
          (so_far.before ++ x ∷ []) ss) (sym last_)
          (summarize_push bounds of most first so_far.before reported x s so_far.summarize
          (subst (λ (i : ℕ). Summarizes x (piece_of bounds i of) most s) so_far.place one));
    }

-- whose place is still below a bound on all of them
pub stripe_there : (bounds : List KeyBytes) (of : SpanView) (most first n : ℕ)
    (all left : List CacheView) (reported : List Summary) (stripe : ℕ)
    → AreSummed bounds of most first all left reported stripe → first + length all ≤ n
    → 0 < length left → stripe < n
stripe_there bounds of most first n all left reported stripe so_far le some = omega (
  arith,
  so_far.place,
  le,
  some,
  ap length so_far.parts ∙ length-append so_far.before left,
)

-- the first of what is left at an index
pub some_left : (xs : List CacheView) (i : ℕ) → i < length xs → 0 < length (drop i xs)
some_left [] i low = absurd (omega (arith, low))
some_left (x ∷ xs) zero low = omega arith
some_left (x ∷ xs) (suc i) low = some_left xs i (omega (arith, low))

pub all_summed : (bounds : List KeyBytes) (of : SpanView) (most first : ℕ)
    (all left : List CacheView) (reported : List Summary) (stripe : ℕ)
    → AreSummed bounds of most first all left reported stripe → length left ≡ 0
    → SummarizeFrom bounds of most first all reported
all_summed bounds of most first all [] reported stripe so_far is =
    subst (λ (xs : List CacheView). SummarizeFrom bounds of most first xs reported)
    (sym (so_far.parts ∙ append-nil so_far.before)) so_far.summarize
all_summed bounds of most first all (x ∷ left) reported stripe so_far is = absurd
    (omega (arith, is))

-- the stripes of a snapshot are there
pub all_there : (bounds own : List KeyBytes) (of : SpanView) (first count : ℕ) → bounds ≡ own
    → first ≡ first_touched bounds of → count ≡ suc (last_touched bounds of - first)
    → first + count ≤ stripe_count own
all_there bounds own of first count same is all =
    subst (λ (b : List KeyBytes). first + count ≤ stripe_count b) same
    (omega (arith, is, all, first_there bounds of, last_there bounds of))

-- so a seat summarizes by a snapshot
pub summarizes_in_stripes : (old new : SeatView) (of : SpanView) (most : ℕ) (snapshot : Snapshot)
    (reported : List Summary) → IsSeat old → TakesSnapshot old new of snapshot
    → SummarizeFrom old.cache.terms.bounds of most snapshot.first snapshot.caches.items reported
    → SummarizesInStripes old new of most reported
summarizes_in_stripes old new of most snapshot reported is taken zip =
    let terms = old.cache.terms in
    let caches = snapshot.caches.items in
    let all = taken.all ∙ ap (λ (i : ℕ). suc (last_touched terms.bounds of - i)) taken.first in
    let stand = subst (λ (i : ℕ). StandFrom terms new.seen i caches) taken.first taken.stand in
    let each = subst (λ (i : ℕ). SummarizeFrom terms.bounds of most i caches reported) taken.first zip in
    record {
      looked = record { goes_on = taken.goes_on; count = taken.count };
      caches = caches;
      all = all;
      stand = stand;
      summarize = each;
      reads = report_reads terms new.seen of most caches reported is.settled.in_order all stand
          each;
    }

-- ---- taking over

-- who has seen the entry of a summary's marks has taken it over
takes_over_entry : (seat : SeatView) (reported : Summary) (e : Entry) → IsSeat seat
    → Contains seat.seen e → e.marks ≡ marks_reported reported → TakesOverInStripes seat reported
takes_over_entry seat reported e is there marks part inner within wider =
    reported_below reported part _ within (λ m c over. kept_up_over seat.cache.terms seat.seen e m
    inner is.settled.in_order there (subst (λ (ms : List Mark). Contains ms m) (sym marks) c)
    (overlaps_wider m.span part inner wider over))

takes_over_accepted : (old new : SeatView) (reported : Summary) (now : Time) (receipt : Receipt)
    → IsSeat new → Accepts old new (marks_reported reported) now receipt →
    TakesOverInStripes new reported
takes_over_accepted old new reported now receipt is a =
    let e : Entry = entry_by old (marks_reported reported) now in
    takes_over_entry new reported e is
    (subst (λ (h : History). Contains h e) (sym a.seen)
    (Contains-append_right a.before (e ∷ []) e (Contains-from_IsIn (e ∷ []) e (inl refl)))) refl

pub takes_over_once_added : (old new : SeatView) (reported : Summary) (now : Time)
    (r : Result Receipt AddFault) → AnswersAdd old new (marks_reported reported) now r
    → OnOk r (TakesOverInStripes new reported)
takes_over_once_added old new reported now (Ok receipt) a =
    takes_over_accepted old new reported now receipt a.seat.is_seat a.accepted
takes_over_once_added old new reported now (Err fault) a = tt

pub takes_over_once_tried : (old new : SeatView) (reported : Summary) (now : Time)
    (tries : Option ℕ)
    (r : Result Receipt TryAddFault) → AnswersTriedAdd old new (marks_reported reported) now tries r
    → OnOk r (TakesOverInStripes new reported)
takes_over_once_tried old new reported now tries (Ok receipt) a =
    takes_over_accepted old new reported now receipt a.seat.is_seat a.accepted
takes_over_once_tried old new reported now tries (Err fault) a = tt

-- ---- from the former holder to the next

pub reads_are_handed_on : ReadsAreHandedOn
reads_are_handed_on h of reported seat reports taken inner e m within there own over =
    let t = reports inner e m within there own over in
    IsAtMost-transitive m.value (summary_answer t.one t.part)
    (look_over seat.cache.terms seat.seen inner) t.no_less
    (taken t.one t.there t.part inner t.its t.within)
