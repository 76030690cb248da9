-- Reads that were answered stay in what is handed on, and a write that is clear of each read there
-- is clear of them.
use Rattle.std.proofs.Common.{◌≡◌, ◌∙◌, ap, List, [], ◌∷◌, ◌++◌, append_assoc, All, slice_index_or, Bool, true, false, inl, inr, refl, sym, subst}
use Rattle.std.specs.List.{Contains}
use Rattle.std.specs.Prelude.{Option, Some, None, IfSome, if◌then◌else◌}
use Rattle.std.proofs.Math.Logic.{∥∥₁_elim, ∥∥₁_map}
use Rattle.std.proofs.lemmas.List.Elements.{All-append, All-nil, All-push, Contains-push}
use Rattle.tsc_span.specs.Span.{SpanView, KeyBytes, point, overlaps, before, after}
use Rattle.tsc_span.proofs.CutsTotal.{sides_in_order}
use Rattle.tsc_span.proofs.Overlaps.{overlaps-each}
use Rattle.tsc_cache.proofs.Beginnings.{begins_entries, begins_on}
use Rattle.tsc_shared.specs.declared.answers.Receipt.{Receipt}
use Rattle.tsc_shared.specs.Answers.{Accepts, entry_by}
use Rattle.timestamp_cache.specs.Words.{Time, Owner, ValueView, History, BeginsWith}
use Rattle.timestamp_cache.specs.Words.{SeatView, FrontView}
use Rattle.timestamp_cache.specs.Clear.{IsClearOf, IsClearOfReads, AsksEarliestAt}
use Rattle.timestamp_cache.proofs.Deciding.{clear_or_not}
use Rattle.example_lease_holder.specs.declared.reads.ReadCache.{ReadCache}
use Rattle.example_lease_holder.specs.declared.reads.ReadSeat.{ReadSeat}
use Rattle.example_lease_holder.specs.declared.reads.ReadCache.TheVariants as cache
use Rattle.example_lease_holder.specs.declared.reads.ReadSeat.TheVariants.{Copies}
use Rattle.example_lease_holder.specs.declared.reads.ReadFront.{ReadFront}
use Rattle.example_lease_holder.specs.declared.reads.ReadFront.TheVariants as front
use Rattle.example_lease_holder.specs.ReadSeats.{seen_by, cache_of, shown_by, GoesOn, AddsRead}
use Rattle.example_lease_holder.specs.ReadSeats.{read_seat}
use Rattle.example_lease_holder.specs.ReadSeatLaws.{read_seat_laws, read_seat_stays}
use Rattle.example_lease_holder.specs.Reads.{HasRead, IsClearFor, since}
use Rattle.example_lease_holder.proofs.Since.{since_rest}

-- a key's span is met by itself
pub point_overlaps_itself : (s : SpanView) (key : KeyBytes) → s ≡ point key → overlaps s s ≡ true
point_overlaps_itself s key is = rw (
  is,
  overlaps-each (before key) (after key) (before key) (after key),
  sides_in_order key,
) refl

-- what a history has, each that begins with it has too
pub all_there_still : (span : SpanView) (h start : History) (reads : List ValueView) →
    BeginsWith h start → All (HasRead span start) reads → All (HasRead span h) reads
all_there_still span h start reads begins all k d below = ∥∥₁_map (all k d below) (λ adds. record {
  entry = adds.entry;
  mark = adds.mark;
  there = begins_entries h start adds.entry begins adds.there;
  own = adds.own;
  over = adds.over;
  value = adds.value;
})

-- an accepted Add to a cache with two copies has added a read
pub adds_in_copies : (old new : SeatView) (span : SpanView) (read : ValueView) (at : Time)
    (receipt : Receipt) → Accepts old new (record { span = span; value = read } ∷ []) at receipt →
    AddsRead (Copies old) (Copies new) span read (front.Copies receipt.front)
adds_in_copies old new span read at receipt adds = record {
  before = adds.before;
  entry = entry_by old (record { span = span; value = read } ∷ []) at;
  begins = adds.begins;
  seen = adds.seen;
  marks = refl;
  front = ap (λ (f : FrontView). f.seen) adds.front;
  cache = ap (λ (f : FrontView). cache.Copies f.cache) adds.front;
}

-- a read that was added is there
pub added_there : (old new : ReadSeat) (span : SpanView) (read : ValueView) (front : ReadFront) →
    AddsRead old new span read front → overlaps span span ≡ true → HasRead span (seen_by new) read
added_there old new span read front adds whole = ∣ record {
  entry = adds.entry;
  mark = record { span = span; value = read };
  there = subst (λ (h : History). Contains h adds.entry) (sym adds.seen)
      (Contains-push adds.before adds.entry);
  own = subst (λ ms. Contains ms (record { span = span; value = read })) (sym adds.marks)
      (Contains-push [] (record { span = span; value = read }));
  over = whole;
  value = refl;
} ∣₁

-- and that since
pub added_since : (old new : ReadSeat) (span : SpanView) (read : ValueView) (front : ReadFront) →
    AddsRead old new span read front → overlaps span span ≡ true →
    HasRead span (since (seen_by old) (seen_by new)) read
added_since old new span read front adds whole =
    let start = seen_by old in
    let rest = adds.begins.0 in
    let all : seen_by new ≡ start ++ (rest ++ adds.entry ∷ []) =
    adds.seen ∙ ap (λ (h : History). h ++ adds.entry ∷ []) adds.begins.1 ∙
    append_assoc start rest (adds.entry ∷ []) in
    ∣ record {
      entry = adds.entry;
      mark = record { span = span; value = read };
      there = subst (λ (h : History). Contains h adds.entry)
          (sym (since_rest (seen_by new) start (rest ++ adds.entry ∷ []) all))
          (Contains-push rest adds.entry);
      own = subst (λ ms. Contains ms (record { span = span; value = read })) (sym adds.marks)
          (Contains-push [] (record { span = span; value = read }));
      over = whole;
      value = refl;
    } ∣₁

-- a write that is clear of each read in a history is clear of those that it has
pub clear_of_all : (span : SpanView) (h : History) (by : Owner) (at : Time) (reads : List ValueView)
    → IsClearOfReads h span by at → All (HasRead span h) reads →
    All (λ read. IsClearOf read by at) reads
clear_of_all span h by at reads clear all k d below =
    elim (clear_or_not (slice_index_or reads k d) by at) [
      | inl is ↦ is
      | inr not ↦ absurd (∥∥₁_elim (all k d below) (λ x y. absurd x) (λ adds.
          not (subst (λ (read : ValueView). IsClearOf read by at) adds.value
          (clear adds.entry adds.mark adds.there adds.own adds.over))))
    ]

-- what was there is there still where a seat goes on, at the same cache
pub still_all : (at : ReadCache) (old new : ReadSeat) (span : SpanView) (reads : List ValueView) →
    GoesOn old new → cache_of old ≡ at → All (HasRead span (seen_by old)) reads →
    (cache_of new ≡ at) × All (HasRead span (seen_by new)) reads
still_all at old new span reads on own all = (
  read_seat_stays at old new own on,
  all_there_still span (seen_by new) (seen_by old) reads (read_seat_laws.begins old new on) all,
)

-- A read that was added is handed on with the others, once its front was learned.
pub handed_on : (old new : ReadSeat) (span own : SpanView) (read : ValueView) (front : ReadFront)
    (handed : History) (reads : List ValueView)
    → own ≡ span → AddsRead old new span read front → overlaps own own ≡ true →
    BeginsWith handed (shown_by front) → All (HasRead own handed) reads →
    All (HasRead own handed) (reads ++ read ∷ [])
handed_on old new span own read front handed reads same adds whole begins all =
    let seen : History = seen_by new in
    let shown : BeginsWith handed seen =
    subst (λ (h : History). BeginsWith handed h) adds.front begins in
    let there : HasRead span seen read = added_there old new span read front adds
    (subst (λ (s : SpanView). overlaps s s ≡ true) same whole) in
    let here : HasRead own seen read =
    subst (λ (s : SpanView). HasRead s seen read) (sym same) there in
    let last : All (HasRead own seen) (read ∷ []) =
    All-push (HasRead own seen) [] read (All-nil (HasRead own seen)) here in
    All-append (HasRead own handed) reads (read ∷ []) all
    (all_there_still own handed seen (read ∷ []) shown last)

-- all that were answered, whether one more was kept or not
pub kept_or_not : (P : ValueView → Type 0) (xs ys : List ValueView) (x : ValueView) (b : Bool) →
    ys ≡ (if b then xs ++ x ∷ [] else xs) → All P xs → All P (xs ++ x ∷ []) → All P ys
kept_or_not P xs ys x true is all more = subst (All P) (sym is) more
kept_or_not P xs ys x false is all more = subst (All P) (sym is) all

pub one_more : (xs ys zs : List ValueView) (x y : ValueView) → zs ≡ ys ++ x ∷ [] → ys ≡ xs → x ≡ y →
    zs ≡ xs ++ y ∷ []
one_more xs ys zs x y is same own = is ∙ ap (λ (l : List ValueView). l ++ x ∷ []) same ∙
    ap (λ (v : ValueView). xs ++ v ∷ []) own

-- A write is clear of all reads that are handed on to its seat before it asks, and of what its seat
-- has seen.
pub clear_of_handed : (span own : SpanView) (handed : History) (old new : ReadSeat) (by : Owner)
    (from : Time) (reported : Option Time) (reads : List ValueView)
    → own ≡ span → BeginsWith (seen_by old) handed →
    AsksEarliestAt read_seat old new own by from reported → All (HasRead span handed) reads →
    IfSome reported (λ at. IsClearFor reads (seen_by new) span by at)
clear_of_handed span own handed old new by from None reads same begins asks all = tt
clear_of_handed span own handed old new by from (Some at) reads same begins asks all =
    let seen : History = seen_by new in
    let clear = subst (λ (s : SpanView). IsClearOfReads seen s by at) same asks.reads in
    record {
      answered = clear_of_all span seen by at reads clear
          (all_there_still span seen handed reads
          (begins_on seen (seen_by old) handed (read_seat_laws.begins old new asks.goes_on) begins)
          all);
      seen = clear;
    }
