-- What holds of the reads of a plan, once each of them was made.
use Rattle.std.proofs.Common.{◌≡◌, ◌∙◌, ap, sym, subst, refl, ℕ, zero, suc, ◌+◌, ◌<◌, ◌^◌, List, [], ◌∷◌, length, drop, slice_index_or, below_more, Bor, Bool, true, false, arith}
use Rattle.std.specs.Prelude.{Option, Some, None, Result, Ok, Err, IfSome, IfOk, unwrap_or, if◌then◌else◌}
use Rattle.std.specs.Int.{to_be_bytes, from_be_bytes, w32, w128}
use Rattle.std.proofs.lemmas.Nat.{from_be_bytes-to_be_bytes_4}
use Rattle.std.proofs.Math.Logic.{∥∥₁_map}
use Rattle.tsc_cache.proofs.Beginnings.{begins_entries}
use Rattle.timestamp_cache.specs.Words.{Time, is_before, Owner, ValueView, SpanView, point, History, BeginsWith}
use Rattle.timestamp_cache.specs.Clear.{IsClearOfReads}
use Rattle.example_lease_holder.specs.declared.Plan.{Plan}
use Rattle.example_lease_holder.specs.declared.lease.Written.{Written}
use Rattle.example_lease_holder.specs.Reads.{HasRead, IsClearFor, read_of, since}
use Rattle.example_lease_holder.specs.Plans.{time_at, id_of, MayWriteAt}
use Rattle.example_lease_holder.proofs.Since.{since_begins, since_earlier}

-- the time that there is, or another one
pub time_or : (b : Bool) (time other : Time) →
    unwrap_or (if b then Some time else None) other ≡ (if b then time else other)
time_or true time other = refl
time_or false time other = refl

-- Names of four bytes whose ids are the same are the same.
pub same_name : (a b : ℕ) → a < 2 ^ 32 → b < 2 ^ 32 → id_of a ≡ id_of b → a ≡ b
unfolding id_of
same_name a b small little same =
    sym (from_be_bytes-to_be_bytes_4 a small) ∙
    ap (λ (bytes : List ℕ). from_be_bytes w32 (drop 12 bytes)) same ∙
    from_be_bytes-to_be_bytes_4 b little

-- the id of a name
pub id_is : (name number : ℕ) (id : Owner) → id ≡ to_be_bytes w128 number → number ≡ name →
    id ≡ id_of name
unfolding id_of
id_is name number id is same = is ∙ ap (to_be_bytes w128) same

-- what a history has, each that begins with it has too
pub there_still : (span : SpanView) (h start : History) (read : ValueView) → BeginsWith h start →
    HasRead span start read → HasRead span h read
there_still span h start read begins has = ∥∥₁_map has (λ adds. record {
  entry = adds.entry;
  mark = adds.mark;
  there = begins_entries h start adds.entry begins adds.there;
  own = adds.own;
  over = adds.over;
  value = adds.value;
})

-- what stands at a place of a list, whatever stands for a place beyond
same_there : {A : Type 0} (xs : List A) (n : ℕ) (d e : A) → n < length xs →
    slice_index_or xs n d ≡ slice_index_or xs n e
same_there [] n d e below = absurd (omega (arith, below))
same_there (x ∷ xs) zero d e below = refl
same_there (x ∷ xs) (suc n) d e below = same_there xs n d e (omega (arith, below))

-- a history has so many of the reads of a plan, the first ones
abbrev pub HasFirst : Plan → ℕ → History → Type 0
HasFirst plan n h = (k : ℕ) (d : Bor (List ℕ) × ℕ) → k < n
    → HasRead (point (slice_index_or plan.reads.now k d).0.now) h
    (read_of (time_at (slice_index_or plan.reads.now k d).1) (id_of plan.name))

-- and one more, where that was read
pub one_read_more : (plan : Plan) (h before start : History) (n : ℕ) (d : Bor (List ℕ) × ℕ)
    → n < length plan.reads.now → BeginsWith h before → BeginsWith before start
    → HasFirst plan n (since start before)
    → HasRead (point (slice_index_or plan.reads.now n d).0.now) (since before h)
    (read_of (time_at (slice_index_or plan.reads.now n d).1) (id_of plan.name))
    → HasFirst plan (n + 1) (since start h)
one_read_more plan h before start n d0 there begins onward first last k d below =
    let rows = plan.reads.now in
    let IsRead : (Bor (List ℕ) × ℕ) → Type 0 =
    λ row. HasRead (point row.0.now) (since start h)
    (read_of (time_at row.1) (id_of plan.name)) in
    let P : ℕ → Type 0 = λ k. (d : Bor (List ℕ) × ℕ) → IsRead (slice_index_or rows k d) in
    let row : Bor (List ℕ) × ℕ = slice_index_or rows n d0 in
    let own : IsRead row = since_earlier (point row.0.now) h before start
    (read_of (time_at row.1) (id_of plan.name)) begins onward last in
    let here : P n = λ d. subst IsRead (same_there rows n d0 d there) own in
    below_more P n (λ k lower d. there_still _ (since start h) (since start before) _
    (since_begins h before start begins onward) (first k d lower)) here k below d

-- What a write of a plan's key is told is a time at which its transaction may write.
pub may_write : (plan : Plan) (h : History) (by : Owner) (wanted at : Time) → by ≡ id_of plan.name →
    wanted ≡ time_at plan.write.1 → is_before at wanted ≡ false
    → IsClearOfReads h (point plan.write.0.now) by at → MayWriteAt plan h at
may_write plan h by wanted at own from on clear = record {
  from_on = subst (λ (w : Time). is_before at w ≡ false) from on;
  clear = subst (λ (o : Owner). IsClearOfReads h (point plan.write.0.now) o at) own clear;
}

pub may_write_reported : {E : Type 0} (r : Result Written E) (plan : Plan) (h : History)
    (by : Owner) (wanted : Time) → by ≡ id_of plan.name → wanted ≡ time_at plan.write.1
    → IfOk r (λ written. is_before written.at wanted ≡ false) →
    IfOk r (λ written. IsClearOfReads h (point plan.write.0.now) by written.at) →
    IfOk r (λ written. MayWriteAt plan h written.at)
may_write_reported (Ok written) plan h by wanted own from on clear =
    may_write plan h by wanted written.at own from on clear
may_write_reported (Err e) plan h by wanted own from on clear = tt

-- What is clear of the reads on a span that a write was told of is clear of those on its key.
pub clear_at : (h : History) (span : SpanView) (key : List ℕ) (by : Owner) (at : Time)
    (reported : Option Time) (reads : List ValueView) → reported ≡ Some at → span ≡ point key →
    IfSome reported (λ t. IsClearFor reads h span by t) → IsClearOfReads h (point key) by at
clear_at h span key by at reported reads is own clear =
    let here : IfSome (Some at) (λ t. IsClearFor reads h span by t) =
    subst (λ (o : Option Time). IfSome o (λ t. IsClearFor reads h span by t)) is clear in
    subst (λ (s : SpanView). IsClearOfReads h s by at) own here.seen
