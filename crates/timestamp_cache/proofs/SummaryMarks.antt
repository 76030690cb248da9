-- Marks, one behind the other, and what is told as a whole.
use Rattle.std.proofs.Common.{arith, ◌≡◌, ℕ, zero, suc, ◌+◌, ◌-◌, ◌^◌, ◌<◌, ◌≤◌, true, cond}
use Rattle.std.proofs.Common.{eqb, List, [], ◌∷◌, ◌++◌, length, get_or, drop, Ok, Err, refl}
use Rattle.std.proofs.Common.{sym, ap, subst, ◌∙◌, append_assoc}
use Rattle.std.specs.List.{flat_map, AllByRecursion}
use Rattle.std.specs.Int.{w64, to_be_bytes}
use Rattle.std.proofs.lemmas.Bool.{eqb-true}
use Rattle.std.proofs.lemmas.List.{append-nil, nil_from_length, drop_all}
use Rattle.std.proofs.Math.Seq.{drop-cons}
use Rattle.std.proofs.lemmas.List.Concat.{flat_map-cons}
use Rattle.tsc_time.specs.Time.{Time, is_in_range}
use Rattle.tsc_span.specs.Span.{SpanView}
use Rattle.tsc_span.specs.MadeSpan.{IsMadeSpan}
use Rattle.tsc_page_model.specs.Page.{Mark}
use Rattle.timestamp_cache.specs.declared.summary_fault.SummaryFault.{SummaryFault}
use Rattle.timestamp_cache.specs.declared.summary_fault.SummaryFault.TheVariants as faults
use Rattle.timestamp_cache.specs.declared.summary_fault.SummaryFault.TheVariants.{Form}
use Rattle.timestamp_cache.specs.HandOver.{Summary}
use Rattle.timestamp_cache.specs.SummaryBytes.{span_bytes, time_bytes, mark_bytes, marks_bytes}
use Rattle.timestamp_cache.specs.SummaryBytes.{content_bytes, IsMadeMark, IsMadeSummary}
use Rattle.timestamp_cache.specs.SummaryReading.{Part, ◌>>=◌, Fails, number_at, span_at}
use Rattle.timestamp_cache.specs.SummaryReading.{time_at, mark_at, marks_at, counted_at, reads_at}
use Rattle.timestamp_cache.specs.SummaryReading.{reported_at, reported_by}
use Rattle.timestamp_cache.proofs.SummaryParts.{AreBytes, bind_ok, test_ok, ok, same_ok, Takes}
use Rattle.timestamp_cache.proofs.SummaryParts.{takes_both, IsPart, joined, wide_part}
use Rattle.timestamp_cache.proofs.SummaryFields.{span_part, time_part, mark_part}

-- ---- so many marks

marks_again : (ms : List Mark) (rest : List ℕ) → AllByRecursion IsMadeMark ms → marks_at (length ms)
    (flat_map mark_bytes ms ++ rest) ≡ Ok (ms, rest)
unfolding marks_at
marks_again [] rest made = refl
marks_again (m ∷ ms) rest made =
    let behind : flat_map mark_bytes (m ∷ ms) ++ rest ≡ mark_bytes m ++
    (flat_map mark_bytes ms ++ rest) =
    ap (λ (x : List ℕ). x ++ rest) (flat_map-cons mark_bytes m ms) ∙ append_assoc (mark_bytes m)
    (flat_map mark_bytes ms) rest in
    ap (marks_at (suc (length ms))) behind
    ∙ ap (λ (r : Part Mark). r >>= λ first. marks_at (length ms) first.1 >>= λ others. Ok
    (first.0 ∷ others.0, others.1)) (mark_part.again m (flat_map mark_bytes ms ++ rest) made.0)
    ∙ ap (λ (r : Part (List Mark)). r >>= λ others. Ok (m ∷ others.0, others.1))
    (marks_again ms rest made.1)

marks_taken : (n : ℕ) (bytes : List ℕ) (p : List Mark × List ℕ) → AreBytes bytes → marks_at n bytes
    ≡ Ok p → Takes bytes (flat_map mark_bytes p.0) p.1 × (length p.0 ≡ n) × AllByRecursion
    IsMadeMark p.0
unfolding marks_at
marks_taken zero bytes p small e =
    let read : List Mark × List ℕ = ([], bytes) in
    subst (λ (q : List Mark × List ℕ). Takes bytes (flat_map mark_bytes q.0) q.1 × (length q.0 ≡ 0)
    × AllByRecursion IsMadeMark q.0) (same_ok read p e)
    (record { parts = refl; small = small }, refl, tt)
marks_taken (suc n) bytes p small e =
    let a = bind_ok (mark_at bytes) (λ first. marks_at n first.1 >>= λ others. Ok
    (first.0 ∷ others.0, others.1)) p e in
    let b = bind_ok (marks_at n a.0.1) (λ others. Ok (a.0.0 ∷ others.0, others.1)) p a.2 in
    let first = mark_part.taken bytes a.0 small a.1 in
    let others = marks_taken n a.0.1 b.0 first.0.small b.1 in
    let both = takes_both bytes (mark_bytes a.0.0) a.0.1 (flat_map mark_bytes b.0.0) b.0.1 first.0
    others.0 in
    let read : List Mark × List ℕ = (a.0.0 ∷ b.0.0, b.0.1) in
    subst (λ (q : List Mark × List ℕ). Takes bytes (flat_map mark_bytes q.0) q.1 ×
    (length q.0 ≡ suc n) × AllByRecursion IsMadeMark q.0) (same_ok read p b.2)
    (rw flat_map-cons both, ap suc others.1, (first.1, others.2))

-- ---- their number, and so many

counted_again : (ms : List Mark) (rest : List ℕ) → length ms < 2 ^ 64 → AllByRecursion IsMadeMark ms
    → counted_at (marks_bytes ms ++ rest) ≡ Ok (ms, rest)
unfolding counted_at
counted_again ms rest count made =
    ap (λ (bytes : List ℕ). number_at w64 bytes >>= λ n. marks_at n.0 n.1)
    (append_assoc (to_be_bytes w64 (length ms)) (flat_map mark_bytes ms) rest)
    ∙ ap (λ (r : Part ℕ). r >>= λ n. marks_at n.0 n.1)
    (wide_part.again (length ms) (flat_map mark_bytes ms ++ rest) count)
    ∙ marks_again ms rest made

counted_taken : (bytes : List ℕ) (p : List Mark × List ℕ) → AreBytes bytes → counted_at bytes ≡ Ok p
    → Takes bytes (marks_bytes p.0) p.1 × ((length p.0 < 2 ^ 64) × AllByRecursion IsMadeMark p.0)
unfolding counted_at
counted_taken bytes p small e =
    let n = bind_ok (number_at w64 bytes) (λ n. marks_at n.0 n.1) p e in
    let t = wide_part.taken bytes n.0 small n.1 in
    let ms = marks_taken n.0.0 n.0.1 p t.0.small n.2 in
    let both : Takes bytes (to_be_bytes w64 n.0.0 ++ flat_map mark_bytes p.0) p.1 = takes_both bytes
    (to_be_bytes w64 n.0.0) n.0.1 (flat_map mark_bytes p.0) p.1 t.0 ms.0 in (
      subst (λ (k : ℕ). Takes bytes (to_be_bytes w64 k ++ flat_map mark_bytes p.0) p.1) (sym ms.1)
          both,
      (omega (arith, ms.1, t.1), ms.2),
    )

counted_part : IsPart marks_bytes counted_at (λ ms. (length ms < 2 ^ 64) × AllByRecursion IsMadeMark
    ms)
counted_part = record {
  again = λ ms rest made. counted_again ms rest made.0 made.1;
  taken =
      counted_taken;
}

-- ---- what is told

-- what is known of a summary that is read
abbrev IsRead : Summary → Type 0
IsRead reported = IsMadeSpan reported.span × ((is_in_range reported.floor ≡ true) ×
    ((length reported.marks < 2 ^ 64) × AllByRecursion IsMadeMark reported.marks))

abbrev reads_bytes : Time × List Mark → List ℕ
reads_bytes reads = time_bytes reads.0 ++ marks_bytes reads.1

abbrev AreMadeReads : Time × List Mark → Type 0
AreMadeReads reads = (is_in_range reads.0 ≡ true) ×
    ((length reads.1 < 2 ^ 64) × AllByRecursion IsMadeMark reads.1)

reads_made : (t : Time) (ms : List Mark) (reads : Time × List Mark) → is_in_range t ≡ true →
    ((length ms < 2 ^ 64) × AllByRecursion IsMadeMark ms) → ok (t, ms) ≡ Ok reads → (reads.0 ≡ t) ×
    (reads.1 ≡ ms) × AreMadeReads reads
reads_made t ms reads range made e =
    let read : Time × List Mark = (t, ms) in
    subst (λ (q : Time × List Mark). (q.0 ≡ t) × (q.1 ≡ ms) × AreMadeReads q) (same_ok read reads e)
    (refl, refl, (range, made))

reads_part : IsPart reads_bytes reads_at AreMadeReads
reads_part =
    joined time_bytes time_at (λ t. is_in_range t ≡ true) marks_bytes counted_at
    (λ ms. (length ms < 2 ^ 64) × AllByRecursion IsMadeMark ms) (λ t ms. Ok (t, ms))
    (λ reads. reads.0) (λ reads. reads.1) AreMadeReads
    time_part counted_part (λ reads made. (made.0, made.1, refl)) reads_made

reported_made : (s : SpanView) (reads : Time × List Mark) (reported : Summary) → IsMadeSpan s →
    AreMadeReads
    reads → ok (record { span = s; floor = reads.0; marks = reads.1 }) ≡ Ok reported
    → (reported.span ≡ s) × ((reported.floor, reported.marks) ≡ reads) × IsRead reported
reported_made s reads reported span made e =
    let read : Summary = record { span = s; floor = reads.0; marks = reads.1 } in
    subst (λ (q : Summary). (q.span ≡ s) × ((q.floor, q.marks) ≡ reads) × IsRead q)
    (same_ok read reported e) (refl, refl, (span, made))

reported_part : IsPart content_bytes reported_at IsRead
unfolding reported_at
reported_part =
    joined span_bytes span_at IsMadeSpan reads_bytes reads_at AreMadeReads
    (λ s reads. Ok (record { span = s; floor = reads.0; marks = reads.1 }))
    (λ reported. reported.span) (λ reported. (reported.floor, reported.marks)) IsRead
    span_part reads_part (λ reported made. (made.0, made.1, refl)) reported_made

pub content_again : (reported : Summary) → IsMadeSummary reported →
    reported_by (content_bytes reported) ≡ Ok reported
unfolding reported_by
content_again reported made =
    ap (λ (bytes : List ℕ). reported_at bytes >>= λ t. cond (eqb (length t.1) 0) (Ok t.0)
    (Err Form))
    (sym (append-nil (content_bytes reported)))
    ∙ ap (λ (r : Part Summary). r >>= λ t. cond (eqb (length t.1) 0) (Ok t.0) (Err Form))
    (reported_part.again reported [] (made.span, (made.floor, (made.count, made.marks))))

pub content_taken : (bytes : List ℕ) (reported : Summary) → AreBytes bytes → length bytes < 2 ^ 64 →
    reported_by bytes ≡ Ok reported → (bytes ≡ content_bytes reported) × IsMadeSummary reported
unfolding reported_by
content_taken bytes reported small size e =
    let t = bind_ok (reported_at bytes) (λ t. cond (eqb (length t.1) 0) (Ok t.0) (Err Form))
    reported e in
    let g = test_ok (eqb (length t.0.1) 0) (Ok t.0.0) Form reported t.2 in
    let taken = reported_part.taken bytes t.0 small t.1 in
    let none : t.0.1 ≡ [] = nil_from_length t.0.1 (eqb-true _ _ g.0) in
    let all : bytes ≡ content_bytes t.0.0 = taken.0.parts ∙ ap
    (λ (rest : List ℕ). content_bytes t.0.0 ++ rest) none ∙ append-nil (content_bytes t.0.0) in
    let made : IsMadeSummary t.0.0 = record {
      span = taken.1.0;
      floor = taken.1.1.0;
      marks =
          taken.1.1.1.1;
      count = taken.1.1.1.0;
      size = subst (λ (x : List ℕ). length x < 2 ^ 64) all
          size;
    } in
    subst (λ (q : Summary). (bytes ≡ content_bytes q) × IsMadeSummary q)
    (same_ok t.0.0 reported g.1)
    (all, made)

-- ---- reading in a loop

-- what was read so far, and what is still read
abbrev pub with_front : List Mark → Part (List Mark) → Part (List Mark)
with_front front read = read >>= λ x. Ok (front ++ x.0, x.1)

one_more : (front : List Mark) (m : Mark) (read : Part (List Mark)) → with_front front
    (read >>= λ x. Ok (m ∷ x.0, x.1)) ≡ with_front (front ++ m ∷ []) read
one_more front m (Ok x) = ap (λ (ms : List Mark). Ok (ms, x.1)) (simp append_assoc)
one_more front m (Err fault) = refl

pub goes_on : (front : List Mark) (count i : ℕ) (bytes : List ℕ) (m : Mark) (after : List ℕ)
    (all : Part (List Mark)) → i < count → mark_at bytes ≡ Ok (m, after)
    → with_front front (marks_at (count - i) bytes) ≡ all → with_front (front ++ m ∷ [])
    (marks_at (count - (i + 1)) after) ≡ all
unfolding marks_at
goes_on front count i bytes m after all lt read so_far =
    let left : count - i ≡ suc (count - (i + 1)) = omega arith in
    let one : with_front front (marks_at (count - i) bytes) ≡ with_front (front ++ m ∷ [])
    (marks_at (count - (i + 1)) after) = rw (left, read)
    (one_more front m (marks_at (count - (i + 1)) after)) in
    sym one ∙ so_far

fails_with : (fault : SummaryFault) (count i : ℕ) (front : List Mark) (bytes : List ℕ)
    (all : Part (List Mark)) → i < count → mark_at bytes ≡ Err fault → with_front front
    (marks_at (count - i) bytes) ≡ all → all ≡ Err fault
unfolding marks_at
fails_with fault count i front bytes all lt read so_far =
    let left : count - i ≡ suc (count - (i + 1)) = omega arith in
    let one : with_front front (marks_at (count - i) bytes) ≡ Err fault = rw (left, read) refl in
    sym so_far ∙ one

pub fails : (fault : SummaryFault) (front : List Mark) (count i : ℕ) (bytes : List ℕ)
    (all : Part (List Mark)) → i < count → Fails fault (mark_at bytes)
    → with_front front (marks_at (count - i) bytes) ≡ all → Fails fault all
fails faults.NoMemory front count i bytes all lt read so_far = tt
fails faults.Version front count i bytes all lt read so_far = fails_with faults.Version count i
    front bytes all lt read so_far
fails faults.Length front count i bytes all lt read so_far = fails_with faults.Length count i front
    bytes all lt read so_far
fails faults.Checksum front count i bytes all lt read so_far = fails_with faults.Checksum count i
    front bytes all lt read so_far
fails faults.Form front count i bytes all lt read so_far = fails_with faults.Form count i front
    bytes all lt read so_far

pub all_read : (front : List Mark) (count i : ℕ) (bytes : List ℕ) (all : Part (List Mark)) → count ≤
    i → with_front front (marks_at (count - i) bytes) ≡ all → all ≡ Ok (front, bytes)
unfolding marks_at
all_read front count i bytes all le so_far =
    let left : count - i ≡ 0 = omega arith in
    let one : with_front front (marks_at (count - i) bytes) ≡ Ok (front, bytes) = rw left
    (ap (λ (ms : List Mark). Ok (ms, bytes)) (append-nil front)) in
    sym so_far ∙ one

-- ---- writing in a loop

-- Of some marks those that are left are yet to be written behind what was there.
pub record IsBeingWritten (old now : List ℕ) (ms left : List Mark) : Type 0 where
  pub bytes : now ++ flat_map mark_bytes left ≡ old ++ marks_bytes ms
  pub made : AllByRecursion IsMadeMark left → AllByRecursion IsMadeMark ms

pub written_first : (old now : List ℕ) (ms : List Mark) → now ≡ old ++ to_be_bytes w64 (length ms) →
    IsBeingWritten old now ms ms
written_first old now ms is = record {
  bytes = ap (λ (x : List ℕ). x ++ flat_map mark_bytes ms) is ∙ append_assoc old
      (to_be_bytes w64 (length ms)) (flat_map mark_bytes ms);
  made = λ made. made;
}

pub written_more : (old now next : List ℕ) (ms : List Mark) (i : ℕ) (m : Mark) → i < length ms → m ≡
    get_or ms i m → next ≡ now ++ mark_bytes m → IsMadeMark m
    → IsBeingWritten old now ms (drop i ms) → IsBeingWritten old next ms (drop (i + 1) ms)
written_more old now next ms i m lt item is made so_far =
    let one : suc i ≡ i + 1 = omega arith in
    let first : drop i ms ≡ m ∷ drop (i + 1) ms = drop-cons ms i m lt ∙ ap
    (λ (x : Mark). x ∷ drop (suc i) ms) (sym item) ∙ ap (λ (k : ℕ). m ∷ drop k ms) one in
    record {
      bytes = ap (λ (x : List ℕ). x ++ flat_map mark_bytes (drop (i + 1) ms)) is
          ∙ append_assoc now (mark_bytes m) (flat_map mark_bytes (drop (i + 1) ms))
          ∙ ap (λ (x : List ℕ). now ++ x) (sym (flat_map-cons mark_bytes m (drop (i + 1) ms)))
          ∙ ap (λ (x : List Mark). now ++ flat_map mark_bytes x) (sym first)
          ∙ so_far.bytes;
      made = λ others. so_far.made (subst (AllByRecursion IsMadeMark) (sym first) (made, others));
    }

pub written_last : (old now : List ℕ) (ms : List Mark) (i : ℕ) → length ms ≤ i → IsBeingWritten old
    now ms (drop i ms) → (now ≡ old ++ marks_bytes ms) × AllByRecursion IsMadeMark ms
written_last old now ms i le so_far =
    let none : drop i ms ≡ [] = drop_all i ms le in (
      sym (append-nil now) ∙ ap (λ (x : List Mark). now ++ flat_map mark_bytes x) (sym none) ∙
          so_far.bytes,
      so_far.made (subst (AllByRecursion IsMadeMark) (sym none) tt),
    )

-- what is written in two goes
pub in_two : (old mid new a b : List ℕ) → mid ≡ old ++ a → new ≡ mid ++ b → new ≡ old ++ (a ++ b)
in_two old mid new a b first second = second ∙ ap (λ (x : List ℕ). x ++ b) first ∙ append_assoc old
    a b
