-- What a lookup over stripes answers is what floors and Adds come to together.
use Rattle.std.proofs.Common.{◌≡◌, ◌⊎◌, ◌∙◌, inl, inr, refl, sym, ap, subst, Bool, true, false}
use Rattle.std.proofs.Common.{ℕ, zero, suc, ◌+◌, ◌-◌, ◌≤◌, List, [], ◌∷◌, ◌++◌, append-nil, arith}
use Rattle.std.specs.Prelude.{if◌then◌else◌}
use Rattle.std.specs.List.{Contains}
use mathlib.Core.Bool.{true≢false}
use Rattle.std.proofs.lemmas.Grind.{flat_map-append}
use Rattle.tsc_time.specs.Time.{Time, is_before, later}
use Rattle.tsc_time.specs.ValueView.{ValueView, unowned}
use Rattle.tsc_time.specs.Joint.{joint_above, IsAtMost, ratcheted}
use Rattle.tsc_time.proofs.TimeOrder.{is_before-itself, is_before-opposite, no_earlier-transitive}
use Rattle.tsc_time.proofs.TimeOrder.{later-reports}
use Rattle.tsc_time.proofs.RatchetOrder.{IsAtMost-antisymmetric, IsAtMost-transitive}
use Rattle.tsc_time.proofs.Members.{IsIn, IsIn-from_Contains, Contains-from_IsIn}
use Rattle.tsc_span.specs.Span.{KeyBytes, Cut, is_below, greater_cut, smaller_cut}
use Rattle.tsc_span.specs.Span.{SpanView, nothing, between, overlaps}
use Rattle.tsc_page_model.specs.Page.{Mark}
use Rattle.tsc_span.proofs.CutOrder.{Le_Lt-chain, Lt_Le-chain, overlaps-reports, overlaps-from}
use Rattle.tsc_cache.specs.declared.history.Entry.{Entry}
use Rattle.tsc_cache.specs.History.{History, marks_of, marks_on}
use Rattle.tsc_cache.proofs.FloorJoints.{above_floor, least_above, more_above}
use Rattle.tsc_cache.proofs.MarkLists.{values_on-has, values_on-from}
use Rattle.tsc_cache.proofs.Histories.{real_answers}
use Rattle.tsc_stripe_table.specs.Stripes.{Terms, stripe_start, stripe_end, piece_of, mark_on}
use Rattle.tsc_stripe_table.specs.Stripes.{marks_in, entry_with, entry_in, part_of, state_on}
use Rattle.tsc_striped.specs.Touching.{first_touched, last_touched}
use Rattle.tsc_striped.specs.Looks.{look_on, look_from, look_over, floor_from, floor_over}
use Rattle.tsc_striped.specs.Laws.{Real}
use Rattle.tsc_striped.proofs.Overlaps.{greater_first, smaller_first_}
use Rattle.tsc_striped.proofs.Histories.{first_below, second_below, both_below, kept_up_over}

-- the floor of a stripe is at most what it answers
pub floor_below : (terms : Terms) (h : History) (s : SpanView) (i : ℕ)
    → IsAtMost (unowned (state_on terms i h).floor) (look_on terms h s i)
floor_below terms h s i =
    let floor : Time = (state_on terms i h).floor in
    let part : History = part_of terms.bounds i h in
    subst (IsAtMost (unowned floor)) (sym (real_answers terms.config part s))
    (above_floor floor (marks_on s part))

-- and the greatest floor of some stripes is at most what these answer
floors_below : (terms : Terms) (h : History) (s : SpanView) (more from : ℕ)
    → IsAtMost (unowned (floor_from terms h from more)) (look_from terms h s from more)
floors_below terms h s zero from = floor_below terms h s from
floors_below terms h s (suc more) from =
    let one : Time = (state_on terms from h).floor in
    let rest : Time = floor_from terms h (suc from) more in
    let v : ValueView = look_on terms h s from in
    let w : ValueView = look_from terms h s (suc from) more in
    elim (later-reports one rest) [
      | inl c ↦ subst (λ (t : Time). IsAtMost (unowned t) (ratcheted v w)) (sym c.1)
          (IsAtMost-transitive (unowned rest) w (ratcheted v w)
          (floors_below terms h s more (suc from)) (second_below v w))
      | inr c ↦ subst (λ (t : Time). IsAtMost (unowned t) (ratcheted v w)) (sym c.1)
          (IsAtMost-transitive (unowned one) v (ratcheted v w) (floor_below terms h s from)
          (first_below v w))
    ]

-- the later of two times is before neither
later_first : (a b : Time) → is_before (later a b) a ≡ false
later_first a b = elim (later-reports a b) [
  | inl c ↦ subst (λ (t : Time). is_before t a ≡ false) (sym c.1) (is_before-opposite a b c.0)
  | inr c ↦ subst (λ (t : Time). is_before t a ≡ false) (sym c.1) (is_before-itself a)
]

later_second : (a b : Time) → is_before (later a b) b ≡ false
later_second a b = elim (later-reports a b) [
  | inl c ↦ subst (λ (t : Time). is_before t b ≡ false) (sym c.1) (is_before-itself b)
  | inr c ↦ subst (λ (t : Time). is_before t b ≡ false) (sym c.1) c.0
]

-- the greatest floor of some stripes is no earlier than that of one of them
floor_among : (terms : Terms) (h : History) (more from i : ℕ) → from ≤ i → i ≤ from + more
    → is_before (floor_from terms h from more) (state_on terms i h).floor ≡ false
floor_among terms h zero from i low high =
    let same : from ≡ i = omega (arith, low, high) in
    subst (λ (k : ℕ). is_before (floor_from terms h from zero) (state_on terms k h).floor ≡ false)
    same (is_before-itself (state_on terms from h).floor)
floor_among terms h (suc more) from i low high =
    by_place (λ above. floor_among terms h more (suc from) i above (omega (arith, high)))
    (here_or_above from i low)
  where
    one : Time
    one = (state_on terms from h).floor

    rest : Time
    rest = floor_from terms h (suc from) more

    here_or_above : (a b : ℕ) → a ≤ b → (a ≡ b) ⊎ (suc a ≤ b)
    here_or_above zero zero le = inl refl
    here_or_above zero (suc b) le = inr (omega arith)
    here_or_above (suc a) zero le = absurd (omega (arith, le))
    here_or_above (suc a) (suc b) le = elim (here_or_above a b (omega (arith, le))) [
      | inl e ↦ inl (ap suc e)
      | inr p ↦ inr (omega (arith, p))
    ]

    -- the recursive call comes in from outside
    by_place : ((suc from ≤ i) → is_before rest (state_on terms i h).floor ≡ false)
        → (from ≡ i) ⊎ (suc from ≤ i)
        → is_before (later one rest) (state_on terms i h).floor ≡ false
    by_place others (inl same) = subst
        (λ (k : ℕ). is_before (later one rest) (state_on terms k h).floor ≡ false) same
        (later_first one rest)
    by_place others (inr above) = no_earlier-transitive (state_on terms i h).floor rest
        (later one rest) (others above) (later_second one rest)

-- what each of some answers is at most, they are together
each_below : (terms : Terms) (h : History) (s : SpanView) (u : ValueView) (more from : ℕ)
    → ((i : ℕ) → from ≤ i → i ≤ from + more → IsAtMost (look_on terms h s i) u)
    → IsAtMost (look_from terms h s from more) u
each_below terms h s u zero from each = each from (omega arith) (omega arith)
each_below terms h s u (suc more) from each =
    both_below (look_on terms h s from) (look_from terms h s (suc from) more) u
    (each from (omega arith) (omega arith))
    (each_below terms h s u more (suc from)
    (λ i low high. each i (omega (arith, low)) (omega (arith, high))))

-- the marks of a part are those of the history, each cut to the stripe
marks_with : (e : Entry) (ms : List Mark) → marks_of (entry_with e ms) ≡ ms
marks_with e [] = refl
marks_with e (m ∷ ms) = append-nil (m ∷ ms)

part_marks : (bounds : List KeyBytes) (i : ℕ) (h : History)
    → marks_of (part_of bounds i h) ≡ marks_in bounds i (marks_of h)
unfolding entry_in
part_marks bounds i [] = refl
part_marks bounds i (e ∷ h) =
    flat_map-append (λ (f : Entry). f.marks) (entry_in bounds i e) (part_of bounds i h)
    ∙ ap (λ (ms : List Mark). ms ++ marks_of (part_of bounds i h))
    (marks_with e (marks_in bounds i e.marks))
    ∙ ap (λ (ms : List Mark). marks_in bounds i e.marks ++ ms) (part_marks bounds i h)
    ∙ sym (flat_map-append (λ (m : Mark). mark_on (piece_of bounds i m.span) m) e.marks
    (marks_of h))

-- A mark of some marks, of which a mark is what lies in a stripe.
record IsCutFrom (bounds : List KeyBytes) (i : ℕ) (ms : List Mark) (cut : Mark) : Type 0 where
  mark : Mark
  there : IsIn ms mark
  piece : piece_of bounds i mark.span ≡ cut.span
  value : mark.value ≡ cut.value

cut_from : (bounds : List KeyBytes) (i : ℕ) (ms : List Mark) (cut : Mark)
    → IsIn (marks_in bounds i ms) cut → IsCutFrom bounds i ms cut
cut_from bounds i [] cut there = absurd there
cut_from bounds i (n ∷ ms) cut there =
    by_piece (λ rest. cut_from bounds i ms cut rest) (piece_of bounds i n.span) refl there
  where
    further : IsCutFrom bounds i ms cut → IsCutFrom bounds i (n ∷ ms) cut
    further of = record {
      mark = of.mark;
      there = inr of.there;
      piece = of.piece;
      value = of.value;
    }

    by_piece : (IsIn (marks_in bounds i ms) cut → IsCutFrom bounds i ms cut) → (t : SpanView)
        → piece_of bounds i n.span ≡ t → IsIn (mark_on t n ++ marks_in bounds i ms) cut
        → IsCutFrom bounds i (n ∷ ms) cut
    by_piece others nothing is rest = further (others rest)
    by_piece others (between from to) is (inl same) = record {
      mark = n;
      there = inl refl;
      piece = is ∙ ap (λ (m : Mark). m.span) same;
      value = ap (λ (m : Mark). m.value) same;
    }
    by_piece others (between from to) is (inr rest) = further (others rest)

-- where what lies of a span in a stripe overlaps another one, the span does
piece_overlaps : (bounds : List KeyBytes) (i : ℕ) (t s : SpanView)
    → overlaps (piece_of bounds i t) s ≡ true → overlaps t s ≡ true
piece_overlaps bounds i nothing s over = absurd (true≢false (sym over))
piece_overlaps bounds i (between a b) s over =
    by_test (is_below (greater_cut a start) (smaller_cut b end)) s over
  where
    start : Cut
    start = stripe_start bounds i

    end : Cut
    end = stripe_end bounds i

    by_test : (t : Bool) (o : SpanView)
        → overlaps (if t then between (greater_cut a start) (smaller_cut b end) else nothing) o
        ≡ true → overlaps (between a b) o ≡ true
    by_test false o e = absurd (true≢false (sym e))
    by_test true nothing e = absurd (true≢false (sym e))
    by_test true (between c d) e =
        let low : Cut = greater_cut a start in
        let high : Cut = smaller_cut b end in
        let m = overlaps-reports low high c d e in
        overlaps-from a b c d (
          Lt_Le-chain a high b (Le_Lt-chain a low high (greater_first a start) m.0)
              (smaller_first_ b end),
          Le_Lt-chain a low d (greater_first a start) m.1,
          Lt_Le-chain c high b m.2 (smaller_first_ b end),
          m.3,
        )

-- a value on a span in a part is one of the history there
part_values : (bounds : List KeyBytes) (h : History) (s : SpanView) (i : ℕ) (v : ValueView)
    → Contains (marks_on s (part_of bounds i h)) v → Contains (marks_on s h) v
part_values bounds h s i v there =
    let ms : List Mark = marks_of (part_of bounds i h) in
    let m = values_on-from s ms v there in
    let cut = cut_from bounds i (marks_of h) m.0
    (subst (λ (ns : List Mark). IsIn ns m.0) (part_marks bounds i h)
    (IsIn-from_Contains ms m.0 m.1)) in
    let over : overlaps cut.mark.span s ≡ true = piece_overlaps bounds i cut.mark.span s
    (subst (λ (t : SpanView). overlaps t s ≡ true) (sym cut.piece) m.2) in
    subst (Contains (marks_on s h)) (cut.value ∙ m.3)
    (values_on-has s (marks_of h) cut.mark
    (Contains-from_IsIn (marks_of h) cut.mark cut.there) over)

-- each mark of a history is one of an entry of it
in_either : {X : Type 0} (xs ys : List X) (x : X) → IsIn (xs ++ ys) x → IsIn xs x ⊎ IsIn ys x
in_either [] ys x there = inr there
in_either (z ∷ xs) ys x (inl is) = inl (inl is)
in_either (z ∷ xs) ys x (inr rest) = elim (in_either xs ys x rest) [
  | inl one ↦ inl (inr one)
  | inr other ↦ inr other
]

entry_of : (h : History) (m : Mark) → IsIn (marks_of h) m
    → (e : Entry) × IsIn h e × IsIn e.marks m
entry_of [] m there = absurd there
entry_of (e ∷ h) m there = elim (in_either e.marks (marks_of h) m there) [
  | inl own ↦ (e, inl refl, own)
  | inr rest ↦ (let f = entry_of h m rest in (f.0, inr f.1, f.2))
]

-- a lookup answers what the greatest floor and all entries on the span come to
pub real_over : Real
real_over terms h s up =
    let first : ℕ = first_touched terms.bounds s in
    let more : ℕ = last_touched terms.bounds s - first in
    let floor : Time = floor_over terms h s in
    let all : ValueView = joint_above floor (marks_on s h) in
    IsAtMost-antisymmetric (look_over terms h s) all
    (each_below terms h s all more first (λ i low high.
    let part : History = part_of terms.bounds i h in
    subst (λ (v : ValueView). IsAtMost v all) (sym (real_answers terms.config part s))
    (more_above (state_on terms i h).floor floor (marks_on s part) (marks_on s h)
    (floor_among terms h more first i low high)
    (λ v there. part_values terms.bounds h s i v there))))
    (least_above floor (marks_on s h) (look_over terms h s) (floors_below terms h s more first)
    (λ v there.
    let m = values_on-from s (marks_of h) v there in
    let e = entry_of h m.0 (IsIn-from_Contains (marks_of h) m.0 m.1) in
    subst (λ (w : ValueView). IsAtMost w (look_over terms h s)) m.3
    (kept_up_over terms h e.0 m.0 s up (Contains-from_IsIn h e.0 e.1)
    (Contains-from_IsIn e.0.marks m.0 e.2) m.2)))
