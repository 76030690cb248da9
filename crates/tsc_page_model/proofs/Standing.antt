-- What a page stands for: its room, its counts and its top are those of the list of marks.
use Rattle.std.proofs.Common.{◌≡◌, inl, inr, ◌∙◌, refl, sym, ap, Bool, true, false, cond, ◌||◌, ◌+◌, nat_le, List, [], ◌∷◌, ◌++◌, map}
use mathlib.Core.Bool.{true≢false}
use mir.Val.{bool_byte}
use Rattle.std.specs.Prelude.{filter}
use Rattle.std.specs.Ordering.{ord_max}
use Rattle.std.specs.Str.{bytes_eq}
use Rattle.std.proofs.lemmas.List.{map-append}
use Rattle.std.proofs.lemmas.List.Folds.{list_any-append}
use Rattle.tsc_time.specs.Time.{Time, zero_time, time_cmp, later}
use Rattle.tsc_time.specs.ValueView.{ValueView, unowned}
use Rattle.tsc_time.specs.Joint.{joint_above, latest}
use Rattle.tsc_time.proofs.TimeOrder.{later-reports, is_before-opposite, is_before-transitive, no_earlier-transitive, same_from_neither_before}
use Rattle.tsc_time.proofs.JointLemmas.{joint-singleton}
use Rattle.tsc_span.specs.Span.{SpanView, nothing, between, overlaps, end_keys, key_cost}
use Rattle.tsc_page_model.specs.Page.{Mark, PageMarks, with_mark, top, values_on, marked_keys, count_distinct, cost_distinct, has_room}
use Rattle.tsc_page_model.specs.PageView.{PageView, Represents, answer, is_in, bytes_of, has_room_for}
use Rattle.tsc_page_model.proofs.DistinctKeys.{weigh_distinct-same, count_distinct-same}
use Rattle.tsc_page_model.proofs.Weights.{one_if}

-- lists of the same keys leave the same room
pub same_room : (v : PageView) (p : PageMarks) (span : SpanView) → Represents v p →
    has_room_for v span ≡ has_room p span
same_room v p span stands =
    ap (λ n. nat_le n v.size) (weigh_distinct-same key_cost (v.keys ++ end_keys span)
    (marked_keys p.marks ++ end_keys span) (λ k.
    list_any-append (bytes_eq k) v.keys (end_keys span) ∙
    ap (λ b. b || is_in k (end_keys span)) (stands.keys k) ∙
    sym (list_any-append (bytes_eq k) (marked_keys p.marks) (end_keys span))))
    ∙ ap (nat_le (cost_distinct (marked_keys p.marks ++ end_keys span))) stands.size

pub same_count : (v : PageView) (p : PageMarks) → Represents v p →
    count_distinct v.keys ≡ count_distinct (marked_keys p.marks)
same_count v p stands = count_distinct-same v.keys (marked_keys p.marks) stands.keys

pub same_bytes : (v : PageView) (p : PageMarks) → Represents v p →
    bytes_of v ≡ cost_distinct (marked_keys p.marks)
same_bytes v p stands = weigh_distinct-same key_cost v.keys (marked_keys p.marks) stands.keys

pub later-swap : (a b : Time) → later a b ≡ later b a
later-swap a b = elim (later-reports a b) [
  | inl h ↦ h.1 ∙ elim (later-reports b a) [
    | inl g ↦ absurd (true≢false (sym g.0 ∙ is_before-opposite a b h.0))
    | inr g ↦ sym g.1
  ]
  | inr h ↦ h.1 ∙ elim (later-reports b a) [
    | inl g ↦ sym g.1
    | inr g ↦ same_from_neither_before a b h.0 g.0 ∙ sym g.1
  ]
]

pub later-chain : (a b c : Time) → later a (later b c) ≡ later (later a b) c
later-chain a b c = elim (later-reports a b) [
  | inl h ↦ elim (later-reports b c) [
    | inl g ↦ rw (h.1, g.1) (elim (later-reports a c) [
      | inl k ↦ k.1
      | inr k ↦ absurd (true≢false (sym (is_before-transitive a b c h.0 g.0) ∙ k.0))
    ])
    | inr g ↦ rw (h.1, g.1) h.1
  ]
  | inr h ↦ elim (later-reports b c) [
    | inl g ↦ rw (h.1, g.1) refl
    | inr g ↦ rw (h.1, g.1) (h.1 ∙ elim (later-reports a c) [
      | inl k ↦ absurd (true≢false (sym k.0 ∙ no_earlier-transitive c b a g.0 h.0))
      | inr k ↦ sym k.1
    ])
  ]
]

-- the latest of a list with one more
pub latest-push : (t : Time) (vs : List ValueView) (w : ValueView) →
    latest t (vs ++ w ∷ []) ≡ later (latest t vs) w.time
latest-push t [] w = later-swap w.time t
latest-push t (v ∷ vs) w = ap (later v.time) (latest-push t vs w) ∙
    later-chain v.time (latest t vs) w.time

pub top_with : (p : PageMarks) (m : Mark) → top (with_mark p m) ≡ later (top p) m.value.time
top_with p m = ap (latest p.base) (map-append (λ (n : Mark). n.value) p.marks (m ∷ [])) ∙
    latest-push p.base (map (λ (n : Mark). n.value) p.marks) m.value

-- nothing overlaps the empty span
nothing_on : (marks : List Mark) → values_on nothing marks ≡ []
nothing_on [] = refl
nothing_on (m ∷ ms) = by m.span (nothing_on ms)
  where
    by : (s : SpanView) → values_on nothing ms ≡ [] →
        map (λ (n : Mark). n.value)
        (cond (overlaps s nothing) (m ∷ filter (λ (n : Mark). overlaps n.span nothing) ms)
        (filter (λ (n : Mark). overlaps n.span nothing) ms)) ≡ []
    by nothing rest = rest
    by (between f t) rest = rest

pub nothing_answered : (v : PageView) → answer v nothing ≡ unowned zero_time
nothing_answered v = ap (joint_above zero_time) (nothing_on v.spans) ∙
    joint-singleton (unowned zero_time)

-- the greater of two timestamps is the later one
pub later-max : (a b : Time) → ord_max time_cmp a b ≡ later a b
later-max a b = later-swap b a

-- a test as a number
pub byte_is : (b : Bool) → bool_byte b ≡ one_if b
byte_is true = refl
byte_is false = refl
