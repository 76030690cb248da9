-- The plain list of marks, one mark more at a time.
use Rattle.std.proofs.Common.{◌≡◌, ◌∙◌, refl, sym, ap, subst, Bool, true, false, cond, ◌||◌, ℕ, zero, suc, ◌+◌, ◌<◌, List, [], ◌∷◌, ◌++◌, length, take, get_or, map, append-nil, arith}
use Rattle.std.specs.Prelude.{Option}
use Rattle.std.specs.Option.{option_to_list}
use Rattle.std.specs.Str.{bytes_eq}
use Rattle.std.proofs.Math.Bool.{or-true}
use Rattle.std.proofs.lemmas.List.{take_more, map-append}
use Rattle.std.proofs.lemmas.Grind.{flat_map-append}
use Rattle.std.proofs.lemmas.List.Folds.{list_any-append}
use Rattle.tsc_time.specs.Time.{Time, zero_time, later}
use Rattle.tsc_time.specs.ValueView.{ValueView, unowned}
use Rattle.tsc_time.specs.Joint.{joint, joint_above, latest}
use Rattle.tsc_time.proofs.JointLemmas.{joint-append}
use Rattle.tsc_span.specs.Span.{KeyBytes, SpanView, overlaps, end_keys, key_cost}
use Rattle.tsc_page_model.specs.Page.{Mark, PageMarks, with_mark, values_on, marked_keys, count_distinct, cost_distinct}
use Rattle.tsc_page_model.specs.PageView.{Represents, is_in, new_weight, is_new_among, view_of}
use Rattle.tsc_page_model.proofs.DistinctKeys.{has_no_repeats}
use Rattle.tsc_page_model.proofs.Ends.{end_keys_once}
use Rattle.tsc_page_model.proofs.Lookups.{values_on-more}
use Rattle.tsc_page_model.proofs.Standing.{latest-push, top_with}
use Rattle.tsc_page_model.proofs.Weights.{one_if, weigh_before, count_before}

-- a mark of a span and a value
abbrev pub mark_of : SpanView → ValueView → Mark
mark_of s v = record { span = s; value = v }

-- the end keys of a list with one more mark
pub marked_push : (marks : List Mark) (m : Mark) →
    marked_keys (marks ++ m ∷ []) ≡ marked_keys marks ++ end_keys m.span
marked_push marks m = flat_map-append (λ (n : Mark). end_keys n.span) marks (m ∷ []) ∙
    ap (λ ks. marked_keys marks ++ ks) (append-nil (end_keys m.span))

pub in_push : (k : KeyBytes) (marks : List Mark) (m : Mark) →
    is_in k (marked_keys (marks ++ m ∷ [])) ≡
    (is_in k (marked_keys marks) || is_in k (end_keys m.span))
in_push k marks m = ap (is_in k) (marked_push marks m) ∙
    list_any-append (bytes_eq k) (marked_keys marks) (end_keys m.span)

-- a key that none of the first has, nor the next one
pub still_none : (k : KeyBytes) (marks : List Mark) (i : ℕ) (d : Mark) → i < length marks →
    is_in k (marked_keys (take i marks)) ≡ false →
    is_in k (end_keys (get_or marks i d).span) ≡ false →
    is_in k (marked_keys (take (i + 1) marks)) ≡ false
still_none k marks i d within none other =
    ap (λ ms. is_in k (marked_keys ms)) (take_more marks i d within) ∙
    in_push k (take i marks) (get_or marks i d) ∙ rw (none, other) refl

-- a key of one of the marks
pub one_has : (k : KeyBytes) (marks : List Mark) (i : ℕ) (d : Mark) → i < length marks →
    is_in k (end_keys (get_or marks i d).span) ≡ true → is_in k (marked_keys marks) ≡ true
one_has k [] i d within has = absurd (omega arith)
one_has k (m ∷ ms) zero d within has =
    list_any-append (bytes_eq k) (end_keys m.span) (marked_keys ms) ∙ rw has refl
one_has k (m ∷ ms) (suc i) d within has =
    list_any-append (bytes_eq k) (end_keys m.span) (marked_keys ms) ∙
    rw (one_has k ms i d (omega arith) has) (or-true (is_in k (end_keys m.span)))

-- the latest time with the next mark
pub latest_more : (t : Time) (marks : List Mark) (i : ℕ) (d : Mark) → i < length marks
    → latest t (map (λ (m : Mark). m.value) (take (i + 1) marks)) ≡
    later (latest t (map (λ (m : Mark). m.value) (take i marks))) (get_or marks i d).value.time
latest_more t marks i d within =
    ap (λ ms. latest t (map (λ (m : Mark). m.value) ms)) (take_more marks i d within)
    ∙ ap (latest t) (map-append (λ (m : Mark). m.value) (take i marks) (get_or marks i d ∷ []))
    ∙ latest-push t (map (λ (m : Mark). m.value) (take i marks)) (get_or marks i d).value

joined : (b : Bool) (vs : List ValueView) (v : ValueView) →
    joint_above zero_time (vs ++ cond b (v ∷ []) []) ≡
    cond b (joint (joint_above zero_time vs) (v ∷ [])) (joint_above zero_time vs)
joined true vs v = joint-append (unowned zero_time) vs v
joined false vs v = ap (joint_above zero_time) (append-nil vs)

-- what a list with one more mark answers
pub answers_push : (marks : List Mark) (m : Mark) (s : SpanView) →
    joint_above zero_time (values_on s (marks ++ m ∷ [])) ≡ cond (overlaps m.span s)
    (joint (joint_above zero_time (values_on s marks)) (m.value ∷ []))
    (joint_above zero_time (values_on s marks))
answers_push marks m s = ap (joint_above zero_time) (values_on-more s marks m) ∙
    joined (overlaps m.span s) (values_on s marks) m.value

-- a list that stands for another still does with the same mark on both
pub push_stands : (q p : PageMarks) (m : Mark) → Represents (view_of q) p →
    Represents (view_of (with_mark q m)) (with_mark p m)
push_stands q p m stands = record {
  size = stands.size;
  top = top_with q m ∙ ap (λ t. later t m.value.time) stands.top ∙ sym (top_with p m);
  keys = λ k. in_push k q.marks m ∙ ap (λ b. b || is_in k (end_keys m.span)) (stands.keys k) ∙
      sym (in_push k p.marks m);
  answers = λ s. answers_push q.marks m s ∙
      ap (λ (w : ValueView). cond (overlaps m.span s) (joint w (m.value ∷ [])) w) (stands.answers s)
      ∙ sym (answers_push p.marks m s);
}

-- the end keys of the next mark that no later one has are counted
pub next_counted : (count total : ℕ) (rest later_marks : List Mark) (m : Mark)
    (o p : Option KeyBytes) → rest ≡ m ∷ later_marks →
    option_to_list o ++ option_to_list p ≡ end_keys m.span
    → count + count_distinct (marked_keys rest) ≡ total →
    (count + (one_if (is_new_among (marked_keys later_marks) o) + one_if
    (is_new_among (marked_keys later_marks) p))) + count_distinct (marked_keys later_marks)
    ≡ total
next_counted count total rest later_marks m o p is ends so_far =
    let once = subst (λ ks. has_no_repeats ks ≡ true) (sym ends) (end_keys_once m.span) in
    let more : count_distinct (marked_keys rest) ≡ one_if (is_new_among (marked_keys later_marks) o)
    + one_if (is_new_among (marked_keys later_marks) p) + count_distinct
    (marked_keys later_marks) =
    ap (λ ms. count_distinct (marked_keys ms)) is ∙
    ap (λ ks. count_distinct (ks ++ marked_keys later_marks)) (sym ends) ∙
    count_before (marked_keys later_marks) o p once in
    omega (arith, more, so_far)

-- and so do those that cost something
pub next_costs : (cost total : ℕ) (rest later_marks : List Mark) (m : Mark) (o p : Option KeyBytes)
    → rest ≡ m ∷ later_marks → option_to_list o ++ option_to_list p ≡ end_keys m.span
    → cost + cost_distinct (marked_keys rest) ≡ total →
    (cost + (new_weight key_cost (marked_keys later_marks) o + new_weight key_cost
    (marked_keys later_marks) p)) + cost_distinct (marked_keys later_marks) ≡ total
next_costs cost total rest later_marks m o p is ends so_far =
    let once = subst (λ ks. has_no_repeats ks ≡ true) (sym ends) (end_keys_once m.span) in
    let more : cost_distinct (marked_keys rest) ≡ new_weight key_cost (marked_keys later_marks) o +
    new_weight key_cost (marked_keys later_marks) p + cost_distinct (marked_keys later_marks) =
    ap (λ ms. cost_distinct (marked_keys ms)) is ∙
    ap (λ ks. cost_distinct (ks ++ marked_keys later_marks)) (sym ends) ∙
    weigh_before key_cost (marked_keys later_marks) o p once in
    omega (arith, more, so_far)
