-- What a page stands for after an Add, and how many keys it holds.
use Rattle.std.proofs.Common.{◌≡◌, ◌⊎◌, inl, inr, ◌∙◌, refl, sym, ap, subst, Bool, true, false, cond, ◌||◌, ℕ, suc, ◌+◌, List, [], ◌∷◌, ◌++◌, length, append-nil, arith}
use Rattle.std.specs.Prelude.{Option}
use Rattle.std.proofs.Math.Bool.{or-true}
use Rattle.std.specs.Option.{option_to_list}
use Rattle.std.specs.List.{sum_by}
use Rattle.std.specs.Str.{bytes_eq}
use Rattle.std.proofs.lemmas.Grind.{flat_map-append}
use Rattle.std.proofs.lemmas.List.Folds.{list_any-append}
use Rattle.tsc_time.specs.Time.{Time, zero_time, is_before, later}
use Rattle.tsc_time.specs.ValueView.{ValueView, unowned}
use Rattle.tsc_time.specs.Joint.{joint, joint_above}
use Rattle.tsc_time.proofs.JointLemmas.{joint-append}
use Rattle.std.proofs.lemmas.Bool.{cases_Bool}
use Rattle.tsc_span.specs.Span.{KeyBytes, Cut, before, after, last, SpanView, between, overlaps, end_keys}
use Rattle.tsc_page_model.specs.Page.{Mark, PageMarks, with_mark, top, values_on, marked_keys, weigh_distinct, count_distinct}
use Rattle.tsc_page_model.specs.PageView.{Represents, NoAnswerAboveTop, answer, is_in, new_weight}
use Rattle.tsc_page_nodes.specs.Nodes.{Node, next_cut, node_stretches, node_keys, IsSorted, IsSplitAt, raise_nodes, answer_of, page_of}
use Rattle.tsc_span.proofs.CutOrder.{Lt, Lt-not_Le, Le-chain, Le-from_Lt, before-after}
use Rattle.tsc_page_model.proofs.DistinctKeys.{weigh_distinct-same, count_distinct-same, weigh_distinct-no_repeats, count_distinct-no_repeats, has_no_repeats}
use Rattle.tsc_page_nodes.proofs.Cuts.{HasCut, first_low, rising_nodes, cuts_of_key, raise_nodes_answers}
use Rattle.tsc_page_nodes.proofs.Edits.{raise_nodes-keys, raise_nodes-sorted, raise_nodes-length}
use Rattle.tsc_page_nodes.proofs.Ends.{ends_are_nodes}
use Rattle.tsc_page_model.proofs.Ends.{end_keys_once}
use Rattle.tsc_page_model.proofs.Lookups.{values_on-more}
use Rattle.tsc_page_nodes.proofs.Tops.{raised_covers}
use Rattle.tsc_page_model.proofs.Weights.{weigh_with}
use Rattle.tsc_page_model.proofs.Standing.{top_with}

-- sorted nodes have no key twice
pub sorted_once : (ns : List Node) → IsSorted ns → has_no_repeats (node_keys ns) ≡ true
sorted_once [] sorted = refl
sorted_once (n ∷ ns) sorted = rw (other, sorted_once ns sorted.1) refl
  where
    other : is_in n.key (node_keys ns) ≡ false
    other = elim (cases_Bool (is_in n.key (node_keys ns))) [
      | inl h ↦ absurd (Lt-not_Le (after n.key) (next_cut (node_stretches ns)) sorted.0
          (Le-chain (next_cut (node_stretches ns)) (before n.key) (after n.key)
          (first_low (before n.key) (node_stretches ns) (rising_nodes ns sorted.1)
          (cuts_of_key n.key ns h).0)
          (Le-from_Lt (before n.key) (after n.key) (before-after n.key))))
      | inr h ↦ h
    ]

length-map : (ns : List Node) → length (node_keys ns) ≡ length ns
length-map [] = refl
length-map (n ∷ ns) = ap suc (length-map ns)

-- so all of their keys are different ones
pub weigh_of_nodes : (weight : KeyBytes → ℕ) (ns : List Node) → IsSorted ns →
    weigh_distinct weight (node_keys ns) ≡ sum_by weight (node_keys ns)
weigh_of_nodes weight ns sorted = weigh_distinct-no_repeats weight (node_keys ns)
    (sorted_once ns sorted)

-- and as many as they are
pub count_of_nodes : (ns : List Node) → IsSorted ns → count_distinct (node_keys ns) ≡ length ns
count_of_nodes ns sorted = count_distinct-no_repeats (node_keys ns) (sorted_once ns sorted) ∙
    length-map ns

-- the nodes, and the weight of each end key that is new, weigh as the keys without repeats
pub weigh_with_ends : (weight : KeyBytes → ℕ) (ns : List Node) (o p : Option KeyBytes)
    (s : SpanView) → IsSorted ns → option_to_list o ++ option_to_list p ≡ end_keys s
    → sum_by weight (node_keys ns) +
    (new_weight weight (node_keys ns) o + new_weight weight (node_keys ns) p) ≡
    weigh_distinct weight (node_keys ns ++ end_keys s)
weigh_with_ends weight ns o p s sorted keys =
    let all = weigh_with weight (node_keys ns) o p
    (subst (λ ks. has_no_repeats ks ≡ true) (sym keys) (end_keys_once s)) in
    omega (
      arith,
      all,
      weigh_of_nodes weight ns sorted,
      ap (λ ks. weigh_distinct weight (node_keys ns ++ ks)) keys,
    )

-- the nodes after a split are as many as the page's keys with those of the span
pub split_count : (old new : List Node) (span : SpanView) → IsSplitAt old new (end_keys span) →
    length new ≡ count_distinct (node_keys old ++ end_keys span)
split_count old new span split = sym (count_of_nodes new split.sorted) ∙
    count_distinct-same (node_keys new) (node_keys old ++ end_keys span)
    (λ k. split.keys k ∙ sym (list_any-append (bytes_eq k) (node_keys old) (end_keys span)))

-- the nodes after a split weigh as the page's keys with those of the span
pub split_weight : (weight : KeyBytes → ℕ) (old new : List Node) (span : SpanView) →
    IsSplitAt old new (end_keys span) →
    sum_by weight (node_keys new) ≡ weigh_distinct weight (node_keys old ++ end_keys span)
split_weight weight old new span split =
    sym (weigh_of_nodes weight new split.sorted)
    ∙ weigh_distinct-same weight (node_keys new) (node_keys old ++ end_keys span)
    (λ k. split.keys k ∙ sym (list_any-append (bytes_eq k) (node_keys old) (end_keys span)))

-- an Add: the nodes are split at the span's ends, and then raised
module _ (old mid : List Node) (f t : Cut) (up : Lt f t) (value : ValueView)
    (split : IsSplitAt old mid (end_keys (between f t))) where
  pub added_sorted : IsSorted (raise_nodes (between f t) value mid)
  added_sorted = raise_nodes-sorted (between f t) value mid split.sorted

  pub added_length : length (raise_nodes (between f t) value mid) ≡
      count_distinct (node_keys old ++ end_keys (between f t))
  added_length = raise_nodes-length (between f t) value mid ∙
      split_count old mid (between f t) split

  added_cuts : HasCut f (node_stretches mid) × ((t ≡ last) ⊎ HasCut t (node_stretches mid))
  added_cuts = ends_are_nodes f t mid up
      (λ k h. split.keys k ∙ rw h (or-true (is_in k (node_keys old))))

  pub added_keys : (k : KeyBytes) →
      is_in k (node_keys (raise_nodes (between f t) value mid)) ≡
      (is_in k (node_keys old) || is_in k (end_keys (between f t)))
  added_keys k = ap (is_in k) (raise_nodes-keys (between f t) value mid) ∙ split.keys k

  pub added_answers : (s : SpanView) →
      answer_of (raise_nodes (between f t) value mid) s ≡ cond (overlaps (between f t) s)
      (joint (answer_of old s) (value ∷ [])) (answer_of old s)
  added_answers s = raise_nodes_answers f t value mid split.sorted added_cuts.0 added_cuts.1 s ∙
      ap (λ (w : ValueView). cond (overlaps (between f t) s) (joint w (value ∷ [])) w)
      (split.answers s)

  -- no answer comes to lie above the top
  pub added_covers : (sizes more : List ℕ) (size : ℕ) (before_it after_it : Time) →
      NoAnswerAboveTop (page_of size before_it old sizes) → after_it ≡ later before_it value.time →
      NoAnswerAboveTop (page_of size after_it (raise_nodes (between f t) value mid) more)
  added_covers sizes more size before_it after_it covers is s =
      subst (λ (x : Time). is_before x (answer_of (raise_nodes (between f t) value mid) s).time ≡
      false) (sym is)
      (subst (λ (w : ValueView). is_before (later before_it value.time) w.time ≡ false)
      (sym (added_answers s)) (raised_covers before_it (answer_of old s) value
      (overlaps (between f t) s) (covers s)))

  -- the page then stands for the list with the mark
  pub added_stands : (sizes more : List ℕ) (size : ℕ) (before_it after_it : Time) (p : PageMarks)
      → Represents (page_of size before_it old sizes) p
      → after_it ≡ later before_it value.time
      → Represents (page_of size after_it (raise_nodes (between f t) value mid) more)
      (with_mark p (record { span = between f t; value = value }))
  added_stands sizes more size before_it after_it p stands is = record {
    size = stands.size;
    top = is ∙ ap (λ x. later x value.time) stands.top ∙ sym (top_with p m);
    keys = λ k. added_keys k ∙ ap (λ b. b || is_in k (end_keys (between f t))) (stands.keys k)
        ∙ sym (list_any-append (bytes_eq k) (marked_keys p.marks) (end_keys (between f t))) ∙
        ap (is_in k) (sym more_keys);
    answers = λ s.
        added_answers s
        ∙ ap (λ (w : ValueView). cond (overlaps (between f t) s) (joint w (value ∷ [])) w)
        (stands.answers s)
        ∙ joined (overlaps (between f t) s) (values_on s p.marks) ∙
        ap (joint_above zero_time) (sym (values_on-more s p.marks m));
  }
    where
      m : Mark
      m = record { span = between f t; value = value }

      more_keys : marked_keys (p.marks ++ m ∷ []) ≡ marked_keys p.marks ++ end_keys (between f t)
      more_keys = flat_map-append (λ (n : Mark). end_keys n.span) p.marks (m ∷ []) ∙
          ap (λ ks. marked_keys p.marks ++ ks) (append-nil (end_keys (between f t)))

      joined : (b : Bool) (vs : List ValueView) →
          cond b (joint (joint_above zero_time vs) (value ∷ [])) (joint_above zero_time vs) ≡
          joint_above zero_time (vs ++ cond b (value ∷ []) [])
      joined true vs = sym (joint-append (unowned zero_time) vs value)
      joined false vs = ap (joint_above zero_time) (sym (append-nil vs))
