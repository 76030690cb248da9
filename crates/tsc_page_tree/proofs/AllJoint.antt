-- The joint value of all keys and gaps of nodes.
use Rattle.std.proofs.Common.{◌≡◌, ◌⊎◌, inl, inr, ◌∙◌, refl, sym, ap, subst, Bool, true, false, cond, ℕ, suc, ◌+◌, ◌<◌, ◌≤◌, List, [], ◌∷◌, ◌++◌, length, map, drop, get_or, arith}
use mathlib.Core.Bool.{true≢false}
use Rattle.std.specs.Prelude.{Option, Some, None}
use Rattle.std.proofs.lemmas.List.{length-map, drop_all}
use Rattle.tsc_time.specs.Time.{zero_time}
use Rattle.tsc_time.specs.ValueView.{ValueView, unowned}
use Rattle.tsc_time.specs.Joint.{joint, IsAtMost}
use Rattle.tsc_time.proofs.RatchetOrder.{IsAtMost-itself, IsAtMost-transitive}
use Rattle.tsc_span.specs.Span.{KeyBytes, Cut, before, after, last, SpanView, between, overlaps, is_below}
use Rattle.tsc_page_nodes.specs.Nodes.{Node, answer_of, node_stretches, IsSorted, IsInOrder, IsSplitAt, AddsNodes, with_new, raise_nodes}
use Rattle.tsc_page_tree.specs.Leaves.{nodes_of, start_of, HasNode}
use Rattle.tsc_page_tree.specs.Lazy.{everything, with_lazy, seen_with, all_joint}
use Rattle.tsc_span.proofs.CutOrder.{Lt, Le, Lt-or_Le, Lt-not_Le, Le-from_Lt, Lt-chain, Le_Lt-chain, before-after, below_last, none_above_last, overlaps-from}
use Rattle.tsc_page_nodes.proofs.Cuts.{lowest, raise_nodes-start}
use Rattle.tsc_page_nodes.proofs.Edits.{raise_nodes-sorted}
use Rattle.tsc_page_nodes.proofs.NewKeys.{with_new_splits, still_new, makes_sorted}
use Rattle.tsc_page_nodes.proofs.Answers.{Meets}
use Rattle.tsc_page_nodes.proofs.Raises.{first_below, second_below, both_below}
use Rattle.tsc_page_nodes.proofs.Seen.{IsJointOf, same_seen}
use Rattle.tsc_page_tree.proofs.Joins.{sorted_left, sorted_right, up_to_last, raises_none}
use Rattle.tsc_page_tree.proofs.LeafAnswers.{answer_is, one_joint, joint_of_two, joint-chain, zero_first, zero_last, zero_below_answer}
use Rattle.tsc_page_tree.proofs.LeafLists.{leaf_first, sorted_from, read_leaf}
use Rattle.tsc_page_tree.proofs.LeafKeys.{has_node_splits}

-- a key or a gap has the value
abbrev pub HasValue : List Node → ValueView → Type 0
HasValue [] w = ⊥
HasValue (n ∷ ns) w = (n.value ≡ w) ⊎ ((n.gap ≡ w) ⊎ HasValue ns w)

met_value : (s : SpanView) (ns : List Node) (w : ValueView) → Meets s (node_stretches ns) w →
    HasValue ns w
met_value s [] w m = m
met_value s (n ∷ ns) w (inl m) = inl m.1
met_value s (n ∷ ns) w (inr (inl m)) = inr (inl m.1)
met_value s (n ∷ ns) w (inr (inr m)) = inr (inr (met_value s ns w m))

-- all keys and gaps are met by a span that begins where nodes do, or below them
value_met : (f : Cut) (ns : List Node) (w : ValueView) → IsSorted ns → Le f (start_of ns) →
    HasValue ns w → Meets (between f last) (node_stretches ns) w
value_met f [] w sorted low h = h
value_met f (n ∷ ns) w sorted low h =
    let to_after : Lt f (after n.key) =
    Le_Lt-chain f (before n.key) (after n.key) low (before-after n.key) in
    let to_next : Lt f (start_of ns) = Lt-chain f (after n.key) (start_of ns) to_after sorted.0 in
    let up : Lt f last = up_to_last f (after n.key) to_after in
    elim h [
      | inl v ↦ inl (
        overlaps-from (before n.key) (after n.key) f last (
          before-after n.key,
          up_to_last (before n.key) (after n.key) (before-after n.key),
          to_after,
          up,
        ),
        v,
      )
      | inr r ↦ elim r [
        | inl g ↦ inr (inl (
          overlaps-from (after n.key) (start_of ns) f last
              (sorted.0, below_last n.key, to_next, up),
          g,
        ))
        | inr more ↦ inr (inr (value_met f ns w sorted.1 (Le-from_Lt f (start_of ns) to_next) more))
      ]
    ]

seen_from : (f : Cut) (ns : List Node) → IsSorted ns → Le f (start_of ns) →
    IsJointOf (HasValue ns) (answer_of ns (between f last))
seen_from f ns sorted low = same_seen (Meets (between f last) (node_stretches ns)) (HasValue ns)
    (answer_of ns (between f last)) (λ w m. met_value (between f last) ns w m)
    (λ w h. value_met f ns w sorted low h) (answer_is (between f last) ns)

pub all_joint_is : (ns : List Node) → IsSorted ns → IsJointOf (HasValue ns) (all_joint ns)
all_joint_is ns sorted = seen_from (before []) ns sorted (lowest (start_of ns))

-- no subtree of a span answers more than all
pub answer_below_all : (s : SpanView) (ns : List Node) → IsSorted ns →
    IsAtMost (answer_of ns s) (all_joint ns)
answer_below_all s ns sorted = (answer_is s ns).least (all_joint ns)
    (zero_below_answer everything ns) (λ w m. (all_joint_is ns sorted).above w (met_value s ns w m))

-- a span that leaves nothing out answers as all
pub answer_of_all : (f t : Cut) (ns : List Node) → IsSorted ns → Le f (start_of ns) → Le last t →
    answer_of ns (between f t) ≡ all_joint ns
answer_of_all f (before k) ns sorted low high = absurd (true≢false high)
answer_of_all f (after k) ns sorted low high = absurd (true≢false high)
answer_of_all f last ns sorted low high =
    one_joint (HasValue ns) (HasValue ns) (answer_of ns (between f last)) (all_joint ns) (λ w h. h)
    (λ w h. h) (seen_from f ns sorted low) (all_joint_is ns sorted)

-- some of what was seen is raised, and the rest is as before
raised_joint : (Seen New : ValueView → Type 0) (best v : ValueView) →
    ((w : ValueView) → New w → (y : ValueView) × Seen y × ((y ≡ w) ⊎ (joint y (v ∷ []) ≡ w)))
    → ((y : ValueView) → Seen y → (w : ValueView) × New w × IsAtMost y w) → (w : ValueView) ×
    New w × IsAtMost v w → IsJointOf Seen best → IsJointOf New (joint best (v ∷ []))
raised_joint Seen New best v was kept some so_far = record {
  zero_below = IsAtMost-transitive (unowned zero_time) best (joint best (v ∷ [])) so_far.zero_below
      (first_below best v);
  above = λ w s.
      let r = was w s in
      let old : IsAtMost r.0 (joint best (v ∷ [])) =
      IsAtMost-transitive r.0 best (joint best (v ∷ [])) (so_far.above r.0 r.1)
      (first_below best v) in
      elim r.2 [
        | inl e ↦ subst (λ (x : ValueView). IsAtMost x (joint best (v ∷ []))) e old
        | inr e ↦ subst (λ (x : ValueView). IsAtMost x (joint best (v ∷ []))) e
            (both_below r.0 v (joint best (v ∷ [])) old (second_below best v))
      ];
  least = λ u z each. both_below best v u
      (so_far.least u z (λ y s. let r = kept y s in IsAtMost-transitive y r.0 u r.2 (each r.0 r.1)))
      (IsAtMost-transitive v some.0 u some.2 (each some.0 some.1));
}

raised_or_not : (b : Bool) (y v w : ValueView) → cond b (joint y (v ∷ [])) y ≡ w →
    (y ≡ w) ⊎ (joint y (v ∷ []) ≡ w)
raised_or_not true y v w e = inr e
raised_or_not false y v w e = inl e

no_lower : (b : Bool) (y v : ValueView) → IsAtMost y (cond b (joint y (v ∷ [])) y)
no_lower true y v = first_below y v
no_lower false y v = IsAtMost-itself y

-- what a raised node has comes from what it had
had_before : (m : SpanView) (v : ValueView) (ns : List Node) (w : ValueView) →
    HasValue (raise_nodes m v ns) w → (y : ValueView) × HasValue ns y ×
    ((y ≡ w) ⊎ (joint y (v ∷ []) ≡ w))
had_before m v [] w h = absurd h
had_before m v (n ∷ ns) w (inl h) = (
  n.value,
  inl refl,
  raised_or_not (overlaps (between (before n.key) (after n.key)) m)
      n.value v w h,
)
had_before m v (n ∷ ns) w (inr (inl h)) = (
  n.gap,
  inr (inl refl),
  raised_or_not (overlaps (between (after n.key) (start_of ns)) m)
      n.gap v w h,
)
had_before m v (n ∷ ns) w (inr (inr h)) = let r = had_before m v ns w h in (r.0, inr (inr r.1), r.2)

has_after : (m : SpanView) (v : ValueView) (ns : List Node) (y : ValueView) → HasValue ns y →
    (w : ValueView) × HasValue (raise_nodes m v ns) w × IsAtMost y w
has_after m v [] y h = absurd h
has_after m v (n ∷ ns) y (inl h) = (
  cond (overlaps (between (before n.key) (after n.key)) m) (joint n.value (v ∷ [])) n.value,
  inl refl,
  subst (λ (x : ValueView). IsAtMost x
      (cond (overlaps (between (before n.key) (after n.key)) m) (joint n.value (v ∷ [])) n.value)) h
      (no_lower (overlaps (between (before n.key) (after n.key)) m) n.value v),
)
has_after m v (n ∷ ns) y (inr (inl h)) = (
  cond (overlaps (between (after n.key) (start_of ns)) m) (joint n.gap (v ∷ [])) n.gap,
  inr (inl refl),
  subst (λ (x : ValueView). IsAtMost x
      (cond (overlaps (between (after n.key) (start_of ns)) m) (joint n.gap (v ∷ [])) n.gap)) h
      (no_lower (overlaps (between (after n.key) (start_of ns)) m) n.gap v),
)
has_after m v (n ∷ ns) y (inr (inr h)) = let r = has_after m v ns y h in (r.0, inr (inr r.1), r.2)

-- a span that reaches where nodes begin raises one of them
raises_one : (f t : Cut) (v : ValueView) (ns : List Node) → IsSorted ns → Lt f t →
    Lt (start_of ns) t → (w : ValueView) × HasValue (raise_nodes (between f t) v ns) w ×
    IsAtMost v w
raises_one f t v [] sorted up reaches = absurd (Lt-not_Le last t reaches (none_above_last t))
raises_one f t v (n ∷ ns) sorted up reaches = elim (Lt-or_Le f (after n.key)) [
  | inl h ↦ (
    joint n.value (v ∷ []),
    inl (rw (overlaps-from (before n.key) (after n.key) f t (before-after n.key, reaches, h, up))
        refl),
    second_below n.value v,
  )
  | inr h ↦ elim (Lt-or_Le f (start_of ns)) [
    | inl g ↦ (
      joint n.gap (v ∷ []),
      inr (inl (rw (overlaps-from (after n.key) (start_of ns) f t
          (sorted.0, Le_Lt-chain (after n.key) f t h up, g, up)) refl)),
      second_below n.gap v,
    )
    | inr g ↦ let r = raises_one f t v ns sorted.1 up (Le_Lt-chain (start_of ns) f t g up)
        in (r.0, inr (inr r.1), r.2)
  ]
]

-- A value raised in a span that reaches where nodes begin joins the value of all.
pub all_joint_raised : (f t : Cut) (v : ValueView) (ns : List Node) → IsSorted ns → Lt f t →
    Lt (start_of ns) t → all_joint (raise_nodes (between f t) v ns) ≡ joint (all_joint ns) (v ∷ [])
all_joint_raised f t v ns sorted up reaches =
    let new : List Node = raise_nodes (between f t) v ns in
    one_joint (HasValue new) (HasValue new) (all_joint new) (joint (all_joint ns) (v ∷ []))
    (λ w h. h) (λ w h. h) (all_joint_is new (raise_nodes-sorted (between f t) v ns sorted))
    (raised_joint (HasValue ns) (HasValue new) (all_joint ns) v (had_before (between f t) v ns)
    (has_after (between f t) v ns) (raises_one f t v ns sorted up reaches)
    (all_joint_is ns sorted))

-- and in one that stops there or below it changes nothing
pub all_joint_kept : (f t : Cut) (v : ValueView) (ns : List Node) → IsSorted ns →
    Le t (start_of ns) → all_joint (raise_nodes (between f t) v ns) ≡ all_joint ns
all_joint_kept f t v ns sorted high =
    ap (λ (ms : List Node). all_joint ms) (raises_none f t v ns sorted high)

-- nodes begin below the last cut
pub starts_below_last : (ns : List Node) → 1 ≤ length ns → Lt (start_of ns) last
starts_below_last [] some = absurd (omega (arith, some))
starts_below_last (n ∷ ns) some = refl

pub all_joint_whole : (v : ValueView) (ns : List Node) → IsSorted ns → 1 ≤ length ns →
    all_joint (raise_nodes everything v ns) ≡ joint (all_joint ns) (v ∷ [])
all_joint_whole v ns sorted some =
    all_joint_raised (before []) last v ns sorted refl (starts_below_last ns some)

pub all_joint_lazy : (p : Option ValueView) (ns : List Node) → IsSorted ns → 1 ≤ length ns →
    all_joint (with_lazy p ns) ≡ seen_with p true (all_joint ns)
all_joint_lazy None ns sorted some = refl
all_joint_lazy (Some v) ns sorted some = all_joint_whole v ns sorted some

-- of two lists
has_either : (xs ys : List Node) (w : ValueView) → HasValue (xs ++ ys) w →
    HasValue xs w ⊎ HasValue ys w
has_either [] ys w h = inr h
has_either (x ∷ xs) ys w (inl h) = inl (inl h)
has_either (x ∷ xs) ys w (inr (inl h)) = inl (inr (inl h))
has_either (x ∷ xs) ys w (inr (inr h)) =
    elim (has_either xs ys w h) [ inl g ↦ inl (inr (inr g)) | inr g ↦ inr g ]

either_has : (xs ys : List Node) (w : ValueView) → HasValue xs w ⊎ HasValue ys w →
    HasValue (xs ++ ys) w
either_has [] ys w (inl h) = absurd h
either_has [] ys w (inr h) = h
either_has (x ∷ xs) ys w (inl (inl h)) = inl h
either_has (x ∷ xs) ys w (inl (inr (inl h))) = inr (inl h)
either_has (x ∷ xs) ys w (inl (inr (inr h))) = inr (inr (either_has xs ys w (inl h)))
either_has (x ∷ xs) ys w (inr h) = inr (inr (either_has xs ys w (inr h)))

-- The joint value of two lists is that of their joint values.
pub all_joint_append : (xs ys : List Node) → IsSorted (xs ++ ys) →
    all_joint (xs ++ ys) ≡ joint (all_joint xs) (all_joint ys ∷ [])
all_joint_append xs ys sorted = one_joint (HasValue (xs ++ ys)) (λ w. HasValue xs w ⊎ HasValue ys w)
    (all_joint (xs ++ ys)) (joint (all_joint xs) (all_joint ys ∷ [])) (has_either xs ys)
    (either_has xs ys) (all_joint_is (xs ++ ys) sorted)
    (joint_of_two (HasValue xs) (HasValue ys) (all_joint xs) (all_joint ys)
    (all_joint_is xs (sorted_left xs ys sorted)) (all_joint_is ys (sorted_right xs ys sorted)))

-- The best so far with the joint value of what is left is that of all.
pub record JointSoFar (all left : List Node) (best : ValueView) : Type 0 where
  pub zero_below : IsAtMost (unowned zero_time) best
  pub whole : joint best (all_joint left ∷ []) ≡ all_joint all

pub joint_at_first : (all : List Node) → JointSoFar all all (unowned zero_time)
joint_at_first all = record {
  zero_below = IsAtMost-itself (unowned zero_time);
  whole = zero_first (all_joint all) (zero_below_answer everything all);
}

pub joint_goes_on : (all xs ys : List Node) (best : ValueView) → IsSorted (xs ++ ys) →
    JointSoFar all (xs ++ ys) best → JointSoFar all ys (joint best (all_joint xs ∷ []))
joint_goes_on all xs ys best sorted so_far = record {
  zero_below = IsAtMost-transitive (unowned zero_time) best (joint best (all_joint xs ∷ []))
      so_far.zero_below (first_below best (all_joint xs));
  whole = sym (joint-chain best (all_joint xs) (all_joint ys)) ∙
      ap (λ (w : ValueView). joint best (w ∷ [])) (sym (all_joint_append xs ys sorted)) ∙
      so_far.whole;
}

pub joint_at_end : (all : List Node) (best : ValueView) → JointSoFar all [] best →
    best ≡ all_joint all
joint_at_end all best so_far = sym (zero_last best so_far.zero_below) ∙ so_far.whole

-- one subtree more
pub joint_of_subtree : {X : Type 0} (f : X → List Node) (xs : List X) (i : ℕ) (x : X)
    (best w : ValueView) → IsSorted (nodes_of (map f xs)) → i < length xs → x ≡ get_or xs i x →
    w ≡ all_joint (f x)
    → JointSoFar (nodes_of (map f xs)) (nodes_of (drop i (map f xs))) best →
    JointSoFar (nodes_of (map f xs)) (nodes_of (drop (i + 1) (map f xs))) (joint best (w ∷ []))
joint_of_subtree f xs i x best w sorted inside at is so_far =
    let ls : List (List Node) = map f xs in
    let next : suc i ≡ i + 1 = omega arith in
    let here = leaf_first ls i [] (omega (arith, inside, length-map xs f)) in
    let value : w ≡ all_joint (get_or ls i []) =
    is ∙ ap (λ (ns : List Node). all_joint ns) (read_leaf f xs i x inside at) in
    subst (λ (j : ℕ). JointSoFar (nodes_of ls) (nodes_of (drop j ls)) (joint best (w ∷ []))) next
    (subst (λ (u : ValueView). JointSoFar (nodes_of ls) (nodes_of (drop (suc i) ls))
    (joint best (u ∷ []))) (sym value)
    (joint_goes_on (nodes_of ls) (get_or ls i []) (nodes_of (drop (suc i) ls)) best
    (subst IsSorted here (sorted_from ls i sorted))
    (subst (λ (ns : List Node). JointSoFar (nodes_of ls) ns best) here so_far)))

-- and no subtree left
pub joint_of_subtrees : {X : Type 0} (f : X → List Node) (xs : List X) (i : ℕ) (best : ValueView) →
    length xs ≤ i → JointSoFar (nodes_of (map f xs)) (nodes_of (drop i (map f xs))) best →
    best ≡ all_joint (nodes_of (map f xs))
joint_of_subtrees f xs i best past so_far =
    joint_at_end (nodes_of (map f xs)) best
    (subst (λ (ls : List (List Node)). JointSoFar (nodes_of (map f xs)) (nodes_of ls) best)
    (drop_all i (map f xs) (omega (arith, past, length-map xs f))) so_far)

-- new nodes change no joint value
pub all_joint_split : (old new : List Node) (ks : List KeyBytes) → IsSplitAt old new ks →
    all_joint new ≡ all_joint old
all_joint_split old new ks split = split.answers everything

pub all_joint_made : (old new : List Node) (k : KeyBytes) → IsSorted old → HasNode old new k →
    all_joint new ≡ all_joint old
all_joint_made old new k sorted made = (has_node_splits old new k sorted made).answers everything

-- What an Add makes of the joint value: it joins it, where the span reaches where the nodes then
-- begin.
pub all_joint_added : (old new : List Node) (o q : Option KeyBytes) (f t : Cut) (v : ValueView) →
    IsSorted old → IsInOrder o q → Lt f t → AddsNodes old new o q (between f t) v
    → all_joint new ≡ cond (is_below (start_of new) t) (joint (all_joint old) (v ∷ []))
    (all_joint old)
all_joint_added old new o q f t v sorted order up adds =
    ap (λ (ns : List Node). all_joint ns) adds.raised
    ∙ by (is_below (start_of adds.mid) t) refl
    ∙ ap (λ (w : ValueView). cond (is_below (start_of adds.mid) t) (joint w (v ∷ [])) w) before_it
    ∙ ap (λ (c : Cut). cond (is_below c t) (joint (all_joint old) (v ∷ [])) (all_joint old))
    (sym starts)
  where
    mid_sorted : IsSorted adds.mid
    mid_sorted = makes_sorted old adds.mid o q sorted order adds.made

    starts : start_of new ≡ start_of adds.mid
    starts = ap (λ (ns : List Node). start_of ns) adds.raised ∙
        raise_nodes-start (between f t) v adds.mid

    before_it : all_joint adds.mid ≡ all_joint old
    before_it =
        let once = with_new_splits old q adds.made.upper sorted adds.made.has_upper in
        let twice = with_new_splits (with_new old adds.made.upper) o adds.made.lower once.sorted
        (still_new old o q adds.made.lower adds.made.upper sorted order adds.made.has_lower
        adds.made.has_upper) in
        ap (λ (ns : List Node). all_joint ns) adds.made.nodes ∙ twice.answers everything ∙
        once.answers everything

    by : (b : Bool) → is_below (start_of adds.mid) t ≡ b →
        all_joint (raise_nodes (between f t) v adds.mid) ≡
        cond b (joint (all_joint adds.mid) (v ∷ [])) (all_joint adds.mid)
    by true h = all_joint_raised f t v adds.mid mid_sorted up h
    by false h = all_joint_kept f t v adds.mid mid_sorted h
