-- How a span is gone over, from one end key to the next.
use Rattle.std.proofs.Common.{◌≡◌, ◌⊎◌, ◌∙◌, inl, inr, refl, sym, ap, subst, ℕ, ◌+◌, ◌<◌, ◌≤◌, cond, List, [], ◌∷◌, ◌++◌, Bool, true, false, not, ◌||◌, Option, Some, None, arith}
use Rattle.std.specs.List.{Contains}
use Rattle.std.specs.Str.{bytes_eq}
use Rattle.std.proofs.lemmas.Bool.{cases_Bool, both_ways}
use Rattle.std.proofs.lemmas.Option.{same_Some}
use Rattle.std.proofs.lemmas.Slice.Eq.{bytes_eq-Decides}
use Rattle.std.proofs.lemmas.List.Folds.{list_any-append}
use Rattle.tsc_time.proofs.Members.{IsIn, IsIn-from_Contains}
use Rattle.tsc_span.specs.Span.{KeyBytes, Cut, before, after, last, is_below, smaller_cut, key_of_cut, different_keys, SpanView, nothing, between, end_keys, key_cmp, range_for_lookup}
use Rattle.tsc_span.specs.LookupSpan.{span_for_lookup}
use Rattle.tsc_span.proofs.CutsTotal.{key_cmp-same, sides_in_order, no_cut_between_sides}
use Rattle.tsc_span.proofs.MadeSpans.{only_less, less_before, less_or_equal}
use Rattle.tsc_span.proofs.Ranges.{range_of_less, range_of_equal}
use Rattle.tsc_span.proofs.Overlaps.{is_below-opposite, no_lower-transitive, is_below-transitive}
use Rattle.tsc_page_model.specs.Page.{Mark, PageMarks, marked_keys}
use Rattle.tsc_page_model.specs.PageView.{PageView, is_in}
use Rattle.tsc_page_model.specs.KeysAbove.{lies_above, IsLeastAbove}
use Rattle.tsc_cache.specs.CacheView.{EachRepresents}
use Rattle.tsc_cache.specs.Keys.{keys_on, keys_seen}
use Rattle.tsc_cache.proofs.MarkLists.{all_marks}
use Rattle.timestamp_cache.specs.Stretches.{is_after, stretch_end, IsBeside, IsStretch}
use Rattle.timestamp_cache.proofs.Within.{is_below-itself, none_above_last, upto_below, AreBeside}

-- ---- where a stretch stops

not_true : (b : Bool) → not b ≡ true → b ≡ false
not_true true h = sym h
not_true false h = refl

not_false : (b : Bool) → not b ≡ false → b ≡ true
not_false true h = refl
not_false false h = sym h

-- no cut is below another that is below it, so neither side of a key that is not above a cut is
-- above that
not_above : (at end : Cut) (k : KeyBytes) → lies_above at k ≡ false → IsBeside at end (before k) ×
    IsBeside at end (after k)
not_above at end k under =
    let first : is_below (before k) at ≡ true = not_false _ under in (
      λ h. absurd (both_ways (is_below at (before k)) (is_below-opposite (before k) at first) h),
      λ h. absurd (both_ways (is_below at (after k)) (no_cut_between_sides at k ∙ ap not first) h),
    )

-- and neither side of one from which on a stretch is past is below its end
past_end : (at end : Cut) (k : KeyBytes) → is_below (before k) end ≡ false →
    IsBeside at end (before k) × IsBeside at end (after k)
past_end at end k past = (
  λ h. past,
  λ h. no_lower-transitive end (before k) (after k) past
      (is_below-opposite (before k) (after k) (sides_in_order k)),
)

-- the lower of two cuts
smaller_first : (a b : Cut) → is_below a (smaller_cut a b) ≡ false
smaller_first a b = elim (cases_Bool (is_below a b))
    [ inl h ↦ rw h (is_below-itself a) | inr h ↦ rw h h ]

smaller_second : (a b : Cut) → is_below b (smaller_cut a b) ≡ false
smaller_second a b = elim (cases_Bool (is_below a b))
    [ inl h ↦ rw h (is_below-opposite a b h) | inr h ↦ rw h (is_below-itself b) ]

below_smaller : (c a b : Cut) → is_below c a ≡ true → is_below c b ≡ true →
    is_below c (smaller_cut a b) ≡ true
below_smaller c a b p q = elim (cases_Bool (is_below a b)) [ inl h ↦ rw h p | inr h ↦ rw h q ]

smaller_either : (a b : Cut) → (smaller_cut a b ≡ b) ⊎ (smaller_cut a b ≡ a)
smaller_either a b = elim (cases_Bool (is_below a b))
    [ inl h ↦ inr (rw h refl) | inr h ↦ inl (rw h refl) ]

-- With the least key above a cut, the stretch goes up to where it stops or to a third cut,
-- whichever is lower.
pub is_stretch : (keys : List KeyBytes) (at to : Cut) (found : Option KeyBytes) →
    is_below at to ≡ true → IsLeastAbove at keys found →
    IsStretch keys at to (smaller_cut (stretch_end at found) to)
is_stretch keys at to None below none = rw (none_above_last to) (record {
  rises = below;
  stops = is_below-itself to;
  whole = λ k there. not_above at to k (none k there);
  goes_on = inl refl;
})
is_stretch keys at to (Some m) below least = elim (cases_Bool (is_below at (before m))) [
  | inl h ↦ rw h (up_to (before m) h
      (λ k there over. past_end at _ k
      (no_lower-transitive _ (before m) (before k) (smaller_first (before m) to)
      (least.least k there over))) (inl refl))
  | inr h ↦ rw h (up_to (after m) (no_cut_between_sides at m ∙ ap not (not_true _ least.above))
      (λ k there over. (only_key h (before k), only_key h (after k))) (inr refl))
]
  where
    up_to : (stop : Cut) → is_below at stop ≡ true →
        ((k : KeyBytes) → is_in k keys ≡ true → lies_above at k ≡ true →
        IsBeside at (smaller_cut stop to) (before k) × IsBeside at (smaller_cut stop to) (after k))
        → (stop ≡ before m) ⊎ (stop ≡ after m) → IsStretch keys at to (smaller_cut stop to)
    up_to stop rises over side = record {
      rises = below_smaller at stop to rises below;
      stops = smaller_second stop to;
      whole = λ k there. elim (cases_Bool (lies_above at k))
          [ inl h ↦ over k there h | inr h ↦ not_above at (smaller_cut stop to) k h ];
      goes_on = elim (smaller_either stop to) [
        | inl e ↦ inl e
        | inr e ↦ inr (m, least.member, elim side [ inl f ↦ inl (e ∙ f) | inr f ↦ inr (e ∙ f) ])
      ];
    }

    only_key : is_below at (before m) ≡ false → (c : Cut) → IsBeside at (smaller_cut (after m) to) c
    only_key starts c h =
        let over : is_below (before m) c ≡ true = upto_below (before m) at c starts h in
        no_lower-transitive (smaller_cut (after m) to) (after m) c (smaller_first (after m) to)
        (no_cut_between_sides c m ∙ ap not over)

-- so it is by the place where it stops by the key
pub stretch_to_key : (keys : List KeyBytes) (at to end : Cut) (found : Option KeyBytes) →
    is_below at to ≡ true → IsLeastAbove at keys found → end ≡ stretch_end at found →
    is_below end to ≡ true → IsStretch keys at to end
stretch_to_key keys at to end found below least is under =
    let same : smaller_cut (stretch_end at found) to ≡ end =
    subst (λ (c : Cut). smaller_cut c to ≡ end) is (rw under refl) in
    subst (λ (c : Cut). IsStretch keys at to c) same (is_stretch keys at to found below least)

pub stretch_to_third : (keys : List KeyBytes) (at to end : Cut) (found : Option KeyBytes) →
    is_below at to ≡ true → IsLeastAbove at keys found → end ≡ stretch_end at found →
    is_below end to ≡ false → IsStretch keys at to to
stretch_to_third keys at to end found below least is over =
    let same : smaller_cut (stretch_end at found) to ≡ to =
    subst (λ (c : Cut). smaller_cut c to ≡ to) is (rw over refl) in
    subst (λ (c : Cut). IsStretch keys at to c) same (is_stretch keys at to found below least)

-- ---- no mark of a state has a cut within a stretch

in_either : (k : KeyBytes) (ks ms : List KeyBytes) → is_in k (ks ++ ms) ≡ true →
    (is_in k ks ≡ true) ⊎ (is_in k ms ≡ true)
in_either k ks ms h = elim (cases_Bool (is_in k ks)) [
  | inl g ↦ inl g
  | inr g ↦ inr (sym (ap (λ b. b || is_in k ms) g) ∙ sym (list_any-append (bytes_eq k) ks ms) ∙ h)
]

in_left : (k : KeyBytes) (ks ms : List KeyBytes) → is_in k ks ≡ true → is_in k (ks ++ ms) ≡ true
in_left k ks ms h = list_any-append (bytes_eq k) ks ms ∙ ap (λ b. b || is_in k ms) h

in_right : (k : KeyBytes) (ks ms : List KeyBytes) → is_in k ms ≡ true → is_in k (ks ++ ms) ≡ true
in_right k ks ms h = list_any-append (bytes_eq k) ks ms ∙
    elim (cases_Bool (is_in k ks)) [ inl g ↦ rw g refl | inr g ↦ rw g h ]

-- an end key of a state's pages can be seen
pub key_seen : (k : KeyBytes) (vs : List PageView) (ps : List PageMarks) → EachRepresents vs ps →
    is_in k (keys_on ps) ≡ true → is_in k (keys_seen vs) ≡ true
key_seen k [] [] stand h = h
key_seen k [] (p ∷ ps) stand h = absurd stand
key_seen k (v ∷ vs) [] stand h = absurd stand
key_seen k (v ∷ vs) (p ∷ ps) stand h = elim (in_either k (marked_keys p.marks) (keys_on ps) h) [
  | inl g ↦ in_left k v.keys (keys_seen vs) (stand.0.keys k ∙ g)
  | inr g ↦ in_right k v.keys (keys_seen vs) (key_seen k vs ps stand.1 g)
]

-- the keys of a mark are among those of its page, and of all pages
marked : (k : KeyBytes) (m : Mark) (ms : List Mark) → IsIn ms m → is_in k (end_keys m.span) ≡ true →
    is_in k (marked_keys ms) ≡ true
marked k m [] i h = absurd i
marked k m (n ∷ ms) i h = elim i [
  | inl e ↦ in_left k (end_keys n.span) (marked_keys ms)
      (ap (λ (x : Mark). is_in k (end_keys x.span)) e ∙ h)
  | inr j ↦ in_right k (end_keys n.span) (marked_keys ms) (marked k m ms j h)
]

split_marks : (m : Mark) (ms ns : List Mark) → IsIn (ms ++ ns) m → IsIn ms m ⊎ IsIn ns m
split_marks m [] ns i = inr i
split_marks m (x ∷ ms) ns i = elim i [
  | inl e ↦ inl (inl e)
  | inr j ↦ elim (split_marks m ms ns j)
      [ inl h ↦ inl (inr h) | inr h ↦ inr h ]
]

on_pages : (k : KeyBytes) (m : Mark) (ps : List PageMarks) → IsIn (all_marks ps) m →
    is_in k (end_keys m.span) ≡ true → is_in k (keys_on ps) ≡ true
on_pages k m [] i h = absurd i
on_pages k m (p ∷ ps) i h = elim (split_marks m p.marks (all_marks ps) i) [
  | inl j ↦ in_left k (marked_keys p.marks) (keys_on ps) (marked k m p.marks j h)
  | inr j ↦ in_right k (marked_keys p.marks) (keys_on ps) (on_pages k m ps j h)
]

itself : (k : KeyBytes) → bytes_eq k k ≡ true
itself k = (bytes_eq-Decides k k).1 refl

-- the key of a cut of a span is an end key
first_key : (a b : Cut) (k : KeyBytes) → key_of_cut a ≡ Some k →
    is_in k (end_keys (between a b)) ≡ true
first_key a b k e = rw e (by (key_of_cut b))
  where
    by : (o : Option KeyBytes) → is_in k (different_keys (Some k) o) ≡ true
    by None = rw (itself k) refl
    by (Some n) = elim (cases_Bool (bytes_eq k n))
        [ inl h ↦ rw (h, itself k) refl | inr h ↦ rw (h, itself k) refl ]

second_key : (a b : Cut) (k : KeyBytes) → key_of_cut b ≡ Some k →
    is_in k (end_keys (between a b)) ≡ true
second_key a b k e = rw e (by (key_of_cut a))
  where
    by : (o : Option KeyBytes) → is_in k (different_keys o (Some k)) ≡ true
    by None = rw (itself k) refl
    by (Some n) = elim (cases_Bool (bytes_eq n k)) [
      | inl h ↦ rw (h, (bytes_eq-Decides n k).0 h, itself k) refl
      | inr h ↦ elim (cases_Bool (bytes_eq k n))
          [ inl g ↦ rw (h, g) refl | inr g ↦ rw (h, g, itself k) refl ]
    ]

-- so no mark of a state that the pages stand for has a cut within a stretch
pub marks_beside : (vs : List PageView) (ps : List PageMarks) (at to end : Cut) →
    EachRepresents vs ps → IsStretch (keys_seen vs) at to end → (m : Mark) →
    Contains (all_marks ps) m → AreBeside at end m.span
marks_beside vs ps at to end stand stretch m c =
    of_span m.span (λ k h. key_seen k vs ps stand
    (on_pages k m ps (IsIn-from_Contains (all_marks ps) m c) h))
  where
    of_cut : (a : Cut) → ((k : KeyBytes) → key_of_cut a ≡ Some k → is_in k (keys_seen vs) ≡ true) →
        IsBeside at end a
    of_cut (before k) seen = (stretch.whole k (seen k refl)).0
    of_cut (after k) seen = (stretch.whole k (seen k refl)).1
    of_cut last seen = λ h. none_above_last end

    of_span : (s : SpanView) → ((k : KeyBytes) → is_in k (end_keys s) ≡ true →
        is_in k (keys_seen vs) ≡ true) → AreBeside at end s
    of_span nothing seen = tt
    of_span (between a b) seen = (
      of_cut a (λ k e. seen k (first_key a b k e)),
      of_cut b (λ k e. seen k (second_key a b k e)),
    )

-- ---- how many sides of keys are still ahead

abbrev pub sides_above : Cut → List KeyBytes → ℕ
sides_above at [] = 0
sides_above at (k ∷ ks) = (cond (is_below at (before k)) 1 0 + cond (is_below at (after k)) 1 0) +
    sides_above at ks

-- and one more, where the end is not reached
abbrev pub steps_left : Cut → Cut → List KeyBytes → ℕ
steps_left at to keys = sides_above at keys + cond (is_below at to) 1 0

-- what is above a cut is above each lower one
still : (at end c : Cut) → is_below at end ≡ true →
    cond (is_below end c) 1 0 ≤ cond (is_below at c) 1 0
still at end c rises = elim (cases_Bool (is_below end c)) [
  | inl h ↦ rw (h, is_below-transitive at end c rises h) (omega arith)
  | inr h ↦ rw h (omega arith)
]

fewer_or_same : (at end : Cut) (keys : List KeyBytes) → is_below at end ≡ true →
    sides_above end keys ≤ sides_above at keys
fewer_or_same at end [] rises = omega arith
fewer_or_same at end (k ∷ ks) rises =
    omega (
      arith,
      fewer_or_same at end ks rises,
      still at end (before k) rises,
      still at end (after k) rises,
    )

-- a cut that is reached is above no more
gone : (at end : Cut) → is_below at end ≡ true →
    cond (is_below end end) 1 0 < cond (is_below at end) 1 0
gone at end rises = rw (rises, is_below-itself end) (omega arith)

side_gone : (at end : Cut) (k : KeyBytes) → is_below at end ≡ true →
    (end ≡ before k) ⊎ (end ≡ after k)
    → cond (is_below end (before k)) 1 0 + cond (is_below end (after k)) 1 0 < cond
    (is_below at (before k)) 1 0 + cond (is_below at (after k)) 1 0
side_gone at end k rises (inl e) =
    let first : cond (is_below end (before k)) 1 0 < cond (is_below at (before k)) 1 0 =
    subst (λ (c : Cut). cond (is_below end c) 1 0 < cond (is_below at c) 1 0) e
    (gone at end rises) in
    omega (arith, first, still at end (after k) rises)
side_gone at end k rises (inr e) =
    let second : cond (is_below end (after k)) 1 0 < cond (is_below at (after k)) 1 0 =
    subst (λ (c : Cut). cond (is_below end c) 1 0 < cond (is_below at c) 1 0) e
    (gone at end rises) in
    omega (arith, second, still at end (before k) rises)

fewer : (at end : Cut) (k : KeyBytes) (keys : List KeyBytes) → is_below at end ≡ true →
    is_in k keys ≡ true → (end ≡ before k) ⊎ (end ≡ after k) →
    sides_above end keys < sides_above at keys
fewer at end k [] rises there side = absurd (let none : false ≡ true = there in cc)
fewer at end k (m ∷ keys) rises there side = elim (cases_Bool (bytes_eq k m)) [
  | inl h ↦ omega (arith, here ((bytes_eq-Decides k m).0 h), fewer_or_same at end keys rises)
  | inr h ↦ omega (
    arith,
    fewer at end k keys rises (rw h at there) side,
    still at end (before m) rises,
    still at end (after m) rises,
  )
]
  where
    here : k ≡ m → cond (is_below end (before m)) 1 0 + cond (is_below end (after m)) 1 0 < cond
        (is_below at (before m)) 1 0 + cond (is_below at (after m)) 1 0
    here same = side_gone at end m rises
        (elim side [ inl e ↦ inl (e ∙ ap before same) | inr e ↦ inr (e ∙ ap after same) ])

-- each stretch leaves fewer steps
pub fewer_steps : (keys : List KeyBytes) (at to end : Cut) → is_below at to ≡ true →
    IsStretch keys at to end → steps_left end to keys < steps_left at to keys
fewer_steps keys at to end below stretch = elim stretch.goes_on [
  | inl e ↦
      let none : cond (is_below end to) 1 0 < cond (is_below at to) 1 0 =
      subst (λ (c : Cut). cond (is_below end c) 1 0 < cond (is_below at c) 1 0) e
      (gone at end stretch.rises) in
      omega (arith, none, fewer_or_same at end keys stretch.rises)
  | inr side ↦ omega (
    arith,
    fewer at end side.0 keys stretch.rises side.1 side.2,
    still at end to stretch.rises,
  )
]

-- ---- the span between two cuts, by its keys

-- From the key of a cut below another to that one's key, with the ends that the two leave out, lies
-- what is between them.
pub between_keys : (from to : Cut) (k : KeyBytes) → key_of_cut from ≡ Some k →
    is_below from to ≡ true → span_for_lookup k (key_of_cut to) (is_after from) (not (is_after to))
    ≡ between from to
between_keys (before m) (before n) k e below =
    subst (λ (x : KeyBytes). range_for_lookup x n false true ≡ between (before m) (before n))
    (same_Some _ _ e) (rw (range_of_less m n false true (only_less (key_cmp m n) below)) refl)
between_keys (before m) (after n) k e below =
    subst (λ (x : KeyBytes). range_for_lookup x n false false ≡ between (before m) (after n))
    (same_Some _ _ e) (elim (less_or_equal (key_cmp m n) below) [
      | inl less ↦ rw (range_of_less m n false false less) refl
      | inr equal ↦ rw (range_of_equal m n false false equal)
          (ap (λ x. between (before m) (after x)) (key_cmp-same m n equal))
    ])
between_keys (before m) last k e below = ap (λ x. between (before x) last) (sym (same_Some _ _ e))
between_keys (after m) (before n) k e below =
    subst (λ (x : KeyBytes). range_for_lookup x n true true ≡ between (after m) (before n))
    (same_Some _ _ e) (rw (range_of_less m n true true (less_before (key_cmp m n) below)) refl)
between_keys (after m) (after n) k e below =
    subst (λ (x : KeyBytes). range_for_lookup x n true false ≡ between (after m) (after n))
    (same_Some _ _ e) (rw (range_of_less m n true false (only_less (key_cmp m n) below)) refl)
between_keys (after m) last k e below = ap (λ x. between (after x) last) (sym (same_Some _ _ e))
between_keys last to k e below = absurd (both_ways (is_below last to) (none_above_last to) below)

-- and so of keys that are copies of theirs
pub between_own_keys : (from to : Cut) (k m start end : KeyBytes) (xf xt : Bool) →
    key_of_cut from ≡ Some k → key_of_cut to ≡ Some m → is_below from to ≡ true → start ≡ k →
    end ≡ m → xf ≡ is_after from → xt ≡ not (is_after to)
    → range_for_lookup start end xf xt ≡ between from to
between_own_keys from to k m start end xf xt e f below same_start same_end from_is to_is =
    let is : span_for_lookup k (key_of_cut to) (is_after from) (not (is_after to)) ≡
    between from to = between_keys from to k e below in
    let named : range_for_lookup k m (is_after from) (not (is_after to)) ≡ between from to =
    rw f at is in
    rw (same_start, same_end, from_is, to_is) named
