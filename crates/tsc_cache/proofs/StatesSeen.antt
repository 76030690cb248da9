-- What a cache stands for, before and after an Add, and what it answers.
use Rattle.std.proofs.Common.{◌≡◌, ◌⊎◌, inl, inr, ◌∙◌, refl, sym, ap, subst, Bool, true, false, cond, ◌||◌, ◌&&◌, not, ℕ, suc, List, [], ◌∷◌, ◌++◌, length, map, append-nil, arith}
use Rattle.std.specs.Prelude.{reverse, Result, Ok, Err, IfOk, OnOk}
use Rattle.std.specs.List.{flat_map}
use Rattle.std.specs.Str.{bytes_eq}
use Rattle.std.proofs.lemmas.Bool.{cases_Bool, both_ways}
use Rattle.std.proofs.lemmas.List.{reverse-reverse}
use Rattle.std.proofs.lemmas.List.Folds.{list_any-append}
use Rattle.std.proofs.lemmas.Grind.{flat_map-append}
use Rattle.tsc_time.specs.Time.{Time, zero_time, is_before, later}
use Rattle.tsc_time.specs.ValueView.{ValueView, unowned}
use Rattle.tsc_time.specs.Joint.{joint, joint_above, IsAtMost}
use Rattle.tsc_time.proofs.TimeOrder.{is_before-reports, is_before-itself, no_earlier-transitive}
use Rattle.tsc_time.proofs.Members.{IsIn, IsIn-from_Contains, Contains-from_IsIn}
use Rattle.tsc_time.proofs.JointLemmas.{joint-above, joint-least, joint-append}
use Rattle.tsc_time.proofs.RatchetOrder.{IsAtMost-antisymmetric, IsAtMost-transitive}
use Rattle.tsc_span.specs.Span.{SpanView, overlaps, end_keys, span_cost}
use Rattle.tsc_page_model.specs.Page.{Mark, PageMarks, empty_page, with_mark, top, values_on, marked_keys}
use Rattle.tsc_page_model.specs.PageView.{PageView, Represents, NoAnswerAboveTop, answer, is_in}
use Rattle.tsc_page_model.proofs.Standing.{same_room, top_with}
use Rattle.tsc_page_model.proofs.Lookups.{values_on-more}
use Rattle.tsc_cache.specs.Rotation.{Eviction, Evicts, RotatesWith, evict, front_marked, front_size, front_top, front_view_size, front_view_top, highest, new_front, next_size, rotate, saturating_inc}
use Rattle.tsc_cache.specs.declared.added.Added.{Added}
use Rattle.tsc_cache.specs.ConfigView.{ConfigView}
use Rattle.tsc_cache.specs.State.{CacheState, is_kept, kept_without_rotation, kept_after_rotation, front_has_room, marked, on_front, step, look}
use Rattle.tsc_cache.specs.Lookup.{latest_on, LooksIntoPages}
use Rattle.tsc_cache.specs.CacheView.{CacheView, EachRepresents, RepresentsState, IsMarked, MarksFront, Adds, cache_answer, front_has_room_for, latest_answer, LooksIntoViews}
use Rattle.tsc_cache.specs.Stacks.{HaveTopsUpTo, AreStacked, pages_answer, Drops}
use Rattle.tsc_cache.proofs.Lookings.{none_before_zero}
use Rattle.tsc_cache.proofs.FloorJoints.{above_floor, above_each, least_above, at_most_unowned}
use Rattle.tsc_cache.proofs.MarkLists.{values_on-from}
use Rattle.tsc_cache.proofs.Floors.{later-first, later-second, top-each}
use Rattle.tsc_cache.proofs.Evictions.{evict-is}

-- ---- one page

-- a page that has one more mark stands for the list with it
pub marked_stands : (old new : PageView) (m : Mark) (p : PageMarks) → IsMarked old new m →
    Represents old p → Represents new (with_mark p m)
marked_stands old new m p marked stands = record {
  size = marked.size ∙ stands.size;
  top = marked.top ∙ ap (λ t. later t m.value.time) stands.top ∙ sym (top_with p m);
  keys = λ k. marked.keys k ∙ ap (λ b. b || is_in k (end_keys m.span)) (stands.keys k)
      ∙ sym (list_any-append (bytes_eq k) (marked_keys p.marks) (end_keys m.span)) ∙
      ap (is_in k) (sym more_keys);
  answers = λ s.
      marked.answers s
      ∙ ap (λ (w : ValueView). cond (overlaps m.span s) (joint w (m.value ∷ [])) w)
      (stands.answers s)
      ∙ joined (overlaps m.span s) (values_on s p.marks) ∙
      ap (joint_above zero_time) (sym (values_on-more s p.marks m));
}
  where
    more_keys : marked_keys (p.marks ++ m ∷ []) ≡ marked_keys p.marks ++ end_keys m.span
    more_keys = flat_map-append (λ (n : Mark). end_keys n.span) p.marks (m ∷ []) ∙
        ap (λ ks. marked_keys p.marks ++ ks) (append-nil (end_keys m.span))

    joined : (b : Bool) (vs : List ValueView) →
        cond b (joint (joint_above zero_time vs) (m.value ∷ [])) (joint_above zero_time vs) ≡
        joint_above zero_time (vs ++ cond b (m.value ∷ []) [])
    joined true vs = sym (joint-append (unowned zero_time) vs m.value)
    joined false vs = ap (joint_above zero_time) (sym (append-nil vs))

-- what is at most an unowned time is not later
no_later : (v : ValueView) (t : Time) → IsAtMost v (unowned t) → is_before t v.time ≡ false
no_later v t below = grind (arith, is_before-reports)

-- no answer of a page that stands for a list is later than its top
pub stands-up_to_top : (v : PageView) (p : PageMarks) → Represents v p → NoAnswerAboveTop v
stands-up_to_top v p stands s =
    subst (λ (t : Time). is_before t (answer v s).time ≡ false) (sym stands.top)
    (subst (λ (w : ValueView). is_before (top p) w.time ≡ false) (sym (stands.answers s))
    (no_later (joint_above zero_time (values_on s p.marks)) (top p)
    (least_above zero_time (values_on s p.marks) (unowned (top p))
    (at_most_unowned (top p) (unowned zero_time) (none_before_zero (top p)))
    (λ w c. let m = values_on-from s p.marks w c in at_most_unowned (top p) w
    (subst (λ (x : ValueView). is_before (top p) x.time ≡ false) m.3 (top-each p m.0 m.1))))))

-- ---- the pages of a cache

-- as many pages as the state has
pub as_many : (vs : List PageView) (ps : List PageMarks) → EachRepresents vs ps →
    length vs ≡ length ps
as_many [] [] stands = refl
as_many [] (p ∷ ps) stands = absurd stands
as_many (v ∷ vs) [] stands = absurd stands
as_many (v ∷ vs) (p ∷ ps) stands = ap suc (as_many vs ps stands.1)

pub same_front_room : (s : CacheState) (vs : List PageView) (span : SpanView) →
    EachRepresents vs s.pages → front_has_room_for vs span ≡ front_has_room s span
same_front_room s vs span stands = by vs s.pages stands
  where
    room_of : List PageMarks → Bool
    room_of ps = front_has_room (record { floor = zero_time; pages = ps; rotations = 0 }) span

    by : (ws : List PageView) (ps : List PageMarks) → EachRepresents ws ps →
        front_has_room_for ws span ≡
        front_has_room (record { floor = s.floor; pages = ps; rotations = s.rotations }) span
    by [] [] h = refl
    by [] (p ∷ ps) h = absurd h
    by (w ∷ ws) [] h = absurd h
    by (w ∷ ws) (p ∷ ps) h = same_room w p span h.0

same_front_top : (vs : List PageView) (ps : List PageMarks) → EachRepresents vs ps →
    front_view_top vs ≡ front_top ps
same_front_top [] [] h = refl
same_front_top [] (p ∷ ps) h = absurd h
same_front_top (v ∷ vs) [] h = absurd h
same_front_top (v ∷ vs) (p ∷ ps) h = h.0.top

same_front_size : (vs : List PageView) (ps : List PageMarks) → EachRepresents vs ps →
    front_view_size vs ≡ front_size ps
same_front_size [] [] h = refl
same_front_size [] (p ∷ ps) h = absurd h
same_front_size (v ∷ vs) [] h = absurd h
same_front_size (v ∷ vs) (p ∷ ps) h = h.0.size

same_tops : (vs : List PageView) (ps : List PageMarks) → EachRepresents vs ps →
    map (λ v. v.top) vs ≡ map top ps
same_tops [] [] h = refl
same_tops [] (p ∷ ps) h = absurd h
same_tops (v ∷ vs) [] h = absurd h
same_tops (v ∷ vs) (p ∷ ps) h = ap (λ t. t ∷ map (λ (w : PageView). w.top) vs) h.0.top ∙
    ap (λ ts. top p ∷ ts) (same_tops vs ps h.1)

-- the pages of a state part as those that stand for them do
record PartedPages (vs ws : List PageView) (pages : List PageMarks) : Type 0 where
  newer : List PageMarks
  older : List PageMarks
  parts : pages ≡ newer ++ older
  first : EachRepresents vs newer
  second : EachRepresents ws older

parted_pages : (vs ws : List PageView) (pages : List PageMarks) → EachRepresents (vs ++ ws) pages →
    PartedPages vs ws pages
parted_pages [] ws pages h = record {
  newer = [];
  older = pages;
  parts = refl;
  first = tt;
  second = h;
}
parted_pages (v ∷ vs) ws [] h = absurd h
parted_pages (v ∷ vs) ws (p ∷ ps) h = let rest = parted_pages vs ws ps h.1 in record {
  newer = p ∷ rest.newer;
  older = rest.older;
  parts = ap (λ qs. p ∷ qs) rest.parts;
  first = (h.0, rest.first);
  second = rest.second;
}

-- and back
record PartedViews (vs : List PageView) (ps qs : List PageMarks) : Type 0 where
  newer : List PageView
  older : List PageView
  parts : vs ≡ newer ++ older
  first : EachRepresents newer ps
  second : EachRepresents older qs

parted_views : (vs : List PageView) (ps qs : List PageMarks) → EachRepresents vs (ps ++ qs) →
    PartedViews vs ps qs
parted_views vs [] qs h = record { newer = []; older = vs; parts = refl; first = tt; second = h }
parted_views [] (p ∷ ps) qs h = absurd h
parted_views (v ∷ vs) (p ∷ ps) qs h = let rest = parted_views vs ps qs h.1 in record {
  newer = v ∷ rest.newer;
  older = rest.older;
  parts = ap (λ ws. v ∷ ws) rest.parts;
  first = (h.0, rest.first);
  second = rest.second;
}

-- ---- an Add

in_place_pages : (vs ws : List PageView) (ps : List PageMarks) (m : Mark) → EachRepresents vs ps →
    MarksFront vs ws m → EachRepresents ws (on_front ps m)
in_place_pages [] ws ps m h marks = absurd marks
in_place_pages (v ∷ vs) [] ps m h marks = absurd marks
in_place_pages (v ∷ vs) (w ∷ ws) [] m h marks = absurd h
in_place_pages (v ∷ vs) (w ∷ ws) (p ∷ ps) m h marks =
    (marked_stands v w m p marks.0 h.0, subst (λ us. EachRepresents us ps) (sym marks.1) h.1)

-- a rotation leads to the state after the rotation
rotated_stands : (old new : CacheView) (m : Mark) (now : Time) (evicted : ℕ) (config : ConfigView)
    (s : CacheState) → new.config ≡ old.config → RotatesWith old new m now evicted →
    RepresentsState old config s
    → RepresentsState new config (marked (rotate config s m.span now).state m) ×
    (evicted ≡ (rotate config s m.span now).evicted)
rotated_stands old new m now evicted config s same turn stands =
    let ps = parted_pages turn.stay turn.dropped s.pages
    (subst (λ vs. EachRepresents vs s.pages) turn.parts stands.pages) in
    let stay_tops = same_tops turn.stay ps.newer ps.first in
    let drop_tops = same_tops turn.dropped ps.older ps.second in
    let evicts : Evicts config now (map top ps.newer) (map top ps.older) =
    subst (λ ts. Evicts config now (map top ps.newer) ts) drop_tops
    (subst (λ ts. Evicts config now ts (map (λ (p : PageView). p.top) turn.dropped)) stay_tops
    (subst (λ (u : ConfigView). Evicts u now (map (λ (p : PageView). p.top) turn.stay)
    (map (λ (p : PageView). p.top) turn.dropped)) stands.set_up turn.evicts)) in
    let out : evict config now s.floor (reverse s.pages) ≡
    record {
      floor = highest s.floor (map top ps.older);
      pages = reverse ps.newer;
      evicted = length ps.older;
    }
    = ap (λ qs. evict config now s.floor (reverse qs)) ps.parts ∙
    evict-is config now s.floor ps.newer ps.older evicts in
    let front : front_marked old.config old.pages m ≡
    with_mark (new_front config s.pages m.span) m =
    ap (λ (u : ConfigView). front_marked u old.pages m) stands.set_up
    ∙ ap (λ n. with_mark (empty_page (next_size config.page_max n (span_cost m.span))
    (front_view_top old.pages)) m) (same_front_size old.pages s.pages stands.pages)
    ∙ ap (λ t. with_mark (empty_page
    (next_size config.page_max (front_size s.pages) (span_cost m.span)) t) m)
    (same_front_top old.pages s.pages stands.pages) in
    let kept : reverse (evict config now s.floor (reverse s.pages)).pages ≡ ps.newer =
    ap (λ (e : Eviction). reverse e.pages) out ∙ reverse-reverse ps.newer in (
      record {
        set_up = same ∙ stands.set_up;
        floor = turn.floor ∙ ap (λ f. highest f (map (λ (p : PageView). p.top) turn.dropped))
            stands.floor ∙ ap (highest s.floor) drop_tops ∙
            sym (ap (λ (e : Eviction). e.floor) out);
        pages = subst (λ qs. EachRepresents new.pages
            (with_mark (new_front config s.pages m.span) m ∷ qs)) (sym kept)
            (subst (λ vs. EachRepresents vs
            (with_mark (new_front config s.pages m.span) m ∷ ps.newer)) (sym turn.pages) (
              subst (λ q. Represents turn.front q) front turn.marked,
              ps.first,
            ));
        rotations = turn.rotations ∙ ap saturating_inc stands.rotations;
      },
      turn.count ∙ as_many turn.dropped ps.older ps.second ∙
          sym (ap (λ (e : Eviction). e.evicted) out),
    )

-- what an Add makes of all that can be seen stands for the next state of whatever state it stood
-- for
pub adds_stands : (old new : CacheView) (m : Mark) (now : Time) (added : Added) →
    Adds old new m now added → (config : ConfigView) (s : CacheState) →
    RepresentsState old config s
    → RepresentsState new config (step config s m now).state ×
    (added ≡ (step config s m now).added)
adds_stands old new m now added adds config s stands =
    elim (cases_Bool (is_kept s.floor m)) [
      | inr h ↦
          let none = adds.not_kept (ap (λ f. is_kept f m) stands.floor ∙ h) in
          rw h (subst (λ v. RepresentsState v config s) (sym none.0) stands, none.1)
      | inl h ↦
          let kept : is_kept old.floor m ≡ true = ap (λ f. is_kept f m) stands.floor ∙ h in
          let room_is = same_front_room s old.pages m.span stands.pages in
          elim (cases_Bool (front_has_room s m.span)) [
            | inl r ↦
                let there = adds.in_place kept (room_is ∙ r) in
                rw (h, r) (
                  record {
                    set_up = adds.config ∙ stands.set_up;
                    floor = there.1 ∙ stands.floor;
                    pages = in_place_pages old.pages new.pages s.pages m stands.pages there.0;
                    rotations = there.2 ∙ stands.rotations;
                  },
                  there.3,
                )
            | inr r ↦
                let turn = adds.rotated kept (room_is ∙ r) in
                let both = rotated_stands old new m now added.evicted config s adds.config
                turn.0 stands in
                rw (h, r) (both.0, turn.1 ∙ ap kept_after_rotation both.1)
          ]
    ]

-- ---- what is answered

-- a value in one of two lists, put together
in_either : (vs ws : List ValueView) (v : ValueView) → IsIn (vs ++ ws) v → IsIn vs v ⊎ IsIn ws v
in_either [] ws v i = inr i
in_either (x ∷ vs) ws v (inl e) = inl (inl e)
in_either (x ∷ vs) ws v (inr i) = elim (in_either vs ws v i) [ inl j ↦ inl (inr j) | inr j ↦ inr j ]

in_first : (vs ws : List ValueView) (v : ValueView) → IsIn vs v → IsIn (vs ++ ws) v
in_first [] ws v i = absurd i
in_first (x ∷ vs) ws v (inl e) = inl e
in_first (x ∷ vs) ws v (inr i) = inr (in_first vs ws v i)

in_second : (vs ws : List ValueView) (v : ValueView) → IsIn ws v → IsIn (vs ++ ws) v
in_second [] ws v i = i
in_second (x ∷ vs) ws v i = inr (in_second vs ws v i)

-- the answers of pages, and the values on them that they come from
abbrev answers_to : SpanView → List PageView → List ValueView
answers_to span vs = map (λ v. answer v span) vs

abbrev values_to : SpanView → List PageMarks → List ValueView
values_to span ps = flat_map (λ p. values_on span p.marks) ps

-- what all values are at most, all answers are
answers_below : (span : SpanView) (u : ValueView) (vs : List PageView) (ps : List PageMarks) →
    EachRepresents vs ps → IsAtMost (unowned zero_time) u
    → ((w : ValueView) → IsIn (values_to span ps) w → IsAtMost w u) → (a : ValueView) →
    IsIn (answers_to span vs) a → IsAtMost a u
answers_below span u [] ps h low each a i = absurd i
answers_below span u (v ∷ vs) [] h low each a i = absurd h
answers_below span u (v ∷ vs) (p ∷ ps) h low each a (inl e) =
    subst (λ (w : ValueView). IsAtMost w u) (sym (h.0.answers span) ∙ e)
    (least_above zero_time (values_on span p.marks) u low
    (λ w c. each w (in_first (values_on span p.marks) (values_to span ps) w
    (IsIn-from_Contains (values_on span p.marks) w c))))
answers_below span u (v ∷ vs) (p ∷ ps) h low each a (inr i) =
    answers_below span u vs ps h.1 low
    (λ w j. each w (in_second (values_on span p.marks) (values_to span ps) w j)) a i

-- and back
values_below : (span : SpanView) (u : ValueView) (vs : List PageView) (ps : List PageMarks) →
    EachRepresents vs ps
    → ((a : ValueView) → IsIn (answers_to span vs) a → IsAtMost a u) → (w : ValueView) →
    IsIn (values_to span ps) w → IsAtMost w u
values_below span u [] [] h each w i = absurd i
values_below span u [] (p ∷ ps) h each w i = absurd h
values_below span u (v ∷ vs) [] h each w i = absurd h
values_below span u (v ∷ vs) (p ∷ ps) h each w i =
    elim (in_either (values_on span p.marks) (values_to span ps) w i) [
      | inl j ↦ IsAtMost-transitive w (joint_above zero_time (values_on span p.marks)) u
          (above_each zero_time (values_on span p.marks) w
          (Contains-from_IsIn (values_on span p.marks) w j))
          (subst (λ (x : ValueView). IsAtMost x u) (h.0.answers span)
          (each (answer v span) (inl refl)))
      | inr j ↦ values_below span u vs ps h.1 (λ a k. each a (inr k)) w j
    ]

-- above any floor pages answer together what their values come to
pub same_answers : (floor : Time) (span : SpanView) (vs : List PageView) (ps : List PageMarks) →
    EachRepresents vs ps → joint_above floor (answers_to span vs) ≡ joint_above floor
    (values_to span ps)
same_answers floor span vs ps h =
    let left : ValueView = joint_above floor (answers_to span vs) in
    let right : ValueView = joint_above floor (values_to span ps) in
    let low : IsAtMost (unowned zero_time) right =
    IsAtMost-transitive (unowned zero_time) (unowned floor) right
    (at_most_unowned floor (unowned zero_time) (none_before_zero floor))
    (above_floor floor (values_to span ps)) in
    IsAtMost-antisymmetric left right
    (least_above floor (answers_to span vs) right (above_floor floor (values_to span ps))
    (λ a c. answers_below span right vs ps h low
    (λ w i. above_each floor (values_to span ps) w (Contains-from_IsIn (values_to span ps) w i))
    a (IsIn-from_Contains (answers_to span vs) a c)))
    (least_above floor (values_to span ps) left (above_floor floor (answers_to span vs))
    (λ w c. values_below span left vs ps h
    (λ a i. above_each floor (answers_to span vs) a
    (Contains-from_IsIn (answers_to span vs) a i)) w
    (IsIn-from_Contains (values_to span ps) w c)))

-- so a cache answers what its state does
pub answers_look : (v : CacheView) (config : ConfigView) (s : CacheState) (span : SpanView) →
    RepresentsState v config s → cache_answer v span ≡ look s span
answers_look v config s span stands =
    ap (λ t. joint_above t (answers_to span v.pages)) stands.floor ∙
    same_answers s.floor span v.pages s.pages stands.pages

-- with the floor last
pub floor_last : (floor : Time) (span : SpanView) (vs : List PageView) →
    joint (pages_answer vs span) (unowned floor ∷ []) ≡ joint_above floor (answers_to span vs)
floor_last floor span vs =
    let pages : List ValueView = answers_to span vs in
    let left : ValueView = joint (pages_answer vs span) (unowned floor ∷ []) in
    let right : ValueView = joint_above floor pages in
    let first : IsAtMost (pages_answer vs span) left =
    joint-above (pages_answer vs span) (unowned floor ∷ []) (pages_answer vs span)
    (Contains-from_IsIn (pages_answer vs span ∷ unowned floor ∷ []) (pages_answer vs span)
    (inl refl)) in
    IsAtMost-antisymmetric left right
    (joint-least (pages_answer vs span) (unowned floor ∷ []) right
    (λ x c. elim (IsIn-from_Contains (pages_answer vs span ∷ unowned floor ∷ []) x c) [
      | inl e ↦ subst (λ (y : ValueView). IsAtMost y right) e (least_above zero_time pages right
          (IsAtMost-transitive (unowned zero_time) (unowned floor) right
          (at_most_unowned floor (unowned zero_time) (none_before_zero floor))
          (above_floor floor pages))
          (λ w d. above_each floor pages w d))
      | inr j ↦ elim j [
        | inl e ↦ subst (λ (y : ValueView). IsAtMost y right) e
            (above_floor floor pages)
        | inr k ↦ absurd k
      ]
    ]))
    (least_above floor pages left
    (joint-above (pages_answer vs span) (unowned floor ∷ []) (unowned floor)
    (Contains-from_IsIn (pages_answer vs span ∷ unowned floor ∷ []) (unowned floor)
    (inr (inl refl))))
    (λ w c. IsAtMost-transitive w (pages_answer vs span) left (above_each zero_time pages w c)
    first))

-- as many pages of the state are looked into
pub looks_into_pages : (span : SpanView) (vs : List PageView) (ps : List PageMarks) (count : ℕ) →
    EachRepresents vs ps → LooksIntoViews span vs count → LooksIntoPages span ps count
looks_into_pages span vs ps count h looks =
    let parts = parted_pages looks.into looks.past ps
    (subst (λ ws. EachRepresents ws ps) looks.parts h) in
    record {
      into = parts.newer;
      past = parts.older;
      parts = parts.parts;
      looked = looks.looked ∙ as_many looks.into parts.newer parts.first;
      goes_on = λ newer page others e. goes_on looks.into parts.newer parts.first looks.goes_on
          newer page others e;
      stops = λ page others e. stops looks.past parts.older parts.second looks.stops page others e
          parts.newer
          (ap (λ (w : ValueView). w.time)
          (same_answers zero_time span looks.into parts.newer parts.first));
    }
  where
    goes_on : (ws : List PageView) (qs : List PageMarks) → EachRepresents ws qs
        → ((newer : List PageView) (page : PageView) (others : List PageView) →
        ws ≡ newer ++ page ∷ others → is_before page.top (latest_answer span newer) ≡ false)
        → (newer : List PageMarks) (page : PageMarks) (others : List PageMarks) →
        qs ≡ newer ++ page ∷ others → is_before (top page) (latest_on span newer) ≡ false
    goes_on ws qs g on newer page others e =
        by (parted_views ws newer (page ∷ others) (subst (λ rs. EachRepresents ws rs) e g))
      where
        by : PartedViews ws newer (page ∷ others) →
            is_before (top page) (latest_on span newer) ≡ false
        by parts = one parts.older parts.second parts.parts
          where
            one : (us : List PageView) → EachRepresents us (page ∷ others) →
                ws ≡ parts.newer ++ us →
                is_before (top page) (latest_on span newer) ≡ false
            one [] k f = absurd k
            one (u ∷ us) k f =
                subst (λ t. is_before (top page) t ≡ false)
                (ap (λ (w : ValueView). w.time)
                (same_answers zero_time span parts.newer newer parts.first))
                (subst (λ t. is_before t (latest_answer span parts.newer) ≡ false) k.0.top
                (on parts.newer u us f))

    stops : (ws : List PageView) (qs : List PageMarks) → EachRepresents ws qs
        → ((page : PageView) (others : List PageView) → ws ≡ page ∷ others →
        is_before page.top (latest_answer span looks.into) ≡ true)
        → (page : PageMarks) (others : List PageMarks) → qs ≡ page ∷ others
        → (into : List PageMarks) → latest_answer span looks.into ≡ latest_on span into →
        is_before (top page) (latest_on span into) ≡ true
    stops ws qs g off page others e into same = one ws (subst (λ rs. EachRepresents ws rs) e g) refl
      where
        one : (us : List PageView) → EachRepresents us (page ∷ others) → ws ≡ us →
            is_before (top page) (latest_on span into) ≡ true
        one [] k f = absurd k
        one (u ∷ us) k f = subst (λ t. is_before (top page) t ≡ true) same
            (subst (λ t. is_before t (latest_answer span looks.into) ≡ true) k.0.top (off u us f))

-- ---- what is kept of the pages

-- tops up to a time are up to a later one
raised_tops : (low high : Time) → is_before high low ≡ false → (us : List PageView) →
    HaveTopsUpTo low us → HaveTopsUpTo high us
raised_tops low high up [] k = tt
raised_tops low high up (u ∷ us) k =
    (no_earlier-transitive u.top low high k.0 up, raised_tops low high up us k.1)

first_tops : (t : Time) (us vs : List PageView) → HaveTopsUpTo t (us ++ vs) → HaveTopsUpTo t us
first_tops t [] vs k = tt
first_tops t (u ∷ us) vs k = (k.0, first_tops t us vs k.1)

first_stacked : (us vs : List PageView) → AreStacked (us ++ vs) → AreStacked us
first_stacked [] vs k = tt
first_stacked (u ∷ us) vs k = (k.0, first_tops u.top us vs k.1, first_stacked us vs k.2)

-- no page has a later top than the front one
tops_to_front : (vs : List PageView) → AreStacked vs → HaveTopsUpTo (front_view_top vs) vs
tops_to_front [] k = tt
tops_to_front (v ∷ vs) k = (is_before-itself v.top, k.1)

-- one more mark answers up to the top with it
answered_to_top : (t : Time) (m : ValueView) (b : Bool) (a : ValueView) →
    is_before t a.time ≡ false → is_before (later t m.time) (cond b (joint a (m ∷ [])) a).time
    ≡ false
answered_to_top t m false a low = no_earlier-transitive a.time t (later t m.time) low
    (later-first t m.time)
answered_to_top t m true a low =
    no_later (joint a (m ∷ [])) (later t m.time)
    (joint-least a (m ∷ []) (unowned (later t m.time))
    (λ x c. elim (IsIn-from_Contains (a ∷ m ∷ []) x c) [
      | inl e ↦ subst (λ (y : ValueView). IsAtMost y (unowned (later t m.time))) e
          (at_most_unowned (later t m.time) a
          (no_earlier-transitive a.time t (later t m.time) low (later-first t m.time)))
      | inr j ↦ elim j [
        | inl e ↦ subst (λ (y : ValueView). IsAtMost y (unowned (later t m.time))) e
            (at_most_unowned (later t m.time) m (later-second t m.time))
        | inr k ↦ absurd k
      ]
    ]))

-- an Add in place keeps them stacked
pub marks_stacked : (vs ws : List PageView) (m : Mark) → AreStacked vs → MarksFront vs ws m →
    AreStacked ws
marks_stacked [] ws m h marks = absurd marks
marks_stacked (v ∷ vs) [] m h marks = absurd marks
marks_stacked (v ∷ vs) (w ∷ ws) m h marks = (
  (λ span. subst (λ (a : ValueView). is_before w.top a.time ≡ false) (sym (marks.0.answers span))
      (subst (λ t. is_before t (cond (overlaps m.span span) (joint (answer v span) (m.value ∷ []))
      (answer v span)).time ≡ false) (sym marks.0.top)
      (answered_to_top v.top m.value (overlaps m.span span) (answer v span) (h.0 span)))),
  subst (λ us. HaveTopsUpTo w.top us) (sym marks.1)
      (raised_tops v.top w.top (subst (λ t. is_before t v.top ≡ false) (sym marks.0.top)
      (later-first v.top m.value.time)) vs h.1),
  subst AreStacked (sym marks.1) h.2,
)

-- a new page on those that stay is stacked too
pub rotates_stacked : (size : ℕ) (front : PageView) (stay dropped old : List PageView) (m : Mark) →
    AreStacked old → old ≡ stay ++ dropped →
    Represents front (with_mark (empty_page size (front_view_top old)) m) →
    AreStacked (front ∷ stay)
rotates_stacked size front stay dropped old m h parts marked =
    let base : Time = front_view_top old in
    let top_is : front.top ≡ later base m.value.time =
    marked.top ∙ top_with (empty_page size base) m in
    let up : is_before front.top base ≡ false =
    subst (λ t. is_before t base ≡ false) (sym top_is) (later-first base m.value.time) in (
      stands-up_to_top front (with_mark (empty_page size base) m) marked,
      raised_tops base front.top up stay
          (first_tops base stay dropped (subst (HaveTopsUpTo base) parts (tops_to_front old h))),
      first_stacked stay dropped (subst AreStacked parts h),
    )

-- ---- a rotation and an Add from their parts

-- a new page with one mark, whose size and base were reckoned from the front page before it
pub front_stands : (config : ConfigView) (pages : List PageView) (m : Mark) (page : PageView)
    (size cost next : ℕ) (base : Time)
    → next ≡ next_size config.page_max size cost → size ≡ front_view_size pages →
    cost ≡ span_cost m.span → base ≡ front_view_top pages
    → Represents page (with_mark (empty_page next base) m) →
    Represents page (front_marked config pages m)
front_stands config pages m page size cost next base is former paid low stands =
    let sized : next ≡ next_size config.page_max (front_view_size pages) (span_cost m.span)
    = is ∙ ap (λ n. next_size config.page_max n cost) former ∙
    ap (next_size config.page_max (front_view_size pages)) paid in
    subst (λ t. Represents page (with_mark
    (empty_page (next_size config.page_max (front_view_size pages) (span_cost m.span)) t)
    m)) low
    (subst (λ n. Represents page (with_mark (empty_page n base) m)) sized stands)

-- what was dropped behind a new front page
pub rotates_with : (old new : CacheView) (m : Mark) (now : Time) (raised : Time) (evicted : ℕ)
    (front : PageView) (older : List PageView)
    → Drops old.config old.floor now old.pages older raised evicted
    → Represents front (front_marked old.config old.pages m)
    → new.pages ≡ front ∷ older → new.floor ≡ raised → new.rotations ≡ saturating_inc old.rotations
    → RotatesWith old new m now evicted
rotates_with old new m now raised evicted front older drops marked pages floor rotations = record {
  front = front;
  stay = older;
  dropped = drops.dropped;
  parts = drops.parts;
  evicts = drops.evicts;
  count = drops.count;
  pages = pages;
  marked = marked;
  floor = floor ∙ drops.floor_is;
  rotations = rotations;
}

-- an Add that rotates
pub rotates_adds : (old new : CacheView) (m : Mark) (now : Time) (added : Added) →
    is_kept old.floor m ≡ true → front_has_room_for old.pages m.span ≡ false →
    new.config ≡ old.config
    → RotatesWith old new m now added.evicted × (added ≡ kept_after_rotation added.evicted) →
    Adds old new m now added
rotates_adds old new m now added kept room same turned = record {
  config = same;
  not_kept = λ no. absurd (both_ways _ no kept);
  in_place = λ _ yes. absurd (both_ways _ room yes);
  rotated = λ _ _. turned;
}

-- an Add in place
pub marks_adds : (old new : CacheView) (m : Mark) (now : Time) (added : Added) →
    is_kept old.floor m ≡ true → front_has_room_for old.pages m.span ≡ true →
    new.config ≡ old.config
    → MarksFront old.pages new.pages m → new.floor ≡ old.floor → new.rotations ≡ old.rotations →
    added ≡ kept_without_rotation → Adds old new m now added
marks_adds old new m now added kept room same marks floor rotations is = record {
  config = same;
  not_kept = λ no. absurd (both_ways _ no kept);
  in_place = λ _ _. (marks, floor, rotations, is);
  rotated = λ _ no. absurd (both_ways _ no room);
}

-- what follows where a call succeeds
pub on_ok : {T E : Type 0} (r : Result T E) (Q : T → Type 0) (P : Type 0) → IfOk r Q →
    ((x : T) → Q x → P) → OnOk r P
on_ok (Ok x) Q P q f = f x q
on_ok (Err e) Q P q f = tt

pub if_ok : {T E : Type 0} (r : Result T E) (Q P : T → Type 0) → IfOk r Q → ((x : T) → Q x → P x) →
    IfOk r P
if_ok (Ok x) Q P q f = f x q
if_ok (Err e) Q P q f = tt

-- whether an Add rotates the pages is what can be seen of the front page
pub rotates_as_seen : (v : CacheView) (config : ConfigView) (s : CacheState) (m : Mark) (now : Time)
    → RepresentsState v config s
    → (is_kept v.floor m && not (front_has_room_for v.pages m.span)) ≡
    (step config s m now).added.rotated
rotates_as_seen v config s m now stands =
    let kept : is_kept v.floor m ≡ is_kept s.floor m = ap (λ f. is_kept f m) stands.floor in
    let room = same_front_room s v.pages m.span stands.pages in
    rw (kept, room) (elim (cases_Bool (is_kept s.floor m)) [
      | inr h ↦ rw h refl
      | inl h ↦ elim (cases_Bool (front_has_room s m.span)) [
        | inl r ↦ rw (h, r) refl
        | inr r ↦ rw (h, r) refl
      ]
    ])
