-- Laws of histories, one entry more at a time.
use Rattle.std.proofs.Common.{◌≡◌, ◌⊎◌, inl, inr, ◌∙◌, refl, sym, ap, subst, [], ◌∷◌, ◌++◌, true, false, append_assoc, append-nil, arith}
use Rattle.std.specs.Prelude.{Some}
use Rattle.std.specs.List.{Contains}
use Rattle.std.proofs.lemmas.Grind.{flat_map-append}
use Rattle.std.proofs.lemmas.List.Elements.{Contains-append_left, Contains-append_right, Contains-push}
use Rattle.tsc_time.specs.Time.{Time, is_before, time_minus}
use Rattle.tsc_time.specs.ValueView.{Owner, ValueView}
use Rattle.tsc_time.specs.Joint.{joint_above, IsAtMost}
use Rattle.tsc_time.proofs.TimeOrder.{is_before-itself, is_before-transitive, no_earlier-transitive}
use Rattle.tsc_time.proofs.Members.{IsIn, IsIn-from_Contains}
use Rattle.tsc_span.specs.Span.{SpanView}
use Rattle.tsc_page_model.specs.Page.{Mark}
use Rattle.tsc_cache.specs.ConfigView.{ConfigView}
use Rattle.tsc_cache.specs.State.{CacheState, opening, step_all, look}
use Rattle.tsc_cache.specs.History.{Entry, History, state_from, state_of, marks_of, marks_on, BeginsWith}
use Rattle.tsc_cache.specs.Laws.{KeptUp, Rising, FloorBehind, Real, IsClearOf, NoWriteBelowARead}
use Rattle.tsc_cache.proofs.FloorJoints.{above_each, more_above}
use Rattle.tsc_cache.proofs.MarkLists.{values_on-has, values_on-from}
use Rattle.tsc_cache.proofs.Floors.{past_limit}
use Rattle.tsc_cache.proofs.Steps.{step_all-floor, step_all-lifts}
use Rattle.tsc_cache.proofs.KeptMarks.{KeepsMarks, keeps_none, keeps_all_more, keeps_answers}

-- what holds at first and with each entry more holds of each history
pub by_last_entry : (P : History → Type 0) → P [] →
    ((h : History) (e : Entry) → P h → P (h ++ e ∷ [])) → (h : History) → P h
by_last_entry P first more h = onward [] h first
  where
    onward : (start rest : History) → P start → P (start ++ rest)
    onward start [] p = rw (append-nil start) p
    onward start (e ∷ rest) p = subst P (append_assoc start (e ∷ []) rest)
        (onward (start ++ e ∷ []) rest (more start e p))

-- the state after two histories is what the second makes of that after the first
pub state_from-append : (config : ConfigView) (s : CacheState) (h g : History) →
    state_from config s (h ++ g) ≡ state_from config (state_from config s h) g
state_from-append config s [] g = refl
state_from-append config s (e ∷ h) g =
    state_from-append config (step_all config s e.marks e.now).state h g

-- after one entry more it is one step further
pub state_of-push : (config : ConfigView) (h : History) (e : Entry) →
    state_of config (h ++ e ∷ []) ≡ (step_all config (state_of config h) e.marks e.now).state
state_of-push config h e = state_from-append config (opening config) h (e ∷ [])

-- the marks of two histories, one after the other
marks_of-append : (h g : History) → marks_of (h ++ g) ≡ marks_of h ++ marks_of g
marks_of-append h g = flat_map-append (λ (e : Entry). e.marks) h g

marks_of-push : (h : History) (e : Entry) → marks_of (h ++ e ∷ []) ≡ marks_of h ++ e.marks
marks_of-push h e = marks_of-append h (e ∷ []) ∙ ap (λ ms. marks_of h ++ ms) (append-nil e.marks)

-- the state after a history keeps the marks of its entries
pub state_keeps : (config : ConfigView) (h : History) →
    KeepsMarks (marks_of h) (state_of config h)
state_keeps config h = by_last_entry (λ g. KeepsMarks (marks_of g) (state_of config g))
    (keeps_none config)
    (λ g e k. rw (state_of-push config g e, marks_of-push g e)
    (keeps_all_more (marks_of g) config (state_of config g) e.marks e.now k))
    h

-- a lookup answers what the floor and all entries on the span come to
pub real_answers : Real
real_answers config h s = keeps_answers (marks_of h) (state_of config h) s
    (state_keeps config h)

-- a mark of an entry is one of those of the history
mark_in : (h : History) (e : Entry) (m : Mark) → Contains h e → Contains e.marks m →
    Contains (marks_of h) m
mark_in h e m c own = there h (IsIn-from_Contains h e c)
  where
    there : (g : History) → IsIn g e → Contains (marks_of g) m
    there [] i = absurd i
    there (f ∷ g) i = elim i [
      | inl k ↦ Contains-append_left f.marks (marks_of g) m
          (subst (λ (x : Entry). Contains x.marks m) (sym k) own)
      | inr j ↦ Contains-append_right f.marks (marks_of g) m (there g j)
    ]

-- a mark is at most what a lookup of a span that it overlaps answers
pub kept_up : KeptUp
kept_up config h e m s c own over =
    subst (IsAtMost m.value) (sym (real_answers config h s))
    (above_each (state_of config h).floor (marks_on s h) m.value
    (values_on-has s (marks_of h) m (mark_in h e m c own) over))

-- entries lower the floor of no state
pub floor_rises : (config : ConfigView) (s : CacheState) (h : History) →
    is_before (state_from config s h).floor s.floor ≡ false
floor_rises config s [] = is_before-itself s.floor
floor_rises config s (e ∷ h) =
    let t : CacheState = (step_all config s e.marks e.now).state in
    no_earlier-transitive s.floor t.floor (state_from config t h).floor
    (step_all-floor config s e.marks e.now) (floor_rises config t h)

rising_floors : (config : ConfigView) (start h : History) → BeginsWith h start →
    is_before (state_of config h).floor (state_of config start).floor ≡ false
rising_floors config start h b =
    rw (b.1, state_from-append config (opening config) start b.0)
    (floor_rises config (state_of config start) b.0)

-- what the entries of a beginning added, those of the whole did
more_entries : (start h : History) (s : SpanView) (v : ValueView) → BeginsWith h start →
    Contains (marks_on s start) v → Contains (marks_on s h) v
more_entries start h s v b c =
    let m = values_on-from s (marks_of start) v c in
    let there : Contains (marks_of h) m.0 =
    rw (b.1, marks_of-append start b.0)
    (Contains-append_left (marks_of start) (marks_of b.0) m.0 m.1) in
    rw (← m.3) (values_on-has s (marks_of h) m.0 there m.2)

rising_answers : (config : ConfigView) (start h : History) (s : SpanView) → BeginsWith h start →
    IsAtMost (look (state_of config start) s) (look (state_of config h) s)
rising_answers config start h s b =
    let low : Time = (state_of config start).floor in
    let high : Time = (state_of config h).floor in
    let rises : IsAtMost (joint_above low (marks_on s start)) (joint_above high (marks_on s h))
    = more_above low high (marks_on s start) (marks_on s h) (rising_floors config start h b)
    (λ v c. more_entries start h s v b c) in
    subst (λ (v : ValueView). IsAtMost v (look (state_of config h) s))
    (sym (real_answers config start s))
    (subst (IsAtMost (joint_above low (marks_on s start))) (sym (real_answers config h s)) rises)

-- neither an answer nor the floor sinks
pub rising : Rising
rising = record {
  answers = rising_answers;
  floors = rising_floors;
}

-- the floor after a history stands where it did at first, or lies before the limit of one of its
-- entries
abbrev IsBehind : ConfigView → History → Type 0
IsBehind config h = ((state_of config h).floor ≡ config.low_water)
    ⊎ ((e : Entry) × (limit : Time) × Contains h e ×
    (time_minus e.now config.retention ≡ Some limit) ×
    (is_before (state_of config h).floor limit ≡ true))

-- where an entry lifts it, then to before its own limit
behind_one_more : (config : ConfigView) (h : History) (e : Entry) → IsBehind config h →
    IsBehind config (h ++ e ∷ [])
behind_one_more config h e behind =
    rw (state_of-push config h e)
    (elim (step_all-lifts config (state_of config h) e.marks e.now) [
      | inl same ↦ rw same (elim behind [
        | inl b ↦ inl b
        | inr b ↦ inr (b.0, b.1, Contains-append_left h (e ∷ []) b.0 b.2, b.3, b.4)
      ])
      | inr past ↦ let limit = past_limit config.retention e.now
          (step_all config (state_of config h) e.marks e.now).state.floor past in
          inr (e, limit.0, Contains-push h e, limit.1, limit.2)
    ])

-- so it is no later than the retention allows
pub floor_behind : FloorBehind
floor_behind config h = by_last_entry (IsBehind config) (inl refl) (behind_one_more config) h

-- a write that is clear of an answer is clear of each read that is at most that
pub clear_below : (read answer : ValueView) (writer : Owner) (time : Time) → IsAtMost read answer →
    IsClearOf answer writer time → IsClearOf read writer time
clear_below read answer writer time below clear = grind (arith, is_before-transitive)

pub no_write_below_a_read : NoWriteBelowARead
no_write_below_a_read config h s writer time clear e m c own over =
    clear_below m.value (look (state_of config h) s) writer time
    (kept_up config h e m s c own over) clear
