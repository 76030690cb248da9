-- Lines that tell the truth of a history fail none of the tests.
use Rattle.std.proofs.Common.{◌≡◌, inl, inr, ◌∙◌, sym, ap, refl, ℕ, zero, suc, max, ◌<◌, ◌≤◌, List, [], ◌∷◌, ◌++◌, length, take, Bool, true, false, not, ◌&&◌, ◌==◌, nat_lt, Option, Some, None, is_some, true≢false, length-append, arith}
use Rattle.std.specs.Prelude.{slice_get}
use Rattle.std.proofs.lemmas.Bool.Decides.{nat_tests}
use Rattle.std.proofs.Math.Seq.{take-append_seam}
use Rattle.tsc_time.proofs.TimeOrder.{is_same_time-Decides}
use Rattle.tsc_time.proofs.SharedOwner.{is_same_owner-Decides}
use Rattle.tsc_cache.specs.ConfigView.{ConfigView}
use Rattle.tsc_cache.specs.declared.history.Entry.{Entry}
use Rattle.tsc_cache.specs.History.{History, BeginsWith, state_of}
use Rattle.tsc_trace_format.specs.Calls.{Addition, kind_of, is_same_kind, addition_of, adds}
use Rattle.tsc_trace_format.specs.declared.trace.Call.{Call}
use Rattle.tsc_trace_format.specs.Traces.{Trace}
use Rattle.tsc_trace.specs.Log.{said_after, entry_after, with_addition, after_call}
use Rattle.tsc_trace.proofs.Additions.{begins_before}
use Rattle.tsc_trace.proofs.AnswersOfCalls.{kind_itself, kind_in}
use Rattle.tsc_trace.specs.declared.log.Line.{Line}
use Rattle.tsc_trace.specs.declared.log.CallAnswer.{CallAnswer}
use Rattle.tsc_trace.specs.declared.log.CallAnswer.TheVariants as said
use Rattle.tsc_check.specs.declared.verdict.Verdict.TheVariants.{Right}
use Rattle.tsc_trace.specs.CallAnswers.{front_of}
use Rattle.tsc_check.specs.Verdict.{PlacedCall, calls_of, is_of_kind, is_line_of, is_wrong_call, reach, is_add, is_add_at, adds_in, is_misplaced, is_misplaced_line, is_wrong_place, with_adds_at, first_adds, is_same_bit, is_same_answer, is_untrue_pair, is_wrong_answer, least, verdict_of}
use Rattle.tsc_check.specs.TrueLog.{IsRunOf}
use Rattle.tsc_check.proofs.Each.{Each, Ordered, each_weaker, ordered_both, before_it, each_at, none_passes, at_seam}
use Rattle.tsc_check.proofs.Places.{tested, one_if, count_at, HaveOtherPlaces, IsPlacedBelow, one_at_each}
use Rattle.tsc_check.proofs.Slots.{reach_of_add}
use Rattle.tsc_check.proofs.TrueRuns.{IsTrueOf, AllTrue, GoesBefore, front_said, adds_said, ordered_lists, true_lists, adds_of_true_lists}

-- ---- the first test

same_number : (a : ℕ) → (a == a) ≡ true
same_number a = grind (arith, nat_tests)

kind_said : (config : ConfigView) (before : History) (call : Call) →
    is_of_kind call (said_after config before call) ≡ true
kind_said config before call = ap (is_same_kind (kind_of call))
    (kind_in config (state_of config before) (length before) call) ∙ kind_itself (kind_of call)

line_of_call : (config : ConfigView) (h : History) (c : PlacedCall) (line : Line) →
    IsTrueOf config h c line → is_line_of c line ≡ true
line_of_call config h c line t =
    ap (is_line_of c) t.reported ∙ rw (
      same_number c.thread,
      same_number c.index,
      kind_said config t.before c.call,
    ) refl

right_calls : (config : ConfigView) (h : History) (cs : List PlacedCall) (ls : List Line) →
    AllTrue config h cs ls → (i : ℕ) → is_wrong_call cs ls i ≡ false
right_calls config h [] [] a i = refl
right_calls config h [] (l ∷ ls) a i = absurd a
right_calls config h (c ∷ cs) [] a i = absurd a
right_calls config h (c ∷ cs) (l ∷ ls) a zero = ap not (line_of_call config h c l a.0)
right_calls config h (c ∷ cs) (l ∷ ls) a (suc i) = right_calls config h cs ls a.1 i

-- ---- the second test

-- where a line is that of an Add, its entry stands at its place
abbrev IsSeated : History → Line → Type 0
IsSeated h line = (p : ℕ) → is_add_at p line.said ≡ true → (e : Entry) × (slice_get h p ≡ Some e) ×
    (e.seat ≡ line.thread)

-- and its front is at most the length
abbrev IsWithin : History → Line → Type 0
IsWithin h line = front_of line.said ≤ length h

is_number : (a b : ℕ) → (a == b) ≡ true → a ≡ b
is_number a b e = grind (arith, nat_tests)

both_parts : (a b : Bool) → (a && b) ≡ true → (a ≡ true) × (b ≡ true)
both_parts true b e = (refl, e)
both_parts false b e = absurd (true≢false (sym e))

-- where a call's answer is that of an Add, the call adds, and its place is the length of the
-- history
placed_said : (config : ConfigView) (before : History) (call : Call) (p : ℕ) →
    is_add_at p (said_after config before call) ≡ true → (adds call ≡ true) × (length before ≡ p)
placed_said config before call p at =
    let parts = both_parts (is_add (said_after config before call))
    (front_of (said_after config before call) == p) at in (
      sym (adds_said config before call) ∙ parts.0,
      sym (front_said config before call) ∙
          is_number (front_of (said_after config before call)) p parts.1,
    )

seated_addition : (h before : History) (thread : ℕ) (o : Option Addition) →
    BeginsWith h (with_addition thread before o) → (p : ℕ) → is_some o ≡ true → length before ≡ p →
    (e : Entry) × (slice_get h p ≡ Some e) × (e.seat ≡ thread)
seated_addition h before thread None part p adds at = absurd (true≢false (sym adds))
seated_addition h before thread (Some a) part p adds at =
    let e = entry_after thread before a in
    (e, rw (← at, part.1) (at_seam before part.0 e), refl)

seated : (config : ConfigView) (h : History) (c : PlacedCall) (line : Line) →
    IsTrueOf config h c line → IsSeated h line
seated config h c line t p at =
    let placed = placed_said config t.before c.call p
    (sym (ap (λ l. is_add_at p l.said) t.reported) ∙ at) in
    let s = seated_addition h t.before c.thread (addition_of c.call) t.part p placed.0 placed.1 in
    (s.0, s.1, s.2 ∙ sym (ap (λ l. l.thread) t.reported))

begins_length : (h before : History) → BeginsWith h before → length before ≤ length h
begins_length h before part = omega (arith, ap length part.1, length-append before part.0)

within_call : (h before : History) (thread : ℕ) (call : Call) →
    BeginsWith h (after_call thread before call) → length before ≤ length h
within_call h before thread call part =
    begins_length h before (begins_before h before thread (addition_of call) part)

within : (config : ConfigView) (h : History) (c : PlacedCall) (line : Line) →
    IsTrueOf config h c line → IsWithin h line
within config h c line t = omega (
  arith,
  ap (λ l. front_of l.said) t.reported,
  front_said config t.before c.call,
  within_call h t.before c.thread c.call t.part,
)

each_line : (config : ConfigView) (h : History) (P : Line → Type 0) →
    ((c : PlacedCall) (line : Line) → IsTrueOf config h c line → P line) →
    (cs : List PlacedCall) (ls : List Line) → AllTrue config h cs ls → Each P ls
each_line config h P f [] [] a = tt
each_line config h P f [] (l ∷ ls) a = absurd a
each_line config h P f (c ∷ cs) [] a = absurd a
each_line config h P f (c ∷ cs) (l ∷ ls) a = (f c l a.0, each_line config h P f cs ls a.1)

some_below : (h : History) (p : ℕ) (e : Entry) → slice_get h p ≡ Some e → p < length h
some_below [] p e s = absurd (no_some e s)
  where
    no_some : (x : Entry) → None ≡ Some x → ⊥
    no_some x e = cc
some_below (x ∷ h) zero e s = omega arith
some_below (x ∷ h) (suc p) e s = omega (arith, some_below h p e s)

reach_at : (p : ℕ) (s : CallAnswer) → is_add_at p s ≡ true → (reach s ≡ suc p) × (front_of s ≡ p)
reach_at p s at =
    let parts = both_parts (is_add s) (front_of s == p) at in
    let front = is_number (front_of s) p parts.1 in
    (reach_of_add s parts.0 ∙ ap suc front, front)

same_entry : (a b : Entry) (o : Option Entry) → o ≡ Some a → o ≡ Some b → a ≡ b
same_entry a b o e f = cc

-- of two lines one reaches at most the front of the other, if both are of one list; so they are not
-- Adds at one place
other_places : (h : History) (a b : Line) → IsSeated h a → IsSeated h b → GoesBefore a b →
    HaveOtherPlaces a b
other_places h a b sa sb goes p at = elim (tested (is_add_at p b.said)) [
  | inl also ↦
      let x = sa p at in
      let y = sb p also in
      let one : x.0 ≡ y.0 = same_entry x.0 y.0 (slice_get h p) x.1 y.1 in
      let threads : a.thread ≡ b.thread = sym x.2 ∙ ap (λ (e : Entry). e.seat) one ∙ y.2 in
      absurd (omega (arith, goes threads, (reach_at p a.said at).0, (reach_at p b.said also).1))
  | inr e ↦ e
]

-- what a line must keep towards an earlier one
abbrev IsFineAfter : Line → Line → Type 0
IsFineAfter a b = GoesBefore a b × HaveOtherPlaces a b

reaches_none : (thread n : ℕ) (line : Line) → (line.thread ≡ thread → reach line.said ≤ n) →
    ((line.thread == thread) && nat_lt n (reach line.said)) ≡ false
reaches_none thread n line most = by_test (line.thread == thread) refl
  where
    too_far : (a b : ℕ) → a ≤ b → nat_lt b a ≡ false
    too_far a b e = grind (arith, nat_tests)

    by_test : (b : Bool) → (line.thread == thread) ≡ b →
        ((line.thread == thread) && nat_lt n (reach line.said)) ≡ false
    by_test true e = rw e (too_far (reach line.said) n (most (is_number line.thread thread e)))
    by_test false e = rw e refl

within_test : (a b : ℕ) → a ≤ b → nat_lt b a ≡ false
within_test a b e = grind (arith, nat_tests)

placed : (n : ℕ) (earlier : List Line) (thread : ℕ) (s : CallAnswer)
    → ((p : ℕ) → is_add_at p s ≡ true → p < n) → front_of s ≤ n
    → Each (λ l. (l.thread ≡ thread → reach l.said ≤ front_of s) ×
    ((p : ℕ) → is_add_at p l.said ≡ true → is_add_at p s ≡ false)) earlier
    → is_misplaced n earlier thread s ≡ false
placed n earlier thread s below most fine =
    let reaching = none_passes (λ (l : Line). (l.thread == thread) &&
    nat_lt (front_of s) (reach l.said)) earlier
    (each_weaker _ (λ l. ((l.thread == thread) && nat_lt (front_of s) (reach l.said)) ≡ false)
    (λ l f. reaches_none thread (front_of s) l f.0) earlier fine) in
    elim (tested (is_add s)) [
      | inl e ↦
          let at : is_add_at (front_of s) s ≡ true = rw (e, same_number (front_of s)) refl in
          let alone = none_passes (λ (l : Line). is_add_at (front_of s) l.said) earlier
          (each_weaker _ (λ l. is_add_at (front_of s) l.said ≡ false) (λ l f. free at l f.1)
          earlier fine) in
          rw (
            e,
            within_test (suc (front_of s)) n (omega (arith, below (front_of s) at)),
            alone,
            reaching,
          ) refl
      | inr e ↦ rw (e, within_test (front_of s) n most, reaching) refl
    ]
  where
    free : is_add_at (front_of s) s ≡ true → (l : Line) →
        ((p : ℕ) → is_add_at p l.said ≡ true → is_add_at p s ≡ false) →
        is_add_at (front_of s) l.said ≡ false
    free at l other = elim (tested (is_add_at (front_of s) l.said)) [
      | inl e ↦ absurd (true≢false (sym at ∙ other (front_of s) e))
      | inr e ↦ e
    ]

right_places : (n : ℕ) (lines : List Line) → Each (IsPlacedBelow n) lines →
    Each (λ l. front_of l.said ≤ n) lines → Ordered IsFineAfter lines → (i : ℕ) (o : Option Line) →
    slice_get lines i ≡ o → is_misplaced_line n (take i lines) o ≡ false
right_places n lines below most fine i None at = refl
right_places n lines below most fine i (Some line) at =
    placed n (take i lines) line.thread line.said (each_at (IsPlacedBelow n) lines i line at below)
    (each_at (λ l. front_of l.said ≤ n) lines i line at most)
    (before_it IsFineAfter lines i line at fine)

-- ---- the third test

same_bits : (b : Bool) → is_same_bit b b ≡ true
same_bits true = refl
same_bits false = refl

same_answers : (s : CallAnswer) → is_same_answer s s ≡ true
same_answers (said.Add place added) =
    rw (same_bits added.kept, same_bits added.rotated, same_number added.evicted) refl
same_answers (said.Batch place added) =
    rw (same_bits added.kept, same_bits added.rotated, same_number added.evicted) refl
same_answers (said.Get front value) =
    rw (
      (is_same_time-Decides value.time value.time).1 refl,
      (is_same_owner-Decides value.owner value.owner).1 refl,
    ) refl
same_answers (said.Low front time) = (is_same_time-Decides time time).1 refl

-- the first part of a history of some length
begins_take : (h before : History) → BeginsWith h before → take (length before) h ≡ before
begins_take h before part = ap (take (length before)) part.1 ∙ take-append_seam before part.0

-- where no line is that of an Add at a place, no Add is put there
none_put : (p : ℕ) (cs : List PlacedCall) (ls : List Line) (g : History) → count_at p ls ≡ 0 →
    with_adds_at p cs ls g ≡ g
none_put p [] ls g none = refl
none_put p (c ∷ cs) [] g none = refl
none_put p (c ∷ cs) (l ∷ ls) g none = elim (tested (is_add_at p l.said)) [
  | inl e ↦ absurd (omega (arith, none, ap one_if e))
  | inr e ↦ rw e (none_put p cs ls g (omega (arith, none, ap one_if e)))
]

put_addition : (h before : History) (thread : ℕ) (o : Option Addition) →
    BeginsWith h (with_addition thread before o) → (p : ℕ) → is_some o ≡ true → length before ≡ p →
    with_addition thread (take p h) o ≡ take (suc p) h
put_addition h before thread None part p adds at = absurd (true≢false (sym adds))
put_addition h before thread (Some a) part p adds at =
    let e = entry_after thread before a in
    let front : take p h ≡ before = ap (λ n. take n h) (sym at) ∙
    begins_take h before (begins_before h before thread (Some a) part) in
    let more : length (before ++ e ∷ []) ≡ suc p =
    omega (arith, length-append before (e ∷ []), at) in
    ap (λ g. with_addition thread g (Some a)) front ∙ sym (begins_take h (before ++ e ∷ []) part) ∙
    ap (λ n. take n h) more

put_call : (config : ConfigView) (h before : History) (thread : ℕ) (call : Call) →
    BeginsWith h (after_call thread before call) → (p : ℕ) →
    is_add_at p (said_after config before call) ≡ true →
    after_call thread (take p h) call ≡ take (suc p) h
put_call config h before thread call part p at =
    let placed = placed_said config before call p at in
    put_addition h before thread (addition_of call) part p placed.0 placed.1

-- where one is, just this one is
one_put : (config : ConfigView) (h : History) (p : ℕ) (cs : List PlacedCall) (ls : List Line) →
    AllTrue config h cs ls → count_at p ls ≡ 1 → with_adds_at p cs ls (take p h) ≡ take (suc p) h
one_put config h p [] [] a one = absurd (omega (arith, one))
one_put config h p [] (l ∷ ls) a one = absurd a
one_put config h p (c ∷ cs) [] a one = absurd a
one_put config h p (c ∷ cs) (l ∷ ls) a one = elim (tested (is_add_at p l.said)) [
  | inl e ↦ rw (
    e,
    put_call config h a.0.before c.thread c.call a.0.part p
        (sym (ap (λ (x : Line). is_add_at p x.said) a.0.reported) ∙ e),
  )
      (none_put p cs ls (take (suc p) h) (omega (arith, one, ap one_if e)))
  | inr e ↦ rw e (one_put config h p cs ls a.1 (omega (arith, one, ap one_if e)))
]

-- the first Adds by their places are the first entries
first_entries : (config : ConfigView) (h : History) (cs : List PlacedCall) (ls : List Line) →
    AllTrue config h cs ls → ((p : ℕ) → p < length h → count_at p ls ≡ 1) → (p : ℕ) →
    p ≤ length h → first_adds cs ls p ≡ take p h
first_entries config h cs ls a ones zero low = refl
first_entries config h cs ls a ones (suc p) low =
    ap (with_adds_at p cs ls) (first_entries config h cs ls a ones p (omega arith)) ∙
    one_put config h p cs ls a (ones p (omega arith))

right_answer : (trace : Trace) (h : History) (all : List Line) (c : PlacedCall) (line : Line) →
    ((p : ℕ) → p ≤ length h → first_adds (calls_of trace) all p ≡ take p h) →
    IsTrueOf trace.config h c line
    → is_untrue_pair trace all (Some c) (Some line) ≡ false
right_answer trace h all c line first t =
    let front : front_of line.said ≡ length t.before = ap (λ l. front_of l.said) t.reported ∙
    front_said trace.config t.before c.call in
    let before : first_adds (calls_of trace) all (front_of line.said) ≡ t.before =
    ap (first_adds (calls_of trace) all) front ∙
    first (length t.before) (within_call h t.before c.thread c.call t.part) ∙
    begins_take h t.before (begins_before h t.before c.thread (addition_of c.call) t.part) in
    let says : line.said ≡ said_after trace.config t.before c.call = ap (λ l. l.said) t.reported in
    rw before (rw says (ap not (same_answers (said_after trace.config t.before c.call))))

right_answers : (trace : Trace) (h : History) (all : List Line) →
    ((p : ℕ) → p ≤ length h → first_adds (calls_of trace) all p ≡ take p h) →
    (cs : List PlacedCall) (ls : List Line) → AllTrue trace.config h cs ls
    → (i : ℕ) → is_untrue_pair trace all (slice_get cs i) (slice_get ls i) ≡ false
right_answers trace h all first [] [] a i = refl
right_answers trace h all first [] (l ∷ ls) a i = absurd a
right_answers trace h all first (c ∷ cs) [] a i = absurd a
right_answers trace h all first (c ∷ cs) (l ∷ ls) a zero = right_answer trace h all c l first a.0
right_answers trace h all first (c ∷ cs) (l ∷ ls) a (suc i) =
    right_answers trace h all first cs ls a.1 i

-- ---- the verdict

pub least_none : (test : ℕ → Bool) (n : ℕ) → ((i : ℕ) → test i ≡ false) → least test n ≡ None
least_none test zero none = refl
least_none test (suc n) none = rw (least_none test n none, none n) refl

-- the lines of a run are right
pub run_is_right : (trace : Trace) (lines : List Line) (h : History) → IsRunOf trace lines h →
    verdict_of trace lines ≡ Right
run_is_right trace lines h run =
    let n = length h in
    let cs = calls_of trace in
    let all = true_lists trace.config h 0 trace.threads lines run.lines_are_true in
    let size : adds_in lines ≡ n =
    adds_of_true_lists trace.config h 0 trace.threads lines run.lines_are_true ∙ sym run.size in
    let goes = ordered_lists trace.config h 0 trace.threads lines run.lines_are_true in
    let seats = each_line trace.config h (IsSeated h) (seated trace.config h) cs lines all in
    let below = each_weaker (IsSeated h) (IsPlacedBelow n)
    (λ l s p at. some_below h p (s p at).0 (s p at).1) lines seats in
    let most = each_line trace.config h (IsWithin h) (within trace.config h) cs lines all in
    let fine = ordered_both (IsSeated h) GoesBefore IsFineAfter
    (λ a b sa sb g. (g, other_places h a b sa sb g)) lines seats goes in
    let others = ordered_both (IsSeated h) GoesBefore HaveOtherPlaces
    (λ a b sa sb g. other_places h a b sa sb g) lines seats goes in
    let first = first_entries trace.config h cs lines all (one_at_each n lines below others size) in
    let calls = least_none (is_wrong_call cs lines) (max (length cs) (length lines))
    (right_calls trace.config h cs lines all) in
    let places = least_none (is_wrong_place lines) (length lines)
    (λ i. rw size (right_places n lines below most fine i (slice_get lines i) refl)) in
    let answers = least_none (is_wrong_answer trace lines) (length lines)
    (right_answers trace h lines first cs lines all) in
    rw (calls, places, answers) refl
