-- A log whose verdict is right is that of a run.
use Rattle.std.proofs.Common.{cond, ◌≡◌, ◌⊎◌, inl, inr, ◌∙◌, sym, ap, subst, refl, ℕ, zero, suc, ◌+◌, max, ◌<◌, ◌≤◌, ◌-◌, List, [], ◌∷◌, ◌++◌, length, take, Bool, true, false, not, ◌&&◌, ◌||◌, ◌==◌, nat_lt, Option, Some, None, true≢false, append-nil, arith}
use Rattle.std.specs.Prelude.{slice_get}
use Rattle.std.proofs.lemmas.Bool.Decides.{nat_tests}
use Rattle.std.proofs.lemmas.Option.{slice_get_within}
use Rattle.tsc_time.specs.ValueView.{ValueView}
use Rattle.tsc_time.proofs.TimeOrder.{is_same_time-Decides}
use Rattle.tsc_time.proofs.SharedOwner.{is_same_owner-Decides}
use Rattle.tsc_cache.specs.ConfigView.{ConfigView}
use Rattle.tsc_cache.specs.declared.added.Added.{Added}
use Rattle.tsc_cache.specs.History.{History, BeginsWith}
use Rattle.tsc_cache.proofs.Beginnings.{begins_on}
use Rattle.tsc_trace_format.specs.Calls.{addition_of, adds}
use Rattle.tsc_trace_format.specs.declared.trace.Call.{Call}
use Rattle.tsc_trace_format.specs.Traces.{Trace}
use Rattle.tsc_trace.specs.Log.{said_after, after_call}
use Rattle.tsc_trace.proofs.Additions.{addition_begins, addition_length, no_addition}
use Rattle.tsc_trace.proofs.AnswersOfCalls.{reports_where_adds}
use Rattle.tsc_trace.specs.declared.log.Line.{Line}
use Rattle.tsc_trace.specs.declared.log.CallAnswer.{CallAnswer}
use Rattle.tsc_trace.specs.declared.log.CallAnswer.TheVariants as said
use Rattle.tsc_check.specs.declared.verdict.Verdict.{Verdict}
use Rattle.tsc_check.specs.declared.verdict.Verdict.TheVariants.{Right, WrongCall, WrongPlace, WrongAnswer}
use Rattle.tsc_trace.specs.CallAnswers.{front_of}
use Rattle.tsc_check.specs.Verdict.{PlacedCall, calls_of, calls_of_list, calls_of_lists, is_of_kind, is_line_of, is_wrong_pair, is_wrong_call, reach, is_add, is_add_at, adds_in, reaches_above, is_wrong_place, first_adds, is_same_bit, is_same_added, is_same_value, is_same_answer, is_untrue_pair, is_wrong_answer, least, named_or, verdict_of}
use Rattle.tsc_check.specs.TrueLog.{AreTrueLines, AreTrueLists, IsRunOf}
use Rattle.tsc_check.specs.CheckParts.{adds_there, AreInOrder}
use Rattle.tsc_check.proofs.Each.{Each, Ordered}
use Rattle.tsc_check.proofs.Places.{tested, one_if, count_at, HaveOtherPlaces, IsPlacedBelow, one_at_each}
use Rattle.tsc_check.proofs.TrueRuns.{IsTrueOf, AllTrue, GoesBefore, front_said, adds_of_true_lists}
use Rattle.tsc_check.proofs.FirstOther.{none_from_least, first_is_least, as_many}
use Rattle.tsc_check.proofs.Slots.{at_line, fine_line}
use Rattle.tsc_check.proofs.Sweeping.{has_call, no_two, only_add, next_adds, kind_of_add, one_put}

is_number : (a b : ℕ) → (a == b) ≡ true → a ≡ b
is_number a b e = grind (arith, nat_tests)

same_number : (a b : ℕ) → a ≡ b → (a == b) ≡ true
same_number a b e = grind (arith, nat_tests)

both_parts : (a b : Bool) → (a && b) ≡ true → (a ≡ true) × (b ≡ true)
both_parts true b e = (refl, e)
both_parts false b e = absurd (true≢false (sym e))

-- ---- what Right tells

no_call : (o : Option ℕ) (v : Verdict) → named_or WrongCall o v ≡ Right → (o ≡ None) × (v ≡ Right)
no_call None v e = (refl, e)
no_call (Some i) v e = absurd (apart e)
  where
    apart : WrongCall (suc i) ≡ Right → ⊥
    apart f = cc

no_place : (o : Option ℕ) (v : Verdict) → named_or WrongPlace o v ≡ Right → (o ≡ None) × (v ≡ Right)
no_place None v e = (refl, e)
no_place (Some i) v e = absurd (apart e)
  where
    apart : WrongPlace (suc i) ≡ Right → ⊥
    apart f = cc

no_answer : (o : Option ℕ) (v : Verdict) → named_or WrongAnswer o v ≡ Right →
    (o ≡ None) × (v ≡ Right)
no_answer None v e = (refl, e)
no_answer (Some i) v e = absurd (apart e)
  where
    apart : WrongAnswer (suc i) ≡ Right → ⊥
    apart f = cc

record IsPassed (trace : Trace) (lines : List Line) : Type 0 where
  order : AreInOrder trace lines
  calls : least (is_wrong_call (calls_of trace) lines)
      (max (length (calls_of trace)) (length lines)) ≡ None
  answers : least (is_wrong_answer trace lines) (length lines) ≡ None

passed : (trace : Trace) (lines : List Line) → verdict_of trace lines ≡ Right → IsPassed trace lines
passed trace lines right =
    let a = no_call _ _ right in
    let b = no_place _ _ a.1 in
    let d = no_answer _ _ b.1 in
    record {
      order = record { calls = first_is_least (calls_of trace) lines ∙ a.0; places = b.0 };
      calls = a.0;
      answers = d.0;
    }

-- ---- from numbers to lists

each_from : {X : Type 0} (P : X → Type 0) (xs : List X) →
    ((i : ℕ) (x : X) → slice_get xs i ≡ Some x → P x) → Each P xs
each_from P [] f = tt
each_from P (x ∷ xs) f = (f 0 x refl, each_from P xs (λ i y at. f (suc i) y at))

ordered_from : {X : Type 0} (R : X → X → Type 0) (xs : List X) →
    ((i j : ℕ) (x y : X) → i < j → slice_get xs i ≡ Some x → slice_get xs j ≡ Some y → R x y) →
    Ordered R xs
ordered_from R [] f = tt
ordered_from R (x ∷ xs) f = (
  each_from (R x) xs (λ j y at. f 0 (suc j) x y (omega arith) refl at),
  ordered_from R xs (λ i j y z low at also. f (suc i) (suc j) y z (omega (arith, low)) at also),
)

add_there : (lines : List Line) (i p : ℕ) (line : Line) → slice_get lines i ≡ Some line →
    is_add_at p line.said ≡ true → adds_there lines p i ≡ true
add_there lines i p line at add = at_line lines i line (λ l. is_add_at p l.said) at ∙ add

line_is_fine : (trace : Trace) (lines : List Line) → AreInOrder trace lines →
    (i : ℕ) (line : Line) → slice_get lines i ≡ Some line → is_wrong_place lines i ≡ false
line_is_fine trace lines order i line at =
    none_from_least (is_wrong_place lines) (length lines) order.places i
    (slice_get_within lines i line at)

all_below : (trace : Trace) (lines : List Line) → AreInOrder trace lines →
    Each (IsPlacedBelow (adds_in lines)) lines
all_below trace lines order = each_from (IsPlacedBelow (adds_in lines)) lines (λ i line at p add.
    omega (
      arith,
      (fine_line lines i line at (line_is_fine trace lines order i line at)).below
          (kind_of_add line.said p add).0,
      (kind_of_add line.said p add).1,
    ))

all_below_at : (trace : Trace) (lines : List Line) → AreInOrder trace lines →
    (i : ℕ) (line : Line) → slice_get lines i ≡ Some line → (p : ℕ) → is_add_at p line.said ≡ true →
    p < adds_in lines
all_below_at trace lines order i line at p add =
    omega (
      arith,
      (fine_line lines i line at (line_is_fine trace lines order i line at)).below
          (kind_of_add line.said p add).0,
      (kind_of_add line.said p add).1,
    )

all_apart : (trace : Trace) (lines : List Line) → AreInOrder trace lines →
    Ordered HaveOtherPlaces lines
all_apart trace lines order = ordered_from HaveOtherPlaces lines
    (λ i j a b low at also p add. other i j a b low at also p add (tested (is_add_at p b.said)))
  where
    other : (i j : ℕ) (a b : Line) → i < j → slice_get lines i ≡ Some a →
        slice_get lines j ≡ Some b → (p : ℕ) → is_add_at p a.said ≡ true →
        (is_add_at p b.said ≡ true) ⊎ (is_add_at p b.said ≡ false) → is_add_at p b.said ≡ false
    other i j a b low at also p add (inl e) =
        absurd (no_two trace lines order p i j (add_there lines i p a at add)
        (add_there lines j p b also e) low)
    other i j a b low at also p add (inr e) = e

found_at : (lines : List Line) (p : ℕ) → count_at p lines ≡ 1 → (i : ℕ) × (line : Line) ×
    (slice_get lines i ≡ Some line) × (is_add_at p line.said ≡ true)
found_at [] p one = absurd (omega (arith, one))
found_at (l ∷ ls) p one = elim (tested (is_add_at p l.said)) [
  | inl e ↦ (0, l, refl, e)
  | inr e ↦ let f = found_at ls p (omega (arith, one, ap one_if e)) in (suc f.0, f.1, f.2, f.3)
]

-- ---- the Adds in the order of their places

call_at_line : (trace : Trace) (lines : List Line) → IsPassed trace lines → (i : ℕ) (line : Line) →
    slice_get lines i ≡ Some line → (c : PlacedCall) → slice_get (calls_of trace) i ≡ Some c →
    is_line_of c line ≡ true
call_at_line trace lines pass i line at c of =
    not_false (is_line_of c line) (sym
    (ap (λ o. is_wrong_pair o (slice_get lines i)) of ∙ ap (is_wrong_pair (Some c)) at) ∙ right)
  where
    right : is_wrong_call (calls_of trace) lines i ≡ false
    right = none_from_least (is_wrong_call (calls_of trace) lines)
        (max (length (calls_of trace)) (length lines)) pass.calls i
        (omega (arith, slice_get_within lines i line at))

    not_false : (b : Bool) → not b ≡ false → b ≡ true
    not_false true e = refl
    not_false false e = absurd (true≢false e)

-- one entry more, where the call is of the kind of an Add's answer
one_longer : (thread : ℕ) (g : History) (call : Call) (s : CallAnswer) → is_of_kind call s ≡ true →
    is_add s ≡ true → length (after_call thread g call) ≡ suc (length g)
one_longer thread g call s kind add =
    let one : ◌≡◌ {A = ℕ} (cond (adds call) 1 0) 1 =
    ap {B = ℕ} (λ b. cond b 1 0) (sym (reports_where_adds call s kind) ∙ add) in
    omega (arith, addition_length thread g (addition_of call), one)

-- what the next Add makes of those before it
record IsNextAdd (trace : Trace) (lines : List Line) (p : ℕ) : Type 0 where
  longer : length (first_adds (calls_of trace) lines (suc p)) ≡
      suc (length (first_adds (calls_of trace) lines p))
  begins : BeginsWith (first_adds (calls_of trace) lines (suc p))
      (first_adds (calls_of trace) lines p)

next_add : (trace : Trace) (lines : List Line) → IsPassed trace lines → (p : ℕ) →
    p < adds_in lines → IsNextAdd trace lines p
next_add trace lines pass p low =
    let one = one_at_each (adds_in lines) lines (all_below trace lines pass.order)
    (all_apart trace lines pass.order) refl p low in
    let f = found_at lines p one in
    let c = has_call trace lines pass.order.calls f.0 f.1 f.2 in
    let next = next_adds trace lines pass.order p f.0 f.1 f.2 (add_there lines f.0 p f.1 f.2 f.3)
    c.call.call c.there in
    let g = first_adds (calls_of trace) lines p in
    let kind = (both_parts _ _ (call_at_line trace lines pass f.0 f.1 f.2 c.call c.at)).1 in
    record {
      longer = ap length (sym next.1) ∙
          one_longer next.0 g c.call.call f.1.said kind (kind_of_add f.1.said p f.3).0;
      begins = subst (λ h. BeginsWith h g) next.1
          (addition_begins next.0 g (addition_of c.call.call));
    }

adds_length : (trace : Trace) (lines : List Line) → IsPassed trace lines → (p : ℕ) →
    p ≤ adds_in lines → length (first_adds (calls_of trace) lines p) ≡ p
adds_length trace lines pass zero low = refl
adds_length trace lines pass (suc p) low =
    omega (
      arith,
      (next_add trace lines pass p (omega (arith, low))).longer,
      adds_length trace lines pass p (omega (arith, low)),
    )

adds_begin : (trace : Trace) (lines : List Line) → IsPassed trace lines → (p d : ℕ) →
    p + d ≤ adds_in lines → BeginsWith (first_adds (calls_of trace) lines (p + d))
    (first_adds (calls_of trace) lines p)
adds_begin trace lines pass p zero low = (
  [],
  ap (first_adds (calls_of trace) lines) (omega arith) ∙
      sym (append-nil (first_adds (calls_of trace) lines p)),
)
adds_begin trace lines pass p (suc d) low =
    let next = next_add trace lines pass (p + d) (omega (arith, low)) in
    let all = begins_on (first_adds (calls_of trace) lines (suc (p + d)))
    (first_adds (calls_of trace) lines (p + d)) (first_adds (calls_of trace) lines p)
    next.begins (adds_begin trace lines pass p d (omega (arith, low))) in
    let same : suc (p + d) ≡ p + suc d = omega arith in
    subst (λ n. BeginsWith (first_adds (calls_of trace) lines n)
    (first_adds (calls_of trace) lines p)) same all

adds_begin_all : (trace : Trace) (lines : List Line) → IsPassed trace lines → (p : ℕ) →
    p ≤ adds_in lines → BeginsWith (first_adds (calls_of trace) lines (adds_in lines))
    (first_adds (calls_of trace) lines p)
adds_begin_all trace lines pass p low =
    let same : p + (adds_in lines - p) ≡ adds_in lines = omega (arith, low) in
    subst (λ n. BeginsWith (first_adds (calls_of trace) lines n)
    (first_adds (calls_of trace) lines p)) same
    (adds_begin trace lines pass p (adds_in lines - p) (omega (arith, low)))

-- ---- each line tells the truth

same_bits : (a b : Bool) → is_same_bit a b ≡ true → a ≡ b
same_bits true true e = refl
same_bits true false e = absurd (true≢false (sym e))
same_bits false true e = absurd (true≢false (sym e))
same_bits false false e = refl

same_added : (a b : Added) → is_same_added a b ≡ true → a ≡ b
same_added a b e =
    let outer = both_parts _ _ e in
    let inner = both_parts _ _ outer.0 in
    let kept = same_bits a.kept b.kept inner.0 in
    let rotated = same_bits a.rotated b.rotated inner.1 in
    let evicted = is_number a.evicted b.evicted outer.1 in
    λ i. record { kept = kept i; rotated = rotated i; evicted = evicted i }

same_value : (v w : ValueView) → is_same_value v w ≡ true → v ≡ w
same_value v w e =
    let parts = both_parts _ _ e in
    let time = (is_same_time-Decides v.time w.time).0 parts.0 in
    let owner = (is_same_owner-Decides v.owner w.owner).0 parts.1 in
    λ i. record { time = time i; owner = owner i }

same_said : (a b : CallAnswer) → is_same_answer a b ≡ true → front_of a ≡ front_of b → a ≡ b
same_said (said.Add p x) (said.Add q y) e f = let s = same_added x y e in λ i. said.Add (f i) (s i)
same_said (said.Batch p x) (said.Batch q y) e f = let s =
    same_added x y e in λ i. said.Batch (f i) (s i)
same_said (said.Get g v) (said.Get k w) e f = let s = same_value v w e in λ i. said.Get (f i) (s i)
same_said (said.Low g t) (said.Low k u) e f = let s =
    (is_same_time-Decides t u).0 e in λ i. said.Low (f i) (s i)
same_said a b e f = absurd (true≢false (sym e))

not_false : (b : Bool) → not b ≡ false → b ≡ true
not_false true e = refl
not_false false e = absurd (true≢false e)

-- the history goes on with the call's own entry
goes_on : (trace : Trace) (lines : List Line) → IsPassed trace lines → (i : ℕ) (line : Line) →
    slice_get lines i ≡ Some line → (c : PlacedCall) → slice_get (calls_of trace) i ≡ Some c
    → BeginsWith (first_adds (calls_of trace) lines (adds_in lines))
    (after_call c.thread (first_adds (calls_of trace) lines (front_of line.said)) c.call)
goes_on trace lines pass i line at c of =
    let place = front_of line.said in
    let g = first_adds (calls_of trace) lines place in
    let all = first_adds (calls_of trace) lines (adds_in lines) in
    elim (tested (is_add line.said)) [
      | inl e ↦
          let add : is_add_at place line.said ≡ true = rw (e, same_number place place refl) refl in
          let there = add_there lines i place line at add in
          let below : place < adds_in lines =
          all_below_at trace lines pass.order i line at place add in
          let one : first_adds (calls_of trace) lines (suc place) ≡ after_call c.thread g c.call =
          one_put place (calls_of trace) lines g i c of there
          (λ j t. only_add trace lines pass.order place i there j t) in
          subst (BeginsWith all) one
          (adds_begin_all trace lines pass (suc place) (omega (arith, below)))
      | inr e ↦
          let none : adds c.call ≡ false = sym (reports_where_adds c.call line.said kind) ∙ e in
          subst (BeginsWith all) (sym (no_addition c.thread g (addition_of c.call) none))
          (adds_begin_all trace lines pass place within)
    ]
  where
    within : front_of line.said ≤ adds_in lines
    within = (fine_line lines i line at (line_is_fine trace lines pass.order i line at)).within

    kind : is_of_kind c.call line.said ≡ true
    kind = (both_parts ((line.thread == c.thread) && (line.index == c.index))
        (is_of_kind c.call line.said) (call_at_line trace lines pass i line at c of)).1

line_is_true : (trace : Trace) (lines : List Line) → IsPassed trace lines → (i : ℕ) (line : Line) →
    slice_get lines i ≡ Some line → (c : PlacedCall) → slice_get (calls_of trace) i ≡ Some c
    → IsTrueOf trace.config (first_adds (calls_of trace) lines (adds_in lines)) c line
line_is_true trace lines pass i line at c of =
    let before = first_adds (calls_of trace) lines (front_of line.said) in
    let own = both_parts ((line.thread == c.thread) && (line.index == c.index))
    (is_of_kind c.call line.said) (call_at_line trace lines pass i line at c of) in
    let place = both_parts (line.thread == c.thread) (line.index == c.index) own.0 in
    let thread = is_number line.thread c.thread place.0 in
    let index = is_number line.index c.index place.1 in
    let within = (fine_line lines i line at
    (line_is_fine trace lines pass.order i line at)).within in
    let right : is_wrong_answer trace lines i ≡ false =
    none_from_least (is_wrong_answer trace lines) (length lines) pass.answers i
    (slice_get_within lines i line at) in
    let same : is_same_answer line.said (said_after trace.config before c.call) ≡ true =
    not_false (is_same_answer line.said (said_after trace.config before c.call))
    (sym (ap (λ o. is_untrue_pair trace lines o (slice_get lines i)) of ∙
    ap (is_untrue_pair trace lines (Some c)) at) ∙ right) in
    let answer : line.said ≡ said_after trace.config before c.call =
    same_said line.said (said_after trace.config before c.call) same
    (sym (front_said trace.config before c.call ∙
    adds_length trace lines pass (front_of line.said) within)) in
    record {
      before = before;
      reported =
          λ k. record { thread = thread k; index = index k; said = answer k };
      part =
          goes_on trace lines pass i line at c of;
    }

all_true_from : (config : ConfigView) (h : History) (cs : List PlacedCall) (ls : List Line) →
    length cs ≡ length ls → ((i : ℕ) (c : PlacedCall) (l : Line) → slice_get cs i ≡ Some c →
    slice_get ls i ≡ Some l → IsTrueOf config h c l) → AllTrue config h cs ls
all_true_from config h [] [] e f = tt
all_true_from config h [] (l ∷ ls) e f = absurd (omega (arith, e))
all_true_from config h (c ∷ cs) [] e f = absurd (omega (arith, e))
all_true_from config h (c ∷ cs) (l ∷ ls) e f = (
  f 0 c l refl refl,
  all_true_from config h cs ls (omega (arith, e))
      (λ i d m a b. f (suc i) d m a b),
)

-- ---- list by list

record IsSplit (config : ConfigView) (h : History) (cs ds : List PlacedCall) (ls : List Line) : Type
    0 where
  own : List Line
  rest : List Line
  joined : ls ≡ own ++ rest
  first : AllTrue config h cs own
  second : AllTrue config h ds rest

split_true : (config : ConfigView) (h : History) (cs ds : List PlacedCall) (ls : List Line) →
    AllTrue config h (cs ++ ds) ls → IsSplit config h cs ds ls
split_true config h [] ds ls a =
    record { own = []; rest = ls; joined = refl; first = tt; second = a }
split_true config h (c ∷ cs) ds [] a = absurd a
split_true config h (c ∷ cs) ds (l ∷ ls) a =
    let s = split_true config h cs ds ls a.1 in
    record {
      own = l ∷ s.own;
      rest = s.rest;
      joined = ap (λ k. l ∷ k) s.joined;
      first = (a.0, s.first);
      second = s.second;
    }

ordered_front : {X : Type 0} (R : X → X → Type 0) (xs ys : List X) → Ordered R (xs ++ ys) →
    Ordered R xs
ordered_front R [] ys a = tt
ordered_front R (x ∷ xs) ys a = (each_front (R x) xs ys a.0, ordered_front R xs ys a.1)
  where
    each_front : {X : Type 0} (P : X → Type 0) (zs bs : List X) → Each P (zs ++ bs) → Each P zs
    each_front P [] bs b = tt
    each_front P (z ∷ zs) bs b = (b.0, each_front P zs bs b.1)

ordered_back : {X : Type 0} (R : X → X → Type 0) (xs ys : List X) → Ordered R (xs ++ ys) →
    Ordered R ys
ordered_back R [] ys a = a
ordered_back R (x ∷ xs) ys a = ordered_back R xs ys a.1

list_is_true : (config : ConfigView) (h : History) (thread index reached : ℕ) (calls : List Call)
    (ls : List Line) → AllTrue config h (calls_of_list thread index calls) ls →
    Ordered GoesBefore ls → ((c : Line) (cs : List Line) → ls ≡ c ∷ cs → reached ≤ front_of c.said)
    → AreTrueLines config h thread index reached calls ls
list_is_true config h thread index reached [] [] a o r = tt
list_is_true config h thread index reached [] (l ∷ ls) a o r = absurd a
list_is_true config h thread index reached (call ∷ calls) [] a o r = absurd a
list_is_true config h thread index reached (call ∷ calls) (l ∷ ls) a o r =
    let t = a.0 in
    let front : front_of l.said ≡ length t.before = ap (λ (k : Line). front_of k.said) t.reported ∙
    front_said config t.before call in (
      record {
        before = t.before;
        reported = t.reported;
        part = t.part;
        later = omega (arith, r l ls refl, front);
      },
      list_is_true config h thread (suc index) (reach l.said) calls ls a.1 o.1
          (λ m ms e. next calls ls a.1 o.0 m ms e),
    )
  where
    next : (more : List Call) (ks : List Line) →
        AllTrue config h (calls_of_list thread (suc index) more) ks → Each (GoesBefore l) ks →
        (m : Line) (ms : List Line) → ks ≡ m ∷ ms → reach l.said ≤ front_of m.said
    next more [] b g m ms e = absurd (empty e)
      where
        empty : [] ≡ m ∷ ms → ⊥
        empty f = cc
    next [] (k ∷ ks) b g m ms e = absurd b
    next (d ∷ more) (k ∷ ks) b g m ms e =
        let one : k ≡ m = head e in
        subst (λ (x : Line). reach l.said ≤ front_of x.said) one
        (g.0 (ap (λ (x : Line). x.thread) a.0.reported ∙
        sym (ap (λ (x : Line). x.thread) b.0.reported)))
      where
        head : k ∷ ks ≡ m ∷ ms → k ≡ m
        head f = cc

lists_are_true : (config : ConfigView) (h : History) (thread : ℕ) (lists : List (List Call))
    (ls : List Line) → AllTrue config h (calls_of_lists thread lists) ls → Ordered GoesBefore ls →
    AreTrueLists config h thread lists ls
lists_are_true config h thread [] [] a o = refl
lists_are_true config h thread [] (l ∷ ls) a o = absurd a
lists_are_true config h thread (calls ∷ lists) ls a o =
    let s = split_true config h (calls_of_list thread 0 calls) (calls_of_lists (suc thread) lists)
    ls a in
    let both : Ordered GoesBefore (s.own ++ s.rest) = subst (Ordered GoesBefore) s.joined o in (
      s.own,
      s.rest,
      s.joined,
      list_is_true config h thread 0 0 calls s.own s.first
          (ordered_front GoesBefore s.own s.rest both) (λ c cs e. omega arith),
      lists_are_true config h (suc thread) lists s.rest s.second
          (ordered_back GoesBefore s.own s.rest both),
    )

-- ---- earlier lines of a list reach no further

not_above : (a b : ℕ) → nat_lt a b ≡ false → b ≤ a
not_above a b e = grind (arith, nat_tests)

reached_by : (thread n : ℕ) (ls : List Line) (i j : ℕ) (a : Line) → slice_get ls i ≡ Some a →
    i < j → a.thread ≡ thread → reaches_above thread n (take j ls) ≡ false → reach a.said ≤ n
reached_by thread n [] i j a at low same e = absurd (none_some at)
  where
    none_some : None ≡ Some a → ⊥
    none_some f = cc
reached_by thread n (l ∷ ls) i zero a at low same e = absurd (omega (arith, low))
reached_by thread n (l ∷ ls) zero (suc j) a at low same e =
    here (some_same at) (or_parts ((l.thread == thread) && nat_lt n (reach l.said))
    (reaches_above thread n (take j ls)) e).0
  where
    some_same : Some l ≡ Some a → l ≡ a
    some_same f = cc

    or_parts : (x y : Bool) → (x || y) ≡ false → (x ≡ false) × (y ≡ false)
    or_parts true y f = absurd (true≢false f)
    or_parts false y f = (refl, f)

    here : l ≡ a → ((l.thread == thread) && nat_lt n (reach l.said)) ≡ false → reach a.said ≤ n
    here one f =
        let own : (l.thread == thread) ≡ true =
        same_number l.thread thread (ap (λ (x : Line). x.thread) one ∙ same) in
        let test : nat_lt n (reach l.said) ≡ false =
        sym (ap (λ b. b && nat_lt n (reach l.said)) own) ∙ f in
        subst (λ (x : Line). reach x.said ≤ n) one (not_above n (reach l.said) test)
reached_by thread n (l ∷ ls) (suc i) (suc j) a at low same e =
    reached_by thread n ls i j a at (omega (arith, low)) same
    (or_parts ((l.thread == thread) && nat_lt n (reach l.said))
    (reaches_above thread n (take j ls)) e).1
  where
    or_parts : (x y : Bool) → (x || y) ≡ false → (x ≡ false) × (y ≡ false)
    or_parts true y f = absurd (true≢false f)
    or_parts false y f = (refl, f)

all_later : (trace : Trace) (lines : List Line) → AreInOrder trace lines → Ordered GoesBefore lines
all_later trace lines order = ordered_from GoesBefore lines (λ i j a b low at also same.
    reached_by b.thread (front_of b.said) lines i j a at low same
    (fine_line lines j b also (line_is_fine trace lines order j b also)).known)

pub right_is_run : (trace : Trace) (lines : List Line) → verdict_of trace lines ≡ Right →
    (h : History) × IsRunOf trace lines h
right_is_run trace lines right =
    let pass = passed trace lines right in
    let h = first_adds (calls_of trace) lines (adds_in lines) in
    let all = all_true_from trace.config h (calls_of trace) lines
    (as_many (calls_of trace) lines pass.order.calls)
    (λ i c l of at. line_is_true trace lines pass i l at c of) in
    let true_lists = lists_are_true trace.config h 0 trace.threads lines all
    (all_later trace lines pass.order) in (
      h,
      record {
        size = adds_length trace lines pass (adds_in lines) (omega arith) ∙
            adds_of_true_lists trace.config h 0 trace.threads lines true_lists;
        lines_are_true =
            true_lists;
      },
    )
