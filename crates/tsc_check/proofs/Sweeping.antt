-- One pass in the order of the Adds tests each line after as many of them as it tells of.
use Rattle.std.proofs.Common.{◌≡◌, ◌⊎◌, inl, inr, ◌∙◌, sym, ap, refl, ℕ, zero, suc, ◌+◌, ◌<◌, ◌≤◌, List, [], ◌∷◌, ◌++◌, length, take, get_or, Bool, true, false, not, ◌&&◌, ◌||◌, ◌==◌, nat_lt, nat_le, Option, Some, None, true≢false, is_some, arith}
use Rattle.std.specs.Prelude.{slice_get, if◌then◌else◌}
use Rattle.std.proofs.lemmas.Bool.Decides.{nat_tests}
use Rattle.std.proofs.lemmas.Option.{slice_get_within}
use Rattle.tsc_cache.specs.History.{History}
use Rattle.tsc_trace_format.specs.declared.trace.Call.{Call}
use Rattle.tsc_trace_format.specs.Traces.{Trace}
use Rattle.tsc_trace.specs.Log.{said_after, after_call}
use Rattle.tsc_trace.specs.declared.log.Line.{Line}
use Rattle.tsc_trace.specs.declared.log.CallAnswer.{CallAnswer}
use Rattle.tsc_trace.specs.CallAnswers.{front_of}
use Rattle.tsc_check.specs.Verdict.{PlacedCall, calls_of_list, calls_of_lists, calls_of, is_of_kind, is_line_of, is_wrong_pair, is_wrong_call, is_add, is_add_at, adds_in, has_add_at, is_misplaced, is_misplaced_line, is_wrong_place, is_wrong_answer, is_untrue_pair, is_same_answer, with_adds_at, first_adds, least}
use Rattle.tsc_check.specs.CheckParts.{ArePlaced, first_other, last_below, holds_at, is_lookup_at, adds_there, looks_up_there, is_before_front, call_in, AreInOrder, Lowers, LowersAt}
use Rattle.tsc_check.proofs.Places.{tested}
use Rattle.tsc_check.proofs.FirstOther.{NoneBelow, none_from_least, least_none_below, least_at, right_when_none}
use Rattle.tsc_check.proofs.Slots.{at_line, fine_line}
use Rattle.tsc_check.proofs.Misplaced.{has_last}

same_number : (a b : ℕ) → a ≡ b → (a == b) ≡ true
same_number a b e = grind (arith, nat_tests)

is_number : (a b : ℕ) → (a == b) ≡ true → a ≡ b
is_number a b e = grind (arith, nat_tests)

both_parts : (a b : Bool) → (a && b) ≡ true → (a ≡ true) × (b ≡ true)
both_parts true b e = (refl, e)
both_parts false b e = absurd (true≢false (sym e))

both : (a b : Bool) → a ≡ true → b ≡ true → (a && b) ≡ true
both a b e f = rw (e, f) refl

either : (a b : Bool) → (a || b) ≡ true → (a ≡ true) ⊎ (b ≡ true)
either true b e = inl refl
either false b e = inr e

-- ---- the call of a line

split_at : {X : Type 0} (xs ys : List X) (i : ℕ) (x : X) → slice_get (xs ++ ys) i ≡ Some x →
    (slice_get xs i ≡ Some x) ⊎ ((j : ℕ) × (slice_get ys j ≡ Some x))
split_at [] ys i x at = inr (i, at)
split_at (z ∷ xs) ys zero x at = inl at
split_at (z ∷ xs) ys (suc i) x at = split_at xs ys i x at

call_of_one : (o : PlacedCall) (c : PlacedCall) → Some o ≡ Some c → o ≡ c
call_of_one o c e = cc

no_call : (c : PlacedCall) → None ≡ Some c → ⊥
no_call c e = cc

in_list : (t k : ℕ) (calls : List Call) (i : ℕ) (c : PlacedCall) →
    slice_get (calls_of_list t k calls) i ≡ Some c → (c.thread ≡ t) × (c.index ≡ k + i) ×
    (slice_get calls i ≡ Some c.call)
in_list t k [] i c at = absurd (no_call c at)
in_list t k (call ∷ calls) zero c at = let e =
    call_of_one (record { thread = t; index = k; call = call }) c at
    in (
      sym (ap (λ (d : PlacedCall). d.thread) e),
      omega (arith, ap (λ (d : PlacedCall). d.index) e),
      ap (λ (d : PlacedCall). Some d.call) e,
    )
in_list t k (call ∷ calls) (suc i) c at = let f =
    in_list t (suc k) calls i c at in (f.0, omega (arith, f.1), f.2)

in_lists : (t : ℕ) (lists : List (List Call)) (i : ℕ) (c : PlacedCall) →
    slice_get (calls_of_lists t lists) i ≡ Some c → (d : ℕ) × (c.thread ≡ t + d) ×
    (call_in (slice_get lists d) c.index ≡ Some c.call)
in_lists t [] i c at = absurd (no_call c at)
in_lists t (calls ∷ lists) i c at =
    elim (split_at (calls_of_list t 0 calls) (calls_of_lists (suc t) lists) i c at) [
      | inl own ↦ let f = in_list t 0 calls i c own
          in (0, omega (arith, f.0), ap (slice_get calls) (omega (arith, f.1)) ∙ f.2)
      | inr rest ↦ let f = in_lists (suc t) lists rest.0 c rest.1 in (suc f.0, omega (arith, f.1), f.2)
    ]

-- a line's call, which stands in the list and at the index that the line names
pub record HasCall (trace : Trace) (lines : List Line) (i : ℕ) (line : Line) : Type 0 where
  pub call : PlacedCall
  pub at : slice_get (calls_of trace) i ≡ Some call
  pub there : call_in (slice_get trace.threads line.thread) line.index ≡ Some call.call
  pub kind : is_of_kind call.call line.said ≡ true

line_parts : (c : PlacedCall) (line : Line) → is_line_of c line ≡ true → (line.thread ≡ c.thread) ×
    (line.index ≡ c.index) × (is_of_kind c.call line.said ≡ true)
line_parts c line e =
    let outer = both_parts _ _ e in
    let inner = both_parts _ _ outer.0 in
    (is_number line.thread c.thread inner.0, is_number line.index c.index inner.1, outer.1)

pub has_call : (trace : Trace) (lines : List Line) → first_other 0 (calls_of trace) lines ≡ None →
    (i : ℕ) (line : Line) → slice_get lines i ≡ Some line → HasCall trace lines i line
has_call trace lines order i line at = by_call (slice_get (calls_of trace) i) refl
  where
    right : is_wrong_call (calls_of trace) lines i ≡ false
    right = right_when_none (calls_of trace) lines order i

    by_call : (o : Option PlacedCall) → slice_get (calls_of trace) i ≡ o →
        HasCall trace lines i line
    by_call None e = absurd (true≢false
        (sym (ap (λ o. is_wrong_pair o (slice_get lines i)) e ∙ ap (is_wrong_pair None) at) ∙
        right))
    by_call (Some c) e =
        let wrong : not (is_line_of c line) ≡ false =
        sym (ap (λ o. is_wrong_pair o (slice_get lines i)) e ∙ ap (is_wrong_pair (Some c)) at) ∙
        right in
        let parts = line_parts c line (not_false (is_line_of c line) wrong) in
        let f = in_lists 0 trace.threads i c e in
        record {
          call = c;
          at = e;
          there = ap (λ n. call_in (slice_get trace.threads n) line.index)
              (omega (arith, parts.0, f.1)) ∙
              ap (call_in (slice_get trace.threads f.0)) parts.1 ∙ f.2;
          kind = parts.2;
        }
      where
        not_false : (b : Bool) → not b ≡ false → b ≡ true
        not_false true e = refl
        not_false false e = absurd (true≢false e)

wrong_at : (trace : Trace) (lines : List Line) (i : ℕ) (line : Line) (c : PlacedCall) →
    slice_get lines i ≡ Some line → slice_get (calls_of trace) i ≡ Some c
    → is_wrong_answer trace lines i ≡
    not (is_same_answer line.said
    (said_after trace.config (first_adds (calls_of trace) lines (front_of line.said)) c.call))
wrong_at trace lines i line c at of =
    ap (λ o. is_untrue_pair trace lines o (slice_get lines i)) of ∙
    ap (is_untrue_pair trace lines (Some c)) at

lookup_parts : (s : CallAnswer) (f : ℕ) → is_lookup_at f s ≡ true →
    (is_add s ≡ false) × (front_of s ≡ f)
lookup_parts s f e = let parts = both_parts (not (is_add s)) (front_of s == f) e
    in (not_true (is_add s) parts.0, is_number (front_of s) f parts.1)
  where
    not_true : (b : Bool) → not b ≡ true → b ≡ false
    not_true true h = absurd (true≢false (sym h))
    not_true false h = refl

pub kind_of_add : (s : CallAnswer) (p : ℕ) → is_add_at p s ≡ true → (is_add s ≡ true) × (front_of s ≡ p)
kind_of_add s p e = let parts = both_parts (is_add s) (front_of s == p) e
    in (parts.0, is_number (front_of s) p parts.1)

same_some : (a b : Call) → Some a ≡ Some b → a ≡ b
same_some a b e = cc

-- a lookup's line tells another answer just where the test says so
pub lookup_reported : (trace : Trace) (lines : List Line) → AreInOrder trace lines →
    (i : ℕ) (line : Line) → slice_get lines i ≡ Some line → (call : Call) →
    call_in (slice_get trace.threads line.thread) line.index ≡ Some call
    → (other : Bool) (stands : History → Type 0) →
    ((h : History) → stands h → is_add line.said ≡ false →
    other ≡ not (is_same_answer line.said (said_after trace.config h call)))
    → (front : ℕ) → looks_up_there lines front i ≡ true →
    stands (first_adds (calls_of trace) lines front) → other ≡ is_wrong_answer trace lines i
lookup_reported trace lines order i line at call there other stands reports front looks s =
    let c = has_call trace lines order.calls i line at in
    let same : call ≡ c.call.call = same_some call c.call.call (sym there ∙ c.there) in
    let parts = lookup_parts line.said front
    (sym (at_line lines i line (λ l. is_lookup_at front l.said) at) ∙ looks) in
    reports (first_adds (calls_of trace) lines front) s parts.0
    ∙ ap (λ d. not (is_same_answer line.said
    (said_after trace.config (first_adds (calls_of trace) lines front) d))) same
    ∙ ap (λ f. not (is_same_answer line.said
    (said_after trace.config (first_adds (calls_of trace) lines f) c.call.call))) (sym parts.1)
    ∙ sym (wrong_at trace lines i line c.call at c.at)

pub add_reported : (trace : Trace) (lines : List Line) → AreInOrder trace lines →
    (i : ℕ) (line : Line) → slice_get lines i ≡ Some line → (call : Call) →
    call_in (slice_get trace.threads line.thread) line.index ≡ Some call
    → (other : Bool) (stands : History → Type 0) →
    ((h : History) → stands h → is_add line.said ≡ true → is_of_kind call line.said ≡ true →
    other ≡ not (is_same_answer line.said (said_after trace.config h call)))
    → (place : ℕ) → adds_there lines place i ≡ true →
    stands (first_adds (calls_of trace) lines place) → other ≡ is_wrong_answer trace lines i
add_reported trace lines order i line at call there other stands reports place adds s =
    let c = has_call trace lines order.calls i line at in
    let same : call ≡ c.call.call = same_some call c.call.call (sym there ∙ c.there) in
    let parts = kind_of_add line.said place
    (sym (at_line lines i line (λ l. is_add_at place l.said) at) ∙ adds) in
    reports (first_adds (calls_of trace) lines place) s parts.0
    (ap (λ d. is_of_kind d line.said) same ∙ c.kind)
    ∙ ap (λ d. not (is_same_answer line.said
    (said_after trace.config (first_adds (calls_of trace) lines place) d))) same
    ∙ ap (λ f. not (is_same_answer line.said
    (said_after trace.config (first_adds (calls_of trace) lines f) c.call.call))) (sym parts.1)
    ∙ sym (wrong_at trace lines i line c.call at c.at)

-- the call is there
pub call_there : (trace : Trace) (lines : List Line) → AreInOrder trace lines →
    (i : ℕ) (line : Line) → slice_get lines i ≡ Some line →
    call_in (slice_get trace.threads line.thread) line.index ≡ None → ⊥
call_there trace lines order i line at none =
    some_none (has_call trace lines order.calls i line at).call.call
    (sym (has_call trace lines order.calls i line at).there ∙ none)
  where
    some_none : (x : Call) → Some x ≡ None → ⊥
    some_none x e = cc

pub lowers_at : (test : ℕ → Bool) (i old new : ℕ) (other : Bool) → other ≡ test i → new ≤ old →
    (new ≡ old) ⊎ ((new ≡ i) × (other ≡ true)) → (other ≡ true → new ≤ i) → LowersAt test i old new
lowers_at test i old new other is less one low =
    record {
      less = less;
      found = elim one [ inl e ↦ inl e | inr p ↦ inr (p.0, sym is ∙ p.1) ];
      lowest = λ e. low (is ∙ e);
    }

-- ---- one Add at a place

last_some : (test : ℕ → Bool) (n i : ℕ) → i < n → test i ≡ true → is_some (last_below test n) ≡ true
last_some test zero i low e = absurd (omega (arith, low))
last_some test (suc n) i low e = elim (tested (test n)) [
  | inl f ↦ rw f refl
  | inr f ↦ rw f (last_some test n i (not_last f) e)
]
  where
    strictly : (a b : ℕ) → a < suc b → (a ≡ b → ⊥) → a < b
    strictly a b low not = omega (arith, low, not)

    not_last : test n ≡ false → i < n
    not_last f = strictly i n low (λ s. true≢false (sym e ∙ ap test s ∙ f))

add_is_taken : (lines : List Line) (j p : ℕ) (line : Line) → slice_get lines j ≡ Some line →
    is_add_at p line.said ≡ true → has_add_at p (take j lines) ≡ true →
    is_wrong_place lines j ≡ true
add_is_taken lines j p line at add taken =
    ap (is_misplaced_line (adds_in lines) (take j lines)) at ∙ by_said line.said add
  where
    or_true : (b : Bool) → (b || true) ≡ true
    or_true true = refl
    or_true false = refl

    by_said : (s : CallAnswer) → is_add_at p s ≡ true →
        is_misplaced (adds_in lines) (take j lines) line.thread s ≡ true
    by_said s e =
        let parts = kind_of_add s p e in
        let there : has_add_at (front_of s) (take j lines) ≡ true =
        ap (λ q. has_add_at q (take j lines)) parts.1 ∙ taken in
        rw (parts.0, there, or_true (nat_lt (adds_in lines) (suc (front_of s)))) refl

holds_some : (lines : List Line) (j : ℕ) (test : Line → Bool) →
    holds_at test (slice_get lines j) ≡ true → (line : Line) × (slice_get lines j ≡ Some line) ×
    (test line ≡ true)
holds_some lines j test e = by_line (slice_get lines j) refl e
  where
    by_line : (o : Option Line) → slice_get lines j ≡ o → holds_at test o ≡ true →
        (line : Line) × (slice_get lines j ≡ Some line) × (test line ≡ true)
    by_line None at f = absurd (true≢false (sym f))
    by_line (Some line) at f = (line, at, f)

-- no two lines are those of Adds at one place
pub no_two : (trace : Trace) (lines : List Line) → AreInOrder trace lines → (p i j : ℕ) →
    adds_there lines p i ≡ true → adds_there lines p j ≡ true → i < j → ⊥
no_two trace lines order p i j a b low =
    let l = holds_some lines j (λ line. is_add_at p line.said) b in
    let within : j < length lines = slice_get_within lines j l.0 l.1 in
    let taken : has_add_at p (take j lines) ≡ true = has_last lines p j (omega (arith, within)) ∙
    last_some (adds_there lines p) j i low a in
    true≢false (sym (add_is_taken lines j p l.0 l.1 l.2 taken) ∙
    none_from_least (is_wrong_place lines) (length lines) order.places j within)

-- where none is, no Add is put there
none_put : (p : ℕ) (cs : List PlacedCall) (ls : List Line) (g : History) →
    ((j : ℕ) → adds_there ls p j ≡ false) → with_adds_at p cs ls g ≡ g
none_put p [] ls g none = refl
none_put p (c ∷ cs) [] g none = refl
none_put p (c ∷ cs) (l ∷ ls) g none = rw (none 0) (none_put p cs ls g (λ j. none (suc j)))

pub one_put : (p : ℕ) (cs : List PlacedCall) (ls : List Line) (g : History) (i : ℕ) (c : PlacedCall)
    → slice_get cs i ≡ Some c → adds_there ls p i ≡ true →
    ((j : ℕ) → adds_there ls p j ≡ true → j ≡ i) →
    with_adds_at p cs ls g ≡ after_call c.thread g c.call
one_put p [] ls g i c of at only = absurd (no_call c of)
one_put p (d ∷ cs) [] g i c of at only = absurd (true≢false (sym at))
one_put p (d ∷ cs) (l ∷ ls) g zero c of at only =
    let e = call_of_one d c of in
    rw at (none_put p cs ls (after_call d.thread g d.call) (λ j. others j) ∙
    ap (λ (x : PlacedCall). after_call x.thread g x.call) e)
  where
    others : (j : ℕ) → adds_there ls p j ≡ false
    others j = elim (tested (adds_there ls p j)) [
      | inl f ↦ absurd (omega (arith, only (suc j) f))
      | inr f ↦ f
    ]
one_put p (d ∷ cs) (l ∷ ls) g (suc i) c of at only =
    rw (first (tested (is_add_at p l.said)))
    (one_put p cs ls g i c of at (λ j f. omega (arith, only (suc j) f)))
  where
    first : (is_add_at p l.said ≡ true) ⊎ (is_add_at p l.said ≡ false) → is_add_at p l.said ≡ false
    first (inl f) = absurd (omega (arith, only 0 f))
    first (inr f) = f

-- one more Add
pub next_adds : (trace : Trace) (lines : List Line) → AreInOrder trace lines →
    (place i : ℕ) (line : Line) → slice_get lines i ≡ Some line → adds_there lines place i ≡ true →
    (call : Call) → call_in (slice_get trace.threads line.thread) line.index ≡ Some call
    → (thread : ℕ) × (after_call thread (first_adds (calls_of trace) lines place) call ≡
    first_adds (calls_of trace) lines (suc place))
next_adds trace lines order place i line at adds call there =
    let c = has_call trace lines order.calls i line at in
    let same : call ≡ c.call.call = same_some call c.call.call (sym there ∙ c.there) in
    let g = first_adds (calls_of trace) lines place in (
      c.call.thread,
      ap (after_call c.call.thread g) same ∙
          sym (one_put place (calls_of trace) lines g i c.call c.at adds (λ j f. one j f)),
    )
  where
    one : (j : ℕ) → adds_there lines place j ≡ true → j ≡ i
    one j f = by_order (nat_lt j i) (nat_lt i j) refl refl
      where
        is_below : (a b : ℕ) → nat_lt a b ≡ true → a < b
        is_below a b e = grind (arith, nat_tests)

        not_below : (a b : ℕ) → nat_lt a b ≡ false → b ≤ a
        not_below a b e = grind (arith, nat_tests)

        by_order : (a b : Bool) → nat_lt j i ≡ a → nat_lt i j ≡ b → j ≡ i
        by_order true b e g = absurd (no_two trace lines order place j i f adds (is_below j i e))
        by_order false true e g = absurd
            (no_two trace lines order place i j adds f (is_below i j g))
        by_order false false e g = omega (arith, not_below j i e, not_below i j g)

pub no_more_adds : (trace : Trace) (lines : List Line) (place : ℕ) →
    last_below (adds_there lines place) (length lines) ≡ None →
    first_adds (calls_of trace) lines place ≡ first_adds (calls_of trace) lines (suc place)
no_more_adds trace lines place none =
    sym (none_put place (calls_of trace) lines (first_adds (calls_of trace) lines place)
    (λ j. not_there j))
  where
    some_none : last_below (adds_there lines place) (length lines) ≡ None →
        is_some (last_below (adds_there lines place) (length lines)) ≡ false
    some_none e = ap is_some e

    not_there : (j : ℕ) → adds_there lines place j ≡ false
    not_there j = elim (tested (adds_there lines place j)) [
      | inl f ↦
          let l = holds_some lines j (λ line. is_add_at place line.said) f in
          absurd (true≢false (sym (last_some (adds_there lines place) (length lines) j
          (slice_get_within lines j l.0 l.1) f) ∙ some_none none))
      | inr f ↦ f
    ]

-- ---- the lookups of one front, from the last to the first

pub record IsLast (test : ℕ → Bool) (bound i : ℕ) : Type 0 where
  pub below : i < bound
  pub passes : test i ≡ true
  pub none_after : (j : ℕ) → i < j → j < bound → test j ≡ false

pub last_is : (test : ℕ → Bool) (n i : ℕ) → last_below test n ≡ Some i → IsLast test n i
last_is test zero i e = absurd (none_some e)
  where
    none_some : None ≡ Some i → ⊥
    none_some f = cc
last_is test (suc n) i e = elim (tested (test n)) [
  | inl f ↦ let same = same_last (sym (ap (λ b. if b then Some n else last_below test n) f) ∙ e)
      in record {
        below = omega (arith, same);
        passes = ap test (sym same) ∙ f;
        none_after = λ j above low. absurd (omega (arith, same, above, low));
      }
  | inr f ↦
      let before = last_is test n i
      (sym (ap (λ b. if b then Some n else last_below test n) f) ∙ e) in
      record {
        below = omega (arith, before.below);
        passes = before.passes;
        none_after = λ j above low. after f before j above (tested_below j n) low;
      }
]
  where
    same_last : Some n ≡ Some i → n ≡ i
    same_last f = cc

    tested_below : (j m : ℕ) → (nat_lt j m ≡ true) ⊎ (nat_lt j m ≡ false)
    tested_below j m = tested (nat_lt j m)

    is_below : (a b : ℕ) → nat_lt a b ≡ true → a < b
    is_below a b g = grind (arith, nat_tests)

    not_below : (a b : ℕ) → nat_lt a b ≡ false → b ≤ a
    not_below a b g = grind (arith, nat_tests)

    after : test n ≡ false → IsLast test n i → (j : ℕ) → i < j →
        (nat_lt j n ≡ true) ⊎ (nat_lt j n ≡ false) → j < suc n → test j ≡ false
    after f before j above (inl g) low = before.none_after j above (is_below j n g)
    after f before j above (inr g) low = let same : j ≡ n =
        omega (arith, not_below j n g, low) in ap test same ∙ f

none_below : (test : ℕ → Bool) (n : ℕ) → last_below test n ≡ None → NoneBelow test n
none_below test n e i low = elim (tested (test i)) [
  | inl f ↦ absurd (true≢false (sym (last_some test n i low f) ∙ ap is_some e))
  | inr f ↦ f
]

is_at_least : (a b : ℕ) → nat_le a b ≡ true → a ≤ b
is_at_least a b e = grind (arith, nat_tests)

at_least : (a b : ℕ) → a ≤ b → nat_le a b ≡ true
at_least a b e = grind (arith, nat_tests)

order_of : (a b : ℕ) → (a < b) ⊎ (b ≤ a)
order_of a b = elim (tested (nat_lt a b)) [ inl e ↦ inl (lower a b e) | inr e ↦ inr (higher a b e) ]
  where
    lower : (a b : ℕ) → nat_lt a b ≡ true → a < b
    lower a b e = grind (arith, nat_tests)

    higher : (a b : ℕ) → nat_lt a b ≡ false → b ≤ a
    higher a b e = grind (arith, nat_tests)

-- nothing is seen before the first
pub lowers_none : (test seen : ℕ → Bool) (n old : ℕ) → ((j : ℕ) → seen j ≡ true → j < n) →
    Lowers test (λ j. seen j && nat_le n j) old old
lowers_none test seen n old within =
    record {
      less = omega arith;
      found = inl refl;
      lowest = λ j s t. absurd (omega (
        arith,
        within j (both_parts (seen j) (nat_le n j) s).0,
        is_at_least n j (both_parts (seen j) (nat_le n j) s).1,
      ));
    }

pub within_lines : (lines : List Line) (f j : ℕ) → looks_up_there lines f j ≡ true →
    j < length lines
within_lines lines f j e = let l =
    holds_some lines j (λ line. is_lookup_at f line.said) e in slice_get_within lines j l.0 l.1

-- one more is seen
pub lowers_more : (test seen : ℕ → Bool) (above i old mid new : ℕ) → IsLast seen above i →
    Lowers test (λ j. seen j && nat_le above j) old mid → LowersAt test i mid new →
    Lowers test (λ j. seen j && nat_le i j) old new
lowers_more test seen above i old mid new last l at = record {
  less = omega (arith, l.less, at.less);
  found = elim at.found [
    | inl e ↦ elim l.found [ inl f ↦ inl (e ∙ f) | inr f ↦ inr (ap test e ∙ f) ]
    | inr p ↦ inr (ap test p.0 ∙ p.1)
  ];
  lowest = λ j s t. each j (both_parts _ _ s) t;
}
  where
    each : (j : ℕ) → (seen j ≡ true) × (nat_le i j ≡ true) → test j ≡ true → new ≤ j
    each j p t = elim (order_of j above) [
      | inr high ↦ omega (arith, at.less, l.lowest j (both _ _ p.0 (at_least above j high)) t)
      | inl low ↦ elim (order_of i j) [
        | inl more ↦ absurd (true≢false (sym p.0 ∙ last.none_after j more low))
        | inr most ↦ let same : i ≡ j =
            omega (arith, most, is_at_least i j p.1) in omega
            (arith, same, at.lowest (ap test same ∙ t))
      ]
    ]

-- all are seen
pub lowers_all : (test seen : ℕ → Bool) (above old new : ℕ) → last_below seen above ≡ None →
    Lowers test (λ j. seen j && nat_le above j) old new → Lowers test seen old new
lowers_all test seen above old new none l = record {
  less = l.less;
  found = l.found;
  lowest = λ j s t. elim (order_of j above) [
    | inr high ↦ l.lowest j (both _ _ s (at_least above j high)) t
    | inl low ↦ absurd (true≢false (sym s ∙ none_below seen above none j low))
  ];
}

-- ---- front by front

pub lowers_pass : (test looks adds : ℕ → Bool) (i old mid new : ℕ) → Lowers test looks old mid →
    LowersAt test i mid new → ((j : ℕ) → adds j ≡ true → j ≡ i) →
    Lowers test (λ j. looks j || adds j) old new
lowers_pass test looks adds i old mid new l at only = record {
  less = omega (arith, l.less, at.less);
  found = elim at.found [
    | inl e ↦ elim l.found [ inl f ↦ inl (e ∙ f) | inr f ↦ inr (ap test e ∙ f) ]
    | inr p ↦ inr (ap test p.0 ∙ p.1)
  ];
  lowest = λ j s t. elim (either (looks j) (adds j) s) [
    | inl a ↦ omega (arith, at.less, l.lowest j a t)
    | inr b ↦ let same : j ≡ i = only j b in omega (arith, same, at.lowest (ap test (sym same) ∙ t))
  ];
}

pub lowers_no_add : (test looks adds : ℕ → Bool) (old new : ℕ) → Lowers test looks old new →
    ((j : ℕ) → adds j ≡ false) → Lowers test (λ j. looks j || adds j) old new
lowers_no_add test looks adds old new l none = record {
  less = l.less;
  found = l.found;
  lowest = λ j s t. elim (either _ _ s)
      [ inl a ↦ l.lowest j a t | inr b ↦ absurd (true≢false (sym b ∙ none j)) ];
}

below_next : (lines : List Line) (f j : ℕ) → is_before_front lines (suc f) j ≡ true →
    (is_before_front lines f j ≡ true) ⊎ ((looks_up_there lines f j || adds_there lines f j) ≡ true)
below_next lines f j e =
    let l = holds_some lines j (λ line. nat_lt (front_of line.said) (suc f)) e in
    rw (
      at_line lines j l.0 (λ line. nat_lt (front_of line.said) f) l.1,
      at_line lines j l.0 (λ line. is_lookup_at f line.said) l.1,
      at_line lines j l.0 (λ line. is_add_at f line.said) l.1,
    ) (by_said l.0.said l.2)
  where
    here : (a : ℕ) → nat_lt a (suc f) ≡ true → (nat_lt a f ≡ true) ⊎ ((a == f) ≡ true)
    here a t = elim (tested (nat_lt a f)) [ inl g ↦ inl g | inr g ↦ inr (last a t g) ]
      where
        last : (a : ℕ) → nat_lt a (suc f) ≡ true → nat_lt a f ≡ false → (a == f) ≡ true
        last a t g = grind (arith, nat_tests)

    -- it is one of the two, whichever it is
    one_of_both : (b m : Bool) → m ≡ true → ((not b && m) || (b && m)) ≡ true
    one_of_both true m e = e
    one_of_both false m e = rw e refl

    by_said : (s : CallAnswer) → nat_lt (front_of s) (suc f) ≡ true →
        (nat_lt (front_of s) f ≡ true) ⊎ ((is_lookup_at f s || is_add_at f s) ≡ true)
    by_said s t = elim (here (front_of s) t)
        [ inl g ↦ inl g | inr g ↦ inr (one_of_both (is_add s) (front_of s == f) g) ]

pub lowers_next : (test : ℕ → Bool) (lines : List Line) (f old mid new : ℕ) →
    Lowers test (is_before_front lines f) old mid →
    Lowers test (λ j. looks_up_there lines f j || adds_there lines f j) mid new →
    Lowers test (is_before_front lines (suc f)) old new
lowers_next test lines f old mid new l m = record {
  less = omega (arith, l.less, m.less);
  found = elim m.found [
    | inl e ↦ elim l.found [ inl g ↦ inl (e ∙ g) | inr g ↦ inr (ap test e ∙ g) ]
    | inr p ↦ inr p
  ];
  lowest = λ j s t. elim (below_next lines f j s) [
    | inl a ↦ omega (arith, m.less, l.lowest j a t)
    | inr b ↦ m.lowest j b t
  ];
}

pub lowers_first : (test : ℕ → Bool) (lines : List Line) (n : ℕ) →
    Lowers test (is_before_front lines 0) n n
lowers_first test lines n = record {
  less = omega arith;
  found = inl refl;
  lowest = λ j s t. absurd (none j s);
}
  where
    not_below_0 : (a : ℕ) → nat_lt a 0 ≡ true → ⊥
    not_below_0 a e = let low : a < 0 = is_below a 0 e in omega (arith, low)
      where
        is_below : (a b : ℕ) → nat_lt a b ≡ true → a < b
        is_below a b e = grind (arith, nat_tests)

    none : (j : ℕ) → is_before_front lines 0 j ≡ true → ⊥
    none j s = let l = holds_some lines j (λ line. nat_lt (front_of line.said) 0) s in not_below_0
        (front_of l.0.said) l.2

-- every line has a front of at most the number of Adds
all_seen : (trace : Trace) (lines : List Line) → AreInOrder trace lines → (f : ℕ) →
    suc (adds_in lines) ≤ f → (j : ℕ) → j < length lines → is_before_front lines f j ≡ true
all_seen trace lines order f high j low = by_line (slice_get lines j) refl
  where
    lower : (a b : ℕ) → a < b → nat_lt a b ≡ true
    lower a b e = grind (arith, nat_tests)

    past : (ls : List Line) (i : ℕ) → i < length ls → slice_get ls i ≡ None → ⊥
    past [] i l e = omega (arith, l)
    past (x ∷ xs) zero l e = none_some e
      where
        none_some : Some x ≡ None → ⊥
        none_some g = cc
    past (x ∷ xs) (suc i) l e = past xs i (omega (arith, l)) e

    by_line : (o : Option Line) → slice_get lines j ≡ o → is_before_front lines f j ≡ true
    by_line None at = absurd (past lines j low at)
    by_line (Some line) at =
        let fine = fine_line lines j line at
        (none_from_least (is_wrong_place lines) (length lines) order.places j low) in
        at_line lines j line (λ l. nat_lt (front_of l.said) f) at ∙
        lower (front_of line.said) f (omega (arith, fine.within, high))

pub found_least : (trace : Trace) (lines : List Line) (test : ℕ → Bool) → AreInOrder trace lines →
    (f new : ℕ) → suc (adds_in lines) ≤ f →
    Lowers test (is_before_front lines f) (length lines) new → new < length lines →
    Some new ≡ least test (length lines)
found_least trace lines test order f new high l low =
    let passes : test new ≡ true =
    elim l.found [ inl e ↦ absurd (omega (arith, e, low)) | inr t ↦ t ] in
    sym (least_at test (length lines) new (low, passes, λ j lower. below j lower))
  where
    below : (j : ℕ) → j < new → test j ≡ false
    below j lower = elim (tested (test j)) [
      | inl t ↦ absurd (omega (
        arith,
        lower,
        l.lowest j (all_seen trace lines order f high j (omega (arith, lower, low))) t,
      ))
      | inr t ↦ t
    ]

pub found_none : (trace : Trace) (lines : List Line) (test : ℕ → Bool) → AreInOrder trace lines →
    (f new : ℕ) → suc (adds_in lines) ≤ f →
    Lowers test (is_before_front lines f) (length lines) new → length lines ≤ new →
    None ≡ least test (length lines)
found_none trace lines test order f new high l past =
    sym (least_none_below test (length lines) (λ j low. below j low))
  where
    below : (j : ℕ) → j < length lines → test j ≡ false
    below j low = elim (tested (test j)) [
      | inl t ↦ absurd (omega (
        arith,
        past,
        low,
        l.lowest j (all_seen trace lines order f high j low) t,
      ))
      | inr t ↦ t
    ]

-- ---- from line to line of one front

pub next_is : (adds lookups earlier : List (Option ℕ)) (reached : List ℕ) (lines : List Line) →
    ArePlaced adds lookups earlier reached lines (length lines) → (front i : ℕ) →
    looks_up_there lines front i ≡ true → (d : Option ℕ) →
    get_or earlier i d ≡ last_below (looks_up_there lines front) i
next_is adds lookups earlier reached lines a front i looks d =
    let l = holds_some lines i (λ line. is_lookup_at front line.said) looks in
    a.earlier_at i l.0 d (slice_get_within lines i l.0 l.1) l.1 ∙
    ap (λ f. last_below (looks_up_there lines f) i) (lookup_parts l.0.said front l.2).1

pub add_within : (lines : List Line) (place i : ℕ) → adds_there lines place i ≡ true →
    i < length lines
add_within lines place i adds = let l =
    holds_some lines i (λ line. is_add_at place line.said) adds in slice_get_within lines i l.0 l.1

-- the one Add at a place
pub only_add : (trace : Trace) (lines : List Line) → AreInOrder trace lines → (place i : ℕ) →
    adds_there lines place i ≡ true → (j : ℕ) → adds_there lines place j ≡ true → j ≡ i
only_add trace lines order place i adds j f = by_order (nat_lt j i) (nat_lt i j) refl refl
  where
    is_below : (a b : ℕ) → nat_lt a b ≡ true → a < b
    is_below a b e = grind (arith, nat_tests)

    not_below : (a b : ℕ) → nat_lt a b ≡ false → b ≤ a
    not_below a b e = grind (arith, nat_tests)

    by_order : (a b : Bool) → nat_lt j i ≡ a → nat_lt i j ≡ b → j ≡ i
    by_order true b e g = absurd (no_two trace lines order place j i f adds (is_below j i e))
    by_order false true e g = absurd (no_two trace lines order place i j adds f (is_below i j g))
    by_order false false e g = omega (arith, not_below j i e, not_below i j g)

pub no_add_there : (lines : List Line) (place : ℕ) →
    last_below (adds_there lines place) (length lines) ≡ None → (j : ℕ) →
    adds_there lines place j ≡ false
no_add_there lines place none j = elim (tested (adds_there lines place j)) [
  | inl f ↦ absurd (true≢false (sym
      (last_some (adds_there lines place) (length lines) j (add_within lines place j f) f) ∙
      ap is_some none))
  | inr f ↦ f
]

-- a number, counted from 1, or 0 for none
abbrev pub number_from_1 : Option ℕ → ℕ
number_from_1 None = 0
number_from_1 (Some i) = suc i
