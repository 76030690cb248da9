-- One more line in the order.
use Rattle.std.proofs.Common.{◌≡◌, ◌⊎◌, inl, inr, ◌∙◌, sym, ap, refl, ℕ, zero, suc, ◌<◌, ◌≤◌, List, [], ◌∷◌, ◌++◌, length, take, set, get_or, Bool, true, false, not, ◌||◌, ◌&&◌, ◌==◌, nat_lt, Option, Some, None, true≢false, length-append, length-set, get_or-set_other, get_or-set_same, add-one, arith}
use Rattle.std.specs.Prelude.{slice_get, if◌then◌else◌}
use Rattle.std.proofs.lemmas.Bool.Decides.{nat_tests}
use Rattle.std.proofs.lemmas.List.Folds.{list_any_more}
use Rattle.std.proofs.lemmas.Option.{slice_get_within, get_or_from_slice_get}
use Rattle.tsc_trace.specs.declared.log.Line.{Line}
use Rattle.tsc_trace.specs.declared.log.CallAnswer.{CallAnswer}
use Rattle.tsc_trace.specs.CallAnswers.{front_of}
use Rattle.tsc_check.specs.Verdict.{is_add, is_add_at, reach, adds_in, reaches_above, is_misplaced, is_misplaced_line, is_wrong_place}
use Rattle.tsc_check.specs.CheckParts.{last_below, holds_at, is_lookup_at, adds_there, looks_up_there, ArePlaced}
use Rattle.tsc_check.proofs.Places.{tested}

same_number : (a b : ℕ) → a ≡ b → (a == b) ≡ true
same_number a b e = grind (arith, nat_tests)

is_number : (a b : ℕ) → (a == b) ≡ true → a ≡ b
is_number a b e = grind (arith, nat_tests)

apart : (a b : ℕ) → (a == b) ≡ false → (a ≡ b → ⊥)
apart a b e f = true≢false (sym (same_number a b f) ∙ e)

-- writing a place, read at any
pub set_read : {X : Type 0} (xs : List X) (p q : ℕ) (x d : X) → p < length xs →
    get_or (set xs p x) q d ≡ (if p == q then x else get_or xs q d)
set_read xs p q x d low = elim (tested (p == q)) [
  | inl e ↦ rw e (ap (λ r. get_or (set xs p x) r d) (sym (is_number p q e)) ∙
      get_or-set_same xs p x d low)
  | inr e ↦ rw e (get_or-set_other xs p q x d (λ f. apart p q e (sym f)))
]

none_of_none : (test : ℕ → Bool) → last_below test 0 ≡ None
none_of_none test = refl

-- what a line's test is at its number
pub at_line : (lines : List Line) (i : ℕ) (line : Line) (test : Line → Bool) →
    slice_get lines i ≡ Some line → holds_at test (slice_get lines i) ≡ test line
at_line lines i line test at = ap (holds_at test) at

reaches_more : (lines : List Line) (i : ℕ) (line : Line) (t n : ℕ) → slice_get lines i ≡ Some line
    → reaches_above t n (take (suc i) lines) ≡
    (reaches_above t n (take i lines) || ((line.thread == t) && nat_lt n (reach line.said)))
reaches_more lines i line t n at =
    ap (λ k. reaches_above t n (take k lines)) (sym (add-one i))
    ∙ list_any_more (λ (l : Line). (l.thread == t) && nat_lt n (reach l.said)) lines i line
    (slice_get_within lines i line at)
    ∙ ap (λ (l : Line). reaches_above t n (take i lines) ||
    ((l.thread == t) && nat_lt n (reach l.said))) (get_or_from_slice_get lines i line line at)

or_false : (b : Bool) → (b || false) ≡ b
or_false true = refl
or_false false = refl

-- of two bounds the greater decides
wider : (n old new : ℕ) → old ≤ new → (nat_lt n old || nat_lt n new) ≡ nat_lt n new
wider n old new low = elim (tested (nat_lt n old)) [
  | inl e ↦ let lower : n < old = grind (arith, nat_tests) in let higher : nat_lt n new ≡ true =
      above n new (omega (arith, lower, low)) in rw (e, higher) refl
  | inr e ↦ rw e refl
]
  where
    above : (a b : ℕ) → a < b → nat_lt a b ≡ true
    above a b e = grind (arith, nat_tests)

-- ---- what an answer reaches

pub reach_of_add : (s : CallAnswer) → is_add s ≡ true → reach s ≡ suc (front_of s)
reach_of_add s e = ap (λ b. if b then suc (front_of s) else front_of s) e

pub reach_of_lookup : (s : CallAnswer) → is_add s ≡ false → reach s ≡ front_of s
reach_of_lookup s e = ap (λ b. if b then suc (front_of s) else front_of s) e

pub front_within_reach : (s : CallAnswer) → front_of s ≤ reach s
front_within_reach s = elim (tested (is_add s))
    [ inl e ↦ omega (arith, reach_of_add s e) | inr e ↦ omega (arith, reach_of_lookup s e) ]

-- what is known of a line that is not misplaced
pub record IsFine (n : ℕ) (earlier : List Line) (thread : ℕ) (s : CallAnswer) : Type 0 where
  pub within : front_of s ≤ n
  pub known : reaches_above thread (front_of s) earlier ≡ false
  pub below : is_add s ≡ true → front_of s < n

or_parts : (a b : Bool) → (a || b) ≡ false → (a ≡ false) × (b ≡ false)
or_parts true b e = absurd (true≢false e)
or_parts false b e = (refl, e)

not_above : (a b : ℕ) → nat_lt a b ≡ false → b ≤ a
not_above a b e = grind (arith, nat_tests)

pub fine_said : (n : ℕ) (earlier : List Line) (thread : ℕ) (s : CallAnswer) →
    is_misplaced n earlier thread s ≡ false → IsFine n earlier thread s
fine_said n earlier thread s f =
    let outer = or_parts _ _ f in
    let inner = or_parts _ _ outer.0 in
    let low : reach s ≤ n = not_above n (reach s) inner.0 in
    record {
      within = omega (arith, low, front_within_reach s);
      known = outer.1;
      below = λ e. omega (arith, low, reach_of_add s e);
    }

pub fine_line : (lines : List Line) (i : ℕ) (line : Line) → slice_get lines i ≡ Some line →
    is_wrong_place lines i ≡ false → IsFine (adds_in lines) (take i lines) line.thread line.said
fine_line lines i line at fine = fine_said (adds_in lines) (take i lines) line.thread line.said
    (sym (ap (is_misplaced_line (adds_in lines) (take i lines)) at) ∙ fine)

-- ---- one more line

-- the slots of Adds and of lookups, with those of one more line
adds_more : (lines : List Line) (i p : ℕ) (line : Line) → slice_get lines i ≡ Some line →
    last_below (adds_there lines p) (suc i) ≡
    (if is_add_at p line.said then Some i else last_below (adds_there lines p) i)
adds_more lines i p line at = ap (λ b. if b then Some i else last_below (adds_there lines p) i)
    (at_line lines i line (λ l. is_add_at p l.said) at)

lookups_more : (lines : List Line) (i f : ℕ) (line : Line) → slice_get lines i ≡ Some line →
    last_below (looks_up_there lines f) (suc i) ≡
    (if is_lookup_at f line.said then Some i else last_below (looks_up_there lines f) i)
lookups_more lines i f line at = ap
    (λ b. if b then Some i else last_below (looks_up_there lines f) i)
    (at_line lines i line (λ l. is_lookup_at f l.said) at)

place_of_add : (s : CallAnswer) (p : ℕ) → is_add s ≡ true → is_add_at p s ≡ (front_of s == p)
place_of_add s p e = ap (λ b. b && (front_of s == p)) e

no_lookup : (s : CallAnswer) (f : ℕ) → is_add s ≡ true → is_lookup_at f s ≡ false
no_lookup s f e = ap (λ b. not b && (front_of s == f)) e

no_add : (s : CallAnswer) (p : ℕ) → is_add s ≡ false → is_add_at p s ≡ false
no_add s p e = ap (λ b. b && (front_of s == p)) e

front_of_lookup : (s : CallAnswer) (f : ℕ) → is_add s ≡ false → is_lookup_at f s ≡ (front_of s == f)
front_of_lookup s f e = ap (λ b. not b && (front_of s == f)) e

get_last : {X : Type 0} (xs : List X) (x d : X) (j : ℕ) → j ≡ length xs →
    get_or (xs ++ x ∷ []) j d ≡ x
get_last [] x d zero e = refl
get_last [] x d (suc j) e = absurd (omega (arith, e))
get_last (y ∷ xs) x d zero e = absurd (omega (arith, e))
get_last (y ∷ xs) x d (suc j) e = get_last xs x d j (omega (arith, e))

get_before : {X : Type 0} (xs : List X) (x d : X) (j : ℕ) → j < length xs →
    get_or (xs ++ x ∷ []) j d ≡ get_or xs j d
get_before [] x d j e = absurd (omega (arith, e))
get_before (y ∷ xs) x d zero e = refl
get_before (y ∷ xs) x d (suc j) e = get_before xs x d j (omega (arith, e))

same_line : (a b : Line) (o : Option Line) → o ≡ Some a → o ≡ Some b → a ≡ b
same_line a b o e f = cc

below_or_last : (i n : ℕ) → i < suc n → (i < n) ⊎ (i ≡ n)
below_or_last i n low = by_test (nat_lt i n) refl
  where
    by_test : (b : Bool) → nat_lt i n ≡ b → (i < n) ⊎ (i ≡ n)
    by_test true e = inl (grind (arith, nat_tests))
    by_test false e = inr (let above : n ≤ i = grind (arith, nat_tests) in omega
        (arith, above, low))

earlier_more : (lookups earlier : List (Option ℕ)) (lines : List Line) (i : ℕ) (line : Line) →
    slice_get lines i ≡ Some line → length earlier ≡ i → (before : Option ℕ) →
    before ≡ last_below (looks_up_there lines (front_of line.said)) i
    → ((j : ℕ) (l : Line) (d : Option ℕ) → j < i → slice_get lines j ≡ Some l →
    get_or earlier j d ≡ last_below (looks_up_there lines (front_of l.said)) j)
    → (j : ℕ) (l : Line) (d : Option ℕ) → j < suc i → slice_get lines j ≡ Some l →
    get_or (earlier ++ before ∷ []) j d ≡ last_below (looks_up_there lines (front_of l.said)) j
earlier_more lookups earlier lines i line at size before is old j l d low there =
    elim (below_or_last j i low) [
      | inl lower ↦ get_before earlier before d j (omega (arith, lower, size)) ∙ old j l d lower there
      | inr same ↦
          let one : line ≡ l = same_line line l (slice_get lines i) at
          (ap (slice_get lines) (sym same) ∙ there) in
          get_last earlier before d j (omega (arith, same, size)) ∙ is ∙
          ap (λ (k : Line). last_below (looks_up_there lines (front_of k.said)) i) one
          ∙ ap (λ k. last_below (looks_up_there lines (front_of l.said)) k) (sym same)
    ]

reached_more : (reached : List ℕ) (lines : List Line) (i : ℕ) (line : Line) →
    slice_get lines i ≡ Some line → line.thread < length reached →
    reaches_above line.thread (front_of line.said) (take i lines) ≡ false →
    front_of line.said ≤ reach line.said
    → ((t n d : ℕ) → t < length reached →
    reaches_above t n (take i lines) ≡ nat_lt n (get_or reached t d))
    → (t n d : ℕ) → t < length reached →
    reaches_above t n (take (suc i) lines) ≡
    nat_lt n (get_or (set reached line.thread (reach line.said)) t d)
reached_more reached lines i line at thread known up old t n d low =
    elim (tested (line.thread == t)) [
      | inl e ↦
          let lower : get_or reached line.thread d ≤ front_of line.said =
          not_above (front_of line.said) (get_or reached line.thread d)
          (sym (old line.thread (front_of line.said) d thread) ∙ known) in
          let same = is_number line.thread t e in
          let before : reaches_above t n (take i lines) ≡ nat_lt n (get_or reached line.thread d) =
          old t n d low ∙ ap (λ k. nat_lt n (get_or reached k d)) (sym same) in
          reaches_more lines i line t n at ∙
          rw (e, before, set_read reached line.thread t (reach line.said) d thread, e)
          (wider n (get_or reached line.thread d) (reach line.said) (omega (arith, lower, up)))
      | inr e ↦ reaches_more lines i line t n at ∙
          rw (e, set_read reached line.thread t (reach line.said) d thread, e)
          (or_false (reaches_above t n (take i lines)) ∙ old t n d low)
    ]

pub more_add : (adds lookups earlier : List (Option ℕ)) (reached : List ℕ) (lines : List Line)
    (i : ℕ) (line : Line) → ArePlaced adds lookups earlier reached lines i →
    slice_get lines i ≡ Some line → is_wrong_place lines i ≡ false → is_add line.said ≡ true
    → (before : Option ℕ) → before ≡ get_or lookups (front_of line.said) before
    → ArePlaced (set adds (front_of line.said) (Some i)) lookups (earlier ++ before ∷ [])
    (set reached line.thread (reach line.said)) lines (suc i)
more_add adds lookups earlier reached lines i line a at fine add before is =
    let f = fine_line lines i line at fine in
    let front = front_of line.said in
    let thread = a.of_lists i line at in
    let up : front ≤ reach line.said = omega (arith, reach_of_add line.said add) in
    record {
      add_slots = length-set adds front (Some i) ∙ a.add_slots;
      lookup_slots = a.lookup_slots;
      count = omega (arith, length-append earlier (before ∷ []), a.count);
      of_lists = λ j l there. omega
          (arith, a.of_lists j l there, length-set reached line.thread (reach line.said));
      adds_at = λ p d low. set_read adds front p (Some i) d (omega (arith, a.add_slots, f.within)) ∙
          rw (a.adds_at p d low, ← (place_of_add line.said p add))
          (sym (adds_more lines i p line at));
      lookups_at = λ g d low. a.lookups_at g d low ∙
          sym (lookups_more lines i g line at ∙ rw (no_lookup line.said g add) refl);
      earlier_at = earlier_more lookups earlier lines i line at a.count before
          (is ∙ a.lookups_at front before f.within) a.earlier_at;
      reached_at = λ t n d low. reached_more reached lines i line at thread f.known up a.reached_at
          t n d (omega (arith, low, length-set reached line.thread (reach line.said)));
    }

pub more_lookup : (adds lookups earlier : List (Option ℕ)) (reached : List ℕ) (lines : List Line)
    (i : ℕ) (line : Line) → ArePlaced adds lookups earlier reached lines i →
    slice_get lines i ≡ Some line → is_wrong_place lines i ≡ false → is_add line.said ≡ false
    → (before : Option ℕ) → before ≡ get_or lookups (front_of line.said) before
    → ArePlaced adds (set lookups (front_of line.said) (Some i)) (earlier ++ before ∷ [])
    (set reached line.thread (reach line.said)) lines (suc i)
more_lookup adds lookups earlier reached lines i line a at fine look before is =
    let f = fine_line lines i line at fine in
    let front = front_of line.said in
    let thread = a.of_lists i line at in
    let up : front ≤ reach line.said = omega (arith, reach_of_lookup line.said look) in
    record {
      add_slots = a.add_slots;
      lookup_slots = length-set lookups front (Some i) ∙ a.lookup_slots;
      count = omega (arith, length-append earlier (before ∷ []), a.count);
      of_lists = λ j l there. omega
          (arith, a.of_lists j l there, length-set reached line.thread (reach line.said));
      adds_at = λ p d low. a.adds_at p d low ∙
          sym (adds_more lines i p line at ∙ rw (no_add line.said p look) refl);
      lookups_at = λ g d low. set_read lookups front g (Some i) d
          (omega (arith, a.lookup_slots, f.within)) ∙
          rw (a.lookups_at g d low, ← (front_of_lookup line.said g look))
          (sym (lookups_more lines i g line at));
      earlier_at = earlier_more lookups earlier lines i line at a.count before
          (is ∙ a.lookups_at front before f.within) a.earlier_at;
      reached_at = λ t n d low. reached_more reached lines i line at thread f.known up a.reached_at
          t n d (omega (arith, low, length-set reached line.thread (reach line.said)));
    }
