-- Whether a line's place or front is wrong, by the slots.
use Rattle.std.proofs.Common.{◌≡◌, ◌∙◌, inl, inr, sym, ap, refl, ℕ, zero, suc, ◌+◌, ◌<◌, ◌≤◌, List, [], ◌∷◌, length, take, get_or, replicate, Bool, true, false, ◌||◌, ◌&&◌, nat_lt, nat_le, Option, Some, None, is_some, add-one, arith}
use Rattle.std.specs.Prelude.{slice_get, if◌then◌else◌}
use Rattle.std.proofs.lemmas.Bool.Decides.{nat_tests}
use Rattle.std.proofs.lemmas.List.{length-replicate}
use Rattle.std.proofs.lemmas.List.Folds.{list_any_more}
use Rattle.std.proofs.lemmas.Option.{slice_get-get_or}
use Rattle.tsc_trace.specs.declared.log.Line.{Line}
use Rattle.tsc_trace.specs.declared.log.CallAnswer.{CallAnswer}
use Rattle.tsc_trace.specs.CallAnswers.{front_of}
use Rattle.tsc_check.specs.Verdict.{is_add, is_add_at, reach, adds_in, has_add_at, reaches_above, is_misplaced, is_misplaced_line, is_wrong_place, least}
use Rattle.tsc_check.specs.CheckParts.{last_below, holds_at, adds_there, AreOfLists, ArePlaced}
use Rattle.tsc_check.proofs.Places.{tested}
use Rattle.tsc_check.proofs.FirstOther.{none_from_least, least_at}
use Rattle.tsc_check.proofs.Slots.{reach_of_add, reach_of_lookup}

above_wrong : (n : ℕ) (earlier : List Line) (thread : ℕ) (s : CallAnswer) →
    reaches_above thread (front_of s) earlier ≡ true → is_misplaced n earlier thread s ≡ true
above_wrong n earlier thread s e =
    rw e (or_true (nat_lt n (reach s) || (is_add s && has_add_at (front_of s) earlier)))
  where
    or_true : (b : Bool) → (b || true) ≡ true
    or_true true = refl
    or_true false = refl

or_false : (b : Bool) → (b || false) ≡ b
or_false true = refl
or_false false = refl

-- one more than a number is above a bound where the number is not below it
past_bound : (n x : ℕ) → nat_lt n (suc x) ≡ nat_le n x
past_bound n x = elim (tested (nat_le n x)) [
  | inl e ↦ past n x e ∙ sym e
  | inr e ↦ before n x e ∙ sym e
]
  where
    past : (n x : ℕ) → nat_le n x ≡ true → nat_lt n (suc x) ≡ true
    past n x e = grind (arith, nat_tests)

    before : (n x : ℕ) → nat_le n x ≡ false → nat_lt n (suc x) ≡ false
    before n x e = grind (arith, nat_tests)

add_wrong : (n : ℕ) (earlier : List Line) (thread : ℕ) (s : CallAnswer) → is_add s ≡ true →
    reaches_above thread (front_of s) earlier ≡ false →
    is_misplaced n earlier thread s ≡ (nat_le n (front_of s) || has_add_at (front_of s) earlier)
add_wrong n earlier thread s add e =
    rw (e, reach_of_add s add, add, past_bound n (front_of s))
    (or_false (nat_le n (front_of s) || has_add_at (front_of s) earlier))

lookup_wrong : (n : ℕ) (earlier : List Line) (thread : ℕ) (s : CallAnswer) → is_add s ≡ false →
    reaches_above thread (front_of s) earlier ≡ false →
    is_misplaced n earlier thread s ≡ nat_lt n (front_of s)
lookup_wrong n earlier thread s look e =
    rw (e, reach_of_lookup s look, look)
    (or_false (nat_lt n (front_of s) || false) ∙ or_false (nat_lt n (front_of s)))

at_most : (a b : ℕ) → b ≤ a → nat_lt a b ≡ false
at_most a b e = grind (arith, nat_tests)

below : (a b : ℕ) → a < b → nat_lt a b ≡ true
below a b e = grind (arith, nat_tests)

-- an Add stands at a place among the first lines where there is a last one
pub has_last : (lines : List Line) (p i : ℕ) → i ≤ length lines →
    has_add_at p (take i lines) ≡ is_some (last_below (adds_there lines p) i)
has_last [] p zero low = refl
has_last (l ∷ ls) p zero low = refl
has_last lines p (suc i) low =
    ap (λ k. has_add_at p (take k lines)) (sym (add-one i)) ∙
    more lines (omega (arith, low)) (has_last lines p i (omega (arith, low)))
  where
    kept : (b : Bool) (o : Option ℕ) → (is_some o || b) ≡ is_some (if b then Some i else o)
    kept true None = refl
    kept true (Some j) = refl
    kept false None = refl
    kept false (Some j) = refl

    more : (ls : List Line) → i < length ls →
        has_add_at p (take i ls) ≡ is_some (last_below (adds_there ls p) i) →
        has_add_at p (take (i + 1) ls) ≡ is_some (last_below (adds_there ls p) (suc i))
    more [] within before = absurd (omega (arith, within))
    more (x ∷ xs) within before =
        let line = get_or (x ∷ xs) i x in
        list_any_more (λ (l : Line). is_add_at p l.said) (x ∷ xs) i x within
        ∙ ap (λ b. b || is_add_at p line.said) before
        ∙ kept (is_add_at p line.said) (last_below (adds_there (x ∷ xs) p) i)
        ∙ ap (λ b. is_some (if b then Some i else last_below (adds_there (x ∷ xs) p) i))
        (sym (ap (holds_at (λ l. is_add_at p l.said)) (slice_get-get_or (x ∷ xs) i x within)))

at_it : (lines : List Line) (i : ℕ) (line : Line) → slice_get lines i ≡ Some line →
    is_wrong_place lines i ≡ is_misplaced (adds_in lines) (take i lines) line.thread line.said
at_it lines i line at = ap (is_misplaced_line (adds_in lines) (take i lines)) at

pub known_above : (adds lookups earlier : List (Option ℕ)) (reached : List ℕ) (lines : List Line)
    (i : ℕ) (line : Line) → ArePlaced adds lookups earlier reached lines i →
    slice_get lines i ≡ Some line
    → nat_lt (front_of line.said) (get_or reached line.thread 0) ≡ true →
    true ≡ is_wrong_place lines i
known_above adds lookups earlier reached lines i line a at more =
    sym (at_it lines i line at ∙ above_wrong (adds_in lines) (take i lines) line.thread line.said
    (a.reached_at line.thread (front_of line.said) 0 (a.of_lists i line at) ∙ more))

known_not : (adds lookups earlier : List (Option ℕ)) (reached : List ℕ) (lines : List Line) (i : ℕ)
    (line : Line) → ArePlaced adds lookups earlier reached lines i → slice_get lines i ≡ Some line
    → nat_lt (front_of line.said) (get_or reached line.thread 0) ≡ false →
    reaches_above line.thread (front_of line.said) (take i lines) ≡ false
known_not adds lookups earlier reached lines i line a at less =
    a.reached_at line.thread (front_of line.said) 0 (a.of_lists i line at) ∙ less

pub place_wrong : (adds lookups earlier : List (Option ℕ)) (reached : List ℕ) (lines : List Line)
    (i : ℕ) (line : Line) → ArePlaced adds lookups earlier reached lines i →
    slice_get lines i ≡ Some line
    → nat_lt (front_of line.said) (get_or reached line.thread 0) ≡ false → is_add line.said ≡ true →
    is_wrong_place lines i ≡ (nat_le (adds_in lines) (front_of line.said) ||
    has_add_at (front_of line.said) (take i lines))
place_wrong adds lookups earlier reached lines i line a at less add =
    at_it lines i line at ∙ add_wrong (adds_in lines) (take i lines) line.thread line.said add
    (known_not adds lookups earlier reached lines i line a at less)

pub past_last : (adds lookups earlier : List (Option ℕ)) (reached : List ℕ) (lines : List Line)
    (i : ℕ) (line : Line) → ArePlaced adds lookups earlier reached lines i →
    slice_get lines i ≡ Some line
    → nat_lt (front_of line.said) (get_or reached line.thread 0) ≡ false → is_add line.said ≡ true →
    nat_le (adds_in lines) (front_of line.said) ≡ true → true ≡ is_wrong_place lines i
past_last adds lookups earlier reached lines i line a at less add past =
    sym (place_wrong adds lookups earlier reached lines i line a at less add ∙ rw past refl)

pub taken : (adds lookups earlier : List (Option ℕ)) (reached : List ℕ) (lines : List Line) (i : ℕ)
    (line : Line) → ArePlaced adds lookups earlier reached lines i → slice_get lines i ≡ Some line →
    i < length lines
    → nat_lt (front_of line.said) (get_or reached line.thread 0) ≡ false → is_add line.said ≡ true →
    nat_le (adds_in lines) (front_of line.said) ≡ false
    → is_some (get_or adds (front_of line.said) None) ≡ is_wrong_place lines i
taken adds lookups earlier reached lines i line a at within less add low =
    let front = front_of line.said in
    let lower : front ≤ adds_in lines = under front (adds_in lines) low in
    sym (place_wrong adds lookups earlier reached lines i line a at less add ∙
    rw low (has_last lines front i (omega (arith, within)) ∙
    ap is_some (sym (a.adds_at front None lower))))
  where
    under : (x n : ℕ) → nat_le n x ≡ false → x ≤ n
    under x n e = grind (arith, nat_tests)

pub front_wrong : (adds lookups earlier : List (Option ℕ)) (reached : List ℕ) (lines : List Line)
    (i : ℕ) (line : Line) → ArePlaced adds lookups earlier reached lines i →
    slice_get lines i ≡ Some line
    → nat_lt (front_of line.said) (get_or reached line.thread 0) ≡ false →
    is_add line.said ≡ false →
    nat_lt (adds_in lines) (front_of line.said) ≡ is_wrong_place lines i
front_wrong adds lookups earlier reached lines i line a at less look =
    sym (at_it lines i line at ∙ lookup_wrong (adds_in lines) (take i lines) line.thread line.said
    look (known_not adds lookups earlier reached lines i line a at less))

-- ---- one more line

pub none_so_far : (test : ℕ → Bool) (i : ℕ) → least test i ≡ None → test i ≡ false →
    least test (i + 1) ≡ None
none_so_far test i none e = ap (least test) (add-one i) ∙ rw (none, e) refl

pub found_here : (test : ℕ → Bool) (n i : ℕ) → least test i ≡ None → i < n → test i ≡ true →
    Some i ≡ least test n
found_here test n i none low e = sym (least_at test n i (low, e, none_from_least test i none))

-- ---- no lines

get_or-replicate : {X : Type 0} (n i : ℕ) (x d : X) → i < n → get_or (replicate n x) i d ≡ x
get_or-replicate zero i x d low = absurd (omega (arith, low))
get_or-replicate (suc n) zero x d low = refl
get_or-replicate (suc n) (suc i) x d low = get_or-replicate n i x d (omega (arith, low))

nothing_reached : (t n : ℕ) (lines : List Line) → reaches_above t n (take 0 lines) ≡ false
nothing_reached t n [] = refl
nothing_reached t n (l ∷ ls) = refl

pub none_placed : (lists : ℕ) (lines : List Line) → AreOfLists lists lines → (slots : ℕ) →
    slots ≡ adds_in lines + 1 → ArePlaced (replicate slots None) (replicate slots None) []
    (replicate lists 0) lines 0
none_placed lists lines of slots size =
    let more : slots ≡ suc (adds_in lines) = omega (arith, size) in
    record {
      add_slots = length-replicate slots None ∙ more;
      lookup_slots = length-replicate slots None ∙ more;
      count = refl;
      of_lists = λ j l there. omega (arith, of j l there, length-replicate lists zero);
      adds_at = λ p d low. get_or-replicate slots p None d (omega (arith, low, more));
      lookups_at = λ f d low. get_or-replicate slots f None d (omega (arith, low, more));
      earlier_at = λ j l d low there. absurd (omega (arith, low));
      reached_at = λ t n d low. nothing_reached t n lines ∙
          sym (ap (nat_lt n) (get_or-replicate lists t 0 d
          (omega (arith, low, length-replicate lists zero))) ∙ at_most n 0 (omega arith));
    }
