-- Each place below the number of Adds is that of one line, where no two have one place.
use Rattle.std.proofs.Common.{cond, ◌≡◌, ◌⊎◌, inl, inr, ◌∙◌, sym, ap, refl, ℕ, zero, suc, ◌+◌, ◌<◌, ◌≤◌, List, [], ◌∷◌, Bool, true, false, ◌&&◌, ◌==◌, true≢false, arith}
use Rattle.std.proofs.lemmas.Bool.Decides.{nat_tests}
use Rattle.std.proofs.lemmas.List.Sums.{sum_by-cons}
use Rattle.tsc_trace.specs.declared.log.Line.{Line}
use Rattle.tsc_trace.specs.declared.log.CallAnswer.{CallAnswer}
use Rattle.tsc_trace.specs.CallAnswers.{front_of}
use Rattle.tsc_check.specs.Verdict.{is_add, is_add_at, adds_in}
use Rattle.tsc_check.proofs.Each.{Each, Ordered}

abbrev pub one_if : Bool → ℕ
one_if true = 1
one_if false = 0

pub tested : (b : Bool) → (b ≡ true) ⊎ (b ≡ false)
tested true = inl refl
tested false = inr refl

-- how many lines are those of an Add at a place
abbrev pub count_at : ℕ → List Line → ℕ
count_at p [] = 0
count_at p (line ∷ lines) = one_if (is_add_at p line.said) + count_at p lines

-- two lines that are not both those of Adds at one place
abbrev pub HaveOtherPlaces : Line → Line → Type 0
HaveOtherPlaces a b = (p : ℕ) → is_add_at p a.said ≡ true → is_add_at p b.said ≡ false

-- a line whose place, where it is that of an Add, is below a bound
abbrev pub IsPlacedBelow : ℕ → Line → Type 0
IsPlacedBelow n line = (p : ℕ) → is_add_at p line.said ≡ true → p < n

pub none_at : (p : ℕ) (lines : List Line) → Each (λ l. is_add_at p l.said ≡ false) lines →
    count_at p lines ≡ 0
none_at p [] a = refl
none_at p (line ∷ lines) a = omega (arith, ap one_if a.0, none_at p lines a.1)

pub one_at_most : (p : ℕ) (lines : List Line) → Ordered HaveOtherPlaces lines → count_at p lines ≤ 1
one_at_most p [] a = omega arith
one_at_most p (line ∷ lines) a = elim (tested (is_add_at p line.said)) [
  | inl e ↦ omega (arith, ap one_if e, none_at p lines (others lines a.0 e))
  | inr e ↦ omega (arith, ap one_if e, one_at_most p lines a.1)
]
  where
    others : (ls : List Line) → Each (HaveOtherPlaces line) ls → is_add_at p line.said ≡ true →
        Each (λ l. is_add_at p l.said ≡ false) ls
    others [] b e = tt
    others (l ∷ ls) b e = (b.0 p e, others ls b.1 e)

-- the sum below a bound
abbrev pub sum_below : (ℕ → ℕ) → ℕ → ℕ
sum_below f zero = 0
sum_below f (suc n) = sum_below f n + f n

sum_below-add : (f g : ℕ → ℕ) (n : ℕ) → sum_below (λ p. f p + g p) n ≡ sum_below f n + sum_below g n
sum_below-add f g zero = refl
sum_below-add f g (suc n) = omega (arith, sum_below-add f g n)

sum_below-none : (n : ℕ) → sum_below (λ p. 0) n ≡ 0
sum_below-none zero = refl
sum_below-none (suc n) = omega (arith, sum_below-none n)

same_number : (a b : ℕ) → a ≡ b → (a == b) ≡ true
same_number a b e = grind (arith, nat_tests)

other_number : (a b : ℕ) → a < b → (a == b) ≡ false
other_number a b e = grind (arith, nat_tests)

other_number_above : (a b : ℕ) → b < a → (a == b) ≡ false
other_number_above a b e = grind (arith, nat_tests)

is_number : (a b : ℕ) → (a == b) ≡ true → a ≡ b
is_number a b e = grind (arith, nat_tests)

-- a place is met once below a bound above it, and not below one that isn't
not_yet : (place n : ℕ) → n ≤ place → sum_below (λ p. one_if (place == p)) n ≡ 0
not_yet place zero low = refl
not_yet place (suc n) low = omega (
  arith,
  not_yet place n (omega arith),
  ap one_if (other_number_above place n (omega arith)),
)

met_once : (place n : ℕ) → place < n → sum_below (λ p. one_if (place == p)) n ≡ 1
met_once place zero low = absurd (omega arith)
met_once place (suc n) low = elim (tested (place == n)) [
  | inl e ↦ omega (arith, ap one_if e, not_yet place n (omega (arith, is_number place n e)))
  | inr e ↦ omega (arith, ap one_if e, met_once place n (omega (arith, apart e)))
]
  where
    apart : (place == n) ≡ false → (place ≡ n → ⊥)
    apart e f = true≢false (sym (same_number place n f) ∙ e)

line_once : (n : ℕ) (s : CallAnswer) → ((p : ℕ) → is_add_at p s ≡ true → p < n) →
    sum_below (λ p. one_if (is_add_at p s)) n ≡ one_if (is_add s)
line_once n s below = by_test (is_add s) (front_of s) below
  where
    by_test : (b : Bool) (place : ℕ) → ((p : ℕ) → (b && (place == p)) ≡ true → p < n) →
        sum_below (λ p. one_if (b && (place == p))) n ≡ one_if b
    by_test true place low = met_once place n (low place (same_number place place refl))
    by_test false place low = sum_below-none n

cond_one : (b : Bool) → cond b 1 0 ≡ one_if b
cond_one true = refl
cond_one false = refl

-- over all places below the bound, each Add is counted once
pub counted_by_place : (n : ℕ) (lines : List Line) → Each (IsPlacedBelow n) lines →
    sum_below (λ p. count_at p lines) n ≡ adds_in lines
counted_by_place n [] a = sum_below-none n
counted_by_place n (line ∷ lines) a =
    sum_below-add (λ p. one_if (is_add_at p line.said)) (λ p. count_at p lines) n
    ∙ rw (line_once n line.said a.0, counted_by_place n lines a.1, ← (cond_one (is_add line.said)))
    (sym (sum_by-cons (λ (l : Line). cond (is_add l.said) 1 0) line lines))

-- counts of at most one whose sum is the bound are all one
sum_at_most : (f : ℕ → ℕ) (n : ℕ) → ((p : ℕ) → f p ≤ 1) → sum_below f n ≤ n
sum_at_most f zero most = omega arith
sum_at_most f (suc n) most = omega (arith, sum_at_most f n most, most n)

pub each_is_one : (f : ℕ → ℕ) (n : ℕ) → ((p : ℕ) → f p ≤ 1) → sum_below f n ≡ n → (p : ℕ) → p < n →
    f p ≡ 1
each_is_one f zero most all p low = absurd (omega arith)
each_is_one f (suc n) most all p low = elim (tested (p == n)) [
  | inl e ↦ ap f (is_number p n e) ∙ omega (arith, all, sum_at_most f n most, most n)
  | inr e ↦ each_is_one f n most (omega (arith, all, sum_at_most f n most, most n)) p
      (omega (arith, apart e))
]
  where
    apart : (p == n) ≡ false → (p ≡ n → ⊥)
    apart e g = true≢false (sym (same_number p n g) ∙ e)

-- there is just one Add at each place below the number of Adds
pub one_at_each : (n : ℕ) (lines : List Line) → Each (IsPlacedBelow n) lines →
    Ordered HaveOtherPlaces lines → adds_in lines ≡ n → (p : ℕ) → p < n → count_at p lines ≡ 1
one_at_each n lines below others size p low =
    each_is_one (λ q. count_at q lines) n (λ q. one_at_most q lines others)
    (counted_by_place n lines below ∙ size) p low
