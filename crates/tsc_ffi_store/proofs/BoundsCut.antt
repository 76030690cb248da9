-- Bounds that are cut from bytes, one behind another, and what a cache in stripes says of them.
use Rattle.std.proofs.Common.{◌≡◌, ◌∙◌, refl, sym, ap, subst, ℕ, ◌+◌, ◌<◌, List, [], ◌∷◌, ◌++◌, length, map, take, drop, get_or, arith, rules}
use Rattle.std.specs.List.{sum_by, concat}
use Rattle.std.proofs.lemmas.List.{map_push, drop_more, append_assoc, append-nil}
use Rattle.std.proofs.lemmas.List.Folds.{concat-append}
use Rattle.std.proofs.lemmas.List.Sums.{sum_by-cons}
use Rattle.tsc_span.specs.Span.{KeyBytes}
use Rattle.tsc_cache.specs.ConfigView.{ConfigView}
use Rattle.tsc_striped.specs.Seats.{IsSettled}
use Rattle.tsc_striped.specs.Answers.{open_fault}
use Rattle.tsc_striped.specs.declared.answers.OpenFault.TheVariants.{NoMemory}

-- The bounds so far and the bytes that are left are all bytes, and so are the lengths.
pub record CutsOn (keys lens : List ℕ) (i : ℕ) (bounds : List KeyBytes) (rest : List ℕ) : Type
    0 where
  pub all : concat bounds ++ rest ≡ keys
  pub lengths : map length bounds ++ drop i lens ≡ lens
  pub left : sum_by (λ n. n) (drop i lens) ≡ length rest

pub one_cut : (keys lens : List ℕ) (i d : ℕ) (bounds more : List KeyBytes)
    (rest front others key : List ℕ) → i < length lens → rest ≡ front ++ others
    → length front ≡ get_or lens i d → length others + get_or lens i d ≡ length rest
    → key ≡ front → more ≡ bounds ++ key ∷ [] → CutsOn keys lens i bounds rest
    → CutsOn keys lens (i + 1) more others
one_cut keys lens i d bounds more rest front others key lt cut long left is pushed so_far =
    let len = get_or lens i d in
    let from : drop i lens ≡ len ∷ drop (i + 1) lens = drop_more lens i d lt in
    let with : more ≡ bounds ++ front ∷ [] =
    pushed ∙ ap (λ (k : List ℕ). bounds ++ k ∷ []) is in
    record {
      all = ap (λ (bs : List KeyBytes). concat bs ++ others) with
          ∙ ap (λ (xs : List ℕ). xs ++ others) (concat-append bounds (front ∷ [])
          ∙ ap (λ (xs : List ℕ). concat bounds ++ xs) (append-nil front))
          ∙ append_assoc (concat bounds) front others
          ∙ ap (λ (xs : List ℕ). concat bounds ++ xs) (sym cut) ∙ so_far.all;
      lengths = ap (λ (bs : List KeyBytes). map length bs ++ drop (i + 1) lens) with
          ∙ ap (λ (ns : List ℕ). ns ++ drop (i + 1) lens) (map_push length bounds front)
          ∙ append_assoc (map length bounds) (length front ∷ []) (drop (i + 1) lens)
          ∙ ap (λ (n : ℕ). map length bounds ++ n ∷ drop (i + 1) lens) long
          ∙ ap (λ (ns : List ℕ). map length bounds ++ ns) (sym from) ∙ so_far.lengths;
      left =
          let sum : len + sum_by (λ (n : ℕ). n) (drop (i + 1) lens) ≡ length rest =
          sym (sum_by-cons (λ (n : ℕ). n) len (drop (i + 1) lens))
          ∙ ap (λ (ns : List ℕ). sum_by (λ (n : ℕ). n) ns) (sym from) ∙ so_far.left in
          grind (arith, sum, left);
    }

-- what was opened once was refused for memory alone
pub no_memory : (config : ConfigView) (count : ℕ) (bounds : List KeyBytes)
    → IsSettled (record { config = config; seats = count; bounds = bounds })
    → NoMemory ≡ open_fault config bounds
no_memory config count bounds settled =
    let order = settled.in_order in
    let few = settled.few in
    let room = settled.room in
    search rules
