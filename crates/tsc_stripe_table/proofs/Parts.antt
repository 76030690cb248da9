-- Parts of histories, and the words of locks.
use Rattle.std.proofs.Common.{◌≡◌, ◌≢◌, ◌⊎◌, ◌∙◌, inl, inr, refl, sym, ap, true, false, Bool, ℕ}
use Rattle.std.proofs.Common.{◌+◌, ◌*◌, ◌<◌, List, [], ◌∷◌, ◌++◌, length, set, arith, slice_index}
use Rattle.std.proofs.Common.{append-nil, get_or-set_other, get_or-set_same}
use Rattle.std.specs.Prelude.{◌==◌, nat_lt}
use Rattle.std.specs.List.{flat_map}
use Rattle.std.proofs.lemmas.Grind.{flat_map-append}
use Rattle.std.proofs.lemmas.List.Concat.{flat_map-cons}
use Rattle.std.proofs.lemmas.List.Sums.{sum_by-cons}
use Rattle.std.proofs.lemmas.Bool.Decides.{nat_tests}
use Rattle.tsc_span.specs.Span.{KeyBytes}
use Rattle.tsc_cache.specs.declared.history.Entry.{Entry}
use Rattle.tsc_cache.specs.History.{History}
use Rattle.tsc_stripe_table.specs.Stripes.{entry_in, part_of}
use Rattle.tsc_stripe_table.specs.Rule.{one_if, times_held, lock_word, word_count}
use Rattle.tsc_stripe_table.proofs.Moves.{busy_in}

pub same_or_not : (a b : ℕ) → (a ≡ b) ⊎ (a ≢ b)
same_or_not a b = by_test (a == b) refl
  where
    by_test : (t : Bool) → (a == b) ≡ t → (a ≡ b) ⊎ (a ≢ b)
    by_test true is = inl (grind (arith, nat_tests))
    by_test false is = inr (grind (arith, nat_tests))

-- the part of a history with one more entry
pub part_push : (bounds : List KeyBytes) (i : ℕ) (h : History) (e : Entry)
    → part_of bounds i (h ++ e ∷ []) ≡ part_of bounds i h ++ entry_in bounds i e
part_push bounds i h e =
    flat_map-append (entry_in bounds i) h (e ∷ [])
    ∙ ap (λ (x : History). part_of bounds i h ++ x)
    (flat_map-cons (entry_in bounds i) e [] ∙ append-nil (entry_in bounds i e))

-- It is the same where nothing of the entry lies there.
pub part_untouched : (bounds : List KeyBytes) (i : ℕ) (h : History) (e : Entry)
    → entry_in bounds i e ≡ [] → part_of bounds i (h ++ e ∷ []) ≡ part_of bounds i h
part_untouched bounds i h e none =
    part_push bounds i h e ∙ ap (λ (x : History). part_of bounds i h ++ x) none
    ∙ append-nil (part_of bounds i h)

-- how often a stripe is among one more and others
pub held_cons : (j i : ℕ) (others : List ℕ)
    → times_held j (i ∷ others) ≡ one_if (i == j) + times_held j others
held_cons j i others = sum_by-cons (λ (held : ℕ). one_if (held == j)) i others

-- what a lock reads once it is written
pub word_set : (words : List ℕ) (stripe n stripes : ℕ) → length words ≡ word_count stripes
    → stripe < stripes → slice_index (set words (lock_word stripe) n) (lock_word stripe) ≡ n
word_set words stripe n stripes wide low =
    get_or-set_same words (lock_word stripe) n 0 (omega (arith, wide, low))

pub busy_set : (words : List ℕ) (stripe n stripes : ℕ) → length words ≡ word_count stripes
    → stripe < stripes → busy_in (set words (lock_word stripe) n) stripe ≡ one_if (nat_lt 0 n)
busy_set words stripe n stripes wide low =
    ap (λ (m : ℕ). one_if (nat_lt 0 m)) (word_set words stripe n stripes wide low)

-- and the others read as before
pub word_else : (words : List ℕ) (stripe n j : ℕ) → stripe ≢ j
    → slice_index (set words (lock_word stripe) n) (lock_word j) ≡ slice_index words (lock_word j)
word_else words stripe n j apart =
    get_or-set_other words (lock_word stripe) (lock_word j) n 0
    (λ z. apart (omega (arith, z)))

pub busy_else : (words : List ℕ) (stripe n j : ℕ) → stripe ≢ j
    → busy_in (set words (lock_word stripe) n) j ≡ busy_in words j
busy_else words stripe n j apart =
    ap (λ (m : ℕ). one_if (nat_lt 0 m)) (word_else words stripe n j apart)
