-- Whether two tables are one can be decided by all that tells them apart.
use Rattle.std.proofs.Common.{◌≡◌, ◌⊎◌, inl, inr, refl, ap, ℕ, List, [], ◌∷◌, length, arith}
use Rattle.std.specs.Prelude.{◌≢◌}
use native.Mathlib.Decide.{ℕ_discrete}
use mathlib.Core.Logic.{dite}
use Rattle.atomic_table.specs.Seated.{TableId}

-- two values are the same, or they are not
abbrev pub Decided : {A : Type 0} → A → A → Type 0
Decided a b = (a ≡ b) ⊎ (a ≢ b)

number : (m n : ℕ) → Decided m n
number m n = dite (ℕ_discrete m n) (λ e. inl e) (λ ne. inr ne)

both : {A B : Type 0} (a c : A) (b d : B) → Decided a c → Decided b d →
    Decided {A = A × B} (a, b) (c, d)
both {A} {B} a c b d (inl e) (inl f) = inl (λ i. (e i, f i))
both {A} {B} a c b d (inl e) (inr n) = inr (λ h. n (ap (λ (p : A × B). p.1) h))
both {A} {B} a c b d (inr n) other = inr (λ h. n (ap (λ (p : A × B). p.0) h))

head_or : ℕ → List ℕ → ℕ
head_or d [] = d
head_or d (x ∷ xs) = x

tail_of : List ℕ → List ℕ
tail_of [] = []
tail_of (x ∷ xs) = xs

longer : (x y : ℕ) (xs ys : List ℕ) → Decided x y → Decided xs ys → Decided (x ∷ xs) (y ∷ ys)
unfolding head_or tail_of
longer x y xs ys (inl e) (inl f) = inl (λ i. e i ∷ f i)
longer x y xs ys (inl e) (inr n) = inr (λ h. n (ap tail_of h))
longer x y xs ys (inr n) other = inr (λ h. n (ap (head_or 0) h))

numbers : (xs ys : List ℕ) → Decided xs ys
numbers [] [] = inl refl
numbers [] (y ∷ ys) = inr (λ h. omega (arith, ap length h))
numbers (x ∷ xs) [] = inr (λ h. omega (arith, ap length h))
numbers (x ∷ xs) (y ∷ ys) = longer x y xs ys (number x y) (numbers xs ys)

abbrev Reported : Type 0
Reported = ℕ × (ℕ × (ℕ × (ℕ × (ℕ × (ℕ × List ℕ)))))

abbrev reported : TableId → Reported
reported z = (z.words, (z.slots, (z.views_name, (z.atom, (z.block, (z.offset, z.slot_names))))))

by_reported : (a b : TableId) → reported a ≡ reported b → a ≡ b
by_reported a b e i = record {
  words = (e i).0;
  slots = (e i).1.0;
  views_name = (e i).1.1.0;
  atom = (e i).1.1.1.0;
  block = (e i).1.1.1.1.0;
  offset = (e i).1.1.1.1.1.0;
  slot_names = (e i).1.1.1.1.1.1;
}

from_reported : (a b : TableId) → Decided (reported a) (reported b) → Decided a b
from_reported a b (inl e) = inl (by_reported a b e)
from_reported a b (inr n) = inr (λ e. n (ap reported e))

pub one_table : (a b : TableId) → Decided a b
one_table a b = from_reported a b (both a.words b.words (reported a).1 (reported b).1
    (number a.words b.words)
    (both a.slots b.slots (reported a).1.1 (reported b).1.1 (number a.slots b.slots)
    (both a.views_name b.views_name (reported a).1.1.1 (reported b).1.1.1
    (number a.views_name b.views_name)
    (both a.atom b.atom (reported a).1.1.1.1 (reported b).1.1.1.1 (number a.atom b.atom)
    (both a.block b.block (reported a).1.1.1.1.1 (reported b).1.1.1.1.1 (number a.block b.block)
    (both a.offset b.offset a.slot_names b.slot_names (number a.offset b.offset)
    (numbers a.slot_names b.slot_names)))))))
