-- The sizes of the leaves of subtrees.
use Rattle.std.proofs.Common.{◌≡◌, ◌∙◌, refl, sym, ap, subst, ℕ, zero, suc, ◌+◌, ◌<◌, ◌≤◌, List, [], ◌∷◌, ◌++◌, length, map, take, get_or, arith}
use Rattle.std.specs.Prelude.{Option, Some, None, Ok, Err, slice_get, sum}
use Rattle.std.specs.List.{All}
use Rattle.std.proofs.lemmas.List.{length-append, take_more, take_all}
use Rattle.std.proofs.lemmas.List.Sums.{sum_by-append}
use Rattle.std.proofs.lemmas.Option.{slice_get_past}
use Rattle.tsc_time.specs.ValueView.{ValueView}
use Rattle.tsc_page_model.specs.PageView.{AreLeafSizes}
use Rattle.tsc_page_nodes.specs.Nodes.{Node}
use Rattle.tsc_page_tree.specs.Leaves.{nodes_of}
use Rattle.tsc_page_tree.specs.Lazy.{with_lazy, sizes_of, AreSizesOf, ReportsSize}
use Rattle.tsc_page_tree.proofs.Lazy.{lazy-length}

pub sizes_both : (ns ms : List ℕ) → AreLeafSizes ns → AreLeafSizes ms → AreLeafSizes (ns ++ ms)
sizes_both [] ms h g = g
sizes_both (n ∷ ns) ms h g = (h.0, h.1, sizes_both ns ms h.2 g)

sum_both : (ns ms : List ℕ) → sum (ns ++ ms) ≡ sum ns + sum ms
sum_both ns ms = sum_by-append (λ (n : ℕ). n) ns ms

-- subtrees whose sizes are those of their nodes
pub sizes_of_subtrees : {X : Type 0} (f : X → List Node) (s : X → List ℕ) (Q : X → Type 0)
    (xs : List X) → ((x : X) → Q x → AreSizesOf (s x) (f x)) → All Q xs →
    AreSizesOf (sizes_of (map s xs)) (nodes_of (map f xs))
sizes_of_subtrees f s Q [] law all = record { few = tt; total = refl }
sizes_of_subtrees f s Q (x ∷ xs) law all =
    let first = law x (all 0 x (omega arith)) in
    let rest = sizes_of_subtrees f s Q xs law (λ i d h. all (suc i) d (omega (arith, h))) in
    record {
      few = sizes_both (s x) (sizes_of (map s xs)) first.few rest.few;
      total = omega (
        arith,
        sum_both (s x) (sizes_of (map s xs)),
        length-append (f x) (nodes_of (map f xs)),
        first.total,
        rest.total,
      );
    }

-- the lazy value changes none
pub sizes_lazy : (p : Option ValueView) (sizes : List ℕ) (ns : List Node) → AreSizesOf sizes ns →
    AreSizesOf sizes (with_lazy p ns)
sizes_lazy p sizes ns are = record {
  few = are.few;
  total = are.total ∙
      sym (lazy-length p ns);
}

pub one_size : (ns : List Node) → 1 ≤ length ns → length ns ≤ 64 → AreSizesOf (length ns ∷ []) ns
one_size ns some few = record { few = (some, few, tt); total = omega arith }

size_first : (ns ms : List ℕ) (i : ℕ) (n : ℕ) → slice_get ns i ≡ Some n →
    slice_get (ns ++ ms) i ≡ Some n
size_first [] ms i n h = absurd (none i h)
  where
    none : (j : ℕ) → slice_get [] j ≡ Some n → ⊥
    none zero g = cc
    none (suc j) g = cc
size_first (m ∷ ns) ms zero n h = h
size_first (m ∷ ns) ms (suc i) n h = size_first ns ms i n h

size_behind : (ns ms : List ℕ) (i j : ℕ) → i ≡ length ns + j →
    slice_get (ns ++ ms) i ≡ slice_get ms j
size_behind [] ms i j h = ap (slice_get ms) (simple h)
  where
    simple : i ≡ 0 + j → i ≡ j
    simple g = omega arith
size_behind (n ∷ ns) ms zero j h = absurd (omega (arith, h))
size_behind (n ∷ ns) ms (suc i) j h = size_behind ns ms i j (omega (arith, h))

-- The place that is left lies so many places behind the leaves of the subtrees before one.
abbrev pub SizesSoFar : {X : Type 0} → (X → List ℕ) → List X → ℕ → ℕ → ℕ → Type 0
SizesSoFar s xs index i left = index ≡ length (sizes_of (map s (take i xs))) + left

-- the subtree has the place
pub size_reported : {X : Type 0} (s : X → List ℕ) (xs : List X) (i index left n : ℕ) (x : X) →
    i < length xs → x ≡ get_or xs i x → ReportsSize (s x) left (Ok n) → SizesSoFar s xs index i left
    → ReportsSize (sizes_of (map s xs)) index (Ok n)
size_reported s [] i index left n x inside at reported so_far = absurd (omega (arith, inside))
size_reported s (y ∷ xs) zero index left n x inside at reported so_far =
    size_first (s y) (sizes_of (map s xs)) index n
    (subst (λ (j : ℕ). slice_get (s y) j ≡ Some n) (omega (arith, so_far))
    (ap (λ z. slice_get (s z) left) (sym at) ∙ reported))
size_reported s (y ∷ xs) (suc i) index left n x inside at reported so_far =
    let rest : ℕ = length (sizes_of (map s (take i xs))) + left in
    size_behind (s y) (sizes_of (map s xs)) index rest
    (omega (arith, so_far, length-append (s y) (sizes_of (map s (take i xs))))) ∙
    size_reported s xs i rest left n x (omega (arith, inside)) at reported refl

-- or not
more_sizes : {X : Type 0} (s : X → List ℕ) (ys : List X) (z : X) →
    length (sizes_of (map s (ys ++ z ∷ []))) ≡ length (sizes_of (map s ys)) + length (s z)
more_sizes s [] z = omega (arith, length-append (s z) [])
more_sizes s (y ∷ ys) z = omega (
  arith,
  length-append (s y) (sizes_of (map s (ys ++ z ∷ []))),
  length-append (s y) (sizes_of (map s ys)),
  more_sizes s ys z,
)

pub size_passed : {X : Type 0} (s : X → List ℕ) (xs : List X) (i index left rest : ℕ) (x : X) →
    i < length xs → x ≡ get_or xs i x → ReportsSize (s x) left (Err rest) →
    SizesSoFar s xs index i left → SizesSoFar s xs index (i + 1) rest
size_passed {X = X} s xs i index left rest x inside at reported so_far =
    let more = ap (λ (ys : List X). length (sizes_of (map s ys))) (take_more xs i x inside) ∙
    more_sizes s (take i xs) (get_or xs i x) ∙
    ap (λ (z : X). length (sizes_of (map s (take i xs))) + length (s z)) (sym at) in
    omega (arith, so_far, reported, more)

pub no_size_reported : {X : Type 0} (s : X → List ℕ) (xs : List X) (i index left : ℕ) →
    length xs ≤ i →
    SizesSoFar s xs index i left → ReportsSize (sizes_of (map s xs)) index (Err left)
no_size_reported {X = X} s xs i index left past so_far =
    so_far ∙ ap (λ (ys : List X). length (sizes_of (map s ys)) + left) (take_all i xs past)

-- a place among all sizes
pub size_found : (sizes : List ℕ) (index n : ℕ) → ReportsSize sizes index (Ok n) →
    Some n ≡ slice_get sizes index
size_found sizes index n reported = sym reported

pub none_found : (sizes : List ℕ) (index rest : ℕ) → ReportsSize sizes index (Err rest) →
    None ≡ slice_get sizes index
none_found sizes index rest reported = sym (slice_get_past sizes index (omega (arith, reported)))
