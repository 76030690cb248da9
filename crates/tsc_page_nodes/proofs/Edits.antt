-- What a new node and a raised value make of the list of nodes.
use Rattle.std.proofs.Common.{◌≡◌, inl, inr, ◌∙◌, refl, sym, ap, subst, Bool, true, false, ◌||◌, ℕ, zero, suc, ◌≤◌, List, [], ◌∷◌, length, get_or, ◌-◌, arith}
use Rattle.std.specs.List.{insert}
use Rattle.std.specs.Str.{bytes_eq}
use Rattle.std.proofs.lemmas.Slice.Eq.{bytes_eq-Decides}
use Rattle.tsc_time.specs.ValueView.{ValueView}
use Rattle.std.proofs.lemmas.Bool.{cases_Bool}
use Rattle.tsc_span.specs.Span.{KeyBytes, Cut, before, after, SpanView}
use Rattle.tsc_page_model.specs.PageView.{is_in}
use Rattle.tsc_page_nodes.specs.Nodes.{Node, next_cut, node_stretches, node_keys, IsSorted, FitsAt, node_in_gap, gap_value, raise_nodes}
use Rattle.tsc_page_nodes.proofs.Cuts.{first_low, rising_nodes, cuts_of_key}
use Rattle.tsc_span.proofs.CutOrder.{Lt, Le, Lt-from_Le_sides, before-after, Lt-chain, Le-chain, Le-from_Lt, Lt-not_Le}

-- raising keeps the keys
pub raise_nodes-keys : (m : SpanView) (v : ValueView) (ns : List Node) →
    node_keys (raise_nodes m v ns) ≡ node_keys ns
raise_nodes-keys m v [] = refl
raise_nodes-keys m v (n ∷ ns) = ap (λ ks. n.key ∷ ks) (raise_nodes-keys m v ns)

pub raise_nodes-length : (m : SpanView) (v : ValueView) (ns : List Node) →
    length (raise_nodes m v ns) ≡ length ns
raise_nodes-length m v [] = refl
raise_nodes-length m v (n ∷ ns) = ap suc (raise_nodes-length m v ns)

-- and their order
pub raise_nodes-sorted : (m : SpanView) (v : ValueView) (ns : List Node) → IsSorted ns →
    IsSorted (raise_nodes m v ns)
raise_nodes-sorted m v [] sorted = tt
raise_nodes-sorted m v (n ∷ []) sorted = sorted
raise_nodes-sorted m v (n ∷ o ∷ ns) sorted = (sorted.0, raise_nodes-sorted m v (o ∷ ns) sorted.1)

-- a new node in its place keeps the order
pub insert-sorted : (n : Node) (ns : List Node) (i : ℕ) (low : Cut) → IsSorted ns →
    FitsAt n.key low ns i → IsSorted (insert ns i n)
insert-sorted n ns zero low sorted fits = (fits.1, sorted)
insert-sorted n [] (suc i) low sorted fits = absurd fits
insert-sorted n (o ∷ ns) (suc i) low sorted fits =
    (first ns i fits sorted.0, insert-sorted n ns i (after o.key) sorted.1 fits)
  where
    first : (os : List Node) (j : ℕ) → FitsAt n.key (after o.key) os j →
        Lt (after o.key) (next_cut (node_stretches os)) →
        Lt (after o.key) (next_cut (node_stretches (insert os j n)))
    first os zero fits up = Lt-from_Le_sides o.key n.key fits.0
    first [] (suc j) fits up = absurd fits
    first (p ∷ os) (suc j) fits up = up

-- a key that fits after a node is above it
pub past : (q : KeyBytes) (n : Node) (ns : List Node) (i : ℕ) → IsSorted (n ∷ ns) →
    FitsAt q (after n.key) ns i → Le (after n.key) (before q)
past q n ns zero sorted fits = fits.0
past q n [] (suc i) sorted fits = absurd fits
past q n (o ∷ os) (suc i) sorted fits =
    Le-chain (after n.key) (after o.key) (before q)
    (Le-from_Lt (after n.key) (after o.key)
    (Lt-chain (after n.key) (before o.key) (after o.key) sorted.0 (before-after o.key)))
    (past q o os i sorted.1 fits)

-- of two new keys the smaller one still fits in its place once the greater has a node, and the
-- greater one's place was no lower
pub FitsAt-below : (k m : KeyBytes) (v : ValueView) (low : Cut) (ns : List Node) (i j : ℕ) →
    Lt (after k) (before m) → IsSorted ns → FitsAt k low ns i → FitsAt m low ns j →
    FitsAt k low (insert ns j (node_in_gap m v)) i
FitsAt-below k m v low ns zero zero up sorted fits other = (fits.0, up)
FitsAt-below k m v low [] zero (suc j) up sorted fits other = absurd other
FitsAt-below k m v low (n ∷ ns) zero (suc j) up sorted fits other = fits
FitsAt-below k m v low [] (suc i) j up sorted fits other = absurd fits
FitsAt-below k m v low (n ∷ ns) (suc i) (suc j) up sorted fits other =
    FitsAt-below k m v (after n.key) ns i j up sorted.1 fits other
FitsAt-below k m v low (n ∷ ns) (suc i) zero up sorted fits other =
    absurd (Lt-not_Le (after m) (before n.key) other.1
    (Le-chain (before n.key) (after k) (after m)
    (Le-chain (before n.key) (after n.key) (after k)
    (Le-from_Lt (before n.key) (after n.key) (before-after n.key))
    (Le-chain (after n.key) (before k) (after k) (past k n ns i sorted fits)
    (Le-from_Lt (before k) (after k) (before-after k))))
    (Le-chain (after k) (before m) (after m) (Le-from_Lt (after k) (before m) up)
    (Le-from_Lt (before m) (after m) (before-after m)))))

-- a key that fits between nodes is none of theirs
pub FitsAt-absent : (k : KeyBytes) (ns : List Node) (i : ℕ) (low : Cut) → IsSorted ns →
    FitsAt k low ns i → is_in k (node_keys ns) ≡ false
FitsAt-absent k ns zero low sorted fits = elim (cases_Bool (is_in k (node_keys ns))) [
  | inl h ↦ absurd (Lt-not_Le (after k) (next_cut (node_stretches ns)) fits.1
      (Le-chain (next_cut (node_stretches ns)) (before k) (after k)
      (first_low (before k) (node_stretches ns) (rising_nodes ns sorted) (cuts_of_key k ns h).0)
      (Le-from_Lt (before k) (after k) (before-after k))))
  | inr h ↦ h
]
FitsAt-absent k [] (suc i) low sorted fits = absurd fits
FitsAt-absent k (n ∷ ns) (suc i) low sorted fits =
    rw (other, FitsAt-absent k ns i (after n.key) sorted.1 fits) refl
  where
    other : bytes_eq k n.key ≡ false
    other = elim (cases_Bool (bytes_eq k n.key)) [
      | inl h ↦ let e : k ≡ n.key =
          (bytes_eq-Decides k n.key).0 h in absurd
          (Lt-not_Le (before k) (after k) (before-after k)
          (subst (λ (q : KeyBytes). Le (after q) (before k)) (sym e) (past k n ns i sorted fits)))
      | inr h ↦ h
    ]

-- how a new node's key joins the others
pub insert-keys : (q : KeyBytes) (n : Node) (ns : List Node) (i : ℕ) →
    is_in q (node_keys (insert ns i n)) ≡ (bytes_eq q n.key || is_in q (node_keys ns))
insert-keys q n ns zero = refl
insert-keys q n [] (suc i) = refl
insert-keys q n (o ∷ ns) (suc i) = ap (λ b. bytes_eq q o.key || b) (insert-keys q n ns i) ∙
    swapped (bytes_eq q o.key) (bytes_eq q n.key) (is_in q (node_keys ns))
  where
    swapped : (a b c : Bool) → (a || (b || c)) ≡ (b || (a || c))
    swapped true true c = refl
    swapped true false c = refl
    swapped false b c = refl

-- the gap before a place is that of the node before it
pub gap_value-at : (v : ValueView) (ns : List Node) (i : ℕ) (d : Node) → 1 ≤ i → i ≤ length ns →
    gap_value v ns i ≡ (get_or ns (i - 1) d).gap
gap_value-at v ns zero d h g = absurd (omega arith)
gap_value-at v [] (suc i) d h g = absurd (omega arith)
gap_value-at v (n ∷ ns) (suc i) d h g = let e : suc i - 1 ≡ i =
    omega arith in rw e (there n ns i (omega arith))
  where
    there : (o : Node) (os : List Node) (j : ℕ) → j ≤ length os →
        gap_value o.gap os j ≡ (get_or (o ∷ os) j d).gap
    there o os zero l = refl
    there o [] (suc j) l = absurd (omega arith)
    there o (p ∷ os) (suc j) l = there p os j (omega arith)

-- a count with none below it
pub first_number : (n : ℕ) → (1 ≤ n → ⊥) → 0 ≡ n
first_number zero h = refl
first_number (suc n) h = absurd (h (omega arith))
