-- A new key in a leaf, among the nodes of all leaves.
use Rattle.std.proofs.Common.{◌≡◌, ◌⊎◌, inl, inr, ◌∙◌, refl, sym, ap, subst, Bool, true, false, ◌||◌, ℕ, zero, suc, ◌≤◌, ◌+◌, List, [], ◌∷◌, ◌++◌, length, arith}
use mathlib.Core.Bool.{true≢false}
use Rattle.std.specs.declared.cmp.Ordering.{Ordering}
use Rattle.std.specs.declared.cmp.Ordering.TheVariants.{Less, Equal, Greater}
use Rattle.std.specs.Ordering.{is_lt}
use Rattle.std.specs.Prelude.{Option, Some, None}
use Rattle.std.specs.List.{insert}
use Rattle.std.specs.Str.{bytes_eq}
use Rattle.std.proofs.Math.Bool.{or-true}
use Rattle.std.proofs.lemmas.List.{length-append}
use Rattle.std.proofs.lemmas.List.Edits.{length-insert}
use Rattle.tsc_time.specs.Time.{zero_time}
use Rattle.tsc_time.specs.ValueView.{ValueView, unowned}
use Rattle.tsc_span.specs.Span.{KeyBytes, key_cmp, Cut, before, after}
use Rattle.tsc_page_model.specs.PageView.{is_in}
use Rattle.tsc_page_nodes.specs.Nodes.{Node, node_keys, IsSorted, FitsAt, IsNewKey, IsSplitAt, with_new, node_in_gap, gap_value}
use Rattle.tsc_page_tree.specs.Leaves.{start_of, HasNode}
use Rattle.tsc_span.proofs.CutOrder.{Lt, Le, Lt-not_Le, Le-chain, Le-from_Lt, after-before, below_last, before-after}
use Rattle.tsc_page_nodes.proofs.Cuts.{lowest}
use Rattle.tsc_page_nodes.proofs.Edits.{FitsAt-absent}
use Rattle.tsc_page_nodes.proofs.NewKeys.{with_new_splits}
use Rattle.tsc_page_tree.proofs.Joins.{sorted_right, below_next}
use Rattle.std.proofs.lemmas.Bool.{cases_Bool}
use Rattle.std.proofs.lemmas.Slice.Eq.{bytes_eq-Decides}

-- a key below where nodes begin is wholly below it
pub wholly_below : (k : KeyBytes) (ys : List Node) → Lt (before k) (start_of ys) →
    Lt (after k) (start_of ys)
wholly_below k [] h = below_last k
wholly_below k (m ∷ ys) h = after-before k m.key (by (key_cmp k m.key) h)
  where
    by : (o : Ordering) → is_lt o ≡ true → o ≡ Less
    by Less e = refl
    by Equal e = absurd (true≢false (sym e))
    by Greater e = absurd (true≢false (sym e))

-- a place after as many nodes more
abbrev pub shift : List Node → ℕ → ℕ
shift [] i = i
shift (x ∷ xs) i = suc (shift xs i)

pub shift_bound : (xs ys : List Node) (i : ℕ) → i ≤ length ys → shift xs i ≤ length (xs ++ ys)
shift_bound [] ys i h = h
shift_bound (x ∷ xs) ys i h = let rest = shift_bound xs ys i h in omega arith

pub insert_left : (xs ys : List Node) (i : ℕ) (n : Node) → i ≤ length xs →
    insert (xs ++ ys) i n ≡ insert xs i n ++ ys
insert_left xs ys zero n h = refl
insert_left [] ys (suc i) n h = absurd (omega arith)
insert_left (x ∷ xs) ys (suc i) n h =
    ap (λ (ns : List Node). x ∷ ns) (insert_left xs ys i n (omega arith))

pub insert_right : (xs ys : List Node) (i : ℕ) (n : Node) →
    insert (xs ++ ys) (shift xs i) n ≡ xs ++ insert ys i n
insert_right [] ys i n = refl
insert_right (x ∷ xs) ys i n = ap (λ (ns : List Node). x ∷ ns) (insert_right xs ys i n)

pub gap_value_left : (v : ValueView) (xs ys : List Node) (i : ℕ) → i ≤ length xs →
    gap_value v (xs ++ ys) i ≡ gap_value v xs i
gap_value_left v xs ys zero h = refl
gap_value_left v [] ys (suc i) h = absurd (omega arith)
gap_value_left v (x ∷ xs) ys (suc i) h = gap_value_left x.gap xs ys i (omega arith)

pub gap_value_right : (v w : ValueView) (xs : List Node) (n : Node) (ys : List Node) (i : ℕ) →
    gap_value v (xs ++ n ∷ ys) (shift xs (suc i)) ≡ gap_value w (n ∷ ys) (suc i)
gap_value_right v w [] n ys i = refl
gap_value_right v w (x ∷ xs) n ys i = gap_value_right x.gap w xs n ys i

pub fits_left : (k : KeyBytes) (low : Cut) (xs ys : List Node) (i : ℕ) → i ≤ length xs →
    Lt (after k) (start_of ys) → FitsAt k low xs i → FitsAt k low (xs ++ ys) i
fits_left k low [] ys zero h high fits = (fits.0, high)
fits_left k low (x ∷ xs) ys zero h high fits = fits
fits_left k low [] ys (suc i) h high fits = absurd (omega arith)
fits_left k low (x ∷ xs) ys (suc i) h high fits =
    fits_left k (after x.key) xs ys i (omega arith) high fits

pub fits_right : (k : KeyBytes) (low mid : Cut) (xs : List Node) (n : Node) (ys : List Node) (i : ℕ)
    → FitsAt k mid (n ∷ ys) (suc i) → FitsAt k low (xs ++ n ∷ ys) (shift xs (suc i))
fits_right k low mid [] n ys i fits = fits
fits_right k low mid (x ∷ xs) n ys i fits = fits_right k (after x.key) mid xs n ys i fits

-- What a leaf's place for a key is among all nodes.
pub record IsPlacedAt (k : KeyBytes) (xs leaf ys : List Node) (i : ℕ) : Type 0 where
  pub fits : FitsAt k (before []) (xs ++ (leaf ++ ys)) (shift xs i)
  pub bound : shift xs i ≤ length (xs ++ (leaf ++ ys))
  pub nodes : with_new (xs ++ (leaf ++ ys)) (Some (shift xs i, k)) ≡ xs ++
      (with_new leaf (Some (i, k)) ++ ys)

at_first : (k : KeyBytes) (leaf ys : List Node) (i : ℕ) → i ≤ length leaf →
    Lt (after k) (start_of ys) → FitsAt k (before []) leaf i → IsPlacedAt k [] leaf ys i
at_first k leaf ys i h high fits = record {
  fits = fits_left k (before []) leaf ys i h high fits;
  bound = omega (arith, length-append leaf ys);
  nodes = ap (λ (v : ValueView). insert (leaf ++ ys) i (node_in_gap k v))
      (gap_value_left (unowned zero_time) leaf ys i h) ∙
      insert_left leaf ys i (node_in_gap k (gap_value (unowned zero_time) leaf i)) h;
}

later_on : (k : KeyBytes) (xs : List Node) (n : Node) (ns ys : List Node) (i : ℕ) →
    suc i ≤ length (n ∷ ns) → Lt (after k) (start_of ys) → FitsAt k (before []) (n ∷ ns) (suc i) →
    IsPlacedAt k xs (n ∷ ns) ys (suc i)
later_on k xs n ns ys i h high fits = record {
  fits = fits_right k (before []) (before []) xs n (ns ++ ys) i
      (fits_left k (before []) (n ∷ ns) ys (suc i) h high fits);
  bound = shift_bound xs (n ∷ (ns ++ ys)) (suc i) (omega (arith, h, length-append ns ys));
  nodes =
      ap (λ (v : ValueView). insert (xs ++ n ∷ (ns ++ ys)) (shift xs (suc i)) (node_in_gap k v))
      (gap_value_right (unowned zero_time) (unowned zero_time) xs n (ns ++ ys) i ∙
      gap_value_left (unowned zero_time) (n ∷ ns) ys (suc i) h)
      ∙ insert_right xs (n ∷ (ns ++ ys)) (suc i) node
      ∙ ap (λ (ms : List Node). xs ++ ms) (insert_left (n ∷ ns) ys (suc i) node h);
}
  where
    node : Node
    node = node_in_gap k (gap_value (unowned zero_time) (n ∷ ns) (suc i))

pub placed : (k : KeyBytes) (xs leaf ys : List Node) (i : ℕ) → 1 ≤ length leaf →
    (xs ≡ []) ⊎ Le (start_of leaf) (before k) → Lt (after k) (start_of ys) → i ≤ length leaf →
    FitsAt k (before []) leaf i → IsPlacedAt k xs leaf ys i
placed k xs leaf ys i some (inl none) high h fits =
    subst (λ (ns : List Node). IsPlacedAt k ns leaf ys i) (sym none)
    (at_first k leaf ys i h high fits)
placed k xs [] ys i some (inr low) high h fits = absurd (omega (arith, some))
placed k xs (n ∷ ns) ys zero some (inr low) high h fits =
    absurd (Lt-not_Le (after k) (before n.key) fits.1
    (Le-chain (before n.key) (before k) (after k) low
    (Le-from_Lt (before k) (after k) (before-after k))))
placed k xs (n ∷ ns) ys (suc i) some (inr low) high h fits = later_on k xs n ns ys i h high fits

-- keys of one of three lists
pub is_in-append : (k : KeyBytes) (xs ys : List Node) →
    is_in k (node_keys (xs ++ ys)) ≡ (is_in k (node_keys xs) || is_in k (node_keys ys))
is_in-append k [] ys = refl
is_in-append k (x ∷ xs) ys = ap (λ b. bytes_eq k x.key || b) (is_in-append k xs ys) ∙
    grouped (bytes_eq k x.key) (is_in k (node_keys xs)) (is_in k (node_keys ys))
  where
    grouped : (a b c : Bool) → (a || (b || c)) ≡ ((a || b) || c)
    grouped true b c = refl
    grouped false b c = refl

pub known_within : (k : KeyBytes) (xs leaf ys : List Node) → is_in k (node_keys leaf) ≡ true →
    is_in k (node_keys (xs ++ (leaf ++ ys))) ≡ true
known_within k xs leaf ys h = is_in-append k xs (leaf ++ ys) ∙
    ap (λ b. is_in k (node_keys xs) || b) (is_in-append k leaf ys ∙ rw h refl) ∙
    or-true (is_in k (node_keys xs))

-- a key that is not below where nodes begin is none of those before them
absent_before : (k : KeyBytes) (xs zs : List Node) → IsSorted (xs ++ zs) →
    Le (start_of zs) (before k) → is_in k (node_keys xs) ≡ false
absent_before k [] zs sorted low = refl
absent_before k (x ∷ xs) zs sorted low = elim (cases_Bool (bytes_eq k x.key)) [
  | inl e ↦ absurd (Lt-not_Le (after x.key) (start_of zs) (below_next x xs zs sorted)
      (Le-chain (start_of zs) (before x.key) (after x.key)
      (subst (λ (q : KeyBytes). Le (start_of zs) (before q)) ((bytes_eq-Decides k x.key).0 e)
      low) (Le-from_Lt (before x.key) (after x.key) (before-after x.key))))
  | inr e ↦ rw e (absent_before k xs zs sorted.1 low)
]

-- and one that lies below where nodes begin is none of theirs
absent_behind : (k : KeyBytes) (ys : List Node) → IsSorted ys → Lt (after k) (start_of ys) →
    is_in k (node_keys ys) ≡ false
absent_behind k ys sorted high = FitsAt-absent k ys 0 (before []) sorted (lowest (before k), high)

-- whether a key has a node is told by the subtree in which it falls
pub known_in_subtree : (k : KeyBytes) (xs subtree ys : List Node) →
    IsSorted (xs ++ (subtree ++ ys)) →
    1 ≤ length subtree → (xs ≡ []) ⊎ Le (start_of subtree) (before k) → Lt (after k) (start_of ys)
    → is_in k (node_keys (xs ++ (subtree ++ ys))) ≡ is_in k (node_keys subtree)
known_in_subtree k xs subtree ys sorted some low high =
    is_in-append k xs (subtree ++ ys)
    ∙ ap (λ b. b || is_in k (node_keys (subtree ++ ys))) none
    ∙ is_in-append k subtree ys
    ∙ ap (λ b. is_in k (node_keys subtree) || b)
    (absent_behind k ys (sorted_right subtree ys (sorted_right xs (subtree ++ ys) sorted)) high)
    ∙ or_false (is_in k (node_keys subtree))
  where
    or_false : (b : Bool) → (b || false) ≡ b
    or_false true = refl
    or_false false = refl

    start : (subtree : List Node) → 1 ≤ length subtree → start_of (subtree ++ ys) ≡ start_of subtree
    start [] h = absurd (omega arith)
    start (n ∷ ns) h = refl

    none : is_in k (node_keys xs) ≡ false
    none = elim low [
      | inl e ↦ ap (λ (ns : List Node). is_in k (node_keys ns)) e
      | inr l ↦ absent_before k xs (subtree ++ ys) sorted
          (subst (λ (c : Cut). Le c (before k)) (sym (start subtree some)) l)
    ]

-- a node made in a subtree is one among all nodes
pub made_in_subtree : (k : KeyBytes) (xs subtree new ys : List Node) → 1 ≤ length subtree →
    (xs ≡ []) ⊎ Le (start_of subtree) (before k) → Lt (after k) (start_of ys)
    → HasNode subtree new k → HasNode (xs ++ (subtree ++ ys)) (xs ++ (new ++ ys)) k
made_in_subtree k xs subtree new ys some low high made = by made.found made.at made.nodes
  where
    by : (f : Option (ℕ × KeyBytes)) → IsNewKey subtree (Some k) f → new ≡ with_new subtree f →
        HasNode (xs ++ (subtree ++ ys)) (xs ++ (new ++ ys)) k
    by None at is = record {
      found = None;
      at = known_within k xs subtree ys at;
      nodes = ap (λ (ns : List Node). xs ++ (ns ++ ys)) is;
    }
    by (Some f) at is =
        let there = placed k xs subtree ys f.0 some low high at.2 at.1 in
        let same : with_new subtree (Some f) ≡ with_new subtree (Some (f.0, k)) =
        ap (λ (q : KeyBytes). with_new subtree (Some (f.0, q))) at.0 in
        record {
          found = Some (shift xs f.0, k);
          at = (refl, there.fits, there.bound);
          nodes = ap (λ (ns : List Node). xs ++ (ns ++ ys)) (is ∙ same) ∙ sym there.nodes;
        }

-- nodes with that of a key answer as before, and are one more at the most
pub has_node_splits : (old new : List Node) (k : KeyBytes) → IsSorted old → HasNode old new k →
    IsSplitAt old new (k ∷ [])
has_node_splits old new k sorted made =
    subst (λ (ns : List Node). IsSplitAt old ns (k ∷ [])) (sym made.nodes)
    (with_new_splits old (Some k) made.found sorted made.at)

pub has_node-length : (old new : List Node) (k : KeyBytes) → HasNode old new k →
    (length old ≤ length new) × (length new ≤ length old + 1)
has_node-length old new k made = by made.found made.at made.nodes
  where
    by : (f : Option (ℕ × KeyBytes)) → IsNewKey old (Some k) f → new ≡ with_new old f →
        (length old ≤ length new) × (length new ≤ length old + 1)
    by None at is = (omega (arith, ap length is), omega (arith, ap length is))
    by (Some f) at is = let one = length-insert old f.0
        (node_in_gap f.1 (gap_value (unowned zero_time) old f.0)) at.2
        in (omega (arith, ap length is, one), omega (arith, ap length is, one))

-- where only one of two keys was there
pub has_one : (old new : List Node) (k : KeyBytes) (h g : Option (ℕ × KeyBytes)) →
    IsNewKey old (Some k) h → IsNewKey old None g → new ≡ with_new (with_new old g) h →
    HasNode old new k
has_one old new k h None at none is = record { found = h; at = at; nodes = is }
has_one old new k h (Some f) at none is = absurd none

pub has_first : (k : KeyBytes) → HasNode [] (node_in_gap k (unowned zero_time) ∷ []) k
has_first k = record {
  found = Some (0, k);
  at = (refl, (lowest (before k), below_last k), omega arith);
  nodes = refl;
}
