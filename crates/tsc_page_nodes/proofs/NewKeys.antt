-- What nodes for new keys make of the list.
use Rattle.std.proofs.Common.{◌≡◌, inl, inr, ◌∙◌, refl, sym, ap, subst, Bool, true, false, cond, ◌||◌, ◌+◌, ℕ, List, [], ◌∷◌, ◌++◌, length, arith}
use mathlib.Core.Bool.{true≢false}
use Rattle.std.specs.Prelude.{Option, Some, None, not, is_some}
use Rattle.std.specs.Option.{option_to_list}
use Rattle.std.specs.Str.{bytes_eq}
use Rattle.std.proofs.Math.Bool.{or-true}
use Rattle.std.proofs.lemmas.Slice.Eq.{bytes_eq-Decides}
use Rattle.std.proofs.lemmas.List.Folds.{list_any-append}
use Rattle.std.proofs.lemmas.List.Edits.{length-insert}
use Rattle.tsc_time.specs.Time.{zero_time}
use Rattle.tsc_time.specs.ValueView.{unowned}
use Rattle.std.proofs.lemmas.Bool.{cases_Bool}
use Rattle.tsc_span.specs.Span.{KeyBytes, before, after, is_below}
use Rattle.tsc_page_model.specs.PageView.{is_in, is_new_among}
use Rattle.tsc_page_nodes.specs.Nodes.{Node, node_keys, IsSorted, FitsAt, FitsIn, IsNewKey, IsInOrder, IsSplitAt, MakesNodes, new_count, with_new, node_in_gap, gap_value}
use Rattle.tsc_page_nodes.proofs.Splits.{split_answers}
use Rattle.tsc_page_nodes.proofs.Edits.{insert-sorted, insert-keys, FitsAt-below, FitsAt-absent}

no_more : (b : Bool) → b ≡ (b || false)
no_more true = refl
no_more false = refl

nothing_new : (ns : List Node) → IsSorted ns → IsSplitAt ns ns []
nothing_new ns sorted = record {
  sorted = sorted;
  keys = λ q. no_more (is_in q (node_keys ns));
  answers = λ s. refl;
}

-- a key that has a node already
known_key : (q k : KeyBytes) (ns : List Node) → is_in k (node_keys ns) ≡ true →
    is_in q (node_keys ns) ≡ (is_in q (node_keys ns) || is_in q (k ∷ []))
known_key q k ns h = elim (cases_Bool (bytes_eq q k)) [
  | inl e ↦ let there : is_in q (node_keys ns) ≡ true =
      ap (λ (x : KeyBytes). is_in x (node_keys ns)) ((bytes_eq-Decides q k).0 e) ∙
      h in rw there refl
  | inr e ↦ rw e (no_more (is_in q (node_keys ns)))
]

one_more : (a b : Bool) → (a || b) ≡ (b || (a || false))
one_more true true = refl
one_more true false = refl
one_more false true = refl
one_more false false = refl

-- a new key's node splits a gap, and changes no answer
pub with_new_splits : (ns : List Node) (o : Option KeyBytes) (f : Option (ℕ × KeyBytes)) →
    IsSorted ns → IsNewKey ns o f → IsSplitAt ns (with_new ns f) (option_to_list o)
with_new_splits ns None None sorted new = nothing_new ns sorted
with_new_splits ns None (Some f) sorted new = absurd new
with_new_splits ns (Some k) None sorted new =
    record { sorted = sorted; keys = λ q. known_key q k ns new; answers = λ s. refl }
with_new_splits ns (Some k) (Some f) sorted new = record {
  sorted = insert-sorted n ns f.0 (before []) sorted fits;
  keys = λ q. insert-keys q n ns f.0 ∙ one_more (bytes_eq q f.1) (is_in q (node_keys ns)) ∙
      ap (λ (x : KeyBytes). is_in q (node_keys ns) || is_in q (x ∷ [])) new.0;
  answers = λ s. sym (split_answers ns f.0 f.1 fits s);
}
  where
    n : Node
    n = node_in_gap f.1 (gap_value (unowned zero_time) ns f.0)

    fits : FitsAt f.1 (before []) ns f.0
    fits = subst (λ (x : KeyBytes). FitsAt x (before []) ns f.0) (sym new.0) new.1

pub new_fits : (ns : List Node) (o : Option KeyBytes) (f : Option (ℕ × KeyBytes)) →
    IsNewKey ns o f → FitsIn ns f
new_fits ns o None new = tt
new_fits ns None (Some f) new = absurd new
new_fits ns (Some k) (Some f) new =
    (subst (λ (x : KeyBytes). FitsAt x (before []) ns f.0) (sym new.0) new.1, new.2)

-- the smaller of two keys is as new as before once the greater has a node
pub still_new : (ns : List Node) (o p : Option KeyBytes) (f g : Option (ℕ × KeyBytes)) →
    IsSorted ns → IsInOrder o p → IsNewKey ns o f → IsNewKey ns p g → IsNewKey (with_new ns g) o f
still_new ns o p f None sorted up new other = new
still_new ns o None f (Some g) sorted up new other = absurd other
still_new ns None (Some m) None (Some g) sorted up new other = tt
still_new ns None (Some m) (Some f) (Some g) sorted up new other = absurd new
still_new ns (Some k) (Some m) None (Some g) sorted up new other =
    let n : Node = node_in_gap g.1 (gap_value (unowned zero_time) ns g.0) in
    insert-keys k n ns g.0 ∙ rw new (or-true (bytes_eq k g.1))
still_new ns (Some k) (Some m) (Some f) (Some g) sorted up new other =
    let v = gap_value (unowned zero_time) ns g.0 in
    let in_order = subst (λ (x : KeyBytes). is_below (after k) (before x) ≡ true)
    (sym other.0) up in
    let fits = subst (λ (x : KeyBytes). FitsAt x (before []) ns g.0) (sym other.0) other.1 in
    let longer = length-insert ns g.0 (node_in_gap g.1 v) other.2 in (
      new.0,
      FitsAt-below k g.1 v (before []) ns f.0 g.0 in_order sorted new.1 fits,
      omega (arith, new.2, longer),
    )

-- for a key with a node none is made
pub known_not_new : (ns : List Node) (o : Option KeyBytes) (f : Option (ℕ × KeyBytes)) →
    IsSorted ns → IsNewKey ns o f → is_new_among (node_keys ns) o ≡ false → is_some f ≡ false
known_not_new ns o None sorted new known = refl
known_not_new ns None (Some f) sorted new known = absurd new
known_not_new ns (Some k) (Some f) sorted new known =
    absurd (true≢false (sym (ap not (FitsAt-absent k ns f.0 (before []) sorted new.1)) ∙ known))

joined : (a b c : Bool) → ((a || b) || c) ≡ (a || (c || b))
joined true b c = refl
joined false true true = refl
joined false true false = refl
joined false false true = refl
joined false false false = refl

-- one split after another
pub splits_chain : (a b c : List Node) (ks ms : List KeyBytes) → IsSplitAt a b ks →
    IsSplitAt b c ms → IsSplitAt a c (ms ++ ks)
splits_chain a b c ks ms first then = record {
  sorted = then.sorted;
  keys = λ q. then.keys q ∙ ap (λ x. x || is_in q ms) (first.keys q) ∙
      joined (is_in q (node_keys a)) (is_in q ks) (is_in q ms) ∙
      ap (λ x. is_in q (node_keys a) || x) (sym (list_any-append (bytes_eq q) ms ks));
  answers = λ s. then.answers s ∙ first.answers s;
}

-- nodes made of two keys are in order
pub makes_sorted : (old mid : List Node) (o p : Option KeyBytes) → IsSorted old → IsInOrder o p →
    MakesNodes old mid o p → IsSorted mid
makes_sorted old mid o p sorted order made =
    let once = with_new_splits old p made.upper sorted made.has_upper in
    let twice = with_new_splits (with_new old made.upper) o made.lower once.sorted
    (still_new old o p made.lower made.upper sorted order made.has_lower made.has_upper) in
    subst IsSorted (sym made.nodes) twice.sorted

-- how many nodes there are with a new one
pub with_new-length : (ns : List Node) (g : Option (ℕ × KeyBytes)) → FitsIn ns g →
    length (with_new ns g) ≡ length ns + cond (is_some g) 1 0
with_new-length ns None fits = omega arith
with_new-length ns (Some f) fits =
    length-insert ns f.0 (node_in_gap f.1 (gap_value (unowned zero_time) ns f.0)) fits.1

-- and with two of them
pub made_length : (ns : List Node) (o q : Option KeyBytes) (h g : Option (ℕ × KeyBytes)) →
    IsSorted ns → IsInOrder o q → IsNewKey ns o h → IsNewKey ns q g →
    length (with_new (with_new ns g) h) ≡ length ns + new_count h g
made_length ns o q h g sorted order has_lower has_upper =
    let one = with_new-length ns g (new_fits ns q g has_upper) in
    let two = with_new-length (with_new ns g) h
    (new_fits (with_new ns g) o h (still_new ns o q h g sorted order has_lower has_upper)) in
    omega (arith, one, two)

-- what is needed to make them
pub made_ready : (ns : List Node) (o q : Option KeyBytes) (h g : Option (ℕ × KeyBytes)) →
    IsSorted ns → IsInOrder o q → IsNewKey ns o h → IsNewKey ns q g →
    IsSorted (with_new (with_new ns g) h) × FitsIn (with_new ns g) h
made_ready ns o q h g sorted order has_lower has_upper =
    let once = with_new_splits ns q g sorted has_upper in
    let still = still_new ns o q h g sorted order has_lower has_upper in (
      (with_new_splits (with_new ns g) o h once.sorted still).sorted,
      new_fits (with_new ns g) o h still,
    )

-- where there are no new keys none comes in
pub none_in : (ns : List Node) (h g : Option (ℕ × KeyBytes)) → new_count h g ≡ 0 →
    with_new (with_new ns g) h ≡ ns
none_in ns None None none = refl
none_in ns (Some h) g none = absurd (omega (arith, none))
none_in ns None (Some g) none = absurd (omega (arith, none))
