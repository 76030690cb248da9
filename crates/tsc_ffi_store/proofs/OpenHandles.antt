-- What handles name, as those that are open are looked up, changed, left out and given.
use Rattle.std.proofs.Common.{◌≡◌, ◌≢◌, ◌⊎◌, ◌∙◌, inl, inr, refl, sym, ap, subst, Bool, true, false}
use Rattle.std.proofs.Common.{ℕ, zero, suc, ◌+◌, ◌<◌, ◌≤◌, List, [], ◌∷◌, ◌++◌, length, get_or, set, arith}
use Rattle.std.specs.Prelude.{◌==◌, Some, None, Err, slice_get, slice_set, if◌then◌else◌}
use Rattle.std.specs.List.{All, remove}
use Rattle.std.specs.List.Sorted.{IsBinarySearchResult}
use Rattle.std.specs.Ordering.{nat_cmp}
use Rattle.std.proofs.lemmas.List.Sorted.{searched}
use Rattle.std.proofs.lemmas.Bool.Decides.{nat_tests}
use Rattle.std.proofs.lemmas.List.{length_push, length-set, get_or-set_same, get_or-set_other, same_lists, get_or_default, get_or_append_left}
use Rattle.std.proofs.lemmas.List.Edits.{length-remove, get_or-remove_below, get_or-remove_above}
use Rattle.std.proofs.lemmas.List.Elements.{All-push, All-get_or, All-from_get_or}
use Rattle.std.proofs.lemmas.List.Quantifiers.{all_pairs_remove, all_pairs_push}
use Rattle.std.proofs.lemmas.Option.{slice_get-get_or, slice_get_past}
use Rattle.std.proofs.Math.Seq.{get_or-append_seam}
use Rattle.tsc_ffi_store.specs.declared.store.Slot.{Slot}
use Rattle.tsc_ffi_store.specs.declared.store.Slot.TheVariants.{Closed}
use Rattle.tsc_ffi_store.specs.OpenHandles.{names, named_by, Rises, AreOpen, StandsThere, IsNotOpen}

-- ---- one number or another

same : (a b : ℕ) → a ≡ b → (a == b) ≡ true
same a b is = grind (arith, nat_tests)

apart : (a b : ℕ) → a ≢ b → (a == b) ≡ false
apart a b ne = grind (arith, nat_tests)

pub same_or_not : (a b : ℕ) → (a ≡ b) ⊎ (a ≢ b)
same_or_not a b = by_test (a == b) refl
  where
    by_test : (t : Bool) → (a == b) ≡ t → (a ≡ b) ⊎ (a ≢ b)
    by_test true is = inl (grind (arith, nat_tests))
    by_test false is = inr (grind (arith, nat_tests))

before_or_past : (a b : ℕ) → (a < b) ⊎ (b ≤ a)
before_or_past zero zero = inr (omega arith)
before_or_past zero (suc b) = inl (omega arith)
before_or_past (suc a) zero = inr (omega arith)
before_or_past (suc a) (suc b) = elim (before_or_past a b)
    [ inl h ↦ inl (omega (arith, h)) | inr h ↦ inr (omega (arith, h)) ]

-- ---- what a handle names

here : (h : ℕ) (hs : List ℕ) (s : Slot) (ss : List Slot) (k : ℕ) → h ≡ k →
    names (h ∷ hs) (s ∷ ss) k ≡ s
here h hs s ss k is = ap (λ (b : Bool). if b then s else names hs ss k) (same h k is)

elsewhere : (h : ℕ) (hs : List ℕ) (s : Slot) (ss : List Slot) (k : ℕ) → h ≢ k →
    names (h ∷ hs) (s ∷ ss) k ≡ names hs ss k
elsewhere h hs s ss k ne = ap (λ (b : Bool). if b then s else names hs ss k) (apart h k ne)

tail_rises : (h : ℕ) (hs : List ℕ) → Rises (h ∷ hs) → Rises hs
tail_rises h hs up = λ i j d lt within. up (suc i) (suc j) d (omega (arith, lt))
    (omega (arith, within))

first_below : (h : ℕ) (hs : List ℕ) → Rises (h ∷ hs) → (k d : ℕ) → k < length hs →
    h < get_or hs k d
first_below h hs up k d within = up 0 (suc k) d (omega arith) (omega (arith, within))

-- a handle that is none of those that are open names nothing
pub names_nothing : (hs : List ℕ) (ss : List Slot) (k : ℕ) →
    ((i d : ℕ) → i < length hs → get_or hs i d ≢ k) → names hs ss k ≡ Closed
names_nothing [] ss k ne = refl
names_nothing (h ∷ hs) [] k ne = refl
names_nothing (h ∷ hs) (s ∷ ss) k ne =
    elsewhere h hs s ss k (ne 0 0 (omega arith)) ∙
    names_nothing hs ss k (λ i d within. ne (suc i) d (omega (arith, within)))

-- the handle at a place names the slot there
pub names_there : (hs : List ℕ) (ss : List Slot) (p k : ℕ) (e : Slot) → Rises hs →
    length ss ≡ length hs → p < length hs → ((d : ℕ) → get_or hs p d ≡ k) → e ≡ get_or ss p e →
    names hs ss k ≡ e
names_there [] ss p k e up long within is at = absurd (omega (arith, within))
names_there (h ∷ hs) [] p k e up long within is at = absurd (omega (arith, long))
names_there (h ∷ hs) (s ∷ ss) zero k e up long within is at =
    here h hs s ss k (is 0) ∙ sym at
names_there (h ∷ hs) (s ∷ ss) (suc p) k e up long within is at =
    let inner : p < length hs = omega (arith, within) in
    let below : h < get_or hs p 0 = first_below h hs up p 0 inner in
    elsewhere h hs s ss k (λ same_one. omega (arith, below, same_one, is 0)) ∙
    names_there hs ss p k e (tail_rises h hs up) (omega (arith, long)) inner is at

-- another slot at a place is what the handle there names, and all others name what they did
pub changed_there : (hs : List ℕ) (ss : List Slot) (p k : ℕ) (w : Slot) → Rises hs →
    length ss ≡ length hs → p < length hs → ((d : ℕ) → get_or hs p d ≡ k) →
    names hs (set ss p w) k ≡ w
changed_there hs ss p k w up long within is =
    names_there hs (set ss p w) p k w up (length-set ss p w ∙ long) within is
    (sym (get_or-set_same ss p w w (omega (arith, long, within))))

pub others_stay : (hs : List ℕ) (ss : List Slot) (p k j : ℕ) (w : Slot) →
    ((d : ℕ) → get_or hs p d ≡ k) → p < length hs → j ≢ k →
    names hs (set ss p w) j ≡ names hs ss j
others_stay [] ss p k j w is within ne = absurd (omega (arith, within))
others_stay (h ∷ hs) [] p k j w is within ne = refl
others_stay (h ∷ hs) (s ∷ ss) zero k j w is within ne =
    let other : h ≢ j = λ e. ne (sym (sym (is 0) ∙ e)) in
    elsewhere h hs w ss j other ∙ sym (elsewhere h hs s ss j other)
others_stay (h ∷ hs) (s ∷ ss) (suc p) k j w is within ne =
    ap (λ (t : Slot). if h == j then s else t)
    (others_stay hs ss p k j w is (omega (arith, within)) ne)

-- where a slot is closed, its handle may be left out
pub names_as_left_out : (hs : List ℕ) (ss : List Slot) (p j : ℕ) → Rises hs →
    length ss ≡ length hs → p < length hs → Closed ≡ get_or ss p Closed →
    names (remove hs p) (remove ss p) j ≡ names hs ss j
names_as_left_out [] ss p j up long within at = absurd (omega (arith, within))
names_as_left_out (h ∷ hs) [] p j up long within at = absurd (omega (arith, long))
names_as_left_out (h ∷ hs) (s ∷ ss) zero j up long within at = elim (same_or_not h j) [
  | inl is ↦ names_nothing hs ss j (λ i d inner e.
      let below : h < get_or hs i d = first_below h hs up i d inner in
      omega (arith, below, is, e)) ∙ at ∙ sym (here h hs s ss j is)
  | inr ne ↦ sym (elsewhere h hs s ss j ne)
]
names_as_left_out (h ∷ hs) (s ∷ ss) (suc p) j up long within at =
    ap (λ (t : Slot). if h == j then s else t)
    (names_as_left_out hs ss p j (tail_rises h hs up) (omega (arith, long))
    (omega (arith, within)) at)

-- a handle more, above all others
pub names_pushed : (hs : List ℕ) (ss : List Slot) (n : ℕ) (s : Slot) → length ss ≡ length hs →
    All (λ h. h < n) hs → names (hs ++ n ∷ []) (ss ++ s ∷ []) n ≡ s
names_pushed [] [] n s long below = here n [] s [] n refl
names_pushed [] (t ∷ ss) n s long below = absurd (omega (arith, long))
names_pushed (h ∷ hs) [] n s long below = absurd (omega (arith, long))
names_pushed (h ∷ hs) (t ∷ ss) n s long below =
    let lower : h < n = All-get_or (λ k. k < n) (h ∷ hs) 0 h (omega arith) below in
    elsewhere h (hs ++ n ∷ []) t (ss ++ s ∷ []) n (λ e. omega (arith, lower, e)) ∙
    names_pushed hs ss n s (omega (arith, long))
    (All-from_get_or (λ k. k < n) hs 0 (λ i within.
    All-get_or (λ k. k < n) (h ∷ hs) (suc i) 0 (omega (arith, within)) below))

pub names_before : (hs : List ℕ) (ss : List Slot) (n j : ℕ) (s : Slot) →
    length ss ≡ length hs → j ≢ n → names (hs ++ n ∷ []) (ss ++ s ∷ []) j ≡ names hs ss j
names_before [] [] n j s long ne = elsewhere n [] s [] j (λ e. ne (sym e))
names_before [] (t ∷ ss) n j s long ne = absurd (omega (arith, long))
names_before (h ∷ hs) [] n j s long ne = absurd (omega (arith, long))
names_before (h ∷ hs) (t ∷ ss) n j s long ne =
    ap (λ (u : Slot). if h == j then t else u) (names_before hs ss n j s (omega (arith, long)) ne)

-- ---- what all handles name

pub named_long : (hs : List ℕ) (ss : List Slot) (n : ℕ) → length (named_by hs ss n) ≡ n
named_long hs ss zero = refl
named_long hs ss (suc n) =
    omega (arith, length_push (named_by hs ss n) (names hs ss n), named_long hs ss n)

named_at : (hs : List ℕ) (ss : List Slot) (n k : ℕ) (d : Slot) → k < n →
    get_or (named_by hs ss n) k d ≡ names hs ss k
named_at hs ss zero k d lt = absurd (omega (arith, lt))
named_at hs ss (suc n) k d lt = elim (same_or_not k n) [
  | inl is ↦ ap (λ (i : ℕ). get_or (named_by hs ss n ++ names hs ss n ∷ []) i d)
      (is ∙ sym (named_long hs ss n)) ∙
      get_or-append_seam (named_by hs ss n) (names hs ss n) [] d ∙
      ap (names hs ss) (sym is)
  | inr ne ↦
      let lower : k < n = omega (arith, lt, ne) in
      get_or_append_left (named_by hs ss n) (names hs ss n ∷ []) d k
      (omega (arith, lower, named_long hs ss n)) ∙ named_at hs ss n k d lower
]

pub given_names : (hs : List ℕ) (ss : List Slot) (n k : ℕ) → k < n →
    slice_get (named_by hs ss n) k ≡ Some (names hs ss k)
given_names hs ss n k lt =
    slice_get-get_or (named_by hs ss n) k Closed (omega (arith, lt, named_long hs ss n)) ∙
    ap Some (named_at hs ss n k Closed lt)

named_alike : (hs : List ℕ) (ss : List Slot) (hs' : List ℕ) (ss' : List Slot) (n : ℕ) →
    ((k : ℕ) → k < n → names hs ss k ≡ names hs' ss' k) → named_by hs ss n ≡ named_by hs' ss' n
named_alike hs ss hs' ss' zero alike = refl
named_alike hs ss hs' ss' (suc n) alike =
    ap (λ (l : List Slot). l ++ names hs ss n ∷ [])
    (named_alike hs ss hs' ss' n (λ k lt. alike k (omega (arith, lt)))) ∙
    ap (λ (s : Slot). named_by hs' ss' n ++ s ∷ []) (alike n (omega arith))

-- ---- a store

given_below : (hs : List ℕ) (ss : List Slot) (n p k : ℕ) → AreOpen hs ss n →
    StandsThere hs k p → k < n
given_below hs ss n p k open_ stands =
    let low : get_or hs p 0 < n = All-get_or (λ h. h < n) hs p 0 stands.within open_.given in
    omega (arith, low, stands.is 0)

-- what a handle names is the slot at its place
pub named_there : (hs : List ℕ) (ss : List Slot) (n p k : ℕ) (e : Slot) → AreOpen hs ss n →
    StandsThere hs k p → e ≡ get_or ss p e → slice_get (named_by hs ss n) k ≡ Some e
named_there hs ss n p k e open_ stands at =
    given_names hs ss n k (given_below hs ss n p k open_ stands) ∙
    ap Some (names_there hs ss p k e open_.rises open_.long stands.within stands.is at)

-- a handle without a place names nothing, or was not given
pub named_nowhere : (hs : List ℕ) (ss : List Slot) (n p k : ℕ) → IsNotOpen hs k p →
    (slice_get (named_by hs ss n) k ≡ None) ⊎ (slice_get (named_by hs ss n) k ≡ Some Closed)
named_nowhere hs ss n p k none = by_place (before_or_past k n)
  where
    by_place : (k < n) ⊎ (n ≤ k) →
        (slice_get (named_by hs ss n) k ≡ None) ⊎ (slice_get (named_by hs ss n) k ≡ Some Closed)
    by_place (inl lt) = inr (given_names hs ss n k lt ∙ ap Some (names_nothing hs ss k none.none))
    by_place (inr le) = inl (slice_get_past (named_by hs ss n) k
        (omega (arith, le, named_long hs ss n)))

-- a slot that is changed at its place is changed at its handle
pub named_changed : (hs : List ℕ) (ss : List Slot) (n p k : ℕ) (w : Slot) → AreOpen hs ss n →
    StandsThere hs k p → named_by hs (set ss p w) n ≡ slice_set (named_by hs ss n) k w
named_changed hs ss n p k w open_ stands =
    same_lists (named_by hs (set ss p w) n) (set (named_by hs ss n) k w)
    (named_long hs (set ss p w) n ∙ sym (length-set (named_by hs ss n) k w ∙ named_long hs ss n))
    at
  where
    at : (j : ℕ) (d : Slot) → j < length (named_by hs (set ss p w) n) →
        get_or (named_by hs (set ss p w) n) j d ≡ get_or (set (named_by hs ss n) k w) j d
    at j d within =
        let lt : j < n = omega (arith, within, named_long hs (set ss p w) n) in
        elim (same_or_not j k) [
          | inl is ↦ named_at hs (set ss p w) n j d lt ∙ ap (names hs (set ss p w)) is ∙
              changed_there hs ss p k w open_.rises open_.long stands.within stands.is ∙
              sym (ap (λ (i : ℕ). get_or (set (named_by hs ss n) k w) i d) is ∙
              get_or-set_same (named_by hs ss n) k w d (omega (arith, lt, is, named_long hs ss n)))
          | inr ne ↦ named_at hs (set ss p w) n j d lt ∙
              others_stay hs ss p k j w stands.is stands.within ne ∙
              sym (get_or-set_other (named_by hs ss n) k j w d ne ∙ named_at hs ss n j d lt)
        ]

-- a closed slot may be left out
pub named_left_out : (hs : List ℕ) (ss : List Slot) (n p : ℕ) → AreOpen hs ss n →
    p < length hs → Closed ≡ get_or ss p Closed →
    named_by (remove hs p) (remove ss p) n ≡ named_by hs ss n
named_left_out hs ss n p open_ within at =
    named_alike (remove hs p) (remove ss p) hs ss n
    (λ k lt. names_as_left_out hs ss p k open_.rises open_.long within at)

-- the next handle names what is laid behind all that there is
pub named_more : (hs : List ℕ) (ss : List Slot) (n : ℕ) (s : Slot) → AreOpen hs ss n →
    named_by (hs ++ n ∷ []) (ss ++ s ∷ []) (n + 1) ≡ named_by hs ss n ++ s ∷ []
named_more hs ss n s open_ =
    let one_more : n + 1 ≡ suc n = omega arith in
    ap (named_by (hs ++ n ∷ []) (ss ++ s ∷ [])) one_more ∙
    ap (λ (l : List Slot). l ++ names (hs ++ n ∷ []) (ss ++ s ∷ []) n ∷ [])
    (named_alike (hs ++ n ∷ []) (ss ++ s ∷ []) hs ss n
    (λ k lt. names_before hs ss n k s open_.long (λ e. omega (arith, lt, e)))) ∙
    ap (λ (t : Slot). named_by hs ss n ++ t ∷ [])
    (names_pushed hs ss n s open_.long open_.given)

-- ---- the lists stay in order

pub open_changed : (hs : List ℕ) (ss : List Slot) (n p : ℕ) (w : Slot) → AreOpen hs ss n →
    AreOpen hs (set ss p w) n
open_changed hs ss n p w open_ = record {
  long = length-set ss p w ∙ open_.long;
  rises = open_.rises;
  given = open_.given;
}

pub open_left_out : (hs : List ℕ) (ss : List Slot) (n p : ℕ) → AreOpen hs ss n →
    p < length hs → AreOpen (remove hs p) (remove ss p) n
open_left_out hs ss n p open_ within = record {
  long = omega (
    arith,
    length-remove hs p within,
    length-remove ss p (omega (arith, open_.long, within)),
    open_.long,
  );
  rises = all_pairs_remove (λ one later. one < later) hs p within open_.rises;
  given = All-from_get_or (λ h. h < n) (remove hs p) 0 (λ i inner. removed_below i inner);
}
  where
    removed_below : (i : ℕ) → i < length (remove hs p) → get_or (remove hs p) i 0 < n
    removed_below i inner = elim (before_or_past i p) [
      | inl lt ↦ subst (λ (h : ℕ). h < n) (sym (get_or-remove_below hs p 0 i lt within))
          (All-get_or (λ h. h < n) hs i 0 (omega (arith, lt, within)) open_.given)
      | inr le ↦ subst (λ (h : ℕ). h < n) (sym (get_or-remove_above hs p 0 i le within))
          (All-get_or (λ h. h < n) hs (i + 1) 0
          (omega (arith, inner, length-remove hs p within)) open_.given)
    ]

pub open_more : (hs : List ℕ) (ss : List Slot) (n : ℕ) (s : Slot) → AreOpen hs ss n →
    AreOpen (hs ++ n ∷ []) (ss ++ s ∷ []) (n + 1)
open_more hs ss n s open_ = record {
  long = omega (arith, length_push hs n, length_push ss s, open_.long);
  rises = all_pairs_push (λ one later. one < later) hs n open_.rises
      (λ k d within. All-get_or (λ h. h < n) hs k d within open_.given);
  given = All-push (λ h. h < n + 1) hs n
      (All-from_get_or (λ h. h < n + 1) hs 0 (λ i within.
      let low : get_or hs i 0 < n = All-get_or (λ h. h < n) hs i 0 within open_.given in
      omega (arith, low)))
      (omega arith);
}

-- ---- the search for a handle

rises_far : (hs : List ℕ) → Rises hs → (i j : ℕ) → i ≤ j → j < length hs →
    get_or hs i 0 ≤ get_or hs j 0
rises_far hs up i j le within = elim (same_or_not i j) [
  | inl is ↦ omega (arith, ap (λ (k : ℕ). get_or hs k 0) is)
  | inr ne ↦ (let less : get_or hs i 0 < get_or hs j 0 = up i j 0 (omega (arith, le, ne)) within in
      omega (arith, less))
]

-- a search that finds no place shows that the handle is none of those that are open
pub place_missed : (hs : List ℕ) (h i : ℕ) → Rises hs →
    IsBinarySearchResult (λ y. nat_cmp y h) hs (Err i) → IsNotOpen hs h (length hs)
place_missed hs h i up missed =
    let about = searched hs h (Err i) missed (rises_far hs up) in
    record {
      behind = omega arith;
      none = λ k d within is.
          let at_zero : get_or hs k 0 ≡ h = get_or_default hs k 0 d within ∙ is in
          elim (before_or_past k i) [
            | inl lt ↦ (let low : get_or hs k 0 < h = about.1 k lt in omega (arith, low, at_zero))
            | inr le ↦ (let high : h < get_or hs k 0 = about.2 k le within in
                omega (arith, high, at_zero))
          ];
    }
