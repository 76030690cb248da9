-- What is kept of members, by their names, and which names an object has.
use Rattle.std.proofs.Common.{◌≡◌, ◌≢◌, ℕ, Bool, true, false, ◌&&◌, ◌||◌, cond, List, [], ◌∷◌, Option, Some, None, Result, Ok, option_map, refl, sym, ap, ◌∙◌, true≢false}
use Rattle.std.specs.List.{list_any}
use Rattle.std.specs.Str.{bytes_eq}
use Rattle.std.specs.declared.cmp.Ordering.{Ordering}
use Rattle.std.specs.declared.cmp.Ordering.TheVariants.{Less, Equal, Greater}
use Rattle.std.specs.Ordering.{nat_cmp, match_ordering}
use Rattle.std.specs.Cmp.Lexicographic.{slice_cmp}
use Rattle.std.proofs.lemmas.Cmp.{nat_list_cmp_total, tied_itself}
use Rattle.std.proofs.lemmas.Slice.Eq.{bytes_eq-Decides}
use Rattle.serde_json.specs.Data.{Data, Members, no_members, member, put}
use Rattle.serde_json.specs.Find.{get_member}
use Rattle.serde_json.proofs.Views.{get_member-put, get_member-put_other}
use Rattle.tsc_page_model.proofs.DistinctKeys.{bytes_eq-itself}
use Rattle.tsc_trace_format.proofs.AnyOrder.{named_itself}
use Rattle.tsc_trace_format.specs.TraceText.{names_only}
use Rattle.tsc_trace_fast.specs.TokenReads.{Keeps}

abbrev pick : {A : Type 0} → A → Option A → A
pick d None = d
pick d (Some a) = a

-- ---- members that were read

pub differ : (a b : List ℕ) → bytes_eq a b ≡ false → a ≢ b
differ a b h is = true≢false (sym (bytes_eq-itself a) ∙ ap (bytes_eq a) is ∙ h)

pub keeps_new : {A F : Type 0} (f : Data → Result A F) (name : List ℕ) (d : Data) (x : A)
    (found : Members) → f d ≡ Ok x → Keeps f name (put name d found) (Some x)
keeps_new f name d x found is = ap (option_map f) (get_member-put name d found) ∙ ap Some is

pub keeps_other : {A F : Type 0} (f : Data → Result A F) (name k : List ℕ) (d : Data)
    (found : Members) (kept : Option A) → bytes_eq name k ≡ false → Keeps f name found kept →
    Keeps f name (put k d found) kept
keeps_other f name k d found kept other h =
    ap (option_map f) (get_member-put_other name k d found (differ name k other)) ∙ h

both_true : (a b : Bool) → a ≡ true → b ≡ true → a && b ≡ true
both_true a b h k = rw (h, k) refl

pub two_true : (a b : Bool) → a && b ≡ true → (a ≡ true) × (b ≡ true)
two_true true b h = (refl, h)
two_true false b h = absurd cc

pub named_put : (names : List (List ℕ)) (k : List ℕ) (d : Data) (found : Members) →
    list_any (bytes_eq k) names ≡ true → names_only names found ≡ true →
    names_only names (put k d found) ≡ true
named_put names k d no_members this h = rw this refl
named_put names k d (member l e ms) this h = let two =
    two_true _ _ h in by (slice_cmp nat_cmp k l) two (named_put names k d ms this two.1)
  where
    by : (o : Ordering) → (list_any (bytes_eq l) names ≡ true) × (names_only names ms ≡ true) →
        names_only names (put k d ms) ≡ true
        → names_only names (match_ordering o (member k d (member l e ms)) (member l d ms)
        (member l e (put k d ms))) ≡ true
    by Less two later = both_true _ _ this h
    by Equal two later = both_true _ _ two.0 two.1
    by Greater two later = both_true _ _ two.0 later

-- what was kept of a member is what the member is read as
pub kept_some : {A F : Type 0} (f : Data → Result A F) (name : List ℕ) (found : Members)
    (kept : Option A) (x : A) → Keeps f name found kept → kept ≡ Some x →
    (d : Data) × (get_member name found ≡ Some d) × (f d ≡ Ok x)
kept_some {A} {F} f name found kept x h is = by (get_member name found) (h ∙ ap (option_map Ok) is)
  where
    by : (o : Option Data) → option_map f o ≡ Some (Ok x) → (d : Data) × (o ≡ Some d) × (f d ≡ Ok x)
    by None e = absurd cc
    by (Some d) e = (d, refl, ap (pick (Ok x)) e)

pub kept_none : {A F : Type 0} (f : Data → Result A F) (name : List ℕ) (found : Members)
    (kept : Option A) → Keeps f name found kept → kept ≡ None → get_member name found ≡ None
kept_none {A} {F} f name found kept h is = by (get_member name found) (h ∙ ap (option_map Ok) is)
  where
    by : (o : Option Data) → option_map f o ≡ None → o ≡ None
    by None e = refl
    by (Some d) e = absurd cc

-- ---- names of which one is left out

-- these names without one
abbrev pub without : List ℕ → List (List ℕ) → List (List ℕ)
without k [] = []
without k (l ∷ ls) = cond (bytes_eq l k) (without k ls) (l ∷ without k ls)

-- what finds nothing in the whole finds nothing in the rest
none_later : (k l : List ℕ) (d : Data) (ms : Members) → get_member k (member l d ms) ≡ None →
    get_member k ms ≡ None
none_later k l d ms none = by (slice_cmp nat_cmp k l) none
  where
    by : (o : Ordering) → match_ordering o (get_member k ms) (Some d) (get_member k ms) ≡ None →
        get_member k ms ≡ None
    by Less e = e
    by Equal e = absurd cc
    by Greater e = e

-- of two tests the second one held where the first did not
second_holds : (a b : Bool) → (a ≡ true → ⊥) → a || b ≡ true → b ≡ true
second_holds true b not_first h = absurd (not_first refl)
second_holds false b not_first h = h

-- the second one may be another that follows of it
either_holds : (a b c : Bool) → (b ≡ true → c ≡ true) → a || b ≡ true → a || c ≡ true
either_holds true b c follows h = refl
either_holds false b c follows h = follows h

-- another name than the one that is left out is still among them
still_there : (k n : List ℕ) (ls : List (List ℕ)) → (bytes_eq n k ≡ true → ⊥) →
    list_any (bytes_eq n) ls ≡ true → list_any (bytes_eq n) (without k ls) ≡ true
still_there k n [] other h = h
still_there k n (l ∷ ls) other h =
    by (still_there k n ls other) (bytes_eq l k) (λ is. (bytes_eq-Decides l k).0 is)
  where
    same : n ≡ l → l ≡ k → bytes_eq n k ≡ true
    same a b = ap (λ m. bytes_eq m k) (a ∙ b) ∙ bytes_eq-itself k

    by : (list_any (bytes_eq n) ls ≡ true → list_any (bytes_eq n) (without k ls) ≡ true) →
        (left_out : Bool) → (left_out ≡ true → l ≡ k) →
        list_any (bytes_eq n) (cond left_out (without k ls) (l ∷ without k ls)) ≡ true
    by rest true is = rest (second_holds (bytes_eq n l) (list_any (bytes_eq n) ls)
        (λ at. other (same ((bytes_eq-Decides n l).0 at) (is refl))) h)
    by rest false is = either_holds (bytes_eq n l) (list_any (bytes_eq n) ls)
        (list_any (bytes_eq n) (without k ls)) rest h

-- a name that finds nothing can be left out
pub named_without : (k : List ℕ) (ks : List (List ℕ)) (ms : Members) → names_only ks ms ≡ true →
    get_member k ms ≡ None → names_only (without k ks) ms ≡ true
named_without k ks no_members h none = refl
named_without k ks (member l d ms) h none =
    let two = two_true _ _ h in
    both_true _ _ (still_there k l ks (λ is. l_is_not is) two.0)
    (named_without k ks ms two.1 (none_later k l d ms none))
  where
    l_is_not : bytes_eq l k ≡ true → ⊥
    l_is_not is = let same : l ≡ k =
        (bytes_eq-Decides l k).0 is in let found : get_member k (member k d ms) ≡ None =
        rw same at none in let other = named_itself k d ms in absurd cc
