-- Lists of a trace, by their number.
use Rattle.std.proofs.Common.{◌≡◌, ℕ, ◌<◌, ◌≤◌, Bool, true, false, ◌&&◌, List, length, get_or, map, Some, None, refl, sym, ap, ◌∙◌, arith, Vec, Global}
use Rattle.std.specs.List.{sum_by}
use Rattle.std.specs.Prelude.{slice_get}
use Rattle.std.proofs.lemmas.Bool.{leb-true}
use Rattle.std.proofs.lemmas.Option.{slice_get_past, slice_get-get_or}
use Rattle.std.proofs.lemmas.List.{length-map, get_or-map}
use Rattle.std.proofs.lemmas.List.Sums.{get_or-le-sum_by}
use Rattle.tsc_trace_format.specs.Limits.{most_calls}
use Rattle.tsc_trace_format.specs.Lists.{fits_trace}

both : (a b : Bool) → a && b ≡ true → (a ≡ true) × (b ≡ true)
both true b h = (refl, h)
both false b h = absurd cc

pub total_calls : {C : Type 0} (lists : List (List C)) → fits_trace lists ≡ true →
    sum_by length lists ≤ most_calls
total_calls lists h = leb-true _ _ (both _ _ h).1

-- no list has more calls than all lists have
pub calls_of_one : {C : Type 0} (lists : List (List C)) (i : ℕ) (d : List C) →
    fits_trace lists ≡ true → i < length lists → length (get_or lists i d) ≤ most_calls
calls_of_one lists i d h lt = omega
    (arith, total_calls lists h, get_or-le-sum_by length lists i d lt)

pub calls_within : {C : Type 0} (vs : List (Vec C Global)) (i : ℕ) (v : Vec C Global) →
    fits_trace (map (λ v. v.items) vs) ≡ true → i < length vs → v ≡ get_or vs i v →
    length v.items ≤ most_calls
calls_within vs i v h lt is =
    let at : get_or (map (λ v. v.items) vs) i v.items ≡ v.items =
    get_or-map (λ v. v.items) vs i v v.items lt ∙ ap (λ v. v.items) (sym is) in
    let k : length (get_or (map (λ v. v.items) vs) i v.items) ≤ most_calls =
    calls_of_one (map (λ v. v.items) vs) i v.items h
    (omega (arith, length-map vs (λ v. v.items))) in
    rw at at k

pub past_lists : {C : Type 0} (vs : List (Vec C Global)) (i : ℕ) → length vs ≤ i →
    slice_get (map (λ v. v.items) vs) i ≡ None
past_lists vs i le = slice_get_past (map (λ v. v.items) vs) i
    (omega (arith, length-map vs (λ v. v.items)))

-- the list with a number, seen as the calls in it
pub list_at : {C : Type 0} (vs : List (Vec C Global)) (i : ℕ) (v : Vec C Global) → i < length vs →
    v ≡ get_or vs i v → slice_get (map (λ v. v.items) vs) i ≡ Some v.items
list_at vs i v lt is =
    slice_get-get_or (map (λ v. v.items) vs) i v.items (omega (arith, length-map vs (λ v. v.items)))
    ∙ ap Some (get_or-map (λ v. v.items) vs i v v.items lt ∙ ap (λ v. v.items) (sym is))
