-- The items of an array, by how many there are.
use Rattle.std.proofs.Common.{◌≡◌, ◌≢◌, ℕ, ◌<◌, Bool, true, false, ◌||◌, List, [], ◌∷◌, length, get_or, map, Some, Ok, Err, Bor, zero, suc, refl, ap, ◌∙◌, arith}
use Rattle.std.specs.List.{list_any}
use Rattle.serde_json.specs.View.{view, items_view}
use Rattle.serde_json.specs.declared.value.Value.{Value}
use Rattle.tsc_trace_format.specs.declared.read.part.PartFault.TheVariants.{Shape}
use Rattle.serde_json.specs.Data.{Data}
use Rattle.serde_json.specs.Find.{as_array}
use Rattle.tsc_trace_format.specs.TraceText.{listed, array_of, two_of}

-- the items of an array are those of the list that keeps it
pub listed-items : (vs : List Value) → listed (items_view vs) ≡ map view vs
listed-items [] = refl
listed-items (v ∷ vs) = rw (listed-items vs) refl

pub no_two : (vs : List Value) → length vs ≢ 2 → two_of (map view vs) ≡ Err Shape
unfolding two_of
no_two [] h = refl
no_two (a ∷ []) h = refl
no_two (a ∷ b ∷ []) h = absurd (h refl)
no_two (a ∷ b ∷ c ∷ vs) h = refl

pub the_two : (vs : List Value) (d e : Value) → length vs ≡ 2 →
    two_of (map view vs) ≡ Ok (view (get_or vs 0 d), view (get_or vs 1 e))
unfolding two_of
the_two [] d e h = absurd (omega arith)
the_two (a ∷ []) d e h = absurd (omega arith)
the_two (a ∷ b ∷ []) d e h = refl
the_two (a ∷ b ∷ c ∷ vs) d e h = absurd (omega arith)

or_true : (b : Bool) → b || true ≡ true
or_true true = refl
or_true false = refl

-- a test that holds of a text of a list holds of one of them
pub any_at : (test : List ℕ → Bool) (xs : List (Bor (List ℕ))) (i : ℕ) (d : Bor (List ℕ)) →
    i < length xs → test (get_or xs i d).now ≡ true → list_any test (map (λ x. x.now) xs) ≡ true
any_at test [] i d h t = absurd (omega arith)
any_at test (x ∷ xs) zero d h t = rw t refl
any_at test (x ∷ xs) (suc i) d h t =
    ap (λ b. test x.now || b) (any_at test xs i d (omega arith) t) ∙ or_true (test x.now)

-- an array is read as the list of its items
pub array_is : (d : Data) (vs : List Value) → as_array d ≡ Some (items_view vs) →
    array_of d ≡ Ok (map view vs)
unfolding array_of
array_is d vs h = rw (h, listed-items vs) refl
