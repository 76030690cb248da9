-- Brackets, of which another text is a fault of the shape.
use Rattle.std.proofs.Common.{◌≡◌, Bool, true, false, cond, ℕ, List, Ok, Err, Option, Result, refl}
use Rattle.std.specs.Prelude.{codes, ok_or}
use Rattle.std.specs.Result.{result_ok}
use Rattle.std.specs.Str.{bytes_eq}
use Rattle.serde_json.specs.Data.{Data}
use Rattle.tsc_span.specs.declared.span.Ends.{Ends}
use Rattle.tsc_trace_format.specs.declared.read.part.PartFault.TheVariants.{Shape}
use Rattle.tsc_trace_format.specs.declared.read.part.Refusal.{Refusal}
use Rattle.tsc_trace_format.specs.declared.read.part.Refusal.TheVariants as refusal
use Rattle.tsc_trace_format.specs.Reading.{Gives}
use Rattle.tsc_trace_format.specs.TraceParts.{Part}
use Rattle.tsc_trace_format.specs.TraceText.{text_of, ends_in, ends_of, excluded_in, excluded_of}

-- one of two, each of which has no other fault
of_two : {A : Type 0} (b : Bool) (x y : Part A) → ok_or (result_ok x) Shape ≡ x →
    ok_or (result_ok y) Shape ≡ y → ok_or (result_ok (cond b x y)) Shape ≡ cond b x y
of_two true x y h k = h
of_two false x y h k = k

given : {A : Type 0} (x : Part A) → ok_or (result_ok x) Shape ≡ x →
    Gives (λ (y : A). y) (ok_or (result_ok x) (refusal.Fault Shape)) x
given (Ok x) h = refl
given (Err fault) h = let same : Err Shape ≡ Err fault = h in cc

ends_or_shape : (text : List ℕ) → Gives (λ ends. ends)
    (ok_or (result_ok (ends_in text)) (refusal.Fault Shape)) (ends_in text)
unfolding ends_in
ends_or_shape text =
    given _ (of_two (bytes_eq text (codes "[]")) _ _ refl
    (of_two (bytes_eq text (codes "[)")) _ _ refl
    (of_two (bytes_eq text (codes "(]")) _ _ refl
    (of_two (bytes_eq text (codes "()")) _ _ refl refl))))

excluded_or_shape : (text : List ℕ) →
    Gives (λ excluded. excluded) (ok_or (result_ok (excluded_in text)) (refusal.Fault Shape))
    (excluded_in text)
unfolding excluded_in
excluded_or_shape text = given _ (of_two (bytes_eq text (codes "[")) _ _ refl
    (of_two (bytes_eq text (codes "(")) _ _ refl refl))

-- the same of JSON values, by what the call for a text tells
pub ends_read : (d : Data) (text : List ℕ) (o : Option Ends) (r : Result Ends Refusal) →
    text_of d ≡ Ok text → o ≡ result_ok (ends_in text) → r ≡ ok_or o (refusal.Fault Shape) →
    Gives (λ ends. ends) r (ends_of d)
unfolding ends_of
ends_read d text o r is asked made = rw (made, asked, is) (ends_or_shape text)

pub excluded_read : (d : Data) (text : List ℕ) (o : Option Bool) (r : Result Bool Refusal) →
    text_of d ≡ Ok text → o ≡ result_ok (excluded_in text) → r ≡ ok_or o (refusal.Fault Shape) →
    Gives (λ excluded. excluded) r (excluded_of d)
unfolding excluded_of
excluded_read d text o r is asked made = rw (made, asked, is) (excluded_or_shape text)
