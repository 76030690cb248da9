-- The least values, as they are read from tokens: numbers, times and texts.
use Rattle.std.proofs.Common.{◌≡◌, ℕ, ◌^◌, ◌<◌, ◌==◌, true, false, List, [], ◌∷◌, length, Option, Some, None, Result, Ok, Err, IfSome, refl, sym, ap, ◌∙◌}
use Rattle.std.specs.Prelude.{OkIff, SomeIff, slice_index, nat_lt}
use Rattle.std.specs.Result.{result_ok}
use Rattle.std.proofs.lemmas.Bool.{lt-ltb}
use Rattle.fast_float.specs.Text.{Parts, scan, digits_of, IsInteger}
use Rattle.json.specs.Token.{Token}
use Rattle.json.specs.Json.{after_end_array}
use Rattle.serde_json.specs.Data.{Data, unsigned, number, string, null}
use Rattle.serde_json.specs.Read.{number_of, number_from}
use Rattle.uuid.specs.Parts.{zero_bytes}
use Rattle.tsc_time.specs.ValueView.{Owner, owner_of}
use Rattle.tsc_trace_format.specs.TraceData.{list_data}
use Rattle.tsc_trace_format.specs.TraceParts.{Part}
use Rattle.tsc_trace_format.specs.TraceText.{array_of, two_of, unsigned_of, number_below, text_of, time_in_range, time_of, ends_in, ends_of, excluded_in, excluded_of, owner_in, owner_member}
use Rattle.tsc_trace_fast.specs.TokenReads.{Reads, Got}
use Rattle.tsc_trace_fast.specs.Kept.{owner_there}
use Rattle.tsc_trace_fast.proofs.TokenLemmas.{items_begin, items_go_on, items_over, string_reads}

integer_from : (s : List ℕ) (p : Parts) → p ≡ scan s → (slice_index s 0 == 45) ≡ false →
    IsInteger p → digits_of p < 2 ^ 64 → number_of s ≡ Some (unsigned (digits_of p))
unfolding number_of
integer_from s p is plus whole small =
    let some : nat_lt 0 (length p.whole) ≡ true = lt-ltb 0 (length p.whole) whole.0 in
    let fits : nat_lt (digits_of p) (2 ^ 64) ≡ true = lt-ltb (digits_of p) (2 ^ 64) small in
    let read : number_from false p ≡ Some (unsigned (digits_of p)) =
    rw (some, whole.1, whole.2, fits) refl in
    let chosen : number_of s ≡ number_from false (scan s) = rw plus refl in
    chosen ∙ ap (number_from false) (sym is) ∙ read

-- the text of a number that has no sign, no fraction and no exponent
pub integer_read : (s : List ℕ) (p : Parts) (r : Option ℕ) → p ≡ scan s →
    (slice_index s 0 == 45) ≡ false →
    SomeIff r (IsInteger p × (digits_of p < 2 ^ 64)) (digits_of p) →
    IfSome r (λ n. number_of s ≡ Some (unsigned n))
integer_read s p None is plus h = tt
integer_read s p (Some n) is plus h = integer_from s p is plus h.0.0 h.0.1 ∙
    ap (λ m. Some (unsigned m)) (sym h.1)

pub below : (limit n : ℕ) → n < limit → number_below limit (number (unsigned n)) ≡ Ok n
unfolding number_below unsigned_of
below limit n lt = rw (lt-ltb n limit lt) refl

pub number_got : {E : Type 0} (old new : List Token) (limit n : ℕ) (r : Result ℕ E) (o : Option ℕ) →
    Reads 0 old (number (unsigned n)) new → o ≡ result_ok r → OkIff r (n < limit) n →
    IfSome o (λ m. Got 0 (number_below limit) old m new)
number_got old new limit n (Ok m) o reads is h =
    rw is (number (unsigned n), reads, below limit n h.0 ∙ ap Ok (sym h.1))
number_got old new limit n (Err e) o reads is h = rw is tt

-- what a value is read as, where something is read of it
pub got_as : {X : Type 0} (deep : ℕ) (f : Data → Part X) (old new : List Token) (d : Data)
    (o : Option X) (read : Part X) → Reads deep old d new → f d ≡ read →
    IfSome o (λ x. read ≡ Ok x) → IfSome o (λ x. Got deep f old x new)
got_as deep f old new d None read reads same h = tt
got_as deep f old new d (Some x) read reads same h = (d, reads, same ∙ h)

pub time_reads : (old all mid last new : List Token) (wall logical : ℕ) →
    old ≡ Token.begin_array ∷ all → Reads 0 all (number (unsigned wall)) mid →
    Reads 0 mid (number (unsigned logical)) last → after_end_array last ≡ Some new
    → Reads 1 old (list_data (number (unsigned wall) ∷ number (unsigned logical) ∷ [])) new
time_reads old all mid last new wall logical is first second over =
    items_over 0 old all last new _ is
    (items_go_on 0 all mid last _ _ (items_go_on 0 all all mid [] _ (items_begin 0 all) first)
    second) over

pub time_is : (wall logical : ℕ) →
    time_of (list_data (number (unsigned wall) ∷ number (unsigned logical) ∷ [])) ≡
    time_in_range wall logical
unfolding time_of array_of two_of unsigned_of
time_is wall logical = refl

pub text_is : (s : List ℕ) → text_of (string s) ≡ Ok s
unfolding text_of
text_is s = refl

pub ends_is : (s : List ℕ) → ends_of (string s) ≡ ends_in s
unfolding ends_of text_of
ends_is s = refl

pub excluded_is : (s : List ℕ) → excluded_of (string s) ≡ excluded_in s
unfolding excluded_of text_of
excluded_is s = refl

-- what was asked of a definition's result, and is there
pub of_result : {X F : Type 0} (o : Option X) (r : Result X F) → o ≡ result_ok r →
    IfSome o (λ x. r ≡ Ok x)
of_result o (Ok x) is = rw is refl
of_result o (Err f) is = rw is tt

pub owner_text : (s : List ℕ) (o : Option Owner) → owner_in s ≡ Ok o → owner_there (string s) ≡ Ok o
unfolding owner_member
owner_text s o is = is

pub null_is : owner_there null ≡ Ok (owner_of zero_bytes)
unfolding owner_member
null_is = refl

pub owner_got : (old new : List Token) (s : List ℕ) (o : Option (List ℕ)) →
    old ≡ Token.string s ∷ new → IfSome o (λ name. owner_in s ≡ Ok (owner_of name)) →
    IfSome o (λ name. Got 0 owner_there old (owner_of name) new)
owner_got old new s None is h = tt
owner_got old new s (Some name) is h =
    (string s, string_reads old new s is, owner_text s (owner_of name) h)
