-- From the reading of a line's parts to that of the whole.
use Rattle.std.specs.Result.{result_ok}
use Rattle.std.proofs.Common.{◌≡◌, ◌≢◌, ℕ, zero, suc, ◌<◌, ◌^◌, List, [], ◌∷◌, ◌++◌, length, get_or, Bool, true, false, Option, Some, None, option_map, Result, Ok, Err, MatchOption, All, codes, decimal, if◌then◌else◌, Bor, inl, slice_index, take, drop, subst, MatchResult, ◌+◌, ◌*◌, ◌==◌, ◌&&◌, refl, sym, ap, ◌∙◌, arith}
use Rattle.std.proofs.lemmas.Fmt.{parse-decimal}
use Rattle.std.proofs.lemmas.Str.Pattern.{IsSplitOnceResult, split_parts}
use Rattle.std.proofs.lemmas.List.Elements.{All-from_get_or}
use Rattle.std.specs.Str.{IsUtf8}
use Rattle.std.proofs.lemmas.Str.{IsUtf8-from_ascii}
use Rattle.std.specs.Str.Parse.{ParsesUnsigned}
use Rattle.std.specs.List.{list_all}
use Rattle.std.proofs.lemmas.Bool.{and_parts}
use Rattle.std.proofs.lemmas.Bool.Decides.{nat_tests}
use Rattle.uuid.specs.Text.{hyphenated_text, lower, parsed, parsed_simple, parsed_hyphenated, parsed_braced, parsed_urn, by_index, byte_of_digits, digits_of, has_hyphens, has_urn_prefix, is_hex_digit, value_of, open_brace, close_brace}
use Rattle.uuid.specs.Parts.{is_nil_bytes}
use Rattle.uuid.proofs.TextLemmas.{by_index_length, by_index_at}
use Rattle.uuid.proofs.RoundTrips.{parses_hyphenated}
use Rattle.tsc_time.proofs.TimeOrder.{parts_below}
use Rattle.tsc_time.specs.Time.{Time, is_in_range}
use Rattle.tsc_time.specs.ValueView.{ValueView, Owner, IsMadeOwner, IsMadeValue, owner_of}
use Rattle.tsc_trace.specs.declared.log.CallAnswer.{CallAnswer}
use Rattle.tsc_trace.specs.declared.log.CallAnswer.TheVariants as said
use Rattle.tsc_trace.specs.LogText.{space, dot, time_text, owner_text, answer_text, line_text}
use Rattle.tsc_trace.specs.LogReading.{IsWritable, IsWritableAnswer}
use Rattle.tsc_trace.specs.ReadingBack.{IsWithout, ReadsBack, ReadsField}
use Rattle.tsc_trace.proofs.Cuts.{cut_same, no_cut}
use Rattle.tsc_trace.proofs.LineTexts.{decimal_without, line_ascii, uuid_length, time_without_space, without_by_test}

-- what `split_once` gives at a mark
pub cut_parts : (mark : ℕ) (text : List ℕ) (r : Option (Bor (List ℕ) × Bor (List ℕ))) →
    IsSplitOnceResult mark text r → mark < 128
    → MatchOption r (IsWithout mark text)
    (λ parts. IsWithout mark parts.0.now × (text ≡ parts.0.now ++ mark ∷ parts.1.now))
cut_parts mark text None h ascii =
    All-from_get_or (λ b. b ≢ mark) text 0 (split_parts mark text None h ascii)
cut_parts mark text (Some parts) h ascii =
    let both = split_parts mark text (Some parts) h ascii in
    (All-from_get_or (λ b. b ≢ mark) parts.0.now 0 both.1, both.0)

same_value : (E : Type 0) (r : Result ℕ E) (y x : ℕ) → r ≡ Ok y → r ≡ Ok x → y ≡ x
same_value E r y x first second = cc

no_value : (E : Type 0) (r : Result ℕ E) (fault : E) (x : ℕ) → r ≡ Err fault → r ≢ Ok x
no_value E r fault x first second = absurd cc

-- what `parse` gives for a number
pub number_read : {E : Type 0} (k : ℕ) (text : List ℕ) (r : Result ℕ E) →
    ((n : ℕ) → n < 2 ^ k → n < 2 ^ 64) → ParsesUnsigned k 10 text r
    → ReadsBack (λ n. n < 2 ^ k) decimal text (result_ok r)
number_read {E} k text (Ok y) wide h = (
  let small = h.0.1 in let same = h.1 in rw same small,
  λ x small e. same_value E (Ok y) y x refl
      (parse-decimal k x text (Ok y) small (wide x small) e h),
)
number_read {E} k text (Err fault) wide h =
    λ x small e. no_value E (Err fault) fault x refl
    (parse-decimal k x text (Err fault) small (wide x small) e h)

-- a text without a space is no field
pub field_none : {X : Type 0} (InBounds : X → Type 0) (written : X → List ℕ) (text : List ℕ) →
    IsWithout space text → ReadsField InBounds written text None
field_none InBounds written text without =
    λ x rest bounded. no_cut space (written x) rest text without

-- the value before the first space
pub field_some : {X : Type 0} (InBounds : X → Type 0) (written : X → List ℕ)
    (text first rest : List ℕ) (value : Option X)
    → ((x : X) → InBounds x → IsWithout space (written x)) → IsWithout space first ×
    (text ≡ first ++ space ∷ rest)
    → ReadsBack InBounds written first value →
    ReadsField InBounds written text (option_map (λ v. (v, rest)) value)
field_some InBounds written text first rest None without cut read =
    λ x after bounded e. read x bounded
    (cut_same space first rest (written x) after cut.0 (without x bounded) (sym cut.1 ∙ e)).0
field_some InBounds written text first rest (Some v) without cut read = (
  read.0,
  λ x after bounded e. let same = cut_same space first rest (written x) after cut.0
      (without x bounded) (sym cut.1 ∙ e) in
      (read.1 x bounded same.0, same.1),
)

-- ---- times

InRange : Time → Type 0
InRange t = is_in_range t ≡ true

-- the parts of a time are what stands round the first dot
time_parts : (text wall logical : List ℕ) (t : Time) → IsWithout dot wall ×
    (text ≡ wall ++ dot ∷ logical) → is_in_range t ≡ true → text ≡ time_text t
    → (wall ≡ decimal t.wall) × (logical ≡ decimal t.logical)
time_parts text wall logical t cut in_range e =
    let below = parts_below t in_range in
    cut_same dot wall logical (decimal t.wall) (decimal t.logical) cut.0
    (decimal_without dot t.wall below.0 (omega arith)) (sym cut.1 ∙ e)

pub time_none : (text : List ℕ) → IsWithout dot text →
    ReadsBack (λ time. is_in_range time ≡ true) time_text text None
time_none text without = λ t in_range. no_cut dot (decimal t.wall) (decimal t.logical) text without

pub time_without_wall : (text wall logical : List ℕ) → IsWithout dot wall ×
    (text ≡ wall ++ dot ∷ logical) → ReadsBack (λ n. n < 2 ^ 64) decimal wall None
    → ReadsBack (λ time. is_in_range time ≡ true) time_text text None
time_without_wall text wall logical cut read =
    λ t in_range e. read t.wall (parts_below t in_range).0
    (time_parts text wall logical t cut in_range e).0

pub time_without_logical : (text wall logical : List ℕ) → IsWithout dot wall ×
    (text ≡ wall ++ dot ∷ logical) → ReadsBack (λ n. n < 2 ^ 32) decimal logical None
    → ReadsBack (λ time. is_in_range time ≡ true) time_text text None
time_without_logical text wall logical cut read =
    λ t in_range e. read t.logical (parts_below t in_range).1
    (time_parts text wall logical t cut in_range e).1

-- two numbers are a time, where they are in range
time_in_range : (text : List ℕ) (made : Time) (b : Bool) → is_in_range made ≡ b →
    ((t : Time) → is_in_range t ≡ true → text ≡ time_text t → made ≡ t)
    → ReadsBack (λ time. is_in_range time ≡ true) time_text text (if b then Some made else None)
time_in_range text made true in_range same = (in_range, same)
time_in_range text made false out same = λ t in_range e. let it : made ≡ t =
    same t in_range e in let clash : false ≡ true = sym out ∙ ap is_in_range it ∙
    in_range in absurd cc

same_parts : (w l : ℕ) (t : Time) → w ≡ t.wall → l ≡ t.logical →
    record { wall = w; logical = l } ≡ t
same_parts w l t walls logicals = rw (walls, logicals) refl

pub time_made : (text wall logical : List ℕ) (w l : ℕ) → IsWithout dot wall ×
    (text ≡ wall ++ dot ∷ logical)
    → ReadsBack (λ n. n < 2 ^ 64) decimal wall (Some w) →
    ReadsBack (λ n. n < 2 ^ 32) decimal logical (Some l)
    → ReadsBack (λ time. is_in_range time ≡ true) time_text text
    (if is_in_range (record { wall = w; logical = l }) then Some
    (record { wall = w; logical = l }) else None)
time_made text wall logical w l cut first second =
    time_in_range text (record { wall = w; logical = l })
    (is_in_range (record { wall = w; logical = l })) refl (λ t in_range e.
    let below = parts_below t in_range in
    let parts = time_parts text wall logical t cut in_range e in
    let walls : w ≡ t.wall = first.1 t.wall below.0 parts.0 in
    let logicals : l ≡ t.logical = second.1 t.logical below.1 parts.1 in
    same_parts w l t walls logicals)

-- ---- owners

-- `none` is no UUID
pub none_is_no_uuid : (uuid : List ℕ) → codes "none" ≢ hyphenated_text lower uuid
none_is_no_uuid uuid e = let lengths : length (codes "none") ≡ 36 =
    ap length e ∙ uuid_length uuid in absurd (omega (arith, lengths))

-- the text of a UUID parses to it
pub parsed_owner : (text uuid : List ℕ) → IsMadeOwner (Some uuid) →
    text ≡ hyphenated_text lower uuid → parsed text ≡ Some uuid
parsed_owner text uuid made e = ap parsed e ∙
    sym (parses_hyphenated lower uuid (inl refl) made.0 made.1)

pub no_owner : (text : List ℕ) → text ≡ codes "none" →
    ReadsBack IsMadeOwner owner_text text (Some None)
no_owner text is = (tt, none_or_uuid) where
  none_or_uuid : (x : Option Owner) → IsMadeOwner x → text ≡ owner_text x → None ≡ x
  none_or_uuid None made e = refl
  none_or_uuid (Some uuid) made e = absurd (none_is_no_uuid uuid (sym is ∙ e))

-- ---- the bytes of what a text parses to

all_at : (p : ℕ → Bool) (xs : List ℕ) (k : ℕ) → list_all p xs ≡ true → k < length xs →
    p (get_or xs k 0) ≡ true
all_at p [] k h within = absurd (omega arith)
all_at p (x ∷ xs) zero h within = (and_parts (p x) (list_all p xs) h).0
all_at p (x ∷ xs) (suc k) h within =
    all_at p xs k (and_parts (p x) (list_all p xs) h).1 (omega arith)

IsBytes : List ℕ → Type 0
IsBytes bytes = All (λ b. b < 256) bytes

digit_small : (c : ℕ) → is_hex_digit c ≡ true → value_of c < 16
digit_small c digit = grind (arith, nat_tests)

byte_small : (hex : List ℕ) (k : ℕ) → list_all is_hex_digit hex ≡ true → 2 * k + 1 < length hex →
    byte_of_digits hex k < 256
byte_small hex k digits within =
    let high = digit_small (slice_index hex (2 * k))
    (all_at is_hex_digit hex (2 * k) digits (omega arith)) in
    let low = digit_small (slice_index hex (2 * k + 1))
    (all_at is_hex_digit hex (2 * k + 1) digits within) in
    omega (arith, high, low)

some_bytes : (hex : List ℕ) (b : Bool) → ((length hex == 32) && list_all is_hex_digit hex) ≡ b →
    (uuid : List ℕ)
    → (if b then Some (by_index 16 (byte_of_digits hex)) else None) ≡ Some uuid → IsBytes uuid
unfolding IsBytes
some_bytes hex true test uuid e =
    let both = and_parts (length hex == 32) (list_all is_hex_digit hex) test in
    let long : length hex ≡ 32 = grind (arith, nat_tests, both.0) in
    let same : by_index 16 (byte_of_digits hex) ≡ uuid = cc in
    subst (λ (bytes : List ℕ). All (λ b. b < 256) bytes) same
    (All-from_get_or (λ b. b < 256) (by_index 16 (byte_of_digits hex)) 0 (λ i within.
    let here : i < 16 = rw (by_index_length 16 (byte_of_digits hex)) at within in
    rw (by_index_at 16 (byte_of_digits hex) i 0 here) (byte_small hex i both.1 (omega arith))))
some_bytes hex false test uuid e = absurd cc

simple_bytes : (hex uuid : List ℕ) → parsed_simple hex ≡ Some uuid → IsBytes uuid
simple_bytes hex uuid e = some_bytes hex ((length hex == 32) && list_all is_hex_digit hex)
    refl uuid e

-- what both results of a test give
either_bytes : (b : Bool) (x y : Option (List ℕ)) →
    ((uuid : List ℕ) → x ≡ Some uuid → IsBytes uuid) →
    ((uuid : List ℕ) → y ≡ Some uuid → IsBytes uuid)
    → (uuid : List ℕ) → (if b then x else y) ≡ Some uuid → IsBytes uuid
either_bytes true x y first second uuid e = first uuid e
either_bytes false x y first second uuid e = second uuid e

no_bytes : (uuid : List ℕ) → None ≡ Some uuid → IsBytes uuid
no_bytes uuid e = absurd cc

hyphenated_bytes : (text uuid : List ℕ) → parsed_hyphenated text ≡ Some uuid → IsBytes uuid
hyphenated_bytes text = either_bytes ((length text == 36) && has_hyphens text)
    (parsed_simple (digits_of text)) None (simple_bytes (digits_of text)) no_bytes

braced_bytes : (text uuid : List ℕ) → parsed_braced text ≡ Some uuid → IsBytes uuid
braced_bytes text =
    either_bytes ((length text == 38) && (slice_index text 0 == open_brace) &&
    (slice_index text 37 == close_brace)) (parsed_hyphenated (take 36 (drop 1 text))) None
    (hyphenated_bytes (take 36 (drop 1 text))) no_bytes

urn_bytes : (text uuid : List ℕ) → parsed_urn text ≡ Some uuid → IsBytes uuid
urn_bytes text = either_bytes ((length text == 45) && has_urn_prefix text)
    (parsed_hyphenated (drop 9 text)) None (hyphenated_bytes (drop 9 text)) no_bytes

pub parsed_bytes : (text uuid : List ℕ) → parsed text ≡ Some uuid → All (λ b. b < 256) uuid
unfolding IsBytes
parsed_bytes text =
    either_bytes (length text == 32) (parsed_simple text) _ (simple_bytes text)
    (either_bytes (length text == 36) (parsed_hyphenated text) _ (hyphenated_bytes text)
    (either_bytes (length text == 38) (parsed_braced text) _ (braced_bytes text)
    (either_bytes (length text == 45) (parsed_urn text) None (urn_bytes text) no_bytes)))

-- a UUID that was read, where the text is not `none`
pub some_owner : (text uuid : List ℕ) → text ≢ codes "none" → length uuid ≡ 16 →
    All (λ b. b < 256) uuid → parsed text ≡ Some uuid
    → ReadsBack IsMadeOwner owner_text text (Some (owner_of uuid))
some_owner text uuid other long small read = (made (is_nil_bytes uuid) refl, found) where
  made : (b : Bool) → is_nil_bytes uuid ≡ b → IsMadeOwner (if b then None else Some uuid)
  made true nil = tt
  made false nil = (long, small, nil)

  named : (x : List ℕ) → IsMadeOwner (Some x) → uuid ≡ x → owner_of uuid ≡ Some x
  named x of_x same = let nil : is_nil_bytes uuid ≡ false = ap is_nil_bytes same ∙
      of_x.2 in rw (nil, same) refl

  found : (x : Option Owner) → IsMadeOwner x → text ≡ owner_text x → owner_of uuid ≡ x
  found None of_x e = absurd (other e)
  found (Some x) of_x e = let same : Some uuid ≡ Some x =
      sym read ∙ parsed_owner text x of_x e in named x of_x cc

-- a text that is neither `none` nor a UUID
pub wrong_owner : (text : List ℕ) → text ≢ codes "none" →
    ((uuid : List ℕ) → parsed text ≢ Some uuid) → ReadsBack IsMadeOwner owner_text text None
wrong_owner text other none = refused where
  refused : (x : Option Owner) → IsMadeOwner x → text ≢ owner_text x
  refused None of_x e = other e
  refused (Some x) of_x e = none x (parsed_owner text x of_x e)

-- ---- what a lookup answered

-- what follows the first number of a lookup's fields is its time and its owner
pub get_refused : (fields rest : List ℕ) (front : ℕ) →
    ReadsField (λ n. n < 2 ^ 64) decimal fields (Some (front, rest))
    → ((value : ValueView) → IsMadeValue value →
    rest ≢ time_text value.time ++ space ∷ owner_text value.owner)
    → ReadsBack IsWritableAnswer answer_text (codes "get" ++ space ∷ fields) None
get_refused fields rest front field none = refused where
  refused : (s : CallAnswer) → IsWritableAnswer s → codes "get" ++ space ∷ fields ≢ answer_text s
  refused (said.Add place added) h e = let heads : 103 ≡ 97 =
      ap (λ (bytes : List ℕ). get_or bytes 0 0) e in absurd (omega (arith, heads))
  refused (said.Batch place added) h e = let heads : 103 ≡ 98 =
      ap (λ (bytes : List ℕ). get_or bytes 0 0) e in absurd (omega (arith, heads))
  refused (said.Get n value) h e =
      let tails : fields ≡ decimal n ++ space ∷
      (time_text value.time ++ space ∷ owner_text value.owner) = cc in
      none value h.1 (field.1 n (time_text value.time ++ space ∷ owner_text value.owner) h.0
      tails).1
  refused (said.Low n time) h e = let heads : 103 ≡ 108 =
      ap (λ (bytes : List ℕ). get_or bytes 0 0) e in absurd (omega (arith, heads))

-- the time and the owner stand round the first space
pub value_parts : (rest at name : List ℕ) (value : ValueView) → IsWithout space at ×
    (rest ≡ at ++ space ∷ name) → IsMadeValue value
    → rest ≡ time_text value.time ++ space ∷ owner_text value.owner → (at ≡ time_text value.time) ×
    (name ≡ owner_text value.owner)
value_parts rest at name value cut made e =
    cut_same space at name (time_text value.time) (owner_text value.owner) cut.0
    (time_without_space value.time made.time) (sym cut.1 ∙ e)

pub get_read : (fields rest at name : List ℕ) (front : ℕ) (time : Time) (owner : Option Owner)
    → ReadsField (λ n. n < 2 ^ 64) decimal fields (Some (front, rest)) → IsWithout space at ×
    (rest ≡ at ++ space ∷ name)
    → ReadsBack (λ time. is_in_range time ≡ true) time_text at (Some time) →
    ReadsBack IsMadeOwner owner_text name (Some owner)
    → ReadsBack IsWritableAnswer answer_text (codes "get" ++ space ∷ fields)
    (Some (said.Get front (record { time = time; owner = owner })))
get_read fields rest at name front time owner field cut first second =
    ((field.0, record { time = first.0; owner = second.0 }), found) where
      same_value : (n : ℕ) (value : ValueView) → front ≡ n → time ≡ value.time → owner ≡ value.owner
          → said.Get front (record { time = time; owner = owner }) ≡ said.Get n value
      same_value n value fronts times owners = rw (fronts, times, owners) refl

      found : (s : CallAnswer) → IsWritableAnswer s → codes "get" ++ space ∷ fields ≡ answer_text s
          → said.Get front (record { time = time; owner = owner }) ≡ s
      found (said.Add place added) h e = let heads : 103 ≡ 97 =
          ap (λ (bytes : List ℕ). get_or bytes 0 0) e in absurd (omega (arith, heads))
      found (said.Batch place added) h e = let heads : 103 ≡ 98 =
          ap (λ (bytes : List ℕ). get_or bytes 0 0) e in absurd (omega (arith, heads))
      found (said.Get n value) h e =
          let tails : fields ≡ decimal n ++ space ∷
          (time_text value.time ++ space ∷ owner_text value.owner) = cc in
          let both = field.1 n (time_text value.time ++ space ∷ owner_text value.owner) h.0 tails in
          let parts = value_parts rest at name value cut h.1 both.1 in
          let made = h.1 in
          same_value n value both.0 (first.1 value.time made.time parts.0)
          (second.1 value.owner made.owner parts.1)
      found (said.Low n t) h e = let heads : 103 ≡ 108 =
          ap (λ (bytes : List ℕ). get_or bytes 0 0) e in absurd (omega (arith, heads))

-- ---- answers

-- an answer has a space
pub said_needs_a_space : (text : List ℕ) → IsWithout space text →
    ReadsBack IsWritableAnswer answer_text text None
said_needs_a_space text without = refused where
  refused : (s : CallAnswer) → IsWritableAnswer s → text ≢ answer_text s
  refused (said.Add place added) h e = no_cut space (codes "add") _ text without e
  refused (said.Batch place added) h e = no_cut space (codes "batch") _ text without e
  refused (said.Get front value) h e = no_cut space (codes "get") _ text without e
  refused (said.Low front time) h e = no_cut space (codes "low") _ text without e

-- a text of another word
pub wrong_word : (text word fields : List ℕ) → IsWithout space word ×
    (text ≡ word ++ space ∷ fields)
    → word ≢ codes "add" → word ≢ codes "batch" → word ≢ codes "get" → word ≢ codes "low" →
    ReadsBack IsWritableAnswer answer_text text None
wrong_word text word fields cut no_add no_batch no_get no_low = refused where
  refused : (s : CallAnswer) → IsWritableAnswer s → text ≢ answer_text s
  refused (said.Add place added) h e =
      no_add (cut_same space word fields (codes "add") _ cut.0 (without_by_test (codes "add") refl)
      (sym cut.1 ∙ e)).0
  refused (said.Batch place added) h e =
      no_batch (cut_same space word fields (codes "batch") _ cut.0
      (without_by_test (codes "batch") refl) (sym cut.1 ∙ e)).0
  refused (said.Get front value) h e =
      no_get (cut_same space word fields (codes "get") _ cut.0 (without_by_test (codes "get") refl)
      (sym cut.1 ∙ e)).0
  refused (said.Low front time) h e =
      no_low (cut_same space word fields (codes "low") _ cut.0 (without_by_test (codes "low") refl)
      (sym cut.1 ∙ e)).0

-- bytes that are no UTF-8 are no line
pub no_text : {E : Type 0} (text : List ℕ) (r : Result (Bor (List ℕ)) E) (Valid : E → Type 0)
    → MatchResult r (λ s. (s.now ≡ text) × IsUtf8 text) (λ e. (IsUtf8 text → ⊥) × Valid e) →
    None ≡ result_ok r → ReadsBack IsWritable line_text text None
no_text text (Ok s) Valid reported none = absurd cc
no_text text (Err fault) Valid reported none =
    λ line writable e. reported.0 (subst IsUtf8 (sym e)
    (IsUtf8-from_ascii (line_text line) (line_ascii line writable)))
