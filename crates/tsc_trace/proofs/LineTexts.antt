-- The texts of a log's line: which bytes they have, and that no two values have one text.
use Rattle.std.proofs.Common.{◌≡◌, ◌≢◌, ℕ, ◌<◌, ◌≤◌, ◌^◌, List, [], ◌∷◌, ◌++◌, length, get_or, Bool, true, false, Option, Some, None, All, codes, decimal, if◌then◌else◌, nat_lt, ◌&&◌, true≢false, refl, sym, ap, ◌∙◌, arith}
use Rattle.std.proofs.lemmas.Bool.Decides.{nat_tests}
use Rattle.std.proofs.lemmas.Fmt.{decimal_is_IsNumeral}
use Rattle.std.proofs.lemmas.Str.Parse.{digit_at}
use Rattle.std.proofs.lemmas.Str.Ascii.{IsAscii-from_all}
use Rattle.std.proofs.lemmas.List.Elements.{All-append, All-cons, All-nil, All-weaker, All-from_get_or}
use Rattle.std.specs.Str.{IsAscii}
use Rattle.std.specs.List.{list_all}
use Rattle.std.proofs.lemmas.Bool.{and_parts}
use Rattle.uuid.specs.Text.{hex_digit, nibble, hyphenated_text, lower, is_hyphen_place, digit_place}
use Rattle.uuid.proofs.TextLemmas.{by_index_length, by_index_at, nibble_small}
use Rattle.tsc_time.proofs.TimeOrder.{parts_below}
use Rattle.tsc_time.specs.Time.{Time, is_in_range}
use Rattle.tsc_time.specs.ValueView.{Owner}
use Rattle.tsc_trace.specs.declared.log.Line.{Line}
use Rattle.tsc_trace.specs.declared.log.CallAnswer.{CallAnswer}
use Rattle.tsc_trace.specs.declared.log.CallAnswer.TheVariants as said
use Rattle.tsc_trace.specs.LogText.{space, dot, line_feed, bit_text, time_text, owner_text, answer_text, line_text}
use Rattle.tsc_trace.specs.LogReading.{IsWritable, IsWritableAnswer}
use Rattle.tsc_trace.specs.ReadingBack.{IsWithout}

-- a byte that a line may have: ASCII, and no control character
abbrev pub IsPlain : ℕ → Type 0
IsPlain b = (32 ≤ b) × (b < 128)

abbrev pub IsDigit : ℕ → Type 0
IsDigit b = (48 ≤ b) × (b ≤ 57)

-- ---- which bytes

pub decimal_digits : (n : ℕ) → n < 2 ^ 64 → All IsDigit (decimal n)
decimal_digits n small = All-from_get_or IsDigit (decimal n) 0
    (λ i within. let d = digit_at (decimal n) i (decimal_is_IsNumeral n small).0.1 within
    in (omega (arith, d), omega (arith, d)))

pub decimal_without : (mark n : ℕ) → n < 2 ^ 64 → mark < 48 → IsWithout mark (decimal n)
decimal_without mark n small below =
    All-weaker IsDigit (λ b. b ≢ mark) (λ b digit same. omega arith) (decimal n)
    (decimal_digits n small)

-- each byte of a text is plain
pub record IsPlainText (text : List ℕ) : Type 0 where
  pub bytes : All IsPlain text

decimal_plain : (n : ℕ) → n < 2 ^ 64 → IsPlainText (decimal n)
decimal_plain n small = record {
  bytes = All-weaker IsDigit IsPlain
      (λ b digit. (omega arith, omega arith)) (decimal n) (decimal_digits n small);
}

-- two texts with a plain byte between them
between : {a b : List ℕ} (mark : ℕ) → IsPlain mark → IsPlainText a → IsPlainText b →
    IsPlainText (a ++ mark ∷ b)
between {a} {b} mark plain first second =
    record {
      bytes = All-append IsPlain a (mark ∷ b) first.bytes
          (All-cons IsPlain mark b plain second.bytes);
    }

is_plain : (b : ℕ) → nat_lt 31 b ≡ true → nat_lt b 128 ≡ true → IsPlain b
is_plain b low high = grind (arith, nat_tests)

-- a text of which a test of each byte says that it is plain
plain_by_test : (text : List ℕ) → list_all (λ b. nat_lt 31 b && nat_lt b 128) text ≡ true →
    All IsPlain text
plain_by_test [] h = All-nil IsPlain
plain_by_test (b ∷ text) h =
    let both = and_parts (nat_lt 31 b && nat_lt b 128)
    (list_all (λ b. nat_lt 31 b && nat_lt b 128) text) h in
    let here = and_parts (nat_lt 31 b) (nat_lt b 128) both.0 in
    All-cons IsPlain b text (is_plain b here.0 here.1) (plain_by_test text both.1)

word_plain : (text : List ℕ) → list_all (λ b. nat_lt 31 b && nat_lt b 128) text ≡ true →
    IsPlainText text
word_plain text h = record { bytes = plain_by_test text h }

bit_plain : (b : Bool) → IsPlainText (bit_text b)
bit_plain true = word_plain (codes "1") refl
bit_plain false = word_plain (codes "0") refl

time_plain : (t : Time) → is_in_range t ≡ true → IsPlainText (time_text t)
time_plain t in_range =
    let below = parts_below t in_range in
    let logical : t.logical < 2 ^ 64 = omega arith in
    between dot (is_plain 46 refl refl) (decimal_plain t.wall below.0)
    (decimal_plain t.logical logical)

hex_plain : (d : ℕ) → d < 16 → IsPlain (hex_digit lower d)
hex_plain d small = grind (arith, nat_tests)

place_plain : (b : Bool) (d : ℕ) → d < 16 → IsPlain (if b then 45 else hex_digit lower d)
place_plain true d small = is_plain 45 refl refl
place_plain false d small = hex_plain d small

-- the byte at a place of a UUID's text
uuid_byte : List ℕ → ℕ → ℕ
uuid_byte uuid k = if is_hyphen_place k then 45 else hex_digit lower (nibble uuid (digit_place k))

pub uuid_length : (uuid : List ℕ) → length (hyphenated_text lower uuid) ≡ 36
unfolding uuid_byte
uuid_length uuid = by_index_length 36 (uuid_byte uuid)

uuid_bytes_plain : (uuid : List ℕ) (k : ℕ) → k < length (hyphenated_text lower uuid) →
    IsPlain (get_or (hyphenated_text lower uuid) k 0)
unfolding uuid_byte
uuid_bytes_plain uuid k within =
    let here : k < 36 = rw (by_index_length 36 (uuid_byte uuid)) at within in
    rw (by_index_at 36 (uuid_byte uuid) k 0 here)
    (place_plain (is_hyphen_place k) (nibble uuid (digit_place k))
    (nibble_small uuid (digit_place k)))

owner_plain : (owner : Option Owner) → IsPlainText (owner_text owner)
owner_plain None = word_plain (codes "none") refl
owner_plain (Some uuid) = record {
  bytes = All-from_get_or IsPlain (hyphenated_text lower uuid) 0
      (uuid_bytes_plain uuid);
}

spaced : {a b : List ℕ} → IsPlainText a → IsPlainText b → IsPlainText (a ++ space ∷ b)
spaced first second = between space (is_plain 32 refl refl) first second

said_plain : (s : CallAnswer) → IsWritableAnswer s → IsPlainText (answer_text s)
said_plain (said.Add place added) h =
    spaced (word_plain (codes "add") refl)
    (spaced (decimal_plain place h.0)
    (spaced (bit_plain added.kept)
    (spaced (bit_plain added.rotated) (decimal_plain added.evicted h.1))))
said_plain (said.Batch place added) h =
    spaced (word_plain (codes "batch") refl)
    (spaced (decimal_plain place h.0)
    (spaced (bit_plain added.kept)
    (spaced (bit_plain added.rotated) (decimal_plain added.evicted h.1))))
said_plain (said.Get front value) h =
    spaced (word_plain (codes "get") refl)
    (spaced (decimal_plain front h.0)
    (spaced (time_plain value.time h.1.time) (owner_plain value.owner)))
said_plain (said.Low front time) h =
    spaced (word_plain (codes "low") refl) (spaced (decimal_plain front h.0) (time_plain time h.1))

line_plain : (line : Line) → IsWritable line → IsPlainText (line_text line)
line_plain line h =
    let thread : line.thread < 2 ^ 64 = let t = h.thread in omega arith in
    let index : line.index < 2 ^ 64 = let i = h.index in omega arith in
    spaced (decimal_plain line.thread thread)
    (spaced (decimal_plain line.index index) (said_plain line.said h.said))

pub line_without_feed : (line : Line) → IsWritable line → IsWithout line_feed (line_text line)
line_without_feed line h = All-weaker IsPlain (λ b. b ≢ line_feed) (λ b plain same. omega arith)
    (line_text line) (line_plain line h).bytes

pub line_ascii : (line : Line) → IsWritable line → IsAscii (line_text line)
line_ascii line h = IsAscii-from_all (line_text line)
    (All-weaker IsPlain (λ b. b < 128) (λ b plain. plain.1) (line_text line)
    (line_plain line h).bytes)

pub time_without_space : (t : Time) → is_in_range t ≡ true → IsWithout space (time_text t)
time_without_space t in_range =
    let below = parts_below t in_range in
    let logical : t.logical < 2 ^ 64 = omega arith in
    All-append (λ b. b ≢ space) (decimal t.wall) _
    (decimal_without space t.wall below.0 (omega arith))
    (All-cons (λ b. b ≢ space) dot (decimal t.logical) (λ same. absurd (omega arith))
    (decimal_without space t.logical logical (omega arith)))

above_space : (b : ℕ) → nat_lt space b ≡ true → b ≢ space
above_space b above same = let test : nat_lt space space ≡ true = ap (nat_lt space) (sym same) ∙
    above in absurd (true≢false (sym test))

-- a text of which a test of each byte says that it is no space
pub without_by_test : (text : List ℕ) → list_all (nat_lt space) text ≡ true → IsWithout space text
without_by_test [] h = All-nil (λ b. b ≢ space)
without_by_test (b ∷ text) h =
    let both = and_parts (nat_lt space b) (list_all (nat_lt space) text) h in
    All-cons (λ b. b ≢ space) b text (above_space b both.0) (without_by_test text both.1)

pub bit_without_space : (b : Bool) → IsWithout space (bit_text b)
bit_without_space true = without_by_test (codes "1") refl
bit_without_space false = without_by_test (codes "0") refl
