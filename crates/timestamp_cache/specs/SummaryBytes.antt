-- How a summary is written as bytes. Numbers have their high byte first.
use Rattle.std.specs.Prelude.{◌≡◌, ℕ, ◌<◌, ◌^◌, List, [], ◌∷◌, ◌++◌, length, Option, Some, None}
use Rattle.std.specs.Prelude.{true}
use Rattle.std.specs.List.{flat_map, AllByRecursion}
use Rattle.std.specs.Int.{w32, w64, to_be_bytes}
use Rattle.sha2.specs.Sha256.{sha256}
use Rattle.uuid.specs.Parts.{zero_bytes}
use Rattle.tsc_time.specs.Time.{Time, is_in_range}
use Rattle.tsc_time.specs.ValueView.{Owner, ValueView, IsMadeValue}
use Rattle.tsc_span.specs.Span.{KeyBytes, Cut, before, after, last, SpanView, nothing, between}
use Rattle.tsc_span.specs.MadeSpan.{IsMadeSpan}
use Rattle.tsc_page_model.specs.Page.{Mark}
use Rattle.timestamp_cache.specs.HandOver.{Summary}

-- a key: its length, and as many bytes
abbrev pub key_bytes : KeyBytes → List ℕ
key_bytes k = to_be_bytes w32 (length k) ++ k

-- a place between keys: which side of a key it is, and the key
abbrev pub cut_bytes : Cut → List ℕ
cut_bytes (before k) = 0 ∷ key_bytes k
cut_bytes (after k) = 1 ∷ key_bytes k
cut_bytes last = 2 ∷ []

-- a span: whether it is empty, and where it starts and stops
abbrev pub span_bytes : SpanView → List ℕ
span_bytes nothing = 0 ∷ []
span_bytes (between from to) = 1 ∷ cut_bytes from ++ cut_bytes to

abbrev pub time_bytes : Time → List ℕ
time_bytes t = to_be_bytes w64 t.wall ++ to_be_bytes w32 t.logical

-- an owner: its sixteen bytes, which are all zero where there is none
abbrev pub owner_bytes : Option Owner → List ℕ
owner_bytes None = zero_bytes
owner_bytes (Some o) = o

abbrev pub value_bytes : ValueView → List ℕ
value_bytes v = time_bytes v.time ++ owner_bytes v.owner

abbrev pub mark_bytes : Mark → List ℕ
mark_bytes m = span_bytes m.span ++ value_bytes m.value

-- how many marks there are, and the marks
abbrev pub marks_bytes : List Mark → List ℕ
marks_bytes ms = to_be_bytes w64 (length ms) ++ flat_map mark_bytes ms

abbrev pub content_bytes : Summary → List ℕ
content_bytes reported = span_bytes reported.span ++
    (time_bytes reported.floor ++ marks_bytes reported.marks)

-- the version, the length of the content, and the content
abbrev pub framed : List ℕ → List ℕ
framed content = 1 ∷ to_be_bytes w64 (length content) ++ content

-- bytes with their digest behind them
abbrev pub sealed : List ℕ → List ℕ
sealed bytes = bytes ++ sha256 bytes

abbrev pub summary_bytes : Summary → List ℕ
summary_bytes reported = sealed (framed (content_bytes reported))

-- a mark of a span and a value that can be made
abbrev pub IsMadeMark : Mark → Type 0
IsMadeMark m = IsMadeSpan m.span × IsMadeValue m.value

-- A summary that can be made: of a span, a time and marks that can be, and no longer than a length
-- tells.
pub record IsMadeSummary (reported : Summary) : Type 0 where
  pub span : IsMadeSpan reported.span
  pub floor : is_in_range reported.floor ≡ true
  pub marks : AllByRecursion IsMadeMark reported.marks
  pub count : length reported.marks < 2 ^ 64
  pub size : length (content_bytes reported) < 2 ^ 64
