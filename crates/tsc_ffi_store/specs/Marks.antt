-- The marks that an array from C asks for. Their keys lie among bytes that come with it.
use Rattle.std.specs.Prelude.{◌≡◌, ◌⊎◌, ◌-◌, ◌&&◌, ℕ, List, [], ◌∷◌, length, take, drop, nat_le, Bool, true, Option, Some, None, if◌then◌else◌}
use Rattle.std.specs.List.{Contains}
use Rattle.tsc_time.specs.Time.{is_in_range}
use Rattle.tsc_span.specs.Span.{KeyBytes}
use Rattle.tsc_page_model.specs.Page.{Mark}
use Rattle.tsc_cache.specs.ConfigView.{ConfigView}
use Rattle.tsc_cache.specs.Batch.{all_fit}
use Rattle.tsc_ffi_store.specs.declared.ctypes.TscMark.{TscMark}
use Rattle.tsc_ffi_store.specs.declared.refusal.Refusal.{Refusal}
use Rattle.tsc_ffi_store.specs.declared.refusal.Refusal.TheVariants as refusal
use Rattle.tsc_ffi_store.specs.Decode.{AskedBatch, span_asked, value_of, NamesAddSpan, RefusesTime, RefusesAddSpan}

-- a part of some bytes, from an index on and of a length, where it lies within them
abbrev pub part_of : List ℕ → ℕ → ℕ → Option KeyBytes
part_of keys at len = if nat_le at (length keys) &&
    nat_le len (length keys - at) then Some (take len (drop at keys)) else None

-- A mark is the one that some words ask for: both of its keys are parts of the bytes, its span and
-- its value are those of the words, and the time is in range.
pub record IsMark (keys : List ℕ) (words : TscMark) (m : Mark) : Type 0 where
  pub from : KeyBytes
  pub to : KeyBytes
  pub from_lies : part_of keys words.from_at words.from_len ≡ Some from
  pub to_lies : part_of keys words.to_at words.to_len ≡ Some to
  pub names : NamesAddSpan (span_asked from to words.ends) m.span
  pub value : m.value ≡ value_of words.value
  pub time : is_in_range (value_of words.value).time ≡ true

-- Marks are those that an array asks for: as many, in their order.
abbrev pub AreMarks : List ℕ → List TscMark → List Mark → Type 0
AreMarks keys [] [] = Unit {0}
AreMarks keys [] (m ∷ ms) = ⊥
AreMarks keys (w ∷ ws) [] = ⊥
AreMarks keys (w ∷ ws) (m ∷ ms) = IsMark keys w m × AreMarks keys ws ms

-- Why a part of the bytes was refused.
abbrev pub RefusesPart : Refusal → List ℕ → ℕ → ℕ → Type 0
RefusesPart why keys at len = (why ≡ refusal.Outside) × (part_of keys at len ≡ None)

-- Why the keys of a mark and its ends name no span.
pub record RefusesMarkSpan (why : Refusal) (keys : List ℕ) (words : TscMark) : Type 0 where
  pub from : KeyBytes
  pub to : KeyBytes
  pub from_lies : part_of keys words.from_at words.from_len ≡ Some from
  pub to_lies : part_of keys words.to_at words.to_len ≡ Some to
  pub refused : RefusesAddSpan why (span_asked from to words.ends)

-- Why a mark was refused.
abbrev pub RefusesMark : Refusal → List ℕ → TscMark → Type 0
RefusesMark why keys words =
    RefusesTime why (value_of words.value).time ⊎
    RefusesPart why keys words.from_at words.from_len ⊎
    RefusesPart why keys words.to_at words.to_len ⊎ RefusesMarkSpan why keys words

-- Why an array of marks was refused: one of them is.
abbrev pub RefusesMarks : Refusal → List ℕ → List TscMark → Type 0
RefusesMarks why keys ws = (w : TscMark) × Contains ws w × RefusesMark why keys w

-- An array asks for marks, of which all fit a page, or not all.
pub record AskForMarks (config : ConfigView) (keys : List ℕ) (ws : List TscMark) (fit : Bool) : Type
    0 where
  pub marks : List Mark
  pub are : AreMarks keys ws marks
  pub fit_is : all_fit config marks ≡ fit

-- All that a call says of an Add of several marks is right: its moment is in range, and it names
-- these.
pub record NamesAddAll (asked : AskedBatch) (marks : List Mark) : Type 0 where
  pub moment : is_in_range asked.moment ≡ true
  pub are : AreMarks asked.keys asked.marks marks

-- Why what a call says of several marks is wrong.
abbrev pub RefusesBatch : Refusal → AskedBatch → Type 0
RefusesBatch why asked =
    RefusesTime why asked.moment ⊎ RefusesMarks why asked.keys asked.marks
