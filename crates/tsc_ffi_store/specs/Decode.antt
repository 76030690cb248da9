-- What the arguments of a call from C ask for, and why they are refused.
use Rattle.std.specs.Prelude.{◌≡◌, ◌⊎◌, ◌<◌, ◌≤◌, ◌==◌, ℕ, List, length, Bool, true, false, Option, Some, None, Result, Ok, Err, if◌then◌else◌}
use Rattle.tsc_time.specs.Time.{Time, is_in_range}
use Rattle.tsc_time.specs.ValueView.{ValueView, owner_of}
use Rattle.tsc_span.specs.declared.span.Ends.{Ends}
use Rattle.tsc_span.specs.Span.{KeyBytes, SpanView, longest_key, point, range, range_for_lookup, onward, is_inverted}
use Rattle.tsc_cache.specs.declared.added.Added.{Added}
use Rattle.tsc_cache.specs.declared.config.ConfigFault.{ConfigFault}
use Rattle.tsc_cache.specs.declared.config.ConfigFault.TheVariants as fault
use Rattle.tsc_cache.specs.declared.figures.Figures.{Figures}
use Rattle.tsc_cache.specs.ConfigView.{ConfigView, made_config}
use Rattle.tsc_ffi_store.specs.declared.counts.Counts.{Counts}
use Rattle.tsc_ffi_store.specs.declared.ctypes.TscTime.{TscTime}
use Rattle.tsc_ffi_store.specs.declared.ctypes.TscValue.{TscValue}
use Rattle.tsc_ffi_store.specs.declared.ctypes.TscAdded.{TscAdded}
use Rattle.tsc_ffi_store.specs.declared.ctypes.TscFigures.{TscFigures}
use Rattle.tsc_ffi_store.specs.declared.ctypes.TscMark.{TscMark}
use Rattle.tsc_ffi_store.specs.declared.ctypes.SpanArgs.{SpanArgs}
use Rattle.tsc_ffi_store.specs.declared.ctypes.AddArgs.{AddArgs}
use Rattle.tsc_ffi_store.specs.declared.ctypes.BatchArgs.{BatchArgs}
use Rattle.tsc_ffi_store.specs.declared.ctypes.ConfigArgs.{ConfigArgs}
use Rattle.tsc_ffi_store.specs.declared.decode.Form.{Form}
use Rattle.tsc_ffi_store.specs.declared.decode.Form.TheVariants.{Point, Range, Onward}
use Rattle.tsc_ffi_store.specs.declared.refusal.Refusal.{Refusal}
use Rattle.tsc_ffi_store.specs.declared.refusal.Refusal.TheVariants as refusal

-- the time of some words
abbrev pub time_of : TscTime → Time
time_of words = record { wall = words.wall; logical = words.logical }

-- the value of some words: sixteen zero bytes name no owner
abbrev pub value_of : TscValue → ValueView
value_of words = record {
  time = record { wall = words.wall; logical = words.logical };
  owner = owner_of words.owner;
}

-- what an Add did, by the words that tell it
abbrev pub added_of : TscAdded → Added
added_of words = record { kept = words.kept; rotated = words.rotated; evicted = words.evicted }

-- the words that tell figures, all but the floor, with the memory that they take and what was asked
abbrev pub figures_reported : Figures → ℕ → Counts → TscFigures
figures_reported figures memory counts = record {
  pages = figures.pages;
  rotations = figures.rotations;
  nodes = figures.nodes;
  bytes = figures.bytes;
  memory = memory;
  adds = counts.adds;
  refusals = counts.refusals;
  lookups = counts.lookups;
  evicted = counts.evicted;
}

-- What a call says of a span: two keys, and a number for its ends.
pub record AskedSpan : Type 0 where
  pub from : KeyBytes
  pub to : KeyBytes
  pub ends : ℕ

abbrev pub span_asked : KeyBytes → KeyBytes → ℕ → AskedSpan
span_asked from to ends = record { from = from; to = to; ends = ends }

abbrev pub asked_span : SpanArgs → AskedSpan
asked_span args = span_asked args.from.now args.to.now args.ends

-- What a call says of an Add of one span.
pub record AskedAdd : Type 0 where
  pub span : AskedSpan
  pub value : ValueView
  pub moment : Time

abbrev pub add_asked : AskedSpan → TscValue → TscTime → AskedAdd
add_asked span value moment = record {
  span = span;
  value = value_of value;
  moment = time_of moment;
}

abbrev pub asked_add : AddArgs → AskedAdd
asked_add args = add_asked (asked_span args.span) args.value.now args.moment.now

-- What a call says of an Add of several marks.
pub record AskedBatch : Type 0 where
  pub keys : List ℕ
  pub marks : List TscMark
  pub moment : Time

abbrev pub batch_asked : List ℕ → List TscMark → TscTime → AskedBatch
batch_asked keys marks moment = record { keys = keys; marks = marks; moment = time_of moment }

abbrev pub asked_batch : BatchArgs → AskedBatch
asked_batch args = batch_asked args.keys.now args.marks.now args.moment.now

-- What a call says of a configuration.
pub record AskedConfig : Type 0 where
  pub page_first : ℕ
  pub page_max : ℕ
  pub min_pages : ℕ
  pub retention : ℕ
  pub low_water : Time

abbrev pub config_asked : ℕ → ℕ → ℕ → ℕ → TscTime → AskedConfig
config_asked page_first page_max min_pages retention low_water =
    record {
      page_first = page_first;
      page_max = page_max;
      min_pages = min_pages;
      retention = retention;
      low_water = time_of low_water;
    }

abbrev pub asked_config : ConfigArgs → AskedConfig
asked_config args = config_asked args.page_first args.page_max args.min_pages args.retention
    args.low_water.now

-- the settings that a call names
abbrev pub config_of_asked : AskedConfig → Result ConfigView ConfigFault
config_of_asked asked = made_config asked.page_first asked.page_max asked.min_pages asked.retention
    asked.low_water

-- a range, and which of its ends are excluded
abbrev pub ranged : Bool → Bool → Form
ranged from to = Range (record { exclude_from = from; exclude_to = to })

-- What a number says of the ends of a span: one excludes the first key, two the second, four means
-- that there is no end, and eight the first key alone.
abbrev pub form_of : ℕ → Option Form
form_of ends =
    if ends == 0 then Some (ranged false false)
    else if ends == 1 then Some (ranged true false)
    else if ends == 2 then Some (ranged false true)
    else if ends == 3 then Some (ranged true true)
    else if ends == 4 then Some (Onward false)
    else if ends == 5 then Some (Onward true)
    else if ends == 8 then Some Point
    else None

-- The span to be added that two keys name in a form. The second key is passed over where the form
-- has none.
abbrev pub formed_to_add : KeyBytes → KeyBytes → Option Form → Option SpanView
formed_to_add from to None = None
formed_to_add from to (Some Point) = Some (point from)
formed_to_add from to (Some (Range ends)) = range from to ends.exclude_from ends.exclude_to
formed_to_add from to (Some (Onward excluded)) = Some (onward from excluded)

-- the span of a form that is to be looked up, in which an inverted range is the empty span
abbrev pub formed_to_look_up : KeyBytes → KeyBytes → Option Form → Option SpanView
formed_to_look_up from to None = None
formed_to_look_up from to (Some Point) = Some (point from)
formed_to_look_up from to (Some (Range ends)) =
    Some (range_for_lookup from to ends.exclude_from ends.exclude_to)
formed_to_look_up from to (Some (Onward excluded)) = Some (onward from excluded)

-- the span to be added that a call names
abbrev pub add_span : AskedSpan → Option SpanView
add_span asked = formed_to_add asked.from asked.to (form_of asked.ends)

-- the span to be looked up
abbrev pub lookup_span : AskedSpan → Option SpanView
lookup_span asked = formed_to_look_up asked.from asked.to (form_of asked.ends)

-- Why a time was refused.
abbrev pub RefusesTime : Refusal → Time → Type 0
RefusesTime why t = (why ≡ refusal.Time) × (is_in_range t ≡ false)

-- Why ends were refused. A lookup asks no more of its keys and their ends.
abbrev pub RefusesEnds : Refusal → ℕ → Type 0
RefusesEnds why ends = (why ≡ refusal.Ends) × (form_of ends ≡ None)

-- Why a key was refused: it is too long.
abbrev pub RefusesKey : Refusal → KeyBytes → Type 0
RefusesKey why key = (why ≡ refusal.KeyTooLong) × (longest_key < length key)

-- a key is not too long
abbrev pub IsShort : KeyBytes → Type 0
IsShort key = length key ≤ longest_key

-- Two keys name this range, and neither is too long.
abbrev pub NamesRange : KeyBytes → KeyBytes → Ends → SpanView → Type 0
NamesRange from to ends span = IsShort from × IsShort to ×
    (range from to ends.exclude_from ends.exclude_to ≡ Some span)

-- Why two keys name no range.
abbrev pub RefusesRange : Refusal → KeyBytes → KeyBytes → Type 0
RefusesRange why from to = RefusesKey why from ⊎ RefusesKey why to ⊎
    ((why ≡ refusal.Inverted) × (is_inverted from to ≡ true))

-- Why a second key was refused, which only a range has.
abbrev pub RefusesSecondKey : Refusal → KeyBytes → ℕ → Type 0
RefusesSecondKey why to ends = (excluded : Ends) × (form_of ends ≡ Some (Range excluded)) ×
    RefusesKey why to

-- the keys that a form has are not too long
abbrev pub AreShort : KeyBytes → KeyBytes → Option Form → Type 0
AreShort from to None = ⊥
AreShort from to (Some Point) = IsShort from
AreShort from to (Some (Range ends)) = IsShort from × IsShort to
AreShort from to (Some (Onward excluded)) = IsShort from

-- A call names this span to be added, and none of its keys is too long.
pub record NamesAddSpan (asked : AskedSpan) (span : SpanView) : Type 0 where
  pub named : add_span asked ≡ Some span
  pub short : AreShort asked.from asked.to (form_of asked.ends)

-- A call names a range from a key to a smaller one.
abbrev pub IsInverted : AskedSpan → Type 0
IsInverted asked = (excluded : Ends) × (form_of asked.ends ≡ Some (Range excluded)) ×
    (is_inverted asked.from asked.to ≡ true)

-- Why a call names no span to be added.
abbrev pub RefusesAddSpan : Refusal → AskedSpan → Type 0
RefusesAddSpan why asked =
    RefusesEnds why asked.ends ⊎ RefusesKey why asked.from ⊎
    RefusesSecondKey why asked.to asked.ends ⊎ ((why ≡ refusal.Inverted) × IsInverted asked)

-- Two keys name a range, but there is no memory for a copy of them.
pub record LacksRangeCopy (why : Refusal) (from to : KeyBytes) (ends : Ends) : Type 0 where
  pub span : SpanView
  pub names : NamesRange from to ends span
  pub reported : why ≡ refusal.NoMemory

-- A call names a span, but there is no memory for a copy of its keys.
pub record LacksCopy (why : Refusal) (asked : AskedSpan) : Type 0 where
  pub span : SpanView
  pub names : NamesAddSpan asked span
  pub reported : why ≡ refusal.NoMemory

-- Why there is no copy of the span that a call names.
abbrev pub RefusesCopy : Refusal → AskedSpan → Type 0
RefusesCopy why asked = RefusesAddSpan why asked ⊎ LacksCopy why asked

-- All that a call says of an Add is right: its times are in range, and it names this span.
pub record NamesAdd (asked : AskedAdd) (span : SpanView) : Type 0 where
  pub value_time : is_in_range asked.value.time ≡ true
  pub moment : is_in_range asked.moment ≡ true
  pub names : NamesAddSpan asked.span span

-- Why what a call says of an Add is wrong.
abbrev pub RefusesNamed : Refusal → AskedAdd → Type 0
RefusesNamed why asked =
    RefusesTime why asked.value.time ⊎ RefusesTime why asked.moment ⊎
    RefusesAddSpan why asked.span

-- Why a call names no span to be written, whose keys may be of any length.
abbrev pub RefusesWrittenSpan : Refusal → AskedSpan → Type 0
RefusesWrittenSpan why asked = RefusesEnds why asked.ends ⊎
    ((why ≡ refusal.Inverted) × IsInverted asked)

-- A call names these settings, and the time of its low water is in range.
pub record NamesConfig (asked : AskedConfig) (config : ConfigView) : Type 0 where
  pub low_water : is_in_range asked.low_water ≡ true
  pub named : config_of_asked asked ≡ Ok config

-- Why settings were refused.
abbrev pub RefusesConfigFault : Refusal → ConfigFault → Type 0
RefusesConfigFault why f = ((why ≡ refusal.PageSize) × (f ≡ fault.PageSize)) ⊎
    ((why ≡ refusal.MinPages) × (f ≡ fault.MinPages)) ⊎
    ((why ≡ refusal.Retention) × (f ≡ fault.Retention))

-- Settings of these numbers were refused.
pub record RefusesNumbers (why : Refusal) (page_first page_max min_pages retention : ℕ)
    (low_water : Time) : Type 0 where
  pub fault : ConfigFault
  pub refused : made_config page_first page_max min_pages retention low_water ≡ Err fault
  pub reported : RefusesConfigFault why fault

-- Why a configuration was refused.
abbrev pub RefusesConfig : Refusal → AskedConfig → Type 0
RefusesConfig why asked = RefusesTime why asked.low_water ⊎
    RefusesNumbers why asked.page_first asked.page_max asked.min_pages asked.retention
    asked.low_water
