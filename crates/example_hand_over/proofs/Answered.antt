-- What a table of reads leaves in a cache, and that a write which is clear of all that was read is
-- clear of it.
use Rattle.std.proofs.Common.{◌≡◌, ◌∙◌, ap, sym, subst, refl, zero, suc, List, [], ◌∷◌, ◌++◌, append_assoc, append-nil, length, true, false, arith}
use Rattle.std.specs.Prelude.{Option, Some, IfSome, unwrap_or}
use Rattle.std.specs.List.{Contains}
use Rattle.std.proofs.lemmas.List.Elements.{Contains-push}
use Rattle.tsc_cache.proofs.Beginnings.{begins_itself, begins_on, begins_entries}
use Rattle.timestamp_cache.specs.Words.{Time, is_before, Owner, ValueView, SpanView, point, overlaps, CacheView, ConfigView, History, BeginsWith, Mark, Entry, entry_of_mark}
use Rattle.timestamp_cache.specs.Clear.{IsClearOf}
use Rattle.timestamp_cache.specs.Earliest.{ReportsEarliest}
use Rattle.example_hand_over.specs.declared.Read.{Read}
use Rattle.example_hand_over.specs.declared.Write.{Write}
use Rattle.example_hand_over.specs.FormerReads.{read_of, HasReads, AnswersOneMore, IsClearOfFormerReads}
use Rattle.example_hand_over.specs.Tables.{time_at, id_of, span_of}
use Rattle.example_hand_over.specs.Answered.{AnswersRead, AnswersAll, all_answered, one_answered, HasAll, IsPushed, IsClear}

pub same_span : (a b : SpanView) → Some a ≡ Some b → a ≡ b
same_span a b is = ap (λ (o : Option SpanView). unwrap_or o a) is

-- what an answered read of a row's keys, time and transaction is
pub answers_row : (row : Read) (old new : CacheView) (span : SpanView) (at : Time) (by : Owner) →
    span_of row.from.now row.to.now ≡ Some span → at ≡ time_at row.wall → by ≡ id_of row.name
    → AnswersOneMore old new span (read_of at by) at → AnswersRead row old new
answers_row row old new span at by own is name more = record {
  span = span;
  own = own;
  more = subst (λ (t : Time). AnswersOneMore old new span (read_of t (id_of row.name)) t) is
      (subst (λ (o : Owner). AnswersOneMore old new span (read_of at o) at) name more);
}

-- what the next holder tells of a row's key, time and transaction
pub pushed_row : (former : CacheView) (range : SpanView) (row : Write) (span : SpanView) (at : Time)
    (by : Owner) (wanted : Time) (reported : Option Time) (P : Time → Type 0)
    → span ≡ point row.key.now → by ≡ id_of row.name → wanted ≡ time_at row.wall →
    reported ≡ Some at → IfSome reported (λ t. IsClearOfFormerReads former range span by t)
    → ReportsEarliest P wanted reported → IsPushed former range row at
pushed_row former range row span at by wanted reported P key name from is clear earliest =
    let at_earliest : ReportsEarliest P wanted (Some at) =
    subst (λ (o : Option Time). ReportsEarliest P wanted o) is earliest in
    let at_clear : IfSome (Some at) (λ t. IsClearOfFormerReads former range span by t) =
    subst (λ (o : Option Time). IfSome o (λ t. IsClearOfFormerReads former range span by t)) is
    clear in
    let of_key : IsClearOfFormerReads former range (point row.key.now) by at =
    subst (λ (s : SpanView). IsClearOfFormerReads former range s by at) key at_clear in
    record {
      from_on = subst (λ (w : Time). is_before at w ≡ false) from at_earliest.from_on;
      clear = subst (λ (o : Owner). IsClearOfFormerReads former range (point row.key.now) o at) name
          of_key;
    }

-- one more read is answered
pub answered_more : (old next new : CacheView) (reads : List Read) (read : Read) →
    AnswersAll old reads next → AnswersRead read next new → AnswersAll old (reads ++ read ∷ []) new
answered_more old next new reads read (all_answered cache) more =
    one_answered cache new new read [] more (all_answered new)
answered_more old next new reads read
    (one_answered first second last row others answers rest) more =
    one_answered first second new row (others ++ read ∷ []) answers
    (answered_more second last new others read rest more)

-- some of the reads are answered, and the others are left
pub record IsAnswering (first : CacheView) (reads : List Read) (cache : CacheView)
    (left : List Read) : Type 0 where
  pub before : List Read
  pub parts : reads ≡ before ++ left
  pub answers : AnswersAll first before cache

pub none_answered : (first : CacheView) (reads : List Read) → IsAnswering first reads first reads
none_answered first reads = record { before = []; parts = refl; answers = all_answered first }

pub answering_more : (first old new : CacheView) (reads left others : List Read) (read : Read) →
    IsAnswering first reads old left → left ≡ read ∷ others → AnswersRead read old new →
    IsAnswering first reads new others
answering_more first old new reads left others read way is more = record {
  before = way.before ++ read ∷ [];
  parts = way.parts ∙ ap (λ (rows : List Read). way.before ++ rows) is ∙
      sym (append_assoc way.before (read ∷ []) others);
  answers = answered_more first old new way.before read way.answers more;
}

pub answered_all : (first cache : CacheView) (reads left : List Read) →
    IsAnswering first reads cache left → length left ≡ 0 → AnswersAll first reads cache
answered_all first cache reads [] way is =
    subst (λ (rows : List Read). AnswersAll first rows cache)
    (sym (way.parts ∙ append-nil way.before)) way.answers
answered_all first cache reads (x ∷ left) way is = absurd (omega (arith, is))

-- where a history has a read of the table
record Found (h : History) (read : Read) (span : SpanView) : Type 0 where
  entry : Entry
  mark : Mark
  there : Contains h entry
  own : Contains entry.marks mark
  over : mark.span ≡ span
  value : mark.value ≡ read_of (time_at read.wall) (id_of read.name)

-- a cache that has answered a table has a history with all of it
record Reached (config : ConfigView) (h : History) (reads : List Read) (cache : CacheView) : Type
    0 where
  all : History
  has : HasReads cache config all
  begins : BeginsWith all h
  each : (read : Read) (span : SpanView) → Contains reads read →
      span_of read.from.now read.to.now ≡ Some span → Found all read span

-- the first read is in what a history goes on with
found_first : (all h : History) (row read : Read) (own span : SpanView) →
    BeginsWith all (h ++ entry_of_mark 0 0
    (record { span = own; value = read_of (time_at row.wall) (id_of row.name) })
    (time_at row.wall) ∷ [])
    → span_of row.from.now row.to.now ≡ Some own → row ≡ read →
    span_of read.from.now read.to.now ≡ Some span → Found all read span
found_first all h row read own span begins is same reported =
    let mark : Mark = record { span = own; value = read_of (time_at row.wall) (id_of row.name) } in
    let entry : Entry = entry_of_mark 0 0 mark (time_at row.wall) in
    record {
      entry = entry;
      mark = mark;
      there = begins_entries all (h ++ entry ∷ []) entry begins (Contains-push h entry);
      own = Contains-push [] mark;
      over = same_span own span (sym is ∙
          ap (λ (r : Read). span_of r.from.now r.to.now) same ∙ reported);
      value = ap (λ (r : Read). read_of (time_at r.wall) (id_of r.name)) same;
    }

reached : (config : ConfigView) (old new : CacheView) (reads : List Read) (h : History) →
    HasReads old config h → AnswersAll old reads new → Reached config h reads new
reached config old new reads h has (all_answered cache) = record {
  all = h;
  has = has;
  begins = begins_itself h;
  each = λ read span there own. absurd (omega (arith, there.1));
}
reached config old new reads h has (one_answered first next last row others answers rest) =
    let mark : Mark = record {
      span = answers.span;
      value = read_of (time_at row.wall) (id_of row.name);
    } in
    let entry : Entry = entry_of_mark 0 0 mark (time_at row.wall) in
    go (reached config next last others (h ++ entry ∷ []) (answers.more config h 0 0 has) rest)
  where
    go : Reached config (h ++ entry_of_mark 0 0
        (record { span = answers.span; value = read_of (time_at row.wall) (id_of row.name) })
        (time_at row.wall) ∷ []) others last → Reached config h (row ∷ others) last
    go r = record {
      all = r.all;
      has = r.has;
      begins = begins_on r.all _ h r.begins (
        entry_of_mark 0 0 (record {
          span = answers.span;
          value = read_of (time_at row.wall) (id_of row.name);
        }) (time_at row.wall) ∷ [],
        refl,
      );
      each = each_of r;
    }
      where
        each_of : Reached config
            (h ++ entry_of_mark 0 0
            (record { span = answers.span; value = read_of (time_at row.wall) (id_of row.name) })
            (time_at row.wall) ∷ []) others last
            → (read : Read) (span : SpanView) → Contains (row ∷ others) read →
            span_of read.from.now read.to.now ≡ Some span → Found r.all read span
        each_of s read span (zero, below, is) own =
            found_first r.all h row read answers.span span r.begins answers.own is own
        each_of s read span (suc k, below, is) own =
            r.each read span (k, omega (arith, below), is) own

-- A write that is clear of all that a cache has answered is clear of each read of its table.
pub clear_of_table : (cache : CacheView) (reads : List Read) (range : SpanView) (write : Write)
    (at : Time) → HasAll cache reads → IsPushed cache range write at → IsClear reads range write at
clear_of_table cache reads range write at has pushed =
    let r = reached has.config has.first cache reads [] has.new has.answers in
    record {
      from_on = pushed.from_on;
      clear = λ within read span there own over.
          let found = r.each read span there own in
          subst (λ (value : ValueView). IsClearOf value (id_of write.name) at) found.value
          (pushed.clear within has.config r.all r.has found.entry found.mark found.there found.own
          (subst (λ (s : SpanView). overlaps s (point write.key.now) ≡ true) (sym found.over)
          over));
    }
