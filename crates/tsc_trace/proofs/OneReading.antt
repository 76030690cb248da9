-- The bytes of a log read as one thing only.
use Rattle.std.proofs.Common.{◌≡◌, ◌≢◌, ℕ, suc, ◌+◌, ◌<◌, ◌≤◌, List, [], ◌∷◌, ◌++◌, length, take, drop, All, Result, Ok, Err, inl, inr, ◌⊎◌, refl, sym, ap, ◌∙◌, arith, append_assoc, length-append}
use Rattle.std.proofs.lemmas.List.{append-nil, take-append-drop, length-take-le, length-drop}
use Rattle.std.proofs.lemmas.List.Concat.{flat_map-append}
use Rattle.std.proofs.lemmas.Bool.{cases_lt}
use Rattle.std.proofs.lemmas.List.Elements.{All-head, All-tail, All-take}
use Rattle.tsc_trace.specs.declared.log.Line.{Line}
use Rattle.tsc_trace.specs.declared.log.Log.{Log}
use Rattle.tsc_trace.specs.declared.log_reader.LogFault.{LogFault}
use Rattle.tsc_trace.specs.declared.log_reader.LogFault.TheVariants.{Text, Length, NoMemory}
use Rattle.tsc_trace.specs.LogText.{line_feed, line_text, log_text}
use Rattle.tsc_trace.specs.Limits.{most_lines}
use Rattle.tsc_trace.specs.LogReading.{IsWritable, IsTextOf, HasNoLine, IsWrongAt, IsTooLong, ReadsAs, OneReading, ReadsBackLogs, ReadsAgain}
use Rattle.tsc_trace.proofs.OneText.{same_line_then}

ended : (mark : ℕ) (a b c : List ℕ) → ((a ++ mark ∷ []) ++ b) ++ c ≡ a ++ mark ∷ (b ++ c)
ended mark a b c = simp append_assoc

-- the text of lines with a rest behind it, by its first line
first_line : (line : Line) (lines : List Line) (rest : List ℕ) →
    log_text (line ∷ lines) ++ rest ≡ line_text line ++ line_feed ∷ (log_text lines ++ rest)
first_line line lines rest = ended line_feed (line_text line) (log_text lines) rest

-- what a longer reading has beyond a shorter one of the same bytes
record GoesOn (lines others : List Line) (rest after : List ℕ) : Type 0 where
  more : List Line
  lines_on : others ≡ lines ++ more
  text_on : rest ≡ log_text more ++ after
  writable : All IsWritable more

goes_on : (lines others : List Line) (rest after : List ℕ) → All IsWritable lines →
    All IsWritable others → length lines ≤ length others
    → log_text lines ++ rest ≡ log_text others ++ after → GoesOn lines others rest after
goes_on [] others rest after all all' short e =
    record { more = others; lines_on = refl; text_on = e; writable = all' }
goes_on (line ∷ lines) [] rest after all all' short e = absurd (omega arith)
goes_on (line ∷ lines) (other ∷ others) rest after all all' short e =
    let same = same_line_then line other (log_text lines ++ rest) (log_text others ++ after)
    (All-head IsWritable line lines all) (All-head IsWritable other others all')
    (sym (first_line line lines rest) ∙ e ∙ first_line other others after) in
    let on = goes_on lines others rest after (All-tail IsWritable line lines all)
    (All-tail IsWritable other others all') (omega arith) same.1 in
    let heads : line ≡ other = same.0 in
    let tails : others ≡ lines ++ on.more = on.lines_on in
    record { more = on.more; lines_on = cc; text_on = on.text_on; writable = on.writable }

-- lines that were read, and a rest at which reading stops
record IsReading (bytes : List ℕ) (lines : List Line) (rest : List ℕ) : Type 0 where
  text : bytes ≡ log_text lines ++ rest
  writable : All IsWritable lines
  within : length lines ≤ most_lines
  stops : HasNoLine rest ⊎ (length lines ≡ most_lines)

-- reading that stopped doesn't go on
same_end : (lines others more : List Line) (rest after : List ℕ) → length others ≤ most_lines →
    HasNoLine rest ⊎ (length lines ≡ most_lines)
    → others ≡ lines ++ more → rest ≡ log_text more ++ after → All IsWritable more →
    (lines ≡ others) × (rest ≡ after)
same_end lines others [] rest after within stops lines_on text_on all =
    (sym (lines_on ∙ append-nil lines), text_on)
same_end lines others (line ∷ more) rest after within (inl none) lines_on text_on all =
    absurd (none line (log_text more ++ after) (All-head IsWritable line more all)
    (text_on ∙ first_line line more after))
same_end lines others (line ∷ more) rest after within (inr full) lines_on text_on all =
    let long : length others ≡ length lines + length (line ∷ more) = ap length lines_on ∙
    length-append lines (line ∷ more) in absurd (omega arith)

shorter_first : (bytes : List ℕ) (lines others : List Line) (rest after : List ℕ) →
    IsReading bytes lines rest → IsReading bytes others after → length lines ≤ length others
    → (lines ≡ others) × (rest ≡ after)
shorter_first bytes lines others rest after a b short =
    let on = goes_on lines others rest after a.writable b.writable short (sym a.text ∙ b.text) in
    same_end lines others on.more rest after b.within a.stops on.lines_on on.text_on on.writable

same_reading : (bytes : List ℕ) (lines others : List Line) (rest after : List ℕ) →
    IsReading bytes lines rest → IsReading bytes others after → (lines ≡ others) × (rest ≡ after)
same_reading bytes lines others rest after a b =
    elim (cases_lt (length lines) (length others)) [
      | inl shorter ↦ shorter_first bytes lines others rest after a b (omega arith)
      | inr longer ↦ let back = shorter_first bytes others lines after rest b a longer
          in (sym back.0, sym back.1)
    ]

-- a text with a line feed in it is not empty
not_nothing : (text after : List ℕ) → [] ≢ text ++ line_feed ∷ after
not_nothing text after e = let long : 0 ≡ length text + suc (length after) =
    ap length e ∙ length-append text (line_feed ∷ after) in absurd (omega (arith, long))

nothing_has_no_line : HasNoLine []
nothing_has_no_line line after writable = not_nothing (line_text line) after

log_reading : (bytes : List ℕ) (lines : List Line) → IsTextOf bytes lines → IsReading bytes lines []
log_reading bytes lines is = let is_log = is.is_log in
    record {
      text = is.text ∙ sym (append-nil (log_text lines));
      writable = is_log.writable;
      within = is_log.within;
      stops = inl nothing_has_no_line;
    }

wrong_reading : (bytes : List ℕ) (number : ℕ) (is : IsWrongAt bytes number) →
    IsReading bytes is.before is.rest
wrong_reading bytes number is = let room =
    is.room in record {
      text = is.text;
      writable = is.writable;
      within = omega arith;
      stops = inl is.wrong;
    }

long_reading : (bytes : List ℕ) (is : IsTooLong bytes) → IsReading bytes is.before is.rest
long_reading bytes is = let full =
    is.full in record {
      text = is.text;
      writable = is.writable;
      within = omega arith;
      stops = inr is.full;
    }

-- a log's text is neither wrong at a line nor too long
not_wrong : (bytes : List ℕ) (lines : List Line) (number : ℕ) → IsTextOf bytes lines →
    IsWrongAt bytes number → ⊥
not_wrong bytes lines number is wrong =
    wrong.more (sym (same_reading bytes lines wrong.before [] wrong.rest
    (log_reading bytes lines is) (wrong_reading bytes number wrong)).1)

not_long : (bytes : List ℕ) (lines : List Line) → IsTextOf bytes lines → IsTooLong bytes → ⊥
not_long bytes lines is long = long.more
    (sym (same_reading bytes lines long.before [] long.rest (log_reading bytes lines is)
    (long_reading bytes long)).1)

-- what is wrong at a line is not too long
wrong_or_long : (bytes : List ℕ) (number : ℕ) → IsWrongAt bytes number → IsTooLong bytes → ⊥
wrong_or_long bytes number wrong long =
    let same : wrong.before ≡ long.before =
    (same_reading bytes wrong.before long.before wrong.rest long.rest
    (wrong_reading bytes number wrong) (long_reading bytes long)).0 in
    let lengths : length wrong.before ≡ length long.before = ap length same in
    let room = wrong.room in
    let full = long.full in
    omega arith

pub one_reading : OneReading
one_reading bytes (Ok log) (Ok other) some some' is is' =
    let same : log.lines ≡ other.lines =
    (same_reading bytes log.lines other.lines [] [] (log_reading bytes log.lines is)
    (log_reading bytes other.lines is')).0 in
    ap (λ (lines : List Line). Ok (record { lines = lines })) same
one_reading bytes (Ok log) (Err (Text number)) some some' is is' =
    absurd (not_wrong bytes log.lines number is is')
one_reading bytes (Ok log) (Err Length) some some' is is' = absurd (not_long bytes log.lines is is')
one_reading bytes (Ok log) (Err NoMemory) some some' is is' = absurd (some' refl)
one_reading bytes (Err (Text number)) (Ok log) some some' is is' =
    absurd (not_wrong bytes log.lines number is' is)
one_reading bytes (Err (Text number)) (Err (Text other)) some some' is is' =
    let same = (same_reading bytes is.before is'.before is.rest is'.rest
    (wrong_reading bytes number is) (wrong_reading bytes other is')).0 in
    let numbers : number ≡ other = is.place ∙ ap (λ (lines : List Line). suc (length lines)) same ∙
    sym is'.place in
    ap (λ n. Err (Text n)) numbers
one_reading bytes (Err (Text number)) (Err Length) some some' is is' =
    absurd (wrong_or_long bytes number is is')
one_reading bytes (Err (Text number)) (Err NoMemory) some some' is is' = absurd (some' refl)
one_reading bytes (Err Length) (Ok log) some some' is is' = absurd (not_long bytes log.lines is' is)
one_reading bytes (Err Length) (Err (Text number)) some some' is is' =
    absurd (wrong_or_long bytes number is' is)
one_reading bytes (Err Length) (Err Length) some some' is is' = refl
one_reading bytes (Err Length) (Err NoMemory) some some' is is' = absurd (some' refl)
one_reading bytes (Err NoMemory) b some some' is is' = absurd (some refl)

pub reads_back_logs : ReadsBackLogs
reads_back_logs log is_log =
    let itself : IsTextOf (log_text log.lines) log.lines =
    record { text = refl; is_log = is_log } in (
      itself,
      λ read some is. one_reading (log_text log.lines) read (Ok log) some (λ e. absurd cc) is
          itself,
    )

-- ---- lines of any number

text_of : (lines : List Line) → All IsWritable lines → length lines ≤ most_lines →
    IsTextOf (log_text lines) lines
text_of lines writable within = record {
  text = refl;
  is_log = record { writable = writable; within = within };
}

some_text : (lines : List Line) → 0 < length lines → log_text lines ≢ []
some_text [] some e = absurd (omega arith)
some_text (line ∷ lines) some e =
    not_nothing (line_text line) (log_text lines ++ [])
    (sym e ∙ sym (append-nil (log_text (line ∷ lines))) ∙ first_line line lines [])

too_long : (lines : List Line) → All IsWritable lines → most_lines < length lines →
    IsTooLong (log_text lines)
too_long lines writable long =
    record {
      before = take most_lines lines;
      rest = log_text (drop most_lines lines);
      text = ap log_text (sym (take-append-drop most_lines lines)) ∙
          flat_map-append (λ line. line_text line ++ line_feed ∷ []) (take most_lines lines)
          (drop most_lines lines);
      writable = All-take IsWritable most_lines lines writable;
      full = length-take-le most_lines lines (omega arith);
      more = some_text (drop most_lines lines)
          (let left = length-drop most_lines lines in omega arith);
    }

-- the text of writable lines reads as just these, or as too many
pub reads_again : (lines : List Line) (read : Result Log LogFault) → All IsWritable lines →
    ReadsAs (log_text lines) read → ReadsAgain lines read
reads_again lines (Err NoMemory) writable is = tt
reads_again lines (Ok log) writable is =
    elim (cases_lt most_lines (length lines)) [
      | inl long ↦ absurd (not_long (log_text lines) log.lines is (too_long lines writable long))
      | inr within ↦
          let same : log.lines ≡ lines =
          (same_reading (log_text lines) log.lines lines [] []
          (log_reading (log_text lines) log.lines is)
          (log_reading (log_text lines) lines (text_of lines writable (omega arith)))).0 in
          (same, omega arith)
    ]
reads_again lines (Err Length) writable is =
    elim (cases_lt most_lines (length lines)) [
      | inl long ↦ long
      | inr within ↦ absurd (not_long (log_text lines) lines
          (text_of lines writable (omega arith)) is)
    ]
reads_again lines (Err (Text number)) writable is =
    elim (cases_lt most_lines (length lines)) [
      | inl long ↦ absurd (wrong_or_long (log_text lines) number is (too_long lines writable long))
      | inr within ↦ absurd (not_wrong (log_text lines) lines number
          (text_of lines writable (omega arith)) is)
    ]
