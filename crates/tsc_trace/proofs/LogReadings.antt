-- Reading a log line by line, and that its bytes read as one thing only.
use Rattle.std.proofs.Common.{◌≡◌, ◌≢◌, ℕ, ◌+◌, ◌<◌, ◌≤◌, ◌==◌, List, [], ◌∷◌, ◌++◌, length, All, true, false, Err, inl, inr, ◌⊎◌, sym, ap, ◌∙◌, subst, arith, append_assoc, append-nil, length-append}
use Rattle.std.proofs.lemmas.Bool.{eqb-true}
use Rattle.std.proofs.lemmas.List.Concat.{flat_map-append}
use Rattle.std.proofs.lemmas.List.Elements.{All-push}
use Rattle.tsc_trace.specs.declared.log.Line.{Line}
use Rattle.tsc_trace.specs.declared.log_reader.LogFault.{LogFault}
use Rattle.tsc_trace.specs.declared.log_reader.LogFault.TheVariants.{Text, NoMemory}
use Rattle.tsc_trace.specs.LogText.{line_feed, line_text, log_text}
use Rattle.tsc_trace.specs.LogReading.{IsWritable, HasNoLine, IsTextOf, IsWrongAt, IsTooLong, ReadsAs}
use Rattle.tsc_trace.specs.ReadingBack.{IsWithout, IsNoLineText, AddsLine}
use Rattle.tsc_trace.proofs.Cuts.{cut_same, no_cut}
use Rattle.tsc_trace.proofs.LineTexts.{line_without_feed}

-- ---- one line more

-- a rest without a line feed begins with no line
pub no_feed : (rest : List ℕ) → IsWithout line_feed rest → HasNoLine rest
no_feed rest without = λ line after writable. no_cut line_feed (line_text line) after rest without

-- nor does one whose bytes before the first line feed are no line
pub no_line : (rest text after : List ℕ) → IsWithout line_feed text ×
    (rest ≡ text ++ line_feed ∷ after) → IsNoLineText text → HasNoLine rest
no_line rest text after cut wrong =
    λ line other writable e.
    wrong line writable (cut_same line_feed text after (line_text line) other cut.0
    (line_without_feed line writable) (sym cut.1 ∙ e)).0

not_empty : (rest : List ℕ) → false ≡ (length rest == 0) → rest ≢ []
not_empty [] h e = absurd cc
not_empty (b ∷ rest) h e = absurd cc

-- the lines so far, and a rest that begins with no line
pub wrong_line : (bytes rest : List ℕ) (lines : List Line) (number : ℕ) →
    bytes ≡ log_text lines ++ rest → All IsWritable lines → number ≡ length lines
    → number < 65536 → false ≡ (length rest == 0) → HasNoLine rest → IsWrongAt bytes (number + 1)
wrong_line bytes rest lines number text writable counted within more wrong =
    record {
      before = lines;
      rest = rest;
      text = text;
      writable = writable;
      room = omega arith;
      place = omega arith;
      more = not_empty rest more;
      wrong = wrong;
    }

-- as many lines as a log may have, and a rest behind them
pub too_long : (bytes rest : List ℕ) (lines : List Line) (number : ℕ) →
    bytes ≡ log_text lines ++ rest → All IsWritable lines → number ≡ length lines
    → number ≡ 65536 → false ≡ (length rest == 0) → IsTooLong bytes
too_long bytes rest lines number text writable counted most more =
    record {
      before = lines;
      rest = rest;
      text = text;
      writable = writable;
      full = omega arith;
      more = not_empty rest more;
    }

-- the text of all lines, which nothing follows
pub whole_log : (bytes rest : List ℕ) (lines : List Line) (number : ℕ) →
    bytes ≡ log_text lines ++ rest → All IsWritable lines → number ≡ length lines
    → number ≤ 65536 → true ≡ (length rest == 0) → IsTextOf bytes lines
whole_log bytes [] lines number text writable counted within over =
    record {
      text = text ∙ append-nil (log_text lines);
      is_log = record { writable = writable; within = omega arith };
    }
whole_log bytes (b ∷ rest) lines number text writable counted within over = let none =
    eqb-true (length (b ∷ rest)) 0 (sym over) in absurd (omega arith)

-- what follows a line feed is less than the whole
pub line_shorter : (rest text after : List ℕ) → IsWithout line_feed text ×
    (rest ≡ text ++ line_feed ∷ after) → length after < length rest
line_shorter rest text after cut = let long = ap length cut.1 ∙
    length-append text (line_feed ∷ after) in omega (arith, long)

-- a text that was refused as no line, or for want of memory
pub refused : (bytes : List ℕ) (fault : LogFault) (number : ℕ) (text : List ℕ) →
    (fault ≡ NoMemory) ⊎ ((fault ≡ Text (number + 1)) × IsNoLineText text)
    → (IsNoLineText text → IsWrongAt bytes (number + 1)) → ReadsAs bytes (Err fault)
refused bytes fault number text (inl memory) wrong = rw memory tt
refused bytes fault number text (inr reported) wrong = rw reported.0 (wrong reported.1)

log_text_push : (lines : List Line) (line : Line) (after : List ℕ) →
    log_text (lines ++ line ∷ []) ++ after ≡ log_text lines ++ (line_text line ++ line_feed ∷ after)
log_text_push lines line after =
    rw (flat_map-append (λ line. line_text line ++ line_feed ∷ []) lines (line ∷ []))
    (simp append_assoc)

pub one_more : (bytes rest text after : List ℕ) (old new : List Line) →
    bytes ≡ log_text old ++ rest → All IsWritable old
    → IsWithout line_feed text × (rest ≡ text ++ line_feed ∷ after) → AddsLine text old new
    → (bytes ≡ log_text new ++ after) × All IsWritable new × (length new ≡ length old + 1)
one_more bytes rest text after old new reported writable cut more =
    let line = more.line in
    let here : rest ≡ line_text line ++ line_feed ∷ after =
    cut.1 ∙ ap (λ t. t ++ line_feed ∷ after) more.spelled in
    let pushed : log_text new ++ after ≡ log_text old ++ (line_text line ++ line_feed ∷ after) =
    ap (λ ls. log_text ls ++ after) more.added ∙ log_text_push old line after in (
      reported ∙ ap (λ r. log_text old ++ r) here ∙ sym pushed,
      subst (All IsWritable) (sym more.added) (All-push IsWritable old line writable more.writable),
      ap length more.added ∙ length-append old (line ∷ []),
    )
