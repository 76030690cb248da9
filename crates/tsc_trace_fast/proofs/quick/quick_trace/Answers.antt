-- Proves the contract of `quick_trace`. The trace that bytes are, where they have no fault and
-- there is memory for it.
use Rattle.std.proofs.Common.{◌≡◌, [], ◌∙◌, arith, IsUtf8}
use Rattle.json.specs.Lex.{tokens}
use Rattle.tsc_trace_format.specs.TraceText.{trace_of}
use Rattle.tsc_trace_format.proofs.Texts.{is_json, trace_of_value}
use Rattle.tsc_trace_fast.specs.TokenReads.{Got}
use Rattle.tsc_trace_fast.proofs.TokenLemmas.{text_read}
use Rattle.tsc_trace_fast.proofs.quick.quick_trace.Goals as goal

pub returns : goal.returns
returns c =
    let utf8 : IsUtf8 c.args.bytes.now = c.in-Ok.ensures.cases.1 in
    let same : c.in-Ok.text.now ≡ c.args.bytes.now = c.in-Ok.ensures.cases.0 in
    let begins : c.in_ok-reader.reader ≡ tokens c.args.bytes.now = grind (arith, same) in
    let ends : c.trace.new.reader ≡ [] = grind arith in
    let got : Got 7 trace_of (tokens c.args.bytes.now) c.in_ok-trace.trace c.trace.new.reader =
    rw begins at c.in_ok-trace.ensures in
    trace_of_value c.args.bytes.now got.0
    (is_json c.args.bytes.now got.0 utf8
    (text_read c.args.bytes.now 7 got.0 c.trace.new.reader (omega arith) ends got.1)) ∙ got.2
