-- Proves the contract of `Printer::put_owner`. Puts the name of an owner before the text.
use Rattle.std.proofs.Common.{length, ap, ◌∙◌, arith}
use Rattle.tsc_trace.proofs.LineTexts.{uuid_length}
use Rattle.tsc_trace.proofs.printer.Printer.put_owner.Goals as goal

pub returns-in-Some-clause-room : goal.returns-in-Some-clause-room
returns-in-Some-clause-room c =
    let long = ap length (c.as_bytes.ensures.value ∙ c.encode_lower.ensures.text) ∙
    uuid_length c.hyphenated.result in
    omega (arith, long, c.put_word.ensures.room)
