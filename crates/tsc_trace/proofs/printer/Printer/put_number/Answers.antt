-- Proves the contract of `Printer::put_number`. Puts a number before the text.
use Rattle.std.proofs.Common.{length, decimal, ap, ◌∙◌, arith}
use Rattle.std.proofs.lemmas.List.{length-append}
use Rattle.tsc_trace.proofs.Printing.{number_length, end_length}
use Rattle.tsc_trace.proofs.printer.Printer.put_number.Goals as goal

pub write_digits-self-inside-requires : goal.write_digits-self-inside-requires
write_digits-self-inside-requires c =
    let digits = number_length c.args.number c.ranges.number.fits in
    let end = end_length c.self.inside.bytes c.args.self.now c.self.inside.start c.self.view_is in (
      omega (arith, digits, end, c.self.told, c.requires),
      omega (arith, c.self.told, c.self.invariant),
    )

pub returns-clause-room : goal.returns-clause-room
returns-clause-room c =
    let digits = number_length c.args.number c.ranges.number.fits in
    let long = ap length c.write_digits-self-inside.ensures.written ∙
    length-append (decimal c.args.number) _ in
    let rest = ap length c.self.view_is in
    omega (arith, digits, long, rest)
