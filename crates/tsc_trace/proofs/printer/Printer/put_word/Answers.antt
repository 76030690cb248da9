-- Proves the contract of `Printer::put_word`. Puts a word before the text.
use Rattle.std.proofs.Common.{arith}
use Rattle.tsc_trace.proofs.Printing.{end_length}
use Rattle.tsc_trace.proofs.printer.Printer.put_word.Goals as goal

pub copy_from_slice-requires : goal.copy_from_slice-requires
copy_from_slice-requires c =
    let long = end_length c.self.inside.bytes c.args.self.now c.self.inside.start c.self.view_is in
    omega (arith, long, c.self.told, c.self.invariant, c.requires)
