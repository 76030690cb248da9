-- Proves the contract of `Printer::clear`. Empties the text.
use Rattle.std.proofs.Common.{◌≤◌, length, arith}
use Rattle.std.proofs.Math.ListN.{drop_of_length-le}
use Rattle.tsc_trace.proofs.printer.Printer.clear.Goals as goal

pub returns : goal.returns
returns c = let long : length c.self.inside.bytes ≤ 160 = let reported =
    c.self.told in omega arith in drop_of_length-le c.self.inside.bytes long
