-- Proves the contract of `read_one`. The former holder answers a read.
use Rattle.example_hand_over.proofs.Answered.{answers_row}
use Rattle.example_hand_over.proofs.read_one.Goals as goal

pub returns : goal.returns
returns c = answers_row c.args.row.now c.args.cache.now c.read.new.cache c.in_ok-span.span
    c.at.result c.id_of.result c.in_ok-span.ensures c.at.ensures c.id_of.ensures
    c.in_ok-read.ensures
