-- Proves the contract of `read`. A holder answers a read.
use Rattle.std.proofs.Common.{subst}
use Rattle.timestamp_cache.specs.Words.{ValueView}
use Rattle.tsc_cache.proofs.AddsSeen.{adds_are_steps}
use Rattle.example_hand_over.specs.FormerReads.{AnswersOneMore, read_of}
use Rattle.example_hand_over.proofs.Handing.{one_more}
use Rattle.example_hand_over.proofs.lease.read.Goals as goal

pub returns : goal.returns
returns c =
    let cache = c.args.cache.now in
    let span = c.args.span.now in
    subst (λ (read : ValueView). AnswersOneMore cache c.add.new.self span read c.args.at)
    {y = read_of c.args.at c.args.by} c.of.ensures
    (one_more cache c.add.new.self span c.of.result c.args.at
    (adds_are_steps.stands cache c.add.new.self (record { span = span; value = c.of.result })
    c.args.at c.in_ok-add.field-0 c.in_ok-add.ensures.seen))
