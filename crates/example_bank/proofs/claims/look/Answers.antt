-- Proves the contract of `look`. Scans a span, and tells whether nothing is there.
use Rattle.std.proofs.Common.{◌∙◌, ap, arith}
use Rattle.std.specs.Prelude.{Ok}
use Rattle.std.proofs.lemmas.Bool.Decides.{nat_tests}
use Rattle.mvcc_range.specs.Serial.{Transaction}
use Rattle.mvcc_shared.specs.Answers.{Calls, ReadsAt}
use Rattle.example_bank.proofs.Rivals.{has_looked, found_nothing}
use Rattle.example_bank.proofs.claims.look.Goals as goal

pub returns : goal.returns
returns g c =
    let call : Calls c.args.client c.read.new.client
    (λ old call new. ReadsAt old call new c.args.transaction c.read.new.transaction c.args.span.now
    c.time-now.result (Ok c.in_ok-rows.rows)) = c.in_ok-rows.ensures in
    let reads = call.answers.ok.1 in (
      record { range = call.goes_on.range; number = call.goes_on.number },
      record {
        none = has_looked c.args.span.now c.args.client c.read.new.client c.args.transaction
            c.read.new.transaction c.time-now.result c.in_ok-rows.rows c.requires.none call;
        writes = ap (λ (t : Transaction). t.writes) reads.has ∙ c.requires.new;
        found = λ free. found_nothing _ _ c.args.transaction c.read.new.transaction c.args.span.now
            c.time-now.result c.in_ok-rows.rows.items reads call.answers.own c.requires.new
            (grind (arith, nat_tests, free, c.is_empty-free.ensures, c.in_ok-rows.rows.ok.0));
      },
    )
