-- Proves the contract of `owner`. The name of an owner.
use Rattle.std.proofs.Common.{◌≡◌, length, rules, sym, true≢false}
use Rattle.tsc_trace.proofs.FieldReading.{no_owner, some_owner, wrong_owner, parsed_bytes}
use Rattle.tsc_trace.proofs.log_reader.line.owner.Goals as goal

pub returns-then-eq : goal.returns-then-eq
returns-then-eq c = rw c.nil.ensures (no_owner c.args.text.now (search rules))

pub returns-in-Ok : goal.returns-in-Ok
returns-in-Ok c =
    let long : length c.in-Ok.uuid ≡ 16 = search rules in
    let read = sym c.in-Ok.ensures.bytes in
    some_owner c.args.text.now c.in-Ok.uuid (search rules) long
    (parsed_bytes c.args.text.now c.in-Ok.uuid read) read

pub returns-in-Err : goal.returns-in-Err
returns-in-Err c = wrong_owner c.args.text.now (search rules)
    (λ uuid read. absurd (true≢false (sym (c.in-Err.ensures.ok.1 (uuid, read)))))
