-- What is said is what was put into the buffer.
use Rattle.std.proofs.Common.{ℕ, List, subst, rules}
use Rattle.tsc_check.specs.declared.bytes.Outcome.TheVariants.{Text, Refused}
use Rattle.tsc_ffi_store.specs.Puts.{Puts}
use Rattle.tsc_c.proofs.outcome.report.Goals as goal

pub returns-in-Ok-Text-clause-put : goal.returns-in-Ok-Text-clause-put
returns-in-Ok-Text-clause-put c =
    let put = subst (λ (text : List ℕ). Puts 0 text c.put.result c.args.out.now c.put.new.out
    c.put.new.len) c.as_slice.ensures.value c.put.ensures in
    λ _. (Text c.in-Ok-Text.text, search rules, put)

pub returns-in-Ok-Refused-clause-put : goal.returns-in-Ok-Refused-clause-put
returns-in-Ok-Refused-clause-put c =
    let text = c.as_slice-in-Ok-Refused.ensures.value in
    let put = subst (λ (text : List ℕ). Puts 16 text c.put-in-Ok-Refused.result c.args.out.now
    c.put-in-Ok-Refused.new.out c.put-in-Ok-Refused.new.len) text c.put-in-Ok-Refused.ensures in
    λ _. (Refused c.in-Ok-Refused.why, search rules, put)
