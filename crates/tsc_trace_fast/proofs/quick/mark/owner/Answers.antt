-- Proves the contract of `owner`. The name of an owner.
use Rattle.std.proofs.Common.{◌≡◌, ◌∷◌, ap, ◌∙◌, sym, arith, Ok}
use Rattle.json.specs.Token.{Token}
use Rattle.json.specs.Reads.{token_of}
use Rattle.serde_json.specs.Data.{null}
use Rattle.tsc_time.specs.ValueView.{owner_of}
use Rattle.tsc_trace_fast.proofs.TokenLemmas.{null_reads}
use Rattle.tsc_trace_fast.proofs.Values.{owner_got, null_is}
use Rattle.tsc_trace_fast.proofs.quick.mark.owner.Goals as goal

pub returns-in-String : goal.returns-in-String
returns-in-String c =
    let first : c.args.reader.now ≡ token_of c.in_ok-text.field-0 ∷ c.next.new.self = grind arith in
    let is : c.args.reader.now ≡ Token.string c.in-String.text.now ∷ c.next.new.self =
    grind (arith, first) in
    owner_got c.args.reader.now c.next.new.self c.in-String.text.now c.owner_by_text.result is
    c.owner_by_text.ensures

pub returns-in-Null : goal.returns-in-Null
returns-in-Null c =
    let first : c.args.reader.now ≡ token_of c.in_ok-text.field-0 ∷ c.next.new.self = grind arith in
    let is : c.args.reader.now ≡ Token.null ∷ c.next.new.self = grind (arith, first) in (
      null,
      null_reads c.args.reader.now c.next.new.self is,
      null_is ∙
          ap (λ u. Ok (owner_of u)) (sym c.nil.ensures),
    )
