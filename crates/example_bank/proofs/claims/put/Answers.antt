-- Proves the contract of `put`. Puts a key of a span where nothing was found there.
use Rattle.std.proofs.Common.{◌≡◌, ◌∙◌, refl, sym, ap, subst, Some, true}
use Rattle.std.specs.Prelude.{Ok}
use Rattle.tsc_span.specs.Span.{covers}
use Rattle.timestamp_cache.specs.Words.{KeyBytes}
use Rattle.mvcc_shared.specs.Answers.{Calls, EndsAt}
use Rattle.example_bank.specs.Claims.{HasClaimed}
use Rattle.example_bank.proofs.Rivals.{has_put}
use Rattle.example_bank.proofs.claims.put.Goals as goal

pub returns-in-Ok : goal.returns-in-Ok
returns-in-Ok g c =
    let call : Calls c.args.who.client c.commit.new.client
    (λ old call new. EndsAt old call new c.write.new.self c.time-now.result (Ok c.in-Ok.outcome)) =
    c.in-Ok.ensures in
    let within : covers c.args.span.now c.args.key ≡ true =
    ap (λ (k : KeyBytes). covers c.args.span.now k) (sym c.bytes.ensures.value)
    ∙ sym c.covers.ensures ∙ c.if-not-covers.false in (
      record { range = call.goes_on.range; number = call.goes_on.number },
      subst (HasClaimed c.args.span.now c.commit.new.client) (sym c.has_committed-done.ensures)
          (has_put c.args.span.now c.args.who.client c.commit.new.client c.args.who.transaction
          c.write.new.self (record { key = c.args.key; content = Some c.args.value.items })
          c.args.value.items c.time-now.result c.in-Ok.outcome c.requires.may.none
          (c.requires.may.found c.if-not-free.false) c.requires.may.writes within refl
          c.in_ok-write.ensures.ok call),
    )
