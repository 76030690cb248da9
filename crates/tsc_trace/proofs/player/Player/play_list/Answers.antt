-- A list is played call by call.
use Rattle.std.proofs.Common.{◌≡◌, ◌∙◌, ap, ◌++◌, [], ◌∷◌, arith}
use Rattle.tsc_trace.proofs.ListSteps.{one_more_call, all_reported, all_made}
use Rattle.tsc_trace.proofs.player.Player.play_list.Goals as goal

pub loop-index-preserved : goal.loop-index-preserved
loop-index-preserved g c =
    let l = c.loop-index in
    let lines : c.push.new.self.items ≡ l.self.lines.items ++
    record { thread = c.args.thread; index = l.index; said = c.in_ok-said.said } ∷ []
    = c.in_ok-push.ensures.items ∙
    ap (λ ls. ls.items ++ record {
      thread = c.args.thread;
      index = l.index;
      said = c.in_ok-said.said;
    } ∷ []) c.answer.ensures.lines in
    record {
      under_way = λ config from stands.
          one_more_call c.args.self.now l.self
          (record {
            cache = c.answer.new.self.cache;
            adds = c.answer.new.self.adds;
            lines = c.push.new.self;
          })
          config c.args.thread l.index c.args.calls.now c.index-calls-index.result
          c.in_ok-said.said from (omega arith) c.index-calls-index.is
          (λ s a k. c.in_ok-said.ensures.said s a k)
          (λ s a k. let t = c.in_ok-said.ensures.made.stands s a k
          in record { state = t.state; adds = t.adds }) lines
          (l.invariant.under_way config from stands);
      counted = omega (arith, c.in_ok-said.ensures.made.count, l.invariant.counted);
      config = c.in_ok-said.ensures.made.config ∙ l.invariant.config;
    }

pub returns-clause-lines : goal.returns-clause-lines
returns-clause-lines g c = λ config from stands.
    let l = c.loop-index in
    all_reported c.args.self.now l.self config c.args.thread l.index c.args.calls.now from
    (omega arith) (l.invariant.under_way config from stands)

pub returns-clause-made : goal.returns-clause-made
returns-clause-made g c =
    let l = c.loop-index in
    record {
      stands = λ config from stands.
          all_made c.args.self.now l.self config c.args.thread l.index c.args.calls.now from
          (omega arith) (l.invariant.under_way config from stands);
      count = omega (arith, l.invariant.counted);
      config = l.invariant.config;
    }
