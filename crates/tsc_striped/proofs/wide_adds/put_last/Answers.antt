-- Proves the contract of `put_last`. The batch is then an entry of the history.
use Rattle.std.proofs.Common.{◌≡◌, ◌∷◌, [], ◌++◌, refl, sym, subst, List}
use Rattle.std.specs.Box.{with_value}
use Rattle.tsc_time.specs.Time.{Time}
use Rattle.tsc_page_model.specs.Page.{Mark}
use Rattle.tsc_cache.specs.CacheView.{CacheView}
use Rattle.tsc_cache.specs.declared.history.Entry.{Entry}
use Rattle.tsc_cache.specs.History.{CanAllBeAdded}
use Rattle.tsc_stripe_table.specs.Stripes.{IsStateOn}
use Rattle.tsc_stripe_table.specs.Rule.{StoredStripe}
use Rattle.tsc_stripe_table.specs.Steps.{state_in, reached_of, holds_of, entry_of_batch, IsCovered}
use Rattle.tsc_stripe_table.specs.Steps.{Commits}
use Rattle.tsc_striped.specs.Batches.{entry_for, entry_of_marks}
use Rattle.tsc_striped.proofs.wide_adds.put_last.Goals as goal

pub commit_batch-requires-clause-can : goal.commit_batch-requires-clause-can
commit_batch-requires-clause-can c =
    let me = c.args.who.now.me in
    let has = c.requires.has.1 in
    let x : StoredStripe = with_value c.slot_mut-stored.result.now
    c.replace_by_batch-before.new.self in
    let said = c.replace_by_batch-before.ensures in
    let same : entry_of_batch (state_in me.0) x.value.batch ≡ entry_for me c.args.batch.now =
    λ i. entry_of_marks me (said.marks i) (said.moment i) in (
      x,
      record {
        has = record {
          one = has.one;
          is_stripe = has.is_stripe;
          holds = has.holds;
          hand = refl;
        };
        made = subst (λ (ms : List Mark). CanAllBeAdded me.0.setup.config ms
            x.value.batch.moment.value) (sym said.marks)
            (subst (λ (now : Time). CanAllBeAdded me.0.setup.config c.args.batch.now.marks.items now)
            (sym said.moment) c.requires.can.0);
        covered = subst (λ (e : Entry). IsCovered me.0.setup.bounds (holds_of me.0) e) (sym same)
            c.requires.can.1;
        stands = subst (λ (e : Entry). IsStateOn me.0.setup c.args.stripe
            (reached_of me.0 ++ e ∷ []) x.value.cache) (sym same)
            (subst (λ (v : CacheView). IsStateOn me.0.setup c.args.stripe
            (reached_of me.0 ++ entry_for me c.args.batch.now ∷ []) v) (sym said.cache)
            c.requires.stands);
      },
    )

pub returns-clause-committed : goal.returns-clause-committed
returns-clause-committed c =
    let me = c.args.who.now.me in
    let x : StoredStripe = with_value c.slot_mut-stored.result.now
    c.replace_by_batch-before.new.self in
    let said = c.replace_by_batch-before.ensures in
    let same : entry_of_batch (state_in me.0) x.value.batch ≡ entry_for me c.args.batch.now =
    λ i. entry_of_marks me (said.marks i) (said.moment i) in (
      subst (λ (e : Entry). Commits me.0 c.commit_batch.new.who.me.0 (e ∷ [])) same
          c.commit_batch.ensures.committed,
      c.commit_batch.ensures.hand,
    )
