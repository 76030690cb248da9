-- Proves the contract of `take_next`. The standby copy, after an Add in place, or else one made
-- anew from the active copy.
use Rattle.std.proofs.Common.{◌≡◌, ◌∙◌, refl, sym, ap, subst, true, false}
use Rattle.std.specs.Prelude.{Option, Some, IsSome}
use Rattle.std.specs.Arc.{arc_value}
use Rattle.std.specs.declared.sync.Arc.{Arc}
use Rattle.std.specs.declared.alloc.Global.{Global}
use Rattle.tsc_cache.specs.CacheView.{CacheView}
use Rattle.tsc_shared.specs.Applying.{keeps_pages, RetiresWithout}
use Rattle.tsc_shared.proofs.AddingUp.{next_new, was_set_aside, retires}
use Rattle.tsc_shared.proofs.applying.take_next.Goals as goal

both_are : (o : Option (Arc CacheView Global)) (a : Arc CacheView Global) → o ≡ Some a
    → (b : Arc CacheView Global) → o ≡ Some b → a ≡ b
both_are o a is b also = let both : Some a ≡ Some b = sym is ∙ also in cc

pub returns-in-Err : goal.returns-in-Err
returns-in-Err c =
    let aside = was_set_aside c.args.copies.now c.take_new-2.new.copies c.set_aside.new.copies
    c.in-Some.standby c.add_in_place-tried.new.standby c.add_in_place-tried.new.lagging
    c.args.add.now.marks c.add_in_place-tried.result c.set_aside.result
    (sym c.take.ensures.value ∙ c.in-Some.is)
    (c.in-Err.ensures.same ∙ ap (λ o. record c.args.copies.now {
      standby = o;
      lagging = c.add_in_place-tried.new.lagging;
    }) c.take.ensures.after)
    c.add_in_place-tried.ensures.lag c.add_in_place-tried.ensures.left c.set_aside.ensures.kept
    c.set_aside.ensures.spoiled in record {
      made = tt;
      retired = tt;
      taken = tt;
      same = aside.0;
      kept = aside.1;
    }

pub returns-in-Ok-take_new : goal.returns-in-Ok-take_new
returns-in-Ok-take_new c =
    let there = sym c.take.ensures.value ∙ c.in-Some.is in
    let kept = c.in-Ok-take_new.ensures.taken.0 in
    let same = both_are c.args.copies.now.standby c.in-Some.standby there in record {
      made = next_new c.args.copies.now _ c.args.add.now c.in-Ok-take_new.answer
          c.in-Ok-take_new.ensures.stands c.in-Ok-take_new.ensures.added;
      retired = λ standby is. subst (λ (x : Arc CacheView Global).
          (keeps_pages (arc_value c.args.copies.now.active) (arc_value x) ≡ false
          → Some c.add_in_place-tried.new.standby ≡ Some x)
          × (c.in-Ok-take_new.answer.rotated ≡ true
          → IsSome (Some c.add_in_place-tried.new.standby))
          × RetiresWithout c.args.copies.now.lagging c.args.add.now.marks (arc_value x)
          (Some c.add_in_place-tried.new.standby)) (same standby is) (
            (λ no. ap Some (c.add_in_place-tried.ensures.kept
                (ap (λ v. keeps_pages v (arc_value c.in-Some.standby)) c.deref.ensures ∙ no)).1),
            (λ _. refl),
            retires c.args.copies.now.lagging c.args.add.now.marks
                c.add_in_place-tried.result (arc_value c.in-Some.standby)
                c.add_in_place-tried.new.standby c.in_default-tried.not-Made
                c.add_in_place-tried.ensures.left,
          );
      taken = (
        kept,
        c.in-Ok-take_new.ensures.taken.1,
        c.in-Ok-take_new.ensures.taken.2 ∙ c.take.ensures.after,
      );
      same = tt;
      kept = tt;
    }
