-- Each arm by the order of the two keys.
use Rattle.std.proofs.Common.{◌≡◌, ap, refl, inl, inr}
use Rattle.std.specs.declared.cmp.Ordering.TheVariants.{Less, Equal, Greater}
use Rattle.std.specs.Ordering.{is_lt}
use Rattle.tsc_span.specs.Span.{key_cmp}
use Rattle.tsc_ffi_store.proofs.NamedSpans.{names_upright, made, copied}
use Rattle.tsc_ffi_store.proofs.decode.copied_range.Goals as goal

pub returns-in-Less : goal.returns-in-Less
returns-in-Less c =
    let order : key_cmp c.args.to.now c.args.from.now ≡ Less = cc in
    record {
      names = tt;
      refused = inl (inr (inr (refl, ap is_lt order)));
    }

pub copied_upright-requires : goal.copied_upright-requires
copied_upright-requires c =
    let order : key_cmp c.args.to.now c.args.from.now ≡ Equal = cc in
    names_upright c.args.from.now c.args.to.now c.in_ok-first.first c.in_ok-second.second
    c.args.ends.exclude_from c.args.ends.exclude_to c.in_ok-first.ensures.value
    c.in_ok-second.ensures.value (ap is_lt order)

pub returns-in-Equal : goal.returns-in-Equal
returns-in-Equal c =
    let order : key_cmp c.args.to.now c.args.from.now ≡ Equal = cc in
    record {
      names = made c.args.from.now c.args.to.now c.in_ok-first.first c.in_ok-second.second
          c.args.ends c.copied_upright.result c.in_ok-first.ensures.value
          c.in_ok-second.ensures.value c.in_ok-first.ensures.short c.in_ok-second.ensures.short
          c.copied_upright.ensures.value;
      refused = copied c.args.from.now c.args.to.now c.in_ok-first.first c.in_ok-second.second
          c.args.ends c.copied_upright.result c.in_ok-first.ensures.value
          c.in_ok-second.ensures.value c.in_ok-first.ensures.short c.in_ok-second.ensures.short
          (ap is_lt order) c.copied_upright.ensures.refused;
    }

pub copied_upright-requires-in-Greater : goal.copied_upright-requires-in-Greater
copied_upright-requires-in-Greater c =
    let order : key_cmp c.args.to.now c.args.from.now ≡ Greater = cc in
    names_upright c.args.from.now c.args.to.now c.in_ok-first.first c.in_ok-second.second
    c.args.ends.exclude_from c.args.ends.exclude_to c.in_ok-first.ensures.value
    c.in_ok-second.ensures.value (ap is_lt order)

pub returns-in-Greater : goal.returns-in-Greater
returns-in-Greater c =
    let order : key_cmp c.args.to.now c.args.from.now ≡ Greater = cc in
    record {
      names = made c.args.from.now c.args.to.now c.in_ok-first.first c.in_ok-second.second
          c.args.ends c.copied_upright-in-Greater.result c.in_ok-first.ensures.value
          c.in_ok-second.ensures.value c.in_ok-first.ensures.short c.in_ok-second.ensures.short
          c.copied_upright-in-Greater.ensures.value;
      refused = copied c.args.from.now c.args.to.now c.in_ok-first.first c.in_ok-second.second
          c.args.ends c.copied_upright-in-Greater.result c.in_ok-first.ensures.value
          c.in_ok-second.ensures.value c.in_ok-first.ensures.short c.in_ok-second.ensures.short
          (ap is_lt order) c.copied_upright-in-Greater.ensures.refused;
    }
