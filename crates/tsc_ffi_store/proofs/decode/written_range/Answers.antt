-- Each arm by the order of the two keys.
use Rattle.std.proofs.Common.{◌≡◌, ◌∙◌, sym, ap, refl}
use Rattle.std.specs.Prelude.{Some}
use Rattle.std.specs.declared.cmp.Ordering.TheVariants.{Less, Equal, Greater}
use Rattle.tsc_span.specs.Span.{key_cmp}
use Rattle.tsc_ffi_store.proofs.WrittenRanges.{inverted_of_greater, upright_of_less, upright_of_equal}
use Rattle.tsc_ffi_store.proofs.decode.written_range.Goals as goal

pub returns-in-Greater : goal.returns-in-Greater
returns-in-Greater c =
    let order : key_cmp c.args.from.now c.args.to.now ≡ Greater = cc in
    record {
      value = tt;
      refused = (refl, inverted_of_greater c.args.from.now c.args.to.now order);
    }

pub returns-in-Less : goal.returns-in-Less
returns-in-Less c =
    let order : key_cmp c.args.from.now c.args.to.now ≡ Less = cc in
    record {
      value = upright_of_less c.args.from.now c.args.to.now c.args.ends.exclude_from
          c.args.ends.exclude_to order ∙ ap Some (sym c.for_lookup.ensures);
      refused = tt;
    }

pub returns-in-Equal : goal.returns-in-Equal
returns-in-Equal c =
    let order : key_cmp c.args.from.now c.args.to.now ≡ Equal = cc in
    record {
      value = upright_of_equal c.args.from.now c.args.to.now c.args.ends.exclude_from
          c.args.ends.exclude_to order ∙ ap Some (sym c.for_lookup-in-Equal.ensures);
      refused = tt;
    }
