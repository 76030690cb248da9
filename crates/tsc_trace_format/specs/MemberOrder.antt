-- JSON values that differ only in the order of the members of their objects, at any depth.
use Rattle.std.specs.Prelude.{ℕ, List, Option, Some, None}
use Rattle.serde_json.specs.Data.{Data, array, object, Items, no_items, item, Members}
use Rattle.serde_json.specs.Find.{get_member}

mutual
  -- Two values that differ only in member order: in arrays item by item, in objects name by name.
  pub data IsReordered : Data → Data → Type 0 where
    itself : {d : Data} → IsReordered d d
    arrays : {ds es : Items} → AreReordered ds es → IsReordered (array ds) (array es)
    objects : {ms ns : Members} → ((name : List ℕ) →
        FindsReordered (get_member name ms) (get_member name ns)) →
        IsReordered (object ms) (object ns)

  -- The items of two arrays that differ only in member order, item by item.
  pub data AreReordered : Items → Items → Type 0 where
    no_more : AreReordered no_items no_items
    one_more : (d e : Data) (ds es : Items) → IsReordered d e → AreReordered ds es →
        AreReordered (item d ds) (item e es)

  -- What a name finds in two objects: nothing in both, or values that differ only in member order.
  pub data FindsReordered : Option Data → Option Data → Type 0 where
    neither : FindsReordered None None
    both_find : (d e : Data) → IsReordered d e → FindsReordered (Some d) (Some e)
