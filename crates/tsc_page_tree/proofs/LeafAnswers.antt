-- What nodes in two lists, one after the other, answer together.
use Rattle.std.proofs.Common.{◌≡◌, ◌⊎◌, inl, inr, ◌∙◌, sym, ap, subst, List, [], ◌∷◌, ◌++◌}
use Rattle.tsc_time.specs.Time.{zero_time}
use Rattle.tsc_time.specs.ValueView.{ValueView, unowned}
use Rattle.tsc_time.specs.Joint.{joint, joint_above, IsAtMost}
use Rattle.tsc_time.proofs.RatchetOrder.{IsAtMost-itself, IsAtMost-antisymmetric, IsAtMost-transitive}
use Rattle.tsc_span.specs.Span.{Cut, before, last, SpanView, between}
use Rattle.tsc_page_nodes.specs.Nodes.{Node, Stretch, node_stretches, stretches, IsSorted, answer_of}
use Rattle.tsc_page_tree.specs.Leaves.{start_of}
use Rattle.tsc_page_nodes.proofs.Answers.{values_over-is, Meets, answer-above, answer-above_zero, answer-least}
use Rattle.tsc_span.proofs.CutOrder.{Lt, Le}
use Rattle.tsc_page_nodes.proofs.Raises.{first_below, second_below, both_below}
use Rattle.tsc_page_nodes.proofs.Seen.{IsJointOf, none_seen}
use Rattle.tsc_page_tree.proofs.Joins.{meets_left, meets_right, meets_both}

-- an answer is the joint value of what is met
pub answer_is : (s : SpanView) (ns : List Node) →
    IsJointOf (Meets s (node_stretches ns)) (answer_of ns s)
answer_is s ns = subst (IsJointOf (Meets s (node_stretches ns)))
    (ap (joint_above zero_time) (values_over-is s xs)) (record {
      zero_below = answer-above_zero s xs;
      above = λ w m. answer-above s xs w (inr m);
      least = λ u z each. answer-least s xs u z (λ w m. elim m [
        | inl h ↦ subst (λ (x : ValueView). IsAtMost x u) h.1 z
        | inr h ↦ each w h
      ]);
    })
  where
    xs : List Stretch
    xs = stretches ns

-- there is one joint value
pub one_joint : (Seen Other : ValueView → Type 0) (a b : ValueView) →
    ((w : ValueView) → Seen w → Other w) → ((w : ValueView) → Other w → Seen w) → IsJointOf Seen a →
    IsJointOf Other b → a ≡ b
one_joint Seen Other a b to back first second = IsAtMost-antisymmetric a b
    (first.least b second.zero_below (λ w s. second.above w (to w s)))
    (second.least a first.zero_below (λ w s. first.above w (back w s)))

pub joint_of_two : (Seen Other : ValueView → Type 0) (a b : ValueView) → IsJointOf Seen a →
    IsJointOf Other b → IsJointOf (λ w. Seen w ⊎ Other w) (joint a (b ∷ []))
joint_of_two Seen Other a b first second = record {
  zero_below = IsAtMost-transitive (unowned zero_time) a (joint a (b ∷ [])) first.zero_below
      (first_below a b);
  above = λ w s. elim s [
    | inl h ↦ IsAtMost-transitive w a (joint a (b ∷ [])) (first.above w h) (first_below a b)
    | inr h ↦ IsAtMost-transitive w b (joint a (b ∷ [])) (second.above w h) (second_below a b)
  ];
  least = λ u z each. both_below a b u (first.least u z (λ w s. each w (inl s)))
      (second.least u z (λ w s. each w (inr s)));
}

-- no answer is below time zero
pub zero_below_answer : (s : SpanView) (ns : List Node) →
    IsAtMost (unowned zero_time) (answer_of ns s)
zero_below_answer s ns = (answer_is s ns).zero_below

pub answer_left : (f t : Cut) (xs ys : List Node) → IsSorted (xs ++ ys) → Lt f t →
    Le t (start_of ys) → answer_of (xs ++ ys) (between f t) ≡ answer_of xs (between f t)
answer_left f t xs ys sorted up high =
    one_joint _ _ _ _ (λ w. (meets_left f t up ys high w xs sorted).0)
    (λ w. (meets_left f t up ys high w xs sorted).1) (answer_is (between f t) (xs ++ ys))
    (answer_is (between f t) xs)

pub answer_right : (f t : Cut) (xs ys : List Node) → IsSorted (xs ++ ys) → Le (start_of ys) f →
    answer_of (xs ++ ys) (between f t) ≡ answer_of ys (between f t)
answer_right f t xs ys sorted low =
    one_joint _ _ _ _ (λ w. (meets_right f t ys low w xs sorted).0)
    (λ w. (meets_right f t ys low w xs sorted).1) (answer_is (between f t) (xs ++ ys))
    (answer_is (between f t) ys)

pub answer_both : (f t : Cut) (xs ys : List Node) → IsSorted (xs ++ ys) → Lt f (start_of ys) →
    Lt (start_of ys) t → answer_of (xs ++ ys) (between f t) ≡ joint (answer_of xs (between f last))
    (answer_of ys (between (before []) t) ∷ [])
answer_both f t xs ys sorted low high =
    one_joint _ _ _ _ (λ w. (meets_both f t ys low high w xs sorted).0)
    (λ w. (meets_both f t ys low high w xs sorted).1) (answer_is (between f t) (xs ++ ys))
    (joint_of_two _ _ _ _ (answer_is (between f last) xs) (answer_is (between (before []) t) ys))

-- one joint value after another
pub joint-chain : (a b c : ValueView) →
    joint a (joint b (c ∷ []) ∷ []) ≡ joint (joint a (b ∷ [])) (c ∷ [])
joint-chain a b c = IsAtMost-antisymmetric one two
    (both_below a bc two (IsAtMost-transitive a ab two (first_below a b) (first_below ab c))
    (both_below b c two (IsAtMost-transitive b ab two (second_below a b) (first_below ab c))
    (second_below ab c)))
    (both_below ab c one (both_below a b one (first_below a bc)
    (IsAtMost-transitive b bc one (first_below b c) (second_below a bc)))
    (IsAtMost-transitive c bc one (second_below b c) (second_below a bc)))
  where
    ab : ValueView
    ab = joint a (b ∷ [])

    bc : ValueView
    bc = joint b (c ∷ [])

    one : ValueView
    one = joint a (bc ∷ [])

    two : ValueView
    two = joint ab (c ∷ [])

pub joint-swap : (a b : ValueView) → joint a (b ∷ []) ≡ joint b (a ∷ [])
joint-swap a b = IsAtMost-antisymmetric (joint a (b ∷ [])) (joint b (a ∷ []))
    (both_below a b (joint b (a ∷ [])) (second_below b a) (first_below b a))
    (both_below b a (joint a (b ∷ [])) (second_below a b) (first_below a b))

pub zero_first : (a : ValueView) → IsAtMost (unowned zero_time) a →
    joint (unowned zero_time) (a ∷ []) ≡ a
zero_first a z = IsAtMost-antisymmetric (joint (unowned zero_time) (a ∷ [])) a
    (both_below (unowned zero_time) a a z (IsAtMost-itself a)) (second_below (unowned zero_time) a)

pub zero_last : (a : ValueView) → IsAtMost (unowned zero_time) a →
    joint a (unowned zero_time ∷ []) ≡ a
zero_last a z = IsAtMost-antisymmetric (joint a (unowned zero_time ∷ [])) a
    (both_below a (unowned zero_time) a (IsAtMost-itself a) z) (first_below a (unowned zero_time))

-- What is left of a lookup: the best so far with the answer of the nodes that are left is the
-- answer of all.
pub record AnswersSoFar (all left : List Node) (from to low : Cut) (best : ValueView) : Type 0 where
  pub zero_below : IsAtMost (unowned zero_time) best
  pub answers : joint best (answer_of left (between low to) ∷ []) ≡ answer_of all (between from to)

pub answers_at_first : (from to : Cut) (xs ys : List Node) → IsSorted (xs ++ ys) →
    (xs ≡ []) ⊎ Le (start_of ys) from → AnswersSoFar (xs ++ ys) ys from to from (unowned zero_time)
answers_at_first from to xs ys sorted low = record {
  zero_below = IsAtMost-itself (unowned zero_time);
  answers = zero_first (answer_of ys (between from to)) (zero_below_answer (between from to) ys) ∙
      elim low [
        | inl h ↦ ap (λ (ns : List Node). answer_of (ns ++ ys) (between from to)) (sym h)
        | inr h ↦ sym (answer_right from to xs ys sorted h)
      ];
}

-- one leaf more
pub answers_of_last : (all xs ys : List Node) (from to low : Cut) (best : ValueView) →
    IsSorted (xs ++ ys) → Lt low to → Le to (start_of ys) →
    AnswersSoFar all (xs ++ ys) from to low best →
    joint best (answer_of xs (between low to) ∷ []) ≡ answer_of all (between from to)
answers_of_last all xs ys from to low best sorted up high so_far =
    ap (λ (w : ValueView). joint best (w ∷ [])) (sym (answer_left low to xs ys sorted up high)) ∙
    so_far.answers

pub answers_go_on : (all xs ys : List Node) (from to low : Cut) (best : ValueView) →
    IsSorted (xs ++ ys) → Lt low (start_of ys) → Lt (start_of ys) to →
    AnswersSoFar all (xs ++ ys) from to low best →
    AnswersSoFar all ys from to (before []) (joint best (answer_of xs (between low last) ∷ []))
answers_go_on all xs ys from to low best sorted open_low high so_far = record {
  zero_below = IsAtMost-transitive (unowned zero_time) best
      (joint best (answer_of xs (between low last) ∷ [])) so_far.zero_below
      (first_below best (answer_of xs (between low last)));
  answers = sym (joint-chain best (answer_of xs (between low last))
      (answer_of ys (between (before []) to)))
      ∙ ap (λ (w : ValueView). joint best (w ∷ []))
      (sym (answer_both low to xs ys sorted open_low high)) ∙ so_far.answers;
}

-- no leaf is left
pub answers_at_end : (all left : List Node) (from to low : Cut) (best : ValueView) → left ≡ [] →
    AnswersSoFar all left from to low best → best ≡ answer_of all (between from to)
answers_at_end all left from to low best none so_far =
    sym (zero_last best so_far.zero_below)
    ∙ ap (λ (w : ValueView). joint best (w ∷ []))
    (sym (ap (λ (ns : List Node). answer_of ns (between low to)) none ∙ nothing_left))
    ∙ so_far.answers
  where
    nothing_left : answer_of [] (between low to) ≡ unowned zero_time
    nothing_left = one_joint _ _ _ _ (λ w m. m) (λ w m. m) (answer_is (between low to) [])
        (none_seen (Meets (between low to) []) (λ w m. m))
