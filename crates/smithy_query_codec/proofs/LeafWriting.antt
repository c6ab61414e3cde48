-- What a call that writes one leaf, and the end of a list, make of a serializer's state.
use Rattle.std.proofs.Common.{◌≡◌, ℕ, List, [], ◌∷◌, ◌++◌, take, Bool, true, Result, Ok, refl, subst}
use Rattle.smithy_schema.specs.declared.error.SerdeError.{SerdeError}
use Rattle.smithy_shapes.specs.Site.{View}
use Rattle.smithy_schema.specs.Writing.{Open, end_list, after_end_list}
use Rattle.smithy_query.specs.Form.{pair_text}
use Rattle.smithy_query_codec.specs.Writing.{Mark, QueryState, child_count, child_prefix, wrote, empty_leaf, made, allowed, where_taken}

-- the call begins, the leaf is added, and the open containers take it; the last step changes none of them
pub leaf_written : (s b p : QueryState) (view : View) (text : List ℕ) (can : Bool) (after : List Open → Result (List Open) SerdeError) (opens last_opens : List Open) (marks last_marks : List Mark)
    → b ≡ s → can ≡ true
    → p ≡ record b { out = b.out ++ pair_text (child_prefix b view) text; count = child_count b.opens b.count }
    → after p.opens ≡ Ok opens → marks ≡ p.marks
    → last_opens ≡ opens → last_marks ≡ marks
    → where_taken (wrote s view text) (allowed can (after s.opens)) ≡ Ok (record p { opens = last_opens; marks = last_marks })
leaf_written s b p view text can after opens last_opens marks last_marks begun can_be pushed taken kept last last_kept =
    let then_taken : after b.opens ≡ Ok opens = subst (λ (q : QueryState). after q.opens ≡ Ok opens) pushed taken in
    let is_taken : after s.opens ≡ Ok opens = subst (λ (q : QueryState). after q.opens ≡ Ok opens) begun then_taken in
    rw can_be (rw is_taken (rw last (rw last_kept (rw kept (rw pushed (rw begun refl))))))

-- the call begins, the list is taken from the open containers, its empty leaf is added, and what it has to restore is restored
pub list_ended : (s b e r : QueryState) (m : Mark) (opens last_opens : List Open) (marks last_marks : List Mark)
    → b ≡ s → after_end_list b.opens ≡ Ok opens → b.marks ≡ m ∷ marks
    → e ≡ record b { out = b.out ++ empty_leaf b (m ∷ []); opens = opens; marks = marks }
    → r ≡ record e { prefix = take m.prefix_length e.prefix; names = take m.names_length e.names; count = m.count }
    → last_opens ≡ r.opens → last_marks ≡ r.marks
    → where_taken (made end_list s) (after_end_list s.opens) ≡ Ok (record r { opens = last_opens; marks = last_marks })
list_ended s b e r m opens last_opens marks last_marks begun taken kept emptied restored last last_kept =
    let is_taken : after_end_list s.opens ≡ Ok opens = subst (λ (q : QueryState). after_end_list q.opens ≡ Ok opens) begun taken in
    let is_kept : s.marks ≡ m ∷ marks = subst (λ (q : QueryState). q.marks ≡ m ∷ marks) begun kept in
    rw is_taken (rw is_kept (rw last (rw last_kept (rw restored (rw emptied (rw begun refl))))))
