-- The lists that steps append, one after another.
use Rattle.std.proofs.Common.{◌≡◌, List, ◌++◌, ap, sym, ◌∙◌, append_assoc}

-- the list that three steps append
pub three_parts : {A : Type 0} (a0 x y z : List A) {a1 a2 a3 w : List A} → a1 ≡ a0 ++ x → a2 ≡ a1 ++ y → a3 ≡ a2 ++ z → w ≡ x ++ y ++ z → a3 ≡ a0 ++ w
three_parts a0 x y z e1 e2 e3 e4 =
    e3 ∙ ap (λ l. l ++ z) (e2 ∙ ap (λ l. l ++ y) e1) ∙ append_assoc (a0 ++ x) y z ∙ append_assoc a0 x (y ++ z) ∙ ap (λ l. a0 ++ l) (sym (append_assoc x y z) ∙ sym e4)
