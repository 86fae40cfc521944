-- A spec block that takes all tokens is read exactly.
use Rattle.std.proofs.Common.{◌≡◌, ℕ, suc, ◌≤◌, List, [], ◌∷◌, Some, length, refl, subst}
use Rattle.tokens.specs.declared.token.Token.{Token}
use Rattle.syntax_tree.specs.declared.slot.Slot.{Slot}
use Rattle.syntax_tree.specs.declared.clause.Spec.{Spec}
use Rattle.syntax_tree.specs.ClauseSpelling.{spec_tree_spelling}
use Rattle.syntax_tree.specs.ProperClauses.{IsProperBlock}
use Rattle.parser_base.specs.Beginnings.{Begins}
use Rattle.parser_base.proofs.Steps.{step, bind_some}
use Rattle.item_parser.specs.SpecBlockReading.{spec_block_at}
use Rattle.item_parser.proofs.SpecBlockLemmas.{spec_block_at-sound, spec_block_at-complete}
use Rattle.item_parser.specs.WholeBlockReading.{at_end, whole_at}

at_end-sound : (x : Spec) (ts : List Token) (y : Spec) → at_end x ts ≡ Some y → (x ≡ y) × (ts ≡ [])
at_end-sound x [] y h = (cc, refl)
at_end-sound x (t ∷ ts) y h = absurd (cc)

pub whole_at-sound : (slot : Slot) (n : ℕ) (ts : List Token) (x : Spec) → whole_at slot n ts ≡ Some x → Begins (spec_tree_spelling x) ts [] × IsProperBlock slot x
unfolding whole_at
whole_at-sound slot n ts x h =
    let s = step (spec_block_at slot n ts) (λ r. at_end r.0 r.1) x h in
    let d = at_end-sound s.value.0 s.value.1 x s.then in
    let r = spec_block_at-sound slot n ts s.value s.first in
    (subst (λ y. Begins (spec_tree_spelling y) ts []) d.0 (subst (Begins (spec_tree_spelling s.value.0) ts) d.1 r.0), subst (IsProperBlock slot) d.0 r.1)

pub whole_at-complete : (slot : Slot) (n : ℕ) (x : Spec) (ts : List Token) → length ts ≤ n → Begins (spec_tree_spelling x) ts [] → IsProperBlock slot x → whole_at slot (suc n) ts ≡ Some x
unfolding whole_at
whole_at-complete slot n x ts h b p = bind_some (spec_block_at slot (suc n) ts) (λ r. at_end r.0 r.1) (x, []) (spec_block_at-complete slot n x ts [] h b p)
