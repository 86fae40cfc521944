-- A spec expression that takes all tokens is read exactly.
use Rattle.std.proofs.Common.{◌≡◌, ℕ, suc, ◌≤◌, true, List, [], ◌∷◌, Some, length, refl, subst, arith}
use Rattle.tokens.specs.declared.token.Token.{Token}
use Rattle.syntax_tree.specs.SpecExpressionData.{SpecExpressionData}
use Rattle.syntax_tree.specs.SpecExpressionSpelling.{spec_spelling}
use Rattle.syntax_tree.specs.ProperSpecExpressions.{IsProperSpec}
use Rattle.parser_base.specs.Beginnings.{Begins}
use Rattle.parser_base.proofs.Steps.{step, bind_some}
use Rattle.expression_parser.specs.SpecReading.{spec_at}
use Rattle.expression_parser.proofs.FormSound.{spec_at-sound}
use Rattle.expression_parser.proofs.FormComplete.{spec_at-complete}
use Rattle.expression_parser.proofs.SpecTermComplete.{nothing_ends}
use Rattle.item_parser.specs.WholeReading.{at_end, whole_at}

at_end-sound : (e : SpecExpressionData) (ts : List Token) (f : SpecExpressionData) → at_end e ts ≡ Some f → (e ≡ f) × (ts ≡ [])
at_end-sound e [] f h = (cc, refl)
at_end-sound e (t ∷ ts) f h = absurd (cc)

pub whole_at-sound : (n : ℕ) (ts : List Token) (e : SpecExpressionData) → whole_at n ts ≡ Some e → Begins (spec_spelling e) ts [] × IsProperSpec e
unfolding whole_at
whole_at-sound n ts e h =
    let s = step (spec_at n true 0 ts) (λ r. at_end r.0 r.1) e h in
    let d = at_end-sound s.value.0 s.value.1 e s.then in
    let r = spec_at-sound n true 0 ts s.value (omega arith) s.first in
    (subst (λ f. Begins (spec_spelling f) ts []) d.0 (subst (Begins (spec_spelling s.value.0) ts) d.1 r.spelled), subst IsProperSpec d.0 r.is_proper)

pub whole_at-complete : (n : ℕ) (e : SpecExpressionData) (ts : List Token) → length ts ≤ n → Begins (spec_spelling e) ts [] → IsProperSpec e → whole_at (suc n) ts ≡ Some e
unfolding whole_at
whole_at-complete n e ts h b p =
    bind_some (spec_at (suc n) true 0 ts) (λ r. at_end r.0 r.1) (e, []) ((spec_at-complete n).loose true e ts [] h b p tt (nothing_ends true))
