use Rattle.std.proofs.Common.{◌≡◌, ◌++◌, ◌∷◌, [], true, false, ap, sym, refl, rules}
use Rattle.row_reasoning.specs.Rows.{IsPushed, AreRowsSoFar}
use Rattle.row_reasoning.proofs.ResultLemmas.{ok_map}
use Rattle.row_reasoning.proofs.StateLemmas.{one_row, two_rows}
use Rattle.row_reasoning.proofs.rows.push_entry.Goals as goal

pub returns-then-not-is_equation : goal.returns-then-not-is_equation
returns-then-not-is_equation c = λ class given ps p long h before. (let unequal : c.args.row.is_equation ≡ false = search rules in
    one_row class given ps p c.args.row c.args.made.now c.push_row.new.made before h (record { entry = c.args.entry; is_turned = false }) (sym long) refl c.in_ok-push_row.ensures unequal)

pub returns : goal.returns
returns c = λ class given ps p long h before. (let equal : c.args.row.is_equation ≡ true = search rules in
    ok_map (λ _. IsPushed c.push_row.new.made c.push_row-2.new.made c.negated-turned.result (record { entry = c.args.entry; is_turned = true })) (λ _. AreRowsSoFar class given (ps ++ p ∷ []) c.push_row-2.new.made)
    (λ _ pushed. two_rows class given ps p c.args.row c.args.made.now c.push_row.new.made before h (record { entry = c.args.entry; is_turned = false }) (sym long) refl c.in_ok-push_row.ensures c.push_row-2.new.made c.negated-turned.result (record { entry = c.args.entry; is_turned = true }) equal (record { sign = c.negated-turned.ensures.sign; constant_is = c.negated-turned.ensures.constant; coefficients = ap (λ m. m.entries) c.negated-turned.ensures.coefficients }) (sym long) refl pushed)
    c.push_row-2.result c.push_row-2.ensures)
