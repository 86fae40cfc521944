-- A branch with further entries.
use Rattle.std.proofs.Common.{ℕ, ◌<◌, ◌≤◌, ◌++◌, length, refl, arith}
use Rattle.fol.specs.FormulaData.{FormulaData}
use Rattle.certificates.specs.Names.{above_all}
use Rattle.certificates.specs.BranchesBranch.{Branch, formulas}
use Rattle.certificates.specs.Due.{NameDue}
use Rattle.tableau.proofs.RulesLaterLemmas.{said}
use Rattle.tableau.specs.Names.{NoNameAt, NoNameBefore}
use Rattle.tableau.proofs.AboveLemmas.{all_new, entry_below, longer_above, said_again}
use Rattle.tableau.proofs.NamesListLemmas.{found_kept}

module _ (b more : Branch) where
  -- if a name is due at an entry, one was due before the others were added, unless one of these names it
  name_was_due : (i v : ℕ) (p : FormulaData) → i < length b → NoNameAt b i → NameDue (b ++ more) i v p → ⊥
  name_was_due i v p w none due =
      let u : ℕ = above_all (formulas b) in
      let says = said b more i due.entry w due.says in
      let body = said_again v u due.entry p (entry_below b i due.entry says) due.is_body in
      none.none u body.formula (record {
        entry = due.entry;
        says = says;
        is_body = body.is_body;
        is_new = all_new u (formulas b) (omega arith);
        is_above = refl;
        is_variable = (let l = longer_above b more in let e = due.is_above in let s = due.is_variable in omega (arith, l, e, s));
        unnamed = λ n. due.unnamed (record { position = n.position; entry = n.entry; found = found_kept b more n.position n.entry n.found; names = n.names });
        shallow = (let e = body.same in let s = due.shallow in omega (arith, e, s));
      })

  pub names_stay : (count : ℕ) → count ≤ length b → NoNameBefore b count → NoNameBefore (b ++ more) count
  names_stay count w h = record {
    each = λ i l. record { none = λ v p due. name_was_due i v p (omega (arith, l, w)) (h.each i l) due };
  }
