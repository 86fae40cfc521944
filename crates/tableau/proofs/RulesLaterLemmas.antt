-- A branch with further entries.
use Rattle.std.proofs.Common.{◌≡◌, ℕ, zero, suc, ◌<◌, ◌≤◌, List, [], ◌∷◌, ◌++◌, length, Some, arith}
use Rattle.std.specs.Prelude.{slice_get}
use Rattle.std.proofs.lemmas.List.Elements.{All-weaker}
use Rattle.fol.specs.FormulaData.{FormulaData}
use Rattle.certificates.specs.BranchesBranch.{Branch, Entry, Says, IsNew}
use Rattle.certificates.specs.Due.{PartsDue, SplitDue}
use Rattle.tableau.specs.Steps.{NoPartsBefore, NoSplitBefore}

kept : (b more : Branch) (i : ℕ) (e : Entry) → slice_get b i ≡ Some e → slice_get (b ++ more) i ≡ Some e
kept [] more i e h = absurd (cc)
kept (x ∷ b) more zero e h = h
kept (x ∷ b) more (suc i) e h = kept b more i e h

stood : (b more : Branch) (i : ℕ) (e : Entry) → i < length b → slice_get (b ++ more) i ≡ Some e → slice_get b i ≡ Some e
stood [] more i e w h = absurd (omega arith)
stood (x ∷ b) more zero e w h = h
stood (x ∷ b) more (suc i) e w h = stood b more i e (omega arith) h

module _ (b more : Branch) where
  pub said : (i : ℕ) (p : FormulaData) → i < length b → Says (b ++ more) i p → Says b i p
  said i p w h = record { entry = h.entry; found = stood b more i h.entry w h.found; is = h.is }

  pub was_new : (p : FormulaData) → IsNew (b ++ more) p → IsNew b p
  was_new p h = record {
    new = λ s. h.new (record { position = s.position; says = record { entry = s.says.entry; found = kept b more s.position s.says.entry s.says.found; is = s.says.is } });
  }

  parts_were_due : (i : ℕ) (ps : List FormulaData) → i < length b → PartsDue (b ++ more) i ps → PartsDue b i ps
  parts_were_due i ps w due = record {
    entry = due.entry;
    says = said i due.entry w due.says;
    are_parts = due.are_parts;
    news = record { position = due.news.position; formula = due.news.formula; found = due.news.found; is_new = was_new due.news.formula due.news.is_new };
    shallow = due.shallow;
  }

  pub split_was_due : (i : ℕ) (ps : List FormulaData) → i < length b → SplitDue (b ++ more) i ps → SplitDue b i ps
  split_was_due i ps w due = record {
    entry = due.entry;
    says = said i due.entry w due.says;
    are_cases = due.are_cases;
    some = due.some;
    news = All-weaker (IsNew (b ++ more)) (IsNew b) was_new ps due.news;
    shallow = due.shallow;
  }

  pub parts_stay : (count : ℕ) → count ≤ length b → NoPartsBefore b count → NoPartsBefore (b ++ more) count
  parts_stay count w h = record {
    each = λ i l. record { none = λ ps due. (h.each i l).none ps (parts_were_due i ps (omega arith) due) };
  }

  pub splits_stay : (count : ℕ) → count ≤ length b → NoSplitBefore b count → NoSplitBefore (b ++ more) count
  splits_stay count w h = record {
    each = λ i l. record { none = λ ps due. (h.each i l).none ps (split_was_due i ps (omega arith) due) };
  }
