-- The first value that requires a bound.
use Rattle.std.proofs.Common.{◌≡◌, ℕ, zero, suc, ◌+◌, ◌<◌, ◌≤◌, ℤ, pos, ◌+ℤ◌, List, [], ◌∷◌, ◌++◌, take, drop, length, get_or, Option, Some, None, refl, sym, ap, ◌∙◌, subst, arith}
use Rattle.std.specs.Prelude.{slice_index, All, MatchOption}
use Rattle.std.proofs.lemmas.List.Elements.{All-weaker, All-push}
use Rattle.std.proofs.lemmas.List.{take_more, take_all, get_or_default}
use Rattle.base.specs.TypeData.{NumType}
use Rattle.fol.specs.FormulaData.{TermData, IsFormula}
use Rattle.linear_arith.specs.declared.rows.Fraction.{Fraction}
use Rattle.term_pool.specs.declared.node.Node.{Node}
use Rattle.certificates.specs.BranchesBranch.{Branch, Says, IsTerm}
use Rattle.certificates.specs.BranchesParts.{IsInFormula, Itself, InTyped}
use Rattle.certificates.specs.Rows.{IsNumberClass, IsWholeIfNumber}
use Rattle.row_reasoning.specs.Rows.{AreNames}
use Rattle.tableau.specs.PoolBranches.{IsTermNumber}
use Rattle.row_reasoning.specs.Numbers.{term_at, IsNumberEntry, AreNumberEntries}
use Rattle.row_reasoning.specs.Bounds.{IsBound, AsksNone, HasNoClass, HasNoNumber, IsWhole, AsksBound, IsFirstAsked}
use Rattle.row_reasoning.specs.declared.values.bounds.Bound.{Bound}
use Rattle.row_reasoning.specs.declared.values.numbers.NumberEntry.{NumberEntry}

-- an entry that states something about a term contains it
said_term : (b : Branch) (i : ℕ) (t : TermData) → Says b i (IsFormula NumType t) → IsTerm b t
said_term b i t says = record {
  generation = says.entry.generation;
  holds = record { position = i; entry = says.entry; found = says.found; inside = subst (IsInFormula t) (sym says.is) (InTyped NumType t Itself); same = refl };
}

module _ (ns : List Node) (b : Branch) (names : List ℕ) (found : ℕ → Option NumberEntry) (numbers : AreNumberEntries ns b names found) (class : TermData → ℕ) (named : AreNames ns b class names) where
  class_is : (entry : NumberEntry) → IsNumberEntry ns b entry → slice_index names entry.term ≡ class (term_at ns entry.term)
  class_is entry h = named.named entry.term h.number (said_term b entry.entry (term_at ns entry.term) h.says)

  -- a class that has a number has an entry
  has_entry : (name : ℕ) → IsNumberClass b class name → found name ≡ None → ⊥
  has_entry name h none =
      let it = numbers.all h.term h.stands in
      let term : IsTerm b (term_at ns it.number) = subst (IsTerm b) (sym it.is) (said_term b h.stands.position h.term h.stands.says) in
      let same : slice_index names it.number ≡ name = named.named it.number it.is_number term ∙ ap class it.is ∙ h.of_class in
      it.has (ap found same ∙ none)

  -- a value that requires no bound is whole if its class has a number
  pub whole_value : (classes : List ℕ) (v : Fraction) → AsksNone found classes v → IsWholeIfNumber b class classes v
  whole_value classes v (HasNoClass none) = record { whole = λ n e h. absurd (let never : None ≡ Some n = sym none ∙ e in cc) }
  whole_value classes v (HasNoNumber name is none) = record {
    whole = λ n e h. absurd (
        let both : Some name ≡ Some n = sym is ∙ e in
        let same : name ≡ n = cc in
        has_entry n h (ap found (sym same) ∙ none));
  }
  whole_value classes v (IsWhole h) = record { whole = λ n e k. h }

  -- a value that requires a bound, after others that are whole
  pub is_bound : (classes : List ℕ) (values before after : List Fraction) (v : Fraction) (bound : Bound) → values ≡ before ++ v ∷ after → All (IsWholeIfNumber b class classes) before → AsksBound found classes v bound → IsBound ns b class classes values bound
  is_bound classes values before after v bound parts whole h =
      let it = numbers.right h.name h.entry h.has_number in
      let number = it.is_number in
      record {
        number = subst (λ n. IsTermNumber ns n) (sym h.same_term) number.number;
        says = subst (λ i. Says b i (IsFormula NumType (term_at ns bound.term))) (sym h.same_entry) (subst (λ n. Says b h.entry.entry (IsFormula NumType (term_at ns n))) (sym h.same_term) number.says);
        before = before;
        value = v;
        after = after;
        parts = parts;
        whole_before = whole;
        of_term = h.has_class ∙ ap Some (sym it.named ∙ class_is h.entry number ∙ ap (λ n. class (term_at ns n)) (sym h.same_term));
        between = h.between;
        next = h.next;
      }

  pub all_whole : (classes : List ℕ) (values : List Fraction) → All (AsksNone found classes) values → All (IsWholeIfNumber b class classes) values
  all_whole classes values h = All-weaker (AsksNone found classes) (IsWholeIfNumber b class classes) (whole_value classes) values h

  pub bound_shown : (classes : List ℕ) (values : List Fraction) (bound : Bound) → IsFirstAsked found classes values bound → IsBound ns b class classes values bound
  bound_shown classes values bound h = is_bound classes values h.before h.after h.value bound h.parts (all_whole classes h.before h.none_before) h.asks

-- the value at this index, after those before it
pub first_asked : (found : ℕ → Option NumberEntry) (classes : List ℕ) (values : List Fraction) (k : ℕ) (v : Fraction) (bound : Bound) → k < length values → get_or values k v ≡ v → All (AsksNone found classes) (take k values) → AsksBound found classes v bound → IsFirstAsked found classes values bound
first_asked found classes values k v bound w is none asks = record {
  before = take k values;
  value = v;
  after = drop (suc k) values;
  parts = split_at values k v w is;
  none_before = none;
  asks = asks;
}
  where
    split_at : (xs : List Fraction) (n : ℕ) (x : Fraction) → n < length xs → get_or xs n x ≡ x → xs ≡ take n xs ++ x ∷ drop (suc n) xs
    split_at [] n x l e = absurd (omega (arith, l))
    split_at (y ∷ xs) zero x l e = ap (λ z. z ∷ xs) e
    split_at (y ∷ xs) (suc n) x l e = ap (λ zs. y ∷ zs) (split_at xs n x (omega (arith, l)) e)

pub match_option_map : {X : Type 0} (o : Option X) (P Q : Type 0) (R S : X → Type 0) → (P → Q) → ((x : X) → R x → S x) → MatchOption o P R → MatchOption o Q S
match_option_map None P Q R S f g h = f h
match_option_map (Some x) P Q R S f g h = g x h

abbrev pub bound_on : NumberEntry → ℤ → Bound
bound_on number k = record { entry = number.entry; term = number.term; below = k; above = k +ℤ pos 1 }

pub asked_push : (found : ℕ → Option NumberEntry) (classes : List ℕ) (values : List Fraction) (k : ℕ) (d : Fraction) → k < length values → All (AsksNone found classes) (take k values) → AsksNone found classes (get_or values k d) → All (AsksNone found classes) (take (k + 1) values)
asked_push found classes values k d w h one = subst (All (AsksNone found classes)) (sym (take_more values k d w)) (All-push (AsksNone found classes) (take k values) (get_or values k d) h one)

pub asked_all : (found : ℕ → Option NumberEntry) (classes : List ℕ) (values : List Fraction) (k : ℕ) → length values ≤ k → All (AsksNone found classes) (take k values) → All (AsksNone found classes) values
asked_all found classes values k w h = subst (All (AsksNone found classes)) (take_all k values w) h

pub first_at : (found : ℕ → Option NumberEntry) (classes : List ℕ) (values : List Fraction) (k : ℕ) (d : Fraction) (bound : Bound) → k < length values → All (AsksNone found classes) (take k values) → AsksBound found classes (get_or values k d) bound → IsFirstAsked found classes values bound
first_at found classes values k d bound w none asks = first_asked found classes values k (get_or values k d) bound w (get_or_default values k (get_or values k d) d w) none asks
