-- The rows of a trigger, one after another.
use Rattle.std.proofs.Common.{◌≡◌, ℕ, List, [], ◌∷◌, ◌++◌, refl, sym, ap, ◌∙◌, subst, append_assoc, append-nil}
use Rattle.std.proofs.lemmas.List.{map_push}
use Rattle.fol.specs.FormulaData.{list_of_terms}
use Rattle.term_pool.specs.Items.{TermsSort}
use Rattle.term_pool.specs.declared.node.Node.{Node}
use Rattle.certificates.specs.BranchesBranch.{Branch}
use Rattle.ematching.specs.Numbers.{AreAll, IsOfSort, term_at, terms_at}
use Rattle.ematching.specs.Rows.{IsRow, IsNumbered, AreRows, IsFirstOf, pattern_in, patterns_in}
use Rattle.ematching.specs.declared.rows.Row.{Row}

pub all_push : {X : Type 0} (P : X → Type 0) (xs : List X) (x : X) → AreAll P xs → P x → AreAll P (xs ++ x ∷ [])
all_push P [] x h p = (p, tt)
all_push P (y ∷ xs) x h p = (h.0, all_push P xs x h.1 p)

pub all_weaker : {X : Type 0} (P Q : X → Type 0) → ((x : X) → P x → Q x) → (xs : List X) → AreAll P xs → AreAll Q xs
all_weaker P Q f [] h = tt
all_weaker P Q f (x ∷ xs) h = (f x h.0, all_weaker P Q f xs h.1)

pub numbered : (ns : List Node) (b : Branch) (bound : List ℕ) (row : Row) → IsRow ns b bound row → IsNumbered ns row
numbered ns b bound row h = record { pattern = h.pattern; candidates = λ n a. (h.candidates.only n a).number }

module _ (ns : List Node) (b : Branch) (bound : List ℕ) where
  pub all_numbered : (rows : List Row) → AreAll (IsRow ns b bound) rows → AreAll (IsNumbered ns) rows
  all_numbered rows h = all_weaker (IsRow ns b bound) (IsNumbered ns) (numbered ns b bound) rows h

  -- the rows so far, and the terms of the rest of a list
  pub record IsListing (list rest : ℕ) (rows : List Row) : Type 0 where
    pub sort : IsOfSort ns TermsSort rest
    pub each : AreAll (IsRow ns b bound) rows
    pub all : patterns_in ns rows ++ list_of_terms (terms_at ns rest) ≡ list_of_terms (terms_at ns list)

  pub listing_begun : (list : ℕ) (rows : List Row) → rows ≡ [] → IsOfSort ns TermsSort list → IsListing list list rows
  listing_begun list rows e sort = subst (IsListing list list) (sym e) (record { sort = sort; each = tt; all = refl })

  pub listing_more : (list rest : ℕ) (rows more : List Row) (p : ℕ × ℕ) (row : Row) → IsListing list rest rows → IsFirstOf ns rest p → IsRow ns b bound row → row.pattern ≡ p.0 → more ≡ rows ++ row ∷ [] → IsListing list p.1 more
  listing_more list rest rows more p row h g is e f = subst (IsListing list p.1) (sym f) (record {
    sort = g.rest;
    each = all_push (IsRow ns b bound) rows row h.each is;
    all =
        let first : patterns_in ns (rows ++ row ∷ []) ≡ patterns_in ns rows ++ term_at ns p.0 ∷ [] = map_push (pattern_in ns) rows row ∙ ap (λ k. patterns_in ns rows ++ term_at ns k ∷ []) e in
        ap (λ ts. ts ++ list_of_terms (terms_at ns p.1)) first ∙ append_assoc (patterns_in ns rows) (term_at ns p.0 ∷ []) (list_of_terms (terms_at ns p.1)) ∙ ap (λ ts. patterns_in ns rows ++ ts) (sym g.is) ∙ h.all;
  })

  pub listing_done : (list rest : ℕ) (rows : List Row) → IsListing list rest rows → list_of_terms (terms_at ns rest) ≡ [] → AreRows ns b bound (list_of_terms (terms_at ns list)) rows
  listing_done list rest rows h e = record {
    each = h.each;
    are = sym (append-nil (patterns_in ns rows)) ∙ ap (λ ts. patterns_in ns rows ++ ts) (sym e) ∙ h.all;
  }
