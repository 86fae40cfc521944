-- The settings of pragmas, one after another.
use Rattle.std.proofs.Common.{◌≡◌, ℕ, suc, ◌+◌, ◌<◌, List, [], ◌∷◌, ◌++◌, length, get_or, take, Bool, Option, Some, None, refl, sym, ap, ◌∙◌, arith}
use Rattle.std.proofs.Math.Seq.{take-suc}
use Rattle.std.specs.Prelude.{codes}
use Rattle.std.specs.List.{flat_map}
use Rattle.std.specs.Option.{option_or}
use Rattle.syntax_tree.specs.declared.clause.Pragma.{Pragma}
use Rattle.resolution.specs.declared.clauses.pragmas.Settings.{Settings}
use Rattle.resolution.proofs.ListLaws.{flat_next}
use Rattle.resolution.specs.Pragmas.{before_others, last_set, set_by, settings_of}

or_assoc : (a b c : Option Bool) → option_or (option_or a b) c ≡ option_or a (option_or b c)
or_assoc None b c = refl
or_assoc (Some x) b c = refl

or_none : (a : Option Bool) → option_or a None ≡ a
or_none None = refl
or_none (Some x) = refl

last_append : (word : List ℕ) (ps qs : List Pragma) (b : Option Bool) → option_or (last_set word qs) (option_or (last_set word ps) b) ≡ option_or (last_set word (ps ++ qs)) b
last_append word [] qs b = refl
last_append word (p ∷ ps) qs b =
    ap (λ o. option_or (last_set word qs) o) (or_assoc (last_set word ps) (set_by word p) b)
    ∙ last_append word ps qs (option_or (set_by word p) b)
    ∙ sym (or_assoc (last_set word (ps ++ qs)) (set_by word p) b)

-- the settings after some pragmas and then others
pub settings_append : (ps qs : List Pragma) (before : Settings) → before_others (settings_of qs) (before_others (settings_of ps) before) ≡ before_others (settings_of (ps ++ qs)) before
settings_append ps qs before = λ i. record {
  verify = last_append (codes "verify") ps qs before.verify i;
  is_opaque = last_append (codes "opaque") ps qs before.is_opaque i;
  aborts_if_is_partial = last_append (codes "aborts_if_is_partial") ps qs before.aborts_if_is_partial i;
  aborts_if_is_strict = last_append (codes "aborts_if_is_strict") ps qs before.aborts_if_is_strict i;
}

-- after one more pragma
pub settings_more : (xs : List Pragma) (i : ℕ) (x : Pragma) (before now new : Settings) → i < length xs → x ≡ get_or xs i x → now ≡ before_others (settings_of (take i xs)) before → new ≡ before_others (settings_of (x ∷ [])) now → new ≡ before_others (settings_of (take (i + 1) xs)) before
settings_more xs i x before now new h e done one =
    let f : take (suc i) xs ≡ take i xs ++ x ∷ [] = take-suc xs i x h ∙ ap (λ y. take i xs ++ y ∷ []) (sym e) in
    let g : i + 1 ≡ suc i = omega arith in
    one ∙ ap (before_others (settings_of (x ∷ []))) done ∙ settings_append (take i xs) (x ∷ []) before ∙ ap (λ ps. before_others (settings_of ps) before) (sym f) ∙ ap (λ k. before_others (settings_of (take k xs)) before) (sym g)

-- after the pragmas of one more clause
pub settings_next : {X : Type 0} (g : X → List Pragma) (xs : List X) (i : ℕ) (x : X) (before now new : Settings) → i < length xs → x ≡ get_or xs i x → now ≡ before_others (settings_of (flat_map g (take i xs))) before → new ≡ before_others (settings_of (g x)) now → new ≡ before_others (settings_of (flat_map g (take (i + 1) xs))) before
settings_next g xs i x before now new h e done one =
    one ∙ ap (before_others (settings_of (g x))) done ∙ settings_append (flat_map g (take i xs)) (g x) before ∙ ap (λ ps. before_others (settings_of ps) before) (flat_next g xs i x h e)
