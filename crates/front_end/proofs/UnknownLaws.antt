-- Each use in declarations means something, or there is exactly one first declaration in which one does not.
use Rattle.std.proofs.Common.{◌≡◌, ℕ, ◌+◌, ◌<◌, List, [], ◌∷◌, length, inl, inr, sym, ◌∙◌, arith}
use Rattle.base.specs.declared.span.Span.{Span}
use Rattle.syntax_tree.specs.SourceModuleData.{SourceModuleData}
use Rattle.resolution.specs.Items.{AreKnown, AreKnownIn, IsFirstUnknown, IsFirstUnknownIn, Item, source_items}
use Rattle.resolution.specs.Known.{KnownData}

-- ---- in one file

items_apart : (items : List Item) (span : Span) → AreKnown items → IsFirstUnknown items span → ⊥
items_apart [] span k f = f
items_apart (x ∷ xs) span k (inl f) = k.0 f.0
items_apart (x ∷ xs) span k (inr f) = items_apart xs span k.1 f.1

items_once : (items : List Item) (span other : Span) → IsFirstUnknown items span → IsFirstUnknown items other → span ≡ other
items_once [] span other f g = absurd f
items_once (x ∷ xs) span other (inl f) (inl g) = f.1 ∙ sym g.1
items_once (x ∷ xs) span other (inl f) (inr g) = absurd (g.0 f.0)
items_once (x ∷ xs) span other (inr f) (inl g) = absurd (f.0 g.0)
items_once (x ∷ xs) span other (inr f) (inr g) = items_once xs span other f.1 g.1

-- ---- in all files

pub known_apart : (known : KnownData) (n : ℕ) (sources : List (List SourceModuleData)) (file : ℕ) (span : Span) → AreKnownIn known sources → IsFirstUnknownIn known n sources file span → ⊥
known_apart known n [] file span k f = f
known_apart known n (s ∷ ss) file span k (inl f) = items_apart (source_items known s) span k.0 f.1
known_apart known n (s ∷ ss) file span k (inr f) = known_apart known (n + 1) ss file span k.1 f.1

-- the file and the span are the same
pub record SameUnknown (file other_file : ℕ) (span other : Span) : Type 0 where
  pub file_is : file ≡ other_file
  pub span_is : span ≡ other

pub unknown_once : (known : KnownData) (n : ℕ) (sources : List (List SourceModuleData)) (file other_file : ℕ) (span other : Span) → IsFirstUnknownIn known n sources file span → IsFirstUnknownIn known n sources other_file other → SameUnknown file other_file span other
unknown_once known n [] file other_file span other f g = absurd f
unknown_once known n (s ∷ ss) file other_file span other (inl f) (inl g) =
    record { file_is = f.0 ∙ sym g.0; span_is = items_once (source_items known s) span other f.1 g.1 }
unknown_once known n (s ∷ ss) file other_file span other (inl f) (inr g) = absurd (items_apart (source_items known s) span g.0 f.1)
unknown_once known n (s ∷ ss) file other_file span other (inr f) (inl g) = absurd (items_apart (source_items known s) other f.0 g.1)
unknown_once known n (s ∷ ss) file other_file span other (inr f) (inr g) = unknown_once known (n + 1) ss file other_file span other f.1 g.1

-- the file is one of them
pub file_within : (known : KnownData) (n : ℕ) (sources : List (List SourceModuleData)) (file : ℕ) (span : Span) → IsFirstUnknownIn known n sources file span → file < n + length sources
file_within known n [] file span f = absurd f
file_within known n (s ∷ ss) file span (inl f) = let e = f.0 in omega (arith, e)
file_within known n (s ∷ ss) file span (inr f) = let h = file_within known (n + 1) ss file span f.1 in omega (arith, h)
