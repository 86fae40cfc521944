-- Modules of files have at most one program of sums, or what is not built of them begins at one offset.
use Rattle.std.proofs.Common.{◌≡◌, ℕ, false, List, [], ◌∷◌, ◌++◌, refl, sym, ap, subst, ◌∙◌, append-nil, append_assoc, inl, inr}
use Rattle.base.proofs.ListEnds.{head_is, tail_is}
use Rattle.base.proofs.TruthValues.{apart}
use Rattle.syntax_tree.specs.SourceModuleData.{SourceModuleData}
use Rattle.sum_tree.specs.SumModuleData.{SumModuleData}
use Rattle.sum_module.specs.Program.{IsSumModule}
use Rattle.front_end.specs.Modules.{AreModules, IsFirstUnbuilt, IsUnbuiltBehind, is_taken}
use Rattle.front_end.proofs.BuiltLaws.{built_or_not, one_module, one_offset}

pub one_program : (front : List SumModuleData) (modules : List (ℕ × SourceModuleData)) (xs ys : List SumModuleData) → AreModules front modules xs → AreModules front modules ys → xs ≡ ys
one_program front [] [] [] p q = refl
one_program front [] [] (y ∷ ys) p q = absurd q
one_program front [] (x ∷ xs) ys p q = absurd p
one_program front (m ∷ modules) [] ys p q = absurd p
one_program front (m ∷ modules) (x ∷ xs) [] p q = absurd q
one_program front (m ∷ modules) (x ∷ xs) (y ∷ ys) p q =
    let e = one_module m.0 m.1 x y p.0 q.0 in
    ap (λ z. z ∷ xs) e ∙ ap (λ zs. y ∷ zs) (one_program (front ++ y ∷ []) modules xs ys (subst (λ z. AreModules (front ++ z ∷ []) modules xs) e p.2) q.2)

-- a module that was read after these is built after them
not_unbuilt : (front : List SumModuleData) (m : ℕ × SourceModuleData) (found : SumModuleData) (offset : ℕ) → IsSumModule m.0 m.1 found → is_taken front found.address found.name ≡ false → IsUnbuiltBehind front m.0 m.1 offset → ⊥
not_unbuilt front m found offset i n u =
    elim u [
      | inl b ↦ built_or_not m.0 m.1 found offset i b
      | inr t ↦ apart (is_taken front t.found.address t.found.name) t.taken (ap (λ (f : SumModuleData). is_taken front f.address f.name) (one_module m.0 m.1 t.found found t.is i) ∙ n)
    ]

one_behind : (front : List SumModuleData) (m : ℕ × SourceModuleData) (offset other : ℕ) → IsUnbuiltBehind front m.0 m.1 offset → IsUnbuiltBehind front m.0 m.1 other → offset ≡ other
one_behind front m offset other p q =
    elim p [
      | inl a ↦ elim q [
        | inl b ↦ one_offset m.1 offset other a b
        | inr b ↦ absurd (built_or_not m.0 m.1 b.found offset b.is a)
      ]
      | inr a ↦ elim q [
        | inl b ↦ absurd (built_or_not m.0 m.1 a.found other a.is b)
        | inr b ↦ a.offset_is ∙ sym b.offset_is
      ]
    ]

pub record SameSpan (file other_file offset other : ℕ) : Type 0 where
  pub file_is : file ≡ other_file
  pub offset_is : offset ≡ other

once_from : (front : List SumModuleData) (one other : List (ℕ × SourceModuleData)) (m n : ℕ × SourceModuleData) (back behind : List (ℕ × SourceModuleData)) (xs ys : List SumModuleData) (offset other_offset : ℕ)
    → one ++ m ∷ back ≡ other ++ n ∷ behind → AreModules front one xs → AreModules front other ys
    → IsUnbuiltBehind (front ++ xs) m.0 m.1 offset → IsUnbuiltBehind (front ++ ys) n.0 n.1 other_offset → SameSpan m.0 n.0 offset other_offset
once_from front [] [] m n back behind [] [] offset other e p q u v =
    let here = head_is e in
    record {
      file_is = ap (λ (k : ℕ × SourceModuleData). k.0) here;
      offset_is = one_behind (front ++ []) m offset other u (subst (λ (k : ℕ × SourceModuleData). IsUnbuiltBehind (front ++ []) k.0 k.1 other) (sym here) v);
    }
once_from front [] [] m n back behind [] (y ∷ ys) offset other e p q u v = absurd q
once_from front [] [] m n back behind (x ∷ xs) ys offset other e p q u v = absurd p
once_from front [] (w ∷ others) m n back behind [] [] offset other e p q u v = absurd q
once_from front [] (w ∷ others) m n back behind [] (y ∷ ys) offset other e p q u v =
    absurd (not_unbuilt front w y offset q.0 q.1 (subst (λ (k : ℕ × SourceModuleData). IsUnbuiltBehind front k.0 k.1 offset) (head_is e) (subst (λ before. IsUnbuiltBehind before m.0 m.1 offset) (append-nil front) u)))
once_from front [] (w ∷ others) m n back behind (x ∷ xs) ys offset other e p q u v = absurd p
once_from front (w ∷ ones) [] m n back behind [] ys offset other e p q u v = absurd p
once_from front (w ∷ ones) [] m n back behind (x ∷ xs) [] offset other e p q u v =
    absurd (not_unbuilt front w x other p.0 p.1 (subst (λ (k : ℕ × SourceModuleData). IsUnbuiltBehind front k.0 k.1 other) (sym (head_is e)) (subst (λ before. IsUnbuiltBehind before n.0 n.1 other) (append-nil front) v)))
once_from front (w ∷ ones) [] m n back behind (x ∷ xs) (y ∷ ys) offset other e p q u v = absurd q
once_from front (v ∷ ones) (w ∷ others) m n back behind [] ys offset other e p q f g = absurd p
once_from front (v ∷ ones) (w ∷ others) m n back behind (x ∷ xs) [] offset other e p q f g = absurd q
once_from front (v ∷ ones) (w ∷ others) m n back behind (x ∷ xs) (y ∷ ys) offset other e p q f g =
    let same = one_module v.0 v.1 x y p.0 (subst (λ (k : ℕ × SourceModuleData). IsSumModule k.0 k.1 y) (sym (head_is e)) q.0) in
    once_from (front ++ x ∷ []) ones others m n back behind xs ys offset other (tail_is e) p.2
    (subst (λ z. AreModules (front ++ z ∷ []) others ys) (sym same) q.2)
    (subst (λ before. IsUnbuiltBehind before m.0 m.1 offset) (sym (append_assoc front (x ∷ []) xs)) f)
    (subst (λ before. IsUnbuiltBehind before n.0 n.1 other) (ap (λ z. front ++ z ∷ ys) (sym same) ∙ sym (append_assoc front (x ∷ []) ys)) g)

pub first_once : (modules : List (ℕ × SourceModuleData)) (file other_file offset other : ℕ) → IsFirstUnbuilt modules file offset → IsFirstUnbuilt modules other_file other → SameSpan file other_file offset other
first_once modules file other_file offset other p q =
    once_from [] p.before q.before (file, p.module_tree) (other_file, q.module_tree) p.behind q.behind p.found q.found offset other (sym p.parts ∙ q.parts) p.are q.are p.unbuilt q.unbuilt

all_from : (front : List SumModuleData) (before : List (ℕ × SourceModuleData)) (m : ℕ × SourceModuleData) (behind : List (ℕ × SourceModuleData)) (xs ys : List SumModuleData) (offset : ℕ)
    → AreModules front (before ++ m ∷ behind) xs → AreModules front before ys → IsUnbuiltBehind (front ++ ys) m.0 m.1 offset → ⊥
all_from front [] m behind [] ys offset a p u = a
all_from front [] m behind (x ∷ xs) [] offset a p u = not_unbuilt front m x offset a.0 a.1 (subst (λ before. IsUnbuiltBehind before m.0 m.1 offset) (append-nil front) u)
all_from front [] m behind (x ∷ xs) (y ∷ ys) offset a p u = p
all_from front (w ∷ before) m behind [] ys offset a p u = a
all_from front (w ∷ before) m behind (x ∷ xs) [] offset a p u = p
all_from front (w ∷ before) m behind (x ∷ xs) (y ∷ ys) offset a p u =
    let same = one_module w.0 w.1 y x p.0 a.0 in
    all_from (front ++ x ∷ []) before m behind xs ys offset a.2 (subst (λ z. AreModules (front ++ z ∷ []) before ys) same p.2)
    (subst (λ list. IsUnbuiltBehind list m.0 m.1 offset) (ap (λ z. front ++ z ∷ ys) same ∙ sym (append_assoc front (x ∷ []) ys)) u)

-- if all modules are built, none is not
pub all_or_first : (modules : List (ℕ × SourceModuleData)) (program : List SumModuleData) (file offset : ℕ) → AreModules [] modules program → IsFirstUnbuilt modules file offset → ⊥
all_or_first modules program file offset a p =
    all_from [] p.before (file, p.module_tree) p.behind program p.found offset (subst (λ list. AreModules [] list program) p.parts a) p.are p.unbuilt
