-- The shape of a struct, by a walk along the shapes.
use Rattle.std.proofs.Common.{◌≡◌, ℕ, ◌+◌, ◌<◌, List, length, get_or, drop, Some, cond, Bool, true, false, refl, sym, ap, ◌∙◌, add-one, drop-cons}
use Rattle.base.specs.TypeData.{TypeData, types_of, list_of_types, list_of_types-types_of, struct_code, struct_back, struct_back-code}
use Rattle.base.specs.declared.types.StructId.{StructId}
use Rattle.fol.specs.TreeOrder.{same_tree-equal, same_tree_itself}
use Rattle.fol.specs.declared.shapes.Shape.{Shape}
use Rattle.fol.specs.TypedValue.{same_struct}
use Rattle.axioms.specs.Fields.{shape_of}

pub listed : (ts : List TypeData) → list_of_types (types_of ts) ≡ ts
listed ts = list_of_types-types_of ts

same_names : (a b : StructId) → a ≡ b → same_struct a b ≡ true
same_names a b e = ap (λ (x : StructId). same_struct a x) (sym e) ∙ same_tree_itself (struct_code a)

other_names : (a b : StructId) → (a ≡ b → ⊥) → (t : Bool) → same_struct a b ≡ t → t ≡ false
other_names a b apart true e =
    absurd (apart (sym (struct_back-code a) ∙ ap struct_back (same_tree-equal (struct_code a) (struct_code b) e) ∙ struct_back-code b))
other_names a b apart false e = refl

shape_of_drop : (xs : List Shape) (i : ℕ) (d : Shape) (s : StructId) → i < length xs → shape_of (drop i xs) s ≡ cond (same_struct (get_or xs i d).name s) (Some (get_or xs i d)) (shape_of (drop (i + 1) xs) s)
shape_of_drop xs i d s h = rw (add-one, drop-cons xs i d)

pub shape_found : (xs : List Shape) (i : ℕ) (d : Shape) (s : StructId) → i < length xs → (get_or xs i d).name ≡ s → shape_of (drop i xs) s ≡ Some (get_or xs i d)
shape_found xs i d s h e =
    shape_of_drop xs i d s h ∙ ap (λ (b : Bool). cond b (Some (get_or xs i d)) (shape_of (drop (i + 1) xs) s)) (same_names _ s e)

pub shape_next : (xs : List Shape) (i : ℕ) (d : Shape) (s : StructId) → i < length xs → ((get_or xs i d).name ≡ s → ⊥) → shape_of (drop i xs) s ≡ shape_of (drop (i + 1) xs) s
shape_next xs i d s h apart =
    shape_of_drop xs i d s h ∙ ap (λ (b : Bool). cond b (Some (get_or xs i d)) (shape_of (drop (i + 1) xs) s)) (other_names _ s apart _ refl)
