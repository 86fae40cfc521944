-- Declarations one after another, and the first one with a use that has no meaning.
use Rattle.std.proofs.Common.{◌≡◌, inl, inr, ℕ, suc, ◌+◌, ◌<◌, List, [], ◌∷◌, ◌++◌, length, get_or, take, drop, zero, sym, ap, subst, ◌∙◌, arith, append_assoc, append-nil, add-one, drop-cons}
use Rattle.std.proofs.lemmas.List.{take_more}
use Rattle.base.specs.declared.span.Span.{Span}
use Rattle.syntax_tree.specs.SourceData.{SourceMemberData}
use Rattle.resolution.specs.declared.fault.DeclarationFault.{DeclarationFault}
use Rattle.resolution.specs.declared.fault.DeclarationFault.TheVariants.{Unknown, NoMemory}
use Rattle.scopes.specs.Meanings.{IfUnknown}
use Rattle.scopes.specs.declared.fault.NameFault.{NameFault}
use Rattle.scopes.specs.declared.fault.NameFault.TheVariants.{Unknown as name_unknown, NoMemory as name_memory}
use Rattle.resolution.specs.Faults.{IsFaultAmong, fault_at}
use Rattle.resolution.specs.Items.{AreKnown, HasUnknown, Here, IsFirstUnknown, Item, item_span, items_behind, member_items}

pub known_append : (xs ys : List Item) → AreKnown xs → AreKnown ys → AreKnown (xs ++ ys)
known_append [] ys a b = b
known_append (x ∷ xs) ys a b = (a.0, known_append xs ys a.1 b)

first_behind : (xs ys : List Item) (span : Span) → AreKnown xs → IsFirstUnknown ys span → IsFirstUnknown (xs ++ ys) span
first_behind [] ys span a h = h
first_behind (x ∷ xs) ys span a h = inr (a.0, first_behind xs ys span a.1 h)

first_before : (xs ys : List Item) (span : Span) → IsFirstUnknown xs span → IsFirstUnknown (xs ++ ys) span
first_before [] ys span h = absurd h
first_before (x ∷ xs) ys span (inl h) = inl h
first_before (x ∷ xs) ys span (inr h) = inr (h.0, first_before xs ys span h.1)

pub fault_behind : (xs ys : List Item) (fault : DeclarationFault) → AreKnown xs → IsFaultAmong ys fault → IsFaultAmong (xs ++ ys) fault
fault_behind xs ys (Unknown span) a h = first_behind xs ys span a h
fault_behind xs ys NoMemory a h = tt

pub fault_before : (xs ys : List Item) (fault : DeclarationFault) → IsFaultAmong xs fault → IsFaultAmong (xs ++ ys) fault
fault_before xs ys (Unknown span) h = first_before xs ys span h
fault_before xs ys NoMemory h = tt

-- one declaration between others
pub fault_between : (xs ys zs : List Item) (fault : DeclarationFault) → AreKnown xs → IsFaultAmong ys fault → IsFaultAmong (xs ++ (ys ++ zs)) fault
fault_between xs ys zs fault a h = fault_behind xs (ys ++ zs) fault a (fault_before ys zs fault h)

-- one declaration, in which a use has no meaning or for which memory ran out
pub item_fault : (x : Item) (fault : NameFault) (span : Span) → span ≡ item_span x → IfUnknown fault (HasUnknown x) → IsFaultAmong (x ∷ []) (fault_at fault span)
item_fault x name_unknown span e h = inl (h, e)
item_fault x name_memory span e h = tt

-- ---- members

pub items-append : (w : Here) (before ms ns : List SourceMemberData) → items_behind w before (ms ++ ns) ≡ items_behind w before ms ++ items_behind w (before ++ ms) ns
items-append w before [] ns = ap (λ b. items_behind w b ns) (sym (append-nil before))
items-append w before (m ∷ ms) ns =
    ap (λ is. member_items w before m ++ is) (items-append w (before ++ m ∷ []) ms ns ∙ ap (λ b. items_behind w (before ++ m ∷ []) ms ++ items_behind w b ns) (append_assoc before (m ∷ []) ms))
    ∙ sym (append_assoc (member_items w before m) (items_behind w (before ++ m ∷ []) ms) (items_behind w (before ++ m ∷ ms) ns))

-- the list is the items before an index, the item at it, and those after it
pub around_span : {A : Type 0} (xs : List A) (i : ℕ) (x : A) → i < length xs → x ≡ get_or xs i x → take i xs ++ x ∷ drop (i + 1) xs ≡ xs
around_span [] i x h e = absurd (omega (arith, h))
around_span (y ∷ ys) zero x h e = ap (λ z. z ∷ ys) e
around_span (y ∷ ys) (suc i) x h e =
    let n : suc i + 1 ≡ suc (i + 1) = omega arith in
    ap (λ k. y ∷ (take i ys ++ x ∷ drop k (y ∷ ys))) n ∙ ap (λ zs. y ∷ zs) (around_span ys i x (omega (arith, h)) e)

pub drop_one : {A : Type 0} (xs : List A) (i : ℕ) (x : A) → i < length xs → x ≡ get_or xs i x → drop i xs ≡ x ∷ drop (i + 1) xs
drop_one xs i x h e =
    let f : drop i xs ≡ get_or xs i x ∷ drop (suc i) xs = drop-cons xs i x h in
    rw add-one (f ∙ ap (λ y. y ∷ drop (suc i) xs) (sym e))

pub taken_one : {A : Type 0} (xs : List A) (i : ℕ) (x : A) → i < length xs → x ≡ get_or xs i x → take (i + 1) xs ≡ take i xs ++ x ∷ []
taken_one xs i x h e = take_more xs i x h ∙ ap (λ y. take i xs ++ y ∷ []) (sym e)

-- the first members are known, and the next one is
pub known_member : (w : Here) (ms : List SourceMemberData) (i : ℕ) (m : SourceMemberData) → i < length ms → m ≡ get_or ms i m → AreKnown (items_behind w [] (take i ms)) → AreKnown (member_items w (take i ms) m) → AreKnown (items_behind w [] (take (i + 1) ms))
known_member w ms i m h e a b =
    let one = subst (λ is. AreKnown is) (sym (append-nil (member_items w (take i ms) m))) b in
    let all = known_append (items_behind w [] (take i ms)) (items_behind w (take i ms) (m ∷ [])) a one in
    subst (λ is. AreKnown is) (sym (ap (λ xs. items_behind w [] xs) (taken_one ms i m h e) ∙ items-append w [] (take i ms) (m ∷ []))) all

-- the first members are known, and the next one has a fault
pub fault_member : (w : Here) (ms : List SourceMemberData) (i : ℕ) (m : SourceMemberData) (fault : DeclarationFault) → i < length ms → m ≡ get_or ms i m → AreKnown (items_behind w [] (take i ms)) → IsFaultAmong (member_items w (take i ms) m) fault → IsFaultAmong (items_behind w [] ms) fault
fault_member w ms i m fault h e a b =
    let there = fault_between (items_behind w [] (take i ms)) (member_items w (take i ms) m) (items_behind w (take i ms ++ m ∷ []) (drop (i + 1) ms)) fault a b in
    subst (λ is. IsFaultAmong is fault) (sym (items-append w [] (take i ms) (m ∷ drop (i + 1) ms)) ∙ ap (λ xs. items_behind w [] xs) (around_span ms i m h e)) there
