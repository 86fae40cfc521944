-- The members of a module are read in order.
use Rattle.std.proofs.Common.{◌≡◌, ℕ, zero, suc, ◌+◌, ◌<◌, ◌≤◌, List, [], ◌∷◌, ◌++◌, length, take, get_or, refl, sym, ap, subst, ◌∙◌, append-nil, append_assoc, arith}
use Rattle.std.specs.BTreeSet.{BTreeSet}
use Rattle.std.proofs.lemmas.Grind.{flat_map-append}
use Rattle.std.proofs.lemmas.List.{take_more}
use Rattle.syntax_tree.specs.SourceData.{SourceMemberData}
use Rattle.sum_module.specs.declared.member.SumMember.{SumMember}
use Rattle.sum_module.specs.Parameters.{Table, IsTableOf}
use Rattle.base.specs.Names.{IsSetOf}
use Rattle.syntax_tree.specs.Spans.{form_span}
use Rattle.sum_module.specs.Members.{name_of_form, name_of_member, functions_of, IsMember, IsUnbuilt, AreMembers}
use Rattle.sum_module.specs.Built.{IsFirstUnbuilt}

-- what is known of the first members
pub record Reading (members : List SourceMemberData) (table : Table) (front : List SourceMemberData) (seen : BTreeSet (List ℕ)) (found : List SumMember) : Type 0 where
  pub table_is : IsTableOf table members
  pub seen_is : IsSetOf seen (functions_of front)
  pub are : AreMembers members [] front found

are_append : (members before xs : List SourceMemberData) (ys : List SumMember) (x : SourceMemberData) (y : SumMember) → AreMembers members before xs ys → IsMember members (before ++ xs) x.form y → AreMembers members before (xs ++ x ∷ []) (ys ++ y ∷ [])
are_append members before [] [] x y a m = (subst (λ front. IsMember members front x.form y) (append-nil before) m, tt)
are_append members before [] (w ∷ ys) x y a m = absurd a
are_append members before (v ∷ xs) [] x y a m = absurd a
are_append members before (v ∷ xs) (w ∷ ys) x y a m = (a.0, are_append members (before ++ v ∷ []) xs ys x y a.1 (subst (λ front. IsMember members front x.form y) (sym (append_assoc before (v ∷ []) xs)) m))

functions_more : (members : List SourceMemberData) (i : ℕ) (d : SourceMemberData) → i < length members → functions_of (take (i + 1) members) ≡ functions_of (take i members) ++ name_of_form (get_or members i d).form
functions_more members i d h =
    ap functions_of (take_more members i d h) ∙ flat_map-append name_of_member (take i members) (get_or members i d ∷ [])
    ∙ ap (λ more. functions_of (take i members) ++ more) (append-nil (name_of_form (get_or members i d).form))

pub reading_more : (members : List SourceMemberData) (table : Table) (i : ℕ) (d : SourceMemberData) (old new : BTreeSet (List ℕ)) (found more : List SumMember) (y : SumMember) → i < length members
    → Reading members table (take i members) old found → IsMember members (take i members) (get_or members i d).form y
    → ((names : List (List ℕ)) → IsSetOf old names → IsSetOf new (names ++ name_of_form (get_or members i d).form)) → more ≡ found ++ y ∷ []
    → Reading members table (take (i + 1) members) new more
reading_more members table i d old new found more y h r m s e = record {
  table_is = r.table_is;
  seen_is = subst (IsSetOf new) (sym (functions_more members i d h)) (s (functions_of (take i members)) r.seen_is);
  are = subst (AreMembers members [] (take (i + 1) members)) (sym e) (subst (λ front. AreMembers members [] front (found ++ y ∷ [])) (sym (take_more members i d h)) (are_append members [] (take i members) found (get_or members i d) y r.are m));
}

pub reading_over : (members : List SourceMemberData) (table : Table) (i : ℕ) (seen : BTreeSet (List ℕ)) (found : List SumMember) → length members ≤ i → Reading members table (take i members) seen found → AreMembers members [] members found
reading_over members table i seen found h r = subst (λ front. AreMembers members [] front found) (all members i h) r.are
  where
    all : (xs : List SourceMemberData) (i : ℕ) → length xs ≤ i → take i xs ≡ xs
    all [] zero h = refl
    all [] (suc i) h = refl
    all (x ∷ xs) zero h = absurd (omega (arith, h))
    all (x ∷ xs) (suc i) h = ap (λ ys. x ∷ ys) (all xs i (omega (arith, h)))

-- the items after an item
abbrev behind : List SourceMemberData → ℕ → List SourceMemberData
behind [] i = []
behind (x ∷ xs) zero = xs
behind (x ∷ xs) (suc i) = behind xs i

parts_at : (xs : List SourceMemberData) (i : ℕ) (d : SourceMemberData) → i < length xs → xs ≡ take i xs ++ get_or xs i d ∷ behind xs i
parts_at [] i d h = absurd (omega arith)
parts_at (x ∷ xs) zero d h = refl
parts_at (x ∷ xs) (suc i) d h = ap (λ ys. x ∷ ys) (parts_at xs i d (omega (arith, h)))

pub reading_stops : (members : List SourceMemberData) (table : Table) (i : ℕ) (d : SourceMemberData) (seen : BTreeSet (List ℕ)) (found : List SumMember) (offset : ℕ) → i < length members
    → Reading members table (take i members) seen found → IsUnbuilt members (take i members) (get_or members i d).form → offset ≡ (form_span (get_or members i d).form).start → IsFirstUnbuilt members offset
reading_stops members table i d seen found offset h r none e = record {
  before = take i members;
  member = get_or members i d;
  behind = behind members i;
  parts = parts_at members i d h;
  built = found;
  are_built = r.are;
  unbuilt = none;
  offset_is = e;
}
