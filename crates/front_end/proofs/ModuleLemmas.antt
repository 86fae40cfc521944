-- Modules are read in order.
use Rattle.std.proofs.Common.{◌≡◌, ℕ, suc, ◌+◌, ◌<◌, ◌≤◌, Bool, true, false, not, cond, ◌==◌, ◌&&◌, ◌||◌, List, [], ◌∷◌, ◌++◌, length, map, take, get_or, refl, sym, ap, subst, ◌∙◌, append-nil, append_assoc, inl, inr, arith}
use Rattle.std.specs.Ordering.{nat_cmp, is_eq}
use Rattle.std.specs.Cmp.{unsigned_ties, both_tied}
use Rattle.std.specs.Cmp.Lexicographic.{slice_cmp, lists_ties}
use Rattle.std.specs.BTreeSet.{BTreeSet}
use Rattle.std.specs.BTreeSet as set
use Rattle.std.proofs.lemmas.List.{map-append, take_more}
use Rattle.std.proofs.lemmas.List.Folds.{list_any-append}
use Rattle.base.specs.declared.rule.Rule.TheVariants.{NotBuilt}
use Rattle.base.specs.Names.{same_name}
use Rattle.syntax_tree.specs.SourceModuleData.{SourceModuleData}
use Rattle.sum_tree.specs.SumModuleData.{SumModuleData}
use Rattle.sum_module.specs.Built.{IsUnbuiltAt}
use Rattle.syntax_tree.specs.Spans.{module_span}
use Rattle.sum_module.specs.Program.{IsSumModule}
use Rattle.front_end.specs.declared.fault.FileFault.{FileFault}
use Rattle.front_end.specs.FileFault.{breaks}
use Rattle.front_end.specs.Modules.{AreModules, HasUnbuilt, is_taken, numbered}
use Rattle.front_end.specs.ModuleReading.{AreRead, IsSetOf, is_in, key_cmp}
use Rattle.front_end.proofs.NumberedLemmas.{behind, counted, parts_at, taken_all}

-- ---- one more module

are_more : (front : List SumModuleData) (modules : List (ℕ × SourceModuleData)) (found : List SumModuleData) (m : ℕ × SourceModuleData) (f : SumModuleData)
    → AreModules front modules found → IsSumModule m.0 m.1 f → is_taken (front ++ found) f.address f.name ≡ false → AreModules front (modules ++ m ∷ []) (found ++ f ∷ [])
are_more front [] [] m f a i t = (i, subst (λ before. is_taken before f.address f.name ≡ false) (append-nil front) t, tt)
are_more front [] (g ∷ found) m f a i t = absurd a
are_more front (n ∷ modules) [] m f a i t = absurd a
are_more front (n ∷ modules) (g ∷ found) m f a i t =
    (a.0, a.1, are_more (front ++ g ∷ []) modules found m f a.2 i (subst (λ before. is_taken before f.address f.name ≡ false) (sym (append_assoc front (g ∷ []) found)) t))

same_key : (f : SumModuleData) (address : ℕ) (name : List ℕ) → is_eq (key_cmp (f.address, f.name) (address, name)) ≡ ((f.address == address) && same_name f.name name)
same_key f address name = sym (both_tied (f.address == address) (same_name f.name name) (nat_cmp f.address address) (slice_cmp nat_cmp f.name name) (unsigned_ties f.address address) (lists_ties nat_cmp unsigned_ties f.name name))

set_more : (old new : BTreeSet (ℕ × List ℕ)) (found : List SumModuleData) (f : SumModuleData) → IsSetOf old found
    → ((address : ℕ) (name : List ℕ) → is_in new address name ≡ cond (is_eq (key_cmp (f.address, f.name) (address, name))) true (is_in old address name)) → IsSetOf new (found ++ f ∷ [])
set_more old new found f before more address name =
    more address name ∙ ap (λ b. cond b true (is_in old address name)) (same_key f address name) ∙ ap (λ b. cond ((f.address == address) && same_name f.name name) true b) (before address name)
    ∙ one (is_taken found address name) ((f.address == address) && same_name f.name name) ∙ sym (list_any-append (λ m. (m.address == address) && same_name m.name name) found (f ∷ []))
  where
    one : (a b : Bool) → cond b true a ≡ (a || (b || false))
    one true true = refl
    one true false = refl
    one false true = refl
    one false false = refl

read_more : (modules : List (ℕ × SourceModuleData)) (found more : List SumModuleData) (old new : BTreeSet (ℕ × List ℕ)) (file : ℕ) (m : SourceModuleData) (f : SumModuleData)
    → AreRead modules found old → IsSumModule file m f → is_in old f.address f.name ≡ false
    → ((address : ℕ) (name : List ℕ) → is_in new address name ≡ cond (is_eq (key_cmp (f.address, f.name) (address, name))) true (is_in old address name))
    → more ≡ found ++ f ∷ [] → AreRead (modules ++ (file, m) ∷ []) more new
read_more modules found more old new file m f a i t s e =
    subst (λ list. AreRead (modules ++ (file, m) ∷ []) list new) (sym e)
    (are_more [] modules found (file, m) f a.0 i (sym (a.1 f.address f.name) ∙ t), set_more old new found f a.1 s)

-- a key that was added was not there before
fresh : (added there : Bool) → added ≡ not there → added ≡ true → there ≡ false
fresh true true e t = absurd (cc)
fresh true false e t = refl
fresh false there e t = absurd (cc)

pub read_new : (modules : List (ℕ × SourceModuleData)) (found more : List SumModuleData) (old new : BTreeSet (ℕ × List ℕ)) (file : ℕ) (m : SourceModuleData) (f : SumModuleData) (key : ℕ × List ℕ) (added : Bool)
    → AreRead modules found old → IsSumModule file m f → key ≡ (f.address, f.name) → added ≡ not (set.contains key_cmp old key) → added ≡ true
    → ((other : ℕ × List ℕ) → set.contains key_cmp new other ≡ cond (is_eq (key_cmp key other)) true (set.contains key_cmp old other))
    → more ≡ found ++ f ∷ [] → AreRead (modules ++ (file, m) ∷ []) more new
read_new modules found more old new file m f key added a i k n t s e =
    read_more modules found more old new file m f a i
    (fresh added (is_in old f.address f.name) (n ∙ ap (λ (other : ℕ × List ℕ). not (set.contains key_cmp old other)) k) t)
    (λ address name. s (address, name) ∙ ap (λ (other : ℕ × List ℕ). cond (is_eq (key_cmp other (address, name))) true (is_in old address name)) k) e

-- ---- a module that is not built

pub unbuilt : (modules : List (ℕ × SourceModuleData)) (found : List SumModuleData) (taken : BTreeSet (ℕ × List ℕ)) (file : ℕ) (m : SourceModuleData) (offset : ℕ)
    → AreRead modules found taken → IsUnbuiltAt m offset → HasUnbuilt (modules ++ (file, m) ∷ []) file (breaks NotBuilt offset)
unbuilt modules found taken file m offset a u = record {
  offset = offset;
  fault_is = refl;
  first = record {
    before = modules;
    module_tree = m;
    behind = [];
    parts = refl;
    found = found;
    are = a.0;
    unbuilt = inl u;
  };
}

pub taken_twice : (modules : List (ℕ × SourceModuleData)) (found : List SumModuleData) (taken : BTreeSet (ℕ × List ℕ)) (file : ℕ) (m : SourceModuleData) (f : SumModuleData) (offset : ℕ)
    → AreRead modules found taken → IsSumModule file m f → is_in taken f.address f.name ≡ true → offset ≡ (module_span m).start → HasUnbuilt (modules ++ (file, m) ∷ []) file (breaks NotBuilt offset)
taken_twice modules found taken file m f offset a i t e = record {
  offset = offset;
  fault_is = refl;
  first = record {
    before = modules;
    module_tree = m;
    behind = [];
    parts = refl;
    found = found;
    are = a.0;
    unbuilt = inr (record { found = f; is = i; taken = sym (a.1 f.address f.name) ∙ t; offset_is = e });
  };
}

-- a key that was not added was there before
taken_there : (added there : Bool) → added ≡ not there → added ≡ false → there ≡ true
taken_there true there e t = absurd (cc)
taken_there false true e t = refl
taken_there false false e t = absurd (cc)

pub taken_again : (modules : List (ℕ × SourceModuleData)) (found : List SumModuleData) (old : BTreeSet (ℕ × List ℕ)) (file : ℕ) (m : SourceModuleData) (f : SumModuleData) (offset : ℕ) (key : ℕ × List ℕ) (added : Bool)
    → AreRead modules found old → IsSumModule file m f → key ≡ (f.address, f.name) → added ≡ not (set.contains key_cmp old key) → added ≡ false → offset ≡ (module_span m).start → HasUnbuilt (modules ++ (file, m) ∷ []) file (breaks NotBuilt offset)
taken_again modules found old file m f offset key added a i k n t e =
    taken_twice modules found old file m f offset a i (taken_there added (is_in old f.address f.name) (n ∙ ap (λ (other : ℕ × List ℕ). not (set.contains key_cmp old other)) k) t) e

-- modules after it change nothing
pub stopped_before : (modules more : List (ℕ × SourceModuleData)) (file : ℕ) (fault : FileFault) → HasUnbuilt modules file fault → HasUnbuilt (modules ++ more) file fault
stopped_before modules more file fault u = record {
  offset = u.offset;
  fault_is = u.fault_is;
  first = record {
    before = u.first.before;
    module_tree = u.first.module_tree;
    behind = u.first.behind ++ more;
    parts = ap (λ list. list ++ more) u.first.parts ∙ append_assoc u.first.before ((file, u.first.module_tree) ∷ u.first.behind) more;
    found = u.first.found;
    are = u.first.are;
    unbuilt = u.first.unbuilt;
  };
}

-- ---- the modules of a file

abbrev pub in_file : ℕ → List SourceModuleData → List (ℕ × SourceModuleData)
in_file file modules = map (λ m. (file, m)) modules

pub file_more : (before : List (ℕ × SourceModuleData)) (file : ℕ) (modules : List SourceModuleData) (i : ℕ) (d : SourceModuleData) → i < length modules
    → before ++ in_file file (take (i + 1) modules) ≡ (before ++ in_file file (take i modules)) ++ (file, get_or modules i d) ∷ []
file_more before file modules i d h =
    ap (λ list. before ++ in_file file list) (take_more modules i d h) ∙ ap (λ list. before ++ list) (map-append (λ m. (file, m)) (take i modules) (get_or modules i d ∷ []))
    ∙ sym (append_assoc before (in_file file (take i modules)) ((file, get_or modules i d) ∷ []))

-- a module that stops the reading of its file
pub stops_in_file : (before : List (ℕ × SourceModuleData)) (number : ℕ) (modules : List SourceModuleData) (i : ℕ) (d : SourceModuleData) (file : ℕ) (fault : FileFault) → i < length modules
    → HasUnbuilt ((before ++ in_file number (take i modules)) ++ (number, get_or modules i d) ∷ []) file fault → HasUnbuilt (before ++ in_file number modules) file fault
stops_in_file before number modules i d file fault h u =
    subst (λ list. HasUnbuilt list file fault) (sym whole) (stopped_before ((before ++ in_file number (take i modules)) ++ (number, get_or modules i d) ∷ []) (in_file number (behind modules i)) file fault u)
  where
    whole : before ++ in_file number modules ≡ ((before ++ in_file number (take i modules)) ++ (number, get_or modules i d) ∷ []) ++ in_file number (behind modules i)
    whole =
        ap (λ list. before ++ in_file number list) (parts_at modules i d h)
        ∙ ap (λ list. before ++ list) (map-append (λ m. (number, m)) (take i modules) (get_or modules i d ∷ behind modules i))
        ∙ sym (append_assoc before (in_file number (take i modules)) ((number, get_or modules i d) ∷ in_file number (behind modules i)))
        ∙ sym (append_assoc (before ++ in_file number (take i modules)) ((number, get_or modules i d) ∷ []) (in_file number (behind modules i)))

-- ---- the modules of all files

numbered_append : (n : ℕ) (xs : List (List SourceModuleData)) (x : List SourceModuleData) (ys : List (List SourceModuleData)) → numbered n (xs ++ x ∷ ys) ≡ (numbered n xs ++ in_file (n + length xs) x) ++ numbered (1 + (n + length xs)) ys
numbered_append n [] x ys = ap (λ k. in_file k x ++ numbered (1 + k) ys) (from_zero n)
  where
    from_zero : (k : ℕ) → k ≡ k + 0
    from_zero k = omega arith
numbered_append n (w ∷ xs) x ys =
    ap (λ list. in_file n w ++ list) (numbered_append (1 + n) xs x ys ∙ ap (λ k. (numbered (1 + n) xs ++ in_file k x) ++ numbered (1 + k) ys) (moved n (length xs)))
    ∙ sym (append_assoc (in_file n w) (numbered (1 + n) xs ++ in_file (n + suc (length xs)) x) (numbered (1 + (n + suc (length xs))) ys))
    ∙ ap (λ list. list ++ numbered (1 + (n + suc (length xs))) ys) (sym (append_assoc (in_file n w) (numbered (1 + n) xs) (in_file (n + suc (length xs)) x)))
  where
    moved : (k l : ℕ) → (1 + k) + l ≡ k + suc l
    moved k l = omega arith

numbered_at : (sources ys : List (List SourceModuleData)) (i : ℕ) (d : List SourceModuleData) → i < length sources
    → numbered 0 (take i sources ++ get_or sources i d ∷ ys) ≡ (numbered 0 (take i sources) ++ in_file i (get_or sources i d)) ++ numbered (1 + i) ys
numbered_at sources ys i d h =
    numbered_append 0 (take i sources) (get_or sources i d) ys
    ∙ ap (λ k. (numbered 0 (take i sources) ++ in_file k (get_or sources i d)) ++ numbered (1 + k) ys) (sym (counted sources i h))

pub all_more : (sources : List (List SourceModuleData)) (i : ℕ) (d : List SourceModuleData) → i < length sources → numbered 0 (take (i + 1) sources) ≡ numbered 0 (take i sources) ++ in_file i (get_or sources i d)
all_more sources i d h = ap (numbered 0) (take_more sources i d h) ∙ numbered_at sources [] i d h ∙ append-nil (numbered 0 (take i sources) ++ in_file i (get_or sources i d))

-- a file that stops the reading of all
pub stops_in_all : (sources : List (List SourceModuleData)) (i : ℕ) (d : List SourceModuleData) (file : ℕ) (fault : FileFault) → i < length sources
    → HasUnbuilt (numbered 0 (take i sources) ++ in_file i (get_or sources i d)) file fault → HasUnbuilt (numbered 0 sources) file fault
stops_in_all sources i d file fault h u =
    subst (λ list. HasUnbuilt list file fault) (sym (ap (numbered 0) (parts_at sources i d h) ∙ numbered_at sources (behind sources i) i d h))
    (stopped_before (numbered 0 (take i sources) ++ in_file i (get_or sources i d)) (numbered (1 + i) (behind sources i)) file fault u)

pub all_over : (sources : List (List SourceModuleData)) (i : ℕ) (found : List SumModuleData) (taken : BTreeSet (ℕ × List ℕ)) → length sources ≤ i → AreRead (numbered 0 (take i sources)) found taken → AreModules [] (numbered 0 sources) found
all_over sources i found taken h a = subst (λ list. AreModules [] (numbered 0 list) found) (taken_all sources i h) a.0
