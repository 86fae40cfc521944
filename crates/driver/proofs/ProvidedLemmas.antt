-- The list of provided files is extended file by file, and belongs to one list of files.
use Rattle.std.proofs.Common.{◌≡◌, ℕ, suc, ◌+◌, ◌<◌, List, [], ◌∷◌, ◌++◌, length, take, drop, map, get_or, Option, refl, sym, ap, subst, ◌∙◌, append_assoc, append-nil, arith}
use Rattle.std.specs.List.{zip}
use Rattle.std.proofs.Math.Seq.{drop-append_seam}
use Rattle.std.proofs.lemmas.List.{take_more}
use Rattle.std.proofs.lemmas.Slice.Zip.{firsts-zip, seconds-zip}
use Rattle.report.specs.Provided.{ProvidedFiles, AreProvided}
use Rattle.report.specs.Outside.{Files}
use Rattle.report.specs.declared.status.LimitKind.TheVariants.{Files as files_kind, Bytes, Tokens, Nesting, Locals}
use Rattle.front_end.proofs.NumberedLemmas.{length_taken}
use Rattle.driver.specs.Stages.{ProvidedBefore, ProvidedTo, IsFetchStop}
use Rattle.driver.specs.declared.stages.RunStop.{RunStop}
use Rattle.driver.specs.declared.stages.RunStop.TheVariants.{TooManyFiles, SourceFault, Limit, Refused, NoMemory}

-- ---- one more file

zip_more : {A B : Type 0} (xs : List A) (ys : List B) (x : A) (y : B) → length ys ≡ length xs → zip (xs ++ x ∷ []) (ys ++ y ∷ []) ≡ zip xs ys ++ (x, y) ∷ []
zip_more [] [] x y e = refl
zip_more [] (w ∷ ys) x y e = absurd (omega (arith, e))
zip_more (v ∷ xs) [] x y e = absurd (omega (arith, e))
zip_more (v ∷ xs) (w ∷ ys) x y e = ap (λ zs. (v, w) ∷ zs) (zip_more xs ys x y (omega (arith, e)))

length_more : {A : Type 0} (xs : List A) (x : A) → length (xs ++ x ∷ []) ≡ suc (length xs)
length_more [] x = refl
length_more (y ∷ xs) x = ap suc (length_more xs x)

pub provided_none : (before now : ProvidedFiles) → now ≡ before → AreProvided before now [] []
provided_none before now e = record { count = refl; after_is = e ∙ sym (append-nil before) }

over_more : (before now after : ProvidedFiles) (names files more : List (List ℕ)) (name bytes : List ℕ) → AreProvided before now names files → after ≡ now ++ (name, bytes) ∷ [] → more ≡ files ++ bytes ∷ [] → AreProvided before after (names ++ name ∷ []) more
over_more before now after names files more name bytes h e m = record {
  count = ap length m ∙ length_more files bytes ∙ ap suc h.count ∙ sym (length_more names name);
  after_is =
      e ∙ ap (λ log. log ++ (name, bytes) ∷ []) h.after_is ∙ append_assoc before (zip names files) ((name, bytes) ∷ [])
      ∙ ap (λ log. before ++ log) (sym (zip_more names files name bytes h.count) ∙ ap (zip (names ++ name ∷ [])) (sym m));
}

pub provided_more : (before now after : ProvidedFiles) (names : List (List ℕ)) (i : ℕ) (name : List ℕ) (files more : List (List ℕ)) (bytes : List ℕ)
    → i < length names → AreProvided before now (take i names) files → name ≡ get_or names i name → after ≡ now ++ (name, bytes) ∷ [] → more ≡ files ++ bytes ∷ [] → AreProvided before after (take (i + 1) names) more
provided_more before now after names i name files more bytes within h at e m =
    subst (λ ns. AreProvided before after ns more) (ap (λ n. take i names ++ n ∷ []) at ∙ sym (take_more names i name within)) (over_more before now after (take i names) files more name bytes h e m)

-- ---- where the fetches stop

stopped_at : (before now : ProvidedFiles) (names : List (List ℕ)) (i file : ℕ) (files : List (List ℕ)) → file ≡ i → i < length names → AreProvided before now (take i names) files → ProvidedBefore before now names file
stopped_at before now names i file files e within h = subst (ProvidedBefore before now names) (sym e) (record { within = within; files = files; provided = h })

provided_to : (holds : Option Files) (before now : ProvidedFiles) (names : List (List ℕ)) (i : ℕ) (name : List ℕ) (files : List (List ℕ)) (old new : ℕ) (stop : RunStop)
    → i < length names → AreProvided before now (take i names) files → IsFetchStop holds i name old new stop → ProvidedTo before now names stop
provided_to holds before now names i name files old new (SourceFault file) within h s = stopped_at before now names i file files s.0 within h
provided_to holds before now names i name files old new (Limit file Bytes count) within h s = stopped_at before now names i file files s.0 within h
provided_to holds before now names i name files old new (Limit file files_kind count) within h s = absurd s
provided_to holds before now names i name files old new (Limit file Tokens count) within h s = absurd s
provided_to holds before now names i name files old new (Limit file Nesting count) within h s = absurd s
provided_to holds before now names i name files old new (Limit file Locals count) within h s = absurd s
provided_to holds before now names i name files old new (TooManyFiles count) within h s = tt
provided_to holds before now names i name files old new (Refused refusal) within h s = tt
provided_to holds before now names i name files old new NoMemory within h s = tt

pub provided_stops : (holds : Option Files) (before now after : ProvidedFiles) (names : List (List ℕ)) (i : ℕ) (name : List ℕ) (files : List (List ℕ)) (old new : ℕ) (stop : RunStop)
    → i < length names → AreProvided before now (take i names) files → after ≡ now → IsFetchStop holds i name old new stop → ProvidedTo before after names stop
provided_stops holds before now after names i name files old new stop within h e s =
    provided_to holds before after names i name files old new stop within (subst (λ log. AreProvided before log (take i names) files) (sym e) h) s

-- ---- one list of files

pairs_are : (before after : ProvidedFiles) (names more files other : List (List ℕ)) → AreProvided before after names files → AreProvided before after more other → zip names files ≡ zip more other
pairs_are before after names more files other p q =
    sym (drop-append_seam before (zip names files)) ∙ ap (drop (length before)) (sym p.after_is ∙ q.after_is) ∙ drop-append_seam before (zip more other)

pub one_provided : (before after : ProvidedFiles) (names files other : List (List ℕ)) → AreProvided before after names files → AreProvided before after names other → files ≡ other
one_provided before after names files other p q =
    sym (seconds-zip names files p.count) ∙ ap (map (λ (pair : List ℕ × List ℕ). pair.1)) (pairs_are before after names names files other p q) ∙ seconds-zip names other q.count

-- not all files were provided if the fetches stopped
pub provided_in_part : (before after : ProvidedFiles) (names files : List (List ℕ)) (file : ℕ) → AreProvided before after names files → ProvidedBefore before after names file → ⊥
provided_in_part before after names files file p b =
    let same = sym (firsts-zip names files p.count) ∙ ap (map (λ (pair : List ℕ × List ℕ). pair.0)) (pairs_are before after names (take file names) files b.files p b.provided) ∙ firsts-zip (take file names) b.files b.provided.count in
    let fewer : length (take file names) ≡ file = length_taken names file (omega (arith, b.within)) in
    omega (arith, ap length same, fewer, b.within)
