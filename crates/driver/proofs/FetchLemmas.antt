-- Files that are fetched one after another.
use Rattle.std.proofs.Common.{◌≡◌, ℕ, ◌+◌, ◌<◌, List, [], ◌∷◌, ◌++◌, length, take, get_or, Option, Result, Ok, Err, sym, subst}
use Rattle.std.specs.Prelude.{IfErr, IsErrAnd}
use Rattle.report.specs.Outside.{Files}
use Rattle.report.specs.declared.status.LimitKind.TheVariants.{Files as files_kind, Bytes, Tokens, Nesting, Locals}
use Rattle.front_end.specs.Numbered.{Each, IsFirst}
use Rattle.front_end.proofs.NumberedLemmas.{first_at}
use Rattle.driver.proofs.PairLemmas.{paired_more}
use Rattle.driver.specs.Stages.{FetchStopped, HasBytes, HaveBytes, IsFetched, IsFetchStop, IsLong}
use Rattle.driver.specs.declared.stages.RunStop.{RunStop}
use Rattle.driver.specs.declared.stages.RunStop.TheVariants.{TooManyFiles, SourceFault, Limit, Refused, NoMemory}

fetched : (holds : Option Files) (n : ℕ) (names files : List (List ℕ)) → HaveBytes holds names files → Each (IsFetched holds) n names
fetched holds n [] files h = tt
fetched holds n (name ∷ names) [] h = absurd h
fetched holds n (name ∷ names) (bytes ∷ files) h = ((bytes, h.0), fetched holds (1 + n) names files h.1)

pub fetch_stops : (holds : Option Files) (names : List (List ℕ)) (i : ℕ) (d : List ℕ) (files : List (List ℕ)) (old new : ℕ) (stop : RunStop) → i < length names → HaveBytes holds (take i names) files → IsFetchStop holds i (get_or names i d) old new stop → FetchStopped holds names old new stop
fetch_stops holds names i d files old new (SourceFault file) within before s =
    (s.1, subst (λ k. IsFirst (IsFetched holds) (λ n name. Unit {0}) names k) (sym s.0) (first_at names i d within (fetched holds 0 (take i names) files before) tt))
fetch_stops holds names i d files old new (Limit file Bytes count) within before s =
    (s.1, subst (λ k. IsFirst (IsFetched holds) (IsLong holds) names k) (sym s.0) (first_at names i d within (fetched holds 0 (take i names) files before) s.2))
fetch_stops holds names i d files old new (Limit file files_kind count) within before s = absurd s
fetch_stops holds names i d files old new (Limit file Tokens count) within before s = absurd s
fetch_stops holds names i d files old new (Limit file Nesting count) within before s = absurd s
fetch_stops holds names i d files old new (Limit file Locals count) within before s = absurd s
fetch_stops holds names i d files old new (TooManyFiles count) within before s = absurd s
fetch_stops holds names i d files old new (Refused refusal) within before s = absurd s
fetch_stops holds names i d files old new NoMemory within before s = tt

-- ---- the iterations of the loop over the names

pub err_as : {X : Type 0} (r : Result X RunStop) (stop : RunStop) (P : RunStop → Type 0) → IsErrAnd r (λ s. s ≡ stop) → P stop → IfErr r P
err_as (Ok x) stop P e h = tt
err_as (Err s) stop P e h = subst P (sym e) h

pub stops_at : (holds known : Option Files) (names : List (List ℕ)) (i : ℕ) (name : List ℕ) (files : List (List ℕ)) (counted old new : ℕ) (stop : RunStop) → known ≡ holds → counted ≡ old → i < length names → HaveBytes holds (take i names) files → name ≡ get_or names i name → IsFetchStop known i name counted new stop → FetchStopped holds names old new stop
stops_at holds known names i name files counted old new stop t f within before at s =
    fetch_stops holds names i name files old new stop within before
    (subst (λ n. IsFetchStop holds i n old new stop) at
    (subst (λ k. IsFetchStop holds i name k new stop) f
    (subst (λ h. IsFetchStop h i name counted new stop) t s)))

pub bytes_more : (holds known : Option Files) (names : List (List ℕ)) (i : ℕ) (name : List ℕ) (files more : List (List ℕ)) (bytes : List ℕ) → known ≡ holds → i < length names → HaveBytes holds (take i names) files → name ≡ get_or names i name → HasBytes known name bytes → more ≡ files ++ bytes ∷ [] → HaveBytes holds (take (i + 1) names) more
bytes_more holds known names i name files more bytes t within before at has m =
    subst (HaveBytes holds (take (i + 1) names)) (sym m)
    (paired_more (HasBytes holds) names i name files bytes within before
    (subst (λ n. HasBytes holds n bytes) at (subst (λ h. HasBytes h name bytes) t has)))
