-- The first steps of a system: more of them have no more typings, and a node that is read with fewer is read with more.
use Rattle.std.proofs.Common.{◌≡◌, ◌⊎◌, ℕ, zero, suc, ◌+◌, ◌<◌, ◌≤◌, true, false, List, [], ◌∷◌, length, length-append, take, Option, Some, None, inl, inr, refl, sym, ap, subst, ◌∙◌, arith}
use Rattle.std.specs.Bool.{Decides}
use Rattle.std.proofs.lemmas.Bool.{false≢true, cases_lt}
use Rattle.program.specs.CodeNodes.{CodeNode}
use Rattle.program.specs.declared.declaration.Function.{Function}
use Rattle.program.specs.declared.program.Program.{Program}
use Rattle.typing_rules.specs.Constraint.{Typing, Constraint, Returns, Written}
use Rattle.typing_rules.specs.Rules.{TypeReading, With, AnyTyping, IsTypingFrom, IsReadFrom}
use Rattle.typing_rules.specs.Settings.{CodeSetting}
use Rattle.typing_rules.specs.CodeConstraints.{constraints_from}
use Rattle.typing_rules.specs.CodeSystems.{function_setting, function_system, last_by}
use Rattle.typing_rules.specs.Answers.{System, Typings, HasTyping, IsUntypable, NodeIsRead}
use Rattle.typing_rules.specs.FieldBars.{first_steps}
use Rattle.unification.specs.Slots.{Meets}
use Rattle.unification.specs.Ranks.{refill_by}
use Rattle.unification.specs.declared.type_variables.slots.Slot.{Slot}
use Rattle.unification.specs.Ranked.{rank_at, IsRanking}
use Rattle.type_solver.specs.Walked.{Walked, WalkSays}
use Rattle.type_solver.specs.declared.walk.Reading.{Reading}
use Rattle.type_solver.specs.declared.walk.Reading.TheVariants.{Whole, Stopped, Clash}
use Rattle.unification.proofs.Refilling.{plain, plain_typing}
use Rattle.type_solver.specs.declared.code_systems.systems.Walk.{Walk}
use Rattle.body_types.specs.BarredUsesKnown.{ReadsSteps, IsWalkOf, IsReadOf, IsKnown, KnownSays, IsLast, HasNone}
use Rattle.body_types.specs.declared.barred_uses.known.Known.{Known}

-- ---- fewer steps

-- the first so many of these steps are among the first so many others
abbrev pub Among : ℕ → ℕ → List (List Constraint) → Type 0
Among j k xs = (j ≤ k) ⊎ (length xs ≤ k)

none_among : {A : Type 0} (j : ℕ) (x : List Constraint) (xs : List (List Constraint)) → Among (suc j) zero (x ∷ xs) → A
none_among j x xs (inl h) = absurd (omega (arith, h))
none_among j x xs (inr h) = absurd (omega (arith, h))

among_rest : (j k : ℕ) (x : List Constraint) (xs : List (List Constraint)) → Among (suc j) (suc k) (x ∷ xs) → Among j k xs
among_rest j k x xs (inl h) = inl (omega (arith, h))
among_rest j k x xs (inr h) = inr (omega (arith, h))

typing_now : (w : TypeReading) (P : Typing → Type 0) (xs : List (List Constraint)) (t : Typing) → IsTypingFrom w P xs t → P t
typing_now w P [] t h = h
typing_now w P (x ∷ xs) t h = h.0

fewer_from : (w : TypeReading) (P : Typing → Type 0) (xs : List (List Constraint)) (j k : ℕ) (t : Typing) → Among j k xs → IsTypingFrom w P (take k xs) t → IsTypingFrom w P (take j xs) t
fewer_from w P xs zero k t a h = typing_now w P (take k xs) t h
fewer_from w P [] (suc j) zero t a h = h
fewer_from w P [] (suc j) (suc k) t a h = h
fewer_from w P (x ∷ xs) (suc j) zero t a h = none_among j x xs a
fewer_from w P (x ∷ xs) (suc j) (suc k) t a h = (h.0, λ s. fewer_from w (With w P x) xs j k t (among_rest j k x xs a) (h.1 s))

more_from : (w : TypeReading) (P : Typing → Type 0) (xs : List (List Constraint)) (j k n : ℕ) → Among j k xs → IsReadFrom w P (take j xs) n → IsReadFrom w P (take k xs) n
more_from w P xs zero k n a h = absurd h
more_from w P [] (suc j) zero n a h = h
more_from w P [] (suc j) (suc k) n a h = h
more_from w P (x ∷ xs) (suc j) zero n a h = none_among j x xs a
more_from w P (x ∷ xs) (suc j) (suc k) zero a h = h
more_from w P (x ∷ xs) (suc j) (suc k) (suc n) a h = (h.0, more_from w (With w P x) xs j k n (among_rest j k x xs a) h.1)

pub fewer : (s : System) (j k : ℕ) (t : Typing) → Among j k s.steps → Typings (first_steps s k) t → Typings (first_steps s j) t
fewer s j k t a h = fewer_from s.reading AnyTyping s.steps j k t a h

pub still_read : (s : System) (j k n : ℕ) → Among j k s.steps → NodeIsRead (first_steps s j) n → NodeIsRead (first_steps s k) n
still_read s j k n a h = more_from s.reading AnyTyping s.steps j k (suc n) a h

-- the most first steps that have typings include all that have
pub last_among : (s : System) (c count : ℕ) → IsLast s count → HasTyping (first_steps s (suc c)) → Among (suc c) (suc count) s.steps
last_among s c count is has = go (is.last c has)
  where
    go : (c ≤ count) ⊎ (length s.steps ≤ suc count) → Among (suc c) (suc count) s.steps
    go (inl h) = inl (omega (arith, h))
    go (inr h) = inr h

-- ---- the most first steps with typings

-- if one more has none
pub last_of : (s : System) (low high : ℕ) → high ≡ low + 1 → HasTyping (first_steps s (suc low)) → IsUntypable (first_steps s (suc high)) → IsLast s low
last_of s low high e has none = record {
  exists = has;
  last = λ c found. go c found (cases_lt c high);
}
  where
    go : (c : ℕ) → HasTyping (first_steps s (suc c)) → (c < high) ⊎ (high ≤ c) → (c ≤ low) ⊎ (length s.steps ≤ suc low)
    go c found (inl lt) = inl (omega (arith, lt, e))
    go c found (inr le) = absurd (none found.0 (fewer s (suc high) (suc c) found.0 (inl (omega (arith, le))) found.1))

pub no_first : (s : System) → (HasTyping (first_steps s 1) → ⊥) → HasNone s
no_first s none c found = none (found.0, fewer s 1 (suc c) found.0 (inl (omega arith)) found.1)

constraints_count : (s : CodeSetting) (n : ℕ) (nodes : List CodeNode) → length (constraints_from s n nodes) ≡ length nodes
constraints_count s n [] = refl
constraints_count s n (node ∷ rest) = ap suc (constraints_count s (n + 1) rest)

steps_count : (program : Program) (f : Function) → length (function_system program f).steps ≡ suc (length f.body.nodes + 1)
steps_count program f =
    let s = function_setting program f in
    let last : List Constraint = last_by (λ n. Returns n (Written f.result)) s.nodes 0 ∷ [] in
    ap suc (length-append (constraints_from s 0 s.nodes) (last ∷ []) ∙ ap (λ (n : ℕ). n + 1) (constraints_count s 0 s.nodes))

-- all steps
pub last_of_all : (program : Program) (f : Function) (all : ℕ) → all ≡ length f.body.nodes + 1 → HasTyping (first_steps (function_system program f) (suc all)) → IsLast (function_system program f) all
last_of_all program f all e has = record {
  exists = has;
  last = λ c found. inr (let n = steps_count program f in omega (arith, n, e));
}

-- ---- what is known of a walk

says_at : (s : System) (walk : Walk) (reading : Reading) → walk.progress.reading ≡ reading → Walked s walk.slots.items walk.progress → WalkSays s walk.slots.items reading
says_at s walk reading e w = subst (λ (r : Reading). WalkSays s walk.slots.items r) e w.says

reads_of : (s : System) (walk : Walk) → Walked s walk.slots.items walk.progress → HasTyping s → ReadsSteps s walk.progress.count
reads_of s walk w has = record { done = w.done; left = w.left has.0 has.1 }

pub read_whole : (s : System) (walk : Walk) → walk.progress.reading ≡ Whole → IsWalkOf s walk → IsReadOf s walk.variables walk.slots.items walk.progress.count
read_whole s walk e w =
    let says : WalkSays s walk.slots.items Whole = says_at s walk Whole e w.walked in
    record { knows = says.0; count = w.count; reads = reads_of s walk w.walked }

pub read_stopped : (s : System) (walk : Walk) → walk.progress.reading ≡ Stopped → IsWalkOf s walk → IsReadOf s walk.variables walk.slots.items walk.progress.count
read_stopped s walk e w =
    let says : WalkSays s walk.slots.items Stopped = says_at s walk Stopped e w.walked in
    record { knows = says.0; count = w.count; reads = reads_of s walk w.walked }

pub clash_untypable : (s : System) (walk : Walk) → walk.progress.reading ≡ Clash → IsWalkOf s walk → IsUntypable s
clash_untypable s walk e w = says_at s walk Clash e w.walked

-- ---- what is known of slots

pub none_known : (s : System) (variables steps : ℕ) (slots seen : List Slot) → seen ≡ slots → ((t : Typing) → Meets seen t → ⊥) → IsReadOf s variables slots steps → IsUntypable s
none_known s variables steps slots seen e none k = λ t h.
    (let r = k.knows.to t h in none r.0 (subst (λ (xs : List Slot). Meets xs r.0) (sym e) r.1.1))

pub some_known : (s : System) (known : Known) (seen : List Slot) → seen ≡ known.slots.items → IsRanking seen known.ranking.ranks.items known.ranking.order.items →
    IsReadOf s known.variables known.slots.items known.steps → IsKnown s known
some_known s known seen e ranking k =
    let order : IsRanking known.slots.items known.ranking.ranks.items known.ranking.order.items = subst (λ (xs : List Slot). IsRanking xs known.ranking.ranks.items known.ranking.order.items) e ranking in
    let has : HasTyping s = (refill_by known.slots.items (λ p. plain) (rank_at known.ranking.ranks.items), k.knows.from _ (plain_typing known.slots.items (rank_at known.ranking.ranks.items) order.is_rank)) in
    record { knows = k.knows; count = k.count; ranking = order; exists = has; reads = k.reads has }

pub says_none : (s : System) (found : Option Known) → found ≡ None → KnownSays s found → IsUntypable s
says_none s found e h = let r : KnownSays s None = subst (λ (o : Option Known). KnownSays s o) e h in r

pub says_some : (s : System) (found : Option Known) (known : Known) → found ≡ Some known → KnownSays s found → IsKnown s known
says_some s found known e h = let r : KnownSays s (Some known) = subst (λ (o : Option Known). KnownSays s o) e h in r

pub no_typing : (s : System) → IsUntypable s → Decides false (HasTyping s)
no_typing s none = (λ e. absurd (false≢true e), λ h. absurd (none h.0 h.1))

pub a_typing : (s : System) (known : Known) → IsKnown s known → Decides true (HasTyping s)
a_typing s known is = (λ e. is.exists, λ h. refl)

pub first_below : (s : System) (all : ℕ) → HasTyping (first_steps s 1) → IsUntypable (first_steps s (suc all)) → 0 < all
first_below s zero has none = absurd (none has.0 has.1)
first_below s (suc all) has none = omega arith
