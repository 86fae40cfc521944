-- Owners of spec blocks, block by block.
use Rattle.std.proofs.Common.{◌≡◌, ◌≢◌, ℕ, zero, suc, ◌+◌, ◌<◌, true, Bool, Option, Some, None, List, [], ◌∷◌, ◌++◌, length, get_or, set, refl, sym, ap, subst, ◌∙◌, arith, append-nil}
use Rattle.std.specs.List.{flat_map}
use Rattle.std.specs.Option.{option_or}
use Rattle.std.proofs.lemmas.Grind.{flat_map-append}
use Rattle.syntax_tree.specs.declared.clause.Spec.{Spec as SpecTree}
use Rattle.resolution.specs.declared.clauses.Target.{Target}
use Rattle.resolution.specs.declared.clauses.pragmas.Settings.{Settings}
use Rattle.resolution.specs.Clauses.{AddedClauses, HasUnknownBehind}
use Rattle.resolution.specs.Pragmas.{before_others, pragmas_in, settings_of}
use Rattle.resolution.specs.Setting.{ClauseScope}
use Rattle.resolution.proofs.ClauseLaws.{added_both, added_none, as_many}
use Rattle.resolution.proofs.PragmaLaws.{settings_append}
use Rattle.resolution.specs.declared.owners.Owner.{Owner}
use Rattle.resolution.specs.Items.{Here}
use Rattle.resolution.specs.Owners.{HasUnknownInBlock, OwnerScope, clauses_of_spec, placed_in, settings_in, sources_in}
use Rattle.resolution.specs.OwnersSoFar.{AreOwnersFrom, IsOwnerAfter, StandsIn, fresh}
use Rattle.resolution.proofs.KnownLaws.{known_clauses, same_unknown}

-- ---- one owner

sources-snoc : (bs : List SpecTree) (b : SpecTree) → sources_in (bs ++ b ∷ []) ≡ sources_in bs ++ placed_in b
sources-snoc bs b = flat_map-append placed_in bs (b ∷ []) ∙ ap (λ ps. sources_in bs ++ ps) (append-nil (placed_in b))

or_none : (o : Option Bool) → option_or o None ≡ o
or_none None = refl
or_none (Some x) = refl

behind_nothing : (s : Settings) → before_others s (settings_of []) ≡ s
behind_nothing s = λ i. record {
  verify = or_none s.verify i;
  is_opaque = or_none s.is_opaque i;
  aborts_if_is_partial = or_none s.aborts_if_is_partial i;
  aborts_if_is_strict = or_none s.aborts_if_is_strict i;
}

settings-snoc : (bs : List SpecTree) (b : SpecTree) → before_others (settings_of (pragmas_in (clauses_of_spec b))) (settings_in bs) ≡ settings_in (bs ++ b ∷ [])
settings-snoc bs b =
    let own = λ (s : SpecTree). pragmas_in (clauses_of_spec s) in
    let ps = flat_map own bs in
    let qs = own b in
    ap (λ s. before_others (settings_of qs) s) (sym (behind_nothing (settings_of ps)))
    ∙ settings_append ps qs (settings_of [])
    ∙ behind_nothing (settings_of (ps ++ qs))
    ∙ ap settings_of (sym (flat_map-append own bs (b ∷ []) ∙ ap (λ xs. ps ++ xs) (append-nil qs)))

-- the context in which the code resolves the clauses of an owner with these type parameters
abbrev pub code_scope : Here → List (List ℕ) → ClauseScope
code_scope w parameters = record { types = record { environment = w.environment; parameters = parameters; is_spec = true }; schemas = w.schemas }

pub scope_is : (w : Here) (o : OwnerScope) (parameters : List (List ℕ)) → StandsIn w o → parameters ≡ o.scope.types.parameters → code_scope w parameters ≡ o.scope
scope_is w o parameters st e = λ i. record { types = record { environment = sym st.environment i; parameters = e i; is_spec = sym st.is_spec i }; schemas = sym st.schemas i }

pub owner_fresh : (w : OwnerScope) (o : Owner) → o.parameters.items ≡ w.scope.types.parameters → o.target ≡ fresh w.around → o.settings ≡ settings_of [] → IsOwnerAfter w [] o
owner_fresh w o parameters target settings = record {
  parameters = parameters;
  clauses = subst (λ t. AddedClauses w.scope [] (fresh w.around) t) (sym target) (added_none w.scope (fresh w.around));
  settings = settings;
}

-- one more block
pub owner_next : (w : OwnerScope) (scope : ClauseScope) (bs : List SpecTree) (b : SpecTree) (old new : Owner) → scope ≡ w.scope → IsOwnerAfter w bs old → AddedClauses scope (placed_in b) old.target new.target → new.parameters.items ≡ old.parameters.items → new.settings ≡ before_others (settings_of (pragmas_in (clauses_of_spec b))) old.settings → IsOwnerAfter w (bs ++ b ∷ []) new
owner_next w scope bs b old new e after added parameters settings =
    let here = subst (λ s. AddedClauses s (placed_in b) old.target new.target) e added in
    let both = added_both w.scope (sources_in bs) (placed_in b) (fresh w.around) old.target new.target after.clauses here in
    record {
      parameters = parameters ∙ after.parameters;
      clauses = subst (λ ts. AddedClauses w.scope ts (fresh w.around) new.target) (sym (sources-snoc bs b)) both;
      settings = settings ∙ ap (λ s. before_others (settings_of (pragmas_in (clauses_of_spec b))) s) after.settings ∙ settings-snoc bs b;
    }

-- the number of clauses of an owner
clauses_count : (w : OwnerScope) (bs : List SpecTree) (o : Owner) → IsOwnerAfter w bs o → length o.target.clauses ≡ length (sources_in bs)
clauses_count w bs o after =
    ap length after.clauses.clauses ∙ sym (as_many w.scope w.around 0 (sources_in bs) after.clauses.more after.clauses.are)

pub owner_unknown : (w : OwnerScope) (scope : ClauseScope) (bs : List SpecTree) (b : SpecTree) (o : Owner) → scope ≡ w.scope → IsOwnerAfter w bs o → HasUnknownBehind scope (placed_in b) o.target → HasUnknownInBlock w bs b
owner_unknown w scope bs b o e after h = same_unknown (placed_in b) e after.clauses.outer (clauses_count w bs o after) h

pub owner_known : (w : OwnerScope) (scope : ClauseScope) (bs : List SpecTree) (b : SpecTree) (old : Owner) (target : Target) → scope ≡ w.scope → IsOwnerAfter w bs old → AddedClauses scope (placed_in b) old.target target → HasUnknownInBlock w bs b → ⊥
owner_known w scope bs b old target e after added h =
    known_clauses scope old.target.outer (length old.target.clauses) (placed_in b) added.more added.are
    (same_unknown (placed_in b) (sym e) (sym after.clauses.outer) (sym (clauses_count w bs old after)) h)

-- ---- all owners

pub owners_count : (blocks : ℕ → List SpecTree) (n : ℕ) (ws : List OwnerScope) (os : List Owner) → AreOwnersFrom blocks n ws os → length ws ≡ length os
owners_count blocks n [] [] a = refl
owners_count blocks n [] (o ∷ os) a = absurd a
owners_count blocks n (w ∷ ws) [] a = absurd a
owners_count blocks n (w ∷ ws) (o ∷ os) a = ap suc (owners_count blocks (n + 1) ws os a.1)

pub owners_same : (blocks others : ℕ → List SpecTree) (n : ℕ) (ws : List OwnerScope) (os : List Owner) → ((m : ℕ) → blocks m ≡ others m) → AreOwnersFrom blocks n ws os → AreOwnersFrom others n ws os
owners_same blocks others n [] [] e a = tt
owners_same blocks others n [] (o ∷ os) e a = a
owners_same blocks others n (w ∷ ws) [] e a = a
owners_same blocks others n (w ∷ ws) (o ∷ os) e a =
    (subst (λ bs. IsOwnerAfter w bs o) (e n) a.0, owners_same blocks others (n + 1) ws os e a.1)

pub owners_snoc : (blocks : ℕ → List SpecTree) (n : ℕ) (ws : List OwnerScope) (os : List Owner) (w : OwnerScope) (o : Owner) → AreOwnersFrom blocks n ws os → IsOwnerAfter w (blocks (n + length ws)) o → AreOwnersFrom blocks n (ws ++ w ∷ []) (os ++ o ∷ [])
owners_snoc blocks n [] [] w o a h = let e : n + 0 ≡ n = omega arith in (subst (λ m. IsOwnerAfter w (blocks m) o) e h, tt)
owners_snoc blocks n [] (p ∷ os) w o a h = absurd a
owners_snoc blocks n (v ∷ ws) [] w o a h = absurd a
owners_snoc blocks n (v ∷ ws) (p ∷ os) w o a h =
    let e : n + length (v ∷ ws) ≡ (n + 1) + length ws = omega arith in
    (a.0, owners_snoc blocks (n + 1) ws os w o a.1 (subst (λ m. IsOwnerAfter w (blocks m) o) e h))

-- the owner with index k
pub owner_at : (blocks : ℕ → List SpecTree) (n : ℕ) (ws : List OwnerScope) (os : List Owner) (k : ℕ) (d : OwnerScope) (o : Owner) → AreOwnersFrom blocks n ws os → k < length os → o ≡ get_or os k o → IsOwnerAfter (get_or ws k d) (blocks (n + k)) o
owner_at blocks n ws [] k d o a h e = absurd (omega (arith, h))
owner_at blocks n [] (p ∷ os) k d o a h e = absurd a
owner_at blocks n (w ∷ ws) (p ∷ os) zero d o a h e =
    let f : n + 0 ≡ n = omega arith in subst (λ m. IsOwnerAfter w (blocks m) o) (sym f) (subst (λ x. IsOwnerAfter w (blocks n) x) (sym e) a.0)
owner_at blocks n (w ∷ ws) (p ∷ os) (suc k) d o a h e =
    let f : (n + 1) + k ≡ n + suc k = omega arith in
    subst (λ m. IsOwnerAfter (get_or ws k d) (blocks m) o) f (owner_at blocks (n + 1) ws os k d o a.1 (omega (arith, h)) e)

-- the owners after index k have no more blocks
owners_behind : (blocks others : ℕ → List SpecTree) (n : ℕ) (ws : List OwnerScope) (os : List Owner) (k : ℕ) → k < n → ((m : ℕ) → m ≢ k → blocks m ≡ others m) → AreOwnersFrom blocks n ws os → AreOwnersFrom others n ws os
owners_behind blocks others n [] [] k h e a = tt
owners_behind blocks others n [] (o ∷ os) k h e a = a
owners_behind blocks others n (w ∷ ws) [] k h e a = a
owners_behind blocks others n (w ∷ ws) (o ∷ os) k h e a =
    (subst (λ bs. IsOwnerAfter w bs o) (e n (λ r. absurd (omega (arith, r)))) a.0, owners_behind blocks others (n + 1) ws os k (omega arith) e a.1)

-- only the owner with index k has one more block
pub owners_set : (blocks others : ℕ → List SpecTree) (n : ℕ) (ws : List OwnerScope) (os : List Owner) (k : ℕ) (d : OwnerScope) (o : Owner) → AreOwnersFrom blocks n ws os → k < length os → ((m : ℕ) → m ≢ n + k → blocks m ≡ others m) → IsOwnerAfter (get_or ws k d) (others (n + k)) o → AreOwnersFrom others n ws (set os k o)
owners_set blocks others n ws [] k d o a h e f = absurd (omega (arith, h))
owners_set blocks others n [] (p ∷ os) k d o a h e f = absurd a
owners_set blocks others n (w ∷ ws) (p ∷ os) zero d o a h e f =
    let g : n + 0 ≡ n = omega arith in
    (subst (λ m. IsOwnerAfter w (others m) o) g f, owners_behind blocks others (n + 1) ws os n (omega arith) (λ m q. e m (λ r. q (r ∙ g))) a.1)
owners_set blocks others n (w ∷ ws) (p ∷ os) (suc k) d o a h e f =
    let g : n + suc k ≡ (n + 1) + k = omega arith in (
      subst (λ bs. IsOwnerAfter w bs p) (e n (λ r. absurd (omega (arith, r)))) a.0,
      owners_set blocks others (n + 1) ws os k d o a.1 (omega (arith, h)) (λ m q. e m (λ r. q (r ∙ g))) (subst (λ m. IsOwnerAfter (get_or ws k d) (others m) o) g f),
    )
