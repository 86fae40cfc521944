-- Visibility forbids an access in a function if and only if it does at one of the nodes that are read, among the most
-- first nodes that have typings.
use Rattle.std.proofs.Common.{◌≡◌, ◌↔◌, ℕ, suc, ◌+◌, ◌-◌, ◌<◌, ◌≤◌, min, Bool, true, false, not, IsTrue, List, length, Option, Some, None, inl, inr, refl, sym, ap, subst, ◌∙◌, arith}
use Rattle.std.specs.Prelude.{slice_get}
use Rattle.std.specs.Bool.{Decides}
use Rattle.std.proofs.lemmas.Bool.{false≢true, cases_lt}
use Rattle.std.proofs.lemmas.Option.{slice_get_within}
use Rattle.base.specs.TypeData.{TypeData}
use Rattle.base.specs.declared.types.StructId.{StructId}
use Rattle.program.specs.Trees.{IsBelow}
use Rattle.program.specs.declared.arena.Node.TheVariants.{Leaf, Unary, Binary, If, Many}
use Rattle.program.specs.declared.code.Call.{Call as CallData}
use Rattle.program.specs.declared.code.Callee.{Callee}
use Rattle.program.specs.declared.code.Callee.TheVariants.{Function as plain_function, Storage, Vector as vector_callee, AddressOf}
use Rattle.program.specs.declared.code.CodeUnary.{CodeUnary}
use Rattle.program.specs.declared.code.CodeUnary.TheVariants.{Not, Dereference, Borrow, BorrowMutable, Field, Cast, Return, Abort, Loop, Discard, Declare}
use Rattle.program.specs.declared.code.CodeMany.{CodeMany}
use Rattle.program.specs.declared.code.CodeMany.TheVariants.{Call, Vector, Pack, Unpack, Tuple, TuplePattern, Block}
use Rattle.program.specs.declared.declaration.Function.{Function}
use Rattle.program.specs.declared.declaration.TypeParameter.{TypeParameter}
use Rattle.program.specs.declared.program.ModuleId.{ModuleId}
use Rattle.program.specs.declared.program.Program.{Program}
use Rattle.program.specs.Homes.{struct_home}
use Rattle.program.specs.CodeNodes.{CodeNode}
use Rattle.program.specs.StorageTypes.{TypeIsVisible}
use Rattle.unification.specs.Slots.{Typing, Meets, Fits}
use Rattle.unification.specs.Ranks.{IsRank, refill_by}
use Rattle.unification.specs.Knows.{Knows}
use Rattle.unification.specs.declared.type_variables.slots.Slot.{Slot}
use Rattle.typing_rules.specs.Answers.{System, Typings, HasTyping, NodeIsRead}
use Rattle.typing_rules.specs.CodeSystems.{function_setting, function_system}
use Rattle.typing_rules.specs.FieldBars.{BarsUse, IsJudged, first_steps}
use Rattle.typing_rules.specs.Settings.{first_argument, variable_count}
use Rattle.typing_rules.specs.Sorts.{behind, struct_in}
use Rattle.typing_rules.specs.Pools.{type_at, type_of, types}
use Rattle.typing_rules.specs.declared.type_pool.PoolType.{PoolType}
use Rattle.type_constraints.specs.Storage.{IsStorageNode}
use Rattle.type_constraints.proofs.Variables.{first_within, next_first, storage_node_arity}
use Rattle.unification.specs.Ranked.{rank_at}
use Rattle.unification.specs.Roots.{AreRoots}
use Rattle.unification.specs.Numbers.{IsNumberOf, NumberSays, TableSays, number_at}
use Rattle.unification.specs.Forced.{ForcedSays}
use Rattle.unification.specs.declared.solution.forced.Forced.{Forced}
use Rattle.unification.proofs.Refilling.{plain, plain_typing}
use Rattle.body_types.specs.Owners.{OwnerSays}
use Rattle.body_types.specs.BarredUsesKnown.{IsKnown, IsLast}
use Rattle.body_types.specs.Nodes.{CallBars, FieldBars, IsListed, NodeBars, NoneBars, SomeBars, StorageBars}
use Rattle.body_types.specs.declared.barred_uses.known.Known.{Known}
use Rattle.body_types.proofs.Steps.{fewer, last_among, still_read}

-- ---- one node

none_some : {A : Type 0} (x : A) → Some x ≡ None → ⊥
none_some x e = cc

some_same : {A : Type 0} (x y : A) → Some x ≡ Some y → x ≡ y
some_same x y e = cc

some_typing : (slots : List Slot) → ((r : ℕ → ℕ) × IsRank slots r) → (t : Typing) × Meets slots t
some_typing slots ranked = (refill_by slots (λ p. plain) ranked.0, plain_typing slots ranked.0 ranked.1)

pub no_owner : (slots : List Slot) (own : ModuleId) (base : ℕ) → OwnerSays slots base None → Decides false (FieldBars own (Meets slots) base)
no_owner slots own base says = (
  λ e. absurd (false≢true e),
  λ h. absurd (none_some h.0 (sym (h.1.0 says.0 says.1.0) ∙ says.1.1)),
)

pub an_owner : (slots : List Slot) (own : ModuleId) (base : ℕ) (owner : StructId) (is_own : Bool) → ((r : ℕ → ℕ) × IsRank slots r) → OwnerSays slots base (Some owner) →
    (IsTrue is_own ↔ (struct_home owner ≡ own)) → Decides (not is_own) (FieldBars own (Meets slots) base)
an_owner slots own base owner true ranked says h = (
  λ e. absurd (false≢true e),
  λ b. absurd (let m = some_typing slots ranked in
      let same : b.0 ≡ owner = some_same b.0 owner (sym (b.1.0 m.0 m.1) ∙ says m.0 m.1) in
      b.1.1 (ap struct_home same ∙ h.0 refl)),
)
an_owner slots own base owner false ranked says h = (
  λ e. (owner, (says, λ home. false≢true (h.1 home))),
  λ b. refl,
)

pub number_says : (slots : List Slot) (roots : List ℕ) (pool : List PoolType) (numbers : List (Option ℕ)) (p : ℕ) (found : Option ℕ) → IsListed slots roots pool numbers → p < length slots → number_at numbers p ≡ found →
    NumberSays slots pool p found
number_says slots roots pool numbers p found known lt e = subst (λ (o : Option ℕ). NumberSays slots pool p o) e (known.table.each p lt)

pub no_number : (slots : List Slot) (pool : List PoolType) (own : ModuleId) (params : List TypeParameter) (first : ℕ) → ((r : ℕ → ℕ) × IsRank slots r) → NumberSays slots pool first None →
    Decides false (StorageBars own params (Meets slots) first)
no_number slots pool own params first ranked says = (
  λ e. absurd (false≢true e),
  λ h. absurd (let m = some_typing slots ranked in says m.0 m.1 (λ t u mt mu. h.1.0 t mt ∙ sym (h.1.0 u mu))),
)

pub a_number : (slots : List Slot) (pool : List PoolType) (own : ModuleId) (params : List TypeParameter) (first number : ℕ) (entry : PoolType) (visible : Bool) → ((r : ℕ → ℕ) × IsRank slots r) → IsNumberOf slots pool first number →
    type_at (types pool) number ≡ type_of (types pool) entry → (IsTrue visible ↔ TypeIsVisible own params (type_of (types pool) entry)) → Decides (not visible) (StorageBars own params (Meets slots) first)
a_number slots pool own params first number entry true ranked is one v = (
  λ e. absurd (false≢true e),
  λ h. absurd (let m = some_typing slots ranked in
      h.1.1 (subst (λ (a : TypeData). TypeIsVisible own params a) (sym one ∙ sym (is.is m.0 m.1) ∙ h.1.0 m.0 m.1) (v.0 refl))),
)
a_number slots pool own params first number entry false ranked is one v = (
  λ e. (type_of (types pool) entry, ((λ t m. is.is t m ∙ one), λ a. false≢true (v.1 a))),
  λ h. refl,
)

-- ---- nodes

-- the type argument of a storage operation is a type variable of the system
pub storage_within : (program : Program) (f : Function) (n first variables m : ℕ) (form : CodeNode) → slice_get f.body.nodes n ≡ Some form → first ≡ first_argument (function_setting program f) n →
    variables ≡ variable_count (function_setting program f) → variables ≤ m → IsStorageNode form → first < m
storage_within program f n first variables m form stands at count longer is =
    let next = next_first program f n form stands in
    let end = first_within program f (n + 1) in
    let arity = storage_node_arity program form is in
    omega (arith, next, end, arity, at, count, longer)

pub nodes_within : (program : Program) (f : Function) → length f.body.nodes ≤ variable_count (function_setting program f)
nodes_within program f = omega arith

module _ (program : Program) (f : Function) (own : ModuleId) (params : List TypeParameter) (These : Typing → Type 0) where
  pub none_yet : NoneBars program f own params These 0
  none_yet = record { each = λ k form lt. absurd (omega (arith, lt)) }

  pub none_more : (n : ℕ) (form : CodeNode) → slice_get f.body.nodes n ≡ Some form → (NodeBars own params These (first_argument (function_setting program f) n) form → ⊥) → NoneBars program f own params These n → NoneBars program f own params These (n + 1)
  none_more n form stands clean before = record {
    each = λ k g lt at h. elim (cases_lt k n) [
      | inl less ↦ before.each k g less at h
      | inr more ↦ (
          let same : k ≡ n = omega (arith, lt, more) in
          let one : g ≡ form = some_same g form (sym (subst (λ (m : ℕ). slice_get f.body.nodes m ≡ Some g) same at) ∙ stands) in
          clean (subst (λ (y : CodeNode). NodeBars own params These (first_argument (function_setting program f) n) y) one
          (subst (λ (m : ℕ). NodeBars own params These (first_argument (function_setting program f) m) g) same h)))
    ];
  }

  pub some_at : (n read : ℕ) (form : CodeNode) → n < read → slice_get f.body.nodes n ≡ Some form → IsBelow n form → NodeBars own params These (first_argument (function_setting program f) n) form → SomeBars program f own params These read
  some_at n read form lt stands below bars = record { node = n; within = lt; at = record { form = form; stands = stands; below = below; bars = bars } }

  pub none_all : (n read : ℕ) → read ≤ n → NoneBars program f own params These n → NoneBars program f own params These read
  none_all n read le none = record { each = λ k form lt. none.each k form (omega (arith, lt, le)) }

-- the result for a node whose first type argument is known to be another number
pub node_at : (own : ModuleId) (params : List TypeParameter) (These : Typing → Type 0) (first at : ℕ) (form : CodeNode) (found : Bool) → first ≡ at → Decides found (NodeBars own params These first form) → Decides found (NodeBars own params These at form)
node_at own params These first at form found e d = subst (λ (x : ℕ). Decides found (NodeBars own params These x form)) e d

pub is_bad : (P : Type 0) (found : Bool) → found ≡ true → Decides found P → P
is_bad P found e d = d.0 e

pub is_clean : (P : Type 0) (found : Bool) → found ≡ false → Decides found P → P → ⊥
is_clean P found e d h = false≢true (sym e ∙ d.1 h)

-- ---- from slots to typings

settled_to : {A : Type 0} (slots : List Slot) (n p : ℕ) (These : Typing → Type 0) (look : TypeData → A) (x : A) → Knows slots n These → p < n → ((t : Typing) → Meets slots t → look (t p) ≡ x) → (t : Typing) → These t → look (t p) ≡ x
settled_to slots n p These look x k lt all t h = let r = k.to t h in ap look (sym (r.1.0 p lt)) ∙ all r.0 r.1.1

read_within : (steps read m n : ℕ) → read ≡ min (steps - 1) m → n < m → (steps ≤ suc n → ⊥) → n < read
read_within steps read m n e lt no_more = elim (cases_lt (suc n) steps) [
  | inl less ↦ omega (arith, e, lt, less)
  | inr more ↦ absurd (no_more more)
]

module _ (program : Program) (f : Function) (own : ModuleId) (count : ℕ) (known : Known) (read : ℕ) (k : IsKnown (first_steps (function_system program f) (suc count)) known) (is_read : read ≡ min (known.steps - 1) (length f.body.nodes)) where
  abbrev start : ℕ → ℕ
  start n = first_argument (function_setting program f) n

  abbrev AtSlots : Typing → Type 0
  AtSlots = Meets known.slots.items

  judged : (n : ℕ) → n < read → IsJudged (function_system program f) count n
  judged n lt = record { exists = k.exists; is_read = k.reads.done (suc n) (omega (arith, lt, is_read)) }

  field_found : (n a : ℕ) (name : List ℕ) → n < read → slice_get f.body.nodes n ≡ Some (Unary (Field name) a) → a < n → FieldBars own AtSlots a → BarsUse program own f
  field_found n a name lt stands below h = inl (record {
    count = count;
    node = n;
    name = name;
    base = a;
    stands = stands;
    judged = judged n lt;
    owner = h.0;
    settled = settled_to known.slots.items (variable_count (function_setting program f)) a (Typings (first_steps (function_system program f) (suc count))) (λ (x : TypeData). struct_in (behind x)) (Some h.0) k.knows
        (let inside = nodes_within program f in omega (arith, lt, is_read, below, inside)) h.1.0;
    elsewhere = h.1.1;
  })

  storage_found : (n : ℕ) (c : CallData) (parts : List ℕ) (callee : Callee) → n < read → slice_get f.body.nodes n ≡ Some (Many (Call c) parts) → c.callee ≡ callee → CallBars own f.type_parameters AtSlots (start n) callee → BarsUse program own f
  storage_found n c parts (plain_function g) lt stands is h = absurd h
  storage_found n c parts (Storage operation) lt stands is h = inr (record {
    count = count;
    node = n;
    call = c;
    parts = parts;
    stands = stands;
    operation = operation;
    callee_is = is;
    judged = judged n lt;
    of = h.0;
    settled = settled_to known.slots.items (variable_count (function_setting program f)) (start n) (Typings (first_steps (function_system program f) (suc count))) (λ (x : TypeData). x) h.0 k.knows
        (storage_within program f n (start n) (variable_count (function_setting program f)) (variable_count (function_setting program f)) (Many (Call c) parts) stands refl refl (omega arith)
        (subst (λ (x : Callee). IsStorageNode (Many (Call (record { callee = x; types = c.types })) parts)) (sym is) tt)) h.1.0;
    barred = h.1.1;
  })
  storage_found n c parts (vector_callee function) lt stands is h = absurd h
  storage_found n c parts AddressOf lt stands is h = absurd h

  form_found : (n : ℕ) (form : CodeMany) (parts : List ℕ) → n < read → slice_get f.body.nodes n ≡ Some (Many form parts) → NodeBars own f.type_parameters AtSlots (start n) (Many form parts) → BarsUse program own f
  form_found n (Call c) parts lt stands h = storage_found n c parts c.callee lt stands refl h
  form_found n (Vector ts) parts lt stands h = absurd h
  form_found n (Pack fields) parts lt stands h = absurd h
  form_found n (Unpack fields) parts lt stands h = absurd h
  form_found n Tuple parts lt stands h = absurd h
  form_found n TuplePattern parts lt stands h = absurd h
  form_found n (Block has_value) parts lt stands h = absurd h

  unary_found : (n : ℕ) (u : CodeUnary) (a : ℕ) → n < read → slice_get f.body.nodes n ≡ Some (Unary u a) → a < n → NodeBars own f.type_parameters AtSlots (start n) (Unary u a) → BarsUse program own f
  unary_found n Not a lt stands below h = absurd h
  unary_found n Dereference a lt stands below h = absurd h
  unary_found n Borrow a lt stands below h = absurd h
  unary_found n BorrowMutable a lt stands below h = absurd h
  unary_found n (Field name) a lt stands below h = field_found n a name lt stands below h
  unary_found n (Cast of) a lt stands below h = absurd h
  unary_found n Return a lt stands below h = absurd h
  unary_found n Abort a lt stands below h = absurd h
  unary_found n Loop a lt stands below h = absurd h
  unary_found n Discard a lt stands below h = absurd h
  unary_found n (Declare annotation) a lt stands below h = absurd h

  node_found : (n : ℕ) (form : CodeNode) → n < read → slice_get f.body.nodes n ≡ Some form → IsBelow n form → NodeBars own f.type_parameters AtSlots (start n) form → BarsUse program own f
  node_found n (Leaf l) lt stands below h = absurd h
  node_found n (Unary u a) lt stands below h = unary_found n u a lt stands below h
  node_found n (Binary o a b) lt stands below h = absurd h
  node_found n (If a b c) lt stands below h = absurd h
  node_found n (Many form parts) lt stands below h = form_found n form parts lt stands h

  some_use : SomeBars program f own f.type_parameters AtSlots read → BarsUse program own f
  some_use s = node_found s.node s.at.form s.within s.at.stands s.at.below s.at.bars

  -- a node that is judged with fewer nodes is read
  module _ (last : IsLast (function_system program f) count) where
    judged_read : (c n : ℕ) (form : CodeNode) → slice_get f.body.nodes n ≡ Some form → IsJudged (function_system program f) c n → n < read
    judged_read c n form stands j =
        let among = last_among (function_system program f) c count last j.exists in
        let now : NodeIsRead (first_steps (function_system program f) (suc count)) n = still_read (function_system program f) (suc c) (suc count) n among j.is_read in
        read_within known.steps read (length f.body.nodes) n is_read (slice_get_within f.body.nodes n form stands) (λ le. k.reads.left (suc n) le now)

    judged_typing : (c n : ℕ) → IsJudged (function_system program f) c n → (t : Typing) → AtSlots t → Typings (first_steps (function_system program f) (suc c)) t
    judged_typing c n j t m = fewer (function_system program f) (suc c) (suc count) t (last_among (function_system program f) c count last j.exists) (k.knows.from t m)

    none_use : NoneBars program f own f.type_parameters AtSlots read → BarsUse program own f → ⊥
    none_use none (inl b) =
        none.each b.node (Unary (Field b.name) b.base) (judged_read b.count b.node (Unary (Field b.name) b.base) b.stands b.judged) b.stands
        (b.owner, ((λ t m. b.settled t (judged_typing b.count b.node b.judged t m)), b.elsewhere))
    none_use none (inr b) =
        none.each b.node (Many (Call b.call) b.parts) (judged_read b.count b.node (Many (Call b.call) b.parts) b.stands b.judged) b.stands
        (subst (λ (x : Callee). CallBars own f.type_parameters AtSlots (start b.node) x) (sym b.callee_is)
        (b.of, ((λ t m. b.settled t (judged_typing b.count b.node b.judged t m)), b.barred)))

    pub decided_at : (found : Bool) → (found ≡ true → SomeBars program f own f.type_parameters AtSlots read) → (found ≡ false → NoneBars program f own f.type_parameters AtSlots read) → Decides found (BarsUse program own f)
    decided_at true some no_one = (λ e. some_use (some refl), λ u. refl)
    decided_at false some no_one = (λ e. absurd (false≢true e), λ u. absurd (none_use (no_one refl) u))

-- the same, with other slots and type parameters that are equal
pub decided : (program : Program) (f : Function) (own : ModuleId) (count : ℕ) (known : Known) (read : ℕ) (slots : List Slot) (params : List TypeParameter) (found : Bool) → slots ≡ known.slots.items → params ≡ f.type_parameters →
    IsKnown (first_steps (function_system program f) (suc count)) known → IsLast (function_system program f) count → read ≡ min (known.steps - 1) (length f.body.nodes) →
    (found ≡ true → SomeBars program f own params (Meets slots) read) → (found ≡ false → NoneBars program f own params (Meets slots) read) → Decides found (BarsUse program own f)
decided program f own count known read slots params found es ep k last e some no_one =
    decided_at program f own count known read k e last found
    (λ h. subst (λ (ss : List Slot). SomeBars program f own f.type_parameters (Meets ss) read) es (subst (λ (ps : List TypeParameter). SomeBars program f own ps (Meets slots) read) ep (some h)))
    (λ h. subst (λ (ss : List Slot). NoneBars program f own f.type_parameters (Meets ss) read) es (subst (λ (ps : List TypeParameter). NoneBars program f own ps (Meets slots) read) ep (no_one h)))

-- what is known of the type variables
pub given : (known : Known) (s : System) (slots : List Slot) (pool : List PoolType) (forced : Forced) (roots : List ℕ) (numbers : List (Option ℕ)) → IsKnown s known → slots ≡ known.slots.items → roots ≡ forced.roots.items → numbers ≡ forced.numbers.items →
    ForcedSays slots pool forced → IsListed slots roots pool numbers
given known s slots pool forced roots numbers k es er en says = record {
  fits = subst (λ (ss : List Slot). Fits ss) (sym es) k.knows.fits;
  roots_are = subst (λ (rs : List ℕ). AreRoots slots rs (length slots)) (sym er) says.roots_are;
  ranked = (rank_at known.ranking.ranks.items, subst (λ (ss : List Slot). IsRank ss (rank_at known.ranking.ranks.items)) (sym es) k.ranking.is_rank);
  table = subst (λ (ns : List (Option ℕ)). TableSays slots (length slots) pool ns) (sym en) says.table;
}

-- if no first nodes have typings
pub nothing_judged : (program : Program) (f : Function) (own : ModuleId) → ((c : ℕ) → HasTyping (first_steps (function_system program f) (suc c)) → ⊥) → Decides false (BarsUse program own f)
nothing_judged program f own none = (λ e. absurd (false≢true e), λ u. absurd (no_use u))
  where
    no_use : BarsUse program own f → ⊥
    no_use (inl b) = none b.count b.judged.exists
    no_use (inr b) = none b.count b.judged.exists

pub variables_longer : (known : Known) (s : System) (slots : List Slot) → IsKnown s known → slots ≡ known.slots.items → known.variables ≤ length slots
variables_longer known s slots k e = let long = k.knows.longer in let count = k.count in let same = ap length e in omega (arith, long, count, same)
