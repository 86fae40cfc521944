-- Adding one more instance, and a level of them.
use Rattle.std.proofs.Common.{◌≡◌, ℕ, zero, suc, ◌<◌, ◌≤◌, inl, inr, Bool, true, false, List, [], ◌∷◌, ◌++◌, length, Some, refl, sym, ◌∙◌, ap, subst, arith}
use Rattle.std.specs.Prelude.{◌↔◌, IsTrue, Contains, slice_get, slice_index_or}
use Rattle.std.specs.Global.{Vec}
use Rattle.std.proofs.lemmas.List.{append_assoc, append-nil}
use Rattle.std.proofs.lemmas.Bool.{cases_lt}
use Rattle.std.proofs.lemmas.Option.{slice_get_within}
use Rattle.program.specs.declared.program.Program.{Program}
use Rattle.base.specs.declared.marked_cycles.edge.MarkedEdge.{MarkedEdge}
use Rattle.base.specs.MarkedCycles.{IsEdge}
use Rattle.type_check.specs.ClausesInstances.{Instance}
use Rattle.type_check.specs.Judged.{instance_of}
use Rattle.type_check.specs.declared.clauses.instance.Instance.{Instance as IncludedInstance}
use Rattle.type_check.specs.declared.clauses.judged.JudgedClause.{JudgedClause}
use Rattle.type_check.specs.declared.clauses.judged.ClauseRule.{ClauseRule}
use Rattle.type_check.specs.declared.clauses.judged.ClauseRule.TheVariants.{Typing, Settling}
use Rattle.type_check.specs.Closed.{InstanceSays, IsAny, IsClosedLevel, IsClosedNext, IsClosedTo, Links}
use Rattle.type_check.specs.Closing.{AreJudged, AreLinked, AreReached, AreShallow, Grows, IsLeading}
use Rattle.type_check.specs.Including.{Here, Leads, InstanceBreaks, Names}
use Rattle.type_check.specs.SchemasInstances.{AreOwners, OwnerOf}
use Rattle.type_check.specs.Known.{IsKeyed, listed}
use Rattle.type_check.specs.Leading.{AreUnmarked}
use Rattle.type_check.specs.declared.schemas.closing.Closure.{Closure}
use Rattle.type_check.proofs.KeyLaws.{last_there}
use Rattle.type_check.proofs.PresentLaws.{reaches_more}
use Rattle.type_check.proofs.SchemasLists.{at_contained, contained_at, flag_before, flag_last, get_grown, get_old, last_is, length_pushed, longer, some_at, some_inside}

pub grows_not : (xs : List Instance) → Grows xs xs
grows_not xs = ([], sym (append-nil xs))

pub grows_twice : (a b c : List Instance) → Grows a b → Grows b c → Grows a c
grows_twice a b c g h = (g.0 ++ h.0, h.1 ∙ ap (λ (xs : List Instance). xs ++ h.0) g.1 ∙ append_assoc a g.0 h.0)

-- ---- one more instance

-- the judgment of one more instance
judged_more : (program : Program) (rule : ClauseRule) (old new : List Instance) (marks : List Bool) (n : ℕ) (i : Instance) (b : Bool) → Grows old new → slice_get old n ≡ Some i
    → AreJudged program rule old marks n → (IsTrue b ↔ InstanceBreaks program rule i) → AreJudged program rule new (marks ++ b ∷ []) (suc n)
judged_more program rule old new marks n i b grows at judged known = record {
  size = length_pushed marks b n judged.size;
  each = λ k j lt there.
      let within = slice_get_within old n i at in
      elim (last_is k n lt) [
        | inl below ↦
            let size = judged.size in
            subst (λ (flag : Bool). IsTrue flag ↔ InstanceBreaks program rule j) (sym (flag_before marks b k (omega (arith, below, size))))
            (judged.each k j below (get_old old new grows.0 k j grows.1 (omega (arith, below, within)) there))
        | inr here ↦
            let same : i ≡ j = some_inside i j (sym at ∙ ap (λ (m : ℕ). slice_get old m) (sym here) ∙ get_old old new grows.0 k j grows.1 (omega (arith, here, within)) there) in
            subst (λ (flag : Bool). IsTrue flag ↔ InstanceBreaks program rule j) (sym (ap (λ (m : ℕ). slice_index_or (marks ++ b ∷ []) m false) (here ∙ sym judged.size) ∙ flag_last marks b))
            (subst (λ (x : Instance). IsTrue b ↔ InstanceBreaks program rule x) same known)
      ];
}

module _ (program : Program) (old new : List Instance) (before after : List MarkedEdge) (n : ℕ) (i : Instance) (judged : List JudgedClause)
    (at : slice_get old n ≡ Some i) (says : InstanceSays program i judged) (links : Links old new before after n judged) (linked : AreLinked program old before n) where
  abbrev Included : JudgedClause → Instance → Type 0
  Included one j = (k : IncludedInstance) × (one.included ≡ Some k) × (instance_of k ≡ j)

  at_new : slice_get new n ≡ Some i
  at_new = get_grown old new links.grows.0 n i links.grows.1 at

  grown : (a b : ℕ) → IsLeading program old a b → IsLeading program new a b
  grown a b w = record {
    first = w.first;
    first_is = get_grown old new links.grows.0 a w.first links.grows.1 w.first_is;
    next = w.next;
    next_is = get_grown old new links.grows.0 b w.next links.grows.1 w.next_is;
    leads = w.leads;
  }

  sound_more : (a b : ℕ) → IsEdge after a b false → IsLeading program new a b
  sound_more a b e = elim (links.only a b false e) [
    | inl stood ↦ grown a b (linked.sound a b stood)
    | inr one ↦
        let w = one.2 in
        let k = w.2.0 in
        record {
          first = i;
          first_is = ap (λ (m : ℕ). slice_get new m) one.0 ∙ at_new;
          next = instance_of k;
          next_is = w.2.2;
          leads = (says.leads (instance_of k)).0 (w.0, w.1, (k, w.2.1, refl));
        }
  ]

  unmarked_more : AreUnmarked after
  unmarked_more a b e = elim (links.only a b true e) [
    | inl stood ↦ linked.unmarked a b stood
    | inr one ↦ (let f : true ≡ false = one.1 in cc)
  ]

  closed_more : (a : ℕ) (x j : Instance) → a < suc n → slice_get new a ≡ Some x → Leads program x j → (m : ℕ) × ((slice_get new m ≡ Some j) × IsEdge after a m false)
  closed_more a x j lt there leads = elim (last_is a n lt) [
    | inl below ↦
        let within = slice_get_within old n i at in
        let w = linked.closed a x j below (get_old old new links.grows.0 a x links.grows.1 (omega (arith, below, within)) there) leads in
        (w.0, (get_grown old new links.grows.0 w.0 j links.grows.1 w.1.0, links.stays a w.0 false w.1.1))
    | inr here ↦
        let same : x ≡ i = some_inside x i (sym there ∙ ap (λ (m : ℕ). slice_get new m) here ∙ at_new) in
        let w = (says.leads j).1 (subst (λ (y : Instance). Leads program y j) same leads) in
        let k = w.2.0 in
        let r = links.all w.0 k w.1 w.2.1 in
        (r.0, (r.1.0 ∙ ap (λ (y : Instance). Some y) w.2.2, subst (λ (m : ℕ). IsEdge after m r.0 false) (sym here) r.1.1))
  ]

  pub linked_more : AreLinked program new after (suc n)
  linked_more = record { unmarked = unmarked_more; sound = sound_more; closed = closed_more }

  pub added_more : (m : ℕ) (j : Instance) → length old ≤ m → slice_get new m ≡ Some j → (x : Instance) × ((slice_get old n ≡ Some x) × Leads program x j)
  added_more m j le there = (i, (at, (says.leads j).0 (links.added m j le there)))

-- the judgments of the clauses of one more instance
owners_more : (program : Program) (old new : List Instance) (judged : List (Vec JudgedClause)) (n : ℕ) (i : Instance) (of : Vec JudgedClause) → Grows old new → slice_get old n ≡ Some i
    → AreOwners program old judged n → OwnerOf program i of.items → AreOwners program new (judged ++ of ∷ []) (suc n)
owners_more program old new judged n i of grows at owners known = record {
  size = length_pushed judged of n owners.size;
  each = λ k j one lt there stands.
      let within = slice_get_within old n i at in
      let size = owners.size in
      elim (last_is k n lt) [
        | inl below ↦ owners.each k j one below (get_old old new grows.0 k j grows.1 (omega (arith, below, within)) there)
            (get_old judged (judged ++ of ∷ []) (of ∷ []) k one refl (omega (arith, below, size)) stands)
        | inr here ↦
            let same : i ≡ j = some_inside i j (sym at ∙ ap (λ (m : ℕ). slice_get old m) (sym here) ∙ get_old old new grows.0 k j grows.1 (omega (arith, here, within)) there) in
            let last : of ≡ one = some_inside of one (sym (last_there judged of) ∙ ap (λ (m : ℕ). slice_get (judged ++ of ∷ []) m) (size ∙ sym here) ∙ stands) in
            subst (λ (x : Vec JudgedClause). OwnerOf program j x.items) last (subst (λ (x : Instance). OwnerOf program x of.items) same known)
      ];
}

pub next_closed : (program : Program) (old new : Closure) (n : ℕ) (i : Instance) (judged : List JudgedClause) (of : Vec JudgedClause) (a b : Bool) → IsClosedTo program old n → slice_get (listed old.known) n ≡ Some i
    → InstanceSays program i judged → (IsTrue a ↔ IsAny (λ one. IsTrue one.is_untyped) judged) → (IsTrue b ↔ IsAny (λ one. IsTrue one.is_unsettled) judged)
    → new.untyped.items ≡ old.untyped.items ++ a ∷ [] → new.unsettled.items ≡ old.unsettled.items ++ b ∷ []
    → OwnerOf program i of.items → new.judged.items ≡ old.judged.items ++ of ∷ []
    → IsKeyed new.known → Links (listed old.known) (listed new.known) old.edges.items new.edges.items n judged → IsClosedNext program old new n
next_closed program old new n i judged of a b closed at says untyped unsettled first second owner third keyed links = record {
  closed = record {
    keyed = keyed;
    within = (let inside = slice_get_within (listed old.known) n i at in let more = longer (listed old.known) (listed new.known) links.grows.0 links.grows.1 in omega (arith, inside, more));
    untyped = subst (λ (marks : List Bool). AreJudged program Typing (listed new.known) marks (suc n)) (sym first)
        (judged_more program Typing (listed old.known) (listed new.known) old.untyped.items n i a links.grows at closed.untyped (both untyped says.untyped));
    unsettled = subst (λ (marks : List Bool). AreJudged program Settling (listed new.known) marks (suc n)) (sym second)
        (judged_more program Settling (listed old.known) (listed new.known) old.unsettled.items n i b links.grows at closed.unsettled (both unsettled says.unsettled));
    linked = linked_more program (listed old.known) (listed new.known) old.edges.items new.edges.items n i judged at says links closed.linked;
    owners = subst (λ (js : List (Vec JudgedClause)). AreOwners program (listed new.known) js (suc n)) (sym third)
        (owners_more program (listed old.known) (listed new.known) old.judged.items n i of links.grows at closed.owners owner);
  };
  grows = links.grows;
  added = added_more program (listed old.known) (listed new.known) old.edges.items new.edges.items n i judged at says links closed.linked;
}
  where
    both : {A B C : Type 0} → (A ↔ B) → (B ↔ C) → A ↔ C
    both f g = ((λ x. g.0 (f.0 x)), (λ z. f.1 (g.1 z)))

-- ---- one of the first reaches each

pub reached_not : (program : Program) (xs : List Instance) → AreReached program xs xs
reached_not program xs j there = (j, there, Here)

pub reached_next : (program : Program) (given old new : List Instance) → AreReached program given old → Grows old new
    → ((n : ℕ) (j : Instance) → length old ≤ n → slice_get new n ≡ Some j → (i : Instance) × Contains old i × Leads program i j) → AreReached program given new
reached_next program given old new reached grows added j there =
    let at = contained_at new j there in
    elim (cases_lt at.0 (length old)) [
      | inl below ↦ reached j (at_contained old at.0 j (get_old old new grows.0 at.0 j grows.1 below at.1))
      | inr over ↦
          let w = added at.0 j (omega (arith, over)) at.1 in
          let r = reached w.0 w.1 in
          (r.0, r.1, reaches_more program r.0 w.0 j r.2 w.2)
    ]

-- ---- a level

-- the first so many of a level
pub record LevelTo (program : Program) (old new : Closure) (first end number : ℕ) : Type 0 where
  pub closed : IsClosedTo program new number
  pub grows : Grows (listed old.known) (listed new.known)
  pub order : first ≤ number
  pub bound : number ≤ end
  pub added : (n : ℕ) (j : Instance) → end ≤ n → slice_get (listed new.known) n ≡ Some j
      → (m : ℕ) × ((first ≤ m) × (m < end) × ((i : Instance) × ((slice_get (listed old.known) m ≡ Some i) × Leads program i j)))

pub level_begins : (program : Program) (c : Closure) (first end : ℕ) → IsClosedTo program c first → first ≤ end → end ≡ length (listed c.known) → LevelTo program c c first end first
level_begins program c first end closed le size = record {
  closed = closed;
  grows = grows_not (listed c.known);
  order = omega arith;
  bound = le;
  added = λ n j past there. absurd (let within = slice_get_within (listed c.known) n j there in omega (arith, past, size, within));
}

pub level_goes : (program : Program) (old mid new : Closure) (first end number : ℕ) → end ≡ length (listed old.known) → number < end → LevelTo program old mid first end number → IsClosedNext program mid new number
    → LevelTo program old new first end (suc number)
level_goes program old mid new first end number size lt level next = record {
  closed = next.closed;
  grows = grows_twice (listed old.known) (listed mid.known) (listed new.known) level.grows next.grows;
  order = (let o = level.order in omega (arith, o));
  bound = omega (arith, lt);
  added = λ n j past there. elim (cases_lt n (length (listed mid.known))) [
    | inl below ↦ level.added n j past (get_old (listed mid.known) (listed new.known) next.grows.0 n j next.grows.1 below there)
    | inr over ↦
        let w = next.added n j (omega (arith, over)) there in
        let o = level.order in (
          number,
          (o, lt, (w.0, (get_old (listed old.known) (listed mid.known) level.grows.0 number w.0 level.grows.1 (omega (arith, lt, size)) w.1.0, w.1.1))),
        )
  ];
}

pub level_ends : (program : Program) (old new : Closure) (first end number : ℕ) → end ≤ number → LevelTo program old new first end number → IsClosedLevel program old new first end
level_ends program old new first end number le level = record {
  closed = subst (λ (n : ℕ). IsClosedTo program new n) (let b = level.bound in omega (arith, le, b)) level.closed;
  grows = level.grows;
  added = level.added;
}

-- ---- chains of includes end

names_of_leads : (program : Program) (i j : Instance) → Leads program i j → Names program i.schema j.schema
names_of_leads program i j l = record {
  declared = l.is_of.declared;
  lookup_is = l.is_of.lookup_is;
  clause = l.clause.clause;
  one = at_contained l.is_of.declared.clauses l.is_of.number l.clause.clause l.is_of.one;
  types = l.includes.types;
  given = l.includes.given;
  form_is = l.includes.form_is;
  found = l.includes.declared;
  found_is = l.includes.lookup_is;
}

pub shallow_next : (program : Program) (depth : ℕ) (old new : Closure) (first end : ℕ) → end ≡ length (listed old.known) → IsClosedLevel program old new first end
    → AreShallow program (suc depth) (listed old.known) first → AreShallow program depth (listed new.known) end
shallow_next program depth old new first end size level shallow = λ n j le there.
    let w = level.added n j le there in
    let i = w.1.2.0 in
    shallow w.0 i w.1.0 w.1.2.1.0 j.schema (names_of_leads program i j w.1.2.1.1)

pub none_left : (program : Program) (known : List Instance) (first : ℕ) → AreShallow program zero known first → length known ≤ first
none_left program known first shallow = elim (cases_lt first (length known)) [
  | inl below ↦ (let x = some_at known first below in absurd (shallow first x.0 (omega arith) x.1))
  | inr over ↦ omega (arith, over)
]
