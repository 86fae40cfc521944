-- Reads by the classes of what is read and of the index.
use Rattle.std.proofs.Common.{◌≡◌, ◌⊎◌, inl, inr, ℕ, ◌+◌, ◌<◌, List, [], ◌∷◌, length, take, get_or, refl, sym, ap, ◌∙◌, subst}
use Rattle.std.specs.Prelude.{Contains}
use Rattle.fol.specs.declared.operators.Binary.{Binary as BinaryOperator}
use Rattle.fol.specs.FormulaData.{TermData, BinaryTerm}
use Rattle.term_pool.specs.Items.{TermItem, term_in}
use Rattle.term_pool.specs.Pools.{IsOneNumber}
use Rattle.term_pool.specs.declared.node.Node.{Node}
use Rattle.certificates.specs.BranchesBranch.{Branch, IsTerm}
use Rattle.certificates.specs.Joined.{Joined}
use Rattle.tableau.specs.PoolBranches.{BranchData, branch_in, IsOver}
use Rattle.congruence_closure.specs.Known.{BranchClassesData, class_of, AreExact}
use Rattle.base.specs.Lists.{list_in}
use Rattle.tableau.specs.Terms.{IsBranchTerm, AreClassesOf}
use Rattle.tableau.proofs.BranchLemmas.{term_number}
use Rattle.tableau.proofs.NearLemmas.{joined_of_class, class_of_joined}
use Rattle.axiom_instances.specs.Numbers.{IsBinary, term_at}
use Rattle.axiom_strategy.specs.declared.reads.Reading.{Reading}
use Rattle.axiom_strategy.specs.declared.reads.Reading.TheVariants.{OfMemory, OfVector}
use Rattle.axiom_strategy.specs.declared.reads.ReadIndex.{ReadIndex}
use Rattle.axiom_strategy.specs.Keyed.{AreListed, HasOneMore}
use Rattle.axiom_strategy.specs.Reads.{operator_of, IsReadBy, IsMember, IsReadOf, IsReadIndex, reads_in, keys_in}
use Rattle.axiom_strategy.proofs.FamilyLemmas.{in_flat_map}
use Rattle.axiom_strategy.proofs.KeyedLemmas.{none_listed, one_listed, as_listed}
use Rattle.axiom_strategy.proofs.ReadLemmas.{part_stands, the_first, the_second, binary_terms, same_parts}
use Rattle.axiom_strategy.proofs.TakenLemmas.{none_taken, taken_kept, taken_last, taken_cases, of_flat_map}

-- ---- terms by class

pub no_members : (c : BranchClassesData) → AreListed (IsMember c []) []
no_members c = none_listed (IsMember c []) (λ k x m. none_taken x m.among)

module _ (c : BranchClassesData) (xs : List ℕ) (i : ℕ) (w : i < length xs) where
  pub member_taken : {lists more : List (ℕ × List ℕ)} {class : ℕ} → class ≡ class_of c (get_or xs i 0) → AreListed (IsMember c (take i xs)) lists → HasOneMore lists more class (get_or xs i 0) → AreListed (IsMember c (take (i + 1) xs)) more
  member_taken {class = class} e h more = one_listed (IsMember c (take i xs)) (IsMember c (take (i + 1) xs)) h more (λ k x. (there k x, back k x))
    where
      there : (k x : ℕ) → IsMember c (take (i + 1) xs) k x → IsMember c (take i xs) k x ⊎ ((k ≡ class) × (x ≡ get_or xs i 0))
      there k x m = elim (taken_cases xs i 0 w x m.among) [
        | inl o ↦ inl (record { among = o; is = m.is })
        | inr s ↦ inr (sym m.is ∙ ap (class_of c) (sym s) ∙ sym e, sym s)
      ]

      back : (k x : ℕ) → IsMember c (take i xs) k x ⊎ ((k ≡ class) × (x ≡ get_or xs i 0)) → IsMember c (take (i + 1) xs) k x
      back k x (inl m) = record { among = taken_kept xs i 0 w x m.among; is = m.is }
      back k x (inr s) = record { among = subst (Contains (take (i + 1) xs)) (sym s.1) (taken_last xs i 0 w); is = ap (class_of c) s.1 ∙ sym e ∙ sym s.0 }

-- ---- reads by class

pub no_reads : (ns : List Node) (c : BranchClassesData) (reading : Reading) → AreListed (IsReadOf ns c reading []) []
no_reads ns c reading = none_listed (IsReadOf ns c reading []) (λ k x r. none_taken r.number r.among)

module _ (ns : List Node) (c : BranchClassesData) (reading : Reading) (xs : List ℕ) (i : ℕ) (w : i < length xs) where
  read_kept : (k x : ℕ) → IsReadOf ns c reading (take i xs) k x → IsReadOf ns c reading (take (i + 1) xs) k x
  read_kept k x r = record { number = r.number; among = taken_kept xs i 0 w r.number r.among; parts = r.parts; read = r.read; same_from = r.same_from; same_position = r.same_position }

  pub read_passed : {lists : List (ℕ × List ℕ)} → AreListed (IsReadOf ns c reading (take i xs)) lists → ((p : ℕ × ℕ) → IsBinary ns (operator_of reading) (get_or xs i 0) p.0 p.1 → ⊥) → AreListed (IsReadOf ns c reading (take (i + 1) xs)) lists
  read_passed h none = as_listed (IsReadOf ns c reading (take i xs)) (IsReadOf ns c reading (take (i + 1) xs)) h (λ k x. (there k x, read_kept k x))
    where
      there : (k x : ℕ) → IsReadOf ns c reading (take (i + 1) xs) k x → IsReadOf ns c reading (take i xs) k x
      there k x r = elim (taken_cases xs i 0 w r.number r.among) [
        | inl o ↦ record { number = r.number; among = o; parts = r.parts; read = r.read; same_from = r.same_from; same_position = r.same_position }
        | inr e ↦ absurd (none r.parts (subst (λ n. IsBinary ns (operator_of reading) n r.parts.0 r.parts.1) (sym e) r.read))
      ]

  pub read_taken : IsOneNumber ns → {lists more : List (ℕ × List ℕ)} (from position : ℕ) {of class : ℕ} → of ≡ class_of c from → class ≡ class_of c position → IsBinary ns (operator_of reading) (get_or xs i 0) from position → AreListed (IsReadOf ns c reading (take i xs)) lists → HasOneMore lists more of class → AreListed (IsReadOf ns c reading (take (i + 1) xs)) more
  read_taken one from position {of} {class} e f read h more = one_listed (IsReadOf ns c reading (take i xs)) (IsReadOf ns c reading (take (i + 1) xs)) h more (λ k x. (there k x, back k x))
    where
      there : (k x : ℕ) → IsReadOf ns c reading (take (i + 1) xs) k x → IsReadOf ns c reading (take i xs) k x ⊎ ((k ≡ of) × (x ≡ class))
      there k x r = elim (taken_cases xs i 0 w r.number r.among) [
        | inl o ↦ inl (record { number = r.number; among = o; parts = r.parts; read = r.read; same_from = r.same_from; same_position = r.same_position })
        | inr s ↦ (
            let again = subst (λ n. IsBinary ns (operator_of reading) n r.parts.0 r.parts.1) (sym s) r.read in
            let same = same_parts ns one (get_or xs i 0) (operator_of reading) r.parts.0 r.parts.1 from position again read in
            inr (sym r.same_from ∙ ap (class_of c) same.0 ∙ sym e, sym r.same_position ∙ ap (class_of c) same.1 ∙ sym f))
      ]

      back : (k x : ℕ) → IsReadOf ns c reading (take i xs) k x ⊎ ((k ≡ of) × (x ≡ class)) → IsReadOf ns c reading (take (i + 1) xs) k x
      back k x (inl r) = read_kept k x r
      back k x (inr s) = record { number = get_or xs i 0; among = taken_last xs i 0 w; parts = (from, position); read = read; same_from = sym e ∙ sym s.0; same_position = sym f ∙ sym s.1 }

-- ---- the terms at whose classes a term is read

module _ (ns : List Node) (one : IsOneNumber ns) (d : BranchData) (over : IsOver ns d) (c : BranchClassesData) (classes : AreClassesOf ns d c) (exact : AreExact c) (index : ReadIndex) (h : IsReadIndex ns (branch_in ns d) c index) where
  abbrev b : Branch
  b = branch_in ns d

  reads_are : (reading : Reading) → AreListed (IsReadOf ns c reading h.terms) (reads_in index reading)
  reads_are OfMemory = h.memories
  reads_are OfVector = h.vectors

  -- the numbers of a binary term and of its parts
  record IsFoundRead (o : BinaryOperator) (t u : TermData) : Type 0 where
    number : ℕ
    term : IsBranchTerm ns b number
    from : ℕ
    position : ℕ
    read : IsBinary ns o number from position
    from_term : IsBranchTerm ns b from
    position_term : IsBranchTerm ns b position
    from_is : term_at ns from ≡ t
    position_is : term_at ns position ≡ u

  found_read : (o : BinaryOperator) (t u : TermData) → IsTerm b (BinaryTerm o t u) → IsFoundRead o t u
  found_read o t u s =
      let n = term_number ns one d over (BinaryTerm o t u) s in
      let l = term_number ns one d over t (part_stands b (BinaryTerm o t u) t (the_first t (u ∷ [])) s) in
      let r = term_number ns one d over u (part_stands b (BinaryTerm o t u) u (the_second t u []) s) in
      let left : term_at ns l.number ≡ t = ap term_in l.is in
      let right : term_at ns r.number ≡ u = ap term_in r.is in
      record {
        number = n.number;
        term = n.term;
        from = l.number;
        position = r.number;
        read = record {
          whole = record { within = n.term.number.within; is = n.is ∙ (λ i. TermItem (BinaryTerm o (sym left i) (sym right i))) };
          first = record { within = l.term.number.within; is = l.is ∙ ap TermItem (sym left) };
          second = record { within = r.term.number.within; is = r.is ∙ ap TermItem (sym right) };
        };
        from_term = l.term;
        position_term = r.term;
        from_is = left;
        position_is = right;
      }

  by_read : (reading : Reading) (t k : ℕ) → IsBranchTerm ns b t → IsBranchTerm ns b k → (m u : TermData) → IsTerm b (BinaryTerm (operator_of reading) m u) → Joined b m (term_at ns t) → Joined b u (term_at ns k) → Contains (list_in (reads_in index reading) (class_of c t)) (class_of c k)
  by_read reading t k s r m u stands joined joined_key =
      let f = found_read (operator_of reading) m u stands in
      ((reads_are reading).each (class_of c t) (class_of c k)).1 (record {
        number = f.number;
        among = (h.are.each f.number).1 f.term;
        parts = (f.from, f.position);
        read = f.read;
        same_from = class_of_joined ns one d over c classes exact f.from t f.from_term s (subst (λ (v : TermData). Joined b v (term_at ns t)) (sym f.from_is) joined);
        same_position = class_of_joined ns one d over c classes exact f.position k f.position_term r (subst (λ (v : TermData). Joined b v (term_at ns k)) (sym f.position_is) joined_key);
      })

  by_class : (reading : Reading) (t k : ℕ) → IsBranchTerm ns b k → Contains (list_in (reads_in index reading) (class_of c t)) (class_of c k) → Contains (keys_in index c reading t) k
  by_class reading t k r m =
      in_flat_map (list_in index.members) (list_in (reads_in index reading) (class_of c t)) (class_of c k) k m
      ((h.members.each (class_of c k) k).1 (record { among = (h.are.each k).1 r; is = refl }))

  pub to_key : (reading : Reading) (t k : ℕ) → IsBranchTerm ns b t → IsBranchTerm ns b k → IsReadBy b reading (term_at ns t) (term_at ns k) → Contains (keys_in index c reading t) k
  to_key OfMemory t k s r g = by_class OfMemory t k r (by_read OfMemory t k s r g.memory g.position g.stands g.same_memory g.same_position)
  to_key OfVector t k s r g = by_class OfVector t k r (by_read OfVector t k s r g.vector g.position g.stands g.same_vector g.same_position)

  as_read : (reading : Reading) (m u t k : TermData) → IsTerm b (BinaryTerm (operator_of reading) m u) → Joined b m t → Joined b u k → IsReadBy b reading t k
  as_read OfMemory m u t k stands joined joined_key = record { memory = m; position = u; stands = stands; same_memory = joined; same_position = joined_key }
  as_read OfVector m u t k stands joined joined_key = record { vector = m; position = u; stands = stands; same_vector = joined; same_position = joined_key }

  pub from_key : (reading : Reading) (t k : ℕ) → IsBranchTerm ns b t → Contains (keys_in index c reading t) k → IsBranchTerm ns b k × IsReadBy b reading (term_at ns t) (term_at ns k)
  from_key reading t k s m =
      let f = of_flat_map (list_in index.members) (list_in (reads_in index reading) (class_of c t)) k m in
      let member = (h.members.each f.element k).0 f.has in
      let r = ((reads_are reading).each (class_of c t) f.element).0 f.among in
      let key = (h.are.each k).0 member.among in
      let whole = (h.are.each r.number).0 r.among in
      let terms = binary_terms whole r.read in
      let stands : IsTerm b (BinaryTerm (operator_of reading) (term_at ns r.parts.0) (term_at ns r.parts.1)) = subst (IsTerm b) (ap term_in r.read.whole.is) whole.stands in (
        key,
        as_read reading (term_at ns r.parts.0) (term_at ns r.parts.1) (term_at ns t) (term_at ns k) stands
            (joined_of_class ns one d over c classes exact r.parts.0 t terms.0 s r.same_from)
            (joined_of_class ns one d over c classes exact r.parts.1 k terms.1 key (r.same_position ∙ sym member.is)),
      )
