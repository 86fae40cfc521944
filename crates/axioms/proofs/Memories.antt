-- The contents of a memory after a store.
use Rattle.std.proofs.Common.{◌≡◌, Bool, true, false, cond, refl, sym, ap, ◌∙◌}
use Rattle.std.specs.declared.cmp.Ordering.{Ordering}
use Rattle.std.specs.declared.cmp.Ordering.TheVariants.{Less, Equal, Greater}
use Rattle.std.specs.Ordering.{match_ordering}
use Rattle.std.proofs.lemmas.Cmp.{tied_itself}
use Rattle.fol.specs.Val.{Val, MemoryValue, Entries, NoEntries, MoreEntries, same_value, same_value-equal, same_value_itself, compare_values, compare_values_total, compare_values-equal}
use Rattle.fol.specs.Operators.{entries_of, select_value, store_value}

-- the entries after a store
abbrev stored : Entries → Val → Val → Entries
stored es k v = entries_of (store_value (MemoryValue es) k v)

-- keys that do not compare as equal differ
not_tied : (k l : Val) (o : Ordering) → compare_values k l ≡ o → (o ≡ Equal → ⊥) → (b : Bool) → same_value k l ≡ b → b ≡ false
not_tied k l o e none true t =
    absurd (none (sym e ∙ ap (compare_values k) (sym (same_value-equal k l t)) ∙ tied_itself compare_values_total k))
not_tied k l o e none false t = refl

pub select_stored : (es : Entries) (k v : Val) → select_value (MemoryValue (stored es k v)) k ≡ v
select_stored NoEntries k v = ap (λ b. cond b v (select_value (MemoryValue NoEntries) k)) (same_value_itself k)
select_stored (MoreEntries l w es) k v = go (select_stored es k v) (compare_values k l) refl
  where
    go : select_value (MemoryValue (stored es k v)) k ≡ v → (o : Ordering) → compare_values k l ≡ o → select_value (MemoryValue (match_ordering o (MoreEntries k v (MoreEntries l w es)) (MoreEntries k v es) (MoreEntries l w (stored es k v)))) k ≡ v
    go rest Less e = ap (λ b. cond b v (select_value (MemoryValue (MoreEntries l w es)) k)) (same_value_itself k)
    go rest Equal e = ap (λ b. cond b v (select_value (MemoryValue es) k)) (same_value_itself k)
    go rest Greater e =
        let apart : same_value k l ≡ false = not_tied k l Greater e (λ t. absurd (cc)) (same_value k l) refl in
        ap (λ b. cond b w (select_value (MemoryValue (stored es k v)) k)) apart ∙ rest

turned : (k j : Val) → same_value k j ≡ false → (b : Bool) → same_value j k ≡ b → b ≡ false
turned k j d true t = sym (sym d ∙ ap (λ x. same_value x j) (sym (same_value-equal j k t)) ∙ same_value_itself j)
turned k j d false t = refl

pub select_other : (es : Entries) (k v j : Val) → same_value k j ≡ false → select_value (MemoryValue (stored es k v)) j ≡ select_value (MemoryValue es) j
select_other NoEntries k v j d =
    ap (λ b. cond b v (select_value (MemoryValue NoEntries) j)) (turned k j d (same_value j k) refl)
select_other (MoreEntries l w es) k v j d = go (select_other es k v j d) (compare_values k l) refl
  where
    apart : same_value j k ≡ false
    apart = turned k j d (same_value j k) refl

    go : select_value (MemoryValue (stored es k v)) j ≡ select_value (MemoryValue es) j → (o : Ordering) → compare_values k l ≡ o → select_value (MemoryValue (match_ordering o (MoreEntries k v (MoreEntries l w es)) (MoreEntries k v es) (MoreEntries l w (stored es k v)))) j ≡ select_value (MemoryValue (MoreEntries l w es)) j
    go rest Less e = ap (λ b. cond b v (select_value (MemoryValue (MoreEntries l w es)) j)) apart
    go rest Equal e =
        ap (λ b. cond b v (select_value (MemoryValue es) j)) apart ∙ sym (ap (λ b. cond b w (select_value (MemoryValue es) j)) (ap (same_value j) (sym (compare_values-equal k l e)) ∙ apart))
    go rest Greater e = ap (λ x. cond (same_value j l) w x) rest
