-- Type variables that have a rank so far: 0 is none.
use Rattle.std.specs.Prelude.{◌≡◌, ℕ, zero, suc, ◌+◌, ◌<◌, ◌≤◌, List, length, slice_index, sum_by}
use Rattle.unification.specs.Slots.{slot_at}
use Rattle.unification.specs.Ranks.{EachLed, IsRank}
use Rattle.unification.specs.declared.type_variables.slots.Slot.{Slot}

abbrev pub rank_at : List ℕ → ℕ → ℕ
rank_at ranks p = slice_index ranks p

-- the type variable has a rank, which is below this one
abbrev pub HasLower : List ℕ → ℕ → ℕ → Type 0
HasLower ranks k q = (q < length ranks) × (0 < rank_at ranks q) × (rank_at ranks q < k)

-- each type variable with a rank refers to ones of lower ranks, and the order lists them by their ranks, which count
-- from 1
pub record IsRanked (slots : List Slot) (ranks order : List ℕ) : Type 0 where
  pub same_length : length ranks ≡ length slots
  pub each : (p : ℕ) → p < length slots → 0 < rank_at ranks p → EachLed (HasLower ranks (rank_at ranks p)) (slot_at slots p)
  pub most : (p : ℕ) → p < length slots → rank_at ranks p ≤ length order
  pub listed : (k : ℕ) → k < length order → (slice_index order k < length slots) × (rank_at ranks (slice_index order k) ≡ k + 1)
  pub placed : (p k : ℕ) → p < length slots → rank_at ranks p ≡ k + 1 → slice_index order k ≡ p

-- all type variables have ranks above those that they refer to, and are listed in their order
pub record IsRanking (slots : List Slot) (ranks order : List ℕ) : Type 0 where
  pub ranked : IsRanked slots ranks order
  pub all : (p : ℕ) → p < length slots → 0 < rank_at ranks p
  pub is_rank : IsRank slots (rank_at ranks)

abbrev pub left : ℕ → ℕ
left zero = 1
left (suc n) = 0

-- the number of type variables without a rank
abbrev pub unranked : List ℕ → ℕ
unranked ranks = sum_by left ranks
