-- Types by their nodes.
use Rattle.std.proofs.Common.{◌≡◌, ℕ, ◌⊎◌, inl, inr, List, sym, ap, ◌∙◌, subst}
use Rattle.base.specs.TypeData.{TypeData}
use Rattle.term_pool.specs.Items.{type_in, types_in, bytes_in, leaf_item, one_item}
use Rattle.term_pool.specs.Pools.{item_at, IsMade}
use Rattle.term_pool.specs.declared.node.Leaf.{Leaf}
use Rattle.term_pool.specs.declared.node.Leaf.TheVariants.{TypeNum, TypeParam}
use Rattle.term_pool.specs.declared.node.One.{One}
use Rattle.term_pool.specs.declared.node.One.TheVariants.{TypeShared, TypeMutable, TypeTuple}
use Rattle.term_pool.specs.declared.node.Three.TheVariants.{TypeStruct}
use Rattle.term_pool.specs.declared.node.Node.{Node}
use Rattle.term_pool.specs.declared.node.Node.TheVariants.{Leaf as LeafNode, One as OneNode, Three as ThreeNode}
use Rattle.axiom_instances.specs.Numbers.{IsPlainType, IsStructType, IsOtherType, IsNum, IsParam, IsShared, IsMutable, IsTuple, type_at}

plain : {ns : List Node} {n : ℕ} {a : TypeData} → type_at ns n ≡ a → IsOtherType a → IsPlainType ns n
plain e h = record { other = subst IsOtherType (sym e) h }

module _ {ns : List Node} {n : ℕ} where
  pub leaf_plain : {h : Leaf} → IsMade ns n (LeafNode h) → (h ≡ TypeNum) ⊎ ((k : ℕ) × (h ≡ TypeParam k)) → IsPlainType ns n
  leaf_plain m (inl e) = plain (ap type_in (m.item ∙ ap leaf_item e)) IsNum
  leaf_plain m (inr p) = plain (ap type_in (m.item ∙ ap leaf_item p.1)) (IsParam p.0)

  pub one_plain : {h : One} {a : ℕ} → IsMade ns n (OneNode h a) → (h ≡ TypeShared) ⊎ ((h ≡ TypeMutable) ⊎ (h ≡ TypeTuple)) → IsPlainType ns n
  one_plain {a = a} m (inl e) = plain (ap type_in (m.item ∙ ap (λ k. one_item k (item_at ns a)) e)) (IsShared _)
  one_plain {a = a} m (inr (inl e)) = plain (ap type_in (m.item ∙ ap (λ k. one_item k (item_at ns a)) e)) (IsMutable _)
  one_plain {a = a} m (inr (inr e)) = plain (ap type_in (m.item ∙ ap (λ k. one_item k (item_at ns a)) e)) (IsTuple _)

  pub three_struct : {address a b c : ℕ} → IsMade ns n (ThreeNode (TypeStruct address) a b c) → IsStructType ns n
  three_struct {address} {a} {b} {c} m = record {
    id = record { address = address; «module» = bytes_in (item_at ns a); name = bytes_in (item_at ns b) };
    args = types_in (item_at ns c);
    is = ap type_in m.item;
  }
