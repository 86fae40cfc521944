-- The first span of two groups is the earlier one of their first spans.
use Rattle.std.proofs.Common.{◌⊎◌, inl, inr, Option, Some, None, sym, subst, arith}
use Rattle.std.proofs.lemmas.Bool.{cases_lt}
use Rattle.base.specs.declared.span.Span.{Span}
use Rattle.program.specs.Order.{IsBefore, IsFirstOrNone, IsEarlier}

-- where p is before r, p is before q, or q is before r
pub before_split : (p q r : Span) → IsBefore p r → IsBefore p q ⊎ IsBefore q r
before_split p q r (inl h) = elim (cases_lt p.file q.file) [
  | inl a ↦ inl (inl a)
  | inr a ↦ inr (inl (omega arith))
]
before_split p q r (inr h) =
    let f = h.0 in
    let s = h.1 in
    elim (cases_lt p.file q.file) [
      | inl a ↦ inl (inl a)
      | inr a ↦ elim (cases_lt q.file p.file) [
        | inl b ↦ inr (inl (omega arith))
        | inr b ↦ elim (cases_lt p.start q.start) [
          | inl c ↦ inl (inr (omega arith, c))
          | inr c ↦ inr (inr (omega arith, omega arith))
        ]
      ]
    ]

pub before_trans : (p q r : Span) → IsBefore p q → IsBefore q r → IsBefore p r
before_trans p q r (inl a) (inl b) = inl (omega arith)
before_trans p q r (inl a) (inr b) = (let f = b.0 in inl (omega arith))
before_trans p q r (inr a) (inl b) = (let f = a.0 in inl (omega arith))
before_trans p q r (inr a) (inr b) = (let f = a.0 in let s = a.1 in let g = b.0 in let t = b.1 in inr (omega arith, omega arith))

pub first_of_both : (P Q : Span → Type 0) (a b o : Option Span)
    → IsFirstOrNone P a → IsFirstOrNone Q b → IsEarlier a b o → IsFirstOrNone (λ p. P p ⊎ Q p) o
first_of_both P Q None None o f g e =
    subst (λ o. IsFirstOrNone (λ p. P p ⊎ Q p) o) (sym e) (λ p h. elim h [ inl x ↦ f p x | inr y ↦ g p y ])
first_of_both P Q None (Some q) o f g e =
    subst (λ o. IsFirstOrNone (λ p. P p ⊎ Q p) o) (sym e) (record {
      one = inr g.one;
      first = λ p h. elim h [ inl x ↦ absurd (f p x) | inr y ↦ g.first p y ];
    })
first_of_both P Q (Some p) None o f g e =
    subst (λ o. IsFirstOrNone (λ p. P p ⊎ Q p) o) (sym e) (record {
      one = inl f.one;
      first = λ p h. elim h [ inl x ↦ f.first p x | inr y ↦ absurd (g p y) ];
    })
first_of_both P Q (Some p) (Some q) o f g (inl e) =
    subst (λ o. IsFirstOrNone (λ p. P p ⊎ Q p) o) (sym e.1) (record {
      one = inr g.one;
      first = λ r h b. elim h [
        | inl x ↦ f.first r x (before_trans r q p b e.0)
        | inr y ↦ g.first r y b
      ];
    })
first_of_both P Q (Some p) (Some q) o f g (inr e) =
    subst (λ o. IsFirstOrNone (λ p. P p ⊎ Q p) o) (sym e.1) (record {
      one = inl f.one;
      first = λ r h b. elim h [
        | inl x ↦ f.first r x b
        | inr y ↦ elim (before_split r q p b) [
          | inl c ↦ g.first r y c
          | inr c ↦ e.0 c
        ]
      ];
    })

-- equivalent properties have the same first span
pub first_renamed : (P Q : Span → Type 0) (o : Option Span)
    → ((p : Span) → P p → Q p) → ((p : Span) → Q p → P p) → IsFirstOrNone P o → IsFirstOrNone Q o
first_renamed P Q None there back f = λ p h. f p (back p h)
first_renamed P Q (Some p) there back f = record { one = there p f.one; first = λ r h. f.first r (back r h) }
