-- Unions and merging are joins.
use Rattle.std.proofs.Common.{◌≡◌, ℕ, Option, Some, None, refl, sym, ap, subst, ◌∙◌}
use Rattle.ksi_mirror.specs.Maps.{Agree, AgreeAll, IsUnion, or_else}

module _ {A : Type 0} where
  agree_self : (o : Option A) → Agree o o
  agree_self None = tt
  agree_self (Some x) = refl

  or_self : (o : Option A) → o ≡ or_else o o
  or_self None = refl
  or_self (Some x) = refl

  pub agree_either : (o p : Option A) → Agree o p → Agree p o
  agree_either None None agree = tt
  agree_either None (Some y) agree = tt
  agree_either (Some x) None agree = tt
  agree_either (Some x) (Some y) agree = sym agree

  or_either : (o p : Option A) → Agree o p → or_else o p ≡ or_else p o
  or_either None None agree = refl
  or_either None (Some y) agree = refl
  or_either (Some x) None agree = refl
  or_either (Some x) (Some y) agree = ap Some agree

  or_assoc : (o p q : Option A) → or_else (or_else o p) q ≡ or_else o (or_else p q)
  or_assoc None p q = refl
  or_assoc (Some x) p q = refl

  -- the three agree
  agree_second : (o p q : Option A) → Agree o p → Agree (or_else o p) q → Agree p q
  agree_second None p q first second = second
  agree_second (Some x) None q first second = tt
  agree_second (Some x) (Some y) None first second = tt
  agree_second (Some x) (Some y) (Some z) first second = sym first ∙ second

  agree_on : (o p q : Option A) → Agree o p → Agree (or_else o p) q → Agree o (or_else p q)
  agree_on None p q first second = tt
  agree_on (Some x) None q first second = second
  agree_on (Some x) (Some y) q first second = first

  agree_back : (o p q : Option A) → Agree o p → Agree p q → Agree o (or_else p q) → Agree (or_else o p) q
  agree_back None p q first second all = second
  agree_back (Some x) None q first second all = all
  agree_back (Some x) (Some y) None first second all = tt
  agree_back (Some x) (Some y) (Some z) first second all = first ∙ second

  pub union_same : (f : ℕ → Option A) → IsUnion f f f
  union_same f = record { agree = λ k. agree_self (f k); both = λ k. or_self (f k) }

  pub union_either : (f g h : ℕ → Option A) → IsUnion f g h → IsUnion g f h
  union_either f g h u = record { agree = λ k. agree_either (f k) (g k) (u.agree k); both = λ k. u.both k ∙ or_either (f k) (g k) (u.agree k) }

  pub union_agree : (f g h fg : ℕ → Option A) → IsUnion f g fg → AgreeAll fg h → AgreeAll g h
  union_agree f g h fg u agree = λ k. agree_second (f k) (g k) (h k) (u.agree k) (subst (λ o. Agree o (h k)) (u.both k) (agree k))

  pub union_on : (f g h fg gh all : ℕ → Option A) → IsUnion f g fg → IsUnion g h gh → IsUnion fg h all → IsUnion f gh all
  union_on f g h fg gh all u v w = record {
    agree = λ k. subst (λ o. Agree (f k) o) (sym (v.both k)) (agree_on (f k) (g k) (h k) (u.agree k) (subst (λ o. Agree o (h k)) (u.both k) (w.agree k)));
    both = λ k. w.both k ∙ ap (λ o. or_else o (h k)) (u.both k) ∙ or_assoc (f k) (g k) (h k) ∙ ap (λ o. or_else (f k) o) (sym (v.both k));
  }

  pub union_back : (f g h fg gh all : ℕ → Option A) → IsUnion f g fg → IsUnion g h gh → IsUnion f gh all → IsUnion fg h all
  union_back f g h fg gh all u v w = record {
    agree = λ k. subst (λ o. Agree o (h k)) (sym (u.both k)) (agree_back (f k) (g k) (h k) (u.agree k) (v.agree k) (subst (λ o. Agree (f k) o) (v.both k) (w.agree k)));
    both = λ k. w.both k ∙ ap (λ o. or_else (f k) o) (v.both k) ∙ sym (or_assoc (f k) (g k) (h k)) ∙ ap (λ o. or_else o (h k)) (sym (u.both k));
  }

  agree_absorbed : (o p : Option A) → Agree o p → Agree (or_else o p) o
  agree_absorbed None None agree = tt
  agree_absorbed None (Some y) agree = tt
  agree_absorbed (Some x) p agree = refl

  or_absorbed : (o p : Option A) → or_else o p ≡ or_else (or_else o p) o
  or_absorbed None None = refl
  or_absorbed None (Some y) = refl
  or_absorbed (Some x) p = refl

  pub union_absorbs : (f g h : ℕ → Option A) → IsUnion f g h → IsUnion h f h
  union_absorbs f g h u = record {
    agree = λ k. subst (λ o. Agree o (f k)) (sym (u.both k)) (agree_absorbed (f k) (g k) (u.agree k));
    both = λ k. u.both k ∙ or_absorbed (f k) (g k) ∙ ap (λ o. or_else o (f k)) (sym (u.both k));
  }
