use Rattle.std.proofs.Common.{◌≡◌, ◌∙◌, ◌≤◌, ℕ, length, refl, sym, ap, subst, arith}
use Rattle.std.specs.Prelude.{max, min, IfSome, false}
use Rattle.ksi_corenode.specs.Stored.{StablePartsState, part_at, part_of}
use Rattle.ksi_corenode.specs.Next.{IsNext, part_held_or_sealed}
use Rattle.ksi_corenode.proofs.Following.{so_at, parts_beside, beyond_some, beyond_none, first_next, earlier_next}
use Rattle.ksi_corenode.proofs.stable_parts.StableParts.next_beside.Goals as goal

pub returns-then-first-self-clause-next : goal.returns-then-first-self-clause-next
returns-then-first-self-clause-next c =
    let s = c.self.inside in
    subst (λ (now : StablePartsState). IfSome c.next_unsettled-next.result (IsNext (λ t. part_held_or_sealed (part_of now t)) c.args.from)) c.self.view_is
    (beyond_some (λ t. part_held_or_sealed (part_at s.start s.settled.parts s.unsettled.entries t)) (so_at s.unsettled.entries) s.start (length s.settled.parts) c.args.from
    (parts_beside s.start s.settled.parts s.unsettled.entries c.self.invariant.0.each)
    (omega (arith, c.len.ensures, c.max-first.ensures, c.if-first-self.true)) c.next_unsettled-next.result c.next_unsettled-next.ensures.next)

pub returns-then-first-self-clause-none : goal.returns-then-first-self-clause-none
returns-then-first-self-clause-none c = λ none.
    let s = c.self.inside in
    subst (λ (now : StablePartsState). (t : ℕ) → c.args.from ≤ t → part_held_or_sealed (part_of now t) ≡ false) c.self.view_is
    (beyond_none (λ t. part_held_or_sealed (part_at s.start s.settled.parts s.unsettled.entries t)) (so_at s.unsettled.entries) s.start (length s.settled.parts) c.args.from
    (parts_beside s.start s.settled.parts s.unsettled.entries c.self.invariant.0.each)
    (omega (arith, c.len.ensures, c.max-first.ensures, c.if-first-self.true)) (c.next_unsettled-next.ensures.none none))

pub returns-in-Some-clause-next : goal.returns-in-Some-clause-next
returns-in-Some-clause-next c =
    let s = c.self.inside in
    let same : min c.in-Some.t (max c.args.from s.start) ≡ c.min.result = ap (min c.in-Some.t) (sym c.max-first.ensures) ∙ sym c.min.ensures in
    subst (λ (now : StablePartsState). IsNext (λ t. part_held_or_sealed (part_of now t)) c.args.from c.min.result) c.self.view_is
    (subst (IsNext (λ t. part_held_or_sealed (part_at s.start s.settled.parts s.unsettled.entries t)) c.args.from) same
    (earlier_next (λ t. part_held_or_sealed (part_at s.start s.settled.parts s.unsettled.entries t)) (so_at s.unsettled.entries) s.start (length s.settled.parts) c.args.from
    (parts_beside s.start s.settled.parts s.unsettled.entries c.self.invariant.0.each) c.in-Some.t
    (omega (arith, c.len.ensures, c.max-first.ensures, c.if-first-self.false)) c.in-Some.ensures.next))

pub returns-in-None-clause-next : goal.returns-in-None-clause-next
returns-in-None-clause-next c =
    let s = c.self.inside in
    subst (λ (now : StablePartsState). IsNext (λ t. part_held_or_sealed (part_of now t)) c.args.from c.max-first.result) c.self.view_is
    (subst (IsNext (λ t. part_held_or_sealed (part_at s.start s.settled.parts s.unsettled.entries t)) c.args.from) (sym c.max-first.ensures)
    (first_next (λ t. part_held_or_sealed (part_at s.start s.settled.parts s.unsettled.entries t)) (so_at s.unsettled.entries) s.start (length s.settled.parts) c.args.from
    (parts_beside s.start s.settled.parts s.unsettled.entries c.self.invariant.0.each)
    (omega (arith, c.len.ensures, c.max-first.ensures, c.if-first-self.false)) (λ u behind _. c.in-None.ensures.none refl u behind)))
