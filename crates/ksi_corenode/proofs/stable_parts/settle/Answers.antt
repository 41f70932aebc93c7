use Rattle.std.proofs.Common.{◌≡◌, ◌∙◌, ◌+◌, ◌<◌, ◌^◌, ℕ, length, refl, rules, sym, ap, subst, arith}
use Rattle.std.specs.Prelude.{IsSome}
use Rattle.ksi_corenode.specs.declared.stable.StablePart.{StablePart}
use Rattle.ksi_corenode.specs.Stored.{part_at, unsettled_at}
use Rattle.ksi_corenode.proofs.Settling.{behind, one_more}
use Rattle.ksi_corenode.proofs.stable_parts.settle.Goals as goal

pub settling-preserved : goal.settling-preserved
settling-preserved c =
    let start = c.args.start in
    let old = c.settling in
    let new = c.move_over.new in
    let next : c.in-Some.next ≡ start + length old.settled.parts = c.in-Some.ensures.next ∙ ap (λ (n : ℕ). start + n) (search rules) in
    let held : IsSome (part_at start old.settled.parts old.unsettled.entries (start + length old.settled.parts)).vote.held =
    subst (λ (part : StablePart). IsSome part.vote.held) (ap (unsettled_at old.unsettled.entries) next ∙ sym (behind start old.settled.parts old.unsettled.entries)) c.in-Some.ensures.held in
    record {
      at = λ u. c.move_over.ensures.at u ∙ old.invariant.at u;
      held = λ t from below. subst (λ (part : StablePart). IsSome part.vote.held) (sym (c.move_over.ensures.at t))
          (one_more (part_at start old.settled.parts old.unsettled.entries) start (length old.settled.parts) old.invariant.held held t from
          (omega (arith, below, c.move_over.ensures.settled)));
      room = c.move_over.ensures.room;
    }

pub returns-clause-settled : goal.returns-clause-settled
returns-clause-settled c =
    let start = c.args.start in
    let old = c.settling in
    record {
      each = old.invariant.held;
      next = λ inside. ap (λ (part : StablePart). part.vote.held) (behind start old.settled.parts old.unsettled.entries) ∙ ap (λ (n : ℕ). (unsettled_at old.unsettled.entries (start + n)).vote.held) (search rules) ∙ c.in_default.ensures.none refl (subst (λ (n : ℕ). start + n < 2 ^ 64) (search rules) inside);
    }
