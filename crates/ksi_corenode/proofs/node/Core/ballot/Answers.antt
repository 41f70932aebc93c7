use Rattle.std.proofs.Common.{◌≡◌, ◌↔◌, sym, subst}
use Rattle.std.specs.Prelude.{IsSome, IsNone}
use Rattle.ksi_synod.specs.Ballots.{last_round}
use Rattle.ksi_synod.specs.Rows.{greater_round}
use Rattle.ksi_synod.specs.VoteState.{VoteState}
use Rattle.ksi_signature.specs.declared.answer.Answer.TheVariants.{Unsealed, Last}
use Rattle.ksi_corenode.specs.CoreState.{CoreState, state_of}
use Rattle.ksi_corenode.proofs.Changes.{none_sealed, some_sealed}
use Rattle.ksi_corenode.proofs.node.Core.ballot.Goals as goal

pub returns-clause-unsealed : goal.returns-clause-unsealed
returns-clause-unsealed g c =
    let t = c.args.second in
    let both = none_sealed c.self.inside.seconds t in
    let words = c.try_ballot.ensures.unsealed in
    let called = c.called-answer.ensures.unsealed in
    subst (λ (core : CoreState). (c.called-answer.result.0 ≡ Unsealed) ↔ IsNone (state_of core t).sealed) c.self.view_is (
      λ e. both.0 (subst (λ (v : VoteState). IsNone v.candidate) c.vote-vote.ensures (words.0 (called.0 e))),
      λ none. called.1 (words.1 (subst (λ (v : VoteState). IsNone v.candidate) (sym c.vote-vote.ensures) (both.1 none))),
    )

pub returns-clause-last : goal.returns-clause-last
returns-clause-last g c =
    let t = c.args.second in
    let both = some_sealed c.self.inside.seconds t in
    let words = c.try_ballot.ensures.last in
    let called = c.called-answer.ensures.last in
    subst (λ (core : CoreState). (c.called-answer.result.0 ≡ Last) ↔ (IsSome (state_of core t).sealed × (greater_round (state_of core t).vote ≡ last_round))) c.self.view_is (
      λ e. let both_are = subst (λ (v : VoteState). IsSome v.candidate × (greater_round v ≡ last_round)) c.vote-vote.ensures (words.0 (called.0 e)) in (both.0 both_are.0, both_are.1),
      λ r. called.1 (words.1 (subst (λ (v : VoteState). IsSome v.candidate × (greater_round v ≡ last_round)) (sym c.vote-vote.ensures) (both.1 r.0, r.1))),
    )
