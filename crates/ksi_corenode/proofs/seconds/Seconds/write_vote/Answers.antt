use Rattle.std.proofs.Common.{◌∙◌, Option, refl, sym, ap, subst}
use Rattle.ksi_synod.specs.VoteState.{StableVote, Hand, stable_of}
use Rattle.ksi_corenode.specs.Kept.{Keeps}
use Rattle.ksi_corenode.specs.declared.stable.StablePart.{StablePart}
use Rattle.ksi_corenode.specs.Stored.{VolatileState, part_of, volatile_at, second_of, IsSealedWell}
use Rattle.ksi_corenode.specs.CoreState.{CoreState, state_of, stable_at, held_by, IsChange}
use Rattle.ksi_corenode.proofs.Changes.{change_of, vote_put, well_same, written}
use Rattle.ksi_corenode.proofs.seconds.Seconds.write_vote.Goals as goal

pub put-requires-clause-held : goal.put-requires-clause-held
unfolding state_of second_of
put-requires-clause-held g c = λ root is.
    ap (λ s. s.held) c.stable.ensures ∙ c.requires.keeps.held root (sym (ap (λ (core : CoreState). held_by core c.args.second) c.self.view_is) ∙ is)

pub invariant_of-self : goal.invariant_of-self
unfolding state_of second_of
invariant_of-self g c =
    let inside = c.self.inside in
    let t = c.args.second in
    let well = c.self.invariant in
    let part : StablePart = record { vote = c.stable.result; first = c.part-old.result.first; count = c.part-old.result.count } in
    let part_is = c.part-old.ensures ∙ sym (ap (λ (core : CoreState). stable_at core t) c.self.view_is) in (
      well.0,
      well.1,
      written (part_of inside.stable_parts) (part_of c.put.new.self) t part c.put.ensures.at (λ _ (s : StablePart). IsSealedWell g.C.Compress.image inside.items.items s) well.2
          (well_same g.C.Compress.image inside.items.items (part_of inside.stable_parts t) part
          (ap (λ s. s.candidate) c.stable.ensures ∙ c.requires.keeps.candidate ∙ sym (ap (λ (core : CoreState). (state_of core t).vote.candidate) c.self.view_is))
          (ap (λ (s : StablePart). s.first) part_is) (ap (λ (s : StablePart). s.count) part_is) (well.2 t)),
    )

pub returns : goal.returns
returns g c =
    let inside = c.self.inside in
    let t = c.args.second in
    let vote = c.args.vote.now in
    let old : CoreState = record { me = inside.me; plan = inside.plan; start = inside.stable_parts.start; bare = inside.stable_parts.bare; settled = inside.stable_parts.settled; unsettled = inside.stable_parts.unsettled; items = inside.items.items; volatile_parts = inside.volatile_parts.entries } in
    let new : CoreState = record { me = inside.me; plan = inside.plan; start = c.put.new.self.start; bare = c.put.new.self.bare; settled = c.put.new.self.settled; unsettled = c.put.new.self.unsettled; items = inside.items.items; volatile_parts = c.put_hand.new.volatile_parts.entries } in
    let part : StablePart = record { vote = c.stable.result; first = c.part-old.result.first; count = c.part-old.result.count } in
    let part_is = c.part-old.ensures ∙ sym (ap (λ (core : CoreState). stable_at core t) c.self.view_is) in
    let volatile : VolatileState = record (volatile_at inside.volatile_parts.entries t) { hand = c.hand.result } in
    let keeps = subst (λ (core : CoreState). Keeps (state_of core t).vote vote) (sym c.self.view_is) c.requires.keeps in
    subst (λ (core : CoreState). IsChange core new t (record (state_of core t) { vote = vote })) c.self.view_is
    (change_of old new t part volatile (record (state_of old t) { vote = vote }) refl refl c.put.ensures.start refl c.put.ensures.at c.put_hand.ensures
    (vote_put old t part volatile vote keeps
    (ap (λ v. with_vote v c.part-old.result) c.stable.ensures ∙ ap (λ (s : StablePart). with_vote (stable_of vote) s) part_is)
    (ap (λ hand. with_hand hand) c.hand.ensures)))
  where
    with_vote : StableVote → StablePart → StablePart
    with_vote v s = record s { vote = v }

    with_hand : Option Hand → VolatileState
    with_hand hand = record (volatile_at c.self.inside.volatile_parts.entries c.args.second) { hand = hand }
