use Rattle.std.proofs.Common.{◌≡◌, ◌∙◌, ℕ, ◌++◌, List, length, Some, rules, refl, sym, ap, subst}
use Rattle.std.specs.Prelude.{◌==◌, if◌then◌else◌, IsNone}
use Rattle.ksi_aggtree.specs.declared.entries.Entry.{Entry}
use Rattle.ksi_synod.specs.VoteState.{VoteState, StableVote, stable_of}
use Rattle.ksi_corenode.specs.declared.stable.StablePart.{StablePart}
use Rattle.ksi_corenode.specs.Stored.{volatile_at, part_of, IsSealedWell}
use Rattle.ksi_corenode.specs.Restored.{sealed_second}
use Rattle.ksi_corenode.specs.CoreState.{CoreState, state_of, stable_at, IsChange}
use Rattle.ksi_corenode.proofs.Changes.{no_some, none_sealed, stays_at, written}
use Rattle.ksi_corenode.proofs.Sealing.{seal_change, sealed_part, sealed_stable, well_grown, well_sealed}
use Rattle.ksi_corenode.proofs.seconds.Seconds.seal_with.Goals as goal

pub candidate-requires : goal.candidate-requires
candidate-requires g c = record {
  unsealed = subst (λ (v : VoteState). IsNone v.candidate) (sym c.vote-vote.ensures)
      ((none_sealed c.args.self.now c.args.second).1 (no_some (state_of c.args.self.now c.args.second).sealed c.requires.unsealed));
}

pub put-requires-clause-held : goal.put-requires-clause-held
put-requires-clause-held g c root is =
    let inside = c.self.inside in
    let t = c.args.second in
    let old : CoreState = record { me = inside.me; plan = inside.plan; start = inside.stable_parts.start; bare = inside.stable_parts.bare; settled = inside.stable_parts.settled; unsettled = inside.stable_parts.unsettled; items = inside.items.items; volatile_parts = inside.volatile_parts.entries } in
    let vote_is = c.vote-vote.ensures ∙ sym (ap (λ (core : CoreState). (state_of core t).vote) c.self.view_is) in
    let stable = c.stable.ensures ∙ ap stable_of c.candidate.ensures ∙ sealed_stable old t c.vote-vote.result c.args.candidate vote_is in
    ap (λ (s : StableVote). s.held) stable ∙ sym (ap (λ (s : StablePart). s.vote.held) (c.make_place.ensures.at t)) ∙ is

pub invariant_of-self-2 : goal.invariant_of-self-2
invariant_of-self-2 g c =
    let image = g.C.Compress.image in
    let inside = c.self.inside in
    let t = c.args.second in
    let old : CoreState = record { me = inside.me; plan = inside.plan; start = inside.stable_parts.start; bare = inside.stable_parts.bare; settled = inside.stable_parts.settled; unsettled = inside.stable_parts.unsettled; items = inside.items.items; volatile_parts = inside.volatile_parts.entries } in
    let more : List Entry = c.args.items.now in
    let candidate = c.args.candidate in
    let vote_is = c.vote-vote.ensures ∙ sym (ap (λ (core : CoreState). (state_of core t).vote) c.self.view_is) in
    let stable = c.stable.ensures ∙ ap stable_of c.candidate.ensures ∙ sealed_stable old t c.vote-vote.result candidate vote_is in
    let part : StablePart = record { vote = c.stable.result; first = c.len-first.result; count = length c.args.items.now } in
    let items_is : c.extend_from_slice.new.self.items ≡ inside.items.items ++ more = c.in_ok-extend_from_slice.ensures.items in
    let first : c.len-first.result ≡ length inside.items.items = search rules in
    let part_is : part ≡ sealed_part (stable_at old t) candidate inside.items.items more =
    ap (λ (v : StableVote). with_parts v c.len-first.result (length more)) stable
    ∙ ap (λ (n : ℕ). with_parts (record (stable_at old t).vote { candidate = Some candidate }) n (length more)) first in (
      c.self.invariant.0,
      c.self.invariant.1,
      written (part_of inside.stable_parts) (part_of c.put.new.self) t part
          (λ u. c.put.ensures.at u ∙ ap (λ (s : StablePart). if u == t then part else s) (c.make_place.ensures.at u))
          (λ _ (s : StablePart). IsSealedWell image c.extend_from_slice.new.self.items s)
          (λ u. subst (λ (xs : List Entry). IsSealedWell image xs (part_of inside.stable_parts u)) (sym items_is) (well_grown image inside.items.items more (part_of inside.stable_parts u) (c.self.invariant.2 u)))
          (subst (λ (xs : List Entry). IsSealedWell image xs part) (sym items_is) (subst (λ (s : StablePart). IsSealedWell image (inside.items.items ++ more) s) (sym part_is)
          (well_sealed image inside.items.items more (stable_at old t) candidate c.requires.candidate c.requires.round))),
    )
  where
    with_parts : StableVote → ℕ → ℕ → StablePart
    with_parts v first count = record { vote = v; first = first; count = count }

pub returns-clause-change : goal.returns-clause-change
returns-clause-change g c =
    let image = g.C.Compress.image in
    let inside = c.self.inside in
    let t = c.args.second in
    let old : CoreState = record { me = inside.me; plan = inside.plan; start = inside.stable_parts.start; bare = inside.stable_parts.bare; settled = inside.stable_parts.settled; unsettled = inside.stable_parts.unsettled; items = inside.items.items; volatile_parts = inside.volatile_parts.entries } in
    let new : CoreState = record { me = inside.me; plan = inside.plan; start = c.put.new.self.start; bare = c.put.new.self.bare; settled = c.put.new.self.settled; unsettled = c.put.new.self.unsettled; items = c.extend_from_slice.new.self.items; volatile_parts = inside.volatile_parts.entries } in
    let more : List Entry = c.args.items.now in
    let candidate = c.args.candidate in
    let vote_is = c.vote-vote.ensures ∙ sym (ap (λ (core : CoreState). (state_of core t).vote) c.self.view_is) in
    let stable = c.stable.ensures ∙ ap stable_of c.candidate.ensures ∙ sealed_stable old t c.vote-vote.result candidate vote_is in
    let part : StablePart = record { vote = c.stable.result; first = c.len-first.result; count = length c.args.items.now } in
    let items_is : c.extend_from_slice.new.self.items ≡ old.items ++ more = c.in_ok-extend_from_slice.ensures.items in
    let first : c.len-first.result ≡ length old.items = search rules in
    subst (λ (core : CoreState). IsChange core new t (sealed_second image more (state_of core t))) c.self.view_is
    (seal_change image old new t part more candidate
    c.self.invariant.2 refl refl (c.put.ensures.start ∙ c.make_place.ensures.start) items_is
    (λ u. c.put.ensures.at u ∙ ap (λ (s : StablePart). if u == t then part else s) (c.make_place.ensures.at u))
    (stays_at (volatile_at old.volatile_parts) t)
    (ap (λ (v : StableVote). with_parts v c.len-first.result (length more)) stable
    ∙ ap (λ (n : ℕ). with_parts (record (stable_at old t).vote { candidate = Some candidate }) n (length more)) first)
    c.requires.candidate)
  where
    with_parts : StableVote → ℕ → ℕ → StablePart
    with_parts v first count = record { vote = v; first = first; count = count }
