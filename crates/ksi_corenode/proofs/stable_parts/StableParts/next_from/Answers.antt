use Rattle.std.proofs.Common.{length, subst, arith}
use Rattle.ksi_corenode.specs.Stored.{StablePartsState, part_at, part_of}
use Rattle.ksi_corenode.specs.Next.{IsNext, part_held_or_sealed}
use Rattle.ksi_corenode.proofs.Following.{so_at, parts_beside, here_next}
use Rattle.ksi_corenode.proofs.stable_parts.StableParts.next_from.Goals as goal

pub returns-then-from-self-clause-next : goal.returns-then-from-self-clause-next
returns-then-from-self-clause-next c =
    let s = c.self.inside in
    subst (λ (now : StablePartsState). IsNext (λ t. part_held_or_sealed (part_of now t)) c.args.from c.args.from) c.self.view_is
    (here_next (λ t. part_held_or_sealed (part_at s.start s.settled.parts s.unsettled.entries t)) (so_at s.unsettled.entries) s.start (length s.settled.parts) c.args.from
    (parts_beside s.start s.settled.parts s.unsettled.entries c.self.invariant.0.each) c.if-self-from.true (omega (arith, c.len.ensures, c.if-self-from.true, c.if-from-self.true)))
