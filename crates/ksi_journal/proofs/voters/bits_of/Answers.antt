use Rattle.std.proofs.Common.{◌≡◌, sym, ap, ◌∙◌, arith, refl}
use Rattle.std.specs.List.{filter}
use Rattle.ksi_synod.specs.Voters.{cores_below, is_voter}
use Rattle.ksi_journal.specs.Voters.{bits_of}
use Rattle.ksi_journal.proofs.Bits.{bits_in, bits_out, power_next, power_small}
use Rattle.ksi_journal.proofs.voters.bits_of.Goals as goal
use Rattle.ksi_journal.proofs.voters.bits_of.Goals.{then-contains, else-contains}

pub loop-core-init : goal.loop-core-init
unfolding bits_of
loop-core-init c = record { bits = refl; small = omega arith }

pub loop-core-preserved : goal.loop-core-preserved
loop-core-preserved c =
    let p = is_voter c.args.voters.now in
    let core = c.loop-core.core in
    let low = power_small core (omega arith) in
    let more = power_next core in
    elim c.if-contains.branch [
      | then-contains w ↦
          let next = bits_in p core (sym c.contains.ensures ∙ w.if-contains.true) in
          let so = c.loop-core.invariant.bits in
          record { bits = (let e = w.bits-is in omega (arith, e, so, next, low, more)); small = (let e = w.bits-is in let lt = c.loop-core.invariant.small in omega (arith, e, lt, low, more)) }
      | else-contains w ↦
          let next = bits_out p core (sym c.contains.ensures ∙ w.if-contains.false) in
          let so = c.loop-core.invariant.bits in
          record { bits = (let e = w.bits-is in omega (arith, e, so, next, low, more)); small = (let e = w.bits-is in let lt = c.loop-core.invariant.small in omega (arith, e, lt, low, more)) }
    ]

pub returns : goal.returns
returns c =
    let ended : c.loop-core.core ≡ 9 = omega arith in
    c.loop-core.invariant.bits ∙ ap (λ n. bits_of (filter (is_voter c.args.voters.now) (cores_below n))) ended
    ∙ ap bits_of (c.voters_are_cores.ensures.listed 9 c.args.voters.now c.requires)
