use Rattle.std.proofs.Common.{◌≡◌, ◌∙◌, sym, subst, false, ℕ, suc, ◌+◌, take, arith}
use Rattle.ksi_aggregator.specs.Responses.{has_lower}
use Rattle.ksi_aggregator.proofs.Items.{lower_read, lower_next}
use Rattle.ksi_aggregator.proofs.round.has_lower.Goals as goal

pub returns-then-is_lower : goal.returns-then-is_lower
returns-then-is_lower g c = sym (lower_read c.args.entries.now c.looking.k c.entry-entry.result c.entry-entry.ensures (sym c.is_lower.ensures ∙ c.if-is_lower.true))

pub looking-preserved : goal.looking-preserved
looking-preserved g c =
    let next : suc c.looking.k ≡ c.looking.k + 1 = omega arith in
    subst (λ (n : ℕ). has_lower (take n c.args.entries.now) ≡ false) next
    (lower_next c.args.entries.now c.looking.k c.entry-entry.result c.entry-entry.ensures (sym c.is_lower.ensures ∙ c.if-is_lower.false) c.looking.invariant)
