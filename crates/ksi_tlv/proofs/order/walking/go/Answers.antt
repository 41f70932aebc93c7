use Rattle.std.proofs.Common.{rules, ◌∙◌, ◌+◌, length, sym, ap, subst}
use Rattle.ksi_tlv.specs.Walking.{Items}
use Rattle.ksi_tlv.specs.Views.{rest, view_item}
use Rattle.ksi_tlv.specs.Order.{walked}
use Rattle.ksi_tlv.specs.Sequence.{IsWanting}
use Rattle.ksi_tlv.proofs.Wanting.{wanting_here, wanting_behind, left_on}
use Rattle.ksi_tlv.proofs.order.walking.go.Goals as goal

pub returns-in-Err-clause-wanting : goal.returns-in-Err-clause-wanting
returns-in-Err-clause-wanting g c = λ e.
    let o = g.S.Ordered.order in
    let w = g.S.Ordered.wants in
    c.walking.invariant.behind (subst (λ (items : Items). IsWanting o w items c.walking.state) (sym c.in-Some.ensures.steps)
    (wanting_here o w (view_item c.in-Some.item) (rest c.next.new.self) c.walking.state (c.in-Err.ensures.wanting e)))

pub walking-preserved : goal.walking-preserved
walking-preserved g c =
    let o = g.S.Ordered.order in
    let w = g.S.Ordered.wants in
    let end = c.args.place + length c.args.bytes.now in
    record {
      left = left_on o end (view_item c.in-Some.item) (rest c.next.new.self) c.walking.state c.step.new.state c.in_default-step.ensures.exact
          ∙ ap (λ (items : Items). walked o end items c.walking.state) (sym c.in-Some.ensures.steps) ∙ c.walking.invariant.left;
      behind = λ h. c.walking.invariant.behind (subst (λ (items : Items). IsWanting o w items c.walking.state) (sym c.in-Some.ensures.steps)
          (wanting_behind o w (view_item c.in-Some.item) (rest c.next.new.self) c.walking.state c.step.new.state c.in_default-step.ensures.exact h));
    }

pub returns-else-is_whole-clause-exact : goal.returns-else-is_whole-clause-exact
unfolding walked
returns-else-is_whole-clause-exact g c = search rules
