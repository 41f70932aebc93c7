use Rattle.std.proofs.Common.{◌≡◌, ◌∙◌, ℕ, List, sym, ap, subst, arith}
use Rattle.std.specs.Prelude.{IsSome}
use Rattle.ksi_corenode.specs.CoreState.{CoreState, held_by}
use Rattle.ksi_nodestore.specs.Stores.{IsFileOf}
use Rattle.ksi_forgetting.specs.Forgets.{ForgetsAs}
use Rattle.ksi_forgetting.proofs.Early.{held_early}
use Rattle.ksi_forgetting.proofs.forgetting.forget.Goals as goal

pub rewrite-requires-clause-file : goal.rewrite-requires-clause-file
rewrite-requires-clause-file g c =
    let content = g.D.Disk.content in
    let opens = c.in-Ok.ensures.opens in
    let plan = c.args.plan.now in
    let file_is : content c.into_disk.result ≡ content c.args.disk = ap content c.into_disk.ensures ∙ c.in-Ok.ensures.stays in
    record {
      facts = opens.0;
      of = subst (λ (file : List ℕ). IsFileOf c.args.me plan opens.0 file) (sym file_is) opens.1;
      held = held_early plan.start c.horizon-horizon.result opens.0 c.in-Ok.store.core (c.one_core_of_facts.ensures.stored g.C.Compress.image c.args.me plan opens.0 c.in-Ok.store.core opens.2)
          (λ t from early. subst (λ (core : CoreState). IsSome (held_by core t)) c.core.ensures (c.horizon-horizon.ensures.held t (omega (arith, from, c.start.ensures.start)) early));
    }

pub returns-in-Ok-clause-forgets : goal.returns-in-Ok-clause-forgets
returns-in-Ok-clause-forgets g c =
    let content = g.D.Disk.content in
    let file_is : content c.into_disk.result ≡ content c.args.disk = ap content c.into_disk.ensures ∙ c.in-Ok.ensures.stays in
    subst (λ (file : List ℕ). ForgetsAs c.args.me c.args.plan.now c.args.before file (g.E.Disk.content c.rewrite.new.fresh) c.rewrite.result) file_is (c.rewrite.ensures.forgets c.args.before c.horizon-horizon.ensures.sooner)
