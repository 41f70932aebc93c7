use Rattle.std.proofs.Common.{map, ap, sym, subst, ◌∙◌, arith}
use Rattle.std.specs.List.{AllByRecursion}
use Rattle.ksi_imprint.specs.Imprints.{IsImprint}
use Rattle.ksi_world.specs.Histories.{world_of}
use Rattle.ksi_journal.specs.Journal.{IsVoters, IsPublication, IsSecond, RiseFrom}
use Rattle.ksi_synod.specs.CorePlans.{CorePlanState}
use Rattle.ksi_schedule.specs.Plans.{PlanState}
use Rattle.ksi_world.specs.Validity.{HasImprints}
use Rattle.ksi_replay.proofs.Lawful.{each_kept, voters_are, voters_rise, seconds_are, seconds_rise, numbers_rise, are_publications, times_rise}
use Rattle.ksi_replay.proofs.journal.journal_of.Goals as goal

pub new-requires : goal.new-requires
new-requires g c =
    let image = g.C.Compress.image in
    let w = world_of image c.args.world.now in
    let kept = c.in_ok-kept.kept in
    let published = c.in_ok-publications.ensures.same ∙ c.published.ensures.published in
    let seconds = c.into_vec-seconds.ensures in
    let plan = c.args.world.now.plan in
    let is = c.plan.ensures.limits.core_plan in
    let voters = c.in_ok-voters.ensures.items_if_clones_equal (λ x y same. same) ∙ c.voters.ensures.voters
    ∙ ap (λ (known : CorePlanState). known.voters) c.core_plan.ensures.plan ∙ ap (λ (told : PlanState). told.voters) c.plan.ensures.plan in
    let start = c.in_ok-kept.ensures.start in
    record {
      start = (let before = is.early in omega (arith, start, before));
      voters = subst (AllByRecursion IsVoters) (sym voters) (voters_are plan.cores plan.start plan.voters is.few is.early is.pairs);
      voters_rise = subst (λ xs. RiseFrom kept.start (map (λ pair. pair.second) xs)) (sym voters)
          (subst (λ from. RiseFrom from (map (λ pair. pair.second) plan.voters)) (sym start) (voters_rise plan.cores plan.start plan.voters is.pairs is.rising));
      seconds = subst (AllByRecursion (IsSecond image)) (sym seconds)
          (seconds_are image kept.seconds c.in_ok-kept.ensures.early c.in_ok-kept.ensures.trees
          (each_kept HasImprints kept.seconds (subst (AllByRecursion HasImprints) (c.deref.ensures.value ∙ seconds) c.imprints_of.ensures)));
      seconds_rise = subst (λ xs. RiseFrom kept.start (map (λ one. one.second) xs)) (sym seconds) (seconds_rise kept.start kept.seconds c.in_ok-kept.ensures.rising);
      issued = c.in_ok-issued.ensures.lawful;
      numbers_rise = subst (λ xs. RiseFrom 0 (map (λ signature. signature.0) xs)) (sym c.in_ok-issued.ensures.issued) (numbers_rise image w);
      publications = subst (AllByRecursion IsPublication) (sym published)
          (are_publications c.args.world.now.plan.start w.published c.published.ensures.rising
          (subst (AllByRecursion (λ publication. IsImprint publication.1)) published c.in_ok-publications.ensures.imprints));
      times_rise = subst (λ xs. RiseFrom 0 (map (λ publication. publication.0) xs)) (sym published)
          (times_rise c.args.world.now.plan.start _ w.published c.published.ensures.rising);
    }
