use Rattle.std.proofs.Common.{◌≡◌, ◌+◌, ◌-◌, ◌++◌, ◌∙◌, List, length, sym, ap, subst, arith, append-nil}
use Rattle.std.proofs.lemmas.List.{length-replicate}
use Rattle.ksi_aggtree.specs.declared.second.Second.{Second}
use Rattle.ksi_world.specs.Keeping.{second_among, AreKnown}
use Rattle.ksi_world.specs.Records.{kept_among}
use Rattle.ksi_world.proofs.Known.{first_known, later_known}
use Rattle.ksi_world.proofs.Listed.{none_listed}
use Rattle.ksi_world.proofs.Skipping.{kept_to, kept_goes, kept_none}
use Rattle.ksi_world.proofs.kept.kept_seconds.Goals as goal

pub keeping-init : goal.keeping-init
keeping-init g c =
    let f = second_among g.C.Compress.image c.args.cores.now in
    record {
      within = omega arith;
      many = ap length c.in_ok-known.ensures ∙ length-replicate _ _;
      known = subst (AreKnown c.args.cores.now c.args.start (c.args.start + c.args.many)) (sym c.in_ok-known.ensures) (first_known c.args.cores.now c.args.start (c.args.start + c.args.many) _ (omega arith));
      left = ap (λ (xs : List Second). xs ++ kept_to f c.args.start (c.args.start + c.args.many)) c.new-kept.ensures.items;
    }

pub keeping-preserved : goal.keeping-preserved
keeping-preserved g c =
    let image = g.C.Compress.image in
    let cores = c.args.cores.now in
    let f = second_among image cores in
    let end = c.args.start + c.args.many in
    let within = c.in-Some.ensures.within in
    record {
      within = omega (arith, within.1);
      many = c.in-Some.ensures.many;
      known = later_known c.args.cores.now c.keeping.from (c.in-Some.second + 1) end c.next_below.new.known.items (omega (arith, within.0)) c.in-Some.ensures.known;
      left = ap (λ (xs : List Second). xs ++ kept_to f (c.in-Some.second + 1) end) c.in_ok-put_kept.ensures
          ∙ kept_goes f c.keeping.kept.items c.keeping.from c.in-Some.second end within.0 within.1 (none_listed image cores c.keeping.from c.in-Some.second c.in-Some.ensures.idle)
          ∙ c.keeping.invariant.left;
    }

pub returns : goal.returns
returns g c =
    let image = g.C.Compress.image in
    let cores = c.args.cores.now in
    let f = second_among image cores in
    let end = c.args.start + c.args.many in
    let items = c.keeping.kept.items in
    let all : c.args.start + c.args.many - c.args.start ≡ c.args.many = omega arith in
    sym (append-nil items)
    ∙ ap (λ (xs : List Second). items ++ xs) (sym (kept_none f c.keeping.from end c.keeping.invariant.within (none_listed image cores c.keeping.from end c.in_default.ensures.none)))
    ∙ c.keeping.invariant.left
    ∙ ap (λ n. kept_among f c.args.start n) all
