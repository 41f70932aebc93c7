use Rattle.std.proofs.Common.{◌∙◌, sym, ap}
use Rattle.ksi_consistency.proofs.Strings.{halves_of}
use Rattle.ksi_consistency.proofs.halves.clash_of.Goals as goal

pub returns-clause-clash : goal.returns-clause-clash
returns-clause-clash g c =
    let one = c.in_ok-text.ensures.text in
    let two = c.in_ok-text-2.ensures.text in
    record {
      strings = record {
        differ = λ e. c.requires.differ (halves_of c.args.one.now c.args.two.now c.sizes.ensures.left c.sizes-2.ensures.left c.sizes.ensures.right c.sizes-2.ensures.right (sym one ∙ e ∙ two));
        same = ap g.C.Compress.image one ∙ c.requires.same ∙ sym (ap g.C.Compress.image two);
      };
      one = c.in_ok-text.ensures.size;
      two = c.in_ok-text-2.ensures.size;
    }
