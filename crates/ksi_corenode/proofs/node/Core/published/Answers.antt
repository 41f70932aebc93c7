use Rattle.std.proofs.Common.{◌∙◌, ℕ, Option, sym, ap}
use Rattle.ksi_corenode.specs.CoreState.{held_by}
use Rattle.ksi_corenode.specs.Rows.{publish_answer, publish_where}
use Rattle.ksi_corenode.proofs.Kept.{published_root}
use Rattle.ksi_corenode.proofs.node.Core.published.Goals as goal

pub returns-in-Some : goal.returns-in-Some
returns-in-Some g c =
    let image = g.C.Compress.image in
    let now = c.args.self.now in
    let held = held_by now in
    let calendar = c.in-Ok.calendar.now in
    published_root image held now.start c.args.p calendar c.in-Some.root c.in-Ok.ensures.kept c.requires.from c.in-Ok.ensures.covered
    c.in-Ok.ensures.all (c.one_covered.ensures.root image calendar held now.start c.args.p) (sym c.root_to.ensures ∙ c.in-Some.is)

pub returns-in-Err : goal.returns-in-Err
unfolding publish_answer
returns-in-Err g c =
    let now = c.args.self.now in
    ap (λ (missing : Option ℕ). publish_where g.C.Compress.image (held_by now) now.start c.args.p missing) (sym c.in-Err.ensures.missing)
