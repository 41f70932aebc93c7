use Rattle.std.proofs.Common.{refl}
use Rattle.ksi_publications.specs.Tables.{file_table}
use Rattle.ksi_publications.proofs.reader.pairs_in.Goals as goal

pub loop-item-init : goal.loop-item-init
loop-item-init c =
    let held = c.inside_is_whole.ensures file_table 0 8 c.args.rest.now refl c.requires.whole in
    rw (c.new-pairs.ensures.items, c.at-elements.ensures.exact) (refl, held.each)
