-- Links with borrowed siblings.
use Rattle.std.specs.Prelude.{List, map}
use Rattle.ksi_aggtree.specs.Links.{PlainLink}
use Rattle.ksi_aggtree.specs.declared.chains.link_view.LinkView.{LinkView}

abbrev pub lent_link : LinkView → PlainLink
lent_link link = record { side = link.side; correction = link.correction; sibling = link.sibling.now; raw = link.raw }

abbrev pub lent_links : List LinkView → List PlainLink
lent_links links = map lent_link links
