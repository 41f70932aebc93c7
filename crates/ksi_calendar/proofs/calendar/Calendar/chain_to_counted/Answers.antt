use Rattle.std.proofs.Common.{◌≡◌, ◌≤◌, ℕ, ◌+◌, List, length, map, refl, ◌∙◌, sym, ap, subst, arith}
use Rattle.std.proofs.lemmas.List.{length-map, length-reverse}
use Rattle.ksi_split.specs.Ways.{way_of}
use Rattle.ksi_split.specs.declared.side.Side.{Side}
use Rattle.ksi_split.specs.Trees.{path_of}
use Rattle.ksi_split.specs.declared.tree_link.TreeLink.{TreeLink}
use Rattle.ksi_split.specs.Leaves.{leaf_at}
use Rattle.ksi_calendar.specs.Climbing.{ClimbsCalendar, calendar_join}
use Rattle.ksi_calendar.specs.Sides.{sides_from_top}
use Rattle.ksi_calendar.specs.Calendar.{Seconds, calendar_leaf, calendar_root, calendar_path}
use Rattle.ksi_calendar.proofs.calendar.Calendar.chain_to_counted.Goals as goal

sides_count : (links : List (TreeLink (List ℕ))) → length (sides_from_top links) ≡ length links
sides_count links = length-reverse (map (λ (link : TreeLink (List ℕ)). link.side) links) ∙ length-map links (λ (link : TreeLink (List ℕ)). link.side)

pub returns : goal.returns
returns g c =
    let image = g.C.Compress.image in
    let now = c.args.self.now in
    let t = c.args.t in
    let p = c.args.p in
    let is : c.from_vec.result ≡ calendar_path image now t p
    = c.from_vec.ensures ∙ c.in_ok-path_counted.ensures.path
    ∙ ap (λ (before : List ℕ). path_of (calendar_join image) (leaf_at c.self.inside.rows.start before c.self.inside.rows.items) 0 t (p + 1)) c.self.invariant
    ∙ ap (λ (seconds : Seconds). calendar_path image seconds t p) c.self.view_is in
    record {
      links = is;
      climbs = subst (λ (links : List (TreeLink (List ℕ))). ClimbsCalendar image (calendar_leaf now t) links (calendar_root image now p)) (sym is) (c.one_chain.ensures.climbs image now t p c.requires.within);
      way = ap sides_from_top is ∙ c.one_chain.ensures.way image now t p;
      few = λ below.
          let short : length (way_of t (p + 1)) ≤ 63
          = c.short_ways.ensures t (p + 1) 63 (way_of t (p + 1)) (omega (arith, below)) ((c.one_way.ensures.way t (p + 1) (way_of t (p + 1))).1 (omega (arith, c.requires.within), refl)) in
          let sides = ap (λ (sides : List Side). length sides) (ap sides_from_top is ∙ c.one_chain.ensures.way image now t p) in
          omega (arith, short, sides, sides_count c.from_vec.result);
      most = c.in_ok-path_counted.ensures.most;
      least = let count = ap length c.from_vec.ensures in omega (arith, count, c.in_ok-path_counted.ensures.least);
    }
