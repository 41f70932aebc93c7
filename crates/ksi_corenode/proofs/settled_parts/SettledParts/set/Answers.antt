use Rattle.std.proofs.Common.{◌≡◌, ◌∙◌, ◌≤◌, length, map, vec_len, rules, sym, ap, arith}
use Rattle.std.specs.Prelude.{slice_set}
use Rattle.std.proofs.lemmas.List.{length-map, set-append_right}
use Rattle.ksi_corenode.specs.Stored.{SettledState, bare_part}
use Rattle.ksi_corenode.proofs.settled_parts.SettledParts.set.Goals as goal

pub returns-clause-parts : goal.returns-clause-parts
returns-clause-parts c =
    let inside = c.self.inside in
    let count : length inside.roots.items ≡ vec_len inside.roots = search rules in
    let bare : vec_len inside.roots ≡ c.args.self.now.bare = ap (λ (s : SettledState). s.bare) c.self.view_is in
    let behind : c.len-bare.result ≤ c.args.place = omega (arith, c.len-bare.ensures, bare, c.requires.behind) in
    sym (set-append_right (map bare_part inside.roots.items) inside.parts.items c.len-bare.result c.args.place c.args.part.now
    (length-map inside.roots.items bare_part ∙ count ∙ sym c.len-bare.ensures) behind)
    ∙ ap (λ (s : SettledState). slice_set s.parts c.args.place c.args.part.now) c.self.view_is
