use Rattle.std.proofs.Common.{None, Some, ◌∙◌}
use Rattle.std.proofs.lemmas.Bool.Decides.{Decides-eqb}
use Rattle.std.proofs.lemmas.Slice.Eq.{strip_prefix_is}
use Rattle.ksi_beside.proofs.Strings.{no_beginning, no_middle, ends_same}
use Rattle.ksi_beside.proofs.rung.are_cut.Goals as goal

pub returns-in-None : goal.returns-in-None
returns-in-None c =
    let none = strip_prefix_is Decides-eqb c.args.long.now c.args.short.now None c.in-None.ensures.cases in
    no_beginning c.args.short.now c.args.rest.now c.args.long.now c.args.end.now c.requires none

pub returns-in-None-strip_prefix : goal.returns-in-None-strip_prefix
returns-in-None-strip_prefix c =
    let begins = strip_prefix_is Decides-eqb c.args.long.now c.args.short.now (Some c.in-Some.middle) c.in-Some.ensures.cases in
    let none = strip_prefix_is Decides-eqb c.args.rest.now c.in-Some.middle.now None c.in-None-strip_prefix.ensures.cases in
    no_middle c.args.short.now c.args.rest.now c.args.long.now c.args.end.now c.requires c.in-Some.middle.now begins none

pub returns-in-Some-strip_prefix : goal.returns-in-Some-strip_prefix
returns-in-Some-strip_prefix c =
    let begins = strip_prefix_is Decides-eqb c.args.long.now c.args.short.now (Some c.in-Some.middle) c.in-Some.ensures.cases in
    let last = strip_prefix_is Decides-eqb c.args.rest.now c.in-Some.middle.now (Some c.in-Some-strip_prefix.last) c.in-Some-strip_prefix.ensures.cases in
    c.eq.ensures ∙ ends_same c.args.short.now c.args.rest.now c.args.long.now c.args.end.now c.requires c.in-Some.middle.now begins c.in-Some-strip_prefix.last.now last
