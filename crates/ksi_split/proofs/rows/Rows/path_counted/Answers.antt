use Rattle.std.proofs.Common.{◌≡◌, ◌≢◌, inl, inr, Some, Vec, Global, ◌+◌, ◌/◌, ◌%◌, ◌^◌, ◌<◌, ◌≤◌, length, [], ◌∷◌, refl, sym, ◌∙◌, ap, ℕ, arith, add-one, append-nil}
use Rattle.std.proofs.lemmas.List.{length-append}
use Rattle.ksi_split.specs.Upward.{node, halves, links_up, whole}
use Rattle.ksi_split.specs.declared.tree_link.TreeLink.{TreeLink}
use Rattle.ksi_split.proofs.Powers.{lt_cases, halves_rise, halves_none, halved_below, last_pair}
use Rattle.ksi_split.proofs.Upward.{path_is, links_next}
use Rattle.ksi_split.specs.Leaves.{leaf_of, Leaves}
use Rattle.ksi_split.proofs.rows.Rows.path_counted.Goals as goal
use Rattle.ksi_split.proofs.rows.Rows.path_counted.Goals.{then-t-last, else-t-last, in-Some+in_ok-push, in_default}

pub loop-level-init : goal.loop-level-init
unfolding whole node links_up
loop-level-init g c = record {
  at = refl;
  path = c.in_ok-path.ensures.items;
  border = λ lt. elim c.if-t-last.branch [ then-t-last w ↦ w.border-is ∙ ap Some w.part.ensures.part | else-t-last w ↦ absurd (omega arith) ];
  none = λ le. elim c.if-t-last.branch [ then-t-last w ↦ absurd (omega arith) | else-t-last w ↦ w.border-is ];
  cost = elim c.if-t-last.branch [ then-t-last w ↦ omega (arith, w.steps-is, w.part.ensures.cost) | else-t-last w ↦ omega (arith, w.steps-is) ];
  merged = λ e. elim c.if-t-last.branch [ then-t-last w ↦ absurd (omega arith) | else-t-last w ↦ omega (arith, w.steps-is) ];
  least = let none = ap length c.in_ok-path.ensures.items in
      elim c.if-t-last.branch [ then-t-last w ↦ omega (arith, none, w.steps-is, w.part.ensures.cost) | else-t-last w ↦ omega (arith, none, w.steps-is) ];
  read = λ lt. let none = ap length c.in_ok-path.ensures.items in
      elim c.if-t-last.branch [ then-t-last w ↦ omega (arith, none, w.steps-is, w.part.ensures.cost) | else-t-last w ↦ absurd (omega arith) ];
}

pub link_up-requires-clause-within : goal.link_up-requires-clause-within
link_up-requires-clause-within g c = omega (arith, halves_rise c.loop-level.level c.args.t c.args.last c.requires.within, c.loop-level.invariant.at)

pub raise_behind-border-requires-clause-border : goal.raise_behind-border-requires-clause-border
raise_behind-border-requires-clause-border g c lt =
    c.loop-level.invariant.border (halved_below c.args.last c.loop-level.level c.loop-level.at lt)

pub loop-level-preserved : goal.loop-level-preserved
loop-level-preserved g c =
    let joined = g.J.Joins.joined in
    let leaf = leaf_of c.args.self.now in
    let k = c.loop-level.level in
    let inv = c.loop-level.invariant in
    let within : c.loop-level.at ≤ halves k c.args.last = omega (arith, halves_rise k c.args.t c.args.last c.requires.within, inv.at) in
    let before = c.loop-level.path.items in
    let one : length c.match-link_up.path.items ≤ length before + 1 = elim c.match-link_up.branch [
      | in-Some+in_ok-push w ↦
          (let is = ap (λ (v : Vec (TreeLink g.row.N.Denot) Global). length v.items) w.path-is in
          let pushed = ap length w.in_ok-push.ensures.items in
          omega (arith, is, pushed, length-append before (w.in-Some.link ∷ [])))
      | in_default w ↦ (let is = ap (λ (v : Vec (TreeLink g.row.N.Denot) Global). length v.items) w.path-is in omega (arith, is))
    ] in
    let reads : c.loop-level.at + 1 ≢ halves k c.args.last → c.loop-level.steps + length c.match-link_up.path.items ≤ c.link_up.new.steps + length before = λ above. elim c.match-link_up.branch [
      | in-Some+in_ok-push w ↦
          (let is = ap (λ (v : Vec (TreeLink g.row.N.Denot) Global). length v.items) w.path-is in
          let pushed = ap length w.in_ok-push.ensures.items in
          omega (arith, is, pushed, length-append before (w.in-Some.link ∷ []), w.in-Some.ensures.read above))
      | in_default w ↦ (let is = ap (λ (v : Vec (TreeLink g.row.N.Denot) Global). length v.items) w.path-is in omega (arith, is, w.in_default.ensures.read above))
    ] in
    record {
      at = ap (λ (i : ℕ). i / 2) inv.at ∙ ap (λ (i : ℕ). halves i c.args.t) (sym (add-one k));
      path = elim c.match-link_up.branch [
        | in-Some+in_ok-push w ↦
            ap (λ (v : Vec (TreeLink g.row.N.Denot) Global). v.items) w.path-is ∙ w.in_ok-push.ensures.items
            ∙ links_next joined leaf c.args.last k c.args.t c.loop-level.at c.loop-level.path.items (w.in-Some.link ∷ []) inv.at inv.path w.in-Some.ensures.link
        | in_default w ↦
            ap (λ (v : Vec (TreeLink g.row.N.Denot) Global). v.items) w.path-is ∙ sym (append-nil c.loop-level.path.items)
            ∙ links_next joined leaf c.args.last k c.args.t c.loop-level.at c.loop-level.path.items [] inv.at inv.path w.in_default.ensures.link
      ];
      border = c.raise_behind-border.ensures.border;
      none = c.raise_behind-border.ensures.none;
      cost = omega (arith, c.raise_behind-border.ensures.cost, c.link_up.ensures.cost, inv.cost);
      merged = λ meet. let free = c.raise_behind-border.ensures.free (omega (arith, meet)) in
          elim (lt_cases c.loop-level.at (halves k c.args.last)) [
            | inl t ↦ (let pair = last_pair c.args.last k c.loop-level.at t.1 meet in
                omega (arith, free, c.link_up.ensures.free pair.0 pair.1, inv.cost))
            | inr f ↦ omega (arith, free, c.link_up.ensures.cost, inv.merged (omega (arith, within, f.1)))
          ];
      least = elim (lt_cases c.loop-level.at (halves k c.args.last)) [
        | inl t ↦ omega (arith, one, c.raise_behind-border.ensures.later, c.link_up.ensures.later, inv.read t.1)
        | inr f ↦ omega (arith, reads (omega (arith, f.1)), c.raise_behind-border.ensures.later, inv.least)
      ];
      read = λ lt.
          let was = inv.read (halved_below c.args.last k c.loop-level.at lt) in
          elim (lt_cases (c.loop-level.at % 2) 1) [
            | inl even ↦ (let half : halves (k + 1) c.args.last ≡ halves k c.args.last / 2 = ap (λ (j : ℕ). halves j c.args.last) (add-one k) in
                omega (arith, c.raise_behind-border.ensures.later, reads (omega (arith, lt, even.1, half)), was))
            | inr odd ↦ omega (arith, one, c.raise_behind-border.ensures.later, c.link_up.ensures.left (omega (arith, odd.1)), was)
          ];
    }

pub returns-clause-path : goal.returns-clause-path
returns-clause-path g c =
    let joined = g.J.Joins.joined in
    let leaf = leaf_of c.args.self.now in
    let level : c.loop-level.level ≡ c.levels-levels.result = omega (arith, c.loop-level.auto.level-end, c.loop-level-test.false) in
    c.loop-level.invariant.path ∙ ap (λ (k : ℕ). links_up joined leaf c.args.last k c.args.t) level ∙ sym (path_is joined leaf c.args.last c.levels-levels.result c.args.t c.requires.within c.levels-levels.ensures.enough)

pub returns-clause-cost : goal.returns-clause-cost
returns-clause-cost g c k small =
    let level : c.loop-level.level ≡ c.levels-levels.result = omega (arith, c.loop-level.auto.level-end, c.loop-level-test.false) in
    let last = halves_none c.levels-levels.result c.args.last c.levels-levels.ensures.enough in
    let t = halves_none c.levels-levels.result c.args.t (omega (arith, c.levels-levels.ensures.enough, c.requires.within)) in
    let at : halves c.loop-level.level c.args.t ≡ halves c.loop-level.level c.args.last = ap (λ (i : ℕ). halves i c.args.t) level ∙ t ∙ sym last ∙ ap (λ (i : ℕ). halves i c.args.last) (sym level) in
    omega (arith, c.levels-levels.ensures.least k small, c.loop-level.invariant.merged (c.loop-level.invariant.at ∙ at), level)

pub returns-clause-most : goal.returns-clause-most
returns-clause-most g c =
    let total = ap (λ (v : Leaves g.row.N.Denot). v.start + length v.items) c.self.view_is in
    let small : c.args.last < 2 ^ 63 = omega (arith, total, c.self.invariant.few, c.requires.covered) in
    omega (arith, returns-clause-cost g c 63 small)

pub returns-in_err-push-clause-cost : goal.returns-in_err-push-clause-cost
returns-in_err-push-clause-cost g c k small =
    let level = c.loop-level.level in
    let inv = c.loop-level.invariant in
    let levels = c.levels-levels.result in
    let least : levels ≤ k = c.levels-levels.ensures.least k small in
    let below : level < levels = omega (arith, c.loop-level-test.true) in
    let within : c.loop-level.at ≤ halves level c.args.last = omega (arith, halves_rise level c.args.t c.args.last c.requires.within, inv.at) in
    elim (lt_cases c.loop-level.at (halves level c.args.last)) [
      | inr f ↦ omega (arith, c.link_up.ensures.cost, inv.merged (omega (arith, within, f.1)), least, below)
      | inl lt ↦ elim (lt_cases (level + 1) levels) [
        | inl more ↦ omega (arith, c.link_up.ensures.cost, inv.cost, least, more.1)
        | inr top ↦ (let is : level + 1 ≡ levels = omega (arith, below, top.1) in
            let last_none : halves (level + 1) c.args.last ≡ 0 = ap (λ (i : ℕ). halves i c.args.last) is ∙ halves_none levels c.args.last c.levels-levels.ensures.enough in
            let t_none : halves (level + 1) c.args.t ≡ 0 = ap (λ (i : ℕ). halves i c.args.t) is ∙ halves_none levels c.args.t (omega (arith, c.levels-levels.ensures.enough, c.requires.within)) in
            let meet : c.loop-level.at / 2 ≡ halves (level + 1) c.args.last = ap (λ (i : ℕ). i / 2) inv.at ∙ ap (λ (i : ℕ). halves i c.args.t) (sym (add-one level)) ∙ t_none ∙ sym last_none in
            let pair = last_pair c.args.last level c.loop-level.at lt.1 meet in
            omega (arith, c.link_up.ensures.free pair.0 pair.1, inv.cost, least, below))
      ]
    ]
