use Rattle.std.proofs.Common.{◌≡◌, inl, inr, ℕ, ◌+◌, ◌-◌, ◌/◌, ◌<◌, ◌++◌, ◌∷◌, [], length, List, refl, sym, ap, ◌∙◌, arith, add-one, below_more, length-append}
use Rattle.ksi_split.specs.Upward.{halves, whole}
use Rattle.ksi_split.proofs.Powers.{lt_cases, eq_cases, halves_rise}
use Rattle.ksi_split.specs.Leaves.{leaf_at}
use Rattle.ksi_split.specs.Stored.{row_at, room_at, row_of}
use Rattle.ksi_split.proofs.Complete.{one_more, no_more, row_more, row_same, length-parts, node_step, leaf_before, leaf_last}
use Rattle.ksi_split.proofs.Grown.{items_added}
use Rattle.ksi_split.proofs.Rooms.{room_there}
use Rattle.ksi_split.proofs.levels.add.Goals as goal

pub loop-level-init : goal.loop-level-init
unfolding whole
loop-level-init g c = record {
  at = refl;
  node = sym (leaf_last c.args.zeros.now.start c.args.zeros.now.leaf (row_at c.args.rows.now.items 0) c.args.leaf) ∙ ap (leaf_at c.args.zeros.now.start c.args.zeros.now.leaf (row_at c.args.rows.now.items 0 ++ c.args.leaf ∷ [])) (sym c.requires.count);
  done = λ k lt. absurd (omega arith);
  rest = λ k le. refl;
  room = λ k le. refl;
  taken = λ k lt. absurd (omega arith);
}

pub part-left-requires-clause-within : goal.part-left-requires-clause-within
part-left-requires-clause-within g c =
    let k = c.loop-level.level in
    let leaf = leaf_at c.args.zeros.now.start c.args.zeros.now.leaf (row_at c.args.rows.now.items 0 ++ c.args.leaf ∷ []) in
    let few : k < 64 = omega arith in
    let row = c.put.ensures.added ∙ ap (λ (xs : List _). xs ++ c.loop-level.node ∷ []) (c.loop-level.invariant.rest k (omega arith) ∙ c.requires.row k few) in
    let count = ap length row in
    let more = length-parts g.J.Joins.joined leaf k (halves k c.args.zeros.now.start) (halves k c.args.n - halves k c.args.zeros.now.start) in
    omega (arith, count, more, length-append {A = g.row.N.Denot}, c.loop-level.invariant.at, halves_rise k c.args.zeros.now.start c.args.n (omega (arith, c.requires.count)))

pub loop-level-preserved : goal.loop-level-preserved
loop-level-preserved g c =
    let k = c.loop-level.level in
    let joined = g.J.Joins.joined in
    let leaf = leaf_at c.args.zeros.now.start c.args.zeros.now.leaf (row_at c.args.rows.now.items 0 ++ c.args.leaf ∷ []) in
    let few : k < 64 = omega arith in
    let below : k < c.args.top = omega arith in
    let row : row_at c.put.new.rows.items k ≡ row_of joined leaf c.args.zeros.now.start (c.args.n + 1) k =
    c.put.ensures.added ∙ ap (λ (xs : List _). xs ++ c.loop-level.node ∷ []) (c.loop-level.invariant.rest k (omega arith) ∙ c.requires.row k few)
    ∙ ap (λ (x : _). row_of joined leaf c.args.zeros.now.start c.args.n k ++ x ∷ []) c.loop-level.invariant.node
    ∙ sym (row_more joined leaf c.args.zeros.now.start c.args.n k (omega (arith, c.requires.count)) (one_more c.args.n c.args.top k c.requires.top (omega arith))) in
    record {
      at = ap (λ (i : ℕ). i / 2) c.loop-level.invariant.at ∙ ap (λ (i : ℕ). halves i c.args.n) (sym (add-one k));
      node = cc (
        c.join-node.ensures,
        c.part-left.ensures.part,
        c.loop-level.invariant.at,
        c.loop-level.invariant.node,
        add-one k,
        node_step joined leaf c.args.zeros.now.start c.args.zeros.now.leaf c.put.new.rows.items k c.args.n
            (leaf_before c.args.zeros.now.start c.args.zeros.now.leaf (row_at c.args.rows.now.items 0 ++ c.args.leaf ∷ [])) (omega (arith, c.requires.count)) (c.requires.top.odd k below) row,
      );
      done = below_more _ _ (λ j lt. c.put.ensures.others j (omega arith) ∙ c.loop-level.invariant.done j lt) row;
      rest = λ j le. c.put.ensures.others j (omega arith) ∙ c.loop-level.invariant.rest j (omega arith);
      room = λ j le. c.put.ensures.rooms j (omega arith) ∙ c.loop-level.invariant.room j (omega arith);
      taken = below_more _ _ (λ j lt. ap (λ (n : ℕ). n + 1) (c.put.ensures.rooms j (omega arith)) ∙ c.loop-level.invariant.taken j lt) (c.put.ensures.room ∙ c.loop-level.invariant.room k (omega arith));
    }

pub returns-clause-row : goal.returns-clause-row
returns-clause-row g c k few =
    let joined = g.J.Joins.joined in
    let leaf = leaf_at c.args.zeros.now.start c.args.zeros.now.leaf (row_at c.args.rows.now.items 0 ++ c.args.leaf ∷ []) in
    let level : c.loop-level.level ≡ c.args.top = omega (arith, c.loop-level.auto.level-end, c.loop-level-test.false) in
    elim (lt_cases k c.args.top) [
      | inl t ↦ c.put-2.ensures.others k (omega arith) ∙ c.loop-level.invariant.done k (omega arith)
      | inr w ↦ elim (eq_cases k c.args.top) [
        | inl e ↦ ap (row_at c.put-2.new.rows.items) e.1 ∙ c.put-2.ensures.added
            ∙ ap (λ (xs : List _). xs ++ c.loop-level.node ∷ []) (c.loop-level.invariant.rest c.args.top (omega arith) ∙ c.requires.row c.args.top (omega arith))
            ∙ ap (λ (x : _). row_of joined leaf c.args.zeros.now.start c.args.n c.args.top ++ x ∷ []) (c.loop-level.invariant.node ∙ ap (λ (i : ℕ). whole joined leaf i (halves i c.args.n)) level)
            ∙ sym (row_more joined leaf c.args.zeros.now.start c.args.n c.args.top (omega (arith, c.requires.count)) (one_more c.args.n c.args.top c.args.top c.requires.top (omega arith)))
            ∙ ap (row_of joined leaf c.args.zeros.now.start (c.args.n + 1)) (sym e.1)
        | inr f ↦ c.put-2.ensures.others k f.1 ∙ c.loop-level.invariant.rest k (omega arith) ∙ c.requires.row k few
            ∙ sym (row_same joined leaf c.args.zeros.now.start c.args.n k (no_more c.args.n c.args.top k c.requires.top (omega (arith, f.1))))
      ]
    ]

pub returns-clause-items : goal.returns-clause-items
returns-clause-items g c =
    items_added g.J.Joins.joined c.args.zeros.now.start c.args.zeros.now.leaf (row_at c.args.rows.now.items 0) c.args.leaf (row_at c.put-2.new.rows.items 0) c.args.n c.requires.count
    (c.requires.row 0 (omega arith)) (returns-clause-row g c 0 (omega arith))

pub put-requires-clause-at : goal.put-requires-clause-at
put-requires-clause-at g c =
    let k = c.loop-level.level in
    let there = room_there c.loop-level.rows.items k (omega (arith, c.loop-level.invariant.room k (omega arith), c.requires.room k (omega arith))) in
    omega (arith, there, c.loop-level.rows.ok.0)

pub put-requires-2-clause-at : goal.put-requires-2-clause-at
put-requires-2-clause-at g c =
    let there = room_there c.loop-level.rows.items c.args.top (omega (arith, c.loop-level.invariant.room c.args.top (omega arith), c.requires.room c.args.top (omega arith))) in
    omega (arith, there, c.loop-level.rows.ok.0)

pub returns-clause-room : goal.returns-clause-room
returns-clause-room g c k =
    let level : c.loop-level.level ≡ c.args.top = omega (arith, c.loop-level.auto.level-end, c.loop-level-test.false) in
    elim (lt_cases k c.args.top) [
      | inl t ↦ omega (arith, one_more c.args.n c.args.top k c.requires.top (omega arith), c.put-2.ensures.rooms k (omega arith), c.loop-level.invariant.taken k (omega arith))
      | inr w ↦ elim (eq_cases k c.args.top) [
        | inl e ↦ omega (
          arith,
          one_more c.args.n c.args.top c.args.top c.requires.top (omega arith),
          c.put-2.ensures.room,
          c.loop-level.invariant.room c.args.top (omega arith),
          ap (λ (i : ℕ). halves i c.args.n) e.1,
          ap (λ (i : ℕ). halves i (c.args.n + 1)) e.1,
          ap (room_at c.put-2.new.rows.items) e.1,
          ap (room_at c.args.rows.now.items) e.1,
        )
        | inr f ↦ omega (arith, no_more c.args.n c.args.top k c.requires.top (omega (arith, f.1)), c.put-2.ensures.rooms k f.1, c.loop-level.invariant.room k (omega arith))
      ]
    ]
