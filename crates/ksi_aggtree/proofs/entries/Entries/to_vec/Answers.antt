use Rattle.std.proofs.Common.{◌∙◌, ◌++◌, ◌∷◌, [], List, sym, ap, arith}
use Rattle.ksi_aggtree.specs.declared.entries.Entry.{Entry}
use Rattle.ksi_aggtree.proofs.Beside.{take_next}
use Rattle.ksi_aggtree.proofs.entries.Entries.to_vec.Goals as goal

pub loop-k-preserved : goal.loop-k-preserved
loop-k-preserved g c =
    let k = c.loop-k.k in
    let inv = c.loop-k.invariant in
    let entry = c.entry.result in
    record {
      items = c.push_reserved.ensures.items ∙ ap (λ (xs : List Entry). xs ++ entry ∷ []) inv.items
          ∙ sym (take_next c.args.self.now k entry c.entry.ensures);
      len = omega (arith, c.push_reserved.ensures.len, inv.len);
      room = omega (arith, c.push_reserved.ensures.capacity, inv.room);
    }
